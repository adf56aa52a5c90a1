pub mod Table
pub mod Trees
pub mod Promise
pub mod Run
pub mod Demand
