-- The route is held at a place (`held_not` where it is not), and the three words of its hop are written there: `swap_done`.
use native.Mathlib.Omega.{arith}
use Rattle.pool.specs.Ipv4.{ipv4}
use Rattle.pool.proofs.Ipv4.{laid4}
use Rattle.edit.proofs.Changed.{swap_done, held_not}
use Rattle.edit.proofs.change.swap.Goals as goal

pub swap_payload-requires : goal.swap_payload-requires
swap_payload-requires c =
    let u = c.requires.fit in
    let v = c.in-Some.ensures.in_pool in
    (omega (arith, u.1, v.1), omega (arith, u.0, v.1))

pub returns-in-Some : goal.returns-in-Some
returns-in-Some c =
    let held = c.in-Some.ensures in
    λ s p. swap_done ipv4 laid4 _ _ _ s p _ _ _ held c.swap_payload.ensures

pub returns-in_default : goal.returns-in_default
returns-in_default c =
    let held = c.in_default.ensures in
    λ s p. absurd (held_not ipv4 laid4 _ _ _ s p held)
