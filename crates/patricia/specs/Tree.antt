-- The tree as mathematics (document 01, "The pool"): "inner nodes test one bit and have two children"; "distinct addresses have one leaf each, routes
-- of one address hang together". N names an inner node and P is what a route holds; the pool keeps its places there. "The BSD end leaves are left out."
use Rattle.std.specs.Prelude.{ℕ, ◌≡◌, List, [], ◌∷◌, ◌++◌, ◌⊎◌}
use Rattle.std.proofs.Math.Option.{Option, none, some}
use Rattle.model.specs.Routes.{Route}

-- One route of a leaf: the leaf has its address.
pub record Entry (P : Type 0) : Type 0 where
  pub length : ℕ
  pub payload : P

-- A leaf with the routes of one address, or an inner node with the bit that it tests.
pub data Tree (N P : Type 0) : Type 0 where
  leaf : (address : ℕ) → List (Entry P) → Tree N P
  node : (name : N) (bit : ℕ) (left right : Tree N P) → Tree N P

-- A table's tree: none where the table holds no route.
abbrev pub Root : Type 0 → Type 0 → Type 0
Root N P = Option (Tree N P)

module _ {P : Type 0} where
  -- The route that an entry of address a is.
  abbrev pub route_of : ℕ → Entry P → Route P
  route_of a e = record { prefix = record { address = a; length = e.length }; payload = e.payload }

  -- The routes of one leaf.
  abbrev pub hung : ℕ → List (Entry P) → List (Route P)
  hung a [] = []
  hung a (e ∷ es) = route_of a e ∷ hung a es

module _ {N P : Type 0} where
  -- The routes of a tree, from left to right.
  abbrev pub routes : Tree N P → List (Route P)
  routes (leaf a es) = hung a es
  routes (node n b l r) = routes l ++ routes r

  -- The routes of a table's tree.
  abbrev pub root_routes : Root N P → List (Route P)
  root_routes none = []
  root_routes (some t) = routes t

  -- x is the address of a leaf under the tree.
  abbrev pub Under : ℕ → Tree N P → Type 0
  Under x (leaf a es) = x ≡ a
  Under x (node n b l r) = Under x l ⊎ Under x r
