-- The way down a tree by a destination's bits.
use Rattle.std.specs.Prelude.{ℕ, zero, suc, ◌≤◌, ◌≡◌, List, [], ◌∷◌}
use Rattle.std.proofs.Math.Option.{none, some}
use Rattle.bits.specs.Address.{bit}
use Rattle.patricia.specs.Tree.{Tree, leaf, node, Root}

-- Bit 0 goes left, bit 1 goes right.
abbrev pub toward {ℓ} : {A : Type ℓ} → ℕ → A → A → A
toward zero l r = l
toward (suc n) l r = r

module _ {N P : Type 0} where
  -- The address of the leaf that x's bits lead to.
  abbrev pub reached : ℕ → ℕ → Tree N P → ℕ
  reached W x (leaf a es) = a
  reached W x (node n b l r) = toward (bit W b x) (reached W x l) (reached W x r)

  -- How many inner nodes stand on a destination's path, from the tree alone.
  abbrev pub depth : ℕ → ℕ → Tree N P → ℕ
  depth W d (leaf a es) = 0
  depth W d (node n b l r) = suc (toward (bit W b d) (depth W d l) (depth W d r))

  -- The same for a table's tree; none has no inner node.
  abbrev pub root_depth : ℕ → ℕ → Root N P → ℕ
  root_depth W d none = 0
  root_depth W d (some t) = depth W d t

-- A step down: the name and bit of the node left behind, the side that was not taken, and which side was.
pub data Step (N P : Type 0) : Type 0 where
  went_left : N → ℕ → Tree N P → Step N P
  went_right : N → ℕ → Tree N P → Step N P

module _ {N P : Type 0} where
  -- A tree as a part and the way to it: the steps from the part up to the root, put back around the part.
  abbrev pub plug : List (Step N P) → Tree N P → Tree N P
  plug [] t = t
  plug (went_left n b r ∷ w) t = plug w (node n b t r)
  plug (went_right n b l ∷ w) t = plug w (node n b l t)

  -- The way goes by d's bits.
  abbrev pub Follows : ℕ → ℕ → List (Step N P) → Type 0
  Follows W d [] = Unit {0}
  Follows W d (went_left n b r ∷ w) = (bit W b d ≡ 0) × Follows W d w
  Follows W d (went_right n b l ∷ w) = (bit W b d ≡ 1) × Follows W d w

  -- No bit on the way comes after k.
  abbrev pub NotPast : ℕ → List (Step N P) → Type 0
  NotPast k [] = Unit {0}
  NotPast k (went_left n b r ∷ w) = (b ≤ k) × NotPast k w
  NotPast k (went_right n b l ∷ w) = (b ≤ k) × NotPast k w
