-- When a tree is as document 01 says, sentence by sentence.
use Rattle.std.specs.Prelude.{ℕ, ◌<◌, ◌≡◌, true, List, [], ◌∷◌, length}
use Rattle.std.proofs.Math.Option.{none, some}
use Rattle.bits.specs.Address.{first, bit}
use Rattle.model.specs.Prefix.{well_formed}
use Rattle.patricia.specs.Tree.{Entry, Tree, leaf, node, Root, route_of, Under}

module _ {P : Type 0} where
  -- "longest first": the lengths fall strictly.
  abbrev pub Shorter : ℕ → List (Entry P) → Type 0
  Shorter n [] = Unit {0}
  Shorter n (e ∷ es) = (e.length < n) × Shorter n es

  -- Each is longer than all behind it.
  abbrev pub LongestFirst : List (Entry P) → Type 0
  LongestFirst [] = Unit {0}
  LongestFirst (e ∷ es) = Shorter e.length es × LongestFirst es

  -- Each prefix of the leaf is well formed.
  abbrev pub AllWellFormed : ℕ → ℕ → List (Entry P) → Type 0
  AllWellFormed W a [] = Unit {0}
  AllWellFormed W a (e ∷ es) = (well_formed W (route_of a e).prefix ≡ true) × AllWellFormed W a es

  -- A leaf has a route at least, each of its prefixes is well formed, and "routes of one address hang together, longest first".
  pub record LeafObeys (W a : ℕ) (es : List (Entry P)) : Type 0 where
    pub has_route : 0 < length es
    pub well_formed_here : AllWellFormed W a es
    pub longest_first : LongestFirst es

module _ {N P : Type 0} where
  -- "The tested bit number grows from parent to child."
  abbrev pub Grows : ℕ → Tree N P → Type 0
  Grows b (leaf a es) = Unit {0}
  Grows b (node n c l r) = b < c

  -- "All leaves under a node share the bits before its own; the left have 0 there, the right 1."
  pub record NodeObeys (W b : ℕ) (n : N) (l r : Tree N P) : Type 0 where
    pub within : b < W
    pub share : (x y : ℕ) → Under x (node n b l r) → Under y (node n b l r) → first W b x ≡ first W b y
    pub left_zero : (x : ℕ) → Under x l → bit W b x ≡ 0
    pub right_one : (x : ℕ) → Under x r → bit W b x ≡ 1
    pub grows_left : Grows b l
    pub grows_right : Grows b r

  -- Every leaf and every node of the tree does.
  abbrev pub Obeys : ℕ → Tree N P → Type 0
  Obeys W (leaf a es) = LeafObeys W a es
  Obeys W (node n b l r) = NodeObeys W b n l r × Obeys W l × Obeys W r

  -- The empty tree obeys.
  abbrev pub RootObeys : ℕ → Root N P → Type 0
  RootObeys W none = Unit {0}
  RootObeys W (some t) = Obeys W t
