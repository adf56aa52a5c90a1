-- The form of a tree that the layers above go by: it is that of `Obeys` (`obeys_good`, `good_obeys`), said in a way that every edit keeps.
use Rattle.std.specs.Prelude.{ℕ, suc, ◌+◌, ◌*◌, ◌<◌, ◌≡◌}
use Rattle.std.proofs.Math.Option.{none, some}
use Rattle.bits.specs.Address.{first}
use Rattle.patricia.specs.Tree.{Tree, leaf, node, Root}
use Rattle.patricia.specs.Obeys.{LeafObeys, Grows}

module _ {N P : Type 0} where
  -- What Q says of an address, it says of every one under the tree.
  abbrev pub All : (ℕ → Type 0) → Tree N P → Type 0
  All Q (leaf a es) = Q a
  All Q (node n b l r) = All Q l × All Q r

  -- "All leaves under a node share the bits before its own; the left have 0 there, the right 1": those bits are one value.
  pub record Joint (W b : ℕ) (l r : Tree N P) : Type 0 where
    pub value : ℕ
    pub within : b < W
    pub left : All (λ x. first W (suc b) x ≡ 2 * value) l
    pub right : All (λ x. first W (suc b) x ≡ 2 * value + 1) r
    pub grows_left : Grows b l
    pub grows_right : Grows b r

  -- Every node of the tree is such a joint; a leaf's form is that of `Obeys`.
  abbrev pub Good : ℕ → Tree N P → Type 0
  Good W (leaf a es) = LeafObeys W a es
  Good W (node n b l r) = Joint W b l r × Good W l × Good W r

  -- The empty tree is good.
  abbrev pub RootGood : ℕ → Root N P → Type 0
  RootGood W none = Unit {0}
  RootGood W (some t) = Good W t
