-- How large a tree is, and how deep.
use Prim.Native.Nat.{ℕ, suc, ◌-◌, ◌≤◌}
use mathlib.Core.Path.{◌≡◌, refl}
use mathlib.Core.Logic.{⊎_elim}
use mathlib.Core.Option.{none, some}
use native.Mathlib.Omega.{arith}
use Rattle.patricia.specs.Good.{Good, RootGood}
use Rattle.patricia.specs.Tree.{Tree, leaf, node, Root}
use Rattle.patricia.specs.Size.{leaves, inners}
use Rattle.patricia.specs.Obeys.{Grows}
use Rattle.patricia.specs.Way.{depth, root_depth}
use Rattle.patricia.proofs.Form.{side}

module _ {N P : Type 0} where
  -- one leaf more than inner nodes
  pub leaves_inners : (t : Tree N P) → leaves t ≡ suc (inners t)
  leaves_inners (leaf a es) = refl
  leaves_inners (node n b l r) = omega (arith, leaves_inners l, leaves_inners r)

  -- how many bits there are from the tested one on; a leaf tests none
  abbrev pub room : ℕ → Tree N P → ℕ
  room W (leaf a es) = 0
  room W (node n b l r) = W - b

  -- no more than there are
  room_le : (W : ℕ) (t : Tree N P) → room W t ≤ W
  room_le W (leaf a es) = omega arith
  room_le W (node n b l r) = omega arith

  -- below a node that tests bit b there are those after it
  room_below : (W b : ℕ) (t : Tree N P) → Grows b t → room W t ≤ W - suc b
  room_below W b (leaf a es) u = omega arith
  room_below W b (node n c l r) u = omega arith

  -- no path is longer, since each node tests a later bit
  pub depth_room : (W d : ℕ) (t : Tree N P) → Good W t → depth W d t ≤ room W t
  depth_room W d (leaf a es) g = omega arith
  depth_room W d (node n b l r) (j, g, h) =
      ⊎_elim (λ z. rw z (omega (arith, j.within, depth_room W d l g, room_below W b l j.grows_left)))
      (λ o. rw o (omega (arith, j.within, depth_room W d r h, room_below W b r j.grows_right))) (side W b d)

  -- below a node that tests bit b no path is longer than the bits after b
  pub depth_below : (W d b : ℕ) (t : Tree N P) → Good W t → Grows b t → depth W d t ≤ W - suc b
  depth_below W d b t g u = omega (arith, depth_room W d t g, room_below W b t u)

  -- no path is longer than the width
  pub depth_le : (W d : ℕ) (t : Tree N P) → Good W t → depth W d t ≤ W
  depth_le W d t g = omega (arith, depth_room W d t g, room_le W t)

  -- and the empty tree has no path
  pub root_depth_le : (W d : ℕ) (t : Root N P) → RootGood W t → root_depth W d t ≤ W
  root_depth_le W d none g = omega arith
  root_depth_le W d (some t) g = depth_le W d t g
