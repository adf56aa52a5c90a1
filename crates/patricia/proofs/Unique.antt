-- The routes decide the tree, but for the names of its inner nodes: the order in which they came in does not show.
use Prim.Native.Nat.{ℕ, suc, ◌<◌}
use mathlib.Core.Path.{◌≡◌, refl, sym, ap, ap₂, subst, ◌∙◌}
use mathlib.Core.List.{List, [], ◌∷◌, ◌++◌}
use mathlib.Core.Logic.{inl, inr}
use mathlib.Core.Option.{none, some}
use native.Mathlib.Nat.{le_of_lt}
use native.Mathlib.Omega.{arith}
use Rattle.bits.specs.Address.{bit}
use Rattle.bits.proofs.Cases.{Compared, lower, same, higher, compared}
use Rattle.bits.proofs.First.{bit_fewer}
use Rattle.model.specs.Routes.{Route, Held}
use Rattle.patricia.specs.Good.{Good, RootGood}
use Rattle.patricia.specs.Tree.{Entry, Tree, leaf, node, Root, route_of, hung, routes, root_routes, Under}
use Rattle.patricia.specs.Way.{toward, depth, root_depth}
use Rattle.patricia.proofs.Form.{lowest, lowest_under, joint_left, joint_right, joint_share, held_under, under_held, routes_some}

module _ {N P : Type 0} where
  -- the tree without its names
  abbrev pub forget : Tree N P → Tree (Unit {0}) P
  forget (leaf a es) = leaf a es
  forget (node n b l r) = node tt b (forget l) (forget r)

  -- of a table's tree
  abbrev pub root_forget : Root N P → Root (Unit {0}) P
  root_forget none = none
  root_forget (some t) = some (forget t)

  -- names do not count for the depth
  pub depth_forget : (W d : ℕ) (t : Tree N P) → depth W d (forget t) ≡ depth W d t
  depth_forget W d (leaf a es) = refl
  depth_forget W d (node n b l r) = ap₂ (λ (x y : ℕ). suc (toward (bit W b d) x y)) (depth_forget W d l) (depth_forget W d r)

module _ {P : Type 0} where
  -- ---- one leaf

  -- its routes decide what hangs there
  hung_entries : (a b : ℕ) (es fs : List (Entry P)) → hung a es ≡ hung b fs → es ≡ fs
  hung_entries a b [] [] e = refl
  hung_entries a b [] (f ∷ fs) e = cc
  hung_entries a b (e ∷ es) [] p = cc
  hung_entries a b (e ∷ es) (f ∷ fs) p =
      let h : route_of a e ≡ route_of b f = cc in
      let t : hung a es ≡ hung b fs = cc in
      ap₂ ◌∷◌ (λ i. record { length = (h i).prefix.length; payload = (h i).payload }) (hung_entries a b es fs t)

  -- ---- two lists, each in two parts

  -- where the first parts are told from the second by what they hold, the parts are the same
  split : (Q : Route P → Type 0) (l m x y : List (Route P)) → l ++ m ≡ x ++ y
      → ((q : Route P) → Held q l → Q q) → ((q : Route P) → Held q x → Q q) → ((q : Route P) → Held q m → Q q → ⊥) → ((q : Route P) → Held q y → Q q → ⊥)
      → (l ≡ x) × (m ≡ y)
  split Q [] m [] y e a b c d = (refl, e)
  split Q [] m (q ∷ x) y e a b c d = absurd (c q (subst (Held q) (sym e) (inl refl)) (b q (inl refl)))
  split Q (q ∷ l) m [] y e a b c d = absurd (d q (subst (Held q) e (inl refl)) (a q (inl refl)))
  split Q (q ∷ l) m (p ∷ x) y e a b c d =
      let h : q ≡ p = cc in
      let t : l ++ m ≡ x ++ y = cc in
      let w = split Q l m x y t (λ s k. a s (inr k)) (λ s k. b s (inr k)) c d in
      (ap₂ ◌∷◌ h w.0, w.1)

module _ {N M P : Type 0} where
  -- ---- the same routes, the same addresses

  -- what is under the one is under the other
  same_under : (W x : ℕ) (s : Tree N P) (t : Tree M P) → Good W s → routes s ≡ routes t → Under x s → Under x t
  same_under W x s t g e u = let (q, k, f) = under_held W x s g u in subst (λ (y : ℕ). Under y t) f (held_under q t (subst (Held q) e k))

  -- a node has addresses of either bit, so a tree where all have one bit there has other routes
  two_sides : (W b : ℕ) (n : N) (l r : Tree N P) (t : Tree M P) → Good W (node n b l r) → routes l ++ routes r ≡ routes t
      → ((x y : ℕ) → Under x t → Under y t → bit W b x ≡ bit W b y) → ⊥
  two_sides W b n l r t g e f =
      let u = lowest_under l in
      let v = lowest_under r in
      let same = f (lowest l) (lowest r) (same_under W (lowest l) (node n b l r) t g e (inl u)) (same_under W (lowest r) (node n b l r) t g e (inr v)) in
      omega (arith, same, (joint_left W b l r g.0 (lowest l) u).1, (joint_right W b l r g.0 (lowest r) v).1)

  -- and so has a node that tests a later bit
  not_later : (W b c : ℕ) (n : N) (l r : Tree N P) (m : M) (x y : Tree M P) → b < c → Good W (node n b l r) → Good W (node m c x y)
      → routes l ++ routes r ≡ routes x ++ routes y → ⊥
  not_later W b c n l r m x y h g k e =
      let j = k.0 in
      two_sides W b n l r (node m c x y) g e (λ i o u v. bit_fewer W b c i o h (le_of_lt j.within) (joint_share W c m x y j i u ∙ sym (joint_share W c m x y j o v)))

module _ {N P : Type 0} where
  -- so a leaf has other routes
  not_leaf : (W b : ℕ) (n : N) (l r : Tree N P) (a : ℕ) (es : List (Entry P)) → Good W (node n b l r) → routes l ++ routes r ≡ hung a es → ⊥
  not_leaf W b n l r a es g e = two_sides {M = N} W b n l r (leaf a es) g e (λ x y u v. ap (bit W b) (u ∙ sym v))

module _ {N M P : Type 0} where
  -- ---- good trees of the same routes are the same, but for the names

  -- the bit at which the least and the greatest address part is the root's; the sides are the routes with 0 and with 1 there
  pub unique : (W : ℕ) (s : Tree N P) (t : Tree M P) → Good W s → Good W t → routes s ≡ routes t → forget s ≡ forget t
  unique W (leaf a []) (leaf b fs) g h e = absurd (omega (arith, g.has_route))
  unique W (leaf a (f ∷ fs)) (leaf b []) g h e = absurd (omega (arith, h.has_route))
  unique W (leaf a (f ∷ fs)) (leaf b (i ∷ is)) g h e =
      let p : route_of a f ≡ route_of b i = cc in
      let q = hung_entries a b (f ∷ fs) (i ∷ is) e in
      λ k. leaf (p k).prefix.address (q k)
  unique W (leaf a es) (node m c x y) g h e = absurd (not_leaf W c m x y a es h (sym e))
  unique W (node n b l r) (leaf a es) g h e = absurd (not_leaf W b n l r a es g e)
  unique W (node n b l r) (node m c x y) g h e = go (compared b c) (unique W l x g.1 h.1) (unique W r y g.2 h.2)
    where
      go : Compared b c → (routes l ≡ routes x → forget l ≡ forget x) → (routes r ≡ routes y → forget r ≡ forget y) → forget (node n b l r) ≡ forget (node m c x y)
      go (lower k) u v = absurd (not_later W b c n l r m x y k g h e)
      go (higher k) u v = absurd (not_later W c b m x y n l r k h g (sym e))
      go (same k) u v =
          let w = split (λ q. bit W b q.prefix.address ≡ 0) (routes l) (routes r) (routes x) (routes y) e
          (λ q i. (joint_left W b l r g.0 q.prefix.address (held_under q l i)).1)
          (λ q i. rw k (joint_left W c x y h.0 q.prefix.address (held_under q x i)).1)
          (λ q i z. omega (arith, (joint_right W b l r g.0 q.prefix.address (held_under q r i)).1))
          (λ q i z. omega (arith, rw k at z, (joint_right W c x y h.0 q.prefix.address (held_under q y i)).1)) in
          λ i. node tt (k i) (u w.0 i) (v w.1 i)

  -- so they are of one depth
  pub same_depth : (W d : ℕ) (s : Tree N P) (t : Tree M P) → Good W s → Good W t → routes s ≡ routes t → depth W d s ≡ depth W d t
  same_depth W d s t g h e = sym (depth_forget W d s) ∙ ap (depth W d) (unique W s t g h e) ∙ depth_forget W d t

  -- the same of a table's tree: the empty tree alone has no routes
  pub root_unique : (W : ℕ) (s : Root N P) (t : Root M P) → RootGood W s → RootGood W t → root_routes s ≡ root_routes t → root_forget s ≡ root_forget t
  root_unique W none none g h e = refl
  root_unique W none (some t) g h e = absurd (routes_some W t h (sym e))
  root_unique W (some s) none g h e = absurd (routes_some W s g e)
  root_unique W (some s) (some t) g h e = ap some (unique W s t g h e)

  -- and its depth
  pub root_same_depth : (W d : ℕ) (s : Root N P) (t : Root M P) → RootGood W s → RootGood W t → root_routes s ≡ root_routes t → root_depth W d s ≡ root_depth W d t
  root_same_depth W d none none g h e = refl
  root_same_depth W d none (some t) g h e = absurd (routes_some W t h (sym e))
  root_same_depth W d (some s) none g h e = absurd (routes_some W s g e)
  root_same_depth W d (some s) (some t) g h e = same_depth W d s t g h e
