-- A new address: a new leaf, joined to the tree by a new node where its bits part from the leaf that they lead to.
use Prim.Native.Nat.{ℕ, suc, ◌+◌, ◌*◌, ◌≤◌, ◌<◌}
use mathlib.Core.Path.{◌≡◌, sym, ap, subst, ◌∙◌}
use mathlib.Core.Bool.{true, cond}
use mathlib.Core.List.{[], ◌∷◌, ◌++◌, append-nil}
use mathlib.Core.Logic.{⊎_elim}
use mathlib.Core.Option.{none}
use native.Mathlib.Nat.{le_of_lt}
use native.Mathlib.Omega.{arith}
use borrow.Author.Tests.{ltb-true, ltb-false}
use lib.Dec.{ltb}
use Rattle.bits.specs.Address.{first, bit, Part}
use Rattle.bits.proofs.Cases.{lt_or_le}
use Rattle.bits.proofs.First.{bit_lt, first_step, first_all, first_fewer}
use Rattle.model.specs.Prefix.{well_formed}
use Rattle.model.specs.Routes.{Route, find, insert}
use Rattle.model.proofs.Tests.{passed_or_not}
use Rattle.model.proofs.Edits.{insert_front}
use Rattle.model.proofs.Append.{insert_right}
use Rattle.patricia.specs.Good.{All, Joint, Good}
use Rattle.patricia.specs.Tree.{Entry, Tree, leaf, node, route_of, routes, Under}
use Rattle.patricia.specs.Obeys.{LeafObeys, Grows}
use Rattle.patricia.specs.Way.{toward, reached}
use Rattle.patricia.proofs.Form.{side, all_under, under_all, with_left, with_right, joint_left, joint_right, joint_share, not_under, after_right, before_left}
use Rattle.patricia.proofs.Find.{reached_under, under_reached}
use Rattle.patricia.proofs.Change.{insert_local, local_left, local_right}

module _ {N P : Type 0} where
  -- a new leaf beside a tree, under a new node that tests bit k
  abbrev pub join : ℕ → N → ℕ → ℕ → Entry P → Tree N P → Tree N P
  join W n k a e t = toward (bit W k a) (node n k (leaf a (e ∷ [])) t) (node n k t (leaf a (e ∷ [])))

  -- a new address goes in where the first later bit is tested
  abbrev pub put_at : ℕ → ℕ → N → ℕ → Entry P → Tree N P → Tree N P
  put_at W k n a e (leaf b es) = join W n k a e (leaf b es)
  put_at W k n a e (node m c l r) =
      cond (ltb k c) (join W n k a e (node m c l r)) (toward (bit W c a) (node m c (put_at W k n a e l) r) (node m c l (put_at W k n a e r)))

  -- an address that does not lead to a leaf of its own is not under the tree, so none of its prefixes is found
  pub absent_new : (W a : ℕ) (t : Tree N P) → Good W t → (reached W a t ≡ a → ⊥) → (i : ℕ) → find (record { address = a; length = i }) (routes t) ≡ none
  absent_new W a t g f i = not_under (record { address = a; length = i }) t (λ u. f (under_reached W a t g u))

  -- ---- the new leaf and the tree that it stands beside

  -- all of the tree share a's first k bits, and none has its bit k
  abbrev Beside : ℕ → ℕ → ℕ → Tree N P → Type 0
  Beside W k a t = All (λ x. first W (suc k) x + bit W k a ≡ 2 * first W k a + 1) t

  module _ (W k : ℕ) (n : N) (a : ℕ) (e : Entry P) (k<W : k < W) where
    -- where a's bit k is 0 the new leaf goes to the left
    joint_zero : (t : Tree N P) → bit W k a ≡ 0 → Beside W k a t → Grows k t → Joint W k (leaf a (e ∷ [])) t
    joint_zero t z h u = record {
      value = first W k a;
      within = k<W;
      left = omega (arith, first_step W k a k<W);
      right = under_all _ t (λ x v. omega (arith, all_under _ x t h v));
      grows_left = tt;
      grows_right = u;
    }

    -- and where it is 1 to the right
    joint_one : (t : Tree N P) → bit W k a ≡ 1 → Beside W k a t → Grows k t → Joint W k t (leaf a (e ∷ []))
    joint_one t z h u = record {
      value = first W k a;
      within = k<W;
      left = under_all _ t (λ x v. omega (arith, all_under _ x t h v));
      right = omega (arith, first_step W k a k<W);
      grows_left = u;
      grows_right = tt;
    }

    -- a good tree and a new leaf beside it make a good tree
    join_good : (t : Tree N P) → well_formed W (route_of a e).prefix ≡ true → Good W t → Beside W k a t → Grows k t → Good W (join W n k a e t)
    join_good t w g h u = ⊎_elim (λ z. rw z (joint_zero t z h u, new, g)) (λ o. rw o (joint_one t o h u, g, new)) (side W k a)
      where
        new : LeafObeys W a (e ∷ [])
        new = record { has_route = omega arith; well_formed_here = (w, tt); longest_first = (tt, tt) }

    -- and the new route is inserted among the tree's
    join_routes : (t : Tree N P) → Beside W k a t → Grows k t → routes (join W n k a e t) ≡ insert (route_of a e) (routes t)
    join_routes t h u = ⊎_elim (λ z. rw z (at_front z)) (λ o. rw o (at_end o)) (side W k a)
      where
        new : Route P
        new = route_of a e

        at_front : bit W k a ≡ 0 → new ∷ routes t ≡ insert new (routes t)
        at_front z = let j = joint_zero t z h u in sym (insert_front new (routes t) (after_right W k (leaf a (e ∷ [])) t j new.prefix j.left))

        at_end : bit W k a ≡ 1 → routes t ++ (new ∷ []) ≡ insert new (routes t)
        at_end o =
            let j = joint_one t o h u in
            sym (insert_right new (routes t) [] (before_left W k t (leaf a (e ∷ [])) j new.prefix j.right)) ∙ ap (insert new) (append-nil (routes t))

    -- ---- the nodes above

    -- what holds of the tree's addresses and of a holds of all
    join_all : (Q : ℕ → Type 0) (t : Tree N P) → Q a → All Q t → All Q (join W n k a e t)
    join_all Q t q h = ⊎_elim (λ z. rw z (q, h)) (λ o. rw o (h, q)) (side W k a)

    -- further down too
    put_all : (Q : ℕ → Type 0) (t : Tree N P) → Q a → All Q t → All Q (put_at W k n a e t)
    put_all Q (leaf b es) q h = join_all Q (leaf b es) q h
    put_all Q (node m c l r) q h =
        ⊎_elim (λ t. rw t (join_all Q (node m c l r) q h))
        (λ t. rw t (⊎_elim (λ z. rw z (put_all Q l q h.0, h.1)) (λ o. rw o (h.0, put_all Q r q h.1)) (side W c a)))
        (passed_or_not (ltb k c))

    -- the new node tests a later bit than any before k
    join_grows : (b : ℕ) (t : Tree N P) → b < k → Grows b (join W n k a e t)
    join_grows b t h = ⊎_elim (λ z. rw z (omega arith)) (λ o. rw o (omega arith)) (side W k a)

    -- so the bits still grow
    put_grows : (b : ℕ) (t : Tree N P) → b < k → Grows b t → Grows b (put_at W k n a e t)
    put_grows b (leaf x es) h u = join_grows b (leaf x es) h
    put_grows b (node m c l r) h u =
        ⊎_elim (λ t. rw t (join_grows b (node m c l r) h)) (λ t. rw t (⊎_elim (λ z. rw z u) (λ o. rw o u) (side W c a))) (passed_or_not (ltb k c))

    -- ---- the place

    -- a tree that tests no bit up to k has one side of it only
    one_side : (t : Tree N P) → Good W t → Grows k t → (x y : ℕ) → Under x t → Under y t → first W (suc k) x ≡ first W (suc k) y
    one_side (leaf b es) g u x y v w = ap (first W (suc k)) (v ∙ sym w)
    one_side (node m c l r) (j, g, h) u x y v w =
        first_fewer W (suc k) c x y (omega arith) (le_of_lt j.within) (joint_share W c m l r j x v ∙ sym (joint_share W c m l r j y w))

    -- so where its leaf parts from a at k, all of it does
    beside : (t : Tree N P) → Good W t → Grows k t → Part W a (reached W a t) k → Beside W k a t
    beside t g u p = under_all _ t (λ x v.
        let y = reached W a t in
        omega (arith, one_side t g u x y v (reached_under W a t), first_step W k y k<W, p.shared, p.apart k<W, bit_lt W k a, bit_lt W k y))

    module _ (c : ℕ) (l r : Tree N P) (j : Joint W c l r) (le : c ≤ k) where
      -- a node that does not test a later bit, and has a's leaf on a's side, tests an earlier one
      earlier : (y : ℕ) → bit W c a ≡ bit W c y → Part W a y k → c < k
      earlier y f p =
          ⊎_elim (λ h. h) (λ h. let i : c ≡ k = omega arith in absurd (p.apart k<W (subst (λ (b : ℕ). bit W b a ≡ bit W b y) i f))) (lt_or_le c k)

      -- so where a goes left it has the first bits of all on the left
      on_left : bit W c a ≡ 0 → Part W a (reached W a l) k → (c < k) × (first W (suc c) a ≡ 2 * j.value)
      on_left z p =
          let u = reached_under W a l in
          let h = earlier (reached W a l) (z ∙ sym (joint_left W c l r j (reached W a l) u).1) p in
          (h, first_fewer W (suc c) k a (reached W a l) h p.within p.shared ∙ all_under _ (reached W a l) l j.left u)

      -- and where it goes right those of all on the right
      on_right : bit W c a ≡ 1 → Part W a (reached W a r) k → (c < k) × (first W (suc c) a ≡ 2 * j.value + 1)
      on_right o p =
          let u = reached_under W a r in
          let h = earlier (reached W a r) (o ∙ sym (joint_right W c l r j (reached W a r) u).1) p in
          (h, first_fewer W (suc c) k a (reached W a r) h p.within p.shared ∙ all_under _ (reached W a r) r j.right u)

      -- and the node stays good with a put in there
      left_good : (m : N) → bit W c a ≡ 0 → Part W a (reached W a l) k → Good W (put_at W k n a e l) → Good W r → Good W (node m c (put_at W k n a e l) r)
      left_good m z p g h =
          let x = on_left z p in (with_left W c l r (put_at W k n a e l) j (put_all _ l x.1 j.left) (put_grows c l x.0 j.grows_left), g, h)

      -- on either side
      right_good : (m : N) → bit W c a ≡ 1 → Part W a (reached W a r) k → Good W l → Good W (put_at W k n a e r) → Good W (node m c l (put_at W k n a e r))
      right_good m o p g h =
          let x = on_right o p in (with_right W c l r (put_at W k n a e r) j (put_all _ r x.1 j.right) (put_grows c r x.0 j.grows_right), g, h)

    -- ---- put in

    -- the new leaf goes to its place, and every node above it stays as it was
    put_in_good : well_formed W (route_of a e).prefix ≡ true → (t : Tree N P) → Good W t → Part W a (reached W a t) k → Good W (put_at W k n a e t)
    put_in_good w (leaf b es) g p = join_good (leaf b es) w g (beside (leaf b es) g tt p) tt
    put_in_good w (node m c l r) (j, g, h) p =
        ⊎_elim (λ t. rw t (join_good (node m c l r) w (j, g, h) (beside (node m c l r) (j, g, h) (ltb-true k c t) p) (ltb-true k c t)))
        (λ t. rw t (⊎_elim (λ z. rw z (left_good c l r j (ltb-false k c t) m z (rw z at p) (put_in_good w l g (rw z at p)) h))
        (λ o. rw o (right_good c l r j (ltb-false k c t) m o (rw o at p) g (put_in_good w r h (rw o at p)))) (side W c a)))
        (passed_or_not (ltb k c))

    -- and its route to its place among the routes
    put_in_routes : (t : Tree N P) → Good W t → Part W a (reached W a t) k → routes (put_at W k n a e t) ≡ insert (route_of a e) (routes t)
    put_in_routes (leaf b es) g p = join_routes (leaf b es) (beside (leaf b es) g tt p) tt
    put_in_routes (node m c l r) (j, g, h) p =
        let x = route_of a e in
        let new = insert_local x in
        ⊎_elim (λ t. rw t (join_routes (node m c l r) (beside (node m c l r) (j, g, h) (ltb-true k c t) p) (ltb-true k c t)))
        (λ t. rw t (⊎_elim (λ z. rw z (local_left x.prefix (insert x) new W c l r j _ (on_left c l r j (ltb-false k c t) z (rw z at p)).1 (put_in_routes l g (rw z at p))))
        (λ o. rw o (local_right x.prefix (insert x) new W c l r j _ (on_right c l r j (ltb-false k c t) o (rw o at p)).1 (put_in_routes r h (rw o at p)))) (side W c a)))
        (passed_or_not (ltb k c))

  module _ (W k : ℕ) (n : N) (a : ℕ) (e : Entry P) (t : Tree N P) (g : Good W t) (f : reached W a t ≡ a → ⊥) (p : Part W a (reached W a t) k) where
    -- two addresses that are not one part at one of the bits
    inside : k < W
    inside = ⊎_elim (λ h. h) (λ h. absurd (one h)) (lt_or_le k W)
      where
        one : W ≤ k → ⊥
        one h =
            let i : k ≡ W = omega (arith, p.within) in
            let s = subst (λ (b : ℕ). first W b a ≡ first W b (reached W a t)) i p.shared in
            f (sym (first_all W (reached W a t)) ∙ sym s ∙ first_all W a)

    -- a new address put in where it parts from the leaf that it leads to keeps the tree good
    pub put_good : well_formed W (route_of a e).prefix ≡ true → Good W (put_at W k n a e t)
    put_good w = put_in_good W k n a e inside w t g p

    -- and is inserted into its routes
    pub put_routes : routes (put_at W k n a e t) ≡ insert (route_of a e) (routes t)
    put_routes = put_in_routes W k n a e inside t g p
