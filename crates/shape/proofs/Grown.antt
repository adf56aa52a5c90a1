-- The tree at a link: what its parts say of the whole, both ways.
use Prim.Native.Nat.{ℕ, suc, ◌+◌, ◌-◌, ◌*◌, ◌≤◌, ◌<◌}
use mathlib.Core.Path.{◌≡◌, refl, sym, ap, subst, ◌∙◌}
use mathlib.Core.List.{List, [], ◌∷◌, ◌++◌}
use mathlib.Core.Logic.{inl, inr, ⊎_elim}
use mathlib.Core.Option.{none, some}
use native.Mathlib.Nat.{le_of_lt}
use native.Mathlib.Omega.{arith}
use lib.ListN.{length, length-append}
use Rattle.bits.specs.Address.{first}
use Rattle.bits.proofs.First.{first_mono, first_lt}
use Rattle.model.specs.Routes.{Route}
use Rattle.model.specs.Lawful.{AllObey}
use Rattle.patricia.specs.Good.{All, Joint, Good}
use Rattle.patricia.specs.Tree.{Entry, Tree, leaf, node, Root, routes}
use Rattle.patricia.specs.Obeys.{Grows}
use Rattle.patricia.proofs.Form.{all_under, under_all, obeys_good, good_obeys}
use Rattle.pool.specs.Layout.{Layout, root_in, mark_at, left_at, right_at}
use Rattle.pool.specs.Link.{to_route, to_inner}
use Rattle.pool.specs.Holds.{Seat, Seated, bare, chain_places, route_places, inner_places, Holds}
use Rattle.pool.specs.Means.{routes_used, inners_used}
use Rattle.pool.proofs.Unique.{holds_unique, not_nothing}
use Rattle.pool.proofs.Frame.{routes_in_pool, inners_in_pool}
use Rattle.pool.proofs.Distinct.{routes_distinct, inners_distinct}
use Rattle.pool.proofs.Few.{no_more}
use Rattle.shape.specs.Chain.{LeafFine}
use Rattle.search.specs.Seen.{Starts}
use Rattle.shape.specs.Tree.{TreeFine, Spans, Counted, TreeSays, JoinFine, JoinSays, RootFine}
use Rattle.shape.specs.declared.tree.Span.{Span}
use Rattle.std.specs.Prelude.{Option, Some, None}

module _ {P : Type 0} (L : Layout P) where
  -- ---- lists

  obey_append : (xs ys : List (Route P)) → AllObey L.rules xs → AllObey L.rules ys → AllObey L.rules (xs ++ ys)
  obey_append [] ys a b = b
  obey_append (x ∷ xs) ys a b = (a.0, obey_append xs ys a.1 b)

  obey_parts : (xs ys : List (Route P)) → AllObey L.rules (xs ++ ys) → AllObey L.rules xs × AllObey L.rules ys
  obey_parts [] ys a = (tt, a)
  obey_parts (x ∷ xs) ys a = let w = obey_parts xs ys a.1 in ((a.0, w.0), w.1)

  pub chain_length : (es : List (Entry (Seat P))) → length (chain_places es) ≡ length es
  chain_length [] = refl
  chain_length (e ∷ es) = ap suc (chain_length es)

  -- ---- leaves

  module _ (c : ℕ) (ws : List ℕ) where
    leaf_tree : (link low a : ℕ) (es : List (Entry (Seat P))) → LeafFine L c ws link a es → TreeFine L c ws link low (leaf a es)
    leaf_tree link low a [] f = absurd (omega (arith, f.form.has_route))
    leaf_tree link low a (e ∷ es) f = record { holds = f.chain; form = f.form; past = tt; obey = f.obey }

    pub leaf_fine : (link low a n : ℕ) (es : List (Entry (Seat P))) → LeafFine L c ws link a es → n ≡ length es
        → (t : Seated P) × TreeFine L c ws link low t × Spans a a (bare t) × Counted n 0 t
    leaf_fine link low a n es f e = (
      leaf a es,
      leaf_tree link low a es f,
      record { least_there = refl; greatest_there = refl; between = λ x u. (omega (arith, u), omega (arith, u)) },
      record { routes_there = e ∙ sym (chain_length es); inners_there = refl },
    )

    pub leaf_bad : (i low : ℕ) (t : Seated P) → ((a : ℕ) (es : List (Entry (Seat P))) → LeafFine L c ws (to_route i) a es → ⊥) → TreeFine L c ws (to_route i) low t → ⊥
    leaf_bad i low (leaf a []) n f = f.holds
    leaf_bad i low (leaf a (e ∷ es)) n f = n a (e ∷ es) (record { chain = f.holds; form = f.form; obey = f.obey })
    leaf_bad i low (node j b l r) n f = let w : to_route i ≡ to_inner j = f.holds.0 in omega arith

    pub nothing_bad : (link low : ℕ) (t : Seated P) → link ≡ 0 → TreeFine L c ws link low t → ⊥
    nothing_bad link low t e f = not_nothing L c ws link t f.holds e

  -- ---- inner places

  -- the inner place j has these two sides
  pub record InnerFine (c : ℕ) (ws : List ℕ) (low j : ℕ) (l r : Seated P) : Type 0 where
    pub in_pool : j < c
    pub later : low < mark_at L c ws j
    pub within : mark_at L c ws j ≤ L.rules.width
    pub left_fine : TreeFine L c ws (left_at L c ws j) (mark_at L c ws j) l
    pub right_fine : TreeFine L c ws (right_at L c ws j) (mark_at L c ws j) r
    pub value : ℕ
    pub left : All (λ x. first L.rules.width (mark_at L c ws j) x ≡ 2 * value) (bare l)
    pub right : All (λ x. first L.rules.width (mark_at L c ws j) x ≡ 2 * value + 1) (bare r)

  grows_past : (b : ℕ) (t : Seated P) → Grows b (bare t) → Starts (suc b) t
  grows_past b (leaf a es) g = tt
  grows_past b (node j d l r) g = g

  past_grows : (b : ℕ) (t : Seated P) → Starts (suc b) t → Grows b (bare t)
  past_grows b (leaf a es) g = tt
  past_grows b (node j d l r) g = g

  module _ (c : ℕ) (ws : List ℕ) where
    pub inner_parts : (link low j : ℕ) (t : Seated P) → link ≡ to_inner j → TreeFine L c ws link low t → (l r : Seated P) × InnerFine c ws low j l r
    inner_parts link low j (leaf a []) e f = absurd f.holds
    inner_parts link low j (leaf a (x ∷ xs)) e f = let w : link ≡ to_route x.payload.place = f.holds.0 in absurd (omega arith)
    inner_parts link low j (node i b l r) e f =
        let w : link ≡ to_inner i = f.holds.0 in
        let same : i ≡ j = omega arith in
        (l, r, subst (λ (x : ℕ). InnerFine c ws low x l r) same parts)
      where
        g : Good L.rules.width (bare (node i b l r))
        g = obeys_good L.rules.width (bare (node i b l r)) f.form

        parts : InnerFine c ws low i l r
        parts =
            let mark : suc b ≡ mark_at L c ws i = sym f.holds.2 in
            let o = obey_parts (routes (bare l)) (routes (bare r)) f.obey in
            let within = g.0.within in
            let past = f.past in
            record {
              in_pool = f.holds.1;
              later = subst (λ (m : ℕ). low < m) mark (omega arith);
              within = subst (λ (m : ℕ). m ≤ L.rules.width) mark (omega arith);
              left_fine = record { holds = f.holds.3; form = f.form.1; past = subst (λ (m : ℕ). Starts m l) mark (grows_past b l g.0.grows_left); obey = o.0 };
              right_fine = record { holds = f.holds.4; form = f.form.2; past = subst (λ (m : ℕ). Starts m r) mark (grows_past b r g.0.grows_right); obey = o.1 };
              value = g.0.value;
              left = subst (λ (m : ℕ). All (λ x. first L.rules.width m x ≡ 2 * g.0.value) (bare l)) mark g.0.left;
              right = subst (λ (m : ℕ). All (λ x. first L.rules.width m x ≡ 2 * g.0.value + 1) (bare r)) mark g.0.right;
            }

    inner_whole : (link low j b : ℕ) (l r : Seated P) → link ≡ to_inner j → suc b ≡ mark_at L c ws j → InnerFine c ws low j l r → TreeFine L c ws link low (node j b l r)
    inner_whole link low j b l r e mark f =
        let back = sym mark in
        let joint : Joint L.rules.width b (bare l) (bare r) = record {
          value = f.value;
          within = subst (λ (m : ℕ). m ≤ L.rules.width) back f.within;
          left = subst (λ (m : ℕ). All (λ x. first L.rules.width m x ≡ 2 * f.value) (bare l)) back f.left;
          right = subst (λ (m : ℕ). All (λ x. first L.rules.width m x ≡ 2 * f.value + 1) (bare r)) back f.right;
          grows_left = past_grows b l (subst (λ (m : ℕ). Starts m l) back f.left_fine.past);
          grows_right = past_grows b r (subst (λ (m : ℕ). Starts m r) back f.right_fine.past);
        } in
        record {
          holds = (e, f.in_pool, back, f.left_fine.holds, f.right_fine.holds);
          form =
              good_obeys L.rules.width (node j b (bare l) (bare r))
              (joint, obeys_good L.rules.width (bare l) f.left_fine.form, obeys_good L.rules.width (bare r) f.right_fine.form);
          past = omega (arith, mark, f.later);
          obey = obey_append (routes (bare l)) (routes (bare r)) f.left_fine.obey f.right_fine.obey;
        }

  -- ---- both sides together

  -- the two ends of a side decide for all of it
  ends : (k n least greatest : ℕ) (t : Tree ℕ P) → Spans least greatest t → first L.rules.width k least ≡ n → first L.rules.width k greatest ≡ n
      → All (λ x. first L.rules.width k x ≡ n) t
  ends k n least greatest t s p q =
      under_all _ t (λ x u. let w = s.between x u in omega (arith, p, q, first_mono L.rules.width k least x w.0, first_mono L.rules.width k x greatest w.1))

  -- what was counted on both sides
  counted_join : (j b : ℕ) (l r : Seated P) (n m p q : ℕ) → Counted n p l → Counted m q r → Counted (n + m) (1 + (p + q)) (node j b l r)
  counted_join j b l r n m p q x y = record {
    routes_there = omega (arith, x.routes_there, y.routes_there, length-append (route_places l) (route_places r));
    inners_there = omega (arith, x.inners_there, y.inners_there, length-append (inner_places l) (inner_places r));
  }

  -- is no more than the capacity: no place is in the tree twice
  pub few_routes : (c : ℕ) (ws : List ℕ) (link low n m : ℕ) (t : Seated P) → TreeFine L c ws link low t → Counted n m t → n ≤ c
  few_routes c ws link low n m t f k =
      let g = obeys_good L.rules.width (bare t) f.form in
      omega (arith, k.routes_there, no_more c (route_places t) (routes_distinct L c ws link t f.holds g) (routes_in_pool L c ws ws link t f.holds))

  pub few_inners : (c : ℕ) (ws : List ℕ) (link low n m : ℕ) (t : Seated P) → TreeFine L c ws link low t → Counted n m t → m ≤ c
  few_inners c ws link low n m t f k =
      let g = obeys_good L.rules.width (bare t) f.form in
      omega (arith, k.inners_there, no_more c (inner_places t) (inners_distinct L c ws link t f.holds g) (inners_in_pool L c ws ws link t f.holds))

  spans_join : (k v j b : ℕ) (l₀ l₁ r₀ r₁ : ℕ) (l r : Tree ℕ P) → JoinFine L k l₀ l₁ r₀ r₁ v → Spans l₀ l₁ l → Spans r₀ r₁ r
      → Spans l₀ r₁ (node j b l r)
  spans_join k v j b l₀ l₁ r₀ r₁ l r f x y = record {
    least_there = inl x.least_there;
    greatest_there = inr y.greatest_there;
    between = λ z u. ⊎_elim
        (λ w. ((x.between z w).0, le_of_lt (first_lt L.rules.width k z r₁ (omega (arith, f.right_greatest, all_under _ z l (ends k (2 * v) _ _ l x f.left_least f.left_greatest) w)))))
        (λ w. (le_of_lt (first_lt L.rules.width k l₀ z (omega (arith, f.left_least, all_under _ z r (ends k (2 * v + 1) _ _ r y f.right_least f.right_greatest) w))), (y.between z w).1))
        u;
  }

  -- the words of an inner place, as they were read
  pub record Seen (c : ℕ) (ws : List ℕ) (link j mark left right : ℕ) : Type 0 where
    pub linked : link ≡ to_inner j
    pub mark_there : mark ≡ mark_at L c ws j
    pub left_there : left ≡ left_at L c ws j
    pub right_there : right ≡ right_at L c ws j

  module _ (c : ℕ) (ws : List ℕ) (link low j mark left right : ℕ) (s : Seen c ws link j mark left right) where
    -- a tree at another link and from another bit on, where they are the same
    moved : (x y m n : ℕ) (t : Seated P) → x ≡ y → m ≡ n → TreeFine L c ws x m t → TreeFine L c ws y n t
    moved x y m n t p q f = subst (λ (z : ℕ). TreeFine L c ws y z t) q (subst (λ (z : ℕ). TreeFine L c ws z m t) p f)

    pub inner_out : (t : Seated P) → TreeFine L c ws link low t → (j < c) × (low < mark) × (mark ≤ L.rules.width)
    inner_out t f =
        let (l, r, w) = inner_parts c ws link low j t s.linked f in
        (w.in_pool, omega (arith, w.later, s.mark_there), omega (arith, w.within, s.mark_there))

    pub left_bad : ((t : Seated P) → TreeFine L c ws left mark t → ⊥) → (t : Seated P) → TreeFine L c ws link low t → ⊥
    left_bad n t f = let (l, r, w) = inner_parts c ws link low j t s.linked f in n l (moved _ _ _ _ l (sym s.left_there) (sym s.mark_there) w.left_fine)

    pub right_bad : ((t : Seated P) → TreeFine L c ws right mark t → ⊥) → (t : Seated P) → TreeFine L c ws link low t → ⊥
    right_bad n t f = let (l, r, w) = inner_parts c ws link low j t s.linked f in n r (moved _ _ _ _ r (sym s.right_there) (sym s.mark_there) w.right_fine)

    module _ (l₀ l₁ r₀ r₁ ln rn li ri : ℕ)
        (x : (t : Seated P) × TreeFine L c ws left mark t × Spans l₀ l₁ (bare t) × Counted ln li t)
        (y : (t : Seated P) × TreeFine L c ws right mark t × Spans r₀ r₁ (bare t) × Counted rn ri t) where
      pub join_bad : ((v : ℕ) → JoinFine L mark l₀ l₁ r₀ r₁ v → ⊥) → (t : Seated P) → TreeFine L c ws link low t → ⊥
      join_bad n t f =
          let (l, r, w) = inner_parts c ws link low j t s.linked f in
          let back = sym s.mark_there in
          let same_left = holds_unique L c ws (left_at L c ws j) l x.0 w.left_fine.holds (subst (λ (z : ℕ). Holds L c ws z x.0) s.left_there x.1.holds) in
          let same-right = holds_unique L c ws (right_at L c ws j) r y.0 w.right_fine.holds (subst (λ (z : ℕ). Holds L c ws z y.0) s.right_there y.1.holds) in
          let u =
          subst (λ (m : ℕ). All (λ z. first L.rules.width m z ≡ 2 * w.value) (bare x.0)) back
          (subst (λ (z : Seated P). All (λ q. first L.rules.width (mark_at L c ws j) q ≡ 2 * w.value) (bare z)) same_left w.left) in
          let v =
          subst (λ (m : ℕ). All (λ z. first L.rules.width m z ≡ 2 * w.value + 1) (bare y.0)) back
          (subst (λ (z : Seated P). All (λ q. first L.rules.width (mark_at L c ws j) q ≡ 2 * w.value + 1) (bare z)) same-right w.right) in
          n w.value (record {
            left_least = all_under _ l₀ (bare x.0) u x.2.least_there;
            left_greatest = all_under _ l₁ (bare x.0) u x.2.greatest_there;
            right_least = all_under _ r₀ (bare y.0) v y.2.least_there;
            right_greatest = all_under _ r₁ (bare y.0) v y.2.greatest_there;
          })

      pub join_fine : j < c → low < mark → mark ≤ L.rules.width → (v : ℕ) → JoinFine L mark l₀ l₁ r₀ r₁ v
          → (t : Seated P) × TreeFine L c ws link low t × Spans l₀ r₁ (bare t) × Counted (ln + rn) (1 + (li + ri)) t
      join_fine h k m v f = (
        node j (mark - 1) x.0 y.0,
        inner_whole c ws link low j (mark - 1) x.0 y.0 s.linked (omega (arith, s.mark_there)) sides,
        spans_join mark v j (mark - 1) l₀ l₁ r₀ r₁ (bare x.0) (bare y.0) f x.2 y.2,
        counted_join j (mark - 1) x.0 y.0 _ _ _ _ x.3 y.3,
      )
        where
          e : mark ≡ mark_at L c ws j
          e = s.mark_there

          sides : InnerFine c ws low j x.0 y.0
          sides = record {
            in_pool = h;
            later = omega (arith, e);
            within = omega (arith, e);
            left_fine = moved _ _ _ _ x.0 s.left_there e x.1;
            right_fine = moved _ _ _ _ y.0 s.right_there e y.1;
            value = v;
            left = subst (λ (n : ℕ). All (λ z. first L.rules.width n z ≡ 2 * v) (bare x.0)) e (ends mark (2 * v) _ _ (bare x.0) x.2 f.left_least f.left_greatest);
            right = subst (λ (n : ℕ). All (λ z. first L.rules.width n z ≡ 2 * v + 1) (bare y.0)) e (ends mark (2 * v + 1) _ _ (bare y.0) y.2 f.right_least f.right_greatest);
          }

    -- what the test of both sides says of the tree
    module _ (ls rs : Span)
        (x : (t : Seated P) × TreeFine L c ws left mark t × Spans ls.least ls.greatest (bare t) × Counted ls.routes ls.inners t)
        (y : (t : Seated P) × TreeFine L c ws right mark t × Spans rs.least rs.greatest (bare t) × Counted rs.routes rs.inners t) where
      pub joined : j < c → low < mark → mark ≤ L.rules.width → (a : Option Span) → JoinSays L mark ls rs a → TreeSays L c ws link low a
      joined h k m None n = join_bad _ _ _ _ _ _ _ _ x y n
      joined h k m (Some q) ((v, f), least, greatest, n, i) =
          let (t, g, sp, w) = join_fine _ _ _ _ _ _ _ _ x y h k m v f in (
            t,
            g,
            subst (λ (z : ℕ). Spans z q.greatest (bare t)) (sym least) (subst (λ (z : ℕ). Spans ls.least z (bare t)) (sym greatest) sp),
            subst (λ (z : ℕ). Counted z q.inners t) (sym n) (subst (λ (z : ℕ). Counted (ls.routes + rs.routes) z t) (sym i) w),
          )

  -- ---- the root

  pub root_fine : (c : ℕ) (ws : List ℕ) (link n m least greatest : ℕ) → link ≡ root_in ws
      → (t : Seated P) × TreeFine L c ws link 0 t × Spans least greatest (bare t) × Counted n m t
      → (t : Root ℕ (Seat P)) × RootFine L c ws t × (n ≡ length (routes_used t)) × (m ≡ length (inners_used t))
  root_fine c ws link n m least greatest e (t, f, s, k) =
      (some t, record { holds = subst (λ (x : ℕ). Holds L c ws x t) e f.holds; form = f.form; obey = f.obey }, k.routes_there, k.inners_there)

  past_none : (t : Seated P) → Starts 0 t
  past_none (leaf a es) = tt
  past_none (node j b l r) = omega arith

  pub root_bad : (c : ℕ) (ws : List ℕ) (link : ℕ) → link ≡ root_in ws → (link ≡ 0 → ⊥) → ((t : Seated P) → TreeFine L c ws link 0 t → ⊥)
      → (t : Root ℕ (Seat P)) → RootFine L c ws t → ⊥
  root_bad c ws link e n f none w = n (e ∙ w.holds)
  root_bad c ws link e n f (some t) w =
      f t (record { holds = subst (λ (x : ℕ). Holds L c ws x t) (sym e) w.holds; form = w.form; past = past_none t; obey = w.obey })

  pub root_none : (c : ℕ) (ws : List ℕ) (link : ℕ) → link ≡ root_in ws → link ≡ 0
      → (t : Root ℕ (Seat P)) × RootFine L c ws t × (0 ≡ length (routes_used t)) × (0 ≡ length (inners_used t))
  root_none c ws link e z = (none, record { holds = sym e ∙ z; form = tt; obey = tt }, refl, refl)
