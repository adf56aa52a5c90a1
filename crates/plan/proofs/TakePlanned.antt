-- Where a route is taken out, from what the code has read.
use Prim.Native.Nat.{ℕ, suc, ◌+◌, ◌-◌, ◌<◌}
use mathlib.Core.Path.{◌≡◌, refl, sym, ap, subst, ◌∙◌}
use mathlib.Core.List.{List, [], ◌∷◌, ◌++◌}
use mathlib.Core.Logic.{◌⊎◌, inl, inr}
use mathlib.Core.Option.{some}
use native.Mathlib.Omega.{arith}
use Rattle.std.specs.Prelude.{Some, None, Ok, Err}
use lib.ListN.{length, get_or}
use Rattle.bits.specs.Address.{bit}
use Rattle.model.specs.Prefix.{Prefix}
use Rattle.model.specs.Routes.{Route, find}
use Rattle.patricia.specs.Good.{Good}
use Rattle.patricia.specs.Tree.{Entry, leaf, routes}
use Rattle.patricia.specs.Way.{Step, went_left, went_right, plug, toward, Follows}
use Rattle.pool.specs.Layout.{word, Layout, root_in, next_at, mark_at, left_at, right_at}
use Rattle.pool.specs.Holds.{Seat, Seated, bare, chain_places, Chain, Holds}
use Rattle.pool.specs.Means.{Among}
use Rattle.pool.specs.declared.damage.Damage.{Damage}
use Rattle.pool.specs.declared.link.Place.{Place}
use Rattle.pool.proofs.Frame.{among_append, routes_in_pool}
use Rattle.pool.proofs.Laid.{Laid}
use Rattle.search.specs.Down.{End, Kept, Led, Ways}
use Rattle.search.proofs.Led.{led_not_empty, led_not_damaged}
use Rattle.search.proofs.Chain.{chain_end}
use Rattle.plan.specs.Cells.{cell_of, end_cell}
use Rattle.plan.specs.Steps.{WayUsable, CellRight}
use Rattle.plan.specs.Plan.{TakenAt}
use Rattle.plan.specs.Planned.{HungIn, HungFrom, LoneAt, LoneRight, TakeRight}
use Rattle.plan.specs.declared.plan.Held.{Held}
use Rattle.plan.specs.declared.plan.TakePlan.{TakePlan}
use Rattle.plan.specs.declared.plan.TakePlan.TheVariants as taken
use Rattle.plan.proofs.Way.{HoldsWay, plug_way}
use Rattle.plan.proofs.Chains.{chain_split, places_append, end_owner}
use Rattle.plan.proofs.CellAt.{right_cell}
use Rattle.plan.proofs.Leads.{lead_cell, lead_leaf, lead_found}
use Rattle.plan.proofs.HeldPlanned.{leaf_hung, hung_whole}

module _ {P : Type 0} (L : Layout P) (laid : Laid L) where
  -- ---- at the end of a way

  module _ (c : ℕ) (ws inner : List ℕ) (n a : ℕ) (k : Place) (inside : k.0 < c) where
    pub lone_last : n ≡ 0 → LoneRight L c ws inner n a k.0 (taken.Last k)
    lone_last z = record { in_pool = inside; exact = λ w t h e p f. (none w (sym e ∙ z), refl) }
      where
        none : (w : List (Step ℕ (Seat P))) → length w ≡ 0 → w ≡ []
        none [] e = refl
        none (d ∷ w) e = absurd (omega arith)

    -- the side that the address does not take
    other : (x j b s link : ℕ) → x ≡ j → mark_at L c ws j ≡ suc b → bit L.rules.width b a ≡ s
        → link ≡ toward (bit L.rules.width (mark_at L c ws x - 1) a) (right_at L c ws x) (left_at L c ws x)
        → toward s (right_at L c ws j) (left_at L c ws j) ≡ link
    other x j b s link e m q h =
        let y : bit L.rules.width (mark_at L c ws x - 1) a ≡ s = ap (λ (z : ℕ). bit L.rules.width z a) (omega (arith, ap (mark_at L c ws) e, m)) ∙ q in
        sym (subst (λ (z : ℕ). link ≡ toward s (right_at L c ws z) (left_at L c ws z)) e (subst (λ (z : ℕ). link ≡ toward z (right_at L c ws x) (left_at L c ws x)) y h))

    pub lone_leaf : (up link : ℕ) (j : Place) → (n ≡ 0 → ⊥) → WayUsable L c ws inner n → CellRight L c ws inner (n - 1) a up → j.0 ≡ get_or inner (n - 1) 0
        → link ≡ toward (bit L.rules.width (mark_at L c ws j.0 - 1) a) (right_at L c ws j.0) (left_at L c ws j.0) → LoneRight L c ws inner n a k.0 (taken.Leaf up j link k)
    lone_leaf up link j z u x q y = record {
      in_pool = (x.in_pool, subst (λ (m : ℕ). m < c) (sym q) (u.usable (n - 1) (omega arith)).in_pool, inside);
      exact = λ w t h e p f. go w e p f (plug_way L c ws w t h).0;
    }
      where
        go : (w : List (Step ℕ (Seat P))) → n ≡ length w → Kept inner w → Follows L.rules.width a w → HoldsWay L c ws w → LoneAt L c ws k.0 w (taken.Leaf up j link k)
        go [] e p f h = absurd (z e)
        go (went_left i b r ∷ w) e p f h =
            let m : n - 1 ≡ length w = omega arith in
            let same : j.0 ≡ i = q ∙ ap (λ (y : ℕ). get_or inner y 0) m ∙ p.0 in
            (went_left i b r, w, refl, sym same, right_cell L laid c ws inner (n - 1) a up w x m p.1 f.1 h.4, other j.0 i b 0 link same h.1 f.0 y, refl)
        go (went_right i b r ∷ w) e p f h =
            let m : n - 1 ≡ length w = omega arith in
            let same : j.0 ≡ i = q ∙ ap (λ (y : ℕ). get_or inner y 0) m ∙ p.0 in
            (went_right i b r, w, refl, sym same, right_cell L laid c ws inner (n - 1) a up w x m p.1 f.1 h.4, other j.0 i b 1 link same h.1 f.0 y, refl)

  -- ---- along the leaf's routes

  module _ (c : ℕ) (ws : List ℕ) (a from n : ℕ) (es : List (Entry (Seat P))) (cell j : ℕ) (h : Chain L c ws a (word ws from) es) (v : HungIn L from n es cell j) where
    -- what hangs behind the route
    behind : Chain L c ws a (next_at L ws j) v.shorter
    behind =
        let w = chain_split L c ws a from v.longer (v.entry ∷ v.shorter) (subst (λ (xs : List (Entry (Seat P))). Chain L c ws a (word ws from) xs) (sym v.whole) h) in
        subst (λ (x : ℕ). Chain L c ws a (next_at L ws x) v.shorter) v.place_is w.1.2

    -- where it does not hang from the leaf's cell, or a link is behind it, it has others beside it
    pub some_others : (cell ≡ from → ⊥) ⊎ (next_at L ws j ≡ 0 → ⊥) → v.longer ++ v.shorter ≡ [] → ⊥
    some_others = go v.longer v.shorter v.cell_is behind
      where
        go : (xs ys : List (Entry (Seat P))) → end_cell L from xs ≡ cell → Chain L c ws a (next_at L ws j) ys → (cell ≡ from → ⊥) ⊎ (next_at L ws j ≡ 0 → ⊥)
            → xs ++ ys ≡ [] → ⊥
        go [] [] e k (inl o) z = o (sym e)
        go [] [] e k (inr o) z = o k
        go [] (y ∷ ys) e k o z = let f : ◌≡◌ {A = ℕ} 0 1 = cc in omega arith
        go (x ∷ xs) ys e k o z = let f : ◌≡◌ {A = ℕ} 0 1 = cc in omega arith

    -- else it is alone, since no route's link is the cell of a way
    pub no_others : (w : List (Step ℕ (Seat P))) → cell_of L c w ≡ from → ((i : ℕ) → Among i (chain_places es) → i < c) → cell ≡ from → next_at L ws j ≡ 0 → v.entry ∷ [] ≡ es
    no_others w e inside f z =
        let before : v.longer ≡ [] = first v.longer (v.cell_is ∙ f) (λ m k. inside m (subst (λ (xs : List (Entry (Seat P))). Among m (chain_places xs)) v.whole (front m k))) in
        let after : v.shorter ≡ [] = chain_end L c ws a (next_at L ws j) v.shorter behind z in
        sym (λ i. before i ++ (v.entry ∷ after i)) ∙ v.whole
      where
        front : (m : ℕ) → Among m (chain_places v.longer) → Among m (chain_places (v.longer ++ (v.entry ∷ v.shorter)))
        front m k = subst (Among m) (sym (places_append v.longer (v.entry ∷ v.shorter))) (among_append m (chain_places v.longer) (chain_places (v.entry ∷ v.shorter)) (inl k))

        apart : (w : List (Step ℕ (Seat P))) (m : ℕ) → m < c → cell_of L c w ≡ L.seat m + L.next_offset → ⊥
        apart [] m l q = omega (arith, laid.seat_past m)
        apart (went_left i b r ∷ w) m l q = omega (arith, laid.joint_past c m i l, laid.next_fits)
        apart (went_right i b r ∷ w) m l q = omega (arith, laid.joint_past c m i l, laid.next_fits)

        first : (xs : List (Entry (Seat P))) → end_cell L from xs ≡ from → ((m : ℕ) → Among m (chain_places xs) → m < c) → xs ≡ []
        first [] q g = refl
        first (x ∷ xs) q g = let o = end_owner L from x xs in absurd (apart w o.0 (g o.0 o.1) (e ∙ sym q ∙ o.2))

  -- ---- in the whole tree

  module _ (c : ℕ) (ws : List ℕ) (p : Prefix) (inner : List ℕ) (deep : ℕ) (stop : End) (ways : Ways L c ws p.address inner deep stop) where
    pub take_empty : stop ≡ Ok None → TakeRight L c ws p None
    take_empty e = record { in_pool = tt; exact = λ t q h g f. led_not_empty L c ws p.address inner deep stop t (ways.leads t h g) e }

    pub take_damaged : {d : Damage} → stop ≡ Err d → TakeRight L c ws p None
    take_damaged e = record { in_pool = tt; exact = λ t q h g f. led_not_damaged L c ws p.address inner deep stop t (ways.leads t h g) e }

    module _ (i : Place) (e : stop ≡ Ok (Some i)) (from : ℕ) (x : CellRight L c ws inner deep p.address from) where
      -- none of the leaf's routes has the length
      pub take_none : HungFrom L c ws from i.0 p.length None → TakeRight L c ws p None
      take_none y = record { in_pool = tt; exact = λ t q h g f. leaf_hung L laid c ws p inner deep stop ways i e from x None y t q h g f }

      -- the leaf's routes hang from its cell
      leaf_chain : (t : Seated P) (h : Holds L c ws (root_in ws) t) (g : Good L.rules.width (bare t)) (l : Led L c ws p.address inner deep stop t)
          → Chain L c ws l.address (word ws from) (l.entry ∷ l.rest)
      leaf_chain t h g l =
          subst (λ (y : ℕ). Chain L c ws l.address (word ws y) (l.entry ∷ l.rest)) (lead_cell L laid c ws p inner deep stop t h g l from x)
          (lead_leaf L laid c ws p inner deep stop t h g l)

      module _ (at : Held) (y : HungFrom L c ws from i.0 p.length (Some at)) where
        pub take_link : (at.cell ≡ from → ⊥) ⊎ (next_at L ws at.place.0 ≡ 0 → ⊥) → TakeRight L c ws p (Some (taken.Link at.cell at.place))
        unfolding hung_whole
        take_link o = record { in_pool = y.in_pool; exact = linked }
          where
            linked : (t : Seated P) (q : Route P) → Holds L c ws (root_in ws) t → Good L.rules.width (bare t) → find p (routes (bare t)) ≡ some q
                → TakenAt L c ws p t (Some (taken.Link at.cell at.place))
            linked t q h g f =
                let l = ways.leads t h g in
                let v = leaf_hung L laid c ws p inner deep stop ways i e from x (Some at) y t q h g f in (
                  v.entry,
                  hung_whole L laid c ws p inner deep stop ways i e from x t q h g f at.cell at.place.0 v,
                  v.place_is,
                  some_others c ws l.address from p.length (l.entry ∷ l.rest) at.cell at.place.0 (leaf_chain t h g l) v o,
                )

        pub take_lone : (r : TakePlan) → at.cell ≡ from → next_at L ws at.place.0 ≡ 0 → LoneRight L c ws inner deep p.address at.place.0 r
            → TakeRight L c ws p (Some r)
        take_lone r same z d = record {
          in_pool = d.in_pool;
          exact = λ t q h g f. alone t q h g f r (d.exact (ways.leads t h g).way _ (subst (Holds L c ws (root_in ws)) (sym (ways.leads t h g).whole) h)
              (ways.leads t h g).steps (ways.leads t h g).places (ways.leads t h g).follows);
        }
          where
            alone : (t : Seated P) (q : Route P) (h : Holds L c ws (root_in ws) t) (g : Good L.rules.width (bare t)) → find p (routes (bare t)) ≡ some q → (r : TakePlan)
                → LoneAt L c ws at.place.0 (ways.leads t h g).way r → TakenAt L c ws p t (Some r)
            alone t q h g f r b = go r b
              where
                l : Led L c ws p.address inner deep stop t
                l = ways.leads t h g

                v : HungIn L from p.length (l.entry ∷ l.rest) at.cell at.place.0
                v = leaf_hung L laid c ws p inner deep stop ways i e from x (Some at) y t q h g f

                whole : plug l.way (leaf p.address (v.entry ∷ [])) ≡ t
                whole =
                    let one = no_others c ws l.address from p.length (l.entry ∷ l.rest) at.cell at.place.0 (leaf_chain t h g l) v l.way
                    (lead_cell L laid c ws p inner deep stop t h g l from x)
                    (routes_in_pool L c ws ws _ (leaf l.address (l.entry ∷ l.rest)) (lead_leaf L laid c ws p inner deep stop t h g l)) same z in
                    let mine = (lead_found L laid c ws p inner deep stop t h g l q f).0 in
                    (λ k. plug l.way (leaf (mine k) (one k))) ∙ l.whole

                go : (r : TakePlan) → LoneAt L c ws at.place.0 l.way r → TakenAt L c ws p t (Some r)
                go (taken.Link up k) b = absurd b
                go (taken.Leaf up m link k) b = (
                  v.entry,
                  b.0,
                  b.1,
                  subst (λ (w : List (Step ℕ (Seat P))). plug w (leaf p.address (v.entry ∷ [])) ≡ t) b.2 whole,
                  subst (Follows L.rules.width p.address) b.2 l.follows,
                  v.length_is,
                  v.place_is ∙ sym b.6,
                  b.3,
                  b.4,
                  b.5,
                )
                go (taken.Last k) b = (v.entry, subst (λ (w : List (Step ℕ (Seat P))). plug w (leaf p.address (v.entry ∷ [])) ≡ t) b.0 whole, v.length_is, v.place_is ∙ sym b.1)
