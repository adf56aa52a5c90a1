-- The last route of an address, taken out: its leaf goes with its inner place, and the sibling takes their place. The last route of the table leaves none.
use Prim.Native.Nat.{ℕ, ◌+◌, ◌-◌, ◌≤◌, ◌<◌}
use mathlib.Core.Path.{◌≡◌, refl, sym, ap, subst, ◌∙◌}
use mathlib.Core.List.{List, [], ◌∷◌, ◌++◌}
use mathlib.Core.Logic.{◌⊎◌, inl, inr, ⊎_elim}
use mathlib.Core.Option.{none, some}
use native.Mathlib.Omega.{arith}
use borrow.Author.Tests.{eq-eqb}
use lib.ListN.{length}
use Rattle.bits.proofs.Cases.{eq_or_ne}
use Rattle.model.specs.Prefix.{Prefix}
use Rattle.model.specs.Routes.{Route, find, remove}
use Rattle.model.specs.State.{State, changes}
use Rattle.model.specs.Call.{with_trial}
use Rattle.model.proofs.Edits.{length_remove}
use Rattle.patricia.specs.Good.{RootGood}
use Rattle.patricia.specs.Tree.{Entry, leaf, root_routes}
use Rattle.patricia.specs.Way.{Step, went_left, went_right, plug, Follows}
use Rattle.patricia.proofs.Take.{unhang, leaf_of, take_out, take_good, take_routes}
use Rattle.patricia.proofs.Zip.{plug_root, take_plug}
use Rattle.pool.specs.Layout.{word, Layout, kind_at, mark_at}
use Rattle.pool.specs.Holds.{Seat, Seated, bare, Holds, route_places, inner_places}
use Rattle.pool.specs.Means.{Among}
use Rattle.pool.proofs.Distinct.{Distinct}
use Rattle.pool.proofs.Frame.{RouteSame, InnerSame, holds_frame, among_append, append_among, routes_in_pool, inners_in_pool}
use Rattle.plan.specs.Cells.{cell_of, place_of, sibling, sibling_link}
use Rattle.pool.specs.Write.{writes}
use Rattle.rows.specs.Writes.{last_writes, drop_writes}
use Rattle.search.proofs.Bare.{bare_way, bare_plug, bare_follows}
use Rattle.plan.proofs.Way.{HoldsWay, way_plug, plug_way, way_routes, way_inners, routes_plug, plug_routes, inners_plug, plug_inners, InnerBut, inner_whole, way_frame}
use Rattle.edit.proofs.Apart.{Asunder, asunder, routes_apart_lem, inners_apart_lem}
use Rattle.plan.proofs.Chains.{route_whole}
use Rattle.edit.proofs.Join.{cell_owner}
use Rattle.edit.proofs.Rehang.{cell_range}
use Rattle.pool.proofs.Writes.{word_off, word_on}
use Rattle.pool.proofs.Laid.{Laid, one_joint, one_seat0, one_joint0, payload_fits, head_in, seat_in, joint_in}
use Rattle.edit.proofs.Spared.{Clear, way_cell, cell_clear, seats_apart_lem, route_spared, inner_spared, aside}
use Rattle.edit.proofs.Stands.{Stands}
use Rattle.edit.specs.Encodes.{Encodes}
use Rattle.edit.proofs.Encodes.{encodes_edit}

module _ {P : Type 0} (L : Layout P) (laid : Laid L) where
  -- ---- the last route of the table

  pub last_encodes : (ws : List ℕ) (s : State P) (e : Encodes L ws s) → length (changes s.trial) ≤ L.rules.standing → (x : Entry (Seat P)) (p : Prefix) (q : Route P)
      → x.length ≡ p.length
      → Stands L laid ws s (leaf p.address (x ∷ [])) → find p s.routes ≡ some q
      → Encodes L (writes (last_writes L ws x.payload.place) ws) (with_trial s (remove p s.routes) s.trial)
  last_encodes ws s e few x p q n st there =
      let i = x.payload.place in
      let zs = writes (last_writes L ws i) ws in
      let small : i < s.capacity = st.held.1.in_pool in
      let taken : take_out L.rules.width p (bare (leaf p.address (x ∷ []))) ≡ none = rw (eq-eqb p.length x.length (sym n)) in
      let before = ap (find p) st.table ∙ there in
      encodes_edit L ws zs s (remove p s.routes) none e few
      (aside L laid ws (last_writes L ws i) s.capacity (λ f. omega arith, (λ f. omega (arith, laid.seat_past i), (λ f. omega arith, tt)))
      (λ f. omega arith, (λ f. omega (arith, laid.seat_past i), (λ f. omega arith, tt))) (λ f. omega arith, (λ f. omega (arith, laid.seat_past i), (λ f. omega arith, tt)))
      (λ y k. (
        λ f. omega (arith, laid.slot_first s.capacity 0),
        (
          λ f. omega (arith, laid.joint_past s.capacity i i small, laid.slot_past s.capacity i 0 small, payload_fits laid),
          (λ f. omega (arith, laid.slot_first s.capacity 0), tt),
        ),
      )))
      (word_on 1 (word ws 1 - 1) (last_writes L ws i) ws (omega (arith, e.long_enough, head_in laid s.capacity)) (inr (inr (inl (refl, refl, tt)))) ∙ omega
      (arith, e.count_there, length_remove p q s.routes there))
      (word_on 2 0 (last_writes L ws i) ws (omega (arith, e.long_enough, head_in laid s.capacity)) (inl (refl, refl, (λ f. omega (arith, laid.seat_past i), (λ f. omega arith, tt))))) tt
      (ap root_routes (sym taken) ∙ take_routes L.rules.width p q (bare (leaf p.address (x ∷ []))) st.good before ∙ ap (remove p) st.table)
      (λ y m u. gone y m u (eq_or_ne y i))
      (λ y m u. st.inners_used y m
      (subst (λ (z : ℕ). 1 ≤ z) (sym (word_off (L.joint s.capacity y) (last_writes L ws i) ws (
        λ f. omega (arith, laid.joint_first s.capacity y),
        (λ f. omega (arith, laid.joint_past s.capacity i y small, payload_fits laid), (λ f. omega (arith, laid.joint_first s.capacity y), tt)),
      ))) u))
    where
      gone : (y : ℕ) → y < s.capacity → 1 ≤ kind_at L (writes (last_writes L ws x.payload.place) ws) y → (y ≡ x.payload.place) ⊎ (y ≡ x.payload.place → ⊥) → Among y []
      gone y m u (inl f) =
          let i = x.payload.place in
          let small : i < s.capacity = st.held.1.in_pool in
          let freed =
          word_on (L.seat i) 0 (last_writes L ws i) ws (omega (arith, e.long_enough, seat_in laid s.capacity i small, payload_fits laid))
          (inr (inl (refl, refl, (λ f. omega (arith, laid.seat_past i), tt)))) in
          absurd (omega (arith, freed, subst (λ (z : ℕ). 1 ≤ kind_at L (writes (last_writes L ws i) ws) z) f u))
      gone y m u (inr d) =
          let i = x.payload.place in
          let same = word_off (L.seat y) (last_writes L ws i) ws (λ f. omega (arith, laid.seat_past y), (λ f. d (one_seat0 L laid y i f), (λ f. omega (arith, laid.seat_past y), tt))) in
          ⊎_elim (λ f. absurd (d f)) (λ z. z) (st.routes_used y m (subst (λ (z : ℕ). 1 ≤ z) (sym same) u))

  -- ---- a leaf with a sibling

  step_holds : (c : ℕ) (ws : List ℕ) (d : Step ℕ (Seat P)) (w : List (Step ℕ (Seat P))) → HoldsWay L c ws (d ∷ w)
      → (place_of d < c) × Holds L c ws (sibling_link L c ws d) (sibling d) × HoldsWay L c ws w
  step_holds c ws (went_left j b r) w h = (h.0, h.2, h.4)
  step_holds c ws (went_right j b l) w h = (h.0, h.2, h.4)

  step_inners : (d : Step ℕ (Seat P)) (w : List (Step ℕ (Seat P))) → way_inners (d ∷ w) ≡ place_of d ∷ (inner_places (sibling d) ++ way_inners w)
  step_inners (went_left j b r) w = refl
  step_inners (went_right j b l) w = refl

  step_routes : (d : Step ℕ (Seat P)) (w : List (Step ℕ (Seat P))) → way_routes (d ∷ w) ≡ route_places (sibling d) ++ way_routes w
  step_routes (went_left j b r) w = refl
  step_routes (went_right j b l) w = refl

  step_plug : (d : Step ℕ (Seat P)) (w : List (Step ℕ (Seat P))) → plug_root (bare_way (d ∷ w)) none ≡ some (plug (bare_way w) (bare (sibling d)))
  step_plug (went_left j b r) w = refl
  step_plug (went_right j b l) w = refl

  module _ (ws : List ℕ) (s : State P) (e : Encodes L ws s) (few : length (changes s.trial) ≤ L.rules.standing) (t : Seated P) (st : Stands L laid ws s t) (p : Prefix)
      (x : Entry (Seat P)) (d : Step ℕ (Seat P)) (w : List (Step ℕ (Seat P)))
      (q : Route P) (whole : plug (d ∷ w) (leaf p.address (x ∷ [])) ≡ t) (follows : Follows L.rules.width p.address (d ∷ w)) (n : x.length ≡ p.length) (there : find p s.routes ≡ some q) where
    held_old : Holds L s.capacity ws (word ws 2) (plug (d ∷ w) (leaf p.address (x ∷ [])))
    held_old = subst (Holds L s.capacity ws (word ws 2)) (sym whole) st.held

    way : HoldsWay L s.capacity ws (d ∷ w)
    way = (plug_way L s.capacity ws (d ∷ w) (leaf p.address (x ∷ [])) held_old).0

    small : x.payload.place < s.capacity
    small = (plug_way L s.capacity ws (d ∷ w) (leaf p.address (x ∷ [])) held_old).1.1.in_pool

    inners : Asunder [] (way_inners (d ∷ w))
    inners = inners_apart_lem (d ∷ w) (leaf p.address (x ∷ [])) (subst (λ (y : Seated P). Distinct (inner_places y)) (sym whole) st.inners_apart)

    routes_of : Asunder (x.payload.place ∷ []) (way_routes (d ∷ w))
    routes_of = routes_apart_lem (d ∷ w) (leaf p.address (x ∷ [])) (subst (λ (y : Seated P). Distinct (route_places y)) (sym whole) st.routes_apart)

    -- the inner place that goes, and those that stay
    inners_apart : Distinct (place_of d ∷ (inner_places (sibling d) ++ way_inners w))
    inners_apart = subst Distinct (step_inners d w) inners.second

    sides : Asunder (inner_places (sibling d)) (way_inners w)
    sides = asunder (inner_places (sibling d)) (way_inners w) inners_apart.1

    clear : Clear L laid s.capacity (cell_of L s.capacity w)
    clear = cell_clear L laid s.capacity (cell_of L s.capacity w) (way_cell L laid s.capacity ws w (step_holds s.capacity ws d w way).2)

    no_next : (y : ℕ) → y < s.capacity → L.seat y + L.next_offset ≡ cell_of L s.capacity w → ⊥
    no_next y l f = cell_range L laid s.capacity w y l (sym f)

    -- a word of another place is not this one's first, and a side of an inner place is no mark
    other_seat : (y i z : ℕ) → (y ≡ i → ⊥) → L.seat y ≤ z → z < L.seat y + laid.seat_words → z ≡ L.seat i → ⊥
    other_seat y i z m a b f = ⊎_elim (λ u. omega (arith, u)) (λ u. omega (arith, u, payload_fits laid)) (seats_apart_lem L laid y i z m a b)

    not_mark : (y k : ℕ) → (1 ≤ k) × (k < 3) → L.joint s.capacity y + k ≡ L.joint s.capacity (place_of d) → ⊥
    not_mark y k b g = let o = one_joint L laid s.capacity y (place_of d) k 0 b.1 (omega arith) (g ∙ omega arith) in omega (arith, o.1, b.0)

    route_kept : (y : ℕ) → y < s.capacity → (y ≡ x.payload.place → ⊥)
        → RouteSame L ws (writes (drop_writes L ws s.capacity x.payload.place (place_of d) (cell_of L s.capacity w) (sibling_link L s.capacity ws d)) ws) y
    route_kept y l m =
        let zs = drop_writes L ws s.capacity x.payload.place (place_of d) (cell_of L s.capacity w) (sibling_link L s.capacity ws d) in
        route_whole L ws (writes zs ws) (cell_of L s.capacity w) y (no_next y l)
        (route_spared L laid ws zs (cell_of L s.capacity w) y
        (λ z a b. (
          clear.route y z l a (omega (arith, laid.next_fits)) (omega arith),
          (
            λ f. omega (arith, laid.joint_past s.capacity y (place_of d) l, laid.next_fits),
            (λ f. other_seat y x.payload.place z m a (omega (arith, laid.next_fits)) f, (λ f. omega (arith, laid.seat_past y), tt)),
          ),
        ))
        (λ f. (
          f,
          (
            λ g. omega (arith, laid.joint_past s.capacity y (place_of d) l, laid.next_fits),
            (
              λ g. other_seat y x.payload.place (L.seat y + L.next_offset) m (omega arith) (omega (arith, laid.next_fits)) g,
              (λ g. omega (arith, laid.seat_past y), tt),
            ),
          ),
        )))

    inner_kept : (y : ℕ) → y < s.capacity → (y ≡ place_of d → ⊥)
        → InnerBut L s.capacity ws (writes (drop_writes L ws s.capacity x.payload.place (place_of d) (cell_of L s.capacity w) (sibling_link L s.capacity ws d)) ws) (cell_of L s.capacity w) y
    inner_kept y l m =
        inner_spared L laid ws (drop_writes L ws s.capacity x.payload.place (place_of d) (cell_of L s.capacity w) (sibling_link L s.capacity ws d)) s.capacity
        (cell_of L s.capacity w) y (
          clear.mark y l,
          (
            λ f. m (one_joint0 L laid s.capacity y (place_of d) f),
            (λ f. omega (arith, laid.joint_past s.capacity x.payload.place y small, payload_fits laid), (λ f. omega (arith, laid.joint_first s.capacity y), tt)),
          ),
        )
        (λ f. (
          f,
          (
            λ g. not_mark y 1 (omega arith) g,
            (λ g. omega (arith, laid.joint_past s.capacity x.payload.place y small, payload_fits laid), (λ g. omega (arith, laid.joint_first s.capacity y), tt)),
          ),
        ))
        (λ f. (
          f,
          (
            λ g. not_mark y 2 (omega arith) g,
            (λ g. omega (arith, laid.joint_past s.capacity x.payload.place y small, payload_fits laid), (λ g. omega (arith, laid.joint_first s.capacity y), tt)),
          ),
        ))

    -- the places that stay are in the pool, and none of them is one that goes
    on_way : (y : ℕ) → Among y (inner_places (sibling d) ++ way_inners w) → (y < s.capacity) × (y ≡ place_of d → ⊥)
    on_way y k = (
      inners_in_pool L s.capacity ws ws (word ws 2) (plug (d ∷ w) (leaf p.address (x ∷ []))) held_old y
          (plug_inners (d ∷ w) (leaf p.address (x ∷ [])) y (inr (subst (Among y) (sym (step_inners d w)) (inr k)))),
      λ f. inners_apart.0 (subst (λ (z : ℕ). Among z (inner_places (sibling d) ++ way_inners w)) f k),
    )

    routes_on : (y : ℕ) → Among y (route_places (sibling d) ++ way_routes w) → (y < s.capacity) × (y ≡ x.payload.place → ⊥)
    routes_on y k =
        let there = subst (Among y) (sym (step_routes d w)) k in (
          routes_in_pool L s.capacity ws ws (word ws 2) (plug (d ∷ w) (leaf p.address (x ∷ []))) held_old y (plug_routes (d ∷ w) (leaf p.address (x ∷ [])) y (inr there)),
          λ f. routes_of.apart y (inl f) there,
        )

    -- a place of the sibling stays whole: the cell is on the way
    sibling_kept : (y : ℕ) → Among y (inner_places (sibling d))
        → InnerSame L s.capacity ws (writes (drop_writes L ws s.capacity x.payload.place (place_of d) (cell_of L s.capacity w) (sibling_link L s.capacity ws d)) ws) y
    sibling_kept y k = go (cell_owner L laid s.capacity w)
      where
        at : (y < s.capacity) × (y ≡ place_of d → ⊥)
        at = on_way y (among_append y (inner_places (sibling d)) (way_inners w) (inl k))

        b : InnerBut L s.capacity ws (writes (drop_writes L ws s.capacity x.payload.place (place_of d) (cell_of L s.capacity w) (sibling_link L s.capacity ws d)) ws) (cell_of L s.capacity w) y
        b = inner_kept y at.0 at.1

        go : (cell_of L s.capacity w ≡ 2) ⊎ ((o : ℕ) × Among o (way_inners w) × ((cell_of L s.capacity w ≡ L.joint s.capacity o + 1) ⊎ (cell_of L s.capacity w ≡ L.joint s.capacity o + 2)))
            → InnerSame L s.capacity ws (writes (drop_writes L ws s.capacity x.payload.place (place_of d) (cell_of L s.capacity w) (sibling_link L s.capacity ws d)) ws) y
        go (inl f) = record { mark = b.mark; left = b.left (λ g. omega (arith, laid.joint_first s.capacity y)); right = b.right (λ g. omega (arith, laid.joint_first s.capacity y)) }
        go (inr v) =
            inner_whole L laid s.capacity ws
            (writes (drop_writes L ws s.capacity x.payload.place (place_of d) (cell_of L s.capacity w) (sibling_link L s.capacity ws d)) ws) (cell_of L s.capacity w) y
            v.0 v.2
            (λ f. sides.apart y k (subst (λ (z : ℕ). Among z (way_inners w)) (sym f) v.1)) b

    dropped_holds : Holds L s.capacity (writes (drop_writes L ws s.capacity x.payload.place (place_of d) (cell_of L s.capacity w) (sibling_link L s.capacity ws d)) ws)
        (word (writes (drop_writes L ws s.capacity x.payload.place (place_of d) (cell_of L s.capacity w) (sibling_link L s.capacity ws d)) ws) 2) (plug w (sibling d))
    dropped_holds =
        let ys = drop_writes L ws s.capacity x.payload.place (place_of d) (cell_of L s.capacity w) (sibling_link L s.capacity ws d) in
        let zs = writes ys ws in
        let f = step_holds s.capacity ws d w way in
        let link = word_on (cell_of L s.capacity w) (sibling_link L s.capacity ws d) ys ws (omega (arith, clear.below, e.long_enough, laid.places_in s.capacity))
        (inl (
          refl,
          refl,
          (
            λ g. clear.mark (place_of d) f.0 (sym g),
            (
              λ g. clear.route x.payload.place (cell_of L s.capacity w) small (omega arith) (omega (arith, payload_fits laid)) (λ h. omega (arith, laid.in_seat))
                  refl,
              (clear.head.1, tt),
            ),
          ),
        ))
        in
        let stays : HoldsWay L s.capacity zs w = way_frame L laid s.capacity ws zs w sides.second
        (λ y k. let a = routes_on y (among_append y (route_places (sibling d)) (way_routes w) (inr k)) in route_kept y a.0 a.1)
        (λ y k. let a = on_way y (among_append y (inner_places (sibling d)) (way_inners w) (inr k)) in inner_kept y a.0 a.1)
        (λ g. word_off 2 ys ws (g, (λ h. omega (arith, laid.joint_first s.capacity (place_of d)), (λ h. omega (arith, laid.seat_past x.payload.place), (λ h. omega arith, tt))))) f.2 in
        let part = holds_frame L s.capacity ws zs (sibling_link L s.capacity ws d) (sibling d)
        (λ y k. let a = routes_on y (among_append y (route_places (sibling d)) (way_routes w) (inl k)) in route_kept y a.0 a.1) sibling_kept f.1 in
        way_plug L s.capacity zs w (sibling d) stays (subst (λ (y : ℕ). Holds L s.capacity zs y (sibling d)) (sym link) part)

    bare_dropped : take_out L.rules.width p (bare t) ≡ some (bare (plug w (sibling d)))
    bare_dropped =
        let a = p.address in
        ap (take_out L.rules.width p) (sym (ap bare whole) ∙ bare_plug (d ∷ w) (leaf a (x ∷ [])))
        ∙ take_plug L.rules.width p (bare_way (d ∷ w)) (leaf a (record { length = x.length; payload = x.payload.held } ∷ [])) (bare_follows L.rules.width a (d ∷ w) follows)
        ∙ ap (plug_root (bare_way (d ∷ w))) gone ∙ step_plug d w ∙ ap some (sym (bare_plug w (sibling d)))
      where
        gone : leaf_of {N = ℕ} p.address (unhang p.length (record { length = x.length; payload = x.payload.held } ∷ [])) ≡ none
        gone = rw (eq-eqb p.length x.length (sym n))

    pub drop_encodes : Encodes L (writes (drop_writes L ws s.capacity x.payload.place (place_of d) (cell_of L s.capacity w) (sibling_link L s.capacity ws d)) ws) (with_trial s (remove p s.routes) s.trial)
    drop_encodes =
        let ys = drop_writes L ws s.capacity x.payload.place (place_of d) (cell_of L s.capacity w) (sibling_link L s.capacity ws d) in
        let zs = writes ys ws in
        let before = ap (find p) st.table ∙ there in
        let f = step_holds s.capacity ws d w way in
        encodes_edit L ws zs s (remove p s.routes) (some (plug w (sibling d))) e few
        (aside L laid ws ys s.capacity (
          λ g. clear.head.0 (sym g),
          (λ h. omega (arith, laid.joint_first s.capacity (place_of d)), (λ h. omega (arith, laid.seat_past x.payload.place), (λ h. omega arith, tt))),
        ) (
          λ g. clear.head.2 (sym g),
          (λ h. omega (arith, laid.joint_first s.capacity (place_of d)), (λ h. omega (arith, laid.seat_past x.payload.place), (λ h. omega arith, tt))),
        )
        (λ g. clear.head.3 (sym g), (λ h. omega (arith, laid.joint_first s.capacity (place_of d)), (λ h. omega (arith, laid.seat_past x.payload.place), (λ h. omega arith, tt))))
        (λ y k. (
          λ g. omega (arith, clear.below),
          (
            λ g. omega (arith, laid.slot_past s.capacity (place_of d) 0 f.0),
            (
              λ g. omega
                  (arith, laid.joint_past s.capacity x.payload.place (place_of d) small, laid.slot_past s.capacity (place_of d) 0 f.0, payload_fits laid),
              (λ g. omega (arith, laid.slot_first s.capacity 0), tt),
            ),
          ),
        )))
        (word_on 1 (word ws 1 - 1) ys ws (omega (arith, e.long_enough, head_in laid s.capacity)) (inr (inr (inr (inl (refl, refl, tt))))) ∙ omega
        (arith, e.count_there, length_remove p q s.routes there))
        dropped_holds (subst (RootGood L.rules.width) bare_dropped (take_good L.rules.width p (bare t) st.good))
        (ap root_routes (sym bare_dropped) ∙ take_routes L.rules.width p q (bare t) st.good before ∙ ap (remove p) st.table)
        (λ y m u. used y m u (eq_or_ne y x.payload.place)) (λ y m u. used_inner y m u (eq_or_ne y (place_of d)))
      where
        used : (y : ℕ) → y < s.capacity
            → 1 ≤ kind_at L (writes (drop_writes L ws s.capacity x.payload.place (place_of d) (cell_of L s.capacity w) (sibling_link L s.capacity ws d)) ws) y
            → (y ≡ x.payload.place) ⊎ (y ≡ x.payload.place → ⊥) → Among y (route_places (plug w (sibling d)))
        used y m u (inl f) =
            let freed = word_on (L.seat x.payload.place) 0 (drop_writes L ws s.capacity x.payload.place (place_of d) (cell_of L s.capacity w) (sibling_link L s.capacity ws d)) ws
            (omega (arith, e.long_enough, seat_in laid s.capacity x.payload.place small, payload_fits laid))
            (inr (inr (inl (refl, refl, (λ h. omega (arith, laid.seat_past x.payload.place), tt))))) in
            absurd
            (omega (
              arith,
              freed,
              subst (λ (z : ℕ). 1 ≤ kind_at L
                  (writes (drop_writes L ws s.capacity x.payload.place (place_of d) (cell_of L s.capacity w) (sibling_link L s.capacity ws d)) ws) z) f u,
            ))
        used y m u (inr g) =
            let was = st.routes_used y m (subst (λ (z : ℕ). 1 ≤ z) (sym (route_kept y m g).kind) u) in
            let there = routes_plug (d ∷ w) (leaf p.address (x ∷ [])) y (subst (λ (z : Seated P). Among y (route_places z)) (sym whole) was) in
            plug_routes w (sibling d) y
            (⊎_elim (λ k. absurd (⊎_elim (λ f. g f) (λ z. z) k)) (λ k. append_among y (route_places (sibling d)) (way_routes w) (subst (Among y) (step_routes d w) k)) there)

        used_inner : (y : ℕ) → y < s.capacity
            → 1 ≤ mark_at L s.capacity (writes (drop_writes L ws s.capacity x.payload.place (place_of d) (cell_of L s.capacity w) (sibling_link L s.capacity ws d)) ws) y
            → (y ≡ place_of d) ⊎ (y ≡ place_of d → ⊥) → Among y (inner_places (plug w (sibling d)))
        used_inner y m u (inl f) =
            let h = step_holds s.capacity ws d w way in
            let freed = word_on (L.joint s.capacity (place_of d)) 0 (drop_writes L ws s.capacity x.payload.place (place_of d) (cell_of L s.capacity w) (sibling_link L s.capacity ws d)) ws
            (omega (arith, e.long_enough, joint_in laid s.capacity (place_of d) h.0))
            (inr (inl (
              refl,
              refl,
              (
                λ g. omega (arith, laid.joint_past s.capacity x.payload.place (place_of d) small, payload_fits laid),
                (λ g. omega (arith, laid.joint_first s.capacity (place_of d)), tt),
              ),
            )))
            in
            absurd
            (omega (
              arith,
              freed,
              subst (λ (z : ℕ). 1 ≤ mark_at L s.capacity
                  (writes (drop_writes L ws s.capacity x.payload.place (place_of d) (cell_of L s.capacity w) (sibling_link L s.capacity ws d)) ws) z) f u,
            ))
        used_inner y m u (inr g) =
            let was = st.inners_used y m (subst (λ (z : ℕ). 1 ≤ z) (sym (inner_kept y m g).mark) u) in
            let there = inners_plug (d ∷ w) (leaf p.address (x ∷ [])) y (subst (λ (z : Seated P). Among y (inner_places z)) (sym whole) was) in
            plug_inners w (sibling d) y (⊎_elim (λ k. absurd k) (λ k. past (subst (Among y) (step_inners d w) k)) there)
          where
            past : Among y (place_of d ∷ (inner_places (sibling d) ++ way_inners w)) → Among y (inner_places (sibling d)) ⊎ Among y (way_inners w)
            past (inl f) = absurd (g f)
            past (inr k) = append_among y (inner_places (sibling d)) (way_inners w) k
