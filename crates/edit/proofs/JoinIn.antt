-- A new address, put in: the words after the writes say the state with the route inserted.
use Prim.Native.Nat.{ℕ, ◌+◌, ◌≤◌, ◌<◌}
use mathlib.Core.Path.{◌≡◌, refl, sym, ap, subst, ◌∙◌}
use mathlib.Core.Bool.{true}
use mathlib.Core.List.{List, [], ◌∷◌, ◌++◌}
use mathlib.Core.Logic.{◌⊎◌, inl, inr, ⊎_elim}
use mathlib.Core.Option.{some}
use native.Mathlib.Numerals.{add-one}
use native.Mathlib.Omega.{arith}
use borrow.Author.Tests.{lt-ltb}
use lib.ListN.{length}
use Rattle.bits.specs.Address.{bit}
use Rattle.bits.proofs.Cases.{eq_or_ne}
use Rattle.model.specs.Prefix.{well_formed}
use Rattle.model.specs.Routes.{Route, insert}
use Rattle.model.specs.State.{State, changes}
use Rattle.model.specs.Call.{with_trial}
use Rattle.model.proofs.Edits.{length_insert}
use Rattle.patricia.specs.Good.{Good}
use Rattle.patricia.specs.Tree.{Entry, leaf, node, routes}
use Rattle.patricia.specs.Obeys.{Grows}
use Rattle.patricia.specs.Way.{toward, Step, went_left, went_right, plug, NotPast}
use Rattle.patricia.proofs.Form.{side}
use Rattle.patricia.proofs.Put.{join, put_at, put_good, put_routes}
use Rattle.patricia.proofs.Zip.{put_plug}
use Rattle.pool.specs.Layout.{word, Layout, kind_at, mark_at, left_at, right_at}
use Rattle.pool.specs.Link.{to_route, to_inner}
use Rattle.pool.specs.Holds.{Seat, Seated, bare_entry, bare, Holds, route_places, inner_places}
use Rattle.pool.specs.Means.{Among}
use Rattle.pool.proofs.Distinct.{Distinct}
use Rattle.pool.proofs.Frame.{RouteSame, among_append}
use Rattle.plan.specs.Cells.{cell_of}
use Rattle.pool.specs.Write.{writes}
use Rattle.rows.specs.Writes.{route_writes, inner_join, join_writes}
use Rattle.plan.specs.Plan.{JoinsAt}
use Rattle.pool.proofs.Places.{inner_used}
use Rattle.search.proofs.Bare.{bare_way, bare_plug, bare_follows}
use Rattle.plan.proofs.Way.{plug_way, way_routes, way_inners, routes_plug, plug_routes, inners_plug, plug_inners, InnerBut}
use Rattle.plan.proofs.Chains.{route_whole}
use Rattle.edit.proofs.Join.{Stays, cell_owner, join_holds}
use Rattle.edit.proofs.Rehang.{cell_range}
use Rattle.pool.proofs.Writes.{Off, On, off_append, on_left, on_right, word_off, word_on}
use Rattle.pool.proofs.Laid.{Laid, head_in, joint_in}
use Rattle.edit.proofs.Spared.{Cell, Clear, way_cell, cell_clear, OffSeat, OffJoint, seats_apart_lem, joints_apart_lem, off_route, off_inner, route_spared, inner_spared, aside}
use Rattle.edit.proofs.Stands.{entry_at, free_new, route_written, next_written, Stands}
use Rattle.edit.specs.Encodes.{Encodes}
use Rattle.edit.proofs.Encodes.{encodes_edit}

module _ {P : Type 0} (L : Layout P) where
  not_past_bare : (k : ℕ) (w : List (Step ℕ (Seat P))) → NotPast k w → NotPast k (bare_way w)
  not_past_bare k [] n = tt
  not_past_bare k (went_left j b r ∷ w) n = (n.0, not_past_bare k w n.1)
  not_past_bare k (went_right j b l ∷ w) n = (n.0, not_past_bare k w n.1)

  bare_join : (j k a : ℕ) (e : Entry (Seat P)) (t : Seated P) → bare (join L.rules.width j k a e t) ≡ join L.rules.width j k a (bare_entry e) (bare t)
  bare_join j k a e t = ⊎_elim (λ z. rw z) (λ z. rw z) (side L.rules.width k a)

  -- past bit k a tree is joined at its root
  join_here : (j k a : ℕ) (e : Entry P) (t : Seated P) → Grows k t → put_at L.rules.width k j a e (bare t) ≡ join L.rules.width j k a e (bare t)
  join_here j k a e (leaf b es) g = refl
  join_here j k a e (node m c l r) g = rw (lt-ltb k c g)

  -- the places of a joined tree
  join_routes : (j k a p : ℕ) (e : Entry (Seat P)) (t : Seated P) → (p ≡ e.payload.place) ⊎ Among p (route_places t) → Among p (route_places (join L.rules.width j k a e t))
  join_routes j k a p e t h = ⊎_elim (λ z. rw z (go_left h)) (λ z. rw z (go_right h)) (side L.rules.width k a)
    where
      go_left : (p ≡ e.payload.place) ⊎ Among p (route_places t) → Among p (route_places (node j k (leaf a (e ∷ [])) t))
      go_left (inl f) = inl f
      go_left (inr u) = inr u

      go_right : (p ≡ e.payload.place) ⊎ Among p (route_places t) → Among p (route_places (node j k t (leaf a (e ∷ []))))
      go_right (inl f) = among_append p (route_places t) (e.payload.place ∷ []) (inr (inl f))
      go_right (inr u) = among_append p (route_places t) (e.payload.place ∷ []) (inl u)

  join_inners : (j k a q : ℕ) (e : Entry (Seat P)) (t : Seated P) → (q ≡ j) ⊎ Among q (inner_places t) → Among q (inner_places (join L.rules.width j k a e t))
  join_inners j k a q e t h = ⊎_elim (λ z. rw z (go_left h)) (λ z. rw z (go_right h)) (side L.rules.width k a)
    where
      go_left : (q ≡ j) ⊎ Among q (inner_places t) → Among q (inner_places (node j k (leaf a (e ∷ [])) t))
      go_left (inl f) = inl f
      go_left (inr u) = inr u

      go_right : (q ≡ j) ⊎ Among q (inner_places t) → Among q (inner_places (node j k t (leaf a (e ∷ []))))
      go_right (inl f) = inl f
      go_right (inr u) = inr (among_append q (inner_places t) [] (inl u))

module _ {P : Type 0} (L : Layout P) (laid : Laid L) where
  module _ (ws : List ℕ) (s : State P) (e : Encodes L ws s) (few : length (changes s.trial) ≤ L.rules.standing) (t : Seated P) (st : Stands L laid ws s t) (i j cell k : ℕ) (r : Route P)
      (l : i < s.capacity) (free : kind_at L ws i ≡ 0) (m : j < s.capacity) (bare-mark : mark_at L s.capacity ws j ≡ 0) (h : JoinsAt L s.capacity r.prefix t cell k)
      (formed : well_formed L.rules.width r.prefix ≡ true) where
    held_old : Holds L s.capacity ws (word ws 2) (plug h.way h.part)
    held_old = subst (Holds L s.capacity ws (word ws 2)) (sym h.whole) st.held

    new_route : Among i (route_places (plug h.way h.part)) → ⊥
    new_route = free_new L s.capacity ws (word ws 2) (plug h.way h.part) held_old i free

    new_inner : Among j (inner_places (plug h.way h.part)) → ⊥
    new_inner k = omega (arith, inner_used L s.capacity ws (word ws 2) (plug h.way h.part) held_old j k, bare-mark)

    clear : Clear L laid s.capacity cell
    clear = cell_clear L laid s.capacity cell (subst (Cell L s.capacity) h.cell_is (way_cell L laid s.capacity ws h.way (plug_way L s.capacity ws h.way h.part held_old).0))

    off : (x : ℕ) → OffSeat L laid x i → OffJoint L laid s.capacity x j → (x ≡ cell → ⊥) → (x ≡ 1 → ⊥) → Off x (join_writes L ws s.capacity i j r k cell)
    off x a b d f =
        off_append x (route_writes L i r 0) (inner_join L ws s.capacity i j r k cell ++ ((cell, to_inner j) ∷ (1, word ws 1 + 1) ∷ [])) (off_route L laid x i r 0 a)
        (off_append x (inner_join L ws s.capacity i j r k cell) ((cell, to_inner j) ∷ (1, word ws 1 + 1) ∷ [])
        (off_inner L laid x s.capacity j k (toward (bit L.rules.width k r.prefix.address) (to_route i) (word ws cell))
        (toward (bit L.rules.width k r.prefix.address) (word ws cell) (to_route i)) b)
        (d, (f, tt)))

    no_next : (p : ℕ) → p < s.capacity → L.seat p + L.next_offset ≡ cell → ⊥
    no_next p n f = cell_range L laid s.capacity h.way p n (h.cell_is ∙ sym f)

    route_off : (p : ℕ) → p < s.capacity → (p ≡ i → ⊥) → RouteSame L ws (writes (join_writes L ws s.capacity i j r k cell) ws) p
    route_off p n d =
        route_whole L ws (writes (join_writes L ws s.capacity i j r k cell) ws) cell p (no_next p n)
        (route_spared L laid ws (join_writes L ws s.capacity i j r k cell) cell p
        (λ x a b. off x (seats_apart_lem L laid p i x d a (omega (arith, laid.next_fits))) (inl (omega (arith, laid.joint_past s.capacity p j n, laid.next_fits)))
        (clear.route p x n a (omega (arith, laid.next_fits)) (omega arith)) (omega (arith, laid.seat_past p)))
        (λ f. off (L.seat p + L.next_offset) (seats_apart_lem L laid p i (L.seat p + L.next_offset) d (omega arith) (omega (arith, laid.next_fits)))
        (inl (omega (arith, laid.joint_past s.capacity p j n, laid.next_fits))) f (omega (arith, laid.seat_past p))))

    inner_off : (q : ℕ) → q < s.capacity → (q ≡ j → ⊥) → InnerBut L s.capacity ws (writes (join_writes L ws s.capacity i j r k cell) ws) cell q
    inner_off q n d =
        inner_spared L laid ws (join_writes L ws s.capacity i j r k cell) s.capacity cell q
        (off (L.joint s.capacity q) (inr (laid.joint_past s.capacity i q l)) (joints_apart_lem L laid s.capacity q j _ d (omega arith) (omega arith)) (clear.mark q n)
        (omega (arith, laid.joint_first s.capacity q)))
        (λ f. off (L.joint s.capacity q + 1) (inr (omega (arith, laid.joint_past s.capacity i q l)))
        (joints_apart_lem L laid s.capacity q j _ d (omega arith) (omega arith)) f (omega (arith, laid.joint_first s.capacity q)))
        (λ f. off (L.joint s.capacity q + 2) (inr (omega (arith, laid.joint_past s.capacity i q l)))
        (joints_apart_lem L laid s.capacity q j _ d (omega arith) (omega arith)) f (omega (arith, laid.joint_first s.capacity q)))

    stays : Stays L laid s.capacity ws (writes (join_writes L ws s.capacity i j r k cell) ws) (cell_of L s.capacity h.way) i j
    stays = record {
      routes = route_off;
      inners = λ q n d. subst (λ (x : ℕ). InnerBut L s.capacity ws (writes (join_writes L ws s.capacity i j r k cell) ws) x q) (sym h.cell_is) (inner_off q n d);
      root =
          λ f. word_off 2 (join_writes L ws s.capacity i j r k cell) ws
          (off 2 (inl (omega (arith, laid.seat_past i))) (inl (omega (arith, laid.joint_first s.capacity j))) (λ g. f (g ∙ sym h.cell_is)) (omega arith));
    }

    -- the cell is not in the new inner place
    cell_off : OffJoint L laid s.capacity cell j
    cell_off = go (cell_owner L laid s.capacity h.way)
      where
        go : (cell_of L s.capacity h.way ≡ 2)
            ⊎ ((o : ℕ) × Among o (way_inners h.way) × ((cell_of L s.capacity h.way ≡ L.joint s.capacity o + 1) ⊎ (cell_of L s.capacity h.way ≡ L.joint s.capacity o + 2)))
            → OffJoint L laid s.capacity cell j
        go (inl f) = inl (omega (arith, f, h.cell_is, laid.joint_first s.capacity j))
        go (inr v) =
            let apart : v.0 ≡ j → ⊥ = λ f. new_inner (plug_inners h.way h.part j (inr (subst (λ (x : ℕ). Among x (way_inners h.way)) f v.1))) in
            ⊎_elim (λ f. joints_apart_lem L laid s.capacity v.0 j cell apart (omega (arith, f, h.cell_is)) (omega (arith, f, h.cell_is)))
            (λ f. joints_apart_lem L laid s.capacity v.0 j cell apart (omega (arith, f, h.cell_is)) (omega (arith, f, h.cell_is))) v.2

    -- what is written in the new inner place
    in_joint : (x v : ℕ) → L.joint s.capacity j ≤ x → x < L.joint s.capacity j + 3 → On x v (inner_join L ws s.capacity i j r k cell)
        → word (writes (join_writes L ws s.capacity i j r k cell) ws) x ≡ v
    in_joint x v a b o =
        word_on x v (join_writes L ws s.capacity i j r k cell) ws (omega (arith, e.long_enough, joint_in laid s.capacity j m))
        (on_right x v (route_writes L i r 0) (inner_join L ws s.capacity i j r k cell ++ ((cell, to_inner j) ∷ (1, word ws 1 + 1) ∷ []))
        (on_left x v (inner_join L ws s.capacity i j r k cell) ((cell, to_inner j) ∷ (1, word ws 1 + 1) ∷ []) o
        (λ f. ⊎_elim (λ u. omega arith) (λ u. omega arith) cell_off, (λ f. omega (arith, laid.joint_first s.capacity j), tt))))

    after_route : (x : ℕ) → L.seat i ≤ x → x < L.seat i + laid.seat_words → Off x (inner_join L ws s.capacity i j r k cell ++ ((cell, to_inner j) ∷ (1, word ws 1 + 1) ∷ []))
    after_route x a b =
        off_append x (inner_join L ws s.capacity i j r k cell) ((cell, to_inner j) ∷ (1, word ws 1 + 1) ∷ [])
        (off_inner L laid x s.capacity j k (toward (bit L.rules.width k r.prefix.address) (to_route i) (word ws cell))
        (toward (bit L.rules.width k r.prefix.address) (word ws cell) (to_route i)) (inl (omega (arith, laid.joint_past s.capacity i j l))))
        (λ f. clear.route i x l a b (λ g. no_next i l (sym g ∙ f)) f, (λ f. omega (arith, laid.seat_past i), tt))

    joined_holds : Holds L s.capacity (writes (join_writes L ws s.capacity i j r k cell) ws) (word (writes (join_writes L ws s.capacity i j r k cell) ws) 2)
        (plug h.way (join L.rules.width j k r.prefix.address (entry_at L i r) h.part))
    joined_holds =
        let zs = writes (join_writes L ws s.capacity i j r k cell) ws in
        let a = r.prefix.address in
        let mark = in_joint (L.joint s.capacity j) (k + 1) (omega arith) (omega arith) (inl (refl, refl, omega arith)) in
        let left = in_joint (L.joint s.capacity j + 1) (toward (bit L.rules.width k a) (to_route i) (word ws cell)) (omega arith) (omega arith) (inr (inl (refl, refl, omega arith))) in
        let right = in_joint (L.joint s.capacity j + 2) (toward (bit L.rules.width k a) (word ws cell) (to_route i)) (omega arith) (omega arith) (inr (inr (inl (refl, refl, tt)))) in
        let link = word_on cell (to_inner j) (join_writes L ws s.capacity i j r k cell) ws (omega (arith, clear.below, e.long_enough, laid.places_in s.capacity))
        (on_right cell (to_inner j) (route_writes L i r 0) (inner_join L ws s.capacity i j r k cell ++ ((cell, to_inner j) ∷ (1, word ws 1 + 1) ∷ []))
        (on_right cell (to_inner j) (inner_join L ws s.capacity i j r k cell) ((cell, to_inner j) ∷ (1, word ws 1 + 1) ∷ []) (inl (refl, refl, (clear.head.1, tt))))) in
        join_holds L laid s.capacity ws zs h.way h.part i j held_old (subst (λ (x : Seated P). Distinct (route_places x)) (sym h.whole) st.routes_apart)
        (subst (λ (x : Seated P). Distinct (inner_places x)) (sym h.whole) st.inners_apart) new_route new_inner stays a k (entry_at L i r) refl
        (route_written L laid s.capacity ws i r 0 (inner_join L ws s.capacity i j r k cell ++ ((cell, to_inner j) ∷ (1, word ws 1 + 1) ∷ [])) l e.long_enough after_route)
        (next_written L laid s.capacity ws i r 0 (inner_join L ws s.capacity i j r k cell ++ ((cell, to_inner j) ∷ (1, word ws 1 + 1) ∷ [])) l e.long_enough after_route)
        m (mark ∙ add-one k) (ap (word zs) h.cell_is ∙ link) (sides left right)
      where
        sides : left_at L s.capacity (writes (join_writes L ws s.capacity i j r k cell) ws) j ≡ toward (bit L.rules.width k r.prefix.address) (to_route i) (word ws cell)
            → right_at L s.capacity (writes (join_writes L ws s.capacity i j r k cell) ws) j ≡ toward (bit L.rules.width k r.prefix.address) (word ws cell) (to_route i)
            → toward (bit L.rules.width k r.prefix.address)
            ((left_at L s.capacity (writes (join_writes L ws s.capacity i j r k cell) ws) j ≡ to_route i) ×
            (right_at L s.capacity (writes (join_writes L ws s.capacity i j r k cell) ws) j ≡ word ws (cell_of L s.capacity h.way)))
            ((left_at L s.capacity (writes (join_writes L ws s.capacity i j r k cell) ws) j ≡ word ws (cell_of L s.capacity h.way)) ×
            (right_at L s.capacity (writes (join_writes L ws s.capacity i j r k cell) ws) j ≡ to_route i))
        sides x y =
            ⊎_elim (λ z. rw z (rw z at x, (rw z at y) ∙ ap (word ws) (sym h.cell_is))) (λ z. rw z ((rw z at x) ∙ ap (word ws) (sym h.cell_is), rw z at y))
            (side L.rules.width k r.prefix.address)

    bare_joined : bare (plug h.way (join L.rules.width j k r.prefix.address (entry_at L i r) h.part)) ≡ put_at L.rules.width k j r.prefix.address (bare_entry (entry_at L i r)) (bare t)
    bare_joined =
        let a = r.prefix.address in
        let w = h.way in
        bare_plug w (join L.rules.width j k a (entry_at L i r) h.part)
        ∙ ap (plug (bare_way w)) (bare_join L j k a (entry_at L i r) h.part ∙ sym (join_here L j k a (bare_entry (entry_at L i r)) h.part h.grows))
        ∙ sym (put_plug L.rules.width k j a (bare_entry (entry_at L i r)) (bare_way w) (bare h.part) (bare_follows L.rules.width a w h.follows) (not_past_bare L k w h.not_past))
        ∙ ap (put_at L.rules.width k j a (bare_entry (entry_at L i r))) (sym (bare_plug w h.part) ∙ ap bare h.whole)

    used : (p : ℕ) → p < s.capacity → 1 ≤ kind_at L (writes (join_writes L ws s.capacity i j r k cell) ws) p
        → Among p (route_places (plug h.way (join L.rules.width j k r.prefix.address (entry_at L i r) h.part)))
    used p n u = plug_routes h.way (join L.rules.width j k r.prefix.address (entry_at L i r) h.part) p (go (eq_or_ne p i))
      where
        go : (p ≡ i) ⊎ (p ≡ i → ⊥) → Among p (route_places (join L.rules.width j k r.prefix.address (entry_at L i r) h.part)) ⊎ Among p (way_routes h.way)
        go (inl f) = inl (join_routes L j k r.prefix.address p (entry_at L i r) h.part (inl f))
        go (inr d) =
            let was = st.routes_used p n (subst (λ (x : ℕ). 1 ≤ x) (sym (route_off p n d).kind) u) in
            ⊎_elim (λ v. inl (join_routes L j k r.prefix.address p (entry_at L i r) h.part (inr v))) (λ v. inr v)
            (routes_plug h.way h.part p (subst (λ (x : Seated P). Among p (route_places x)) (sym h.whole) was))

    used_inner : (q : ℕ) → q < s.capacity → 1 ≤ mark_at L s.capacity (writes (join_writes L ws s.capacity i j r k cell) ws) q
        → Among q (inner_places (plug h.way (join L.rules.width j k r.prefix.address (entry_at L i r) h.part)))
    used_inner q n u = plug_inners h.way (join L.rules.width j k r.prefix.address (entry_at L i r) h.part) q (go (eq_or_ne q j))
      where
        go : (q ≡ j) ⊎ (q ≡ j → ⊥) → Among q (inner_places (join L.rules.width j k r.prefix.address (entry_at L i r) h.part)) ⊎ Among q (way_inners h.way)
        go (inl f) = inl (join_inners L j k r.prefix.address q (entry_at L i r) h.part (inl f))
        go (inr d) =
            let was = st.inners_used q n (subst (λ (x : ℕ). 1 ≤ x) (sym (inner_off q n d).mark) u) in
            ⊎_elim (λ v. inl (join_inners L j k r.prefix.address q (entry_at L i r) h.part (inr v))) (λ v. inr v)
            (inners_plug h.way h.part q (subst (λ (x : Seated P). Among q (inner_places x)) (sym h.whole) was))

    pub join_encodes : Encodes L (writes (join_writes L ws s.capacity i j r k cell) ws) (with_trial s (insert r s.routes) s.trial)
    join_encodes =
        let zs = writes (join_writes L ws s.capacity i j r k cell) ws in
        let a = r.prefix.address in
        let be = bare_entry (entry_at L i r) in
        encodes_edit L ws zs s (insert r s.routes) (some (plug h.way (join L.rules.width j k a (entry_at L i r) h.part))) e few
        (aside L laid ws (join_writes L ws s.capacity i j r k cell) s.capacity
        (off 0 (inl (omega (arith, laid.seat_past i))) (inl (omega (arith, laid.joint_first s.capacity j))) (λ f. clear.head.0 (sym f)) (omega arith))
        (off 3 (inl (omega (arith, laid.seat_past i))) (inl (omega (arith, laid.joint_first s.capacity j))) (λ f. clear.head.2 (sym f)) (omega arith))
        (off 4 (inl (omega (arith, laid.seat_past i))) (inl (omega (arith, laid.joint_first s.capacity j))) (λ f. clear.head.3 (sym f)) (omega arith))
        (λ x n. off x (inr (omega (arith, laid.joint_past s.capacity i i l, laid.slot_past s.capacity i 0 l))) (inr (omega (arith, laid.slot_past s.capacity j 0 m)))
        (λ f. omega (arith, clear.below)) (omega (arith, laid.slot_first s.capacity 0))))
        (word_on 1 (word ws 1 + 1) (join_writes L ws s.capacity i j r k cell) ws (omega (arith, e.long_enough, head_in laid s.capacity))
        (on_right 1 (word ws 1 + 1) (route_writes L i r 0) (inner_join L ws s.capacity i j r k cell ++ ((cell, to_inner j) ∷ (1, word ws 1 + 1) ∷ []))
        (on_right 1 (word ws 1 + 1) (inner_join L ws s.capacity i j r k cell) ((cell, to_inner j) ∷ (1, word ws 1 + 1) ∷ []) (inr (inl (refl, refl, tt)))))
        ∙ omega (arith, e.count_there, length_insert r s.routes))
        joined_holds (subst (Good L.rules.width) (sym bare_joined) (put_good L.rules.width k j a be (bare t) st.good h.new h.parts formed))
        (ap routes bare_joined ∙ put_routes L.rules.width k j a be (bare t) st.good h.new h.parts ∙ ap (insert r) st.table) used used_inner
