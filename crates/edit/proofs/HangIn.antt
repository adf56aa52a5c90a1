-- Another length of a held address, put in: the words after the writes say the state with the route inserted.
use Prim.Native.Nat.{ℕ, ◌+◌, ◌≤◌, ◌<◌}
use mathlib.Core.Path.{◌≡◌, refl, sym, ap, subst, ◌∙◌}
use mathlib.Core.Bool.{true}
use mathlib.Core.List.{List, [], ◌∷◌, ◌++◌}
use mathlib.Core.Logic.{◌⊎◌, inl, inr, ⊎_elim}
use mathlib.Core.Option.{none, some}
use native.Mathlib.Omega.{arith}
use borrow.Author.Tests.{lt-ltb, le-ltb}
use lib.ListN.{length}
use Rattle.bits.proofs.Cases.{eq_or_ne}
use Rattle.model.specs.Prefix.{well_formed}
use Rattle.model.specs.Routes.{Route, find, insert}
use Rattle.model.specs.State.{State, changes}
use Rattle.model.specs.Call.{with_trial}
use Rattle.model.proofs.Edits.{length_insert}
use Rattle.patricia.specs.Good.{Good}
use Rattle.patricia.specs.Tree.{Entry, leaf, routes}
use Rattle.patricia.specs.Obeys.{Shorter}
use Rattle.patricia.specs.Way.{plug, reached}
use Rattle.patricia.proofs.Hang.{hang, hang_at, hang_good, hang_routes}
use Rattle.patricia.proofs.Zip.{reached_plug, hang_plug}
use Rattle.pool.specs.Layout.{word, Layout, kind_at, mark_at}
use Rattle.pool.specs.Link.{to_route}
use Rattle.pool.specs.Holds.{Seat, Seated, bare_entry, bare_entries, bare, Chain, Holds, chain_places, route_places, inner_places}
use Rattle.pool.specs.Means.{Among}
use Rattle.pool.proofs.Distinct.{Distinct}
use Rattle.pool.proofs.Frame.{among_append, append_among}
use Rattle.plan.specs.Cells.{cell_of, end_cell, Longer}
use Rattle.pool.specs.Write.{writes}
use Rattle.rows.specs.Writes.{route_writes, hang_writes}
use Rattle.plan.specs.Plan.{HangsAt}
use Rattle.search.proofs.Bare.{bare_way, bare_plug, bare_follows}
use Rattle.plan.proofs.Way.{plug_way, way_routes, routes_plug, plug_routes, inners_plug, plug_inners}
use Rattle.plan.proofs.Chains.{places_append, chain_split}
use Rattle.edit.proofs.Rehang.{Rehung, leaf_chain, cell_cases, cell_range, rest_stays, rehung_holds}
use Rattle.pool.proofs.Writes.{Off, off_append, word_on, on_right}
use Rattle.pool.proofs.Laid.{Laid, one_seat, head_in}
use Rattle.edit.proofs.Spared.{Clear, OffSeat, off_route}
use Rattle.edit.proofs.Touch.{leaf_cell, route_touch, inner_touch, aside_touch, rehung_touch}
use Rattle.edit.proofs.Stands.{some_there, entry_at, free_new, route_written, next_written, Stands}
use Rattle.edit.specs.Encodes.{Encodes}
use Rattle.edit.proofs.Encodes.{encodes_edit}

module _ {P : Type 0} (L : Layout P) where
  -- between its longer and its shorter routes a route hangs longest first
  hang_split : (e : Entry (Seat P)) (xs ys : List (Entry (Seat P))) → Longer e.length xs → Shorter e.length (bare_entries ys)
      → hang (bare_entry e) (bare_entries (xs ++ ys)) ≡ bare_entries (xs ++ (e ∷ ys))
  hang_split e [] [] l s = refl
  hang_split e [] (y ∷ ys) l s = rw (lt-ltb y.length e.length s.0)
  hang_split e (x ∷ xs) ys l s =
      let h : e.length ≤ x.length = omega (arith, l.0) in
      rw (le-ltb x.length e.length h) (ap (λ (es : List (Entry P)). bare_entry x ∷ es) (hang_split e xs ys l.1 s))

  shorter_bare : (n : ℕ) (es : List (Entry (Seat P))) → Shorter n es → Shorter n (bare_entries es)
  shorter_bare n [] s = tt
  shorter_bare n (e ∷ es) s = (s.0, shorter_bare n es s.1)

module _ {P : Type 0} (L : Layout P) (laid : Laid L) where
  module _ (ws : List ℕ) (s : State P) (e : Encodes L ws s) (few : length (changes s.trial) ≤ L.rules.standing) (t : Seated P) (st : Stands L laid ws s t) (i cell : ℕ) (r : Route P)
      (l : i < s.capacity) (free : kind_at L ws i ≡ 0) (h : HangsAt L s.capacity r.prefix t cell) (formed : well_formed L.rules.width r.prefix ≡ true) (new : find r.prefix s.routes ≡ none) where
    -- the tree as a way and a leaf
    held_old : Holds L s.capacity ws (word ws 2) (plug h.way (leaf r.prefix.address (h.longer ++ h.shorter)))
    held_old = subst (Holds L s.capacity ws (word ws 2)) (sym h.whole) st.held

    clear : Clear L laid s.capacity cell
    clear = subst (Clear L laid s.capacity) h.cell_is (leaf_cell L laid s.capacity ws h.way r.prefix.address h.longer h.shorter held_old)

    off : (x : ℕ) → OffSeat L laid x i → (x ≡ cell → ⊥) → (x ≡ 1 → ⊥) → Off x (hang_writes L ws i r cell)
    off x a b d = off_append x (route_writes L i r (word ws cell)) ((cell, to_route i) ∷ (1, word ws 1 + 1) ∷ []) (off_route L laid x i r (word ws cell) a) (b, (d, tt))

    fresh : (p : ℕ) → Among p (route_places (plug h.way (leaf r.prefix.address (h.longer ++ h.shorter)))) → p ≡ i → ⊥
    fresh p k f =
        free_new L s.capacity ws (word ws 2) (plug h.way (leaf r.prefix.address (h.longer ++ h.shorter))) held_old i free
        (subst (λ (n : ℕ). Among n (route_places (plug h.way (leaf r.prefix.address (h.longer ++ h.shorter))))) f k)

    left : Rehung L laid s.capacity ws (writes (hang_writes L ws i r cell) ws) h.way r.prefix.address h.longer [] h.shorter
    left = rehung_touch L laid s.capacity ws i cell (hang_writes L ws i r cell) l clear off h.way r.prefix.address h.longer [] h.shorter h.cell_is (λ p k n. fresh p k)

    distinct_routes : Distinct (route_places (plug h.way (leaf r.prefix.address (h.longer ++ h.shorter))))
    distinct_routes = subst (λ (x : Seated P). Distinct (route_places x)) (sym h.whole) st.routes_apart

    distinct_inners : Distinct (inner_places (plug h.way (leaf r.prefix.address (h.longer ++ h.shorter))))
    distinct_inners = subst (λ (x : Seated P). Distinct (inner_places x)) (sym h.whole) st.inners_apart

    cell_written : word (writes (hang_writes L ws i r cell) ws) cell ≡ to_route i
    cell_written =
        word_on cell (to_route i) (hang_writes L ws i r cell) ws (omega (arith, clear.below, e.long_enough, laid.places_in s.capacity))
        (on_right cell (to_route i) (route_writes L i r (word ws cell)) ((cell, to_route i) ∷ (1, word ws 1 + 1) ∷ []) (inl (refl, refl, (clear.head.1, tt))))

    -- the cell is not in the new place
    cell_elsewhere : cell ≡ L.seat i + L.next_offset → ⊥
    cell_elsewhere f = go (cell_cases L laid (cell_of L s.capacity h.way) h.longer)
      where
        go : (end_cell L (cell_of L s.capacity h.way) h.longer ≡ cell_of L s.capacity h.way)
            ⊎ ((q : ℕ) × Among q (chain_places h.longer) × (end_cell L (cell_of L s.capacity h.way) h.longer ≡ L.seat q + L.next_offset)) → ⊥
        go (inl g) = cell_range L laid s.capacity h.way i l (sym g ∙ h.cell_is ∙ f)
        go (inr v) =
            let same : v.0 ≡ i = (one_seat L laid v.0 i L.next_offset L.next_offset laid.next_fits laid.next_fits (sym v.2 ∙ h.cell_is ∙ f)).0 in
            fresh v.0 (plug_routes h.way (leaf r.prefix.address (h.longer ++ h.shorter)) v.0
            (inl (subst (Among v.0) (sym (places_append h.longer h.shorter)) (among_append v.0 (chain_places h.longer) (chain_places h.shorter) (inl v.1))))) same

    seat_off : (x : ℕ) → L.seat i ≤ x → x < L.seat i + laid.seat_words → Off x ((cell, to_route i) ∷ (1, word ws 1 + 1) ∷ [])
    seat_off x a b = (λ f. clear.route i x l a b (λ g. cell_elsewhere (omega arith)) f, (omega (arith, laid.seat_past i), tt))

    hung_holds : Holds L s.capacity (writes (hang_writes L ws i r cell) ws) (word (writes (hang_writes L ws i r cell) ws) 2) (plug h.way (leaf r.prefix.address (h.longer ++ (entry_at L i r ∷ h.shorter))))
    hung_holds =
        let zs = writes (hang_writes L ws i r cell) ws in
        let a = r.prefix.address in
        let from = cell_of L s.capacity h.way in
        let chain = leaf_chain L s.capacity ws (word ws from) a (h.longer ++ h.shorter) (plug_way L s.capacity ws h.way (leaf a (h.longer ++ h.shorter)) held_old).1 in
        let behind : Chain L s.capacity ws a (word ws cell) h.shorter =
        subst (λ (x : ℕ). Chain L s.capacity ws a (word ws x) h.shorter) h.cell_is (chain_split L s.capacity ws a from h.longer h.shorter chain).1 in
        let next = next_written L laid s.capacity ws i r (word ws cell) ((cell, to_route i) ∷ (1, word ws 1 + 1) ∷ []) l e.long_enough seat_off in
        let rest = rest_stays L laid s.capacity ws zs h.way a h.longer [] h.shorter held_old distinct_routes distinct_inners left (word ws cell) behind in
        rehung_holds L laid s.capacity ws zs h.way a h.longer [] h.shorter held_old distinct_routes distinct_inners left (entry_at L i r ∷ h.shorter)
        (some_there h.longer (entry_at L i r) h.shorter) (
          ap (word zs) h.cell_is ∙ cell_written,
          route_written L laid s.capacity ws i r (word ws cell) ((cell, to_route i) ∷ (1, word ws 1 + 1) ∷ []) l e.long_enough seat_off,
          subst (λ (x : ℕ). Chain L s.capacity zs a x h.shorter) (sym next) rest,
        )

    -- without the places it is the tree with the route hung
    bare_hung : bare (plug h.way (leaf r.prefix.address (h.longer ++ (entry_at L i r ∷ h.shorter)))) ≡ hang_at L.rules.width r.prefix.address (bare_entry (entry_at L i r)) (bare t)
    bare_hung =
        let a = r.prefix.address in
        let w = h.way in
        bare_plug w (leaf a (h.longer ++ (entry_at L i r ∷ h.shorter)))
        ∙ ap (λ (es : List (Entry P)). plug (bare_way w) (leaf a es))
        (sym (hang_split L (entry_at L i r) h.longer h.shorter h.longer_are (shorter_bare L r.prefix.length h.shorter h.shorter_are)))
        ∙ sym (hang_plug L.rules.width a (bare_entry (entry_at L i r)) (bare_way w) (leaf a (bare_entries (h.longer ++ h.shorter))) (bare_follows L.rules.width a w h.follows))
        ∙ ap (hang_at L.rules.width a (bare_entry (entry_at L i r))) (sym (bare_plug w (leaf a (h.longer ++ h.shorter))) ∙ ap bare h.whole)

    reached_here : reached L.rules.width r.prefix.address (bare t) ≡ r.prefix.address
    reached_here =
        let a = r.prefix.address in
        ap (reached L.rules.width a) (sym (ap bare h.whole) ∙ bare_plug h.way (leaf a (h.longer ++ h.shorter)))
        ∙ reached_plug L.rules.width a (bare_way h.way) (leaf a (bare_entries (h.longer ++ h.shorter))) (bare_follows L.rules.width a h.way h.follows)

    absent : find r.prefix (routes (bare t)) ≡ none
    absent = ap (find r.prefix) st.table ∙ new

    used : (p : ℕ) → p < s.capacity → 1 ≤ kind_at L (writes (hang_writes L ws i r cell) ws) p
        → Among p (route_places (plug h.way (leaf r.prefix.address (h.longer ++ (entry_at L i r ∷ h.shorter)))))
    used p m u = plug_routes h.way (leaf r.prefix.address (h.longer ++ (entry_at L i r ∷ h.shorter))) p (go (eq_or_ne p i))
      where
        into : Among p (chain_places h.longer) ⊎ Among p (chain_places (entry_at L i r ∷ h.shorter)) → Among p (chain_places (h.longer ++ (entry_at L i r ∷ h.shorter)))
        into k = subst (Among p) (sym (places_append h.longer (entry_at L i r ∷ h.shorter))) (among_append p (chain_places h.longer) (chain_places (entry_at L i r ∷ h.shorter)) k)

        before : Among p (chain_places (h.longer ++ h.shorter)) → Among p (chain_places (h.longer ++ (entry_at L i r ∷ h.shorter)))
        before k = into (⊎_elim (λ x. inl x) (λ x. inr (inr x)) (append_among p (chain_places h.longer) (chain_places h.shorter) (subst (Among p) (places_append h.longer h.shorter) k)))

        go : (p ≡ i) ⊎ (p ≡ i → ⊥) → Among p (chain_places (h.longer ++ (entry_at L i r ∷ h.shorter))) ⊎ Among p (way_routes h.way)
        go (inl f) = inl (into (inr (inl f)))
        go (inr n) =
            let was = st.routes_used p m (subst (λ (x : ℕ). 1 ≤ x) (sym (route_touch L laid s.capacity ws i cell (hang_writes L ws i r cell) l clear off p m n).kind) u) in
            ⊎_elim (λ k. inl (before k)) (λ k. inr k)
            (routes_plug h.way (leaf r.prefix.address (h.longer ++ h.shorter)) p (subst (λ (x : Seated P). Among p (route_places x)) (sym h.whole) was))

    used_inner : (q : ℕ) → q < s.capacity → 1 ≤ mark_at L s.capacity (writes (hang_writes L ws i r cell) ws) q
        → Among q (inner_places (plug h.way (leaf r.prefix.address (h.longer ++ (entry_at L i r ∷ h.shorter)))))
    used_inner q m u =
        let was = st.inners_used q m (subst (λ (x : ℕ). 1 ≤ x) (sym (inner_touch L laid s.capacity ws i cell (hang_writes L ws i r cell) l clear off q m).mark) u) in
        plug_inners h.way (leaf r.prefix.address (h.longer ++ (entry_at L i r ∷ h.shorter))) q
        (inners_plug h.way (leaf r.prefix.address (h.longer ++ h.shorter)) q (subst (λ (x : Seated P). Among q (inner_places x)) (sym h.whole) was))

    pub hang_encodes : Encodes L (writes (hang_writes L ws i r cell) ws) (with_trial s (insert r s.routes) s.trial)
    hang_encodes =
        let zs = writes (hang_writes L ws i r cell) ws in
        let tree = plug h.way (leaf r.prefix.address (h.longer ++ (entry_at L i r ∷ h.shorter))) in
        let be = bare_entry (entry_at L i r) in
        encodes_edit L ws zs s (insert r s.routes) (some tree) e few
        (aside_touch L laid s.capacity ws i cell (hang_writes L ws i r cell) l clear off)
        (word_on 1 (word ws 1 + 1) (hang_writes L ws i r cell) ws (omega (arith, e.long_enough, head_in laid s.capacity))
        (on_right 1 (word ws 1 + 1) (route_writes L i r (word ws cell)) ((cell, to_route i) ∷ (1, word ws 1 + 1) ∷ []) (inr (inl (refl, refl, tt))))
        ∙ omega (arith, e.count_there, length_insert r s.routes))
        hung_holds (subst (Good L.rules.width) (sym bare_hung) (hang_good L.rules.width r.prefix.address be (bare t) st.good reached_here formed absent))
        (ap routes bare_hung ∙ hang_routes L.rules.width r.prefix.address be (bare t) st.good reached_here ∙ ap (insert r) st.table) used used_inner
