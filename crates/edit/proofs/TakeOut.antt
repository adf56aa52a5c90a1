-- A route taken out of a chain that goes on, or changed in its place: the words after the writes say the state without it, or with the other.
use Prim.Native.Nat.{ℕ, ◌+◌, ◌-◌, ◌≤◌, ◌<◌}
use mathlib.Core.Path.{◌≡◌, refl, sym, ap, subst, ◌∙◌}
use mathlib.Core.List.{List, [], ◌∷◌, ◌++◌}
use mathlib.Core.Logic.{◌⊎◌, inl, inr, ⊎_elim}
use mathlib.Core.Option.{some}
use native.Mathlib.Omega.{arith}
use borrow.Author.Tests.{eq-eqb, ne_eqb}
use lib.ListN.{length}
use Rattle.bits.proofs.Cases.{eq_or_ne, lt_or_le}
use Rattle.model.specs.Prefix.{Prefix}
use Rattle.model.specs.Routes.{Route, InOrder, find, remove, replace}
use Rattle.model.specs.State.{State, changes}
use Rattle.model.specs.Call.{with_trial}
use Rattle.model.proofs.Edits.{length_remove, length_replace}
use Rattle.patricia.specs.Good.{Good, RootGood}
use Rattle.patricia.specs.Tree.{Entry, leaf, routes, root_routes}
use Rattle.patricia.specs.Way.{plug}
use Rattle.patricia.proofs.Form.{routes_in_order}
use Rattle.patricia.proofs.Swap.{exchange, swap_at, swap_good, swap_routes}
use Rattle.patricia.proofs.Take.{unhang, leaf_of, take_out, take_good, take_routes}
use Rattle.patricia.proofs.Zip.{plug_root, take_plug, swap_plug}
use Rattle.pool.specs.Layout.{word, Layout, kind_at, next_at, mark_at}
use Rattle.pool.specs.Holds.{Seat, Seated, bare_entry, bare_entries, bare, InPlace, Chain, Holds, chain_places, route_places, inner_places}
use Rattle.pool.specs.Means.{Among}
use Rattle.pool.proofs.Distinct.{Distinct}
use Rattle.pool.proofs.Frame.{among_append, append_among}
use Rattle.plan.specs.Cells.{cell_of, Longer}
use Rattle.pool.specs.Write.{Write, writes}
use Rattle.rows.specs.Writes.{link_writes, swap_writes}
use Rattle.plan.specs.Plan.{HungAt}
use Rattle.search.proofs.Bare.{bare_way, bare_plug, bare_follows}
use Rattle.plan.proofs.Way.{plug_way, way_routes, routes_plug, plug_routes, inners_plug, plug_inners}
use Rattle.plan.proofs.Chains.{places_append, chain_split}
use Rattle.edit.proofs.Rehang.{Rehung, leaf_chain, rest_stays, rehung_holds}
use Rattle.pool.proofs.Writes.{Off, word_off, word_on}
use Rattle.pool.proofs.Laid.{Outside, Laid, payload_fits, head_in, seat_in}
use Rattle.edit.proofs.Spared.{Clear, OffSeat}
use Rattle.edit.proofs.Touch.{leaf_cell, route_touch, inner_touch, aside_touch, rehung_touch}
use Rattle.edit.proofs.Stands.{some_there, Stands}
use Rattle.edit.specs.Encodes.{Encodes}
use Rattle.edit.proofs.Encodes.{encodes_edit}

module _ {P : Type 0} (L : Layout P) where
  -- after longer routes, the route of a length is the one that is taken
  unhang_split : (n : ℕ) (e : Entry (Seat P)) (xs ys : List (Entry (Seat P))) → Longer n xs → e.length ≡ n → unhang n (bare_entries (xs ++ (e ∷ ys))) ≡ bare_entries (xs ++ ys)
  unhang_split n e [] ys l f = rw (eq-eqb n e.length (sym f))
  unhang_split n e (x ∷ xs) ys l f =
      let apart : n ≡ x.length → ⊥ = omega (arith, l.0) in
      rw (ne_eqb n x.length apart) (ap (λ (es : List (Entry P)). bare_entry x ∷ es) (unhang_split n e xs ys l.1 f))

  -- what is left of a leaf that has a route left
  leaf_left : (a : ℕ) (es : List (Entry (Seat P))) → (es ≡ [] → ⊥) → leaf_of {N = ℕ} a (bare_entries es) ≡ some (leaf a (bare_entries es))
  leaf_left a [] n = absurd (n refl)
  leaf_left a (e ∷ es) n = refl

  -- and the one that another is exchanged for
  exchange_split : (n : ℕ) (f : Entry (Seat P)) (e : Entry (Seat P)) (xs ys : List (Entry (Seat P))) → Longer n xs → e.length ≡ n → f.length ≡ n
      → exchange (bare_entry f) (bare_entries (xs ++ (e ∷ ys))) ≡ bare_entries (xs ++ (f ∷ ys))
  exchange_split n f e [] ys l a b = rw (eq-eqb f.length e.length (b ∙ sym a))
  exchange_split n f e (x ∷ xs) ys l a b =
      let apart : f.length ≡ x.length → ⊥ = omega (arith, l.0, b) in
      rw (ne_eqb f.length x.length apart) (ap (λ (es : List (Entry P)). bare_entry x ∷ es) (exchange_split n f e xs ys l.1 a b))

module _ {P : Type 0} (L : Layout P) (laid : Laid L) where
  -- ---- a route with others of its address

  module _ (ws : List ℕ) (s : State P) (e : Encodes L ws s) (few : length (changes s.trial) ≤ L.rules.standing) (t : Seated P) (st : Stands L laid ws s t) (cell : ℕ)
      (p : Prefix) (x : Entry (Seat P))
      (h : HungAt L s.capacity p t cell x) where
    held_old : Holds L s.capacity ws (word ws 2) (plug h.way (leaf p.address (h.longer ++ (x ∷ h.shorter))))
    held_old = subst (Holds L s.capacity ws (word ws 2)) (sym h.whole) st.held

    clear : Clear L laid s.capacity cell
    clear = subst (Clear L laid s.capacity) h.cell_is (leaf_cell L laid s.capacity ws h.way p.address h.longer (x ∷ h.shorter) held_old)

    distinct_routes : Distinct (route_places (plug h.way (leaf p.address (h.longer ++ (x ∷ h.shorter)))))
    distinct_routes = subst (λ (y : Seated P). Distinct (route_places y)) (sym h.whole) st.routes_apart

    distinct_inners : Distinct (inner_places (plug h.way (leaf p.address (h.longer ++ (x ∷ h.shorter)))))
    distinct_inners = subst (λ (y : Seated P). Distinct (inner_places y)) (sym h.whole) st.inners_apart

    -- the route hangs at the cell, and behind it the shorter ones
    hung : Chain L s.capacity ws p.address (word ws cell) (x ∷ h.shorter)
    hung =
        let from = cell_of L s.capacity h.way in
        let chain =
        leaf_chain L s.capacity ws (word ws from) p.address (h.longer ++ (x ∷ h.shorter))
        (plug_way L s.capacity ws h.way (leaf p.address (h.longer ++ (x ∷ h.shorter))) held_old).1 in
        subst (λ (y : ℕ). Chain L s.capacity ws p.address (word ws y) (x ∷ h.shorter)) h.cell_is
        (chain_split L s.capacity ws p.address from h.longer (x ∷ h.shorter) chain).1

    small : x.payload.place < s.capacity
    small = hung.1.in_pool

    rehung : (xs : List Write) → ((y : ℕ) → OffSeat L laid y x.payload.place → (y ≡ cell → ⊥) → (y ≡ 1 → ⊥) → Off y xs)
        → Rehung L laid s.capacity ws (writes xs ws) h.way p.address h.longer (x ∷ []) h.shorter
    rehung xs off = rehung_touch L laid s.capacity ws x.payload.place cell xs small clear off h.way p.address h.longer (x ∷ []) h.shorter h.cell_is (λ y k n f. n (inl f))

    -- a place in use after the writes, other than the one that is touched, is in the leaf without it or on the way
    kept : (xs : List Write) → ((y : ℕ) → OffSeat L laid y x.payload.place → (y ≡ cell → ⊥) → (y ≡ 1 → ⊥) → Off y xs) → (y : ℕ) → y < s.capacity
        → (y ≡ x.payload.place → ⊥)
        → 1 ≤ kind_at L (writes xs ws) y → Among y (chain_places (h.longer ++ h.shorter)) ⊎ Among y (way_routes h.way)
    kept xs off y m n u =
        let was = st.routes_used y m (subst (λ (z : ℕ). 1 ≤ z) (sym (route_touch L laid s.capacity ws x.payload.place cell xs small clear off y m n).kind) u) in
        ⊎_elim (λ k. inl (out k)) (λ k. inr k)
        (routes_plug h.way (leaf p.address (h.longer ++ (x ∷ h.shorter))) y (subst (λ (z : Seated P). Among y (route_places z)) (sym h.whole) was))
      where
        out : Among y (chain_places (h.longer ++ (x ∷ h.shorter))) → Among y (chain_places (h.longer ++ h.shorter))
        out k =
            subst (Among y) (sym (places_append h.longer h.shorter))
            (among_append y (chain_places h.longer) (chain_places h.shorter)
            (⊎_elim (λ a. inl a) (λ b. ⊎_elim (λ f. absurd (n f)) (λ z. inr z) b)
            (append_among y (chain_places h.longer) (chain_places (x ∷ h.shorter)) (subst (Among y) (places_append h.longer (x ∷ h.shorter)) k))))

    inner_kept : (xs : List Write) → ((y : ℕ) → OffSeat L laid y x.payload.place → (y ≡ cell → ⊥) → (y ≡ 1 → ⊥) → Off y xs) → (es : List (Entry (Seat P))) → (y : ℕ)
        → y < s.capacity
        → 1 ≤ mark_at L s.capacity (writes xs ws) y → Among y (inner_places (plug h.way (leaf p.address es)))
    inner_kept xs off es y m u =
        let was = st.inners_used y m (subst (λ (z : ℕ). 1 ≤ z) (sym (inner_touch L laid s.capacity ws x.payload.place cell xs small clear off y m).mark) u) in
        plug_inners h.way (leaf p.address es) y
        (inners_plug h.way (leaf p.address (h.longer ++ (x ∷ h.shorter))) y (subst (λ (z : Seated P). Among y (inner_places z)) (sym h.whole) was))

    -- ---- taken out

    module _ (q : Route P) (there : find p s.routes ≡ some q) (more : h.longer ++ h.shorter ≡ [] → ⊥) where
      off : (y : ℕ) → OffSeat L laid y x.payload.place → (y ≡ cell → ⊥) → (y ≡ 1 → ⊥) → Off y (link_writes L ws x.payload.place cell)
      off y (inl a) b d = (b, (λ f. omega arith, (d, tt)))
      off y (inr a) b d = (b, (λ f. omega (arith, payload_fits laid), (d, tt)))

      written : word (writes (link_writes L ws x.payload.place cell) ws) cell ≡ next_at L ws x.payload.place
      written =
          word_on cell (next_at L ws x.payload.place) (link_writes L ws x.payload.place cell) ws (omega (arith, clear.below, e.long_enough, laid.places_in s.capacity))
          (inl (refl, refl, (λ f. clear.route x.payload.place cell small (omega arith) (omega (arith, payload_fits laid)) (λ g. omega (arith, laid.in_seat)) refl, (clear.head.1, tt))))

      freed : kind_at L (writes (link_writes L ws x.payload.place cell) ws) x.payload.place ≡ 0
      freed =
          word_on (L.seat x.payload.place) 0 (link_writes L ws x.payload.place cell) ws
          (omega (arith, e.long_enough, seat_in laid s.capacity x.payload.place small, payload_fits laid))
          (inr (inl (refl, refl, (λ f. omega (arith, laid.seat_past x.payload.place), tt))))

      taken_holds : Holds L s.capacity (writes (link_writes L ws x.payload.place cell) ws)
          (word (writes (link_writes L ws x.payload.place cell) ws) 2) (plug h.way (leaf p.address (h.longer ++ h.shorter)))
      taken_holds =
          let zs = writes (link_writes L ws x.payload.place cell) ws in
          let left = rehung (link_writes L ws x.payload.place cell) off in
          let rest =
          rest_stays L laid s.capacity ws zs h.way p.address h.longer (x ∷ []) h.shorter held_old distinct_routes distinct_inners left (next_at L ws x.payload.place)
          hung.2 in
          rehung_holds L laid s.capacity ws zs h.way p.address h.longer (x ∷ []) h.shorter held_old distinct_routes distinct_inners left h.shorter more
          (subst (λ (y : ℕ). Chain L s.capacity zs p.address y h.shorter) (sym (ap (word zs) h.cell_is ∙ written)) rest)

      bare_taken : take_out L.rules.width p (bare t) ≡ some (bare (plug h.way (leaf p.address (h.longer ++ h.shorter))))
      bare_taken =
          let a = p.address in
          ap (take_out L.rules.width p) (sym (ap bare h.whole) ∙ bare_plug h.way (leaf a (h.longer ++ (x ∷ h.shorter))))
          ∙ take_plug L.rules.width p (bare_way h.way) (leaf a (bare_entries (h.longer ++ (x ∷ h.shorter)))) (bare_follows L.rules.width a h.way h.follows)
          ∙ ap (λ (es : List (Entry P)). plug_root (bare_way h.way) (leaf_of a es)) (unhang_split L p.length x h.longer h.shorter h.longer_are h.length_is)
          ∙ ap (plug_root (bare_way h.way)) (leaf_left L a (h.longer ++ h.shorter) more) ∙ ap some (sym (bare_plug h.way (leaf a (h.longer ++ h.shorter))))

      pub link_encodes : Encodes L (writes (link_writes L ws x.payload.place cell) ws) (with_trial s (remove p s.routes) s.trial)
      link_encodes =
          let zs = writes (link_writes L ws x.payload.place cell) ws in
          let tree = plug h.way (leaf p.address (h.longer ++ h.shorter)) in
          let before = ap (find p) st.table ∙ there in
          encodes_edit L ws zs s (remove p s.routes) (some tree) e few (aside_touch L laid s.capacity ws x.payload.place cell (link_writes L ws x.payload.place cell) small clear off)
          (word_on 1 (word ws 1 - 1) (link_writes L ws x.payload.place cell) ws (omega (arith, e.long_enough, head_in laid s.capacity)) (inr (inr (inl (refl, refl, tt))))
          ∙ omega (arith, e.count_there, length_remove p q s.routes there))
          taken_holds (subst (RootGood L.rules.width) bare_taken (take_good L.rules.width p (bare t) st.good))
          (ap root_routes (sym bare_taken) ∙ take_routes L.rules.width p q (bare t) st.good before ∙ ap (remove p) st.table)
          (λ y m u. plug_routes h.way (leaf p.address (h.longer ++ h.shorter)) y
          (kept (link_writes L ws x.payload.place cell) off y m (λ f. omega (arith, freed, subst (λ (z : ℕ). 1 ≤ kind_at L zs z) f u)) u))
          (inner_kept (link_writes L ws x.payload.place cell) off (h.longer ++ h.shorter))

    -- ---- with another hop

    module _ (o : P) (q : Route P) (there : find p s.routes ≡ some q) where
      hop_off : (y : ℕ) → OffSeat L laid y x.payload.place → (y ≡ cell → ⊥) → (y ≡ 1 → ⊥) → Off y (swap_writes L x.payload.place o)
      hop_off y (inl a) b d = laid.payload_put (L.seat x.payload.place) o y (inl a)
      hop_off y (inr a) b d = laid.payload_put (L.seat x.payload.place) o y (inr (omega (arith, payload_fits laid)))

      hop_in_place : InPlace L s.capacity (writes (swap_writes L x.payload.place o) ws) p.address (record { length = p.length; payload = record { place = x.payload.place; held = o } })
      hop_in_place =
          let zs = writes (swap_writes L x.payload.place o) ws in
          let i = x.payload.place in
          let fits : L.seat i + laid.payload_words ≤ length ws = omega (arith, e.long_enough, seat_in laid s.capacity i small, payload_fits laid) in
          let k = laid.known_back ws (L.seat i) o fits in record {
            in_pool = small;
            used = k.0;
            known = k.1;
            held_there = laid.payload_back ws (L.seat i) o fits;
            address_there =
                sym
                (laid.address_read ws zs (L.seat i + L.prefix_offset) (λ y a b. word_off y (swap_writes L i o) ws (laid.payload_put (L.seat i) o y (inr (omega (arith, laid.in_seat))))))
                ∙ hung.1.address_there;
            length_there =
                sym
                (word_off (L.seat i + L.prefix_offset + L.address_words) (swap_writes L i o) ws
                (laid.payload_put (L.seat i) o (L.seat i + L.prefix_offset + L.address_words) (inr (omega (arith, laid.in_seat)))))
                ∙ hung.1.length_there ∙ h.length_is;
          }

      -- the cell is in no payload
      cell_outside : (cell < L.seat x.payload.place) ⊎ (L.seat x.payload.place ≤ cell)
          → (cell < L.seat x.payload.place + laid.payload_words) ⊎ (L.seat x.payload.place + laid.payload_words ≤ cell)
          → Outside laid.payload_words (L.seat x.payload.place) cell
      cell_outside (inl a) b = inl a
      cell_outside (inr a) (inl b) = absurd (clear.route x.payload.place cell small a (omega (arith, payload_fits laid)) (λ g. omega (arith, laid.in_seat)) refl)
      cell_outside (inr a) (inr b) = inr b

      swapped_holds : Holds L s.capacity (writes (swap_writes L x.payload.place o) ws) (word (writes (swap_writes L x.payload.place o) ws) 2)
          (plug h.way (leaf p.address (h.longer ++ (record { length = p.length; payload = record { place = x.payload.place; held = o } } ∷ h.shorter))))
      swapped_holds =
          let zs = writes (swap_writes L x.payload.place o) ws in
          let i = x.payload.place in
          let left = rehung (swap_writes L i o) hop_off in
          let rest = rest_stays L laid s.capacity ws zs h.way p.address h.longer (x ∷ []) h.shorter held_old distinct_routes distinct_inners left (next_at L ws i) hung.2 in
          let same = word_off cell (swap_writes L i o) ws (laid.payload_put (L.seat i) o cell (cell_outside (lt_or_le cell (L.seat i)) (lt_or_le cell (L.seat i + laid.payload_words)))) in
          rehung_holds L laid s.capacity ws zs h.way p.address h.longer (x ∷ []) h.shorter held_old distinct_routes distinct_inners left
          (record { length = p.length; payload = record { place = i; held = o } } ∷ h.shorter) (some_there h.longer _ h.shorter) (
            ap (word zs) h.cell_is ∙ sym same ∙ hung.0,
            hop_in_place,
            subst (λ (y : ℕ). Chain L s.capacity zs p.address y h.shorter)
                (word_off (L.seat i + L.next_offset) (swap_writes L i o) ws (laid.payload_put (L.seat i) o (L.seat i + L.next_offset) (inr (omega (arith, laid.in_seat))))) rest,
          )

      bare_swapped : bare (plug h.way (leaf p.address (h.longer ++ (record { length = p.length; payload = record { place = x.payload.place; held = o } } ∷ h.shorter))))
          ≡ swap_at L.rules.width p.address (record { length = p.length; payload = o }) (bare t)
      bare_swapped =
          let a = p.address in
          let be : Entry P = record { length = p.length; payload = o } in
          let y : Entry (Seat P) = record { length = p.length; payload = record { place = x.payload.place; held = o } } in
          bare_plug h.way (leaf a (h.longer ++ (y ∷ h.shorter)))
          ∙ ap (λ (es : List (Entry P)). plug (bare_way h.way) (leaf a es)) (sym (exchange_split L p.length y x h.longer h.shorter h.longer_are h.length_is refl))
          ∙ sym (swap_plug L.rules.width a be (bare_way h.way) (leaf a (bare_entries (h.longer ++ (x ∷ h.shorter)))) (bare_follows L.rules.width a h.way h.follows))
          ∙ ap (swap_at L.rules.width a be) (sym (bare_plug h.way (leaf a (h.longer ++ (x ∷ h.shorter)))) ∙ ap bare h.whole)

      pub swap_encodes : Encodes L (writes (swap_writes L x.payload.place o) ws) (with_trial s (replace (record { prefix = p; payload = o }) s.routes) s.trial)
      swap_encodes =
          let zs = writes (swap_writes L x.payload.place o) ws in
          let i = x.payload.place in
          let y : Entry (Seat P) = record { length = p.length; payload = record { place = i; held = o } } in
          let be : Entry P = record { length = p.length; payload = o } in
          let r : Route P = record { prefix = p; payload = o } in
          let before = ap (find p) st.table ∙ there in
          let ordered = subst InOrder st.table (routes_in_order L.rules.width (bare t) st.good) in
          encodes_edit L ws zs s (replace r s.routes) (some (plug h.way (leaf p.address (h.longer ++ (y ∷ h.shorter))))) e few
          (aside_touch L laid s.capacity ws i cell (swap_writes L i o) small clear hop_off)
          (sym (word_off 1 (swap_writes L i o) ws (laid.payload_put (L.seat i) o 1 (inl (omega (arith, laid.seat_past i))))) ∙ e.count_there ∙ sym (length_replace r q s.routes ordered there))
          swapped_holds (subst (Good L.rules.width) (sym bare_swapped) (swap_good L.rules.width p.address be (bare t) st.good))
          (ap routes bare_swapped ∙ swap_routes L.rules.width p.address be (bare t) st.good q before ∙ ap (replace r) st.table)
          (λ z m u. plug_routes h.way (leaf p.address (h.longer ++ (y ∷ h.shorter))) z (in_swapped z m u (eq_or_ne z i)))
          (inner_kept (swap_writes L i o) hop_off (h.longer ++ (y ∷ h.shorter)))
        where
          into : (z : ℕ) → Among z (chain_places h.longer) ⊎ Among z (x.payload.place ∷ chain_places h.shorter)
              → Among z (chain_places (h.longer ++ (record { length = p.length; payload = record { place = x.payload.place; held = o } } ∷ h.shorter)))
          into z k =
              subst (Among z) (sym (places_append h.longer (record { length = p.length; payload = record { place = x.payload.place; held = o } } ∷ h.shorter)))
              (among_append z (chain_places h.longer) (x.payload.place ∷ chain_places h.shorter) k)

          in_swapped : (z : ℕ) → z < s.capacity → 1 ≤ kind_at L (writes (swap_writes L x.payload.place o) ws) z → (z ≡ x.payload.place) ⊎ (z ≡ x.payload.place → ⊥)
              → Among z (chain_places (h.longer ++ (record { length = p.length; payload = record { place = x.payload.place; held = o } } ∷ h.shorter))) ⊎ Among z (way_routes h.way)
          in_swapped z m u (inl f) = inl (into z (inr (inl f)))
          in_swapped z m u (inr n) =
              ⊎_elim
              (λ k. inl (into z (⊎_elim (λ a. inl a) (λ b. inr (inr b))
              (append_among z (chain_places h.longer) (chain_places h.shorter) (subst (Among z) (places_append h.longer h.shorter) k)))))
              (λ k. inr k) (kept (swap_writes L x.payload.place o) hop_off z m n u)
