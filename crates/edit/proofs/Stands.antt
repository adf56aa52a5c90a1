-- The tree that the words of a state hold, its places, and a route as it is written.
use Prim.Native.Nat.{ℕ, ◌+◌, ◌≤◌, ◌<◌}
use mathlib.Core.Path.{◌≡◌, refl, sym, ap, subst, ◌∙◌}
use mathlib.Core.List.{List, [], ◌∷◌, ◌++◌}
use mathlib.Core.Logic.{inl, inr}
use mathlib.Core.Option.{some}
use native.Mathlib.Omega.{arith}
use lib.ListN.{length}
use Rattle.model.specs.Routes.{Route}
use Rattle.model.specs.State.{State}
use Rattle.patricia.specs.Good.{Good, RootGood}
use Rattle.patricia.specs.Tree.{Entry, Root, routes, root_routes}
use Rattle.pool.specs.Layout.{word, Layout, size, kind_at, next_at, mark_at}
use Rattle.pool.specs.Write.{Write, writes}
use Rattle.pool.specs.Holds.{Seat, Seated, bare, InPlace, Holds, HoldsRoot, bare_root, route_places, inner_places}
use Rattle.pool.specs.Means.{Among, routes_used, inners_used}
use Rattle.pool.proofs.Distinct.{Distinct, routes_distinct, inners_distinct}
use Rattle.pool.proofs.Places.{route_used}
use Rattle.rows.specs.Writes.{route_writes}
use Rattle.pool.proofs.Writes.{Off, word_on, word_off, writes_append, length_writes}
use Rattle.pool.proofs.Laid.{Agree, Laid, payload_fits, prefix_fits, seat_in}
use Rattle.edit.specs.Encodes.{Encodes}

module _ {P : Type 0} where
  -- a list with a member is not empty
  pub some_there : (xs : List (Entry (Seat P))) (y : Entry (Seat P)) (ys : List (Entry (Seat P))) → xs ++ (y ∷ ys) ≡ [] → ⊥
  some_there [] y ys f = let z : ◌≡◌ {A = ℕ} 0 1 = cc in omega arith
  some_there (x ∷ xs) y ys f = let z : ◌≡◌ {A = ℕ} 0 1 = cc in omega arith

module _ {P : Type 0} (L : Layout P) where
  -- ---- small facts

  -- the entry of a route in a place
  abbrev pub entry_at : ℕ → Route P → Entry (Seat P)
  entry_at i r = record { length = r.prefix.length; payload = record { place = i; held = r.payload } }

  -- a free place is not in the tree
  pub free_new : (c : ℕ) (ws : List ℕ) (link : ℕ) (t : Seated P) → Holds L c ws link t → (i : ℕ) → kind_at L ws i ≡ 0 → Among i (route_places t) → ⊥
  free_new c ws link t h i z k = omega (arith, route_used L c ws link t h i k, z)

module _ {P : Type 0} (L : Layout P) (laid : Laid L) where
  -- ---- the route as written

  module _ (c : ℕ) (ws : List ℕ) (i : ℕ) (r : Route P) (n : ℕ) (more : List Write) (l : i < c) (fits : size L c ≤ length ws)
      (off : (x : ℕ) → L.seat i ≤ x → x < L.seat i + laid.seat_words → Off x more) where
    -- the row in its parts: the payload, the address, the length and the link, and what comes after them
    tail : List Write
    tail = (L.seat i + L.prefix_offset + L.address_words, r.prefix.length) ∷ (L.seat i + L.next_offset, n) ∷ more

    one : List ℕ
    one = writes (L.put_payload (L.seat i) r.payload) ws

    two : List ℕ
    two = writes (L.put_address (L.seat i + L.prefix_offset) r.prefix.address) one

    parts : writes (route_writes L i r n ++ more) ws ≡ writes tail two
    unfolding tail one two
    parts =
        let pay = L.put_payload (L.seat i) r.payload in
        let adr = L.put_address (L.seat i + L.prefix_offset) r.prefix.address in
        let len : List Write = (L.seat i + L.prefix_offset + L.address_words, r.prefix.length) ∷ [] in
        let nxt : List Write = (L.seat i + L.next_offset, n) ∷ [] in
        writes_append (pay ++ ((adr ++ len) ++ nxt)) more ws ∙ ap (writes more) (writes_append pay ((adr ++ len) ++ nxt) ws ∙ writes_append (adr ++ len) nxt (writes pay ws))
        ∙ ap (λ (zs : List ℕ). writes more (writes nxt zs)) (writes_append adr len (writes pay ws))

    long_one : length one ≡ length ws
    unfolding one
    long_one = length_writes (L.put_payload (L.seat i) r.payload) ws

    long_two : length two ≡ length ws
    unfolding two
    long_two = length_writes (L.put_address (L.seat i + L.prefix_offset) r.prefix.address) one ∙ long_one

    -- the payload stays through the rest, and so does the address
    tail_off : (x : ℕ) → L.seat i ≤ x → x < L.seat i + L.prefix_offset + L.address_words → Off x tail
    unfolding tail
    tail_off x a b = (λ e. omega arith, (λ e. omega (arith, laid.in_seat), off x a (omega (arith, prefix_fits laid))))

    pay_agree : Agree laid.payload_words one (writes tail two) (L.seat i)
    unfolding two
    pay_agree x a b =
        word_off x (L.put_address (L.seat i + L.prefix_offset) r.prefix.address) one (laid.address_put (L.seat i + L.prefix_offset) r.prefix.address x (inl (omega (arith, laid.in_seat))))
        ∙ word_off x tail two (tail_off x a (omega (arith, laid.in_seat)))

    adr_agree : Agree L.address_words two (writes tail two) (L.seat i + L.prefix_offset)
    adr_agree x a b = word_off x tail two (tail_off x (omega arith) b)

    known : (1 ≤ word (writes tail two) (L.seat i)) × L.Known (writes tail two) (L.seat i)
    unfolding one
    known =
        let k = laid.known_back ws (L.seat i) r.payload (omega (arith, seat_in laid c i l, payload_fits laid)) in (
          subst (λ (m : ℕ). 1 ≤ m) (pay_agree (L.seat i) (omega arith) (omega (arith, payload_fits laid))) k.0,
          laid.known_read one (writes tail two) (L.seat i) pay_agree k.1,
        )

    pub route_written : InPlace L c (writes (route_writes L i r n ++ more) ws) r.prefix.address (entry_at L i r)
    unfolding one two tail
    route_written =
        subst (λ (zs : List ℕ). InPlace L c zs r.prefix.address (entry_at L i r)) (sym parts) (record {
          in_pool = l;
          used = known.0;
          known = known.1;
          held_there = sym (laid.payload_read one (writes tail two) (L.seat i) pay_agree) ∙ laid.payload_back ws (L.seat i) r.payload (omega (arith, seat_in laid c i l, payload_fits laid));
          address_there =
              sym (laid.address_read two (writes tail two) (L.seat i + L.prefix_offset) adr_agree)
              ∙ laid.address_back one (L.seat i + L.prefix_offset) r.prefix.address (omega (arith, seat_in laid c i l, prefix_fits laid, long_one));
          length_there = word_on (L.seat i + L.prefix_offset + L.address_words) r.prefix.length tail two (omega (arith, seat_in laid c i l, prefix_fits laid, long_two))
              (inl (refl, refl, (λ e. omega (arith, laid.in_seat), off (L.seat i + L.prefix_offset + L.address_words) (omega arith) (omega (arith, prefix_fits laid)))));
        })

    pub next_written : next_at L (writes (route_writes L i r n ++ more) ws) i ≡ n
    unfolding tail
    next_written =
        ap (λ (zs : List ℕ). word zs (L.seat i + L.next_offset)) parts
        ∙ word_on (L.seat i + L.next_offset) n tail two (omega (arith, seat_in laid c i l, laid.next_fits, long_two))
        (inr (inl (refl, refl, off (L.seat i + L.next_offset) (omega arith) (omega (arith, laid.next_fits)))))

  -- ---- the tree of a state that has routes

  pub record Stands (ws : List ℕ) (s : State P) (t : Seated P) : Type 0 where
    pub held : Holds L s.capacity ws (word ws 2) t
    pub good : Good L.rules.width (bare t)
    pub table : routes (bare t) ≡ s.routes
    pub routes_apart : Distinct (route_places t)
    pub inners_apart : Distinct (inner_places t)
    pub routes_used : (i : ℕ) → i < s.capacity → 1 ≤ kind_at L ws i → Among i (route_places t)
    pub inners_used : (j : ℕ) → j < s.capacity → 1 ≤ mark_at L s.capacity ws j → Among j (inner_places t)

  pub stands : (ws : List ℕ) (s : State P) (e : Encodes L ws s) (t : Seated P) → e.tree ≡ some t → Stands ws s t
  stands ws s e t is =
      let h : Holds L s.capacity ws (word ws 2) t = subst (λ (x : Root ℕ (Seat P)). HoldsRoot L s.capacity ws (word ws 2) x) is e.holds in
      let g : Good L.rules.width (bare t) = subst (λ (x : Root ℕ (Seat P)). RootGood L.rules.width (bare_root x)) is e.good in record {
        held = h;
        good = g;
        table = subst (λ (x : Root ℕ (Seat P)). root_routes (bare_root x) ≡ s.routes) is e.routes_there;
        routes_apart = routes_distinct L s.capacity ws (word ws 2) t h g;
        inners_apart = inners_distinct L s.capacity ws (word ws 2) t h g;
        routes_used = λ i l u. subst (λ (x : Root ℕ (Seat P)). Among i (routes_used x)) is (e.route_places_used i l u);
        inners_used = λ j l u. subst (λ (x : Root ℕ (Seat P)). Among j (inners_used x)) is (e.inner_places_used j l u);
      }
