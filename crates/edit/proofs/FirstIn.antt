-- The first route of an empty table, put in.
use Prim.Native.Nat.{ℕ, ◌+◌, ◌≤◌, ◌<◌}
use mathlib.Core.Path.{◌≡◌, refl, sym, ap, subst, ◌∙◌}
use mathlib.Core.Bool.{true}
use mathlib.Core.List.{List, [], ◌∷◌}
use mathlib.Core.Logic.{◌⊎◌, inl, inr}
use mathlib.Core.Option.{none, some}
use native.Mathlib.Omega.{arith}
use lib.ListN.{length}
use Rattle.bits.proofs.Cases.{eq_or_ne}
use Rattle.model.specs.Prefix.{well_formed}
use Rattle.model.specs.Routes.{Route, insert}
use Rattle.model.specs.State.{State, changes}
use Rattle.model.specs.Call.{with_trial}
use Rattle.model.proofs.Edits.{length_insert}
use Rattle.patricia.specs.Tree.{leaf, Root, root_routes}
use Rattle.pool.specs.Layout.{word, Layout, kind_at, mark_at}
use Rattle.pool.specs.Link.{to_route}
use Rattle.pool.specs.Holds.{Seat, bare_root}
use Rattle.pool.specs.Means.{Among, routes_used, inners_used}
use Rattle.pool.specs.Write.{writes}
use Rattle.rows.specs.Writes.{route_writes, first_writes}
use Rattle.pool.proofs.Writes.{Off, off_append, word_off, word_on, on_right}
use Rattle.pool.proofs.Laid.{Laid, payload_fits, head_in}
use Rattle.edit.proofs.Spared.{OffSeat, seats_apart_lem, off_route, aside}
use Rattle.edit.proofs.Stands.{entry_at, route_written, next_written}
use Rattle.edit.specs.Encodes.{Encodes}
use Rattle.edit.proofs.Encodes.{encodes_edit}

module _ {P : Type 0} (L : Layout P) (laid : Laid L) where
  module _ (ws : List ℕ) (s : State P) (e : Encodes L ws s) (few : length (changes s.trial) ≤ L.rules.standing) (is : e.tree ≡ none) (i : ℕ) (r : Route P) (l : i < s.capacity)
      (formed : well_formed L.rules.width r.prefix ≡ true) where
    off : (x : ℕ) → OffSeat L laid x i → (x ≡ 2 → ⊥) → (x ≡ 1 → ⊥) → Off x (first_writes L ws i r)
    off x a b d = off_append x (route_writes L i r 0) ((2, to_route i) ∷ (1, word ws 1 + 1) ∷ []) (off_route L laid x i r 0 a) (b, (d, tt))

    seat_off : (x : ℕ) → L.seat i ≤ x → x < L.seat i + laid.seat_words → Off x ((2, to_route i) ∷ (1, word ws 1 + 1) ∷ [])
    seat_off x a b = (λ f. omega (arith, laid.seat_past i), (λ f. omega (arith, laid.seat_past i), tt))

    no_routes : s.routes ≡ []
    no_routes = sym (subst (λ (x : Root ℕ (Seat P)). root_routes (bare_root x) ≡ s.routes) is e.routes_there)

    pub first_encodes : Encodes L (writes (first_writes L ws i r) ws) (with_trial s (insert r s.routes) s.trial)
    first_encodes =
        let zs = writes (first_writes L ws i r) ws in
        let a = r.prefix.address in
        let written : (x v : ℕ) → x < length ws → (h : Rattle.pool.proofs.Writes.On x v ((2, to_route i) ∷ (1, word ws 1 + 1) ∷ [])) → word zs x ≡ v =
        λ x v f h. word_on x v (first_writes L ws i r) ws f (on_right x v (route_writes L i r 0) ((2, to_route i) ∷ (1, word ws 1 + 1) ∷ []) h) in
        encodes_edit L ws zs s (insert r s.routes) (some (leaf a (entry_at L i r ∷ []))) e few
        (aside L laid ws (first_writes L ws i r) s.capacity (off 0 (inl (omega (arith, laid.seat_past i))) (omega arith) (omega arith))
        (off 3 (inl (omega (arith, laid.seat_past i))) (omega arith) (omega arith))
        (off 4 (inl (omega (arith, laid.seat_past i))) (omega arith) (omega arith))
        (λ x n. off x (inr (omega (arith, laid.joint_past s.capacity i i l, laid.slot_past s.capacity i 0 l))) (λ f. omega (arith, laid.slot_first s.capacity 0))
        (λ f. omega (arith, laid.slot_first s.capacity 0))))
        (written 1 (word ws 1 + 1) (omega (arith, e.long_enough, head_in laid s.capacity)) (inr (inl (refl, refl, tt))) ∙ omega (arith, e.count_there, length_insert r s.routes)) (
          written 2 (to_route i) (omega (arith, e.long_enough, head_in laid s.capacity)) (inl (refl, refl, (omega arith, tt))),
          route_written L laid s.capacity ws i r 0 ((2, to_route i) ∷ (1, word ws 1 + 1) ∷ []) l e.long_enough seat_off,
          next_written L laid s.capacity ws i r 0 ((2, to_route i) ∷ (1, word ws 1 + 1) ∷ []) l e.long_enough seat_off,
        )
        (record { has_route = omega arith; well_formed_here = (formed, tt); longest_first = (tt, tt) }) (ap (insert r) (sym no_routes)) used used_inner
      where
        used : (p : ℕ) → p < s.capacity → 1 ≤ kind_at L (writes (first_writes L ws i r) ws) p → Among p (i ∷ [])
        used p n u = go (eq_or_ne p i)
          where
            go : (p ≡ i) ⊎ (p ≡ i → ⊥) → Among p (i ∷ [])
            go (inl f) = inl f
            go (inr d) =
                let same =
                word_off (L.seat p) (first_writes L ws i r) ws
                (off (L.seat p) (seats_apart_lem L laid p i (L.seat p) d (omega arith) (omega (arith, payload_fits laid))) (λ f. omega (arith, laid.seat_past p))
                (λ f. omega (arith, laid.seat_past p))) in
                absurd (subst (λ (x : Root ℕ (Seat P)). Among p (routes_used x)) is (e.route_places_used p n (subst (λ (x : ℕ). 1 ≤ x) (sym same) u)))

        used_inner : (q : ℕ) → q < s.capacity → 1 ≤ mark_at L s.capacity (writes (first_writes L ws i r) ws) q → Among q []
        used_inner q n u =
            let same =
            word_off (L.joint s.capacity q) (first_writes L ws i r) ws
            (off (L.joint s.capacity q) (inr (laid.joint_past s.capacity i q l)) (λ f. omega (arith, laid.joint_first s.capacity q))
            (λ f. omega (arith, laid.joint_first s.capacity q))) in
            subst (λ (x : Root ℕ (Seat P)). Among q (inners_used x)) is (e.inner_places_used q n (subst (λ (x : ℕ). 1 ≤ x) (sym same) u))
