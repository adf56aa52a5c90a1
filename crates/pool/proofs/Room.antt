-- How much room a pool takes, and that none of it is lost.
use Prim.Native.Nat.{ℕ, zero, suc, ◌*◌, ◌≤◌, ◌<◌}
use mathlib.Core.Path.{◌≡◌, refl, ap, subst, ◌∙◌}
use mathlib.Core.List.{List}
use mathlib.Core.Logic.{◌⊎◌, inl, inr, ⊎_elim}
use mathlib.Core.Option.{none, some}
use native.Mathlib.Nat.{le_antisymm}
use native.Mathlib.Omega.{arith}
use borrow.Author.Tests.{le-ltb}
use lib.ListN.{length}
use Rattle.model.specs.State.{State, Meaning}
use Rattle.model.specs.Call.{fresh, number}
use Rattle.model.specs.Ipv4.{Payload}
use Rattle.bits.proofs.Cases.{lt_or_le, eq_or_ne}
use Rattle.patricia.specs.Tree.{Root}
use Rattle.patricia.specs.Good.{RootGood}
use Rattle.patricia.proofs.Form.{root_obeys_good}
use Rattle.pool.specs.Layout.{Layout, size, root_in, kind_at}
use Rattle.pool.specs.Ipv4.{ipv4}
use Rattle.pool.specs.Holds.{Seat, bare_root, HoldsRoot}
use Rattle.pool.specs.Means.{Among, routes_used, Means}
use Rattle.pool.proofs.Frame.{routes_in_pool}
use Rattle.pool.proofs.Places.{route_count, route_used}
use Rattle.pool.proofs.Distinct.{Distinct, routes_distinct}
use Rattle.pool.proofs.Few.{all_among, every_among}

-- "The pool may take up to 64 KiB", at any capacity: a word is 4 bytes.
pub at_most_64_kib : (c : ℕ) → c ≤ ipv4.rules.limit → 4 * size ipv4 c ≤ 64 * 1024
at_most_64_kib c h = omega (arith, h)

-- "Capacity now runs from 1 to 512 and 513 gives 1."
pub largest_taken : (n : ℕ) (m : Meaning Payload) → size ipv4 512 ≤ n → number ipv4.rules (fresh 512 n) m ≡ 0
largest_taken n m h = rw (le-ltb n (size ipv4 512) h)

pub above_refused : (n : ℕ) (m : Meaning Payload) → number ipv4.rules (fresh 513 n) m ≡ 1
above_refused n m = refl

module _ {P : Type 0} (L : Layout P) (ws : List ℕ) (s : State P) (m : Means L ws s) where
  used_distinct : (t : Root ℕ (Seat P)) → HoldsRoot L s.capacity ws (root_in ws) t → RootGood L.rules.width (bare_root t) → Distinct (routes_used t)
  used_distinct none h g = tt
  used_distinct (some t) h g = routes_distinct L s.capacity ws (root_in ws) t h g

  used_below : (t : Root ℕ (Seat P)) → HoldsRoot L s.capacity ws (root_in ws) t → (i : ℕ) → Among i (routes_used t) → i < s.capacity
  used_below none h i k = absurd k
  used_below (some t) h i k = routes_in_pool L s.capacity ws ws (root_in ws) t h i k

  used_marked : (t : Root ℕ (Seat P)) → HoldsRoot L s.capacity ws (root_in ws) t → (i : ℕ) → Among i (routes_used t) → 1 ≤ kind_at L ws i
  used_marked none h i k = absurd k
  used_marked (some t) h i k = route_used L s.capacity ws (root_in ws) t h i k

  places_held : length (routes_used m.tree) ≡ length s.routes
  places_held = route_count m.tree ∙ ap length m.routes_there

  -- all of the first n places are used, or one is free
  used_or_free : (n : ℕ) → ((i : ℕ) → i < n → 1 ≤ kind_at L ws i) ⊎ ((i : ℕ) × (i < n) × (kind_at L ws i ≡ 0))
  used_or_free zero = inl (λ i b. absurd (omega (arith, b)))
  used_or_free (suc n) = go (used_or_free n) (eq_or_ne (kind_at L ws n) 0)
    where
      go : ((i : ℕ) → i < n → 1 ≤ kind_at L ws i) ⊎ ((i : ℕ) × (i < n) × (kind_at L ws i ≡ 0)) → (kind_at L ws n ≡ 0) ⊎ (kind_at L ws n ≡ 0 → ⊥)
          → ((i : ℕ) → i < suc n → 1 ≤ kind_at L ws i) ⊎ ((i : ℕ) × (i < suc n) × (kind_at L ws i ≡ 0))
      go (inr f) e = inr (f.0, omega (arith, f.1), f.2)
      go (inl f) (inl e) = inr (n, omega arith, e)
      go (inl f) (inr e) = inl (λ i b. ⊎_elim (λ k. f i k) (λ k. subst (λ (j : ℕ). 1 ≤ kind_at L ws j) (le_antisymm k (omega (arith, b))) (omega (arith, e))) (lt_or_le i n))

  -- "A freed place is used again": a table that holds fewer routes than its capacity has a free place, whichever were used before,
  pub room_has_a_free_place : length s.routes < s.capacity → (i : ℕ) × (i < s.capacity) × (kind_at L ws i ≡ 0)
  room_has_a_free_place room = go (used_or_free s.capacity)
    where
      go : ((i : ℕ) → i < s.capacity → 1 ≤ kind_at L ws i) ⊎ ((i : ℕ) × (i < s.capacity) × (kind_at L ws i ≡ 0)) → (i : ℕ) × (i < s.capacity) × (kind_at L ws i ≡ 0)
      go (inl f) = absurd (omega (arith, room, places_held, every_among s.capacity (routes_used m.tree) (λ i b. m.route_places_used i b (f i b))))
      go (inr f) = f

  -- and one that holds as many uses every place, whichever were freed before. An add is refused with 7 only there (`seven_means_full`).
  pub freed_place_used_again : length s.routes ≡ s.capacity → (i : ℕ) → i < s.capacity → 1 ≤ kind_at L ws i
  freed_place_used_again full i b =
      let distinct = used_distinct m.tree m.holds (root_obeys_good L.rules.width (bare_root m.tree) m.obeys) in
      used_marked m.tree m.holds i (all_among s.capacity (routes_used m.tree) distinct (used_below m.tree m.holds) (omega (arith, full, places_held)) i b)
