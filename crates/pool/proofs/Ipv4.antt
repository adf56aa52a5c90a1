-- The IPv4 layout is laid as the laws ask: a payload is read where it was written, and nowhere else.
use Prim.Native.Nat.{ℕ, ◌+◌, ◌≤◌}
use mathlib.Core.Path.{◌≡◌, refl, ◌∙◌}
use mathlib.Core.List.{List, [], ◌∷◌}
use mathlib.Core.Logic.{inl, inr}
use native.Mathlib.Omega.{arith}
use lib.ListN.{length}
use Rattle.model.specs.Ipv4.{Hop, direct, via, reject, Origin, fixed, learned, Payload}
use Rattle.pool.specs.Write.{writes}
use Rattle.pool.specs.Layout.{word}
use Rattle.pool.specs.Ipv4.{hop_from, origin_from, held_at, ipv4}
use Rattle.pool.specs.Written.{kind_of, port_of, gateway_of, origin_word, metric_word, held_writes}
use Rattle.pool.proofs.Writes.{Off, word_on}
use Rattle.pool.proofs.Laid.{Agree, Outside, Laid}

hop_same : (h : Hop) → hop_from (kind_of h) (port_of h) (gateway_of h) ≡ h
hop_same (direct p) = refl
hop_same (via p g) = refl
hop_same reject = refl

origin_same : (o : Origin) → origin_from (origin_word o) (metric_word o) ≡ o
origin_same fixed = refl
origin_same (learned m) = refl

kind_known : (h : Hop) → (1 ≤ kind_of h) × (kind_of h ≤ 3)
kind_known (direct p) = omega arith
kind_known (via p g) = omega arith
kind_known reject = omega arith

origin_known : (o : Origin) → origin_word o ≤ 1
origin_known fixed = omega arith
origin_known (learned m) = omega arith

pub one_put : (at a x : ℕ) → Outside 1 at x → Off x ((at, a) ∷ [])
one_put at a x (inl o) = omega arith
one_put at a x (inr o) = omega arith

held_read : (ws zs : List ℕ) (x : ℕ) → Agree 5 ws zs x → held_at ws x ≡ held_at zs x
held_read ws zs x f =
    let kind = f x (omega arith) (omega arith) in
    let port = f (x + 1) (omega arith) (omega arith) in
    let gateway = f (x + 2) (omega arith) (omega arith) in
    let origin = f (x + 3) (omega arith) (omega arith) in
    let metric = f (x + 3 + 1) (omega arith) (omega arith) in
    λ i. record { hop = hop_from (kind i) (port i) (gateway i); origin = origin_from (origin i) (metric i) }

held_put : (at : ℕ) (h : Payload) (x : ℕ) → Outside 5 at x → Off x (held_writes at h)
held_put at h x (inl o) = omega arith
held_put at h x (inr o) = omega arith

module _ (ws : List ℕ) (at : ℕ) (h : Payload) (fits : at + 5 ≤ length ws) where
  kind_back : word (writes (held_writes at h) ws) at ≡ kind_of h.hop
  kind_back = word_on at (kind_of h.hop) (held_writes at h) ws (omega arith) (inl (refl, refl, omega arith))

  origin_back : word (writes (held_writes at h) ws) (at + 3) ≡ origin_word h.origin
  origin_back = word_on (at + 3) (origin_word h.origin) (held_writes at h) ws (omega arith) (inr (inr (inr (inl (refl, refl, omega arith)))))

  held_back : held_at (writes (held_writes at h) ws) at ≡ h
  held_back =
      let port = word_on (at + 1) (port_of h.hop) (held_writes at h) ws (omega arith) (inr (inl (refl, refl, omega arith))) in
      let gateway = word_on (at + 2) (gateway_of h.hop) (held_writes at h) ws (omega arith) (inr (inr (inl (refl, refl, omega arith)))) in
      let metric = word_on (at + 3 + 1) (metric_word h.origin) (held_writes at h) ws (omega arith) (inr (inr (inr (inr (inl (refl, refl, tt)))))) in
      let hop = (λ i. hop_from (kind_back i) (port i) (gateway i)) ∙ hop_same h.hop in
      let origin = (λ i. origin_from (origin_back i) (metric i)) ∙ origin_same h.origin in
      λ i. record { hop = hop i; origin = origin i }

-- no two things of an IPv4 pool share a word
pub laid4 : Laid ipv4
laid4 = record {
  limit_small = omega arith;
  payload_words = 5;
  seat_words = 8;
  slot_words = 16;
  payload_some = omega arith;
  address_read = λ ws zs x f. f x (omega arith) (omega arith);
  payload_read = held_read;
  known_read = λ ws zs x f k. omega (arith, k, f x (omega arith) (omega arith), f (x + 3) (omega arith) (omega arith));
  address_put = one_put;
  address_back = λ ws at a l. word_on at a ((at, a) ∷ []) ws (omega arith) (inl (refl, refl, tt));
  payload_put = held_put;
  payload_back = held_back;
  known_back = λ ws at h l. omega (arith, kind_back ws at h l, kind_known h.hop, origin_back ws at h l, origin_known h.origin);
  in_seat = omega arith;
  next_fits = omega arith;
  in_slot = omega arith;
  new_fits = omega arith;
  seat_past = λ i. omega arith;
  seats_apart = λ i j h. omega arith;
  joint_past = λ c i j h. omega arith;
  joint_first = λ c j. omega arith;
  joints_apart = λ c i j h. omega arith;
  slot_past = λ c j k h. omega arith;
  slot_first = λ c k. omega arith;
  slots_apart = λ c i k h. omega arith;
  places_in = λ c. omega arith;
  slot_in = λ c k h. omega arith;
}
