-- What the laws ask of a layout: what is read at an index is read in the words that begin there, what is written is read back, and no two things of a
-- pool share a word.
use Prim.Native.Nat.{ℕ, ◌+◌, ◌≤◌, ◌<◌}
use mathlib.Core.Path.{◌≡◌, ap}
use mathlib.Core.List.{List}
use mathlib.Core.Logic.{◌⊎◌, inl, inr}
use native.Mathlib.Omega.{arith}
use lib.ListN.{length}
use Rattle.bits.proofs.Cases.{lt_or_le}
use Rattle.pool.specs.Write.{writes}
use Rattle.pool.specs.Layout.{word, Layout, size}
use Rattle.pool.proofs.Writes.{Off}

-- n words from an index on agree
abbrev pub Agree : ℕ → List ℕ → List ℕ → ℕ → Type 0
Agree n ws zs x = (i : ℕ) → x ≤ i → i < x + n → word ws i ≡ word zs i

-- an index is not one of n from another on
abbrev pub Outside : ℕ → ℕ → ℕ → Type 0
Outside n at x = (x < at) ⊎ (at + n ≤ x)

pub record Laid {P : Type 0} (L : Layout P) : Type 0 where
  -- every index of a pool fits 32 bits
  pub limit_small : L.rules.limit ≤ 65535
  -- how many words a payload, a route place and a change take
  pub payload_words : ℕ
  pub seat_words : ℕ
  pub slot_words : ℕ
  pub payload_some : 1 ≤ payload_words
  -- what is read at an index is read in the words that begin there
  pub address_read : (ws zs : List ℕ) (x : ℕ) → Agree L.address_words ws zs x → L.address_at ws x ≡ L.address_at zs x
  pub payload_read : (ws zs : List ℕ) (x : ℕ) → Agree payload_words ws zs x → L.payload_at ws x ≡ L.payload_at zs x
  pub known_read : (ws zs : List ℕ) (x : ℕ) → Agree payload_words ws zs x → L.Known ws x → L.Known zs x
  -- what is written is written there, and is then read
  pub address_put : (at a x : ℕ) → Outside L.address_words at x → Off x (L.put_address at a)
  pub address_back : (ws : List ℕ) (at a : ℕ) → at + L.address_words ≤ length ws → L.address_at (writes (L.put_address at a) ws) at ≡ a
  pub payload_put : (at : ℕ) (p : P) (x : ℕ) → Outside payload_words at x → Off x (L.put_payload at p)
  pub payload_back : (ws : List ℕ) (at : ℕ) (p : P) → at + payload_words ≤ length ws → L.payload_at (writes (L.put_payload at p) ws) at ≡ p
  pub known_back : (ws : List ℕ) (at : ℕ) (p : P) → at + payload_words ≤ length ws → (1 ≤ word (writes (L.put_payload at p) ws) at) × L.Known (writes (L.put_payload at p) ws) at
  -- in a route place: the payload, the prefix, the next link
  pub in_seat : (payload_words ≤ L.prefix_offset) × (L.prefix_offset + L.address_words < L.next_offset)
  pub next_fits : L.next_offset < seat_words
  -- in a change: the action, the prefix, the payload before, the payload after
  pub in_slot : (1 + L.address_words < L.old_offset) × (L.old_offset + payload_words ≤ L.new_offset)
  pub new_fits : L.new_offset + payload_words ≤ slot_words
  -- in a pool: the head, the route places, the inner places, the changes
  pub seat_past : (i : ℕ) → 8 ≤ L.seat i
  pub seats_apart : (i j : ℕ) → i < j → L.seat i + seat_words ≤ L.seat j
  pub joint_past : (c i j : ℕ) → i < c → L.seat i + seat_words ≤ L.joint c j
  pub joint_first : (c j : ℕ) → 8 ≤ L.joint c j
  pub joints_apart : (c i j : ℕ) → i < j → L.joint c i + 3 ≤ L.joint c j
  pub slot_past : (c j k : ℕ) → j < c → L.joint c j + 3 ≤ L.slot c k
  pub slot_first : (c k : ℕ) → (8 ≤ L.slot c 0) × (L.slot c 0 ≤ L.slot c k)
  pub slots_apart : (c i k : ℕ) → i < k → L.slot c i + slot_words ≤ L.slot c k
  pub places_in : (c : ℕ) → L.slot c 0 ≤ size L c
  pub slot_in : (c k : ℕ) → k < L.rules.standing → L.slot c k + slot_words ≤ size L c

-- so what begins in a place, a change or a pool ends in it
module _ {P : Type 0} {L : Layout P} (laid : Laid L) where
  pub payload_fits : (1 ≤ laid.payload_words) × (laid.payload_words ≤ laid.seat_words)
  payload_fits = omega (arith, laid.payload_some, laid.in_seat, laid.next_fits)

  pub prefix_fits : L.prefix_offset + L.address_words < laid.seat_words
  prefix_fits = omega (arith, laid.in_seat, laid.next_fits)

  pub changed_fits : 1 + L.address_words < laid.slot_words
  changed_fits = omega (arith, laid.in_slot, laid.new_fits)

  pub old_fits : L.old_offset + laid.payload_words ≤ laid.slot_words
  old_fits = omega (arith, laid.in_slot, laid.new_fits)

  pub head_in : (c : ℕ) → 8 ≤ size L c
  head_in c = omega (arith, laid.slot_first c 0, laid.places_in c)

  pub joint_in : (c j : ℕ) → j < c → L.joint c j + 3 ≤ size L c
  joint_in c j h = omega (arith, laid.slot_past c j 0 h, laid.places_in c)

  pub seat_in : (c i : ℕ) → i < c → L.seat i + laid.seat_words ≤ size L c
  seat_in c i h = omega (arith, laid.joint_past c i i h, joint_in c i h)

-- of things that are n words apart, a word of two is the same word of one
one_place : (f : ℕ → ℕ) (n : ℕ) → ((i j : ℕ) → i < j → f i + n ≤ f j) → (i j x y : ℕ) → x < n → y < n → f i + x ≡ f j + y → (i ≡ j) × (x ≡ y)
one_place f n apart i j x y l m e = go (lt_or_le i j) (lt_or_le j i)
  where
    go : (i < j) ⊎ (j ≤ i) → (j < i) ⊎ (i ≤ j) → (i ≡ j) × (x ≡ y)
    go (inl h) q = absurd (omega (arith, apart i j h))
    go (inr h) (inl k) = absurd (omega (arith, apart j i k))
    go (inr h) (inr k) = let same : i ≡ j = omega arith in (same, omega (arith, ap f same))

module _ {P : Type 0} (L : Layout P) (laid : Laid L) where
  pub one_seat : (i j x y : ℕ) → x < laid.seat_words → y < laid.seat_words → L.seat i + x ≡ L.seat j + y → (i ≡ j) × (x ≡ y)
  one_seat = one_place L.seat laid.seat_words laid.seats_apart

  pub one_joint : (c i j x y : ℕ) → x < 3 → y < 3 → L.joint c i + x ≡ L.joint c j + y → (i ≡ j) × (x ≡ y)
  one_joint c = one_place (L.joint c) 3 (laid.joints_apart c)

  pub one_seat0 : (i j : ℕ) → L.seat i ≡ L.seat j → i ≡ j
  one_seat0 i j e = (one_seat i j 0 0 (omega (arith, payload_fits laid)) (omega (arith, payload_fits laid)) (omega arith)).0

  pub one_joint0 : (c i j : ℕ) → L.joint c i ≡ L.joint c j → i ≡ j
  one_joint0 c i j e = (one_joint c i j 0 0 (omega arith) (omega arith) (omega arith)).0
