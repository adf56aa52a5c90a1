-- The IPv4 table's layout.
use Rattle.std.specs.Prelude.{ℕ, zero, suc, ◌+◌, ◌*◌, ◌≤◌, List, [], ◌∷◌}
use Rattle.model.specs.Ipv4.{Hop, direct, via, reject, Origin, fixed, learned, Payload, ipv4 as rules4}
use Rattle.pool.specs.Layout.{word, Layout}
use Rattle.pool.specs.Written.{held_writes}

-- A hop is three words: its kind (1 direct, 2 via, 3 reject), its port and its gateway. A kind does not look at the words that it does not use.
abbrev pub hop_from : ℕ → ℕ → ℕ → Hop
hop_from zero p g = reject
hop_from (suc zero) p g = direct p
hop_from (suc (suc zero)) p g = via p g
hop_from (suc (suc (suc k))) p g = reject

-- The hop whose three words begin here.
abbrev pub hop_at : List ℕ → ℕ → Hop
hop_at ws at = hop_from (word ws at) (word ws (at + 1)) (word ws (at + 2))

-- An origin is two words: 0 fixed, 1 learned; and the metric, which a fixed one does not look at.
abbrev pub origin_from : ℕ → ℕ → Origin
origin_from zero m = fixed
origin_from (suc zero) m = learned m
origin_from (suc (suc k)) m = fixed

-- The origin whose two words begin here.
abbrev pub origin_at : List ℕ → ℕ → Origin
origin_at ws at = origin_from (word ws at) (word ws (at + 1))

-- The payload whose words begin here: its hop, and behind it its origin.
abbrev pub held_at : List ℕ → ℕ → Payload
held_at ws at = record { hop = hop_at ws at; origin = origin_at ws (at + 3) }

-- 8 words of head; 8 a route place: kind, port, gateway, origin, metric, address, length, next link; 4 an inner place; 16 for each of 64 changes: action,
-- address, length, payload before, payload after, three not used.
abbrev pub ipv4 : Layout Payload
ipv4 = record {
  rules = rules4 (λ c. 1032 + 12 * c);
  seat = λ i. 8 + 8 * i;
  joint = λ c j. 8 + 8 * c + 4 * j;
  slot = λ c k. 8 + 12 * c + 16 * k;
  prefix_offset = 5;
  next_offset = 7;
  old_offset = 3;
  new_offset = 8;
  address_words = 1;
  address_at = word;
  put_address = λ at a. (at, a) ∷ [];
  payload_at = held_at;
  put_payload = held_writes;
  Known = λ ws at. (word ws at ≤ 3) × (word ws (at + 3) ≤ 1);
}
