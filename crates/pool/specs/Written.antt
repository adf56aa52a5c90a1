-- How a prefix and an IPv4 payload are written: what the contracts of the writers cite.
use Rattle.std.specs.Prelude.{ℕ, ◌+◌, List, [], ◌∷◌, ◌++◌}
use Rattle.model.specs.Prefix.{Prefix}
use Rattle.model.specs.Ipv4.{Hop, direct, via, reject, Origin, fixed, learned, Payload}
use Rattle.pool.specs.Write.{Write}
use Rattle.pool.specs.Layout.{Layout}

-- A prefix written.
abbrev pub prefix_writes : {P : Type 0} → Layout P → ℕ → Prefix → List Write
prefix_writes L at p = L.put_address at p.address ++ ((at + L.address_words, p.length) ∷ [])

-- The word for a hop's kind.
abbrev pub kind_of : Hop → ℕ
kind_of (direct p) = 1
kind_of (via p g) = 2
kind_of reject = 3

-- The word for its port, 0 where it has none.
abbrev pub port_of : Hop → ℕ
port_of (direct p) = p
port_of (via p g) = p
port_of reject = 0

-- The word for its gateway, 0 where it has none.
abbrev pub gateway_of : Hop → ℕ
gateway_of (direct p) = 0
gateway_of (via p g) = g
gateway_of reject = 0

-- A hop written.
abbrev pub hop_writes : ℕ → Hop → List Write
hop_writes at h = (at, kind_of h) ∷ (at + 1, port_of h) ∷ (at + 2, gateway_of h) ∷ []

-- The word for an origin.
abbrev pub origin_word : Origin → ℕ
origin_word fixed = 0
origin_word (learned m) = 1

-- The word for its metric, 0 where it has none.
abbrev pub metric_word : Origin → ℕ
metric_word fixed = 0
metric_word (learned m) = m

-- An origin written.
abbrev pub origin_writes : ℕ → Origin → List Write
origin_writes at o = (at, origin_word o) ∷ (at + 1, metric_word o) ∷ []

-- A payload written: its hop, and behind it its origin.
abbrev pub held_writes : ℕ → Payload → List Write
held_writes at h = hop_writes at h.hop ++ origin_writes (at + 3) h.origin
