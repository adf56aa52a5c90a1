-- How the C interface says a prefix, a hop, an origin and a route in words.
use Rattle.std.specs.Prelude.{ℕ, zero, suc, cond, ◌||◌, List, [], ◌∷◌, ◌++◌, eqb, ltb}
use Rattle.model.specs.Prefix.{Prefix}
use Rattle.model.specs.Routes.{Route}
use Rattle.model.specs.Ipv4.{Hop, direct, via, reject, Origin, fixed, learned, Payload}
use Rattle.pool.specs.Layout.{size}
use Rattle.pool.specs.Ipv4.{ipv4}

-- How many words a capacity needs, 0 for one that "fresh" refuses with 1.
abbrev pub words_for : ℕ → ℕ
words_for c = cond (eqb c 0 || ltb ipv4.rules.limit c) 0 (size ipv4 c)

-- The prefix that an address and a length mean, whether or not it is well formed.
abbrev pub prefix_in : ℕ → ℕ → Prefix
prefix_in a n = record { address = a; length = n }

-- The hop that a kind, a port and a gateway mean. A kind does not look at what it does not use. A kind above 2 is no hop: it stands as one by a port
-- that there is not, so that it is due 4 just where any bad hop is.
abbrev pub hop_in : ℕ → ℕ → ℕ → Hop
hop_in zero p g = direct p
hop_in (suc zero) p g = via p g
hop_in (suc (suc zero)) p g = reject
hop_in (suc (suc (suc k))) p g = direct 16

-- The route that five words mean, of an origin.
abbrev pub route_in : ℕ → ℕ → ℕ → ℕ → ℕ → Origin → Route Payload
route_in a n k p g o = record { prefix = prefix_in a n; payload = record { hop = hop_in k p g; origin = o } }

-- The words of a hop: kind, port, gateway. What a kind does not use is 0.
abbrev pub hop_words : Hop → List ℕ
hop_words (direct p) = 0 ∷ p ∷ 0 ∷ []
hop_words (via p g) = 1 ∷ p ∷ g ∷ []
hop_words reject = 2 ∷ 0 ∷ 0 ∷ []

-- The words of an origin: 0 fixed, 1 learned; and the metric, 0 where there is none.
abbrev pub origin_words : Origin → List ℕ
origin_words fixed = 0 ∷ 0 ∷ []
origin_words (learned m) = 1 ∷ m ∷ []

-- The seven words of a route: address, length, kind, port, gateway, origin, metric.
abbrev pub route_words : Route Payload → List ℕ
route_words r = r.prefix.address ∷ r.prefix.length ∷ (hop_words r.payload.hop ++ origin_words r.payload.origin)
