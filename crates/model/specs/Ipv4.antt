-- The table of document 01: addresses of 32 bits, and hops.
use Rattle.std.specs.Prelude.{ℕ, Bool, true, not, ◌&&◌, leb, eqb}
use Rattle.model.specs.Prefix.{Prefix}
use Rattle.model.specs.State.{Hand, plain, learner, Rules}

-- "A hop is one of three kinds: direct (port), via (port and gateway address), reject."
pub data Hop : Type 0 where
  direct : (port : ℕ) → Hop
  via : (port gateway : ℕ) → Hop
  reject : Hop

-- "Ports run from 0 to 15. Gateway 0.0.0.0 is bad."
unfoldable pub good_hop : Hop → Bool
good_hop (direct p) = leb p 15
good_hop (via p g) = leb p 15 && not (eqb g 0)
good_hop reject = true

-- "Each route gains an origin: fixed, or learned with a metric from 1 to 15."
pub data Origin : Type 0 where
  fixed : Origin
  learned : (metric : ℕ) → Origin

-- "Learned metric outside 1 to 15" is bad.
unfoldable pub good_metric : Origin → Bool
good_metric fixed = true
good_metric (learned m) = not (eqb m 0) && leb m 15

-- "Plain add makes fixed ones", "a plain change makes the route fixed".
abbrev pub hand_of : Origin → Hand
hand_of fixed = plain
hand_of (learned m) = learner

-- What a route holds besides its prefix.
pub record Payload : Type 0 where
  pub hop : Hop
  pub origin : Origin

-- Which well-formed prefixes may be held: document 01 bars none.
unfoldable pub may_hold : Prefix → Bool
may_hold p = true

-- The numbers of document 01, the limit as request 1 of document 02 has it: 32 bits, a capacity of 512 at most, 64 standing changes.
-- How many words a capacity needs is the pool's to say.
abbrev pub ipv4 : (ℕ → ℕ) → Rules Payload
ipv4 words = record {
  width = 32;
  limit = 512;
  words = words;
  standing = 64;
  may_hold = may_hold;
  good_hop = λ p h. good_hop h.hop;
  good_metric = λ h. good_metric h.origin;
  hand = λ h. hand_of h.origin;
}
