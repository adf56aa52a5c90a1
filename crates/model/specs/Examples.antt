-- Document 01, "The bsdi table and its neighbours": the starred examples, one table.
use Rattle.std.specs.Prelude.{ℕ, ◌+◌, ◌*◌, List, [], ◌∷◌}
use Rattle.std.proofs.Math.Option.{some}
use Rattle.model.specs.Routes.{Route, insert, remove}
use Rattle.model.specs.State.{Meaning, closed}
use Rattle.model.specs.Call.{Call, lookup, after, mask, Value, nothing, route, count, number, value}
use Rattle.model.specs.Ipv4.{Hop, direct, via, reject, fixed, Payload, ipv4}

-- An address as it is written, a.b.c.d.
abbrev pub ip : ℕ → ℕ → ℕ → ℕ → ℕ
ip a b c d = ((a * 256 + b) * 256 + c) * 256 + d

-- A route to the prefix a/n.
abbrev to : ℕ → ℕ → Hop → Route Payload
to a n h = record { prefix = record { address = a; length = n }; payload = record { hop = h; origin = fixed } }

-- "From source document 000, ports 0 = le0, 1 = sl0, 2 = lo0".
abbrev pub A : Route Payload
A = to (ip 0 0 0 0) 0 (via 0 (ip 140 252 13 33))

-- 127.0.0.0/8 reject
abbrev pub B : Route Payload
B = to (ip 127 0 0 0) 8 reject

-- 127.0.0.1/32 direct 2
abbrev pub C : Route Payload
C = to (ip 127 0 0 1) 32 (direct 2)

-- 128.32.33.5/32 via 0 140.252.13.33
abbrev pub D : Route Payload
D = to (ip 128 32 33 5) 32 (via 0 (ip 140 252 13 33))

-- 140.252.13.32/27 direct 0
abbrev pub E : Route Payload
E = to (ip 140 252 13 32) 27 (direct 0)

-- 140.252.13.33/32 direct 0
abbrev pub F : Route Payload
F = to (ip 140 252 13 33) 32 (direct 0)

-- 140.252.13.34/32 direct 0
abbrev pub G : Route Payload
G = to (ip 140 252 13 34) 32 (direct 0)

-- 140.252.13.35/32 direct 2
abbrev pub H : Route Payload
H = to (ip 140 252 13 35) 32 (direct 2)

-- 140.252.13.65/32 direct 1
abbrev pub I : Route Payload
I = to (ip 140 252 13 65) 32 (direct 1)

-- 224.0.0.0/8 direct 0
abbrev pub J : Route Payload
J = to (ip 224 0 0 0) 8 (direct 0)

-- 224.0.0.1/32 direct 0
abbrev pub K : Route Payload
K = to (ip 224 0 0 1) 32 (direct 0)

-- "127.0.0.0/24 via 0 140.252.13.33".
abbrev pub B24 : Route Payload
B24 = to (ip 127 0 0 0) 24 (via 0 (ip 140 252 13 33))

-- "The walk gives this order."
abbrev pub bsdi : List (Route Payload)
bsdi = A ∷ B ∷ C ∷ D ∷ E ∷ F ∷ G ∷ H ∷ I ∷ J ∷ K ∷ []

-- An example: the routes of the table, a call, and the number and value that it is to answer.
pub record Example : Type 0 where
  pub routes : List (Route Payload)
  pub call : Call Payload
  pub wanted : ℕ × Value Payload

-- A lookup of d gives r.
abbrev gives : List (Route Payload) → ℕ → Route Payload → Example
gives l d r = record { routes = l; call = lookup d; wanted = (0, route r) }

-- A call is refused with n.
abbrev refuses : List (Route Payload) → Call Payload → ℕ → Example
refuses l c n = record { routes = l; call = c; wanted = (n, nothing) }

-- The starred lines, in their order.
abbrev pub examples : List Example
examples =
    gives bsdi (ip 127 0 0 1) C
    ∷ gives bsdi (ip 127 0 0 2) B
    ∷ gives bsdi (ip 127 0 0 3) B
    ∷ gives bsdi (ip 140 252 13 35) H
    ∷ gives bsdi (ip 140 252 13 60) E
    ∷ gives bsdi (ip 140 252 13 188) A
    ∷ gives bsdi (ip 10 1 2 3) A
    ∷ gives bsdi (ip 224 0 0 5) J
    ∷ refuses (remove A.prefix bsdi) (lookup (ip 10 1 2 3)) 13
    ∷ refuses (remove A.prefix bsdi) (lookup (ip 0 0 0 0)) 13
    ∷ refuses (remove A.prefix bsdi) (lookup (ip 255 255 255 255)) 13
    ∷ gives (insert B24 bsdi) (ip 127 0 0 2) B24
    ∷ gives (insert B24 bsdi) (ip 127 0 2 3) B
    ∷ gives (insert B24 bsdi) (ip 127 0 0 1) C
    ∷ record { routes = insert B24 bsdi; call = after B24.prefix; wanted = (0, route B) }
    ∷ record { routes = bsdi; call = mask (ip 255 255 255 224); wanted = (0, count 27) }
    ∷ record { routes = bsdi; call = mask (ip 0 0 0 0); wanted = (0, count 0) }
    ∷ refuses bsdi (mask (ip 255 0 255 0)) 3
    ∷ []

-- What the model answers. The capacity is document 01's largest, and what a capacity needs in words is asked by none of these.
abbrev pub answered : (ℕ → ℕ) → Example → ℕ × Value Payload
answered words e =
    let m : Meaning Payload = some (record { capacity = (ipv4 words).limit; routes = e.routes; trial = closed }) in
    (number (ipv4 words) e.call m, value (ipv4 words) e.call m)
