-- The words of a pool of capacity c, and no more, whatever they are: what the functions below the public calls are lent.
use Rattle.std.specs.Prelude.{ℕ, ◌≤◌, ◌≡◌, List, length}
use Rattle.model.specs.Routes.{Route}
use Rattle.pool.specs.Layout.{Layout, size, held_prefix, held_payload}

-- Just as many words as a pool of that capacity has; the bound keeps every index in the machine's range.
abbrev pub Fit : {P : Type 0} → Layout P → ℕ → List ℕ → Type 0
Fit L c ws = (c ≤ 65535) × (length ws ≡ size L c)

-- The route in place i.
abbrev pub route_at : {P : Type 0} → Layout P → List ℕ → ℕ → Route P
route_at L ws i = record { prefix = held_prefix L ws i; payload = held_payload L ws i }
