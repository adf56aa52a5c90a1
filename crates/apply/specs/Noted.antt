-- A change recorded, and the payload that a prefix had before it.
use Rattle.std.specs.Prelude.{ℕ, ◌≡◌, List}
use Rattle.std.proofs.Math.Option.{some}
use Rattle.model.specs.Prefix.{Prefix}
use Rattle.model.specs.Routes.{Route, find}
use Rattle.model.specs.State.{State}
use Rattle.pool.specs.Layout.{Layout, trial_in, standing_in}
use Rattle.pool.specs.Means.{Means}
use Rattle.pool.specs.Write.{writes}
use Rattle.rows.specs.Writes.{record_writes}

module _ {P : Type 0} (L : Layout P) where
  -- "In a trial each accepted add, delete and hop change is recorded": without one no word is written.
  pub record Noted (c action : ℕ) (p : Prefix) (old new : P) (ws zs : List ℕ) : Type 0 where
    pub in_trial : trial_in ws ≡ 1 → zs ≡ writes (record_writes L c (standing_in ws) action p old new) ws
    pub without : (trial_in ws ≡ 1 → ⊥) → zs ≡ ws

  -- The payload of the route that has this prefix, where there is one.
  abbrev pub HeldPayload : ℕ → List ℕ → Prefix → P → Type 0
  HeldPayload c ws p h = (s : State P) → Means L ws s → s.capacity ≡ c → (r : Route P) → find p s.routes ≡ some r → h ≡ r.payload
