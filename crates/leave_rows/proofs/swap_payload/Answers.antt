-- `write_payload` writes the new payload from the place that `seat` says.
use Prim.Native.Nat.{ℕ}
use mathlib.Core.Path.{ap, ◌∙◌}
use Rattle.route.specs.Means.{payload_of}
use Rattle.pool.specs.Write.{writes}
use Rattle.pool.specs.Ipv4.{ipv4}
use Rattle.leave_rows.proofs.swap_payload.Goals as goal

pub returns : goal.returns
returns c =
    let args = c.args in
    c.write_payload.ensures
    ∙ ap (λ (n : ℕ). writes (ipv4.put_payload n (payload_of args.payload)) args.pool.now) c.seat-at.ensures
