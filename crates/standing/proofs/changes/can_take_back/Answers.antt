use Prim.Native.Nat.{ℕ, suc, ◌-◌}
use mathlib.Core.Path.{◌≡◌, refl, subst}
use mathlib.Core.List.{List}
use native.Mathlib.Omega.{arith}
use Rattle.model.specs.Routes.{Route}
use Rattle.model.specs.Ipv4.{Payload}
use Rattle.pool.specs.Ipv4.{ipv4}
use Rattle.shape.proofs.Hanging.{refused}
use Rattle.standing.proofs.Turning.{Standing, standing_start, standing_step, standing_stop, standing_end}
use Rattle.standing.proofs.changes.can_take_back.Goals as goal

pub loop-change-init : goal.loop-change-init
loop-change-init c = (omega arith, λ l t e. standing_start ipv4 _ _ _ _ l e)

pub returns-in_default : goal.returns-in_default
returns-in_default c l t e =
    let loop = c.loop-change in
    let args = c.args in
    let one : loop.change ≡ suc (loop.change - 1) = omega arith in
    let s = subst (λ (m : ℕ). Standing ipv4 args.capacity args.pool.now args.standing m loop.held l) one (loop.invariant.1 l t e) in
    refused (standing_stop ipv4 _ _ _ _ _ l t c.in_default.ensures s)

pub loop-change-preserved : goal.loop-change-preserved
loop-change-preserved c =
    let taken = c.in-Some.ensures in
    let loop = c.loop-change in
    let args = c.args in
    let one : loop.change ≡ suc (loop.change - 1) = omega arith in
    let Left : List (Route Payload) → ℕ → Type 0 = λ l m. Standing ipv4 args.capacity args.pool.now args.standing m loop.held l in
    (taken.0, λ l t e. standing_step ipv4 _ _ _ _ _ _ l (omega arith) t taken (subst (Left l) one (loop.invariant.1 l t e)))

pub returns : goal.returns
returns c l t e =
    let loop = c.loop-change in
    let args = c.args in
    let none : loop.change ≡ 0 = omega arith in
    let s = subst (λ (m : ℕ). Standing ipv4 args.capacity args.pool.now args.standing m loop.held l) none (loop.invariant.1 l t e) in
    (λ z. standing_end ipv4 _ _ _ _ l s, λ u. refl)
