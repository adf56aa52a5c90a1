use Prim.Native.Nat.{ℕ, ◌+◌}
use mathlib.Core.Path.{◌≡◌, refl, sym, ap, subst, ◌∙◌}
use mathlib.Core.Bool.{Bool, false, not}
use native.Mathlib.Omega.{arith}
use lib.Dec.{eqb}
use Rattle.std.specs.Prelude.{Some, None, Ok, Err}
use Rattle.std.proofs.lemmas.Grind.{common_steps}
use Rattle.model.specs.Prefix.{Prefix, same}
use Rattle.route.specs.Means.{prefix_of}
use Rattle.pool.specs.Layout.{word, prefix_at, changed_at}
use Rattle.pool.specs.Ipv4.{ipv4}
use Rattle.pool.specs.declared.link.Place.{Place}
use Rattle.search.specs.Find.{Spot, is_at}
use Rattle.standing.specs.Changes.{ThereSays}
use Rattle.standing.proofs.Turning.{turned_start, turned_other, turned_same, turned_table}
use Rattle.standing.proofs.changes.is_there.Goals as goal
use Rattle.standing.proofs.changes.is_there.Goals.{After-is, After-find}

pub loop-newer-init : goal.loop-newer-init
loop-newer-init c = turned_start ipv4 _ _ _ _

-- each newer prefix is compared with the slot's
compared : (c : After-is) →
    let args = c.args in
    let prefix-of = changed_at ipv4 args.capacity args.pool.now in
    c.is.result ≡ same (prefix-of args.change) (prefix-of c.loop-newer.newer)
compared c =
    let args = c.args in
    let read = c.prefix_at-other in
    let other = read.ensures ∙ ap (λ (n : ℕ). prefix_at ipv4 args.pool.now (n + 1)) c.slot-at.ensures in
    let own = c.prefix_at-prefix.ensures ∙ ap (λ (n : ℕ). prefix_at ipv4 args.pool.now (n + 1)) c.slot.ensures in
    c.is.ensures
    ∙ ap (λ (p : Prefix). same p (prefix_of read.result)) own
    ∙ ap (same (changed_at ipv4 args.capacity args.pool.now args.change)) other

pub returns-then-is : goal.returns-then-is
returns-then-is c =
    let loop = c.loop-newer in
    let args = c.args in
    let Says : Bool → Type 0 = ThereSays ipv4 args.capacity args.pool.now args.standing args.change in
    let equal = sym (compared (goal.at.returns-then-is c).After-is) ∙ c.if-is.true in
    subst (λ (n : ℕ). Says (not (eqb (word args.pool.now c.slot-at.result) n))) (sym c.word.ensures)
    (subst (λ (n : ℕ). Says (not (eqb (word args.pool.now n) 1))) (sym c.slot-at.ensures)
    (turned_same ipv4 _ _ _ _ loop.newer c.loop-newer-test.true equal loop.invariant))

pub loop-newer-preserved : goal.loop-newer-preserved
loop-newer-preserved c =
    let loop = c.loop-newer in
    let other = sym (compared (goal.at.loop-newer-preserved c).After-is) ∙ c.if-is.false in
    turned_other ipv4 _ _ _ _ loop.newer c.loop-newer-test.true other loop.invariant

-- past the newest, what the search says
told : (c : After-find) (there : Bool) → there ≡ is_at c.find.result → ThereSays ipv4 c.args.capacity c.args.pool.now c.args.standing c.args.change there
told c there found =
    let own = c.prefix_at-prefix.ensures ∙ ap (λ (n : ℕ). prefix_at ipv4 c.args.pool.now (n + 1)) c.slot.ensures in
    turned_table ipv4 _ _ _ _ c.loop-newer.newer c.loop-newer-test.false c.loop-newer.invariant _ own c.find.result c.find.ensures there found

not_at : (r : Spot) → ((p : Place) → r ≡ Ok (Some p) → ⊥) → false ≡ is_at r
not_at (Ok (Some p)) n = absurd (n p refl)
not_at (Ok None) n = refl
not_at (Err d) n = refl

pub returns-in-Ok-Some : goal.returns-in-Ok-Some
returns-in-Ok-Some c =
    told (goal.at.returns-in-Ok-Some c).After-find _ (ap is_at (sym (c.in-Ok-Some.is ∙ ap Ok c.in-Ok-Some.field-0-is)))

pub returns-in_default : goal.returns-in_default
returns-in_default c = told (goal.at.returns-in_default c).After-find _ (not_at _ (λ p k. grind (arith, common_steps)))

pub returns-in_default-2 : goal.returns-in_default-2
returns-in_default-2 c = told (goal.at.returns-in_default-2 c).After-find _ (not_at _ (λ p k. grind (arith, common_steps)))
