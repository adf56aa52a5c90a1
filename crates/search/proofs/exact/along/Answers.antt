use mathlib.Core.Bool.{Bool}
use mathlib.Core.Path.{◌≡◌, sym, ap, ◌∙◌}
use Rattle.model.specs.Prefix.{Prefix}
use Rattle.pool.specs.Layout.{held_prefix}
use Rattle.pool.specs.Ipv4.{ipv4}
use Rattle.search.specs.Find.{Tests}
use Rattle.search.proofs.Chain.{held_read}
use Rattle.search.proofs.Spots.{along_start, along_on, along_hit, hung_in_pool}
use Rattle.search.proofs.exact.along.Given as given
use Rattle.search.proofs.exact.along.Goals as goal
use Rattle.search.proofs.exact.along.Goals.{After-passes}

-- what is answered of the prefix that was read is what the test says of the one that is held
told : (test : Prefix → Bool) (x : Bool) (p q : Prefix) → x ≡ test p → p ≡ q → test q ≡ x
told test x p q e f = sym (e ∙ ap test f)

-- what a test that the answers agree with says of the prefix that the place holds
tested : (g : given.Over) (c : After-passes g) (test : Prefix → Bool) → Tests (given.F-post g c.args.passes) test →
    test (held_prefix ipv4 c.args.pool.now c.in-Some.place.0) ≡ c.passes.result
tested g c test says =
    told test _ _ _ (says c.prefix_at-held.result _ c.passes.ensures) (held_read ipv4 _ _ _ _ c.seat.ensures c.prefix_at-held.ensures)

pub loop-hung-init : goal.loop-hung-init
loop-hung-init g c = (c.requires.first_lt_capacity, λ test says. along_start ipv4 _ _ test _)

pub returns-then-passes : goal.returns-then-passes
returns-then-passes g c test says =
    let inv = rw c.in-Some.is at c.loop-hung.invariant in
    along_hit ipv4 _ _ test _ _ inv.0 (inv.1 test says) (tested g (goal.at.returns-then-passes g c).After-passes test says ∙ c.if-passes.true)

pub loop-hung-preserved : goal.loop-hung-preserved
loop-hung-preserved g c =
    let inv = rw c.in-Some.is at c.loop-hung.invariant in
    let next = c.in_ok-hung.hung in
    let hung = c.in_ok-hung.ensures in
    let seen = (goal.at.loop-hung-preserved g c).After-passes in (
      hung_in_pool ipv4 _ c.args.pool.now c.in-Some.place.0 c.prefix_at-held.result.length.0 next hung,
      λ test says. along_on ipv4 _ _ test _ _ _ next (inv.1 test says) (tested g seen test says ∙ c.if-passes.false) hung,
    )
