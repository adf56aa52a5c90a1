-- What comes after the prefix in its own leaf is next (`goes_hit`); where the leaf has no more, what stands to the right of the way
-- is (`goes_right`). Where the leaf is damaged, no good tree is held (`goes_broken`).
use mathlib.Core.Path.{◌≡◌, ap, subst, ◌∙◌}
use native.Mathlib.Omega.{arith}
use borrow.Author.Rules.{rules}
use Rattle.std.specs.Prelude.{Ok}
use Rattle.std.proofs.lemmas.Result.{err_from_is_err_and}
use Rattle.model.specs.Prefix.{before}
use Rattle.route.specs.Means.{prefix_of}
use Rattle.pool.specs.Ipv4.{ipv4}
use Rattle.search.specs.Find.{Spot, SpotIn}
use Rattle.walk.proofs.Onward.{goes_hit, goes_right, goes_broken}
use Rattle.walk.proofs.walk.within.Goals as goal
use Rattle.walk.proofs.walk.within.Goals.{After-along}

-- the spot is that of the first of the leaf's routes before which the prefix comes
sought : (c : After-along) (o : Spot) → c.along.result ≡ o → SpotIn ipv4 c.args.capacity c.args.pool.now c.args.leaf.0 (before (prefix_of c.args.prefix)) o
sought c o e = subst (SpotIn ipv4 _ _ _ _) e (c.along.ensures (before (prefix_of c.args.prefix)) (λ q b h. search rules))

pub route_at-requires : goal.route_at-requires
route_at-requires c =
    let spot = sought (goal.at.route_at-requires c).After-along _ (c.in_ok-place.was ∙ ap Ok c.in-Some.is) in
    let inside = spot.in_pool in
    omega arith

pub returns-in-Some : goal.returns-in-Some
returns-in-Some c =
    let way = c.requires.ways in
    let spot = sought (goal.at.returns-in-Some c).After-along _ (c.in_ok-place.was ∙ ap Ok c.in-Some.is) in
    goes_hit ipv4 _ _ _ _ _ _ _ way.0 way.1 _ _ spot c.route_at.ensures

pub returns-in-None : goal.returns-in-None
returns-in-None c =
    let way = c.requires.ways in
    let absent = sought (goal.at.returns-in-None c).After-along _ (c.in_ok-place.was ∙ ap Ok c.in-None.is) in
    goes_right ipv4 _ _ _ _ _ _ _ way.0 way.1 _ _ absent c.right_side.ensures

pub returns-in_err-place : goal.returns-in_err-place
returns-in_err-place c =
    let way = c.requires.ways in
    let damage = err_from_is_err_and c.from_residual.result c.from_residual.ensures.1 in
    let broken = sought (goal.at.returns-in_err-place c).After-along _ c.in_err-place.was in
    rw (damage.1, damage.2) (goes_broken ipv4 _ _ _ _ _ _ _ way.0 way.1 broken)
