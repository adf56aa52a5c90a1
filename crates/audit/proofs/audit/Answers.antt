-- The head, the tree, the three counts and the changes are tested in turn. A test that fails refuses the pool, since every sound pool passes it
-- (`sound_fine`, `counts`). Past the last, `decides` says that the pool is sound exactly when the newest changes can be taken back.
use native.Mathlib.Omega.{arith}
use Rattle.model.proofs.Tests.{not_both}
use Rattle.pool.specs.Ipv4.{ipv4}
use Rattle.pool.specs.Means.{routes_used}
use Rattle.pool.proofs.Few.{no_more}
use Rattle.audit.specs.Head.{HeadFine}
use Rattle.shape.specs.Tree.{RootSays}
use Rattle.std.specs.Prelude.{Some}
use Rattle.shape.proofs.Hanging.{refused}
use Rattle.audit.proofs.Places.{routes_picked}
use Rattle.audit.proofs.Sounding.{sound_fine, counts, decides}
use Rattle.audit.proofs.audit.Goals as goal
use Rattle.audit.proofs.audit.Goals.{Else-not-head_is_good, In-Some}

pub returns-then-not-head_is_good : goal.returns-then-not-head_is_good
returns-then-not-head_is_good c = refused (λ s. not_both (c.head_is_good.ensures.1 (sound_fine ipv4 _ _ s).head) c.if-not-head_is_good.true)

-- what the first two tests say
head_fine : (c : Else-not-head_is_good) → HeadFine ipv4 c.args.capacity c.args.pool.now
head_fine c = c.head_is_good.ensures.0 c.if-not-head_is_good.false

root_says : (c : In-Some) → RootSays ipv4 c.args.capacity c.args.pool.now (Some c.in-Some.field-0)
root_says c = c.in-Some.ensures

pub returns-in_default : goal.returns-in_default
returns-in_default c =
    let bad = c.in_default.ensures in
    refused (λ s. let f = sound_fine ipv4 _ _ s in bad f.tree f.root)

pub returns-then-pool-routes : goal.returns-then-pool-routes
returns-then-pool-routes c =
    refused (λ s. c.if-pool-routes.true (counts ipv4 _ _ _ _ (root_says (goal.at.returns-then-pool-routes c).In-Some) s).0)

pub returns-then-used-routes : goal.returns-then-used-routes
returns-then-used-routes c =
    refused (λ s. let told = counts ipv4 _ _ _ _ (root_says (goal.at.returns-then-used-routes c).In-Some) s in omega (arith, told.1, told.2))

pub returns-then-used-inners : goal.returns-then-used-inners
returns-then-used-inners c =
    refused (λ s. let told = counts ipv4 _ _ _ _ (root_says (goal.at.returns-then-used-inners c).In-Some) s in omega (arith, told.1, told.2))

pub changes_are_good-requires : goal.changes_are_good-requires
changes_are_good-requires c = record {
  fit = c.requires;
  standing_bound = (head_fine (goal.at.changes_are_good-requires c).Else-not-head_is_good).few;
}

pub returns-then-not-changes_are_good : goal.returns-then-not-changes_are_good
returns-then-not-changes_are_good c =
    refused (λ s. not_both (c.changes_are_good.ensures.1 (sound_fine ipv4 _ _ s).changes_fine) c.if-not-changes_are_good.true)

pub can_take_back-requires : goal.can_take_back-requires
can_take_back-requires c =
    let (t, f, n, m) = root_says (goal.at.can_take_back-requires c).In-Some in
    let picked = routes_picked ipv4 _ _ t f in
    record {
      fit = c.requires;
      standing_bound = (
        (head_fine (goal.at.can_take_back-requires c).Else-not-head_is_good).few,
        omega (arith, no_more c.args.capacity (routes_used t) picked.distinct picked.below, n),
      );
    }

pub returns : goal.returns
returns c =
    let args = c.args in
    let back = c.can_take_back in
    decides ipv4 args.capacity args.pool.now _ _ (root_says (goal.at.returns c).In-Some) c.requires (head_fine (goal.at.returns c).Else-not-head_is_good)
    c.if-pool-routes.false
    (omega arith)
    (omega arith)
    (c.changes_are_good.ensures.0 c.if-not-changes_are_good.false) back.result back.ensures
