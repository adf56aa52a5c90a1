-- `down` goes to the leaf, and `along` looks in it: `finds_leaf`.
use mathlib.Core.Path.{ap, ◌∙◌}
use Rattle.std.specs.Prelude.{Ok}
use Rattle.model.specs.Prefix.{same}
use Rattle.route.specs.Means.{prefix_of}
use borrow.Author.Rules.{rules}
use Rattle.pool.specs.Ipv4.{ipv4}
use Rattle.search.proofs.Spots.{finds_leaf}
use Rattle.search.proofs.exact.find.Goals as goal

pub returns-in-Some : goal.returns-in-Some
returns-in-Some c =
    let found = c.along.ensures (same (prefix_of c.args.prefix)) (λ q b h. search rules) in
    finds_leaf ipv4 _ _ _ _ _ _ c.down-way.ensures c.in-Some.leaf _ (c.in_ok-leaf.was ∙ ap Ok c.in-Some.is) found
