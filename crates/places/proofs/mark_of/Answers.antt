-- Each arm knows the sort, and reads the word that is the mark of a place of that sort.
use mathlib.Core.Path.{sym, ap, ◌∙◌}
use Rattle.pool.specs.Ipv4.{ipv4}
use Rattle.places.specs.Marks.{mark_of}
use Rattle.places.specs.declared.Sort.{Sort}
use Rattle.places.proofs.mark_of.Goals as goal

pub returns-in-Route : goal.returns-in-Route
returns-in-Route c =
    let args = c.args in
    c.kind_at.ensures
    ∙ ap (λ (s : Sort). mark_of ipv4 args.capacity args.pool.now s args.place.0) (sym c.in-Route.is)

pub returns-in-Inner : goal.returns-in-Inner
returns-in-Inner c =
    let args = c.args in
    c.mark_at.ensures
    ∙ ap (λ (s : Sort). mark_of ipv4 args.capacity args.pool.now s args.place.0) (sym c.in-Inner.is)
