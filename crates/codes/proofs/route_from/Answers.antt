-- The prefix and the hop are those that the numbers name: `route_in_lem`.
use Rattle.codes.proofs.Coded.{route_in_lem}
use Rattle.codes.proofs.route_from.Goals as goal

pub returns : goal.returns
returns c =
    let made = c.new in
    route_in_lem made.result c.hop_from.result c.args.origin made.ensures.0 made.ensures.1 c.hop_from.ensures
