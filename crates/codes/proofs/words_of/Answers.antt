-- The words of the hop and of the origin, behind the prefix.
use mathlib.Core.List.{◌∷◌, ◌++◌}
use Rattle.codes.proofs.words_of.Goals as goal

pub returns : goal.returns
returns c =
    let prefix = c.args.route.prefix in
    λ i. prefix.address ∷ prefix.length.0 ∷ (c.hop_words-leads.ensures i ++ c.origin_words-from.ensures i)
