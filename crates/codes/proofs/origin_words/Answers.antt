-- Each arm is handed that the origin is its variant's, at which `origin_words` computes.
use mathlib.Core.Path.{sym, ap}
use Rattle.route.specs.Means.{origin_of}
use Rattle.route.specs.declared.origin.Origin.{Origin}
use Rattle.codes.specs.Codes.{origin_words}
use Rattle.codes.proofs.origin_words.Goals as goal

pub returns-in-Fixed : goal.returns-in-Fixed
returns-in-Fixed c = sym (ap (λ (o : Origin). origin_words (origin_of o)) c.in-Fixed.is)

pub returns-in-Learned : goal.returns-in-Learned
returns-in-Learned c = sym (ap (λ (o : Origin). origin_words (origin_of o)) c.in-Learned.is)
