-- Each arm is handed that the hop is its variant's, at which `hop_words` computes.
use mathlib.Core.Path.{sym, ap}
use Rattle.route.specs.Means.{hop_of}
use Rattle.route.specs.declared.hop.Hop.{Hop}
use Rattle.codes.specs.Codes.{hop_words}
use Rattle.codes.proofs.hop_words.Goals as goal

pub returns-in-Direct : goal.returns-in-Direct
returns-in-Direct c = sym (ap (λ (h : Hop). hop_words (hop_of h)) c.in-Direct.is)

pub returns-in-Via : goal.returns-in-Via
returns-in-Via c = sym (ap (λ (h : Hop). hop_words (hop_of h)) c.in-Via.is)

pub returns-in-Reject : goal.returns-in-Reject
returns-in-Reject c = sym (ap (λ (h : Hop). hop_words (hop_of h)) c.in-Reject.is)
