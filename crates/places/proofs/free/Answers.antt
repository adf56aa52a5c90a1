-- If `find` gave none, the closure's no at each place would say that its mark is at least 1, which the caller rules out. That the mark of what it
-- gives is 0, the closure's yes, is no part of it: `returns` needs that alone.
use Prim.Native.Nat.{ℕ, ◌≤◌}
use mathlib.Core.Path.{refl}
use native.Mathlib.Omega.{arith}
use borrow.Author.Tests.{tests}
use Rattle.std.proofs.Common.{rules}
use Rattle.std.proofs.lemmas.Iterator.{first_from_Range}
use Rattle.std.specs.Option.{MatchOption, IsSome}
use Rattle.std.specs.Prelude.{Option, Some, None}
use Rattle.pool.specs.Ipv4.{ipv4}
use Rattle.places.specs.Marks.{mark_of}
use Rattle.places.proofs.free.Goals as goal

some_if : (r : Option ℕ) (Nothing : Type 0) (Found : ℕ → Type 0) → MatchOption r Nothing Found → (Nothing → ⊥) → IsSome r
some_if None Nothing Found h n = absurd (n h)
some_if (Some i) Nothing Found h n = refl

pub unwrap-requires : goal.unwrap-requires
unwrap-requires c =
    let mark = mark_of ipv4 c.args.capacity c.args.pool.now c.args.sort in
    some_if _ _ _
    (first_from_Range _ _ _ _ (λ i. 0 ≤ i) (λ i. 1 ≤ mark i) c.find-found.ensures.ran
    (λ x q k. omega arith) (λ x q k. search (rules, tests)))
    (λ none. c.requires.spare (λ i below. none i (omega arith) below))
