-- `search::down` leads to a leaf, where `hung_at` finds no route (`take_none`) or the one to take. Where another route is before or
-- behind it, the leaf stays: `take_link`. Else the leaf goes, as `plan_lone` says: `take_lone`.
use mathlib.Core.Path.{◌≡◌, sym, ◌∙◌}
use mathlib.Core.Logic.{◌⊎◌, inl, inr}
use borrow.Author.Tests.{eqb-true, eq-eqb}
use Rattle.std.specs.Prelude.{Some, Ok}
use Rattle.pool.specs.Layout.{next_at}
use Rattle.pool.specs.Ipv4.{ipv4}
use Rattle.pool.proofs.Ipv4.{laid4}
use Rattle.plan.proofs.Leads.{leaf_end}
use Rattle.plan.proofs.TakePlanned.{take_none, take_link, take_lone}
use Rattle.plan.proofs.plan.plan_take.Goals as goal
use Rattle.plan.proofs.plan.plan_take.Goals.{In_ok-first, then-held-from, else-held-from}

-- the way ends at the leaf
leaf : (c : In_ok-first) → c.down-way.result.end ≡ Ok (Some c.in_ok-first.first)
leaf c = leaf_end _ _ _ _ c.ok.ensures.value c.in_ok-ok.was c.in_ok-first.was

pub returns-in_err-held : goal.returns-in_err-held
returns-in_err-held c =
    let nothing = rw c.in_err-held.was at c.hung_at.ensures in
    let way = leaf (goal.at.returns-in_err-held c).In_ok-first in
    rw c.from_residual-in_err-held.ensures (take_none ipv4 laid4 _ _ _ _ _ _ c.down-way.ensures _ way _ c.cell_of-from.ensures nothing)

pub returns-then-is_alone : goal.returns-then-is_alone
returns-then-is_alone c =
    let way = leaf (goal.at.returns-then-is_alone c).In_ok-first in
    elim c.if-held-from.branch [
      | then-held-from w ↦
          let none = sym w.next_at.ensures ∙ eqb-true _ _ (sym w.is_alone-is ∙ c.if-is_alone.true) in
          take_lone ipv4 laid4 _ _ _ _ _ _ c.down-way.ensures _ way _ c.cell_of-from.ensures _ c.in_ok-held.ensures _ w.if-held-from.true none c.plan_lone.ensures
      | else-held-from w ↦ absurd (w.if-held-from.false (eqb-true _ _ (sym w.is_alone-is ∙ c.if-is_alone.true)))
    ]

pub returns-else-is_alone : goal.returns-else-is_alone
returns-else-is_alone c =
    let way = leaf (goal.at.returns-else-is_alone c).In_ok-first in
    let at = c.in_ok-held.held in
    let other = elim c.if-held-from.branch as (λ _. (at.cell ≡ c.cell_of-from.result → ⊥) ⊎ (next_at ipv4 c.args.pool.now at.place.0 ≡ 0 → ⊥)) [
      | then-held-from w ↦ inr (λ z. let t = eq-eqb _ _ (w.next_at.ensures ∙ z) in let f = sym w.is_alone-is ∙ c.if-is_alone.false in cc)
      | else-held-from w ↦ inl w.if-held-from.false
    ] in
    take_link ipv4 laid4 _ _ _ _ _ _ c.down-way.ensures _ way _ c.cell_of-from.ensures _ c.in_ok-held.ensures other
