-- The places of a good tree, as the marks are counted: no two are one, and each is in the pool and marked as used.
use Prim.Native.Nat.{ℕ}
use mathlib.Core.List.{List}
use mathlib.Core.Option.{none, some}
use native.Mathlib.Omega.{arith}
use Rattle.patricia.specs.Tree.{Root}
use Rattle.patricia.proofs.Form.{root_obeys_good}
use Rattle.pool.specs.Layout.{Layout, kind_at, mark_at}
use Rattle.pool.specs.Holds.{Seat, bare}
use Rattle.pool.specs.Means.{routes_used, inners_used}
use Rattle.pool.proofs.Frame.{routes_in_pool, inners_in_pool}
use Rattle.shape.specs.Tree.{RootFine}
use Rattle.places.specs.Marks.{is_used}
use Rattle.places.specs.declared.Sort.{Sort}
use Rattle.pool.proofs.Places.{route_used, inner_used}
use Rattle.pool.proofs.Distinct.{routes_distinct, inners_distinct}
use Rattle.places.proofs.Tally.{Picked, passes}

module _ {P : Type 0} (L : Layout P) (c : ℕ) (ws : List ℕ) where
  pub routes_picked : (t : Root ℕ (Seat P)) → RootFine L c ws t → Picked (is_used L c ws Sort.Route) c (routes_used t)
  routes_picked none f = record { distinct = tt; below = λ i k. absurd k; pass = λ i k. absurd k }
  routes_picked (some t) f =
      let g = root_obeys_good L.rules.width (some (bare t)) f.form in record {
        distinct = routes_distinct L c ws _ t f.holds g;
        below = routes_in_pool L c ws ws _ t f.holds;
        pass = λ i k. passes (kind_at L ws i) (λ e. omega (arith, route_used L c ws _ t f.holds i k, e));
      }

  pub inners_picked : (t : Root ℕ (Seat P)) → RootFine L c ws t → Picked (is_used L c ws Sort.Inner) c (inners_used t)
  inners_picked none f = record { distinct = tt; below = λ i k. absurd k; pass = λ i k. absurd k }
  inners_picked (some t) f =
      let g = root_obeys_good L.rules.width (some (bare t)) f.form in record {
        distinct = inners_distinct L c ws _ t f.holds g;
        below = inners_in_pool L c ws ws _ t f.holds;
        pass = λ i k. passes (mark_at L c ws i) (λ e. omega (arith, inner_used L c ws _ t f.holds i k, e));
      }
