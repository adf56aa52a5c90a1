-- A link to nothing is `nothing_bad`, and one to a route is what its leaf is. `seen` says which words stand at an inner place: a test
-- that fails there refuses every tree by `inner_out`. A side that is bad is `left_bad` or `right_bad`, and two sides that are fine are
-- `joined`.
use Prim.Native.Nat.{ℕ}
use mathlib.Core.Path.{◌≡◌, refl, sym, ap, subst, ◌∙◌}
use mathlib.Core.List.{List}
use native.Mathlib.Omega.{arith}
use Rattle.std.specs.Prelude.{Some}
use Rattle.pool.specs.Layout.{mark_at, left_at, right_at}
use Rattle.pool.specs.Ipv4.{ipv4}
use Rattle.pool.specs.Link.{link_from}
use Rattle.pool.specs.declared.link.Link.TheVariants.{Inner}
use Rattle.pool.specs.declared.link.Place.{Place}
use Rattle.shape.specs.Tree.{TreeSays}
use Rattle.shape.proofs.Links.{nothing_from, route_from, inner_from}
use Rattle.shape.proofs.Grown.{nothing_bad, Seen, inner_out, left_bad, right_bad, joined, few_routes, few_inners}
use Rattle.shape.proofs.tree.+audit_tree.Goals as goal
use Rattle.shape.proofs.tree.+audit_tree.Goals.{After-left_at, After-right_at}

-- the words of the inner place, before any was read
seen : (capacity : ℕ) (pool : List ℕ) (link : ℕ) (place : Place) → link_from link ≡ Some (Inner place)
    → Seen ipv4 capacity pool link place.0 (mark_at ipv4 capacity pool place.0) (left_at ipv4 capacity pool place.0) (right_at ipv4 capacity pool place.0)
seen capacity pool link place e = record {
  linked = inner_from link place e;
  mark_there = refl;
  left_there = refl;
  right_there = refl;
}

-- the same, with what was read of its mark and its left side
seen_left : (t : ℕ) (c : After-left_at t)
    → Seen ipv4 c.args.capacity c.args.pool.now c.args.link c.in-Inner.place.0 c.mark_at-mark.result c.left_at.result (right_at ipv4 c.args.capacity c.args.pool.now c.in-Inner.place.0)
seen_left t c = record {
  linked = inner_from c.args.link c.in-Inner.place (sym c.in_ok-place.ensures ∙ ap Some c.in-Inner.is);
  mark_there = c.mark_at-mark.ensures;
  left_there = c.left_at.ensures;
  right_there = refl;
}

-- and with its right side
seen_right : (t : ℕ) (c : After-right_at t)
    → Seen ipv4 c.args.capacity c.args.pool.now c.args.link c.in-Inner.place.0 c.mark_at-mark.result c.left_at.result c.right_at.result
seen_right t c = record {
  linked = inner_from c.args.link c.in-Inner.place (sym c.in_ok-place.ensures ∙ ap Some c.in-Inner.is);
  mark_there = c.mark_at-mark.ensures;
  left_there = c.left_at.ensures;
  right_there = c.right_at.ensures;
}

pub returns-then-capacity-place : goal.returns-then-capacity-place
returns-then-capacity-place t c u f =
    omega (arith, (inner_out ipv4 _ _ _ _ _ _ _ _ (seen _ _ _ c.in-Inner.place (sym c.in_ok-place.ensures ∙ ap Some c.in-Inner.is)) u f).0)

pub returns-then-mark-low : goal.returns-then-mark-low
returns-then-mark-low t c u f =
    omega (arith, (inner_out ipv4 _ _ _ _ _ _ _ _ (seen _ _ _ c.in-Inner.place (sym c.in_ok-place.ensures ∙ ap Some c.in-Inner.is)) u f).1)

pub returns-then-mark-gt-WIDTH : goal.returns-then-mark-gt-WIDTH
returns-then-mark-gt-WIDTH t c u f =
    omega (arith, (inner_out ipv4 _ _ _ _ _ _ _ _ (seen _ _ _ c.in-Inner.place (sym c.in_ok-place.ensures ∙ ap Some c.in-Inner.is)) u f).2)

pub returns-in_err-left-in-Inner : goal.returns-in_err-left-in-Inner
returns-in_err-left-in-Inner t c =
    rw c.from_residual-in_err-left-in-Inner.ensures
    (left_bad ipv4 _ _ _ _ _ _ _ _ (seen_left t (goal.at.returns-in_err-left-in-Inner t c).After-left_at) c.in_err-left-in-Inner.ensures)

pub returns-in_err-right-in-Inner : goal.returns-in_err-right-in-Inner
returns-in_err-right-in-Inner t c =
    rw c.from_residual-in_err-right-in-Inner.ensures
    (right_bad ipv4 _ _ _ _ _ _ _ _ (seen_right t (goal.at.returns-in_err-right-in-Inner t c).After-right_at) c.in_err-right-in-Inner.ensures)

pub join-requires : goal.join-requires
join-requires t c =
    let (u, f, sl, k) = c.in_ok-left-in-Inner.ensures in
    let (v, g, sr, m) = c.in_ok-right-in-Inner.ensures in
    record {
      mark_bound = omega arith;
      routes_bound = (
        omega (arith, few_routes ipv4 _ _ _ _ _ _ u f k),
        omega (arith, few_routes ipv4 _ _ _ _ _ _ v g m),
      );
      inners_bound = (
        omega (arith, few_inners ipv4 _ _ _ _ _ _ u f k),
        omega (arith, few_inners ipv4 _ _ _ _ _ _ v g m),
      );
    }

pub returns-in_err-place : goal.returns-in_err-place
returns-in_err-place t c = rw c.from_residual.ensures (λ u f. nothing_bad ipv4 _ _ _ _ u (nothing_from _ (sym c.in_err-place.ensures)) f)

pub returns-in-Route : goal.returns-in-Route
returns-in-Route t c =
    let link = route_from c.args.link c.in-Route.place (sym c.in_ok-place.ensures ∙ ap Some c.in-Route.is) in
    subst (λ (x : ℕ). TreeSays ipv4 c.args.capacity c.args.pool.now x c.args.low c.audit_leaf.result) (sym link)
    (c.audit_leaf.ensures c.args.low)

pub returns-in_ok-right-in-Inner : goal.returns-in_ok-right-in-Inner
returns-in_ok-right-in-Inner t c =
    joined ipv4 _ _ _ _ _ _ _ _ (seen_right t (goal.at.returns-in_ok-right-in-Inner t c).After-right_at) _ _
    c.in_ok-left-in-Inner.ensures c.in_ok-right-in-Inner.ensures
    c.if-capacity-place.false c.if-mark-low.false c.if-mark-gt-WIDTH.false
    c.join.result c.join.ensures
