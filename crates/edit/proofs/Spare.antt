-- Room in a pool that is not full: as many route places are in use as there are routes, and fewer inner places.
use Prim.Native.Nat.{ℕ, ◌≤◌, ◌<◌}
use mathlib.Core.Path.{◌≡◌, refl, ap}
use mathlib.Core.List.{List, [], ◌∷◌}
use mathlib.Core.Option.{none, some}
use native.Mathlib.Omega.{arith}
use lib.ListN.{length, length-append}
use Rattle.model.specs.State.{State}
use Rattle.patricia.specs.Tree.{leaf, node, Root, routes, root_routes}
use Rattle.patricia.specs.Size.{leaves, inners}
use Rattle.patricia.proofs.Size.{leaves_inners}
use Rattle.pool.specs.Layout.{Layout, root_in, left_at, right_at}
use Rattle.pool.specs.Holds.{Seat, Seated, bare, bare_root, inner_places, Holds, HoldsRoot}
use Rattle.pool.specs.Means.{routes_used, inners_used}
use Rattle.pool.proofs.Places.{route_count}
use Rattle.pool.proofs.Few.{every_among}
use Rattle.places.specs.Marks.{Spare}
use Rattle.places.specs.declared.Sort.{Sort}
use Rattle.edit.specs.Encodes.{Encodes}

module _ {P : Type 0} (L : Layout P) where
  -- ---- how many places a tree has

  pub inners_count : (t : Seated P) → length (inner_places t) ≡ inners (bare t)
  inners_count (leaf a es) = refl
  inners_count (node j b l r) = omega (arith, length-append (inner_places l) (inner_places r), inners_count l, inners_count r)

  -- no leaf of a tree that the words hold is without routes
  pub leaves_routes : (c : ℕ) (ws : List ℕ) (link : ℕ) (t : Seated P) → Holds L c ws link t → leaves (bare t) ≤ length (routes (bare t))
  leaves_routes c ws link (leaf a []) h = absurd h
  leaves_routes c ws link (leaf a (e ∷ es)) h = omega arith
  leaves_routes c ws link (node j b l r) h =
      omega (arith, length-append (routes (bare l)) (routes (bare r)), leaves_routes c ws (left_at L c ws j) l h.3, leaves_routes c ws (right_at L c ws j) r h.4)

  inners_used_lem : (c : ℕ) (ws : List ℕ) (link : ℕ) (t : Root ℕ (Seat P)) → HoldsRoot L c ws link t → length (inners_used t) ≤ length (root_routes (bare_root t))
  inners_used_lem c ws link none h = omega arith
  inners_used_lem c ws link (some t) h = omega (arith, inners_count t, leaves_inners (bare t), leaves_routes c ws link t h)

  -- ---- a pool that is not full has a place of each kind

  module _ (ws : List ℕ) (s : State P) (e : Encodes L ws s) (room : length s.routes < s.capacity) where
    pub route_spare : Spare L s.capacity ws Sort.Route
    route_spare f =
        omega (arith, every_among s.capacity (routes_used e.tree) (λ i l. e.route_places_used i l (f i l)), route_count e.tree, ap length e.routes_there)

    pub inner_spare : Spare L s.capacity ws Sort.Inner
    inner_spare f =
        omega (
          arith,
          every_among s.capacity (inners_used e.tree) (λ i l. e.inner_places_used i l (f i l)),
          inners_used_lem s.capacity ws (root_in ws) e.tree e.holds,
          ap length e.routes_there,
        )
