-- A new address: its leaf and a part of the tree, joined under a new inner place. What the writes leave, and that it is the joined tree.
use Prim.Native.Nat.{ℕ, suc, ◌+◌, ◌<◌}
use mathlib.Core.Path.{◌≡◌, refl, sym, ap, subst, ◌∙◌}
use mathlib.Core.List.{List, [], ◌∷◌}
use mathlib.Core.Logic.{◌⊎◌, inl, inr}
use native.Mathlib.Omega.{arith}
use Rattle.bits.specs.Address.{bit}
use Rattle.patricia.specs.Tree.{Entry}
use Rattle.patricia.specs.Way.{toward, Step, went_left, went_right, plug}
use Rattle.patricia.proofs.Form.{side}
use Rattle.patricia.proofs.Put.{join}
use Rattle.pool.specs.Layout.{word, Layout, next_at, mark_at, left_at, right_at}
use Rattle.pool.specs.Link.{to_route, to_inner}
use Rattle.pool.specs.Holds.{Seat, Seated, InPlace, Chain, Holds, route_places, inner_places}
use Rattle.pool.specs.Means.{Among}
use Rattle.pool.proofs.Distinct.{Distinct}
use Rattle.pool.proofs.Frame.{RouteSame, InnerSame, holds_frame, routes_in_pool, inners_in_pool}
use Rattle.pool.proofs.Laid.{Laid}
use Rattle.plan.specs.Cells.{cell_of}
use Rattle.plan.proofs.Way.{HoldsWay, way_plug, plug_way, way_inners, plug_routes, plug_inners, InnerBut, inner_whole, way_frame}
use Rattle.edit.proofs.Apart.{inners_apart_lem}

module _ {P : Type 0} (L : Layout P) (laid : Laid L) where
  -- every place but these stays, but for the cell
  pub record Stays (c : ℕ) (ws zs : List ℕ) (cell i j : ℕ) : Type 0 where
    pub routes : (p : ℕ) → p < c → (p ≡ i → ⊥) → RouteSame L ws zs p
    pub inners : (q : ℕ) → q < c → (q ≡ j → ⊥) → InnerBut L c ws zs cell q
    pub root : (2 ≡ cell → ⊥) → word ws 2 ≡ word zs 2

  -- the cell at the end of a way that is not empty is a side of one of its places
  pub cell_owner : (c : ℕ) (w : List (Step ℕ (Seat P)))
      → (cell_of L c w ≡ 2) ⊎ ((j : ℕ) × Among j (way_inners w) × ((cell_of L c w ≡ L.joint c j + 1) ⊎ (cell_of L c w ≡ L.joint c j + 2)))
  cell_owner c [] = inl refl
  cell_owner c (went_left j b r ∷ w) = inr (j, inl refl, inl refl)
  cell_owner c (went_right j b l ∷ w) = inr (j, inl refl, inr refl)

  module _ (c : ℕ) (ws zs : List ℕ) (w : List (Step ℕ (Seat P))) (t : Seated P) (i j : ℕ) (held : Holds L c ws (word ws 2) (plug w t))
      (dr : Distinct (route_places (plug w t))) (di : Distinct (inner_places (plug w t))) (new_route : Among i (route_places (plug w t)) → ⊥) (new_inner : Among j (inner_places (plug w t)) → ⊥)
      (stays : Stays c ws zs (cell_of L c w) i j) where
    route_kept : (p : ℕ) → Among p (route_places (plug w t)) → RouteSame L ws zs p
    route_kept p k = stays.routes p (routes_in_pool L c ws zs (word ws 2) (plug w t) held p k) (λ e. new_route (subst (λ (n : ℕ). Among n (route_places (plug w t))) e k))

    inner_kept : (q : ℕ) → Among q (inner_places (plug w t)) → InnerBut L c ws zs (cell_of L c w) q
    inner_kept q k = stays.inners q (inners_in_pool L c ws zs (word ws 2) (plug w t) held q k) (λ e. new_inner (subst (λ (n : ℕ). Among n (inner_places (plug w t))) e k))

    -- the way stands on
    pub way_stays : HoldsWay L c zs w
    way_stays =
        way_frame L laid c ws zs w (inners_apart_lem w t di).second (λ p k. route_kept p (plug_routes w t p (inr k))) (λ q k. inner_kept q (plug_inners w t q (inr k))) stays.root
        (plug_way L c ws w t held).0

    part_inner : (q : ℕ) → Among q (inner_places t) → InnerSame L c ws zs q
    part_inner q k = go (cell_owner c w)
      where
        b : InnerBut L c ws zs (cell_of L c w) q
        b = inner_kept q (plug_inners w t q (inl k))

        go : (cell_of L c w ≡ 2) ⊎ ((o : ℕ) × Among o (way_inners w) × ((cell_of L c w ≡ L.joint c o + 1) ⊎ (cell_of L c w ≡ L.joint c o + 2))) → InnerSame L c ws zs q
        go (inl e) = record { mark = b.mark; left = b.left (λ f. omega (arith, laid.joint_first c q)); right = b.right (λ f. omega (arith, laid.joint_first c q)) }
        go (inr v) = inner_whole L laid c ws zs (cell_of L c w) q v.0 v.2 (λ e. (inners_apart_lem w t di).apart q k (subst (λ (n : ℕ). Among n (way_inners w)) (sym e) v.1)) b

    -- and so does the part, at the link that led to it
    pub part_stays : Holds L c zs (word ws (cell_of L c w)) t
    part_stays = holds_frame L c ws zs (word ws (cell_of L c w)) t (λ p k. route_kept p (plug_routes w t p (inl k))) part_inner (plug_way L c ws w t held).1

    -- the new leaf beside it
    pub join_holds : (a k : ℕ) (e : Entry (Seat P)) → e.payload.place ≡ i → InPlace L c zs a e → next_at L zs i ≡ 0 → j < c → mark_at L c zs j ≡ suc k
        → word zs (cell_of L c w) ≡ to_inner j
        → toward (bit L.rules.width k a) ((left_at L c zs j ≡ to_route i) × (right_at L c zs j ≡ word ws (cell_of L c w))) ((left_at L c zs j ≡ word ws (cell_of L c w)) × (right_at L c zs j ≡ to_route i))
        → Holds L c zs (word zs 2) (plug w (join L.rules.width j k a e t))
    join_holds a k e p here last l m link sides = way_plug L c zs w (join L.rules.width j k a e t) way_stays (go (side L.rules.width k a))
      where
        new : (n : ℕ) → n ≡ to_route i → Chain L c zs a n (e ∷ [])
        new n q = (q ∙ ap to_route (sym p), here, ap (next_at L zs) p ∙ last)

        go : (bit L.rules.width k a ≡ 0) ⊎ (bit L.rules.width k a ≡ 1) → Holds L c zs (word zs (cell_of L c w)) (join L.rules.width j k a e t)
        go (inl z) =
            let s : (left_at L c zs j ≡ to_route i) × (right_at L c zs j ≡ word ws (cell_of L c w)) = rw z at sides in
            rw z (link, l, m, new (left_at L c zs j) s.0, subst (λ (n : ℕ). Holds L c zs n t) (sym s.1) part_stays)
        go (inr z) =
            let s : (left_at L c zs j ≡ word ws (cell_of L c w)) × (right_at L c zs j ≡ to_route i) = rw z at sides in
            rw z (link, l, m, subst (λ (n : ℕ). Holds L c zs n t) (sym s.0) part_stays, new (right_at L c zs j) s.1)
