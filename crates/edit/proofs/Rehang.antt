-- The routes of one leaf changed from a cell on: what the writes leave, and that it is the tree with the changed leaf.
use Prim.Native.Nat.{ℕ, ◌+◌, ◌<◌}
use mathlib.Core.Path.{◌≡◌, refl, sym, ap, subst, ◌∙◌}
use mathlib.Core.List.{List, [], ◌∷◌, ◌++◌}
use mathlib.Core.Logic.{◌⊎◌, inl, inr}
use native.Mathlib.Omega.{arith}
use Rattle.patricia.specs.Tree.{Entry, leaf}
use Rattle.patricia.specs.Way.{Step, went_left, went_right, plug}
use Rattle.pool.specs.Layout.{word, Layout}
use Rattle.pool.specs.Holds.{Seat, Chain, Holds, chain_places, route_places, inner_places}
use Rattle.pool.specs.Means.{Among}
use Rattle.pool.proofs.Distinct.{Distinct}
use Rattle.pool.proofs.Frame.{chain_frame, among_append, routes_in_pool, inners_in_pool}
use Rattle.pool.proofs.Laid.{Laid, one_seat}
use Rattle.plan.specs.Cells.{cell_of, end_cell}
use Rattle.plan.proofs.Way.{HoldsWay, way_plug, plug_way, way_routes, plug_routes, plug_inners, InnerBut, way_frame}
use Rattle.edit.proofs.Apart.{Asunder, asunder, routes_apart_lem, inners_apart_lem}
use Rattle.plan.proofs.Chains.{ChainTo, chain_join, chain_split, places_append, end_owner, RouteBut, route_whole, chain_to_frame}

module _ {P : Type 0} (L : Layout P) where
  -- a leaf's words hold it as a chain
  pub leaf_chain : (c : ℕ) (ws : List ℕ) (link a : ℕ) (es : List (Entry (Seat P))) → Holds L c ws link (leaf a es) → Chain L c ws a link es
  leaf_chain c ws link a [] h = absurd h
  leaf_chain c ws link a (e ∷ es) h = h

module _ {P : Type 0} (L : Layout P) (laid : Laid L) where
  -- every cell of the way is below the places' words or past the routes'
  pub cell_range : (c : ℕ) (w : List (Step ℕ (Seat P))) (p : ℕ) → p < c → cell_of L c w ≡ L.seat p + L.next_offset → ⊥
  cell_range c [] p l e = omega (arith, laid.seat_past p)
  cell_range c (went_left j b r ∷ w) p l e = omega (arith, laid.joint_past c p j l, laid.next_fits)
  cell_range c (went_right j b l ∷ w) p h e = omega (arith, laid.joint_past c p j h, laid.next_fits)

  -- a chain that is not empty is a leaf
  chain_leaf : (c : ℕ) (ws : List ℕ) (link a : ℕ) (es : List (Entry (Seat P))) → (es ≡ [] → ⊥) → Chain L c ws a link es → Holds L c ws link (leaf a es)
  chain_leaf c ws link a [] n h = absurd (n refl)
  chain_leaf c ws link a (e ∷ es) n h = h

  -- the cell is the one at the end of the way, or the next link of one of the first routes
  pub cell_cases : (from : ℕ) (xs : List (Entry (Seat P))) → (end_cell L from xs ≡ from) ⊎ ((q : ℕ) × Among q (chain_places xs) × (end_cell L from xs ≡ L.seat q + L.next_offset))
  cell_cases from [] = inl refl
  cell_cases from (x ∷ xs) = inr (end_owner L from x xs)

  -- What the writes leave: every place of the tree stays, but for the cell and the places of the routes that go.
  pub record Rehung (c : ℕ) (ws zs : List ℕ) (w : List (Step ℕ (Seat P))) (a : ℕ) (xs gone rest : List (Entry (Seat P))) : Type 0 where
    pub routes : (p : ℕ) → p < c → Among p (route_places (plug w (leaf a (xs ++ (gone ++ rest))))) → (Among p (chain_places gone) → ⊥) → RouteBut L ws zs (end_cell L (cell_of L c w) xs) p
    pub inners : (q : ℕ) → q < c → InnerBut L c ws zs (end_cell L (cell_of L c w) xs) q
    pub root : (2 ≡ end_cell L (cell_of L c w) xs → ⊥) → word ws 2 ≡ word zs 2

  module _ (c : ℕ) (ws zs : List ℕ) (w : List (Step ℕ (Seat P))) (a : ℕ) (xs gone rest : List (Entry (Seat P)))
      (held : Holds L c ws (word ws 2) (plug w (leaf a (xs ++ (gone ++ rest))))) (dr : Distinct (route_places (plug w (leaf a (xs ++ (gone ++ rest))))))
      (di : Distinct (inner_places (plug w (leaf a (xs ++ (gone ++ rest)))))) (left : Rehung c ws zs w a xs gone rest) where
    chain : Chain L c ws a (word ws (cell_of L c w)) (xs ++ (gone ++ rest))
    chain = leaf_chain L c ws (word ws (cell_of L c w)) a (xs ++ (gone ++ rest)) (plug_way L c ws w (leaf a (xs ++ (gone ++ rest))) held).1

    -- the leaf's places, in three lists
    leaf_apart : Asunder (chain_places (xs ++ (gone ++ rest))) (way_routes w)
    leaf_apart = routes_apart_lem w (leaf a (xs ++ (gone ++ rest))) dr

    first_apart : Asunder (chain_places xs) (chain_places (gone ++ rest))
    first_apart = asunder (chain_places xs) (chain_places (gone ++ rest)) (subst Distinct (places_append xs (gone ++ rest)) leaf_apart.first)

    rest_apart : Asunder (chain_places gone) (chain_places rest)
    rest_apart = asunder (chain_places gone) (chain_places rest) (subst Distinct (places_append gone rest) first_apart.second)

    in_leaf : (p : ℕ) → Among p (chain_places xs) ⊎ Among p (chain_places (gone ++ rest)) → Among p (chain_places (xs ++ (gone ++ rest)))
    in_leaf p k = subst (Among p) (sym (places_append xs (gone ++ rest))) (among_append p (chain_places xs) (chain_places (gone ++ rest)) k)

    in_old : (p : ℕ) → Among p (chain_places gone) ⊎ Among p (chain_places rest) → Among p (chain_places (gone ++ rest))
    in_old p k = subst (Among p) (sym (places_append gone rest)) (among_append p (chain_places gone) (chain_places rest) k)

    in_pool_lem : (p : ℕ) → Among p (route_places (plug w (leaf a (xs ++ (gone ++ rest))))) → p < c
    in_pool_lem p k = routes_in_pool L c ws zs (word ws 2) (plug w (leaf a (xs ++ (gone ++ rest)))) held p k

    -- a place that is none of the first routes' is not the cell's
    off_cell : (p : ℕ) → p < c → (Among p (chain_places xs) → ⊥) → L.seat p + L.next_offset ≡ end_cell L (cell_of L c w) xs → ⊥
    off_cell p l n e = go (cell_cases (cell_of L c w) xs)
      where
        go : (end_cell L (cell_of L c w) xs ≡ cell_of L c w) ⊎ ((q : ℕ) × Among q (chain_places xs) × (end_cell L (cell_of L c w) xs ≡ L.seat q + L.next_offset)) → ⊥
        go (inl f) = cell_range c w p l (sym f ∙ sym e)
        go (inr v) =
            let same : p ≡ v.0 = (one_seat L laid p v.0 L.next_offset L.next_offset laid.next_fits laid.next_fits (e ∙ v.2)).0 in
            n (subst (λ (x : ℕ). Among x (chain_places xs)) (sym same) v.1)

    inner_but : (q : ℕ) → q < c → InnerBut L c ws zs (cell_of L c w) q
    inner_but q l = go (cell_cases (cell_of L c w) xs)
      where
        b : InnerBut L c ws zs (end_cell L (cell_of L c w) xs) q
        b = left.inners q l

        go : (end_cell L (cell_of L c w) xs ≡ cell_of L c w) ⊎ ((p : ℕ) × Among p (chain_places xs) × (end_cell L (cell_of L c w) xs ≡ L.seat p + L.next_offset))
            → InnerBut L c ws zs (cell_of L c w) q
        go (inl f) = subst (λ (x : ℕ). InnerBut L c ws zs x q) f b
        go (inr v) =
            let small = in_pool_lem v.0 (plug_routes w (leaf a (xs ++ (gone ++ rest))) v.0 (inl (in_leaf v.0 (inl v.1)))) in
            record {
              mark = b.mark;
              left = λ n. b.left (λ e. omega (arith, e, v.2, laid.joint_past c v.0 q small, laid.next_fits));
              right = λ n. b.right
                  (λ e. omega (arith, e, v.2, laid.joint_past c v.0 q small, laid.next_fits));
            }

    root_but : (2 ≡ cell_of L c w → ⊥) → word ws 2 ≡ word zs 2
    root_but n = go (cell_cases (cell_of L c w) xs)
      where
        go : (end_cell L (cell_of L c w) xs ≡ cell_of L c w) ⊎ ((p : ℕ) × Among p (chain_places xs) × (end_cell L (cell_of L c w) xs ≡ L.seat p + L.next_offset)) → word ws 2 ≡ word zs 2
        go (inl f) = left.root (λ e. n (e ∙ f))
        go (inr v) = left.root (λ e. omega (arith, e, v.2, laid.seat_past v.0))

    -- the way stands on
    rehung_way : HoldsWay L c zs w
    rehung_way =
        way_frame L laid c ws zs w (inners_apart_lem w (leaf a (xs ++ (gone ++ rest))) di).second
        (λ p k.
        let there = plug_routes w (leaf a (xs ++ (gone ++ rest))) p (inr k) in
        let small = in_pool_lem p there in
        route_whole L ws zs (end_cell L (cell_of L c w) xs) p (off_cell p small (λ u. leaf_apart.apart p (in_leaf p (inl u)) k))
        (left.routes p small there (λ u. leaf_apart.apart p (in_leaf p (inr (in_old p (inl u)))) k)))
        (λ q k. inner_but q (inners_in_pool L c ws zs (word ws 2) (plug w (leaf a (xs ++ (gone ++ rest)))) held q (plug_inners w (leaf a (xs ++ (gone ++ rest))) q (inr k))))
        root_but (plug_way L c ws w (leaf a (xs ++ (gone ++ rest))) held).0

    -- the cell that links to the leaf stays, where it is not the one that is written
    head_stays : (cell_of L c w ≡ end_cell L (cell_of L c w) xs → ⊥) → word ws (cell_of L c w) ≡ word zs (cell_of L c w)
    head_stays n = go w refl (plug_way L c ws w (leaf a (xs ++ (gone ++ rest))) held).0
      where
        go : (v : List (Step ℕ (Seat P))) → w ≡ v → HoldsWay L c ws w → word ws (cell_of L c w) ≡ word zs (cell_of L c w)
        go [] e h = subst (λ (u : List (Step ℕ (Seat P))). word ws (cell_of L c u) ≡ word zs (cell_of L c u)) (sym e) (left.root (λ f. n (ap (cell_of L c) e ∙ f)))
        go (went_left j b r ∷ v) e h =
            let k : HoldsWay L c ws (went_left j b r ∷ v) = subst (HoldsWay L c ws) e h in
            subst (λ (u : List (Step ℕ (Seat P))). word ws (cell_of L c u) ≡ word zs (cell_of L c u)) (sym e) ((left.inners j k.0).left (λ f. n (ap (cell_of L c) e ∙ f)))
        go (went_right j b r ∷ v) e h =
            let k : HoldsWay L c ws (went_right j b r ∷ v) = subst (HoldsWay L c ws) e h in
            subst (λ (u : List (Step ℕ (Seat P))). word ws (cell_of L c u) ≡ word zs (cell_of L c u)) (sym e) ((left.inners j k.0).right (λ f. n (ap (cell_of L c) e ∙ f)))

    first_stays : ChainTo L c zs a (cell_of L c w) xs
    first_stays =
        chain_to_frame L laid c ws zs a (cell_of L c w) xs first_apart.first
        (λ p k.
        let there = plug_routes w (leaf a (xs ++ (gone ++ rest))) p (inl (in_leaf p (inl k))) in
        left.routes p (in_pool_lem p there) there (λ u. first_apart.apart p k (in_old p (inl u))))
        head_stays (λ p k e. cell_range c w p (in_pool_lem p (plug_routes w (leaf a (xs ++ (gone ++ rest))) p (inl (in_leaf p (inl k))))) e)
        (chain_split L c ws a (cell_of L c w) xs (gone ++ rest) chain).0

    -- what comes after the routes that go stays, at the link that led to it
    pub rest_stays : (link : ℕ) → Chain L c ws a link rest → Chain L c zs a link rest
    rest_stays link h =
        chain_frame L c ws zs a link rest (λ p k.
        let there = plug_routes w (leaf a (xs ++ (gone ++ rest))) p (inl (in_leaf p (inr (in_old p (inr k))))) in
        let small = in_pool_lem p there in
        route_whole L ws zs (end_cell L (cell_of L c w) xs) p (off_cell p small (λ u. first_apart.apart p u (in_old p (inr k)))) (left.routes p small there (λ u. rest_apart.apart p u k))) h

    -- the changed leaf in its place
    pub rehung_holds : (new : List (Entry (Seat P))) → (xs ++ new ≡ [] → ⊥) → Chain L c zs a (word zs (end_cell L (cell_of L c w) xs)) new
        → Holds L c zs (word zs 2) (plug w (leaf a (xs ++ new)))
    rehung_holds new n h = way_plug L c zs w (leaf a (xs ++ new)) rehung_way (chain_leaf c zs (word zs (cell_of L c w)) a (xs ++ new) n (chain_join L c zs a (cell_of L c w) xs new first_stays h))
