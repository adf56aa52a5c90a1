-- A tree in the words as a part and the way to it: the cell that links to the part, and the places that the way and its siblings use.
use Prim.Native.Nat.{ℕ, suc, ◌+◌, ◌<◌}
use mathlib.Core.Path.{◌≡◌, refl, sym, subst, ◌∙◌}
use mathlib.Core.List.{List, [], ◌∷◌, ◌++◌}
use mathlib.Core.Logic.{◌⊎◌, inl, inr, ⊎_elim}
use native.Mathlib.Omega.{arith}
use Rattle.patricia.specs.Tree.{node}
use Rattle.patricia.specs.Way.{Step, went_left, went_right, plug}
use Rattle.pool.specs.Layout.{word, Layout, mark_at, left_at, right_at}
use Rattle.pool.specs.Link.{to_inner}
use Rattle.pool.specs.Holds.{Seat, Seated, Holds, route_places, inner_places}
use Rattle.pool.specs.Means.{Among}
use Rattle.pool.proofs.Distinct.{Distinct}
use Rattle.plan.specs.Cells.{cell_of}
use Rattle.pool.proofs.Frame.{RouteSame, InnerSame, holds_frame, among_append, append_among}
use Rattle.pool.proofs.Laid.{Laid, one_joint}

module _ {P : Type 0} where
  -- ---- the places of the way: its own, and those of the sides that it left

  abbrev pub way_routes : List (Step ℕ (Seat P)) → List ℕ
  way_routes [] = []
  way_routes (went_left j b r ∷ w) = route_places r ++ way_routes w
  way_routes (went_right j b l ∷ w) = route_places l ++ way_routes w

  abbrev pub way_inners : List (Step ℕ (Seat P)) → List ℕ
  way_inners [] = []
  way_inners (went_left j b r ∷ w) = j ∷ (inner_places r ++ way_inners w)
  way_inners (went_right j b l ∷ w) = j ∷ (inner_places l ++ way_inners w)

  pub routes_plug : (w : List (Step ℕ (Seat P))) (t : Seated P) (i : ℕ) → Among i (route_places (plug w t)) → Among i (route_places t) ⊎ Among i (way_routes w)
  routes_plug [] t i h = inl h
  routes_plug (went_left j b r ∷ w) t i h = go (routes_plug w (node j b t r) i h)
    where
      go : Among i (route_places t ++ route_places r) ⊎ Among i (way_routes w) → Among i (route_places t) ⊎ Among i (route_places r ++ way_routes w)
      go (inl k) = ⊎_elim (λ u. inl u) (λ u. inr (among_append i (route_places r) (way_routes w) (inl u))) (append_among i (route_places t) (route_places r) k)
      go (inr k) = inr (among_append i (route_places r) (way_routes w) (inr k))
  routes_plug (went_right j b l ∷ w) t i h = go (routes_plug w (node j b l t) i h)
    where
      go : Among i (route_places l ++ route_places t) ⊎ Among i (way_routes w) → Among i (route_places t) ⊎ Among i (route_places l ++ way_routes w)
      go (inl k) = ⊎_elim (λ u. inr (among_append i (route_places l) (way_routes w) (inl u))) (λ u. inl u) (append_among i (route_places l) (route_places t) k)
      go (inr k) = inr (among_append i (route_places l) (way_routes w) (inr k))

  pub plug_routes : (w : List (Step ℕ (Seat P))) (t : Seated P) (i : ℕ) → Among i (route_places t) ⊎ Among i (way_routes w) → Among i (route_places (plug w t))
  plug_routes [] t i (inl h) = h
  plug_routes [] t i (inr h) = absurd h
  plug_routes (went_left j b r ∷ w) t i h = plug_routes w (node j b t r) i (go h)
    where
      go : Among i (route_places t) ⊎ Among i (route_places r ++ way_routes w) → Among i (route_places t ++ route_places r) ⊎ Among i (way_routes w)
      go (inl k) = inl (among_append i (route_places t) (route_places r) (inl k))
      go (inr k) = ⊎_elim (λ u. inl (among_append i (route_places t) (route_places r) (inr u))) (λ u. inr u) (append_among i (route_places r) (way_routes w) k)
  plug_routes (went_right j b l ∷ w) t i h = plug_routes w (node j b l t) i (go h)
    where
      go : Among i (route_places t) ⊎ Among i (route_places l ++ way_routes w) → Among i (route_places l ++ route_places t) ⊎ Among i (way_routes w)
      go (inl k) = inl (among_append i (route_places l) (route_places t) (inr k))
      go (inr k) = ⊎_elim (λ u. inl (among_append i (route_places l) (route_places t) (inl u))) (λ u. inr u) (append_among i (route_places l) (way_routes w) k)

  pub inners_plug : (w : List (Step ℕ (Seat P))) (t : Seated P) (i : ℕ) → Among i (inner_places (plug w t)) → Among i (inner_places t) ⊎ Among i (way_inners w)
  inners_plug [] t i h = inl h
  inners_plug (went_left j b r ∷ w) t i h = go (inners_plug w (node j b t r) i h)
    where
      go : Among i (j ∷ (inner_places t ++ inner_places r)) ⊎ Among i (way_inners w) → Among i (inner_places t) ⊎ Among i (j ∷ (inner_places r ++ way_inners w))
      go (inl (inl e)) = inr (inl e)
      go (inl (inr k)) = ⊎_elim (λ u. inl u) (λ u. inr (inr (among_append i (inner_places r) (way_inners w) (inl u)))) (append_among i (inner_places t) (inner_places r) k)
      go (inr k) = inr (inr (among_append i (inner_places r) (way_inners w) (inr k)))
  inners_plug (went_right j b l ∷ w) t i h = go (inners_plug w (node j b l t) i h)
    where
      go : Among i (j ∷ (inner_places l ++ inner_places t)) ⊎ Among i (way_inners w) → Among i (inner_places t) ⊎ Among i (j ∷ (inner_places l ++ way_inners w))
      go (inl (inl e)) = inr (inl e)
      go (inl (inr k)) = ⊎_elim (λ u. inr (inr (among_append i (inner_places l) (way_inners w) (inl u)))) (λ u. inl u) (append_among i (inner_places l) (inner_places t) k)
      go (inr k) = inr (inr (among_append i (inner_places l) (way_inners w) (inr k)))

  pub plug_inners : (w : List (Step ℕ (Seat P))) (t : Seated P) (i : ℕ) → Among i (inner_places t) ⊎ Among i (way_inners w) → Among i (inner_places (plug w t))
  plug_inners [] t i (inl h) = h
  plug_inners [] t i (inr h) = absurd h
  plug_inners (went_left j b r ∷ w) t i h = plug_inners w (node j b t r) i (go h)
    where
      go : Among i (inner_places t) ⊎ Among i (j ∷ (inner_places r ++ way_inners w)) → Among i (j ∷ (inner_places t ++ inner_places r)) ⊎ Among i (way_inners w)
      go (inl k) = inl (inr (among_append i (inner_places t) (inner_places r) (inl k)))
      go (inr (inl e)) = inl (inl e)
      go (inr (inr k)) = ⊎_elim (λ u. inl (inr (among_append i (inner_places t) (inner_places r) (inr u)))) (λ u. inr u) (append_among i (inner_places r) (way_inners w) k)
  plug_inners (went_right j b l ∷ w) t i h = plug_inners w (node j b l t) i (go h)
    where
      go : Among i (inner_places t) ⊎ Among i (j ∷ (inner_places l ++ way_inners w)) → Among i (j ∷ (inner_places l ++ inner_places t)) ⊎ Among i (way_inners w)
      go (inl k) = inl (inr (among_append i (inner_places l) (inner_places t) (inr k)))
      go (inr (inl e)) = inl (inl e)
      go (inr (inr k)) = ⊎_elim (λ u. inl (inr (among_append i (inner_places l) (inner_places t) (inl u)))) (λ u. inr u) (append_among i (inner_places l) (way_inners w) k)

module _ {P : Type 0} (L : Layout P) where
  -- the way stands in the words, all but the cell at its end
  abbrev pub HoldsWay : ℕ → List ℕ → List (Step ℕ (Seat P)) → Type 0
  HoldsWay c ws [] = Unit {0}
  HoldsWay c ws (went_left j b r ∷ w) = (j < c) × (mark_at L c ws j ≡ suc b) × Holds L c ws (right_at L c ws j) r × (word ws (cell_of L c w) ≡ to_inner j) × HoldsWay c ws w
  HoldsWay c ws (went_right j b l ∷ w) = (j < c) × (mark_at L c ws j ≡ suc b) × Holds L c ws (left_at L c ws j) l × (word ws (cell_of L c w) ≡ to_inner j) × HoldsWay c ws w

  pub way_plug : (c : ℕ) (ws : List ℕ) (w : List (Step ℕ (Seat P))) (t : Seated P) → HoldsWay c ws w → Holds L c ws (word ws (cell_of L c w)) t → Holds L c ws (word ws 2) (plug w t)
  way_plug c ws [] t h k = k
  way_plug c ws (went_left j b r ∷ w) t h k = way_plug c ws w (node j b t r) h.4 (h.3, h.0, h.1, k, h.2)
  way_plug c ws (went_right j b l ∷ w) t h k = way_plug c ws w (node j b l t) h.4 (h.3, h.0, h.1, h.2, k)

  pub plug_way : (c : ℕ) (ws : List ℕ) (w : List (Step ℕ (Seat P))) (t : Seated P) → Holds L c ws (word ws 2) (plug w t) → HoldsWay c ws w × Holds L c ws (word ws (cell_of L c w)) t
  plug_way c ws [] t h = (tt, h)
  plug_way c ws (went_left j b r ∷ w) t h = let v = plug_way c ws w (node j b t r) h in ((v.1.1, v.1.2, v.1.4, v.1.0, v.0), v.1.3)
  plug_way c ws (went_right j b l ∷ w) t h = let v = plug_way c ws w (node j b l t) h in ((v.1.1, v.1.2, v.1.3, v.1.0, v.0), v.1.4)

  -- ---- the way stands on where all stays but the cell at its end

  -- an inner place's words, but for the cell
  pub record InnerBut (c : ℕ) (ws zs : List ℕ) (cell q : ℕ) : Type 0 where
    pub mark : word ws (L.joint c q) ≡ word zs (L.joint c q)
    pub left : (L.joint c q + 1 ≡ cell → ⊥) → word ws (L.joint c q + 1) ≡ word zs (L.joint c q + 1)
    pub right : (L.joint c q + 2 ≡ cell → ⊥) → word ws (L.joint c q + 2) ≡ word zs (L.joint c q + 2)

module _ {P : Type 0} (L : Layout P) (laid : Laid L) where
  -- a place that the cell is not of
  pub inner_whole : (c : ℕ) (ws zs : List ℕ) (cell q j : ℕ) → (cell ≡ L.joint c j + 1) ⊎ (cell ≡ L.joint c j + 2) → (q ≡ j → ⊥) → InnerBut L c ws zs cell q
      → InnerSame L c ws zs q
  inner_whole c ws zs cell q j (inl e) n b = record {
    mark = b.mark;
    left = b.left (λ f. n (one_joint L laid c q j 1 1 (omega arith) (omega arith) (f ∙ e)).0);
    right = b.right (λ f. n (one_joint L laid c q j 2 1 (omega arith) (omega arith) (f ∙ e)).0);
  }
  inner_whole c ws zs cell q j (inr e) n b = record {
    mark = b.mark;
    left = b.left (λ f. n (one_joint L laid c q j 1 2 (omega arith) (omega arith) (f ∙ e)).0);
    right = b.right (λ f. n (one_joint L laid c q j 2 2 (omega arith) (omega arith) (f ∙ e)).0);
  }

  module _ (c : ℕ) (ws zs : List ℕ) where
    -- where all stays, the cell stays too
    full_frame : (w : List (Step ℕ (Seat P))) → ((i : ℕ) → Among i (way_routes w) → RouteSame L ws zs i) → ((j : ℕ) → Among j (way_inners w) → InnerSame L c ws zs j)
        → word ws 2 ≡ word zs 2 → HoldsWay L c ws w → HoldsWay L c zs w × (word ws (cell_of L c w) ≡ word zs (cell_of L c w))
    full_frame [] f g e h = (tt, e)
    full_frame (went_left j b r ∷ w) f g e h =
        let s = g j (inl refl) in
        let v = full_frame w (λ i k. f i (among_append i (route_places r) (way_routes w) (inr k))) (λ i k. g i (inr (among_append i (inner_places r) (way_inners w) (inr k)))) e h.4 in
        let x = holds_frame L c ws zs (right_at L c ws j) r (λ i k. f i (among_append i (route_places r) (way_routes w) (inl k)))
        (λ i k. g i (inr (among_append i (inner_places r) (way_inners w) (inl k)))) h.2 in
        ((h.0, sym s.mark ∙ h.1, subst (λ (n : ℕ). Holds L c zs n r) s.right x, sym v.1 ∙ h.3, v.0), s.left)
    full_frame (went_right j b l ∷ w) f g e h =
        let s = g j (inl refl) in
        let v = full_frame w (λ i k. f i (among_append i (route_places l) (way_routes w) (inr k))) (λ i k. g i (inr (among_append i (inner_places l) (way_inners w) (inr k)))) e h.4 in
        let x = holds_frame L c ws zs (left_at L c ws j) l (λ i k. f i (among_append i (route_places l) (way_routes w) (inl k)))
        (λ i k. g i (inr (among_append i (inner_places l) (way_inners w) (inl k)))) h.2 in
        ((h.0, sym s.mark ∙ h.1, subst (λ (n : ℕ). Holds L c zs n l) s.left x, sym v.1 ∙ h.3, v.0), s.right)

    pub way_frame : (w : List (Step ℕ (Seat P))) → Distinct (way_inners w) → ((i : ℕ) → Among i (way_routes w) → RouteSame L ws zs i)
        → ((j : ℕ) → Among j (way_inners w) → InnerBut L c ws zs (cell_of L c w) j) → ((2 ≡ cell_of L c w → ⊥) → word ws 2 ≡ word zs 2) → HoldsWay L c ws w → HoldsWay L c zs w
    way_frame [] d f g e h = tt
    way_frame (went_left j b r ∷ w) d f g e h =
        let apart : (q : ℕ) → Among q (inner_places r ++ way_inners w) → q ≡ j → ⊥ = λ q k p. d.0 (subst (λ (n : ℕ). Among n (inner_places r ++ way_inners w)) p k) in
        let same : (q : ℕ) → Among q (inner_places r ++ way_inners w) → InnerSame L c ws zs q =
        λ q k. inner_whole c ws zs (L.joint c j + 1) q j (inl refl) (apart q k) (g q (inr k)) in
        let s = g j (inl refl) in
        let right : right_at L c ws j ≡ right_at L c zs j = s.right (λ p. omega arith) in
        let v =
        full_frame w (λ i k. f i (among_append i (route_places r) (way_routes w) (inr k))) (λ i k. same i (among_append i (inner_places r) (way_inners w) (inr k)))
        (e (λ p. omega (arith, laid.joint_first c j))) h.4 in
        let x = holds_frame L c ws zs (right_at L c ws j) r (λ i k. f i (among_append i (route_places r) (way_routes w) (inl k)))
        (λ i k. same i (among_append i (inner_places r) (way_inners w) (inl k))) h.2 in
        (h.0, sym s.mark ∙ h.1, subst (λ (n : ℕ). Holds L c zs n r) right x, sym v.1 ∙ h.3, v.0)
    way_frame (went_right j b l ∷ w) d f g e h =
        let apart : (q : ℕ) → Among q (inner_places l ++ way_inners w) → q ≡ j → ⊥ = λ q k p. d.0 (subst (λ (n : ℕ). Among n (inner_places l ++ way_inners w)) p k) in
        let same : (q : ℕ) → Among q (inner_places l ++ way_inners w) → InnerSame L c ws zs q =
        λ q k. inner_whole c ws zs (L.joint c j + 2) q j (inr refl) (apart q k) (g q (inr k)) in
        let s = g j (inl refl) in
        let left : left_at L c ws j ≡ left_at L c zs j = s.left (λ p. omega arith) in
        let v =
        full_frame w (λ i k. f i (among_append i (route_places l) (way_routes w) (inr k))) (λ i k. same i (among_append i (inner_places l) (way_inners w) (inr k)))
        (e (λ p. omega (arith, laid.joint_first c j))) h.4 in
        let x = holds_frame L c ws zs (left_at L c ws j) l (λ i k. f i (among_append i (route_places l) (way_routes w) (inl k)))
        (λ i k. same i (among_append i (inner_places l) (way_inners w) (inl k))) h.2 in
        (h.0, sym s.mark ∙ h.1, subst (λ (n : ℕ). Holds L c zs n l) left x, sym v.1 ∙ h.3, v.0)
