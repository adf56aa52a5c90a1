-- The first route of a tree: that of its leftmost leaf.
use Rattle.std.specs.Prelude.{Ok, Err}
use Prim.Native.Nat.{ℕ}
use mathlib.Core.Path.{◌≡◌, refl, sym, ap, subst, ◌∙◌}
use mathlib.Core.List.{List, ◌∷◌}
use mathlib.Core.Logic.{inl, inr}
use mathlib.Core.Option.{none, some}
use native.Mathlib.Omega.{arith}
use lib.ListN.{length, get_or}
use Rattle.model.specs.Routes.{Route, first_of}
use Rattle.model.specs.Call.{Value, nothing, route}
use Rattle.patricia.specs.Good.{Good, RootGood}
use Rattle.patricia.specs.Tree.{leaf, node, Root, routes, root_routes}
use Rattle.patricia.specs.Way.{Step, went_left, went_right, Follows}
use Rattle.patricia.proofs.Form.{routes_some}
use Rattle.pool.specs.Layout.{Layout, root_in, right_at}
use Rattle.pool.specs.Fit.{route_at}
use Rattle.pool.specs.Holds.{Seat, Seated, bare, bare_root, Holds, HoldsRoot}
use Rattle.pool.specs.declared.link.Place.{Place}
use Rattle.pool.specs.declared.damage.Damage.{Damage}
use Rattle.pool.proofs.Unique.{not_nothing}
use Rattle.search.specs.Down.{Kept}
use Rattle.search.specs.Says.{Says, Loose}
use Rattle.search.specs.Edge.{left_leaf, LeftLed, Leftmost}
use Rattle.walk.specs.Walk.{Fronts, Firsts, RightSide}
use Rattle.search.proofs.Bare.{bare_way}
use Rattle.search.proofs.Chain.{route_there}
use Rattle.walk.proofs.Around.{first_append, later}
use Rattle.search.proofs.Rising.{side_of, WayHeld, rise_top, rise_at}

module _ {P : Type 0} (L : Layout P) where
  -- the first route stands in the leftmost leaf
  first_left : (t : Seated P) → Good L.rules.width (bare t) → first_of (routes (bare t)) ≡ first_of (routes (bare (left_leaf t)))
  first_left (leaf a es) g = refl
  first_left (node n b l r) g = first_append (routes (bare l)) (routes (bare r)) (routes_some L.rules.width (bare l) g.1) ∙ first_left l g.1

  -- ---- at a link

  pub fronts_leaf : (c : ℕ) (ws : List ℕ) (link : ℕ) (p : Place) (r : Route P) → Leftmost L c ws link (Ok p) → r ≡ route_at L ws p.0 → Fronts L c ws link 0 (route r)
  fronts_leaf c ws link p r m e = record { loose = inl refl; exact = λ t h g. go t g (m.leads t h g) }
    where
      go : (t : Seated P) → Good L.rules.width (bare t) → LeftLed L c ws (Ok p) t → Says 0 (route r) 14 (first_of (routes (bare t)))
      go t g l =
          let f = l.ends in
          let q : ◌≡◌ {A = Place} (record { 0 = l.entry.payload.place }) p = cc in
          let there = route_there L c ws l.address p.0 l.entry l.hangs.1 (ap (λ (x : Place). x.0) q) in
          let one = first_left t g ∙ ap (λ (x : Seated P). first_of (routes (bare x))) l.is in
          subst (Says 0 (route r) 14) (sym one) (refl, ap route (e ∙ there))

  pub fronts_damaged : (c : ℕ) (ws : List ℕ) (link : ℕ) {x : Damage} → Leftmost L c ws link (Err x) → Fronts L c ws link 9 nothing
  fronts_damaged c ws link m = record {
    loose = inr (inl refl);
    exact = λ t h g. let l = m.leads t h g in let f = l.ends in absurd cc;
  }

  -- ---- in the whole pool

  pub firsts_empty : (c : ℕ) (ws : List ℕ) → root_in ws ≡ 0 → Firsts L c ws 14 nothing
  firsts_empty c ws e = record { loose = inr (inr refl); exact = go }
    where
      go : (t : Root ℕ (Seat P)) → HoldsRoot L c ws (root_in ws) t → RootGood L.rules.width (bare_root t) → Says {P = P} 14 nothing 14 (first_of (root_routes (bare_root t)))
      go none h g = (refl, refl)
      go (some t) h g = absurd (not_nothing L c ws (root_in ws) t h e)

  pub firsts_front : (c : ℕ) (ws : List ℕ) (n : ℕ) (v : Value P) → (root_in ws ≡ 0 → ⊥) → Fronts L c ws (root_in ws) n v → Firsts L c ws n v
  firsts_front c ws n v ne s = record { loose = s.loose; exact = go }
    where
      go : (t : Root ℕ (Seat P)) → HoldsRoot L c ws (root_in ws) t → RootGood L.rules.width (bare_root t) → Says n v 14 (first_of (root_routes (bare_root t)))
      go none h g = absurd (ne h)
      go (some t) h g = s.exact t h g

  -- ---- to the right of a way

  -- what is on the right of a way passes over the steps to the right
  abbrev right_of : List (Step ℕ (Seat P)) → List (Route P)
  right_of w = later (bare_way w)

  pass_right : (s : Step ℕ (Seat P)) (w : List (Step ℕ (Seat P))) → (side_of s ≡ 0 → ⊥) → right_of (s ∷ w) ≡ right_of w
  pass_right (went_left n b r) w f = absurd (f refl)
  pass_right (went_right n b l) w f = refl

  module _ (c : ℕ) (ws : List ℕ) (d : ℕ) (inner : List ℕ) (level num : ℕ) (val : Value P) where
    at_right : (k : ℕ) (s : Step ℕ (Seat P)) (w : List (Step ℕ (Seat P))) → side_of s ≡ 0 → k ≡ length w → Kept inner (s ∷ w) → WayHeld L c ws (s ∷ w)
        → Fronts L c ws (right_at L c ws (get_or inner k 0)) num val
        → Says num val 14 (first_of (right_of (s ∷ w)))
    at_right k (went_left n b x) w e l q h f =
        let there = subst (λ (y : ℕ). Holds L c ws (right_at L c ws y) x) (sym (ap (λ (y : ℕ). get_or inner y 0) l ∙ q.0)) h.0.1 in
        subst (Says num val 14) (sym (first_append (routes (bare x)) (later (bare_way w)) (routes_some L.rules.width (bare x) h.0.2))) (f.exact x there h.0.2)
    at_right k (went_right n b x) w e l q h f = absurd (omega arith)

    pub right_exact : RightSide L c ws d inner level num val → (w : List (Step ℕ (Seat P))) → level ≡ length w → Kept inner w → Follows L.rules.width d w → WayHeld L c ws w
        → Says num val 14 (first_of (later (bare_way w)))
    right_exact (inl (k, s, f)) w l q o h =
        let v = rise_at L c ws d inner right_of 0 pass_right w k q o h (omega (arith, s.0)) s.1 (λ m x y. s.2 m x (omega arith)) in
        subst (λ (z : List (Route P)). Says num val 14 (first_of z)) (sym v.sum) (at_right k v.step v.above v.took v.steps v.places v.beside f)
    right_exact (inr (s, e, f)) w l q o h =
        let n = rise_top L c ws d inner right_of 0 pass_right w q o h (λ m y. s m (omega arith)) in
        subst (λ (z : List (Route P)). Says num val 14 (first_of z)) (sym n) (e, f)

  pub right_loose : (c : ℕ) (ws : List ℕ) (d : ℕ) (inner : List ℕ) (level n : ℕ) (v : Value P) → RightSide L c ws d inner level n v → Loose n 14
  right_loose c ws d inner level n v (inl (k, s, f)) = f.loose
  right_loose c ws d inner level n v (inr (s, e, f)) = inr (inr e)
