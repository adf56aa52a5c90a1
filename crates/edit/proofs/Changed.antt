-- From a plan and its row of writes to the state that the words then say.
use Prim.Native.Nat.{ℕ, ◌≤◌, ◌<◌}
use mathlib.Core.Path.{◌≡◌, refl, sym, ap, subst, ◌∙◌}
use mathlib.Core.List.{List, []}
use mathlib.Core.Option.{none, some}
use native.Mathlib.Omega.{arith}
use Rattle.std.specs.Prelude.{Option, Some, None}
use Rattle.bits.proofs.Part.{part_apart}
use Rattle.model.specs.Prefix.{Prefix}
use Rattle.model.specs.Routes.{Route, find, insert, remove, replace}
use Rattle.model.specs.State.{State}
use Rattle.model.specs.Call.{with_trial}
use Rattle.model.proofs.Tests.{none_not_some}
use Rattle.model.proofs.Edits.{length_remove}
use Rattle.patricia.specs.Way.{reached}
use Rattle.patricia.specs.Tree.{Root, routes, root_routes}
use Rattle.pool.specs.Layout.{Layout, count_in, root_in}
use Rattle.pool.specs.declared.link.Place.{Place}
use Rattle.pool.specs.Holds.{Seat, Seated, bare, bare_root, HoldsRoot}
use Rattle.pool.specs.Write.{writes}
use Rattle.rows.specs.Writes.{first_writes, hang_writes, join_writes, link_writes, drop_writes, last_writes, swap_writes}
use Rattle.plan.specs.Plan.{PutRight, JoinsAt, HeldThere, TakenAt}
use Rattle.plan.specs.Planned.{HeldRight, TakeRight}
use Rattle.places.specs.Marks.{Spare, FreePlace}
use Rattle.places.specs.declared.Sort.{Sort}
use Rattle.pool.specs.Fit.{Fit}
use Rattle.pool.proofs.Laid.{Laid}
use Rattle.edit.specs.Encodes.{Encodes, ToPut, ToTake}
use Rattle.plan.specs.declared.plan.PutPlan.{PutPlan}
use Rattle.plan.specs.declared.plan.PutPlan.TheVariants as put
use Rattle.plan.specs.declared.plan.TakePlan.{TakePlan}
use Rattle.plan.specs.declared.plan.TakePlan.TheVariants as taken
use Rattle.plan.specs.declared.plan.Held.{Held}
use Rattle.edit.proofs.Stands.{Stands, stands}
use Rattle.edit.proofs.HangIn.{hang_encodes}
use Rattle.edit.proofs.JoinIn.{join_encodes}
use Rattle.edit.proofs.FirstIn.{first_encodes}
use Rattle.edit.proofs.TakeOut.{link_encodes, swap_encodes}
use Rattle.edit.proofs.DropLeaf.{last_encodes, drop_encodes}
use Rattle.edit.proofs.Spare.{route_spare, inner_spare}

module _ {P : Type 0} (L : Layout P) where
  -- ---- the tree that a plan was read off

  -- where there is no tree there is no root
  no_root : (ws : List ℕ) (s : State P) (e : Encodes L ws s) → e.tree ≡ none → root_in ws ≡ 0
  no_root ws s e is = subst (λ (x : Root ℕ (Seat P)). HoldsRoot L s.capacity ws (root_in ws) x) is e.holds

  -- a state that holds a prefix has a tree
  has_tree : (ws : List ℕ) (s : State P) (e : Encodes L ws s) (p : Prefix) (q : Route P) → find p s.routes ≡ some q → e.tree ≡ none → ⊥
  has_tree ws s e p q f is =
      let empty : [] ≡ s.routes = subst (λ (x : Root ℕ (Seat P)). root_routes (bare_root x) ≡ s.routes) is e.routes_there in
      none_not_some (subst (λ (l : List (Route P)). find p l ≡ some q) (sym empty) f)

module _ {P : Type 0} (L : Layout P) (laid : Laid L) where
  -- ---- put in

  module _ (c : ℕ) (ws : List ℕ) (r : Route P) (s : State P) (p : ToPut L c ws r s) where
    in_pool_lem : (i : ℕ) → FreePlace L c ws Sort.Route i → i < s.capacity
    in_pool_lem i f = subst (λ (x : ℕ). i < x) (sym p.capacity_is) f.in_pool

    plan_here : (plan : PutPlan) → PutRight L c ws r.prefix plan → PutRight L s.capacity ws r.prefix plan
    plan_here plan h = subst (λ (x : ℕ). PutRight L x ws r.prefix plan) (sym p.capacity_is) h

    not_found : (t : Seated P) → Stands L laid ws s t → find r.prefix (routes (bare t)) ≡ none
    not_found t st = ap (find r.prefix) st.table ∙ p.absent

    pub put_route_spare : Spare L c ws Sort.Route
    put_route_spare = subst (λ (x : ℕ). Spare L x ws Sort.Route) p.capacity_is (route_spare L ws s p.encodes p.room)

    pub put_inner_spare : Spare L c ws Sort.Inner
    put_inner_spare = subst (λ (x : ℕ). Spare L x ws Sort.Inner) p.capacity_is (inner_spare L ws s p.encodes p.room)

    pub put_count : Fit L c ws → count_in ws ≤ 65535
    put_count u = omega (arith, u.0, p.encodes.count_there, p.room, p.capacity_is)

    pub first_done : (zs : List ℕ) (i : ℕ) → FreePlace L c ws Sort.Route i → PutRight L c ws r.prefix put.First → zs ≡ writes (first_writes L ws i r) ws
        → Encodes L zs (with_trial s (insert r s.routes) s.trial)
    first_done zs i f h e = subst (λ (x : List ℕ). Encodes L x (with_trial s (insert r s.routes) s.trial)) (sym e) (go p.encodes.tree refl)
      where
        go : (t : Root ℕ (Seat P)) → p.encodes.tree ≡ t → Encodes L (writes (first_writes L ws i r) ws) (with_trial s (insert r s.routes) s.trial)
        go none is = first_encodes L laid ws s p.encodes p.few is i r (in_pool_lem i f) p.formed
        go (some t) is = let st = stands L laid ws s p.encodes t is in absurd ((plan_here put.First h).exact t st.held st.good)

    pub hung_done : (zs : List ℕ) (i cell : ℕ) → FreePlace L c ws Sort.Route i → PutRight L c ws r.prefix (put.Hang cell) → zs ≡ writes (hang_writes L ws i r cell) ws
        → Encodes L zs (with_trial s (insert r s.routes) s.trial)
    hung_done zs i cell f h e = subst (λ (x : List ℕ). Encodes L x (with_trial s (insert r s.routes) s.trial)) (sym e) (go p.encodes.tree refl)
      where
        go : (t : Root ℕ (Seat P)) → p.encodes.tree ≡ t → Encodes L (writes (hang_writes L ws i r cell) ws) (with_trial s (insert r s.routes) s.trial)
        go none is = let k = h.empty (no_root L ws s p.encodes is) in let z : ◌≡◌ {A = ℕ} 0 1 = cc in absurd (omega arith)
        go (some t) is =
            let st = stands L laid ws s p.encodes t is in
            hang_encodes L laid ws s p.encodes p.few t st i cell r (in_pool_lem i f) f.free ((plan_here (put.Hang cell) h).exact t st.held st.good (not_found t st)) p.formed p.absent

    -- the tree that an address is joined to
    joins : (cell k : ℕ) → PutRight L c ws r.prefix (put.Join cell k) → (t : Root ℕ (Seat P)) → p.encodes.tree ≡ t
        → (t : Seated P) × Stands L laid ws s t × JoinsAt L s.capacity r.prefix t cell k
    joins cell k h none is = let d = h.empty (no_root L ws s p.encodes is) in let z : ◌≡◌ {A = ℕ} 0 1 = cc in absurd (omega arith)
    joins cell k h (some t) is = let st = stands L laid ws s p.encodes t is in (t, st, (plan_here (put.Join cell k) h).exact t st.held st.good)

    pub joins_low : (cell k : ℕ) → PutRight L c ws r.prefix (put.Join cell k) → k < L.rules.width
    joins_low cell k h =
        let v = joins cell k h p.encodes.tree refl in
        part_apart L.rules.width r.prefix.address (reached L.rules.width r.prefix.address (bare v.0)) k v.2.parts (λ e. v.2.new (sym e))

    pub joined_done : (zs : List ℕ) (i j cell k : ℕ) → FreePlace L c ws Sort.Route i → FreePlace L c ws Sort.Inner j → PutRight L c ws r.prefix (put.Join cell k)
        → zs ≡ writes (join_writes L ws c i j r k cell) ws
        → Encodes L zs (with_trial s (insert r s.routes) s.trial)
    joined_done zs i j cell k f g h e =
        let v = joins cell k h p.encodes.tree refl in
        let g' : FreePlace L s.capacity ws Sort.Inner j = subst (λ (x : ℕ). FreePlace L x ws Sort.Inner j) (sym p.capacity_is) g in
        subst (λ (x : List ℕ). Encodes L x (with_trial s (insert r s.routes) s.trial)) (sym (e ∙ ap (λ (x : ℕ). writes (join_writes L ws x i j r k cell) ws) (sym p.capacity_is)))
        (join_encodes L laid ws s p.encodes p.few v.0 v.1 i j cell k r (in_pool_lem i f) f.free g'.in_pool g'.free v.2 p.formed)

  -- ---- taken out, and changed

  module _ (c : ℕ) (ws : List ℕ) (p : Prefix) (s : State P) (g : ToTake L c ws p s) where
    -- the tree, and the route in it
    tree_of : (t : Root ℕ (Seat P)) → g.encodes.tree ≡ t → (t : Seated P) × Stands L laid ws s t × (find p (routes (bare t)) ≡ some g.route)
    tree_of none is = absurd (has_tree L ws s g.encodes p g.route g.there is)
    tree_of (some t) is = let st = stands L laid ws s g.encodes t is in (t, st, ap (find p) st.table ∙ g.there)

    v : (t : Seated P) × Stands L laid ws s t × (find p (routes (bare t)) ≡ some g.route)
    v = tree_of g.encodes.tree refl

    pub count_some : 1 ≤ count_in ws
    count_some = omega (arith, g.encodes.count_there, length_remove p g.route s.routes g.there)

    at_here : (plan : Option TakePlan) → TakeRight L c ws p plan → TakenAt L s.capacity ws p v.0 plan
    at_here plan h = (subst (λ (x : ℕ). TakeRight L x ws p plan) (sym g.capacity_is) h).exact v.0 g.route v.1.held v.1.good v.2

    pub link_done : (zs : List ℕ) (cell : ℕ) (i : Place) → TakeRight L c ws p (Some (taken.Link cell i)) → zs ≡ writes (link_writes L ws i.0 cell) ws
        → Encodes L zs (with_trial s (remove p s.routes) s.trial)
    link_done zs cell i h e =
        let x = at_here (Some (taken.Link cell i)) h in
        subst (λ (y : List ℕ). Encodes L y (with_trial s (remove p s.routes) s.trial)) (sym (e ∙ ap (λ (n : ℕ). writes (link_writes L ws n cell) ws) (sym x.2)))
        (link_encodes L laid ws s g.encodes g.few v.0 v.1 cell p x.0 x.1 g.route g.there x.3)

    pub leaf_done : (zs : List ℕ) (up link : ℕ) (j i : Place) → TakeRight L c ws p (Some (taken.Leaf up j link i))
        → zs ≡ writes (drop_writes L ws c i.0 j.0 up link) ws
        → Encodes L zs (with_trial s (remove p s.routes) s.trial)
    leaf_done zs up link j i h e =
        let x = at_here (Some (taken.Leaf up j link i)) h in
        let a = sym g.capacity_is in
        let b = sym x.6 in
        let d = sym x.7 in
        let f = sym x.8 in
        let k = sym x.9 in
        subst (λ (y : List ℕ). Encodes L y (with_trial s (remove p s.routes) s.trial)) (sym (e ∙ (λ n. writes (drop_writes L ws (a n) (b n) (d n) (f n) (k n)) ws)))
        (drop_encodes L laid ws s g.encodes g.few v.0 v.1 p x.0 x.1 x.2 g.route x.3 x.4 x.5 g.there)

    pub last_done : (zs : List ℕ) (i : Place) → TakeRight L c ws p (Some (taken.Last i)) → zs ≡ writes (last_writes L ws i.0) ws
        → Encodes L zs (with_trial s (remove p s.routes) s.trial)
    last_done zs i h e =
        let x = at_here (Some (taken.Last i)) h in
        subst (λ (y : List ℕ). Encodes L y (with_trial s (remove p s.routes) s.trial)) (sym (e ∙ ap (λ (n : ℕ). writes (last_writes L ws n) ws) (sym x.3)))
        (last_encodes L laid ws s g.encodes g.few x.0 p g.route x.2 (subst (Stands L laid ws s) (sym x.1) v.1) g.there)

    pub nowhere_not : TakeRight L c ws p None → ⊥
    nowhere_not h = at_here None h

    held_here : (plan : Option Held) → HeldRight L c ws p plan → HeldThere L s.capacity p v.0 plan
    held_here plan h = (subst (λ (x : ℕ). HeldRight L x ws p plan) (sym g.capacity_is) h).exact v.0 g.route v.1.held v.1.good v.2

    pub swap_done : (zs : List ℕ) (o : P) (at : Held) → HeldRight L c ws p (Some at) → zs ≡ writes (swap_writes L at.place.0 o) ws
        → Encodes L zs (with_trial s (replace (record { prefix = p; payload = o }) s.routes) s.trial)
    swap_done zs o at h e =
        let x = held_here (Some at) h in
        subst (λ (y : List ℕ). Encodes L y (with_trial s (replace (record { prefix = p; payload = o }) s.routes) s.trial))
        (sym (e ∙ ap (λ (n : ℕ). writes (swap_writes L n o) ws) (sym x.2)))
        (swap_encodes L laid ws s g.encodes g.few v.0 v.1 at.cell p x.0 x.1 o g.route g.there)

    pub held_not : HeldRight L c ws p None → ⊥
    held_not h = held_here None h
