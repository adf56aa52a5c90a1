-- The next route after a prefix: where its address has a leaf, where it parts from the leaf's that its bits lead to, and in the whole pool.
use Rattle.std.specs.Prelude.{Some, None, Ok, Err}
use Prim.Native.Nat.{ℕ, suc, ◌<◌}
use mathlib.Core.Path.{◌≡◌, refl, sym, ap, subst, ◌∙◌}
use mathlib.Core.List.{List, ◌∷◌}
use mathlib.Core.Logic.{◌⊎◌, inl, inr}
use mathlib.Core.Option.{Option, none, some}
use native.Mathlib.Omega.{arith}
use lib.ListN.{length, get_or}
use Rattle.bits.specs.Address.{first, bit, Part}
use Rattle.bits.proofs.First.{bit_lt, first_step, first_lt}
use Rattle.bits.proofs.Part.{part_whole}
use Rattle.model.specs.Prefix.{Prefix, Before, before}
use Rattle.model.specs.Routes.{Route, Held, AllAfter, first_of, next_after}
use Rattle.model.specs.Call.{Value, nothing, route}
use Rattle.model.proofs.Routes.{all_after}
use Rattle.model.proofs.Walk.{next_front}
use Rattle.model.proofs.Append.{AllBefore}
use Rattle.patricia.specs.Good.{All, Good, RootGood}
use Rattle.patricia.specs.Tree.{Tree, leaf, Root, hung, routes, root_routes}
use Rattle.patricia.specs.Way.{Step, plug}
use Rattle.patricia.proofs.Form.{all_under, held_under, routes_some}
use Rattle.patricia.proofs.Search.{or_else}
use Rattle.pool.specs.Layout.{Layout, root_in, held_prefix}
use Rattle.pool.specs.Fit.{route_at}
use Rattle.pool.specs.Link.{to_route, to_inner}
use Rattle.pool.specs.Holds.{Seat, Seated, bare, bare_root, bare_entries, chain_places, Chain, Holds, HoldsRoot}
use Rattle.pool.specs.declared.link.Place.{Place}
use Rattle.pool.specs.declared.damage.Damage.{Damage}
use Rattle.search.specs.Down.{End, EndsAt, Led, Ways}
use Rattle.search.specs.Find.{Spotted, seek, SpotIn}
use Rattle.search.specs.Says.{Says}
use Rattle.walk.specs.Walk.{Fronts, RightSide, Rejoined, Goes, Nexts}
use Rattle.search.proofs.Bare.{bare_way, bare_plug}
use Rattle.search.proofs.Led.{led_not_empty, led_not_damaged, led_chain, led_bare, led_longest}
use Rattle.search.proofs.Chain.{prefix_there}
use Rattle.search.proofs.Spots.{seek_next}
use Rattle.search.proofs.Rising.{PartHeld, part_held}
use Rattle.walk.proofs.Around.{first_else, next_nothing, later, shares_same, Shares, next_around}
use Rattle.walk.proofs.Fronts.{right_exact, right_loose}
use Rattle.walk.proofs.Rejoin.{Named, named_link, rejoins, rejoined_shares}

module _ {P : Type 0} (L : Layout P) where
  -- ---- what a spot among the leaf's routes makes of the answer

  spot_there : (ws places : List ℕ) (i : Place) (r : Route P) (o m : Option (Route P)) → Spotted L ws places (Ok (Some i)) o → r ≡ route_at L ws i.0 → Says 0 (route r) 14 (or_else o m)
  spot_there ws places i r none m s e = absurd s
  spot_there ws places i r (some q) m s e = (refl, ap route (e ∙ s.1))

  spot_absent : (ws places : List ℕ) (o m : Option (Route P)) → Spotted L ws places (Ok None) o → or_else o m ≡ m
  spot_absent ws places none m s = refl
  spot_absent ws places (some q) m s = absurd s

  module _ (c : ℕ) (ws : List ℕ) (p : Prefix) (inner : List ℕ) (deep : ℕ) (stop : End) (i : Place) (ways : Ways L c ws p.address inner deep stop) (e : EndsAt stop i) where
    -- ---- the leaf that the address's bits lead to

    -- the address that is read there is the leaf's
    read_address : (t : Seated P) (l : Led L c ws p.address inner deep stop t) → (held_prefix L ws i.0).address ≡ l.address
    read_address t l =
        let chain = led_chain L c ws p.address inner deep stop t l i e in
        let u : to_route i.0 ≡ to_route l.entry.payload.place = chain.0 in
        let same : l.entry.payload.place ≡ i.0 = omega arith in
        ap (λ (q : Prefix). q.address) (prefix_there L c ws l.address i.0 l.entry chain.1 same)

    -- the tree is the leaf and the way to it
    whole_held : (t : Seated P) (l : Led L c ws p.address inner deep stop t) → Holds L c ws (root_in ws) t → Holds L c ws (root_in ws) (plug l.way (leaf l.address (l.entry ∷ l.rest)))
    whole_held t l h = subst (Holds L c ws (root_in ws)) (sym l.whole) h

    whole_good : (t : Seated P) (l : Led L c ws p.address inner deep stop t) → Good L.rules.width (bare t)
        → Good L.rules.width (bare (plug l.way (leaf l.address (l.entry ∷ l.rest))))
    whole_good t l g = subst (λ (x : Seated P). Good L.rules.width (bare x)) (sym l.whole) g

    -- ---- the address has a leaf

    -- what is sought in the leaf, and what is on the right of the way to it
    abbrev own_of : (t : Seated P) → Led L c ws p.address inner deep stop t → Option (Route P)
    own_of t l = seek (before p) (hung l.address (bare_entries (l.entry ∷ l.rest)))

    abbrev right_of : (t : Seated P) → Led L c ws p.address inner deep stop t → Option (Route P)
    right_of t l = first_of (later (bare_way l.way))

    own_next : Part L.rules.width p.address (held_prefix L ws i.0).address L.rules.width
        → (t : Seated P) (g : Good L.rules.width (bare t)) (l : Led L c ws p.address inner deep stop t)
        → next_after p (routes (bare t)) ≡ or_else (own_of t l) (right_of t l)
    own_next part t g l =
        let own : p.address ≡ l.address = part_whole L.rules.width p.address (held_prefix L ws i.0).address part ∙ read_address t l in
        let b = led_bare L c ws p.address inner deep stop t l in
        let leafs : Tree ℕ P = leaf l.address (bare_entries (l.entry ∷ l.rest)) in
        let shares = subst (λ (x : ℕ). Shares L.rules.width p.address x (bare_way l.way)) own (shares_same L.rules.width p.address (bare_way l.way)) in
        ap (λ (x : Tree ℕ P). next_after p (routes x)) b ∙ next_around L.rules.width p l.address (bare_way l.way) leafs (subst (Good L.rules.width) b g) refl shares
        ∙ ap (λ (o : Option (Route P)). or_else o (right_of t l)) (seek_next L p (routes leafs))

    spotted : (t : Seated P) (g : Good L.rules.width (bare t)) (l : Led L c ws p.address inner deep stop t) (o : _) → SpotIn L c ws i.0 (before p) o
        → Spotted L ws (chain_places (l.entry ∷ l.rest)) o (own_of t l)
    spotted t g l o s = s.exact l.address (l.entry ∷ l.rest) (led_chain L c ws p.address inner deep stop t l i e) (led_longest L c ws p.address inner deep stop t l g)

    pub goes_hit : (at : Place) (r : Route P) → SpotIn L c ws i.0 (before p) (Ok (Some at)) → r ≡ route_at L ws at.0 → Goes L c ws p i.0 L.rules.width 0 (route r)
    goes_hit at r s f = record {
      loose = inl refl;
      exact = λ part t h g. let l = ways.leads t h g in
          subst (Says 0 (route r) 14) (sym (own_next part t g l)) (spot_there ws (chain_places (l.entry ∷ l.rest)) at r (own_of t l) (right_of t l) (spotted t g l (Ok (Some at)) s) f);
    }

    pub goes_right : (n : ℕ) (v : Value P) → SpotIn L c ws i.0 (before p) (Ok None) → RightSide L c ws p.address inner deep n v → Goes L c ws p i.0 L.rules.width n v
    goes_right n v s f = record {
      loose = right_loose L c ws p.address inner deep n v f;
      exact = λ part t h g. let l = ways.leads t h g in
          let held = part_held L c ws (root_in ws) l.way (leaf l.address (l.entry ∷ l.rest)) (whole_held t l h) (whole_good t l g) in
          subst (Says n v 14) (sym (own_next part t g l ∙ spot_absent ws (chain_places (l.entry ∷ l.rest)) (own_of t l) (right_of t l) (spotted t g l (Ok None) s)))
          (right_exact L c ws p.address inner deep n v f l.way l.steps l.places l.follows held.beside);
    }

    pub goes_broken : {x : Damage} → SpotIn L c ws i.0 (before p) (Err x) → Goes L c ws p i.0 L.rules.width 9 nothing
    goes_broken s = record { loose = inr (inl refl); exact = λ part t h g. absurd (spotted t g (ways.leads t h g) _ s) }

    -- ---- the address parts from the leaf's

    module _ (k level : ℕ) (below : k < L.rules.width) (rejoined : Rejoined L c ws k inner deep level) where
      -- the link to what stands below the parting: the leaf's, or that of the level's place
      abbrev pub PartLink : ℕ → Type 0
      PartLink link = ((level ≡ deep) × (link ≡ to_route i.0)) ⊎ ((level ≡ deep → ⊥) × (link ≡ to_inner (get_or inner level 0)))

      -- what stands below the parting, and the way to it
      record Parting (t : Seated P) : Type 0 where
        upper : List (Step ℕ (Seat P))
        part : Seated P
        steps : level ≡ length upper
        held : PartHeld L c ws upper part
        address : ℕ
        near : All (λ y. first L.rules.width (suc k) y ≡ first L.rules.width (suc k) address) (bare part)
        shared : first L.rules.width k p.address ≡ first L.rules.width k address
        apart : bit L.rules.width k p.address ≡ bit L.rules.width k address → ⊥
        next : next_after p (routes (bare t)) ≡ or_else (next_after p (routes (bare part))) (first_of (later (bare_way upper)))
        right : (n : ℕ) (v : Value P) → RightSide L c ws p.address inner level n v → Says n v 14 (first_of (later (bare_way upper)))
        there : (link : ℕ) → PartLink link → Holds L c ws link part

      part_there : (t : Seated P) (l : Led L c ws p.address inner deep stop t) (x : Seated P) (at : ℕ) → Holds L c ws at x → (link : ℕ)
          → (level ≡ deep → x ≡ leaf l.address (l.entry ∷ l.rest)) → ((level ≡ deep → ⊥) → Named (get_or inner level 0) x) → PartLink link → Holds L c ws link x
      part_there t l x at h link same named (inl (d, f)) =
          subst (Holds L c ws link) (sym (same d)) (subst (λ (y : ℕ). Chain L c ws l.address y (l.entry ∷ l.rest)) (sym f) (led_chain L c ws p.address inner deep stop t l i e))
      part_there t l x at h link same named (inr (d, f)) = subst (λ (y : ℕ). Holds L c ws y x) (named_link L c ws at (get_or inner level 0) x (named d) h ∙ sym f) h

      parting : Part L.rules.width p.address (held_prefix L ws i.0).address k → (t : Seated P) → Holds L c ws (root_in ws) t → Good L.rules.width (bare t) → Parting t
      parting split t h g =
          let l = ways.leads t h g in
          let x = p.address in
          let a = l.address in
          let es = l.entry ∷ l.rest in
          let apart : bit L.rules.width k x ≡ bit L.rules.width k a → ⊥ =
          subst (λ (y : ℕ). bit L.rules.width k x ≡ bit L.rules.width k y → ⊥) (read_address t l) (split.apart below) in
          let shared : first L.rules.width k x ≡ first L.rules.width k a = split.shared ∙ ap (first L.rules.width k) (read_address t l) in
          let hw = whole_held t l h in
          let gw = whole_good t l g in
          let long = l.steps in
          let v = rejoins L c ws inner k x a below apart l.way (leaf a es) level (root_in ws) hw gw l.places l.follows (omega (arith, rejoined.within))
          (λ m y z. rejoined.below m y (omega arith)) refl refl in
          let hv = subst (Holds L c ws (root_in ws)) (sym v.whole) hw in
          let gv = subst (λ (y : Seated P). Good L.rules.width (bare y)) (sym v.whole) gw in
          let held = part_held L c ws (root_in ws) v.upper v.part hv gv in
          let shares = rejoined_shares L c ws inner k x a below apart v.upper v.part (root_in ws) level hv gv v.places v.steps rejoined.above shared in
          let b : bare t ≡ plug (bare_way v.upper) (bare v.part) = ap bare (sym l.whole ∙ sym v.whole) ∙ bare_plug v.upper v.part in
          record {
            upper = v.upper;
            part = v.part;
            steps = v.steps;
            held = held;
            address = a;
            near = v.near;
            shared = shared;
            apart = apart;
            next =
                ap (λ (y : Tree ℕ P). next_after p (routes y)) b
                ∙ next_around L.rules.width p a (bare_way v.upper) (bare v.part) (subst (Good L.rules.width) b g) v.under shares;
            right = λ num val f. right_exact L c ws x inner level num val f v.upper v.steps v.places v.follows held.beside;
            there = λ link w. part_there t l v.part held.link held.there link (λ z. v.same (z ∙ long)) (λ z. v.named (omega (arith, rejoined.within))) w;
          }

      -- all that stands there comes before, where the address has a 1 at the parting
      all_before : (t : Seated P) (v : Parting t) → bit L.rules.width k p.address ≡ 1 → AllBefore (routes (bare v.part)) p
      unfolding Before
      all_before t v o q h =
          let near = all_under _ q.prefix.address (bare v.part) v.near (held_under q (bare v.part) h) in
          let no = v.apart in
          inl (first_lt L.rules.width (suc k) q.prefix.address p.address
          (omega (arith, near, v.shared, first_step L.rules.width k v.address below, first_step L.rules.width k p.address below, bit_lt L.rules.width k v.address)))

      -- and after, where it has a 0
      all_behind : (t : Seated P) (v : Parting t) → bit L.rules.width k p.address ≡ 0 → AllAfter p (routes (bare v.part))
      unfolding Before
      all_behind t v o = all_after p (routes (bare v.part)) go
        where
          go : (q : Route P) → Held q (routes (bare v.part)) → Before p q.prefix
          go q h =
              let near = all_under _ q.prefix.address (bare v.part) v.near (held_under q (bare v.part) h) in
              let no = v.apart in
              inl (first_lt L.rules.width (suc k) p.address q.prefix.address
              (omega (arith, near, v.shared, first_step L.rules.width k v.address below, first_step L.rules.width k p.address below, bit_lt L.rules.width k v.address)))

      pub aside_right : (num : ℕ) (val : Value P) → bit L.rules.width k p.address ≡ 1 → RightSide L c ws p.address inner level num val → Goes L c ws p i.0 k num val
      aside_right num val o f = record {
        loose = right_loose L c ws p.address inner level num val f;
        exact = λ split t h g. let v = parting split t h g in
            let none-there = next_nothing p (routes (bare v.part)) (all_before t v o) in
            subst (Says num val 14) (sym (v.next ∙ ap (λ (x : Option (Route P)). or_else x (first_of (later (bare_way v.upper)))) none-there)) (v.right num val f);
      }

      pub aside_front : (num : ℕ) (val : Value P) (link : ℕ) → (bit L.rules.width k p.address ≡ 1 → ⊥) → Fronts L c ws link num val
          → PartLink link → Goes L c ws p i.0 k num val
      aside_front num val link o f w = record {
        loose = f.loose;
        exact = λ split t h g. let v = parting split t h g in
            let zero : bit L.rules.width k p.address ≡ 0 = omega (arith, bit_lt L.rules.width k p.address) in
            let front = next_front p (routes (bare v.part)) (all_behind t v zero) in
            subst (Says num val 14)
            (sym (v.next ∙ ap (λ (x : Option (Route P)). or_else x (first_of (later (bare_way v.upper)))) front
            ∙ first_else (routes (bare v.part)) (later (bare_way v.upper)) (routes_some L.rules.width (bare v.part) v.held.good)))
            (f.exact v.part (v.there link w) v.held.good);
      }

  -- ---- in the whole pool

  module _ (c : ℕ) (ws : List ℕ) (p : Prefix) (inner : List ℕ) (deep : ℕ) (stop : End) (ways : Ways L c ws p.address inner deep stop) where
    pub nexts_leaf : (i : Place) (k n : ℕ) (v : Value P) → stop ≡ Ok (Some i) → Part L.rules.width p.address (held_prefix L ws i.0).address k
        → Goes L c ws p i.0 k n v → Nexts L c ws p n v
    nexts_leaf i k n v e split s = record { loose = s.loose; exact = go }
      where
        go : (t : Root ℕ (Seat P)) → HoldsRoot L c ws (root_in ws) t → RootGood L.rules.width (bare_root t)
            → Says n v 14 (next_after p (root_routes (bare_root t)))
        go none h g = let f = ways.empty h in absurd cc
        go (some t) h g = s.exact split t h g

    pub nexts_empty : stop ≡ Ok None → Nexts L c ws p 14 nothing
    nexts_empty e = record { loose = inr (inr refl); exact = go }
      where
        go : (t : Root ℕ (Seat P)) → HoldsRoot L c ws (root_in ws) t → RootGood L.rules.width (bare_root t)
            → Says {P = P} 14 nothing 14 (next_after p (root_routes (bare_root t)))
        go none h g = (refl, refl)
        go (some t) h g = absurd (led_not_empty L c ws p.address inner deep stop t (ways.leads t h g) e)

    pub nexts_damaged : {x : Damage} → stop ≡ Err x → Nexts L c ws p 9 nothing
    nexts_damaged e = record { loose = inr (inl refl); exact = go }
      where
        go : (t : Root ℕ (Seat P)) → HoldsRoot L c ws (root_in ws) t → RootGood L.rules.width (bare_root t)
            → Says {P = P} 9 nothing 14 (next_after p (root_routes (bare_root t)))
        go none h g = let f = ways.empty h in absurd cc
        go (some t) h g = absurd (led_not_damaged L c ws p.address inner deep stop t (ways.leads t h g) e)
