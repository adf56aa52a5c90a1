-- The climb: what is known at a leaf of it, along the leaf's routes, and at each way out.
use Rattle.std.specs.Prelude.{Some, None, Ok, Err}
use Prim.Native.Nat.{ℕ, ◌<◌}
use mathlib.Core.Path.{◌≡◌, refl, sym, ap, subst, ◌∙◌}
use mathlib.Core.Bool.{true, false}
use mathlib.Core.List.{List, [], ◌∷◌}
use mathlib.Core.Logic.{inl, inr}
use mathlib.Core.Option.{Option, none, some}
use native.Mathlib.Omega.{arith}
use lib.ListN.{length, get_or}
use Rattle.model.specs.Prefix.{Prefix, matches}
use Rattle.model.specs.Routes.{Route}
use Rattle.model.specs.Match.{best}
use Rattle.model.specs.Call.{Value, nothing, route}
use Rattle.patricia.specs.Good.{Good, RootGood}
use Rattle.patricia.specs.Tree.{Entry, Tree, leaf, node, Root, route_of, routes, root_routes}
use Rattle.patricia.specs.Obeys.{LongestFirst}
use Rattle.patricia.specs.Way.{Step, went_left, went_right, Follows}
use Rattle.patricia.proofs.Search.{first_match, leftmost_match, search, search_best}
use Rattle.patricia.proofs.Zip.{climb, climb_search}
use Rattle.pool.specs.Layout.{Layout, root_in, held_prefix, next_at, left_at}
use Rattle.pool.specs.Fit.{route_at}
use Rattle.pool.specs.Link.{to_route}
use Rattle.pool.specs.Holds.{Seat, Seated, bare, bare_root, bare_entry, bare_entries, Chain, Holds, HoldsRoot}
use Rattle.pool.specs.declared.link.Place.{Place}
use Rattle.pool.specs.declared.damage.Damage.{Damage}
use Rattle.search.specs.Chain.{HungRight}
use Rattle.search.specs.Down.{Kept, End, EndsAt, Ways}
use Rattle.search.specs.Says.{Says}
use Rattle.search.specs.Edge.{Rises, left_leaf, Leftmost}
use Rattle.climb.specs.Climb.{Climbs, Looks}
use Rattle.search.proofs.Bare.{bare_way, bare_follows, bare_longest}
use Rattle.search.proofs.Led.{led_not_empty, led_not_damaged, led_chain, led_bare, led_longest}
use Rattle.search.proofs.Chain.{Behind, route_there, prefix_there, behind_start, behind_next, behind_last, behind_length}
use Rattle.search.proofs.Left.{left_good}
use Rattle.search.proofs.Rising.{side_of, WayHeld, part_held, rise_top, rise_at}

module _ {P : Type 0} (L : Layout P) where
  -- ---- along the routes of one leaf

  -- an answer is the leaf's first match
  abbrev pub Matched : ℕ → ℕ → Option (Route P) → List (Entry (Seat P)) → Type 0
  Matched d a o es = first_match L.rules.width d a (bare_entries es) ≡ o

  -- partway along every leaf that hangs from the first place
  abbrev pub Matching : ℕ → List ℕ → ℕ → ℕ → ℕ → Type 0
  Matching c ws d first i = (a : ℕ) (es : List (Entry (Seat P))) → Chain L c ws a (to_route first) es → LongestFirst es → Behind L c ws (Matched d a) a i es

  -- no route of a leaf that hangs from the first place matches
  abbrev pub Unmatched : ℕ → List ℕ → ℕ → ℕ → Type 0
  Unmatched c ws d first = (a : ℕ) (es : List (Entry (Seat P))) → Chain L c ws a (to_route first) es → LongestFirst es → Matched d a none es

  module _ (c : ℕ) (ws : List ℕ) (d first : ℕ) where
    pub match_start : Matching c ws d first first
    match_start a es h f = behind_start L c ws (Matched d a) a (to_route first) first es refl h f

    -- a route that does not match is passed by
    skip : (a i : ℕ) (es : List (Entry (Seat P))) (b : Behind L c ws (Matched d a) a i es) → matches L.rules.width (held_prefix L ws i) d ≡ false
        → (o : Option (Route P)) → Matched d a o b.rest → Matched d a o (b.entry ∷ b.rest)
    skip a i es b f o q =
        let t : matches L.rules.width (record { address = a; length = b.entry.length }) d ≡ false =
        ap (λ (p : Prefix). matches L.rules.width p d) (sym (prefix_there L c ws a i b.entry b.there b.here)) ∙ f in
        rw t q

    pub match_next : (i j : ℕ) → Matching c ws d first i → matches L.rules.width (held_prefix L ws i) d ≡ false → next_at L ws i ≡ to_route j → Matching c ws d first j
    match_next i j all f e a es h g = let b = all a es h g in behind_next L c ws (Matched d a) a i j es b e (skip a i es b f)

    pub match_end : (i : ℕ) → Matching c ws d first i → matches L.rules.width (held_prefix L ws i) d ≡ false → next_at L ws i ≡ 0 → Unmatched c ws d first
    match_end i all f e a es h g = let b = all a es h g in behind_last L c ws (Matched d a) a i es b e (skip a i es b f) none refl

    match_hit : (i : ℕ) → Matching c ws d first i → matches L.rules.width (held_prefix L ws i) d ≡ true → (a : ℕ) (es : List (Entry (Seat P)))
        → Chain L c ws a (to_route first) es → LongestFirst es
        → Matched d a (some (route_at L ws i)) es
    match_hit i all t a es h g =
        let b = all a es h g in
        let u : matches L.rules.width (record { address = a; length = b.entry.length }) d ≡ true =
        ap (λ (p : Prefix). matches L.rules.width p d) (sym (prefix_there L c ws a i b.entry b.there b.here)) ∙ t in
        let one : first_match L.rules.width d a (bare_entries (b.entry ∷ b.rest)) ≡ some (route_of a (bare_entry b.entry)) = rw u in
        b.carries (some (route_at L ws i)) (one ∙ ap some (sym (route_there L c ws a i b.entry b.there b.here)))

  -- ---- at a leaf of the climb

  -- The longest match is what the way above makes of the leaf's first match.
  pub record Climbing (c : ℕ) (ws : List ℕ) (d : ℕ) (inner : List ℕ) (level first : ℕ) (t : Seated P) : Type 0 where
    pub way : List (Step ℕ (Seat P))
    pub address : ℕ
    pub entries : List (Entry (Seat P))
    pub steps : level ≡ length way
    pub places : Kept inner way
    pub follows : Follows L.rules.width d way
    pub beside : WayHeld L c ws way
    pub hangs : Chain L c ws address (to_route first) entries
    pub longest : LongestFirst entries
    pub sum : best L.rules.width d (routes (bare t)) ≡ climb L.rules.width d (bare_way way) (first_match L.rules.width d address (bare_entries entries))

  -- whatever good tree the words hold
  abbrev pub AllClimbing : ℕ → List ℕ → ℕ → List ℕ → ℕ → ℕ → Type 0
  AllClimbing c ws d inner level first = (t : Seated P) → Holds L c ws (root_in ws) t → Good L.rules.width (bare t) → Climbing c ws d inner level first t

  -- at the leaf to which the way down leads
  pub climb_start : (c : ℕ) (ws : List ℕ) (d : ℕ) (inner : List ℕ) (deep : ℕ) (stop : End) (p : Place) → Ways L c ws d inner deep stop → EndsAt stop p
      → AllClimbing c ws d inner deep p.0
  climb_start c ws d inner deep stop p ways e t h g =
      let l = ways.leads t h g in
      let es = l.entry ∷ l.rest in
      let part : Tree ℕ P = leaf l.address (bare_entries es) in
      let held =
      part_held L c ws (root_in ws) l.way (leaf l.address es) (subst (Holds L c ws (root_in ws)) (sym l.whole) h)
      (subst (λ (x : Seated P). Good L.rules.width (bare x)) (sym l.whole) g) in
      record {
        way = l.way;
        address = l.address;
        entries = es;
        steps = l.steps;
        places = l.places;
        follows = l.follows;
        beside = held.beside;
        hangs = led_chain L c ws d inner deep stop t l p e;
        longest = led_longest L c ws d inner deep stop t l g;
        sum =
            sym (search_best L.rules.width d (bare t) g) ∙ ap (search L.rules.width d) (led_bare L c ws d inner deep stop t l)
            ∙ climb_search L.rules.width d (bare_way l.way) part (bare_follows L.rules.width d l.way l.follows);
      }

  -- ---- up from a leaf that has no match

  -- what is found stays found
  climb_some : (d : ℕ) (w : List (Step ℕ P)) (r : Route P) → climb L.rules.width d w (some r) ≡ some r
  climb_some d [] r = refl
  climb_some d (went_left n b x ∷ w) r = climb_some d w r
  climb_some d (went_right n b x ∷ w) r = climb_some d w r

  -- what the way above makes of nothing; a step to the left has nothing to offer
  abbrev up_from : ℕ → List (Step ℕ (Seat P)) → Option (Route P)
  up_from d w = climb L.rules.width d (bare_way w) none

  pass_left : (d : ℕ) (s : Step ℕ (Seat P)) (w : List (Step ℕ (Seat P))) → (side_of s ≡ 1 → ⊥) → up_from d (s ∷ w) ≡ up_from d w
  pass_left d (went_left n b r) w f = refl
  pass_left d (went_right n b l) w f = absurd (f refl)

  -- the leftmost leaf's match is the tree's leftmost match
  leftmost_leaf : (d : ℕ) (t : Seated P) → leftmost_match L.rules.width d (bare t) ≡ leftmost_match L.rules.width d (bare (left_leaf t))
  leftmost_leaf d (leaf a es) = refl
  leftmost_leaf d (node n b l r) = leftmost_leaf d l

  -- a left side that the way passed by, and the way above it
  record LeftSide (c : ℕ) (ws : List ℕ) (d : ℕ) (inner : List ℕ) (level : ℕ) (t : Seated P) : Type 0 where
    side : Seated P
    above : List (Step ℕ (Seat P))
    steps : level ≡ length above
    places : Kept inner above
    follows : Follows L.rules.width d above
    beside : WayHeld L c ws above
    there : Holds L c ws (left_at L c ws (get_or inner level 0)) side
    good : Good L.rules.width (bare side)
    sum : best L.rules.width d (routes (bare t)) ≡ climb L.rules.width d (bare_way above) (leftmost_match L.rules.width d (bare side))

  left_side : (c : ℕ) (ws : List ℕ) (d : ℕ) (inner : List ℕ) (level : ℕ) (t : Seated P) (s : Step ℕ (Seat P)) (w : List (Step ℕ (Seat P))) → side_of s ≡ 1 → level ≡ length w
      → Kept inner (s ∷ w)
      → Follows L.rules.width d (s ∷ w) → WayHeld L c ws (s ∷ w) → best L.rules.width d (routes (bare t)) ≡ up_from d (s ∷ w) → LeftSide c ws d inner level t
  left_side c ws d inner level t (went_left n b r) w e l k f h q = absurd (omega arith)
  left_side c ws d inner level t (went_right n b x) w e l k f h q = record {
    side = x;
    above = w;
    steps = l;
    places = k.1;
    follows = f.1;
    beside = h.1;
    there = subst (λ (y : ℕ). Holds L c ws (left_at L c ws y) x) (sym (ap (λ (y : ℕ). get_or inner y 0) l ∙ k.0)) h.0.1;
    good = h.0.2;
    sum = q;
  }

  module _ (c : ℕ) (ws : List ℕ) (d : ℕ) (inner : List ℕ) (level first : ℕ) (all : AllClimbing c ws d inner level first) where
    -- ---- the ways out

    pub climbs_hit : (i : ℕ) (r : Route P) → Matching c ws d first i → matches L.rules.width (held_prefix L ws i) d ≡ true → r ≡ route_at L ws i
        → Climbs L c ws d 0 (route r)
    climbs_hit i r m t e = record {
      loose = inl refl;
      exact = λ x h g. let k = all x h g in
          let one = match_hit c ws d first i m t k.address k.entries k.hangs k.longest in
          subst (Says 0 (route r) 13) (sym (k.sum ∙ ap (climb L.rules.width d (bare_way k.way)) one ∙ climb_some d (bare_way k.way) (route_at L ws i))) (refl, ap route e);
    }

    -- the leaf has no match, so the climb goes on
    nothing_here : Unmatched c ws d first → (t : Seated P) (h : Holds L c ws (root_in ws) t) (g : Good L.rules.width (bare t))
        → best L.rules.width d (routes (bare t)) ≡ up_from d (all t h g).way
    nothing_here u t h g = let k = all t h g in k.sum ∙ ap (climb L.rules.width d (bare_way k.way)) (u k.address k.entries k.hangs k.longest)

    pub climbs_top : Unmatched c ws d first → Rises L c ws d 1 inner level None → Climbs L c ws d 13 nothing
    climbs_top u s = record {
      loose = inr (inr refl);
      exact = λ x h g. let k = all x h g in
          let n = rise_top L c ws d inner (up_from d) 1 (pass_left d) k.way k.places k.follows k.beside (λ m l. s m (subst (λ (y : ℕ). m < y) (sym k.steps) l)) in
          subst (Says {P = P} 13 nothing 13) (sym (nothing_here u x h g ∙ n)) (refl, refl);
    }

    -- the left side at the level that the climb goes on from
    beside : (below : ℕ) → Unmatched c ws d first → Rises L c ws d 1 inner level (Some below) → (t : Seated P) → Holds L c ws (root_in ws) t
        → Good L.rules.width (bare t) → LeftSide c ws d inner below t
    beside below u s t h g =
        let k = all t h g in
        let v = rise_at L c ws d inner (up_from d) 1 (pass_left d) k.way below k.places k.follows k.beside (subst (λ (y : ℕ). below < y) k.steps s.0) s.1
        (λ m x l. s.2 m x (subst (λ (y : ℕ). m < y) (sym k.steps) l)) in
        left_side c ws d inner below t v.step v.above v.took v.steps v.places v.follows v.beside (nothing_here u t h g ∙ v.sum)

    -- the next leaf
    pub climb_on : (below : ℕ) (p : Place) → Unmatched c ws d first → Rises L c ws d 1 inner level (Some below)
        → Leftmost L c ws (left_at L c ws (get_or inner below 0)) (Ok p)
        → AllClimbing c ws d inner below p.0
    climb_on below p u s m t h g =
        let v = beside below u s t h g in
        let l = m.leads v.side v.there v.good in
        let es = l.entry ∷ l.rest in
        let at : ◌≡◌ {A = Place} (record { 0 = l.entry.payload.place }) p = let f = l.ends in cc in
        record {
          way = v.above;
          address = l.address;
          entries = es;
          steps = v.steps;
          places = v.places;
          follows = v.follows;
          beside = v.beside;
          hangs = subst (λ (x : Place). Chain L c ws l.address (to_route x.0) es) at l.hangs;
          longest = bare_longest es (left_good L l.address es v.side l.is v.good).longest_first;
          sum = v.sum ∙ ap (climb L.rules.width d (bare_way v.above)) (leftmost_leaf d v.side ∙ ap (λ (x : Seated P). leftmost_match L.rules.width d (bare x)) l.is);
        }

    -- damage: of the chain, and of the left side
    pub climbs_broken : (i n : ℕ) {x : Damage} → Matching c ws d first i → n ≡ (held_prefix L ws i).length → HungRight L c ws i n (Err x)
        → Climbs L c ws d 9 nothing
    climbs_broken i n m e s = record {
      loose = inr (inl refl);
      exact = λ x h g. let k = all x h g in
          let b = m k.address k.entries k.hangs k.longest in
          absurd (s k.address b.rest b.hangs (behind_length L c ws (Matched d k.address) k.address i n k.entries b e));
    }

    pub climbs_lost : (below : ℕ) {x : Damage} → Unmatched c ws d first → Rises L c ws d 1 inner level (Some below) → Leftmost L c ws (left_at L c ws (get_or inner below 0)) (Err x)
        → Climbs L c ws d 9 nothing
    climbs_lost below u s m = record {
      loose = inr (inl refl);
      exact = λ t h g. let v = beside below u s t h g in
          let l = m.leads v.side v.there v.good in
          let f = l.ends in
          absurd cc;
    }

  -- ---- the whole pool

  module _ (c : ℕ) (ws : List ℕ) (d : ℕ) (inner : List ℕ) (deep : ℕ) (stop : End) (ways : Ways L c ws d inner deep stop) where
    pub looks_leaf : (p : Place) (n : ℕ) (v : Value P) → stop ≡ Ok (Some p) → Climbs L c ws d n v → Looks L c ws d n v
    looks_leaf p n v e s = record { loose = s.loose; exact = go }
      where
        go : (t : Root ℕ (Seat P)) → HoldsRoot L c ws (root_in ws) t → RootGood L.rules.width (bare_root t)
            → Says n v 13 (best L.rules.width d (root_routes (bare_root t)))
        go none h g = let f = ways.empty h in absurd cc
        go (some t) h g = s.exact t h g

    pub looks_empty : stop ≡ Ok None → Looks L c ws d 13 nothing
    looks_empty e = record { loose = inr (inr refl); exact = go }
      where
        go : (t : Root ℕ (Seat P)) → HoldsRoot L c ws (root_in ws) t → RootGood L.rules.width (bare_root t)
            → Says {P = P} 13 nothing 13 (best L.rules.width d (root_routes (bare_root t)))
        go none h g = (refl, refl)
        go (some t) h g = absurd (led_not_empty L c ws d inner deep stop t (ways.leads t h g) e)

    pub looks_damaged : {x : Damage} → stop ≡ Err x → Looks L c ws d 9 nothing
    looks_damaged e = record { loose = inr (inl refl); exact = go }
      where
        go : (t : Root ℕ (Seat P)) → HoldsRoot L c ws (root_in ws) t → RootGood L.rules.width (bare_root t)
            → Says {P = P} 9 nothing 13 (best L.rules.width d (root_routes (bare_root t)))
        go none h g = let f = ways.empty h in absurd cc
        go (some t) h g = absurd (led_not_damaged L c ws d inner deep stop t (ways.leads t h g) e)
