-- The first route of a leaf that passes a test, and the exact search in the whole tree.
use Prim.Native.Nat.{ℕ, suc, ◌<◌}
use mathlib.Core.Path.{◌≡◌, refl, sym, ap, subst, ◌∙◌}
use mathlib.Core.Bool.{Bool, true, false, cond}
use mathlib.Core.List.{List, [], ◌∷◌}
use mathlib.Core.Logic.{inl, inr}
use mathlib.Core.Option.{Option, none, some}
use Rattle.std.specs.Prelude.{Option as RustOption, Some, None, Ok, Err}
use Rattle.model.specs.Prefix.{Prefix, same, before}
use Rattle.model.specs.Routes.{Route, find, present, next_after}
use Rattle.model.specs.State.{State}
use Rattle.patricia.specs.Good.{Good, RootGood}
use Rattle.patricia.specs.Tree.{Entry, Tree, leaf, node, Root, hung, routes, root_routes}
use Rattle.patricia.specs.Obeys.{LongestFirst}
use Rattle.patricia.specs.Way.{Step, went_left, went_right, plug}
use Rattle.patricia.proofs.Form.{root_obeys_good}
use Rattle.patricia.proofs.Zip.{find_plug}
use Rattle.patricia.proofs.Find.{find_in, find_in_lem}
use Rattle.pool.specs.Layout.{Layout, root_in, held_prefix, next_at}
use Rattle.pool.specs.Link.{to_route}
use Rattle.pool.specs.Holds.{Seat, Seated, bare, bare_root, bare_entries, chain_places, route_places, Chain, HoldsRoot}
use Rattle.pool.specs.Means.{Among, routes_used, Means}
use Rattle.pool.specs.declared.link.Place.{Place}
use Rattle.pool.specs.declared.damage.Damage.{Damage}
use Rattle.pool.proofs.Frame.{among_append}
use Rattle.search.specs.Chain.{HungRight}
use Rattle.search.specs.Down.{End, Led, Ways}
use Rattle.search.specs.Find.{Spot, is_at, SpotInPool, Spotted, seek, SpotIn, Finds}
use Rattle.search.proofs.Bare.{bare_way, bare_follows}
use Rattle.search.proofs.Led.{led_not_empty, led_not_damaged, led_chain, led_bare, led_good, led_longest}
use Rattle.search.proofs.Chain.{Behind, route_there, prefix_there, behind_start, behind_next, behind_last, behind_length}

module _ {P : Type 0} (L : Layout P) where
  -- the two searches that are asked for
  pub seek_find : (p : Prefix) (l : List (Route P)) → find p l ≡ seek (same p) l
  seek_find p [] = refl
  seek_find p (x ∷ xs) = ap (λ (o : Option (Route P)). cond (same p x.prefix) (some x) o) (seek_find p xs)

  pub seek_next : (p : Prefix) (l : List (Route P)) → next_after p l ≡ seek (before p) l
  seek_next p [] = refl
  seek_next p (x ∷ xs) = ap (λ (o : Option (Route P)). cond (before p x.prefix) (some x) o) (seek_next p xs)

  -- more places
  spotted_more : (ws xs ys : List ℕ) (o : Spot) (x : Option (Route P)) → ((i : ℕ) → Among i xs → Among i ys) → Spotted L ws xs o x → Spotted L ws ys o x
  spotted_more ws xs ys (Ok (Some p)) none f s = s
  spotted_more ws xs ys (Ok (Some p)) (some r) f s = (f p.0 s.0, s.1)
  spotted_more ws xs ys (Ok None) none f s = s
  spotted_more ws xs ys (Ok None) (some r) f s = s
  spotted_more ws xs ys (Err e) x f s = s

  -- ---- along a leaf's routes

  -- what an answer promises of the routes of a leaf
  abbrev pub Sought : List ℕ → (Prefix → Bool) → ℕ → Spot → List (Entry (Seat P)) → Type 0
  Sought ws test a o es = Spotted L ws (chain_places es) o (seek test (hung a (bare_entries es)))

  -- partway along every leaf that hangs from the first place
  abbrev pub Along : ℕ → List ℕ → (Prefix → Bool) → ℕ → ℕ → Type 0
  Along c ws test first i = (a : ℕ) (es : List (Entry (Seat P))) → Chain L c ws a (to_route first) es → LongestFirst es → Behind L c ws (Sought ws test a) a i es

  -- at the place that hangs next, or past all
  abbrev pub AlongAt : ℕ → List ℕ → (Prefix → Bool) → ℕ → RustOption Place → Type 0
  AlongAt c ws test first (Some p) = Along c ws test first p.0
  AlongAt c ws test first None = SpotIn L c ws first test (Ok None)

  -- the length there bounds how many routes may still come
  abbrev pub still : List ℕ → RustOption Place → ℕ
  still ws (Some p) = suc (held_prefix L ws p.0).length
  still ws None = 0

  pub hung_in_pool : (c : ℕ) (ws : List ℕ) (i n : ℕ) (h : RustOption Place) → HungRight L c ws i n (Ok h) → SpotInPool c (Ok h)
  hung_in_pool c ws i n (Some p) h = h.0
  hung_in_pool c ws i n None h = tt

  module _ (c : ℕ) (ws : List ℕ) (test : Prefix → Bool) (first : ℕ) where
    pub along_start : Along c ws test first first
    along_start a es h f = behind_start L c ws (Sought ws test a) a (to_route first) first es refl h f

    -- a route that does not pass the test is passed by
    skip : (a i : ℕ) (es : List (Entry (Seat P))) (b : Behind L c ws (Sought ws test a) a i es) → test (held_prefix L ws i) ≡ false
        → (o : Spot) → Sought ws test a o b.rest → Sought ws test a o (b.entry ∷ b.rest)
    skip a i es b f o q =
        let t : test (record { address = a; length = b.entry.length }) ≡ false = ap test (sym (prefix_there L c ws a i b.entry b.there b.here)) ∙ f in
        rw t (spotted_more ws (chain_places b.rest) (chain_places (b.entry ∷ b.rest)) o (seek test (hung a (bare_entries b.rest))) (λ k h. inr h) q)

    pub along_next : (i j : ℕ) → Along c ws test first i → test (held_prefix L ws i) ≡ false → next_at L ws i ≡ to_route j → Along c ws test first j
    along_next i j all f e a es h g = let b = all a es h g in behind_next L c ws (Sought ws test a) a i j es b e (skip a i es b f)

    pub along_hit : (i : ℕ) → i < c → Along c ws test first i → test (held_prefix L ws i) ≡ true → SpotIn L c ws first test (Ok (Some (record { 0 = i })))
    along_hit i l all t = record {
      in_pool = l;
      exact = λ a es h g. let b = all a es h g in
          let u : test (record { address = a; length = b.entry.length }) ≡ true = ap test (sym (prefix_there L c ws a i b.entry b.there b.here)) ∙ t in
          b.carries (Ok (Some (record { 0 = i }))) (rw u (inl (sym b.here), route_there L c ws a i b.entry b.there b.here));
    }

    pub along_end : (i : ℕ) → Along c ws test first i → test (held_prefix L ws i) ≡ false → next_at L ws i ≡ 0 → SpotIn L c ws first test (Ok None)
    along_end i all f e = record {
      in_pool = tt;
      exact = λ a es h g. let b = all a es h g in behind_last L c ws (Sought ws test a) a i es b e (skip a i es b f) (Ok None) tt;
    }

    pub along_damaged : (i n : ℕ) {x : Damage} → Along c ws test first i → n ≡ (held_prefix L ws i).length → HungRight L c ws i n (Err x)
        → SpotIn L c ws first test (Err x)
    along_damaged i n all e d = record {
      in_pool = tt;
      exact = λ a es h g. let b = all a es h g in absurd (d a b.rest b.hangs (behind_length L c ws (Sought ws test a) a i n es b e));
    }

    -- past the place: at the next one, or behind the last
    pub along_on : (i n : ℕ) (h : RustOption Place) → Along c ws test first i → test (held_prefix L ws i) ≡ false → HungRight L c ws i n (Ok h)
        → AlongAt c ws test first h
    along_on i n (Some p) all f h = along_next i p.0 all f h.1
    along_on i n None all f h = along_end i all f h

  -- ---- in the whole tree

  -- the places of a part are the tree's
  pub places_plug : (i : ℕ) (w : List (Step ℕ (Seat P))) (t : Seated P) → Among i (route_places t) → Among i (route_places (plug w t))
  places_plug i [] t h = h
  places_plug i (went_left n b r ∷ w) t h = places_plug i w (node n b t r) (among_append i (route_places t) (route_places r) (inl h))
  places_plug i (went_right n b l ∷ w) t h = places_plug i w (node n b l t) (among_append i (route_places l) (route_places t) (inr h))

  module _ (c : ℕ) (ws : List ℕ) (p : Prefix) (inner : List ℕ) (deep : ℕ) (stop : End) (ways : Ways L c ws p.address inner deep stop) where
    -- the prefix is in the leaf that the way leads to, or nowhere
    find_led : (t : Seated P) (g : Good L.rules.width (bare t)) (l : Led L c ws p.address inner deep stop t)
        → find p (routes (bare t)) ≡ seek (same p) (hung l.address (bare_entries (l.entry ∷ l.rest)))
    find_led t g l =
        let w = bare_way l.way in
        let part : Tree ℕ P = leaf l.address (bare_entries (l.entry ∷ l.rest)) in
        let e = led_bare L c ws p.address inner deep stop t l in
        sym (find_in_lem L.rules.width p (bare t) g) ∙ ap (find_in L.rules.width p) e ∙ find_plug L.rules.width p w part (bare_follows L.rules.width p.address l.way l.follows)
        ∙ find_in_lem L.rules.width p part (led_good L c ws p.address inner deep stop t l g) ∙ seek_find p (routes part)

    pub finds_empty : stop ≡ Ok None → Finds L c ws p (Ok None)
    finds_empty e = record { in_pool = tt; empty = λ z. refl; exact = λ t h g. absurd (led_not_empty L c ws p.address inner deep stop t (ways.leads t h g) e) }

    -- where there is no root the end is the empty one
    rooted : (x : End) → stop ≡ x → (◌≡◌ {A = End} (Ok None) x → ⊥) → root_in ws ≡ 0 → ⊥
    rooted x e f z = f (sym (ways.empty z) ∙ e)

    pub finds_damaged : {x : Damage} → stop ≡ Err x → Finds L c ws p (Err x)
    finds_damaged e = record {
      in_pool = tt;
      empty = λ z. absurd (rooted _ e (λ f. cc) z);
      exact = λ t h g. absurd (led_not_damaged L c ws p.address inner deep stop t (ways.leads t h g) e);
    }

    pub finds_leaf : (i : Place) (o : Spot) → stop ≡ Ok (Some i) → SpotIn L c ws i.0 (same p) o → Finds L c ws p o
    finds_leaf i o e s = record {
      in_pool = s.in_pool;
      empty = λ z. absurd (rooted (Ok (Some i)) e (λ f. cc) z);
      exact = λ t h g. exact t g (ways.leads t h g);
    }
      where
        exact : (t : Seated P) (g : Good L.rules.width (bare t)) (l : Led L c ws p.address inner deep stop t)
            → Spotted L ws (route_places t) o (find p (routes (bare t)))
        exact t g l =
            let es = l.entry ∷ l.rest in
            let here = s.exact l.address es (led_chain L c ws p.address inner deep stop t l i e) (led_longest L c ws p.address inner deep stop t l g) in
            subst (Spotted L ws (route_places t) o) (sym (find_led t g l))
            (spotted_more ws (chain_places es) (route_places t) o (seek (same p) (hung l.address (bare_entries es)))
            (λ k u. subst (λ (x : Seated P). Among k (route_places x)) l.whole (places_plug k l.way (leaf l.address es) u)) here)

  -- ---- what was found of a prefix, in the routes that the words mean

  pub root_spotted : (c : ℕ) (ws : List ℕ) (p : Prefix) (x : Spot) → Finds L c ws p x → (t : Root ℕ (Seat P)) → HoldsRoot L c ws (root_in ws) t
      → RootGood L.rules.width (bare_root t)
      → Spotted L ws (routes_used t) x (find p (root_routes (bare_root t)))
  root_spotted c ws p x f none h g = subst (λ (y : Spot). Spotted L ws [] y none) (sym (f.empty h)) tt
  root_spotted c ws p x f (some t) h g = f.exact t h g

  pub means_spotted : (c : ℕ) (ws : List ℕ) (p : Prefix) (x : Spot) → Finds L c ws p x → (s : State P) (m : Means L ws s) → s.capacity ≡ c
      → Spotted L ws (routes_used m.tree) x (find p s.routes)
  means_spotted c ws p x f s m e =
      subst (λ (l : List (Route P)). Spotted L ws (routes_used m.tree) x (find p l)) m.routes_there
      (root_spotted c ws p x f m.tree (subst (λ (n : ℕ). HoldsRoot L n ws (root_in ws) m.tree) e m.holds) (root_obeys_good L.rules.width (bare_root m.tree) m.obeys))

  -- a place was found just where the prefix is held
  pub spotted_present : (ws places : List ℕ) (x : Spot) (o : Option (Route P)) → Spotted L ws places x o → is_at x ≡ present o
  spotted_present ws places (Ok (Some p)) none s = absurd s
  spotted_present ws places (Ok (Some p)) (some r) s = refl
  spotted_present ws places (Ok None) none s = refl
  spotted_present ws places (Ok None) (some r) s = absurd s
  spotted_present ws places (Err e) o s = absurd s
