-- The routes of one address: what one step along the chain says of the whole.
use Prim.Native.Nat.{ℕ, suc, ◌+◌, ◌≤◌, ◌<◌}
use mathlib.Core.Path.{◌≡◌, refl, sym, ap, subst, ◌∙◌}
use mathlib.Core.Bool.{true, false, false≢true}
use mathlib.Core.List.{List, [], ◌∷◌}
use mathlib.Core.Logic.{◌↔◌}
use native.Mathlib.Omega.{arith}
use lib.ListN.{length}
use Rattle.model.specs.Prefix.{Prefix}
use Rattle.model.specs.Lawful.{Obeys, AllObey}
use Rattle.model.proofs.Match.{formed}
use Rattle.patricia.specs.Tree.{Entry, route_of, hung}
use Rattle.patricia.specs.Obeys.{Shorter, LongestFirst, AllWellFormed}
use Rattle.pool.specs.Layout.{Layout, held_prefix, held_payload, next_at}
use Rattle.pool.specs.Link.{to_route}
use Rattle.pool.specs.Holds.{Seat, bare_entries, InPlace, Chain}
use Rattle.shape.specs.Chain.{address_at, length_at, HungFine, LeafFine}

-- a test that failed, of what does not hold
pub refused : {X : Type 0} → (X → ⊥) → (false ≡ true) ↔ X
refused f = (λ e. absurd (false≢true e), λ x. absurd (f x))

module _ {P : Type 0} (L : Layout P) where
  -- what a loop over the chain goes by: the routes from a link on, all shorter than the bound
  pub record Hangs (c : ℕ) (ws : List ℕ) (a link bound : ℕ) (es : List (Entry (Seat P))) : Type 0 where
    pub chain : Chain L c ws a link es
    pub shorter : Shorter bound (bare_entries es)
    pub falls : LongestFirst (bare_entries es)
    pub obey : AllObey L.rules (hung a (bare_entries es))

  shorter_more : (m n : ℕ) (es : List (Entry P)) → m ≤ n → Shorter m es → Shorter n es
  shorter_more m n [] h s = tt
  shorter_more m n (e ∷ es) h s = (omega arith, shorter_more m n es h s.1)

  module _ (c : ℕ) (ws : List ℕ) (a : ℕ) where
    seated : ℕ → Entry (Seat P)
    seated i = record { length = length_at L ws i; payload = record { place = i; held = held_payload L ws i } }

    -- one more in front
    pub hang : (link bound i next shorter : ℕ) (es : List (Entry (Seat P))) → HungFine L c ws link a bound i → next ≡ next_at L ws i → shorter ≡ length_at L ws i
        → Hangs c ws a next shorter es → (fs : List (Entry (Seat P))) × Hangs c ws a link bound fs × (length fs ≡ suc (length es))
    unfolding seated
    hang link bound i next shorter es f p q h =
        let falls : Shorter (length_at L ws i) (bare_entries es) = subst (λ (n : ℕ). Shorter n (bare_entries es)) q h.shorter in
        let here : Obeys L.rules (record { address = a; length = length_at L ws i }) (held_payload L ws i) =
        subst (λ (x : ℕ). Obeys L.rules (record { address = x; length = length_at L ws i }) (held_payload L ws i)) f.address f.fine.obeys in (
          seated i ∷ es,
          record {
            chain = (
              f.linked,
              record { in_pool = f.fine.in_pool; used = f.fine.used; known = f.fine.known; held_there = refl; address_there = f.address; length_there = refl },
              subst (λ (n : ℕ). Chain L c ws a n es) p h.chain,
            );
            shorter = (f.shorter, shorter_more (length_at L ws i) bound (bare_entries es) (omega (arith, f.shorter)) falls);
            falls = (falls, h.falls);
            obey = (here, h.obey);
          },
          refl,
        )

    -- the first that hangs is fine, and the rest hangs from it
    pub first_fine : (link bound : ℕ) (e : Entry (Seat P)) (es : List (Entry (Seat P))) → Hangs c ws a link bound (e ∷ es) → HungFine L c ws link a bound e.payload.place
    first_fine link bound e es h =
        let k : InPlace L c ws a e = h.chain.1 in
        let i = e.payload.place in
        let p : held_prefix L ws i ≡ record { address = a; length = e.length } = λ x. record { address = k.address_there x; length = k.length_there x } in
        record {
          linked = h.chain.0;
          fine = record {
            in_pool = k.in_pool;
            used = k.used;
            known = k.known;
            obeys = subst (λ (x : P). Obeys L.rules (held_prefix L ws i) x) (sym k.held_there) (subst (λ (x : Prefix). Obeys L.rules x e.payload.held) (sym p) h.obey.0);
          };
          address = k.address_there;
          shorter = omega (arith, k.length_there, h.shorter.0);
        }

    pub rest : (link bound i next shorter : ℕ) (e : Entry (Seat P)) (es : List (Entry (Seat P))) → HungFine L c ws link a bound i → next ≡ next_at L ws i → shorter ≡ length_at L ws i
        → Hangs c ws a link bound (e ∷ es) → Hangs c ws a next shorter es
    rest link bound i next shorter e es f p q h =
        let u : link ≡ to_route e.payload.place = h.chain.0 in
        let v : link ≡ to_route i = f.linked in
        let same : e.payload.place ≡ i = omega arith in
        let n : e.length ≡ shorter = sym h.chain.1.length_there ∙ ap (length_at L ws) same ∙ sym q in
        record {
          chain = subst (λ (x : ℕ). Chain L c ws a x es) (ap (next_at L ws) same ∙ sym p) h.chain.2;
          shorter = subst (λ (x : ℕ). Shorter x (bare_entries es)) n h.falls.0;
          falls = h.falls.1;
          obey = h.obey.1;
        }

    -- ---- a leaf's routes, and those that hang below the width + 1

    all_short : (es : List (Entry P)) → AllWellFormed L.rules.width a es → Shorter (suc L.rules.width) es
    all_short [] f = tt
    all_short (e ∷ es) f = (omega (arith, (formed L.rules.width (route_of a e).prefix f.0).short), all_short es f.1)

    all_formed : (es : List (Entry P)) → AllObey L.rules (hung a es) → AllWellFormed L.rules.width a es
    all_formed [] f = tt
    all_formed (e ∷ es) f = (f.0.0, all_formed es f.1)

    pub leaf_hangs : (link : ℕ) (es : List (Entry (Seat P))) → LeafFine L c ws link a es → Hangs c ws a link (suc L.rules.width) es
    leaf_hangs link es f =
        record { chain = f.chain; shorter = all_short (bare_entries es) f.form.well_formed_here; falls = f.form.longest_first; obey = f.obey }

    hangs_some : (i bound : ℕ) (es : List (Entry (Seat P))) → Hangs c ws a (to_route i) bound es → 0 < length (bare_entries es)
    hangs_some i bound [] h = absurd (omega (arith, h.chain))
    hangs_some i bound (e ∷ es) h = omega arith

    pub hangs_leaf : (i bound : ℕ) (es : List (Entry (Seat P))) → Hangs c ws a (to_route i) bound es → LeafFine L c ws (to_route i) a es
    hangs_leaf i bound es h = record {
      chain = h.chain;
      form = record { has_route = hangs_some i bound es h; well_formed_here = all_formed (bare_entries es) h.obey; longest_first = h.falls };
      obey = h.obey;
    }

    -- ---- the loop along the chain

    -- so many routes are passed, and what hangs from here on is what is left
    pub record Along (start link bound passed : ℕ) : Type 0 where
      pub forth : (es : List (Entry (Seat P))) → Hangs c ws a link bound es → (fs : List (Entry (Seat P))) × Hangs c ws a start (suc L.rules.width) fs × (length fs ≡ passed + length es)
      pub back : (fs : List (Entry (Seat P))) → Hangs c ws a start (suc L.rules.width) fs → (es : List (Entry (Seat P))) × Hangs c ws a link bound es
      pub few : passed + bound ≤ suc L.rules.width

    pub along_start : (start : ℕ) → Along start start (suc L.rules.width) 0
    along_start start = record { forth = λ es h. (es, h, omega arith); back = λ fs h. (fs, h); few = omega arith }

    pub along_step : (start link bound passed next shorter : ℕ) → (link ≡ 0 → ⊥) → Along start link bound passed
        → ((i : ℕ) × HungFine L c ws link a bound i × (next ≡ next_at L ws i) × (shorter ≡ length_at L ws i)) → Along start next shorter (passed + 1)
    along_step start link bound passed next shorter n w (i, f, p, q) = record {
      forth = λ es h.
          let (fs, k, e) = hang link bound i next shorter es f p q h in
          let (gs, m, d) = w.forth fs k in
          (gs, m, omega (arith, e, d));
      back = λ fs h. let (es, k) = w.back fs h in onward es k;
      few = omega (arith, w.few, f.shorter);
    }
      where
        onward : (es : List (Entry (Seat P))) → Hangs c ws a link bound es → (fs : List (Entry (Seat P))) × Hangs c ws a next shorter fs
        onward [] h = absurd (n h.chain)
        onward (e ∷ es) h = (es, rest link bound i next shorter e es f p q h)

    pub along_stop : (start link bound passed : ℕ) → (link ≡ 0 → ⊥) → Along start link bound passed → ((i : ℕ) → HungFine L c ws link a bound i → ⊥)
        → (fs : List (Entry (Seat P))) → Hangs c ws a start (suc L.rules.width) fs → ⊥
    along_stop start link bound passed n w f fs h = let (es, k) = w.back fs h in go es k
      where
        go : (es : List (Entry (Seat P))) → Hangs c ws a link bound es → ⊥
        go [] k = n k.chain
        go (e ∷ es) k = f e.payload.place (first_fine link bound e es k)

    pub along_end : (start link bound passed : ℕ) → link ≡ 0 → Along start link bound passed
        → (fs : List (Entry (Seat P))) × Hangs c ws a start (suc L.rules.width) fs × (passed ≡ length fs)
    along_end start link bound passed e w =
        let (fs, h, d) = w.forth [] (record { chain = e; shorter = tt; falls = tt; obey = tt }) in
        (fs, h, omega (arith, d))

  -- a leaf's address is that of its first place
  pub leaf_address : (c : ℕ) (ws : List ℕ) (a i : ℕ) (es : List (Entry (Seat P))) → LeafFine L c ws (to_route i) a es → (i < c) × (address_at L ws i ≡ a)
  leaf_address c ws a i [] f = absurd (omega (arith, f.chain))
  leaf_address c ws a i (e ∷ es) f =
      let u : to_route i ≡ to_route e.payload.place = f.chain.0 in
      let same : e.payload.place ≡ i = omega arith in
      (subst (λ (x : ℕ). x < c) same f.chain.1.in_pool, ap (address_at L ws) (sym same) ∙ f.chain.1.address_there)

  -- ---- what the loop says of the leaf at place i, whose address is a

  module _ (c : ℕ) (ws : List ℕ) (i a start link bound passed : ℕ) (s : start ≡ to_route i) (w : Along c ws a start link bound passed) where
    pub chain_bad : a ≡ address_at L ws i → (link ≡ 0 → ⊥) → ((k : ℕ) → HungFine L c ws link a bound k → ⊥)
        → (b : ℕ) (es : List (Entry (Seat P))) → LeafFine L c ws (to_route i) b es → ⊥
    chain_bad p n f b es h =
        let same : b ≡ a = sym (leaf_address c ws b i es h).1 ∙ sym p in
        let k = leaf_hangs c ws a (to_route i) es (subst (λ (x : ℕ). LeafFine L c ws (to_route i) x es) same h) in
        along_stop c ws a start link bound passed n w f es (subst (λ (x : ℕ). Hangs c ws a x (suc L.rules.width) es) (sym s) k)

    pub chain_fine : link ≡ 0 → (es : List (Entry (Seat P))) × LeafFine L c ws (to_route i) a es × (passed ≡ length es)
    chain_fine e =
        let (fs, h, d) = along_end c ws a start link bound passed e w in
        (fs, hangs_leaf c ws a i (suc L.rules.width) fs (subst (λ (x : ℕ). Hangs c ws a x (suc L.rules.width) fs) s h), d)
