-- The routes of one leaf, one behind the other: what is known at a place of the chain, and what a step does to it.
use Prim.Native.Nat.{ℕ, ◌+◌, ◌<◌}
use mathlib.Core.Path.{◌≡◌, refl, sym, ap, subst, ◌∙◌}
use mathlib.Core.List.{List, [], ◌∷◌}
use native.Mathlib.Omega.{arith}
use Rattle.model.specs.Prefix.{Prefix}
use Rattle.patricia.specs.Tree.{Entry, route_of}
use Rattle.patricia.specs.Obeys.{Shorter, LongestFirst}
use Rattle.pool.specs.Layout.{Layout, prefix_at, held_prefix, held_payload, next_at}
use Rattle.pool.specs.Fit.{route_at}
use Rattle.pool.specs.Link.{to_route, to_inner}
use Rattle.pool.specs.Holds.{Seat, bare_entry, InPlace, Chain}

-- the prefix that was read where a place begins is the one that it holds
pub held_read : {P : Type 0} (L : Layout P) (ws : List ℕ) (i at : ℕ) (p : Prefix) → at ≡ L.seat i → p ≡ prefix_at L ws (at + L.prefix_offset)
    → p ≡ held_prefix L ws i
held_read L ws i at p e f = f ∙ ap (λ (n : ℕ). prefix_at L ws (n + L.prefix_offset)) e

module _ {P : Type 0} (L : Layout P) (c : ℕ) (ws : List ℕ) where
  -- ---- what a place of the chain holds

  pub prefix_there : (a i : ℕ) (e : Entry (Seat P)) → InPlace L c ws a e → e.payload.place ≡ i → held_prefix L ws i ≡ (route_of a (bare_entry e)).prefix
  prefix_there a i e p h =
      let x = ap (λ (n : ℕ). (held_prefix L ws n).address) (sym h) ∙ p.address_there in
      let y = ap (λ (n : ℕ). (held_prefix L ws n).length) (sym h) ∙ p.length_there in
      λ k. record { address = x k; length = y k }

  pub route_there : (a i : ℕ) (e : Entry (Seat P)) → InPlace L c ws a e → e.payload.place ≡ i → route_at L ws i ≡ route_of a (bare_entry e)
  route_there a i e p h =
      let x = prefix_there a i e p h in
      let y = ap (λ (n : ℕ). held_payload L ws n) (sym h) ∙ p.held_there in
      λ k. record { prefix = x k; payload = y k }

  -- ---- what a link of the chain leads to

  pub chain_inside : (a link n i : ℕ) (es : List (Entry (Seat P))) → Chain L c ws a link es → Shorter n es → link ≡ to_route i
      → (i < c) × ((held_prefix L ws i).length < n)
  chain_inside a link n i [] h s e = let u : link ≡ 0 = h in absurd (omega arith)
  chain_inside a link n i (x ∷ xs) h s e =
      let u : link ≡ to_route x.payload.place = h.0 in
      let same : x.payload.place ≡ i = omega arith in
      let len = ap (λ (p : Prefix). p.length) (prefix_there a i x h.1 same) in
      (subst (λ (k : ℕ). k < c) same h.1.in_pool, subst (λ (k : ℕ). k < n) (sym len) s.0)

  pub chain_not_inner : (a link j : ℕ) (es : List (Entry (Seat P))) → Chain L c ws a link es → link ≡ to_inner j → ⊥
  chain_not_inner a link j [] h e = let u : link ≡ 0 = h in omega arith
  chain_not_inner a link j (x ∷ xs) h e = let u : link ≡ to_route x.payload.place = h.0 in omega arith

  pub chain_end : (a link : ℕ) (es : List (Entry (Seat P))) → Chain L c ws a link es → link ≡ 0 → es ≡ []
  chain_end a link [] h e = refl
  chain_end a link (x ∷ xs) h e = let u : link ≡ to_route x.payload.place = h.0 in absurd (omega arith)

  -- ---- at a place of the chain

  -- Place i holds an entry of the leaf's routes es, and what Q says of an answer and the routes from there on, it says of the answer and them all.
  pub record Behind {A : Type 0} (Q : A → List (Entry (Seat P)) → Type 0) (a i : ℕ) (es : List (Entry (Seat P))) : Type 0 where
    pub entry : Entry (Seat P)
    pub rest : List (Entry (Seat P))
    pub here : entry.payload.place ≡ i
    pub there : InPlace L c ws a entry
    pub hangs : Chain L c ws a (next_at L ws i) rest
    pub shorter : Shorter entry.length rest
    pub longest : LongestFirst rest
    pub carries : (o : A) → Q o (entry ∷ rest) → Q o es

  module _ {A : Type 0} (Q : A → List (Entry (Seat P)) → Type 0) (a : ℕ) where
    pub behind_start : (link i : ℕ) (es : List (Entry (Seat P))) → link ≡ to_route i → Chain L c ws a link es → LongestFirst es → Behind Q a i es
    behind_start link i [] e h f = let u : link ≡ 0 = h in absurd (omega arith)
    behind_start link i (x ∷ xs) e h f =
        let u : link ≡ to_route x.payload.place = h.0 in
        let same : x.payload.place ≡ i = omega arith in
        record {
          entry = x;
          rest = xs;
          here = same;
          there = h.1;
          hangs = subst (λ (k : ℕ). Chain L c ws a (next_at L ws k) xs) same h.2;
          shorter = f.0;
          longest = f.1;
          carries = λ o q. q;
        }

    pub behind_next : (i j : ℕ) (es : List (Entry (Seat P))) (b : Behind Q a i es) → next_at L ws i ≡ to_route j → ((o : A) → Q o b.rest → Q o (b.entry ∷ b.rest))
        → Behind Q a j es
    behind_next i j es b e skip = let n = behind_start (next_at L ws i) j b.rest e b.hangs b.longest in record {
      entry = n.entry;
      rest = n.rest;
      here = n.here;
      there = n.there;
      hangs = n.hangs;
      shorter = n.shorter;
      longest = n.longest;
      carries = λ o q. b.carries o (skip o (n.carries o q));
    }

    pub behind_last : (i : ℕ) (es : List (Entry (Seat P))) (b : Behind Q a i es) → next_at L ws i ≡ 0 → ((o : A) → Q o b.rest → Q o (b.entry ∷ b.rest))
        → (o : A) → Q o []
        → Q o es
    behind_last i es b e skip o q = b.carries o (skip o (subst (Q o) (sym (chain_end a (next_at L ws i) b.rest b.hangs e)) q))

    -- the length that was read at a place is the entry's
    pub behind_length : (i n : ℕ) (es : List (Entry (Seat P))) (b : Behind Q a i es) → n ≡ (held_prefix L ws i).length → Shorter n b.rest
    behind_length i n es b e =
        subst (λ (k : ℕ). Shorter k b.rest) (sym (e ∙ ap (λ (p : Prefix). p.length) (prefix_there a i b.entry b.there b.here))) b.shorter
