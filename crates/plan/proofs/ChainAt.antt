-- Along the routes of one address: what is known at a cell, and what a step does to it.
use Prim.Native.Nat.{ℕ, ◌+◌, ◌≤◌, ◌<◌}
use mathlib.Core.Path.{◌≡◌, refl, sym, ap, subst, ◌∙◌}
use mathlib.Core.List.{List, [], ◌∷◌, ◌++◌, append_assoc}
use mathlib.Core.Logic.{◌⊎◌, inr, ⊎_elim}
use native.Mathlib.Omega.{arith}
use Rattle.std.specs.Prelude.{Option, Some, None, Result, Ok, Err}
use lib.ListN.{length}
use Rattle.patricia.specs.Tree.{Entry}
use Rattle.patricia.specs.Obeys.{Shorter, LongestFirst}
use Rattle.pool.specs.Layout.{Layout, held_prefix, next_at}
use Rattle.pool.specs.Link.{to_route}
use Rattle.pool.specs.Holds.{Seat, InPlace, Chain}
use Rattle.pool.specs.declared.damage.Damage.{Damage}
use Rattle.pool.specs.declared.link.Place.{Place}
use Rattle.pool.specs.Fit.{Fit}
use Rattle.pool.proofs.Laid.{Laid, seat_in}
use Rattle.search.specs.Chain.{HungRight}
use Rattle.search.proofs.Chain.{chain_end}
use Rattle.plan.specs.Cells.{end_cell, Longer}
use Rattle.plan.specs.Steps.{NotLonger, ChainCell}

module _ {P : Type 0} (L : Layout P) where
  end_more : (from : ℕ) (xs : List (Entry (Seat P))) (x : Entry (Seat P)) → end_cell L from (xs ++ (x ∷ [])) ≡ L.seat x.payload.place + L.next_offset
  end_more from [] x = refl
  end_more from (y ∷ ys) x = end_more (L.seat y.payload.place + L.next_offset) ys x

  longer_more : (n : ℕ) (xs : List (Entry (Seat P))) (x : Entry (Seat P)) → Longer n xs → n < x.length → Longer n (xs ++ (x ∷ []))
  longer_more n [] x h l = (l, tt)
  longer_more n (y ∷ ys) x h l = (h.0, longer_more n ys x h.1 l)

  module _ (c : ℕ) (ws : List ℕ) (from n : ℕ) where
    -- from the link on hang the routes that are left
    pub record AtCell (a : ℕ) (es : List (Entry (Seat P))) (cell link : ℕ) : Type 0 where
      pub longer : List (Entry (Seat P))
      pub rest : List (Entry (Seat P))
      pub whole : longer ++ rest ≡ es
      pub cell_is : end_cell L from longer ≡ cell
      pub longer_are : Longer n longer
      pub hangs : Chain L c ws a link rest
      pub sorted : LongestFirst rest

    -- the same of whatever hangs from the first place
    abbrev pub AllAt : ℕ → ℕ → ℕ → Type 0
    AllAt first cell link = (a : ℕ) (es : List (Entry (Seat P))) → Chain L c ws a (to_route first) es → LongestFirst es → AtCell a es cell link

    abbrev pub CellFrom : ℕ → Type 0
    CellFrom cell = (cell ≡ from) ⊎ ((p : ℕ) × (p < c) × (cell ≡ L.seat p + L.next_offset))

    pub chain_start : (first : ℕ) → AllAt first from (to_route first)
    chain_start first a es h s = record { longer = []; rest = es; whole = refl; cell_is = refl; longer_are = tt; hangs = h; sorted = s }

    -- the length that was read at a place of the chain
    length_read : (a i : ℕ) (x : Entry (Seat P)) → InPlace L c ws a x → x.payload.place ≡ i → (held_prefix L ws i).length ≡ x.length
    length_read a i x p e = ap (λ (k : ℕ). (held_prefix L ws k).length) (sym e) ∙ p.length_there

    module _ (first i cell : ℕ) (all : AllAt first cell (to_route i)) where
      -- the first route that is not longer
      pub chain_here : CellFrom cell → (held_prefix L ws i).length ≤ n → ChainCell L c ws from first n cell
      chain_here f l = record {
        in_pool = f;
        exact = λ a es h s. let b = all a es h s in record {
          longer = b.longer;
          others = b.rest;
          whole = b.whole;
          cell_is = b.cell_is;
          longer_are = b.longer_are;
          others_are = first_not b.rest a b.hangs;
        };
      }
        where
          first_not : (es : List (Entry (Seat P))) (a : ℕ) → Chain L c ws a (to_route i) es → NotLonger n es
          first_not [] a h = tt
          first_not (x ∷ xs) a h = let same : x.payload.place ≡ i = omega (arith, h.0) in omega (arith, length_read a i x h.1 same)

      -- a longer route is passed by
      pub chain_pass : (below : ℕ) → below ≡ L.seat i + L.next_offset → n < (held_prefix L ws i).length
          → (a : ℕ) (es : List (Entry (Seat P))) → Chain L c ws a (to_route first) es → LongestFirst es
          → (b : AtCell a es below (next_at L ws i)) × Shorter (held_prefix L ws i).length b.rest
      chain_pass below e l a es h s = go b.rest b.whole b.hangs b.sorted
        where
          b : AtCell a es cell (to_route i)
          b = all a es h s

          go : (rest : List (Entry (Seat P))) → b.longer ++ rest ≡ es → Chain L c ws a (to_route i) rest → LongestFirst rest
              → (b : AtCell a es below (next_at L ws i)) × Shorter (held_prefix L ws i).length b.rest
          go [] w k q = absurd (omega (arith, k))
          go (x ∷ xs) w k q =
              let same : x.payload.place ≡ i = omega (arith, k.0) in
              let len = length_read a i x k.1 same in (
                record {
                  longer = b.longer ++ (x ∷ []);
                  rest = xs;
                  whole = append_assoc b.longer (x ∷ []) xs ∙ w;
                  cell_is = end_more from b.longer x ∙ ap (λ (y : ℕ). L.seat y + L.next_offset) same ∙ sym e;
                  longer_are = longer_more n b.longer x b.longer_are (omega (arith, len));
                  hangs = subst (λ (y : ℕ). Chain L c ws a (next_at L ws y) xs) same k.2;
                  sorted = q.1;
                },
                subst (λ (y : ℕ). Shorter y xs) (sym len) q.0,
              )

      module _ (below : ℕ) (e : below ≡ L.seat i + L.next_offset) (l : n < (held_prefix L ws i).length) where
        pub chain_next : (j : ℕ) → next_at L ws i ≡ to_route j → AllAt first below (to_route j)
        chain_next j f a es h s = subst (AtCell a es below) f (chain_pass below e l a es h s).0

        pub chain_last : i < c → next_at L ws i ≡ 0 → ChainCell L c ws from first n below
        chain_last m f = record {
          in_pool = inr (i, m, e);
          exact = λ a es h s. let b = (chain_pass below e l a es h s).0 in
              let z = chain_end L c ws a (next_at L ws i) b.rest b.hangs f in record {
                longer = b.longer;
                others = [];
                whole = ap (λ (ys : List (Entry (Seat P))). b.longer ++ ys) (sym z) ∙ b.whole;
                cell_is = b.cell_is;
                longer_are = b.longer_are;
                others_are = tt;
              };
        }

        pub chain_damaged : (d : Damage) → i < c → HungRight L c ws i (held_prefix L ws i).length (Err d) → ChainCell L c ws from first n below
        chain_damaged d m h = record {
          in_pool = inr (i, m, e);
          exact = λ a es g s. let v = chain_pass below e l a es g s in absurd (h a v.0.rest v.0.hangs v.1);
        }

        -- a longer route behind which no other was read
        pub chain_left : i < c → (m : ℕ) → m ≡ (held_prefix L ws i).length → (r : Result (Option Place) Damage) → HungRight L c ws i m r
            → ((j : Place) → r ≡ Ok (Some j) → ⊥) → ChainCell L c ws from first n below
        chain_left u m f (Ok (Some p)) h o = absurd (o p refl)
        chain_left u m f (Ok None) h o = chain_last u h
        chain_left u m f (Err d) h o = chain_damaged d u (λ a es g k. h a es g (subst (λ (x : ℕ). Shorter x es) (sym f) k))

module _ {P : Type 0} (L : Layout P) (laid : Laid L) where
  -- the cell is in the pool
  pub cell_inside : (c : ℕ) (ws : List ℕ) (from i n cell : ℕ) → Fit L c ws → from < length ws → ChainCell L c ws from i n cell → cell < length ws
  cell_inside c ws from i n cell f l x = ⊎_elim (λ e. omega (arith, e)) (λ w. omega (arith, seat_in laid c w.0 w.1, laid.next_fits, w.2, f.1)) x.in_pool
