-- Writes that touch one route place, one cell and the count, and nothing else: what they spare.
use Prim.Native.Nat.{ℕ, ◌+◌, ◌<◌}
use mathlib.Core.Path.{◌≡◌, sym, subst, ◌∙◌}
use mathlib.Core.List.{List, ◌++◌}
use mathlib.Core.Logic.{inl, inr}
use native.Mathlib.Omega.{arith}
use Rattle.patricia.specs.Tree.{Entry, leaf}
use Rattle.patricia.specs.Way.{Step, plug}
use Rattle.pool.specs.Layout.{word, Layout}
use Rattle.pool.specs.Holds.{Seat, Holds, chain_places, route_places}
use Rattle.pool.specs.Means.{Among}
use Rattle.pool.proofs.Frame.{among_append, routes_in_pool}
use Rattle.plan.specs.Cells.{cell_of, end_cell}
use Rattle.pool.specs.Write.{Write, writes}
use Rattle.rows.specs.Writes.{}
use Rattle.plan.proofs.Way.{plug_way, plug_routes, InnerBut}
use Rattle.plan.proofs.Chains.{RouteBut, places_append}
use Rattle.edit.proofs.Rehang.{Rehung}
use Rattle.pool.proofs.Writes.{Off, word_off}
use Rattle.pool.proofs.Laid.{Laid}
use Rattle.edit.proofs.Spared.{Clear, way_cell, chain_cell, cell_clear, OffSeat, seats_apart_lem, route_spared, inner_spared, aside}
use Rattle.edit.proofs.Encodes.{Aside}

module _ {P : Type 0} (L : Layout P) (laid : Laid L) where
  -- the cell after the first routes of a leaf that stands in the words
  pub leaf_cell : (c : ℕ) (ws : List ℕ) (w : List (Step ℕ (Seat P))) (a : ℕ) (xs ys : List (Entry (Seat P))) → Holds L c ws (word ws 2) (plug w (leaf a (xs ++ ys)))
      → Clear L laid c (end_cell L (cell_of L c w) xs)
  leaf_cell c ws w a xs ys h =
      cell_clear L laid c (end_cell L (cell_of L c w) xs)
      (chain_cell L laid c (cell_of L c w) xs (way_cell L laid c ws w (plug_way L c ws w (leaf a (xs ++ ys)) h).0)
      (λ p k.
      routes_in_pool L c ws ws (word ws 2) (plug w (leaf a (xs ++ ys))) h p
      (plug_routes w (leaf a (xs ++ ys)) p (inl (subst (Among p) (sym (places_append xs ys)) (among_append p (chain_places xs) (chain_places ys) (inl k)))))))

  module _ (c : ℕ) (ws : List ℕ) (i cell : ℕ) (xs : List Write) (l : i < c) (clear : Clear L laid c cell)
      (off : (x : ℕ) → OffSeat L laid x i → (x ≡ cell → ⊥) → (x ≡ 1 → ⊥) → Off x xs) where
    pub route_touch : (p : ℕ) → p < c → (p ≡ i → ⊥) → RouteBut L ws (writes xs ws) cell p
    route_touch p m n =
        route_spared L laid ws xs cell p
        (λ x a b. off x (seats_apart_lem L laid p i x n a (omega (arith, laid.next_fits))) (clear.route p x m a (omega (arith, laid.next_fits)) (omega arith)) (omega (arith, laid.seat_past p)))
        (λ k. off (L.seat p + L.next_offset) (seats_apart_lem L laid p i (L.seat p + L.next_offset) n (omega arith) (omega (arith, laid.next_fits))) k (omega (arith, laid.seat_past p)))

    pub inner_touch : (q : ℕ) → q < c → InnerBut L c ws (writes xs ws) cell q
    inner_touch q m =
        inner_spared L laid ws xs c cell q (off (L.joint c q) (inr (laid.joint_past c i q l)) (clear.mark q m) (omega (arith, laid.joint_first c q)))
        (λ k. off (L.joint c q + 1) (inr (omega (arith, laid.joint_past c i q l))) k (omega (arith, laid.joint_first c q)))
        (λ k. off (L.joint c q + 2) (inr (omega (arith, laid.joint_past c i q l))) k (omega (arith, laid.joint_first c q)))

    pub root_touch : (2 ≡ cell → ⊥) → word ws 2 ≡ word (writes xs ws) 2
    root_touch k = word_off 2 xs ws (off 2 (inl (omega (arith, laid.seat_past i))) k (omega arith))

    pub aside_touch : Aside L c ws (writes xs ws)
    aside_touch =
        aside L laid ws xs c (off 0 (inl (omega (arith, laid.seat_past i))) (λ f. clear.head.0 (sym f)) (omega arith))
        (off 3 (inl (omega (arith, laid.seat_past i))) (λ f. clear.head.2 (sym f)) (omega arith))
        (off 4 (inl (omega (arith, laid.seat_past i))) (λ f. clear.head.3 (sym f)) (omega arith))
        (λ x k. off x (inr (omega (arith, laid.joint_past c i i l, laid.slot_past c i 0 l))) (λ f. omega (arith, clear.below)) (omega (arith, laid.slot_first c 0)))

    pub rehung_touch : (w : List (Step ℕ (Seat P))) (a : ℕ) (ys gone rest : List (Entry (Seat P))) → end_cell L (cell_of L c w) ys ≡ cell
        → ((p : ℕ) → Among p (route_places (plug w (leaf a (ys ++ (gone ++ rest))))) → (Among p (chain_places gone) → ⊥) → p ≡ i → ⊥)
        → Rehung L laid c ws (writes xs ws) w a ys gone rest
    rehung_touch w a ys gone rest e n = record {
      routes = λ p m k g. subst (λ (x : ℕ). RouteBut L ws (writes xs ws) x p) (sym e) (route_touch p m (n p k g));
      inners = λ q m. subst (λ (x : ℕ). InnerBut L c ws (writes xs ws) x q) (sym e) (inner_touch q m);
      root = λ k. root_touch (λ f. k (f ∙ sym e));
    }
