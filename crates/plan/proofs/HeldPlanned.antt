-- Where a route hangs, from what the code has read.
use Prim.Native.Nat.{ℕ, ◌<◌}
use mathlib.Core.Path.{◌≡◌, refl, sym, ap, subst, ◌∙◌}
use mathlib.Core.List.{List, ◌∷◌, ◌++◌}
use mathlib.Core.Option.{some}
use native.Mathlib.Omega.{arith}
use Rattle.std.specs.Prelude.{Option, Some, None, Ok, Err}
use lib.ListN.{length}
use Rattle.model.specs.Prefix.{Prefix}
use Rattle.model.specs.Routes.{Route, find}
use Rattle.patricia.specs.Good.{Good}
use Rattle.patricia.specs.Tree.{Entry, leaf, routes}
use Rattle.patricia.specs.Obeys.{LongestFirst}
use Rattle.patricia.specs.Way.{plug}
use Rattle.pool.specs.Layout.{word, Layout, root_in}
use Rattle.pool.specs.Link.{to_route}
use Rattle.pool.specs.Holds.{Seat, Seated, bare, Chain, Holds}
use Rattle.pool.specs.declared.damage.Damage.{Damage}
use Rattle.pool.specs.declared.link.Place.{Place}
use Rattle.pool.specs.Fit.{Fit}
use Rattle.pool.proofs.Laid.{Laid}
use Rattle.search.specs.Down.{End, Ways}
use Rattle.search.proofs.Led.{led_not_empty, led_not_damaged, led_chain, led_longest}
use Rattle.plan.specs.Cells.{end_cell}
use Rattle.plan.specs.Steps.{CellRight, ChainCell}
use Rattle.plan.specs.Plan.{HungAt, HeldThere}
use Rattle.plan.specs.Planned.{Has, HungIn, HungThere, HungFrom, HeldRight}
use Rattle.plan.specs.declared.plan.Held.{Held}
use Rattle.plan.proofs.Chains.{chain_split}
use Rattle.plan.proofs.ChainAt.{cell_inside}
use Rattle.plan.proofs.Lengths.{longest_tail, has_behind, has_first}
use Rattle.plan.proofs.Leads.{lead_cell, lead_link, lead_found}

module _ {P : Type 0} (L : Layout P) (laid : Laid L) where
  -- ---- among the routes of an address

  module _ (c : ℕ) (ws : List ℕ) (from i n cell : ℕ) (x : ChainCell L c ws from i n cell) where
    -- the cell links to the route of this length
    hung_found : (a : ℕ) (es : List (Entry (Seat P))) → Chain L c ws a (to_route i) es → LongestFirst es → word ws from ≡ to_route i → Has n es
        → (j : ℕ) × HungIn L from n es cell j × (word ws cell ≡ to_route j) × (j < c)
    hung_found a es h s w k =
        let b = x.exact a es h s in
        let whole : Chain L c ws a (word ws from) (b.longer ++ b.others) =
        subst (λ (xs : List (Entry (Seat P))). Chain L c ws a (word ws from) xs) (sym b.whole) (subst (λ (y : ℕ). Chain L c ws a y es) (sym w) h) in
        let tail = (chain_split L c ws a from b.longer b.others whole).1 in
        let v = has_first n b.others b.others_are (longest_tail b.longer b.others (subst LongestFirst (sym b.whole) s))
        (has_behind n b.longer b.others b.longer_are (subst (Has n) (sym b.whole) k)) in
        let at : Chain L c ws a (word ws cell) (v.0 ∷ v.1) =
        subst (λ (xs : List (Entry (Seat P))). Chain L c ws a (word ws cell) xs) v.2 (subst (λ (y : ℕ). Chain L c ws a (word ws y) b.others) b.cell_is tail) in (
          v.0.payload.place,
          record {
            longer = b.longer;
            entry = v.0;
            shorter = v.1;
            whole = ap (λ (ys : List (Entry (Seat P))). b.longer ++ ys) (sym v.2) ∙ b.whole;
            cell_is = b.cell_is;
            longer_are = b.longer_are;
            length_is = v.3;
            place_is = refl;
          },
          (at).0,
          (at).1.in_pool,
        )

    pub hung_route : (j : Place) → Fit L c ws → from < length ws → word ws cell ≡ to_route j.0 → j.0 < c
        → HungFrom L c ws from i n (Some (record { cell = cell; place = j }))
    hung_route j f l e m = record {
      in_pool = (cell_inside L laid c ws from i n cell f l x, m);
      exact = λ a es h s w k. let v = hung_found a es h s w k in subst (HungIn L from n es cell) (omega (arith, v.2)) v.1;
    }

    -- what is no route of the pool is no link of a leaf
    pub hung_nowhere : ((j : ℕ) → word ws cell ≡ to_route j → j < c → ⊥) → HungFrom L c ws from i n None
    hung_nowhere f = record { in_pool = tt; exact = λ a es h s w k. let v = hung_found a es h s w k in f v.0 v.2 v.3 }

  -- ---- in the whole tree

  module _ (c : ℕ) (ws : List ℕ) (p : Prefix) (inner : List ℕ) (deep : ℕ) (stop : End) (ways : Ways L c ws p.address inner deep stop) where
    pub held_empty : stop ≡ Ok None → HeldRight L c ws p None
    held_empty e = record { in_pool = tt; exact = λ t q h g f. led_not_empty L c ws p.address inner deep stop t (ways.leads t h g) e }

    pub held_damaged : {d : Damage} → stop ≡ Err d → HeldRight L c ws p None
    held_damaged e = record { in_pool = tt; exact = λ t q h g f. led_not_damaged L c ws p.address inner deep stop t (ways.leads t h g) e }

    module _ (i : Place) (e : stop ≡ Ok (Some i)) (from : ℕ) (x : CellRight L c ws inner deep p.address from) where
      -- what is found of the leaf's routes
      pub leaf_hung : (r : Option Held) → HungFrom L c ws from i.0 p.length r → (t : Seated P) (q : Route P) (h : Holds L c ws (root_in ws) t) (g : Good L.rules.width (bare t))
          → find p (routes (bare t)) ≡ some q
          → HungThere L from p.length ((ways.leads t h g).entry ∷ (ways.leads t h g).rest) r
      leaf_hung r y t q h g f =
          let l = ways.leads t h g in
          y.exact l.address (l.entry ∷ l.rest) (led_chain L c ws p.address inner deep stop t l i e) (led_longest L c ws p.address inner deep stop t l g)
          (lead_link L laid c ws p inner deep stop t h g l i e from x)
          (lead_found L laid c ws p inner deep stop t h g l q f).1

      -- and of the whole tree
      unfoldable pub hung_whole : (t : Seated P) (q : Route P) (h : Holds L c ws (root_in ws) t) (g : Good L.rules.width (bare t)) (f : find p (routes (bare t)) ≡ some q) (cell j : ℕ)
          → (v : HungIn L from p.length ((ways.leads t h g).entry ∷ (ways.leads t h g).rest) cell j) → HungAt L c p t cell v.entry
      hung_whole t q h g f cell j v =
          let l = ways.leads t h g in
          let mine = (lead_found L laid c ws p inner deep stop t h g l q f).0 in
          record {
            way = l.way;
            longer = v.longer;
            shorter = v.shorter;
            whole = (λ k. plug l.way (leaf (mine k) (v.whole k))) ∙ l.whole;
            follows = l.follows;
            cell_is = ap (λ (k : ℕ). end_cell L k v.longer) (lead_cell L laid c ws p inner deep stop t h g l from x) ∙ v.cell_is;
            longer_are = v.longer_are;
            length_is = v.length_is;
          }

      pub held_leaf : (r : Option Held) → HungFrom L c ws from i.0 p.length r → HeldRight L c ws p r
      held_leaf r y = record { in_pool = y.in_pool; exact = λ t q h g f. there t q h g f r (leaf_hung r y t q h g f) }
        where
          there : (t : Seated P) (q : Route P) (h : Holds L c ws (root_in ws) t) (g : Good L.rules.width (bare t)) → find p (routes (bare t)) ≡ some q → (r : Option Held)
              → HungThere L from p.length ((ways.leads t h g).entry ∷ (ways.leads t h g).rest) r → HeldThere L c p t r
          there t q h g f (Some at) v = (v.entry, hung_whole t q h g f at.cell at.place.0 v, v.place_is)
          there t q h g f None v = v
