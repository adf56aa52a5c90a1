-- The leaf at the end of a way, in a pool that holds a tree: its cell, its address and its routes.
use Prim.Native.Nat.{ℕ}
use mathlib.Core.Path.{◌≡◌, sym, ap, subst, ◌∙◌}
use mathlib.Core.List.{List, ◌∷◌}
use mathlib.Core.Option.{some}
use native.Mathlib.Omega.{arith}
use Rattle.std.specs.Prelude.{Option, Some, Ok, Err}
use Rattle.std.specs.Result.{result_ok}
use Rattle.model.specs.Prefix.{Prefix}
use Rattle.model.specs.Routes.{Route, InOrder, find}
use Rattle.patricia.specs.Way.{reached}
use Rattle.patricia.specs.Good.{Good}
use Rattle.patricia.specs.Tree.{Tree, leaf, hung, routes}
use Rattle.patricia.proofs.Form.{routes_in_order}
use Rattle.patricia.proofs.Find.{find_in, find_in_lem}
use Rattle.patricia.proofs.Zip.{find_plug, reached_plug}
use Rattle.pool.specs.Layout.{word, Layout, root_in, held_prefix}
use Rattle.pool.specs.Link.{to_route}
use Rattle.pool.specs.Holds.{Seated, bare, bare_entries, Chain, Holds}
use Rattle.pool.specs.declared.link.Place.{Place}
use Rattle.pool.proofs.Laid.{Laid}
use Rattle.search.specs.Down.{End, Led, Ways}
use Rattle.search.proofs.Bare.{bare_way, bare_follows}
use Rattle.search.proofs.Led.{led_chain, led_bare, led_good}
use Rattle.plan.specs.Cells.{cell_of}
use Rattle.plan.specs.Steps.{CellRight}
use Rattle.plan.specs.Planned.{Has}
use Rattle.plan.proofs.Way.{HoldsWay, plug_way}
use Rattle.plan.proofs.CellAt.{right_cell}
use Rattle.plan.proofs.Lengths.{found_has}

-- the end of a way that the code found a leaf at
pub leaf_end : (stop : End) (o : Option (Option Place)) (f : Option Place) (i : Place) → o ≡ result_ok stop → o ≡ Some f → f ≡ Some i → stop ≡ Ok (Some i)
leaf_end (Ok x) o f i e g h = cc
leaf_end (Err d) o f i e g h = cc

module _ {P : Type 0} (L : Layout P) where
  -- where there is no root the way ends nowhere
  pub rooted : (c : ℕ) (ws : List ℕ) (d : ℕ) (inner : List ℕ) (deep : ℕ) (stop : End) (i : Place) → Ways L c ws d inner deep stop → stop ≡ Ok (Some i) → root_in ws ≡ 0
      → ⊥
  rooted c ws d inner deep stop i ways e z = let f = ways.empty z in let y : ◌≡◌ {A = ℕ} 0 1 = cc in omega arith

module _ {P : Type 0} (L : Layout P) (laid : Laid L) where
  module _ (c : ℕ) (ws : List ℕ) (p : Prefix) (inner : List ℕ) (deep : ℕ) (stop : End) (t : Seated P) (h : Holds L c ws (root_in ws) t) (g : Good L.rules.width (bare t))
      (l : Led L c ws p.address inner deep stop t) where
    -- the way and the leaf stand in the words
    lead_parts : HoldsWay L c ws l.way × Holds L c ws (word ws (cell_of L c l.way)) (leaf l.address (l.entry ∷ l.rest))
    lead_parts = plug_way L c ws l.way (leaf l.address (l.entry ∷ l.rest)) (subst (Holds L c ws (word ws 2)) (sym l.whole) h)

    pub lead_way : HoldsWay L c ws l.way
    lead_way = lead_parts.0

    pub lead_leaf : Chain L c ws l.address (word ws (cell_of L c l.way)) (l.entry ∷ l.rest)
    lead_leaf = lead_parts.1

    -- the cell that the code works out is the leaf's
    pub lead_cell : (r : ℕ) → CellRight L c ws inner deep p.address r → cell_of L c l.way ≡ r
    lead_cell r x = right_cell L laid c ws inner deep p.address r l.way x l.steps l.places l.follows lead_way

    -- its routes are in walk order
    pub lead_order : InOrder (hung l.address (bare_entries (l.entry ∷ l.rest)))
    lead_order = routes_in_order {N = ℕ} L.rules.width (leaf l.address (bare_entries (l.entry ∷ l.rest))) (led_good L c ws p.address inner deep stop t l g)

    -- the prefix is there or nowhere
    pub lead_find : find p (routes (bare t)) ≡ find p (hung l.address (bare_entries (l.entry ∷ l.rest)))
    lead_find =
        let part : Tree ℕ P = leaf l.address (bare_entries (l.entry ∷ l.rest)) in
        sym (find_in_lem L.rules.width p (bare t) g) ∙ ap (find_in L.rules.width p) (led_bare L c ws p.address inner deep stop t l)
        ∙ find_plug L.rules.width p (bare_way l.way) part (bare_follows L.rules.width p.address l.way l.follows)
        ∙ find_in_lem L.rules.width p part (led_good L c ws p.address inner deep stop t l g)

    -- its address is the one that is reached
    pub lead_reached : reached L.rules.width p.address (bare t) ≡ l.address
    lead_reached =
        ap (reached L.rules.width p.address) (led_bare L c ws p.address inner deep stop t l)
        ∙ reached_plug L.rules.width p.address (bare_way l.way) (leaf l.address (bare_entries (l.entry ∷ l.rest))) (bare_follows L.rules.width p.address l.way l.follows)

    module _ (i : Place) (e : stop ≡ Ok (Some i)) where
      lead_place : l.entry.payload.place ≡ i.0
      lead_place = omega (arith, (led_chain L c ws p.address inner deep stop t l i e).0)

      -- and stands in the first place
      pub lead_address : (held_prefix L ws i.0).address ≡ l.address
      lead_address = ap (λ (k : ℕ). (held_prefix L ws k).address) (sym lead_place) ∙ l.hangs.1.address_there

      -- the cell links to the first place
      pub lead_link : (r : ℕ) → CellRight L c ws inner deep p.address r → word ws r ≡ to_route i.0
      lead_link r x = ap (word ws) (sym (lead_cell r x)) ∙ lead_leaf.0 ∙ ap to_route lead_place

    -- a prefix that is found has the leaf's address, and one of its lengths
    pub lead_found : (q : Route P) → find p (routes (bare t)) ≡ some q → (p.address ≡ l.address) × Has p.length (l.entry ∷ l.rest)
    lead_found q e = found_has p q l.address (l.entry ∷ l.rest) (sym lead_find ∙ e)
