-- Where a route goes in, from what the code has read.
use Prim.Native.Nat.{ℕ}
use mathlib.Core.Path.{◌≡◌, refl, sym, ap, subst, ◌∙◌}
use mathlib.Core.List.{List, ◌∷◌}
use mathlib.Core.Option.{none}
use native.Mathlib.Omega.{arith}
use Rattle.std.specs.Prelude.{Some, None, Ok, Err}
use Rattle.bits.specs.Address.{Part}
use Rattle.model.specs.Prefix.{Prefix}
use Rattle.model.specs.Routes.{find}
use Rattle.patricia.specs.Good.{Good}
use Rattle.patricia.specs.Tree.{Entry, leaf, routes}
use Rattle.patricia.specs.Obeys.{LongestFirst}
use Rattle.patricia.specs.Way.{plug, reached}
use Rattle.pool.specs.Layout.{Layout, root_in, held_prefix}
use Rattle.pool.specs.Holds.{Seat, Seated, bare, Holds}
use Rattle.pool.specs.declared.damage.Damage.{Damage}
use Rattle.pool.specs.declared.link.Place.{Place}
use Rattle.pool.proofs.Laid.{Laid}
use Rattle.search.specs.Down.{End, Ways}
use Rattle.search.proofs.Led.{led_not_empty, led_not_damaged, led_chain, led_longest}
use Rattle.plan.specs.Cells.{end_cell}
use Rattle.plan.specs.Steps.{CellRight, LevelRight, ChainCell}
use Rattle.plan.specs.Plan.{HangsAt, JoinsAt, PutRight}
use Rattle.plan.specs.Planned.{Has}
use Rattle.plan.specs.declared.plan.PutPlan.TheVariants as put
use Rattle.plan.proofs.CellAt.{up_to, right_cell}
use Rattle.plan.proofs.Lengths.{longest_tail, has_tail, lacks_shorter, absent_has}
use Rattle.plan.proofs.Leads.{rooted, lead_way, lead_cell, lead_order, lead_find, lead_reached, lead_address}

module _ {P : Type 0} (L : Layout P) (laid : Laid L) (c : ℕ) (ws : List ℕ) (p : Prefix) (inner : List ℕ) (deep : ℕ) (stop : End) (ways : Ways L c ws p.address inner deep stop) where
  pub put_empty : stop ≡ Ok None → PutRight L c ws p put.First
  put_empty e = record { empty = λ z. refl; exact = λ t h g. absurd (led_not_empty L c ws p.address inner deep stop t (ways.leads t h g) e) }

  pub put_damaged : {d : Damage} → stop ≡ Err d → PutRight L c ws p put.First
  put_damaged e = record { empty = λ z. refl; exact = λ t h g. absurd (led_not_damaged L c ws p.address inner deep stop t (ways.leads t h g) e) }

  module _ (i : Place) (e : stop ≡ Ok (Some i)) where
    pub put_hang : (from cell : ℕ) → (held_prefix L ws i.0).address ≡ p.address → CellRight L c ws inner deep p.address from
        → ChainCell L c ws from i.0 p.length cell → PutRight L c ws p (put.Hang cell)
    put_hang from cell f x y = record { empty = λ z. absurd (rooted L c ws p.address inner deep stop i ways e z); exact = hangs }
      where
        hangs : (t : Seated P) → Holds L c ws (root_in ws) t → Good L.rules.width (bare t) → find p (routes (bare t)) ≡ none → HangsAt L c p t cell
        hangs t h g n =
            let l = ways.leads t h g in
            let es = l.entry ∷ l.rest in
            let long = led_longest L c ws p.address inner deep stop t l g in
            let b = y.exact l.address es (led_chain L c ws p.address inner deep stop t l i e) long in
            let mine : l.address ≡ p.address = sym (lead_address L laid c ws p inner deep stop t h g l i e) ∙ f in
            record {
              way = l.way;
              longer = b.longer;
              shorter = b.others;
              whole = (λ k. plug l.way (leaf (sym mine k) (b.whole k))) ∙ l.whole;
              follows = l.follows;
              cell_is = ap (λ (k : ℕ). end_cell L k b.longer) (lead_cell L laid c ws p inner deep stop t h g l from x) ∙ b.cell_is;
              longer_are = b.longer_are;
              shorter_are = lacks_shorter p.length b.others b.others_are (longest_tail b.longer b.others (subst LongestFirst (sym b.whole) long))
                  (λ k. absent_has p l.address es mine (lead_order L laid c ws p inner deep stop t h g l) (sym (lead_find L laid c ws p inner deep stop t h g l) ∙ n)
                  (subst (λ (xs : List (Entry (Seat P))). Has p.length xs) b.whole (has_tail p.length b.longer b.others k)));
            }

    pub put_join : (held k level cell : ℕ) → (held_prefix L ws i.0).address ≡ held → (held ≡ p.address → ⊥) → Part L.rules.width p.address held k
        → LevelRight L c ws inner deep k level → CellRight L c ws inner level p.address cell → PutRight L c ws p (put.Join cell k)
    put_join held k level cell f n a v x = record { empty = λ z. absurd (rooted L c ws p.address inner deep stop i ways e z); exact = joins }
      where
        joins : (t : Seated P) → Holds L c ws (root_in ws) t → Good L.rules.width (bare t) → JoinsAt L c p t cell k
        joins t h g =
            let l = ways.leads t h g in
            let there : reached L.rules.width p.address (bare t) ≡ held =
            lead_reached L laid c ws p inner deep stop t h g l ∙ sym (lead_address L laid c ws p inner deep stop t h g l i e) ∙ f in
            let u = up_to L laid c ws inner p.address k level deep v l.way (leaf l.address (l.entry ∷ l.rest)) (omega (arith, l.steps)) (omega (arith, l.steps, v.within)) (λ z. tt)
            l.places l.follows (lead_way L laid c ws p inner deep stop t h g l) in
            record {
              way = u.way;
              part = u.part;
              whole = u.whole ∙ l.whole;
              follows = u.follows;
              not_past = u.not_past;
              grows = u.grows;
              cell_is = right_cell L laid c ws inner level p.address cell u.way x u.steps u.places u.follows u.holds;
              new = λ z. n (sym there ∙ z);
              parts = subst (λ (y : ℕ). Part L.rules.width p.address y k) (sym there) a;
            }
