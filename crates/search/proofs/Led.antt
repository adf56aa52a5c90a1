-- The leaf at the end of a way: in the tree, and in the pool.
use Prim.Native.Nat.{ℕ}
use mathlib.Core.Path.{◌≡◌, sym, ap, subst, ◌∙◌}
use mathlib.Core.List.{List, ◌∷◌}
use Rattle.std.specs.Prelude.{Some, None, Ok, Err}
use Rattle.patricia.specs.Good.{Good}
use Rattle.patricia.specs.Tree.{leaf}
use Rattle.patricia.specs.Obeys.{LeafObeys, LongestFirst}
use Rattle.patricia.specs.Way.{plug}
use Rattle.patricia.proofs.Zip.{good_part}
use Rattle.pool.specs.Layout.{Layout}
use Rattle.pool.specs.Link.{to_route}
use Rattle.pool.specs.Holds.{Seated, bare, bare_entries, Chain}
use Rattle.pool.specs.declared.link.Place.{Place}
use Rattle.pool.specs.declared.damage.Damage.{Damage}
use Rattle.search.specs.Down.{Led, End}
use Rattle.search.proofs.Bare.{bare_way, bare_plug, bare_longest}

module _ {P : Type 0} (L : Layout P) (c : ℕ) (ws : List ℕ) (d : ℕ) (inner : List ℕ) (deep : ℕ) (stop : End) (t : Seated P) (l : Led L c ws d inner deep stop t) where
  -- a way to a leaf ends at no other thing
  pub led_not_empty : stop ≡ Ok None → ⊥
  led_not_empty e = let f = l.ends in cc

  pub led_not_damaged : {x : Damage} → stop ≡ Err x → ⊥
  led_not_damaged e = let f = l.ends in cc

  -- the leaf's routes hang from the place that was read
  pub led_chain : (p : Place) → stop ≡ Ok (Some p) → Chain L c ws l.address (to_route p.0) (l.entry ∷ l.rest)
  led_chain p e =
      let f = l.ends in
      let q : ◌≡◌ {A = Place} (record { 0 = l.entry.payload.place }) p = cc in
      subst (λ (x : Place). Chain L c ws l.address (to_route x.0) (l.entry ∷ l.rest)) q l.hangs

  -- the tree is the leaf and the way to it, without the places too
  pub led_bare : bare t ≡ plug (bare_way l.way) (leaf l.address (bare_entries (l.entry ∷ l.rest)))
  led_bare = ap bare (sym l.whole) ∙ bare_plug l.way (leaf l.address (l.entry ∷ l.rest))

  pub led_good : Good L.rules.width (bare t) → LeafObeys L.rules.width l.address (bare_entries (l.entry ∷ l.rest))
  led_good g = good_part L.rules.width (bare_way l.way) (leaf l.address (bare_entries (l.entry ∷ l.rest))) (subst (Good L.rules.width) led_bare g)

  pub led_longest : Good L.rules.width (bare t) → LongestFirst (l.entry ∷ l.rest)
  led_longest g = bare_longest (l.entry ∷ l.rest) (led_good g).longest_first
