-- Where a route goes in, and where one is taken out: read off a sound pool before a word is written.
use Rattle.std.specs.Prelude.{ℕ, ◌≡◌, List, [], ◌∷◌, ◌++◌, Option, Some, None}
use Rattle.std.proofs.Math.Option.{none}
use Rattle.bits.specs.Address.{Part}
use Rattle.model.specs.Prefix.{Prefix}
use Rattle.model.specs.Routes.{find}
use Rattle.patricia.specs.Good.{Good}
use Rattle.patricia.specs.Tree.{Entry, leaf, routes}
use Rattle.patricia.specs.Obeys.{Grows, Shorter}
use Rattle.patricia.specs.Way.{Step, plug, reached, Follows, NotPast}
use Rattle.pool.specs.Layout.{root_in, Layout}
use Rattle.pool.specs.Holds.{Seat, Seated, bare, Holds}
use Rattle.plan.specs.Cells.{cell_of, end_cell, Longer, place_of, sibling_link}
use Rattle.plan.specs.declared.plan.PutPlan.{PutPlan}
use Rattle.plan.specs.declared.plan.PutPlan.TheVariants as put
use Rattle.plan.specs.declared.plan.TakePlan.{TakePlan}
use Rattle.plan.specs.declared.plan.TakePlan.TheVariants as taken
use Rattle.plan.specs.declared.plan.Held.{Held}

module _ {P : Type 0} (L : Layout P) where
  -- The address is held: the route hangs between its longer and its shorter routes, at this cell.
  pub record HangsAt (c : ℕ) (p : Prefix) (t : Seated P) (cell : ℕ) : Type 0 where
    pub way : List (Step ℕ (Seat P))
    pub longer : List (Entry (Seat P))
    pub shorter : List (Entry (Seat P))
    pub whole : plug way (leaf p.address (longer ++ shorter)) ≡ t
    pub follows : Follows L.rules.width p.address way
    pub cell_is : end_cell L (cell_of L c way) longer ≡ cell
    pub longer_are : Longer p.length longer
    pub shorter_are : Shorter p.length shorter

  -- The address is new: its leaf is joined to the part at this cell, under a node that tests bit k.
  pub record JoinsAt (c : ℕ) (p : Prefix) (t : Seated P) (cell k : ℕ) : Type 0 where
    pub way : List (Step ℕ (Seat P))
    pub part : Seated P
    pub whole : plug way part ≡ t
    pub follows : Follows L.rules.width p.address way
    pub not_past : NotPast k way
    pub grows : Grows k part
    pub cell_is : cell_of L c way ≡ cell
    pub new : reached L.rules.width p.address (bare t) ≡ p.address → ⊥
    pub parts : Part L.rules.width p.address (reached L.rules.width p.address (bare t)) k

  -- Where a prefix that is not there goes in.
  abbrev pub PutAt : ℕ → Prefix → Seated P → PutPlan → Type 0
  PutAt c p t put.First = ⊥
  PutAt c p t (put.Hang cell) = find p (routes (bare t)) ≡ none → HangsAt c p t cell
  PutAt c p t (put.Join cell k) = JoinsAt c p t cell k

  -- A plan is right: the first route of an empty tree, else the place that the tree gives it.
  pub record PutRight (c : ℕ) (ws : List ℕ) (p : Prefix) (r : PutPlan) : Type 0 where
    pub empty : root_in ws ≡ 0 → r ≡ put.First
    pub exact : (t : Seated P) → Holds L c ws (root_in ws) t → Good L.rules.width (bare t) → PutAt c p t r

  -- The route of a prefix: it hangs at this cell, after longer routes and before shorter ones of its address.
  pub record HungAt (c : ℕ) (p : Prefix) (t : Seated P) (cell : ℕ) (e : Entry (Seat P)) : Type 0 where
    pub way : List (Step ℕ (Seat P))
    pub longer : List (Entry (Seat P))
    pub shorter : List (Entry (Seat P))
    pub whole : plug way (leaf p.address (longer ++ (e ∷ shorter))) ≡ t
    pub follows : Follows L.rules.width p.address way
    pub cell_is : end_cell L (cell_of L c way) longer ≡ cell
    pub longer_are : Longer p.length longer
    pub length_is : e.length ≡ p.length

  -- Where a prefix that is there hangs.
  abbrev pub HeldThere : ℕ → Prefix → Seated P → Option Held → Type 0
  HeldThere c p t (Some h) = (e : Entry (Seat P)) × HungAt c p t h.cell e × (e.payload.place ≡ h.place.0)
  HeldThere c p t None = ⊥

  -- Where a prefix that is there is taken out: from a leaf that has other routes; with its leaf, whose sibling takes the place of the inner place above
  -- them; or as the last route of the table.
  abbrev pub TakenAt : ℕ → List ℕ → Prefix → Seated P → Option TakePlan → Type 0
  TakenAt c ws p t (Some (taken.Link cell i)) = (e : Entry (Seat P)) × (h : HungAt c p t cell e) × (e.payload.place ≡ i.0) × (h.longer ++ h.shorter ≡ [] → ⊥)
  TakenAt c ws p t (Some (taken.Leaf up j link i)) =
      (e : Entry (Seat P)) × (d : Step ℕ (Seat P)) × (w : List (Step ℕ (Seat P))) × (plug (d ∷ w) (leaf p.address (e ∷ [])) ≡ t) × Follows L.rules.width p.address (d ∷ w) × (e.length ≡ p.length)
      × (e.payload.place ≡ i.0) × (place_of d ≡ j.0) × (cell_of L c w ≡ up) × (sibling_link L c ws d ≡ link)
  TakenAt c ws p t (Some (taken.Last i)) = (e : Entry (Seat P)) × (leaf p.address (e ∷ []) ≡ t) × (e.length ≡ p.length) × (e.payload.place ≡ i.0)
  TakenAt c ws p t None = ⊥
