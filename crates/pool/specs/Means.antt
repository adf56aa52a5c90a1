-- Document 01: "A pool is sound when ..", clause by clause, and the state that it then means.
use Rattle.std.specs.Prelude.{ℕ, zero, suc, ◌+◌, ◌≤◌, ◌<◌, ◌≡◌, List, [], ◌∷◌, ◌⊎◌, length}
use Rattle.std.proofs.Math.Option.{none, some}
use Rattle.model.specs.State.{Change, added, deleted, changed, Trial, closed, opened, State}
use Rattle.model.specs.Lawful.{Lawful}
use Rattle.patricia.specs.Tree.{Root, root_routes}
use Rattle.patricia.specs.Obeys.{RootObeys}
use Rattle.pool.specs.Layout.{word, Layout, size, capacity_in, count_in, root_in, trial_in, standing_in, kind_at, mark_at, action_at, changed_at, old_at, new_at}
use Rattle.pool.specs.Holds.{Seat, bare_root, route_places, inner_places, HoldsRoot}

-- i is one of the places.
abbrev pub Among : ℕ → List ℕ → Type 0
Among i [] = ⊥
Among i (x ∷ xs) = (i ≡ x) ⊎ Among i xs

module _ {P : Type 0} where
  -- The route places that a table's tree uses.
  abbrev pub routes_used : Root ℕ (Seat P) → List ℕ
  routes_used none = []
  routes_used (some t) = route_places t

  -- The inner places that it uses.
  abbrev pub inners_used : Root ℕ (Seat P) → List ℕ
  inners_used none = []
  inners_used (some t) = inner_places t

module _ {P : Type 0} (L : Layout P) where
  -- The words here are a payload's.
  abbrev pub PayloadThere : List ℕ → ℕ → Type 0
  PayloadThere ws at = (1 ≤ word ws at) × L.Known ws at

  -- Slot k records this change.
  abbrev pub Records : ℕ → List ℕ → ℕ → Change P → Type 0
  Records c ws k (added r) =
      (action_at L c ws k ≡ 1) × (changed_at L c ws k ≡ r.prefix) × PayloadThere ws (L.slot c k + L.new_offset) × (new_at L c ws k ≡ r.payload)
  Records c ws k (deleted r) =
      (action_at L c ws k ≡ 2) × (changed_at L c ws k ≡ r.prefix) × PayloadThere ws (L.slot c k + L.old_offset) × (old_at L c ws k ≡ r.payload)
  Records c ws k (changed p old new) =
      (action_at L c ws k ≡ 3) × (changed_at L c ws k ≡ p)
      × PayloadThere ws (L.slot c k + L.old_offset) × (old_at L c ws k ≡ old)
      × PayloadThere ws (L.slot c k + L.new_offset) × (new_at L c ws k ≡ new)

  -- The first n slots record these changes, newest first.
  abbrev pub Recorded : ℕ → List ℕ → ℕ → List (Change P) → Type 0
  Recorded c ws n [] = n ≡ 0
  Recorded c ws zero (x ∷ xs) = ⊥
  Recorded c ws (suc n) (x ∷ xs) = Records c ws n x × Recorded c ws n xs

  -- "At most 64 changes stand and none without an open trial."
  abbrev pub TrialThere : ℕ → List ℕ → Trial P → Type 0
  TrialThere c ws closed = (trial_in ws ≡ 0) × (standing_in ws ≡ 0)
  TrialThere c ws (opened cs) = (trial_in ws ≡ 1) × Recorded c ws (standing_in ws) cs

  -- The words are a sound pool and mean this state.
  pub record Means (ws : List ℕ) (s : State P) : Type 0 where
    pub tree : Root ℕ (Seat P)
    -- "it isn't shorter than its capacity needs"
    pub long_enough : size L s.capacity ≤ length ws
    -- "its numbers are in range, it holds no more routes than its capacity, its routes and the prefixes and hops of its recorded changes obey .., at
    -- most 64 changes stand .., and an open trial's changes could be taken back one by one, newest first"
    pub lawful : Lawful L.rules s
    pub capacity_there : capacity_in ws ≡ s.capacity
    pub count_there : count_in ws ≡ length s.routes
    pub trial_there : TrialThere s.capacity ws s.trial
    -- "the tree obeys this paragraph and the last"
    pub holds : HoldsRoot L s.capacity ws (root_in ws) tree
    pub obeys : RootObeys L.rules.width (bare_root tree)
    pub routes_there : root_routes (bare_root tree) ≡ s.routes
    -- "each place is exactly one of used or free": a place that is marked as used is in the tree, as every place of the tree is marked as used.
    -- "the free ones can all be reached": they are those that are not marked, and are found by looking along the marks
    pub route_places_used : (i : ℕ) → i < s.capacity → 1 ≤ kind_at L ws i → Among i (routes_used tree)
    pub inner_places_used : (j : ℕ) → j < s.capacity → 1 ≤ mark_at L s.capacity ws j → Among j (inners_used tree)
