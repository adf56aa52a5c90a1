-- What is tested of the head's numbers.
use Rattle.std.specs.Prelude.{ℕ, ◌≤◌, ◌≡◌, List}
use Rattle.pool.specs.Layout.{Layout, capacity_in, trial_in, standing_in}

module _ {P : Type 0} (L : Layout P) where
  -- "Its numbers are in range .. at most 64 changes stand and none without an open trial", of the head's words.
  pub record HeadFine (c : ℕ) (ws : List ℕ) : Type 0 where
    pub at_least_one : 1 ≤ c
    pub in_range : c ≤ L.rules.limit
    pub capacity_there : capacity_in ws ≡ c
    pub trial_known : trial_in ws ≤ 1
    pub few : standing_in ws ≤ L.rules.standing
    pub none_standing : trial_in ws ≡ 0 → standing_in ws ≡ 0
