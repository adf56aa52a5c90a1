-- What is tested of one route, and of the routes of one address.
use Rattle.std.specs.Prelude.{ℕ, ◌≤◌, ◌<◌, ◌≡◌, List, length, Option, Some, None}
use Rattle.model.specs.Lawful.{Obeys, AllObey}
use Rattle.patricia.specs.Tree.{Entry, hung}
use Rattle.patricia.specs.Obeys.{LeafObeys}
use Rattle.pool.specs.Layout.{Layout, kind_at, held_prefix, held_payload, next_at}
use Rattle.pool.specs.Link.{to_route}
use Rattle.pool.specs.Holds.{Seat, bare_entries, Chain}
use Rattle.shape.specs.declared.chain.Hung.{Hung}
use Rattle.shape.specs.declared.chain.Chain as code

module _ {P : Type 0} (L : Layout P) where
  -- The address in route place i.
  abbrev pub address_at : List ℕ → ℕ → ℕ
  address_at ws i = (held_prefix L ws i).address

  -- The length in route place i.
  abbrev pub length_at : List ℕ → ℕ → ℕ
  length_at ws i = (held_prefix L ws i).length

  -- Place i is in the pool and holds a route that obeys "What the table holds".
  pub record RouteFine (c : ℕ) (ws : List ℕ) (i : ℕ) : Type 0 where
    pub in_pool : i < c
    pub used : 1 ≤ kind_at L ws i
    pub known : L.Known ws (L.seat i)
    pub obeys : Obeys L.rules (held_prefix L ws i) (held_payload L ws i)

  -- The link leads to a route of this address that is fine and shorter than the bound.
  pub record HungFine (c : ℕ) (ws : List ℕ) (link a bound i : ℕ) : Type 0 where
    pub linked : link ≡ to_route i
    pub fine : RouteFine c ws i
    pub address : address_at ws i ≡ a
    pub shorter : length_at ws i < bound

  -- What is answered of one link of a leaf.
  abbrev pub HungSays : ℕ → List ℕ → ℕ → ℕ → ℕ → Option Hung → Type 0
  HungSays c ws link a bound None = (i : ℕ) → HungFine c ws link a bound i → ⊥
  HungSays c ws link a bound (Some h) = (i : ℕ) × HungFine c ws link a bound i × (h.link ≡ next_at L ws i) × (h.bound.0 ≡ length_at ws i)

  -- From the link on hang routes of one address, as a leaf's do.
  pub record LeafFine (c : ℕ) (ws : List ℕ) (link a : ℕ) (es : List (Entry (Seat P))) : Type 0 where
    pub chain : Chain L c ws a link es
    pub form : LeafObeys L.rules.width a (bare_entries es)
    pub obey : AllObey L.rules (hung a (bare_entries es))

  -- What is answered of the routes of a leaf.
  abbrev pub ChainSays : ℕ → List ℕ → ℕ → Option code.Chain → Type 0
  ChainSays c ws i None = (a : ℕ) (es : List (Entry (Seat P))) → LeafFine c ws (to_route i) a es → ⊥
  ChainSays c ws i (Some h) = (es : List (Entry (Seat P))) × LeafFine c ws (to_route i) h.address es × (h.routes ≡ length es)
