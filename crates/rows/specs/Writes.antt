-- The rows of writes that change a pool. Each is written in order, the first first.
use Rattle.std.specs.Prelude.{ℕ, ◌+◌, ◌-◌, List, [], ◌∷◌, ◌++◌}
use Rattle.model.specs.Routes.{Route}
use Rattle.model.specs.Prefix.{Prefix}
use Rattle.bits.specs.Address.{bit}
use Rattle.patricia.specs.Way.{toward}
use Rattle.pool.specs.Layout.{word, Layout, next_at}
use Rattle.pool.specs.Written.{prefix_writes}
use Rattle.pool.specs.Link.{to_route, to_inner}
use Rattle.pool.specs.Write.{Write}

-- Whether a trial is open, and how many changes stand.
abbrev pub head_writes : ℕ → ℕ → List Write
head_writes o n = (3, o) ∷ (4, n) ∷ []

module _ {P : Type 0} (L : Layout P) where
  -- A route put into a place, with the link to the next.
  abbrev pub route_writes : ℕ → Route P → ℕ → List Write
  route_writes i r next = L.put_payload (L.seat i) r.payload ++ (prefix_writes L (L.seat i + L.prefix_offset) r.prefix ++ ((L.seat i + L.next_offset, next) ∷ []))

  -- An inner place that tests bit b.
  abbrev pub inner_writes : ℕ → ℕ → ℕ → ℕ → ℕ → List Write
  inner_writes c j b left right = (L.joint c j, b + 1) ∷ (L.joint c j + 1, left) ∷ (L.joint c j + 2, right) ∷ []

  -- A recorded change: its action, its prefix, the hop before and the hop after.
  abbrev pub record_writes : ℕ → ℕ → ℕ → Prefix → P → P → List Write
  record_writes c k action p old new =
      (L.slot c k, action)
      ∷ (prefix_writes L (L.slot c k + 1) p ++ (L.put_payload (L.slot c k + L.old_offset) old ++ (L.put_payload (L.slot c k + L.new_offset) new ++ ((4, k + 1) ∷ []))))

  -- The first route of an empty table.
  abbrev pub first_writes : List ℕ → ℕ → Route P → List Write
  first_writes ws i r = route_writes i r 0 ++ ((2, to_route i) ∷ (1, word ws 1 + 1) ∷ [])

  -- Another length of a held address, at a cell of its chain.
  abbrev pub hang_writes : List ℕ → ℕ → Route P → ℕ → List Write
  hang_writes ws i r cell = route_writes i r (word ws cell) ++ ((cell, to_route i) ∷ (1, word ws 1 + 1) ∷ [])

  -- A new address: its leaf and what the cell linked to, joined under an inner place; the address's side of bit k gets the leaf.
  abbrev pub inner_join : List ℕ → ℕ → ℕ → ℕ → Route P → ℕ → ℕ → List Write
  inner_join ws c i j r k cell =
      inner_writes c j k (toward (bit L.rules.width k r.prefix.address) (to_route i) (word ws cell)) (toward (bit L.rules.width k r.prefix.address) (word ws cell) (to_route i))

  -- A new address: its route, the inner place above it and the part it is joined to, the cell that led there, and the count.
  abbrev pub join_writes : List ℕ → ℕ → ℕ → ℕ → Route P → ℕ → ℕ → List Write
  join_writes ws c i j r k cell = route_writes i r 0 ++ (inner_join ws c i j r k cell ++ ((cell, to_inner j) ∷ (1, word ws 1 + 1) ∷ []))

  -- A route taken out of a chain that goes on: the cell links to the next, and the place is free.
  abbrev pub link_writes : List ℕ → ℕ → ℕ → List Write
  link_writes ws i cell = (cell, next_at L ws i) ∷ (L.seat i, 0) ∷ (1, word ws 1 - 1) ∷ []

  -- A leaf taken out with its inner place: the cell above links to the sibling.
  abbrev pub drop_writes : List ℕ → ℕ → ℕ → ℕ → ℕ → ℕ → List Write
  drop_writes ws c i j up link = (up, link) ∷ (L.joint c j, 0) ∷ (L.seat i, 0) ∷ (1, word ws 1 - 1) ∷ []

  -- The table's last route.
  abbrev pub last_writes : List ℕ → ℕ → List Write
  last_writes ws i = (2, 0) ∷ (L.seat i, 0) ∷ (1, word ws 1 - 1) ∷ []

  -- Another payload in a place.
  abbrev pub swap_writes : ℕ → P → List Write
  swap_writes i o = L.put_payload (L.seat i) o
