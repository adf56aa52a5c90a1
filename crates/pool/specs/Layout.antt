-- The lent words, as docs/POOL.md draws them, of any kind of table. c is the capacity, i a route place, j an inner place, k a change.
use Rattle.std.specs.Prelude.{ℕ, ◌+◌, List, get_or}
use Rattle.model.specs.Prefix.{Prefix}
use Rattle.model.specs.State.{Rules}
use Rattle.pool.specs.Write.{Write}

-- What stands at an index.
abbrev pub word : List ℕ → ℕ → ℕ
word ws i = get_or ws i 0

-- How the words of one kind of table are laid out. P is what a route holds besides its prefix: its payload.
pub record Layout (P : Type 0) : Type 1 where
  -- the table's rules, with "a size that the team fixes by a formula"
  pub rules : Rules P
  -- where route place i begins; inner place j; change k
  pub seat : ℕ → ℕ
  pub joint : ℕ → ℕ → ℕ
  pub slot : ℕ → ℕ → ℕ
  -- a route place begins with its payload; so far behind come its prefix, and the link to the next route of its address
  pub prefix_offset : ℕ
  pub next_offset : ℕ
  -- a change begins with its action and its prefix; so far behind come the payload before and the payload after
  pub old_offset : ℕ
  pub new_offset : ℕ
  -- an address takes so many words: how they are read, and how they are written
  pub address_words : ℕ
  pub address_at : List ℕ → ℕ → ℕ
  pub put_address : ℕ → ℕ → List Write
  -- a payload, read and written; its first word is 0 in a free place and nowhere else
  pub payload_at : List ℕ → ℕ → P
  pub put_payload : ℕ → P → List Write
  -- the words here, of which the first is not 0, are a payload's
  pub Known : List ℕ → ℕ → Type 0

-- The head begins with the capacity.
abbrev pub capacity_in : List ℕ → ℕ
capacity_in ws = word ws 0

-- Routes held.
abbrev pub count_in : List ℕ → ℕ
count_in ws = word ws 1

-- The link to the tree.
abbrev pub root_in : List ℕ → ℕ
root_in ws = word ws 2

-- 1 while a trial is open, else 0.
abbrev pub trial_in : List ℕ → ℕ
trial_in ws = word ws 3

-- How many changes stand.
abbrev pub standing_in : List ℕ → ℕ
standing_in ws = word ws 4

module _ {P : Type 0} (L : Layout P) where
  -- The words that a capacity needs.
  abbrev pub size : ℕ → ℕ
  size c = L.rules.words c

  -- A prefix is its address, and behind it its length.
  abbrev pub prefix_at : List ℕ → ℕ → Prefix
  prefix_at ws at = record { address = L.address_at ws at; length = word ws (at + L.address_words) }

  -- A route place: its payload, whose first word is 0 while the place is free; its prefix; the link to the next route of its address.
  abbrev pub kind_at : List ℕ → ℕ → ℕ
  kind_at ws i = word ws (L.seat i)

  -- The prefix in place i.
  abbrev pub held_prefix : List ℕ → ℕ → Prefix
  held_prefix ws i = prefix_at ws (L.seat i + L.prefix_offset)

  -- The payload there.
  abbrev pub held_payload : List ℕ → ℕ → P
  held_payload ws i = L.payload_at ws (L.seat i)

  -- The link to the next route of its address.
  abbrev pub next_at : List ℕ → ℕ → ℕ
  next_at ws i = word ws (L.seat i + L.next_offset)

  -- An inner place: 0 while it is free, else its bit + 1; the links to its left and right side.
  abbrev pub mark_at : ℕ → List ℕ → ℕ → ℕ
  mark_at c ws j = word ws (L.joint c j)

  -- The link to its left side.
  abbrev pub left_at : ℕ → List ℕ → ℕ → ℕ
  left_at c ws j = word ws (L.joint c j + 1)

  -- The link to its right side.
  abbrev pub right_at : ℕ → List ℕ → ℕ → ℕ
  right_at c ws j = word ws (L.joint c j + 2)

  -- A recorded change: its action (1 add, 2 delete, 3 change).
  abbrev pub action_at : ℕ → List ℕ → ℕ → ℕ
  action_at c ws k = word ws (L.slot c k)

  -- Its prefix.
  abbrev pub changed_at : ℕ → List ℕ → ℕ → Prefix
  changed_at c ws k = prefix_at ws (L.slot c k + 1)

  -- The payload before.
  abbrev pub old_at : ℕ → List ℕ → ℕ → P
  old_at c ws k = L.payload_at ws (L.slot c k + L.old_offset)

  -- The payload after.
  abbrev pub new_at : ℕ → List ℕ → ℕ → P
  new_at c ws k = L.payload_at ws (L.slot c k + L.new_offset)
