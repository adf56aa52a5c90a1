-- A link is one word: 0 for none, 2 i + 1 for route place i, 2 j + 2 for inner place j.
use Rattle.std.specs.Prelude.{ℕ, ◌+◌, ◌-◌, ◌*◌, ◌/◌, ◌%◌, cond, eqb, Option, Some, None}
use Rattle.pool.specs.declared.link.Link.{Link}
use Rattle.pool.specs.declared.link.Link.TheVariants.{Route, Inner}

-- The link to route place i.
abbrev pub to_route : ℕ → ℕ
to_route i = 2 * i + 1

-- The link to inner place j.
abbrev pub to_inner : ℕ → ℕ
to_inner j = 2 * j + 2

-- How the code reads one.
unfoldable pub link_from : ℕ → Option Link
link_from w = cond (eqb w 0) None (cond (eqb (w % 2) 1) (Some (Route (record { 0 = w / 2 }))) (Some (Inner (record { 0 = w / 2 - 1 }))))
