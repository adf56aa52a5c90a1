-- The kind of table that keeps its routes as a tree.
use Rattle.pool.specs.Layout.{Layout}
use Rattle.pool.specs.Means.{Means}
use Rattle.pool.proofs.Unique.{means_unique}
use Rattle.promise.specs.Table.{Table}

-- In words of this layout. (That no words mean two states is proved, and need not be believed.)
abbrev pub tree : {P : Type 0} → Layout P → Table P
tree L = record { rules = L.rules; Means = Means L; lawful = λ ws s h. h.lawful; unique = means_unique L }
