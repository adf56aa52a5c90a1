-- Rows of writes as the code makes them, over plain values.
use Prim.Native.Nat.{ℕ, ◌+◌}
use mathlib.Core.Path.{◌≡◌, sym, ◌∙◌}
use mathlib.Core.List.{List, [], ◌∷◌, ◌++◌}
use lib.ListN.{set}
use Rattle.model.specs.Prefix.{Prefix}
use Rattle.model.specs.Routes.{Route}
use Rattle.bits.specs.Address.{bit}
use Rattle.patricia.specs.Way.{toward}
use Rattle.pool.specs.Write.{Write, writes}
use Rattle.pool.specs.Layout.{word, Layout}
use Rattle.pool.specs.Written.{prefix_writes}
use Rattle.pool.specs.Link.{to_route, to_inner}
use Rattle.pool.proofs.Writes.{writes_append}
use Rattle.rows.specs.Writes.{route_writes, inner_writes, inner_join, join_writes, record_writes}

-- two words after a row
pub two_more : (ws xs : List ℕ) (row : List Write) (i v j u : ℕ) → xs ≡ writes row ws → set (set xs i v) j u ≡ writes ((i, v) ∷ (j, u) ∷ []) (writes row ws)
two_more ws xs row i v j u e = rw e

module _ {P : Type 0} (L : Layout P) where
  pub route_row : (ws xs ys : List ℕ) (i at : ℕ) (h : P) (p : Prefix) (next : ℕ) → at ≡ L.seat i → xs ≡ writes (L.put_payload at h) ws
      → ys ≡ writes (prefix_writes L (at + L.prefix_offset) p) xs
      → set ys (at + L.next_offset) next ≡ writes (route_writes L i (record { prefix = p; payload = h }) next) ws
  route_row ws xs ys i at h p next e f g =
      rw (g, f, e) (sym (
      writes_append (L.put_payload (L.seat i) h) (prefix_writes L (L.seat i + L.prefix_offset) p ++ ((L.seat i + L.next_offset, next) ∷ [])) ws
      ∙ writes_append (prefix_writes L (L.seat i + L.prefix_offset) p) ((L.seat i + L.next_offset, next) ∷ []) (writes (L.put_payload (L.seat i) h) ws)
      ))

  -- a new address: its leaf, its inner place, the cell and the count
  pub join_row : (ws xs ys : List ℕ) (c i j k cell : ℕ) (r : Route P) (link left right up : ℕ) → link ≡ to_route i
      → (left ≡ toward (bit L.rules.width k r.prefix.address) link (word ws cell))
      → (right ≡ toward (bit L.rules.width k r.prefix.address) (word ws cell) link) → up ≡ to_inner j → xs ≡ writes (route_writes L i r 0) ws
      → ys ≡ writes (inner_writes L c j k left right) xs
      → set (set ys cell up) 1 (word ws 1 + 1) ≡ writes (join_writes L ws c i j r k cell) ws
  join_row ws xs ys c i j k cell r link left right up a b d e f g =
      rw (g, f, b, d, a, e) (sym (writes_append (route_writes L i r 0) (inner_join L ws c i j r k cell ++ ((cell, to_inner j) ∷ (1, word ws 1 + 1) ∷ [])) ws))

  -- a change: the action, the prefix, the two hops and the number that stand
  pub record_row : (ws xs ys zs : List ℕ) (c n at action : ℕ) (p : Prefix) (old new : P) → at ≡ L.slot c n → xs ≡ writes (prefix_writes L (at + 1) p) (set ws at action)
      → ys ≡ writes (L.put_payload (at + L.old_offset) old) xs → zs ≡ writes (L.put_payload (at + L.new_offset) new) ys
      → set zs 4 (n + 1) ≡ writes (record_writes L c n action p old new) ws
  record_row ws xs ys zs c n at action p old new a b d e =
      let s = L.slot c n in
      let ends : List Write = (4, n + 1) ∷ [] in
      let news = L.put_payload (s + L.new_offset) new in
      let olds = L.put_payload (s + L.old_offset) old in
      rw (e, d, b, a) (sym (
      writes_append (prefix_writes L (s + 1) p) (olds ++ (news ++ ends)) (set ws s action)
      ∙ writes_append olds (news ++ ends) (writes (prefix_writes L (s + 1) p) (set ws s action))
      ∙ writes_append news ends (writes olds (writes (prefix_writes L (s + 1) p) (set ws s action)))
      ))
