-- What an edit's writes spare: a route place, an inner place, the head and the slots, by where the writes go.
use Prim.Native.Nat.{ℕ, ◌+◌, ◌≤◌, ◌<◌}
use mathlib.Core.Path.{◌≡◌, refl, ap, ◌∙◌}
use mathlib.Core.List.{List, [], ◌∷◌, ◌++◌}
use mathlib.Core.Logic.{◌⊎◌, inl, inr}
use native.Mathlib.Omega.{arith}
use Rattle.bits.proofs.Cases.{lt_or_le}
use Rattle.model.specs.Routes.{Route}
use Rattle.patricia.specs.Tree.{Entry}
use Rattle.patricia.specs.Way.{Step, went_left, went_right}
use Rattle.pool.specs.Layout.{Layout}
use Rattle.pool.specs.Written.{prefix_writes}
use Rattle.pool.specs.Holds.{Seat, chain_places}
use Rattle.pool.specs.Means.{Among}
use Rattle.pool.proofs.Local.{slot_agree}
use Rattle.plan.specs.Cells.{cell_of, end_cell}
use Rattle.pool.specs.Write.{Write, writes}
use Rattle.rows.specs.Writes.{route_writes, inner_writes}
use Rattle.plan.proofs.Way.{HoldsWay, InnerBut}
use Rattle.plan.proofs.Chains.{RouteBut, end_owner}
use Rattle.pool.proofs.Writes.{Off, word_off, off_append, length_writes}
use Rattle.pool.proofs.Laid.{Agree, Outside, Laid, one_joint, payload_fits, prefix_fits}
use Rattle.edit.proofs.Encodes.{Aside}

module _ {P : Type 0} (L : Layout P) where
  -- ---- cells

  -- a cell is the root's word, a side of an inner place, or the next link of a route place
  pub data Cell (c cell : ℕ) : Type 0 where
    at_root : cell ≡ 2 → Cell c cell
    at_left : (j : ℕ) → j < c → cell ≡ L.joint c j + 1 → Cell c cell
    at_right : (j : ℕ) → j < c → cell ≡ L.joint c j + 2 → Cell c cell
    at_next : (q : ℕ) → q < c → cell ≡ L.seat q + L.next_offset → Cell c cell

module _ {P : Type 0} (L : Layout P) (laid : Laid L) where
  pub way_cell : (c : ℕ) (ws : List ℕ) (w : List (Step ℕ (Seat P))) → HoldsWay L c ws w → Cell L c (cell_of L c w)
  way_cell c ws [] h = at_root refl
  way_cell c ws (went_left j b r ∷ w) h = at_left j h.0 refl
  way_cell c ws (went_right j b l ∷ w) h = at_right j h.0 refl

  pub chain_cell : (c from : ℕ) (xs : List (Entry (Seat P))) → Cell L c from → ((p : ℕ) → Among p (chain_places xs) → p < c) → Cell L c (end_cell L from xs)
  chain_cell c from [] h f = h
  chain_cell c from (x ∷ xs) h f = let v = end_owner L from x xs in at_next v.0 (f v.0 v.1) v.2

  -- where a cell is not
  pub record Clear (c cell : ℕ) : Type 0 where
    pub below : cell < L.slot c 0
    pub head : (cell ≡ 0 → ⊥) × (cell ≡ 1 → ⊥) × (cell ≡ 3 → ⊥) × (cell ≡ 4 → ⊥)
    pub route : (p x : ℕ) → p < c → L.seat p ≤ x → x < L.seat p + laid.seat_words → (x ≡ L.seat p + L.next_offset → ⊥) → x ≡ cell → ⊥
    pub mark : (q : ℕ) → q < c → L.joint c q ≡ cell → ⊥

  -- the next link of a place is in no other place, and in its own nowhere else
  next_elsewhere : (q p x : ℕ) → L.seat p ≤ x → x < L.seat p + laid.seat_words → (x ≡ L.seat p + L.next_offset → ⊥) → x ≡ L.seat q + L.next_offset → ⊥
  next_elsewhere q p x a b n e = go (lt_or_le p q) (lt_or_le q p)
    where
      go : (p < q) ⊎ (q ≤ p) → (q < p) ⊎ (p ≤ q) → ⊥
      go (inl h) k = omega (arith, laid.seats_apart p q h)
      go (inr h) (inl k) = omega (arith, laid.seats_apart q p k, laid.next_fits)
      go (inr h) (inr k) = let same : q ≡ p = omega arith in n (e ∙ ap (λ (y : ℕ). L.seat y + L.next_offset) same)

  pub cell_clear : (c cell : ℕ) → Cell L c cell → Clear c cell
  cell_clear c cell (at_root e) = record {
    below = omega (arith, laid.slot_first c 0);
    head = omega arith;
    route = λ p x l a b n f. omega (arith, laid.seat_past p);
    mark = λ q l f. omega (arith, laid.joint_first c q);
  }
  cell_clear c cell (at_left j l e) = record {
    below = omega (arith, laid.slot_past c j 0 l);
    head = omega (arith, laid.joint_first c j);
    route = λ p x m a b n f. omega (arith, laid.joint_past c p j m);
    mark = λ q m f. let o = one_joint L laid c q j 0 1 (omega arith) (omega arith) (omega arith) in omega (arith, o.1);
  }
  cell_clear c cell (at_right j l e) = record {
    below = omega (arith, laid.slot_past c j 0 l);
    head = omega (arith, laid.joint_first c j);
    route = λ p x m a b n f. omega (arith, laid.joint_past c p j m);
    mark = λ q m f. let o = one_joint L laid c q j 0 2 (omega arith) (omega arith) (omega arith) in omega (arith, o.1);
  }
  cell_clear c cell (at_next q l e) = record {
    below = omega (arith, laid.joint_past c q q l, laid.slot_past c q 0 l, laid.next_fits);
    head = omega (arith, laid.seat_past q);
    route = λ p x m a b n f. next_elsewhere q p x a b n (f ∙ e);
    mark = λ j m f. omega (arith, laid.joint_past c q j l, laid.next_fits);
  }

  -- ---- off a place

  abbrev pub OffSeat : ℕ → ℕ → Type 0
  OffSeat x i = (x < L.seat i) ⊎ (L.seat i + laid.seat_words ≤ x)

  abbrev pub OffJoint : ℕ → ℕ → ℕ → Type 0
  OffJoint c x j = (x < L.joint c j) ⊎ (L.joint c j + 3 ≤ x)

  -- a word of one place is off another
  pub seats_apart_lem : (p i x : ℕ) → (p ≡ i → ⊥) → L.seat p ≤ x → x < L.seat p + laid.seat_words → OffSeat x i
  seats_apart_lem p i x n a b = go (lt_or_le p i)
    where
      go : (p < i) ⊎ (i ≤ p) → OffSeat x i
      go (inl h) = inl (omega (arith, laid.seats_apart p i h))
      go (inr h) = inr (omega (arith, laid.seats_apart i p (omega (arith, n))))

  pub joints_apart_lem : (c q j x : ℕ) → (q ≡ j → ⊥) → L.joint c q ≤ x → x < L.joint c q + 3 → OffJoint c x j
  joints_apart_lem c q j x n a b = go (lt_or_le q j)
    where
      go : (q < j) ⊎ (j ≤ q) → OffJoint c x j
      go (inl h) = inl (omega (arith, laid.joints_apart c q j h))
      go (inr h) = inr (omega (arith, laid.joints_apart c j q (omega (arith, n))))

  pub off_route : (x i : ℕ) (r : Route P) (n : ℕ) → OffSeat x i → Off x (route_writes L i r n)
  off_route x i r n o =
      off_append x (L.put_payload (L.seat i) r.payload) (prefix_writes L (L.seat i + L.prefix_offset) r.prefix ++ ((L.seat i + L.next_offset, n) ∷ []))
      (laid.payload_put (L.seat i) r.payload x (front o))
      (off_append x (prefix_writes L (L.seat i + L.prefix_offset) r.prefix) ((L.seat i + L.next_offset, n) ∷ [])
      (off_append x (L.put_address (L.seat i + L.prefix_offset) r.prefix.address) ((L.seat i + L.prefix_offset + L.address_words, r.prefix.length) ∷ [])
      (laid.address_put (L.seat i + L.prefix_offset) r.prefix.address x (outside L.prefix_offset L.address_words (omega (arith, prefix_fits laid)) o))
      (λ f. away (L.prefix_offset + L.address_words) (prefix_fits laid) o (omega arith), tt))
      (λ f. away L.next_offset laid.next_fits o f, tt))
    where
      front : OffSeat x i → Outside laid.payload_words (L.seat i) x
      front (inl h) = inl h
      front (inr h) = inr (omega (arith, payload_fits laid))

      outside : (m k : ℕ) → m + k ≤ laid.seat_words → OffSeat x i → Outside k (L.seat i + m) x
      outside m k l (inl h) = inl (omega arith)
      outside m k l (inr h) = inr (omega arith)

      away : (m : ℕ) → m < laid.seat_words → OffSeat x i → x ≡ L.seat i + m → ⊥
      away m l (inl h) f = omega arith
      away m l (inr h) f = omega arith

  pub off_inner : (x c j b l r : ℕ) → OffJoint c x j → Off x (inner_writes L c j b l r)
  off_inner x c j b l r (inl h) = omega arith
  off_inner x c j b l r (inr h) = omega arith

  -- ---- what is spared

  module _ (ws : List ℕ) (xs : List Write) where
    pub route_spared : (cell p : ℕ) → ((x : ℕ) → L.seat p ≤ x → x < L.seat p + L.next_offset → Off x xs)
        → ((L.seat p + L.next_offset ≡ cell → ⊥) → Off (L.seat p + L.next_offset) xs) → RouteBut L ws (writes xs ws) cell p
    route_spared cell p f g = record {
      kind = word_off (L.seat p) xs ws (f (L.seat p) (omega arith) (omega (arith, laid.in_seat)));
      known = laid.known_read ws (writes xs ws) (L.seat p) payload;
      payload = laid.payload_read ws (writes xs ws) (L.seat p) payload;
      address = laid.address_read ws (writes xs ws) (L.seat p + L.prefix_offset) (λ x a b. word_off x xs ws (f x (omega arith) (omega (arith, laid.in_seat))));
      length = word_off (L.seat p + L.prefix_offset + L.address_words) xs ws (f (L.seat p + L.prefix_offset + L.address_words) (omega arith) (omega (arith, laid.in_seat)));
      next = λ n. word_off (L.seat p + L.next_offset) xs ws (g n);
    }
      where
        payload : Agree laid.payload_words ws (writes xs ws) (L.seat p)
        payload x a b = word_off x xs ws (f x a (omega (arith, laid.in_seat)))

    pub inner_spared : (c cell q : ℕ) → Off (L.joint c q) xs → ((L.joint c q + 1 ≡ cell → ⊥) → Off (L.joint c q + 1) xs)
        → ((L.joint c q + 2 ≡ cell → ⊥) → Off (L.joint c q + 2) xs)
        → InnerBut L c ws (writes xs ws) cell q
    inner_spared c cell q m f g = record {
      mark = word_off (L.joint c q) xs ws m;
      left = λ n. word_off (L.joint c q + 1) xs ws (f n);
      right = λ n. word_off (L.joint c q + 2) xs ws (g n);
    }

    -- a write to the places' words leaves the rest
    pub aside : (c : ℕ) → Off 0 xs → Off 3 xs → Off 4 xs → ((x : ℕ) → L.slot c 0 ≤ x → Off x xs) → Aside L c ws (writes xs ws)
    aside c a b d f = record {
      long = length_writes xs ws;
      capacity = word_off 0 xs ws a;
      trial = word_off 3 xs ws b;
      standing = word_off 4 xs ws d;
      slots = λ k l. slot_agree L laid c ws (writes xs ws) k (λ x m n. word_off x xs ws (f x (omega (arith, laid.slot_first c k))));
    }
