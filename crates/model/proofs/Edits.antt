-- Insert, remove and replace: each keeps the walk order, changes one route and no other, and can be taken back.
use Prim.Native.Nat.{suc}
use mathlib.Core.Path.{◌≡◌, refl, sym, ap, subst, ◌∙◌}
use mathlib.Core.Bool.{Bool, true, false, true≢false}
use mathlib.Core.List.{List, [], ◌∷◌}
use mathlib.Core.Logic.{◌⊎◌, inl, inr, ◌↔◌, ⊎_elim}
use mathlib.Core.Option.{none, some}
use lib.ListN.{length}
use Rattle.model.specs.Prefix.{Prefix, Before, before, same}
use Rattle.model.specs.Routes.{Route, Held, AllAfter, InOrder, find, insert, remove, replace}
use Rattle.model.proofs.Order.{same_true, true_same, true_before, before_irrefl, behind_not_before, Placed, ahead, one, behind, placed}
use Rattle.model.proofs.Routes.{after_trans, held_after, find_after, find_held, held_find}
use Rattle.model.proofs.Tests.{none_not_some}

module _ {P : Type 0} where
  -- ---- a head, and the prefix that is looked for

  -- it is not the head's, and not in the rest
  pub off_head : (p : Prefix) (x : Route P) (xs : List (Route P)) → find p (x ∷ xs) ≡ none → (same p x.prefix ≡ false) × (find p xs ≡ none)
  off_head p x xs e = go (same p x.prefix) refl
    where
      go : (b : Bool) → same p x.prefix ≡ b → (same p x.prefix ≡ false) × (find p xs ≡ none)
      go true t = absurd (none_not_some (sym (rw t at e)))
      go false t = (t, rw t at e)

  -- it is the head's, or in the rest
  pub data Found (p : Prefix) (r x : Route P) (xs : List (Route P)) : Type 0 where
    here : same p x.prefix ≡ true → x ≡ r → Found p r x xs
    further : same p x.prefix ≡ false → find p xs ≡ some r → Found p r x xs

  pub on_head : (p : Prefix) (r x : Route P) (xs : List (Route P)) → find p (x ∷ xs) ≡ some r → Found p r x xs
  on_head p r x xs e = go (same p x.prefix) refl
    where
      go : (b : Bool) → same p x.prefix ≡ b → Found p r x xs
      go true t = let f : some x ≡ some r = rw t at e in here t (cc)
      go false t = further t (rw t at e)

  -- ---- insert

  insert_after : (p : Prefix) (r : Route P) (l : List (Route P)) → AllAfter p l → Before p r.prefix → AllAfter p (insert r l)
  insert_after p r [] a h = (h, tt)
  insert_after p r (x ∷ xs) a h = go (before r.prefix x.prefix) refl (insert_after p r xs a.1 h)
    where
      go : (b : Bool) → before r.prefix x.prefix ≡ b → AllAfter p (insert r xs) → AllAfter p (insert r (x ∷ xs))
      go true t ih = rw t (h, a)
      go false t ih = rw t (a.0, ih)

  pub insert_order : (r : Route P) (l : List (Route P)) → InOrder l → find r.prefix l ≡ none → InOrder (insert r l)
  insert_order r [] o e = (tt, tt)
  insert_order r (x ∷ xs) o e = let w = off_head r.prefix x xs e in go (placed r.prefix x.prefix) w.0 (insert_order r xs o.1 w.1)
    where
      go : Placed r.prefix x.prefix → same r.prefix x.prefix ≡ false → InOrder (insert r xs) → InOrder (insert r (x ∷ xs))
      go (ahead h) f ih = rw (true_before r.prefix x.prefix h) ((h, after_trans r.prefix x.prefix xs h o.0), o)
      go (one s) f ih = let z : true ≡ false = sym (true_same r.prefix x.prefix s) ∙ f in absurd (true≢false z)
      go (behind h) f ih = rw (behind_not_before r.prefix x.prefix h) (insert_after x.prefix r xs o.0 h, ih)

  -- one route more, and no other
  pub insert_held : (q r : Route P) (l : List (Route P)) → Held q (insert r l) ↔ ((q ≡ r) ⊎ Held q l)
  insert_held q r [] = (λ h. h, λ h. h)
  insert_held q r (x ∷ xs) = go (before r.prefix x.prefix) refl (insert_held q r xs)
    where
      out : Held q (insert r xs) ↔ ((q ≡ r) ⊎ Held q xs) → (q ≡ x) ⊎ Held q (insert r xs) → (q ≡ r) ⊎ Held q (x ∷ xs)
      out ih (inl e) = inr (inl e)
      out ih (inr h) = ⊎_elim (λ e. inl e) (λ k. inr (inr k)) (ih.0 h)

      back : Held q (insert r xs) ↔ ((q ≡ r) ⊎ Held q xs) → (q ≡ r) ⊎ Held q (x ∷ xs) → (q ≡ x) ⊎ Held q (insert r xs)
      back ih (inl e) = inr (ih.1 (inl e))
      back ih (inr (inl e)) = inl e
      back ih (inr (inr k)) = inr (ih.1 (inr k))

      go : (b : Bool) → before r.prefix x.prefix ≡ b → Held q (insert r xs) ↔ ((q ≡ r) ⊎ Held q xs) → Held q (insert r (x ∷ xs)) ↔ ((q ≡ r) ⊎ Held q (x ∷ xs))
      go true t ih = rw t (λ h. h, λ h. h)
      go false t ih = rw t (out ih, back ih)

  pub insert_found : (r : Route P) (l : List (Route P)) → InOrder l → find r.prefix l ≡ none → find r.prefix (insert r l) ≡ some r
  insert_found r l o e = held_find r (insert r l) (insert_order r l o e) ((insert_held r r l).1 (inl refl))

  -- before all others it is the first
  pub insert_front : (r : Route P) (l : List (Route P)) → AllAfter r.prefix l → insert r l ≡ r ∷ l
  insert_front r [] a = refl
  insert_front r (x ∷ xs) a = rw (true_before r.prefix x.prefix a.0)

  pub length_insert : (r : Route P) (l : List (Route P)) → length (insert r l) ≡ suc (length l)
  length_insert r [] = refl
  length_insert r (x ∷ xs) = go (before r.prefix x.prefix) refl (length_insert r xs)
    where
      go : (b : Bool) → before r.prefix x.prefix ≡ b → length (insert r xs) ≡ suc (length xs) → length (insert r (x ∷ xs)) ≡ suc (length (x ∷ xs))
      go true t ih = rw t
      go false t ih = rw t (ap suc ih)

  -- ---- remove

  remove_after : (p q : Prefix) (l : List (Route P)) → AllAfter p l → AllAfter p (remove q l)
  remove_after p q [] a = tt
  remove_after p q (x ∷ xs) a = go (same q x.prefix) refl (remove_after p q xs a.1)
    where
      go : (b : Bool) → same q x.prefix ≡ b → AllAfter p (remove q xs) → AllAfter p (remove q (x ∷ xs))
      go true t ih = rw t a.1
      go false t ih = rw t (a.0, ih)

  pub remove_order : (p : Prefix) (l : List (Route P)) → InOrder l → InOrder (remove p l)
  remove_order p [] o = tt
  remove_order p (x ∷ xs) o = go (same p x.prefix) refl (remove_order p xs o.1)
    where
      go : (b : Bool) → same p x.prefix ≡ b → InOrder (remove p xs) → InOrder (remove p (x ∷ xs))
      go true t ih = rw t o.1
      go false t ih = rw t (remove_after x.prefix p xs o.0, ih)

  pub remove_absent : (p : Prefix) (l : List (Route P)) → InOrder l → find p (remove p l) ≡ none
  remove_absent p [] o = refl
  remove_absent p (x ∷ xs) o = go (same p x.prefix) refl (remove_absent p xs o.1)
    where
      go : (b : Bool) → same p x.prefix ≡ b → find p (remove p xs) ≡ none → find p (remove p (x ∷ xs)) ≡ none
      go true t ih = rw t (find_after p xs (subst (λ (z : Prefix). AllAfter z xs) (sym (same_true p x.prefix t)) o.0))
      go false t ih = rw t (rw t ih)

  -- one route less, and no other
  pub remove_held : (q : Route P) (p : Prefix) (l : List (Route P)) → InOrder l → Held q (remove p l) ↔ (Held q l × (q.prefix ≡ p → ⊥))
  remove_held q p [] o = (λ h. absurd h, λ h. h.0)
  remove_held q p (x ∷ xs) o = go (same p x.prefix) refl (remove_held q p xs o.1)
    where
      past : same p x.prefix ≡ true → Held q xs → q.prefix ≡ p → ⊥
      past t h e = before_irrefl q.prefix (subst (λ (z : Prefix). Before z q.prefix) (sym (e ∙ same_true p x.prefix t)) (held_after x.prefix q xs o.0 h))

      rest : same p x.prefix ≡ true → (q ≡ x) ⊎ Held q xs → (q.prefix ≡ p → ⊥) → Held q xs
      rest t (inl e) f = absurd (f (ap (λ (z : Route P). z.prefix) e ∙ sym (same_true p x.prefix t)))
      rest t (inr h) f = h

      other : same p x.prefix ≡ false → q ≡ x → q.prefix ≡ p → ⊥
      other t e f = true≢false (sym (true_same p x.prefix (sym f ∙ ap (λ (z : Route P). z.prefix) e)) ∙ t)

      out : same p x.prefix ≡ false → Held q (remove p xs) ↔ (Held q xs × (q.prefix ≡ p → ⊥)) → (q ≡ x) ⊎ Held q (remove p xs)
          → ((q ≡ x) ⊎ Held q xs) × (q.prefix ≡ p → ⊥)
      out t ih (inl e) = (inl e, other t e)
      out t ih (inr h) = (inr (ih.0 h).0, (ih.0 h).1)

      back : Held q (remove p xs) ↔ (Held q xs × (q.prefix ≡ p → ⊥)) → (q ≡ x) ⊎ Held q xs → (q.prefix ≡ p → ⊥) → (q ≡ x) ⊎ Held q (remove p xs)
      back ih (inl e) f = inl e
      back ih (inr h) f = inr (ih.1 (h, f))

      go : (b : Bool) → same p x.prefix ≡ b → Held q (remove p xs) ↔ (Held q xs × (q.prefix ≡ p → ⊥))
          → Held q (remove p (x ∷ xs)) ↔ (Held q (x ∷ xs) × (q.prefix ≡ p → ⊥))
      go true t ih = rw t (λ h. (inr h, past t h), λ w. rest t w.0 w.1)
      go false t ih = rw t (out t ih, λ w. back ih w.0 w.1)

  pub length_remove : (p : Prefix) (r : Route P) (l : List (Route P)) → find p l ≡ some r → suc (length (remove p l)) ≡ length l
  length_remove p r [] e = absurd (none_not_some e)
  length_remove p r (x ∷ xs) e = go (on_head p r x xs e) (length_remove p r xs)
    where
      go : Found p r x xs → (find p xs ≡ some r → suc (length (remove p xs)) ≡ length xs) → suc (length (remove p (x ∷ xs))) ≡ length (x ∷ xs)
      go (here t f) ih = rw t
      go (further t f) ih = rw t (ap suc (ih f))

  -- ---- replace: the old route out, the new one in

  pub replace_is : (r old : Route P) (l : List (Route P)) → InOrder l → find r.prefix l ≡ some old → replace r l ≡ insert r (remove r.prefix l)
  replace_is r old [] o e = absurd (none_not_some e)
  replace_is r old (x ∷ xs) o e = go (on_head r.prefix old x xs e) (replace_is r old xs o.1)
    where
      first : same r.prefix x.prefix ≡ true → AllAfter r.prefix xs
      first t = subst (λ (z : Prefix). AllAfter z xs) (sym (same_true r.prefix x.prefix t)) o.0

      later : find r.prefix xs ≡ some old → Before x.prefix r.prefix
      later f = let w = find_held r.prefix old xs f in subst (Before x.prefix) w.1 (held_after x.prefix old xs o.0 w.0)

      go : Found r.prefix old x xs → (find r.prefix xs ≡ some old → replace r xs ≡ insert r (remove r.prefix xs)) → replace r (x ∷ xs) ≡ insert r (remove r.prefix (x ∷ xs))
      go (here t f) ih = rw t (sym (insert_front r xs (first t)))
      go (further t f) ih = rw t (rw (behind_not_before r.prefix x.prefix (later f)) (ap (λ (l : List (Route P)). x ∷ l) (ih f)))

  module _ (r old : Route P) (l : List (Route P)) (o : InOrder l) (e : find r.prefix l ≡ some old) where
    pub replace_order : InOrder (replace r l)
    replace_order = rw (replace_is r old l o e) (insert_order r (remove r.prefix l) (remove_order r.prefix l o) (remove_absent r.prefix l o))

    -- one route for another, and no other
    pub replace_held : (q : Route P) → Held q (replace r l) ↔ ((q ≡ r) ⊎ (Held q l × (q.prefix ≡ r.prefix → ⊥)))
    replace_held q =
        let i = insert_held q r (remove r.prefix l) in
        let m = remove_held q r.prefix l o in
        rw (replace_is r old l o e) (λ h. ⊎_elim (λ f. inl f) (λ k. inr (m.0 k)) (i.0 h), λ w. i.1 (⊎_elim (λ f. inl f) (λ k. inr (m.1 k)) w))

    pub replace_found : find r.prefix (replace r l) ≡ some r
    replace_found = rw (replace_is r old l o e) (insert_found r (remove r.prefix l) (remove_order r.prefix l o) (remove_absent r.prefix l o))

    pub length_replace : length (replace r l) ≡ length l
    length_replace = rw (replace_is r old l o e) (length_insert r (remove r.prefix l) ∙ length_remove r.prefix old l e)

  -- ---- they undo one another

  pub remove_insert : (r : Route P) (l : List (Route P)) → find r.prefix l ≡ none → remove r.prefix (insert r l) ≡ l
  remove_insert r [] e = rw (true_same r.prefix r.prefix refl)
  remove_insert r (x ∷ xs) e = let w = off_head r.prefix x xs e in go (before r.prefix x.prefix) refl w.0 (remove_insert r xs w.1)
    where
      go : (b : Bool) → before r.prefix x.prefix ≡ b → same r.prefix x.prefix ≡ false → remove r.prefix (insert r xs) ≡ xs
          → remove r.prefix (insert r (x ∷ xs)) ≡ x ∷ xs
      go true t f ih = rw t (rw (true_same r.prefix r.prefix refl))
      go false t f ih = rw t (rw f (ap (λ (l : List (Route P)). x ∷ l) ih))

  pub insert_remove : (p : Prefix) (r : Route P) (l : List (Route P)) → InOrder l → find p l ≡ some r → insert r (remove p l) ≡ l
  insert_remove p r [] o e = absurd (none_not_some e)
  insert_remove p r (x ∷ xs) o e = go (on_head p r x xs e) (insert_remove p r xs o.1)
    where
      go : Found p r x xs → (find p xs ≡ some r → insert r (remove p xs) ≡ xs) → insert r (remove p (x ∷ xs)) ≡ x ∷ xs
      go (here t f) ih = rw t (rw (← f) (insert_front x xs o.0))
      go (further t f) ih = rw t (rw (behind_not_before r.prefix x.prefix (held_after x.prefix r xs o.0 (find_held p r xs f).0)) (ap (λ (l : List (Route P)). x ∷ l) (ih f)))

  pub replace_back : (r old : Route P) (l : List (Route P)) → find r.prefix l ≡ some old
      → replace (record { prefix = r.prefix; payload = old.payload }) (replace r l) ≡ l
  replace_back r old [] e = absurd (none_not_some e)
  replace_back r old (x ∷ xs) e = go (on_head r.prefix old x xs e) (replace_back r old xs)
    where
      go : Found r.prefix old x xs
          → (find r.prefix xs ≡ some old → replace (record { prefix = r.prefix; payload = old.payload }) (replace r xs) ≡ xs)
          → replace (record { prefix = r.prefix; payload = old.payload }) (replace r (x ∷ xs)) ≡ x ∷ xs
      go (here t f) ih = rw t (rw (true_same r.prefix r.prefix refl) (λ i. record { prefix = same_true r.prefix x.prefix t i; payload = (sym f i).payload } ∷ xs))
      go (further t f) ih = rw t (rw t (ap (λ (l : List (Route P)). x ∷ l) (ih f)))
