-- Two lists of routes, one behind the other: how find, insert and remove go to the side that they concern.
use mathlib.Core.Path.{◌≡◌, refl, ap}
use mathlib.Core.Bool.{Bool, true, false, cond}
use mathlib.Core.List.{List, [], ◌∷◌, ◌++◌}
use mathlib.Core.Logic.{◌⊎◌, inl, inr, ◌↔◌, ⊎_elim}
use mathlib.Core.Option.{Option, none, some}
use Rattle.model.specs.Prefix.{Prefix, Before, before, same}
use Rattle.model.specs.Routes.{Route, Held, AllAfter, InOrder, find, insert, remove}
use Rattle.model.proofs.Order.{behind_not_before, behind_not_same}
use Rattle.model.proofs.Routes.{held_after, all_after}
use Rattle.model.proofs.Edits.{off_head, insert_front}

module _ {P : Type 0} where
  pub held_append : (r : Route P) (l m : List (Route P)) → Held r (l ++ m) ↔ (Held r l ⊎ Held r m)
  held_append r [] m = (λ h. inr h, λ w. ⊎_elim (λ z. absurd z) (λ h. h) w)
  held_append r (x ∷ xs) m = go (held_append r xs m)
    where
      out : Held r (xs ++ m) ↔ (Held r xs ⊎ Held r m) → (r ≡ x) ⊎ Held r (xs ++ m) → ((r ≡ x) ⊎ Held r xs) ⊎ Held r m
      out ih (inl e) = inl (inl e)
      out ih (inr h) = ⊎_elim (λ k. inl (inr k)) (λ k. inr k) (ih.0 h)

      back : Held r (xs ++ m) ↔ (Held r xs ⊎ Held r m) → ((r ≡ x) ⊎ Held r xs) ⊎ Held r m → (r ≡ x) ⊎ Held r (xs ++ m)
      back ih (inl (inl e)) = inl e
      back ih (inl (inr h)) = inr (ih.1 (inl h))
      back ih (inr h) = inr (ih.1 (inr h))

      go : Held r (xs ++ m) ↔ (Held r xs ⊎ Held r m) → Held r ((x ∷ xs) ++ m) ↔ (Held r (x ∷ xs) ⊎ Held r m)
      go ih = (out ih, back ih)

  -- every route of l comes before p
  abbrev pub AllBefore : List (Route P) → Prefix → Type 0
  AllBefore l p = (r : Route P) → Held r l → Before r.prefix p

  -- every route of l comes before every route of m
  abbrev pub Apart : List (Route P) → List (Route P) → Type 0
  Apart l m = (r q : Route P) → Held r l → Held q m → Before r.prefix q.prefix

  pub append_order : (l m : List (Route P)) → InOrder l → InOrder m → Apart l m → InOrder (l ++ m)
  append_order [] m o q a = q
  append_order (x ∷ xs) m o q a = (
    all_after x.prefix (xs ++ m) (λ r h. ⊎_elim (λ k. held_after x.prefix r xs o.0 k) (λ k. a x r (inl refl) k) ((held_append r xs m).0 h)),
    append_order xs m o.1 q (λ r s h k. a r s (inr h) k),
  )

  -- ---- what concerns the right side passes over the left

  pub find_right : (p : Prefix) (l m : List (Route P)) → find p l ≡ none → find p (l ++ m) ≡ find p m
  find_right p [] m e = refl
  find_right p (x ∷ xs) m e = let w = off_head p x xs e in rw w.0 (find_right p xs m w.1)

  pub insert_right : (r : Route P) (l m : List (Route P)) → AllBefore l r.prefix → insert r (l ++ m) ≡ l ++ insert r m
  insert_right r [] m a = refl
  insert_right r (x ∷ xs) m a =
      rw (behind_not_before r.prefix x.prefix (a x (inl refl))) (ap (λ (l : List (Route P)). x ∷ l) (insert_right r xs m (λ q h. a q (inr h))))

  pub remove_right : (p : Prefix) (l m : List (Route P)) → find p l ≡ none → remove p (l ++ m) ≡ l ++ remove p m
  remove_right p [] m e = refl
  remove_right p (x ∷ xs) m e = let w = off_head p x xs e in rw w.0 (ap (λ (l : List (Route P)). x ∷ l) (remove_right p xs m w.1))

  -- ---- what concerns the left side leaves the right

  pub find_left : (p : Prefix) (l m : List (Route P)) → find p m ≡ none → find p (l ++ m) ≡ find p l
  find_left p [] m e = e
  find_left p (x ∷ xs) m e = ap (λ (f : Option (Route P)). cond (same p x.prefix) (some x) f) (find_left p xs m e)

  pub insert_left : (r : Route P) (l m : List (Route P)) → AllAfter r.prefix m → insert r (l ++ m) ≡ insert r l ++ m
  insert_left r [] m a = insert_front r m a
  insert_left r (x ∷ xs) m a = go (before r.prefix x.prefix) refl (insert_left r xs m a)
    where
      go : (b : Bool) → before r.prefix x.prefix ≡ b → insert r (xs ++ m) ≡ insert r xs ++ m → insert r ((x ∷ xs) ++ m) ≡ insert r (x ∷ xs) ++ m
      go true t ih = rw t
      go false t ih = rw t (ap (λ (l : List (Route P)). x ∷ l) ih)

  -- where the prefix is found, only its own side changes
  pub remove_left : (p : Prefix) (l m : List (Route P)) → find p m ≡ none → remove p (l ++ m) ≡ remove p l ++ m
  remove_left p [] m e = remove_none p m e
    where
      remove_none : (p : Prefix) (m : List (Route P)) → find p m ≡ none → remove p m ≡ m
      remove_none p [] e = refl
      remove_none p (x ∷ xs) e = let w = off_head p x xs e in rw w.0 (ap (λ (l : List (Route P)). x ∷ l) (remove_none p xs w.1))
  remove_left p (x ∷ xs) m e = go (same p x.prefix) refl (remove_left p xs m e)
    where
      go : (b : Bool) → same p x.prefix ≡ b → remove p (xs ++ m) ≡ remove p xs ++ m → remove p ((x ∷ xs) ++ m) ≡ remove p (x ∷ xs) ++ m
      go true t ih = rw t
      go false t ih = rw t (ap (λ (l : List (Route P)). x ∷ l) ih)

  -- a side all of whose routes come before p, or after it, does not hold p
  pub find_before : (p : Prefix) (l : List (Route P)) → AllBefore l p → find p l ≡ none
  find_before p [] a = refl
  find_before p (x ∷ xs) a = rw (behind_not_same p x.prefix (a x (inl refl))) (find_before p xs (λ q h. a q (inr h)))
