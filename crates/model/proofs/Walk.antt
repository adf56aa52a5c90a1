-- "The walk shows every route once, in order": from the first, each next after the one before, to the end, it lists the routes.
use mathlib.Core.Path.{◌≡◌, refl, sym, subst, ◌∙◌}
use mathlib.Core.Bool.{Bool, true, false, true≢false}
use mathlib.Core.List.{List, [], ◌∷◌, ◌++◌, append_assoc}
use mathlib.Core.Logic.{◌⊎◌, inl, inr}
use mathlib.Core.Option.{Option, none, some}
use Rattle.model.specs.Prefix.{Prefix, Before, before}
use Rattle.model.specs.Routes.{Route, Held, AllAfter, InOrder, first_of, next_after}
use Rattle.model.proofs.Order.{before_true, true_before, behind_not_before, same_not_before}
use Rattle.model.proofs.Routes.{held_after}
use Rattle.model.proofs.Append.{held_append}
use Rattle.model.proofs.Tests.{none_not_some}

module _ {P : Type 0} where
  -- what comes after p begins the list, where all of it does
  pub next_front : (p : Prefix) (l : List (Route P)) → AllAfter p l → next_after p l ≡ first_of l
  next_front p [] a = refl
  next_front p (x ∷ xs) a = rw (true_before p x.prefix a.0)

  -- after a route that is held comes the one behind it
  pub next_behind : (xs ys : List (Route P)) (r : Route P) → InOrder (xs ++ r ∷ ys) → next_after r.prefix (xs ++ r ∷ ys) ≡ first_of ys
  next_behind [] ys r o = rw (same_not_before r.prefix r.prefix refl) (next_front r.prefix ys o.0)
  next_behind (x ∷ xs) ys r o =
      rw (behind_not_before r.prefix x.prefix (held_after x.prefix r (xs ++ r ∷ ys) o.0 ((held_append r xs (r ∷ ys)).1 (inr (inl refl)))))
      (next_behind xs ys r o.1)

  -- a walk of l that stands at o goes on to list just these routes
  abbrev pub Lists : List (Route P) → Option (Route P) → List (Route P) → Type 0
  Lists l none [] = Unit {0}
  Lists l none (x ∷ xs) = ⊥
  Lists l (some r) [] = ⊥
  Lists l (some r) (x ∷ xs) = (r ≡ x) × Lists l (next_after r.prefix l) xs

  lists_rest : (xs ys : List (Route P)) → InOrder (xs ++ ys) → Lists (xs ++ ys) (first_of ys) ys
  lists_rest xs [] o = tt
  lists_rest xs (y ∷ ys) o =
      let e : (xs ++ (y ∷ [])) ++ ys ≡ xs ++ (y ∷ ys) = append_assoc xs (y ∷ []) ys in
      let rest : Lists (xs ++ (y ∷ ys)) (first_of ys) ys = subst (λ (l : List (Route P)). Lists l (first_of ys) ys) e (lists_rest (xs ++ (y ∷ [])) ys (subst InOrder (sym e) o)) in
      (refl, subst (λ (n : Option (Route P)). Lists (xs ++ (y ∷ ys)) n ys) (sym (next_behind xs ys y o)) rest)

  pub walk_lists : (l : List (Route P)) → InOrder l → Lists l (first_of l) l
  walk_lists l o = lists_rest [] l o

  -- the next after any prefix, held or not, is the first of those that come after it
  pub record IsNext (p : Prefix) (l : List (Route P)) (r : Route P) : Type 0 where
    pub held : Held r l
    pub later : Before p r.prefix
    pub nearest : (q : Route P) → Held q l → Before p q.prefix → (q ≡ r) ⊎ Before r.prefix q.prefix

  pub next_is : (p : Prefix) (l : List (Route P)) (r : Route P) → InOrder l → next_after p l ≡ some r → IsNext p l r
  next_is p [] r o e = absurd (none_not_some e)
  next_is p (x ∷ xs) r o e = go (before p x.prefix) refl (next_is p xs r o.1)
    where
      from : IsNext p xs r → (q : Route P) → (q ≡ x) ⊎ Held q xs → before p x.prefix ≡ false → Before p q.prefix → (q ≡ r) ⊎ Before r.prefix q.prefix
      from i q (inl f) t b = absurd (true≢false (sym (true_before p x.prefix (subst (λ (z : Route P). Before p z.prefix) f b)) ∙ t))
      from i q (inr h) t b = i.nearest q h b

      first : x ≡ r → (q : Route P) → (q ≡ x) ⊎ Held q xs → (q ≡ r) ⊎ Before r.prefix q.prefix
      first f q (inl g) = inl (g ∙ f)
      first f q (inr h) = inr (subst (λ (z : Route P). Before z.prefix q.prefix) f (held_after x.prefix q xs o.0 h))

      go : (b : Bool) → before p x.prefix ≡ b → (next_after p xs ≡ some r → IsNext p xs r) → IsNext p (x ∷ xs) r
      go true t ih =
          let s : some x ≡ some r = rw t at e in
          let f : x ≡ r = cc in
          record { held = inl (sym f); later = subst (λ (z : Route P). Before p z.prefix) f (before_true p x.prefix t); nearest = λ q h b. first f q h }
      go false t ih = let i = ih (rw t at e) in record { held = inr i.held; later = i.later; nearest = λ q h b. from i q h t b }

  -- and where there is none, nothing comes after it
  pub next_none : (p : Prefix) (l : List (Route P)) → next_after p l ≡ none → (q : Route P) → Held q l → Before p q.prefix → ⊥
  next_none p [] e q h b = elim h [ ]
  next_none p (x ∷ xs) e q h b = go (before p x.prefix) refl h (next_none p xs)
    where
      go : (c : Bool) → before p x.prefix ≡ c → (q ≡ x) ⊎ Held q xs → (next_after p xs ≡ none → (q : Route P) → Held q xs → Before p q.prefix → ⊥) → ⊥
      go true t w ih = none_not_some (sym (rw t at e))
      go false t (inl f) ih =
          true≢false (sym (true_before p x.prefix (subst (λ (z : Route P). Before p z.prefix) f b)) ∙ t)
      go false t (inr k) ih = ih (rw t at e) q k b
