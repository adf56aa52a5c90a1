-- A list of routes in walk order: what it holds, what `find` finds in it, and that the same routes make the same list.
use mathlib.Core.Path.{◌≡◌, refl, sym, ap, ap₂, subst, ◌∙◌}
use mathlib.Core.Bool.{Bool, true, false, true≢false}
use mathlib.Core.List.{List, [], ◌∷◌}
use mathlib.Core.Logic.{◌⊎◌, inl, inr, ◌↔◌}
use mathlib.Core.Option.{Option, none, some}
use Rattle.model.specs.Prefix.{Prefix, Before, same}
use Rattle.model.specs.Routes.{Route, Held, AllAfter, InOrder, find, present, holds}
use Rattle.model.proofs.Order.{same_true, true_same, before_irrefl, before_trans, before_not_same, behind_not_same}
use Rattle.model.proofs.Tests.{none_not_some}

module _ {P : Type 0} where
  -- ---- after a prefix

  pub after_trans : (p q : Prefix) (l : List (Route P)) → Before p q → AllAfter q l → AllAfter p l
  after_trans p q [] h a = tt
  after_trans p q (x ∷ xs) h a = (before_trans p q x.prefix h a.0, after_trans p q xs h a.1)

  pub held_after : (p : Prefix) (r : Route P) (l : List (Route P)) → AllAfter p l → Held r l → Before p r.prefix
  held_after p r [] a h = elim h [ ]
  held_after p r (x ∷ xs) a (inl e) = rw e a.0
  held_after p r (x ∷ xs) a (inr h) = held_after p r xs a.1 h

  pub all_after : (p : Prefix) (l : List (Route P)) → ((r : Route P) → Held r l → Before p r.prefix) → AllAfter p l
  all_after p [] f = tt
  all_after p (x ∷ xs) f = (f x (inl refl), all_after p xs (λ r h. f r (inr h)))

  -- ---- find

  pub find_after : (p : Prefix) (l : List (Route P)) → AllAfter p l → find p l ≡ none
  find_after p [] a = refl
  find_after p (x ∷ xs) a = rw (before_not_same p x.prefix a.0) (find_after p xs a.1)

  -- what is found is held, and has the prefix
  pub find_held : (p : Prefix) (r : Route P) (l : List (Route P)) → find p l ≡ some r → Held r l × (r.prefix ≡ p)
  find_held p r [] e = absurd (none_not_some e)
  find_held p r (x ∷ xs) e = go (same p x.prefix) refl (find_held p r xs)
    where
      go : (b : Bool) → same p x.prefix ≡ b → (find p xs ≡ some r → Held r xs × (r.prefix ≡ p)) → Held r (x ∷ xs) × (r.prefix ≡ p)
      go true t ih =
          let f : some x ≡ some r = rw t at e in
          let g : x ≡ r = cc in
          (inl (sym g), ap (λ (y : Route P). y.prefix) (sym g) ∙ sym (same_true p x.prefix t))
      go false t ih = let w = ih (rw t at e) in (inr w.0, w.1)

  -- and what is held is found
  pub held_find : (r : Route P) (l : List (Route P)) → InOrder l → Held r l → find r.prefix l ≡ some r
  held_find r [] o h = elim h [ ]
  held_find r (x ∷ xs) o (inl e) = rw (true_same r.prefix x.prefix (ap (λ (y : Route P). y.prefix) e)) (ap some (sym e))
  held_find r (x ∷ xs) o (inr h) =
      rw (behind_not_same r.prefix x.prefix (held_after x.prefix r xs o.0 h)) (held_find r xs o.1 h)

  -- no route of an absent prefix is held
  pub absent_not_held : (p : Prefix) (r : Route P) (l : List (Route P)) → InOrder l → find p l ≡ none → Held r l → r.prefix ≡ p → ⊥
  absent_not_held p r l o e h s =
      none_not_some (sym e ∙ ap (λ (x : Prefix). find x l) (sym s) ∙ held_find r l o h)

  -- ---- the same routes are the same list

  -- the heads are one: neither can come after the other
  heads : (x y : Route P) (xs ys : List (Route P)) → AllAfter x.prefix xs → AllAfter y.prefix ys
      → (x ≡ y) ⊎ Held x ys → (y ≡ x) ⊎ Held y xs → x ≡ y
  heads x y xs ys o q (inl e) w = e
  heads x y xs ys o q (inr h) (inl e) = sym e
  heads x y xs ys o q (inr h) (inr k) =
      absurd (before_irrefl y.prefix (before_trans y.prefix x.prefix y.prefix (held_after y.prefix x ys q h) (held_after x.prefix y xs o k)))

  -- and what the first tail holds the second does
  tails : (x y : Route P) (xs ys : List (Route P)) → x ≡ y → AllAfter x.prefix xs → (r : Route P)
      → (Held r (x ∷ xs) → Held r (y ∷ ys)) → Held r xs → Held r ys
  tails x y xs ys e o r f h = go (f (inr h))
    where
      go : (r ≡ y) ⊎ Held r ys → Held r ys
      go (inl g) = absurd (before_irrefl x.prefix (subst (λ (z : Route P). Before x.prefix z.prefix) (g ∙ sym e) (held_after x.prefix r xs o h)))
      go (inr k) = k

  pub same_routes : (l m : List (Route P)) → InOrder l → InOrder m → ((r : Route P) → Held r l ↔ Held r m) → l ≡ m
  same_routes [] [] o q f = refl
  same_routes [] (y ∷ ys) o q f = absurd ((f y).1 (inl refl))
  same_routes (x ∷ xs) [] o q f = absurd ((f x).0 (inl refl))
  same_routes (x ∷ xs) (y ∷ ys) o q f =
      let e = heads x y xs ys o.0 q.0 ((f x).0 (inl refl)) ((f y).1 (inl refl)) in
      ap₂ ◌∷◌ e (same_routes xs ys o.1 q.1 (λ r. (tails x y xs ys e o.0 r (f r).0, tails y x ys xs (sym e) q.0 r (f r).1)))

module _ {P : Type 0} where
  -- ---- a prefix that is there has its route

  pub there : (p : Prefix) (l : List (Route P)) → holds p l ≡ true → (r : Route P) × (find p l ≡ some r)
  there p l t = go (find p l) refl
    where
      go : (o : Option (Route P)) → find p l ≡ o → (r : Route P) × (find p l ≡ some r)
      go none e = absurd (true≢false (sym t ∙ ap present e))
      go (some r) e = (r, e)

  pub absent : (p : Prefix) (l : List (Route P)) → holds p l ≡ false → find p l ≡ none
  absent p l t = go (find p l) refl
    where
      go : (o : Option (Route P)) → find p l ≡ o → find p l ≡ none
      go none e = e
      go (some r) e = absurd (true≢false (sym (ap present e) ∙ t))
