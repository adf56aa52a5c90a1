-- The lengths of an address's routes: which of them has a given one.
use Prim.Native.Nat.{ℕ, ◌≤◌, ◌<◌}
use mathlib.Core.Path.{◌≡◌, refl, sym, ap, subst, ◌∙◌}
use mathlib.Core.List.{List, [], ◌∷◌, ◌++◌}
use mathlib.Core.Logic.{inl, inr}
use mathlib.Core.Option.{none, some}
use native.Mathlib.Omega.{arith}
use Rattle.model.specs.Prefix.{Prefix}
use Rattle.model.specs.Routes.{Route, Held, InOrder, find}
use Rattle.model.proofs.Routes.{find_held, absent_not_held}
use Rattle.patricia.specs.Tree.{Entry, route_of, hung}
use Rattle.patricia.specs.Obeys.{Shorter, LongestFirst}
use Rattle.pool.specs.Holds.{Seat, bare_entry, bare_entries}
use Rattle.plan.specs.Cells.{Longer}
use Rattle.plan.specs.Steps.{NotLonger}
use Rattle.plan.specs.Planned.{Has}

module _ {P : Type 0} where
  -- ---- a length, and the prefix that it makes with the address

  held_has : (q : Route P) (a : ℕ) (es : List (Entry (Seat P))) → Held q (hung a (bare_entries es)) → (q.prefix.address ≡ a) × Has q.prefix.length es
  held_has q a [] h = elim h [ ]
  held_has q a (e ∷ es) (inl p) = (ap (λ (r : Route P). r.prefix.address) p, inl (sym (ap (λ (r : Route P). r.prefix.length) p)))
  held_has q a (e ∷ es) (inr h) = let v = held_has q a es h in (v.0, inr v.1)

  has_held : (a n : ℕ) (es : List (Entry (Seat P))) → Has n es → (q : Route P) × Held q (hung a (bare_entries es)) × (q.prefix ≡ record { address = a; length = n })
  has_held a n [] h = elim h [ ]
  has_held a n (e ∷ es) (inl p) = (route_of a (bare_entry e), inl refl, λ i. record { address = a; length = p i })
  has_held a n (e ∷ es) (inr h) = let v = has_held a n es h in (v.0, inr v.1, v.2)

  pub found_has : (p : Prefix) (q : Route P) (a : ℕ) (es : List (Entry (Seat P))) → find p (hung a (bare_entries es)) ≡ some q → (p.address ≡ a) × Has p.length es
  found_has p q a es e =
      let w = find_held p q (hung a (bare_entries es)) e in
      let v = held_has q a es w.0 in
      (ap (λ (x : Prefix). x.address) (sym w.1) ∙ v.0, subst (λ (x : Prefix). Has x.length es) w.1 v.1)

  pub absent_has : (p : Prefix) (a : ℕ) (es : List (Entry (Seat P))) → a ≡ p.address → InOrder (hung a (bare_entries es)) → find p (hung a (bare_entries es)) ≡ none
      → Has p.length es → ⊥
  absent_has p a es f o e h =
      let v = has_held a p.length es h in
      absent_not_held p v.0 (hung a (bare_entries es)) o e v.1 (v.2 ∙ λ i. record { address = f i; length = p.length })

  -- ---- where a length is, among routes that are longest first

  pub longest_tail : (xs ys : List (Entry (Seat P))) → LongestFirst (xs ++ ys) → LongestFirst ys
  longest_tail [] ys s = s
  longest_tail (x ∷ xs) ys s = longest_tail xs ys s.1

  pub has_tail : (n : ℕ) (xs ys : List (Entry (Seat P))) → Has n ys → Has n (xs ++ ys)
  has_tail n [] ys h = h
  has_tail n (x ∷ xs) ys h = inr (has_tail n xs ys h)

  -- not among the longer ones
  pub has_behind : (n : ℕ) (xs ys : List (Entry (Seat P))) → Longer n xs → Has n (xs ++ ys) → Has n ys
  has_behind n [] ys l h = h
  has_behind n (x ∷ xs) ys l (inl e) = absurd (omega (arith, l.0))
  has_behind n (x ∷ xs) ys l (inr h) = has_behind n xs ys l.1 h

  shorter_has : (m n : ℕ) (es : List (Entry (Seat P))) → Shorter m es → Has n es → n < m
  shorter_has m n [] s h = elim h [ ]
  shorter_has m n (e ∷ es) s (inl p) = omega (arith, s.0)
  shorter_has m n (e ∷ es) s (inr h) = shorter_has m n es s.1 h

  shorter_more : (m n : ℕ) (es : List (Entry (Seat P))) → m ≤ n → Shorter m es → Shorter n es
  shorter_more m n [] l s = tt
  shorter_more m n (e ∷ es) l s = (omega (arith, s.0), shorter_more m n es l s.1)

  -- it is the first of those that are not longer
  pub has_first : (n : ℕ) (es : List (Entry (Seat P))) → NotLonger n es → LongestFirst es → Has n es
      → (e : Entry (Seat P)) × (xs : List (Entry (Seat P))) × (es ≡ e ∷ xs) × (e.length ≡ n)
  has_first n [] l s h = elim h [ ]
  has_first n (e ∷ es) l s (inl p) = (e, es, refl, p)
  has_first n (e ∷ es) l s (inr h) = absurd (omega (arith, l, shorter_has e.length n es s.0 h))

  -- and where it is not there, all of them are shorter
  pub lacks_shorter : (n : ℕ) (es : List (Entry (Seat P))) → NotLonger n es → LongestFirst es → (Has n es → ⊥) → Shorter n es
  lacks_shorter n [] l s f = tt
  lacks_shorter n (e ∷ es) l s f =
      let g : e.length ≡ n → ⊥ = λ p. f (inl p) in
      let m : e.length < n = omega (arith, l) in
      (m, shorter_more e.length n es (omega arith) s.0)
