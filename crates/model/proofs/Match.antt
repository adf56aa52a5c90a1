-- The longest match: there is one exactly when a route matches, and it is the only one; `best` finds it.
use Prim.Native.Nat.{ℕ, ◌≤◌, ◌<◌, ◌^◌}
use mathlib.Core.Path.{◌≡◌, refl, sym, ap, subst, ◌∙◌}
use mathlib.Core.Bool.{Bool, true, false, ◌&&◌, true≢false}
use mathlib.Core.List.{List, [], ◌∷◌, ◌++◌}
use mathlib.Core.Logic.{inl, inr, ⊎_elim}
use mathlib.Core.Option.{Option, none, some}
use native.Mathlib.Nat.{le_refl, le_trans, le_of_lt}
use native.Mathlib.Omega.{arith}
use borrow.Author.Tests.{leb-true, le-leb, ltb-true, ltb-false, lt-ltb, eqb-true, eq-eqb}
use lib.Dec.{ltb, leb}
use Rattle.bits.specs.Address.{first, clear}
use Rattle.bits.proofs.First.{Clear, clear_true, true_clear, clear_same}
use Rattle.model.specs.Prefix.{Prefix, well_formed, matches}
use Rattle.model.specs.Routes.{Route, Held, InOrder, find}
use Rattle.model.specs.Match.{LongestMatch, NoMatch, longer, best}
use Rattle.model.proofs.Tests.{both, and_both}
use Rattle.model.proofs.Routes.{held_find}
use Rattle.model.proofs.Append.{held_append}

-- ---- the two tests, as facts

pub record Formed (W : ℕ) (p : Prefix) : Type 0 where
  pub short : p.length ≤ W
  pub fits : p.address < 2 ^ W
  pub zeros : Clear W p.length p.address

pub formed : (W : ℕ) (p : Prefix) → well_formed W p ≡ true → Formed W p
unfolding well_formed
formed W p t =
    let u = both (leb p.length W && ltb p.address (2 ^ W)) (clear W p.length p.address) t in
    let v = both (leb p.length W) (ltb p.address (2 ^ W)) u.0 in
    record { short = leb-true _ _ v.0; fits = ltb-true _ _ v.1; zeros = clear_true W p.length p.address u.1 }

pub formed_test : (W : ℕ) (p : Prefix) → Formed W p → well_formed W p ≡ true
unfolding well_formed
formed_test W p f = and_both (and_both (le-leb _ _ f.short) (lt-ltb _ _ f.fits)) (true_clear W p.length p.address f.zeros)

pub matched : (W : ℕ) (p : Prefix) (d : ℕ) → matches W p d ≡ true → first W p.length d ≡ first W p.length p.address
unfolding matches
matched W p d t = eqb-true _ _ t

pub matched_test : (W : ℕ) (p : Prefix) (d : ℕ) → first W p.length d ≡ first W p.length p.address → matches W p d ≡ true
unfolding matches
matched_test W p d e = eq-eqb _ _ e

-- two well formed prefixes of one length that match one destination are one
pub match_one : (W : ℕ) (p q : Prefix) (d : ℕ) → Formed W p → Formed W q → matches W p d ≡ true → matches W q d ≡ true → p.length ≡ q.length → p ≡ q
match_one W p q d f g m n e =
    let clearP : Clear W q.length p.address = subst (λ (k : ℕ). Clear W k p.address) e f.zeros in
    let share : first W q.length p.address ≡ first W q.length q.address =
    subst (λ (k : ℕ). first W k p.address ≡ first W k d) e (sym (matched W p d m)) ∙ matched W q d n in
    let a = clear_same W q.length p.address q.address clearP g.zeros share in
    λ i. record { address = a i; length = e i }

module _ {P : Type 0} where
  -- ---- `best` finds it

  -- what is found is the longest match, and where nothing is found nothing matches
  abbrev Answer : ℕ → ℕ → List (Route P) → Option (Route P) → Type 0
  Answer W d l none = NoMatch W d l
  Answer W d l (some r) = LongestMatch W d l r

  -- a head that does not match changes nothing
  skip : (W d : ℕ) (x : Route P) (xs : List (Route P)) (o : Option (Route P)) → matches W x.prefix d ≡ false → Answer W d xs o → Answer W d (x ∷ xs) o
  unfolding NoMatch
  skip W d x xs none f a = λ q h t. ⊎_elim (λ e. true≢false (sym (subst (λ (z : Route P). matches W z.prefix d ≡ true) e t) ∙ f)) (λ k. a q k t) h
  skip W d x xs (some r) f a = record {
    held = inr a.held;
    fits = a.fits;
    longest = λ q h t. ⊎_elim (λ e. absurd (true≢false (sym (subst (λ (z : Route P). matches W z.prefix d ≡ true) e t) ∙ f))) (λ k. a.longest q k t) h;
  }

  -- a head that matches is weighed against the rest
  weigh : (W d : ℕ) (x : Route P) (xs : List (Route P)) (o : Option (Route P)) → matches W x.prefix d ≡ true → Answer W d xs o → Answer W d (x ∷ xs) (longer x o)
  unfolding NoMatch
  weigh W d x xs none t a = record {
    held = inl refl;
    fits = t;
    longest = λ q h m. ⊎_elim (λ e. subst (λ (z : Route P). z.prefix.length ≤ x.prefix.length) (sym e) (le_refl _)) (λ k. absurd (a q k m)) h;
  }
  weigh W d x xs (some r) t a = go (ltb x.prefix.length r.prefix.length) refl
    where
      over : (n : ℕ) → x.prefix.length ≤ n → r.prefix.length ≤ n → (q : Route P) → Held q (x ∷ xs) → matches W q.prefix d ≡ true → q.prefix.length ≤ n
      over n h k q (inl e) m = subst (λ (z : Route P). z.prefix.length ≤ n) (sym e) h
      over n h k q (inr i) m = le_trans (a.longest q i m) k

      go : (b : Bool) → ltb x.prefix.length r.prefix.length ≡ b → Answer W d (x ∷ xs) (longer x (some r))
      go true l = rw l (record { held = inr a.held; fits = a.fits; longest = over r.prefix.length (le_of_lt (ltb-true _ _ l)) (le_refl _) })
      go false l = rw l (record { held = inl refl; fits = t; longest = over x.prefix.length (le_refl _) (ltb-false _ _ l) })

  answers : (W d : ℕ) (l : List (Route P)) → Answer W d l (best W d l)
  unfolding NoMatch
  answers W d [] = λ q h t. h
  answers W d (x ∷ xs) = go (matches W x.prefix d) refl (answers W d xs)
    where
      go : (b : Bool) → matches W x.prefix d ≡ b → Answer W d xs (best W d xs) → Answer W d (x ∷ xs) (best W d (x ∷ xs))
      go true t a = rw t (weigh W d x xs (best W d xs) t a)
      go false t a = rw t (skip W d x xs (best W d xs) t a)

  pub best_some : (W d : ℕ) (l : List (Route P)) (r : Route P) → best W d l ≡ some r → LongestMatch W d l r
  best_some W d l r e = subst (Answer W d l) e (answers W d l)

  pub best_none : (W d : ℕ) (l : List (Route P)) → best W d l ≡ none → NoMatch W d l
  best_none W d l e = subst (Answer W d l) e (answers W d l)

  pub none_best : (W d : ℕ) (l : List (Route P)) → NoMatch W d l → best W d l ≡ none
  unfolding NoMatch
  none_best W d l n = go (best W d l) refl
    where
      go : (o : Option (Route P)) → best W d l ≡ o → best W d l ≡ none
      go none e = e
      go (some r) e = let b = best_some W d l r e in absurd (n r b.held b.fits)

  -- ---- there is only one

  abbrev pub AllFormed : ℕ → List (Route P) → Type 0
  AllFormed W l = (q : Route P) → Held q l → Formed W q.prefix

  pub longest_unique : (W d : ℕ) (l : List (Route P)) (r q : Route P) → InOrder l → AllFormed W l → LongestMatch W d l r → LongestMatch W d l q → r ≡ q
  longest_unique W d l r q o f a b =
      let long : r.prefix.length ≡ q.prefix.length = omega (arith, a.longest q b.held b.fits, b.longest r a.held a.fits) in
      let e = match_one W r.prefix q.prefix d (f r a.held) (f q b.held) a.fits b.fits long in
      let s : some r ≡ some q = sym (held_find r l o a.held) ∙ ap (λ (p : Prefix). find p l) e ∙ held_find q l o b.held in
      cc

  -- so `best` is pinned down: it is whatever is the longest match
  pub best_is : (W d : ℕ) (l : List (Route P)) (r : Route P) → InOrder l → AllFormed W l → LongestMatch W d l r → best W d l ≡ some r
  unfolding NoMatch
  best_is W d l r o f a = go (best W d l) refl
    where
      go : (b : Option (Route P)) → best W d l ≡ b → best W d l ≡ some r
      go none e = absurd (best_none W d l e r a.held a.fits)
      go (some q) e = e ∙ ap some (longest_unique W d l q r o f (best_some W d l q e) a)

  -- ---- two lists, one behind the other

  pub no_match_append : (W d : ℕ) (l m : List (Route P)) → NoMatch W d l → NoMatch W d m → NoMatch W d (l ++ m)
  unfolding NoMatch
  no_match_append W d l m a b q h t = ⊎_elim (λ k. a q k t) (λ k. b q k t) ((held_append q l m).0 h)

  pub longest_left : (W d : ℕ) (l m : List (Route P)) (r : Route P) → LongestMatch W d l r → NoMatch W d m → LongestMatch W d (l ++ m) r
  unfolding NoMatch
  longest_left W d l m r a n = record {
    held = (held_append r l m).1 (inl a.held);
    fits = a.fits;
    longest = λ q h t. ⊎_elim (λ k. a.longest q k t) (λ k. absurd (n q k t)) ((held_append q l m).0 h);
  }

  pub longest_right : (W d : ℕ) (l m : List (Route P)) (r : Route P) → LongestMatch W d m r
      → ((q : Route P) → Held q l → matches W q.prefix d ≡ true → q.prefix.length ≤ r.prefix.length) → LongestMatch W d (l ++ m) r
  longest_right W d l m r a f = record {
    held = (held_append r l m).1 (inr a.held);
    fits = a.fits;
    longest = λ q h t. ⊎_elim (λ k. f q k t) (λ k. a.longest q k t) ((held_append q l m).0 h);
  }
