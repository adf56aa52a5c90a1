-- One route for another of the same prefix: the tree's form does not change.
use Prim.Native.Nat.{ℕ, suc}
use mathlib.Core.Path.{◌≡◌, refl, sym, ap, subst}
use mathlib.Core.Bool.{true, cond}
use mathlib.Core.List.{List, [], ◌∷◌, ◌++◌}
use mathlib.Core.Logic.{⊎_elim}
use mathlib.Core.Option.{none, some}
use native.Mathlib.Omega.{arith}
use borrow.Author.Tests.{eqb-true, eq-eqb}
use lib.Dec.{eqb}
use lib.ListN.{length}
use Rattle.model.specs.Prefix.{same, well_formed}
use Rattle.model.specs.Routes.{Route, find, replace}
use Rattle.model.proofs.Routes.{find_after}
use Rattle.model.proofs.Edits.{off_head}
use Rattle.model.proofs.Tests.{passed_or_not}
use Rattle.model.proofs.Append.{find_before}
use Rattle.patricia.specs.Way.{reached}
use Rattle.patricia.specs.Good.{Good}
use Rattle.patricia.specs.Tree.{Entry, Tree, route_of, hung, routes}
use Rattle.patricia.specs.Obeys.{Shorter, LongestFirst, AllWellFormed}
use Rattle.patricia.proofs.Form.{found_under}
use Rattle.patricia.proofs.Find.{entries_at, reached_good}
use Rattle.patricia.proofs.Change.{Local, change, change_good, change_routes}

module _ {P : Type 0} where
  -- the routes of a leaf, with e for the one of its length
  abbrev pub exchange : Entry P → List (Entry P) → List (Entry P)
  exchange e [] = []
  exchange e (f ∷ fs) = cond (eqb e.length f.length) (e ∷ fs) (f ∷ exchange e fs)

  -- ---- the leaf stays good

  -- as many routes as before
  exchange_length : (e : Entry P) (es : List (Entry P)) → length (exchange e es) ≡ length es
  exchange_length e [] = refl
  exchange_length e (f ∷ fs) = ⊎_elim (λ t. rw t) (λ t. rw t (ap suc (exchange_length e fs))) (passed_or_not (eqb e.length f.length))

  -- the new one has the prefix of an old one, so it is well formed
  exchange_formed : (W a : ℕ) (e : Entry P) (es : List (Entry P)) → AllWellFormed W a es → AllWellFormed W a (exchange e es)
  exchange_formed W a e [] h = tt
  exchange_formed W a e (f ∷ fs) h =
      ⊎_elim (λ t. rw t (subst (λ (n : ℕ). well_formed W (record { address = a; length = n }) ≡ true) (sym (eqb-true e.length f.length t)) h.0, h.1))
      (λ t. rw t (h.0, exchange_formed W a e fs h.1)) (passed_or_not (eqb e.length f.length))

  -- and as short
  exchange_shorter : (n : ℕ) (e : Entry P) (es : List (Entry P)) → Shorter n es → Shorter n (exchange e es)
  exchange_shorter n e [] h = tt
  exchange_shorter n e (f ∷ fs) h =
      ⊎_elim (λ t. rw t (omega (arith, eqb-true e.length f.length t), h.1)) (λ t. rw t (h.0, exchange_shorter n e fs h.1)) (passed_or_not (eqb e.length f.length))

  -- so they stay longest first
  exchange_longest : (e : Entry P) (es : List (Entry P)) → LongestFirst es → LongestFirst (exchange e es)
  exchange_longest e [] h = tt
  exchange_longest e (f ∷ fs) h =
      ⊎_elim (λ t. rw t (subst (λ (n : ℕ). Shorter n fs) (sym (eqb-true e.length f.length t)) h.0, h.1))
      (λ t. rw t (exchange_shorter f.length e fs h.0, exchange_longest e fs h.1)) (passed_or_not (eqb e.length f.length))

  -- ---- its routes

  -- the leaf's routes have the new one in the old one's place
  exchange_hung : (a : ℕ) (e : Entry P) (es : List (Entry P)) → replace (route_of a e) (hung a es) ≡ hung a (exchange e es)
  unfolding same
  exchange_hung a e [] = refl
  exchange_hung a e (f ∷ fs) =
      rw (eq-eqb a a refl) (⊎_elim (λ t. rw t) (λ t. rw t (ap (λ (l : List (Route P)). route_of a f ∷ l) (exchange_hung a e fs))) (passed_or_not (eqb e.length f.length)))

  -- ---- replace goes to the side that it concerns

  -- over what does not hold the prefix
  replace_right : (r : Route P) (l m : List (Route P)) → find r.prefix l ≡ none → replace r (l ++ m) ≡ l ++ replace r m
  replace_right r [] m e = refl
  replace_right r (x ∷ xs) m e = let w = off_head r.prefix x xs e in rw w.0 (ap (λ (l : List (Route P)). x ∷ l) (replace_right r xs m w.1))

  -- where nothing holds it nothing changes
  replace_none : (r : Route P) (l : List (Route P)) → find r.prefix l ≡ none → replace r l ≡ l
  replace_none r [] e = refl
  replace_none r (x ∷ xs) e = let w = off_head r.prefix x xs e in rw w.0 (ap (λ (l : List (Route P)). x ∷ l) (replace_none r xs w.1))

  -- so what follows the side that may hold it stays
  replace_left : (r : Route P) (l m : List (Route P)) → find r.prefix m ≡ none → replace r (l ++ m) ≡ replace r l ++ m
  replace_left r [] m e = replace_none r m e
  replace_left r (x ∷ xs) m e =
      ⊎_elim (λ t. rw t) (λ t. rw t (ap (λ (l : List (Route P)). x ∷ l) (replace_left r xs m e))) (passed_or_not (same r.prefix x.prefix))

  -- together
  replace_local : (r : Route P) → Local r.prefix (replace r)
  replace_local r = record {
    at_left = λ l m a. replace_left r l m (find_after r.prefix m a);
    at_right = λ l m a. replace_right r l m (find_before r.prefix l a);
  }

module _ {N P : Type 0} where
  -- the route of a that has e's length, replaced by e
  abbrev pub swap_at : ℕ → ℕ → Entry P → Tree N P → Tree N P
  swap_at W a e t = change W a (exchange e) t

  module _ (W a : ℕ) (e : Entry P) (t : Tree N P) (g : Good W t) where
    -- another payload keeps the tree good
    pub swap_good : Good W (swap_at W a e t)
    swap_good =
        let o = reached_good W a t g in
        change_good W a (exchange e) t g (record {
          has_route = rw (exchange_length e (entries_at W a t)) o.has_route;
          well_formed_here = exchange_formed W (reached W a t) e (entries_at W a t) o.well_formed_here;
          longest_first = exchange_longest e (entries_at W a t) o.longest_first;
        })

    -- and replaces the route of its prefix, if that is held
    pub swap_routes : (old : Route P) → find (route_of a e).prefix (routes t) ≡ some old → routes (swap_at W a e t) ≡ replace (route_of a e) (routes t)
    swap_routes old f =
        change_routes W a (exchange e) (route_of a e).prefix (replace (route_of a e)) (replace_local (route_of a e)) refl (exchange_hung a e) t g
        (found_under (route_of a e).prefix old t f)
