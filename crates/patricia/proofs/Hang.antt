-- One more route of an address that the tree has.
use Prim.Native.Nat.{ℕ, ◌<◌}
use mathlib.Core.Path.{◌≡◌, refl, sym, ap, subst, ◌∙◌}
use mathlib.Core.Bool.{true, false, cond}
use mathlib.Core.List.{List, [], ◌∷◌}
use mathlib.Core.Logic.{⊎_elim}
use mathlib.Core.Option.{none}
use native.Mathlib.Omega.{arith}
use borrow.Author.Tests.{ltb-true, ltb-false, le-ltb, eq-eqb}
use native.Mathlib.Nat.{le_refl}
use lib.Dec.{ltb}
use lib.ListN.{length}
use Rattle.model.specs.Prefix.{well_formed, before, same}
use Rattle.model.specs.Routes.{Route, find, insert}
use Rattle.model.proofs.Tests.{passed_or_not, not_both}
use Rattle.model.proofs.Order.{true_same}
use Rattle.model.proofs.Edits.{off_head}
use Rattle.patricia.specs.Way.{reached}
use Rattle.patricia.specs.Good.{Good}
use Rattle.patricia.specs.Tree.{Entry, Tree, route_of, hung, routes, Under}
use Rattle.patricia.specs.Obeys.{Shorter, LongestFirst, AllWellFormed}
use Rattle.patricia.proofs.Find.{entries_at, reached_under, reached_good, find_reached}
use Rattle.patricia.proofs.Change.{insert_local, change, change_good, change_routes}

module _ {P : Type 0} where
  -- one more route of a held address, longest first
  abbrev pub hang : Entry P → List (Entry P) → List (Entry P)
  hang e [] = e ∷ []
  hang e (f ∷ fs) = cond (ltb f.length e.length) (e ∷ f ∷ fs) (f ∷ hang e fs)

  -- ---- the leaf stays good

  -- the leaf has a route
  hang_some : (e : Entry P) (es : List (Entry P)) → 0 < length (hang e es)
  hang_some e [] = omega arith
  hang_some e (f ∷ fs) = ⊎_elim (λ t. rw t (omega arith)) (λ t. rw t (omega arith)) (passed_or_not (ltb f.length e.length))

  -- its prefixes are well formed
  hang_formed : (W a : ℕ) (e : Entry P) (es : List (Entry P)) → well_formed W (route_of a e).prefix ≡ true → AllWellFormed W a es → AllWellFormed W a (hang e es)
  hang_formed W a e [] w h = (w, tt)
  hang_formed W a e (f ∷ fs) w h =
      ⊎_elim (λ t. rw t (w, h)) (λ t. rw t (h.0, hang_formed W a e fs w h.1)) (passed_or_not (ltb f.length e.length))

  -- what is shorter than m is shorter than anything above m
  shorter_trans : (m n : ℕ) (es : List (Entry P)) → m < n → Shorter m es → Shorter n es
  shorter_trans m n [] h s = tt
  shorter_trans m n (e ∷ es) h s = (omega arith, shorter_trans m n es h s.1)

  -- a shorter route among shorter ones leaves them shorter
  hang_shorter : (n : ℕ) (e : Entry P) (es : List (Entry P)) → e.length < n → Shorter n es → Shorter n (hang e es)
  hang_shorter n e [] h s = (omega arith, tt)
  hang_shorter n e (f ∷ fs) h s =
      ⊎_elim (λ t. rw t (omega arith, s)) (λ t. rw t (s.0, hang_shorter n e fs h s.1)) (passed_or_not (ltb f.length e.length))

  -- a new length leaves them longest first
  hang_longest : (a : ℕ) (e : Entry P) (es : List (Entry P)) → find (route_of a e).prefix (hung a es) ≡ none → LongestFirst es → LongestFirst (hang e es)
  hang_longest a e [] n h = (tt, tt)
  hang_longest a e (f ∷ fs) n h =
      let w = off_head (route_of a e).prefix (route_of a f) (hung a fs) n in
      ⊎_elim (λ t. let less = ltb-true f.length e.length t in rw t ((less, shorter_trans f.length e.length fs less h.0), h))
      (λ t. rw t (hang_shorter f.length e fs (omega (arith, ltb-false f.length e.length t, other w.0)) h.0, hang_longest a e fs w.1 h.1))
      (passed_or_not (ltb f.length e.length))
    where
      other : same (route_of a e).prefix (route_of a f).prefix ≡ false → e.length ≡ f.length → ⊥
      other d p = not_both (true_same (route_of a e).prefix (route_of a f).prefix (λ i. record { address = a; length = p i })) d

  -- ---- its routes

  -- the new route is inserted among the leaf's
  hang_hung : (a : ℕ) (e : Entry P) (es : List (Entry P)) → insert (route_of a e) (hung a es) ≡ hung a (hang e es)
  unfolding before
  hang_hung a e [] = refl
  hang_hung a e (f ∷ fs) =
      rw (le-ltb a a (le_refl a), eq-eqb a a refl)
      (⊎_elim (λ t. rw t) (λ t. rw t (ap (λ (l : List (Route P)). route_of a f ∷ l) (hang_hung a e fs))) (passed_or_not (ltb f.length e.length)))

module _ {N P : Type 0} where
  -- the same at the leaf that a's bits lead to
  abbrev pub hang_at : ℕ → ℕ → Entry P → Tree N P → Tree N P
  hang_at W a e t = change W a (hang e) t

  module _ (W a : ℕ) (e : Entry P) (t : Tree N P) (g : Good W t) (u : reached W a t ≡ a) where
    -- a new route of an address that the tree has keeps the tree good
    pub hang_good : well_formed W (route_of a e).prefix ≡ true → find (route_of a e).prefix (routes t) ≡ none → Good W (hang_at W a e t)
    hang_good w n =
        let o = reached_good W a t g in
        let new = rw u at (sym (find_reached W (route_of a e).prefix t g) ∙ n) in
        change_good W a (hang e) t g (record {
          has_route = hang_some e (entries_at W a t);
          well_formed_here = hang_formed W (reached W a t) e (entries_at W a t) (rw u w) o.well_formed_here;
          longest_first = hang_longest a e (entries_at W a t) new o.longest_first;
        })

    -- and is inserted into its routes
    pub hang_routes : routes (hang_at W a e t) ≡ insert (route_of a e) (routes t)
    hang_routes =
        change_routes W a (hang e) (route_of a e).prefix (insert (route_of a e)) (insert_local (route_of a e)) refl (hang_hung a e) t g
        (subst (λ (x : ℕ). Under x t) u (reached_under W a t))
