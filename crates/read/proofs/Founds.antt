-- What a lookup and the walk answer, from what the search says of the pool's own words.
use Prim.Native.Nat.{ℕ}
use mathlib.Core.Path.{◌≡◌, refl, sym, subst, ◌∙◌}
use mathlib.Core.Bool.{Bool, true, false, not, cond}
use mathlib.Core.List.{List}
use mathlib.Core.Option.{Option, none, some}
use native.Mathlib.Omega.{arith}
use lib.ListN.{take}
use Rattle.model.specs.Prefix.{Prefix, well_formed}
use Rattle.model.specs.Routes.{Route, present, first_of, next_after}
use Rattle.model.specs.Match.{best}
use Rattle.model.specs.State.{State, Meaning}
use Rattle.model.specs.Call.{Call, first, after, Value, nothing, found, number, accepted, value, next}
use Rattle.patricia.specs.Good.{RootGood}
use Rattle.patricia.specs.Tree.{Root, root_routes}
use Rattle.patricia.proofs.Form.{root_obeys_good}
use Rattle.pool.specs.Layout.{Layout, size, root_in}
use Rattle.pool.specs.Holds.{Seat, bare_root, HoldsRoot}
use Rattle.pool.specs.Means.{Means}
use Rattle.pool.proofs.Laid.{Laid}
use Rattle.search.specs.Says.{Says}
use Rattle.climb.specs.Climb.{Looks}
use Rattle.walk.specs.Walk.{Firsts, Nexts}
use Rattle.verdict.specs.Own.{OwnRight}
use Rattle.promise.specs.Promise.{Meant, Promise, LookupPromise}
use Rattle.promise.specs.Trees.{tree}
use Rattle.std.specs.Prelude.{Ok}
use Rattle.promise.proofs.Promises.{promise_of, meant_one, refuses_sound}
use Rattle.verdict.proofs.Lent.{own_sound}

module _ {P : Type 0} where
  -- ---- an answer, and the route that it says

  says_number : (n : ℕ) (v : Value P) (x : ℕ) (o : Option (Route P)) → Says n v x o → n ≡ cond (not (present o)) x 0
  says_number n v x none h = h.0
  says_number n v x (some q) h = h.0

  says_value : (n : ℕ) (v : Value P) (x : ℕ) (o : Option (Route P)) → Says n v x o → v ≡ found o
  says_value n v x none h = h.1
  says_value n v x (some q) h = h.1

  -- a value that is shown where there is one, and nothing where there is none
  shown_found : (n : ℕ) (o : Option (Route P)) → (n ≡ 0 → ⊥) → cond (lib.Dec.eqb (cond (not (present o)) n 0) 0) (found o) nothing ≡ found o
  shown_found n none z = rw (borrow.Author.Tests.ne_eqb n 0 z)
  shown_found n (some q) z = refl

  kept : (b : Bool) (m : Meaning P) → cond b m m ≡ m
  kept true m = refl
  kept false m = refl

-- ---- the state in the pool's own words

module _ {P : Type 0} (L : Layout P) (laid : Laid L) (ws : List ℕ) (c n : ℕ) (o : OwnRight (tree L) ws (Ok c)) (e : n ≡ size L c) where
  own_means : (s : State P) → Means L ws s → Means L (take n ws) s
  own_means s m = (own_sound L laid ws c n o e s (sym m.capacity_there ∙ o.2)).1 m

  -- what is said of every tree that the own words hold is said of the state's routes
  says_of : (k : ℕ) (v : Value P) (x : ℕ) (f : List (Route P) → Option (Route P))
      → ((t : Root ℕ (Seat P)) → HoldsRoot L c (take n ws) (root_in (take n ws)) t → RootGood L.rules.width (bare_root t) → Says k v x (f (root_routes (bare_root t))))
      → (s : State P) → Means L ws s → Says k v x (f s.routes)
  says_of k v x f h s m =
      let p = own_means s m in
      subst (λ (l : List (Route P)). Says k v x (f l)) p.routes_there
      (h p.tree (subst (λ (y : ℕ). HoldsRoot L y (take n ws) (root_in (take n ws)) p.tree) (sym m.capacity_there ∙ o.2) p.holds)
      (root_obeys_good L.rules.width (bare_root p.tree) p.obeys))

  pub lookup_answer : (d k : ℕ) (v : Value P) → Looks L c (take n ws) d k v → LookupPromise (tree L) d ws k v
  lookup_answer d k v h =
      let says = says_of k v 13 (best L.rules.width d) h.exact in record {
        number_is = λ s m. says_number k v 13 (best L.rules.width d s.routes) (says s m);
        value_is = λ s m. says_value k v 13 (best L.rules.width d s.routes) (says s m) ∙ sym (shown_found 13 (best L.rules.width d s.routes) (λ z. omega arith));
        loose = h.loose;
      }

  -- a walk's answer, whose line is the last of its call's
  walked : (call : Call P) (k : ℕ) (v : Value P) (q : Option (Route P)) (s : State P) → Means L ws s → Says k v 14 q → number L.rules call (some s) ≡ cond (not (present q)) 14 0
      → value L.rules call (some s) ≡ found q → next L.rules call (some s) ≡ some s → Promise (tree L) call ws ws k v
  walked call k v q s m h a b d =
      promise_of (tree L) call ws ws k v (some s) (meant_one (tree L) ws s m) (says_number k v 14 q h ∙ sym a) (says_value k v 14 q h ∙ sym b)
      (subst (Meant (tree L) ws) (sym d) m) (λ z. refl) refl (λ i z. refl)

  pub first_answer : (k : ℕ) (v : Value P) (s : State P) → Means L ws s → Firsts L c (take n ws) k v → Promise (tree L) first ws ws k v
  first_answer k v s m h =
      walked first k v (first_of s.routes) s m (says_of k v 14 first_of h.exact s m) refl (shown_found 14 (first_of s.routes) (λ z. omega arith))
      (kept (accepted L.rules first (some s)) (some s))

  pub next_answer : (p : Prefix) (k : ℕ) (v : Value P) (s : State P) → Means L ws s → well_formed L.rules.width p ≡ true → Nexts L c (take n ws) p k v
      → Promise (tree L) (after p) ws ws k v
  next_answer p k v s m t h =
      walked (after p) k v (next_after p s.routes) s m (says_of k v 14 (next_after p) h.exact s m) (rw t) (rw t (shown_found 14 (next_after p s.routes) (λ z. omega arith)))
      (kept (accepted L.rules (after p) (some s)) (some s))

-- a prefix that is not well formed
module _ {P : Type 0} (L : Layout P) where
  pub bad_prefix : (ws : List ℕ) (p : Prefix) (s : State P) → Means L ws s → well_formed L.rules.width p ≡ false
      → Promise (tree L) (after p) ws ws 3 nothing
  bad_prefix ws p s m f = refuses_sound (tree L) (after p) ws 3 s m (rw f) (λ z. omega arith)
