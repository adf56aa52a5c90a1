-- From the promises to the model: a run on words is a run of the model on what the words mean.
use Prim.Native.Nat.{ℕ, zero, suc}
use mathlib.Core.Path.{◌≡◌, refl, sym, ap, subst, ◌∙◌}
use mathlib.Core.Bool.{Bool, true, false, cond}
use mathlib.Core.List.{List, ◌∷◌}
use mathlib.Core.Option.{none, some}
use native.Mathlib.Omega.{arith}
use borrow.Author.Tests.{eq-eqb}
use lib.ListN.{length}
use Rattle.model.specs.State.{State, Meaning, empty}
use Rattle.model.specs.Call.{Call, fresh, lookup, number, accepted, next}
use Rattle.model.specs.Lawful.{Lawful}
use Rattle.model.specs.History.{told}
use Rattle.model.proofs.History as history
use Rattle.promise.specs.Table.{Table}
use Rattle.promise.specs.Promise.{Meant, FreshPromise}
use Rattle.promise.specs.Run.{Ran, begun, called, looked, fresh_again}
use Rattle.promise.proofs.Promises.{refused_next}

module _ {P : Type 0} (T : Table P) where
  -- what the words of a run mean, and the model's run that leads there
  pub record Behind (xs : List (Call P × ℕ)) (ws : List ℕ) : Type 0 where
    pub meaning : Meaning P
    pub meant : Meant T ws meaning
    pub ran : history.Ran T.rules xs meaning

  -- one call more
  on : (xs : List (Call P × ℕ)) (ws : List ℕ) (b : Behind xs ws) (c : Call P) (zs : List ℕ) (n : ℕ) → n ≡ number T.rules c b.meaning
      → Meant T zs (next T.rules c b.meaning) → Behind ((c, n) ∷ xs) zs
  on xs ws b c zs n e h = record {
    meaning = next T.rules c b.meaning;
    meant = h;
    ran = subst (λ (k : ℕ). history.Ran T.rules ((c, k) ∷ xs) (next T.rules c b.meaning)) (sym e) (history.called b.ran c);
  }

  -- a lookup leaves what the words mean, whether it is refused or not
  next_lookup : (d : ℕ) (m : Meaning P) → m ≡ next T.rules (lookup d) m
  next_lookup d m = go (accepted T.rules (lookup d) m)
    where
      go : (b : Bool) → m ≡ cond b m m
      go true = refl
      go false = refl

  -- what a fresh table in these words means after it, whatever they meant
  fresh_next : (c : ℕ) (ws zs : List ℕ) (n : ℕ) → FreshPromise T c ws zs n → (m : Meaning P) → Meant T ws m → Meant T zs (next T.rules (fresh c (length ws)) m)
  fresh_next c ws zs zero p m h =
      let t : accepted T.rules (fresh c (length ws)) m ≡ true = eq-eqb _ 0 (sym (p.number_is m)) in
      subst (Meant T zs) (sym (ap (λ (b : Bool). cond b (some (empty c)) m) t)) (p.empty_then refl)
  fresh_next c ws zs (suc n) p m h =
      let z : suc n ≡ 0 → ⊥ = λ e. omega (arith, e) in
      subst (Meant T zs) (sym (refused_next T (fresh c (length ws)) m (suc n) (sym (p.number_is m)) z)) (subst (λ (l : List ℕ). Meant T l m) (sym (p.refusal_keeps z)) h)

  pub behind : {xs : List (Call P × ℕ)} {ws : List ℕ} → Ran T xs ws → Behind xs ws
  behind (begun c ws zs p) = record { meaning = some (empty c); meant = p.empty_then refl; ran = history.begun none c (length ws) (eq-eqb _ 0 (sym (p.number_is none))) }
  behind (called {xs = xs} {ws = ws} r c zs n v p) = let b = behind r in on xs ws b c zs n (p.number_is b.meaning b.meant) (p.meaning_is b.meaning b.meant)
  behind (looked {xs = xs} {ws = ws} r d n v p) =
      let b = behind r in
      let k = history.kept T.rules b.ran in
      let means : T.Means ws k.state = subst (Meant T ws) k.meant b.meant in
      on xs ws b (lookup d) ws n (p.number_is k.state means ∙ ap (number T.rules (lookup d)) (sym k.meant)) (subst (Meant T ws) (next_lookup d b.meaning) b.meant)
  behind (fresh_again {xs = xs} {ws = ws} r c zs n p) = let b = behind r in on xs ws b (fresh c (length ws)) zs n (p.number_is b.meaning) (fresh_next c ws zs n p b.meaning b.meant)

  -- the one state that the words of a run mean: it is lawful, and as the transcript tells
  pub record Stands (xs : List (Call P × ℕ)) (ws : List ℕ) : Type 0 where
    pub state : State P
    pub means : T.Means ws state
    pub lawful : Lawful T.rules state
    pub agrees : history.Agrees T.rules state (told xs)

  pub stands : {xs : List (Call P × ℕ)} {ws : List ℕ} → Ran T xs ws → Stands xs ws
  stands {xs = xs} {ws = ws} r =
      let b = behind r in
      let k = history.kept T.rules b.ran in
      record { state = k.state; means = subst (Meant T ws) k.meant b.meant; lawful = k.lawful; agrees = k.agrees }

  pub stands_at : {xs : List (Call P × ℕ)} {ws : List ℕ} → Ran T xs ws → (s : State P) → T.Means ws s → Lawful T.rules s × history.Agrees T.rules s (told xs)
  stands_at {xs = xs} {ws = ws} r s h =
      let k = stands r in
      let e : k.state ≡ s = T.unique ws k.state s k.means h in
      (subst (Lawful T.rules) e k.lawful, subst (λ (x : State P). history.Agrees T.rules x (told xs)) e k.agrees)
