-- Demand 3, for the public calls: "after any run of calls from fresh, the pool means what the accepted changes, less those taken back, make of an empty
-- table". Each theorem is about a run of calls (`Ran`) and what its transcript tells (`told`, `survivors`, `replay`).
use Prim.Native.Nat.{ℕ, ◌-◌}
use mathlib.Core.Path.{◌≡◌, refl, sym, ap, subst, ◌∙◌}
use mathlib.Core.Bool.{true}
use mathlib.Core.List.{List, [], ◌∷◌, ◌++◌}
use mathlib.Core.Option.{some}
use native.Mathlib.Omega.{arith}
use borrow.Author.Tests.{eqb-true}
use lib.ListN.{length}
use Rattle.model.specs.Routes.{Route, InOrder}
use Rattle.model.specs.State.{State, Meaning, is_open}
use Rattle.model.specs.Call.{Call, fresh, first, after, room, back_out, Value, count, number}
use Rattle.model.specs.History.{told, heard_if}
use Rattle.model.proofs.History as history
use Rattle.model.proofs.Numbers.{seven_full, back_out_open}
use Rattle.promise.specs.Table.{Table, Sound}
use Rattle.promise.specs.Promise.{Promise, LookupPromise}
use Rattle.promise.specs.Run.{Ran}
use Rattle.promise.specs.Demand.{made, Shows, LooksUp, Everywhere, Walked}
use Rattle.promise.proofs.Sounds.{sound_lookup, sound_first, sound_next, sound_walk, sound_room}
use Rattle.promise.proofs.Runs.{behind, stands, stands_at}

module _ {P : Type 0} (T : Table P) where
  -- a law that the model keeps at each call holds at each moment of a run
  everywhere : (F : Call P → ℕ → List (Call P × ℕ) → Type 0) → ((c n : ℕ) → F (fresh c n) 0 [])
      → ((c : Call P) (xs : List (Call P × ℕ)) (s : State P) → history.Agrees T.rules s (told xs) → F c (number T.rules c (some s)) xs)
      → {xs : List (Call P × ℕ)} {m : Meaning P} → history.Ran T.rules xs m → Everywhere F xs
  everywhere F f g (history.begun m c n t) = (f c n, tt)
  everywhere F f g (history.called {xs = xs} {m = m} r c) =
      let k = history.kept T.rules r in
      (subst (λ (x : Meaning P). F c (number T.rules c x) xs) (sym k.meant) (g c xs k.state k.agrees), everywhere F f g r)

  module _ {xs : List (Call P × ℕ)} {ws : List ℕ} (r : Ran T xs ws) where
    -- "A fresh pool is sound and every accepted call keeps it sound."
    pub run_sound : Sound T ws
    run_sound = ((stands T r).state, (stands T r).means)

    -- "The pool means what the accepted changes, less those taken back, make of an empty table."
    pub run_routes : (s : State P) → T.Means ws s → s.routes ≡ made xs
    run_routes s h = (stands_at T r s h).1.made

    pub run_capacity : (s : State P) → T.Means ws s → s.capacity ≡ (told xs).capacity
    run_capacity s h = (stands_at T r s h).1.capacity

    -- A trial is open exactly where the transcript says so.
    pub run_trial : (s : State P) → T.Means ws s → is_open s.trial ≡ (told xs).in_trial
    run_trial s h = history.open_agrees T.rules s (told xs) (stands_at T r s h).1

    -- "No two routes have the same prefix", and the walk's order is theirs.
    pub run_ordered : InOrder (made xs)
    run_ordered = subst InOrder (stands T r).agrees.made (stands T r).lawful.ordered

    -- ---- what is answered is what is answered in any sound pool

    -- what holds of the routes of a state that the words mean holds of what the survivors make
    of_made : (F : List (Route P) → Type 0) → F (stands T r).state.routes → F (made xs)
    of_made F = subst F (stands T r).agrees.made

    -- "The walk from first to end lists them all once in order": asked for the first route, it shows the first of them,
    pub run_first : (zs : List ℕ) (n : ℕ) (v : Value P) → Promise T first ws zs n v → Shows (made xs) n v
    run_first zs n v p = let k = stands T r in of_made (λ (l : List (Route P)). Shows l n v) (sound_first T ws k.state k.means zs n v p)

    -- asked for the next after one of them, the one behind it; after the last, 14.
    pub run_next : (before : List (Route P)) (x : Route P) (rest : List (Route P)) → made xs ≡ before ++ x ∷ rest
        → (zs : List ℕ) (n : ℕ) (v : Value P) → Promise T (after x.prefix) ws zs n v → Shows rest n v
    run_next before x rest e = let k = stands T r in sound_next T ws k.state k.means before x rest (k.agrees.made ∙ e)

    -- In order is `run_ordered`.
    pub run_walk : (l : List (Route P)) → Walked T ws first l → l ≡ made xs
    run_walk l w = let k = stands T r in sound_walk T ws k.state k.means l w ∙ k.agrees.made

    -- "Room left is capacity less their number."
    pub run_room : (zs : List ℕ) (n : ℕ) (v : Value P) → Promise T room ws zs n v → (n ≡ 0) × (v ≡ count ((told xs).capacity - length (made xs)))
    run_room zs n v p =
        let k = stands T r in
        let e = sound_room T ws k.state k.means zs n v p in
        (e.0, e.1 ∙ (λ i. count (k.agrees.capacity i - length (k.agrees.made i))))

    -- "The answer for every address is the longest match among them."
    pub run_lookup : (d n : ℕ) (v : Value P) → LookupPromise T d ws n v → LooksUp T.rules.width d (made xs) n v
    run_lookup d n v p = let k = stands T r in of_made (λ (l : List (Route P)). LooksUp T.rules.width d l n v) (sound_lookup T ws k.state k.means d n v p)

    -- ---- at each moment

    -- "Backing out of an open trial is never refused."
    pub back_out_never_refused : Everywhere (λ c n before. c ≡ back_out → (told before).in_trial ≡ true → n ≡ 0) xs
    back_out_never_refused = everywhere (λ c n before. c ≡ back_out → (told before).in_trial ≡ true → n ≡ 0) (λ c n e o. refl)
        (λ c before s a e o. ap (λ (x : Call P). number T.rules x (some s)) e ∙ back_out_open T.rules s (history.open_agrees T.rules s (told before) a ∙ o)) (behind T r).ran

    -- "Where 7 was answered, the replayed table at that moment held as many routes as its capacity."
    pub seven_means_full : Everywhere (λ c n before. n ≡ 7 → length (made before) ≡ (told before).capacity) xs
    seven_means_full = everywhere (λ c n before. n ≡ 7 → length (made before) ≡ (told before).capacity) (λ c n e. absurd (omega (arith, e)))
        (λ c before s a e. ap length (sym a.made) ∙ eqb-true _ _ (seven_full T.rules c s e) ∙ a.capacity) (behind T r).ran

-- "A later fresh starts the history anew": what came before it tells nothing.
pub fresh_anew : {P : Type 0} (later earlier : List (Call P × ℕ)) (c n : ℕ) → told (later ++ (fresh c n, 0) ∷ earlier) ≡ told (later ++ (fresh c n, 0) ∷ [])
fresh_anew [] earlier c n = refl
fresh_anew (x ∷ later) earlier c n = ap (heard_if x.1 x.0) (fresh_anew later earlier c n)
