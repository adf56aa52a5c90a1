-- Wrong tables against the promise itself, in any sound pool: what breaks it whatever the code.
use Prim.Native.Nat.{ℕ}
use mathlib.Core.Path.{◌≡◌, refl, sym, ap, ◌∙◌}
use mathlib.Core.Bool.{false, not, true≢false}
use mathlib.Core.List.{List, [], ◌∷◌}
use mathlib.Core.Option.{some}
use native.Mathlib.Omega.{arith}
use borrow.Author.Tests.{eq-eqb}
use lib.Dec.{eqb}
use lib.ListN.{length}
use Rattle.model.specs.Prefix.{Prefix}
use Rattle.model.specs.Routes.{Route}
use Rattle.model.specs.State.{Hand, Change, Trial, closed, opened, State, is_open, undo_all, changes}
use Rattle.model.specs.Call.{Call, add, delete, back_out, step_back, Value, due}
use Rattle.model.proofs.Edits.{length_insert, length_remove}
use Rattle.model.proofs.Taken.{delete_taken}
use Rattle.model.proofs.Numbers.{Quiet, accepted_quiet}
use Rattle.promise.specs.Table.{Table}
use Rattle.promise.specs.Promise.{Promise}
use Rattle.promise.proofs.Sounds.{sound_add, sound_delete, sound_step, sound_back_out}

module _ {P : Type 0} (T : Table P) (ws : List ℕ) (s : State P) (h : T.Means ws s) (v : Value P) where
  quiet : (c : Call P) (zs : List ℕ) → Promise T c ws zs 0 v → Quiet (due T.rules c (some s))
  quiet c zs p = accepted_quiet T.rules c (some s) (eq-eqb _ 0 (sym (p.number_is (some s) h)))

  -- "an add .. that does nothing"
  pub idle_add_caught : (r : Route P) → Promise T (add r) ws ws 0 v → ⊥
  idle_add_caught r p = omega (arith, ap length (sound_add T ws s h ws v s h r p).0, length_insert r s.routes)

  -- "or delete that does nothing"
  pub idle_delete_caught : (b : Hand) (q : Prefix) → Promise T (delete b q) ws ws 0 v → ⊥
  idle_delete_caught b q p =
      let f = delete_taken T.rules s b q (eq-eqb _ 0 (sym (p.number_is (some s) h))) in
      omega (arith, ap length (sound_delete T ws s h ws v s h b q p).0, length_remove q f.route s.routes f.there)

  -- "or a step back that does nothing"
  pub idle_step_caught : Promise T step_back ws ws 0 v → ⊥
  idle_step_caught p = let q = quiet step_back ws p in go s.trial refl q.1.0 q.1.1.0
    where
      go : (u : Trial P) → s.trial ≡ u → not (is_open u) ≡ false → eqb (length (changes u)) 0 ≡ false → ⊥
      go closed e o n = true≢false o
      go (opened []) e o n = true≢false n
      go (opened (x ∷ xs)) e o n =
          let f : opened (x ∷ xs) ≡ opened xs = sym e ∙ (sound_step T ws s h ws v s h x xs e p).1 in
          omega (arith, ap (λ (u : Trial P). length (changes u)) f)

  -- "a back out that empties the table", where a route stood before the trial
  pub emptying_back_out_caught : (zs : List ℕ) (t : State P) → T.Means zs t → (undo_all (changes s.trial) s.routes ≡ [] → ⊥) → Promise T back_out ws zs 0 v → t.routes ≡ []
      → ⊥
  emptying_back_out_caught zs t k some_left p e = some_left (sym (sound_back_out T ws s h zs v t k p).0 ∙ e)

  -- "a first step back that takes back all", where two changes stand
  pub greedy_step_caught : (zs : List ℕ) (t : State P) → T.Means zs t → (x y : Change P) (xs : List (Change P)) → s.trial ≡ opened (x ∷ y ∷ xs)
      → Promise T step_back ws zs 0 v → t.trial ≡ opened [] → ⊥
  greedy_step_caught zs t k x y xs e p f =
      let g : opened (y ∷ xs) ≡ opened [] = sym (sound_step T ws s h zs v t k x (y ∷ xs) e p).1 ∙ f in
      omega (arith, ap (λ (u : Trial P). length (changes u)) g)
