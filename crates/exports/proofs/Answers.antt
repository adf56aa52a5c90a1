-- What the numbers of the C interface are, of the answers of the calls below it.
use Prim.Native.Nat.{ℕ, ◌≤◌, ◌<◌}
use mathlib.Core.Path.{◌≡◌, refl, sym, subst}
use mathlib.Core.Bool.{Bool, true, false, true≢false}
use mathlib.Core.Logic.{◌↔◌, inl, inr}
use mathlib.Core.List.{List}
use native.Mathlib.Omega.{arith}
use borrow.Author.Tests.{eq-eqb, ne_eqb, lt-ltb, le-ltb}
use lib.Dec.{eqb}
use Rattle.model.specs.Call.{Call, Value}
use Rattle.pool.specs.Layout.{size}
use Rattle.pool.specs.Ipv4.{ipv4}
use Rattle.promise.specs.Promise.{Promise, FreshPromise}
use Rattle.promise.specs.Table.{Table}
use Rattle.std.specs.Int.{from_bool}
use Rattle.codes.specs.Codes.{words_for}
use Rattle.exports.specs.Owed.{YesNo}

-- ---- how many words

pub no_words : (c : ℕ) → c ≡ 0 → 0 ≡ words_for c
no_words c e = rw (eq-eqb c 0 e)

pub past_words : (c : ℕ) → ipv4.rules.limit < c → 0 ≡ words_for c
past_words c h =
    let a : eqb c 0 ≡ false = ne_eqb c 0 (λ z. omega arith) in
    rw (a, lt-ltb ipv4.rules.limit c h)

pub some_words : (c : ℕ) → (c ≡ 0 → ⊥) → c ≤ ipv4.rules.limit → size ipv4 c ≡ words_for c
some_words c z h = rw (ne_eqb c 0 z, le-ltb ipv4.rules.limit c h)

module _ {P : Type 0} (T : Table P) where
  -- ---- the same promise of another name for the call, and of the number that goes out

  pub as_call : {c d : Call P} {ws zs : List ℕ} {n m : ℕ} {v : Value P} → c ≡ d → n ≡ m → Promise T c ws zs m v → Promise T d ws zs n v
  as_call {ws = ws} {zs = zs} {m = m} {v = v} e f p = rw f (subst (λ (x : Call P). Promise T x ws zs m v) e p)

  pub as_fresh : {c : ℕ} {ws zs : List ℕ} {n m : ℕ} → n ≡ m → FreshPromise T c ws zs m → FreshPromise T c ws zs n
  as_fresh f p = rw f p

-- ---- yes and no in numbers

pub yes_no : (b : Bool) {n : ℕ} {P : Type 0} → (b ≡ true) ↔ P → n ≡ from_bool b → YesNo n P
yes_no true s e = inl (e, s.0 refl)
yes_no false s e = inr (e, λ p. true≢false (sym (s.1 p)))
