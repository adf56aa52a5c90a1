-- A call that changes the pool: from its tests and its work in the pool's own words to its promise.
use Prim.Native.Nat.{ℕ, ◌+◌, ◌-◌, ◌≤◌}
use mathlib.Core.Path.{◌≡◌, refl, sym, ap, subst, ◌∙◌}
use mathlib.Core.Bool.{Bool, true, cond}
use mathlib.Core.List.{List, ◌++◌}
use mathlib.Core.Option.{some}
use native.Mathlib.Nat.{le_trans}
use native.Mathlib.Omega.{arith}
use lib.Dec.{eqb}
use lib.ListN.{length, get_or, take, drop, get_or-append}
use lib.Seq.{length-take-le, length_front, get_or-append-add, get_or-drop}
use Rattle.model.specs.Call.{Call, nothing, accepted, shown}
use Rattle.pool.specs.Layout.{word, Layout, size, capacity_in}
use Rattle.pool.specs.Fit.{Fit}
use Rattle.pool.specs.Means.{Means}
use Rattle.pool.proofs.Local.{means_frame}
use Rattle.pool.proofs.Laid.{Laid}
use Rattle.apply.specs.Does.{Accepted, Does}
use Rattle.promise.specs.Trees.{tree}
use Rattle.promise.specs.Promise.{Meant, Promise}
use Rattle.promise.specs.Table.{Table}
use Rattle.route.specs.Answers.{refusal_number}
use Rattle.route.specs.declared.answer.Refusal.{Refusal}
use Rattle.verdict.specs.Own.{OwnRight}
use Rattle.may.specs.May.{MayRight}
use Rattle.std.specs.Prelude.{Ok, Err}
use Rattle.promise.proofs.Promises.{meant_one, promise_of, refused_value, refused_next}
use Rattle.verdict.proofs.Lent.{own_in, own_fits, own_sound, sound_own}

module _ {P : Type 0} (L : Layout P) (laid : Laid L) where
  -- ---- it goes on

  pub goes_small : (call : Call P) (ws : List ℕ) (c : ℕ) → MayRight (tree L) call ws (Ok c) → c ≤ 65535
  goes_small call ws c g = omega (arith, laid.limit_small, (sound_own L ws c (g.0, g.1, g.2)).1)

  module _ (call : Call P) (ws : List ℕ) (c n : ℕ) (g : MayRight (tree L) call ws (Ok c)) (e : n ≡ size L c) where
    own : OwnRight (tree L) ws (Ok c)
    own = sound_own L ws c (g.0, g.1, g.2)

    pub goes_fit : Fit L c (take n ws)
    goes_fit = own_fits L laid ws c n own e

    pub goes_in : n ≤ length ws
    goes_in = own_in L ws c n own e

    pub goes_accepted : Accepted L c call (take n ws)
    goes_accepted = (g.0, record { means = (own_sound L laid ws c n own e g.0 g.2).1 g.1; capacity_is = g.2; number_is = g.3 })

    -- the own words as the call leaves them, and the words past them as they were
    pub goes : (zs : List ℕ) → length zs ≡ length (take n ws) → shown L.rules.width call g.0 ≡ nothing → Does L c call (take n ws) zs
        → Promise (tree L) call ws (zs ++ drop n ws) 0 nothing
    unfolding goes_accepted
    goes zs l sh d =
        let s = g.0 in
        let v = d s goes_accepted.1 in
        let acc : accepted L.rules call (some s) ≡ true = ap (λ (k : ℕ). eqb k 0) g.3 in
        let front : length zs ≡ n = l ∙ length-take-le n ws goes_in in
        let long : length (zs ++ drop n ws) ≡ length ws = length_front ws zs n l in
        let whole : Means L (zs ++ drop n ws) v.0 =
        means_frame L laid zs (zs ++ drop n ws) v.0 v.2 (le_trans v.2.long_enough (omega (arith, front, long, goes_in)))
        (λ i k. sym (get_or-append zs (drop n ws) 0 i (le_trans k v.2.long_enough))) in
        let past : (i : ℕ) → size L (capacity_in ws) ≤ i → word (zs ++ drop n ws) i ≡ word ws i = λ i k.
        let same : length zs + (i - n) ≡ i = omega (arith, front, e, ap (size L) own.2) in
        ap (λ (x : ℕ). get_or (zs ++ drop n ws) x 0) (sym same) ∙ get_or-append-add zs (drop n ws) (i - n) 0 ∙ get_or-drop n ws (i - n) 0
        ∙ ap (λ (x : ℕ). get_or ws x 0) (ap (λ (x : ℕ). x + (i - n)) (sym front) ∙ same) in
        promise_of (tree L) call ws (zs ++ drop n ws) 0 nothing (some s) (meant_one (tree L) ws s g.1) (sym g.3)
        (sym (ap (λ (b : Bool). cond b (shown L.rules.width call s) nothing) acc ∙ sh)) (subst (Meant (tree L) (zs ++ drop n ws)) (sym v.1) whole) (λ z. absurd (z refl)) long past

module _ {P : Type 0} (T : Table P) where
  -- ---- it is refused

  pub refused_by : (call : Call P) (ws : List ℕ) (x : Refusal) → MayRight T call ws (Err x) → Promise T call ws ws (refusal_number x) nothing
  refused_by call ws x h = record {
    number_is = λ m k. sym (h.0 m k);
    value_is = λ m k. sym (refused_value T call m (refusal_number x) (h.0 m k) h.1);
    meaning_is = λ m k. subst (Meant T ws) (sym (refused_next T call m (refusal_number x) (h.0 m k) h.1)) k;
    refusal_keeps = λ k. refl;
    long = refl;
    past_keeps = λ i k. refl;
  }
