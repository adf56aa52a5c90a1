-- The run of the rehearsal, call by call: what the words mean is computed from the promises, and so is each number.
use Prim.Native.Nat.{ℕ, ◌≤◌}
use mathlib.Core.Path.{◌≡◌, refl, sym, subst, ◌∙◌}
use mathlib.Core.Bool.{Bool, true, false, true≢false}
use mathlib.Core.List.{List, [], ◌∷◌}
use mathlib.Core.Option.{none, some}
use borrow.Author.Tests.{le-ltb}
use lib.Dec.{ltb}
use lib.ListN.{length}
use Rattle.bits.specs.Address.{first, clear}
use Rattle.model.specs.Prefix.{well_formed, matches, before, same}
use Rattle.model.specs.Ipv4.{Payload, good_hop, good_metric, may_hold}
use Rattle.model.specs.State.{plain, learner, State, Meaning, empty}
use Rattle.model.specs.Call.{Call, fresh, add, delete, change, lookup, open_trial, keep, back_out, step_back, Value, number, next}
use Rattle.model.specs.Examples.{ip, B, J, K}
use Rattle.route.proofs.Laws.{never_zero}
use Rattle.std.specs.Prelude.{Result, Ok, Err}
use Rattle.std.specs.Result.{is_err}
use Rattle.route.specs.Answers.{answer_number, refusal_number}
use Rattle.route.specs.declared.answer.Refusal.{Refusal}
use Rattle.pool.specs.Layout.{size}
use Rattle.pool.specs.Ipv4.{ipv4}
use Rattle.pool.specs.Means.{Means}
use Rattle.promise.specs.Trees.{tree}
use Rattle.promise.specs.Run.{Ran, begun, called, looked}
use Rattle.promise.specs.Demand.{made}
use Rattle.promise.specs.Table.{Table}
use Rattle.promise.specs.Promise.{Meant, Promise, FreshPromise, LookupPromise}
use Rattle.promise.proofs.History.{run_routes}
use Rattle.rehearsal.specs.Transcript.{heard_of, by, transcript, left}

module _ {P : Type 0} (T : Table P) where
  -- a run, and what its words mean
  pub record Known (xs : List (Call P × ℕ)) (m : Meaning P) (ws : List ℕ) : Type 0 where
    pub ran : Ran T xs ws
    pub meant : Meant T ws m

  -- one call more
  follow : {xs : List (Call P × ℕ)} {m : Meaning P} {ws : List ℕ} → Known xs m ws → {c : Call P} {zs : List ℕ} {n : ℕ} {v : Value P} → Promise T c ws zs n v → (k : ℕ)
      → number T.rules c m ≡ k
      → Known ((c, k) ∷ xs) (next T.rules c m) zs
  follow {xs = xs} {m = m} h {c = c} {zs = zs} {n = n} {v = v} p k e = record {
    ran = subst (λ (x : ℕ). Ran T ((c, x) ∷ xs) zs) (p.number_is m h.meant ∙ e) (called h.ran c zs n v p);
    meant = p.meaning_is m h.meant;
  }

  follow_lookup : {xs : List (Call P × ℕ)} {s : State P} {ws : List ℕ} → Known xs (some s) ws → {d n : ℕ} {v : Value P} → LookupPromise T d ws n v → (k : ℕ)
      → number T.rules (lookup d) (some s) ≡ k
      → Known ((lookup d, k) ∷ xs) (some s) ws
  follow_lookup {xs = xs} {s = s} {ws = ws} h {d = d} {n = n} {v = v} p k e = record {
    ran = subst (λ (x : ℕ). Ran T ((lookup d, x) ∷ xs) ws) (p.number_is s h.meant ∙ e) (looked h.ran d n v p);
    meant = h.meant;
  }

pub followed : (ws w0 w1 w2 w3 w4 w6 w7 w8 w9 w10 w11 w12 w13 w14 : List ℕ) (n0 n1 n2 n3 n4 n5 n6 n7 n8 n9 n10 n11 n12 n13 n14 : ℕ) (v1 v2 v3 v4 v5 v6 v7 v8 v9 v10 v11 v12 v13 v14 : Value Payload)
    → FreshPromise (tree ipv4) 3 ws w0 n0 → n0 ≡ 0
    → Promise (tree ipv4) (add B) w0 w1 n1 v1
    → Promise (tree ipv4) (add (heard_of 3 J)) w1 w2 n2 v2
    → Promise (tree ipv4) (delete learner B.prefix) w2 w3 n3 v3
    → Promise (tree ipv4) (add (by 1 B)) w3 w4 n4 v4
    → LookupPromise (tree ipv4) (ip 127 0 0 2) w4 n5 v5
    → Promise (tree ipv4) open_trial w4 w6 n6 v6
    → Promise (tree ipv4) (add K) w6 w7 n7 v7
    → Promise (tree ipv4) (delete plain B.prefix) w7 w8 n8 v8
    → Promise (tree ipv4) (change (by 5 J)) w8 w9 n9 v9
    → Promise (tree ipv4) step_back w9 w10 n10 v10
    → Promise (tree ipv4) keep w10 w11 n11 v11
    → Promise (tree ipv4) open_trial w11 w12 n12 v12
    → Promise (tree ipv4) (delete plain K.prefix) w12 w13 n13 v13
    → Promise (tree ipv4) back_out w13 w14 n14 v14
    → Ran (tree ipv4) (transcript (length ws)) w14
unfolding first clear well_formed matches before same good_hop good_metric may_hold
followed ws w0 w1 w2 w3 w4 w6 w7 w8 w9 w10 w11 w12 w13 w14 n0 n1 n2 n3 n4 n5 n6 n7 n8 n9 n10 n11 n12 n13 n14 v1 v2 v3 v4 v5 v6 v7 v8 v9 v10 v11 v12 v13 v14 p0 z p1 p2 p3 p4 p5 p6 p7 p8 p9 p10 p11 p12 p13 p14 =
    let f = subst (FreshPromise (tree ipv4) 3 ws w0) z p0 in
    let k0 : Known (tree ipv4) ((fresh 3 (length ws), 0) ∷ []) (some (empty 3)) w0 = record { ran = begun 3 ws w0 f; meant = f.empty_then refl } in
    let k1 = follow (tree ipv4) k0 p1 0 refl in
    let k2 = follow (tree ipv4) k1 p2 0 refl in
    let k3 = follow (tree ipv4) k2 p3 15 refl in
    let k4 = follow (tree ipv4) k3 p4 5 refl in
    let k5 = follow_lookup (tree ipv4) k4 p5 0 refl in
    let k6 = follow (tree ipv4) k5 p6 0 refl in
    let k7 = follow (tree ipv4) k6 p7 0 refl in
    let k8 = follow (tree ipv4) k7 p8 0 refl in
    let k9 = follow (tree ipv4) k8 p9 0 refl in
    let k10 = follow (tree ipv4) k9 p10 0 refl in
    let k11 = follow (tree ipv4) k10 p11 0 refl in
    let k12 = follow (tree ipv4) k11 p12 0 refl in
    let k13 = follow (tree ipv4) k12 p13 0 refl in
    let k14 = follow (tree ipv4) k13 p14 0 refl in
    k14.ran

-- what the theorem says of it is a known list
pub known : (n : ℕ) → made (transcript n) ≡ left
unfolding before same
known n = refl

pub followed_routes : (n : ℕ) (ws : List ℕ) → Ran (tree ipv4) (transcript n) ws → (s : State Payload) → Means ipv4 ws s → s.routes ≡ left
followed_routes n ws r s h = run_routes (tree ipv4) r s h ∙ known n

-- a buffer that is long enough is not refused
pub not_begun : (ws zs : List ℕ) (n : ℕ) (x : Refusal) → FreshPromise (tree ipv4) 3 ws zs n → n ≡ refusal_number x
    → (size ipv4 3 ≤ length ws → ◌≡◌ {A = Bool} false true)
    × ((◌≡◌ {A = Bool} false true → Ran (tree ipv4) (transcript (length ws)) zs)
    × (◌≡◌ {A = Bool} false true → (s : State Payload) → Means ipv4 zs s → s.routes ≡ left))
not_begun ws zs n x p e =
    let never : size ipv4 3 ≤ length ws → ⊥ = λ h. never_zero x (sym e ∙ p.number_is none ∙ enough h) in
    (λ h. absurd (never h), (λ t. absurd (true≢false (sym t)), λ t. absurd (true≢false (sym t))))
  where
    enough : size ipv4 3 ≤ length ws → number ipv4.rules (fresh 3 (length ws)) none ≡ 0
    enough h = let d : ltb (length ws) (size ipv4 3) ≡ false = le-ltb (length ws) (size ipv4 3) h in rw d

-- ---- what an answer's number tells

-- an error has one that is not 0
err_number : {T : Type 0} (r : Result T Refusal) → is_err r ≡ true → answer_number r ≡ 0 → ⊥
err_number (Ok x) e z = true≢false (sym e)
err_number (Err x) e z = never_zero x z

pub ok_number : {T : Type 0} (r : Result T Refusal) → is_err r ≡ false → answer_number r ≡ 0
ok_number (Ok x) e = refl
ok_number (Err x) e = absurd (true≢false e)

-- a buffer that is long enough is not refused
pub not_refused : {T : Type 0} (ws zs : List ℕ) (r : Result T Refusal) → FreshPromise (tree ipv4) 3 ws zs (answer_number r) → is_err r ≡ true → size ipv4 3 ≤ length ws → ⊥
not_refused ws zs r p e h =
    let d : ltb (length ws) (size ipv4 3) ≡ false = le-ltb (length ws) (size ipv4 3) h in
    let accepted : number ipv4.rules (fresh 3 (length ws)) none ≡ 0 = rw d in
    err_number r e (p.number_is none ∙ accepted)
