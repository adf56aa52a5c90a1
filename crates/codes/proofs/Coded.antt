-- What the numbers that come in mean, and what goes out.
use Prim.Native.Nat.{ℕ, zero, suc}
use mathlib.Core.Path.{◌≡◌, refl, sym, subst, ◌∙◌}
use mathlib.Core.Bool.{true, false}
use mathlib.Core.List.{List}
use mathlib.Core.Option.{some}
use lib.ListN.{get_or}
use Rattle.std.specs.Result.{MatchResult, IsOkAnd}
use Rattle.std.specs.Prelude.{Result, Ok, Err}
use Rattle.model.specs.Prefix.{well_formed}
use Rattle.model.specs.Ipv4.{Hop as ModelHop, direct, via, reject, Origin as ModelOrigin, fixed, learned, Payload as ModelPayload, good_hop, may_hold}
use Rattle.model.specs.State.{State}
use Rattle.model.specs.Call.{add, change, Value, nothing, number}
use Rattle.route.specs.Means.{prefix_of, hop_of, origin_of, route_of}
use Rattle.route.proofs.Laws.{never_zero}
use Rattle.route.specs.Answers.{refusal_number, answer_number}
use Rattle.route.specs.declared.prefix.Prefix.{Prefix}
use Rattle.route.specs.declared.hop.Hop.{Hop}
use Rattle.route.specs.declared.origin.Origin.{Origin}
use Rattle.route.specs.declared.answer.Refusal.{Refusal}
use Rattle.pool.specs.Ipv4.{ipv4}
use Rattle.codes.specs.Codes.{prefix_in, hop_in, route_in, hop_words, origin_words}
use Rattle.codes.specs.Out.{Out, Exactly, GoesOut, value_words}

-- ---- hops

-- A kind above 2 is no hop, and gives 4 where 9 and 3 are not due, whatever else is.
no_hop : (k p g : ℕ) → good_hop (hop_in (suc (suc (suc k))) p g) ≡ false
unfolding good_hop
no_hop k p g = refl

module _ (a n k p g : ℕ) (o : ModelOrigin) (s : State ModelPayload) (good : well_formed 32 (prefix_in a n) ≡ true) where
  pub add_gives_4 : may_hold (prefix_in a n) ≡ true → number ipv4.rules (add (route_in a n (suc (suc (suc k))) p g o)) (some s) ≡ 4
  add_gives_4 may = rw (good, may, no_hop k p g)

  pub change_gives_4 : number ipv4.rules (change (route_in a n (suc (suc (suc k))) p g o)) (some s) ≡ 4
  change_gives_4 = rw (good, no_hop k p g)

-- what each kind means
pub kind_direct : (k p g : ℕ) → k ≡ 0 → direct p ≡ hop_in k p g
kind_direct k p g e = rw e

pub kind_via : (k p g : ℕ) → k ≡ 1 → via p g ≡ hop_in k p g
kind_via k p g e = rw e

pub kind_reject : (k p g : ℕ) → k ≡ 2 → reject ≡ hop_in k p g
kind_reject k p g e = rw e

pub kind_none : (k p g : ℕ) → (k ≡ 0 → ⊥) → (k ≡ 1 → ⊥) → (k ≡ 2 → ⊥) → direct 16 ≡ hop_in k p g
kind_none zero p g a b d = absurd (a refl)
kind_none (suc zero) p g a b d = absurd (b refl)
kind_none (suc (suc zero)) p g a b d = absurd (d refl)
kind_none (suc (suc (suc k))) p g a b d = refl

-- A hop that goes out and comes in again is the same.
pub out_and_in : (h : ModelHop) → hop_in (get_or (hop_words h) 0 0) (get_or (hop_words h) 1 0) (get_or (hop_words h) 2 0) ≡ h
out_and_in (direct p) = refl
out_and_in (via p g) = refl
out_and_in reject = refl

-- So is an origin.
abbrev origin_in : ℕ → ℕ → ModelOrigin
origin_in zero m = fixed
origin_in (suc k) m = learned m

pub origin_out_and_in : (o : ModelOrigin) → origin_in (get_or (origin_words o) 0 0) (get_or (origin_words o) 1 0) ≡ o
origin_out_and_in fixed = refl
origin_out_and_in (learned m) = refl

-- ---- routes and prefixes

pub prefix_in_lem : (p : Prefix) {a n : ℕ} → p.address ≡ a → p.length.0 ≡ n → prefix_of p ≡ prefix_in a n
prefix_in_lem p e f = rw (e, f)

pub route_in_lem : (p : Prefix) (h : Hop) (o : Origin) {a n : ℕ} {x : ModelHop} → p.address ≡ a → p.length.0 ≡ n → hop_of h ≡ x
    → route_of (record { prefix = p; payload = record { hop = h; origin = o } }) ≡ record { prefix = prefix_in a n; payload = record { hop = x; origin = origin_of o } }
route_in_lem p h o e f d = rw (e, f, d)

-- ---- out-parameters

-- What goes out of an answer whose words are those of its value, and of which more is promised.
pub out_shows : {A : Type 0} {P : ℕ → Value ModelPayload → Type 0} (answer : Result A Refusal) (words : Result (List ℕ) Refusal) (said : Result A Refusal → Value ModelPayload)
    {post : A → List ℕ → Type 0} {n : ℕ} {before after : List ℕ} → MatchResult answer (λ x. IsOkAnd words (post x)) (λ e. words ≡ Err e)
    → ((x : A) (ws : List ℕ) → post x ws → ws ≡ value_words (said (Ok x))) → GoesOut words n before after → P (answer_number answer) (said answer)
    → Out P n before after
out_shows (Ok x) (Ok ws) said m f s p = record { shown = said (Ok x); promised = rw s.0 p; written = λ z. s.1 ∙ f x ws m; kept = λ z. absurd (z s.0) }
out_shows (Ok x) (Err e) said m f s p = absurd m
out_shows {P = P} (Err e) words said {n = n} {before = before} {after = after} m f s p =
    let t = subst (λ (w : Result (List ℕ) Refusal). GoesOut w n before after) m s in
    record { shown = said (Err e); promised = rw t.0 p; written = λ z. absurd (never_zero e (sym t.0 ∙ z)); kept = λ z. t.1 }

-- a refusal, with nothing written
pub out_refused : {P : ℕ → Value ModelPayload → Type 0} (x : Refusal) {m n : ℕ} {w : Value ModelPayload} {before : List ℕ} → m ≡ refusal_number x
    → w ≡ nothing → n ≡ m → P m w → Out P n before before
out_refused x {w = w} e f g p = record { shown = w; promised = rw g p; written = λ z. absurd (never_zero x (sym e ∙ sym g ∙ z)); kept = λ z. refl }

-- an answer, written
pub out_shown : {P : ℕ → Value ModelPayload → Type 0} (v : Value ModelPayload) {m : ℕ} {w : Value ModelPayload} {before after : List ℕ} → m ≡ 0 → w ≡ v
    → after ≡ value_words v → P m w → Out P 0 before after
out_shown v {w = w} e f g p = record { shown = w; promised = rw e at p; written = λ z. rw f g; kept = λ z. absurd (z refl) }

-- what was shown of an answer, of which more is promised
pub out_of : {P : ℕ → Value ModelPayload → Type 0} {m n : ℕ} {w : Value ModelPayload} {before after : List ℕ} → Out (Exactly m w) n before after → P m w
    → Out P n before after
out_of o p = record { shown = o.shown; promised = rw (o.promised.0, o.promised.1) p; written = o.written; kept = o.kept }
