-- Two values that can't differ are the same: of numbers, and so of whatever is made of numbers and of such payloads.
use Prim.Native.Nat.{ℕ}
use mathlib.Core.Path.{◌≡◌, refl, ap}
use mathlib.Core.Bool.{Bool, true, false}
use mathlib.Core.List.{List, [], ◌∷◌}
use mathlib.Core.Option.{Option, none, some}
use native.Mathlib.Omega.{arith}
use borrow.Author.Tests.{eqb-true, eqb-false}
use lib.Dec.{eqb}
use Rattle.model.specs.Prefix.{Prefix}
use Rattle.model.specs.Routes.{Route}
use Rattle.model.specs.State.{Change, added, deleted, changed, Trial, closed, opened, State, Meaning}
use Rattle.model.specs.Call.{Value, nothing, route, count}
use Rattle.model.specs.Ipv4.{Hop, direct, via, reject, Origin, fixed, learned, Payload}

-- they can't differ
abbrev pub Alike : {A : Type 0} → A → A → Type 0
Alike x y = (x ≡ y → ⊥) → ⊥

abbrev pub Stable : Type 0 → Type 0
Stable A = (x y : A) → Alike x y → x ≡ y

-- what follows where they are the same
follows : {A B : Type 0} {x y : A} {u v : B} → (x ≡ y → u ≡ v) → Alike x y → Alike u v
follows f k n = k (λ e. n (f e))

pub number_stable : Stable ℕ
number_stable a b f = go (eqb a b) refl
  where
    go : (t : Bool) → eqb a b ≡ t → a ≡ b
    go true e = eqb-true a b e
    go false e = absurd (f (eqb-false a b e))

-- what is never the same differs
never : {A : Type 0} {x y : A} → (x ≡ y → ◌≡◌ {A = ℕ} 0 1) → Alike x y → ⊥
never f k = k (λ e. let z = f e in omega (arith, z))

hop_stable : Stable Hop
hop_stable (direct p) (direct q) k = ap direct (number_stable p q (follows (λ e. cc) k))
hop_stable (direct p) (via q h) k = absurd (never (λ e. cc) k)
hop_stable (direct p) reject k = absurd (never (λ e. cc) k)
hop_stable (via p g) (direct q) k = absurd (never (λ e. cc) k)
hop_stable (via p g) (via q h) k = let a = number_stable p q (follows (λ e. cc) k) in let b = number_stable g h (follows (λ e. cc) k) in λ i. via (a i) (b i)
hop_stable (via p g) reject k = absurd (never (λ e. cc) k)
hop_stable reject (direct q) k = absurd (never (λ e. cc) k)
hop_stable reject (via q h) k = absurd (never (λ e. cc) k)
hop_stable reject reject k = refl

origin_stable : Stable Origin
origin_stable fixed fixed k = refl
origin_stable fixed (learned n) k = absurd (never (λ e. cc) k)
origin_stable (learned m) fixed k = absurd (never (λ e. cc) k)
origin_stable (learned m) (learned n) k = ap learned (number_stable m n (follows (λ e. cc) k))

pub payload_stable : Stable Payload
payload_stable x y k =
    let a = hop_stable x.hop y.hop (follows (ap (λ (h : Payload). h.hop)) k) in
    let b = origin_stable x.origin y.origin (follows (ap (λ (h : Payload). h.origin)) k) in
    λ i. record { hop = a i; origin = b i }

prefix_stable : Stable Prefix
prefix_stable p q k =
    let a = number_stable p.address q.address (follows (ap (λ (x : Prefix). x.address)) k) in
    let n = number_stable p.length q.length (follows (ap (λ (x : Prefix). x.length)) k) in
    λ i. record { address = a i; length = n i }

module _ {A : Type 0} (s : Stable A) where
  list_stable : Stable (List A)
  list_stable [] [] k = refl
  list_stable [] (y ∷ ys) k = absurd (never (λ e. cc) k)
  list_stable (x ∷ xs) [] k = absurd (never (λ e. cc) k)
  list_stable (x ∷ xs) (y ∷ ys) k = let a = s x y (follows (λ e. cc) k) in let b = list_stable xs ys (follows (λ e. cc) k) in λ i. a i ∷ b i

  option_stable : Stable (Option A)
  option_stable none none k = refl
  option_stable none (some y) k = absurd (never (λ e. cc) k)
  option_stable (some x) none k = absurd (never (λ e. cc) k)
  option_stable (some x) (some y) k = ap some (s x y (follows (λ e. cc) k))

module _ {P : Type 0} (s : Stable P) where
  route_stable : Stable (Route P)
  route_stable r q k =
      let a = prefix_stable r.prefix q.prefix (follows (ap (λ (x : Route P). x.prefix)) k) in
      let b = s r.payload q.payload (follows (ap (λ (x : Route P). x.payload)) k) in
      λ i. record { prefix = a i; payload = b i }

  change_stable : Stable (Change P)
  change_stable (added r) (added q) k = ap added (route_stable r q (follows (λ e. cc) k))
  change_stable (added r) (deleted q) k = absurd (never (λ e. cc) k)
  change_stable (added r) (changed q o n) k = absurd (never (λ e. cc) k)
  change_stable (deleted r) (added q) k = absurd (never (λ e. cc) k)
  change_stable (deleted r) (deleted q) k = ap deleted (route_stable r q (follows (λ e. cc) k))
  change_stable (deleted r) (changed q o n) k = absurd (never (λ e. cc) k)
  change_stable (changed p o n) (added q) k = absurd (never (λ e. cc) k)
  change_stable (changed p o n) (deleted q) k = absurd (never (λ e. cc) k)
  change_stable (changed p o n) (changed q u m) k =
      let a = prefix_stable p q (follows (λ e. cc) k) in let b = s o u (follows (λ e. cc) k) in let d = s n m (follows (λ e. cc) k) in
      λ i. changed (a i) (b i) (d i)

  trial_stable : Stable (Trial P)
  trial_stable closed closed k = refl
  trial_stable closed (opened ys) k = absurd (never (λ e. cc) k)
  trial_stable (opened xs) closed k = absurd (never (λ e. cc) k)
  trial_stable (opened xs) (opened ys) k = ap opened (list_stable change_stable xs ys (follows (λ e. cc) k))

  state_stable : Stable (State P)
  state_stable x y k =
      let a = number_stable x.capacity y.capacity (follows (ap (λ (z : State P). z.capacity)) k) in
      let b = list_stable route_stable x.routes y.routes (follows (ap (λ (z : State P). z.routes)) k) in
      let d = trial_stable x.trial y.trial (follows (ap (λ (z : State P). z.trial)) k) in
      λ i. record { capacity = a i; routes = b i; trial = d i }

  pub meaning_stable : Stable (Meaning P)
  meaning_stable = option_stable state_stable

  pub value_stable : Stable (Value P)
  value_stable nothing nothing k = refl
  value_stable nothing (route q) k = absurd (never (λ e. cc) k)
  value_stable nothing (count m) k = absurd (never (λ e. cc) k)
  value_stable (route r) nothing k = absurd (never (λ e. cc) k)
  value_stable (route r) (route q) k = ap route (route_stable r q (follows (λ e. cc) k))
  value_stable (route r) (count m) k = absurd (never (λ e. cc) k)
  value_stable (count n) nothing k = absurd (never (λ e. cc) k)
  value_stable (count n) (route q) k = absurd (never (λ e. cc) k)
  value_stable (count n) (count m) k = ap count (number_stable n m (follows (λ e. cc) k))
