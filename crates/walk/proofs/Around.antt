-- The routes of a tree around a part of it: those on the left of the way, the part's, and those on the right; and the next one after a prefix among them.
use Prim.Native.Nat.{ℕ, suc, ◌≤◌}
use mathlib.Core.Path.{◌≡◌, refl, sym, ap, ◌∙◌}
use mathlib.Core.Bool.{Bool, true, false}
use mathlib.Core.List.{List, [], ◌∷◌, ◌++◌, append_assoc}
use mathlib.Core.Logic.{inl, inr, ⊎_elim}
use mathlib.Core.Option.{none}
use native.Mathlib.Omega.{arith}
use Rattle.bits.specs.Address.{first}
use Rattle.bits.proofs.First.{first_fewer}
use Rattle.model.specs.Prefix.{Prefix, before}
use Rattle.model.specs.Routes.{Route, AllAfter, first_of, next_after}
use Rattle.model.proofs.Order.{behind_not_before}
use Rattle.model.proofs.Walk.{next_front}
use Rattle.model.proofs.Append.{held_append, AllBefore}
use Rattle.patricia.specs.Good.{Good}
use Rattle.patricia.specs.Tree.{Tree, node, routes, Under}
use Rattle.patricia.specs.Way.{Step, went_left, went_right, plug, NotPast}
use Rattle.patricia.proofs.Form.{all_under, after_right, before_left}
use Rattle.patricia.proofs.Search.{or_else}
use Rattle.patricia.proofs.Zip.{good_part}

module _ {P : Type 0} where
  -- ---- lists, one behind the other

  pub first_append : (l m : List (Route P)) → (l ≡ [] → ⊥) → first_of (l ++ m) ≡ first_of l
  first_append [] m f = absurd (f refl)
  first_append (x ∷ xs) m f = refl

  -- the first of a list that is not empty is there
  pub first_else : (l m : List (Route P)) → (l ≡ [] → ⊥) → or_else (first_of l) (first_of m) ≡ first_of l
  first_else [] m f = absurd (f refl)
  first_else (x ∷ xs) m f = refl

  -- what comes before p is passed over
  pub next_skip : (p : Prefix) (l m : List (Route P)) → AllBefore l p → next_after p (l ++ m) ≡ next_after p m
  next_skip p [] m a = refl
  next_skip p (x ∷ xs) m a = rw (behind_not_before p x.prefix (a x (inl refl))) (next_skip p xs m (λ q h. a q (inr h)))

  pub next_nothing : (p : Prefix) (l : List (Route P)) → AllBefore l p → next_after p l ≡ none
  next_nothing p [] a = refl
  next_nothing p (x ∷ xs) a = rw (behind_not_before p x.prefix (a x (inl refl))) (next_nothing p xs (λ q h. a q (inr h)))

  -- what comes after p is as it stands
  pub next_append : (p : Prefix) (l m : List (Route P)) → AllAfter p m → next_after p (l ++ m) ≡ or_else (next_after p l) (first_of m)
  next_append p [] m a = next_front p m a
  next_append p (x ∷ xs) m a = go (before p x.prefix) refl (next_append p xs m a)
    where
      go : (b : Bool) → before p x.prefix ≡ b → next_after p (xs ++ m) ≡ or_else (next_after p xs) (first_of m) → next_after p ((x ∷ xs) ++ m) ≡ or_else (next_after p (x ∷ xs)) (first_of m)
      go true t ih = rw t
      go false t ih = rw t ih

  append_nil : (l : List (Route P)) → l ≡ l ++ []
  append_nil [] = refl
  append_nil (x ∷ xs) = ap (λ (l : List (Route P)). x ∷ l) (append_nil xs)

  after_append : (p : Prefix) (l m : List (Route P)) → AllAfter p l → AllAfter p m → AllAfter p (l ++ m)
  after_append p [] m a b = b
  after_append p (x ∷ xs) m a b = (a.0, after_append p xs m a.1 b)

  before_append : (p : Prefix) (l m : List (Route P)) → AllBefore l p → AllBefore m p → AllBefore (l ++ m) p
  before_append p l m a b q h = ⊎_elim (a q) (b q) ((held_append q l m).0 h)

module _ {N P : Type 0} where
  -- ---- beside the way

  abbrev pub earlier : List (Step N P) → List (Route P)
  earlier [] = []
  earlier (went_left n b r ∷ w) = earlier w
  earlier (went_right n b l ∷ w) = earlier w ++ routes l

  abbrev pub later : List (Step N P) → List (Route P)
  later [] = []
  later (went_left n b r ∷ w) = routes r ++ later w
  later (went_right n b l ∷ w) = later w

  pub routes_plug : (w : List (Step N P)) (t : Tree N P) → routes (plug w t) ≡ earlier w ++ (routes t ++ later w)
  routes_plug [] t = append_nil (routes t)
  routes_plug (went_left n b r ∷ w) t =
      routes_plug w (node n b t r) ∙ ap (λ (l : List (Route P)). earlier w ++ l) (append_assoc (routes t) (routes r) (later w))
  routes_plug (went_right n b l ∷ w) t =
      routes_plug w (node n b l t) ∙ ap (λ (m : List (Route P)). earlier w ++ m) (append_assoc (routes l) (routes t) (later w))
      ∙ sym (append_assoc (earlier w) (routes l) (routes t ++ later w))

  -- x has y's bits up to and at each bit of the way
  abbrev pub Shares : ℕ → ℕ → ℕ → List (Step N P) → Type 0
  Shares W x y [] = Unit {0}
  Shares W x y (went_left n b r ∷ w) = (first W (suc b) x ≡ first W (suc b) y) × Shares W x y w
  Shares W x y (went_right n b l ∷ w) = (first W (suc b) x ≡ first W (suc b) y) × Shares W x y w

  pub shares_same : (W x : ℕ) (w : List (Step N P)) → Shares W x x w
  shares_same W x [] = tt
  shares_same W x (went_left n b r ∷ w) = (refl, shares_same W x w)
  shares_same W x (went_right n b l ∷ w) = (refl, shares_same W x w)

  pub shares_before : (W j k x y : ℕ) (w : List (Step N P)) → NotPast j w → suc j ≤ k → k ≤ W → first W k x ≡ first W k y → Shares W x y w
  shares_before W j k x y [] n h l e = tt
  shares_before W j k x y (went_left m b r ∷ w) n h l e = (first_fewer W (suc b) k x y (omega arith) l e, shares_before W j k x y w n.1 h l e)
  shares_before W j k x y (went_right m b r ∷ w) n h l e = (first_fewer W (suc b) k x y (omega arith) l e, shares_before W j k x y w n.1 h l e)

  -- so what is on the left comes before it, and what is on the right after it
  before_way : (W : ℕ) (p : Prefix) (y : ℕ) (w : List (Step N P)) (t : Tree N P) → Good W (plug w t) → Under y t → Shares W p.address y w → AllBefore (earlier w) p
  before_way W p y [] t g u s q h = absurd h
  before_way W p y (went_left n b r ∷ w) t g u s q h = before_way W p y w (node n b t r) g (inl u) s.1 q h
  before_way W p y (went_right n b l ∷ w) t g u s q h =
      let j = (good_part W w (node n b l t) g).0 in
      before_append p (earlier w) (routes l) (before_way W p y w (node n b l t) g (inr u) s.1) (before_left W b l t j p (s.0 ∙ all_under _ y t j.right u)) q h

  after_way : (W : ℕ) (p : Prefix) (y : ℕ) (w : List (Step N P)) (t : Tree N P) → Good W (plug w t) → Under y t → Shares W p.address y w → AllAfter p (later w)
  after_way W p y [] t g u s = tt
  after_way W p y (went_left n b r ∷ w) t g u s =
      let j = (good_part W w (node n b t r) g).0 in
      after_append p (routes r) (later w) (after_right W b t r j p (s.0 ∙ all_under _ y t j.left u)) (after_way W p y w (node n b t r) g (inl u) s.1)
  after_way W p y (went_right n b l ∷ w) t g u s = after_way W p y w (node n b l t) g (inr u) s.1

  -- the next route is the part's, or else the first on the right of the way
  pub next_around : (W : ℕ) (p : Prefix) (y : ℕ) (w : List (Step N P)) (t : Tree N P) → Good W (plug w t) → Under y t → Shares W p.address y w
      → next_after p (routes (plug w t)) ≡ or_else (next_after p (routes t)) (first_of (later w))
  next_around W p y w t g u s =
      ap (next_after p) (routes_plug w t) ∙ next_skip p (earlier w) (routes t ++ later w) (before_way W p y w t g u s)
      ∙ next_append p (routes t) (later w) (after_way W p y w t g u s)
