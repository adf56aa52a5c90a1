-- The places of a part and those of the way to it are not the same, since no place stands twice in a tree.
use Prim.Native.Nat.{ℕ}
use mathlib.Core.Path.{refl, subst}
use mathlib.Core.List.{List, [], ◌∷◌, ◌++◌}
use mathlib.Core.Logic.{inl, inr, ⊎_elim}
use Rattle.patricia.specs.Tree.{node}
use Rattle.patricia.specs.Way.{Step, went_left, went_right, plug}
use Rattle.pool.specs.Holds.{Seat, Seated, route_places, inner_places}
use Rattle.pool.specs.Means.{Among}
use Rattle.pool.proofs.Distinct.{Distinct, distinct_append}
use Rattle.pool.proofs.Frame.{among_append, append_among}
use Rattle.plan.proofs.Way.{way_routes, way_inners}

-- two lists with nothing twice and nothing in both
pub record Asunder (xs ys : List ℕ) : Type 0 where
  pub first : Distinct xs
  pub second : Distinct ys
  pub apart : (i : ℕ) → Among i xs → Among i ys → ⊥

pub asunder : (xs ys : List ℕ) → Distinct (xs ++ ys) → Asunder xs ys
asunder [] ys d = record { first = tt; second = d; apart = λ i h k. h }
asunder (x ∷ xs) ys d =
    let a = asunder xs ys d.1 in record {
      first = (λ h. d.0 (among_append x xs ys (inl h)), a.first);
      second = a.second;
      apart = λ i h k. ⊎_elim (λ e. d.0 (among_append x xs ys (inr (subst (λ (n : ℕ). Among n ys) e k)))) (λ u. a.apart i u k) h;
    }

pub together : (xs ys : List ℕ) → Asunder xs ys → Distinct (xs ++ ys)
together xs ys a = distinct_append xs ys a.first a.second a.apart

-- one side of a pair goes over to the other list
shift_right : (xs ys zs : List ℕ) → Asunder (xs ++ ys) zs → Asunder xs (ys ++ zs)
shift_right xs ys zs a =
    let b = asunder xs ys a.first in record {
      first = b.first;
      second = distinct_append ys zs b.second a.second (λ i h k. a.apart i (among_append i xs ys (inr h)) k);
      apart = λ i h k. ⊎_elim (λ u. b.apart i h u) (λ u. a.apart i (among_append i xs ys (inl h)) u) (append_among i ys zs k);
    }

-- the same with the other side
shift_left : (xs ys zs : List ℕ) → Asunder (xs ++ ys) zs → Asunder ys (xs ++ zs)
shift_left xs ys zs a =
    let b = asunder xs ys a.first in record {
      first = b.second;
      second = distinct_append xs zs b.first a.second (λ i h k. a.apart i (among_append i xs ys (inl h)) k);
      apart = λ i h k. ⊎_elim (λ u. b.apart i u h) (λ u. a.apart i (among_append i xs ys (inr h)) u) (append_among i xs zs k);
    }

-- and with one place in front of both
shift_head : (j : ℕ) (xs zs ys : List ℕ) → Asunder (j ∷ xs) ys → Asunder zs (xs ++ ys) → ((i : ℕ) → Among i zs → Among i xs → ⊥) → (Among j zs → ⊥)
    → Asunder zs (j ∷ (xs ++ ys))
shift_head j xs zs ys a b f g = record {
  first = b.first;
  second = (λ h. ⊎_elim (λ u. a.first.0 u) (λ u. a.apart j (inl refl) u) (append_among j xs ys h), b.second);
  apart = λ i h k. ⊎_elim (λ e. g (subst (λ (n : ℕ). Among n zs) e h)) (λ u. b.apart i h u) k;
}

module _ {P : Type 0} where
  pub routes_apart_lem : (w : List (Step ℕ (Seat P))) (t : Seated P) → Distinct (route_places (plug w t)) → Asunder (route_places t) (way_routes w)
  routes_apart_lem [] t d = record { first = d; second = tt; apart = λ i h k. k }
  routes_apart_lem (went_left j b r ∷ w) t d = shift_right (route_places t) (route_places r) (way_routes w) (routes_apart_lem w (node j b t r) d)
  routes_apart_lem (went_right j b l ∷ w) t d = shift_left (route_places l) (route_places t) (way_routes w) (routes_apart_lem w (node j b l t) d)

  -- a place, two lists, and the rest of the way
  pub inners_apart_lem : (w : List (Step ℕ (Seat P))) (t : Seated P) → Distinct (inner_places (plug w t)) → Asunder (inner_places t) (way_inners w)
  inners_apart_lem [] t d = record { first = d; second = tt; apart = λ i h k. k }
  inners_apart_lem (went_left j b r ∷ w) t d = go (inners_apart_lem w (node j b t r) d)
    where
      go : Asunder (j ∷ (inner_places t ++ inner_places r)) (way_inners w) → Asunder (inner_places t) (j ∷ (inner_places r ++ way_inners w))
      go a =
          let tail : Asunder (inner_places t ++ inner_places r) (way_inners w) = record { first = a.first.1; second = a.second; apart = λ i h k. a.apart i (inr h) k } in
          let head : Asunder (j ∷ inner_places r) (way_inners w) = record {
            first = (λ h. a.first.0 (among_append j (inner_places t) (inner_places r) (inr h)), (asunder (inner_places t) (inner_places r) a.first.1).second);
            second = a.second;
            apart = λ i h k. ⊎_elim (λ e. a.apart i (inl e) k) (λ u. a.apart i (inr (among_append i (inner_places t) (inner_places r) (inr u))) k) h;
          } in
          shift_head j (inner_places r) (inner_places t) (way_inners w) head (shift_right (inner_places t) (inner_places r) (way_inners w) tail)
          (λ i h k. (asunder (inner_places t) (inner_places r) a.first.1).apart i h k) (λ h. a.first.0 (among_append j (inner_places t) (inner_places r) (inl h)))
  inners_apart_lem (went_right j b l ∷ w) t d = go (inners_apart_lem w (node j b l t) d)
    where
      go : Asunder (j ∷ (inner_places l ++ inner_places t)) (way_inners w) → Asunder (inner_places t) (j ∷ (inner_places l ++ way_inners w))
      go a =
          let tail : Asunder (inner_places l ++ inner_places t) (way_inners w) = record { first = a.first.1; second = a.second; apart = λ i h k. a.apart i (inr h) k } in
          let head : Asunder (j ∷ inner_places l) (way_inners w) = record {
            first = (λ h. a.first.0 (among_append j (inner_places l) (inner_places t) (inl h)), (asunder (inner_places l) (inner_places t) a.first.1).first);
            second = a.second;
            apart = λ i h k. ⊎_elim (λ e. a.apart i (inl e) k) (λ u. a.apart i (inr (among_append i (inner_places l) (inner_places t) (inl u))) k) h;
          } in
          shift_head j (inner_places l) (inner_places t) (way_inners w) head (shift_left (inner_places l) (inner_places t) (way_inners w) tail)
          (λ i h k. (asunder (inner_places l) (inner_places t) a.first.1).apart i k h) (λ h. a.first.0 (among_append j (inner_places l) (inner_places t) (inr h)))
