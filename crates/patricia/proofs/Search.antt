-- The longest match by the tree: where the destination's bit is 1, what the left side has to offer stands in its leftmost leaf.
use Prim.Native.Nat.{ℕ, ◌≤◌, ◌<◌}
use mathlib.Core.Path.{◌≡◌, refl, sym, ap, ◌∙◌}
use mathlib.Core.Bool.{Bool, true, false, cond}
use mathlib.Core.List.{List, [], ◌∷◌, ◌++◌}
use mathlib.Core.Logic.{⊎_elim, inl, inr}
use mathlib.Core.Option.{Option, none, some}
use native.Mathlib.Nat.{le_refl, le_of_lt}
use native.Mathlib.Omega.{arith}
use borrow.Author.Tests.{le-ltb, lt-ltb}
use Rattle.bits.specs.Address.{first, bit}
use Rattle.bits.proofs.Cases.{lt_or_le}
use Rattle.bits.proofs.First.{first_fewer, bit_fewer, clear_bit, clear_least}
use Rattle.model.specs.Prefix.{matches}
use Rattle.model.specs.Routes.{Route, Held}
use Rattle.model.specs.Match.{NoMatch, longer, best}
use Rattle.model.proofs.Append.{held_append}
use Rattle.model.proofs.Match.{Formed, matched, best_some, none_best}
use Rattle.patricia.specs.Good.{Joint, Good, RootGood}
use Rattle.patricia.specs.Tree.{Entry, Tree, leaf, node, Root, route_of, hung, routes, root_routes, Under}
use Rattle.patricia.specs.Obeys.{Shorter, LongestFirst}
use Rattle.patricia.specs.Way.{toward}
use Rattle.patricia.proofs.Form.{side, all_under, lowest, lowest_under, joint_left, joint_right, held_under, below_right, formed_routes}

module _ {P : Type 0} where
  -- the first that is there
  abbrev pub or_else : Option (Route P) → Option (Route P) → Option (Route P)
  or_else none o = o
  or_else (some r) o = some r

  -- the first route of a leaf that matches; longest first, so the longest
  abbrev pub first_match : ℕ → ℕ → ℕ → List (Entry P) → Option (Route P)
  first_match W d a [] = none
  first_match W d a (e ∷ es) = cond (matches W (route_of a e).prefix d) (some (route_of a e)) (first_match W d a es)

  -- ---- `best` of two lists, one behind the other

  -- where nothing on the right matches it is the left one's
  best_left : (W d : ℕ) (l m : List (Route P)) → NoMatch W d m → best W d (l ++ m) ≡ best W d l
  best_left W d [] m f = none_best W d m f
  best_left W d (x ∷ xs) m f = ap (λ (o : Option (Route P)). cond (matches W x.prefix d) (longer x o) o) (best_left W d xs m f)

  -- every match on the left is shorter than every match on the right
  abbrev ShorterLeft : ℕ → ℕ → List (Route P) → List (Route P) → Type 0
  ShorterLeft W d l m =
      (q r : Route P) → Held q l → Held r m → matches W q.prefix d ≡ true → matches W r.prefix d ≡ true → q.prefix.length < r.prefix.length

  -- then it is the right one's, and the left one's where the right has none
  best_right : (W d : ℕ) (l m : List (Route P)) → ShorterLeft W d l m → best W d (l ++ m) ≡ or_else (best W d m) (best W d l)
  best_right W d [] m f = go (best W d m)
    where
      go : (o : Option (Route P)) → o ≡ or_else o none
      go none = refl
      go (some r) = refl
  best_right W d (x ∷ xs) m f = go (matches W x.prefix d) refl (best W d m) refl (best_right W d xs m (λ q r h k. f q r (inr h) k))
    where
      go : (b : Bool) → matches W x.prefix d ≡ b → (o : Option (Route P)) → best W d m ≡ o → best W d (xs ++ m) ≡ or_else (best W d m) (best W d xs)
          → best W d ((x ∷ xs) ++ m) ≡ or_else (best W d m) (best W d (x ∷ xs))
      go true t none e ih = rw (t, e) (ap (longer x) (rw e at ih))
      go true t (some r) e ih =
          let w = best_some W d m r e in
          let ahead : longer x (some r) ≡ some r = rw (lt-ltb x.prefix.length r.prefix.length (f x r (inl refl) w.held t w.fits)) in
          rw (t, e) (ap (longer x) (rw e at ih) ∙ ahead)
      go false t o e ih = rw t ih

  -- ---- one leaf

  -- an entry that is shorter is a shorter route
  shorter_held : (a n : ℕ) (q : Route P) (es : List (Entry P)) → Shorter n es → Held q (hung a es) → q.prefix.length < n
  shorter_held a n q [] s h = elim h [ ]
  shorter_held a n q (e ∷ es) s (inl p) = rw p s.0
  shorter_held a n q (e ∷ es) s (inr h) = shorter_held a n q es s.1 h

  -- the first that matches is the longest
  first_best : (W d a : ℕ) (es : List (Entry P)) → LongestFirst es → first_match W d a es ≡ best W d (hung a es)
  first_best W d a [] f = refl
  first_best W d a (e ∷ es) f = go (matches W (route_of a e).prefix d) refl (best W d (hung a es)) refl (first_best W d a es f.1)
    where
      go : (b : Bool) → matches W (route_of a e).prefix d ≡ b → (o : Option (Route P)) → best W d (hung a es) ≡ o → first_match W d a es ≡ best W d (hung a es)
          → first_match W d a (e ∷ es) ≡ best W d (hung a (e ∷ es))
      go true t none p ih = rw (t, p)
      go true t (some q) p ih =
          let less = shorter_held a e.length q es f.0 (best_some W d (hung a es) q p).held in
          rw (t, p) (rw (le-ltb e.length q.prefix.length (le_of_lt less)))
      go false t o p ih = rw t ih

module _ {N P : Type 0} where
  -- the same in the leftmost leaf
  abbrev pub leftmost_match : ℕ → ℕ → Tree N P → Option (Route P)
  leftmost_match W d (leaf a es) = first_match W d a es
  leftmost_match W d (node n b l r) = leftmost_match W d l

  -- down by the destination's bits, and up again over the left sides that were passed by
  abbrev pub search : ℕ → ℕ → Tree N P → Option (Route P)
  search W d (leaf a es) = first_match W d a es
  search W d (node n b l r) = toward (bit W b d) (search W d l) (or_else (search W d r) (leftmost_match W d l))

  -- the empty tree has no match
  abbrev pub root_search : ℕ → ℕ → Root N P → Option (Route P)
  root_search W d none = none
  root_search W d (some t) = search W d t

  -- ---- the leftmost leaf

  -- its address is below all on the right of a node
  lowest_below : (W b : ℕ) (l r : Tree N P) → Joint W b l r → (y : ℕ) → Under y r → lowest l < y
  lowest_below W b l r j y u = below_right W b l r j (lowest l) y (all_under _ (lowest l) l j.left (lowest_under l)) u

  -- so it is the least of all
  pub lowest_least : (W x : ℕ) (t : Tree N P) → Good W t → Under x t → lowest t ≤ x
  lowest_least W x (leaf a es) g u = rw u (le_refl a)
  lowest_least W x (node n b l r) (j, g, h) (inl u) = lowest_least W x l g u
  lowest_least W x (node n b l r) (j, g, h) (inr u) = le_of_lt (lowest_below W b l r j x u)

  -- where no match has a higher address, the longest match is there
  leftmost_best : (W d : ℕ) (t : Tree N P) → Good W t → ((q : Route P) → Held q (routes t) → matches W q.prefix d ≡ true → q.prefix.address ≤ lowest t)
      → leftmost_match W d t ≡ best W d (routes t)
  unfolding NoMatch
  leftmost_best W d (leaf a es) g f = first_best W d a es g.longest_first
  leftmost_best W d (node n b l r) (j, g, h) f =
      let none_right : NoMatch W d (routes r) =
      λ q k t. omega (arith, f q ((held_append q (routes l) (routes r)).1 (inr k)) t, lowest_below W b l r j q.prefix.address (held_under q r k)) in
      leftmost_best W d l g (λ q k t. f q ((held_append q (routes l) (routes r)).1 (inl k)) t) ∙ sym (best_left W d (routes l) (routes r) none_right)

  -- ---- the two sides of a node

  module _ (W b : ℕ) (l r : Tree N P) (j : Joint W b l r) (d : ℕ) (q : Route P) (f : Formed W q.prefix) (t : matches W q.prefix d ≡ true) where
    -- past its own length a prefix says nothing of the destination; before it they agree
    agree : b < q.prefix.length → bit W b d ≡ bit W b q.prefix.address
    agree h = bit_fewer W b q.prefix.length d q.prefix.address h f.short (matched W q.prefix d t)

    -- a match on the right is longer than b
    right_long : Held q (routes r) → b < q.prefix.length
    right_long h =
        let one = (joint_right W b l r j q.prefix.address (held_under q r h)).1 in
        ⊎_elim (λ k. k) (λ k. absurd (omega (arith, clear_bit W q.prefix.length b q.prefix.address k j.within f.zeros))) (lt_or_le b q.prefix.length)

    -- so the destination's bit is 1 there
    right_one_lem : Held q (routes r) → bit W b d ≡ 1
    right_one_lem h = agree (right_long h) ∙ (joint_right W b l r j q.prefix.address (held_under q r h)).1

    -- where the destination's bit is 1 a match on the left is at most b long
    left_short : Held q (routes l) → bit W b d ≡ 1 → q.prefix.length ≤ b
    left_short h one =
        let zero = (joint_left W b l r j q.prefix.address (held_under q l h)).1 in
        ⊎_elim (λ k. absurd (omega (arith, agree k))) (λ k. k) (lt_or_le b q.prefix.length)

    -- so it is clear from b on, and its address is the least there
    left_least_lem : Held q (routes l) → bit W b d ≡ 1 → q.prefix.address ≤ lowest l
    left_least_lem h one =
        let x = q.prefix.address in
        let n = q.prefix.length in
        let share : first W b x ≡ first W b (lowest l) = (joint_left W b l r j x (held_under q l h)).0 ∙ sym (joint_left W b l r j (lowest l) (lowest_under l)).0 in
        clear_least W n x (lowest l) f.zeros (first_fewer W n b x (lowest l) (left_short h one) (le_of_lt j.within) share)

  -- ---- the search finds the longest match

  module _ (W b d : ℕ) (l r : Tree N P) (j : Joint W b l r) (g : Good W l) (h : Good W r) where
    -- where the destination's bit is 0 it is on the left
    best_zero : bit W b d ≡ 0 → best W d (routes l ++ routes r) ≡ best W d (routes l)
    unfolding NoMatch
    best_zero z = best_left W d (routes l) (routes r) (λ q k t. omega (arith, right_one_lem W b l r j d q (formed_routes W r h q k) t k))

    -- where it is 1 it is on the right, or else in the leftmost leaf of the left side
    best_one : bit W b d ≡ 1 → best W d (routes l ++ routes r) ≡ or_else (best W d (routes r)) (leftmost_match W d l)
    best_one o =
        let short : ShorterLeft W d (routes l) (routes r) = λ q s k m t v.
        omega (arith, left_short W b l r j d q (formed_routes W l g q k) t k o, right_long W b l r j d s (formed_routes W r h s m) v m) in
        let left = leftmost_best W d l g (λ q k t. left_least_lem W b l r j d q (formed_routes W l g q k) t k o) in
        best_right W d (routes l) (routes r) short ∙ ap (or_else (best W d (routes r))) (sym left)

  -- it finds what `best` finds in the routes
  pub search_best : (W d : ℕ) (t : Tree N P) → Good W t → search W d t ≡ best W d (routes t)
  search_best W d (leaf a es) g = first_best W d a es g.longest_first
  search_best W d (node n b l r) (j, g, h) =
      ⊎_elim (λ z. rw z (search_best W d l g ∙ sym (best_zero W b d l r j g h z)))
      (λ o. rw o (ap (λ (q : Option (Route P)). or_else q (leftmost_match W d l)) (search_best W d r h) ∙ sym (best_one W b d l r j g h o)))
      (side W b d)

  -- in the empty tree too
  pub root_search_best : (W d : ℕ) (t : Root N P) → RootGood W t → root_search W d t ≡ best W d (root_routes t)
  root_search_best W d none g = refl
  root_search_best W d (some t) g = search_best W d t g
