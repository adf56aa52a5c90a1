-- The form of a good tree is that of `Obeys`, and its routes are well formed and in walk order.
use Prim.Native.Nat.{ℕ, suc, ◌+◌, ◌*◌, ◌<◌}
use mathlib.Core.Path.{◌≡◌, refl, sym, ap, subst, ◌∙◌}
use mathlib.Core.List.{List, [], ◌∷◌}
use mathlib.Core.Logic.{◌⊎◌, inl, inr, ⊎_elim}
use mathlib.Core.Option.{Option, none, some}
use native.Mathlib.Omega.{arith}
use Rattle.bits.specs.Address.{first, bit}
use Rattle.bits.proofs.Cases.{zero_or_one}
use Rattle.bits.proofs.First.{bit_lt, first_step, first_lt}
use Rattle.model.specs.Prefix.{Prefix, Before}
use Rattle.model.specs.Routes.{Route, Held, AllAfter, InOrder, find}
use Rattle.model.proofs.Routes.{all_after, find_held}
use Rattle.model.proofs.Append.{held_append, append_order, AllBefore}
use Rattle.model.proofs.Match.{formed, AllFormed}
use Rattle.patricia.specs.Tree.{Entry, Tree, leaf, node, Root, route_of, hung, routes, root_routes, Under}
use Rattle.patricia.specs.Good.{All, Joint, Good, RootGood}
use Rattle.patricia.specs.Obeys.{Shorter, LongestFirst, AllWellFormed, Grows, Obeys, RootObeys}

-- ---- bits before b, and bit b

-- an address goes to the left at a bit, or to the right
pub side : (W b x : ℕ) → (bit W b x ≡ 0) ⊎ (bit W b x ≡ 1)
side W b x = zero_or_one (bit W b x) (bit_lt W b x)

-- first b + 1 bits that make 2 v are the first b, which make v, and a 0
first_zero : (W b v x : ℕ) → b < W → first W (suc b) x ≡ 2 * v → (first W b x ≡ v) × (bit W b x ≡ 0)
first_zero W b v x h e = (omega (arith, first_step W b x h, bit_lt W b x), omega (arith, first_step W b x h, bit_lt W b x))

-- and those that make 2 v + 1 end in a 1
first_one : (W b v x : ℕ) → b < W → first W (suc b) x ≡ 2 * v + 1 → (first W b x ≡ v) × (bit W b x ≡ 1)
first_one W b v x h e = (omega (arith, first_step W b x h, bit_lt W b x), omega (arith, first_step W b x h, bit_lt W b x))

module _ {P : Type 0} where
  -- ---- the routes of one leaf: well formed, and in walk order

  -- well formed as entries, well formed as routes
  formed_hung : (W a : ℕ) (es : List (Entry P)) → AllWellFormed W a es → AllFormed W (hung a es)
  formed_hung W a [] f q h = elim h [ ]
  formed_hung W a (e ∷ es) f q (inl p) = rw p (formed W (route_of a e).prefix f.0)
  formed_hung W a (e ∷ es) f q (inr h) = formed_hung W a es f.1 q h

  -- shorter prefixes of one address come later in walk order
  shorter_after : (a n : ℕ) (es : List (Entry P)) → Shorter n es → AllAfter (record { address = a; length = n }) (hung a es)
  unfolding Before
  shorter_after a n [] s = tt
  shorter_after a n (e ∷ es) s = (inr (refl, omega arith), shorter_after a n es s.1)

  -- so longest first is walk order
  hung_in_order : (a : ℕ) (es : List (Entry P)) → LongestFirst es → InOrder (hung a es)
  hung_in_order a [] f = tt
  hung_in_order a (e ∷ es) f = (shorter_after a e.length es f.0, hung_in_order a es f.1)

module _ {N P : Type 0} where
  -- ---- every address under a tree

  -- of each that is under it
  pub all_under : (Q : ℕ → Type 0) (x : ℕ) (t : Tree N P) → All Q t → Under x t → Q x
  all_under Q x (leaf a es) h u = subst Q (sym u) h
  all_under Q x (node n b l r) h (inl u) = all_under Q x l h.0 u
  all_under Q x (node n b l r) h (inr u) = all_under Q x r h.1 u

  -- and what it says of each it says of all
  pub under_all : (Q : ℕ → Type 0) (t : Tree N P) → ((x : ℕ) → Under x t → Q x) → All Q t
  under_all Q (leaf a es) f = f a refl
  under_all Q (node n b l r) f = (under_all Q l (λ x u. f x (inl u)), under_all Q r (λ x u. f x (inr u)))

  -- a tree has a leaf; this is the leftmost
  abbrev pub lowest : Tree N P → ℕ
  lowest (leaf a es) = a
  lowest (node n b l r) = lowest l

  -- it is under the tree
  pub lowest_under : (t : Tree N P) → Under (lowest t) t
  lowest_under (leaf a es) = refl
  lowest_under (node n b l r) = inl (lowest_under l)

  -- ---- the two sides of a node

  -- an address on the left has the bits of the value before b, and a 0 there
  pub joint_left : (W b : ℕ) (l r : Tree N P) (j : Joint W b l r) (x : ℕ) → Under x l → (first W b x ≡ j.value) × (bit W b x ≡ 0)
  joint_left W b l r j x u = first_zero W b j.value x j.within (all_under _ x l j.left u)

  -- one on the right has a 1 there
  pub joint_right : (W b : ℕ) (l r : Tree N P) (j : Joint W b l r) (x : ℕ) → Under x r → (first W b x ≡ j.value) × (bit W b x ≡ 1)
  joint_right W b l r j x u = first_one W b j.value x j.within (all_under _ x r j.right u)

  -- all under a node share the bits before its own
  pub joint_share : (W b : ℕ) (n : N) (l r : Tree N P) (j : Joint W b l r) (x : ℕ) → Under x (node n b l r) → first W b x ≡ j.value
  joint_share W b n l r j x u = ⊎_elim (λ k. (joint_left W b l r j x k).0) (λ k. (joint_right W b l r j x k).0) u

  -- the left side may be any tree of the same first bits
  pub with_left : (W b : ℕ) (l r s : Tree N P) (j : Joint W b l r) → All (λ x. first W (suc b) x ≡ 2 * j.value) s → Grows b s → Joint W b s r
  with_left W b l r s j h k = record { value = j.value; within = j.within; left = h; right = j.right; grows_left = k; grows_right = j.grows_right }

  -- and so may the right
  pub with_right : (W b : ℕ) (l r s : Tree N P) (j : Joint W b l r) → All (λ x. first W (suc b) x ≡ 2 * j.value + 1) s → Grows b s → Joint W b l s
  with_right W b l r s j h k = record { value = j.value; within = j.within; left = j.left; right = h; grows_left = j.grows_left; grows_right = k }

  -- a tree that obeys is good: the leftmost leaf gives the value
  pub obeys_good : (W : ℕ) (t : Tree N P) → Obeys W t → Good W t
  obeys_good W (leaf a es) g = g
  obeys_good W (node n b l r) (o, g, h) =
      let low : Under (lowest l) (node n b l r) = inl (lowest_under l) in (
        record {
          value = first W b (lowest l);
          within = o.within;
          left = under_all _ l (λ x u. omega (arith, first_step W b x o.within, o.share x (lowest l) (inl u) low, o.left_zero x u));
          right = under_all _ r (λ x u. omega (arith, first_step W b x o.within, o.share x (lowest l) (inr u) low, o.right_one x u));
          grows_left = o.grows_left;
          grows_right = o.grows_right;
        },
        obeys_good W l g,
        obeys_good W r h,
      )

  -- and a good tree obeys, so the two forms are one
  pub good_obeys : (W : ℕ) (t : Tree N P) → Good W t → Obeys W t
  good_obeys W (leaf a es) g = g
  good_obeys W (node n b l r) (j, g, h) = (
    record {
      within = j.within;
      share = λ x y u v. joint_share W b n l r j x u ∙ sym (joint_share W b n l r j y v);
      left_zero = λ x u. (joint_left W b l r j x u).1;
      right_one = λ x u. (joint_right W b l r j x u).1;
      grows_left = j.grows_left;
      grows_right = j.grows_right;
    },
    good_obeys W l g,
    good_obeys W r h,
  )

  -- the same of a table's tree, which may be empty
  pub root_obeys_good : (W : ℕ) (t : Root N P) → RootObeys W t → RootGood W t
  root_obeys_good W none o = tt
  root_obeys_good W (some t) o = obeys_good W t o

  -- and back
  pub root_good_obeys : (W : ℕ) (t : Root N P) → RootGood W t → RootObeys W t
  root_good_obeys W none g = tt
  root_good_obeys W (some t) g = good_obeys W t g

  -- ---- the routes of a tree, and the addresses under it

  -- a held route's address is under the tree
  pub held_under : (q : Route P) (t : Tree N P) → Held q (routes t) → Under q.prefix.address t
  held_under q (leaf a []) h = elim h [ ]
  held_under q (leaf a (e ∷ es)) (inl p) = ap (λ (r : Route P). r.prefix.address) p
  held_under q (leaf a (e ∷ es)) (inr h) = held_under q (leaf a es) h
  held_under q (node n b l r) h = ⊎_elim (λ k. inl (held_under q l k)) (λ k. inr (held_under q r k)) ((held_append q (routes l) (routes r)).0 h)

  -- and every address under a good tree has a held route
  pub under_held : (W : ℕ) (x : ℕ) (t : Tree N P) → Good W t → Under x t → (q : Route P) × Held q (routes t) × (q.prefix.address ≡ x)
  under_held W x (leaf a []) g u = absurd (omega (arith, g.has_route))
  under_held W x (leaf a (e ∷ es)) g u = (route_of a e, inl refl, sym u)
  under_held W x (node n b l r) (j, g, h) (inl u) = let (q, k, e) = under_held W x l g u in (q, (held_append q (routes l) (routes r)).1 (inl k), e)
  under_held W x (node n b l r) (j, g, h) (inr u) = let (q, k, e) = under_held W x r h u in (q, (held_append q (routes l) (routes r)).1 (inr k), e)

  -- so it has routes
  pub routes_some : (W : ℕ) (t : Tree N P) → Good W t → routes t ≡ [] → ⊥
  routes_some W t g e = let (q, k, f) = under_held W (lowest t) t g (lowest_under t) in subst (Held q) e k

  -- and the empty tree alone has none
  pub root_none : (W : ℕ) (t : Root N P) → RootGood W t → root_routes t ≡ [] → t ≡ none
  root_none W none g e = refl
  root_none W (some t) g e = absurd (routes_some W t g e)

  -- a prefix that is found has its address under the tree
  pub found_under : (p : Prefix) (q : Route P) (t : Tree N P) → find p (routes t) ≡ some q → Under p.address t
  found_under p q t e = let w = find_held p q (routes t) e in subst (λ (x : Prefix). Under x.address t) w.1 (held_under q t w.0)

  -- so one whose address is not there is not found
  pub not_under : (p : Prefix) (t : Tree N P) → (Under p.address t → ⊥) → find p (routes t) ≡ none
  not_under p t f = go (find p (routes t)) refl
    where
      go : (o : Option (Route P)) → find p (routes t) ≡ o → o ≡ none
      go none e = refl
      go (some q) e = absurd (f (found_under p q t e))

  -- ---- the sides of a node

  -- an address of the left side's first bits is below all on the right
  pub below_right : (W b : ℕ) (l r : Tree N P) (j : Joint W b l r) (x y : ℕ) → first W (suc b) x ≡ 2 * j.value → Under y r → x < y
  below_right W b l r j x y e u = first_lt W (suc b) x y (omega (arith, all_under _ y r j.right u))

  -- and one of the right side's is above all on the left
  pub above_left : (W b : ℕ) (l r : Tree N P) (j : Joint W b l r) (x y : ℕ) → first W (suc b) x ≡ 2 * j.value + 1 → Under y l → y < x
  above_left W b l r j x y e u = first_lt W (suc b) y x (omega (arith, all_under _ y l j.left u))

  -- so its prefix comes before every route on the right
  pub after_right : (W b : ℕ) (l r : Tree N P) (j : Joint W b l r) (p : Prefix) → first W (suc b) p.address ≡ 2 * j.value → AllAfter p (routes r)
  unfolding Before
  after_right W b l r j p e = all_after p (routes r) (λ q h. inl (below_right W b l r j p.address q.prefix.address e (held_under q r h)))

  -- and after every route on the left
  pub before_left : (W b : ℕ) (l r : Tree N P) (j : Joint W b l r) (p : Prefix) → first W (suc b) p.address ≡ 2 * j.value + 1 → AllBefore (routes l) p
  unfolding Before
  before_left W b l r j p e q h = inl (above_left W b l r j p.address q.prefix.address e (held_under q l h))

  -- ---- well formed, and in walk order

  -- every route of a good tree is well formed
  pub formed_routes : (W : ℕ) (t : Tree N P) → Good W t → AllFormed W (routes t)
  formed_routes W (leaf a es) g q k = formed_hung W a es g.well_formed_here q k
  formed_routes W (node n b l r) (j, g, h) q k = ⊎_elim (formed_routes W l g q) (formed_routes W r h q) ((held_append q (routes l) (routes r)).0 k)

  -- from left to right is walk order
  pub routes_in_order : (W : ℕ) (t : Tree N P) → Good W t → InOrder (routes t)
  routes_in_order W (leaf a es) g = hung_in_order a es g.longest_first
  routes_in_order W (node n b l r) (j, g, h) =
      append_order (routes l) (routes r) (routes_in_order W l g) (routes_in_order W r h)
      (λ q s u v. before_left W b l r j s.prefix (all_under _ s.prefix.address r j.right (held_under s r v)) q u)
