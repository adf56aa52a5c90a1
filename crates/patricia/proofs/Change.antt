-- The routes of one leaf changed, and the tree left as it is otherwise.
use Prim.Native.Nat.{ℕ, suc, ◌+◌, ◌*◌}
use mathlib.Core.Path.{◌≡◌, sym, ap, subst, ◌∙◌}
use mathlib.Core.List.{List, ◌++◌}
use mathlib.Core.Logic.{⊎_elim}
use Rattle.bits.specs.Address.{first, bit}
use Rattle.model.specs.Prefix.{Prefix}
use Rattle.model.specs.Routes.{Route, AllAfter, insert}
use Rattle.model.proofs.Append.{AllBefore, insert_left, insert_right}
use Rattle.patricia.specs.Good.{All, Joint, Good}
use Rattle.patricia.specs.Tree.{Entry, Tree, leaf, node, hung, routes, Under}
use Rattle.patricia.specs.Obeys.{LeafObeys, Grows}
use Rattle.patricia.specs.Way.{toward, reached}
use Rattle.patricia.proofs.Form.{side, all_under, with_left, with_right, after_right, before_left}
use Rattle.patricia.proofs.Find.{entries_at, under_left, under_right}

-- what changes a list of routes at one prefix leaves the routes that all come before it, or all after it, alone
pub record Local {P : Type 0} (p : Prefix) (op : List (Route P) → List (Route P)) : Type 0 where
  pub at_left : (l m : List (Route P)) → AllAfter p m → op (l ++ m) ≡ op l ++ m
  pub at_right : (l m : List (Route P)) → AllBefore l p → op (l ++ m) ≡ l ++ op m

-- insert is such a change
pub insert_local : {P : Type 0} (r : Route P) → Local r.prefix (insert r)
insert_local r = record { at_left = insert_left r; at_right = insert_right r }

module _ {N P : Type 0} where
  -- ---- such a change of the routes of a node

  module _ (p : Prefix) (op : List (Route P) → List (Route P)) (k : Local p op) (W b : ℕ) (l r : Tree N P) (j : Joint W b l r) where
    -- where p has the first bits of the left side, it changes the left side's
    pub local_left : (m : List (Route P)) → first W (suc b) p.address ≡ 2 * j.value → m ≡ op (routes l) → m ++ routes r ≡ op (routes l ++ routes r)
    local_left m f e = ap (λ (w : List (Route P)). w ++ routes r) e ∙ sym (k.at_left (routes l) (routes r) (after_right W b l r j p f))

    -- and where it has those of the right side, the right side's
    pub local_right : (m : List (Route P)) → first W (suc b) p.address ≡ 2 * j.value + 1 → m ≡ op (routes r) → routes l ++ m ≡ op (routes l ++ routes r)
    local_right m f e = ap (λ (w : List (Route P)). routes l ++ w) e ∙ sym (k.at_right (routes l) (routes r) (before_left W b l r j p f))

  module _ (W b : ℕ) (n : N) (l r : Tree N P) (j : Joint W b l r) (x : ℕ) (u : Under x (node n b l r)) where
    -- an address under a node with a 0 there has the first bits of the left side
    pub first_left : bit W b x ≡ 0 → first W (suc b) x ≡ 2 * j.value
    first_left z = all_under _ x l j.left (under_left W b n l r j x z u)

    -- and one with a 1 those of the right side
    pub first_right : bit W b x ≡ 1 → first W (suc b) x ≡ 2 * j.value + 1
    first_right o = all_under _ x r j.right (under_right W b n l r j x o u)

  -- ---- one leaf

  -- the leaf that a's bits lead to, with its routes changed by f
  abbrev pub change : ℕ → ℕ → (List (Entry P) → List (Entry P)) → Tree N P → Tree N P
  change W a f (leaf b es) = leaf b (f es)
  change W a f (node m c l r) = toward (bit W c a) (node m c (change W a f l) r) (node m c l (change W a f r))

  module _ (W a : ℕ) (f : List (Entry P) → List (Entry P)) where
    -- ---- the tree's form

    -- the addresses stay
    change_all : (Q : ℕ → Type 0) (t : Tree N P) → All Q t → All Q (change W a f t)
    change_all Q (leaf b es) h = h
    change_all Q (node m c l r) (h, k) = ⊎_elim (λ z. rw z (change_all Q l h, k)) (λ o. rw o (h, change_all Q r k)) (side W c a)

    -- and the bits
    change_grows : (b : ℕ) (t : Tree N P) → Grows b t → Grows b (change W a f t)
    change_grows b (leaf d es) h = tt
    change_grows b (node m c l r) h = ⊎_elim (λ z. rw z h) (λ o. rw o h) (side W c a)

    -- a good tree stays good if that leaf does
    pub change_good : (t : Tree N P) → Good W t → LeafObeys W (reached W a t) (f (entries_at W a t)) → Good W (change W a f t)
    change_good (leaf b es) g f-good = f-good
    change_good (node m c l r) (j, g, h) f-good =
        ⊎_elim (λ z. rw z (with_left W c l r (change W a f l) j (change_all _ l j.left) (change_grows c l j.grows_left), change_good l g (rw z at f-good), h))
        (λ o. rw o (with_right W c l r (change W a f r) j (change_all _ r j.right) (change_grows c r j.grows_right), g, change_good r h (rw o at f-good)))
        (side W c a)

    -- ---- its routes

    -- if a is under the tree, and op changes the routes of its leaf as f does, op so changes all the routes
    pub change_routes : (p : Prefix) (op : List (Route P) → List (Route P)) → Local p op → p.address ≡ a → ((es : List (Entry P)) → op (hung a es) ≡ hung a (f es))
        → (t : Tree N P) → Good W t → Under a t → routes (change W a f t) ≡ op (routes t)
    change_routes p op k s e (leaf b es) g u = subst (λ (x : ℕ). hung x (f es) ≡ op (hung x es)) u (sym (e es))
    change_routes p op k s e (node m c l r) (j, g, h) u =
        ⊎_elim (λ z. rw z (local_left p op k W c l r j _ (rw s (first_left W c m l r j a u z)) (change_routes p op k s e l g (under_left W c m l r j a z u))))
        (λ o. rw o (local_right p op k W c l r j _ (rw s (first_right W c m l r j a u o)) (change_routes p op k s e r h (under_right W c m l r j a o u))))
        (side W c a)
