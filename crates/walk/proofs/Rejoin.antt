-- Up the way to where an address parts from the leaf's: what stands below the parting shares one bit more with the leaf than with the address.
use Prim.Native.Nat.{ℕ, suc, ◌-◌, ◌≤◌, ◌<◌}
use mathlib.Core.Path.{◌≡◌, refl, sym, ap, subst, ◌∙◌}
use mathlib.Core.List.{List, [], ◌∷◌}
use mathlib.Core.Logic.{inl, inr, ⊎_elim}
use native.Mathlib.Nat.{le_refl, le_of_lt}
use native.Mathlib.Omega.{arith}
use lib.ListN.{length, get_or}
use Rattle.bits.specs.Address.{first, bit}
use Rattle.bits.proofs.Cases.{eq_or_ne}
use Rattle.bits.proofs.First.{first_fewer}
use Rattle.patricia.specs.Good.{All, Joint, Good}
use Rattle.patricia.specs.Tree.{Tree, leaf, node, Under}
use Rattle.patricia.specs.Way.{Step, went_left, went_right, plug, Follows}
use Rattle.patricia.proofs.Form.{under_all, joint_left, joint_right, joint_share}
use Rattle.patricia.proofs.Zip.{not_past_lem}
use Rattle.pool.specs.Layout.{Layout, mark_at}
use Rattle.pool.specs.Link.{to_inner}
use Rattle.pool.specs.Holds.{Seat, Seated, bare, Holds}
use Rattle.search.specs.Down.{Kept}
use Rattle.search.proofs.Bare.{bare_way, bare_plug}
use Rattle.walk.proofs.Around.{Shares, shares_before}
use Rattle.search.proofs.Rising.{StepHeld, WayHeld, part_held, kept_tail, follows_tail}

module _ {P : Type 0} where
  -- a step put back around a tree
  abbrev join : Step ℕ (Seat P) → Seated P → Seated P
  join (went_left n b r) t = node n b t r
  join (went_right n b l) t = node n b l t

  plug_join : (s : Step ℕ (Seat P)) (w : List (Step ℕ (Seat P))) (t : Seated P) → plug (s ∷ w) t ≡ plug w (join s t)
  plug_join (went_left n b r) w t = refl
  plug_join (went_right n b l) w t = refl

  -- a node of this name
  abbrev pub Named : ℕ → Seated P → Type 0
  Named x (leaf a es) = ⊥
  Named x (node n b l r) = n ≡ x

module _ {P : Type 0} (L : Layout P) where
  pub named_link : (c : ℕ) (ws : List ℕ) (link x : ℕ) (t : Seated P) → Named x t → Holds L c ws link t → link ≡ to_inner x
  named_link c ws link x (leaf a es) n h = absurd n
  named_link c ws link x (node j b l r) n h = h.0 ∙ ap to_inner n

  -- k is a bit at which x and a differ
  module _ (c : ℕ) (ws inner : List ℕ) (k x a : ℕ) (below : k < L.rules.width) (apart : bit L.rules.width k x ≡ bit L.rules.width k a → ⊥) where
    -- an address that shares the bits before k and k itself with a
    abbrev pub Near : ℕ → Type 0
    Near y = first L.rules.width (suc k) y ≡ first L.rules.width (suc k) a

    near_node : (n b : ℕ) (l r : Tree ℕ P) → Joint L.rules.width b l r → Under a (node n b l r) → k < b → All Near (node n b l r)
    near_node n b l r j u h =
        under_all Near (node n b l r)
        (λ y v. first_fewer L.rules.width (suc k) b y a h (le_of_lt j.within) (joint_share L.rules.width b n l r j y v ∙ sym (joint_share L.rules.width b n l r j a u)))

    -- a node on the way does not test bit k, since x and a go the same way there
    past : (b z : ℕ) → k ≤ b → bit L.rules.width b x ≡ z → bit L.rules.width b a ≡ z → k < b
    past b z h p q = let ne : k ≡ b → ⊥ = λ e. apart (subst (λ (y : ℕ). bit L.rules.width y x ≡ bit L.rules.width y a) (sym e) (p ∙ sym q)) in omega arith

    -- so where it tests a later bit, all that stands there is near
    join_near : (s : Step ℕ (Seat P)) (w : List (Step ℕ (Seat P))) (t : Seated P) → Good L.rules.width (bare (join s t)) → Under a (bare t)
        → Follows L.rules.width x (s ∷ w) → StepHeld L c ws s → Kept inner (s ∷ w)
        → k < mark_at L c ws (get_or inner (length w) 0) → All Near (bare (join s t)) × Under a (bare (join s t)) × Named (get_or inner (length w) 0) (join s t)
    join_near (went_left n b r) w t g u f h q m =
        let e : mark_at L c ws (get_or inner (length w) 0) ≡ suc b = ap (mark_at L c ws) q.0 ∙ h.0 in
        let l = past b 0 (omega arith) f.0 (joint_left L.rules.width b (bare t) (bare r) g.0 a u).1 in
        (near_node n b (bare t) (bare r) g.0 (inl u) l, inl u, sym q.0)
    join_near (went_right n b r) w t g u f h q m =
        let e : mark_at L c ws (get_or inner (length w) 0) ≡ suc b = ap (mark_at L c ws) q.0 ∙ h.0 in
        let l = past b 1 (omega arith) f.0 (joint_right L.rules.width b (bare r) (bare t) g.0 a u).1 in
        (near_node n b (bare r) (bare t) g.0 (inr u) l, inr u, sym q.0)

    -- what stands at the level, and the way above it
    pub record Rejoins (w : List (Step ℕ (Seat P))) (s : Seated P) (level : ℕ) : Type 0 where
      pub upper : List (Step ℕ (Seat P))
      pub part : Seated P
      pub whole : plug upper part ≡ plug w s
      pub steps : level ≡ length upper
      pub places : Kept inner upper
      pub follows : Follows L.rules.width x upper
      pub near : All Near (bare part)
      pub under : Under a (bare part)
      pub same : level ≡ length w → part ≡ s
      pub named : level < length w → Named (get_or inner level 0) part

    pub rejoins : (w : List (Step ℕ (Seat P))) (s : Seated P) (level link : ℕ) → Holds L c ws link (plug w s) → Good L.rules.width (bare (plug w s)) → Kept inner w
        → Follows L.rules.width x w → level ≤ length w
        → ((m : ℕ) → level ≤ m → m < length w → k < mark_at L c ws (get_or inner m 0)) → All Near (bare s) → Under a (bare s) → Rejoins w s level
    rejoins [] s level link h g q f l n v u = record {
      upper = [];
      part = s;
      whole = refl;
      steps = omega arith;
      places = tt;
      follows = tt;
      near = v;
      under = u;
      same = λ e. refl;
      named = λ e. absurd (omega arith);
    }
    rejoins (t ∷ w) s level link h g q f l n v u =
        ⊎_elim here
        (λ e. let less : level ≤ length w = omega arith in
        let z = join_near t w s (good e) u f beside.0 q (n (length w) less (omega arith)) in
        more less z.2
        (rejoins w (join t s) level link (subst (Holds L c ws link) (plug_join t w s) h) (subst (λ (y : Seated P). Good L.rules.width (bare y)) (plug_join t w s) g)
        (kept_tail inner t w q)
        (follows_tail L.rules.width x t w f) less (λ m i j. n m i (omega arith)) z.0 z.1))
        (eq_or_ne level (length (t ∷ w)))
      where
        beside : WayHeld L c ws (t ∷ w)
        beside = (part_held L c ws link (t ∷ w) s h g).beside

        good : (level ≡ length (t ∷ w) → ⊥) → Good L.rules.width (bare (join t s))
        good e = (part_held L c ws link w (join t s) (subst (Holds L c ws link) (plug_join t w s) h) (subst (λ (y : Seated P). Good L.rules.width (bare y)) (plug_join t w s) g)).good

        here : level ≡ length (t ∷ w) → Rejoins (t ∷ w) s level
        here e = record {
          upper = t ∷ w;
          part = s;
          whole = refl;
          steps = e;
          places = q;
          follows = f;
          near = v;
          under = u;
          same = λ z. refl;
          named = λ z. absurd (omega arith);
        }

        more : level ≤ length w → Named (get_or inner (length w) 0) (join t s) → Rejoins w (join t s) level → Rejoins (t ∷ w) s level
        more less name r = record {
          upper = r.upper;
          part = r.part;
          whole = r.whole ∙ sym (plug_join t w s);
          steps = r.steps;
          places = r.places;
          follows = r.follows;
          near = r.near;
          under = r.under;
          same = λ e. absurd (omega arith);
          named =
              λ e. ⊎_elim (λ o. subst (λ (y : ℕ). Named (get_or inner y 0) r.part) (sym o) (subst (Named (get_or inner (length w) 0)) (sym (r.same o)) name)) (λ o. r.named (omega arith)) (eq_or_ne level (length w));
        }

    -- above it the address shares each bit with the leaf
    pub rejoined_shares : (w : List (Step ℕ (Seat P))) (t : Seated P) (link level : ℕ) → Holds L c ws link (plug w t) → Good L.rules.width (bare (plug w t)) → Kept inner w
        → level ≡ length w
        → (0 < level → mark_at L c ws (get_or inner (level - 1) 0) ≤ k) → first L.rules.width k x ≡ first L.rules.width k a → Shares L.rules.width x a (bare_way w)
    rejoined_shares [] t link level h g q l m e = tt
    rejoined_shares (went_left n b r ∷ w) t link level h g q l m e =
        let last : level - 1 ≡ length w = omega arith in
        let held = (part_held L c ws link (went_left n b r ∷ w) t h g).beside.0.0 in
        let mark = m (omega arith) in
        let at : mark_at L c ws (get_or inner (level - 1) 0) ≡ suc b = ap (λ (y : ℕ). mark_at L c ws (get_or inner y 0)) last ∙ ap (mark_at L c ws) q.0 ∙ held in
        let up = not_past_lem L.rules.width b (bare_way w) n b (bare t) (bare r) (subst (Good L.rules.width) (bare_plug w (node n b t r)) g) (le_refl b) in
        shares_before L.rules.width b k x a (bare_way (went_left n b r ∷ w)) (le_refl b, up) (omega arith) (omega arith) e
    rejoined_shares (went_right n b r ∷ w) t link level h g q l m e =
        let last : level - 1 ≡ length w = omega arith in
        let held = (part_held L c ws link (went_right n b r ∷ w) t h g).beside.0.0 in
        let mark = m (omega arith) in
        let at : mark_at L c ws (get_or inner (level - 1) 0) ≡ suc b = ap (λ (y : ℕ). mark_at L c ws (get_or inner y 0)) last ∙ ap (mark_at L c ws) q.0 ∙ held in
        let up = not_past_lem L.rules.width b (bare_way w) n b (bare r) (bare t) (subst (Good L.rules.width) (bare_plug w (node n b r t)) g) (le_refl b) in
        shares_before L.rules.width b k x a (bare_way (went_right n b r ∷ w)) (le_refl b, up) (omega arith) (omega arith) e
