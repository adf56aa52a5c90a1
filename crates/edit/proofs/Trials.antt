-- A trial opened, kept, stepped back, and a change recorded: the words after the writes say the state with the other trial.
use Prim.Native.Nat.{ℕ, suc, ◌+◌, ◌≤◌, ◌<◌}
use mathlib.Core.Path.{◌≡◌, refl, sym, ap, subst, ◌∙◌}
use mathlib.Core.List.{List, [], ◌∷◌, ◌++◌, append_assoc}
use mathlib.Core.Logic.{inl, inr}
use native.Mathlib.Nat.{le_trans}
use native.Mathlib.Numerals.{add-one}
use native.Mathlib.Omega.{arith}
use lib.ListN.{length, length-set, set}
use Rattle.model.specs.Prefix.{Prefix}
use Rattle.model.specs.State.{Change, added, deleted, changed, Trial, closed, opened, State}
use Rattle.model.specs.Call.{with_trial}
use Rattle.pool.specs.Layout.{word, Layout, changed_at, old_at, new_at}
use Rattle.pool.specs.Holds.{HoldsRoot}
use Rattle.pool.specs.Means.{PayloadThere, Records, Recorded, TrialThere}
use Rattle.pool.proofs.Frame.{RouteSame, InnerSame}
use Rattle.pool.proofs.Local.{route_agree, inner_agree, root_frame, slot_agree, recorded_frame, recorded_length}
use Rattle.pool.specs.Write.{Write, writes}
use Rattle.rows.specs.Writes.{record_writes, head_writes}
use Rattle.pool.proofs.Writes.{Off, off_append, on_left, on_right, word_off, word_on, writes_append, length_writes}
use Rattle.pool.proofs.Laid.{Agree, Outside, Laid, payload_fits, changed_fits, old_fits, head_in}
use Rattle.edit.specs.Encodes.{Encodes}

module _ {P : Type 0} (L : Layout P) where
  -- ---- another trial in the same pool

  -- the head but for the trial, and the places, agree
  abbrev pub TableSame : ℕ → List ℕ → List ℕ → Type 0
  TableSame c ws zs = (x : ℕ) → x < L.slot c 0 → (x ≡ 3 → ⊥) → (x ≡ 4 → ⊥) → word ws x ≡ word zs x

module _ {P : Type 0} (L : Layout P) (laid : Laid L) where
  module _ (c : ℕ) (ws zs : List ℕ) (f : TableSame L c ws zs) where
    route_same : (i : ℕ) → i < c → RouteSame L ws zs i
    route_same i l = route_agree L laid c ws zs i (λ x a b. f x (omega (arith, laid.joint_past c i i l, laid.slot_past c i 0 l)) (omega (arith, laid.seat_past i)) (omega (arith, laid.seat_past i)))

    inner_same : (j : ℕ) → j < c → InnerSame L c ws zs j
    inner_same j l = inner_agree L laid c ws zs j (λ x a b. f x (omega (arith, laid.slot_past c j 0 l)) (omega (arith, laid.joint_first c j)) (omega (arith, laid.joint_first c j)))

  pub encodes_trial : (ws zs : List ℕ) (s : State P) (t : Trial P) → Encodes L ws s → length zs ≡ length ws → TableSame L s.capacity ws zs → TrialThere L s.capacity zs t
      → Encodes L zs (with_trial s s.routes t)
  encodes_trial ws zs s t e l f h = record {
    tree = e.tree;
    long_enough = le_trans e.long_enough (omega (arith, l));
    capacity_there = sym (f 0 (omega (arith, laid.slot_first s.capacity 0)) (omega arith) (omega arith)) ∙ e.capacity_there;
    count_there = sym (f 1 (omega (arith, laid.slot_first s.capacity 0)) (omega arith) (omega arith)) ∙ e.count_there;
    trial_there = h;
    holds =
        subst (λ (n : ℕ). HoldsRoot L s.capacity zs n e.tree) (f 2 (omega (arith, laid.slot_first s.capacity 0)) (omega arith) (omega arith))
        (root_frame L s.capacity ws zs (route_same s.capacity ws zs f) (inner_same s.capacity ws zs f) (word ws 2) e.tree e.holds);
    good = e.good;
    routes_there = e.routes_there;
    route_places_used = λ i m u. e.route_places_used i m (subst (λ (n : ℕ). 1 ≤ n) (sym (route_same s.capacity ws zs f i m).kind) u);
    inner_places_used = λ j m u. e.inner_places_used j m (subst (λ (n : ℕ). 1 ≤ n) (sym (inner_same s.capacity ws zs f j m).mark) u);
  }

  -- ---- open, keep, step back

  head_same : (c : ℕ) (ws : List ℕ) (o n : ℕ) → TableSame L c ws (writes (head_writes o n) ws)
  head_same c ws o n x l a b = word_off x (head_writes o n) ws (a, (b, tt))

  module _ (ws : List ℕ) (s : State P) (e : Encodes L ws s) (o n : ℕ) where
    trial_written : word (writes (head_writes o n) ws) 3 ≡ o
    trial_written = word_on 3 o (head_writes o n) ws (omega (arith, e.long_enough, head_in laid s.capacity)) (inl (refl, refl, (omega arith, tt)))

    standing_written : word (writes (head_writes o n) ws) 4 ≡ n
    standing_written = word_on 4 n (head_writes o n) ws (omega (arith, e.long_enough, head_in laid s.capacity)) (inr (inl (refl, refl, tt)))

  pub open_encodes : (ws : List ℕ) (s : State P) → Encodes L ws s → Encodes L (writes (head_writes 1 0) ws) (with_trial s s.routes (opened []))
  open_encodes ws s e =
      encodes_trial ws (writes (head_writes 1 0) ws) s (opened []) e (length_writes (head_writes 1 0) ws) (head_same s.capacity ws 1 0)
      (trial_written ws s e 1 0, standing_written ws s e 1 0)

  pub close_encodes : (ws : List ℕ) (s : State P) → Encodes L ws s → Encodes L (writes (head_writes 0 0) ws) (with_trial s s.routes closed)
  close_encodes ws s e =
      encodes_trial ws (writes (head_writes 0 0) ws) s closed e (length_writes (head_writes 0 0) ws) (head_same s.capacity ws 0 0) (trial_written ws s e 0 0, standing_written ws s e 0 0)

  -- the newest change no longer stands
  pub strike_encodes : (ws : List ℕ) (s : State P) (x : Change P) (cs : List (Change P)) (n : ℕ) → Encodes L ws s → s.trial ≡ opened (x ∷ cs) → word ws 4 ≡ suc n
      → suc n ≤ L.rules.standing
      → Encodes L (writes ((4, n) ∷ []) ws) (with_trial s s.routes (opened cs))
  strike_encodes ws s x cs n e is st few =
      let zs = writes ((4, n) ∷ []) ws in
      let c = s.capacity in
      let h : TrialThere L c ws (opened (x ∷ cs)) = subst (TrialThere L c ws) is e.trial_there in
      let r : Recorded L c ws (suc n) (x ∷ cs) = subst (λ (k : ℕ). Recorded L c ws k (x ∷ cs)) st h.1 in
      let now = word_on 4 n ((4, n) ∷ []) ws (omega (arith, e.long_enough, head_in laid s.capacity)) (inl (refl, refl, tt)) in
      encodes_trial ws zs s (opened cs) e (length_writes ((4, n) ∷ []) ws) (λ y l a b. word_off y ((4, n) ∷ []) ws (b, tt)) (
        sym (word_off 3 ((4, n) ∷ []) ws (omega arith)) ∙ h.0,
        subst (λ (k : ℕ). Recorded L c zs k cs) (sym now)
            (recorded_frame L c ws zs n cs (λ k l. slot_agree L laid c ws zs k (λ y a b. word_off y ((4, n) ∷ []) ws (λ f. omega (arith, laid.slot_first c k), tt))) r.1),
      )

  -- ---- a change recorded

  -- the change that an action says of a prefix and two hops
  pub record Says (action : ℕ) (p : Prefix) (old new : P) (x : Change P) : Type 0 where
    pub known : (c : ℕ) (ws : List ℕ) (k : ℕ) → word ws (L.slot c k) ≡ action → changed_at L c ws k ≡ p → PayloadThere L ws (L.slot c k + L.old_offset) → old_at L c ws k ≡ old
        → PayloadThere L ws (L.slot c k + L.new_offset) → new_at L c ws k ≡ new → Records L c ws k x

  pub says_added : (p : Prefix) (old new : P) → Says 1 p old new (added (record { prefix = p; payload = new }))
  says_added p old new = record { known = λ c ws k a b d e f g. (a, b, f, g) }

  pub says_deleted : (p : Prefix) (old new : P) → Says 2 p old new (deleted (record { prefix = p; payload = old }))
  says_deleted p old new = record { known = λ c ws k a b d e f g. (a, b, d, e) }

  pub says_changed : (p : Prefix) (old new : P) → Says 3 p old new (changed p old new)
  says_changed p old new = record { known = λ c ws k a b d e f g. (a, b, d, e, f, g) }

  module _ (ws : List ℕ) (s : State P) (e : Encodes L ws s) (cs : List (Change P)) (is : s.trial ≡ opened cs) (few : length cs < L.rules.standing) (action : ℕ) (p : Prefix)
      (old new : P) (x : Change P) (says : Says action p old new x) where
    there : TrialThere L s.capacity ws (opened cs)
    there = subst (TrialThere L s.capacity ws) is e.trial_there

    room : word ws 4 < L.rules.standing
    room = omega (arith, recorded_length L s.capacity ws ws (word ws 4) cs there.1)

    -- the row in its parts
    k : ℕ
    k = L.slot s.capacity (word ws 4)

    adr : List Write
    adr = L.put_address (L.slot s.capacity (word ws 4) + 1) p.address

    len : List Write
    len = (L.slot s.capacity (word ws 4) + 1 + L.address_words, p.length) ∷ []

    olds : List Write
    olds = L.put_payload (L.slot s.capacity (word ws 4) + L.old_offset) old

    news : List Write
    news = L.put_payload (L.slot s.capacity (word ws 4) + L.new_offset) new

    ends : List Write
    ends = (4, word ws 4 + 1) ∷ []

    row : record_writes L s.capacity (word ws 4) action p old new ≡ (k, action) ∷ ((adr ++ len) ++ (olds ++ (news ++ ends)))
    unfolding k adr len olds news ends
    row = refl

    inside : (k + laid.slot_words ≤ length ws) × (8 ≤ k)
    unfolding k
    inside = omega (arith, e.long_enough, laid.slot_in s.capacity (word ws 4) room, laid.slot_first s.capacity (word ws 4))

    -- each part is off what is not its own
    adr_off : (y : ℕ) → Outside L.address_words (k + 1) y → Off y adr
    unfolding k adr
    adr_off y o = laid.address_put (L.slot s.capacity (word ws 4) + 1) p.address y o

    len_off : (y : ℕ) → (y ≡ k + 1 + L.address_words → ⊥) → Off y len
    unfolding k len
    len_off y n = (n, tt)

    olds_off : (y : ℕ) → Outside laid.payload_words (k + L.old_offset) y → Off y olds
    unfolding k olds
    olds_off y o = laid.payload_put (L.slot s.capacity (word ws 4) + L.old_offset) old y o

    news_off : (y : ℕ) → Outside laid.payload_words (k + L.new_offset) y → Off y news
    unfolding k news
    news_off y o = laid.payload_put (L.slot s.capacity (word ws 4) + L.new_offset) new y o

    ends_off : (y : ℕ) → k ≤ y → Off y ends
    unfolding ends
    ends_off y l = (λ f. omega (arith, inside.1), tt)

    -- a part, and what comes after it
    parted : (xs ys zs : List Write) → writes (xs ++ (ys ++ zs)) ws ≡ writes zs (writes ys (writes xs ws))
    parted xs ys zs = writes_append xs (ys ++ zs) ws ∙ writes_append ys zs (writes xs ws)

    action_read : word (writes ((k, action) ∷ ((adr ++ len) ++ (olds ++ (news ++ ends)))) ws) k ≡ action
    action_read =
        word_on k action ((k, action) ∷ ((adr ++ len) ++ (olds ++ (news ++ ends)))) ws (omega (arith, inside.0, changed_fits laid)) (inl (
          refl,
          refl,
          off_append k (adr ++ len) (olds ++ (news ++ ends)) (off_append k adr len (adr_off k (inl (omega arith))) (len_off k (λ f. omega arith)))
              (off_append k olds (news ++ ends) (olds_off k (inl (omega (arith, laid.in_slot)))) (off_append k news ends (news_off k (inl (omega (arith, laid.in_slot)))) (ends_off k (omega arith)))),
        ))

    -- past the prefix
    rest_off : (y : ℕ) → k ≤ y → y < k + L.old_offset → Off y (olds ++ (news ++ ends))
    rest_off y l m =
        off_append y olds (news ++ ends) (olds_off y (inl m)) (off_append y news ends (news_off y (inl (omega (arith, laid.in_slot)))) (ends_off y l))

    address_back_lem : L.address_at (writes adr (set ws k action)) (k + 1) ≡ p.address
    unfolding k adr
    address_back_lem =
        laid.address_back (set ws (L.slot s.capacity (word ws 4)) action) (L.slot s.capacity (word ws 4) + 1) p.address
        (omega (arith, inside.0, changed_fits laid, length-set ws (L.slot s.capacity (word ws 4)) action))

    address_read : L.address_at (writes ((k, action) ∷ ((adr ++ len) ++ (olds ++ (news ++ ends)))) ws) (k + 1) ≡ p.address
    address_read =
        let one = set ws k action in
        let two = writes adr one in
        let zs = len ++ (olds ++ (news ++ ends)) in
        let e = ap (λ (r : List Write). writes ((k, action) ∷ r) ws) (append_assoc adr len (olds ++ (news ++ ends))) ∙ writes_append adr zs one in
        ap (λ (w : List ℕ). L.address_at w (k + 1)) e
        ∙ sym
        (laid.address_read two (writes zs two) (k + 1)
        (λ y a b. word_off y zs two (off_append y len (olds ++ (news ++ ends)) (len_off y (λ f. omega arith)) (rest_off y (omega arith) (omega (arith, laid.in_slot))))))
        ∙ address_back_lem

    length_read : word (writes ((k, action) ∷ ((adr ++ len) ++ (olds ++ (news ++ ends)))) ws) (k + 1 + L.address_words) ≡ p.length
    unfolding len k
    length_read =
        word_on (k + 1 + L.address_words) p.length ((k, action) ∷ ((adr ++ len) ++ (olds ++ (news ++ ends)))) ws (omega (arith, inside.0, changed_fits laid))
        (inr (on_left (k + 1 + L.address_words) p.length (adr ++ len) (olds ++ (news ++ ends)) (on_right (k + 1 + L.address_words) p.length adr len (inl (refl, refl, tt)))
        (rest_off (k + 1 + L.address_words) (omega arith) (omega (arith, laid.in_slot)))))

    pre : List ℕ
    pre = writes ((k, action) ∷ (adr ++ len)) ws

    long_pre : length pre ≡ length ws
    unfolding pre
    long_pre = length_writes ((k, action) ∷ (adr ++ len)) ws

    after_old : List ℕ
    after_old = writes olds pre

    whole : writes ((k, action) ∷ ((adr ++ len) ++ (olds ++ (news ++ ends)))) ws ≡ writes (news ++ ends) after_old
    unfolding pre after_old
    whole = parted ((k, action) ∷ (adr ++ len)) olds (news ++ ends)

    old_agree : Agree laid.payload_words after_old (writes (news ++ ends) after_old) (k + L.old_offset)
    old_agree y a b = word_off y (news ++ ends) after_old (off_append y news ends (news_off y (inl (omega (arith, laid.in_slot)))) (ends_off y (omega arith)))

    new_agree : Agree laid.payload_words (writes news after_old) (writes (news ++ ends) after_old) (k + L.new_offset)
    new_agree y a b = word_off y ends (writes news after_old) (ends_off y (omega arith)) ∙ sym (ap (λ (w : List ℕ). word w y) (writes_append news ends after_old))

    old_inside : k + L.old_offset + laid.payload_words ≤ length pre
    old_inside = omega (arith, inside.0, old_fits laid, long_pre)

    new_inside : k + L.new_offset + laid.payload_words ≤ length after_old
    unfolding after_old
    new_inside = omega (arith, inside.0, laid.new_fits, long_pre, length_writes olds pre)

    known_at : (a b : List ℕ) (y : ℕ) → Agree laid.payload_words a b y → PayloadThere L a y → PayloadThere L b y
    known_at a b y f g = (subst (λ (n : ℕ). 1 ≤ n) (f y (omega arith) (omega (arith, payload_fits laid))) g.0, laid.known_read a b y f g.1)

    old_read : PayloadThere L (writes (news ++ ends) after_old) (k + L.old_offset) × (L.payload_at (writes (news ++ ends) after_old) (k + L.old_offset) ≡ old)
    unfolding k olds after_old
    old_read = (
      known_at after_old (writes (news ++ ends) after_old) (k + L.old_offset) old_agree (laid.known_back pre (k + L.old_offset) old old_inside),
      sym (laid.payload_read after_old (writes (news ++ ends) after_old) (k + L.old_offset) old_agree) ∙ laid.payload_back pre (k + L.old_offset) old old_inside,
    )

    new_read : PayloadThere L (writes (news ++ ends) after_old) (k + L.new_offset) × (L.payload_at (writes (news ++ ends) after_old) (k + L.new_offset) ≡ new)
    unfolding k news
    new_read = (
      known_at (writes news after_old) (writes (news ++ ends) after_old) (k + L.new_offset) new_agree (laid.known_back after_old (k + L.new_offset) new new_inside),
      sym (laid.payload_read (writes news after_old) (writes (news ++ ends) after_old) (k + L.new_offset) new_agree) ∙ laid.payload_back after_old (k + L.new_offset) new new_inside,
    )

    records : Records L s.capacity (writes (record_writes L s.capacity (word ws 4) action p old new) ws) (word ws 4) x
    unfolding k
    records =
        let zs = writes (record_writes L s.capacity (word ws 4) action p old new) ws in
        let same : zs ≡ writes ((k, action) ∷ ((adr ++ len) ++ (olds ++ (news ++ ends)))) ws = ap (λ (r : List Write). writes r ws) row in
        let last : zs ≡ writes (news ++ ends) after_old = same ∙ whole in
        let address : L.address_at zs (k + 1) ≡ p.address = ap (λ (w : List ℕ). L.address_at w (k + 1)) same ∙ address_read in
        let long : word zs (k + 1 + L.address_words) ≡ p.length = ap (λ (w : List ℕ). word w (k + 1 + L.address_words)) same ∙ length_read in
        says.known s.capacity zs (word ws 4) (ap (λ (w : List ℕ). word w k) same ∙ action_read) (λ i. record { address = address i; length = long i })
        (subst (λ (w : List ℕ). PayloadThere L w (k + L.old_offset)) (sym last) old_read.0) (ap (λ (w : List ℕ). L.payload_at w (k + L.old_offset)) last ∙ old_read.1)
        (subst (λ (w : List ℕ). PayloadThere L w (k + L.new_offset)) (sym last) new_read.0) (ap (λ (w : List ℕ). L.payload_at w (k + L.new_offset)) last ∙ new_read.1)

    -- the row is off the places and the other changes
    row_off : (y : ℕ) → (y ≡ 4 → ⊥) → Outside laid.slot_words k y → Off y (record_writes L s.capacity (word ws 4) action p old new)
    unfolding ends
    row_off y n o = subst (Off y) (sym row) (
      λ f. out 0 (omega (arith, changed_fits laid)) o (f ∙ omega arith),
      off_append y (adr ++ len) (olds ++ (news ++ ends))
          (off_append y adr len (adr_off y (part 1 L.address_words (omega (arith, changed_fits laid)) o)) (len_off y (λ f. out (1 + L.address_words) (changed_fits laid) o (f ∙ omega arith))))
          (off_append y olds (news ++ ends) (olds_off y (part L.old_offset laid.payload_words (old_fits laid) o))
          (off_append y news ends (news_off y (part L.new_offset laid.payload_words laid.new_fits o)) (n, tt))),
    )
      where
        out : (m : ℕ) → m < laid.slot_words → Outside laid.slot_words k y → y ≡ k + m → ⊥
        out m l (inl h) f = omega arith
        out m l (inr h) f = omega arith

        part : (m n : ℕ) → m + n ≤ laid.slot_words → Outside laid.slot_words k y → Outside n (k + m) y
        part m n l (inl h) = inl (omega arith)
        part m n l (inr h) = inr (omega arith)

    pub record_encodes : Encodes L (writes (record_writes L s.capacity (word ws 4) action p old new) ws) (with_trial s s.routes (opened (x ∷ cs)))
    unfolding k ends
    record_encodes =
        let ys = record_writes L s.capacity (word ws 4) action p old new in
        let zs = writes ys ws in
        let c = s.capacity in
        let now : word zs 4 ≡ word ws 4 + 1 = ap (λ (r : List Write). word (writes r ws) 4) row ∙ word_on 4 (word ws 4 + 1)
        ((k, action) ∷ ((adr ++ len) ++ (olds ++ (news ++ ends)))) ws (omega (arith, e.long_enough, head_in laid c))
        (inr (on_right 4 (word ws 4 + 1) (adr ++ len) (olds ++ (news ++ ends)) (on_right 4 (word ws 4 + 1) olds (news ++ ends) (on_right 4 (word ws 4 + 1) news ends (inl (refl, refl, tt)))))) in
        encodes_trial ws zs s (opened (x ∷ cs)) e (length_writes ys ws) (λ y l a b. word_off y ys ws (row_off y b (inl (omega (arith, laid.slot_first c (word ws 4)))))) (
          sym (word_off 3 ys ws (row_off 3 (omega arith) (inl (omega (arith, inside.1))))) ∙ there.0,
          subst (λ (n : ℕ). Recorded L c zs n (x ∷ cs)) (sym (now ∙ add-one (word ws 4))) (
            records,
            recorded_frame L c ws zs (word ws 4) cs
                (λ j l. slot_agree L laid c ws zs j (λ y a b. word_off y ys ws (row_off y (λ f. omega (arith, laid.slot_first c j)) (inl (omega (arith, laid.slots_apart c j (word ws 4) l)))))) there.1,
          ),
        )
