-- What is kept of items of the format is spelled by items of the format.
use Rattle.std.proofs.Common.{◌≡◌, ℕ, zero, suc, ◌==◌, ◌<◌, ◌≤◌, ◌⊎◌, inl, inr, Bool, true, false, cond, List, [], ◌∷◌, ◌++◌, length, get_or, Option, Some, None, refl, sym, ap, subst, ◌∙◌, arith}
use Rattle.std.specs.Prelude.{All, unwrap_or}
use Rattle.std.specs.List.{flat_map, AllByRecursion, slice_get}
use Rattle.std.specs.List.Sorted.{IsStrictlySortedBy}
use Rattle.std.specs.Cmp.{IsTotalOrder, nat_cmp_total}
use Rattle.std.specs.Cmp.Lexicographic.{nat_list_cmp_total}
use Rattle.std.specs.Map.{keys_of}
use Rattle.std.specs.BTreeMap.{BTreeMap, get}
use Rattle.std.specs.declared.cmp.Ordering.{Ordering}
use Rattle.std.proofs.lemmas.Bool.Decides.{nat_tests}
use Rattle.std.proofs.lemmas.List.Elements.{All-cons, All-nil, All-append}
use Rattle.std.proofs.lemmas.Map.Entries.{btree_map_get_place}
use Rattle.mega_base.specs.Lists.{All-head, All-tail}
use Rattle.mega_base.specs.declared.names.GroupId.{GroupId}
use Rattle.mega_base.specs.declared.names.Position.{Position}
use Rattle.mega_acceptor.specs.of_ballot.declared.ballot.Ballot.{Ballot}
use Rattle.mega_acceptor.specs.of_ballot.Order.{IsBelow, zero_ballot}
use Rattle.mega_acceptor.proofs.of_ballot.Ordered.{irreflexive, transitive, zero_least}
use Rattle.mega_acceptor.specs.of_entry.declared.content.Content.{Content}
use Rattle.mega_wal.specs.declared.item.JournalItem.{JournalItem}
use Rattle.mega_wal.specs.declared.item.JournalItem.TheVariants.{Start, Promise, Accept, Decide, Grant, Lapse, Starts}
use Rattle.mega_acceptor.specs.declared.slot.Slot.{Slot}
use Rattle.mega_wal.specs.declared.groups.Log.{Log}
use Rattle.mega_wal.specs.declared.kept.Kept.{Kept}
use Rattle.mega_wal.specs.Acceptor.{Act, Promised, Voted, Vote, best, greater_ballot, greater_vote, is_ballot_below, shown}
use Rattle.mega_wal.specs.History.{Granted, acts_of, after_grant, after_lapse, decided_of, first_of, granted_of, group_cmp, is_epoch_below, is_place, is_same_epoch, starts_of}
use Rattle.mega_wal.specs.Compaction.{IsOfFormat, IsOrderedKept, IsOrderedLog, compacted, decided_items, grant_items, log_items, promise_items, slot_items, vote_items, voted_ballot}
use Rattle.mega_wal.specs.Items.{IsItem}
use Rattle.mega_wal.specs.Kept.{empty_slot, slot_in, slot_of}
use Rattle.mega_wal.proofs.Orders.{is_below_iff}
use Rattle.mega_wal.proofs.Steps.{place_is}

pub starts_most : (items : List JournalItem) → starts_of items ≤ 4294967295
starts_most [] = omega arith
starts_most (Start ∷ before) = omega arith
starts_most (Starts starts ∷ before) = omega arith
starts_most (Grant other epoch ∷ before) = starts_most before
starts_most (Lapse other epoch ∷ before) = starts_most before
starts_most (Promise other position ballot ∷ before) = starts_most before
starts_most (Accept other position ballot entry ∷ before) = starts_most before
starts_most (Decide other position entry ∷ before) = starts_most before

pub group_order : IsTotalOrder group_cmp
group_order = record {
  antisymm = λ x y. nat_list_cmp_total.antisymm x.key y.key;
  trans = λ x y z. nat_list_cmp_total.trans x.key y.key z.key;
  congr = λ x y z. nat_list_cmp_total.congr x.key y.key z.key;
}

-- an item at one place is one at the same place
abbrev at : ℕ → Position
at n = record { 0 = n }

moved : (make : GroupId → Position → JournalItem) (other group : GroupId) (position : Position) (n : ℕ) → (other ≡ group) × (position.0 ≡ n) → IsItem (make other position) → IsItem (make group (at n))
moved make other group position n is f = subst (λ m. IsItem (make group (at m))) is.1 (subst (λ g. IsItem (make g position)) is.0 f)

-- ---- the vote of a place
best_fits : (items : List JournalItem) → All IsItem items → (g : GroupId) (n : ℕ) (vote : Vote) → best (acts_of items g n) ≡ Some vote → IsItem (Accept g (at n) vote.0 vote.1)
best_fits [] each g n vote h = cc
best_fits (Start ∷ before) each g n vote h = best_fits before (All-tail IsItem _ before each) g n vote h
best_fits (Decide other position entry ∷ before) each g n vote h = best_fits before (All-tail IsItem _ before each) g n vote h
best_fits (Grant node epoch ∷ before) each g n vote h = best_fits before (All-tail IsItem _ before each) g n vote h
best_fits (Lapse node epoch ∷ before) each g n vote h = best_fits before (All-tail IsItem _ before each) g n vote h
best_fits (Starts starts ∷ before) each g n vote h = best_fits before (All-tail IsItem _ before each) g n vote h
best_fits (Promise other position ballot ∷ before) each g n vote h = best_fits before (All-tail IsItem _ before each) g n vote (go (is_place other position g n) h)
  where
    go : (test : Bool) → best (cond test (Promised ballot (best (acts_of before g n)) ∷ acts_of before g n) (acts_of before g n)) ≡ Some vote → best (acts_of before g n) ≡ Some vote
    go true h = h
    go false h = h
best_fits (Accept other position ballot entry ∷ before) each g n vote h =
    go (is_place other position g n) refl (All-head IsItem (Accept other position ballot entry) before each) (best_fits before (All-tail IsItem _ before each) g n vote) h
  where
    acts : List Act
    acts = acts_of before g n

    go : (test : Bool) → is_place other position g n ≡ test → IsItem (Accept other position ballot entry) → (best acts ≡ Some vote → IsItem (Accept g (at n) vote.0 vote.1))
        → best (cond test (Voted ballot entry ∷ acts) acts) ≡ Some vote → IsItem (Accept g (at n) vote.0 vote.1)
    go false e f rest h = rest h
    go true e f rest h = pick (best acts) rest h
      where
        mine : (ballot, entry) ≡ vote → IsItem (Accept g (at n) vote.0 vote.1)
        mine is = subst (λ (v : Vote). IsItem (Accept g (at n) v.0 v.1)) is (moved (λ o p. Accept o p ballot entry) other g position n (place_is other g position n e) f)

        pick : (o : Option Vote) → (o ≡ Some vote → IsItem (Accept g (at n) vote.0 vote.1)) → greater_vote o ballot entry ≡ Some vote → IsItem (Accept g (at n) vote.0 vote.1)
        pick None rest h = mine (let k : (ballot, entry) ≡ vote = cc in k)
        pick (Some w) rest h = by_order (is_ballot_below ballot w.0) h
          where
            by_order : (test : Bool) → cond test (Some w) (Some (ballot, entry)) ≡ Some vote → IsItem (Accept g (at n) vote.0 vote.1)
            by_order true h = rest h
            by_order false h = mine (let k : (ballot, entry) ≡ vote = cc in k)

-- ---- the promise of a place
abbrev ShownFits : GroupId → ℕ → Ballot → Type 0
ShownFits g n ballot = (ballot ≡ zero_ballot) ⊎ IsItem (Promise g (at n) ballot)

greater_fits : (g : GroupId) (n : ℕ) (a b : Ballot) → ShownFits g n a → IsItem (Promise g (at n) b) → ShownFits g n (greater_ballot a b)
greater_fits g n a b fa fb = go (is_ballot_below a b)
  where
    go : (test : Bool) → ShownFits g n (cond test b a)
    go true = inr fb
    go false = fa

shown_fits : (items : List JournalItem) → All IsItem items → (g : GroupId) (n : ℕ) → ShownFits g n (shown (acts_of items g n))
shown_fits [] each g n = inl refl
shown_fits (Start ∷ before) each g n = shown_fits before (All-tail IsItem _ before each) g n
shown_fits (Decide other position entry ∷ before) each g n = shown_fits before (All-tail IsItem _ before each) g n
shown_fits (Grant node epoch ∷ before) each g n = shown_fits before (All-tail IsItem _ before each) g n
shown_fits (Lapse node epoch ∷ before) each g n = shown_fits before (All-tail IsItem _ before each) g n
shown_fits (Starts starts ∷ before) each g n = shown_fits before (All-tail IsItem _ before each) g n
shown_fits (Promise other position ballot ∷ before) each g n = go (is_place other position g n) refl (All-head IsItem (Promise other position ballot) before each) (shown_fits before (All-tail IsItem _ before each) g n)
  where
    acts : List Act
    acts = acts_of before g n

    go : (test : Bool) → is_place other position g n ≡ test → IsItem (Promise other position ballot) → ShownFits g n (shown acts) → ShownFits g n (shown (cond test (Promised ballot (best acts) ∷ acts) acts))
    go false e f rest = rest
    go true e f rest = greater_fits g n (shown acts) ballot rest (moved (λ o p. Promise o p ballot) other g position n (place_is other g position n e) f)
shown_fits (Accept other position ballot entry ∷ before) each g n = go (is_place other position g n) refl (All-head IsItem (Accept other position ballot entry) before each) (shown_fits before (All-tail IsItem _ before each) g n)
  where
    acts : List Act
    acts = acts_of before g n

    go : (test : Bool) → is_place other position g n ≡ test → IsItem (Accept other position ballot entry) → ShownFits g n (shown acts) → ShownFits g n (shown (cond test (Voted ballot entry ∷ acts) acts))
    go false e f rest = rest
    go true e f rest = greater_fits g n (shown acts) ballot rest (moved (λ o p. Promise o p ballot) other g position n (place_is other g position n e) (f.0, (f.1.0, f.1.1.0)))

-- ---- the decision of a place
decided_fits : (items : List JournalItem) → All IsItem items → (g : GroupId) (n : ℕ) (entry : Content) → decided_of items g n ≡ Some entry → IsItem (Decide g (at n) entry)
decided_fits [] each g n entry h = cc
decided_fits (Start ∷ before) each g n entry h = decided_fits before (All-tail IsItem _ before each) g n entry h
decided_fits (Promise other position ballot ∷ before) each g n entry h = decided_fits before (All-tail IsItem _ before each) g n entry h
decided_fits (Accept other position ballot own ∷ before) each g n entry h = decided_fits before (All-tail IsItem _ before each) g n entry h
decided_fits (Grant node epoch ∷ before) each g n entry h = decided_fits before (All-tail IsItem _ before each) g n entry h
decided_fits (Lapse node epoch ∷ before) each g n entry h = decided_fits before (All-tail IsItem _ before each) g n entry h
decided_fits (Starts starts ∷ before) each g n entry h = decided_fits before (All-tail IsItem _ before each) g n entry h
decided_fits (Decide other position own ∷ before) each g n entry h =
    go (is_place other position g n) refl (All-head IsItem (Decide other position own) before each) (decided_of before g n) (decided_fits before (All-tail IsItem _ before each) g n entry) h
  where
    go : (test : Bool) → is_place other position g n ≡ test → IsItem (Decide other position own) → (o : Option Content) → (o ≡ Some entry → IsItem (Decide g (at n) entry))
        → cond test (first_of o own) o ≡ Some entry → IsItem (Decide g (at n) entry)
    go false e f o rest h = rest h
    go true e f None rest h = subst (λ (v : Content). IsItem (Decide g (at n) v)) (let k : own ≡ entry = cc in k) (moved (λ o p. Decide o p own) other g position n (place_is other g position n e) f)
    go true e f (Some d) rest h = rest h

-- ---- the grant of a node
granted_fits : (items : List JournalItem) → All IsItem items → (node : ℕ) (v : Granted) → granted_of items node ≡ Some v → IsItem (Grant (record { 0 = node }) v.0)
granted_fits [] each node v h = cc
granted_fits (Start ∷ before) each node v h = granted_fits before (All-tail IsItem _ before each) node v h
granted_fits (Promise other position ballot ∷ before) each node v h = granted_fits before (All-tail IsItem _ before each) node v h
granted_fits (Accept other position ballot own ∷ before) each node v h = granted_fits before (All-tail IsItem _ before each) node v h
granted_fits (Decide other position own ∷ before) each node v h = granted_fits before (All-tail IsItem _ before each) node v h
granted_fits (Starts starts ∷ before) each node v h = granted_fits before (All-tail IsItem _ before each) node v h
granted_fits (Grant other epoch ∷ before) each node v h =
    go (other.0 == node) refl (All-head IsItem (Grant other epoch) before each) (granted_of before node) (granted_fits before (All-tail IsItem _ before each) node v) h
  where
    go : (test : Bool) → (other.0 == node) ≡ test → IsItem (Grant other epoch) → (o : Option Granted) → (o ≡ Some v → IsItem (Grant (record { 0 = node }) v.0))
        → cond test (after_grant o epoch) o ≡ Some v → IsItem (Grant (record { 0 = node }) v.0)
    go false e f o rest h = rest h
    go true e f o rest h = pick o rest h
      where
        mine : (epoch, true) ≡ v → IsItem (Grant (record { 0 = node }) v.0)
        mine is = subst (λ (w : Granted). IsItem (Grant (record { 0 = node }) w.0)) is (subst (λ m. IsItem (Grant (record { 0 = m }) epoch)) (let k : other.0 ≡ node = grind (arith, nat_tests) in k) f)

        pick : (o : Option Granted) → (o ≡ Some v → IsItem (Grant (record { 0 = node }) v.0)) → after_grant o epoch ≡ Some v → IsItem (Grant (record { 0 = node }) v.0)
        pick None rest h = mine (let k : (epoch, true) ≡ v = cc in k)
        pick (Some w) rest h = by_order (is_epoch_below w.0 epoch) h
          where
            by_order : (test : Bool) → cond test (Some (epoch, true)) (Some w) ≡ Some v → IsItem (Grant (record { 0 = node }) v.0)
            by_order true h = mine (let k : (epoch, true) ≡ v = cc in k)
            by_order false h = rest h
granted_fits (Lapse other epoch ∷ before) each node v h =
    go (other.0 == node) (granted_of before node) (granted_fits before (All-tail IsItem _ before each) node) h
  where
    go : (test : Bool) (o : Option Granted) → ((w : Granted) → o ≡ Some w → IsItem (Grant (record { 0 = node }) w.0)) → cond test (after_lapse o epoch) o ≡ Some v → IsItem (Grant (record { 0 = node }) v.0)
    go false o rest h = rest v h
    go true None rest h = cc
    go true (Some w) rest h = by_epoch (is_same_epoch w.0 epoch) h
      where
        by_epoch : (test : Bool) → cond test (Some (w.0, false)) (Some w) ≡ Some v → IsItem (Grant (record { 0 = node }) v.0)
        by_epoch true h = subst (λ (u : Granted). IsItem (Grant (record { 0 = node }) u.0)) (let k : (w.0, false) ≡ v = cc in k) (rest w refl)
        by_epoch false h = rest v h

-- ---- a slot
none_below_zero : (a : Ballot) → is_ballot_below a zero_ballot ≡ true → ⊥
none_below_zero a h = go (zero_least a) ((is_below_iff a zero_ballot).0 h)
  where
    go : (a ≡ zero_ballot) ⊎ IsBelow zero_ballot a → IsBelow a zero_ballot → ⊥
    go (inl e) k = irreflexive zero_ballot (subst (λ b. IsBelow b zero_ballot) e k)
    go (inr m) k = irreflexive zero_ballot (transitive zero_ballot a zero_ballot m k)

one : (item : JournalItem) → IsItem item → All IsItem (item ∷ [])
one item f = All-cons IsItem item [] f (All-nil IsItem)

slot_fits : (items : List JournalItem) → All IsItem items → (g : GroupId) (n : ℕ) (slot : Slot) → slot ≡ slot_of items g n → All IsItem (slot_items g (n, slot))
slot_fits items each g n slot is =
    All-append IsItem (vote_items g n slot.accepted ++ promise_items g n slot) (decided_items g n slot.decided)
    (All-append IsItem (vote_items g n slot.accepted) (promise_items g n slot)
    (votes slot.accepted (λ vote h. best_fits items each g n vote (sym (ap (λ (s : Slot). s.accepted) is) ∙ h)))
    (promises (is_ballot_below (voted_ballot slot.accepted) slot.promised) refl (subst (ShownFits g n) (sym (ap (λ (s : Slot). s.promised) is)) (shown_fits items each g n))))
    (decides slot.decided (λ entry h. decided_fits items each g n entry (sym (ap (λ (s : Slot). s.decided) is) ∙ h)))
  where
    votes : (o : Option Vote) → ((vote : Vote) → o ≡ Some vote → IsItem (Accept g (at n) vote.0 vote.1)) → All IsItem (vote_items g n o)
    votes None f = All-nil IsItem
    votes (Some vote) f = one (Accept g (at n) vote.0 vote.1) (f vote refl)

    promises : (test : Bool) → is_ballot_below (voted_ballot slot.accepted) slot.promised ≡ test → ShownFits g n slot.promised → All IsItem (cond test (Promise g (at n) slot.promised ∷ []) [])
    promises false e f = All-nil IsItem
    promises true e (inl z) = absurd (none_below_zero (voted_ballot slot.accepted) (ap (is_ballot_below (voted_ballot slot.accepted)) (sym z) ∙ e))
    promises true e (inr f) = one (Promise g (at n) slot.promised) f

    decides : (o : Option Content) → ((entry : Content) → o ≡ Some entry → IsItem (Decide g (at n) entry)) → All IsItem (decided_items g n o)
    decides None f = All-nil IsItem
    decides (Some entry) f = one (Decide g (at n) entry) (f entry refl)

-- ---- the entries of a map
flat_all : {A : Type 0} (F : A → List JournalItem) (xs : List A) → All (λ a. All IsItem (F a)) xs → All IsItem (flat_map F xs)
flat_all F [] each = All-nil IsItem
flat_all F (x ∷ xs) each = All-append IsItem (F x) (flat_map F xs) (All-head (λ a. All IsItem (F a)) x xs each) (flat_all F xs (All-tail (λ a. All IsItem (F a)) x xs each))

place_at : {A : Type 0} (xs : List A) (i : ℕ) (d : A) → i < length xs → slice_get xs i ≡ Some (get_or xs i d)
place_at [] i d lt = absurd (omega arith)
place_at (x ∷ xs) zero d lt = refl
place_at (x ∷ xs) (suc i) d lt = place_at xs i d (omega arith)

pub found_at : {K X : Type 0} {R : K → K → Ordering} → IsTotalOrder R → (m : BTreeMap K X) → IsStrictlySortedBy R (keys_of m.entries) → (i : ℕ) (d : K × X) → i < length m.entries → get R m (get_or m.entries i d).0 ≡ Some (get_or m.entries i d).1
found_at o m sorted i d lt = btree_map_get_place o m i (get_or m.entries i d).0 (get_or m.entries i d).1 sorted (place_at m.entries i d lt)

by_index : {A : Type 0} (P : A → Type 0) (xs : List A) → AllByRecursion P xs → (i : ℕ) (d : A) → i < length xs → P (get_or xs i d)
by_index P [] all i d lt = absurd (omega arith)
by_index P (x ∷ xs) all zero d lt = all.0
by_index P (x ∷ xs) all (suc i) d lt = by_index P xs all.1 i d (omega arith)

log_fits : (items : List JournalItem) → All IsItem items → (g : GroupId) (log : Log) → IsOrderedLog log → ((n : ℕ) → slot_in (Some log) n ≡ slot_of items g n) → All IsItem (log_items (g, log))
log_fits items each g log sorted is = flat_all (slot_items g) log.slots.entries (λ i d lt.
    let e : ℕ × Slot = get_or log.slots.entries i d in
    slot_fits items each g e.0 e.1 (sym (ap (λ o. unwrap_or o empty_slot) (found_at nat_cmp_total log.slots sorted i d lt)) ∙ is e.0))

pub compacted_fits : (kept : Kept) → IsOfFormat kept → IsOrderedKept kept → All IsItem (compacted kept)
compacted_fits kept format ordered =
    All-cons IsItem (Starts kept.starts) (flat_map log_items kept.groups.entries ++ flat_map grant_items kept.granted.entries)
    (omega arith, subst (λ n. n ≤ 4294967295) (sym format.represents.starts) (starts_most format.items))
    (All-append IsItem (flat_map log_items kept.groups.entries) (flat_map grant_items kept.granted.entries)
    (flat_all log_items kept.groups.entries (λ i d lt.
    let e : GroupId × Log = get_or kept.groups.entries i d in
    log_fits format.items format.each e.0 e.1 (by_index (λ (e : GroupId × Log). IsOrderedLog e.1) kept.groups.entries ordered.groups.logs i d lt)
    (λ n. sym (ap (λ o. slot_in o n) (found_at group_order kept.groups ordered.groups.keys i d lt)) ∙ format.represents.groups.slots e.0 n)))
    (flat_all grant_items kept.granted.entries (λ i d lt.
    let e : ℕ × Granted = get_or kept.granted.entries i d in
    grants e (granted_fits format.items format.each e.0 e.1 (sym (format.represents.granted e.0) ∙ found_at nat_cmp_total kept.granted ordered.granted i d lt)))))
  where
    grants : (e : ℕ × Granted) → IsItem (Grant (record { 0 = e.0 }) e.1.0) → All IsItem (grant_items e)
    grants e f = All-cons IsItem (Grant (record { 0 = e.0 }) e.1.0) _ f (go e.1.1)
      where
        go : (held : Bool) → All IsItem (cond held [] (Lapse (record { 0 = e.0 }) e.1.0 ∷ []))
        go true = All-nil IsItem
        go false = one (Lapse (record { 0 = e.0 }) e.1.0) f
