-- What is kept after one item more.
use Rattle.std.proofs.Common.{◌≡◌, ℕ, zero, suc, ◌-◌, ◌==◌, ◌≤◌, ◌&&◌, ◌||◌, Bool, true, false, cond, max, List, ◌∷◌, Option, Some, None, refl, sym, ap, ◌∙◌, arith}
use Rattle.std.specs.Prelude.{is_some}
use Rattle.std.proofs.lemmas.Bool.Decides.{nat_tests}
use Rattle.mega_base.specs.declared.names.GroupId.{GroupId}
use Rattle.mega_base.specs.declared.names.Position.{Position}
use Rattle.mega_acceptor.specs.of_ballot.declared.ballot.Ballot.{Ballot}
use Rattle.mega_acceptor.specs.of_entry.declared.content.Content.{Content}
use Rattle.mega_wal.specs.declared.item.JournalItem.{JournalItem}
use Rattle.mega_wal.specs.declared.item.JournalItem.TheVariants.{Promise, Accept, Decide}
use Rattle.mega_acceptor.specs.declared.slot.Slot.{Slot}
use Rattle.mega_wal.specs.declared.groups.Marks.{Marks}
use Rattle.mega_acceptor.specs.of_entry.Same.{same_group}
use Rattle.mega_wal.specs.Acceptor.{Act, Promised, Voted, best, shown}
use Rattle.mega_base.proofs.Climbs.{climb_same, climb_skip}
use Rattle.mega_base.specs.Climbing.{climb}
use Rattle.mega_wal.specs.History.{acts_of, decided_of, first_of, is_place, newest_of, prefix_of, top_of}
use Rattle.mega_wal.specs.Kept.{Groups, Holds, Puts, Same, accepted_marks, accepted_slot, decided_marks, decided_slot, is_decided_with, marks_at, marks_of, promised_slot, slot_at, slot_of}
use Rattle.mega_acceptor.proofs.of_entry.Sames.{same_group_equal, same_group_self}
use Rattle.mega_wal.proofs.Orders.{is_group_is}

-- ---- places
pub place_is : (group other : GroupId) (position : Position) (n : ℕ) → is_place group position other n ≡ true → (group ≡ other) × (position.0 ≡ n)
place_is group other position n h = go (same_group group other) (position.0 == n) refl refl h
  where
    go : (a b : Bool) → same_group group other ≡ a → (position.0 == n) ≡ b → (a && b) ≡ true → (group ≡ other) × (position.0 ≡ n)
    go true true x y h = (same_group_equal group other x, grind (arith, nat_tests))
    go true false x y h = cc
    go false b x y h = cc

-- an item changes the slot of its place by this step, and no other
abbrev pub StepsBy : List JournalItem → JournalItem → GroupId → Position → (Slot → Slot) → Type 0
StepsBy items item group position step = (other : GroupId) (n : ℕ) → slot_of (item ∷ items) other n ≡ cond (is_place group position other n) (step (slot_of items other n)) (slot_of items other n)

slots_step : (old new : Groups) (items : List JournalItem) (item : JournalItem) (group : GroupId) (position : Position) (step : Slot → Slot) (marks : Marks)
    → Holds old items → StepsBy items item group position step → Puts old new group position.0 (step (slot_at old group position.0)) marks
    → (other : GroupId) (n : ℕ) → slot_at new other n ≡ slot_of (item ∷ items) other n
slots_step old new items item group position step marks holds steps puts other n =
    puts.slots other n ∙ (ap (λ test. cond (test && position.0 == n) (step (slot_at old group position.0)) (slot_at old other n)) (is_group_is group other) ∙ (go (is_place group position other n) refl ∙ sym (steps other n)))
  where
    go : (test : Bool) → is_place group position other n ≡ test → cond test (step (slot_at old group position.0)) (slot_at old other n) ≡ cond test (step (slot_of items other n)) (slot_of items other n)
    go true e = let is = place_is group other position n e in (λ i. step (slot_at old (is.0 i) (is.1 i))) ∙ ap step (holds.slots other n)
    go false e = holds.slots other n

marks_step : (old new : Groups) (items : List JournalItem) (item : JournalItem) (group : GroupId) (n : ℕ) (slot : Slot) (marks : Marks)
    → Holds old items → ((other : GroupId) → marks_of (item ∷ items) other ≡ cond (same_group group other) (marks_of (item ∷ items) other) (marks_of items other))
    → Puts old new group n slot marks → marks ≡ marks_of (item ∷ items) group
    → (other : GroupId) → marks_at new other ≡ marks_of (item ∷ items) other
marks_step old new items item group n slot marks holds apart puts is other =
    puts.groups other ∙ (ap (λ test. cond test marks (marks_at old other)) (is_group_is group other) ∙ (go (same_group group other) refl ∙ sym (apart other)))
  where
    go : (test : Bool) → same_group group other ≡ test → cond test marks (marks_at old other) ≡ cond test (marks_of (item ∷ items) other) (marks_of items other)
    go true e = is ∙ ap (marks_of (item ∷ items)) (same_group_equal group other e)
    go false e = holds.marks other

-- nothing changed
pub same_holds : (old new : Groups) (items : List JournalItem) → Same old new → Holds old items → Holds new items
same_holds old new items same holds = record { slots = λ g n. same.slots g n ∙ holds.slots g n; marks = λ g. same.marks g ∙ holds.marks g }

-- ---- a promise
pub promise_steps : (items : List JournalItem) (group : GroupId) (position : Position) (ballot : Ballot) → StepsBy items (Promise group position ballot) group position (λ slot. promised_slot slot ballot)
promise_steps items group position ballot other n = go (is_place group position other n)
  where
    acts : List Act
    acts = acts_of items other n

    go : (test : Bool) → record { promised = shown (cond test (Promised ballot (best acts) ∷ acts) acts); accepted = best (cond test (Promised ballot (best acts) ∷ acts) acts); decided = decided_of items other n }
        ≡ cond test (promised_slot (slot_of items other n) ballot) (slot_of items other n)
    go true = refl
    go false = refl

kept_marks : (test : Bool) (marks : Marks) → marks ≡ cond test marks marks
kept_marks true marks = refl
kept_marks false marks = refl

pub promise_holds : (old new : Groups) (items : List JournalItem) (group : GroupId) (position : Position) (ballot : Ballot)
    → Puts old new group position.0 (promised_slot (slot_at old group position.0) ballot) (marks_at old group) → Holds old items → Holds new (Promise group position ballot ∷ items)
promise_holds old new items group position ballot puts holds = record {
  slots = slots_step old new items (Promise group position ballot) group position (λ slot. promised_slot slot ballot) (marks_at old group) holds (promise_steps items group position ballot) puts;
  marks = marks_step old new items (Promise group position ballot) group position.0 (promised_slot (slot_at old group position.0) ballot) (marks_at old group) holds
      (λ other. kept_marks (same_group group other) (marks_of items other)) puts (holds.marks group);
}

-- ---- a vote
pub accept_steps : (items : List JournalItem) (group : GroupId) (position : Position) (ballot : Ballot) (entry : Content) → StepsBy items (Accept group position ballot entry) group position (λ slot. accepted_slot slot ballot entry)
accept_steps items group position ballot entry other n = go (is_place group position other n)
  where
    acts : List Act
    acts = acts_of items other n

    go : (test : Bool) → record { promised = shown (cond test (Voted ballot entry ∷ acts) acts); accepted = best (cond test (Voted ballot entry ∷ acts) acts); decided = decided_of items other n }
        ≡ cond test (accepted_slot (slot_of items other n) ballot entry) (slot_of items other n)
    go true = refl
    go false = refl

accept_marks : (items : List JournalItem) (group : GroupId) (position : Position) (ballot : Ballot) (entry : Content) (other : GroupId)
    → marks_of (Accept group position ballot entry ∷ items) other ≡ cond (same_group group other) (accepted_marks (marks_of items other) position.0) (marks_of items other)
accept_marks items group position ballot entry other = go (same_group group other)
  where
    go : (test : Bool) → record { top = cond test (max (top_of items other) position.0) (top_of items other); newest = newest_of items other; prefix = prefix_of items other }
        ≡ cond test (accepted_marks (marks_of items other) position.0) (marks_of items other)
    go true = refl
    go false = refl

again : (test : Bool) (all made kept : Marks) → all ≡ cond test made kept → all ≡ cond test all kept
again true all made kept h = refl
again false all made kept h = h

at_self : (group : GroupId) (all made kept : Marks) → all ≡ cond (same_group group group) made kept → made ≡ all
at_self group all made kept h = sym (h ∙ ap (λ test. cond test made kept) (same_group_self group))

pub accept_holds : (old new : Groups) (items : List JournalItem) (group : GroupId) (position : Position) (ballot : Ballot) (entry : Content)
    → Puts old new group position.0 (accepted_slot (slot_at old group position.0) ballot entry) (accepted_marks (marks_at old group) position.0) → Holds old items → Holds new (Accept group position ballot entry ∷ items)
accept_holds old new items group position ballot entry puts holds = record {
  slots = slots_step old new items (Accept group position ballot entry) group position (λ slot. accepted_slot slot ballot entry) (accepted_marks (marks_at old group) position.0) holds (accept_steps items group position ballot entry) puts;
  marks = marks_step old new items (Accept group position ballot entry) group position.0 (accepted_slot (slot_at old group position.0) ballot entry) (accepted_marks (marks_at old group) position.0) holds
      (λ other. again (same_group group other) (marks_of (Accept group position ballot entry ∷ items) other) (accepted_marks (marks_of items other) position.0) (marks_of items other) (accept_marks items group position ballot entry other))
      puts
      (ap (λ marks. accepted_marks marks position.0) (holds.marks group) ∙ at_self group (marks_of (Accept group position ballot entry ∷ items) group) (accepted_marks (marks_of items group) position.0) (marks_of items group) (accept_marks items group position ballot entry group));
}

-- ---- a decision
pub decide_steps : (items : List JournalItem) (group : GroupId) (position : Position) (entry : Content) → StepsBy items (Decide group position entry) group position (λ slot. decided_slot slot entry)
decide_steps items group position entry other n = go (is_place group position other n)
  where
    go : (test : Bool) → record { promised = shown (acts_of items other n); accepted = best (acts_of items other n); decided = cond test (first_of (decided_of items other n) entry) (decided_of items other n) }
        ≡ cond test (decided_slot (slot_of items other n) entry) (slot_of items other n)
    go true = refl
    go false = refl

pub some_first : (o : Option Content) (entry : Content) → is_some (first_of o entry) ≡ true
some_first None entry = refl
some_first (Some e) entry = refl

-- decided now: decided before, or decided by this item
decided_now : (items : List JournalItem) (group : GroupId) (position : Position) (entry : Content) (m : ℕ) → is_some (decided_of (Decide group position entry ∷ items) group m) ≡ (position.0 == m || is_some (decided_of items group m))
decided_now items group position entry m =
    ap (λ test. is_some (cond (test && position.0 == m) (first_of (decided_of items group m) entry) (decided_of items group m))) (same_group_self group) ∙ go (position.0 == m)
  where
    go : (test : Bool) → is_some (cond test (first_of (decided_of items group m) entry) (decided_of items group m)) ≡ (test || is_some (decided_of items group m))
    go true = some_first (decided_of items group m) entry
    go false = refl

or_true : (a b : Bool) → b ≡ true → (a || b) ≡ true
or_true true b h = refl
or_true false b h = h

prefix_step : (items : List JournalItem) (group : GroupId) (position : Position) (entry : Content)
    → climb (λ m. position.0 == m || is_some (decided_of items group m)) (max (newest_of items group) position.0 - prefix_of items group) (prefix_of items group)
    ≡ prefix_of (Decide group position entry ∷ items) group
prefix_step items group position entry = sym (
    climb_same (λ m. is_some (decided_of (Decide group position entry ∷ items) group m)) wide (decided_now items group position entry) (newest_of (Decide group position entry ∷ items) group) 0
    ∙ (ap (λ n. climb wide n 0) newest_is ∙ (climb_skip narrow wide (λ n h. or_true (position.0 == n) (narrow n) h) lowest most 0 least
    ∙ ap (λ n. climb wide n p) (let e : most - (p - 0) ≡ most - p = omega arith in e))))
  where
    narrow : ℕ → Bool
    narrow m = is_some (decided_of items group m)

    wide : ℕ → Bool
    wide m = position.0 == m || is_some (decided_of items group m)

    lowest : ℕ
    lowest = newest_of items group

    most : ℕ
    most = max (newest_of items group) position.0

    p : ℕ
    p = prefix_of items group

    least : newest_of items group ≤ max (newest_of items group) position.0
    least = omega arith

    newest_is : newest_of (Decide group position entry ∷ items) group ≡ most
    newest_is = ap (λ test. cond test (max (newest_of items group) position.0) (newest_of items group)) (same_group_self group)

decide_marks_here : (old : Groups) (items : List JournalItem) (group : GroupId) (position : Position) (entry : Content) → Holds old items
    → decided_marks old group (marks_at old group) position.0 ≡ marks_of (Decide group position entry ∷ items) group
decide_marks_here old items group position entry holds =
    ap (λ marks. decided_marks old group marks position.0) (holds.marks group)
    ∙ (λ i. record { top = top_is i; newest = newest_is i; prefix = prefix_is i })
  where
    top_is : max (top_of items group) position.0 ≡ top_of (Decide group position entry ∷ items) group
    top_is = sym (ap (λ test. cond test (max (top_of items group) position.0) (top_of items group)) (same_group_self group))

    newest_is : max (newest_of items group) position.0 ≡ newest_of (Decide group position entry ∷ items) group
    newest_is = sym (ap (λ test. cond test (max (newest_of items group) position.0) (newest_of items group)) (same_group_self group))

    prefix_is : climb (is_decided_with old group position.0) (max (newest_of items group) position.0 - prefix_of items group) (prefix_of items group) ≡ prefix_of (Decide group position entry ∷ items) group
    prefix_is =
        climb_same (is_decided_with old group position.0) (λ m. position.0 == m || is_some (decided_of items group m)) (λ m. ap (λ (s : Slot). position.0 == m || is_some s.decided) (holds.slots group m)) (max (newest_of items group) position.0 - prefix_of items group) (prefix_of items group)
        ∙ prefix_step items group position entry

decide_apart : (items : List JournalItem) (group : GroupId) (position : Position) (entry : Content) (other : GroupId) → marks_of (Decide group position entry ∷ items) other ≡ cond (same_group group other) (marks_of (Decide group position entry ∷ items) other) (marks_of items other)
decide_apart items group position entry other = go (same_group group other) refl
  where
    unmet : same_group group other ≡ false → (m : ℕ) → is_some (decided_of (Decide group position entry ∷ items) other m) ≡ is_some (decided_of items other m)
    unmet e m = ap (λ test. is_some (cond (test && position.0 == m) (first_of (decided_of items other m) entry) (decided_of items other m))) e

    go : (test : Bool) → same_group group other ≡ test → marks_of (Decide group position entry ∷ items) other ≡ cond test (marks_of (Decide group position entry ∷ items) other) (marks_of items other)
    go true e = refl
    go false e = λ i. record {
      top = cond (e i) (max (top_of items other) position.0) (top_of items other);
      newest = cond (e i) (max (newest_of items other) position.0) (newest_of items other);
      prefix = (climb_same (λ m. is_some (decided_of (Decide group position entry ∷ items) other m)) (λ m. is_some (decided_of items other m)) (unmet e) (newest_of (Decide group position entry ∷ items) other) 0
          ∙ ap (λ test. climb (λ m. is_some (decided_of items other m)) (cond test (max (newest_of items other) position.0) (newest_of items other)) 0) e) i;
    }

pub decide_holds : (old new : Groups) (items : List JournalItem) (group : GroupId) (position : Position) (entry : Content)
    → Puts old new group position.0 (decided_slot (slot_at old group position.0) entry) (decided_marks old group (marks_at old group) position.0) → Holds old items → Holds new (Decide group position entry ∷ items)
decide_holds old new items group position entry puts holds = record {
  slots = slots_step old new items (Decide group position entry) group position (λ slot. decided_slot slot entry) (decided_marks old group (marks_at old group) position.0) holds (decide_steps items group position entry) puts;
  marks = marks_step old new items (Decide group position entry) group position.0 (decided_slot (slot_at old group position.0) entry) (decided_marks old group (marks_at old group) position.0) holds
      (decide_apart items group position entry) puts (decide_marks_here old items group position entry holds);
}
