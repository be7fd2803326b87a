-- The decided prefix of a group as its history goes on.
use Rattle.std.proofs.Common.{◌≡◌, ℕ, zero, suc, ◌+◌, ◌<◌, ◌≤◌, max, Bool, true, false, cond, List, ◌∷◌, ◌++◌, Option, Some, None, inl, inr, refl, sym, ap, ◌∙◌, arith}
use Rattle.std.specs.Prelude.{is_some, slice_get}
use Rattle.std.proofs.lemmas.Bool.{cases_eq}
use Rattle.mega_base.specs.declared.names.GroupId.{GroupId}
use Rattle.mega_entry.specs.declared.content.Content.{Content}
use Rattle.mega_wal.specs.declared.item.JournalItem.{JournalItem}
use Rattle.mega_wal.specs.declared.item.JournalItem.TheVariants.{Start, Promise, Accept, Decide, Grant, Lapse, Starts}
use Rattle.mega_base.proofs.Climbs.{climb_up}
use Rattle.mega_base.specs.Climbing.{climb}
use Rattle.mega_wal.specs.History.{decided_of, first_of, is_place, newest_of, prefix_of}
use Rattle.mega_wal.specs.Same.{same_group}
use Rattle.mega_replica.specs.Stored.{entries_from, log_in, then_more}

-- ---- climbing

climb_more : (test more : ℕ → Bool) → ((n : ℕ) → test n ≡ true → more n ≡ true) → (steps further from : ℕ) → steps ≤ further → climb test steps from ≤ climb more further from
climb_more test more wider zero further from le = climb_up more further from
climb_more test more wider (suc steps) zero from le = absurd (omega (arith, le))
climb_more test more wider (suc steps) (suc further) from le =
    by (test (suc from)) refl (climb_up more (suc further) from) (climb_more test more wider steps further (suc from) (omega (arith, le)))
  where
    by : (here : Bool) → test (suc from) ≡ here → from ≤ climb more (suc further) from → climb test steps (suc from) ≤ climb more further (suc from) → cond here (climb test steps (suc from)) from ≤ climb more (suc further) from
    by true is low high =
        let goes : climb more (suc further) from ≡ climb more further (suc from) = ap (λ (b : Bool). cond b (climb more further (suc from)) from) (wider (suc from) is) in
        omega (arith, high, goes)
    by false is low high = low

-- ---- one item more

stays : (decided : Option Content) (here : Bool) (found entry : Content) → decided ≡ Some found → cond here (first_of decided entry) decided ≡ Some found
stays None here found entry is = absurd cc
stays (Some decided) true found entry is = is
stays (Some decided) false found entry is = is

-- what is decided stays
decided_more : (item : JournalItem) (items : List JournalItem) (group : GroupId) (n : ℕ) (entry : Content) → decided_of items group n ≡ Some entry → decided_of (item ∷ items) group n ≡ Some entry
decided_more Start items group n entry is = is
decided_more (Promise other position ballot) items group n entry is = is
decided_more (Accept other position ballot accepted) items group n entry is = is
decided_more (Decide other position decided) items group n entry is = stays (decided_of items group n) (is_place other position group n) entry decided is
decided_more (Grant node epoch) items group n entry is = is
decided_more (Lapse node epoch) items group n entry is = is
decided_more (Starts starts) items group n entry is = is

newest_more : (item : JournalItem) (items : List JournalItem) (group : GroupId) → newest_of items group ≤ newest_of (item ∷ items) group
newest_more Start items group = omega arith
newest_more (Promise other position ballot) items group = omega arith
newest_more (Accept other position ballot accepted) items group = omega arith
newest_more (Decide other position decided) items group = by (same_group other group)
  where
    by : (test : Bool) → newest_of items group ≤ cond test (max (newest_of items group) position.0) (newest_of items group)
    by true = omega arith
    by false = omega arith
newest_more (Grant node epoch) items group = omega arith
newest_more (Lapse node epoch) items group = omega arith
newest_more (Starts starts) items group = omega arith

some_is : (found : Option Content) → is_some found ≡ true → (entry : Content) × (found ≡ Some entry)
some_is None is = absurd cc
some_is (Some entry) is = (entry, refl)

prefix_more : (item : JournalItem) (items : List JournalItem) (group : GroupId) → prefix_of items group ≤ prefix_of (item ∷ items) group
prefix_more item items group =
    climb_more (λ n. is_some (decided_of items group n)) (λ n. is_some (decided_of (item ∷ items) group n))
    (λ n is. let found = some_is (decided_of items group n) is in ap is_some (decided_more item items group n found.0 found.1))
    (newest_of items group) (newest_of (item ∷ items) group) 0 (newest_more item items group)

-- the same entries, and maybe more
begins : (decided later : ℕ → Option Content) → ((n : ℕ) (entry : Content) → decided n ≡ Some entry → later n ≡ Some entry) → (most further n : ℕ) → most ≤ further
    → (more : List Content) × (entries_from later further n ≡ entries_from decided most n ++ more)
begins decided later stay zero further n le = (entries_from later further n, refl)
begins decided later stay (suc most) zero n le = absurd (omega (arith, le))
begins decided later stay (suc most) (suc further) n le = by (decided n) refl (begins decided later stay most further (n + 1) (omega (arith, le)))
  where
    by : (found : Option Content) → decided n ≡ found → (more : List Content) × (entries_from later further (n + 1) ≡ entries_from decided most (n + 1) ++ more)
        → (more : List Content) × (entries_from later (suc further) n ≡ then_more found (entries_from decided most (n + 1)) ++ more)
    by None is rest = (entries_from later (suc further) n, refl)
    by (Some entry) is rest =
        (rest.0, ap (λ (found : Option Content). then_more found (entries_from later further (n + 1))) (stay n entry is) ∙ ap (λ (entries : List Content). entry ∷ entries) rest.1)

-- a log only grows
pub log_grows : (item : JournalItem) (items : List JournalItem) (group : GroupId) → (more : List Content) × (log_in (item ∷ items) group ≡ log_in items group ++ more)
log_grows item items group =
    begins (decided_of items group) (decided_of (item ∷ items) group) (decided_more item items group) (prefix_of items group) (prefix_of (item ∷ items) group) 1 (prefix_more item items group)

-- ---- what a log shows

climbed : (test : ℕ → Bool) (steps from n : ℕ) → from < n → n ≤ climb test steps from → test n ≡ true
climbed test zero from n lt le = absurd (let top : n ≤ from = le in omega (arith, lt, top))
climbed test (suc steps) from n lt le = by (test (suc from)) refl (climbed test steps (suc from) n) le
  where
    by : (here : Bool) → test (suc from) ≡ here → (suc from < n → n ≤ climb test steps (suc from) → test n ≡ true) → n ≤ cond here (climb test steps (suc from)) from → test n ≡ true
    by true is later top = elim (cases_eq n (suc from)) [ inl same ↦ ap test same ∙ is | inr apart ↦ later (omega (arith, lt, apart)) top ]
    by false is later top = absurd (omega (arith, lt, top))

shown : (decided : ℕ → Option Content) (most n i : ℕ) → ((m : ℕ) → n ≤ m → m < n + most → is_some (decided m) ≡ true) → i < most → slice_get (entries_from decided most n) i ≡ decided (n + i)
shown decided zero n i each lt = absurd (omega (arith, lt))
shown decided (suc most) n i each lt = by (decided n) refl i (λ j below. shown decided most (n + 1) j (λ m le less. each m (omega (arith, le)) (omega (arith, less))) below) lt
  where
    by : (found : Option Content) → decided n ≡ found → (i : ℕ) → ((j : ℕ) → j < most → slice_get (entries_from decided most (n + 1)) j ≡ decided (n + 1 + j)) → i < suc most
        → slice_get (then_more found (entries_from decided most (n + 1))) i ≡ decided (n + i)
    by None is i later below = absurd (none_some (sym (ap is_some is) ∙ each n (omega arith) (omega arith)))
      where
        none_some : false ≡ true → ⊥
        none_some h = cc
    by (Some entry) is zero later below = sym is ∙ ap decided (let same : n ≡ n + 0 = omega arith in same)
    by (Some entry) is (suc i) later below = later i (omega (arith, below)) ∙ ap decided (let same : n + 1 + i ≡ n + suc i = omega arith in same)

-- the entries of the prefix, in order
pub log_shows : (items : List JournalItem) (group : GroupId) (i : ℕ) → i < prefix_of items group → slice_get (log_in items group) i ≡ decided_of items group (i + 1)
log_shows items group i lt =
    shown (decided_of items group) (prefix_of items group) 1 i
    (λ m low high. climbed (λ n. is_some (decided_of items group n)) (newest_of items group) 0 m (omega (arith, low)) (omega (arith, high))) lt
    ∙ ap (decided_of items group) (let same : 1 + i ≡ i + 1 = omega arith in same)
