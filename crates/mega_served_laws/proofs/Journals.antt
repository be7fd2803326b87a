-- Journals that say the same tell the same, also with the same items behind them, and so does a journal that was compacted.
use Rattle.std.proofs.Common.{◌≡◌, ℕ, ◌+◌, ◌==◌, ◌&&◌, ◌||◌, max, Bool, true, false, cond, List, [], ◌∷◌, ◌++◌, Option, Some, None, refl, sym, ap, ◌∙◌, arith}
use Rattle.std.specs.Prelude.{is_some}
use Rattle.std.specs.List.{cons_option}
use Rattle.std.proofs.lemmas.Bool.Decides.{nat_tests}
use Rattle.mega_base.specs.declared.names.GroupId.{GroupId}
use Rattle.mega_ballot.specs.declared.ballot.Ballot.{Ballot}
use Rattle.mega_entry.specs.declared.content.Content.{Content}
use Rattle.mega_wal.specs.Acceptor.{Act, Promised, Vote, Voted, best, greater_ballot, greater_vote, shown}
use Rattle.mega_wal.specs.History.{acts_of, after_grant, after_lapse, decided_of, first_of as first_in, granted_of, is_place, newest_of as newest_in, starts_at_most, top_of as top_in}
use Rattle.mega_wal.specs.Kept.{Represents, marks_of, slot_of}
use Rattle.mega_wal.specs.Same.{same_group}
use Rattle.mega_wal.specs.declared.kept.Kept.{Kept}
use Rattle.mega_wal.specs.of_acceptor.declared.slot.Slot.{Slot}
use Rattle.mega_wal.specs.declared.groups.Marks.{Marks}
use Rattle.mega_wal.specs.declared.item.JournalItem.{JournalItem}
use Rattle.mega_wal.specs.declared.item.JournalItem.TheVariants.{Start as Started, Promise as Promises, Accept as Accepts, Decide as Decided, Grant as Granted, Lapse as Lapsed, Starts as Starting}
use Rattle.mega_rules.specs.Met.{Met, Decides}
use Rattle.mega_rules.specs.Locks.{last_grant}
use Rattle.mega_rules.specs.Logs.{decided, first_of, groups_of, newest_of, top_of}
use Rattle.mega_rules.specs.Voting.{act_if, acts}
use Rattle.mega_rules.proofs.Groups.{has, has_with}
use Rattle.mega_promises.specs.NodeRuns.{met_of}
use Rattle.mega_voter.proofs.Grouped.{groups_sorted, sorted_same}
use Rattle.mega_served_laws.specs.Alike.{KeptAlike, SaySame}

-- ---- what a journal's history tells is what the journal says

first_same : (o : Option Content) (entry : Content) → first_of o entry ≡ first_in o entry
first_same None entry = refl
first_same (Some found) entry = refl

pub decided_told : (me : ℕ) (js : List JournalItem) (group : GroupId) (n : ℕ) → decided (met_of me js) group n ≡ decided_of js group n
decided_told me [] group n = refl
decided_told me (Decided g p entry ∷ js) group n =
    ap (λ d. cond (is_place g p group n) (first_of d entry) d) (decided_told me js group n)
    ∙ ap (λ d. cond (is_place g p group n) d (decided_of js group n)) (first_same (decided_of js group n) entry)
decided_told me (Started ∷ js) group n = decided_told me js group n
decided_told me (Starting number ∷ js) group n = decided_told me js group n
decided_told me (Promises g p ballot ∷ js) group n = decided_told me js group n
decided_told me (Accepts g p ballot entry ∷ js) group n = decided_told me js group n
decided_told me (Granted node epoch ∷ js) group n = decided_told me js group n
decided_told me (Lapsed node epoch ∷ js) group n = decided_told me js group n

max_turned : (a b : ℕ) → max a b ≡ max b a
max_turned a b = omega arith

pub newest_told : (me : ℕ) (js : List JournalItem) (group : GroupId) → newest_of (met_of me js) group ≡ newest_in js group
newest_told me [] group = refl
newest_told me (Decided g p entry ∷ js) group =
    ap (λ n. cond (same_group g group) (max p.0 n) n) (newest_told me js group)
    ∙ ap (λ n. cond (same_group g group) n (newest_in js group)) (max_turned p.0 (newest_in js group))
newest_told me (Started ∷ js) group = newest_told me js group
newest_told me (Starting number ∷ js) group = newest_told me js group
newest_told me (Promises g p ballot ∷ js) group = newest_told me js group
newest_told me (Accepts g p ballot entry ∷ js) group = newest_told me js group
newest_told me (Granted node epoch ∷ js) group = newest_told me js group
newest_told me (Lapsed node epoch ∷ js) group = newest_told me js group

max_zero : (n : ℕ) → max 0 n ≡ n
max_zero n = omega arith

accepted_top : (t : Bool) (p n : ℕ) → max (cond t p 0) n ≡ cond t (max n p) n
accepted_top true p n = max_turned p n
accepted_top false p n = max_zero n

pub top_told : (me : ℕ) (js : List JournalItem) (group : GroupId) → top_of (met_of me js) group ≡ top_in js group
top_told me [] group = refl
top_told me (Decided g p entry ∷ js) group =
    ap (λ n. cond (same_group g group) (max p.0 n) n) (top_told me js group)
    ∙ ap (λ n. cond (same_group g group) n (top_in js group)) (max_turned p.0 (top_in js group))
top_told me (Accepts g p ballot entry ∷ js) group = ap (max (cond (same_group g group) p.0 0)) (top_told me js group) ∙ accepted_top (same_group g group) p.0 (top_in js group)
top_told me (Promises g p ballot ∷ js) group = max_zero (top_of (met_of me js) group) ∙ top_told me js group
top_told me (Started ∷ js) group = top_told me js group
top_told me (Starting number ∷ js) group = top_told me js group
top_told me (Granted node epoch ∷ js) group = top_told me js group
top_told me (Lapsed node epoch ∷ js) group = top_told me js group

act_shown : (t : Bool) (act : Act) (xs ys : List Act) → shown xs ≡ shown ys → (shown (act ∷ xs) ≡ shown (act ∷ ys)) → shown (cons_option (act_if t act) xs) ≡ shown (cond t (act ∷ ys) ys)
act_shown true act xs ys h k = k
act_shown false act xs ys h k = h

act_best : (t : Bool) (act : Act) (xs ys : List Act) → best xs ≡ best ys → (best (act ∷ xs) ≡ best (act ∷ ys)) → best (cons_option (act_if t act) xs) ≡ best (cond t (act ∷ ys) ys)
act_best true act xs ys h k = k
act_best false act xs ys h k = h

-- where it reports otherwise
promise_shown : (t : Bool) (ballot : Ballot) (one other : Option Vote) (xs ys : List Act) → shown xs ≡ shown ys → shown (cons_option (act_if t (Promised ballot one)) xs) ≡ shown (cond t (Promised ballot other ∷ ys) ys)
promise_shown true ballot one other xs ys h = ap (λ s. greater_ballot s ballot) h
promise_shown false ballot one other xs ys h = h

promise_best : (t : Bool) (ballot : Ballot) (one other : Option Vote) (xs ys : List Act) → best xs ≡ best ys → best (cons_option (act_if t (Promised ballot one)) xs) ≡ best (cond t (Promised ballot other ∷ ys) ys)
promise_best true ballot one other xs ys h = h
promise_best false ballot one other xs ys h = h

pub shown_told : (me : ℕ) (js : List JournalItem) (group : GroupId) (n : ℕ) → shown (acts (met_of me js) group n) ≡ shown (acts_of js group n)
shown_told me [] group n = refl
shown_told me (Promises g p ballot ∷ js) group n =
    promise_shown (is_place g p group n) ballot (best (acts_of js g p.0)) (best (acts_of js group n)) (acts (met_of me js) group n) (acts_of js group n) (shown_told me js group n)
shown_told me (Accepts g p ballot entry ∷ js) group n =
    act_shown (is_place g p group n) (Voted ballot entry) (acts (met_of me js) group n) (acts_of js group n) (shown_told me js group n) (ap (λ s. greater_ballot s ballot) (shown_told me js group n))
shown_told me (Decided g p entry ∷ js) group n = shown_told me js group n
shown_told me (Started ∷ js) group n = shown_told me js group n
shown_told me (Starting number ∷ js) group n = shown_told me js group n
shown_told me (Granted node epoch ∷ js) group n = shown_told me js group n
shown_told me (Lapsed node epoch ∷ js) group n = shown_told me js group n

pub best_told : (me : ℕ) (js : List JournalItem) (group : GroupId) (n : ℕ) → best (acts (met_of me js) group n) ≡ best (acts_of js group n)
best_told me [] group n = refl
best_told me (Promises g p ballot ∷ js) group n =
    promise_best (is_place g p group n) ballot (best (acts_of js g p.0)) (best (acts_of js group n)) (acts (met_of me js) group n) (acts_of js group n) (best_told me js group n)
best_told me (Accepts g p ballot entry ∷ js) group n =
    act_best (is_place g p group n) (Voted ballot entry) (acts (met_of me js) group n) (acts_of js group n) (best_told me js group n) (ap (λ v. greater_vote v ballot entry) (best_told me js group n))
best_told me (Decided g p entry ∷ js) group n = best_told me js group n
best_told me (Started ∷ js) group n = best_told me js group n
best_told me (Starting number ∷ js) group n = best_told me js group n
best_told me (Granted node epoch ∷ js) group n = best_told me js group n
best_told me (Lapsed node epoch ∷ js) group n = best_told me js group n

pub granted_told : (me : ℕ) (js : List JournalItem) (node : ℕ) → last_grant (met_of me js) node ≡ granted_of js node
granted_told me [] node = refl
granted_told me (Granted other epoch ∷ js) node = ap (λ g. cond (other.0 == node) (after_grant g epoch) g) (granted_told me js node)
granted_told me (Lapsed other epoch ∷ js) node = ap (λ g. cond (other.0 == node) (after_lapse g epoch) g) (granted_told me js node)
granted_told me (Promises g p ballot ∷ js) node = granted_told me js node
granted_told me (Accepts g p ballot entry ∷ js) node = granted_told me js node
granted_told me (Decided g p entry ∷ js) node = granted_told me js node
granted_told me (Started ∷ js) node = granted_told me js node
granted_told me (Starting number ∷ js) node = granted_told me js node

-- ---- the groups are those in which something is decided

-- a group of the list has a decided position, and one with a decided position is in it
some_first : (o : Option Content) (entry : Content) → is_some (first_of o entry) ≡ true
some_first None entry = refl
some_first (Some found) entry = refl

decides_here : (a b : List Met) (g : GroupId) (p : ℕ) (entry : Content) (group : GroupId) → same_group g group ≡ true → is_some (decided (Decides g p entry ∷ a) group p) ≡ true
decides_here a b g p entry group is =
    ap (λ t. is_some (cond (t && p == p) (first_of (decided a group p) entry) (decided a group p))) is
    ∙ ap (λ t. is_some (cond t (first_of (decided a group p) entry) (decided a group p))) (self p)
    ∙ some_first (decided a group p) entry
  where
    self : (p : ℕ) → (p == p) ≡ true
    self p = grind (arith, nat_tests)

still : (a : List Met) (g : GroupId) (p : ℕ) (entry : Content) (group : GroupId) (n : ℕ) → is_some (decided a group n) ≡ true → is_some (decided (Decides g p entry ∷ a) group n) ≡ true
still a g p entry group n h = go (same_group g group && p == n)
  where
    go : (t : Bool) → is_some (cond t (first_of (decided a group n) entry) (decided a group n)) ≡ true
    go true = some_first (decided a group n) entry
    go false = h

has_decided : (a : List Met) (group : GroupId) → has group (groups_of a) ≡ true → (n : ℕ) × (is_some (decided a group n) ≡ true)
has_decided [] group h = absurd (cc)
has_decided (Decides g p entry ∷ a) group h = go (same_group g group) refl (sym (has_with g (groups_of a) group) ∙ h) (has_decided a group)
  where
    go : (t : Bool) → same_group g group ≡ t → (t || has group (groups_of a)) ≡ true → (has group (groups_of a) ≡ true → (n : ℕ) × (is_some (decided a group n) ≡ true))
        → (n : ℕ) × (is_some (decided (Decides g p entry ∷ a) group n) ≡ true)
    go true e h rest = (p, decides_here a a g p entry group e)
    go false e h rest = let found = rest h in (found.0, still a g p entry group found.0 found.1)
has_decided (_ ∷ a) group h = has_decided a group h

decided_has : (a : List Met) (group : GroupId) (n : ℕ) → is_some (decided a group n) ≡ true → has group (groups_of a) ≡ true
decided_has [] group n h = absurd (cc)
decided_has (Decides g p entry ∷ a) group n h = has_with g (groups_of a) group ∙ go (same_group g group) refl h (decided_has a group n)
  where
    go : (t : Bool) → same_group g group ≡ t → is_some (cond (t && p == n) (first_of (decided a group n) entry) (decided a group n)) ≡ true
        → (is_some (decided a group n) ≡ true → has group (groups_of a) ≡ true) → (t || has group (groups_of a)) ≡ true
    go true e h rest = refl
    go false e h rest = rest h
decided_has (_ ∷ a) group n h = decided_has a group n h

same_has : (a b : List Met) → ((group : GroupId) (n : ℕ) → decided a group n ≡ decided b group n) → (group : GroupId) → has group (groups_of a) ≡ true → has group (groups_of b) ≡ true
same_has a b same group h = let found = has_decided a group h in decided_has b group found.0 (ap is_some (sym (same group found.0)) ∙ found.1)

pub groups_alike : (a b : List Met) → ((group : GroupId) (n : ℕ) → decided a group n ≡ decided b group n) → groups_of a ≡ groups_of b
groups_alike a b same = sorted_same (groups_of a) (groups_of b) (groups_sorted a) (groups_sorted b) (λ group. both (has group (groups_of a)) (has group (groups_of b)) (same_has a b same group) (same_has b a (λ g n. sym (same g n)) group))
  where
    both : (x y : Bool) → (x ≡ true → y ≡ true) → (y ≡ true → x ≡ true) → x ≡ y
    both true true h k = refl
    both false false h k = refl
    both true false h k = sym (h refl)
    both false true h k = k refl

-- ---- journals that say the same

pub say_kept : (me : ℕ) (a b : List JournalItem) → SaySame a b → KeptAlike (met_of me a) (met_of me b)
say_kept me a b h = record {
  decides = decides;
  groups = groups_alike (met_of me a) (met_of me b) decides;
  newest = λ group. newest_told me a group ∙ h.newest group ∙ sym (newest_told me b group);
  tops = λ group. top_told me a group ∙ h.tops group ∙ sym (top_told me b group);
  shows = λ group n. shown_told me a group n ∙ h.shows group n ∙ sym (shown_told me b group n);
  bests = λ group n. best_told me a group n ∙ h.bests group n ∙ sym (best_told me b group n);
  grants = λ node. granted_told me a node ∙ h.grants node ∙ sym (granted_told me b node);
}
  where
    decides : (group : GroupId) (n : ℕ) → decided (met_of me a) group n ≡ decided (met_of me b) group n
    decides group n = decided_told me a group n ∙ h.decides group n ∙ sym (decided_told me b group n)

pub say_self : (a : List JournalItem) → SaySame a a
say_self a = record { decides = λ group n. refl; newest = λ group. refl; tops = λ group. refl; shows = λ group n. refl; bests = λ group n. refl; grants = λ node. refl; starts = refl }

pub say_then : (a b d : List JournalItem) → SaySame a b → SaySame b d → SaySame a d
say_then a b d x y = record {
  decides = λ group n. x.decides group n ∙ y.decides group n;
  newest = λ group. x.newest group ∙ y.newest group;
  tops = λ group. x.tops group ∙ y.tops group;
  shows = λ group n. x.shows group n ∙ y.shows group n;
  bests = λ group n. x.bests group n ∙ y.bests group n;
  grants = λ node. x.grants node ∙ y.grants node;
  starts = x.starts ∙ y.starts;
}

if_shown : (t : Bool) (one other : Act) (xs ys : List Act) → shown xs ≡ shown ys → shown (one ∷ xs) ≡ shown (other ∷ ys) → shown (cond t (one ∷ xs) xs) ≡ shown (cond t (other ∷ ys) ys)
if_shown true one other xs ys h k = k
if_shown false one other xs ys h k = h

if_best : (t : Bool) (one other : Act) (xs ys : List Act) → best xs ≡ best ys → best (one ∷ xs) ≡ best (other ∷ ys) → best (cond t (one ∷ xs) xs) ≡ best (cond t (other ∷ ys) ys)
if_best true one other xs ys h k = k
if_best false one other xs ys h k = h

pub say_more : (item : JournalItem) (a b : List JournalItem) → SaySame a b → SaySame (item ∷ a) (item ∷ b)
say_more Started a b h = record {
  decides = h.decides;
  newest = h.newest;
  tops = h.tops;
  shows = h.shows;
  bests = h.bests;
  grants = h.grants;
  starts = ap (λ n. starts_at_most (n + 1)) h.starts;
}
say_more (Starting number) a b h = record {
  decides = h.decides;
  newest = h.newest;
  tops = h.tops;
  shows = h.shows;
  bests = h.bests;
  grants = h.grants;
  starts = ap (λ n. starts_at_most (n + number)) h.starts;
}
say_more (Promises g p ballot) a b h = record {
  decides = h.decides;
  newest = h.newest;
  tops = h.tops;
  shows = λ group n. if_shown (is_place g p group n) (Promised ballot (best (acts_of a group n))) (Promised ballot (best (acts_of b group n))) (acts_of a group n) (acts_of b group n) (h.shows group n) (ap (λ s. greater_ballot s ballot) (h.shows group n));
  bests = λ group n. if_best (is_place g p group n) (Promised ballot (best (acts_of a group n))) (Promised ballot (best (acts_of b group n))) (acts_of a group n) (acts_of b group n) (h.bests group n) (h.bests group n);
  grants = h.grants;
  starts = h.starts;
}
say_more (Accepts g p ballot entry) a b h = record {
  decides = h.decides;
  newest = h.newest;
  tops = λ group. ap (λ n. cond (same_group g group) (max n p.0) n) (h.tops group);
  shows = λ group n. if_shown (is_place g p group n) (Voted ballot entry) (Voted ballot entry) (acts_of a group n) (acts_of b group n) (h.shows group n) (ap (λ s. greater_ballot s ballot) (h.shows group n));
  bests = λ group n. if_best (is_place g p group n) (Voted ballot entry) (Voted ballot entry) (acts_of a group n) (acts_of b group n) (h.bests group n) (ap (λ v. greater_vote v ballot entry) (h.bests group n));
  grants = h.grants;
  starts = h.starts;
}
say_more (Decided g p entry) a b h = record {
  decides = λ group n. ap (λ d. cond (is_place g p group n) (first_in d entry) d) (h.decides group n);
  newest = λ group. ap (λ n. cond (same_group g group) (max n p.0) n) (h.newest group);
  tops = λ group. ap (λ n. cond (same_group g group) (max n p.0) n) (h.tops group);
  shows = h.shows;
  bests = h.bests;
  grants = h.grants;
  starts = h.starts;
}
say_more (Granted other epoch) a b h = record {
  decides = h.decides;
  newest = h.newest;
  tops = h.tops;
  shows = h.shows;
  bests = h.bests;
  grants = λ node. ap (λ g. cond (other.0 == node) (after_grant g epoch) g) (h.grants node);
  starts = h.starts;
}
say_more (Lapsed other epoch) a b h = record {
  decides = h.decides;
  newest = h.newest;
  tops = h.tops;
  shows = h.shows;
  bests = h.bests;
  grants = λ node. ap (λ g. cond (other.0 == node) (after_lapse g epoch) g) (h.grants node);
  starts = h.starts;
}

pub say_append : (items a b : List JournalItem) → SaySame a b → SaySame (items ++ a) (items ++ b)
say_append [] a b h = h
say_append (item ∷ items) a b h = say_more item (items ++ a) (items ++ b) (say_append items a b h)

-- what logs keep is what both say
pub say_kept_same : (kept : Kept) (a b : List JournalItem) → Represents kept a → Represents kept b → SaySame a b
say_kept_same kept a b x y = record {
  decides = λ group n. ap (λ (slot : Slot). slot.decided) (slots group n);
  newest = λ group. ap (λ (marks : Marks). marks.newest) (marks group);
  tops = λ group. ap (λ (marks : Marks). marks.top) (marks group);
  shows = λ group n. ap (λ (slot : Slot). slot.promised) (slots group n);
  bests = λ group n. ap (λ (slot : Slot). slot.accepted) (slots group n);
  grants = λ node. sym (x.granted node) ∙ y.granted node;
  starts = sym x.starts ∙ y.starts;
}
  where
    slots : (group : GroupId) (n : ℕ) → slot_of a group n ≡ slot_of b group n
    slots group n = sym ((x.groups).slots group n) ∙ (y.groups).slots group n

    marks : (group : GroupId) → marks_of a group ≡ marks_of b group
    marks group = sym ((x.groups).marks group) ∙ (y.groups).marks group
