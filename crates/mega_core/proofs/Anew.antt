-- A node at any start: what it met then, how far it has applied, and that it is the node of the rules.
use Rattle.std.proofs.Common.{◌≡◌, ℕ, ◌+◌, ◌==◌, ◌<◌, ◌≤◌, ◌&&◌, ◌||◌, max, min, nat_lt, Bool, true, false, cond, List, [], ◌∷◌, ◌++◌, flat_map, length, refl, sym, ap, subst, ◌∙◌, arith}
use Rattle.std.specs.List.{All, list_all}
use Rattle.std.specs.Prelude.{sum_by}
use Rattle.std.proofs.lemmas.List.{append_assoc, length-append, take_all}
use Rattle.std.proofs.lemmas.List.Sums.{sum_by-cons}
use Rattle.std.proofs.lemmas.List.Elements.{All-append, All-cons, All-head, All-nil, All-tail, All-weaker}
use Rattle.mega_base.specs.declared.names.GroupId.{GroupId}
use Rattle.mega_cluster.specs.declared.cluster.Cluster.{Cluster}
use Rattle.mega_disk.specs.VersionMaps.{Versions}
use Rattle.mega_entry.specs.declared.content.Content.{Content}
use Rattle.mega_handler.specs.Named.{Meanings}
use Rattle.mega_wal.specs.declared.item.JournalItem.{JournalItem}
use Rattle.mega_wal.specs.declared.item.JournalItem.TheVariants.{Start as StartItem}
use Rattle.mega_wal.specs.declared.kept.Kept.{Kept}
use Rattle.mega_wal.specs.History.{after_grant, after_lapse, granted_of}
use Rattle.mega_wal.specs.Kept.{slot_of}
use Rattle.mega_wal.specs.Same.{same_group}
use Rattle.mega_wal.proofs.Greatest.{marks_same}
use Rattle.mega_wal.proofs.Sames.{same_group_equal}
use Rattle.mega_step_parts.specs.of_leases.declared.leases.Leases.{Leases}
use Rattle.mega_step_parts.specs.of_leases.Opening.{AreOwed, is_owed}
use Rattle.mega_step_parts.specs.of_leases.Tells.{Tells as TellsLeases}
use Rattle.mega_replica.specs.declared.progress.Progress.{Progress}
use Rattle.mega_replica.specs.Applying.{after_read, writes_of}
use Rattle.mega_replica.specs.Following.{Follows}
use Rattle.mega_replica.specs.Stored.{entries_from, log_in, stored_with}
use Rattle.mega_replica.proofs.Places.{place_total}
use Rattle.mega_rules.specs.Clock.{begun_of, last_number}
use Rattle.mega_rules.specs.Locks.{last_grant}
use Rattle.mega_rules.specs.Logs.{groups_of, log_of, prefix_of}
use Rattle.mega_rules.specs.Members.{has_rows, is_node}
use Rattle.mega_rules.specs.Met.{Met, Applies, Begins, Grants, Lapses, Starts}
use Rattle.mega_rules.specs.Operations.{Setting}
use Rattle.mega_rules.specs.Steps.{apply_all, onto, start, start_items, start_note, start_notes}
use Rattle.mega_step_parts.specs.of_voter.Holding.{Agrees, GoesOn, Recalls, is_no_start}
use Rattle.mega_step_parts.specs.of_voter.Journal.{journal_of, without_starts}
use Rattle.mega_step_parts.specs.of_voter.Telling.{Tells}
use Rattle.mega_step_parts.proofs.of_voter.Begun.{start_goes_on}
use Rattle.mega_step_parts.proofs.of_voter.Opened.{granted_without, slots_without}
use Rattle.mega_actions.specs.of_node_laws.About.{IsAbout}
use Rattle.mega_actions.proofs.of_node_laws.Ending.{onto_append}
use Rattle.mega_actions.proofs.of_node_laws.Logs.{log_after, log_is}
use Rattle.mega_actions.specs.of_marks.declared.indexed.Indexed.{Indexed}
use Rattle.mega_actions.specs.of_pumps.declared.digest.Digest.{Digest}
use Rattle.mega_actions.specs.of_pumps.Notes.{HasNoted}
use Rattle.mega_actions.specs.of_marks.AreMarked.{IsIndexed}
use Rattle.mega_actions.specs.of_step_work.Settings.{setting}
use Rattle.mega_actions.specs.Turns.{IsServable}
use Rattle.mega_node_events.specs.Represents.{Represents}
use Rattle.mega_actions.specs.of_view.Small.{IsSmall}
use Rattle.mega_core.specs.Restarting.{HaveFollowed, applied_at_start}
use Rattle.mega_core.proofs.Alike.{IsApart, all_apart_alike, alike_tells}
use Rattle.mega_rules.proofs.Groups.{has, no_log}
use Rattle.mega_core.proofs.Silent.{IsMute, IsQuiet, mute_begun, mute_told, mute_undecided}

-- ---- what is owed

both : (a b : Bool) → a ≡ true → b ≡ true → (a && b) ≡ true
both true b is more = more
both false b is more = absurd (cc)

owed_plain : (item : Met) → is_owed item ≡ true → (is_no_start item ≡ true) × ((met : List Met) → begun_of (item ∷ met) ≡ begun_of met)
owed_plain (Starts start) is = absurd (cc)
owed_plain (Begins op text) is = absurd (cc)
owed_plain _ is = (refl, λ met. refl)

record IsPlain (item : Met) : Type 0 where
  no_start : is_no_start item ≡ true
  unbegun : (met : List Met) → begun_of (item ∷ met) ≡ begun_of met

plain_owed : (item : Met) → is_owed item ≡ true → IsPlain item
plain_owed item is = let parts = owed_plain item is in record { no_start = parts.0; unbegun = parts.1 }

all_plain : (owed met : List Met) → AreOwed owed met → All IsPlain owed
all_plain [] met are = All-nil IsPlain
all_plain (Lapses node epoch ∷ owed) met are = All-cons IsPlain (Lapses node epoch) owed (record { no_start = refl; unbegun = λ met. refl }) (all_plain owed (Lapses node epoch ∷ met) are.1)
all_plain (item ∷ owed) met are = All-cons IsPlain item owed (plain_owed item are.0) (all_plain owed (item ∷ met) are.1)

plain_no_start : (owed : List Met) → All IsPlain owed → list_all is_no_start owed ≡ true
plain_no_start [] plain = refl
plain_no_start (item ∷ owed) plain = both (is_no_start item) (list_all is_no_start owed) (All-head IsPlain item owed plain).no_start (plain_no_start owed (All-tail IsPlain item owed plain))

pub owed_no_start : (owed met : List Met) → AreOwed owed met → list_all is_no_start owed ≡ true
owed_no_start owed met are = plain_no_start owed (all_plain owed met are)

plain_begun : (owed met : List Met) → All IsPlain owed → begun_of (onto owed met) ≡ begun_of met
plain_begun [] met plain = refl
plain_begun (item ∷ owed) met plain = plain_begun owed (item ∷ met) (All-tail IsPlain item owed plain) ∙ (All-head IsPlain item owed plain).unbegun met

-- ---- what was granted is told beside the start

grant_more : (item : Met) (one two : List Met) (node : ℕ) → last_grant one node ≡ last_grant two node → last_grant (item ∷ one) node ≡ last_grant (item ∷ two) node
grant_more (Grants other epoch) one two node same = ap (λ o. cond (other == node) (after_grant o epoch) o) same
grant_more (Lapses other epoch) one two node same = ap (λ o. cond (other == node) (after_lapse o epoch) o) same
grant_more _ one two node same = same

pub grant_on : (owed one two : List Met) (node : ℕ) → last_grant one node ≡ last_grant two node → last_grant (onto owed one) node ≡ last_grant (onto owed two) node
grant_on [] one two node same = same
grant_on (item ∷ owed) one two node same = grant_on owed (item ∷ one) (item ∷ two) node (grant_more item one two node same)

-- ---- all that is decided is applied

all_written : (log : List Content) → sum_by (λ (entry : Content). length entry.writes) log ≡ length (writes_of log)
all_written [] = refl
all_written (entry ∷ log) =
    sum_by-cons (λ (entry : Content). length entry.writes) entry log ∙ (ap (λ n. length entry.writes + n) (all_written log) ∙ sym (length-append entry.writes (writes_of log)))

pub read_all : (met : List Met) (group : GroupId) (count : ℕ) → after_read (prefix_of met group) (log_of met group) count ≡ max count (apply_all met group)
read_all met group count =
    ap (max count) (ap (sum_by (λ (entry : Content). length entry.writes)) (take_all (prefix_of met group) (log_of met group) (omega arith)) ∙ all_written (log_of met group))

-- the groups that are left may be applied in part, and all others are applied
pub record AppliedSo (version : Versions) (progress : GroupId → Progress) (met : List Met) (left : List GroupId) : Type 0 where
  pub now : GroupId → ℕ
  pub follows : Follows version progress (log_of met) now
  pub few : (group : GroupId) → now group ≤ apply_all met group
  pub rest : (group : GroupId) → has group left ≡ false → now group ≡ apply_all met group

-- no more is stored than is decided
pub few_stored : (version : Versions) (progress : GroupId → Progress) (met : List Met) (stored : GroupId → ℕ) → Follows version progress (log_of met) stored → (group : GroupId) → stored group ≤ apply_all met group
few_stored version progress met stored follows group = subst (λ n. n ≤ apply_all met group) (sym (follows.counts group)) (place_total (progress group) (log_of met group) (follows.places group))

pub applied_first : (version : Versions) (progress : GroupId → Progress) (met : List Met) (stored : GroupId → ℕ) → Follows version progress (log_of met) stored → AppliedSo version progress met (groups_of met)
applied_first version progress met stored follows = record {
  now = stored;
  follows = follows;
  few = few_stored version progress met stored follows;
  rest = λ group none. all_of group (ap (λ (log : List Content). length (writes_of log)) (no_log met group none)) (few_stored version progress met stored follows group);
}
  where
    all_of : (group : GroupId) → apply_all met group ≡ 0 → stored group ≤ apply_all met group → stored group ≡ apply_all met group
    all_of group nothing few = omega arith

pub applied_next : (version : Versions) (progress : GroupId → Progress) (version2 : Versions) (progress2 : GroupId → Progress) (met : List Met) (one : GroupId) (left : List GroupId)
    → ((counts : GroupId → ℕ) → Follows version progress (log_of met) counts → Follows version2 progress2 (log_of met) (stored_with counts one (max (counts one) (apply_all met one))))
    → AppliedSo version progress met (one ∷ left) → AppliedSo version2 progress2 met left
applied_next version progress version2 progress2 met one left stores so = record {
  now = stored_with so.now one (max (so.now one) (apply_all met one));
  follows = stores so.now so.follows;
  few = λ group. few group (same_group one group) refl (so.few one) (so.few group);
  rest = λ group none. rest group (same_group one group) refl none (so.few one) (so.rest group);
}
  where
    few : (group : GroupId) (t : Bool) → same_group one group ≡ t → so.now one ≤ apply_all met one → so.now group ≤ apply_all met group → cond t (max (so.now one) (apply_all met one)) (so.now group) ≤ apply_all met group
    few group true e here there = subst (λ g. max (so.now one) (apply_all met one) ≤ apply_all met g) (same_group_equal one group e) (omega arith)
    few group false e here there = there

    rest : (group : GroupId) (t : Bool) → same_group one group ≡ t → has group left ≡ false → so.now one ≤ apply_all met one → ((t || has group left) ≡ false → so.now group ≡ apply_all met group) → cond t (max (so.now one) (apply_all met one)) (so.now group) ≡ apply_all met group
    rest group true e none here there = subst (λ g. max (so.now one) (apply_all met one) ≡ apply_all met g) (same_group_equal one group e) (omega arith)
    rest group false e none here there = there none

pub applied_last : (version : Versions) (progress : GroupId → Progress) (met : List Met) → AppliedSo version progress met [] → Follows version progress (log_of met) (apply_all met)
applied_last version progress met so = subst (λ (counts : GroupId → ℕ). Follows version progress (log_of met) counts) (λ i group. so.rest group refl i) so.follows

-- ---- what is noted of it

applied_quiet : (group : GroupId) (p : ℕ) → IsQuiet (Applies group p)
applied_quiet group p = record { mute = record { unkept = λ met. refl; undecided = refl; unbegun = λ met. refl }; apart = refl }

note_quiet : (met : List Met) (group : GroupId) → All IsQuiet (start_note met group)
note_quiet met group = by (nat_lt 0 (prefix_of met group))
  where
    by : (t : Bool) → All IsQuiet (cond t (Applies group (prefix_of met group) ∷ []) [])
    by true = All-cons IsQuiet (Applies group (prefix_of met group)) [] (applied_quiet group (prefix_of met group)) (All-nil IsQuiet)
    by false = All-nil IsQuiet

each_quiet : (met : List Met) (groups : List GroupId) → All IsQuiet (flat_map (start_note met) groups)
each_quiet met [] = All-nil IsQuiet
each_quiet met (group ∷ groups) = All-append IsQuiet (start_note met group) (flat_map (start_note met) groups) (note_quiet met group) (each_quiet met groups)

pub notes_quiet : (s : Setting) (met : List Met) → All IsQuiet (start_notes s met)
notes_quiet s met = by (has_rows s.cluster s.me)
  where
    by : (t : Bool) → All IsQuiet (cond t (flat_map (start_note met) (groups_of met)) [])
    by true = each_quiet met (groups_of met)
    by false = All-nil IsQuiet

-- ---- the start beside what was met before it

agree_without : (one two : List JournalItem) → without_starts one ≡ without_starts two → Agrees one two
agree_without one two same = record {
  slots = λ group n. slots_without one group n ∙ (ap (λ rest. slot_of rest group n) same ∙ sym (slots_without two group n));
  granted = λ node. granted_without one node ∙ (ap (λ rest. granted_of rest node) same ∙ sym (granted_without two node));
}

log_in_same : (one two : List JournalItem) → Agrees one two → (group : GroupId) → log_in one group ≡ log_in two group
log_in_same one two same group = λ i. entries_from (λ n. (same.slots group n i).decided) ((marks_same one two same.slots group i).prefix) 1

pub logs_beside : (kept : Kept) (starts : ℕ) (met owed : List Met) → list_all is_no_start owed ≡ true → starts < 4294967295 → Recalls kept starts (onto owed met)
    → (group : GroupId) → log_of (onto owed (Starts (starts + 1) ∷ met)) group ≡ log_of (onto owed met) group
logs_beside kept starts met owed are few recalls group =
    log_is (onto owed (Starts (starts + 1) ∷ met)) group
    ∙ (log_in_same (journal_of (onto owed (Starts (starts + 1) ∷ met))) (journal_of (onto owed met)) (agree_without (journal_of (onto owed (Starts (starts + 1) ∷ met))) (journal_of (onto owed met)) goes.journal) group
    ∙ sym (log_is (onto owed met) group))
  where
    goes : GoesOn (StartItem ∷ []) starts (onto owed met) (onto owed (Starts (starts + 1) ∷ met))
    goes = (start_goes_on starts met owed are few recalls.later recalls.honest).0

-- rows that follow the logs of what was met and is owed follow them at the start too
pub followed_on : (c : Cluster) (me : ℕ) (version : Versions) (progress : GroupId → Progress) (kept : Kept) (starts : ℕ) (met owed : List Met)
    → AreOwed owed met → starts < 4294967295 → Recalls kept starts (onto owed met) → HaveFollowed c me version progress (onto owed met) → HaveFollowed c me version progress (onto owed (Starts (starts + 1) ∷ met))
followed_on c me version progress kept starts met owed are few recalls have = record {
  stored = have.stored;
  follows = subst (λ (log : GroupId → List Content). Follows version progress log have.stored) (λ i group. sym (logs_beside kept starts met owed (owed_no_start owed met are) few recalls group) i) have.follows;
  bare = have.bare;
}

-- ---- the node is that of the rules
pub restarted : (c : Cluster) (me : ℕ) (h : Meanings) (old kept : Kept) (leases : Leases) (indexed : Indexed) (digest : Digest) (version : Versions) (progress : GroupId → Progress) (starts : ℕ) (met owed : List Met)
    → is_node c me ≡ true → IsSmall c.schema → AreOwed owed met → starts < 4294967295 → Recalls old starts (onto owed met) → Tells kept (onto owed (Starts (starts + 1) ∷ met))
    → TellsLeases c me leases (onto owed (Starts (starts + 1) ∷ met))
    → Follows version progress (log_of (onto owed (Starts (starts + 1) ∷ met))) (applied_at_start (setting c me h) (onto owed (Starts (starts + 1) ∷ met)))
    → IsIndexed c.schema indexed (start (setting c me h) (starts + 1) owed met).met → HasNoted kept digest
    → Represents (setting c me h) kept leases indexed digest version progress [] 0 (start (setting c me h) (starts + 1) owed met)
restarted c me h old kept leases indexed digest version progress starts met owed member small are few recalls tells leased follows marked noted = record {
  kind = record { member = member; small = small; idle = λ other. refl; bare = λ none group. ap (λ t. cond t (apply_all (onto owed met) group) 0) none };
  tells = subst (Tells kept) (sym all) (mute_told kept notes now mute tells);
  leased = subst (TellsLeases c me leases) (sym all) (alike_tells c me leases now (onto notes now) (all_apart_alike c me notes now (All-weaker IsQuiet IsApart (λ one quiet. quiet.apart) notes quiet)) leased);
  follows = coe 0 1 (i. Follows version progress (λ group. logs group i) (λ group. counts group i)) follows;
  marked = marked;
  noted = noted;
  opened = refl;
  begun_is = sym (ap (λ n. min n last_number) begun);
  about = All-nil IsAbout;
  built = All-nil IsServable;
}
  where
    now : List Met
    now = onto owed (Starts (starts + 1) ∷ met)

    notes : List Met
    notes = start_notes (setting c me h) now

    quiet : All IsQuiet notes
    quiet = notes_quiet (setting c me h) now

    mute : All IsMute notes
    mute = All-weaker IsQuiet IsMute (λ one quiet. quiet.mute) notes quiet

    all : onto (start_items (setting c me h) (starts + 1) owed met) met ≡ onto notes now
    all = onto_append (Starts (starts + 1) ∷ owed) notes met

    logs : (group : GroupId) → log_of now group ≡ log_of (onto (start_items (setting c me h) (starts + 1) owed met) met) group
    logs group = sym (log_after notes now group (mute_undecided notes mute)) ∙ sym (ap (λ m. log_of m group) all)

    counts : (group : GroupId) → applied_at_start (setting c me h) now group ≡ cond (has_rows c me) (apply_all (onto owed met) group) 0
    counts group = ap (λ (log : List Content). cond (has_rows c me) (length (writes_of log)) 0) (logs_beside old starts met owed (owed_no_start owed met are) few recalls group)

    begun : begun_of (onto (start_items (setting c me h) (starts + 1) owed met) met) ≡ 0
    begun = ap begun_of all ∙ (mute_begun notes now mute ∙ plain_begun owed (Starts (starts + 1) ∷ met) (all_plain owed met are))

-- ---- a group is noted once it is applied
pub noted : (met : List Met) (group : GroupId) (position : ℕ) (before after : List Met) (all left : List GroupId) → position ≡ prefix_of met group
    → after ≡ before ++ cond (nat_lt 0 position) (Applies group position ∷ []) [] → all ≡ group ∷ left
    → before ++ flat_map (start_note met) all ≡ flat_map (start_note met) (groups_of met) → after ++ flat_map (start_note met) left ≡ flat_map (start_note met) (groups_of met)
noted met group position before after all left is adds steps whole =
    ap (λ (some : List Met). some ++ flat_map (start_note met) left) (adds ∙ ap (λ n. before ++ cond (nat_lt 0 n) (Applies group n ∷ []) []) is)
    ∙ (append_assoc before (start_note met group) (flat_map (start_note met) left)
    ∙ (ap (λ (some : List GroupId). before ++ flat_map (start_note met) some) (sym steps) ∙ whole))
