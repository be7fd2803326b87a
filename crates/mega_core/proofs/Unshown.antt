-- What a node notes of its cell and its coordinator, and what it sends, leaves the marks that a find on a global index shows.
use Rattle.std.proofs.Common.{◌≡◌, ℕ, ◌+◌, ◌==◌, nat_le, is_some, filter, Bool, true, false, cond, ◌&&◌, List, [], ◌∷◌, ◌++◌, flat_map, map, nat_lt, refl, sym, ap, ◌∙◌, subst}
use Rattle.std.specs.Prelude.{Option, Some, None}
use Rattle.std.specs.List.{All, list_all}
use Rattle.std.proofs.lemmas.List.Elements.{All-head, All-tail}
use Rattle.mega_base.specs.declared.names.Epoch.{Epoch}
use Rattle.mega_wire.specs.declared.message.Body.{Body}
use Rattle.mega_wire.specs.declared.message.Body.TheVariants.{Where, Top, Accept, Accepted, Refused, Prepare, Promise, Invalidate, Invalidated, Dead, Held, Unheld, Decide, Fetch, Have, HaveNot, Acquire, Granted, Past, Request, Reply}
use Rattle.mega_locks.specs.declared.asked.Asked.{Asked}
use Rattle.mega_locks.specs.declared.asked.Asked.TheVariants.{Granted as First, Renewed, GreaterHeld, Over}
use Rattle.mega_cluster.specs.declared.cluster.Cluster.{Cluster}
use Rattle.mega_locks.specs.History.{lapse_for, nodes}
use Rattle.mega_coordinator.specs.Lease.{counted_by, granted_answer}
use Rattle.mega_coordinator.specs.History.{epoch_after, lease_of}
use Rattle.mega_coordinator.specs.declared.answers.Counted.{Counted}
use Rattle.mega_coordinator.specs.declared.answers.Counted.TheVariants.{No, Yes, Serving}
use Rattle.mega_rules.specs.Met.{Met, Answers, Applies, Begins, Counts, Crashes, Decides, Forgets, Grants, Invalidates, Lapses, Loses, Sends, Serves, Starts, Takes, Ticks, Unsends, Validates}
use Rattle.mega_rules.specs.Clock.{clock_of, start_of}
use Rattle.mega_step_parts.specs.of_leases.Opening.{AreOwed, is_owed}
use Rattle.mega_rules.specs.Logs.{groups_of, prefix_of}
use Rattle.mega_rules.specs.Members.{cells, has_rows, is_full, keep_of}
use Rattle.mega_rules.specs.Locks.{asked_for, cell_calls, grant_note, lapse_note, lapses_at}
use Rattle.mega_rules.specs.Coordinators.{coordinator_calls, counts_notes, forget_notes, grant_notes, is_cell_in, lost_note, tick_notes, tick_told}
use Rattle.mega_rules.specs.Steps.{Decision, apply_note, apply_notes, applied_at, decision_note, lapse_notes, lease_notes, onto, start, start_note, start_notes, told_notes}
use Rattle.mega_rules.specs.Operations.{Node, Setting}
use Rattle.mega_base.specs.declared.names.GroupId.{GroupId}
use Rattle.mega_base.specs.declared.names.OpId.{OpId}
use Rattle.mega_outcome.specs.declared.answer.Answer.{Answer}
use Rattle.mega_outcome.specs.declared.answer.Answer.TheVariants.{Committed, Conflict, Turned, Unknown, TimedOut, Read as ReadAnswer, Found as FoundAnswer, Refreshed, LogFull, Busy, Worn, NotHere, NothingToDo, NoHandler, Batched, AllTurned}
use Rattle.mega_outcome.specs.declared.answer.Mark.{Mark}
use Rattle.mega_wire.specs.declared.message.Message.{Message}
use Rattle.mega_rules.specs.Finding.{marks_shown, refreshed_marks}
use Rattle.mega_schema.specs.declared.schema.Schema.{Schema}
use Rattle.mega_actions.specs.of_marks.declared.indexed.Indexed.{Indexed}
use Rattle.mega_actions.specs.of_marks.AreMarked.{AreMarked, IsIndexed}
use Rattle.mega_actions.proofs.of_marks.Growing.{marked_after}
use Rattle.mega_core.specs.Acted.{IsValidate}
use Rattle.mega_core.specs.Unshown.{is_plain, is_unshown}

all_both : (a b : List Met) → list_all is_unshown a ≡ true → list_all is_unshown b ≡ true → list_all is_unshown (a ++ b) ≡ true
all_both [] b one two = two
all_both (x ∷ a) b one two = by (is_unshown x) (λ more. all_both a b more two) one
  where
    by : (t : Bool) → (list_all is_unshown a ≡ true → list_all is_unshown (a ++ b) ≡ true) → (t && list_all is_unshown a) ≡ true → (t && list_all is_unshown (a ++ b)) ≡ true
    by true rest more = rest more
    by false rest more = more

where_so : (test : Bool) (notes : List Met) → list_all is_unshown notes ≡ true → list_all is_unshown (cond test notes []) ≡ true
where_so true notes h = h
where_so false notes h = refl

grant_shows : (node : ℕ) (epoch : Epoch) (answer : Asked) → list_all is_unshown (grant_note node epoch answer) ≡ true
grant_shows node epoch First = refl
grant_shows node epoch Renewed = refl
grant_shows node epoch (GreaterHeld greatest) = refl
grant_shows node epoch (Over greatest) = refl

count_shows : (cell : ℕ) (epoch : Epoch) (was : Bool) (counted : Counted) → list_all is_unshown (counts_notes cell epoch was counted) ≡ true
count_shows cell epoch was No = refl
count_shows cell epoch true Yes = refl
count_shows cell epoch false Yes = refl
count_shows cell epoch true Serving = refl
count_shows cell epoch false Serving = refl

grants_show : (c : Cluster) (met : List Met) (cell : ℕ) (epoch : Epoch) (clock : ℕ) → list_all is_unshown (grant_notes c met cell epoch clock) ≡ true
grants_show c met cell epoch clock =
    count_shows cell epoch (is_some (counted_by (lease_of (start_of met) c.cells (coordinator_calls c met)) cell))
    (granted_answer (start_of met) c.cells (lease_of (start_of met) c.cells (coordinator_calls c met)) cell epoch (clock + c.lease) (clock_of met))

pub told_unshown : (s : Setting) (met : List Met) (from : ℕ) (body : Body) → list_all is_unshown (told_notes s met from body) ≡ true
told_unshown s met from (Where op group) = refl
told_unshown s met from (Top op group position) = refl
told_unshown s met from (Accept op group position ballot entry) = refl
told_unshown s met from (Accepted op group position ballot entry) = refl
told_unshown s met from (Refused op group position asked shown entry) = refl
told_unshown s met from (Prepare op group position ballot) = refl
told_unshown s met from (Promise op group position ballot accepted) = refl
told_unshown s met from (Invalidate op group position) = where_so (is_full s.cluster s.me) (Invalidates group position.0 ∷ []) refl
told_unshown s met from (Invalidated op group position) = refl
told_unshown s met from (Dead op cell node) = refl
told_unshown s met from (Held op cell node) = refl
told_unshown s met from (Unheld op cell node) = refl
told_unshown s met from (Decide group position entry) = refl
told_unshown s met from (Fetch op group position) = refl
told_unshown s met from (Have op group position entry) = refl
told_unshown s met from (HaveNot op group position) = refl
told_unshown s met from (Acquire cell epoch clock) = where_so (cell == s.me && nat_le s.me s.cluster.cells) (grant_note from epoch (asked_for s.cluster s.me met from epoch)) (grant_shows from epoch (asked_for s.cluster s.me met from epoch))
told_unshown s met from (Granted cell epoch clock) = where_so (is_full s.cluster s.me && nat_le cell s.cluster.cells) (grant_notes s.cluster met cell epoch clock) (grants_show s.cluster met cell epoch clock)
told_unshown s met from (Past cell epoch greatest) = refl
told_unshown s met from (Request token json) = refl
told_unshown s met from (Reply token text) = refl

lapse_shows : (node : ℕ) (lapsed : Option Epoch) → list_all is_unshown (lapse_note node lapsed) ≡ true
lapse_shows node None = refl
lapse_shows node (Some epoch) = refl

each_shows : (f : ℕ → List Met) → ((n : ℕ) → list_all is_unshown (f n) ≡ true) → (ns : List ℕ) → list_all is_unshown (flat_map f ns) ≡ true
each_shows f h [] = refl
each_shows f h (n ∷ ns) = all_both (f n) (flat_map f ns) (h n) (each_shows f h ns)

pub lapses_unshown : (s : Setting) (met : List Met) (now : ℕ) → list_all is_unshown (lapse_notes s met now) ≡ true
lapses_unshown s met now = where_so (nat_le s.me s.cluster.cells) (lapses_at s.cluster s.me met now)
    (each_shows (λ node. lapse_note node (lapse_for (cell_calls s.cluster s.me met) now (keep_of s.cluster) node)) (λ node. lapse_shows node (lapse_for (cell_calls s.cluster s.me met) now (keep_of s.cluster) node)) nodes)

forgets_show : (epoch : Option Epoch) (cells : List ℕ) → list_all is_unshown (forget_notes epoch cells) ≡ true
forgets_show None cells = refl
forgets_show (Some epoch) [] = refl
forgets_show (Some epoch) (cell ∷ cells) = forgets_show (Some epoch) cells

lost_shows : (lost : Option Epoch) → list_all is_unshown (lost_note lost) ≡ true
lost_shows None = refl
lost_shows (Some epoch) = refl

ticks_show : (c : Cluster) (met : List Met) (now : ℕ) → list_all is_unshown (tick_notes c met now) ≡ true
ticks_show c met now =
    all_both (forget_notes (epoch_after (start_of met) c.cells (coordinator_calls c met)) (filter (is_cell_in (tick_told c met now).forgot) (cells c))) (lost_note (tick_told c met now).lost)
    (forgets_show (epoch_after (start_of met) c.cells (coordinator_calls c met)) (filter (is_cell_in (tick_told c met now).forgot) (cells c))) (lost_shows (tick_told c met now).lost)

pub leases_unshown : (s : Setting) (met : List Met) (now : ℕ) → list_all is_unshown (lease_notes s met now) ≡ true
leases_unshown s met now = where_so (is_full s.cluster s.me) (tick_notes s.cluster met now) (ticks_show s.cluster met now)

-- ---- what is decided, applied and sent

pub decision_unshown : (d : Option Decision) → list_all is_unshown (decision_note d) ≡ true
decision_unshown None = refl
decision_unshown (Some d) = refl

sends_unshown : (sends : List Message) → list_all is_unshown (map Sends sends) ≡ true
sends_unshown [] = refl
sends_unshown (m ∷ sends) = sends_unshown sends

apply_unshown : (was : List Met) (was_stored : GroupId → ℕ) (met : List Met) (stored : GroupId → ℕ) (groups : List GroupId) → list_all is_unshown (flat_map (apply_note was was_stored met stored) groups) ≡ true
apply_unshown was was_stored met stored [] = refl
apply_unshown was was_stored met stored (group ∷ groups) =
    all_both (apply_note was was_stored met stored group) (flat_map (apply_note was was_stored met stored) groups)
    (where_so (nat_lt (applied_at was was_stored group) (applied_at met stored group)) (Applies group (applied_at met stored group) ∷ []) refl) (apply_unshown was was_stored met stored groups)

pub applies_unshown : (s : Setting) (was : List Met) (was_stored : GroupId → ℕ) (met : List Met) (stored : GroupId → ℕ) → list_all is_unshown (apply_notes s was was_stored met stored) ≡ true
applies_unshown s was was_stored met stored = where_so (has_rows s.cluster s.me) (flat_map (apply_note was was_stored met stored) (groups_of met)) (apply_unshown was was_stored met stored (groups_of met))

-- ---- the marks then

answer_stays : (op : OpId) (answer : Answer) (met : List Met) → is_plain answer ≡ true → marks_shown answer (refreshed_marks met) ≡ refreshed_marks met
answer_stays op (Committed n replies) met h = refl
answer_stays op (Conflict n other) met h = refl
answer_stays op (Turned turn) met h = refl
answer_stays op Unknown met h = refl
answer_stays op TimedOut met h = refl
answer_stays op (ReadAnswer n rows) met h = refl
answer_stays op (FoundAnswer marks rows) met h = refl
answer_stays op (Refreshed marks) met h = absurd (cc)
answer_stays op (LogFull n) met h = refl
answer_stays op (Busy n) met h = refl
answer_stays op Worn met h = refl
answer_stays op (NotHere kind) met h = refl
answer_stays op (NothingToDo marks) met h = refl
answer_stays op (NoHandler queue) met h = refl
answer_stays op (Batched n results) met h = refl
answer_stays op (AllTurned results) met h = refl

one_stays : (one : Met) (met : List Met) → is_unshown one ≡ true → refreshed_marks (one ∷ met) ≡ refreshed_marks met
one_stays (Starts start) met h = absurd (cc)
one_stays Crashes met h = refl
one_stays (Ticks now) met h = refl
one_stays (Begins op text) met h = refl
one_stays (Takes message) met h = refl
one_stays (Sends message) met h = refl
one_stays (Unsends message) met h = refl
one_stays (Grants node epoch) met h = refl
one_stays (Lapses node epoch) met h = refl
one_stays (Counts cell epoch) met h = refl
one_stays (Forgets cell epoch) met h = refl
one_stays (Serves epoch) met h = refl
one_stays (Loses epoch) met h = refl
one_stays (Validates group position) met h = refl
one_stays (Invalidates group position) met h = refl
one_stays (Decides group position entry) met h = refl
one_stays (Applies group position) met h = refl
one_stays (Answers op answer) met h = answer_stays op answer met h

pub marks_after : (items met : List Met) → list_all is_unshown items ≡ true → refreshed_marks (onto items met) ≡ refreshed_marks met
marks_after [] met h = refl
marks_after (one ∷ items) met h = by (is_unshown one) refl (λ more. marks_after items (one ∷ met) more) h
  where
    by : (b : Bool) → is_unshown one ≡ b → (list_all is_unshown items ≡ true → refreshed_marks (onto items (one ∷ met)) ≡ refreshed_marks (one ∷ met))
        → (b && list_all is_unshown items) ≡ true → refreshed_marks (onto items (one ∷ met)) ≡ refreshed_marks met
    by true is rest more = rest more ∙ one_stays one met is
    by false is rest more = absurd (cc)

-- ---- the marks beside what else a step notes

-- the same answers onto what leaves the same marks leave the same marks
marks_alike : (items one two : List Met) → refreshed_marks one ≡ refreshed_marks two → refreshed_marks (onto items one) ≡ refreshed_marks (onto items two)
marks_alike [] one two same = same
marks_alike (item ∷ items) one two same = marks_alike items (item ∷ one) (item ∷ two) (more item)
  where
    more : (item : Met) → refreshed_marks (item ∷ one) ≡ refreshed_marks (item ∷ two)
    more (Starts start) = refl
    more (Answers op answer) = ap (marks_shown answer) same
    more _ = same

pub validates_unshown : (valid : List Met) → All IsValidate valid → list_all is_unshown valid ≡ true
validates_unshown [] all = refl
validates_unshown (Validates group position ∷ valid) all = validates_unshown valid (All-tail IsValidate (Validates group position) valid all)
validates_unshown (_ ∷ valid) all = absurd (All-head IsValidate _ valid all)

-- where the operations answered no refresh the marks are those before the step
pub acted_marked : (schema : Schema) (indexed : Indexed) (node : Node) (own : Met) (locks durable answers : List Met)
    → is_unshown own ≡ true → list_all is_unshown locks ≡ true → list_all is_unshown durable ≡ true → list_all is_unshown answers ≡ true
    → IsIndexed schema indexed node.met → AreMarked schema indexed (onto durable (onto locks (own ∷ node.met))) (refreshed_marks (onto answers (onto durable (onto locks (own ∷ node.met)))))
acted_marked schema indexed node own locks durable answers own_is locks_are durable_are answers_are marked =
    subst (AreMarked schema indexed base) (sym marks_are)
    (marked_after schema indexed durable (onto locks (own ∷ node.met)) (refreshed_marks node.met)
    (marked_after schema indexed locks (own ∷ node.met) (refreshed_marks node.met) (marked_after schema indexed (own ∷ []) node.met (refreshed_marks node.met) marked)))
  where
    base : List Met
    base = onto durable (onto locks (own ∷ node.met))

    marks_are : refreshed_marks (onto answers base) ≡ refreshed_marks node.met
    marks_are = marks_after answers base answers_are ∙ (marks_after durable (onto locks (own ∷ node.met)) durable_are ∙ (marks_after locks (own ∷ node.met) locks_are ∙ one_stays own node.met own_is))

-- and at the end of the step they are those that the answers leave
pub ended_marked : (schema : Schema) (indexed : Indexed) (base applies valid answers : List Met) (sends : List Message)
    → list_all is_unshown applies ≡ true → list_all is_unshown valid ≡ true → AreMarked schema indexed base (refreshed_marks (onto answers base))
    → IsIndexed schema indexed (onto (map Sends sends) (onto answers (onto valid (onto applies base))))
ended_marked schema indexed base applies valid answers sends applies_are valid_are marked =
    subst (AreMarked schema indexed (onto (map Sends sends) noted)) (sym marks_are)
    (marked_after schema indexed (map Sends sends) noted marks
    (marked_after schema indexed answers (onto valid (onto applies base)) marks
    (marked_after schema indexed valid (onto applies base) marks (marked_after schema indexed applies base marks marked))))
  where
    noted : List Met
    noted = onto answers (onto valid (onto applies base))

    marks : List Mark
    marks = refreshed_marks (onto answers base)

    marks_are : refreshed_marks (onto (map Sends sends) noted) ≡ marks
    marks_are = marks_after (map Sends sends) noted (sends_unshown sends) ∙ marks_alike answers (onto valid (onto applies base)) base (marks_after valid (onto applies base) valid_are ∙ marks_after applies base applies_are)

-- ---- a start forgets the marks

pub owed_unshown : (owed met : List Met) → AreOwed owed met → list_all is_unshown owed ≡ true
owed_unshown [] met are = refl
owed_unshown (Lapses node epoch ∷ owed) met are = owed_unshown owed (Lapses node epoch ∷ met) are.1
owed_unshown (item ∷ owed) met are = all_both (item ∷ []) owed (ap (λ (b : Bool). b && true) (owed_shows item are.0)) (owed_unshown owed (item ∷ met) are.1)
  where
    owed_shows : (item : Met) → is_owed item ≡ true → is_unshown item ≡ true
    owed_shows (Starts start) is = absurd (cc)
    owed_shows (Answers op answer) is = absurd (cc)
    owed_shows _ is = refl

notes_unshown : (s : Setting) (met : List Met) → list_all is_unshown (start_notes s met) ≡ true
notes_unshown s met = where_so (has_rows s.cluster s.me) (flat_map (start_note met) (groups_of met)) (each (groups_of met))
  where
    each : (groups : List GroupId) → list_all is_unshown (flat_map (start_note met) groups) ≡ true
    each [] = refl
    each (group ∷ groups) = all_both (start_note met group) (flat_map (start_note met) groups) (where_so (nat_lt 0 (prefix_of met group)) (Applies group (prefix_of met group) ∷ []) refl) (each groups)

pub started_marks : (s : Setting) (number : ℕ) (owed met : List Met) → AreOwed owed met → refreshed_marks (start s number owed met).met ≡ []
started_marks s number owed met are =
    marks_after (owed ++ start_notes s (onto owed (Starts number ∷ met))) (Starts number ∷ met)
    (all_both owed (start_notes s (onto owed (Starts number ∷ met))) (owed_unshown owed met are) (notes_unshown s (onto owed (Starts number ∷ met))))
