-- The groups of which a node may not have applied all that is decided, from one step to the next.
use Rattle.std.proofs.Common.{◌≡◌, ◌≤◌, ◌<◌, ◌+◌, ◌-◌, ◌||◌, ℕ, suc, nat_le, nat_lt, Bool, true, false, cond, List, [], ◌∷◌, length, map, min, Option, Some, None, refl, sym, ap, subst, ◌∙◌, arith}
use Rattle.std.specs.BTreeSet.{BTreeSet}
use Rattle.std.specs.List.{All}
use Rattle.std.proofs.lemmas.Bool.Decides.{nat_tests}
use Rattle.std.proofs.lemmas.List.{length-append}
use Rattle.std.proofs.lemmas.List.Elements.{All-weaker}
use Rattle.mega_base.specs.declared.names.GroupId.{GroupId}
use Rattle.mega_cluster.specs.declared.cluster.Cluster.{Cluster}
use Rattle.mega_coordinator.specs.declared.answers.NotValid.{NotValid}
use Rattle.mega_handler.specs.Named.{Meanings}
use Rattle.mega_entry.specs.declared.content.Content.{Content}
use Rattle.mega_wal.specs.declared.kept.Kept.{Kept}
use Rattle.mega_wal.specs.Same.{same_group}
use Rattle.mega_wal.proofs.Orders.{is_group_is}
use Rattle.mega_wal.proofs.Sames.{same_group_equal}
use Rattle.mega_wire.specs.declared.message.Message.{Message}
use Rattle.mega_outcome.specs.declared.request.Request.{Request}
use Rattle.mega_replica.specs.Applying.{applied, writes_of}
use Rattle.mega_rules.specs.Acting.{validated_by}
use Rattle.mega_rules.specs.Clock.{clock_of}
use Rattle.mega_rules.specs.Logs.{log_of}
use Rattle.mega_rules.specs.Members.{has_rows}
use Rattle.mega_rules.specs.Met.{Begins, Met, Starts}
use Rattle.mega_rules.specs.Operations.{Node, Now, Setting}
use Rattle.mega_rules.specs.Steps.{Take, Tick, apply_all, at_first, new_operation, onto, op_of, portion_of, refusal, start, start_items, start_notes, stored_after}
use Rattle.mega_actions.specs.of_node_laws.Acted.{acted_on, decision_in}
use Rattle.mega_actions.proofs.of_node_laws.Applied.{applied_more}
use Rattle.mega_actions.proofs.of_node_laws.Ending.{onto_append}
use Rattle.mega_actions.proofs.of_node_laws.Logs.{log_after, log_stays}
use Rattle.mega_actions.specs.of_step_work.Servable.{is_served}
use Rattle.mega_actions.specs.of_step_work.Settings.{setting}
use Rattle.mega_actions.specs.Turns.{IsServable}
use Rattle.mega_step_parts.specs.of_leases.Opening.{AreOwed}
use Rattle.mega_step_parts.specs.of_voter.Holding.{Recalls}
use Rattle.mega_step_parts.specs.declared.applying.Before.{Before}
use Rattle.mega_step_parts.specs.Positions.{before_at}
use Rattle.mega_step_parts.specs.Behind.{is_behind}
use Rattle.mega_step_parts.specs.Touching.{asked_groups, touched}
use Rattle.mega_rules.proofs.Groups.{has}
use Rattle.mega_core.specs.Acted.{Acted}
use Rattle.mega_node_events.specs.Beginning.{at_begin, has_begun}
use Rattle.mega_lag.specs.Lagging.{KnowsLagging, KnowsOthers, is_watched}
use Rattle.mega_node_events.specs.Taking.{has_taken}
use Rattle.mega_node_events.specs.Ticking.{has_ticked}
use Rattle.mega_core.proofs.Anew.{logs_beside, notes_quiet, owed_no_start}
use Rattle.mega_core.proofs.Silent.{IsMute, IsQuiet, mute_undecided}
use Rattle.mega_core.proofs.Untouched.{decision_stored, heard_by, log_acted, take_apart, take_log}
use Rattle.mega_core.proofs.Walked.{IsAny, all_any, all_heard_built, heard_in_any, in_any}
use Rattle.mega_core.proofs.Walking.{Walks, all_ticked_walked, all_walked, begun_walked}

-- ---- of a group of which all is applied that is decided all is, where its log stays and no less is stored

no_less : (was now whole : ℕ) → was ≤ now → nat_lt was whole ≡ false → nat_lt now whole ≡ false
no_less was now whole le all = grind (arith, nat_tests)

kept_up : (base met : List Met) (stored : GroupId → ℕ) (now : Now) (group : GroupId) → Acted base now → log_of base group ≡ log_of met group → stored group ≤ now.stored group
    → is_behind met stored group ≡ false → is_behind now.met now.stored group ≡ false
kept_up base met stored now group acted logs grows whole =
    ap (λ (log : List Content). nat_lt (applied log (now.stored group)) (length log)) (log_acted group base met now acted logs)
    ∙ no_less (applied (log_of met group) (stored group)) (applied (log_of met group) (now.stored group)) (length (log_of met group)) (applied_more (log_of met group) (stored group) (now.stored group) grows) whole

-- ---- no less is stored of any group as operations act

abbrev Grown : GroupId → ℕ → Now → Type 0
Grown group count now = count ≤ now.stored group

grown_walks : (group : GroupId) (count : ℕ) → Walks (Grown group count) IsAny
grown_walks group count = record {
  keeps_it = λ now o is h. h;
  ends_it = λ now op answer h. h;
  sends_it = λ now sends h. h;
  stores_it = λ now other more grows any h. by now other more grows h (same_group other group) refl;
  validates_it = validated;
}
  where
    by : (now : Now) (other : GroupId) (more : ℕ) → now.stored other ≤ more → Grown group count now → (t : Bool) → same_group other group ≡ t → count ≤ cond t more (now.stored group)
    by now other more grows h true e = let least : count ≤ now.stored other = subst (λ g. count ≤ now.stored g) (sym (same_group_equal other group e)) h in omega (arith, least, grows)
    by now other more grows h false e = h

    validated : (now : Now) (other : GroupId) (p : ℕ) (refused : Option NotValid) → Grown group count now → Grown group count (validated_by now other p refused)
    validated now other p None h = h
    validated now other p (Some refused) h = h

at_least : (a b : ℕ) → b ≡ a → a ≤ b
at_least a b is = omega (arith, is)

-- ---- so no group that a step does not touch falls behind in it

pub take_kept : (s : Setting) (node : Node) (m : Message) → All IsServable node.open_operations → Acted (acted_on s node (Take m)) (has_taken s node m)
    → (group : GroupId) → has group (touched node.met m.body (heard_by s node m)) ≡ false → is_behind node.met node.stored group ≡ false → is_behind (has_taken s node m).met (has_taken s node m).stored group ≡ false
take_kept s node m built acted group none whole =
    let apart = take_apart group s node m none in
    let base = acted_on s node (Take m) in
    let stored = stored_after s base node.stored (decision_in s node m) in
    kept_up base node.met node.stored (has_taken s node m) group acted (take_log group s node m apart)
    (all_walked (Grown group (node.stored group)) IsAny (grown_walks group (node.stored group)) s (heard_by s node m) (at_first base stored)
    (all_heard_built s (clock_of node.met) m node.open_operations built) (heard_in_any (heard_by s node m))
    (at_least (node.stored group) (stored group) (decision_stored group s base node.stored (decision_in s node m) apart)))
    whole

pub begin_kept : (s : Setting) (node : Node) (request : Request) (text : List ℕ) → (refusal s node request ≡ None → is_served request ≡ true)
    → Acted (Begins (op_of s node.met) text ∷ node.met) (has_begun s node request text)
    → (group : GroupId) → is_behind node.met node.stored group ≡ false → is_behind (has_begun s node request text).met (has_begun s node request text).stored group ≡ false
begin_kept s node request text built acted group whole =
    kept_up (Begins (op_of s node.met) text ∷ node.met) node.met node.stored (has_begun s node request text) group acted (log_stays (Begins (op_of s node.met) text) node.met group refl)
    (begun_walked (Grown group (node.stored group)) IsAny (grown_walks group (node.stored group)) s (at_begin s node text) (new_operation (op_of s node.met) request (clock_of node.met)) (refusal s node request) built
    (all_any (asked_groups request)) (λ pump other. tt) (at_least (node.stored group) (node.stored group) refl))
    whole

portion_more : (s : Setting) (met : List Met) (stored : GroupId → ℕ) (group : GroupId) → has_rows s.cluster s.me ≡ true → stored group ≤ apply_all met group → stored group ≤ portion_of s met stored group
portion_more s met stored group rows few = subst (λ t. stored group ≤ cond t (min (apply_all met group) (stored group + s.cluster.apply)) 0) (sym rows) (omega (arith, few))

pub tick_kept : (s : Setting) (node : Node) (clock : ℕ) → has_rows s.cluster s.me ≡ true → ((group : GroupId) → node.stored group ≤ apply_all node.met group) → All IsServable node.open_operations
    → ((group : GroupId) → log_of (acted_on s node (Tick clock)) group ≡ log_of node.met group) → Acted (acted_on s node (Tick clock)) (has_ticked s node clock)
    → (group : GroupId) → is_behind node.met node.stored group ≡ false → is_behind (has_ticked s node clock).met (has_ticked s node clock).stored group ≡ false
tick_kept s node clock rows few built logs acted group whole =
    kept_up (acted_on s node (Tick clock)) node.met node.stored (has_ticked s node clock) group acted (logs group)
    (all_ticked_walked (Grown group (node.stored group)) IsAny (grown_walks group (node.stored group)) s clock node.open_operations
    (at_first (acted_on s node (Tick clock)) (portion_of s node.met node.stored)) built (in_any node.open_operations) (portion_more s node.met node.stored group rows (few group)))
    whole

-- ---- what is watched in a step is told by its groups

watched_are : (met : List Met) (stored : GroupId → ℕ) (groups : List GroupId) (group : GroupId) → is_watched (map (before_at met stored) groups) group ≡ has group groups
watched_are met stored [] group = refl
watched_are met stored (other ∷ groups) group = λ i. is_group_is other group i || watched_are met stored groups group i

-- where each group that is not among these stays as it is said, so does each that is neither watched nor in the set
pub others_kept : (s t : Setting) (node : Node) (groups : List GroupId) (before : List Before) (lagging : BTreeSet GroupId) (now : Now) → t ≡ s
    → before ≡ cond (has_rows s.cluster s.me) (map (before_at node.met node.stored) groups) []
    → (has_rows s.cluster s.me ≡ true → (group : GroupId) → has group groups ≡ false → is_behind node.met node.stored group ≡ false → is_behind now.met now.stored group ≡ false)
    → KnowsLagging s.cluster s.me lagging node.met node.stored → KnowsOthers t.cluster t.me lagging before now.met now.stored
others_kept s t node groups before lagging now t_is before_is kept knows = λ there group none out.
    let rows : has_rows s.cluster s.me ≡ true = ap (λ (one : Setting). has_rows one.cluster one.me) (sym t_is) ∙ there in
    let are : before ≡ map (before_at node.met node.stored) groups = before_is ∙ ap (λ b. cond b (map (before_at node.met node.stored) groups) []) rows in
    kept rows group (sym (watched_are node.met node.stored groups group) ∙ (ap (λ (some : List Before). is_watched some group) (sym are) ∙ none)) (knows rows group out)

-- a group that is in the set no more was found to be applied, or was neither watched nor in the set
pub lags_then : (watched now old new : Bool) → new ≡ cond watched now old → new ≡ false → (watched ≡ false → old ≡ false → now ≡ false) → now ≡ false
lags_then true now old new is out others = sym is ∙ out
lags_then false now old new is out others = others refl (sym is ∙ out)

-- ---- at a start all is applied that is decided

over : (a b : ℕ) → nat_le a b ≡ false → a ≤ b → ⊥
over a b e le = grind (arith, nat_tests)

all_applied : (log : List Content) (stored : ℕ) → length (writes_of log) ≤ stored → length log ≤ applied log stored
all_applied [] stored le = let none : 0 ≤ 0 = omega arith in none
all_applied (entry ∷ log) stored le = by (nat_le (length entry.writes) stored) refl (all_applied log (stored - length entry.writes) (omega (arith, le, parts)))
  where
    parts : length (writes_of (entry ∷ log)) ≡ length entry.writes + length (writes_of log)
    parts = length-append entry.writes (writes_of log)

    by : (t : Bool) → nat_le (length entry.writes) stored ≡ t → length log ≤ applied log (stored - length entry.writes) → suc (length log) ≤ cond t (1 + applied log (stored - length entry.writes)) 0
    by true e rest = let more : suc (length log) ≤ 1 + applied log (stored - length entry.writes) = omega (arith, rest) in more
    by false e rest = absurd (over (length entry.writes) stored e (omega (arith, le, parts)))

not_below : (a b : ℕ) → b ≤ a → nat_lt a b ≡ false
not_below a b le = grind (arith, nat_tests)

pub restarted_whole : (lagging : BTreeSet GroupId) (c : Cluster) (me : ℕ) (h : Meanings) (old : Kept) (starts : ℕ) (met owed : List Met) → AreOwed owed met → starts < 4294967295 → Recalls old starts (onto owed met)
    → KnowsLagging c me lagging (start (setting c me h) (starts + 1) owed met).met (start (setting c me h) (starts + 1) owed met).stored
restarted_whole lagging c me h old starts met owed are few recalls = λ rows group out.
    ap (λ (log : List Content). nat_lt (applied log (cond (has_rows c me) (length (writes_of (log_of (onto owed met) group))) 0)) (length log)) (logs group)
    ∙ (ap (λ t. nat_lt (applied (log_of (onto owed met) group) (cond t (length (writes_of (log_of (onto owed met) group))) 0)) (length (log_of (onto owed met) group))) rows
    ∙ not_below (applied (log_of (onto owed met) group) (length (writes_of (log_of (onto owed met) group)))) (length (log_of (onto owed met) group)) (all_applied (log_of (onto owed met) group) (length (writes_of (log_of (onto owed met) group))) (omega arith)))
  where
    now : List Met
    now = onto owed (Starts (starts + 1) ∷ met)

    notes : List Met
    notes = start_notes (setting c me h) now

    mute : All IsMute notes
    mute = All-weaker IsQuiet IsMute (λ one quiet. quiet.mute) notes (notes_quiet (setting c me h) now)

    logs : (group : GroupId) → log_of (onto (start_items (setting c me h) (starts + 1) owed met) met) group ≡ log_of (onto owed met) group
    logs group =
        ap (λ (m : List Met). log_of m group) (onto_append (Starts (starts + 1) ∷ owed) notes met)
        ∙ (log_after notes now group (mute_undecided notes mute) ∙ logs_beside old starts met owed (owed_no_start owed met are) few recalls group)
