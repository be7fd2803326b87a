-- What a step notes of locks and coordinators begins nothing, answers nothing, applies nothing and decides nothing.
use Rattle.std.proofs.Common.{ℕ, ◌+◌, ◌==◌, ◌&&◌, nat_le, nat_lt, Bool, true, false, cond, List, [], ◌∷◌, map, filter, flat_map, Option, Some, None, is_some}
use Rattle.mega_base.specs.declared.names.GroupId.{GroupId}
use Rattle.mega_base.specs.declared.names.OpId.{OpId}
use Rattle.mega_base.specs.declared.names.Epoch.{Epoch}
use Rattle.mega_coordinator.specs.declared.answers.Counted.{Counted}
use Rattle.mega_coordinator.specs.declared.answers.Counted.TheVariants.{No, Yes, Serving}
use Rattle.mega_coordinator.specs.Lease.{counted_by, granted_answer}
use Rattle.mega_coordinator.specs.History.{epoch_after, lease_of}
use Rattle.mega_locks.specs.declared.asked.Asked.{Asked}
use Rattle.mega_locks.specs.declared.asked.Asked.TheVariants.{Granted as AnswerGranted, Renewed, GreaterHeld, Over}
use Rattle.mega_locks.specs.History.{lapse_for, nodes as lock_nodes}
use Rattle.mega_wire.specs.declared.message.Body.{Body}
use Rattle.mega_wire.specs.declared.message.Body.TheVariants.{Acquire, Granted, Invalidate}
use Rattle.mega_cause_laws.specs.of_run_laws.of_tape_laws.of_promises.of_rules.Met.{Met, Answers, Applies, Begins, Counts, Crashes, Decides, Forgets, Grants, Invalidates, Lapses, Loses, Serves, Starts, Ticks, Validates}
use Rattle.mega_cause_laws.specs.of_run_laws.of_tape_laws.of_promises.of_rules.Coordinators.{coordinator_calls, counts_notes, forget_notes, grant_notes, is_cell_in, lost_note, tick_notes, tick_told}
use Rattle.mega_cause_laws.specs.of_run_laws.of_tape_laws.of_promises.of_rules.Locks.{asked_for, cell_calls, grant_note, lapse_note, lapses_at}
use Rattle.mega_cause_laws.specs.of_run_laws.of_tape_laws.of_promises.of_rules.Clock.{clock_of, start_of}
use Rattle.mega_cause_laws.specs.of_run_laws.of_tape_laws.of_promises.of_rules.Logs.{groups_of, prefix_of}
use Rattle.mega_cause_laws.specs.of_run_laws.of_tape_laws.of_promises.of_rules.Members.{cells, has_rows, is_full, keep_of}
use Rattle.mega_cause_laws.specs.of_run_laws.of_tape_laws.of_promises.of_rules.Operations.{Setting}
use Rattle.mega_cause_laws.specs.of_run_laws.of_tape_laws.of_promises.of_rules.Steps.{Decision, applied_at, apply_note, apply_notes, decision_note, lapse_notes, lease_notes, start_note, start_notes, told_notes}
use Rattle.mega_cause_laws.specs.of_run_laws.Justified.{Each}
use Rattle.mega_cause_laws.proofs.of_run_laws.Silent.{IsSilent}
use Rattle.mega_answer_laws.proofs.Ops.{Leaves}
use Rattle.mega_answer_laws.proofs.Views.{IsMine, LeavesApplied, LeavesRest}
use Rattle.mega_answer_laws.proofs.Walk.{IsValid, each_both}

-- a note of locks, of a coordinator or of a decision
abbrev pub IsQuiet : Met → Type 0
IsQuiet (Grants node epoch) = Unit {0}
IsQuiet (Lapses node epoch) = Unit {0}
IsQuiet (Counts cell epoch) = Unit {0}
IsQuiet (Forgets cell epoch) = Unit {0}
IsQuiet (Serves epoch) = Unit {0}
IsQuiet (Loses epoch) = Unit {0}
IsQuiet (Validates group position) = Unit {0}
IsQuiet (Invalidates group position) = Unit {0}
IsQuiet (Decides group position entry) = Unit {0}
IsQuiet _ = ⊥

-- what such notes leave
pub quiet_silent : (one : Met) → IsQuiet one → IsSilent one
quiet_silent (Answers op answer) h = absurd h
quiet_silent _ h = tt

pub quiet_leaves : (me v : ℕ) (x : OpId) (one : Met) → IsQuiet one → Leaves me v x one
quiet_leaves me v x (Starts start) h = absurd h
quiet_leaves me v x Crashes h = absurd h
quiet_leaves me v x (Begins op text) h = absurd h
quiet_leaves me v x (Answers op answer) h = absurd h
quiet_leaves me v x _ h = tt

pub quiet_mine : (me : ℕ) (one : Met) → IsQuiet one → IsMine me one
quiet_mine me (Begins op text) h = absurd h
quiet_mine me (Answers op answer) h = absurd h
quiet_mine me _ h = tt

pub quiet_applied : (one : Met) → IsQuiet one → LeavesApplied one
quiet_applied (Starts start) h = absurd h
quiet_applied (Applies group position) h = absurd h
quiet_applied _ h = tt

pub valid_quiet : (one : Met) → IsValid one → IsQuiet one
valid_quiet (Validates group position) h = tt
valid_quiet _ h = absurd h

pub quiet_rest : (one : Met) → IsQuiet one → LeavesRest one
quiet_rest (Starts start) h = absurd h
quiet_rest (Ticks now) h = absurd h
quiet_rest (Begins op text) h = absurd h
quiet_rest (Answers op answer) h = absurd h
quiet_rest _ h = tt

-- and notes of what is applied
abbrev pub IsApplied : Met → Type 0
IsApplied (Applies group position) = Unit {0}
IsApplied _ = ⊥

pub applied_silent : (one : Met) → IsApplied one → IsSilent one
applied_silent (Answers op answer) h = absurd h
applied_silent _ h = tt

pub applied_leaves : (me v : ℕ) (x : OpId) (one : Met) → IsApplied one → Leaves me v x one
applied_leaves me v x (Starts start) h = absurd h
applied_leaves me v x Crashes h = absurd h
applied_leaves me v x (Begins op text) h = absurd h
applied_leaves me v x (Answers op answer) h = absurd h
applied_leaves me v x _ h = tt

pub applied_mine : (me : ℕ) (one : Met) → IsApplied one → IsMine me one
applied_mine me (Begins op text) h = absurd h
applied_mine me (Answers op answer) h = absurd h
applied_mine me _ h = tt

pub applied_rest : (one : Met) → IsApplied one → LeavesRest one
applied_rest (Starts start) h = absurd h
applied_rest (Ticks now) h = absurd h
applied_rest (Begins op text) h = absurd h
applied_rest (Answers op answer) h = absurd h
applied_rest _ h = tt

pub each_if : (P : Met → Type 0) (t : Bool) (xs ys : List Met) → Each P xs → Each P ys → Each P (cond t xs ys)
each_if P true xs ys a b = a
each_if P false xs ys a b = b

pub each_flat : {X : Type 0} (P : Met → Type 0) (f : X → List Met) → ((x : X) → Each P (f x)) → (xs : List X) → Each P (flat_map f xs)
each_flat P f h [] = tt
each_flat P f h (x ∷ xs) = each_both P (f x) (flat_map f xs) (h x) (each_flat P f h xs)

-- ---- each note of a step

grant_quiet : (node : ℕ) (epoch : Epoch) (a : Asked) → Each IsQuiet (grant_note node epoch a)
grant_quiet node epoch AnswerGranted = (tt, tt)
grant_quiet node epoch Renewed = tt
grant_quiet node epoch (GreaterHeld greatest) = tt
grant_quiet node epoch (Over greatest) = tt

counts_quiet : (cell : ℕ) (epoch : Epoch) (was : Bool) (a : Counted) → Each IsQuiet (counts_notes cell epoch was a)
counts_quiet cell epoch was No = tt
counts_quiet cell epoch was Yes = each_if IsQuiet was [] (Counts cell epoch ∷ []) tt (tt, tt)
counts_quiet cell epoch was Serving = each_both IsQuiet (cond was [] (Counts cell epoch ∷ [])) (Serves epoch ∷ []) (each_if IsQuiet was [] (Counts cell epoch ∷ []) tt (tt, tt)) (tt, tt)

pub told_quiet : (s : Setting) (met : List Met) (from : ℕ) (body : Body) → Each IsQuiet (told_notes s met from body)
told_quiet s met from (Acquire cell epoch clock) = each_if IsQuiet (cell == s.me && nat_le s.me s.cluster.cells) (grant_note from epoch (asked_for s.cluster s.me met from epoch)) [] (grant_quiet from epoch (asked_for s.cluster s.me met from epoch)) tt
told_quiet s met from (Granted cell epoch clock) = each_if IsQuiet (is_full s.cluster s.me && nat_le cell s.cluster.cells) (grant_notes s.cluster met cell epoch clock) []
    (counts_quiet cell epoch (is_some (counted_by (lease_of (start_of met) s.cluster.cells (coordinator_calls s.cluster met)) cell)) (granted_answer (start_of met) s.cluster.cells (lease_of (start_of met) s.cluster.cells (coordinator_calls s.cluster met)) cell epoch (clock + s.cluster.lease) (clock_of met))) tt
told_quiet s met from (Invalidate op group position) = each_if IsQuiet (is_full s.cluster s.me) (Invalidates group position.0 ∷ []) [] (tt, tt) tt
told_quiet s met from _ = tt

each_map : {X : Type 0} (f : X → Met) → ((x : X) → IsQuiet (f x)) → (xs : List X) → Each IsQuiet (map f xs)
each_map f h [] = tt
each_map f h (x ∷ xs) = (h x, each_map f h xs)

forget_quiet : (o : Option Epoch) (those : List ℕ) → Each IsQuiet (forget_notes o those)
forget_quiet None those = tt
forget_quiet (Some epoch) those = each_map (λ cell. Forgets cell epoch) (λ cell. tt) those

lost_quiet : (o : Option Epoch) → Each IsQuiet (lost_note o)
lost_quiet None = tt
lost_quiet (Some epoch) = (tt, tt)

pub lease_quiet : (s : Setting) (met : List Met) (now : ℕ) → Each IsQuiet (lease_notes s met now)
lease_quiet s met now = each_if IsQuiet (is_full s.cluster s.me) (tick_notes s.cluster met now) []
    (each_both IsQuiet (forget_notes (epoch_after (start_of met) s.cluster.cells (coordinator_calls s.cluster met)) (filter (is_cell_in (tick_told s.cluster met now).forgot) (cells s.cluster))) (lost_note (tick_told s.cluster met now).lost)
    (forget_quiet (epoch_after (start_of met) s.cluster.cells (coordinator_calls s.cluster met)) (filter (is_cell_in (tick_told s.cluster met now).forgot) (cells s.cluster))) (lost_quiet (tick_told s.cluster met now).lost)) tt

lapse_quiet : (node : ℕ) (o : Option Epoch) → Each IsQuiet (lapse_note node o)
lapse_quiet node None = tt
lapse_quiet node (Some epoch) = (tt, tt)

pub lapses_quiet : (s : Setting) (met : List Met) (now : ℕ) → Each IsQuiet (lapse_notes s met now)
lapses_quiet s met now = each_if IsQuiet (nat_le s.me s.cluster.cells) (lapses_at s.cluster s.me met now) []
    (each_flat IsQuiet (λ node. lapse_note node (lapse_for (cell_calls s.cluster s.me met) now (keep_of s.cluster) node)) (λ node. lapse_quiet node (lapse_for (cell_calls s.cluster s.me met) now (keep_of s.cluster) node)) lock_nodes) tt

pub decision_quiet : (d : Option Decision) → Each IsQuiet (decision_note d)
decision_quiet None = tt
decision_quiet (Some d) = (tt, tt)

pub applies_applied : (s : Setting) (was : List Met) (was_stored : GroupId → ℕ) (met : List Met) (stored : GroupId → ℕ) → Each IsApplied (apply_notes s was was_stored met stored)
applies_applied s was was_stored met stored = each_if IsApplied (has_rows s.cluster s.me) (flat_map (apply_note was was_stored met stored) (groups_of met)) [] (each_flat IsApplied (apply_note was was_stored met stored)
    (λ group. each_if IsApplied (nat_lt (applied_at was was_stored group) (applied_at met stored group)) (Applies group (applied_at met stored group) ∷ []) [] (tt, tt) tt) (groups_of met)) tt

pub starts_applied : (s : Setting) (met : List Met) → Each IsApplied (start_notes s met)
starts_applied s met = each_if IsApplied (has_rows s.cluster s.me) (flat_map (start_note met) (groups_of met)) [] (each_flat IsApplied (start_note met)
    (λ group. each_if IsApplied (nat_lt 0 (prefix_of met group)) (Applies group (prefix_of met group) ∷ []) [] (tt, tt) tt) (groups_of met)) tt
