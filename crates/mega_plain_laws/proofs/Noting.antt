-- What a step notes of cell and coordinator, of decisions and of applying is no beginning and no answer.
use Rattle.std.proofs.Common.{ℕ, nat_le, nat_lt, Bool, true, false, cond, List, [], ◌∷◌, map, flat_map, Option, Some, None}
use Rattle.std.specs.Prelude.{filter}
use Rattle.mega_base.specs.declared.names.Epoch.{Epoch}
use Rattle.mega_base.specs.declared.names.GroupId.{GroupId}
use Rattle.mega_coordinator.specs.declared.answers.Counted.{Counted}
use Rattle.mega_coordinator.specs.declared.answers.Counted.TheVariants.{No, Yes, Serving}
use Rattle.mega_coordinator.specs.History.{epoch_after}
use Rattle.mega_locks.specs.declared.asked.Asked.{Asked}
use Rattle.mega_locks.specs.declared.asked.Asked.TheVariants.{Granted as AnswerGranted, Renewed, GreaterHeld, Over}
use Rattle.mega_locks.specs.History.{lapse_for, nodes as lock_nodes}
use Rattle.mega_wire.specs.declared.message.Body.{Body}
use Rattle.mega_wire.specs.declared.message.Body.TheVariants.{Acquire, Granted, Invalidate}
use Rattle.mega_rules.specs.Met.{Met, Applies, Counts, Forgets, Invalidates, Serves}
use Rattle.mega_rules.specs.Clock.{start_of}
use Rattle.mega_rules.specs.Coordinators.{coordinator_calls, counts_notes, forget_notes, grant_notes, is_cell_in, lost_note, tick_notes, tick_told}
use Rattle.mega_rules.specs.Locks.{asked_for, cell_calls, grant_note, lapse_note, lapses_at}
use Rattle.mega_rules.specs.Logs.{groups_of, prefix_of}
use Rattle.mega_rules.specs.Members.{cells, has_rows, is_full, keep_of}
use Rattle.mega_rules.specs.Operations.{Setting}
use Rattle.mega_rules.specs.Steps.{Decision, applied_at, apply_note, apply_notes, decision_note, lapse_notes, lease_notes, start_note, start_notes, told_notes}
use Rattle.mega_format_laws.specs.Histories.{IsItem}
use Rattle.mega_format_laws.specs.Rounds.{Each}
use Rattle.mega_format_laws.proofs.Each.{each_both, either}
use Rattle.mega_plain_laws.proofs.Showing.{IsStill}

-- ---- what a message or a tick tells cell and coordinator

if_noted : (t : Bool) (notes : List Met) → Each IsStill notes → Each IsStill (cond t notes [])
if_noted true notes h = h
if_noted false notes h = tt

unless_noted : (t : Bool) (notes : List Met) → Each IsStill notes → Each IsStill (cond t [] notes)
unless_noted true notes h = tt
unless_noted false notes h = h

each_of : {X : Type 0} (f : X → List Met) → ((x : X) → Each IsStill (f x)) → (xs : List X) → Each IsStill (flat_map f xs)
each_of f h [] = tt
each_of f h (x ∷ xs) = each_both IsStill (f x) (flat_map f xs) (h x) (each_of f h xs)

each_one : {X : Type 0} (f : X → Met) → ((x : X) → IsStill (f x)) → (xs : List X) → Each IsStill (map f xs)
each_one f h [] = tt
each_one f h (x ∷ xs) = (h x, each_one f h xs)

grant_still : (node : ℕ) (epoch : Epoch) (a : Asked) → Each IsStill (grant_note node epoch a)
grant_still node epoch AnswerGranted = (tt, tt)
grant_still node epoch Renewed = tt
grant_still node epoch (GreaterHeld greatest) = tt
grant_still node epoch (Over greatest) = tt

counts_still : (cell : ℕ) (epoch : Epoch) (was : Bool) (counted : Counted) → Each IsStill (counts_notes cell epoch was counted)
counts_still cell epoch was No = tt
counts_still cell epoch was Yes = unless_noted was (Counts cell epoch ∷ []) (tt, tt)
counts_still cell epoch was Serving =
    each_both IsStill (cond was [] (Counts cell epoch ∷ [])) (Serves epoch ∷ []) (unless_noted was (Counts cell epoch ∷ []) (tt, tt)) (tt, tt)

pub told_still : (s : Setting) (met : List Met) (from : ℕ) (body : Body) → Each IsStill (told_notes s met from body)
told_still s met from (Acquire cell epoch clock) = if_noted _ (grant_note from epoch (asked_for s.cluster s.me met from epoch)) (grant_still from epoch (asked_for s.cluster s.me met from epoch))
told_still s met from (Granted cell epoch clock) = if_noted _ (grant_notes s.cluster met cell epoch clock) (counts_still cell epoch _ _)
told_still s met from (Invalidate op group position) = if_noted _ (Invalidates group position.0 ∷ []) (tt, tt)
told_still s met from _ = tt

pub decision_still : (d : Option Decision) → Each IsStill (decision_note d)
decision_still None = tt
decision_still (Some d) = (tt, tt)

forget_still : (o : Option Epoch) (cells : List ℕ) → Each IsStill (forget_notes o cells)
forget_still None cells = tt
forget_still (Some epoch) cells = each_one (λ cell. Forgets cell epoch) (λ cell. tt) cells

lost_still : (o : Option Epoch) → Each IsStill (lost_note o)
lost_still None = tt
lost_still (Some epoch) = (tt, tt)

pub lease_still : (s : Setting) (met : List Met) (now : ℕ) → Each IsStill (lease_notes s met now)
lease_still s met now = if_noted (is_full s.cluster s.me) (tick_notes s.cluster met now)
    (each_both IsStill (forget_notes (epoch_after (start_of met) s.cluster.cells (coordinator_calls s.cluster met)) (filter (is_cell_in (tick_told s.cluster met now).forgot) (cells s.cluster))) (lost_note (tick_told s.cluster met now).lost)
    (forget_still (epoch_after (start_of met) s.cluster.cells (coordinator_calls s.cluster met)) (filter (is_cell_in (tick_told s.cluster met now).forgot) (cells s.cluster))) (lost_still (tick_told s.cluster met now).lost))

lapse_still : (node : ℕ) (o : Option Epoch) → Each IsStill (lapse_note node o)
lapse_still node None = tt
lapse_still node (Some epoch) = (tt, tt)

pub lapses_still : (s : Setting) (met : List Met) (now : ℕ) → Each IsStill (lapse_notes s met now)
lapses_still s met now = if_noted (nat_le s.me s.cluster.cells) (lapses_at s.cluster s.me met now)
    (each_of (λ node. lapse_note node (lapse_for (cell_calls s.cluster s.me met) now (keep_of s.cluster) node)) (λ node. lapse_still node (lapse_for (cell_calls s.cluster s.me met) now (keep_of s.cluster) node)) lock_nodes)

pub apply_still : (s : Setting) (was : List Met) (was_stored : GroupId → ℕ) (met : List Met) (stored : GroupId → ℕ) → Each IsStill (apply_notes s was was_stored met stored)
apply_still s was was_stored met stored = if_noted (has_rows s.cluster s.me) (flat_map (apply_note was was_stored met stored) (groups_of met))
    (each_of (apply_note was was_stored met stored)
    (λ group. if_noted (nat_lt (applied_at was was_stored group) (applied_at met stored group)) (Applies group (applied_at met stored group) ∷ []) (tt, tt)) (groups_of met))

pub starts_still : (s : Setting) (met : List Met) → Each IsStill (start_notes s met)
starts_still s met = if_noted (has_rows s.cluster s.me) (flat_map (start_note met) (groups_of met))
    (each_of (start_note met) (λ group. if_noted (nat_lt 0 (prefix_of met group)) (Applies group (prefix_of met group) ∷ []) (tt, tt)) (groups_of met))

-- what a start notes behind what is owed is of the format
pub starts_formed : (s : Setting) (met : List Met) → Each IsItem (start_notes s met)
starts_formed s met = either (Each IsItem) (has_rows s.cluster s.me) (flat_map (start_note met) (groups_of met)) [] (each (groups_of met)) tt
  where
    each : (groups : List GroupId) → Each IsItem (flat_map (start_note met) groups)
    each [] = tt
    each (group ∷ groups) = each_both IsItem (start_note met group) (flat_map (start_note met) groups) (either (Each IsItem) (nat_lt 0 (prefix_of met group)) (Applies group (prefix_of met group) ∷ []) [] (tt, tt) tt) (each groups)
