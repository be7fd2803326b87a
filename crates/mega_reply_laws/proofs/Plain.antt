-- What a step notes besides answers begins nothing, answers nothing and starts nothing.
use Rattle.std.proofs.Common.{◌≡◌, ℕ, nat_le, nat_lt, Bool, true, false, cond, List, [], ◌∷◌, ◌++◌, filter, map, flat_map, Option, Some, None, refl}
use Rattle.std.specs.List.{All}
use Rattle.std.proofs.lemmas.List.Elements.{All-append, All-cons, All-nil}
use Rattle.mega_base.specs.declared.names.Epoch.{Epoch}
use Rattle.mega_base.specs.declared.names.GroupId.{GroupId}
use Rattle.mega_coordinator.specs.History.{epoch_after}
use Rattle.mega_coordinator.specs.declared.answers.Counted.{Counted}
use Rattle.mega_coordinator.specs.declared.answers.Counted.TheVariants.{No, Yes, Serving}
use Rattle.mega_locks.specs.History.{lapse_for, nodes as lock_nodes}
use Rattle.mega_locks.specs.declared.asked.Asked.{Asked}
use Rattle.mega_locks.specs.declared.asked.Asked.TheVariants.{Granted as Grant, Renewed, GreaterHeld, Over}
use Rattle.mega_wire.specs.declared.message.Body.{Body}
use Rattle.mega_wire.specs.declared.message.Body.TheVariants.{Acquire, Granted, Invalidate}
use Rattle.mega_promises.specs.of_rules.Met.{Met, Answers, Applies, Begins, Counts, Decides, Forgets, Grants, Invalidates, Lapses, Loses, Serves, Starts}
use Rattle.mega_promises.specs.of_rules.Clock.{start_of}
use Rattle.mega_promises.specs.of_rules.Coordinators.{coordinator_calls, counts_notes, forget_notes, grant_notes, is_cell_in, lost_note, tick_notes, tick_told}
use Rattle.mega_promises.specs.of_rules.Locks.{asked_for, cell_calls, grant_note, lapse_note, lapses_at}
use Rattle.mega_promises.specs.of_rules.Logs.{groups_of, prefix_of}
use Rattle.mega_promises.specs.of_rules.Members.{cells, has_rows, is_full, keep_of}
use Rattle.mega_promises.specs.of_rules.Operations.{Setting}
use Rattle.mega_promises.specs.of_rules.Steps.{Decision, applied_at, apply_note, apply_notes, decision_note, lapse_notes, lease_notes, start_note, start_notes, told_notes}

abbrev pub is_plain : Met → Bool
is_plain (Starts start) = false
is_plain (Begins op text) = false
is_plain (Answers op answer) = false
is_plain _ = true

abbrev pub IsPlain : Met → Type 0
IsPlain one = is_plain one ≡ true

pub nothing : All IsPlain []
nothing = All-nil IsPlain

single : (one : Met) → IsPlain one → All IsPlain (one ∷ [])
single one is = All-cons IsPlain one [] is nothing

pub both : (xs ys : List Met) → All IsPlain xs → All IsPlain ys → All IsPlain (xs ++ ys)
both xs ys h k = All-append IsPlain xs ys h k

if_plain : (t : Bool) (notes : List Met) → All IsPlain notes → All IsPlain (cond t notes [])
if_plain true notes h = h
if_plain false notes h = nothing

unless_plain : (t : Bool) (notes : List Met) → All IsPlain notes → All IsPlain (cond t [] notes)
unless_plain true notes h = nothing
unless_plain false notes h = h

each_plain : {X : Type 0} (f : X → List Met) → ((x : X) → All IsPlain (f x)) → (xs : List X) → All IsPlain (flat_map f xs)
each_plain f h [] = nothing
each_plain f h (x ∷ xs) = both (f x) (flat_map f xs) (h x) (each_plain f h xs)

grant_plain : (node : ℕ) (epoch : Epoch) (asked : Asked) → All IsPlain (grant_note node epoch asked)
grant_plain node epoch Grant = single (Grants node epoch) refl
grant_plain node epoch Renewed = nothing
grant_plain node epoch (GreaterHeld greatest) = nothing
grant_plain node epoch (Over greatest) = nothing

counts_plain : (cell : ℕ) (epoch : Epoch) (was : Bool) (counted : Counted) → All IsPlain (counts_notes cell epoch was counted)
counts_plain cell epoch was No = nothing
counts_plain cell epoch was Yes = unless_plain was (Counts cell epoch ∷ []) (single (Counts cell epoch) refl)
counts_plain cell epoch was Serving =
    both (cond was [] (Counts cell epoch ∷ [])) (Serves epoch ∷ []) (unless_plain was (Counts cell epoch ∷ []) (single (Counts cell epoch) refl)) (single (Serves epoch) refl)

pub told_plain : (s : Setting) (met : List Met) (from : ℕ) (body : Body) → All IsPlain (told_notes s met from body)
told_plain s met from (Acquire cell epoch clock) = if_plain _ (grant_note from epoch (asked_for s.cluster s.me met from epoch)) (grant_plain from epoch (asked_for s.cluster s.me met from epoch))
told_plain s met from (Granted cell epoch clock) = if_plain _ (grant_notes s.cluster met cell epoch clock) (counts_plain cell epoch _ _)
told_plain s met from (Invalidate op group position) = if_plain _ (Invalidates group position.0 ∷ []) (single (Invalidates group position.0) refl)
told_plain s met from _ = nothing

pub decision_plain : (d : Option Decision) → All IsPlain (decision_note d)
decision_plain None = nothing
decision_plain (Some d) = single (Decides d.group d.position d.entry) refl

pub applies_plain : (s : Setting) (was : List Met) (was_stored : GroupId → ℕ) (met : List Met) (stored : GroupId → ℕ) → All IsPlain (apply_notes s was was_stored met stored)
applies_plain s was was_stored met stored =
    if_plain (has_rows s.cluster s.me) (flat_map (apply_note was was_stored met stored) (groups_of met))
    (each_plain (apply_note was was_stored met stored)
    (λ group. if_plain (nat_lt (applied_at was was_stored group) (applied_at met stored group)) (Applies group (applied_at met stored group) ∷ []) (single (Applies group (applied_at met stored group)) refl)) (groups_of met))

forget_plain : (epoch : Option Epoch) (cells : List ℕ) → All IsPlain (forget_notes epoch cells)
forget_plain None cells = nothing
forget_plain (Some epoch) [] = nothing
forget_plain (Some epoch) (cell ∷ cells) = All-cons IsPlain (Forgets cell epoch) (map (λ cell. Forgets cell epoch) cells) refl (forget_plain (Some epoch) cells)

lost_plain : (epoch : Option Epoch) → All IsPlain (lost_note epoch)
lost_plain None = nothing
lost_plain (Some epoch) = single (Loses epoch) refl

pub leases_plain : (s : Setting) (met : List Met) (now : ℕ) → All IsPlain (lease_notes s met now)
leases_plain s met now = if_plain (is_full s.cluster s.me) (tick_notes s.cluster met now)
    (both (forget_notes (epoch_after (start_of met) s.cluster.cells (coordinator_calls s.cluster met)) (filter (is_cell_in (tick_told s.cluster met now).forgot) (cells s.cluster))) (lost_note (tick_told s.cluster met now).lost)
    (forget_plain (epoch_after (start_of met) s.cluster.cells (coordinator_calls s.cluster met)) (filter (is_cell_in (tick_told s.cluster met now).forgot) (cells s.cluster))) (lost_plain (tick_told s.cluster met now).lost))

lapse_plain : (node : ℕ) (epoch : Option Epoch) → All IsPlain (lapse_note node epoch)
lapse_plain node None = nothing
lapse_plain node (Some epoch) = single (Lapses node epoch) refl

pub lapses_plain : (s : Setting) (met : List Met) (now : ℕ) → All IsPlain (lapse_notes s met now)
lapses_plain s met now = if_plain (nat_le s.me s.cluster.cells) (lapses_at s.cluster s.me met now)
    (each_plain (λ node. lapse_note node (lapse_for (cell_calls s.cluster s.me met) now (keep_of s.cluster) node)) (λ node. lapse_plain node (lapse_for (cell_calls s.cluster s.me met) now (keep_of s.cluster) node)) lock_nodes)

pub start_plain : (s : Setting) (met : List Met) → All IsPlain (start_notes s met)
start_plain s met = if_plain (has_rows s.cluster s.me) (flat_map (start_note met) (groups_of met))
    (each_plain (start_note met) (λ group. if_plain (nat_lt 0 (prefix_of met group)) (Applies group (prefix_of met group) ∷ []) (single (Applies group (prefix_of met group)) refl)) (groups_of met))
