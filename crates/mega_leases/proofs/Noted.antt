-- What a node notes of its cell and its coordinator only shows what they were told.
use Rattle.std.proofs.Common.{◌≡◌, ℕ, ◌+◌, ◌==◌, nat_le, is_some, filter, Bool, true, false, cond, ◌&&◌, List, [], ◌∷◌, flat_map, refl}
use Rattle.std.specs.Prelude.{Option, Some, None}
use Rattle.std.specs.List.{list_all}
use Rattle.mega_base.specs.declared.names.Epoch.{Epoch}
use Rattle.mega_wire.specs.declared.message.Body.{Body}
use Rattle.mega_wire.specs.declared.message.Body.TheVariants.{Where, Top, Accept, Accepted, Refused, Prepare, Promise, Invalidate, Invalidated, Dead, Held, Unheld, Decide, Fetch, Have, HaveNot, Acquire, Granted, Past, Request, Reply}
use Rattle.mega_locks.specs.declared.asked.Asked.{Asked}
use Rattle.mega_locks.specs.declared.asked.Asked.TheVariants.{Granted as First, Renewed, GreaterHeld, Over}
use Rattle.mega_cluster.specs.declared.cluster.Cluster.{Cluster}
use Rattle.mega_locks.specs.History.{lapse_for, nodes}
use Rattle.mega_coordinator.specs.Lease.{counted_by, granted_answer}
use Rattle.mega_coordinator.specs.History.{epoch_after, lease_of}
use Rattle.mega_coordinator.specs.declared.answers.Counted.{Counted}
use Rattle.mega_coordinator.specs.declared.answers.Counted.TheVariants.{No, Yes, Serving}
use Rattle.mega_rules.specs.Met.{Met, Invalidates}
use Rattle.mega_rules.specs.Clock.{clock_of, start_of}
use Rattle.mega_rules.specs.Members.{cells, is_full, keep_of}
use Rattle.mega_rules.specs.Locks.{asked_for, cell_calls, grant_note, lapse_note, lapses_at}
use Rattle.mega_rules.specs.Coordinators.{coordinator_calls, counts_notes, forget_notes, grant_notes, is_cell_in, lost_note, tick_notes, tick_told}
use Rattle.mega_rules.specs.Steps.{lapse_notes, lease_notes, told_notes}
use Rattle.mega_rules.specs.Operations.{Setting}
use Rattle.mega_leases.specs.Laws.{shows_only}
use Rattle.mega_leases.proofs.Shown.{both_show}

where_so : (test : Bool) (notes : List Met) → list_all shows_only notes ≡ true → list_all shows_only (cond test notes []) ≡ true
where_so true notes h = h
where_so false notes h = refl

grant_shows : (node : ℕ) (epoch : Epoch) (answer : Asked) → list_all shows_only (grant_note node epoch answer) ≡ true
grant_shows node epoch First = refl
grant_shows node epoch Renewed = refl
grant_shows node epoch (GreaterHeld greatest) = refl
grant_shows node epoch (Over greatest) = refl

count_shows : (cell : ℕ) (epoch : Epoch) (was : Bool) (counted : Counted) → list_all shows_only (counts_notes cell epoch was counted) ≡ true
count_shows cell epoch was No = refl
count_shows cell epoch true Yes = refl
count_shows cell epoch false Yes = refl
count_shows cell epoch true Serving = refl
count_shows cell epoch false Serving = refl

grants_show : (c : Cluster) (met : List Met) (cell : ℕ) (epoch : Epoch) (clock : ℕ) → list_all shows_only (grant_notes c met cell epoch clock) ≡ true
grants_show c met cell epoch clock =
    count_shows cell epoch (is_some (counted_by (lease_of (start_of met) c.cells (coordinator_calls c met)) cell))
    (granted_answer (start_of met) c.cells (lease_of (start_of met) c.cells (coordinator_calls c met)) cell epoch (clock + c.lease) (clock_of met))

pub told_show : (s : Setting) (met : List Met) (from : ℕ) (body : Body) → list_all shows_only (told_notes s met from body) ≡ true
told_show s met from (Where op group) = refl
told_show s met from (Top op group position) = refl
told_show s met from (Accept op group position ballot entry) = refl
told_show s met from (Accepted op group position ballot entry) = refl
told_show s met from (Refused op group position asked shown entry) = refl
told_show s met from (Prepare op group position ballot) = refl
told_show s met from (Promise op group position ballot accepted) = refl
told_show s met from (Invalidate op group position) = where_so (is_full s.cluster s.me) (Invalidates group position.0 ∷ []) refl
told_show s met from (Invalidated op group position) = refl
told_show s met from (Dead op cell node) = refl
told_show s met from (Held op cell node) = refl
told_show s met from (Unheld op cell node) = refl
told_show s met from (Decide group position entry) = refl
told_show s met from (Fetch op group position) = refl
told_show s met from (Have op group position entry) = refl
told_show s met from (HaveNot op group position) = refl
told_show s met from (Acquire cell epoch clock) = where_so (cell == s.me && nat_le s.me s.cluster.cells) (grant_note from epoch (asked_for s.cluster s.me met from epoch)) (grant_shows from epoch (asked_for s.cluster s.me met from epoch))
told_show s met from (Granted cell epoch clock) = where_so (is_full s.cluster s.me && nat_le cell s.cluster.cells) (grant_notes s.cluster met cell epoch clock) (grants_show s.cluster met cell epoch clock)
told_show s met from (Past cell epoch greatest) = refl
told_show s met from (Request token json) = refl
told_show s met from (Reply token text) = refl

lapse_shows : (node : ℕ) (lapsed : Option Epoch) → list_all shows_only (lapse_note node lapsed) ≡ true
lapse_shows node None = refl
lapse_shows node (Some epoch) = refl

each_shows : (f : ℕ → List Met) → ((n : ℕ) → list_all shows_only (f n) ≡ true) → (ns : List ℕ) → list_all shows_only (flat_map f ns) ≡ true
each_shows f h [] = refl
each_shows f h (n ∷ ns) = both_show (f n) (flat_map f ns) (h n) (each_shows f h ns)

pub lapses_show : (s : Setting) (met : List Met) (now : ℕ) → list_all shows_only (lapse_notes s met now) ≡ true
lapses_show s met now = where_so (nat_le s.me s.cluster.cells) (lapses_at s.cluster s.me met now)
    (each_shows (λ node. lapse_note node (lapse_for (cell_calls s.cluster s.me met) now (keep_of s.cluster) node)) (λ node. lapse_shows node (lapse_for (cell_calls s.cluster s.me met) now (keep_of s.cluster) node)) nodes)

forgets_show : (epoch : Option Epoch) (cells : List ℕ) → list_all shows_only (forget_notes epoch cells) ≡ true
forgets_show None cells = refl
forgets_show (Some epoch) [] = refl
forgets_show (Some epoch) (cell ∷ cells) = forgets_show (Some epoch) cells

lost_shows : (lost : Option Epoch) → list_all shows_only (lost_note lost) ≡ true
lost_shows None = refl
lost_shows (Some epoch) = refl

ticks_show : (c : Cluster) (met : List Met) (now : ℕ) → list_all shows_only (tick_notes c met now) ≡ true
ticks_show c met now =
    both_show (forget_notes (epoch_after (start_of met) c.cells (coordinator_calls c met)) (filter (is_cell_in (tick_told c met now).forgot) (cells c))) (lost_note (tick_told c met now).lost)
    (forgets_show (epoch_after (start_of met) c.cells (coordinator_calls c met)) (filter (is_cell_in (tick_told c met now).forgot) (cells c))) (lost_shows (tick_told c met now).lost)

pub leases_show : (s : Setting) (met : List Met) (now : ℕ) → list_all shows_only (lease_notes s met now) ≡ true
leases_show s met now = where_so (is_full s.cluster s.me) (tick_notes s.cluster met now) (ticks_show s.cluster met now)
