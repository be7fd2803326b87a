-- The epochs that cells and coordinators hold are of the format, where what was met is.
use Rattle.std.proofs.Common.{◌≡◌, ℕ, ◌+◌, ◌==◌, ◌&&◌, ◌≤◌, Bool, true, false, not, cond, List, [], ◌∷◌, Option, Some, None, refl, sym, subst, arith}
use Rattle.std.specs.Prelude.{option_map}
use Rattle.std.proofs.lemmas.Bool.Decides.{nat_tests}
use Rattle.mega_base.specs.declared.names.Epoch.{Epoch}
use Rattle.mega_base.specs.Codec.{IsOption}
use Rattle.mega_base.specs.Names.{IsEpoch, IsU32}
use Rattle.mega_cluster.specs.declared.cluster.Cluster.{Cluster}
use Rattle.mega_wire.specs.declared.message.Message.{Message}
use Rattle.mega_wire.specs.declared.message.Body.{Body}
use Rattle.mega_wire.specs.declared.message.Body.TheVariants.{Acquire}
use Rattle.mega_wire.specs.Messages.{IsMessage}
use Rattle.mega_wal.specs.History.{after_grant, after_lapse, is_epoch_below, is_same_epoch}
use Rattle.mega_locks.specs.declared.asked.Asked.{Asked}
use Rattle.mega_locks.specs.declared.asked.Asked.TheVariants.{Granted, Renewed, GreaterHeld, Over}
use Rattle.mega_locks.specs.declared.lock.Lock.{Lock}
use Rattle.mega_locks.specs.declared.lock.Lock.TheVariants.{Free, Held, Ended}
use Rattle.mega_locks.specs.declared.lock.Term.{Term}
use Rattle.mega_locks.specs.History.{Call, Reopens, Asks, Ticks as CellTicks, first_term, lapse_for, lock_of, nodes, renewal}
use Rattle.mega_locks.specs.Rule.{after_answer, after_lapse as lapsed, answer, asked, is_above, is_same, lapse, opened, reopened}
use Rattle.mega_coordinator.specs.declared.lease.Lease.{Lease}
use Rattle.mega_coordinator.specs.Lease.{counts, next_count, next_lease, past_ends, tick_ends}
use Rattle.mega_coordinator.specs.History.{Call as CoordinatorCall, Ticks as CoordinatorTicks, Grants as CoordinatorGrants, Passes, epoch_after, lease_of}
use Rattle.mega_voter.specs.of_rules.Met.{Met, Starts, Ticks, Takes, Grants, Lapses}
use Rattle.mega_voter.specs.of_rules.Members.{is_cell, keep_of}
use Rattle.mega_voter.specs.of_rules.Clock.{clock_of, is_opening}
use Rattle.mega_voter.specs.of_rules.Locks.{asked_for, asked_in, cell_calls, grant_note, if_opening, lapse_note, lapses_at, last_grant, reopening, reopenings}
use Rattle.mega_format_laws.specs.Rounds.{Each, IsMember}
use Rattle.mega_format_laws.specs.Histories.{IsItem, IsMet}
use Rattle.mega_format_laws.proofs.Each.{each_both, each_flat, either}

-- ---- what a cell granted

abbrev IsGranted : Option (Epoch × Bool) → Type 0
IsGranted None = Unit {0}
IsGranted (Some last) = IsEpoch last.0

grant_formed : (last : Option (Epoch × Bool)) (epoch : Epoch) → IsGranted last → IsEpoch epoch → IsGranted (after_grant last epoch)
grant_formed None epoch h e = e
grant_formed (Some last) epoch h e = either IsGranted (is_epoch_below last.0 epoch) (Some (epoch, true)) (Some last) e h

lapse_formed : (last : Option (Epoch × Bool)) (epoch : Epoch) → IsGranted last → IsGranted (after_lapse last epoch)
lapse_formed None epoch h = tt
lapse_formed (Some last) epoch h = either IsGranted (is_same_epoch last.0 epoch) (Some (last.0, false)) (Some last) h h

last_formed : (met : List Met) (node : ℕ) → IsMet met → IsGranted (last_grant met node)
last_formed [] node h = tt
last_formed (Grants other epoch ∷ before) node h = either IsGranted (other == node) (after_grant (last_grant before node) epoch) (last_grant before node)
    (grant_formed (last_grant before node) epoch (last_formed before node h.1) (h.0).1) (last_formed before node h.1)
last_formed (Lapses other epoch ∷ before) node h = either IsGranted (other == node) (after_lapse (last_grant before node) epoch) (last_grant before node)
    (lapse_formed (last_grant before node) epoch (last_formed before node h.1)) (last_formed before node h.1)
last_formed (_ ∷ before) node h = last_formed before node h.1

-- ---- the calls of a cell

abbrev IsCall : Call → Type 0
IsCall (Reopens node epoch held) = IsEpoch epoch
IsCall (Asks node epoch now keep) = IsEpoch epoch
IsCall (CellTicks now keep) = Unit {0}

reopening_formed : (node : ℕ) (last : Option (Epoch × Bool)) → IsGranted last → Each IsCall (reopening node last)
reopening_formed node None h = tt
reopening_formed node (Some last) h = (h, tt)

members : Each IsMember nodes
members = ((omega arith, omega arith), ((omega arith, omega arith), ((omega arith, omega arith), ((omega arith, omega arith), ((omega arith, omega arith), ((omega arith, omega arith), ((omega arith, omega arith), ((omega arith, omega arith), ((omega arith, omega arith), tt)))))))))

reopenings_formed : (met : List Met) → IsMet met → Each IsCall (reopenings met)
reopenings_formed met h = each_flat IsMember IsCall (λ node. reopening node (last_grant met node)) (λ node _. reopening_formed node (last_grant met node) (last_formed met node h)) nodes members

asked_formed_by : (c : Cluster) (me now from to : ℕ) (body : Body) → IsMessage (record { from = from; to = to; body = body }) → Each IsCall (asked_in c me now (record { from = from; to = to; body = body }))
asked_formed_by c me now from to (Acquire cell epoch clock) h = either (Each IsCall) (cell == me && is_cell c me) (Asks from epoch now (keep_of c) ∷ []) [] (h.body.1.0, tt) tt
asked_formed_by c me now from to _ h = tt

asked_formed : (c : Cluster) (me now : ℕ) (m : Message) → IsMessage m → Each IsCall (asked_in c me now m)
asked_formed c me now m h = asked_formed_by c me now m.from m.to m.body (record { from = h.from; to = h.to; body = h.body })

opening_formed : (before : List Met) (call : Call) → IsCall call → Each IsCall (if_opening before call)
opening_formed before call h = either (Each IsCall) (is_opening before) (call ∷ []) [] (h, tt) tt

calls_formed : (c : Cluster) (me : ℕ) (met : List Met) → IsMet met → Each IsCall (cell_calls c me met)
calls_formed c me [] h = tt
calls_formed c me (Starts start ∷ before) h = reopenings_formed before h.1
calls_formed c me (Grants node epoch ∷ before) h = each_both IsCall (if_opening before (Reopens node epoch true)) (cell_calls c me before) (opening_formed before (Reopens node epoch true) (h.0).1) (calls_formed c me before h.1)
calls_formed c me (Lapses node epoch ∷ before) h = each_both IsCall (if_opening before (Reopens node epoch false)) (cell_calls c me before) (opening_formed before (Reopens node epoch false) (h.0).1) (calls_formed c me before h.1)
calls_formed c me (Ticks now ∷ before) h = (tt, calls_formed c me before h.1)
calls_formed c me (Takes m ∷ before) h = each_both IsCall (asked_in c me (clock_of before) m) (cell_calls c me before) (asked_formed c me (clock_of before) m h.0) (calls_formed c me before h.1)
calls_formed c me (_ ∷ before) h = calls_formed c me before h.1

-- ---- what a cell keeps

abbrev IsLock : Lock → Type 0
IsLock Free = Unit {0}
IsLock (Held epoch renewed) = IsEpoch epoch
IsLock (Ended epoch) = IsEpoch epoch

opened_formed : (epoch : Epoch) (held : Bool) → IsEpoch epoch → IsLock (opened epoch held)
opened_formed epoch true h = h
opened_formed epoch false h = h

reopened_formed : (lock : Lock) (epoch : Epoch) (held : Bool) → IsLock lock → IsEpoch epoch → IsLock (reopened lock epoch held)
reopened_formed Free epoch held h e = opened_formed epoch held e
reopened_formed (Held g renewed) epoch held h e = either IsLock (is_above epoch g) (opened epoch held) _ (opened_formed epoch held e)
    (either IsLock (is_same epoch g && not held) (Ended epoch) (Held g renewed) e h)
reopened_formed (Ended g) epoch held h e = either IsLock (is_above epoch g) (opened epoch held) (Ended g) (opened_formed epoch held e) h

after_formed : (answered : Asked) (lock : Lock) (epoch : Epoch) (renewed : Option Term) → IsLock lock → IsEpoch epoch → IsLock (after_answer answered lock epoch renewed)
after_formed Granted lock epoch renewed h e = e
after_formed Renewed lock epoch renewed h e = e
after_formed (GreaterHeld g) lock epoch renewed h e = h
after_formed (Over g) lock epoch renewed h e = h

lapsed_formed : (found : Option Epoch) (lock : Lock) → IsOption IsEpoch found → IsLock lock → IsLock (lapsed found lock)
lapsed_formed None lock f h = h
lapsed_formed (Some epoch) lock f h = f

lapse_is : (first : Term) (now : ℕ) (lock : Lock) → IsLock lock → IsOption IsEpoch (lapse first now lock)
lapse_is first now (Held epoch renewed) h = either (IsOption IsEpoch) _ (Some epoch) None h tt
lapse_is first now Free h = tt
lapse_is first now (Ended epoch) h = tt

lock_formed : (calls : List Call) (node : ℕ) → Each IsCall calls → IsLock (lock_of calls node)
lock_formed [] node h = tt
lock_formed (Reopens other epoch held ∷ before) node h = either IsLock (other == node) (reopened (lock_of before node) epoch held) (lock_of before node)
    (reopened_formed (lock_of before node) epoch held (lock_formed before node h.1) h.0) (lock_formed before node h.1)
lock_formed (Asks other epoch now keep ∷ before) node h = either IsLock (other == node) (asked (lock_of before node) epoch (renewal before now keep)) (lock_of before node)
    (after_formed (answer (lock_of before node) epoch) (lock_of before node) epoch (renewal before now keep) (lock_formed before node h.1) h.0) (lock_formed before node h.1)
lock_formed (CellTicks now keep ∷ before) node h = lapsed_formed (lapse (first_term before now keep) now (lock_of before node)) (lock_of before node)
    (lapse_is (first_term before now keep) now (lock_of before node) (lock_formed before node h.1)) (lock_formed before node h.1)

abbrev pub IsAsked : Asked → Type 0
IsAsked Granted = Unit {0}
IsAsked Renewed = Unit {0}
IsAsked (GreaterHeld greatest) = IsEpoch greatest
IsAsked (Over greatest) = IsEpoch greatest

answer_formed : (lock : Lock) (epoch : Epoch) → IsLock lock → IsAsked (answer lock epoch)
answer_formed Free epoch h = tt
answer_formed (Held g renewed) epoch h = either IsAsked (is_above epoch g) Granted _ tt (either IsAsked (is_same epoch g) Renewed (GreaterHeld g) tt h)
answer_formed (Ended g) epoch h = either IsAsked (is_above epoch g) Granted (Over g) tt h

pub asked_for_formed : (c : Cluster) (me : ℕ) (met : List Met) (node : ℕ) (epoch : Epoch) → IsMet met → IsAsked (asked_for c me met node epoch)
asked_for_formed c me met node epoch h = answer_formed (lock_of (cell_calls c me met) node) epoch (lock_formed (cell_calls c me met) node (calls_formed c me met h))

-- ---- what a cell notes

pub grant_note_formed : (node : ℕ) (epoch : Epoch) (answered : Asked) → IsMember node → IsEpoch epoch → IsMet (grant_note node epoch answered)
grant_note_formed node epoch Granted m e = ((m, e), tt)
grant_note_formed node epoch Renewed m e = tt
grant_note_formed node epoch (GreaterHeld greatest) m e = tt
grant_note_formed node epoch (Over greatest) m e = tt

lapse_note_formed : (node : ℕ) (found : Option Epoch) → IsMember node → IsOption IsEpoch found → IsMet (lapse_note node found)
lapse_note_formed node None m f = tt
lapse_note_formed node (Some epoch) m f = ((m, f), tt)

pub lapses_formed : (c : Cluster) (me : ℕ) (met : List Met) (now : ℕ) → IsMet met → IsMet (lapses_at c me met now)
lapses_formed c me met now h = each_flat IsMember IsItem (λ node. lapse_note node (lapse_for (cell_calls c me met) now (keep_of c) node))
    (λ node m. lapse_note_formed node (lapse_for (cell_calls c me met) now (keep_of c) node) m
    (lapse_is (first_term (cell_calls c me met) now (keep_of c)) now (lock_of (cell_calls c me met) node) (lock_formed (cell_calls c me met) node (calls_formed c me met h)))) nodes members

-- ---- the epoch of a coordinator

abbrev IsCount : Option ℕ → Type 0
IsCount count = IsOption IsU32 count

next_formed : (count : Option ℕ) → IsCount count → IsCount (next_count count)
next_formed None h = tt
next_formed (Some count) h = go (count == 4294967295) refl
  where
    more : (n : ℕ) → n ≤ 4294967295 → (n == 4294967295) ≡ false → n + 1 ≤ 4294967295
    more n le e = grind (arith, nat_tests)

    go : (t : Bool) → (count == 4294967295) ≡ t → IsCount (cond t None (Some (count + 1)))
    go true e = tt
    go false e = (omega arith, more count h.1 e)

abbrev IsLease : Lease → Type 0
IsLease lease = IsCount lease.count

ended_formed : (t : Bool) (lease other : Lease) → IsLease lease → other.count ≡ lease.count → IsLease (cond t (next_lease lease) other)
ended_formed true lease other h e = next_formed lease.count h
ended_formed false lease other h e = subst IsCount (sym e) h

lease_formed : (start cells : ℕ) (calls : List CoordinatorCall) → IsLease (lease_of start cells calls)
lease_formed start cells [] = (omega arith, omega arith)
lease_formed start cells (CoordinatorTicks now ∷ before) = ended_formed (tick_ends cells (lease_of start cells before) now) (lease_of start cells before) _ (lease_formed start cells before) refl
lease_formed start cells (CoordinatorGrants cell epoch until now ∷ before) = either IsLease (counts start cells (lease_of start cells before) cell epoch until now) _ _ (lease_formed start cells before) (lease_formed start cells before)
lease_formed start cells (Passes epoch ∷ before) = ended_formed (past_ends start (lease_of start cells before) epoch) (lease_of start cells before) (lease_of start cells before) (lease_formed start cells before) refl
lease_formed start cells (_ ∷ before) = lease_formed start cells before

counted_formed : (start : ℕ) (count : Option ℕ) → IsU32 start → IsCount count → IsOption IsEpoch (option_map (λ count. record { start = start; count = count }) count)
counted_formed start None s h = tt
counted_formed start (Some count) s h = (s, h)

pub epoch_formed : (start cells : ℕ) (calls : List CoordinatorCall) → IsU32 start → IsOption IsEpoch (epoch_after start cells calls)
epoch_formed start cells calls s = counted_formed start (lease_of start cells calls).count s (lease_formed start cells calls)
