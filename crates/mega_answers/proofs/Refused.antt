-- How a run of a transaction or a batch fares, by why it was refused.
use Rattle.std.proofs.Common.{◌≡◌, ◌≤◌, ℕ, refl, ap, subst, sym}
use Rattle.std.specs.Prelude.{Option, Some, None, Result, Ok, Err, true}
use Rattle.mega_base.specs.Causes.{Rose}
use Rattle.mega_disk.specs.Fuse.{MayBurn, Burns}
use Rattle.mega_disk.specs.Images.{LeavesOnly, Within}
use Rattle.mega_disk.specs.declared.versions.StoreError.{StoreError}
use Rattle.mega_disk.specs.declared.versions.StoreError.TheVariants.{DiskFault, Full, BadRecord, NoMemory}
use Rattle.mega_disk.specs.declared.versions.Versions.{Ghosts}
use Rattle.mega_outcome.specs.declared.answer.Turn.{Turn}
use Rattle.mega_outcome.specs.declared.answer.Turn.TheVariants as turn
use Rattle.mega_outcome.specs.Looks.{Looked, Looks}
use Rattle.mega_replica.specs.Used.{NothingSpilled, StoreUsed}
use Rattle.mega_answers.specs.declared.fault.ActFault.{ActFault}
use Rattle.mega_answers.specs.declared.fault.ActFault.TheVariants as act
use Rattle.mega_answers.specs.Faults.{error_of, fault_of, of_store}

-- the store's error that a refusal is, where it is one
abbrev pub by_fault : Option ActFault → Option StoreError
by_fault None = None
by_fault (Some fault) = of_store fault

abbrev pub by_turn : Turn → Option StoreError
by_turn refusal = by_fault (fault_of refusal)

abbrev pub refused_by : {T : Type 0} → Result T Turn → Option StoreError
refused_by (Ok x) = None
refused_by (Err refusal) = by_turn refusal

disk_turn : (refusal : Turn) → by_turn refusal ≡ Some DiskFault → refusal ≡ turn.DiskFault
disk_turn (turn.OtherGroup i) is = cc
disk_turn (turn.BadRow i) is = cc
disk_turn (turn.CheckFailed i) is = cc
disk_turn (turn.NoRow i) is = cc
disk_turn (turn.Overflow i) is = cc
disk_turn (turn.TooLarge n) is = cc
disk_turn turn.DiskFault is = refl
disk_turn (turn.Full n) is = cc
disk_turn (turn.BadRecord n) is = cc
disk_turn turn.NoMemory is = cc

full_turn : (refusal : Turn) (n : ℕ) → by_turn refusal ≡ Some (Full n) → refusal ≡ turn.Full n
full_turn (turn.OtherGroup i) n is = cc
full_turn (turn.BadRow i) n is = cc
full_turn (turn.CheckFailed i) n is = cc
full_turn (turn.NoRow i) n is = cc
full_turn (turn.Overflow i) n is = cc
full_turn (turn.TooLarge m) n is = cc
full_turn turn.DiskFault n is = cc
full_turn (turn.Full m) n is = cc
full_turn (turn.BadRecord m) n is = cc
full_turn turn.NoMemory n is = cc

bad_turn : (refusal : Turn) (n : ℕ) → by_turn refusal ≡ Some (BadRecord n) → refusal ≡ turn.BadRecord n
bad_turn (turn.OtherGroup i) n is = cc
bad_turn (turn.BadRow i) n is = cc
bad_turn (turn.CheckFailed i) n is = cc
bad_turn (turn.NoRow i) n is = cc
bad_turn (turn.Overflow i) n is = cc
bad_turn (turn.TooLarge m) n is = cc
bad_turn turn.DiskFault n is = cc
bad_turn (turn.Full m) n is = cc
bad_turn (turn.BadRecord m) n is = cc
bad_turn turn.NoMemory n is = cc

disk_result : {T : Type 0} (result : Result T Turn) → refused_by result ≡ Some DiskFault → result ≡ Err turn.DiskFault
disk_result (Ok x) is = cc
disk_result (Err refusal) is = ap Err (disk_turn refusal is)

full_result : {T : Type 0} (result : Result T Turn) (n : ℕ) → refused_by result ≡ Some (Full n) → result ≡ Err (turn.Full n)
full_result (Ok x) n is = cc
full_result (Err refusal) n is = ap Err (full_turn refusal n is)

bad_result : {T : Type 0} (result : Result T Turn) (n : ℕ) → refused_by result ≡ Some (BadRecord n) → result ≡ Err (turn.BadRecord n)
bad_result (Ok x) n is = cc
bad_result (Err refusal) n is = ap Err (bad_turn refusal n is)

-- calls that wrote nothing to the device
unspilled_by : {V : Type 0} (store : Ghosts V) (old new : V)
    → store.cleaned new ≡ store.cleaned old
    → store.marked new ≡ store.marked old
    → LeavesOnly store.moment store.opened_since old new (store.may_open old)
    → Within (store.may_open old) (store.may_open new)
    → NothingSpilled store old new
unspilled_by store old new cleaned marks any_moment within = record {
  cleaned = cleaned;
  marks = marks;
  within = within;
  later = any_moment.later;
  before = any_moment.before;
}

-- what a run says of its device, as one record
pub used_run : {V T : Type 0} (store : Ghosts V) (result : Result T Turn) (old new : V)
    → store.cleaned new ≡ store.cleaned old
    → store.marked new ≡ store.marked old
    → LeavesOnly store.moment store.opened_since old new (store.may_open old)
    → Within (store.may_open old) (store.may_open new)
    → store.faults old ≤ store.faults new
    → ((n : ℕ) → store.is_bad new n → store.is_bad old n)
    → MayBurn (store.fuse_left old) (store.fuse_left new)
    → (store.fails_by_fuse old ≡ true → store.fails_by_fuse new ≡ true)
    → (result ≡ Err turn.DiskFault → Rose (store.faults old) (store.faults new))
    → ((n : ℕ) → result ≡ Err (turn.BadRecord n) → store.is_bad old n)
    → ((n : ℕ) → result ≡ Err (turn.Full n) → ⊥)
    → (store.fails_by_fuse old ≡ true → result ≡ Err turn.DiskFault → Burns (store.fuse_left old) (store.fuse_left new))
    → StoreUsed store (refused_by result) old new
used_run store result old new cleaned marks any_moment within later bad_stays may_burn by_fuse cause bad never_full burns = record {
  unspilled = unspilled_by store old new cleaned marks any_moment within;
  later = later;
  bad_stays = bad_stays;
  may_burn = may_burn;
  by_fuse = by_fuse;
  cause = λ is. cause (disk_result result is);
  bad = λ n is. bad n (bad_result result n is);
  never_full = λ n is. never_full n (full_result result n is);
  burns = λ set is. burns set (disk_result result is);
}

-- a refusal that is a fault, and one that is none
pub used_fault : {V : Type 0} (store : Ghosts V) (refusal : Turn) (fault : ActFault) (old new : V) → Some fault ≡ fault_of refusal → StoreUsed store (by_turn refusal) old new → StoreUsed store (of_store fault) old new
used_fault store refusal fault old new is used = subst (λ (found : Option ActFault). StoreUsed store (by_fault found) old new) (sym is) used

pub used_turned : {V : Type 0} (store : Ghosts V) (refusal : Turn) (old new : V) → None ≡ fault_of refusal → StoreUsed store (by_turn refusal) old new → StoreUsed store None old new
used_turned store refusal old new is used = subst (λ (found : Option ActFault). StoreUsed store (by_fault found) old new) (sym is) used

-- calls that went well on their device, before one that failed for no fault of it
pub used_apart : {V : Type 0} (store : Ghosts V) (failed : Option StoreError) (old new : V) → failed ≡ None → StoreUsed store None old new → StoreUsed store failed old new
used_apart store failed old new is used = subst (λ (error : Option StoreError). StoreUsed store error old new) (sym is) used

-- one that found no memory
pub used_unkept : {V : Type 0} (store : Ghosts V) (fault : ActFault) (old new : V) → fault ≡ act.NoMemory → StoreUsed store None old new → StoreUsed store (of_store fault) old new
used_unkept store fault old new is used = used_apart store (of_store fault) old new (ap of_store is) used

-- ---- looks

looked_unspilled : {V : Type 0} (store : Ghosts V) (old new : V) → Looked store old new → NothingSpilled store old new
looked_unspilled store old new looked = unspilled_by store old new looked.cleaned looked.marks looked.any_moment looked.within

pub used_looks : {V : Type 0} (store : Ghosts V) (failed : Option StoreError) (old new : V) → Looks store failed old new → StoreUsed store failed old new
used_looks store failed old new looks = record {
  unspilled = looked_unspilled store old new looks.looked;
  later = looks.looked.later;
  bad_stays = looks.looked.bad_stays;
  may_burn = looks.looked.may_burn;
  by_fuse = looks.looked.by_fuse;
  cause = looks.cause;
  bad = looks.bad;
  never_full = looks.never_full;
  burns = looks.burns;
}

looked_used : {V : Type 0} (store : Ghosts V) (old new : V) → Looked store old new → StoreUsed store None old new
looked_used store old new looked = record {
  unspilled = looked_unspilled store old new looked;
  later = looked.later;
  bad_stays = looked.bad_stays;
  may_burn = looked.may_burn;
  by_fuse = looked.by_fuse;
  cause = λ is. absurd (none_is is);
  bad = λ n is. absurd (none_is is);
  never_full = λ n is. none_is is;
  burns = λ set is. absurd (none_is is);
}
  where
    none_is : {error : StoreError} → None ≡ Some error → ⊥
    none_is is = cc

-- a look that failed
pub used_error : {V : Type 0} (store : Ghosts V) (error : StoreError) (fault : ActFault) (old new : V) → of_store fault ≡ error_of error → Looks store (Some error) old new → StoreUsed store (of_store fault) old new
used_error store error fault old new is looks = subst (λ (failed : Option StoreError). StoreUsed store failed old new) (sym is) (by error looks)
  where
    by : (error : StoreError) → Looks store (Some error) old new → StoreUsed store (error_of error) old new
    by DiskFault looks = used_looks store (Some DiskFault) old new looks
    by (Full n) looks = used_looks store (Some (Full n)) old new looks
    by (BadRecord n) looks = used_looks store (Some (BadRecord n)) old new looks
    by NoMemory looks = looked_used store old new looks.looked
