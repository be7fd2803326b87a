-- Rows that are spilled: what they hold then, what a crash leaves, and how the device below them fared.
use Rattle.std.proofs.Common.{◌≡◌, inl, ℕ, ◌<◌, ◌≤◌, ◌^◌, true, [], List, Option, None, Some, Result, Ok, Err, ap, subst, sym, arith}
use Rattle.std.specs.Result.{result_err}
use Rattle.mega_base.specs.Causes.{Rose}
use Rattle.mega_disk.specs.Fuse.{Burns, MayBurn}
use Rattle.mega_disk.specs.Images.{LeavesOnly}
use Rattle.mega_disk.specs.VersionMaps.{Cleaned, Drops, Marks, SameVersions, Stored, Versions}
use Rattle.mega_disk.specs.declared.records.Records.{Ghosts as RecordGhosts}
use Rattle.mega_disk.specs.declared.versions.StoreError.{StoreError}
use Rattle.mega_disk.specs.declared.versions.StoreError.TheVariants.{BadRecord, DiskFault, Full, NoMemory}
use Rattle.mega_disk.specs.declared.versions.Versions.{Ghosts}
use Rattle.mega_handler.specs.Named.{Meanings}
use Rattle.mega_replica.specs.declared.rows.StoredRows.{StoredRows}
use Rattle.mega_replica.specs.Following.{Follows, progress_at}
use Rattle.mega_replica.proofs.Growing.{follows_same}
use Rattle.mega_rules.specs.Logs.{log_of}
use Rattle.mega_rules.specs.Operations.{Node as RuleNode}
use Rattle.mega_core.specs.of_node_events.declared.fault.StepFault.{StepFault}
use Rattle.mega_core.specs.of_node_events.declared.fault.StepFault.TheVariants as step
use Rattle.mega_core.specs.declared.node.Node.{Node}
use Rattle.mega_core.specs.Faults.{of_store}
use Rattle.mega_core.specs.of_step_parts.Behind.{Keeps}
use Rattle.mega_durable.specs.declared.fault.UpFault.{UpFault}
use Rattle.mega_durable.specs.declared.fault.UpFault.TheVariants.{Cut, Log, Step as Failed, Unformed}
use Rattle.mega_durable.specs.Spilling.{MaySpill, SpillUsed, step_fault_of}
use Rattle.mega_durable.specs.Standing.{IsUp}
use Rattle.mega_durable.proofs.Stepping.{burns_not}

-- where nothing is cleaned, a spill leaves all versions
pub drops_none : (cleaned : List Cleaned) (old new : Versions) → cleaned ≡ [] → Drops cleaned old new → SameVersions old new
drops_none cleaned old new none drops = λ key p. (subst (λ (cs : List Cleaned). Drops cs old new) none drops).kept key p tt

-- a spill that was not made leaves what there was
pub spilled_not : {V : Type 0} (store : Ghosts V) (rows : V) (marks : Marks) → ((found : Stored) → store.opened_since rows (store.moment rows) found → store.may_open rows found)
    → LeavesOnly store.moment store.opened_since rows rows (MaySpill store rows marks)
spilled_not store rows marks only_now = record { later = omega arith; each = λ found left. inl (only_now found left); before = λ t found le left. inl left }

-- ---- the device
-- nothing was called, and nothing failed
pub used_here : {V : Type 0} (store : Ghosts V) (rows : V) → SpillUsed store None rows rows
used_here store rows = record {
  later = omega arith;
  may_burn = burns_not (store.fuse_left rows);
  by_fuse = λ by. by;
  cause = λ is. absurd (cc);
  full = λ n is. absurd (cc);
  burns = λ by is. absurd (cc);
}

-- nothing was called, for want of memory
pub used_short : {V : Type 0} (store : Ghosts V) (rows : V) → SpillUsed store (Some NoMemory) rows rows
used_short store rows = record {
  later = omega arith;
  may_burn = burns_not (store.fuse_left rows);
  by_fuse = λ by. by;
  cause = λ is. absurd (cc);
  full = λ n is. absurd (cc);
  burns = λ by is. absurd (cc);
}

error_in : Option StoreError → StoreError
error_in None = NoMemory
error_in (Some error) = error

error_same : {one two : StoreError} → Some one ≡ Some two → one ≡ two
unfolding error_in
error_same is = ap error_in is

-- a spill that was made or refused fared as its calls did
pub used_made : {V : Type 0} (store : Ghosts V) (made : Result (Unit {0}) StoreError) (length : ℕ) (old new : V) → store.faults old ≤ store.faults new → MayBurn (store.fuse_left old) (store.fuse_left new)
    → (store.fails_by_fuse old ≡ true → store.fails_by_fuse new ≡ true) → (made ≡ Err DiskFault → Rose (store.faults old) (store.faults new))
    → ((n : ℕ) → made ≡ Err (Full n) → (n ≡ length) × (2 ^ 40 < n)) → (store.fails_by_fuse old ≡ true → made ≡ Err DiskFault → Burns (store.fuse_left old) (store.fuse_left new))
    → SpillUsed store (result_err made) old new
used_made store (Ok done) length old new later may_burn by_fuse cause full burns = record {
  later = later;
  may_burn = may_burn;
  by_fuse = by_fuse;
  cause = λ is. absurd (cc);
  full = λ n is. absurd (cc);
  burns = λ by is. absurd (cc);
}
used_made store (Err error) length old new later may_burn by_fuse cause full burns = record {
  later = later;
  may_burn = may_burn;
  by_fuse = by_fuse;
  cause = λ is. cause (ap Err (error_same is));
  full = λ n is. (full n (ap Err (error_same is))).1;
  burns = λ by is. burns by (ap Err (error_same is));
}

-- why the rows were not spilled, told as the fault of a step
pub full_of : (error : StoreError) (n : ℕ) → step_fault_of error ≡ step.Full n → error ≡ Full n
full_of DiskFault n is = absurd (cc)
full_of (Full length) n is = cc
full_of (BadRecord number) n is = absurd (cc)
full_of NoMemory n is = absurd (cc)

pub bad_of : (error : StoreError) (n : ℕ) → step_fault_of error ≡ step.BadRecord n → error ≡ BadRecord n
bad_of DiskFault n is = absurd (cc)
bad_of (Full length) n is = absurd (cc)
bad_of (BadRecord number) n is = cc
bad_of NoMemory n is = absurd (cc)

fault_in : Result (Unit {0}) UpFault → StepFault
fault_in (Ok done) = step.NoMemory
fault_in (Err (Failed fault)) = fault
fault_in (Err (Cut cut)) = step.NoMemory
fault_in (Err (Log fault)) = step.NoMemory
fault_in (Err Unformed) = step.NoMemory

pub failed_same : {one two : StepFault} → ◌≡◌ {A = Result (Unit {0}) UpFault} (Err (Failed one)) (Err (Failed two)) → one ≡ two
unfolding fault_in
failed_same is = ap fault_in is

pub used_told : {V : Type 0} (store : Ghosts V) (error : StoreError) (old new : V) → SpillUsed store (Some error) old new → SpillUsed store (of_store (step_fault_of error)) old new
used_told store DiskFault old new used = used
used_told store (Full length) old new used = used
used_told store (BadRecord number) old new used = used
used_told store NoMemory old new used = record {
  later = used.later;
  may_burn = used.may_burn;
  by_fuse = used.by_fuse;
  cause = λ is. absurd (cc);
  full = λ n is. absurd (cc);
  burns = λ by is. absurd (cc);
}

-- ---- the node that stands on the rows
pub keeps_up : {R V : Type 0} (store : RecordGhosts R) (version : V → Versions) (h : Meanings) (one : Node R V) (node : RuleNode) → IsUp store version h one node
    → Keeps one.replica.voter.logs.kept (version one.replica.rows.rows) (progress_at one.replica.rows.progress) node.met node.stored
keeps_up store version h one node up = record { tells = up.stands.within.tells; follows = up.stands.within.follows }

pub still_up : {R V : Type 0} (store : RecordGhosts R) (version : V → Versions) (h : Meanings) (one : Node R V) (rows : StoredRows V) (node : RuleNode)
    → SameVersions (version one.replica.rows.rows) (version rows.rows) → rows.progress ≡ one.replica.rows.progress → IsUp store version h one node
    → IsUp store version h (record one { replica = record one.replica { rows = rows } }) node
still_up store version h one rows node same progress up = record {
  stands = record {
    within = record {
      kind = up.stands.within.kind;
      tells = up.stands.within.tells;
      leased = up.stands.within.leased;
      follows = subst (λ (all : _). Follows (version rows.rows) (progress_at all) (log_of node.met) node.stored) (sym progress)
          (follows_same (version one.replica.rows.rows) (version rows.rows) (progress_at one.replica.rows.progress) (log_of node.met) node.stored same up.stands.within.follows);
      marked = up.stands.within.marked;
      noted = up.stands.within.noted;
      opened = up.stands.within.opened;
      begun_is = up.stands.within.begun_is;
      about = up.stands.within.about;
      built = up.stands.within.built;
    };
    lagging = up.stands.lagging;
  };
  empty = up.empty;
  ready = up.ready;
  holds = up.holds;
  granted = up.granted;
}
