-- Which faults of a step are the store's.
use Rattle.std.proofs.Common.{◌≡◌, refl, subst, sym}
use Rattle.std.specs.Prelude.{Option, None}
use Rattle.mega_disk.specs.declared.versions.StoreError.{StoreError}
use Rattle.mega_disk.specs.declared.versions.Versions.{Ghosts}
use Rattle.mega_step_parts.specs.of_leases.declared.fault.TakeFault.{TakeFault}
use Rattle.mega_step_parts.specs.of_leases.declared.fault.TakeFault.TheVariants as take
use Rattle.mega_actions.specs.of_answers.declared.fault.ActFault.{ActFault}
use Rattle.mega_actions.specs.of_answers.declared.fault.ActFault.TheVariants as act
use Rattle.mega_actions.specs.of_answers.Faults.{of_store as act_store}
use Rattle.mega_replica.specs.Used.{StoreUsed}
use Rattle.mega_replica.proofs.Using.{used_here}
use Rattle.mega_node_events.specs.Faults.{fault_of, of_store, taking_fault_of}

-- none for which a message is not taken
pub taking_is_apart : (f : TakeFault) → of_store (taking_fault_of f) ≡ None
taking_is_apart take.Stranger = refl
taking_is_apart take.Late = refl
taking_is_apart take.NoMemory = refl

-- nothing was called, and what failed was not the store
pub used_apart : {V : Type 0} (store : Ghosts V) (failed : Option StoreError) (x : V) → failed ≡ None → StoreUsed store failed x x
used_apart {V} store failed x apart = subst (λ (one : Option StoreError). StoreUsed store one x x) (sym apart) (used_here store x)

-- rows that were not called at first
pub used_from : {V : Type 0} (store : Ghosts V) (failed : Option StoreError) (old mid new : V) → mid ≡ old → StoreUsed store failed mid new → StoreUsed store failed old new
used_from {V} store failed old mid new is used = subst (λ (one : V). StoreUsed store failed one new) is used

-- the store's error by which operations did not act
pub acted_store : (f : ActFault) → act_store f ≡ of_store (fault_of f)
acted_store act.DiskFault = refl
acted_store (act.Full length) = refl
acted_store (act.BadRecord number) = refl
acted_store act.Unserved = refl
acted_store act.NoMemory = refl
