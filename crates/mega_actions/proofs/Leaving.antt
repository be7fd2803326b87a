-- What calls leave of a replica one after another.
use Rattle.std.proofs.Common.{◌∙◌, ℕ, List, Option, None, refl}
use Rattle.mega_disk.specs.declared.versions.StoreError.{StoreError}
use Rattle.mega_disk.specs.declared.versions.Versions.{Ghosts}
use Rattle.mega_handler.specs.Named.{Meaning}
use Rattle.mega_replica.specs.declared.rows.StoredRows.{StoredRows}
use Rattle.mega_replica.specs.Used.{StoreUsed}
use Rattle.mega_replica.proofs.Using.{used_here, used_then}
use Rattle.mega_answers.specs.of_leases.declared.leases.Leases.{Leases}
use Rattle.mega_actions.specs.declared.replica.Replica.{Replica}
use Rattle.mega_actions.specs.Leaves.{Leaves}

-- nothing was called
pub leaves_here : {R V : Type 0} (store : Ghosts V) (meant : List ℕ → Option Meaning) (one : Replica R V) → Leaves store None meant meant one one
leaves_here store meant one = record { members = refl; me = refl; voter = refl; indexed = refl; used = used_here store one.rows.rows; handlers = refl }

-- calls that came about, and then others
pub leaves_then : {R V : Type 0} (store : Ghosts V) (failed : Option StoreError) (meant between means : List ℕ → Option Meaning) (old mid new : Replica R V) → Leaves store None meant between old mid
    → Leaves store failed between means mid new → Leaves store failed meant means old new
leaves_then store failed meant between means old mid new first second = record {
  members = second.members ∙ first.members;
  me = second.me ∙ first.me;
  voter = second.voter ∙ first.voter;
  indexed = second.indexed ∙ first.indexed;
  used = used_then store failed old.rows.rows mid.rows.rows new.rows.rows first.used second.used;
  handlers = second.handlers ∙ first.handlers;
}

-- calls on its leases and its rows that came about, and then others
pub leaves_after : {R V : Type 0} (store : Ghosts V) (failed : Option StoreError) (meant means : List ℕ → Option Meaning) (old : Replica R V) (leases : Leases) (rows : StoredRows V) (new : Replica R V)
    → StoreUsed store None old.rows.rows rows.rows → Leaves store failed meant means (record old { leases = leases; rows = rows }) new → Leaves store failed meant means old new
leaves_after store failed meant means old leases rows new used rest = record {
  members = rest.members;
  me = rest.me;
  voter = rest.voter;
  indexed = rest.indexed;
  used = used_then store failed old.rows.rows rows.rows new.rows.rows used rest.used;
  handlers = rest.handlers;
}
