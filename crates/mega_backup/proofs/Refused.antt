-- A key whose put is too large is that of the whole, behind the puts that were found before it.
use Rattle.std.proofs.Common.{◌≡◌, ℕ, List, ◌∷◌, Err, ap, sym, ◌∙◌}
use Rattle.mega_base.specs.declared.names.GroupId.{GroupId}
use Rattle.mega_base.specs.declared.values.Row.{Row}
use Rattle.mega_schema.specs.declared.schema.Schema.{Schema}
use Rattle.mega_index.specs.Rows.{Listed}
use Rattle.mega_outcome.specs.declared.transaction.Transaction.{Transaction}
use Rattle.mega_backup.specs.declared.fault.BackupFault.{BackupFault}
use Rattle.mega_backup.specs.declared.fault.BackupFault.TheVariants.{Short, Malformed, TooLarge, SinkFault, NoMemory}
use Rattle.mega_backup.specs.Faults.{GivesOrKey}
use Rattle.mega_backup.specs.Restoring.{Adds, prepended, puts_of}

pub refused : {X : Type 0} (view : X → List Transaction) (s : Schema) (group : GroupId) (key : List ℕ) (row : Row) (listed all : Listed) (old new : List Transaction) (fault : BackupFault)
    → Adds s group key row old new (Err fault) → prepended old (puts_of s group ((key, row) ∷ listed)) ≡ puts_of s group all → GivesOrKey {X = X} view (Err fault) (puts_of s group all)
refused view s group key row listed all old new (Short has) adds same = absurd adds
refused view s group key row listed all old new (Malformed line) adds same = absurd adds
refused view s group key row listed all old new (TooLarge large) adds same = sym same ∙ ap (prepended old) (adds (puts_of s group listed))
refused view s group key row listed all old new SinkFault adds same = absurd adds
refused view s group key row listed all old new NoMemory adds same = tt
