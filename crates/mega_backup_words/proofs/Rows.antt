-- The schedule lines of a restore, which are written one after another, and how it ends.
use Rattle.std.proofs.Common.{◌≡◌, ℕ, ◌+◌, ◌≤◌, ◌<◌, List, [], ◌∷◌, ◌++◌, length, drop, get_or, Option, Some, None, Result, Ok, Err, refl, sym, ◌∙◌, ap, subst}
use Rattle.std.specs.Prelude.{OnOk, OnErr, IfErr}
use Rattle.std.specs.Io.KnownBytes.{Appends}
use Rattle.std.proofs.KnownBytes.{Keeps-refl}
use Rattle.std.proofs.lemmas.List.{drop_more}
use Rattle.std.proofs.Math.ListN.{drop_of_length-le}
use Rattle.mega_io.specs.Pieces.{AppendsFront}
use Rattle.mega_io.proofs.Writing.{Written}
use Rattle.mega_schema.specs.declared.schema.Schema.{Schema}
use Rattle.mega_outcome.specs.declared.transaction.Transaction.{Transaction}
use Rattle.mega_cluster.specs.declared.cluster.Cluster.{Cluster}
use Rattle.mega_header.specs.Parts.{cluster_in, lines_behind}
use Rattle.mega_header.specs.Known.{IfKnown}
use Rattle.mega_backup.specs.Restoring.{read_of}
use Rattle.mega_backup.specs.declared.fault.BackupFault.{BackupFault}
use Rattle.mega_backup.specs.declared.fault.BackupFault.TheVariants as fault
use Rattle.mega_backup.specs.Faults.{Refuses}
use Rattle.mega_backup.specs.Spelling.{line_of}
use Rattle.mega_backup.proofs.Streams.{wrote_all, wrote_front, wrote_on}
use Rattle.mega_backup_words.specs.declared.stop.Stop.{Stop}
use Rattle.mega_backup_words.specs.declared.stop.Stop.TheVariants.{Header, Source, Sink, Device, NoMemory, Malformed, Short, TooLarge, BadRecord}
use Rattle.mega_backup_words.specs.Endings.{Ending, Ends, ending_of}
use Rattle.mega_backup_words.specs.Inputs.{lines_text, lines_within, most_bytes, parts_ending, read_ending, restore_of}
use Rattle.mega_backup_words.specs.Stops.{IsHeaderStop, IsRestoreStop, IsRowStop, IsSinkStop, stop_of}
use Rattle.mega_backup_words.proofs.Endings.{unwritten}

-- the line of one transaction
abbrev pub row_line : Schema → Transaction → List ℕ
row_line s txn = line_of s txn ++ 10 ∷ []

next_row : (s : Schema) (txns : List Transaction) (i : ℕ) (txn : Transaction) → i < length txns → txn ≡ get_or txns i txn → lines_text s (drop i txns) ≡ row_line s txn ++ lines_text s (drop (i + 1) txns)
next_row s txns i txn within is = ap (lines_text s) (drop_more txns i txn within) ∙ ap (λ (t : Transaction). row_line s t ++ lines_text s (drop (i + 1) txns)) (sym is)

pub row_written : (a b c : Option (List ℕ)) (s : Schema) (txns : List Transaction) (i : ℕ) (txn : Transaction) → i < length txns → txn ≡ get_or txns i txn
    → Written a b (lines_text s txns) (lines_text s (drop i txns)) → Appends b c (row_line s txn) → Written a c (lines_text s txns) (lines_text s (drop (i + 1) txns))
row_written a b c s txns i txn within is written more =
    wrote_on a b c (lines_text s txns) (row_line s txn) (lines_text s (drop (i + 1) txns)) (subst (Written a b (lines_text s txns)) (next_row s txns i txn within is) written) more

pub row_cut : (a b c : Option (List ℕ)) (s : Schema) (txns : List Transaction) (i : ℕ) (txn : Transaction) → i < length txns → txn ≡ get_or txns i txn
    → Written a b (lines_text s txns) (lines_text s (drop i txns)) → AppendsFront b c (row_line s txn) → AppendsFront a c (lines_text s txns)
row_cut a b c s txns i txn within is written front =
    wrote_front a b c (lines_text s txns) (row_line s txn) (lines_text s (drop (i + 1) txns)) (subst (Written a b (lines_text s txns)) (next_row s txns i txn within is) written) front

pub rows_written : (a b : Option (List ℕ)) (s : Schema) (txns : List Transaction) (i : ℕ) → length txns ≤ i → Written a b (lines_text s txns) (lines_text s (drop i txns)) → Appends a b (lines_text s txns)
rows_written a b s txns i all written = wrote_all a b (lines_text s txns) (lines_text s (drop i txns)) written (ap (lines_text s) (drop_of_length-le txns all))

-- ---- how a restore ends

pub rows_end : (s : Schema) (answer : Result (List Transaction) BackupFault) (txns : List Transaction) (old new : Option (List ℕ)) (r : Result (Unit {0}) Stop) → answer ≡ Ok txns
    → OnOk r (Appends old new (lines_text s txns)) → OnErr r (AppendsFront old new (lines_text s txns)) → IfErr r IsSinkStop → Ends (read_ending s answer) old new r
rows_end s answer txns old new (Ok done) is all front only =
    (ap (λ (a : Result (List Transaction) BackupFault). (read_ending s a).status) is, subst (λ (a : Result (List Transaction) BackupFault). Appends old new (read_ending s a).text) (sym is) all)
rows_end s answer txns old new (Err Sink) is all front only = subst (λ (a : Result (List Transaction) BackupFault). AppendsFront old new (read_ending s a).text) (sym is) front
rows_end s answer txns old new (Err NoMemory) is all front only = subst (λ (a : Result (List Transaction) BackupFault). AppendsFront old new (read_ending s a).text) (sym is) front
rows_end s answer txns old new (Err (Header rule)) is all front only = absurd only
rows_end s answer txns old new (Err Source) is all front only = absurd only
rows_end s answer txns old new (Err Device) is all front only = absurd only
rows_end s answer txns old new (Err (Malformed line)) is all front only = absurd only
rows_end s answer txns old new (Err (Short has)) is all front only = absurd only
rows_end s answer txns old new (Err (TooLarge key)) is all front only = absurd only
rows_end s answer txns old new (Err BadRecord) is all front only = absurd only

pub fault_ends : (s : Schema) (answer : Result (List Transaction) BackupFault) (old : Option (List ℕ)) (why : BackupFault) → Refuses why answer → Ends (read_ending s answer) old old (Err (stop_of why))
fault_ends s answer old (fault.Short has) is = (ap (read_ending s) is, Keeps-refl old)
fault_ends s answer old (fault.Malformed line) is = (ap (read_ending s) is, Keeps-refl old)
fault_ends s answer old (fault.TooLarge key) is = (ap (read_ending s) is, Keeps-refl old)
fault_ends s answer old fault.SinkFault is = absurd is
fault_ends s answer old fault.NoMemory is = unwritten old (read_ending s answer).text

pub row_stop : (why : BackupFault) → IsRowStop (stop_of why)
row_stop (fault.Short has) = tt
row_stop (fault.Malformed line) = tt
row_stop (fault.TooLarge key) = tt
row_stop fault.SinkFault = tt
row_stop fault.NoMemory = tt

-- a reading meets no sink
pub no_sink : (answer : Result (List Transaction) BackupFault) (why : BackupFault) → Refuses why answer → stop_of why ≡ Sink → ⊥
no_sink answer (fault.Short has) is sinks = cc
no_sink answer (fault.Malformed line) is sinks = cc
no_sink answer (fault.TooLarge key) is sinks = cc
no_sink answer fault.SinkFault is sinks = is
no_sink answer fault.NoMemory is sinks = cc

-- ---- where the input is told

pub restored_so : (known old new : Option (List ℕ)) (at : ℕ) (c : Cluster) (lines : List (List ℕ)) (r : Result (Unit {0}) Stop) → IfKnown known (λ input. (cluster_in 1 input ≡ Ok c) × (lines_behind (lines_within most_bytes input) ≡ Some lines))
    → Ends (read_ending c.schema (read_of c.schema lines at)) old new r → IfKnown known (λ input. Ends (restore_of at input) old new r)
restored_so None old new at c lines r read ends = tt
restored_so (Some input) old new at c lines r read ends =
    subst (λ (e : Ending). Ends e old new r)
    (sym (ap (λ (header : Result Cluster ℕ). parts_ending at header (lines_behind (lines_within most_bytes input))) read.0 ∙ ap (parts_ending at (Ok c)) read.1)) ends

pub unread_so : (known old : Option (List ℕ)) (at : ℕ) (stop : Stop) → IsHeaderStop stop → ((rule : ℕ) → stop ≡ Header rule → IfKnown known (λ input. (q : ℕ) → restore_of q input ≡ ending_of (Header rule)))
    → IfKnown known (λ input. Ends (restore_of at input) old old (Err stop))
unread_so None old at stop only broken = tt
unread_so (Some input) old at (Header rule) only broken = (broken rule refl at, Keeps-refl old)
unread_so (Some input) old at Source only broken = unwritten old (restore_of at input).text
unread_so (Some input) old at NoMemory only broken = unwritten old (restore_of at input).text
unread_so (Some input) old at Sink only broken = absurd only
unread_so (Some input) old at Device only broken = absurd only
unread_so (Some input) old at (Malformed line) only broken = absurd only
unread_so (Some input) old at (Short has) only broken = absurd only
unread_so (Some input) old at (TooLarge key) only broken = absurd only
unread_so (Some input) old at BadRecord only broken = absurd only

pub told_so : (known : Option (List ℕ)) (IsSo More : List ℕ → Type 0) → ((input : List ℕ) → IsSo input → More input) → IfKnown known IsSo → IfKnown known More
told_so None IsSo More so told = tt
told_so (Some input) IsSo More so told = so input told

-- ---- which stops there are

pub row_restore : (stop : Stop) → IsRowStop stop → IsRestoreStop stop
row_restore (Header rule) only = absurd only
row_restore Source only = absurd only
row_restore Sink only = tt
row_restore Device only = absurd only
row_restore NoMemory only = tt
row_restore (Malformed line) only = tt
row_restore (Short has) only = tt
row_restore (TooLarge key) only = tt
row_restore BadRecord only = absurd only

pub header_restore : (stop : Stop) → IsHeaderStop stop → IsRestoreStop stop
header_restore (Header rule) only = tt
header_restore Source only = tt
header_restore Sink only = absurd only
header_restore Device only = absurd only
header_restore NoMemory only = tt
header_restore (Malformed line) only = absurd only
header_restore (Short has) only = absurd only
header_restore (TooLarge key) only = absurd only
header_restore BadRecord only = absurd only

pub sink_row : (stop : Stop) → IsSinkStop stop → IsRowStop stop
sink_row (Header rule) only = absurd only
sink_row Source only = absurd only
sink_row Sink only = tt
sink_row Device only = absurd only
sink_row NoMemory only = tt
sink_row (Malformed line) only = absurd only
sink_row (Short has) only = absurd only
sink_row (TooLarge key) only = absurd only
sink_row BadRecord only = absurd only
