-- What the input of a restore comes to.
use Rattle.std.specs.Prelude.{ℕ, nat_le, if◌then◌else◌, List, [], ◌∷◌, ◌++◌, length, take, Option, Some, None, Result, Ok, Err}
use Rattle.mega_io.specs.TextLines.{ended_lines, lines_of}
use Rattle.mega_cluster.specs.declared.cluster.Cluster.{Cluster}
use Rattle.mega_schema.specs.declared.schema.Schema.{Schema}
use Rattle.mega_outcome.specs.declared.transaction.Transaction.{Transaction}
use Rattle.mega_header.specs.Parts.{cluster_in, lines_behind}
use Rattle.mega_backup.specs.declared.fault.BackupFault.{BackupFault}
use Rattle.mega_backup.specs.Restoring.{read_of}
use Rattle.mega_backup.specs.Spelling.{line_of}
use Rattle.mega_backup_words.specs.Endings.{Ending, ending_of}
use Rattle.mega_backup_words.specs.Stops.{stop_of}
use Rattle.mega_backup_words.specs.declared.stop.Stop.TheVariants.{Header}

-- the lines of an input that may have so many bytes: the line in which it has more counts as an empty one, and what is behind it does not count
abbrev pub lines_within : ℕ → List ℕ → List (List ℕ)
lines_within most input = if nat_le (length input) most then lines_of input else ended_lines (take most input) ++ [] ∷ []

-- an input may have 2^30 bytes
unfoldable pub most_bytes : ℕ
most_bytes = 1073741824

-- the schedule lines of transactions
abbrev pub lines_text : Schema → List Transaction → List ℕ
lines_text s [] = []
lines_text s (txn ∷ txns) = (line_of s txn ++ 10 ∷ []) ++ lines_text s txns

-- what a reading of a backup comes to
abbrev pub read_ending : Schema → Result (List Transaction) BackupFault → Ending
read_ending s (Ok txns) = record { status = 0; text = lines_text s txns }
read_ending s (Err fault) = ending_of (stop_of fault)

-- what the cluster of the header and the lines behind the line `---` come to, at a position
abbrev pub parts_ending : ℕ → Result Cluster ℕ → Option (List (List ℕ)) → Ending
parts_ending q (Err rule) lines = ending_of (Header rule)
parts_ending q (Ok cluster) None = ending_of (Header 9)
parts_ending q (Ok cluster) (Some lines) = read_ending cluster.schema (read_of cluster.schema lines q)

-- what a restore of an input at a position comes to
abbrev pub restore_of : ℕ → List ℕ → Ending
restore_of q input = parts_ending q (cluster_in 1 input) (lines_behind (lines_within most_bytes input))
