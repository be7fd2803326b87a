-- What the rows of a backup bring back.
use Rattle.std.specs.Prelude.{◌≡◌, ℕ, List, Some, Ok, take}
use Rattle.mega_cluster.specs.declared.cluster.Cluster.{Cluster}
use Rattle.mega_header.specs.Parts.{cluster_in, lines_behind}
use Rattle.mega_index.specs.Rows.{after, no_rows}
use Rattle.mega_outcome.specs.declared.transaction.Transaction.{Transaction}
use Rattle.mega_backup.specs.declared.reading.Backup.{Backup}
use Rattle.mega_backup.specs.Lines.{backup_in}
use Rattle.mega_backup.specs.Restoring.{read_of, restored}
use Rattle.mega_backup_laws.specs.Made.{AreMade}
use Rattle.mega_backup_words.specs.Inputs.{lines_within, most_bytes}

-- of a backup whose entries a store made: the transactions that its restore writes leave, one after another over nothing, what the first entries left,
-- index rows among them
abbrev pub BringsBack : ℕ → List ℕ → Type 0
BringsBack at input =
    (c : Cluster) (lines : List (List ℕ)) (backup : Backup) (txns : List Transaction) → cluster_in 1 input ≡ Ok c → lines_behind (lines_within most_bytes input) ≡ Some lines → backup_in lines ≡ Ok backup
    → AreMade c.schema backup.group no_rows backup.entries → read_of c.schema lines at ≡ Ok txns → (key : List ℕ) → restored c.schema txns key ≡ after (take at backup.entries) no_rows key
