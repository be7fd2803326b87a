-- What a backup of a node's log comes to.
use Rattle.std.specs.Prelude.{◌≡◌, ℕ, nat_le, Bool, true, if◌then◌else◌, List, take, Option, Some, None, Result, Ok, Err}
use Rattle.mega_base.specs.declared.names.GroupId.{GroupId}
use Rattle.mega_cluster.specs.declared.cluster.Cluster.{Cluster}
use Rattle.mega_header.specs.Parts.{cluster_in}
use Rattle.mega_header.specs.Known.{IfKnown}
use Rattle.mega_checkpoint.specs.Format.{list_of}
use Rattle.mega_wal.specs.declared.item.JournalItem.{JournalItem}
use Rattle.mega_wal.specs.History.{prefix_of}
use Rattle.mega_wal.specs.Records.{first_bad, history_of}
use Rattle.mega_replica.specs.Stored.{log_in}
use Rattle.mega_backup.specs.Texts.{backup_text}
use Rattle.mega_backup_words.specs.declared.stop.Stop.TheVariants.{Header, Short, BadRecord}
use Rattle.mega_backup_words.specs.Endings.{Ending, ending_of}

-- what a group's log comes to, of which the first p entries are wanted
abbrev pub log_ending : GroupId → ℕ → List JournalItem → Ending
log_ending group p items =
    if nat_le p (prefix_of items group) then record { status = 0; text = backup_text group p (take p (log_in items group)) }
    else ending_of (Short (record { 0 = prefix_of items group }))

-- what records come to, of which the first that is none of the format has this number
abbrev pub records_ending : GroupId → ℕ → Option ℕ → List JournalItem → Ending
records_ending group p None items = log_ending group p items
records_ending group p (Some number) items = ending_of BadRecord

-- what the cluster of the header and the records of the log come to
abbrev pub backup_of : GroupId → ℕ → Result Cluster ℕ → List (List ℕ) → Ending
backup_of group p (Err rule) records = ending_of (Header rule)
backup_of group p (Ok cluster) records = records_ending group p (first_bad records) (history_of records)

-- the records that a device holds, where that is told
abbrev pub AreHeld : Bool → List ℕ → List (List ℕ) → Type 0
AreHeld told seen records = told ≡ true → records ≡ list_of seen

-- this is said of what a backup comes to, by the header of an input, for at least so many nodes, and by the records of a log
pub record BacksUp (group : GroupId) (p : ℕ) (least : ℕ) (known : Option (List ℕ)) (told : Bool) (seen : List ℕ) (Says : Ending → Type 0) : Type 0 where
  pub header : Result Cluster ℕ
  pub headed : IfKnown known (λ input. cluster_in least input ≡ header)
  pub records : List (List ℕ)
  pub held : AreHeld told seen records
  pub said : Says (backup_of group p header records)
