-- What a node's journal keeps of what it met and sent.
use Rattle.std.specs.Prelude.{Option, Some, None}
use Rattle.mega_read.specs.of_wire.declared.message.Body.{Body}
use Rattle.mega_read.specs.of_wire.declared.message.Body.TheVariants.{Accepted, Promise as Promised}
use Rattle.mega_replica.specs.of_wal.declared.item.JournalItem.{JournalItem}
use Rattle.mega_replica.specs.of_wal.declared.item.JournalItem.TheVariants.{Promise, Accept, Decide, Grant, Lapse}
use Rattle.mega_rules.specs.Met.{Met, Grants, Lapses, Decides}

-- the promise or the vote that a message tells of its sender
abbrev pub kept_of_body : Body → Option JournalItem
kept_of_body (Promised op group position ballot report) = Some (Promise group position ballot)
kept_of_body (Accepted op group position ballot entry) = Some (Accept group position ballot entry)
kept_of_body _ = None

-- grants, lapses and decisions
abbrev pub kept_of_note : Met → Option JournalItem
kept_of_note (Decides group n entry) = Some (Decide group (record { 0 = n }) entry)
kept_of_note (Grants node epoch) = Some (Grant (record { 0 = node }) epoch)
kept_of_note (Lapses node epoch) = Some (Lapse (record { 0 = node }) epoch)
kept_of_note _ = None
