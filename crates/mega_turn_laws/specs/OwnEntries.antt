-- Logs and datagrams that tell only of entries which write rows of their own groups.
use Rattle.std.specs.Prelude.{◌≡◌, ℕ, List, [], ◌∷◌, Option, Ok}
use Rattle.mega_base.specs.Reading.{whole_of}
use Rattle.mega_link.specs.Datagrams.{Datagram}
use Rattle.mega_schema.specs.declared.schema.Schema.{Schema}
use Rattle.mega_wal.specs.declared.item.JournalItem.{JournalItem}
use Rattle.mega_wal.specs.declared.item.JournalItem.TheVariants.{Accept, Decide}
use Rattle.mega_wire.specs.declared.message.Message.{Message}
use Rattle.mega_wire.specs.Messages.{message_at}
use Rattle.mega_own_laws.specs.Entries.{IsOwn}
use Rattle.mega_own_laws.specs.Messages.{TellsOwn}
use Rattle.mega_serve.specs.Turns.{IfSome}

-- the entries that a journal has as accepted or decided
abbrev pub ItemsOwn : Schema → List JournalItem → Type 0
ItemsOwn schema [] = Unit {0}
ItemsOwn schema (Accept group position ballot entry ∷ items) = IsOwn schema group entry × ItemsOwn schema items
ItemsOwn schema (Decide group position entry ∷ items) = IsOwn schema group entry × ItemsOwn schema items
ItemsOwn schema (_ ∷ items) = ItemsOwn schema items

-- those of the message that these bytes are, if they are one
abbrev pub BytesOwn : Schema → List ℕ → Type 0
BytesOwn schema bytes = (message : Message) → whole_of message_at bytes ≡ Ok message → TellsOwn schema message

abbrev pub DatagramsOwn : Schema → List (ℕ × Option Datagram) → Type 0
DatagramsOwn schema [] = Unit {0}
DatagramsOwn schema (one ∷ given) = IfSome (λ (datagram : Datagram). BytesOwn schema datagram.1) one.1 × DatagramsOwn schema given
