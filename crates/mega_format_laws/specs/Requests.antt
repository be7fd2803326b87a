-- What the entry format can hold, of requests and of what handlers make of messages.
use Rattle.std.specs.Prelude.{ℕ, ◌+◌, ◌≤◌, List, [], ◌∷◌, length, FitsSigned}
use Rattle.std.specs.Int.{w32, w64}
use Rattle.std.specs.Str.{IsUtf8}
use Rattle.mega_base.specs.Codec.{IsBetween, IsOption}
use Rattle.mega_base.specs.Names.{IsGroup}
use Rattle.mega_base.specs.declared.values.Cell.{Cell}
use Rattle.mega_base.specs.declared.values.Row.{Row}
use Rattle.mega_base.specs.declared.values.Value.{Value}
use Rattle.mega_base.specs.declared.values.Value.TheVariants.{Int32, Int64, Bool as Truth, Str, Raw}
use Rattle.mega_entry.specs.declared.content.Write.{Write}
use Rattle.mega_entry.specs.declared.content.Send.{Send}
use Rattle.mega_entry.specs.declared.content.Enter.{Enter}
use Rattle.mega_entry.specs.Entries.{IsEnter, enter_text}
use Rattle.mega_index.specs.Rows.{Listed}
use Rattle.mega_handler.specs.Named.{Meaning, Meanings}
use Rattle.mega_outcome.specs.declared.request.Request.{Request}
use Rattle.mega_outcome.specs.declared.request.Request.TheVariants.{Txn, Batch, Read, Find, PumpEnter, PumpHandle, Refresh}
use Rattle.mega_outcome.specs.declared.transaction.Change.{Change}
use Rattle.mega_outcome.specs.declared.transaction.Change.TheVariants.{Put, Delete, Add}
use Rattle.mega_outcome.specs.declared.transaction.Transaction.{Transaction}
use Rattle.mega_format_laws.specs.Rounds.{Each}

-- a value has a text, if that is short enough: numbers are in their ranges, texts are of UTF-8
abbrev pub IsSpelled : Value → Type 0
IsSpelled (Int32 z) = FitsSigned w32 z
IsSpelled (Int64 z) = FitsSigned w64 z
IsSpelled (Truth b) = Unit {0}
IsSpelled (Str t) = IsUtf8 t
IsSpelled (Raw b) = Unit {0}

-- a cell as a request has it: in any order, under a number that may be no property's, and with any count of values
abbrev pub IsGiven : Cell → Type 0
IsGiven cell = (cell.property ≤ 255) × Each IsSpelled cell.values

abbrev pub IsChange : Change → Type 0
IsChange (Put table row) = Each IsGiven row.cells
IsChange (Delete row) = Unit {0}
IsChange (Add row property by) = Unit {0}

-- a queue has a name of UTF-8, of any length
abbrev pub IsQueued : Send → Type 0
IsQueued send = IsUtf8 send.queue

pub record IsTransaction (t : Transaction) : Type 0 where
  pub group : IsGroup t.group
  pub writes : Each IsChange t.writes
  pub sends : Each IsQueued t.sends

abbrev pub IsRequest : Request → Type 0
IsRequest (Txn transaction) = IsTransaction transaction
IsRequest (Batch group transactions) = IsGroup group × (length transactions ≤ 16) × Each IsTransaction transactions
IsRequest (Read request) = IsGroup request.group
IsRequest (Find request) = IsOption IsGroup request.group
IsRequest PumpEnter = Unit {0}
IsRequest PumpHandle = Unit {0}
IsRequest Refresh = Unit {0}

-- cells whose numbers rise from low on, each with a value at least
abbrev pub Rises : ℕ → List Cell → Type 0
Rises low [] = Unit {0}
Rises low (cell ∷ cells) = (IsBetween low 255 cell.property × ((1 ≤ length cell.values) × Each IsSpelled cell.values)) × Rises (cell.property + 1) cells

-- a row has a text, if that is short enough
pub record IsSpelledRow (row : Row) : Type 0 where
  pub few : length row.cells ≤ 255
  pub rising : Rises 0 row.cells

abbrev pub IsRowed : Write → Type 0
IsRowed write = IsOption IsSpelledRow write.row

abbrev pub AreListed : Listed → Type 0
AreListed rows = Each (λ (one : List ℕ × Row). IsSpelledRow one.1) rows

-- rows and queues' names that a handler makes have texts, if these are short enough, where the message and the rows that it sees have
abbrev pub IsMeaning : Meaning → Type 0
IsMeaning makes = (message : Enter) (rows : Listed) → IsEnter message → AreListed rows → Each IsRowed (makes message rows).0 × Each IsQueued (makes message rows).1

abbrev pub AreHandlers : Meanings → Type 0
AreHandlers handlers = Each (λ (one : List ℕ × Meaning). IsMeaning one.1) handlers

-- a message that was entered: the entry that holds it, which has 19 bytes more at least, can stand in a message of the format
pub record IsEntered (enter : Enter) : Type 0 where
  pub message : IsEnter enter
  pub short : length (enter_text enter) + 19 ≤ 65536

-- what the types of a request keep by themselves: its numbers are in their ranges, and its texts are of UTF-8
pub record IsTyped (t : Transaction) : Type 0 where
  pub writes : Each IsChange t.writes
  pub sends : Each IsQueued t.sends

abbrev pub IsTypedRequest : Request → Type 0
IsTypedRequest (Txn transaction) = IsTyped transaction
IsTypedRequest (Batch group transactions) = Each IsTyped transactions
IsTypedRequest (Read request) = Unit {0}
IsTypedRequest (Find request) = Unit {0}
IsTypedRequest PumpEnter = Unit {0}
IsTypedRequest PumpHandle = Unit {0}
IsTypedRequest Refresh = Unit {0}
