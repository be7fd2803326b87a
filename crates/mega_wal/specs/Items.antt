-- The format of a journal's items, and of a record, which is a list of them.
use Rattle.std.specs.Prelude.{◌≡◌, ℕ, ◌==◌, ◌≤◌, if◌then◌else◌, List, [], ◌∷◌, ◌++◌, Ok}
use Rattle.mega_base.specs.Reading.{Place, Read, ◌>>=◌, byte_in, list_in}
use Rattle.mega_base.specs.Pairs.{pair_at}
use Rattle.mega_base.specs.Codec.{number_text, list_text, IsList, nested_text, IsNested}
use Rattle.mega_base.specs.Names.{u32_at, u32_text, IsU32, node_at, node_text, IsNode, position_text, IsPositionIn, epoch_at, epoch_text, IsEpoch, group_at, group_text, IsGroup}
use Rattle.mega_base.specs.declared.names.NodeId.{NodeId}
use Rattle.mega_base.specs.declared.names.Position.{Position}
use Rattle.mega_base.specs.declared.names.Epoch.{Epoch}
use Rattle.mega_base.specs.declared.names.GroupId.{GroupId}
use Rattle.mega_acceptor.specs.of_ballot.Ballots.{ballot_at, ballot_text, IsBallot}
use Rattle.mega_acceptor.specs.of_ballot.declared.ballot.Ballot.{Ballot}
use Rattle.mega_acceptor.specs.of_entry.Entries.{entry_text, IsEntry}
use Rattle.mega_acceptor.specs.of_entry.declared.content.Content.{Content}
pub use Rattle.mega_acceptor.specs.of_entry.Entries.{decide_fields, entry_field_at, log_position_at as item_position_at}
use Rattle.mega_wal.specs.declared.item.JournalItem.{JournalItem}
use Rattle.mega_wal.specs.declared.item.JournalItem.TheVariants.{Start, Promise, Accept, Decide, Grant, Lapse, Starts}

-- the fields of each kind, in order

abbrev pub promise_fields : Place → Read (GroupId × (Position × Ballot))
promise_fields = pair_at group_at (pair_at item_position_at ballot_at)

abbrev pub accept_fields : Place → Read (GroupId × (Position × (Ballot × Content)))
accept_fields = pair_at group_at (pair_at item_position_at (pair_at ballot_at entry_field_at))

abbrev pub lock_fields : Place → Read (NodeId × Epoch)
lock_fields = pair_at node_at epoch_at

-- what an item of that kind says
unfoldable pub item_of : ℕ → Place → Read JournalItem
item_of kind p =
    if kind == 1 then Ok (Start, p)
    else if kind == 2 then (promise_fields p >>= λ x. Ok (Promise x.0.0 x.0.1.0 x.0.1.1, x.1))
    else if kind == 3 then (accept_fields p >>= λ x. Ok (Accept x.0.0 x.0.1.0 x.0.1.1.0 x.0.1.1.1, x.1))
    else if kind == 4 then (decide_fields p >>= λ x. Ok (Decide x.0.0 x.0.1.0 x.0.1.1, x.1))
    else if kind == 5 then (lock_fields p >>= λ x. Ok (Grant x.0.0 x.0.1, x.1))
    else if kind == 6 then (lock_fields p >>= λ x. Ok (Lapse x.0.0 x.0.1, x.1))
    else (u32_at p >>= λ x. Ok (Starts x.0, x.1))

-- a kind, and what follows it
unfoldable pub item_at : Place → Read JournalItem
item_at p =
    byte_in 1 7 p >>= λ kind.
    item_of kind.0 kind.1

abbrev pub kind_of : JournalItem → ℕ
kind_of Start = 1
kind_of (Promise group position ballot) = 2
kind_of (Accept group position ballot entry) = 3
kind_of (Decide group position entry) = 4
kind_of (Grant node epoch) = 5
kind_of (Lapse node epoch) = 6
kind_of (Starts starts) = 7

-- the fields' texts, with this text for an entry
abbrev pub fields_with : (Content → List ℕ) → JournalItem → List ℕ
fields_with entry_field Start = []
fields_with entry_field (Promise group position ballot) = group_text group ++ (position_text position ++ ballot_text ballot)
fields_with entry_field (Accept group position ballot entry) = group_text group ++ (position_text position ++ (ballot_text ballot ++ entry_field entry))
fields_with entry_field (Decide group position entry) = group_text group ++ (position_text position ++ entry_field entry)
fields_with entry_field (Grant node epoch) = node_text node ++ epoch_text epoch
fields_with entry_field (Lapse node epoch) = node_text node ++ epoch_text epoch
fields_with entry_field (Starts starts) = u32_text starts

-- the fields' ranges, with this one for an entry
abbrev pub IsItemWith : (Content → Type 0) → JournalItem → Type 0
IsItemWith IsEntryField Start = Unit {0}
IsItemWith IsEntryField (Promise group position ballot) = IsGroup group × (IsPositionIn 1 1000000 position × IsBallot ballot)
IsItemWith IsEntryField (Accept group position ballot entry) = IsGroup group × (IsPositionIn 1 1000000 position × (IsBallot ballot × IsEntryField entry))
IsItemWith IsEntryField (Decide group position entry) = IsGroup group × (IsPositionIn 1 1000000 position × IsEntryField entry)
IsItemWith IsEntryField (Grant node epoch) = IsNode node × IsEpoch epoch
IsItemWith IsEntryField (Lapse node epoch) = IsNode node × IsEpoch epoch
IsItemWith IsEntryField (Starts starts) = IsU32 starts

-- the text of an entry has at most 65,536 bytes, and its length stands before it
abbrev pub fields_text : JournalItem → List ℕ
fields_text item = fields_with (nested_text entry_text) item

abbrev pub item_text : JournalItem → List ℕ
item_text item = kind_of item ∷ fields_text item

-- the items that have a text
abbrev pub IsItem : JournalItem → Type 0
IsItem item = IsItemWith (IsNested 65536 entry_text IsEntry) item

-- the text of an item in which a length up to 65,536 stands before an entry, whatever the length of its text
abbrev pub OpensItem : List ℕ → Type 0
OpensItem text = (item : JournalItem) × (n : ℕ) × (n ≤ 65536) × IsItemWith IsEntry item × (kind_of item ∷ fields_with (λ e. number_text 4 n ++ entry_text e) item ≡ text)

-- a record: the count of its items, and the items
abbrev pub record_at : Place → Read (List JournalItem)
record_at p = list_in 0 4294967295 item_at p

abbrev pub record_text : List JournalItem → List ℕ
record_text items = list_text item_text items

abbrev pub IsRecord : List JournalItem → Type 0
IsRecord items = IsList 0 4294967295 IsItem items
