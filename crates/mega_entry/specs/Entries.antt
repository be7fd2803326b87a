-- The format of log entries.
use Rattle.std.specs.Prelude.{◌≡◌, ℕ, zero, suc, ◌+◌, ◌-◌, ◌≤◌, ◌==◌, if◌then◌else◌, List, [], ◌∷◌, ◌++◌, length, sum_by, Option, Some, None, IsSome, Ok}
use Rattle.std.specs.List.{flat_map}
use Rattle.mega_base.specs.Reading.{Place, Read, ◌>>=◌, byte_in, number_in, list_in, option_at, nested_at}
use Rattle.mega_base.specs.Pairs.{pair_at}
use Rattle.mega_base.specs.Codec.{IsBetween, one_byte, IsList, list_text, option_text, IsOption, bytes_text}
use Rattle.mega_base.specs.Names.{u32_at, u32_text, IsU32, node_at, node_text, IsNode, position_at, position_in, position_text, IsPosition, op_at, op_text, IsOp, string_at, IsString, group_at, group_text, IsGroup}
use Rattle.mega_base.specs.Utf8.{text_in, IsTextIn}
use Rattle.mega_base.specs.Values.{row_at, row_text, IsRow}
use Rattle.mega_base.specs.declared.names.GroupId.{GroupId}
use Rattle.mega_base.specs.declared.names.OpId.{OpId}
use Rattle.mega_base.specs.declared.names.Position.{Position}
pub use Rattle.mega_base.specs.Names.{greatest_u32 as most_items}
use Rattle.mega_entry.specs.declared.content.Write.{Write}
use Rattle.mega_entry.specs.declared.content.Name.{Name}
use Rattle.mega_entry.specs.declared.content.Send.{Send}
use Rattle.mega_entry.specs.declared.content.Enter.{Enter}
use Rattle.mega_entry.specs.declared.content.Cut.{Cut}
use Rattle.mega_entry.specs.declared.content.Content.{Content}

-- a key, and a row or none
unfoldable pub write_at : Place → Read Write
write_at p =
    string_at p >>= λ key.
    option_at row_at key.1 >>= λ row.
    Ok (record { key = key.0; row = row.0 }, row.1)

abbrev pub write_text : Write → List ℕ
write_text write = bytes_text write.key ++ option_text row_text write.row

abbrev pub IsWrite : Write → Type 0
IsWrite write = IsString write.key × IsOption IsRow write.row

-- a group, a position and a place
unfoldable pub name_at : Place → Read Name
name_at p =
    group_at p >>= λ group.
    position_at group.1 >>= λ position.
    u32_at position.1 >>= λ place.
    Ok (record { group = group.0; position = position.0; place = place.0 }, place.1)

abbrev pub name_text : Name → List ℕ
name_text name = group_text name.group ++ (position_text name.position ++ u32_text name.place)

abbrev pub IsName : Name → Type 0
IsName name = IsGroup name.group × IsPosition name.position × IsU32 name.place

-- a queue's name: 1 to 64 bytes of UTF-8
abbrev pub queue_at : Place → Read (List ℕ)
queue_at p = text_in 1 64 p

abbrev pub IsQueue : List ℕ → Type 0
IsQueue queue = IsTextIn 1 64 queue

-- the receiver's group, a queue and a payload
unfoldable pub send_at : Place → Read Send
send_at p =
    group_at p >>= λ to.
    queue_at to.1 >>= λ queue.
    string_at queue.1 >>= λ payload.
    Ok (record { to = to.0; queue = queue.0; payload = payload.0 }, payload.1)

abbrev pub send_text : Send → List ℕ
send_text send = group_text send.to ++ (bytes_text send.queue ++ bytes_text send.payload)

abbrev pub IsSend : Send → Type 0
IsSend send = IsGroup send.to × IsQueue send.queue × IsString send.payload

-- a message's name, a queue and a payload
unfoldable pub enter_at : Place → Read Enter
enter_at p =
    name_at p >>= λ name.
    queue_at name.1 >>= λ queue.
    string_at queue.1 >>= λ payload.
    Ok (record { name = name.0; queue = queue.0; payload = payload.0 }, payload.1)

abbrev pub enter_text : Enter → List ℕ
enter_text enter = name_text enter.name ++ (bytes_text enter.queue ++ bytes_text enter.payload)

abbrev pub IsEnter : Enter → Type 0
IsEnter enter = IsName enter.name × IsQueue enter.queue × IsString enter.payload

-- an index from low to high, and numbers of writes and of sends in their ranges
unfoldable pub cut_in : ℕ → ℕ → ℕ → ℕ → ℕ → ℕ → Place → Read Cut
cut_in low high least_writes most_writes least_sends most_sends p =
    byte_in low high p >>= λ index.
    number_in 4 least_writes most_writes index.1 >>= λ writes.
    number_in 4 least_sends most_sends writes.1 >>= λ sends.
    Ok (record { index = index.0; writes = writes.0; sends = sends.0 }, sends.1)

abbrev pub cut_text : Cut → List ℕ
cut_text cut = one_byte cut.index ++ (u32_text cut.writes ++ u32_text cut.sends)

abbrev pub IsCutIn : ℕ → ℕ → ℕ → ℕ → ℕ → ℕ → Cut → Type 0
IsCutIn low high least_writes most_writes least_sends most_sends cut =
    IsBetween low high cut.index × IsBetween least_writes most_writes cut.writes × IsBetween least_sends most_sends cut.sends

-- what a cut has at least of what is left, where k cuts follow: the last one has all
abbrev pub least_part : ℕ → ℕ → ℕ
least_part k left = if k == 0 then left else 0

-- cuts whose indexes rise from low on, to 15, and whose numbers add up to writes and sends
unfoldable pub cuts_of : ℕ → ℕ → ℕ → ℕ → Place → Read (List Cut)
cuts_of zero low writes sends p = Ok ([], p)
cuts_of (suc k) low writes sends p =
    cut_in low (15 - k) (least_part k writes) writes (least_part k sends) sends p >>= λ cut.
    cuts_of k (cut.0.index + 1) (writes - cut.0.writes) (sends - cut.0.sends) cut.1 >>= λ cuts.
    Ok (cut.0 ∷ cuts.0, cuts.1)

-- a single cut has not the index 0
abbrev pub first_index : ℕ → ℕ
first_index count = if count == 1 then 1 else 0

-- the cuts of that many writes and sends, at least one
unfoldable pub cuts_at : ℕ → ℕ → Place → Read (List Cut)
cuts_at writes sends p =
    number_in 4 1 16 p >>= λ count.
    cuts_of count.0 (first_index count.0) writes sends count.1

abbrev pub RisesFrom : ℕ → List Cut → Type 0
RisesFrom low [] = Unit {0}
RisesFrom low (cut ∷ cuts) = IsBetween low 15 cut.index × RisesFrom (cut.index + 1) cuts

-- at least one cut; the indexes rise, and a single one is not 0; the numbers add up
pub record AreCuts (writes sends : ℕ) (cuts : List Cut) : Type 0 where
  pub some : 1 ≤ length cuts
  pub rising : RisesFrom (first_index (length cuts)) cuts
  pub all_writes : sum_by (λ (cut : Cut). cut.writes) cuts ≡ writes
  pub all_sends : sum_by (λ (cut : Cut). cut.sends) cuts ≡ sends

-- an id that is there
unfoldable pub some_op_at : Place → Read (Option OpId)
some_op_at p =
    byte_in 1 1 p >>= λ b.
    op_at b.1 >>= λ op.
    Ok (Some op.0, op.1)

-- after the version 1: an entry with no cuts
unfoldable pub plain_at : Place → Read Content
plain_at p =
    option_at op_at p >>= λ id.
    node_at id.1 >>= λ leader.
    list_in 0 most_items write_at leader.1 >>= λ writes.
    list_in 0 most_items send_at writes.1 >>= λ sends.
    list_in 0 most_items enter_at sends.1 >>= λ enters.
    list_in 0 most_items name_at enters.1 >>= λ handles.
    Ok (record { id = id.0; leader = leader.0; writes = writes.0; sends = sends.0; enters = enters.0; handles = handles.0; cuts = [] }, handles.1)

-- after the version 2: an entry with cuts, which has an id, no enters and no handles
unfoldable pub batch_at : Place → Read Content
batch_at p =
    some_op_at p >>= λ id.
    node_at id.1 >>= λ leader.
    list_in 0 most_items write_at leader.1 >>= λ writes.
    list_in 0 most_items send_at writes.1 >>= λ sends.
    list_in 0 0 enter_at sends.1 >>= λ enters.
    list_in 0 0 name_at enters.1 >>= λ handles.
    cuts_at (length writes.0) (length sends.0) handles.1 >>= λ cuts.
    Ok (record { id = id.0; leader = leader.0; writes = writes.0; sends = sends.0; enters = enters.0; handles = handles.0; cuts = cuts.0 }, cuts.1)

-- a version, 1 or 2, and the entry
unfoldable pub entry_at : Place → Read Content
entry_at p =
    byte_in 1 2 p >>= λ version.
    if version.0 == 1 then plain_at version.1 else batch_at version.1

-- the version: 1 where there are no cuts
abbrev pub version_of : List Cut → ℕ
version_of [] = 1
version_of (cut ∷ cuts) = 2

-- the cuts, where there are some
abbrev pub cuts_text : List Cut → List ℕ
cuts_text [] = []
cuts_text (cut ∷ cuts) = list_text cut_text (cut ∷ cuts)

abbrev pub content_text : Content → List ℕ
content_text e =
    option_text op_text e.id ++ (node_text e.leader ++ (list_text write_text e.writes ++ (list_text send_text e.sends
    ++ (list_text enter_text e.enters ++ (list_text name_text e.handles ++ cuts_text e.cuts)))))

abbrev pub entry_text : Content → List ℕ
entry_text e = one_byte (version_of e.cuts) ++ content_text e

-- the text in three parts
abbrev pub head_text : Content → List ℕ
head_text e = one_byte (version_of e.cuts) ++ (option_text op_text e.id ++ node_text e.leader)

abbrev pub changes_text : Content → List ℕ
changes_text e = list_text write_text e.writes ++ list_text send_text e.sends

abbrev pub marks_text : Content → List ℕ
marks_text e = list_text enter_text e.enters ++ (list_text name_text e.handles ++ cuts_text e.cuts)

-- an entry with cuts has an id, no enters and no handles
abbrev pub HasCuts : Content → List Cut → Type 0
HasCuts e [] = Unit {0}
HasCuts e (cut ∷ cuts) = IsSome e.id × (length e.enters ≡ 0) × (length e.handles ≡ 0) × AreCuts (length e.writes) (length e.sends) (cut ∷ cuts)

-- the entries that have a text
pub record IsEntry (e : Content) : Type 0 where
  pub id : IsOption IsOp e.id
  pub leader : IsNode e.leader
  pub writes : IsList 0 most_items IsWrite e.writes
  pub sends : IsList 0 most_items IsSend e.sends
  pub enters : IsList 0 most_items IsEnter e.enters
  pub handles : IsList 0 most_items IsName e.handles
  pub cuts : HasCuts e e.cuts

-- fields of messages and of journal items: positions from 1 to 1,000,000; an entry, which is the length of its text, up to 65,536, and the text

abbrev pub log_position_at : Place → Read Position
log_position_at p = position_in 1 1000000 p

abbrev pub entry_field_at : Place → Read Content
entry_field_at p = nested_at 65536 entry_at p

abbrev pub decide_fields : Place → Read (GroupId × (Position × Content))
decide_fields = pair_at group_at (pair_at log_position_at entry_field_at)

-- an operation's entry that holds nothing
abbrev pub entry_by : OpId → Content
entry_by op = record { id = Some op; leader = op.node; writes = []; sends = []; enters = []; handles = []; cuts = [] }
