-- The format of messages.
use Rattle.std.specs.Prelude.{◌≡◌, ℕ, ◌+◌, ◌≤◌, ◌==◌, if◌then◌else◌, List, [], ◌∷◌, ◌++◌, length, Option, Some, None, Ok}
use Rattle.mega_base.specs.Reading.{Place, Read, ◌>>=◌, byte_in, number_in, option_at}
use Rattle.mega_base.specs.Pairs.{pair_at, pair_text, IsPair}
use Rattle.mega_base.specs.Codec.{number_text, IsBetween, one_byte, option_text, IsOption, bytes_text, nested_text, IsNested}
use Rattle.mega_base.specs.Names.{u64_at, u64_text, IsU64, node_at, node_text, IsNode, position_in, position_text, IsPositionIn, epoch_at, epoch_text, IsEpoch, op_at, op_text, IsOp, string_at, IsString, group_at, group_text, IsGroup}
use Rattle.mega_base.specs.declared.names.NodeId.{NodeId}
use Rattle.mega_base.specs.declared.names.Position.{Position}
use Rattle.mega_base.specs.declared.names.Epoch.{Epoch}
use Rattle.mega_base.specs.declared.names.OpId.{OpId}
use Rattle.mega_base.specs.declared.names.GroupId.{GroupId}
use Rattle.mega_ballot.specs.Ballots.{ballot_at, ballot_text, IsBallot}
use Rattle.mega_ballot.specs.declared.ballot.Ballot.{Ballot}
use Rattle.mega_entry.specs.Entries.{entry_text, IsEntry}
use Rattle.mega_entry.specs.declared.content.Content.{Content}
pub use Rattle.mega_entry.specs.Entries.{decide_fields, entry_field_at, log_position_at as message_position_at}
use Rattle.mega_wire.specs.declared.message.Message.{Message}
use Rattle.mega_wire.specs.declared.message.Body.{Body}
use Rattle.mega_wire.specs.declared.message.Body.TheVariants.{Where, Top, Accept, Accepted, Refused, Prepare, Promise, Invalidate, Invalidated, Dead, Held, Unheld, Decide, Fetch, Have, HaveNot, Acquire, Granted, Past, Request, Reply}

-- positions up to 1,000,000, of a top also 0
abbrev pub top_position_at : Place → Read Position
top_position_at p = position_in 0 1000000 p

-- a lock cell, from 1 to 5
abbrev pub cell_at : Place → Read ℕ
cell_at p = byte_in 1 5 p

-- milliseconds, up to 10^12
abbrev pub clock_at : Place → Read ℕ
clock_at p = number_in 8 0 1000000000000 p

-- the fields of each kind, in order

abbrev pub where_fields : Place → Read (OpId × GroupId)
where_fields = pair_at op_at group_at

abbrev pub top_fields : Place → Read (OpId × (GroupId × Position))
top_fields = pair_at op_at (pair_at group_at top_position_at)

abbrev pub accept_fields : Place → Read (OpId × (GroupId × (Position × (Ballot × Content))))
accept_fields = pair_at op_at (pair_at group_at (pair_at message_position_at (pair_at ballot_at entry_field_at)))

abbrev pub refused_fields : Place → Read (OpId × (GroupId × (Position × (Ballot × (Ballot × (Option Content))))))
refused_fields = pair_at op_at (pair_at group_at (pair_at message_position_at (pair_at ballot_at (pair_at ballot_at (option_at entry_field_at)))))

abbrev pub prepare_fields : Place → Read (OpId × (GroupId × (Position × Ballot)))
prepare_fields = pair_at op_at (pair_at group_at (pair_at message_position_at ballot_at))

abbrev pub promise_fields : Place → Read (OpId × (GroupId × (Position × (Ballot × (Option (Ballot × Content))))))
promise_fields = pair_at op_at (pair_at group_at (pair_at message_position_at (pair_at ballot_at (option_at (pair_at ballot_at entry_field_at)))))

abbrev pub invalidate_fields : Place → Read (OpId × (GroupId × Position))
invalidate_fields = pair_at op_at (pair_at group_at message_position_at)

abbrev pub dead_fields : Place → Read (OpId × (ℕ × NodeId))
dead_fields = pair_at op_at (pair_at cell_at node_at)

abbrev pub have_fields : Place → Read (OpId × (GroupId × (Position × Content)))
have_fields = pair_at op_at (pair_at group_at (pair_at message_position_at entry_field_at))

abbrev pub acquire_fields : Place → Read (ℕ × (Epoch × ℕ))
acquire_fields = pair_at cell_at (pair_at epoch_at clock_at)

abbrev pub past_fields : Place → Read (ℕ × (Epoch × Epoch))
past_fields = pair_at cell_at (pair_at epoch_at epoch_at)

abbrev pub request_fields : Place → Read (ℕ × (List ℕ))
request_fields = pair_at u64_at string_at

-- what a message of that kind says
unfoldable pub body_of : ℕ → Place → Read Body
body_of kind p =
    if kind == 1 then (where_fields p >>= λ x. Ok (Where x.0.0 x.0.1, x.1))
    else if kind == 2 then (top_fields p >>= λ x. Ok (Top x.0.0 x.0.1.0 x.0.1.1, x.1))
    else if kind == 3 then (accept_fields p >>= λ x. Ok (Accept x.0.0 x.0.1.0 x.0.1.1.0 x.0.1.1.1.0 x.0.1.1.1.1, x.1))
    else if kind == 4 then (accept_fields p >>= λ x. Ok (Accepted x.0.0 x.0.1.0 x.0.1.1.0 x.0.1.1.1.0 x.0.1.1.1.1, x.1))
    else if kind == 5 then (refused_fields p >>= λ x. Ok (Refused x.0.0 x.0.1.0 x.0.1.1.0 x.0.1.1.1.0 x.0.1.1.1.1.0 x.0.1.1.1.1.1, x.1))
    else if kind == 6 then (prepare_fields p >>= λ x. Ok (Prepare x.0.0 x.0.1.0 x.0.1.1.0 x.0.1.1.1, x.1))
    else if kind == 7 then (promise_fields p >>= λ x. Ok (Promise x.0.0 x.0.1.0 x.0.1.1.0 x.0.1.1.1.0 x.0.1.1.1.1, x.1))
    else if kind == 8 then (invalidate_fields p >>= λ x. Ok (Invalidate x.0.0 x.0.1.0 x.0.1.1, x.1))
    else if kind == 9 then (invalidate_fields p >>= λ x. Ok (Invalidated x.0.0 x.0.1.0 x.0.1.1, x.1))
    else if kind == 10 then (dead_fields p >>= λ x. Ok (Dead x.0.0 x.0.1.0 x.0.1.1, x.1))
    else if kind == 11 then (dead_fields p >>= λ x. Ok (Held x.0.0 x.0.1.0 x.0.1.1, x.1))
    else if kind == 12 then (dead_fields p >>= λ x. Ok (Unheld x.0.0 x.0.1.0 x.0.1.1, x.1))
    else if kind == 13 then (decide_fields p >>= λ x. Ok (Decide x.0.0 x.0.1.0 x.0.1.1, x.1))
    else if kind == 14 then (invalidate_fields p >>= λ x. Ok (Fetch x.0.0 x.0.1.0 x.0.1.1, x.1))
    else if kind == 15 then (have_fields p >>= λ x. Ok (Have x.0.0 x.0.1.0 x.0.1.1.0 x.0.1.1.1, x.1))
    else if kind == 16 then (invalidate_fields p >>= λ x. Ok (HaveNot x.0.0 x.0.1.0 x.0.1.1, x.1))
    else if kind == 17 then (acquire_fields p >>= λ x. Ok (Acquire x.0.0 x.0.1.0 x.0.1.1, x.1))
    else if kind == 18 then (acquire_fields p >>= λ x. Ok (Granted x.0.0 x.0.1.0 x.0.1.1, x.1))
    else if kind == 19 then (past_fields p >>= λ x. Ok (Past x.0.0 x.0.1.0 x.0.1.1, x.1))
    else if kind == 20 then (request_fields p >>= λ x. Ok (Request x.0.0 x.0.1, x.1))
    else (request_fields p >>= λ x. Ok (Reply x.0.0 x.0.1, x.1))

abbrev pub kind_of : Body → ℕ
kind_of (Where op group) = 1
kind_of (Top op group position) = 2
kind_of (Accept op group position ballot entry) = 3
kind_of (Accepted op group position ballot entry) = 4
kind_of (Refused op group position asked shown entry) = 5
kind_of (Prepare op group position ballot) = 6
kind_of (Promise op group position ballot accepted) = 7
kind_of (Invalidate op group position) = 8
kind_of (Invalidated op group position) = 9
kind_of (Dead op cell node) = 10
kind_of (Held op cell node) = 11
kind_of (Unheld op cell node) = 12
kind_of (Decide group position entry) = 13
kind_of (Fetch op group position) = 14
kind_of (Have op group position entry) = 15
kind_of (HaveNot op group position) = 16
kind_of (Acquire cell epoch clock) = 17
kind_of (Granted cell epoch clock) = 18
kind_of (Past cell asked greatest) = 19
kind_of (Request token json) = 20
kind_of (Reply token text) = 21

-- the fields' texts, with this text for an entry
abbrev pub body_with : (Content → List ℕ) → Body → List ℕ
body_with entry_field (Where op group) = op_text op ++ group_text group
body_with entry_field (Top op group position) = op_text op ++ (group_text group ++ position_text position)
body_with entry_field (Accept op group position ballot entry) = op_text op ++ (group_text group ++ (position_text position ++ (ballot_text ballot ++ entry_field entry)))
body_with entry_field (Accepted op group position ballot entry) = op_text op ++ (group_text group ++ (position_text position ++ (ballot_text ballot ++ entry_field entry)))
body_with entry_field (Refused op group position asked shown entry) = op_text op ++ (group_text group ++ (position_text position ++ (ballot_text asked ++ (ballot_text shown ++ option_text entry_field entry))))
body_with entry_field (Prepare op group position ballot) = op_text op ++ (group_text group ++ (position_text position ++ ballot_text ballot))
body_with entry_field (Promise op group position ballot accepted) = op_text op ++ (group_text group ++ (position_text position ++ (ballot_text ballot ++ option_text (pair_text ballot_text entry_field) accepted)))
body_with entry_field (Invalidate op group position) = op_text op ++ (group_text group ++ position_text position)
body_with entry_field (Invalidated op group position) = op_text op ++ (group_text group ++ position_text position)
body_with entry_field (Dead op cell node) = op_text op ++ (one_byte cell ++ node_text node)
body_with entry_field (Held op cell node) = op_text op ++ (one_byte cell ++ node_text node)
body_with entry_field (Unheld op cell node) = op_text op ++ (one_byte cell ++ node_text node)
body_with entry_field (Decide group position entry) = group_text group ++ (position_text position ++ entry_field entry)
body_with entry_field (Fetch op group position) = op_text op ++ (group_text group ++ position_text position)
body_with entry_field (Have op group position entry) = op_text op ++ (group_text group ++ (position_text position ++ entry_field entry))
body_with entry_field (HaveNot op group position) = op_text op ++ (group_text group ++ position_text position)
body_with entry_field (Acquire cell epoch clock) = one_byte cell ++ (epoch_text epoch ++ u64_text clock)
body_with entry_field (Granted cell epoch clock) = one_byte cell ++ (epoch_text epoch ++ u64_text clock)
body_with entry_field (Past cell asked greatest) = one_byte cell ++ (epoch_text asked ++ epoch_text greatest)
body_with entry_field (Request token json) = u64_text token ++ bytes_text json
body_with entry_field (Reply token text) = u64_text token ++ bytes_text text

-- the fields' ranges, with this one for an entry
abbrev pub IsBodyWith : (Content → Type 0) → Body → Type 0
IsBodyWith IsEntryField (Where op group) = IsOp op × IsGroup group
IsBodyWith IsEntryField (Top op group position) = IsOp op × (IsGroup group × IsPositionIn 0 1000000 position)
IsBodyWith IsEntryField (Accept op group position ballot entry) = IsOp op × (IsGroup group × (IsPositionIn 1 1000000 position × (IsBallot ballot × IsEntryField entry)))
IsBodyWith IsEntryField (Accepted op group position ballot entry) = IsOp op × (IsGroup group × (IsPositionIn 1 1000000 position × (IsBallot ballot × IsEntryField entry)))
IsBodyWith IsEntryField (Refused op group position asked shown entry) = IsOp op × (IsGroup group × (IsPositionIn 1 1000000 position × (IsBallot asked × (IsBallot shown × IsOption IsEntryField entry))))
IsBodyWith IsEntryField (Prepare op group position ballot) = IsOp op × (IsGroup group × (IsPositionIn 1 1000000 position × IsBallot ballot))
IsBodyWith IsEntryField (Promise op group position ballot accepted) = IsOp op × (IsGroup group × (IsPositionIn 1 1000000 position × (IsBallot ballot × IsOption (IsPair IsBallot IsEntryField) accepted)))
IsBodyWith IsEntryField (Invalidate op group position) = IsOp op × (IsGroup group × IsPositionIn 1 1000000 position)
IsBodyWith IsEntryField (Invalidated op group position) = IsOp op × (IsGroup group × IsPositionIn 1 1000000 position)
IsBodyWith IsEntryField (Dead op cell node) = IsOp op × (IsBetween 1 5 cell × IsNode node)
IsBodyWith IsEntryField (Held op cell node) = IsOp op × (IsBetween 1 5 cell × IsNode node)
IsBodyWith IsEntryField (Unheld op cell node) = IsOp op × (IsBetween 1 5 cell × IsNode node)
IsBodyWith IsEntryField (Decide group position entry) = IsGroup group × (IsPositionIn 1 1000000 position × IsEntryField entry)
IsBodyWith IsEntryField (Fetch op group position) = IsOp op × (IsGroup group × IsPositionIn 1 1000000 position)
IsBodyWith IsEntryField (Have op group position entry) = IsOp op × (IsGroup group × (IsPositionIn 1 1000000 position × IsEntryField entry))
IsBodyWith IsEntryField (HaveNot op group position) = IsOp op × (IsGroup group × IsPositionIn 1 1000000 position)
IsBodyWith IsEntryField (Acquire cell epoch clock) = IsBetween 1 5 cell × (IsEpoch epoch × IsBetween 0 1000000000000 clock)
IsBodyWith IsEntryField (Granted cell epoch clock) = IsBetween 1 5 cell × (IsEpoch epoch × IsBetween 0 1000000000000 clock)
IsBodyWith IsEntryField (Past cell asked greatest) = IsBetween 1 5 cell × (IsEpoch asked × IsEpoch greatest)
IsBodyWith IsEntryField (Request token json) = IsU64 token × IsString json
IsBodyWith IsEntryField (Reply token text) = IsU64 token × IsString text

-- the text of an entry has at most 65,536 bytes, and its length stands before it
abbrev pub body_text : Body → List ℕ
body_text body = body_with (nested_text entry_text) body

abbrev pub IsBody : Body → Type 0
IsBody body = IsBodyWith (IsNested 65536 entry_text IsEntry) body

-- a node from 1 to 9, or 0 for a client: only a request comes from one, and only a reply goes to one
abbrev pub least_from : ℕ → ℕ
least_from kind = if kind == 20 then 0 else 1

abbrev pub greatest_from : ℕ → ℕ
greatest_from kind = if kind == 20 then 0 else 9

abbrev pub least_to : ℕ → ℕ
least_to kind = if kind == 21 then 0 else 1

abbrev pub greatest_to : ℕ → ℕ
greatest_to kind = if kind == 21 then 0 else 9

-- after the kind: from, to, and the fields
unfoldable pub addressed_at : ℕ → Place → Read Message
addressed_at kind p =
    pair_at (byte_in (least_from kind) (greatest_from kind)) (pair_at (byte_in (least_to kind) (greatest_to kind)) (body_of kind)) p >>= λ x.
    Ok (record { from = x.0.0; to = x.0.1.0; body = x.0.1.1 }, x.1)

unfoldable pub kinded_at : Place → Read Message
kinded_at p =
    byte_in 1 21 p >>= λ kind.
    addressed_at kind.0 kind.1

-- a fixed byte, and what follows it
unfoldable pub mark_at : {A : Type 0} → ℕ → (Place → Read A) → Place → Read A
mark_at mark read p =
    byte_in mark mark p >>= λ b.
    read b.1

-- the letters M and S, the version 1, a kind, from, to, and the fields
unfoldable pub message_at : Place → Read Message
message_at p = mark_at 0x4D (mark_at 0x53 (mark_at 1 kinded_at)) p

abbrev pub message_with : (Content → List ℕ) → Message → List ℕ
message_with entry_field m = 0x4D ∷ 0x53 ∷ 1 ∷ kind_of m.body ∷ m.from ∷ m.to ∷ body_with entry_field m.body

abbrev pub message_text : Message → List ℕ
message_text m = message_with (nested_text entry_text) m

pub record IsMessageWith (IsEntryField : Content → Type 0) (m : Message) : Type 0 where
  pub from : IsBetween (least_from (kind_of m.body)) (greatest_from (kind_of m.body)) m.from
  pub to : IsBetween (least_to (kind_of m.body)) (greatest_to (kind_of m.body)) m.to
  pub body : IsBodyWith IsEntryField m.body

-- the messages that have a text
abbrev pub IsMessage : Message → Type 0
IsMessage m = IsMessageWith (IsNested 65536 entry_text IsEntry) m

-- the text of a message in which a length up to 65,536 stands before an entry, whatever the length of its text
abbrev pub OpensMessage : List ℕ → Type 0
OpensMessage text = (m : Message) × (n : ℕ) × (n ≤ 65536) × IsMessageWith IsEntry m × (message_with (λ e. number_text 4 n ++ entry_text e) m ≡ text)
