-- The text of a message of the format that holds what its types do is of bytes.
use Rattle.std.proofs.Common.{ℕ, ◌≤◌, ◌==◌, ◌++◌, if◌then◌else◌, Bool, true, false, List, Option, Some, None, arith}
use Rattle.mega_base.specs.declared.names.Epoch.{Epoch}
use Rattle.mega_base.specs.declared.names.GroupId.{GroupId}
use Rattle.mega_base.specs.declared.names.NodeId.{NodeId}
use Rattle.mega_base.specs.declared.names.OpId.{OpId}
use Rattle.mega_base.specs.declared.names.Position.{Position}
use Rattle.mega_base.specs.Codec.{IsBetween, IsNested, IsOption, nested_text, one_byte, option_text}
use Rattle.mega_base.specs.Names.{IsNode, IsOp, epoch_text, group_text, node_text, op_text, position_text}
use Rattle.mega_base.specs.Pairs.{IsPair, pair_text}
use Rattle.mega_ballot.specs.declared.ballot.Ballot.{Ballot}
use Rattle.mega_ballot.specs.Ballots.{IsBallot, ballot_text}
use Rattle.mega_entry.specs.declared.content.Content.{Content}
use Rattle.mega_entry.specs.Entries.{IsEntry, entry_text}
use Rattle.mega_wire.specs.declared.message.Body.{Body}
use Rattle.mega_wire.specs.declared.message.Body.TheVariants.{Where, Top, Accept, Accepted, Refused, Prepare, Promise, Invalidate, Invalidated, Dead, Held, Unheld, Decide, Fetch, Have, HaveNot, Acquire, Granted, Past, Request, Reply}
use Rattle.mega_wire.specs.declared.message.Message.{Message}
use Rattle.mega_wire.specs.Messages.{IsBody, IsMessage, body_text, kind_of, message_text}
use Rattle.mega_field_ranges.specs.Entries.{HoldsContent}
use Rattle.mega_field_ranges.specs.Messages.{HoldsBody, HoldsReport, HoldsShownEntry}
use Rattle.mega_transcript.specs.PlainNames.{IsGroup}
use Rattle.mega_field_ranges.proofs.Bytes.{AreBytes, both_bytes, byte_alone, byte_on, counted_bytes, nested_bytes, number_bytes}
use Rattle.mega_field_ranges.proofs.EntryTexts.{entry_bytes, group_bytes, op_bytes}

-- ---- fields

abbrev IsEntryField : Content → Type 0
IsEntryField entry = IsNested 65536 entry_text IsEntry entry

field_bytes : (entry : Content) → IsEntryField entry → HoldsContent entry → AreBytes (nested_text entry_text entry)
field_bytes entry is held = nested_bytes entry_text entry (entry_bytes entry is.0 held)

ballot_bytes : (ballot : Ballot) → IsBallot ballot → AreBytes (ballot_text ballot)
ballot_bytes ballot is = both_bytes (number_bytes 4 ballot.round) (op_bytes ballot.op is.op)

position_bytes : (position : Position) → AreBytes (position_text position)
position_bytes position = number_bytes 8 position.0

epoch_bytes : (epoch : Epoch) → AreBytes (epoch_text epoch)
epoch_bytes epoch = both_bytes (number_bytes 4 epoch.start) (number_bytes 4 epoch.count)

node_bytes : (node : NodeId) → IsNode node → AreBytes (node_text node)
node_bytes node is = byte_alone node.0 (omega (arith, is.1))

cell_bytes : (cell : ℕ) → IsBetween 1 5 cell → AreBytes (one_byte cell)
cell_bytes cell is = byte_alone cell (omega (arith, is.1))

shown_bytes : (entry : Option Content) → IsOption IsEntryField entry → HoldsShownEntry entry → AreBytes (option_text (nested_text entry_text) entry)
shown_bytes None is held = byte_alone 0 (omega arith)
shown_bytes (Some entry) is held = both_bytes (byte_alone 1 (omega arith)) (field_bytes entry is held)

report_bytes : (report : Option (Ballot × Content)) → IsOption (IsPair IsBallot IsEntryField) report → HoldsReport report → AreBytes (option_text (pair_text ballot_text (nested_text entry_text)) report)
report_bytes None is held = byte_alone 0 (omega arith)
report_bytes (Some report) is held = both_bytes (byte_alone 1 (omega arith)) (both_bytes (ballot_bytes report.0 is.0) (field_bytes report.1 is.1 held))

-- ---- an operation, a group, and what follows

at_group : (op : OpId) (group : GroupId) {rest : List ℕ} → IsOp op → IsGroup group → AreBytes rest → AreBytes (op_text op ++ (group_text group ++ rest))
at_group op group is held rest = both_bytes (op_bytes op is) (both_bytes (group_bytes group held) rest)

body_bytes : (body : Body) → IsBody body → HoldsBody body → AreBytes (body_text body)
body_bytes (Where op group) is held = both_bytes (op_bytes op is.0) (group_bytes group held)
body_bytes (Top op group position) is held = at_group op group is.0 held (position_bytes position)
body_bytes (Accept op group position ballot entry) is held =
    at_group op group is.0 held.0 (both_bytes (position_bytes position) (both_bytes (ballot_bytes ballot is.1.1.1.0) (field_bytes entry is.1.1.1.1 held.1)))
body_bytes (Accepted op group position ballot entry) is held =
    at_group op group is.0 held.0 (both_bytes (position_bytes position) (both_bytes (ballot_bytes ballot is.1.1.1.0) (field_bytes entry is.1.1.1.1 held.1)))
body_bytes (Refused op group position asked shown entry) is held =
    at_group op group is.0 held.0
    (both_bytes (position_bytes position) (both_bytes (ballot_bytes asked is.1.1.1.0) (both_bytes (ballot_bytes shown is.1.1.1.1.0) (shown_bytes entry is.1.1.1.1.1 held.1))))
body_bytes (Prepare op group position ballot) is held = at_group op group is.0 held (both_bytes (position_bytes position) (ballot_bytes ballot is.1.1.1))
body_bytes (Promise op group position ballot accepted) is held =
    at_group op group is.0 held.0 (both_bytes (position_bytes position) (both_bytes (ballot_bytes ballot is.1.1.1.0) (report_bytes accepted is.1.1.1.1 held.1)))
body_bytes (Invalidate op group position) is held = at_group op group is.0 held (position_bytes position)
body_bytes (Invalidated op group position) is held = at_group op group is.0 held (position_bytes position)
body_bytes (Dead op cell node) is held = both_bytes (op_bytes op is.0) (both_bytes (cell_bytes cell is.1.0) (node_bytes node is.1.1))
body_bytes (Held op cell node) is held = both_bytes (op_bytes op is.0) (both_bytes (cell_bytes cell is.1.0) (node_bytes node is.1.1))
body_bytes (Unheld op cell node) is held = both_bytes (op_bytes op is.0) (both_bytes (cell_bytes cell is.1.0) (node_bytes node is.1.1))
body_bytes (Decide group position entry) is held = both_bytes (group_bytes group held.0) (both_bytes (position_bytes position) (field_bytes entry is.1.1 held.1))
body_bytes (Fetch op group position) is held = at_group op group is.0 held (position_bytes position)
body_bytes (Have op group position entry) is held = at_group op group is.0 held.0 (both_bytes (position_bytes position) (field_bytes entry is.1.1.1 held.1))
body_bytes (HaveNot op group position) is held = at_group op group is.0 held (position_bytes position)
body_bytes (Acquire cell epoch clock) is held = both_bytes (cell_bytes cell is.0) (both_bytes (epoch_bytes epoch) (number_bytes 8 clock))
body_bytes (Granted cell epoch clock) is held = both_bytes (cell_bytes cell is.0) (both_bytes (epoch_bytes epoch) (number_bytes 8 clock))
body_bytes (Past cell asked greatest) is held = both_bytes (cell_bytes cell is.0) (both_bytes (epoch_bytes asked) (epoch_bytes greatest))
body_bytes (Request token json) is held = both_bytes (number_bytes 8 token) (counted_bytes json held)
body_bytes (Reply token text) is held = both_bytes (number_bytes 8 token) (counted_bytes text held)

-- ---- the whole

kind_small : (body : Body) → kind_of body ≤ 21
kind_small (Where op group) = omega arith
kind_small (Top op group position) = omega arith
kind_small (Accept op group position ballot entry) = omega arith
kind_small (Accepted op group position ballot entry) = omega arith
kind_small (Refused op group position asked shown entry) = omega arith
kind_small (Prepare op group position ballot) = omega arith
kind_small (Promise op group position ballot accepted) = omega arith
kind_small (Invalidate op group position) = omega arith
kind_small (Invalidated op group position) = omega arith
kind_small (Dead op cell node) = omega arith
kind_small (Held op cell node) = omega arith
kind_small (Unheld op cell node) = omega arith
kind_small (Decide group position entry) = omega arith
kind_small (Fetch op group position) = omega arith
kind_small (Have op group position entry) = omega arith
kind_small (HaveNot op group position) = omega arith
kind_small (Acquire cell epoch clock) = omega arith
kind_small (Granted cell epoch clock) = omega arith
kind_small (Past cell asked greatest) = omega arith
kind_small (Request token json) = omega arith
kind_small (Reply token text) = omega arith

least_of : (b : Bool) → (if b then 0 else 9) ≤ 9
least_of true = omega arith
least_of false = omega arith

pub message_bytes : (m : Message) → IsMessage m → HoldsBody m.body → AreBytes (message_text m)
message_bytes m is held =
    let from : m.from ≤ 9 = omega (arith, is.from.1, least_of (kind_of m.body == 20)) in
    let to : m.to ≤ 9 = omega (arith, is.to.1, least_of (kind_of m.body == 21)) in
    byte_on _ (omega arith) (byte_on _ (omega arith) (byte_on _ (omega arith) (byte_on _ (omega (arith, kind_small m.body)) (byte_on _ (omega arith) (byte_on _ (omega arith) (body_bytes m.body is.body held))))))
