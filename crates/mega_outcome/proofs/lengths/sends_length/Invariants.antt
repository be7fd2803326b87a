use Rattle.std.proofs.Common.{◌≡◌, length, take}
use Rattle.std.specs.List.{flat_map}
use Rattle.mega_index.specs.of_entry.Entries.{send_text}
use Rattle.mega_outcome.proofs.lengths.sends_length.Given as goal

abbrev pub invariant-loop-send : goal.invariant-loop-send
invariant-loop-send l = l.total ≡ length (flat_map send_text (take l.send-index l.sends))
