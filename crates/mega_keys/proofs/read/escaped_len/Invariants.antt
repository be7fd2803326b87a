use Rattle.std.proofs.Common.{◌≡◌, ◌*◌, ◌≤◌, length, take}
use Rattle.std.specs.List.{flat_map}
use Rattle.mega_keys.specs.Spelling.{escape}
use Rattle.mega_keys.proofs.read.escaped_len.Given as goal

abbrev pub invariant-loop-byte : goal.invariant-loop-byte
invariant-loop-byte l = (l.length ≡ length (flat_map escape (take l.byte-index l.bytes))) × (l.length ≤ 2 * l.byte-index)
