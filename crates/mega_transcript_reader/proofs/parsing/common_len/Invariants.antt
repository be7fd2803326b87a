use Rattle.std.proofs.Common.{◌≡◌, ◌+◌, drop}
use Rattle.std.specs.Prelude.{nat_eq}
use Rattle.std.specs.List.{common_prefix_len}
use Rattle.mega_transcript_reader.proofs.parsing.common_len.Given as goal

abbrev pub invariant-loop-length : goal.invariant-loop-length
invariant-loop-length l = common_prefix_len nat_eq l.line l.text ≡ l.length + common_prefix_len nat_eq (drop l.length l.line) (drop l.length l.text)
