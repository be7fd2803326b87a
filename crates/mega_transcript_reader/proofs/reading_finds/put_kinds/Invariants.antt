use Rattle.std.proofs.Common.{◌≡◌, ◌++◌, drop}
use Rattle.mega_transcript_reader.proofs.reading_finds.put_kinds.Given as goal

abbrev pub invariant-loop-kind : goal.invariant-loop-kind
invariant-loop-kind l = l.kinds ++ drop l.kind-index l.more ≡ l.initial.kinds ++ l.more
