use Rattle.std.proofs.Common.{◌≡◌, drop}
use Rattle.std.specs.Option.{option_copied}
use Rattle.mega_transcript.specs.PlainRows.{are_marks, are_marks_behind}
use Rattle.mega_transcript_reader.proofs.reading_marks.are_marks.Given as goal

abbrev pub invariant-loop-mark : goal.invariant-loop-mark
invariant-loop-mark l = are_marks_behind (option_copied l.before) (drop l.mark-index l.marks) ≡ are_marks l.marks
