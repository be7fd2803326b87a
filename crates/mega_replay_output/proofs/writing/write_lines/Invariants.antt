use Rattle.std.proofs.Common.{◌≤◌, ◌++◌, take}
use Rattle.mega_transcript.specs.Lines.{lines as text_of}
use Rattle.mega_replay_output.specs.Progress.{Writes}
use Rattle.mega_replay_output.proofs.writing.write_lines.Given as goal

abbrev pub invariant-loop-item : goal.invariant-loop-item
invariant-loop-item g l =
    (g.O.Sink.faults l.fn.out ≤ g.O.Sink.faults l.out)
    × Writes (g.O.Sink.held l.fn.out) (g.O.Sink.held l.out) l.waiting (l.fn.waiting ++ text_of l.fn.schema (take l.item-index l.items))
