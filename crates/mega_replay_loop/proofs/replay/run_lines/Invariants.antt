use Rattle.std.proofs.Common.{◌≤◌, ℕ, [], List, Option}
use Rattle.std.specs.Io.KnownBytes.{prepend_known}
use Rattle.mega_meanings.specs.BuiltIn.{built_in}
use Rattle.mega_meanings.specs.Means.{Means}
use Rattle.mega_replay_output.specs.Progress.{Writes}
use Rattle.mega_replay_loop.specs.Replaying.{text_at}
use Rattle.mega_replay_output.specs.Texts.{IsTallied, so_far}
use Rattle.mega_replay_loop.proofs.Steps.{RanTo}
use Rattle.mega_replay_loop.proofs.replay.run_lines.Given as goal

abbrev pub invariant-loop-count : goal.invariant-loop-count
invariant-loop-count g l =
    RanTo l.fn.cluster (prepend_known l.fn.reader (g.I.Source.left l.fn.input)) (prepend_known l.reader (g.I.Source.left l.input)) l.world l.count
    (λ items. IsTallied l.fn.report l.tally items × ((first : Option (List ℕ)) → Writes first (g.O.Sink.held l.fn.out) l.fn.waiting (text_at l.fn.report l.fn.cluster []) → Writes first (g.O.Sink.held l.out) l.waiting (so_far l.fn.report (l.fn.cluster).schema items)))
    × (g.I.Source.faults l.fn.input ≤ g.I.Source.faults l.input)
    × (g.O.Sink.faults l.fn.out ≤ g.O.Sink.faults l.out)
    × Means (g.H.QueueHandlers.meant l.handlers) built_in
