use Rattle.std.proofs.Common.{◌≡◌, ℕ, List, ◌++◌, ◌∙◌, Err, ap, sym}
use Rattle.std.specs.Io.KnownBytes.{Appends}
use Rattle.mega_replay_output.specs.LastLines.{header_line, refused_line, schedule_line, limit_line}
use Rattle.mega_replay_loop.specs.Known.{InputBroken, InputNoEvent, InputRefused, InputPastLast}
use Rattle.mega_replay_loop.proofs.Stopped.{header_by, refused_by, sink_by, source_by, status_known, limit_by}
use Rattle.mega_replay_loop.proofs.transcribing.replay_all.Goals as goal

pub returns-in-Err-clause-header : goal.returns-in-Err-clause-header
returns-in-Err-clause-header g c is =
    header_by c.in-Err.stop (λ rule. InputBroken (g.I.Source.left c.args.input.now) rule (λ text. Appends (g.O.Sink.held c.args.out.now) (g.O.Sink.held c.transcribe.new.out) (text ++ header_line rule)))
    (sym c.status.ensures ∙ is) (λ rule stop. c.in-Err.ensures.header rule (ap Err stop))

pub returns-in-Err-clause-refused : goal.returns-in-Err-clause-refused
returns-in-Err-clause-refused g c is =
    refused_by c.in-Err.stop (λ line reason. InputNoEvent c.args.report (g.I.Source.left c.args.input.now) line reason (λ text. Appends (g.O.Sink.held c.args.out.now) (g.O.Sink.held c.transcribe.new.out) (text ++ schedule_line line reason)))
    (λ line why. InputRefused c.args.report (g.I.Source.left c.args.input.now) line why (λ text. Appends (g.O.Sink.held c.args.out.now) (g.O.Sink.held c.transcribe.new.out) (text ++ refused_line line why)))
    (sym c.status.ensures ∙ is) (λ line reason stop. c.in-Err.ensures.none line reason (ap Err stop)) (λ line why stop. c.in-Err.ensures.refused line why (ap Err stop))

pub returns-in-Err-clause-limit : goal.returns-in-Err-clause-limit
returns-in-Err-clause-limit g c is =
    limit_by c.in-Err.stop (λ line. InputPastLast c.args.report (g.I.Source.left c.args.input.now) line (λ text. Appends (g.O.Sink.held c.args.out.now) (g.O.Sink.held c.transcribe.new.out) (text ++ limit_line line)))
    (sym c.status.ensures ∙ is) (λ line stop. c.in-Err.ensures.limit line (ap Err stop))

pub returns-in-Err-clause-broken : goal.returns-in-Err-clause-broken
returns-in-Err-clause-broken g c is = c.in-Err.ensures.broken (ap Err (source_by c.in-Err.stop (sym c.status.ensures ∙ is)))

pub returns-in-Err-clause-source : goal.returns-in-Err-clause-source
returns-in-Err-clause-source g c is = c.in-Err.ensures.source (ap Err (source_by c.in-Err.stop (sym c.status.ensures ∙ is)))

pub returns-in-Err-clause-sink : goal.returns-in-Err-clause-sink
returns-in-Err-clause-sink g c is = c.in-Err.ensures.sink (ap Err (sink_by c.in-Err.stop (sym c.status.ensures ∙ is)))
