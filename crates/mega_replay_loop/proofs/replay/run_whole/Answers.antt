use Rattle.std.specs.Io.KnownBytes.{prepend_known}
use Rattle.mega_replay_loop.proofs.Steps.{end_cut, end_written}
use Rattle.mega_replay_loop.proofs.replay.run_whole.Goals as goal

pub returns-in-Ok-write_end-clause-done : goal.returns-in-Ok-write_end-clause-done
returns-in-Ok-write_end-clause-done g c first before =
    end_written c.args.report c.args.cluster.now (prepend_known c.args.reader.now (g.I.Source.left c.args.input.now)) c.run_lines.new.tally c.in-Ok.count first (g.O.Sink.held c.run_lines.new.out) c.run_lines.new.waiting c.write_end.new.waiting
    (c.in-Ok.ensures.done first before) c.in-Ok-write_end.ensures.ok

pub returns-in-Err-write_end-clause-cut : goal.returns-in-Err-write_end-clause-cut
returns-in-Err-write_end-clause-cut g c first before =
    end_cut c.args.report c.args.cluster.now (prepend_known c.args.reader.now (g.I.Source.left c.args.input.now)) c.run_lines.new.tally c.in-Ok.count first (g.O.Sink.held c.run_lines.new.out) c.run_lines.new.waiting c.write_end.new.waiting
    (c.in-Ok.ensures.done first before) c.in-Err-write_end.ensures.err
