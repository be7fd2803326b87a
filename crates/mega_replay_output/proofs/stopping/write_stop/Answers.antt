use Rattle.std.proofs.Common.{◌++◌, subst}
use Rattle.std.specs.Io.KnownBytes.{Appends}
use Rattle.mega_io.specs.Pieces.{AppendsFront}
use Rattle.mega_replay_output.specs.LastLines.{last_line}
use Rattle.mega_replay_output.proofs.Progress.{whole_front, front_of_more, either_front}
use Rattle.mega_replay_output.proofs.stopping.write_stop.Goals as goal

pub returns-in-Err-clause-front : goal.returns-in-Err-clause-front
returns-in-Err-clause-front g c =
    let before = g.O.Sink.held c.args.out.now in
    let after = g.O.Sink.held c.write_on.new.out in
    front_of_more before after c.args.waiting.now (last_line c.args.stop)
    (subst (AppendsFront before after) c.in-Err.ensures.err (either_front c.write_on.result before after c.tell.new.out c.write_on.ensures.ok c.write_on.ensures.err))

pub returns-in-Ok-write_on-clause-front : goal.returns-in-Ok-write_on-clause-front
returns-in-Ok-write_on-clause-front g c =
    let before = g.O.Sink.held c.args.out.now in
    let after = g.O.Sink.held c.write_on-2.new.out in
    whole_front before after (c.args.waiting.now ++ last_line c.args.stop) (subst (Appends before after) c.in-Ok.ensures.ok c.in-Ok-write_on.ensures.ok)
