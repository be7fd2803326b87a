use Rattle.mega_gen.specs.Generated.{generated}
use Rattle.mega_replay_output.proofs.Progress.{whole_front}
use Rattle.mega_replay.proofs.calling.draw.Goals as goal

pub returns-in-Ok-clause-front : goal.returns-in-Ok-clause-front
returns-in-Ok-clause-front g c =
    whole_front (g.O.Sink.held c.args.out.now) (g.O.Sink.held c.generate.new.out) (generated c.args.seed c.args.count c.args.nodes) c.in-Ok.ensures.ok
