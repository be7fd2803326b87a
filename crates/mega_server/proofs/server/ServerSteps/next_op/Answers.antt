use Rattle.std.proofs.Common.{ap, ◌∙◌}
use Rattle.mega_rules.specs.Steps.{op_of}
use Rattle.mega_promises.specs.Runs.{setting}
use Rattle.mega_server.proofs.server.ServerSteps.next_op.Goals as goal

pub returns : goal.returns
returns g c = λ h node journal at. c.next_op.ensures h node at.up ∙ ap (λ n. op_of (setting c.args.self.now.up.node.replica.members h n) node.met) at.numbered
