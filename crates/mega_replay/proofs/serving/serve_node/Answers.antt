use Rattle.mega_line_events.proofs.Plain.{built_formed}
use Rattle.mega_meanings.specs.BuiltIn.{built_in}
use Rattle.mega_replay.proofs.NodeHandlers.{built_mean}
use Rattle.mega_replay.proofs.serving.serve_node.Goals as goal

pub returns-clause-node : goal.returns-clause-node
returns-clause-node g c = c.serve_with.ensures.node built_in (built_mean _ c.new-handlers.ensures) built_formed
