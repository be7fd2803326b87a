-- What a node decides by a message of the format is of the format: so it stands at a position from 1 on.
use Rattle.std.proofs.Common.{List, map, Option, Some, None}
use Rattle.mega_wire.specs.declared.message.Message.{Message}
use Rattle.mega_voter.specs.of_rules.Clock.{clock_of}
use Rattle.mega_voter.specs.of_rules.Operations.{Node, Operation, Setting}
use Rattle.mega_voter.specs.of_rules.Steps.{Decision, Heard, first_settled, hears_message, told_decision}
use Rattle.mega_wire.specs.Messages.{IsMessage}
use Rattle.mega_node_laws.specs.Acted.{decision_in, or_settled}
use Rattle.mega_format_laws.specs.Decisions.{AreDecided}
use Rattle.mega_format_laws.specs.Nodes.{IsNode, IsOperation, IsSetting}
use Rattle.mega_format_laws.specs.Rounds.{Each}
use Rattle.mega_format_laws.proofs.Each.{each_map}
use Rattle.mega_format_laws.proofs.Steps.{IsHeard, first_is, heard_formed, new_is, told_is}

pub decision_formed : (s : Setting) (node : Node) (m : Message) → IsSetting s → IsNode node → IsMessage m → AreDecided (decision_in s node m)
decision_formed s node m h n b = new_is node.met (or_settled (told_decision m.body) (first_settled ts)) (by (told_decision m.body) (told_is m.body b.body))
  where
    ts : List Heard
    ts = map (hears_message s (clock_of node.met) m) node.open_operations

    heard : Each IsHeard ts
    heard = each_map IsOperation IsHeard (hears_message s (clock_of node.met) m) (λ o i. heard_formed s (clock_of node.met) m o h b i) node.open_operations n.open_operations

    by : (told : Option Decision) → AreDecided told → AreDecided (or_settled told (first_settled ts))
    by (Some d) f = f
    by None f = first_is ts heard
