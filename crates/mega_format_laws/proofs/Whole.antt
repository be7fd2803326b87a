-- Steps, with what operations propose of their own.
use Rattle.mega_voter.specs.of_rules.Operations.{Node, Setting}
use Rattle.mega_voter.specs.of_rules.Steps.{Event, step}
use Rattle.mega_format_laws.specs.Nodes.{IsEvent, IsNode, IsSetting, IsStep}
use Rattle.mega_format_laws.proofs.Acting.{AreOutcomes}
use Rattle.mega_format_laws.proofs.Batches.{batch_short}
use Rattle.mega_format_laws.proofs.Handling.{handling_short}
use Rattle.mega_format_laws.proofs.Outcomes.{done_of}
use Rattle.mega_format_laws.proofs.Steps.{step_formed}

outcomes : (s : Setting) → IsSetting s → AreOutcomes s
outcomes s h = record {
  txn = λ t log op done f e o comes. done_of s.cluster.schema t log op done f e o comes;
  batch = λ group ts log op few f e o is. batch_short s.cluster.schema group ts log op few f e o;
  handling = λ op group enter log o e f. handling_short s op group enter log h.handlers o e f;
}

pub whole_step : (s : Setting) (node : Node) (event : Event) → IsSetting s → IsNode node → IsEvent event → IsStep (step s node event)
whole_step s node event h n e = step_formed s node event (outcomes s h) h n e
