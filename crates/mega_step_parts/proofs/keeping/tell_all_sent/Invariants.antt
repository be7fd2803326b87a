use Rattle.std.proofs.Common.{◌≡◌, List, drop, map}
use Rattle.mega_rules.specs.Met.{Met, Sends}
use Rattle.mega_rules.specs.Steps.{onto}
use Rattle.mega_node_laws.specs.Sending.{MaySend}
use Rattle.mega_step_work.specs.of_voter.Telling.{Tells}
use Rattle.mega_step_choices.specs.Staging.{Stages}
use Rattle.mega_step_parts.proofs.Sent.{SentSo, StagedSent}
use Rattle.mega_step_parts.proofs.keeping.tell_all_sent.Given as goal

abbrev pub invariant-loop-message : goal.invariant-loop-message
invariant-loop-message g l =
    ((met : List Met) → MaySend met l.sends → Tells l.fn.voter.logs.kept met → SentSo l.voter.logs.kept (drop l.message-index l.sends) (onto (map Sends l.sends) met))
    × ((before met : List Met) → MaySend met l.sends → Tells l.fn.voter.logs.kept met → Stages l.fn.voter.logs.staged.items before met
    → StagedSent l.voter.logs.kept l.voter.logs.staged.items before (drop l.message-index l.sends) (onto (map Sends l.sends) met))
    × (l.voter.logs.records ≡ l.fn.voter.logs.records)
