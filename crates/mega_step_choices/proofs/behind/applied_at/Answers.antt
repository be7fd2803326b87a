use Rattle.mega_voter.specs.of_rules.Logs.{log_of}
use Rattle.mega_voter.specs.Journal.{journal_of}
use Rattle.mega_node_laws.proofs.Logs.{log_is}
use Rattle.mega_step_choices.proofs.behind.applied_at.Goals as goal

pub returns : goal.returns
returns g c = λ met stored keeps. c.applied.ensures (journal_of met) (log_of met) stored keeps.tells.journal (log_is met c.args.group.now) keeps.follows
