use Rattle.mega_rules.specs.Logs.{log_of}
use Rattle.mega_step_work.specs.of_voter.Journal.{journal_of}
use Rattle.mega_node_laws.proofs.Logs.{log_is}
use Rattle.mega_step_parts.proofs.storing.store_portion.Goals as goal

pub returns-in-Ok-clause-follows : goal.returns-in-Ok-clause-follows
returns-in-Ok-clause-follows g c = λ met stored tells follows. c.in-Ok.ensures.follows (journal_of met) (log_of met) stored tells.journal (log_is met c.args.group.now) follows
