use Rattle.mega_rules.specs.Logs.{log_of}
use Rattle.mega_step_work.specs.of_voter.Journal.{journal_of}
use Rattle.mega_marks.proofs.of_node_laws.Logs.{log_is}
use Rattle.mega_replica.proofs.Using.{used_by_puts}
use Rattle.mega_answers.proofs.completing.stores_through.Goals as goal

pub returns-in-Ok-clause-state : goal.returns-in-Ok-clause-state
returns-in-Ok-clause-state g c now tells follows = c.in-Ok.ensures.follows (journal_of now.met) (log_of now.met) now.stored tells.journal (log_is now.met c.args.group.now) follows

pub returns-in-Ok-clause-used : goal.returns-in-Ok-clause-used
returns-in-Ok-clause-used g c = used_by_puts g.V.Versions c.args.rows.now.rows c.apply_through.new.self.rows c.in-Ok.ensures.only

pub returns-in-Err-clause-used : goal.returns-in-Err-clause-used
returns-in-Err-clause-used g c = used_by_puts g.V.Versions c.args.rows.now.rows c.apply_through.new.self.rows c.in-Err.ensures.only
