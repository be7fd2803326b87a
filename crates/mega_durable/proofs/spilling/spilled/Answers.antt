use Rattle.mega_durable.specs.Spilling.{marks_of}
use Rattle.mega_durable.proofs.AfterSpill.{used_here, spilled_not}
use Rattle.mega_durable.proofs.spilling.spilled.Goals as goal

pub returns-then-not-is_to_spill-clause-cut : goal.returns-then-not-is_to_spill-clause-cut
returns-then-not-is_to_spill-clause-cut g c = λ told met stored keeps. spilled_not g.V.Versions c.args.rows.now.rows (marks_of met stored) (g.met.V.Versions.only_now c.args.rows.now.rows)

pub returns-then-not-is_to_spill-clause-used : goal.returns-then-not-is_to_spill-clause-used
returns-then-not-is_to_spill-clause-used g c = used_here g.V.Versions c.args.rows.now.rows
