use Rattle.std.proofs.Common.{refl}
use Rattle.mega_rules.specs.Logs.{log_of}
use Rattle.mega_durable.proofs.down.Down.new.Goals as goal

pub returns-clause-rows : goal.returns-clause-rows
returns-clause-rows g c = λ k me met none. record { stored = λ group. 0; follows = c.new.ensures.follows (log_of met) none; bare = λ bare group. refl }
