use Rattle.std.proofs.Common.{ap, ◌∙◌}
use Rattle.mega_rules.specs.Clock.{is_again}
use Rattle.mega_leases.specs.declared.numbers.Numbers.{Numbers}
use Rattle.mega_leases.proofs.leases.Leases.does_again.Goals as goal

pub returns : goal.returns
returns c cluster me met tells = c.is_again.ensures ∙ (λ i. is_again (ap (λ (n : Numbers). n.retry) tells.numbers_are i) c.args.now (tells.last_is i))
