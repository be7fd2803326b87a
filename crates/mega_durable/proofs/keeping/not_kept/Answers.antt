use Rattle.std.proofs.Common.{◌≡◌, ◌∙◌, Some, ap, sym}
use Rattle.mega_wal.specs.declared.answers.LogFault.{LogFault}
use Rattle.mega_durable.proofs.Refusing.{cut_is, no_cut}
use Rattle.mega_durable.proofs.keeping.not_kept.Goals as goal

pub returns-then-is_cut-clause-cause : goal.returns-then-is_cut-clause-cause
returns-then-is_cut-clause-cause c = ap (λ (fault : LogFault). Some fault) (sym (cut_is c.args.fault (sym c.is_cut.ensures ∙ c.if-is_cut.true)))

pub returns-clause-owed : goal.returns-clause-owed
returns-clause-owed c = no_cut c.args.fault (sym c.is_cut.ensures ∙ c.if-is_cut.false)
