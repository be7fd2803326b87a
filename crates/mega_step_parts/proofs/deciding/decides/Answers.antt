use Rattle.std.proofs.Common.{◌∙◌, sym}
use Rattle.mega_step_parts.proofs.deciding.decides.Goals as goal

pub returns-in_ok-keep_new-in-Some-clause-staged : goal.returns-in_ok-keep_new-in-Some-clause-staged
returns-in_ok-keep_new-in-Some-clause-staged g c = λ before met tells stages.
    c.in_ok-keep_new-in-Some.ensures.staged before met (sym (c.is_new.ensures met tells) ∙ c.if-not-is_new.false) tells stages
