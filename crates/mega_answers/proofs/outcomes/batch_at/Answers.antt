use Rattle.std.specs.Prelude.{Result, Ok, Err}
use Rattle.mega_outcome.specs.declared.answer.Batch.{Batch}
use Rattle.mega_outcome.specs.declared.answer.Turn.{Turn}
use Rattle.mega_answers.proofs.Refused.{used_fault, used_run, used_turned}
use Rattle.mega_answers.proofs.outcomes.batch_at.Goals as goal

pub returns-in-Ok-clause-used : goal.returns-in-Ok-clause-used
returns-in-Ok-clause-used g c =
    let of = c.in-Ok.ensures in
    let result : Result Batch Turn = Ok c.in-Ok.batch in
    used_run g.V.Versions result c.args.rows.now c.run_all.new.rows of.cleaned of.marks of.any_moment of.within of.later of.bad_stays of.may_burn of.by_fuse of.cause of.bad of.never_full of.burns

pub returns-in-Some-clause-used : goal.returns-in-Some-clause-used
returns-in-Some-clause-used g c =
    let of = c.in-Err.ensures in
    let result : Result Batch Turn = Err c.in-Err.turn in
    used_fault g.V.Versions c.in-Err.turn c.in-Some.fault c.args.rows.now c.run_all.new.rows c.in-Some.ensures.exact
    (used_run g.V.Versions result c.args.rows.now c.run_all.new.rows of.cleaned of.marks of.any_moment of.within of.later of.bad_stays of.may_burn of.by_fuse of.cause of.bad of.never_full of.burns)

pub returns-in-None-clause-used : goal.returns-in-None-clause-used
returns-in-None-clause-used g c =
    let of = c.in-Err.ensures in
    let result : Result Batch Turn = Err c.in-Err.turn in
    used_turned g.V.Versions c.in-Err.turn c.args.rows.now c.run_all.new.rows c.in-None.ensures.exact
    (used_run g.V.Versions result c.args.rows.now c.run_all.new.rows of.cleaned of.marks of.any_moment of.within of.later of.bad_stays of.may_burn of.by_fuse of.cause of.bad of.never_full of.burns)
