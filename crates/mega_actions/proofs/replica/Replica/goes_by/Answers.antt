use Rattle.std.proofs.Common.{◌∙◌, sym}
use Rattle.mega_rules.specs.Acting.{finishes, rests_within}
use Rattle.mega_answers.specs.of_step_work.Reaching.{operation_of}
use Rattle.mega_answers.specs.of_step_work.Settings.{setting}
use Rattle.mega_answers.proofs.Serving.{rests_alone}
use Rattle.mega_actions.proofs.replica.Replica.goes_by.Goals as goal

pub returns-then-is_pump-clause-acted : goal.returns-then-is_pump-clause-acted
returns-then-is_pump-clause-acted g c h now told means of le at = c.in_ok-next.ensures.acted h now told means (sym c.is_pump.ensures ∙ c.if-is_pump.true) le at

pub returns-clause-acted : goal.returns-clause-acted
returns-clause-acted g c h now told means of le at =
    let before = c.args.self.now in
    let s = setting before.members before.me h in
    let reached = c.args.reached in
    let kept = reached.kept in
    let clock = c.now-clock.ensures before.members before.me now.met at.stands.leased in
    let left = rests_within 0 s (finishes s now (operation_of reached) reached.group reached.reading reached.position) in
    let rests = rests_alone s now reached.group reached.reading reached.position kept.id kept.began kept.visited kept.message kept.request (sym c.is_pump.ensures ∙ c.if-is_pump.false) in
    record {
      after = left;
      stands = record { stands = c.in_ok-goes.ensures.state before.me h before.leases now left told of le clock at.stands rests; noted = at.noted };
      work = λ was. c.in_ok-goes.ensures.work before.me h before.leases now left told of le clock at.stands rests was;
      about = tt;
      leads = rests;
    }
