use Rattle.std.proofs.Common.{◌≡◌, ◌∙◌, ◌+◌, suc, length, ap, arith}
use Rattle.mega_rules.specs.Acting.{ActsAgain, Rests, rests_within}
use Rattle.mega_rules.specs.Logs.{groups_of}
use Rattle.mega_answers.specs.of_step_work.Settings.{setting}
use Rattle.mega_actions.proofs.replica.Replica.acts_again.Goals as goal

pub returns-in_ok-acts_within-in-Ok-clause-acted : goal.returns-in_ok-acts_within-in-Ok-clause-acted
returns-in_ok-acts_within-in-Ok-clause-acted g c h now before told means about tells at =
    let s = setting c.args.self.now.members c.args.self.now.me h in
    let inner = c.in_ok-acts_within-in-Ok.ensures.acted h now told means about at in
    let size : length c.as_slice.result.now ≡ length (groups_of before.met) = ap length (c.as_slice.ensures.value ∙ c.in-Ok.ensures before.met tells) in
    let count : suc (length (groups_of before.met)) ≡ length c.as_slice.result.now + 1 = omega (arith, size) in
    record {
      after = inner.after;
      stands = inner.stands;
      work = inner.work;
      about = tt;
      leads = ap (λ n. Rests (rests_within n s (ActsAgain now c.args.operation))) count ∙ inner.leads;
    }
