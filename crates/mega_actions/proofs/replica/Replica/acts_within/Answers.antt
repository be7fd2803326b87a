use Rattle.std.proofs.Common.{◌≡◌, ◌∙◌, ◌-◌, ◌+◌, None, ap, arith, rules, sym}
use Rattle.mega_meanings.proofs.Lasting.{means_still}
use Rattle.mega_rules.specs.Acting.{ActsAgain, Rests, keeps, rests_within}
use Rattle.mega_answers.specs.of_step_work.Settings.{setting}
use Rattle.mega_actions.proofs.Leaving.{leaves_here, leaves_then}
use Rattle.mega_actions.proofs.Turned.{no_turn, one_turn}
use Rattle.mega_actions.proofs.replica.Replica.acts_within.Goals as goal

pub loop-turn-init : goal.loop-turn-init
loop-turn-init g c = record {
  goes = λ h now told means about at. record {
    after = now;
    stands = at;
    work = λ was. was;
    about = about;
    leads = ap (λ n. rests_within n (setting c.args.self.now.members c.args.self.now.me h) (ActsAgain now c.args.operation)) (let e : c.args.most ≡ c.args.most - 0 = omega arith in e);
  };
  leaves = leaves_here g.V.Versions (g.H.QueueHandlers.meant c.args.handlers.now) c.args.self.now;
  asked = search rules;
}

pub loop-turn-preserved : goal.loop-turn-preserved
loop-turn-preserved g c =
    let loop = c.loop-turn in
    let before = c.args.self.now in
    let new = c.acts_once.new.self in
    let meant = g.H.QueueHandlers.meant in
    record {
      goes = λ h now told means about at.
          let s = setting before.members before.me h in
          let so = loop.invariant.goes h now told means about at in
          let inner = (rw c.in-Ok-Some.field-0-is at c.in-Ok-Some.ensures.acted) h so.after told (means_still _ _ h loop.invariant.leaves.handlers means) so.about so.stands in
          record {
            after = inner.after;
            stands = inner.stands;
            work = λ was. inner.work (so.work was);
            about = inner.about;
            leads =
                one_turn s (setting loop.self.members loop.self.me h) now so.after c.args.operation loop.next c.args.most loop._turn c.loop-turn-test.true (λ i. setting (sym loop.invariant.leaves.members i) (sym loop.invariant.leaves.me i) h) so.leads
                ∙ ap (rests_within (c.args.most - (loop._turn + 1)) s) inner.leads;
          };
      leaves = leaves_then g.V.Versions None (meant c.args.handlers.now) (meant loop.handlers) (meant c.acts_once.new.handlers) before loop.self new loop.invariant.leaves c.in-Ok-Some.ensures.leaves;
      asked = (rw c.in-Ok-Some.field-0-is at c.in-Ok-Some.ensures.asked) ∙ loop.invariant.asked;
    }

pub returns-in-Ok-None-clause-acted : goal.returns-in-Ok-None-clause-acted
returns-in-Ok-None-clause-acted g c h now told means about at =
    let loop = c.loop-turn in
    let before = c.args.self.now in
    let s = setting before.members before.me h in
    let so = loop.invariant.goes h now told means about at in
    let inner = (rw c.in-Ok-None.field-0-is at c.in-Ok-None.ensures.acted) h so.after told (means_still _ _ h loop.invariant.leaves.handlers means) so.about so.stands in
    record {
      after = inner.after;
      stands = inner.stands;
      work = λ was. inner.work (so.work was);
      about = tt;
      leads = ap Rests (
          one_turn s (setting loop.self.members loop.self.me h) now so.after c.args.operation loop.next c.args.most loop._turn c.loop-turn-test.true (λ i. setting (sym loop.invariant.leaves.members i) (sym loop.invariant.leaves.me i) h) so.leads
          ∙ ap (rests_within (c.args.most - (loop._turn + 1)) s) inner.leads
          );
    }

pub returns-in-Ok-None-clause-leaves : goal.returns-in-Ok-None-clause-leaves
returns-in-Ok-None-clause-leaves g c =
    let loop = c.loop-turn in
    let new = c.acts_once.new in
    let meant = g.H.QueueHandlers.meant in
    leaves_then g.V.Versions None (meant c.args.handlers.now) (meant loop.handlers) (meant new.handlers) c.args.self.now loop.self new.self loop.invariant.leaves c.in-Ok-None.ensures.leaves

pub returns-in-Err-clause-leaves : goal.returns-in-Err-clause-leaves
returns-in-Err-clause-leaves g c =
    let loop = c.loop-turn in
    let new = c.acts_once.new in
    let meant = g.H.QueueHandlers.meant in
    leaves_then g.V.Versions _ (meant c.args.handlers.now) (meant loop.handlers) (meant new.handlers) c.args.self.now loop.self new.self loop.invariant.leaves c.in-Err.ensures.leaves

pub returns-clause-acted : goal.returns-clause-acted
returns-clause-acted g c h now told means about at =
    let loop = c.loop-turn in
    let s = setting c.args.self.now.members c.args.self.now.me h in
    let so = loop.invariant.goes h now told means about at in
    let test = c.loop-turn-test.false in
    record {
      after = keeps so.after loop.next;
      stands = so.stands;
      work = λ was. c.in_ok-does.ensures so.after (so.work was);
      about = tt;
      leads = ap Rests (no_turn s now so.after c.args.operation loop.next c.args.most loop._turn (omega (arith, test)) so.leads);
    }
