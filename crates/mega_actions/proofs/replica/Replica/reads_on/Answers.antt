use Rattle.std.proofs.Common.{◌∙◌, ◌≤◌, ◌+◌, ap, subst, sym}
use Rattle.std.specs.Prelude.{nat_le}
use Rattle.mega_answers.specs.of_operations.Whole.{whole}
use Rattle.mega_read.specs.Catching.{seeks}
use Rattle.mega_rules.specs.Clock.{clock_of}
use Rattle.mega_rules.specs.Logs.{prefix_of}
use Rattle.mega_rules.specs.Operations.{Operation, Reads}
use Rattle.mega_rules.specs.Acting.{keeps, reader_of, seeks_on}
use Rattle.mega_answers.specs.of_step_work.Settings.{setting}
use Rattle.mega_answers.specs.of_step_work.Working.{work_of}
use Rattle.mega_actions.proofs.Onward.{polls, reaches, seeks_least}
use Rattle.mega_actions.proofs.replica.Replica.reads_on.Goals as goal

pub returns-in_default-clause-acted : goal.returns-in_default-clause-acted
returns-in_default-clause-acted g c h now told means of at =
    let before = c.args.self.now in
    let s = setting before.members before.me h in
    let group = c.args.group in
    let reading = c.args.reading in
    let o = whole c.args.kept (Reads group reading) in
    record {
      after = keeps now o;
      stands = at;
      work = λ was. c.in_ok-does.ensures now was ∙ ap (λ (one : Operation). work_of (keeps now one)) c.in_phase-operation.ensures;
      about = tt;
      leads = polls s now o group reading (sym c.through_of.ensures ∙ c.in_default.is);
    }

pub returns-then-is_reached-clause-acted : goal.returns-then-is_reached-clause-acted
returns-then-is_reached-clause-acted g c h now told means of at =
    let before = c.args.self.now in
    let s = setting before.members before.me h in
    let group = c.args.group in
    let reading = c.args.reading in
    let through = c.in-Some.through in
    let prefix = c.prefix-prefix.ensures now.met at.stands.tells in
    let le = subst (λ q. through ≤ q) prefix (c.is_reached.ensures.within c.if-is_reached.true) in
    let inner = c.in_ok-next.ensures.acted h now told means of le at in
    record {
      after = inner.after;
      stands = inner.stands;
      work = inner.work;
      about = inner.about;
      leads =
          reaches s now (whole c.args.kept (Reads group reading)) group reading through (sym c.through_of.ensures ∙ c.in-Some.is) (sym (ap (nat_le through) prefix) ∙ sym c.is_reached.ensures.exact ∙ c.if-is_reached.true)
          ∙ inner.leads;
    }

pub returns-clause-acted : goal.returns-clause-acted
returns-clause-acted g c h now told means of at =
    let before = c.args.self.now in
    let s = setting before.members before.me h in
    let kept = c.args.kept in
    let group = c.args.group in
    let reading = c.args.reading in
    let through = c.in-Some.through in
    let o = whole kept (Reads group reading) in
    let prefix = c.prefix-prefix.ensures now.met at.stands.tells in
    let clock = c.now-clock.ensures before.members before.me now.met at.stands.leased in
    record {
      after = seeks_on o now group (seeks (reader_of s kept.id group) reading (prefix_of now.met group + 1) (clock_of now.met));
      stands = at;
      work = λ was.
          c.in_ok-does-2.ensures now was
          ∙ ap work_of (c.in_ok-action.ensures before.me h now clock ∙ ap (λ q. seeks_on o now group (seeks (reader_of s kept.id group) reading (q + 1) (clock_of now.met))) prefix);
      about = tt;
      leads = seeks_least s now o group reading through (sym c.through_of.ensures ∙ c.in-Some.is) (sym (ap (nat_le through) prefix) ∙ sym c.is_reached.ensures.exact ∙ c.if-is_reached.false);
    }
