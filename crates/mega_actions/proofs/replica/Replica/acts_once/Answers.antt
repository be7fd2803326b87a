use Rattle.std.proofs.Common.{◌≡◌, ◌∙◌, ap, subst, sym}
use Rattle.mega_answers.specs.of_operations.Phases.{phase_of, promised_of}
use Rattle.mega_answers.specs.of_operations.Whole.{whole}
use Rattle.mega_rules.specs.Logs.{decided}
use Rattle.mega_rules.specs.Operations.{Operation, Proposes, Reads}
use Rattle.mega_rules.specs.Acting.{acts, unless_decided}
use Rattle.mega_replica.specs.Following.{progress_at}
use Rattle.mega_answers.specs.of_node_laws.About.{IsAbout}
use Rattle.mega_outcome.specs.declared.request.Request.{Request}
use Rattle.mega_answers.specs.Asked.{IsNextAsked}
use Rattle.mega_actions.specs.StandsAt.{StandsAt}
use Rattle.mega_answers.specs.of_step_work.Settings.{setting}
use Rattle.mega_answers.proofs.of_step_work.Doing.{unless_met, unless_stored}
use Rattle.mega_actions.proofs.replica.Replica.acts_once.Goals as goal

pub returns-in_ok-next-in-Reads-clause-acted : goal.returns-in_ok-next-in-Reads-clause-acted
returns-in_ok-next-in-Reads-clause-acted g c h now told means about at =
    let before = c.args.self.now in
    let s = setting before.members before.me h in
    let kept = c.parts-kept.result.0 in
    let group = c.in-Reads.group in
    let reading = c.in-Reads.reading in
    let whole_is : whole kept (Reads group reading) ≡ c.args.operation = ap (λ phase. whole kept (phase_of phase)) (sym c.in-Reads.is) ∙ c.parts-kept.ensures in
    let of = subst IsAbout (sym whole_is) about in
    let inner = c.in_ok-next-in-Reads.ensures.acted h now told means of at in
    record {
      after = inner.after;
      stands = inner.stands;
      work = inner.work;
      about = inner.about;
      leads = ap (acts s now) (sym whole_is) ∙ inner.leads;
    }

pub returns-in_ok-next-in-Reads-clause-asked : goal.returns-in_ok-next-in-Reads-clause-asked
returns-in_ok-next-in-Reads-clause-asked g c = subst (λ (request : Request). IsNextAsked c.in_ok-next-in-Reads.next request) (ap (λ (o : Operation). o.request) c.parts-kept.ensures) c.in_ok-next-in-Reads.ensures.asked

pub returns-in_ok-checks-in-Proposes-clause-acted : goal.returns-in_ok-checks-in-Proposes-clause-acted
returns-in_ok-checks-in-Proposes-clause-acted g c h now told means about at =
    let before = c.args.self.now in
    let s = setting before.members before.me h in
    let kept = c.parts-kept.result.0 in
    let own = c.in-Proposes in
    let promised = promised_of own.promised in
    let o = whole kept (Proposes own.group own.position own.asked own.proposal promised) in
    let whole_is : o ≡ c.args.operation = ap (λ phase. whole kept (phase_of phase)) (sym own.is) ∙ c.parts-kept.ensures in
    let found = decided now.met own.group own.position in
    let version = g.V.Versions.version before.rows.rows in
    record {
      after = unless_decided now o own.position promised found;
      stands = coe 0 1 (i. StandsAt s before.voter.logs.kept before.leases before.digest version (progress_at before.rows.progress) (sym (unless_met now o own.position promised found) i) (sym (unless_stored now o own.position promised found) i)) at;
      work = λ was. c.in_ok-checks-in-Proposes.ensures.work now at.stands.tells was;
      about = tt;
      leads = ap (acts s now) (sym whole_is);
    }
