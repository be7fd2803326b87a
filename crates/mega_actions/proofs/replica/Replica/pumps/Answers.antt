use Rattle.std.proofs.Common.{◌∙◌, Option, ap, subst, sym}
use Rattle.mega_replica.specs.Following.{progress_at}
use Rattle.mega_rules.specs.Operations.{Operation}
use Rattle.mega_answers.specs.Asked.{IsNextAbout, IsNextAsked}
use Rattle.mega_answers.specs.Pumping.{led_to, pumped_after}
use Rattle.mega_answers.specs.RepresentsMet.{RepresentsMet}
use Rattle.mega_answers.specs.of_step_work.Settings.{setting}
use Rattle.mega_answers.proofs.Serving.{next_about, next_asked, pumped_met, pumped_stored, pumped_then}
use Rattle.mega_answers.proofs.Standing.{stands_seen}
use Rattle.mega_actions.proofs.replica.Replica.pumps.Goals as goal

pub returns-clause-acted : goal.returns-clause-acted
returns-clause-acted g c h now told means pump le at =
    let before = c.args.self.now in
    let s = setting before.members before.me h in
    let version = g.V.Versions.version in
    let new = c.pumps.new.rows in
    let pumped = c.in_ok-pumped.pumped in
    let next = c.in_ok-next.ensures.next in
    let seen = stands_seen s before.voter.logs.kept before.leases (version before.rows.rows) (progress_at before.rows.progress) now.stored (version new.rows) now.met c.pumps.ensures.versions at.stands in
    record {
      after = pumped_after now pumped;
      stands = record {
        stands = coe 0 1 (i. RepresentsMet s before.voter.logs.kept before.leases (version new.rows) (progress_at (sym c.pumps.ensures.progress i)) (sym (pumped_met now pumped) i) (sym (pumped_stored now pumped) i)) seen;
        noted = c.in_ok-pumped.ensures.noted now.met now.stored at.stands.tells le at.stands.follows at.noted;
      };
      work = λ was. c.in_ok-next.ensures.work now was;
      about = subst IsNextAbout (sym next) (next_about pumped c.args.reached.kept.request pump c.in_ok-pumped.ensures.asked);
      leads =
          sym (c.in_ok-pumped.ensures.pumped told before.me h now means pump le at.stands at.noted)
          ∙ pumped_then now pumped
          ∙ ap (led_to (pumped_after now pumped)) (sym next);
    }

pub returns-clause-asked : goal.returns-clause-asked
returns-clause-asked g c = subst (λ (next : Option Operation). IsNextAsked next c.args.reached.kept.request) (sym c.in_ok-next.ensures.next) (next_asked c.in_ok-pumped.pumped c.args.reached.kept.request c.in_ok-pumped.ensures.asked)
