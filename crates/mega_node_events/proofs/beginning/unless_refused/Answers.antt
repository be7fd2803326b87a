use Rattle.std.proofs.Common.{◌≡◌, OnOk, Option, refl, rules, subst, sym, true}
use Rattle.mega_handler.specs.Named.{Meanings}
use Rattle.mega_outcome.specs.declared.answer.Answer.{Answer}
use Rattle.mega_rules.specs.Operations.{Now}
use Rattle.mega_actions.specs.of_marks.AreMarked.{AreMarked, IsIndexed}
use Rattle.mega_actions.specs.of_answers.Faults.{failed_by}
use Rattle.mega_actions.specs.IsAt.{IsAt}
use Rattle.mega_node_events.specs.Beginning.{marks_unless}
use Rattle.mega_node_events.proofs.Failing.{used_apart}
use Rattle.mega_node_events.proofs.beginning.unless_refused.Goals as goal

pub returns-in_err-does-in-Some-clause-leaves : goal.returns-in_err-does-in-Some-clause-leaves
returns-in_err-does-in-Some-clause-leaves g c = record {
  members = refl;
  me = refl;
  voter = refl;
  used = used_apart g.V.Versions (failed_by c.from_residual.result) c.args.replica.now.rows.rows (search rules);
}

pub returns-in-None-clause-indexed : goal.returns-in-None-clause-indexed
returns-in-None-clause-indexed g c =
    let old = c.args.replica.now in
    subst (λ (refused : Option Answer). OnOk c.serves.result ((h : Meanings) (now : Now) → g.V.Versions.is_told ≡ true → IsAt g.V.Versions.version h old now.met now.stored
    → IsIndexed (old.members).schema old.indexed now.met → AreMarked (old.members).schema c.serves.new.replica.indexed now.met (marks_unless now c.args.request refused)))
    (sym c.in-None.is) c.serves.ensures.indexed
