use Rattle.std.proofs.Common.{◌≡◌, ◌∙◌, ℕ, ◌≤◌, sym, ap, subst, arith}
use Rattle.std.specs.Option.{option_copied}
use Rattle.mega_base.specs.declared.names.GroupId.{GroupId}
use Rattle.mega_cluster.specs.declared.cluster.Cluster.{Cluster}
use Rattle.mega_outcome.specs.Answers.{rows_at as versions_at}
use Rattle.mega_outcome.specs.Outcome.{outcome}
use Rattle.mega_outcome.specs.declared.request.Mode.{Mode}
use Rattle.mega_replica.specs.Following.{progress_at}
use Rattle.mega_rules.specs.Logs.{log_of}
use Rattle.mega_rules.specs.Steps.{applied_position, snapshot_listed, snapshot_rows, stored_listed, stored_rows}
use Rattle.mega_step_work.specs.of_voter.Journal.{journal_of}
use Rattle.mega_marks.specs.of_node_laws.About.{IsOf}
use Rattle.mega_marks.proofs.of_node_laws.Logs.{log_is}
use Rattle.mega_marks.proofs.of_node_laws.Owned.{outcome_is}
use Rattle.mega_step_work.specs.Servable.{mode_asked}
use Rattle.mega_answers.specs.Showing.{looks_in, place_by}
use Rattle.mega_step_work.specs.Settings.{setting}
use Rattle.mega_view.specs.Small.{IsSmall}
use Rattle.mega_view.specs.Shows.{Shows}
use Rattle.mega_answers.proofs.Asked.{answered_at_once, asked_of}
use Rattle.mega_answers.proofs.Logged.{shows_log, shows_stored}
use Rattle.mega_answers.proofs.Shown.{stored_outcome}
use Rattle.mega_answers.proofs.answering.answer_now.Goals as goal

pub returns-clause-exact : goal.returns-clause-exact
returns-clause-exact g c told me h leases now r =
    let s = setting c.args.members.now me h in
    let request = c.args.request.now in
    let group : GroupId = c.in-Some.group.now in
    let schema = c.args.members.now.schema in
    let version = g.V.Versions.version c.args.rows.now.rows in
    let progress = progress_at c.args.rows.now.progress in
    let applied = c.applied-applied.result.0 in
    let prefix = c.prefix-prefix.result.0 in
    let at = c.in-Some-place_by.at in
    let position : ℕ = applied_position now group in
    let applied_is : applied ≡ position = c.applied-applied.ensures (journal_of now.met) (log_of now.met) now.stored r.tells.journal (log_is now.met group) r.follows in
    let prefix_is = c.prefix-prefix.ensures now.met r.tells in
    let le : position ≤ position = omega arith in
    let same = sym (ap (λ (cluster : Cluster). cluster.schema) c.cluster.ensures) in
    let small : IsSmall c.cluster.result.now.schema = subst (λ (cluster : Cluster). IsSmall cluster.schema) (sym c.cluster.ensures) r.small in
    let asked = sym (ap option_copied c.in-Some.is) ∙ c.group_asked.ensures in
    let of : IsOf request group = asked_of request group (sym asked) in
    ap (looks_in s now request) (sym asked)
    ∙ answered_at_once s now request group (mode_asked request) applied prefix at c.in_ok-answer.answer applied_is (sym (c.in-Some-place_by.ensures ∙ ap (λ (mode : Mode). place_by mode applied prefix) c.mode_asked.ensures))
    (λ place.
    c.in_ok-answer.ensures.exact told s group (snapshot_rows now group) (snapshot_listed now group) same small of
    (λ txn is.
    subst (λ (cluster : Cluster). outcome cluster.schema txn (versions_at version at) ≡ outcome cluster.schema txn (snapshot_rows now group)) (sym c.cluster.ensures)
    (ap (λ (p : ℕ). outcome schema txn (versions_at version p)) (place ∙ applied_is) ∙ outcome_is version progress (log_of now.met) now.stored schema group position r.follows r.owned le txn is))
    (coe 1 0 (i. Shows (c.cluster.ensures i).schema group (versions_at version ((place ∙ applied_is) i)) (snapshot_listed now group))
    (shows_log schema version progress (log_of now.met) now.stored group r.follows r.owned position le)))
    (λ place.
    c.in_ok-answer.ensures.exact told s group (stored_rows now group) (stored_listed now group) same small of
    (λ txn is.
    subst (λ (cluster : Cluster). outcome cluster.schema txn (versions_at version at) ≡ outcome cluster.schema txn (stored_rows now group)) (sym c.cluster.ensures)
    (ap (λ (p : ℕ). outcome schema txn (versions_at version p)) (place ∙ prefix_is) ∙ stored_outcome version progress (log_of now.met) now.stored schema group r.follows r.owned txn is))
    (coe 1 0 (i. Shows (c.cluster.ensures i).schema group (versions_at version ((place ∙ prefix_is) i)) (stored_listed now group))
    (shows_stored schema version progress (log_of now.met) now.stored group r.follows r.owned)))
