use Rattle.std.proofs.Common.{◌≤◌, ◌∙◌, Bool, ap, sym, refl, arith}
use Rattle.mega_outcome.specs.Answers.{rows_at as versions_at}
use Rattle.mega_marks.proofs.of_node_laws.Applied.{applied_within}
use Rattle.mega_pumps.specs.Owns.{own_by}
use Rattle.mega_rules.specs.Acting.{enters, listed_at}
use Rattle.mega_rules.specs.Logs.{log_of, prefix_of}
use Rattle.mega_view.specs.Shows.{Shows}
use Rattle.mega_step_work.specs.Reaching.{operation_of}
use Rattle.mega_step_work.specs.Settings.{setting}
use Rattle.mega_answers.proofs.Logged.{shows_log}
use Rattle.mega_answers.proofs.Serving.{enters_room, handles_room}
use Rattle.mega_answers.proofs.Refused.{used_looks}
use Rattle.mega_answers.proofs.pumping.decides.Goals as goal

pub returns-then-is_entering-clause-own : goal.returns-then-is_entering-clause-own
returns-then-is_entering-clause-own g c told me h progress leases now means pump room le stands noted =
    let s = setting c.args.members.now me h in
    let reached = c.args.reached.now in
    let kept = reached.kept in
    let o = operation_of reached in
    let own = c.in_ok-own.own in
    let inside = applied_within (log_of now.met reached.group) (now.stored reached.group) in
    let within : reached.position ≤ prefix_of now.met reached.group = omega (arith, le, inside) in
    let entering = sym c.is_entering.ensures ∙ c.if-is_entering.true in
    ap (λ (t : Bool). own_by t s now o reached.group reached.reading reached.position own) entering
    ∙ c.in_ok-own.ensures s now o reached.reading stands.tells (c.in_ok-note_through.ensures now.met stands.tells within noted) within refl
    ∙ ap (enters s now o reached.group reached.reading reached.position) c.as_ref-message.ensures.value
    ∙ sym (enters_room s now reached.group reached.reading reached.position kept.id kept.began kept.visited kept.message kept.request entering room)

pub returns-in-Ok-clause-own : goal.returns-in-Ok-clause-own
returns-in-Ok-clause-own g c told me h progress leases now means pump room le stands noted =
    let s = setting c.args.members.now me h in
    let reached = c.args.reached.now in
    let kept = reached.kept in
    let o = operation_of reached in
    let own = c.in-Ok.own in
    let version = g.V.Versions.version c.args.rows.now in
    let inside = applied_within (log_of now.met reached.group) (now.stored reached.group) in
    let within : reached.position ≤ prefix_of now.met reached.group = omega (arith, le, inside) in
    let entering = sym c.is_entering.ensures ∙ c.if-is_entering.false in
    let shows = shows_log c.args.members.now.schema version progress (log_of now.met) now.stored reached.group stands.follows stands.owned reached.position le in
    ap (λ (t : Bool). own_by t s now o reached.group reached.reading reached.position own) entering
    ∙ c.in-Ok.ensures.own told s now o reached.reading means (λ i. (sym c.cluster.ensures i).schema) stands.tells (c.in_ok-note_through.ensures now.met stands.tells within noted) within
    (coe 1 0 (i. Shows (c.cluster.ensures i).schema reached.group (versions_at version reached.position) (listed_at now reached.group reached.position)) shows) refl
    ∙ sym (handles_room s now reached.group reached.reading reached.position kept.id kept.began kept.visited kept.message kept.request pump entering room)

pub returns-in-Ok-clause-versions : goal.returns-in-Ok-clause-versions
returns-in-Ok-clause-versions g c key p = λ i. c.in-Ok.ensures.looks.looked.versions i key p

pub returns-in-Ok-clause-used : goal.returns-in-Ok-clause-used
returns-in-Ok-clause-used g c = used_looks g.V.Versions _ c.args.rows.now c.handles.new.rows c.in-Ok.ensures.looks
