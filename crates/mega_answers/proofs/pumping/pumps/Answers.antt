use Rattle.std.proofs.Common.{◌≤◌, ◌∙◌, ap, sym, arith}
use Rattle.mega_marks.proofs.of_node_laws.Applied.{applied_within}
use Rattle.mega_replica.specs.Following.{progress_at}
use Rattle.mega_replica.proofs.Growing.{follows_same}
use Rattle.mega_rules.specs.Acting.{Rests}
use Rattle.mega_rules.specs.Logs.{log_of, prefix_of}
use Rattle.mega_step_work.specs.Settings.{setting}
use Rattle.mega_answers.proofs.Serving.{pump_full}
use Rattle.mega_answers.proofs.Standing.{stands_seen}
use Rattle.mega_answers.proofs.pumping.pumps.Goals as goal

pub returns-then-is_limit-clause-pumped : goal.returns-then-is_limit-clause-pumped
returns-then-is_limit-clause-pumped g c told me h now means pump le stands noted =
    let reached = c.args.reached in
    let kept = reached.kept in
    ap Rests (c.ends.ensures now)
    ∙ sym (pump_full (setting c.args.members.now me h) now reached.group reached.reading reached.position kept.id kept.began kept.visited kept.message kept.request pump (sym c.is_limit.ensures.exact ∙ c.if-is_limit.true))

pub returns-in_ok-pumped-in-Ok-clause-pumped : goal.returns-in_ok-pumped-in-Ok-clause-pumped
returns-in_ok-pumped-in-Ok-clause-pumped g c told me h now means pump le stands noted =
    let s = setting c.args.members.now me h in
    let reached = c.args.reached in
    let kept = c.args.voter.now.logs.kept in
    let version = g.V.Versions.version in
    let rows = c.args.rows.now in
    let room = sym c.is_limit.ensures.exact ∙ c.if-is_limit.false in
    let inside = applied_within (log_of now.met reached.group) (now.stored reached.group) in
    let within : reached.position ≤ prefix_of now.met reached.group = omega (arith, le, inside) in
    let seen = stands_seen s kept c.args.leases.now (version rows.rows) (progress_at rows.progress) now.stored (version c.decides.new.rows) now.met c.decides.ensures.versions stands in
    c.in_ok-pumped-in-Ok.ensures.pumped me h now seen (c.in-Ok.ensures.noted now.met stands.tells within noted)
    ∙ c.in-Ok.ensures.own told me h (progress_at rows.progress) c.args.leases.now now means pump room le stands noted

pub returns-in_ok-pumped-in-Ok-clause-noted : goal.returns-in_ok-pumped-in-Ok-clause-noted
returns-in_ok-pumped-in-Ok-clause-noted g c = λ met stored tells le follows noted.
    let reached = c.args.reached in
    let version = g.V.Versions.version in
    let rows = c.args.rows.now in
    let inside = applied_within (log_of met reached.group) (stored reached.group) in
    let within : reached.position ≤ prefix_of met reached.group = omega (arith, le, inside) in
    c.in_ok-pumped-in-Ok.ensures.noted met stored tells (follows_same (version rows.rows) (version c.decides.new.rows) (progress_at rows.progress) (log_of met) stored c.decides.ensures.versions follows)
    (c.in-Ok.ensures.noted met tells within noted)
