use Rattle.std.proofs.Common.{◌≡◌, ◌∙◌, ◌<◌, ◌+◌, ◌∷◌, ap, subst, sym}
use Rattle.mega_cluster.specs.declared.cluster.Cluster.{Cluster}
use Rattle.mega_rules.specs.Logs.{log_of}
use Rattle.mega_rules.specs.Met.{Starts}
use Rattle.mega_rules.specs.Steps.{onto, start, start_notes}
use Rattle.mega_step_parts.specs.of_leases.Tells.{Tells as TellsLeases}
use Rattle.mega_replica.specs.Following.{Follows, progress_at}
use Rattle.mega_step_parts.specs.of_voter.Telling.{Tells}
use Rattle.mega_actions.specs.of_step_work.Settings.{setting}
use Rattle.mega_lag.specs.Lagging.{KnowsLagging}
use Rattle.mega_node_events.specs.Represents.{Represents}
use Rattle.mega_core.specs.Restarting.{HaveFollowed, applied_at_start}
use Rattle.mega_actions.proofs.of_pumps.Lasting.{anew_noted}
use Rattle.mega_core.proofs.Anew.{followed_on, restarted}
use Rattle.mega_core.proofs.Lags.{restarted_whole}
use Rattle.mega_core.proofs.Unshown.{started_marks}
use Rattle.mega_core.proofs.node.Node.restart.Goals as goal

pub returns-clause-state : goal.returns-clause-state
returns-clause-state g c = λ h starts met owed are recalls have.
    let cluster = c.args.cluster in
    let me = c.args.me in
    let kept = c.begins.new.voter.logs.kept in
    let leases = c.leases-leases.result in
    let version = g.V.Versions.version c.apply_where_kept.new.rows.rows in
    let progress = progress_at c.apply_where_kept.new.rows.progress in
    let members_is : c.in_ok-members.members ≡ cluster = c.in_ok-members.ensures in
    let now = onto owed (Starts (starts + 1) ∷ met) in
    let tells = c.in_ok-start.ensures.told starts met owed are recalls in
    let number : c.in_ok-start.start ≡ starts + 1 = c.in_ok-start.ensures.number ∙ ap (λ n. n + 1) recalls.counted in
    let few : starts < 4294967295 = subst (λ n. n < 4294967295) recalls.counted c.in_ok-start.ensures.few in
    let leased = coe 0 1 (i. TellsLeases ((c.cluster.ensures ∙ members_is) i) me leases (onto owed (Starts (number i) ∷ met)))
    (c.leases-leases.ensures met owed are (subst (λ n. Tells kept (onto owed (Starts n ∷ met))) (sym number) tells)) in
    let rows = c.args.rows in
    let here = followed_on cluster me (g.V.Versions.version rows.rows) (progress_at rows.progress) c.args.voter.logs.kept starts met owed are few recalls have in
    let there = subst (λ (k : Cluster). HaveFollowed k me (g.V.Versions.version rows.rows) (progress_at rows.progress) now) (sym (c.cluster-2.ensures ∙ members_is)) here in
    let follows = coe 0 1 (i. Follows version progress (log_of now) (applied_at_start (setting ((c.cluster-2.ensures ∙ members_is) i) me h) now))
    (c.in_ok-notes.ensures.follows h now tells there) in
    let indexed = c.new-indexed.result in
    let digest = c.new-digest.result in
    let marked = c.new-indexed.ensures.indexed cluster.schema (start (setting cluster me h) (starts + 1) owed met).met (started_marks (setting cluster me h) (starts + 1) owed met are) in
    let first = restarted cluster me h c.args.voter.logs.kept kept leases indexed digest version progress starts met owed c.requires.member c.requires.served.small are few recalls tells leased follows marked (anew_noted kept digest c.new-digest.ensures) in
    let lagging = c.new-2.result in
    let ruled = start (setting cluster me h) (starts + 1) owed met in
    record {
      within = coe 0 1 (i. Represents (setting (sym members_is i) me h) kept leases indexed digest version progress (sym c.new.ensures i) 0 (start (setting cluster me h) (starts + 1) owed met)) first;
      lagging = subst (λ (one : Cluster). KnowsLagging one me lagging ruled.met ruled.stored) (sym members_is) (restarted_whole lagging cluster me h c.args.voter.logs.kept starts met owed are few recalls);
    }

pub returns-clause-notes : goal.returns-clause-notes
returns-clause-notes g c = λ h starts met owed are recalls.
    let now = onto owed (Starts (starts + 1) ∷ met) in
    let tells = c.in_ok-start.ensures.told starts met owed are recalls in
    c.in_ok-notes.ensures.notes h now tells ∙ ap (λ (cluster : Cluster). start_notes (setting cluster c.args.me h) now) (c.cluster-2.ensures ∙ c.in_ok-members.ensures)
