use Rattle.std.proofs.Common.{◌∙◌, ◌++◌, ◌∷◌, List, map, subst}
use Rattle.mega_wire.specs.declared.message.Message.{Message}
use Rattle.mega_rules.specs.Met.{Met, Sends}
use Rattle.mega_rules.specs.Steps.{onto}
use Rattle.mega_actions.specs.of_node_laws.Sending.{MaySend}
use Rattle.mega_replica.specs.Following.{progress_at}
use Rattle.mega_step_parts.specs.of_voter.Telling.{Tells}
use Rattle.mega_actions.specs.of_step_work.Settings.{setting}
use Rattle.mega_step_parts.specs.Staging.{Stages}
use Rattle.mega_step_parts.specs.Behind.{is_behind}
use Rattle.mega_lag.specs.Lagging.{is_watched, lags}
use Rattle.mega_core.proofs.Ended.{acted_tells, step_behind, step_made, step_staged}
use Rattle.mega_core.proofs.Lags.{lags_then}
use Rattle.mega_core.proofs.node.Node.ends.Goals as goal

pub returns-clause-made : goal.returns-clause-made
returns-clause-made g c = λ h node own locks durable now before acted first may.
    let r = c.args.self.now.replica in
    let s = setting r.members r.me h in
    let version = g.V.Versions.version r.rows.rows in
    let progress = progress_at r.rows.progress in
    let base = onto durable (onto locks (own ∷ node.met)) in
    step_made s node own locks durable c.args.opening c.args.closing now r.voter.logs.kept c.tell_all_sent.new.voter.logs.kept r.leases version progress c.args.self.now.begun c.args.work
    c.args.first c.in_ok-applies.applies c.in_ok-notes.notes c.in_ok-sends.sends acted first
    (c.in_ok-applies.ensures.notes now.met now.stored (acted_tells s r.voter.logs.kept r.leases version progress c.args.self.now.begun c.args.work base now acted)
    ∙ before)
    c.in_ok-notes.ensures c.in_ok-sends.ensures may
    (subst (λ (all : List Message). (met : List Met) → MaySend met all → Tells r.voter.logs.kept met → Tells c.tell_all_sent.new.voter.logs.kept (onto (map Sends all) met)) c.as_slice.ensures c.in_ok-tell_all_sent.ensures.kept)

pub returns-clause-staged : goal.returns-clause-staged
returns-clause-staged g c = λ h node own locks durable now before acted may stages.
    let r = c.args.self.now.replica in
    let s = setting r.members r.me h in
    let old = r.voter.logs in
    let new = c.tell_all_sent.new.voter.logs in
    step_staged s node own locks durable c.args.opening c.args.closing now old.kept old.staged.items new.staged.items r.leases (g.V.Versions.version r.rows.rows) (progress_at r.rows.progress) c.args.self.now.begun c.args.work
    c.in_ok-sends.sends before acted c.in_ok-sends.ensures may
    (subst (λ (all : List Message). (before met : List Met) → MaySend met all → Tells old.kept met → Stages old.staged.items before met → Stages new.staged.items before (onto (map Sends all) met)) c.as_slice.ensures c.in_ok-tell_all_sent.ensures.staged)
    stages

pub returns-clause-lagging : goal.returns-clause-lagging
returns-clause-lagging g c = λ h node own locks durable now acted others rows group out.
    let r = c.args.self.now.replica in
    let s = setting r.members r.me h in
    let base = onto durable (onto locks (own ∷ node.met)) in
    let keeps = acted_tells s r.voter.logs.kept r.leases (g.V.Versions.version r.rows.rows) (progress_at r.rows.progress) c.args.self.now.begun c.args.work base now acted in
    step_behind s node own locks durable ((c.args.opening ++ now.sends) ++ c.args.closing) now acted.acted group
    ∙ lags_then (is_watched c.args.before group) (is_behind now.met now.stored group) (lags c.args.self.now.lagging group) (lags c.notes_watched.new.lagging group)
    (c.in_ok-applies.ensures.lagging now.met now.stored keeps group) out (λ none old. others rows group none old)
