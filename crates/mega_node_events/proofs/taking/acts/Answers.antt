use Rattle.std.proofs.Common.{◌≡◌, ◌∙◌, ◌++◌, List, None, Err, All, ap, map, subst, rules}
use Rattle.mega_meanings.proofs.Lasting.{means_still}
use Rattle.mega_rules.specs.Operations.{Now, Setting}
use Rattle.mega_rules.specs.Steps.{Heard, all_act, at_first}
use Rattle.mega_actions.specs.of_answers.Faults.{failed_by}
use Rattle.mega_actions.specs.of_answers.declared.fault.ActFault.TheVariants as act
use Rattle.mega_actions.specs.IsAt.{IsAt}
use Rattle.mega_actions.specs.Leaves.{Leaves}
use Rattle.mega_actions.specs.Turns.{IsHeardAbout, IsServableHeard, unheard}
use Rattle.mega_actions.specs.of_step_work.Settings.{setting}
use Rattle.mega_actions.specs.of_step_work.Working.{work_of}
use Rattle.mega_actions.proofs.Leaving.{leaves_then}
use Rattle.mega_node_events.proofs.Rested.{acts_both, all_first, all_of_unheard, all_second}
use Rattle.mega_node_events.proofs.taking.acts.Goals as goal

pub returns-in_ok-all_act-in-Ok-clause-state : goal.returns-in_ok-all_act-in-Ok-clause-state
returns-in_ok-all_act-in-Ok-clause-state g c told h met stored means =
    let before = c.args.replica.now in
    let mid = c.all_rest.new.self in
    let new = c.all_act.new.self in
    let version = g.V.Versions.version in
    let s = setting before.members before.me h in
    let t = setting mid.members mid.me h in
    let left = c.in-Ok.ensures.leaves in
    let same : t ≡ s = (λ i. setting (left.members i) (left.me i) h) in
    let first = at_first met stored in
    let os = c.heard.inside.unmoved in
    let ts = c.heard.inside.heard in
    subst (λ (all : List Heard). All IsHeardAbout all → IsAt version h before met stored → IsAt version h new (all_act s first all).met (all_act s first all).stored) c.heard.view_is
    (λ about at.
    let rested = c.in-Ok.ensures.state h met stored told means (all_of_unheard IsHeardAbout os (all_first IsHeardAbout (map unheard os) ts about)) at in
    subst (λ (then : Now). IsAt version h new then.met then.stored) (acts_both s t first os ts same)
    (c.in_ok-all_act-in-Ok.ensures.state h (all_act s first (map unheard os)) told (means_still _ _ h left.handlers means) (all_second IsHeardAbout (map unheard os) ts about) rested))

pub returns-in_ok-all_act-in-Ok-clause-work : goal.returns-in_ok-all_act-in-Ok-clause-work
returns-in_ok-all_act-in-Ok-clause-work g c told h met stored means =
    let before = c.args.replica.now in
    let mid = c.all_rest.new.self in
    let version = g.V.Versions.version in
    let s = setting before.members before.me h in
    let t = setting mid.members mid.me h in
    let left = c.in-Ok.ensures.leaves in
    let same : t ≡ s = (λ i. setting (left.members i) (left.me i) h) in
    let first = at_first met stored in
    let os = c.heard.inside.unmoved in
    let ts = c.heard.inside.heard in
    subst (λ (all : List Heard). All IsHeardAbout all → IsAt version h before met stored → c.all_act.new.work ≡ work_of (all_act s first all)) c.heard.view_is
    (λ about at.
    let quiet = all_of_unheard IsHeardAbout os (all_first IsHeardAbout (map unheard os) ts about) in
    c.in_ok-all_act-in-Ok.ensures.work h (all_act s first (map unheard os)) told (means_still _ _ h left.handlers means) (all_second IsHeardAbout (map unheard os) ts about)
    (c.in-Ok.ensures.state h met stored told means quiet at) (c.in-Ok.ensures.work h met stored told means quiet at)
    ∙ ap work_of (acts_both s t first os ts same))

pub returns-in_ok-all_act-in-Ok-clause-leaves : goal.returns-in_ok-all_act-in-Ok-clause-leaves
returns-in_ok-all_act-in-Ok-clause-leaves g c =
    let mid = c.all_rest.new in
    let new = c.all_act.new in
    let meant = g.H.QueueHandlers.meant in
    leaves_then g.V.Versions None (meant c.args.handlers.now) (meant mid.handlers) (meant new.handlers) c.args.replica.now mid.self new.self c.in-Ok.ensures.leaves c.in_ok-all_act-in-Ok.ensures.leaves

pub returns-in_err-all_act-in-Ok-clause-leaves : goal.returns-in_err-all_act-in-Ok-clause-leaves
returns-in_err-all_act-in-Ok-clause-leaves g c =
    let mid = c.all_rest.new in
    let new = c.all_act.new in
    let meant = g.H.QueueHandlers.meant in
    let rest : Leaves g.V.Versions (failed_by c.from_residual.result) (meant mid.handlers) (meant new.handlers) mid.self new.self = search rules in
    leaves_then g.V.Versions (failed_by c.from_residual.result) (meant c.args.handlers.now) (meant mid.handlers) (meant new.handlers) c.args.replica.now mid.self new.self c.in-Ok.ensures.leaves rest

pub returns-in_err-all_act-in-Ok-clause-unserved : goal.returns-in_err-all_act-in-Ok-clause-unserved
returns-in_err-all_act-in-Ok-clause-unserved g c is =
    let os = c.heard.inside.unmoved in
    let ts = c.heard.inside.heard in
    let rest : c.from_residual.result ≡ Err act.Unserved → All IsServableHeard ts → ⊥ = search rules in
    subst (λ (all : List Heard). All IsServableHeard all → ⊥) c.heard.view_is (λ servable. rest is (all_second IsServableHeard (map unheard os) ts servable))

pub returns-in-Err-clause-unserved : goal.returns-in-Err-clause-unserved
returns-in-Err-clause-unserved g c is =
    let os = c.heard.inside.unmoved in
    let ts = c.heard.inside.heard in
    subst (λ (all : List Heard). All IsServableHeard all → ⊥) c.heard.view_is
    (λ servable. c.in-Err.ensures.unserved is (all_of_unheard IsServableHeard os (all_first IsServableHeard (map unheard os) ts servable)))
