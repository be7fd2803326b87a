use Rattle.std.proofs.Common.{◌≡◌, ◌∙◌, true, cond, List, [], ap, map, refl, subst, sym, rules}
use Rattle.std.specs.List.{All}
use Rattle.mega_base.specs.declared.names.GroupId.{GroupId}
use Rattle.mega_rules.specs.Members.{has_rows}
use Rattle.mega_rules.specs.Met.{Ticks}
use Rattle.mega_rules.specs.Steps.{Step as RuleStep, Tick, lapse_notes, lease_notes, portion_of}
use Rattle.mega_replica.specs.Following.{progress_at}
use Rattle.mega_replica.proofs.Using.{used_then}
use Rattle.mega_actions.specs.of_node_laws.About.{IsAbout}
use Rattle.mega_actions.specs.of_node_laws.Acted.{acted_on}
use Rattle.mega_actions.specs.of_step_work.Settings.{setting}
use Rattle.mega_actions.specs.Turns.{IsServable}
use Rattle.mega_node_events.specs.Faults.{failed_by}
use Rattle.mega_step_parts.specs.Positions.{before_at}
use Rattle.mega_lag.specs.Lagging.{KnowsLagging}
use Rattle.mega_node_events.specs.Represents.{Represents}
use Rattle.mega_step_parts.specs.Staging.{Stages}
use Rattle.mega_node_events.specs.Ticking.{has_ticked}
use Rattle.mega_step_parts.specs.Touching.{behind}
use Rattle.mega_core.proofs.Begun.{represents_keeps}
use Rattle.mega_core.proofs.Clocks.{tick_acts, tick_is, tick_may}
use Rattle.mega_node_events.proofs.Failing.{acted_store}
use Rattle.mega_core.proofs.Refused.{unserved_is}
use Rattle.mega_core.proofs.Anew.{few_stored}
use Rattle.mega_core.proofs.Lags.{others_kept, tick_kept}
use Rattle.mega_core.proofs.Untouched.{tick_noted}
use Rattle.mega_core.proofs.Watched.{at_behind, watched_noted}
use Rattle.mega_core.proofs.node.Node.tick.Goals as goal

pub returns-in_err-work-clause-built : goal.returns-in_err-work-clause-built
returns-in_err-work-clause-built g c = λ is h node stands.
    let represents = stands.within in
    c.in_err-work.ensures.unserved (search (rules, unserved_is)) (subst (All IsServable) (sym c.replace-opened.ensures.value) represents.built)

pub returns-in_err-work-clause-used : goal.returns-in_err-work-clause-used
returns-in_err-work-clause-used g c =
    used_then g.V.Versions (failed_by c.from_residual-in_err-work.result) c.args.self.now.replica.rows.rows c.ticks.new.replica.rows.rows c.acts_ticked.new.replica.rows.rows c.in_ok-made.ensures.used (search (rules, acted_store))

pub returns-clause-notes : goal.returns-clause-notes
returns-clause-notes g c = λ told h node means stands owned placed.
    let represents = stands.within in
    let r0 = c.args.self.now.replica in
    let r1 = c.ticks.new.replica in
    let r2 = c.acts_ticked.new.replica in
    let own_open = c.args.self.now.open in
    let begun = c.args.self.now.begun in
    let version = g.V.Versions.version r0.rows.rows in
    let progress = progress_at r0.rows.progress in
    let now = c.args.now in
    let s = setting r0.members r0.me h in
    let keeps = represents_keeps s r0.voter.logs.kept r0.leases version progress own_open begun node represents in
    let groups_are = c.in_ok-groups.ensures node.met node.stored keeps stands.lagging in
    let made1 = c.in_ok-made.ensures.ticked h node own_open begun represents groups_are owned in
    let t1 = setting r1.members r1.me h in
    let t2 = setting r2.members r2.me h in
    let t1_is : t1 ≡ s = (λ i. setting (c.in_ok-made.ensures.members i) (c.in_ok-made.ensures.me i) h) in
    let t2_is : t2 ≡ t1 = (λ i. setting (c.in_ok-work.ensures.leaves.members i) (c.in_ok-work.ensures.leaves.me i) h) in
    let operations = c.replace-opened.result in
    let about = subst (All IsAbout) (sym c.replace-opened.ensures.value) represents.about in
    let base = acted_on s node (Tick now) in
    let stored = portion_of s node.met node.stored in
    let acted = tick_acts s node now t1 t2 r0.voter.logs.kept r1.voter.logs.kept r2.voter.logs.kept r0.leases r2.leases version (g.V.Versions.version r2.rows.rows) progress (progress_at r2.rows.progress) own_open begun
    c.in_ok-work.work operations represents (c.replace-opened.ensures.value ∙ sym represents.opened) t1_is t2_is (λ i. (c.in_ok-work.ensures.leaves.voter i).logs.kept) (c.in_ok-work.ensures.leaves.indexed ∙ c.in_ok-made.ensures.indexed) made1.begun made1.stands.stands.tells
    (c.in_ok-work.ensures.state told h base stored means about made1.stands) (c.in_ok-work.ensures.work told h base stored means about made1.stands) in
    let is = tick_is s node now t2 c.in_ok-made.made.opening c.in_ok-made.made.closing (t2_is ∙ t1_is) made1.opening made1.closing in
    let groups = behind true node.met node.stored in
    let before = c.in_ok-before.ensures node.met node.stored keeps
    ∙ (ap (λ (some : List GroupId). cond (has_rows r0.members r0.me) (map (before_at node.met node.stored) some) []) (c.in_ok-copied.ensures ∙ groups_are)
    ∙ at_behind (has_rows r0.members r0.me) node.met node.stored (before_at node.met node.stored)) in
    let noted = watched_noted s t2 node groups c.in_ok-before.before (has_ticked s node now) (t2_is ∙ t1_is) before (tick_noted s node now (map (before_at node.met node.stored) groups) made1.groups made1.logs acted.acted refl) in
    let made = c.in_ok-step.ensures.made h node (Ticks now) (lease_notes s node.met now) (lapse_notes s node.met now) (has_ticked s node now) noted acted made1.notes (tick_may s node now _ is) in
    made.notes ∙ ap (λ (step : RuleStep). step.notes) is

pub returns-clause-sends : goal.returns-clause-sends
returns-clause-sends g c = λ told h node means stands owned placed.
    let represents = stands.within in
    let r0 = c.args.self.now.replica in
    let r1 = c.ticks.new.replica in
    let r2 = c.acts_ticked.new.replica in
    let own_open = c.args.self.now.open in
    let begun = c.args.self.now.begun in
    let version = g.V.Versions.version r0.rows.rows in
    let progress = progress_at r0.rows.progress in
    let now = c.args.now in
    let s = setting r0.members r0.me h in
    let keeps = represents_keeps s r0.voter.logs.kept r0.leases version progress own_open begun node represents in
    let groups_are = c.in_ok-groups.ensures node.met node.stored keeps stands.lagging in
    let made1 = c.in_ok-made.ensures.ticked h node own_open begun represents groups_are owned in
    let t1 = setting r1.members r1.me h in
    let t2 = setting r2.members r2.me h in
    let t1_is : t1 ≡ s = (λ i. setting (c.in_ok-made.ensures.members i) (c.in_ok-made.ensures.me i) h) in
    let t2_is : t2 ≡ t1 = (λ i. setting (c.in_ok-work.ensures.leaves.members i) (c.in_ok-work.ensures.leaves.me i) h) in
    let operations = c.replace-opened.result in
    let about = subst (All IsAbout) (sym c.replace-opened.ensures.value) represents.about in
    let base = acted_on s node (Tick now) in
    let stored = portion_of s node.met node.stored in
    let acted = tick_acts s node now t1 t2 r0.voter.logs.kept r1.voter.logs.kept r2.voter.logs.kept r0.leases r2.leases version (g.V.Versions.version r2.rows.rows) progress (progress_at r2.rows.progress) own_open begun
    c.in_ok-work.work operations represents (c.replace-opened.ensures.value ∙ sym represents.opened) t1_is t2_is (λ i. (c.in_ok-work.ensures.leaves.voter i).logs.kept) (c.in_ok-work.ensures.leaves.indexed ∙ c.in_ok-made.ensures.indexed) made1.begun made1.stands.stands.tells
    (c.in_ok-work.ensures.state told h base stored means about made1.stands) (c.in_ok-work.ensures.work told h base stored means about made1.stands) in
    let is = tick_is s node now t2 c.in_ok-made.made.opening c.in_ok-made.made.closing (t2_is ∙ t1_is) made1.opening made1.closing in
    let groups = behind true node.met node.stored in
    let before = c.in_ok-before.ensures node.met node.stored keeps
    ∙ (ap (λ (some : List GroupId). cond (has_rows r0.members r0.me) (map (before_at node.met node.stored) some) []) (c.in_ok-copied.ensures ∙ groups_are)
    ∙ at_behind (has_rows r0.members r0.me) node.met node.stored (before_at node.met node.stored)) in
    let noted = watched_noted s t2 node groups c.in_ok-before.before (has_ticked s node now) (t2_is ∙ t1_is) before (tick_noted s node now (map (before_at node.met node.stored) groups) made1.groups made1.logs acted.acted refl) in
    let made = c.in_ok-step.ensures.made h node (Ticks now) (lease_notes s node.met now) (lapse_notes s node.met now) (has_ticked s node now) noted acted made1.notes (tick_may s node now _ is) in
    made.sends ∙ ap (λ (step : RuleStep). step.sends) is

pub returns-clause-state : goal.returns-clause-state
returns-clause-state g c = λ told h node means stands owned placed.
    let represents = stands.within in
    let r0 = c.args.self.now.replica in
    let r1 = c.ticks.new.replica in
    let r2 = c.acts_ticked.new.replica in
    let own_open = c.args.self.now.open in
    let begun = c.args.self.now.begun in
    let version = g.V.Versions.version r0.rows.rows in
    let progress = progress_at r0.rows.progress in
    let now = c.args.now in
    let s = setting r0.members r0.me h in
    let keeps = represents_keeps s r0.voter.logs.kept r0.leases version progress own_open begun node represents in
    let groups_are = c.in_ok-groups.ensures node.met node.stored keeps stands.lagging in
    let made1 = c.in_ok-made.ensures.ticked h node own_open begun represents groups_are owned in
    let t1 = setting r1.members r1.me h in
    let t2 = setting r2.members r2.me h in
    let t1_is : t1 ≡ s = (λ i. setting (c.in_ok-made.ensures.members i) (c.in_ok-made.ensures.me i) h) in
    let t2_is : t2 ≡ t1 = (λ i. setting (c.in_ok-work.ensures.leaves.members i) (c.in_ok-work.ensures.leaves.me i) h) in
    let operations = c.replace-opened.result in
    let about = subst (All IsAbout) (sym c.replace-opened.ensures.value) represents.about in
    let base = acted_on s node (Tick now) in
    let stored = portion_of s node.met node.stored in
    let acted = tick_acts s node now t1 t2 r0.voter.logs.kept r1.voter.logs.kept r2.voter.logs.kept r0.leases r2.leases version (g.V.Versions.version r2.rows.rows) progress (progress_at r2.rows.progress) own_open begun
    c.in_ok-work.work operations represents (c.replace-opened.ensures.value ∙ sym represents.opened) t1_is t2_is (λ i. (c.in_ok-work.ensures.leaves.voter i).logs.kept) (c.in_ok-work.ensures.leaves.indexed ∙ c.in_ok-made.ensures.indexed) made1.begun made1.stands.stands.tells
    (c.in_ok-work.ensures.state told h base stored means about made1.stands) (c.in_ok-work.ensures.work told h base stored means about made1.stands) in
    let is = tick_is s node now t2 c.in_ok-made.made.opening c.in_ok-made.made.closing (t2_is ∙ t1_is) made1.opening made1.closing in
    let groups = behind true node.met node.stored in
    let before = c.in_ok-before.ensures node.met node.stored keeps
    ∙ (ap (λ (some : List GroupId). cond (has_rows r0.members r0.me) (map (before_at node.met node.stored) some) []) (c.in_ok-copied.ensures ∙ groups_are)
    ∙ at_behind (has_rows r0.members r0.me) node.met node.stored (before_at node.met node.stored)) in
    let noted = watched_noted s t2 node groups c.in_ok-before.before (has_ticked s node now) (t2_is ∙ t1_is) before (tick_noted s node now (map (before_at node.met node.stored) groups) made1.groups made1.logs acted.acted refl) in
    let made = c.in_ok-step.ensures.made h node (Ticks now) (lease_notes s node.met now) (lapse_notes s node.met now) (has_ticked s node now) noted acted made1.notes (tick_may s node now _ is) in
    let others = others_kept s t2 node groups c.in_ok-before.before c.args.self.now.lagging (has_ticked s node now) (t2_is ∙ t1_is) before
    (λ rows group none whole. tick_kept s node now rows (few_stored version progress node.met node.stored represents.follows) (subst (All IsServable) (sym represents.opened) represents.built) made1.logs acted.acted group whole) stands.lagging in
    let lag = c.in_ok-step.ensures.lagging h node (Ticks now) (lease_notes s node.met now) (lapse_notes s node.met now) (has_ticked s node now) acted others in
    let new = c.ends.new.self in
    record {
      within = subst (λ (step : RuleStep). Represents (setting new.replica.members new.replica.me h) new.replica.voter.logs.kept new.replica.leases new.replica.indexed new.replica.digest (g.V.Versions.version new.replica.rows.rows) (progress_at new.replica.rows.progress) new.open new.begun step.node) is made.state;
      lagging = subst (λ (step : RuleStep). KnowsLagging new.replica.members new.replica.me new.lagging step.node.met step.node.stored) is lag;
    }

pub returns-clause-staged : goal.returns-clause-staged
returns-clause-staged g c = λ told h node means stands owned placed since stages.
    let represents = stands.within in
    let r0 = c.args.self.now.replica in
    let r1 = c.ticks.new.replica in
    let r2 = c.acts_ticked.new.replica in
    let own_open = c.args.self.now.open in
    let begun = c.args.self.now.begun in
    let version = g.V.Versions.version r0.rows.rows in
    let progress = progress_at r0.rows.progress in
    let now = c.args.now in
    let s = setting r0.members r0.me h in
    let keeps = represents_keeps s r0.voter.logs.kept r0.leases version progress own_open begun node represents in
    let groups_are = c.in_ok-groups.ensures node.met node.stored keeps stands.lagging in
    let made1 = c.in_ok-made.ensures.ticked h node own_open begun represents groups_are owned in
    let t1 = setting r1.members r1.me h in
    let t2 = setting r2.members r2.me h in
    let t1_is : t1 ≡ s = (λ i. setting (c.in_ok-made.ensures.members i) (c.in_ok-made.ensures.me i) h) in
    let t2_is : t2 ≡ t1 = (λ i. setting (c.in_ok-work.ensures.leaves.members i) (c.in_ok-work.ensures.leaves.me i) h) in
    let operations = c.replace-opened.result in
    let about = subst (All IsAbout) (sym c.replace-opened.ensures.value) represents.about in
    let base = acted_on s node (Tick now) in
    let stored = portion_of s node.met node.stored in
    let acted = tick_acts s node now t1 t2 r0.voter.logs.kept r1.voter.logs.kept r2.voter.logs.kept r0.leases r2.leases version (g.V.Versions.version r2.rows.rows) progress (progress_at r2.rows.progress) own_open begun
    c.in_ok-work.work operations represents (c.replace-opened.ensures.value ∙ sym represents.opened) t1_is t2_is (λ i. (c.in_ok-work.ensures.leaves.voter i).logs.kept) (c.in_ok-work.ensures.leaves.indexed ∙ c.in_ok-made.ensures.indexed) made1.begun made1.stands.stands.tells
    (c.in_ok-work.ensures.state told h base stored means about made1.stands) (c.in_ok-work.ensures.work told h base stored means about made1.stands) in
    let is = tick_is s node now t2 c.in_ok-made.made.opening c.in_ok-made.made.closing (t2_is ∙ t1_is) made1.opening made1.closing in
    let mid = coe 1 0 (i. Stages (c.in_ok-work.ensures.leaves.voter i).logs.staged.items since base) (c.in_ok-made.ensures.staged h node own_open begun since represents stages) in
    let after = c.in_ok-step.ensures.staged h node (Ticks now) (lease_notes s node.met now) (lapse_notes s node.met now) (has_ticked s node now) since acted (tick_may s node now _ is) mid in
    subst (λ (step : RuleStep). Stages c.ends.new.self.replica.voter.logs.staged.items since step.node.met) is after
