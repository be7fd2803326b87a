use Rattle.std.proofs.Common.{◌≡◌, ◌∙◌, cond, List, [], ap, map, refl, subst, sym, rules}
use Rattle.std.specs.List.{All}
use Rattle.mega_base.specs.declared.names.GroupId.{GroupId}
use Rattle.mega_rules.specs.Members.{has_rows}
use Rattle.mega_rules.specs.Clock.{clock_of}
use Rattle.mega_rules.specs.Met.{Takes}
use Rattle.mega_rules.specs.Steps.{Step as RuleStep, Take, decision_note, hears_message, stored_after, told_notes}
use Rattle.mega_replica.proofs.Using.{used_then}
use Rattle.mega_replica.specs.Following.{progress_at}
use Rattle.mega_actions.specs.of_node_laws.Acted.{acted_on, decision_in}
use Rattle.mega_actions.specs.of_step_work.Settings.{setting}
use Rattle.mega_actions.specs.Turns.{IsServable}
use Rattle.mega_step_parts.specs.Positions.{before_at}
use Rattle.mega_node_events.specs.Faults.{failed_by}
use Rattle.mega_lag.specs.Lagging.{KnowsLagging}
use Rattle.mega_node_events.specs.Represents.{Represents}
use Rattle.mega_step_parts.specs.Staging.{Stages}
use Rattle.mega_node_events.specs.Taking.{has_taken}
use Rattle.mega_step_parts.specs.Touching.{touched}
use Rattle.mega_core.proofs.Begun.{represents_keeps}
use Rattle.mega_core.proofs.Messages.{heard_are_about, heard_are_built, take_acts, take_is, take_may}
use Rattle.mega_core.proofs.Refused.{unserved_is}
use Rattle.mega_core.proofs.Lags.{others_kept, take_kept}
use Rattle.mega_core.proofs.Untouched.{heard_by, take_noted}
use Rattle.mega_core.proofs.Watched.{watched_noted}
use Rattle.mega_node_events.proofs.Failing.{acted_store}
use Rattle.mega_core.proofs.node.Node.take.Goals as goal

pub returns-in_err-work-clause-built : goal.returns-in_err-work-clause-built
returns-in_err-work-clause-built g c = λ is h node stands.
    let represents = stands.within in
    let r0 = c.args.self.now.replica in
    let version = g.V.Versions.version r0.rows.rows in
    let progress = progress_at r0.rows.progress in
    let s = setting r0.members r0.me h in
    let clock_is : c.now-clock.result ≡ clock_of node.met = c.now-clock.ensures r0.members r0.me node.met represents.leased in
    let heard_is : c.in_ok-heard.heard ≡ heard_by s node c.args.message.now =
    c.in_ok-heard.ensures s refl ∙ (λ i. map (hears_message s (clock_is i) c.args.message.now) ((c.replace-opened.ensures.value ∙ sym represents.opened) i)) in
    c.in_err-work.ensures.unserved (search (rules, unserved_is))
    (heard_are_built s node c.args.message.now r0.voter.logs.kept r0.leases version progress c.args.self.now.open c.args.self.now.begun c.in_ok-taken.taken.heard represents (c.in_ok-taken.ensures.heard ∙ heard_is))

pub returns-in_err-work-clause-used : goal.returns-in_err-work-clause-used
returns-in_err-work-clause-used g c =
    used_then g.V.Versions (failed_by c.from_residual-in_err-work.result) c.args.self.now.replica.rows.rows c.takes.new.replica.rows.rows c.acts.new.replica.rows.rows c.in_ok-taken.ensures.used (search (rules, acted_store))

pub returns-clause-notes : goal.returns-clause-notes
returns-clause-notes g c = λ told h node means stands owned placed.
    let represents = stands.within in
    let r0 = c.args.self.now.replica in
    let r1 = c.takes.new.replica in
    let r2 = c.acts.new.replica in
    let own_open = c.args.self.now.open in
    let begun = c.args.self.now.begun in
    let version = g.V.Versions.version r0.rows.rows in
    let progress = progress_at r0.rows.progress in
    let m = c.args.message.now in
    let s = setting r0.members r0.me h in
    let clock_is : c.now-clock.result ≡ clock_of node.met = c.now-clock.ensures r0.members r0.me node.met represents.leased in
    let heard_is : c.in_ok-heard.heard ≡ heard_by s node m =
    c.in_ok-heard.ensures s refl ∙ (λ i. map (hears_message s (clock_is i) m) ((c.replace-opened.ensures.value ∙ sym represents.opened) i)) in
    let taken = c.in_ok-taken.ensures.taken h node own_open begun represents heard_is owned placed in
    let heard = c.in_ok-taken.taken.heard in
    let t1 = setting r1.members r1.me h in
    let t2 = setting r2.members r2.me h in
    let t1_is : t1 ≡ s = (λ i. setting (c.in_ok-taken.ensures.members i) (c.in_ok-taken.ensures.me i) h) in
    let t2_is : t2 ≡ t1 = (λ i. setting (c.in_ok-work.ensures.leaves.members i) (c.in_ok-work.ensures.leaves.me i) h) in
    let about = heard_are_about s node m r0.voter.logs.kept r0.leases version progress own_open begun heard represents taken.heard in
    let base = acted_on s node (Take m) in
    let stored = stored_after s base node.stored (decision_in s node m) in
    let acted = take_acts s node m t1 t2 r0.voter.logs.kept r1.voter.logs.kept r2.voter.logs.kept r0.leases r2.leases version (g.V.Versions.version r2.rows.rows) progress (progress_at r2.rows.progress) own_open begun
    c.in_ok-work.work heard represents taken.heard t1_is t2_is (λ i. (c.in_ok-work.ensures.leaves.voter i).logs.kept) (c.in_ok-work.ensures.leaves.indexed ∙ c.in_ok-taken.ensures.indexed) taken.stands.stands.tells
    (c.in_ok-work.ensures.state told h base stored means about taken.stands) (c.in_ok-work.ensures.work told h base stored means about taken.stands) in
    let is = take_is s node m t2 c.in_ok-taken.taken.sends c.new-2.result (t2_is ∙ t1_is) taken.sends c.new-2.ensures in
    let keeps = represents_keeps s r0.voter.logs.kept r0.leases version progress own_open begun node represents in
    let groups = touched node.met m.body (heard_by s node m) in
    let groups_are : c.in_ok-groups.groups ≡ groups = c.in_ok-groups.ensures node.met represents.tells ∙ ap (touched node.met m.body) heard_is in
    let before = c.in_ok-before.ensures node.met node.stored keeps ∙ ap (λ (some : List GroupId). cond (has_rows r0.members r0.me) (map (before_at node.met node.stored) some) []) groups_are in
    let noted = watched_noted s t2 node groups c.in_ok-before.before (has_taken s node m) (t2_is ∙ t1_is) before (take_noted s node m (map (before_at node.met node.stored) groups) (subst (All IsServable) (sym represents.opened) represents.built) acted.acted refl) in
    let made = c.in_ok-step.ensures.made h node (Takes m) (told_notes s node.met m.from m.body) (decision_note (decision_in s node m)) (has_taken s node m) noted acted taken.notes (take_may s node m _ is) in
    made.notes ∙ ap (λ (step : RuleStep). step.notes) is

pub returns-clause-sends : goal.returns-clause-sends
returns-clause-sends g c = λ told h node means stands owned placed.
    let represents = stands.within in
    let r0 = c.args.self.now.replica in
    let r1 = c.takes.new.replica in
    let r2 = c.acts.new.replica in
    let own_open = c.args.self.now.open in
    let begun = c.args.self.now.begun in
    let version = g.V.Versions.version r0.rows.rows in
    let progress = progress_at r0.rows.progress in
    let m = c.args.message.now in
    let s = setting r0.members r0.me h in
    let clock_is : c.now-clock.result ≡ clock_of node.met = c.now-clock.ensures r0.members r0.me node.met represents.leased in
    let heard_is : c.in_ok-heard.heard ≡ heard_by s node m =
    c.in_ok-heard.ensures s refl ∙ (λ i. map (hears_message s (clock_is i) m) ((c.replace-opened.ensures.value ∙ sym represents.opened) i)) in
    let taken = c.in_ok-taken.ensures.taken h node own_open begun represents heard_is owned placed in
    let heard = c.in_ok-taken.taken.heard in
    let t1 = setting r1.members r1.me h in
    let t2 = setting r2.members r2.me h in
    let t1_is : t1 ≡ s = (λ i. setting (c.in_ok-taken.ensures.members i) (c.in_ok-taken.ensures.me i) h) in
    let t2_is : t2 ≡ t1 = (λ i. setting (c.in_ok-work.ensures.leaves.members i) (c.in_ok-work.ensures.leaves.me i) h) in
    let about = heard_are_about s node m r0.voter.logs.kept r0.leases version progress own_open begun heard represents taken.heard in
    let base = acted_on s node (Take m) in
    let stored = stored_after s base node.stored (decision_in s node m) in
    let acted = take_acts s node m t1 t2 r0.voter.logs.kept r1.voter.logs.kept r2.voter.logs.kept r0.leases r2.leases version (g.V.Versions.version r2.rows.rows) progress (progress_at r2.rows.progress) own_open begun
    c.in_ok-work.work heard represents taken.heard t1_is t2_is (λ i. (c.in_ok-work.ensures.leaves.voter i).logs.kept) (c.in_ok-work.ensures.leaves.indexed ∙ c.in_ok-taken.ensures.indexed) taken.stands.stands.tells
    (c.in_ok-work.ensures.state told h base stored means about taken.stands) (c.in_ok-work.ensures.work told h base stored means about taken.stands) in
    let is = take_is s node m t2 c.in_ok-taken.taken.sends c.new-2.result (t2_is ∙ t1_is) taken.sends c.new-2.ensures in
    let keeps = represents_keeps s r0.voter.logs.kept r0.leases version progress own_open begun node represents in
    let groups = touched node.met m.body (heard_by s node m) in
    let groups_are : c.in_ok-groups.groups ≡ groups = c.in_ok-groups.ensures node.met represents.tells ∙ ap (touched node.met m.body) heard_is in
    let before = c.in_ok-before.ensures node.met node.stored keeps ∙ ap (λ (some : List GroupId). cond (has_rows r0.members r0.me) (map (before_at node.met node.stored) some) []) groups_are in
    let noted = watched_noted s t2 node groups c.in_ok-before.before (has_taken s node m) (t2_is ∙ t1_is) before (take_noted s node m (map (before_at node.met node.stored) groups) (subst (All IsServable) (sym represents.opened) represents.built) acted.acted refl) in
    let made = c.in_ok-step.ensures.made h node (Takes m) (told_notes s node.met m.from m.body) (decision_note (decision_in s node m)) (has_taken s node m) noted acted taken.notes (take_may s node m _ is) in
    made.sends ∙ ap (λ (step : RuleStep). step.sends) is

pub returns-clause-state : goal.returns-clause-state
returns-clause-state g c = λ told h node means stands owned placed.
    let represents = stands.within in
    let r0 = c.args.self.now.replica in
    let r1 = c.takes.new.replica in
    let r2 = c.acts.new.replica in
    let own_open = c.args.self.now.open in
    let begun = c.args.self.now.begun in
    let version = g.V.Versions.version r0.rows.rows in
    let progress = progress_at r0.rows.progress in
    let m = c.args.message.now in
    let s = setting r0.members r0.me h in
    let clock_is : c.now-clock.result ≡ clock_of node.met = c.now-clock.ensures r0.members r0.me node.met represents.leased in
    let heard_is : c.in_ok-heard.heard ≡ heard_by s node m =
    c.in_ok-heard.ensures s refl ∙ (λ i. map (hears_message s (clock_is i) m) ((c.replace-opened.ensures.value ∙ sym represents.opened) i)) in
    let taken = c.in_ok-taken.ensures.taken h node own_open begun represents heard_is owned placed in
    let heard = c.in_ok-taken.taken.heard in
    let t1 = setting r1.members r1.me h in
    let t2 = setting r2.members r2.me h in
    let t1_is : t1 ≡ s = (λ i. setting (c.in_ok-taken.ensures.members i) (c.in_ok-taken.ensures.me i) h) in
    let t2_is : t2 ≡ t1 = (λ i. setting (c.in_ok-work.ensures.leaves.members i) (c.in_ok-work.ensures.leaves.me i) h) in
    let about = heard_are_about s node m r0.voter.logs.kept r0.leases version progress own_open begun heard represents taken.heard in
    let base = acted_on s node (Take m) in
    let stored = stored_after s base node.stored (decision_in s node m) in
    let acted = take_acts s node m t1 t2 r0.voter.logs.kept r1.voter.logs.kept r2.voter.logs.kept r0.leases r2.leases version (g.V.Versions.version r2.rows.rows) progress (progress_at r2.rows.progress) own_open begun
    c.in_ok-work.work heard represents taken.heard t1_is t2_is (λ i. (c.in_ok-work.ensures.leaves.voter i).logs.kept) (c.in_ok-work.ensures.leaves.indexed ∙ c.in_ok-taken.ensures.indexed) taken.stands.stands.tells
    (c.in_ok-work.ensures.state told h base stored means about taken.stands) (c.in_ok-work.ensures.work told h base stored means about taken.stands) in
    let is = take_is s node m t2 c.in_ok-taken.taken.sends c.new-2.result (t2_is ∙ t1_is) taken.sends c.new-2.ensures in
    let keeps = represents_keeps s r0.voter.logs.kept r0.leases version progress own_open begun node represents in
    let groups = touched node.met m.body (heard_by s node m) in
    let groups_are : c.in_ok-groups.groups ≡ groups = c.in_ok-groups.ensures node.met represents.tells ∙ ap (touched node.met m.body) heard_is in
    let before = c.in_ok-before.ensures node.met node.stored keeps ∙ ap (λ (some : List GroupId). cond (has_rows r0.members r0.me) (map (before_at node.met node.stored) some) []) groups_are in
    let noted = watched_noted s t2 node groups c.in_ok-before.before (has_taken s node m) (t2_is ∙ t1_is) before (take_noted s node m (map (before_at node.met node.stored) groups) (subst (All IsServable) (sym represents.opened) represents.built) acted.acted refl) in
    let made = c.in_ok-step.ensures.made h node (Takes m) (told_notes s node.met m.from m.body) (decision_note (decision_in s node m)) (has_taken s node m) noted acted taken.notes (take_may s node m _ is) in
    let others = others_kept s t2 node groups c.in_ok-before.before c.args.self.now.lagging (has_taken s node m) (t2_is ∙ t1_is) before
    (λ rows group none whole. take_kept s node m (subst (All IsServable) (sym represents.opened) represents.built) acted.acted group none whole) stands.lagging in
    let lag = c.in_ok-step.ensures.lagging h node (Takes m) (told_notes s node.met m.from m.body) (decision_note (decision_in s node m)) (has_taken s node m) acted others in
    let new = c.ends.new.self in
    record {
      within = subst (λ (step : RuleStep). Represents (setting new.replica.members new.replica.me h) new.replica.voter.logs.kept new.replica.leases new.replica.indexed new.replica.digest (g.V.Versions.version new.replica.rows.rows) (progress_at new.replica.rows.progress) new.open new.begun step.node) is made.state;
      lagging = subst (λ (step : RuleStep). KnowsLagging new.replica.members new.replica.me new.lagging step.node.met step.node.stored) is lag;
    }

pub returns-clause-staged : goal.returns-clause-staged
returns-clause-staged g c = λ told h node means stands owned placed since stages.
    let represents = stands.within in
    let r0 = c.args.self.now.replica in
    let r1 = c.takes.new.replica in
    let r2 = c.acts.new.replica in
    let own_open = c.args.self.now.open in
    let begun = c.args.self.now.begun in
    let version = g.V.Versions.version r0.rows.rows in
    let progress = progress_at r0.rows.progress in
    let m = c.args.message.now in
    let s = setting r0.members r0.me h in
    let clock_is : c.now-clock.result ≡ clock_of node.met = c.now-clock.ensures r0.members r0.me node.met represents.leased in
    let heard_is : c.in_ok-heard.heard ≡ heard_by s node m =
    c.in_ok-heard.ensures s refl ∙ (λ i. map (hears_message s (clock_is i) m) ((c.replace-opened.ensures.value ∙ sym represents.opened) i)) in
    let taken = c.in_ok-taken.ensures.taken h node own_open begun represents heard_is owned placed in
    let heard = c.in_ok-taken.taken.heard in
    let t1 = setting r1.members r1.me h in
    let t2 = setting r2.members r2.me h in
    let t1_is : t1 ≡ s = (λ i. setting (c.in_ok-taken.ensures.members i) (c.in_ok-taken.ensures.me i) h) in
    let t2_is : t2 ≡ t1 = (λ i. setting (c.in_ok-work.ensures.leaves.members i) (c.in_ok-work.ensures.leaves.me i) h) in
    let about = heard_are_about s node m r0.voter.logs.kept r0.leases version progress own_open begun heard represents taken.heard in
    let base = acted_on s node (Take m) in
    let stored = stored_after s base node.stored (decision_in s node m) in
    let acted = take_acts s node m t1 t2 r0.voter.logs.kept r1.voter.logs.kept r2.voter.logs.kept r0.leases r2.leases version (g.V.Versions.version r2.rows.rows) progress (progress_at r2.rows.progress) own_open begun
    c.in_ok-work.work heard represents taken.heard t1_is t2_is (λ i. (c.in_ok-work.ensures.leaves.voter i).logs.kept) (c.in_ok-work.ensures.leaves.indexed ∙ c.in_ok-taken.ensures.indexed) taken.stands.stands.tells
    (c.in_ok-work.ensures.state told h base stored means about taken.stands) (c.in_ok-work.ensures.work told h base stored means about taken.stands) in
    let is = take_is s node m t2 c.in_ok-taken.taken.sends c.new-2.result (t2_is ∙ t1_is) taken.sends c.new-2.ensures in
    let mid = coe 1 0 (i. Stages (c.in_ok-work.ensures.leaves.voter i).logs.staged.items since base) (c.in_ok-taken.ensures.staged h node own_open begun since represents heard_is stages) in
    let after = c.in_ok-step.ensures.staged h node (Takes m) (told_notes s node.met m.from m.body) (decision_note (decision_in s node m)) (has_taken s node m) since acted (take_may s node m _ is) mid in
    subst (λ (step : RuleStep). Stages c.ends.new.self.replica.voter.logs.staged.items since step.node.met) is after
