use Rattle.std.proofs.Common.{◌≡◌, ◌∙◌, cond, List, [], ◌∷◌, map, ap, refl, subst, sym}
use Rattle.std.specs.BTreeSet.{BTreeSet}
use Rattle.mega_base.specs.declared.names.GroupId.{GroupId}
use Rattle.mega_rules.specs.Members.{has_rows}
use Rattle.mega_rules.specs.Met.{Begins}
use Rattle.mega_rules.specs.Steps.{Step as RuleStep, op_of}
use Rattle.mega_replica.specs.Following.{progress_at}
use Rattle.mega_actions.specs.of_step_work.Settings.{setting}
use Rattle.mega_step_parts.specs.declared.note.Note.{Note}
use Rattle.mega_node_events.specs.Beginning.{has_begun}
use Rattle.mega_step_parts.specs.Notes.{met_of}
use Rattle.mega_step_parts.specs.Positions.{before_at}
use Rattle.mega_lag.specs.Lagging.{KnowsLagging}
use Rattle.mega_node_events.specs.Represents.{Represents}
use Rattle.mega_step_parts.specs.Staging.{Stages}
use Rattle.mega_step_parts.specs.Touching.{begun_groups}
use Rattle.mega_core.proofs.Begun.{begin_is, begin_may, represents_keeps}
use Rattle.mega_step_parts.proofs.Staged.{silent_staged}
use Rattle.mega_core.proofs.Lags.{begin_kept, others_kept}
use Rattle.mega_core.proofs.Untouched.{begin_noted}
use Rattle.mega_core.proofs.Watched.{watched_noted}
use Rattle.mega_core.proofs.node.Node.begin.Goals as goal

pub returns-clause-notes : goal.returns-clause-notes
returns-clause-notes g c = λ told h node means stands owned placed.
    let represents = stands.within in
    let old = c.args.self.now.replica in
    let mid = c.begins.new.self.replica in
    let s = setting old.members old.me h in
    let t = setting mid.members mid.me h in
    let t_is : t ≡ s = (λ i. setting (c.in_ok-work.ensures.leaves.members i) (c.in_ok-work.ensures.leaves.me i) h) in
    let text = c.args.text.now in
    let request = c.args.request in
    let is = begin_is s node request text t c.new.result c.new-2.result t_is c.new.ensures c.new-2.ensures in
    let keeps = represents_keeps s old.voter.logs.kept old.leases (g.V.Versions.version old.rows.rows) (progress_at old.rows.progress) c.args.self.now.open c.args.self.now.begun node represents in
    let acted = c.in_ok-work.ensures.acted told h node text means represents owned in
    let groups = begun_groups node.met request in
    let before = c.in_ok-before.ensures node.met node.stored keeps ∙ ap (λ (some : List GroupId). cond (has_rows old.members old.me) (map (before_at node.met node.stored) some) []) (c.in_ok-groups.ensures node.met represents.tells) in
    let noted = watched_noted s t node groups c.in_ok-before.before (has_begun s node request text) t_is before (begin_noted s node request text (map (before_at node.met node.stored) groups) (c.in_ok-work.ensures.built h node represents) acted.acted refl) in
    let first : map met_of c.new-none.result ≡ [] = ap (λ (notes : List Note). map met_of notes) c.new-none.ensures in
    let made = c.in_ok-step.ensures.made h node (Begins (op_of s node.met) text) [] [] (has_begun s node request text) noted acted first (begin_may s node request text _ is) in
    made.notes ∙ ap (λ (step : RuleStep). step.notes) is

pub returns-clause-sends : goal.returns-clause-sends
returns-clause-sends g c = λ told h node means stands owned placed.
    let represents = stands.within in
    let old = c.args.self.now.replica in
    let mid = c.begins.new.self.replica in
    let s = setting old.members old.me h in
    let t = setting mid.members mid.me h in
    let t_is : t ≡ s = (λ i. setting (c.in_ok-work.ensures.leaves.members i) (c.in_ok-work.ensures.leaves.me i) h) in
    let text = c.args.text.now in
    let request = c.args.request in
    let is = begin_is s node request text t c.new.result c.new-2.result t_is c.new.ensures c.new-2.ensures in
    let keeps = represents_keeps s old.voter.logs.kept old.leases (g.V.Versions.version old.rows.rows) (progress_at old.rows.progress) c.args.self.now.open c.args.self.now.begun node represents in
    let acted = c.in_ok-work.ensures.acted told h node text means represents owned in
    let groups = begun_groups node.met request in
    let before = c.in_ok-before.ensures node.met node.stored keeps ∙ ap (λ (some : List GroupId). cond (has_rows old.members old.me) (map (before_at node.met node.stored) some) []) (c.in_ok-groups.ensures node.met represents.tells) in
    let noted = watched_noted s t node groups c.in_ok-before.before (has_begun s node request text) t_is before (begin_noted s node request text (map (before_at node.met node.stored) groups) (c.in_ok-work.ensures.built h node represents) acted.acted refl) in
    let first : map met_of c.new-none.result ≡ [] = ap (λ (notes : List Note). map met_of notes) c.new-none.ensures in
    let made = c.in_ok-step.ensures.made h node (Begins (op_of s node.met) text) [] [] (has_begun s node request text) noted acted first (begin_may s node request text _ is) in
    made.sends ∙ ap (λ (step : RuleStep). step.sends) is

pub returns-clause-state : goal.returns-clause-state
returns-clause-state g c = λ told h node means stands owned placed.
    let represents = stands.within in
    let old = c.args.self.now.replica in
    let mid = c.begins.new.self.replica in
    let s = setting old.members old.me h in
    let t = setting mid.members mid.me h in
    let t_is : t ≡ s = (λ i. setting (c.in_ok-work.ensures.leaves.members i) (c.in_ok-work.ensures.leaves.me i) h) in
    let text = c.args.text.now in
    let request = c.args.request in
    let is = begin_is s node request text t c.new.result c.new-2.result t_is c.new.ensures c.new-2.ensures in
    let keeps = represents_keeps s old.voter.logs.kept old.leases (g.V.Versions.version old.rows.rows) (progress_at old.rows.progress) c.args.self.now.open c.args.self.now.begun node represents in
    let acted = c.in_ok-work.ensures.acted told h node text means represents owned in
    let groups = begun_groups node.met request in
    let before = c.in_ok-before.ensures node.met node.stored keeps ∙ ap (λ (some : List GroupId). cond (has_rows old.members old.me) (map (before_at node.met node.stored) some) []) (c.in_ok-groups.ensures node.met represents.tells) in
    let noted = watched_noted s t node groups c.in_ok-before.before (has_begun s node request text) t_is before (begin_noted s node request text (map (before_at node.met node.stored) groups) (c.in_ok-work.ensures.built h node represents) acted.acted refl) in
    let first : map met_of c.new-none.result ≡ [] = ap (λ (notes : List Note). map met_of notes) c.new-none.ensures in
    let made = c.in_ok-step.ensures.made h node (Begins (op_of s node.met) text) [] [] (has_begun s node request text) noted acted first (begin_may s node request text _ is) in
    let others = others_kept s t node groups c.in_ok-before.before c.begins.new.self.lagging (has_begun s node request text) t_is before
    (λ rows group none whole. begin_kept s node request text (c.in_ok-work.ensures.built h node represents) acted.acted group whole)
    (subst (λ (lagging : BTreeSet GroupId). KnowsLagging old.members old.me lagging node.met node.stored) (sym c.in_ok-work.ensures.lagging) stands.lagging) in
    let lag = c.in_ok-step.ensures.lagging h node (Begins (op_of s node.met) text) [] [] (has_begun s node request text) acted others in
    let new = c.ends.new.self in
    record {
      within = subst (λ (step : RuleStep). Represents (setting new.replica.members new.replica.me h) new.replica.voter.logs.kept new.replica.leases new.replica.indexed new.replica.digest (g.V.Versions.version new.replica.rows.rows) (progress_at new.replica.rows.progress) new.open new.begun step.node) is made.state;
      lagging = subst (λ (step : RuleStep). KnowsLagging new.replica.members new.replica.me new.lagging step.node.met step.node.stored) is lag;
    }

pub returns-clause-staged : goal.returns-clause-staged
returns-clause-staged g c = λ told h node means stands owned placed since stages.
    let represents = stands.within in
    let old = c.args.self.now.replica in
    let mid = c.begins.new.self.replica in
    let s = setting old.members old.me h in
    let t = setting mid.members mid.me h in
    let t_is : t ≡ s = (λ i. setting (c.in_ok-work.ensures.leaves.members i) (c.in_ok-work.ensures.leaves.me i) h) in
    let text = c.args.text.now in
    let request = c.args.request in
    let is = begin_is s node request text t c.new.result c.new-2.result t_is c.new.ensures c.new-2.ensures in
    let acted = c.in_ok-work.ensures.acted told h node text means represents owned in
    let own = Begins (op_of s node.met) text in
    let mid = coe 1 0 (i. Stages (c.in_ok-work.ensures.leaves.voter i).logs.staged.items since (own ∷ node.met)) (silent_staged old.voter.logs.staged.items since node.met own refl stages) in
    let after = c.in_ok-step.ensures.staged h node own [] [] (has_begun s node request text) since acted (begin_may s node request text _ is) mid in
    subst (λ (step : RuleStep). Stages c.ends.new.self.replica.voter.logs.staged.items since step.node.met) is after
