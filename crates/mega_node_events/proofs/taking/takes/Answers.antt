use Rattle.std.proofs.Common.{◌≡◌, ◌∙◌, ◌++◌, ◌∷◌, false, subst, sym}
use Rattle.mega_base.specs.declared.names.GroupId.{GroupId}
use Rattle.mega_rules.specs.Logs.{log_of}
use Rattle.mega_rules.specs.Members.{has_rows}
use Rattle.mega_rules.specs.Met.{Takes}
use Rattle.mega_rules.specs.Operations.{Setting}
use Rattle.mega_rules.specs.Steps.{decision_note, onto, stored_after, told_decision, told_notes}
use Rattle.mega_actions.proofs.of_node_laws.Followed.{follows_after, follows_more}
use Rattle.mega_replica.specs.declared.rows.StoredRows.{StoredRows}
use Rattle.mega_replica.specs.Following.{Follows, progress_at}
use Rattle.mega_actions.specs.of_step_work.Settings.{setting}
use Rattle.mega_step_parts.specs.Placed.{IsPlaced}
use Rattle.mega_step_parts.specs.Staging.{Stages}
use Rattle.mega_step_parts.specs.News.{news_by}
use Rattle.mega_actions.specs.of_pumps.Notes.{HasNoted}
use Rattle.mega_actions.proofs.of_pumps.Lasting.{noted_step}
use Rattle.mega_node_events.proofs.Deciding.{decision_is, taken_stands, told_on}
use Rattle.mega_node_events.proofs.taking.takes.Goals as goal

pub returns-clause-taken : goal.returns-clause-taken
returns-clause-taken g c = λ h node open_ones begun represents heard_is owned placed.
    let r0 = c.args.replica.now in
    let r1 = c.is_told.new.replica in
    let r2 = c.decides_by.new.replica in
    let m = c.args.message.now in
    let says = c.in_ok-told.ensures in
    let decides = c.in_ok-found.ensures in
    let made = c.in_ok-made.ensures in
    let s = setting r0.members r0.me h in
    let base = told_on s node m in
    let told = told_notes s node.met m.from m.body in
    let tells = says.kept h node.met represents.tells represents.leased in
    let d = c.in_ok-found.found in
    let d_is = decision_is s node m c.args.heard d heard_is (decides.new base tells) in
    let placed_d : IsPlaced d = subst IsPlaced (sym d_is) placed in
    let version = g.V.Versions.version r0.rows.rows in
    let progress = progress_at r0.rows.progress in
    let follows0 = follows_after version progress told (Takes m ∷ node.met) node.stored (follows_more version progress (Takes m) node.met node.stored represents.follows) in
    let follows1 = subst (λ (rows : StoredRows _). Follows (g.V.Versions.version rows.rows) (progress_at rows.progress) (log_of base) node.stored) (sym says.rows) follows0 in
    let bare : has_rows r1.members r1.me ≡ false → (group : GroupId) → node.stored group ≡ 0 = λ none. represents.kind.bare ((λ i. has_rows (sym says.members i) (sym says.me i)) ∙ none) in
    let t1_is : setting r1.members r1.me h ≡ s = (λ i. setting (says.members i) (says.me i) h) in
    let t_is : setting r2.members r2.me h ≡ s = (λ i. setting (decides.members i) (decides.me i) h) ∙ t1_is in
    let follows2 = subst (λ (one : Setting). Follows (g.V.Versions.version r2.rows.rows) (progress_at r2.rows.progress) (log_of (onto (decision_note d) base)) (stored_after one (onto (decision_note d) base) node.stored d)) t1_is
    (decides.follows h base node.stored bare placed_d tells follows1) in
    let told_is = says.notes h node.met represents.leased in
    let reply_is = says.sends node.met represents.tells represents.leased in
    record {
      notes = made.notes ∙ (λ i. told_is i ++ decision_note (d_is i));
      sends = made.sends s (sym (decides.members ∙ says.members)) (sym (decides.me ∙ says.me)) ∙ (λ i. reply_is i ++ news_by s (told_decision m.body) (d_is i));
      heard = made.heard ∙ heard_is;
      stands = record {
        stands = taken_stands s node m (setting r2.members r2.me h) r2.voter.logs.kept r1.leases r2.leases (g.V.Versions.version r2.rows.rows) (progress_at r2.rows.progress) d
            t_is decides.leases d_is (decides.kept base placed_d tells) (says.leased h node.met represents.leased) follows2 owned represents.kind.small;
        noted = subst (HasNoted r2.voter.logs.kept) (sym (decides.digest ∙ says.digest))
            (noted_step r0.voter.logs.kept r2.voter.logs.kept (Takes m) told (decision_note d) node.met r0.digest represents.tells (decides.kept base placed_d tells) represents.noted);
      };
    }

pub returns-clause-staged : goal.returns-clause-staged
returns-clause-staged g c = λ h node open_ones begun before represents heard_is stages.
    let r0 = c.args.replica.now in
    let r2 = c.decides_by.new.replica in
    let m = c.args.message.now in
    let says = c.in_ok-told.ensures in
    let decides = c.in_ok-found.ensures in
    let s = setting r0.members r0.me h in
    let base = told_on s node m in
    let tells = says.kept h node.met represents.tells represents.leased in
    let d = c.in_ok-found.found in
    let d_is = decision_is s node m c.args.heard d heard_is (decides.new base tells) in
    coe 0 1 (i. Stages r2.voter.logs.staged.items before (onto (decision_note (d_is i)) base)) (decides.staged before base tells (says.staged h before node.met represents.leased stages))
