use Rattle.std.proofs.Common.{◌≡◌, ◌∙◌, ◌++◌, ◌∷◌, List, ap, map, refl, sym}
use Rattle.mega_cluster.specs.declared.cluster.Cluster.{Cluster}
use Rattle.mega_rules.specs.Clock.{begun_of}
use Rattle.mega_rules.specs.Logs.{groups_of, log_of}
use Rattle.mega_rules.specs.Members.{has_rows}
use Rattle.mega_rules.specs.Met.{Ticks}
use Rattle.mega_rules.specs.Steps.{lapse_notes, lease_notes, onto, portion_of}
use Rattle.mega_step_parts.specs.of_leases.declared.note.LeaseNote.{LeaseNote}
use Rattle.mega_step_parts.specs.of_leases.Notes.{met_of}
use Rattle.mega_step_parts.specs.of_voter.Telling.{Tells}
use Rattle.mega_step_parts.proofs.of_voter.KeptTells.{silent_told}
use Rattle.mega_replica.specs.Following.{progress_at}
use Rattle.mega_actions.proofs.of_node_laws.Logs.{log_stays}
use Rattle.mega_actions.proofs.of_node_laws.Followed.{follows_after, follows_more}
use Rattle.mega_actions.specs.of_step_work.Settings.{setting}
use Rattle.mega_step_parts.specs.Staging.{Stages}
use Rattle.mega_step_parts.specs.Touching.{behind}
use Rattle.mega_actions.proofs.of_pumps.Lasting.{noted_step}
use Rattle.mega_node_events.proofs.Leasing.{leases_begun, leases_groups, leases_log}
use Rattle.mega_step_parts.proofs.Staged.{silent_staged}
use Rattle.mega_node_events.proofs.ticking.ticks.Goals as goal

pub returns-clause-ticked : goal.returns-clause-ticked
returns-clause-ticked g c = λ h node open_ones begun represents groups_are owned.
    let r0 = c.args.replica.now in
    let now = c.args.now in
    let s = setting r0.members r0.me h in
    let rows = c.has_rows-keeps.ensures ∙ ap (λ (one : Cluster). has_rows one r0.me) c.cluster.ensures in
    let says = c.in_ok-ticking.ensures in
    let made = c.in_ok-ticking.ticking in
    let lease_is : map met_of made.of_coordinator ≡ lease_notes s node.met now = says.lease_notes s node.met represents.leased in
    let lapse_is : map met_of made.of_cell ≡ lapse_notes s node.met now = says.lapse_notes s node.met represents.leased in
    let own = Ticks now in
    let told0 = (silent_told r0.voter.logs.kept node.met own refl).0 represents.tells in
    let told1 = c.in_ok-keep_notes.ensures.kept (own ∷ node.met) told0 in
    let told2 = c.in_ok-keep_notes-2.ensures.kept (onto (map met_of c.as_slice.result.now) (own ∷ node.met)) told1 in
    let first_is = ap (λ (notes : List LeaseNote). map met_of notes) c.as_slice.ensures ∙ lease_is in
    let second_is = ap (λ (notes : List LeaseNote). map met_of notes) c.as_slice-2.ensures ∙ lapse_is in
    let version = g.V.Versions.version c.store_portions.new.rows.rows in
    let progress = progress_at c.store_portions.new.rows.progress in
    let counts = portion_of s node.met node.stored in
    let stored = c.in_ok-store_portions.ensures.follows s node.met node.stored rows (λ none. represents.kind.bare (sym rows ∙ none)) (sym (c.from-most.ensures ∙ ap (λ (one : Cluster). one.apply) c.cluster-2.ensures))
    (groups_are ∙ ap (λ t. behind t node.met node.stored) (sym rows)) represents.tells represents.follows in
    let lease = lease_notes s node.met now in
    record {
      notes = c.in_ok-notes.ensures ∙ (λ i. lease_is i ++ lapse_is i);
      opening = says.acquires r0.members r0.me node.met represents.leased;
      closing = c.in_ok-closing.ensures s node.met now refl refl rows (c.does_again-again.ensures r0.members r0.me node.met represents.leased) represents.tells;
      stands = record {
        stands = record {
          tells = coe 0 1 (i. Tells c.keep_notes-2.new.voter.logs.kept (onto (second_is i) (onto (first_is i) (own ∷ node.met)))) told2;
          leased = says.state s node.met represents.leased;
          follows = follows_after version progress (lapse_notes s node.met now) (onto lease (own ∷ node.met)) counts (follows_after version progress lease (own ∷ node.met) counts (follows_more version progress own node.met counts stored));
          owned = owned;
          small = represents.kind.small;
        };
        noted = noted_step r0.voter.logs.kept c.keep_notes-2.new.voter.logs.kept own (map met_of c.as_slice.result.now) (map met_of c.as_slice-2.result.now) node.met r0.digest represents.tells told2 represents.noted;
      };
      begun = (λ i. begun_of (onto (sym lapse_is i) (onto (sym lease_is i) (own ∷ node.met))))
          ∙ (leases_begun made.of_cell (onto (map met_of made.of_coordinator) (own ∷ node.met)) ∙ leases_begun made.of_coordinator (own ∷ node.met));
      groups = (λ i. groups_of (onto (sym lapse_is i) (onto (sym lease_is i) (own ∷ node.met))))
          ∙ (leases_groups made.of_cell (onto (map met_of made.of_coordinator) (own ∷ node.met)) ∙ leases_groups made.of_coordinator (own ∷ node.met));
      logs = λ group. (λ i. log_of (onto (sym lapse_is i) (onto (sym lease_is i) (own ∷ node.met))) group)
          ∙ (leases_log made.of_cell (onto (map met_of made.of_coordinator) (own ∷ node.met)) group ∙ (leases_log made.of_coordinator (own ∷ node.met) group ∙ log_stays own node.met group refl));
    }

pub returns-clause-staged : goal.returns-clause-staged
returns-clause-staged g c = λ h node open_ones begun before represents stages.
    let r0 = c.args.replica.now in
    let now = c.args.now in
    let s = setting r0.members r0.me h in
    let says = c.in_ok-ticking.ensures in
    let own = Ticks now in
    let first_is = ap (λ (notes : List LeaseNote). map met_of notes) c.as_slice.ensures ∙ says.lease_notes s node.met represents.leased in
    let second_is = ap (λ (notes : List LeaseNote). map met_of notes) c.as_slice-2.ensures ∙ says.lapse_notes s node.met represents.leased in
    let staged0 = silent_staged r0.voter.logs.staged.items before node.met own refl stages in
    let staged1 = c.in_ok-keep_notes.ensures.staged before (own ∷ node.met) staged0 in
    let staged2 = c.in_ok-keep_notes-2.ensures.staged before (onto (map met_of c.as_slice.result.now) (own ∷ node.met)) staged1 in
    coe 0 1 (i. Stages c.keep_notes-2.new.voter.logs.staged.items before (onto (second_is i) (onto (first_is i) (own ∷ node.met)))) staged2
