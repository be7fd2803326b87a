-- What a message decides that is taken, and how what is kept stands to it then.
use Rattle.std.proofs.Common.{◌≡◌, ℕ, cond, is_none, List, ◌∷◌, map, Option, Some, None, refl, sym, ap, subst, ◌∙◌}
use Rattle.mega_base.specs.declared.names.GroupId.{GroupId}
use Rattle.mega_disk.specs.VersionMaps.{Versions}
use Rattle.mega_entry.specs.declared.content.Content.{Content}
use Rattle.mega_wal.specs.declared.kept.Kept.{Kept}
use Rattle.mega_wire.specs.declared.message.Message.{Message}
use Rattle.mega_rules.specs.Met.{Decides, Met, Takes}
use Rattle.mega_rules.specs.Clock.{begun_of, clock_of}
use Rattle.mega_rules.specs.Logs.{decided, log_of}
use Rattle.mega_rules.specs.Operations.{Node, Setting}
use Rattle.mega_rules.specs.Steps.{Decision, Heard, Take, decision_note, first_settled, hears_message, if_new, onto, stored_after, told_decision, told_notes}
use Rattle.mega_step_parts.specs.of_voter.Telling.{Tells}
use Rattle.mega_step_parts.specs.of_leases.declared.leases.Leases.{Leases}
use Rattle.mega_step_parts.specs.of_leases.Tells.{Tells as TellsLeases}
use Rattle.mega_step_parts.proofs.of_leases.Shown.{apart}
use Rattle.mega_replica.specs.declared.progress.Progress.{Progress}
use Rattle.mega_replica.specs.Following.{Follows}
use Rattle.mega_actions.specs.of_node_laws.Acted.{acted_on, decision_in, or_settled}
use Rattle.mega_actions.specs.of_node_laws.Own.{HasOwnRows}
use Rattle.mega_actions.proofs.of_node_laws.Logs.{decided_after}
use Rattle.mega_actions.specs.of_answers.RepresentsMet.{RepresentsMet}
use Rattle.mega_actions.specs.of_view.Small.{IsSmall}
use Rattle.mega_node_events.proofs.Plain.{told_plain, plain_begun, plain_undecided, decision_begun}

if_new_stays : (old new : List Met) → ((group : GroupId) (n : ℕ) → decided new group n ≡ decided old group n) → (d : Option Decision) → if_new new d ≡ if_new old d
if_new_stays old new same None = refl
if_new_stays old new same (Some d) = ap (λ (found : Option Content). cond (is_none found) (Some d) None) (same d.group d.position)

decision_leased : (s : Setting) (leases : Leases) (d : Option Decision) (met : List Met) → TellsLeases s.cluster s.me leases met → TellsLeases s.cluster s.me leases (onto (decision_note d) met)
decision_leased s leases None met tells = tells
decision_leased s leases (Some d) met tells = apart s.cluster s.me leases (Decides d.group d.position d.entry) met refl tells

module _ (s : Setting) (node : Node) (m : Message) where
  abbrev pub told_on : List Met
  told_on = onto (told_notes s node.met m.from m.body) (Takes m ∷ node.met)

  abbrev heard_by : List Heard
  heard_by = map (hears_message s (clock_of node.met) m) node.open_operations

  pub taken_begun : begun_of (acted_on s node (Take m)) ≡ begun_of node.met
  taken_begun = decision_begun (decision_in s node m) told_on ∙ plain_begun (told_notes s node.met m.from m.body) (Takes m ∷ node.met) (told_plain s node.met m.from m.body)

  pub decision_is : (heard : List Heard) (d : Option Decision) → heard ≡ heard_by → d ≡ if_new told_on (or_settled (told_decision m.body) (first_settled heard)) → d ≡ decision_in s node m
  decision_is heard d heard_is is =
      is ∙ (ap (λ (ts : List Heard). if_new told_on (or_settled (told_decision m.body) (first_settled ts))) heard_is
      ∙ if_new_stays node.met told_on (λ group n. decided_after (told_notes s node.met m.from m.body) (Takes m ∷ node.met) group n (plain_undecided (told_notes s node.met m.from m.body) (told_plain s node.met m.from m.body)))
      (or_settled (told_decision m.body) (first_settled heard_by)))

  pub taken_stands : (t : Setting) (kept : Kept) (leases after : Leases) (version : Versions) (progress : GroupId → Progress) (d : Option Decision)
      → t ≡ s → after ≡ leases → d ≡ decision_in s node m
      → Tells kept (onto (decision_note d) told_on) → TellsLeases s.cluster s.me leases told_on
      → Follows version progress (log_of (onto (decision_note d) told_on)) (stored_after s (onto (decision_note d) told_on) node.stored d)
      → HasOwnRows s.cluster.schema (log_of (acted_on s node (Take m))) → IsSmall s.cluster.schema
      → RepresentsMet t kept after version progress (acted_on s node (Take m)) (stored_after s (acted_on s node (Take m)) node.stored (decision_in s node m))
  taken_stands t kept leases after version progress d t_is after_is d_is tells leased follows owned small =
      coe 0 1 (i. RepresentsMet (sym t_is i) kept (sym after_is i) version progress (onto (decision_note (d_is i)) told_on) (stored_after s (onto (decision_note (d_is i)) told_on) node.stored (d_is i))) first
    where
      first : RepresentsMet s kept leases version progress (onto (decision_note d) told_on) (stored_after s (onto (decision_note d) told_on) node.stored d)
      first = record {
        tells = tells;
        leased = decision_leased s leases d told_on leased;
        follows = follows;
        owned = subst (λ (one : Option Decision). HasOwnRows s.cluster.schema (log_of (onto (decision_note one) told_on))) (sym d_is) owned;
        small = small;
      }
