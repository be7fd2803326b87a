-- A step of a node of the format may happen where the rows of what it has decided by then are the groups' own.
use Rattle.std.proofs.Common.{◌≡◌, List, ◌∷◌, map, Option, Some, None, subst}
use Rattle.mega_schema.specs.declared.schema.Schema.{Schema}
use Rattle.mega_rules.specs.Logs.{log_of}
use Rattle.mega_rules.specs.Met.{Met, Sends}
use Rattle.mega_rules.specs.Operations.{Node, Setting}
use Rattle.mega_rules.specs.Steps.{Begin, Decision, Event, Take, Tick, onto, step}
use Rattle.mega_node_laws.specs.Acted.{acted_on, decision_in, own_item}
use Rattle.mega_node_laws.specs.Own.{HasOwnRows}
use Rattle.mega_node_laws.proofs.Ending.{step_ends, step_met}
use Rattle.mega_node_laws.proofs.Owned.{owned_before, owned_before_all, owned_of_same_logs}
use Rattle.mega_format_laws.specs.Decisions.{AreDecided}
use Rattle.mega_format_laws.specs.Nodes.{IsEvent, IsNode, IsSetting, IsStep}
use Rattle.mega_format_laws.proofs.Journals.{journal_formed}
use Rattle.mega_format_laws.proofs.Whole.{whole_step}
use Rattle.mega_server.specs.of_core.Stepping.{IsPlacedAt}
use Rattle.mega_server.specs.of_core.of_step_parts.Placed.{IsPlaced}
use Rattle.mega_server.specs.Serving.{MayStep}
use Rattle.mega_turn_laws.proofs.Decided.{decision_formed}

placed : (found : Option Decision) → AreDecided found → IsPlaced found
placed None formed = tt
placed (Some d) formed = formed.position.0

placed_at : (s : Setting) (node : Node) (event : Event) → IsSetting s → IsNode node → IsEvent event → IsPlacedAt s node event
placed_at s node (Take m) set is asked = placed (decision_in s node m) (decision_formed s node m set is asked)
placed_at s node (Tick now) set is asked = tt
placed_at s node (Begin request text) set is asked = tt

pub may_step : (s : Setting) (node : Node) (event : Event) → IsSetting s → IsNode node → IsEvent event → HasOwnRows s.cluster.schema (log_of (step s node event).node.met) → MayStep s node event
may_step s node event set is asked own = record {
  owned = owned_of_same_logs s.cluster.schema (acted_on s node event) (step s node event).node.met (step_ends s node event) own;
  placed = placed_at s node event set is asked;
  formed = journal_formed (step s node event).node.met (whole_step s node event set is asked).node.met;
}

-- what was decided before the step is their own too
pub owned_back : (schema : Schema) (s : Setting) (node : Node) (event : Event) → HasOwnRows schema (log_of (step s node event).node.met) → HasOwnRows schema (log_of node.met)
owned_back schema s node event own =
    let made = step s node event in
    owned_before schema (own_item s node event) node.met
    (owned_before_all schema made.notes (own_item s node event ∷ node.met)
    (owned_before_all schema (map Sends made.sends) (onto made.notes (own_item s node event ∷ node.met))
    (subst (λ (met : List Met). HasOwnRows schema (log_of met)) (step_met s node event) own)))
