-- What a served node shows and sends in a step is what the rules say of the node of its number.
use Rattle.std.proofs.Common.{◌≡◌, ℕ, List, Option, ap, map, subst, ◌∙◌}
use Rattle.std.specs.List.{flat_map}
use Rattle.mega_cluster.specs.declared.cluster.Cluster.{Cluster}
use Rattle.mega_promises.specs.Items.{shown}
use Rattle.mega_promises.specs.Runs.{setting}
use Rattle.mega_rules.specs.Steps.{Event, step}
use Rattle.mega_durable.specs.of_core.of_step_parts.declared.step.Step.{Step}
use Rattle.mega_durable.specs.of_core.of_step_parts.Notes.{met_of}
use Rattle.mega_serve.specs.declared.steps.Made.{Made}
use Rattle.mega_serve.specs.Stepping.{IsMade}
use Rattle.mega_server.specs.Forming.{notes_shown}
use Rattle.mega_meanings.specs.Means.{Means}
use Rattle.mega_durable.specs.Standing.{MayHappen}
use Rattle.mega_handler.specs.Named.{Meaning, Meanings}
use Rattle.mega_rules.specs.Operations.{Node as RuleNode, Setting}
use Rattle.mega_server.specs.Serving.{MayStep}

-- the step of the node of this number notes and sends this
pub record Steps (c : Cluster) (h : Meanings) (number : ℕ) (node : RuleNode) (event : Event) (made : Step) : Type 0 where
  pub notes : map met_of made.notes ≡ (step (setting c h number) node event).notes
  pub sends : made.sends ≡ (step (setting c h number) node event).sends

pub steps : (c : Cluster) (h : Meanings) (number : ℕ) (node : RuleNode) (event : Event) (made : Step) → map met_of made.notes ≡ (step (setting c h number) node event).notes → made.sends ≡ (step (setting c h number) node event).sends → Steps c h number node event made
steps c h number node event made notes sends = record { notes = notes; sends = sends }

pub is_made : (c : Cluster) (h : Meanings) (own number me : ℕ) (node : RuleNode) (event : Event) (made : Step) (given : Made) → own ≡ number → me ≡ number
    → (MayStep (setting c h own) node event → Steps c h own node event made) → MayStep (setting c h number) node event
    → given.items ≡ notes_shown me made.notes → given.sends ≡ made.sends → IsMade number (step (setting c h number) node event) given
is_made c h own number me node event made given is mine does may items sends =
    let facts = subst (λ (n : ℕ). MayStep (setting c h n) node event → Steps c h n node event made) is does may in
    record { items = items ∙ (ap (λ (n : ℕ). notes_shown n made.notes) mine ∙ ap (flat_map (shown number)) facts.notes); sends = sends ∙ facts.sends }

-- where an event may happen at a served node, it may happen at the node over its records
pub may_happen : (makes : List ℕ → Option Meaning) (s : Setting) (node : RuleNode) (event : Event) → Means makes s.handlers → MayStep s node event → MayHappen makes s node event
may_happen makes s node event means may = record { means = means; owned = may.owned; placed = may.placed; formed = may.formed }
