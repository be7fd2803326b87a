-- Starts and inputs over two pasts that tell the same; and a life's starts as node runs.
use Rattle.std.proofs.Common.{◌≡◌, ℕ, ◌+◌, List, [], ◌∷◌, ◌++◌, fold, map, refl, sym, ap, ◌∙◌}
use Rattle.mega_cluster.specs.declared.cluster.Cluster.{Cluster}
use Rattle.mega_handler.specs.Named.{Meanings}
use Rattle.mega_wal.specs.History.{starts_of}
use Rattle.mega_rules.specs.Met.{Met, Sends, Starts}
use Rattle.mega_rules.specs.Operations.{Node, Setting}
use Rattle.mega_rules.specs.Steps.{Event, Step, onto, start, start_items, start_notes, step}
use Rattle.mega_promises.specs.NodeRuns.{Input, met_of, node_run}
use Rattle.mega_promises.specs.Runs.{met_in, setting}
use Rattle.mega_node_laws.proofs.Ending.{step_met}
use Rattle.mega_served_laws.specs.Alike.{KeptAlike}
use Rattle.mega_served_laws.specs.Lives.{Befalls, Does, IsOfNodeRun, Life, StartsUp, lived, with_start}
use Rattle.mega_served_laws.specs.Pasts.{SameSince, run_over}
use Rattle.mega_served_laws.proofs.Lived.{own_is, own_same}
use Rattle.mega_served_laws.proofs.Starting.{items_alike, start_alike}
use Rattle.mega_served_laws.proofs.Steps.{NodeAlike, StepAlike, anywhere, event_anywhere, step_alike}

onto_over : (xs since past : List Met) → onto xs (since ++ past) ≡ onto xs since ++ past
onto_over [] since past = refl
onto_over (x ∷ xs) since past = onto_over xs (x ∷ since) past

pub step_is : (s : Setting) (node : Node) (event : Event) → (step s node event).node.met ≡ onto (map Sends (step s node event).sends) (onto (step s node event).notes (met_in s node.met event ∷ node.met))
step_is s node event = step_met s node event ∙ ap (λ own. onto (map Sends (step s node event).sends) (onto (step s node event).notes (own ∷ node.met))) (own_is s node event)

-- what a step adds
abbrev with_step : Step → Met → List Met → List Met
with_step made own since = onto (map Sends made.sends) (onto made.notes (own ∷ since))

step_over : (s : Setting) (node : Node) (event : Event) (since past : List Met) → node.met ≡ since ++ past → (step s node event).node.met ≡ with_step (step s node event) (met_in s node.met event) since ++ past
step_over s node event since past is =
    step_is s node event
    ∙ ap (λ met. onto (map Sends made.sends) (onto made.notes (met_in s node.met event ∷ met))) is
    ∙ ap (onto (map Sends made.sends)) (onto_over made.notes (met_in s node.met event ∷ since) past)
    ∙ onto_over (map Sends made.sends) (onto made.notes (met_in s node.met event ∷ since)) past
  where
    made : Step
    made = step s node event

-- ---- two pasts

module _ (c : Cluster) (me : ℕ) (past other : List Met) where
  inputs_same : (inputs : List Input) (x y : Node) (since : List Met) → NodeAlike anywhere c me x y → x.met ≡ since ++ past → y.met ≡ since ++ other
      → SameSince (fold (λ node one. (step (setting c one.handlers me) node one.event).node) x inputs) past (fold (λ node one. (step (setting c one.handlers me) node one.event).node) y inputs) other
  inputs_same [] x y since alike met also = record { since = since; met = met; also = also; open_operations = alike.open_operations; stored = alike.stored }
  inputs_same (one ∷ inputs) x y since alike met also =
      inputs_same inputs (step s x one.event).node (step s y one.event).node (with_step (step s x one.event) (met_in s x.met one.event) since) made.node
      (step_over s x one.event since past met)
      (step_over s y one.event since other also ∙ (λ i. onto (map Sends (sym made.sends i)) (onto (sym made.notes i) (sym (own_same anywhere s x y one.event alike) i ∷ since)) ++ other))
    where
      s : Setting
      s = setting c one.handlers me

      made : StepAlike anywhere c me (step s x one.event) (step s y one.event)
      made = step_alike anywhere s x y alike one.event (event_anywhere one.event)

  pub pasts_same : (first : Meanings) (number : ℕ) (inputs : List Input) → KeptAlike past other → SameSince (run_over c me first number past inputs) past (run_over c me first number other inputs) other
  pasts_same first number inputs h =
      inputs_same inputs (start s number [] past) (start s number [] other) (onto (start_items s number [] past) []) (start_alike s anywhere number past other h)
      (onto_over (start_items s number [] past) [] past)
      (ap (λ items. onto items other) (sym (items_alike s number past other h)) ∙ onto_over (start_items s number [] past) [] other)
    where
      s : Setting
      s = setting c first me

-- ---- a life's starts

module _ (c : Cluster) (me : ℕ) (past before : List Met) where
  record Since (all : List Befalls) (node : Node) : Type 0 where
    is : (lived c me all).node ≡ node
    since : List Met
    met : node.met ≡ since ++ past
    told : (lived c me all).told ≡ since ++ before

  inputs_since : (inputs : List Input) (all : List Befalls) (since : List Met) → (lived c me all).node.met ≡ since ++ past → (lived c me all).told ≡ since ++ before
      → Since (fold (λ all one. Does one ∷ all) all inputs) (fold (λ node one. (step (setting c one.handlers me) node one.event).node) (lived c me all).node inputs)
  inputs_since [] all since met told = record { is = refl; since = since; met = met; told = told }
  inputs_since (one ∷ inputs) all since met told =
      inputs_since inputs (Does one ∷ all) (with_step made (met_in s (lived c me all).node.met one.event) since)
      (step_over s (lived c me all).node one.event since past met)
      (ap (λ met. onto (map Sends made.sends) (onto made.notes (met_in s (lived c me all).node.met one.event ∷ met))) told
      ∙ ap (onto (map Sends made.sends)) (onto_over made.notes (met_in s (lived c me all).node.met one.event ∷ since) before)
      ∙ onto_over (map Sends made.sends) (onto made.notes (met_in s (lived c me all).node.met one.event ∷ since)) before)
    where
      s : Setting
      s = setting c one.handlers me

      made : Step
      made = step s (lived c me all).node one.event

pub start_is_run : (c : Cluster) (me : ℕ) (before : List Befalls) (first : Meanings) (inputs : List Input) → IsOfNodeRun c me before first inputs
start_is_run c me before first inputs = record { node = run.is; since = run.since; met = run.met; told = run.told }
  where
    life : Life
    life = lived c me before

    number : ℕ
    number = starts_of life.journal + 1

    past : List Met
    past = Starts number ∷ met_of me life.journal

    shown : List Met
    shown = onto life.owed (Starts number ∷ life.told)

    notes : List Met
    notes = start_notes (setting c first me) past

    run : Since c me past shown (with_start before first inputs) (node_run c me first life.journal inputs)
    run = inputs_since c me past shown inputs (StartsUp first ∷ before) (onto notes []) (onto_over notes [] past) (onto_over notes [] shown)
