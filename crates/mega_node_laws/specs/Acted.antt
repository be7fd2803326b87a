-- What a node has met where its operations begin to act in a step.
use Rattle.std.specs.Prelude.{List, ◌∷◌, map, Option, Some, None}
use Rattle.mega_wire.specs.declared.message.Message.{Message}
use Rattle.mega_voter.specs.of_rules.Met.{Met, Begins, Takes, Ticks}
use Rattle.mega_voter.specs.of_rules.Clock.{clock_of}
use Rattle.mega_voter.specs.of_rules.Operations.{Node, Setting}
use Rattle.mega_voter.specs.of_rules.Steps.{Begin, Decision, Event, Take, Tick, decision_note, first_settled, hears_message, if_new, lapse_notes, lease_notes, onto, op_of, told_decision, told_notes}

-- the decision that a message tells, or else the first that an open operation settled by it
abbrev pub or_settled : Option Decision → Option Decision → Option Decision
or_settled (Some told) settled = Some told
or_settled None settled = settled

abbrev pub decision_in : Setting → Node → Message → Option Decision
decision_in s node m = if_new node.met (or_settled (told_decision m.body) (first_settled (map (hears_message s (clock_of node.met) m) node.open_operations)))

-- the event's own item
abbrev pub own_item : Setting → Node → Event → Met
own_item s node (Tick now) = Ticks now
own_item s node (Take m) = Takes m
own_item s node (Begin request text) = Begins (op_of s node.met) text

-- with what it says to cell and coordinator, and what is decided by it
abbrev pub acted_on : Setting → Node → Event → List Met
acted_on s node (Tick now) = onto (lapse_notes s node.met now) (onto (lease_notes s node.met now) (Ticks now ∷ node.met))
acted_on s node (Take m) = onto (decision_note (decision_in s node m)) (onto (told_notes s node.met m.from m.body) (Takes m ∷ node.met))
acted_on s node (Begin request text) = Begins (op_of s node.met) text ∷ node.met
