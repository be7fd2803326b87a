-- What a node decides by a message of the format has a position from 1 on.
use Rattle.std.proofs.Common.{List, [], ◌∷◌, ◌++◌, map, Option, Some, None}
use Rattle.mega_wire.specs.declared.message.Message.{Message}
use Rattle.mega_places.specs.of_voter.of_rules.Clock.{clock_of}
use Rattle.mega_places.specs.of_voter.of_rules.Met.{Met}
use Rattle.mega_places.specs.of_voter.of_rules.Operations.{Node, Now, Setting}
use Rattle.mega_places.specs.of_voter.of_rules.Steps.{Decision, Heard, Take, all_act, apply_notes, at_first, decision_note, first_settled, hears_message, if_new, news, onto, step, stored_after, taken, told_decision, told_notes}
use Rattle.mega_places.specs.of_voter.of_rules.Met.{Takes}
use Rattle.mega_places.specs.of_voter.of_rules.Replies.{reply_to}
use Rattle.mega_places.specs.of_node_laws.Acted.{decision_in, or_settled}
use Rattle.mega_places.proofs.of_node_laws.Ending.{taken_by}
use Rattle.mega_format_laws.specs.Histories.{IsMet}
use Rattle.mega_places.specs.of_durable.of_core.of_step_parts.Placed.{IsPlaced}

front : (xs ys : List Met) → IsMet (xs ++ ys) → IsMet xs
front [] ys each = tt
front (x ∷ xs) ys each = (each.0, front xs ys each.1)

rest : (xs ys : List Met) → IsMet (xs ++ ys) → IsMet ys
rest [] ys each = each
rest (x ∷ xs) ys each = rest xs ys each.1

noted : (d : Option Decision) → IsMet (decision_note d) → IsPlaced d
noted None each = tt
noted (Some d) each = each.0.1.0.0

in_notes : (d : Option Decision) (locks applies valid answers : List Met) → IsMet ((((locks ++ decision_note d) ++ applies) ++ valid) ++ answers) → IsPlaced d
in_notes d locks applies valid answers each =
    noted d (rest locks (decision_note d) (front (locks ++ decision_note d) applies (front ((locks ++ decision_note d) ++ applies) valid (front (((locks ++ decision_note d) ++ applies) ++ valid) answers each))))

taken_placed : (s : Setting) (node : Node) (m : Message) (ts : List Heard) (d : Option Decision) (reply told_news : List Message) → IsMet (taken s node m (told_notes s node.met m.from m.body) ts d reply told_news).notes → IsPlaced d
taken_placed s node m ts d reply told_news each = in_notes d (told_notes s node.met m.from m.body) (apply_notes s node.met node.stored now.met now.stored) now.valid now.answers each
  where
    base : List Met
    base = onto (decision_note d) (onto (told_notes s node.met m.from m.body) (Takes m ∷ node.met))

    now : Now
    now = all_act s (at_first base (stored_after s base node.stored d)) ts

by_told : (s : Setting) (node : Node) (m : Message) (ts : List Heard) (told : Option Decision) → IsMet (taken_by s node m ts told).notes → IsPlaced (if_new node.met (or_settled told (first_settled ts)))
by_told s node m ts (Some d) each = taken_placed s node m ts (if_new node.met (Some d)) (reply_to s.cluster s.me node.met m) [] each
by_told s node m ts None each =
    taken_placed s node m ts (if_new node.met (first_settled ts)) (reply_to s.cluster s.me node.met m) (news s (if_new node.met (first_settled ts))) each

pub placed : (s : Setting) (node : Node) (m : Message) → IsMet (step s node (Take m)).notes → IsPlaced (decision_in s node m)
placed s node m each = by_told s node m (map (hears_message s (clock_of node.met) m) node.open_operations) (told_decision m.body) each
