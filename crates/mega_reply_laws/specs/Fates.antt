-- What becomes of the operations of a node in a step: each stays open, or is answered.
use Rattle.std.specs.Prelude.{◌≡◌, Bool, true, false, List, [], ◌∷◌, ◌++◌, filter, flat_map, map}
use Rattle.std.specs.List.{list_any}
use Rattle.mega_base.specs.declared.names.OpId.{OpId}
use Rattle.mega_entry.specs.Same.{same_op}
use Rattle.mega_outcome.specs.declared.answer.Answer.{Answer}
use Rattle.mega_promises.specs.of_rules.Met.{Met, Answers}
use Rattle.mega_promises.specs.of_rules.Operations.{Node, Operation, Setting}
use Rattle.mega_promises.specs.of_rules.Steps.{Begin, Event, Step, Take, Tick, op_of}

pub data Fate : Type 0 where
  Stays : (op : OpId) → Fate
  Ends : (op : OpId) (answer : Answer) → Fate

abbrev pub op_in : Fate → OpId
op_in (Stays op) = op
op_in (Ends op answer) = op

abbrev pub staying : Fate → List OpId
staying (Stays op) = op ∷ []
staying (Ends op answer) = []

abbrev pub answering : Fate → List Met
answering (Stays op) = []
answering (Ends op answer) = Answers op answer ∷ []

abbrev pub id_of : Operation → OpId
id_of o = o.id

abbrev pub ids : List Operation → List OpId
ids os = map id_of os

-- an operation is among these
abbrev pub among : List OpId → OpId → Bool
among ops x = list_any (λ (op : OpId). same_op op x) ops

-- no two of them are the same
abbrev pub AreApart : List OpId → Type 0
AreApart [] = Unit {0}
AreApart (op ∷ ops) = (among ops op ≡ false) × AreApart ops

abbrev pub is_answer : Met → Bool
is_answer (Answers op answer) = true
is_answer _ = false

-- the operations that are open as an event happens, with the one that begins by it
abbrev pub open_at : Setting → Node → Event → List OpId
open_at s node (Tick now) = ids node.open_operations
open_at s node (Take message) = ids node.open_operations
open_at s node (Begin request text) = ids node.open_operations ++ op_of s node.met ∷ []

-- each of these operations stays open behind the step, or is answered in it once, in order; and nothing else is answered
pub record HaveFates (before : List OpId) (made : Step) : Type 0 where
  pub fates : List Fate
  pub ops_are : map op_in fates ≡ before
  pub open_are : ids made.node.open_operations ≡ flat_map staying fates
  pub answers_are : filter is_answer made.notes ≡ flat_map answering fates
