-- What a request does that begins: it is answered at once, or acts in turn with the read of its group.
use Rattle.std.proofs.Common.{◌≡◌, ◌∙◌, ℕ, ◌∷◌, [], true, false, List, Option, None, Some, refl, sym, ap, length, ◌+◌}
use Rattle.std.specs.Prelude.{◌&&◌, is_none, is_some, not}
use Rattle.mega_base.specs.declared.names.GroupId.{GroupId}
use Rattle.mega_base.specs.declared.names.OpId.{OpId}
use Rattle.mega_outcome.specs.declared.answer.Answer.{Answer}
use Rattle.mega_outcome.specs.declared.request.FindRequest.{FindRequest}
use Rattle.mega_outcome.specs.declared.request.Mode.{Mode}
use Rattle.mega_outcome.specs.declared.request.Mode.TheVariants.{Current, Snapshot, Inconsistent}
use Rattle.mega_outcome.specs.declared.request.ReadRequest.{ReadRequest}
use Rattle.mega_outcome.specs.declared.request.Request.{Request}
use Rattle.mega_outcome.specs.declared.request.Request.TheVariants.{Txn, Batch, Read, Find, PumpEnter, PumpHandle, Refresh}
use Rattle.mega_read.specs.declared.reading.Move.{Move}
use Rattle.mega_rules.specs.Clock.{clock_of}
use Rattle.mega_rules.specs.Logs.{groups_of}
use Rattle.mega_rules.specs.Operations.{Now, Reads, Setting}
use Rattle.mega_rules.specs.Acting.{Next, Rests, begins_read, ends, read_begun, rests_within}
use Rattle.mega_rules.specs.Steps.{Heard, acts_first, acts_in_turn, begins, find_begins, is_current, local_find_begins, new_operation, read_begins}
use Rattle.mega_answers.specs.of_node_laws.About.{IsOf}
use Rattle.mega_answers.specs.of_step_work.Servable.{is_at_once, is_indexed, is_plain}
use Rattle.mega_answers.specs.Indexing.{by_index, found_by_index}
use Rattle.mega_answers.specs.Showing.{at_once, looks, looks_in}

module _ (s : Setting) (now : Now) (op : OpId) where
  -- a read that is not answered at once asks for current rows
  current_begins : (request : ReadRequest) (group : GroupId) (clock : ℕ) (mode : Mode) → not (is_current mode) ≡ false → request.group ≡ group
      → read_begins s now (new_operation op (Read request) clock) request mode ≡ begins_read s now (new_operation op (Read request) clock) group None []
  current_begins request group clock Current current of = ap (λ (own : GroupId). begins_read s now (new_operation op (Read request) clock) own None []) of
  current_begins request group clock Snapshot current of = cc
  current_begins request group clock Inconsistent current of = cc

  abbrev ends_by : Option Answer → Next
  ends_by None = Rests now
  ends_by (Some answer) = Rests (ends now op answer)

  read_answered : (request : ReadRequest) (clock : ℕ) (mode : Mode) (answer : Answer) → looks s now (Read request) request.group mode ≡ Some answer
      → read_begins s now (new_operation op (Read request) clock) request mode ≡ Rests (ends now op answer)
  read_answered request clock Current answer is = cc
  read_answered request clock Snapshot answer is = ap ends_by is
  read_answered request clock Inconsistent answer is = ap ends_by is

  local_answered : (request : FindRequest) (group : GroupId) (clock : ℕ) (mode : Mode) (answer : Answer) → looks s now (Find request) group mode ≡ Some answer
      → local_find_begins s now (new_operation op (Find request) clock) request group mode ≡ Rests (ends now op answer)
  local_answered request group clock Current answer is = cc
  local_answered request group clock Snapshot answer is = ap ends_by is
  local_answered request group clock Inconsistent answer is = ap ends_by is

  find_answered : (request : FindRequest) (group : Option GroupId) (clock : ℕ) (answer : Answer) → looks_in s now (Find request) group ≡ Some answer
      → find_begins s now (new_operation op (Find request) clock) request group ≡ Rests (ends now op answer)
  find_answered request None clock answer is = cc
  find_answered request (Some group) clock answer is = local_answered request group clock request.mode answer is

  -- one that is answered at once ends
  pub begins_answered : (request : Request) (clock : ℕ) (answer : Answer) → at_once s now request ≡ Some answer → begins s now (new_operation op request clock) ≡ ends now op answer
  begins_answered (Txn transaction) clock answer is = cc
  begins_answered (Batch own transactions) clock answer is = cc
  begins_answered (Read request) clock answer is = ap (rests_within (length (groups_of now.met) + 2) s) (read_answered request clock request.mode answer is)
  begins_answered (Find request) clock answer is = ap (rests_within (length (groups_of now.met) + 2) s) (find_answered request request.group clock answer is)
  begins_answered PumpEnter clock answer is = cc
  begins_answered PumpHandle clock answer is = cc
  begins_answered Refresh clock answer is = cc

  -- so does one that the indexes answer
  found_indexed : (request : FindRequest) (group : Option GroupId) (clock : ℕ) (answer : Answer) → found_by_index s.cluster.schema now request group ≡ Some answer
      → find_begins s now (new_operation op (Find request) clock) request group ≡ Rests (ends now op answer)
  found_indexed request None clock answer is = ap ends_by is
  found_indexed request (Some group) clock answer is = cc

  pub begins_indexed : (request : Request) (clock : ℕ) (answer : Answer) → by_index s.cluster.schema now request ≡ Some answer → begins s now (new_operation op request clock) ≡ ends now op answer
  begins_indexed (Txn transaction) clock answer is = cc
  begins_indexed (Batch own transactions) clock answer is = cc
  begins_indexed (Read request) clock answer is = cc
  begins_indexed (Find request) clock answer is = ap (rests_within (length (groups_of now.met) + 2) s) (found_indexed request request.group clock answer is)
  begins_indexed PumpEnter clock answer is = cc
  begins_indexed PumpHandle clock answer is = cc
  begins_indexed Refresh clock answer is = ap (λ found. rests_within (length (groups_of now.met) + 2) s (ends_by found)) is

  -- a find in a group that asks for current rows reads it
  find_current : (request : FindRequest) (group : GroupId) (clock : ℕ) (mode : Mode) → not (is_current mode) ≡ false
      → local_find_begins s now (new_operation op (Find request) clock) request group mode ≡ begins_read s now (new_operation op (Find request) clock) group None []
  find_current request group clock Current current = refl
  find_current request group clock Snapshot current = cc
  find_current request group clock Inconsistent current = cc

  find_begins_in : (request : FindRequest) (asked : Option GroupId) (group : GroupId) (clock : ℕ) → (is_some asked && not (is_current request.mode)) ≡ false → asked ≡ Some group
      → find_begins s now (new_operation op (Find request) clock) request asked ≡ begins_read s now (new_operation op (Find request) clock) group None []
  find_begins_in request asked group clock current of =
      ap (find_begins s now (new_operation op (Find request) clock) request) of
      ∙ find_current request group clock request.mode (ap (λ (o : Option GroupId). is_some o && not (is_current request.mode)) (sym of) ∙ current)

  first_by : (request : Request) (group : GroupId) (clock : ℕ) → is_plain request ≡ true → is_at_once request ≡ false → IsOf request group
      → acts_first s now (new_operation op request clock) ≡ begins_read s now (new_operation op request clock) group None []
  first_by (Txn transaction) group clock built current of = ap (λ (own : GroupId). begins_read s now (new_operation op (Txn transaction) clock) own None []) of
  first_by (Batch own transactions) group clock built current of = ap (λ (own' : GroupId). begins_read s now (new_operation op (Batch own transactions) clock) own' None []) of
  first_by (Read request) group clock built current of = current_begins request group clock request.mode current of
  first_by (Find request) group clock built current of = find_begins_in request request.group group clock current of
  first_by PumpEnter group clock built current of = cc
  first_by PumpHandle group clock built current of = cc
  first_by Refresh group clock built current of = cc

  pub begins_by : (request : Request) (group : GroupId) (clock : ℕ) → is_plain request ≡ true → is_at_once request ≡ false → IsOf request group
      → begins s now (new_operation op request clock) ≡ rests_within (length (groups_of now.met) + 2) s (begins_read s now (new_operation op request clock) group None [])
  begins_by request group clock built current of = ap (rests_within (length (groups_of now.met) + 2) s) (first_by request group clock built current of)

  -- what is heard of an operation that begins with a read
  abbrev pub begun : Request → ℕ → List GroupId → GroupId → Move → Heard
  begun request began visited group made = record {
    operation = record { id = op; request = request; began = began; visited = visited; message = None; phase = Reads group made.reading };
    sends = made.sends;
  }

  pub begins_in_turn : (request : Request) (began : ℕ) (visited : List GroupId) (group : GroupId) (made : Move) → began ≡ clock_of now.met → visited ≡ group ∷ []
      → made ≡ read_begun s now (new_operation op request (clock_of now.met)) group [] → is_plain request ≡ true → is_at_once request ≡ false → IsOf request group
      → acts_in_turn s now (begun request began visited group made) ≡ begins s now (new_operation op request (clock_of now.met))
  begins_in_turn request began visited group made clock first is built current of =
      (λ i. acts_in_turn s now (begun request (clock i) (first i) group (is i))) ∙ sym (begins_by request group (clock_of now.met) built current of)

  indexed_met : (request : FindRequest) (group : Option GroupId) (clock : ℕ) → is_none group ≡ true → (rests_within (length (groups_of now.met) + 2) s (find_begins s now (new_operation op (Find request) clock) request group)).met ≡ now.met
  indexed_met request None clock is = refl
  indexed_met request (Some group) clock is = cc

  indexed_stored : (request : FindRequest) (group : Option GroupId) (clock : ℕ) → is_none group ≡ true → (rests_within (length (groups_of now.met) + 2) s (find_begins s now (new_operation op (Find request) clock) request group)).stored ≡ now.stored
  indexed_stored request None clock is = refl
  indexed_stored request (Some group) clock is = cc

  -- which changes nothing of what was met and stored
  pub met_stays : (request : Request) (clock : ℕ) → is_indexed request ≡ true → (begins s now (new_operation op request clock)).met ≡ now.met
  met_stays (Txn transaction) clock is = cc
  met_stays (Batch own transactions) clock is = cc
  met_stays (Read request) clock is = cc
  met_stays (Find request) clock is = indexed_met request request.group clock is
  met_stays PumpEnter clock is = cc
  met_stays PumpHandle clock is = cc
  met_stays Refresh clock is = refl

  pub stored_stays : (request : Request) (clock : ℕ) → is_indexed request ≡ true → (begins s now (new_operation op request clock)).stored ≡ now.stored
  stored_stays (Txn transaction) clock is = cc
  stored_stays (Batch own transactions) clock is = cc
  stored_stays (Read request) clock is = cc
  stored_stays (Find request) clock is = indexed_stored request request.group clock is
  stored_stays PumpEnter clock is = cc
  stored_stays PumpHandle clock is = cc
  stored_stays Refresh clock is = refl
