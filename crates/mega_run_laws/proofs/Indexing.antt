-- Where each text asks for values that the program can hold, so does each request with which an operation of a tape began.
use Rattle.std.proofs.Common.{◌≡◌, ℕ, Bool, true, false, if◌then◌else◌, List, [], ◌∷◌, Option, Some}
use Rattle.mega_base.specs.declared.names.OpId.{OpId}
use Rattle.mega_outcome.specs.declared.request.Request.{Request}
use Rattle.mega_wal.specs.Same.{same_op}
use Rattle.mega_tape_laws.specs.of_transcript.declared.item.Item.{Item}
use Rattle.mega_tape_laws.specs.of_transcript.declared.item.Item.TheVariants.{Start, Unsent, Tick, Begin, Taken, Dropped, Sent, Grant, Lapse, Counts, Forgets, Serving, Lost, Valid, Invalid, Decide, Apply, Answer, Crash, Cut, Unsafe}
use Rattle.mega_tape_laws.specs.of_promises.Promises.{asked_for}
use Rattle.mega_tape_laws.specs.Indexed.{AsksValues}
use Rattle.mega_run_laws.specs.Usages.{MeansValues}

either : (b : Bool) (one other : Option Request) (request : Request) → (one ≡ Some request → AsksValues request) → (other ≡ Some request → AsksValues request)
    → (if b then one else other) ≡ Some request → AsksValues request
either true one other request f g h = f h
either false one other request f g h = g h

pub asks_values : (meaning : List ℕ → Option Request) → MeansValues meaning → (tape : List Item) (op : OpId) (request : Request)
    → asked_for meaning tape op ≡ Some request → AsksValues request
asks_values meaning each [] op request h = cc
asks_values meaning each (Begin began text ∷ before) op request h =
    either (same_op began op) (meaning text) (asked_for meaning before op) request (each text request) (asks_values meaning each before op request) h
asks_values meaning each (Start node start ∷ before) op request h = asks_values meaning each before op request h
asks_values meaning each (Unsent node message ∷ before) op request h = asks_values meaning each before op request h
asks_values meaning each (Tick node now ∷ before) op request h = asks_values meaning each before op request h
asks_values meaning each (Taken number ∷ before) op request h = asks_values meaning each before op request h
asks_values meaning each (Dropped number ∷ before) op request h = asks_values meaning each before op request h
asks_values meaning each (Sent number message ∷ before) op request h = asks_values meaning each before op request h
asks_values meaning each (Grant cell node epoch ∷ before) op request h = asks_values meaning each before op request h
asks_values meaning each (Lapse cell node epoch ∷ before) op request h = asks_values meaning each before op request h
asks_values meaning each (Counts node cell epoch ∷ before) op request h = asks_values meaning each before op request h
asks_values meaning each (Forgets node cell epoch ∷ before) op request h = asks_values meaning each before op request h
asks_values meaning each (Serving node epoch ∷ before) op request h = asks_values meaning each before op request h
asks_values meaning each (Lost node epoch ∷ before) op request h = asks_values meaning each before op request h
asks_values meaning each (Valid node group position ∷ before) op request h = asks_values meaning each before op request h
asks_values meaning each (Invalid node group position ∷ before) op request h = asks_values meaning each before op request h
asks_values meaning each (Decide node group position entry ∷ before) op request h = asks_values meaning each before op request h
asks_values meaning each (Apply node group position ∷ before) op request h = asks_values meaning each before op request h
asks_values meaning each (Answer o answer ∷ before) op request h = asks_values meaning each before op request h
asks_values meaning each (Crash node ∷ before) op request h = asks_values meaning each before op request h
asks_values meaning each (Cut ∷ before) op request h = asks_values meaning each before op request h
asks_values meaning each (Unsafe ∷ before) op request h = asks_values meaning each before op request h
