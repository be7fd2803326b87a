-- What an operation read through, as each moment of a tape shows it, where `Far` says which positions are far enough: the first entries of a log, through such a position.
use Rattle.std.specs.Prelude.{◌≡◌, ℕ, ◌-◌, ◌≤◌, true, List, length, Option, Some, Result, Err}
use Rattle.mega_base.specs.declared.names.GroupId.{GroupId}
use Rattle.mega_base.specs.declared.names.OpId.{OpId}
use Rattle.mega_base.specs.declared.names.Position.{Position}
use Rattle.mega_ballot.specs.Order.{zero_ballot}
use Rattle.mega_cluster.specs.declared.cluster.Cluster.{Cluster}
use Rattle.mega_entry.specs.declared.content.Content.{Content}
use Rattle.mega_index.specs.Rows.{after, no_rows}
use Rattle.mega_wire.specs.declared.message.Body.{Body}
use Rattle.mega_wire.specs.declared.message.Body.TheVariants.{Accept}
use Rattle.mega_outcome.specs.declared.answer.Answer.{Answer}
use Rattle.mega_outcome.specs.declared.answer.Answer.TheVariants.{AllTurned, Found as FoundAnswer, LogFull, Read as ReadAnswer, Turned}
use Rattle.mega_outcome.specs.declared.answer.Shown.{Shown}
use Rattle.mega_outcome.specs.declared.answer.Turn.{Turn}
use Rattle.mega_outcome.specs.declared.request.Request.{Request}
use Rattle.mega_outcome.specs.declared.request.Request.TheVariants.{Batch as BatchRequest, Find, Read as ReadRequested, Txn}
use Rattle.mega_outcome.specs.Outcome.{batch_outcome, outcome}
use Rattle.mega_leased_laws.specs.of_settled_laws.of_run_laws.of_tape_laws.of_promises.of_transcript.declared.item.Item.{Item}
use Rattle.mega_leased_laws.specs.of_settled_laws.of_run_laws.of_tape_laws.of_promises.of_transcript.declared.item.Item.TheVariants.{Answer as AnswerItem, Sent}
use Rattle.mega_leased_laws.specs.of_settled_laws.of_run_laws.of_tape_laws.of_promises.of_rules.Steps.{is_current}
use Rattle.mega_leased_laws.specs.of_settled_laws.of_run_laws.of_tape_laws.of_promises.Fresh.{find_over, read_over}
use Rattle.mega_leased_laws.specs.of_settled_laws.of_run_laws.of_tape_laws.of_promises.Promises.{asked_for, group_written, is_write}
use Rattle.mega_leased_laws.specs.of_settled_laws.of_run_laws.of_tape_laws.Writes.{Knows, Usage}

module _ (Far : List Item → OpId → GroupId → ℕ → Type 0) where
  -- an operation read the first entries of a log, which its node decided, through a position that is far enough; and this holds of them
  pub record ReadOver (tape : List Item) (op : OpId) (group : GroupId) (Shows : ℕ → List Content → Type 0) : Type 0 where
    pub below : List Content
    pub known : Knows tape op.node.0 group below
    pub far : Far tape op group (length below)
    pub shows : Shows (length below) below

  -- ---- what answers show

  -- current reads and finds
  abbrev pub IsShown : Cluster → List Item → OpId → Request → Answer → Type 0
  IsShown c tape op (ReadRequested request) answer = is_current request.mode ≡ true → ReadOver tape op request.group (λ p log. read_over c request p log ≡ answer)
  IsShown c tape op (Find request) answer = is_current request.mode ≡ true → (group : GroupId) → request.group ≡ Some group → ReadOver tape op group (λ p log. find_over c request p log ≡ answer)
  IsShown c tape op _ answer = Unit {0}

  -- transactions that are turned, and reads and finds
  abbrev pub IsTurned : Cluster → List Item → OpId → Request → Turn → Type 0
  IsTurned c tape op (Txn transaction) turn = ReadOver tape op transaction.group (λ p log. outcome c.schema transaction (after log no_rows) ≡ Err turn)
  IsTurned c tape op request turn = IsShown c tape op request (Turned turn)

  -- batches that are turned as a whole
  abbrev pub AreTurned : Cluster → List Item → OpId → Request → List (Result (List (Option Shown)) Turn) → Type 0
  AreTurned c tape op (BatchRequest group transactions) results = ReadOver tape op group (λ p log. (batch_outcome c.schema group transactions (after log no_rows)).results ≡ results)
  AreTurned c tape op _ results = Unit {0}

  -- those that find the log at its limit
  pub record IsFull (c : Cluster) (tape : List Item) (op : OpId) (request : Request) (n : Position) : Type 0 where
    pub group : GroupId
    pub home : is_write request ≡ true → group_written request ≡ Some group
    pub reads : ReadOver tape op group (λ p log. (p ≡ n.0) × ((c.limit).0 ≤ p))

  abbrev pub IsFarAnswer : Cluster → List Item → OpId → Request → Answer → Type 0
  IsFarAnswer c tape op request (ReadAnswer p rows) = IsShown c tape op request (ReadAnswer p rows)
  IsFarAnswer c tape op request (FoundAnswer marks found) = IsShown c tape op request (FoundAnswer marks found)
  IsFarAnswer c tape op request (Turned turn) = IsTurned c tape op request turn
  IsFarAnswer c tape op request (AllTurned results) = AreTurned c tape op request results
  IsFarAnswer c tape op request (LogFull n) = IsFull c tape op request n
  IsFarAnswer c tape op request _ = Unit {0}

  -- an operation is answered so, by what it asked for
  pub record Answered (c : Cluster) (usage : Usage) (tape : List Item) (op : OpId) (answer : Answer) : Type 0 where
    pub request : Request
    pub asked : asked_for usage.meaning tape op ≡ Some request
    pub far : IsFarAnswer c tape op request answer

  -- an operation proposes its own entry at ballot zero right above a position that is far enough
  abbrev pub IsProposed : List Item → Body → Type 0
  IsProposed tape (Accept op group n b e) = b ≡ zero_ballot → e.id ≡ Some op → Far tape op group (n.0 - 1)
  IsProposed tape _ = Unit {0}

  -- each answer and each proposal, by what stood before it
  abbrev pub IsFarItem : Cluster → Usage → List Item → Item → Type 0
  IsFarItem c usage before (AnswerItem op answer) = Answered c usage before op answer
  IsFarItem c usage before (Sent key m) = IsProposed before m.body
  IsFarItem c usage before _ = Unit {0}
