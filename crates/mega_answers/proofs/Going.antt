-- What an operation does whose read is complete, by what its request comes to.
use Rattle.std.proofs.Common.{◌≡◌, ◌∙◌, ℕ, Bool, false, if◌then◌else◌, List, Option, Some, None, refl, ap}
use Rattle.std.specs.Prelude.{nat_le}
use Rattle.mega_base.specs.declared.names.GroupId.{GroupId}
use Rattle.mega_base.specs.declared.names.OpId.{OpId}
use Rattle.mega_disk.specs.VersionMaps.{Versions}
use Rattle.mega_entry.specs.declared.content.Enter.{Enter}
use Rattle.mega_schema.specs.declared.schema.Schema.{Schema}
use Rattle.mega_outcome.specs.declared.answer.Answer.{Answer}
use Rattle.mega_outcome.specs.declared.answer.Answer.TheVariants.{LogFull}
use Rattle.mega_outcome.specs.declared.request.Request.{Request}
use Rattle.mega_outcome.specs.declared.request.Request.TheVariants.{Txn, Batch, Read, Find, PumpEnter, PumpHandle, Refresh}
use Rattle.mega_outcome.specs.Answers.{rows_at as versions_at}
use Rattle.mega_outcome.specs.Outcome.{batch_outcome, outcome}
use Rattle.mega_read.specs.declared.reading.Reading.{Reading}
use Rattle.mega_rules.specs.Operations.{Now, Operation, Reads, Setting}
use Rattle.mega_rules.specs.Acting.{Next, Rests, batch_sealed, ends, finishes, listed_at, rows_at, sealed}
use Rattle.mega_marks.specs.of_node_laws.About.{IsOf}
use Rattle.mega_answers.specs.declared.request_outcome.RequestOutcome.{RequestOutcome}
use Rattle.mega_answers.specs.declared.request_outcome.RequestOutcome.TheVariants.{Alone, Batched}
use Rattle.mega_answers.specs.Coming.{comes, sealed_by}
use Rattle.mega_answers.specs.Sees.{Sees}
use Rattle.mega_answers.specs.Showing.{shown}

-- over the rows that are seen a request comes to what it does over the log
pub sees_comes : (schema : Schema) (version : Versions) (group : GroupId) (p : ℕ) (now : Now) (request : Request) → IsOf request group → Sees schema version group p now
    → comes schema request (versions_at version p) ≡ comes schema request (rows_at now group p)
sees_comes schema version group p now (Txn transaction) of sees = ap (λ came. Some (Alone came)) (sees.alone transaction of)
sees_comes schema version group p now (Batch own transactions) of sees = ap (λ came. Some (Batched came)) (sees.batched own transactions of)
sees_comes schema version group p now (Read request) of sees = refl
sees_comes schema version group p now (Find request) of sees = refl
sees_comes schema version group p now PumpEnter of sees = refl
sees_comes schema version group p now PumpHandle of sees = refl
sees_comes schema version group p now Refresh of sees = refl

module _ (s : Setting) (now : Now) (group : GroupId) (r : Reading) (p : ℕ) (id : OpId) (began : ℕ) (visited : List GroupId) (message : Option Enter) where
  abbrev one : Request → Operation
  one request = record { id = id; request = request; began = began; visited = visited; message = message; phase = Reads group r }

  abbrev ends_by : Option Answer → Next
  ends_by None = Rests now
  ends_by (Some answer) = Rests (ends now id answer)

  -- one that is answered by its rows ends so
  pub answers_by : (request : Request) (answer : Answer) → shown s request p (rows_at now group p) (listed_at now group p) ≡ Some answer → finishes s now (one request) group r p ≡ Rests (ends now id answer)
  answers_by (Txn transaction) answer is = cc
  answers_by (Batch own transactions) answer is = cc
  answers_by (Read request) answer is = ap ends_by is
  answers_by (Find request) answer is = ap ends_by is
  answers_by PumpEnter answer is = cc
  answers_by PumpHandle answer is = cc
  answers_by Refresh answer is = cc

  abbrev by : Request → Option RequestOutcome → Next
  by request None = Rests now
  by request (Some came) = Rests (sealed_by s now (one request) group r p came)

  -- else it goes on by what its request comes to
  pub goes_by : (request : Request) (came : RequestOutcome) → nat_le (s.cluster.limit).0 p ≡ false → comes s.cluster.schema request (rows_at now group p) ≡ Some came → finishes s now (one request) group r p ≡ Rests (sealed_by s now (one request) group r p came)
  goes_by (Txn transaction) came room is =
      ap (λ (t : Bool). if t then Rests (ends now id (LogFull (record { 0 = p }))) else Rests (sealed s now (one (Txn transaction)) group r p (outcome s.cluster.schema transaction (rows_at now group p)))) room
      ∙ ap (by (Txn transaction)) is
  goes_by (Batch own transactions) came room is =
      ap (λ (t : Bool). if t then Rests (ends now id (LogFull (record { 0 = p }))) else Rests (batch_sealed s now (one (Batch own transactions)) group r p (batch_outcome s.cluster.schema own transactions (rows_at now group p)))) room
      ∙ ap (by (Batch own transactions)) is
  goes_by (Read request) came room is = cc
  goes_by (Find request) came room is = cc
  goes_by PumpEnter came room is = cc
  goes_by PumpHandle came room is = cc
  goes_by Refresh came room is = cc
