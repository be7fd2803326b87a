-- What a request is answered by the rows of its group, and where one looks that asks for no current ones.
use Rattle.std.specs.Prelude.{ℕ, List, [], Option, Some, None, Result, Ok, Err}
use Rattle.mega_base.specs.declared.names.GroupId.{GroupId}
use Rattle.mega_index.specs.Rows.{Listed, Rows}
use Rattle.mega_outcome.specs.declared.answer.Answer.{Answer}
use Rattle.mega_outcome.specs.declared.answer.Answer.TheVariants.{Read as ReadAnswer, Turned}
use Rattle.mega_outcome.specs.declared.answer.Done.{Done}
use Rattle.mega_outcome.specs.declared.answer.Turn.{Turn}
use Rattle.mega_outcome.specs.declared.transaction.RowRef.{RowRef}
use Rattle.mega_outcome.specs.declared.transaction.Transaction.{Transaction}
use Rattle.mega_outcome.specs.declared.request.Mode.{Mode}
use Rattle.mega_outcome.specs.declared.request.Mode.TheVariants.{Current, Snapshot, Inconsistent}
use Rattle.mega_outcome.specs.declared.request.Request.{Request}
use Rattle.mega_outcome.specs.declared.request.Request.TheVariants.{Txn, Batch, Read, Find, PumpEnter, PumpHandle, Refresh}
use Rattle.mega_rules.specs.Operations.{Now, Setting}
use Rattle.mega_rules.specs.Acting.{read_answer}
use Rattle.mega_rules.specs.Finding.{local_found}
use Rattle.mega_rules.specs.Steps.{applied_position, snapshot_listed, snapshot_rows, stored_listed, stored_rows}
use Rattle.mega_step_work.specs.Servable.{group_asked, mode_asked}

-- a read of named rows is a transaction that only reads
abbrev pub reading : GroupId → List RowRef → Transaction
reading group refs = record { group = group; checks = []; reads = refs; writes = []; sends = [] }

abbrev pub told : ℕ → Result Done Turn → Answer
told p (Ok done) = ReadAnswer (record { 0 = p }) done.replies
told p (Err turn) = Turned turn

-- what a request is answered as one of this position, over these rows
abbrev pub shown : Setting → Request → ℕ → Rows → Listed → Option Answer
shown s (Txn transaction) p rows listed = None
shown s (Batch own transactions) p rows listed = None
shown s (Read request) p rows listed = Some (read_answer s request p rows listed)
shown s (Find request) p rows listed = Some (local_found s.cluster.schema request p listed)
shown s PumpEnter p rows listed = None
shown s PumpHandle p rows listed = None
shown s Refresh p rows listed = None

-- a snapshot looks at the position that is applied, an inconsistent look is behind all that is decided
abbrev pub place_by : Mode → ℕ → ℕ → Option ℕ
place_by Current applied prefix = None
place_by Snapshot applied prefix = Some applied
place_by Inconsistent applied prefix = Some prefix

-- what it is answered at once
abbrev pub looks : Setting → Now → Request → GroupId → Mode → Option Answer
looks s now request group Current = None
looks s now request group Snapshot = shown s request (applied_position now group) (snapshot_rows now group) (snapshot_listed now group)
looks s now request group Inconsistent = shown s request (applied_position now group) (stored_rows now group) (stored_listed now group)

abbrev pub looks_in : Setting → Now → Request → Option GroupId → Option Answer
looks_in s now request None = None
looks_in s now request (Some group) = looks s now request group (mode_asked request)

abbrev pub at_once : Setting → Now → Request → Option Answer
at_once s now request = looks_in s now request (group_asked request)
