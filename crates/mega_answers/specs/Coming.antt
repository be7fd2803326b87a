-- What a request that is served comes to, and what its operation does for that.
use Rattle.std.specs.Prelude.{ℕ, Option, Some, None}
use Rattle.mega_base.specs.declared.names.GroupId.{GroupId}
use Rattle.mega_schema.specs.declared.schema.Schema.{Schema}
use Rattle.mega_index.specs.Rows.{Rows}
use Rattle.mega_outcome.specs.declared.request.Request.{Request}
use Rattle.mega_outcome.specs.declared.request.Request.TheVariants.{Txn, Batch, Read, Find, PumpEnter, PumpHandle, Refresh}
use Rattle.mega_outcome.specs.Outcome.{batch_outcome, outcome}
use Rattle.mega_read.specs.declared.reading.Reading.{Reading}
use Rattle.mega_rules.specs.Operations.{Now, Operation, Setting}
use Rattle.mega_rules.specs.Acting.{batch_sealed, sealed}
use Rattle.mega_answers.specs.declared.request_outcome.RequestOutcome.{RequestOutcome}
use Rattle.mega_answers.specs.declared.request_outcome.RequestOutcome.TheVariants.{Alone, Batched}

abbrev pub comes : Schema → Request → Rows → Option RequestOutcome
comes schema (Txn transaction) rows = Some (Alone (outcome schema transaction rows))
comes schema (Batch own transactions) rows = Some (Batched (batch_outcome schema own transactions rows))
comes schema (Read request) rows = None
comes schema (Find request) rows = None
comes schema PumpEnter rows = None
comes schema PumpHandle rows = None
comes schema Refresh rows = None

-- it is turned away, or proposes
abbrev pub sealed_by : Setting → Now → Operation → GroupId → Reading → ℕ → RequestOutcome → Now
sealed_by s now o group r p (Alone came) = sealed s now o group r p came
sealed_by s now o group r p (Batched came) = batch_sealed s now o group r p came
