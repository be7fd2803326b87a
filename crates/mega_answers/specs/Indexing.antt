-- What a request that begins is answered by the global indexes of its node, and the marks to which they are brought then.
use Rattle.std.specs.Prelude.{List, Option, Some, None}
use Rattle.mega_base.specs.declared.names.GroupId.{GroupId}
use Rattle.mega_outcome.specs.declared.answer.Answer.{Answer}
use Rattle.mega_outcome.specs.declared.answer.Answer.TheVariants.{Refreshed}
use Rattle.mega_outcome.specs.declared.answer.Mark.{Mark}
use Rattle.mega_outcome.specs.declared.request.FindRequest.{FindRequest}
use Rattle.mega_outcome.specs.declared.request.Request.{Request}
use Rattle.mega_outcome.specs.declared.request.Request.TheVariants.{Txn, Batch, Read, Find, PumpEnter, PumpHandle, Refresh}
use Rattle.mega_schema.specs.declared.schema.Schema.{Schema}
use Rattle.mega_rules.specs.Acting.{applied_marks}
use Rattle.mega_rules.specs.Finding.{global_found, refreshed_marks}
use Rattle.mega_rules.specs.Operations.{Now}

-- a refresh brings them to what is applied
abbrev pub marks_then : Now → Request → List Mark
marks_then now (Txn transaction) = refreshed_marks now.met
marks_then now (Batch group transactions) = refreshed_marks now.met
marks_then now (Read request) = refreshed_marks now.met
marks_then now (Find request) = refreshed_marks now.met
marks_then now PumpEnter = refreshed_marks now.met
marks_then now PumpHandle = refreshed_marks now.met
marks_then now Refresh = applied_marks now

abbrev pub found_by_index : Schema → Now → FindRequest → Option GroupId → Option Answer
found_by_index schema now request None = Some (global_found schema now.met request)
found_by_index schema now request (Some group) = None

abbrev pub by_index : Schema → Now → Request → Option Answer
by_index schema now (Txn transaction) = None
by_index schema now (Batch group transactions) = None
by_index schema now (Read request) = None
by_index schema now (Find request) = found_by_index schema now request request.group
by_index schema now PumpEnter = None
by_index schema now PumpHandle = None
by_index schema now Refresh = Some (Refreshed (applied_marks now))
