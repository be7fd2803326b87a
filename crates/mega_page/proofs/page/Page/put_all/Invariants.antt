use Rattle.std.proofs.Common.{List, ◌++◌, take}
use Rattle.mega_schema.specs.declared.schema.Schema.{Schema}
use Rattle.mega_transcript.specs.Recorded.{Line, put_out}
use Rattle.mega_page.specs.Pages.{IsPage}
use Rattle.mega_page.proofs.page.Page.put_all.Given as goal

abbrev pub invariant-loop-message : goal.invariant-loop-message
invariant-loop-message l = (schema : Schema) (lines : List Line) → IsPage schema l.fn.self lines → IsPage schema l.self (lines ++ put_out (take l.message-index l.sends))
