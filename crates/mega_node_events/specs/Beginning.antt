-- What a node has come to where an operation has begun.
use Rattle.std.specs.Prelude.{ℕ, List, ◌∷◌, Option, Some, None}
use Rattle.mega_outcome.specs.declared.request.Request.{Request}
use Rattle.mega_rules.specs.Met.{Begins}
use Rattle.mega_rules.specs.Clock.{clock_of}
use Rattle.mega_rules.specs.Operations.{Node, Now, Setting}
use Rattle.mega_outcome.specs.declared.answer.Answer.{Answer}
use Rattle.mega_outcome.specs.declared.answer.Mark.{Mark}
use Rattle.mega_rules.specs.Finding.{refreshed_marks}
use Rattle.mega_actions.specs.of_answers.Indexing.{marks_then}
use Rattle.mega_rules.specs.Steps.{at_first, at_open, new_operation, op_of, refusal, unless_refused}

-- before it is refused or goes on
abbrev pub at_begin : Setting → Node → List ℕ → Now
at_begin s node text = at_open (at_first (Begins (op_of s node.met) text ∷ node.met) node.stored) node.open_operations

-- and then
abbrev pub has_begun : Setting → Node → Request → List ℕ → Now
has_begun s node request text = unless_refused s (at_begin s node text) (new_operation (op_of s node.met) request (clock_of node.met)) (refusal s node request)

-- the marks to which the global indexes are brought as it begins, where it is not refused
abbrev pub marks_unless : Now → Request → Option Answer → List Mark
marks_unless now request None = marks_then now request
marks_unless now request (Some answer) = refreshed_marks now.met
