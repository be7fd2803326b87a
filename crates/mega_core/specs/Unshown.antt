-- What leaves the marks that a find on a global index shows as they are: all but a start, and the answer of a refresh.
use Rattle.std.specs.Prelude.{Bool, true, false, Option, Some, None}
use Rattle.mega_outcome.specs.declared.answer.Answer.{Answer}
use Rattle.mega_outcome.specs.declared.answer.Answer.TheVariants.{Refreshed}
use Rattle.mega_outcome.specs.declared.request.Request.{Request}
use Rattle.mega_outcome.specs.declared.request.Request.TheVariants.{Refresh}
use Rattle.mega_rules.specs.Met.{Met, Answers, Starts}

abbrev pub is_plain : Answer → Bool
is_plain (Refreshed marks) = false
is_plain _ = true

abbrev pub is_unshown : Met → Bool
is_unshown (Starts start) = false
is_unshown (Answers op answer) = is_plain answer
is_unshown _ = true

abbrev pub is_refresh : Request → Bool
is_refresh Refresh = true
is_refresh _ = false

-- where an operation is refused, that is no answer of a refresh
abbrev pub is_refused_plainly : Option Answer → Bool
is_refused_plainly None = true
is_refused_plainly (Some answer) = is_plain answer
