-- What a find answers, over a local index in a group or over a global index (CIDR 2011, indexes).
use Rattle.std.specs.Prelude.{ℕ, ◌-◌, ◌==◌, ◌&&◌, if◌then◌else◌, nat_lt, Bool, List, [], ◌∷◌, ◌++◌, flat_map, take, slice_get, Option, Some, None, Result, Ok, Err}
use Rattle.mega_base.specs.declared.names.GroupId.{GroupId}
use Rattle.mega_schema.specs.declared.schema.Index.{Index}
use Rattle.mega_schema.specs.declared.schema.Schema.{Schema}
use Rattle.mega_replica.specs.of_index.declared.found.Found.{Found}
use Rattle.mega_replica.specs.of_index.Finding.{found_in}
use Rattle.mega_replica.specs.of_index.Fits.{numbered}
use Rattle.mega_replica.specs.of_index.Rows.{Listed, list_after}
use Rattle.mega_outcome.specs.declared.answer.Answer.{Answer}
use Rattle.mega_outcome.specs.declared.answer.Answer.TheVariants.{Found as FoundAnswer, Refreshed, Turned}
use Rattle.mega_outcome.specs.declared.answer.Mark.{Mark}
use Rattle.mega_outcome.specs.declared.answer.Turn.TheVariants.{BadRow}
use Rattle.mega_outcome.specs.declared.request.FindRequest.{FindRequest}
use Rattle.mega_rules.specs.Met.{Met, Answers, Starts}
use Rattle.mega_rules.specs.Logs.{log_of}

-- a find is answered by what the index has, or turned by its first value that does not fit
abbrev pub find_answer : List Mark → Result (List Found) ℕ → Answer
find_answer marks (Ok found) = FoundAnswer marks found
find_answer marks (Err place) = Turned (BadRow place)

abbrev pub find_by : Schema → FindRequest → List Mark → List ℕ → Listed → Option Index → Answer
find_by schema request marks group listed None = FoundAnswer marks []
find_by schema request marks group listed (Some index) = find_answer marks (found_in schema request.index index group request.values listed)

-- a position is a mark where it is at least 1
abbrev pub mark_at : GroupId → ℕ → List Mark
mark_at group p = if nat_lt 0 p then record { group = group; position = record { 0 = p } } ∷ [] else []

abbrev pub group_bytes : Option GroupId → List ℕ
group_bytes None = []
group_bytes (Some group) = group.key

abbrev pub group_marks : Option GroupId → ℕ → List Mark
group_marks None p = []
group_marks (Some group) p = mark_at group p

-- a local index, over the rows of its group at a position
abbrev pub local_found : Schema → FindRequest → ℕ → Listed → Answer
local_found schema request p listed =
    find_by schema request (group_marks request.group p) (group_bytes request.group) listed (numbered schema.indexes request.index)

-- the marks of the last refresh of this start, none before it
abbrev pub marks_shown : Answer → List Mark → List Mark
marks_shown (Refreshed marks) before = marks
marks_shown _ before = before

abbrev pub refreshed_marks : List Met → List Mark
refreshed_marks [] = []
refreshed_marks (Starts start ∷ before) = []
refreshed_marks (Answers op answer ∷ before) = marks_shown answer (refreshed_marks before)
refreshed_marks (_ ∷ before) = refreshed_marks before

-- a global index, over the rows of each group through its mark
abbrev pub rows_through : List Met → Mark → Listed
rows_through met mark = list_after (take (mark.position).0 (log_of met mark.group)) []

abbrev pub global_found : Schema → List Met → FindRequest → Answer
global_found schema met request =
    find_by schema request (refreshed_marks met) [] (flat_map (rows_through met) (refreshed_marks met)) (numbered schema.indexes request.index)
