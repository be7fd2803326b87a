-- What is found at the marks.
use Rattle.std.proofs.Common.{◌≡◌, ℕ, List, [], ◌∷◌, ◌++◌, map, refl, ap, Option, Some, None}
use Rattle.std.specs.Prelude.{flat_map}
use Rattle.mega_index.specs.Marks.{rows_marked}
use Rattle.mega_index.specs.Rows.{Listed}
use Rattle.mega_index.specs.Finding.{found_by, found_over}
use Rattle.mega_index.specs.Fits.{numbered}
use Rattle.mega_outcome.specs.declared.answer.Mark.{Mark}
use Rattle.mega_outcome.specs.declared.request.FindRequest.{FindRequest}
use Rattle.mega_schema.specs.declared.schema.Index.{Index}
use Rattle.mega_schema.specs.declared.schema.Schema.{Schema}
use Rattle.mega_rules.specs.Finding.{find_answer, find_by, global_found, refreshed_marks, rows_through}
use Rattle.mega_rules.specs.Met.{Met}
use Rattle.mega_marks.specs.Marked.{marked_at}

pub rows_are : (met : List Met) (marks : List Mark) → rows_marked (map (marked_at met) marks) ≡ flat_map (rows_through met) marks
rows_are met [] = refl
rows_are met (mark ∷ marks) = ap (λ (more : Listed). rows_through met mark ++ more) (rows_are met marks)

find_is : (schema : Schema) (request : FindRequest) (marks : List Mark) (group : List ℕ) (listed : Listed) (o : Option Index)
    → find_by schema request marks group listed o ≡ find_answer marks (found_by schema request.index o group request.values listed)
find_is schema request marks group listed None = refl
find_is schema request marks group listed (Some index) = refl

pub found_is : (schema : Schema) (met : List Met) (request : FindRequest) → global_found schema met request ≡ find_answer (refreshed_marks met) (found_over schema request.index [] request.values (flat_map (rows_through met) (refreshed_marks met)))
found_is schema met request = find_is schema request (refreshed_marks met) [] (flat_map (rows_through met) (refreshed_marks met)) (numbered schema.indexes request.index)
