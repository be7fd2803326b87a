-- How the global indexes of a node stand to what it met: each group through the mark of the last refresh of this start.
use Rattle.std.specs.Prelude.{◌≡◌, true, List, ◌++◌, map}
use Rattle.mega_schema.specs.declared.schema.Schema.{Schema}
use Rattle.mega_index.specs.declared.global.GlobalIndex.{GlobalIndex}
use Rattle.mega_index.specs.Keeping.{is_kept_under, marks_of}
use Rattle.mega_outcome.specs.declared.answer.Mark.{Mark}
use Rattle.mega_rules.specs.Finding.{refreshed_marks}
use Rattle.mega_rules.specs.Met.{Met}
use Rattle.mega_marks.specs.declared.indexed.Indexed.{Indexed}
use Rattle.mega_marks.specs.Marked.{AreWithin, lead_to, marked_at}

-- they were brought to these marks under the schema alone, and no mark is past its log
pub record AreAt (schema : Schema) (index : GlobalIndex) (met : List Met) (marks : List Mark) : Type 0 where
  pub kept : is_kept_under schema index ≡ true
  pub within : AreWithin met marks
  pub marked : marks_of index ≡ map (marked_at met) marks

-- and these marks are kept beside them
pub record AreMarked (schema : Schema) (indexed : Indexed) (met : List Met) (marks : List Mark) : Type 0 where
  pub at : AreAt schema indexed.index met marks
  pub shown : indexed.marks ≡ marks

abbrev pub IsIndexed : Schema → Indexed → List Met → Type 0
IsIndexed schema indexed met = AreMarked schema indexed met (refreshed_marks met)

-- they are on their way: the first groups are at their new marks, and the others may move on to theirs
pub record GoOn (schema : Schema) (index : GlobalIndex) (met : List Met) (done left : List Mark) : Type 0 where
  pub rest : List Mark
  pub at : AreAt schema index met (done ++ rest)
  pub leads : lead_to rest left ≡ true

-- they may move on to these marks
pub record MayMove (schema : Schema) (index : GlobalIndex) (met : List Met) (marks : List Mark) : Type 0 where
  pub from : List Mark
  pub at : AreAt schema index met from
  pub leads : lead_to from marks ≡ true
