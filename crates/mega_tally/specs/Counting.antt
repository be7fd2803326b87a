-- How a tally stands to the items that were counted, the oldest first.
use Rattle.std.specs.Prelude.{◌≡◌, ℕ, List, [], ◌∷◌, ◌++◌, codes}
use Rattle.std.specs.List.{list_any}
use Rattle.mega_transcript.specs.declared.item.Item.{Item}
use Rattle.mega_transcript.specs.Counts.{count_line, count_of, is_committed, is_conflict, is_message, is_read, is_unsafe, log_lines, unsafe_word}
use Rattle.mega_transcript.specs.Tape.{newest}
use Rattle.mega_tally.specs.declared.kinds.Kinds.{Kinds}
use Rattle.mega_tally.specs.declared.tally.Tally.{Tally}
use Rattle.mega_tally.specs.Deciding.{Keeps}

abbrev pub kinds_of : List Item → Kinds
kinds_of items = record {
  messages = count_of is_message items;
  committed = count_of is_committed items;
  conflicts = count_of is_conflict items;
  reads = count_of is_read items;
}

-- each count is that of the items
pub record Counts (tally : Tally) (items : List Item) : Type 0 where
  pub kinds_are : tally.kinds ≡ kinds_of items
  pub unsafe_told : tally.is_unsafe ≡ list_any is_unsafe items
  pub keeps : Keeps tally.decided (newest items)

-- the lines of the kinds of answers
abbrev pub answer_lines : Kinds → List ℕ
answer_lines kinds = count_line (codes "committed") kinds.committed ++ (count_line (codes "conflicts") kinds.conflicts ++ count_line (codes "reads") kinds.reads)

-- the lines that a tally writes
abbrev pub tally_text : Tally → ℕ → List ℕ
tally_text tally events =
    count_line (codes "events") events ++ (count_line (codes "messages") tally.kinds.messages ++ (log_lines tally.decided.longest.entries ++ (answer_lines tally.kinds
    ++ (codes "unsafe" ++ 32 ∷ (unsafe_word tally.is_unsafe ++ 10 ∷ [])))))
