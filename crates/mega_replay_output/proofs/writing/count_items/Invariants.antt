use Rattle.std.proofs.Common.{◌++◌, List, take}
use Rattle.mega_tally.specs.Counting.{Counts}
use Rattle.mega_transcript.specs.declared.item.Item.{Item}
use Rattle.mega_replay_output.proofs.writing.count_items.Given as goal

abbrev pub invariant-loop-item : goal.invariant-loop-item
invariant-loop-item l = (before : List Item) → Counts l.initial.tally before → Counts l.tally (before ++ take l.item-index l.items)
