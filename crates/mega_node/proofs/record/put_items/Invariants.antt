use Rattle.std.proofs.Common.{◌≡◌, ◌++◌, take}
use Rattle.mega_transcript.specs.Lines.{lines as text_of}
use Rattle.mega_node.proofs.record.put_items.Given as goal

abbrev pub invariant-loop-item : goal.invariant-loop-item
invariant-loop-item l = l.out ≡ l.fn.out ++ text_of l.fn.schema (take l.item-index l.items)
