use Rattle.std.proofs.Common.{◌≡◌, ◌-◌}
use Rattle.mega_base.specs.Reading.{items_at}
use Rattle.mega_base.proofs.Loops.{with_front}
use Rattle.mega_base.proofs.list_fields.take_items.Given as goal

abbrev pub invariant-loop-counter : goal.invariant-loop-counter
invariant-loop-counter g l = with_front l.items (items_at g.T.Field.reads (l.count - l._counter) l.cursor) ≡ items_at g.T.Field.reads l.count l.fn.cursor
