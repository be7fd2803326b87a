use Rattle.std.proofs.Common.{sym, subst}
use Rattle.std.specs.Prelude.{Option}
use Rattle.mega_base.specs.declared.values.Row.{Row}
use Rattle.mega_index.specs.Marks.{held_rows}
use Rattle.mega_index.specs.Forgetting.{OnlyRow}
use Rattle.mega_index.proofs.Ordered.{ascends-sorted}
use Rattle.mega_index.proofs.Forgetting.{only_row}
use Rattle.mega_index.proofs.forget.row_in.Goals as goal

pub returns : goal.returns
returns c =
    let slots = c.args.held.now.rows.entries in
    subst (λ (now : Option Row). OnlyRow c.args.key.now now (held_rows slots)) (sym c.slot_row.ensures) (only_row c.args.key.now slots (ascends-sorted slots c.len.ensures.ordered))
