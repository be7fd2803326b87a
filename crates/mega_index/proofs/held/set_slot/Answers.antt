use Rattle.std.proofs.Common.{◌∙◌, ap, sym}
use Rattle.mega_index.specs.Marks.{held_rows}
use Rattle.mega_index.proofs.Ordered.{ascends-sorted}
use Rattle.mega_index.proofs.Slots.{held-set, none_there}
use Rattle.mega_index.proofs.held.set_slot.Goals as goal

pub returns-in-Some-clause-held : goal.returns-in-Some-clause-held
returns-in-Some-clause-held c =
    ap held_rows (c.get_mut.follows.holds c.args.row).0
    ∙ held-set c.args.rows.now.entries c.args.key.now c.args.row (ascends-sorted c.args.rows.now.entries c.get_mut.ensures.ordered) c.requires

pub returns-in_default-clause-held : goal.returns-in_default-clause-held
returns-in_default-clause-held c = absurd (none_there c.args.rows.now.entries c.args.key.now c.requires (sym c.in_default.ensures.value))
