use Rattle.std.proofs.Common.{◌≤◌, List, length, subst, sym}
use Rattle.mega_entry.specs.declared.content.Cut.{Cut}
use Rattle.mega_well_formed.proofs.Deciding.{cuts_few}
use Rattle.mega_well_formed.proofs.cuts.room_behind_cuts.Goals as goal

pub cuts_length-requires : goal.cuts_length-requires
cuts_length-requires c =
    subst (λ (cuts : List Cut). length cuts ≤ 16) (sym c.as_slice.ensures) (cuts_few c.args.content.now c.args.content.now.cuts (c.has_cuts.ensures.0 c.if-not-has_cuts.false))
