use Rattle.std.proofs.Common.{◌++◌, map, ap, sym, ◌∙◌}
use Rattle.std.proofs.lemmas.Result.{IfOk-weaker}
use Rattle.mega_rules.specs.Coordinators.{forget_notes, lost_note}
use Rattle.mega_leases.specs.Notes.{met_of}
use Rattle.mega_leases.proofs.Ticked.{forgets_are}
use Rattle.mega_leases.proofs.noting.tick_notes.Goals as goal

pub returns : goal.returns
returns c =
    let cells_are = c.as_slice.ensures ∙ c.in_ok-forgotten.ensures in
    IfOk-weaker c.add_lost-2.result _ _ (λ made is.
    is ∙ (ap (λ notes. map met_of notes ++ lost_note c.args.lost) c.in_ok-notes.ensures
    ∙ (ap (λ notes. notes ++ lost_note c.args.lost) (forgets_are c.in-Some.epoch _)
    ∙ (λ i. forget_notes (sym c.in-Some.is i) (cells_are i) ++ lost_note c.args.lost)))) c.add_lost-2.ensures
