use Rattle.mega_tape_laws.proofs.GrowingWitnesses.{removal_comes, removal_differs, stray_fits_not}
use Rattle.mega_tape_laws.proofs.growing.what_does_not_fit_may_differ.Goals as goal

pub returns-clause-unfit : goal.returns-clause-unfit
returns-clause-unfit c = stray_fits_not

pub returns-clause-before : goal.returns-clause-before
returns-clause-before c = removal_comes

pub returns-clause-after : goal.returns-clause-after
returns-clause-after c = removal_differs
