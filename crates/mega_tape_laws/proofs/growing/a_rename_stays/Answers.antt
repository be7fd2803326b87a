use Rattle.mega_tape_laws.proofs.GrowingWitnesses.{extends, john_fits, rename_comes, rename_stays}
use Rattle.mega_tape_laws.proofs.growing.a_rename_stays.Goals as goal

pub returns-clause-extends : goal.returns-clause-extends
returns-clause-extends c = extends

pub returns-clause-fit : goal.returns-clause-fit
returns-clause-fit c = john_fits

pub returns-clause-before : goal.returns-clause-before
returns-clause-before c = rename_comes

pub returns-clause-after : goal.returns-clause-after
returns-clause-after c = rename_stays
