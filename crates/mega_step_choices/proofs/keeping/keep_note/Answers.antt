use Rattle.std.proofs.Common.{◌∷◌, subst, sym}
use Rattle.mega_leases.specs.declared.note.LeaseNote.{LeaseNote}
use Rattle.mega_leases.specs.Notes.{met_of}
use Rattle.mega_step_choices.specs.Staging.{Stages}
use Rattle.mega_step_choices.proofs.Staged.{on_ok}
use Rattle.mega_step_choices.proofs.keeping.keep_note.Goals as goal

pub returns-in-Grants-clause-staged : goal.returns-in-Grants-clause-staged
returns-in-Grants-clause-staged g c = on_ok c.keep_grant.result c.keep_grant.ensures.staged (λ more before met stages.
    subst (λ (note : LeaseNote). Stages c.keep_grant.new.voter.logs.staged.items before (met_of note ∷ met)) (sym c.in-Grants.is) (more before met stages))

pub returns-in-Lapses-clause-staged : goal.returns-in-Lapses-clause-staged
returns-in-Lapses-clause-staged g c = on_ok c.keep_lapse.result c.keep_lapse.ensures.staged (λ more before met stages.
    subst (λ (note : LeaseNote). Stages c.keep_lapse.new.voter.logs.staged.items before (met_of note ∷ met)) (sym c.in-Lapses.is) (more before met stages))
