use Rattle.std.proofs.Common.{◌≡◌, ◌∙◌, ◌+◌, ◌∷◌, List, ap, drop, map, refl, subst, sym}
use Rattle.std.proofs.lemmas.List.{drop_all, drop_more}
use Rattle.mega_step_work.specs.of_leases.declared.note.LeaseNote.{LeaseNote}
use Rattle.mega_step_work.specs.of_leases.Notes.{met_of}
use Rattle.mega_rules.specs.Steps.{onto}
use Rattle.mega_step_work.specs.of_voter.Telling.{Tells}
use Rattle.mega_step_choices.specs.Staging.{Stages}
use Rattle.mega_step_parts.proofs.Sent.{KeptSo, kept_first, kept_next, StagedSo, staged_first, staged_next}
use Rattle.mega_step_parts.proofs.keeping.keep_notes.Goals as goal

pub loop-note-init : goal.loop-note-init
loop-note-init g c = (kept_first c.args.voter.now.logs.kept c.args.notes.now, λ before met stages. staged_first c.args.voter.now.logs.staged.items before c.args.notes.now met stages, refl)

pub loop-note-preserved : goal.loop-note-preserved
loop-note-preserved g c =
    let at = c.loop-note.note-index in
    let notes = c.args.notes.now in
    let first : drop at notes ≡ c.note-item.result ∷ drop (at + 1) notes = drop_more notes at c.note-item.result c.loop-note-test.true ∙ ap (λ (n : LeaseNote). n ∷ drop (at + 1) notes) (sym c.note-item.is) in (
      λ met tells.
          kept_next c.loop-note.voter.logs.kept c.keep_note.new.voter.logs.kept c.note-item.result (drop (at + 1) notes) (onto (map met_of notes) met) c.in_ok-keep_note.ensures.kept
          (subst (λ (left : List LeaseNote). KeptSo c.loop-note.voter.logs.kept left (onto (map met_of notes) met)) first (c.loop-note.invariant.0 met tells)),
      λ before met stages.
          staged_next c.loop-note.voter.logs.staged.items c.keep_note.new.voter.logs.staged.items before c.note-item.result (drop (at + 1) notes) (onto (map met_of notes) met) c.in_ok-keep_note.ensures.staged
          (subst (λ (left : List LeaseNote). StagedSo c.loop-note.voter.logs.staged.items before left (onto (map met_of notes) met)) first (c.loop-note.invariant.1 before met stages)),
      c.in_ok-keep_note.ensures.records ∙ c.loop-note.invariant.2,
    )

pub returns-clause-kept : goal.returns-clause-kept
returns-clause-kept g c = λ met tells.
    let notes = c.args.notes.now in
    let all = onto (map met_of notes) met in
    let so = subst (λ (left : List LeaseNote). KeptSo c.loop-note.voter.logs.kept left all) (drop_all c.loop-note.note-index notes c.loop-note-test.false) (c.loop-note.invariant.0 met tells) in
    subst (Tells c.loop-note.voter.logs.kept) so.leads so.tells

pub returns-clause-staged : goal.returns-clause-staged
returns-clause-staged g c = λ before met stages.
    let notes = c.args.notes.now in
    let all = onto (map met_of notes) met in
    let so = subst (λ (left : List LeaseNote). StagedSo c.loop-note.voter.logs.staged.items before left all) (drop_all c.loop-note.note-index notes c.loop-note-test.false) (c.loop-note.invariant.1 before met stages) in
    subst (Stages c.loop-note.voter.logs.staged.items before) so.leads so.stages

pub returns-clause-records : goal.returns-clause-records
returns-clause-records g c = c.loop-note.invariant.2
