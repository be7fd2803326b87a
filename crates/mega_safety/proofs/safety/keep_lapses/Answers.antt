use Rattle.std.proofs.Common.{◌≡◌, ◌∙◌, ◌+◌, ◌∷◌, ◌||◌, List, ap, drop, map, subst, sym}
use Rattle.std.proofs.lemmas.List.{drop_all, drop_more}
use Rattle.std.specs.BTreeSet.{contains}
use Rattle.mega_rules.specs.Steps.{onto}
use Rattle.mega_step_parts.specs.declared.note.Note.{Note}
use Rattle.mega_step_parts.specs.Notes.{met_of}
use Rattle.mega_safety.specs.Lapses.{is_lapse, lapse_cmp}
use Rattle.mega_safety.proofs.Lapsing.{KeptSo, kept_all, kept_first, kept_next}
use Rattle.mega_safety.proofs.safety.keep_lapses.Goals as goal

pub loop-note-init : goal.loop-note-init
loop-note-init c met are = kept_first c.args.lapses.now met c.args.cell c.args.notes.now are

pub loop-note-preserved : goal.loop-note-preserved
loop-note-preserved c met are =
    let at = c.loop-note.note-index in
    let cell = c.args.cell in
    let notes = c.as_slice-note-items.result.now in
    let all = onto (map met_of c.args.notes.now) (met cell) in
    let first : drop at notes ≡ c.note-item.result ∷ drop (at + 1) notes = drop_more notes at c.note-item.result c.loop-note-test.true ∙ ap (λ (n : Note). n ∷ drop (at + 1) notes) (sym c.note-item.is) in
    subst (λ (ns : List Note). KeptSo c.keep.new.lapses met cell (drop (at + 1) ns) all) c.as_slice-note-items.ensures
    (kept_next c.loop-note.lapses c.keep.new.lapses met cell c.note-item.result (drop (at + 1) notes) all
    (λ other. c.in_ok-keep.ensures other ∙ ap (λ l. is_lapse l other || contains lapse_cmp c.loop-note.lapses other) c.lapse_of.ensures)
    (subst (λ (left : List Note). KeptSo c.loop-note.lapses met cell left all) first
    (subst (λ (ns : List Note). KeptSo c.loop-note.lapses met cell (drop at ns) all) (sym c.as_slice-note-items.ensures) (c.loop-note.invariant met are))))

pub returns : goal.returns
returns c met are =
    let cell = c.args.cell in
    let at = c.loop-note.note-index in
    let notes = c.as_slice-note-items.result.now in
    let all = onto (map met_of c.args.notes.now) (met cell) in
    kept_all c.loop-note.lapses met cell all
    (subst (λ (left : List Note). KeptSo c.loop-note.lapses met cell left all) (drop_all at notes c.loop-note-test.false)
    (subst (λ (ns : List Note). KeptSo c.loop-note.lapses met cell (drop at ns) all) (sym c.as_slice-note-items.ensures) (c.loop-note.invariant met are)))
