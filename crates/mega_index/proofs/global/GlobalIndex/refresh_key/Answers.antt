use Rattle.std.proofs.Common.{◌∙◌, ap, sym, length}
use Rattle.std.specs.Prelude.{List}
use Rattle.std.specs.BTreeMap.{insert_entry}
use Rattle.mega_row_writes.specs.of_entry.declared.content.Write.{Write}
use Rattle.mega_row_writes.specs.Rows.{key_cmp}
use Rattle.mega_index.specs.Marks.{Marked, Marks, marked_in}
use Rattle.mega_index.specs.Hints.{all_hinted, writes_are_hinted}
use Rattle.mega_index.specs.Keeping.{marks_in, moved}
use Rattle.mega_index.proofs.Kept.{marks_more, moved-hinted, moved-advanced}
use Rattle.mega_index.proofs.global.GlobalIndex.refresh_key.Goals as goal

pub returns-in_err-hint_writes-clause-kept : goal.returns-in_err-hint_writes-clause-kept
returns-in_err-hint_writes-clause-kept c = λ h.
    marks_more c.args.schema.now c.args.self.now.hints c.hint_writes.new.hints (marks_in c.args.self.now.groups.entries) c.hint_writes.ensures.kept h

pub returns-in_err-hold-clause-kept : goal.returns-in_err-hold-clause-kept
returns-in_err-hold-clause-kept c = λ h.
    ap (λ (marks : Marks). all_hinted c.args.schema.now c.hint_writes.new.hints marks) c.in_err-hold.ensures.err
    ∙ marks_more c.args.schema.now c.args.self.now.hints c.hint_writes.new.hints (marks_in c.args.self.now.groups.entries) c.hint_writes.ensures.kept h

pub returns-clause-ok : goal.returns-clause-ok
returns-clause-ok c =
    let marks = marks_in c.args.self.now.groups.entries in
    let g = c.args.key.now in
    c.in_ok-hold.ensures.ok
    ∙ ap (λ (m : Marked). insert_entry key_cmp marks g m)
    (ap (λ (ws : List Write). moved (length c.args.entries.now) ws (marked_in marks g)) c.in_ok-writes.ensures ∙ moved-advanced c.args.entries.now (marked_in marks g))

pub returns-clause-kept : goal.returns-clause-kept
returns-clause-kept c = λ h.
    let marks = marks_in c.args.self.now.groups.entries in
    let g = c.args.key.now in
    c.forget.ensures
    (ap (λ (marks : Marks). all_hinted c.args.schema.now c.hint_writes.new.hints marks) c.in_ok-hold.ensures.ok
    ∙ moved-hinted c.args.schema.now c.hint_writes.new.hints marks g _ c.in_ok-writes.writes.items
    (marks_more c.args.schema.now c.args.self.now.hints c.hint_writes.new.hints marks c.hint_writes.ensures.kept h)
    (ap (λ (ws : List Write). writes_are_hinted c.args.schema.now c.hint_writes.new.hints g ws) (sym c.as_slice-2.ensures.value) ∙ c.in_ok-hint_writes.ensures.there))
