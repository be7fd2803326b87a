use Rattle.std.proofs.Common.{◌∙◌, ap, sym, List, ℕ, None}
use Rattle.std.specs.Prelude.{Option}
use Rattle.std.specs.BTreeMap.{insert_entry}
use Rattle.mega_base.specs.declared.values.Row.{Row}
use Rattle.mega_row_writes.specs.Rows.{key_cmp}
use Rattle.mega_index.specs.Marks.{Marked, held_rows}
use Rattle.mega_index.specs.Keeping.{marks_in, moved}
use Rattle.mega_index.proofs.Marking.{marks-insert, marked-in}
use Rattle.mega_index.proofs.held.hold_new.Goals as goal

pub returns-clause-ok : goal.returns-clause-ok
returns-clause-ok c =
    let es = c.args.groups.now.entries in
    let k = c.args.group.now in
    let new = c.advance.new.held in
    ap marks_in (c.in_ok-insert.ensures.entries ∙ ap (λ (k : List ℕ). insert_entry key_cmp es k new) c.in_ok-own.ensures)
    ∙ marks-insert es k new
    ∙ ap (λ (m : Marked). insert_entry key_cmp (marks_in es) k m) (c.in_ok-advance.ensures.ok
    ∙ ap (λ (es : List (List ℕ × Option Row)). moved c.args.count c.args.writes.items (record { position = 0; rows = held_rows es })) c.new.ensures.empty
    ∙ ap (moved c.args.count c.args.writes.items) (sym (marked-in es k None c.requires)))
