use Rattle.std.proofs.Common.{◌∙◌, ap, sym, Some}
use Rattle.std.specs.BTreeMap.{insert_entry}
use Rattle.mega_row_writes.specs.Rows.{key_cmp}
use Rattle.mega_index.specs.Marks.{Marked}
use Rattle.mega_index.specs.Keeping.{marks_in, moved}
use Rattle.mega_index.proofs.Ordered.{ascends-sorted}
use Rattle.mega_index.proofs.Marking.{marks-insert, set-insert, set-same, marked-in}
use Rattle.mega_index.proofs.Wanting.{on_ok, on_err}
use Rattle.mega_index.proofs.held.hold_there.Goals as goal

pub returns-in-Some-clause-ok : goal.returns-in-Some-clause-ok
returns-in-Some-clause-ok c =
    let es = c.args.groups.now.entries in
    let k = c.args.group.now in
    let new = c.advance.new.held in
    let there = sym c.in-Some.ensures.value in
    on_ok c.advance.result
    (λ is.
    ap marks_in ((c.get_mut.follows.holds new).0 ∙ set-insert es k new c.in-Some.held.now (ascends-sorted es c.get_mut.ensures.ordered) there)
    ∙ marks-insert es k new
    ∙ ap (λ (m : Marked). insert_entry key_cmp (marks_in es) k m) (is ∙ ap (moved c.args.count c.args.writes.items) (sym (marked-in es k (Some c.in-Some.held.now) there))))
    c.advance.ensures.ok

pub returns-in-Some-clause-err : goal.returns-in-Some-clause-err
returns-in-Some-clause-err c =
    let es = c.args.groups.now.entries in
    let k = c.args.group.now in
    let new = c.advance.new.held in
    on_err c.advance.result
    (λ is. ap marks_in (c.get_mut.follows.holds new).0 ∙ set-same es k new c.in-Some.held.now (sym c.in-Some.ensures.value) is)
    c.advance.ensures.err
