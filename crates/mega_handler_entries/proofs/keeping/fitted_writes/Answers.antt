use Rattle.std.proofs.Common.{◌≡◌, ◌∙◌, ◌++◌, List, ap, sym}
use Rattle.std.specs.Vec.Iter.{into_iter_items}
use Rattle.mega_entry.specs.declared.content.Write.{Write}
use Rattle.mega_index.specs.Rows.{row_under, written}
use Rattle.mega_index.specs.Fitted.{fitted_writes}
use Rattle.mega_handler_entries.proofs.Kept.{kept_more}
use Rattle.mega_handler_entries.proofs.keeping.fitted_writes.Goals as goal

pub loop-write-preserved : goal.loop-write-preserved
loop-write-preserved c =
    let s = c.args.schema.now in
    let group = c.args.group.now in
    let rows = row_under c.args.rows.now in
    let kept = c.loop-write.kept.items in
    let rest = into_iter_items c.next.new.self in
    kept_more s group rows kept c.keep.new.kept.items c.in-Some.write rest c.in_ok-keep.ensures
    ∙ ap (λ (left : List Write). kept ++ fitted_writes s group (written kept rows) left) (sym c.in-Some.ensures.steps.0)
    ∙ c.loop-write.invariant
