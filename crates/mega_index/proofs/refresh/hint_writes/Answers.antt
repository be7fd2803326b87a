use Rattle.std.proofs.Common.{◌∙◌, ap, sym, take}
use Rattle.std.proofs.lemmas.List.Folds.{list_all_more}
use Rattle.std.proofs.lemmas.Bool.{and_from}
use Rattle.mega_row_writes.specs.of_entry.declared.content.Write.{Write}
use Rattle.mega_index.specs.Hints.{write_is_hinted}
use Rattle.mega_index.proofs.Kept.{writes_more}
use Rattle.mega_index.proofs.refresh.hint_writes.Goals as goal

pub loop-write-preserved : goal.loop-write-preserved
loop-write-preserved c =
    let s = c.args.schema.now in
    let old = c.loop-write.hints in
    let new = c.hint_write.new.hints in
    let g = c.args.group.now in
    let writes = c.args.writes.now in
    let i = c.loop-write.write-index in
    let kept = c.in_ok-hint_write.ensures.kept in
    record {
      kept = λ e g k h. kept e g k (c.loop-write.invariant.kept e g k h);
      there =
          list_all_more (write_is_hinted s new g) writes i c.write-item.result c.loop-write-test.true
          ∙ and_from _ _ (writes_more s old new g (take i writes) kept c.loop-write.invariant.there)
          (ap (λ (w : Write). write_is_hinted s new g w) (sym c.write-item.is) ∙ c.in_ok-hint_write.ensures.there);
    }
