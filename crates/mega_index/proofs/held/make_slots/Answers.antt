use Rattle.std.proofs.Common.{◌∙◌, ap, sym, take}
use Rattle.std.proofs.lemmas.List.Folds.{list_all_more}
use Rattle.std.proofs.lemmas.Bool.{and_from}
use Rattle.mega_row_writes.specs.of_entry.declared.content.Write.{Write}
use Rattle.mega_index.specs.Marks.{has_slot}
use Rattle.mega_index.proofs.Ordered.{all_imply}
use Rattle.mega_index.proofs.held.make_slots.Goals as goal

pub loop-write-preserved : goal.loop-write-preserved
loop-write-preserved c =
    let old = c.loop-write.rows.entries in
    let new = c.make_slot.new.rows.entries in
    let writes = c.args.writes.now in
    let i = c.loop-write.write-index in
    record {
      held = c.in_ok-make_slot.ensures.held ∙ c.loop-write.invariant.held;
      there =
          list_all_more (λ (w : Write). has_slot new w.key) writes i c.write-item.result c.loop-write-test.true
          ∙ and_from _ _ (all_imply (λ (w : Write). has_slot old w.key) (λ (w : Write). has_slot new w.key) (take i writes) (λ w. c.in_ok-make_slot.ensures.kept w.key) c.loop-write.invariant.there)
          (ap (λ (w : Write). has_slot new w.key) (sym c.write-item.is) ∙ c.in_ok-make_slot.ensures.there);
    }
