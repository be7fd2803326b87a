use Rattle.std.proofs.Common.{◌∙◌, ap, sym, ◌+◌, ◌∷◌, List, drop}
use Rattle.std.proofs.lemmas.List.{at_drop_more}
use Rattle.mega_entry.specs.declared.content.Write.{Write}
use Rattle.mega_row_writes.specs.Rows.{written}
use Rattle.mega_row_writes.specs.Pending.{seen}
use Rattle.mega_row_writes.proofs.noting.note.Goals as goal

pub loop-write-preserved : goal.loop-write-preserved
loop-write-preserved c = λ rows.
    let pending = c.loop-write.pending in
    let left = λ (ws : List Write). written ws (seen pending rows) in
    c.loop-write.invariant rows
    ∙ at_drop_more left c.args.writes.now c.loop-write.write-index c.write-item.result c.loop-write-test.true
    ∙ ap (λ (w : Write). left (w ∷ drop (c.loop-write.write-index + 1) c.args.writes.now)) (sym c.write-item.is)
    ∙ ap (written (drop (c.loop-write.write-index + 1) c.args.writes.now)) (sym (c.in_ok-note_one.ensures rows))
