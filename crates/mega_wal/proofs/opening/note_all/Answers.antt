use Rattle.mega_wal.proofs.Loading.{noted_more}
use Rattle.mega_wal.proofs.opening.note_all.Goals as goal

pub loop-item-preserved : goal.loop-item-preserved
loop-item-preserved c = λ before h. noted_more c.note.new.self c.args.items.now c.loop-item.item-index c.item-item.result before c.item-item.is c.loop-item-test.true (c.in_ok-note.ensures.ok _ (c.loop-item.invariant before h))
