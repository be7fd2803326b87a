use Rattle.mega_server.proofs.Shown.{lined_more, shown_more}
use Rattle.mega_server.proofs.forming.items_of.Goals as goal

pub loop-note-preserved : goal.loop-note-preserved
loop-note-preserved c = record {
  shown = shown_more c.args.me c.loop-note.yielded c.in-Some.note c.item_of-item.result c.loop-note.items c.push.new.self c.item_of-item.ensures c.loop-note.invariant.shown c.in-Ok.ensures.ok;
  lines = lined_more c.item_of-item.result c.loop-note.items c.push.new.self (c.has_line.ensures c.if-not-has_line.false) c.loop-note.invariant.lines c.in-Ok.ensures.ok;
}
