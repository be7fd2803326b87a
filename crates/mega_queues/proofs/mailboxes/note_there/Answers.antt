use Rattle.std.proofs.Common.{ap, sym}
use Rattle.std.specs.Prelude.{is_some}
use Rattle.mega_queues.proofs.Placing.{mail_noted}
use Rattle.mega_queues.proofs.mailboxes.note_there.Goals as goal

pub returns-in_ok-note-in-Some : goal.returns-in_ok-note-in-Some
returns-in_ok-note-in-Some c =
    let there = c.in-Some.ensures.value in
    mail_noted c.args.boxes.now (c.get_mut.follows.lender c.note.new.self) c.args.group.now c.args.entry.now c.in-Some.own.now c.note.new.self (sym there)
    ((c.get_mut.follows.holds c.note.new.self).3 (ap is_some (sym there))).0
    c.in_ok-note-in-Some.ensures
