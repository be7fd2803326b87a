use Rattle.std.proofs.Common.{subst, sym}
use Rattle.std.specs.Io.KnownBytes.{prepend_known}
use Rattle.mega_header.specs.Known.{HasFront, HasHeader, HasNoMark}
use Rattle.mega_header.proofs.Headers.{end_part, line_part, long_part, mark_last, mark_part, takes_feed, takes_last}
use Rattle.mega_header.proofs.text.next_part.Goals as goal

pub returns-in-Ok-Feed-clause-line : goal.returns-in-Ok-Feed-clause-line
returns-in-Ok-Feed-clause-line g c is first front =
    let added = rw c.as_slice.ensures at c.add_line.ensures.line is in
    subst (HasFront first (prepend_known c.next_line.new.self (g.I.Source.left c.next_line.new.source))) (sym added.1)
    (line_part _ _ c.next_line.new.line c.args.text.now 262144 (rw c.in-Ok-Feed.field-0-is at c.in-Ok-Feed.ensures.line) added.0 first front)

pub returns-in-Ok-Feed-clause-mark : goal.returns-in-Ok-Feed-clause-mark
returns-in-Ok-Feed-clause-mark g c is first front =
    let added = rw c.as_slice.ensures at c.add_line.ensures.mark is in
    subst (HasHeader first (prepend_known c.next_line.new.self (g.I.Source.left c.next_line.new.source))) (sym added.1)
    (mark_part _ _ c.next_line.new.line c.args.text.now 262144 (rw c.in-Ok-Feed.field-0-is at c.in-Ok-Feed.ensures.line) added.0 first front)

pub returns-in-Ok-Input-clause-end : goal.returns-in-Ok-Input-clause-end
returns-in-Ok-Input-clause-end g c is first front =
    let added = rw c.as_slice-in-Ok-Input.ensures at c.add_last.ensures.end is in
    subst (HasNoMark first) (sym added.1) (end_part _ _ c.next_line.new.line c.args.text.now 262144 (rw c.in-Ok-Input.field-0-is at c.in-Ok-Input.ensures.line) added.0 first front)

pub returns-in-Ok-Input-clause-mark : goal.returns-in-Ok-Input-clause-mark
returns-in-Ok-Input-clause-mark g c is first front =
    let added = rw c.as_slice-in-Ok-Input.ensures at c.add_last.ensures.mark is in
    subst (HasHeader first (prepend_known c.next_line.new.self (g.I.Source.left c.next_line.new.source))) (sym added.1)
    (mark_last _ _ c.next_line.new.line c.args.text.now 262144 (rw c.in-Ok-Input.field-0-is at c.in-Ok-Input.ensures.line) added.0 first front)

pub returns-in-Ok-Long-clause-long : goal.returns-in-Ok-Long-clause-long
returns-in-Ok-Long-clause-long g c is least first front = long_part least _ _ c.next_line.new.line c.args.text.now (rw c.in-Ok-Long.field-0-is at c.in-Ok-Long.ensures.line) first front

pub returns-in-Ok-Feed-clause-taken : goal.returns-in-Ok-Feed-clause-taken
returns-in-Ok-Feed-clause-taken g c is =
    let added = rw c.as_slice.ensures at c.add_line.ensures.mark is in
    (added.0, takes_feed _ _ c.next_line.new.line 262144 (rw c.in-Ok-Feed.field-0-is at c.in-Ok-Feed.ensures.line))

pub returns-in-Ok-Input-clause-taken : goal.returns-in-Ok-Input-clause-taken
returns-in-Ok-Input-clause-taken g c is =
    let added = rw c.as_slice-in-Ok-Input.ensures at c.add_last.ensures.mark is in
    (added.0, takes_last _ _ c.next_line.new.line 262144 (rw c.in-Ok-Input.field-0-is at c.in-Ok-Input.ensures.line))
