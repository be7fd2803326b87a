use Rattle.std.proofs.Common.{◌≡◌, ◌∙◌, ap, subst, sym, rules}
use Rattle.std.specs.Io.KnownBytes.{Appends}
use Rattle.mega_io.specs.Pieces.{AppendsFront}
use Rattle.mega_backup_words.specs.Endings.{is_cut, last_line, status_of}
use Rattle.mega_backup_words.proofs.Endings.{stop_front, stop_whole, unwritten}
use Rattle.mega_backup_words.proofs.ending.tell.Goals as goal

pub returns-in-Ok-clause-whole : goal.returns-in-Ok-clause-whole
returns-in-Ok-clause-whole g c plain ending before ends =
    let stop = c.args.stop.now in
    let old = g.O.Sink.held c.args.out.now in
    let new = g.O.Sink.held c.write_last.new.out in
    let line : c.as_slice.result.now ≡ last_line stop = search rules in
    let wrote = c.write_last.ensures.whole plain in
    let same : c.write_last.result ≡ status_of stop = wrote.0 ∙ c.status.ensures in
    let both = stop_whole stop ending before old new (ap is_cut (sym same) ∙ plain) ends (subst (Appends old new) line wrote.1) in
    (same ∙ both.0, both.1)

pub returns-in-Ok-clause-front : goal.returns-in-Ok-clause-front
returns-in-Ok-clause-front g c ending before ends =
    let stop = c.args.stop.now in
    let old = g.O.Sink.held c.args.out.now in
    let new = g.O.Sink.held c.write_last.new.out in
    let line : c.as_slice.result.now ≡ last_line stop = search rules in
    stop_front stop ending before old new ends (subst (AppendsFront old new) line c.write_last.ensures.front)

pub returns-in-Err-clause-front : goal.returns-in-Err-clause-front
returns-in-Err-clause-front g c ending before ends =
    let stop = c.args.stop.now in
    let old = g.O.Sink.held c.args.out.now in
    stop_front stop ending before old old ends (unwritten old (last_line stop))
