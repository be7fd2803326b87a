use Rattle.std.proofs.Common.{◌≡◌}
use Rattle.std.specs.Io.KnownBytes.{Appends}
use Rattle.mega_io.specs.Pieces.{AppendsFront}
use Rattle.mega_backup_words.specs.Endings.{Ends}
use Rattle.mega_backup_words.specs.Inputs.{restore_of}
use Rattle.mega_backup_words.proofs.Rows.{told_so}
use Rattle.mega_backup_words.proofs.Statuses.{either_rose, restore_status, source_end}
use Rattle.mega_backup_words.proofs.restoring.run_restore.Goals as goal

pub returns-clause-whole : goal.returns-clause-whole
returns-clause-whole g c plain =
    let at = c.args.at.0 in
    let old = g.O.Sink.held c.args.out.now in
    let mid = g.O.Sink.held c.restore-ended.new.out in
    let new = g.O.Sink.held c.finish.new.out in
    told_so (g.I.Source.left c.args.input.now) (λ input. Ends (restore_of at input) old mid c.restore-ended.result) (λ input. (c.finish.result ≡ (restore_of at input).status) × Appends old new (restore_of at input).text)
    (λ input ends. c.finish.ensures.whole plain (restore_of at input) old ends) c.restore-ended.ensures.ends

pub returns-clause-front : goal.returns-clause-front
returns-clause-front g c =
    let at = c.args.at.0 in
    let old = g.O.Sink.held c.args.out.now in
    let mid = g.O.Sink.held c.restore-ended.new.out in
    let new = g.O.Sink.held c.finish.new.out in
    told_so (g.I.Source.left c.args.input.now) (λ input. Ends (restore_of at input) old mid c.restore-ended.result) (λ input. AppendsFront old new (restore_of at input).text)
    (λ input ends. c.finish.ensures.front (restore_of at input) old ends) c.restore-ended.ensures.ends

pub returns-clause-source : goal.returns-clause-source
returns-clause-source g c is = c.restore-ended.ensures.source (source_end c.restore-ended.result c.finish.result c.finish.ensures.status is)

pub returns-clause-sink : goal.returns-clause-sink
returns-clause-sink g c is =
    either_rose c.restore-ended.result (g.O.Sink.faults c.args.out.now) (g.O.Sink.faults c.restore-ended.new.out) (g.O.Sink.faults c.finish.new.out) c.restore-ended.ensures.outs c.finish.ensures.count c.restore-ended.ensures.sink (c.finish.ensures.sink is)

pub returns-clause-only : goal.returns-clause-only
returns-clause-only g c = restore_status c.restore-ended.result c.finish.result c.restore-ended.ensures.only c.finish.ensures.status
