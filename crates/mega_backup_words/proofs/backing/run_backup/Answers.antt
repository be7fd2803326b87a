use Rattle.std.proofs.Common.{◌≡◌}
use Rattle.std.specs.Io.KnownBytes.{Appends}
use Rattle.mega_io.specs.Pieces.{AppendsFront}
use Rattle.mega_backup_words.specs.Endings.{Ends}
use Rattle.mega_backup_words.proofs.Backings.{backs_so}
use Rattle.mega_backup_words.proofs.Statuses.{backup_status, device_end, either_rose, source_end, uncut}
use Rattle.mega_backup_words.proofs.backing.run_backup.Goals as goal

pub returns-clause-whole : goal.returns-clause-whole
returns-clause-whole g c plain =
    let old = g.O.Sink.held c.args.out.now in
    let mid = g.O.Sink.held c.back_up_behind-ended.new.out in
    let new = g.O.Sink.held c.finish-status.new.out in
    backs_so c.args.group.now c.args.through.0 c.args.number (g.I.Source.left c.args.input.now) g.D.Disk.is_told (g.D.Disk.seen c.args.log) (λ ending. Ends ending old mid c.back_up_behind-ended.result.0)
    (λ ending. (c.finish-status.result ≡ ending.status) × Appends old new ending.text) (λ ending ends. c.finish-status.ensures.whole plain ending old ends) c.back_up_behind-ended.ensures.ends

pub returns-clause-front : goal.returns-clause-front
returns-clause-front g c =
    let old = g.O.Sink.held c.args.out.now in
    let mid = g.O.Sink.held c.back_up_behind-ended.new.out in
    let new = g.O.Sink.held c.finish-status.new.out in
    backs_so c.args.group.now c.args.through.0 c.args.number (g.I.Source.left c.args.input.now) g.D.Disk.is_told (g.D.Disk.seen c.args.log) (λ ending. Ends ending old mid c.back_up_behind-ended.result.0)
    (λ ending. AppendsFront old new ending.text) (λ ending ends. c.finish-status.ensures.front ending old ends) c.back_up_behind-ended.ensures.ends

pub returns-clause-kept : goal.returns-clause-kept
returns-clause-kept g c told plain = c.back_up_behind-ended.ensures.kept told (uncut c.back_up_behind-ended.result.0 c.finish-status.result c.finish-status.ensures.status plain)

pub returns-clause-source : goal.returns-clause-source
returns-clause-source g c is = c.back_up_behind-ended.ensures.source (source_end c.back_up_behind-ended.result.0 c.finish-status.result c.finish-status.ensures.status is)

pub returns-clause-device : goal.returns-clause-device
returns-clause-device g c is = c.back_up_behind-ended.ensures.device (device_end c.back_up_behind-ended.result.0 c.finish-status.result c.finish-status.ensures.status is)

pub returns-clause-sink : goal.returns-clause-sink
returns-clause-sink g c is =
    either_rose c.back_up_behind-ended.result.0 (g.O.Sink.faults c.args.out.now) (g.O.Sink.faults c.back_up_behind-ended.new.out) (g.O.Sink.faults c.finish-status.new.out) c.back_up_behind-ended.ensures.outs c.finish-status.ensures.count c.back_up_behind-ended.ensures.sink
    (c.finish-status.ensures.sink is)

pub returns-clause-only : goal.returns-clause-only
returns-clause-only g c = backup_status c.back_up_behind-ended.result.0 c.finish-status.result c.back_up_behind-ended.ensures.only c.finish-status.ensures.status
