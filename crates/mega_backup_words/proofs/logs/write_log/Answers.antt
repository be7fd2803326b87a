use Rattle.std.proofs.Common.{Err, ap, sym, subst, ◌∙◌}
use Rattle.mega_backup_words.specs.Backing.{log_ending}
use Rattle.mega_backup_words.specs.Endings.{EndsBy}
use Rattle.mega_backup_words.specs.Stops.{IsWriteStop}
use Rattle.mega_backup_words.proofs.Backings.{refused_log, sink_stop, write_stop, wrote_log}
use Rattle.mega_backup_words.proofs.logs.write_log.Goals as goal

pub returns-in-Ok-clause-ends : goal.returns-in-Ok-clause-ends
returns-in-Ok-clause-ends g c items kept = wrote_log c.args.group.now c.args.through.0 items (g.O.Sink.held c.args.out.now) (g.O.Sink.held c.write.new.out) (c.in-Ok.ensures.whole items kept)

pub returns-in-Err-clause-ends : goal.returns-in-Err-clause-ends
returns-in-Err-clause-ends g c items kept =
    let group = c.args.group.now in
    let p = c.args.through.0 in
    let old = g.O.Sink.held c.args.out.now in
    let new = g.O.Sink.held c.write.new.out in
    subst (EndsBy (log_ending group p items) old new) (sym c.from.ensures)
    (refused_log group p items old new c.in-Err.fault c.in-Err.ensures.only (λ has is. c.in-Err.ensures.short has (ap Err is) items kept) (λ stop. c.in-Err.ensures.stopped stop items kept))

pub returns-in-Err-clause-sink : goal.returns-in-Err-clause-sink
returns-in-Err-clause-sink g c is = c.in-Err.ensures.cause (ap Err (sink_stop c.in-Err.fault (sym c.from.ensures ∙ cc)))

pub returns-in-Err-clause-only : goal.returns-in-Err-clause-only
returns-in-Err-clause-only g c = subst IsWriteStop (sym c.from.ensures) (write_stop c.in-Err.fault c.in-Err.ensures.only)
