use Rattle.std.proofs.Common.{◌≡◌, Result, Err, ap, subst}
use Rattle.std.specs.Prelude.{IfErr}
use Rattle.mega_backup_words.specs.declared.stop.Stop.{Stop}
use Rattle.mega_backup_words.specs.declared.stop.Stop.TheVariants.{Device, Sink}
use Rattle.mega_backup_words.specs.Stops.{IsHeaderStop, IsLogStop}
use Rattle.mega_backup_words.proofs.Backings.{backup_stop, header_stop, log_backs, unread_backs}
use Rattle.mega_backup_words.proofs.Results.{if_err_then}
use Rattle.mega_backup_words.proofs.backing.back_up_behind.Goals as goal

pub returns-in-Ok-clause-ends : goal.returns-in-Ok-clause-ends
returns-in-Ok-clause-ends g c =
    log_backs c.args.group.now c.args.through.0 c.args.number (g.I.Source.left c.args.input.now) g.D.Disk.is_told (g.D.Disk.seen c.args.log) (g.O.Sink.held c.args.out.now) (g.O.Sink.held c.back_up.new.out) c.back_up.result.0 c.in-Ok.ensures.read
    c.back_up.ensures.ends

pub returns-in-Ok-clause-source : goal.returns-in-Ok-clause-source
returns-in-Ok-clause-source g c is = absurd (subst (λ (r : Result (Unit {0}) Stop). IfErr r IsLogStop) is c.back_up.ensures.only)

pub returns-in-Ok-clause-only : goal.returns-in-Ok-clause-only
returns-in-Ok-clause-only g c = if_err_then c.back_up.result.0 _ _ backup_stop c.back_up.ensures.only

pub returns-in-Err-clause-ends : goal.returns-in-Err-clause-ends
returns-in-Err-clause-ends g c =
    unread_backs c.args.group.now c.args.through.0 c.args.number (g.I.Source.left c.args.input.now) g.D.Disk.is_told (g.D.Disk.seen c.args.log) (g.O.Sink.held c.args.out.now) c.in-Err.stop c.in-Err.ensures.only
    (λ rule is. c.in-Err.ensures.broken rule (ap Err is))

pub returns-in-Err-clause-sink : goal.returns-in-Err-clause-sink
returns-in-Err-clause-sink g c is = let sinks : c.in-Err.stop ≡ Sink = cc in absurd (subst IsHeaderStop sinks c.in-Err.ensures.only)

pub returns-in-Err-clause-device : goal.returns-in-Err-clause-device
returns-in-Err-clause-device g c is = let fails : c.in-Err.stop ≡ Device = cc in absurd (subst IsHeaderStop fails c.in-Err.ensures.only)

pub returns-in-Err-clause-only : goal.returns-in-Err-clause-only
returns-in-Err-clause-only g c = header_stop c.in-Err.stop c.in-Err.ensures.only
