use Rattle.std.proofs.Common.{◌≡◌, Result, ap, subst, ◌∙◌}
use Rattle.std.specs.Prelude.{IfErr}
use Rattle.mega_checkpoint.specs.Format.{list_of}
use Rattle.mega_checkpoint.specs.Opened.{disk_of}
use Rattle.mega_backup_words.specs.declared.stop.Stop.{Stop}
use Rattle.mega_backup_words.specs.declared.stop.Stop.TheVariants.{Sink}
use Rattle.mega_backup_words.specs.Stops.{IsOpeningStop, IsWriteStop}
use Rattle.mega_backup_words.proofs.Backings.{log_stop, opened_ends, opening_stop, uncut_bad, unopened_ends}
use Rattle.mega_backup_words.proofs.Results.{if_err_then}
use Rattle.mega_backup_words.proofs.logs.back_up.Goals as goal

pub returns-in-Ok-clause-ends : goal.returns-in-Ok-clause-ends
returns-in-Ok-clause-ends g c =
    let found = c.in-Ok.ensures.opened in
    opened_ends c.args.group.now c.args.through.0 g.D.Disk.is_told (g.D.Disk.seen c.args.log) (g.O.Sink.held c.args.out.now) (g.O.Sink.held c.write_log-ended.new.out) c.write_log-ended.result found.0 found.1 found.2
    (c.write_log-ended.ensures.ends _ found.3)

pub returns-in-Ok-clause-kept : goal.returns-in-Ok-clause-kept
returns-in-Ok-clause-kept g c told plain = ap (λ d. list_of (g.D.Disk.seen d)) (c.close.ensures ∙ ap disk_of c.close-store.ensures) ∙ c.in-Ok.ensures.list told

pub returns-in-Ok-clause-device : goal.returns-in-Ok-clause-device
returns-in-Ok-clause-device g c is = absurd (subst (λ (r : Result (Unit {0}) Stop). IfErr r IsWriteStop) is c.write_log-ended.ensures.only)

pub returns-in-Ok-clause-only : goal.returns-in-Ok-clause-only
returns-in-Ok-clause-only g c = if_err_then c.write_log-ended.result _ _ log_stop c.write_log-ended.ensures.only

pub returns-in-Err-clause-ends : goal.returns-in-Err-clause-ends
returns-in-Err-clause-ends g c =
    unopened_ends c.args.group.now c.args.through.0 g.D.Disk.is_told (g.D.Disk.seen c.args.log) (g.O.Sink.held c.args.out.now) c.in-Err.stop c.in-Err.ensures.only c.in-Err.ensures.bad

pub returns-in-Err-clause-kept : goal.returns-in-Err-clause-kept
returns-in-Err-clause-kept g c told plain = c.in-Err.ensures.bad_list told (uncut_bad c.in-Err.stop c.in-Err.ensures.only plain)

pub returns-in-Err-clause-sink : goal.returns-in-Err-clause-sink
returns-in-Err-clause-sink g c is = let sinks : c.in-Err.stop ≡ Sink = cc in absurd (subst IsOpeningStop sinks c.in-Err.ensures.only)

pub returns-in-Err-clause-only : goal.returns-in-Err-clause-only
returns-in-Err-clause-only g c = opening_stop c.in-Err.stop c.in-Err.ensures.only
