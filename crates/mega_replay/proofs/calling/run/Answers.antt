use Rattle.std.proofs.Common.{◌≡◌, Option, Some, refl, arith, inr, subst, sym}
use Rattle.std.proofs.KnownBytes.{Appends-nil}
use Rattle.mega_words.specs.declared.command.Command.{Command}
use Rattle.mega_words.specs.Commands.{MayWant}
use Rattle.mega_replay.specs.Statuses.{IsOffline, IsStatusOf, UsesNoDevice}
use Rattle.mega_replay.proofs.Asked.{same_backup, same_change, same_gen, same_node, same_report, same_restore, so_asked, so_read}
use Rattle.mega_replay.proofs.Changes.{none_driven, sees_before}
use Rattle.mega_replay.proofs.Backups.{may_end, nothing_done, rows_come_back}
use Rattle.mega_replay.proofs.calling.run.Goals as goal

pub returns-in-Ok-Some-Gen-clause-drawn : goal.returns-in-Ok-Some-Gen-clause-drawn
returns-in-Ok-Some-Gen-clause-drawn g c seed count nodes is =
    let same = same_gen c.in-Ok-Some-Gen.ensures.value c.in-Ok-Some-Gen.field-0-is c.in-Ok-Some-Gen.field-0-0-is is in
    rw (← same.0, ← same.1, ← same.2) (record { only = c.draw.ensures.only; whole = c.draw.ensures.whole; front = c.draw.ensures.front })

pub returns-in-Ok-Some-Replay-clause-replayed : goal.returns-in-Ok-Some-Replay-clause-replayed
returns-in-Ok-Some-Replay-clause-replayed g c report is =
    let same = same_report c.in-Ok-Some-Replay.ensures.value c.in-Ok-Some-Replay.field-0-is c.in-Ok-Some-Replay.field-0-0-is is in
    let of = c.replay_all.ensures in
    rw (← same) (record { done = of.done; end = of.end; header = of.header; refused = of.refused; limit = of.limit; broken = of.broken; cut = of.cut })

pub returns-in-Ok-Some-Node-clause-node : goal.returns-in-Ok-Some-Node-clause-node
returns-in-Ok-Some-Node-clause-node g c number turns is =
    let same = same_node c.in-Ok-Some-Node.ensures.value c.in-Ok-Some-Node.field-0-is c.in-Ok-Some-Node.field-0-0-is is in
    rw (← same.0, ← same.1, ← c.new-number.ensures) c.serve_node.ensures.node

pub returns-in-Ok-Some-Node-clause-offline : goal.returns-in-Ok-Some-Node-clause-offline
returns-in-Ok-Some-Node-clause-offline g c is = absurd (so_read IsOffline c.in-Ok-Some-Node.ensures.value c.in-Ok-Some-Node.field-0-is c.in-Ok-Some-Node.field-0-0-is is)

pub returns-in-Ok-Some-Node-clause-untouched : goal.returns-in-Ok-Some-Node-clause-untouched
returns-in-Ok-Some-Node-clause-untouched g c is = absurd (so_read UsesNoDevice c.in-Ok-Some-Node.ensures.value c.in-Ok-Some-Node.field-0-is c.in-Ok-Some-Node.field-0-0-is is)

pub returns-in-Ok-Some-Backup-clause-untouched : goal.returns-in-Ok-Some-Backup-clause-untouched
returns-in-Ok-Some-Backup-clause-untouched g c is = absurd (so_read UsesNoDevice c.in-Ok-Some-Backup.ensures.value c.in-Ok-Some-Backup.field-0-is c.in-Ok-Some-Backup.field-0-0-is is)

pub returns-in-Ok-Some-Backup-clause-backup : goal.returns-in-Ok-Some-Backup-clause-backup
returns-in-Ok-Some-Backup-clause-backup g c number at group is =
    let same = same_backup c.in-Ok-Some-Backup.ensures.value c.in-Ok-Some-Backup.field-0-is c.in-Ok-Some-Backup.field-0-0-is is in
    rw (← same.0, ← same.1, ← same.2) c.back_up.ensures.backup

pub returns-in-Ok-Some-Restore-clause-restore : goal.returns-in-Ok-Some-Restore-clause-restore
returns-in-Ok-Some-Restore-clause-restore g c at is =
    let same = same_restore c.in-Ok-Some-Restore.ensures.value c.in-Ok-Some-Restore.field-0-is c.in-Ok-Some-Restore.field-0-0-is is in
    rw (← same) (record { whole = c.run_restore.ensures.whole; front = c.run_restore.ensures.front; rows = rows_come_back c.in-Ok-Some-Restore.at (g.I.Source.left c.args.input.now) })

pub returns-in-Ok-None-clause-only : goal.returns-in-Ok-None-clause-only
returns-in-Ok-None-clause-only g c =
    subst (λ (command : Option Command). IsStatusOf command c.tell_usage.result) c.in-Ok-None.ensures.value
    (subst (λ (command : Option Command). IsStatusOf command c.tell_usage.result) (sym c.in-Ok-None.field-0-is) c.tell_usage.ensures.status)

pub returns-in-Ok-Some-Gen-clause-only : goal.returns-in-Ok-Some-Gen-clause-only
returns-in-Ok-Some-Gen-clause-only g c =
    so_asked (λ (command : Option Command). IsStatusOf command c.draw.result) c.in-Ok-Some-Gen.ensures.value c.in-Ok-Some-Gen.field-0-is c.in-Ok-Some-Gen.field-0-0-is c.draw.ensures.only

pub returns-in-Ok-Some-Replay-clause-only : goal.returns-in-Ok-Some-Replay-clause-only
returns-in-Ok-Some-Replay-clause-only g c =
    so_asked (λ (command : Option Command). IsStatusOf command c.replay_all.result) c.in-Ok-Some-Replay.ensures.value c.in-Ok-Some-Replay.field-0-is c.in-Ok-Some-Replay.field-0-0-is c.replay_all.ensures.only

pub returns-in-Ok-Some-Node-clause-only : goal.returns-in-Ok-Some-Node-clause-only
returns-in-Ok-Some-Node-clause-only g c =
    so_asked (λ (command : Option Command). IsStatusOf command c.serve_node.result.status) c.in-Ok-Some-Node.ensures.value c.in-Ok-Some-Node.field-0-is c.in-Ok-Some-Node.field-0-0-is c.serve_node.ensures.only

pub returns-in-Ok-Some-Backup-clause-only : goal.returns-in-Ok-Some-Backup-clause-only
returns-in-Ok-Some-Backup-clause-only g c =
    so_asked (λ (command : Option Command). IsStatusOf command c.back_up.result.status) c.in-Ok-Some-Backup.ensures.value c.in-Ok-Some-Backup.field-0-is c.in-Ok-Some-Backup.field-0-0-is c.back_up.ensures.only

pub returns-in-Ok-Some-Restore-clause-only : goal.returns-in-Ok-Some-Restore-clause-only
returns-in-Ok-Some-Restore-clause-only g c =
    so_asked (λ (command : Option Command). IsStatusOf command c.run_restore.result) c.in-Ok-Some-Restore.ensures.value c.in-Ok-Some-Restore.field-0-is c.in-Ok-Some-Restore.field-0-0-is c.run_restore.ensures.only

pub returns-in-Ok-None-clause-usage : goal.returns-in-Ok-None-clause-usage
returns-in-Ok-None-clause-usage g c is = record { only = c.tell_usage.ensures.status; whole = c.tell_usage.ensures.used; front = c.tell_usage.ensures.usage }

pub returns-in-Err-clause-usage : goal.returns-in-Err-clause-usage
returns-in-Err-clause-usage g c is = record {
  only = inr refl;
  whole = λ other. absurd (omega (arith, other));
  front = (0, Appends-nil (g.O.Sink.held c.args.out.now));
}

pub returns-in-Err-clause-drawn : goal.returns-in-Err-clause-drawn
returns-in-Err-clause-drawn g c seed count nodes is = absurd (subst MayWant is c.in-Err.ensures.wanting)

pub returns-in-Err-clause-replayed : goal.returns-in-Err-clause-replayed
returns-in-Err-clause-replayed g c report is = absurd (subst MayWant is c.in-Err.ensures.wanting)

pub returns-in-Err-clause-node : goal.returns-in-Err-clause-node
returns-in-Err-clause-node g c number turns is = absurd (subst MayWant is c.in-Err.ensures.wanting)

pub returns-in-Err-clause-backup : goal.returns-in-Err-clause-backup
returns-in-Err-clause-backup g c number at group is =
    nothing_done g.D.Disk number group at (g.I.Source.left c.args.input.now) c.args.devices (g.O.Sink.held c.args.out.now)

pub returns-in-Err-clause-restore : goal.returns-in-Err-clause-restore
returns-in-Err-clause-restore g c at is = absurd (subst MayWant is c.in-Err.ensures.wanting)

pub returns-in-Err-clause-only : goal.returns-in-Err-clause-only
returns-in-Err-clause-only g c = may_end _ c.in-Err.ensures.wanting

pub returns-in-Ok-Some-Two-clause-two : goal.returns-in-Ok-Some-Two-clause-two
returns-in-Ok-Some-Two-clause-two g c number turns recover is =
    let same = same_change c.in-Ok-Some-Two.ensures.value c.in-Ok-Some-Two.field-0-is c.in-Ok-Some-Two.field-0-0-is is in
    rw (← same.0, ← same.1, ← same.2, ← c.as_ref.ensures.value) (record { whole = c.run_two.ensures.whole; front = c.run_two.ensures.front; none = c.run_two.ensures.none; memory = c.run_two.ensures.memory; sees = sees_before c.in-Ok-Some-Two.node })

pub returns-in-Ok-Some-Two-clause-offline : goal.returns-in-Ok-Some-Two-clause-offline
returns-in-Ok-Some-Two-clause-offline g c is = absurd (so_read IsOffline c.in-Ok-Some-Two.ensures.value c.in-Ok-Some-Two.field-0-is c.in-Ok-Some-Two.field-0-0-is is)

pub returns-in-Ok-Some-Two-clause-only : goal.returns-in-Ok-Some-Two-clause-only
returns-in-Ok-Some-Two-clause-only g c =
    so_asked (λ (command : Option Command). IsStatusOf command c.run_two.result) c.in-Ok-Some-Two.ensures.value c.in-Ok-Some-Two.field-0-is c.in-Ok-Some-Two.field-0-0-is c.run_two.ensures.only

pub returns-in-Err-clause-two : goal.returns-in-Err-clause-two
returns-in-Err-clause-two g c number turns recover is = none_driven number turns recover _ _
