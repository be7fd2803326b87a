use Rattle.std.proofs.Common.{refl}
use Rattle.mega_replay.proofs.saving.back_up.Goals as goal

pub returns-clause-backup : goal.returns-clause-backup
returns-clause-backup g c = record {
  whole = c.run_backup-outcome.ensures.whole;
  front = c.run_backup-outcome.ensures.front;
  left = record { log = c.run_backup-outcome.result.log; runs = c.args.devices.runs };
  back = refl;
  runs = refl;
  kept = c.run_backup-outcome.ensures.kept;
  device = c.run_backup-outcome.ensures.device;
  later = c.run_backup-outcome.ensures.devices;
}
