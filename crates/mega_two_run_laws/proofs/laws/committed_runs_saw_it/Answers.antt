use Rattle.std.proofs.Common.{length, sym, ◌∙◌}
use Rattle.mega_two_driver_laws.proofs.Saw.{begun_seen, recovered_seen}
use Rattle.mega_two_turns.specs.Turns.{driven, start}
use Rattle.mega_two_run_laws.specs.TurnResults.{tolds}
use Rattle.mega_two_run_laws.proofs.Recovering.{recovered_run}
use Rattle.mega_two_run_laws.proofs.Turns.{goes, is_over}
use Rattle.mega_two_run_laws.proofs.laws.committed_runs_saw_it.Goals as goal

pub returns-clause-begun : goal.returns-clause-begun
returns-clause-begun c = λ node patience two given begins ended.
    begun_seen (length two.plan.parts) (tolds node patience (start two) given)
    (sym (goes node patience two given begins) ∙ is_over (driven node patience (start two) given).two.phase ended)

pub returns-clause-recovered : goal.returns-clause-recovered
returns-clause-recovered c = λ node patience two given begins ended.
    recovered_seen (length (driven node patience (start two) given).two.plan.parts) (tolds node patience (start two) given)
    (recovered_run node patience two given begins (is_over (driven node patience (start two) given).two.phase ended))
