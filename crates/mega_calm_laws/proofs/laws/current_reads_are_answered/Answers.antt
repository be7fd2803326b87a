use Rattle.mega_leased_laws.specs.of_run_laws.of_tape_laws.of_promises.Promises.{log_of}
use Rattle.mega_leased_laws.specs.of_run_laws.of_tape_laws.of_promises.Runs.{goes_on, opening, setting}
use Rattle.mega_calm_laws.proofs.Beginning.{read_answered, shows_rows}
use Rattle.mega_calm_laws.proofs.Numbering.{run_numbered}
use Rattle.mega_calm_laws.proofs.Stocking.{run_stocked}
use Rattle.mega_calm_laws.proofs.laws.current_reads_are_answered.Goals as goal

pub returns : goal.returns
returns f c usage cuts first h events me most request text rows fits current calm ends shown =
    read_answered c h cuts (goes_on c cuts (opening c first) events) me request text calm (run_numbered c cuts first events) (run_stocked c usage cuts first events fits request.group calm) ends.0 current
    (shows_rows (setting c h me) request (log_of (goes_on c cuts (opening c first) events).tape request.group) rows shown) most ends.1
