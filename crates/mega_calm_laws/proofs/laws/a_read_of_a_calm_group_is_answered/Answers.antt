use Rattle.mega_leased_laws.specs.of_run_laws.of_tape_laws.of_promises.Runs.{setting}
use Rattle.mega_leased_laws.specs.of_run_laws.of_tape_laws.of_promises.Promises.{log_of}
use Rattle.mega_calm_laws.proofs.Beginning.{read_answered, shows_rows}
use Rattle.mega_calm_laws.proofs.laws.a_read_of_a_calm_group_is_answered.Goals as goal

pub returns : goal.returns
returns f c h cuts now me most request text rows numbered stocked current calm ends shown = read_answered c h cuts now me request text calm numbered stocked ends.0 current (shows_rows (setting c h me) request (log_of now.tape request.group) rows shown) most ends.1
