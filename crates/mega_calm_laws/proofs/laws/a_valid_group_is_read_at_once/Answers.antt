use Rattle.mega_leased_laws.specs.of_run_laws.of_tape_laws.of_promises.Runs.{setting}
use Rattle.mega_leased_laws.specs.of_run_laws.of_tape_laws.of_promises.Promises.{log_of}
use Rattle.mega_calm_laws.proofs.Beginning.{read_at_once, shows_rows}
use Rattle.mega_calm_laws.proofs.laws.a_valid_group_is_read_at_once.Goals as goal

pub returns : goal.returns
returns f c h cuts now me request text rows numbered stocked current calm full shown valid knows = read_at_once c h cuts now me request text calm numbered stocked full current (shows_rows (setting c h me) request (log_of now.tape request.group) rows shown) valid knows
