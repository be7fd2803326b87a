use Rattle.mega_leased_laws.specs.of_run_laws.of_tape_laws.of_promises.Runs.{goes_on, opening}
use Rattle.mega_calm_laws.proofs.Beginning.{full_node}
use Rattle.mega_calm_laws.proofs.Numbering.{run_numbered}
use Rattle.mega_calm_laws.proofs.Quieting.{falls_quiet}
use Rattle.mega_calm_laws.proofs.Within.{run_in}
use Rattle.mega_calm_laws.proofs.laws.calm_clusters_fall_quiet.Goals as goal

pub returns : goal.returns
returns f c cuts first h events me most request text group k few calm ends sent =
    falls_quiet c h cuts (goes_on c cuts (opening c first) events) me most request text group few (run_in c few cuts first events) (run_numbered c cuts first events) calm (full_node c me ends.0) ends.1 k sent
