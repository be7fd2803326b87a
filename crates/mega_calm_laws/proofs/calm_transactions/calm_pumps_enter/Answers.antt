use Rattle.mega_leased_laws.specs.of_run_laws.of_tape_laws.of_promises.Promises.{log_of}
use Rattle.mega_calm_laws.specs.Next.{run_of}
use Rattle.mega_calm_laws.proofs.Beginning.{full_votes}
use Rattle.mega_calm_laws.proofs.Leading.{has_leader}
use Rattle.mega_calm_laws.proofs.Numbering.{run_numbered}
use Rattle.mega_calm_laws.proofs.Readying.{run_ready}
use Rattle.mega_calm_laws.proofs.Requests.{message_is_entered}
use Rattle.mega_calm_laws.proofs.Stocking.{run_stocked}
use Rattle.mega_calm_laws.proofs.calm_transactions.calm_pumps_enter.Goals as goal

pub returns : goal.returns
returns f c usage cuts first h events me n most text one few five cells fits picks calm ends fresh =
    message_is_entered c h cuts (run_of c cuts first events) me text (run_numbered c cuts first events) ends.0 one n (log_of (run_of c cuts first events).tape one.to) calm
    (run_stocked c usage cuts first events fits one.to calm.calm) (run_ready c usage cuts first events fits one.to n calm me (has_leader c usage cuts first events fits cells one.to me (full_votes c me ends.0)).leader few five ends.0 (has_leader c usage cuts first events fits cells one.to me (full_votes c me ends.0)).leads (has_leader c usage cuts first events fits cells one.to me (full_votes c me ends.0)).votes) picks fresh most ends.1
