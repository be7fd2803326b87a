use Rattle.mega_leased_laws.specs.of_run_laws.of_tape_laws.of_promises.Promises.{log_of}
use Rattle.mega_calm_laws.specs.Next.{run_of}
use Rattle.mega_calm_laws.proofs.Beginning.{full_votes}
use Rattle.mega_calm_laws.proofs.Leading.{has_leader}
use Rattle.mega_calm_laws.proofs.Numbering.{run_numbered}
use Rattle.mega_calm_laws.proofs.Readying.{run_ready}
use Rattle.mega_calm_laws.proofs.Requests.{transaction_is_committed}
use Rattle.mega_calm_laws.proofs.Stocking.{run_stocked}
use Rattle.mega_calm_laws.proofs.calm_transactions.calm_transactions_are_committed.Goals as goal

pub returns : goal.returns
returns f c usage cuts first h events me n most transaction text done few five cells fits calm ends comes =
    transaction_is_committed c h cuts (run_of c cuts first events) me text (run_numbered c cuts first events) ends.0 transaction n (log_of (run_of c cuts first events).tape transaction.group) calm
    (run_stocked c usage cuts first events fits transaction.group calm.calm) (run_ready c usage cuts first events fits transaction.group n calm me (has_leader c usage cuts first events fits cells transaction.group me (full_votes c me ends.0)).leader few five ends.0 (has_leader c usage cuts first events fits cells transaction.group me (full_votes c me ends.0)).leads (has_leader c usage cuts first events fits cells transaction.group me (full_votes c me ends.0)).votes) done comes most ends.1
