-- Runs are calm complete: transactions, current reads and pumps that begin alone where a run stands calm are answered, and it falls quiet.
use Rattle.std.proofs.Common.{◌≡◌, ℕ, ◌≤◌, true, List, length}
use Rattle.mega_base.specs.declared.names.GroupId.{GroupId}
use Rattle.mega_cluster.specs.declared.cluster.Cluster.{Cluster}
use Rattle.mega_handler.specs.Named.{Meanings}
use Rattle.mega_leased_laws.specs.of_run_laws.of_tape_laws.of_promises.of_rules.Members.{is_full}
use Rattle.mega_leased_laws.specs.of_run_laws.of_tape_laws.of_promises.Calm.{IsCalmAt, IsCalmComplete}
use Rattle.mega_leased_laws.specs.of_run_laws.of_tape_laws.of_promises.Promises.{log_of}
use Rattle.mega_leased_laws.specs.of_run_laws.of_tape_laws.of_promises.Runs.{Cuts, Happening, Standing, goes_on, opening, setting}
use Rattle.mega_leased_laws.specs.of_run_laws.Usages.{Fits}
use Rattle.mega_leased_laws.specs.of_run_laws.of_tape_laws.Writes.{Usage}
use Rattle.mega_calm_laws.specs.Ready.{IsReady}
use Rattle.mega_calm_laws.specs.Waiting.{IsNumbered}
use Rattle.mega_calm_laws.proofs.Beginning.{full_node, full_votes, read_answered, shows_rows}
use Rattle.mega_calm_laws.proofs.Leading.{has_leader}
use Rattle.mega_calm_laws.proofs.Numbering.{run_numbered}
use Rattle.mega_calm_laws.proofs.Quieting.{falls_quiet}
use Rattle.mega_calm_laws.proofs.Readying.{run_ready}
use Rattle.mega_calm_laws.proofs.Requests.{message_is_entered, message_is_handled, transaction_is_committed}
use Rattle.mega_calm_laws.proofs.Stocking.{run_stocked}
use Rattle.mega_calm_laws.proofs.Within.{run_in}

module _ (c : Cluster) (usage : Usage) (cuts : Cuts) (first : Meanings) (events : List Happening) (few : length c.nodes ≤ 9) (five : c.cells ≤ 5) (cells : c.cells ≤ length c.nodes) (fits : Fits usage events) where
  abbrev now : Standing
  now = goes_on c cuts (opening c first) events

  numbered : IsNumbered now.tape
  numbered = run_numbered c cuts first events

  pub ready : (me n : ℕ) (group : GroupId) → IsCalmAt c now group n → is_full c me ≡ true → IsReady c now me group (log_of now.tape group)
  ready me n group calm full =
      let led = has_leader c usage cuts first events fits cells group me (full_votes c me full) in
      run_ready c usage cuts first events fits group n calm me led.leader few five full led.leads led.votes

  complete : (h : Meanings) → IsCalmComplete c h cuts now
  complete h = record {
    transactions = λ me n most transaction text done calm ends comes.
        transaction_is_committed c h cuts now me text numbered ends.0 transaction n (log_of now.tape transaction.group) calm
        (run_stocked c usage cuts first events fits transaction.group calm.calm) (ready me n transaction.group calm ends.0) done comes most ends.1;
    reads = λ me most request text rows current calm ends shown.
        let r = read_answered c h cuts now me request text calm numbered (run_stocked c usage cuts first events fits request.group calm) ends.0 current
        (shows_rows (setting c h me) request (log_of now.tape request.group) rows shown) most ends.1 in
        (r.position, r.rows, r.stands);
    enters = λ me n most text one picks calm ends fresh.
        message_is_entered c h cuts now me text numbered ends.0 one n (log_of now.tape one.to) calm
        (run_stocked c usage cuts first events fits one.to calm.calm) (ready me n one.to calm ends.0) picks fresh most ends.1;
    handles = λ me n most text group message picks calm ends oldest there.
        message_is_handled c h cuts now me text numbered ends.0 group message n (log_of now.tape group) calm
        (run_stocked c usage cuts first events fits group calm.calm) (ready me n group calm ends.0) picks oldest there most ends.1;
    quiet = λ me most request text group k calm ends sent.
        falls_quiet c h cuts now me most request text group cells (run_in c cells cuts first events) numbered calm (full_node c me ends.0) ends.1 k sent;
  }

pub run_is_calm_complete : (c : Cluster) (usage : Usage) (cuts : Cuts) (first h : Meanings) (events : List Happening) → length c.nodes ≤ 9 → c.cells ≤ 5 → c.cells ≤ length c.nodes → Fits usage events
    → IsCalmComplete c h cuts (goes_on c cuts (opening c first) events)
run_is_calm_complete c usage cuts first h events few five cells fits = complete c usage cuts first events few five cells fits h
