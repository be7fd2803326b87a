-- In runs under the four conditions of calm, at a node that has all of a group at hand, transactions are committed and pumps do what they pick.
use Rattle.std.proofs.Common.{◌≡◌, ℕ, true, false, List, Some, Ok, ap, ◌∙◌, subst}
use Rattle.mega_base.specs.declared.names.GroupId.{GroupId}
use Rattle.mega_cluster.specs.declared.cluster.Cluster.{Cluster}
use Rattle.mega_entry.specs.declared.content.Enter.{Enter}
use Rattle.mega_handler.specs.Named.{Meanings, has}
use Rattle.mega_index.specs.Rows.{after, no_rows}
use Rattle.mega_outcome.specs.declared.answer.Answer.TheVariants.{Committed}
use Rattle.mega_outcome.specs.declared.answer.Done.{Done}
use Rattle.mega_outcome.specs.declared.request.Request.TheVariants.{PumpEnter, PumpHandle, Txn}
use Rattle.mega_outcome.specs.declared.transaction.Transaction.{Transaction}
use Rattle.mega_outcome.specs.Outcome.{outcome}
use Rattle.mega_leased_laws.specs.of_run_laws.of_tape_laws.of_promises.of_transcript.declared.item.Item.TheVariants.{Answer as AnswerItem, Decide as DecideItem}
use Rattle.mega_leased_laws.specs.of_run_laws.of_tape_laws.of_promises.of_rules.Acting.{applied_logs}
use Rattle.mega_leased_laws.specs.of_run_laws.of_tape_laws.of_promises.of_rules.Queues.{Posted, enter_entry, is_named, names_entered, next_to_enter, next_to_handle, oldest_unhandled}
use Rattle.mega_leased_laws.specs.of_run_laws.of_tape_laws.of_promises.of_rules.Steps.{op_of}
use Rattle.mega_leased_laws.specs.of_run_laws.of_tape_laws.of_promises.Calm.{Ends, IsCalmAt, drained, first_now}
use Rattle.mega_leased_laws.specs.of_run_laws.of_tape_laws.of_promises.Items.{number}
use Rattle.mega_leased_laws.specs.of_run_laws.of_tape_laws.of_promises.Promises.{Stands, handled_by, log_of}
use Rattle.mega_leased_laws.specs.of_run_laws.of_tape_laws.of_promises.Runs.{Cuts, Happening, setting}
use Rattle.mega_calm_laws.specs.Next.{HasAtHand, IsNextAt, run_of}
use Rattle.mega_calm_laws.proofs.Freeing.{run_free}
use Rattle.mega_calm_laws.proofs.Numbering.{run_numbered}
use Rattle.mega_calm_laws.proofs.Transacting.{pump_enters, pump_handles, transaction_committed}
use Rattle.mega_calm_laws.proofs.Wholes.{run_whole}

next_at : (c : Cluster) (cuts : Cuts) (first : Meanings) (events : List Happening) (me : ℕ) (g : GroupId) (n leader : ℕ) → IsCalmAt c (run_of c cuts first events) g n → HasAtHand c (run_of c cuts first events) me g n leader
    → IsNextAt c (run_of c cuts first events) me g n leader
next_at c cuts first events me g n leader calm at = record {
  reaches = at.reaches;
  next = at.next;
  room = calm.room;
  led = at.led;
  leader_votes = at.leader_votes;
  unaccepted = λ node voter. (run_free c cuts first events g n calm).unmade node;
  undecided = λ node there. (run_free c cuts first events g n calm).undecided node;
}

pub transaction_at_hand : (c : Cluster) (cuts : Cuts) (first h : Meanings) (events : List Happening) (me n leader most : ℕ) (transaction : Transaction) (text : List ℕ) (done : Done) → IsCalmAt c (run_of c cuts first events) transaction.group n
    → HasAtHand c (run_of c cuts first events) me transaction.group n leader → Ends c h cuts (run_of c cuts first events) me (Txn transaction) text most
    → outcome c.schema transaction (after (log_of (run_of c cuts first events).tape transaction.group) no_rows) ≡ Ok done
    → Stands (AnswerItem (op_of (setting c h me) ((run_of c cuts first events).node me).met) (Committed (record { 0 = n }) done.replies)) (drained c h cuts (run_of c cuts first events) me (Txn transaction) text most).tape
transaction_at_hand c cuts first h events me n leader most transaction text done calm at ends comes =
    transaction_committed c h cuts (run_of c cuts first events) me text (run_numbered c cuts first events) ends.0 n leader transaction calm.calm at.valid (next_at c cuts first events me transaction.group n leader calm at) done
    (ap (λ log. outcome c.schema transaction (after log no_rows)) (run_whole c cuts first events transaction.group n me calm at.next) ∙ comes) most ends.1

pub pump_enters_at_hand : (c : Cluster) (cuts : Cuts) (first h : Meanings) (events : List Happening) (me n leader most : ℕ) (text : List ℕ) (one : Posted)
    → next_to_enter (op_of (setting c h me) ((run_of c cuts first events).node me).met) (applied_logs (first_now (run_of c cuts first events) me)) ≡ Some one → IsCalmAt c (run_of c cuts first events) one.to n
    → HasAtHand c (run_of c cuts first events) me one.to n leader → Ends c h cuts (run_of c cuts first events) me PumpEnter text most
    → is_named (one.message).name (names_entered (log_of (run_of c cuts first events).tape one.to)) ≡ false
    → Stands (DecideItem (number me) one.to (record { 0 = n }) (enter_entry (op_of (setting c h me) ((run_of c cuts first events).node me).met) one.message)) (drained c h cuts (run_of c cuts first events) me PumpEnter text most).tape
pump_enters_at_hand c cuts first h events me n leader most text one picks calm at ends fresh =
    pump_enters c h cuts (run_of c cuts first events) me text (run_numbered c cuts first events) ends.0 n leader one calm.calm at.valid (next_at c cuts first events me one.to n leader calm at) picks
    (ap (λ log. is_named (one.message).name (names_entered log)) (run_whole c cuts first events one.to n me calm at.next) ∙ fresh) most ends.1

pub pump_handles_at_hand : (c : Cluster) (cuts : Cuts) (first h : Meanings) (events : List Happening) (me n leader most : ℕ) (text : List ℕ) (group : GroupId) (message : Enter)
    → next_to_handle (applied_logs (first_now (run_of c cuts first events) me)) ≡ Some group → IsCalmAt c (run_of c cuts first events) group n
    → HasAtHand c (run_of c cuts first events) me group n leader → Ends c h cuts (run_of c cuts first events) me PumpHandle text most
    → oldest_unhandled (log_of (run_of c cuts first events).tape group) ≡ Some message → has h message.queue ≡ true
    → Stands (DecideItem (number me) group (record { 0 = n }) (handled_by c.schema h group (op_of (setting c h me) ((run_of c cuts first events).node me).met) message (log_of (run_of c cuts first events).tape group)))
    (drained c h cuts (run_of c cuts first events) me PumpHandle text most).tape
pump_handles_at_hand c cuts first h events me n leader most text group message picks calm at ends oldest there =
    subst (λ log. Stands (DecideItem (number me) group (record { 0 = n }) (handled_by c.schema h group (op_of (setting c h me) ((run_of c cuts first events).node me).met) message log)) (drained c h cuts (run_of c cuts first events) me PumpHandle text most).tape)
    (run_whole c cuts first events group n me calm at.next)
    (pump_handles c h cuts (run_of c cuts first events) me text (run_numbered c cuts first events) ends.0 n leader group message calm.calm at.valid (next_at c cuts first events me group n leader calm at) picks
    (ap oldest_unhandled (run_whole c cuts first events group n me calm at.next) ∙ oldest) there most ends.1)
