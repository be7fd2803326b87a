-- Transactions and pumps that begin at any full node of a calm cluster: whether they poll or not, and whatever their node lacks of the log, each is committed.
use Rattle.std.proofs.Common.{◌≡◌, ℕ, ◌≤◌, nat_le, true, false, cond, List, [], ◌∷◌, length, map, take, Option, Some, None, Ok, refl, sym, ap, ◌∙◌, subst, ◌+◌}
use Rattle.mega_base.specs.declared.names.Epoch.{Epoch}
use Rattle.mega_base.specs.declared.names.GroupId.{GroupId}
use Rattle.mega_base.specs.declared.names.OpId.{OpId}
use Rattle.mega_cluster.specs.declared.cluster.Cluster.{Cluster}
use Rattle.mega_entry.specs.declared.content.Content.{Content}
use Rattle.mega_entry.specs.declared.content.Enter.{Enter}
use Rattle.mega_handler.specs.Named.{Meanings, has}
use Rattle.mega_index.specs.Rows.{after as rows_after, list_after, no_rows}
use Rattle.mega_outcome.specs.declared.answer.Answer.TheVariants.{Committed, LogFull, NoHandler}
use Rattle.mega_outcome.specs.declared.answer.Done.{Done}
use Rattle.mega_outcome.specs.declared.request.Request.TheVariants.{PumpEnter, PumpHandle, Txn}
use Rattle.mega_outcome.specs.declared.transaction.Transaction.{Transaction}
use Rattle.mega_outcome.specs.Outcome.{entry_of_done, outcome}
use Rattle.mega_leased_laws.specs.of_run_laws.of_tape_laws.of_promises.of_rules.of_read.declared.reading.Reading.{Reading}
use Rattle.mega_leased_laws.specs.of_run_laws.of_tape_laws.of_promises.of_rules.of_read.declared.reading.Search.{Search}
use Rattle.mega_leased_laws.specs.of_run_laws.of_tape_laws.of_promises.of_rules.of_read.declared.reading.Stage.TheVariants.{Catching}
use Rattle.mega_leased_laws.specs.of_run_laws.of_tape_laws.of_promises.of_rules.of_read.Catching.{asked_by}
use Rattle.mega_leased_laws.specs.of_run_laws.of_tape_laws.of_promises.of_rules.of_replica.Applying.{applied_log}
use Rattle.mega_leased_laws.specs.of_run_laws.of_tape_laws.of_promises.of_transcript.declared.item.Item.TheVariants.{Answer as AnswerItem, Decide as DecideItem}
use Rattle.mega_leased_laws.specs.of_run_laws.of_tape_laws.of_promises.of_rules.Acting.{Rests, applied_logs, ends, enters, handles, handling, listed_at, picks_group, picks_message, picks_to_enter, proposes, rests_within, rows_at, sealed, table_rows}
use Rattle.mega_leased_laws.specs.of_run_laws.of_tape_laws.of_promises.of_rules.Clock.{clock_of, next_number, start_of}
use Rattle.mega_leased_laws.specs.of_run_laws.of_tape_laws.of_promises.of_rules.Coordinators.{valid_at}
use Rattle.mega_leased_laws.specs.of_run_laws.of_tape_laws.of_promises.of_rules.Logs.{groups_of, log_of}
use Rattle.mega_leased_laws.specs.of_run_laws.of_tape_laws.of_promises.of_rules.Members.{is_full}
use Rattle.mega_leased_laws.specs.of_run_laws.of_tape_laws.of_promises.of_rules.Met.{Met, Begins}
use Rattle.mega_leased_laws.specs.of_run_laws.of_tape_laws.of_promises.of_rules.Operations.{Node, Now, Operation, Replies, Setting}
use Rattle.mega_leased_laws.specs.of_run_laws.of_tape_laws.of_promises.of_rules.Queues.{Log, Posted, enter_entry, is_named, names_entered, next_to_enter, next_to_handle, oldest_unhandled}
use Rattle.mega_leased_laws.specs.of_run_laws.of_tape_laws.of_promises.of_rules.Steps.{new_operation, op_of, unless_refused}
use Rattle.mega_leased_laws.specs.of_run_laws.of_tape_laws.of_promises.Calm.{IsCalmAt, begun, first_now, is_cut}
use Rattle.mega_leased_laws.specs.of_run_laws.of_tape_laws.of_promises.Items.{number}
use Rattle.mega_leased_laws.specs.of_run_laws.of_tape_laws.of_promises.Promises.{Stands, handled_by}
use Rattle.mega_leased_laws.specs.of_run_laws.of_tape_laws.of_promises.Runs.{Cuts, Standing, drained, setting}
use Rattle.mega_calm_laws.specs.Ready.{IsReady}
use Rattle.mega_calm_laws.specs.Stocked.{IsStocked}
use Rattle.mega_calm_laws.specs.Waiting.{IsNumbered}
use Rattle.mega_calm_laws.proofs.AtOnce.{above_not, acted, begin, begins_log, reads_so}
use Rattle.mega_calm_laws.proofs.Beginning.{full_node, not_refused}
use Rattle.mega_calm_laws.proofs.Committing.{IsCommitted, in_the_end, is_answered, next_is}
use Rattle.mega_calm_laws.proofs.Reaching.{FinishesSo}
use Rattle.mega_calm_laws.proofs.Seeking.{reading, seeks}

-- ---- what was applied, with one thing more met

logs_same : (me : ℕ) (node : Node) (id : OpId) (text : List ℕ) (gs : List GroupId)
    → map (λ g. record { group = g; entries = applied_log (log_of (Begins id text ∷ node.met) g) (node.stored g) }) gs ≡ map {B = Log} (λ g. record { group = g; entries = applied_log (log_of node.met g) (node.stored g) }) gs
logs_same me node id text [] = refl
logs_same me node id text (g ∷ gs) = λ i. record { group = g; entries = applied_log (begins_log id text node.met g i) (node.stored g) } ∷ logs_same me node id text gs i

module _ (c : Cluster) (h : Meanings) (cuts : Cuts) (now : Standing) (me : ℕ) (text : List ℕ) (in_order : IsNumbered now.tape) (full : is_full c me ≡ true) where
  abbrev s : Setting
  s = setting c h me

  abbrev node : Node
  node = now.node me

  abbrev met : List Met
  met = (now.node me).met

  abbrev its_id : OpId
  its_id = op_of (setting c h me) (now.node me).met

  room_is : (g : GroupId) (log : List Content) (n : ℕ) → IsReady c now me g log → IsCalmAt c now g n → nat_le (c.limit).0 (length log) ≡ false
  room_is g log n ready calm = above_not (c.limit).0 (length log) (subst (λ k. k ≤ (c.limit).0) (next_is c now me g log n ready calm.next) calm.room)

  -- ---- transactions

  module _ (transaction : Transaction) (n : ℕ) (log : List Content) (calm : IsCalmAt c now transaction.group n) (stocked : IsStocked c now transaction.group) (ready : IsReady c now me transaction.group log) (done : Done)
      (comes : outcome c.schema transaction (rows_after log no_rows) ≡ Ok done) where
    abbrev txn_own : Content
    txn_own = entry_of_done its_id done

    abbrev txn_none : (now.node me).open_operations ≡ []
    txn_none = (calm.calm).none_open me (full_node c me full)

    txn_begins : acted s node (Txn transaction) text txn_none transaction.group None txn_own (Replies done.replies) ready.leader
        ≡ reads_so s node (Txn transaction) text txn_none transaction.group None txn_own (Replies done.replies) ready.leader (valid_at c met transaction.group)
    txn_begins = ap (unless_refused s (begin s node (Txn transaction) text txn_none transaction.group None txn_own (Replies done.replies) ready.leader) (new_operation its_id (Txn transaction) (clock_of met)))
        (not_refused s node (Txn transaction) full ((calm.calm).not_worn me (full_node c me full)) txn_none)

    txn_finishes : (noted : Option Epoch) (found : List Met) → take (length log) (log_of found transaction.group) ≡ log → (hand : Now) (search : Option Search) → hand.met ≡ found
        → FinishesSo c me (start_of met) (next_number met) transaction.group log (Txn transaction) None (clock_of met) noted txn_own (Replies done.replies) ready.leader h hand search
    txn_finishes noted found is hand search same none_asked =
        ap (λ t. cond t (Rests (ends hand its_id (LogFull (record { 0 = length log })))) (Rests (sealed s hand o transaction.group r (length log) (outcome c.schema transaction (rows_at hand transaction.group (length log)))))) (room_is transaction.group log n ready calm)
        ∙ ap (λ result. Rests (sealed s hand o transaction.group r (length log) result)) (ap (λ (x : List Met). outcome c.schema transaction (rows_after (take (length log) (log_of x transaction.group)) no_rows)) same
        ∙ (ap (λ l. outcome c.schema transaction (rows_after l no_rows)) is ∙ comes))
      where
        o : Operation
        o = seeks s its_id transaction.group (Txn transaction) None (clock_of met) noted log txn_own (Replies done.replies) ready.leader (Catching (length log) search)

        r : Reading
        r = reading s its_id transaction.group (Txn transaction) None (clock_of met) noted log txn_own (Replies done.replies) ready.leader (Catching (length log) search)

    pub transaction_is_committed : (most : ℕ) → is_cut (drained c h cuts (begun c h cuts now me (Txn transaction) text) most).tape ≡ false
        → Stands (AnswerItem its_id (Committed (record { 0 = n }) done.replies)) (drained c h cuts (begun c h cuts now me (Txn transaction) text) most).tape
    transaction_is_committed most not_cut = subst (λ k. Stands (AnswerItem its_id (Committed (record { 0 = k }) done.replies)) last.tape) (sym (next_is c now me transaction.group log n ready calm.next))
        (is_answered c h cuts now me (Txn transaction) text transaction.group None txn_own (Replies done.replies) log calm.calm in_order stocked full ready txn_begins txn_finishes refl last.tape
        (in_the_end c h cuts now me (Txn transaction) text transaction.group None txn_own (Replies done.replies) log calm.calm in_order stocked full ready txn_begins txn_finishes most not_cut))
      where
        last : Standing
        last = drained c h cuts (begun c h cuts now me (Txn transaction) text) most

  -- ---- a pump that enters

  module _ (one : Posted) (n : ℕ) (log : List Content) (calm : IsCalmAt c now one.to n) (stocked : IsStocked c now one.to) (ready : IsReady c now me one.to log)
      (picks : next_to_enter its_id (applied_logs (first_now now me)) ≡ Some one) (fresh : is_named (one.message).name (names_entered log) ≡ false) where
    abbrev enter_own : Content
    enter_own = enter_entry its_id one.message

    abbrev enter_none : (now.node me).open_operations ≡ []
    enter_none = (calm.calm).none_open me (full_node c me full)

    abbrev enter_begin : Now
    enter_begin = begin s node PumpEnter text enter_none one.to (Some one.message) enter_own (Replies []) ready.leader

    enter_begins : acted s node PumpEnter text enter_none one.to (Some one.message) enter_own (Replies []) ready.leader
        ≡ reads_so s node PumpEnter text enter_none one.to (Some one.message) enter_own (Replies []) ready.leader (valid_at c met one.to)
    enter_begins = ap (unless_refused s enter_begin (new_operation its_id PumpEnter (clock_of met))) (not_refused s node PumpEnter full ((calm.calm).not_worn me (full_node c me full)) enter_none)
        ∙ (ap (λ logs. rests_within (length (groups_of enter_begin.met) + 2) s (picks_message s enter_begin (new_operation its_id PumpEnter (clock_of met)) [] (next_to_enter its_id logs))) (logs_same me node its_id text (groups_of met))
        ∙ ap (λ found. rests_within (length (groups_of enter_begin.met) + 2) s (picks_message s enter_begin (new_operation its_id PumpEnter (clock_of met)) [] found)) picks)

    enter_finishes : (noted : Option Epoch) (found : List Met) → take (length log) (log_of found one.to) ≡ log → (hand : Now) (search : Option Search) → hand.met ≡ found
        → FinishesSo c me (start_of met) (next_number met) one.to log PumpEnter (Some one.message) (clock_of met) noted enter_own (Replies []) ready.leader h hand search
    enter_finishes noted found is hand search same none_asked =
        ap (λ t. cond t (Rests (ends hand its_id (LogFull (record { 0 = length log })))) (enters s hand o one.to r (length log) (Some one.message))) (room_is one.to log n ready calm)
        ∙ ap (λ t. cond t (picks_to_enter s hand o (asked_by r)) (Rests (proposes s hand o one.to r (length log) enter_own (Replies []))))
        (ap (λ (x : List Met). is_named (one.message).name (names_entered (take (length log) (log_of x one.to)))) same ∙ (ap (λ l. is_named (one.message).name (names_entered l)) is ∙ fresh))
      where
        o : Operation
        o = seeks s its_id one.to PumpEnter (Some one.message) (clock_of met) noted log enter_own (Replies []) ready.leader (Catching (length log) search)

        r : Reading
        r = reading s its_id one.to PumpEnter (Some one.message) (clock_of met) noted log enter_own (Replies []) ready.leader (Catching (length log) search)

    pub message_is_entered : (most : ℕ) → is_cut (drained c h cuts (begun c h cuts now me PumpEnter text) most).tape ≡ false
        → Stands (DecideItem (number me) one.to (record { 0 = n }) (enter_entry its_id one.message)) (drained c h cuts (begun c h cuts now me PumpEnter text) most).tape
    message_is_entered most not_cut = subst (λ k. Stands (DecideItem (number me) one.to (record { 0 = k }) enter_own) last.tape) (sym (next_is c now me one.to log n ready calm.next)) committed_so.decides
      where
        last : Standing
        last = drained c h cuts (begun c h cuts now me PumpEnter text) most

        committed_so : IsCommitted c h cuts now me PumpEnter text one.to (Some one.message) enter_own (Replies []) log calm.calm in_order stocked full ready enter_begins enter_finishes last.tape
        committed_so = in_the_end c h cuts now me PumpEnter text one.to (Some one.message) enter_own (Replies []) log calm.calm in_order stocked full ready enter_begins enter_finishes most not_cut

  -- ---- a pump that handles

  module _ (group : GroupId) (message : Enter) (n : ℕ) (log : List Content) (calm : IsCalmAt c now group n) (stocked : IsStocked c now group) (ready : IsReady c now me group log)
      (picks : next_to_handle (applied_logs (first_now now me)) ≡ Some group) (oldest : oldest_unhandled log ≡ Some message) (there : has h message.queue ≡ true) where
    abbrev handle_own : Content
    handle_own = handled_by c.schema h group its_id message log

    abbrev handle_none : (now.node me).open_operations ≡ []
    handle_none = (calm.calm).none_open me (full_node c me full)

    abbrev handle_begin : Now
    handle_begin = begin s node PumpHandle text handle_none group None handle_own (Replies []) ready.leader

    handle_begins : acted s node PumpHandle text handle_none group None handle_own (Replies []) ready.leader
        ≡ reads_so s node PumpHandle text handle_none group None handle_own (Replies []) ready.leader (valid_at c met group)
    handle_begins = ap (unless_refused s handle_begin (new_operation its_id PumpHandle (clock_of met))) (not_refused s node PumpHandle full ((calm.calm).not_worn me (full_node c me full)) handle_none)
        ∙ (ap (λ logs. rests_within (length (groups_of handle_begin.met) + 2) s (picks_group s handle_begin (new_operation its_id PumpHandle (clock_of met)) [] (next_to_handle logs))) (logs_same me node its_id text (groups_of met))
        ∙ ap (λ found. rests_within (length (groups_of handle_begin.met) + 2) s (picks_group s handle_begin (new_operation its_id PumpHandle (clock_of met)) [] found)) picks)

    handle_finishes : (noted : Option Epoch) (found : List Met) → take (length log) (log_of found group) ≡ log → (hand : Now) (search : Option Search) → hand.met ≡ found
        → FinishesSo c me (start_of met) (next_number met) group log PumpHandle None (clock_of met) noted handle_own (Replies []) ready.leader h hand search
    handle_finishes noted found is hand search same none_asked =
        ap (λ t. cond t (Rests (ends hand its_id (LogFull (record { 0 = length log })))) (handles s hand o group r (length log) (oldest_unhandled (take (length log) (log_of hand.met group))))) (room_is group log n ready calm)
        ∙ (ap (λ l. handles s hand o group r (length log) (oldest_unhandled l)) whole
        ∙ (ap (handles s hand o group r (length log)) oldest
        ∙ (ap (λ t. cond t (Rests (proposes s hand o group r (length log) (handling s its_id group message (table_rows c.schema group (listed_at hand group (length log)))) (Replies []))) (Rests (ends hand its_id (NoHandler message.queue)))) there
        ∙ ap (λ l. Rests (proposes s hand o group r (length log) (handling s its_id group message (table_rows c.schema group (list_after l []))) (Replies []))) whole)))
      where
        o : Operation
        o = seeks s its_id group PumpHandle None (clock_of met) noted log handle_own (Replies []) ready.leader (Catching (length log) search)

        r : Reading
        r = reading s its_id group PumpHandle None (clock_of met) noted log handle_own (Replies []) ready.leader (Catching (length log) search)

        whole : take (length log) (log_of hand.met group) ≡ log
        whole = ap (λ (x : List Met). take (length log) (log_of x group)) same ∙ is

    pub message_is_handled : (most : ℕ) → is_cut (drained c h cuts (begun c h cuts now me PumpHandle text) most).tape ≡ false
        → Stands (DecideItem (number me) group (record { 0 = n }) (handled_by c.schema h group its_id message log)) (drained c h cuts (begun c h cuts now me PumpHandle text) most).tape
    message_is_handled most not_cut = subst (λ k. Stands (DecideItem (number me) group (record { 0 = k }) handle_own) last.tape) (sym (next_is c now me group log n ready calm.next)) committed_so.decides
      where
        last : Standing
        last = drained c h cuts (begun c h cuts now me PumpHandle text) most

        committed_so : IsCommitted c h cuts now me PumpHandle text group None handle_own (Replies []) log calm.calm in_order stocked full ready handle_begins handle_finishes last.tape
        committed_so = in_the_end c h cuts now me PumpHandle text group None handle_own (Replies []) log calm.calm in_order stocked full ready handle_begins handle_finishes most not_cut
