-- Transactions and pumps that begin where their group is valid and their node's log reaches as far as it can.
use Rattle.std.proofs.Common.{◌≡◌, ℕ, ◌≤◌, nat_le, true, false, cond, List, [], ◌∷◌, map, take, Some, None, Ok, refl, ap, ◌∙◌, subst, length, ◌+◌}
use Rattle.mega_base.specs.declared.names.GroupId.{GroupId}
use Rattle.mega_base.specs.declared.names.OpId.{OpId}
use Rattle.mega_cluster.specs.declared.cluster.Cluster.{Cluster}
use Rattle.mega_entry.specs.declared.content.Content.{Content}
use Rattle.mega_entry.specs.declared.content.Enter.{Enter}
use Rattle.mega_handler.specs.Named.{Meanings, has}
use Rattle.mega_index.specs.Rows.{after as rows_after, list_after, no_rows}
use Rattle.mega_outcome.specs.declared.answer.Answer.TheVariants.{Committed, LogFull, NoHandler}
use Rattle.mega_outcome.specs.declared.answer.Done.{Done}
use Rattle.mega_outcome.specs.declared.request.Request.TheVariants.{PumpEnter, PumpHandle, Txn}
use Rattle.mega_outcome.specs.declared.transaction.Transaction.{Transaction}
use Rattle.mega_outcome.specs.Outcome.{entry_of_done, outcome}
use Rattle.mega_leased_laws.specs.of_run_laws.of_tape_laws.of_promises.of_rules.of_read.declared.reading.Reading.{Reading}
use Rattle.mega_leased_laws.specs.of_run_laws.of_tape_laws.of_promises.of_rules.of_read.declared.reading.Stage.TheVariants.{Catching}
use Rattle.mega_leased_laws.specs.of_run_laws.of_tape_laws.of_promises.of_rules.of_replica.Applying.{applied_log}
use Rattle.mega_leased_laws.specs.of_run_laws.of_tape_laws.of_promises.of_transcript.declared.item.Item.TheVariants.{Answer as AnswerItem, Decide as DecideItem}
use Rattle.mega_leased_laws.specs.of_run_laws.of_tape_laws.of_promises.of_rules.Acting.{Rests, applied_logs, ends, enters, handles, handling, listed_at, picks_group, picks_message, picks_to_enter, proposes, rests_within, rows_at, sealed, table_rows}
use Rattle.mega_leased_laws.specs.of_run_laws.of_tape_laws.of_promises.of_rules.Clock.{clock_of}
use Rattle.mega_leased_laws.specs.of_run_laws.of_tape_laws.of_promises.of_rules.Coordinators.{valid_at}
use Rattle.mega_leased_laws.specs.of_run_laws.of_tape_laws.of_promises.of_rules.Logs.{groups_of, log_of, prefix_of}
use Rattle.mega_leased_laws.specs.of_run_laws.of_tape_laws.of_promises.of_rules.Members.{is_full}
use Rattle.mega_leased_laws.specs.of_run_laws.of_tape_laws.of_promises.of_rules.Met.{Met, Begins}
use Rattle.mega_leased_laws.specs.of_run_laws.of_tape_laws.of_promises.of_rules.Operations.{Node, Now, Operation, Replies, Setting}
use Rattle.mega_leased_laws.specs.of_run_laws.of_tape_laws.of_promises.of_rules.Queues.{Log, Posted, enter_entry, is_named, names_entered, next_to_enter, next_to_handle, oldest_unhandled}
use Rattle.mega_leased_laws.specs.of_run_laws.of_tape_laws.of_promises.of_rules.Steps.{new_operation, op_of, unless_refused}
use Rattle.mega_leased_laws.specs.of_run_laws.of_tape_laws.of_promises.Calm.{IsCalm, begun, first_now, is_cut}
use Rattle.mega_leased_laws.specs.of_run_laws.of_tape_laws.of_promises.Items.{number}
use Rattle.mega_leased_laws.specs.of_run_laws.of_tape_laws.of_promises.Promises.{Stands, handled_by}
use Rattle.mega_leased_laws.specs.of_run_laws.of_tape_laws.of_promises.Runs.{Cuts, Standing, drained, setting}
use Rattle.mega_calm_laws.specs.Next.{IsNextAt}
use Rattle.mega_calm_laws.specs.Waiting.{IsNumbered}
use Rattle.mega_calm_laws.proofs.AtOnce.{above_not, acted, at_once_committed, at_once_decided, begin, begins_log, complete, reading, reads, reads_so, take_all}
use Rattle.mega_calm_laws.proofs.Beginning.{full_node, not_refused}

-- ---- what was applied, with one thing more met

logs_same : (me : ℕ) (node : Node) (op : OpId) (text : List ℕ) (os : List Operation) (gs : List GroupId)
    → map (λ g. record { group = g; entries = applied_log (log_of (Begins op text ∷ node.met) g) (node.stored g) }) gs ≡ map {B = Log} (λ g. record { group = g; entries = applied_log (log_of node.met g) (node.stored g) }) gs
logs_same me node op text os [] = refl
logs_same me node op text os (g ∷ gs) = λ i. record { group = g; entries = applied_log (begins_log op text node.met g i) (node.stored g) } ∷ logs_same me node op text os gs i

module _ (c : Cluster) (h : Meanings) (cuts : Cuts) (now : Standing) (me : ℕ) (text : List ℕ) (in_order : IsNumbered now.tape) (full : is_full c me ≡ true) (n leader : ℕ) where
  abbrev s : Setting
  s = setting c h me

  abbrev node : Node
  node = now.node me

  abbrev met : List Met
  met = (now.node me).met

  abbrev its_id : OpId
  its_id = op_of (setting c h me) (now.node me).met

  room_is : (g : GroupId) → IsNextAt c now me g n leader → nat_le (c.limit).0 (prefix_of met g) ≡ false
  room_is g is = above_not (c.limit).0 (prefix_of met g) (subst (λ k. k ≤ (c.limit).0) is.next is.room)

  -- its log is the whole log of its node
  whole_log : (g : GroupId) → take (prefix_of met g) (log_of (Begins its_id text ∷ met) g) ≡ log_of met g
  whole_log g = ap (take (prefix_of met g)) (begins_log its_id text met g) ∙ take_all (log_of met g)

  -- ---- transactions

  module _ (transaction : Transaction) (calm : IsCalm c now transaction.group) (valid : valid_at c met transaction.group ≡ true) (is : IsNextAt c now me transaction.group n leader) (done : Done)
      (comes : outcome c.schema transaction (rows_after (log_of met transaction.group) no_rows) ≡ Ok done) where
    abbrev txn_own : Content
    txn_own = entry_of_done its_id done

    txn_begins : acted s node (Txn transaction) text (calm.none_open me (full_node c me full)) transaction.group None txn_own (Replies done.replies) leader
        ≡ reads_so s node (Txn transaction) text (calm.none_open me (full_node c me full)) transaction.group None txn_own (Replies done.replies) leader true
    txn_begins = ap (unless_refused s (begin s node (Txn transaction) text (calm.none_open me (full_node c me full)) transaction.group None txn_own (Replies done.replies) leader) (new_operation its_id (Txn transaction) (clock_of met)))
        (not_refused s node (Txn transaction) full (calm.not_worn me (full_node c me full)) (calm.none_open me (full_node c me full)))
        ∙ ap (reads_so s node (Txn transaction) text (calm.none_open me (full_node c me full)) transaction.group None txn_own (Replies done.replies) leader) valid

    abbrev txn_hand : Now
    txn_hand = complete s node (Txn transaction) text (calm.none_open me (full_node c me full)) transaction.group None txn_own (Replies done.replies) leader (prefix_of met transaction.group)

    abbrev txn_reads : Operation
    txn_reads = reads s node (Txn transaction) text (calm.none_open me (full_node c me full)) transaction.group None txn_own (Replies done.replies) leader (prefix_of met transaction.group)

    pub transaction_committed : (most : ℕ) → is_cut (drained c h cuts (begun c h cuts now me (Txn transaction) text) most).tape ≡ false
        → Stands (AnswerItem its_id (Committed (record { 0 = n }) done.replies)) (drained c h cuts (begun c h cuts now me (Txn transaction) text) most).tape
    transaction_committed most = at_once_committed c h cuts now me (Txn transaction) text transaction.group None txn_own (Replies done.replies) calm in_order full n leader is txn_begins
        (ap (λ t. cond t (Rests (ends txn_hand its_id (LogFull (record { 0 = prefix_of met transaction.group }))))
        (Rests (sealed s txn_hand txn_reads transaction.group (reading s node (Txn transaction) text (calm.none_open me (full_node c me full)) transaction.group None txn_own (Replies done.replies) leader (prefix_of met transaction.group)) (prefix_of met transaction.group)
        (outcome c.schema transaction (rows_at txn_hand transaction.group (prefix_of met transaction.group)))))) (room_is transaction.group is)
        ∙ ap (λ result. Rests (sealed s txn_hand txn_reads transaction.group (reading s node (Txn transaction) text (calm.none_open me (full_node c me full)) transaction.group None txn_own (Replies done.replies) leader (prefix_of met transaction.group)) (prefix_of met transaction.group) result))
        (ap (λ log. outcome c.schema transaction (rows_after log no_rows)) (whole_log transaction.group) ∙ comes))
        most refl

  -- ---- pumps

  module _ (one : Posted) (calm : IsCalm c now one.to) (valid : valid_at c met one.to ≡ true) (is : IsNextAt c now me one.to n leader)
      (picks : next_to_enter its_id (applied_logs (first_now now me)) ≡ Some one) (fresh : is_named (one.message).name (names_entered (log_of met one.to)) ≡ false) where
    abbrev enter_own : Content
    enter_own = enter_entry its_id one.message

    abbrev enter_begin : Now
    enter_begin = begin s node PumpEnter text (calm.none_open me (full_node c me full)) one.to (Some one.message) enter_own (Replies []) leader

    abbrev enter_hand : Now
    enter_hand = complete s node PumpEnter text (calm.none_open me (full_node c me full)) one.to (Some one.message) enter_own (Replies []) leader (prefix_of met one.to)

    abbrev enter_reads : Operation
    enter_reads = reads s node PumpEnter text (calm.none_open me (full_node c me full)) one.to (Some one.message) enter_own (Replies []) leader (prefix_of met one.to)

    abbrev enter_reading : Reading
    enter_reading = record { noted = None; asked = []; stage = Catching (prefix_of met one.to) None }

    enter_begins : acted s node PumpEnter text (calm.none_open me (full_node c me full)) one.to (Some one.message) enter_own (Replies []) leader
        ≡ reads_so s node PumpEnter text (calm.none_open me (full_node c me full)) one.to (Some one.message) enter_own (Replies []) leader true
    enter_begins = ap (unless_refused s enter_begin (new_operation its_id PumpEnter (clock_of met))) (not_refused s node PumpEnter full (calm.not_worn me (full_node c me full)) (calm.none_open me (full_node c me full)))
        ∙ (ap (λ logs. rests_within (length (groups_of enter_begin.met) + 2) s (picks_message s enter_begin (new_operation its_id PumpEnter (clock_of met)) [] (next_to_enter its_id logs))) (logs_same me node its_id text node.open_operations (groups_of met))
        ∙ (ap (λ found. rests_within (length (groups_of enter_begin.met) + 2) s (picks_message s enter_begin (new_operation its_id PumpEnter (clock_of met)) [] found)) picks
        ∙ ap (reads_so s node PumpEnter text (calm.none_open me (full_node c me full)) one.to (Some one.message) enter_own (Replies []) leader) valid))

    pub pump_enters : (most : ℕ) → is_cut (drained c h cuts (begun c h cuts now me PumpEnter text) most).tape ≡ false
        → Stands (DecideItem (number me) one.to (record { 0 = n }) (enter_entry its_id one.message)) (drained c h cuts (begun c h cuts now me PumpEnter text) most).tape
    pump_enters most = at_once_decided c h cuts now me PumpEnter text one.to (Some one.message) enter_own (Replies []) calm in_order full n leader is enter_begins
        (ap (λ t. cond t (Rests (ends enter_hand its_id (LogFull (record { 0 = prefix_of met one.to })))) (enters s enter_hand enter_reads one.to enter_reading (prefix_of met one.to) (Some one.message))) (room_is one.to is)
        ∙ ap (λ t. cond t (picks_to_enter s enter_hand enter_reads []) (Rests (proposes s enter_hand enter_reads one.to enter_reading (prefix_of met one.to) enter_own (Replies []))))
        (ap (λ log. is_named (one.message).name (names_entered log)) (whole_log one.to) ∙ fresh))
        most

  module _ (group : GroupId) (message : Enter) (calm : IsCalm c now group) (valid : valid_at c met group ≡ true) (is : IsNextAt c now me group n leader)
      (picks : next_to_handle (applied_logs (first_now now me)) ≡ Some group) (oldest : oldest_unhandled (log_of met group) ≡ Some message) (there : has h message.queue ≡ true) where
    abbrev handle_own : Content
    handle_own = handled_by c.schema h group its_id message (log_of met group)

    abbrev handle_begin : Now
    handle_begin = begin s node PumpHandle text (calm.none_open me (full_node c me full)) group None handle_own (Replies []) leader

    abbrev handle_hand : Now
    handle_hand = complete s node PumpHandle text (calm.none_open me (full_node c me full)) group None handle_own (Replies []) leader (prefix_of met group)

    abbrev handle_reads : Operation
    handle_reads = reads s node PumpHandle text (calm.none_open me (full_node c me full)) group None handle_own (Replies []) leader (prefix_of met group)

    abbrev handle_reading : Reading
    handle_reading = record { noted = None; asked = []; stage = Catching (prefix_of met group) None }

    handle_begins : acted s node PumpHandle text (calm.none_open me (full_node c me full)) group None handle_own (Replies []) leader
        ≡ reads_so s node PumpHandle text (calm.none_open me (full_node c me full)) group None handle_own (Replies []) leader true
    handle_begins = ap (unless_refused s handle_begin (new_operation its_id PumpHandle (clock_of met))) (not_refused s node PumpHandle full (calm.not_worn me (full_node c me full)) (calm.none_open me (full_node c me full)))
        ∙ (ap (λ logs. rests_within (length (groups_of handle_begin.met) + 2) s (picks_group s handle_begin (new_operation its_id PumpHandle (clock_of met)) [] (next_to_handle logs))) (logs_same me node its_id text node.open_operations (groups_of met))
        ∙ (ap (λ found. rests_within (length (groups_of handle_begin.met) + 2) s (picks_group s handle_begin (new_operation its_id PumpHandle (clock_of met)) [] found)) picks
        ∙ ap (reads_so s node PumpHandle text (calm.none_open me (full_node c me full)) group None handle_own (Replies []) leader) valid))

    pub pump_handles : (most : ℕ) → is_cut (drained c h cuts (begun c h cuts now me PumpHandle text) most).tape ≡ false
        → Stands (DecideItem (number me) group (record { 0 = n }) (handled_by c.schema h group its_id message (log_of met group))) (drained c h cuts (begun c h cuts now me PumpHandle text) most).tape
    pump_handles most = at_once_decided c h cuts now me PumpHandle text group None handle_own (Replies []) calm in_order full n leader is handle_begins
        (ap (λ t. cond t (Rests (ends handle_hand its_id (LogFull (record { 0 = prefix_of met group })))) (handles s handle_hand handle_reads group handle_reading (prefix_of met group) (oldest_unhandled (take (prefix_of met group) (log_of (Begins its_id text ∷ met) group))))) (room_is group is)
        ∙ (ap (λ log. handles s handle_hand handle_reads group handle_reading (prefix_of met group) (oldest_unhandled log)) (whole_log group)
        ∙ (ap (handles s handle_hand handle_reads group handle_reading (prefix_of met group)) oldest
        ∙ (ap (λ t. cond t (Rests (proposes s handle_hand handle_reads group handle_reading (prefix_of met group) (handling s its_id group message (table_rows c.schema group (listed_at handle_hand group (prefix_of met group)))) (Replies []))) (Rests (ends handle_hand its_id (NoHandler message.queue)))) there
        ∙ ap (λ log. Rests (proposes s handle_hand handle_reads group handle_reading (prefix_of met group) (handling s its_id group message (table_rows c.schema group (list_after log []))) (Replies []))) (whole_log group)))))
        most
