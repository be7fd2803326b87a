-- What a transaction, and a batch of them, comes to over the rows of their group.
use Rattle.std.specs.Prelude.{ℕ, ◌+◌, ◌==◌, max, nat_lt, if◌then◌else◌, List, [], ◌∷◌, ◌++◌, length, fold, Result, Ok, Err}
use Rattle.mega_base.specs.declared.names.GroupId.{GroupId}
use Rattle.mega_base.specs.declared.names.OpId.{OpId}
use Rattle.mega_index.specs.of_entry.declared.content.Write.{Write}
use Rattle.mega_index.specs.of_entry.declared.content.Send.{Send}
use Rattle.mega_index.specs.of_entry.declared.content.Cut.{Cut}
use Rattle.mega_index.specs.of_entry.declared.content.Content.{Content}
use Rattle.mega_index.specs.of_entry.Entries.{entry_text, entry_by}
use Rattle.mega_index.specs.of_schema.declared.schema.Schema.{Schema}
use Rattle.mega_index.specs.Rows.{Rows, written}
use Rattle.mega_index.specs.Fitted.{most_bytes, entry_of, enter_length, send_fits}
use Rattle.mega_outcome.specs.declared.answer.Turn.{Turn}
use Rattle.mega_outcome.specs.declared.answer.Turn.TheVariants.{BadRow, TooLarge}
use Rattle.mega_outcome.specs.declared.answer.Done.{Done}
use Rattle.mega_outcome.specs.declared.answer.Batch.{Batch}
use Rattle.mega_outcome.specs.declared.transaction.Transaction.{Transaction}
use Rattle.mega_outcome.specs.Places.{◌>>=◌}
use Rattle.mega_outcome.specs.Checks.{all_checks}
use Rattle.mega_outcome.specs.Reads.{all_reads}
use Rattle.mega_outcome.specs.Changes.{all_changes}

-- sends from item i on, each to a group of the schema under a name that a queue may have
abbrev pub all_sends : Schema → ℕ → List Send → Result (Unit {0}) Turn
all_sends s i [] = Ok tt
all_sends s i (send ∷ sends) = if send_fits s send then all_sends s (i + 1) sends else Err (BadRow i)

-- the length of an operation's entry with these writes, sends and cuts
abbrev pub entry_length : List Write → List Send → List Cut → ℕ
entry_length writes sends cuts = length (entry_text (entry_of writes sends [] cuts))

-- the length of the longest entry that comes of a transaction: its own, or one that enters a message of it
abbrev pub longest : List ℕ → List Write → List Send → ℕ
longest group writes sends = fold (λ most send. max most (enter_length group send)) (entry_length writes sends []) sends

-- what is done, unless an entry would be too long
abbrev pub unless_large : ℕ → Done → Result Done Turn
unless_large bytes done = if nat_lt most_bytes bytes then Err (TooLarge bytes) else Ok done

-- the items are numbered from 0 through checks, reads, writes and sends
abbrev pub first_read : Transaction → ℕ
first_read txn = length txn.checks

abbrev pub first_change : Transaction → ℕ
first_change txn = first_read txn + length txn.reads

abbrev pub first_send : Transaction → ℕ
first_send txn = first_change txn + length txn.writes

-- what a transaction comes to in a group, or the refusal of its first item that fails
abbrev pub outcome_in : Schema → List ℕ → Transaction → Rows → Result Done Turn
outcome_in s group txn rows =
    all_checks s group rows 0 txn.checks >>= λ _.
    all_reads s group rows (first_read txn) txn.reads >>= λ replies.
    all_changes s group rows (first_change txn) txn.writes >>= λ writes.
    all_sends s (first_send txn) txn.sends >>= λ _.
    unless_large (longest group writes txn.sends) (record { replies = replies; writes = writes; sends = txn.sends })

abbrev pub outcome : Schema → Transaction → Rows → Result Done Turn
outcome s txn rows = outcome_in s txn.group.key txn rows

-- the cuts of a batch's entry: none where transaction 0 alone was taken
abbrev pub entry_cuts : List Cut → List Cut
entry_cuts (cut ∷ []) = if cut.index == 0 then [] else cut ∷ []
entry_cuts cuts = cuts

-- a batch of which no transaction was looked at
abbrev pub no_batch : Batch
no_batch = record { results = []; writes = []; sends = []; cuts = [] }

-- the next transaction is left out with its refusal
abbrev pub left_out : Batch → Turn → Batch
left_out b turn = record b { results = b.results ++ Err turn ∷ [] }

-- the next transaction is taken
abbrev pub taken : Batch → Done → Batch
taken b done = record {
  results = b.results ++ Ok done.replies ∷ [];
  writes = b.writes ++ done.writes;
  sends = b.sends ++ done.sends;
  cuts = b.cuts ++ (record { index = length b.results; writes = length done.writes; sends = length done.sends }) ∷ [];
}

abbrev pub batch_length : Batch → ℕ
batch_length b = entry_length b.writes b.sends (entry_cuts b.cuts)

-- it is left out where the batch's entry would be too long with it
abbrev pub taken_unless_large : Batch → Batch → Batch
taken_unless_large b larger = if nat_lt most_bytes (batch_length larger) then left_out b (TooLarge (batch_length larger)) else larger

abbrev pub with_result : Batch → Result Done Turn → Batch
with_result b (Err turn) = left_out b turn
with_result b (Ok done) = taken_unless_large b (taken b done)

-- the next transaction, on the rows as the earlier ones that were taken left them
abbrev pub with_next : Schema → List ℕ → Rows → Batch → Transaction → Batch
with_next s group rows b txn = with_result b (outcome_in s group txn (written b.writes rows))

-- all transactions of a batch, one after another, with a cut for each that was taken
abbrev pub with_all : Schema → List ℕ → List Transaction → Rows → Batch
with_all s group txns rows = fold (with_next s group rows) no_batch txns

abbrev pub batch_outcome : Schema → GroupId → List Transaction → Rows → Batch
batch_outcome s group txns rows =
    let all = with_all s group.key txns rows in
    record all { cuts = entry_cuts all.cuts }

-- the entry of an operation that does this
abbrev pub entry_of_done : OpId → Done → Content
entry_of_done op done = record (entry_by op) { writes = done.writes; sends = done.sends }

abbrev pub entry_of_batch : OpId → Batch → Content
entry_of_batch op batch = record (entry_by op) { writes = batch.writes; sends = batch.sends; cuts = batch.cuts }
