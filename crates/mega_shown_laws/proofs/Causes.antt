-- What has its cause on a lawful tape shows rows that fit their tables.
use Rattle.std.proofs.Common.{◌≡◌, ℕ, ◌-◌, List, [], ◌∷◌, flat_map, refl, sym, ap, subst, Option, Result, Ok, Err}
use Rattle.mega_base.specs.declared.names.GroupId.{GroupId}
use Rattle.mega_base.specs.declared.names.OpId.{OpId}
use Rattle.mega_base.specs.declared.names.Position.{Position}
use Rattle.mega_cluster.specs.declared.cluster.Cluster.{Cluster}
use Rattle.mega_schema.specs.declared.schema.Schema.{Schema}
use Rattle.mega_handler.specs.Named.{Meanings}
use Rattle.mega_index.specs.Rows.{Listed, Rows, after, list_written, no_rows, written}
use Rattle.mega_outcome.specs.declared.answer.Answer.{Answer}
use Rattle.mega_outcome.specs.declared.answer.Answer.TheVariants as answers
use Rattle.mega_outcome.specs.declared.answer.Shown.{Shown}
use Rattle.mega_outcome.specs.declared.answer.Turn.{Turn}
use Rattle.mega_outcome.specs.declared.request.Mode.{Mode}
use Rattle.mega_outcome.specs.declared.request.Mode.TheVariants.{Current, Inconsistent, Snapshot}
use Rattle.mega_outcome.specs.declared.request.ReadRequest.{ReadRequest}
use Rattle.mega_outcome.specs.declared.request.Request.{Request}
use Rattle.mega_outcome.specs.declared.request.Request.TheVariants.{Batch as BatchRequest, Find, PumpEnter, PumpHandle, Read as ReadRequested, Refresh, Txn}
use Rattle.mega_outcome.specs.declared.transaction.RowRef.{RowRef}
use Rattle.mega_outcome.specs.declared.transaction.Transaction.{Transaction}
use Rattle.mega_outcome.specs.Outcome.{batch_outcome, first_read}
use Rattle.mega_outcome.specs.Reads.{all_rows, read_rows}
use Rattle.mega_replica.specs.Applying.{stored_writes}
use Rattle.mega_transcript.specs.declared.item.Item.{Item}
use Rattle.mega_rules.specs.Acting.{rows_answer}
use Rattle.mega_promises.specs.Causes.{AreTurned, HasReplies, HasResults, IsCause, ShowsRead, front}
use Rattle.mega_promises.specs.Moments.{applied_on}
use Rattle.mega_promises.specs.Promises.{log_of, rows_shown}
use Rattle.mega_tape_laws.specs.Indexed.{IsDeclared}
use Rattle.mega_tape_laws.specs.Writes.{LawfulWrites, Usage}
use Rattle.mega_tape_laws.proofs.FittingLogs.{log_fits}
use Rattle.mega_format_laws.specs.Rounds.{Each}
use Rattle.mega_format_laws.proofs.Each.{each_flat}
use Rattle.mega_shown_laws.specs.Fitting.{FitsTable, replies_of, rows_of}
use Rattle.mega_shown_laws.proofs.Outcomes.{ShowsFitting, batch_fits, parts_of, reads_fit}
use Rattle.mega_shown_laws.proofs.Rows.{rows_shown_fit, stored_reads_fit, stored_rows_fit}

abbrev Replies : Type 0
Replies = List (Option Shown)

of_rows : (p : ℕ) (n : Position) (result : Result Replies Turn) (rows : Replies) → rows_answer p result ≡ answers.Read n rows → result ≡ Ok rows
of_rows p n (Ok shown) rows h = let same : shown ≡ rows = cc in ap Ok same
of_rows p n (Err turn) rows h = absurd (cc)

result_fits : (s : Schema) (result : Result Replies Turn) → ShowsFitting s result → Each (FitsTable s) (replies_of result)
result_fits s (Ok replies) fit = fit
result_fits s (Err turn) fit = tt

results_fit : (s : Schema) (results : List (Result Replies Turn)) → Each (ShowsFitting s) results → Each (FitsTable s) (flat_map replies_of results)
results_fit s results each = each_flat (ShowsFitting s) (FitsTable s) replies_of (λ result fit. result_fits s result fit) results each

module _ (c : Cluster) (usage : Usage) (before : List Item) (l : LawfulWrites c usage before) (d : IsDeclared c.schema) where
  -- an inconsistent read's answer, by the rows that it names
  abbrev answered : ReadRequest → ℕ → Rows → Listed → List RowRef → Answer
  answered request p rows listed [] = answers.Read (record { 0 = p }) (all_rows c.schema request.group listed)
  answered request p rows listed (row ∷ more) = rows_answer p (read_rows c.schema request.group (row ∷ more) rows)

  stored_shown : (request : ReadRequest) (count p : ℕ) (refs : List RowRef) (n : Position) (rows : Replies)
      → answered request p (written (stored_writes (log_of before request.group) count) no_rows) (list_written (stored_writes (log_of before request.group) count) []) refs ≡ answers.Read n rows → Each (FitsTable c.schema) rows
  stored_shown request count p [] n rows h =
      let all : all_rows c.schema request.group (list_written (stored_writes (log_of before request.group) count) []) ≡ rows = cc in
      subst (Each (FitsTable c.schema)) all (stored_rows_fit c usage before l d request.group count)
  stored_shown request count p (row ∷ refs) n rows h =
      stored_reads_fit c usage before l d request.group count 0 (row ∷ refs) rows
      (of_rows p n (read_rows c.schema request.group (row ∷ refs) (written (stored_writes (log_of before request.group) count) no_rows)) rows h)

  front_shown : (request : ReadRequest) (p : ℕ) (n : Position) (rows : Replies) → rows_answer p (rows_shown c.schema request (front before request.group p) request.rows) ≡ answers.Read n rows → Each (FitsTable c.schema) rows
  front_shown request p n rows h =
      rows_shown_fit c usage before l d request.group request refl p request.rows rows (of_rows p n (rows_shown c.schema request (front before request.group p) request.rows) rows h)

  read_shown : (op : OpId) (request : ReadRequest) (mode : Mode) (n : Position) (rows : Replies) → ShowsRead c before op request mode (answers.Read n rows) → Each (FitsTable c.schema) rows
  read_shown op request Current n rows shows = front_shown request shows.0 n rows shows.2
  read_shown op request Snapshot n rows shows = front_shown request (applied_on before op.node request.group) n rows shows
  read_shown op request Inconsistent n rows shows = stored_shown request shows.stored (applied_on before op.node request.group) request.rows n rows shows.shows

  batch_shown : (own group : GroupId) (p : ℕ) (transactions : List Transaction) (results : List (Result Replies Turn)) → (batch_outcome c.schema own transactions (after (front before group p) no_rows)).results ≡ results
      → Each (FitsTable c.schema) (flat_map replies_of results)
  batch_shown own group p transactions results same =
      subst (λ found. Each (FitsTable c.schema) (flat_map replies_of found)) same
      (results_fit c.schema (batch_outcome c.schema own transactions (after (front before group p) no_rows)).results
      (batch_fits c.schema d own.key (after (front before group p) no_rows) transactions (log_fits c usage before l d group p)).shows)

  committed_shown : (request : Request) (group : GroupId) (n : Position) (replies : Replies) → HasReplies c before request group n replies → Each (FitsTable c.schema) replies
  committed_shown (Txn transaction) group n replies has =
      let rows = after (front before group (n.0 - 1)) no_rows in
      subst (Each (FitsTable c.schema)) has.2
      (reads_fit c.schema transaction.group.key rows (log_fits c usage before l d group (n.0 - 1)) (first_read transaction) transaction.reads (has.0).replies (parts_of c.schema transaction.group.key rows transaction has.0 has.1).reads)
  committed_shown (BatchRequest group transactions) other n replies has = absurd has
  committed_shown (ReadRequested request) group n replies has = absurd has
  committed_shown (Find request) group n replies has = absurd has
  committed_shown PumpEnter group n replies has = subst (Each (FitsTable c.schema)) (sym has) tt
  committed_shown PumpHandle group n replies has = subst (Each (FitsTable c.schema)) (sym has) tt
  committed_shown Refresh group n replies has = absurd has

  batched_shown : (request : Request) (group : GroupId) (n : Position) (results : List (Result Replies Turn)) → HasResults c before request group n results → Each (FitsTable c.schema) (flat_map replies_of results)
  batched_shown (BatchRequest own transactions) group n results has = batch_shown own group (n.0 - 1) transactions results has
  batched_shown (Txn transaction) group n results has = absurd has
  batched_shown (ReadRequested request) group n results has = absurd has
  batched_shown (Find request) group n results has = absurd has
  batched_shown PumpEnter group n results has = absurd has
  batched_shown PumpHandle group n results has = absurd has
  batched_shown Refresh group n results has = absurd has

  turned_shown : (request : Request) (results : List (Result Replies Turn)) → AreTurned c before request results → Each (FitsTable c.schema) (flat_map replies_of results)
  turned_shown (BatchRequest group transactions) results has = batch_shown group group has.0 transactions results has.2
  turned_shown (Txn transaction) results has = absurd has
  turned_shown (ReadRequested request) results has = absurd has
  turned_shown (Find request) results has = absurd has
  turned_shown PumpEnter results has = absurd has
  turned_shown PumpHandle results has = absurd has
  turned_shown Refresh results has = absurd has

  reads_shown : (h : Meanings) (op : OpId) (request : Request) (n : Position) (rows : Replies) → IsCause c h before op request (answers.Read n rows) → Each (FitsTable c.schema) rows
  reads_shown h op (ReadRequested request) n rows cause = read_shown op request request.mode n rows cause
  reads_shown h op (Txn transaction) n rows cause = absurd cause
  reads_shown h op (BatchRequest group transactions) n rows cause = absurd cause
  reads_shown h op (Find request) n rows cause = absurd cause
  reads_shown h op PumpEnter n rows cause = absurd cause
  reads_shown h op PumpHandle n rows cause = absurd cause
  reads_shown h op Refresh n rows cause = absurd cause

  pub answer_shown : (h : Meanings) (op : OpId) (request : Request) (answer : Answer) → IsCause c h before op request answer → Each (FitsTable c.schema) (rows_of answer)
  answer_shown h op request (answers.Committed n replies) cause = committed_shown request cause.0 n replies cause.4
  answer_shown h op request (answers.Batched n results) cause = batched_shown request cause.0 n results cause.4
  answer_shown h op request (answers.AllTurned results) cause = turned_shown request results cause
  answer_shown h op request (answers.Read n rows) cause = reads_shown h op request n rows cause
  answer_shown h op request (answers.Conflict n other) cause = tt
  answer_shown h op request (answers.Turned turn) cause = tt
  answer_shown h op request answers.Unknown cause = tt
  answer_shown h op request answers.TimedOut cause = tt
  answer_shown h op request (answers.Found marks found) cause = tt
  answer_shown h op request (answers.Refreshed marks) cause = tt
  answer_shown h op request (answers.LogFull n) cause = tt
  answer_shown h op request (answers.Busy count) cause = tt
  answer_shown h op request answers.Worn cause = tt
  answer_shown h op request (answers.NotHere kind) cause = tt
  answer_shown h op request (answers.NothingToDo marks) cause = tt
  answer_shown h op request (answers.NoHandler queue) cause = tt
