-- In every run each row that an answer shows fits its table, and each refusal in a batch is a word.
use Rattle.std.proofs.Common.{inl, inr, ◌-◌, List, [], ◌∷◌, ◌++◌, Option, Result, ap, subst}
use Rattle.std.specs.Prelude.{All}
use Rattle.mega_base.specs.declared.names.GroupId.{GroupId}
use Rattle.mega_base.specs.declared.names.OpId.{OpId}
use Rattle.mega_base.specs.declared.names.Position.{Position}
use Rattle.mega_cluster.specs.declared.cluster.Cluster.{Cluster}
use Rattle.mega_schema.specs.declared.schema.Schema.{Schema}
use Rattle.mega_handler.specs.Named.{Meanings}
use Rattle.mega_index.specs.Rows.{after, no_rows}
use Rattle.mega_outcome.specs.declared.answer.Answer.{Answer}
use Rattle.mega_outcome.specs.declared.answer.Answer.TheVariants as answers
use Rattle.mega_outcome.specs.declared.answer.Shown.{Shown}
use Rattle.mega_outcome.specs.declared.answer.Turn.{Turn}
use Rattle.mega_outcome.specs.declared.request.Request.{Request}
use Rattle.mega_outcome.specs.declared.request.Request.TheVariants.{Batch as BatchRequest, Find, PumpEnter, PumpHandle, Read as ReadRequested, Refresh, Txn}
use Rattle.mega_transcript.specs.declared.item.Item.{Item}
use Rattle.mega_transcript.specs.declared.item.Item.TheVariants.{Answer as AnswerItem}
use Rattle.mega_promises.specs.Causes.{HasResults, IsCause, front}
use Rattle.mega_promises.specs.Moments.{StoodOn}
use Rattle.mega_promises.specs.Promises.{Stands}
use Rattle.mega_promises.specs.Runs.{Happening, IsRun}
use Rattle.mega_tape_laws.specs.Indexed.{IsDeclared}
use Rattle.mega_tape_laws.specs.Lawful.{Lawful}
use Rattle.mega_tape_laws.specs.Writes.{AreWritten, LawfulWrites, Usage}
use Rattle.mega_run_laws.specs.Usages.{Fits}
use Rattle.mega_run_laws.proofs.Runs.{run_written}
use Rattle.mega_answer_laws.proofs.Runs.{run_answers}
use Rattle.mega_plain_laws.proofs.Turning.{AreWords, batch_words}
use Rattle.mega_format_laws.specs.Rounds.{Each}
use Rattle.mega_format_laws.proofs.Each.{all_of_each}
use Rattle.mega_shown_laws.specs.Fitting.{FitsTable, rows_of}
use Rattle.mega_shown_laws.proofs.Causes.{answer_shown}
use Rattle.mega_tape_laws.proofs.Earlier.{lawful_before}

-- ---- what stood before an item

pub record Stood (item : Item) (tape : List Item) : Type 0 where
  pub before : List Item
  pub on : StoodOn item before tape

stood : (item : Item) (tape : List Item) → Stands item tape → Stood item tape
stood item [] stands = absurd stands
stood item (other ∷ tape) (inl same) = record { before = tape; on = record { later = []; is = ap (λ x. x ∷ tape) same } }
stood item (other ∷ tape) (inr stands) =
    let more = stood item tape stands in
    record { before = more.before; on = record { later = other ∷ (more.on).later; is = ap (λ xs. other ∷ xs) (more.on).is } }

written_before : (s : Schema) (usage : Usage) (later before : List Item) → AreWritten s usage (later ++ before) → AreWritten s usage before
written_before s usage [] before h = h
written_before s usage (item ∷ later) before h = written_before s usage later before h.1

writes_before : (c : Cluster) (usage : Usage) (item : Item) (before tape : List Item) → StoodOn item before tape → LawfulWrites c usage tape → LawfulWrites c usage before
writes_before c usage item before tape on l = record {
  lawful = (lawful_before c on.later (item ∷ before) (subst (Lawful c) on.is l.lawful)).1;
  written = (written_before c.schema usage on.later (item ∷ before) (subst (AreWritten c.schema usage) on.is l.written)).1;
}

-- ---- answers of runs

-- an answer of a run has its cause on a lawful tape
pub record Caused (c : Cluster) (usage : Usage) (op : OpId) (answer : Answer) : Type 0 where
  pub handlers : Meanings
  pub before : List Item
  pub lawful : LawfulWrites c usage before
  pub request : Request
  pub cause : IsCause c handlers before op request answer

pub caused : (c : Cluster) (usage : Usage) (first : Meanings) (events : List Happening) (tape : List Item) → IsRun c first events tape → Fits usage events → (op : OpId) (answer : Answer) → Stands (AnswerItem op answer) tape → Caused c usage op answer
caused c usage first events tape run fits op answer stands =
    let at = stood (AnswerItem op answer) tape stands in
    let is = run_answers c usage first events tape run fits op answer at.before at.on in
    record {
      handlers = (is.event).handlers;
      before = at.before;
      lawful = writes_before c usage (AnswerItem op answer) at.before tape at.on (run_written c usage first events tape run fits);
      request = (is.cause).request;
      cause = (is.cause).cause;
    }

pub each_shown : (c : Cluster) (usage : Usage) (first : Meanings) (events : List Happening) (tape : List Item) → IsDeclared c.schema → IsRun c first events tape → Fits usage events
    → (op : OpId) (answer : Answer) → Stands (AnswerItem op answer) tape → Each (FitsTable c.schema) (rows_of answer)
each_shown c usage first events tape d run fits op answer stands =
    let is = caused c usage first events tape run fits op answer stands in
    answer_shown c usage is.before is.lawful d is.handlers op is.request answer is.cause

pub rows_shown_fit : (c : Cluster) (usage : Usage) (first : Meanings) (events : List Happening) (tape : List Item) → IsDeclared c.schema → IsRun c first events tape → Fits usage events
    → (op : OpId) (answer : Answer) → Stands (AnswerItem op answer) tape → All (FitsTable c.schema) (rows_of answer)
rows_shown_fit c usage first events tape d run fits op answer stands = all_of_each (FitsTable c.schema) (rows_of answer) (each_shown c usage first events tape d run fits op answer stands)

-- ---- refusals in a batch

results_words : (c : Cluster) (before : List Item) (request : Request) (group : GroupId) (n : Position) (results : List (Result (List (Option Shown)) Turn)) → HasResults c before request group n results → AreWords results
results_words c before (BatchRequest own transactions) group n results has = subst AreWords has (batch_words c.schema own transactions (after (front before group (n.0 - 1)) no_rows))
results_words c before (Txn transaction) group n results has = absurd has
results_words c before (ReadRequested request) group n results has = absurd has
results_words c before (Find request) group n results has = absurd has
results_words c before PumpEnter group n results has = absurd has
results_words c before PumpHandle group n results has = absurd has
results_words c before Refresh group n results has = absurd has

pub batch_refuses : (c : Cluster) (usage : Usage) (first : Meanings) (events : List Happening) (tape : List Item) → IsRun c first events tape → Fits usage events
    → (op : OpId) (n : Position) (results : List (Result (List (Option Shown)) Turn)) → Stands (AnswerItem op (answers.Batched n results)) tape → AreWords results
batch_refuses c usage first events tape run fits op n results stands =
    let is = caused c usage first events tape run fits op (answers.Batched n results) stands in
    results_words c is.before is.request (is.cause).0 n results (is.cause).4
