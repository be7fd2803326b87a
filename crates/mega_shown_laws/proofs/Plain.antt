-- What shows rows that fit is plain, and so is every item of a run.
use Rattle.std.proofs.Common.{◌≡◌, ℕ, Bool, true, false, List, [], ◌∷◌, ◌++◌, flat_map, Option, Some, None, Result, Ok, Err, inl, inr, refl}
use Rattle.std.specs.Prelude.{All, is_ok, is_none}
use Rattle.std.specs.List.{AllByRecursion}
use Rattle.std.proofs.lemmas.Bool.{and_parts}
use Rattle.mega_base.specs.declared.names.OpId.{OpId}
use Rattle.mega_base.specs.declared.names.Position.{Position}
use Rattle.mega_base.specs.declared.values.Row.{Row}
use Rattle.mega_cluster.specs.declared.cluster.Cluster.{Cluster}
use Rattle.mega_handler.specs.Named.{Meanings}
use Rattle.mega_schema.specs.declared.schema.Schema.{Schema}
use Rattle.mega_schema.specs.declared.schema.Table.{Table}
use Rattle.mega_index.specs.Cells.{key_values}
use Rattle.mega_index.specs.Fits.{cells_fit, fits_in, has_place, has_required, key_of, long_key, numbered, properties_fit}
use Rattle.mega_outcome.specs.declared.answer.Answer.{Answer}
use Rattle.mega_outcome.specs.declared.answer.Answer.TheVariants as answers
use Rattle.mega_outcome.specs.declared.answer.Shown.{Shown}
use Rattle.mega_outcome.specs.declared.answer.Turn.{Turn}
use Rattle.mega_transcript.specs.declared.item.Item.{Item}
use Rattle.mega_transcript.specs.declared.item.Item.TheVariants.{Start, Unsent, Tick, Begin, Taken, Dropped, Sent, Grant, Lapse, Counts, Forgets, Serving, Lost, Valid, Invalid, Decide, Apply, Answer as AnswerItem, Crash, Cut, Unsafe}
use Rattle.mega_transcript.specs.Plain.{IsPlain}
use Rattle.mega_transcript.specs.PlainRows.{ArePlainIn, ArePlainResults, ArePlainRows}
use Rattle.mega_promises.specs.Promises.{Stands}
use Rattle.mega_promises.specs.Runs.{Happening, IsRun}
use Rattle.mega_format_laws.specs.Histories.{IsCluster}
use Rattle.mega_format_laws.specs.Rounds.{Each}
use Rattle.mega_format_laws.proofs.Each.{all_of_each, each_of_all}
use Rattle.mega_plain_laws.specs.Answers.{IsNamed, shows_rows}
use Rattle.mega_plain_laws.specs.Formed.{AreFormed, is_of_rows}
use Rattle.mega_plain_laws.specs.of_field_ranges.Held.{HoldsCell, HoldsItem, HoldsResult, HoldsRows}
use Rattle.mega_plain_laws.proofs.Plain.{items_plain, plain_cells, plain_turn}
use Rattle.mega_plain_laws.proofs.Showing.{each_stands}
use Rattle.mega_plain_laws.proofs.Turning.{AreWords}
use Rattle.mega_tape_laws.specs.Indexed.{IsDeclared}
use Rattle.mega_tape_laws.specs.Writes.{Usage}
use Rattle.mega_run_laws.specs.Usages.{Fits}
use Rattle.mega_shown_laws.specs.Fitting.{FitsTable, replies_of, rows_of}
use Rattle.mega_shown_laws.proofs.Runs.{batch_refuses, each_shown}

-- ---- rows

plain_in : (k : Schema) → IsNamed k → (n : ℕ) (o : Option Table) (row : Row) → numbered k.tables n ≡ o → fits_in k n o row ≡ true → AllByRecursion HoldsCell row.cells → ArePlainIn k n o row.cells
plain_in k named n None row at fit held = cc
plain_in k named n (Some t) row at fit held =
    let placed = and_parts (has_place k n t row) (is_none (long_key k n t row)) fit in
    let owned = and_parts (properties_fit t row) (is_ok (key_of k n t (key_values t.primary row))) placed.0 in
    let cells = and_parts (cells_fit t.properties 0 row.cells) (has_required 1 t.properties row) owned.0 in
    (named.tables n t at, plain_cells t.properties 0 row.cells (λ m property there. named.properties n t m property at there) cells.0 held)

plain_rows : (k : Schema) → IsNamed k → (rows : List (Option Shown)) → Each (FitsTable k) rows → HoldsRows rows → ArePlainRows k rows
plain_rows k named [] fit held = tt
plain_rows k named (None ∷ rows) fit held = (tt, plain_rows k named rows fit.1 held.1)
plain_rows k named (Some one ∷ rows) fit held =
    (plain_in k named one.table (numbered k.tables one.table) one.row refl fit.0 (held.0).1, plain_rows k named rows fit.1 held.1)

-- ---- the results of a batch

each_front : {X : Type 0} (P : X → Type 0) (xs ys : List X) → Each P (xs ++ ys) → Each P xs × Each P ys
each_front P [] ys each = (tt, each)
each_front P (x ∷ xs) ys each = let more = each_front P xs ys each.1 in ((each.0, more.0), more.1)

plain_results : (k : Schema) → IsNamed k → (results : List (Result (List (Option Shown)) Turn)) → Each (FitsTable k) (flat_map replies_of results) → AreWords results → AllByRecursion HoldsResult results → ArePlainResults k results
plain_results k named [] fit words held = tt
plain_results k named (Ok replies ∷ results) fit words held =
    let parts = each_front (FitsTable k) replies (flat_map replies_of results) fit in
    (plain_rows k named replies parts.0 held.0, plain_results k named results parts.1 words.1 held.1)
plain_results k named (Err turn ∷ results) fit words held = (plain_turn turn held.0 words.0, plain_results k named results fit words.1 held.1)

-- ---- every item

module _ (c : Cluster) (usage : Usage) (first : Meanings) (events : List Happening) (tape : List Item) (cluster : IsCluster c) (named : IsNamed c.schema) (d : IsDeclared c.schema) (formed : AreFormed events) (meant : Fits usage events)
    (run : IsRun c first events tape) (held : All HoldsItem tape) where
  item_held : (item : Item) → Stands item tape → HoldsItem item
  item_held item stands = each_stands HoldsItem item tape (each_of_all HoldsItem tape held) stands

  shown : (op : OpId) (answer : Answer) → Stands (AnswerItem op answer) tape → Each (FitsTable c.schema) (rows_of answer)
  shown = each_shown c usage first events tape d run meant

  other_plain : (item : Item) → Stands item tape → is_of_rows item ≡ false → IsPlain c.schema item
  other_plain = items_plain c first events tape cluster named formed run held

  committed_plain : (op : OpId) (n : Position) (replies : List (Option Shown)) → Stands (AnswerItem op (answers.Committed n replies)) tape → IsPlain c.schema (AnswerItem op (answers.Committed n replies))
  committed_plain op n replies stands =
      let holds = item_held (AnswerItem op (answers.Committed n replies)) stands in
      (holds.0, ((holds.1).0, plain_rows c.schema named replies (shown op (answers.Committed n replies) stands) (holds.1).1))

  read_plain : (op : OpId) (n : Position) (rows : List (Option Shown)) → Stands (AnswerItem op (answers.Read n rows)) tape → IsPlain c.schema (AnswerItem op (answers.Read n rows))
  read_plain op n rows stands =
      let holds = item_held (AnswerItem op (answers.Read n rows)) stands in
      (holds.0, ((holds.1).0, plain_rows c.schema named rows (shown op (answers.Read n rows) stands) (holds.1).1))

  batched_plain : (op : OpId) (n : Position) (results : List (Result (List (Option Shown)) Turn)) → Stands (AnswerItem op (answers.Batched n results)) tape → IsPlain c.schema (AnswerItem op (answers.Batched n results))
  batched_plain op n results stands =
      let holds = item_held (AnswerItem op (answers.Batched n results)) stands in
      (holds.0, ((holds.1).0, plain_results c.schema named results (shown op (answers.Batched n results) stands) (batch_refuses c usage first events tape run meant op n results stands) (holds.1).1))

  answer_plain : (op : OpId) (answer : Answer) → shows_rows answer ≡ true → Stands (AnswerItem op answer) tape → IsPlain c.schema (AnswerItem op answer)
  answer_plain op (answers.Committed n replies) rows stands = committed_plain op n replies stands
  answer_plain op (answers.Batched n results) rows stands = batched_plain op n results stands
  answer_plain op (answers.Read n shows) rows stands = read_plain op n shows stands
  answer_plain op (answers.AllTurned results) rows stands = absurd (cc)
  answer_plain op (answers.Conflict n other) rows stands = absurd (cc)
  answer_plain op (answers.Turned turn) rows stands = absurd (cc)
  answer_plain op answers.Unknown rows stands = absurd (cc)
  answer_plain op answers.TimedOut rows stands = absurd (cc)
  answer_plain op (answers.Found marks found) rows stands = absurd (cc)
  answer_plain op (answers.Refreshed marks) rows stands = absurd (cc)
  answer_plain op (answers.LogFull n) rows stands = absurd (cc)
  answer_plain op (answers.Busy count) rows stands = absurd (cc)
  answer_plain op answers.Worn rows stands = absurd (cc)
  answer_plain op (answers.NotHere kind) rows stands = absurd (cc)
  answer_plain op (answers.NothingToDo marks) rows stands = absurd (cc)
  answer_plain op (answers.NoHandler queue) rows stands = absurd (cc)

  item_plain : (item : Item) → Stands item tape → IsPlain c.schema item
  item_plain (AnswerItem op answer) stands = by (shows_rows answer) refl
    where
      by : (b : Bool) → shows_rows answer ≡ b → IsPlain c.schema (AnswerItem op answer)
      by true rows = answer_plain op answer rows stands
      by false none = other_plain (AnswerItem op answer) stands none
  item_plain (Start node start) stands = other_plain (Start node start) stands refl
  item_plain (Unsent node message) stands = other_plain (Unsent node message) stands refl
  item_plain (Tick node now) stands = other_plain (Tick node now) stands refl
  item_plain (Begin op text) stands = other_plain (Begin op text) stands refl
  item_plain (Taken number) stands = other_plain (Taken number) stands refl
  item_plain (Dropped number) stands = other_plain (Dropped number) stands refl
  item_plain (Sent number message) stands = other_plain (Sent number message) stands refl
  item_plain (Grant cell node epoch) stands = other_plain (Grant cell node epoch) stands refl
  item_plain (Lapse cell node epoch) stands = other_plain (Lapse cell node epoch) stands refl
  item_plain (Counts node cell epoch) stands = other_plain (Counts node cell epoch) stands refl
  item_plain (Forgets node cell epoch) stands = other_plain (Forgets node cell epoch) stands refl
  item_plain (Serving node epoch) stands = other_plain (Serving node epoch) stands refl
  item_plain (Lost node epoch) stands = other_plain (Lost node epoch) stands refl
  item_plain (Valid node group position) stands = other_plain (Valid node group position) stands refl
  item_plain (Invalid node group position) stands = other_plain (Invalid node group position) stands refl
  item_plain (Decide node group position entry) stands = other_plain (Decide node group position entry) stands refl
  item_plain (Apply node group position) stands = other_plain (Apply node group position) stands refl
  item_plain (Crash node) stands = other_plain (Crash node) stands refl
  item_plain Cut stands = other_plain Cut stands refl
  item_plain Unsafe stands = other_plain Unsafe stands refl

each_standing : (P : Item → Type 0) (tape : List Item) → ((item : Item) → Stands item tape → P item) → Each P tape
each_standing P [] h = tt
each_standing P (item ∷ tape) h = (h item (inl refl), each_standing P tape (λ other stands. h other (inr stands)))

pub each_plain : (c : Cluster) (usage : Usage) (first : Meanings) (events : List Happening) (tape : List Item) → IsCluster c → IsNamed c.schema → IsDeclared c.schema → AreFormed events → Fits usage events
    → IsRun c first events tape → All HoldsItem tape → Each (IsPlain c.schema) tape
each_plain c usage first events tape cluster named d formed meant run held =
    each_standing (IsPlain c.schema) tape (item_plain c usage first events tape cluster named d formed meant run held)

pub every_plain : (c : Cluster) (usage : Usage) (first : Meanings) (events : List Happening) (tape : List Item) → IsCluster c → IsNamed c.schema → IsDeclared c.schema → AreFormed events → Fits usage events
    → IsRun c first events tape → All HoldsItem tape → All (IsPlain c.schema) tape
every_plain c usage first events tape cluster named d formed meant run held =
    all_of_each (IsPlain c.schema) tape (each_plain c usage first events tape cluster named d formed meant run held)
