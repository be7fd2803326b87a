-- An item that is held and of the format is plain, where it shows no rows of a read.
use Rattle.std.proofs.Common.{◌≡◌, ◌&&◌, ℕ, ◌<◌, ◌==◌, nat_lt, false, true, cond, List, [], ◌∷◌, length, Option, Some, None, Result, Ok, Err, refl, arith}
use Rattle.std.specs.Prelude.{All}
use Rattle.std.specs.List.{AllByRecursion, list_all}
use Rattle.std.proofs.lemmas.Bool.Decides.{nat_tests}
use Rattle.std.proofs.lemmas.Bool.{and_from, and_parts}
use Rattle.mega_base.specs.declared.values.Cell.{Cell}
use Rattle.mega_base.specs.declared.values.Kind.{Kind}
use Rattle.mega_base.specs.declared.values.Row.{Row}
use Rattle.mega_base.specs.declared.values.Value.{Value}
use Rattle.mega_cluster.specs.declared.cluster.Cluster.{Cluster}
use Rattle.mega_handler.specs.Named.{Meanings}
use Rattle.mega_keys.specs.Fit.{has_kind, key_kinds}
use Rattle.mega_syntax.specs.declared.need.Need.{Need}
use Rattle.mega_syntax.specs.declared.need.Need.TheVariants.{Required, Optional, Repeated}
use Rattle.mega_schema.specs.declared.schema.Property.{Property}
use Rattle.mega_schema.specs.declared.schema.Schema.{Schema}
use Rattle.mega_schema.specs.declared.schema.Table.{Table}
use Rattle.mega_schema.specs.Lookup.{is_repeated}
use Rattle.mega_schema.specs.Shaping.{shape_of}
use Rattle.mega_index.specs.declared.found.Found.{Found}
use Rattle.mega_index.specs.Fits.{cell_fits, cells_fit, is_count, numbered}
use Rattle.mega_outcome.specs.declared.answer.Answer.{Answer}
use Rattle.mega_outcome.specs.declared.answer.Answer.TheVariants as answers
use Rattle.mega_transcript.specs.declared.item.Item.{Item}
use Rattle.mega_transcript.specs.declared.item.Item.TheVariants.{Start, Unsent, Tick, Begin, Taken, Dropped, Sent, Grant, Lapse, Counts, Forgets, Serving, Lost, Valid, Invalid, Decide, Apply, Answer as AnswerItem, Crash, Cut, Unsafe}
use Rattle.mega_transcript.specs.Plain.{IsPlain}
use Rattle.mega_transcript.specs.Named.{names_property}
use Rattle.mega_outcome.specs.declared.answer.Shown.{Shown}
use Rattle.mega_outcome.specs.declared.answer.Turn.{Turn}
use Rattle.mega_outcome.specs.declared.answer.Turn.TheVariants.{OtherGroup, BadRow, CheckFailed, NoRow, Overflow, TooLarge, DiskFault, Full, BadRecord, NoMemory}
use Rattle.mega_transcript.specs.PlainTurns.{IsPlainTurn}
use Rattle.mega_transcript.specs.PlainAnswers.{IsPlainAnswer}
use Rattle.mega_transcript.specs.PlainRows.{ArePlainCells, ArePlainIn, HaveKinds, IsHeld, IsPlainCell, IsPlainFound, IsPlainKey, IsPlainResult}
use Rattle.mega_promises.specs.Promises.{Stands}
use Rattle.mega_promises.specs.Runs.{Happening, IsRun}
use Rattle.mega_format_laws.specs.Histories.{IsCluster}
use Rattle.mega_format_laws.proofs.Each.{all_of_each, each_of_all}
use Rattle.mega_plain_laws.specs.Answers.{AreOfKinds, AreRefused, IsFit, IsFound, IsFoundIn, IsNamed, IsWord, shows_rows}
use Rattle.mega_plain_laws.specs.Formed.{AreFormed, IsSpelled, is_of_rows}
use Rattle.mega_field_ranges.specs.Held.{HoldsAnswer, HoldsCell, HoldsFound, HoldsItem, HoldsResult, HoldsTurn}
use Rattle.mega_plain_laws.proofs.Showing.{each_stands}
use Rattle.mega_plain_laws.proofs.Events.{run_spelled}

-- ---- what is found

above : (low n : ℕ) → nat_lt low n ≡ true → low < n
above low n lt = grind (arith, nat_tests)

counted : (need : Need) (n : ℕ) → is_count need n ≡ true → cond (is_repeated need) (nat_lt 0 n) (n == 1) ≡ true
counted Required n h = h
counted Optional n h = h
counted Repeated n h = h

plain_cell : (ps : List Property) (cell : Cell) (o : Option Property) → ((property : Property) → o ≡ Some property → names_property ps cell.property property.name ≡ true) → cell_fits o cell.values ≡ true → AllByRecursion IsHeld cell.values → IsPlainCell ps o cell
plain_cell ps cell None named fits held = cc
plain_cell ps cell (Some property) named fits held =
    let parts = and_parts (is_count property.need (length cell.values)) (list_all (has_kind property.kind) cell.values) fits in
    (named property refl, (and_from (list_all (has_kind property.kind) cell.values) (cond (is_repeated property.need) (nat_lt 0 (length cell.values)) (length cell.values == 1)) parts.1 (counted property.need (length cell.values) parts.0), held))

pub plain_cells : (ps : List Property) (low : ℕ) (cells : List Cell) → ((n : ℕ) (property : Property) → numbered ps n ≡ Some property → names_property ps n property.name ≡ true) → cells_fit ps low cells ≡ true → AllByRecursion HoldsCell cells → ArePlainCells ps low cells
plain_cells ps low [] named fits held = tt
plain_cells ps low (c ∷ cs) named fits held =
    let parts = and_parts (nat_lt low c.property) (cell_fits (numbered ps c.property) c.values && cells_fit ps c.property cs) fits in
    let more = and_parts (cell_fits (numbered ps c.property) c.values) (cells_fit ps c.property cs) parts.1 in
    (above low c.property parts.0, (plain_cell ps c (numbered ps c.property) (named c.property) more.0 (held.0).1, plain_cells ps c.property cs named more.1 held.1))

plain_key : (kinds : List Kind) (values : List Value) → AreOfKinds kinds values → AllByRecursion IsHeld values → HaveKinds kinds values
plain_key [] [] are held = tt
plain_key [] (value ∷ values) are held = absurd are
plain_key (kind ∷ kinds) [] are held = absurd are
plain_key (kind ∷ kinds) (value ∷ values) are held = (are.0, (held.0, plain_key kinds values are.1 held.1))

plain_in : (k : Schema) → IsNamed k → (n : ℕ) (o : Option Table) (key : List Value) (stored : Row) → numbered k.tables n ≡ o → IsFoundIn k n o key stored → AllByRecursion HoldsCell stored.cells → AllByRecursion IsHeld key
    → ArePlainIn k n o stored.cells × IsPlainKey k n o key
plain_in k named n None key stored at is cells values = absurd is
plain_in k named n (Some table) key stored at is cells values =
    ((named.tables n table at, plain_cells table.properties 0 stored.cells (λ m property there. named.properties n table m property at there) is.0 cells), plain_key (key_kinds (shape_of k n table)) key is.1 values)

plain_found : (k : Schema) → IsNamed k → (found : Found) → IsFound k found → HoldsFound found → IsPlainFound k found
plain_found k named found is held = plain_in k named found.table (numbered k.tables found.table) found.key found.stored refl is (held.1).1 (held.1).0

plain_finds : (k : Schema) → IsNamed k → (finds : List Found) → AllByRecursion (IsFound k) finds → AllByRecursion HoldsFound finds → AllByRecursion (IsPlainFound k) finds
plain_finds k named [] are held = tt
plain_finds k named (found ∷ finds) are held = (plain_found k named found are.0 held.0, plain_finds k named finds are.1 held.1)

-- ---- why one is turned

pub plain_turn : (turn : Turn) → HoldsTurn turn → IsWord turn → IsPlainTurn turn
plain_turn (OtherGroup item) held word = held
plain_turn (BadRow item) held word = held
plain_turn (CheckFailed item) held word = held
plain_turn (NoRow item) held word = held
plain_turn (Overflow item) held word = held
plain_turn (TooLarge bytes) held word = held
plain_turn DiskFault held word = absurd word
plain_turn (Full length) held word = absurd word
plain_turn (BadRecord number) held word = absurd word
plain_turn NoMemory held word = absurd word

plain_results : (k : Schema) (results : List (Result (List (Option Shown)) Turn)) → AllByRecursion HoldsResult results → AreRefused results → AllByRecursion (IsPlainResult k) results
plain_results k [] held fit = tt
plain_results k (Ok replies ∷ results) held fit = absurd fit.0
plain_results k (Err turn ∷ results) held fit = (plain_turn turn held.0 fit.0, plain_results k results held.1 fit.1)

-- ---- answers and items

plain_answer : (k : Schema) → IsNamed k → (answer : Answer) → HoldsAnswer answer → IsFit k answer → shows_rows answer ≡ false → IsPlainAnswer k answer
plain_answer k named (answers.Committed position replies) held fit none = cc
plain_answer k named (answers.Conflict position other) held fit none = held
plain_answer k named (answers.Turned turn) held fit none = plain_turn turn held fit
plain_answer k named answers.Unknown held fit none = tt
plain_answer k named answers.TimedOut held fit none = tt
plain_answer k named (answers.Read position rows) held fit none = cc
plain_answer k named (answers.Found marks rows) held fit none = ((fit.0, held.0), plain_finds k named rows fit.1 held.1)
plain_answer k named (answers.Refreshed marks) held fit none = (fit, held)
plain_answer k named (answers.LogFull position) held fit none = held
plain_answer k named (answers.Busy count) held fit none = fit
plain_answer k named answers.Worn held fit none = tt
plain_answer k named (answers.NotHere kind) held fit none = fit
plain_answer k named (answers.NothingToDo marks) held fit none = (fit, held)
plain_answer k named (answers.NoHandler queue) held fit none = held
plain_answer k named (answers.Batched position results) held fit none = cc
plain_answer k named (answers.AllTurned results) held fit none = plain_results k results held fit

plain_item : (k : Schema) → IsNamed k → (item : Item) → HoldsItem item → IsSpelled k item → is_of_rows item ≡ false → IsPlain k item
plain_item k named (Start node start) held spelled none = held
plain_item k named (Unsent node message) held spelled none = (held.0, (spelled, held.1))
plain_item k named (Tick node now) held spelled none = held
plain_item k named (Begin op text) held spelled none = (held, spelled)
plain_item k named (Taken number) held spelled none = held
plain_item k named (Dropped number) held spelled none = held
plain_item k named (Sent number message) held spelled none = (held.0, (spelled, held.1))
plain_item k named (Grant cell node epoch) held spelled none = held
plain_item k named (Lapse cell node epoch) held spelled none = held
plain_item k named (Counts node cell epoch) held spelled none = held
plain_item k named (Forgets node cell epoch) held spelled none = held
plain_item k named (Serving node epoch) held spelled none = held
plain_item k named (Lost node epoch) held spelled none = held
plain_item k named (Valid node group position) held spelled none = held
plain_item k named (Invalid node group position) held spelled none = held
plain_item k named (Decide node group position entry) held spelled none = (held.0, (spelled, held.1))
plain_item k named (Apply node group position) held spelled none = held
plain_item k named (AnswerItem op answer) held spelled none = (held.0, plain_answer k named answer held.1 spelled none)
plain_item k named (Crash node) held spelled none = held
plain_item k named Cut held spelled none = tt
plain_item k named Unsafe held spelled none = tt

pub runs_spelled : (c : Cluster) (first : Meanings) (events : List Happening) (tape : List Item) → IsCluster c → AreFormed events → IsRun c first events tape → All HoldsItem tape → All (IsSpelled c.schema) tape
runs_spelled c first events tape cluster formed run held = all_of_each (IsSpelled c.schema) tape (run_spelled c first events tape cluster formed run (each_of_all HoldsItem tape held))

pub items_plain : (c : Cluster) (first : Meanings) (events : List Happening) (tape : List Item) → IsCluster c → IsNamed c.schema → AreFormed events → IsRun c first events tape → All HoldsItem tape
    → (item : Item) → Stands item tape → is_of_rows item ≡ false → IsPlain c.schema item
items_plain c first events tape cluster named formed run held item stands none =
    plain_item c.schema named item (each_stands HoldsItem item tape (each_of_all HoldsItem tape held) stands)
    (each_stands (IsSpelled c.schema) item tape (run_spelled c first events tape cluster formed run (each_of_all HoldsItem tape held)) stands) none
