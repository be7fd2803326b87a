-- The words of answers.
use Rattle.std.specs.Prelude.{ℕ, List, [], ◌∷◌, map, codes, decimal, Option, Some, None, Result, Ok, Err}
use Rattle.serde_json.specs.Data.{Data, number, string, array, unsigned}
use Rattle.serde_json.specs.View.{items_of}
use Rattle.serde_json.specs.Written.{compact_text}
use Rattle.mega_base.specs.declared.names.OpId.{OpId}
use Rattle.mega_base.specs.declared.values.NodeKind.{NodeKind}
use Rattle.mega_base.specs.declared.values.NodeKind.TheVariants as kinds
use Rattle.mega_schema.specs.declared.schema.Schema.{Schema}
use Rattle.mega_outcome.specs.declared.answer.Shown.{Shown}
use Rattle.mega_outcome.specs.declared.answer.Turn.{Turn}
use Rattle.mega_outcome.specs.declared.answer.Turn.TheVariants.{OtherGroup, BadRow, CheckFailed, NoRow, Overflow, TooLarge, DiskFault, Full, BadRecord, NoMemory}
use Rattle.mega_outcome.specs.declared.answer.Answer.{Answer}
use Rattle.mega_outcome.specs.declared.answer.Answer.TheVariants.{Committed, Conflict, Turned, Unknown, TimedOut, Read, Found, Refreshed, LogFull, Busy, Worn, NotHere, NothingToDo, NoHandler, Batched, AllTurned}
use Rattle.mega_transcript.specs.Words.{op_word, position_word}
use Rattle.mega_transcript.specs.Rows.{rows_data, finds_data, marks_data}

-- why a transaction was turned away; the faults of a device are no words of answers
abbrev pub turn_word : Turn → List ℕ
turn_word (OtherGroup item) = codes "othergroup"
turn_word (BadRow item) = codes "badrow"
turn_word (CheckFailed item) = codes "check"
turn_word (NoRow item) = codes "norow"
turn_word (Overflow item) = codes "overflow"
turn_word (TooLarge bytes) = codes "toolarge"
turn_word DiskFault = codes "fault"
turn_word (Full length) = codes "full"
turn_word (BadRecord at) = codes "badrecord"
turn_word NoMemory = codes "nomemory"

-- the number that goes with it: of an item, or of bytes
abbrev pub turn_number : Turn → ℕ
turn_number (OtherGroup item) = item
turn_number (BadRow item) = item
turn_number (CheckFailed item) = item
turn_number (NoRow item) = item
turn_number (Overflow item) = item
turn_number (TooLarge bytes) = bytes
turn_number (Full length) = length
turn_number (BadRecord at) = at
turn_number _ = 0

-- ["committed",REPLIES] or ["turned",WORD,NUMBER]
abbrev pub result_data : Schema → Result (List (Option Shown)) Turn → Data
result_data schema (Ok replies) = array (items_of (string (codes "committed") ∷ rows_data schema replies ∷ []))
result_data schema (Err turn) = array (items_of (string (codes "turned") ∷ string (turn_word turn) ∷ number (unsigned (turn_number turn)) ∷ []))

abbrev pub results_data : Schema → List (Result (List (Option Shown)) Turn) → Data
results_data schema results = array (items_of (map (result_data schema) results))

abbrev pub other_word : Option OpId → List ℕ
other_word None = codes "none"
other_word (Some op) = op_word op

abbrev pub kind_word : NodeKind → List ℕ
kind_word kinds.Full = codes "full"
kind_word kinds.Witness = codes "witness"
kind_word kinds.Read = codes "read"

-- the words of an answer; rows, marks and results are compact JSON
abbrev pub answer_words : Schema → Answer → List (List ℕ)
answer_words schema (Committed position replies) = codes "committed" ∷ position_word position ∷ compact_text (rows_data schema replies) ∷ []
answer_words schema (Conflict position other) = codes "conflict" ∷ position_word position ∷ other_word other ∷ []
answer_words schema (Turned turn) = codes "turned" ∷ turn_word turn ∷ decimal (turn_number turn) ∷ []
answer_words schema Unknown = codes "unknown" ∷ []
answer_words schema TimedOut = codes "timedout" ∷ []
answer_words schema (Read position rows) = codes "read" ∷ position_word position ∷ compact_text (rows_data schema rows) ∷ []
answer_words schema (Found marks rows) = codes "found" ∷ compact_text (marks_data marks) ∷ compact_text (finds_data schema rows) ∷ []
answer_words schema (Refreshed marks) = codes "refreshed" ∷ compact_text (marks_data marks) ∷ []
answer_words schema (LogFull position) = codes "logfull" ∷ position_word position ∷ []
answer_words schema (Busy count) = codes "busy" ∷ decimal count ∷ []
answer_words schema Worn = codes "worn" ∷ []
answer_words schema (NotHere kind) = codes "nothere" ∷ kind_word kind ∷ []
answer_words schema (NothingToDo marks) = codes "nothing" ∷ compact_text (marks_data marks) ∷ []
answer_words schema (NoHandler queue) = codes "nohandler" ∷ compact_text (string queue) ∷ []
answer_words schema (Batched position results) = codes "batch" ∷ position_word position ∷ compact_text (results_data schema results) ∷ []
answer_words schema (AllTurned results) = codes "batch" ∷ codes "none" ∷ compact_text (results_data schema results) ∷ []
