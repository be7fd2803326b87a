-- How the words of answers are read.
use Rattle.std.specs.Prelude.{ℕ, if◌then◌else◌, List, [], ◌∷◌, ◌++◌, codes, length, option_map, Option, Some, None, Ok, Err}
use Rattle.serde_json.specs.Data.{Data}
use Rattle.mega_base.specs.Reading.{◌>>=◌}
use Rattle.mega_base.specs.declared.names.Position.{Position}
use Rattle.mega_base.specs.declared.names.OpId.{OpId}
use Rattle.mega_base.specs.declared.values.NodeKind.TheVariants as nodes
use Rattle.mega_schema.specs.declared.schema.Schema.{Schema}
use Rattle.mega_outcome.specs.declared.answer.Turn.{Turn}
use Rattle.mega_outcome.specs.declared.answer.Turn.TheVariants.{OtherGroup, BadRow, CheckFailed, NoRow, Overflow, TooLarge}
use Rattle.mega_outcome.specs.declared.answer.Answer.{Answer}
use Rattle.mega_outcome.specs.declared.answer.Answer.TheVariants as answers
use Rattle.mega_syntax.specs.Names.{same}
use Rattle.mega_transcript_reader.specs.declared.answer_kinds.AnswerKind.{AnswerKind}
use Rattle.mega_transcript_reader.specs.declared.answer_kinds.AnswerKind.TheVariants.{Committed, Conflict, Turned, Read as ReadRows, Found, Refreshed, LogFull, Nothing, NoHandler, Batch}
use Rattle.mega_transcript.specs.Reading.{Read, Field, until, word_as, number_of, two, made, u32_field, u64_field, position_field, op_field}
use Rattle.mega_transcript.specs.Requests.{json_of}
use Rattle.mega_transcript_reader.specs.ReadingRows.{text_in, rows_in, finds_in, marks_in, find_marks_in, results_in}

-- the answers whose words are fixed
abbrev pub fixed_answer : List ℕ → Option Answer
fixed_answer left =
    if same left (codes "unknown" ++ 10 ∷ []) then Some answers.Unknown
    else (if same left (codes "timedout" ++ 10 ∷ []) then Some answers.TimedOut
    else (if same left (codes "worn" ++ 10 ∷ []) then Some answers.Worn
    else (if same left (codes "busy 64" ++ 10 ∷ []) then Some (answers.Busy 64)
    else (if same left (codes "nothere witness" ++ 10 ∷ []) then Some (answers.NotHere nodes.Witness)
    else (if same left (codes "nothere read" ++ 10 ∷ []) then Some (answers.NotHere nodes.Read) else None)))))

abbrev pub answer_kind_of : List ℕ → Option AnswerKind
answer_kind_of word =
    if same word (codes "committed") then Some Committed
    else (if same word (codes "conflict") then Some Conflict
    else (if same word (codes "turned") then Some Turned
    else (if same word (codes "read") then Some ReadRows
    else (if same word (codes "found") then Some Found
    else (if same word (codes "refreshed") then Some Refreshed
    else (if same word (codes "logfull") then Some LogFull
    else (if same word (codes "nothing") then Some Nothing
    else (if same word (codes "nohandler") then Some NoHandler
    else (if same word (codes "batch") then Some Batch else None)))))))))

-- the operation whose entry stands there, or none
unfoldable pub other_at : List ℕ → Read (Option OpId)
other_at left = if same left (codes "none" ++ 10 ∷ []) then Ok (None, []) else made Some op_field 10 left

unfoldable pub conflict_at : List ℕ → Read Answer
conflict_at left =
    position_field 32 left >>= λ position.
    other_at position.1 >>= λ other.
    Ok (answers.Conflict position.0 other.0, other.1)

-- a turn of this word, with its number
abbrev pub turn_of : List ℕ → ℕ → List ℕ → Read Turn
turn_of word refused left =
    if same word (codes "othergroup") then made OtherGroup u32_field 10 left
    else (if same word (codes "badrow") then made BadRow u32_field 10 left
    else (if same word (codes "check") then made CheckFailed u32_field 10 left
    else (if same word (codes "norow") then made NoRow u32_field 10 left
    else (if same word (codes "overflow") then made Overflow u32_field 10 left
    else (if same word (codes "toolarge") then made TooLarge u64_field 10 left else Err refused)))))

abbrev pub turn_in : ℕ → Option (List ℕ × List ℕ) → Read Turn
turn_in refused None = Err refused
turn_in refused (Some word) = turn_of word.0 refused word.1

unfoldable pub turn_at : List ℕ → Read Turn
turn_at left = turn_in (length left) (until 32 left)

unfoldable pub turned_at : List ℕ → Read Answer
turned_at left = turn_at left >>= λ turn. Ok (answers.Turned turn.0, turn.1)

unfoldable pub logfull_at : List ℕ → Read Answer
logfull_at = made (λ position. answers.LogFull position) position_field 10

-- a word that is JSON
unfoldable pub json_field : Field Data
json_field = word_as json_of

abbrev pub position_and_json : Field (Position × Data)
position_and_json = two 32 position_field json_field

unfoldable pub committed_at : Schema → List ℕ → Read Answer
committed_at schema = made (λ x. answers.Committed x.0 (rows_in schema x.1)) position_and_json 10

unfoldable pub rows_at : Schema → List ℕ → Read Answer
rows_at schema = made (λ x. answers.Read x.0 (rows_in schema x.1)) position_and_json 10

unfoldable pub found_at : Schema → List ℕ → Read Answer
found_at schema = made (λ x. answers.Found (find_marks_in x.0) (finds_in schema x.1)) (two 32 json_field json_field) 10

unfoldable pub refreshed_at : List ℕ → Read Answer
refreshed_at = made (λ d. answers.Refreshed (marks_in d)) json_field 10

unfoldable pub nothing_at : List ℕ → Read Answer
nothing_at = made (λ d. answers.NothingToDo (marks_in d)) json_field 10

unfoldable pub nohandler_at : List ℕ → Read Answer
nohandler_at = made (λ d. answers.NoHandler (text_in d)) json_field 10

-- the position of a batch's entry, or none
abbrev pub place_of : List ℕ → Option (Option Position)
place_of word = if same word (codes "none") then Some None else option_map (λ n. Some (record { 0 = n })) (number_of 18446744073709551615 word)

unfoldable pub place_field : Field (Option Position)
place_field = word_as place_of

abbrev pub batch_of : Schema → Option Position → Data → Answer
batch_of schema None d = answers.AllTurned (results_in schema d)
batch_of schema (Some position) d = answers.Batched position (results_in schema d)

unfoldable pub batch_at : Schema → List ℕ → Read Answer
batch_at schema = made (λ x. batch_of schema x.0 x.1) (two 32 place_field json_field) 10

abbrev pub of_answer_kind : Schema → AnswerKind → List ℕ → Read Answer
of_answer_kind schema Committed left = committed_at schema left
of_answer_kind schema Conflict left = conflict_at left
of_answer_kind schema Turned left = turned_at left
of_answer_kind schema ReadRows left = rows_at schema left
of_answer_kind schema Found left = found_at schema left
of_answer_kind schema Refreshed left = refreshed_at left
of_answer_kind schema LogFull left = logfull_at left
of_answer_kind schema Nothing left = nothing_at left
of_answer_kind schema NoHandler left = nohandler_at left
of_answer_kind schema Batch left = batch_at schema left

abbrev pub by_answer_kind : Schema → ℕ → List ℕ → Option AnswerKind → Read Answer
by_answer_kind schema refused left None = Err refused
by_answer_kind schema refused left (Some kind) = of_answer_kind schema kind left

abbrev pub by_answer_word : Schema → ℕ → Option (List ℕ × List ℕ) → Read Answer
by_answer_word schema refused None = Err refused
by_answer_word schema refused (Some word) = by_answer_kind schema refused word.1 (answer_kind_of word.0)

abbrev pub or_worded : Schema → List ℕ → Option Answer → Read Answer
or_worded schema left (Some answer) = Ok (answer, [])
or_worded schema left None = by_answer_word schema (length left) (until 32 left)

-- the words of an answer
unfoldable pub answer_at : Schema → List ℕ → Read Answer
answer_at schema left = or_worded schema left (fixed_answer left)
