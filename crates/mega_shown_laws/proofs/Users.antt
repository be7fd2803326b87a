-- A user is put and read, in a run of the format: what the tape holds is tried item by item.
use Rattle.std.proofs.Common.{◌≡◌, ◌&&◌, ◌<◌, ◌≤◌, ℕ, suc, zero, nat_le, nat_lt, Bool, true, false, List, [], ◌∷◌, codes, inl, pos, negsuc, Option, Some, None, refl, arith}
use Rattle.std.specs.Fmt.{digits}
use Rattle.std.specs.Str.{chars, is_utf8}
use Rattle.std.specs.Char.{encode_utf8}
use Rattle.std.specs.List.{AllByRecursion, list_all}
use Rattle.std.proofs.lemmas.Bool.Decides.{nat_tests}
use Rattle.std.proofs.lemmas.Str.{IsUtf8-from_is_utf8}
use Rattle.std.proofs.lemmas.Bool.{and_parts}
use Rattle.hex.specs.Hex.{IsBytes}
use Rattle.json.specs.Lex.{lex, punctuate}
use Rattle.json.specs.Json.{items, members, value}
use Rattle.json.specs.Word.{after_number, word}
use Rattle.json.specs.Text.{code_unit, content, short_escape}
use Rattle.json.specs.Print.{escape_byte, print_from}
use Rattle.serde_json.specs.Read.{number_of}
use Rattle.mega_base.specs.Codec.{number_text}
use Rattle.mega_base.specs.declared.names.GroupId.{GroupId}
use Rattle.mega_base.specs.declared.names.NodeId.{NodeId}
use Rattle.mega_base.specs.declared.names.OpId.{OpId}
use Rattle.mega_base.specs.declared.names.Position.{Position}
use Rattle.mega_base.specs.declared.values.Cell.{Cell}
use Rattle.mega_base.specs.declared.values.Value.{Value}
use Rattle.mega_base.specs.declared.values.Value.TheVariants.{Int32, Int64, Bool as Truth, Str, Raw}
use Rattle.mega_entry.specs.Entries.{entry_text}
use Rattle.mega_wire.specs.Messages.{message_text}
use Rattle.mega_outcome.specs.declared.answer.Answer.{Answer}
use Rattle.mega_outcome.specs.declared.answer.Answer.TheVariants as answers
use Rattle.mega_outcome.specs.declared.answer.Shown.{Shown}
use Rattle.mega_transcript.specs.declared.item.Item.{Item}
use Rattle.mega_transcript.specs.declared.item.Item.TheVariants.{Start, Unsent, Tick, Begin, Taken, Dropped, Sent, Grant, Lapse, Counts, Forgets, Serving, Lost, Valid, Invalid, Decide, Apply, Answer as AnswerItem, Crash, Cut, Unsafe}
use Rattle.mega_transcript.specs.PlainRows.{IsHeld}
use Rattle.mega_transcript.specs.Requests.{is_request, json_of}
use Rattle.mega_rules.specs.Examples.{cluster, put}
use Rattle.mega_promises.specs.Promises.{Stands}
use Rattle.mega_promises.specs.Runs.{Whole, goes_on, opening}
use Rattle.mega_promises.specs.Worked.{op, read_through}
use Rattle.mega_tape_laws.specs.Indexed.{IsDeclared}
use Rattle.mega_tape_laws.proofs.IndexWitnesses.{declared as named_declared}
use Rattle.mega_run_laws.specs.Usages.{Brought, Fits}
use Rattle.mega_format_laws.specs.Requests.{IsRequest}
use Rattle.mega_format_laws.specs.Rounds.{Each}
use Rattle.mega_format_laws.proofs.Each.{all_of_each}
use Rattle.mega_plain_laws.specs.Formed.{AreFormed}
use Rattle.mega_plain_laws.specs.of_field_ranges.Held.{HoldsAnswer, HoldsCell, HoldsItem, HoldsRows, HoldsShown}
use Rattle.mega_plain_laws.proofs.Ticking.{formed, named}
use Rattle.mega_shown_laws.specs.Examples.{put_and_shown, two_words}
use Rattle.mega_shown_laws.specs.OfFormat.{IsOfFormat}

at_most : (n most : ℕ) → nat_le n most ≡ true → n ≤ most
at_most n most h = grind (arith, nat_tests)

below : (n most : ℕ) → nat_lt n most ≡ true → n < most
below n most h = grind (arith, nat_tests)

-- ---- tests of what is held

abbrev are_bytes : List ℕ → Bool
are_bytes xs = list_all (λ b. nat_lt b 256) xs

bytes_are : (xs : List ℕ) → are_bytes xs ≡ true → IsBytes xs
bytes_are [] h i = omega arith
bytes_are (x ∷ xs) h zero = below x 256 (and_parts (nat_lt x 256) (are_bytes xs) h).0
bytes_are (x ∷ xs) h (suc i) = bytes_are xs (and_parts (nat_lt x 256) (are_bytes xs) h).1 i

abbrev is_u8 : ℕ → Bool
is_u8 n = nat_le n 255

abbrev is_u32 : ℕ → Bool
is_u32 n = nat_le n 4294967295

abbrev is_u64 : ℕ → Bool
is_u64 n = nat_le n 18446744073709551615

abbrev is_op : OpId → Bool
is_op op = is_u8 op.node.0 && (is_u32 op.start && is_u32 op.number)

abbrev is_place : NodeId → GroupId → Position → Bool
is_place node group position = is_u8 node.0 && (are_bytes group.key && is_u64 position.0)

abbrev is_value : Value → Bool
is_value (Int64 (pos n)) = nat_lt n 9223372036854775808
is_value (Int64 (negsuc n)) = false
is_value (Int32 z) = false
is_value (Truth b) = false
is_value (Str text) = is_utf8 text
is_value (Raw bytes) = false

abbrev is_cell : Cell → Bool
is_cell cell = is_u8 cell.property && list_all is_value cell.values

abbrev is_shown : Option Shown → Bool
is_shown None = true
is_shown (Some shown) = is_u8 shown.table && list_all is_cell shown.row.cells

abbrev is_given : Answer → Bool
is_given (answers.Committed position replies) = is_u64 position.0 && list_all is_shown replies
is_given (answers.Read position rows) = is_u64 position.0 && list_all is_shown rows
is_given (answers.Conflict position other) = false
is_given (answers.Turned turn) = false
is_given answers.Unknown = false
is_given answers.TimedOut = false
is_given (answers.Found marks rows) = false
is_given (answers.Refreshed marks) = false
is_given (answers.LogFull position) = false
is_given (answers.Busy count) = false
is_given answers.Worn = false
is_given (answers.NotHere kind) = false
is_given (answers.NothingToDo marks) = false
is_given (answers.NoHandler queue) = false
is_given (answers.Batched position results) = false
is_given (answers.AllTurned results) = false

abbrev is_item : Item → Bool
is_item (Start node start) = is_u8 node.0 && is_u32 start
is_item (Begin op text) = is_op op
is_item (Taken number) = is_u64 number
is_item (Sent number message) = is_u64 number && are_bytes (message_text message)
is_item (Decide node group position entry) = is_place node group position && are_bytes (entry_text entry)
is_item (Apply node group position) = is_place node group position
is_item (AnswerItem op answer) = is_op op && is_given answer
is_item (Unsent node message) = false
is_item (Tick node now) = false
is_item (Dropped number) = false
is_item (Grant cell node epoch) = false
is_item (Lapse cell node epoch) = false
is_item (Counts node cell epoch) = false
is_item (Forgets node cell epoch) = false
is_item (Serving node epoch) = false
is_item (Lost node epoch) = false
is_item (Valid node group position) = false
is_item (Invalid node group position) = false
is_item (Crash node) = false
is_item Cut = false
is_item Unsafe = false

-- ---- what they tell

op_held : (op : OpId) → is_op op ≡ true → (op.node.0 ≤ 255) × ((op.start ≤ 4294967295) × (op.number ≤ 4294967295))
op_held op h =
    let a = and_parts (is_u8 op.node.0) (is_u32 op.start && is_u32 op.number) h in
    let b = and_parts (is_u32 op.start) (is_u32 op.number) a.1 in
    (at_most op.node.0 255 a.0, (at_most op.start 4294967295 b.0, at_most op.number 4294967295 b.1))

place_held : (node : NodeId) (group : GroupId) (position : Position) → is_place node group position ≡ true → (node.0 ≤ 255) × (IsBytes group.key × (position.0 ≤ 18446744073709551615))
place_held node group position h =
    let a = and_parts (is_u8 node.0) (are_bytes group.key && is_u64 position.0) h in
    let b = and_parts (are_bytes group.key) (is_u64 position.0) a.1 in
    (at_most node.0 255 a.0, (bytes_are group.key b.0, at_most position.0 18446744073709551615 b.1))

each_told : {X : Type 0} (test : X → Bool) (P : X → Type 0) → ((x : X) → test x ≡ true → P x) → (xs : List X) → list_all test xs ≡ true → AllByRecursion P xs
each_told test P h [] e = tt
each_told test P h (x ∷ xs) e = let a = and_parts (test x) (list_all test xs) e in (h x a.0, each_told test P h xs a.1)

value_held : (v : Value) → is_value v ≡ true → IsHeld v
value_held (Int64 (pos n)) h = below n 9223372036854775808 h
value_held (Int64 (negsuc n)) h = cc
value_held (Int32 z) h = cc
value_held (Truth b) h = cc
value_held (Str text) h = IsUtf8-from_is_utf8 text h
value_held (Raw bytes) h = cc

cell_held : (cell : Cell) → is_cell cell ≡ true → HoldsCell cell
cell_held cell h = let a = and_parts (is_u8 cell.property) (list_all is_value cell.values) h in (at_most cell.property 255 a.0, each_told is_value IsHeld value_held cell.values a.1)

shown_held : (o : Option Shown) → is_shown o ≡ true → HoldsShown o
shown_held None h = tt
shown_held (Some shown) h = let a = and_parts (is_u8 shown.table) (list_all is_cell shown.row.cells) h in (at_most shown.table 255 a.0, each_told is_cell HoldsCell cell_held shown.row.cells a.1)

rows_held : (position : Position) (rows : List (Option Shown)) → (is_u64 position.0 && list_all is_shown rows) ≡ true → (position.0 ≤ 18446744073709551615) × HoldsRows rows
rows_held position rows h = let a = and_parts (is_u64 position.0) (list_all is_shown rows) h in (at_most position.0 18446744073709551615 a.0, each_told is_shown HoldsShown shown_held rows a.1)

answer_held : (answer : Answer) → is_given answer ≡ true → HoldsAnswer answer
answer_held (answers.Committed position replies) h = rows_held position replies h
answer_held (answers.Read position rows) h = rows_held position rows h
answer_held (answers.Conflict position other) h = absurd (cc)
answer_held (answers.Turned turn) h = absurd (cc)
answer_held answers.Unknown h = absurd (cc)
answer_held answers.TimedOut h = absurd (cc)
answer_held (answers.Found marks rows) h = absurd (cc)
answer_held (answers.Refreshed marks) h = absurd (cc)
answer_held (answers.LogFull position) h = absurd (cc)
answer_held (answers.Busy count) h = absurd (cc)
answer_held answers.Worn h = absurd (cc)
answer_held (answers.NotHere kind) h = absurd (cc)
answer_held (answers.NothingToDo marks) h = absurd (cc)
answer_held (answers.NoHandler queue) h = absurd (cc)
answer_held (answers.Batched position results) h = absurd (cc)
answer_held (answers.AllTurned results) h = absurd (cc)

item_held : (item : Item) → is_item item ≡ true → HoldsItem item
item_held (Start node start) h = let a = and_parts (is_u8 node.0) (is_u32 start) h in (at_most node.0 255 a.0, at_most start 4294967295 a.1)
item_held (Begin op text) h = op_held op h
item_held (Taken number) h = at_most number 18446744073709551615 h
item_held (Sent number message) h = let a = and_parts (is_u64 number) (are_bytes (message_text message)) h in (at_most number 18446744073709551615 a.0, bytes_are (message_text message) a.1)
item_held (Decide node group position entry) h = let a = and_parts (is_place node group position) (are_bytes (entry_text entry)) h in (place_held node group position a.0, bytes_are (entry_text entry) a.1)
item_held (Apply node group position) h = place_held node group position h
item_held (AnswerItem op answer) h = let a = and_parts (is_op op) (is_given answer) h in (op_held op a.0, answer_held answer a.1)
item_held (Unsent node message) h = absurd (cc)
item_held (Tick node now) h = absurd (cc)
item_held (Dropped number) h = absurd (cc)
item_held (Grant cell node epoch) h = absurd (cc)
item_held (Lapse cell node epoch) h = absurd (cc)
item_held (Counts node cell epoch) h = absurd (cc)
item_held (Forgets node cell epoch) h = absurd (cc)
item_held (Serving node epoch) h = absurd (cc)
item_held (Lost node epoch) h = absurd (cc)
item_held (Valid node group position) h = absurd (cc)
item_held (Invalid node group position) h = absurd (cc)
item_held (Crash node) h = absurd (cc)
item_held Cut h = absurd (cc)
item_held Unsafe h = absurd (cc)

tape_held : (tape : List Item) → list_all is_item tape ≡ true → Each HoldsItem tape
tape_held [] h = tt
tape_held (item ∷ tape) h = let a = and_parts (is_item item) (list_all is_item tape) h in (item_held item a.0, tape_held tape a.1)

-- ---- the run

abbrev pub shown_tape : List Item
shown_tape = (goes_on cluster (λ now me calls. Whole) (opening cluster []) put_and_shown).tape

all_held : list_all is_item shown_tape ≡ true
unfolding number_text is_utf8 chars encode_utf8
all_held = refl

put_text : is_request (codes "{}") ≡ true
unfolding is_request json_of digits is_utf8 chars encode_utf8 lex punctuate items members value after_number word code_unit content short_escape escape_byte print_from number_of
put_text = refl

shown_text : is_request (codes "{\"a\":true}") ≡ true
unfolding is_request json_of digits is_utf8 chars encode_utf8 lex punctuate items members value after_number word code_unit content short_escape escape_byte print_from number_of
shown_text = refl

john : is_utf8 (codes "John") ≡ true
unfolding is_utf8 chars encode_utf8
john = refl

put_asked : IsRequest put
put_asked = record {
  group = (omega arith, omega arith);
  writes = (((omega arith, (record { sfits = omega arith }, tt)), ((omega arith, (IsUtf8-from_is_utf8 (codes "John") john, tt)), tt)), tt);
  sends = tt;
}

events_formed : AreFormed put_and_shown
events_formed = (
  record { handlers = tt; asked = (put_asked, (refl, put_text)) },
  (record { handlers = tt; asked = tt }, (record { handlers = tt; asked = ((omega arith, omega arith), (refl, shown_text)) }, tt)),
)

declared : IsDeclared cluster.schema
declared = record { most = named_declared.most; roots = named_declared.roots; others = named_declared.others }

none_there : Brought two_words []
none_there = record { moment = []; is = refl }

texts_meant : Fits two_words put_and_shown
texts_meant = (record { brought = none_there; meant = refl }, (record { brought = none_there; meant = tt }, (record { brought = none_there; meant = refl }, tt)))

pub shown_formed : IsOfFormat cluster two_words [] put_and_shown (goes_on cluster (λ now me calls. Whole) (opening cluster []) put_and_shown).tape
shown_formed = record {
  cluster = formed;
  named = named;
  declared = declared;
  formed = events_formed;
  meant = texts_meant;
  run = record { cuts = λ now me calls. Whole; tape_is = refl };
  held = all_of_each HoldsItem shown_tape (tape_held shown_tape all_held);
}

pub shown_there : Stands (AnswerItem (op 1 1 2) (read_through 1)) (goes_on cluster (λ now me calls. Whole) (opening cluster []) put_and_shown).tape
unfolding number_text
shown_there = inl refl
