-- Each plain answer is read from its words, and what is read is plain.
use Rattle.std.proofs.Common.{◌≡◌, ℕ, ◌≤◌, Bool, true, false, List, [], ◌∷◌, ◌++◌, length, refl, sym, ap, ◌∙◌, subst, Option, Some, None, Ok, arith, decimal, codes}
use Rattle.std.specs.Prelude.{if◌then◌else◌, option_map}
use Rattle.serde_json.specs.Data.{Data, string}
use Rattle.serde_json.specs.Read.{max_depth}
use Rattle.serde_json.specs.Written.{compact_text}
use Rattle.std.specs.Fmt.{digits}
use Rattle.std.proofs.lemmas.Slice.Eq.{bytes_eq-Decides}
use Rattle.mega_base.specs.Reading.{◌>>=◌}
use Rattle.mega_base.specs.Codecs.{bind-ok}
use Rattle.mega_base.specs.declared.names.OpId.{OpId}
use Rattle.mega_base.specs.declared.names.Position.{Position}
use Rattle.mega_base.specs.declared.values.NodeKind.TheVariants as nodes
use Rattle.mega_schema.specs.declared.schema.Schema.{Schema}
use Rattle.mega_outcome.specs.declared.answer.Turn.{Turn}
use Rattle.mega_outcome.specs.declared.answer.Turn.TheVariants as turns
use Rattle.mega_outcome.specs.declared.answer.Answer.{Answer}
use Rattle.mega_outcome.specs.declared.answer.Answer.TheVariants as answers
use Rattle.mega_syntax.specs.Names.{same}
use Rattle.mega_transcript_reader.specs.declared.answer_kinds.AnswerKind.{AnswerKind}
use Rattle.mega_transcript_reader.specs.declared.answer_kinds.AnswerKind.TheVariants as kinds
use Rattle.mega_transcript.specs.Words.{spaced, op_word, position_word}
use Rattle.mega_transcript.specs.Answers.{turn_word, turn_number, other_word, results_data, answer_words}
use Rattle.mega_transcript.specs.PlainNames.{IsU32, IsU64, IsOp, IsPosition}
use Rattle.mega_transcript.specs.Rows.{rows_data, finds_data, marks_data}
use Rattle.mega_transcript.specs.Requests.{json_of}
use Rattle.mega_transcript.specs.PlainTurns.{IsPlainTurn}
use Rattle.mega_transcript.specs.PlainAnswers.{IsPlainOther, IsPlainAnswer}
use Rattle.mega_transcript.specs.Reading.{Read, Field, until, shown, taken, two, made, number_of, number_field, node_field, u32_field, u64_field, position_field, op_field}
use Rattle.mega_transcript_reader.specs.ReadingRows.{text_in, rows_in, finds_in, marks_in, find_marks_in}
use Rattle.mega_transcript_reader.specs.ReadingAnswers.{fixed_answer, answer_kind_of, other_at, conflict_at, turn_of, turn_in, turn_at, turned_at, logfull_at, json_field, committed_at, rows_at, found_at, refreshed_at, nothing_at, nohandler_at, place_of, place_field, batch_of, batch_at, of_answer_kind, by_answer_kind, by_answer_word, or_worded, answer_at}
use Rattle.mega_transcript.proofs.Forms.{lacks, until_again, Form, read_parts, word_form, number_of-decimal, number_most, solid-lacks, decimal-lacks, u32_form, u64_form, position_form, op_form}
use Rattle.mega_transcript.proofs.Compact.{IsSound, json_again, text_told}
use Rattle.mega_transcript_reader.proofs.Parts.{utf8}
use Rattle.mega_transcript_reader.proofs.SoundRows.{rows_sound, finds_sound, marks_sound, marks_lack, results_sound}
use Rattle.mega_transcript_reader.proofs.RowsAgain.{rows_again, finds_again, marks_again, find_marks_again, results_again}
use Rattle.mega_transcript_reader.proofs.RowsFit.{text_held, rows_fit, finds_fit, marks_fit, find_marks_fit, results_fit}

made_again : {A B : Type 0} (f : Field A) (t : A → List ℕ → List ℕ) (F : A → Type 0) (make : A → B) → Form f t F → (x : A) → F x → made make f 10 (t x (10 ∷ [])) ≡ Ok (make x, [])
made_again f t F make c x fit = ap (λ r. r >>= λ a. Ok (make a.0, a.1)) (c.again 10 x [] (omega arith) fit)

made_fits : {A B : Type 0} (P : B → Type 0) (f : Field A) (t : A → List ℕ → List ℕ) (F : A → Type 0) (make : A → B) → Form f t F
    → ((x : A) → F x → P (make x)) → (left : List ℕ) (y : B) (rest : List ℕ) → made make f 10 left ≡ Ok (y, rest) → P y
made_fits P f t F make c to left y rest h =
    let read = bind-ok (f 10 left) (λ a. Ok (make a.0, a.1)) (y, rest) h in
    let same = read_parts (make read.0.0) y read.0.1 rest read.2 in
    subst P same.0 (to read.0.0 (c.fits 10 left read.0.0 read.0.1 read.1))

-- of two readings by a test, what holds of both
either : {A : Type 0} (P : A → Type 0) (b : Bool) (r s : Read A) → ((x : A) (rest : List ℕ) → r ≡ Ok (x, rest) → P x) → ((x : A) (rest : List ℕ) → s ≡ Ok (x, rest) → P x)
    → (x : A) (rest : List ℕ) → (if b then r else s) ≡ Ok (x, rest) → P x
either P true r s first second = first
either P false r s first second = second

-- ---- the other operation
op_is_not_none : (op : OpId) → op_field 10 (codes "none" ++ 10 ∷ []) ≡ Ok (op, []) → ⊥
unfolding op_field node_field number_field until
op_is_not_none op h = cc

other_again : (other : Option OpId) → IsPlainOther other → other_at (other_word other ++ 10 ∷ []) ≡ Ok (other, [])
unfolding other_at
other_again None fit = refl
other_again (Some op) fit = by (same (op_word op ++ 10 ∷ []) (codes "none" ++ 10 ∷ [])) refl
  where
    by : (b : Bool) → same (op_word op ++ 10 ∷ []) (codes "none" ++ 10 ∷ []) ≡ b → (if b then Ok (None, []) else made Some op_field 10 (op_word op ++ 10 ∷ [])) ≡ Ok (Some op, [])
    by true e = absurd (op_is_not_none op (sym (ap (op_field 10) ((bytes_eq-Decides (op_word op ++ 10 ∷ []) (codes "none" ++ 10 ∷ [])).0 e)) ∙ op_form.again 10 op [] (omega arith) fit))
    by false e = made_again op_field (λ o tail. op_word o ++ tail) IsOp Some op_form op fit

other_fits : (left : List ℕ) (other : Option OpId) (rest : List ℕ) → other_at left ≡ Ok (other, rest) → IsPlainOther other
unfolding other_at
other_fits left = either IsPlainOther (same left (codes "none" ++ 10 ∷ [])) (Ok (None, [])) (made Some op_field 10 left)
    (λ x rest h. subst IsPlainOther (read_parts None x [] rest h).0 tt)
    (λ x rest h. made_fits IsPlainOther op_field (λ o tail. op_word o ++ tail) IsOp Some op_form (λ op fit. fit) left x rest h)

conflict_again : (position : Position) (other : Option OpId) → IsPosition position → IsPlainOther other
    → conflict_at (position_word position ++ 32 ∷ (other_word other ++ 10 ∷ [])) ≡ Ok (answers.Conflict position other, [])
unfolding conflict_at
conflict_again position other fit plain =
    ap (λ r. r >>= λ p. other_at p.1 >>= λ o. Ok (answers.Conflict p.0 o.0, o.1)) (position_form.again 32 position (other_word other ++ 10 ∷ []) (omega arith) fit)
    ∙ ap (λ r. r >>= λ o. Ok (answers.Conflict position o.0, o.1)) (other_again other plain)

conflict_fits : (schema : Schema) (left : List ℕ) (answer : Answer) (rest : List ℕ) → conflict_at left ≡ Ok (answer, rest) → IsPlainAnswer schema answer
unfolding conflict_at
conflict_fits schema left answer rest h =
    let first = bind-ok (position_field 32 left) (λ p. other_at p.1 >>= λ o. Ok (answers.Conflict p.0 o.0, o.1)) (answer, rest) h in
    let second = bind-ok (other_at first.0.1) (λ o. Ok (answers.Conflict first.0.0 o.0, o.1)) (answer, rest) first.2 in
    let same = read_parts (answers.Conflict first.0.0 second.0.0) answer second.0.1 rest second.2 in
    subst (IsPlainAnswer schema) same.0 (position_form.fits 32 left first.0.0 first.0.1 first.1, other_fits first.0.1 second.0.0 second.0.1 second.1)

-- ---- turns
u32_again : (make : ℕ → Turn) (n : ℕ) → IsU32 n → made make u32_field 10 (decimal n ++ 10 ∷ []) ≡ Ok (make n, [])
u32_again make n fit = made_again u32_field (λ m tail. decimal m ++ tail) IsU32 make u32_form n fit

u32_fits : (make : ℕ → Turn) → ((n : ℕ) → IsU32 n → IsPlainTurn (make n)) → (left : List ℕ) (turn : Turn) (rest : List ℕ) → made make u32_field 10 left ≡ Ok (turn, rest) → IsPlainTurn turn
u32_fits make to left turn rest h = made_fits IsPlainTurn u32_field (λ m tail. decimal m ++ tail) IsU32 make u32_form to left turn rest h

turn_by : (word rest : List ℕ) → lacks 32 word ≡ true → turn_at (word ++ 32 ∷ rest) ≡ turn_of word (length (word ++ 32 ∷ rest)) rest
unfolding turn_at
turn_by word rest solid = ap (turn_in (length (word ++ 32 ∷ rest))) (until_again 32 word rest solid)

turn_again : (turn : Turn) → IsPlainTurn turn → turn_at (turn_word turn ++ 32 ∷ (decimal (turn_number turn) ++ 10 ∷ [])) ≡ Ok (turn, [])
turn_again (turns.OtherGroup item) fit = turn_by (codes "othergroup") (decimal item ++ 10 ∷ []) refl ∙ u32_again (λ n. turns.OtherGroup n) item fit
turn_again (turns.BadRow item) fit = turn_by (codes "badrow") (decimal item ++ 10 ∷ []) refl ∙ u32_again (λ n. turns.BadRow n) item fit
turn_again (turns.CheckFailed item) fit = turn_by (codes "check") (decimal item ++ 10 ∷ []) refl ∙ u32_again (λ n. turns.CheckFailed n) item fit
turn_again (turns.NoRow item) fit = turn_by (codes "norow") (decimal item ++ 10 ∷ []) refl ∙ u32_again (λ n. turns.NoRow n) item fit
turn_again (turns.Overflow item) fit = turn_by (codes "overflow") (decimal item ++ 10 ∷ []) refl ∙ u32_again (λ n. turns.Overflow n) item fit
turn_again (turns.TooLarge bytes) fit = turn_by (codes "toolarge") (decimal bytes ++ 10 ∷ []) refl ∙ made_again u64_field (λ m tail. decimal m ++ tail) IsU64 (λ n. turns.TooLarge n) u64_form bytes fit
turn_again turns.DiskFault fit = absurd fit
turn_again (turns.Full length) fit = absurd fit
turn_again (turns.BadRecord number) fit = absurd fit
turn_again turns.NoMemory fit = absurd fit

turn_of_fits : (word : List ℕ) (refused : ℕ) (left : List ℕ) (turn : Turn) (rest : List ℕ) → turn_of word refused left ≡ Ok (turn, rest) → IsPlainTurn turn
turn_of_fits word refused left =
    either IsPlainTurn (same word (codes "othergroup")) _ _ (u32_fits (λ n. turns.OtherGroup n) (λ n fit. fit) left)
    (either IsPlainTurn (same word (codes "badrow")) _ _ (u32_fits (λ n. turns.BadRow n) (λ n fit. fit) left)
    (either IsPlainTurn (same word (codes "check")) _ _ (u32_fits (λ n. turns.CheckFailed n) (λ n fit. fit) left)
    (either IsPlainTurn (same word (codes "norow")) _ _ (u32_fits (λ n. turns.NoRow n) (λ n fit. fit) left)
    (either IsPlainTurn (same word (codes "overflow")) _ _ (u32_fits (λ n. turns.Overflow n) (λ n fit. fit) left)
    (either IsPlainTurn (same word (codes "toolarge")) _ _ (λ x rest h. made_fits IsPlainTurn u64_field (λ m tail. decimal m ++ tail) IsU64 (λ n. turns.TooLarge n) u64_form (λ n fit. fit) left x rest h)
    (λ x rest h. absurd (cc)))))))

turn_fits : (left : List ℕ) (turn : Turn) (rest : List ℕ) → turn_at left ≡ Ok (turn, rest) → IsPlainTurn turn
unfolding turn_at
turn_fits left turn rest h = by (until 32 left) h
  where
    by : (o : Option (List ℕ × List ℕ)) → turn_in (length left) o ≡ Ok (turn, rest) → IsPlainTurn turn
    by None e = absurd (cc)
    by (Some word) e = turn_of_fits word.0 (length left) word.1 turn rest e

-- ---- JSON

json_again_in : (end : ℕ) (d : Data) (rest : List ℕ) → IsSound max_depth d → lacks end (compact_text d) ≡ true → json_field end (compact_text d ++ end ∷ rest) ≡ Ok (d, rest)
unfolding json_field
json_again_in end d rest sound solid =
    ap (taken json_of (length (compact_text d ++ end ∷ rest))) (until_again end (compact_text d) rest solid)
    ∙ ap (shown (length (compact_text d ++ end ∷ rest)) rest) (json_again d sound)

last_again : {A : Type 0} (make : Data → A) (d : Data) → IsSound max_depth d → made make json_field 10 (compact_text d ++ 10 ∷ []) ≡ Ok (make d, [])
last_again make d sound = ap (λ r. r >>= λ a. Ok (make a.0, a.1)) (json_again_in 10 d [] sound (text_told max_depth d sound))

-- a field and JSON behind it
abbrev beside : {A : Type 0} → A → Read Data → Read (A × Data)
beside x read = read >>= λ z. Ok ((x, z.0), z.1)

abbrev and_json : {A : Type 0} → Read A → Read (A × Data)
and_json read = read >>= λ y. beside y.0 (json_field 10 y.1)

abbrev finished : {A B : Type 0} → (A → B) → Read A → Read B
finished make read = read >>= λ a. Ok (make a.0, a.1)

pair_again : {A B : Type 0} (f : Field A) (make : A × Data → B) (word : List ℕ) (x : A) (d : Data) → f 32 (word ++ 32 ∷ (compact_text d ++ 10 ∷ [])) ≡ Ok (x, compact_text d ++ 10 ∷ []) → IsSound max_depth d
    → made make (two 32 f json_field) 10 (word ++ 32 ∷ (compact_text d ++ 10 ∷ [])) ≡ Ok (make (x, d), [])
pair_again f make word x d first sound =
    ap (λ r. finished make (and_json r)) first ∙ ap (λ r. finished make (beside x r)) (json_again_in 10 d [] sound (text_told max_depth d sound))

-- what is made of a field is as whatever is made of it
made_always : {A B : Type 0} (P : B → Type 0) (f : Field A) (make : A → B) → ((x : A) → P (make x)) → (left : List ℕ) (y : B) (rest : List ℕ) → made make f 10 left ≡ Ok (y, rest) → P y
made_always P f make each left y rest h =
    let read = bind-ok (f 10 left) (λ a. Ok (make a.0, a.1)) (y, rest) h in
    subst P (read_parts (make read.0.0) y read.0.1 rest read.2).0 (each read.0.0)

made_behind : {A B : Type 0} (P : B → Type 0) (f : Field A) (F : A → Type 0) (make : A × Data → B) → ((left : List ℕ) (x : A) (rest : List ℕ) → f 32 left ≡ Ok (x, rest) → F x) → ((x : A) (d : Data) → F x → P (make (x, d)))
    → (left : List ℕ) (y : B) (rest : List ℕ) → made make (two 32 f json_field) 10 left ≡ Ok (y, rest) → P y
made_behind {A} {B} P f F make fits each left y rest h =
    let read = bind-ok (two 32 f json_field 10 left) (λ a. Ok (make a.0, a.1)) (y, rest) h in
    let first = bind-ok (f 32 left) (λ a. json_field 10 a.1 >>= λ b. Ok ((a.0, b.0), b.1)) read.0 read.1 in
    let second = bind-ok (json_field 10 first.0.1) (λ b. Ok ((first.0.0, b.0), b.1)) read.0 first.2 in
    let same = read_parts (first.0.0, second.0.0) read.0.0 second.0.1 read.0.1 second.2 in
    subst P (ap make same.0 ∙ (read_parts (make read.0.0) y read.0.1 rest read.2).0) (each first.0.0 second.0.0 (fits left first.0.0 first.0.1 first.1))

-- ---- the position of a batch, or none
abbrev place_word : Option Position → List ℕ
place_word None = codes "none"
place_word (Some position) = position_word position

abbrev IsPlace : Option Position → Type 0
IsPlace None = Unit {0}
IsPlace (Some position) = IsPosition position

none_is_no_number : number_of 18446744073709551615 (codes "none") ≡ None
unfolding number_of
none_is_no_number = refl

place_again : (place : Option Position) → IsPlace place → place_of (place_word place) ≡ Some place
place_again None fit = refl
place_again (Some position) fit = by (same (decimal position.0) (codes "none")) refl
  where
    spelled : number_of 18446744073709551615 (decimal position.0) ≡ Some position.0
    spelled = number_of-decimal 18446744073709551615 position.0 (omega arith) fit

    by : (b : Bool) → same (decimal position.0) (codes "none") ≡ b
        → (if b then Some None else option_map (λ n. Some (record { 0 = n })) (number_of 18446744073709551615 (decimal position.0))) ≡ Some (Some position)
    by true e =
        let never : None ≡ Some position.0 = sym none_is_no_number ∙ (ap (number_of 18446744073709551615) (sym ((bytes_eq-Decides (decimal position.0) (codes "none")).0 e)) ∙ number_of-decimal 18446744073709551615 position.0 (omega arith) fit) in
        absurd (cc)
    by false e = ap (option_map (λ n. Some (record { 0 = n }))) (number_of-decimal 18446744073709551615 position.0 (omega arith) fit)

place_lacks : (place : Option Position) (end : ℕ) → end ≤ 46 → IsPlace place → lacks end (place_word place) ≡ true
place_lacks None end low fit = solid-lacks end (codes "none") low refl
place_lacks (Some position) end low fit = decimal-lacks end position.0 low (omega (arith, fit))

place_fits : (word : List ℕ) (place : Option Position) → place_of word ≡ Some place → IsPlace place
place_fits word place h = by (same word (codes "none")) (number_of 18446744073709551615 word) refl h
  where
    by : (b : Bool) (o : Option ℕ) → number_of 18446744073709551615 word ≡ o → (if b then Some None else option_map (λ n. Some (record { 0 = n })) o) ≡ Some place → IsPlace place
    by true o e k = let is : None ≡ place = cc in subst IsPlace is tt
    by false None e k = absurd (cc)
    by false (Some n) e k =
        let at : Position = record { 0 = n } in
        let is : Some at ≡ place = cc in
        subst IsPlace is (number_most 18446744073709551615 word n e)

place_form : Form place_field (λ place tail. place_word place ++ tail) IsPlace
unfolding place_field
place_form = word_form place_of place_word IsPlace place_again place_lacks place_fits

-- ---- answers
by_first : (schema : Schema) (word rest : List ℕ) (kind : AnswerKind) → lacks 32 word ≡ true → answer_kind_of word ≡ Some kind → fixed_answer (word ++ 32 ∷ rest) ≡ None
    → answer_at schema (word ++ 32 ∷ rest) ≡ of_answer_kind schema kind rest
unfolding answer_at
by_first schema word rest kind solid is free =
    ap (or_worded schema (word ++ 32 ∷ rest)) free
    ∙ ap (by_answer_word schema (length (word ++ 32 ∷ rest))) (until_again 32 word rest solid)
    ∙ ap (by_answer_kind schema (length (word ++ 32 ∷ rest)) rest) is

-- the words of an answer, behind a space
abbrev pub answer_text : Schema → Answer → List ℕ
answer_text schema (answers.Conflict position other) = codes "conflict" ++ 32 ∷ (position_word position ++ 32 ∷ (other_word other ++ 10 ∷ []))
answer_text schema (answers.Turned turn) = codes "turned" ++ 32 ∷ (turn_word turn ++ 32 ∷ (decimal (turn_number turn) ++ 10 ∷ []))
answer_text schema answers.Unknown = codes "unknown" ++ 10 ∷ []
answer_text schema answers.TimedOut = codes "timedout" ++ 10 ∷ []
answer_text schema (answers.LogFull position) = codes "logfull" ++ 32 ∷ (position_word position ++ 10 ∷ [])
answer_text schema (answers.Busy count) = codes "busy" ++ 32 ∷ (decimal count ++ 10 ∷ [])
answer_text schema answers.Worn = codes "worn" ++ 10 ∷ []
answer_text schema (answers.NotHere nodes.Full) = codes "nothere full" ++ 10 ∷ []
answer_text schema (answers.NotHere nodes.Witness) = codes "nothere witness" ++ 10 ∷ []
answer_text schema (answers.NotHere nodes.Read) = codes "nothere read" ++ 10 ∷ []
answer_text schema (answers.Committed position replies) = codes "committed" ++ 32 ∷ (position_word position ++ 32 ∷ (compact_text (rows_data schema replies) ++ 10 ∷ []))
answer_text schema (answers.Read position rows) = codes "read" ++ 32 ∷ (position_word position ++ 32 ∷ (compact_text (rows_data schema rows) ++ 10 ∷ []))
answer_text schema (answers.Found marks rows) = codes "found" ++ 32 ∷ (compact_text (marks_data marks) ++ 32 ∷ (compact_text (finds_data schema rows) ++ 10 ∷ []))
answer_text schema (answers.Refreshed marks) = codes "refreshed" ++ 32 ∷ (compact_text (marks_data marks) ++ 10 ∷ [])
answer_text schema (answers.NothingToDo marks) = codes "nothing" ++ 32 ∷ (compact_text (marks_data marks) ++ 10 ∷ [])
answer_text schema (answers.NoHandler queue) = codes "nohandler" ++ 32 ∷ (compact_text (string queue) ++ 10 ∷ [])
answer_text schema (answers.Batched position results) = codes "batch" ++ 32 ∷ (position_word position ++ 32 ∷ (compact_text (results_data schema results) ++ 10 ∷ []))
answer_text schema (answers.AllTurned results) = codes "batch" ++ 32 ∷ (codes "none" ++ 32 ∷ (compact_text (results_data schema results) ++ 10 ∷ []))

pub text_is : (schema : Schema) (answer : Answer) → IsPlainAnswer schema answer → spaced (answer_words schema answer) ≡ 32 ∷ answer_text schema answer
text_is schema (answers.Committed position replies) fit = refl
text_is schema (answers.Conflict position other) fit = refl
text_is schema (answers.Turned turn) fit = refl
text_is schema answers.Unknown fit = refl
text_is schema answers.TimedOut fit = refl
text_is schema (answers.Read position rows) fit = refl
text_is schema (answers.Found marks rows) fit = refl
text_is schema (answers.Refreshed marks) fit = refl
text_is schema (answers.LogFull position) fit = refl
text_is schema (answers.Busy count) fit = refl
text_is schema answers.Worn fit = refl
text_is schema (answers.NotHere nodes.Full) fit = absurd fit
text_is schema (answers.NotHere nodes.Witness) fit = refl
text_is schema (answers.NotHere nodes.Read) fit = refl
text_is schema (answers.NothingToDo marks) fit = refl
text_is schema (answers.NoHandler queue) fit = refl
text_is schema (answers.Batched position results) fit = refl
text_is schema (answers.AllTurned results) fit = refl

decimal_64 : decimal 64 ≡ codes "64"
unfolding digits
decimal_64 = refl

busy_again : (schema : Schema) → answer_at schema (codes "busy 64" ++ 10 ∷ []) ≡ Ok (answers.Busy 64, [])
unfolding answer_at
busy_again schema = refl

pub answer_again : (schema : Schema) (answer : Answer) → IsPlainAnswer schema answer → answer_at schema (answer_text schema answer) ≡ Ok (answer, [])
unfolding answer_at turned_at logfull_at committed_at rows_at found_at refreshed_at nothing_at nohandler_at batch_at
answer_again schema (answers.Committed position replies) fit =
    let d : Data = rows_data schema replies in
    let sound : IsSound max_depth d = rows_sound 123 schema replies fit.1 in
    by_first schema (codes "committed") (position_word position ++ 32 ∷ (compact_text d ++ 10 ∷ [])) kinds.Committed refl refl refl
    ∙ (pair_again position_field (λ x. answers.Committed x.0 (rows_in schema x.1)) (position_word position) position d (position_form.again 32 position (compact_text d ++ 10 ∷ []) (omega arith) fit.0) sound
    ∙ ap (λ rows. Ok (answers.Committed position rows, [])) (rows_again schema replies fit.1))
answer_again schema (answers.Conflict position other) fit =
    by_first schema (codes "conflict") (position_word position ++ 32 ∷ (other_word other ++ 10 ∷ [])) kinds.Conflict refl refl refl ∙ conflict_again position other fit.0 fit.1
answer_again schema (answers.Turned turn) fit =
    by_first schema (codes "turned") (turn_word turn ++ 32 ∷ (decimal (turn_number turn) ++ 10 ∷ [])) kinds.Turned refl refl refl
    ∙ ap (λ r. r >>= λ t. Ok (answers.Turned t.0, t.1)) (turn_again turn fit)
answer_again schema answers.Unknown fit = refl
answer_again schema answers.TimedOut fit = refl
answer_again schema (answers.Read position rows) fit =
    let d : Data = rows_data schema rows in
    let sound : IsSound max_depth d = rows_sound 123 schema rows fit.1 in
    by_first schema (codes "read") (position_word position ++ 32 ∷ (compact_text d ++ 10 ∷ [])) kinds.Read refl refl refl
    ∙ (pair_again position_field (λ x. answers.Read x.0 (rows_in schema x.1)) (position_word position) position d (position_form.again 32 position (compact_text d ++ 10 ∷ []) (omega arith) fit.0) sound
    ∙ ap (λ found. Ok (answers.Read position found, [])) (rows_again schema rows fit.1))
answer_again schema (answers.Found marks rows) fit =
    let m : Data = marks_data marks in
    let d : Data = finds_data schema rows in
    let marked : IsSound max_depth m = marks_sound 125 marks fit.0.1 in
    let sound : IsSound max_depth d = finds_sound 123 schema rows fit.1 in
    by_first schema (codes "found") (compact_text m ++ 32 ∷ (compact_text d ++ 10 ∷ [])) kinds.Found refl refl refl
    ∙ (pair_again json_field (λ x. answers.Found (find_marks_in x.0) (finds_in schema x.1)) (compact_text m) m d (json_again_in 32 m (compact_text d ++ 10 ∷ []) marked (marks_lack marks fit.0.1)) sound
    ∙ (ap (λ found. Ok (answers.Found found (finds_in schema (finds_data schema rows)), [])) (find_marks_again marks fit.0) ∙ ap (λ found. Ok (answers.Found marks found, [])) (finds_again schema rows fit.1)))
answer_again schema (answers.Refreshed marks) fit =
    by_first schema (codes "refreshed") (compact_text (marks_data marks) ++ 10 ∷ []) kinds.Refreshed refl refl refl
    ∙ (last_again (λ d. answers.Refreshed (marks_in d)) (marks_data marks) (marks_sound 125 marks fit.1) ∙ ap (λ found. Ok (answers.Refreshed found, [])) (marks_again marks fit))
answer_again schema (answers.LogFull position) fit =
    by_first schema (codes "logfull") (position_word position ++ 10 ∷ []) kinds.LogFull refl refl refl
    ∙ made_again position_field (λ p tail. position_word p ++ tail) IsPosition (λ p. answers.LogFull p) position_form position fit
answer_again schema (answers.Busy count) fit =
    ap (λ n. answer_at schema (codes "busy" ++ 32 ∷ (decimal n ++ 10 ∷ []))) fit
    ∙ (ap (λ w. answer_at schema (codes "busy" ++ 32 ∷ (w ++ 10 ∷ []))) decimal_64 ∙ (busy_again schema ∙ ap (λ n. Ok (answers.Busy n, [])) (sym fit)))
answer_again schema answers.Worn fit = refl
answer_again schema (answers.NotHere nodes.Full) fit = absurd fit
answer_again schema (answers.NotHere nodes.Witness) fit = refl
answer_again schema (answers.NotHere nodes.Read) fit = refl
answer_again schema (answers.NothingToDo marks) fit =
    by_first schema (codes "nothing") (compact_text (marks_data marks) ++ 10 ∷ []) kinds.Nothing refl refl refl
    ∙ (last_again (λ d. answers.NothingToDo (marks_in d)) (marks_data marks) (marks_sound 125 marks fit.1) ∙ ap (λ found. Ok (answers.NothingToDo found, [])) (marks_again marks fit))
answer_again schema (answers.NoHandler queue) fit =
    by_first schema (codes "nohandler") (compact_text (string queue) ++ 10 ∷ []) kinds.NoHandler refl refl refl
    ∙ (last_again (λ d. answers.NoHandler (text_in d)) (string queue) fit ∙ ap (λ found. Ok (answers.NoHandler found, [])) (utf8 queue fit))
answer_again schema (answers.Batched position results) fit =
    let d : Data = results_data schema results in
    let sound : IsSound max_depth d = results_sound 121 schema results fit.1 in
    by_first schema (codes "batch") (position_word position ++ 32 ∷ (compact_text d ++ 10 ∷ [])) kinds.Batch refl refl refl
    ∙ (pair_again place_field (λ x. batch_of schema x.0 x.1) (position_word position) (Some position) d (place_form.again 32 (Some position) (compact_text d ++ 10 ∷ []) (omega arith) fit.0) sound
    ∙ ap (λ found. Ok (answers.Batched position found, [])) (results_again schema results fit.1))
answer_again schema (answers.AllTurned results) fit =
    let d : Data = results_data schema results in
    let sound : IsSound max_depth d = results_sound 121 schema results fit in
    by_first schema (codes "batch") (codes "none" ++ 32 ∷ (compact_text d ++ 10 ∷ [])) kinds.Batch refl refl refl
    ∙ (pair_again place_field (λ x. batch_of schema x.0 x.1) (codes "none") None d (place_form.again 32 None (compact_text d ++ 10 ∷ []) (omega arith) tt) sound
    ∙ ap (λ found. Ok (answers.AllTurned found, [])) (results_again schema results fit))

pick : (schema : Schema) (b : Bool) (a : Answer) (o : Option Answer) → IsPlainAnswer schema a → ((answer : Answer) → o ≡ Some answer → IsPlainAnswer schema answer) → (answer : Answer) → (if b then Some a else o) ≡ Some answer → IsPlainAnswer schema answer
pick schema true a o fit others answer h = let e : a ≡ answer = cc in subst (IsPlainAnswer schema) e fit
pick schema false a o fit others answer h = others answer h

fixed_fits : (schema : Schema) (left : List ℕ) (answer : Answer) → fixed_answer left ≡ Some answer → IsPlainAnswer schema answer
fixed_fits schema left =
    pick schema (same left (codes "unknown" ++ 10 ∷ [])) answers.Unknown _ tt
    (pick schema (same left (codes "timedout" ++ 10 ∷ [])) answers.TimedOut _ tt
    (pick schema (same left (codes "worn" ++ 10 ∷ [])) answers.Worn _ tt
    (pick schema (same left (codes "busy 64" ++ 10 ∷ [])) (answers.Busy 64) _ refl
    (pick schema (same left (codes "nothere witness" ++ 10 ∷ [])) (answers.NotHere nodes.Witness) _ tt
    (pick schema (same left (codes "nothere read" ++ 10 ∷ [])) (answers.NotHere nodes.Read) _ tt (λ answer h. absurd (cc)))))))

batch_fits : (schema : Schema) (place : Option Position) (d : Data) → IsPlace place → IsPlainAnswer schema (batch_of schema place d)
batch_fits schema None d fit = results_fit schema d
batch_fits schema (Some position) d fit = (fit, results_fit schema d)

kind_fits : (schema : Schema) (kind : AnswerKind) (left : List ℕ) (answer : Answer) (rest : List ℕ) → of_answer_kind schema kind left ≡ Ok (answer, rest) → IsPlainAnswer schema answer
unfolding turned_at logfull_at committed_at rows_at found_at refreshed_at nothing_at nohandler_at batch_at
kind_fits schema kinds.Conflict left answer rest h = conflict_fits schema left answer rest h
kind_fits schema kinds.Turned left answer rest h =
    let read = bind-ok (turn_at left) (λ t. Ok (answers.Turned t.0, t.1)) (answer, rest) h in
    let same = read_parts (answers.Turned read.0.0) answer read.0.1 rest read.2 in
    subst (IsPlainAnswer schema) same.0 (turn_fits left read.0.0 read.0.1 read.1)
kind_fits schema kinds.LogFull left answer rest h =
    made_fits (IsPlainAnswer schema) position_field (λ p tail. position_word p ++ tail) IsPosition (λ p. answers.LogFull p) position_form (λ p fit. fit) left answer rest h
kind_fits schema kinds.Committed left answer rest h =
    made_behind (IsPlainAnswer schema) position_field IsPosition (λ x. answers.Committed x.0 (rows_in schema x.1)) (position_form.fits 32) (λ position d fit. (fit, rows_fit schema d)) left answer rest h
kind_fits schema kinds.Read left answer rest h =
    made_behind (IsPlainAnswer schema) position_field IsPosition (λ x. answers.Read x.0 (rows_in schema x.1)) (position_form.fits 32) (λ position d fit. (fit, rows_fit schema d)) left answer rest h
kind_fits schema kinds.Found left answer rest h =
    made_behind (IsPlainAnswer schema) json_field (λ m. Unit {0}) (λ x. answers.Found (find_marks_in x.0) (finds_in schema x.1)) (λ from m after is. tt) (λ m d fit. (find_marks_fit m, finds_fit schema d)) left answer rest h
kind_fits schema kinds.Refreshed left answer rest h = made_always (IsPlainAnswer schema) json_field (λ d. answers.Refreshed (marks_in d)) marks_fit left answer rest h
kind_fits schema kinds.Nothing left answer rest h = made_always (IsPlainAnswer schema) json_field (λ d. answers.NothingToDo (marks_in d)) marks_fit left answer rest h
kind_fits schema kinds.NoHandler left answer rest h = made_always (IsPlainAnswer schema) json_field (λ d. answers.NoHandler (text_in d)) text_held left answer rest h
kind_fits schema kinds.Batch left answer rest h =
    made_behind (IsPlainAnswer schema) place_field IsPlace (λ x. batch_of schema x.0 x.1) (place_form.fits 32) (λ place d fit. batch_fits schema place d fit) left answer rest h

pub answer_fits : (schema : Schema) (left : List ℕ) (answer : Answer) (rest : List ℕ) → answer_at schema left ≡ Ok (answer, rest) → IsPlainAnswer schema answer
unfolding answer_at
answer_fits schema left answer rest h = worded (fixed_answer left) refl h
  where
    kinded : (n : ℕ) (after : List ℕ) (o : Option AnswerKind) → by_answer_kind schema n after o ≡ Ok (answer, rest) → IsPlainAnswer schema answer
    kinded n after None e = absurd (cc)
    kinded n after (Some kind) e = kind_fits schema kind after answer rest e

    by_word : (n : ℕ) (o : Option (List ℕ × List ℕ)) → by_answer_word schema n o ≡ Ok (answer, rest) → IsPlainAnswer schema answer
    by_word n None e = absurd (cc)
    by_word n (Some word) e = kinded n word.1 (answer_kind_of word.0) e

    worded : (o : Option Answer) → fixed_answer left ≡ o → or_worded schema left o ≡ Ok (answer, rest) → IsPlainAnswer schema answer
    worded (Some a) f e = fixed_fits schema left answer (f ∙ ap Some (read_parts a answer [] rest e).0)
    worded None f e = by_word (length left) (until 32 left) e
