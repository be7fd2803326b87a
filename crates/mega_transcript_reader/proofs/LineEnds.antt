-- A line feed stands at the end of a line alone, so a text of lines tells them apart.
use Rattle.std.proofs.Common.{◌≡◌, ℕ, ◌<◌, ◌^◌, ◌==◌, ◌&&◌, not, true, All, List, [], ◌∷◌, ◌++◌, length, refl, sym, ap, ◌∙◌, Option, Some, None, Result, Ok, arith, append_assoc, decimal, codes}
use Rattle.std.proofs.lemmas.List.Folds.{list_all-append}
use Rattle.std.proofs.lemmas.List.Elements.{All-head, All-tail}
use Rattle.hex.specs.Hex.{encode_lower, IsBytes}
use Rattle.serde_json.specs.Data.{string}
use Rattle.mega_base.specs.declared.names.OpId.{OpId}
use Rattle.mega_base.specs.declared.names.Epoch.{Epoch}
use Rattle.mega_base.specs.declared.values.NodeKind.TheVariants as nodes
use Rattle.mega_entry.specs.Entries.{entry_text}
use Rattle.mega_wire.specs.Messages.{message_text}
use Rattle.mega_wire.specs.declared.message.Body.{Body}
use Rattle.mega_wire.specs.declared.message.Body.TheVariants as bodies
use Rattle.mega_schema.specs.declared.schema.Schema.{Schema}
use Rattle.mega_outcome.specs.declared.answer.Turn.{Turn}
use Rattle.mega_outcome.specs.declared.answer.Turn.TheVariants as turns
use Rattle.mega_outcome.specs.declared.answer.Answer.{Answer}
use Rattle.mega_outcome.specs.declared.answer.Answer.TheVariants as answers
use Rattle.mega_transcript.specs.declared.item.Item.{Item}
use Rattle.mega_transcript.specs.declared.item.Item.TheVariants as items
use Rattle.mega_transcript.specs.Words.{spaced, op_word, epoch_word}
use Rattle.mega_transcript.specs.Answers.{turn_word, turn_number, other_word, results_data, answer_words}
use Rattle.mega_transcript.specs.Lines.{kind_name, line, lines}
use Rattle.mega_transcript.specs.PlainNames.{IsU8, IsU32, IsU64, IsOp, IsEpoch}
use Rattle.mega_transcript.specs.Rows.{rows_data, finds_data, marks_data}
use Rattle.mega_transcript.specs.PlainTurns.{IsPlainTurn}
use Rattle.mega_transcript.specs.PlainAnswers.{IsPlainOther, IsPlainAnswer}
use Rattle.mega_transcript.specs.Plain.{IsPlain}
use Rattle.mega_transcript.specs.Reading.{until}
use Rattle.mega_transcript_reader.specs.ReadingItems.{parsed}
use Rattle.mega_transcript.proofs.Forms.{lacks, until_again, decimal-lacks, solid-lacks, hex-solid}
use Rattle.mega_transcript_reader.proofs.LineForms.{from_small, to_small}
use Rattle.mega_transcript.proofs.Compact.{text_told}
use Rattle.mega_transcript_reader.proofs.SoundRows.{rows_sound, finds_sound, marks_sound, results_sound}
use Rattle.mega_transcript_reader.proofs.ItemLaws.{parsed_again}

-- bytes with no line feed
abbrev pub NoEnd : List ℕ → Type 0
NoEnd bytes = lacks 10 bytes ≡ true

both : (a b : List ℕ) → NoEnd a → NoEnd b → NoEnd (a ++ b)
both a b f g = list_all-append (λ c. not (c == 10)) a b ∙ (ap (λ t. t && lacks 10 b) f ∙ g)

after : (c : ℕ) (b : List ℕ) → not (c == 10) ≡ true → NoEnd b → NoEnd (c ∷ b)
after c b f g = ap (λ t. t && lacks 10 b) f ∙ g

number : (n : ℕ) → n < 2 ^ 64 → NoEnd (decimal n)
number n small = decimal-lacks 10 n (omega arith) small

pub u8 : (n : ℕ) → IsU8 n → NoEnd (decimal n)
u8 n f = number n (omega arith)

pub u32 : (n : ℕ) → IsU32 n → NoEnd (decimal n)
u32 n f = number n (omega arith)

u64 : (n : ℕ) → IsU64 n → NoEnd (decimal n)
u64 n f = number n (omega arith)

pub hex : (bytes : List ℕ) → IsBytes bytes → NoEnd (encode_lower bytes)
hex bytes f = solid-lacks 10 (encode_lower bytes) (omega arith) (hex-solid bytes f)

op : (o : OpId) → IsOp o → NoEnd (op_word o)
op o f = both (decimal o.node.0) (46 ∷ (decimal o.start ++ 46 ∷ decimal o.number)) (u8 o.node.0 f.0) (after 46 (decimal o.start ++ 46 ∷ decimal o.number) refl (both (decimal o.start) (46 ∷ decimal o.number) (u32 o.start f.1.0) (after 46 (decimal o.number) refl (u32 o.number f.1.1))))

epoch : (e : Epoch) → IsEpoch e → NoEnd (epoch_word e)
epoch e f = both (decimal e.start) (46 ∷ decimal e.count) (u32 e.start f.0) (after 46 (decimal e.count) refl (u32 e.count f.1))

name_told : (body : Body) → NoEnd (kind_name body)
name_told (bodies.Where op group) = refl
name_told (bodies.Top op group position) = refl
name_told (bodies.Accept op group position ballot entry) = refl
name_told (bodies.Accepted op group position ballot entry) = refl
name_told (bodies.Refused op group position asked shown entry) = refl
name_told (bodies.Prepare op group position ballot) = refl
name_told (bodies.Promise op group position ballot accepted) = refl
name_told (bodies.Invalidate op group position) = refl
name_told (bodies.Invalidated op group position) = refl
name_told (bodies.Dead op cell node) = refl
name_told (bodies.Held op cell node) = refl
name_told (bodies.Unheld op cell node) = refl
name_told (bodies.Decide group position entry) = refl
name_told (bodies.Fetch op group position) = refl
name_told (bodies.Have op group position entry) = refl
name_told (bodies.HaveNot op group position) = refl
name_told (bodies.Acquire cell epoch clock) = refl
name_told (bodies.Granted cell epoch clock) = refl
name_told (bodies.Past cell asked greatest) = refl
name_told (bodies.Request token json) = refl
name_told (bodies.Reply token text) = refl

-- ---- lines
abbrev pub NoEnds : List (List ℕ) → Type 0
NoEnds [] = Unit {0}
NoEnds (word ∷ words) = NoEnd word × NoEnds words

-- a text with a line feed at its end alone
abbrev pub IsLine : List ℕ → Type 0
IsLine text = (front : List ℕ) × ((text ≡ front ++ 10 ∷ []) × NoEnd front)

spaced_line : (words : List (List ℕ)) → NoEnds words → IsLine (spaced words)
spaced_line [] f = ([], (refl, refl))
spaced_line (word ∷ words) f =
    let rest = spaced_line words f.1 in
    ((32 ∷ word) ++ rest.0, (ap (λ t. (32 ∷ word) ++ t) rest.1.0 ∙ sym (append_assoc (32 ∷ word) rest.0 (10 ∷ [])), both (32 ∷ word) rest.0 (after 32 word refl f.0) rest.1.1))

pub told : (word : List ℕ) (words : List (List ℕ)) → NoEnd word → NoEnds words → IsLine (word ++ spaced words)
told word words f g =
    let rest = spaced_line words g in
    (word ++ rest.0, (ap (λ t. word ++ t) rest.1.0 ∙ sym (append_assoc word rest.0 (10 ∷ [])), both word rest.0 f rest.1.1))

other_told : (other : Option OpId) → IsPlainOther other → NoEnd (other_word other)
other_told None fit = refl
other_told (Some o) fit = op o fit

turn_told : (turn : Turn) → IsPlainTurn turn → NoEnd (turn_word turn) × NoEnd (decimal (turn_number turn))
turn_told (turns.OtherGroup item) fit = (refl, u32 item fit)
turn_told (turns.BadRow item) fit = (refl, u32 item fit)
turn_told (turns.CheckFailed item) fit = (refl, u32 item fit)
turn_told (turns.NoRow item) fit = (refl, u32 item fit)
turn_told (turns.Overflow item) fit = (refl, u32 item fit)
turn_told (turns.TooLarge bytes) fit = (refl, u64 bytes fit)
turn_told turns.DiskFault fit = absurd fit
turn_told (turns.Full length) fit = absurd fit
turn_told (turns.BadRecord number) fit = absurd fit
turn_told turns.NoMemory fit = absurd fit

answer_told : (schema : Schema) (answer : Answer) → IsPlainAnswer schema answer → NoEnds (answer_words schema answer)
answer_told schema (answers.Committed position replies) fit = (refl, (u64 position.0 fit.0, (text_told 4 (rows_data schema replies) (rows_sound 0 schema replies fit.1), tt)))
answer_told schema (answers.Conflict position other) fit = (refl, (u64 position.0 fit.0, (other_told other fit.1, tt)))
answer_told schema (answers.Turned turn) fit = let t = turn_told turn fit in (refl, (t.0, (t.1, tt)))
answer_told schema answers.Unknown fit = (refl, tt)
answer_told schema answers.TimedOut fit = (refl, tt)
answer_told schema (answers.Read position rows) fit = (refl, (u64 position.0 fit.0, (text_told 4 (rows_data schema rows) (rows_sound 0 schema rows fit.1), tt)))
answer_told schema (answers.Found marks rows) fit = (refl, (text_told 2 (marks_data marks) (marks_sound 0 marks fit.0.1), (text_told 4 (finds_data schema rows) (finds_sound 0 schema rows fit.1), tt)))
answer_told schema (answers.Refreshed marks) fit = (refl, (text_told 2 (marks_data marks) (marks_sound 0 marks fit.1), tt))
answer_told schema (answers.LogFull position) fit = (refl, (u64 position.0 fit, tt))
answer_told schema (answers.Busy count) fit = (refl, (number count (let e : count ≡ 64 = fit in omega arith), tt))
answer_told schema answers.Worn fit = (refl, tt)
answer_told schema (answers.NotHere nodes.Full) fit = absurd fit
answer_told schema (answers.NotHere nodes.Witness) fit = (refl, (refl, tt))
answer_told schema (answers.NotHere nodes.Read) fit = (refl, (refl, tt))
answer_told schema (answers.NothingToDo marks) fit = (refl, (text_told 2 (marks_data marks) (marks_sound 0 marks fit.1), tt))
answer_told schema (answers.NoHandler queue) fit = (refl, (text_told 0 (string queue) fit, tt))
answer_told schema (answers.Batched position results) fit = (refl, (u64 position.0 fit.0, (text_told 6 (results_data schema results) (results_sound 0 schema results fit.1), tt)))
answer_told schema (answers.AllTurned results) fit = (refl, (refl, (text_told 6 (results_data schema results) (results_sound 0 schema results fit), tt)))

pub line_told : (schema : Schema) (item : Item) → IsPlain schema item → IsLine (line schema item)
line_told schema (items.Start node start) fit = told (codes "start") (decimal node.0 ∷ decimal start ∷ []) refl (u8 node.0 fit.0, (u32 start fit.1, tt))
line_told schema (items.Unsent node message) fit = told (codes "unsent") (decimal node.0 ∷ kind_name message.body ∷ encode_lower (message_text message) ∷ []) refl (u8 node.0 fit.0, (name_told message.body, (hex (message_text message) fit.1.1, tt)))
line_told schema (items.Tick node now) fit = told (codes "tick") (decimal node.0 ∷ decimal now ∷ []) refl (u8 node.0 fit.0, (u64 now fit.1, tt))
line_told schema (items.Begin o text) fit = told (codes "begin") (op_word o ∷ text ∷ []) refl (op o fit.0, (fit.1.0, tt))
line_told schema (items.Taken n) fit = told (codes "taken") (decimal n ∷ []) refl (u64 n fit, tt)
line_told schema (items.Dropped n) fit = told (codes "dropped") (decimal n ∷ []) refl (u64 n fit, tt)
line_told schema (items.Sent n message) fit = told (codes "sent") (decimal n ∷ decimal message.from ∷ decimal message.to ∷ kind_name message.body ∷ encode_lower (message_text message) ∷ []) refl (u64 n fit.0, (number message.from (from_small message fit.1), (number message.to (to_small message fit.1), (name_told message.body, (hex (message_text message) fit.1.1, tt)))))
line_told schema (items.Grant cell node e) fit = told (codes "grant") (decimal cell ∷ decimal node.0 ∷ epoch_word e ∷ []) refl (u8 cell fit.0, (u8 node.0 fit.1.0, (epoch e fit.1.1, tt)))
line_told schema (items.Lapse cell node e) fit = told (codes "lapse") (decimal cell ∷ decimal node.0 ∷ epoch_word e ∷ []) refl (u8 cell fit.0, (u8 node.0 fit.1.0, (epoch e fit.1.1, tt)))
line_told schema (items.Counts node cell e) fit = told (codes "counts") (decimal node.0 ∷ decimal cell ∷ epoch_word e ∷ []) refl (u8 node.0 fit.0, (u8 cell fit.1.0, (epoch e fit.1.1, tt)))
line_told schema (items.Forgets node cell e) fit = told (codes "forgets") (decimal node.0 ∷ decimal cell ∷ epoch_word e ∷ []) refl (u8 node.0 fit.0, (u8 cell fit.1.0, (epoch e fit.1.1, tt)))
line_told schema (items.Serving node e) fit = told (codes "serving") (decimal node.0 ∷ epoch_word e ∷ []) refl (u8 node.0 fit.0, (epoch e fit.1, tt))
line_told schema (items.Lost node e) fit = told (codes "lost") (decimal node.0 ∷ epoch_word e ∷ []) refl (u8 node.0 fit.0, (epoch e fit.1, tt))
line_told schema (items.Valid node group position) fit = told (codes "valid") (decimal node.0 ∷ encode_lower group.key ∷ decimal position.0 ∷ []) refl (u8 node.0 fit.0, (hex group.key fit.1.0, (u64 position.0 fit.1.1, tt)))
line_told schema (items.Invalid node group position) fit = told (codes "invalid") (decimal node.0 ∷ encode_lower group.key ∷ decimal position.0 ∷ []) refl (u8 node.0 fit.0, (hex group.key fit.1.0, (u64 position.0 fit.1.1, tt)))
line_told schema (items.Decide node group position entry) fit = told (codes "decide") (decimal node.0 ∷ encode_lower group.key ∷ decimal position.0 ∷ encode_lower (entry_text entry) ∷ []) refl (u8 node.0 fit.0.0, (hex group.key fit.0.1.0, (u64 position.0 fit.0.1.1, (hex (entry_text entry) fit.1.1, tt))))
line_told schema (items.Apply node group position) fit = told (codes "apply") (decimal node.0 ∷ encode_lower group.key ∷ decimal position.0 ∷ []) refl (u8 node.0 fit.0, (hex group.key fit.1.0, (u64 position.0 fit.1.1, tt)))
line_told schema (items.Answer o answer) fit = told (codes "answer") (op_word o ∷ answer_words schema answer) refl (op o fit.0, answer_told schema answer fit.1)
line_told schema (items.Crash node) fit = told (codes "crash") (decimal node.0 ∷ []) refl (u8 node.0 fit, tt)
line_told schema items.Cut fit = told (codes "cut") [] refl tt
line_told schema items.Unsafe fit = told (codes "unsafe") [] refl tt

-- ---- texts of lines
some_parts : (a b c d : List ℕ) → (let l : Option (List ℕ × List ℕ) = Some (a, c) in let r : Option (List ℕ × List ℕ) = Some (b, d) in l ≡ r) → (a ≡ b) × (c ≡ d)
some_parts a b c d h =
    let x : List ℕ × List ℕ = (a, c) in
    let y : List ℕ × List ℕ = (b, d) in
    let e : x ≡ y = cc in
    (ap (λ (z : List ℕ × List ℕ). z.0) e, ap (λ (z : List ℕ × List ℕ). z.1) e)

first_line : (s t r q : List ℕ) → IsLine s → IsLine t → s ++ r ≡ t ++ q → (s ≡ t) × (r ≡ q)
first_line s t r q f g h =
    let cut : (u v : List ℕ) (l : IsLine u) → u ++ v ≡ l.0 ++ 10 ∷ v = λ u v l. ap (λ w. w ++ v) l.1.0 ∙ append_assoc l.0 (10 ∷ []) v in
    let parts = some_parts f.0 g.0 r q (sym (until_again 10 f.0 r f.1.1) ∙ (ap (until 10) (sym (cut s r f) ∙ (h ∙ cut t q g)) ∙ until_again 10 g.0 q g.1.1)) in
    (f.1.0 ∙ (ap (λ w. w ++ 10 ∷ []) parts.0 ∙ sym g.1.0), parts.1)

ok_is : (a b : Item) → (let l : Result Item ℕ = Ok a in let r : Result Item ℕ = Ok b in l ≡ r) → a ≡ b
ok_is a b h = cc

same_item : (schema : Schema) (x y : Item) → IsPlain schema x → IsPlain schema y → line schema x ≡ line schema y → x ≡ y
same_item schema x y f g h = ok_is x y (sym (parsed_again schema x f) ∙ (ap (parsed schema) h ∙ parsed_again schema y g))

-- a line is not empty
not_empty : (front rest : List ℕ) → [] ≡ (front ++ 10 ∷ []) ++ rest → ⊥
not_empty [] rest h = cc
not_empty (c ∷ front) rest h = cc

pub same_tape : (schema : Schema) (xs ys : List Item) → All (IsPlain schema) xs → All (IsPlain schema) ys → lines schema xs ≡ lines schema ys → xs ≡ ys
same_tape schema [] [] f g h = refl
same_tape schema [] (y ∷ ys) f g h = let l = line_told schema y (All-head (IsPlain schema) y ys g) in absurd (not_empty l.0 (lines schema ys) (h ∙ ap (λ w. w ++ lines schema ys) l.1.0))
same_tape schema (x ∷ xs) [] f g h = let l = line_told schema x (All-head (IsPlain schema) x xs f) in absurd (not_empty l.0 (lines schema xs) (sym h ∙ ap (λ w. w ++ lines schema xs) l.1.0))
same_tape schema (x ∷ xs) (y ∷ ys) f g h =
    let p = All-head (IsPlain schema) x xs f in
    let q = All-head (IsPlain schema) y ys g in
    let parts = first_line (line schema x) (line schema y) (lines schema xs) (lines schema ys) (line_told schema x p) (line_told schema y q) h in
    λ i. same_item schema x y p q parts.0 i ∷ same_tape schema xs ys (All-tail (IsPlain schema) x xs f) (All-tail (IsPlain schema) y ys g) parts.1 i
