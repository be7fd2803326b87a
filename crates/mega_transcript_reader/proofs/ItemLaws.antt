-- Each plain item is read from its line, and what is read is plain.
use Rattle.std.proofs.Common.{◌≡◌, ℕ, ◌==◌, Bool, true, false, List, [], ◌∷◌, ◌++◌, length, refl, sym, ap, ◌∙◌, subst, Option, Some, None, Result, Ok, Err, arith, inl, inr, decimal, codes}
use Rattle.std.specs.Prelude.{if◌then◌else◌}
use Rattle.std.proofs.lemmas.Slice.Eq.{bytes_eq-Decides}
use Rattle.hex.specs.Hex.{encode_lower}
use Rattle.mega_base.specs.Reading.{◌>>=◌}
use Rattle.mega_base.specs.Codecs.{bind-ok, if-ok}
use Rattle.mega_entry.specs.Entries.{entry_text}
use Rattle.mega_wire.specs.Messages.{message_text}
use Rattle.mega_schema.specs.declared.schema.Schema.{Schema}
use Rattle.mega_syntax.specs.Names.{same}
use Rattle.mega_transcript.specs.declared.item.Item.{Item}
use Rattle.mega_transcript.specs.declared.item.Item.TheVariants as items
use Rattle.mega_transcript_reader.specs.declared.kinds.LineKind.{LineKind}
use Rattle.mega_transcript_reader.specs.declared.kinds.LineKind.TheVariants as kinds
use Rattle.mega_transcript.specs.Words.{node_word, position_word, epoch_word, op_word, group_word}
use Rattle.mega_transcript_reader.specs.Kinds.{kind_of}
use Rattle.mega_transcript.specs.Lines.{kind_name, line, HasLine}
use Rattle.mega_transcript.specs.PlainNames.{IsU8, IsU32, IsU64, IsNode, IsPosition, IsEpoch, IsOp, IsGroup}
use Rattle.mega_transcript.specs.Plain.{IsWhole, IsWritten, IsPlain}
use Rattle.mega_transcript.specs.Reading.{Read, Field, until, two, made, u32_field, u64_field, node_field, op_field, message_field, entry_field}
use Rattle.mega_transcript_reader.specs.ReadingItems.{behind, cell_node_epoch, node_cell_epoch, node_epoch, node_group_position, start_at, unsent_at, tick_at, begin_at, taken_at, dropped_at, sent_at, grant_at, lapse_at, counts_at, forgets_at, serving_at, lost_at, valid_at, invalid_at, decide_at, apply_at, answered_at, crash_at, of_kind, by_kind, by_word, item_at, whole_item, located, differs_at, difference, unless_differs, agreed, parsed}
use Rattle.mega_transcript.proofs.Forms.{lacks, until_again, Form, read_parts, u64_form, node_form, op_form}
use Rattle.mega_transcript.specs.Requests.{IsRequest, request_field}
use Rattle.mega_transcript_reader.proofs.Requesting.{LastForm, two_last, request_form}
use Rattle.mega_base.specs.declared.names.OpId.{OpId}
use Rattle.mega_outcome.specs.declared.answer.Answer.{Answer}
use Rattle.mega_transcript.specs.PlainAnswers.{IsPlainAnswer}
use Rattle.mega_transcript_reader.specs.ReadingAnswers.{answer_at}
use Rattle.mega_transcript_reader.proofs.AnswerLaws.{answer_text, text_is, answer_again, answer_fits}
use Rattle.mega_transcript_reader.proofs.LineForms.{cell_node_epoch_form, node_cell_epoch_form, node_epoch_form, place_form, decided_form, start_form, tick_form, unsent_form, sent_form}

-- a line goes on as its first word says
pub by_first : (schema : Schema) (word rest : List ℕ) (kind : LineKind) → lacks 32 word ≡ true → kind_of word ≡ Some kind
    → same (word ++ 32 ∷ rest) (codes "cut" ++ 10 ∷ []) ≡ false → same (word ++ 32 ∷ rest) (codes "unsafe" ++ 10 ∷ []) ≡ false
    → item_at schema (word ++ 32 ∷ rest) ≡ of_kind schema kind rest
unfolding item_at
by_first schema word rest kind solid is cut unsafe =
    ap (λ t. if t then Ok (items.Cut, []) else (if same (word ++ 32 ∷ rest) (codes "unsafe" ++ 10 ∷ []) then Ok (items.Unsafe, []) else by_word schema (length (word ++ 32 ∷ rest)) (until 32 (word ++ 32 ∷ rest)))) cut
    ∙ ap (λ t. if t then Ok (items.Unsafe, []) else by_word schema (length (word ++ 32 ∷ rest)) (until 32 (word ++ 32 ∷ rest))) unsafe
    ∙ ap (by_word schema (length (word ++ 32 ∷ rest))) (until_again 32 word rest solid)
    ∙ ap (by_kind schema (length (word ++ 32 ∷ rest)) rest) is

line_again : {A : Type 0} (f : Field A) (t : A → List ℕ → List ℕ) (F : A → Type 0) (make : A → Item) → Form f t F → (x : A) → F x → made make f 10 (t x (10 ∷ [])) ≡ Ok (make x, [])
line_again f t F make c x fit = ap (λ r. r >>= λ a. Ok (make a.0, a.1)) (c.again 10 x [] (omega arith) fit)

line_fits : {A : Type 0} (schema : Schema) (f : Field A) (t : A → List ℕ → List ℕ) (F : A → Type 0) (make : A → Item) → Form f t F
    → ((x : A) → F x → IsPlain schema (make x)) → (left : List ℕ) (item : Item) (rest : List ℕ) → made make f 10 left ≡ Ok (item, rest) → IsPlain schema item
line_fits schema f t F make c to left item rest h =
    let read = bind-ok (f 10 left) (λ a. Ok (make a.0, a.1)) (item, rest) h in
    let same = read_parts (make read.0.0) item read.0.1 rest read.2 in
    subst (IsPlain schema) same.0 (to read.0.0 (c.fits 10 left read.0.0 read.0.1 read.1))

-- the same of a line whose last word may have other bytes that end words
last_again : {A : Type 0} (f : Field A) (t : A → List ℕ → List ℕ) (F : A → Type 0) (make : A → Item) → LastForm f t F → (x : A) → F x → made make f 10 (t x (10 ∷ [])) ≡ Ok (make x, [])
last_again f t F make c x fit = ap (λ r. r >>= λ a. Ok (make a.0, a.1)) (c.again x [] fit)

last_fits : {A : Type 0} (schema : Schema) (f : Field A) (t : A → List ℕ → List ℕ) (F : A → Type 0) (make : A → Item) → LastForm f t F
    → ((x : A) → F x → IsPlain schema (make x)) → (left : List ℕ) (item : Item) (rest : List ℕ) → made make f 10 left ≡ Ok (item, rest) → IsPlain schema item
last_fits schema f t F make c to left item rest h =
    let read = bind-ok (f 10 left) (λ a. Ok (make a.0, a.1)) (item, rest) h in
    let same = read_parts (make read.0.0) item read.0.1 rest read.2 in
    subst (IsPlain schema) same.0 (to read.0.0 (c.fits left read.0.0 read.0.1 read.1))

begin_form : LastForm (two 32 op_field request_field) (λ x tail. op_word x.0 ++ 32 ∷ (x.1 ++ tail)) (λ x. IsOp x.0 × IsRequest x.1)
begin_form = two_last 32 op_field request_field (λ op tail. op_word op ++ tail) (λ text tail. text ++ tail) IsOp IsRequest (omega arith) op_form request_form

answered_again : (schema : Schema) (op : OpId) (answer : Answer) → IsOp op → IsPlainAnswer schema answer → answered_at schema (op_word op ++ 32 ∷ answer_text schema answer) ≡ Ok (items.Answer op answer, [])
unfolding answered_at
answered_again schema op answer fit plain =
    ap (λ r. r >>= λ o. answer_at schema o.1 >>= λ a. Ok (items.Answer o.0 a.0, a.1)) (op_form.again 32 op (answer_text schema answer) (omega arith) fit)
    ∙ ap (λ r. r >>= λ a. Ok (items.Answer op a.0, a.1)) (answer_again schema answer plain)

answered_fits : (schema : Schema) (left : List ℕ) (item : Item) (rest : List ℕ) → answered_at schema left ≡ Ok (item, rest) → IsPlain schema item
unfolding answered_at
answered_fits schema left item rest h =
    let first = bind-ok (op_field 32 left) (λ o. answer_at schema o.1 >>= λ a. Ok (items.Answer o.0 a.0, a.1)) (item, rest) h in
    let second = bind-ok (answer_at schema first.0.1) (λ a. Ok (items.Answer first.0.0 a.0, a.1)) (item, rest) first.2 in
    let same = read_parts (items.Answer first.0.0 second.0.0) item second.0.1 rest second.2 in
    subst (IsPlain schema) same.0 (op_form.fits 32 left first.0.0 first.0.1 first.1, answer_fits schema first.0.1 second.0.0 second.0.1 second.1)

cut_again : (schema : Schema) → item_at schema (line schema items.Cut) ≡ Ok (items.Cut, [])
unfolding item_at
cut_again schema = refl

unsafe_again : (schema : Schema) → item_at schema (line schema items.Unsafe) ≡ Ok (items.Unsafe, [])
unfolding item_at
unsafe_again schema = refl

pub item_again : (schema : Schema) (item : Item) → IsPlain schema item → item_at schema (line schema item) ≡ Ok (item, [])
unfolding start_at unsent_at tick_at begin_at taken_at dropped_at sent_at grant_at lapse_at counts_at forgets_at serving_at lost_at valid_at invalid_at decide_at apply_at answered_at crash_at
item_again schema (items.Start node start) fit =
    by_first schema (codes "start") (node_word node ++ 32 ∷ (decimal start ++ 10 ∷ [])) kinds.Start refl refl refl refl
    ∙ line_again (two 32 node_field u32_field) (λ x tail. node_word x.0 ++ 32 ∷ (decimal x.1 ++ tail)) (λ x. IsNode x.0 × IsU32 x.1) (λ x. items.Start x.0 x.1) start_form (node, start) fit
item_again schema (items.Unsent node message) fit =
    by_first schema (codes "unsent") (node_word node ++ 32 ∷ (kind_name message.body ++ 32 ∷ (encode_lower (message_text message) ++ 10 ∷ []))) kinds.Unsent refl refl refl refl
    ∙ line_again (two 32 node_field (behind message_field)) (λ x tail. node_word x.0 ++ 32 ∷ (kind_name x.1.body ++ 32 ∷ (encode_lower (message_text x.1) ++ tail))) (λ x. IsNode x.0 × IsWhole x.1) (λ x. items.Unsent x.0 x.1) unsent_form (node, message) fit
item_again schema (items.Tick node now) fit =
    by_first schema (codes "tick") (node_word node ++ 32 ∷ (decimal now ++ 10 ∷ [])) kinds.Tick refl refl refl refl
    ∙ line_again (two 32 node_field u64_field) (λ x tail. node_word x.0 ++ 32 ∷ (decimal x.1 ++ tail)) (λ x. IsNode x.0 × IsU64 x.1) (λ x. items.Tick x.0 x.1) tick_form (node, now) fit
item_again schema (items.Begin op text) fit =
    by_first schema (codes "begin") (op_word op ++ 32 ∷ (text ++ 10 ∷ [])) kinds.Begin refl refl refl refl
    ∙ last_again (two 32 op_field request_field) (λ x tail. op_word x.0 ++ 32 ∷ (x.1 ++ tail)) (λ x. IsOp x.0 × IsRequest x.1) (λ x. items.Begin x.0 x.1) begin_form (op, text) fit
item_again schema (items.Taken number) fit =
    by_first schema (codes "taken") (decimal number ++ 10 ∷ []) kinds.Taken refl refl refl refl
    ∙ line_again (u64_field) (λ n tail. decimal n ++ tail) (IsU64) (λ x. items.Taken x) u64_form number fit
item_again schema (items.Dropped number) fit =
    by_first schema (codes "dropped") (decimal number ++ 10 ∷ []) kinds.Dropped refl refl refl refl
    ∙ line_again (u64_field) (λ n tail. decimal n ++ tail) (IsU64) (λ x. items.Dropped x) u64_form number fit
item_again schema (items.Sent number message) fit =
    by_first schema (codes "sent") (decimal number ++ 32 ∷ (decimal message.from ++ 32 ∷ (decimal message.to ++ 32 ∷ (kind_name message.body ++ 32 ∷ (encode_lower (message_text message) ++ 10 ∷ []))))) kinds.Sent refl refl refl refl
    ∙ line_again (two 32 u64_field (behind (behind (behind message_field)))) (λ x tail. decimal x.0 ++ 32 ∷ (decimal x.1.from ++ 32 ∷ (decimal x.1.to ++ 32 ∷ (kind_name x.1.body ++ 32 ∷ (encode_lower (message_text x.1) ++ tail))))) (λ x. IsU64 x.0 × IsWhole x.1) (λ x. items.Sent x.0 x.1) sent_form (number, message) fit
item_again schema (items.Grant cell node epoch) fit =
    by_first schema (codes "grant") (decimal cell ++ 32 ∷ (node_word node ++ 32 ∷ (epoch_word epoch ++ 10 ∷ []))) kinds.Grant refl refl refl refl
    ∙ line_again (cell_node_epoch) (λ x tail. decimal x.0 ++ 32 ∷ (node_word x.1.0 ++ 32 ∷ (epoch_word x.1.1 ++ tail))) (λ x. IsU8 x.0 × (IsNode x.1.0 × IsEpoch x.1.1)) (λ x. items.Grant x.0 x.1.0 x.1.1) cell_node_epoch_form (cell, (node, epoch)) fit
item_again schema (items.Lapse cell node epoch) fit =
    by_first schema (codes "lapse") (decimal cell ++ 32 ∷ (node_word node ++ 32 ∷ (epoch_word epoch ++ 10 ∷ []))) kinds.Lapse refl refl refl refl
    ∙ line_again (cell_node_epoch) (λ x tail. decimal x.0 ++ 32 ∷ (node_word x.1.0 ++ 32 ∷ (epoch_word x.1.1 ++ tail))) (λ x. IsU8 x.0 × (IsNode x.1.0 × IsEpoch x.1.1)) (λ x. items.Lapse x.0 x.1.0 x.1.1) cell_node_epoch_form (cell, (node, epoch)) fit
item_again schema (items.Counts node cell epoch) fit =
    by_first schema (codes "counts") (node_word node ++ 32 ∷ (decimal cell ++ 32 ∷ (epoch_word epoch ++ 10 ∷ []))) kinds.Counts refl refl refl refl
    ∙ line_again (node_cell_epoch) (λ x tail. node_word x.0 ++ 32 ∷ (decimal x.1.0 ++ 32 ∷ (epoch_word x.1.1 ++ tail))) (λ x. IsNode x.0 × (IsU8 x.1.0 × IsEpoch x.1.1)) (λ x. items.Counts x.0 x.1.0 x.1.1) node_cell_epoch_form (node, (cell, epoch)) fit
item_again schema (items.Forgets node cell epoch) fit =
    by_first schema (codes "forgets") (node_word node ++ 32 ∷ (decimal cell ++ 32 ∷ (epoch_word epoch ++ 10 ∷ []))) kinds.Forgets refl refl refl refl
    ∙ line_again (node_cell_epoch) (λ x tail. node_word x.0 ++ 32 ∷ (decimal x.1.0 ++ 32 ∷ (epoch_word x.1.1 ++ tail))) (λ x. IsNode x.0 × (IsU8 x.1.0 × IsEpoch x.1.1)) (λ x. items.Forgets x.0 x.1.0 x.1.1) node_cell_epoch_form (node, (cell, epoch)) fit
item_again schema (items.Serving node epoch) fit =
    by_first schema (codes "serving") (node_word node ++ 32 ∷ (epoch_word epoch ++ 10 ∷ [])) kinds.Serving refl refl refl refl
    ∙ line_again (node_epoch) (λ x tail. node_word x.0 ++ 32 ∷ (epoch_word x.1 ++ tail)) (λ x. IsNode x.0 × IsEpoch x.1) (λ x. items.Serving x.0 x.1) node_epoch_form (node, epoch) fit
item_again schema (items.Lost node epoch) fit =
    by_first schema (codes "lost") (node_word node ++ 32 ∷ (epoch_word epoch ++ 10 ∷ [])) kinds.Lost refl refl refl refl
    ∙ line_again (node_epoch) (λ x tail. node_word x.0 ++ 32 ∷ (epoch_word x.1 ++ tail)) (λ x. IsNode x.0 × IsEpoch x.1) (λ x. items.Lost x.0 x.1) node_epoch_form (node, epoch) fit
item_again schema (items.Valid node group position) fit =
    by_first schema (codes "valid") (node_word node ++ 32 ∷ (group_word group ++ 32 ∷ (position_word position ++ 10 ∷ []))) kinds.Valid refl refl refl refl
    ∙ line_again (node_group_position) (λ x tail. node_word x.0 ++ 32 ∷ (group_word x.1.0 ++ 32 ∷ (position_word x.1.1 ++ tail))) (λ x. IsNode x.0 × (IsGroup x.1.0 × IsPosition x.1.1)) (λ x. items.Valid x.0 x.1.0 x.1.1) place_form (node, (group, position)) fit
item_again schema (items.Invalid node group position) fit =
    by_first schema (codes "invalid") (node_word node ++ 32 ∷ (group_word group ++ 32 ∷ (position_word position ++ 10 ∷ []))) kinds.Invalid refl refl refl refl
    ∙ line_again (node_group_position) (λ x tail. node_word x.0 ++ 32 ∷ (group_word x.1.0 ++ 32 ∷ (position_word x.1.1 ++ tail))) (λ x. IsNode x.0 × (IsGroup x.1.0 × IsPosition x.1.1)) (λ x. items.Invalid x.0 x.1.0 x.1.1) place_form (node, (group, position)) fit
item_again schema (items.Decide node group position entry) fit =
    by_first schema (codes "decide") (node_word node ++ 32 ∷ (group_word group ++ 32 ∷ (position_word position ++ 32 ∷ (encode_lower (entry_text entry) ++ 10 ∷ [])))) kinds.Decide refl refl refl refl
    ∙ line_again (two 32 node_group_position entry_field) (λ x tail. node_word x.0.0 ++ 32 ∷ (group_word x.0.1.0 ++ 32 ∷ (position_word x.0.1.1 ++ 32 ∷ (encode_lower (entry_text x.1) ++ tail)))) (λ x. (IsNode x.0.0 × (IsGroup x.0.1.0 × IsPosition x.0.1.1)) × IsWritten x.1) (λ x. items.Decide x.0.0 x.0.1.0 x.0.1.1 x.1) decided_form ((node, (group, position)), entry) fit
item_again schema (items.Apply node group position) fit =
    by_first schema (codes "apply") (node_word node ++ 32 ∷ (group_word group ++ 32 ∷ (position_word position ++ 10 ∷ []))) kinds.Apply refl refl refl refl
    ∙ line_again (node_group_position) (λ x tail. node_word x.0 ++ 32 ∷ (group_word x.1.0 ++ 32 ∷ (position_word x.1.1 ++ tail))) (λ x. IsNode x.0 × (IsGroup x.1.0 × IsPosition x.1.1)) (λ x. items.Apply x.0 x.1.0 x.1.1) place_form (node, (group, position)) fit
item_again schema (items.Answer op answer) fit =
    ap (λ words. item_at schema (codes "answer" ++ 32 ∷ (op_word op ++ words))) (text_is schema answer fit.1)
    ∙ by_first schema (codes "answer") (op_word op ++ 32 ∷ answer_text schema answer) kinds.Answer refl refl refl refl
    ∙ answered_again schema op answer fit.0 fit.1
item_again schema (items.Crash node) fit =
    by_first schema (codes "crash") (node_word node ++ 10 ∷ []) kinds.Crash refl refl refl refl
    ∙ line_again (node_field) (λ node tail. node_word node ++ tail) (IsNode) (λ x. items.Crash x) node_form node fit
item_again schema items.Cut fit = cut_again schema
item_again schema items.Unsafe fit = unsafe_again schema

of_kind_fits : (schema : Schema) (kind : LineKind) (left : List ℕ) (item : Item) (rest : List ℕ) → of_kind schema kind left ≡ Ok (item, rest) → IsPlain schema item
unfolding start_at unsent_at tick_at begin_at taken_at dropped_at sent_at grant_at lapse_at counts_at forgets_at serving_at lost_at valid_at invalid_at decide_at apply_at answered_at crash_at
of_kind_fits schema kinds.Start left item rest h = line_fits schema (two 32 node_field u32_field) (λ x tail. node_word x.0 ++ 32 ∷ (decimal x.1 ++ tail)) (λ x. IsNode x.0 × IsU32 x.1) (λ x. items.Start x.0 x.1) start_form (λ x fit. fit) left item rest h
of_kind_fits schema kinds.Unsent left item rest h = line_fits schema (two 32 node_field (behind message_field)) (λ x tail. node_word x.0 ++ 32 ∷ (kind_name x.1.body ++ 32 ∷ (encode_lower (message_text x.1) ++ tail))) (λ x. IsNode x.0 × IsWhole x.1) (λ x. items.Unsent x.0 x.1) unsent_form (λ x fit. fit) left item rest h
of_kind_fits schema kinds.Tick left item rest h = line_fits schema (two 32 node_field u64_field) (λ x tail. node_word x.0 ++ 32 ∷ (decimal x.1 ++ tail)) (λ x. IsNode x.0 × IsU64 x.1) (λ x. items.Tick x.0 x.1) tick_form (λ x fit. fit) left item rest h
of_kind_fits schema kinds.Begin left item rest h = last_fits schema (two 32 op_field request_field) (λ x tail. op_word x.0 ++ 32 ∷ (x.1 ++ tail)) (λ x. IsOp x.0 × IsRequest x.1) (λ x. items.Begin x.0 x.1) begin_form (λ x fit. fit) left item rest h
of_kind_fits schema kinds.Taken left item rest h = line_fits schema (u64_field) (λ n tail. decimal n ++ tail) (IsU64) (λ x. items.Taken x) u64_form (λ x fit. fit) left item rest h
of_kind_fits schema kinds.Dropped left item rest h = line_fits schema (u64_field) (λ n tail. decimal n ++ tail) (IsU64) (λ x. items.Dropped x) u64_form (λ x fit. fit) left item rest h
of_kind_fits schema kinds.Sent left item rest h = line_fits schema (two 32 u64_field (behind (behind (behind message_field)))) (λ x tail. decimal x.0 ++ 32 ∷ (decimal x.1.from ++ 32 ∷ (decimal x.1.to ++ 32 ∷ (kind_name x.1.body ++ 32 ∷ (encode_lower (message_text x.1) ++ tail))))) (λ x. IsU64 x.0 × IsWhole x.1) (λ x. items.Sent x.0 x.1) sent_form (λ x fit. fit) left item rest h
of_kind_fits schema kinds.Grant left item rest h = line_fits schema (cell_node_epoch) (λ x tail. decimal x.0 ++ 32 ∷ (node_word x.1.0 ++ 32 ∷ (epoch_word x.1.1 ++ tail))) (λ x. IsU8 x.0 × (IsNode x.1.0 × IsEpoch x.1.1)) (λ x. items.Grant x.0 x.1.0 x.1.1) cell_node_epoch_form (λ x fit. fit) left item rest h
of_kind_fits schema kinds.Lapse left item rest h = line_fits schema (cell_node_epoch) (λ x tail. decimal x.0 ++ 32 ∷ (node_word x.1.0 ++ 32 ∷ (epoch_word x.1.1 ++ tail))) (λ x. IsU8 x.0 × (IsNode x.1.0 × IsEpoch x.1.1)) (λ x. items.Lapse x.0 x.1.0 x.1.1) cell_node_epoch_form (λ x fit. fit) left item rest h
of_kind_fits schema kinds.Counts left item rest h = line_fits schema (node_cell_epoch) (λ x tail. node_word x.0 ++ 32 ∷ (decimal x.1.0 ++ 32 ∷ (epoch_word x.1.1 ++ tail))) (λ x. IsNode x.0 × (IsU8 x.1.0 × IsEpoch x.1.1)) (λ x. items.Counts x.0 x.1.0 x.1.1) node_cell_epoch_form (λ x fit. fit) left item rest h
of_kind_fits schema kinds.Forgets left item rest h = line_fits schema (node_cell_epoch) (λ x tail. node_word x.0 ++ 32 ∷ (decimal x.1.0 ++ 32 ∷ (epoch_word x.1.1 ++ tail))) (λ x. IsNode x.0 × (IsU8 x.1.0 × IsEpoch x.1.1)) (λ x. items.Forgets x.0 x.1.0 x.1.1) node_cell_epoch_form (λ x fit. fit) left item rest h
of_kind_fits schema kinds.Serving left item rest h = line_fits schema (node_epoch) (λ x tail. node_word x.0 ++ 32 ∷ (epoch_word x.1 ++ tail)) (λ x. IsNode x.0 × IsEpoch x.1) (λ x. items.Serving x.0 x.1) node_epoch_form (λ x fit. fit) left item rest h
of_kind_fits schema kinds.Lost left item rest h = line_fits schema (node_epoch) (λ x tail. node_word x.0 ++ 32 ∷ (epoch_word x.1 ++ tail)) (λ x. IsNode x.0 × IsEpoch x.1) (λ x. items.Lost x.0 x.1) node_epoch_form (λ x fit. fit) left item rest h
of_kind_fits schema kinds.Valid left item rest h = line_fits schema (node_group_position) (λ x tail. node_word x.0 ++ 32 ∷ (group_word x.1.0 ++ 32 ∷ (position_word x.1.1 ++ tail))) (λ x. IsNode x.0 × (IsGroup x.1.0 × IsPosition x.1.1)) (λ x. items.Valid x.0 x.1.0 x.1.1) place_form (λ x fit. fit) left item rest h
of_kind_fits schema kinds.Invalid left item rest h = line_fits schema (node_group_position) (λ x tail. node_word x.0 ++ 32 ∷ (group_word x.1.0 ++ 32 ∷ (position_word x.1.1 ++ tail))) (λ x. IsNode x.0 × (IsGroup x.1.0 × IsPosition x.1.1)) (λ x. items.Invalid x.0 x.1.0 x.1.1) place_form (λ x fit. fit) left item rest h
of_kind_fits schema kinds.Decide left item rest h = line_fits schema (two 32 node_group_position entry_field) (λ x tail. node_word x.0.0 ++ 32 ∷ (group_word x.0.1.0 ++ 32 ∷ (position_word x.0.1.1 ++ 32 ∷ (encode_lower (entry_text x.1) ++ tail)))) (λ x. (IsNode x.0.0 × (IsGroup x.0.1.0 × IsPosition x.0.1.1)) × IsWritten x.1) (λ x. items.Decide x.0.0 x.0.1.0 x.0.1.1 x.1) decided_form (λ x fit. fit) left item rest h
of_kind_fits schema kinds.Apply left item rest h = line_fits schema (node_group_position) (λ x tail. node_word x.0 ++ 32 ∷ (group_word x.1.0 ++ 32 ∷ (position_word x.1.1 ++ tail))) (λ x. IsNode x.0 × (IsGroup x.1.0 × IsPosition x.1.1)) (λ x. items.Apply x.0 x.1.0 x.1.1) place_form (λ x fit. fit) left item rest h
of_kind_fits schema kinds.Answer left item rest h = answered_fits schema left item rest h
of_kind_fits schema kinds.Crash left item rest h = line_fits schema (node_field) (λ node tail. node_word node ++ tail) (IsNode) (λ x. items.Crash x) node_form (λ x fit. fit) left item rest h

by_kind_fits : (schema : Schema) (n : ℕ) (kind : Option LineKind) (left : List ℕ) (item : Item) (rest : List ℕ) → by_kind schema n left kind ≡ Ok (item, rest) → IsPlain schema item
by_kind_fits schema n None left item rest h = absurd (cc)
by_kind_fits schema n (Some kind) left item rest h = of_kind_fits schema kind left item rest h

by_word_fits : (schema : Schema) (n : ℕ) (word : Option (List ℕ × List ℕ)) (item : Item) (rest : List ℕ) → by_word schema n word ≡ Ok (item, rest) → IsPlain schema item
by_word_fits schema n None item rest h = absurd (cc)
by_word_fits schema n (Some word) item rest h = by_kind_fits schema n (kind_of word.0) word.1 item rest h

pub item_fits : (schema : Schema) (left : List ℕ) (item : Item) (rest : List ℕ) → item_at schema left ≡ Ok (item, rest) → IsPlain schema item
unfolding item_at
item_fits schema left item rest h =
    elim (if-ok (same left (codes "cut" ++ 10 ∷ [])) (Ok (items.Cut, [])) _ (Ok (item, rest)) h) [
      | inl w ↦ subst (IsPlain schema) (read_parts items.Cut item [] rest w.1).0 tt
      | inr v ↦ elim (if-ok (same left (codes "unsafe" ++ 10 ∷ [])) (Ok (items.Unsafe, [])) _ (Ok (item, rest)) v.1) [
        | inl w ↦ subst (IsPlain schema) (read_parts items.Unsafe item [] rest w.1).0 tt
        | inr w ↦ by_word_fits schema (length left) (until 32 left) item rest w.1
      ]
    ]

-- ---- whole lines

pub whole_again : (schema : Schema) (item : Item) → IsPlain schema item → whole_item schema (line schema item) ≡ Ok item
unfolding whole_item
whole_again schema item fit = ap (λ (r : Read Item). r >>= λ x. if length x.1 == 0 then Ok x.0 else Err (length x.1)) (item_again schema item fit)

pub whole_fits : (schema : Schema) (text : List ℕ) (item : Item) → whole_item schema text ≡ Ok item → IsPlain schema item
unfolding whole_item
whole_fits schema text item h =
    let read = bind-ok (item_at schema text) (λ x. if length x.1 == 0 then Ok x.0 else Err (length x.1)) item h in
    elim (if-ok (length read.0.1 == 0) (Ok read.0.0) (Err (length read.0.1)) (Ok item) read.2) [
      | inl w ↦ let e : read.0.0 ≡ item = cc (w.1) in subst (IsPlain schema) e (item_fits schema text read.0.0 read.0.1 read.1)
      | inr w ↦ absurd (let k : Err (length read.0.1) ≡ Ok item = w.1 in cc)
    ]

same-refl : (text : List ℕ) → same text text ≡ true
same-refl text = (bytes_eq-Decides text text).1 refl

located_ok : (n : ℕ) (r : Result Item ℕ) (item : Item) → located n r ≡ Ok item → r ≡ Ok item
located_ok n (Ok x) item h = h
located_ok n (Err e) item h = absurd (cc)

same-false : (line_text text : List ℕ) (b : Bool) → (if b then None else Some (differs_at line_text text)) ≡ None → b ≡ true
same-false line_text text true h = refl
same-false line_text text false h = absurd (cc)

-- reading the line of a plain item gives the item
pub parsed_again : (schema : Schema) (item : Item) → IsPlain schema item → parsed schema (line schema item) ≡ Ok item
unfolding parsed
parsed_again schema item fit =
    ap (λ r. located (length (line schema item)) r >>= agreed schema (line schema item)) (whole_again schema item fit)
    ∙ ap (λ t. unless_differs item (if t then None else Some (differs_at (line schema item) (line schema item)))) (same-refl (line schema item))

unless-ok : (i item : Item) (d : Option ℕ) → unless_differs i d ≡ Ok item → (i ≡ item) × (d ≡ None)
unless-ok i item None h = (cc, refl)
unless-ok i item (Some at) h = absurd (cc)

-- what is read is plain, and the text is its line
pub parsed_found : (schema : Schema) (text : List ℕ) (item : Item) → parsed schema text ≡ Ok item → IsPlain schema item × (text ≡ line schema item)
unfolding parsed
parsed_found schema text item h =
    let read = bind-ok (located (length text) (whole_item schema text)) (agreed schema text) item h in
    let same_item = unless-ok read.0 item (difference (line schema read.0) text) read.2 in
    let P : Item → Type 0 = λ i. IsPlain schema i × (text ≡ line schema i) in
    subst P same_item.0 (
      whole_fits schema text read.0 (located_ok (length text) (whole_item schema text) read.0 read.1),
      sym ((bytes_eq-Decides (line schema read.0) text).0 (same-false (line schema read.0) text (same (line schema read.0) text) same_item.1)),
    )

-- a plain item has a line
pub HasLine_from_IsPlain : (schema : Schema) (item : Item) → IsPlain schema item → HasLine item
HasLine_from_IsPlain schema (items.Start node start) fit = tt
HasLine_from_IsPlain schema (items.Unsent node message) fit = fit.1.0
HasLine_from_IsPlain schema (items.Tick node now) fit = tt
HasLine_from_IsPlain schema (items.Begin op text) fit = tt
HasLine_from_IsPlain schema (items.Taken number) fit = tt
HasLine_from_IsPlain schema (items.Dropped number) fit = tt
HasLine_from_IsPlain schema (items.Sent number message) fit = fit.1.0
HasLine_from_IsPlain schema (items.Grant cell node epoch) fit = tt
HasLine_from_IsPlain schema (items.Lapse cell node epoch) fit = tt
HasLine_from_IsPlain schema (items.Counts node cell epoch) fit = tt
HasLine_from_IsPlain schema (items.Forgets node cell epoch) fit = tt
HasLine_from_IsPlain schema (items.Serving node epoch) fit = tt
HasLine_from_IsPlain schema (items.Lost node epoch) fit = tt
HasLine_from_IsPlain schema (items.Valid node group position) fit = tt
HasLine_from_IsPlain schema (items.Invalid node group position) fit = tt
HasLine_from_IsPlain schema (items.Decide node group position entry) fit = fit.1.0
HasLine_from_IsPlain schema (items.Apply node group position) fit = tt
HasLine_from_IsPlain schema (items.Answer op answer) fit = tt
HasLine_from_IsPlain schema (items.Crash node) fit = tt
HasLine_from_IsPlain schema items.Cut fit = tt
HasLine_from_IsPlain schema items.Unsafe fit = tt
