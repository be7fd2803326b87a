-- What is shown of plain rows, finds, marks and results is JSON that is read back.
use Rattle.std.proofs.Common.{◌≡◌, ℕ, zero, suc, ◌^◌, ◌<◌, ◌≤◌, ◌==◌, ◌&&◌, ◌||◌, not, pos, negsuc, Bool, true, false, nat_lt, List, [], ◌∷◌, ◌++◌, map, refl, sym, ap, ◌∙◌, subst, Option, Some, None, Result, Ok, Err, arith, decimal, codes, IsUtf8, inl, inr, Ordering, Less, Equal, Greater, nat_cmp}
use Rattle.std.specs.Prelude.{if◌then◌else◌}
use Rattle.std.specs.Ordering.{match_ordering, ordering_reverse}
use Rattle.std.specs.Cmp.Lexicographic.{slice_cmp}
use Rattle.std.specs.List.{AllByRecursion, list_all}
use Rattle.std.specs.Str.{IsAscii, is_utf8}
use Rattle.std.proofs.lemmas.Bool.{and_parts, cases_eq, cases_lt, ltb-true}
use Rattle.std.proofs.lemmas.Bool.Decides.{nat_tests}
use Rattle.std.proofs.lemmas.Cmp.{nat_list_cmp_total}
use Rattle.std.proofs.lemmas.Str.{IsUtf8-from_ascii, IsUtf8-from_is_utf8}
use Rattle.std.proofs.lemmas.Str.Ascii.{IsAscii-nil, IsAscii-cons}
use Rattle.hex.specs.Hex.{encode_lower, lower_digits}
use Rattle.hex.proofs.HexLemmas.{IsAscii-encode_with}
use Rattle.json.specs.Print.{escape, escape_byte, quoted}
use Rattle.json.proofs.Printed.Strings.{escape_byte_plain}
use Rattle.json.proofs.Printed.Utf8.{IsUtf8-are_ascii}
use Rattle.serde_json.specs.Data.{Data, array, Members, no_members, member, put}
use Rattle.serde_json.specs.View.{items_of}
use Rattle.serde_json.specs.Written.{compact_text, items_text}
use Rattle.mega_base.specs.declared.values.Kind.{Kind}
use Rattle.mega_base.specs.declared.values.Value.{Value}
use Rattle.mega_base.specs.declared.values.Value.TheVariants.{Int32, Int64, Bool as Truth, Str, Raw}
use Rattle.mega_base.specs.declared.values.Cell.{Cell}
use Rattle.mega_schema.specs.declared.schema.Property.{Property}
use Rattle.mega_schema.specs.declared.schema.Table.{Table}
use Rattle.mega_schema.specs.declared.schema.Schema.{Schema}
use Rattle.mega_schema.specs.Lookup.{property_at, is_repeated}
use Rattle.mega_schema.specs.Shaping.{table_at}
use Rattle.mega_outcome.specs.of_index.declared.found.Found.{Found}
use Rattle.mega_outcome.specs.declared.answer.Shown.{Shown}
use Rattle.mega_outcome.specs.declared.answer.Mark.{Mark}
use Rattle.mega_outcome.specs.declared.answer.Turn.{Turn}
use Rattle.mega_outcome.specs.declared.answer.Turn.TheVariants as turns
use Rattle.mega_transcript.specs.Rows.{value_data, cell_data, with_cell, cells_members, name_of, properties_of, shown_data, rows_data, found_data, finds_data, mark_data, marks_data}
use Rattle.mega_transcript.specs.Answers.{turn_word, turn_number, result_data, results_data}
use Rattle.mega_transcript.specs.Named.{property_number}
use Rattle.mega_transcript.specs.PlainTurns.{IsPlainTurn}
use Rattle.mega_transcript.specs.PlainRows.{IsHeld, IsPlainCell, ArePlainCells, ArePlainIn, IsPlainShown, ArePlainRows, HaveKinds, IsPlainKey, IsPlainFound, ArePlainFinds, IsHeldMark, AreHeldMarks, IsPlainResult, ArePlainResults}
use Rattle.mega_transcript.proofs.Forms.{lacks, decimal-lacks, is_solid, hex-solid}
use Rattle.mega_json_laws.specs.Whole.{IsBelow}
use Rattle.mega_transcript.proofs.Compact.{IsSound, AreSoundItems, AreSoundMembers, both}

-- ---- hex is ASCII

ascii_of : (bytes : List ℕ) → list_all (λ b. nat_lt b 128) bytes ≡ true → IsAscii bytes
ascii_of [] h = IsAscii-nil
ascii_of (b ∷ bytes) h = let parts = and_parts (nat_lt b 128) (list_all (λ c. nat_lt c 128) bytes) h in IsAscii-cons b bytes (ltb-true b 128 parts.0) (ascii_of bytes parts.1)

pub hex_utf8 : (bytes : List ℕ) → IsUtf8 (encode_lower bytes)
hex_utf8 bytes = IsUtf8-from_ascii (encode_lower bytes) (IsAscii-encode_with lower_digits bytes (ascii_of lower_digits refl))

-- ---- values

of_31 : (k : ℕ) → k < 2 ^ 31 → k < 2 ^ 64
of_31 k h = omega arith

of_31_signed : (k : ℕ) → k < 2 ^ 31 → k < 2 ^ 63
of_31_signed k h = omega arith

of_63 : (k : ℕ) → k < 2 ^ 63 → k < 2 ^ 64
of_63 k h = omega arith

of_u32 : (k : ℕ) → k ≤ 4294967295 → k < 2 ^ 64
of_u32 k h = omega arith

of_u64 : (k : ℕ) → k ≤ 18446744073709551615 → k < 2 ^ 64
of_u64 k h = omega arith

value_sound : (n : ℕ) (value : Value) → IsHeld value → IsSound n (value_data value)
value_sound n (Int32 (pos k)) h = of_31 k h
value_sound n (Int32 (negsuc k)) h = of_31_signed k h
value_sound n (Int64 (pos k)) h = of_63 k h
value_sound n (Int64 (negsuc k)) h = h
value_sound n (Truth b) h = tt
value_sound n (Str text) h = h
value_sound n (Raw bytes) h = hex_utf8 bytes

mapped_sound : {A : Type 0} (n : ℕ) (f : A → Data) (P : A → Type 0) → ((x : A) → P x → IsSound n (f x)) → (xs : List A) → AllByRecursion P xs → AreSoundItems n (items_of (map f xs))
mapped_sound n f P each [] h = tt
mapped_sound n f P each (x ∷ xs) h = (each x h.0, mapped_sound n f P each xs h.1)

cell_either : (n : ℕ) (b : Bool) (many one : Data) → IsSound n many → IsSound n one → IsSound n (if b then many else one)
cell_either n true many one f g = f
cell_either n false many one f g = g

cell_sound : (n : ℕ) (property : Property) (values : List Value) → AllByRecursion IsHeld values → IsSound (suc n) (cell_data property values)
cell_sound n property [] h = tt
cell_sound n property (v ∷ values) h =
    cell_either (suc n) (is_repeated property.need) (array (items_of (map value_data (v ∷ values)))) (value_data v) (mapped_sound n value_data IsHeld (value_sound n) (v ∷ values) h) (value_sound (suc n) v h.0)

-- ---- members

-- what is below the first and below what is put is below the first then
below_put_at : (o : Ordering) (j k l : List ℕ) (d e : Data) (ms : Members) → slice_cmp nat_cmp j k ≡ Less → slice_cmp nat_cmp j l ≡ Less
    → IsBelow j (match_ordering o (member k d (member l e ms)) (member l d ms) (member l e (put k d ms)))
below_put_at Less j k l d e ms f g = f
below_put_at Equal j k l d e ms f g = g
below_put_at Greater j k l d e ms f g = g

below_put : (j k : List ℕ) (d : Data) (ms : Members) → slice_cmp nat_cmp j k ≡ Less → IsBelow j ms → IsBelow j (put k d ms)
below_put j k d no_members f g = f
below_put j k d (member l e ms) f g = below_put_at (slice_cmp nat_cmp k l) j k l d e ms f g

put_at : (n : ℕ) (o : Ordering) (k l : List ℕ) (d e : Data) (ms : Members) → slice_cmp nat_cmp k l ≡ o → IsUtf8 k → IsSound n d → AreSoundMembers n (member l e ms) → AreSoundMembers n (put k d ms)
    → AreSoundMembers n (match_ordering o (member k d (member l e ms)) (member l d ms) (member l e (put k d ms)))
put_at n Less k l d e ms is u s h later = (u, (s, (is, h)))
put_at n Equal k l d e ms is u s h later = (h.0, (s, h.1.1))
put_at n Greater k l d e ms is u s h later =
    (h.0, (h.1.0, (below_put l k d ms (nat_list_cmp_total.antisymm l k ∙ ap ordering_reverse is) h.1.1.0, later)))

put_sound : (n : ℕ) (k : List ℕ) (d : Data) (ms : Members) → IsUtf8 k → IsSound n d → AreSoundMembers n ms → AreSoundMembers n (put k d ms)
put_sound n k d no_members u s h = (u, (s, (tt, tt)))
put_sound n k d (member l e ms) u s h = put_at n (slice_cmp nat_cmp k l) k l d e ms refl u s h (put_sound n k d ms u s h.1.1.1)

-- ---- rows

with_sound : (n : ℕ) (all : List Property) (property : Option Property) (cell : Cell) (ms : Members) → IsPlainCell all property cell → AreSoundMembers (suc n) ms
    → AreSoundMembers (suc n) (with_cell property cell.values ms)
with_sound n all None cell ms plain h = absurd plain
with_sound n all (Some property) cell ms plain h =
    let name = IsUtf8-from_is_utf8 property.name (and_parts (is_utf8 property.name) (property_number all property.name == cell.property) plain.0).0 in
    subst (λ b. AreSoundMembers (suc n) (if b then put property.name (cell_data property cell.values) ms else ms)) (sym plain.1.0)
    (put_sound (suc n) property.name (cell_data property cell.values) ms name (cell_sound n property cell.values plain.1.1) h)

cells_sound : (n : ℕ) (all : List Property) (low : ℕ) (cells : List Cell) (ms : Members) → ArePlainCells all low cells → AreSoundMembers (suc n) ms → AreSoundMembers (suc n) (cells_members all cells ms)
cells_sound n all low [] ms plain h = h
cells_sound n all low (cell ∷ cells) ms plain h =
    cells_sound n all cell.property cells (with_cell (property_at all cell.property) cell.values ms) plain.1.1 (with_sound n all (property_at all cell.property) cell ms plain.1.0 h)

-- a table's name, and a row of it
name_sound : (n : ℕ) (schema : Schema) (number : ℕ) (table : Option Table) (cells : List Cell) → ArePlainIn schema number table cells → IsUtf8 (name_of table)
name_sound n schema number None cells plain = absurd plain
name_sound n schema number (Some table) cells plain = IsUtf8-from_is_utf8 table.name (and_parts (is_utf8 table.name) _ plain.0).0

row_sound : (n : ℕ) (schema : Schema) (number : ℕ) (table : Option Table) (cells : List Cell) → ArePlainIn schema number table cells → AreSoundMembers (suc n) (cells_members (properties_of table) cells no_members)
row_sound n schema number None cells plain = absurd plain
row_sound n schema number (Some table) cells plain = cells_sound n table.properties 0 cells no_members plain.1 tt

shown_sound : (n : ℕ) (schema : Schema) (shown : Option Shown) → IsPlainShown schema shown → IsSound (suc (suc (suc n))) (shown_data schema shown)
shown_sound n schema None plain = tt
shown_sound n schema (Some shown) plain =
    let table = table_at schema.tables shown.table in
    (name_sound n schema shown.table table (shown.row).cells plain, (row_sound n schema shown.table table (shown.row).cells plain, tt))

pub rows_sound : (n : ℕ) (schema : Schema) (rows : List (Option Shown)) → ArePlainRows schema rows → IsSound (suc (suc (suc (suc n)))) (rows_data schema rows)
rows_sound n schema rows plain = mapped_sound (suc (suc (suc n))) (shown_data schema) (IsPlainShown schema) (shown_sound n schema) rows plain

-- ---- finds

key_held : (kinds : List Kind) (key : List Value) → HaveKinds kinds key → AllByRecursion IsHeld key
key_held [] [] h = tt
key_held [] (v ∷ vs) h = absurd h
key_held (k ∷ ks) [] h = absurd h
key_held (k ∷ ks) (v ∷ vs) h = (h.1.0, key_held ks vs h.1.1)

plain_key_held : (schema : Schema) (n : ℕ) (table : Option Table) (key : List Value) → IsPlainKey schema n table key → AllByRecursion IsHeld key
plain_key_held schema n None key h = absurd h
plain_key_held schema n (Some table) key h = key_held _ key h

found_sound : (n : ℕ) (schema : Schema) (found : Found) → IsPlainFound schema found → IsSound (suc (suc (suc n))) (found_data schema found)
found_sound n schema found plain =
    let table = table_at schema.tables found.table in
    (name_sound n schema found.table table (found.stored).cells plain.0, (mapped_sound (suc n) value_data IsHeld (value_sound (suc n)) found.key (plain_key_held schema found.table table found.key plain.1), (row_sound n schema found.table table (found.stored).cells plain.0, tt)))

pub finds_sound : (n : ℕ) (schema : Schema) (finds : List Found) → ArePlainFinds schema finds → IsSound (suc (suc (suc (suc n)))) (finds_data schema finds)
finds_sound n schema finds plain = mapped_sound (suc (suc (suc n))) (found_data schema) (IsPlainFound schema) (found_sound n schema) finds plain

-- ---- marks

mark_sound : (n : ℕ) (mark : Mark) → IsHeldMark mark → IsSound (suc n) (mark_data mark)
mark_sound n mark plain = (hex_utf8 (mark.group).key, (of_u64 (mark.position).0 plain.1, tt))

pub marks_sound : (n : ℕ) (marks : List Mark) → AreHeldMarks marks → IsSound (suc (suc n)) (marks_data marks)
marks_sound n marks plain = mapped_sound (suc n) mark_data IsHeldMark (mark_sound n) marks plain

-- ---- results

turn_sound : (turn : Turn) → IsPlainTurn turn → IsUtf8 (turn_word turn) × (turn_number turn < 2 ^ 64)
turn_sound (turns.OtherGroup n) fit = (IsUtf8-are_ascii (codes "othergroup") refl, of_u32 n fit)
turn_sound (turns.BadRow n) fit = (IsUtf8-are_ascii (codes "badrow") refl, of_u32 n fit)
turn_sound (turns.CheckFailed n) fit = (IsUtf8-are_ascii (codes "check") refl, of_u32 n fit)
turn_sound (turns.NoRow n) fit = (IsUtf8-are_ascii (codes "norow") refl, of_u32 n fit)
turn_sound (turns.Overflow n) fit = (IsUtf8-are_ascii (codes "overflow") refl, of_u32 n fit)
turn_sound (turns.TooLarge n) fit = (IsUtf8-are_ascii (codes "toolarge") refl, of_u64 n fit)
turn_sound turns.DiskFault fit = absurd fit
turn_sound (turns.Full n) fit = absurd fit
turn_sound (turns.BadRecord n) fit = absurd fit
turn_sound turns.NoMemory fit = absurd fit

result_sound : (n : ℕ) (schema : Schema) (result : Result (List (Option Shown)) Turn) → IsPlainResult schema result → IsSound (suc (suc (suc (suc (suc n))))) (result_data schema result)
result_sound n schema (Ok replies) plain = (IsUtf8-are_ascii (codes "committed") refl, (rows_sound n schema replies plain, tt))
result_sound n schema (Err turn) plain = let parts = turn_sound turn plain in (IsUtf8-are_ascii (codes "turned") refl, (parts.0, (parts.1, tt)))

pub results_sound : (n : ℕ) (schema : Schema) (results : List (Result (List (Option Shown)) Turn)) → ArePlainResults schema results → IsSound (suc (suc (suc (suc (suc (suc n)))))) (results_data schema results)
results_sound n schema results plain = mapped_sound (suc (suc (suc (suc (suc n))))) (result_data schema) (IsPlainResult schema) (result_sound n schema) results plain

-- ---- the text of marks has no space

-- what stands for a solid byte below n has none
abbrev spaced_below : ℕ → Bool
spaced_below zero = true
spaced_below (suc n) = (not (is_solid n) || lacks 32 (escape_byte n)) && spaced_below n

escape_below : (n : ℕ) → spaced_below n ≡ true → (x : ℕ) → x < n → is_solid x ≡ true → lacks 32 (escape_byte x) ≡ true
escape_below zero e x h solid = absurd (omega arith)
escape_below (suc n) e x h solid =
    let p = and_parts (not (is_solid n) || lacks 32 (escape_byte n)) (spaced_below n) e in
    elim (cases_eq x n) [ inl same ↦ either (is_solid n) (ap is_solid (sym same) ∙ solid) p.0 same | inr other ↦ escape_below n p.1 x (omega arith) solid ]
  where
    either : (b : Bool) → b ≡ true → (not b || lacks 32 (escape_byte n)) ≡ true → x ≡ n → lacks 32 (escape_byte x) ≡ true
    either true f g same = ap (λ y. lacks 32 (escape_byte y)) same ∙ g
    either false f g same = absurd (cc)

all_spaced : spaced_below 128 ≡ true
unfolding escape_byte
all_spaced = refl

byte_lacks : (x : ℕ) → is_solid x ≡ true → lacks 32 (escape_byte x) ≡ true
byte_lacks x solid = elim (cases_lt x 128) [
  | inl small ↦ escape_below 128 all_spaced x small solid
  | inr big ↦
      let other : not (x == 32) ≡ true = grind (arith, nat_tests) in
      rw (escape_byte_plain x (λ e. omega arith) (λ e. omega arith) (omega arith)) (ap (λ t. t && true) other)
]

escape_lacks : (s : List ℕ) → list_all is_solid s ≡ true → lacks 32 (escape s) ≡ true
escape_lacks [] h = refl
escape_lacks (x ∷ s) h = let p = and_parts (is_solid x) (list_all is_solid s) h in both 32 (escape_byte x) (escape s) (byte_lacks x p.0) (escape_lacks s p.1)

mark_lacks : (mark : Mark) → IsHeldMark mark → lacks 32 (compact_text (mark_data mark)) ≡ true
mark_lacks mark plain =
    let name = encode_lower (mark.group).key in
    both 32 (quoted name) (44 ∷ (decimal (mark.position).0 ++ 93 ∷ [])) (both 32 (escape name) (34 ∷ []) (escape_lacks name (hex-solid (mark.group).key plain.0)) refl)
    (both 32 (decimal (mark.position).0) (93 ∷ []) (decimal-lacks 32 (mark.position).0 (omega arith) (of_u64 (mark.position).0 plain.1)) refl)

marks_tail_lacks : (marks : List Mark) → AreHeldMarks marks → lacks 32 (items_text true (items_of (map mark_data marks))) ≡ true
marks_tail_lacks [] plain = refl
marks_tail_lacks (mark ∷ marks) plain =
    both 32 (compact_text (mark_data mark)) (items_text true (items_of (map mark_data marks))) (mark_lacks mark plain.0) (marks_tail_lacks marks plain.1)

pub marks_lack : (marks : List Mark) → AreHeldMarks marks → lacks 32 (compact_text (marks_data marks)) ≡ true
marks_lack [] plain = refl
marks_lack (mark ∷ marks) plain =
    both 32 (compact_text (mark_data mark)) (items_text true (items_of (map mark_data marks))) (mark_lacks mark plain.0) (marks_tail_lacks marks plain.1)
