-- The lengths of texts are sums over their parts.
use Rattle.std.proofs.Common.{◌≡◌, ◌∙◌, ap, sym, refl, ℕ, ◌+◌, ◌*◌, ◌<◌, ◌≤◌, true, false, cond, List, [], ◌∷◌, ◌++◌, length, length-append, arith}
use Rattle.std.specs.Prelude.{ℤ, Bool, Option, Some, fold, max, ◌==◌}
use Rattle.std.proofs.lemmas.Grind.{flat_map-append}
use Rattle.std.specs.List.{flat_map}
use Rattle.std.specs.Cmp.{unsigned_Decides}
use Rattle.std.specs.Int.{cast_unsigned, w32, w64}
use Rattle.mega_base.specs.Codec.{number_text, bytes_text, option_text, list_text, one_byte}
use Rattle.mega_base.specs.Digits.{length_number_text}
use Rattle.mega_base.specs.Values.{value_text, cell_text, row_text}
use Rattle.mega_base.specs.declared.values.Value.TheVariants.{Int32, Int64, Bool as Truth, Str, Raw}
use Rattle.mega_base.specs.declared.values.Cell.{Cell}
use Rattle.mega_base.specs.declared.values.Row.{Row}
use Rattle.mega_index.specs.of_entry.declared.content.Write.{Write}
use Rattle.mega_index.specs.of_entry.declared.content.Send.{Send}
use Rattle.mega_index.specs.of_entry.declared.content.Cut.{Cut}
use Rattle.mega_index.specs.of_entry.Entries.{write_text, send_text, enter_text, name_text, cut_text, cuts_text, entry_text, version_of}
use Rattle.mega_index.specs.of_entry.declared.content.Content.{Content}
use Rattle.mega_base.specs.declared.names.OpId.{OpId}
use Rattle.mega_base.specs.Names.{op_text, node_text, u32_text, u64_text}
use Rattle.mega_index.specs.Fitted.{entry_of, entered, enter_length as enters}
use Rattle.mega_outcome.specs.declared.answer.Done.{Done}
use Rattle.mega_outcome.specs.declared.answer.Batch.{Batch}
use Rattle.mega_outcome.specs.Outcome.{entry_length as length_of_entry, longest, entry_cuts, batch_length, taken}
use Rattle.mega_outcome.specs.Lengths.{values_length, cells_length, writes_length, sends_length, cuts_length}

-- a number's text, and what follows it
pub number_front : (k n : ℕ) (rest : List ℕ) → length (number_text k n ++ rest) ≡ k + length rest
number_front k n rest = length-append (number_text k n) rest ∙ ap (λ m. m + length rest) (length_number_text k n)

pub bytes_text_length : (bytes : List ℕ) → length (bytes_text bytes) ≡ 4 + length bytes
bytes_text_length bytes = number_front 4 (length bytes) bytes

bytes_front : (bytes rest : List ℕ) → length (bytes_text bytes ++ rest) ≡ 4 + length bytes + length rest
bytes_front bytes rest = length-append (bytes_text bytes) rest ∙ ap (λ n. n + length rest) (bytes_text_length bytes)

pub int32_length : (z : ℤ) → length (value_text (Int32 z)) ≡ 5
int32_length z = omega (arith, length_number_text 4 (cast_unsigned w32 z))

pub int64_length : (z : ℤ) → length (value_text (Int64 z)) ≡ 9
int64_length z = omega (arith, length_number_text 8 (cast_unsigned w64 z))

pub truth_length : (b : Bool) → length (value_text (Truth b)) ≡ 2
truth_length b = refl

pub text_length : (t : List ℕ) → length (value_text (Str t)) ≡ 1 + (4 + length t)
text_length t = omega (arith, bytes_text_length t)

pub raw_length : (t : List ℕ) → length (value_text (Raw t)) ≡ 1 + (4 + length t)
raw_length t = omega (arith, bytes_text_length t)

pub ruleset value_lengths = (int32_length, int64_length, truth_length, text_length, raw_length)

pub cell_length : (cell : Cell) → length (cell_text cell) ≡ 5 + values_length cell.values
cell_length cell = omega (arith, number_front 4 (length cell.values) (flat_map value_text cell.values))

pub row_length : (row : Row) → length (option_text row_text (Some row)) ≡ 2 + cells_length row.cells
row_length row = omega arith

pub write_length : (write : Write) → length (write_text write) ≡ 4 + length write.key + length (option_text row_text write.row)
write_length write = bytes_front write.key (option_text row_text write.row)

pub send_length : (send : Send) → length (send_text send) ≡ 4 + length send.to.key + (8 + (length send.queue + length send.payload))
send_length send = omega (arith, bytes_front send.to.key (bytes_text send.queue ++ bytes_text send.payload), bytes_front send.queue (bytes_text send.payload), bytes_text_length send.payload)

list_front : {A : Type 0} (spell : A → List ℕ) (xs : List A) (rest : List ℕ) → length (list_text spell xs ++ rest) ≡ 4 + length (flat_map spell xs) + length rest
list_front spell xs rest = length-append (list_text spell xs) rest ∙ ap (λ n. n + length rest) (number_front 4 (length xs) (flat_map spell xs))

op_front : (op : OpId) (rest : List ℕ) → length (option_text op_text (Some op) ++ rest) ≡ 10 + length rest
op_front op rest =
    omega (arith, length-append (u32_text op.start ++ u32_text op.number) rest, number_front 4 op.start (u32_text op.number), length_number_text 4 op.number)

-- an entry by its parts
parts : (e : Content) (op : OpId) → e.id ≡ Some op
    → length (entry_text e) ≡ 28 + (writes_length e.writes + (sends_length e.sends + (length (flat_map enter_text e.enters) + (length (flat_map name_text e.handles) + cuts_length e.cuts))))
parts e op is =
    ap (λ (id : Option OpId). length (one_byte (version_of e.cuts) ++ (option_text op_text id ++ (node_text e.leader ++ lists)))) is
    ∙ omega (arith, op_front op (node_text e.leader ++ lists), list_front write_text e.writes after_writes, list_front send_text e.sends after_sends, list_front enter_text e.enters after_enters, list_front name_text e.handles (cuts_text e.cuts))
  where
    after_enters : List ℕ
    after_enters = list_text name_text e.handles ++ cuts_text e.cuts

    after_sends : List ℕ
    after_sends = list_text enter_text e.enters ++ after_enters

    after_writes : List ℕ
    after_writes = list_text send_text e.sends ++ after_sends

    lists : List ℕ
    lists = list_text write_text e.writes ++ after_writes

-- the text of an entry that has no marks but cuts
pub entry_length : (writes : List Write) (sends : List Send) (cuts : List Cut) → length_of_entry writes sends cuts ≡ 28 + (writes_length writes + (sends_length sends + cuts_length cuts))
entry_length writes sends cuts = parts (entry_of writes sends [] cuts) _ refl ∙ omega arith

enter_text_length : (group : List ℕ) (send : Send) → length (flat_map enter_text (entered group send ∷ [])) ≡ 16 + (length group + (8 + (length send.queue + length send.payload)))
enter_text_length group send =
    omega (
      arith,
      length-append (enter_text (entered group send)) [],
      length-append (name_text (entered group send).name) (bytes_text send.queue ++ bytes_text send.payload),
      bytes_front group (u64_text 1 ++ u32_text 0),
      number_front 8 1 (u32_text 0),
      length_number_text 4 0,
      bytes_front send.queue (bytes_text send.payload),
      bytes_text_length send.payload,
    )

pub enter_length : (group : List ℕ) (send : Send) → enters group send ≡ 44 + (length group + (8 + (length send.queue + length send.payload)))
enter_length group send = parts (entry_of [] [] (entered group send ∷ []) []) _ refl ∙ omega (arith, enter_text_length group send)

pub longest_is : (group : List ℕ) (writes : List Write) (sends : List Send)
    → longest group writes sends ≡ fold (λ most (send : Send). max most (enters group send)) (28 + (writes_length writes + (sends_length sends + 0))) sends
longest_is group writes sends = ap (λ n. fold (λ most (send : Send). max most (enters group send)) n sends) (entry_length writes sends [])

cut_text_length : (cut : Cut) → length (cut_text cut) ≡ 9
cut_text_length cut = omega (arith, number_front 4 cut.writes (u32_text cut.sends), length_number_text 4 cut.sends)

all_cuts : (cuts : List Cut) → length (flat_map cut_text cuts) ≡ length cuts * 9
all_cuts [] = refl
all_cuts (cut ∷ cuts) = omega (arith, length-append (cut_text cut) (flat_map cut_text cuts), cut_text_length cut, all_cuts cuts)

some_cuts : (cut : Cut) (cuts : List Cut) → cuts_length (cut ∷ cuts) ≡ length cuts * 9 + 13
some_cuts cut cuts = omega (arith, number_front 4 (length (cut ∷ cuts)) (flat_map cut_text (cut ∷ cuts)), all_cuts (cut ∷ cuts))

pub no_cut : (last : Cut) → (last.index == 0) ≡ true → cuts_length (entry_cuts (last ∷ [])) ≡ 0
no_cut last is = ap (λ b. cuts_length (cond b [] (last ∷ []))) is

pub one_cut : (last : Cut) → (last.index == 0) ≡ false → cuts_length (entry_cuts (last ∷ [])) ≡ 13
one_cut last is = ap (λ b. cuts_length (cond b [] (last ∷ []))) is ∙ some_cuts last []

pub more_cuts : (cut : Cut) (cuts : List Cut) (last : Cut) → cuts_length (entry_cuts (cut ∷ cuts ++ last ∷ [])) ≡ (length cuts + 1) * 9 + 13
more_cuts cut [] last = some_cuts cut (last ∷ [])
more_cuts cut (other ∷ cuts) last = some_cuts cut (other ∷ (cuts ++ last ∷ [])) ∙ omega (arith, length-append cuts (last ∷ []))

is_apart : (n : ℕ) → (n ≡ 0 → ⊥) → (n == 0) ≡ false
is_apart n h = by (n == 0) refl
  where
    by : (b : Bool) → (n == 0) ≡ b → (n == 0) ≡ false
    by true e = absurd (h ((unsigned_Decides n 0).0 e))
    by false e = e

pub one_cut_at : (cuts : List Cut) (last : Cut) → length cuts < 1 → (last.index ≡ 0 → ⊥) → 13 ≡ cuts_length (entry_cuts (cuts ++ last ∷ []))
one_cut_at [] last few apart = sym (one_cut last (is_apart last.index apart))
one_cut_at (cut ∷ cuts) last few apart = absurd (omega arith)

pub more_cuts_at : (cuts : List Cut) (last : Cut) → 1 ≤ length cuts → length cuts * 9 + 13 ≡ cuts_length (entry_cuts (cuts ++ last ∷ []))
more_cuts_at [] last some = absurd (omega arith)
more_cuts_at (cut ∷ cuts) last some = omega (arith, more_cuts cut cuts last)

pub ruleset cut_lengths = (no_cut, one_cut)

pub batch_is : (b : Batch) (done : Done) → batch_length (taken b done)
    ≡ 28 + ((writes_length b.writes + writes_length done.writes) + ((sends_length b.sends + sends_length done.sends)
    + cuts_length (entry_cuts (b.cuts ++ (record { index = length b.results; writes = length done.writes; sends = length done.sends }) ∷ []))))
batch_is b done =
    entry_length (b.writes ++ done.writes) (b.sends ++ done.sends) _
    ∙ omega (
      arith,
      ap length (flat_map-append write_text b.writes done.writes),
      ap length (flat_map-append send_text b.sends done.sends),
      length-append (flat_map write_text b.writes) (flat_map write_text done.writes),
      length-append (flat_map send_text b.sends) (flat_map send_text done.sends),
    )
