-- The handlers that the store brings make only rows that have texts.
use Rattle.std.proofs.Common.{◌≡◌, ℕ, ◌==◌, Bool, true, false, cond, List, [], length, drop, take, Option, Some, None, Result, Ok, Err, refl}
use Rattle.std.specs.Prelude.{if◌then◌else◌, ℤ, ◌+ℤ◌, ◌^◌, nat_lt, slice_index}
use Rattle.std.specs.Int.{cast_signed, from_be_bytes, w64}
use Rattle.mega_base.specs.Codec.{IsOption}
use Rattle.mega_base.specs.Reading.{Read, ◌>>=◌, place, whole_of}
use Rattle.mega_base.specs.declared.values.Row.{Row}
use Rattle.mega_base.specs.declared.values.Value.TheVariants.{Int64}
use Rattle.mega_entry.specs.declared.content.Write.{Write}
use Rattle.mega_entry.specs.Entries.{write_at}
use Rattle.mega_entry.specs.EntryLaws.{write_codec}
use Rattle.mega_index.specs.Cells.{values_of}
use Rattle.mega_index.specs.Rows.{row_under}
use Rattle.mega_handler.specs.Effects.{copy_writes, credit_row, credit_writes, int64_of, is_in_range, read_write, sum_of, sum_written}
use Rattle.mega_format_laws.specs.Rounds.{Each}
use Rattle.mega_format_laws.specs.Requests.{IsMeaning, IsRowed, IsSpelled, IsSpelledRow}
use Rattle.mega_format_laws.proofs.Spelling.{rowed_of}
use Rattle.mega_format_laws.proofs.Each.{either}
use Rattle.mega_format_laws.proofs.Rows.{fits_64, set_row, under_rows}

abbrev IsRead : Result Write ℕ → Type 0
IsRead (Ok write) = IsRowed write
IsRead (Err at) = Unit {0}

-- a payload that spells one write
whole_formed : (payload : List ℕ) → IsRead (whole_of write_at payload)
unfolding whole_of
whole_formed payload = go (write_at (place 0 payload)) refl
  where
    end : (t : Bool) (write : Write) (at : ℕ) → IsRowed write → IsRead (cond t (Ok write) (Err at))
    end true write at h = h
    end false write at h = tt

    go : (r : Read Write) → write_at (place 0 payload) ≡ r → IsRead (r >>= λ x. if length x.1.left == 0 then Ok x.0 else Err x.1.at)
    go (Ok x) e = end (length x.1.left == 0) x.0 x.1.at (rowed_of (x.0).row ((write_codec.takes (place 0 payload) x.0 x.1 e).1).1)
    go (Err at) e = tt

read_formed : (r : Result Write ℕ) → IsRead r → Each IsRowed (read_write r)
read_formed (Ok write) h = (h, tt)
read_formed (Err at) h = tt

pub copy_formed : IsMeaning (λ message rows. (copy_writes message.payload, []))
copy_formed message rows m r = (read_formed (whole_of write_at message.payload) (whole_formed message.payload), tt)

-- a sum that is an int64, in a row
abbrev IsSum : Option ℤ → Type 0
IsSum None = Unit {0}
IsSum (Some z) = IsSpelled (Int64 z)

sum_formed : (amount : ℤ) (number : Option ℤ) → IsSum (sum_of amount number)
sum_formed amount None = tt
sum_formed amount (Some z) = go (is_in_range (2 ^ 63) (z +ℤ amount)) refl
  where
    go : (t : Bool) → is_in_range (2 ^ 63) (z +ℤ amount) ≡ t → IsSum (cond t (Some (z +ℤ amount)) None)
    go true e = fits_64 (z +ℤ amount) e
    go false e = tt

written_formed : (key : List ℕ) (property : ℕ) (row : Row) (sum : Option ℤ) → IsSpelledRow row → IsSum sum → Each IsRowed (sum_written key property row sum)
written_formed key property row None h s = tt
written_formed key property row (Some z) h s = (set_row row property (Int64 z) h s, tt)

credited : (key_property : ℕ) (amount : ℤ) (property : ℕ) (key : List ℕ) (row : Option Row) → IsOption IsSpelledRow row → Each IsRowed (credit_row key_property amount property key row)
credited key_property amount property key None h = tt
credited key_property amount property key (Some row) h = either (Each IsRowed) (property == key_property) [] (sum_written key property row (sum_of amount (int64_of (values_of row property)))) tt
    (written_formed key property row (sum_of amount (int64_of (values_of row property))) h (sum_formed amount (int64_of (values_of row property))))

pub credit_formed : (key_property : ℕ) → IsMeaning (λ message rows. (credit_writes key_property message.payload rows, []))
credit_formed key_property message rows m r = (
  either (Each IsRowed) (nat_lt (length message.payload) 9) [] (credit_row key_property (cast_signed w64 (from_be_bytes w64 (take 8 message.payload))) (slice_index message.payload 8) (drop 9 message.payload) (row_under rows (drop 9 message.payload))) tt
      (credited key_property (cast_signed w64 (from_be_bytes w64 (take 8 message.payload))) (slice_index message.payload 8) (drop 9 message.payload) (row_under rows (drop 9 message.payload)) (under_rows rows r (drop 9 message.payload))),
  tt,
)
