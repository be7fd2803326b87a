-- Requests that keep what their types say put rows with values that the program can hold.
use Rattle.std.proofs.Common.{◌≡◌, pos, negsuc, List, [], ◌∷◌, Some}
use Rattle.mega_base.specs.declared.values.Cell.{Cell}
use Rattle.mega_base.specs.declared.values.Value.{Value}
use Rattle.mega_base.specs.declared.values.Value.TheVariants.{Int32, Int64, Bool as Truth, Str, Raw}
use Rattle.mega_keys.specs.Fit.{AreValues, IsValue}
use Rattle.mega_schema.specs.declared.schema.Schema.{Schema}
use Rattle.mega_outcome.specs.declared.request.Request.{Request}
use Rattle.mega_outcome.specs.declared.request.Request.TheVariants.{Txn, Batch, Read, Find, PumpEnter, PumpHandle, Refresh}
use Rattle.mega_outcome.specs.declared.transaction.Change.{Change}
use Rattle.mega_outcome.specs.declared.transaction.Change.TheVariants.{Put, Delete, Add}
use Rattle.mega_outcome.specs.declared.transaction.Transaction.{Transaction}
use Rattle.mega_shown_laws.specs.of_format_laws.Rounds.{Each}
use Rattle.mega_shown_laws.specs.of_format_laws.Requests.{IsChange, IsGiven, IsSpelled, IsTyped, IsTypedRequest}
use Rattle.mega_shown_laws.specs.of_tape_laws.Indexed.{AllPutValues, AsksValues, HoldValues, PutValues, PutsValues}
use Rattle.mega_shown_laws.specs.of_run_laws.Usages.{MeansValues}
use Rattle.mega_line_laws.specs.Meanings.{meaning_in}
use Rattle.mega_line_laws.proofs.Asking.{meant_typed}

is_value : (v : Value) → IsSpelled v → IsValue v
is_value (Int32 (pos n)) fits = fits.sfits
is_value (Int32 (negsuc n)) fits = fits.sfits
is_value (Int64 (pos n)) fits = fits.sfits
is_value (Int64 (negsuc n)) fits = fits.sfits
is_value (Truth b) fits = tt
is_value (Str text) fits = fits
is_value (Raw bytes) fits = tt

are_values : (vs : List Value) → Each IsSpelled vs → AreValues vs
are_values [] each = tt
are_values (v ∷ vs) each = (is_value v each.0, are_values vs each.1)

hold_values : (cells : List Cell) → Each IsGiven cells → HoldValues cells
hold_values [] each = tt
hold_values (c ∷ cells) each = (are_values c.values each.0.1, hold_values cells each.1)

puts_values : (change : Change) → IsChange change → PutsValues change
puts_values (Put table row) each = hold_values row.cells each
puts_values (Delete row) each = tt
puts_values (Add row property by) each = tt

put_values : (changes : List Change) → Each IsChange changes → PutValues changes
put_values [] each = tt
put_values (change ∷ changes) each = (puts_values change each.0, put_values changes each.1)

all_put_values : (ts : List Transaction) → Each IsTyped ts → AllPutValues ts
all_put_values [] each = tt
all_put_values (t ∷ ts) each = (put_values t.writes each.0.writes, all_put_values ts each.1)

asks_values : (request : Request) → IsTypedRequest request → AsksValues request
asks_values (Txn t) typed = put_values t.writes typed.writes
asks_values (Batch group ts) typed = all_put_values ts typed
asks_values (Read request) typed = tt
asks_values (Find request) typed = tt
asks_values PumpEnter typed = tt
asks_values PumpHandle typed = tt
asks_values Refresh typed = tt

pub means_values : (schema : Schema) → MeansValues (meaning_in schema)
means_values schema = λ text request is. asks_values request (meant_typed schema text request is)
