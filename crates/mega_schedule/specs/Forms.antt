-- The forms of lines, and what is wrong with a line of a form.
use Rattle.std.specs.Prelude.{ℕ, ◌+◌, ◌^◌, ◌&&◌, if◌then◌else◌, nat_le, nat_lt, List, codes, Option, Some, None, is_some, [], ◌∷◌}
use Rattle.serde_json.specs.Data.{Data, Items}
use Rattle.serde_json.specs.Find.{get, as_array}
use Rattle.serde_json.specs.Events.{items_len}
use Rattle.mega_syntax.specs.Names.{named}
use Rattle.mega_disk.specs.declared.pair.Device.{Device}
use Rattle.mega_disk.specs.declared.pair.Device.TheVariants.{Log, Data as DataDevice}
use Rattle.mega_outcome.specs.declared.request.Mode.{Mode}
use Rattle.mega_outcome.specs.declared.request.Mode.TheVariants.{Current, Snapshot, Inconsistent}
use Rattle.mega_schedule.specs.declared.form.Form.{Form}
use Rattle.mega_schedule.specs.declared.form.Form.TheVariants as forms
use Rattle.mega_schedule.specs.declared.form.Pump.{Pump}
use Rattle.mega_schedule.specs.declared.form.Pump.TheVariants.{Enter, Handle}
use Rattle.mega_schedule.specs.declared.verdict.Verdict.{Verdict}
use Rattle.mega_schedule.specs.declared.verdict.Verdict.TheVariants.{OutOfRange, Fine}
use Rattle.mega_schedule.specs.Verdicts.{◌⊓◌}
use Rattle.mega_schedule.specs.Fields.{at_most, required, optional, text_check, word_check, between, values_check, each, worst, group_check, floats_check, of_kind}
use Rattle.mega_schedule.specs.Parts.{read_check, items_check, transaction_check}

-- the form that a word names
abbrev pub form_named : List ℕ → Option Form
form_named word = named word (
    (codes "tick", forms.Tick) ∷ (codes "deliver", forms.Deliver) ∷ (codes "drop", forms.Drop) ∷ (codes "drain", forms.Drain)
    ∷ (codes "crash", forms.Crash) ∷ (codes "start", forms.Start) ∷ (codes "fuse", forms.Fuse) ∷ (codes "txn", forms.Txn)
    ∷ (codes "batch", forms.Batch) ∷ (codes "read", forms.Read) ∷ (codes "find", forms.Find) ∷ (codes "pump", forms.Pump)
    ∷ (codes "refresh", forms.Refresh) ∷ [])

abbrev pub mode_named : List ℕ → Option Mode
mode_named word = named word ((codes "current", Current) ∷ (codes "snapshot", Snapshot) ∷ (codes "inconsistent", Inconsistent) ∷ [])

abbrev pub device_named : List ℕ → Option Device
device_named word = named word ((codes "log", Log) ∷ (codes "data", DataDevice) ∷ [])

abbrev pub pump_named : List ℕ → Option Pump
pump_named word = named word ((codes "enter", Enter) ∷ (codes "handle", Handle) ∷ [])

abbrev pub node_check : Data → Verdict
node_check d = required (between 1 9) (get (codes "node") d)

abbrev pub mode_check : Data → Verdict
mode_check d = word_check (λ word. is_some (mode_named word)) d

abbrev pub device_check : Data → Verdict
device_check d = word_check (λ word. is_some (device_named word)) d

abbrev pub pump_check : Data → Verdict
pump_check d = word_check (λ word. is_some (pump_named word)) d

-- 1 where an optional field is there
abbrev pub present : Option Data → ℕ
present None = 0
present (Some d) = 1

abbrev pub fuse_check : Data → Verdict
fuse_check d =
    at_most (4 + present (get (codes "device") d)) d ⊓ node_check d ⊓ required (between 0 1000000) (get (codes "calls") d)
    ⊓ required (between 0 2) (get (codes "image") d) ⊓ optional device_check (get (codes "device") d)

abbrev pub txn_check : Data → Verdict
txn_check d = at_most 7 d ⊓ node_check d ⊓ required group_check (get (codes "group") d) ⊓ items_check d

-- 1 to 16 transactions
abbrev pub few_check : Items → Verdict
few_check ds = if nat_le 1 (items_len ds) && nat_le (items_len ds) 16 then Fine else OutOfRange

abbrev pub txns_among : Option Items → Verdict
txns_among found = of_kind (λ (ds : Items). few_check ds ⊓ worst transaction_check Fine ds) found

abbrev pub txns_check : Data → Verdict
txns_check d = txns_among (as_array d)

abbrev pub batch_check : Data → Verdict
batch_check d = at_most 4 d ⊓ node_check d ⊓ required group_check (get (codes "group") d) ⊓ required txns_check (get (codes "txns") d)

abbrev pub read_line_check : Data → Verdict
read_line_check d =
    at_most 5 d ⊓ node_check d ⊓ required mode_check (get (codes "mode") d) ⊓ required group_check (get (codes "group") d)
    ⊓ required (each read_check) (get (codes "rows") d)

abbrev pub something : Items → Verdict
something ds = if nat_lt 0 (items_len ds) then Fine else OutOfRange

-- a list with something in it
abbrev pub some_check : Option Items → Verdict
some_check found = of_kind something found

abbrev pub find_values_check : Data → Verdict
find_values_check d = values_check d ⊓ some_check (as_array d)

-- a find has a mode and a group, where it has them, whatever its index is
abbrev pub find_check : Data → Verdict
find_check d =
    at_most (4 + present (get (codes "mode") d) + present (get (codes "group") d)) d ⊓ node_check d
    ⊓ required text_check (get (codes "index") d) ⊓ required find_values_check (get (codes "values") d)
    ⊓ optional mode_check (get (codes "mode") d) ⊓ optional group_check (get (codes "group") d)

-- what is wrong with the fields of a line
abbrev pub fields_check : Form → Data → Verdict
fields_check forms.Tick d = at_most 3 d ⊓ node_check d ⊓ required (between 0 (10 ^ 12)) (get (codes "now") d)
fields_check forms.Deliver d = at_most 2 d ⊓ required (between 1 (10 ^ 12)) (get (codes "message") d)
fields_check forms.Drop d = at_most 2 d ⊓ required (between 1 (10 ^ 12)) (get (codes "message") d)
fields_check forms.Drain d = at_most 2 d ⊓ required (between 1 1000000) (get (codes "most") d)
fields_check forms.Crash d = at_most 2 d ⊓ node_check d
fields_check forms.Start d = at_most 2 d ⊓ node_check d
fields_check forms.Fuse d = fuse_check d
fields_check forms.Txn d = txn_check d
fields_check forms.Batch d = batch_check d
fields_check forms.Read d = read_line_check d
fields_check forms.Find d = find_check d
fields_check forms.Pump d = at_most 3 d ⊓ node_check d ⊓ required pump_check (get (codes "what") d)
fields_check forms.Refresh d = at_most 2 d ⊓ node_check d

-- and with all numbers in it
abbrev pub line_check : Form → Data → Verdict
line_check form d = fields_check form d ⊓ floats_check d
