-- What a client's object asks of the node that serves it, or the reason why it asks for nothing.
use Rattle.std.specs.Prelude.{ℕ, Bool, true, false, if◌then◌else◌, List, codes, Option, Some, None, option_and_then, Result, Ok, Err}
use Rattle.serde_json.specs.Data.{Data, number, object, put, unsigned}
use Rattle.serde_json.specs.Find.{get, as_str}
use Rattle.serde_json.specs.Written.{compact_text}
use Rattle.mega_schema.specs.declared.schema.Schema.{Schema}
use Rattle.mega_schedule.specs.declared.asking.Ask.{Ask}
use Rattle.mega_schedule.specs.declared.form.Form.{Form}
use Rattle.mega_schedule.specs.declared.form.Form.TheVariants as forms
use Rattle.mega_schedule.specs.declared.verdict.Verdict.{Verdict}
use Rattle.mega_schedule.specs.declared.verdict.Verdict.TheVariants.{Extra, Fine}
use Rattle.mega_schedule.specs.Verdicts.{◌⊓◌, judged}
use Rattle.mega_schedule.specs.Forms.{form_named, line_check}
use Rattle.mega_schedule.specs.Events.{object_of, request_in}

-- the object as a line of a schedule has it, which names the node
abbrev pub with_node : ℕ → Data → Data
with_node node (object members) = object (put (codes "node") (number (unsigned node)) members)
with_node node d = d

-- a form that begins an operation
abbrev pub is_operation : Form → Bool
is_operation forms.Txn = true
is_operation forms.Batch = true
is_operation forms.Read = true
is_operation forms.Find = true
is_operation forms.Pump = true
is_operation forms.Refresh = true
is_operation _ = false

abbrev pub only_operation : Form → Option Form
only_operation form = if is_operation form then Some form else None

abbrev pub operation_named : List ℕ → Option Form
operation_named word = option_and_then only_operation (form_named word)

-- a client names no node: where it does, this is a field too many
abbrev pub named_check : Option Data → Verdict
named_check None = Fine
named_check (Some d) = Extra

abbrev pub asked_in : Schema → Form → Data → Ask
asked_in schema form d = record { request = request_in schema form d; text = compact_text d }

abbrev pub of_operation : Schema → ℕ → Data → Option Form → Result Ask ℕ
of_operation schema node d None = Err 2
of_operation schema node d (Some form) =
    judged (named_check (get (codes "node") d) ⊓ line_check form (with_node node d)) (asked_in schema form (with_node node d))

-- the operation is told by the text of `do`
abbrev pub of_do : Schema → ℕ → Data → Option Data → Result Ask ℕ
of_do schema node d None = Err 3
of_do schema node d (Some word) = of_operation schema node d (option_and_then operation_named (as_str word))

abbrev pub asked_by : Schema → ℕ → Result Data ℕ → Result Ask ℕ
asked_by schema node (Ok d) = of_do schema node d (get (codes "do") d)
asked_by schema node (Err reason) = Err reason

-- what the bytes of a client ask of this node
abbrev pub asked_of : Schema → ℕ → List ℕ → Result Ask ℕ
asked_of schema node json = asked_by schema node (object_of json)
