-- The event that a schedule line stands for, or the reason why it stands for none.
use Rattle.std.specs.Prelude.{ℕ, if◌then◌else◌, nat_lt, List, codes, length, Option, Some, None, is_some, option_and_then, unwrap_or, Result, Ok, Err}
use Rattle.std.specs.Str.{is_utf8}
use Rattle.serde_json.specs.Data.{Data}
use Rattle.serde_json.specs.Read.{read as read_json}
use Rattle.serde_json.specs.Find.{get, as_str, as_object}
use Rattle.serde_json.specs.Written.{compact_text}
use Rattle.mega_base.specs.declared.names.NodeId.{NodeId}
use Rattle.mega_disk.specs.declared.pair.Device.{Device}
use Rattle.mega_disk.specs.declared.pair.Device.TheVariants.{Log}
use Rattle.mega_schema.specs.declared.schema.Schema.{Schema}
use Rattle.mega_outcome.specs.declared.request.Request.{Request}
use Rattle.mega_outcome.specs.declared.request.Request.TheVariants as requests
use Rattle.mega_schedule.specs.declared.world_event.WorldEvent.{WorldEvent}
use Rattle.mega_schedule.specs.declared.world_event.WorldEvent.TheVariants.{Tick, Deliver, Drop, Drain, Crash, Start, Fuse, Begin}
use Rattle.mega_schedule.specs.declared.form.Form.{Form}
use Rattle.mega_schedule.specs.declared.form.Form.TheVariants as forms
use Rattle.mega_schedule.specs.Verdicts.{judged}
use Rattle.mega_schedule.specs.Forms.{form_named, device_named, line_check}
use Rattle.mega_schedule.specs.Values.{number_in, byte_in}
use Rattle.mega_schedule.specs.Rows.{transaction_of}
use Rattle.mega_schedule.specs.Requests.{batch_of, read_request, find_request, pump_of}

abbrev pub node_in : Data → NodeId
node_in d = record { 0 = byte_in (get (codes "node") d) }

-- the device that a field names; the log where there is none
abbrev pub device_in : Option Data → Device
device_in o = unwrap_or (option_and_then device_named (option_and_then as_str o)) Log

-- a request is begun with the line's object as its text: no space in it, and its keys in ascending order
abbrev pub begun : Data → Request → WorldEvent
begun d request = Begin (node_in d) request (compact_text d)

abbrev pub fuse_in : Data → WorldEvent
fuse_in d = Fuse (node_in d) (number_in (get (codes "calls") d)) (byte_in (get (codes "image") d)) (device_in (get (codes "device") d))

-- what a line of a form that begins an operation asks for
abbrev pub request_in : Schema → Form → Data → Request
request_in schema forms.Txn d = requests.Txn (transaction_of schema (get (codes "group") d) d)
request_in schema forms.Batch d = batch_of schema d
request_in schema forms.Read d = requests.Read (read_request schema d)
request_in schema forms.Find d = requests.Find (find_request schema d)
request_in schema forms.Pump d = pump_of d
request_in schema _ d = requests.Refresh

-- the event of a line of this form that has no fault
abbrev pub event_in : Schema → Form → Data → WorldEvent
event_in schema forms.Tick d = Tick (node_in d) (number_in (get (codes "now") d))
event_in schema forms.Deliver d = Deliver (number_in (get (codes "message") d))
event_in schema forms.Drop d = Drop (number_in (get (codes "message") d))
event_in schema forms.Drain d = Drain (number_in (get (codes "most") d))
event_in schema forms.Crash d = Crash (node_in d)
event_in schema forms.Start d = Start (node_in d)
event_in schema forms.Fuse d = fuse_in d
event_in schema form d = begun d (request_in schema form d)

abbrev pub only_object : Option Data → Result Data ℕ
only_object None = Err 1
only_object (Some d) = if is_some (as_object d) then Ok d else Err 1

-- the object of a line: UTF-8 and JSON, nested at most 127 deep
abbrev pub object_of : List ℕ → Result Data ℕ
object_of line = if is_utf8 line then only_object (read_json line) else Err 1

abbrev pub of_form : Schema → Data → Option Form → Result WorldEvent ℕ
of_form schema d None = Err 2
of_form schema d (Some form) = judged (line_check form d) (event_in schema form d)

-- the form is told by the text of `do`
abbrev pub of_word : Schema → Data → Option Data → Result WorldEvent ℕ
of_word schema d None = Err 3
of_word schema d (Some word) = of_form schema d (option_and_then form_named (as_str word))

abbrev pub of_object : Schema → Result Data ℕ → Result WorldEvent ℕ
of_object schema (Ok d) = of_word schema d (get (codes "do") d)
of_object schema (Err reason) = Err reason

-- the line with this number, counted from 1
unfoldable pub event_of : Schema → ℕ → List ℕ → Result WorldEvent ℕ
event_of schema number line =
    if nat_lt 65536 (length line) then Err 7
    else (if nat_lt 1000000 number then Err 8 else of_object schema (object_of line))
