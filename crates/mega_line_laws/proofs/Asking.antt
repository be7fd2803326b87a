-- What a line asks for is of the format.
use Rattle.std.proofs.Common.{◌≡◌, ℕ, ◌^◌, ◌≤◌, ◌&&◌, cond, Bool, true, false, Option, Some, None, Result, Ok, Err, List, refl, sym, ◌∙◌, ap, subst, arith}
use Rattle.std.specs.Prelude.{codes, nat_le, option_and_then, unwrap_or, if◌then◌else◌}
use Rattle.std.proofs.lemmas.Bool.{and_parts}
use Rattle.std.proofs.lemmas.Bool.Decides.{nat_tests}
use Rattle.serde_json.specs.Data.{Num, Data, Items, no_items}
use Rattle.serde_json.specs.Events.{items_len}
use Rattle.serde_json.specs.Find.{as_array, as_number, as_str, as_u64, get, is_float}
use Rattle.serde_json.specs.Written.{compact_text}
use Rattle.mega_base.specs.declared.names.NodeId.{NodeId}
use Rattle.mega_schema.specs.declared.schema.Schema.{Schema}
use Rattle.mega_outcome.specs.declared.request.Request.{Request}
use Rattle.mega_outcome.specs.declared.request.Request.TheVariants.{Txn, Read, Find, Refresh}
use Rattle.mega_schedule.specs.declared.form.Form.{Form}
use Rattle.mega_schedule.specs.declared.form.Form.TheVariants as forms
use Rattle.mega_schedule.specs.declared.form.Pump.{Pump}
use Rattle.mega_schedule.specs.declared.form.Pump.TheVariants.{Enter, Handle}
use Rattle.mega_schedule.specs.declared.verdict.Verdict.{Verdict}
use Rattle.mega_schedule.specs.declared.verdict.Verdict.TheVariants.{WrongKind, OutOfRange, Fine}
use Rattle.mega_schedule.specs.declared.world_event.WorldEvent.{WorldEvent}
use Rattle.mega_schedule.specs.declared.world_event.WorldEvent.TheVariants.{Begin, Crash, Deliver, Drain, Drop, Fuse, Start, Tick}
use Rattle.mega_schedule.specs.Asking.{is_operation}
use Rattle.mega_schedule.specs.Events.{event_in, event_of, node_in, object_of, of_object, request_in}
use Rattle.mega_schedule.specs.Fields.{at_most, between, group_check, number_within, required, within, worst}
use Rattle.mega_schedule.specs.Forms.{few_check, fields_check, node_check, pump_named, txns_among, txns_check}
use Rattle.mega_schedule.specs.Parts.{transaction_check}
use Rattle.mega_schedule.specs.Requests.{batch_of, find_request, pump_of, pump_request, read_request}
use Rattle.mega_schedule.specs.Rows.{transaction_of}
use Rattle.mega_schedule.specs.Values.{list_in, number_in}
use Rattle.mega_schedule.specs.Verdicts.{◌⊓◌}
use Rattle.mega_format_laws.specs.Histories.{IsClock}
use Rattle.mega_format_laws.specs.Requests.{IsRequest, IsTypedRequest}
use Rattle.mega_format_laws.proofs.Lines.{batch_request, finds, reads, txn_request}
use Rattle.mega_json_laws.specs.Whole.{IsWhole}
use Rattle.mega_line_laws.specs.Meanings.{asked_by, asked_in, meaning_in}
use Rattle.mega_line_laws.proofs.Again.{whole_data}
use Rattle.mega_schedule.proofs.BothFine.{both_fine}
use Rattle.mega_line_laws.proofs.Spelled.{Spelled, by_object, spelled}
use Rattle.mega_line_laws.proofs.Typed.{get_whole, transaction_typed, transactions_typed}

at_most_that : (m n : ℕ) → nat_le m n ≡ true → m ≤ n
at_most_that m n t = grind (arith, nat_tests)

-- ---- batches

few : (ds : Items) → few_check ds ≡ Fine → items_len ds ≤ 16
few ds e = go (nat_le 1 (items_len ds)) (nat_le (items_len ds) 16) refl e
  where
    go : (s t : Bool) → nat_le (items_len ds) 16 ≡ t → (if s && t then Fine else OutOfRange) ≡ Fine → items_len ds ≤ 16
    go true true is e = at_most_that (items_len ds) 16 is
    go true false is e = absurd (cc)
    go false t is e = absurd (cc)

few_among : (o : Option Items) → txns_among o ≡ Fine → items_len (unwrap_or o no_items) ≤ 16
few_among None e = absurd (cc)
few_among (Some ds) e = few ds (both_fine (few_check ds) (worst transaction_check Fine ds) e).first

few_txns : (o : Option Data) → required txns_check o ≡ Fine → items_len (list_in o) ≤ 16
few_txns None e = absurd (cc)
few_txns (Some d) e = few_among (as_array d) e

batch_few : (d : Data) → fields_check forms.Batch d ≡ Fine → items_len (list_in (get (codes "txns") d)) ≤ 16
batch_few d e =
    few_txns (get (codes "txns") d)
    (both_fine (at_most 4 d ⊓ node_check d ⊓ required group_check (get (codes "group") d)) (required txns_check (get (codes "txns") d)) e).second

-- ---- requests

pump_asked : (o : Option Pump) → IsRequest (pump_request o)
pump_asked None = tt
pump_asked (Some Enter) = tt
pump_asked (Some Handle) = tt

asked_in_form : (schema : Schema) (form : Form) (d : Data) (node : NodeId) (request : Request) (text : List ℕ) → IsWhole d → fields_check form d ≡ Fine → event_in schema form d ≡ Begin node request text → IsRequest request
asked_in_form schema forms.Txn d node request text whole fine e =
    let is : Txn (transaction_of schema (get (codes "group") d) d) ≡ request = cc in
    subst IsRequest is (txn_request schema (get (codes "group") d) d (transaction_typed schema (get (codes "group") d) d whole))
asked_in_form schema forms.Batch d node request text whole fine e =
    let is : batch_of schema d ≡ request = cc in
    subst IsRequest is (batch_request schema d (batch_few d fine) (transactions_typed schema (get (codes "group") d) (get (codes "txns") d) (get_whole (codes "txns") d whole)))
asked_in_form schema forms.Read d node request text whole fine e = let is : Read (read_request schema d) ≡ request = cc in subst IsRequest is (reads schema d)
asked_in_form schema forms.Find d node request text whole fine e = let is : Find (find_request schema d) ≡ request = cc in subst IsRequest is (finds schema d)
asked_in_form schema forms.Pump d node request text whole fine e =
    let is : pump_of d ≡ request = cc in subst IsRequest is (pump_asked (option_and_then pump_named (option_and_then as_str (get (codes "what") d))))
asked_in_form schema forms.Refresh d node request text whole fine e = let is : Refresh ≡ request = cc in subst IsRequest is tt
asked_in_form schema forms.Tick d node request text whole fine e = absurd (cc)
asked_in_form schema forms.Deliver d node request text whole fine e = absurd (cc)
asked_in_form schema forms.Drop d node request text whole fine e = absurd (cc)
asked_in_form schema forms.Drain d node request text whole fine e = absurd (cc)
asked_in_form schema forms.Crash d node request text whole fine e = absurd (cc)
asked_in_form schema forms.Start d node request text whole fine e = absurd (cc)
asked_in_form schema forms.Fuse d node request text whole fine e = absurd (cc)

-- so does a form that begins an operation, whatever line it is of
pub operation_asked : (schema : Schema) (form : Form) (d : Data) → is_operation form ≡ true → IsWhole d → fields_check form d ≡ Fine → IsRequest (request_in schema form d)
operation_asked schema forms.Txn d op whole fine = asked_in_form schema forms.Txn d (node_in d) (request_in schema forms.Txn d) (compact_text d) whole fine refl
operation_asked schema forms.Batch d op whole fine = asked_in_form schema forms.Batch d (node_in d) (request_in schema forms.Batch d) (compact_text d) whole fine refl
operation_asked schema forms.Read d op whole fine = asked_in_form schema forms.Read d (node_in d) (request_in schema forms.Read d) (compact_text d) whole fine refl
operation_asked schema forms.Find d op whole fine = asked_in_form schema forms.Find d (node_in d) (request_in schema forms.Find d) (compact_text d) whole fine refl
operation_asked schema forms.Pump d op whole fine = asked_in_form schema forms.Pump d (node_in d) (request_in schema forms.Pump d) (compact_text d) whole fine refl
operation_asked schema forms.Refresh d op whole fine = tt
operation_asked schema forms.Tick d op whole fine = absurd (cc)
operation_asked schema forms.Deliver d op whole fine = absurd (cc)
operation_asked schema forms.Drop d op whole fine = absurd (cc)
operation_asked schema forms.Drain d op whole fine = absurd (cc)
operation_asked schema forms.Crash d op whole fine = absurd (cc)
operation_asked schema forms.Start d op whole fine = absurd (cc)
operation_asked schema forms.Fuse d op whole fine = absurd (cc)

pub request_asked : (schema : Schema) (number : ℕ) (line : List ℕ) (node : NodeId) (request : Request) (text : List ℕ) → event_of schema number line ≡ Ok (Begin node request text) → IsRequest request
request_asked schema number line node request text e =
    let s = spelled schema number line (Begin node request text) e in
    asked_in_form schema s.form s.json node request text (whole_data schema line (Begin node request text) s) s.fine s.is

-- ---- what any text means

pump_typed : (o : Option Pump) → IsTypedRequest (pump_request o)
pump_typed None = tt
pump_typed (Some Enter) = tt
pump_typed (Some Handle) = tt

typed_in_form : (schema : Schema) (form : Form) (d : Data) (node : NodeId) (request : Request) (text : List ℕ) → IsWhole d → event_in schema form d ≡ Begin node request text → IsTypedRequest request
typed_in_form schema forms.Txn d node request text whole e =
    let is : Txn (transaction_of schema (get (codes "group") d) d) ≡ request = cc in
    subst IsTypedRequest is (transaction_typed schema (get (codes "group") d) d whole)
typed_in_form schema forms.Batch d node request text whole e =
    let is : batch_of schema d ≡ request = cc in
    subst IsTypedRequest is (transactions_typed schema (get (codes "group") d) (get (codes "txns") d) (get_whole (codes "txns") d whole))
typed_in_form schema forms.Read d node request text whole e = let is : Read (read_request schema d) ≡ request = cc in subst IsTypedRequest is tt
typed_in_form schema forms.Find d node request text whole e = let is : Find (find_request schema d) ≡ request = cc in subst IsTypedRequest is tt
typed_in_form schema forms.Pump d node request text whole e =
    let is : pump_of d ≡ request = cc in subst IsTypedRequest is (pump_typed (option_and_then pump_named (option_and_then as_str (get (codes "what") d))))
typed_in_form schema forms.Refresh d node request text whole e = let is : Refresh ≡ request = cc in subst IsTypedRequest is tt
typed_in_form schema forms.Tick d node request text whole e = absurd (cc)
typed_in_form schema forms.Deliver d node request text whole e = absurd (cc)
typed_in_form schema forms.Drop d node request text whole e = absurd (cc)
typed_in_form schema forms.Drain d node request text whole e = absurd (cc)
typed_in_form schema forms.Crash d node request text whole e = absurd (cc)
typed_in_form schema forms.Start d node request text whole e = absurd (cc)
typed_in_form schema forms.Fuse d node request text whole e = absurd (cc)

spelled_typed : (schema : Schema) (text : List ℕ) (event : WorldEvent) (request : Request) → Spelled schema text event → asked_by event ≡ Some request → IsTypedRequest request
spelled_typed schema text (Begin node asked begun) request s e =
    let same : asked ≡ request = cc in
    subst IsTypedRequest same (typed_in_form schema s.form s.json node asked begun (whole_data schema text (Begin node asked begun) s) s.is)
spelled_typed schema text (Tick node clock) request s e = absurd (cc)
spelled_typed schema text (Deliver message) request s e = absurd (cc)
spelled_typed schema text (Drop message) request s e = absurd (cc)
spelled_typed schema text (Drain most) request s e = absurd (cc)
spelled_typed schema text (Crash node) request s e = absurd (cc)
spelled_typed schema text (Start node) request s e = absurd (cc)
spelled_typed schema text (Fuse node calls image device) request s e = absurd (cc)

pub meant_typed : (schema : Schema) (text : List ℕ) (request : Request) → meaning_in schema text ≡ Some request → IsTypedRequest request
meant_typed schema text request e = go (of_object schema (object_of text)) refl e
  where
    go : (r : Result WorldEvent ℕ) → of_object schema (object_of text) ≡ r → asked_in r ≡ Some request → IsTypedRequest request
    go (Err reason) is e = absurd (cc)
    go (Ok event) is e = spelled_typed schema text event request (by_object schema text event (object_of text) refl is) e

-- ---- clocks

within_most : (low high : ℕ) (o : Option ℕ) → within low high o ≡ Fine → unwrap_or o 0 ≤ high
within_most low high None e = absurd (cc)
within_most low high (Some n) e = go (nat_le low n) (nat_le n high) refl e
  where
    go : (s t : Bool) → nat_le n high ≡ t → (if s && t then Fine else OutOfRange) ≡ Fine → n ≤ high
    go true true is e = at_most_that n high is
    go true false is e = absurd (cc)
    go false t is e = absurd (cc)

number_most : (low high : ℕ) (o : Option Num) → number_within low high o ≡ Fine → unwrap_or (option_and_then as_u64 o) 0 ≤ high
number_most low high None e = absurd (cc)
number_most low high (Some x) e = go (is_float x) e
  where
    go : (t : Bool) → (if t then WrongKind else within low high (as_u64 x)) ≡ Fine → unwrap_or (as_u64 x) 0 ≤ high
    go true e = absurd (cc)
    go false e = within_most low high (as_u64 x) e

field_most : (low high : ℕ) (o : Option Data) → required (between low high) o ≡ Fine → number_in o ≤ high
field_most low high None e = absurd (cc)
field_most low high (Some d) e = number_most low high (as_number d) e

clock_in_form : (schema : Schema) (form : Form) (d : Data) (node : NodeId) (clock : ℕ) → fields_check form d ≡ Fine → event_in schema form d ≡ Tick node clock → IsClock clock
clock_in_form schema forms.Tick d node clock fine e =
    let is : number_in (get (codes "now") d) ≡ clock = cc in
    let most = field_most 0 (10 ^ 12) (get (codes "now") d) (both_fine (at_most 3 d ⊓ node_check d) (required (between 0 (10 ^ 12)) (get (codes "now") d)) fine).second in
    subst IsClock is (omega arith, most)
clock_in_form schema forms.Txn d node clock fine e = absurd (cc)
clock_in_form schema forms.Batch d node clock fine e = absurd (cc)
clock_in_form schema forms.Read d node clock fine e = absurd (cc)
clock_in_form schema forms.Find d node clock fine e = absurd (cc)
clock_in_form schema forms.Pump d node clock fine e = absurd (cc)
clock_in_form schema forms.Refresh d node clock fine e = absurd (cc)
clock_in_form schema forms.Deliver d node clock fine e = absurd (cc)
clock_in_form schema forms.Drop d node clock fine e = absurd (cc)
clock_in_form schema forms.Drain d node clock fine e = absurd (cc)
clock_in_form schema forms.Crash d node clock fine e = absurd (cc)
clock_in_form schema forms.Start d node clock fine e = absurd (cc)
clock_in_form schema forms.Fuse d node clock fine e = absurd (cc)

pub clock_asked : (schema : Schema) (number : ℕ) (line : List ℕ) (node : NodeId) (clock : ℕ) → event_of schema number line ≡ Ok (Tick node clock) → IsClock clock
clock_asked schema number line node clock e =
    let s = spelled schema number line (Tick node clock) e in clock_in_form schema s.form s.json node clock s.fine s.is
