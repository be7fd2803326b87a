-- What a client asks for is of the format.
use Rattle.std.proofs.Common.{◌≡◌, ℕ, ◌<◌, ◌^◌, cond, Bool, true, false, Option, Some, None, Result, Ok, Err, List, refl, ap, subst}
use Rattle.std.specs.Prelude.{codes, option_and_then}
use Rattle.json.proofs.Printed.Utf8.{IsUtf8-are_ascii}
use Rattle.serde_json.specs.Data.{Data, null, boolean, number, string, array, object, unsigned}
use Rattle.serde_json.specs.Find.{as_str, get}
use Rattle.mega_schema.specs.declared.schema.Schema.{Schema}
use Rattle.mega_schedule.specs.declared.asking.Ask.{Ask}
use Rattle.mega_schedule.specs.declared.form.Form.{Form}
use Rattle.mega_schedule.specs.declared.verdict.Verdict.{Verdict}
use Rattle.mega_schedule.specs.declared.verdict.Verdict.TheVariants.{Missing, Extra, WrongKind, OutOfRange, Fine}
use Rattle.mega_schedule.specs.Asking.{asked_by, asked_in, asked_of, is_operation, named_check, of_do, of_operation, only_operation, operation_named, with_node}
use Rattle.mega_schedule.specs.Events.{object_of}
use Rattle.mega_schedule.specs.Fields.{floats_check}
use Rattle.mega_schedule.specs.Forms.{fields_check, form_named, line_check}
use Rattle.mega_schedule.specs.Verdicts.{judged, ◌⊓◌}
use Rattle.mega_format_laws.specs.Requests.{IsRequest}
use Rattle.mega_json_laws.specs.Whole.{IsWhole}
use Rattle.mega_json_laws.proofs.Whole.{put_whole, read_whole}
use Rattle.mega_line_laws.proofs.Asking.{operation_asked}
use Rattle.mega_schedule.proofs.BothFine.{both_fine}
use Rattle.mega_line_laws.proofs.Spelled.{object_is}

-- the object as a line has it
with_node_whole : (node : ℕ) (d : Data) → node < 2 ^ 64 → IsWhole d → IsWhole (with_node node d)
with_node_whole node null small whole = tt
with_node_whole node (boolean b) small whole = tt
with_node_whole node (number x) small whole = whole
with_node_whole node (string s) small whole = whole
with_node_whole node (array ds) small whole = whole
with_node_whole node (object ms) small whole = put_whole (codes "node") (number (unsigned node)) ms (IsUtf8-are_ascii (codes "node") refl) small whole

-- a form that a client's word names begins an operation
operation_is : (word : Option (List ℕ)) (form : Form) → option_and_then operation_named word ≡ Some form → is_operation form ≡ true
operation_is None form e = absurd (cc)
operation_is (Some word) form e = by (form_named word) e
  where
    test : (f : Form) (t : Bool) → is_operation f ≡ t → cond {A = Option Form} t (Some f) None ≡ Some form → is_operation form ≡ true
    test f true is e = let same : f ≡ form = cc in subst (λ (g : Form). is_operation g ≡ true) same is
    test f false is e = absurd (cc)

    by : (o : Option Form) → option_and_then only_operation o ≡ Some form → is_operation form ≡ true
    by None e = absurd (cc)
    by (Some f) e = test f (is_operation f) refl e

record IsJudged (v : Verdict) (answer ask : Ask) : Type 0 where
  fine : v ≡ Fine
  is : answer ≡ ask

judged_fine : (v : Verdict) (answer ask : Ask) → judged v answer ≡ Ok ask → IsJudged v answer ask
judged_fine Fine answer ask e = record { fine = refl; is = cc }
judged_fine Missing answer ask e = absurd (cc)
judged_fine Extra answer ask e = absurd (cc)
judged_fine WrongKind answer ask e = absurd (cc)
judged_fine OutOfRange answer ask e = absurd (cc)

of_form : (schema : Schema) (node : ℕ) (d : Data) (ask : Ask) (form : Form) → is_operation form ≡ true → IsWhole (with_node node d) → of_operation schema node d (Some form) ≡ Ok ask → IsRequest ask.request
of_form schema node d ask form op whole e =
    let line = with_node node d in
    let j = judged_fine (named_check (get (codes "node") d) ⊓ line_check form line) (asked_in schema form line) ask e in
    let checked = (both_fine (named_check (get (codes "node") d)) (line_check form line) j.fine).second in
    let fields = (both_fine (fields_check form line) (floats_check line) checked).first in
    subst (λ (a : Ask). IsRequest a.request) j.is (operation_asked schema form line op whole fields)

by_word : (schema : Schema) (node : ℕ) (d : Data) (ask : Ask) (word : Option (List ℕ)) (o : Option Form) → option_and_then operation_named word ≡ o → IsWhole (with_node node d) → of_operation schema node d o ≡ Ok ask → IsRequest ask.request
by_word schema node d ask word None is whole e = absurd (cc)
by_word schema node d ask word (Some form) is whole e = of_form schema node d ask form (operation_is word form is) whole e

by_do : (schema : Schema) (node : ℕ) (d : Data) (ask : Ask) (o : Option Data) → IsWhole (with_node node d) → of_do schema node d o ≡ Ok ask → IsRequest ask.request
by_do schema node d ask None whole e = absurd (cc)
by_do schema node d ask (Some word) whole e = by_word schema node d ask (as_str word) (option_and_then operation_named (as_str word)) refl whole e

pub client_asked : (schema : Schema) (node : ℕ) (json : List ℕ) (ask : Ask) → node < 2 ^ 64 → asked_of schema node json ≡ Ok ask → IsRequest ask.request
client_asked schema node json ask small e = by (object_of json) refl e
  where
    by : (r : Result Data ℕ) → object_of json ≡ r → asked_by schema node r ≡ Ok ask → IsRequest ask.request
    by (Err reason) is e = absurd (cc)
    by (Ok d) is e = let o = object_is json d is in by_do schema node d ask (get (codes "do") d) (with_node_whole node d small (read_whole json d o.utf8 o.reads)) e
