-- What a line is that is an event.
use Rattle.std.proofs.Common.{◌≡◌, ℕ, cond, Bool, true, false, Option, Some, None, Result, Ok, Err, List, length, refl, sym, ◌∙◌, ap, subst}
use Rattle.std.specs.Prelude.{codes, is_some, nat_lt, option_and_then, if◌then◌else◌}
use Rattle.std.specs.Str.{is_utf8}
use Rattle.serde_json.specs.Data.{Data}
use Rattle.serde_json.specs.Find.{as_object, as_str, get}
use Rattle.serde_json.specs.Read.{read as read_json}
use Rattle.serde_json.specs.Written.{has_float}
use Rattle.mega_schema.specs.declared.schema.Schema.{Schema}
use Rattle.mega_schedule.specs.declared.form.Form.{Form}
use Rattle.mega_schedule.specs.declared.verdict.Verdict.{Verdict}
use Rattle.mega_schedule.specs.declared.verdict.Verdict.TheVariants.{Missing, Extra, WrongKind, OutOfRange, Fine}
use Rattle.mega_schedule.specs.declared.world_event.WorldEvent.{WorldEvent}
use Rattle.mega_schedule.specs.Events.{event_in, event_of, object_of, of_form, of_object, of_word, only_object}
use Rattle.mega_schedule.specs.Fields.{floats_check}
use Rattle.mega_schedule.specs.Forms.{fields_check, form_named, line_check}
use Rattle.mega_schedule.specs.Verdicts.{judged}
use Rattle.mega_schedule.proofs.BothFine.{both_fine}

-- a line's object, its form, and that it is read with no fault
pub record Spelled (schema : Schema) (line : List ℕ) (event : WorldEvent) : Type 0 where
  pub json : Data
  pub form : Form
  pub utf8 : is_utf8 line ≡ true
  pub reads : read_json line ≡ Some json
  pub object : is_some (as_object json) ≡ true
  pub again : of_object schema (Ok json) ≡ Ok event
  pub fine : fields_check form json ≡ Fine
  pub whole : has_float json ≡ false
  pub is : event_in schema form json ≡ event

-- ---- verdicts

no_floats : (d : Data) → floats_check d ≡ Fine → has_float d ≡ false
no_floats d e = go (has_float d) e
  where
    go : (t : Bool) → (if t then WrongKind else Fine) ≡ Fine → t ≡ false
    go true e = absurd (cc)
    go false e = refl

pub record IsJudged (v : Verdict) (answer event : WorldEvent) : Type 0 where
  pub fine : v ≡ Fine
  pub is : answer ≡ event

judged_fine : (v : Verdict) (answer event : WorldEvent) → judged v answer ≡ Ok event → IsJudged v answer event
judged_fine Fine answer event e = record { fine = refl; is = cc }
judged_fine Missing answer event e = absurd (cc)
judged_fine Extra answer event e = absurd (cc)
judged_fine WrongKind answer event e = absurd (cc)
judged_fine OutOfRange answer event e = absurd (cc)

-- ---- the line's object

pub record IsObject (line : List ℕ) (d : Data) : Type 0 where
  pub utf8 : is_utf8 line ≡ true
  pub reads : read_json line ≡ Some d
  pub object : is_some (as_object d) ≡ true

pub object_is : (line : List ℕ) (d : Data) → object_of line ≡ Ok d → IsObject line d
object_is line d e = go (is_utf8 line) refl (read_json line) refl e
  where
    some : (x : Data) → read_json line ≡ Some x → is_utf8 line ≡ true → (t : Bool) → is_some (as_object x) ≡ t → cond {A = Result Data ℕ} t (Ok x) (Err 1) ≡ Ok d → IsObject line d
    some x reads u true is e = let same : x ≡ d = cc in record { utf8 = u; reads = reads ∙ ap Some same; object = subst (λ (y : Data). is_some (as_object y) ≡ true) same is }
    some x reads u false is e = absurd (cc)

    go : (u : Bool) → is_utf8 line ≡ u → (o : Option Data) → read_json line ≡ o → cond {A = Result Data ℕ} u (only_object o) (Err 1) ≡ Ok d → IsObject line d
    go true u (Some x) reads e = some x reads u (is_some (as_object x)) refl e
    go true u None reads e = absurd (cc)
    go false u o reads e = absurd (cc)

-- ---- its form

record IsFormed (schema : Schema) (d : Data) (event : WorldEvent) : Type 0 where
  form : Form
  fine : fields_check form d ≡ Fine
  whole : has_float d ≡ false
  is : event_in schema form d ≡ event

formed : (schema : Schema) (d : Data) (event : WorldEvent) (o : Option Form) → of_form schema d o ≡ Ok event → IsFormed schema d event
formed schema d event None e = absurd (cc)
formed schema d event (Some form) e =
    let j = judged_fine (line_check form d) (event_in schema form d) event e in
    let f = both_fine (fields_check form d) (floats_check d) j.fine in
    record { form = form; fine = f.first; whole = no_floats d f.second; is = j.is }

worded : (schema : Schema) (d : Data) (event : WorldEvent) (o : Option Data) → of_word schema d o ≡ Ok event → IsFormed schema d event
worded schema d event None e = absurd (cc)
worded schema d event (Some word) e = formed schema d event (option_and_then form_named (as_str word)) e

pub by_object : (schema : Schema) (line : List ℕ) (event : WorldEvent) (r : Result Data ℕ) → object_of line ≡ r → of_object schema r ≡ Ok event → Spelled schema line event
by_object schema line event (Err reason) is e = absurd (cc)
by_object schema line event (Ok d) is e =
    let o = object_is line d is in
    let f = worded schema d event (get (codes "do") d) e in
    record { json = d; form = f.form; utf8 = o.utf8; reads = o.reads; object = o.object; again = e; fine = f.fine; whole = f.whole; is = f.is }

pub spelled : (schema : Schema) (number : ℕ) (line : List ℕ) (event : WorldEvent) → event_of schema number line ≡ Ok event → Spelled schema line event
unfolding event_of
spelled schema number line event e = go (nat_lt 65536 (length line)) (nat_lt 1000000 number) e
  where
    go : (s t : Bool) → cond {A = Result WorldEvent ℕ} s (Err 7) (cond {A = Result WorldEvent ℕ} t (Err 8) (of_object schema (object_of line))) ≡ Ok event → Spelled schema line event
    go false false e = by_object schema line event (object_of line) refl e
    go false true e = absurd (cc)
    go true t e = absurd (cc)
