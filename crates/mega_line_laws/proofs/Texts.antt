-- The text with which an operation begins is the compact text of an object.
use Rattle.std.proofs.Common.{◌≡◌, ℕ, ◌||◌, cond, Bool, true, false, Option, Some, None, Result, Ok, Err, List, refl, sym, ◌∙◌, ap, subst}
use Rattle.std.specs.Prelude.{is_some, option_and_then, if◌then◌else◌}
use Rattle.std.proofs.lemmas.Slice.Eq.{bytes_eq-Decides}
use Rattle.serde_json.specs.Data.{Data, null, boolean, number, string, array, object}
use Rattle.serde_json.specs.Find.{as_object}
use Rattle.serde_json.specs.Read.{max_depth}
use Rattle.serde_json.specs.Written.{compact_text, has_float}
use Rattle.serde_json.proofs.Nesting.{depth-read}
use Rattle.mega_base.specs.declared.names.NodeId.{NodeId}
use Rattle.mega_schema.specs.declared.schema.Schema.{Schema}
use Rattle.mega_outcome.specs.declared.request.Request.{Request}
use Rattle.mega_schedule.specs.declared.world_event.WorldEvent.TheVariants.{Begin}
use Rattle.mega_schedule.specs.Events.{event_of}
use Rattle.mega_transcript.specs.Requests.{IsRequest as IsText, compact_of, is_request, is_text, json_of}
use Rattle.mega_transcript.proofs.Compact.{IsSound, json_again, text_told}
use Rattle.mega_line_laws.proofs.Again.{begun_text, sound, whole_data}
use Rattle.mega_line_laws.proofs.Spelled.{Spelled, spelled}

-- an object with no float has a compact text
compact : (d : Data) → is_some (as_object d) ≡ true → has_float d ≡ false → compact_of d ≡ Some (compact_text d)
compact null is whole = absurd (cc)
compact (boolean b) is whole = absurd (cc)
compact (number n) is whole = absurd (cc)
compact (string s) is whole = absurd (cc)
compact (array ds) is whole = absurd (cc)
compact (object ms) is whole = ap (λ (t : Bool). if t then None else Some (compact_text (object ms))) whole

compact_request : (d : Data) → IsSound max_depth d → is_some (as_object d) ≡ true → has_float d ≡ false → IsText (compact_text d)
unfolding is_request
compact_request d s is whole = (
  text_told max_depth d s,
  ap (λ (o : Option Data). is_text (compact_text d) (option_and_then compact_of o)) (json_again d s) ∙ ap (is_text (compact_text d)) (compact d is whole) ∙ (bytes_eq-Decides (compact_text d) (compact_text d)).1 refl,
)

pub begun_request : (schema : Schema) (place : ℕ) (line : List ℕ) (node : NodeId) (request : Request) (text : List ℕ) → event_of schema place line ≡ Ok (Begin node request text) → IsText text
begun_request schema place line node request text e =
    let s = spelled schema place line (Begin node request text) e in
    let whole = whole_data schema line (Begin node request text) s in
    subst IsText (begun_text schema s.form s.json node request text s.is)
    (compact_request s.json (sound max_depth s.json whole (depth-read line s.json s.reads) s.whole) s.object s.whole)
