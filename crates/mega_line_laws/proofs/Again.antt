-- The compact text of a line's object is read as the same object.
use Rattle.std.proofs.Common.{◌≡◌, ℕ, zero, suc, ◌+◌, ◌^◌, ◌<◌, ◌≤◌, cond, max, pos, negsuc, Bool, true, false, Option, Some, None, Result, Ok, Err, List, sym, ◌∙◌, ap, subst, arith}
use Rattle.std.specs.Prelude.{is_some, if◌then◌else◌}
use Rattle.std.specs.Str.{is_utf8}
use Rattle.std.proofs.lemmas.Bool.{or_parts}
use Rattle.serde_json.specs.Data.{Num, unsigned, negative, float, Data, null, boolean, number, string, array, object, Items, no_items, item, Members, no_members, member, depth, items_depth, members_depth}
use Rattle.serde_json.specs.Find.{as_object, is_float}
use Rattle.serde_json.specs.Read.{max_depth, read as read_json}
use Rattle.serde_json.specs.Written.{compact_text, has_float, items_have_float, members_have_float}
use Rattle.serde_json.proofs.Nesting.{depth-read}
use Rattle.mega_base.specs.declared.names.NodeId.{NodeId}
use Rattle.mega_schema.specs.declared.schema.Schema.{Schema}
use Rattle.mega_outcome.specs.declared.request.Request.{Request}
use Rattle.mega_schedule.specs.declared.form.Form.{Form}
use Rattle.mega_schedule.specs.declared.form.Form.TheVariants as forms
use Rattle.mega_schedule.specs.declared.world_event.WorldEvent.{WorldEvent}
use Rattle.mega_schedule.specs.declared.world_event.WorldEvent.TheVariants.{Begin}
use Rattle.mega_schedule.specs.Events.{event_in, event_of, object_of, of_object, only_object}
use Rattle.mega_transcript.specs.Requests.{json_of}
use Rattle.mega_transcript.proofs.Compact.{AreSoundItems, AreSoundMembers, IsSound, IsSoundNumber, json_again}
use Rattle.mega_json_laws.specs.Whole.{AreWholeItems, AreWholeMembers, IsWhole, IsWholeNumber}
use Rattle.mega_json_laws.proofs.Whole.{read_whole}
use Rattle.mega_line_laws.specs.Meanings.{asked_in, meaning_in}
use Rattle.mega_line_laws.proofs.Spelled.{Spelled, spelled}

number_sound : (x : Num) → IsWholeNumber x → is_float x ≡ false → IsSoundNumber x
number_sound (unsigned n) whole plain = whole
number_sound (negative (pos n)) whole plain = absurd whole
number_sound (negative (negsuc n)) whole plain = whole
number_sound (float x) whole plain = absurd (cc)

mutual
  pub sound : (n : ℕ) (d : Data) → IsWhole d → depth d ≤ n → has_float d ≡ false → IsSound n d
  sound n null whole deep plain = tt
  sound n (boolean b) whole deep plain = tt
  sound n (number x) whole deep plain = number_sound x whole plain
  sound n (string s) whole deep plain = whole
  sound zero (array ds) whole deep plain = absurd (omega (arith, deep))
  sound (suc n) (array ds) whole deep plain = items_sound n ds whole (omega (arith, deep)) plain
  sound zero (object ms) whole deep plain = absurd (omega (arith, deep))
  sound (suc n) (object ms) whole deep plain = members_sound n ms whole (omega (arith, deep)) plain

  items_sound : (n : ℕ) (ds : Items) → AreWholeItems ds → items_depth ds ≤ n → items_have_float ds ≡ false → AreSoundItems n ds
  items_sound n no_items whole deep plain = tt
  items_sound n (item d ds) whole deep plain =
      let p = or_parts (has_float d) (items_have_float ds) plain in
      (sound n d whole.0 (omega (arith, deep)) p.0, items_sound n ds whole.1 (omega (arith, deep)) p.1)

  members_sound : (n : ℕ) (ms : Members) → AreWholeMembers ms → members_depth ms ≤ n → members_have_float ms ≡ false → AreSoundMembers n ms
  members_sound n no_members whole deep plain = tt
  members_sound n (member k d no_members) whole deep plain =
      let p = or_parts (has_float d) (members_have_float no_members) plain in
      (whole.0, (sound n d whole.1.0 (omega (arith, deep)) p.0, (tt, tt)))
  members_sound n (member k d (member l e ms)) whole deep plain =
      let p = or_parts (has_float d) (members_have_float (member l e ms)) plain in
      (whole.0, (sound n d whole.1.0 (omega (arith, deep)) p.0, (whole.1.1.0, members_sound n (member l e ms) whole.1.1.1 (omega (arith, deep)) p.1)))

pub whole_data : (schema : Schema) (line : List ℕ) (event : WorldEvent) (s : Spelled schema line event) → IsWhole s.json
whole_data schema line event s = read_whole line s.json s.utf8 s.reads

-- the text is read as the object
read_again : (d : Data) → IsSound max_depth d → (if is_utf8 (compact_text d) then read_json (compact_text d) else None) ≡ Some d
unfolding json_of
read_again d s = json_again d s

text_again : (d : Data) → IsSound max_depth d → is_some (as_object d) ≡ true → object_of (compact_text d) ≡ Ok d
text_again d s is_one = go (is_utf8 (compact_text d)) (read_json (compact_text d)) (read_again d s)
  where
    go : (u : Bool) (o : Option Data) → (if u then o else None) ≡ Some d → cond {A = Result Data ℕ} u (only_object o) (Err 1) ≡ Ok d
    go true o e = ap only_object e ∙ ap (λ (t : Bool). cond {A = Result Data ℕ} t (Ok d) (Err 1)) is_one
    go false o e = absurd (cc)

-- an operation begins with the compact text of its line's object
pub begun_text : (schema : Schema) (form : Form) (d : Data) (node : NodeId) (request : Request) (text : List ℕ) → event_in schema form d ≡ Begin node request text → compact_text d ≡ text
begun_text schema forms.Txn d node request text e = cc
begun_text schema forms.Batch d node request text e = cc
begun_text schema forms.Read d node request text e = cc
begun_text schema forms.Find d node request text e = cc
begun_text schema forms.Pump d node request text e = cc
begun_text schema forms.Refresh d node request text e = cc
begun_text schema forms.Tick d node request text e = absurd (cc)
begun_text schema forms.Deliver d node request text e = absurd (cc)
begun_text schema forms.Drop d node request text e = absurd (cc)
begun_text schema forms.Drain d node request text e = absurd (cc)
begun_text schema forms.Crash d node request text e = absurd (cc)
begun_text schema forms.Start d node request text e = absurd (cc)
begun_text schema forms.Fuse d node request text e = absurd (cc)

pub means : (schema : Schema) (place : ℕ) (line : List ℕ) (node : NodeId) (request : Request) (text : List ℕ) → event_of schema place line ≡ Ok (Begin node request text) → meaning_in schema text ≡ Some request
means schema place line node request text e =
    let s = spelled schema place line (Begin node request text) e in
    let whole = whole_data schema line (Begin node request text) s in
    let again = text_again s.json (sound max_depth s.json whole (depth-read line s.json s.reads) s.whole) s.object in
    ap (λ (t : List ℕ). meaning_in schema t) (sym (begun_text schema s.form s.json node request text s.is)) ∙ ap (λ r. asked_in (of_object schema r)) again ∙ ap asked_in s.again
