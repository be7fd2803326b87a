-- The parts of a line that tells a change, as JSON without a fault.
use Rattle.std.proofs.Common.{◌≡◌, ℕ, zero, suc, cond, Bool, true, false, List, refl, sym, ap, ◌∙◌, Option, Some, None, Result, Ok, Err}
use Rattle.std.specs.Prelude.{codes, slice_get, is_some}
use Rattle.std.specs.Str.{is_utf8}
use Rattle.std.proofs.lemmas.Bool.{and_parts}
use Rattle.serde_json.specs.Data.{Data, null, boolean, number, string, array, object, Items, no_items, item}
use Rattle.serde_json.specs.Find.{get, as_object}
use Rattle.serde_json.specs.Read.{read as read_json, max_depth}
use Rattle.serde_json.specs.Written.{has_float}
use Rattle.serde_json.proofs.Nesting.{depth-read}
use Rattle.mega_json_laws.proofs.Whole.{read_whole}
use Rattle.mega_schema.specs.declared.schema.Schema.{Schema}
use Rattle.mega_schedule.specs.declared.verdict.Verdict.{Verdict}
use Rattle.mega_schedule.specs.declared.verdict.Verdict.TheVariants.{WrongKind, Fine}
use Rattle.mega_schedule.specs.Verdicts.{◌⊓◌}
use Rattle.mega_schedule.specs.Fields.{at_most, required, each, worst, text_check, values_check, value_check, group_check, floats_check}
use Rattle.mega_schedule.specs.Parts.{check_check, write_check}
use Rattle.mega_schedule.specs.Values.{list_in}
use Rattle.mega_schedule.specs.Rows.{each_in}
use Rattle.mega_schedule.specs.Events.{object_of, only_object}
use Rattle.mega_two_laws.specs.Parts.{Part}
use Rattle.mega_two_driver.specs.declared.plan.PartRequests.{PartRequests}
use Rattle.mega_two_driver.specs.Lines.{name_check, part_fields, part_check, line_check}
use Rattle.mega_two_driver.specs.Texts.{part_requests, parts_requests}
use Rattle.mega_two_driver.specs.Fits.{own_of, part_fits}
use Rattle.mega_two_driver.specs.Begins.{parts_in, parts_fit}
use Rattle.mega_two_outcome_laws.specs.Changes.{part_of}
use Rattle.mega_schedule.proofs.BothFine.{both_fine}
use Rattle.mega_two_outcome_laws.proofs.Held.{IsHeld, AreHeld, held_get, held_items, held_first, held_behind}
use Rattle.mega_two_outcome_laws.proofs.Joined.{worst_item, worst_behind}

-- ---- fields that have no fault

pub record IsListed (check : Data → Verdict) (o : Option Data) : Type 0 where
  pub items : Items
  pub is : o ≡ Some (array items)
  pub fine : worst check Fine items ≡ Fine

pub listed : (check : Data → Verdict) (o : Option Data) → required (each check) o ≡ Fine → IsListed check o
listed check None e = absurd (cc)
listed check (Some null) e = absurd (cc)
listed check (Some (boolean b)) e = absurd (cc)
listed check (Some (number x)) e = absurd (cc)
listed check (Some (string s)) e = absurd (cc)
listed check (Some (array ds)) e = record { items = ds; is = refl; fine = e }
listed check (Some (object ms)) e = absurd (cc)

texted : (d : Data) → text_check d ≡ Fine → (s : List ℕ) × (d ≡ string s)
texted null e = absurd (cc)
texted (boolean b) e = absurd (cc)
texted (number x) e = absurd (cc)
texted (string s) e = (s, refl)
texted (array ds) e = absurd (cc)
texted (object ms) e = absurd (cc)

abbrev pub group_data : List ℕ → Items → Data
group_data root values = array (item (string root) (item (array values) no_items))

pub record IsGroup (o : Option Data) : Type 0 where
  pub root : List ℕ
  pub values : Items
  pub is : o ≡ Some (group_data root values)
  pub fine : worst value_check Fine values ≡ Fine

same_data : (a b : Data) → Some a ≡ Some b → a ≡ b
same_data a b e = cc

grouped : (o : Option Data) → required group_check o ≡ Fine → IsGroup o
grouped None e = absurd (cc)
grouped (Some null) e = absurd (cc)
grouped (Some (boolean b)) e = absurd (cc)
grouped (Some (number x)) e = absurd (cc)
grouped (Some (string s)) e = absurd (cc)
grouped (Some (object ms)) e = absurd (cc)
grouped (Some (array no_items)) e = absurd (cc)
grouped (Some (array (item a no_items))) e = absurd (cc)
grouped (Some (array (item a (item b (item c ds))))) e = absurd (cc)
grouped (Some (array (item a (item b no_items)))) e =
    let f = both_fine (text_check a) (values_check b) e in
    let t = texted a f.first in
    let l = listed value_check (Some b) f.second in
    record { root = t.0; values = l.items; is = (λ i. Some (array (item (t.1 i) (item (same_data b (array l.items) l.is i) no_items)))); fine = l.fine }

-- ---- a part

pub record IsPart (part : Data) : Type 0 where
  pub group : IsGroup (get (codes "group") part)
  pub checks : IsListed check_check (get (codes "checks") part)
  pub writes : IsListed write_check (get (codes "writes") part)

fine_fields : (part : Data) → part_check part ≡ Fine → part_fields part ≡ Fine
fine_fields part e = by (is_some (as_object part)) e
  where
    by : (b : Bool) → cond b (part_fields part) WrongKind ≡ Fine → part_fields part ≡ Fine
    by true g = g
    by false g = absurd (cc)

pub is_part : (part : Data) → part_check part ≡ Fine → IsPart part
is_part part e =
    let group = required group_check (get (codes "group") part) in
    let checks = required (each check_check) (get (codes "checks") part) in
    let writes = required (each write_check) (get (codes "writes") part) in
    let p = both_fine (at_most 3 part ⊓ group ⊓ checks) writes (fine_fields part e) in
    let q = both_fine (at_most 3 part ⊓ group) checks p.first in
    let r = both_fine (at_most 3 part) group q.first in
    record {
      group = grouped (get (codes "group") part) r.second;
      checks = listed check_check (get (codes "checks") part) q.second;
      writes = listed write_check (get (codes "writes") part) p.second;
    }

-- ---- the line

pub record IsLine (d : Data) : Type 0 where
  pub parts : IsListed part_check (get (codes "parts") d)
  pub plain : has_float d ≡ false

pub is_line : (d : Data) → line_check d ≡ Fine → IsLine d
is_line d e =
    let p = both_fine ((at_most 2 d ⊓ required name_check (get (codes "gid") d)) ⊓ required (each part_check) (get (codes "parts") d)) (floats_check d) e in
    let q = both_fine (at_most 2 d ⊓ required name_check (get (codes "gid") d)) (required (each part_check) (get (codes "parts") d)) p.first in
    record { parts = listed part_check (get (codes "parts") d) q.second; plain = by (has_float d) p.second }
  where
    by : (b : Bool) → cond b WrongKind Fine ≡ Fine → b ≡ false
    by true g = absurd (cc)
    by false g = refl

held_line : (line : List ℕ) (d : Data) → object_of line ≡ Ok d → has_float d ≡ false → IsHeld max_depth d
held_line line d e plain = by (is_utf8 line) refl e
  where
    third : is_utf8 line ≡ true → (x : Data) → read_json line ≡ Some x → (b : Bool) → cond {A = Result Data ℕ} b (Ok x) (Err 1) ≡ Ok d → IsHeld max_depth d
    third utf8 x reads false g = absurd (cc)
    third utf8 x reads true g =
        let same : x ≡ d = cc in
        let reads_as : read_json line ≡ Some d = reads ∙ ap Some same in
        record { whole = read_whole line d utf8 reads_as; deep = depth-read line d reads_as; plain = plain }

    second : is_utf8 line ≡ true → (o : Option Data) → read_json line ≡ o → only_object o ≡ Ok d → IsHeld max_depth d
    second utf8 None reads g = absurd (cc)
    second utf8 (Some x) reads g = third utf8 x reads (is_some (as_object x)) g

    by : (b : Bool) → is_utf8 line ≡ b → cond {A = Result Data ℕ} b (only_object (read_json line)) (Err 1) ≡ Ok d → IsHeld max_depth d
    by false utf8 g = absurd (cc)
    by true utf8 g = second utf8 (read_json line) refl g

-- ---- the part with this number, its requests, and what the world has of it

pub record IsNth (s : Schema) (name : List ℕ) (asks : PartRequests) (told : Part) : Type 0 where
  pub part : Data
  pub asks_are : part_requests s name part ≡ asks
  pub told_is : part_of s part ≡ told
  pub is : IsPart part
  pub fits : part_fits s name (own_of s part) part ≡ true
  pub held : IsHeld 125 part

nth : (s : Schema) (name : List ℕ) (asks : PartRequests) (told : Part) (i : ℕ) (parts : Items) → slice_get (parts_requests s name parts) i ≡ Some asks → slice_get (each_in (part_of s) parts) i ≡ Some told
    → worst part_check Fine parts ≡ Fine → parts_fit s name (each_in (own_of s) parts) parts ≡ true → AreHeld 125 parts → IsNth s name asks told
nth s name asks told i no_items a t fine fits held = absurd (cc)
nth s name asks told zero (item part parts) a t fine fits held =
    let asks_are : part_requests s name part ≡ asks = cc in
    let told_is : part_of s part ≡ told = cc in
    record {
      part = part;
      asks_are = asks_are;
      told_is = told_is;
      is = is_part part (worst_item part_check part parts fine);
      fits = (and_parts (part_fits s name (own_of s part) part) (parts_fit s name (each_in (own_of s) parts) parts) fits).0;
      held = held_first 125 part parts held;
    }
nth s name asks told (suc i) (item part parts) a t fine fits held =
    nth s name asks told i parts a t (worst_behind part_check part parts fine) (and_parts (part_fits s name (own_of s part) part) (parts_fit s name (each_in (own_of s) parts) parts) fits).1
    (held_behind 125 part parts held)

pub nth_of : (s : Schema) (line name : List ℕ) (d : Data) (asks : PartRequests) (told : Part) (i : ℕ) → object_of line ≡ Ok d → line_check d ≡ Fine
    → parts_fit s name (each_in (own_of s) (parts_in d)) (parts_in d) ≡ true → slice_get (parts_requests s name (parts_in d)) i ≡ Some asks → slice_get (each_in (part_of s) (parts_in d)) i ≡ Some told
    → IsNth s name asks told
nth_of s line name d asks told i reads fine fits a t =
    let l = is_line d fine in
    let items = (l.parts).items in
    let are : parts_in d ≡ items = ap list_in (l.parts).is in
    let held = held_get 126 (codes "parts") d (array items) (held_line line d reads l.plain) (l.parts).is in
    nth s name asks told i items (ap (λ ps. slice_get (parts_requests s name ps) i) (sym are) ∙ a) (ap (λ ps. slice_get (each_in (part_of s) ps) i) (sym are) ∙ t) (l.parts).fine
    (ap (λ ps. parts_fit s name (each_in (own_of s) ps) ps) (sym are) ∙ fits) (held_items 125 items held)
