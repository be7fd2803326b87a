-- What a line is that tells a change.
use Rattle.std.proofs.Common.{◌≡◌, ℕ, cond, Bool, true, false, List, [], refl, sym, ap, ◌∙◌, Option, Some, None, Result, Ok, Err}
use Rattle.std.specs.Prelude.{codes, length, nat_lt, unwrap_or, if◌then◌else◌}
use Rattle.std.proofs.lemmas.Bool.{and_parts}
use Rattle.serde_json.specs.Data.{Data}
use Rattle.serde_json.specs.Find.{get, as_str}
use Rattle.mega_schema.specs.declared.schema.Schema.{Schema}
use Rattle.mega_schedule.specs.declared.verdict.Verdict.{Verdict}
use Rattle.mega_schedule.specs.declared.verdict.Verdict.TheVariants.{Missing, Extra, WrongKind, OutOfRange, Fine}
use Rattle.mega_schedule.specs.Verdicts.{◌⊓◌, judged}
use Rattle.mega_schedule.specs.Fields.{at_most, required, each, word_among, floats_check}
use Rattle.mega_schedule.specs.Values.{text_in}
use Rattle.mega_schedule.specs.Rows.{each_in}
use Rattle.mega_schedule.specs.Events.{object_of}
use Rattle.mega_schedule.proofs.BothFine.{both_fine}
use Rattle.mega_two_driver.specs.declared.plan.Plan.{Plan}
use Rattle.mega_two_driver.specs.Lines.{is_name, name_check, part_check, line_check}
use Rattle.mega_two_driver.specs.Texts.{plan_with}
use Rattle.mega_two_driver.specs.Tables.{has_plans}
use Rattle.mega_two_driver.specs.Fits.{own_of}
use Rattle.mega_two_driver.specs.Begins.{most_line, name_in, parts_in, are_parts, parts_fit, all_fit, if_fits, plan_of_parts, plan_of_fine, plan_of_object, plan_of}

pub record IsBegun (s : Schema) (line : List ℕ) (plan : Plan) : Type 0 where
  pub d : Data
  pub object : object_of line ≡ Ok d
  pub fine : line_check d ≡ Fine
  pub plans : has_plans s ≡ true
  pub fit : parts_fit s (name_in d) (each_in (own_of s) (parts_in d)) (parts_in d) ≡ true
  pub is : plan ≡ plan_with s line (name_in d) (parts_in d)

pub is_begun : (s : Schema) (line : List ℕ) (plan : Plan) → plan_of s line ≡ Ok plan → IsBegun s line plan
unfolding plan_of plan_of_parts
is_begun s line plan e = by (nat_lt most_line (length line)) e
  where
    fourth : (d : Data) → object_of line ≡ Ok d → line_check d ≡ Fine → (a : Bool) → all_fit s (name_in d) (each_in (own_of s) (parts_in d)) (parts_in d) ≡ a → if_fits a (plan_with s line (name_in d) (parts_in d)) ≡ Ok plan → IsBegun s line plan
    fourth d object fine false fits g = absurd (cc)
    fourth d object fine true fits g =
        let p = and_parts (has_plans s) (parts_fit s (name_in d) (each_in (own_of s) (parts_in d)) (parts_in d)) fits in
        let same : plan_with s line (name_in d) (parts_in d) ≡ plan = cc in
        record { d = d; object = object; fine = fine; plans = p.0; fit = p.1; is = sym same }

    third : (d : Data) → object_of line ≡ Ok d → line_check d ≡ Fine → (b : Bool)
        → cond {A = Result Plan ℕ} b (if_fits (all_fit s (name_in d) (each_in (own_of s) (parts_in d)) (parts_in d)) (plan_with s line (name_in d) (parts_in d))) (Err 9) ≡ Ok plan → IsBegun s line plan
    third d object fine false g = absurd (cc)
    third d object fine true g = fourth d object fine (all_fit s (name_in d) (each_in (own_of s) (parts_in d)) (parts_in d)) refl g

    second : (d : Data) → object_of line ≡ Ok d → (v : Verdict) → line_check d ≡ v → plan_of_fine s line d (judged v tt) ≡ Ok plan → IsBegun s line plan
    second d object Missing is g = absurd (cc)
    second d object Extra is g = absurd (cc)
    second d object WrongKind is g = absurd (cc)
    second d object OutOfRange is g = absurd (cc)
    second d object Fine is g = third d object is (are_parts (each_in (own_of s) (parts_in d))) g

    first : (r : Result Data ℕ) → object_of line ≡ r → plan_of_object s line r ≡ Ok plan → IsBegun s line plan
    first (Err reason) object g = absurd (cc)
    first (Ok d) object g = second d object (line_check d) refl g

    by : (b : Bool) → cond {A = Result Plan ℕ} b (Err 7) (plan_of_object s line (object_of line)) ≡ Ok plan → IsBegun s line plan
    by true g = absurd (cc)
    by false g = first (object_of line) refl g

-- its name is one
pub name_is : (d : Data) → line_check d ≡ Fine → is_name (name_in d) ≡ true
name_is d e =
    let p = both_fine ((at_most 2 d ⊓ required name_check (get (codes "gid") d)) ⊓ required (each part_check) (get (codes "parts") d)) (floats_check d) e in
    let q = both_fine (at_most 2 d ⊓ required name_check (get (codes "gid") d)) (required (each part_check) (get (codes "parts") d)) p.first in
    let r = both_fine (at_most 2 d) (required name_check (get (codes "gid") d)) q.first in
    by (get (codes "gid") d) r.second
  where
    word : (o : Option (List ℕ)) (x : Data) → as_str x ≡ o → word_among is_name o ≡ Fine → is_name (text_in (Some x)) ≡ true
    word None x is g = absurd (cc)
    word (Some text) x is g = ap (λ o. is_name (unwrap_or o [])) is ∙ yes (is_name text) g
      where
        yes : (b : Bool) → (if b then Fine else OutOfRange) ≡ Fine → b ≡ true
        yes true h = refl
        yes false h = absurd (cc)

    by : (o : Option Data) → required name_check o ≡ Fine → is_name (text_in o) ≡ true
    by None g = absurd (cc)
    by (Some x) g = word (as_str x) x refl g
