-- Lists of JSON, one behind another: their text, and what is read of them.
use Rattle.std.proofs.Common.{◌≡◌, ℕ, ◌||◌, true, false, ◌∷◌, ◌++◌, refl, sym, ap, ◌∙◌, append_assoc, Some}
use Rattle.std.specs.Prelude.{option_map, option_and_then}
use Rattle.json.specs.Json as json
use Rattle.serde_json.specs.Data.{Data, Items, no_items, item}
use Rattle.serde_json.specs.Read.{of_items}
use Rattle.serde_json.specs.Written.{outline, items_outline, items_have_float}
use Rattle.mega_schedule.specs.declared.verdict.Verdict.{Verdict}
use Rattle.mega_schedule.specs.declared.verdict.Verdict.TheVariants.{Fine}
use Rattle.mega_schedule.specs.Verdicts.{◌⊓◌}
use Rattle.mega_schedule.specs.Fields.{worst}
use Rattle.mega_schedule.specs.Rows.{each_in}
use Rattle.mega_two_driver.specs.Texts.{value_text, after_commas, before_commas}
use Rattle.mega_two_outcome_laws.proofs.Trees.{text_of, items_text, AreGood}
use Rattle.mega_schedule.proofs.BothFine.{both_fine}
use Rattle.mega_two_outcome_laws.proofs.Held.{AreHeld, held_good, held_again, held_first, held_behind, value_said}

abbrev pub joined : json.Items → json.Items → json.Items
joined json.no_items ks = ks
joined (json.item j js) ks = json.item j (joined js ks)

abbrev pub both : Items → Items → Items
both no_items es = es
both (item d ds) es = item d (both ds es)

-- ---- their texts

pub after_text : (n : ℕ) (ds : Items) (ks : json.Items) → AreHeld n ds → after_commas ds ++ items_text true ks ≡ items_text true (joined (items_outline ds) ks)
after_text n no_items ks h = refl
after_text n (item d ds) ks h =
    ap (λ x. 44 ∷ x) (append_assoc (value_text d) (after_commas ds) (items_text true ks))
    ∙ (λ i. 44 ∷ (value_said n d (held_first n d ds h) i ++ after_text n ds ks (held_behind n d ds h) i))

comma_first : (ds : Items) (j : json.Json) (js : json.Items) → 44 ∷ items_text false (joined (items_outline ds) (json.item j js)) ≡ items_text true (joined (items_outline ds) (json.item j js))
comma_first no_items j js = refl
comma_first (item d ds) j js = refl

pub before_text : (n : ℕ) (ds : Items) (j : json.Json) (js : json.Items) → AreHeld n ds
    → before_commas ds ++ items_text false (json.item j js) ≡ items_text false (joined (items_outline ds) (json.item j js))
before_text n no_items j js h = refl
before_text n (item d ds) j js h =
    append_assoc (value_text d) (44 ∷ before_commas ds) (items_text false (json.item j js))
    ∙ (λ i. value_said n d (held_first n d ds h) i ++ (44 ∷ before_text n ds j js (held_behind n d ds h) i))
    ∙ ap (λ x. text_of (outline d) ++ x) (comma_first ds j js)

-- ---- what is read of them

pub joined_good : (n : ℕ) (ds : Items) (ks : json.Items) → AreHeld n ds → AreGood n ks → AreGood n (joined (items_outline ds) ks)
joined_good n no_items ks h g = g
joined_good n (item d ds) ks h g = (held_good n d (held_first n d ds h), joined_good n ds ks (held_behind n d ds h) g)

pub joined_read : (n : ℕ) (ds es : Items) (ks : json.Items) → AreHeld n ds → of_items ks ≡ Some es → of_items (joined (items_outline ds) ks) ≡ Some (both ds es)
joined_read n no_items es ks h e = e
joined_read n (item d ds) es ks h e =
    ap (option_and_then (λ x. option_map (item x) (of_items (joined (items_outline ds) ks)))) (held_again n d (held_first n d ds h))
    ∙ ap (option_map (item d)) (joined_read n ds es ks (held_behind n d ds h) e)

pub each_both : {A : Type 0} (read : Data → A) (ds es : Items) → each_in read (both ds es) ≡ each_in read ds ++ each_in read es
each_both read no_items es = refl
each_both read (item d ds) es = ap (λ xs. read d ∷ xs) (each_both read ds es)

pub both_plain : (n : ℕ) (ds es : Items) → AreHeld n ds → items_have_float es ≡ false → items_have_float (both ds es) ≡ false
both_plain n no_items es h e = e
both_plain n (item d ds) es h e = (λ i. (held_first n d ds h).plain i || both_plain n ds es (held_behind n d ds h) e i)

-- ---- no item has a fault

pub worst_first : (check : Data → Verdict) (v : Verdict) (ds : Items) → worst check v ds ≡ Fine → v ≡ Fine
worst_first check v no_items e = e
worst_first check v (item d ds) e = (both_fine v (check d) (worst_first check (v ⊓ check d) ds e)).first

pub worst_item : (check : Data → Verdict) (d : Data) (ds : Items) → worst check Fine (item d ds) ≡ Fine → check d ≡ Fine
worst_item check d ds e = worst_first check (check d) ds e

pub worst_behind : (check : Data → Verdict) (d : Data) (ds : Items) → worst check Fine (item d ds) ≡ Fine → worst check Fine ds ≡ Fine
worst_behind check d ds e = ap (λ v. worst check v ds) (sym (worst_item check d ds e)) ∙ e

pub worst_next : (check : Data → Verdict) (d : Data) (ds : Items) → check d ≡ Fine → worst check Fine ds ≡ Fine → worst check Fine (item d ds) ≡ Fine
worst_next check d ds one e = ap (λ v. worst check v ds) one ∙ e

pub worst_both : (check : Data → Verdict) (ds es : Items) → worst check Fine ds ≡ Fine → worst check Fine es ≡ Fine → worst check Fine (both ds es) ≡ Fine
worst_both check no_items es d e = e
worst_both check (item x ds) es d e = worst_next check x (both ds es) (worst_item check x ds d) (worst_both check ds es (worst_behind check x ds d) e)
