-- Where the bands of groups end, one line more at a time, looking back.
use Rattle.std.proofs.Common.{◌≡◌, ℕ, ◌+◌, ◌-◌, ◌<◌, ◌≤◌, Bool, true, false, ◌||◌, cond, List, ◌∷◌, ◌++◌, length, drop, get_or, refl, sym, ap, ◌∙◌, subst, arith, append_assoc}
use Rattle.std.specs.Prelude.{Option, Some, unwrap_or, ◌==◌}
use Rattle.std.specs.Ordering.{nat_cmp, is_eq}
use Rattle.std.specs.BTreeMap.{BTreeMap, get, Updates}
use Rattle.std.proofs.lemmas.List.{drop_more}
use Rattle.std.proofs.lemmas.Bool.Decides.{nat_tests}
use Rattle.mega_picture.specs.declared.item_line.ItemLine.{ItemLine}
use Rattle.mega_picture.specs.declared.sheet.Sheet.{Sheet}
use Rattle.mega_picture.specs.declared.bands.Band.TheVariants.{Serves}
use Rattle.mega_picture.specs.declared.validity.Change.{Change}
use Rattle.mega_picture.specs.declared.validity.EndsAt.{EndsAt}
use Rattle.mega_picture.specs.Bands.{turn_of}
use Rattle.mega_picture.specs.Ends.{end_at, Ends}
use Rattle.mega_picture.specs.Validity.{change_of, ends_band, end_from, change_text, validities_from}

-- of two tests either ends the band
pub joined : (a b : Bool) (row was between after : ℕ) → between ≡ cond b row was → after ≡ cond a row between → after ≡ cond (a || b) row was
joined true b row was between after e f = f
joined false b row was between after e f = f ∙ e

cmp_is : (a b : ℕ) → is_eq (nat_cmp a b) ≡ (a == b)
cmp_is a b = grind (arith, nat_tests)

-- a group changes in a row
pub changed : (old new : BTreeMap ℕ ℕ) (gone key row : ℕ) → Updates nat_cmp old new key (Some row) → (group : ℕ) → unwrap_or (get nat_cmp new group) gone ≡ cond (key == group) row (unwrap_or (get nat_cmp old group) gone)
changed old new gone key row updates = λ group. ap (λ o. unwrap_or o gone) (updates.0 group ∙ ap (λ b. cond b (Some row) (get nat_cmp old group)) (cmp_is key group)) ∙ by (get nat_cmp old group) (key == group)
  where
    by : (o : Option ℕ) (b : Bool) → unwrap_or (cond b (Some row) o) gone ≡ cond b row (unwrap_or o gone)
    by o true = refl
    by o false = refl

module _ (keys : List (List ℕ)) (node : ℕ) (told : List ItemLine) (ends : EndsAt) (at : ℕ) (one : ItemLine) (some : 0 < at) (within : at ≤ length told) (is : one ≡ get_or told (at - 1) one) (known : Ends ends keys node at (drop at told)) where
  next_is : at ≡ at - 1 + 1
  next_is = omega (arith, some)

  inside : at - 1 < length told
  inside = omega (arith, some, within)

  parted : drop (at - 1) told ≡ one ∷ drop (at - 1 + 1) told
  parted = drop_more told (at - 1) one inside ∙ ap (λ x. x ∷ drop (at - 1 + 1) told) (sym is)

  known_next : Ends ends keys node (at - 1 + 1) (drop (at - 1 + 1) told)
  known_next = subst (λ k. Ends ends keys node k (drop k told)) next_is known

  -- the band that begins in the row was written behind those that begin later
  pub validities_on : (init out : List ℕ) (sheet : Sheet) → out ≡ init ++ validities_from sheet keys node at (drop at told) → out ++ change_text sheet node (at - 1) (change_of keys node one.item) (end_at ends) one.line ≡ init ++ validities_from sheet keys node (at - 1) (drop (at - 1) told)
  validities_on init out sheet was =
      let later : List ℕ = validities_from sheet keys node (at - 1 + 1) (drop (at - 1 + 1) told) in
      let change : Option Change = change_of keys node one.item in
      let was_next : out ≡ init ++ later = subst (λ k. out ≡ init ++ validities_from sheet keys node k (drop k told)) next_is was in
      ap (λ o. o ++ change_text sheet node (at - 1) change (end_at ends) one.line) was_next
      ∙ append_assoc init later (change_text sheet node (at - 1) change (end_at ends) one.line)
      ∙ ap (λ end. init ++ (later ++ change_text sheet node (at - 1) change end one.line)) (λ i. λ group. known_next group i)
      ∙ ap (λ rest. init ++ validities_from sheet keys node (at - 1) rest) (sym parted)

  -- and where bands end is known from the row on
  pub ends_on : (after : EndsAt) → ((group : ℕ) → end_at after group ≡ cond (ends_band group (change_of keys node one.item) (turn_of Serves node one.item)) (at - 1) (end_at ends group)) → Ends after keys node (at - 1) (drop (at - 1) told)
  ends_on after over = λ group.
      over group
      ∙ ap (λ k. cond (ends_band group (change_of keys node one.item) (turn_of Serves node one.item)) (at - 1) k) (known_next group)
      ∙ ap (λ rest. end_from keys node group (at - 1) rest) (sym parted)
