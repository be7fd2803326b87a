-- Places for rows: one that is made holds none, and one that is set holds its row.
use Rattle.std.proofs.Common.{◌≡◌, ◌∙◌, ap, sym, refl, ℕ, Bool, true, false, cond, List, [], ◌∷◌, ◌||◌}
use Rattle.std.specs.Prelude.{Option, Some, None, is_some}
use Rattle.std.specs.declared.cmp.Ordering.{Ordering}
use Rattle.std.specs.declared.cmp.Ordering.TheVariants.{Less, Equal, Greater}
use Rattle.std.specs.Ordering.{is_eq, match_ordering}
use Rattle.std.specs.Map.{lookup, set_value, remove_entry}
use Rattle.std.specs.BTreeMap.{insert_entry}
use Rattle.std.specs.Cmp.Lexicographic.{nat_list_cmp_total}
use Rattle.mega_base.specs.declared.values.Row.{Row}
use Rattle.mega_row_writes.specs.Rows.{Listed, key_cmp, same_key, list_changed}
use Rattle.mega_index.specs.Marks.{held_rows, has_slot}
use Rattle.mega_index.proofs.Ordered.{Below, Ascends, below-none, insert-front, by_order, by_test, equal_keys}

abbrev Slots : Type 0
Slots = List (List ℕ × Option Row)

pub slot-is_some : (es : Slots) (k : List ℕ) → has_slot es k ≡ is_some (lookup (same_key k) es)
slot-is_some [] k = refl
slot-is_some (e ∷ es) k = by_test (same_key k e.0) _
    (λ h. ap (λ b. b || has_slot es k) h ∙ sym (ap (λ b. is_some (cond b (Some e.1) (lookup (same_key k) es))) h))
    (λ h. ap (λ b. b || has_slot es k) h ∙ slot-is_some es k ∙ sym (ap (λ b. is_some (cond b (Some e.1) (lookup (same_key k) es))) h))

pub below-held : (k : List ℕ) (es : Slots) → Below k es → Below k (held_rows es)
below-held k [] below = tt
below-held k ((q, None) ∷ es) below = below-held k es below.1
below-held k ((q, Some row) ∷ es) below = (below.0, below-held k es below.1)

-- what a set does to the first of these
set_here : (k : List ℕ) (e : List ℕ × Option Row) (es : Slots) (v : Option Row) → key_cmp k e.0 ≡ Equal → set_value (same_key k) (e ∷ es) v ≡ (e.0, v) ∷ es
set_here k e es v h = ap (λ o. cond (is_eq o) ((e.0, v) ∷ es) (e ∷ set_value (same_key k) es v)) h

set_there : (k : List ℕ) (e : List ℕ × Option Row) (es : Slots) (v : Option Row) → key_cmp k e.0 ≡ Greater → set_value (same_key k) (e ∷ es) v ≡ e ∷ set_value (same_key k) es v
set_there k e es v h = ap (λ o. cond (is_eq o) ((e.0, v) ∷ es) (e ∷ set_value (same_key k) es v)) h

slot_there : (k : List ℕ) (e : List ℕ × Option Row) (es : Slots) → key_cmp k e.0 ≡ Greater → has_slot (e ∷ es) k ≡ has_slot es k
slot_there k e es h = ap (λ o. is_eq o || has_slot es k) h

-- a key before the first has no place
slot_before : (k : List ℕ) (e : List ℕ × Option Row) (es : Slots) → Ascends (e ∷ es) → key_cmp k e.0 ≡ Less → has_slot (e ∷ es) k ≡ false
slot_before k e es up h = slot-is_some (e ∷ es) k ∙ ap is_some (below-none k (e ∷ es) (h, below-after k e.0 es h up.0))
  where
    below-after : (k q : List ℕ) (es : Slots) → key_cmp k q ≡ Less → Below q es → Below k es
    below-after k q [] h below = tt
    below-after k q (e ∷ es) h below = (nat_list_cmp_total.trans k q e.0 h below.0, below-after k q es h below.1)

no_slot : {P : Type 0} → (b : Bool) → b ≡ true → b ≡ false → P
no_slot b t f = absurd (differ (sym t ∙ f))
  where
    differ : true ≡ false → ⊥
    differ e = cc

insert_at : (listed : Listed) (q : List ℕ) (old row : Row) (k : List ℕ) (o : Ordering) → key_cmp k q ≡ o
    → insert_entry key_cmp ((q, old) ∷ listed) k row ≡ match_ordering o ((k, row) ∷ (q, old) ∷ listed) ((q, row) ∷ listed) ((q, old) ∷ insert_entry key_cmp listed k row)
insert_at listed q old row k o h = ap (λ o. match_ordering o ((k, row) ∷ (q, old) ∷ listed) ((q, row) ∷ listed) ((q, old) ∷ insert_entry key_cmp listed k row)) h

pub held-set_some : (es : Slots) (k : List ℕ) (row : Row) → Ascends es → has_slot es k ≡ true
    → held_rows (set_value (same_key k) es (Some row)) ≡ insert_entry key_cmp (held_rows es) k row
held-set_some [] k row up there = cc
held-set_some ((q, None) ∷ es) k row up there = by_order (key_cmp k q) _
    (λ h. no_slot (has_slot ((q, None) ∷ es) k) there (slot_before k (q, None) es up h))
    (λ h. ap held_rows (set_here k (q, None) es (Some row) h)
    ∙ sym (ap (λ k. insert_entry key_cmp (held_rows es) k row) (equal_keys k q h) ∙ insert-front q row (held_rows es) (below-held q es up.0)))
    (λ h. ap held_rows (set_there k (q, None) es (Some row) h) ∙ held-set_some es k row up.1 (sym (slot_there k (q, None) es h) ∙ there))
held-set_some ((q, Some old) ∷ es) k row up there = by_order (key_cmp k q) _
    (λ h. no_slot (has_slot ((q, Some old) ∷ es) k) there (slot_before k (q, Some old) es up h))
    (λ h. ap held_rows (set_here k (q, Some old) es (Some row) h) ∙ sym (insert_at (held_rows es) q old row k Equal h))
    (λ h. ap held_rows (set_there k (q, Some old) es (Some row) h)
    ∙ ap (λ listed. (q, old) ∷ listed) (held-set_some es k row up.1 (sym (slot_there k (q, Some old) es h) ∙ there))
    ∙ sym (insert_at (held_rows es) q old row k Greater h))

-- a key before all of these is not removed
remove-below : (k : List ℕ) (es : Listed) → Below k es → remove_entry (same_key k) es ≡ es
remove-below k [] below = refl
remove-below k (e ∷ es) below =
    ap (λ o. cond (is_eq o) es (e ∷ remove_entry (same_key k) es)) below.0 ∙ ap (λ rest. e ∷ rest) (remove-below k es below.1)

pub held-set_none : (es : Slots) (k : List ℕ) → Ascends es → has_slot es k ≡ true
    → held_rows (set_value (same_key k) es None) ≡ remove_entry (same_key k) (held_rows es)
held-set_none [] k up there = cc
held-set_none ((q, None) ∷ es) k up there = by_order (key_cmp k q) _
    (λ h. no_slot (has_slot ((q, None) ∷ es) k) there (slot_before k (q, None) es up h))
    (λ h. ap held_rows (set_here k (q, None) es None h)
    ∙ sym (ap (λ k. remove_entry (same_key k) (held_rows es)) (equal_keys k q h) ∙ remove-below q (held_rows es) (below-held q es up.0)))
    (λ h. ap held_rows (set_there k (q, None) es None h) ∙ held-set_none es k up.1 (sym (slot_there k (q, None) es h) ∙ there))
held-set_none ((q, Some old) ∷ es) k up there = by_order (key_cmp k q) _
    (λ h. no_slot (has_slot ((q, Some old) ∷ es) k) there (slot_before k (q, Some old) es up h))
    (λ h. ap held_rows (set_here k (q, Some old) es None h)
    ∙ sym (ap (λ o. cond (is_eq o) (held_rows es) ((q, old) ∷ remove_entry (same_key k) (held_rows es))) h))
    (λ h. ap held_rows (set_there k (q, Some old) es None h)
    ∙ ap (λ listed. (q, old) ∷ listed) (held-set_none es k up.1 (sym (slot_there k (q, Some old) es h) ∙ there))
    ∙ sym (ap (λ o. cond (is_eq o) (held_rows es) ((q, old) ∷ remove_entry (same_key k) (held_rows es))) h))

insert_slot : (e : List ℕ × Option Row) (es : Slots) (k : List ℕ) (v : Option Row) (o : Ordering) → key_cmp k e.0 ≡ o
    → insert_entry key_cmp (e ∷ es) k v ≡ match_ordering o ((k, v) ∷ e ∷ es) ((e.0, v) ∷ es) (e ∷ insert_entry key_cmp es k v)
insert_slot e es k v o h = ap (λ o. match_ordering o ((k, v) ∷ e ∷ es) ((e.0, v) ∷ es) (e ∷ insert_entry key_cmp es k v)) h

held_rest : (e : List ℕ × Option Row) (es fs : Slots) → held_rows es ≡ held_rows fs → held_rows (e ∷ es) ≡ held_rows (e ∷ fs)
held_rest (q, None) es fs h = h
held_rest (q, Some row) es fs h = ap (λ listed. (q, row) ∷ listed) h

-- an empty place for a new key
pub held-insert_none : (es : Slots) (k : List ℕ) → has_slot es k ≡ false → held_rows (insert_entry key_cmp es k None) ≡ held_rows es
held-insert_none [] k none = refl
held-insert_none (e ∷ es) k none = by_order (key_cmp k e.0) _
    (λ h. ap held_rows (insert_slot e es k None Less h))
    (λ h. no_slot (has_slot (e ∷ es) k) (ap (λ o. is_eq o || has_slot es k) h) none)
    (λ h. ap held_rows (insert_slot e es k None Greater h)
    ∙ held_rest e (insert_entry key_cmp es k None) es (held-insert_none es k (sym (slot_there k e es h) ∙ none)))

-- what a set at a place comes to
pub held-set : (es : Slots) (k : List ℕ) (row : Option Row) → Ascends es → has_slot es k ≡ true
    → held_rows (set_value (same_key k) es row) ≡ list_changed (held_rows es) (record { key = k; row = row })
held-set es k None up there = held-set_none es k up there
held-set es k (Some row) up there = held-set_some es k row up there

-- a place that is updated is there, and the others stay
pub slot-updated : (es fs : Slots) (k q : List ℕ) (v : Option Row) → lookup (same_key q) fs ≡ cond (same_key k q) (Some v) (lookup (same_key q) es) → has_slot es q ≡ true → has_slot fs q ≡ true
slot-updated es fs k q v h there =
    slot-is_some fs q ∙ ap is_some h ∙ by (same_key k q)
  where
    by : (b : Bool) → is_some (cond b (Some v) (lookup (same_key q) es)) ≡ true
    by true = refl
    by false = sym (slot-is_some es q) ∙ there

pub slot-made : (fs : Slots) (k : List ℕ) (v : Option Row) → lookup (same_key k) fs ≡ Some v → has_slot fs k ≡ true
slot-made fs k v h = slot-is_some fs k ∙ ap is_some h

pub none_there : (es : Slots) (k : List ℕ) → has_slot es k ≡ true → lookup (same_key k) es ≡ None → ⊥
none_there es k there none = no_slot (is_some (lookup (same_key k) es)) (sym (slot-is_some es k) ∙ there) (ap is_some none)
