-- The marks of groups that are held.
use Rattle.std.proofs.Common.{◌≡◌, ◌∙◌, ap, sym, refl, ℕ, true, cond, List, [], ◌∷◌}
use Rattle.std.specs.Prelude.{Option, Some, None, option_map}
use Rattle.std.specs.Option.{unwrap_or}
use Rattle.std.specs.Ordering.{is_eq, match_ordering}
use Rattle.std.specs.Map.{lookup, set_value}
use Rattle.std.specs.BTreeMap.{insert_entry}
use Rattle.mega_index.specs.declared.held.Held.{Held}
use Rattle.mega_row_writes.specs.Rows.{key_cmp, same_key}
use Rattle.mega_index.specs.Marks.{unmarked, marked_in}
use Rattle.mega_index.specs.Keeping.{marked_of, marks_in}
use Rattle.mega_index.proofs.Ordered.{Ascends, below-none, below-trans, by_order, by_test}

abbrev Groups : Type 0
Groups = List (List ℕ × Held)

pub marks-insert : (es : Groups) (k : List ℕ) (v : Held) → marks_in (insert_entry key_cmp es k v) ≡ insert_entry key_cmp (marks_in es) k (marked_of v)
marks-insert [] k v = refl
marks-insert (e ∷ es) k v = by_order (key_cmp k e.0) _
    (λ h. ap marks_in (step h) ∙ sym (step_in h))
    (λ h. ap marks_in (step h) ∙ sym (step_in h))
    (λ h. ap marks_in (step h) ∙ ap (λ ms. (e.0, marked_of e.1) ∷ ms) (marks-insert es k v) ∙ sym (step_in h))
  where
    step : {o : _} → key_cmp k e.0 ≡ o → insert_entry key_cmp (e ∷ es) k v ≡ match_ordering o ((k, v) ∷ e ∷ es) ((e.0, v) ∷ es) (e ∷ insert_entry key_cmp es k v)
    step h = ap (λ o. match_ordering o ((k, v) ∷ e ∷ es) ((e.0, v) ∷ es) (e ∷ insert_entry key_cmp es k v)) h

    step_in : {o : _} → key_cmp k e.0 ≡ o → insert_entry key_cmp (marks_in (e ∷ es)) k (marked_of v)
        ≡ match_ordering o ((k, marked_of v) ∷ marks_in (e ∷ es)) ((e.0, marked_of v) ∷ marks_in es) ((e.0, marked_of e.1) ∷ insert_entry key_cmp (marks_in es) k (marked_of v))
    step_in h = ap (λ o. match_ordering o ((k, marked_of v) ∷ marks_in (e ∷ es)) ((e.0, marked_of v) ∷ marks_in es) ((e.0, marked_of e.1) ∷ insert_entry key_cmp (marks_in es) k (marked_of v))) h

some_none : {X P : Type 0} (o : Option X) (x : X) → o ≡ Some x → o ≡ None → P
some_none o x s n = absurd (differ (sym s ∙ n))
  where
    differ : Some x ≡ None → ⊥
    differ e = cc

-- a key that is there is set by an insertion
pub set-insert : (es : Groups) (k : List ℕ) (v w : Held) → Ascends es → lookup (same_key k) es ≡ Some w → set_value (same_key k) es v ≡ insert_entry key_cmp es k v
set-insert [] k v w up there = cc
set-insert (e ∷ es) k v w up there = by_order (key_cmp k e.0) _
    (λ less. some_none (lookup (same_key k) (e ∷ es)) w there (below-none k (e ∷ es) (less, below-trans k e.0 es less up.0)))
    (λ equal. ap (λ o. cond (is_eq o) ((e.0, v) ∷ es) (e ∷ set_value (same_key k) es v)) equal
    ∙ sym (ap (λ o. match_ordering o ((k, v) ∷ e ∷ es) ((e.0, v) ∷ es) (e ∷ insert_entry key_cmp es k v)) equal))
    (λ greater. ap (λ o. cond (is_eq o) ((e.0, v) ∷ es) (e ∷ set_value (same_key k) es v)) greater
    ∙ ap (λ fs. e ∷ fs) (set-insert es k v w up.1 (sym (ap (λ o. cond (is_eq o) (Some e.1) (lookup (same_key k) es)) greater) ∙ there))
    ∙ sym (ap (λ o. match_ordering o ((k, v) ∷ e ∷ es) ((e.0, v) ∷ es) (e ∷ insert_entry key_cmp es k v)) greater))

-- a mark that does not move
pub set-same : (es : Groups) (k : List ℕ) (v w : Held) → lookup (same_key k) es ≡ Some w → marked_of v ≡ marked_of w → marks_in (set_value (same_key k) es v) ≡ marks_in es
set-same [] k v w there same = refl
set-same (e ∷ es) k v w there same = by_test (same_key k e.0) _
    (λ h.
    let is : e.1 ≡ w = here h in
    ap (λ b. marks_in (cond b ((e.0, v) ∷ es) (e ∷ set_value (same_key k) es v))) h
    ∙ ap (λ m. (e.0, m) ∷ marks_in es) (same ∙ sym (ap marked_of is)))
    (λ h.
    ap (λ b. marks_in (cond b ((e.0, v) ∷ es) (e ∷ set_value (same_key k) es v))) h
    ∙ ap (λ ms. (e.0, marked_of e.1) ∷ ms) (set-same es k v w (sym (ap (λ b. cond b (Some e.1) (lookup (same_key k) es)) h) ∙ there) same))
  where
    here : same_key k e.0 ≡ true → e.1 ≡ w
    here h =
        let s : Some e.1 ≡ Some w = sym (ap (λ b. cond b (Some e.1) (lookup (same_key k) es)) h) ∙ there in
        cc

lookup-marks : (es : Groups) (k : List ℕ) → lookup (same_key k) (marks_in es) ≡ option_map marked_of (lookup (same_key k) es)
lookup-marks [] k = refl
lookup-marks (e ∷ es) k = by_test (same_key k e.0) _
    (λ h. ap (λ b. cond b (Some (marked_of e.1)) (lookup (same_key k) (marks_in es))) h ∙ sym (ap (λ b. option_map marked_of (cond b (Some e.1) (lookup (same_key k) es))) h))
    (λ h. ap (λ b. cond b (Some (marked_of e.1)) (lookup (same_key k) (marks_in es))) h ∙ lookup-marks es k ∙ sym (ap (λ b. option_map marked_of (cond b (Some e.1) (lookup (same_key k) es))) h))

pub marked-in : (es : Groups) (k : List ℕ) (o : Option Held) → lookup (same_key k) es ≡ o → marked_in (marks_in es) k ≡ unwrap_or (option_map marked_of o) unmarked
marked-in es k o h = ap (λ m. unwrap_or m unmarked) (lookup-marks es k ∙ ap (option_map marked_of) h)
