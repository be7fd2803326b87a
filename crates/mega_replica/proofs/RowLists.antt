-- Lists of rows in order of key: when two of them are one, and keys that are not written.
use Rattle.std.proofs.Common.{◌≡◌, ◌⊎◌, inl, inr, ⊎_elim, ◌∙◌, ap, sym, refl, ℕ, Bool, true, false, cond, List, [], ◌∷◌, ◌++◌, take, drop, Some, None}
use Rattle.std.specs.declared.cmp.Ordering.TheVariants.{Less}
use Rattle.std.specs.Ordering.{is_eq}
use Rattle.std.specs.Cmp.Lexicographic.{nat_list_cmp_total}
use Rattle.std.proofs.lemmas.List.{take-append-drop}
use Rattle.std.proofs.lemmas.List.Concat.{flat_map-append}
use Rattle.mega_base.specs.declared.values.Row.{Row}
use Rattle.mega_entry.specs.declared.content.Write.{Write}
use Rattle.mega_entry.specs.declared.content.Content.{Content}
use Rattle.mega_disk.specs.VersionMaps.{HasAscendingKeys, HasRow, or_else}
use Rattle.mega_index.specs.Rows.{Listed, Rows, after, changed, key_cmp, no_rows, row_under, same_key, written}
use Rattle.mega_index.proofs.Turning.{same_key-Decides}
use Rattle.mega_index.proofs.Ordered.{Ascends, Below, below-trans}
use Rattle.mega_index.proofs.KeyLists.{key_is, same_self, not_key}
use Rattle.mega_replica.specs.Applying.{writes_of}
use Rattle.mega_replica.specs.Stored.{IsUnwritten, last_write}
use Rattle.mega_replica.proofs.Writing.{Version, last_write-append}
use Rattle.mega_replica.proofs.Reading.{or_row, written_is}

-- ---- rows of lists in order of key

pub has_row : (es : Listed) (key : List ℕ) (row : Row) → row_under es key ≡ Some row → HasRow es key row
has_row [] key row is = absurd cc
has_row (e ∷ es) key row is = by (has_row es key row) (same_key key e.0) refl is
  where
    inner : Some e.1 ≡ Some row → e.1 ≡ row
    inner same = cc

    by : (row_under es key ≡ Some row → HasRow es key row) → (test : Bool) → same_key key e.0 ≡ test → cond test (Some e.1) (row_under es key) ≡ Some row → ((e.0 ≡ key) × (e.1 ≡ row)) ⊎ HasRow es key row
    by more true same found = inl (sym (key_is key e.0 same), inner found)
    by more false apart found = inr (more found)

below_row : (es : Listed) (k key : List ℕ) (row : Row) → Below k es → HasRow es key row → key_cmp k key ≡ Less
below_row [] k key row below has = absurd has
below_row (e ∷ es) k key row below has = ⊎_elim (λ here. ap (key_cmp k) (sym here.0) ∙ below.0) (below_row es k key row below.1) has

not_below : (k : List ℕ) → key_cmp k k ≡ Less → ⊥
not_below k less = let same : is_eq (key_cmp k k) ≡ true = same_self k in let no : is_eq (key_cmp k k) ≡ false = ap is_eq less in cc

pub row_is : (es : Listed) (key : List ℕ) (row : Row) → Ascends es → HasRow es key row → row_under es key ≡ Some row
row_is [] key row up has = absurd has
row_is (e ∷ es) key row up has = ⊎_elim
    (λ here. ap (λ (b : Bool). cond b (Some e.1) (row_under es key)) ((same_key-Decides key e.0).1 (sym here.0)) ∙ ap Some here.1)
    (λ there. ap (λ (b : Bool). cond b (Some e.1) (row_under es key)) (not_key key e.0 (λ same. not_below e.0 (let less = below_row es e.0 key row up.0 there in ap (key_cmp e.0) (sym same) ∙ less))) ∙ row_is es key row up.1 there)
    has

pub ascends : (es : Listed) → HasAscendingKeys es → Ascends es
ascends [] up = tt
ascends (e ∷ []) up = (tt, tt)
ascends (e ∷ f ∷ es) up = let more = ascends (f ∷ es) up.1 in ((up.0, below-trans e.0 f.0 es up.0 more.0), more)

pub ascending : (es : Listed) → Ascends es → HasAscendingKeys es
ascending [] up = tt
ascending (e ∷ []) up = tt
ascending (e ∷ f ∷ es) up = (up.0.0, ascending (f ∷ es) up.1)

abbrev pub Covers : Listed → Listed → Type 0
Covers a b = (key : List ℕ) (row : Row) → HasRow a key row → HasRow b key row

less_both : (a b : List ℕ) → key_cmp a b ≡ Less → key_cmp b a ≡ Less → ⊥
less_both a b one two = not_below a (nat_list_cmp_total.trans a b a one two)

-- the first of two lists with the same rows
same_heads : (x y : List ℕ × Row) (xs ys : Listed) → Below x.0 xs → Below y.0 ys → Covers (x ∷ xs) (y ∷ ys) → Covers (y ∷ ys) (x ∷ xs) → (x.0 ≡ y.0) × (x.1 ≡ y.1)
same_heads x y xs ys up_x up_y into back = ⊎_elim
    (λ here. (sym here.0, sym here.1))
    (λ there. ⊎_elim
    (λ same. absurd (not_below y.0 (ap (key_cmp y.0) (sym same.0) ∙ below_row ys y.0 x.0 x.1 up_y there)))
    (λ other. absurd (less_both y.0 x.0 (below_row ys y.0 x.0 x.1 up_y there) (below_row xs x.0 y.0 y.1 up_x other)))
    (back y.0 y.1 (inl (refl, refl))))
    (into x.0 x.1 (inl (refl, refl)))

-- what is in the rest is in the rest of the other
rest_covers : (x y : List ℕ × Row) (xs ys : Listed) → x.0 ≡ y.0 → Below x.0 xs → Covers (x ∷ xs) (y ∷ ys) → Covers xs ys
rest_covers x y xs ys same up into key row has = ⊎_elim
    (λ here. absurd (not_below x.0 (ap (key_cmp x.0) (same ∙ here.0) ∙ below_row xs x.0 key row up has)))
    (λ there. there)
    (into key row (inr has))

pub same_rows : (a b : Listed) → Ascends a → Ascends b → Covers a b → Covers b a → a ≡ b
same_rows [] [] up_a up_b into back = refl
same_rows [] (y ∷ b) up_a up_b into back = absurd (back y.0 y.1 (inl (refl, refl)))
same_rows (x ∷ a) [] up_a up_b into back = absurd (into x.0 x.1 (inl (refl, refl)))
same_rows (x ∷ a) (y ∷ b) up_a up_b into back =
    let heads = same_heads x y a b up_a.0 up_b.0 into back in
    let rest = same_rows a b up_a.1 up_b.1 (rest_covers x y a b heads.0 up_a.0 into) (rest_covers y x b a (sym heads.0) up_b.0 back) in
    λ i. (heads.0 i, heads.1 i) ∷ rest i

-- ---- keys that are not written

pub after_writes : (log : List Content) (rows : Rows) → after log rows ≡ written (writes_of log) rows
after_writes [] rows = refl
after_writes (entry ∷ log) rows = after_writes log (written entry.writes rows) ∙ joins entry.writes (writes_of log) rows
  where
    joins : (a b : List Write) (before : Rows) → written b (written a before) ≡ written (a ++ b) before
    joins [] b before = refl
    joins (write ∷ a) b before = joins a b (changed before write)

no_version : (a b : Version) → or_else a b ≡ None → b ≡ None
no_version None b is = is
no_version (Some row) b is = absurd cc

pub unwritten_through : (log : List Content) (p : ℕ) (key : List ℕ) → IsUnwritten key log → last_write key (writes_of (take p log)) ≡ None
unwritten_through log p key none =
    no_version (last_write key (writes_of (drop p log))) (last_write key (writes_of (take p log)))
    (sym (last_write-append key (writes_of (take p log)) (writes_of (drop p log)))
    ∙ ap (last_write key) (sym (flat_map-append (λ (entry : Content). entry.writes) (take p log) (drop p log)))
    ∙ ap (λ (entries : List Content). last_write key (writes_of entries)) (take-append-drop p log) ∙ none)

pub unwritten_rows : (writes : List Write) (key : List ℕ) → last_write key writes ≡ None → written writes no_rows key ≡ None
unwritten_rows writes key none = written_is writes no_rows key ∙ ap (λ (last : Version). or_row last None) none
