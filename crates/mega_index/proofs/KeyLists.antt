-- What stands under a key in a list in order of key, once an entry is put or taken out, and what writes make of such a list.
use Rattle.std.proofs.Common.{◌≡◌, ◌⊎◌, inl, inr, ◌∙◌, ap, sym, refl, ℕ, Bool, true, false, cond, List, [], ◌∷◌, Option, Some, None}
use Rattle.std.specs.declared.cmp.Ordering.{Ordering}
use Rattle.std.specs.declared.cmp.Ordering.TheVariants.{Less, Equal, Greater}
use Rattle.std.specs.Ordering.{is_eq, match_ordering}
use Rattle.std.specs.Map.{lookup, remove_entry}
use Rattle.std.specs.BTreeMap.{insert_entry}
use Rattle.mega_base.specs.declared.values.Row.{Row}
use Rattle.mega_row_writes.specs.of_entry.declared.content.Write.{Write}
use Rattle.mega_row_writes.specs.of_entry.declared.content.Content.{Content}
use Rattle.mega_row_writes.specs.Rows.{Listed, key_cmp, same_key, row_under, changed, written, after, list_changed, list_written, list_after}
use Rattle.mega_row_writes.proofs.Turning.{same_key-Decides}
use Rattle.mega_index.proofs.Ordered.{Below, Ascends, below-none, insert-ascends}

-- ---- keys

pub key_is : (a b : List ℕ) → same_key a b ≡ true → a ≡ b
key_is a b h = (same_key-Decides a b).0 h

pub same_self : (a : List ℕ) → same_key a a ≡ true
same_self a = (same_key-Decides a a).1 refl

pub key_apart : (a b : List ℕ) → same_key a b ≡ false → a ≡ b → ⊥
key_apart a b h is = let yes : same_key a b ≡ true = (same_key-Decides a b).1 is in cc

pub same_or_not : (a b : List ℕ) → (a ≡ b) ⊎ (same_key a b ≡ false)
same_or_not a b = by (same_key a b) refl
  where
    by : (t : Bool) → same_key a b ≡ t → (a ≡ b) ⊎ (same_key a b ≡ false)
    by true is = inl (key_is a b is)
    by false is = inr is

pub not_key : (a b : List ℕ) → (a ≡ b → ⊥) → same_key a b ≡ false
not_key a b h = elim (same_or_not a b) [ inl is ↦ absurd (h is) | inr is ↦ is ]

pub same_turned : (a b : List ℕ) → same_key a b ≡ same_key b a
same_turned a b = elim (same_or_not a b) [
  | inl is ↦ ap (λ x. same_key x b) is ∙ ap (λ x. same_key b x) (sym is)
  | inr is ↦ is ∙ sym (not_key b a (λ same. key_apart a b is (sym same)))
]

-- ---- what stands under a key

abbrev pub under : {A : Type 0} → List (List ℕ × A) → List ℕ → Option A
under es key = lookup (λ other. same_key key other) es

twice : {A : Type 0} (b : Bool) (x y z : A) → cond b x z ≡ cond b x (cond b y z)
twice true x y z = refl
twice false x y z = refl

swapped : {A : Type 0} (a b : Bool) (x y z : A) → (a ≡ true → b ≡ true → ⊥) → cond a y (cond b x z) ≡ cond b x (cond a y z)
swapped true true x y z h = absurd (h refl refl)
swapped true false x y z h = refl
swapped false b x y z h = refl

pub under-insert : {A : Type 0} (es : List (List ℕ × A)) (q : List ℕ) (v : A) (k : List ℕ) → under (insert_entry key_cmp es q v) k ≡ cond (same_key k q) (Some v) (under es k)
under-insert [] q v k = refl
under-insert (e ∷ es) q v k = by (key_cmp q e.0) refl (under-insert es q v k)
  where
    by : (o : Ordering) → key_cmp q e.0 ≡ o → under (insert_entry key_cmp es q v) k ≡ cond (same_key k q) (Some v) (under es k)
        → under (match_ordering o ((q, v) ∷ e ∷ es) ((e.0, v) ∷ es) (e ∷ insert_entry key_cmp es q v)) k ≡ cond (same_key k q) (Some v) (cond (same_key k e.0) (Some e.1) (under es k))
    by Less is more = refl
    by Equal is more =
        twice (same_key k e.0) (Some v) (Some e.1) (under es k)
        ∙ ap (λ x. cond (same_key k x) (Some v) (cond (same_key k e.0) (Some e.1) (under es k))) (sym (key_is q e.0 (ap is_eq is)))
    by Greater is more =
        ap (cond (same_key k e.0) (Some e.1)) more
        ∙ swapped (same_key k e.0) (same_key k q) (Some v) (Some e.1) (under es k) (λ a b. key_apart q e.0 (ap is_eq is) (sym (key_is k q b) ∙ key_is k e.0 a))

-- ---- lists in order of key

remove-below : {A : Type 0} (test : List ℕ → Bool) (k : List ℕ) (es : List (List ℕ × A)) → Below k es → Below k (remove_entry test es)
remove-below test k [] below = tt
remove-below test k (e ∷ es) below = elim (test e.0) as (λ b. Below k (cond b es (e ∷ remove_entry test es))) [ true ↦ below.1 | false ↦ (below.0, remove-below test k es below.1) ]

remove-ascends : {A : Type 0} (test : List ℕ → Bool) (es : List (List ℕ × A)) → Ascends es → Ascends (remove_entry test es)
remove-ascends test [] up = tt
remove-ascends test (e ∷ es) up = elim (test e.0) as (λ b. Ascends (cond b es (e ∷ remove_entry test es))) [ true ↦ up.1 | false ↦ (remove-below test e.0 es up.0, remove-ascends test es up.1) ]

either_none : {A : Type 0} (b : Bool) → ◌≡◌ {A = Option A} None (cond b None None)
either_none true = refl
either_none false = refl

pub under-remove : {A : Type 0} (es : List (List ℕ × A)) (q k : List ℕ) → Ascends es → under (remove_entry (λ other. same_key q other) es) k ≡ cond (same_key q k) None (under es k)
under-remove [] q k up = either_none (same_key q k)
under-remove (e ∷ es) q k up = by (same_key q e.0) refl (under-remove es q k up.1)
  where
    first : same_key q e.0 ≡ true → under es k ≡ cond (same_key q k) None (cond (same_key k e.0) (Some e.1) (under es k))
    first is = elim (same_or_not q k) [
      | inl same ↦ ap (under es) (sym same ∙ key_is q e.0 is) ∙ below-none e.0 es up.0 ∙ ap (λ b. cond b None (cond (same_key k e.0) (Some e.1) (under es k))) (sym (ap (same_key q) (sym same) ∙ same_self q))
      | inr apart ↦ ap (λ b. cond b (Some e.1) (under es k)) (sym (not_key k e.0 (λ at. key_apart q k apart (key_is q e.0 is ∙ sym at)))) ∙ ap (λ b. cond b None (cond (same_key k e.0) (Some e.1) (under es k))) (sym apart)
    ]

    by : (b : Bool) → same_key q e.0 ≡ b → under (remove_entry (λ other. same_key q other) es) k ≡ cond (same_key q k) None (under es k)
        → under (cond b es (e ∷ remove_entry (λ other. same_key q other) es)) k ≡ cond (same_key q k) None (cond (same_key k e.0) (Some e.1) (under es k))
    by true is more = first is
    by false is more =
        ap (cond (same_key k e.0) (Some e.1)) more
        ∙ swapped (same_key k e.0) (same_key q k) None (Some e.1) (under es k) (λ a b. key_apart q e.0 is (key_is q k b ∙ key_is k e.0 a))

-- ---- the rows of a list

changed_is : (listed : Listed) (write : Write) (k : List ℕ) → Ascends listed → row_under (list_changed listed write) k ≡ changed (row_under listed) write k
changed_is listed write k up = by write.row
  where
    put : Option Row → Listed
    put None = remove_entry (λ other. same_key write.key other) listed
    put (Some row) = insert_entry key_cmp listed write.key row

    by : (o : Option Row) → under (put o) k ≡ cond (same_key write.key k) o (under listed k)
    by None = under-remove listed write.key k up
    by (Some row) = under-insert listed write.key row k ∙ ap (λ b. cond b (Some row) (under listed k)) (same_turned k write.key)

changed-ascends : (listed : Listed) (write : Write) → Ascends listed → Ascends (list_changed listed write)
changed-ascends listed write up = by write.row
  where
    put : Option Row → Listed
    put None = remove_entry (λ other. same_key write.key other) listed
    put (Some row) = insert_entry key_cmp listed write.key row

    by : (o : Option Row) → Ascends (put o)
    by None = remove-ascends (λ other. same_key write.key other) listed up
    by (Some row) = insert-ascends write.key row listed up

pub written-ascends : (writes : List Write) (listed : Listed) → Ascends listed → Ascends (list_written writes listed)
written-ascends [] listed up = up
written-ascends (write ∷ writes) listed up = written-ascends writes (list_changed listed write) (changed-ascends listed write up)

pub list_written_is : (writes : List Write) (listed : Listed) → Ascends listed → row_under (list_written writes listed) ≡ written writes (row_under listed)
list_written_is [] listed up = refl
list_written_is (write ∷ writes) listed up =
    list_written_is writes (list_changed listed write) (changed-ascends listed write up) ∙ ap (written writes) (λ i k. changed_is listed write k up i)

pub after-ascends : (log : List Content) (listed : Listed) → Ascends listed → Ascends (list_after log listed)
after-ascends [] listed up = up
after-ascends (entry ∷ log) listed up = after-ascends log (list_written entry.writes listed) (written-ascends entry.writes listed up)

-- the list of the rows has the rows
pub after_is : (log : List Content) (listed : Listed) → Ascends listed → row_under (list_after log listed) ≡ after log (row_under listed)
after_is [] listed up = refl
after_is (entry ∷ log) listed up =
    after_is log (list_written entry.writes listed) (written-ascends entry.writes listed up) ∙ ap (after log) (list_written_is entry.writes listed up)
