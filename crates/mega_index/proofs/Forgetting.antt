-- Hints that no row has any more are let go, and no other.
use Rattle.std.proofs.Common.{◌≡◌, ◌∙◌, ap, sym, refl, ℕ, Bool, true, false, cond, List, [], ◌∷◌, ◌||◌, ◌&&◌}
use Rattle.std.specs.Prelude.{Option, Some, None}
use Rattle.std.specs.Ordering.{is_eq}
use Rattle.std.specs.List.{list_any, list_all}
use Rattle.std.specs.Map.{lookup}
use Rattle.std.specs.BTreeMap.{get}
use Rattle.std.proofs.lemmas.Bool.{and_parts, and_from, or_right}
use Rattle.mega_base.specs.declared.values.Row.{Row}
use Rattle.mega_schema.specs.declared.schema.Schema.{Schema}
use Rattle.mega_index.specs.declared.hints.Place.{Place}
use Rattle.mega_index.specs.declared.held.Held.{Held}
use Rattle.mega_row_writes.specs.Rows.{Listed, key_cmp, same_key}
use Rattle.mega_index.specs.Marks.{Marks, held_rows}
use Rattle.mega_index.specs.Hints.{Hints, is_place, is_among, is_hinted, global_keys, row_is_hinted, rows_are_hinted, all_hinted}
use Rattle.mega_index.specs.Keeping.{marks_in}
use Rattle.mega_index.specs.Forgetting.{is_row_of, are_only, DropsHint, keys_of_row, Spares, OnlyRow, OnlyRows, row_in}
use Rattle.mega_index.proofs.KeyLists.{same_self}
use Rattle.mega_index.proofs.Ordered.{Below, Ascends, by_test}
use Rattle.mega_row_writes.proofs.Turning.{same_key-Decides}

true-false : {P : Type 0} (b : Bool) → b ≡ true → b ≡ false → P
true-false b t f = absurd (differ (sym t ∙ f))
  where
    differ : true ≡ false → ⊥
    differ e = cc

-- where all places are one, a place that is among them is that one
one_place : (group key g k : List ℕ) (places : List Place) → list_all (is_place group key) places ≡ true → list_any (is_place g k) places ≡ true → is_row_of group key g k ≡ true
one_place group key g k [] all any = cc
one_place group key g k (p ∷ ps) all any =
    let parts : (is_place group key p ≡ true) × (list_all (is_place group key) ps ≡ true) = and_parts (is_place group key p) (list_all (is_place group key) ps) all in
    by_test (is_place g k p) _
    (λ here.
    let a : (same_key group p.group ≡ true) × (same_key key p.key ≡ true) = and_parts (same_key group p.group) (same_key key p.key) parts.0 in
    let b : (same_key g p.group ≡ true) × (same_key k p.key ≡ true) = and_parts (same_key g p.group) (same_key k p.key) here in
    and_from (same_key g group) (same_key k key)
    ((same_key-Decides g group).1 ((same_key-Decides g p.group).0 b.0 ∙ sym ((same_key-Decides group p.group).0 a.0)))
    ((same_key-Decides k key).1 ((same_key-Decides k p.key).0 b.1 ∙ sym ((same_key-Decides key p.key).0 a.1))))
    (λ other. one_place group key g k ps parts.1 (sym (ap (λ b. b || list_any (is_place g k) ps) other) ∙ any))

only_place : (group key g k : List ℕ) (o : Option (List Place)) → are_only group key o ≡ true → is_among g k o ≡ true → is_row_of group key g k ≡ true
only_place group key g k None only among = cc
only_place group key g k (Some places) only among = one_place group key g k places only among

pub dropped : (old new : Hints) (entry group key : List ℕ) → are_only group key (get key_cmp old entry) ≡ true
    → ((q : List ℕ) → get key_cmp new q ≡ cond (same_key entry q) None (get key_cmp old q))
    → DropsHint entry group key old new
dropped old new entry group key only updated e g k among other =
    by_test (same_key entry e) (is_hinted new e g k ≡ true)
    (λ same.
    let here : is_row_of group key g k ≡ true = only_place group key g k (get key_cmp old entry) only (ap (λ q. is_among g k (get key_cmp old q)) ((same_key-Decides entry e).0 same) ∙ among) in
    true-false (same_key entry e && is_row_of group key g k) (and_from (same_key entry e) (is_row_of group key g k) same here) other)
    (λ apart. ap (is_among g k) (updated e ∙ ap (λ b. cond b None (get key_cmp old e)) apart) ∙ among)

-- a hint of an entry that is not among these keys may be let go
pub spared : (entry group key : List ℕ) (keys : List (List ℕ)) (old new : Hints) → list_any (same_key entry) keys ≡ false → DropsHint entry group key old new → Spares group key keys old new
spared entry group key keys old new gone drops e g k among spare =
    drops e g k among (by (same_key entry e && is_row_of group key g k) refl)
  where
    by : (b : Bool) → (same_key entry e && is_row_of group key g k) ≡ b → (same_key entry e && is_row_of group key g k) ≡ false
    by false h = h
    by true h =
        let parts : (same_key entry e ≡ true) × (is_row_of group key g k ≡ true) = and_parts (same_key entry e) (is_row_of group key g k) h in
        true-false (list_any (same_key entry) keys) (ap (λ q. list_any (same_key q) keys) ((same_key-Decides entry e).0 parts.0) ∙ spare parts.1) gone

turn : (a b : List ℕ) → same_key a b ≡ true → same_key b a ≡ true
turn a b h = (same_key-Decides b a).1 (sym ((same_key-Decides a b).0 h))

-- what holds of all keys and implies another of each of them
all_within : (keys : List (List ℕ)) (p q : List ℕ → Bool) → list_all p keys ≡ true
    → ((x : List ℕ) → list_any (same_key x) keys ≡ true → p x ≡ true → q x ≡ true) → list_all q keys ≡ true
all_within [] p q all imply = refl
all_within (k ∷ ks) p q all imply =
    let parts : (p k ≡ true) × (list_all p ks ≡ true) = and_parts (p k) (list_all p ks) all in
    and_from (q k) (list_all q ks)
    (imply k (ap (λ b. b || list_any (same_key k) ks) (same_self k)) parts.0)
    (all_within ks p q parts.1 (λ x h. imply x (or_right (same_key x k) (list_any (same_key x) ks) h)))

row_spared : (s : Schema) (old new : Hints) (group key g : List ℕ) (now : Option Row) (e : List ℕ × Row) → Spares group key (keys_of_row s key now) old new
    → (same_key group g ≡ true → same_key key e.0 ≡ true → Some e.1 ≡ now) → row_is_hinted s old g e ≡ true → row_is_hinted s new g e ≡ true
row_spared s old new group key g now e spares only hinted =
    all_within (global_keys s e.0 e.1) (λ entry. is_hinted old entry g e.0) (λ entry. is_hinted new entry g e.0) hinted
    (λ entry own among.
    spares entry g e.0 among
    (λ here.
    let parts : (same_key g group ≡ true) × (same_key e.0 key ≡ true) = and_parts (same_key g group) (same_key e.0 key) here in
    let is : Some e.1 ≡ now = only (turn g group parts.0) (turn e.0 key parts.1) in
    ap (λ o. list_any (same_key entry) (keys_of_row s key o)) (sym is)
    ∙ ap (λ k. list_any (same_key entry) (global_keys s k e.1)) (sym ((same_key-Decides e.0 key).0 parts.1)) ∙ own))

rows_spared : (s : Schema) (old new : Hints) (group key g : List ℕ) (now : Option Row) (rows : Listed) → Spares group key (keys_of_row s key now) old new
    → (same_key group g ≡ true → OnlyRow key now rows) → rows_are_hinted s old g rows ≡ true → rows_are_hinted s new g rows ≡ true
rows_spared s old new group key g now [] spares only hinted = refl
rows_spared s old new group key g now (e ∷ rows) spares only hinted =
    let parts : (row_is_hinted s old g e ≡ true) × (rows_are_hinted s old g rows ≡ true) = and_parts (row_is_hinted s old g e) (rows_are_hinted s old g rows) hinted in
    and_from (row_is_hinted s new g e) (rows_are_hinted s new g rows)
    (row_spared s old new group key g now e spares (λ here. (only here).0) parts.0)
    (rows_spared s old new group key g now rows spares (λ here. (only here).1) parts.1)

pub all_spared : (s : Schema) (old new : Hints) (group key : List ℕ) (now : Option Row) (marks : Marks) → Spares group key (keys_of_row s key now) old new
    → OnlyRows group key now marks → all_hinted s old marks ≡ true → all_hinted s new marks ≡ true
all_spared s old new group key now [] spares only hinted = refl
all_spared s old new group key now (m ∷ marks) spares only hinted =
    let parts : (rows_are_hinted s old m.0 m.1.rows ≡ true) × (all_hinted s old marks ≡ true) = and_parts (rows_are_hinted s old m.0 m.1.rows) (all_hinted s old marks) hinted in
    and_from (rows_are_hinted s new m.0 m.1.rows) (all_hinted s new marks)
    (rows_spared s old new group key m.0 now m.1.rows spares only.0 parts.0)
    (all_spared s old new group key now marks spares only.1 parts.1)

-- a key before all of these is none of them
only_below : (key : List ℕ) (now : Option Row) (slots : List (List ℕ × Option Row)) → Below key slots → OnlyRow key now (held_rows slots)
only_below key now [] below = tt
only_below key now ((q, None) ∷ slots) below = only_below key now slots below.1
only_below key now ((q, Some row) ∷ slots) below =
    (λ same. true-false (same_key key q) same (ap is_eq below.0), only_below key now slots below.1)

pub only_row : (key : List ℕ) (slots : List (List ℕ × Option Row)) → Ascends slots → OnlyRow key (row_in (lookup (same_key key) slots)) (held_rows slots)
only_row key [] up = tt
only_row key ((q, o) ∷ slots) up = by_test (same_key key q) _
    (λ same.
    let below : Below key slots = coe 0 1 (i. Below (sym ((same_key-Decides key q).0 same) i) slots) up.0 in
    coe 1 0 (i. OnlyRow key (row_in (cond (same i) (Some o) (lookup (same_key key) slots))) (held_rows ((q, o) ∷ slots))) (here o below))
    (λ other.
    coe 1 0 (i. OnlyRow key (row_in (cond (other i) (Some o) (lookup (same_key key) slots))) (held_rows ((q, o) ∷ slots))) (there o other (only_row key slots up.1)))
  where
    here : (o : Option Row) → Below key slots → OnlyRow key o (held_rows ((q, o) ∷ slots))
    here None below = only_below key None slots below
    here (Some row) below = (λ same. refl, only_below key (Some row) slots below)

    there : (o : Option Row) → same_key key q ≡ false → OnlyRow key (row_in (lookup (same_key key) slots)) (held_rows slots)
        → OnlyRow key (row_in (lookup (same_key key) slots)) (held_rows ((q, o) ∷ slots))
    there None other rest = rest
    there (Some row) other rest = (λ same. true-false (same_key key q) same other, rest)

groups_below : (group key : List ℕ) (now : Option Row) (groups : List (List ℕ × Held)) → Below group groups → OnlyRows group key now (marks_in groups)
groups_below group key now [] below = tt
groups_below group key now (g ∷ groups) below = (λ same. true-false (same_key group g.0) same (ap is_eq below.0), groups_below group key now groups below.1)

-- the row in a place is the only one there
pub only_rows : (group key : List ℕ) (now : Option Row) (groups : List (List ℕ × Held)) → Ascends groups
    → ((held : Held) → lookup (same_key group) groups ≡ Some held → OnlyRow key now (held_rows held.rows.entries)) → OnlyRows group key now (marks_in groups)
only_rows group key now [] up inside = tt
only_rows group key now (g ∷ groups) up inside = by_test (same_key group g.0) _
    (λ same. (
      λ again. inside g.1 (ap (λ b. cond b (Some g.1) (lookup (same_key group) groups)) same),
      groups_below group key now groups (coe 0 1 (i. Below (sym ((same_key-Decides group g.0).0 same) i) groups) up.0),
    ))
    (λ other. (
      λ same. true-false (same_key group g.0) same other,
      only_rows group key now groups up.1 (λ held there. inside held (ap (λ b. cond b (Some g.1) (lookup (same_key group) groups)) other ∙ there)),
    ))

pub same_some : (a b : Held) → Some a ≡ Some b → a ≡ b
same_some a b h = cc

pub some_none : (a : Held) → None ≡ Some a → ⊥
some_none a h = cc
