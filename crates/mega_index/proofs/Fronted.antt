-- What is found is what the wanted rows add.
use Rattle.std.proofs.Common.{◌≡◌, ◌∙◌, ap, sym, refl, ℕ, zero, suc, ◌+◌, ◌-◌, ◌≤◌, Bool, true, false, cond, List, [], ◌∷◌, ◌++◌, length, arith, append-nil}
use Rattle.std.specs.Prelude.{Option, Some, None, Ok, filter, map, fold, nat_eq, nat_le, slice_get, if◌then◌else◌, ◌==◌}
use Rattle.std.specs.declared.cmp.Ordering.{Ordering}
use Rattle.std.specs.declared.cmp.Ordering.TheVariants.{Equal, Greater}
use Rattle.std.specs.Ordering.{match_ordering}
use Rattle.std.specs.List.{list_all}
use Rattle.std.specs.BTreeMap.{insert_entry}
use Rattle.std.proofs.lemmas.List.Folds.{list_all-append}
use Rattle.mega_base.specs.declared.values.Value.{Value}
use Rattle.mega_base.specs.declared.values.Row.{Row}
use Rattle.mega_schema.specs.declared.schema.Table.{Table}
use Rattle.mega_schema.specs.declared.schema.Index.{Index}
use Rattle.mega_schema.specs.declared.schema.Schema.{Schema}
use Rattle.mega_index.specs.declared.found.Found.{Found}
use Rattle.mega_row_writes.specs.Rows.{Listed, key_cmp}
use Rattle.mega_index.specs.Cells.{key_values}
use Rattle.mega_index.specs.Fits.{numbered, index_keys, entry_keys, indexes_of, group_bytes_of, stands_in}
use Rattle.mega_index.specs.Entries.{placed, found_of, with_row_under, index_of}
use Rattle.mega_index.specs.Finding.{begun_by, found_in, front_of, indexed_kinds, unless_misplaced}
use Rattle.mega_keys.specs.Fit.{misplaced}
use Rattle.mega_index.specs.Keeping.{values_in}
use Rattle.mega_keys.specs.Spelling.{spell_all, index_bytes}
use Rattle.std.proofs.lemmas.Bool.Decides.{nat_tests}
use Rattle.std.proofs.lemmas.Bool.{and_parts}
use Rattle.mega_index.specs.Marks.{Marks, rows_marked}
use Rattle.mega_index.specs.Hints.{Hints, table_keys, row_keys, global_keys, global_keys_of, global_keys_in, is_hinted, row_is_hinted, rows_are_hinted, all_hinted}
use Rattle.mega_index.specs.Wanted.{Wanted, is_wanted, begins, front_keys, with_front, with_front_in, with_fronts, all_wanted}
use Rattle.mega_index.proofs.Ordered.{Below, Ascends, insert-ascends, insert-front, by_order, by_test, equal_keys, below-trans}
use Rattle.mega_index.proofs.Wanting.{below-filter}

abbrev Es : Type 0
Es = List (List ℕ × Found)

abbrev pub in_front : List ℕ → List ℕ × Found → Bool
in_front front e = begins front e.0

-- an insertion, seen through a filter by the keys
filter-insert : (front : List ℕ) (es : Es) (k : List ℕ) (v : Found) → Ascends es
    → filter (in_front front) (insert_entry key_cmp es k v) ≡ cond (begins front k) (insert_entry key_cmp (filter (in_front front) es) k v) (filter (in_front front) es)
filter-insert front [] k v up = by (begins front k)
  where
    by : (b : Bool) → cond {A = Es} b ((k, v) ∷ []) [] ≡ cond {A = Es} b ((k, v) ∷ []) []
    by b = refl
filter-insert front (e ∷ es) k v up =
    by_order (key_cmp k e.0) _
    (λ less.
    let below : Below k (e ∷ es) = (less, below-trans k e.0 es less up.0) in
    ap (filter (in_front front)) (insert-front k v (e ∷ es) below)
    ∙ sym (ap (λ fs. cond (begins front k) fs (filter (in_front front) (e ∷ es))) (insert-front k v (filter (in_front front) (e ∷ es)) (below-filter (in_front front) k (e ∷ es) below))))
    (λ equal. ap (filter (in_front front)) (step equal) ∙ here equal (begins front e.0) refl)
    (λ greater. ap (filter (in_front front)) (step greater) ∙ there greater (begins front e.0) refl (filter-insert front es k v up.1))
  where
    step : {o : Ordering} → key_cmp k e.0 ≡ o → insert_entry key_cmp (e ∷ es) k v ≡ match_ordering o ((k, v) ∷ e ∷ es) ((e.0, v) ∷ es) (e ∷ insert_entry key_cmp es k v)
    step h = ap (λ o. match_ordering o ((k, v) ∷ e ∷ es) ((e.0, v) ∷ es) (e ∷ insert_entry key_cmp es k v)) h

    step_in : {o : Ordering} (fs : Es) → key_cmp k e.0 ≡ o → insert_entry key_cmp (e ∷ fs) k v ≡ match_ordering o ((k, v) ∷ e ∷ fs) ((e.0, v) ∷ fs) (e ∷ insert_entry key_cmp fs k v)
    step_in fs h = ap (λ o. match_ordering o ((k, v) ∷ e ∷ fs) ((e.0, v) ∷ fs) (e ∷ insert_entry key_cmp fs k v)) h

    here : key_cmp k e.0 ≡ Equal → (b : Bool) → begins front e.0 ≡ b
        → filter (in_front front) ((e.0, v) ∷ es) ≡ cond (begins front k) (insert_entry key_cmp (filter (in_front front) (e ∷ es)) k v) (filter (in_front front) (e ∷ es))
    here equal true is =
        ap (λ b. cond b ((e.0, v) ∷ filter (in_front front) es) (filter (in_front front) es)) is
        ∙ sym (step_in (filter (in_front front) es) equal)
        ∙ sym (ap (λ b. cond b (insert_entry key_cmp (filter (in_front front) (e ∷ es)) k v) (filter (in_front front) (e ∷ es))) (ap (begins front) (equal_keys k e.0 equal) ∙ is)
        ∙ ap (λ b. insert_entry key_cmp (cond b (e ∷ filter (in_front front) es) (filter (in_front front) es)) k v) is)
    here equal false is =
        ap (λ b. cond b ((e.0, v) ∷ filter (in_front front) es) (filter (in_front front) es)) is
        ∙ sym (ap (λ b. cond b (insert_entry key_cmp (filter (in_front front) (e ∷ es)) k v) (filter (in_front front) (e ∷ es))) (ap (begins front) (equal_keys k e.0 equal) ∙ is)
        ∙ ap (λ b. cond b (e ∷ filter (in_front front) es) (filter (in_front front) es)) is)

    swap : (c : Bool) → e ∷ cond c (insert_entry key_cmp (filter (in_front front) es) k v) (filter (in_front front) es)
        ≡ cond c (e ∷ insert_entry key_cmp (filter (in_front front) es) k v) (e ∷ filter (in_front front) es)
    swap true = refl
    swap false = refl

    there : key_cmp k e.0 ≡ Greater → (b : Bool) → begins front e.0 ≡ b
        → filter (in_front front) (insert_entry key_cmp es k v) ≡ cond (begins front k) (insert_entry key_cmp (filter (in_front front) es) k v) (filter (in_front front) es)
        → filter (in_front front) (e ∷ insert_entry key_cmp es k v) ≡ cond (begins front k) (insert_entry key_cmp (filter (in_front front) (e ∷ es)) k v) (filter (in_front front) (e ∷ es))
    there greater true is more =
        ap (λ b. cond b (e ∷ filter (in_front front) (insert_entry key_cmp es k v)) (filter (in_front front) (insert_entry key_cmp es k v))) is
        ∙ ap (λ fs. e ∷ fs) more
        ∙ swap (begins front k)
        ∙ ap (λ fs. cond (begins front k) fs (e ∷ filter (in_front front) es)) (sym (step_in (filter (in_front front) es) greater))
        ∙ sym (ap (λ b. cond (begins front k) (insert_entry key_cmp (cond b (e ∷ filter (in_front front) es) (filter (in_front front) es)) k v) (cond b (e ∷ filter (in_front front) es) (filter (in_front front) es))) is)
    there greater false is more =
        ap (λ b. cond b (e ∷ filter (in_front front) (insert_entry key_cmp es k v)) (filter (in_front front) (insert_entry key_cmp es k v))) is
        ∙ more
        ∙ sym (ap (λ b. cond (begins front k) (insert_entry key_cmp (cond b (e ∷ filter (in_front front) es) (filter (in_front front) es)) k v) (cond b (e ∷ filter (in_front front) es) (filter (in_front front) es))) is)

filter-placed : (front : List ℕ) (keys : List (List ℕ)) (es : Es) (v : Found) → Ascends es
    → filter (in_front front) (placed es v keys) ≡ placed (filter (in_front front) es) v (filter (begins front) keys)
filter-placed front [] es v up = refl
filter-placed front (k ∷ ks) es v up =
    filter-placed front ks (insert_entry key_cmp es k v) v (insert-ascends k v es up)
    ∙ ap (λ fs. placed fs v (filter (begins front) ks)) (filter-insert front es k v up)
    ∙ by (begins front k)
  where
    by : (b : Bool) → placed (cond b (insert_entry key_cmp (filter (in_front front) es) k v) (filter (in_front front) es)) v (filter (begins front) ks)
        ≡ placed (filter (in_front front) es) v (cond b (k ∷ filter (begins front) ks) (filter (begins front) ks))
    by true = refl
    by false = refl

placed-ascends : (keys : List (List ℕ)) (es : Es) (v : Found) → Ascends es → Ascends (placed es v keys)
placed-ascends [] es v up = up
placed-ascends (k ∷ ks) es v up = placed-ascends ks (insert_entry key_cmp es k v) v (insert-ascends k v es up)

row-ascends : (s : Schema) (n : ℕ) (x : Index) (o : Option Table) (es : Es) (e : List ℕ × Row) → Ascends es → Ascends (with_row_under s n x o es e)
row-ascends s n x None es e up = up
row-ascends s n x (Some t) es e up =
    elim (stands_in s x.table (Some t) e.0 e.1) as (λ b. Ascends (cond b (placed es (found_of x t e.1) (entry_keys n x (group_bytes_of s x.table t e.1) (key_values t.primary e.1) e.1)) es))
    [ true ↦ placed-ascends (entry_keys n x (group_bytes_of s x.table t e.1) (key_values t.primary e.1) e.1) es (found_of x t e.1) up | false ↦ up ]

filter-row : (front : List ℕ) (s : Schema) (n : ℕ) (x : Index) (o : Option Table) (es : Es) (e : List ℕ × Row) → Ascends es
    → filter (in_front front) (with_row_under s n x o es e) ≡ with_front_in front s n x o (filter (in_front front) es) e
filter-row front s n x None es e up = refl
filter-row front s n x (Some t) es e up = by (stands_in s x.table (Some t) e.0 e.1)
  where
    by : (b : Bool) → filter (in_front front) (cond b (placed es (found_of x t e.1) (entry_keys n x (group_bytes_of s x.table t e.1) (key_values t.primary e.1) e.1)) es)
        ≡ cond b (placed (filter (in_front front) es) (found_of x t e.1) (front_keys front s n x t e.1)) (filter (in_front front) es)
    by true = filter-placed front (entry_keys n x (group_bytes_of s x.table t e.1) (key_values t.primary e.1) e.1) es (found_of x t e.1) up
    by false = refl

filter-rows : (front : List ℕ) (s : Schema) (n : ℕ) (x : Index) (rows : Listed) (es : Es) → Ascends es
    → filter (in_front front) (fold (λ es e. with_row_under s n x (numbered s.tables x.table) es e) es rows) ≡ with_fronts front s n x (filter (in_front front) es) rows
filter-rows front s n x [] es up = refl
filter-rows front s n x (e ∷ rows) es up =
    filter-rows front s n x rows (with_row_under s n x (numbered s.tables x.table) es e) (row-ascends s n x (numbered s.tables x.table) es e up)
    ∙ ap (λ fs. with_fronts front s n x fs rows) (filter-row front s n x (numbered s.tables x.table) es e up)

-- the entries that begin so are those that the rows add
pub begun-fronts : (front : List ℕ) (s : Schema) (n : ℕ) (x : Index) (rows : Listed)
    → begun_by front (index_of s n x rows) ≡ map (λ (e : List ℕ × Found). e.1) (with_fronts front s n x [] rows)
begun-fronts front s n x rows = ap (map (λ (e : List ℕ × Found). e.1)) (filter-rows front s n x rows [] tt)

-- a row with no key that begins so adds nothing
no_keys : (front : List ℕ) (s : Schema) (n : ℕ) (x : Index) (o : Option Table) (e : List ℕ × Row) (es : Es)
    → filter (begins front) (table_keys s n x o e.0 e.1) ≡ [] → with_front_in front s n x o es e ≡ es
no_keys front s n x None e es h = refl
no_keys front s n x (Some t) e es h = by (stands_in s x.table (Some t) e.0 e.1) h
  where
    by : (b : Bool) → filter (begins front) (cond b (entry_keys n x (group_bytes_of s x.table t e.1) (key_values t.primary e.1) e.1) []) ≡ []
        → cond b (placed es (found_of x t e.1) (front_keys front s n x t e.1)) es ≡ es
    by true h = ap (placed es (found_of x t e.1)) h
    by false h = refl

none_begin : (front g k : List ℕ) (hints : Hints) (keys : List (List ℕ)) → list_all (λ entry. is_hinted hints entry g k) keys ≡ true
    → ((entry : List ℕ) → is_hinted hints entry g k ≡ true → begins front entry ≡ true → ⊥) → filter (begins front) keys ≡ []
none_begin front g k hints [] all none = refl
none_begin front g k hints (entry ∷ keys) all none =
    let parts : (is_hinted hints entry g k ≡ true) × (list_all (λ entry. is_hinted hints entry g k) keys ≡ true) = and_parts (is_hinted hints entry g k) (list_all (λ entry. is_hinted hints entry g k) keys) all in
    by_test (begins front entry) _
    (λ begin. absurd (none entry parts.0 begin))
    (λ other. ap (λ b. cond b (entry ∷ filter (begins front) keys) (filter (begins front) keys)) other ∙ none_begin front g k hints keys parts.1 none)

-- what holds of the keys in all global indexes holds of those in one
here_index : (p : List ℕ → Bool) (s : Schema) (m : ℕ) (x : Index) (k : List ℕ) (row : Row) (b : Bool) → b ≡ true
    → list_all p (if b then row_keys s m x k row else []) ≡ true → list_all p (row_keys s m x k row) ≡ true
here_index p s m x k row true is all = all
here_index p s m x k row false is all = cc

one_index : (p : List ℕ → Bool) (s : Schema) (xs : List Index) (m i : ℕ) (x : Index) (k : List ℕ) (row : Row) → slice_get xs i ≡ Some x → x.global ≡ true
    → list_all p (global_keys_in s m xs k row) ≡ true → list_all p (row_keys s (m + i) x k row) ≡ true
one_index p s [] m i x k row there global all = cc
one_index p s (y ∷ ys) m zero x k row there global all =
    let parts : (list_all p (global_keys_of s m y k row) ≡ true) × (list_all p (global_keys_in s (m + 1) ys k row) ≡ true) =
    and_parts (list_all p (global_keys_of s m y k row)) (list_all p (global_keys_in s (m + 1) ys k row)) (sym (list_all-append p (global_keys_of s m y k row) (global_keys_in s (m + 1) ys k row)) ∙ all) in
    let same : y ≡ x = cc in
    let count : m + zero ≡ m = omega arith in
    ap (λ n. list_all p (row_keys s n x k row)) count ∙ here_index p s m x k row x.global global (ap (λ (y : Index). list_all p (global_keys_of s m y k row)) (sym same) ∙ parts.0)
one_index p s (y ∷ ys) m (suc i) x k row there global all =
    let parts : (list_all p (global_keys_of s m y k row) ≡ true) × (list_all p (global_keys_in s (m + 1) ys k row) ≡ true) =
    and_parts (list_all p (global_keys_of s m y k row)) (list_all p (global_keys_in s (m + 1) ys k row)) (sym (list_all-append p (global_keys_of s m y k row) (global_keys_in s (m + 1) ys k row)) ∙ all) in
    let count : m + suc i ≡ (m + 1) + i = omega arith in
    ap (λ n. list_all p (row_keys s n x k row)) count ∙ one_index p s ys (m + 1) i x k row there global parts.1

numbered_next : {A : Type 0} (items : List A) (n : ℕ) → numbered items (suc n) ≡ slice_get items n
numbered_next items n =
    let more : (suc n == 0) ≡ false = grind (arith, nat_tests) in
    let back : suc n - 1 ≡ n = omega arith in
    ap (λ b. if b then None else slice_get items (suc n - 1)) more ∙ ap (slice_get items) back

-- the keys in the index with a number
numbered_index : (p : List ℕ → Bool) (s : Schema) (n : ℕ) (x : Index) (k : List ℕ) (row : Row) → numbered (indexes_of s) n ≡ Some x → x.global ≡ true
    → list_all p (global_keys s k row) ≡ true → list_all p (row_keys s n x k row) ≡ true
numbered_index p s zero x k row there global all = cc
numbered_index p s (suc n) x k row there global all =
    ap (λ m. list_all p (row_keys s m x k row)) (count n) ∙ one_index p s (indexes_of s) 1 n x k row (get_there n there) global all
  where
    count : (n : ℕ) → suc n ≡ 1 + n
    count n = omega arith

    get_there : (n : ℕ) → numbered (indexes_of s) (suc n) ≡ Some x → slice_get (indexes_of s) n ≡ Some x
    get_there n h = sym (numbered_next (indexes_of s) n) ∙ h

abbrev pub Covered : List ℕ → Hints → Wanted → Type 0
Covered front hints wanted = (entry g k : List ℕ) → is_hinted hints entry g k ≡ true → begins front entry ≡ true → is_wanted wanted g k ≡ true

-- a row that is not wanted adds nothing
adds_nothing : (front : List ℕ) (s : Schema) (n : ℕ) (x : Index) (hints : Hints) (wanted : Wanted) (g : List ℕ) (e : List ℕ × Row) (es : Es)
    → numbered (indexes_of s) n ≡ Some x → x.global ≡ true → Covered front hints wanted → row_is_hinted s hints g e ≡ true → is_wanted wanted g e.0 ≡ false
    → with_front front s n x es e ≡ es
adds_nothing front s n x hints wanted g e es there global covered hinted other =
    no_keys front s n x (numbered s.tables x.table) e es
    (none_begin front g e.0 hints (row_keys s n x e.0 e.1) (numbered_index (λ entry. is_hinted hints entry g e.0) s n x e.0 e.1 there global hinted)
    (λ entry among begin. differ (sym (covered entry g e.0 among begin) ∙ other)))
  where
    differ : true ≡ false → ⊥
    differ e = cc

group_adds : (front : List ℕ) (s : Schema) (n : ℕ) (x : Index) (hints : Hints) (wanted : Wanted) (g : List ℕ) (rows : Listed) (es : Es)
    → numbered (indexes_of s) n ≡ Some x → x.global ≡ true → Covered front hints wanted → rows_are_hinted s hints g rows ≡ true
    → with_fronts front s n x es (filter (λ (e : List ℕ × Row). is_wanted wanted g e.0) rows) ≡ with_fronts front s n x es rows
group_adds front s n x hints wanted g [] es there global covered hinted = refl
group_adds front s n x hints wanted g (e ∷ rows) es there global covered hinted =
    let parts : (row_is_hinted s hints g e ≡ true) × (rows_are_hinted s hints g rows ≡ true) = and_parts (row_is_hinted s hints g e) (rows_are_hinted s hints g rows) hinted in
    by_test (is_wanted wanted g e.0) _
    (λ yes. ap (λ b. with_fronts front s n x es (cond b (e ∷ filter (λ (e : List ℕ × Row). is_wanted wanted g e.0) rows) (filter (λ (e : List ℕ × Row). is_wanted wanted g e.0) rows))) yes
    ∙ group_adds front s n x hints wanted g rows (with_front front s n x es e) there global covered parts.1)
    (λ no_. ap (λ b. with_fronts front s n x es (cond b (e ∷ filter (λ (e : List ℕ × Row). is_wanted wanted g e.0) rows) (filter (λ (e : List ℕ × Row). is_wanted wanted g e.0) rows))) no_
    ∙ group_adds front s n x hints wanted g rows es there global covered parts.1
    ∙ ap (λ es. with_fronts front s n x es rows) (sym (adds_nothing front s n x hints wanted g e es there global covered parts.0 no_)))

fronts-append : (front : List ℕ) (s : Schema) (n : ℕ) (x : Index) (es : Es) (a b : Listed) → with_fronts front s n x es (a ++ b) ≡ with_fronts front s n x (with_fronts front s n x es a) b
fronts-append front s n x es [] b = refl
fronts-append front s n x es (e ∷ a) b = fronts-append front s n x (with_front front s n x es e) a b

wanted_add : (front : List ℕ) (s : Schema) (n : ℕ) (x : Index) (hints : Hints) (wanted : Wanted) (marks : Marks) (es : Es)
    → numbered (indexes_of s) n ≡ Some x → x.global ≡ true → Covered front hints wanted → all_hinted s hints marks ≡ true
    → with_fronts front s n x es (all_wanted wanted marks) ≡ with_fronts front s n x es (rows_marked marks)
wanted_add front s n x hints wanted [] es there global covered hinted = refl
wanted_add front s n x hints wanted (m ∷ marks) es there global covered hinted =
    let parts : (rows_are_hinted s hints m.0 m.1.rows ≡ true) × (all_hinted s hints marks ≡ true) = and_parts (rows_are_hinted s hints m.0 m.1.rows) (all_hinted s hints marks) hinted in
    fronts-append front s n x es (filter (λ (e : List ℕ × Row). is_wanted wanted m.0 e.0) m.1.rows) (all_wanted wanted marks)
    ∙ ap (λ es. with_fronts front s n x es (all_wanted wanted marks)) (group_adds front s n x hints wanted m.0 m.1.rows es there global covered parts.0)
    ∙ wanted_add front s n x hints wanted marks (with_fronts front s n x es m.1.rows) there global covered parts.1
    ∙ sym (fronts-append front s n x es m.1.rows (rows_marked marks))

-- what the wanted rows add is what is found
pub wanted_found : (front : List ℕ) (s : Schema) (n : ℕ) (x : Index) (hints : Hints) (wanted : Wanted) (marks : Marks)
    → numbered (indexes_of s) n ≡ Some x → x.global ≡ true → Covered front hints wanted → all_hinted s hints marks ≡ true
    → values_in (with_fronts front s n x [] (all_wanted wanted marks)) ≡ begun_by front (index_of s n x (rows_marked marks))
wanted_found front s n x hints wanted marks there global covered hinted =
    ap values_in (wanted_add front s n x hints wanted marks [] there global covered hinted) ∙ sym (begun-fronts front s n x (rows_marked marks))

-- a front that is longer than any key finds nothing
as_long : (front k : List ℕ) → begins front k ≡ true → length front ≤ length k
as_long [] k h = omega arith
as_long (f ∷ fs) [] h = cc
as_long (f ∷ fs) (x ∷ xs) h =
    let parts : (nat_eq f x ≡ true) × (begins fs xs ≡ true) = and_parts (nat_eq f x) (begins fs xs) h in
    let rest : length fs ≤ length xs = as_long fs xs parts.1 in
    omega arith

long_none : (front : List ℕ) (keys : List (List ℕ)) → nat_le (length front) 1024 ≡ false → filter (begins front) (filter (λ k. nat_le (length k) 1024) keys) ≡ []
long_none front [] long = refl
long_none front (k ∷ keys) long =
    by_test (nat_le (length k) 1024) _
    (λ short. ap (λ b. filter (begins front) (cond b (k ∷ filter (λ k. nat_le (length k) 1024) keys) (filter (λ k. nat_le (length k) 1024) keys))) short
    ∙ by_test (begins front k) _
    (λ begin. absurd (too_long (length front) (length k) (as_long front k begin) short long))
    (λ other. ap (λ b. cond b (k ∷ filter (begins front) (filter (λ k. nat_le (length k) 1024) keys)) (filter (begins front) (filter (λ k. nat_le (length k) 1024) keys))) other ∙ long_none front keys long))
    (λ tall. ap (λ b. filter (begins front) (cond b (k ∷ filter (λ k. nat_le (length k) 1024) keys) (filter (λ k. nat_le (length k) 1024) keys))) tall ∙ long_none front keys long)
  where
    too_long : (f k : ℕ) → f ≤ k → nat_le k 1024 ≡ true → nat_le f 1024 ≡ false → ⊥
    too_long f k le short long = grind (arith, nat_tests)

long_keys : (front : List ℕ) (s : Schema) (n : ℕ) (x : Index) (o : Option Table) (e : List ℕ × Row) → nat_le (length front) 1024 ≡ false → filter (begins front) (table_keys s n x o e.0 e.1) ≡ []
long_keys front s n x None e long = refl
long_keys front s n x (Some t) e long = by (stands_in s x.table (Some t) e.0 e.1)
  where
    by : (b : Bool) → filter (begins front) (cond b (entry_keys n x (group_bytes_of s x.table t e.1) (key_values t.primary e.1) e.1) []) ≡ []
    by true = long_none front (index_keys n x (group_bytes_of s x.table t e.1) (key_values t.primary e.1) e.1) long
    by false = refl

long_adds : (front : List ℕ) (s : Schema) (n : ℕ) (x : Index) (rows : Listed) (es : Es) → nat_le (length front) 1024 ≡ false → with_fronts front s n x es rows ≡ es
long_adds front s n x [] es long = refl
long_adds front s n x (e ∷ rows) es long =
    ap (λ es. with_fronts front s n x es rows) (no_keys front s n x (numbered s.tables x.table) e es (long_keys front s n x (numbered s.tables x.table) e long)) ∙ long_adds front s n x rows es long

pub long_finds : (front : List ℕ) (s : Schema) (n : ℕ) (x : Index) (rows : Listed) → nat_le (length front) 1024 ≡ false → begun_by front (index_of s n x rows) ≡ []
long_finds front s n x rows long = begun-fronts front s n x rows ∙ ap values_in (long_adds front s n x rows [] long)

-- the front of a global index is a key with no primary key
pub front_global : (n : ℕ) (x : Index) (values : List Value) → x.global ≡ true → front_of n x [] values ≡ index_bytes n [] values []
front_global n x values global = by x.global ∙ ap (λ bytes. (127 + n) ∷ bytes) (sym (append-nil (spell_all values)))
  where
    by : (b : Bool) → (if b then [] else []) ++ (127 + n) ∷ spell_all values ≡ (127 + n) ∷ spell_all values
    by true = refl
    by false = refl

pub not_short : (front : List ℕ) → (if nat_le (length front) 1024 then Some front else None) ≡ None → nat_le (length front) 1024 ≡ false
not_short front h = by_test (nat_le (length front) 1024) _
    (λ yes. absurd (differ (sym (ap (λ b. if b then Some front else None) yes) ∙ h)))
    (λ long. long)
  where
    differ : Some front ≡ None → ⊥
    differ e = cc

pub long_found : (s : Schema) (n : ℕ) (x : Index) (values : List Value) (rows : Listed) → x.global ≡ true → misplaced (indexed_kinds s x) values 0 ≡ None
    → (if nat_le (length (index_bytes n [] values [])) 1024 then Some (index_bytes n [] values []) else None) ≡ None → found_in s n x [] values rows ≡ Ok []
long_found s n x values rows global none long =
    ap (λ o. unless_misplaced o (begun_by (front_of n x [] values) (index_of s n x rows))) none
    ∙ ap Ok (ap (λ f. begun_by f (index_of s n x rows)) (front_global n x values global)
    ∙ long_finds (index_bytes n [] values []) s n x rows (not_short (index_bytes n [] values []) long))
