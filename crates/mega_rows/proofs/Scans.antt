-- The rows of a range of keys at a position, against the entries of a map.
use Rattle.std.proofs.Common.{◌≡◌, ◌≢◌, ℕ, zero, suc, ◌⊎◌, inl, inr, List, [], ◌∷◌, ◌++◌, Bool, true, false, not, ◌&&◌, cond, refl, sym, ap, subst, ◌∙◌, arith, append-nil}
use Rattle.std.specs.Prelude.{Option, Some, None, option_map, Contains, filter}
use Rattle.std.specs.List.{AllByRecursion, cons_option}
use Rattle.std.specs.List.Sorted.{IsStrictlySortedBy}
use Rattle.std.specs.Ordering.{nat_cmp, is_eq, is_le, ordering_reverse}
use Rattle.std.specs.declared.cmp.Ordering.{Ordering}
use Rattle.std.specs.declared.cmp.Ordering.TheVariants.{Less, Equal, Greater}
use Rattle.std.specs.declared.ops.Bound.TheVariants.{Included, Excluded}
use Rattle.std.specs.Cmp.Lexicographic.{slice_cmp, nat_list_cmp_total}
use Rattle.std.specs.Map.{lookup, keys_of}
use Rattle.std.specs.BTreeMap.{get, is_at, IsOrdered}
use Rattle.std.specs.BTreeMap.Range.{entries_between, range_contains}
use Rattle.std.proofs.lemmas.Map.Keys.{sorted_head, sorted_tail}
use Rattle.mega_base.specs.declared.values.Row.{Row}
use Rattle.mega_disk.specs.VersionMaps.{HasAscendingKeys, HasRow, IsScan, IsWithin, Versions, row_of, row_at, version_at}
use Rattle.mega_rows.specs.Lines.{Entry, Line, in_line, seen, seen_row, version_in}
use Rattle.mega_rows.specs.Trims.{is_key}
use Rattle.mega_rows.proofs.Changed.{Lines, key_self, line_of, read_none, same_key}

-- ---- what stands in a list
abbrev pub In : {A : Type 0} → A → List A → Type 0
In x [] = ⊥
In x (y ∷ ys) = (y ≡ x) ⊎ In x ys

row_in : (rows : List (List ℕ × Row)) (key : List ℕ) (row : Row) → HasRow rows key row → In (key, row) rows
row_in [] key row h = absurd h
row_in (one ∷ more) key row (inl same) = inl (λ i. (same.0 i, same.1 i))
row_in (one ∷ more) key row (inr h) = inr (row_in more key row h)

in_row : (rows : List (List ℕ × Row)) (key : List ℕ) (row : Row) → In (key, row) rows → HasRow rows key row
in_row [] key row h = absurd h
in_row (one ∷ more) key row (inl same) = inl (ap (λ (r : List ℕ × Row). r.0) same, ap (λ (r : List ℕ × Row). r.1) same)
in_row (one ∷ more) key row (inr h) = inr (in_row more key row h)

pub in_filter : {A : Type 0} (test : A → Bool) (xs : List A) (x : A) → In x (filter test xs) → In x xs × (test x ≡ true)
in_filter test [] x h = absurd h
in_filter {A} test (y ∷ ys) x h = go (test y) refl h (in_filter test ys x)
  where
    go : (b : Bool) → test y ≡ b → In x (cond b (y ∷ filter test ys) (filter test ys)) → (In x (filter test ys) → In x ys × (test x ≡ true)) → ((y ≡ x) ⊎ In x ys) × (test x ≡ true)
    go true t (inl e) rest = (inl e, subst (λ (z : A). test z ≡ true) e t)
    go true t (inr h) rest = (inr (rest h).0, (rest h).1)
    go false t h rest = (inr (rest h).0, (rest h).1)

pub filter_in : {A : Type 0} (test : A → Bool) (xs : List A) (x : A) → In x xs → test x ≡ true → In x (filter test xs)
filter_in test [] x h t = absurd h
filter_in {A} test (y ∷ ys) x h t = go (test y) refl h (λ there. filter_in test ys x there t)
  where
    go : (b : Bool) → test y ≡ b → (y ≡ x) ⊎ In x ys → (In x ys → In x (filter test ys)) → In x (cond b (y ∷ filter test ys) (filter test ys))
    go true s (inl e) rest = inl e
    go true s (inr h) rest = inr (rest h)
    go false s (inl e) rest = let clash = sym s ∙ (ap test e ∙ t) in cc
    go false s (inr h) rest = rest h

-- ---- the order of keys
pub reversed : (key other : List ℕ) → slice_cmp nat_cmp key other ≡ ordering_reverse (slice_cmp nat_cmp other key)
reversed key other = nat_list_cmp_total.antisymm key other

-- entries whose keys rise
abbrev Rises : List Entry → Type 0
Rises [] = Unit {0}
Rises (e ∷ es) = AllByRecursion (λ (f : Entry). slice_cmp nat_cmp e.0 f.0 ≡ Less) es × Rises es

all_of_keys : (key : List ℕ) (es : List Entry) → AllByRecursion (λ (k : List ℕ). slice_cmp nat_cmp key k ≡ Less) (keys_of es) → AllByRecursion (λ (f : Entry). slice_cmp nat_cmp key f.0 ≡ Less) es
all_of_keys key [] h = tt
all_of_keys key (e ∷ es) h = (h.0, all_of_keys key es h.1)

rises_of : (es : List Entry) → IsStrictlySortedBy (slice_cmp nat_cmp) (keys_of es) → Rises es
rises_of [] h = tt
rises_of (e ∷ es) h = (all_of_keys e.0 es (sorted_head (slice_cmp nat_cmp) e.0 (keys_of es) h), rises_of es (sorted_tail (slice_cmp nat_cmp) e.0 (keys_of es) h))

all_filter : {A : Type 0} (P : A → Type 0) (test : A → Bool) (xs : List A) → AllByRecursion P xs → AllByRecursion P (filter test xs)
all_filter P test [] h = tt
all_filter {A} P test (x ∷ xs) h = go (test x) (all_filter P test xs h.1)
  where
    go : (b : Bool) → AllByRecursion P (filter test xs) → AllByRecursion P (cond b (x ∷ filter test xs) (filter test xs))
    go true rest = (h.0, rest)
    go false rest = rest

rises_filter : (test : Entry → Bool) (es : List Entry) → Rises es → Rises (filter test es)
rises_filter test [] h = tt
rises_filter test (e ∷ es) h = go (test e) (rises_filter test es h.1)
  where
    go : (b : Bool) → Rises (filter test es) → Rises (cond b (e ∷ filter test es) (filter test es))
    go true rest = (all_filter (λ (f : Entry). slice_cmp nat_cmp e.0 f.0 ≡ Less) test es h.0, rest)
    go false rest = rest

all_in : {A : Type 0} (P : A → Type 0) (xs : List A) (x : A) → AllByRecursion P xs → In x xs → P x
all_in P [] x h there = absurd there
all_in P (y ∷ ys) x h (inl e) = subst P e h.0
all_in P (y ∷ ys) x h (inr there) = all_in P ys x h.1 there

-- ---- entries and look-ups
pub lookup_in : (es : List Entry) (key : List ℕ) (line : Line) → lookup (is_at (slice_cmp nat_cmp key)) es ≡ Some line → In (key, line) es
lookup_in [] key line h = cc
lookup_in (e ∷ es) key line h = go (is_key key e.0) refl h (lookup_in es key line)
  where
    go : (b : Bool) → is_key key e.0 ≡ b → cond b (Some e.1) (lookup (is_at (slice_cmp nat_cmp key)) es) ≡ Some line → (lookup (is_at (slice_cmp nat_cmp key)) es ≡ Some line → In (key, line) es) → (e ≡ (key, line)) ⊎ In (key, line) es
    go true t h rest = let value : e.1 ≡ line = cc in inl (λ i. (sym (same_key key e.0 t) i, value i))
    go false t h rest = inr (rest h)

less_apart : (key other : List ℕ) → slice_cmp nat_cmp other key ≡ Less → is_key key other ≡ false
less_apart key other h = ap is_eq (reversed key other ∙ ap ordering_reverse h)

in_lookup : (es : List Entry) (key : List ℕ) (line : Line) → Rises es → In (key, line) es → lookup (is_at (slice_cmp nat_cmp key)) es ≡ Some line
in_lookup [] key line rises h = absurd h
in_lookup (e ∷ es) key line rises (inl same) = ap (λ b. cond b (Some e.1) (lookup (is_at (slice_cmp nat_cmp key)) es)) (subst (λ (k : List ℕ). is_key key k ≡ true) (sym (ap (λ (f : Entry). f.0) same)) (key_self key)) ∙ ap (λ (f : Entry). Some f.1) same
in_lookup (e ∷ es) key line rises (inr h) = ap (λ b. cond b (Some e.1) (lookup (is_at (slice_cmp nat_cmp key)) es)) (less_apart key e.0 (all_in (λ (f : Entry). slice_cmp nat_cmp e.0 f.0 ≡ Less) es (key, line) rises.0 h)) ∙ in_lookup es key line rises.1 h

-- ---- the rows seen
seen_from : (at : ℕ) (es : List Entry) (key : List ℕ) (row : Row) → In (key, row) (seen at es) → (line : Line) × In (key, line) es × (row_of (version_at (get nat_cmp line) at) ≡ Some row)
seen_from at [] key row h = absurd h
seen_from at (e ∷ es) key row h = go (row_of (version_at (get nat_cmp e.1) at)) refl h (seen_from at es key row)
  where
    go : (o : Option Row) → row_of (version_at (get nat_cmp e.1) at) ≡ o → In (key, row) (cons_option (option_map (λ (r : Row). (e.0, r)) o) (seen at es)) → (In (key, row) (seen at es) → (line : Line) × In (key, line) es × (row_of (version_at (get nat_cmp line) at) ≡ Some row)) → (line : Line) × ((e ≡ (key, line)) ⊎ In (key, line) es) × (row_of (version_at (get nat_cmp line) at) ≡ Some row)
    go None t h rest = let there = rest h in (there.0, inr there.1, there.2)
    go (Some r) t (inl same) rest = (e.1, inl (λ i. (ap (λ (f : List ℕ × Row). f.0) same i, e.1)), t ∙ ap (λ (f : List ℕ × Row). Some f.1) same)
    go (Some r) t (inr h) rest = let there = rest h in (there.0, inr there.1, there.2)

in_cons : (o : Option (List ℕ × Row)) (rows : List (List ℕ × Row)) (x : List ℕ × Row) → In x rows → In x (cons_option o rows)
in_cons None rows x h = h
in_cons (Some y) rows x h = inr h

seen_in : (at : ℕ) (es : List Entry) (key : List ℕ) (line : Line) (row : Row) → In (key, line) es → row_of (version_at (get nat_cmp line) at) ≡ Some row → In (key, row) (seen at es)
seen_in at [] key line row h t = absurd h
seen_in at (e ∷ es) key line row (inl same) t = subst (λ (o : Option (List ℕ × Row)). In (key, row) (cons_option o (seen at es))) (sym (ap (seen_row at) same ∙ ap (option_map (λ (r : Row). (key, r))) t)) (inl refl)
seen_in at (e ∷ es) key line row (inr h) t = in_cons (seen_row at e) (seen at es) (key, row) (seen_in at es key line row h t)

-- ---- in order of key
abbrev After : List ℕ → List (List ℕ × Row) → Type 0
After key rows = AllByRecursion (λ (r : List ℕ × Row). slice_cmp nat_cmp key r.0 ≡ Less) rows

seen_after : (at : ℕ) (key : List ℕ) (es : List Entry) → AllByRecursion (λ (f : Entry). slice_cmp nat_cmp key f.0 ≡ Less) es → After key (seen at es)
seen_after at key [] h = tt
seen_after at key (e ∷ es) h = go (row_of (version_at (get nat_cmp e.1) at)) (seen_after at key es h.1)
  where
    go : (o : Option Row) → After key (seen at es) → After key (cons_option (option_map (λ (r : Row). (e.0, r)) o) (seen at es))
    go None rest = rest
    go (Some r) rest = (h.0, rest)

cons_ascends : (x : List ℕ × Row) (rows : List (List ℕ × Row)) → After x.0 rows → HasAscendingKeys rows → HasAscendingKeys (x ∷ rows)
cons_ascends x [] after ascends = tt
cons_ascends x (y ∷ ys) after ascends = (after.0, ascends)

seen_ascends : (at : ℕ) (es : List Entry) → Rises es → HasAscendingKeys (seen at es)
seen_ascends at [] h = tt
seen_ascends at (e ∷ es) h = go (row_of (version_at (get nat_cmp e.1) at)) (seen_ascends at es h.1)
  where
    go : (o : Option Row) → HasAscendingKeys (seen at es) → HasAscendingKeys (cons_option (option_map (λ (r : Row). (e.0, r)) o) (seen at es))
    go None rest = rest
    go (Some r) rest = cons_ascends (e.0, r) (seen at es) (seen_after at e.0 es h.0) rest

-- ---- ranges
pub within_of : (from to key : List ℕ) → range_contains (slice_cmp nat_cmp) (Included from) (Excluded to) key ≡ true → IsWithin from to key
within_of from to key h = (not_less (slice_cmp nat_cmp key from) (left_of _ _ (subst (λ o. (is_le o && not (is_le (slice_cmp nat_cmp to key))) ≡ true) (reversed from key) h)), is_less (slice_cmp nat_cmp key to) (right_of _ _ (subst (λ o. (is_le (slice_cmp nat_cmp from key) && not (is_le o)) ≡ true) (reversed to key) h)))
  where
    left_of : (a b : Bool) → (a && b) ≡ true → a ≡ true
    left_of true b h = refl
    left_of false b h = h

    right_of : (a b : Bool) → (a && b) ≡ true → b ≡ true
    right_of true b h = h
    right_of false b h = cc

    not_less : (o : Ordering) → is_le (ordering_reverse o) ≡ true → o ≢ Less
    not_less Less h = λ e. cc
    not_less Equal h = λ e. cc
    not_less Greater h = λ e. cc

    is_less : (o : Ordering) → not (is_le (ordering_reverse o)) ≡ true → o ≡ Less
    is_less Less h = refl
    is_less Equal h = cc
    is_less Greater h = cc

pub of_within : (from to key : List ℕ) → IsWithin from to key → range_contains (slice_cmp nat_cmp) (Included from) (Excluded to) key ≡ true
of_within from to key h = ap (λ o. is_le o && not (is_le (slice_cmp nat_cmp to key))) (reversed from key) ∙ (ap (λ o. is_le (ordering_reverse (slice_cmp nat_cmp key from)) && not (is_le o)) (reversed to key ∙ ap ordering_reverse h.1) ∙ go (slice_cmp nat_cmp key from) h.0)
  where
    go : (o : Ordering) → o ≢ Less → (is_le (ordering_reverse o) && true) ≡ true
    go Less h = absurd (h refl)
    go Equal h = refl
    go Greater h = refl

pub scanned : (lines : Lines) (from to : List ℕ) (at : ℕ) (found : List Entry) → IsOrdered (slice_cmp nat_cmp) lines → found ≡ entries_between (slice_cmp nat_cmp) (Included from) (Excluded to) lines.entries → IsScan (version_in lines) from to at (seen at found)
scanned lines from to at found ordered is = subst (λ (es : List Entry). IsScan (version_in lines) from to at (seen at es)) (sym is) (record { ordered = seen_ascends at between (rises_filter test lines.entries rises); each = each; all = all })
  where
    test : Entry → Bool
    test e = range_contains (slice_cmp nat_cmp) (Included from) (Excluded to) e.0

    between : List Entry
    between = filter test lines.entries

    rises : Rises lines.entries
    rises = rises_of lines.entries ordered

    each : (key : List ℕ) (row : Row) → HasRow (seen at between) key row → IsWithin from to key × (row_at (version_in lines) key at ≡ Some row)
    each key row h =
        let there = seen_from at between key row (row_in (seen at between) key row h) in
        let kept = in_filter test lines.entries (key, there.0) there.1 in
        (within_of from to key kept.1, ap (λ (o : Option Line). row_of (version_at (in_line o) at)) (in_lookup lines.entries key there.0 rises kept.0) ∙ there.2)

    all : (key : List ℕ) (row : Row) → IsWithin from to key → row_at (version_in lines) key at ≡ Some row → HasRow (seen at between) key row
    all key row within reads = go (line_of lines key) refl
      where
        go : (o : Option Line) → line_of lines key ≡ o → HasRow (seen at between) key row
        go None absent = let none = read_none lines key at (sym absent) in cc
        go (Some line) there =
            in_row (seen at between) key row
            (seen_in at between key line row
            (filter_in test lines.entries (key, line) (lookup_in lines.entries key line there) (of_within from to key within))
            (ap (λ (o : Option Line). row_of (version_at (in_line o) at)) (sym there) ∙ reads))

-- ---- the loop over the entries
pub all_seen : (versions : Versions) (from to : List ℕ) (at : ℕ) (rows : List (List ℕ × Row)) (left all found : List Entry) → rows ++ seen at left ≡ seen at all → left ≡ [] → all ≡ found → IsScan versions from to at (seen at found) → IsScan versions from to at rows
all_seen versions from to at rows left all found done empty given scan =
    subst (λ (rs : List (List ℕ × Row)). IsScan versions from to at rs) (sym (sym (append-nil rows) ∙ (ap (λ es. rows ++ seen at es) (sym empty) ∙ (done ∙ ap (seen at) given)))) scan
