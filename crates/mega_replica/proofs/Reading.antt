-- What reads see of versions that follow a log.
use Rattle.std.proofs.Common.{◌≡◌, ⊎_elim, ℕ, zero, suc, ◌+◌, ◌-◌, ◌<◌, ◌≤◌, Bool, true, false, cond, List, [], ◌∷◌, ◌++◌, length, take, drop, Option, Some, None, refl, sym, ap, ◌∙◌, subst, arith, nat_le}
use Rattle.std.proofs.lemmas.List.{append-nil, append_assoc, take_all, take-append-drop, length-append}
use Rattle.std.proofs.lemmas.Bool.Decides.{nat_tests}
use Rattle.mega_base.specs.declared.values.Row.{Row}
use Rattle.mega_base.specs.declared.names.GroupId.{GroupId}
use Rattle.mega_entry.specs.declared.content.Write.{Write}
use Rattle.mega_entry.specs.declared.content.Content.{Content}
use Rattle.mega_disk.specs.VersionMaps.{IsLatest, Versions, or_else, row_at, row_of, version_at}
use Rattle.mega_index.specs.Rows.{Rows, after, changed, no_rows, same_key, written}
use Rattle.mega_replica.specs.Applying.{applied, stored_writes, writes_of}
use Rattle.mega_replica.specs.declared.progress.Progress.{Progress}
use Rattle.mega_replica.specs.Stored.{Counts, GroupLogs, IsOwn, IsUnwritten, last_write, stored_at, version_of}
use Rattle.mega_replica.specs.Following.{Follows}
use Rattle.mega_replica.proofs.Writing.{Version, last_write-append}

no_entry : (entry : Content) (rest : List Content) → ◌≡◌ {A = List Content} [] (entry ∷ rest) → ⊥
no_entry entry rest is = cc

first_is : (a b : Content) (xs ys : List Content) → (a ∷ xs) ≡ (b ∷ ys) → a ≡ b
first_is a b xs ys is = cc

both_none : (a b : Version) → or_else a b ≡ None → (a ≡ None) × (b ≡ None)
both_none None b is = (refl, is)
both_none (Some row) b is = absurd cc

-- ---- keys that a log does not write

pub unwritten_front : (key : List ℕ) (n : ℕ) (writes : List Write) → last_write key writes ≡ None → last_write key (take n writes) ≡ None
unwritten_front key n writes none =
    (both_none (last_write key (drop n writes)) (last_write key (take n writes))
    (sym (last_write-append key (take n writes) (drop n writes)) ∙ ap (last_write key) (take-append-drop n writes) ∙ none)).1

-- the first entry's writes, and those of the others
parts : (key : List ℕ) (entry : Content) (log : List Content) → last_write key (writes_of (entry ∷ log)) ≡ None → (last_write key (writes_of log) ≡ None) × (last_write key entry.writes ≡ None)
parts key entry log none = both_none (last_write key (writes_of log)) (last_write key entry.writes) (sym (last_write-append key entry.writes (writes_of log)) ∙ none)

pub unwritten_version : (log : List Content) (stored : ℕ) (key : List ℕ) (n : ℕ) → IsUnwritten key log → version_of log stored key n ≡ None
unwritten_version [] stored key n none = refl
unwritten_version (entry ∷ log) stored key zero none = refl
unwritten_version (entry ∷ log) stored key (suc zero) none = unwritten_front key stored entry.writes (parts key entry log none).1
unwritten_version (entry ∷ log) stored key (suc (suc n)) none = unwritten_version log (stored - length entry.writes) key (suc n) (parts key entry log none).0

-- the versions of a group's own key
pub own_version : (version : Versions) (progress : GroupId → Progress) (log : GroupLogs) (stored : Counts) (group : GroupId) (key : List ℕ) → Follows version progress log stored → IsOwn log group key
    → (n : ℕ) → version key n ≡ version_of (log group) (stored group) key n
own_version version progress log stored group key follows own = follows.versions group key (λ other apart n. unwritten_version (log other) (stored other) key n (own other apart))

-- ---- rows

abbrev pub or_row : Version → Option Row → Option Row
or_row None row = row
or_row (Some written) row = written

row_of_either : (a b : Version) → row_of (or_else a b) ≡ or_row a (row_of b)
row_of_either None b = refl
row_of_either (Some row) b = refl

row_by : (test : Bool) (last : Version) (row before : Option Row) → or_row last (cond test row before) ≡ or_row (or_else last (cond test (Some row) None)) before
row_by true None row before = refl
row_by false None row before = refl
row_by test (Some last) row before = refl

-- what is written is the last write's row
pub written_is : (writes : List Write) (rows : Rows) (key : List ℕ) → written writes rows key ≡ or_row (last_write key writes) (rows key)
written_is [] rows key = refl
written_is (write ∷ writes) rows key =
    written_is writes (changed rows write) key ∙ row_by (same_key write.key key) (last_write key writes) write.row (rows key)

after-append : (front back : List Content) (rows : Rows) → after (front ++ back) rows ≡ after back (after front rows)
after-append [] back rows = refl
after-append (entry ∷ front) back rows = after-append front back (written entry.writes rows)

-- an entry that is applied is stored whole
record Whole (log : List Content) (stored p : ℕ) : Type 0 where
  pub entry : Content
  pub front : take (suc p) log ≡ take p log ++ entry ∷ []
  pub writes : stored_at log stored (suc p) ≡ entry.writes

whole : (log : List Content) (stored p : ℕ) → suc p ≤ applied log stored → Whole log stored p
whole [] stored p le = absurd (let none : suc p ≤ 0 = le in omega (arith, none))
whole (entry ∷ log) stored p le = by (nat_le (length entry.writes) stored) refl (whole log (stored - length entry.writes)) p le
  where
    fits : nat_le (length entry.writes) stored ≡ true → length entry.writes ≤ stored
    fits is = grind (arith, nat_tests)

    by : (test : Bool) → nat_le (length entry.writes) stored ≡ test → ((q : ℕ) → suc q ≤ applied log (stored - length entry.writes) → Whole log (stored - length entry.writes) q)
        → (p : ℕ) → suc p ≤ cond test (1 + applied log (stored - length entry.writes)) 0 → Whole (entry ∷ log) stored p
    by false is next p le = absurd (let none : suc p ≤ 0 = le in omega (arith, none))
    by true is next zero le = record { entry = entry; front = refl; writes = take_all stored entry.writes (fits is) }
    by true is next (suc p) le =
        let w = next p (let more : suc (suc p) ≤ 1 + applied log (stored - length entry.writes) = le in omega (arith, more)) in
        record { entry = w.entry; front = ap (λ (xs : List Content). entry ∷ xs) w.front; writes = w.writes }

no_zero : (log : List Content) (stored : ℕ) (key : List ℕ) → version_of log stored key zero ≡ None
no_zero [] stored key = refl
no_zero (entry ∷ log) stored key = refl

no_front : (log : List Content) → take 0 log ≡ []
no_front [] = refl
no_front (entry ∷ log) = refl

-- a read at an applied position sees the rows after the entries through it
seen : (log : List Content) (stored : ℕ) (key : List ℕ) (p : ℕ) → p ≤ applied log stored → row_of (version_at (version_of log stored key) p) ≡ after (take p log) no_rows key
unfolding version_at
seen log stored key zero le = ap row_of (no_zero log stored key) ∙ ap (λ (front : List Content). after front no_rows key) (sym (no_front log))
seen log stored key (suc p) le =
    let w = whole log stored p le in
    let earlier : Rows = after (take p log) no_rows in
    row_of_either (version_of log stored key (suc p)) (version_at (version_of log stored key) p)
    ∙ ap (or_row (version_of log stored key (suc p))) (seen log stored key p (omega (arith, le)))
    ∙ ap (λ (writes : List Write). or_row (last_write key writes) (earlier key)) w.writes
    ∙ sym (written_is w.entry.writes earlier key)
    ∙ ap (λ (rows : Rows). rows key) (sym (after-append (take p log) (w.entry ∷ []) no_rows))
    ∙ ap (λ (front : List Content). after front no_rows key) (sym w.front)

pub read_is : (version : Versions) (progress : GroupId → Progress) (log : GroupLogs) (stored : Counts) (group : GroupId) (key : List ℕ) (p : ℕ)
    → Follows version progress log stored → IsOwn log group key → p ≤ applied (log group) (stored group) → row_at version key p ≡ after (take p (log group)) no_rows key
read_is version progress log stored group key p follows own le =
    ap (λ (versions : ℕ → Version). row_of (version_at versions p)) (λ i n. own_version version progress log stored group key follows own n i)
    ∙ seen (log group) (stored group) key p le

-- ---- the newest rows

take-append : (n : ℕ) (a b : List Write) → take n (a ++ b) ≡ take n a ++ take (n - length a) b
take-append n [] b = ap (λ m. take m b) (let same : n ≡ n - 0 = omega arith in same) ∙ ap (λ (xs : List Write). xs ++ take (n - 0) b) (sym (none n))
  where
    none : (m : ℕ) → ◌≡◌ {A = List Write} (take m []) []
    none zero = refl
    none (suc m) = refl
take-append zero (x ∷ a) b = ap (λ m. take m b) (let same : 0 ≡ 0 - suc (length a) = omega arith in same)
take-append (suc n) (x ∷ a) b =
    ap (λ (xs : List Write). x ∷ xs) (take-append n a b ∙ ap (λ m. take n a ++ take m b) (let same : n - length a ≡ suc n - suc (length a) = omega arith in same))

stored-cons : (key : List ℕ) (entry : Content) (log : List Content) (stored : ℕ)
    → last_write key (stored_writes (entry ∷ log) stored) ≡ or_else (last_write key (stored_writes log (stored - length entry.writes))) (last_write key (take stored entry.writes))
stored-cons key entry log stored =
    ap (last_write key) (take-append stored entry.writes (writes_of log))
    ∙ last_write-append key (take stored entry.writes) (take (stored - length entry.writes) (writes_of log))

none_stored : (log : List Content) (stored : ℕ) (key : List ℕ) → ((n : ℕ) → version_of log stored key n ≡ None) → last_write key (stored_writes log stored) ≡ None
none_stored [] stored key none = empty stored
  where
    empty : (m : ℕ) → last_write key (take m []) ≡ None
    empty zero = refl
    empty (suc m) = refl
none_stored (entry ∷ log) stored key none =
    stored-cons key entry log stored
    ∙ ap (λ (v : Version). or_else v (last_write key (take stored entry.writes))) (none_stored log (stored - length entry.writes) key later)
    ∙ none (suc zero)
  where
    later : (n : ℕ) → version_of log (stored - length entry.writes) key n ≡ None
    later zero = no_zero log (stored - length entry.writes) key
    later (suc n) = none (suc (suc n))

newest_stored : (log : List Content) (stored : ℕ) (key : List ℕ) (p : ℕ) (row : Option Row) → version_of log stored key p ≡ Some row → ((q : ℕ) → p < q → version_of log stored key q ≡ None)
    → last_write key (stored_writes log stored) ≡ Some row
newest_stored [] stored key p row here later = absurd cc
newest_stored (entry ∷ log) stored key zero row here later = absurd cc
newest_stored (entry ∷ log) stored key (suc zero) row here later =
    stored-cons key entry log stored
    ∙ ap (λ (v : Version). or_else v (last_write key (take stored entry.writes))) (none_stored log (stored - length entry.writes) key none)
    ∙ here
  where
    none : (n : ℕ) → version_of log (stored - length entry.writes) key n ≡ None
    none zero = no_zero log (stored - length entry.writes) key
    none (suc n) = later (suc (suc n)) (omega arith)
newest_stored (entry ∷ log) stored key (suc (suc m)) row here later =
    stored-cons key entry log stored
    ∙ ap (λ (v : Version). or_else v (last_write key (take stored entry.writes))) (newest_stored log (stored - length entry.writes) key (suc m) row here next)
  where
    next : (q : ℕ) → suc m < q → version_of log (stored - length entry.writes) key q ≡ None
    next zero lt = no_zero log (stored - length entry.writes) key
    next (suc q) lt = later (suc (suc q)) (omega (arith, lt))

newest : (log : List Content) (stored : ℕ) (key : List ℕ) (row : Option Row) → IsLatest (version_of log stored key) row → row ≡ written (stored_writes log stored) no_rows key
newest log stored key row is = ⊎_elim
    (λ none. none.1 ∙ ap (λ (v : Version). or_row v None) (sym (none_stored log stored key none.0)))
    (λ some. ap (λ (v : Version). or_row v None) (sym (newest_stored log stored key some.0 row some.1 some.2)))
    is
    ∙ sym (written_is (stored_writes log stored) no_rows key)

pub newest_is : (version : Versions) (progress : GroupId → Progress) (log : GroupLogs) (stored : Counts) (group : GroupId) (key : List ℕ) (row : Option Row)
    → Follows version progress log stored → IsOwn log group key → IsLatest (version key) row → row ≡ written (stored_writes (log group) (stored group)) no_rows key
newest_is version progress log stored group key row follows own latest =
    newest (log group) (stored group) key row
    (subst (λ (versions : ℕ → Version). IsLatest versions row) (λ i n. own_version version progress log stored group key follows own n i) latest)

-- ---- reads at any position

-- of the next entry those are stored that the earlier ones leave
stored_left : (log : List Content) (e stored : ℕ) (entry : Content) (rest : List Content) → drop e log ≡ entry ∷ rest → stored_at log stored (suc e) ≡ take (stored - length (writes_of (take e log))) entry.writes
stored_left [] zero stored entry rest is = absurd (no_entry entry rest is)
stored_left [] (suc e) stored entry rest is = absurd (no_entry entry rest is)
stored_left (first ∷ log) zero stored entry rest is =
    ap (λ (c : Content). take stored c.writes) (first_is first entry log rest is) ∙ ap (λ n. take n entry.writes) (let same : stored ≡ stored - 0 = omega arith in same)
stored_left (first ∷ log) (suc e) stored entry rest is =
    let both = length-append first.writes (writes_of (take e log)) in
    stored_left log e (stored - length first.writes) entry rest is
    ∙ ap (λ n. take n entry.writes) (let same : stored - length first.writes - length (writes_of (take e log)) ≡ stored - length (first.writes ++ writes_of (take e log)) = omega (arith, both) in same)

no_entry_at : (log : List Content) (e stored : ℕ) → drop e log ≡ [] → stored_at log stored (suc e) ≡ []
no_entry_at [] e stored is = refl
no_entry_at (first ∷ log) zero stored is = absurd (no_entry first log (sym is))
no_entry_at (first ∷ log) (suc e) stored is = no_entry_at log e (stored - length first.writes) is

front_more : (log : List Content) (e : ℕ) (entry : Content) (rest : List Content) → drop e log ≡ entry ∷ rest → take (suc e) log ≡ take e log ++ entry ∷ []
front_more [] zero entry rest is = absurd (no_entry entry rest is)
front_more [] (suc e) entry rest is = absurd (no_entry entry rest is)
front_more (first ∷ log) zero entry rest is = ap (λ (c : Content). c ∷ []) (first_is first entry log rest is)
front_more (first ∷ log) (suc e) entry rest is = ap (λ (xs : List Content). first ∷ xs) (front_more log e entry rest is)

front_all : (log : List Content) (e : ℕ) → drop e log ≡ [] → take (suc e) log ≡ take e log
front_all [] zero is = refl
front_all [] (suc e) is = refl
front_all (first ∷ log) zero is = absurd (no_entry first log (sym is))
front_all (first ∷ log) (suc e) is = ap (λ (xs : List Content). first ∷ xs) (front_all log e is)

writes_push : (front : List Content) (entry : Content) → writes_of (front ++ entry ∷ []) ≡ writes_of front ++ entry.writes
writes_push [] entry = append-nil entry.writes
writes_push (first ∷ front) entry = ap (λ (ws : List Write). first.writes ++ ws) (writes_push front entry) ∙ sym (append_assoc first.writes (writes_of front) entry.writes)

-- what a read sees is the last of the stored writes through its position
through : (log : List Content) (stored : ℕ) (key : List ℕ) (p : ℕ) → version_at (version_of log stored key) p ≡ last_write key (stored_writes (take p log) stored)
unfolding version_at
through log stored key zero = no_zero log stored key ∙ sym (ap (λ (front : List Content). last_write key (stored_writes front stored)) (no_front log) ∙ ap (last_write key) (nothing stored))
  where
    nothing : (m : ℕ) → ◌≡◌ {A = List Write} (take m []) []
    nothing zero = refl
    nothing (suc m) = refl
through log stored key (suc p) = by (through log stored key p) (drop p log) refl
  where
    by : version_at (version_of log stored key) p ≡ last_write key (stored_writes (take p log) stored) → (left : List Content) → drop p log ≡ left
        → or_else (last_write key (stored_at log stored (suc p))) (version_at (version_of log stored key) p) ≡ last_write key (stored_writes (take (suc p) log) stored)
    by so_far [] is =
        ap (λ (ws : List Write). or_else (last_write key ws) (version_at (version_of log stored key) p)) (no_entry_at log p stored is)
        ∙ so_far ∙ ap (λ (front : List Content). last_write key (stored_writes front stored)) (sym (front_all log p is))
    by so_far (entry ∷ rest) is =
        ap (λ (ws : List Write). or_else (last_write key ws) (version_at (version_of log stored key) p)) (stored_left log p stored entry rest is)
        ∙ ap (or_else (last_write key (take (stored - length (writes_of (take p log))) entry.writes))) so_far
        ∙ sym (last_write-append key (take stored (writes_of (take p log))) (take (stored - length (writes_of (take p log))) entry.writes))
        ∙ ap (last_write key) (sym (take-append stored (writes_of (take p log)) entry.writes))
        ∙ ap (λ (ws : List Write). last_write key (take stored ws)) (sym (writes_push (take p log) entry))
        ∙ ap (λ (front : List Content). last_write key (stored_writes front stored)) (sym (front_more log p entry rest is))

pub stored_is : (version : Versions) (progress : GroupId → Progress) (log : GroupLogs) (stored : Counts) (group : GroupId) (key : List ℕ) (p : ℕ)
    → Follows version progress log stored → IsOwn log group key → row_at version key p ≡ written (stored_writes (take p (log group)) (stored group)) no_rows key
stored_is version progress log stored group key p follows own =
    ap (λ (versions : ℕ → Version). row_of (version_at versions p)) (λ i n. own_version version progress log stored group key follows own n i)
    ∙ ap row_of (through (log group) (stored group) key p)
    ∙ seen_alone (last_write key (stored_writes (take p (log group)) (stored group)))
    ∙ sym (written_is (stored_writes (take p (log group)) (stored group)) no_rows key)
  where
    seen_alone : (last : Version) → row_of last ≡ or_row last None
    seen_alone None = refl
    seen_alone (Some row) = refl
