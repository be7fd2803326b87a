-- Index rows are those of the tables' rows, and stay so where a row is replaced along with its local index writes.
use Rattle.std.proofs.Common.{◌≡◌, ◌⊎◌, inl, inr, ℕ, zero, suc, ◌+◌, ◌<◌, ◌≤◌, cond, Bool, true, false, if◌then◌else◌, List, [], ◌∷◌, ◌++◌, length, slice_get, refl, sym, ap, ◌∙◌, subst, arith, Option, Some, None, is_none}
use Rattle.std.proofs.lemmas.List.Sums.{fold-append}
use Rattle.mega_base.specs.declared.values.Row.{Row}
use Rattle.mega_entry.specs.declared.content.Write.{Write}
use Rattle.mega_schema.specs.declared.schema.Table.{Table}
use Rattle.mega_schema.specs.declared.schema.Index.{Index}
use Rattle.mega_schema.specs.declared.schema.Schema.{Schema}
use Rattle.mega_index.specs.Rows.{Rows, Listed, same_key, row_under, changed, written}
use Rattle.mega_index.specs.Cells.{key_values}
use Rattle.mega_index.specs.Fits.{numbered, indexes_of, group_bytes_of}
use Rattle.mega_index.specs.Entries.{local_in, local_entries}
use Rattle.mega_index.specs.Fitted.{table_of}
use Rattle.mega_index.specs.LocalWrites.{gone_one, gone, fresh, turned, index_writes, index_writes_in}
use Rattle.mega_index.proofs.Turning.{fresh-keeps}
use Rattle.mega_index.proofs.Ascending.{local_turns}
use Rattle.mega_index.proofs.KeyLists.{under, same_self, same_or_not, key_apart, not_key}
use Rattle.mega_tape_laws.proofs.RowKeys.{Standing, IsKeyOf, of_table, key_behind, behind_one, group_is, numbered_at}
use Rattle.mega_tape_laws.proofs.IndexKeys.{EntryKey, entry_key, entry_behind, entries_one}
use Rattle.mega_tape_laws.proofs.IndexEntries.{InLocal, local_from}

-- ---- rows of the group

-- a row stands under a row key of a table of the group
pub record RowOf (s : Schema) (group : List ℕ) (n : ℕ) (t : Table) (key : List ℕ) (row : Row) : Type 0 where
  pub of_table : table_of s group key ≡ Some n
  pub numbered_is : numbered s.tables n ≡ Some t
  pub standing : Standing s n t key row

pub key_of_table : (s : Schema) (group key : List ℕ) (n : ℕ) (t : Table) → length s.tables ≤ 64 → table_of s group key ≡ Some n → numbered s.tables n ≡ Some t → IsKeyOf s n t group key
key_of_table s group key n t most at is =
    let r = of_table s group key n most at in
    let same : r.table ≡ t = (let e : Some r.table ≡ Some t = sym r.numbered_is ∙ is in cc) in
    subst (λ u. IsKeyOf s n u group key) same r.is_key

pub table_least : (s : Schema) (n : ℕ) (t : Table) → length s.tables ≤ 64 → numbered s.tables n ≡ Some t → n ≤ 64
table_least s n t most is =
    let r = numbered_at s.tables n t is in
    let less = in_length s.tables r.place t r.there in
    let number = r.number_is in
    omega arith
  where
    in_length : {X : Type 0} (xs : List X) (k : ℕ) (x : X) → slice_get xs k ≡ Some x → k < length xs
    in_length [] k x h = cc
    in_length (y ∷ ys) zero x h = omega arith
    in_length (y ∷ ys) (suc k) x h = let less = in_length ys k x h in omega arith

-- ---- their entries

pub entry_in : (s : Schema) (group : List ℕ) (n : ℕ) (t : Table) (at : List ℕ) (row : Row) (key : List ℕ) (w : Row) → length s.tables ≤ 64 → RowOf s group n t at row
    → under (local_entries s n t (Some row)) key ≡ Some w → InLocal 1 (indexes_of s) n group (key_values t.primary row) row key w
entry_in s group n t at row key w most r h =
    let values = key_values t.primary row in
    let there : under (local_in 1 (indexes_of s) n (group_bytes_of s n t row) values row []) key ≡ Some w =
    sym (ap (λ b. under (if b then local_in 1 (indexes_of s) n (group_bytes_of s n t row) values row [] else []) key) (r.standing).fits) ∙ h in
    subst (λ g. InLocal 1 (indexes_of s) n g values row key w) (group_is s n t group at row r.standing (key_of_table s group at n t most r.of_table r.numbered_is))
    (only (local_from 1 (indexes_of s) n (group_bytes_of s n t row) values row [] key w there))
  where
    only : InLocal 1 (indexes_of s) n (group_bytes_of s n t row) (key_values t.primary row) row key w ⊎ (None ≡ Some w) → InLocal 1 (indexes_of s) n (group_bytes_of s n t row) (key_values t.primary row) row key w
    only (inl found) = found
    only (inr none) = cc

pub keyed : (s : Schema) (group : List ℕ) (n : ℕ) (t : Table) (row : Row) (key : List ℕ) (w : Row) (e : InLocal 1 (indexes_of s) n group (key_values t.primary row) row key w)
    → EntryKey (1 + e.place) e.index group (key_values t.primary row) row key
keyed s group n t row key w e = entry_key (1 + e.place) e.index group (key_values t.primary row) row key e.local e.has_key

-- the key of an entry is no row key
entry_no_row : (s : Schema) (group : List ℕ) (n : ℕ) (t : Table) (at : List ℕ) (row : Row) (key : List ℕ) (w : Row) → length s.tables ≤ 64 → RowOf s group n t at row
    → under (local_entries s n t (Some row)) key ≡ Some w → table_of s group key ≡ None
entry_no_row s group n t at row key w most r h = by (table_of s group key) refl
  where
    by : (o : Option ℕ) → table_of s group key ≡ o → table_of s group key ≡ None
    by None is = is
    by (Some m) is =
        let e = entry_in s group n t at row key w most r h in
        let other = of_table s group key m most is in
        let least = table_least s m other.table most other.numbered_is in
        let same = behind_one group key m (127 + (1 + e.place)) (key_behind s m other.table group key other.is_key) (entry_behind (1 + e.place) e.index group (key_values t.primary row) row key (keyed s group n t row key w e)) in
        absurd (omega (arith, same))

-- a key is that of an entry of one row alone
entry_once : (s : Schema) (group : List ℕ) (m n : ℕ) (t u : Table) (first second : List ℕ) (row other : Row) (key : List ℕ) (v w : Row) → length s.tables ≤ 64
    → RowOf s group m t first row → RowOf s group n u second other → under (local_entries s m t (Some row)) key ≡ Some v → under (local_entries s n u (Some other)) key ≡ Some w → first ≡ second
entry_once s group m n t u first second row other key v w most a b h g =
    let d = entry_in s group m t first row key v most a h in
    let e = entry_in s group n u second other key w most b g in
    let x = keyed s group m t row key v d in
    let y = keyed s group n u other key w e in
    let numbers = behind_one group key (127 + (1 + d.place)) (127 + (1 + e.place)) (entry_behind (1 + d.place) d.index group (key_values t.primary row) row key x) (entry_behind (1 + e.place) e.index group (key_values u.primary other) other key y) in
    let place : e.place ≡ d.place = omega (arith, numbers) in
    let index : e.index ≡ d.index = (let q : Some e.index ≡ Some d.index = sym e.there ∙ ap (slice_get (indexes_of s)) place ∙ d.there in cc) in
    let number : n ≡ m = sym e.table_is ∙ ap (λ (z : Index). z.table) index ∙ d.table_is in
    let table : u ≡ t = (let q : Some u ≡ Some t = sym b.numbered_is ∙ ap (numbered s.tables) number ∙ a.numbered_is in cc) in
    entries_one s m (1 + d.place) t d.index group first second key row other a.standing
    (coe 0 1 (i. Standing s (number i) (table i) second other) b.standing) x
    (coe 0 1 (i. EntryKey (1 + place i) (index i) group (key_values (table i).primary other) other key) y)

-- ---- what the index writes leave

written_at : (writes : List Write) (R S : Rows) (k : List ℕ) → R k ≡ S k → written writes R k ≡ written writes S k
written_at [] R S k h = h
written_at (write ∷ writes) R S k h = written_at writes (changed R write) (changed S write) k (ap (cond (same_key write.key k) write.row) h)

gone_leaves : (new es : Listed) (R : Rows) (k : List ℕ) → row_under es k ≡ None → written (gone new es) R k ≡ R k
gone_leaves new [] R k h = refl
gone_leaves new (e ∷ es) R k h = by (same_key k e.0) refl h
    (gone_leaves new es R k) (gone_leaves new es (changed R (record { key = e.0; row = None })) k)
  where
    one : same_key k e.0 ≡ false → (b : Bool) → (row_under es k ≡ None) → written (gone new es) R k ≡ R k → written (gone new es) (changed R (record { key = e.0; row = None })) k ≡ changed R (record { key = e.0; row = None }) k
        → written (cond b (record { key = e.0; row = None } ∷ []) [] ++ gone new es) R k ≡ R k
    one apart true rest left cleared = cleared ∙ ap (λ t. cond t None (R k)) (not_key e.0 k (λ same. key_apart k e.0 apart (sym same)))
    one apart false rest left cleared = left

    by : (b : Bool) → same_key k e.0 ≡ b → cond b (Some e.1) (row_under es k) ≡ None
        → (row_under es k ≡ None → written (gone new es) R k ≡ R k) → (row_under es k ≡ None → written (gone new es) (changed R (record { key = e.0; row = None })) k ≡ changed R (record { key = e.0; row = None }) k)
        → written (gone_one new e ++ gone new es) R k ≡ R k
    by true is g left cleared = cc
    by false is g left cleared = one is (is_none (row_under new e.0)) g (left g) (cleared g)

-- a key of neither the old entries nor the new ones is left
pub turned_leaves : (old new : Listed) (R : Rows) (k : List ℕ) → row_under old k ≡ None → row_under new k ≡ None → written (turned old new) R k ≡ R k
turned_leaves old new R k h g =
    ap (λ (S : Rows). S k) (fold-append changed R (gone new old) (fresh old new)) ∙ fresh-keeps old new (written (gone new old) R) k g ∙ gone_leaves new old R k h

-- ---- the invariant

-- a row of the group has an entry under a key
pub record Owner (s : Schema) (group : List ℕ) (rows : Rows) (key : List ℕ) (stored : Row) : Type 0 where
  pub number : ℕ
  pub table : Table
  pub at : List ℕ
  pub row : Row
  pub of_table : table_of s group at ≡ Some number
  pub numbered_is : numbered s.tables number ≡ Some table
  pub stands : rows at ≡ Some row
  pub entry : under (local_entries s number table (Some row)) key ≡ Some stored

-- rows under row keys fit and stand under their own; each of their entries stands, and no other
pub record IndexExact (s : Schema) (group : List ℕ) (rows : Rows) : Type 0 where
  pub fit : (at : List ℕ) (n : ℕ) (t : Table) (row : Row) → table_of s group at ≡ Some n → numbered s.tables n ≡ Some t → rows at ≡ Some row → Standing s n t at row
  pub have : (key : List ℕ) (stored : Row) → table_of s group key ≡ None → Owner s group rows key stored → rows key ≡ Some stored
  pub only : (key : List ℕ) (stored : Row) → table_of s group key ≡ None → rows key ≡ Some stored → Owner s group rows key stored

-- ---- a row replaced

-- what stands under a key that is no row key, once the index writes of a row are made
data AtKey (rows now : Rows) (old new : Listed) (key : List ℕ) : Type 0 where
  turns : (row_under old key ≡ None → row_under new key ≡ None → ⊥) → now key ≡ row_under new key → AtKey rows now old new key
  leaves : row_under old key ≡ None → row_under new key ≡ None → now key ≡ rows key → AtKey rows now old new key

module _ (s : Schema) (most : length s.tables ≤ 64) (group : List ℕ) (rows : Rows) (kept : IndexExact s group rows)
    (at : List ℕ) (n : ℕ) (t : Table) (of_number : table_of s group at ≡ Some n) (is : numbered s.tables n ≡ Some t)
    (new : Option Row) (fits : (row : Row) → new ≡ Some row → Standing s n t at row) where
  abbrev was : Listed
  was = local_entries s n t (rows at)

  abbrev becomes : Listed
  becomes = local_entries s n t new

  abbrev base : Rows
  base = changed rows (record { key = at; row = new })

  abbrev now : Rows
  now = written (turned was becomes) base

  -- an entry has its row
  entry_of : (o : Option Row) (key : List ℕ) (w : Row) → under (local_entries s n t o) key ≡ Some w → (row : Row) × (o ≡ Some row) × (under (local_entries s n t (Some row)) key ≡ Some w)
  entry_of None key w h = cc
  entry_of (Some row) key w h = (row, refl, h)

  row_of_new : (row : Row) → new ≡ Some row → RowOf s group n t at row
  row_of_new row h = record { of_table = of_number; numbered_is = is; standing = fits row h }

  row_of_old : (row : Row) → rows at ≡ Some row → RowOf s group n t at row
  row_of_old row h = record { of_table = of_number; numbered_is = is; standing = kept.fit at n t row of_number is h }

  row_of_owner : (key : List ℕ) (w : Row) (o : Owner s group rows key w) → RowOf s group o.number o.table o.at o.row
  row_of_owner key w o = record { of_table = o.of_table; numbered_is = o.numbered_is; standing = kept.fit o.at o.number o.table o.row o.of_table o.numbered_is o.stands }

  -- what two owners of one place share
  same_table : (m : ℕ) (u : Table) (other : List ℕ) → at ≡ other → table_of s group other ≡ Some m → numbered s.tables m ≡ Some u → (n ≡ m) × (t ≡ u)
  same_table m u other same h g =
      let number : n ≡ m = (let e : Some n ≡ Some m = sym of_number ∙ ap (table_of s group) same ∙ h in cc) in
      let table : t ≡ u = (let e : Some t ≡ Some u = sym is ∙ ap (numbered s.tables) number ∙ g in cc) in
      (number, table)

  no_old : (k : List ℕ) (m : ℕ) → table_of s group k ≡ Some m → under was k ≡ None
  no_old k m h = by (under was k) refl
    where
      by : (o : Option Row) → under was k ≡ o → under was k ≡ None
      by None e = e
      by (Some w) e =
          let r = entry_of (rows at) k w e in
          let none = entry_no_row s group n t at r.0 k w most (row_of_old r.0 r.1) r.2 in
          cc

  no_new : (k : List ℕ) (m : ℕ) → table_of s group k ≡ Some m → under becomes k ≡ None
  no_new k m h = by (under becomes k) refl
    where
      by : (o : Option Row) → under becomes k ≡ o → under becomes k ≡ None
      by None e = e
      by (Some w) e =
          let r = entry_of new k w e in
          let none = entry_no_row s group n t at r.0 k w most (row_of_new r.0 r.1) r.2 in
          cc

  row_now : (k : List ℕ) (m : ℕ) → table_of s group k ≡ Some m → now k ≡ cond (same_key at k) new (rows k)
  row_now k m h = turned_leaves was becomes base k (no_old k m h) (no_new k m h)

  base_at : (key : List ℕ) → table_of s group key ≡ None → base key ≡ rows key
  base_at key none = ap (λ b. cond b new (rows key)) (not_key at key (λ same. let e : Some n ≡ None = sym of_number ∙ ap (table_of s group) same ∙ none in cc))

  -- an entry of the new row stands where the old row's did, or nothing
  free : (key : List ℕ) → table_of s group key ≡ None → under was key ≡ None → (w : Row) → under becomes key ≡ Some w → rows key ≡ None
  free key none old w g = by (rows key) refl
    where
      by : (o : Option Row) → rows key ≡ o → rows key ≡ None
      by None e = e
      by (Some x) e =
          let o = kept.only key x none e in
          let r = entry_of new key w g in
          let same = entry_once s group n o.number t o.table at o.at r.0 o.row key w x most (row_of_new r.0 r.1) (row_of_owner key x o) r.2 o.entry in
          let tables = same_table o.number o.table o.at same o.of_table o.numbered_is in
          let here : under was key ≡ Some x = ap (λ r. under (local_entries s n t r) key) (ap rows same ∙ o.stands) ∙ (λ i. under (local_entries s (tables.0 i) (tables.1 i) (Some o.row)) key) ∙ o.entry in
          cc

  at_key : (key : List ℕ) → table_of s group key ≡ None → AtKey rows now was becomes key
  at_key key none = by (under was key) (under becomes key) refl refl
    where
      turning : base key ≡ under was key → now key ≡ under becomes key
      turning h = written_at (turned was becomes) base (row_under was) key h ∙ local_turns s n t (rows at) new key

      by : (o p : Option Row) → under was key ≡ o → under becomes key ≡ p → AtKey rows now was becomes key
      by (Some v) p e f =
          let r = entry_of (rows at) key v e in
          let stands = kept.have key v none (record { number = n; table = t; at = at; row = r.0; of_table = of_number; numbered_is = is; stands = r.1; entry = r.2 }) in
          turns (λ a b. let q : None ≡ Some v = sym a ∙ e in cc) (turning (base_at key none ∙ stands ∙ sym e))
      by None (Some w) e f = turns (λ a b. let q : None ≡ Some w = sym b ∙ f in cc) (turning (base_at key none ∙ free key none e w f ∙ sym e))
      by None None e f = leaves e f (turned_leaves was becomes base key e f ∙ base_at key none)

  now_fit : (k : List ℕ) (m : ℕ) (u : Table) (row : Row) → table_of s group k ≡ Some m → numbered s.tables m ≡ Some u → now k ≡ Some row → Standing s m u k row
  now_fit k m u row h g e = elim (same_or_not at k) [
    | inl same ↦
        let tables = same_table m u k same h g in
        let row_is : new ≡ Some row = sym (ap (λ b. cond b new (rows k)) (ap (same_key at) (sym same) ∙ same_self at)) ∙ sym (row_now k m h) ∙ e in
        coe 0 1 (i. Standing s (tables.0 i) (tables.1 i) (same i) row) (fits row row_is)
    | inr apart ↦ kept.fit k m u row h g (sym (ap (λ b. cond b new (rows k)) apart) ∙ sym (row_now k m h) ∙ e)
  ]

  now_have : (key : List ℕ) (stored : Row) → table_of s group key ≡ None → Owner s group now key stored → now key ≡ Some stored
  now_have key stored none o = elim (same_or_not at o.at) [ inl same ↦ here same (at_key key none) | inr apart ↦ there apart (at_key key none) ]
    where
      here : at ≡ o.at → AtKey rows now was becomes key → now key ≡ Some stored
      here same a =
          let tables = same_table o.number o.table o.at same o.of_table o.numbered_is in
          let row_is : new ≡ Some o.row = sym (ap (λ b. cond b new (rows o.at)) (ap (same_key at) (sym same) ∙ same_self at)) ∙ sym (row_now o.at o.number o.of_table) ∙ o.stands in
          let entry : under becomes key ≡ Some stored = ap (λ r. under (local_entries s n t r) key) row_is ∙ (λ i. under (local_entries s (tables.0 i) (tables.1 i) (Some o.row)) key) ∙ o.entry in
          by a entry
        where
          by : AtKey rows now was becomes key → under becomes key ≡ Some stored → now key ≡ Some stored
          by (turns some e) entry = e ∙ entry
          by (leaves e f g) entry = cc

      there : same_key at o.at ≡ false → AtKey rows now was becomes key → now key ≡ Some stored
      there apart a = by a
        where
          old : Owner s group rows key stored
          old = record {
            number = o.number;
            table = o.table;
            at = o.at;
            row = o.row;
            of_table = o.of_table;
            numbered_is = o.numbered_is;
            stands = sym (ap (λ b. cond b new (rows o.at)) apart) ∙ sym (row_now o.at o.number o.of_table) ∙ o.stands;
            entry = o.entry;
          }

          none_old : (p : Option Row) → under was key ≡ p → under was key ≡ None
          none_old None e = e
          none_old (Some v) e =
              let r = entry_of (rows at) key v e in
              absurd (key_apart at o.at apart (entry_once s group n o.number t o.table at o.at r.0 o.row key v stored most (row_of_old r.0 r.1) (row_of_owner key stored old) r.2 o.entry))

          none_new : (p : Option Row) → under becomes key ≡ p → under becomes key ≡ None
          none_new None e = e
          none_new (Some v) e =
              let r = entry_of new key v e in
              absurd (key_apart at o.at apart (entry_once s group n o.number t o.table at o.at r.0 o.row key v stored most (row_of_new r.0 r.1) (row_of_owner key stored old) r.2 o.entry))

          by : AtKey rows now was becomes key → now key ≡ Some stored
          by (turns some e) = absurd (some (none_old (under was key) refl) (none_new (under becomes key) refl))
          by (leaves e f g) = g ∙ kept.have key stored none old

  now_only : (key : List ℕ) (stored : Row) → table_of s group key ≡ None → now key ≡ Some stored → Owner s group now key stored
  now_only key stored none h = by (at_key key none)
    where
      by : AtKey rows now was becomes key → Owner s group now key stored
      by (turns some e) =
          let r = entry_of new key stored (sym e ∙ h) in
          record {
            number = n;
            table = t;
            at = at;
            row = r.0;
            of_table = of_number;
            numbered_is = is;
            stands = row_now at n of_number ∙ ap (λ b. cond b new (rows at)) (same_self at) ∙ r.1;
            entry = r.2;
          }
      by (leaves e f g) =
          let o = kept.only key stored none (sym g ∙ h) in
          let apart = not_key at o.at (λ same.
          let tables = same_table o.number o.table o.at same o.of_table o.numbered_is in
          let here : under was key ≡ Some stored = ap (λ r. under (local_entries s n t r) key) (ap rows same ∙ o.stands) ∙ (λ i. under (local_entries s (tables.0 i) (tables.1 i) (Some o.row)) key) ∙ o.entry in
          cc) in
          record {
            number = o.number;
            table = o.table;
            at = o.at;
            row = o.row;
            of_table = o.of_table;
            numbered_is = o.numbered_is;
            stands = row_now o.at o.number o.of_table ∙ ap (λ b. cond b new (rows o.at)) apart ∙ o.stands;
            entry = o.entry;
          }

  now_kept : IndexExact s group now
  now_kept = record { fit = now_fit; have = now_have; only = now_only }

  -- a row is replaced along with its local index writes
  pub replaced_kept : IndexExact s group (written (record { key = at; row = new } ∷ index_writes s n (rows at) new) rows)
  replaced_kept = subst (λ o. IndexExact s group (written (index_writes_in s n o (rows at) new) base)) (sym is) now_kept
