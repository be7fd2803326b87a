-- Scans of the ranges of a group's tables, one after another, find the rows of its tables.
use Rattle.std.proofs.Common.{◌≡◌, ◌⊎◌, inl, inr, ⊎_elim, ℕ, zero, suc, ◌+◌, ◌≤◌, ◌<◌, cond, Bool, true, false, ◌&&◌, List, [], ◌∷◌, length, take, refl, sym, ap, ◌∙◌, subst, arith, Some}
use Rattle.std.specs.Prelude.{slice_get}
use Rattle.mega_base.specs.declared.values.Row.{Row}
use Rattle.mega_disk.specs.VersionMaps.{HasRow, IsScan, IsWithin, Versions}
use Rattle.mega_schema.specs.declared.schema.Table.{Table}
use Rattle.mega_schema.specs.declared.schema.Schema.{Schema}
use Rattle.mega_index.specs.Rows.{Listed, Rows, same_key}
use Rattle.mega_index.specs.Fitted.{is_key_of, table_of}
use Rattle.mega_outcome.specs.declared.answer.Shown.{Shown}
use Rattle.mega_outcome.specs.Answers.{rows_at}
use Rattle.mega_index.proofs.KeyLists.{key_is, same_self}
use Rattle.mega_view.specs.Keys.{AreBytes, IsNamed}
use Rattle.mega_view.specs.TableRows.{AreTableRows}
use Rattle.mega_view.specs.Scanning.{AreThrough, Found, HaveByteKeys, with_row, with_rows}
use Rattle.mega_view.proofs.Numbers.{less_or_same}
use Rattle.mega_view.proofs.RowKeys.{named_key, table_found, table_is}

abbrev row_of : ℕ → Row → Shown
row_of n row = record { table = n; row = row }

bytes_of : (rows : Listed) (key : List ℕ) (row : Row) → HaveByteKeys rows → HasRow rows key row → AreBytes key
bytes_of [] key row bytes has = absurd has
bytes_of (e ∷ rows) key row bytes has = ⊎_elim (λ here. subst AreBytes here.0 bytes.0) (bytes_of rows key row bytes.1) has

-- a key of a scan
abbrev Among : Listed → List ℕ → Type 0
Among [] key = ⊥
Among (e ∷ rows) key = (e.0 ≡ key) ⊎ Among rows key

among_bytes : (rows : Listed) (key : List ℕ) → HaveByteKeys rows → Among rows key → AreBytes key
among_bytes [] key bytes has = absurd has
among_bytes (e ∷ rows) key bytes has = ⊎_elim (λ here. subst AreBytes here bytes.0) (among_bytes rows key bytes.1) has

some_is : {A : Type 0} (a b : A) → Some a ≡ Some b → a ≡ b
some_is a b h = cc

module _ (s : Schema) (n : ℕ) (t : Table) (group : List ℕ) where
  -- a row that is found was found before, or is one of the scan
  comes : (rows : Listed) (found : Found) (key : List ℕ) (one : Shown) → with_rows s n t group found rows key ≡ Some one
      → (found key ≡ Some one) ⊎ (HasRow rows key one.row × (is_key_of s n t group key ≡ true) × (one.table ≡ n))
  comes [] found key one h = inl h
  comes (e ∷ rows) found key one h = ⊎_elim
      (by (is_key_of s n t group e.0) refl (same_key e.0 key) refl)
      (λ later. inr (inr later.0, later.1, later.2))
      (comes rows (with_row s n t group found e) key one h)
    where
      by : (a : Bool) → is_key_of s n t group e.0 ≡ a → (b : Bool) → same_key e.0 key ≡ b → cond (a && b) (Some (row_of n e.1)) (found key) ≡ Some one
          → (found key ≡ Some one) ⊎ (HasRow (e ∷ rows) key one.row × (is_key_of s n t group key ≡ true) × (one.table ≡ n))
      by true is true same g =
          let whole = some_is (row_of n e.1) one g in
          let here = key_is e.0 key same in
          inr (inl (here, ap (λ (o : Shown). o.row) whole), ap (is_key_of s n t group) (sym here) ∙ is, ap (λ (o : Shown). o.table) (sym whole))
      by true is false same g = inl g
      by false is b same g = inl g

  -- a row of the scan is found
  finds : (rows : Listed) (found : Found) (key : List ℕ) (row : Row) → is_key_of s n t group key ≡ true → ((other : Row) → HasRow rows key other → other ≡ row)
      → HasRow rows key row ⊎ (found key ≡ Some (row_of n row)) → with_rows s n t group found rows key ≡ Some (row_of n row)
  finds [] found key row is each h = ⊎_elim (λ has. absurd has) (λ there. there) h
  finds (e ∷ rows) found key row is each h =
      finds rows (with_row s n t group found e) key row is (λ other has. each other (inr has)) (⊎_elim (λ has. ⊎_elim here (λ later. inl later) has) (λ there. inr (kept there)) h)
    where
      here : (e.0 ≡ key) × (e.1 ≡ row) → HasRow rows key row ⊎ (with_row s n t group found e key ≡ Some (row_of n row))
      here at =
          inr ((λ i. cond (is_key_of s n t group (at.0 i) && same_key (at.0 i) key) (Some (row_of n (at.1 i))) (found key))
          ∙ ap (λ (b : Bool). cond (b && same_key key key) (Some (row_of n row)) (found key)) is
          ∙ ap (λ (b : Bool). cond b (Some (row_of n row)) (found key)) (same_self key))

      by : (a b : Bool) → same_key e.0 key ≡ b → found key ≡ Some (row_of n row) → cond (a && b) (Some (row_of n e.1)) (found key) ≡ Some (row_of n row)
      by true true same there = ap (λ (r : Row). Some (row_of n r)) (each e.1 (inl (key_is e.0 key same, refl)))
      by true false same there = there
      by false b same there = there

      kept : found key ≡ Some (row_of n row) → with_row s n t group found e key ≡ Some (row_of n row)
      kept there = by (is_key_of s n t group e.0) (same_key e.0 key) refl there

  -- what was found stays, or the key is one of the table, and of the scan
  stays : (rows : Listed) (found : Found) (key : List ℕ) → (with_rows s n t group found rows key ≡ found key) ⊎ (Among rows key × (is_key_of s n t group key ≡ true))
  stays [] found key = inl refl
  stays (e ∷ rows) found key = ⊎_elim
      (λ same. ⊎_elim (λ kept. inl (same ∙ kept)) (λ at. inr at) (by (is_key_of s n t group e.0) refl (same_key e.0 key) refl))
      (λ later. inr (inr later.0, later.1))
      (stays rows (with_row s n t group found e) key)
    where
      by : (a : Bool) → is_key_of s n t group e.0 ≡ a → (b : Bool) → same_key e.0 key ≡ b
          → (cond (a && b) (Some (row_of n e.1)) (found key) ≡ found key) ⊎ (Among (e ∷ rows) key × (is_key_of s n t group key ≡ true))
      by true is true same = let here = key_is e.0 key same in inr (inl here, ap (is_key_of s n t group) (sym here) ∙ is)
      by true is false same = inl refl
      by false is b same = inl refl

-- the table with this number
table_here : (s : Schema) (group key : List ℕ) (count m : ℕ) (t : Table) → slice_get (take 64 s.tables) count ≡ Some t → m ≡ 1 + count → table_of s group key ≡ Some m → is_key_of s (1 + count) t group key ≡ true
table_here s group key count m t there same of =
    let found = table_found s 1 (take 64 s.tables) group key m of in
    let place : found.place ≡ count = omega (arith, same, found.number) in
    let table : found.table ≡ t = some_is found.table t (sym found.there ∙ ap (slice_get (take 64 s.tables)) place ∙ there) in
    (λ i. is_key_of s (sym same i) (sym table i) group key) ∙ found.is

-- a table whose range was scanned
pub scanned : (s : Schema) (group : List ℕ) (version : Versions) (p count : ℕ) (t : Table) (from to : List ℕ) (rows : Listed) (found : Found)
    → slice_get (take 64 s.tables) count ≡ Some t → ((key : List ℕ) → IsNamed s group (1 + count) key → IsWithin from to key)
    → IsScan version from to p rows → HaveByteKeys rows → AreThrough s group (rows_at version p) count found
    → AreThrough s group (rows_at version p) (1 + count) (with_rows s (1 + count) t group found rows)
scanned s group version p count t from to rows found there within scan bytes through = record {
  each = λ key one h. ⊎_elim
      (through.each key one)
      (λ new.
      let fits = bytes_of rows key one.row bytes new.0 in
      let of : table_of s group key ≡ Some one.table = table_is s group key count t fits there new.1 ∙ ap Some (sym new.2) in
      (named_key s group key one.table fits of, of, (scan.each key one.row new.0).1))
      (comes s (1 + count) t group rows found key one h);
  all = λ key m row named of le at. ⊎_elim
      (λ less. older key m row named of less at)
      (λ same. newer key m row named of same at)
      (less_or_same count m le);
}
  where
    newer : (key : List ℕ) (m : ℕ) (row : Row) → IsNamed s group m key → table_of s group key ≡ Some m → m ≡ 1 + count → rows_at version p key ≡ Some row
        → with_rows s (1 + count) t group found rows key ≡ Some (row_of m row)
    newer key m row named of same at =
        finds s (1 + count) t group rows found key row (table_here s group key count m t there same of) (λ other has. some_is other row (sym (scan.each key other has).1 ∙ at))
        (inl (scan.all key row (within key (subst (λ (k : ℕ). IsNamed s group k key) same named)) at))
        ∙ ap (λ (k : ℕ). Some (row_of k row)) (sym same)

    older : (key : List ℕ) (m : ℕ) (row : Row) → IsNamed s group m key → table_of s group key ≡ Some m → m ≤ count → rows_at version p key ≡ Some row
        → with_rows s (1 + count) t group found rows key ≡ Some (row_of m row)
    older key m row named of less at = ⊎_elim
        (λ kept. kept ∙ through.all key m row named of less at)
        (λ new. absurd (let one : m ≡ 1 + count = some_is m (1 + count) (sym of ∙ table_is s group key count t (among_bytes rows key bytes new.0) there new.1) in omega (arith, one, less)))
        (stays s (1 + count) t group rows found key)

-- a table of another root has no rows in the group
pub skipped : (s : Schema) (group : List ℕ) (rows : Rows) (count : ℕ) (found : Found)
    → ((key : List ℕ) → IsNamed s group (1 + count) key → ⊥)
    → AreThrough s group rows count found → AreThrough s group rows (1 + count) found
skipped s group rows count found none through = record {
  each = through.each;
  all = λ key m row named of le at. ⊎_elim
      (λ less. through.all key m row named of less at)
      (λ same. absurd (none key (subst (λ (k : ℕ). IsNamed s group k key) same named)))
      (less_or_same count m le);
}

place_within : (ts : List Table) (i : ℕ) (t : Table) → slice_get ts i ≡ Some t → i < length ts
place_within [] i t h = absurd (cc)
place_within (u ∷ ts) zero t h = omega arith
place_within (u ∷ ts) (suc i) t h = let more = place_within ts i t h in omega (arith, more)

-- of all tables all is found
pub all_found : (s : Schema) (group : List ℕ) (rows : Rows) (found : Found) (count : ℕ) → length (take 64 s.tables) ≤ count → AreThrough s group rows count found → AreTableRows s group rows found
all_found s group rows found count le through = record {
  each = through.each;
  all = λ key m row named of at.
      let in_table = table_found s 1 (take 64 s.tables) group key m of in
      let within = place_within (take 64 s.tables) in_table.place in_table.table in_table.there in
      through.all key m row named of (omega (arith, le, within, in_table.number)) at;
}
