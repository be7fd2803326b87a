-- No key that is read as a row key of a table is that of an index entry.
use Rattle.std.proofs.Common.{◌≡◌, inl, inr, ℕ, ◌+◌, Bool, true, false, ◌||◌, if◌then◌else◌, List, [], ◌∷◌, ◌++◌, drop, refl, sym, ap, ◌∙◌, arith, Option, Some, None, Result, Ok, Err, is_ok, is_none}
use Rattle.std.proofs.lemmas.Bool.{and_parts}
use Rattle.mega_base.specs.declared.values.Value.{Value}
use Rattle.mega_base.specs.declared.values.Row.{Row}
use Rattle.mega_schema.specs.declared.schema.Table.{Table}
use Rattle.mega_schema.specs.declared.schema.Schema.{Schema}
use Rattle.mega_schema.specs.Lookup.{is_root_table}
use Rattle.mega_schema.specs.Shaping.{root_kinds, shape_of, table_at}
use Rattle.mega_keys.specs.declared.fault.KeyFault.{KeyFault}
use Rattle.mega_keys.specs.Spelling.{spell_all, scatter_of, root_part, group_bytes}
use Rattle.mega_keys.specs.Reading.{root_at}
use Rattle.mega_index.specs.Cells.{key_values}
use Rattle.mega_index.specs.Fits.{numbered, key_of, group_bytes_of, properties_fit, has_place, long_key, indexes_of, row_fits}
use Rattle.mega_index.specs.Entries.{local_in, local_entries}
use Rattle.mega_run_laws.specs.of_tape_laws.Indexed.{IsDeclared}
use Rattle.mega_index.proofs.KeyLists.{under}
use Rattle.mega_run_laws.proofs.of_tape_laws.Spelled.{AreOf}
use Rattle.mega_run_laws.proofs.of_tape_laws.RowKeys.{IsKeyOf, key_spelt, of_front, group_of_key, of_ok, root_reread}
use Rattle.mega_run_laws.proofs.of_tape_laws.IndexKeys.{entry_key}
use Rattle.mega_run_laws.proofs.of_tape_laws.IndexKept.{table_least}
use Rattle.mega_run_laws.proofs.of_tape_laws.IndexEntries.{InLocal, local_from}
use Rattle.mega_run_laws.proofs.of_tape_laws.RootKeys.{root_of, same_first}
use Rattle.mega_row_laws.proofs.Reading.{ReadParts, differ, neither, one_numbered, read_parts}

-- ---- the key of an index entry

-- the group's bytes, and behind them a byte that is no table's number
record EntryFront (s : Schema) (t : Table) (key : List ℕ) : Type 0 where
  place : ℕ
  values : List Value
  kinds : AreOf (root_kinds (table_at s.tables t.root)) values
  rest : List ℕ
  is : key ≡ t.root ∷ ((scatter_of t.scatter values ++ spell_all values) ++ (127 + (1 + place)) ∷ rest)

entry_front : (s : Schema) (n : ℕ) (t : Table) (row : Row) (key : List ℕ) (w : Row) → under (local_entries s n t (Some row)) key ≡ Some w → EntryFront s t key
entry_front s n t row key w h = by (row_fits s n t row) refl h
  where
    values : List Value
    values = key_values t.primary row

    root : List Value
    root = root_part (shape_of s n t) values

    none : {A : Type 0} {x : A} → None ≡ Some x → ⊥
    none e = cc

    spelled : (r : Result (List ℕ) KeyFault) → key_of s n t values ≡ r → is_ok r ≡ true → (k : List ℕ) × (key_of s n t values ≡ Ok k)
    spelled (Ok k) e g = (k, e)
    spelled (Err fault) e g = cc

    found : (k : List ℕ) → key_of s n t values ≡ Ok k → InLocal 1 (indexes_of s) n (group_bytes_of s n t row) values row key w → EntryFront s t key
    found k own e =
        let group : group_bytes_of s n t row ≡ group_bytes (shape_of s n t) root = ap of_ok (group_of_key s n t values k own) in
        let x = entry_key (1 + e.place) e.index (group_bytes_of s n t row) values row key e.local e.has_key in
        let behind = spell_all x.choice ++ spell_all values in
        record {
          place = e.place;
          values = root;
          kinds = of_front (shape_of s n t).root_kinds (shape_of s n t).rest_kinds values (key_spelt (shape_of s n t) values k own).kinds;
          rest = behind;
          is = x.is ∙ ap (λ g. g ++ (127 + (1 + e.place)) ∷ behind) group;
        }

    by : (b : Bool) → row_fits s n t row ≡ b → under (if b then local_in 1 (indexes_of s) n (group_bytes_of s n t row) values row [] else []) key ≡ Some w → EntryFront s t key
    by false e g = absurd (none g)
    by true e g =
        let own = spelled (key_of s n t values) refl (and_parts (properties_fit t row) (is_ok (key_of s n t values)) (and_parts (has_place s n t row) (is_none (long_key s n t row)) e).0).1 in
        elim (local_from 1 (indexes_of s) n (group_bytes_of s n t row) values row [] key w g) [ inl f ↦ found own.0 own.1 f | inr f ↦ absurd (none f) ]

-- ---- a key that is read

-- is no such key
no_front : (s : Schema) → IsDeclared s → (n m : ℕ) (t u : Table) (group key : List ℕ) → numbered s.tables n ≡ Some t → numbered s.tables m ≡ Some u → IsKeyOf s m u group key → EntryFront s t key → ⊥
no_front s d n m t u group key at there of e = by (is_root_table u || u.inside) refl
  where
    byte : ℕ
    byte = 127 + (1 + e.place)

    bytes : List ℕ
    bytes = scatter_of t.scatter e.values ++ spell_all e.values

    parts : ReadParts (shape_of s m u) key group
    parts = read_parts (shape_of s m u) key group of.values of.read of.group_is

    whole : t.root ∷ (bytes ++ byte ∷ e.rest) ≡ (if is_root_table u || u.inside then u.root else m) ∷ parts.head
    whole = sym e.is ∙ parts.first_is

    first : t.root ≡ (if is_root_table u || u.inside then u.root else m)
    first = same_first _ _ _ _ whole

    rooted : t.root ≡ u.root → ⊥
    rooted same =
        let a = root_of s d n t at in
        let b = root_of s d m u there in
        let scatters : t.scatter ≡ u.scatter = a.scatter_is ∙ ap (λ (x : Table). x.scatter) (one_numbered s t.root u.root a.root b.root a.numbered_is b.numbered_is same) ∙ sym b.scatter_is in
        let read : root_at t.scatter (root_kinds (table_at s.tables t.root)) (bytes ++ byte ∷ e.rest) ≡ Ok (parts.root, parts.left) =
        (λ i. root_at (scatters i) (root_kinds (table_at s.tables (same i))) (ap (drop 1) whole i)) ∙ parts.root_is in
        let again = root_reread t.scatter (root_kinds (table_at s.tables t.root)) e.values parts.root (byte ∷ e.rest) parts.left e.kinds read in
        let number : byte ≡ m = same_first byte m _ _ (sym again.left_is ∙ parts.table_is) in
        let least = table_least s m u d.most there in
        absurd (omega (arith, number, least))

    by : (b : Bool) → (is_root_table u || u.inside) ≡ b → ⊥
    by true x = rooted (first ∙ ap (λ c. if c then u.root else m) x)
    by false x =
        let a = root_of s d n t at in
        let same : t.root ≡ m = first ∙ ap (λ c. if c then u.root else m) x in
        differ (sym (neither (is_root_table u) u.inside x) ∙ ap is_root_table (sym (one_numbered s t.root m a.root u a.numbered_is there same)) ∙ a.is_root)

pub read_no_entry : (s : Schema) → IsDeclared s → (n m : ℕ) (t u : Table) (group key : List ℕ) → numbered s.tables n ≡ Some t → numbered s.tables m ≡ Some u → IsKeyOf s m u group key
    → (o : Option Row) → under (local_entries s n t o) key ≡ None
read_no_entry s d n m t u group key at there of None = refl
read_no_entry s d n m t u group key at there of (Some row) = by (under (local_entries s n t (Some row)) key) refl
  where
    by : (o : Option Row) → under (local_entries s n t (Some row)) key ≡ o → under (local_entries s n t (Some row)) key ≡ None
    by None e = e
    by (Some w) e = absurd (no_front s d n m t u group key at there of (entry_front s n t row key w e))
