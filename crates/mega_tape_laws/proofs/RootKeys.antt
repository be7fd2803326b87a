-- Row keys of any group: each is that of one table alone, and none is the key of an index entry.
use Rattle.std.proofs.Common.{◌≡◌, inl, inr, ℕ, ◌+◌, Bool, true, false, ◌||◌, if◌then◌else◌, List, [], ◌∷◌, ◌++◌, drop, refl, sym, ap, ◌∙◌, subst, arith, Option, Some, None, Result, Ok, Err, is_ok, is_none}
use Rattle.std.proofs.lemmas.Bool.{and_parts}
use Rattle.mega_base.specs.declared.values.Value.{Value}
use Rattle.mega_base.specs.declared.values.Row.{Row}
use Rattle.mega_schema.specs.declared.schema.Table.{Table}
use Rattle.mega_schema.specs.declared.schema.Schema.{Schema}
use Rattle.mega_schema.specs.Lookup.{is_root_table}
use Rattle.mega_schema.specs.Shaping.{root_kinds, shape_of, table_at}
use Rattle.mega_keys.specs.declared.fault.KeyFault.{KeyFault}
use Rattle.mega_keys.specs.Spelling.{spell_all, scattered, scatter_of, root_part, rest_part, group_bytes, row_bytes}
use Rattle.mega_index.specs.Cells.{key_values}
use Rattle.mega_index.specs.Fits.{numbered, key_of, group_bytes_of, properties_fit, has_place, long_key, indexes_of, row_fits}
use Rattle.mega_index.specs.Entries.{local_in, local_entries}
use Rattle.mega_tape_laws.specs.Indexed.{IsDeclared}
use Rattle.mega_index.proofs.KeyLists.{under}
use Rattle.mega_tape_laws.proofs.Spelled.{AreOf, SameKinds, same_kinds, values_split}
use Rattle.mega_tape_laws.proofs.RowKeys.{key_spelt, of_front, group_of_key, of_ok}
use Rattle.mega_tape_laws.proofs.IndexKeys.{entry_key}
use Rattle.mega_tape_laws.proofs.IndexKept.{table_least}
use Rattle.mega_tape_laws.proofs.IndexEntries.{InLocal, local_from}

-- ---- the root of a table

pub record RootOf (s : Schema) (t : Table) : Type 0 where
  pub root : Table
  pub numbered_is : numbered s.tables t.root ≡ Some root
  pub is_root : is_root_table root ≡ true
  pub scatter_is : t.scatter ≡ root.scatter

pub root_of : (s : Schema) → IsDeclared s → (n : ℕ) (t : Table) → numbered s.tables n ≡ Some t → RootOf s t
root_of s d n t is = by (is_root_table t) refl
  where
    by : (b : Bool) → is_root_table t ≡ b → RootOf s t
    by true e = record { root = t; numbered_is = ap (numbered s.tables) (d.roots n t is e) ∙ is; is_root = e; scatter_is = refl }
    by false e = let o = d.others n t is e in record { root = o.0; numbered_is = o.1; is_root = o.2; scatter_is = o.3 }

-- ---- what begins with the key of a root

-- the number of a root and the values of its key, and behind them this byte
record Fronted (s : Schema) (root byte : ℕ) (key : List ℕ) : Type 0 where
  table : Table
  numbered_is : numbered s.tables root ≡ Some table
  is_root : is_root_table table ≡ true
  values : List Value
  kinds : AreOf (root_kinds (Some table)) values
  rest : List ℕ
  is : key ≡ root ∷ ((scatter_of table.scatter values ++ spell_all values) ++ byte ∷ rest)

pub same_first : (x y : ℕ) (xs ys : List ℕ) → x ∷ xs ≡ y ∷ ys → x ≡ y
same_first x y xs ys h = cc

front_split : (b : Bool) (vs ws : List Value) (xs ys : List ℕ) → SameKinds vs ws → (scatter_of b vs ++ spell_all vs) ++ xs ≡ (scatter_of b ws ++ spell_all ws) ++ ys → xs ≡ ys
unfolding scattered
front_split false vs ws xs ys same h = (values_split vs ws xs ys same h).1
front_split true vs ws xs ys same h = (values_split vs ws xs ys same (ap (drop 2) h)).1

fronted_one : (s : Schema) (root b c : ℕ) (key : List ℕ) → Fronted s root b key → Fronted s root c key → b ≡ c
fronted_one s root b c key x y =
    let table : y.table ≡ x.table = (let e : Some y.table ≡ Some x.table = sym y.numbered_is ∙ x.numbered_is in cc) in
    let kinds : AreOf (root_kinds (Some x.table)) y.values = subst (λ (t : Table). AreOf (root_kinds (Some t)) y.values) table y.kinds in
    let is : key ≡ root ∷ ((scatter_of (x.table).scatter y.values ++ spell_all y.values) ++ c ∷ y.rest) =
    y.is ∙ ap (λ (t : Table). root ∷ ((scatter_of t.scatter y.values ++ spell_all y.values) ++ c ∷ y.rest)) table in
    same_first b c x.rest y.rest
    (front_split (x.table).scatter x.values y.values (b ∷ x.rest) (c ∷ y.rest) (same_kinds (root_kinds (Some x.table)) x.values y.values x.kinds kinds) (ap (drop 1) (sym x.is ∙ is)))

fronted_root : (s : Schema) (r q b c : ℕ) (key : List ℕ) → Fronted s r b key → Fronted s q c key → q ≡ r
fronted_root s r q b c key x y = same_first q r _ _ (sym y.is ∙ x.is)

-- ---- row keys

-- a row key begins with that of its table's root, or with the number of a table that is no root
data KeyFront (s : Schema) (n : ℕ) (t : Table) (key : List ℕ) : Type 0 where
  rooted : Fronted s t.root n key → KeyFront s n t key
  apart : is_root_table t ≡ false → (rest : List ℕ) → key ≡ n ∷ rest → KeyFront s n t key

key_front : (s : Schema) → IsDeclared s → (n : ℕ) (t : Table) (values : List Value) (key : List ℕ) → numbered s.tables n ≡ Some t → key_of s n t values ≡ Ok key → KeyFront s n t key
key_front s d n t values key at own = by (is_root_table t || t.inside) refl
  where
    root : List Value
    root = root_part (shape_of s n t) values

    behind : List ℕ
    behind = spell_all (rest_part (shape_of s n t) values)

    is : key ≡ row_bytes (shape_of s n t) values
    is = (key_spelt (shape_of s n t) values key own).is

    kinds : AreOf (root_kinds (table_at s.tables t.root)) root
    kinds = of_front (shape_of s n t).root_kinds (shape_of s n t).rest_kinds values (key_spelt (shape_of s n t) values key own).kinds

    neither : (a b : Bool) → a || b ≡ false → a ≡ false
    neither true b g = cc
    neither false b g = refl

    by : (b : Bool) → (is_root_table t || t.inside) ≡ b → KeyFront s n t key
    by true e =
        let r = root_of s d n t at in
        rooted (record {
          table = r.root;
          numbered_is = r.numbered_is;
          is_root = r.is_root;
          values = root;
          kinds = subst (λ o. AreOf (root_kinds o) root) r.numbered_is kinds;
          rest = behind;
          is = is ∙ ap (λ b. (if b then t.root else n) ∷ ((scatter_of t.scatter root ++ spell_all root) ++ n ∷ behind)) e
              ∙ ap (λ b. t.root ∷ ((scatter_of b root ++ spell_all root) ++ n ∷ behind)) r.scatter_is;
        })
    by false e =
        apart (neither (is_root_table t) t.inside e) ((scatter_of t.scatter root ++ spell_all root) ++ n ∷ behind)
        (is ∙ ap (λ b. (if b then t.root else n) ∷ ((scatter_of t.scatter root ++ spell_all root) ++ n ∷ behind)) e)

no_root : (s : Schema) (r byte n : ℕ) (t : Table) (key rest : List ℕ) → numbered s.tables n ≡ Some t → is_root_table t ≡ false → key ≡ n ∷ rest → Fronted s r byte key → ⊥
no_root s r byte n t key rest at child is f =
    let number : n ≡ r = same_first n r _ _ (sym is ∙ f.is) in
    let table : t ≡ f.table = (let e : Some t ≡ Some f.table = sym at ∙ ap (numbered s.tables) number ∙ f.numbered_is in cc) in
    differ (sym child ∙ ap is_root_table table ∙ f.is_root)
  where
    differ : false ≡ true → ⊥
    differ h = cc

-- a key is a row key of one table alone
pub one_table : (s : Schema) → IsDeclared s → (n m : ℕ) (t u : Table) (vs ws : List Value) (key : List ℕ) → numbered s.tables n ≡ Some t → numbered s.tables m ≡ Some u
    → key_of s n t vs ≡ Ok key → key_of s m u ws ≡ Ok key → n ≡ m
one_table s d n m t u vs ws key at there own other = by (key_front s d n t vs key at own) (key_front s d m u ws key there other)
  where
    by : KeyFront s n t key → KeyFront s m u key → n ≡ m
    by (rooted x) (rooted y) = fronted_one s t.root n m key x (subst (λ r. Fronted s r m key) (fronted_root s t.root u.root n m key x y) y)
    by (rooted x) (apart child rest is) = absurd (no_root s t.root n m u key rest there child is x)
    by (apart child rest is) (rooted y) = absurd (no_root s u.root m n t key rest at child is y)
    by (apart child rest is) (apart other more same) = same_first n m rest more (sym is ∙ same)

-- ---- the keys of index entries

-- behind the key of a root they have a byte that is no table's number
record EntryFront (s : Schema) (root : ℕ) (key : List ℕ) : Type 0 where
  place : ℕ
  fronted : Fronted s root (127 + (1 + place)) key

entry_front : (s : Schema) → IsDeclared s → (n : ℕ) (t : Table) (row : Row) (key : List ℕ) (w : Row) → numbered s.tables n ≡ Some t → under (local_entries s n t (Some row)) key ≡ Some w → EntryFront s t.root key
entry_front s d n t row key w at h = by (row_fits s n t row) refl h
  where
    values : List Value
    values = key_values t.primary row

    root : List Value
    root = root_part (shape_of s n t) values

    none : {A : Type 0} {x : A} → None ≡ Some x → ⊥
    none e = cc

    spelled : (r : Result (List ℕ) KeyFault) → key_of s n t values ≡ r → is_ok r ≡ true → (k : List ℕ) × (key_of s n t values ≡ Ok k)
    spelled (Ok k) e g = (k, e)
    spelled (Err fault) e g = cc

    found : (k : List ℕ) → key_of s n t values ≡ Ok k → InLocal 1 (indexes_of s) n (group_bytes_of s n t row) values row key w → EntryFront s t.root key
    found k own e =
        let r = root_of s d n t at in
        let group : group_bytes_of s n t row ≡ group_bytes (shape_of s n t) root = ap of_ok (group_of_key s n t values k own) in
        let x = entry_key (1 + e.place) e.index (group_bytes_of s n t row) values row key e.local e.has_key in
        let behind = spell_all x.choice ++ spell_all values in
        record {
          place = e.place;
          fronted = record {
            table = r.root;
            numbered_is = r.numbered_is;
            is_root = r.is_root;
            values = root;
            kinds = subst (λ o. AreOf (root_kinds o) root) r.numbered_is (of_front (shape_of s n t).root_kinds (shape_of s n t).rest_kinds values (key_spelt (shape_of s n t) values k own).kinds);
            rest = behind;
            is = x.is ∙ ap (λ g. g ++ (127 + (1 + e.place)) ∷ behind) group ∙ ap (λ b. t.root ∷ ((scatter_of b root ++ spell_all root) ++ (127 + (1 + e.place)) ∷ behind)) r.scatter_is;
          };
        }

    by : (b : Bool) → row_fits s n t row ≡ b → under (if b then local_in 1 (indexes_of s) n (group_bytes_of s n t row) values row [] else []) key ≡ Some w → EntryFront s t.root key
    by false e g = absurd (none g)
    by true e g =
        let own = spelled (key_of s n t values) refl (and_parts (properties_fit t row) (is_ok (key_of s n t values)) (and_parts (has_place s n t row) (is_none (long_key s n t row)) e).0).1 in
        elim (local_from 1 (indexes_of s) n (group_bytes_of s n t row) values row [] key w g) [ inl f ↦ found own.0 own.1 f | inr f ↦ absurd (none f) ]

-- no entry of a row stands under a row key
pub no_entry : (s : Schema) → IsDeclared s → (n m : ℕ) (t u : Table) (values : List Value) (key : List ℕ) → numbered s.tables n ≡ Some t → numbered s.tables m ≡ Some u → key_of s m u values ≡ Ok key
    → (o : Option Row) → under (local_entries s n t o) key ≡ None
no_entry s d n m t u values key at there own None = refl
no_entry s d n m t u values key at there own (Some row) = by (under (local_entries s n t (Some row)) key) refl
  where
    differ : (w : Row) → under (local_entries s n t (Some row)) key ≡ Some w → KeyFront s m u key → ⊥
    differ w e (rooted y) =
        let x = entry_front s d n t row key w at e in
        let byte = x.fronted in
        let least = table_least s m u d.most there in
        let same = fronted_one s t.root (127 + (1 + x.place)) m key byte (subst (λ r. Fronted s r m key) (fronted_root s t.root u.root (127 + (1 + x.place)) m key byte y) y) in
        omega (arith, least, same)
    differ w e (apart child rest is) =
        let x = entry_front s d n t row key w at e in
        no_root s t.root (127 + (1 + x.place)) m u key rest there child is x.fronted

    by : (o : Option Row) → under (local_entries s n t (Some row)) key ≡ o → under (local_entries s n t (Some row)) key ≡ None
    by None e = e
    by (Some w) e = absurd (differ w e (key_front s d m u values key there own))
