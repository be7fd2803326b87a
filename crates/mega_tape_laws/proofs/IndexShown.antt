-- Where the rows of a list are kept, its index rows are those of the local indexes over the rows of the group's tables.
use Rattle.std.proofs.Common.{◌≡◌, ◌⊎◌, inl, inr, ℕ, ◌+◌, cond, Bool, true, false, ◌||◌, if◌then◌else◌, List, [], ◌∷◌, ◌++◌, drop, slice_get, filter, is_some, refl, sym, ap, ◌∙◌, subst, arith, Option, Some, None}
use Rattle.mega_base.specs.declared.names.GroupId.{GroupId}
use Rattle.mega_base.specs.declared.values.Value.{Value}
use Rattle.mega_base.specs.declared.values.Kind.{Kind}
use Rattle.mega_base.specs.declared.values.Row.{Row}
use Rattle.mega_schema.specs.declared.schema.Table.{Table}
use Rattle.mega_schema.specs.declared.schema.Index.{Index}
use Rattle.mega_schema.specs.declared.schema.Schema.{Schema}
use Rattle.mega_schema.specs.Lookup.{is_root_table}
use Rattle.mega_schema.specs.Shaping.{root_kinds, space_of, shape_of}
use Rattle.mega_keys.specs.Spelling.{spell_all, scattered, scatter_of, root_part, rest_part, row_bytes}
use Rattle.mega_keys.specs.Fit.{key_kinds}
use Rattle.mega_index.specs.Rows.{Listed, row_under}
use Rattle.mega_index.specs.Cells.{key_values, row_with}
use Rattle.mega_index.specs.Fits.{numbered, entry_keys, indexes_of, group_bytes_of, stands_in}
use Rattle.mega_index.specs.Entries.{local_in, local_entries}
use Rattle.mega_index.specs.Fitted.{table_of}
use Rattle.mega_promises.specs.of_rules.Acting.{table_rows}
use Rattle.mega_tape_laws.specs.Places.{In}
use Rattle.mega_tape_laws.specs.Indexed.{IsDeclared, IsIndexed, local_index_rows}
use Rattle.mega_index.proofs.Ordered.{Ascends}
use Rattle.mega_index.proofs.KeyLists.{under}
use Rattle.mega_tape_laws.proofs.Placed.{There, in_under, under_in}
use Rattle.mega_tape_laws.proofs.Spelled.{AreOf, same_kinds, values_split}
use Rattle.mega_tape_laws.proofs.RowKeys.{Standing, standing, stands, OfTable, of_table, Spelt, key_spelt, of_front, group_is, behind_one}
use Rattle.mega_tape_laws.proofs.IndexKeys.{in_filter, entry_key, entry_behind}
use Rattle.mega_tape_laws.proofs.IndexEntries.{InLocal, local_there, InIndexes, indexes_from, indexes_there}
use Rattle.mega_tape_laws.proofs.IndexKept.{RowOf, key_of_table, entry_in, IndexExact}

-- ---- a row key has one table

-- the root of a table
record Root (s : Schema) (t : Table) : Type 0 where
  root : Table
  numbered_is : numbered s.tables t.root ≡ Some root
  is_root : is_root_table root ≡ true
  scatter_is : t.scatter ≡ root.scatter

root_of : (s : Schema) → IsDeclared s → (n : ℕ) (t : Table) → numbered s.tables n ≡ Some t → Root s t
root_of s d n t is = by (is_root_table t) refl
  where
    by : (b : Bool) → is_root_table t ≡ b → Root s t
    by true root = record { root = t; numbered_is = ap (numbered s.tables) ((d.roots) n t is root) ∙ is; is_root = root; scatter_is = refl }
    by false child = let r = (d.others) n t is child in record { root = r.0; numbered_is = r.1; is_root = r.2; scatter_is = r.3 }

-- rows of two tables whose keys begin alike have one root, unless the tables are one
abbrev SameRoot : ℕ → ℕ → Table → Table → Type 0
SameRoot m n u t = (m ≡ n) ⊎ ((u.root ≡ t.root) × (u.scatter ≡ t.scatter))

spaces_same : (s : Schema) → IsDeclared s → (m n : ℕ) (u t : Table) → numbered s.tables m ≡ Some u → numbered s.tables n ≡ Some t → space_of m u ≡ space_of n t → SameRoot m n u t
spaces_same s d m n u t a b same = by (is_root_table u) u.inside (is_root_table t) t.inside refl refl same
  where
    x : Root s u
    x = root_of s d m u a

    y : Root s t
    y = root_of s d n t b

    shared : u.root ≡ t.root → SameRoot m n u t
    shared h =
        let root : x.root ≡ y.root = (let e : Some x.root ≡ Some y.root = sym x.numbered_is ∙ ap (numbered s.tables) h ∙ y.numbered_is in cc) in
        inr (h, x.scatter_is ∙ ap (λ (z : Table). z.scatter) root ∙ sym y.scatter_is)

    -- the root's number is that of no child
    no_child : u.root ≡ n → is_root_table t ≡ false → SameRoot m n u t
    no_child h child =
        let root : x.root ≡ t = (let e : Some x.root ≡ Some t = sym x.numbered_is ∙ ap (numbered s.tables) h ∙ b in cc) in
        let yes : is_root_table t ≡ true = sym (ap is_root_table root) ∙ x.is_root in
        cc

    child_no : m ≡ t.root → is_root_table u ≡ false → SameRoot m n u t
    child_no h child =
        let root : y.root ≡ u = (let e : Some y.root ≡ Some u = sym y.numbered_is ∙ ap (numbered s.tables) (sym h) ∙ a in cc) in
        let yes : is_root_table u ≡ true = sym (ap is_root_table root) ∙ y.is_root in
        cc

    by : (p i q j : Bool) → is_root_table u ≡ p → is_root_table t ≡ q → (if p || i then u.root else m) ≡ (if q || j then t.root else n) → SameRoot m n u t
    by true i true j e f h = shared h
    by true i false true e f h = shared h
    by true i false false e f h = no_child h f
    by false true true j e f h = shared h
    by false true false true e f h = shared h
    by false true false false e f h = no_child h f
    by false false true j e f h = child_no h e
    by false false false true e f h = child_no h e
    by false false false false e f h = inl h

heads_split : (scatter : Bool) (ks : List Kind) (vs ws : List Value) (xs ys : List ℕ) → AreOf ks vs → AreOf ks ws → (scatter_of scatter vs ++ spell_all vs) ++ xs ≡ (scatter_of scatter ws ++ spell_all ws) ++ ys → xs ≡ ys
unfolding scattered
heads_split true ks vs ws xs ys h g e = (values_split vs ws xs ys (same_kinds ks vs ws h g) (ap (drop 2) e)).1
heads_split false ks vs ws xs ys h g e = (values_split vs ws xs ys (same_kinds ks vs ws h g) e).1

-- two tables in which a row stands under one key are one
one_table : (s : Schema) → IsDeclared s → (m n : ℕ) (u t : Table) (key : List ℕ) (row : Row) → numbered s.tables m ≡ Some u → numbered s.tables n ≡ Some t → Standing s m u key row → Standing s n t key row → m ≡ n
one_table s d m n u t key row a b st sd =
    elim (spaces_same s d m n u t a b space) [ inl same ↦ same | inr both ↦ rooted both.0 both.1 ]
  where
    vs : List Value
    vs = key_values u.primary row

    ws : List Value
    ws = key_values t.primary row

    one : Spelt (key_kinds (shape_of s m u)) vs (row_bytes (shape_of s m u) vs) key
    one = key_spelt (shape_of s m u) vs key st.own

    other : Spelt (key_kinds (shape_of s n t)) ws (row_bytes (shape_of s n t) ws) key
    other = key_spelt (shape_of s n t) ws key sd.own

    space : space_of m u ≡ space_of n t
    space = let e = sym one.is ∙ other.is in cc

    rooted : u.root ≡ t.root → u.scatter ≡ t.scatter → m ≡ n
    rooted root scatter =
        let p = root_part (shape_of s m u) vs in
        let q = root_part (shape_of s n t) ws in
        let of_p = of_front (root_kinds (numbered s.tables u.root)) _ vs one.kinds in
        let of_q = of_front (root_kinds (numbered s.tables t.root)) _ ws other.kinds in
        let e = ap (drop 1) (sym one.is ∙ other.is) in
        let behind : m ∷ spell_all (rest_part (shape_of s m u) vs) ≡ n ∷ spell_all (rest_part (shape_of s n t) ws) =
        heads_split u.scatter (root_kinds (numbered s.tables u.root)) p q (m ∷ spell_all (rest_part (shape_of s m u) vs)) (n ∷ spell_all (rest_part (shape_of s n t) ws)) of_p
        (subst (λ r. AreOf (root_kinds (numbered s.tables r)) q) (sym root) of_q)
        (e ∙ ap (λ b. (scatter_of b q ++ spell_all q) ++ n ∷ spell_all (rest_part (shape_of s n t) ws)) (sym scatter)) in
        cc

-- ---- the entries of the rows of a list

filter_in : {X : Type 0} (test : X → Bool) (xs : List X) (x : X) → In x xs → test x ≡ true → In x (filter test xs)
filter_in test [] x i h = absurd i
filter_in test (y ∷ xs) x (inl same) h = subst (λ b. In x (cond b (y ∷ filter test xs) (filter test xs))) (sym (ap test same ∙ h)) (inl same)
filter_in test (y ∷ xs) x (inr i) h = elim (test y) as (λ b. In x (cond b (y ∷ filter test xs) (filter test xs))) [ true ↦ inr (filter_in test xs x i h) | false ↦ filter_in test xs x i h ]

some_table : (o : Option ℕ) → is_some o ≡ true → (n : ℕ) × (o ≡ Some n)
some_table None h = cc
some_table (Some n) h = (n, refl)

module _ (s : Schema) (d : IsDeclared s) (group : GroupId) (listed : Listed) (up : Ascends listed) (kept : IndexExact s group.key (row_under listed)) where
  abbrev rows : Listed
  rows = table_rows s group listed

  -- what an index has under a key that is no row key stands there
  shown : (key : List ℕ) (w : Row) → table_of s group.key key ≡ None → under (local_index_rows s 1 (indexes_of s) rows) key ≡ Some w → row_under listed key ≡ Some w
  shown key w none h = stands_there
    where
      r : InIndexes s 1 (indexes_of s) rows key w
      r = indexes_from s 1 (indexes_of s) rows key w h

      x : Index
      x = r.index

      at : List ℕ
      at = (r.one).0

      row : Row
      row = (r.one).1

      there : In r.one listed × (is_some (table_of s group.key at) ≡ true)
      there = in_filter (λ (one : List ℕ × Row). is_some (table_of s group.key one.0)) listed r.one r.there

      number : (n : ℕ) × (table_of s group.key at ≡ Some n)
      number = some_table (table_of s group.key at) there.1

      in_list : row_under listed at ≡ Some row
      in_list = in_under listed r.one up there.0

      table : OfTable s group.key at number.0
      table = of_table s group.key at number.0 d.most number.1

      fit : Standing s number.0 table.table at row
      fit = kept.fit at number.0 table.table row number.1 table.numbered_is in_list

      number_is : number.0 ≡ x.table
      number_is = one_table s d number.0 x.table table.table r.table at row table.numbered_is r.numbered_is fit (standing s x.table r.table at row r.stands)

      row_of : RowOf s group.key x.table r.table at row
      row_of = record { of_table = number.1 ∙ ap Some number_is; numbered_is = r.numbered_is; standing = standing s x.table r.table at row r.stands }

      group_of_row : group_bytes_of s x.table r.table row ≡ group.key
      group_of_row = group_is s x.table r.table group.key at row row_of.standing (key_of_table s group.key at x.table r.table d.most row_of.of_table r.numbered_is)

      entry : There (local_entries s x.table r.table (Some row)) key
      entry =
          subst (λ b. There (if b then local_in 1 (indexes_of s) x.table (group_bytes_of s x.table r.table row) (key_values (r.table).primary row) row [] else []) key) (sym (row_of.standing).fits)
          (local_there 1 (indexes_of s) x.table (group_bytes_of s x.table r.table row) (key_values (r.table).primary row) row [] key r.place x r.at refl r.local r.has_key)

      own : InLocal 1 (indexes_of s) x.table group.key (key_values (r.table).primary row) row key entry.0
      own = entry_in s group.key x.table r.table at row key entry.0 d.most row_of entry.1

      places : 127 + (1 + r.place) ≡ 127 + (1 + own.place)
      places = behind_one group.key key (127 + (1 + r.place)) (127 + (1 + own.place))
          (entry_behind (1 + r.place) x group.key (key_values (r.table).primary row) row key
          (entry_key (1 + r.place) x group.key (key_values (r.table).primary row) row key r.local
          (subst (λ g. In key (entry_keys (1 + r.place) x g (key_values (r.table).primary row) row)) group_of_row r.has_key)))
          (entry_behind (1 + own.place) own.index group.key (key_values (r.table).primary row) row key (entry_key (1 + own.place) own.index group.key (key_values (r.table).primary row) row key own.local own.has_key))

      index_is : own.index ≡ x
      index_is =
          let place : own.place ≡ r.place = omega (arith, places) in
          let e : Some own.index ≡ Some x = sym own.there ∙ ap (slice_get (indexes_of s)) place ∙ r.at in
          cc

      value_is : entry.0 ≡ w
      value_is = own.stored_is ∙ ap (λ (z : Index). row_with z.storing row) index_is ∙ sym r.stored_is

      stands_there : row_under listed key ≡ Some w
      stands_there =
          kept.have key entry.0 none (record { number = x.table; table = r.table; at = at; row = row; of_table = row_of.of_table; numbered_is = r.numbered_is; stands = in_list; entry = entry.1 })
          ∙ ap Some value_is

  -- what stands under a key that is no row key is what an index has there
  kept_there : (key : List ℕ) (w : Row) → table_of s group.key key ≡ None → row_under listed key ≡ Some w → There (local_index_rows s 1 (indexes_of s) rows) key
  kept_there key w none h =
      let o = kept.only key w none h in
      let fit = kept.fit o.at o.number o.table o.row o.of_table o.numbered_is o.stands in
      let row_of : RowOf s group.key o.number o.table o.at o.row = record { of_table = o.of_table; numbered_is = o.numbered_is; standing = fit } in
      let e = entry_in s group.key o.number o.table o.at o.row key w d.most row_of o.entry in
      let group_of_row = group_is s o.number o.table group.key o.at o.row fit (key_of_table s group.key o.at o.number o.table d.most o.of_table o.numbered_is) in
      let there = filter_in (λ (one : List ℕ × Row). is_some (table_of s group.key one.0)) listed (o.at, o.row) (under_in listed o.at o.row o.stands) (ap is_some o.of_table) in
      let table : numbered s.tables (e.index).table ≡ Some o.table = ap (numbered s.tables) e.table_is ∙ o.numbered_is in
      indexes_there s 1 (indexes_of s) rows key e.place e.index o.table (o.at, o.row) e.there e.local table there
      (subst (λ n. stands_in s n (Some o.table) o.at o.row ≡ true) (sym e.table_is) (stands s o.number o.table o.at o.row fit))
      (coe 0 1 (i. In key (entry_keys (1 + e.place) e.index ((sym group_of_row ∙ ap (λ n. group_bytes_of s n o.table o.row) (sym e.table_is)) i) (key_values (o.table).primary o.row) o.row)) e.has_key)

  pub is_indexed : IsIndexed s group listed
  is_indexed key none = by (row_under listed key) (under (local_index_rows s 1 (indexes_of s) rows) key) refl refl
    where
      by : (o p : Option Row) → row_under listed key ≡ o → under (local_index_rows s 1 (indexes_of s) rows) key ≡ p → row_under listed key ≡ under (local_index_rows s 1 (indexes_of s) rows) key
      by None None e f = e ∙ sym f
      by o (Some w) e f = shown key w none f ∙ sym f
      by (Some v) None e f = let there = kept_there key v none e in let q = sym f ∙ there.1 in cc
