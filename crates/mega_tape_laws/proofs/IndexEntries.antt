-- What stands under a key among the index entries of a row, and in the indexes over rows.
use Rattle.std.proofs.Common.{◌≡◌, ◌⊎◌, inl, inr, ℕ, zero, suc, ◌+◌, cond, eqb, Bool, true, false, ◌&&◌, ◌==◌, not, if◌then◌else◌, List, [], ◌∷◌, map, fold, slice_get, refl, sym, ap, ◌∙◌, subst, arith, eqb-true, Option, Some, None}
use Rattle.std.proofs.lemmas.Bool.Decides.{nat_tests}
use Rattle.mega_base.specs.declared.values.Value.{Value}
use Rattle.mega_base.specs.declared.values.Row.{Row}
use Rattle.mega_schema.specs.declared.schema.Table.{Table}
use Rattle.mega_schema.specs.declared.schema.Index.{Index}
use Rattle.mega_schema.specs.declared.schema.Schema.{Schema}
use Rattle.mega_index.specs.declared.found.Found.{Found}
use Rattle.mega_index.specs.Rows.{Listed, same_key}
use Rattle.mega_index.specs.Cells.{key_values, row_with}
use Rattle.mega_index.specs.Fits.{numbered, entry_keys, group_bytes_of, stands_in}
use Rattle.mega_index.specs.Entries.{placed, found_of, with_row, with_row_under, index_of, with_local, local_in}
use Rattle.mega_tape_laws.specs.Places.{In}
use Rattle.mega_tape_laws.specs.Indexed.{stored_row, entry_rows, local_index_rows}
use Rattle.mega_index.proofs.KeyLists.{under}
use Rattle.mega_tape_laws.proofs.Placed.{There, placed_from, placed_keeps, placed_there, append_from, append_front, append_back}

-- ---- the entries of a row in the local indexes of its table

-- a key is that of an entry of a row in one of these indexes, which stands there with what the index stores
pub record InLocal (number : ℕ) (xs : List Index) (n : ℕ) (group : List ℕ) (values : List Value) (row : Row) (key : List ℕ) (stored : Row) : Type 0 where
  pub place : ℕ
  pub index : Index
  pub there : slice_get xs place ≡ Some index
  pub table_is : index.table ≡ n
  pub local : index.global ≡ false
  pub has_key : In key (entry_keys (number + place) index group values row)
  pub stored_is : stored ≡ row_with index.storing row

local_table : (x : Index) (n : ℕ) → (x.table == n) && not x.global ≡ true → (x.table ≡ n) × (x.global ≡ false)
local_table x n h = by (x.table == n) x.global refl refl h
  where
    by : (b g : Bool) → (x.table == n) ≡ b → x.global ≡ g → b && not g ≡ true → (x.table ≡ n) × (x.global ≡ false)
    by true true is global k = cc
    by true false is global k = (eqb-true x.table n is, global)
    by false g is global k = cc

table_local : (x : Index) (n : ℕ) → x.table ≡ n → x.global ≡ false → (x.table == n) && not x.global ≡ true
table_local x n is local =
    let same : eqb x.table n ≡ true = grind (arith, nat_tests) in
    ap (λ b. b && not x.global) same ∙ ap not local

first_place : {number : ℕ} → number + 0 ≡ number
first_place = omega arith

next_place : (number place : ℕ) → (number + 1) + place ≡ number + suc place
next_place number place = omega arith

pub local_from : (number : ℕ) (xs : List Index) (n : ℕ) (group : List ℕ) (values : List Value) (row : Row) (es : Listed) (key : List ℕ) (w : Row)
    → under (local_in number xs n group values row es) key ≡ Some w → InLocal number xs n group values row key w ⊎ (under es key ≡ Some w)
local_from number [] n group values row es key w h = inr h
local_from number (x ∷ xs) n group values row es key w h = by (local_from (number + 1) xs n group values row (with_local number x n group values row es) key w h)
  where
    here : (b : Bool) → ((x.table == n) && not x.global) ≡ b → under (if b then placed es (row_with x.storing row) (entry_keys number x group values row) else es) key ≡ Some w
        → InLocal number (x ∷ xs) n group values row key w ⊎ (under es key ≡ Some w)
    here true is g = elim (placed_from (entry_keys number x group values row) es (row_with x.storing row) w key g) [
      | inl found ↦ inl (record {
        place = 0;
        index = x;
        there = refl;
        table_is = (local_table x n is).0;
        local = (local_table x n is).1;
        has_key = subst (λ m. In key (entry_keys m x group values row)) (sym first_place) found.0;
        stored_is = found.1;
      })
      | inr before ↦ inr before
    ]
    here false is g = inr g

    by : InLocal (number + 1) xs n group values row key w ⊎ (under (with_local number x n group values row es) key ≡ Some w) → InLocal number (x ∷ xs) n group values row key w ⊎ (under es key ≡ Some w)
    by (inl r) = inl (record {
      place = suc r.place;
      index = r.index;
      there = r.there;
      table_is = r.table_is;
      local = r.local;
      has_key = subst (λ m. In key (entry_keys m r.index group values row)) (next_place number r.place) r.has_key;
      stored_is = r.stored_is;
    })
    by (inr g) = here ((x.table == n) && not x.global) refl g

with_local_keeps : (number : ℕ) (x : Index) (n : ℕ) (group : List ℕ) (values : List Value) (row : Row) (es : Listed) (key : List ℕ) → There es key → There (with_local number x n group values row es) key
with_local_keeps number x n group values row es key there =
    elim ((x.table == n) && not x.global) as (λ b. There (if b then placed es (row_with x.storing row) (entry_keys number x group values row) else es) key)
    [ true ↦ placed_keeps (entry_keys number x group values row) es (row_with x.storing row) key there | false ↦ there ]

local_keeps : (number : ℕ) (xs : List Index) (n : ℕ) (group : List ℕ) (values : List Value) (row : Row) (es : Listed) (key : List ℕ) → There es key → There (local_in number xs n group values row es) key
local_keeps number [] n group values row es key there = there
local_keeps number (x ∷ xs) n group values row es key there =
    local_keeps (number + 1) xs n group values row (with_local number x n group values row es) key (with_local_keeps number x n group values row es key there)

pub local_there : (number : ℕ) (xs : List Index) (n : ℕ) (group : List ℕ) (values : List Value) (row : Row) (es : Listed) (key : List ℕ) (place : ℕ) (x : Index)
    → slice_get xs place ≡ Some x → x.table ≡ n → x.global ≡ false → In key (entry_keys (number + place) x group values row) → There (local_in number xs n group values row es) key
local_there number [] n group values row es key place x at table_is local has_key = cc
local_there number (y ∷ xs) n group values row es key zero x at table_is local has_key =
    let same : y ≡ x = cc in
    local_keeps (number + 1) xs n group values row (with_local number y n group values row es) key
    (subst (λ z. There (with_local number z n group values row es) key) (sym same)
    (subst (λ b. There (if b then placed es (row_with x.storing row) (entry_keys number x group values row) else es) key) (sym (table_local x n table_is local))
    (placed_there (entry_keys number x group values row) es (row_with x.storing row) key (subst (λ m. In key (entry_keys m x group values row)) first_place has_key))))
local_there number (y ∷ xs) n group values row es key (suc place) x at table_is local has_key =
    local_there (number + 1) xs n group values row (with_local number y n group values row es) key place x at table_is local
    (subst (λ m. In key (entry_keys m x group values row)) (sym (next_place number place)) has_key)

-- ---- an index over rows

-- a key is that of an entry of one of the rows, which stands and fits
pub record InIndex (s : Schema) (number : ℕ) (x : Index) (rows : Listed) (key : List ℕ) (found : Found) : Type 0 where
  pub table : Table
  pub numbered_is : numbered s.tables x.table ≡ Some table
  pub one : List ℕ × Row
  pub there : In one rows
  pub stands : stands_in s x.table (Some table) one.0 one.1 ≡ true
  pub has_key : In key (entry_keys number x (group_bytes_of s x.table table one.1) (key_values table.primary one.1) one.1)
  pub found_is : found ≡ found_of x table one.1

over_from : (s : Schema) (number : ℕ) (x : Index) (o : Option Table) → numbered s.tables x.table ≡ o → (rows : Listed) (es : List (List ℕ × Found)) (key : List ℕ) (f : Found)
    → under (fold (λ entries one. with_row_under s number x o entries one) es rows) key ≡ Some f → InIndex s number x rows key f ⊎ (under es key ≡ Some f)
over_from s number x o is [] es key f h = inr h
over_from s number x None is (one ∷ rows) es key f h = by (over_from s number x None is rows es key f h)
  where
    by : InIndex s number x rows key f ⊎ (under es key ≡ Some f) → InIndex s number x (one ∷ rows) key f ⊎ (under es key ≡ Some f)
    by (inl r) = inl (record { table = r.table; numbered_is = r.numbered_is; one = r.one; there = inr r.there; stands = r.stands; has_key = r.has_key; found_is = r.found_is })
    by (inr g) = inr g
over_from s number x (Some t) is (one ∷ rows) es key f h = by (over_from s number x (Some t) is rows (with_row_under s number x (Some t) es one) key f h)
  where
    here : (b : Bool) → stands_in s x.table (Some t) one.0 one.1 ≡ b → under (if b then with_row s number x t es one.1 else es) key ≡ Some f → InIndex s number x (one ∷ rows) key f ⊎ (under es key ≡ Some f)
    here true st g = elim (placed_from (entry_keys number x (group_bytes_of s x.table t one.1) (key_values t.primary one.1) one.1) es (found_of x t one.1) f key g) [
      | inl found ↦ inl (record { table = t; numbered_is = is; one = one; there = inl refl; stands = st; has_key = found.0; found_is = found.1 })
      | inr before ↦ inr before
    ]
    here false st g = inr g

    by : InIndex s number x rows key f ⊎ (under (with_row_under s number x (Some t) es one) key ≡ Some f) → InIndex s number x (one ∷ rows) key f ⊎ (under es key ≡ Some f)
    by (inl r) = inl (record { table = r.table; numbered_is = r.numbered_is; one = r.one; there = inr r.there; stands = r.stands; has_key = r.has_key; found_is = r.found_is })
    by (inr g) = here (stands_in s x.table (Some t) one.0 one.1) refl g

none_there : {A : Type 0} {x : A} → None ≡ Some x → ⊥
none_there h = cc

index_from : (s : Schema) (number : ℕ) (x : Index) (rows : Listed) (key : List ℕ) (f : Found) → under (index_of s number x rows) key ≡ Some f → InIndex s number x rows key f
index_from s number x rows key f h = elim (over_from s number x (numbered s.tables x.table) refl rows [] key f h) [ inl r ↦ r | inr none ↦ absurd (none_there none) ]

over_keeps : (s : Schema) (number : ℕ) (x : Index) (o : Option Table) (rows : Listed) (es : List (List ℕ × Found)) (key : List ℕ) → There es key
    → There (fold (λ entries one. with_row_under s number x o entries one) es rows) key
over_keeps s number x o [] es key there = there
over_keeps s number x None (one ∷ rows) es key there = over_keeps s number x None rows es key there
over_keeps s number x (Some t) (one ∷ rows) es key there =
    over_keeps s number x (Some t) rows (with_row_under s number x (Some t) es one) key
    (elim (stands_in s x.table (Some t) one.0 one.1) as (λ b. There (if b then with_row s number x t es one.1 else es) key)
    [ true ↦ placed_keeps (entry_keys number x (group_bytes_of s x.table t one.1) (key_values t.primary one.1) one.1) es (found_of x t one.1) key there | false ↦ there ])

over_there : (s : Schema) (number : ℕ) (x : Index) (t : Table) (rows : Listed) (es : List (List ℕ × Found)) (key : List ℕ) (one : List ℕ × Row) → In one rows
    → stands_in s x.table (Some t) one.0 one.1 ≡ true → In key (entry_keys number x (group_bytes_of s x.table t one.1) (key_values t.primary one.1) one.1)
    → There (fold (λ entries one. with_row_under s number x (Some t) entries one) es rows) key
over_there s number x t [] es key one i st has_key = absurd i
over_there s number x t (first ∷ rows) es key one (inr i) st has_key = over_there s number x t rows (with_row_under s number x (Some t) es first) key one i st has_key
over_there s number x t (first ∷ rows) es key one (inl same) st has_key =
    over_keeps s number x (Some t) rows (with_row_under s number x (Some t) es first) key
    (subst (λ e. There (with_row_under s number x (Some t) es e) key) (sym same)
    (subst (λ b. There (if b then with_row s number x t es one.1 else es) key) (sym st)
    (placed_there (entry_keys number x (group_bytes_of s x.table t one.1) (key_values t.primary one.1) one.1) es (found_of x t one.1) key has_key)))

index_there : (s : Schema) (number : ℕ) (x : Index) (t : Table) (rows : Listed) (key : List ℕ) (one : List ℕ × Row) → numbered s.tables x.table ≡ Some t → In one rows
    → stands_in s x.table (Some t) one.0 one.1 ≡ true → In key (entry_keys number x (group_bytes_of s x.table t one.1) (key_values t.primary one.1) one.1) → There (index_of s number x rows) key
index_there s number x t rows key one is i st has_key =
    subst (λ o. There (fold (λ entries one. with_row_under s number x o entries one) [] rows) key) (sym is) (over_there s number x t rows [] key one i st has_key)

-- ---- all local indexes over rows

stored_from : (es : List (List ℕ × Found)) (key : List ℕ) (w : Row) → under (map stored_row es) key ≡ Some w → (f : Found) × (under es key ≡ Some f) × (w ≡ f.stored)
stored_from [] key w h = cc
stored_from (e ∷ es) key w h = by (same_key key e.0) (stored_from es key w) h
  where
    by : (b : Bool) → (under (map stored_row es) key ≡ Some w → (f : Found) × (under es key ≡ Some f) × (w ≡ f.stored)) → cond b (Some (e.1).stored) (under (map stored_row es) key) ≡ Some w
        → (f : Found) × (cond b (Some e.1) (under es key) ≡ Some f) × (w ≡ f.stored)
    by true more g = (e.1, refl, (let same : (e.1).stored ≡ w = cc in sym same))
    by false more g = more g

stored_there : (es : List (List ℕ × Found)) (key : List ℕ) → There es key → There (map stored_row es) key
stored_there [] key there = absurd (none_there there.1)
stored_there (e ∷ es) key there = by (same_key key e.0) (stored_there es key) there.1
  where
    by : (b : Bool) → (There es key → There (map stored_row es) key) → cond b (Some e.1) (under es key) ≡ Some there.0 → (value : Row) × (cond b (Some (e.1).stored) (under (map stored_row es) key) ≡ Some value)
    by true more g = ((e.1).stored, refl)
    by false more g = more (there.0, g)

-- a key is that of an entry of a row in one of these indexes, a local one
pub record InIndexes (s : Schema) (number : ℕ) (xs : List Index) (rows : Listed) (key : List ℕ) (stored : Row) : Type 0 where
  pub place : ℕ
  pub index : Index
  pub at : slice_get xs place ≡ Some index
  pub local : index.global ≡ false
  pub table : Table
  pub numbered_is : numbered s.tables index.table ≡ Some table
  pub one : List ℕ × Row
  pub there : In one rows
  pub stands : stands_in s index.table (Some table) one.0 one.1 ≡ true
  pub has_key : In key (entry_keys (number + place) index (group_bytes_of s index.table table one.1) (key_values table.primary one.1) one.1)
  pub stored_is : stored ≡ row_with index.storing one.1

pub indexes_from : (s : Schema) (number : ℕ) (xs : List Index) (rows : Listed) (key : List ℕ) (w : Row) → under (local_index_rows s number xs rows) key ≡ Some w → InIndexes s number xs rows key w
indexes_from s number [] rows key w h = cc
indexes_from s number (x ∷ xs) rows key w h = by (append_from (entry_rows s number x rows) (local_index_rows s (number + 1) xs rows) key w h) (indexes_from s (number + 1) xs rows key w)
  where
    here : (g : Bool) → x.global ≡ g → under (if g then [] else map stored_row (index_of s number x rows)) key ≡ Some w → InIndexes s number (x ∷ xs) rows key w
    here true is k = cc
    here false is k =
        let f = stored_from (index_of s number x rows) key w k in
        let r = index_from s number x rows key f.0 f.1 in
        record {
          place = 0;
          index = x;
          at = refl;
          local = is;
          table = r.table;
          numbered_is = r.numbered_is;
          one = r.one;
          there = r.there;
          stands = r.stands;
          has_key = subst (λ m. In key (entry_keys m x (group_bytes_of s x.table r.table (r.one).1) (key_values (r.table).primary (r.one).1) (r.one).1)) (sym first_place) r.has_key;
          stored_is = f.2 ∙ ap (λ (y : Found). y.stored) r.found_is;
        }

    by : (under (entry_rows s number x rows) key ≡ Some w) ⊎ (under (local_index_rows s (number + 1) xs rows) key ≡ Some w)
        → (under (local_index_rows s (number + 1) xs rows) key ≡ Some w → InIndexes s (number + 1) xs rows key w) → InIndexes s number (x ∷ xs) rows key w
    by (inl k) more = here x.global refl k
    by (inr k) more =
        let r = more k in
        record {
          place = suc r.place;
          index = r.index;
          at = r.at;
          local = r.local;
          table = r.table;
          numbered_is = r.numbered_is;
          one = r.one;
          there = r.there;
          stands = r.stands;
          has_key = subst (λ m. In key (entry_keys m r.index (group_bytes_of s (r.index).table r.table (r.one).1) (key_values (r.table).primary (r.one).1) (r.one).1)) (next_place number r.place) r.has_key;
          stored_is = r.stored_is;
        }

pub indexes_there : (s : Schema) (number : ℕ) (xs : List Index) (rows : Listed) (key : List ℕ) (place : ℕ) (x : Index) (t : Table) (one : List ℕ × Row) → slice_get xs place ≡ Some x → x.global ≡ false
    → numbered s.tables x.table ≡ Some t → In one rows → stands_in s x.table (Some t) one.0 one.1 ≡ true
    → In key (entry_keys (number + place) x (group_bytes_of s x.table t one.1) (key_values t.primary one.1) one.1) → There (local_index_rows s number xs rows) key
indexes_there s number [] rows key place x t one at local is i st has_key = cc
indexes_there s number (y ∷ xs) rows key zero x t one at local is i st has_key =
    let same : y ≡ x = cc in
    append_front (entry_rows s number y rows) (local_index_rows s (number + 1) xs rows) key
    (subst (λ z. There (entry_rows s number z rows) key) (sym same)
    (subst (λ b. There (if b then [] else map stored_row (index_of s number x rows)) key) (sym local)
    (stored_there (index_of s number x rows) key
    (index_there s number x t rows key one is i st (subst (λ m. In key (entry_keys m x (group_bytes_of s x.table t one.1) (key_values t.primary one.1) one.1)) first_place has_key)))))
indexes_there s number (y ∷ xs) rows key (suc place) x t one at local is i st has_key =
    append_back (entry_rows s number y rows) (local_index_rows s (number + 1) xs rows) key
    (indexes_there s (number + 1) xs rows key place x t one at local is i st
    (subst (λ m. In key (entry_keys m x (group_bytes_of s x.table t one.1) (key_values t.primary one.1) one.1)) (sym (next_place number place)) has_key))
