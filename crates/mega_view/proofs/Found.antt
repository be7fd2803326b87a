-- What an index has over a group's own rows of its table is what it has over a list that shows the group's tables.
use Rattle.std.proofs.Common.{◌≡◌, ◌⊎◌, inl, inr, ⊎_elim, ℕ, zero, suc, ◌+◌, ◌≤◌, ◌<◌, cond, eqb, Bool, true, false, ◌&&◌, List, [], ◌∷◌, length, refl, sym, ap, ◌∙◌, subst, arith, Option, Some, None, Result, Ok, Err}
use Rattle.std.specs.Prelude.{filter, fold, slice_get, ◌-◌}
use Rattle.std.proofs.lemmas.Bool.Decides.{nat_tests}
use Rattle.mega_base.specs.declared.names.GroupId.{GroupId}
use Rattle.mega_base.specs.declared.values.Row.{Row}
use Rattle.mega_base.specs.declared.values.Value.{Value}
use Rattle.mega_disk.specs.VersionMaps.{HasAscendingKeys, HasRow, IsScan, IsWithin, Versions}
use Rattle.mega_schema.specs.declared.schema.Index.{Index}
use Rattle.mega_schema.specs.declared.schema.Schema.{Schema}
use Rattle.mega_schema.specs.declared.schema.Table.{Table}
use Rattle.mega_keys.specs.declared.fault.KeyFault.{KeyFault}
use Rattle.mega_keys.specs.Fit.{misplaced}
use Rattle.mega_index.specs.declared.found.Found.{Found}
use Rattle.mega_index.specs.Cells.{key_values}
use Rattle.mega_index.specs.Entries.{index_of, with_row, with_row_under}
use Rattle.mega_index.specs.Finding.{begun_by, found_by, found_over, front_of, indexed_kinds, unless_misplaced}
use Rattle.mega_index.specs.Fits.{group_of, key_of, numbered, row_fits, stands_in}
use Rattle.mega_index.specs.Rows.{Listed, Rows, row_under, same_key}
use Rattle.mega_index.proofs.Ordered.{Ascends, Below}
use Rattle.mega_outcome.specs.Answers.{rows_at}
use Rattle.mega_outcome.specs.Places.{key_in, key_in_table, placed, spelled}
use Rattle.mega_outcome.specs.declared.answer.Turn.{Turn}
use Rattle.mega_outcome.specs.declared.answer.Turn.TheVariants.{OtherGroup}
use Rattle.mega_view.specs.Keys.{IsNamed}
use Rattle.mega_view.specs.OwnRows.{AreOwnRows, is_of}
use Rattle.mega_view.specs.Scanning.{is_it}
use Rattle.mega_view.specs.Shows.{Shows}
use Rattle.mega_index.proofs.KeyLists.{key_is, same_self}
use Rattle.mega_replica.proofs.RowLists.{Covers, ascends, ascending, has_row, row_is, same_rows}
use Rattle.mega_view.proofs.Listed.{ascends_filter}

abbrev Test : Type 0
Test = List ℕ × Row → Bool

-- ---- rows of a list that pass a test

pub in_test : (test : Test) (es : Listed) (key : List ℕ) (row : Row) → test (key, row) ≡ true → HasRow es key row → HasRow (filter test es) key row
in_test test [] key row passes has = absurd has
in_test test (e ∷ es) key row passes has = by (test e) refl (in_test test es key row passes) has
  where
    by : (b : Bool) → test e ≡ b → (HasRow es key row → HasRow (filter test es) key row) → HasRow (e ∷ es) key row → HasRow (cond b (e ∷ filter test es) (filter test es)) key row
    by true is more has = ⊎_elim (λ here. inl here) (λ later. inr (more later)) has
    by false is more has = ⊎_elim (λ here. absurd (let both : true ≡ false = sym passes ∙ (λ i. test (sym here.0 i, sym here.1 i)) ∙ is in cc)) more has

pub of_test : (test : Test) (es : Listed) (key : List ℕ) (row : Row) → HasRow (filter test es) key row → (test (key, row) ≡ true) × HasRow es key row
of_test test [] key row has = absurd has
of_test test (e ∷ es) key row has = by (λ found. let more = of_test test es key row found in (more.0, inr more.1)) (test e) refl has
  where
    by : (HasRow (filter test es) key row → (test (key, row) ≡ true) × HasRow (e ∷ es) key row)
        → (b : Bool) → test e ≡ b → HasRow (cond b (e ∷ filter test es) (filter test es)) key row → (test (key, row) ≡ true) × HasRow (e ∷ es) key row
    by later true is found = ⊎_elim (λ here. ((λ i. test (sym here.0 i, sym here.1 i)) ∙ is, inl here)) later found
    by later false is found = later found

-- ---- a row that stands in a table, and whose key values spell a group

abbrev is_own : List ℕ → Result (List ℕ) KeyFault → Bool
is_own key (Ok own) = same_key key own
is_own key (Err fault) = false

both : (a b : Bool) → (a && b) ≡ true → a ≡ true
both true b h = refl
both false b h = absurd (cc)

own_key : (key : List ℕ) (own : Result (List ℕ) KeyFault) → is_own key own ≡ true → own ≡ Ok key
own_key key (Ok own) h = ap Ok (sym (key_is key own h))
own_key key (Err fault) h = absurd (cc)

pub stands_key : (s : Schema) (n : ℕ) (t : Table) (key : List ℕ) (row : Row) → stands_in s n (Some t) key row ≡ true → key_of s n t (key_values t.primary row) ≡ Ok key
stands_key s n t key row h = own_key key (key_of s n t (key_values t.primary row)) (both (is_own key (key_of s n t (key_values t.primary row))) (row_fits s n t row) h)

it_is : (group : List ℕ) (own : Result (List ℕ) KeyFault) → is_it group own ≡ true → own ≡ Ok group
it_is group (Ok own) h = ap Ok (key_is own group h)
it_is group (Err fault) h = absurd (cc)

pub key_named : (s : Schema) (n : ℕ) (t : Table) (group key : List ℕ) (values : List Value) → numbered s.tables n ≡ Some t → group_of s n t values ≡ Ok group → key_of s n t values ≡ Ok key
    → key_in s group 0 n values ≡ Ok key
key_named s n t group key values there of is =
    ap (λ (o : Option Table). key_in_table s group 0 n o values) there
    ∙ ap (λ (g : Result (List ℕ) KeyFault). placed 0 group g (key_of s n t values)) of
    ∙ ap (λ (b : Bool). cond b (spelled 0 (key_of s n t values)) (Err (OtherGroup 0))) (same_self group)
    ∙ ap (spelled 0) is

-- ---- entries come from rows that stand in the index's table alone

module _ (s : Schema) (number : ℕ) (x : Index) (t : Table) where
  abbrev stands : Test
  stands e = stands_in s x.table (Some t) e.0 e.1

  abbrev adds : List (List ℕ × Found) → List ℕ × Row → List (List ℕ × Found)
  adds entries one = with_row_under s number x (Some t) entries one

  of_standing : (rows : Listed) (entries : List (List ℕ × Found)) → fold adds entries rows ≡ fold adds entries (filter stands rows)
  of_standing [] entries = refl
  of_standing (e ∷ rows) entries = by (of_standing rows) (stands e) refl
    where
      by : ((all : List (List ℕ × Found)) → fold adds all rows ≡ fold adds all (filter stands rows)) → (b : Bool) → stands e ≡ b
          → fold adds (cond b (with_row s number x t entries e.1) entries) rows ≡ fold adds entries (cond b (e ∷ filter stands rows) (filter stands rows))
      by more true is = more (with_row s number x t entries e.1) ∙ ap (λ (b : Bool). fold adds (cond b (with_row s number x t entries e.1) entries) (filter stands rows)) (sym is)
      by more false is = more entries

  pub index_standing : numbered s.tables x.table ≡ Some t → (a b : Listed) → filter stands a ≡ filter stands b → index_of s number x a ≡ index_of s number x b
  index_standing there a b same =
      ap (λ (o : Option Table). fold (λ entries one. with_row_under s number x o entries one) [] a) there
      ∙ of_standing a [] ∙ ap (fold adds []) same ∙ sym (of_standing b [])
      ∙ ap (λ (o : Option Table). fold (λ entries one. with_row_under s number x o entries one) [] b) (sym there)

-- an index over a table that is none has no entries
no_entries : (s : Schema) (number : ℕ) (x : Index) (rows : Listed) (entries : List (List ℕ × Found)) → fold (λ entries one. with_row_under s number x None entries one) entries rows ≡ entries
no_entries s number x [] entries = refl
no_entries s number x (e ∷ rows) entries = no_entries s number x rows entries

-- ---- a group's own rows, and a list that shows its tables

module _ (s : Schema) (group : GroupId) (looked : Rows) (listed own : Listed) (n : ℕ) (t : Table) (there : numbered s.tables n ≡ Some t)
    (shows : Shows s group looked listed) (owns : AreOwnRows s n t group.key looked own) where
  abbrev test : Test
  test e = stands_in s n (Some t) e.0 e.1

  up_listed : Ascends listed
  up_listed = ascends listed shows.ordered

  is_named : (key : List ℕ) (row : Row) → group_of s n t (key_values t.primary row) ≡ Ok group.key → test (key, row) ≡ true → IsNamed s group.key n key
  is_named key row of stand = (key_values t.primary row, key_named s n t group.key key (key_values t.primary row) there of (stands_key s n t key row stand))

  into : Covers (filter test own) (filter test listed)
  into key row has =
      let found = of_test test own key row has in
      let told = owns.each key row found.1 in
      let named = is_named key row (it_is group.key (group_of s n t (key_values t.primary row)) told.1) found.0 in
      in_test test listed key row found.0 (has_row listed key row (sym (shows.under key n named) ∙ told.0))

  back : Covers (filter test listed) (filter test own)
  back key row has =
      let found = of_test test listed key row has in
      let of = shows.own key row n t found.1 there found.0 in
      let named = is_named key row of found.0 in
      in_test test own key row found.0
      (owns.all key row named (ap (is_it group.key) of ∙ same_self group.key) (shows.under key n named ∙ row_is listed key row up_listed found.1))

  pub same_standing : filter test own ≡ filter test listed
  same_standing = same_rows (filter test own) (filter test listed) (ascends_filter test own (ascends own owns.ordered)) (ascends_filter test listed up_listed) into back

pub same_found : (s : Schema) (group : GroupId) (looked : Rows) (listed own : Listed) (number : ℕ) (x : Index) (values : List Value) → numbered s.indexes number ≡ Some x
    → Shows s group looked listed → ((t : Table) → numbered s.tables x.table ≡ Some t → AreOwnRows s x.table t group.key looked own)
    → found_over s number group.key values own ≡ found_over s number group.key values listed
same_found s group looked listed own number x values is shows owns =
    ap (λ (o : Option Index). found_by s number o group.key values own) is
    ∙ entries_found (by (numbered s.tables x.table) refl)
    ∙ ap (λ (o : Option Index). found_by s number o group.key values listed) (sym is)
  where
    entries_found : index_of s number x own ≡ index_of s number x listed → found_by s number (Some x) group.key values own ≡ found_by s number (Some x) group.key values listed
    entries_found same = ap (λ (entries : List (List ℕ × Found)). unless_misplaced (misplaced (indexed_kinds s x) values 0) (begun_by (front_of number x group.key values) entries)) same

    by : (o : Option Table) → numbered s.tables x.table ≡ o → index_of s number x own ≡ index_of s number x listed
    by (Some t) there = index_standing s number x t there own listed (same_standing s group looked listed own x.table t there shows (owns t there))
    by None none =
        ap (λ (o : Option Table). fold (λ entries one. with_row_under s number x o entries one) [] own) none
        ∙ no_entries s number x own [] ∙ sym (no_entries s number x listed [])
        ∙ ap (λ (o : Option Table). fold (λ entries one. with_row_under s number x o entries one) [] listed) (sym none)

-- a list of at most 64 has no greater place
past_place : {A : Type 0} (xs : List A) (i : ℕ) → length xs ≤ i → slice_get xs i ≡ None
past_place [] i le = refl
past_place (x ∷ xs) zero le = absurd (omega (arith, le))
past_place (x ∷ xs) (suc i) le = past_place xs i (omega (arith, le))

pub past : {A : Type 0} (xs : List A) (n : ℕ) → length xs ≤ 64 → 64 < n → numbered xs n ≡ None
past xs n few more =
    ap (λ (b : Bool). cond b None (slice_get xs (n - 1))) (not_zero n more) ∙ past_place xs (n - 1) (omega (arith, few, more))
  where
    not_zero : (n : ℕ) → 64 < n → eqb n 0 ≡ false
    not_zero n more = grind (arith, nat_tests)

-- ---- a scan of a table's range, and those of its rows whose key values spell the group

pub own_scanned : (s : Schema) (n : ℕ) (t : Table) (group : List ℕ) (version : Versions) (p : ℕ) (from to : List ℕ) (rows : Listed)
    → ((key : List ℕ) → IsNamed s group n key → IsWithin from to key) → IsScan version from to p rows
    → AreOwnRows s n t group (rows_at version p) (filter (λ (e : List ℕ × Row). is_of s n t group e.1) rows)
own_scanned s n t group version p from to rows within scan = record {
  ordered = ascending (filter test rows) (ascends_filter test rows (ascends rows scan.ordered));
  each = λ key row has. let found = of_test test rows key row has in ((scan.each key row found.1).1, found.0);
  all = λ key row named of at. in_test test rows key row of (scan.all key row (within key named) at);
}
  where
    test : Test
    test e = is_of s n t group e.1

-- of a group of another root there are none
pub none_own : (s : Schema) (n : ℕ) (t : Table) (group : List ℕ) (rows : Rows) → ((key : List ℕ) → IsNamed s group n key → ⊥) → AreOwnRows s n t group rows []
none_own s n t group rows none = record {
  ordered = tt;
  each = λ key row has. absurd has;
  all = λ key row named of at. absurd (none key named);
}

pub none_some : {A : Type 0} (x : A) → None ≡ Some x → ⊥
none_some x is = cc

pub some_same : {A : Type 0} (x y : A) → Some x ≡ Some y → x ≡ y
some_same x y is = cc
