-- What a part of a line is to a node: its own transaction, and those that prepare and finish it.
use Rattle.std.proofs.Common.{◌≡◌, ℕ, ◌||◌, ◌&&◌, Bool, true, false, List, [], ◌∷◌, ◌++◌, length, drop, refl, sym, ap, ◌∙◌, subst, arith, append_assoc, append-nil, Option, Some, None, Result, Ok, Err}
use Rattle.std.specs.Prelude.{codes, nat_le, option_map, option_and_then}
use Rattle.std.specs.List.{list_all}
use Rattle.std.specs.Result.{result_ok}
use Rattle.std.proofs.lemmas.Bool.{and_parts}
use Rattle.json.specs.Json as json
use Rattle.json.specs.Print.{quoted as json_quoted}
use Rattle.serde_json.specs.Data.{Data, boolean, string, array, object, Items, no_items, item, no_members, put}
use Rattle.serde_json.specs.Read.{of_json, of_items}
use Rattle.serde_json.specs.Find.{get, get_member}
use Rattle.serde_json.specs.Written.{outline, items_outline}
use Rattle.serde_json.proofs.Views.{get_member-put, get_member-put_other}
use Rattle.mega_base.specs.declared.values.Kind.TheVariants as kinds
use Rattle.mega_base.specs.declared.values.Value.{Value}
use Rattle.mega_base.specs.declared.values.Value.TheVariants.{Str}
use Rattle.mega_base.specs.declared.values.Row.{Row}
use Rattle.mega_entry.specs.declared.content.Write.{Write}
use Rattle.mega_syntax.specs.declared.need.Need.{Need}
use Rattle.mega_syntax.specs.declared.need.Need.TheVariants.{Required, Optional, Repeated}
use Rattle.mega_keys.specs.Fit.{has_kind}
use Rattle.mega_keys.specs.Spelling.{spell, spell_all, rest_part}
use Rattle.mega_schema.specs.declared.schema.Property.{Property}
use Rattle.mega_schema.specs.declared.schema.Table.{Table}
use Rattle.mega_schema.specs.declared.schema.Schema.{Schema}
use Rattle.mega_schema.specs.Rules.{kind_at}
use Rattle.mega_schema.specs.Shaping.{shape_of, table_at, root_kinds}
use Rattle.mega_index.specs.Cells.{values_of, key_values}
use Rattle.mega_index.specs.Fits.{numbered}
use Rattle.mega_outcome.specs.declared.answer.Turn.{Turn}
use Rattle.mega_outcome.specs.declared.transaction.Check.{Check}
use Rattle.mega_outcome.specs.declared.transaction.Check.TheVariants.{Gone, Is}
use Rattle.mega_outcome.specs.declared.transaction.Change.{Change}
use Rattle.mega_outcome.specs.declared.transaction.Change.TheVariants.{Put, Delete}
use Rattle.mega_outcome.specs.declared.transaction.Transaction.{Transaction}
use Rattle.mega_outcome.specs.Places.{key_in}
use Rattle.mega_outcome.specs.Checks.{may_have, may_be, may_be_in}
use Rattle.mega_schedule.specs.declared.verdict.Verdict.TheVariants.{Fine}
use Rattle.mega_schedule.specs.Fields.{worst, value_check}
use Rattle.mega_schedule.specs.Parts.{check_check, write_check}
use Rattle.mega_schedule.specs.Values.{text_in, list_in, table_number, property_number, properties_of, primary_of, value_of, values_at, key_in as values_in, group_of}
use Rattle.mega_schedule.specs.Rows.{each_in, cells_in, named_in, check_of, write_of as change_of}
use Rattle.mega_schedule.specs.Fields.{pair_of}
use Rattle.mega_two_driver.specs.Lines.{is_name, is_letter}
use Rattle.mega_two_driver.specs.Texts.{quoted, bracketed, value_text, field_text, first_of, second_of, after_commas, before_commas, transaction_text, lock_table, end_table, held_check, holder_check, members_text as key_text, key_members, truth_text, lock_delete, end_put, own_writes, finish_writes, finish_text, own_text, end_key, deleted_texts, free_checks, prepare_checks, lock_put, prepare_text}
use Rattle.mega_two_driver.specs.Tables.{is_among, key_properties, name_property, root_number, has_tables, may_write}
use Rattle.mega_two_driver.specs.Fits.{write_under, write_of, with_write, transaction_of, transaction_fits, table_of, part_fits, own_of}
use Rattle.mega_two_outcome_laws.specs.Places.{locks, ends, place, lock_place, end_place}
use Rattle.mega_two_outcome_laws.specs.Shown.{truth_in, end_in, text_in as holder_text, holder_in}
use Rattle.mega_two_outcome_laws.specs.Requests.{asking, row, key_at, number_in, IsBare, own_changes, IsPreparing, IsFinishing}
use Rattle.mega_two_outcome_laws.specs.Changes.{deleted}
use Rattle.mega_two_outcome_laws.specs.Ready.{IsReady, AreNamedOnce, TextFits}
use Rattle.mega_two_outcome_laws.proofs.Keyed.{names_key}
use Rattle.mega_two_outcome_laws.proofs.Changing.{put_keyed}
use Rattle.mega_two_outcome_laws.proofs.Outcomes.{Fit, fit}
use Rattle.mega_two_outcome_laws.proofs.Own.{TwoParts, two_parts}
use Rattle.mega_two_outcome_laws.proofs.Trees.{text_of, AreGood}
use Rattle.mega_two_outcome_laws.proofs.Asking.{AreFine, meant, read_as}
use Rattle.mega_two_outcome_laws.proofs.Letters.{is_text, all_plain, letter_plain, plain_both, plain_quoted, plain_utf8}
use Rattle.mega_two_outcome_laws.proofs.Tabled.{HasProperty, has_property}
use Rattle.mega_two_outcome_laws.proofs.Held.{IsHeld, AreHeld, held_good, held_again, held_higher, held_get, held_items, held_first, held_behind, value_said}
use Rattle.mega_two_outcome_laws.proofs.Joined.{joined, both, after_text, before_text, joined_good, joined_read, each_both, both_plain, worst_next, worst_both}
use Rattle.mega_two_outcome_laws.proofs.PartLines.{group_data, IsPart}
use Rattle.mega_two_outcome_laws.proofs.Apart.{named, apart, apart_front, none_before}
use Rattle.mega_two_outcome_laws.proofs.Members.{AreCells, HasKeys, keyed, keys_put, keys_there, keys_last, kind_in, row_by, cell_at, key_is, put_keys}
use Rattle.mega_two_outcome_laws.proofs.Children.{count, RootIs, root_is, commit_property, Children, children, last_value, none_behind, named_front, all_behind}
use Rattle.mega_two_outcome_laws.proofs.Deleted.{deleted_trees, deleted_items, deleted_said, deleted_good, deleted_read, deleted_fine, deleted_plain, deleted_meant}
use Rattle.mega_two_outcome_laws.proofs.PartTexts.{are_higher, gone_tree, delete_tree, held_tree, put_tree, name_member, end_members, free_text, lock_text, gone_good, lock_row_good, gone_data, lock_row, gone_read, lock_read, lock_cells, gone_fine, gone_plain, held_text, delete_text, end_text, held_tree_good, delete_good, put_good, end_row_good, held_data, delete_data, put_data, end_row, held_read, delete_read, end_read, end_cells, held_fine, delete_fine, put_fine, held_plain, delete_plain, put_plain}

gather : (o d c e z : List ℕ) → (o ++ ((d ++ c) ++ e)) ++ z ≡ o ++ (d ++ (c ++ (e ++ z)))
gather o d c e z = simp append_assoc

letters : (xs : List ℕ) → is_name xs ≡ true → is_text xs ≡ true
letters xs e = all_plain is_letter letter_plain xs (and_parts (nat_le 1 (length xs) && nat_le (length xs) 64) (list_all is_letter xs) e).1

delete_keyed : (s : Schema) (group : List ℕ) (n : ℕ) (vs : List Value) (w : Write) → write_of s group (Delete (row n vs)) ≡ Some w → key_in s group 0 n vs ≡ Ok w.key
unfolding write_of
delete_keyed s group n vs w e = by (key_in s group 0 n vs) e
  where
    by : (r : Result (List ℕ) Turn) → write_under s (Delete (row n vs)) (result_ok r) ≡ Some w → r ≡ Ok w.key
    by (Ok key) g = let same : (record { key = key; row = None }) ≡ w = cc in ap (λ (x : Write). Ok x.key) same
    by (Err turn) g = absurd (cc)

commit_not_gid : codes "commit" ≡ codes "gid" → ⊥
commit_not_gid e = cc

commit_among : (key : List Property) (u : Table) → list_all (is_among u.properties) (key ++ name_property ∷ commit_property ∷ []) ≡ true → is_among u.properties commit_property ≡ true
commit_among key u e =
    let a = all_behind (is_among u.properties) key (name_property ∷ commit_property ∷ []) e in
    let b = and_parts (is_among u.properties name_property) (is_among u.properties commit_property && true) a in
    (and_parts (is_among u.properties commit_property) true b.1).0

gather_checks : (g c e a d z : List ℕ) → ((g ++ (c ++ e)) ++ (a ++ d)) ++ z ≡ g ++ (c ++ (e ++ (a ++ (d ++ z))))
gather_checks g c e a d z = simp append_assoc

one_table : (a b : Table) → Some a ≡ Some b → a ≡ b
one_table a b e = cc

module _ (s : Schema) (ready : IsReady s) (onces : AreNamedOnce s) (name : List ℕ) (called : is_name name ≡ true) (part : Data) (p : IsPart part) (held : IsHeld 125 part) (fits : part_fits s name (own_of s part) part ≡ true) where
  abbrev pub root : List ℕ
  root = (p.group).root

  abbrev pub values : Items
  values = (p.group).values

  abbrev pub cs : Items
  cs = (p.checks).items

  abbrev pub ws : Items
  ws = (p.writes).items

  abbrev pub g : Data
  g = group_data root values

  abbrev pub group : List ℕ
  group = (group_of s (Some g)).key

  pub plain : is_text name ≡ true
  plain = letters name called

  pub checks_held : IsHeld 124 (array cs)
  checks_held = held_get 124 (codes "checks") part (array cs) held (p.checks).is

  pub writes_held : IsHeld 124 (array ws)
  writes_held = held_get 124 (codes "writes") part (array ws) held (p.writes).is

  pub group_held : IsHeld 124 g
  group_held = held_get 124 (codes "group") part g held (p.group).is

  pub key_held : IsHeld 123 (array values)
  key_held =
      held_first 123 (array values) no_items (held_behind 123 (string root) (item (array values) no_items) (held_items 123 (item (string root) (item (array values) no_items)) group_held))

  pub values_held : AreHeld 122 values
  values_held = held_items 122 values key_held

  -- ---- its own transaction

  pub group_said : field_text (get (codes "group") part) ≡ text_of (outline g)
  group_said = ap field_text (p.group).is ∙ value_said 124 g group_held

  abbrev pub own : Transaction
  own = meant s (array cs) g (array ws)

  pub own_is : own_of s part ≡ own
  unfolding own_text
  own_is =
      ap (transaction_of s) (λ i. transaction_text ((ap field_text (p.checks).is ∙ value_said 124 (array cs) checks_held) i) (group_said i) ((ap field_text (p.writes).is ∙ value_said 124 (array ws) writes_held) i))
      ∙ read_as s (outline (array cs)) (outline g) (outline (array ws)) (array cs) g (array ws) (held_good 126 (array cs) (held_higher 124 126 (array cs) (omega arith) checks_held))
      (held_good 126 g (held_higher 124 126 g (omega arith) group_held)) (held_good 126 (array ws) (held_higher 124 126 (array ws) (omega arith) writes_held))
      (held_again 124 (array cs) checks_held) (held_again 124 g group_held) (held_again 124 (array ws) writes_held)
      (record { group = (p.group).fine; checks = (p.checks).fine; writes = (p.writes).fine; no_floats_c = checks_held.plain; no_floats_g = group_held.plain; no_floats_w = writes_held.plain })

  pub record FitsSo : Type 0 where
    pub has : has_tables s group ≡ true
    pub free : list_all (λ change. may_write s group (table_of change)) own.writes ≡ true
    pub made : transaction_fits s (transaction_of s (finish_text s true name part)) ≡ true

  pub fits_so : FitsSo
  unfolding part_fits
  fits_so =
      let e = subst (λ (txn : Transaction). part_fits s name txn part ≡ true) own_is fits in
      let a = and_parts (has_tables s group && list_all (λ change. may_write s group (table_of change)) own.writes) (transaction_fits s (transaction_of s (finish_text s true name part))) e in
      let b = and_parts (has_tables s group) (list_all (λ change. may_write s group (table_of change)) own.writes) a.0 in
      record { has = b.0; free = b.1; made = a.1 }

  -- ---- its tables

  pub rooted : RootIs s root values group
  rooted = root_is s ready root values fits_so.has

  abbrev pub t : Table
  t = rooted.table

  pub kids : Children s group t
  kids = children s ready onces group t rooted.there fits_so.has

  abbrev pub keys : List Property
  keys = key_properties t

  pub root_plain : is_text root ≡ true
  root_plain = ap is_text (sym rooted.root_as ∙ rooted.name_as) ∙ (rooted.ready).text

  pub lock_plain : is_text (lock_table root) ≡ true
  lock_plain = plain_both root (codes "Two") root_plain refl

  pub end_plain : is_text (end_table root) ≡ true
  end_plain = plain_both root (codes "Done") root_plain refl

  pub lock_is : table_number s (lock_table root) ≡ locks s group
  lock_is = ap (λ r. table_number s (lock_table r)) (sym rooted.root_as)

  pub end_is : table_number s (end_table root) ≡ ends s group
  end_is = ap (λ r. table_number s (end_table r)) (sym rooted.root_as)

  pub keys_said : key_members s part ≡ key_text (t.properties) (t.primary) values
  unfolding key_members
  keys_said =
      ap (λ o. key_text (properties_of (named_in s (first_of (pair_of (list_in o))))) (primary_of (named_in s (first_of (pair_of (list_in o))))) (list_in (second_of (pair_of (list_in o))))) (p.group).is
      ∙ ap (λ o. key_text (properties_of o) (primary_of o) values) (ap (numbered s.tables) (sym rooted.number_as) ∙ rooted.there)

  -- ---- the texts that finish it

  abbrev own_items : Bool → Items
  own_items true = ws
  own_items false = no_items

  own_held : (made : Bool) → AreHeld 125 (own_items made)
  own_held true = are_higher 123 125 ws (omega arith) (held_items 123 ws writes_held)
  own_held false = record { whole = tt; deep = omega arith; plain = refl }

  own_fine : (made : Bool) → worst write_check Fine (own_items made) ≡ Fine
  own_fine true = (p.writes).fine
  own_fine false = refl

  own_said : (made : Bool) → own_writes made part ≡ before_commas (own_items made)
  own_said true = ap (λ o. before_commas (list_in o)) (p.writes).is
  own_said false = refl

  own_made : (made : Bool) → each_in (change_of s) (own_items made) ≡ own_changes made own.writes
  own_made true = refl
  own_made false = refl

  abbrev gone_lock : json.Json
  gone_lock = delete_tree (lock_table root) (outline (array values))

  abbrev end_tree : Bool → json.Json
  end_tree made = put_tree (end_table root) (keyed values keys (end_members made name))

  abbrev last_trees : Bool → json.Items
  last_trees made = json.item gone_lock (json.item (end_tree made) json.no_items)

  delete_said : lock_delete part ≡ text_of gone_lock ++ 44 ∷ []
  unfolding lock_delete
  delete_said =
      ap (λ o. codes "{\"delete\":" ++ (quoted (lock_table (text_in (first_of (pair_of (list_in o))))) ++ (codes ",\"key\":" ++ (field_text (second_of (pair_of (list_in o))) ++ codes "},")))) (p.group).is
      ∙ delete_text (lock_table root) (value_text (array values)) (outline (array values)) lock_plain (value_said 123 (array values) key_held)

  end_said : (made : Bool) → end_put s made name part ≡ text_of (end_tree made)
  unfolding end_put
  end_said made =
      (λ i. codes "{\"put\":" ++ (ap (λ o. quoted (end_table (text_in (first_of (pair_of (list_in o)))))) (p.group).is i ++ (codes ",\"row\":{" ++ (keys_said i ++ (codes "\"commit\":" ++ (truth_text made ++ (codes ",\"gid\":" ++ (quoted name ++ codes "}}"))))))))
      ∙ end_text 122 (t.properties) (t.primary) values (end_table root) name made end_plain plain (rooted.ready).valid (rooted.ready).plain values_held

  finish_said : (made : Bool) → finish_writes s made name part ≡ text_of (json.array (joined (items_outline (own_items made)) (last_trees made)))
  unfolding finish_writes
  finish_said made =
      (λ i. bracketed (own_said made i ++ (delete_said i ++ end_said made i)))
      ∙ ap (λ x. 91 ∷ x) (gather (before_commas (own_items made)) (text_of gone_lock) (44 ∷ []) (text_of (end_tree made)) (93 ∷ []))
      ∙ ap (λ x. 91 ∷ x) (before_text 125 (own_items made) gone_lock (json.item (end_tree made) json.no_items) (own_held made))

  held_said : held_check name part ≡ text_of (json.array (json.item (held_tree (lock_table root) (outline (array values)) name) json.no_items))
  held_said =
      ap (λ o. holder_check (quoted (lock_table (text_in (first_of (pair_of (list_in o)))))) (field_text (second_of (pair_of (list_in o)))) (bracketed (quoted name))) (p.group).is
      ∙ held_text (lock_table root) name (value_text (array values)) (outline (array values)) lock_plain plain (value_said 123 (array values) key_held)

  -- ---- what is read of them

  abbrev held_item : Data
  held_item = held_data (lock_table root) (array values) name

  abbrev delete_item : Data
  delete_item = delete_data (lock_table root) (array values)

  abbrev end_item : Bool → Data
  end_item made = put_data (end_table root) (end_row values keys made name)

  abbrev last_items : Bool → Items
  last_items made = item delete_item (item (end_item made) no_items)

  last_read : (made : Bool) → of_items (last_trees made) ≡ Some (last_items made)
  last_read made =
      ap (λ o. option_and_then (λ d. option_map (item d) (of_items (json.item (end_tree made) json.no_items))) o) (delete_read 123 (lock_table root) (array values) key_held)
      ∙ ap (λ o. option_map (item delete_item) (option_and_then (λ d. option_map (item d) (Some no_items)) o)) (end_read 122 values keys (end_table root) made name values_held)

  last_good : (made : Bool) → AreGood 125 (last_trees made)
  last_good made = (
    delete_good (lock_table root) 124 (array values) lock_plain (held_higher 123 124 (array values) (omega arith) key_held),
    (put_good (end_table root) 123 (keyed values keys (end_members made name)) end_plain (end_row_good 123 values keys made name (rooted.ready).plain plain (are_higher 122 123 values (omega arith) values_held)), tt),
  )

  row_cells : (made : Bool) → AreCells (end_row values keys made name)
  row_cells made = end_cells 122 values keys made name values_held (p.group).fine

  finish_fine : (made : Bool) → AreFine (array (item held_item no_items)) g (array (both (own_items made) (last_items made)))
  finish_fine made = record {
    group = (p.group).fine;
    checks = held_fine (lock_table root) name values (p.group).fine;
    writes = worst_both write_check (own_items made) (last_items made) (own_fine made)
        (worst_next write_check delete_item (item (end_item made) no_items) (delete_fine (lock_table root) values (p.group).fine) (put_fine (end_table root) (end_row values keys made name) (row_cells made)));
    no_floats_c = (λ i. held_plain (lock_table root) name (array values) key_held.plain i || false);
    no_floats_g = group_held.plain;
    no_floats_w = both_plain 125 (own_items made) (last_items made) (own_held made)
        (λ i. delete_plain (lock_table root) (array values) key_held.plain i || (put_plain (end_table root) (end_row values keys made name) (row_cells made) i || false));
  }

  finish_read : (made : Bool) → transaction_of s (finish_text s made name part) ≡ meant s (array (item held_item no_items)) g (array (both (own_items made) (last_items made)))
  unfolding finish_text
  finish_read made =
      ap (transaction_of s) (λ i. transaction_text (held_said i) (group_said i) (finish_said made i))
      ∙ read_as s (json.array (json.item (held_tree (lock_table root) (outline (array values)) name) json.no_items)) (outline g) (json.array (joined (items_outline (own_items made)) (last_trees made)))
      (array (item held_item no_items)) g (array (both (own_items made) (last_items made)))
      (held_tree_good (lock_table root) name 123 (array values) lock_plain plain (held_higher 123 124 (array values) (omega arith) key_held), tt)
      (held_good 126 g (held_higher 124 126 g (omega arith) group_held)) (joined_good 125 (own_items made) (last_trees made) (own_held made) (last_good made))
      (ap (λ o. option_map array (option_and_then (λ d. option_map (item d) (Some no_items)) o)) (held_read 123 (lock_table root) name (array values) key_held))
      (held_again 124 g group_held) (ap (option_map array) (joined_read 125 (own_items made) (last_items made) (last_trees made) (own_held made) (last_read made))) (finish_fine made)

  -- ---- as the transactions that finish it

  abbrev pub lock_values : List Value
  lock_values = values_in (numbered s.tables (locks s group)) values

  abbrev row_at : ℕ → Bool → Row
  row_at n made = record { cells = cells_in (properties_of (numbered s.tables n)) (Some (object (end_row values keys made name))) }

  abbrev end_put_row : Bool → Row
  end_put_row made = row_at (ends s group) made

  pub gid_kind : kind_at (properties_of (numbered s.tables (locks s group))) (number_in s (locks s group) (codes "gid")) ≡ Some kinds.Str
  gid_kind =
      ap (λ o. kind_in (numbered (properties_of o) (property_number (properties_of o) (codes "gid")))) (kids.lock).there ∙ ap kind_in ((kids.lock).gid).numbered_is
      ∙ ap Some ((kids.lock).gids (property_number (((kids.lock).table).properties) (codes "gid")) (((kids.lock).gid).property) ((kids.lock).gid).numbered_is ((kids.lock).gid).named)

  abbrev held_at : ℕ → Check
  held_at n =
      Is (row n (values_in (numbered s.tables n) values)) (number_in s n (codes "gid")) (value_of (kind_at (properties_of (numbered s.tables n)) (number_in s n (codes "gid"))) (string name) ∷ [])

  abbrev held_so : Check
  held_so = Is (row (locks s group) lock_values) (number_in s (locks s group) (codes "gid")) (Str name ∷ [])

  abbrev last_changes : Bool → List Change
  last_changes made = Delete (row (locks s group) lock_values) ∷ Put (ends s group) (end_put_row made) ∷ []

  finish_as : (made : Bool) → transaction_of s (finish_text s made name part) ≡ asking group (held_so ∷ []) (own_changes made own.writes ++ last_changes made)
  finish_as made =
      finish_read made
      ∙ (λ i. asking group (held_at (lock_is i) ∷ []) (each_both (change_of s) (own_items made) (last_items made) i))
      ∙ (λ i. asking group (Is (row (locks s group) lock_values) (number_in s (locks s group) (codes "gid")) (value_of (gid_kind i) (string name) ∷ []) ∷ [])
      (own_made made i ++ Delete (row (lock_is i) (values_in (numbered s.tables (lock_is i)) values)) ∷ Put (end_is i) (row_at (end_is i) made) ∷ []))

  -- ---- the keys

  at_lock : (vs : List Value) (key : List ℕ) → key_in s group 0 (locks s group) vs ≡ Ok key → vs ≡ lock_values → key ≡ lock_place s group
  at_lock vs key e are =
      let k = names_key s group 0 (locks s group) vs key e in
      let table : k.table ≡ (kids.lock).table = one_table k.table (kids.lock).table (sym k.at ∙ (kids.lock).there) in
      let root_as : (k.table).root ≡ root_number group = ap (λ (u : Table). u.root) table ∙ (kids.lock).parent in
      let rest : rest_part (shape_of s (locks s group) k.table) vs ≡ [] =
      ap (λ m. drop (length (root_kinds (table_at s.tables m))) vs) root_as ∙ ap (λ c. drop c vs) rooted.counted ∙ ap (λ xs. drop (count values) xs) are
      ∙ none_behind (properties_of (numbered s.tables (locks s group))) (primary_of (numbered s.tables (locks s group))) values in
      k.is ∙ ap (λ xs. place s (locks s group) group (spell_all xs)) rest

  abbrev pub end_values : List Value
  end_values = values_in (numbered s.tables (ends s group)) (both values (item (string name) no_items))

  end_values_as : end_values ≡ values_at (((kids.ending).table).properties) (((kids.ending).table).primary) (both values (item (string name) no_items))
  end_values_as = ap (λ o. values_in o (both values (item (string name) no_items))) (kids.ending).there

  at_end : (vs : List Value) (key : List ℕ) → key_in s group 0 (ends s group) vs ≡ Ok key → vs ≡ end_values → key ≡ end_place s group name
  at_end vs key e are =
      let k = names_key s group 0 (ends s group) vs key e in
      let et = (kids.ending).table in
      let table : k.table ≡ et = one_table k.table et (sym k.at ∙ (kids.ending).there) in
      let root_as : (k.table).root ≡ root_number group = ap (λ (u : Table). u.root) table ∙ (kids.ending).parent in
      let rest : rest_part (shape_of s (ends s group) k.table) vs ≡ Str name ∷ [] =
      ap (λ m. drop (length (root_kinds (table_at s.tables m))) vs) root_as ∙ ap (λ c. drop c vs) rooted.counted ∙ ap (λ xs. drop (count values) xs) (are ∙ end_values_as)
      ∙ last_value (et.properties) (et.primary) keys values name ((kids.ending).ready).valid (kids.ending).keys rooted.equal (kids.ending).gids in
      k.is ∙ ap (λ xs. place s (ends s group) group (spell_all xs)) rest ∙ ap (λ xs. place s (ends s group) group xs) (append-nil (spell (Str name)))

  -- ---- the row of the end

  pub found_keys : HasKeys (put_keys values keys no_members) keys values
  found_keys = keys_there values keys no_members (apart_front keys (name_property ∷ []) (kids.lock).apart) (p.group).fine rooted.equal

  no_gid : named (codes "gid") keys ≡ false
  no_gid = none_before keys name_property [] (kids.lock).apart

  no_commit : named (codes "commit") keys ≡ false
  no_commit =
      named_front (codes "commit") keys (name_property ∷ [])
      (none_before (keys ++ name_property ∷ []) commit_property [] (ap apart (append_assoc keys (name_property ∷ []) (commit_property ∷ [])) ∙ (kids.ending).apart))

  end_keys : (made : Bool) → HasKeys (end_row values keys made name) (keys ++ name_property ∷ []) (both values (item (string name) no_items))
  end_keys made =
      let found = put_keys values keys no_members in
      keys_last (end_row values keys made name) keys values name_property (string name)
      (keys_put (put (codes "commit") (boolean made) found) (codes "gid") (string name) keys values no_gid (keys_put found (codes "commit") (boolean made) keys values no_commit found_keys))
      (get_member-put (codes "gid") (string name) (put (codes "commit") (boolean made) found)) refl

  end_row_as : (made : Bool) → end_put_row made ≡ row_by (((kids.ending).table).properties) (end_row values keys made name)
  end_row_as made = ap (λ o. record { cells = cells_in (properties_of o) (Some (object (end_row values keys made name))) }) (kids.ending).there

  end_key_values : (made : Bool) → key_values (((kids.ending).table).primary) (end_put_row made) ≡ end_values
  end_key_values made =
      let et = (kids.ending).table in
      ap (key_values (et.primary)) (end_row_as made)
      ∙ key_is (et.properties) (et.primary) (keys ++ name_property ∷ []) (both values (item (string name) no_items)) (end_row values keys made name) ((kids.ending).ready).few ((kids.ending).ready).valid (kids.ending).keys (end_keys made)
      ∙ sym end_values_as

  commit_there : HasProperty (((kids.ending).table).properties) (codes "commit")
  commit_there =
      let et = (kids.ending).table in
      has_property (et.properties) commit_property ((kids.ending).ready).few (commit_among keys et (kids.ending).all)

  end_so : (made : Bool) → end_in s group (end_put_row made) ≡ made
  end_so made =
      let et = (kids.ending).table in
      let found = put_keys values keys no_members in
      let there : get_member (codes "commit") (end_row values keys made name) ≡ Some (boolean made) =
      get_member-put_other (codes "commit") (codes "gid") (string name) (put (codes "commit") (boolean made) found) commit_not_gid ∙ get_member-put (codes "commit") (boolean made) found in
      ap (λ o. truth_in (values_of (record { cells = cells_in (properties_of o) (Some (object (end_row values keys made name))) }) (property_number (properties_of o) (codes "commit")))) (kids.ending).there
      ∙ ap truth_in (cell_at (et.properties) (property_number (et.properties) (codes "commit")) commit_there.property (end_row values keys made name) (boolean made) ((kids.ending).ready).few commit_there.numbered_is
      (ap (λ k. get_member k (end_row values keys made name)) commit_there.named ∙ there) refl)

  -- ---- what is written fits

  record Lasts (made : Bool) : Type 0 where
    lock_key : key_at s group (locks s group) lock_values ≡ Some (lock_place s group)
    end_key : key_in s group 0 (ends s group) end_values ≡ Ok (end_place s group name)
    put_is : write_of s group (Put (ends s group) (end_put_row made)) ≡ Some (record { key = end_place s group name; row = Some (end_put_row made) })

  lasts : (made : Bool) → transaction_fits s (transaction_of s (finish_text s made name part)) ≡ true → Lasts made
  lasts made e =
      by (write_of s group (Delete (row (locks s group) lock_values))) refl (write_of s group (Put (ends s group) (end_put_row made))) refl parts.back_is
    where
      all : Fit s group (own_changes made own.writes ++ last_changes made)
      all = fit s group (held_so ∷ []) (own_changes made own.writes ++ last_changes made) (ap (transaction_fits s) (sym (finish_as made)) ∙ e)

      parts : TwoParts s group (own_changes made own.writes) (last_changes made) all.writes
      parts = two_parts s group (own_changes made own.writes) (last_changes made) all.writes all.are

      so : (d w : Write) → write_of s group (Delete (row (locks s group) lock_values)) ≡ Some d → write_of s group (Put (ends s group) (end_put_row made)) ≡ Some w → Lasts made
      so d w d_is w_is =
          let dk = delete_keyed s group (locks s group) lock_values d d_is in
          let wk = put_keyed s group (ends s group) (end_put_row made) (kids.ending).table w (kids.ending).there w_is in
          let key : w.key ≡ end_place s group name = at_end (key_values (((kids.ending).table).primary) (end_put_row made)) w.key wk.0 (end_key_values made) in
          record {
            lock_key = ap result_ok dk ∙ ap Some (at_lock lock_values d.key dk refl);
            end_key = ap (λ vs. key_in s group 0 (ends s group) vs) (sym (end_key_values made)) ∙ wk.0 ∙ ap Ok key;
            put_is = w_is ∙ ap Some wk.1 ∙ ap (λ (k : List ℕ). Some (record { key = k; row = Some (end_put_row made) })) key;
          }

      by : (o : Option Write) → write_of s group (Delete (row (locks s group) lock_values)) ≡ o → (q : Option Write) → write_of s group (Put (ends s group) (end_put_row made)) ≡ q
          → with_write o (with_write q (Some [])) ≡ Some parts.back → Lasts made
      by None o_is None q_is h = absurd (cc)
      by None o_is (Some w) q_is h = absurd (cc)
      by (Some d) o_is None q_is h = absurd (cc)
      by (Some d) o_is (Some w) q_is h = so d w o_is q_is

  may : may_be_in (numbered s.tables (locks s group)) (number_in s (locks s group) (codes "gid")) (Str name ∷ []) ≡ true
  may =
      let gid = (kids.lock).gid in
      ap (λ o. may_be_in o (property_number (properties_of o) (codes "gid")) (Str name ∷ [])) (kids.lock).there ∙ ap (λ o. may_be o (Str name ∷ [])) gid.numbered_is
      ∙ (λ i. one_may ((gid.property).need) i && (has_kind ((kids.lock).gids (property_number (((kids.lock).table).properties) (codes "gid")) gid.property gid.numbered_is gid.named i) (Str name) && true))
    where
      one_may : (need : Need) → may_have need 1 ≡ true
      one_may Required = refl
      one_may Optional = refl
      one_may Repeated = refl

  pub locks_bare : IsBare s (locks s group)
  locks_bare = record { table = (kids.lock).table; there = (kids.lock).there; bare = ready.locks_bare group }

  pub ends_bare : IsBare s (ends s group)
  ends_bare = record { table = (kids.ending).table; there = (kids.ending).there; bare = ready.ends_bare group }

  finishing : (made : Bool) → TextFits s (finish_text s made name part) → IsFinishing s name made own (transaction_of s (finish_text s made name part))
  finishing made fit =
      let l = lasts made fit in
      record {
        lock_values = lock_values;
        put = end_put_row made;
        is = finish_as made;
        locks_bare = locks_bare;
        ends_bare = ends_bare;
        own_free = fits_so.free;
        lock_key = l.lock_key;
        put_is = l.put_is;
        end_is = end_so made;
        may_be = may;
        fits = fit;
      }

  pub is_finishing : (made : Bool) → TextFits s (finish_text s made name part) → IsFinishing s name made (own_of s part) (transaction_of s (finish_text s made name part))
  is_finishing made fit = subst (λ (txn : Transaction). IsFinishing s name made txn (transaction_of s (finish_text s made name part))) (sym own_is) (finishing made fit)

  -- what the finish that commits shows of the keys
  pub lock_key_is : key_at s group (locks s group) lock_values ≡ Some (lock_place s group)
  lock_key_is = (lasts true fits_so.made).lock_key

  pub end_key_is : key_at s group (ends s group) end_values ≡ Some (end_place s group name)
  end_key_is = ap result_ok (lasts true fits_so.made).end_key

  -- ---- the text that prepares it

  abbrev key_tree : json.Json
  key_tree = json.array (joined (items_outline values) (json.item (json.string name) json.no_items))

  abbrev end_key_data : Data
  end_key_data = array (both values (item (string name) no_items))

  end_key_said : end_key name part ≡ text_of key_tree
  unfolding end_key
  end_key_said =
      (λ i. 91 ∷ ((before_commas (list_in (second_of (pair_of (list_in ((p.group).is i))))) ++ sym (plain_quoted name plain) i) ++ 93 ∷ []))
      ∙ ap (λ x. 91 ∷ x) (append_assoc (before_commas values) (json_quoted name) (93 ∷ [])) ∙ ap (λ x. 91 ∷ x) (before_text 122 values (json.string name) json.no_items values_held)

  abbrev no_lock_tree : json.Json
  no_lock_tree = gone_tree (lock_table root) (outline (array values))

  abbrev no_end_tree : json.Json
  no_end_tree = gone_tree (end_table root) key_tree

  free_said : free_checks name part ≡ text_of no_lock_tree ++ 44 ∷ text_of no_end_tree
  unfolding free_checks
  free_said =
      (λ i. codes "{\"gone\":" ++ (ap (λ o. quoted (lock_table (text_in (first_of (pair_of (list_in o)))))) (p.group).is i ++ (codes ",\"key\":" ++ (ap (λ o. field_text (second_of (pair_of (list_in o)))) (p.group).is i
      ++ (codes "},{\"gone\":" ++ (ap (λ o. quoted (end_table (text_in (first_of (pair_of (list_in o)))))) (p.group).is i ++ (codes ",\"key\":" ++ (end_key_said i ++ codes "}"))))))))
      ∙ free_text (lock_table root) (end_table root) (value_text (array values)) (outline (array values)) key_tree lock_plain end_plain (value_said 123 (array values) key_held)

  abbrev prepare_trees : json.Items
  prepare_trees = json.item no_lock_tree (json.item no_end_tree (joined (items_outline cs) (deleted_trees ws)))

  ws_held : AreHeld 123 ws
  ws_held = held_items 123 ws writes_held

  cs_held : AreHeld 123 cs
  cs_held = held_items 123 cs checks_held

  checks_said : prepare_checks name part ≡ text_of (json.array prepare_trees)
  unfolding prepare_checks
  checks_said =
      (λ i. bracketed (free_said i ++ (ap (λ o. after_commas (list_in o)) (p.checks).is i ++ ap (λ o. deleted_texts (list_in o)) (p.writes).is i)))
      ∙ ap (λ x. 91 ∷ x) (gather_checks (text_of no_lock_tree) (44 ∷ []) (text_of no_end_tree) (after_commas cs) (deleted_texts ws) (93 ∷ []))
      ∙ ap (λ x. 91 ∷ (text_of no_lock_tree ++ (44 ∷ (text_of no_end_tree ++ (after_commas cs ++ x))))) (deleted_said 122 ws ws_held (p.writes).fine)
      ∙ ap (λ x. 91 ∷ (text_of no_lock_tree ++ (44 ∷ (text_of no_end_tree ++ x)))) (after_text 123 cs (deleted_trees ws) cs_held)

  abbrev lock_tree : json.Json
  lock_tree = put_tree (lock_table root) (keyed values keys (name_member name))

  lock_said : lock_put s name part ≡ text_of (json.array (json.item lock_tree json.no_items))
  unfolding lock_put
  lock_said =
      (λ i. codes "[{\"put\":" ++ (ap (λ o. quoted (lock_table (text_in (first_of (pair_of (list_in o)))))) (p.group).is i ++ (codes ",\"row\":{" ++ (keys_said i ++ (codes "\"gid\":" ++ (quoted name ++ codes "}}]"))))))
      ∙ lock_text 122 (t.properties) (t.primary) values (lock_table root) name lock_plain plain (rooted.ready).valid (rooted.ready).plain values_held

  -- ---- what is read of it

  abbrev no_lock_item : Data
  no_lock_item = gone_data (lock_table root) (array values)

  abbrev no_end_item : Data
  no_end_item = gone_data (end_table root) end_key_data

  abbrev lock_item : Data
  lock_item = put_data (lock_table root) (lock_row values keys name)

  abbrev prepare_items : Items
  prepare_items = item no_lock_item (item no_end_item (both cs (deleted_items ws)))

  key_read : of_json key_tree ≡ Some end_key_data
  key_read = ap (option_map array) (joined_read 122 values (item (string name) no_items) (json.item (json.string name) json.no_items) values_held refl)

  items_read : of_items prepare_trees ≡ Some prepare_items
  items_read =
      ap (λ o. option_and_then (λ d. option_map (item d) (of_items (json.item no_end_tree (joined (items_outline cs) (deleted_trees ws))))) o)
      (gone_read (lock_table root) (outline (array values)) (array values) (held_again 123 (array values) key_held))
      ∙ ap (λ o. option_map (item no_lock_item) (option_and_then (λ d. option_map (item d) (of_items (joined (items_outline cs) (deleted_trees ws)))) o)) (gone_read (end_table root) key_tree end_key_data key_read)
      ∙ ap (λ o. option_map (item no_lock_item) (option_map (item no_end_item) o))
      (joined_read 123 cs (deleted_items ws) (deleted_trees ws) cs_held (deleted_read 122 ws ws_held (p.writes).fine))

  higher_good : AreGood 125 (deleted_trees ws)
  higher_good = deleted_good 124 ws (are_higher 123 125 ws (omega arith) ws_held) (p.writes).fine

  prepare_good : AreGood 125 prepare_trees
  prepare_good = (
    gone_good (lock_table root) 124 (outline (array values)) lock_plain (held_good 124 (array values) (held_higher 123 124 (array values) (omega arith) key_held)),
    (
      gone_good (end_table root) 124 key_tree end_plain (joined_good 123 values (json.item (json.string name) json.no_items) (are_higher 122 123 values (omega arith) values_held) (plain_utf8 name plain, tt)),
      joined_good 125 cs (deleted_trees ws) (are_higher 123 125 cs (omega arith) cs_held) higher_good,
    ),
  )

  values_fine : worst value_check Fine (both values (item (string name) no_items)) ≡ Fine
  values_fine = worst_both value_check values (item (string name) no_items) (p.group).fine refl

  lock_row_cells : AreCells (lock_row values keys name)
  lock_row_cells = lock_cells 122 values keys name values_held (p.group).fine

  prepare_fine : AreFine (array prepare_items) g (array (item lock_item no_items))
  prepare_fine = record {
    group = (p.group).fine;
    checks = worst_next check_check no_lock_item (item no_end_item (both cs (deleted_items ws))) (gone_fine (lock_table root) values (p.group).fine)
        (worst_next check_check no_end_item (both cs (deleted_items ws)) (gone_fine (end_table root) (both values (item (string name) no_items)) values_fine)
        (worst_both check_check cs (deleted_items ws) (p.checks).fine (deleted_fine 122 ws ws_held (p.writes).fine)));
    writes = put_fine (lock_table root) (lock_row values keys name) lock_row_cells;
    no_floats_c = (λ i. gone_plain (lock_table root) (array values) key_held.plain i
        || (gone_plain (end_table root) end_key_data (both_plain 122 values (item (string name) no_items) values_held refl) i
        || both_plain 123 cs (deleted_items ws) cs_held (deleted_plain 122 ws ws_held (p.writes).fine) i));
    no_floats_g = group_held.plain;
    no_floats_w = (λ i. put_plain (lock_table root) (lock_row values keys name) lock_row_cells i || false);
  }

  prepare_read : transaction_of s (prepare_text s name part) ≡ meant s (array prepare_items) g (array (item lock_item no_items))
  unfolding prepare_text
  prepare_read =
      ap (transaction_of s) (λ i. transaction_text (checks_said i) (group_said i) (lock_said i))
      ∙ read_as s (json.array prepare_trees) (outline g) (json.array (json.item lock_tree json.no_items)) (array prepare_items) g (array (item lock_item no_items)) prepare_good
      (held_good 126 g (held_higher 124 126 g (omega arith) group_held))
      (put_good (lock_table root) 123 (keyed values keys (name_member name)) lock_plain (lock_row_good 123 values keys name (rooted.ready).plain plain (are_higher 122 123 values (omega arith) values_held)), tt)
      (ap (option_map array) items_read) (held_again 124 g group_held)
      (ap (λ o. option_map array (option_and_then (λ d. option_map (item d) (Some no_items)) o)) (lock_read 122 values keys (lock_table root) name values_held)) prepare_fine

  -- ---- as the transaction that prepares it

  abbrev lock_row_at : ℕ → Row
  lock_row_at n = record { cells = cells_in (properties_of (numbered s.tables n)) (Some (object (lock_row values keys name))) }

  abbrev lock_put_row : Row
  lock_put_row = lock_row_at (locks s group)

  own_checks_meant : each_in (check_of s) (both cs (deleted_items ws)) ≡ own.checks ++ deleted own.writes
  own_checks_meant = each_both (check_of s) cs (deleted_items ws) ∙ ap (λ xs. each_in (check_of s) cs ++ xs) (deleted_meant s 122 ws ws_held (p.writes).fine)

  abbrev prepare_asked : List Check
  prepare_asked = Gone (row (locks s group) lock_values) ∷ Gone (row (ends s group) end_values) ∷ (own.checks ++ deleted own.writes)

  prepare_as : transaction_of s (prepare_text s name part) ≡ asking group prepare_asked (Put (locks s group) lock_put_row ∷ [])
  prepare_as =
      prepare_read
      ∙ (λ i. asking group (Gone (row (lock_is i) (values_in (numbered s.tables (lock_is i)) values)) ∷ Gone (row (end_is i) (values_in (numbered s.tables (end_is i)) (both values (item (string name) no_items)))) ∷ own_checks_meant i)
      (Put (lock_is i) (lock_row_at (lock_is i)) ∷ []))

  lock_row_as : lock_put_row ≡ row_by (((kids.lock).table).properties) (lock_row values keys name)
  lock_row_as = ap (λ o. record { cells = cells_in (properties_of o) (Some (object (lock_row values keys name))) }) (kids.lock).there

  lock_key_values : key_values (((kids.lock).table).primary) lock_put_row ≡ lock_values
  lock_key_values =
      let lt = (kids.lock).table in
      ap (key_values (lt.primary)) lock_row_as
      ∙ key_is (lt.properties) (lt.primary) keys values (lock_row values keys name) ((kids.lock).ready).few ((kids.lock).ready).valid (kids.lock).keys
      (keys_put (put_keys values keys no_members) (codes "gid") (string name) keys values no_gid found_keys)
      ∙ sym (ap (λ o. values_in o values) (kids.lock).there)

  holder_so : holder_in s group lock_put_row ≡ name
  holder_so =
      let lt = (kids.lock).table in
      let gid = (kids.lock).gid in
      ap (λ o. holder_text (values_of (record { cells = cells_in (properties_of o) (Some (object (lock_row values keys name))) }) (property_number (properties_of o) (codes "gid")))) (kids.lock).there
      ∙ ap holder_text (cell_at (lt.properties) (property_number (lt.properties) (codes "gid")) gid.property (lock_row values keys name) (string name) ((kids.lock).ready).few gid.numbered_is
      (ap (λ k. get_member k (lock_row values keys name)) gid.named ∙ get_member-put (codes "gid") (string name) (put_keys values keys no_members)) refl)
      ∙ ap (λ k. holder_text (value_of (Some k) (string name) ∷ [])) ((kids.lock).gids (property_number (lt.properties) (codes "gid")) gid.property gid.numbered_is gid.named)

  lock_written : TextFits s (prepare_text s name part) → write_of s group (Put (locks s group) lock_put_row) ≡ Some (record { key = lock_place s group; row = Some lock_put_row })
  lock_written e = by (write_of s group (Put (locks s group) lock_put_row)) refl all.are
    where
      all : Fit s group (Put (locks s group) lock_put_row ∷ [])
      all = fit s group prepare_asked (Put (locks s group) lock_put_row ∷ []) (ap (transaction_fits s) (sym prepare_as) ∙ e)

      by : (o : Option Write) → write_of s group (Put (locks s group) lock_put_row) ≡ o → with_write o (Some []) ≡ Some all.writes
          → write_of s group (Put (locks s group) lock_put_row) ≡ Some (record { key = lock_place s group; row = Some lock_put_row })
      by None is h = absurd (cc)
      by (Some w) is h =
          let wk = put_keyed s group (locks s group) lock_put_row (kids.lock).table w (kids.lock).there is in
          let key : w.key ≡ lock_place s group = at_lock (key_values (((kids.lock).table).primary) lock_put_row) w.key wk.0 lock_key_values in
          is ∙ ap Some wk.1 ∙ ap (λ (k : List ℕ). Some (record { key = k; row = Some lock_put_row })) key

  preparing : TextFits s (prepare_text s name part) → IsPreparing s name own (transaction_of s (prepare_text s name part))
  preparing e = record {
    lock_values = lock_values;
    end_values = end_values;
    put = lock_put_row;
    is = prepare_as;
    locks_bare = locks_bare;
    ends_bare = ends_bare;
    lock_key = lock_key_is;
    end_key = end_key_is;
    put_is = lock_written e;
    holder_is = holder_so;
    fits = e;
  }

  pub is_preparing : TextFits s (prepare_text s name part) → IsPreparing s name (own_of s part) (transaction_of s (prepare_text s name part))
  is_preparing e = subst (λ (txn : Transaction). IsPreparing s name txn (transaction_of s (prepare_text s name part))) (sym own_is) (preparing e)
