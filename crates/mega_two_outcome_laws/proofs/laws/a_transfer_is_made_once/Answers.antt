use Rattle.std.proofs.Common.{◌≡◌, ℕ, zero, suc, Bool, true, false, pos, [], ◌∷◌, Option, Some, None, refl, sym, ap, ◌∙◌, subst, arith, ◌-◌}
use Rattle.std.specs.Prelude.{◌==◌, codes, slice_get, if◌then◌else◌}
use Rattle.std.proofs.lemmas.Bool.Decides.{nat_tests}
use Rattle.std.specs.Fmt.{digits}
use Rattle.std.specs.Str.{is_utf8, chars}
use Rattle.std.specs.Char.{encode_utf8}
use Rattle.hex.specs.Hex.{decode_pairs, encode_with}
use Rattle.json.specs.Lex.{lex, punctuate}
use Rattle.json.specs.Json.{items, members, value}
use Rattle.json.specs.Word.{after_number, word}
use Rattle.json.specs.Text.{code_unit, content, short_escape}
use Rattle.json.specs.Print.{escape_byte, print_from}
use Rattle.serde_json.specs.Read.{number_of}
use Rattle.fast_float.specs.Text.{scan}
use Rattle.mega_base.specs.Codec.{number_text}
use Rattle.mega_base.specs.Names.{epoch_at, group_at, node_at, op_at, position_in}
use Rattle.mega_base.specs.Pairs.{pair_at}
use Rattle.mega_base.specs.Reading.{byte_in, byte_where, bytes_in, bytes_of_len, digits_in, items_at, list_in, nested_at, option_at, whole_of, within}
use Rattle.mega_base.specs.Utf8.{char_at, chars_of, tail_in, text_in, text_of_len}
use Rattle.mega_base.specs.Values.{cell_in, cells_at, row_at, value_at, value_of}
use Rattle.mega_keys.specs.Reading.{agree, byte_at, int32_at, int64_at, key_at, key_front_at, marks_at, raw_at, root_at, text_at, text_of, truth_at, unescaped, unit_at, values_at}
use Rattle.mega_keys.specs.Spelling.{scattered}
use Rattle.mega_syntax.specs.Reading.{change_at, clause_at, clause_step, created_at, entity_at, group_at as group_at_of_mega_syntax_reading, index_at, inside_at, items_at as items_at_of_mega_syntax_reading, name_at, name_step, names_at, need_at, placed_step, properties_at, property_at, property_step, schema_at, statement_at, storing_at, table_at, word_at}
use Rattle.mega_entry.specs.Entries.{batch_at, cut_in, cuts_at, cuts_of, enter_at, entry_at, name_at as name_at_of_mega_entry_entries, plain_at, send_at, some_op_at, write_at}
use Rattle.mega_schedule.specs.Events.{event_of}
use Rattle.mega_two_driver.specs.Begins.{plan_of, plan_of_parts}
use Rattle.mega_two_driver.specs.Driver.{begun, lost, recovered, taken}
use Rattle.mega_two_driver.specs.Fits.{part_fits, transaction_fits, transaction_of, write_of}
use Rattle.mega_two_driver.specs.Rows.{lock_told, plan_line, plan_told, rows_in}
use Rattle.mega_two_driver.specs.Tables.{has_ends, has_locks, has_plans, has_tables, may_write}
use Rattle.mega_two_driver.specs.Texts.{deciding_text, end_key, end_put, finish_text, finish_writes, free_checks, holder_check, key_members, lock_delete, lock_look, lock_put, no_plan_check, own_text, part_requests, plan_look, plan_named, plan_put, plan_with, planning_text, prepare_checks, prepare_text, row_look, transaction_text, undecided_check}
use Rattle.mega_two_driver.specs.Words.{transaction_told}
use Rattle.mega_base.specs.declared.values.Value.TheVariants.{Int64, Bool as Truth, Str}
use Rattle.mega_schema.specs.declared.schema.Table.{Table}
use Rattle.mega_schema.specs.Lookup.{is_root_table}
use Rattle.mega_index.specs.Fits.{numbered}
use Rattle.mega_two_outcome_laws.specs.Places.{locks, ends}
use Rattle.mega_two_outcome_laws.specs.Requests.{IsBare}
use Rattle.mega_two_outcome_laws.specs.Examples.{accounts, own}
use Rattle.mega_two_outcome_laws.proofs.laws.a_transfer_is_made_once.Goals as goal

pub returns-clause-planned : goal.returns-clause-planned
unfolding digits is_utf8 chars encode_utf8 decode_pairs encode_with lex punctuate items members value after_number word code_unit content short_escape escape_byte print_from number_of scan number_text epoch_at group_at node_at op_at position_in pair_at byte_in byte_where bytes_in bytes_of_len digits_in items_at list_in nested_at option_at whole_of within char_at chars_of tail_in text_in text_of_len cell_in cells_at row_at value_at value_of agree byte_at int32_at int64_at key_at key_front_at marks_at raw_at root_at text_at text_of truth_at unescaped unit_at values_at scattered change_at clause_at clause_step created_at entity_at group_at_of_mega_syntax_reading index_at inside_at items_at_of_mega_syntax_reading name_at name_step names_at need_at placed_step properties_at property_at property_step schema_at statement_at storing_at table_at word_at batch_at cut_in cuts_at cuts_of enter_at entry_at name_at_of_mega_entry_entries plain_at send_at some_op_at write_at event_of plan_of plan_of_parts begun lost recovered taken part_fits transaction_fits transaction_of write_of lock_told plan_line plan_told rows_in has_ends has_locks has_plans has_tables may_write deciding_text end_key end_put finish_text finish_writes free_checks holder_check key_members lock_delete lock_look lock_put no_plan_check own_text part_requests plan_look plan_named plan_put plan_with planning_text prepare_checks prepare_text row_look transaction_text undecided_check transaction_told
returns-clause-planned c = refl

pub returns-clause-whole : goal.returns-clause-whole
unfolding digits is_utf8 chars encode_utf8 decode_pairs encode_with lex punctuate items members value after_number word code_unit content short_escape escape_byte print_from number_of scan number_text epoch_at group_at node_at op_at position_in pair_at byte_in byte_where bytes_in bytes_of_len digits_in items_at list_in nested_at option_at whole_of within char_at chars_of tail_in text_in text_of_len cell_in cells_at row_at value_at value_of agree byte_at int32_at int64_at key_at key_front_at marks_at raw_at root_at text_at text_of truth_at unescaped unit_at values_at scattered change_at clause_at clause_step created_at entity_at group_at_of_mega_syntax_reading index_at inside_at items_at_of_mega_syntax_reading name_at name_step names_at need_at placed_step properties_at property_at property_step schema_at statement_at storing_at table_at word_at batch_at cut_in cuts_at cuts_of enter_at entry_at name_at_of_mega_entry_entries plain_at send_at some_op_at write_at event_of plan_of plan_of_parts begun lost recovered taken part_fits transaction_fits transaction_of write_of lock_told plan_line plan_told rows_in has_ends has_locks has_plans has_tables may_write deciding_text end_key end_put finish_text finish_writes free_checks holder_check key_members lock_delete lock_look lock_put no_plan_check own_text part_requests plan_look plan_named plan_put plan_with planning_text prepare_checks prepare_text row_look transaction_text undecided_check transaction_told
returns-clause-whole c = refl

none_table : (t : Table) → ◌≡◌ {A = Option Table} None (Some t) → ⊥
none_table t e = cc

its_root : (n : ℕ) (t u : Table) → ◌≡◌ {A = Option Table} (Some u) (Some t) → u.root ≡ n → t.root ≡ n
its_root n t u e is = let same : u ≡ t = cc in subst (λ (x : Table). x.root ≡ n) same is

no_child : (t u : Table) → ◌≡◌ {A = Option Table} (Some u) (Some t) → is_root_table u ≡ false → is_root_table t ≡ true → ⊥
no_child t u e child root = let same : u ≡ t = cc in let clash : false ≡ true = sym child ∙ ap is_root_table same ∙ root in cc

own_roots : (n : ℕ) (t : Table) → numbered accounts.tables n ≡ Some t → is_root_table t ≡ true → t.root ≡ n
own_roots zero t there root = absurd (none_table t there)
own_roots (suc zero) t there root = its_root 1 t _ there refl
own_roots (suc (suc zero)) t there root = its_root 2 t _ there refl
own_roots (suc (suc (suc zero))) t there root = absurd (no_child t _ there refl root)
own_roots (suc (suc (suc (suc zero)))) t there root = absurd (no_child t _ there refl root)
own_roots (suc (suc (suc (suc (suc n))))) t there root = absurd (none_table t (sym (beyond n) ∙ there))
  where
    beyond : (n : ℕ) → numbered accounts.tables (suc (suc (suc (suc (suc n))))) ≡ None
    beyond n = by (suc (suc (suc (suc (suc n)))) == 0) (suc (suc (suc (suc (suc n)))) - 1) (grind (arith, nat_tests)) (omega arith)
      where
        by : (b : Bool) (m : ℕ) → b ≡ false → m ≡ suc (suc (suc (suc n))) → (if b then None else slice_get accounts.tables m) ≡ None
        by true m e f = absurd (cc)
        by false m e f = ap (slice_get accounts.tables) f

pub returns-clause-ready : goal.returns-clause-ready
returns-clause-ready c = record { few = omega arith; tables = refl; roots = own_roots; plans_bare = refl; locks_bare = λ group. refl; ends_bare = λ group. refl }

pub returns-clause-named : goal.returns-clause-named
returns-clause-named c = refl

pub returns-clause-fits : goal.returns-clause-fits
unfolding digits is_utf8 chars encode_utf8 decode_pairs encode_with lex punctuate items members value after_number word code_unit content short_escape escape_byte print_from number_of scan number_text epoch_at group_at node_at op_at position_in pair_at byte_in byte_where bytes_in bytes_of_len digits_in items_at list_in nested_at option_at whole_of within char_at chars_of tail_in text_in text_of_len cell_in cells_at row_at value_at value_of agree byte_at int32_at int64_at key_at key_front_at marks_at raw_at root_at text_at text_of truth_at unescaped unit_at values_at scattered change_at clause_at clause_step created_at entity_at group_at_of_mega_syntax_reading index_at inside_at items_at_of_mega_syntax_reading name_at name_step names_at need_at placed_step properties_at property_at property_step schema_at statement_at storing_at table_at word_at batch_at cut_in cuts_at cuts_of enter_at entry_at name_at_of_mega_entry_entries plain_at send_at some_op_at write_at event_of plan_of plan_of_parts begun lost recovered taken part_fits transaction_fits transaction_of write_of lock_told plan_line plan_told rows_in has_ends has_locks has_plans has_tables may_write deciding_text end_key end_put finish_text finish_writes free_checks holder_check key_members lock_delete lock_look lock_put no_plan_check own_text part_requests plan_look plan_named plan_put plan_with planning_text prepare_checks prepare_text row_look transaction_text undecided_check transaction_told
returns-clause-fits c = (refl, refl, refl)

locks_bare : IsBare accounts (locks accounts own.group.key)
unfolding digits is_utf8 chars encode_utf8 decode_pairs encode_with lex punctuate items members value after_number word code_unit content short_escape escape_byte print_from number_of scan number_text epoch_at group_at node_at op_at position_in pair_at byte_in byte_where bytes_in bytes_of_len digits_in items_at list_in nested_at option_at whole_of within char_at chars_of tail_in text_in text_of_len cell_in cells_at row_at value_at value_of agree byte_at int32_at int64_at key_at key_front_at marks_at raw_at root_at text_at text_of truth_at unescaped unit_at values_at scattered change_at clause_at clause_step created_at entity_at group_at_of_mega_syntax_reading index_at inside_at items_at_of_mega_syntax_reading name_at name_step names_at need_at placed_step properties_at property_at property_step schema_at statement_at storing_at table_at word_at batch_at cut_in cuts_at cuts_of enter_at entry_at name_at_of_mega_entry_entries plain_at send_at some_op_at write_at event_of plan_of plan_of_parts begun lost recovered taken part_fits transaction_fits transaction_of write_of lock_told plan_line plan_told rows_in has_ends has_locks has_plans has_tables may_write deciding_text end_key end_put finish_text finish_writes free_checks holder_check key_members lock_delete lock_look lock_put no_plan_check own_text part_requests plan_look plan_named plan_put plan_with planning_text prepare_checks prepare_text row_look transaction_text undecided_check transaction_told
locks_bare = record { table = _; there = refl; bare = refl }

ends_bare : IsBare accounts (ends accounts own.group.key)
unfolding digits is_utf8 chars encode_utf8 decode_pairs encode_with lex punctuate items members value after_number word code_unit content short_escape escape_byte print_from number_of scan number_text epoch_at group_at node_at op_at position_in pair_at byte_in byte_where bytes_in bytes_of_len digits_in items_at list_in nested_at option_at whole_of within char_at chars_of tail_in text_in text_of_len cell_in cells_at row_at value_at value_of agree byte_at int32_at int64_at key_at key_front_at marks_at raw_at root_at text_at text_of truth_at unescaped unit_at values_at scattered change_at clause_at clause_step created_at entity_at group_at_of_mega_syntax_reading index_at inside_at items_at_of_mega_syntax_reading name_at name_step names_at need_at placed_step properties_at property_at property_step schema_at statement_at storing_at table_at word_at batch_at cut_in cuts_at cuts_of enter_at entry_at name_at_of_mega_entry_entries plain_at send_at some_op_at write_at event_of plan_of plan_of_parts begun lost recovered taken part_fits transaction_fits transaction_of write_of lock_told plan_line plan_told rows_in has_ends has_locks has_plans has_tables may_write deciding_text end_key end_put finish_text finish_writes free_checks holder_check key_members lock_delete lock_look lock_put no_plan_check own_text part_requests plan_look plan_named plan_put plan_with planning_text prepare_checks prepare_text row_look transaction_text undecided_check transaction_told
ends_bare = record { table = _; there = refl; bare = refl }

pub returns-clause-prepared : goal.returns-clause-prepared
unfolding digits is_utf8 chars encode_utf8 decode_pairs encode_with lex punctuate items members value after_number word code_unit content short_escape escape_byte print_from number_of scan number_text epoch_at group_at node_at op_at position_in pair_at byte_in byte_where bytes_in bytes_of_len digits_in items_at list_in nested_at option_at whole_of within char_at chars_of tail_in text_in text_of_len cell_in cells_at row_at value_at value_of agree byte_at int32_at int64_at key_at key_front_at marks_at raw_at root_at text_at text_of truth_at unescaped unit_at values_at scattered change_at clause_at clause_step created_at entity_at group_at_of_mega_syntax_reading index_at inside_at items_at_of_mega_syntax_reading name_at name_step names_at need_at placed_step properties_at property_at property_step schema_at statement_at storing_at table_at word_at batch_at cut_in cuts_at cuts_of enter_at entry_at name_at_of_mega_entry_entries plain_at send_at some_op_at write_at event_of plan_of plan_of_parts begun lost recovered taken part_fits transaction_fits transaction_of write_of lock_told plan_line plan_told rows_in has_ends has_locks has_plans has_tables may_write deciding_text end_key end_put finish_text finish_writes free_checks holder_check key_members lock_delete lock_look lock_put no_plan_check own_text part_requests plan_look plan_named plan_put plan_with planning_text prepare_checks prepare_text row_look transaction_text undecided_check transaction_told
returns-clause-prepared c = record {
  lock_values = Int64 (pos 1) ∷ [];
  end_values = Int64 (pos 1) ∷ Str (codes "t1") ∷ [];
  put = record { cells = (record { property = 1; values = Int64 (pos 1) ∷ [] }) ∷ (record { property = 2; values = Str (codes "t1") ∷ [] }) ∷ [] };
  is = refl;
  locks_bare = locks_bare;
  ends_bare = ends_bare;
  lock_key = refl;
  end_key = refl;
  put_is = refl;
  holder_is = refl;
  fits = refl;
}

pub returns-clause-made : goal.returns-clause-made
unfolding digits is_utf8 chars encode_utf8 decode_pairs encode_with lex punctuate items members value after_number word code_unit content short_escape escape_byte print_from number_of scan number_text epoch_at group_at node_at op_at position_in pair_at byte_in byte_where bytes_in bytes_of_len digits_in items_at list_in nested_at option_at whole_of within char_at chars_of tail_in text_in text_of_len cell_in cells_at row_at value_at value_of agree byte_at int32_at int64_at key_at key_front_at marks_at raw_at root_at text_at text_of truth_at unescaped unit_at values_at scattered change_at clause_at clause_step created_at entity_at group_at_of_mega_syntax_reading index_at inside_at items_at_of_mega_syntax_reading name_at name_step names_at need_at placed_step properties_at property_at property_step schema_at statement_at storing_at table_at word_at batch_at cut_in cuts_at cuts_of enter_at entry_at name_at_of_mega_entry_entries plain_at send_at some_op_at write_at event_of plan_of plan_of_parts begun lost recovered taken part_fits transaction_fits transaction_of write_of lock_told plan_line plan_told rows_in has_ends has_locks has_plans has_tables may_write deciding_text end_key end_put finish_text finish_writes free_checks holder_check key_members lock_delete lock_look lock_put no_plan_check own_text part_requests plan_look plan_named plan_put plan_with planning_text prepare_checks prepare_text row_look transaction_text undecided_check transaction_told
returns-clause-made c = record {
  lock_values = Int64 (pos 1) ∷ [];
  put = record { cells = (record { property = 1; values = Int64 (pos 1) ∷ [] }) ∷ (record { property = 2; values = Str (codes "t1") ∷ [] }) ∷ (record { property = 3; values = Truth true ∷ [] }) ∷ [] };
  is = refl;
  locks_bare = locks_bare;
  ends_bare = ends_bare;
  own_free = refl;
  lock_key = refl;
  put_is = refl;
  end_is = refl;
  may_be = refl;
  fits = refl;
}

pub returns-clause-dropped : goal.returns-clause-dropped
unfolding digits is_utf8 chars encode_utf8 decode_pairs encode_with lex punctuate items members value after_number word code_unit content short_escape escape_byte print_from number_of scan number_text epoch_at group_at node_at op_at position_in pair_at byte_in byte_where bytes_in bytes_of_len digits_in items_at list_in nested_at option_at whole_of within char_at chars_of tail_in text_in text_of_len cell_in cells_at row_at value_at value_of agree byte_at int32_at int64_at key_at key_front_at marks_at raw_at root_at text_at text_of truth_at unescaped unit_at values_at scattered change_at clause_at clause_step created_at entity_at group_at_of_mega_syntax_reading index_at inside_at items_at_of_mega_syntax_reading name_at name_step names_at need_at placed_step properties_at property_at property_step schema_at statement_at storing_at table_at word_at batch_at cut_in cuts_at cuts_of enter_at entry_at name_at_of_mega_entry_entries plain_at send_at some_op_at write_at event_of plan_of plan_of_parts begun lost recovered taken part_fits transaction_fits transaction_of write_of lock_told plan_line plan_told rows_in has_ends has_locks has_plans has_tables may_write deciding_text end_key end_put finish_text finish_writes free_checks holder_check key_members lock_delete lock_look lock_put no_plan_check own_text part_requests plan_look plan_named plan_put plan_with planning_text prepare_checks prepare_text row_look transaction_text undecided_check transaction_told
returns-clause-dropped c = record {
  lock_values = Int64 (pos 1) ∷ [];
  put = record { cells = (record { property = 1; values = Int64 (pos 1) ∷ [] }) ∷ (record { property = 2; values = Str (codes "t1") ∷ [] }) ∷ (record { property = 3; values = Truth false ∷ [] }) ∷ [] };
  is = refl;
  locks_bare = locks_bare;
  ends_bare = ends_bare;
  own_free = refl;
  lock_key = refl;
  put_is = refl;
  end_is = refl;
  may_be = refl;
  fits = refl;
}
