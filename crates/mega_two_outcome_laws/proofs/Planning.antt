-- The step of a plan that is put, and of one that is decided.
use Rattle.std.proofs.Common.{◌≡◌, ℕ, ◌&&◌, cond, Bool, true, false, List, [], ◌∷◌, ◌++◌, drop, refl, sym, ap, ◌∙◌, subst, Option, Some, None, Ok, option_map}
use Rattle.std.specs.Prelude.{codes, is_none, nat_le, if◌then◌else◌}
use Rattle.std.specs.List.{list_any}
use Rattle.mega_base.specs.declared.values.Value.{Value}
use Rattle.mega_base.specs.declared.values.Value.TheVariants.{Str}
use Rattle.mega_base.specs.declared.values.Row.{Row}
use Rattle.mega_entry.specs.declared.content.Write.{Write}
use Rattle.mega_schema.specs.declared.schema.Table.{Table}
use Rattle.mega_schema.specs.declared.schema.Schema.{Schema}
use Rattle.mega_schema.specs.Shaping.{shape_of}
use Rattle.mega_keys.specs.Spelling.{spell, spell_all, scattered, scatter_of, escaped, group_bytes}
use Rattle.mega_keys.specs.Reading.{Read, unescaped}
use Rattle.mega_keys.proofs.Again.{unescaped_again}
use Rattle.mega_keys.proofs.Takes.{ok_parts}
use Rattle.mega_index.specs.Rows.{Rows}
use Rattle.mega_entry.specs.Same.{same_values}
use Rattle.mega_index.specs.Fits.{numbered}
use Rattle.mega_index.specs.Fitted.{most_bytes}
use Rattle.mega_outcome.specs.declared.transaction.RowRef.{RowRef}
use Rattle.mega_outcome.specs.declared.transaction.Check.TheVariants.{Gone, Is}
use Rattle.mega_outcome.specs.declared.transaction.Change.TheVariants.{Put}
use Rattle.mega_outcome.specs.declared.transaction.Transaction.{Transaction}
use Rattle.mega_outcome.specs.Checks.{may_be_in, has_values}
use Rattle.mega_outcome.specs.Outcome.{entry_length}
use Rattle.mega_schedule.specs.Values.{properties_of, property_number}
use Rattle.mega_two_laws.specs.Parts.{Part}
use Rattle.mega_two_laws.specs.World.{same, at, Undecided, Made, Dropped, state_of, Plan, new_plan, decided_as, is_undecided, World, with_plan, with_rows, Planning, Deciding, planned, decided, decided_if, run}
use Rattle.mega_two_laws.proofs.Names.{same_is, same_self}
use Rattle.mega_two_driver.specs.Tables.{is_local_over}
use Rattle.mega_two_driver.specs.Texts.{lock_table, end_table}
use Rattle.mega_two_driver.specs.Fits.{write_of, with_write, writes_of as writes_told}
use Rattle.mega_two_outcome_laws.specs.Places.{plans, locks, ends, root_of, place, group_in, plan_group, plan_place, lock_place, end_place}
use Rattle.mega_two_outcome_laws.specs.Changes.{parts_of}
use Rattle.mega_two_outcome_laws.specs.Shown.{Stores, cell, number, state_in, plan_in, shown}
use Rattle.mega_two_outcome_laws.specs.Requests.{asking, key_at}
use Rattle.mega_two_outcome_laws.specs.Runs.{writes_of, IsStep}
use Rattle.mega_two_outcome_laws.proofs.Keyed.{one_table}
use Rattle.mega_two_outcome_laws.proofs.Checking.{tested}
use Rattle.mega_two_outcome_laws.proofs.Named.{one_name, plan_no_lock, plan_no_end}
use Rattle.mega_two_outcome_laws.proofs.Kept.{changed_self, moved, moved_here, kept, rows_moved, at_away, Alike}
use Rattle.mega_two_outcome_laws.proofs.Outcomes.{only_if, comes_to}
use Rattle.mega_two_outcome_laws.proofs.Stepping.{turned_step, done_step, step_by}

-- ---- plans of different names stand in different groups

same_text : (a b : List ℕ) → ◌≡◌ {A = Read (List ℕ)} (Ok (a, [])) (Ok (b, [])) → a ≡ b
same_text a b e = (ok_parts e).0

pub escaped_one : (a b : List ℕ) → escaped a ++ [] ≡ escaped b ++ [] → a ≡ b
escaped_one a b e = same_text a b (sym (unescaped_again a []) ∙ ap unescaped e ∙ unescaped_again b [])

behind_scatter : (scatter : Bool) (vs ws : List Value) (xs ys : List ℕ) → scatter_of scatter vs ++ xs ≡ scatter_of scatter ws ++ ys → xs ≡ ys
unfolding scattered
behind_scatter true vs ws xs ys e = ap (drop 2) e
behind_scatter false vs ws xs ys e = e

pub one_group : (s : Schema) (t : Table) (a b : List ℕ) → numbered s.tables (plans s) ≡ Some t → plan_group s a ≡ plan_group s b → a ≡ b
one_group s t a b there e =
    let same : group_bytes (shape_of s (plans s) t) (Str a ∷ []) ≡ group_bytes (shape_of s (plans s) t) (Str b ∷ []) =
    ap (λ o. group_in s (plans s) o a) (sym there) ∙ e ∙ ap (λ o. group_in s (plans s) o b) there in
    escaped_one a b (behind_scatter (shape_of s (plans s) t).scatter (Str a ∷ []) (Str b ∷ []) (spell_all (Str a ∷ [])) (spell_all (Str b ∷ [])) (ap (drop 1) same))

-- ---- a plan that is written

-- the schema has a table of plans
module _ (s : Schema) (t : Table) (there : numbered s.tables (plans s) ≡ Some t) (name : List ℕ) (row : Row) where
  abbrev its_group : List ℕ
  its_group = plan_group s name

  abbrev its_write : Write
  its_write = record { key = plan_place s name; row = Some row }

  no_lock : (stores : Stores) (other : List ℕ) → moved its_group stores (its_write ∷ []) other (lock_place s other) ≡ stores other (lock_place s other)
  no_lock stores other = kept its_group stores (its_write ∷ []) other (lock_place s other)
      (λ here. (
        λ e. plan_no_lock (root_of s its_group) (one_name s (codes "TwoPlan") (lock_table (root_of s its_group)) (plans s) t there refl
            (one_table s (plans s) (locks s its_group) its_group [] [] (e ∙ ap (lock_place s) (sym here)))),
        tt,
      ))

  no_end : (stores : Stores) (other changed : List ℕ) → moved its_group stores (its_write ∷ []) other (end_place s other changed) ≡ stores other (end_place s other changed)
  no_end stores other changed = kept its_group stores (its_write ∷ []) other (end_place s other changed)
      (λ here. (
        λ e. plan_no_end (root_of s its_group) (one_name s (codes "TwoPlan") (end_table (root_of s its_group)) (plans s) t there refl
            (one_table s (plans s) (ends s its_group) its_group [] (spell (Str changed)) (e ∙ ap (λ g. end_place s g changed) (sym here)))),
        tt,
      ))

  the_plan : (stores : Stores) (other : List ℕ)
      → option_map (plan_in s) (moved its_group stores (its_write ∷ []) (plan_group s other) (plan_place s other)) ≡ at name (Some (plan_in s row)) (shown s stores).plans other
  the_plan stores other = by (same name other) refl
    where
      by : (b : Bool) → same name other ≡ b
          → option_map (plan_in s) (moved its_group stores (its_write ∷ []) (plan_group s other) (plan_place s other)) ≡ cond b (Some (plan_in s row)) ((shown s stores).plans other)
      by true is =
          ap (λ (n : List ℕ). option_map (plan_in s) (moved its_group stores (its_write ∷ []) (plan_group s n) (plan_place s n))) (sym (same_is name other is))
          ∙ ap (λ (rows : Rows). option_map (plan_in s) (rows (plan_place s name))) (moved_here its_group stores (its_write ∷ []))
          ∙ ap (option_map (plan_in s)) (changed_self (stores its_group) its_write)
      by false is =
          ap (option_map (plan_in s)) (kept its_group stores (its_write ∷ []) (plan_group s other) (plan_place s other)
          (λ here. (λ e. absurd (let yes : same name other ≡ true = subst (λ n. same name n ≡ true) (one_group s t name other there here) (same_self name) in cc), tt)))

  -- the plan stands there, and nothing else is another
  pub put_plan : (stores : Stores) → Alike (shown s (moved its_group stores (its_write ∷ []))) (with_rows (with_plan (shown s stores) name (plan_in s row)) its_group (moved its_group stores (its_write ∷ []) its_group))
  put_plan stores = record {
    plans = the_plan stores;
    locks = λ other. ap (option_map _) (no_lock stores other);
    dones = λ other changed. ap (option_map _) (no_end stores other changed);
    rows = rows_moved its_group stores stores (moved its_group stores (its_write ∷ [])) (λ other is. refl) (λ other is. at_away its_group _ stores other is);
  }

-- ---- steps

pub away : (s : Schema) (group place : List ℕ) (row : Option Row) (stores : Stores) (key : List ℕ) → (key ≡ place → ⊥) → moved group stores ((record { key = place; row = row }) ∷ []) group key ≡ stores group key
away s group place row stores key other = kept group stores ((record { key = place; row = row }) ∷ []) group key (λ here. ((λ e. other (sym e)), tt))

pub alone_told : (s : Schema) (group : List ℕ) (n : ℕ) (row : Row) (write : Write) → write_of s group (Put n row) ≡ Some write → writes_told s group (Put n row ∷ []) ≡ Some (write ∷ [])
alone_told s group n row write e = ap (λ o. with_write o (Some [])) e

pub record Puts (s : Schema) (name : List ℕ) (row : Row) : Type 0 where
  pub table : Table
  pub there : numbered s.tables (plans s) ≡ Some table
  pub put : write_of s (plan_group s name) (Put (plans s) row) ≡ Some (record { key = plan_place s name; row = Some row })
  pub short : nat_le (entry_length ((record { key = plan_place s name; row = Some row }) ∷ []) [] []) most_bytes ≡ true
  pub bare : list_any (is_local_over (plans s)) s.indexes ≡ false

pub planning_step : (s : Schema) (name line : List ℕ) (values : List Value) (row : Row) → key_at s (plan_group s name) (plans s) values ≡ Some (plan_place s name)
    → Puts s name row → plan_in s row ≡ new_plan (parts_of s line) → (stores : Stores)
    → IsStep s (asking (plan_group s name) (Gone (record { table = plans s; key = values }) ∷ []) (Put (plans s) row ∷ [])) name (Planning name (parts_of s line)) stores
planning_step s name line values row ref puts plan_is stores = by (stores group (plan_place s name)) refl
  where
    group : List ℕ
    group = plan_group s name

    write : Write
    write = record { key = plan_place s name; row = Some row }

    txn : Transaction
    txn = asking group (Gone (record { table = plans s; key = values }) ∷ []) (Put (plans s) row ∷ [])

    parts : List Part
    parts = parts_of s line

    before : World
    before = shown s stores

    comes : writes_of s txn stores ≡ only_if (is_none (stores group (plan_place s name)) && true) (Some (write ∷ []))
    comes =
        comes_to s group (Gone (record { table = plans s; key = values }) ∷ []) (Put (plans s) row ∷ []) (write ∷ []) (alone_told s group (plans s) row write puts.put) puts.short (puts.bare, tt) (stores group)
        ∙ ap (λ o. only_if (tested (λ key. is_none (stores group key)) o && true) (Some (write ∷ []))) ref

    by : (o : Option Row) → stores group (plan_place s name) ≡ o → IsStep s txn name (Planning name parts) stores
    by None is =
        step_by s txn name (Planning name parts) stores (Some (write ∷ [])) (comes ∙ ap (λ o. only_if (is_none o && true) (Some (write ∷ []))) is)
        (done_step s group name (Planning name parts) stores (write ∷ []) (with_plan before name (new_plan parts)) (ap (λ o. planned before name parts (option_map (plan_in s) o)) is)
        (subst (λ plan. Alike (shown s (moved group stores (write ∷ []))) (with_rows (with_plan before name plan) group (moved group stores (write ∷ []) group))) plan_is (put_plan s puts.table puts.there name row stores))
        (λ key other b d. away s group (plan_place s name) (Some row) stores key other))
    by (Some old) is =
        step_by s txn name (Planning name parts) stores None (comes ∙ ap (λ o. only_if (is_none o && true) (Some (write ∷ []))) is)
        (turned_step s group name (Planning name parts) stores (ap (λ o. planned before name parts (option_map (plan_in s) o)) is))

undecided : (values : List Value) → is_undecided (state_in values) ≡ same_values values (number 0)
undecided values = by (same_values values (number 0)) (same_values values (number 1))
  where
    by : (a b : Bool) → is_undecided (if a then Undecided else (if b then Made else Dropped)) ≡ a
    by true b = refl
    by false true = refl
    by false false = refl

-- the state of the plan, as it is checked
abbrev pub state_check : Schema → List Value → RowRef × ℕ
state_check s values = (record { table = plans s; key = values }, property_number (properties_of (numbered s.tables (plans s))) (codes "state"))

pub deciding_step : (s : Schema) (name line : List ℕ) (made : Bool) (values : List Value) (row : Row) → key_at s (plan_group s name) (plans s) values ≡ Some (plan_place s name)
    → may_be_in (numbered s.tables (plans s)) (state_check s values).1 (number 0) ≡ true
    → Puts s name row → plan_in s row ≡ record { state = state_of made; parts = parts_of s line } → (stores : Stores)
    → ((plan : Plan) → (shown s stores).plans name ≡ Some plan → plan.parts ≡ parts_of s line)
    → IsStep s (asking (plan_group s name) (Is (state_check s values).0 (state_check s values).1 (number 0) ∷ []) (Put (plans s) row ∷ [])) name (Deciding name made) stores
deciding_step s name line made values row ref may puts plan_is stores same_parts = by (stores group (plan_place s name)) refl
  where
    group : List ℕ
    group = plan_group s name

    write : Write
    write = record { key = plan_place s name; row = Some row }

    property : ℕ
    property = (state_check s values).1

    txn : Transaction
    txn = asking group (Is (state_check s values).0 property (number 0) ∷ []) (Put (plans s) row ∷ [])

    before : World
    before = shown s stores

    comes : writes_of s txn stores ≡ only_if (has_values (stores group (plan_place s name)) property (number 0) && true) (Some (write ∷ []))
    comes =
        comes_to s group (Is (state_check s values).0 property (number 0) ∷ []) (Put (plans s) row ∷ []) (write ∷ []) (alone_told s group (plans s) row write puts.put) puts.short (puts.bare, tt) (stores group)
        ∙ ap (λ o. only_if (tested (λ key. may_be_in (numbered s.tables (plans s)) property (number 0) && has_values (stores group key) property (number 0)) o && true) (Some (write ∷ []))) ref
        ∙ ap (λ b. only_if ((b && has_values (stores group (plan_place s name)) property (number 0)) && true) (Some (write ∷ []))) may

    runs : (o : Option Row) → stores group (plan_place s name) ≡ o → run before (Deciding name made) ≡ decided before name made (option_map (plan_in s) o)
    runs o is = ap (λ p. decided before name made (option_map (plan_in s) p)) is

    test : (old : Row) (b : Bool) → same_values (cell s (plans s) (codes "state") old) (number 0) ≡ b → decided before name made (Some (plan_in s old)) ≡ decided_if b before name made (plan_in s old)
    test old b is = ap (λ x. decided_if x before name made (plan_in s old)) (undecided (cell s (plans s) (codes "state") old) ∙ is)

    decided_plan : (old : Row) → stores group (plan_place s name) ≡ Some old → plan_in s row ≡ decided_as made (plan_in s old)
    decided_plan old is = plan_is ∙ ap (λ (parts : List Part). record { state = state_of made; parts = parts }) (sym (same_parts (plan_in s old) (ap (option_map (plan_in s)) is)))

    at_row : (old : Row) → stores group (plan_place s name) ≡ Some old → (b : Bool) → same_values (cell s (plans s) (codes "state") old) (number 0) ≡ b → IsStep s txn name (Deciding name made) stores
    at_row old is true test_is =
        step_by s txn name (Deciding name made) stores (Some (write ∷ [])) (comes ∙ ap (λ o. only_if (has_values o property (number 0) && true) (Some (write ∷ []))) is ∙ ap (λ b. only_if (b && true) (Some (write ∷ []))) test_is)
        (done_step s group name (Deciding name made) stores (write ∷ []) (with_plan before name (decided_as made (plan_in s old))) (runs (Some old) is ∙ test old true test_is)
        (subst (λ plan. Alike (shown s (moved group stores (write ∷ []))) (with_rows (with_plan before name plan) group (moved group stores (write ∷ []) group))) (decided_plan old is) (put_plan s puts.table puts.there name row stores))
        (λ key other b d. away s group (plan_place s name) (Some row) stores key other))
    at_row old is false test_is =
        step_by s txn name (Deciding name made) stores None (comes ∙ ap (λ o. only_if (has_values o property (number 0) && true) (Some (write ∷ []))) is ∙ ap (λ b. only_if (b && true) (Some (write ∷ []))) test_is)
        (turned_step s group name (Deciding name made) stores (runs (Some old) is ∙ test old false test_is))

    by : (o : Option Row) → stores group (plan_place s name) ≡ o → IsStep s txn name (Deciding name made) stores
    by None is =
        step_by s txn name (Deciding name made) stores None (comes ∙ ap (λ o. only_if (has_values o property (number 0) && true) (Some (write ∷ []))) is)
        (turned_step s group name (Deciding name made) stores (runs None is))
    by (Some old) is = at_row old is (same_values (cell s (plans s) (codes "state") old) (number 0)) refl
