-- The steps of a part that is prepared, and of one that is finished.
use Rattle.std.proofs.Common.{◌≡◌, ℕ, ◌&&◌, cond, Bool, true, false, List, [], ◌∷◌, ◌++◌, refl, sym, ap, ◌∙◌, Option, Some, None, option_map}
use Rattle.std.specs.Prelude.{codes, is_none, nat_le}
use Rattle.std.specs.List.{list_any, list_all}
use Rattle.mega_base.specs.declared.values.Value.{Value}
use Rattle.mega_base.specs.declared.values.Value.TheVariants.{Str}
use Rattle.mega_base.specs.declared.values.Row.{Row}
use Rattle.mega_entry.specs.declared.content.Write.{Write}
use Rattle.mega_schema.specs.declared.schema.Table.{Table}
use Rattle.mega_schema.specs.declared.schema.Schema.{Schema}
use Rattle.mega_keys.specs.Spelling.{spell}
use Rattle.mega_index.specs.Rows.{Rows, changed}
use Rattle.mega_index.specs.Fits.{numbered}
use Rattle.mega_index.specs.Fitted.{most_bytes}
use Rattle.mega_outcome.specs.declared.transaction.Check.{Check}
use Rattle.mega_outcome.specs.declared.transaction.Check.TheVariants.{Gone}
use Rattle.mega_outcome.specs.declared.transaction.Change.TheVariants.{Put}
use Rattle.mega_outcome.specs.declared.transaction.Transaction.{Transaction}
use Rattle.mega_outcome.specs.Outcome.{entry_length}
use Rattle.mega_two_laws.specs.Parts.{Part}
use Rattle.mega_two_laws.specs.World.{same, at, World, with_lock, with_rows, Preparing, is_free, prepared}
use Rattle.mega_two_laws.proofs.Names.{same_is, not_same}
use Rattle.mega_two_driver.specs.Tables.{is_local_over}
use Rattle.mega_two_driver.specs.Texts.{lock_table, end_table}
use Rattle.mega_two_driver.specs.Fits.{write_of}
use Rattle.mega_two_outcome_laws.specs.Places.{plans, locks, ends, root_of, place, plan_group, plan_place, lock_place, end_place}
use Rattle.mega_two_outcome_laws.specs.Changes.{deleted, part_by}
use Rattle.mega_two_outcome_laws.specs.Shown.{Stores, plan_in, holder_in, end_in, shown}
use Rattle.mega_two_outcome_laws.specs.Requests.{asking, key_at}
use Rattle.mega_two_outcome_laws.specs.Runs.{writes_of, IsStep}
use Rattle.mega_two_outcome_laws.proofs.Keyed.{one_table, one_rest}
use Rattle.mega_two_outcome_laws.proofs.Checking.{tested, passes, checks_are}
use Rattle.mega_two_outcome_laws.proofs.Named.{one_name, plan_no_lock, plan_no_end, lock_no_end}
use Rattle.mega_two_outcome_laws.proofs.Kept.{changed_self, moved, moved_here, kept, rows_moved, at_away, Alike}
use Rattle.mega_two_outcome_laws.proofs.Outcomes.{only_if, comes_to}
use Rattle.mega_two_outcome_laws.proofs.Planning.{escaped_one, alone_told, away}
use Rattle.mega_two_outcome_laws.proofs.Stepping.{turned_step, done_step, step_by}

-- the group has its tables of locks and of ends
pub record HasTables (s : Schema) (group : List ℕ) : Type 0 where
  pub locks_table : Table
  pub locks_there : numbered s.tables (locks s group) ≡ Some locks_table
  pub ends_table : Table
  pub ends_there : numbered s.tables (ends s group) ≡ Some ends_table
  pub locks_bare : list_any (is_local_over (locks s group)) s.indexes ≡ false
  pub ends_bare : list_any (is_local_over (ends s group)) s.indexes ≡ false

-- ---- the places of plans, locks and ends of one group are different

pub lock_not_plan : (s : Schema) (group : List ℕ) (h : HasTables s group) (name : List ℕ) → group ≡ plan_group s name → lock_place s group ≡ plan_place s name → ⊥
lock_not_plan s group h name here e =
    let same_table : locks s group ≡ plans s = one_table s (locks s group) (plans s) group [] [] (e ∙ ap (λ g. place s (plans s) g []) (sym here)) in
    plan_no_lock (root_of s group) (sym (one_name s (lock_table (root_of s group)) (codes "TwoPlan") (locks s group) h.locks_table h.locks_there refl same_table))

pub end_not_plan : (s : Schema) (group : List ℕ) (h : HasTables s group) (changed name : List ℕ) → group ≡ plan_group s name → end_place s group changed ≡ plan_place s name → ⊥
end_not_plan s group h changed name here e =
    let same_table : ends s group ≡ plans s = one_table s (ends s group) (plans s) group (spell (Str changed)) [] (e ∙ ap (λ g. place s (plans s) g []) (sym here)) in
    plan_no_end (root_of s group) (sym (one_name s (end_table (root_of s group)) (codes "TwoPlan") (ends s group) h.ends_table h.ends_there refl same_table))

pub lock_not_end : (s : Schema) (group : List ℕ) (h : HasTables s group) (name : List ℕ) → lock_place s group ≡ end_place s group name → ⊥
lock_not_end s group h name e =
    let same_table : locks s group ≡ ends s group = one_table s (locks s group) (ends s group) group [] (spell (Str name)) e in
    lock_no_end (root_of s group) (one_name s (lock_table (root_of s group)) (end_table (root_of s group)) (locks s group) h.locks_table h.locks_there refl same_table)

pub other_end : (s : Schema) (group name changed : List ℕ) → end_place s group name ≡ end_place s group changed → name ≡ changed
other_end s group name changed e =
    escaped_one name changed (ap (λ bytes. bytes ++ []) (one_rest s (ends s group) (ends s group) group (spell (Str name)) (spell (Str changed)) e))

-- ---- a part that is prepared

pub record PutsLock (s : Schema) (group name : List ℕ) (row : Row) : Type 0 where
  pub tables : HasTables s group
  pub put : write_of s group (Put (locks s group) row) ≡ Some (record { key = lock_place s group; row = Some row })
  pub short : nat_le (entry_length ((record { key = lock_place s group; row = Some row }) ∷ []) [] []) most_bytes ≡ true
  pub holder : holder_in s group row ≡ name

abbrev pub lock_write : Schema → List ℕ → Row → Write
lock_write s group row = record { key = lock_place s group; row = Some row }

-- the lock stands there, and nothing else is another
put_lock : (s : Schema) (group name : List ℕ) (row : Row) → PutsLock s group name row → (stores : Stores)
    → Alike (shown s (moved group stores (lock_write s group row ∷ []))) (with_rows (with_lock (shown s stores) group name) group (moved group stores (lock_write s group row ∷ []) group))
put_lock s group name row puts stores = record {
  plans = λ other. ap (option_map (plan_in s)) (kept group stores (lock_write s group row ∷ []) (plan_group s other) (plan_place s other) (λ here. (lock_not_plan s group puts.tables other here, tt)));
  locks = the_lock;
  dones = λ other changed. ap (option_map (end_in s other)) (kept group stores (lock_write s group row ∷ []) other (end_place s other changed)
      (λ here. ((λ e. lock_not_end s group puts.tables changed (e ∙ ap (λ g. end_place s g changed) (sym here))), tt)));
  rows = rows_moved group stores stores (moved group stores (lock_write s group row ∷ [])) (λ other is. refl) (λ other is. at_away group _ stores other is);
}
  where
    the_lock : (other : List ℕ) → option_map (holder_in s other) (moved group stores (lock_write s group row ∷ []) other (lock_place s other)) ≡ at group (Some name) (shown s stores).locks other
    the_lock other = by (same group other) refl
      where
        by : (b : Bool) → same group other ≡ b
            → option_map (holder_in s other) (moved group stores (lock_write s group row ∷ []) other (lock_place s other)) ≡ cond b (Some name) ((shown s stores).locks other)
        by true is =
            ap (λ (g : List ℕ). option_map (holder_in s g) (moved group stores (lock_write s group row ∷ []) g (lock_place s g))) (sym (same_is group other is))
            ∙ ap (λ (rows : Rows). option_map (holder_in s group) (rows (lock_place s group))) (moved_here group stores (lock_write s group row ∷ []))
            ∙ ap (option_map (holder_in s group)) (changed_self (stores group) (lock_write s group row))
            ∙ ap Some puts.holder
        by false is = ap (option_map (holder_in s other)) (kept group stores (lock_write s group row ∷ []) other (lock_place s other) (λ here. absurd (not_same group other is here)))

none_mapped : {A B : Type 0} (f : A → B) (o : Option A) → is_none (option_map f o) ≡ is_none o
none_mapped f None = refl
none_mapped f (Some a) = refl

abbrev pub prepare_checks : Schema → Transaction → List Value → List Value → List Check
prepare_checks s own lock_values end_values =
    Gone (record { table = locks s own.group.key; key = lock_values }) ∷ Gone (record { table = ends s own.group.key; key = end_values }) ∷ (own.checks ++ deleted own.writes)

pub preparing_step : (s : Schema) (name : List ℕ) (own : Transaction) (lock_values end_values : List Value) (row : Row)
    → key_at s own.group.key (locks s own.group.key) lock_values ≡ Some (lock_place s own.group.key)
    → key_at s own.group.key (ends s own.group.key) end_values ≡ Some (end_place s own.group.key name)
    → PutsLock s own.group.key name row → (stores : Stores)
    → IsStep s (asking own.group.key (prepare_checks s own lock_values end_values) (Put (locks s own.group.key) row ∷ [])) name (Preparing name (part_by own s)) stores
preparing_step s name own lock_values end_values row lock_ref end_ref puts stores = by (is_free before name part) refl
  where
    group : List ℕ
    group = own.group.key

    part : Part
    part = part_by own s

    before : World
    before = shown s stores

    checks : List Check
    checks = prepare_checks s own lock_values end_values

    txn : Transaction
    txn = asking group checks (Put (locks s group) row ∷ [])

    writes : List Write
    writes = lock_write s group row ∷ []

    test : list_all (passes s group (stores group)) checks ≡ is_free before name part
    test = (λ i. tested (λ key. is_none (stores group key)) (lock_ref i)
        && (tested (λ key. is_none (stores group key)) (end_ref i) && list_all (passes s group (stores group)) (own.checks ++ deleted own.writes)))
        ∙ (λ i. sym (none_mapped (holder_in s group) (stores group (lock_place s group))) i
        && (sym (none_mapped (end_in s group) (stores group (end_place s group name))) i && sym (checks_are s group (stores group) 0 (own.checks ++ deleted own.writes)) i))

    comes : writes_of s txn stores ≡ only_if (is_free before name part) (Some writes)
    comes =
        comes_to s group checks (Put (locks s group) row ∷ []) writes (alone_told s group (locks s group) row (lock_write s group row) puts.put) puts.short ((puts.tables).locks_bare, tt) (stores group)
        ∙ ap (λ b. only_if b (Some writes)) test

    by : (b : Bool) → is_free before name part ≡ b → IsStep s txn name (Preparing name part) stores
    by true is =
        step_by s txn name (Preparing name part) stores (Some writes) (comes ∙ ap (λ b. only_if b (Some writes)) is)
        (done_step s group name (Preparing name part) stores writes (with_lock before group name) (ap (λ b. prepared b before name part) is) (put_lock s group name row puts stores)
        (λ key a other d. away s group (lock_place s group) (Some row) stores key other))
    by false is =
        step_by s txn name (Preparing name part) stores None (comes ∙ ap (λ b. only_if b (Some writes)) is)
        (turned_step s group name (Preparing name part) stores (ap (λ b. prepared b before name part) is))
