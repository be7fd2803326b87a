-- The step of a part that is finished, with its writes or without.
use Rattle.std.proofs.Common.{◌≡◌, ℕ, ◌&&◌, cond, Bool, true, false, List, [], ◌∷◌, ◌++◌, refl, sym, ap, ◌∙◌, Option, Some, None, Result, Ok, Err, option_map}
use Rattle.std.specs.Prelude.{codes, is_some, nat_le, if◌then◌else◌}
use Rattle.std.specs.Result.{result_ok}
use Rattle.std.proofs.lemmas.Bool.{false≢true}
use Rattle.mega_base.specs.declared.values.Value.{Value}
use Rattle.mega_base.specs.declared.values.Value.TheVariants.{Int32, Int64, Bool as Truth, Str, Raw}
use Rattle.mega_base.specs.declared.values.Row.{Row}
use Rattle.mega_entry.specs.declared.content.Write.{Write}
use Rattle.mega_schema.specs.declared.schema.Schema.{Schema}
use Rattle.mega_index.specs.Rows.{Rows, changed, written}
use Rattle.mega_entry.specs.Same.{same_bytes, same_values}
use Rattle.mega_index.specs.Fits.{numbered}
use Rattle.mega_index.specs.Fitted.{most_bytes}
use Rattle.mega_index.proofs.SameLemmas.{same_values-Decides}
use Rattle.mega_outcome.specs.declared.answer.Turn.{Turn}
use Rattle.mega_outcome.specs.declared.transaction.Check.{Check}
use Rattle.mega_outcome.specs.declared.transaction.Check.TheVariants.{Is}
use Rattle.mega_outcome.specs.declared.transaction.Change.{Change}
use Rattle.mega_outcome.specs.declared.transaction.Change.TheVariants.{Put, Delete}
use Rattle.mega_outcome.specs.declared.transaction.Transaction.{Transaction}
use Rattle.mega_outcome.specs.Checks.{may_be_in, has_values}
use Rattle.mega_outcome.specs.Changes.{all_changes}
use Rattle.mega_outcome.specs.Outcome.{entry_length}
use Rattle.mega_schedule.specs.Values.{properties_of, property_number}
use Rattle.mega_two_laws.specs.Parts.{Part}
use Rattle.mega_two_laws.specs.World.{same, at, World, with_done, with_rows, Request, Finishing, Turned, rows_behind, finished_with, finished, run}
use Rattle.mega_two_laws.proofs.Names.{same_is, not_same, at_self}
use Rattle.mega_two_driver.specs.Fits.{writes_of as writes_told}
use Rattle.mega_two_outcome_laws.specs.Places.{locks, ends, plan_group, plan_place, lock_place, end_place}
use Rattle.mega_two_outcome_laws.specs.Changes.{rows_after, part_by}
use Rattle.mega_two_outcome_laws.specs.Shown.{Stores, cell, plan_in, text_in, holder_in, end_in, shown}
use Rattle.mega_two_outcome_laws.specs.Requests.{asking, key_at, own_changes}
use Rattle.mega_two_outcome_laws.specs.Runs.{writes_of, IsStep}
use Rattle.mega_two_outcome_laws.proofs.Checking.{tested}
use Rattle.mega_two_outcome_laws.proofs.Changing.{AreBare, may_be, may_be_made, all_or_none, changes_are, are_made}
use Rattle.mega_two_outcome_laws.proofs.Kept.{Spare, spare_both, changed_self, changed_other, written_other, written_both, moved, moved_here, kept, rows_moved, at_away, Alike}
use Rattle.mega_two_outcome_laws.proofs.Outcomes.{only_if, comes_to}
use Rattle.mega_two_outcome_laws.proofs.Locking.{HasTables, lock_not_plan, end_not_plan, lock_not_end, other_end}
use Rattle.mega_two_outcome_laws.proofs.Stepping.{turned_step, done_step, step_by}

-- ---- the writes of a finish: the part's own, the lock's deletion, and the end

abbrev pub lock_gone : Schema → List ℕ → Write
lock_gone s group = record { key = lock_place s group; row = None }

abbrev pub end_write : Schema → List ℕ → List ℕ → Row → Write
end_write s group name row = record { key = end_place s group name; row = Some row }

abbrev pub closing : Schema → List ℕ → List ℕ → Row → List Write
closing s group name row = lock_gone s group ∷ end_write s group name row ∷ []

-- the part's own writes are under no key of a plan, a lock or an end
pub record AreOwn (s : Schema) (group : List ℕ) (writes : List Write) : Type 0 where
  pub no_plan : (name : List ℕ) → group ≡ plan_group s name → Spare (plan_place s name) writes
  pub no_lock : Spare (lock_place s group) writes
  pub no_end : (name : List ℕ) → Spare (end_place s group name) writes

pub record Closes (s : Schema) (group name : List ℕ) (made : Bool) (row : Row) : Type 0 where
  pub tables : HasTables s group
  pub is_end : end_in s group row ≡ made

module _ (s : Schema) (group name : List ℕ) (made : Bool) (row : Row) (closes : Closes s group name made row) (own : List Write) (apart : AreOwn s group own) (stores : Stores) where
  abbrev all : List Write
  all = own ++ closing s group name row

  abbrev after : Stores
  after = moved group stores all

  spare_all : (key : List ℕ) → Spare key own → (lock_place s group ≡ key → ⊥) → (end_place s group name ≡ key → ⊥) → Spare key all
  spare_all key mine lock end = spare_both key own (closing s group name row) mine (lock, (end, tt))

  the_plans : (other : List ℕ) → after (plan_group s other) (plan_place s other) ≡ stores (plan_group s other) (plan_place s other)
  the_plans other = kept group stores all (plan_group s other) (plan_place s other)
      (λ here. spare_all (plan_place s other) (apart.no_plan other here) (lock_not_plan s group closes.tables other here) (end_not_plan s group closes.tables name other here))

  -- the rows behind in its group
  here_after : (key : List ℕ) → after group key ≡ written (closing s group name row) (written own (stores group)) key
  here_after key = ap (λ (rows : Rows). rows key) (moved_here group stores all ∙ written_both own (closing s group name row) (stores group))

  lock_gone_now : after group (lock_place s group) ≡ None
  lock_gone_now =
      here_after (lock_place s group)
      ∙ changed_other (changed (written own (stores group)) (lock_gone s group)) (end_write s group name row) (lock_place s group) (λ e. lock_not_end s group closes.tables name (sym e))
      ∙ changed_self (written own (stores group)) (lock_gone s group)

  end_now : after group (end_place s group name) ≡ Some row
  end_now = here_after (end_place s group name) ∙ changed_self (changed (written own (stores group)) (lock_gone s group)) (end_write s group name row)

  the_locks : (other : List ℕ) → option_map (holder_in s other) (after other (lock_place s other)) ≡ at group None (shown s stores).locks other
  the_locks other = by (same group other) refl
    where
      by : (b : Bool) → same group other ≡ b → option_map (holder_in s other) (after other (lock_place s other)) ≡ cond b None ((shown s stores).locks other)
      by true is =
          ap (λ (g : List ℕ). option_map (holder_in s g) (after g (lock_place s g))) (sym (same_is group other is)) ∙ ap (option_map (holder_in s group)) lock_gone_now
      by false is = ap (option_map (holder_in s other)) (kept group stores all other (lock_place s other) (λ here. absurd (not_same group other is here)))

  the_ends : (other other_name : List ℕ) → option_map (end_in s other) (after other (end_place s other other_name)) ≡ at group (at name (Some made) ((shown s stores).dones group)) (shown s stores).dones other other_name
  the_ends other other_name = by (same group other) refl
    where
      here : (b : Bool) → same name other_name ≡ b → option_map (end_in s group) (after group (end_place s group other_name)) ≡ cond b (Some made) ((shown s stores).dones group other_name)
      here true is =
          ap (λ (n : List ℕ). option_map (end_in s group) (after group (end_place s group n))) (sym (same_is name other_name is)) ∙ ap (option_map (end_in s group)) end_now ∙ ap Some closes.is_end
      here false is =
          ap (option_map (end_in s group)) (kept group stores all group (end_place s group other_name)
          (λ same_group. spare_all (end_place s group other_name) (apart.no_end other_name) (lock_not_end s group closes.tables other_name) (λ e. not_same name other_name is (other_end s group name other_name e))))

      by : (b : Bool) → same group other ≡ b
          → option_map (end_in s other) (after other (end_place s other other_name)) ≡ cond b (at name (Some made) ((shown s stores).dones group)) ((shown s stores).dones other) other_name
      by true is =
          ap (λ (g : List ℕ). option_map (end_in s g) (after g (end_place s g other_name))) (sym (same_is group other is)) ∙ here (same name other_name) refl
      by false is = ap (option_map (end_in s other)) (kept group stores all other (end_place s other other_name) (λ same_group. absurd (not_same group other is same_group)))

  pub close : (rows : Rows) → Alike (shown s after) (with_rows (with_done (shown s stores) group name made rows) group (after group))
  close rows = record {
    plans = λ other. ap (option_map (plan_in s)) (the_plans other);
    locks = the_locks;
    dones = the_ends;
    rows = rows_moved group stores (at group rows stores) after (λ other is. at_away group rows stores other is) (λ other is. at_away group _ stores other is);
  }

  pub close_others : (key : List ℕ) → (key ≡ plan_place s name → ⊥) → (key ≡ lock_place s group → ⊥) → (key ≡ end_place s group name → ⊥)
      → after group key ≡ (with_done (shown s stores) group name made (written own (stores group))).rows group key
  close_others key plan lock end =
      here_after key
      ∙ changed_other (changed (written own (stores group)) (lock_gone s group)) (end_write s group name row) key (λ e. end (sym e))
      ∙ changed_other (written own (stores group)) (lock_gone s group) key (λ e. lock (sym e))
      ∙ ap (λ (rows : Rows). rows key) (sym (at_self group (written own (stores group)) stores))

-- ---- the step

text_self : (text name : List ℕ) → same_values (Str text ∷ []) (Str name ∷ []) ≡ same text name
text_self text name = by (same_values (Str text ∷ []) (Str name ∷ [])) (same text name) refl refl
  where
    one : (a b : List ℕ) → ◌≡◌ {A = List Value} (Str a ∷ []) (Str b ∷ []) → a ≡ b
    one a b e = cc

    by : (a b : Bool) → same_values (Str text ∷ []) (Str name ∷ []) ≡ a → same text name ≡ b → a ≡ b
    by true true e f = refl
    by false false e f = refl
    by true false e f = absurd (not_same text name f (one text name ((same_values-Decides (Str text ∷ []) (Str name ∷ [])).0 e)))
    by false true e f =
        absurd (false≢true (sym e ∙ (same_values-Decides (Str text ∷ []) (Str name ∷ [])).1 (ap (λ (t : List ℕ). Str t ∷ []) (same_is text name f))))

-- the holder's name is this one
holder_is : (values : List Value) (c : ℕ) (name : List ℕ) → same_values values (Str (c ∷ name) ∷ []) ≡ same (text_in values) (c ∷ name)
holder_is [] c name = refl
holder_is (Str text ∷ []) c name = text_self text (c ∷ name)
holder_is (Int32 z ∷ []) c name = refl
holder_is (Int64 z ∷ []) c name = refl
holder_is (Truth b ∷ []) c name = refl
holder_is (Raw bytes ∷ []) c name = refl
holder_is (v ∷ w ∷ values) c name = longer v w values
  where
    longer : (v w : Value) (values : List Value) → same_values (v ∷ w ∷ values) (Str (c ∷ name) ∷ []) ≡ same (text_in (v ∷ w ∷ values)) (c ∷ name)
    longer (Int32 z) w values = refl
    longer (Int64 z) w values = refl
    longer (Truth b) w values = refl
    longer (Str text) w values = by (same_bytes text (c ∷ name))
      where
        by : (b : Bool) → (b && false) ≡ false
        by true = refl
        by false = refl
    longer (Raw bytes) w values = refl

-- the check that the group is locked for this change
abbrev pub lock_check : Schema → List ℕ → List ℕ → List Value → Check
lock_check s group name values =
    Is (record { table = locks s group; key = values }) (property_number (properties_of (numbered s.tables (locks s group))) (codes "gid")) (Str name ∷ [])

pub record PutsEnd (s : Schema) (name : List ℕ) (made : Bool) (own : Transaction) (lock_values : List Value) (row : Row) : Type 0 where
  pub closes : Closes s own.group.key name made row
  pub writes : List Write
  pub own_told : writes_told s own.group.key (own_changes made own.writes) ≡ Some writes
  pub own_bare : AreBare s (own_changes made own.writes)
  pub own_apart : AreOwn s own.group.key writes
  pub all_told : writes_told s own.group.key (own_changes made own.writes ++ Delete (record { table = locks s own.group.key; key = lock_values }) ∷ Put (ends s own.group.key) row ∷ [])
      ≡ Some (writes ++ closing s own.group.key name row)
  pub all_bare : AreBare s (own_changes made own.writes ++ Delete (record { table = locks s own.group.key; key = lock_values }) ∷ Put (ends s own.group.key) row ∷ [])
  pub short : nat_le (entry_length (writes ++ closing s own.group.key name row) [] []) most_bytes ≡ true
  pub may : may_be_in (numbered s.tables (locks s own.group.key)) (property_number (properties_of (numbered s.tables (locks s own.group.key))) (codes "gid")) (Str name ∷ []) ≡ true

may_be_both : (rows : Rows) (xs ys : List Write) → may_be rows (xs ++ ys) ≡ may_be rows xs && may_be (written xs rows) ys
may_be_both rows [] ys = refl
may_be_both rows (w ∷ xs) ys = ap (λ b. may_be_made rows w && b) (may_be_both (changed rows w) xs ys) ∙ regroup (may_be_made rows w) (may_be (changed rows w) xs) (may_be (written xs (changed rows w)) ys)
  where
    regroup : (a b d : Bool) → (a && (b && d)) ≡ ((a && b) && d)
    regroup true b d = refl
    regroup false b d = refl

after_is : (rows : Rows) (r : Result (List Write) Turn) → rows_after rows r ≡ option_map (λ ws. written ws rows) (result_ok r)
after_is rows (Ok writes) = refl
after_is rows (Err turn) = refl

behind_is : (s : Schema) (made : Bool) (own : Transaction) (writes : List Write) → writes_told s own.group.key (own_changes made own.writes) ≡ Some writes → AreBare s (own_changes made own.writes) → (rows : Rows)
    → rows_behind made (part_by own s) rows ≡ option_map (λ ws. written ws rows) (all_or_none (may_be rows writes) writes)
behind_is s true own writes are bare rows =
    after_is rows (all_changes s own.group.key rows 0 own.writes)
    ∙ ap (option_map (λ ws. written ws rows)) (changes_are s own.group.key own.writes writes (are_made s own.group.key own.writes writes are bare) rows 0)
behind_is s false own [] are bare rows = refl
behind_is s false own (w ∷ writes) are bare rows = absurd (cc)

pub finishing_step : (s : Schema) (c : ℕ) (letters : List ℕ) (made : Bool) (own : Transaction) (values : List Value) (row : Row)
    → key_at s own.group.key (locks s own.group.key) values ≡ Some (lock_place s own.group.key)
    → PutsEnd s (c ∷ letters) made own values row → (stores : Stores)
    → IsStep s (asking own.group.key (lock_check s own.group.key (c ∷ letters) values ∷ [])
    (own_changes made own.writes ++ Delete (record { table = locks s own.group.key; key = values }) ∷ Put (ends s own.group.key) row ∷ [])) (c ∷ letters) (Finishing (c ∷ letters) made (part_by own s)) stores
finishing_step s c letters made own values row ref puts stores = by (rows (lock_place s group)) refl
  where
    name : List ℕ
    name = c ∷ letters

    group : List ℕ
    group = own.group.key

    rows : Rows
    rows = stores group

    part : Part
    part = part_by own s

    before : World
    before = shown s stores

    gid : ℕ
    gid = property_number (properties_of (numbered s.tables (locks s group))) (codes "gid")

    changes : List Change
    changes = own_changes made own.writes ++ Delete (record { table = locks s group; key = values }) ∷ Put (ends s group) row ∷ []

    txn : Transaction
    txn = asking group (lock_check s group name values ∷ []) changes

    request : Request
    request = Finishing name made part

    all_writes : List Write
    all_writes = puts.writes ++ closing s group name row

    lock_there : may_be rows all_writes ≡ may_be rows puts.writes && is_some (rows (lock_place s group))
    lock_there =
        may_be_both rows puts.writes (closing s group name row)
        ∙ ap (λ o. may_be rows puts.writes && (is_some o && true)) (written_other puts.writes rows (lock_place s group) (puts.own_apart).no_lock)
        ∙ ap (λ b. may_be rows puts.writes && b) (no_change (is_some (rows (lock_place s group))))
      where
        no_change : (b : Bool) → (b && true) ≡ b
        no_change true = refl
        no_change false = refl

    comes : writes_of s txn stores ≡ only_if (has_values (rows (lock_place s group)) gid (Str name ∷ []) && true) (all_or_none (may_be rows puts.writes && is_some (rows (lock_place s group))) all_writes)
    comes =
        comes_to s group (lock_check s group name values ∷ []) changes all_writes puts.all_told puts.short puts.all_bare rows
        ∙ (λ i. only_if (tested (λ key. may_be_in (numbered s.tables (locks s group)) gid (Str name ∷ []) && has_values (rows key) gid (Str name ∷ [])) (ref i) && true) (all_or_none (lock_there i) all_writes))
        ∙ ap (λ b. only_if ((b && has_values (rows (lock_place s group)) gid (Str name ∷ [])) && true) (all_or_none (may_be rows puts.writes && is_some (rows (lock_place s group))) all_writes)) puts.may

    done_at : (old : Row) → rows (lock_place s group) ≡ Some old → same_values (cell s (locks s group) (codes "gid") old) (Str name ∷ []) ≡ true
        → writes_of s txn stores ≡ all_or_none (may_be rows puts.writes && true) all_writes
    done_at old is test =
        comes ∙ ap (λ o. only_if (has_values o gid (Str name ∷ []) && true) (all_or_none (may_be rows puts.writes && is_some o) all_writes)) is
        ∙ ap (λ b. only_if (b && true) (all_or_none (may_be rows puts.writes && true) all_writes)) test

    runs : (old : Row) → rows (lock_place s group) ≡ Some old → (b : Bool) → same_values (cell s (locks s group) (codes "gid") old) (Str name ∷ []) ≡ b
        → run before request ≡ (if b then finished_with before name made part (option_map (λ ws. written ws rows) (all_or_none (may_be rows puts.writes) puts.writes)) else (before, Turned))
    runs old is b test =
        ap (λ o. finished before name made part (option_map (holder_in s group) o)) is
        ∙ ap (λ x. if x then finished_with before name made part (rows_behind made part rows) else (before, Turned)) (sym (holder_is (cell s (locks s group) (codes "gid") old) c letters) ∙ test)
        ∙ ap (λ o. if b then finished_with before name made part o else (before, Turned)) (behind_is s made own puts.writes puts.own_told puts.own_bare rows)

    held : (old : Row) → rows (lock_place s group) ≡ Some old → same_values (cell s (locks s group) (codes "gid") old) (Str name ∷ []) ≡ true → (m : Bool) → may_be rows puts.writes ≡ m → IsStep s txn name request stores
    held old is test true fits =
        step_by s txn name request stores (Some all_writes) (done_at old is test ∙ ap (λ m. all_or_none (m && true) all_writes) fits)
        (done_step s group name request stores all_writes (with_done before group name made (written puts.writes rows))
        (runs old is true test ∙ ap (λ m. finished_with before name made part (option_map (λ ws. written ws rows) (all_or_none m puts.writes))) fits)
        (close s group name made row puts.closes puts.writes puts.own_apart stores (written puts.writes rows))
        (close_others s group name made row puts.closes puts.writes puts.own_apart stores))
    held old is test false fits =
        step_by s txn name request stores None (done_at old is test ∙ ap (λ m. all_or_none (m && true) all_writes) fits)
        (turned_step s group name request stores (runs old is true test ∙ ap (λ m. finished_with before name made part (option_map (λ ws. written ws rows) (all_or_none m puts.writes))) fits))

    at_row : (old : Row) → rows (lock_place s group) ≡ Some old → (b : Bool) → same_values (cell s (locks s group) (codes "gid") old) (Str name ∷ []) ≡ b → IsStep s txn name request stores
    at_row old is true test = held old is test (may_be rows puts.writes) refl
    at_row old is false test =
        step_by s txn name request stores None
        (comes ∙ ap (λ o. only_if (has_values o gid (Str name ∷ []) && true) (all_or_none (may_be rows puts.writes && is_some o) all_writes)) is
        ∙ ap (λ b. only_if (b && true) (all_or_none (may_be rows puts.writes && true) all_writes)) test)
        (turned_step s group name request stores (runs old is false test))

    by : (o : Option Row) → rows (lock_place s group) ≡ o → IsStep s txn name request stores
    by None is =
        step_by s txn name request stores None
        (comes ∙ ap (λ o. only_if (has_values o gid (Str name ∷ []) && true) (all_or_none (may_be rows puts.writes && is_some o) all_writes)) is)
        (turned_step s group name request stores (ap (λ o. finished before name made part (option_map (holder_in s group) o)) is))
    by (Some old) is = at_row old is (same_values (cell s (locks s group) (codes "gid") old) (Str name ∷ [])) refl
