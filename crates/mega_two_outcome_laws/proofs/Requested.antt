-- A transaction that is a request is its step.
use Rattle.std.proofs.Common.{◌≡◌, ℕ, Bool, true, false, List, [], ◌∷◌, ◌++◌, refl, sym, ap, ◌∙◌, subst, Option, Some, None}
use Rattle.std.specs.Prelude.{codes, nat_le}
use Rattle.std.specs.List.{list_all}
use Rattle.mega_base.specs.declared.values.Value.{Value}
use Rattle.mega_base.specs.declared.values.Value.TheVariants.{Str}
use Rattle.mega_base.specs.declared.values.Row.{Row}
use Rattle.mega_entry.specs.declared.content.Write.{Write}
use Rattle.mega_schema.specs.declared.schema.Schema.{Schema}
use Rattle.mega_index.specs.Fitted.{most_bytes}
use Rattle.mega_outcome.specs.declared.transaction.Check.{Check}
use Rattle.mega_outcome.specs.declared.transaction.Check.TheVariants.{Gone, Is}
use Rattle.mega_outcome.specs.declared.transaction.Change.{Change}
use Rattle.mega_outcome.specs.declared.transaction.Change.TheVariants.{Put, Delete}
use Rattle.mega_outcome.specs.declared.transaction.Transaction.{Transaction}
use Rattle.mega_outcome.specs.Outcome.{entry_length}
use Rattle.mega_two_laws.specs.World.{State, Undecided, state_of, Plan, Planning, Preparing, Deciding, Finishing}
use Rattle.mega_two_driver.specs.Tables.{may_write}
use Rattle.mega_two_driver.specs.Lines.{is_name}
use Rattle.mega_two_driver.specs.Fits.{table_of, write_of, write_under, with_write, writes_of as writes_told, transaction_fits}
use Rattle.mega_two_outcome_laws.specs.Places.{plans, locks, ends, plan_group, plan_place, lock_place}
use Rattle.mega_two_outcome_laws.specs.Changes.{parts_of, deleted, part_by}
use Rattle.mega_two_outcome_laws.specs.Shown.{Stores, bytes_in, plan_in, number, shown}
use Rattle.mega_two_outcome_laws.specs.Runs.{IsStep}
use Rattle.mega_two_outcome_laws.specs.Requests.{asking, row, key_at, number_in, IsBare, PutsPlan, IsPlanning, IsDeciding, IsPreparing, own_changes, IsFinishing}
use Rattle.mega_two_outcome_laws.proofs.Changing.{AreBare, are_made}
use Rattle.mega_two_outcome_laws.proofs.Outcomes.{Fit, fit}
use Rattle.mega_two_outcome_laws.proofs.Planning.{Puts, alone_told, planning_step, deciding_step}
use Rattle.mega_two_outcome_laws.proofs.Locking.{HasTables, preparing_step}
use Rattle.mega_two_outcome_laws.proofs.Finishing.{closing, PutsEnd, finishing_step}
use Rattle.mega_two_outcome_laws.proofs.Own.{own_bare, own_apart, TwoParts, two_parts}

same_list : (xs ys : List Write) → ◌≡◌ {A = Option (List Write)} (Some xs) (Some ys) → xs ≡ ys
same_list xs ys e = cc

short_of : (s : Schema) (group : List ℕ) (checks : List Check) (changes : List Change) (writes : List Write) → transaction_fits s (asking group checks changes) ≡ true → writes_told s group changes ≡ Some writes
    → nat_le (entry_length writes [] []) most_bytes ≡ true
short_of s group checks changes writes e are =
    let f = fit s group checks changes e in
    subst (λ ws. nat_le (entry_length ws [] []) most_bytes ≡ true) (same_list f.writes writes (sym f.are ∙ are)) f.short

-- ---- plans

puts_plan : (s : Schema) (name line : List ℕ) (state : State) (values : List Value) (put : Row) (check : Check) → PutsPlan s name line state values put
    → transaction_fits s (asking (plan_group s name) (check ∷ []) (Put (plans s) put ∷ [])) ≡ true → Puts s name put
puts_plan s name line state values put check p fits = record {
  table = (p.tables).table;
  there = (p.tables).there;
  put = p.put_is;
  short = short_of s (plan_group s name) (check ∷ []) (Put (plans s) put ∷ []) ((record { key = plan_place s name; row = Some put }) ∷ []) fits
      (alone_told s (plan_group s name) (plans s) put (record { key = plan_place s name; row = Some put }) p.put_is);
  bare = (p.tables).bare;
}

the_plan : (s : Schema) (name line : List ℕ) (state : State) (values : List Value) (put : Row) → PutsPlan s name line state values put → plan_in s put ≡ record { state = state; parts = parts_of s line }
the_plan s name line state values put p i = record { state = p.state_is i; parts = parts_of s (bytes_in (p.line_is i)) }

pub planned_so : (s : Schema) (name line : List ℕ) (txn : Transaction) (stores : Stores) → IsPlanning s name line txn → IsStep s txn name (Planning name (parts_of s line)) stores
planned_so s name line txn stores p =
    let asked = asking (plan_group s name) (Gone (row (plans s) p.values) ∷ []) (Put (plans s) p.put ∷ []) in
    let fits : transaction_fits s asked ≡ true = ap (transaction_fits s) (sym p.is) ∙ p.fits in
    subst (λ t. IsStep s t name (Planning name (parts_of s line)) stores) (sym p.is)
    (planning_step s name line p.values p.put (p.puts).key_is (puts_plan s name line Undecided p.values p.put (Gone (row (plans s) p.values)) p.puts fits) (the_plan s name line Undecided p.values p.put p.puts) stores)

pub decided_so : (s : Schema) (name line : List ℕ) (made : Bool) (txn : Transaction) (stores : Stores) → IsDeciding s name line made txn
    → ((plan : Plan) → (shown s stores).plans name ≡ Some plan → plan.parts ≡ parts_of s line) → IsStep s txn name (Deciding name made) stores
decided_so s name line made txn stores p same_parts =
    let check = Is (row (plans s) p.values) (number_in s (plans s) (codes "state")) (number 0) in
    let asked = asking (plan_group s name) (check ∷ []) (Put (plans s) p.put ∷ []) in
    let fits : transaction_fits s asked ≡ true = ap (transaction_fits s) (sym p.is) ∙ p.fits in
    subst (λ t. IsStep s t name (Deciding name made) stores) (sym p.is)
    (deciding_step s name line made p.values p.put (p.puts).key_is p.may_be (puts_plan s name line (state_of made) p.values p.put check p.puts fits) (the_plan s name line (state_of made) p.values p.put p.puts) stores same_parts)

-- ---- parts

has_tables : (s : Schema) (group : List ℕ) → IsBare s (locks s group) → IsBare s (ends s group) → HasTables s group
has_tables s group lock end = record { locks_table = lock.table; locks_there = lock.there; ends_table = end.table; ends_there = end.there; locks_bare = lock.bare; ends_bare = end.bare }

pub prepared_so : (s : Schema) (name : List ℕ) (own txn : Transaction) (stores : Stores) → IsPreparing s name own txn → IsStep s txn name (Preparing name (part_by own s)) stores
prepared_so s name own txn stores p =
    let group = own.group.key in
    let checks = Gone (row (locks s group) p.lock_values) ∷ Gone (row (ends s group) p.end_values) ∷ (own.checks ++ deleted own.writes) in
    let fits : transaction_fits s (asking group checks (Put (locks s group) p.put ∷ [])) ≡ true = ap (transaction_fits s) (sym p.is) ∙ p.fits in
    subst (λ t. IsStep s t name (Preparing name (part_by own s)) stores) (sym p.is)
    (preparing_step s name own p.lock_values p.end_values p.put p.lock_key p.end_key
    (record {
      tables = has_tables s group p.locks_bare p.ends_bare;
      put = p.put_is;
      short = short_of s group checks (Put (locks s group) p.put ∷ []) ((record { key = lock_place s group; row = Some p.put }) ∷ []) fits
          (alone_told s group (locks s group) p.put (record { key = lock_place s group; row = Some p.put }) p.put_is);
      holder = p.holder_is;
    }) stores)

bare_both : (s : Schema) (xs ys : List Change) → AreBare s xs → AreBare s ys → AreBare s (xs ++ ys)
bare_both s [] ys x y = y
bare_both s (c ∷ xs) ys x y = (x.0, bare_both s xs ys x.1 y)

own_may : (s : Schema) (group : List ℕ) (made : Bool) (changes : List Change) → list_all (λ c. may_write s group (table_of c)) changes ≡ true → list_all (λ c. may_write s group (table_of c)) (own_changes made changes) ≡ true
own_may s group true changes e = e
own_may s group false changes e = refl

delete_told : (s : Schema) (group : List ℕ) (n : ℕ) (values : List Value) (key : List ℕ) → key_at s group n values ≡ Some key → write_of s group (Delete (row n values)) ≡ Some (record { key = key; row = None })
unfolding write_of
delete_told s group n values key e = ap (write_under s (Delete (row n values))) e

puts_end : (s : Schema) (name : List ℕ) (made : Bool) (own txn : Transaction) (p : IsFinishing s name made own txn) → PutsEnd s name made own p.lock_values p.put
puts_end s name made own txn p = record {
  closes = record { tables = has_tables s group p.locks_bare p.ends_bare; is_end = p.end_is };
  writes = parts.front;
  own_told = parts.front_is;
  own_bare = bare_own;
  own_apart = own_apart s group (own_changes made own.writes) parts.front (are_made s group (own_changes made own.writes) parts.front parts.front_is bare_own) may;
  all_told = all_told;
  all_bare = bare_both s (own_changes made own.writes) last bare_own ((p.locks_bare).bare, ((p.ends_bare).bare, tt));
  short = short_of s group checks changes (parts.front ++ closing s group name p.put) fits all_told;
  may = p.may_be;
}
  where
    group : List ℕ
    group = own.group.key

    last : List Change
    last = Delete (row (locks s group) p.lock_values) ∷ Put (ends s group) p.put ∷ []

    changes : List Change
    changes = own_changes made own.writes ++ last

    checks : List Check
    checks = Is (row (locks s group) p.lock_values) (number_in s (locks s group) (codes "gid")) (Str name ∷ []) ∷ []

    fits : transaction_fits s (asking group checks changes) ≡ true
    fits = ap (transaction_fits s) (sym p.is) ∙ p.fits

    may : list_all (λ c. may_write s group (table_of c)) (own_changes made own.writes) ≡ true
    may = own_may s group made own.writes p.own_free

    bare_own : AreBare s (own_changes made own.writes)
    bare_own = own_bare s group (own_changes made own.writes) may

    all : Fit s group changes
    all = fit s group checks changes fits

    parts : TwoParts s group (own_changes made own.writes) last all.writes
    parts = two_parts s group (own_changes made own.writes) last all.writes all.are

    back : parts.back ≡ closing s group name p.put
    back = same_list parts.back (closing s group name p.put)
        (sym parts.back_is ∙ (λ i. with_write (delete_told s group (locks s group) p.lock_values (lock_place s group) p.lock_key i) (with_write (p.put_is i) (Some []))))

    all_told : writes_told s group changes ≡ Some (parts.front ++ closing s group name p.put)
    all_told = all.are ∙ ap Some (parts.is ∙ ap (λ ws. parts.front ++ ws) back)

pub finished_so : (s : Schema) (name : List ℕ) (made : Bool) (own txn : Transaction) (stores : Stores) → is_name name ≡ true → IsFinishing s name made own txn → IsStep s txn name (Finishing name made (part_by own s)) stores
finished_so s [] made own txn stores named p = absurd (cc)
finished_so s (c ∷ letters) made own txn stores named p =
    subst (λ t. IsStep s t (c ∷ letters) (Finishing (c ∷ letters) made (part_by own s)) stores) (sym p.is)
    (finishing_step s c letters made own p.lock_values p.put p.lock_key (puts_end s (c ∷ letters) made own txn p) stores)
