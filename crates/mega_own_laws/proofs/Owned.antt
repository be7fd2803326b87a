-- Where all entries of logs are own, each group's rows are its own entries' alone.
use Rattle.std.proofs.Common.{◌≡◌, ℕ, zero, suc, cond, Bool, true, false, List, [], ◌∷◌, take, refl, sym, ap, ◌∙◌, Some, None, Ok}
use Rattle.mega_base.specs.declared.names.GroupId.{GroupId}
use Rattle.mega_base.specs.declared.values.Row.{Row}
use Rattle.mega_base.specs.declared.values.Value.{Value}
use Rattle.mega_disk.specs.VersionMaps.{or_else}
use Rattle.mega_entry.specs.declared.content.Content.{Content}
use Rattle.mega_entry.specs.declared.content.Write.{Write}
use Rattle.mega_schema.specs.declared.schema.Schema.{Schema}
use Rattle.mega_index.specs.Rows.{Rows, changed, no_rows, same_key, written}
use Rattle.mega_index.specs.Fitted.{table_of}
use Rattle.mega_outcome.specs.Places.{key_in}
use Rattle.mega_node_laws.specs.Own.{HasOwnRows}
use Rattle.mega_run_laws.specs.of_rules.of_replica.Applying.{writes_of}
use Rattle.mega_run_laws.specs.of_rules.of_replica.Stored.{GroupLogs, last_write}
use Rattle.mega_index.proofs.KeyLists.{key_is, not_key}
use Rattle.mega_run_laws.specs.Justified.{Each}
use Rattle.mega_run_laws.proofs.Events.{each_append}
use Rattle.mega_run_laws.proofs.Turns.{each_on}
use Rattle.mega_own_laws.specs.Entries.{IsOwn, WritesOwn}

all_writes : (schema : Schema) (group : GroupId) (log : List Content) → Each (IsOwn schema group) log → Each (WritesOwn schema group) (writes_of log)
all_writes schema group [] each = tt
all_writes schema group (entry ∷ log) each = each_append (WritesOwn schema group) entry.writes (writes_of log) each.0 (all_writes schema group log each.1)

unwritten : (key : List ℕ) (writes : List Write) → Each (λ (write : Write). same_key write.key key ≡ false) writes → last_write key writes ≡ None
unwritten key [] apart = refl
unwritten key (write ∷ writes) apart = let more = unwritten key writes apart.1 in (λ i. or_else (more i) (cond (apart.0 i) (Some write.row) None))

-- a row that stands behind some of a group's writes, under a row key of one of its tables, is one that an item of the group can name
module _ (schema : Schema) (group : GroupId) (key : List ℕ) (n : ℕ) (row : Row) (of : table_of schema group.key key ≡ Some n) where
  abbrev IsNamed : Type 0
  IsNamed = (values : List Value) × (key_in schema group.key 0 n values ≡ Ok key)

  stands : (count : ℕ) (writes : List Write) (rows : Rows) → Each (WritesOwn schema group) writes → (rows key ≡ Some row → IsNamed) → written (take count writes) rows key ≡ Some row → IsNamed
  stands zero writes rows each before there = before there
  stands (suc count) [] rows each before there = before there
  stands (suc count) (write ∷ writes) rows each before there = stands count writes (changed rows write) each.1 (by (same_key write.key key) refl) there
    where
      here : write.key ≡ key → write.row ≡ Some row → IsNamed
      here same is = let found = (each.0).named n row (ap (table_of schema group.key) same ∙ of) is in (found.0, found.1 ∙ ap Ok same)

      by : (t : Bool) → same_key write.key key ≡ t → cond t write.row (rows key) ≡ Some row → IsNamed
      by true at is = here (key_is write.key key at) is
      by false at is = before is

nothing_stands : (row : Row) (Q : Type 0) → None ≡ Some row → Q
nothing_stands row Q is = cc

pub own_rows : (schema : Schema) (log : GroupLogs) → ((group : GroupId) → Each (IsOwn schema group) (log group)) → HasOwnRows schema log
own_rows schema log each = record {
  own = λ group i n values key names other apart.
      unwritten key (writes_of (log other))
      (each_on (WritesOwn schema other) (λ (write : Write). same_key write.key key ≡ false)
      (λ write own. not_key write.key key (λ same. apart (sym (own.apart group i n values (names ∙ ap Ok (sym same))))))
      (writes_of (log other)) (all_writes schema other (log other) (each other)));
  named = λ group key n count row of there.
      stands schema group key n row of count (writes_of (log group)) no_rows (all_writes schema group (log group) (each group)) (nothing_stands row _) there;
}
