-- In every run the rows of a group are written by its own entries alone: on the run's tape, and at every node.
use Rattle.std.proofs.Common.{◌≡◌, ℕ, zero, suc, ◌+◌, cond, false, List, [], ◌∷◌, length, slice_get, refl, sym, subst, Option, Some, None}
use Rattle.mega_base.specs.declared.names.GroupId.{GroupId}
use Rattle.mega_cluster.specs.declared.cluster.Cluster.{Cluster}
use Rattle.mega_disk.specs.VersionMaps.{or_else}
use Rattle.mega_entry.specs.declared.content.Content.{Content}
use Rattle.mega_entry.specs.declared.content.Write.{Write}
use Rattle.mega_schema.specs.declared.schema.Schema.{Schema}
use Rattle.mega_handler.specs.Named.{Meanings}
use Rattle.mega_index.specs.Rows.{same_key}
use Rattle.mega_run_laws.specs.of_tape_laws.of_promises.of_rules.of_replica.Applying.{writes_of}
use Rattle.mega_run_laws.specs.of_tape_laws.of_promises.of_rules.of_replica.Stored.{GroupLogs, last_write}
use Rattle.mega_run_laws.specs.of_tape_laws.of_promises.of_transcript.declared.item.Item.{Item}
use Rattle.mega_run_laws.specs.of_tape_laws.of_promises.of_rules.Met.{Met}
use Rattle.mega_run_laws.specs.of_tape_laws.of_promises.of_rules.Logs.{decided, decided_from, log_of, then_more}
use Rattle.mega_run_laws.specs.of_tape_laws.of_promises.Items.{number}
use Rattle.mega_run_laws.specs.of_tape_laws.of_promises.Promises.{log_of as tape_log}
use Rattle.mega_run_laws.specs.of_tape_laws.of_promises.Runs.{Cuts, Happening, goes_on, opening}
use Rattle.mega_node_laws.specs.Own.{HasOwnRows}
use Rattle.mega_run_laws.specs.of_tape_laws.Indexed.{IsDeclared}
use Rattle.mega_run_laws.specs.of_tape_laws.Writes.{LawfulWrites, Usage}
use Rattle.mega_index.proofs.KeyLists.{not_key}
use Rattle.mega_run_laws.proofs.of_tape_laws.Serial.{decide_origin, own_entry}
use Rattle.mega_run_laws.specs.Usages.{Fits}
use Rattle.mega_run_laws.specs.Justified.{Each}
use Rattle.mega_run_laws.proofs.Events.{each_append}
use Rattle.mega_run_laws.proofs.Runs.{run_written}
use Rattle.mega_run_laws.proofs.Turns.{Known, each_on}
use Rattle.mega_row_laws.proofs.Keys.{KeyOf, one_group}
use Rattle.mega_row_laws.proofs.Naming.{WriteOf, key_of_write, row_named}
use Rattle.mega_row_laws.proofs.Writing.{WritesIn, entry_writes}
use Rattle.mega_row_laws.proofs.Decided.{run_told}

-- ---- logs whose entries write under keys of their group

unwritten : (key : List ℕ) (writes : List Write) → Each (λ (write : Write). same_key write.key key ≡ false) writes → last_write key writes ≡ None
unwritten key [] apart = refl
unwritten key (write ∷ writes) apart = let more = unwritten key writes apart.1 in (λ i. or_else (more i) (cond (apart.0 i) (Some write.row) None))

all_writes : (P : Write → Type 0) (log : List Content) → Each (λ (e : Content). Each P e.writes) log → Each P (writes_of log)
all_writes P [] each = tt
all_writes P (e ∷ log) each = each_append P e.writes (writes_of log) each.0 (all_writes P log each.1)

same_groups : (group other : GroupId) → group.key ≡ other.key → other ≡ group
same_groups group other same i = record { key = sym same i }

own_logs : (s : Schema) → IsDeclared s → (log : GroupLogs) → ((group : GroupId) → Each (λ (e : Content). WritesIn s group.key e.writes) (log group)) → HasOwnRows s log
own_logs s d log each = record {
  own = λ group i n values key names other apart.
      unwritten key (writes_of (log other))
      (each_on (WriteOf s other.key) (λ (write : Write). same_key write.key key ≡ false)
      (λ write of. not_key write.key key (λ same. apart (same_groups group other (one_group s d group.key other.key i n values key names (subst (KeyOf s other.key) same (key_of_write s other.key write of))))))
      (writes_of (log other)) (all_writes (WriteOf s other.key) (log other) (each other)));
  named = λ group key n count row of there. row_named s d group.key key n count row (writes_of (log group)) (all_writes (WriteOf s group.key) (log group) (each group)) of there;
}

-- ---- tapes

each_got : {X : Type 0} (P : X → Type 0) (xs : List X) → ((n : ℕ) (x : X) → slice_get xs n ≡ Some x → P x) → Each P xs
each_got P [] got = tt
each_got P (x ∷ xs) got = (got 0 x refl, each_got P xs (λ n y is. got (suc n) y is))

pub tape_owns : (c : Cluster) (usage : Usage) (tape : List Item) → LawfulWrites c usage tape → IsDeclared c.schema → HasOwnRows c.schema (tape_log tape)
tape_owns c usage tape l d = own_logs c.schema d (tape_log tape) (λ group.
    each_got (λ (e : Content). WritesIn c.schema group.key e.writes) (tape_log tape group) (λ n e is.
    let o = own_entry c usage tape l group n e is in entry_writes c.schema d usage tape o.0 group _ e o.1))

-- ---- nodes

decided_each : (met : List Met) (group : GroupId) (most n : ℕ) → Each (λ (e : Content). (k : ℕ) × (decided met group k ≡ Some e)) (decided_from met group most n)
decided_each met group zero n = tt
decided_each met group (suc most) n = by (decided met group n) refl (decided_each met group most (n + 1))
  where
    by : (o : Option Content) → decided met group n ≡ o → Each (λ (e : Content). (k : ℕ) × (decided met group k ≡ Some e)) (decided_from met group most (n + 1))
        → Each (λ (e : Content). (k : ℕ) × (decided met group k ≡ Some e)) (then_more o (decided_from met group most (n + 1)))
    by None is more = tt
    by (Some e) is more = ((n, is), more)

met_owns : (c : Cluster) (usage : Usage) (tape : List Item) → LawfulWrites c usage tape → IsDeclared c.schema → (me : ℕ) (met : List Met) → Known me met tape → HasOwnRows c.schema (log_of met)
met_owns c usage tape l d me met known = own_logs c.schema d (log_of met) (λ group.
    each_on (λ (e : Content). (k : ℕ) × (decided met group k ≡ Some e)) (λ (e : Content). WritesIn c.schema group.key e.writes)
    (λ e at. let o = decide_origin c usage tape l (record { group = group; position = record { 0 = at.0 } }) (number me) e (known group at.0 e at.1) in entry_writes c.schema d usage tape o.op group o.below e o.entry)
    (log_of met group) (decided_each met group (length met) 1))

pub node_owns : (c : Cluster) (usage : Usage) (first : Meanings) (cuts : Cuts) (events : List Happening) (me : ℕ) → IsDeclared c.schema → Fits usage events
    → HasOwnRows c.schema (log_of ((goes_on c cuts (opening c first) events).node me).met)
node_owns c usage first cuts events me d fits =
    let now = goes_on c cuts (opening c first) events in
    met_owns c usage now.tape (run_written c usage first events now.tape (record { cuts = cuts; tape_is = refl }) fits) d me (now.node me).met (run_told c first cuts events me)
