-- The entries that operations make are own, in a schema that was declared.
use Rattle.std.proofs.Common.{◌≡◌, ℕ, cond, nat_lt, List, [], ◌∷◌, length, sym, ap, ◌∙◌, subst, None, Ok}
use Rattle.std.specs.Prelude.{◌≢◌, Contains}
use Rattle.mega_base.specs.declared.names.GroupId.{GroupId}
use Rattle.mega_base.specs.declared.names.OpId.{OpId}
use Rattle.mega_base.specs.declared.values.Value.{Value}
use Rattle.mega_entry.specs.declared.content.Content.{Content}
use Rattle.mega_entry.specs.declared.content.Enter.{Enter}
use Rattle.mega_entry.specs.declared.content.Write.{Write}
use Rattle.mega_entry.specs.Entries.{entry_text}
use Rattle.mega_schema.specs.declared.schema.Schema.{Schema}
use Rattle.mega_index.specs.Rows.{Listed, Rows, row_under}
use Rattle.mega_index.specs.Fitted.{most_bytes}
use Rattle.mega_handler.specs.Effects.{Effect, entry_handling, handled}
use Rattle.mega_handler.specs.Named.{effect_by, meaning}
use Rattle.mega_outcome.specs.declared.answer.Done.{Done}
use Rattle.mega_outcome.specs.declared.transaction.Transaction.{Transaction}
use Rattle.mega_outcome.specs.Places.{key_in}
use Rattle.mega_outcome.specs.Outcome.{batch_outcome, entry_of_batch, entry_of_done, no_batch, outcome}
use Rattle.mega_run_laws.specs.of_rules.Acting.{handling}
use Rattle.mega_run_laws.specs.of_rules.Operations.{Setting}
use Rattle.mega_run_laws.specs.of_tape_laws.Indexed.{IsDeclared}
use Rattle.mega_index.proofs.KeyLists.{same_self}
use Rattle.mega_run_laws.proofs.of_tape_laws.Sending.{to_in}
use Rattle.mega_run_laws.specs.Justified.{Each}
use Rattle.mega_run_laws.proofs.Turns.{each_on}
use Rattle.mega_row_laws.proofs.Keys.{one_group}
use Rattle.mega_row_laws.proofs.Naming.{WriteOf, key_of_write, row_named}
use Rattle.mega_row_laws.proofs.Writing.{WritesIn, batch_writes, fitted_in, outcome_writes}
use Rattle.mega_own_laws.specs.Entries.{IsOwn, WritesOwn}
use Rattle.mega_own_laws.proofs.Lists.{each_in, either}

same_groups : (a b : GroupId) → a.key ≡ b.key → a ≡ b
same_groups a b same i = record { key = same i }

write_own : (schema : Schema) → IsDeclared schema → (group : GroupId) (write : Write) → WriteOf schema group.key write → WritesOwn schema group write
write_own schema d group write of = record {
  apart = λ other i n values names. same_groups other group (one_group schema d other.key group.key i n values write.key names (key_of_write schema group.key write of));
  named = λ n row at there.
      row_named schema d group.key write.key n 1 row (write ∷ []) (of, tt) at (ap (λ t. cond t write.row None) (same_self write.key) ∙ there);
}

all_own : (schema : Schema) → IsDeclared schema → (group : GroupId) (writes : List Write) → WritesIn schema group.key writes → Each (WritesOwn schema group) writes
all_own schema d group writes each = each_on (WriteOf schema group.key) (WritesOwn schema group) (write_own schema d group) writes each

-- what a transaction of the group comes to, and a batch
pub done_own : (schema : Schema) → IsDeclared schema → (op : OpId) (group : GroupId) (transaction : Transaction) (rows : Rows) (done : Done) → transaction.group ≡ group → outcome schema transaction rows ≡ Ok done
    → IsOwn schema group (entry_of_done op done)
done_own schema d op group transaction rows done of comes =
    subst (λ g. IsOwn schema g (entry_of_done op done)) of
    (all_own schema d transaction.group done.writes (outcome_writes schema transaction.group.key rows transaction done comes))

pub batch_own : (schema : Schema) → IsDeclared schema → (op : OpId) (own group : GroupId) (transactions : List Transaction) (rows : Rows) → own ≡ group
    → IsOwn schema group (entry_of_batch op (batch_outcome schema own transactions rows))
batch_own schema d op own group transactions rows of =
    subst (λ g. IsOwn schema g (entry_of_batch op (batch_outcome schema own transactions rows))) of
    (all_own schema d own _ (batch_writes schema own.key rows transactions no_batch tt))

-- the handling of a message
pub handling_own : (s : Setting) → IsDeclared s.cluster.schema → (op : OpId) (group : GroupId) (message : Enter) (rows : Listed) → IsOwn s.cluster.schema group (handling s op group message rows)
handling_own s d op group message rows = either (IsOwn s.cluster.schema group) (nat_lt most_bytes (length (entry_text (entry_handling op message.name effect)))) (entry_handling op message.name ([], [])) (entry_handling op message.name effect) tt
    (all_own s.cluster.schema d group effect.0 (fitted_in s.cluster.schema group.key d (row_under rows) makes.0))
  where
    makes : Effect
    makes = effect_by (meaning s.handlers message.queue) message rows

    effect : Effect
    effect = handled s.cluster.schema group rows (effect_by (meaning s.handlers message.queue) message rows)

-- an entry that writes nothing is own; one that writes under a key which an item of another group names is not
pub nothing_own : (schema : Schema) (group : GroupId) (entry : Content) → entry.writes ≡ [] → IsOwn schema group entry
nothing_own schema group entry none = subst (Each (WritesOwn schema group)) (sym none) tt

pub others_apart : (schema : Schema) (group other : GroupId) (entry : Content) (write : Write) (i n : ℕ) (values : List Value) → Contains entry.writes write → key_in schema other.key i n values ≡ Ok write.key → other ≢ group → IsOwn schema group entry → ⊥
others_apart schema group other entry write i n values there names apart own = apart ((each_in (WritesOwn schema group) entry.writes write own (to_in entry.writes write there)).apart other i n values names)
