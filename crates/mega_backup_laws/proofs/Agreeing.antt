-- Rows that are kept and agree under row keys agree everywhere; so what is restored is what was there.
use Rattle.std.proofs.Common.{◌≡◌, ℕ, cond, Bool, true, false, nat_le, List, [], length, take, refl, sym, ap, ◌∙◌, subst, Option, Some, None, Result, Ok, Err}
use Rattle.mega_base.specs.declared.names.GroupId.{GroupId}
use Rattle.mega_base.specs.declared.values.Row.{Row}
use Rattle.mega_entry.specs.declared.content.Content.{Content}
use Rattle.mega_cluster.specs.declared.cluster.Cluster.{Cluster}
use Rattle.mega_schema.specs.declared.schema.Table.{Table}
use Rattle.mega_schema.specs.declared.schema.Schema.{Schema}
use Rattle.mega_index.specs.Rows.{Rows, Listed, row_under, no_rows, after, list_after}
use Rattle.mega_index.specs.Cells.{key_values}
use Rattle.mega_index.specs.Fits.{numbered}
use Rattle.mega_index.specs.Fitted.{table_of}
use Rattle.mega_outcome.specs.declared.transaction.Transaction.{Transaction}
use Rattle.mega_transcript.specs.declared.item.Item.{Item}
use Rattle.mega_promises.specs.Promises.{log_of}
use Rattle.mega_tape_laws.specs.Writes.{LawfulWrites, Usage}
use Rattle.mega_tape_laws.specs.Indexed.{AllPutValues, AskValues, IsDeclared, PutValues}
use Rattle.mega_index.proofs.Ordered.{Ascends}
use Rattle.mega_index.proofs.KeyLists.{after-ascends, after_is}
use Rattle.mega_tape_laws.proofs.RowKeys.{Standing, OfTable, of_table}
use Rattle.mega_tape_laws.proofs.IndexKept.{IndexExact, Owner}
use Rattle.mega_tape_laws.proofs.LogSteps.{log_keeps}
use Rattle.mega_tape_laws.proofs.IndexLogs.{kept_keeps, none_kept}
use Rattle.mega_backup.specs.declared.fault.BackupFault.TheVariants.{Short}
use Rattle.mega_backup.specs.declared.reading.Backup.{Backup}
use Rattle.mega_backup.specs.Lines.{backup_in}
use Rattle.mega_backup.specs.Restoring.{from_backup, puts_of, read_of, restored, restoring, unless_large}
use Rattle.mega_backup_laws.specs.Made.{AreMade}
use Rattle.mega_backup_laws.proofs.Making.{entries_kept}
use Rattle.mega_backup_laws.proofs.Chains.{or_old, Chain, chain}

-- each entry stands where its row stands
moved_owner : (s : Schema) (group : List ℕ) (one two : Rows) → ((at : List ℕ) (n : ℕ) → table_of s group at ≡ Some n → one at ≡ two at) → (key : List ℕ) (stored : Row) → Owner s group one key stored → Owner s group two key stored
moved_owner s group one two agree key stored o = record {
  number = o.number;
  table = o.table;
  at = o.at;
  row = o.row;
  of_table = o.of_table;
  numbered_is = o.numbered_is;
  stands = sym (agree o.at o.number o.of_table) ∙ o.stands;
  entry = o.entry;
}

kept_agree : (s : Schema) (group : List ℕ) (one two : Rows) → IndexExact s group one → IndexExact s group two → ((at : List ℕ) (n : ℕ) → table_of s group at ≡ Some n → one at ≡ two at) → (key : List ℕ) → one key ≡ two key
kept_agree s group one two kept other agree key = by (table_of s group key) refl
  where
    none_key : table_of s group key ≡ None → (a b : Option Row) → one key ≡ a → two key ≡ b → one key ≡ two key
    none_key none None None is also = is ∙ sym also
    none_key none (Some row) b is also = is ∙ sym (other.have key row none (moved_owner s group one two agree key row (kept.only key row none is)))
    none_key none None (Some row) is also = kept.have key row none (moved_owner s group two one (λ at n of. sym (agree at n of)) key row (other.only key row none also)) ∙ sym also

    by : (o : Option ℕ) → table_of s group key ≡ o → one key ≡ two key
    by (Some n) is = agree key n is
    by None is = none_key is (one key) (two key) refl refl

module _ (s : Schema) (d : IsDeclared s) (group : GroupId) (listed : Listed) (up : Ascends listed) (kept : IndexExact s group.key (row_under listed)) (txns : List Transaction) (h : puts_of s group listed ≡ Ok txns) where
  stand : (k : List ℕ) (n : ℕ) (row : Row) → table_of s group.key k ≡ Some n → row_under listed k ≡ Some row → (t : Table) × (numbered s.tables n ≡ Some t) × Standing s n t k row
  stand k n row of is = let t = of_table s group.key k n d.most of in (t.table, t.numbered_is, kept.fit k n t.table row of t.numbered_is is)

  chained : Chain s d group no_rows listed (restored s txns)
  chained = chain s d group listed txns no_rows up (none_kept s group.key) stand (λ k n row of is. refl) h

  -- under row keys
  tables_agree : (k : List ℕ) (n : ℕ) → table_of s group.key k ≡ Some n → restored s txns k ≡ row_under listed k
  tables_agree k n of = by (row_under listed k) refl (restored s txns k) refl
    where
      t : OfTable s group.key k n
      t = of_table s group.key k n d.most of

      by : (a : Option Row) → row_under listed k ≡ a → (b : Option Row) → restored s txns k ≡ b → restored s txns k ≡ row_under listed k
      by None is None also = also ∙ sym is
      by (Some row) is b also =
          let st = kept.fit k n t.table row of t.numbered_is is in
          chained.at n n t.table (key_values (t.table).primary row) k of t.numbered_is st.own ∙ ap (λ o. or_old o None) is ∙ sym is
      by None is (Some row) also =
          let st = (chained.kept).fit k n t.table row of t.numbered_is also in
          chained.at n n t.table (key_values (t.table).primary row) k of t.numbered_is st.own ∙ ap (λ o. or_old o None) is ∙ sym is

  pub all_agree : (key : List ℕ) → restored s txns key ≡ row_under listed key
  all_agree key = kept_agree s group.key (restored s txns) (row_under listed) chained.kept kept tables_agree key

small_puts : (r : Result (List Transaction) (List ℕ)) (txns : List Transaction) → unless_large r ≡ Ok txns → r ≡ Ok txns
small_puts (Ok found) txns h = let same : found ≡ txns = cc in ap Ok same
small_puts (Err key) txns h = absurd (cc)

-- of any entries after which the rows are kept
listed_back : (s : Schema) → IsDeclared s → (group : GroupId) (log : List Content) → IndexExact s group.key (after log no_rows) → (txns : List Transaction) → unless_large (puts_of s group (list_after log [])) ≡ Ok txns
    → (key : List ℕ) → restored s txns key ≡ after log no_rows key
listed_back s d group log kept txns h key =
    all_agree s d group (list_after log []) (after-ascends log [] tt) (subst (IndexExact s group.key) (sym (after_is log [] tt)) kept) txns (small_puts (puts_of s group (list_after log [])) txns h) key
    ∙ ap (λ (R : Rows). R key) (after_is log [] tt)

pub made_back : (s : Schema) → IsDeclared s → (group : GroupId) (entries : List Content) → AreMade s group no_rows entries → (q : ℕ) (txns : List Transaction) → restoring s group entries q ≡ Ok txns
    → (key : List ℕ) → restored s txns key ≡ after (take q entries) no_rows key
made_back s d group entries made q txns h = listed_back s d group (take q entries) (entries_kept s d.most group entries q no_rows (none_kept s group.key) made) txns h

-- what is read of the lines of a backup
pub read_back : (s : Schema) → IsDeclared s → (lines : List (List ℕ)) (backup : Backup) → backup_in lines ≡ Ok backup → AreMade s backup.group no_rows backup.entries → (q : ℕ) (txns : List Transaction) → read_of s lines q ≡ Ok txns
    → (key : List ℕ) → restored s txns key ≡ after (take q backup.entries) no_rows key
read_back s d lines backup is made q txns h = made_back s d backup.group backup.entries made q txns (there (nat_le q (length backup.entries)) (ap (from_backup s q) (sym is) ∙ h))
  where
    there : (b : Bool) → cond b (restoring s backup.group backup.entries q) (Err (Short (record { 0 = length backup.entries }))) ≡ Ok txns → restoring s backup.group backup.entries q ≡ Ok txns
    there true g = g
    there false g = absurd (cc)

pub brought_back : (c : Cluster) (usage : Usage) (tape : List Item) → LawfulWrites c usage tape → IsDeclared c.schema → AskValues usage tape → (group : GroupId) (entries : ℕ) (txns : List Transaction)
    → restoring c.schema group (log_of tape group) entries ≡ Ok txns → (key : List ℕ) → restored c.schema txns key ≡ after (take entries (log_of tape group)) no_rows key
brought_back c usage tape l d ask group entries txns h =
    let s = c.schema in
    let kept = log_keeps c usage tape group (IndexExact s group.key) (λ (t : Transaction). PutValues t.writes) AllPutValues l (kept_keeps s d.most group.key)
    (λ op transaction asked. ask op _ asked) (λ op transactions asked. ask op _ asked) entries in
    listed_back s d group (take entries (log_of tape group)) kept txns h
