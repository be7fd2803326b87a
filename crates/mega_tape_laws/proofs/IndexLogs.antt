-- In every log the index rows are those of the rows of the group's tables, after any number of entries.
use Rattle.std.proofs.Common.{ℕ, ◌≤◌, List, [], length, take, sym, ap, ◌∙◌, subst}
use Rattle.mega_base.specs.declared.names.GroupId.{GroupId}
use Rattle.mega_cluster.specs.declared.cluster.Cluster.{Cluster}
use Rattle.mega_schema.specs.declared.schema.Schema.{Schema}
use Rattle.mega_index.specs.Rows.{row_under, no_rows, after, list_after}
use Rattle.mega_index.specs.Fits.{stands_in}
use Rattle.mega_outcome.specs.declared.transaction.Transaction.{Transaction}
use Rattle.mega_outcome.specs.Outcome.{first_change}
use Rattle.mega_promises.specs.of_transcript.declared.item.Item.{Item}
use Rattle.mega_promises.specs.Promises.{log_of}
use Rattle.mega_tape_laws.specs.Writes.{LawfulWrites, Usage}
use Rattle.mega_tape_laws.specs.Indexed.{AllPutValues, AreRows, AskValues, IsDeclared, IsIndexed, PutValues}
use Rattle.mega_index.proofs.KeyLists.{after-ascends, after_is}
use Rattle.mega_tape_laws.proofs.RowKeys.{of_table, stands}
use Rattle.mega_tape_laws.proofs.IndexKept.{IndexExact}
use Rattle.mega_tape_laws.proofs.IndexSteps.{changes_kept, fitted_kept}
use Rattle.mega_tape_laws.proofs.IndexShown.{is_indexed}
use Rattle.mega_tape_laws.proofs.LogSteps.{Keeps, log_keeps}

pub none_kept : (s : Schema) (group : List ℕ) → IndexExact s group no_rows
none_kept s group = record {
  fit = λ at n t row h g none. cc;
  have = λ key stored h owner. let none = owner.stands in cc;
  only = λ key stored h none. cc;
}

pub kept_keeps : (s : Schema) → length s.tables ≤ 64 → (group : List ℕ) → Keeps s group (IndexExact s group) (λ (t : Transaction). PutValues t.writes) AllPutValues
kept_keeps s most group = record {
  none = none_kept s group;
  first = λ t ts held. held.0;
  others = λ t ts held. held.1;
  changes = λ rows kept t held writes comes. changes_kept s most group rows kept (first_change t) t.writes writes held comes;
  fitted = λ rows seen kept writes agree. fitted_kept s most group writes rows seen kept agree;
}

log_kept : (c : Cluster) (usage : Usage) (tape : List Item) → LawfulWrites c usage tape → IsDeclared c.schema → AskValues usage tape → (group : GroupId) (p : ℕ) → IndexExact c.schema group.key (after (take p (log_of tape group)) no_rows)
log_kept c usage tape l d ask group =
    log_keeps c usage tape group (IndexExact c.schema group.key) (λ (t : Transaction). PutValues t.writes) AllPutValues l (kept_keeps c.schema d.most group.key)
    (λ op transaction asked. ask op _ asked) (λ op transactions asked. ask op _ asked)

-- the same of the list of the rows
list_kept : (c : Cluster) (usage : Usage) (tape : List Item) → LawfulWrites c usage tape → IsDeclared c.schema → AskValues usage tape → (group : GroupId) (p : ℕ) → IndexExact c.schema group.key (row_under (list_after (take p (log_of tape group)) []))
list_kept c usage tape l d ask group p = subst (IndexExact c.schema group.key) (sym (after_is (take p (log_of tape group)) [] tt)) (log_kept c usage tape l d ask group p)

pub indexed : (c : Cluster) (usage : Usage) (tape : List Item) → LawfulWrites c usage tape → IsDeclared c.schema → AskValues usage tape → (group : GroupId) (p : ℕ) → IsIndexed c.schema group (list_after (take p (log_of tape group)) [])
indexed c usage tape l d ask group p =
    is_indexed c.schema d group (list_after (take p (log_of tape group)) []) (after-ascends (take p (log_of tape group)) [] tt) (list_kept c usage tape l d ask group p)

pub rows_fit : (c : Cluster) (usage : Usage) (tape : List Item) → LawfulWrites c usage tape → IsDeclared c.schema → AskValues usage tape → (group : GroupId) (p : ℕ) → AreRows c.schema group (list_after (take p (log_of tape group)) [])
rows_fit c usage tape l d ask group p key n row at there =
    let t = of_table c.schema group.key key n d.most at in
    let kept = list_kept c usage tape l d ask group p in
    ap (λ o. stands_in c.schema n o key row) t.numbered_is ∙ stands c.schema n t.table key row (kept.fit key n t.table row at t.numbered_is there)
