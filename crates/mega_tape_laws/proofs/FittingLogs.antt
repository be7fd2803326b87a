-- In every log rows fit the schema, after any number of entries.
use Rattle.std.proofs.Common.{◌≡◌, ℕ, Bool, true, false, if◌then◌else◌, List, [], ◌∷◌, take, refl, sym, ap, ◌∙◌, subst, Option, Some, None}
use Rattle.std.proofs.lemmas.List.Sums.{fold-append}
use Rattle.mega_base.specs.declared.names.GroupId.{GroupId}
use Rattle.mega_cluster.specs.declared.cluster.Cluster.{Cluster}
use Rattle.mega_entry.specs.declared.content.Write.{Write}
use Rattle.mega_schema.specs.declared.schema.Schema.{Schema}
use Rattle.mega_index.specs.Rows.{Rows, no_rows, changed, written, after}
use Rattle.mega_index.specs.Fits.{stands_in}
use Rattle.mega_index.specs.Fitted.{table_of, is_kept, kept_write, fitted_writes}
use Rattle.mega_index.specs.LocalWrites.{index_writes}
use Rattle.mega_outcome.specs.declared.transaction.Transaction.{Transaction}
use Rattle.mega_outcome.specs.Outcome.{first_change}
use Rattle.mega_promises.specs.of_transcript.declared.item.Item.{Item}
use Rattle.mega_promises.specs.Promises.{log_of}
use Rattle.mega_tape_laws.specs.Writes.{LawfulWrites, Usage}
use Rattle.mega_tape_laws.specs.Indexed.{IsDeclared}
use Rattle.mega_tape_laws.specs.Growing.{RowsFit}
use Rattle.mega_tape_laws.proofs.RowKeys.{of_table, standing}
use Rattle.mega_tape_laws.proofs.IndexSteps.{row_kept}
use Rattle.mega_tape_laws.proofs.LogSteps.{Keeps, log_keeps}
use Rattle.mega_tape_laws.proofs.Fitting.{none_fit, replaced_fit, changes_fit}

module _ (s : Schema) (d : IsDeclared s) (group : List ℕ) where
  -- what a handler writes is kept where it fits
  one_fits : (rows seen : Rows) → RowsFit s rows → (write : Write) → RowsFit s (written (kept_write s (table_of s group write.key) seen write) rows)
  one_fits rows seen fit write = by (table_of s group write.key) refl
    where
      tested : (n : ℕ) → table_of s group write.key ≡ Some n → (b : Bool) → is_kept s n write ≡ b → RowsFit s (written (if b then write ∷ index_writes s n (seen write.key) write.row else []) rows)
      tested n at false is = fit
      tested n at true is =
          let r = of_table s group write.key n d.most at in
          replaced_fit s d rows fit n r.table write.key (seen write.key) write.row r.numbered_is
          (λ row same. standing s n r.table write.key row (sym (ap (λ o. stands_in s n o write.key row) r.numbered_is) ∙ sym (ap (row_kept s n write.key) same) ∙ is))

      by : (o : Option ℕ) → table_of s group write.key ≡ o → RowsFit s (written (kept_write s o seen write) rows)
      by None at = fit
      by (Some n) at = tested n at (is_kept s n write) refl

  fitted_fit : (writes : List Write) (rows seen : Rows) → RowsFit s rows → RowsFit s (written (fitted_writes s group seen writes) rows)
  fitted_fit [] rows seen fit = fit
  fitted_fit (write ∷ writes) rows seen fit =
      let first = kept_write s (table_of s group write.key) seen write in
      let more = fitted_fit writes (written first rows) (written first seen) (one_fits rows seen fit write) in
      subst (RowsFit s) (sym (fold-append changed rows first (fitted_writes s group (written first seen) writes))) more

  fit_keeps : Keeps s group (RowsFit s) (λ (t : Transaction). Unit {0}) (λ (ts : List Transaction). Unit {0})
  fit_keeps = record {
    none = none_fit s;
    first = λ t ts good. tt;
    others = λ t ts good. tt;
    changes = λ rows fit t good writes comes. changes_fit s d group rows fit (first_change t) t.writes writes comes;
    fitted = λ rows seen fit writes agree. fitted_fit writes rows seen fit;
  }

pub log_fits : (c : Cluster) (usage : Usage) (tape : List Item) → LawfulWrites c usage tape → IsDeclared c.schema → (group : GroupId) (p : ℕ) → RowsFit c.schema (after (take p (log_of tape group)) no_rows)
log_fits c usage tape l d group =
    log_keeps c usage tape group (RowsFit c.schema) (λ (t : Transaction). Unit {0}) (λ (ts : List Transaction). Unit {0}) l (fit_keeps c.schema d group.key) (λ op transaction asked. tt) (λ op transactions asked. tt)
