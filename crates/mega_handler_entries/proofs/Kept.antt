-- Writes that are kept one after another.
use Rattle.std.proofs.Common.{◌≡◌, ◌∙◌, ap, sym, ℕ, List, [], ◌∷◌, ◌++◌, append_assoc}
use Rattle.std.proofs.lemmas.Grind.{fold-append}
use Rattle.mega_entry.specs.declared.content.Write.{Write}
use Rattle.mega_schema.specs.declared.schema.Schema.{Schema}
use Rattle.mega_index.specs.Rows.{Rows, changed, written}
use Rattle.mega_index.specs.Fitted.{fitted_writes, kept_write, table_of}

pub written_more : (first more : List Write) (rows : Rows) → written (first ++ more) rows ≡ written more (written first rows)
written_more first more rows = fold-append changed rows first more

-- what is kept with one write more
pub kept_more : (s : Schema) (group : List ℕ) (rows : Rows) (kept more : List Write) (write : Write) (rest : List Write)
    → more ≡ kept ++ kept_write s (table_of s group write.key) (written kept rows) write
    → more ++ fitted_writes s group (written more rows) rest ≡ kept ++ fitted_writes s group (written kept rows) (write ∷ rest)
kept_more s group rows kept more write rest is =
    ap (λ (all : List Write). all ++ fitted_writes s group (written all rows) rest) is
    ∙ append_assoc kept own (fitted_writes s group (written (kept ++ own) rows) rest)
    ∙ ap (λ (now : Rows). kept ++ (own ++ fitted_writes s group now rest)) (written_more kept own rows)
  where
    own : List Write
    own = kept_write s (table_of s group write.key) (written kept rows) write
