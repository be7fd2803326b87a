use Rattle.std.proofs.Common.{ℕ, List, sym, ap, ◌∙◌}
use Rattle.mega_schema.specs.declared.schema.Table.{Table}
use Rattle.mega_schema.specs.Known.{table_names, names_in_tables, extended_at}
use Rattle.mega_schema.specs.Rules.{words_names}
use Rattle.mega_schema.proofs.Growing.{table_names_stay, names_grow}
use Rattle.mega_schema.proofs.known.Known.with_properties.Goals as goal

pub invariant_of-result : goal.invariant_of-result
invariant_of-result c =
    let tables = c.self.inside.schema.tables in
    let words = c.args.words.now in
    let place = c.args.place in (
      c.self.invariant.0 ∙ sym (table_names_stay tables words place) ∙ ap (λ (ts : List Table). table_names ts) (sym c.in_ok-declared.ensures),
      c.in_ok-properties.ensures ∙ ap (λ (ls : List (List (List ℕ))). extended_at ls (words_names words) place) c.self.invariant.1 ∙ names_grow tables words place
          ∙ ap (λ (ts : List Table). names_in_tables ts) (sym c.in_ok-declared.ensures),
      c.self.invariant.2,
    )
