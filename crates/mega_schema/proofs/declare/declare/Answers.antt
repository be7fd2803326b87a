use Rattle.std.proofs.Common.{sym, ap, ◌∙◌}
use Rattle.mega_schema.specs.declared.schema.Table.{Table}
use Rattle.mega_schema.specs.Rules.{property_names}
use Rattle.mega_schema.proofs.Growing.{names_of_words}
use Rattle.mega_schema.proofs.declare.declare.Goals as goal

pub with_table-requires-clause-properties : goal.with_table-requires-clause-properties
with_table-requires-clause-properties c =
    c.into_places.ensures ∙ sym (names_of_words c.in_ok-named-in-Table.named.properties) ∙ ap (λ (t : Table). property_names t.properties) (sym c.in_ok-table-in-Table.ensures)
