use Rattle.std.proofs.Common.{ℕ, List, sym, ap, ◌∙◌}
use Rattle.mega_schema.specs.declared.schema.Table.{Table}
use Rattle.mega_schema.specs.declared.schema.Schema.{Schema}
use Rattle.mega_schema.specs.Named.{place_of, at_place}
use Rattle.mega_schema.specs.Lookup.{table_named}
use Rattle.mega_schema.proofs.Naming.{find_named}
use Rattle.mega_schema.proofs.known.Known.table_named.Goals as goal

pub returns : goal.returns
returns c =
    let n = c.args.name.now in
    let tables = c.self.inside.schema.tables in
    c.table_at.ensures ∙ ap (λ (ts : List Table). at_place ts c.place-place.result) c.as_slice.ensures
    ∙ ap (at_place tables) (c.place-place.ensures ∙ ap (λ (names : List (List ℕ)). place_of names n) c.self.invariant.0)
    ∙ sym (find_named (λ (t : Table). t.name) n tables) ∙ ap (λ (s : Schema). table_named s.tables n) c.self.view_is
