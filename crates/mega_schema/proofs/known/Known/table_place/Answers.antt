use Rattle.std.proofs.Common.{ℕ, List, ap, ◌∙◌}
use Rattle.mega_schema.specs.declared.schema.Table.{Table}
use Rattle.mega_schema.specs.declared.schema.Schema.{Schema}
use Rattle.mega_schema.specs.Named.{place_of}
use Rattle.mega_schema.specs.Lookup.{table_place}
use Rattle.mega_schema.proofs.Naming.{place_named}
use Rattle.mega_schema.proofs.known.Known.table_place.Goals as goal

pub returns : goal.returns
returns c =
    let n = c.args.name.now in
    c.place.ensures ∙ ap (λ (names : List (List ℕ)). place_of names n) c.self.invariant.0 ∙ place_named (λ (t : Table). t.name) n c.self.inside.schema.tables ∙ ap (λ (s : Schema). table_place s.tables n) c.self.view_is
