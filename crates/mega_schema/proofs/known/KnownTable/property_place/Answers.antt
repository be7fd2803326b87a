use Rattle.std.proofs.Common.{ℕ, List, ap, ◌∙◌}
use Rattle.mega_schema.specs.declared.schema.Property.{Property}
use Rattle.mega_schema.specs.declared.schema.Table.{Table}
use Rattle.mega_schema.specs.Named.{place_of}
use Rattle.mega_schema.specs.Lookup.{property_place}
use Rattle.mega_schema.proofs.Naming.{place_named}
use Rattle.mega_schema.proofs.known.KnownTable.property_place.Goals as goal

pub returns : goal.returns
returns c =
    let n = c.args.name.now in
    c.place.ensures ∙ ap (λ (names : List (List ℕ)). place_of names n) c.self.invariant ∙ place_named (λ (p : Property). p.name) n c.self.inside.table.now.properties ∙ ap (λ (t : Table). property_place t.properties n) c.self.view_is
