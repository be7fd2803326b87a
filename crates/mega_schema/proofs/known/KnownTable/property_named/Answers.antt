use Rattle.std.proofs.Common.{ℕ, List, sym, ap, ◌∙◌}
use Rattle.mega_schema.specs.declared.schema.Property.{Property}
use Rattle.mega_schema.specs.declared.schema.Table.{Table}
use Rattle.mega_schema.specs.Named.{place_of, at_place}
use Rattle.mega_schema.specs.Lookup.{property_named}
use Rattle.mega_schema.proofs.Naming.{find_named}
use Rattle.mega_schema.proofs.known.KnownTable.property_named.Goals as goal

pub returns : goal.returns
returns c =
    let n = c.args.name.now in
    let properties = c.self.inside.table.now.properties in
    c.at.ensures ∙ ap (λ (ps : List Property). at_place ps c.place-place.result) c.as_slice.ensures
    ∙ ap (at_place properties) (c.place-place.ensures ∙ ap (λ (names : List (List ℕ)). place_of names n) c.self.invariant)
    ∙ sym (find_named (λ (p : Property). p.name) n properties) ∙ ap (λ (t : Table). property_named t.properties n) c.self.view_is
