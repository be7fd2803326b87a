use Rattle.std.proofs.Common.{ℕ, List, ap, ◌∙◌, Option}
use Rattle.std.specs.Prelude.{is_some}
use Rattle.mega_schema.specs.declared.schema.Table.{Table}
use Rattle.mega_schema.specs.declared.schema.Schema.{Schema}
use Rattle.mega_schema.specs.Named.{place_of}
use Rattle.mega_schema.specs.Rules.{is_table}
use Rattle.mega_schema.proofs.Naming.{any_named}
use Rattle.mega_schema.proofs.known.Known.is_table.Goals as goal

pub returns : goal.returns
returns c =
    let n = c.args.name.now in
    c.is_some.ensures ∙ ap (λ (place : Option ℕ). is_some place) (c.place.ensures ∙ ap (λ (names : List (List ℕ)). place_of names n) c.self.invariant.0)
    ∙ any_named (λ (t : Table). t.name) n c.self.inside.schema.tables ∙ ap (λ (s : Schema). is_table s n) c.self.view_is
