use Rattle.std.proofs.Common.{ℕ, List, ap, ◌∙◌, Option}
use Rattle.std.specs.Prelude.{is_some}
use Rattle.std.specs.List.{list_any}
use Rattle.mega_syntax.specs.Names.{same}
use Rattle.mega_schema.specs.declared.schema.Index.{Index}
use Rattle.mega_schema.specs.declared.schema.Schema.{Schema}
use Rattle.mega_schema.specs.Named.{place_of}
use Rattle.mega_schema.proofs.Naming.{any_named}
use Rattle.mega_schema.proofs.known.Known.is_index.Goals as goal

pub returns : goal.returns
returns c =
    let n = c.args.name.now in
    c.is_some.ensures ∙ ap (λ (place : Option ℕ). is_some place) (c.place.ensures ∙ ap (λ (names : List (List ℕ)). place_of names n) c.self.invariant.2)
    ∙ any_named (λ (x : Index). x.name) n c.self.inside.schema.indexes ∙ ap (λ (s : Schema). list_any (λ x. same x.name n) s.indexes) c.self.view_is
