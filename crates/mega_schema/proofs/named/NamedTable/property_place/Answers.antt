use Rattle.std.proofs.Common.{ℕ, List, ap, ◌∙◌}
use Rattle.mega_syntax.specs.declared.words.PropertyWords.{PropertyWords}
use Rattle.mega_syntax.specs.declared.words.TableWords.{TableWords}
use Rattle.mega_schema.specs.Named.{place_of}
use Rattle.mega_schema.specs.Declare.{words_place}
use Rattle.mega_schema.proofs.Naming.{place_named}
use Rattle.mega_schema.proofs.named.NamedTable.property_place.Goals as goal

pub returns : goal.returns
returns c =
    let n = c.args.name.now in
    c.place.ensures ∙ ap (λ (names : List (List ℕ)). place_of names n) c.self.invariant ∙ place_named (λ (p : PropertyWords). p.name) n c.self.inside.words.now.properties ∙ ap (λ (t : TableWords). words_place t.properties n) c.self.view_is
