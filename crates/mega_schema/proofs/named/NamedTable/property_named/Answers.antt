use Rattle.std.proofs.Common.{ℕ, List, sym, ap, ◌∙◌}
use Rattle.mega_syntax.specs.declared.words.PropertyWords.{PropertyWords}
use Rattle.mega_syntax.specs.declared.words.TableWords.{TableWords}
use Rattle.mega_schema.specs.Named.{place_of, at_place}
use Rattle.mega_schema.specs.Lookup.{words_named}
use Rattle.mega_schema.proofs.Naming.{find_named}
use Rattle.mega_schema.proofs.named.NamedTable.property_named.Goals as goal

pub returns : goal.returns
returns c =
    let n = c.args.name.now in
    let properties = c.self.inside.words.now.properties in
    c.at.ensures ∙ ap (λ (ps : List PropertyWords). at_place ps c.place-place.result) c.as_slice.ensures
    ∙ ap (at_place properties) (c.place-place.ensures ∙ ap (λ (names : List (List ℕ)). place_of names n) c.self.invariant)
    ∙ sym (find_named (λ (p : PropertyWords). p.name) n properties) ∙ ap (λ (t : TableWords). words_named t.properties n) c.self.view_is
