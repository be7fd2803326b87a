-- Where values are left for none of the names.
use Rattle.std.proofs.Common.{◌≡◌, ◌<◌, ◌++◌, ℕ, List, [], ◌∷◌, length, sym, ◌∙◌, arith}
use Rattle.std.proofs.lemmas.List.{append-nil}
use Rattle.serde_json.specs.View.{items_view}
use Rattle.serde_json.specs.declared.value.Value.{Value}
use Rattle.mega_schema.specs.declared.schema.Property.{Property}
use Rattle.mega_two_driver.specs.Texts.{members_text}

-- no values are left
pub none_left : (out whole : List ℕ) (properties : List Property) (ns : List ℕ) (left : List Value) → length left < 1
    → out ++ members_text properties ns (items_view left) ≡ whole → out ≡ whole
none_left out whole properties [] [] below met = sym (append-nil out) ∙ met
none_left out whole properties (n ∷ ns) [] below met = sym (append-nil out) ∙ met
none_left out whole properties ns (value ∷ left) below met = absurd (omega arith)
