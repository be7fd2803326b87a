-- The test of sameness of values decides equality.
use Rattle.std.proofs.Common.{◌≡◌, List, refl, arith}
use Rattle.std.specs.Prelude.{◌==◌, [], ◌∷◌, length}
use Rattle.std.specs.Bool.{Decides}
use Rattle.mega_base.specs.declared.values.Value.{Value}
use Rattle.mega_row_writes.specs.of_entry.Same.{same_value, same_values}
use Rattle.mega_row_writes.proofs.of_entry.Sames.{along, lists, values}

pub same_values-Decides : (a b : List Value) → Decides (same_values a b) (a ≡ b)
same_values-Decides a b = ((lists values).equal a b, along same_values (lists values) a b)

pub none_same : (values : List Value) → (length values == 0) ≡ same_values [] values
none_same [] = refl
none_same (v ∷ vs) = grind arith
