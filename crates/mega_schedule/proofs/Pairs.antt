-- Lists of two.
use Rattle.std.proofs.Common.{◌≡◌, List, [], ◌∷◌, length, get_or, Some, None, refl, arith}
use Rattle.serde_json.specs.View.{view, items_view}
use Rattle.serde_json.specs.declared.value.Value.{Value}
use Rattle.mega_schedule.specs.Fields.{pair_of}

pub a_pair : (values : List Value) (a b : Value) → length values ≡ 2 → pair_of (items_view values) ≡ Some (view (get_or values 0 a), view (get_or values 1 b))
a_pair [] a b two = absurd (omega arith)
a_pair (x ∷ []) a b two = absurd (omega arith)
a_pair (x ∷ y ∷ []) a b two = refl
a_pair (x ∷ y ∷ z ∷ values) a b two = absurd (omega arith)

pub no_pair : (values : List Value) → (length values ≡ 2 → ⊥) → pair_of (items_view values) ≡ None
no_pair [] other = refl
no_pair (x ∷ []) other = refl
no_pair (x ∷ y ∷ []) other = absurd (other refl)
no_pair (x ∷ y ∷ z ∷ values) other = refl
