-- Lists of two and three, and numbers and texts that their types hold.
use Rattle.std.proofs.Common.{◌≡◌, ℕ, ◌^◌, pos, negsuc, ℤ, ◌==◌, ◌&&◌, List, [], ◌∷◌, length, get_or, Some, None, refl, ap, arith, IsUtf8}
use Rattle.std.specs.Prelude.{if◌then◌else◌, FitsSigned}
use Rattle.std.specs.Int.{w64}
use Rattle.std.proofs.lemmas.Bool.{lt-ltb}
use Rattle.std.proofs.lemmas.Str.{is_utf8-from_IsUtf8}
use Rattle.serde_json.specs.View.{view, items_view}
use Rattle.serde_json.specs.declared.value.Value.{Value}
use Rattle.mega_schema.specs.declared.schema.Property.{Property}
use Rattle.mega_transcript.specs.Named.{property_number, names_property}
use Rattle.mega_transcript_reader.specs.ReadingRows.{pair_of, triple_of, utf8_of, int64_of}

pub a_pair : (values : List Value) (a b : Value) → length values ≡ 2 → pair_of (items_view values) ≡ Some (view (get_or values 0 a), view (get_or values 1 b))
a_pair [] a b two = absurd (omega arith)
a_pair (x ∷ []) a b two = absurd (omega arith)
a_pair (x ∷ y ∷ []) a b two = refl
a_pair (x ∷ y ∷ z ∷ values) a b two = absurd (omega arith)

pub no_pair : (values : List Value) → (length values ≡ 2 → ⊥) → pair_of (items_view values) ≡ None
no_pair [] other = refl
no_pair (x ∷ []) other = refl
no_pair (x ∷ y ∷ []) other = absurd (other refl)
no_pair (x ∷ y ∷ z ∷ values) other = refl

pub a_triple : (values : List Value) (a b c : Value) → length values ≡ 3 → triple_of (items_view values) ≡ Some (view (get_or values 0 a), (view (get_or values 1 b), view (get_or values 2 c)))
a_triple [] a b c three = absurd (omega arith)
a_triple (x ∷ []) a b c three = absurd (omega arith)
a_triple (x ∷ y ∷ []) a b c three = absurd (omega arith)
a_triple (x ∷ y ∷ z ∷ []) a b c three = refl
a_triple (x ∷ y ∷ z ∷ w ∷ values) a b c three = absurd (omega arith)

pub no_triple : (values : List Value) → (length values ≡ 3 → ⊥) → triple_of (items_view values) ≡ None
no_triple [] other = refl
no_triple (x ∷ []) other = refl
no_triple (x ∷ y ∷ []) other = refl
no_triple (x ∷ y ∷ z ∷ []) other = absurd (other refl)
no_triple (x ∷ y ∷ z ∷ w ∷ values) other = refl

pub utf8 : (text : List ℕ) → IsUtf8 text → utf8_of (Some text) ≡ text
utf8 text u = ap (λ b. if b then text else []) (is_utf8-from_IsUtf8 text u)

pub whole : (z : ℤ) → FitsSigned w64 z → int64_of (Some z) ≡ z
whole (pos n) f = ap (λ b. if b then pos n else pos 0) (lt-ltb n (2 ^ 63) f.sfits)
whole (negsuc n) f = ap (λ b. if b then negsuc n else pos 0) (lt-ltb n (2 ^ 63) f.sfits)

pub named : (properties : List Property) (n : ℕ) (name : List ℕ) → IsUtf8 name → names_property properties n name ≡ (property_number properties name == n)
named properties n name u = ap (λ b. b && (property_number properties name == n)) (is_utf8-from_IsUtf8 name u)
