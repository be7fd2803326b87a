-- First rows, one line more at a time.
use Rattle.std.proofs.Common.{◌≡◌, ℕ, ◌+◌, ◌<◌, Bool, true, false, cond, List, [], ◌∷◌, ◌++◌, length, take, get_or, refl, sym, ap, ◌∙◌, arith}
use Rattle.std.specs.Prelude.{Some, None}
use Rattle.std.specs.List.{position_from}
use Rattle.std.proofs.lemmas.List.{take_more, length-take-le}
use Rattle.mega_schema.specs.Named.{or_place}
use Rattle.mega_picture.specs.Ways.{number_on, is_number, happens, first_row}
use Rattle.mega_picture.specs.declared.item_line.ItemLine.{ItemLine}
use Rattle.mega_picture.specs.declared.journeys.Way.{Way}

at_none : (b : Bool) (i j : ℕ) → i ≡ j → cond b (Some i) None ≡ or_place None b j
at_none true i j e = ap Some e
at_none false i j e = refl

-- a first place in a list with one element more
pub position_push : {A : Type 0} (test : A → Bool) (k : ℕ) (xs : List A) (y : A) → position_from test k (xs ++ y ∷ []) ≡ or_place (position_from test k xs) (test y) (k + length xs)
position_push test k [] y = at_none (test y) k (k + 0) (omega arith)
position_push test k (x ∷ xs) y = by (test x) (position_push test (k + 1) xs y)
  where
    by : (b : Bool) → position_from test (k + 1) (xs ++ y ∷ []) ≡ or_place (position_from test (k + 1) xs) (test y) ((k + 1) + length xs) → cond b (Some k) (position_from test (k + 1) (xs ++ y ∷ [])) ≡ or_place (cond b (Some k) (position_from test (k + 1) xs)) (test y) (k + length (x ∷ xs))
    by true e = refl
    by false e = e ∙ ap (or_place (position_from test (k + 1) xs) (test y)) (omega arith)

-- the index after one line more
pub first_row_on : (way : Way) (n : ℕ) (told : List ItemLine) (i : ℕ) (one : ItemLine) → i < length told → one ≡ get_or told i one → or_place (first_row way n (take i told)) (is_number n (number_on way one.item)) i ≡ first_row way n (take (i + 1) told)
first_row_on way n told i one lt is =
    ap (or_place (first_row way n (take i told)) (happens way n one)) (counted (length-take-le i told (omega arith)))
    ∙ (sym (position_push (happens way n) 0 (take i told) one)
    ∙ ap (λ xs. position_from (happens way n) 0 xs) (ap (λ x. take i told ++ x ∷ []) is ∙ sym (take_more told i one lt)))
  where
    counted : length (take i told) ≡ i → i ≡ 0 + length (take i told)
    counted e = omega (arith, e)
