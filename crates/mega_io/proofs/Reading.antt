-- What a read of a source in memory takes from its front.
use Rattle.std.proofs.Common.{◌≡◌, ℕ, ◌+◌, ◌<◌, min, Option, List, [], ◌++◌, length, take, drop, refl, sym, ◌∙◌, ap, arith}
use Rattle.std.specs.Io.KnownBytes.{append_known, Keeps, Appends}
use Rattle.std.proofs.KnownBytes.{append_known-moved}
use Rattle.std.proofs.lemmas.List.{take-append-drop, drop-drop, nil_from_length}

pub taken_front : (items left given : List ℕ) (at n : ℕ) → left ≡ drop at items → take n given ≡ take n left → drop at items ≡ take n given ++ drop (at + n) items
taken_front items left given at n is same =
    sym (take-append-drop n (drop at items)) ∙ ap (λ xs. xs ++ drop n (drop at items)) (ap (take n) (sym is) ∙ sym same) ∙ ap (λ xs. take n given ++ xs) (drop-drop n at items)

-- what waited from a place on is held, as far as it was written, and waits from further on
pub moved_on : (held grown : Option (List ℕ)) (items left : List ℕ) (at n : ℕ) → left ≡ drop at items → Appends held grown (take n left)
    → Keeps (append_known held (drop at items)) (append_known grown (drop (at + n) items))
moved_on held grown items left at n is appends =
    append_known-moved held grown (take n left) (drop (at + n) items) (drop at items) appends (taken_front items left left at n is refl)

pub nothing_left : (items left : List ℕ) (at n room : ℕ) → left ≡ drop at items → n ≡ min (length left) room → n ≡ 0 → 0 < room → drop (at + n) items ≡ []
nothing_left items left at n room is least none some =
    sym (drop-drop n at items) ∙ ap (λ k. drop k (drop at items)) none ∙ sym is ∙ nil_from_length left (omega arith)
