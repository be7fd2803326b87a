-- What a refused write leaves: all that stood before, and perhaps more.
use Rattle.std.proofs.Common.{◌≡◌, ℕ, ◌+◌, List, ◌++◌, length, take, drop, refl, sym, ◌∙◌, ap, append_assoc, length-append}
use Rattle.std.proofs.Math.Seq.{take-append_seam, drop-append_seam}
use Rattle.std.proofs.lemmas.List.{take-append-drop}

-- a later write is refused, and leaves what stood before it
pub keeps_front : (before more between now : List ℕ) → between ≡ before ++ more → take (length between) now ≡ between → take (length before) now ≡ before
keeps_front before more between now e h =
    ap (λ l. take (length before) l) (sym (take-append-drop (length between) now) ∙ (ap (λ l. l ++ drop (length between) now) (h ∙ e) ∙ append_assoc before more (drop (length between) now)))
    ∙ take-append_seam before (more ++ drop (length between) now)

-- a number of four bytes, written over four that stand before a text
pub length_set : (before zeros text number whole now : List ℕ) → length zeros ≡ 4 → whole ≡ (before ++ zeros) ++ text → now ≡ take (length before) whole ++ (number ++ drop (length before + 4) whole)
    → now ≡ before ++ (number ++ text)
length_set before zeros text number whole now four e h =
    let joined : whole ≡ before ++ (zeros ++ text) = e ∙ append_assoc before zeros text in
    let front : take (length before) whole ≡ before = ap (λ l. take (length before) l) joined ∙ take-append_seam before (zeros ++ text) in
    let len : length (before ++ zeros) ≡ length before + 4 = length-append before zeros ∙ ap (λ n. length before + n) four in
    let back : drop (length before + 4) whole ≡ text = ap (λ n. drop n whole) (sym len) ∙ (ap (λ l. drop (length (before ++ zeros)) l) e ∙ drop-append_seam (before ++ zeros) text) in
    h ∙ (ap (λ l. l ++ (number ++ drop (length before + 4) whole)) front ∙ ap (λ l. before ++ (number ++ l)) back)
