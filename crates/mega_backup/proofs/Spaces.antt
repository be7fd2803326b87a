-- What stands on either side of a space, and what it comes to.
use Rattle.std.proofs.Common.{◌≡◌, ℕ, zero, suc, ◌+◌, ◌==◌, List, [], ◌∷◌, take, drop, position, codes, option_and_then, refl, sym, ap, ◌∙◌, Option, Some, arith}
use Rattle.mega_backup.specs.declared.heads.Head.{Head}
use Rattle.mega_backup.specs.Lines.{group_in, head_at, head_in, head_of}
use Rattle.mega_backup.specs.Words.{behind, number_in}

drop_one : (n : ℕ) (xs : List ℕ) → drop 1 (drop n xs) ≡ drop (suc n) xs
drop_one zero xs = refl
drop_one (suc n) [] = refl
drop_one (suc n) (x ∷ xs) = drop_one n xs

pub head_found : (line words group rest count : List ℕ) (at : ℕ) → behind (codes "backup ") line ≡ Some words → position (λ c. c == 32) words ≡ Some at → group ≡ take at words → rest ≡ drop at words → count ≡ drop 1 rest
    → head_of (group_in group) (number_in count) ≡ head_in line
head_found line words group rest count at is space front back behind_it =
    (λ i. head_of (group_in (front i)) (number_in (counted i))) ∙ sym (ap (head_at words) space) ∙ sym (ap (head_behind) is)
  where
    next : suc at ≡ at + 1
    next = omega arith

    counted : count ≡ drop (at + 1) words
    counted = behind_it ∙ ap (drop 1) back ∙ drop_one at words ∙ ap (λ n. drop n words) next

    head_behind : Option (List ℕ) → Option Head
    head_behind found = option_and_then (λ words. head_at words (position (λ c. c == 32) words)) found
