-- A text that is parted into its lines byte by byte.
use Rattle.std.proofs.Common.{◌≡◌, ◌≢◌, ℕ, suc, ◌+◌, ◌<◌, ◌==◌, Bool, true, false, if◌then◌else◌, List, [], ◌∷◌, ◌++◌, length, drop, get_or, refl, sym, ap, ◌∙◌, append_assoc, append-nil, arith}
use Rattle.std.proofs.lemmas.Bool.{ne_eqb}
use Rattle.std.proofs.lemmas.Bool.Decides.{nat_tests}
use Rattle.std.proofs.lemmas.List.{drop_more}
use Rattle.mega_io.specs.TextLines.{close_line, lines_after}

-- a line feed ends the line
pub ends : (lines new : List (List ℕ)) (line after : List ℕ) (byte : ℕ) → byte ≡ 10 → new ≡ lines ++ line ∷ [] → after ≡ [] → (rest : List ℕ) → new ++ lines_after after rest ≡ lines ++ lines_after line (byte ∷ rest)
ends lines new line after byte feed is empty rest =
    ap (λ ls. ls ++ lines_after after rest) is ∙ (ap (λ xs. (lines ++ line ∷ []) ++ lines_after xs rest) empty ∙ (append_assoc lines (line ∷ []) (lines_after [] rest) ∙ ap (λ b. lines ++ lines_after line (b ∷ rest)) (sym feed)))

-- any other byte is of it
pub grows : (lines : List (List ℕ)) (line longer : List ℕ) (byte : ℕ) → byte ≢ 10 → longer ≡ line ++ byte ∷ [] → (rest : List ℕ) → lines ++ lines_after longer rest ≡ lines ++ lines_after line (byte ∷ rest)
grows lines line longer byte other is rest =
    ap (λ xs. lines ++ lines_after xs rest) is ∙ ap (λ b. lines ++ (if b then line ∷ lines_after [] rest else lines_after (line ++ byte ∷ []) rest)) (sym (ne_eqb byte 10 other))

some_bytes : (n : ℕ) → (suc n == 0) ≡ false
some_bytes n = grind (arith, nat_tests)

both : (b : Bool) → b ≡ true → b ≡ false → ⊥
both true is not = let e : ◌≡◌ {A = Bool} true false = not in cc
both false is not = let e : ◌≡◌ {A = Bool} false true = is in cc

pub none : (lines : List (List ℕ)) (line : List ℕ) → (length line == 0) ≡ true → lines ≡ lines ++ close_line line
none lines [] empty = sym (append-nil lines)
none lines (byte ∷ line) empty = absurd (both (suc (length line) == 0) empty (some_bytes (length line)))

pub closed : (lines new : List (List ℕ)) (line : List ℕ) → (length line == 0) ≡ false → new ≡ lines ++ line ∷ [] → new ≡ lines ++ close_line line
closed lines new [] some is = absurd (both true refl some)
closed lines new (byte ∷ line) some is = is

-- one byte more was looked at
pub on : (lines new : List (List ℕ)) (line after : List ℕ) (text : List ℕ) (whole : List (List ℕ)) (i byte : ℕ) → i < length text → byte ≡ get_or text i byte → ((rest : List ℕ) → new ++ lines_after after rest ≡ lines ++ lines_after line (byte ∷ rest))
    → lines ++ lines_after line (drop i text) ≡ whole → new ++ lines_after after (drop (i + 1) text) ≡ whole
on lines new line after text whole i byte lt is step was =
    step (drop (i + 1) text) ∙ (ap (λ rest. lines ++ lines_after line rest) (ap (λ b. b ∷ drop (i + 1) text) is ∙ sym (drop_more text i byte lt)) ∙ was)
