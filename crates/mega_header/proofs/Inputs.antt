-- How reading a line takes the first of the input's lines.
use Rattle.std.proofs.Common.{◌≡◌, ◌≢◌, ℕ, ◌≤◌, ◌<◌, ◌==◌, if◌then◌else◌, Bool, true, false, Option, Some, None, List, [], ◌∷◌, ◌++◌, length, refl, sym, ◌∙◌, ap, append_assoc, append-nil, length-append, arith, inl, inr}
use Rattle.std.proofs.lemmas.Bool.Decides.{nat_tests}
use Rattle.std.proofs.lemmas.List.Elements.{All-head, All-tail}
use Rattle.mega_io.specs.declared.lines.Ended.TheVariants.{Feed, Input}
use Rattle.mega_io.specs.TextLines.{IsUnbroken, ReadsLine, close_line, ended_after, ended_lines, lines_after, lines_of}
use Rattle.mega_header.specs.Known.{Follows}

pub other_byte : (byte : ℕ) → byte ≢ 10 → (byte == 10) ≡ false
other_byte byte other = grind (arith, nat_tests)

-- bytes without a line feed belong to the line
pub lines_on : (front line rest : List ℕ) → IsUnbroken line → lines_after front (line ++ rest) ≡ lines_after (front ++ line) rest
lines_on front [] rest unbroken = ap (λ xs. lines_after xs rest) (sym (append-nil front))
lines_on front (byte ∷ line) rest unbroken =
    ap (λ b. if b then front ∷ lines_after [] (line ++ rest) else lines_after (front ++ byte ∷ []) (line ++ rest)) (other_byte byte (All-head (λ b. b ≢ 10) byte line unbroken))
    ∙ lines_on (front ++ byte ∷ []) line rest (All-tail (λ b. b ≢ 10) byte line unbroken) ∙ ap (λ xs. lines_after xs rest) (append_assoc front (byte ∷ []) line)

pub ended_on : (front line rest : List ℕ) → IsUnbroken line → ended_after front (line ++ rest) ≡ ended_after (front ++ line) rest
ended_on front [] rest unbroken = ap (λ xs. ended_after xs rest) (sym (append-nil front))
ended_on front (byte ∷ line) rest unbroken =
    ap (λ b. if b then front ∷ ended_after [] (line ++ rest) else ended_after (front ++ byte ∷ []) (line ++ rest)) (other_byte byte (All-head (λ b. b ≢ 10) byte line unbroken))
    ∙ ended_on (front ++ byte ∷ []) line rest (All-tail (λ b. b ≢ 10) byte line unbroken) ∙ ap (λ xs. ended_after xs rest) (append_assoc front (byte ∷ []) line)

-- none of them ends
pub ended_none : (line : List ℕ) → IsUnbroken line → ended_lines line ≡ []
ended_none line unbroken = ap ended_lines (sym (append-nil line)) ∙ ended_on [] line [] unbroken

pub ended_line : (line more : List ℕ) → IsUnbroken line → ended_lines ((line ++ 10 ∷ []) ++ more) ≡ line ∷ ended_lines more
ended_line line more unbroken = ap ended_lines (append_assoc line (10 ∷ []) more) ∙ ended_on [] line (10 ∷ more) unbroken

pub both_none : (xs ys : List ℕ) → [] ≡ xs ++ ys → (xs ≡ []) × (ys ≡ [])
both_none [] ys is = (refl, sym is)
both_none (x ∷ xs) ys is = absurd (let none : [] ≡ x ∷ (xs ++ ys) = is in cc)

pub close_line-some : (line : List ℕ) → line ≢ [] → close_line line ≡ line ∷ []
close_line-some [] some = absurd (some refl)
close_line-some (byte ∷ line) some = refl

pub longer : (front : List ℕ) (byte : ℕ) → front ++ byte ∷ [] ≢ []
longer [] byte is = cc
longer (x ∷ front) byte is = cc

-- a line that is begun is the front of the first
pub begun : (front rest : List ℕ) → front ≢ [] → (line : List ℕ) × (others : List (List ℕ)) × (lines_after front rest ≡ line ∷ others) × (length front ≤ length line)
begun front [] some = (front, [], close_line-some front some, omega arith)
begun front (byte ∷ rest) some = go (byte == 10) refl (begun (front ++ byte ∷ []) rest (longer front byte))
  where
    go : (b : Bool) → (byte == 10) ≡ b → ((line : List ℕ) × (others : List (List ℕ)) × (lines_after (front ++ byte ∷ []) rest ≡ line ∷ others) × (length (front ++ byte ∷ []) ≤ length line))
        → (line : List ℕ) × (others : List (List ℕ)) × (lines_after front (byte ∷ rest) ≡ line ∷ others) × (length front ≤ length line)
    go true is more = (front, lines_after [] rest, ap (λ b. if b then front ∷ lines_after [] rest else lines_after (front ++ byte ∷ []) rest) is, omega arith)
    go false is more =
        (more.0, more.1, ap (λ b. if b then front ∷ lines_after [] rest else lines_after (front ++ byte ∷ []) rest) is ∙ more.2, omega (arith, more.3, length-append front (byte ∷ [])))

pub line_follows : (old new : Option (List ℕ)) (line : List ℕ) (most : ℕ) → ReadsLine most old new line Feed → Follows old new line
line_follows None new line most reads = tt
line_follows (Some old) None line most reads = reads.0
line_follows (Some old) (Some new) line most reads =
    (ap lines_of (reads.0 ∙ append_assoc line (10 ∷ []) new) ∙ lines_on [] line (10 ∷ new) reads.1, (line ++ 10 ∷ [], reads.0, inl (λ more. ended_line line more reads.1)))

pub last_follows : (old new : Option (List ℕ)) (line : List ℕ) (most : ℕ) → ReadsLine most old new line Input → line ≢ [] → Follows old new line
last_follows None new line most reads some = tt
last_follows (Some old) None line most reads some = reads.0
last_follows (Some old) (Some new) line most reads some =
    (ap lines_of reads.0 ∙ lines_on [] line new reads.2 ∙ ap (lines_after line) reads.1 ∙ close_line-some line some ∙ ap (λ rest. line ∷ lines_of rest) (sym reads.1), (line, reads.0, inr reads.1))

-- the first line of an input of which more was read than this
pub long_line : (most : ℕ) (old : List ℕ) (line more new : List ℕ) → old ≡ (line ++ more) ++ new → IsUnbroken line → most < length line
    → (first : List ℕ) × (rest : List (List ℕ)) × (lines_of old ≡ first ∷ rest) × (most < length first)
long_line most old line more new is unbroken long =
    let some : line ≢ [] = λ none. let empty = ap length none in omega (arith, empty, long) in
    let front = begun line (more ++ new) some in
    (front.0, front.1, ap lines_of (is ∙ append_assoc line more new) ∙ lines_on [] line (more ++ new) unbroken ∙ front.2, omega (arith, front.3, long))
