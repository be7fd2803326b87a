-- How the next line is read where only so many bytes may come.
use Rattle.std.proofs.Common.{◌≡◌, ◌≢◌, ℕ, ◌+◌, ◌-◌, ◌≤◌, ◌<◌, Bool, true, false, Option, Some, None, List, [], ◌∷◌, ◌++◌, length, take, refl, sym, ◌∙◌, ap, append_assoc, append-nil, length-append, arith, inl, inr}
use Rattle.std.specs.Prelude.{◌⊎◌, nat_le, if◌then◌else◌}
use Rattle.std.proofs.lemmas.Bool.Decides.{nat_tests}
use Rattle.std.proofs.lemmas.List.Elements.{All-take}
use Rattle.std.proofs.Math.Seq.{take-append-add}
use Rattle.std.proofs.lemmas.List.{take-append-le}
use Rattle.mega_io.specs.declared.lines.Ended.TheVariants.{Feed, Input, Long}
use Rattle.mega_io.specs.TextLines.{IsUnbroken, ReadsLine, close_line, ended_lines, lines_of}
use Rattle.mega_header.specs.Known.{Passes, IfKnown}
use Rattle.mega_header.proofs.Inputs.{ended_line, ended_none, lines_on}
use Rattle.mega_backup_words.specs.Inputs.{lines_within}

is_most : (m n : ℕ) → m ≤ n → nat_le m n ≡ true
is_most m n most = grind (arith, nat_tests)

is_more : (m n : ℕ) → n < m → nat_le m n ≡ false
is_more m n more = grind (arith, nat_tests)

pub decided : (m n : ℕ) → (m ≤ n) ⊎ (n < m)
decided m n = go (nat_le m n) refl
  where
    go : (b : Bool) → nat_le m n ≡ b → (m ≤ n) ⊎ (n < m)
    go true is = inl (grind (arith, nat_tests))
    go false is = inr (grind (arith, nat_tests))

pub all_within : (most : ℕ) (input : List ℕ) → length input ≤ most → lines_within most input ≡ lines_of input
all_within most input few = ap (λ (b : Bool). if b then lines_of input else ended_lines (take most input) ++ [] ∷ []) (is_most (length input) most few)

pub cut_within : (most : ℕ) (input : List ℕ) → most < length input → lines_within most input ≡ ended_lines (take most input) ++ [] ∷ []
cut_within most input many = ap (λ (b : Bool). if b then lines_of input else ended_lines (take most input) ++ [] ∷ []) (is_more (length input) most many)

-- ---- a line, and its line feed

feed_length : (line new : List ℕ) → length ((line ++ 10 ∷ []) ++ new) ≡ (length line + 1) + length new
feed_length line new = omega (arith, length-append (line ++ 10 ∷ []) new, length-append line (10 ∷ []))

feed_all : (line new : List ℕ) → IsUnbroken line → lines_of ((line ++ 10 ∷ []) ++ new) ≡ line ∷ lines_of new
feed_all line new unbroken = ap lines_of (append_assoc line (10 ∷ []) new) ∙ lines_on [] line (10 ∷ new) unbroken

feed_front : (most : ℕ) (line new : List ℕ) → length line + 1 ≤ most → take most ((line ++ 10 ∷ []) ++ new) ≡ (line ++ 10 ∷ []) ++ take (most - (length line + 1)) new
feed_front most line new few =
    let parted : most ≡ length (line ++ 10 ∷ []) + (most - (length line + 1)) = omega (arith, few, length-append line (10 ∷ [])) in
    ap (λ n. take n ((line ++ 10 ∷ []) ++ new)) parted ∙ take-append-add (line ++ 10 ∷ []) new (most - (length line + 1))

feed_within : (most : ℕ) (line new : List ℕ) → IsUnbroken line → length line + 1 ≤ most → lines_within most ((line ++ 10 ∷ []) ++ new) ≡ line ∷ lines_within (most - (length line + 1)) new
feed_within most line new unbroken few = go (decided (length ((line ++ 10 ∷ []) ++ new)) most)
  where
    go : (length ((line ++ 10 ∷ []) ++ new) ≤ most) ⊎ (most < length ((line ++ 10 ∷ []) ++ new)) → lines_within most ((line ++ 10 ∷ []) ++ new) ≡ line ∷ lines_within (most - (length line + 1)) new
    go (inl short) =
        all_within most ((line ++ 10 ∷ []) ++ new) short ∙ feed_all line new unbroken
        ∙ ap (λ ls. line ∷ ls) (sym (all_within (most - (length line + 1)) new (omega (arith, short, few, feed_length line new))))
    go (inr long) =
        cut_within most ((line ++ 10 ∷ []) ++ new) long
        ∙ ap (λ xs. ended_lines xs ++ [] ∷ []) (feed_front most line new few)
        ∙ ap (λ ls. ls ++ [] ∷ []) (ended_line line (take (most - (length line + 1)) new) unbroken)
        ∙ ap (λ ls. line ∷ ls) (sym (cut_within (most - (length line + 1)) new (omega (arith, long, few, feed_length line new))))

-- ---- a line in which more bytes come

front_unbroken : (n : ℕ) (line : List ℕ) → IsUnbroken line → ended_lines (take n line) ≡ []
front_unbroken n line unbroken = ended_none (take n line) (All-take (λ b. b ≢ 10) n line unbroken)

past_within : (most : ℕ) (line rest : List ℕ) → IsUnbroken line → most ≤ length line → most < length (line ++ rest) → lines_within most (line ++ rest) ≡ [] ∷ []
past_within most line rest unbroken long more =
    cut_within most (line ++ rest) more ∙ ap (λ xs. ended_lines xs ++ [] ∷ []) (take-append-le most line rest long) ∙ ap (λ ls. ls ++ [] ∷ []) (front_unbroken most line unbroken)

pub feed_reads : (most : ℕ) (old new : Option (List ℕ)) (line : List ℕ) → ReadsLine most old new line Feed → length line + 1 ≤ most
    → Passes old new (λ old new. lines_within most old ≡ line ∷ lines_within (most - (length line + 1)) new)
feed_reads most None new line reads few = tt
feed_reads most (Some old) None line reads few = reads.0
feed_reads most (Some old) (Some new) line reads few = ap (lines_within most) reads.0 ∙ feed_within most line new reads.1 few

pub feed_past : (most : ℕ) (old new : Option (List ℕ)) (line : List ℕ) → ReadsLine most old new line Feed → most ≤ length line → IfKnown old (λ old. lines_within most old ≡ [] ∷ [])
feed_past most None new line reads long = tt
feed_past most (Some old) None line reads long = absurd reads.0
feed_past most (Some old) (Some new) line reads long =
    ap (lines_within most) (reads.0 ∙ append_assoc line (10 ∷ []) new) ∙ past_within most line (10 ∷ new) reads.1 long (omega (arith, long, length-append line (10 ∷ new)))

pub long_past : (most : ℕ) (old new : Option (List ℕ)) (line : List ℕ) → ReadsLine most old new line Long → IfKnown old (λ old. lines_within most old ≡ [] ∷ [])
long_past most None new line reads = tt
long_past most (Some old) None line reads = absurd reads.0.1
long_past most (Some old) (Some new) line reads =
    let long : most < length line = reads.2 in
    ap (lines_within most) (reads.0.1 ∙ append_assoc line reads.0.0 new)
    ∙ past_within most line (reads.0.0 ++ new) reads.1 (omega (arith, long)) (omega (arith, long, length-append line (reads.0.0 ++ new)))

-- ---- a line that ends with the input

last_within : (most : ℕ) (old new line : List ℕ) → old ≡ line ++ new → new ≡ [] → IsUnbroken line → length line ≤ most → lines_within most old ≡ close_line line
last_within most old new line is none unbroken few =
    let whole : old ≡ line = is ∙ ap (λ xs. line ++ xs) none ∙ append-nil line in
    ap (lines_within most) whole ∙ all_within most line few ∙ ap lines_of (sym (append-nil line)) ∙ lines_on [] line [] unbroken

some_line : (line : List ℕ) → line ≢ [] → close_line line ≡ line ∷ []
some_line [] some = absurd (some refl)
some_line (byte ∷ line) some = refl

pub last_reads : (most : ℕ) (old new : Option (List ℕ)) (line : List ℕ) → ReadsLine most old new line Input → line ≢ [] → IfKnown old (λ old. lines_within most old ≡ line ∷ [])
last_reads most None new line reads some = tt
last_reads most (Some old) None line reads some = absurd reads.0
last_reads most (Some old) (Some new) line reads some = last_within most old new line reads.0 reads.1 reads.2 reads.3 ∙ some_line line some

pub none_reads : (most : ℕ) (old new : Option (List ℕ)) (line : List ℕ) → ReadsLine most old new line Input → line ≡ [] → IfKnown old (λ old. lines_within most old ≡ [])
none_reads most None new line reads none = tt
none_reads most (Some old) None line reads none = absurd reads.0
none_reads most (Some old) (Some new) line reads none = last_within most old new line reads.0 reads.1 reads.2 reads.3 ∙ ap close_line none

-- ---- the lines that were read, before those that are still to come

abbrev pub Gathers : ℕ → Option (List ℕ) → List (List ℕ) → ℕ → Option (List ℕ) → Type 0
Gathers most first lines room left = Passes first left (λ first left. lines_within most first ≡ lines ++ lines_within room left)
