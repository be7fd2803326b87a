-- How a header is read, line by line, up to the line that ends it.
use Rattle.std.proofs.Common.{◌≡◌, ℕ, ◌+◌, ◌≤◌, ◌<◌, cond, Bool, true, false, Option, Some, None, Err, List, [], ◌∷◌, ◌++◌, length, refl, sym, ◌∙◌, ap, subst, append_assoc, append-nil, length-append, arith, rules, inl, inr}
use Rattle.std.specs.Prelude.{nat_lt, if◌then◌else◌}
use Rattle.std.proofs.lemmas.Bool.Decides.{nat_tests}
use Rattle.mega_cluster.specs.Header.{◌>>=◌, document_of, header_of, read_of}
use Rattle.mega_io.specs.declared.lines.Ended.TheVariants.{Feed, Input, Long}
use Rattle.mega_io.specs.TextLines.{BreaksOff, IsUnbroken, ReadsLine, close_line, ended_lines, lines_after, lines_of}
use Rattle.mega_header.specs.Parts.{cluster_in, header_before, is_mark, lines_behind, text_before}
use Rattle.mega_header.specs.Known.{Breaks, Follows, HasFront, HasHeader, HasNoMark, HeaderFails, IsOfHeader, Takes, TakesHeader, TakesLine}
use Rattle.mega_header.proofs.Inputs.{ended_line, ended_none, last_follows, line_follows, lines_on, long_line}

-- ---- a header that is too long

is_less : (m n : ℕ) → m < n → nat_lt m n ≡ true
is_less m n less = grind (arith, nat_tests)

read_long : (least : ℕ) (text : List ℕ) → 262144 < length text → read_of least text ≡ Err 6
read_long least text long = ap (λ (t : Bool). cond t (Err 6) (document_of text >>= λ ms. header_of least ms)) (is_less 262144 (length text) long)

breaks_six : (least : ℕ) (input : List ℕ) (lines : List (List ℕ)) (behind : Option (List (List ℕ))) → 262144 < length input → 262144 < length (text_before lines) → read_of least (header_before input lines behind) ≡ Err 6
breaks_six least input lines None whole front = read_long least input whole
breaks_six least input lines (Some schedule) whole front = read_long least (text_before lines) front

long_breaks : (least : ℕ) (input : List ℕ) → 262144 < length input → 262144 < length (text_before (lines_of input)) → cluster_in least input ≡ Err 6
long_breaks least input whole front = breaks_six least input (lines_of input) (lines_behind (lines_of input)) whole front

longer_rest : (text rest : List ℕ) → 262144 < length rest → 262144 < length (text ++ rest)
longer_rest text rest long = omega (arith, long, length-append text rest)

-- the line `---` is short
mark_short : (line : List ℕ) → 4 < length line → is_mark line ≡ false
mark_short [] long = absurd (omega arith)
mark_short (a ∷ []) long = absurd (omega arith)
mark_short (a ∷ b ∷ []) long = absurd (omega arith)
mark_short (a ∷ b ∷ c ∷ []) long = absurd (omega arith)
mark_short (a ∷ b ∷ c ∷ d ∷ []) long = absurd (omega arith)
mark_short (a ∷ b ∷ c ∷ d ∷ e ∷ line) long = search rules

-- ---- one line more

before_line : (line : List ℕ) (lines : List (List ℕ)) → is_mark line ≡ false → text_before (line ∷ lines) ≡ line ++ 10 ∷ text_before lines
before_line line lines plain = ap (λ (t : Bool). if t then [] else line ++ 10 ∷ text_before lines) plain

before_mark : (line : List ℕ) (lines : List (List ℕ)) → is_mark line ≡ true → text_before (line ∷ lines) ≡ []
before_mark line lines marks = ap (λ (t : Bool). if t then [] else line ++ 10 ∷ text_before lines) marks

behind_line : (line : List ℕ) (lines : List (List ℕ)) → is_mark line ≡ false → lines_behind (line ∷ lines) ≡ lines_behind lines
behind_line line lines plain = ap (λ (t : Bool). if t then Some lines else lines_behind lines) plain

behind_mark : (line : List ℕ) (lines : List (List ℕ)) → is_mark line ≡ true → lines_behind (line ∷ lines) ≡ Some lines
behind_mark line lines marks = ap (λ (t : Bool). if t then Some lines else lines_behind lines) marks

of_header : (line text : List ℕ) → IsOfHeader text → is_mark line ≡ false → IsUnbroken line → IsOfHeader (text ++ (line ++ 10 ∷ []))
of_header line text of plain unbroken = λ more.
    let whole = ap ended_lines (append_assoc text (line ++ 10 ∷ []) more) in
    let one = of ((line ++ 10 ∷ []) ++ more) in
    let ends = ended_line line more unbroken in (
      ap text_before whole ∙ one.0 ∙ ap (λ (ls : List (List ℕ)). text ++ text_before ls) ends
          ∙ ap (λ (rest : List ℕ). text ++ rest) (before_line line (ended_lines more) plain ∙ sym (append_assoc line (10 ∷ []) (text_before (ended_lines more)))) ∙ sym (append_assoc text (line ++ 10 ∷ []) (text_before (ended_lines more))),
      ap lines_behind whole ∙ one.1 ∙ ap lines_behind ends ∙ behind_line line (ended_lines more) plain,
    )

front_on : (first old new line text : List ℕ) → HasFront (Some first) (Some old) text → old ≡ (line ++ 10 ∷ []) ++ new → lines_of old ≡ line ∷ lines_of new → is_mark line ≡ false → IsUnbroken line
    → HasFront (Some first) (Some new) (text ++ (line ++ 10 ∷ []))
front_on first old new line text front is lines plain unbroken = (
  front.0 ∙ ap (λ (rest : List ℕ). text ++ rest) is ∙ sym (append_assoc text (line ++ 10 ∷ []) new),
  front.1 ∙ ap (λ (ls : List (List ℕ)). text ++ text_before ls) lines ∙ ap (λ (rest : List ℕ). text ++ rest) (before_line line (lines_of new) plain ∙ sym (append_assoc line (10 ∷ []) (text_before (lines_of new))))
      ∙ sym (append_assoc text (line ++ 10 ∷ []) (text_before (lines_of new))),
  front.2 ∙ ap lines_behind lines ∙ behind_line line (lines_of new) plain,
  of_header line text front.3 plain unbroken,
)

pub line_part : (old new : Option (List ℕ)) (line text : List ℕ) (most : ℕ) → ReadsLine most old new line Feed → is_mark line ≡ false → (first : Option (List ℕ)) → HasFront first old text → HasFront first new (text ++ (line ++ 10 ∷ []))
line_part old new line text most reads plain None front = tt
line_part None new line text most reads plain (Some first) front = absurd front
line_part (Some old) None line text most reads plain (Some first) front = absurd reads.0
line_part (Some old) (Some new) line text most reads plain (Some first) front =
    front_on first old new line text front reads.0 (line_follows (Some old) (Some new) line most reads).0 plain reads.1

-- ---- the line that ends it

header_taken : (first old new line text : List ℕ) → first ≡ text ++ old → IsOfHeader text → is_mark line ≡ true → TakesLine old new line → TakesHeader first new text
header_taken first old new line text front of marks (part, is, inl ends) = (
  text ++ part,
  front ∙ ap (λ (rest : List ℕ). text ++ rest) is ∙ sym (append_assoc text part new),
  inl (λ more.
      let whole = ap ended_lines (append_assoc text part more) in
      let one = of (part ++ more) in (
        ap text_before whole ∙ one.0 ∙ ap (λ (ls : List (List ℕ)). text ++ text_before ls) (ends more) ∙ ap (λ (rest : List ℕ). text ++ rest) (before_mark line (ended_lines more) marks) ∙ append-nil text,
        ap lines_behind whole ∙ one.1 ∙ ap lines_behind (ends more) ∙ behind_mark line (ended_lines more) marks,
      )),
)
header_taken first old new line text front of marks (part, is, inr none) = (text ++ part, front ∙ ap (λ (rest : List ℕ). text ++ rest) is ∙ sym (append_assoc text part new), inr none)

marked : (old new : Option (List ℕ)) (line text : List ℕ) → Follows old new line → is_mark line ≡ true → (first : Option (List ℕ)) → HasFront first old text → HasHeader first new text
marked old new line text follows marks None front = tt
marked None new line text follows marks (Some first) front = absurd front
marked (Some old) None line text follows marks (Some first) front = absurd follows
marked (Some old) (Some new) line text follows marks (Some first) front = (
  (
    front.1 ∙ ap (λ (ls : List (List ℕ)). text ++ text_before ls) follows.0 ∙ ap (λ (rest : List ℕ). text ++ rest) (before_mark line (lines_of new) marks) ∙ append-nil text,
    front.2 ∙ ap lines_behind follows.0 ∙ behind_mark line (lines_of new) marks,
  ),
  header_taken first old new line text front.0 front.3 marks follows.1,
)

pub mark_part : (old new : Option (List ℕ)) (line text : List ℕ) (most : ℕ) → ReadsLine most old new line Feed → is_mark line ≡ true → (first : Option (List ℕ)) → HasFront first old text → HasHeader first new text
mark_part old new line text most reads marks first front = marked old new line text (line_follows old new line most reads) marks first front

pub mark_last : (old new : Option (List ℕ)) (line text : List ℕ) (most : ℕ) → ReadsLine most old new line Input → is_mark line ≡ true → (first : Option (List ℕ)) → HasFront first old text → HasHeader first new text
mark_last old new [] text most reads marks first front = absurd (let none : ◌≡◌ {A = Bool} false true = marks in cc)
mark_last old new (byte ∷ line) text most reads marks first front =
    marked old new (byte ∷ line) text (last_follows old new (byte ∷ line) most reads (λ none. cc)) marks first front

-- ---- the end without one

closed : (line : List ℕ) → is_mark line ≡ false → lines_behind (close_line line) ≡ None
closed [] plain = refl
closed (byte ∷ line) plain = behind_line (byte ∷ line) [] plain

pub end_part : (old new : Option (List ℕ)) (line text : List ℕ) (most : ℕ) → ReadsLine most old new line Input → is_mark line ≡ false → (first : Option (List ℕ)) → HasFront first old text → HasNoMark first (text ++ line)
end_part old new line text most reads plain None front = tt
end_part None new line text most reads plain (Some first) front = absurd front
end_part (Some old) None line text most reads plain (Some first) front = absurd reads.0
end_part (Some old) (Some new) line text most reads plain (Some first) front =
    let whole : old ≡ line = reads.0 ∙ ap (λ (rest : List ℕ). line ++ rest) reads.1 ∙ append-nil line in
    let all : lines_of old ≡ close_line line = ap lines_of reads.0 ∙ lines_on [] line new reads.2 ∙ ap (λ (rest : List ℕ). lines_after line rest) reads.1 in
    (front.0 ∙ ap (λ (rest : List ℕ). text ++ rest) whole, front.2 ∙ ap lines_behind all ∙ closed line plain)

pub long_part : (least : ℕ) (old new : Option (List ℕ)) (line text : List ℕ) → ReadsLine 262144 old new line Long → (first : Option (List ℕ)) → HasFront first old text → Breaks least first 6
long_part least old new line text reads None front = tt
long_part least None new line text reads (Some first) front = absurd front
long_part least (Some old) None line text reads (Some first) front = absurd reads.0.1
long_part least (Some old) (Some new) line text reads (Some first) front =
    let found = long_line 262144 old line reads.0.0 new reads.0.1 reads.1 reads.2 in
    let head = found.0 in
    let plain = mark_short head (let long = found.3 in omega (arith, long)) in
    let whole : 262144 < length old = let some = reads.2 in omega (arith, some, ap length reads.0.1, length-append (line ++ reads.0.0) new, length-append line reads.0.0) in
    let some : 262144 < length (text_before (lines_of old)) =
    subst (λ (front : List ℕ). 262144 < length front) (sym (ap text_before found.2 ∙ before_line head found.1 plain)) (let long = found.3 in omega (arith, long, length-append head (10 ∷ text_before found.1))) in
    long_breaks least first (subst (λ (all : List ℕ). 262144 < length all) (sym front.0) (longer_rest text old whole))
    (subst (λ (all : List ℕ). 262144 < length all) (sym front.1) (longer_rest text (text_before (lines_of old)) some))

-- ---- the whole

-- the source failed before the line `---`
pub header_fails : (first now left : Option (List ℕ)) (text line waiting : List ℕ) → HasFront first now text → BreaksOff now waiting left line → HeaderFails first left
header_fails None now left text line waiting front breaks = tt
header_fails (Some first) None left text line waiting front breaks = absurd front
header_fails (Some first) (Some now) None text line waiting front breaks = absurd breaks.0
header_fails (Some first) (Some now) (Some left) text line waiting front breaks =
    (text ++ line, front.0 ∙ ap (λ (rest : List ℕ). text ++ rest) breaks.0 ∙ sym (append_assoc text line left), (front.3 line).1 ∙ ap lines_behind (ended_none line breaks.1))

-- ---- how many bytes were read

pub takes_feed : (old new : Option (List ℕ)) (line : List ℕ) (most : ℕ) → ReadsLine most old new line Feed → Takes old new (length line + 1)
takes_feed None new line most reads = tt
takes_feed (Some old) None line most reads = absurd reads.0
takes_feed (Some old) (Some new) line most reads = inl (omega (arith, ap length reads.0, length-append (line ++ 10 ∷ []) new, length-append line (10 ∷ [])))

pub takes_last : (old new : Option (List ℕ)) (line : List ℕ) (most : ℕ) → ReadsLine most old new line Input → Takes old new (length line + 1)
takes_last None new line most reads = tt
takes_last (Some old) None line most reads = absurd reads.0
takes_last (Some old) (Some new) line most reads = inr (reads.1, omega (arith, ap length reads.0, length-append line new, ap length reads.1))

pub takes_all : (first old new : Option (List ℕ)) (text : List ℕ) (count : ℕ) → HasFront first old text → Takes old new count → Takes first new (length text + count)
takes_all None old new text count front takes = tt
takes_all (Some first) None new text count front takes = absurd front
takes_all (Some first) (Some old) None text count front takes = absurd takes
takes_all (Some first) (Some old) (Some new) text count front (inl is) = inl (omega (arith, is, ap length front.0, length-append text old))
takes_all (Some first) (Some old) (Some new) text count front (inr (none, few)) = inr (none, omega (arith, few, ap length front.0, length-append text old))

pub mark_few : (line : List ℕ) → is_mark line ≡ true → length line ≤ 4
mark_few [] marks = omega arith
mark_few (a ∷ []) marks = omega arith
mark_few (a ∷ b ∷ []) marks = omega arith
mark_few (a ∷ b ∷ c ∷ []) marks = omega arith
mark_few (a ∷ b ∷ c ∷ d ∷ []) marks = omega arith
mark_few (a ∷ b ∷ c ∷ d ∷ e ∷ line) marks = absurd (let none : ◌≡◌ {A = Bool} false true = sym (mark_short (a ∷ b ∷ c ∷ d ∷ e ∷ line) (omega arith)) ∙ marks in cc)
