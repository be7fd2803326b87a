-- A record is read back from its text, a front of the text as a front of the record, and what is read has this text.
use Rattle.std.proofs.Common.{◌≡◌, ℕ, zero, suc, ◌≤◌, ◌==◌, Bool, true, false, not, All, List, [], ◌∷◌, ◌++◌, length, take, refl, sym, ap, ◌∙◌, subst, Option, Some, None, arith, append_assoc}
use Rattle.std.specs.Prelude.{if◌then◌else◌}
use Rattle.std.proofs.lemmas.Bool.{and_parts, not-true}
use Rattle.std.proofs.lemmas.Bool.Decides.{nat_tests}
use Rattle.std.proofs.lemmas.List.{append-nil}
use Rattle.std.proofs.lemmas.List.Elements.{All-cons, All-head, All-nil, All-tail}
use Rattle.mega_io.specs.TextLines.{ended_after, ended_lines}
use Rattle.mega_schema.specs.declared.schema.Schema.{Schema}
use Rattle.mega_transcript.proofs.Forms.{lacks}
use Rattle.mega_promises.specs.Served.{Line}
use Rattle.mega_promises.specs.Records.{record_line, record_text}
use Rattle.mega_record_laws.specs.Plain.{IsPlainLine}
use Rattle.mega_record_laws.specs.Reading.{and_more, read_line, read_lines, read_record}
use Rattle.mega_transcript_reader.proofs.LineEnds.{IsLine, NoEnd}
use Rattle.mega_record_laws.proofs.Ends.{record_line_told}
use Rattle.mega_record_laws.proofs.Reading.{line_again, line_found}

-- ---- lines that a line feed ends

line_ends : (front line rest : List ℕ) → NoEnd line → ended_after front (line ++ 10 ∷ rest) ≡ (front ++ line) ∷ ended_lines rest
line_ends front [] rest h = ap (λ (l : List ℕ). l ∷ ended_lines rest) (sym (append-nil front))
line_ends front (b ∷ line) rest h =
    let parts = and_parts (not (b == 10)) (lacks 10 line) h in
    ap (λ (t : Bool). if t then front ∷ ended_after [] (line ++ 10 ∷ rest) else ended_after (front ++ b ∷ []) (line ++ 10 ∷ rest)) (not-true (b == 10) parts.0)
    ∙ line_ends (front ++ b ∷ []) line rest parts.1
    ∙ ap (λ (l : List ℕ). l ∷ ended_lines rest) (append_assoc front (b ∷ []) line)

-- a front of a line has no end
no_line : (front line rest : List ℕ) (n : ℕ) → NoEnd line → n ≤ length line → ended_after front (take n (line ++ rest)) ≡ []
no_line front line rest zero h low = refl
no_line front [] rest (suc n) h low = absurd (omega arith)
no_line front (b ∷ line) rest (suc n) h low =
    let parts = and_parts (not (b == 10)) (lacks 10 line) h in
    ap (λ (t : Bool). if t then front ∷ ended_after [] (take n (line ++ rest)) else ended_after (front ++ b ∷ []) (take n (line ++ rest))) (not-true (b == 10) parts.0)
    ∙ no_line (front ++ b ∷ []) line rest n parts.1 (omega arith)

-- ---- what is written is read

one_read : (schema : Schema) (one : Line) → IsPlainLine schema one → (rest : List ℕ) → read_record schema (record_line schema one ++ rest) ≡ and_more (Some one) (read_record schema rest)
one_read schema one fit rest =
    let told = record_line_told schema one fit in
    ap (read_record schema) (ap (λ (w : List ℕ). w ++ rest) told.1.0 ∙ append_assoc told.0 (10 ∷ []) rest)
    ∙ ap (read_lines schema) (line_ends [] told.0 rest told.1.1)
    ∙ ap (λ (o : Option Line). and_more o (read_record schema rest)) (ap (read_line schema) (sym told.1.0) ∙ line_again schema one fit)

pub record_again : (schema : Schema) (lines : List Line) → All (IsPlainLine schema) lines → read_record schema (record_text schema lines) ≡ Some lines
record_again schema [] each = refl
record_again schema (one ∷ lines) each =
    one_read schema one (All-head (IsPlainLine schema) one lines each) (record_text schema lines)
    ∙ ap (and_more (Some one)) (record_again schema lines (All-tail (IsPlainLine schema) one lines each))

pub record_tells : (schema : Schema) (lines others : List Line) → All (IsPlainLine schema) lines → All (IsPlainLine schema) others → record_text schema lines ≡ record_text schema others → lines ≡ others
record_tells schema lines others f g h = some_is lines others (sym (record_again schema lines f) ∙ ap (read_record schema) h ∙ record_again schema others g)
  where
    some_is : (a b : List Line) → (let l : Option (List Line) = Some a in let r : Option (List Line) = Some b in l ≡ r) → a ≡ b
    some_is a b h = cc

-- ---- fronts

-- a front of a text that goes on behind a line: a front of the line, or the line and a front of what is behind it
data Front (line rest : List ℕ) (n : ℕ) : Type 0 where
  short : n ≤ length line → Front line rest n
  long : (m : ℕ) → take n (line ++ 10 ∷ rest) ≡ line ++ 10 ∷ take m rest → Front line rest n

front_of : (line rest : List ℕ) (n : ℕ) → Front line rest n
front_of line rest zero = short (omega arith)
front_of [] rest (suc n) = long n refl
front_of (b ∷ line) rest (suc n) = by (front_of line rest n)
  where
    by : Front line rest n → Front (b ∷ line) rest (suc n)
    by (short low) = short (omega arith)
    by (long m is) = long m (ap (λ (l : List ℕ). b ∷ l) is)

pub front_again : (schema : Schema) (lines : List Line) → All (IsPlainLine schema) lines → (n : ℕ) → (k : ℕ) × (read_record schema (take n (record_text schema lines)) ≡ Some (take k lines))
front_again schema [] each zero = (0, refl)
front_again schema [] each (suc n) = (0, refl)
front_again schema (one ∷ lines) each n = by (front_of told.0 (record_text schema lines) n) (λ m. front_again schema lines (All-tail (IsPlainLine schema) one lines each) m)
  where
    fit : IsPlainLine schema one
    fit = All-head (IsPlainLine schema) one lines each

    told : IsLine (record_line schema one)
    told = record_line_told schema one fit

    text_is : record_text schema (one ∷ lines) ≡ told.0 ++ 10 ∷ record_text schema lines
    text_is = ap (λ (w : List ℕ). w ++ record_text schema lines) told.1.0 ∙ append_assoc told.0 (10 ∷ []) (record_text schema lines)

    by : Front told.0 (record_text schema lines) n → ((m : ℕ) → (k : ℕ) × (read_record schema (take m (record_text schema lines)) ≡ Some (take k lines))) → (k : ℕ) × (read_record schema (take n (record_text schema (one ∷ lines))) ≡ Some (take k (one ∷ lines)))
    by (short low) rest = (0, ap (λ (w : List ℕ). read_record schema (take n w)) text_is ∙ ap (read_lines schema) (no_line [] told.0 (10 ∷ record_text schema lines) n told.1.1 low))
    by (long m is) rest =
        let more = rest m in (
          suc more.0,
          ap (λ (w : List ℕ). read_record schema (take n w)) text_is
              ∙ ap (read_record schema) (is ∙ sym (ap (λ (w : List ℕ). w ++ take m (record_text schema lines)) told.1.0 ∙ append_assoc told.0 (10 ∷ []) (take m (record_text schema lines))))
              ∙ one_read schema one fit (take m (record_text schema lines))
              ∙ ap (and_more (Some one)) more.1,
        )

-- ---- what is read is plain, and the text is its own

abbrev joined : List (List ℕ) → List ℕ
joined [] = []
joined (line ∷ lines) = (line ++ 10 ∷ []) ++ joined lines

-- a text is its ended lines, and what stands behind the last line feed
record Parted (text : List ℕ) (lines : List (List ℕ)) : Type 0 where
  rest : List ℕ
  is : text ≡ joined lines ++ rest
  open_end : ended_lines rest ≡ []

lacks_more : (front : List ℕ) (b : ℕ) → NoEnd front → (b == 10) ≡ false → NoEnd (front ++ b ∷ [])
lacks_more [] b h e = rw e refl
lacks_more (c ∷ front) b h e = let parts = and_parts (not (c == 10)) (lacks 10 front) h in rw parts.0 (lacks_more front b parts.1 e)

no_end : (front bytes : List ℕ) → NoEnd bytes → ended_after front bytes ≡ []
no_end front [] h = refl
no_end front (b ∷ bytes) h =
    let parts = and_parts (not (b == 10)) (lacks 10 bytes) h in
    ap (λ (t : Bool). if t then front ∷ ended_after [] bytes else ended_after (front ++ b ∷ []) bytes) (not-true (b == 10) parts.0)
    ∙ no_end (front ++ b ∷ []) bytes parts.1

parted : (front text : List ℕ) → NoEnd front → Parted (front ++ text) (ended_after front text)
parted front [] h = record { rest = front; is = append-nil front; open_end = no_end [] front h }
parted front (b ∷ text) h = by (b == 10) refl (parted [] text refl) (λ apart. parted (front ++ b ∷ []) text (lacks_more front b h apart))
  where
    ten : (b == 10) ≡ true → b ≡ 10
    ten e = grind (arith, nat_tests)

    by : (t : Bool) → (b == 10) ≡ t → Parted text (ended_lines text) → ((b == 10) ≡ false → Parted ((front ++ b ∷ []) ++ text) (ended_after (front ++ b ∷ []) text)) → Parted (front ++ b ∷ text) (if t then front ∷ ended_after [] text else ended_after (front ++ b ∷ []) text)
    by true e more again =
        record {
          rest = more.rest;
          is = ap (λ (c : ℕ). front ++ c ∷ text) (ten e) ∙ ap (λ (w : List ℕ). front ++ 10 ∷ w) more.is
              ∙ sym (append_assoc front (10 ∷ []) (joined (ended_lines text) ++ more.rest))
              ∙ sym (append_assoc (front ++ 10 ∷ []) (joined (ended_lines text)) more.rest);
          open_end = more.open_end;
        }
    by false e more again = subst (λ (w : List ℕ). Parted w (ended_after (front ++ b ∷ []) text)) (append_assoc front (b ∷ []) text) (again e)

lines_found : (schema : Schema) (texts : List (List ℕ)) (lines : List Line) → read_lines schema texts ≡ Some lines → All (IsPlainLine schema) lines × (joined texts ≡ record_text schema lines)
lines_found schema [] lines h = let is : ◌≡◌ {A = List Line} [] lines = cc in subst (λ (l : List Line). All (IsPlainLine schema) l × (joined [] ≡ record_text schema l)) is (All-nil (IsPlainLine schema), refl)
lines_found schema (text ∷ texts) lines h = by (read_line schema (text ++ 10 ∷ [])) refl (read_lines schema texts) (λ others. lines_found schema texts others) h
  where
    by : (o : Option Line) → read_line schema (text ++ 10 ∷ []) ≡ o → (more : Option (List Line)) → ((others : List Line) → more ≡ Some others → All (IsPlainLine schema) others × (joined texts ≡ record_text schema others)) → and_more o more ≡ Some lines
        → All (IsPlainLine schema) lines × (joined (text ∷ texts) ≡ record_text schema lines)
    by None e more again h = absurd (cc)
    by (Some one) e None again h = absurd (cc)
    by (Some one) e (Some others) again h =
        let is : one ∷ others ≡ lines = cc in
        let first = line_found schema (text ++ 10 ∷ []) one e in
        let rest = again others refl in
        subst (λ (l : List Line). All (IsPlainLine schema) l × (joined (text ∷ texts) ≡ record_text schema l)) is
        (All-cons (IsPlainLine schema) one others first.0 rest.0, λ i. first.1 i ++ rest.1 i)

pub record_found : (schema : Schema) (text : List ℕ) (lines : List Line) → read_record schema text ≡ Some lines
    → All (IsPlainLine schema) lines × ((rest : List ℕ) × ((text ≡ record_text schema lines ++ rest) × (ended_lines rest ≡ [])))
record_found schema text lines h =
    let parts = parted [] text refl in
    let found = lines_found schema (ended_lines text) lines h in
    (found.0, (parts.rest, (parts.is ∙ ap (λ (w : List ℕ). w ++ parts.rest) found.1, parts.open_end)))
