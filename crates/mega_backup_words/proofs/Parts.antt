-- The header of a backup, and the lines behind the line `---`.
use Rattle.std.proofs.Common.{◌≡◌, ℕ, ◌+◌, ◌-◌, ◌≤◌, ◌<◌, cond, Bool, true, false, Option, Some, None, Result, Ok, Err, List, [], ◌∷◌, ◌++◌, length, take, refl, sym, ◌∙◌, ap, subst, length-append, arith, inl, inr}
use Rattle.std.specs.Prelude.{◌⊎◌, nat_lt, if◌then◌else◌}
use Rattle.std.proofs.lemmas.Bool.Decides.{nat_tests}
use Rattle.std.proofs.Math.Seq.{take-append-add}
use Rattle.std.specs.Io.KnownBytes.{prepend_known}
use Rattle.std.proofs.KnownBytes.{prepend_known-nil}
use Rattle.mega_cluster.specs.declared.cluster.Cluster.{Cluster}
use Rattle.mega_cluster.specs.Header.{◌>>=◌, document_of, header_of, read_of}
use Rattle.mega_io.specs.TextLines.{ended_lines, lines_of}
use Rattle.mega_header.specs.Parts.{cluster_in, header_before, is_mark, lines_behind}
use Rattle.mega_header.specs.Known.{AreParted, Breaks, HasHeader, HasNoMark, Takes, IfKnown}
use Rattle.mega_backup_words.specs.declared.stop.Stop.{Stop}
use Rattle.mega_backup_words.specs.declared.stop.Stop.TheVariants.{Header, Source, Sink, Device, NoMemory, Malformed, Short, TooLarge, BadRecord}
use Rattle.mega_backup_words.specs.Stops.{IsHeaderStop, IsReadStop}
use Rattle.mega_backup_words.specs.Endings.{ending_of}
use Rattle.mega_backup_words.specs.Inputs.{lines_within, most_bytes, parts_ending, restore_of}
use Rattle.mega_backup_words.proofs.Within.{all_within, cut_within, decided}

-- ---- the header

pub headed : (least : ℕ) (first : List ℕ) (text : List ℕ) (left : List (List ℕ)) (c : Cluster) → AreParted text (lines_of first) left → read_of least text ≡ Ok c → cluster_in least first ≡ Ok c
headed least first text left c parted reads =
    ap (λ (behind : Option (List (List ℕ))). read_of least (header_before first (lines_of first) behind)) parted.1 ∙ ap (read_of least) parted.0 ∙ reads

pub all_headed : (least : ℕ) (first : List ℕ) (text : List ℕ) (c : Cluster) → HasNoMark (Some first) text → read_of least text ≡ Ok c → cluster_in least first ≡ Ok c
all_headed least first text c none reads =
    ap (λ (behind : Option (List (List ℕ))). read_of least (header_before first (lines_of first) behind)) none.1 ∙ ap (read_of least) none.0 ∙ reads

pub header_read : (least : ℕ) (first left : Option (List ℕ)) (c : Cluster) (text : List ℕ) → read_of least text ≡ Ok c → HasHeader first left text → IfKnown first (λ input. cluster_in least input ≡ Ok c)
header_read least None left c text reads header = tt
header_read least (Some first) None c text reads header = absurd header
header_read least (Some first) (Some left) c text reads header = headed least first text (lines_of left) c header.0 reads

pub whole_read : (least : ℕ) (first : Option (List ℕ)) (c : Cluster) (text : List ℕ) → read_of least text ≡ Ok c → HasNoMark first text → IfKnown first (λ input. cluster_in least input ≡ Ok c)
whole_read least None c text reads none = tt
whole_read least (Some first) c text reads none = all_headed least first text c none reads

-- ---- the lines behind it

behind_more : (lines more behind : List (List ℕ)) → lines_behind lines ≡ Some behind → lines_behind (lines ++ more) ≡ Some (behind ++ more)
behind_more [] more behind is = absurd (let none : ◌≡◌ {A = Option (List (List ℕ))} None (Some behind) = is in cc)
behind_more (line ∷ lines) more behind is = go (is_mark line) is (behind_more lines more behind)
  where
    go : (b : Bool) → (if b then Some lines else lines_behind lines) ≡ Some behind → (lines_behind lines ≡ Some behind → lines_behind (lines ++ more) ≡ Some (behind ++ more)) → (if b then Some (lines ++ more) else lines_behind (lines ++ more)) ≡ Some (behind ++ more)
    go true is on = let same : lines ≡ behind = cc in ap (λ (ls : List (List ℕ)). Some (ls ++ more)) same
    go false is on = on is

cut_behind : (most taken : ℕ) (first read left : List ℕ) → first ≡ read ++ left → length first ≡ taken + length left → taken ≤ most → most < length first
    → ((more : List ℕ) → lines_behind (ended_lines (read ++ more)) ≡ Some (ended_lines more)) → lines_behind (lines_within most first) ≡ Some (lines_within (most - taken) left)
cut_behind most taken first read left is count few long ends =
    let same : length read ≡ taken = omega (arith, count, ap length is, length-append read left) in
    let parted : most ≡ length read + (most - taken) = omega (arith, same, few) in
    ap lines_behind (cut_within most first long ∙ ap (λ (xs : List ℕ). ended_lines (take most xs) ++ [] ∷ []) is)
    ∙ ap (λ (n : ℕ). lines_behind (ended_lines (take n (read ++ left)) ++ [] ∷ [])) parted
    ∙ ap (λ (xs : List ℕ). lines_behind (ended_lines xs ++ [] ∷ [])) (take-append-add read left (most - taken))
    ∙ behind_more (ended_lines (read ++ take (most - taken) left)) ([] ∷ []) (ended_lines (take (most - taken) left)) (ends (take (most - taken) left))
    ∙ ap Some (sym (cut_within (most - taken) left (omega (arith, count, long))))

short_behind : (most taken : ℕ) (first left : List ℕ) → length first ≤ most → length left ≤ most - taken → lines_behind (lines_of first) ≡ Some (lines_of left) → lines_behind (lines_within most first) ≡ Some (lines_within (most - taken) left)
short_behind most taken first left short few is = ap lines_behind (all_within most first short) ∙ is ∙ ap Some (sym (all_within (most - taken) left few))

none_left : (left : List ℕ) (n : ℕ) → left ≡ [] → length left ≤ n
none_left left n none = let count = ap length none in omega (arith, count)

behind_within : (most taken : ℕ) (first left text : List ℕ) → taken ≤ most → HasHeader (Some first) (Some left) text → Takes (Some first) (Some left) taken → lines_behind (lines_within most first) ≡ Some (lines_within (most - taken) left)
behind_within most taken first left text few header (inr (none, short)) = short_behind most taken first left (omega (arith, few, short)) (none_left left (most - taken) none) header.0.1
behind_within most taken first left text few header (inl count) = go (decided (length first) most) header.1.2
  where
    go : (length first ≤ most) ⊎ (most < length first) → (((more : List ℕ) → AreParted text (ended_lines (header.1.0 ++ more)) (ended_lines more)) ⊎ (left ≡ [])) → lines_behind (lines_within most first) ≡ Some (lines_within (most - taken) left)
    go (inl short) ends = short_behind most taken first left short (omega (arith, short, count)) header.0.1
    go (inr long) (inl ends) = cut_behind most taken first header.1.0 left header.1.1 count few long (λ more. (ends more).1)
    go (inr long) (inr none) = absurd (let gone = ap length none in omega (arith, long, count, few, gone))

pub parts_read : (most taken : ℕ) (first left : Option (List ℕ)) (c : Cluster) (lines : List (List ℕ)) (text : List ℕ) → taken ≤ most → read_of 1 text ≡ Ok c → HasHeader first left text → Takes first left taken
    → IfKnown left (λ left. lines_within (most - taken) left ≡ lines) → IfKnown first (λ input. (cluster_in 1 input ≡ Ok c) × (lines_behind (lines_within most input) ≡ Some lines))
parts_read most taken None left c lines text few reads header takes read = tt
parts_read most taken (Some first) None c lines text few reads header takes read = absurd header
parts_read most taken (Some first) (Some left) c lines text few reads header takes read =
    (headed 1 first text (lines_of left) c header.0 reads, behind_within most taken first left text few header takes ∙ ap Some read)

-- ---- a header that breaks a rule

pub rule_broken : (first : Option (List ℕ)) (rule : ℕ) → Breaks 1 first rule → IfKnown first (λ input. (at : ℕ) → restore_of at input ≡ ending_of (Header rule))
rule_broken None rule breaks = tt
rule_broken (Some first) rule breaks = λ at. ap (λ (header : Result Cluster ℕ). parts_ending at header (lines_behind (lines_within most_bytes first))) breaks

is_less : (m n : ℕ) → m < n → nat_lt m n ≡ true
is_less m n less = grind (arith, nat_tests)

-- a header that is read is short
short_header : (least : ℕ) (text : List ℕ) (c : Cluster) → read_of least text ≡ Ok c → length text ≤ 262144
short_header least text c reads = go (decided (length text) 262144)
  where
    go : (length text ≤ 262144) ⊎ (262144 < length text) → length text ≤ 262144
    go (inl few) = few
    go (inr long) =
        let broken : read_of least text ≡ Err 6 = ap (λ (t : Bool). cond t (Err 6) (document_of text >>= λ ms. header_of least ms)) (is_less 262144 (length text) long) in
        absurd (let none : ◌≡◌ {A = Result Cluster ℕ} (Err 6) (Ok c) = sym broken ∙ reads in cc)

enough : 262149 ≤ most_bytes
unfolding most_bytes
enough = omega arith

pub unmarked_broken : (first : Option (List ℕ)) (c : Cluster) (text : List ℕ) → read_of 1 text ≡ Ok c → HasNoMark first text → IfKnown first (λ input. (at : ℕ) → restore_of at input ≡ ending_of (Header 9))
unmarked_broken None c text reads none = tt
unmarked_broken (Some first) c text reads none = λ at.
    let few : length first ≤ most_bytes = (let short = short_header 1 text c reads in let more = enough in omega (arith, short, more, ap length none.0)) in
    ap (λ (header : Result Cluster ℕ). parts_ending at header (lines_behind (lines_within most_bytes first))) (all_headed 1 first text c none reads)
    ∙ ap (parts_ending at (Ok c)) (ap lines_behind (all_within most_bytes first few) ∙ none.1)

-- ---- a reader that has read nothing yet

known_is : (reader : List ℕ) (known : Option (List ℕ)) → reader ≡ [] → prepend_known reader known ≡ known
known_is reader known none = ap (λ (xs : List ℕ). prepend_known xs known) none ∙ prepend_known-nil known

pub all_parts : (reader : List ℕ) (known left : Option (List ℕ)) (taken : ℕ) (c d : Cluster) (lines : List (List ℕ)) → reader ≡ [] → taken ≤ 262149 → d ≡ c
    → (text : List ℕ) × (read_of 1 text ≡ Ok c) × HasHeader (prepend_known reader known) left text → Takes (prepend_known reader known) left taken → IfKnown left (λ left. lines_within (1073741824 - taken) left ≡ lines)
    → IfKnown known (λ input. (cluster_in 1 input ≡ Ok d) × (lines_behind (lines_within most_bytes input) ≡ Some lines))
unfolding most_bytes
all_parts reader known left taken c d lines none few same (text, reads, header) takes read =
    parts_read 1073741824 taken known left d lines text (omega (arith, few)) (reads ∙ ap Ok (sym same))
    (subst (λ (first : Option (List ℕ)). HasHeader first left text) (known_is reader known none) header) (subst (λ (first : Option (List ℕ)). Takes first left taken) (known_is reader known none) takes) read

pub new_broken : (reader : List ℕ) (known : Option (List ℕ)) (rule : ℕ) → reader ≡ [] → Breaks 1 (prepend_known reader known) rule → IfKnown known (λ input. (at : ℕ) → restore_of at input ≡ ending_of (Header rule))
new_broken reader known rule none breaks = rule_broken known rule (subst (λ (first : Option (List ℕ)). Breaks 1 first rule) (known_is reader known none) breaks)

pub new_unmarked : (reader : List ℕ) (known : Option (List ℕ)) (c : Cluster) (rule : ℕ) → reader ≡ [] → rule ≡ 9 → (text : List ℕ) × (read_of 1 text ≡ Ok c) × HasNoMark (prepend_known reader known) text
    → IfKnown known (λ input. (at : ℕ) → restore_of at input ≡ ending_of (Header rule))
new_unmarked reader known c rule none nine (text, reads, whole) =
    subst (λ (n : ℕ). IfKnown known (λ input. (at : ℕ) → restore_of at input ≡ ending_of (Header n))) (sym nine)
    (unmarked_broken known c text reads (subst (λ (first : Option (List ℕ)). HasNoMark first text) (known_is reader known none) whole))

pub new_breaks : (least : ℕ) (reader : List ℕ) (known : Option (List ℕ)) (rule : ℕ) → reader ≡ [] → Breaks least (prepend_known reader known) rule → Breaks least known rule
new_breaks least reader known rule none breaks = subst (λ (first : Option (List ℕ)). Breaks least first rule) (known_is reader known none) breaks

pub new_read : (least : ℕ) (reader : List ℕ) (known left : Option (List ℕ)) (c : Cluster) (marked : Bool) → reader ≡ []
    → (marked ≡ true → (text : List ℕ) × (read_of least text ≡ Ok c) × HasHeader (prepend_known reader known) left text)
    → (marked ≡ false → (text : List ℕ) × (read_of least text ≡ Ok c) × HasNoMark (prepend_known reader known) text) → IfKnown known (λ input. cluster_in least input ≡ Ok c)
new_read least reader known left c true none there missing =
    let found = there refl in
    subst (λ (first : Option (List ℕ)). IfKnown first (λ input. cluster_in least input ≡ Ok c)) (known_is reader known none) (header_read least (prepend_known reader known) left c found.0 found.1 found.2)
new_read least reader known left c false none there missing =
    let found = missing refl in
    subst (λ (first : Option (List ℕ)). IfKnown first (λ input. cluster_in least input ≡ Ok c)) (known_is reader known none) (whole_read least (prepend_known reader known) c found.0 found.1 found.2)

pub read_stop : (stop : Stop) → IsReadStop stop → IsHeaderStop stop
read_stop (Header rule) only = absurd only
read_stop Source only = tt
read_stop Sink only = absurd only
read_stop Device only = absurd only
read_stop NoMemory only = tt
read_stop (Malformed line) only = absurd only
read_stop (Short has) only = absurd only
read_stop (TooLarge key) only = absurd only
read_stop BadRecord only = absurd only
