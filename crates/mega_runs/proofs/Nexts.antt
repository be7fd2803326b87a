-- The next record of a file, by its gate and its length.
use Rattle.std.proofs.Common.{◌≡◌, ℕ, suc, ◌+◌, ◌-◌, ◌<◌, ◌^◌, List, [], ◌∷◌, ◌++◌, length, get_or, take, drop, refl, sym, ◌∙◌, ap, subst, arith, length-take-le, length-drop, Bool, true, false, cond}
use Rattle.std.specs.Prelude.{Option, Some, None, ◌==◌, ◌&&◌, nat_lt, slice_range}
use Rattle.std.specs.Int.{from_be_bytes, w64}
use Rattle.std.proofs.lemmas.Bool.Decides.{nat_tests}
use Rattle.std.proofs.lemmas.List.{drop-drop, take-take}
use Rattle.mega_chain.specs.Chain.{record_of, first_record}
use Rattle.mega_runs.specs.Opening.{size_in, IsNextBody, IsNext}
use Rattle.mega_disk.proofs.Chains.{IsBytes}
use Rattle.mega_chain.proofs.Records.{SpelledIn, spelled_in}

short_tail : (l : List ℕ) → length l < 10 → first_record l ≡ None
short_tail [] few = refl
short_tail (gate ∷ rest) few = ap (λ (b : Bool). cond b (Some (take size (drop 8 rest), drop (8 + size) rest)) None) (never (gate == 1))
  where
    size : ℕ
    size = from_be_bytes w64 (take 8 rest)

    too_few : nat_lt (8 + size) (length rest) ≡ false
    too_few = grind (arith, nat_tests)

    never : (b : Bool) → b && nat_lt (8 + size) (length rest) ≡ false
    never true = too_few
    never false = refl

pub none_short : (file : List ℕ) (at : ℕ) → length file < at + 10 → IsNext file at None
none_short file at few = short_tail (drop at file) (omega (arith, length-drop at file))

-- the body of that size and what is behind it
abbrev front_of : List ℕ → Option ℕ → Option (List ℕ × List ℕ)
front_of [] found = None
front_of (gate ∷ rest) None = None
front_of (gate ∷ rest) (Some n) = Some (take n (drop 8 rest), drop (8 + n) rest)

-- the record at the front, by its first nine bytes
by_head : (l head : List ℕ) (left : ℕ) (found : Option ℕ) → head ≡ take 9 l → length l ≡ left + 9 → size_in head left ≡ found → first_record l ≡ front_of l found
by_head [] head left found is long e = absurd (omega arith)
by_head (gate ∷ rest) head left found is long e = go (gate == 1) (nat_lt size left) refl refl
  where
    size : ℕ
    size = from_be_bytes w64 (take 8 rest)

    eight : take 8 (take 8 rest) ≡ take 8 rest
    eight = take-take 8 8 rest (omega arith)

    found_is : found ≡ cond ((gate == 1) && nat_lt size left) (Some size) None
    found_is = sym e ∙ ap (λ (h : List ℕ). size_in h left) is ∙ ap (λ (t : List ℕ). cond ((gate == 1) && nat_lt (from_be_bytes w64 t) left) (Some (from_be_bytes w64 t)) None) eight

    same_test : nat_lt (8 + size) (length rest) ≡ nat_lt size left
    same_test = grind (arith, nat_tests)

    either : (t : Bool) → cond t (Some (take size (drop 8 rest), drop (8 + size) rest)) None ≡ front_of (gate ∷ rest) (cond t (Some size) None)
    either true = refl
    either false = refl

    go : (a b : Bool) → (gate == 1) ≡ a → nat_lt size left ≡ b → first_record (gate ∷ rest) ≡ front_of (gate ∷ rest) found
    go a b ea eb =
        ap (λ (t : Bool). cond ((gate == 1) && t) (Some (take size (drop 8 rest), drop (8 + size) rest)) None) same_test
        ∙ either ((gate == 1) && nat_lt size left)
        ∙ ap (front_of (gate ∷ rest)) (sym found_is)

next_in : (l head : List ℕ) (left n : ℕ) → head ≡ take 9 l → length l ≡ left + 9 → IsBytes head → size_in head left ≡ Some n → (first_record l ≡ Some (take n (drop 9 l), drop (9 + n) l)) × SpelledIn l (take n (drop 9 l)) (drop (9 + n) l)
next_in [] head left n is long fits e = absurd (omega arith)
next_in (gate ∷ rest) head left n is long fits e =
    let first = by_head (gate ∷ rest) head left (Some n) is long e ∙ ap (λ (l : List ℕ). Some (take n (drop 8 rest), l)) (behind n) in
    (first, spelled_in gate rest (take n (drop 8 rest)) (drop (9 + n) (gate ∷ rest)) head_fits first)
  where
    behind : (m : ℕ) → drop (8 + m) rest ≡ drop (9 + m) (gate ∷ rest)
    behind m = sym (drop-drop m 8 rest) ∙ drop-drop m 9 (gate ∷ rest)

    head_fits : IsBytes (take 8 rest)
    head_fits i = subst (λ (l : List ℕ). get_or l (suc i) 0 < 256) is (fits (suc i))

pub next_found : (file head body : List ℕ) (at left n : ℕ) → head ≡ slice_range file at (at + 9) → length file ≡ at + 9 + left → IsBytes head → size_in head left ≡ Some n → n < left → body ≡ slice_range file (at + 9) (at + 9 + n) → IsNextBody file at body
next_found file head body at left n is long fits e room read =
    let nine : at + 9 - at ≡ 9 = omega arith in
    let many : n ≡ at + 9 + n - (at + 9) = omega arith in
    let left_is : length (drop at file) ≡ left + 9 = omega (arith, length-drop at file, long) in
    let found : (first_record (drop at file) ≡ Some (take n (drop 9 (drop at file)), drop (9 + n) (drop at file))) × SpelledIn (drop at file) (take n (drop 9 (drop at file))) (drop (9 + n) (drop at file)) = next_in (drop at file) head left n (is ∙ ap (λ (m : ℕ). take m (drop at file)) nine) left_is fits e in
    let body_is : take n (drop 9 (drop at file)) ≡ body = ap (take n) (drop-drop 9 at file) ∙ ap (λ (m : ℕ). take m (drop (at + 9) file)) many ∙ sym read in
    let size : length body ≡ n = ap length (sym body_is) ∙ length-take-le n (drop 9 (drop at file)) (omega (arith, length-drop 9 (drop at file), length-drop at file, long)) in
    let rest_is : drop (9 + n) (drop at file) ≡ drop (at + 9 + length body) file = drop-drop (9 + n) at file ∙ ap (λ (m : ℕ). drop m file) (omega (arith, size)) in
    record {
      first = found.0 ∙ ap (λ (p : List ℕ × List ℕ). Some p) (λ i. (body_is i, rest_is i));
      spelled = found.1.spelled ∙ (λ i. record_of (body_is i) ++ rest_is i);
      short = subst (λ (l : List ℕ). length l < 2 ^ 64) body_is found.1.short;
      behind = omega (arith, size, long, room);
    }
