-- A file that begins with whole records holds them, and those of what is behind them.
use Rattle.std.proofs.Common.{◌≡◌, ◌≢◌, ℕ, zero, suc, ◌+◌, ◌<◌, ◌≤◌, List, [], ◌∷◌, ◌++◌, length, get_or, take, drop, refl, sym, ◌∙◌, ap, arith, append_assoc, length-append}
use Rattle.std.specs.Prelude.{Option, Some, None}
use Rattle.std.specs.List.{flat_map, AllByRecursion}
use Rattle.std.proofs.lemmas.List.{get_or-drop, append-nil}
use Rattle.mega_disk.specs.Chains.{body_and, bodies_by}

-- ---- bytes

abbrev pub IsBytes : List ℕ → Type 0
IsBytes bytes = (i : ℕ) → get_or bytes i 0 < 256

pub bytes_drop : (n : ℕ) (bytes : List ℕ) → IsBytes bytes → IsBytes (drop n bytes)
bytes_drop n bytes fits i = let there = fits (n + i) in omega (arith, get_or-drop n bytes i 0, there)

pub bytes_take : (n : ℕ) (bytes : List ℕ) → IsBytes bytes → IsBytes (take n bytes)
bytes_take zero bytes fits i = omega arith
bytes_take (suc n) [] fits i = omega arith
bytes_take (suc n) (x ∷ bytes) fits zero = fits 0
bytes_take (suc n) (x ∷ bytes) fits (suc i) = bytes_take n bytes (λ k. fits (suc k)) i

pub parts_of : (a x b y : List ℕ) → ◌≡◌ {A = List ℕ × List ℕ} (a, b) (x, y) → (a ≡ x) × (b ≡ y)
parts_of a x b y is = (ap (λ (p : List ℕ × List ℕ). p.0) is, ap (λ (p : List ℕ × List ℕ). p.1) is)

-- ---- chains

-- how records are spelled and read: a gate that is not 1 begins none, and a whole record with a gate behind it is read
pub record IsChain (record_of : List ℕ → List ℕ) (first : List ℕ → Option (List ℕ × List ℕ)) (IsShort : List ℕ → Type 0) (records_of : List ℕ → List (List ℕ)) : Type 0 where
  pub shorter : (file body rest : List ℕ) → first file ≡ Some (body, rest) → length rest < length file
  pub whole : (body rest : List ℕ) → IsShort body → 0 < length rest → first (record_of body ++ rest) ≡ Some (body, rest)
  pub closed : (gate : ℕ) (tail : List ℕ) → gate ≢ 1 → first (gate ∷ tail) ≡ None
  pub read : (file : List ℕ) → records_of file ≡ bodies_by first (length file) file

module _ (record_of : List ℕ → List ℕ) (first : List ℕ → Option (List ℕ × List ℕ)) (IsShort : List ℕ → Type 0) (records_of : List ℕ → List (List ℕ)) (is : IsChain record_of first IsShort records_of) where
  turns : (n m : ℕ) (again : (rest : List ℕ) → length rest ≤ n → length rest ≤ m → bodies_by first n rest ≡ bodies_by first m rest) (file : List ℕ) (found : Option (List ℕ × List ℕ)) → first file ≡ found → length file ≤ suc n → length file ≤ suc m
      → body_and (λ rest. bodies_by first n rest) found ≡ body_and (λ rest. bodies_by first m rest) found
  turns n m again file None one small few = refl
  turns n m again file (Some (body, rest)) one small few =
      let less = is.shorter file body rest one in ap (λ (l : List (List ℕ)). body ∷ l) (again rest (omega arith) (omega arith))

  -- a file of no bytes has none
  nothing : (n : ℕ) → bodies_by first n [] ≡ []
  nothing zero = refl
  nothing (suc n) = empty (first []) refl
    where
      empty : (found : Option (List ℕ × List ℕ)) → first [] ≡ found → body_and (λ rest. bodies_by first n rest) found ≡ []
      empty None one = refl
      empty (Some (body, rest)) one = let less = is.shorter [] body rest one in absurd (omega arith)

  -- as many turns as the file has bytes are enough
  fuel : (n m : ℕ) (file : List ℕ) → length file ≤ n → length file ≤ m → bodies_by first n file ≡ bodies_by first m file
  fuel zero zero file small few = refl
  fuel zero (suc m) [] small few = sym (nothing (suc m))
  fuel zero (suc m) (x ∷ file) small few = absurd (omega arith)
  fuel (suc n) zero [] small few = nothing (suc n)
  fuel (suc n) zero (x ∷ file) small few = absurd (omega arith)
  fuel (suc n) (suc m) file small few = turns n m (fuel n m) file (first file) refl small few

  -- a file with no record at its front holds none
  none_in : (n : ℕ) (file : List ℕ) → first file ≡ None → bodies_by first n file ≡ []
  none_in zero file none = refl
  none_in (suc n) file none = ap (body_and (λ rest. bodies_by first n rest)) none

  pub records_none : (file : List ℕ) → first file ≡ None → records_of file ≡ []
  records_none file none = is.read file ∙ none_in (length file) file none

  one_more : (n : ℕ) (file body rest : List ℕ) → length file ≤ n → first file ≡ Some (body, rest) → bodies_by first n file ≡ body ∷ bodies_by first (length rest) rest
  one_more zero [] body rest long one = let less = is.shorter [] body rest one in absurd (omega arith)
  one_more zero (x ∷ file) body rest long one = absurd (omega arith)
  one_more (suc n) file body rest long one =
      let less = is.shorter file body rest one in
      ap (body_and (λ rest. bodies_by first n rest)) one ∙ ap (λ (l : List (List ℕ)). body ∷ l) (fuel n (length rest) rest (omega arith) (omega arith))

  -- a record at the front is the first, and those in what is behind it follow
  pub records_more : (file body rest : List ℕ) → first file ≡ Some (body, rest) → records_of file ≡ body ∷ records_of rest
  records_more file body rest one = is.read file ∙ one_more (length file) file body rest (omega arith) one ∙ ap (λ (l : List (List ℕ)). body ∷ l) (sym (is.read rest))

  -- what is spelled is read, with what follows in the rest
  pub records_chain : (bodies : List (List ℕ)) (rest : List ℕ) → AllByRecursion IsShort bodies → 0 < length rest → records_of (flat_map record_of bodies ++ rest) ≡ bodies ++ records_of rest
  records_chain [] rest short behind = refl
  records_chain (body ∷ bodies) rest short behind =
      let long : 0 < length (flat_map record_of bodies ++ rest) = omega (arith, length-append (flat_map record_of bodies) rest) in
      ap records_of (append_assoc (record_of body) (flat_map record_of bodies) rest)
      ∙ records_more (record_of body ++ (flat_map record_of bodies ++ rest)) body (flat_map record_of bodies ++ rest) (is.whole body (flat_map record_of bodies ++ rest) short.0 long)
      ∙ ap (λ (l : List (List ℕ)). body ∷ l) (records_chain bodies rest short.1 behind)

  -- up to a closed gate the records are these, whatever stands behind it
  pub records_closed : (bodies : List (List ℕ)) (gate : ℕ) (rest : List ℕ) → AllByRecursion IsShort bodies → gate ≢ 1 → records_of (flat_map record_of bodies ++ gate ∷ rest) ≡ bodies
  records_closed bodies gate rest short shut =
      records_chain bodies (gate ∷ rest) short (omega arith) ∙ ap (λ (l : List (List ℕ)). bodies ++ l) (records_none (gate ∷ rest) (is.closed gate rest shut)) ∙ append-nil bodies
