-- What files of records hold.
use Rattle.std.proofs.Common.{◌≡◌, ◌≢◌, ℕ, suc, ◌+◌, ◌<◌, ◌≤◌, ◌^◌, List, [], ◌∷◌, ◌++◌, length, take, drop, refl, sym, ◌∙◌, ap, subst, arith, append_assoc, length-append, length-take-le, length-drop, take-append-drop, Bool, true, cond}
use Rattle.std.specs.Prelude.{Some, None, ◌==◌, ◌&&◌, nat_lt}
use Rattle.std.specs.Int.{from_be_bytes, to_be_bytes, w64}
use Rattle.std.proofs.lemmas.Bool.{and_parts}
use Rattle.std.proofs.lemmas.Bool.Decides.{nat_tests}
use Rattle.std.proofs.lemmas.List.{take_at, drop_at, drop-drop}
use Rattle.std.proofs.lemmas.Nat.{from_be_bytes-to_be_bytes_8, be_bytes_8}
use Rattle.std.proofs.lemmas.Option.{cond_some}
use Rattle.mega_disk.proofs.Chains as chains
use Rattle.mega_disk.proofs.Chains.{IsBytes, IsChain, bytes_drop, bytes_take, parts_of}
use Rattle.mega_chain.specs.Chain.{record_of, chain_of, first_record, records_of, AreShort, IsShort}

-- what a record at the front says of the file
pub record Begins (gate : ℕ) (tail body rest : List ℕ) : Type 0 where
  pub is_open : gate ≡ 1
  pub fits : 8 + from_be_bytes w64 (take 8 tail) < length tail
  pub body_is : take (from_be_bytes w64 (take 8 tail)) (drop 8 tail) ≡ body
  pub rest_is : drop (8 + from_be_bytes w64 (take 8 tail)) tail ≡ rest

pub begins : (gate : ℕ) (tail body rest : List ℕ) → first_record (gate ∷ tail) ≡ Some (body, rest) → Begins gate tail body rest
begins gate tail body rest is =
    let size = from_be_bytes w64 (take 8 tail) in
    let chosen = cond_some ((gate == 1) && nat_lt (8 + size) (length tail)) (take size (drop 8 tail), drop (8 + size) tail) (body, rest) is in
    let tests = and_parts (gate == 1) (nat_lt (8 + size) (length tail)) chosen.0 in
    let parts = parts_of (take size (drop 8 tail)) body (drop (8 + size) tail) rest chosen.1 in
    record {
      is_open = (let e : (gate == 1) ≡ true = tests.0 in grind (arith, nat_tests));
      fits = (let e : nat_lt (8 + size) (length tail) ≡ true = tests.1 in grind (arith, nat_tests));
      body_is = parts.0;
      rest_is = parts.1;
    }

-- what is behind a record is shorter than the file
pub shorter : (file body rest : List ℕ) → first_record file ≡ Some (body, rest) → length rest < length file
shorter [] body rest is = absurd (cc)
shorter (gate ∷ tail) body rest is =
    let b = begins gate tail body rest is in
    omega (arith, ap length b.rest_is, length-drop (8 + from_be_bytes w64 (take 8 tail)) tail)

-- a closed gate
pub first_closed : (gate : ℕ) (tail : List ℕ) → gate ≢ 1 → first_record (gate ∷ tail) ≡ None
first_closed gate tail shut = grind (arith, nat_tests)

-- an open gate whose record, with the gate behind it, has no room
pub first_torn : (tail : List ℕ) → length tail ≤ 8 + from_be_bytes w64 (take 8 tail) → first_record (1 ∷ tail) ≡ None
first_torn tail short = grind (arith, nat_tests)

-- a whole record, with a gate behind it
pub first_whole : (body rest : List ℕ) → length body < 2 ^ 64 → 0 < length rest → first_record (record_of body ++ rest) ≡ Some (body, rest)
first_whole body rest short behind =
    let bytes = to_be_bytes w64 (length body) in
    let tail = (bytes ++ body) ++ rest in
    let eight : length bytes ≡ 8 = refl in
    let front : take 8 tail ≡ bytes = ap (take 8) (append_assoc bytes body rest) ∙ take_at bytes (body ++ rest) 8 eight in
    let size : from_be_bytes w64 (take 8 tail) ≡ length body = ap (from_be_bytes w64) front ∙ from_be_bytes-to_be_bytes_8 (length body) short in
    let back : drop 8 tail ≡ body ++ rest = ap (drop 8) (append_assoc bytes body rest) ∙ drop_at bytes (body ++ rest) 8 eight in
    let body_is : take (from_be_bytes w64 (take 8 tail)) (drop 8 tail) ≡ body = ap (λ (n : ℕ). take n (drop 8 tail)) size ∙ ap (take (length body)) back ∙ take_at body rest (length body) refl in
    let rest_is : drop (8 + from_be_bytes w64 (take 8 tail)) tail ≡ rest = ap (λ (n : ℕ). drop (8 + n) tail) size ∙ sym (drop-drop (length body) 8 tail) ∙ ap (drop (length body)) back ∙ drop_at body rest (length body) refl in
    let fits : 8 + from_be_bytes w64 (take 8 tail) < length tail = omega (arith, size, eight, length-append (bytes ++ body) rest, length-append bytes body) in
    let test : nat_lt (8 + from_be_bytes w64 (take 8 tail)) (length tail) ≡ true = grind (arith, nat_tests) in
    ap (λ (b : Bool). cond b (Some (take (from_be_bytes w64 (take 8 tail)) (drop 8 tail), drop (8 + from_be_bytes w64 (take 8 tail)) tail)) None) test
    ∙ ap (λ (p : List ℕ × List ℕ). Some p) (λ i. (body_is i, rest_is i))

-- so its records are those of a chain
is_chain : IsChain record_of first_record IsShort records_of
unfolding records_of
is_chain = record { shorter = shorter; whole = first_whole; closed = first_closed; read = λ file. refl }

pub records_none : (file : List ℕ) → first_record file ≡ None → records_of file ≡ []
records_none = chains.records_none record_of first_record IsShort records_of is_chain

pub records_more : (file body rest : List ℕ) → first_record file ≡ Some (body, rest) → records_of file ≡ body ∷ records_of rest
records_more = chains.records_more record_of first_record IsShort records_of is_chain

pub records_chain : (bodies : List (List ℕ)) (rest : List ℕ) → AreShort bodies → 0 < length rest → records_of (chain_of bodies ++ rest) ≡ bodies ++ records_of rest
records_chain = chains.records_chain record_of first_record IsShort records_of is_chain

pub records_closed : (bodies : List (List ℕ)) (gate : ℕ) (rest : List ℕ) → AreShort bodies → gate ≢ 1 → records_of (chain_of bodies ++ gate ∷ rest) ≡ bodies
records_closed = chains.records_closed record_of first_record IsShort records_of is_chain

-- the bytes of a record at the front are those that spell its body
pub record Spelled (file body rest : List ℕ) : Type 0 where
  pub spelled : file ≡ record_of body ++ rest
  pub short : length body < 2 ^ 64
  pub behind : 0 < length rest
  pub bytes : IsBytes rest

bytes_below : (bytes : List ℕ) → length bytes ≡ 8 → IsBytes bytes → from_be_bytes w64 bytes < 2 ^ 64
bytes_below (a ∷ b ∷ c ∷ d ∷ e ∷ f ∷ g ∷ h ∷ []) eight fits = let w0 = fits 0 in let w1 = fits 1 in let w2 = fits 2 in let w3 = fits 3 in let w4 = fits 4 in let w5 = fits 5 in let w6 = fits 6 in let w7 = fits 7 in omega (arith, w0, w1, w2, w3, w4, w5, w6, w7)
bytes_below [] eight fits = absurd (omega arith)
bytes_below (a ∷ []) eight fits = absurd (omega arith)
bytes_below (a ∷ b ∷ []) eight fits = absurd (omega arith)
bytes_below (a ∷ b ∷ c ∷ []) eight fits = absurd (omega arith)
bytes_below (a ∷ b ∷ c ∷ d ∷ []) eight fits = absurd (omega arith)
bytes_below (a ∷ b ∷ c ∷ d ∷ e ∷ []) eight fits = absurd (omega arith)
bytes_below (a ∷ b ∷ c ∷ d ∷ e ∷ f ∷ []) eight fits = absurd (omega arith)
bytes_below (a ∷ b ∷ c ∷ d ∷ e ∷ f ∷ g ∷ []) eight fits = absurd (omega arith)
bytes_below (a ∷ b ∷ c ∷ d ∷ e ∷ f ∷ g ∷ h ∷ i ∷ more) eight fits = absurd (omega arith)

-- the same where only the bytes of the length are known to be bytes
pub record SpelledIn (file body rest : List ℕ) : Type 0 where
  pub spelled : file ≡ record_of body ++ rest
  pub short : length body < 2 ^ 64
  pub behind : 0 < length rest

pub spelled_in : (gate : ℕ) (tail body rest : List ℕ) → IsBytes (take 8 tail) → first_record (gate ∷ tail) ≡ Some (body, rest) → SpelledIn (gate ∷ tail) body rest
spelled_in gate tail body rest head_fits is =
    let b = begins gate tail body rest is in
    let head = take 8 tail in
    let size = from_be_bytes w64 head in
    let enough = b.fits in
    let eight : length head ≡ 8 = length-take-le 8 tail (omega arith) in
    let below : size < 2 ^ 64 = bytes_below head eight head_fits in
    let count : length body ≡ size = ap length (sym b.body_is) ∙ length-take-le size (drop 8 tail) (omega (arith, length-drop 8 tail)) in
    let head_is : to_be_bytes w64 (length body) ≡ head = be_bytes_8 head (length body) eight head_fits count in
    let tail_is : tail ≡ head ++ body ++ rest =
    sym (take-append-drop 8 tail) ∙ ap (λ (l : List ℕ). head ++ l) (sym (take-append-drop size (drop 8 tail)))
    ∙ ap (λ (l : List ℕ). head ++ (l ++ drop size (drop 8 tail))) b.body_is
    ∙ ap (λ (l : List ℕ). head ++ (body ++ l)) (drop-drop size 8 tail ∙ b.rest_is)
    ∙ sym (append_assoc head body rest) in
    record {
      spelled = ap (λ (n : ℕ). n ∷ tail) b.is_open ∙ ap (λ (l : List ℕ). 1 ∷ l) tail_is ∙ ap (λ (l : List ℕ). 1 ∷ (l ++ body ++ rest)) (sym head_is);
      short = omega (arith, count, below);
      behind = omega (arith, ap length b.rest_is, length-drop (8 + size) tail);
    }

pub spelled_by : (file body rest : List ℕ) → IsBytes file → first_record file ≡ Some (body, rest) → Spelled file body rest
spelled_by [] body rest fits is = absurd (cc)
spelled_by (gate ∷ tail) body rest fits is =
    let tail_fits : IsBytes tail = λ i. fits (suc i) in
    let there = spelled_in gate tail body rest (bytes_take 8 tail tail_fits) is in
    record {
      spelled = there.spelled;
      short = there.short;
      behind = there.behind;
      bytes = subst IsBytes (begins gate tail body rest is).rest_is (bytes_drop (8 + from_be_bytes w64 (take 8 tail)) tail tail_fits);
    }
