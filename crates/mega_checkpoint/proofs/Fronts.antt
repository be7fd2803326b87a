-- What is read of a file by the front of its areas.
use Rattle.std.proofs.Common.{◌≡◌, ℕ, zero, suc, ◌+◌, ◌-◌, ◌*◌, ◌<◌, ◌≤◌, ◌^◌, Bool, true, false, List, [], ◌++◌, length, get_or, take, drop, refl, sym, ◌∙◌, ap, arith, length-drop, length-take-le}
use Rattle.std.specs.Prelude.{◌%◌, ◌==◌, ◌&&◌, ◌||◌, not, nat_lt, nat_le, if◌then◌else◌}
use Rattle.std.proofs.Math.Nat.{div-add-mod, mod-lt}
use Rattle.std.proofs.lemmas.Bool.Decides.{nat_tests}
use Rattle.std.proofs.lemmas.List.{get_or-take, get_or-drop, ext_get_or}
use Rattle.std.proofs.lemmas.List.FromFn.{get_or-map-range_with_len, length-map-range_with_len}
use Rattle.std.proofs.lemmas.Bool.{and_parts}
use Rattle.byteorder.specs.Endian.{big_from, big_bytes}
use Rattle.byteorder.specs.Numbers.{big_number-reads_back}
use Rattle.mega_journal.specs.Chain.{records_of}
use Rattle.mega_areas.specs.declared.area.Area.{Area}
use Rattle.mega_areas.specs.declared.area.Area.TheVariants.{Odd, Even}
use Rattle.mega_areas.specs.Pages.{first_page, other_of, offset, pages_in, length_of_pages, space, is_open, generation_of, chain_in, outranks, counts, is_marked, is_areas}
use Rattle.mega_checkpoint.specs.Format.{area_records, list_of}
use Rattle.mega_areas.proofs.Offsets.{front_offset}

-- the whole pages of a length
pub pages_parted : (size : ℕ) → 4096 ≤ size → (8192 * pages_in size + 4096 ≤ size) × (size < 8192 * pages_in size + 12288)
pages_parted size le =
    let a = div-add-mod (size - 4096) 8192 in
    let b : (size - 4096) % 8192 < 8192 = mod-lt (size - 4096) (omega arith) in (omega (arith, a, le), omega (arith, a, b, le))

pub pages_whole : (pages : ℕ) → pages_in (length_of_pages pages) ≡ pages
pages_whole pages = let a = pages_parted (length_of_pages pages) (omega arith) in let b = a.0 in let c = a.1 in omega (arith, b, c)

pub pages_more : (n m : ℕ) → 4096 ≤ n → n ≤ m → pages_in n ≤ pages_in m
pages_more n m some le = let a = pages_parted n some in let b = pages_parted m (omega (arith, some, le)) in let c = a.0 in let d = b.1 in omega (arith, c, d, le)

pub length-space : (area : Area) (file : List ℕ) → length (space area file) ≡ 4096 * pages_in (length file)
unfolding space
length-space area file = length-map-range_with_len (λ place. get_or file (offset area place) 0) 0 (4096 * pages_in (length file))

pub get_or-space : (area : Area) (file : List ℕ) (place : ℕ) → place < 4096 * pages_in (length file) → get_or (space area file) place 0 ≡ get_or file (offset area place) 0
unfolding space
get_or-space area file place less = get_or-map-range_with_len (λ at. get_or file (offset area at) 0) 0 (4096 * pages_in (length file)) place place 0 less (omega arith)

pub get_or-chain : (area : Area) (file : List ℕ) (i : ℕ) → 9 + i < 4096 * pages_in (length file) → get_or (chain_in area file) i 0 ≡ get_or file (offset area (9 + i)) 0
get_or-chain area file i less = get_or-drop 9 (space area file) i 0 ∙ get_or-space area file (9 + i) less

pub length-chain : (area : Area) (file : List ℕ) → length (chain_in area file) ≡ 4096 * pages_in (length file) - 9
length-chain area file = length-drop 9 (space area file) ∙ ap (λ (n : ℕ). n - 9) (length-space area file)

-- the first places of the area are the same
abbrev pub SameFront : Area → ℕ → List ℕ → List ℕ → Type 0
SameFront area n old new = (place : ℕ) → place < n → get_or new (offset area place) 0 ≡ get_or old (offset area place) 0

pub same_chain : (area : Area) (n : ℕ) (old new : List ℕ) → SameFront area (9 + n) old new → 9 + n ≤ 4096 * pages_in (length old) → 4096 ≤ length old → length old ≤ length new → take n (chain_in area new) ≡ take n (chain_in area old)
same_chain area n old new same room some longer =
    let more = pages_more (length old) (length new) some longer in
    let long : length (take n (chain_in area new)) ≡ n = length-take-le n (chain_in area new) (omega (arith, length-chain area new, more, room)) in
    let size : length (take n (chain_in area old)) ≡ n = length-take-le n (chain_in area old) (omega (arith, length-chain area old, room)) in
    ext_get_or 0 (take n (chain_in area new)) (take n (chain_in area old)) (long ∙ sym size) (λ i less.
    let lt : i < n = omega (arith, less, long) in
    get_or-take n (chain_in area new) i 0 lt ∙ get_or-chain area new i (omega (arith, lt, room, more))
    ∙ same (9 + i) (omega (arith, lt)) ∙ sym (get_or-chain area old i (omega (arith, lt, room))) ∙ sym (get_or-take n (chain_in area old) i 0 lt))

pub first_offset : (area : Area) → offset area 0 ≡ 4096 * first_page area
first_offset Odd = refl
first_offset Even = refl

pub same_gate : (area : Area) (n : ℕ) (old new : List ℕ) → SameFront area n old new → 0 < n → is_open area new ≡ is_open area old
same_gate area n old new same some = ap (λ (b : ℕ). b == 1) (ap (λ (i : ℕ). get_or new i 0) (sym (first_offset area)) ∙ same 0 some ∙ ap (λ (i : ℕ). get_or old i 0) (first_offset area))

same_from : (i n : ℕ) (xs ys : List ℕ) → ((k : ℕ) → i ≤ k → k < i + n → get_or xs k 0 ≡ get_or ys k 0) → big_from i n xs ≡ big_from i n ys
same_from i zero xs ys same = refl
same_from i (suc n) xs ys same =
    let first = same i (omega arith) (omega arith) in
    let rest = same_from (suc i) n xs ys (λ k le less. same k (omega (arith, le)) (omega (arith, less))) in
    λ j. first j * 256 ^ n + rest j

abbrev behind_gate_at : Area → ℕ
behind_gate_at area = 4096 * first_page area + 1

number_at : (area : Area) (j : ℕ) → j < 8 → behind_gate_at area + j ≡ offset area (1 + j)
number_at area j less = let e = front_offset area (1 + j) (omega (arith, less)) in omega (arith, e)

pub same_generation : (area : Area) (old new : List ℕ) → ((j : ℕ) → j < 8 → get_or new (offset area (1 + j)) 0 ≡ get_or old (offset area (1 + j)) 0) → generation_of area new ≡ generation_of area old
unfolding generation_of
same_generation area old new same =
    same_from 0 8 (drop (behind_gate_at area) new) (drop (behind_gate_at area) old) (λ j le less.
    let lt : j < 8 = omega (arith, less) in
    get_or-drop (behind_gate_at area) new j 0 ∙ ap (λ (i : ℕ). get_or new i 0) (number_at area j lt) ∙ same j lt
    ∙ ap (λ (i : ℕ). get_or old i 0) (sym (number_at area j lt)) ∙ sym (get_or-drop (behind_gate_at area) old j 0))

-- the first four bytes tell the mark
pub same_mark : (old new : List ℕ) → ((i : ℕ) → i < 4 → get_or new i 0 ≡ get_or old i 0) → is_marked new ≡ is_marked old
same_mark old new same =
    let a = same 0 (omega arith) in let b = same 1 (omega arith) in let c = same 2 (omega arith) in let d = same 3 (omega arith) in
    λ i. not (a i == 0) && ((b i == 71) && ((c i == 65) && (d i == 50)))

pub areas_parts : (file : List ℕ) → is_areas file ≡ true → (12288 ≤ length file) × (is_marked file ≡ true)
areas_parts file is =
    let parts = and_parts (nat_le 12288 (length file)) (is_marked file) is in
    ((let e : nat_le 12288 (length file) ≡ true = parts.0 in grind (arith, nat_tests)), parts.1)

pub areas_whole : (file : List ℕ) → 12288 ≤ length file → is_marked file ≡ true → is_areas file ≡ true
areas_whole file long mark = let e : nat_le 12288 (length file) ≡ true = grind (arith, nat_tests) in λ i. e i && mark i

pub no_areas_by_mark : (file : List ℕ) → is_marked file ≡ false → is_areas file ≡ false
no_areas_by_mark file none = ap (λ (b : Bool). nat_le 12288 (length file) && b) none ∙ false_last (nat_le 12288 (length file))
  where
    false_last : (b : Bool) → b && false ≡ false
    false_last true = refl
    false_last false = refl

pub no_areas_by_length : (file : List ℕ) → length file < 12288 → is_areas file ≡ false
no_areas_by_length file short = let e : nat_le 12288 (length file) ≡ false = grind (arith, nat_tests) in ap (λ (b : Bool). b && is_marked file) e

-- the list, by the area that counts
pub list_none : (file : List ℕ) → is_areas file ≡ false → list_of file ≡ records_of file
unfolding list_of
list_none file plain = ap (λ (b : Bool). if b then area_records file else records_of file) plain

pub list_areas : (file : List ℕ) → is_areas file ≡ true → list_of file ≡ area_records file
unfolding list_of
list_areas file form = ap (λ (b : Bool). if b then area_records file else records_of file) form

pub alone : (a b : Bool) (g h : ℕ) → b && (not a || nat_lt g h) ≡ true → a && (not b || nat_le h g) ≡ false
alone false b g h is = refl
alone true false g h is = absurd (cc)
alone true true g h is = let e : nat_lt g h ≡ true = is in grind (arith, nat_tests)

neither_open : (a b : Bool) (g h : ℕ) → a && (not b || nat_le h g) ≡ false → b && (not a || nat_lt g h) ≡ false → (a ≡ false) × (b ≡ false)
neither_open false false g h first second = (refl, refl)
neither_open false true g h first second = absurd (cc)
neither_open true false g h first second = absurd (cc)
neither_open true true g h first second = let e : nat_le h g ≡ false = first in let f : nat_lt g h ≡ false = second in absurd (grind (arith, nat_tests))

-- where neither area counts, no gate is open
pub neither : (file : List ℕ) → counts Odd file ≡ false → counts Even file ≡ false → (is_open Odd file ≡ false) × (is_open Even file ≡ false)
neither file odd even = neither_open (is_open Odd file) (is_open Even file) (generation_of Odd file) (generation_of Even file) odd even

pub list_counts : (area : Area) (file : List ℕ) → is_areas file ≡ true → counts area file ≡ true → list_of file ≡ records_of (chain_in area file)
list_counts Odd file form is = list_areas file form ∙ ap (λ (b : Bool). if b then records_of (chain_in Odd file) else (if counts Even file then records_of (chain_in Even file) else [])) is
list_counts Even file form is =
    list_areas file form
    ∙ ap (λ (b : Bool). if b then records_of (chain_in Odd file) else (if counts Even file then records_of (chain_in Even file) else [])) (alone (is_open Odd file) (is_open Even file) (generation_of Odd file) (generation_of Even file) is)
    ∙ ap (λ (b : Bool). if b then records_of (chain_in Even file) else []) is

pub list_idle : (file : List ℕ) → is_areas file ≡ true → is_open Odd file ≡ false → is_open Even file ≡ false → list_of file ≡ []
list_idle file form odd even =
    list_areas file form
    ∙ ap (λ (b : Bool). if b && (not (is_open Even file) || outranks Odd (generation_of Odd file) (generation_of Even file)) then records_of (chain_in Odd file) else (if counts Even file then records_of (chain_in Even file) else [])) odd
    ∙ ap (λ (b : Bool). if b && (not (is_open Odd file) || outranks Even (generation_of Even file) (generation_of Odd file)) then records_of (chain_in Even file) else []) even

-- a generation that is written is read
pub generation_put : (area : Area) (file : List ℕ) (generation : ℕ) (rest : List ℕ) → generation < 2 ^ 64 → ((j : ℕ) → j < 8 → get_or file (offset area (1 + j)) 0 ≡ get_or (big_bytes 8 generation ++ rest) j 0) → generation_of area file ≡ generation
unfolding generation_of
generation_put area file generation rest fits there =
    same_from 0 8 (drop (behind_gate_at area) file) (big_bytes 8 generation ++ rest) (λ j le less.
    let lt : j < 8 = omega (arith, less) in
    get_or-drop (behind_gate_at area) file j 0 ∙ ap (λ (i : ℕ). get_or file i 0) (number_at area j lt) ∙ there j lt)
    ∙ big_number-reads_back 8 generation rest fits

pub counts_open : (area : Area) (file : List ℕ) → counts area file ≡ true → is_open area file ≡ true
counts_open area file is = (and_parts (is_open area file) (not (is_open (other_of area) file) || outranks area (generation_of area file) (generation_of (other_of area) file)) is).0

-- an area with the one open gate counts
pub counts_alone : (area : Area) (file : List ℕ) → is_open area file ≡ true → is_open (other_of area) file ≡ false → counts area file ≡ true
counts_alone area file mine other = λ i. mine i && (not (other i) || outranks area (generation_of area file) (generation_of (other_of area) file))

-- so does one of a later generation
pub counts_later : (area : Area) (file : List ℕ) → is_open area file ≡ true → generation_of (other_of area) file < generation_of area file → counts area file ≡ true
counts_later area file mine later = (λ i. mine i && (not (is_open (other_of area) file) || above area i)) ∙ or_true (not (is_open (other_of area) file))
  where
    above : (a : Area) → outranks a (generation_of area file) (generation_of (other_of area) file) ≡ true
    above Odd = grind (arith, nat_tests)
    above Even = grind (arith, nat_tests)

    or_true : (b : Bool) → b || true ≡ true
    or_true true = refl
    or_true false = refl

pub other_other : (area : Area) → other_of (other_of area) ≡ area
other_other Odd = refl
other_other Even = refl

-- chains with the same bytes
pub equal_chain : (area : Area) (old new : List ℕ) → pages_in (length new) ≡ pages_in (length old) → ((i : ℕ) → 9 + i < 4096 * pages_in (length old) → get_or new (offset area (9 + i)) 0 ≡ get_or old (offset area (9 + i)) 0) → chain_in area new ≡ chain_in area old
equal_chain area old new pages same =
    ext_get_or 0 (chain_in area new) (chain_in area old) (omega (arith, length-chain area old, length-chain area new, pages)) (λ i less.
    let lt : 9 + i < 4096 * pages_in (length new) = omega (arith, less, length-chain area new) in
    let fits : 9 + i < 4096 * pages_in (length old) = omega (arith, lt, pages) in
    get_or-chain area new i lt ∙ same i fits ∙ sym (get_or-chain area old i fits))
