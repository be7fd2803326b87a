-- A file of at most one byte that becomes one of areas, and its first generation.
use Rattle.std.proofs.Common.{◌≡◌, ◌≢◌, inl, inr, ⊎_elim, ℕ, ◌+◌, ◌-◌, ◌*◌, ◌<◌, ◌≤◌, true, false, List, [], ◌∷◌, ◌++◌, length, get_or, drop, replicate, refl, ◌∙◌, ap, arith}
use Rattle.std.specs.Prelude.{◌==◌, ◌&&◌, not}
use Rattle.std.proofs.lemmas.Bool.{cases_eq, cases_lt}
use Rattle.std.proofs.lemmas.Bool.Decides.{nat_tests}
use Rattle.std.proofs.lemmas.List.{get_or_past, get_or-append_right, get_or-replicate, drop_all, drop_more, take_all, append-nil}
use Rattle.mega_base.specs.Lists.{length-replicate}
use Rattle.byteorder.specs.Endian.{big_bytes}
use Rattle.mega_disk.specs.Images.{overwritten, Torn, Only}
use Rattle.mega_journal.specs.Chain.{records_of, first_record}
use Rattle.mega_journal.specs.Rest.{IsAtRest}
use Rattle.mega_journal.proofs.Records.{records_none, first_closed, first_torn}
use Rattle.mega_journal.proofs.Written.{at_rest}
use Rattle.mega_areas.specs.declared.area.Area.{Area}
use Rattle.mega_areas.specs.declared.area.Area.TheVariants.{Odd, Even}
use Rattle.mega_areas.specs.Pages.{offset, pages_in, is_open, generation_of, chain_in, counts, is_areas, zero_bytes}
use Rattle.mega_checkpoint.specs.Format.{list_of}
use Rattle.mega_checkpoint.specs.Held.{HoldsChain, IsIdle}
use Rattle.mega_areas.specs.Places.{Keeps, Puts, Sets}
use Rattle.mega_areas.proofs.Bytes.{length-over}
use Rattle.mega_areas.proofs.Offsets.{ascends}
use Rattle.mega_checkpoint.proofs.Fronts.{no_areas_by_mark, no_areas_by_length, areas_parts, areas_whole, list_none, list_idle, list_counts, same_generation, generation_put, counts_alone, length-chain, get_or-chain}
use Rattle.mega_checkpoint.proofs.Adding.{areas_stay, other_stays, some_pages, in_pages, put_keeps, set_keeps}
use Rattle.mega_checkpoint.proofs.Swapped.{gate_stays, gate_set}
use Rattle.mega_checkpoint.proofs.Plain.{no_first, none_closed}

pub list_few : (file : List ℕ) → length file ≤ 2 → list_of file ≡ []
list_few file few = list_none file (no_areas_by_length file (omega (arith, few))) ∙ go file few
  where
    go : (f : List ℕ) → length f ≤ 2 → records_of f ≡ []
    go [] le = records_none [] refl
    go (gate ∷ rest) le = elim (cases_eq gate 1) [
      | inl one ↦ records_none (gate ∷ rest) (ap (λ (n : ℕ). first_record (n ∷ rest)) one ∙ first_torn rest (omega (arith, le)))
      | inr other ↦ records_none (gate ∷ rest) (first_closed gate rest other)
    ]

-- with a closed first gate
pub list_shut : (file : List ℕ) → get_or file 0 0 ≡ 0 → list_of file ≡ []
list_shut file is = list_none file (no_areas_by_mark file (no_first file is)) ∙ none_closed file (λ one. absurd (omega (arith, is, one)))

-- a file of areas with no open gate keeps none while its first area is written
module _ (old mid : List ℕ) (form : is_areas old ≡ true) (odd : is_open Odd old ≡ false) (even : is_open Even old ≡ false) (kept : Keeps Odd 1 old mid) where
  long : 12288 ≤ length old
  long = (areas_parts old form).0

  pub idle_form : is_areas mid ≡ true
  idle_form = areas_whole mid (omega (arith, long, kept.longer)) (areas_stay Odd 1 old mid kept long ∙ (areas_parts old form).1)

  pub idle_odd : is_open Odd mid ≡ false
  idle_odd = gate_stays Odd 1 old mid form (omega arith) kept ∙ odd

  pub idle_even : is_open Even mid ≡ false
  idle_even = even_gate ∙ even
    where
      even_gate : is_open Even mid ≡ is_open Even old
      even_gate = ap (λ (b : ℕ). b == 1) (other_stays Odd 1 old mid kept long 1 (let p = some_pages Odd 1 old mid kept long in omega (arith, p)) 0 (omega arith))

  pub idle_list : list_of mid ≡ []
  idle_list = list_idle mid idle_form idle_odd idle_even

-- the first generation behind its closed gate, with the gate set to any byte
module _ (old mid : List ℕ) (form : is_areas old ≡ true) (odd : is_open Odd old ≡ false) (even : is_open Even old ≡ false) (put : Puts Odd 1 (big_bytes 8 1 ++ 0 ∷ []) old mid) (byte : ℕ) (new : List ℕ) (set : Sets Odd 0 byte mid new) where
  kept : Keeps Odd 1 old mid
  kept = put_keeps Odd 1 1 (big_bytes 8 1 ++ 0 ∷ []) old mid (omega arith) put

  mid_form : is_areas mid ≡ true
  mid_form = idle_form old mid form odd even kept

  long_mid : 12288 ≤ length mid
  long_mid = (areas_parts mid mid_form).0

  set_kept : Keeps Odd 0 mid new
  set_kept = set_keeps Odd 0 0 byte mid new (omega arith) set

  some : 1 ≤ pages_in (length mid)
  some = some_pages Odd 0 mid new set_kept long_mid

  pub first_form : is_areas new ≡ true
  first_form = areas_whole new (omega (arith, long_mid, set.size)) (areas_stay Odd 0 mid new set_kept long_mid ∙ (areas_parts mid mid_form).1)

  pub first_other : is_open Even new ≡ false
  first_other = ap (λ (b : ℕ). b == 1) (other_stays Odd 0 mid new set_kept long_mid 1 (omega (arith, some)) 0 (omega arith)) ∙ idle_even old mid form odd even kept

  behind : (place : ℕ) → 0 < place → place < 4096 * pages_in (length mid) → get_or new (offset Odd place) 0 ≡ get_or mid (offset Odd place) 0
  behind place more less = set.same (offset Odd place) (in_pages Odd 0 mid new set_kept long_mid Odd place less) (λ same. let up = ascends Odd 0 place more in absurd (omega (arith, up, same)))

  pub first_number : generation_of Odd new ≡ 1
  first_number =
      same_generation Odd mid new (λ j less. behind (1 + j) (omega arith) (omega (arith, less, some)))
      ∙ generation_put Odd mid 1 (0 ∷ []) (omega arith) (λ j less. put.there j (omega (arith, less, nine)))
    where
      nine : length (big_bytes 8 1 ++ 0 ∷ []) ≡ 9
      nine = refl

  gate : get_or (chain_in Odd new) 0 0 ≡ 0
  gate = get_or-chain Odd new 0 (omega (arith, some, ap pages_in set.size)) ∙ behind 9 (omega arith) (omega (arith, some)) ∙ put.there 8 (omega (arith, nine))
    where
      nine : length (big_bytes 8 1 ++ 0 ∷ []) ≡ 9
      nine = refl

  first_shut : (chain : List ℕ) → get_or chain 0 0 ≡ 0 → 0 < length chain → IsAtRest chain 0 × (records_of chain ≡ [])
  first_shut [] is more = absurd (omega (arith, more))
  first_shut (first ∷ rest) is more = at_rest [] first rest (first ∷ rest) 0 tt (λ one. absurd (omega (arith, is, one))) refl refl

  pub first_rests : IsAtRest (chain_in Odd new) 0 × (records_of (chain_in Odd new) ≡ [])
  first_rests = first_shut (chain_in Odd new) gate (omega (arith, length-chain Odd new, some, ap pages_in set.size))

  pub first_counts : byte ≡ 1 → counts Odd new ≡ true
  first_counts one = counts_alone Odd new (gate_set Odd byte mid new set ∙ (let e : (byte == 1) ≡ true = ap (λ (b : ℕ). b == 1) one in e)) first_other

  pub first_list : list_of new ≡ []
  first_list = elim (cases_eq byte 1) [
    | inl one ↦ list_counts Odd new first_form (first_counts one) ∙ first_rests.1
    | inr other ↦ list_idle new first_form (gate_set Odd byte mid new set ∙ (let e : (byte == 1) ≡ false = grind (arith, nat_tests) in e)) first_other
  ]

-- a file of two bytes whose gate is closed, whole or torn
pub torn_few : (file c : List ℕ) → length file ≡ 2 → Torn 0 1 file c → list_of c ≡ []
torn_few file c two torn = list_few c (let long = torn.no_longer in omega (arith, long, two))

pub cleared_list : (file c : List ℕ) → length file ≡ 2 → c ≡ overwritten 0 (0 ∷ []) file → list_of c ≡ []
cleared_list file c two is = list_few c (let e = ap length is in let f = length-over 0 (0 ∷ []) file (omega arith) in omega (arith, e, f, two))

pub cleared_held : (file c : List ℕ) → length file ≡ 2 → c ≡ overwritten 0 (0 ∷ []) file → (may_leave : List ℕ → Type 0) → Only c may_leave → HoldsChain c may_leave 0
cleared_held file c two is may_leave durable = record {
  unmarked = no_first c first;
  first = λ start. first;
  settled = record { at_rest = (at_rest [] 0 (drop 1 file) c 0 tt (λ zero_one. absurd (omega arith)) is refl).0; durable = durable };
}
  where
    first : get_or c 0 0 ≡ 0
    first = ap (λ (l : List ℕ). get_or l 0 0) is

-- zero bytes
pub length-zeros : (n : ℕ) → length (zero_bytes n) ≡ n
unfolding zero_bytes
length-zeros n = length-replicate n 0

pub zeros_at : (n i : ℕ) → get_or (zero_bytes n) i 0 ≡ 0
unfolding zero_bytes
zeros_at n i = ⊎_elim (get_or-replicate n i 0 0) (λ past. get_or_past (replicate n 0) i 0 (let l = length-replicate {A = ℕ} n 0 in omega (arith, past, l))) (cases_lt i n)

pub eight_zeros : (bytes : List ℕ) → bytes ++ drop 8 (zero_bytes 8) ≡ bytes
eight_zeros bytes = ap (λ (l : List ℕ). bytes ++ l) (drop_all 8 (zero_bytes 8) (let l = length-zeros 8 in omega (arith, l))) ∙ append-nil bytes

-- what is written at the end
pub over_end : (at : ℕ) (bytes old : List ℕ) → at ≡ length old → overwritten at bytes old ≡ old ++ bytes
over_end at bytes old is =
    (λ i. (take_all at old (omega (arith, is)) i ++ bytes) ++ drop_all (at + length bytes) old (omega (arith, is)) i) ∙ append-nil (old ++ bytes)

pub over_few : (old : List ℕ) → length old ≤ 1 → overwritten 0 (0 ∷ []) old ≡ 0 ∷ []
over_few old few = ap (λ (l : List ℕ). 0 ∷ l) (drop_all 1 old few)

-- a new file, with any first byte
module _ (zeros : List ℕ) (many : length zeros ≡ 12284) (all : (i : ℕ) → get_or zeros i 0 ≡ 0) where
  abbrev pub made : ℕ → List ℕ
  made gate = gate ∷ 71 ∷ 65 ∷ 50 ∷ zeros

  made_at : (gate i : ℕ) → 4 ≤ i → get_or (made gate) i 0 ≡ 0
  made_at gate i le = get_or-append_right (gate ∷ 71 ∷ 65 ∷ 50 ∷ []) zeros 4 i 0 refl le ∙ all (i - 4)

  pub made_shut : (gate : ℕ) (area : Area) → is_open area (made gate) ≡ false
  made_shut gate Odd = ap (λ (b : ℕ). b == 1) (made_at gate 4096 (omega arith))
  made_shut gate Even = ap (λ (b : ℕ). b == 1) (made_at gate 8192 (omega arith))

  pub made_form : (gate : ℕ) → gate ≢ 0 → is_areas (made gate) ≡ true
  made_form first other = areas_whole (made first) (omega (arith, many)) (let e : (first == 0) ≡ false = grind (arith, nat_tests) in λ i. not (e i) && true)

  pub made_list : (gate : ℕ) → list_of (made gate) ≡ []
  made_list gate = elim (cases_eq gate 0) [
    | inl none ↦ list_shut (made gate) none
    | inr some ↦ list_idle (made gate) (made_form gate some) (made_shut gate Odd) (made_shut gate Even)
  ]

  pub made_torn : (c : List ℕ) → Torn 0 1 (made 0) c → list_of c ≡ []
  made_torn c torn =
      let long : 0 < length c = let l = torn.no_shorter in omega (arith, l, many) in
      ap list_of (drop_more c 0 0 long ∙ ap (λ (l : List ℕ). get_or c 0 0 ∷ l) torn.after) ∙ made_list (get_or c 0 0)

  pub made_idle : (may_leave : List ℕ → Type 0) → Only (made 1) may_leave → IsIdle (made 1) may_leave 1
  made_idle may_leave durable = record {
    size = omega (arith, many);
    form = made_form 1 (λ one_zero. absurd (omega arith));
    odd_shut = made_shut 1 Odd;
    even_shut = made_shut 1 Even;
    durable = durable;
  }
