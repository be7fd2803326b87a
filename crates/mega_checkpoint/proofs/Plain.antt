-- A chain that does not begin as a file of areas does: it stays so, whatever a write leaves of it.
use Rattle.std.proofs.Common.{◌≡◌, ◌≢◌, ◌⊎◌, inl, inr, ⊎_elim, ℕ, ◌+◌, ◌<◌, ◌≤◌, ◌^◌, Bool, true, false, List, [], ◌∷◌, ◌++◌, length, get_or, drop, refl, sym, ◌∙◌, ap, subst, arith, append_assoc, length-append, length-take}
use Rattle.std.specs.Prelude.{◌==◌, ◌&&◌, not}
use Rattle.std.specs.Int.{from_be_bytes, to_be_bytes, w32}
use Rattle.std.proofs.lemmas.Bool.{cases_lt, cases_eq}
use Rattle.std.proofs.lemmas.Bool.Decides.{nat_tests}
use Rattle.std.proofs.lemmas.List.{get_or_default, get_or-take}
use Rattle.std.proofs.lemmas.Nat.{from_be_bytes-to_be_bytes_4}
use Rattle.mega_disk.specs.Images.{overwritten, Torn, Cut, Only}
use Rattle.mega_disk.specs.RecordLists.{IsBeforeOrAfter}
use Rattle.mega_disk.proofs.Steps.{torn_written}
use Rattle.mega_journal.specs.Chain.{record_of, chain_of, records_of, behind_gate}
use Rattle.mega_journal.specs.Rest.{IsAtRest, IsRead}
use Rattle.mega_journal.proofs.Records.{records_none, first_closed}
use Rattle.mega_journal.proofs.Written.{torn_behind, torn_gate, at_rest_after, inside as gate_inside}
use Rattle.mega_journal.proofs.Repaired.{torn_end, closed_end, shut_end, open_end}
use Rattle.mega_areas.specs.Pages.{is_marked, is_areas}
use Rattle.mega_checkpoint.specs.Format.{list_of, spells_mark}
use Rattle.mega_checkpoint.specs.Held.{HoldsChain}
use Rattle.mega_checkpoint.proofs.Adding.{length-behind}
use Rattle.mega_areas.proofs.Bytes.{torn_before, torn_after, over_before, over_there, length-over}
use Rattle.mega_checkpoint.proofs.Fronts.{same_mark, areas_whole, no_areas_by_mark, no_areas_by_length, list_none}

-- a record has at least five bytes
long_chain : (bodies : List (List ℕ)) → 0 < length (chain_of bodies) → 5 ≤ length (chain_of bodies)
long_chain [] some = absurd (omega arith)
long_chain (body ∷ bodies) some = omega (arith, length-append (record_of body) (chain_of bodies), length-append (to_be_bytes w32 (length body)) body)

pub no_first : (file : List ℕ) → get_or file 0 0 ≡ 0 → is_marked file ≡ false
no_first file is = λ i. not (is i == 0) && ((get_or file 1 0 == 71) && ((get_or file 2 0 == 65) && (get_or file 3 0 == 50)))

-- with a first byte that is no open gate, a chain holds no record
pub none_closed : (file : List ℕ) → get_or file 0 0 ≢ 1 → records_of file ≡ []
none_closed [] shut = records_none [] refl
none_closed (gate ∷ rest) shut = records_none (gate ∷ rest) (first_closed gate rest shut)

-- through the closed gate the bytes are the same
pub same_front : (file c : List ℕ) (end : ℕ) → (end ≡ length (chain_of (records_of file))) → is_marked file ≡ false → (end ≡ 0 → get_or file 0 0 ≡ 0) → ((i : ℕ) → i < end + 1 → get_or c i 0 ≡ get_or file i 0) → is_marked c ≡ false
same_front file c end place unmarked first same = ⊎_elim some (λ none. no_first c (same 0 (omega arith) ∙ first (omega (arith, none)))) (cases_lt 0 end)
  where
    some : 0 < end → is_marked c ≡ false
    some more = let five = long_chain (records_of file) (omega (arith, more, place)) in same_mark file c (λ i less. same i (omega (arith, less, five, place))) ∙ unmarked

module _ (file : List ℕ) (end : ℕ) (unmarked : is_marked file ≡ false) (first : end ≡ 0 → get_or file 0 0 ≡ 0) (rests : IsAtRest file end) where
  pub chain_list : list_of file ≡ records_of file
  chain_list = list_none file (no_areas_by_mark file unmarked)

  pub staged_list : (n : ℕ) (c : List ℕ) → Torn (end + 1) n file c → list_of c ≡ list_of file
  staged_list n c torn =
      list_none c (no_areas_by_mark c (same_front file c end rests.place unmarked first (λ i less. torn_before (end + 1) n file c i torn less)))
      ∙ torn_behind file end rests n c torn ∙ sym chain_list

  module _ (body : List ℕ) (small : length body < 2 ^ 32) (plain : end ≡ 0 → spells_mark (length body) ≡ false) where
    abbrev staged_file : List ℕ
    staged_file = overwritten (end + 1) (behind_gate body) file

    room : end + 1 ≤ length file
    room = let there = gate_inside file end rests in omega (arith, there)

    -- the length of the first record does not spell the mark
    at_front : end ≡ 0 → (c : List ℕ) → Torn end 1 staged_file c → is_marked c ≡ false
    at_front start c torn = ap (λ (b : Bool). not (get_or c 0 0 == 0) && b) rest ∙ none (not (get_or c 0 0 == 0))
      where
        none : (b : Bool) → b && false ≡ false
        none true = refl
        none false = refl

        byte : (j : ℕ) → j < 4 → get_or c (1 + j) 0 ≡ get_or (behind_gate body) j 0
        byte j less =
            torn_after end 1 staged_file c (1 + j) torn (omega (arith, start))
            ∙ ap (λ (i : ℕ). get_or staged_file i 0) (let e : 1 + j ≡ end + 1 + j = omega (arith, start) in e)
            ∙ over_there (end + 1) (behind_gate body) file room j (omega (arith, less, length-behind body))

        rest : (get_or c 1 0 == 71) && ((get_or c 2 0 == 65) && (get_or c 3 0 == 50)) ≡ false
        rest = (λ i. (byte 0 (omega arith) i == 71) && ((byte 1 (omega arith) i == 65) && (byte 2 (omega arith) i == 50))) ∙ plain start

    gate_unmarked : (c : List ℕ) → Torn end 1 staged_file c → is_marked c ≡ false
    gate_unmarked c torn = ⊎_elim some (λ none. at_front (omega (arith, none)) c torn) (cases_lt 0 end)
      where
        some : 0 < end → is_marked c ≡ false
        some more =
            let five = long_chain (records_of file) (let p = rests.place in omega (arith, more, p)) in
            let p = rests.place in
            same_mark file c (λ i less. torn_before end 1 staged_file c i torn (omega (arith, less, five, p)) ∙ over_before (end + 1) (behind_gate body) file room i (omega (arith, less, five, p))) ∙ unmarked

    pub gate_list : (c : List ℕ) → Torn end 1 staged_file c → IsBeforeOrAfter (list_of file) body (list_of c)
    gate_list c torn =
        subst (λ (l : List (List ℕ)). IsBeforeOrAfter l body (list_of c)) (sym chain_list)
        (subst (IsBeforeOrAfter (records_of file) body) (sym (list_none c (no_areas_by_mark c (gate_unmarked c torn)))) (torn_gate file end rests body small c torn))

    module _ (c : List ℕ) (is : c ≡ overwritten end (1 ∷ []) staged_file) where
      torn : Torn end 1 staged_file c
      torn = subst (Torn end 1 staged_file) (sym is) (torn_written end (1 ∷ []) staged_file (omega (arith, room, length-over (end + 1) (behind_gate body) file room)))

      pub chain_added : list_of c ≡ list_of file ++ body ∷ []
      chain_added = list_none c (no_areas_by_mark c (gate_unmarked c torn)) ∙ (at_rest_after file end rests body small c is).1 ∙ ap (λ (l : List (List ℕ)). l ++ body ∷ []) (sym chain_list)

      pub chain_held : (may_leave : List ℕ → Type 0) → Only c may_leave → HoldsChain c may_leave (end + 5 + length body)
      chain_held may_leave durable = record {
        unmarked = gate_unmarked c torn;
        first = λ none. absurd (omega (arith, none));
        settled = record { at_rest = (at_rest_after file end rests body small c is).0; durable = durable };
      }

-- a chain that was read, whose first gate is open or closed and not torn
from_four : (bytes : List ℕ) → length bytes ≡ 4 → get_or bytes 0 0 ≡ 71 → 12288 ≤ from_be_bytes w32 bytes
from_four (a ∷ b ∷ c ∷ d ∷ []) four first = omega (arith, first)
from_four [] four first = absurd (omega arith)
from_four (a ∷ []) four first = absurd (omega arith)
from_four (a ∷ b ∷ []) four first = absurd (omega arith)
from_four (a ∷ b ∷ c ∷ []) four first = absurd (omega arith)
from_four (a ∷ b ∷ c ∷ d ∷ e ∷ more) four first = absurd (omega arith)

-- and which counts at most one byte for its first gate
pub unmarked_chain : (file : List ℕ) (end : ℕ) → IsRead file end → is_areas file ≡ false → 0 < end → is_marked file ≡ false
unmarked_chain file end read chain_form some = go (records_of file) refl
  where
    go : (bodies : List (List ℕ)) → records_of file ≡ bodies → is_marked file ≡ false
    go [] none = let p = read.place in absurd (omega (arith, some, p, ap (λ (l : List (List ℕ)). length (chain_of l)) none))
    go (body ∷ bodies) is = ⊎_elim short long (cases_lt (length file) 12288)
      where
        spelled : file ≡ record_of body ++ (chain_of bodies ++ drop end file)
        spelled = read.spelled ∙ ap (λ (l : List (List ℕ)). chain_of l ++ drop end file) is ∙ append_assoc (record_of body) (chain_of bodies) (drop end file)

        long : 12288 ≤ length file → is_marked file ≡ false
        long le = false_of (is_marked file) (λ mark. true_false (sym (areas_whole file le mark) ∙ chain_form))
          where
            true_false : true ≡ false → ⊥
            true_false is = absurd (cc)

            false_of : (b : Bool) → (b ≡ true → ⊥) → b ≡ false
            false_of true chain_form = absurd (chain_form refl)
            false_of false chain_form = refl

        short : length file < 12288 → is_marked file ≡ false
        short less = not_mark (cases_eq (get_or file 1 0) 71)
          where
            first : get_or file 1 0 ≡ get_or (to_be_bytes w32 (length body)) 0 0
            first = ap (λ (l : List ℕ). get_or l 1 0) spelled

            size : length file ≡ 5 + length body + length (chain_of bodies ++ drop end file)
            size = omega (arith, ap length spelled, length-append (record_of body) (chain_of bodies ++ drop end file), length-append (to_be_bytes w32 (length body)) body, four)
              where
                four : length (to_be_bytes w32 (length body)) ≡ 4
                four = refl

            small : length body < 2 ^ 32
            small = omega (arith, size, less)

            last : (b : Bool) → b && false ≡ false
            last true = refl
            last false = refl

            not_mark : (get_or file 1 0 ≡ 71) ⊎ (get_or file 1 0 ≢ 71) → is_marked file ≡ false
            not_mark (inl same) =
                let big = from_four (to_be_bytes w32 (length body)) refl (sym first ∙ same) in
                let value = from_be_bytes-to_be_bytes_4 (length body) small in absurd (omega (arith, big, value, size, less))
            not_mark (inr other) =
                let e : (get_or file 1 0 == 71) ≡ false = grind (arith, nat_tests) in
                (λ i. not (get_or file 0 0 == 0) && (e i && ((get_or file 2 0 == 65) && (get_or file 3 0 == 50)))) ∙ last (not (get_or file 0 0 == 0))

module _ (file : List ℕ) (end : ℕ) (read : IsRead file end) (chain_form : is_areas file ≡ false) (inside : end < length file) where
  read_list : list_of file ≡ records_of file
  read_list = list_none file chain_form

  module _ (torn_no : get_or file 0 0 ≤ 1) (shut : get_or file end 1 ≢ 1) where
    first_shut : end ≡ 0 → get_or file 0 0 ≡ 0
    first_shut start = ⊎_elim (λ less. omega (arith, less)) (λ le. absurd (shut (ap (λ (i : ℕ). get_or file i 1) start ∙ default ∙ (let e : get_or file 0 0 ≡ 1 = omega (arith, le, torn_no) in e)))) (cases_lt (get_or file 0 0) 1)
      where
        default : get_or file 0 1 ≡ get_or file 0 0
        default = get_or_default file 0 1 0 (omega (arith, inside))

    shut_unmarked : is_marked file ≡ false
    shut_unmarked = ⊎_elim (unmarked_chain file end read chain_form) (λ none. no_first file (first_shut (omega (arith, none)))) (cases_lt 0 end)

    pub shut_held : (may_leave : List ℕ → Type 0) → Only file may_leave → HoldsChain file may_leave end
    shut_held may_leave durable = record {
      unmarked = shut_unmarked;
      first = first_shut;
      settled = record { at_rest = shut_end file end read inside shut; durable = durable };
    }

  module _ (one : get_or file end 1 ≡ 1) (c : List ℕ) (torn : Torn end 1 file c) where
    same_size : length c ≡ length file
    same_size = let a = torn.no_shorter in let b = torn.no_longer in omega (arith, a, b, inside)

    open_no : is_areas c ≡ false
    open_no = ⊎_elim behind front (cases_lt 0 end)
      where
        behind : 0 < end → is_areas c ≡ false
        behind some =
            let five = long_chain (records_of file) (let p = read.place in omega (arith, some, p)) in
            let p = read.place in
            no_areas_by_mark c (same_mark file c (λ i less. torn_before end 1 file c i torn (omega (arith, less, five, p))) ∙ unmarked_chain file end read chain_form some)

        front : end ≤ 0 → is_areas c ≡ false
        front none = ⊎_elim (λ few. no_areas_by_length c few) (λ many. no_areas_by_mark c (other many)) (cases_lt (length c) 12288)
          where
            byte : (j : ℕ) → 1 ≤ j → get_or c j 0 ≡ get_or file j 0
            byte j some = torn_after end 1 file c j torn (omega (arith, none, some))

            gate : get_or file 0 0 ≡ 1
            gate = sym (get_or_default file 0 1 0 (omega (arith, inside))) ∙ ap (λ (i : ℕ). get_or file i 1) (let e : 0 ≡ end = omega (arith, none) in e) ∙ one

            rest : Bool
            rest = (get_or file 1 0 == 71) && ((get_or file 2 0 == 65) && (get_or file 3 0 == 50))

            without : 12288 ≤ length c → (get_or file 1 0 == 71) && ((get_or file 2 0 == 65) && (get_or file 3 0 == 50)) ≡ false
            without many = false_of _ (λ mark. true_false (sym (areas_whole file (omega (arith, many, same_size)) ((λ i. not (gate i == 0) && mark i))) ∙ chain_form))
              where
                true_false : true ≡ false → ⊥
                true_false is = absurd (cc)

                false_of : (b : Bool) → (b ≡ true → ⊥) → b ≡ false
                false_of true chain_form = absurd (chain_form refl)
                false_of false chain_form = refl

            other : 12288 ≤ length c → is_marked c ≡ false
            other many = (λ i. not (get_or c 0 0 == 0) && ((byte 1 (omega arith) i == 71) && ((byte 2 (omega arith) i == 65) && (byte 3 (omega arith) i == 50)))) ∙ (λ i. not (get_or c 0 0 == 0) && without many i) ∙ last (not (get_or c 0 0 == 0))
              where
                last : (b : Bool) → b && false ≡ false
                last true = refl
                last false = refl

    pub open_list : list_of c ≡ list_of file
    open_list = list_none c open_no ∙ torn_end file end read (open_end file end read inside one) c torn ∙ sym read_list

  pub open_held : get_or file end 1 ≡ 1 → (c : List ℕ) (may_leave : List ℕ → Type 0) → c ≡ overwritten end (0 ∷ []) file → Only c may_leave → HoldsChain c may_leave end
  open_held one c may_leave is durable = record {
    unmarked = ⊎_elim behind (λ none. no_first c (shut_first none)) (cases_lt 0 end);
    first = λ none. shut_first (omega (arith, none));
    settled = record { at_rest = (closed_end file end read c is).0; durable = durable };
  }
    where
      shut_first : end ≤ 0 → get_or c 0 0 ≡ 0
      shut_first none =
          ap (λ (l : List ℕ). get_or l 0 0) is ∙ ap (λ (i : ℕ). get_or (overwritten end (0 ∷ []) file) i 0) (let e : 0 ≡ end + 0 = omega (arith, none) in e)
          ∙ over_there end (0 ∷ []) file (omega (arith, inside)) 0 (omega arith)

      behind : 0 < end → is_marked c ≡ false
      behind some =
          let five = long_chain (records_of file) (let p = read.place in omega (arith, some, p)) in
          let p = read.place in
          same_mark file c (λ i less. ap (λ (l : List ℕ). get_or l i 0) is ∙ over_before end (0 ∷ []) file (omega (arith, inside)) i (omega (arith, less, five, p))) ∙ unmarked_chain file end read chain_form some

-- by the test of the gate
pub shut_by : (gate : ℕ) → not (gate == 1) ≡ true → gate ≢ 1
shut_by gate test one = grind (arith, nat_tests)

pub open_by : (gate : ℕ) → not (gate == 1) ≡ false → gate ≡ 1
open_by gate test = grind (arith, nat_tests)

-- a chain with a torn first gate holds none, and cut to any length from two bytes on neither
module _ (file : List ℕ) (torn_first : 1 < get_or file 0 0) (chain_form : is_areas file ≡ false) (c : List ℕ) (cut : Cut 2 file c) where
  first_same : get_or c 0 0 ≡ get_or file 0 0
  first_same = sym (get_or-take 2 c 0 0 (omega arith)) ∙ ap (λ (l : List ℕ). get_or l 0 0) cut.no_shorter ∙ get_or-take 2 file 0 0 (omega arith)

  cut_no : is_areas c ≡ false
  cut_no = ⊎_elim (no_areas_by_length c) long (cases_lt (length c) 12288)
    where
      true_false : true ≡ false → ⊥
      true_false is = absurd (cc)

      false_of : (b : Bool) → (b ≡ true → ⊥) → b ≡ false
      false_of true not_so = absurd (not_so refl)
      false_of false not_so = refl

      byte : 12288 ≤ length c → (i : ℕ) → i < 4 → get_or c i 0 ≡ get_or file i 0
      byte many i less = sym (ap (λ (l : List ℕ). get_or l i 0) cut.front) ∙ get_or-take (length c) file i 0 (omega (arith, less, many))

      longer : length c ≤ length file
      longer = let e = ap length cut.front in let f = length-take (length c) file in omega (arith, e, f)

      long : 12288 ≤ length c → is_areas c ≡ false
      long many = no_areas_by_mark c (same_mark file c (byte many) ∙ false_of (is_marked file) (λ mark. true_false (sym (areas_whole file (omega (arith, many, longer)) mark) ∙ chain_form)))

  pub cut_none : list_of c ≡ []
  cut_none = list_none c cut_no ∙ none_closed c (λ one. absurd (omega (arith, one, first_same, torn_first)))
