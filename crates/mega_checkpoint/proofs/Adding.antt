-- A record that is written to the area that counts: what each write leaves, whole or torn.
use Rattle.std.proofs.Common.{◌≡◌, ◌≢◌, ⊎_elim, ℕ, ◌+◌, ◌-◌, ◌*◌, ◌<◌, ◌≤◌, ◌^◌, true, List, [], ◌∷◌, ◌++◌, length, get_or, take, drop, refl, sym, ◌∙◌, ap, subst, arith, append_assoc, length-append, take-append-drop}
use Rattle.std.specs.Prelude.{◌&&◌, ◌||◌, not}
use Rattle.std.specs.Int.{to_be_bytes, w32}
use Rattle.std.proofs.lemmas.Bool.{cases_lt}
use Rattle.std.proofs.lemmas.List.{ext_get_or}
use Rattle.mega_disk.specs.Images.{overwritten, Torn}
use Rattle.mega_disk.specs.RecordLists.{IsBeforeOrAfter}
use Rattle.mega_disk.proofs.Steps.{torn_written}
use Rattle.mega_journal.specs.Chain.{chain_of, records_of, behind_gate}
use Rattle.mega_journal.specs.Rest.{IsAtRest}
use Rattle.mega_journal.proofs.Written.{at_rest, front_and_gate, inside as gate_inside, torn_gate, at_rest_after, staged}
use Rattle.mega_areas.specs.declared.area.Area.{Area}
use Rattle.mega_areas.specs.Pages.{other_of, offset, pages_in, length_of_pages, is_open, generation_of, chain_in, outranks, counts, is_marked, is_areas}
use Rattle.mega_checkpoint.specs.Format.{list_of}
use Rattle.mega_areas.specs.Places.{Keeps, Puts, Sets}
use Rattle.mega_areas.proofs.Bytes.{over_before, over_there, over_after, length-over}
use Rattle.mega_areas.proofs.Offsets.{ascends, apart, behind_head, inside}
use Rattle.mega_checkpoint.proofs.Fronts.{SameFront, same_chain, same_gate, same_generation, same_mark, areas_parts, areas_whole, list_counts, length-chain, get_or-chain, pages_parted, pages_whole}

-- a chain with the same bytes through its closed gate
pub closed : (file c : List ℕ) (end : ℕ) → IsAtRest file end → take (end + 1) c ≡ take (end + 1) file → IsAtRest c end × (records_of c ≡ records_of file)
closed file c end rests same =
    at_rest (records_of file) (get_or file end 1) (drop (end + 1) c) c end rests.short rests.gate
    (sym (take-append-drop (end + 1) c) ∙ ap (λ (l : List ℕ). l ++ drop (end + 1) c) (same ∙ front_and_gate file end rests) ∙ append_assoc (chain_of (records_of file)) (get_or file end 1 ∷ []) (drop (end + 1) c)) rests.place

-- what stays where only places of an area are written
module _ (area : Area) (from : ℕ) (old new : List ℕ) (kept : Keeps area from old new) (long : 12288 ≤ length old) where
  pub in_pages : (a : Area) (place : ℕ) → place < 4096 * pages_in (length old) → offset a place < length old
  in_pages a place less = let w = pages_parted (length old) (omega (arith, long)) in let e = w.0 in let there = inside a place (pages_in (length old)) less in omega (arith, e, there)

  pub some_pages : 1 ≤ pages_in (length old)
  some_pages = let w = pages_parted (length old) (omega (arith, long)) in let e = w.1 in omega (arith, e, long)

  pub areas_stay : is_marked new ≡ is_marked old
  areas_stay = same_mark old new (λ i less. kept.same i (omega (arith, less, long)) (λ place le at. let far = behind_head area place in absurd (omega (arith, far, less, at))))

  pub front_stays : (n : ℕ) → n ≤ from → n ≤ 4096 * pages_in (length old) → SameFront area n old new
  front_stays n le room place less = kept.same (offset area place) (in_pages area place (omega (arith, less, room))) (λ other far at. let up = ascends area place other (omega (arith, less, le, far)) in absurd (omega (arith, up, at)))

  pub other_stays : (n : ℕ) → n ≤ 4096 * pages_in (length old) → SameFront (other_of area) n old new
  other_stays n room place less = kept.same (offset (other_of area) place) (in_pages (other_of area) place (omega (arith, less, room))) (λ at far same. absurd (apart area at place same))

-- the area that counts is as it was, and so is what it counts against
pub record Stays (area : Area) (old new : List ℕ) : Type 0 where
  pub form : is_areas new ≡ true
  pub counting : counts area new ≡ true
  pub number : generation_of area new ≡ generation_of area old
  pub other : is_open (other_of area) new ≡ is_open (other_of area) old

module _ (area : Area) (from : ℕ) (old new : List ℕ) (kept : Keeps area from old new) (behind : 9 ≤ from) (form : is_areas old ≡ true) (counting : counts area old ≡ true) where
  long : 12288 ≤ length old
  long = (areas_parts old form).0

  room : 9 ≤ 4096 * pages_in (length old)
  room = let w = some_pages area from old new kept long in omega (arith, w)

  pub stays : Stays area old new
  stays =
      let front = front_stays area from old new kept long 9 behind room in
      let beside = other_stays area from old new kept long 9 room in
      let mine = same_gate area 9 old new front (omega arith) in
      let other = same_gate (other_of area) 9 old new beside (omega arith) in
      let number = same_generation area old new (λ j less. front (1 + j) (omega (arith, less))) in
      let others = same_generation (other_of area) old new (λ j less. beside (1 + j) (omega (arith, less))) in
      record {
        form = areas_whole new (omega (arith, long, kept.longer)) (areas_stay area from old new kept long ∙ (areas_parts old form).1);
        counting = (λ i. mine i && (not (other i) || outranks area (number i) (others i))) ∙ counting;
        number = number;
        other = other;
      }

  -- and its chain too, through a closed gate before what is written
  pub chain_stays : (end : ℕ) → IsAtRest (chain_in area old) end → end + 10 ≤ from → IsAtRest (chain_in area new) end × (records_of (chain_in area new) ≡ records_of (chain_in area old))
  chain_stays end rests le =
      let there = gate_inside (chain_in area old) end rests in
      let fits : 9 + (end + 1) ≤ 4096 * pages_in (length old) = omega (arith, there, length-chain area old) in
      closed (chain_in area old) (chain_in area new) end rests
      (same_chain area (end + 1) old new (front_stays area from old new kept long (9 + (end + 1)) (omega (arith, le)) fits) fits (omega (arith, long)) kept.longer)

  pub list_stays : (end : ℕ) → IsAtRest (chain_in area old) end → end + 10 ≤ from → list_of new ≡ list_of old
  list_stays end rests le =
      list_counts area new stays.form stays.counting ∙ (chain_stays end rests le).1 ∙ sym (list_counts area old form counting)

-- bytes that are put are a write from there on
pub put_keeps : (area : Area) (from place : ℕ) (bytes old new : List ℕ) → from ≤ place → Puts area place bytes old new → Keeps area from old new
put_keeps area from place bytes old new le put = record {
  longer = put.longer;
  same = λ i less free. put.same i less (λ j lt. free (place + j) (omega (arith, le)));
}

pub set_keeps : (area : Area) (from place byte : ℕ) (old new : List ℕ) → from ≤ place → Sets area place byte old new → Keeps area from old new
set_keeps area from place byte old new le set = record {
  longer = omega (arith, set.size);
  same = λ i less free. set.same i less (free place le);
}

-- the chain has the bytes that were put there
pub put_chain : (area : Area) (at : ℕ) (bytes new : List ℕ) → ((j : ℕ) → j < length bytes → get_or new (offset area (9 + at + j)) 0 ≡ get_or bytes j 0) → 9 + at + length bytes ≤ 4096 * pages_in (length new) → overwritten at bytes (chain_in area new) ≡ chain_in area new
put_chain area at bytes new put room =
    let chain = chain_in area new in
    let long = length-chain area new in
    let size = length-over at bytes chain (omega (arith, long, room)) in
    let same : length (overwritten at bytes chain) ≡ length chain = omega (arith, size, long, room) in
    ext_get_or 0 (overwritten at bytes chain) chain same (λ i less.
    ⊎_elim (λ before. over_before at bytes chain (omega (arith, long, room)) i before)
    (λ le. ⊎_elim (λ lt. there i le lt) (λ past. over_after at bytes chain (omega (arith, long, room)) i past) (cases_lt i (at + length bytes)))
    (cases_lt i at))
  where
    there : (i : ℕ) → at ≤ i → i < at + length bytes → get_or (overwritten at bytes (chain_in area new)) i 0 ≡ get_or (chain_in area new) i 0
    there i le lt =
        let j : at + (i - at) ≡ i = omega (arith, le) in
        let long = length-chain area new in
        ap (λ (k : ℕ). get_or (overwritten at bytes (chain_in area new)) k 0) (sym j)
        ∙ over_there at bytes (chain_in area new) (omega (arith, long, room)) (i - at) (omega (arith, le, lt))
        ∙ sym (put (i - at) (omega (arith, le, lt)))
        ∙ ap (λ (k : ℕ). get_or new (offset area k) 0) (let e : 9 + at + (i - at) ≡ 9 + i = omega (arith, le) in e)
        ∙ sym (get_or-chain area new i (omega (arith, le, lt, room)))

-- the chain with one byte set
pub set_chain : (area : Area) (at byte : ℕ) (old new : List ℕ) → Sets area (9 + at) byte old new → 12288 ≤ length old → 9 + at < 4096 * pages_in (length old) → chain_in area new ≡ overwritten at (byte ∷ []) (chain_in area old)
set_chain area at byte old new set some room =
    let long = length-chain area old in
    let pages : pages_in (length new) ≡ pages_in (length old) = ap pages_in set.size in
    let size = length-over at (byte ∷ []) (chain_in area old) (omega (arith, long, room)) in
    let same : length (chain_in area new) ≡ length (overwritten at (byte ∷ []) (chain_in area old)) = omega (arith, size, long, length-chain area new, pages, room) in
    ext_get_or 0 (chain_in area new) (overwritten at (byte ∷ []) (chain_in area old)) same (λ i less.
    let lt : 9 + i < 4096 * pages_in (length new) = omega (arith, less, length-chain area new) in
    get_or-chain area new i lt ∙ there i (omega (arith, lt, pages)))
  where
    there : (i : ℕ) → 9 + i < 4096 * pages_in (length old) → get_or new (offset area (9 + i)) 0 ≡ get_or (overwritten at (byte ∷ []) (chain_in area old)) i 0
    there i lt = ⊎_elim (λ less. miss (λ same. let up = ascends area (9 + i) (9 + at) (omega (arith, less)) in absurd (omega (arith, up, same))) (over_before at (byte ∷ []) (chain_in area old) le i less)) behind (cases_lt i at)
      where
        le : at ≤ length (chain_in area old)
        le = omega (arith, length-chain area old, room)

        miss : offset area (9 + at) ≢ offset area (9 + i) → get_or (overwritten at (byte ∷ []) (chain_in area old)) i 0 ≡ get_or (chain_in area old) i 0 → get_or new (offset area (9 + i)) 0 ≡ get_or (overwritten at (byte ∷ []) (chain_in area old)) i 0
        miss other same =
            let w = pages_parted (length old) (omega (arith, some)) in let whole = w.0 in
            let inside_pages = inside area (9 + i) (pages_in (length old)) lt in
            set.same (offset area (9 + i)) (omega (arith, whole, inside_pages)) other ∙ sym (get_or-chain area old i lt) ∙ sym same

        behind : at ≤ i → get_or new (offset area (9 + i)) 0 ≡ get_or (overwritten at (byte ∷ []) (chain_in area old)) i 0
        behind ge =
            ⊎_elim (λ more. miss (λ same. let up = ascends area (9 + at) (9 + i) (omega (arith, more)) in absurd (omega (arith, up, same))) (over_after at (byte ∷ []) (chain_in area old) le i (omega (arith, more))))
            (λ few. let is : i ≡ at = omega (arith, few, ge) in
            ap (λ (k : ℕ). get_or new (offset area (9 + k)) 0) is ∙ set.there ∙ sym (over_there at (byte ∷ []) (chain_in area old) le 0 (omega arith))
            ∙ ap (λ (k : ℕ). get_or (overwritten at (byte ∷ []) (chain_in area old)) k 0) (let e : at + 0 ≡ i = omega (arith, is) in e)) (cases_lt at i)

pub length-behind : (body : List ℕ) → length (behind_gate body) ≡ 5 + length body
length-behind body = omega (arith, length-append (to_be_bytes w32 (length body) ++ body) (0 ∷ []), length-append (to_be_bytes w32 (length body)) body, four)
  where
    four : length (to_be_bytes w32 (length body)) ≡ 4
    four = refl

-- a record behind the gate of the area that counts, in a file with so many pages
module _ (area : Area) (end : ℕ) (body old mid : List ℕ) (form : is_areas old ≡ true) (counting : counts area old ≡ true) (rests : IsAtRest (chain_in area old) end) (small : length body < 2 ^ 32) (pages : ℕ) (size : length mid ≡ length_of_pages pages)
    (fits : end + 15 + length body ≤ 4096 * pages) (put : Puts area (end + 10) (behind_gate body) old mid) where
  mid_keeps : Keeps area (end + 10) old mid
  mid_keeps = put_keeps area (end + 10) (end + 10) (behind_gate body) old mid (omega arith) put

  mid_stays : Stays area old mid
  mid_stays = stays area (end + 10) old mid mid_keeps (omega arith) form counting

  mid_rests : IsAtRest (chain_in area mid) end
  mid_rests = (chain_stays area (end + 10) old mid mid_keeps (omega arith) form counting end rests (omega arith)).0

  mid_list : records_of (chain_in area mid) ≡ list_of old
  mid_list = (chain_stays area (end + 10) old mid mid_keeps (omega arith) form counting end rests (omega arith)).1 ∙ sym (list_counts area old form counting)

  mid_pages : pages_in (length mid) ≡ pages
  mid_pages = ap pages_in size ∙ pages_whole pages

  body_room : 9 + (end + 1) + length (behind_gate body) ≤ 4096 * pages_in (length mid)
  body_room = let five = length-behind body in omega (arith, fits, mid_pages, five)

  same_there : staged (chain_in area mid) end mid_rests body small ≡ chain_in area mid
  same_there = put_chain area (end + 1) (behind_gate body) mid (subst (λ (place : ℕ). Puts area place (behind_gate body) old mid) (let e : end + 10 ≡ 9 + (end + 1) = omega arith in e) put).there body_room

  module _ (byte : ℕ) (new : List ℕ) (set : Sets area (end + 9) byte mid new) where
    new_keeps : Keeps area (end + 9) mid new
    new_keeps = set_keeps area (end + 9) (end + 9) byte mid new (omega arith) set

    pub new_stays : Stays area mid new
    new_stays = stays area (end + 9) mid new new_keeps (omega arith) mid_stays.form mid_stays.counting

    new_chain : chain_in area new ≡ overwritten end (byte ∷ []) (chain_in area mid)
    new_chain =
        set_chain area end byte mid new (subst (λ (place : ℕ). Sets area place byte mid new) (let e : end + 9 ≡ 9 + end = omega arith in e) set) (areas_parts mid mid_stays.form).0 (omega (arith, body_room))

    new_list : list_of new ≡ records_of (chain_in area new)
    new_list = list_counts area new new_stays.form new_stays.counting

    inside_chain : end < length (chain_in area mid)
    inside_chain = gate_inside (chain_in area mid) end mid_rests

    torn : Torn end 1 (staged (chain_in area mid) end mid_rests body small) (chain_in area new)
    torn =
        subst (λ (l : List ℕ). Torn end 1 l (chain_in area new)) (sym same_there)
        (subst (Torn end 1 (chain_in area mid)) (sym new_chain) (torn_written end (byte ∷ []) (chain_in area mid) (omega (arith, inside_chain))))

    -- whatever the gate becomes, the record is there or it is not
    pub before_or_after : IsBeforeOrAfter (list_of old) body (list_of new)
    before_or_after =
        subst (λ (l : List (List ℕ)). IsBeforeOrAfter l body (list_of new)) mid_list
        (subst (IsBeforeOrAfter (records_of (chain_in area mid)) body) (sym new_list) (torn_gate (chain_in area mid) end mid_rests body small (chain_in area new) torn))

  -- an open gate adds it
  module _ (new : List ℕ) (set : Sets area (end + 9) 1 mid new) where
    whole : IsAtRest (chain_in area new) (end + 5 + length body) × (records_of (chain_in area new) ≡ records_of (chain_in area mid) ++ body ∷ [])
    whole = at_rest_after (chain_in area mid) end mid_rests body small (chain_in area new) (new_chain 1 new set ∙ ap (overwritten end (1 ∷ [])) (sym same_there))

    pub added : list_of new ≡ list_of old ++ body ∷ []
    added = new_list 1 new set ∙ whole.1 ∙ ap (λ (l : List (List ℕ)). l ++ body ∷ []) mid_list

    pub added_rests : IsAtRest (chain_in area new) (end + 5 + length body)
    added_rests = whole.0

    -- all else is as before
    pub added_stays : Stays area old new
    added_stays =
        let s = new_stays 1 new set in
        record { form = s.form; counting = s.counting; number = s.number ∙ mid_stays.number; other = s.other ∙ mid_stays.other }
