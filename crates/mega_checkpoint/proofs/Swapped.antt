-- A record that is written to the other area in place of all: what each write leaves, whole or torn.
use Rattle.std.proofs.Common.{◌≡◌, inl, inr, ℕ, ◌+◌, ◌-◌, ◌*◌, ◌<◌, ◌≤◌, ◌^◌, Bool, true, false, List, [], ◌∷◌, ◌++◌, length, get_or, drop, refl, sym, ◌∙◌, ap, subst, arith, append_assoc, length-append}
use Rattle.std.specs.Prelude.{◌==◌, ◌&&◌, ◌||◌, not}
use Rattle.std.specs.Int.{to_be_bytes, w32}
use Rattle.std.proofs.lemmas.Bool.{cases_eq}
use Rattle.std.proofs.lemmas.Bool.Decides.{nat_tests}
use Rattle.std.proofs.lemmas.List.{append-nil, get_or-append_right}
use Rattle.byteorder.specs.Endian.{big_bytes}
use Rattle.mega_disk.specs.RecordLists.{IsOldOrReplaced}
use Rattle.mega_journal.specs.Chain.{record_of, chain_of, records_of}
use Rattle.mega_journal.specs.Rest.{IsAtRest}
use Rattle.mega_journal.proofs.Written.{at_rest, inside as gate_inside}
use Rattle.mega_disk.specs.Images.{Only}
use Rattle.mega_areas.specs.declared.area.Area.{Area}
use Rattle.mega_areas.specs.declared.area.Areas.{Areas}
use Rattle.mega_checkpoint.specs.Held.{HoldsAreas, shut}
use Rattle.mega_areas.specs.Pages.{other_of, offset, pages_in, length_of_pages, is_open, generation_of, chain_in, counts, outranks, is_areas}
use Rattle.mega_checkpoint.specs.Format.{list_of, replacing}
use Rattle.mega_areas.specs.Places.{Keeps, Puts, Sets}
use Rattle.mega_areas.proofs.Offsets.{ascends}
use Rattle.mega_checkpoint.proofs.Fronts.{SameFront, same_chain, same_gate, same_generation, areas_parts, areas_whole, list_counts, length-chain, pages_whole, counts_open, counts_alone, counts_later, other_other, equal_chain, generation_put, first_offset}
use Rattle.mega_checkpoint.proofs.Adding.{areas_stay, front_stays, other_stays, some_pages, in_pages, closed, put_chain, put_keeps, set_keeps}

-- the area that counts is as it was beside the other
pub record Beside (area : Area) (end : ℕ) (old new : List ℕ) : Type 0 where
  pub form : is_areas new ≡ true
  pub mine : is_open area new ≡ true
  pub number : generation_of area new ≡ generation_of area old
  pub rests : IsAtRest (chain_in area new) end
  pub records : records_of (chain_in area new) ≡ list_of old

pub beside : (area : Area) (end from : ℕ) (old new : List ℕ) → is_areas old ≡ true → counts area old ≡ true → IsAtRest (chain_in area old) end → Keeps (other_of area) from old new → Beside area end old new
beside area end from old new form counting rests kept =
    let long : 12288 ≤ length old = (areas_parts old form).0 in
    let some = some_pages (other_of area) from old new kept long in
    let there = gate_inside (chain_in area old) end rests in
    let fits : 9 + (end + 1) ≤ 4096 * pages_in (length old) = omega (arith, there, length-chain area old) in
    let front : (n : ℕ) → n ≤ 4096 * pages_in (length old) → SameFront area n old new = λ n room. subst (λ (a : Area). SameFront a n old new) (other_other area) (other_stays (other_of area) from old new kept long n room) in
    let nine = front 9 (omega (arith, some)) in
    let chain = closed (chain_in area old) (chain_in area new) end rests (same_chain area (end + 1) old new (front (9 + (end + 1)) fits) fits (omega (arith, long)) kept.longer) in
    record {
      form = areas_whole new (omega (arith, long, kept.longer)) (areas_stay (other_of area) from old new kept long ∙ (areas_parts old form).1);
      mine = same_gate area 9 old new nine (omega arith) ∙ counts_open area old counting;
      number = same_generation area old new (λ j less. nine (1 + j) (omega (arith, less)));
      rests = chain.0;
      records = chain.1 ∙ sym (list_counts area old form counting);
    }

-- where the other's gate is closed, the list is as it was
pub list_beside : (area : Area) (end : ℕ) (old new : List ℕ) → Beside area end old new → is_open (other_of area) new ≡ false → list_of new ≡ list_of old
list_beside area end old new b shut = list_counts area new b.form (counts_alone area new b.mine shut) ∙ b.records

-- writes behind its gate leave it closed
pub gate_stays : (area : Area) (from : ℕ) (old new : List ℕ) → is_areas old ≡ true → 1 ≤ from → Keeps area from old new → is_open area new ≡ is_open area old
gate_stays area from old new form some kept =
    let long : 12288 ≤ length old = (areas_parts old form).0 in
    same_gate area 1 old new (front_stays area from old new kept long 1 some (let p = some_pages area from old new kept long in omega (arith, p))) (omega arith)

-- the gate is what it was set to
pub gate_set : (area : Area) (byte : ℕ) (old new : List ℕ) → Sets area 0 byte old new → is_open area new ≡ (byte == 1)
gate_set area byte old new set = ap (λ (b : ℕ). b == 1) (ap (λ (i : ℕ). get_or new i 0) (sym (first_offset area)) ∙ set.there)

-- behind it the area stays
pub beyond_gate : (area : Area) (byte : ℕ) (old new : List ℕ) → 12288 ≤ length old → Sets area 0 byte old new → (place : ℕ) → 0 < place → place < 4096 * pages_in (length old) → get_or new (offset area place) 0 ≡ get_or old (offset area place) 0
beyond_gate area byte old new long set place some less =
    set.same (offset area place) (in_pages area 0 old new (set_keeps area 0 0 byte old new (omega arith) set) long area place less) (λ same. let up = ascends area 0 place some in absurd (omega (arith, up, same)))

eight : (generation : ℕ) → length (big_bytes 8 generation) ≡ 8
eight generation = refl

length-tail : (body : List ℕ) → length (1 ∷ (to_be_bytes w32 (length body) ++ (body ++ 0 ∷ []))) ≡ 6 + length body
length-tail body = omega (arith, length-append (to_be_bytes w32 (length body)) (body ++ 0 ∷ []), length-append body (0 ∷ []), four)
  where
    four : length (to_be_bytes w32 (length body)) ≡ 4
    four = refl

pub length-replacing : (generation : ℕ) (body : List ℕ) → length (replacing generation body) ≡ 14 + length body
length-replacing generation body = omega (arith, length-append (big_bytes 8 generation) (1 ∷ (to_be_bytes w32 (length body) ++ (body ++ 0 ∷ []))), eight generation, length-tail body)

-- the next generation behind its closed gate, in a file with so many pages
module _ (area : Area) (end : ℕ) (body old mid : List ℕ) (form : is_areas old ≡ true) (counting : counts area old ≡ true) (rests : IsAtRest (chain_in area old) end) (small : length body < 2 ^ 32) (generation : ℕ) (next : generation < 2 ^ 64)
    (later : generation_of area old < generation) (pages : ℕ) (size : length mid ≡ length_of_pages pages) (fits : 15 + length body ≤ 4096 * pages) (put : Puts (other_of area) 1 (replacing generation body) old mid) (gate_shut : is_open (other_of area) old ≡ false) where
  abbrev tail : List ℕ
  tail = 1 ∷ (to_be_bytes w32 (length body) ++ (body ++ 0 ∷ []))

  kept : Keeps (other_of area) 1 old mid
  kept = put_keeps (other_of area) 1 1 (replacing generation body) old mid (omega arith) put

  pub mid_beside : Beside area end old mid
  mid_beside = beside area end 1 old mid form counting rests kept

  pub mid_shut : is_open (other_of area) mid ≡ false
  mid_shut = gate_stays (other_of area) 1 old mid form (omega arith) kept ∙ gate_shut

  pub mid_list : list_of mid ≡ list_of old
  mid_list = list_beside area end old mid mid_beside mid_shut

  mid_pages : pages_in (length mid) ≡ pages
  mid_pages = ap pages_in size ∙ pages_whole pages

  mid_number : generation_of (other_of area) mid ≡ generation
  mid_number = generation_put (other_of area) mid generation tail next (λ j less. put.there j (omega (arith, less, length-replacing generation body)))

  there : (j : ℕ) → j < length tail → get_or mid (offset (other_of area) (9 + 0 + j)) 0 ≡ get_or tail j 0
  there j less =
      ap (λ (p : ℕ). get_or mid (offset (other_of area) p) 0) (let e : 9 + 0 + j ≡ 1 + (8 + j) = omega arith in e)
      ∙ put.there (8 + j) (omega (arith, less, length-tail body, length-replacing generation body))
      ∙ get_or-append_right (big_bytes 8 generation) tail 8 (8 + j) 0 (eight generation) (omega arith)
      ∙ ap (λ (k : ℕ). get_or tail k 0) (let e : 8 + j - 8 ≡ j = omega arith in e)

  abbrev rest : List ℕ
  rest = drop (0 + length tail) (chain_in (other_of area) mid)

  mid_chain : chain_in (other_of area) mid ≡ chain_of (body ∷ []) ++ 0 ∷ rest
  mid_chain =
      sym (put_chain (other_of area) 0 tail mid there (omega (arith, mid_pages, length-tail body, fits)))
      ∙ ap (λ (l : List ℕ). 1 ∷ l) (append_assoc (to_be_bytes w32 (length body)) (body ++ 0 ∷ []) rest ∙ ap (λ (l : List ℕ). to_be_bytes w32 (length body) ++ l) (append_assoc body (0 ∷ []) rest) ∙ sym (append_assoc (to_be_bytes w32 (length body)) body (0 ∷ rest)))
      ∙ ap (λ (l : List ℕ). l ++ 0 ∷ rest) (sym (append-nil (record_of body)))

  module _ (byte : ℕ) (new : List ℕ) (set : Sets (other_of area) 0 byte mid new) where
    set_kept : Keeps (other_of area) 0 mid new
    set_kept = set_keeps (other_of area) 0 0 byte mid new (omega arith) set

    mid_counts : counts area mid ≡ true
    mid_counts = counts_alone area mid mid_beside.mine mid_shut

    pub new_beside : Beside area end mid new
    new_beside = beside area end 0 mid new mid_beside.form mid_counts mid_beside.rests set_kept

    long_mid : 12288 ≤ length mid
    long_mid = (areas_parts mid mid_beside.form).0

    behind : (place : ℕ) → 0 < place → place < 4096 * pages_in (length mid) → get_or new (offset (other_of area) place) 0 ≡ get_or mid (offset (other_of area) place) 0
    behind = beyond_gate (other_of area) byte mid new long_mid set

    pub new_number : generation_of (other_of area) new ≡ generation
    new_number = same_generation (other_of area) mid new (λ j less. behind (1 + j) (omega arith) (let p = some_pages (other_of area) 0 mid new set_kept long_mid in omega (arith, less, p))) ∙ mid_number

    new_chain : chain_in (other_of area) new ≡ chain_of (body ∷ []) ++ 0 ∷ rest
    new_chain = equal_chain (other_of area) mid new (ap pages_in set.size) (λ i less. behind (9 + i) (omega arith) less) ∙ mid_chain

    pub new_rests : IsAtRest (chain_in (other_of area) new) (5 + length body) × (records_of (chain_in (other_of area) new) ≡ body ∷ [])
    new_rests = at_rest (body ∷ []) 0 rest (chain_in (other_of area) new) (5 + length body) (small, tt) (λ zero_one. absurd (omega arith)) new_chain place
      where
        four : length (to_be_bytes w32 (length body)) ≡ 4
        four = refl

        place : 5 + length body ≡ length (chain_of (body ∷ []))
        place = omega (arith, ap length (append-nil (record_of body)), length-append (to_be_bytes w32 (length body)) body, four)

    -- with an open gate the other counts
    pub opened : byte ≡ 1 → counts (other_of area) new ≡ true
    opened one =
        counts_later (other_of area) new (gate_set (other_of area) byte mid new set ∙ (let e : (byte == 1) ≡ true = ap (λ (b : ℕ). b == 1) one in e))
        (subst (λ (n : ℕ). n < generation_of (other_of area) new) (ap (λ (a : Area). generation_of a new) (sym (other_other area))) (omega (arith, later, new_beside.number, mid_beside.number, new_number)))

    pub replaced : byte ≡ 1 → list_of new ≡ body ∷ []
    replaced one = list_counts (other_of area) new new_beside.form (opened one) ∙ new_rests.1

    -- whatever the gate becomes, it is the old list or the new one
    pub old_or_replaced : IsOldOrReplaced (list_of old) body (list_of new)
    old_or_replaced = elim (cases_eq byte 1) [
      | inl one ↦ inr (replaced one)
      | inr other ↦ inl (list_beside area end mid new new_beside (gate_set (other_of area) byte mid new set ∙ (let e : (byte == 1) ≡ false = grind (arith, nat_tests) in e)) ∙ mid_list)
    ]

pub was_open : (b : Bool) → not b ≡ false → b ≡ true
was_open true none = refl
was_open false none = absurd (cc)

-- a file of areas has a page of each
pub some_room : (file : List ℕ) (pages : ℕ) → length file ≡ length_of_pages pages → is_areas file ≡ true → 1 ≤ pages
some_room file pages size form = let long = (areas_parts file form).0 in omega (arith, size, long)

-- the other's gate, which is open, is set to any byte
pub set_list : (area : Area) (end : ℕ) (old : List ℕ) → is_areas old ≡ true → counts area old ≡ true → IsAtRest (chain_in area old) end → is_open (other_of area) old ≡ true → (byte : ℕ) (new : List ℕ) → Sets (other_of area) 0 byte old new → list_of new ≡ list_of old
set_list area end old form counting rests was byte new set = elim (cases_eq byte 1) [
  | inl one ↦ list_counts area new b.form (still one) ∙ b.records
  | inr other ↦ list_beside area end old new b (gate_set (other_of area) byte old new set ∙ (let e : (byte == 1) ≡ false = grind (arith, nat_tests) in e))
]
  where
    kept : Keeps (other_of area) 0 old new
    kept = set_keeps (other_of area) 0 0 byte old new (omega arith) set

    b : Beside area end old new
    b = beside area end 0 old new form counting rests kept

    still : byte ≡ 1 → counts area new ≡ true
    still one = (λ i. gate i && (not (others i) || outranks area (b.number i) (number i))) ∙ counting
      where
        gate : is_open area new ≡ is_open area old
        gate = b.mine ∙ sym (counts_open area old counting)

        others : is_open (other_of area) new ≡ is_open (other_of area) old
        others = gate_set (other_of area) byte old new set ∙ (let e : (byte == 1) ≡ true = ap (λ (n : ℕ). n == 1) one in e) ∙ sym was

        number : generation_of (other_of area) new ≡ generation_of (other_of area) old
        number = same_generation (other_of area) old new (λ j less. beyond_gate (other_of area) byte old new long set (1 + j) (omega arith) (omega (arith, less, some_pages (other_of area) 0 old new kept long)))
          where
            long : 12288 ≤ length old
            long = (areas_parts old form).0

-- and closed
pub set_shut : (old : List ℕ) (areas : Areas) (end : ℕ) {may_leave : List ℕ → Type 0} → HoldsAreas old may_leave areas end → (new : List ℕ) {images : List ℕ → Type 0} → Sets (other_of areas.active) 0 0 old new → Only new images → HoldsAreas new images (shut areas) end
set_shut old areas end held new set durable =
    let b = beside areas.active end 0 old new held.form held.counting held.at_rest (set_keeps (other_of areas.active) 0 0 0 old new (omega arith) set) in
    let gate : is_open (other_of areas.active) new ≡ false = gate_set (other_of areas.active) 0 old new set in
    record {
      size = set.size ∙ held.size;
      form = b.form;
      counting = counts_alone areas.active new b.mine gate;
      number = b.number ∙ held.number;
      other = gate;
      at_rest = b.rests;
      durable = durable;
    }
