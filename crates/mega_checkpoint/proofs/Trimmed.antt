-- A file of areas that is cut to its whole pages, or to any length from there on.
use Rattle.std.proofs.Common.{◌≡◌, ℕ, ◌+◌, ◌*◌, ◌<◌, ◌≤◌, true, List, [], length, get_or, take, sym, ◌∙◌, ap, arith, length-take-le, length-take}
use Rattle.std.specs.Prelude.{◌&&◌, ◌||◌, not, if◌then◌else◌}
use Rattle.std.proofs.lemmas.List.{get_or-take, take-take}
use Rattle.mega_disk.specs.Images.{Cut}
use Rattle.mega_journal.specs.Chain.{records_of}
use Rattle.mega_areas.specs.declared.area.Area.{Area}
use Rattle.mega_areas.specs.declared.area.Area.TheVariants.{Odd, Even}
use Rattle.mega_areas.specs.Pages.{other_of, offset, pages_in, length_of_pages, is_open, generation_of, chain_in, outranks, counts, is_areas}
use Rattle.mega_checkpoint.specs.Format.{list_of}
use Rattle.mega_areas.proofs.Offsets.{inside}
use Rattle.mega_checkpoint.proofs.Fronts.{same_mark, same_gate, same_generation, areas_parts, areas_whole, list_areas, pages_parted, pages_more, pages_whole, equal_chain}

module _ (file c : List ℕ) (form : is_areas file ≡ true) (least : length_of_pages (pages_in (length file)) ≤ length c) (most : length c ≤ length file) (same : take (length_of_pages (pages_in (length file))) c ≡ take (length_of_pages (pages_in (length file))) file) where
  pages : ℕ
  pages = pages_in (length file)

  long : 12288 ≤ length file
  long = (areas_parts file form).0

  some : 1 ≤ pages_in (length file)
  some = let w = pages_parted (length file) (omega (arith, long)) in let e = w.1 in omega (arith, e, long)

  same_at : (i : ℕ) → i < length_of_pages (pages_in (length file)) → get_or c i 0 ≡ get_or file i 0
  same_at i less = sym (get_or-take (length_of_pages (pages_in (length file))) c i 0 less) ∙ ap (λ (l : List ℕ). get_or l i 0) same ∙ get_or-take (length_of_pages (pages_in (length file))) file i 0 less

  same_place : (area : Area) (place : ℕ) → place < 4096 * pages_in (length file) → get_or c (offset area place) 0 ≡ get_or file (offset area place) 0
  same_place area place less = same_at (offset area place) (inside area place (pages_in (length file)) less)

  same_pages : pages_in (length c) ≡ pages_in (length file)
  same_pages =
      let low = pages_more (length_of_pages (pages_in (length file))) (length c) (omega arith) least in
      let high = pages_more (length c) (length file) (omega (arith, least)) most in
      let whole = pages_whole (pages_in (length file)) in
      omega (arith, low, high, whole)

  pub trimmed_form : is_areas c ≡ true
  trimmed_form = areas_whole c (omega (arith, least, some)) (same_mark file c (λ i less. same_at i (omega (arith, less, some))) ∙ (areas_parts file form).1)

  gate : (area : Area) → is_open area c ≡ is_open area file
  gate area = same_gate area 1 file c (λ place less. same_place area place (omega (arith, less, some))) (omega arith)

  number : (area : Area) → generation_of area c ≡ generation_of area file
  number area = same_generation area file c (λ j less. same_place area (1 + j) (omega (arith, less, some)))

  counting : (area : Area) → counts area c ≡ counts area file
  counting area = λ i. gate area i && (not (gate (other_of area) i) || outranks area (number area i) (number (other_of area) i))

  chain : (area : Area) → chain_in area c ≡ chain_in area file
  chain area = equal_chain area file c same_pages (λ i less. same_place area (9 + i) less)

  pub trimmed_list : list_of c ≡ list_of file
  trimmed_list =
      list_areas c trimmed_form
      ∙ (λ i. if counting Odd i then records_of (chain Odd i) else (if counting Even i then records_of (chain Even i) else []))
      ∙ sym (list_areas file form)

-- an image of the cut
pub cut_list : (file c : List ℕ) → is_areas file ≡ true → Cut (length_of_pages (pages_in (length file))) file c → list_of c ≡ list_of file
cut_list file c form cut =
    let whole = length_of_pages (pages_in (length file)) in
    let w = pages_parted (length file) (let l = (areas_parts file form).0 in omega (arith, l)) in
    let fits : whole ≤ length file = let e = w.0 in omega (arith, e) in
    let size : length (take whole file) ≡ whole = length-take-le whole file fits in
    let most : length c ≤ length file = let e = ap length cut.front in let f = length-take (length c) file in omega (arith, e, f) in
    let least : whole ≤ length c = let e = ap length cut.no_shorter in let f = length-take whole c in omega (arith, e, f, size) in
    trimmed_list file c form least most cut.no_shorter

-- the whole pages alone
pub whole_list : (file : List ℕ) → is_areas file ≡ true → (list_of (take (length_of_pages (pages_in (length file))) file) ≡ list_of file) × (is_areas (take (length_of_pages (pages_in (length file))) file) ≡ true)
whole_list file form =
    let whole = length_of_pages (pages_in (length file)) in
    let w = pages_parted (length file) (let l = (areas_parts file form).0 in omega (arith, l)) in
    let fits : whole ≤ length file = let e = w.0 in omega (arith, e) in
    let size : length (take whole file) ≡ whole = length-take-le whole file fits in
    let same = take-take whole whole file (omega arith) in (
      trimmed_list file (take whole file) form (omega (arith, size)) (omega (arith, size, fits)) same,
      trimmed_form file (take whole file) form (omega (arith, size)) (omega (arith, size, fits)) same,
    )
