-- An area is joined page by page.
use Rattle.std.proofs.Common.{◌≡◌, ⊎_elim, refl, ℕ, ◌+◌, ◌*◌, ◌-◌, ◌<◌, ◌≤◌, List, ◌++◌, length, get_or, map, drop, sym, ◌∙◌, ap, arith, length-append, length-take, length-drop}
use Rattle.std.specs.Prelude.{slice_range}
use Rattle.std.specs.List.{range_with_len}
use Rattle.std.proofs.lemmas.Bool.{cases_lt}
use Rattle.std.proofs.lemmas.List.{ext_get_or, get_or-take, get_or-drop, get_or_append_left, get_or-append_right}
use Rattle.std.proofs.lemmas.List.FromFn.{get_or-map-range_with_len, length-map-range_with_len}
use Rattle.mega_areas.specs.declared.area.Area.{Area}
use Rattle.mega_areas.specs.Pages.{first_page, offset}
use Rattle.mega_areas.proofs.Offsets.{page_offset}

abbrev pub front_of : Area → List ℕ → ℕ → List ℕ
front_of area file pages = map (λ place. get_or file (offset area place) 0) (range_with_len 0 (4096 * pages))

-- one page more
pub joined_more : (area : Area) (file : List ℕ) (page at : ℕ) → at ≡ 4096 * (2 * page + first_page area) → at + 4096 ≤ length file → front_of area file page ++ slice_range file at (at + 4096) ≡ front_of area file (page + 1)
joined_more area file page at start room =
    let f : ℕ → ℕ = λ place. get_or file (offset area place) 0 in
    let old = front_of area file page in
    let piece = slice_range file at (at + 4096) in
    let size : length old ≡ 4096 * page = length-map-range_with_len f 0 (4096 * page) in
    let whole : length (front_of area file (page + 1)) ≡ 4096 * (page + 1) = length-map-range_with_len f 0 (4096 * (page + 1)) in
    let part : length piece ≡ 4096 = let a = length-take (at + 4096 - at) (drop at file) in let b = length-drop at file in omega (arith, a, b, room) in
    ext_get_or 0 (old ++ piece) (front_of area file (page + 1)) (omega (arith, length-append old piece, size, part, whole)) (λ i less.
    let lt : i < 4096 * (page + 1) = omega (arith, less, length-append old piece, size, part) in
    (⊎_elim
    (λ early. get_or_append_left old piece 0 i (omega (arith, early, size)) ∙ get_or-map-range_with_len f 0 (4096 * page) i i 0 early (omega arith))
    (λ le.
    get_or-append_right old piece (4096 * page) i 0 size le ∙ get_or-take (at + 4096 - at) (drop at file) (i - 4096 * page) 0 (omega (arith, le, lt)) ∙ get_or-drop at file (i - 4096 * page) 0
    ∙ ap (λ (k : ℕ). get_or file k 0) (ap (λ (k : ℕ). k + (i - 4096 * page)) start ∙ sym (page_offset area page i le (omega (arith, lt)))))
    (cases_lt i (4096 * page)))
    ∙ sym (get_or-map-range_with_len f 0 (4096 * (page + 1)) i i 0 lt (omega arith)))
