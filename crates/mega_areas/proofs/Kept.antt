-- How pieces that are written to an area, whole or torn, leave a file.
use Rattle.std.proofs.Common.{◌≡◌, ◌≢◌, ◌⊎◌, inl, inr, ⊎_elim, ℕ, ◌+◌, ◌-◌, ◌<◌, ◌≤◌, List, [], ◌∷◌, length, get_or, take, drop, refl, sym, ◌∙◌, ap, subst, arith, length-take-le, length-take, length-drop}
use Rattle.std.specs.Prelude.{◌%◌}
use Rattle.std.proofs.lemmas.Bool.{cases_lt}
use Rattle.mega_disk.specs.Images.{overwritten, Torn}
use Rattle.mega_areas.specs.declared.area.Area.{Area}
use Rattle.mega_areas.specs.Pages.{offset}
use Rattle.mega_areas.specs.Places.{Keeps, Puts, Sets, SetsAny}
use Rattle.mega_areas.proofs.Bytes.{torn_before, torn_after, over_before, over_there, over_after, length-over}
use Rattle.std.specs.Prelude.{slice_range}
use Rattle.std.proofs.lemmas.List.{get_or-take, get_or-drop, get_or_past}
use Rattle.mega_disk.specs.Fuse.{Fuse, Untold, Unset, Left, LowersBy}
use Rattle.mega_areas.proofs.Offsets.{within_page, ascends}

-- no offset of these bytes is that place
beyond : (area : Area) (place n i : ℕ) → place % 4096 + n ≤ 4096 → ((j : ℕ) → j < n → offset area (place + j) ≢ i) → (i < offset area place) ⊎ (offset area place + n ≤ i)
beyond area place n i page free = ⊎_elim inl (λ le. ⊎_elim (λ less. absurd (free (i - offset area place) (omega (arith, le, less)) (within_page area place (i - offset area place) (omega (arith, le, less, page)) ∙ (let e : offset area place + (i - offset area place) ≡ i = omega (arith, le) in e)))) inr (cases_lt i (offset area place + n))) (cases_lt i (offset area place))

-- a torn piece
pub piece_kept : (area : Area) (from place n : ℕ) (file old new : List ℕ) → place % 4096 + n ≤ 4096 → from ≤ place → Keeps area from file old → Torn (offset area place) n old new → Keeps area from file new
piece_kept area from place n file old new page le kept torn = record {
  longer = omega (arith, kept.longer, torn.no_shorter);
  same = λ i less free.
      ⊎_elim (λ before. torn_before (offset area place) n old new i torn before) (λ after. torn_after (offset area place) n old new i torn after)
      (beyond area place n i page (λ j lt. free (place + j) (omega (arith, le)))) ∙ kept.same i less free;
}

-- a torn write behind the end
pub behind_kept : (area : Area) (from at n : ℕ) (file old new : List ℕ) → length file ≤ at → Keeps area from file old → Torn at n old new → Keeps area from file new
behind_kept area from at n file old new past kept torn = record {
  longer = omega (arith, kept.longer, torn.no_shorter);
  same = λ i less free. torn_before at n old new i torn (omega (arith, less, past)) ∙ kept.same i less free;
}

pub keeps_same : (area : Area) (from : ℕ) (file : List ℕ) → Keeps area from file file
keeps_same area from file = record { longer = omega arith; same = λ i less free. refl }

-- a whole piece
pub piece_put : (area : Area) (place : ℕ) (bytes old : List ℕ) → place % 4096 + length bytes ≤ 4096 → offset area place + length bytes ≤ length old → Puts area place bytes old (overwritten (offset area place) bytes old) × (length (overwritten (offset area place) bytes old) ≡ length old)
piece_put area place bytes old page room =
    let at = offset area place in
    let le : at ≤ length old = omega (arith, room) in
    let size : length (overwritten at bytes old) ≡ length old = omega (arith, length-over at bytes old le, room) in (
      record {
        longer = omega (arith, size);
        there = λ j lt. ap (λ (i : ℕ). get_or (overwritten at bytes old) i 0) (within_page area place j (omega (arith, lt, page))) ∙ over_there at bytes old le j lt;
        same = λ i less free. ⊎_elim (over_before at bytes old le i) (over_after at bytes old le i) (beyond area place (length bytes) i page free);
      },
      size,
    )

pub put_more : (area : Area) (place n : ℕ) (bytes piece old mid new : List ℕ) → n + length piece ≤ length bytes → ((j : ℕ) → j < length piece → get_or piece j 0 ≡ get_or bytes (n + j) 0) → length new ≡ length mid → Puts area place (take n bytes) old mid → Puts area (place + n) piece mid new → Puts area place (take (n + length piece) bytes) old new
put_more area place n bytes piece old mid new room reads size first second =
    let front : length (take n bytes) ≡ n = length-take-le n bytes (omega (arith, room)) in
    let all : length (take (n + length piece) bytes) ≡ n + length piece = length-take-le (n + length piece) bytes room in
    record {
      longer = omega (arith, first.longer, second.longer);
      there = λ j less. ⊎_elim (early j) (λ le. late j le (omega (arith, less, all))) (cases_lt j n);
      same = λ i less free.
          second.same i (omega (arith, less, first.longer)) (λ j lt at. free (n + j) (omega (arith, lt, all)) (ap (offset area) (let e : place + (n + j) ≡ place + n + j = omega arith in e) ∙ at))
          ∙ first.same i less (λ j lt. free j (omega (arith, lt, front, all)));
    }
  where
    distinct : (j k : ℕ) → j < n → offset area (place + n + k) ≢ offset area (place + j)
    distinct j k less same = let up = ascends area (place + j) (place + n + k) (omega (arith, less)) in absurd (omega (arith, up, same))

    early : (j : ℕ) → j < n → get_or new (offset area (place + j)) 0 ≡ get_or (take (n + length piece) bytes) j 0
    early j less = ⊎_elim stays fresh (cases_lt (offset area (place + j)) (length mid))
      where
        read : get_or (take n bytes) j 0 ≡ get_or (take (n + length piece) bytes) j 0
        read = get_or-take n bytes j 0 less ∙ sym (get_or-take (n + length piece) bytes j 0 (omega (arith, less)))

        there : get_or mid (offset area (place + j)) 0 ≡ get_or (take n bytes) j 0
        there = first.there j (omega (arith, less, length-take-le n bytes (omega (arith, room))))

        stays : offset area (place + j) < length mid → get_or new (offset area (place + j)) 0 ≡ get_or (take (n + length piece) bytes) j 0
        stays lt = second.same (offset area (place + j)) lt (λ k in_piece. distinct j k less) ∙ there ∙ read

        fresh : length mid ≤ offset area (place + j) → get_or new (offset area (place + j)) 0 ≡ get_or (take (n + length piece) bytes) j 0
        fresh past = get_or_past new (offset area (place + j)) 0 (omega (arith, size, past)) ∙ sym (get_or_past mid (offset area (place + j)) 0 past) ∙ there ∙ read

    late : (j : ℕ) → n ≤ j → j < n + length piece → get_or new (offset area (place + j)) 0 ≡ get_or (take (n + length piece) bytes) j 0
    late j le less =
        ap (λ (p : ℕ). get_or new (offset area p) 0) (let e : place + j ≡ place + n + (j - n) = omega (arith, le) in e)
        ∙ second.there (j - n) (omega (arith, le, less)) ∙ reads (j - n) (omega (arith, le, less))
        ∙ ap (λ (k : ℕ). get_or bytes k 0) (let e : n + (j - n) ≡ j = omega (arith, le) in e)
        ∙ sym (get_or-take (n + length piece) bytes j 0 less)

-- after growth the same bytes are put
pub put_grown : (area : Area) (place : ℕ) (bytes old mid new : List ℕ) → Puts area place [] old mid → Puts area place bytes mid new → Puts area place bytes old new
put_grown area place bytes old mid new first second = record {
  longer = omega (arith, first.longer, second.longer);
  there = second.there;
  same = λ i less free. second.same i (omega (arith, less, first.longer)) free ∙ first.same i less (λ j none. absurd (omega (arith, none)));
}

pub put_both : (area : Area) (place : ℕ) (old mid new : List ℕ) → Puts area place [] old mid → Puts area place [] mid new → Puts area place [] old new
put_both area place old mid new = put_grown area place [] old mid new

-- what is written behind the end is put nowhere
pub put_behind : (area : Area) (place at : ℕ) (bytes old : List ℕ) → at ≡ length old → Puts area place [] old (overwritten at bytes old)
put_behind area place at bytes old is =
    let le : at ≤ length old = omega (arith, is) in
    record {
      longer = omega (arith, length-over at bytes old le);
      there = λ j less. absurd (omega (arith, less));
      same = λ i less free. over_before at bytes old le i (omega (arith, less, is));
    }

-- one byte, whole or torn
pub set_whole : (area : Area) (place byte : ℕ) (old : List ℕ) → offset area place < length old → Sets area place byte old (overwritten (offset area place) (byte ∷ []) old)
set_whole area place byte old room =
    let at = offset area place in
    let le : at ≤ length old = omega (arith, room) in
    record {
      size = omega (arith, length-over at (byte ∷ []) old le, room);
      there = ap (λ (i : ℕ). get_or (overwritten at (byte ∷ []) old) i 0) (let e : at ≡ at + 0 = omega arith in e) ∙ over_there at (byte ∷ []) old le 0 (omega arith);
      same = λ i less other.
          ⊎_elim (over_before at (byte ∷ []) old le i)
          (λ past. ⊎_elim (λ few. absurd (other (omega (arith, past, few)))) (λ after. over_after at (byte ∷ []) old le i (omega (arith, after))) (cases_lt i (at + 1))) (cases_lt i at);
    }

pub set_torn : (area : Area) (place : ℕ) (old new : List ℕ) → offset area place < length old → Torn (offset area place) 1 old new → SetsAny area place old new
set_torn area place old new room torn =
    let at = offset area place in (
      get_or new at 0,
      record {
        size = omega (arith, torn.no_shorter, torn.no_longer, room);
        there = refl;
        same = λ i less other. ⊎_elim (λ before. torn_before at 1 old new i torn before) (λ past. ⊎_elim (λ few. absurd (other (omega (arith, past, few)))) (λ after. torn_after at 1 old new i torn after) (cases_lt i (at + 1))) (cases_lt i at);
      },
    )

-- a piece of the bytes, as it is read of them
pub put_read : (area : Area) (place n k : ℕ) (bytes old mid new : List ℕ) → n + k ≤ length bytes → length new ≡ length mid → Puts area place (take n bytes) old mid → Puts area (place + n) (slice_range bytes n (n + k)) mid new → Puts area place (take (n + k) bytes) old new
put_read area place n k bytes old mid new room size first second =
    let piece = slice_range bytes n (n + k) in
    let count : n + k - n ≡ k = omega arith in
    let long : length piece ≡ k = omega (arith, length-take (n + k - n) (drop n bytes), length-drop n bytes, count, room) in
    subst (λ (m : ℕ). Puts area place (take (n + m) bytes) old new) long
    (put_more area place n bytes piece old mid new (omega (arith, long, room))
    (λ j less. get_or-take (n + k - n) (drop n bytes) j 0 (omega (arith, less, long, count)) ∙ get_or-drop n bytes j 0) size first second)

-- calls of a device one after another
pub lowers_on : (a b c : Fuse) (n m k : ℕ) → k ≤ n + m → LowersBy n a b → LowersBy m b c → LowersBy k a c
lowers_on Untold b c n m k le first second = subst (λ (f : Fuse). LowersBy m f c) first second
lowers_on Unset b c n m k le first second = subst (λ (f : Fuse). LowersBy m f c) first second
lowers_on (Left x) b c n m k le (y, is, fits) second = let s = subst (λ (f : Fuse). LowersBy m f c) is second in (s.0, s.1, let last = s.2 in omega (arith, le, fits, last))
