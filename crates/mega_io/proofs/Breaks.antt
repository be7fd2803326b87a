-- How a line is cut off the bytes that were read.
use Rattle.std.proofs.Common.{◌≡◌, ◌≢◌, ℕ, ◌+◌, ◌<◌, ◌≤◌, Bool, true, false, Option, Some, None, List, [], ◌∷◌, ◌++◌, length, take, drop, slice_index, refl, sym, ◌∙◌, ap, subst, suc, add-one, append_assoc, append-nil}
use Rattle.std.specs.Io.KnownBytes.{prepend_known, Consumes, Keeps}
use Rattle.std.proofs.KnownBytes.{Consumes-kept, Consumes-trans, prepend_known-nil}
use Rattle.std.proofs.lemmas.List.{take-append-drop, drop-drop}
use Rattle.std.proofs.lemmas.List.Elements.{All-append}
use Rattle.std.proofs.Math.Seq.{drop-cons}
use Rattle.mega_io.specs.declared.lines.Ended.TheVariants.{Long}
use Rattle.mega_io.specs.TextLines.{BreaksOff, IsUnbroken, ReadsLine, ReadsPart}

pub at_feed : (rest : List ℕ) (n : ℕ) → n < length rest → slice_index rest n ≡ 10 → rest ≡ take n rest ++ 10 ∷ drop (n + 1) rest
at_feed rest n within feed =
    rw add-one (sym (take-append-drop n rest) ∙ ap (λ xs. take n rest ++ xs) (drop-cons rest n 0 within ∙ ap (λ x. x ∷ drop (suc n) rest) feed))

pub took_line : (front rest part before after : List ℕ) (at n : ℕ) → rest ≡ drop at front → part ≡ take n rest → after ≡ before ++ part → IsUnbroken (take n rest)
    → n < length rest → slice_index rest n ≡ 10 → ReadsPart (drop at front) (drop (at + (n + 1)) front) before after true
took_line front rest part before after at n rest_is part_is grown unbroken within feed = (
  take n rest,
  grown ∙ ap (λ xs. before ++ xs) part_is,
  sym rest_is ∙ at_feed rest n within feed ∙ ap (λ xs. take n rest ++ 10 ∷ drop (n + 1) xs) rest_is ∙ ap (λ xs. take n rest ++ 10 ∷ xs) (drop-drop (n + 1) at front),
  unbroken,
)

-- the known bytes began with the line, as far as it was read
pub record HasRead (first now : Option (List ℕ)) (line : List ℕ) (most : ℕ) : Type 0 where
  pub consumed : Consumes first now line
  pub unbroken : IsUnbroken line
  pub within : length line ≤ most

pub read_on : (first now next : Option (List ℕ)) (line : List ℕ) (most : ℕ) → HasRead first now line most → Keeps now next → HasRead first next line most
read_on first now next line most has kept = record { consumed = Consumes-kept first now next line has.consumed kept; unbroken = has.unbroken; within = has.within }

-- bytes in front of the known ones are consumed first
pub front_consumed : (known : Option (List ℕ)) (old new bytes : List ℕ) → old ≡ bytes ++ new → Consumes (prepend_known old known) (prepend_known new known) bytes
front_consumed None old new bytes is = tt
front_consumed (Some xs) old new bytes is = ap (λ ys. ys ++ xs) is ∙ append_assoc bytes new xs

-- a fault comes: nothing waits
pub breaks_off : (first left : Option (List ℕ)) (line : List ℕ) (most : ℕ) (waiting : List ℕ) → HasRead first (prepend_known waiting left) line most → waiting ≡ [] → BreaksOff first waiting left line
breaks_off first left line most waiting has none =
    (subst (λ (now : Option (List ℕ)). Consumes first now line) (ap (λ (xs : List ℕ). prepend_known xs left) none ∙ prepend_known-nil left) has.consumed, has.unbroken, none)

pub line_is_long : (first left : Option (List ℕ)) (old new before after : List ℕ) (most : ℕ) (broken : Bool) → HasRead first (prepend_known old left) before most → ReadsPart old new before after broken → most < length after
    → ReadsLine most first (prepend_known new left) after Long
line_is_long first left old new before after most true has part long =
    let moved = Consumes-trans first (prepend_known old left) (prepend_known new left) before (part.0 ++ 10 ∷ []) has.consumed
    (front_consumed left old new (part.0 ++ 10 ∷ []) (part.2 ∙ sym (append_assoc part.0 (10 ∷ []) new))) in (
      (10 ∷ [], subst (Consumes first (prepend_known new left)) (sym (append_assoc before part.0 (10 ∷ [])) ∙ ap (λ xs. xs ++ 10 ∷ []) (sym part.1)) moved),
      subst IsUnbroken (sym part.1) (All-append (λ byte. byte ≢ 10) before part.0 has.unbroken part.3),
      long,
    )
line_is_long first left old new before after most false has part long =
    let moved = Consumes-trans first (prepend_known old left) (prepend_known new left) before old has.consumed
    (front_consumed left old new old (sym (append-nil old) ∙ ap (λ xs. old ++ xs) (sym part.1))) in (
      ([], subst (Consumes first (prepend_known new left)) (sym part.0 ∙ sym (append-nil after)) moved),
      subst IsUnbroken (sym part.0) (All-append (λ byte. byte ≢ 10) before old has.unbroken part.2),
      long,
    )
