-- How much of a text fits into a page.
use Rattle.std.proofs.Common.{◌≡◌, ◌≤◌, ℕ, zero, suc, ◌+◌, ◌-◌, Bool, true, false, nat_lt, nat_le, List, [], ◌∷◌, ◌++◌, length, take, arith, refl, subst}
use Rattle.std.specs.Prelude.{if◌then◌else◌, slice_index, codes}
use Rattle.std.proofs.lemmas.Bool.Decides.{nat_tests}
use Rattle.std.proofs.lemmas.List.{length-append, take_all}
use Rattle.mega_picture.specs.Escape.{escaped, escape_behind, escape, width, fitting, cut_at, goes_on, shortened, fitted}

-- a byte takes no more than its width
escaped_width : (before last byte : ℕ) → length (escaped before last byte) ≤ width byte
unfolding escaped width
escaped_width before last byte = grind (arith, nat_tests)

-- where one byte more fits, there was room for it
fits_more : (less : Bool) (room wide n more : ℕ) → nat_lt room wide ≡ less → suc n ≤ (if less then 0 else suc more) → (n ≤ more) × (wide ≤ room)
fits_more true room wide n more is few = let none : ⊥ = grind (arith, few) in absurd none
fits_more false room wide n more is few = (grind (arith, few), grind (arith, nat_tests, is))

-- what fits takes no more than the room
fitting_fits : (before last room n : ℕ) (text : List ℕ) → n ≤ fitting room text → length (escape_behind before last (take n text)) ≤ room
fitting_fits before last room zero text few = grind arith
fitting_fits before last room (suc n) [] few = grind arith
fitting_fits before last room (suc n) (byte ∷ bytes) few =
    let more = fits_more (nat_lt room (width byte)) room (width byte) n (fitting (room - width byte) bytes) refl few in
    let rest = fitting_fits last byte (room - width byte) n bytes (more.0) in
    let here = escaped_width before last byte in
    let both = length-append (escaped before last byte) (escape_behind last byte (take n bytes)) in
    grind (arith, more.1, rest, here, both)

-- a text is cut no later than asked for
earlier : (on : Bool) (before at : ℕ) → before ≤ at → (if on then before else suc at) ≤ suc at
earlier true before at le = grind (arith, le)
earlier false before at le = grind arith

cut_before : (text : List ℕ) (at : ℕ) → cut_at text at ≤ at
cut_before text zero = grind arith
cut_before text (suc at) = earlier (goes_on (slice_index text (suc at))) (cut_at text at) at (cut_before text at)

either : (whole : Bool) (room : ℕ) (text front : List ℕ) → (whole ≡ true → length (escape text) ≤ room) → length (escape front) ≤ room → length (if whole then escape text else escape front ++ codes "...") ≤ room + 3
either true room text front all some = grind (arith, all refl)
either false room text front all some = grind (arith, some, length-append (escape front) (codes "..."))

whole_fits : (room : ℕ) (text : List ℕ) → length text ≤ fitting room text → length (escape text) ≤ room
whole_fits room text whole =
    subst (λ bytes. length (escape bytes) ≤ room) (take_all (length text) text (grind arith)) (fitting_fits 0 0 room (length text) text whole)

-- what is written of a text takes no more than the room, and three dots
pub fitted_fits : (room : ℕ) (text : List ℕ) → length (fitted room text) ≤ room + 3
unfolding fitted shortened
fitted_fits room text =
    either (nat_le (length text) (fitting room text)) room text (take (cut_at text (fitting room text)) text)
    (λ whole. whole_fits room text (grind (arith, nat_tests, whole)))
    (fitting_fits 0 0 room (cut_at text (fitting room text)) text (cut_before text (fitting room text)))

pub put_fits : (out : List ℕ) (room : ℕ) (text : List ℕ) → length (out ++ fitted room text) ≤ length out + (room + 3)
put_fits out room text = grind (arith, fitted_fits room text, length-append out (fitted room text))
