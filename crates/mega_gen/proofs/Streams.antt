-- The blocks one after another, and how far they were written.
use Rattle.std.proofs.Common.{◌≡◌, ℕ, zero, suc, ◌+◌, ◌-◌, ◌<◌, ◌≤◌, List, [], ◌∷◌, ◌++◌, length, take, refl, sym, ap, ◌∙◌, subst, arith, append_assoc, append-nil, length-append, Option, None, Result, Ok, Err, min}
use Rattle.std.specs.Io.KnownBytes.{Appends}
use Rattle.std.proofs.KnownBytes.{Appends-trans}
use Rattle.std.proofs.Math.Seq.{take-append_seam, take-append-add}
use Rattle.std.proofs.lemmas.List.{take-append-le}
use Rattle.mega_io.specs.Pieces.{AppendsFront}
use Rattle.mega_io.proofs.Writing.{Written}
use Rattle.mega_gen.specs.Lines.{drain_line}
use Rattle.std.specs.Prelude.{OnErr}
use Rattle.mega_gen.specs.declared.page.Page.{Page}
use Rattle.mega_gen.specs.Pages.{text_of, fill}
use Rattle.mega_gen.specs.Blocks.{ticks, operations, state_after, block, blocks}
use Rattle.mega_gen.proofs.Filling.{take_both, text_both}

take_zero : {A : Type 0} (xs ys : List A) → take 0 xs ≡ take 0 ys
take_zero [] [] = refl
take_zero [] (y ∷ ys) = refl
take_zero (x ∷ xs) [] = refl
take_zero (x ∷ xs) (y ∷ ys) = refl

block_some : (nodes now state : ℕ) → 0 < length (block nodes now state)
block_some nodes now state = omega (arith, length-append (ticks now 1 nodes) (operations nodes (19 - nodes) None state ++ drain_line ∷ []), length-append (operations nodes (19 - nodes) None state) (drain_line ∷ []))

-- more blocks than lines change nothing
enough : (m k n : ℕ) (nodes now state : ℕ) → n ≤ m → n ≤ k → take n (blocks m nodes now state) ≡ take n (blocks k nodes now state)
enough zero k zero nodes now state h g = take_zero [] (blocks k nodes now state)
enough zero k (suc n) nodes now state h g = absurd (omega (arith, h))
enough (suc m) zero zero nodes now state h g = take_zero (blocks (suc m) nodes now state) []
enough (suc m) zero (suc n) nodes now state h g = absurd (omega (arith, g))
enough (suc m) (suc k) n nodes now state h g =
    let first = block nodes now state in
    let after = state_after nodes (19 - nodes) None state in
    let some = block_some nodes now state in
    take_both n first (blocks m nodes (now + 1) after) ∙ ap (λ xs. take n first ++ xs) (enough m k (n - length first) nodes (now + 1) after (omega (arith, some, h)) (omega (arith, some, g))) ∙ sym (take_both n first (blocks k nodes (now + 1) after))

-- what is left to be written: so many lines, from the block after this time on
abbrev pub to_write : ℕ → ℕ → ℕ → ℕ → List ℕ
to_write left nodes now state = text_of (take left (blocks left nodes (now + 1) state))

-- the lines of a block, and what is left behind it
pub block_first : (left nodes now state : ℕ) → 0 < left → to_write left nodes now state ≡ text_of (take left (block nodes (now + 1) state)) ++ to_write (left - length (block nodes (now + 1) state)) nodes (now + 1) (state_after nodes (19 - nodes) None state)
block_first zero nodes now state lt = absurd (omega (arith, lt))
block_first (suc left) nodes now state lt =
    let first = block nodes (now + 1) state in
    let after = state_after nodes (19 - nodes) None state in
    let some = block_some nodes (now + 1) state in
    let fewer = suc left - length first in
    ap text_of (take_both (suc left) first (blocks left nodes (now + 1 + 1) after) ∙ ap (λ xs. take (suc left) first ++ xs) (enough left fewer fewer nodes (now + 1 + 1) after (omega (arith, some)) (omega arith)))
    ∙ text_both (take (suc left) first) (take fewer (blocks fewer nodes (now + 1 + 1) after))

pub less_left : (left nodes now state : ℕ) → 0 < left → left - length (block nodes now state) < left
less_left left nodes now state lt = omega (arith, lt, block_some nodes now state)

-- ---- how far a text was written
shorter : {A : Type 0} (k : ℕ) (xs : List A) → take (min k (length xs)) xs ≡ take k xs
shorter zero [] = refl
shorter zero (x ∷ xs) = let none : min 0 (suc (length xs)) ≡ 0 = omega arith in ap (λ k. take k (x ∷ xs)) none
shorter {A} (suc k) [] = nothing (min (suc k) 0)
  where
    nothing : (n : ℕ) → take {A = A} n [] ≡ []
    nothing zero = refl
    nothing (suc n) = refl
shorter (suc k) (x ∷ xs) = let least : min (suc k) (suc (length xs)) ≡ suc (min k (length xs)) = omega arith in ap (λ n. take n (x ∷ xs)) least ∙ ap (λ ys. x ∷ ys) (shorter k xs)

pub wrote_on : (a b c : Option (List ℕ)) (whole piece rest : List ℕ) → Written a b whole (piece ++ rest) → Appends b c piece → Written a c whole rest
wrote_on a b c whole piece rest w more = record { front = w.front ++ piece; appends = Appends-trans a b c w.front piece w.appends more; whole = w.whole ∙ sym (append_assoc w.front piece rest) }

-- a front of the next piece was written
pub wrote_front : (a b c : Option (List ℕ)) (whole piece rest : List ℕ) → Written a b whole (piece ++ rest) → AppendsFront b c piece → AppendsFront a c whole
wrote_front a b c whole piece rest w more =
    let n = min more.0 (length piece) in
    let short : n ≤ length piece = omega arith in
    let same : take n piece ≡ take more.0 piece = shorter more.0 piece in
    let front : take (length w.front + n) whole ≡ w.front ++ take more.0 piece = ap (take (length w.front + n)) w.whole ∙ take-append-add w.front (piece ++ rest) n ∙ ap (λ xs. w.front ++ xs) (take-append-le n piece rest short ∙ same) in
    (length w.front + n, subst (Appends a c) (sym front) (Appends-trans a b c w.front (take more.0 piece) w.appends more.1))

-- nothing of the next piece was written
pub wrote_no_more : (a b : Option (List ℕ)) (whole rest : List ℕ) → Written a b whole rest → AppendsFront a b whole
wrote_no_more a b whole rest w =
    let front : take (length w.front) whole ≡ w.front = ap (take (length w.front)) w.whole ∙ take-append_seam w.front rest in
    (length w.front, subst (Appends a b) (sym front) w.appends)

pub wrote_all : (a b : Option (List ℕ)) (whole rest : List ℕ) → Written a b whole rest → rest ≡ [] → Appends a b whole
wrote_all a b whole rest w none = let e : whole ≡ w.front = w.whole ∙ ap (λ xs. w.front ++ xs) none ∙ append-nil w.front in subst (Appends a b) (sym e) w.appends

-- a block was added to an empty page: the page is the next piece
pub block_written : (a b : Option (List ℕ)) (whole : List ℕ) (left nodes now state after : ℕ) (page : Page) (cleared : List ℕ) → cleared ≡ [] → 0 < left → page ≡ fill (record { bytes = cleared; left = left }) (block nodes (now + 1) state) → after ≡ state_after nodes (19 - nodes) None state → Written a b whole (to_write left nodes now state)
    → Written a b whole (page.bytes ++ to_write page.left nodes (now + 1) after)
block_written a b whole left nodes now state after page cleared none lt filled reached w =
    let lines = block nodes (now + 1) state in
    let bytes : page.bytes ≡ text_of (take left lines) = ap (λ (p : Page). p.bytes) filled ∙ ap (λ xs. xs ++ text_of (take left lines)) none in
    let fewer : page.left ≡ left - length lines = ap (λ (p : Page). p.left) filled in
    subst (Written a b whole) (block_first left nodes now state lt ∙ (λ i. sym bytes i ++ to_write (sym fewer i) nodes (now + 1) (sym reached i))) w

pub page_less : (left nodes now state : ℕ) (page : Page) (cleared : List ℕ) → 0 < left → page ≡ fill (record { bytes = cleared; left = left }) (block nodes now state) → page.left < left
page_less left nodes now state page cleared lt filled = let fewer : page.left ≡ left - length (block nodes now state) = ap (λ (p : Page). p.left) filled in omega (arith, fewer, less_left left nodes now state lt)

-- ---- a text of two parts
pub front_behind : (a b c : Option (List ℕ)) (piece rest : List ℕ) → Appends a b piece → AppendsFront b c rest → AppendsFront a c (piece ++ rest)
front_behind a b c piece rest first more = (length piece + more.0, subst (Appends a c) (sym (take-append-add piece rest more.0)) (Appends-trans a b c piece (take more.0 rest) first more.1))

pub front_first : (a b : Option (List ℕ)) (piece rest : List ℕ) → AppendsFront a b piece → AppendsFront a b (piece ++ rest)
front_first a b piece rest more =
    let n = min more.0 (length piece) in
    let short : n ≤ length piece = omega arith in
    (n, subst (Appends a b) (sym (take-append-le n piece rest short ∙ shorter more.0 piece)) more.1)

pub on_err : {A E : Type 0} {P Q : Type 0} (r : Result A E) → (P → Q) → OnErr r P → OnErr r Q
on_err (Ok x) f h = tt
on_err (Err e) f h = f h
