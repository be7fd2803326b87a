-- A list that is filled piece by piece.
use Rattle.std.proofs.Common.{◌≡◌, ℕ, ◌+◌, ◌-◌, ◌≤◌, List, ◌++◌, length, take, drop, sym, ◌∙◌, ap, arith, append_assoc, length-append, length-take-le, length-take, length-drop}
use Rattle.std.specs.Prelude.{slice_range}
use Rattle.std.proofs.lemmas.List.{take_at}
use Rattle.std.proofs.Math.Seq.{take-add}
use borrow.Rule.Slice.PartMut.{put_mid, post_of}

pub filled_more : (file bytes piece : List ℕ) (at n k : ℕ) → at + n ≤ length file → at + n ≤ length bytes → k ≡ n → take at bytes ≡ take at file → piece ≡ slice_range file at (at + n) → take (at + n) (put_mid at k bytes piece) ≡ take (at + n) file
filled_more file bytes piece at n k within room is front read =
    let count : at + n - at ≡ n = omega arith in
    let piece_is : piece ≡ take n (drop at file) = read ∙ ap (λ (m : ℕ). take m (drop at file)) count in
    let long : length (take at bytes ++ piece) ≡ at + n =
    omega (arith, length-append (take at bytes) piece, length-take-le at bytes (omega arith), ap length piece_is, length-take n (drop at file), length-drop at file) in
    ap (take (at + n)) (sym (append_assoc (take at bytes) piece (post_of at k bytes)))
    ∙ take_at (take at bytes ++ piece) (post_of at k bytes) (at + n) long
    ∙ ap (λ (l : List ℕ). l ++ piece) front
    ∙ ap (λ (l : List ℕ). take at file ++ l) piece_is
    ∙ sym (take-add at n file)

pub piece_read : (file seen bytes piece : List ℕ) (at n : ℕ) → seen ≡ file → at + n ≤ length bytes → piece ≡ slice_range seen at (at + length (take (at + n - at) (drop at bytes))) → piece ≡ slice_range file at (at + n)
piece_read file seen bytes piece at n same room read =
    let count : length (take (at + n - at) (drop at bytes)) ≡ n = omega (arith, length-take (at + n - at) (drop at bytes), length-drop at bytes) in
    read ∙ ap (λ (m : ℕ). slice_range seen at (at + m)) count ∙ ap (λ (l : List ℕ). slice_range l at (at + n)) same
