-- Writes that follow one another.
use Rattle.std.proofs.Common.{◌≡◌, ℕ, ◌+◌, ◌-◌, ◌≤◌, List, ◌++◌, length, take, drop, sym, ◌∙◌, ap, arith, append_assoc, length-append, length-take-le, length-drop}
use Rattle.std.specs.Prelude.{slice_range}
use Rattle.std.proofs.lemmas.List.{take_at, drop_at, drop-drop, take-take}
use Rattle.std.proofs.Math.Seq.{take-add}
use Rattle.mega_disk.specs.Images.{overwritten, Torn}

-- a torn write within the range of an earlier one
pub torn_within : (at done k n : ℕ) (file mid new : List ℕ) → done + k ≤ n → Torn at n file mid → Torn (at + done) k mid new → Torn at n file new
torn_within at done k n file mid new le first second = record {
  before = sym (take-take at (at + done) new (omega arith)) ∙ ap (take at) second.before ∙ take-take at (at + done) mid (omega arith) ∙ first.before;
  after = later new ∙ ap (drop (n - (done + k))) second.after ∙ sym (later mid) ∙ first.after;
  no_shorter = omega (arith, first.no_shorter, second.no_shorter);
  no_longer = omega (arith, first.no_longer, second.no_longer);
}
  where
    later : (l : List ℕ) → drop (at + n) l ≡ drop (n - (done + k)) (drop (at + done + k) l)
    later l = ap (λ (m : ℕ). drop m l) (omega arith) ∙ sym (drop-drop (n - (done + k)) (at + done + k) l)

-- the next piece
pub written_more : (at done k : ℕ) (bytes file seen : List ℕ) → at ≤ length file → done + k ≤ length bytes → seen ≡ overwritten at (take done bytes) file
    → overwritten (at + done) (slice_range bytes done (done + k)) seen ≡ overwritten at (take (done + k) bytes) file
written_more at done k bytes file seen le room is =
    ap (overwritten (at + done) piece) is ∙ ap (λ (l : List ℕ). overwritten (at + done) l (x ++ y)) piece_is
    ∙ ap (λ (l : List ℕ). l ++ more ++ drop (at + done + length more) (x ++ y)) (take_at x y (at + done) (omega (arith, x_long)))
    ∙ ap (λ (l : List ℕ). x ++ more ++ l) behind
    ∙ ap (λ (l : List ℕ). l ++ drop (at + length (take (done + k) bytes)) file) (append_assoc (take at file) (take done bytes) more ∙ ap (λ (l : List ℕ). take at file ++ l) (sym (take-add done k bytes)))
  where
    piece : List ℕ
    piece = slice_range bytes done (done + k)

    more : List ℕ
    more = take k (drop done bytes)

    piece_is : piece ≡ more
    piece_is = ap (λ (m : ℕ). take m (drop done bytes)) (omega arith)

    front_long : length (take done bytes) ≡ done
    front_long = length-take-le done bytes (omega arith)

    x : List ℕ
    x = take at file ++ take done bytes

    y : List ℕ
    y = drop (at + length (take done bytes)) file

    x_long : length x ≡ at + done
    x_long = omega (arith, length-append (take at file) (take done bytes), length-take-le at file le, front_long)

    more_long : length more ≡ k
    more_long = length-take-le k (drop done bytes) (omega (arith, length-drop done bytes))

    both_long : length (take (done + k) bytes) ≡ done + k
    both_long = length-take-le (done + k) bytes room

    behind : drop (at + done + length more) (x ++ y) ≡ drop (at + length (take (done + k) bytes)) file
    behind =
        ap (λ (m : ℕ). drop m (x ++ y)) (omega (arith, more_long))
        ∙ sym (drop-drop k (at + done) (x ++ y))
        ∙ ap (drop k) (drop_at x y (at + done) (omega (arith, x_long)))
        ∙ drop-drop k (at + length (take done bytes)) file
        ∙ ap (λ (m : ℕ). drop m file) (omega (arith, front_long, both_long))

pub piece_torn : (at done count : ℕ) (bytes file mid new : List ℕ) → done + count ≤ length bytes → Torn at (length bytes) file mid → Torn (at + done) (length (take (done + count - done) (drop done bytes))) mid new → Torn at (length bytes) file new
piece_torn at done count bytes file mid new room first second =
    torn_within at done (length (take (done + count - done) (drop done bytes))) (length bytes) file mid new (omega (arith, length-take-le (done + count - done) (drop done bytes) (omega (arith, length-drop done bytes)))) first second

pub piece_written : (at done count : ℕ) (bytes file seen new : List ℕ) → at ≤ length file → done + count ≤ length bytes → seen ≡ overwritten at (take done bytes) file
    → new ≡ overwritten (at + done) (take (done + count - done) (drop done bytes)) seen → new ≡ overwritten at (take (done + count) bytes) file
piece_written at done count bytes file seen new le room is written = written ∙ written_more at done count bytes file seen le room is
