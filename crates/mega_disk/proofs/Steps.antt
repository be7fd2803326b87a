-- What single changes leave, also of contents whose ranges are filled.
use Rattle.std.proofs.Common.{◌≡◌, ℕ, ◌+◌, ◌-◌, ◌≤◌, List, ◌++◌, length, take, drop, refl, sym, ◌∙◌, ap, arith, append_assoc, length-append, length-drop, length-take-le}
use Rattle.std.proofs.lemmas.List.{take_at, drop_at, take-take, take_all}
use Rattle.mega_disk.specs.Images.{overwritten, Torn, Cut}
use Rattle.mega_disk.specs.Changes.{filled}
use Rattle.mega_disk.proofs.Filled.{length-filled, take-filled, take-filled_front, drop-filled, drop-filled_behind}

pub torn_same : (at count : ℕ) (content : List ℕ) → Torn at count content content
torn_same at count content = record { before = refl; after = refl; no_shorter = omega arith; no_longer = omega arith }

pub cut_same : (size : ℕ) (content : List ℕ) → Cut size content content
cut_same size content = record { no_shorter = refl; front = take_all (length content) content (omega arith) }

pub length-overwritten_front : (at : ℕ) (bytes content : List ℕ) → at ≤ length content → length (take at content ++ bytes) ≡ at + length bytes
length-overwritten_front at bytes content le = omega (arith, length-append (take at content) bytes, length-take-le at content le)

-- a write that is whole is one that a crash may leave
pub torn_written : (at : ℕ) (bytes content : List ℕ) → at ≤ length content → Torn at (length bytes) content (overwritten at bytes content)
torn_written at bytes content le =
    let front = take at content in
    let end = drop (at + length bytes) content in
    let long = length-take-le at content le in
    let whole = length-overwritten_front at bytes content le in
    record {
      before = ap (take at) (append_assoc front bytes end) ∙ take_at front (bytes ++ end) at long;
      after = drop_at (front ++ bytes) end (at + length bytes) whole;
      no_shorter = omega (arith, whole, length-append (front ++ bytes) end, length-drop (at + length bytes) content);
      no_longer = omega (arith, whole, length-append (front ++ bytes) end, length-drop (at + length bytes) content);
    }

pub cut_taken : (size : ℕ) (content : List ℕ) → size ≤ length content → Cut size content (take size content)
cut_taken size content le = record {
  no_shorter = take-take size size content (omega arith);
  front = ap (λ (n : ℕ). take n content) (length-take-le size content le);
}

-- filling a range keeps such steps
pub torn_filled : (at count a m : ℕ) (old new : List ℕ) → Torn a m old new → Torn a m (filled at count old) (filled at count new)
torn_filled at count a m old new torn = record {
  before = take-filled a at count new ∙ ap (filled at count) torn.before ∙ sym (take-filled a at count old);
  after = drop-filled (a + m) at count (at - (a + m)) (count - ((a + m) - at)) new refl refl
      ∙ ap (filled (at - (a + m)) (count - ((a + m) - at))) torn.after
      ∙ sym (drop-filled (a + m) at count (at - (a + m)) (count - ((a + m) - at)) old refl refl);
  no_shorter = omega (arith, torn.no_shorter, length-filled at count old, length-filled at count new);
  no_longer = omega (arith, torn.no_longer, length-filled at count old, length-filled at count new);
}

pub cut_filled : (at count size : ℕ) (old new : List ℕ) → Cut size old new → Cut size (filled at count old) (filled at count new)
cut_filled at count size old new cut = record {
  no_shorter = take-filled size at count new ∙ ap (filled at count) cut.no_shorter ∙ sym (take-filled size at count old);
  front = ap (λ (n : ℕ). take n (filled at count old)) (length-filled at count new) ∙ take-filled (length new) at count old ∙ ap (filled at count) cut.front;
}

-- and so does filling the range of the write itself
pub torn_fill : (at count : ℕ) (old new : List ℕ) → Torn at count old new → Torn at count old (filled at count new)
torn_fill at count old new torn = record {
  before = take-filled_front at count new ∙ torn.before;
  after = drop-filled_behind at count new ∙ torn.after;
  no_shorter = omega (arith, torn.no_shorter, length-filled at count new);
  no_longer = omega (arith, torn.no_longer, length-filled at count new);
}
