-- Lists of changes, with one more at their end.
use Rattle.std.proofs.Common.{◌≡◌, ℕ, zero, suc, ◌+◌, ◌-◌, ◌≤◌, min, List, [], ◌∷◌, ◌++◌, length, take, drop, Vec, refl, sym, ◌∙◌, ap, arith, append_assoc, length-append, length-drop, length-take, length-take-le, take-append-drop}
use Rattle.std.proofs.lemmas.List.{take_at, drop_at, drop-drop, same_lists, places}
use Rattle.std.proofs.lemmas.Bool.Decides.{nat_tests}
use Rattle.std.specs.Prelude.{nat_le, true}
use Rattle.std.specs.declared.alloc.Global.{Global}
use Rattle.mega_disk.specs.declared.changes.Change.{Change}
use Rattle.mega_disk.specs.declared.changes.Change.TheVariants.{Written}
use Rattle.mega_disk.specs.Images.{overwritten}
use Rattle.mega_disk.specs.Changes.{undone, all_undone, fill_change, all_filled}

pub all_undone-push : (changes : List Change) (change : Change) (content : List ℕ) → all_undone (changes ++ change ∷ []) content ≡ all_undone changes (undone change content)
all_undone-push [] change content = refl
all_undone-push (first ∷ changes) change content = ap (undone first) (all_undone-push changes change content)

pub all_filled-push : (changes : List Change) (change : Change) (content : List ℕ) → all_filled (changes ++ change ∷ []) content ≡ fill_change change (all_filled changes content)
all_filled-push [] change content = refl
all_filled-push (first ∷ changes) change content = all_filled-push changes change (fill_change first content)

take_past : (xs ys : List ℕ) (m n : ℕ) → m ≡ length xs + n → take m (xs ++ ys) ≡ xs ++ take n ys
take_past [] ys m n is = let same : m ≡ n = omega arith in ap (λ (k : ℕ). take k ys) same
take_past (x ∷ xs) ys zero n is = absurd (omega arith)
take_past (x ∷ xs) ys (suc m) n is = ap (λ (l : List ℕ). x ∷ l) (take_past xs ys m n (omega arith))

module _ (old bytes : List ℕ) (at over : ℕ) (within : at ≤ length old) (many : over ≡ min (length bytes) (length old - at)) where
  abbrev new : List ℕ
  new = overwritten at bytes old

  abbrev rest : List ℕ
  rest = bytes ++ drop (at + length bytes) old

  long : at + over ≤ length old
  long = omega arith

  length-rest : length old - at ≤ length rest
  length-rest = omega (arith, length-append bytes (drop (at + length bytes) old), length-drop (at + length bytes) old)

  -- the old length of the new content
  cut_back : take (length old) new ≡ take at old ++ take (length old - at) rest
  cut_back = ap (take (length old)) (append_assoc (take at old) bytes (drop (at + length bytes) old)) ∙ take_past (take at old) rest (length old) (length old - at) (omega (arith, length-take-le at old within))

  -- behind what was written over it is the old content
  behind : drop over (take (length old - at) rest) ≡ drop (at + over) old
  behind = same_lists _ _ (omega (arith, length-drop over (take (length old - at) rest), length-take (length old - at) rest, length-rest, length-drop (at + over) old)) (λ k d h. grind (arith, places))

  -- writing what was there over it gives the old content
  written_back : (before : List ℕ) → before ≡ take over (drop at old) → overwritten at before (take (length old) new) ≡ old
  written_back before is =
      let count : length before ≡ over = omega (arith, ap length is, length-take over (drop at old), length-drop at old) in
      let front : take at (take (length old) new) ≡ take at old = ap (take at) cut_back ∙ take_at (take at old) (take (length old - at) rest) at (length-take-le at old within) in
      let end : drop (at + length before) (take (length old) new) ≡ drop (at + over) old =
      ap (λ (n : ℕ). drop (at + n) (take (length old) new)) count ∙ ap (drop (at + over)) cut_back
      ∙ sym (drop-drop over at (take at old ++ take (length old - at) rest)) ∙ ap (drop over) (drop_at (take at old) (take (length old - at) rest) at (length-take-le at old within)) ∙ behind in
      ap (λ (l : List ℕ). l ++ before ++ drop (at + length before) (take (length old) new)) front
      ∙ ap (λ (l : List ℕ). take at old ++ l ++ drop (at + length before) (take (length old) new)) is
      ∙ ap (λ (l : List ℕ). take at old ++ take over (drop at old) ++ l) (end ∙ sym (drop-drop over at old))
      ∙ append_assoc (take at old) (take over (drop at old)) (drop over (drop at old))
      ∙ ap (λ (l : List ℕ). take at old ++ l) (take-append-drop over (drop at old))
      ∙ take-append-drop at old

  pub undo_written : (count : ℕ) (before : Vec ℕ Global) → before.items ≡ take over (drop at old) → undone (Written at count before (length old)) new ≡ old
  undo_written count before is =
      let count_is : length before.items ≡ over = omega (arith, ap length is, length-take over (drop at old), length-drop at old) in
      let size : length (take (length old) new) ≡ length old = omega (arith, ap length cut_back, length-append (take at old) (take (length old - at) rest), length-take-le at old within, length-take (length old - at) rest, length-rest) in
      let fits : at + length before.items ≤ length (take (length old) new) = omega (arith, count_is, size, long) in
      let test : nat_le (at + length before.items) (length (take (length old) new)) ≡ true = grind (arith, nat_tests) in
      rw test (written_back before.items is)

  pub undo_write : (count size : ℕ) (before : Vec ℕ Global) (content : List ℕ) → content ≡ new → size ≡ length old → before.items ≡ take over (drop at old) → undone (Written at count before size) content ≡ old
  undo_write count size before content is long is_before =
      ap (undone (Written at count before size)) is ∙ ap (λ (n : ℕ). undone (Written at count before n) new) long ∙ undo_written count before is_before
