-- The bytes of contents that are written over, whole or torn.
use Rattle.std.proofs.Common.{◌≡◌, ℕ, ◌+◌, ◌-◌, ◌<◌, ◌≤◌, max, List, ◌++◌, length, get_or, take, drop, sym, ◌∙◌, ap, arith, length-append, length-drop, length-take-le}
use Rattle.std.proofs.lemmas.List.{get_or-take, get_or-drop, get_or_append_left, get_or-append_right}
use Rattle.mega_disk.specs.Images.{overwritten, Torn}
use Rattle.mega_disk.proofs.Steps.{length-overwritten_front}

-- outside of the range a torn write leaves what was there
pub torn_before : (at n : ℕ) (old new : List ℕ) (i : ℕ) → Torn at n old new → i < at → get_or new i 0 ≡ get_or old i 0
torn_before at n old new i torn less = sym (get_or-take at new i 0 less) ∙ ap (λ (l : List ℕ). get_or l i 0) torn.before ∙ get_or-take at old i 0 less

pub torn_after : (at n : ℕ) (old new : List ℕ) (i : ℕ) → Torn at n old new → at + n ≤ i → get_or new i 0 ≡ get_or old i 0
torn_after at n old new i torn past =
    let there : at + n + (i - (at + n)) ≡ i = omega (arith, past) in
    let moved : (l : List ℕ) → get_or (drop (at + n) l) (i - (at + n)) 0 ≡ get_or l i 0 = λ l. get_or-drop (at + n) l (i - (at + n)) 0 ∙ ap (λ (k : ℕ). get_or l k 0) there in
    sym (moved new) ∙ ap (λ (l : List ℕ). get_or l (i - (at + n)) 0) torn.after ∙ moved old

-- and so does a whole one, whose bytes stand in the range
module _ (at : ℕ) (bytes old : List ℕ) (le : at ≤ length old) where
  front_long : length (take at old ++ bytes) ≡ at + length bytes
  front_long = length-overwritten_front at bytes old le

  pub length-over : length (overwritten at bytes old) ≡ max (length old) (at + length bytes)
  length-over = omega (arith, front_long, length-append (take at old ++ bytes) (drop (at + length bytes) old), length-drop (at + length bytes) old)

  pub over_before : (i : ℕ) → i < at → get_or (overwritten at bytes old) i 0 ≡ get_or old i 0
  over_before i less =
      get_or_append_left (take at old ++ bytes) (drop (at + length bytes) old) 0 i (omega (arith, front_long, less))
      ∙ get_or_append_left (take at old) bytes 0 i (omega (arith, length-take-le at old le, less)) ∙ get_or-take at old i 0 less

  pub over_there : (j : ℕ) → j < length bytes → get_or (overwritten at bytes old) (at + j) 0 ≡ get_or bytes j 0
  over_there j less =
      get_or_append_left (take at old ++ bytes) (drop (at + length bytes) old) 0 (at + j) (omega (arith, front_long, less))
      ∙ get_or-append_right (take at old) bytes at (at + j) 0 (length-take-le at old le) (omega arith)
      ∙ ap (λ (k : ℕ). get_or bytes k 0) (let e : at + j - at ≡ j = omega arith in e)

  pub over_after : (i : ℕ) → at + length bytes ≤ i → get_or (overwritten at bytes old) i 0 ≡ get_or old i 0
  over_after i past =
      get_or-append_right (take at old ++ bytes) (drop (at + length bytes) old) (at + length bytes) i 0 front_long past
      ∙ get_or-drop (at + length bytes) old (i - (at + length bytes)) 0
      ∙ ap (λ (k : ℕ). get_or old k 0) (let e : at + length bytes + (i - (at + length bytes)) ≡ i = omega (arith, past) in e)
