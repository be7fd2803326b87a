-- What items change of what a tape tells.
use Rattle.std.proofs.Common.{◌≡◌, List, [], ◌∷◌, ◌++◌, refl}
use Rattle.mega_transcript.specs.declared.item.Item.{Item}
use Rattle.mega_transcript.specs.Tape.{onto, newest}

pub onto-append : (xs ys tape : List Item) → onto (xs ++ ys) tape ≡ onto ys (onto xs tape)
onto-append [] ys tape = refl
onto-append (x ∷ xs) ys tape = onto-append xs ys (x ∷ tape)

-- what is added last is newest
pub newest-append : (items : List Item) (item : Item) → newest (items ++ item ∷ []) ≡ item ∷ newest items
newest-append items item = onto-append items (item ∷ []) []
