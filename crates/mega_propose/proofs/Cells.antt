-- One more cell in a list of what is sent to each.
use Rattle.std.proofs.Common.{◌≡◌, ℕ, ◌+◌, List, [], ◌∷◌, ◌++◌, map, ap, ◌∙◌, append_assoc, sym, add_comm}
use Rattle.std.specs.List.{range_with_len}
use Rattle.std.proofs.lemmas.List.FromFn.{map-range_with_len_more}

pub one_cell_more : {X : Type 0} (f : ℕ → X) (before : List X) (n : ℕ) → (before ++ map f (range_with_len 1 n)) ++ f (n + 1) ∷ [] ≡ before ++ map f (range_with_len 1 (n + 1))
one_cell_more f before n = append_assoc before (map f (range_with_len 1 n)) (f (n + 1) ∷ []) ∙ ap (λ l. before ++ l) (sym (map-range_with_len_more f 1 n (n + 1) (add_comm 1 n)))
