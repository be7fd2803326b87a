use Rattle.std.proofs.Common.{◌≡◌, ◌++◌, map, ℕ, List}
use Rattle.mega_outcome.specs.declared.answer.Shown.{Shown}
use Rattle.mega_handler_entries.proofs.listing.listed.Given as goal

abbrev pub invariant-loop-key : goal.invariant-loop-key
invariant-loop-key l = l.rows.items ++ map (λ (e : List ℕ × Shown). (e.0, e.1.row)) l.key-iterator ≡ map (λ (e : List ℕ × Shown). (e.0, e.1.row)) l.initial.key-iterator
