use Rattle.std.proofs.Common.{◌≡◌, length, map, take}
use Rattle.std.specs.Prelude.{filter, nat_le}
use Rattle.mega_keys.specs.Spelling.{index_bytes}
use Rattle.mega_index.proofs.entries.keys_of.Given as goal

abbrev pub invariant-loop-choice : goal.invariant-loop-choice
invariant-loop-choice l =
    l.keys.items ≡ filter (λ k. nat_le (length k) 1024) (map (λ choice. index_bytes l.number l.prefix choice l.key) (take l.choice-index l.chosen))
