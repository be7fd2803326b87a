use Rattle.std.proofs.Common.{◌≡◌, ◌++◌, List, ℕ}
use Rattle.std.specs.Prelude.{filter}
use Rattle.std.specs.Vec.Iter.{into_iter_items}
use Rattle.mega_base.specs.declared.values.Row.{Row}
use Rattle.mega_view.specs.OwnRows.{is_of}
use Rattle.mega_view.proofs.finding.rows_of.Given as goal

abbrev pub invariant-loop-key : goal.invariant-loop-key
invariant-loop-key l =
    l.kept.items ++ filter (λ (e : List ℕ × Row). is_of l.schema l.number l.table l.group e.1) (into_iter_items l.key-iterator)
    ≡ filter (λ (e : List ℕ × Row). is_of l.schema l.number l.table l.group e.1) (into_iter_items l.initial.key-iterator)
