-- A worked run: node 1 serves, its put's read makes the group valid there, and a current read of that group then asks no other node.
use Rattle.std.specs.Prelude.{List, [], ◌∷◌, map}
use Rattle.mega_outcome.specs.declared.request.Mode.TheVariants.{Current}
use Rattle.mega_tape_laws.specs.of_rules.Examples.{cluster}
use Rattle.mega_tape_laws.specs.of_promises.Runs.{Happening, Standing, Whole, goes_on, opening}
use Rattle.mega_tape_laws.specs.of_promises.Worked.{drain, happens, put_at, read_at, tick}

abbrev pub then_reads : List Happening
then_reads = map happens (tick 1 10 ∷ drain ∷ put_at 1 ∷ drain ∷ read_at 1 Current ∷ [])

-- how a run stands after these events, where no fuse cuts
abbrev pub stands_after : List Happening → Standing
stands_after events = goes_on cluster (λ now me calls. Whole) (opening cluster []) events
