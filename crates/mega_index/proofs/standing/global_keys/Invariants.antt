use Rattle.std.proofs.Common.{◌≡◌, ◌+◌, ◌++◌, drop}
use Rattle.mega_index.specs.Hints.{global_keys_in}
use Rattle.mega_index.proofs.standing.global_keys.Given as goal

abbrev pub invariant-loop-place : goal.invariant-loop-place
invariant-loop-place l =
    global_keys_in l.schema 1 l.index-items l.key l.row
    ≡ l.keys.items ++ global_keys_in l.schema (l.place + 1) (drop l.place l.index-items) l.key l.row
