use Rattle.std.proofs.Common.{◌≡◌, ◌+◌, ℕ, List, ◌∷◌, length, drop, max, ◌≤◌}
use Rattle.mega_base.specs.declared.names.GroupId.{GroupId}
use Rattle.mega_entry.specs.declared.content.Content.{Content}
use Rattle.mega_replica.specs.Applying.{writes_through}
use Rattle.mega_replica.specs.Stored.{Tells, stored_with}
use Rattle.mega_replica.specs.Puts.{OnlyPuts}
use Rattle.mega_replica.proofs.storing.store_entry.Given as goal

abbrev pub invariant-loop-index : goal.invariant-loop-index
invariant-loop-index g l = record {
  place : l.stored ≡ l.index;
  within : l.index ≤ max l.fn.stored (length l.writes);
  sum : l.stored + l.left ≡ l.fn.stored + l.most;
  tells : (group : GroupId) (log : GroupId → List Content) (counts : GroupId → ℕ) (entry : Content) (rest : List Content)
      → drop l.entries (log group) ≡ entry ∷ rest → entry.writes ≡ l.writes
      → Tells (g.V.Versions.version l.fn.rows) log (stored_with counts group (writes_through l.entries (log group) + l.fn.stored))
      → Tells (g.V.Versions.version l.rows) log (stored_with counts group (writes_through l.entries (log group) + l.stored));
  only : OnlyPuts g.V.Versions l.fn.rows l.rows;
}
