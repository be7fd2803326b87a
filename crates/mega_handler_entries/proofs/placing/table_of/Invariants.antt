use Rattle.std.proofs.Common.{◌≡◌, ◌+◌, drop}
use Rattle.mega_index.specs.Fitted.{table_in, table_of}
use Rattle.mega_handler_entries.proofs.placing.table_of.Given as goal

abbrev pub invariant-loop-table : goal.invariant-loop-table
invariant-loop-table l = record {
  counted : l.number ≡ l.table-index;
  rest : table_in l.schema (l.number + 1) (drop l.table-index l.tables) l.group l.key ≡ table_of l.schema l.group l.key;
}
