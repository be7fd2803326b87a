use Rattle.mega_backup_rows.proofs.Numbered.{numbered_there}
use Rattle.mega_backup_rows.proofs.tables.table_of.Goals as goal

pub is_key_of-requires : goal.is_key_of-requires
is_key_of-requires c =
    numbered_there c.args.schema.now.tables c.tables_of-table-items.result.now c.loop-place.place c.table-item.result c.tables_of-table-items.ensures.exact c.loop-place-test.true c.table-item.is
