use Rattle.std.proofs.Common.{◌∙◌, ap, sym, take_all, length, arith}
use Rattle.mega_backup_rows.proofs.tables.tables_of.Goals as goal

pub returns-then-tables-le64-clause-exact : goal.returns-then-tables-le64-clause-exact
returns-then-tables-le64-clause-exact c = c.as_slice-tables.ensures ∙ sym (take_all 64 c.args.schema.now.tables (omega (arith, c.if-tables-le64.true, ap length c.as_slice-tables.ensures)))
