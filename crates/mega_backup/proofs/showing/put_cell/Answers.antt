use Rattle.std.proofs.Common.{rules}
use Rattle.mega_index.specs.Fits.{numbered}
use Rattle.mega_backup.proofs.Cells.{insert_cell}
use Rattle.mega_backup.proofs.showing.put_cell.Goals as goal

pub returns : goal.returns
returns c =
    insert_cell c.args.members.now.entries c.insert.new.self.entries c.in_ok-name.name c.in_ok-value.value c.in-Some.property.now c.args.cell.now.values (numbered c.args.properties.now c.args.cell.now.property)
    c.in_ok-insert.ensures.entries (search rules) (search rules) (search rules)
