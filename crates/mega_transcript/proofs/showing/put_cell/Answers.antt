use Rattle.std.proofs.Common.{rules}
use Rattle.mega_schema.specs.Lookup.{property_at}
use Rattle.mega_transcript.proofs.Cells.{insert_cell}
use Rattle.mega_transcript.proofs.showing.put_cell.Goals as goal

pub returns : goal.returns
returns c =
    insert_cell c.args.members.now.entries c.insert.new.self.entries c.in_ok-name.name c.in_ok-value.value c.in-Some.property.now c.args.cell.now.values (property_at c.args.properties.now c.args.cell.now.property)
    c.in_ok-insert.ensures.entries (search rules) (search rules) (search rules) (search rules)
