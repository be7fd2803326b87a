use Rattle.std.proofs.Common.{◌≡◌, drop}
use Rattle.serde_json.specs.Data.{no_members}
use Rattle.serde_json.specs.View.{members_view}
use Rattle.mega_backup.specs.Spelling.{cells_members}
use Rattle.mega_backup.proofs.showing.cells_json.Given as goal

abbrev pub invariant-loop-cell : goal.invariant-loop-cell
invariant-loop-cell l = cells_members l.properties (drop l.cell-index l.cells) (members_view l.members.entries) ≡ cells_members l.properties l.cells no_members
