-- A tape shows what a node met: what it made as a voter at each place, and what it decided.
use Rattle.std.specs.Prelude.{◌≡◌, ℕ, List, Some}
use Rattle.mega_base.specs.declared.names.GroupId.{GroupId}
use Rattle.mega_entry.specs.declared.content.Content.{Content}
use Rattle.mega_tape_laws.specs.of_transcript.declared.item.Item.{Item}
use Rattle.mega_tape_laws.specs.of_transcript.declared.item.Item.TheVariants.{Decide}
use Rattle.mega_tape_laws.specs.of_promises.Items.{number}
use Rattle.mega_tape_laws.specs.of_promises.Promises.{Stands}
use Rattle.mega_tape_laws.specs.of_rules.Met.{Met}
use Rattle.mega_tape_laws.specs.of_rules.Logs.{decided}
use Rattle.mega_tape_laws.specs.of_rules.Voting.{acts}
use Rattle.mega_tape_laws.specs.Places.{Place, acts as acts_on}

pub record Shows (tape : List Item) (node : ℕ) (met : List Met) : Type 0 where
  pub made : (p : Place) → acts met p.group p.position.0 ≡ acts_on tape node p
  pub decides : (group : GroupId) (n : ℕ) (entry : Content) → decided met group n ≡ Some entry → Stands (Decide (number node) group (record { 0 = n }) entry) tape
