-- A run of which cluster, schema, events and tape are such that each of its items is read back from its line.
use Rattle.std.specs.Prelude.{All, List}
use Rattle.mega_cluster.specs.declared.cluster.Cluster.{Cluster}
use Rattle.mega_handler.specs.Named.{Meanings}
use Rattle.mega_transcript.specs.declared.item.Item.{Item}
use Rattle.mega_promises.specs.Runs.{Happening, IsRun}
use Rattle.mega_format_laws.specs.Histories.{IsCluster}
use Rattle.mega_plain_laws.specs.Answers.{IsNamed}
use Rattle.mega_plain_laws.specs.Formed.{AreFormed}
use Rattle.mega_plain_laws.specs.of_field_ranges.Held.{HoldsItem}
use Rattle.mega_tape_laws.specs.Indexed.{IsDeclared}
use Rattle.mega_tape_laws.specs.Writes.{Usage}
use Rattle.mega_run_laws.specs.Usages.{Fits}

-- the schema was declared, and its names tell its tables and properties; each text means the request that begins with it; and the tape's numbers
-- and bytes are those that the program's types hold
pub record IsOfFormat (c : Cluster) (usage : Usage) (first : Meanings) (events : List Happening) (tape : List Item) : Type 0 where
  pub cluster : IsCluster c
  pub named : IsNamed c.schema
  pub declared : IsDeclared c.schema
  pub formed : AreFormed events
  pub meant : Fits usage events
  pub run : IsRun c first events tape
  pub held : All HoldsItem tape
