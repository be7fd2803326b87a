-- The entry by which an operation handles a message, under meanings.
use Rattle.mega_base.specs.declared.names.GroupId.{GroupId}
use Rattle.mega_base.specs.declared.names.OpId.{OpId}
use Rattle.mega_entry.specs.declared.content.Content.{Content}
use Rattle.mega_entry.specs.declared.content.Enter.{Enter}
use Rattle.mega_handler.specs.Effects.{handle_entry, handled}
use Rattle.mega_handler.specs.Named.{Meanings, effect_by, meaning}
use Rattle.mega_index.specs.Rows.{Listed}
use Rattle.mega_schema.specs.declared.schema.Schema.{Schema}

-- of what its handler makes of it and of the rows of the group's tables, what fits the schema and the group
abbrev pub made_by : Schema → Meanings → OpId → GroupId → Enter → Listed → Content
made_by schema h op group message rows = handle_entry op message.name (handled schema group rows (effect_by (meaning h message.queue) message rows))
