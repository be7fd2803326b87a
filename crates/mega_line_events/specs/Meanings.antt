-- What the text means with which an operation begins: what is asked for where the text is read again as a line.
use Rattle.mega_schema.specs.declared.schema.Schema.{Schema}
use Rattle.mega_meanings.specs.BuiltIn.{built_in}
use Rattle.mega_line_laws.specs.Meanings.{meaning_in}
use Rattle.mega_shown_laws.specs.of_tape_laws.Writes.{Usage}

-- the handlers are those that the store brings
abbrev pub usage : Schema → Usage
usage schema = record { meaning = meaning_in schema; handlers = λ moment. built_in }
