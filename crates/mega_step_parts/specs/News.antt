-- The news of a decision.
use Rattle.std.specs.Prelude.{List, [], Option, Some, None}
use Rattle.mega_wire.specs.declared.message.Message.{Message}
use Rattle.mega_rules.specs.Operations.{Setting}
use Rattle.mega_rules.specs.Steps.{Decision, news}

-- what is told of a decision to all other nodes: nothing where the message told it
abbrev pub news_by : Setting → Option Decision → Option Decision → List Message
news_by s None d = news s d
news_by s (Some told) d = []
