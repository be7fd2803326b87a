-- Operations that act one after another, each about its own group, and which of them are served.
use Rattle.std.specs.Prelude.{◌≡◌, [], true}
use Rattle.mega_rules.specs.Operations.{Operation}
use Rattle.mega_rules.specs.Steps.{Heard}
use Rattle.mega_answers.specs.of_node_laws.About.{IsAbout}
use Rattle.mega_answers.specs.of_step_work.Servable.{is_open}

abbrev pub IsHeardAbout : Heard → Type 0
IsHeardAbout t = IsAbout t.operation

abbrev pub IsServable : Operation → Type 0
IsServable o = is_open o.request ≡ true

abbrev pub IsServableHeard : Heard → Type 0
IsServableHeard t = IsServable t.operation

-- what one that heard nothing comes to
abbrev pub unheard : Operation → Heard
unheard o = record { operation = o; sends = [] }
