-- An operation that acts again in a step is about its group, and of the request that acted.
use Rattle.std.specs.Prelude.{◌≡◌, Option, Some, None}
use Rattle.mega_marks.specs.of_node_laws.About.{IsAbout}
use Rattle.mega_outcome.specs.declared.request.Request.{Request}
use Rattle.mega_rules.specs.Operations.{Operation}
use Rattle.mega_answers.specs.declared.pumping.Pumped.{Pumped}
use Rattle.mega_answers.specs.declared.pumping.Pumped.TheVariants.{Again, Done}

abbrev pub IsAsked : Pumped → Request → Type 0
IsAsked (Done action) request = Unit {0}
IsAsked (Again heard) request = (heard.operation).request ≡ request

-- an operation that acts again is about its group
abbrev pub IsNextAbout : Option Operation → Type 0
IsNextAbout None = Unit {0}
IsNextAbout (Some o) = IsAbout o

-- and has the request of the one that acted
abbrev pub IsNextAsked : Option Operation → Request → Type 0
IsNextAsked None request = Unit {0}
IsNextAsked (Some o) request = o.request ≡ request
