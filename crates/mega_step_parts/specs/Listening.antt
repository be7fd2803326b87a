-- What an open operation comes to that hears nothing of a message.
use Rattle.std.specs.Prelude.{◌≡◌, [], false}
use Rattle.mega_rules.specs.Operations.{Operation}
use Rattle.mega_rules.specs.Steps.{Heard}
use Rattle.mega_wire.specs.declared.message.Body.{Body}
use Rattle.mega_step_choices.specs.Hearing.{is_for}

abbrev pub unheard : Operation → Heard
unheard o = record { operation = o; sends = [] }

-- a message is for another, or for none
abbrev pub IsPassedBy : Body → Operation → Type 0
IsPassedBy body o = is_for o.id body ≡ false
