-- The handlers that the store brings.
use Rattle.std.specs.Prelude.{ℕ, List, [], ◌∷◌, codes}
use Rattle.mega_handler.specs.Effects.{copy_writes, credit_writes}
use Rattle.mega_handler.specs.Named.{Meaning, Meanings}

-- the queues that they serve, where they make this of messages
abbrev pub served_by : Meaning → Meaning → Meanings
served_by credit copy = (codes "credit", credit) ∷ (codes "copy", copy) ∷ []

-- the property under which the key of a root row stands
abbrev pub key_property : ℕ
key_property = 1

abbrev pub built_in : Meanings
built_in = served_by (λ message rows. (credit_writes key_property message.payload rows, [])) (λ message rows. (copy_writes message.payload, []))
