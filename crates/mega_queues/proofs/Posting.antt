-- The sends of an entry, one after another.
use Rattle.std.proofs.Common.{◌≡◌, ◌∙◌, ap, ℕ, ◌+◌, List, [], ◌∷◌, ◌++◌, append_assoc}
use Rattle.mega_base.specs.declared.names.GroupId.{GroupId}
use Rattle.mega_entry.specs.declared.content.Send.{Send}
use Rattle.mega_rules.specs.Queues.{Posted, posted}

-- a send as a message
abbrev pub one_posted : GroupId → ℕ → ℕ → Send → Posted
one_posted group position place send =
    record { to = send.to; message = record { name = record { group = group; position = record { 0 = position }; place = place }; queue = send.queue; payload = send.payload } }

-- with one message more, what is left begins at the next place
pub posted_more : (before now : List Posted) (group : GroupId) (position place : ℕ) (send : Send) (sends : List Send) → now ≡ before ++ one_posted group position place send ∷ []
    → now ++ posted group position (place + 1) sends ≡ before ++ posted group position place (send ∷ sends)
posted_more before now group position place send sends is =
    ap (λ l. l ++ posted group position (place + 1) sends) is
    ∙ append_assoc before (one_posted group position place send ∷ []) (posted group position (place + 1) sends)
