-- The lines of the record that a node keeps of itself, what they put out, and the replies to clients in them.
use Rattle.std.specs.Prelude.{ℕ, List, [], ◌∷◌, ◌++◌, flat_map, map, take, Option, Some, None}
use Rattle.mega_wire.specs.declared.message.Message.{Message}
use Rattle.mega_wire.specs.declared.message.Body.TheVariants.{Reply}
use Rattle.mega_wire.specs.Messages.{message_text}
use Rattle.mega_transcript.specs.declared.item.Item.{Item}

-- who is at the other end: a node, or a client, numbered from 1 in order of first appearance
pub data Peer : Type 0 where
  OfNode : (node : ℕ) → Peer
  OfClient : (client : ℕ) → Peer

-- a line of the record: what the node noted, as on a tape, a datagram that it got, and one that it put out
pub data Line : Type 0 where
  Noted : (item : Item) → Line
  Got : (from : Peer) (bytes : List ℕ) → Line
  Put : (to : Peer) (bytes : List ℕ) → Line

abbrev pub put_out : List Message → List Line
put_out messages = map (λ (m : Message). Put (OfNode m.to) (message_text m)) messages

-- a reply to a client: of its answer the words alone, and of them the first 65,000 bytes
abbrev pub joined : List (List ℕ) → List ℕ
joined [] = []
joined (word ∷ words) = word ++ flat_map (λ (next : List ℕ). 32 ∷ next) words

abbrev pub reply_line : ℕ → ℕ → ℕ → List (List ℕ) → Line
reply_line me client token words = Put (OfClient client) (message_text (record { from = me; to = 0; body = Reply token (take 65000 (joined words)) }))

-- what is put out
abbrev pub put_in : Line → Option (Peer × List ℕ)
put_in (Put to bytes) = Some (to, bytes)
put_in _ = None
