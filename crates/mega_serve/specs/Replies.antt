-- The replies to clients, by the items that a step shows.
use Rattle.std.specs.Prelude.{ℕ, List, [], find, Option, take}
use Rattle.mega_base.specs.declared.names.OpId.{OpId}
use Rattle.mega_schema.specs.declared.schema.Schema.{Schema}
use Rattle.mega_wire.specs.declared.message.Body.TheVariants.{Reply as Replies}
use Rattle.mega_wire.specs.Messages.{message_text}
use Rattle.mega_wal.specs.Same.{same_op}
use Rattle.mega_transcript.specs.declared.item.Item.{Item}
use Rattle.mega_transcript.specs.declared.item.Item.TheVariants.{Answer}
use Rattle.mega_promises.specs.Served.{Line, OfClient, Put, Waiting, answered_line}
use Rattle.mega_serve.specs.declared.replying.Reply.{Reply}
use Rattle.mega_serve.specs.declared.waiting.Waiting.{Waiting as Waits}

abbrev pub waiting_of : Waits → Waiting
waiting_of one = record { op = one.op; client = one.client; token = one.token }

abbrev pub waits_for : OpId → List Waits → Option Waits
waits_for op waiting = find (λ (one : Waits). same_op one.op op) waiting

-- the line of the reply that an item brings, where it is the answer of an operation for which a client waits
abbrev pub item_reply : Schema → ℕ → List Waiting → Item → List Line
item_reply schema me waiting (Answer op answer) = answered_line schema me answer (find (λ (one : Waiting). same_op one.op op) waiting)
item_reply schema me waiting _ = []

-- the line of a reply: of its words the first 65,000 bytes
abbrev pub put_reply : ℕ → Reply → Line
put_reply me one = Put (OfClient one.client) (message_text (record { from = me; to = 0; body = Replies one.token (take 65000 one.words) }))
