-- The messages of a client: the request that it sends, and the reply that it waits for.
use Rattle.std.specs.Prelude.{ℕ, ◌==◌, if◌then◌else◌, List, Option, Some, None, Result, Ok, Err}
use Rattle.mega_base.specs.Reading.{whole_of}
use Rattle.mega_link.specs.declared.peer.Peer.{Peer}
use Rattle.mega_link.specs.declared.peer.Peer.TheVariants.{Node, Client}
use Rattle.mega_link.specs.Datagrams.{Datagram}
use Rattle.mega_wire.specs.declared.message.Body.{Body}
use Rattle.mega_wire.specs.declared.message.Body.TheVariants.{Request, Reply}
use Rattle.mega_wire.specs.declared.message.Message.{Message}
use Rattle.mega_wire.specs.Messages.{message_at, message_text}

-- the message by which a client asks a node, under a token
abbrev pub request_of : ℕ → ℕ → List ℕ → Message
request_of node token json = record { from = 0; to = node; body = Request token json }

abbrev pub request_text : ℕ → ℕ → List ℕ → List ℕ
request_text node token json = message_text (request_of node token json)

-- the text of a reply under this token
abbrev pub text_under : ℕ → Body → Option (List ℕ)
text_under token (Reply other text) = if other == token then Some text else None
text_under token _ = None

-- from this node
abbrev pub reply_of : ℕ → ℕ → Message → Option (List ℕ)
reply_of node token m = if m.from == node then text_under token m.body else None

abbrev pub reply_read : ℕ → ℕ → Result Message ℕ → Option (List ℕ)
reply_read node token (Ok m) = reply_of node token m
reply_read node token (Err at) = None

abbrev pub reply_from : ℕ → ℕ → Peer → List ℕ → Option (List ℕ)
reply_from node token (Node id) bytes = if id.0 == node then reply_read node token (whole_of message_at bytes) else None
reply_from node token (Client number) bytes = None

-- in what a receive gave
abbrev pub reply_in : ℕ → ℕ → Option Datagram → Option (List ℕ)
reply_in node token None = None
reply_in node token (Some datagram) = reply_from node token datagram.0 datagram.1
