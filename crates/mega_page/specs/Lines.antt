-- The record of a served node as text: a line for each line of the record.
use Rattle.std.specs.Prelude.{ℕ, List, [], ◌∷◌, ◌++◌, codes, decimal}
use Rattle.std.specs.List.{flat_map}
use Rattle.hex.specs.Hex.{encode_lower}
use Rattle.mega_link.specs.declared.peer.Peer.{Peer as LinkPeer}
use Rattle.mega_link.specs.declared.peer.Peer.TheVariants.{Client, Node}
use Rattle.mega_link.specs.Datagrams.{Datagram}
use Rattle.mega_schema.specs.declared.schema.Schema.{Schema}
use Rattle.mega_transcript.specs.Lines.{line}
use Rattle.mega_transcript.specs.Recorded.{Got, Line, Noted, OfClient, OfNode, Peer, Put}

-- who is at the other end of a link
abbrev pub peer_of : LinkPeer → Peer
peer_of (Node node) = OfNode node.0
peer_of (Client client) = OfClient client

abbrev pub datagram_of : Datagram → Peer × List ℕ
datagram_of one = (peer_of one.0, one.1)

-- a node by its number, and a client by its own
abbrev pub peer_text : Peer → List ℕ
peer_text (OfNode node) = 32 ∷ decimal node
peer_text (OfClient client) = (32 ∷ codes "client") ++ 32 ∷ decimal client

abbrev pub datagram_line : List ℕ → Peer → List ℕ → List ℕ
datagram_line word peer bytes = word ++ (peer_text peer ++ 32 ∷ (encode_lower bytes ++ 10 ∷ []))

abbrev pub line_text : Schema → Line → List ℕ
line_text schema (Noted item) = line schema item
line_text schema (Got from bytes) = datagram_line (codes "got") from bytes
line_text schema (Put to bytes) = datagram_line (codes "put") to bytes

abbrev pub record_text : Schema → List Line → List ℕ
record_text schema lines = flat_map (line_text schema) lines
