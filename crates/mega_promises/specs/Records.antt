-- The record of a served node as text, and calls of one node after another on the same devices.
use Rattle.std.specs.Prelude.{◌≡◌, ℕ, ◌⊎◌, List, [], ◌∷◌, ◌++◌, codes, decimal, flat_map}
use Rattle.hex.specs.Hex.{encode_lower}
use Rattle.mega_cluster.specs.declared.cluster.Cluster.{Cluster}
use Rattle.mega_handler.specs.Named.{Meanings}
use Rattle.mega_outcome.specs.Extends.{Extends}
use Rattle.mega_schema.specs.declared.schema.Schema.{Schema}
use Rattle.mega_transcript.specs.Lines.{line}
use Rattle.mega_transcript.specs.Words.{spaced}
use Rattle.mega_wal.specs.declared.item.JournalItem.{JournalItem}
use Rattle.mega_promises.specs.Served.{Got, IsNodeRun, Line, Noted, OfClient, OfNode, Peer, Put, Turn, Wish}

-- the other end of a datagram, in words: a node's number, or a client's behind the word
abbrev pub peer_words : Peer → List (List ℕ)
peer_words (OfNode node) = decimal node ∷ []
peer_words (OfClient client) = codes "client" ∷ decimal client ∷ []

-- what the node noted as on a tape, and datagrams that it got and put out in hex
abbrev pub record_line : Schema → Line → List ℕ
record_line schema (Noted item) = line schema item
record_line schema (Got from bytes) = codes "got" ++ spaced (peer_words from ++ encode_lower bytes ∷ [])
record_line schema (Put to bytes) = codes "put" ++ spaced (peer_words to ++ encode_lower bytes ∷ [])

abbrev pub record_text : Schema → List Line → List ℕ
record_text schema lines = flat_map (record_line schema) lines

-- a call: the cluster of its header, what clients' objects ask for, the handlers and turns that it was given, and what it wrote, sent and left
pub record NodeCall : Type 0 where
  pub cluster : Cluster
  pub wish : List ℕ → Wish
  pub first : Meanings
  pub turns : List Turn
  pub lines : List Line
  pub sends : List (Peer × List ℕ)
  pub after : List JournalItem

-- each call is a run from the journal that the one before it left
abbrev pub AreNodeCalls : ℕ → List JournalItem → List NodeCall → Type 0
AreNodeCalls me before [] = Unit {0}
AreNodeCalls me before (call ∷ calls) =
    IsNodeRun call.cluster me call.wish call.first before call.turns call.lines call.sends call.after × AreNodeCalls me call.after calls

-- the schema of each call is that of the one before it, or extends it
abbrev pub AreOfSchemas : Schema → List NodeCall → Type 0
AreOfSchemas schema [] = Unit {0}
AreOfSchemas schema (call ∷ calls) = (((call.cluster).schema ≡ schema) ⊎ Extends schema (call.cluster).schema) × AreOfSchemas (call.cluster).schema calls
