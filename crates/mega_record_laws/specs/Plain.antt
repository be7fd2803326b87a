-- Plain lines of a record: those that are read back from their texts.
use Rattle.hex.specs.Hex.{IsBytes}
use Rattle.mega_schema.specs.declared.schema.Schema.{Schema}
use Rattle.mega_transcript.specs.Plain.{IsPlain}
use Rattle.mega_transcript.specs.PlainNames.{IsU8, IsU32}
use Rattle.mega_promises.specs.Served.{Got, Line, Noted, OfClient, OfNode, Peer, Put}

-- a number that its field holds
abbrev pub IsPlainPeer : Peer → Type 0
IsPlainPeer (OfNode node) = IsU8 node
IsPlainPeer (OfClient client) = IsU32 client

abbrev pub IsPlainLine : Schema → Line → Type 0
IsPlainLine schema (Noted item) = IsPlain schema item
IsPlainLine schema (Got from bytes) = IsPlainPeer from × IsBytes bytes
IsPlainLine schema (Put to bytes) = IsPlainPeer to × IsBytes bytes
