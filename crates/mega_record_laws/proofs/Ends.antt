-- A line feed stands at the end of a line of a record alone.
use Rattle.std.proofs.Common.{ℕ, List, [], ◌∷◌, ◌++◌, refl, codes}
use Rattle.hex.specs.Hex.{encode_lower}
use Rattle.mega_schema.specs.declared.schema.Schema.{Schema}
use Rattle.mega_transcript_reader.proofs.LineEnds.{IsLine, NoEnd, NoEnds, hex, line_told, told, u32, u8}
use Rattle.mega_promises.specs.Served.{Got, Line, Noted, OfClient, OfNode, Peer, Put}
use Rattle.mega_promises.specs.Records.{peer_words, record_line}
use Rattle.mega_record_laws.specs.Plain.{IsPlainLine, IsPlainPeer}

peer_told : (peer : Peer) (last : List ℕ) → IsPlainPeer peer → NoEnd last → NoEnds (peer_words peer ++ last ∷ [])
peer_told (OfNode node) last fit f = (u8 node fit, (f, tt))
peer_told (OfClient client) last fit f = (refl, (u32 client fit, (f, tt)))

pub record_line_told : (schema : Schema) (one : Line) → IsPlainLine schema one → IsLine (record_line schema one)
record_line_told schema (Noted item) fit = line_told schema item fit
record_line_told schema (Got from bytes) fit = told (codes "got") (peer_words from ++ encode_lower bytes ∷ []) refl (peer_told from (encode_lower bytes) fit.0 (hex bytes fit.1))
record_line_told schema (Put to bytes) fit = told (codes "put") (peer_words to ++ encode_lower bytes ∷ []) refl (peer_told to (encode_lower bytes) fit.0 (hex bytes fit.1))
