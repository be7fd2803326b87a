-- How the record of a served node is read: its lines are those that a line feed ends, and each is read by its first word.
use Rattle.std.specs.Prelude.{ℕ, ◌==◌, ◌++◌, if◌then◌else◌, List, [], ◌∷◌, codes, Option, Some, None, option_map}
use Rattle.std.specs.Result.{result_ok}
use Rattle.mega_io.specs.TextLines.{ended_lines}
use Rattle.mega_schema.specs.declared.schema.Schema.{Schema}
use Rattle.mega_syntax.specs.Names.{same}
use Rattle.mega_transcript.specs.Reading.{Field, Read, hex_field, made, two, u8_field, u32_field}
use Rattle.mega_transcript_reader.specs.ReadingItems.{parsed}
use Rattle.mega_promises.specs.Served.{Got, Line, Noted, OfClient, OfNode, Peer, Put}
use Rattle.mega_promises.specs.Records.{record_line}

-- what stands behind a front of a text, where the text has this front
abbrev pub behind : List ℕ → List ℕ → Option (List ℕ)
behind [] text = Some text
behind (b ∷ front) [] = None
behind (b ∷ front) (c ∷ text) = if b == c then behind front text else None

-- a node by its number, or `client` and its number
abbrev pub peer_by : ℕ → List ℕ → Option (List ℕ) → Read Peer
peer_by end left (Some number) = made OfClient u32_field end number
peer_by end left None = made OfNode u8_field end left

unfoldable pub peer_field : Field Peer
peer_field end left = peer_by end left (behind (codes "client ") left)

-- a datagram: the peer, and the bytes in hex
unfoldable pub datagram_field : Field (Peer × List ℕ)
datagram_field = two 32 peer_field hex_field

abbrev pub datagram_line : (Peer → List ℕ → Line) → List ℕ → Option Line
datagram_line make left = option_map (λ (one : (Peer × List ℕ) × List ℕ). make one.0.0 one.0.1) (result_ok (datagram_field 10 left))

-- what a line is taken for: a datagram that was got or put, behind that word, or else an item
abbrev pub line_by : Schema → List ℕ → Option (List ℕ) → Option (List ℕ) → Option Line
line_by schema text (Some left) put = datagram_line Got left
line_by schema text None (Some left) = datagram_line Put left
line_by schema text None None = option_map Noted (result_ok (parsed schema text))

abbrev pub taken_for : Schema → List ℕ → Option Line
taken_for schema text = line_by schema text (behind (codes "got ") text) (behind (codes "put ") text)

-- a line is read where the text is the one that is written for it
abbrev pub if_written : Schema → List ℕ → Option Line → Option Line
if_written schema text None = None
if_written schema text (Some line) = if same (record_line schema line) text then Some line else None

abbrev pub read_line : Schema → List ℕ → Option Line
read_line schema text = if_written schema text (taken_for schema text)

-- a record is read where each of its lines is; what stands behind its last line feed is no line yet
abbrev pub and_more : Option Line → Option (List Line) → Option (List Line)
and_more None more = None
and_more (Some line) None = None
and_more (Some line) (Some lines) = Some (line ∷ lines)

abbrev pub read_lines : Schema → List (List ℕ) → Option (List Line)
read_lines schema [] = Some []
read_lines schema (text ∷ texts) = and_more (read_line schema (text ++ 10 ∷ [])) (read_lines schema texts)

abbrev pub read_record : Schema → List ℕ → Option (List Line)
read_record schema text = read_lines schema (ended_lines text)
