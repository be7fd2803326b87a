use Rattle.std.proofs.Common.{◌≡◌, drop}
use Rattle.mega_transcript.specs.Reading.{digits_on}
use Rattle.mega_transcript_reader.proofs.reading.number_of.Given as goal

abbrev pub invariant-loop-byte : goal.invariant-loop-byte
invariant-loop-byte l = digits_on l.most l.number (drop l.byte-index l.word) ≡ digits_on l.most 0 l.word
