use Rattle.mega_transcript_reader.proofs.Reparse.{found_by, only_by}
use Rattle.mega_transcript_reader.proofs.parsing.parse.Goals as goal

pub returns : goal.returns
returns c = record {
  found = found_by c.args.schema.now c.args.text.now c.parsed.result c.parsed.ensures;
  only = only_by c.args.schema.now c.args.text.now c.parsed.result c.parsed.ensures;
  exact = c.parsed.ensures;
}
