use Rattle.mega_line_laws.proofs.Texts.{begun_request}
use Rattle.mega_line_laws.proofs.laws.begins_have_compact_texts.Goals as goal

pub returns : goal.returns
returns c = begun_request
