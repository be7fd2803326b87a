use Rattle.mega_tape_laws.proofs.Changes.{longer_text_extends}
use Rattle.mega_tape_laws.proofs.growing.longer_texts_extend_schemas.Goals as goal

pub returns : goal.returns
returns c = longer_text_extends
