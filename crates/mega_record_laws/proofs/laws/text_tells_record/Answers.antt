use Rattle.mega_record_laws.proofs.Records.{record_tells}
use Rattle.mega_record_laws.proofs.laws.text_tells_record.Goals as goal

pub returns : goal.returns
returns c = record_tells
