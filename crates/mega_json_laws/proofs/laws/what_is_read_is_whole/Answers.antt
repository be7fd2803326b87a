use Rattle.mega_json_laws.proofs.Whole.{read_whole}
use Rattle.mega_json_laws.proofs.laws.what_is_read_is_whole.Goals as goal

pub returns : goal.returns
returns c = read_whole
