use Rattle.mega_cause_laws.proofs.LogTells.{told_causes}
use Rattle.mega_cause_laws.proofs.laws.lawful_answers_have_their_causes.Goals as goal

pub returns : goal.returns
returns c = told_causes
