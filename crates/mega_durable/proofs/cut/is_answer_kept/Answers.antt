use Rattle.std.proofs.Common.{◌≡◌, ap}
use Rattle.mega_promises.specs.Runs.{is_durable}
use Rattle.mega_durable.proofs.cut.is_answer_kept.Goals as goal

pub returns : goal.returns
returns c = ap is_durable c.answered.view_is
