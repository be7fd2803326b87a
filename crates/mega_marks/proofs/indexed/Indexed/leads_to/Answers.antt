use Rattle.std.proofs.Common.{[], refl}
use Rattle.mega_marks.proofs.indexed.Indexed.leads_to.Goals as goal

pub returns-then-not-lead_to : goal.returns-then-not-lead_to
returns-then-not-lead_to c schema met old are = record { from = []; at = (c.new.ensures.marked schema met).at; leads = refl }
