use Rattle.std.proofs.Common.{◌≡◌, refl, sym}
use Rattle.mega_operations.specs.Whole.{whole}
use Rattle.mega_pumps.proofs.visiting.visit_of.Goals as goal

pub returns-clause-made : goal.returns-clause-made
returns-clause-made g c me h now phase tells leased = c.in_ok-made.ensures me h now (whole c.args.kept.now phase) refl (sym c.as_slice-seen.ensures) tells leased
