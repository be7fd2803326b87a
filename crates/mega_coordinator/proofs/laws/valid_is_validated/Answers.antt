use Rattle.mega_coordinator.proofs.Validity.{validated_above}
use Rattle.mega_coordinator.proofs.laws.valid_is_validated.Goals as goal

pub returns : goal.returns
returns c = validated_above
