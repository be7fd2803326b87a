-- A step is not served only where what an operation asks is not.
use Rattle.std.proofs.Common.{◌≡◌, refl}
use Rattle.mega_actions.specs.of_answers.declared.fault.ActFault.{ActFault}
use Rattle.mega_actions.specs.of_answers.declared.fault.ActFault.TheVariants as act
use Rattle.mega_node_events.specs.declared.fault.StepFault.TheVariants as fault
use Rattle.mega_node_events.specs.Faults.{fault_of}

pub unserved_is : (refused : ActFault) → fault_of refused ≡ fault.Unserved → refused ≡ act.Unserved
unserved_is act.DiskFault is = absurd (cc)
unserved_is (act.Full length) is = absurd (cc)
unserved_is (act.BadRecord number) is = absurd (cc)
unserved_is act.Unserved is = refl
unserved_is act.NoMemory is = absurd (cc)
