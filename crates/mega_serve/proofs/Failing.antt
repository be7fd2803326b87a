-- Devices and sinks only go on, and a fault that came later is told from before on.
use Rattle.std.proofs.Common.{◌≡◌, ◌⊎◌, inl, inr, ℕ, ◌≤◌, arith}
use Rattle.mega_base.specs.Causes.{Rose}
use Rattle.mega_page.specs.declared.fault.NodeFault.{NodeFault}
use Rattle.mega_page.specs.declared.fault.NodeFault.TheVariants.{BadRecord, DiskFault, Full, NoMemory as NodeNoMemory, Spent, Unformed}
use Rattle.mega_page.specs.declared.fault.ServeFault.{ServeFault}
use Rattle.mega_page.specs.declared.fault.ServeFault.TheVariants.{NoMemory, Node, SinkFault}
use Rattle.mega_page.specs.Causes.{Devices, HaveFailed, HaveGone, IsCaused, IsDueTo}

pub gone_nowhere : (devices : Devices) → HaveGone devices devices
gone_nowhere devices = (omega (arith), omega (arith))

pub gone_on : (a b c : Devices) → HaveGone a b → HaveGone b c → HaveGone a c
gone_on a b c one two = (omega (arith, one.0, two.0), omega (arith, one.1, two.1))

rose_later : (a b c : ℕ) → a ≤ b → Rose b c → Rose a c
rose_later a b c before rose = omega (arith, before, rose)

failed_later : (a b c : Devices) → HaveGone a b → HaveFailed b c → HaveFailed a c
failed_later a b c gone (inl rose) = inl (rose_later a.0 b.0 c.0 gone.0 rose)
failed_later a b c gone (inr rose) = inr (rose_later a.1 b.1 c.1 gone.1 rose)

due_later : (fault : NodeFault) (a b c : Devices) → HaveGone a b → IsDueTo fault b c → IsDueTo fault a c
due_later DiskFault a b c gone due = failed_later a b c gone due
due_later (Full length) a b c gone due = due
due_later (BadRecord number) a b c gone due = tt
due_later Spent a b c gone due = tt
due_later Unformed a b c gone due = tt
due_later NodeNoMemory a b c gone due = tt

pub caused_later : (fault : ServeFault) (a b c : Devices) (x y z : ℕ) → HaveGone a b → x ≤ y → IsCaused fault b c y z → IsCaused fault a c x z
caused_later (Node fault) a b c x y z gone more caused = due_later fault a b c gone caused
caused_later SinkFault a b c x y z gone more caused = rose_later x y z more caused
caused_later NoMemory a b c x y z gone more caused = tt
