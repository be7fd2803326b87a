-- Why a node is served no longer.
use Rattle.std.specs.Prelude.{◌⊎◌, ℕ, ◌≤◌, ◌<◌, ◌^◌}
use Rattle.mega_base.specs.Causes.{Rose}
use Rattle.mega_page.specs.declared.fault.NodeFault.{NodeFault}
use Rattle.mega_page.specs.declared.fault.NodeFault.TheVariants.{BadRecord, DiskFault, Full, NoMemory as NodeNoMemory, Spent, Unformed}
use Rattle.mega_page.specs.declared.fault.ServeFault.{ServeFault}
use Rattle.mega_page.specs.declared.fault.ServeFault.TheVariants.{NoMemory, Node, SinkFault}

-- how often the device of a node's log failed, and that of its rows
abbrev pub Devices : Type 0
Devices = ℕ × ℕ

-- these counts never fall, and where a device failed, its count rose
abbrev pub HaveGone : Devices → Devices → Type 0
HaveGone before now = (before.0 ≤ now.0) × (before.1 ≤ now.1)

abbrev pub HaveFailed : Devices → Devices → Type 0
HaveFailed before now = Rose before.0 now.0 ⊎ Rose before.1 now.1

-- what is said of the devices where a node does not step
abbrev pub IsDueTo : NodeFault → Devices → Devices → Type 0
IsDueTo DiskFault before now = HaveFailed before now
IsDueTo (Full length) before now = 2 ^ 40 < length
IsDueTo (BadRecord number) before now = Unit {0}
IsDueTo Spent before now = Unit {0}
IsDueTo Unformed before now = Unit {0}
IsDueTo NodeNoMemory before now = Unit {0}

-- what is said of the node's devices and of the sink, whose count of faults this is
abbrev pub IsCaused : ServeFault → Devices → Devices → ℕ → ℕ → Type 0
IsCaused (Node fault) before now sink more_sink = IsDueTo fault before now
IsCaused SinkFault before now sink more_sink = Rose sink more_sink
IsCaused NoMemory before now sink more_sink = Unit {0}
