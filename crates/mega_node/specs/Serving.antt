-- The turns of a node that started, and why it is served no longer.
use Rattle.std.specs.Prelude.{ℕ, ◌<◌, ◌^◌, List, Option}
use Rattle.mega_base.specs.Causes.{Rose}
use Rattle.mega_cluster.specs.declared.cluster.Cluster.{Cluster}
use Rattle.mega_server.specs.of_core.of_step_parts.declared.note.Note.{Note}
use Rattle.mega_handler.specs.Named.{Meaning, Meanings}
use Rattle.mega_link.specs.Datagrams.{Datagram}
use Rattle.mega_meanings.specs.Means.{Means}
use Rattle.mega_promises.specs.Runs.{setting}
use Rattle.mega_promises.specs.Served.{Served}
use Rattle.mega_serve.specs.of_page.declared.fault.NodeFault.{NodeFault}
use Rattle.mega_serve.specs.of_page.declared.fault.NodeFault.TheVariants as node
use Rattle.mega_serve.specs.of_page.declared.fault.ServeFault.{ServeFault}
use Rattle.mega_serve.specs.of_page.declared.fault.ServeFault.TheVariants as serve
use Rattle.mega_serve.specs.declared.steps.Steps.{Ghosts as StepsGhosts}
use Rattle.mega_serve.specs.declared.waiting.Waiting.{Waiting}
use Rattle.mega_serve.specs.Pages.{GoesOn, Stops}
use Rattle.mega_serve.specs.Causes.{Devices, HaveFailed}
use Rattle.mega_serve.specs.Turns.{HasBegun, HasTurned, IsServing, MayServe, turns_of}
use Rattle.mega_node.specs.declared.stop.Stop.{Stop}
use Rattle.mega_node.specs.declared.stop.Stop.TheVariants.{Device, Full, NoMemory, Sink, Unformed}
use Rattle.mega_node.specs.Calls.{served_over, started_over}
use Rattle.mega_node.specs.Outside.{Outside}
use Rattle.mega_node.specs.Starting.{HasStarted}

abbrev pub node_stop : NodeFault → Stop
node_stop node.DiskFault = Device
node_stop (node.Full length) = Full length
node_stop (node.BadRecord number) = Unformed
node_stop node.Spent = Unformed
node_stop node.Unformed = Unformed
node_stop node.NoMemory = NoMemory

abbrev pub serve_stop : ServeFault → Stop
serve_stop (serve.Node fault) = node_stop fault
serve_stop serve.SinkFault = Sink
serve_stop serve.NoMemory = NoMemory

-- what is said of the node's devices, and of the sink, whose count of faults this is
abbrev pub IsDue : Stop → Devices → Devices → ℕ → ℕ → Type 0
IsDue Device before now sink more_sink = HaveFailed before now
IsDue (Full length) before now sink more_sink = 2 ^ 40 < length
IsDue Sink before now sink more_sink = Rose sink more_sink
IsDue Unformed before now sink more_sink = Unit {0}
IsDue NoMemory before now sink more_sink = Unit {0}
IsDue _ before now sink more_sink = ⊥

-- of each meaning of the handlers under which the turns may happen
abbrev pub AtEachRun : {S : Type 0} → StepsGhosts S → (List ℕ → Option Meaning) → Cluster → ℕ → List (List ℕ) → List (ℕ × Option Datagram) → (Served → Type 0) → Type 0
AtEachRun steps makes c number found given Is =
    (h : Meanings) → Means makes h → MayServe steps (setting c h number) (started_over (setting c h number) found) (turns_of h given) → Is (served_over (setting c h number) found (turns_of h given))

-- of what a node, which started with these notes, is over records at each of its runs
abbrev pub FromStart : {S : Type 0} → StepsGhosts S → S → ℕ → List Note → List (ℕ × Option Datagram) → (Cluster → Served → Type 0) → Type 0
FromStart steps one start notes given Is =
    (makes : List ℕ → Option Meaning) (c : Cluster) (me : ℕ) (found : List (List ℕ)) → HasStarted steps makes c me found one start notes → AtEachRun steps makes c me found given (Is c)

-- its start was recorded and its turns were made, by which it became this one
pub record HasTurnedOn {S : Type 0} (steps : StepsGhosts S) (one last : S) (start : ℕ) (notes : List Note) (turns : ℕ) (before after : Outside) : Type 0 where
  pub given : List (ℕ × Option Datagram)
  pub turned : HasTurned turns before.readings after.readings before.taken after.taken given
  pub recorded : FromStart steps one start notes given (λ c now. GoesOn c.schema before.held after.held before.sent after.sent now.lines)
  pub serving : FromStart steps one start notes given (λ c now. (h : Meanings) × (left : List Waiting) × IsServing steps h last left now)

-- it ended on its way
pub record HasTurnedOff {S : Type 0} (steps : StepsGhosts S) (one : S) (start : ℕ) (notes : List Note) (before after : Outside) : Type 0 where
  pub given : List (ℕ × Option Datagram)
  pub begun : HasBegun before.readings after.readings before.taken after.taken given
  pub stops : FromStart steps one start notes given (λ c now. Stops c.schema before.held after.held before.sent after.sent now.lines)
