-- A node over its log device, from what the opening found to what it leaves.
use Rattle.std.proofs.Common.{ℕ, List, Option}
use Rattle.mega_cluster.specs.declared.cluster.Cluster.{Cluster}
use Rattle.mega_server.specs.of_core.of_step_parts.declared.note.Note.{Note}
use Rattle.mega_disk.specs.declared.disk.Disk.{Ghosts as DiskGhosts}
use Rattle.mega_format_laws.specs.Requests.{AreHandlers}
use Rattle.mega_handler.specs.Named.{Meaning, Meanings}
use Rattle.mega_link.specs.Datagrams.{Datagram}
use Rattle.mega_serve.specs.declared.steps.Steps.{Ghosts as StepsGhosts}
use Rattle.mega_serve.specs.declared.waiting.Waiting.{Waiting}
use Rattle.mega_rules.specs.Logs.{log_of}
use Rattle.mega_rules.specs.Operations.{Node, Setting}
use Rattle.mega_rules.specs.Steps.{Event}
use Rattle.mega_serve.specs.Turns.{AreTimes, IsServing, MayServe, turns_of}
use Rattle.mega_server.specs.Serving.{MayStep}
use Rattle.mega_turn_laws.proofs.Turns.{may_serve}
use Rattle.mega_node_laws.specs.Own.{HasOwnRows}
use Rattle.mega_promises.specs.Runs.{setting}
use Rattle.mega_promises.specs.Served.{Served}
use Rattle.mega_reply_laws.proofs.Serving.{are_replied}
use Rattle.mega_serve.specs.Wishes.{wish_of}
use Rattle.mega_wal.specs.Records.{history_of}
use Rattle.mega_node.specs.Calls.{AtHandlers, Halted, KeepsMet, Ran, served_over, started_over}
use Rattle.mega_node.specs.Logs.{AreFound}
use Rattle.mega_node.specs.Outside.{Outside}
use Rattle.mega_node.specs.Serving.{HasTurnedOff, HasTurnedOn}
use Rattle.mega_node.specs.Starting.{HasStarted}

-- its turns may happen, where what it decided by the end writes its groups' own rows
may_turn : {D S : Type 0} (disks : DiskGhosts D) (steps : StepsGhosts S) (makes : List ℕ → Option Meaning) (c : Cluster) (me : ℕ) (log : D) (found : List (List ℕ)) (one : S) (start : ℕ) (notes : List Note)
    → ((s : Setting) (node : Node) (event : Event) → MayStep s node event → steps.may_happen s node event) → AreFound disks log found → HasStarted steps makes c me found one start notes → (given : List (ℕ × Option Datagram)) (h : Meanings) → AreHandlers h → AreTimes given
    → HasOwnRows c.schema (log_of (served_over (setting c h me) found (turns_of h given)).node.met) → MayServe steps (setting c h me) (started_over (setting c h me) found) (turns_of h given)
may_turn disks steps makes c me log found one start notes may are started given h handlers times own = may_serve steps may c h me found given started.sized started.member handlers are.good started.few times own

pub ran : {D S : Type 0} (disks : DiskGhosts D) (steps : StepsGhosts S) (makes : List ℕ → Option Meaning) (c : Cluster) (me turns : ℕ) (log left : D) (before after : Outside) (found : List (List ℕ)) (one last : S) (start : ℕ) (notes : List Note)
    → ((s : Setting) (node : Node) (event : Event) → MayStep s node event → steps.may_happen s node event)
    → AreFound disks log found → HasStarted steps makes c me found one start notes → HasTurnedOn steps one last start notes turns before after
    → ((h : Meanings) (waiting : List Waiting) (now : Served) → IsServing steps h last waiting now → KeepsMet disks left now)
    → AtHandlers makes (λ h. Ran disks h c me turns log left before after)
ran disks steps makes c me turns log left before after found one last start notes may are started turned keeps h means handlers = record {
  found = found;
  are_found = are;
  given = turned.given;
  turned = turned.turned;
  recorded = λ own. turned.recorded makes c me found started h means (may_turn disks steps makes c me log found one start notes may are started turned.given h handlers turned.turned.times own);
  kept = λ own.
      let serving = turned.serving makes c me found started h means (may_turn disks steps makes c me log found one start notes may are started turned.given h handlers turned.turned.times own) in
      keeps serving.0 serving.1 _ serving.2;
  replied = are_replied c me (wish_of c.schema me) h (history_of found) (turns_of h turned.given);
}

pub halted : {D S : Type 0} (disks : DiskGhosts D) (steps : StepsGhosts S) (makes : List ℕ → Option Meaning) (c : Cluster) (me : ℕ) (log : D) (before after : Outside) (found : List (List ℕ)) (one : S) (start : ℕ) (notes : List Note)
    → ((s : Setting) (node : Node) (event : Event) → MayStep s node event → steps.may_happen s node event)
    → AreFound disks log found → HasStarted steps makes c me found one start notes → HasTurnedOff steps one start notes before after → AtHandlers makes (λ h. Halted disks h c me log before after)
halted disks steps makes c me log before after found one start notes may are started turned h means handlers = record {
  found = found;
  are_found = are;
  given = turned.given;
  begun = turned.begun;
  stops = λ own. turned.stops makes c me found started h means (may_turn disks steps makes c me log found one start notes may are started turned.given h handlers turned.begun.times own);
  replied = are_replied c me (wish_of c.schema me) h (history_of found) (turns_of h turned.given);
}
