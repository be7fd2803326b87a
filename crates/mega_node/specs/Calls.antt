-- Calls of a node: it starts over what its log holds, and makes its turns.
use Rattle.std.specs.Prelude.{◌≡◌, ◌⊎◌, ℕ, true, List, Option}
use Rattle.mega_cluster.specs.declared.cluster.Cluster.{Cluster}
use Rattle.mega_disk.specs.declared.disk.Disk.{Ghosts as DiskGhosts}
use Rattle.mega_format_laws.specs.Requests.{AreHandlers}
use Rattle.mega_handler.specs.Named.{Meaning, Meanings}
use Rattle.mega_io.specs.Pieces.{AppendsFront}
use Rattle.mega_checkpoint.specs.Format.{list_of}
use Rattle.mega_link.specs.Datagrams.{Datagram}
use Rattle.mega_meanings.specs.Means.{Means}
use Rattle.mega_node_laws.specs.Own.{HasOwnRows}
use Rattle.mega_promises.specs.Runs.{setting}
use Rattle.mega_promises.specs.Served.{Served, Turn, served, served_start}
use Rattle.mega_reply_laws.specs.Requests.{AreReplied}
use Rattle.mega_rules.specs.Clock.{start_of}
use Rattle.mega_rules.specs.Logs.{log_of}
use Rattle.mega_rules.specs.Operations.{Setting}
use Rattle.mega_serve.specs.Pages.{GoesOn, Stops}
use Rattle.mega_serve.specs.Turns.{HasBegun, HasTurned, turns_of}
use Rattle.mega_serve.specs.Wishes.{wish_of}
use Rattle.mega_voter.specs.Holding.{HoldsMet}
use Rattle.mega_wal.specs.Records.{history_of}
use Rattle.mega_node.specs.Headers.{IsBroken, IsHeaded, header_line}
use Rattle.mega_node.specs.Logs.{AreFound}
use Rattle.mega_node.specs.Outside.{OnlyWrites, Outside}

-- the node at its start over these records, and after these turns
abbrev pub started_over : Setting → List (List ℕ) → Served
started_over s found = served_start s.cluster s.me s.handlers (history_of found)

abbrev pub served_over : Setting → List (List ℕ) → List Turn → Served
served_over s found turns = served s.cluster s.me (wish_of s.cluster.schema s.me) s.handlers (history_of found) turns

-- of handlers that make this of messages, which is what an entry can hold
abbrev pub AtHandlers : (List ℕ → Option Meaning) → (Meanings → Type 0) → Type 0
AtHandlers makes Is = (h : Meanings) → Means makes h → AreHandlers h → Is h

-- what is so of the node behind its turns, where each row that an item of a group can name was written, in what it decided, by that group's own entries
-- alone
abbrev pub IfOwn : Meanings → Cluster → ℕ → List (List ℕ) → List (ℕ × Option Datagram) → (Served → Type 0) → Type 0
IfOwn h c number found given Is =
    HasOwnRows c.schema (log_of (served_over (setting c h number) found (turns_of h given)).node.met) → Is (served_over (setting c h number) found (turns_of h given))

-- the log holds what the node met
abbrev pub KeepsMet : {D : Type 0} → DiskGhosts D → D → Served → Type 0
KeepsMet disks log now = disks.is_told ≡ true → HoldsMet (list_of (disks.seen log)) (start_of now.node.met) now.node.met

-- the node of this number started over what its log held and made so many turns, those that clock and link tell: its record is held, what stands
-- there was sent, its log holds what it met, and each request of a client got one reply at most
pub record Ran {D : Type 0} (disks : DiskGhosts D) (h : Meanings) (c : Cluster) (number turns : ℕ) (log left : D) (before after : Outside) : Type 0 where
  pub found : List (List ℕ)
  pub are_found : AreFound disks log found
  pub given : List (ℕ × Option Datagram)
  pub turned : HasTurned turns before.readings after.readings before.taken after.taken given
  pub recorded : IfOwn h c number found given (λ now. GoesOn c.schema before.held after.held before.sent after.sent now.lines)
  pub kept : IfOwn h c number found given (KeepsMet disks left)
  pub replied : AreReplied c number (wish_of c.schema number) (served_over (setting c h number) found (turns_of h given))

-- it started, began turns, and ended on its way: a front of its record is held, what was sent stands in it, and on that record each request of a client got one
-- reply at most
pub record Halted {D : Type 0} (disks : DiskGhosts D) (h : Meanings) (c : Cluster) (number : ℕ) (log : D) (before after : Outside) : Type 0 where
  pub found : List (List ℕ)
  pub are_found : AreFound disks log found
  pub given : List (ℕ × Option Datagram)
  pub begun : HasBegun before.readings after.readings before.taken after.taken given
  pub stops : IfOwn h c number found given (λ now. Stops c.schema before.held after.held before.sent after.sent now.lines)
  pub replied : AreReplied c number (wish_of c.schema number) (served_over (setting c h number) found (turns_of h given))

-- the same, in the cluster of the header
abbrev pub HasRun : {D : Type 0} → DiskGhosts D → Meanings → ℕ → ℕ → Option (List ℕ) → D → D → Outside → Outside → Type 0
HasRun disks h number turns input log left before after = (c : Cluster) × IsHeaded number input c × Ran disks h c number turns log left before after

abbrev pub HasHalted : {D : Type 0} → DiskGhosts D → Meanings → ℕ → Option (List ℕ) → D → Outside → Outside → Type 0
HasHalted disks h number input log before after = (c : Cluster) × IsHeaded number input c × Halted disks h c number log before after

-- a front of the header's last line is held
abbrev pub IsHeaderCut : ℕ → Option (List ℕ) → Outside → Outside → Type 0
IsHeaderCut number input before after = (rule : ℕ) × IsBroken number input rule × OnlyWrites before after (λ held more_held. AppendsFront held more_held (header_line rule))

-- what is held is a front of what there was to write: nothing of it, of the header's last line, or of the record
abbrev pub IsCut : {D : Type 0} → DiskGhosts D → Meanings → ℕ → Option (List ℕ) → D → Outside → Outside → Type 0
IsCut disks h number input log before after =
    (after ≡ before) ⊎ (IsHeaderCut number input before after ⊎ HasHalted disks h number input log before after)
