-- What operations that acted in a step leave, and how what is kept stands to it.
use Rattle.std.specs.Prelude.{◌≡◌, ℕ, min, List}
use Rattle.std.specs.List.{All}
use Rattle.mega_base.specs.declared.names.GroupId.{GroupId}
use Rattle.mega_disk.specs.VersionMaps.{Versions}
use Rattle.mega_wal.specs.declared.kept.Kept.{Kept}
use Rattle.mega_wire.specs.declared.message.Message.{Message}
use Rattle.mega_rules.specs.Met.{Met, Answers, Validates}
use Rattle.mega_rules.specs.Clock.{begun_of, last_number}
use Rattle.mega_rules.specs.Logs.{log_of}
use Rattle.mega_rules.specs.Operations.{Node, Now, Setting}
use Rattle.mega_rules.specs.Steps.{Step, apply_notes, onto, step_of}
use Rattle.mega_step_parts.specs.of_voter.Telling.{Tells}
use Rattle.mega_step_parts.specs.of_leases.declared.leases.Leases.{Leases}
use Rattle.mega_step_parts.specs.of_leases.Tells.{Tells as TellsLeases}
use Rattle.mega_replica.specs.declared.progress.Progress.{Progress}
use Rattle.mega_replica.specs.Following.{Follows}
use Rattle.mega_actions.specs.of_node_laws.About.{IsAbout}
use Rattle.mega_rules.specs.Finding.{refreshed_marks}
use Rattle.mega_actions.specs.of_marks.declared.indexed.Indexed.{Indexed}
use Rattle.mega_actions.specs.of_pumps.declared.digest.Digest.{Digest}
use Rattle.mega_actions.specs.of_pumps.Notes.{HasNoted}
use Rattle.mega_actions.specs.of_marks.AreMarked.{AreMarked}
use Rattle.mega_actions.specs.Turns.{IsServable}
use Rattle.mega_actions.specs.of_step_work.Working.{work_of}
use Rattle.mega_actions.specs.of_step_work.declared.work.Work.{Work}
use Rattle.mega_node_events.specs.Kind.{FitsKind}
use Rattle.mega_handler.specs.Named.{Meanings}
use Rattle.mega_replica.specs.Following.{progress_at}
use Rattle.mega_actions.specs.declared.replica.Replica.{Replica}
use Rattle.mega_actions.specs.IsAt.{setting_of}

abbrev pub IsValidate : Met → Type 0
IsValidate (Validates group position) = Unit {0}
IsValidate _ = ⊥

abbrev pub IsEnd : Met → Type 0
IsEnd (Answers op answer) = Unit {0}
IsEnd _ = ⊥

-- beside what was met before them groups became valid and operations ended, and those that stay open are each about the group of its request
pub record Acted (base : List Met) (now : Now) : Type 0 where
  pub met_is : now.met ≡ onto now.valid base
  pub valid : All IsValidate now.valid
  pub answers : All IsEnd now.answers
  pub about : All IsAbout now.kept

-- the logs tell what was met before they acted, the leases and the rows what was met then; the global indexes are at the marks that the
-- answers leave; the node has what its kind has, and the step has come to this work
pub record HasActed (s : Setting) (kept : Kept) (leases : Leases) (indexed : Indexed) (digest : Digest) (version : Versions) (progress : GroupId → Progress) (begun : ℕ) (work : Work) (base : List Met) (now : Now) : Type 0 where
  pub kind : FitsKind s.cluster s.me now.kept now.stored
  pub tells : Tells kept base
  pub leased : TellsLeases s.cluster s.me leases now.met
  pub follows : Follows version progress (log_of now.met) now.stored
  pub marked : AreMarked s.cluster.schema indexed base (refreshed_marks (onto now.answers base))
  pub noted : HasNoted kept digest
  pub acted : Acted base now
  pub built : All IsServable now.kept
  pub begun_is : begun ≡ min (begun_of base) last_number
  pub work_is : work ≡ work_of now

-- the step then
abbrev pub ended : Setting → Node → Met → List Met → List Met → List Message → Now → Step
ended s node own locks durable sends now = step_of node own locks durable (apply_notes s node.met node.stored now.met now.stored) sends now

-- a replica as it is
abbrev pub ActedAt : {R V : Type 0} → (V → Versions) → Meanings → Replica R V → ℕ → Work → List Met → Now → Type 0
ActedAt version h one begun work base now = HasActed (setting_of one h) one.voter.logs.kept one.leases one.indexed one.digest (version one.rows.rows) (progress_at one.rows.progress) begun work base now
