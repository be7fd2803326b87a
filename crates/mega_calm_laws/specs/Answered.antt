-- A read that is answered, and messages that are delivered one by one, in any order.
use Rattle.std.specs.Prelude.{ℕ, ◌⊎◌, List, [], ◌∷◌, Option}
use Rattle.mega_base.specs.declared.names.OpId.{OpId}
use Rattle.mega_base.specs.declared.names.Position.{Position}
use Rattle.mega_cluster.specs.declared.cluster.Cluster.{Cluster}
use Rattle.mega_handler.specs.Named.{Meanings}
use Rattle.mega_wire.specs.declared.message.Message.{Message}
use Rattle.mega_outcome.specs.declared.answer.Answer.TheVariants.{Read as ReadAnswer}
use Rattle.mega_outcome.specs.declared.answer.Shown.{Shown}
use Rattle.mega_leased_laws.specs.of_run_laws.of_tape_laws.of_promises.of_transcript.declared.item.Item.{Item}
use Rattle.mega_leased_laws.specs.of_run_laws.of_tape_laws.of_promises.of_transcript.declared.item.Item.TheVariants.{Answer as AnswerItem}
use Rattle.mega_leased_laws.specs.of_run_laws.of_tape_laws.of_promises.Promises.{Stands}
use Rattle.mega_leased_laws.specs.of_run_laws.of_tape_laws.of_promises.Runs.{Cuts, Standing, delivered}
use Rattle.mega_calm_laws.specs.Waiting.{IsAwaited, Waits}

-- an operation was answered with rows
pub record IsRead (op : OpId) (tape : List Item) : Type 0 where
  pub position : Position
  pub rows : List (Option Shown)
  pub stands : Stands (AnswerItem op (ReadAnswer position rows)) tape

-- messages are delivered one after another
abbrev pub all_delivered : Cluster → Meanings → Cuts → Standing → List ℕ → Standing
all_delivered c h cuts now [] = now
all_delivered c h cuts now (number ∷ numbers) = all_delivered c h cuts (delivered c h cuts now number) numbers

-- each of which waited
abbrev pub AllWaited : Cluster → Meanings → Cuts → Standing → List ℕ → Type 0
AllWaited c h cuts now [] = Unit {0}
AllWaited c h cuts now (number ∷ numbers) = ((message : Message) × Waits now.tape number message) × AllWaited c h cuts (delivered c h cuts now number) numbers

-- it was answered, or a message waits
abbrev pub IsReadOrAwaits : OpId → List Item → Type 0
IsReadOrAwaits op tape = IsRead op tape ⊎ ((message : Message) × IsAwaited tape message)
