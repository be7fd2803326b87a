-- What is left to be told to a voter, and staged, of what is sent and noted.
use Rattle.std.proofs.Common.{◌≡◌, List, ◌∷◌, map, refl}
use Rattle.mega_wire.specs.declared.message.Message.{Message}
use Rattle.mega_wal.specs.declared.item.JournalItem.{JournalItem}
use Rattle.mega_wal.specs.declared.kept.Kept.{Kept}
use Rattle.mega_rules.specs.Met.{Met, Sends}
use Rattle.mega_rules.specs.Steps.{onto}
use Rattle.mega_step_work.specs.of_voter.Telling.{IsAnswer, Tells}
use Rattle.mega_step_work.specs.of_leases.declared.note.LeaseNote.{LeaseNote}
use Rattle.mega_step_work.specs.of_leases.Notes.{met_of}
use Rattle.mega_node_laws.specs.Sending.{MaySend}
use Rattle.mega_step_choices.specs.Staging.{Stages}

-- what was met so far, which is told, and to which the rest leads
pub record SentSo (kept : Kept) (left : List Message) (all : List Met) : Type 0 where
  pub now : List Met
  pub tells : Tells kept now
  pub may : MaySend now left
  pub leads : onto (map Sends left) now ≡ all

pub sent_first : (kept : Kept) (sends : List Message) (met : List Met) → MaySend met sends → Tells kept met → SentSo kept sends (onto (map Sends sends) met)
sent_first kept sends met may tells = record { now = met; tells = tells; may = may; leads = refl }

pub sent_next : (kept after : Kept) (m : Message) (left : List Message) (all : List Met) → ((met : List Met) → IsAnswer met m.body → Tells kept met → Tells after (Sends m ∷ met)) → SentSo kept (m ∷ left) all → SentSo after left all
sent_next kept after m left all told so = record { now = Sends m ∷ so.now; tells = told so.now so.may.0 so.tells; may = so.may.1; leads = so.leads }

-- so of the notes of a cell and a coordinator
pub record KeptSo (kept : Kept) (left : List LeaseNote) (all : List Met) : Type 0 where
  pub now : List Met
  pub tells : Tells kept now
  pub leads : onto (map met_of left) now ≡ all

pub kept_first : (kept : Kept) (notes : List LeaseNote) (met : List Met) → Tells kept met → KeptSo kept notes (onto (map met_of notes) met)
kept_first kept notes met tells = record { now = met; tells = tells; leads = refl }

pub kept_next : (kept after : Kept) (note : LeaseNote) (left : List LeaseNote) (all : List Met) → ((met : List Met) → Tells kept met → Tells after (met_of note ∷ met)) → KeptSo kept (note ∷ left) all → KeptSo after left all
kept_next kept after note left all told so = record { now = met_of note ∷ so.now; tells = told so.now so.tells; leads = so.leads }

-- ---- what is staged
-- what was met so far, which is staged, and to which the rest leads
pub record StagedSo (staged : List JournalItem) (before : List Met) (left : List LeaseNote) (all : List Met) : Type 0 where
  pub now : List Met
  pub stages : Stages staged before now
  pub leads : onto (map met_of left) now ≡ all

pub staged_first : (staged : List JournalItem) (before : List Met) (notes : List LeaseNote) (met : List Met) → Stages staged before met → StagedSo staged before notes (onto (map met_of notes) met)
staged_first staged before notes met stages = record { now = met; stages = stages; leads = refl }

pub staged_next : (staged after : List JournalItem) (before : List Met) (one : LeaseNote) (left : List LeaseNote) (all : List Met)
    → ((before met : List Met) → Stages staged before met → Stages after before (met_of one ∷ met)) → StagedSo staged before (one ∷ left) all → StagedSo after before left all
staged_next staged after before one left all more so = record { now = met_of one ∷ so.now; stages = more before so.now so.stages; leads = so.leads }

-- so of messages, which their node may send
pub record StagedSent (kept : Kept) (staged : List JournalItem) (before : List Met) (left : List Message) (all : List Met) : Type 0 where
  pub now : List Met
  pub tells : Tells kept now
  pub may : MaySend now left
  pub stages : Stages staged before now
  pub leads : onto (map Sends left) now ≡ all

pub sent_staged_first : (kept : Kept) (staged : List JournalItem) (before : List Met) (sends : List Message) (met : List Met) → MaySend met sends → Tells kept met → Stages staged before met
    → StagedSent kept staged before sends (onto (map Sends sends) met)
sent_staged_first kept staged before sends met may tells stages = record { now = met; tells = tells; may = may; stages = stages; leads = refl }

pub sent_staged_next : (kept kept2 : Kept) (staged after : List JournalItem) (before : List Met) (m : Message) (left : List Message) (all : List Met)
    → ((met : List Met) → IsAnswer met m.body → Tells kept met → Tells kept2 (Sends m ∷ met))
    → ((before met : List Met) → IsAnswer met m.body → Tells kept met → Stages staged before met → Stages after before (Sends m ∷ met))
    → StagedSent kept staged before (m ∷ left) all → StagedSent kept2 after before left all
sent_staged_next kept kept2 staged after before m left all told more so = record {
  now = Sends m ∷ so.now;
  tells = told so.now so.may.0 so.tells;
  may = so.may.1;
  stages = more before so.now so.may.0 so.tells so.stages;
  leads = so.leads;
}
