-- What a step or a start leaves that is cut off, and what the log's fuse makes of a call.
use Rattle.std.specs.Prelude.{◌≡◌, ◌≢◌, ℕ, ◌+◌, ◌&&◌, Bool, true, false, if◌then◌else◌, List, [], ◌∷◌, filter, map, take, Result, Ok, Err, Option, Some, None}
use Rattle.mega_disk.specs.declared.records.Records.{Ghosts}
use Rattle.mega_disk.specs.Fuse.{Unset, after_append, is_short, keeps_record}
use Rattle.mega_disk.specs.declared.versions.StoreError.{StoreError}
use Rattle.mega_wal.specs.declared.answers.LogFault.{LogFault}
use Rattle.mega_wal.specs.declared.answers.LogFault.TheVariants.{BadRecord, DiskFault, Full, NoMemory, Spent}
use Rattle.mega_rules.specs.Clock.{start_of}
use Rattle.mega_rules.specs.Met.{Met, Crashes}
use Rattle.mega_rules.specs.Operations.{Node as RuleNode, Setting}
use Rattle.mega_rules.specs.Steps.{Event, onto, step}
use Rattle.mega_leases.specs.Opening.{AreOwed}
use Rattle.mega_voter.specs.Used.{LogUsed}
use Rattle.mega_voter.specs.Holding.{HoldsMet}
use Rattle.mega_core.specs.of_node_laws.Acted.{own_item}
use Rattle.mega_core.specs.of_step_parts.declared.step.Step.{Step}
use Rattle.mega_core.specs.Faults.{of_store}
use Rattle.mega_core.specs.of_step_parts.Notes.{met_of}
use Rattle.mega_promises.specs.Runs.{AsItWas, Left, Recorded, appends, is_durable, is_kept, owes, replies_in}
use Rattle.mega_durable.specs.declared.fault.UpFault.{UpFault}
use Rattle.mega_durable.specs.declared.fault.UpFault.TheVariants as up
use Rattle.mega_durable.specs.Replying.{owed_by}

-- a step that is cut off and leaves this: these records hold what the node met until the crash, and what the next start owes
abbrev pub HoldsCut : Setting → RuleNode → Event → List (List ℕ) → Left → Type 0
HoldsCut s node event found left =
    HoldsMet found (start_of node.met) (onto (if is_kept left then owes (step s node event) (replies_in s.cluster s.me node.met event) else []) (Crashes ∷ own_item s node event ∷ node.met))

-- what a crash at some moment of a step may leave
abbrev pub MayLeave : Setting → RuleNode → Event → List (List ℕ) → Type 0
MayLeave s node event found = (left : Left) × HoldsCut s node event found left

-- a start that is cut off and leaves this counts itself where its record is kept, and owes what it owed
abbrev pub HoldsCutStart : ℕ → List Met → List (List ℕ) → Left → Type 0
HoldsCutStart starts met found left = HoldsMet found (if is_kept left then starts + 1 else starts) met

abbrev pub MayLeaveStart : ℕ → List Met → List (List ℕ) → Type 0
MayLeaveStart starts met found = (left : Left) × HoldsCutStart starts met found left

-- what the log's fuse leaves of an append that it cuts
abbrev pub left_of : {R : Type 0} → Ghosts R → R → Left
left_of store records = if keeps_record (store.fuse_left records) (store.fuse_image records) then Recorded else AsItWas

-- a step that is whole, and appends or appends nothing: the fuse had an append left where it appends, and counts its calls
pub record IsWhole {R : Type 0} (store : Ghosts R) (appends : Bool) (old new : R) : Type 0 where
  pub long : (appends && is_short (store.fuse_left old)) ≡ false
  pub fuse : store.fuse_left new ≡ (if appends then after_append (store.fuse_left old) else store.fuse_left old)
  pub image : store.fuse_image new ≡ store.fuse_image old

-- a step that its log's fuse cuts appends a record, of which the fuse had not all calls left, and the fuse is burnt
pub record IsBurnt {R : Type 0} (store : Ghosts R) (appends : Bool) (old new : R) : Type 0 where
  pub appending : appends ≡ true
  pub short : is_short (store.fuse_left old) ≡ true
  pub gone : store.fuse_left new ≡ Unset

-- the same, with what the records hold then
pub record IsCut {R : Type 0} (store : Ghosts R) (s : Setting) (node : RuleNode) (event : Event) (old new : R) : Type 0 where
  pub burnt : IsBurnt store (appends (step s node event)) old new
  pub holds : HoldsCut s node event (store.list new) (left_of store old)

pub record IsCutStart {R : Type 0} (store : Ghosts R) (starts : ℕ) (met : List Met) (old new : R) : Type 0 where
  pub burnt : IsBurnt store true old new
  pub holds : HoldsCutStart starts met (store.list new) (left_of store old)

-- where the log's fuse cut a step, its records hold what the node met and owes
abbrev pub IsCutBy : {R : Type 0} → Ghosts R → Setting → RuleNode → Event → R → R → UpFault → Type 0
IsCutBy store s node event old new (up.Step fault) = Unit {0}
IsCutBy store s node event old new (up.Cut cut) = IsCut store s node event old new
IsCutBy store s node event old new (up.Log fault) = Unit {0}
IsCutBy store s node event old new up.Unformed = Unit {0}

-- what is handed back of a step that was cut off is what the next start owes, where its record was kept, and it may be owed
abbrev pub IsOwedBy : Setting → RuleNode → Event → UpFault → Type 0
IsOwedBy s node event (up.Step fault) = Unit {0}
IsOwedBy s node event (up.Cut cut) =
    (owed_by cut ≡ owes (step s node event) (replies_in s.cluster s.me node.met event))
    × AreOwed (owes (step s node event) (replies_in s.cluster s.me node.met event)) (Crashes ∷ own_item s node event ∷ node.met)
IsOwedBy s node event (up.Log fault) = fault ≢ DiskFault
IsOwedBy s node event up.Unformed = Unit {0}

-- it is taken from what the step gives, of which so many messages are replies; nothing else comes of the log here
abbrev pub IsTakenFrom : Step → ℕ → UpFault → Type 0
IsTakenFrom made replies (up.Step fault) = ⊥
IsTakenFrom made replies (up.Cut cut) = (map met_of cut.notes ≡ filter is_durable (map met_of made.notes)) × (cut.replies ≡ take replies made.sends)
IsTakenFrom made replies (up.Log fault) = fault ≢ DiskFault
IsTakenFrom made replies up.Unformed = Unit {0}

-- the store's error by which a step failed, and the fault of its log
abbrev pub failed_by : {T : Type 0} → Result T UpFault → Option StoreError
failed_by (Ok made) = None
failed_by (Err (up.Step fault)) = of_store fault
failed_by (Err (up.Cut cut)) = None
failed_by (Err (up.Log fault)) = None
failed_by (Err up.Unformed) = None

abbrev pub log_fault_in : UpFault → Option LogFault
log_fault_in (up.Step fault) = None
log_fault_in (up.Cut cut) = Some DiskFault
log_fault_in (up.Log fault) = Some fault
log_fault_in up.Unformed = None

abbrev pub log_failed_by : {T : Type 0} → Result T UpFault → Option LogFault
log_failed_by (Ok made) = None
log_failed_by (Err refused) = log_fault_in refused

-- the device failed
abbrev pub is_cut : LogFault → Bool
is_cut DiskFault = true
is_cut (Full length) = false
is_cut Spent = false
is_cut (BadRecord number) = false
is_cut NoMemory = false

-- the device of the log only went on, and if the record was not kept it was for what is said of it; the file would have some length with it
abbrev pub LogProceeds : {R : Type 0} → Ghosts R → Option LogFault → R → R → Type 0
LogProceeds store failed old new = (bytes : ℕ) × LogUsed store (store.length_with old bytes) failed old new
