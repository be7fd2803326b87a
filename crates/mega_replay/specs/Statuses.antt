-- The statuses with which the program ends.
use Rattle.std.specs.Prelude.{◌≡◌, ◌⊎◌, ℕ, Option, Some, None}
use Rattle.mega_words.specs.declared.command.Command.{Command}
use Rattle.mega_words.specs.declared.command.Command.TheVariants.{Backup, Gen, Node, Replay, Restore, Two}
use Rattle.mega_backup_words.specs.Stops.{IsBackupStatus, IsRestoreStatus}
use Rattle.mega_two_words.specs.Endings.{IsStatus as IsTwoStatus}
use Rattle.mega_replay_output.specs.Statuses.{IsCutStatus, IsReplayStatus}

-- the statuses with which a drawing of lines ends
abbrev pub IsDrawn : ℕ → Type 0
IsDrawn status = (status ≡ 0) ⊎ (status ≡ 6) ⊎ (status ≡ 8)

-- the statuses with which a node ends
abbrev pub IsNodeStatus : ℕ → Type 0
IsNodeStatus status = (status ≡ 0) ⊎ (status ≡ 3) ⊎ (status ≡ 7) ⊎ (status ≡ 9) ⊎ (status ≡ 10) ⊎ (status ≡ 16) ⊎ IsCutStatus status

-- the statuses with which a node ends behind a header that it read
abbrev pub IsBehindHeader : ℕ → Type 0
IsBehindHeader status = (status ≡ 7) ⊎ (status ≡ 9) ⊎ (status ≡ 10) ⊎ (status ≡ 16)

-- those with which it ends before its log is opened
abbrev pub IsBeforeOpening : ℕ → Type 0
IsBeforeOpening status = (status ≡ 3) ⊎ (status ≡ 5) ⊎ (status ≡ 9)

-- the statuses with which what the words ask for ends
abbrev pub IsStatusOf : Option Command → ℕ → Type 0
IsStatusOf None status = (status ≡ 2) ⊎ (status ≡ 8)
IsStatusOf (Some (Replay report)) status = IsReplayStatus status
IsStatusOf (Some (Gen seed count nodes)) status = IsDrawn status
IsStatusOf (Some (Node number turns)) status = IsNodeStatus status
IsStatusOf (Some (Backup number group at)) status = IsBackupStatus status
IsStatusOf (Some (Restore at)) status = IsRestoreStatus status
IsStatusOf (Some (Two number turns recover)) status = IsTwoStatus status

-- the words ask for no node and no change
abbrev pub IsOffline : Option Command → Type 0
IsOffline (Some (Node number turns)) = ⊥
IsOffline (Some (Two number turns recover)) = ⊥
IsOffline _ = Unit {0}

-- the words ask for no node, and not for its log
abbrev pub UsesNoDevice : Option Command → Type 0
UsesNoDevice (Some (Node number turns)) = ⊥
UsesNoDevice (Some (Backup number group at)) = ⊥
UsesNoDevice _ = Unit {0}
