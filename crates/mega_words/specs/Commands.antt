-- The words of the program, and what they ask for.
use Rattle.std.specs.Prelude.{ℕ, ◌≤◌, nat_eq, if◌then◌else◌, codes, List, [], ◌∷◌, Option, Some, None}
use Rattle.std.specs.Cmp.Lexicographic.{pointwise}
use Rattle.mega_base.specs.declared.names.GroupId.{GroupId}
use Rattle.mega_words.specs.declared.command.Command.{Command}
use Rattle.mega_words.specs.declared.command.Command.TheVariants.{Replay, Gen, Node, Backup, Restore, Two}
use Rattle.mega_words.specs.declared.command.Report.TheVariants.{Transcript, Summary}
use Rattle.mega_words.specs.declared.option.Name.{Name}
use Rattle.mega_words.specs.declared.option.Name.TheVariants.{Seed, Count, Nodes, Number, Turns, Group, At, Node as OfNode, Recover}
use Rattle.mega_words.specs.declared.option.Options.{Options}
use Rattle.mega_words.specs.Options.{none_yet, read_on}

-- the options of `gen`, of `node`, of `backup`, of `restore` and of `two`
abbrev pub gen_names : List Name
gen_names = Seed ∷ Count ∷ Nodes ∷ []

abbrev pub node_names : List Name
node_names = Number ∷ Turns ∷ []

abbrev pub backup_names : List Name
backup_names = Number ∷ Group ∷ At ∷ []

abbrev pub restore_names : List Name
restore_names = At ∷ []

abbrev pub two_names : List Name
two_names = OfNode ∷ Turns ∷ Recover ∷ []

-- all options of `gen` came
abbrev pub drawn_with : Option ℕ → Option ℕ → Option ℕ → Option Command
drawn_with (Some seed) (Some count) (Some nodes) = Some (Gen seed count nodes)
drawn_with _ _ _ = None

abbrev pub gen_with : Option Options → Option Command
gen_with None = None
gen_with (Some found) = drawn_with found.seed found.count found.nodes

-- all options of `node` came
abbrev pub turned_with : Option ℕ → Option ℕ → Option Command
turned_with (Some number) (Some turns) = Some (Node number turns)
turned_with _ _ = None

abbrev pub node_with : Option Options → Option Command
node_with None = None
node_with (Some found) = turned_with found.number found.turns

-- all options of `backup` came
abbrev pub saved_with : Option ℕ → Option GroupId → Option ℕ → Option Command
saved_with (Some number) (Some group) (Some at) = Some (Backup number group at)
saved_with _ _ _ = None

abbrev pub backup_with : Option Options → Option Command
backup_with None = None
backup_with (Some found) = saved_with found.number found.group found.at

-- the option of `restore` came
abbrev pub restored_with : Option ℕ → Option Command
restored_with (Some at) = Some (Restore at)
restored_with None = None

abbrev pub restore_with : Option Options → Option Command
restore_with None = None
restore_with (Some found) = restored_with found.at

-- both options of `two` came; a change may be named besides
abbrev pub driven_with : Option ℕ → Option ℕ → Option (List ℕ) → Option Command
driven_with (Some node) (Some turns) recover = Some (Two node turns recover)
driven_with _ _ _ = None

abbrev pub two_with : Option Options → Option Command
two_with None = None
two_with (Some found) = driven_with found.node found.turns found.recover

-- behind `replay` stands nothing, or `--summary` once
abbrev pub replay_with : List (List ℕ) → Option Command
replay_with [] = Some (Replay Transcript)
replay_with (word ∷ []) = if pointwise nat_eq word (codes "--summary") then Some (Replay Summary) else None
replay_with (word ∷ other ∷ words) = None

-- the words are a form of this command: the command, and then each of its options once, in any order
abbrev pub command_of : List (List ℕ) → Option Command
command_of [] = None
command_of (word ∷ words) =
    if pointwise nat_eq word (codes "replay") then replay_with words
    else if pointwise nat_eq word (codes "gen") then gen_with (read_on gen_names None none_yet words)
    else if pointwise nat_eq word (codes "node") then node_with (read_on node_names None none_yet words)
    else if pointwise nat_eq word (codes "backup") then backup_with (read_on backup_names None none_yet words)
    else if pointwise nat_eq word (codes "restore") then restore_with (read_on restore_names None none_yet words)
    else if pointwise nat_eq word (codes "two") then two_with (read_on two_names None none_yet words)
    else None

-- a cluster may have as many nodes as are asked for, and a node of that number; a log may have the position
abbrev pub FitsWords : Option Command → Type 0
FitsWords (Some (Gen seed count nodes)) = (1 ≤ nodes) × (nodes ≤ 9)
FitsWords (Some (Node number turns)) = (1 ≤ number) × (number ≤ 9)
FitsWords (Some (Backup number group at)) = (1 ≤ number) × (number ≤ 9) × (at ≤ 1000000)
FitsWords (Some (Restore at)) = at ≤ 1000000
FitsWords (Some (Two node turns recover)) = (1 ≤ node) × (node ≤ 9)
FitsWords _ = Unit {0}

-- memory may be wanting where words begin as those of a backup, or of a change
abbrev pub MayWant : Option Command → Type 0
MayWant None = Unit {0}
MayWant (Some (Backup number group at)) = Unit {0}
MayWant (Some (Two node turns recover)) = Unit {0}
MayWant (Some (Replay report)) = ⊥
MayWant (Some (Gen seed count nodes)) = ⊥
MayWant (Some (Node number turns)) = ⊥
MayWant (Some (Restore at)) = ⊥
