-- Marks of groups, in order.
use Rattle.std.specs.Prelude.{◌≡◌, ◌≤◌, ◌&&◌, nat_le, if◌then◌else◌, Bool, true, false, ℕ, List, [], ◌∷◌, Option, Some, None}
use Rattle.std.specs.declared.cmp.Ordering.TheVariants.{Greater, Less}
use Rattle.mega_base.specs.declared.names.GroupId.{GroupId}
use Rattle.mega_entry.specs.declared.content.Content.{Content}
use Rattle.mega_index.specs.Marks.{Marked}
use Rattle.mega_index.specs.Rows.{key_cmp}
use Rattle.mega_wal.specs.Same.{same_group}
use Rattle.mega_outcome.specs.declared.answer.Mark.{Mark}
use Rattle.mega_rules.specs.Finding.{rows_through}
use Rattle.mega_rules.specs.Logs.{prefix_of}
use Rattle.mega_rules.specs.Met.{Met}

-- an entry that is there
abbrev pub some_of : Option Content → List Content
some_of None = []
some_of (Some entry) = entry ∷ []

-- this group stands behind each of those, and before each of those
abbrev pub AllBefore : GroupId → List Mark → Type 0
AllBefore group [] = Unit {0}
AllBefore group (mark ∷ marks) = (key_cmp group.key mark.group.key ≡ Greater) × AllBefore group marks

abbrev pub AllAfter : GroupId → List Mark → Type 0
AllAfter group [] = Unit {0}
AllAfter group (mark ∷ marks) = (key_cmp group.key mark.group.key ≡ Less) × AllAfter group marks

-- in order of group
abbrev pub Ascend : List Mark → Type 0
Ascend [] = Unit {0}
Ascend (mark ∷ marks) = AllAfter mark.group marks × Ascend marks

-- what a global index has of a group at its mark
abbrev pub marked_at : List Met → Mark → List ℕ × Marked
marked_at met mark = (mark.group.key, record { position = (mark.position).0; rows = rows_through met mark })

-- no mark is past its log
abbrev pub AreWithin : List Met → List Mark → Type 0
AreWithin met [] = Unit {0}
AreWithin met (mark ∷ marks) = ((mark.position).0 ≤ prefix_of met mark.group) × AreWithin met marks

-- marks that may move on to these: each group is among them, in the same order, at its position or a later one
abbrev pub lead_to : List Mark → List Mark → Bool
lead_to [] ends = true
lead_to (mark ∷ marks) [] = false
lead_to (mark ∷ marks) (last ∷ ends) =
    if same_group last.group mark.group then nat_le (mark.position).0 (last.position).0 && lead_to marks ends else lead_to (mark ∷ marks) ends
