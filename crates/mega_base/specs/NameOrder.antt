-- Which epochs are one, and how epochs and groups are ordered.
use Rattle.std.specs.Prelude.{◌==◌, ◌&&◌, ◌||◌, Bool, nat_lt}
use Rattle.std.specs.Ordering.{nat_cmp}
use Rattle.std.specs.Cmp.Lexicographic.{slice_cmp}
use Rattle.std.specs.declared.cmp.Ordering.{Ordering}
use Rattle.mega_base.specs.declared.names.Epoch.{Epoch}
use Rattle.mega_base.specs.declared.names.GroupId.{GroupId}

abbrev pub is_same_epoch : Epoch → Epoch → Bool
is_same_epoch a b = a.start == b.start && a.count == b.count

-- epochs are ordered by start and then by count
abbrev pub is_epoch_below : Epoch → Epoch → Bool
is_epoch_below a b = nat_lt a.start b.start || (a.start == b.start && nat_lt a.count b.count)

-- groups are in the order of their key bytes
abbrev pub group_cmp : GroupId → GroupId → Ordering
group_cmp g h = slice_cmp nat_cmp g.key h.key
