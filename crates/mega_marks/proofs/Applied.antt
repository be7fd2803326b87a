-- The marks of all groups of which something is applied: they are in order, and none is past its log.
use Rattle.std.proofs.Common.{◌≡◌, ℕ, cond, Bool, true, false, List, [], ◌∷◌, ◌++◌, map, nat_lt, refl, sym, ap, ◌∙◌, subst, Some, None}
use Rattle.std.specs.Prelude.{flat_map}
use Rattle.std.specs.List.{AllByRecursion, cons_option, filter_map}
use Rattle.std.specs.List.Sorted.{IsStrictlySortedBy}
use Rattle.std.specs.declared.cmp.Ordering.TheVariants.{Less}
use Rattle.std.specs.Ordering.{ordering_reverse}
use Rattle.mega_base.specs.declared.names.GroupId.{GroupId}
use Rattle.mega_outcome.specs.declared.answer.Mark.{Mark}
use Rattle.mega_index.specs.Rows.{key_cmp}
use Rattle.mega_replica.specs.Applying.{applied}
use Rattle.mega_rules.specs.Acting.{applied_in, applied_marks, mark_of}
use Rattle.mega_rules.specs.Finding.{mark_at}
use Rattle.mega_rules.specs.Logs.{groups_of, log_of}
use Rattle.mega_rules.specs.Met.{Met}
use Rattle.mega_rules.specs.Operations.{Now}
use Rattle.mega_rules.specs.Steps.{applied_at}
use Rattle.mega_node_laws.proofs.Applied.{applied_within}
use Rattle.mega_wal.proofs.Fitting.{group_order}
use Rattle.mega_wal.specs.History.{group_cmp}
use Rattle.mega_voter.proofs.Grouped.{groups_sorted}
use Rattle.mega_marks.specs.Marked.{AllAfter, AllBefore, AreWithin, Ascend}
use Rattle.mega_marks.proofs.Taking.{shorter}

abbrev pub mark_applied : Now → GroupId → List Mark
mark_applied now group = mark_at group (applied_at now.met now.stored group)

abbrev pub marks_applied : Now → List GroupId → List Mark
marks_applied now groups = flat_map (mark_applied now) groups

-- ---- they are those of the rules

mark_is : (now : Now) (group : GroupId) (rest : List Mark) → cons_option (mark_of (applied_in now group)) rest ≡ mark_applied now group ++ rest
mark_is now group rest =
    ap (λ (n : ℕ). cons_option (cond (nat_lt 0 n) (Some (record { group = group; position = record { 0 = n } })) None) rest)
    (shorter (applied (log_of now.met group) (now.stored group)) (log_of now.met group) (applied_within (log_of now.met group) (now.stored group)))
    ∙ by (nat_lt 0 (applied_at now.met now.stored group))
  where
    by : (b : Bool) → cons_option (cond b (Some (record { group = group; position = record { 0 = applied_at now.met now.stored group } })) None) rest ≡ cond b (record { group = group; position = record { 0 = applied_at now.met now.stored group } } ∷ []) [] ++ rest
    by true = refl
    by false = refl

marks_are : (now : Now) (groups : List GroupId) → marks_applied now groups ≡ filter_map mark_of (map (applied_in now) groups)
marks_are now [] = refl
marks_are now (group ∷ groups) = ap (λ (more : List Mark). mark_applied now group ++ more) (marks_are now groups) ∙ sym (mark_is now group (filter_map mark_of (map (applied_in now) groups)))

pub all_applied : (now : Now) (groups : List GroupId) → groups ≡ groups_of now.met → marks_applied now groups ≡ applied_marks now
all_applied now groups is = ap (marks_applied now) is ∙ marks_are now (groups_of now.met)

-- ---- they are in order

after_applied : (now : Now) (one : GroupId) (groups : List GroupId) → AllByRecursion (λ other. group_cmp one other ≡ Less) groups → AllAfter one (marks_applied now groups)
after_applied now one [] all = tt
after_applied now one (group ∷ groups) all = by (nat_lt 0 (applied_at now.met now.stored group)) (after_applied now one groups all.1)
  where
    by : (b : Bool) → AllAfter one (marks_applied now groups) → AllAfter one (cond b (record { group = group; position = record { 0 = applied_at now.met now.stored group } } ∷ []) [] ++ marks_applied now groups)
    by true rest = (all.0, rest)
    by false rest = rest

ascend_applied : (now : Now) (groups : List GroupId) → IsStrictlySortedBy group_cmp groups → Ascend (marks_applied now groups)
unfolding IsStrictlySortedBy
ascend_applied now [] sorted = tt
ascend_applied now (group ∷ groups) sorted = by (nat_lt 0 (applied_at now.met now.stored group)) (after_applied now group groups sorted.0) (ascend_applied now groups sorted.1)
  where
    by : (b : Bool) → AllAfter group (marks_applied now groups) → Ascend (marks_applied now groups) → Ascend (cond b (record { group = group; position = record { 0 = applied_at now.met now.stored group } } ∷ []) [] ++ marks_applied now groups)
    by true all rest = (all, rest)
    by false all rest = rest

-- ---- and within their logs

within_applied : (now : Now) (groups : List GroupId) → AreWithin now.met (marks_applied now groups)
within_applied now [] = tt
within_applied now (group ∷ groups) = by (nat_lt 0 (applied_at now.met now.stored group)) (within_applied now groups)
  where
    by : (b : Bool) → AreWithin now.met (marks_applied now groups) → AreWithin now.met (cond b (record { group = group; position = record { 0 = applied_at now.met now.stored group } } ∷ []) [] ++ marks_applied now groups)
    by true rest = (applied_within (log_of now.met group) (now.stored group), rest)
    by false rest = rest

pub applied_ascend : (now : Now) → Ascend (applied_marks now)
applied_ascend now = subst Ascend (marks_are now (groups_of now.met)) (ascend_applied now (groups_of now.met) (groups_sorted now.met))

pub applied_are_within : (now : Now) → AreWithin now.met (applied_marks now)
applied_are_within now = subst (AreWithin now.met) (marks_are now (groups_of now.met)) (within_applied now (groups_of now.met))

-- ---- before and behind one of them

pub before_one : (done : List Mark) (mark : Mark) (left : List Mark) → Ascend (done ++ mark ∷ left) → AllBefore mark.group done
before_one [] mark left ascend = tt
before_one (one ∷ done) mark left ascend = (group_order.antisymm mark.group one.group ∙ ap ordering_reverse (among done ascend.0), before_one done mark left ascend.1)
  where
    among : (done : List Mark) → AllAfter one.group (done ++ mark ∷ left) → key_cmp one.group.key mark.group.key ≡ Less
    among [] all = all.0
    among (next ∷ done) all = among done all.1

pub behind_one : (done : List Mark) (mark : Mark) (left : List Mark) → Ascend (done ++ mark ∷ left) → AllAfter mark.group left
behind_one [] mark left ascend = ascend.0
behind_one (one ∷ done) mark left ascend = behind_one done mark left ascend.1

pub within_one : (met : List Met) (done : List Mark) (mark : Mark) (left : List Mark) → AreWithin met (done ++ mark ∷ left) → AreWithin met (mark ∷ [])
within_one met [] mark left within = (within.0, tt)
within_one met (one ∷ done) mark left within = within_one met done mark left within.1
