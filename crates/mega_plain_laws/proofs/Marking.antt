-- Marks stand in order of group, each at a position of at least 1.
use Rattle.std.proofs.Common.{◌≡◌, ◌&&◌, nat_lt, Bool, true, false, cond, List, [], ◌∷◌, map, length, Less, is_lt, Option, Some, None, refl, sym, ap, subst}
use Rattle.std.specs.Prelude.{filter_map}
use Rattle.std.specs.List.{AllByRecursion, cons_option}
use Rattle.std.specs.List.Sorted.{IsStrictlySortedBy}
use Rattle.std.proofs.lemmas.Bool.{and_from}
use Rattle.mega_base.specs.declared.names.GroupId.{GroupId}
use Rattle.mega_schema.specs.declared.schema.Schema.{Schema}
use Rattle.mega_outcome.specs.declared.answer.Answer.TheVariants.{Refreshed}
use Rattle.mega_outcome.specs.declared.answer.Mark.{Mark}
use Rattle.mega_wal.specs.History.{group_cmp}
use Rattle.mega_rules.specs.Acting.{applied_in, applied_marks, mark_of}
use Rattle.mega_rules.specs.Finding.{refreshed_marks}
use Rattle.mega_rules.specs.Logs.{groups_of}
use Rattle.mega_rules.specs.Met.{Met, Answers, Starts}
use Rattle.mega_rules.specs.Operations.{Now}
use Rattle.mega_rules.specs.Queues.{Log}
use Rattle.mega_rules.specs.Steps.{onto}
use Rattle.mega_voter.proofs.Grouped.{groups_sorted}
use Rattle.mega_transcript.specs.PlainRows.{are_marks, are_marks_behind, follows}
use Rattle.mega_format_laws.specs.Rounds.{Each}
use Rattle.mega_plain_laws.proofs.Showing.{IsSaid}

-- the mark before, if there is one, is of a group below
abbrev IsBelow : Option Mark → GroupId → Type 0
IsBelow None group = Unit {0}
IsBelow (Some mark) group = group_cmp mark.group group ≡ Less

abbrev AreBelow : Option Mark → List GroupId → Type 0
AreBelow None groups = Unit {0}
AreBelow (Some mark) groups = AllByRecursion (λ group. group_cmp mark.group group ≡ Less) groups

follows_it : (before : Option Mark) (mark : Mark) → nat_lt 0 (mark.position).0 ≡ true → IsBelow before mark.group → follows before mark ≡ true
follows_it None mark at below = at
follows_it (Some other) mark at below = and_from (nat_lt 0 (mark.position).0) (is_lt (group_cmp other.group mark.group)) at (ap is_lt below)

first_below : (before : Option Mark) (group : GroupId) (groups : List GroupId) → AreBelow before (group ∷ groups) → IsBelow before group
first_below None group groups h = tt
first_below (Some mark) group groups h = h.0

rest_below : (before : Option Mark) (group : GroupId) (groups : List GroupId) → AreBelow before (group ∷ groups) → AreBelow before groups
rest_below None group groups h = tt
rest_below (Some mark) group groups h = h.1

more_marks : (t : Bool) (before : Option Mark) (mark : Mark) (marks : List Mark) → t ≡ true → are_marks_behind (Some mark) marks ≡ true → (t && are_marks_behind (Some mark) marks) ≡ true
more_marks true before mark marks h k = k
more_marks false before mark marks h k = h

marks_behind : (log : GroupId → Log) → ((group : GroupId) → (log group).group ≡ group) → (before : Option Mark) (groups : List GroupId) → IsStrictlySortedBy group_cmp groups → AreBelow before groups
    → are_marks_behind before (filter_map mark_of (map log groups)) ≡ true
unfolding IsStrictlySortedBy
marks_behind log names before [] sorted below = refl
marks_behind log names before (group ∷ groups) sorted below = by (nat_lt 0 (length (log group).entries)) refl (λ next. marks_behind log names next groups sorted.1)
  where
    mark : Mark
    mark = record { group = (log group).group; position = record { 0 = length (log group).entries } }

    behind : AreBelow (Some mark) groups
    behind = subst (λ g. AllByRecursion (λ other. group_cmp g other ≡ Less) groups) (sym (names group)) sorted.0

    by : (t : Bool) → nat_lt 0 (length (log group).entries) ≡ t → ((next : Option Mark) → AreBelow next groups → are_marks_behind next (filter_map mark_of (map log groups)) ≡ true) → are_marks_behind before (cons_option (cond t (Some mark) None) (filter_map mark_of (map log groups))) ≡ true
    by true at again =
        more_marks (follows before mark) before mark (filter_map mark_of (map log groups))
        (follows_it before mark at (subst (IsBelow before) (sym (names group)) (first_below before group groups below)))
        (again (Some mark) behind)
    by false at again = again before (rest_below before group groups below)

pub marks_fit : (now : Now) → are_marks (applied_marks now) ≡ true
marks_fit now = marks_behind (applied_in now) (λ group. refl) None (groups_of now.met) (groups_sorted now.met) tt

-- ---- the marks of the last refresh

one_fit : (k : Schema) (one : Met) (met : List Met) → IsSaid k one → are_marks (refreshed_marks met) ≡ true → are_marks (refreshed_marks (one ∷ met)) ≡ true
one_fit k (Starts start) met said fit = refl
one_fit k (Answers op (Refreshed marks)) met said fit = said
one_fit k (Answers op _) met said fit = fit
one_fit k _ met said fit = fit

pub marks_onto : (k : Schema) (notes met : List Met) → Each (IsSaid k) notes → are_marks (refreshed_marks met) ≡ true → are_marks (refreshed_marks (onto notes met)) ≡ true
marks_onto k [] met said fit = fit
marks_onto k (one ∷ notes) met said fit = marks_onto k notes (one ∷ met) said.1 (one_fit k one met said.0 fit)
