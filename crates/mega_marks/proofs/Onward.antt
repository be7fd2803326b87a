-- A group's mark moves on in a global index, and so all marks do, one after another.
use Rattle.std.proofs.Common.{◌≡◌, ℕ, is_eq, ◌+◌, ◌-◌, ◌^◌, ◌<◌, ◌≤◌, nat_le, min, cond, ◌&&◌, Bool, true, false, List, [], ◌∷◌, ◌++◌, length, take, map, refl, sym, ap, ◌∙◌, subst, arith, Option, Some}
use Rattle.std.specs.Option.{unwrap_or}
use Rattle.std.specs.Map.{lookup}
use Rattle.std.specs.BTreeMap.{insert_entry}
use Rattle.std.specs.declared.cmp.Ordering.{Ordering}
use Rattle.std.specs.declared.cmp.Ordering.TheVariants.{Less, Equal, Greater}
use Rattle.std.specs.Ordering.{match_ordering}
use Rattle.std.proofs.lemmas.Bool.Decides.{nat_tests}
use Rattle.std.proofs.lemmas.List.{append-nil, append_assoc, length-append}
use Rattle.mega_base.specs.declared.names.GroupId.{GroupId}
use Rattle.mega_entry.specs.declared.content.Content.{Content}
use Rattle.mega_schema.specs.declared.schema.Schema.{Schema}
use Rattle.mega_index.specs.declared.global.GlobalIndex.{GlobalIndex}
use Rattle.mega_index.specs.Keeping.{is_kept_under, marks_of}
use Rattle.mega_index.specs.Marks.{Marked, Marks, advanced, marked_in, refreshed, unmarked}
use Rattle.mega_index.specs.Rows.{Listed, key_cmp, list_after, list_written, same_key}
use Rattle.mega_index.proofs.Ordered.{equal_keys}
use Rattle.mega_index.proofs.Turning.{same_key-Decides}
use Rattle.mega_outcome.specs.declared.answer.Mark.{Mark}
use Rattle.mega_wal.specs.Same.{same_group}
use Rattle.mega_wal.proofs.Sames.{same_group_equal}
use Rattle.mega_rules.specs.Logs.{log_of, prefix_of}
use Rattle.mega_rules.specs.Met.{Met}
use Rattle.mega_marks.specs.Marked.{AllAfter, AllBefore, AreWithin, Ascend, lead_to, marked_at}
use Rattle.mega_marks.specs.AreMarked.{AreAt, GoOn}
use Rattle.mega_marks.proofs.Applied.{before_one, behind_one, within_one}
use Rattle.mega_marks.proofs.Taking.{shorter}

-- ---- what a global index has of one group

abbrev at : GroupId → ℕ → Mark
at group n = record { group = group; position = record { 0 = n } }

-- the position of a group's mark, 0 where it has none
abbrev pub mark_in : List Mark → GroupId → ℕ
mark_in [] group = 0
mark_in (mark ∷ marks) group = cond (same_key group.key mark.group.key) (mark.position).0 (mark_in marks group)

is_equal : (o : Ordering) → is_eq o ≡ true → o ≡ Equal
is_equal Less is = absurd (cc)
is_equal Equal is = refl
is_equal Greater is = absurd (cc)

one_group : (a b : GroupId) → same_key a.key b.key ≡ true → a ≡ b
one_group a b same = λ i. record { key = equal_keys a.key b.key (is_equal (key_cmp a.key b.key) same) i }

pub marked_is : (met : List Met) (group : GroupId) (marks : List Mark) → marked_in (map (marked_at met) marks) group.key ≡ (marked_at met (at group (mark_in marks group))).1
marked_is met group [] = refl
marked_is met group (mark ∷ marks) = by (same_key group.key mark.group.key) refl (marked_is met group marks)
  where
    rest : Option Marked
    rest = lookup (λ other. same_key group.key other) (map (marked_at met) marks)

    by : (b : Bool) → same_key group.key mark.group.key ≡ b → unwrap_or rest unmarked ≡ (marked_at met (at group (mark_in marks group))).1
        → unwrap_or (cond b (Some (marked_at met mark).1) rest) unmarked ≡ (marked_at met (at group (cond b (mark.position).0 (mark_in marks group)))).1
    by true same more = ap (λ (g : GroupId). (marked_at met (at g (mark.position).0)).1) (sym (one_group group mark.group same))
    by false same more = more

after_both : (xs ys : List Content) (rows : Listed) → list_after (xs ++ ys) rows ≡ list_after ys (list_after xs rows)
after_both [] ys rows = refl
after_both (x ∷ xs) ys rows = after_both xs ys (list_written x.writes rows)

moved_on : (met : List Met) (group : GroupId) (from through : ℕ) (entries : List Content) → from ≤ through → through ≤ prefix_of met group → through < 2 ^ 64
    → take from (log_of met group) ++ entries ≡ take through (log_of met group) → advanced entries (marked_at met (at group from)).1 ≡ (marked_at met (at group through)).1
moved_on met group from through entries order le less whole = λ i. record { position = count i; rows = rows i }
  where
    log : List Content
    log = log_of met group

    rows : list_after entries (list_after (take from log) []) ≡ list_after (take through log) []
    rows = sym (after_both (take from log) entries []) ∙ ap (λ (all : List Content). list_after all []) whole

    sum : from + length entries ≡ through
    sum = ap (λ (n : ℕ). n + length entries) (sym (shorter from log (omega (arith, order, le)))) ∙ sym (length-append (take from log) entries) ∙ ap length whole ∙ shorter through log le

    count : min (from + length entries) (2 ^ 64 - 1) ≡ through
    count = omega (arith, sum, less)

-- ---- behind the groups that stand before it

insert_behind : (met : List Met) (group : GroupId) (done rest : List Mark) (value : Marked) → AllBefore group done
    → insert_entry key_cmp (map (marked_at met) (done ++ rest)) group.key value ≡ map (marked_at met) done ++ insert_entry key_cmp (map (marked_at met) rest) group.key value
insert_behind met group [] rest value before = refl
insert_behind met group (mark ∷ done) rest value before =
    ap (λ (o : Ordering). match_ordering o ((group.key, value) ∷ marked_at met mark ∷ map (marked_at met) (done ++ rest)) ((mark.group.key, value) ∷ map (marked_at met) (done ++ rest)) (marked_at met mark ∷ insert_entry key_cmp (map (marked_at met) (done ++ rest)) group.key value)) before.0
    ∙ ap (λ (more : Marks). marked_at met mark ∷ more) (insert_behind met group done rest value before.1)

mark_behind : (group : GroupId) (done rest : List Mark) → AllBefore group done → mark_in (done ++ rest) group ≡ mark_in rest group
mark_behind group [] rest before = refl
mark_behind group (mark ∷ done) rest before = ap (λ (o : Ordering). cond (is_eq o) (mark.position).0 (mark_in (done ++ rest) group)) before.0 ∙ mark_behind group done rest before.1

map_both : (met : List Met) (xs ys : List Mark) → map (marked_at met) xs ++ map (marked_at met) ys ≡ map (marked_at met) (xs ++ ys)
map_both met [] ys = refl
map_both met (x ∷ xs) ys = ap (λ (more : Marks). marked_at met x ∷ more) (map_both met xs ys)

within_parts : (met : List Met) (xs ys : List Mark) → AreWithin met (xs ++ ys) → AreWithin met xs × AreWithin met ys
within_parts met [] ys within = (tt, within)
within_parts met (x ∷ xs) ys within = let parts = within_parts met xs ys within.1 in ((within.0, parts.0), parts.1)

within_both : (met : List Met) (xs ys : List Mark) → AreWithin met xs → AreWithin met ys → AreWithin met (xs ++ ys)
within_both met [] ys first last = last
within_both met (x ∷ xs) ys first last = (first.0, within_both met xs ys first.1 last)

-- ---- among the groups that are not moved yet

both_left : (a b : Bool) → (a && b) ≡ true → a ≡ true
both_left true b is = refl
both_left false b is = absurd (cc)

both_right : (a b : Bool) → (a && b) ≡ true → b ≡ true
both_right true b is = is
both_right false b is = absurd (cc)

led_before : (group : GroupId) (one : Mark) (rest left : List Mark) → lead_to (one ∷ rest) left ≡ true → AllAfter group left → key_cmp group.key one.group.key ≡ Less
led_before group one rest [] leads all = absurd (cc)
led_before group one rest (last ∷ left) leads all = by (same_group last.group one.group) refl leads (λ more. led_before group one rest left more all.1)
  where
    by : (b : Bool) → same_group last.group one.group ≡ b → cond b (nat_le (one.position).0 (last.position).0 && lead_to rest left) (lead_to (one ∷ rest) left) ≡ true
        → (lead_to (one ∷ rest) left ≡ true → key_cmp group.key one.group.key ≡ Less) → key_cmp group.key one.group.key ≡ Less
    by true same leads more = subst (λ (g : GroupId). key_cmp group.key g.key ≡ Less) (same_group_equal last.group one.group same) all.0
    by false same leads more = more leads

led_none : (group : GroupId) (rest left : List Mark) → lead_to rest left ≡ true → AllAfter group left → mark_in rest group ≡ 0
led_none group [] left leads all = refl
led_none group (one ∷ rest) [] leads all = absurd (cc)
led_none group (one ∷ rest) (last ∷ left) leads all =
    by (same_group last.group one.group) refl leads (λ more. led_none group rest left more all.1) (λ more. led_none group (one ∷ rest) left more all.1)
  where
    by : (b : Bool) → same_group last.group one.group ≡ b → cond b (nat_le (one.position).0 (last.position).0 && lead_to rest left) (lead_to (one ∷ rest) left) ≡ true
        → (lead_to rest left ≡ true → mark_in rest group ≡ 0) → (lead_to (one ∷ rest) left ≡ true → mark_in (one ∷ rest) group ≡ 0) → mark_in (one ∷ rest) group ≡ 0
    by true same leads next more =
        ap (λ (o : Ordering). cond (is_eq o) (one.position).0 (mark_in rest group)) (subst (λ (g : GroupId). key_cmp group.key g.key ≡ Less) (same_group_equal last.group one.group same) all.0)
        ∙ next (both_right (nat_le (one.position).0 (last.position).0) (lead_to rest left) leads)
    by false same leads next more = more leads

-- what is left of them once one group's mark has moved on
record Moves (met : List Met) (mark : Mark) (rest left : List Mark) : Type 0 where
  after : List Mark
  earlier : mark_in rest mark.group ≤ (mark.position).0
  placed : insert_entry key_cmp (map (marked_at met) rest) mark.group.key (marked_at met mark).1 ≡ marked_at met mark ∷ map (marked_at met) after
  leads : lead_to after left ≡ true
  within : AreWithin met rest → AreWithin met after

at_most : (a b : ℕ) → nat_le a b ≡ true → a ≤ b
at_most a b is = grind (arith, nat_tests)

moves : (met : List Met) (mark : Mark) (rest left : List Mark) → lead_to rest (mark ∷ left) ≡ true → AllAfter mark.group left → Moves met mark rest left
moves met mark [] left leads all = record { after = []; earlier = omega arith; placed = refl; leads = refl; within = λ all. all }
moves met mark (one ∷ rest) left leads all = by (same_group mark.group one.group) refl leads
  where
    value : Marked
    value = (marked_at met mark).1

    entries : Marks
    entries = map (marked_at met) rest

    by : (b : Bool) → same_group mark.group one.group ≡ b → cond b (nat_le (one.position).0 (mark.position).0 && lead_to rest left) (lead_to (one ∷ rest) left) ≡ true → Moves met mark (one ∷ rest) left
    by true same leads =
        let is = same_group_equal mark.group one.group same in
        let equal = is_equal (key_cmp mark.group.key one.group.key) ((same_key-Decides mark.group.key one.group.key).1 (ap (λ (g : GroupId). g.key) is)) in
        let low = at_most (one.position).0 (mark.position).0 (both_left (nat_le (one.position).0 (mark.position).0) (lead_to rest left) leads) in
        record {
          after = rest;
          earlier = subst (λ (o : Ordering). cond (is_eq o) (one.position).0 (mark_in rest mark.group) ≤ (mark.position).0) (sym equal) low;
          placed = ap (λ (o : Ordering). match_ordering o ((mark.group.key, value) ∷ marked_at met one ∷ entries) ((one.group.key, value) ∷ entries) (marked_at met one ∷ insert_entry key_cmp entries mark.group.key value)) equal
              ∙ ap (λ (g : GroupId). (g.key, value) ∷ entries) (sym is);
          leads = both_right (nat_le (one.position).0 (mark.position).0) (lead_to rest left) leads;
          within = λ all. all.1;
        }
    by false same leads =
        let none = led_none mark.group (one ∷ rest) left leads all in
        record {
          after = one ∷ rest;
          earlier = omega (arith, none);
          placed = ap (λ (o : Ordering). match_ordering o ((mark.group.key, value) ∷ marked_at met one ∷ entries) ((one.group.key, value) ∷ entries) (marked_at met one ∷ insert_entry key_cmp entries mark.group.key value))
              (led_before mark.group one rest left leads all);
          leads = leads;
          within = λ all. all;
        }

-- ---- one group after another

module _ (schema : Schema) (met : List Met) (mark : Mark) (done left : List Mark) (before : AllBefore mark.group done) (behind : AllAfter mark.group left) where
  pub earlier_is : (index : GlobalIndex) → GoOn schema index met done (mark ∷ left) → (marked_in (marks_of index) mark.group.key).position ≤ (mark.position).0
  earlier_is index go =
      subst (λ (n : ℕ). n ≤ (mark.position).0)
      (sym (ap (λ (marks : Marks). (marked_in marks mark.group.key).position) go.at.marked ∙ ap (λ (one : Marked). one.position) (marked_is met mark.group (done ++ go.rest)) ∙ mark_behind mark.group done go.rest before))
      (moves met mark go.rest left go.leads behind).earlier

  pub goes_on : (index index2 : GlobalIndex) (entries : List Content) → (mark.position).0 ≤ prefix_of met mark.group → (mark.position).0 < 2 ^ 64
      → take (marked_in (marks_of index) mark.group.key).position (log_of met mark.group) ++ entries ≡ take (mark.position).0 (log_of met mark.group)
      → marks_of index2 ≡ refreshed (marks_of index) mark.group.key entries → (is_kept_under schema index ≡ true → is_kept_under schema index2 ≡ true)
      → GoOn schema index met done (mark ∷ left) → GoOn schema index2 met (done ++ mark ∷ []) left
  goes_on index index2 entries le less whole is kept go = record {
    rest = m.after;
    at = subst (AreAt schema index2 met) (sym (append_assoc done (mark ∷ []) m.after)) (record {
      kept = kept go.at.kept;
      within = within_both met done (mark ∷ m.after) parts.0 (le, m.within parts.1);
      marked = is
          ∙ ap (λ (marks : Marks). refreshed marks mark.group.key entries) go.at.marked
          ∙ ap (λ (one : Marked). insert_entry key_cmp (map (marked_at met) (done ++ go.rest)) mark.group.key (advanced entries one)) (marked_is met mark.group (done ++ go.rest))
          ∙ ap (insert_entry key_cmp (map (marked_at met) (done ++ go.rest)) mark.group.key) (moved_on met mark.group from (mark.position).0 entries order le less taken)
          ∙ insert_behind met mark.group done go.rest (marked_at met mark).1 before
          ∙ ap (λ (more : Marks). map (marked_at met) done ++ more) m.placed
          ∙ map_both met done (mark ∷ m.after);
    });
    leads = m.leads;
  }
    where
      m : Moves met mark go.rest left
      m = moves met mark go.rest left go.leads behind

      parts : AreWithin met done × AreWithin met go.rest
      parts = within_parts met done go.rest go.at.within

      from : ℕ
      from = mark_in (done ++ go.rest) mark.group

      from_is : (marked_in (marks_of index) mark.group.key).position ≡ from
      from_is = ap (λ (marks : Marks). (marked_in marks mark.group.key).position) go.at.marked ∙ ap (λ (one : Marked). one.position) (marked_is met mark.group (done ++ go.rest))

      order : from ≤ (mark.position).0
      order = subst (λ (n : ℕ). n ≤ (mark.position).0) from_is (earlier_is index go)

      taken : take from (log_of met mark.group) ++ entries ≡ take (mark.position).0 (log_of met mark.group)
      taken = subst (λ (n : ℕ). take n (log_of met mark.group) ++ entries ≡ take (mark.position).0 (log_of met mark.group)) from_is whole

-- ---- all of them

-- so far as the marks that are left
pub record OnWay (schema : Schema) (index : GlobalIndex) (met : List Met) (marks left : List Mark) : Type 0 where
  pub done : List Mark
  pub whole : done ++ left ≡ marks
  pub goes : GoOn schema index met done left

pub way_first : (schema : Schema) (index : GlobalIndex) (met : List Met) (old marks : List Mark) → AreAt schema index met old → lead_to old marks ≡ true → OnWay schema index met marks marks
way_first schema index met old marks are leads = record { done = []; whole = refl; goes = record { rest = old; at = are; leads = leads } }

pub way_last : (schema : Schema) (index : GlobalIndex) (met : List Met) (marks : List Mark) → OnWay schema index met marks [] → AreAt schema index met marks
way_last schema index met marks way = subst (AreAt schema index met) (sym (append-nil way.done) ∙ way.whole) (by way.goes.rest way.goes.leads way.goes.at)
  where
    by : (rest : List Mark) → lead_to rest [] ≡ true → AreAt schema index met (way.done ++ rest) → AreAt schema index met way.done
    by [] leads are = subst (AreAt schema index met) (append-nil way.done) are
    by (one ∷ rest) leads are = absurd (cc)

-- what is known of the next mark
pub record IsNext (schema : Schema) (index : GlobalIndex) (met : List Met) (mark : Mark) (done left : List Mark) : Type 0 where
  pub before : AllBefore mark.group done
  pub behind : AllAfter mark.group left
  pub within : (mark.position).0 ≤ prefix_of met mark.group
  pub goes : GoOn schema index met done (mark ∷ left)

pub next_is : (schema : Schema) (index : GlobalIndex) (met : List Met) (marks : List Mark) (mark : Mark) (left : List Mark) → Ascend marks → AreWithin met marks → (way : OnWay schema index met marks (mark ∷ left))
    → IsNext schema index met mark way.done left
next_is schema index met marks mark left ascend within way = record {
  before = before_one way.done mark left (subst Ascend (sym way.whole) ascend);
  behind = behind_one way.done mark left (subst Ascend (sym way.whole) ascend);
  within = (within_one met way.done mark left (subst (AreWithin met) (sym way.whole) within)).0;
  goes = way.goes;
}

pub way_next : (schema : Schema) (index : GlobalIndex) (met : List Met) (marks : List Mark) (mark : Mark) (done left : List Mark) → done ++ mark ∷ left ≡ marks → GoOn schema index met (done ++ mark ∷ []) left → OnWay schema index met marks left
way_next schema index met marks mark done left whole goes = record { done = done ++ mark ∷ []; whole = append_assoc done (mark ∷ []) left ∙ whole; goes = goes }
