-- What is kept of what is decided, once one position more is.
use Rattle.std.proofs.Common.{◌≡◌, ℕ, zero, suc, ◌-◌, ◌==◌, ◌≤◌, ◌&&◌, ◌||◌, Bool, true, false, cond, max, List, [], ◌∷◌, Option, Some, None, refl, sym, ap, ◌∙◌, subst, arith, Ordering, Less, Equal, Greater, nat_cmp}
use Rattle.std.specs.Ordering.{is_eq, ordering_then}
use Rattle.std.specs.BTreeMap.{get}
use Rattle.std.specs.BTreeSet.{contains}
use Rattle.std.proofs.lemmas.Bool.Decides.{nat_tests}
use Rattle.std.proofs.lemmas.Map.Text.{is_eq-slice_cmp}
use Rattle.std.proofs.lemmas.Slice.Eq.{bytes_eq-Decides}
use Rattle.mega_base.specs.declared.names.GroupId.{GroupId}
use Rattle.mega_base.specs.declared.names.NodeId.{NodeId}
use Rattle.mega_base.specs.declared.names.Position.{Position}
use Rattle.mega_entry.specs.declared.content.Content.{Content}
use Rattle.mega_syntax.specs.Names.{same}
use Rattle.mega_transcript.specs.declared.item.Item.{Item}
use Rattle.mega_transcript.specs.declared.item.Item.TheVariants.{Decide}
use Rattle.mega_base.specs.Climbing.{climb}
use Rattle.mega_transcript.specs.Counts.{greatest_of, group_cmp, is_decided, prefix_of}
use Rattle.mega_tally.specs.declared.reach.Reach.{Reach}
use Rattle.mega_tally.specs.declared.reach.Bounds.{Bounds}
use Rattle.mega_tally.specs.Reaching.{Reaches, ReachesOrNone, Widens, bounds_with, with_position}
use Rattle.mega_tally.specs.Following.{Decides, Follows, Log, Logs, log_cmp}
use Rattle.mega_base.proofs.Climbs.{climb_same, climb_skip}

-- ---- one log

or_true : (b : Bool) → (b || true) ≡ true
or_true true = refl
or_true false = refl

nat_is : (a b : ℕ) → is_eq (nat_cmp a b) ≡ (a == b)
nat_is a b = grind (arith, nat_tests)

prefix_on : (test : ℕ → Bool) (greatest position : ℕ) → climb (with_position position test) (max greatest position) 0 ≡ climb (with_position position test) (max greatest position - climb test greatest 0) (climb test greatest 0)
prefix_on test greatest position =
    climb_skip test (with_position position test) (λ n h. ap (λ t. (position == n) || t) h ∙ or_true (position == n)) greatest (max greatest position) 0 (omega arith)
    ∙ ap (λ n. climb (with_position position test) (max greatest position - n) (climb test greatest 0)) (let e : climb test greatest 0 - 0 ≡ climb test greatest 0 = omega arith in e)

pub reaches_on : (old new : Reach) (position : ℕ) → ((n : ℕ) → contains nat_cmp new.positions n ≡ (is_eq (nat_cmp position n) || contains nat_cmp old.positions n)) → new.bounds ≡ bounds_with new.positions old.bounds position
    → (test : ℕ → Bool) (most : ℕ) → Reaches old test most → Reaches new (with_position position test) (max most position)
reaches_on old new position put is test most r = record {
  positions = positions;
  greatest = ap (λ (b : Bounds). b.greatest) is ∙ ap (λ (n : ℕ). max n position) r.greatest;
  prefix = ap (λ (b : Bounds). b.prefix) is ∙ climb_same (contains nat_cmp new.positions) (with_position position test) positions (max old.bounds.greatest position - old.bounds.prefix) old.bounds.prefix
      ∙ ap (λ (n : ℕ). climb (with_position position test) (max n position - old.bounds.prefix) old.bounds.prefix) r.greatest
      ∙ ap (λ (n : ℕ). climb (with_position position test) (max most position - n) n) r.prefix ∙ sym (prefix_on test most position);
}
  where
    positions : (n : ℕ) → contains nat_cmp new.positions n ≡ with_position position test n
    positions n = put n ∙ ap (λ (t : Bool). t || contains nat_cmp old.positions n) (nat_is position n) ∙ ap (λ (t : Bool). (position == n) || t) (r.positions n)

-- ---- equal keys

then_is : (o p : Ordering) → is_eq (ordering_then o p) ≡ (is_eq o && is_eq p)
then_is Less p = refl
then_is Equal p = refl
then_is Greater p = refl

log_is : (a b : Log) → is_eq (log_cmp a b) ≡ (same a.0.key b.0.key && a.1 == b.1)
log_is a b = then_is (group_cmp a.0 b.0) (nat_cmp a.1 b.1) ∙ (ap (λ t. t && is_eq (nat_cmp a.1 b.1)) (is_eq-slice_cmp a.0.key b.0.key) ∙ ap (λ t. same a.0.key b.0.key && t) (nat_is a.1 b.1))

self_log : (g : GroupId) (n : ℕ) → (same g.key g.key && n == n) ≡ true
self_log g n = ap (λ t. t && n == n) ((bytes_eq-Decides g.key g.key).1 refl) ∙ (let e : (n == n) ≡ true = grind (arith, nat_tests) in e)

group_is : (g h : GroupId) → same g.key h.key ≡ true → g ≡ h
group_is g h e = ap (λ k. let r : GroupId = record { key = k } in r) ((bytes_eq-Decides g.key h.key).0 e)

same_log : (g h : GroupId) (m n : ℕ) → (same g.key h.key && m == n) ≡ true → (g ≡ h) × (m ≡ n)
same_log g h m n e = by (same g.key h.key) refl e
  where
    by : (b : Bool) → same g.key h.key ≡ b → (b && m == n) ≡ true → (g ≡ h) × (m ≡ n)
    by true s t = (group_is g h s, grind (arith, nat_tests))
    by false s t = absurd (cc)

-- ---- what stands of one test stands of another that is the same

stands_as : (kept : Option Reach) (f g : ℕ → Bool) (m n : ℕ) → ((k : ℕ) → f k ≡ g k) → m ≡ n → ReachesOrNone kept f m → ReachesOrNone kept g n
stands_as None f g m n alike is none = (λ k. sym (alike k) ∙ none.0 k, sym is ∙ none.1)
stands_as (Some reach) f g m n alike is r = record {
  positions = λ k. r.positions k ∙ alike k;
  greatest = r.greatest ∙ is;
  prefix = r.prefix ∙ climb_same f g alike m 0 ∙ ap (λ (k : ℕ). climb g k 0) is;
}

-- what was kept of a log is taken out, and put back with one position more
pub keeps_decides : (old mid new : Logs) (log : Log) (position last : ℕ) (kept : Option Reach) (reach : Reach) → kept ≡ get log_cmp old log → ((other : Log) → get log_cmp mid other ≡ cond (is_eq (log_cmp log other)) None (get log_cmp old other))
    → Widens kept reach position last → ((other : Log) → get log_cmp new other ≡ cond (is_eq (log_cmp log other)) (Some reach) (get log_cmp mid other)) → Decides old new log position last
keeps_decides old mid new log position last kept reach found left wider put = record {
  own = λ test most stands. subst (λ one. ReachesOrNone one (with_position position test) (max most position)) (sym here) (wider.on test most (subst (λ one. ReachesOrNone one test most) (sym found) stands));
  same = λ other apart. put other ∙ ap (λ (t : Bool). cond t (Some reach) (get log_cmp mid other)) apart ∙ left other ∙ ap (λ (t : Bool). cond t None (get log_cmp old other)) apart;
  through = λ test most stands. let r : Reaches reach test most = subst (λ one. ReachesOrNone one test most) here stands in sym wider.through ∙ r.prefix;
}
  where
    here : get log_cmp new log ≡ Some reach
    here = put log ∙ ap (λ (t : Bool). cond t (Some reach) (get log_cmp mid log)) (log_is log log ∙ self_log log.0 log.1)

-- ---- all logs

module _ (old new : Logs) (node : NodeId) (g : GroupId) (position : Position) (prefix : ℕ) (entry : Content) (tape : List Item) (decides : Decides old new (g, node.0) position.0 prefix) (follows : Follows old tape) where
  abbrev after : List Item
  after = Decide node g position entry ∷ tape

  tests : (n : ℕ) → with_position position.0 (is_decided tape g node.0) n ≡ is_decided after g node.0 n
  tests n = ap (λ (t : Bool). (t && position.0 == n) || is_decided tape g node.0 n) (sym (self_log g node.0))

  greatest : max (greatest_of tape g node.0) position.0 ≡ greatest_of after g node.0
  greatest = sym (ap (λ (t : Bool). cond t (max (greatest_of tape g node.0) position.0) (greatest_of tape g node.0)) (self_log g node.0))

  own : ReachesOrNone (get log_cmp new (g, node.0)) (is_decided after g node.0) (greatest_of after g node.0)
  own =
      stands_as (get log_cmp new (g, node.0)) (with_position position.0 (is_decided tape g node.0)) (is_decided after g node.0) (max (greatest_of tape g node.0) position.0) (greatest_of after g node.0) tests greatest
      (decides.own (is_decided tape g node.0) (greatest_of tape g node.0) (follows (g, node.0)))

  each : (log : Log) (b : Bool) → (same g.key log.0.key && node.0 == log.1) ≡ b → ReachesOrNone (get log_cmp new log) (is_decided after log.0 log.1) (greatest_of after log.0 log.1)
  each log true is =
      let at = same_log g log.0 node.0 log.1 is in
      coe 0 1 (i. ReachesOrNone (get log_cmp new (at.0 i, at.1 i)) (is_decided after (at.0 i) (at.1 i)) (greatest_of after (at.0 i) (at.1 i))) own
  each log false is =
      subst (λ kept. ReachesOrNone kept (is_decided after log.0 log.1) (greatest_of after log.0 log.1)) (sym (decides.same log (log_is (g, node.0) log ∙ is)))
      (stands_as (get log_cmp old log) (is_decided tape log.0 log.1) (is_decided after log.0 log.1) (greatest_of tape log.0 log.1) (greatest_of after log.0 log.1)
      (λ n. sym (ap (λ (t : Bool). (t && position.0 == n) || is_decided tape log.0 log.1 n) is)) (sym (ap (λ (t : Bool). cond t (max (greatest_of tape log.0 log.1) position.0) (greatest_of tape log.0 log.1)) is))
      (follows log))

  pub follows_on : Follows new after
  follows_on log = each log (same g.key log.0.key && node.0 == log.1) refl

  pub prefix_is : prefix ≡ prefix_of after g node.0
  prefix_is = decides.through (is_decided after g node.0) (greatest_of after g node.0) own
