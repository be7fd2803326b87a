-- A digest that notes what is applied.
use Rattle.std.proofs.Common.{◌≡◌, ◌∙◌, ap, sym, refl, subst, ℕ, zero, suc, ◌+◌, ◌<◌, ◌≤◌, ◌||◌, Bool, true, false, cond, List, [], ◌∷◌, ◌++◌, take, length, arith}
use Rattle.std.specs.Prelude.{Option, Some, None, unwrap_or}
use Rattle.std.specs.List.{list_any}
use Rattle.std.specs.Map.{lookup}
use Rattle.std.specs.BTreeMap.{BTreeMap, get, is_at}
use Rattle.mega_wal.specs.History.{group_cmp}
use Rattle.mega_pumps.specs.declared.digest.Digest.{Digest}
use Rattle.mega_pumps.specs.Notes.{Notes}
use Rattle.mega_base.specs.declared.names.GroupId.{GroupId}
use Rattle.mega_entry.specs.declared.content.Content.{Content}
use Rattle.mega_wal.specs.Kept.{is_group}
use Rattle.mega_wal.specs.Same.{same_group}
use Rattle.mega_wal.proofs.Sames.{same_group_equal, same_group_self}
use Rattle.mega_wal.proofs.Orders.{is_group_equal, is_group_is}
use Rattle.mega_node_laws.proofs.Applied.{applied_within}
use Rattle.mega_replica.specs.Applying.{applied, applied_log}
use Rattle.mega_rules.specs.Logs.{groups_of, log_of}
use Rattle.mega_rules.specs.Met.{Met}
use Rattle.mega_queues.specs.declared.queues.Queues.{Queues}
use Rattle.mega_queues.specs.Boxes.{Logs}
use Rattle.mega_queues.specs.Followed.{Represents}
use Rattle.mega_rules.proofs.Groups.{has, no_log}
use Rattle.mega_pumps.specs.Reach.{applied_fronts, fronts, through_at, with_log}

-- the front of one log is another
one_front : (log : Logs) (was now : GroupId → ℕ) (group : GroupId) (n : ℕ) → ((other : GroupId) → now other ≡ cond (is_group group other) n (was other)) → with_log (fronts log was) group (take n (log group)) ≡ fronts log now
one_front log was now group n set = λ i other. go other (same_group group other) refl i
  where
    there : (other : GroupId) → now other ≡ cond (same_group group other) n (was other)
    there other = set other ∙ ap (λ t. cond t n (was other)) (is_group_is group other)

    go : (other : GroupId) (t : Bool) → same_group group other ≡ t → cond t (take n (log group)) (take (was other) (log other)) ≡ take (now other) (log other)
    go other true same = ap (λ (g : GroupId). take n (log g)) (same_group_equal group other same) ∙ ap (λ m. take m (log other)) (sym (there other ∙ ap (λ t. cond t n (was other)) same))
    go other false same = ap (λ m. take m (log other)) (sym (there other ∙ ap (λ t. cond t n (was other)) same))

pub caught_in : (log : Logs) (was now : GroupId → ℕ) (group : GroupId) (n : ℕ) (queues : Queues) → ((other : GroupId) → now other ≡ cond (is_group group other) n (was other))
    → Represents (with_log (fronts log was) group (take n (log group))) queues → Represents (fronts log now) queues
caught_in log was now group n queues set kept = subst (λ (logs : Logs). Represents logs queues) (one_front log was now group n set) kept

pub stays_in : (was : GroupId → ℕ) (group : GroupId) (n : ℕ) → was group ≡ n → (other : GroupId) → was other ≡ cond (is_group group other) n (was other)
stays_in was group n is other = go (is_group group other) refl
  where
    go : (t : Bool) → is_group group other ≡ t → was other ≡ cond t n (was other)
    go true same = sym (ap was (is_group_equal group other same)) ∙ is
    go false same = refl

-- no more than is applied
pub within_still : (log : Logs) (stored was now : GroupId → ℕ) (group : GroupId) (n : ℕ) → n ≡ applied (log group) (stored group)
    → ((other : GroupId) → now other ≡ cond (is_group group other) n (was other)) → ((other : GroupId) → was other ≤ applied (log other) (stored other))
    → (other : GroupId) → now other ≤ applied (log other) (stored other)
within_still log stored was now group n is set within other = go (is_group group other) refl
  where
    go : (t : Bool) → is_group group other ≡ t → now other ≤ applied (log other) (stored other)
    go true same =
        let here : now other ≡ applied (log other) (stored other) = set other ∙ ap (λ t. cond t n (was other)) same ∙ is ∙ ap (λ (g : GroupId). applied (log g) (stored g)) (is_group_equal group other same) in
        omega (arith, here)
    go false same =
        let here : now other ≡ was other = set other ∙ ap (λ t. cond t n (was other)) same in
        let le = within other in
        omega (arith, here)

-- the groups that were looked at
either : (a b : Bool) → (a || b) ≡ true → (a ≡ false → b ≡ true)
either true b h none = cc
either false b h none = h

any_more : (test : GroupId → Bool) (groups : List GroupId) (group : GroupId) → list_any test (groups ++ group ∷ []) ≡ (list_any test groups || test group)
any_more test [] group = go (test group)
  where
    go : (t : Bool) → (t || false) ≡ (false || t)
    go true = refl
    go false = refl
any_more test (x ∷ groups) group = go (test x) (any_more test groups group)
  where
    go : (t : Bool) → list_any test (groups ++ group ∷ []) ≡ (list_any test groups || test group) → (t || list_any test (groups ++ group ∷ [])) ≡ ((t || list_any test groups) || test group)
    go true rest = refl
    go false rest = rest

pub in_front : (groups more : List GroupId) (group other : GroupId) → more ≡ groups ++ group ∷ [] → has other more ≡ true → same_group group other ≡ false → has other groups ≡ true
in_front groups more group other grown there apart = by (has other groups) refl
  where
    both : (has other groups || same_group group other) ≡ true
    both = sym (any_more (λ (one : GroupId). same_group one other) groups group) ∙ (ap (has other) (sym grown) ∙ there)

    by : (t : Bool) → has other groups ≡ t → has other groups ≡ true
    by true e = e
    by false e = let no : same_group group other ≡ true = either (has other groups) (same_group group other) both e in cc

pub looked_at : (log : Logs) (stored was now : GroupId → ℕ) (group : GroupId) (n : ℕ) (groups more : List GroupId) → more ≡ groups ++ group ∷ [] → n ≡ applied (log group) (stored group)
    → ((other : GroupId) → now other ≡ cond (is_group group other) n (was other)) → ((other : GroupId) → has other groups ≡ true → was other ≡ applied (log other) (stored other))
    → (other : GroupId) → has other more ≡ true → now other ≡ applied (log other) (stored other)
looked_at log stored was now group n groups more grown is set before other there = go (is_group group other) refl
  where
    go : (t : Bool) → is_group group other ≡ t → now other ≡ applied (log other) (stored other)
    go true same = set other ∙ ap (λ t. cond t n (was other)) same ∙ is ∙ ap (λ (g : GroupId). applied (log g) (stored g)) (is_group_equal group other same)
    go false apart = set other ∙ ap (λ t. cond t n (was other)) apart ∙ before other (in_front groups more group other grown there (sym (is_group_is group other) ∙ apart))

-- all that is applied is noted
pub all_noted : (met : List Met) (stored through : GroupId → ℕ) (queues : Queues) → ((other : GroupId) → has other (groups_of met) ≡ true → through other ≡ applied (log_of met other) (stored other))
    → Represents (fronts (log_of met) through) queues → Represents (applied_fronts (log_of met) stored) queues
all_noted met stored through queues there kept = subst (λ (logs : Logs). Represents logs queues) (λ i group. same group (has group (groups_of met)) refl i) kept
  where
    none : (n m : ℕ) (log : List Content) → log ≡ [] → take n log ≡ take m log
    none n m log is = ap (take n) is ∙ nothing n ∙ sym (ap (take m) is ∙ nothing m)
      where
        nothing : (k : ℕ) → take {A = Content} k [] ≡ []
        nothing zero = refl
        nothing (suc k) = refl

    same : (group : GroupId) (t : Bool) → has group (groups_of met) ≡ t → take (through group) (log_of met group) ≡ applied_log (log_of met group) (stored group)
    same group true is = ap (λ n. take n (log_of met group)) (there group is)
    same group false is = none (through group) (applied (log_of met group) (stored group)) (log_of met group) (no_log met group is)

-- ---- how far each log is noted, in a map

pub nothing_noted : (digest : Digest) (log : Logs) (stored : GroupId → ℕ) → digest.through.entries ≡ [] → Represents (λ group. []) digest.queues → Notes log stored digest
nothing_noted digest log stored none kept = record {
  queues = subst (λ (logs : Logs). Represents logs digest.queues) (λ i group. sym (ap (λ n. take n (log group)) (zero_there group)) i) kept;
  within = λ group. let is = zero_there group in omega (arith, is);
}
  where
    zero_there : (group : GroupId) → through_at digest.through group ≡ 0
    zero_there group = ap (λ (es : List (GroupId × ℕ)). unwrap_or (lookup (is_at (group_cmp group)) es) 0) none

pub set_there : (old new : BTreeMap GroupId ℕ) (group own : GroupId) (n : ℕ) → own ≡ group → ((q : GroupId) → get group_cmp new q ≡ cond (is_group own q) (Some n) (get group_cmp old q))
    → (other : GroupId) → through_at new other ≡ cond (is_group group other) n (through_at old other)
set_there old new group own n same updated other =
    ap (λ (o : Option ℕ). unwrap_or o 0) (updated other ∙ ap (λ (g : GroupId). cond (is_group g other) (Some n) (get group_cmp old other)) same) ∙ go (is_group group other)
  where
    go : (t : Bool) → unwrap_or (cond t (Some n) (get group_cmp old other)) 0 ≡ cond t n (through_at old other)
    go true = refl
    go false = refl
