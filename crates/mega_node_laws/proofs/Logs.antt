-- The decided prefixes of what a node met are those of its journal; they only grow, and only decisions change them.
use Rattle.std.proofs.Common.{◌≡◌, ℕ, zero, suc, ◌+◌, ◌==◌, ◌&&◌, ◌≤◌, Bool, true, false, cond, List, [], ◌∷◌, ◌++◌, length, take, Option, Some, None, refl, sym, ap, ◌∙◌, arith}
use Rattle.std.specs.List.{All, cons_option}
use Rattle.std.proofs.lemmas.Bool.Decides.{nat_tests}
use Rattle.std.proofs.lemmas.List.{append-nil, append_assoc, length-append, take-append-le, take_all}
use Rattle.std.proofs.lemmas.List.Elements.{All-head, All-tail}
use Rattle.mega_base.specs.declared.names.GroupId.{GroupId}
use Rattle.mega_entry.specs.declared.content.Content.{Content}
use Rattle.mega_wal.specs.declared.item.JournalItem.{JournalItem}
use Rattle.mega_wal.specs.Same.{same_group}
use Rattle.mega_wal.specs.History.{decided_of, prefix_of as kept_prefix}
use Rattle.mega_wal.proofs.Sames.{same_group_equal}
use Rattle.mega_voter.specs.of_rules.Met.{Met, Crashes, Decides}
use Rattle.mega_voter.specs.of_rules.Logs.{decided, decided_from, first_of, groups_of, log_of, newest_of, prefix_of, then_more}
use Rattle.mega_voter.specs.of_rules.Steps.{onto}
use Rattle.mega_replica.specs.Stored.{entries_from, log_in, then_more as then_kept}
use Rattle.mega_replica.proofs.Logs.{log_grows}
use Rattle.mega_voter.specs.Journal.{item_of, journal_of}
use Rattle.mega_voter.proofs.Folds.{decided_is}
use Rattle.mega_voter.proofs.Prefixes.{prefix_is}
use Rattle.mega_node_laws.specs.Deciding.{IsNoDecision, SameLogs, is_decision}

-- ---- the journal's logs

-- as many steps as there are entries find them all
whole : (met : List Met) (group : GroupId) (most n : ℕ) → decided_from met group (length (decided_from met group most n)) n ≡ decided_from met group most n
whole met group zero n = refl
whole met group (suc most) n = by (decided met group n) refl (whole met group most (n + 1))
  where
    more : List Content
    more = decided_from met group most (n + 1)

    by : (found : Option Content) → decided met group n ≡ found → decided_from met group (length more) (n + 1) ≡ more
        → decided_from met group (length (then_more found more)) n ≡ then_more found more
    by None is rest = refl
    by (Some entry) is rest =
        ap (λ (o : Option Content). then_more o (decided_from met group (length more) (n + 1))) is ∙ ap (λ (entries : List Content). entry ∷ entries) rest

same_entries : (met : List Met) (group : GroupId) (kept : ℕ → Option Content) → ((n : ℕ) → kept n ≡ decided met group n) → (most n : ℕ) → entries_from kept most n ≡ decided_from met group most n
same_entries met group kept same zero n = refl
same_entries met group kept same (suc most) n =
    ap (λ (o : Option Content). then_kept o (entries_from kept most (n + 1))) (same n) ∙ by (decided met group n) (same_entries met group kept same most (n + 1))
  where
    by : (found : Option Content) → entries_from kept most (n + 1) ≡ decided_from met group most (n + 1)
        → then_kept found (entries_from kept most (n + 1)) ≡ then_more found (decided_from met group most (n + 1))
    by None rest = refl
    by (Some entry) rest = ap (λ (entries : List Content). entry ∷ entries) rest

pub log_is : (met : List Met) (group : GroupId) → log_of met group ≡ log_in (journal_of met) group
log_is met group =
    sym (whole met group (length met) 1)
    ∙ ap (λ (most : ℕ). decided_from met group most 1) (sym (prefix_is met group))
    ∙ sym (same_entries met group (decided_of (journal_of met) group) (decided_is met group) (kept_prefix (journal_of met) group) 1)

-- ---- what decides the same has the same logs

same_from : (met more : List Met) (group : GroupId) → ((n : ℕ) → decided more group n ≡ decided met group n) → (most n : ℕ) → decided_from more group most n ≡ decided_from met group most n
same_from met more group same zero n = refl
same_from met more group same (suc most) n =
    ap (λ (o : Option Content). then_more o (decided_from more group most (n + 1))) (same n)
    ∙ ap (λ (entries : List Content). then_more (decided met group n) entries) (same_from met more group same most (n + 1))

pub same_log : (one : Met) (met : List Met) (group : GroupId) → ((n : ℕ) → decided (one ∷ met) group n ≡ decided met group n) → log_of (one ∷ met) group ≡ log_of met group
same_log one met group same =
    same_from (Crashes ∷ met) (one ∷ met) group same (suc (length met)) 1
    ∙ log_is (Crashes ∷ met) group ∙ sym (log_is met group)

-- ---- what is no decision

pub decided_stays : (one : Met) (met : List Met) (group : GroupId) (n : ℕ) → is_decision one ≡ false → decided (one ∷ met) group n ≡ decided met group n
decided_stays (Decides other position entry) met group n silent = absurd (cc)
decided_stays _ met group n silent = refl

pub newest_stays : (one : Met) (met : List Met) (group : GroupId) → is_decision one ≡ false → newest_of (one ∷ met) group ≡ newest_of met group
newest_stays (Decides other position entry) met group silent = absurd (cc)
newest_stays _ met group silent = refl

pub groups_stay : (one : Met) (met : List Met) → is_decision one ≡ false → groups_of (one ∷ met) ≡ groups_of met
groups_stay (Decides other position entry) met silent = absurd (cc)
groups_stay _ met silent = refl

pub log_stays : (one : Met) (met : List Met) (group : GroupId) → is_decision one ≡ false → log_of (one ∷ met) group ≡ log_of met group
log_stays one met group silent = same_log one met group (λ n. decided_stays one met group n silent)

pub prefix_stays : (one : Met) (met : List Met) (group : GroupId) → is_decision one ≡ false → prefix_of (one ∷ met) group ≡ prefix_of met group
prefix_stays one met group silent = ap (λ (log : List Content). length log) (log_stays one met group silent)

-- and a whole list of such
pub decided_after : (items met : List Met) (group : GroupId) (n : ℕ) → All IsNoDecision items → decided (onto items met) group n ≡ decided met group n
decided_after [] met group n silent = refl
decided_after (one ∷ items) met group n silent = decided_after items (one ∷ met) group n (All-tail IsNoDecision one items silent) ∙ decided_stays one met group n (All-head IsNoDecision one items silent)

pub newest_after : (items met : List Met) (group : GroupId) → All IsNoDecision items → newest_of (onto items met) group ≡ newest_of met group
newest_after [] met group silent = refl
newest_after (one ∷ items) met group silent = newest_after items (one ∷ met) group (All-tail IsNoDecision one items silent) ∙ newest_stays one met group (All-head IsNoDecision one items silent)

pub groups_after : (items met : List Met) → All IsNoDecision items → groups_of (onto items met) ≡ groups_of met
groups_after [] met silent = refl
groups_after (one ∷ items) met silent = groups_after items (one ∷ met) (All-tail IsNoDecision one items silent) ∙ groups_stay one met (All-head IsNoDecision one items silent)

pub log_after : (items met : List Met) (group : GroupId) → All IsNoDecision items → log_of (onto items met) group ≡ log_of met group
log_after [] met group silent = refl
log_after (one ∷ items) met group silent = log_after items (one ∷ met) group (All-tail IsNoDecision one items silent) ∙ log_stays one met group (All-head IsNoDecision one items silent)

pub prefix_after : (items met : List Met) (group : GroupId) → All IsNoDecision items → prefix_of (onto items met) group ≡ prefix_of met group
prefix_after items met group silent = ap (λ (log : List Content). length log) (log_after items met group silent)

-- the same is decided
pub same_self : (met : List Met) → SameLogs met met
same_self met = record { decisions = λ group n. refl; logs = λ group. refl; prefixes = λ group. refl; newest = λ group. refl; groups = refl }

pub same_more : (one : Met) (base met : List Met) → is_decision one ≡ false → SameLogs base met → SameLogs base (one ∷ met)
same_more one base met silent h = record {
  decisions = λ group n. decided_stays one met group n silent ∙ h.decisions group n;
  logs = λ group. log_stays one met group silent ∙ h.logs group;
  prefixes = λ group. prefix_stays one met group silent ∙ h.prefixes group;
  newest = λ group. newest_stays one met group silent ∙ h.newest group;
  groups = groups_stay one met silent ∙ h.groups;
}

pub same_after : (items base met : List Met) → All IsNoDecision items → SameLogs base met → SameLogs base (onto items met)
same_after [] base met silent h = h
same_after (one ∷ items) base met silent h = same_after items base (one ∷ met) (All-tail IsNoDecision one items silent) (same_more one base met (All-head IsNoDecision one items silent) h)

-- ---- logs grow

grown : (item : Option JournalItem) (items : List JournalItem) (group : GroupId) → (more : List Content) × (log_in (cons_option item items) group ≡ log_in items group ++ more)
grown None items group = ([], sym (append-nil (log_in items group)))
grown (Some item) items group = log_grows item items group

pub log_more : (one : Met) (met : List Met) (group : GroupId) → (more : List Content) × (log_of (one ∷ met) group ≡ log_of met group ++ more)
log_more one met group = (rest.0, log_is (one ∷ met) group ∙ rest.1 ∙ ap (λ (log : List Content). log ++ rest.0) (sym (log_is met group)))
  where
    rest : (more : List Content) × (log_in (journal_of (one ∷ met)) group ≡ log_in (journal_of met) group ++ more)
    rest = grown (item_of met one) (journal_of met) group

pub log_more_after : (items met : List Met) (group : GroupId) → (more : List Content) × (log_of (onto items met) group ≡ log_of met group ++ more)
log_more_after [] met group = ([], sym (append-nil (log_of met group)))
log_more_after (one ∷ items) met group = by (log_more one met group) (log_more_after items (one ∷ met) group)
  where
    by : (more : List Content) × (log_of (one ∷ met) group ≡ log_of met group ++ more) → (more : List Content) × (log_of (onto items (one ∷ met)) group ≡ log_of (one ∷ met) group ++ more)
        → (more : List Content) × (log_of (onto items (one ∷ met)) group ≡ log_of met group ++ more)
    by first later =
        (first.0 ++ later.0, later.1 ∙ ap (λ (log : List Content). log ++ later.0) first.1 ∙ append_assoc (log_of met group) first.0 later.0)

-- the front of the longer log
front_is : (log longer more : List Content) → longer ≡ log ++ more → take (length log) longer ≡ log
front_is log longer more is =
    ap (take (length log)) is ∙ take-append-le (length log) log more (let le : length log ≤ length log = omega arith in le) ∙ take_all (length log) log (let le : length log ≤ length log = omega arith in le)

longer_is : (log longer more : List Content) → longer ≡ log ++ more → length log ≤ length longer
longer_is log longer more is = let size : length longer ≡ length (log ++ more) = ap (λ (l : List Content). length l) is in let sum = length-append log more in omega (arith, size, sum)

pub log_front : (one : Met) (met : List Met) (group : GroupId) → take (prefix_of met group) (log_of (one ∷ met) group) ≡ log_of met group
log_front one met group = let rest = log_more one met group in front_is (log_of met group) (log_of (one ∷ met) group) rest.0 rest.1

pub log_front_after : (items met : List Met) (group : GroupId) → take (prefix_of met group) (log_of (onto items met) group) ≡ log_of met group
log_front_after items met group = let rest = log_more_after items met group in front_is (log_of met group) (log_of (onto items met) group) rest.0 rest.1

pub prefix_grows : (one : Met) (met : List Met) (group : GroupId) → prefix_of met group ≤ prefix_of (one ∷ met) group
prefix_grows one met group = let rest = log_more one met group in longer_is (log_of met group) (log_of (one ∷ met) group) rest.0 rest.1

pub prefix_grows_after : (items met : List Met) (group : GroupId) → prefix_of met group ≤ prefix_of (onto items met) group
prefix_grows_after items met group = let rest = log_more_after items met group in longer_is (log_of met group) (log_of (onto items met) group) rest.0 rest.1

-- ---- what a decision leaves

pub decision_more : (g : GroupId) (p : ℕ) (e : Content) (met : List Met) (group : GroupId) → (more : List Content) × (log_of (Decides g p e ∷ met) group ≡ log_of met group ++ more)
decision_more g p e met group = log_more (Decides g p e) met group

pub other_decided : (g : GroupId) (p : ℕ) (e : Content) (met : List Met) (group : GroupId) (n : ℕ) → same_group g group ≡ false → decided (Decides g p e ∷ met) group n ≡ decided met group n
other_decided g p e met group n apart = ap (λ (t : Bool). cond (t && p == n) (first_of (decided met group n) e) (decided met group n)) apart

pub other_log : (g : GroupId) (p : ℕ) (e : Content) (met : List Met) (group : GroupId) → same_group g group ≡ false → log_of (Decides g p e ∷ met) group ≡ log_of met group
other_log g p e met group apart = same_log (Decides g p e) met group (λ n. other_decided g p e met group n apart)

pub again_decided : (g : GroupId) (p : ℕ) (e found : Content) (met : List Met) (group : GroupId) (n : ℕ) → decided met g p ≡ Some found → decided (Decides g p e ∷ met) group n ≡ decided met group n
again_decided g p e found met group n was = by (same_group g group) (p == n) refl refl
  where
    number_is : (p == n) ≡ true → p ≡ n
    number_is at = grind (arith, nat_tests)

    by : (a b : Bool) → same_group g group ≡ a → (p == n) ≡ b → cond (a && b) (first_of (decided met group n) e) (decided met group n) ≡ decided met group n
    by true true is at =
        let here : decided met group n ≡ Some found = sym (λ i. decided met (same_group_equal g group is i) (number_is at i)) ∙ was in
        ap (λ (o : Option Content). first_of o e) here ∙ sym here
    by true false is at = refl
    by false b is at = refl

pub again_log : (g : GroupId) (p : ℕ) (e found : Content) (met : List Met) (group : GroupId) → decided met g p ≡ Some found → log_of (Decides g p e ∷ met) group ≡ log_of met group
again_log g p e found met group was = same_log (Decides g p e) met group (λ n. again_decided g p e found met group n was)
