-- The logs of a node are those of what it decided.
use Rattle.std.proofs.Common.{◌≡◌, ℕ, zero, suc, ◌+◌, List, ◌∷◌, length, Option, Some, None, refl, sym, ap, ◌∙◌}
use Rattle.std.specs.Prelude.{is_some}
use Rattle.mega_base.specs.declared.names.GroupId.{GroupId}
use Rattle.mega_entry.specs.declared.content.Content.{Content}
use Rattle.mega_base.specs.Climbing.{climb}
use Rattle.mega_wal.specs.History.{decided_of, newest_of as kept_newest}
use Rattle.mega_base.proofs.Climbs.{climb_same}
use Rattle.mega_rules.specs.Met.{Met}
use Rattle.mega_rules.specs.Logs.{decided, decided_from, log_of, newest_of, prefix_of, then_more}
use Rattle.mega_voter.specs.Journal.{journal_of}
use Rattle.mega_voter.proofs.Folds.{decided_is, newest_is}
use Rattle.mega_voter.proofs.Prefixes.{prefix_is}
use Rattle.mega_served_laws.specs.Alike.{KeptAlike}

whole : (met : List Met) (group : GroupId) (most n : ℕ) → decided_from met group (length (decided_from met group most n)) n ≡ decided_from met group most n
whole met group zero n = refl
whole met group (suc most) n = by (decided met group n) refl (whole met group most (n + 1))
  where
    more : List Content
    more = decided_from met group most (n + 1)

    by : (found : Option Content) → decided met group n ≡ found → decided_from met group (length more) (n + 1) ≡ more
        → decided_from met group (length (then_more found more)) n ≡ then_more found more
    by None is rest = refl
    by (Some entry) is rest = ap (λ (o : Option Content). then_more o (decided_from met group (length more) (n + 1))) is ∙ ap (λ (entries : List Content). entry ∷ entries) rest

same_from : (a b : List Met) (group : GroupId) → ((n : ℕ) → decided a group n ≡ decided b group n) → (most n : ℕ) → decided_from a group most n ≡ decided_from b group most n
same_from a b group same zero n = refl
same_from a b group same (suc most) n = λ i. then_more (same n i) (same_from a b group same most (n + 1) i)

climbs : (met : List Met) (group : GroupId) → prefix_of met group ≡ climb (λ n. is_some (decided met group n)) (newest_of met group) 0
climbs met group =
    sym (prefix_is met group)
    ∙ climb_same (λ n. is_some (kept n)) (λ n. is_some (decided met group n)) (λ n. ap is_some (decided_is met group n)) newest 0
    ∙ ap (λ n. climb (λ n. is_some (decided met group n)) n 0) (newest_is met group)
  where
    kept : ℕ → Option Content
    kept = decided_of (journal_of met) group

    newest : ℕ
    newest = kept_newest (journal_of met) group

pub prefix_alike : (a b : List Met) → KeptAlike a b → (group : GroupId) → prefix_of a group ≡ prefix_of b group
prefix_alike a b h group =
    climbs a group
    ∙ climb_same (λ n. is_some (decided a group n)) (λ n. is_some (decided b group n)) (λ n. ap is_some (h.decides group n)) (newest_of a group) 0
    ∙ ap (λ n. climb (λ n. is_some (decided b group n)) n 0) (h.newest group)
    ∙ sym (climbs b group)

pub log_alike : (a b : List Met) → KeptAlike a b → (group : GroupId) → log_of a group ≡ log_of b group
log_alike a b h group =
    sym (whole a group (length a) 1)
    ∙ same_from a b group (h.decides group) (prefix_of a group) 1
    ∙ ap (λ most. decided_from b group most 1) (prefix_alike a b h group)
    ∙ whole b group (length b) 1
