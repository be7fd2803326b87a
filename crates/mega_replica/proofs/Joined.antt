-- What follows the logs once the writes of one group went on.
use Rattle.std.proofs.Common.{◌≡◌, ℕ, ◌≤◌, Bool, true, false, cond, List, [], ◌∷◌, length, None, refl, sym, ap, ◌∙◌, subst, arith}
use Rattle.std.specs.Prelude.{unwrap_or}
use Rattle.std.specs.Map.{lookup}
use Rattle.std.specs.BTreeMap.{BTreeMap, is_at}
use Rattle.mega_base.specs.declared.names.GroupId.{GroupId}
use Rattle.mega_entry.specs.declared.content.Content.{Content}
use Rattle.mega_disk.specs.VersionMaps.{Versions}
use Rattle.mega_replica.specs.Applying.{writes_of}
use Rattle.mega_wal.specs.History.{group_cmp}
use Rattle.mega_wal.specs.Same.{same_group}
use Rattle.mega_wal.specs.Kept.{is_group}
use Rattle.mega_wal.proofs.Orders.{is_group_is}
use Rattle.mega_wal.proofs.Sames.{same_group_equal}
use Rattle.mega_replica.specs.declared.progress.Progress.{Progress}
use Rattle.mega_replica.specs.Stored.{Counts, GroupLogs, Tells, last_write, stored_with}
use Rattle.mega_replica.specs.Following.{Follows, IsPlace, FollowsGroup, count_of, no_progress, progress_at}
use Rattle.mega_replica.proofs.Growing.{none_at}
use Rattle.mega_replica.proofs.Places.{place_total}
use Rattle.mega_replica.proofs.Telling.{count_own, count_other, counts_same, tells_count}

-- ---- before a group's writes go on

module _ (version : Versions) (at : GroupId → Progress) (log : GroupLogs) (stored : Counts) (group : GroupId) (follows : Follows version at log stored) where
  pub stored_total : stored group ≤ length (writes_of (log group))
  stored_total = let all = place_total (at group) (log group) (follows.places group) in let is = follows.counts group in omega (arith, all, is)

  pub count_before : (p : Progress) → p ≡ at group → count_of p (log group) ≡ stored group
  count_before p is = ap (λ (q : Progress). count_of q (log group)) is ∙ sym (follows.counts group)

  pub stands_before : (p : Progress) → p ≡ at group → FollowsGroup version group p log stored
  stands_before p is = record {
    place = subst (λ (q : Progress). IsPlace q (log group)) (sym is) (follows.places group);
    versions = subst (λ (counts : Counts). Tells version log counts) (counts_same stored group (count_of p (log group)) (sym (count_before p is))) follows.versions;
  }

  -- where all is as it was
  pub follows_still : (new : GroupId → Progress) → ((other : GroupId) → new other ≡ at other) → Follows version new log (stored_with stored group (stored group))
  follows_still new same =
      subst (λ (counts : Counts). Follows version new log counts) (counts_same stored group (stored group) refl)
      (subst (λ (progress : GroupId → Progress). Follows version progress log stored) (λ i other. sym (same other) i) follows)

-- ---- and after

module _ (old mid new : GroupId → Progress) (group : GroupId) (progress : Progress) (same : (other : GroupId) → mid other ≡ old other) (sets : (other : GroupId) → new other ≡ cond (is_group group other) progress (mid other)) where
  at_other : (other : GroupId) (test : Bool) → same_group group other ≡ test → new other ≡ cond test progress (old other)
  at_other other test is = sets other ∙ ap (λ (b : Bool). cond b progress (mid other)) (is_group_is group other ∙ is) ∙ ap (λ (p : Progress). cond test progress p) (same other)

  -- the group has its new progress, and its new count
  pub follows_on : (was version : Versions) (log : GroupLogs) (stored : Counts) (count : ℕ) → Follows was old log stored → FollowsGroup version group progress log stored → count_of progress (log group) ≡ count
      → Follows version new log (stored_with stored group count)
  follows_on was version log stored count follows stands is = record {
    places = λ other. places other (same_group group other) refl;
    counts = λ other. counts other (same_group group other) refl;
    versions = tells_count version log stored group (count_of progress (log group)) count is stands.versions;
  }
    where
      places : (other : GroupId) (test : Bool) → same_group group other ≡ test → IsPlace (new other) (log other)
      places other true at =
          let P : GroupId → Type 0 = λ g. IsPlace progress (log g) in
          subst (λ (p : Progress). IsPlace p (log other)) (sym (at_other other true at)) (subst P (same_group_equal group other at) stands.place)
      places other false apart = subst (λ (p : Progress). IsPlace p (log other)) (sym (at_other other false apart)) (follows.places other)

      counts : (other : GroupId) (test : Bool) → same_group group other ≡ test → stored_with stored group count other ≡ count_of (new other) (log other)
      counts other true at =
          let e = same_group_equal group other at in
          ap (stored_with stored group count) (sym e) ∙ count_own stored group count ∙ sym is ∙ ap (λ (g : GroupId). count_of progress (log g)) e
          ∙ ap (λ (p : Progress). count_of p (log other)) (sym (at_other other true at))
      counts other false apart = count_other stored group count other apart ∙ follows.counts other ∙ ap (λ (p : Progress). count_of p (log other)) (sym (at_other other false apart))

-- ---- before anything is stored

pub follows_nothing : (version : Versions) (progress : BTreeMap GroupId Progress) (log : GroupLogs) → progress.entries ≡ [] → ((key : List ℕ) (n : ℕ) → version key n ≡ None) → Follows version (progress_at progress) log (λ other. 0)
follows_nothing version progress log empty none = record {
  places = λ group. subst (λ (p : Progress). IsPlace p (log group)) (sym (begun group)) (record { entries = omega arith; writes = omega arith });
  counts = λ group. nothing (log group) ∙ ap (λ (p : Progress). count_of p (log group)) (sym (begun group));
  versions = λ group key only n. none key n ∙ ap (last_write key) (sym (none_at (log group) 0 n (omega arith)));
}
  where
    begun : (group : GroupId) → progress_at progress group ≡ no_progress
    begun group = ap (λ (es : List (GroupId × Progress)). unwrap_or (lookup (is_at (group_cmp group)) es) no_progress) empty

    nothing : (entries : List Content) → 0 ≡ count_of no_progress entries
    nothing [] = refl
    nothing (entry ∷ entries) = refl
