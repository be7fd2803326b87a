-- Rows that follow logs follow longer ones.
use Rattle.std.proofs.Common.{◌≡◌, ℕ, zero, suc, ◌+◌, ◌-◌, ◌≤◌, List, [], ◌∷◌, ◌++◌, length, take, drop, refl, sym, ap, ◌∙◌, subst, arith}
use Rattle.std.specs.List.{sum_by}
use Rattle.std.proofs.lemmas.List.{take-append-le, drop-append-le, length-append}
use Rattle.mega_base.specs.declared.names.GroupId.{GroupId}
use Rattle.mega_entry.specs.declared.content.Write.{Write}
use Rattle.mega_entry.specs.declared.content.Content.{Content}
use Rattle.mega_disk.specs.VersionMaps.{SameVersions, Versions}
use Rattle.mega_replica.specs.Applying.{writes_of}
use Rattle.mega_replica.specs.declared.progress.Progress.{Progress}
use Rattle.mega_replica.specs.Stored.{Counts, GroupLogs, last_write, stored_at, version_of}
use Rattle.mega_replica.specs.Following.{Follows, IsPlace, count_of, first_writes}
use Rattle.mega_replica.proofs.Places.{place_total}
use Rattle.mega_replica.proofs.Telling.{tells_same}

pub none_at : (log : List Content) (stored n : ℕ) → stored ≤ 0 → stored_at log stored n ≡ []
none_at [] stored n le = refl
none_at (entry ∷ log) stored zero le = refl
none_at (entry ∷ log) stored (suc zero) le = ap (λ m. take m entry.writes) (let same : stored ≡ 0 = omega (arith, le) in same) ∙ nothing entry.writes
  where
    nothing : (xs : List Write) → take 0 xs ≡ []
    nothing [] = refl
    nothing (x ∷ xs) = refl
none_at (entry ∷ log) stored (suc (suc n)) le = none_at log (stored - length entry.writes) (suc n) (omega (arith, le))

stored_more : (log more : List Content) (stored n : ℕ) → stored ≤ length (writes_of log) → stored_at (log ++ more) stored n ≡ stored_at log stored n
stored_more [] more stored n le = none_at more stored n le
stored_more (entry ∷ log) more stored zero le = refl
stored_more (entry ∷ log) more stored (suc zero) le = refl
stored_more (entry ∷ log) more stored (suc (suc n)) le =
    let all = length-append entry.writes (writes_of log) in
    stored_more log more (stored - length entry.writes) (suc n) (omega (arith, le, all))

place_more : (p : Progress) (log more : List Content) → IsPlace p log → IsPlace p (log ++ more)
place_more p log more place = record {
  entries = let all = length-append log more in let le = place.entries in omega (arith, all, le);
  writes = subst (λ (xs : List Content). p.writes ≤ length (first_writes xs)) (sym (drop-append-le p.entries log more place.entries)) (by (drop p.entries log) place.writes);
}
  where
    by : (left : List Content) → p.writes ≤ length (first_writes left) → p.writes ≤ length (first_writes (left ++ more))
    by [] le = let none : p.writes ≤ 0 = le in omega (arith, none)
    by (entry ∷ left) le = le

count_more : (p : Progress) (log more : List Content) → IsPlace p log → count_of p (log ++ more) ≡ count_of p log
count_more p log more place = ap (λ (front : List Content). sum_by (λ (entry : Content). length entry.writes) front + p.writes) (take-append-le p.entries log more place.entries)

pub follows_same : (old new : Versions) (progress : GroupId → Progress) (log : GroupLogs) (stored : Counts) → SameVersions old new → Follows old progress log stored → Follows new progress log stored
follows_same old new progress log stored same follows = record { places = follows.places; counts = follows.counts; versions = tells_same old new log stored same follows.versions }

module _ (version : Versions) (progress : GroupId → Progress) (log longer : GroupLogs) (stored : Counts) (more : GroupLogs) (begins : (group : GroupId) → longer group ≡ log group ++ more group) (follows : Follows version progress log stored) where
  few : (group : GroupId) → stored group ≤ length (writes_of (log group))
  few group = let le = place_total (progress group) (log group) (follows.places group) in let is = follows.counts group in omega (arith, le, is)

  same_version : (group : GroupId) (key : List ℕ) (n : ℕ) → version_of (longer group) (stored group) key n ≡ version_of (log group) (stored group) key n
  same_version group key n = ap (λ (entries : List Content). version_of entries (stored group) key n) (begins group) ∙ ap (last_write key) (stored_more (log group) (more group) (stored group) n (few group))

  pub grows : Follows version progress longer stored
  grows = record {
    places = λ group. subst (λ (entries : List Content). IsPlace (progress group) entries) (sym (begins group)) (place_more (progress group) (log group) (more group) (follows.places group));
    counts = λ group. follows.counts group ∙ sym (count_more (progress group) (log group) (more group) (follows.places group)) ∙ ap (count_of (progress group)) (sym (begins group));
    versions = λ group key only n. follows.versions group key (λ other apart m. sym (same_version other key m) ∙ only other apart m) n ∙ sym (same_version group key n);
  }
