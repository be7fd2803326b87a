-- One step of storing, at a place of a log.
use Rattle.std.proofs.Common.{◌≡◌, ◌⊎◌, ⊎_elim, ℕ, ◌+◌, ◌<◌, ◌≤◌, min, max, List, [], ◌∷◌, length, get_or, drop, sym, subst, arith}
use Rattle.mega_base.specs.declared.names.GroupId.{GroupId}
use Rattle.mega_entry.specs.declared.content.Write.{Write}
use Rattle.mega_entry.specs.declared.content.Content.{Content}
use Rattle.mega_disk.specs.VersionMaps.{Versions, Puts}
use Rattle.mega_replica.specs.Applying.{after_portion, after_read, writes_of, writes_through}
use Rattle.mega_replica.specs.declared.progress.Progress.{Progress}
use Rattle.mega_replica.specs.Stored.{Counts, GroupLogs, Tells, stored_with}
use Rattle.mega_replica.specs.Following.{IsPlace, FollowsGroup, count_of}
use Rattle.mega_replica.proofs.Places.{place_end, place_next, place_passed, place_total, place_writes, through_later, through_more, through_total}
use Rattle.mega_replica.proofs.Telling.{tells_count, tells_put}

-- the next write is stored
pub put_next : (group : GroupId) (log : GroupLogs) (counts : Counts) (e w : ℕ) (entry : Content) (rest : List Content) (writes : List Write) (write : Write) (old new : Versions)
    → drop e (log group) ≡ entry ∷ rest → entry.writes ≡ writes → w < length writes → write ≡ get_or writes w write → Puts write.key (e + 1) write.row old new
    → Tells old log (stored_with counts group (writes_through e (log group) + w)) → Tells new log (stored_with counts group (writes_through e (log group) + (w + 1)))
put_next group log counts e w entry rest writes write old new is same lt read puts =
    tells_put group log counts e w entry rest write old new is
    (subst (λ (ws : List Write). w < length ws) (sym same) lt) (subst (λ (ws : List Write). write ≡ get_or ws w write) (sym same) read) puts

module _ (log : GroupLogs) (counts : Counts) (group : GroupId) (p : Progress) (entry : Content) (rest : List Content) (is : drop p.entries (log group) ≡ entry ∷ rest) (old new : Versions) (stands : FollowsGroup old group p log counts) (w : ℕ)
    (le : w ≤ max p.writes (length entry.writes)) (tells : Tells new log (stored_with counts group (writes_through p.entries (log group) + w))) where
  no_more : w ≤ length entry.writes
  no_more = let before = place_writes p (log group) entry rest stands.place is in omega (arith, before, le)

  -- some more writes of the next entry
  pub stands_within : FollowsGroup new group (record { entries = p.entries; writes = w }) log counts
  stands_within = record { place = place_next (log group) p.entries w entry rest is no_more; versions = tells }

  module _ (all : length entry.writes ≤ w) where
    -- all of them
    pub count_passed : writes_through (p.entries + 1) (log group) + 0 ≡ writes_through p.entries (log group) + w
    count_passed = let more = through_more (log group) p.entries entry rest is in let most = no_more in omega (arith, more, most, all)

    pub stands_passed : FollowsGroup new group (record { entries = p.entries + 1; writes = 0 }) log counts
    stands_passed = record {
      place = place_passed (log group) p.entries entry rest is;
      versions = tells_count new log counts group (writes_through p.entries (log group) + w) (writes_through (p.entries + 1) (log group) + 0) (sym count_passed) tells;
    }

  -- no more than a read through a later position stores
  pub count_read : (position before : ℕ) → p.entries < position → writes_through p.entries (log group) + w ≤ max before (writes_through position (log group))
  count_read position before lt =
      let most = no_more in
      let more = through_more (log group) p.entries entry rest is in
      let later = through_later (p.entries + 1) position (log group) (omega (arith, lt)) in
      omega (arith, most, more, later)

-- a portion is stored once nothing is left of it, or of the log
pub portion_done : (log : List Content) (q : Progress) (before most left : ℕ) → IsPlace q log → count_of q log + left ≡ before + most → (left ≡ 0) ⊎ (count_of q log ≡ length (writes_of log))
    → count_of q log ≡ after_portion most log before
portion_done log q before most left place sum ends =
    let all = place_total q log place in
    ⊎_elim (λ none. let same : count_of q log ≡ min (length (writes_of log)) (before + most) = omega (arith, all, sum, none) in same)
    (λ whole. let same : count_of q log ≡ min (length (writes_of log)) (before + most) = omega (arith, all, sum, whole) in same)
    ends

pub portion_some : (log : List Content) (q : Progress) (before most : ℕ) → IsPlace q log → count_of q log ≤ before + most → count_of q log ≤ after_portion most log before
portion_some log q before most place le =
    let all = place_total q log place in
    let some : count_of q log ≤ min (length (writes_of log)) (before + most) = omega (arith, all, le) in some

-- a read has all that it needs once its position is reached, or the end of the log
pub read_done : (log : List Content) (q : Progress) (before position : ℕ) → IsPlace q log → before ≤ count_of q log → count_of q log ≤ after_read position log before → (position ≤ q.entries) ⊎ (drop q.entries log ≡ [])
    → count_of q log ≡ after_read position log before
read_done log q before position place low high ends =
    let enough : writes_through position log ≤ count_of q log = ⊎_elim
    (λ le. let later = through_later position q.entries log le in omega (arith, later))
    (λ none. let all = place_end q log place none in let within = through_total position log in omega (arith, all, within))
    ends
    in
    let same : count_of q log ≡ max before (writes_through position log) = (let top : count_of q log ≤ max before (writes_through position log) = high in omega (arith, low, enough, top)) in same
