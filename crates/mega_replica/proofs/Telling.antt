-- Versions that tell what is stored, as one more write is stored.
use Rattle.std.proofs.Common.{◌≡◌, ℕ, suc, ◌+◌, ◌<◌, ⊎_elim, Bool, true, false, cond, List, ◌∷◌, length, get_or, drop, Some, None, refl, sym, ap, ◌∙◌, subst, arith}
use Rattle.std.proofs.lemmas.Bool.{cases_eq}
use Rattle.mega_base.specs.declared.names.GroupId.{GroupId}
use Rattle.mega_entry.specs.declared.content.Write.{Write}
use Rattle.mega_entry.specs.declared.content.Content.{Content}
use Rattle.mega_disk.specs.VersionMaps.{Versions, Puts, SameVersions, or_else}
use Rattle.mega_index.specs.Rows.{same_key}
use Rattle.mega_index.proofs.Turning.{same_key-Decides}
use Rattle.mega_index.proofs.KeyLists.{key_is, key_apart}
use Rattle.mega_wal.specs.Same.{same_group}
use Rattle.mega_wal.proofs.Sames.{same_group_equal, same_group_self}
use Rattle.mega_replica.specs.Applying.{writes_through}
use Rattle.mega_replica.specs.Stored.{Counts, GroupLogs, IsOnlyOf, Tells, stored_with, version_of}
use Rattle.mega_replica.proofs.Writing.{Version, by_write, version_here, version_elsewhere}

pub group_apart : (a b : GroupId) → same_group a b ≡ false → a ≡ b → ⊥
group_apart a b h is = let yes : same_group a b ≡ true = ap (same_group a) (sym is) ∙ same_group_self a in cc

-- ---- counts

pub count_own : (counts : Counts) (group : GroupId) (count : ℕ) → stored_with counts group count group ≡ count
count_own counts group count = ap (λ (b : Bool). cond b count (counts group)) (same_group_self group)

pub count_other : (counts : Counts) (group : GroupId) (count : ℕ) (other : GroupId) → same_group group other ≡ false → stored_with counts group count other ≡ counts other
count_other counts group count other is = ap (λ (b : Bool). cond b count (counts other)) is

pub counts_same : (counts : Counts) (group : GroupId) (count : ℕ) → counts group ≡ count → counts ≡ stored_with counts group count
counts_same counts group count is = λ i other. go other (same_group group other) refl i
  where
    go : (other : GroupId) (test : Bool) → same_group group other ≡ test → counts other ≡ cond test count (counts other)
    go other true e = ap counts (sym (same_group_equal group other e)) ∙ is
    go other false e = refl

-- the same versions tell the same
pub tells_same : (old new : Versions) (log : GroupLogs) (counts : Counts) → SameVersions old new → Tells old log counts → Tells new log counts
tells_same old new log counts same tells = λ group key only n. same key n ∙ tells group key only n

pub tells_count : (version : Versions) (log : GroupLogs) (counts : Counts) (group : GroupId) (a b : ℕ) → a ≡ b → Tells version log (stored_with counts group a) → Tells version log (stored_with counts group b)
tells_count version log counts group a b is = subst (λ (n : ℕ). Tells version log (stored_with counts group n)) is

-- ---- one more write

either_part : (a b : Version) → or_else a b ≡ None → (a ≡ None) × (b ≡ None)
either_part None b is = (refl, is)
either_part (Some row) b is = absurd cc

module _ (group : GroupId) (log : GroupLogs) (counts : Counts) (e w : ℕ) (entry : Content) (rest : List Content) (write : Write) (old new : Versions)
    (is : drop e (log group) ≡ entry ∷ rest) (lt : w < length entry.writes) (read : write ≡ get_or entry.writes w write) (puts : Puts write.key (e + 1) write.row old new) where
  abbrev count : ℕ
  count = writes_through e (log group) + w

  abbrev more : ℕ
  more = writes_through e (log group) + (w + 1)

  suc_is : suc e ≡ e + 1
  suc_is = omega arith

  -- other keys, and other positions, keep their versions
  kept : (key : List ℕ) (n : ℕ) → (key ≡ write.key → n ≡ suc e → ⊥) → new key n ≡ old key n
  kept key n apart = puts.elsewhere key n (λ same at. apart same (at ∙ sym suc_is))

  at_entry : (key : List ℕ) → new key (suc e) ≡ or_else (by_write write key) (old key (suc e))
  at_entry key = go (same_key write.key key) refl
    where
      go : (test : Bool) → same_key write.key key ≡ test → new key (suc e) ≡ or_else (cond test (Some write.row) None) (old key (suc e))
      go true same = ap (λ (k : List ℕ). new k (suc e)) (sym (key_is write.key key same)) ∙ ap (new write.key) suc_is ∙ puts.here
      go false other = kept key (suc e) (λ same at. key_apart write.key key other (sym same))

  -- what a version of the log becomes
  follows_on : (key : List ℕ) (n : ℕ) → old key n ≡ version_of (log group) count key n → new key n ≡ version_of (log group) more key n
  follows_on key n was = ⊎_elim
      (λ at. ap (new key) at ∙ at_entry key
      ∙ ap (λ (v : Version). or_else (by_write write key) v) (ap (old key) (sym at) ∙ was ∙ ap (version_of (log group) count key) at)
      ∙ sym (version_here (log group) e w entry rest is lt write read key) ∙ ap (version_of (log group) more key) (sym at))
      (λ apart. kept key n (λ same at. apart at) ∙ was ∙ sym (version_elsewhere (log group) e w entry rest is lt write read key n apart))
      (cases_eq n (suc e))

  -- a key of which the log has no version is none of this write's
  unwritten : (key : List ℕ) → ((n : ℕ) → version_of (log group) more key n ≡ None) → (by_write write key ≡ None) × ((n : ℕ) → version_of (log group) count key n ≡ None)
  unwritten key none = (
    (at_once).0,
    λ n. ⊎_elim
        (λ at. ap (version_of (log group) count key) at ∙ at_once.1)
        (λ apart. sym (version_elsewhere (log group) e w entry rest is lt write read key n apart) ∙ none n)
        (cases_eq n (suc e)),
  )
    where
      at_once : (by_write write key ≡ None) × (version_of (log group) count key (suc e) ≡ None)
      at_once = either_part (by_write write key) (version_of (log group) count key (suc e)) (sym (version_here (log group) e w entry rest is lt write read key) ∙ none (suc e))

  untouched : (key : List ℕ) (n : ℕ) → by_write write key ≡ None → new key n ≡ old key n
  untouched key n none = kept key n (λ same at. written key (sym same) none)
    where
      some_none : Some write.row ≡ None → ⊥
      some_none h = cc

      written : (k : List ℕ) → write.key ≡ k → by_write write k ≡ None → ⊥
      written k same h = some_none (sym (ap (λ (b : Bool). cond b (Some write.row) None) ((same_key-Decides write.key k).1 same)) ∙ h)

  pub tells_put : Tells old log (stored_with counts group count) → Tells new log (stored_with counts group more)
  tells_put tells = λ g. by g (same_group group g) refl
    where
      -- nothing changes for the others
      same_count : (other : GroupId) → same_group group other ≡ false → stored_with counts group more other ≡ stored_with counts group count other
      same_count other apart = count_other counts group more other apart ∙ sym (count_other counts group count other apart)

      own : (key : List ℕ) → IsOnlyOf log (stored_with counts group more) group key → (n : ℕ) → new key n ≡ version_of (log group) (stored_with counts group more group) key n
      own key only n =
          follows_on key n (tells group key only_was n ∙ ap (λ m. version_of (log group) m key n) (count_own counts group count))
          ∙ ap (λ m. version_of (log group) m key n) (sym (count_own counts group more))
        where
          only_was : IsOnlyOf log (stored_with counts group count) group key
          only_was other apart n = by_test (same_group group other) refl
            where
              by_test : (test : Bool) → same_group group other ≡ test → version_of (log other) (stored_with counts group count other) key n ≡ None
              by_test true same = absurd (apart (sym (same_group_equal group other same)))
              by_test false differs = ap (λ m. version_of (log other) m key n) (sym (same_count other differs)) ∙ only other apart n

      others : (g : GroupId) → same_group group g ≡ false → (key : List ℕ) → IsOnlyOf log (stored_with counts group more) g key → (n : ℕ) → new key n ≡ version_of (log g) (stored_with counts group more g) key n
      others g differs key only n =
          untouched key n (none.0) ∙ tells g key only_was n ∙ ap (λ m. version_of (log g) m key n) (sym (same_count g differs))
        where
          none : (by_write write key ≡ None) × ((m : ℕ) → version_of (log group) count key m ≡ None)
          none = unwritten key (λ m. ap (λ c. version_of (log group) c key m) (sym (count_own counts group more)) ∙ only group (group_apart group g differs) m)

          only_was : IsOnlyOf log (stored_with counts group count) g key
          only_was other apart m = by_test (same_group group other) refl
            where
              by_test : (test : Bool) → same_group group other ≡ test → version_of (log other) (stored_with counts group count other) key m ≡ None
              by_test true same =
                  let P : GroupId → Type 0 = λ o. version_of (log o) (stored_with counts group count o) key m ≡ None in
                  subst P (same_group_equal group other same) (ap (λ c. version_of (log group) c key m) (count_own counts group count) ∙ none.1 m)
              by_test false unlike = ap (λ c. version_of (log other) c key m) (sym (same_count other unlike)) ∙ only other apart m

      by : (g : GroupId) (test : Bool) → same_group group g ≡ test → (key : List ℕ) → IsOnlyOf log (stored_with counts group more) g key → (n : ℕ) → new key n ≡ version_of (log g) (stored_with counts group more g) key n
      by g true same =
          let P : GroupId → Type 0 = λ o. (key : List ℕ) → IsOnlyOf log (stored_with counts group more) o key → (n : ℕ) → new key n ≡ version_of (log o) (stored_with counts group more o) key n in
          subst P (same_group_equal group g same) own
      by g false differs = others g differs
