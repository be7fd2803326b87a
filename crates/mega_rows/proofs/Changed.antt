-- The versions of all keys, after the versions of one key change.
use Rattle.std.proofs.Common.{◌≡◌, ℕ, ◌==◌, List, [], Bool, true, false, cond, refl, sym, ap, ◌∙◌, arith}
use Rattle.std.specs.Prelude.{Option, Some, None, Result, Ok, Err, OnErr}
use Rattle.std.specs.Ordering.{nat_cmp, is_eq, ordering_reverse}
use Rattle.std.specs.declared.cmp.Ordering.{Ordering}
use Rattle.std.specs.declared.cmp.Ordering.TheVariants.{Less, Equal, Greater}
use Rattle.std.specs.Cmp.Lexicographic.{slice_cmp, nat_list_cmp_total}
use Rattle.std.specs.Map.{lookup}
use Rattle.std.specs.BTreeMap.{BTreeMap, get, is_at}
use Rattle.std.proofs.lemmas.Bool.Decides.{nat_tests}
use Rattle.std.proofs.lemmas.Map.Lookups.{exact_bytes}
use Rattle.mega_base.specs.declared.values.Row.{Row}
use Rattle.mega_disk.specs.VersionMaps.{Puts, SameVersions, row_of, row_at}
use Rattle.mega_rows.specs.Lines.{Line, in_line, version_in}
use Rattle.mega_rows.specs.Trims.{HasNone, is_key, trimmed}
use Rattle.mega_rows.proofs.Trims.{trimmed_none}
use Rattle.mega_rows.proofs.VersionAt.{none_through}

abbrev pub Lines : Type 0
Lines = BTreeMap (List ℕ) Line

abbrev pub line_of : Lines → List ℕ → Option Line
line_of lines key = get (slice_cmp nat_cmp) lines key

-- ---- keys
equal_order : (o : Ordering) → is_eq o ≡ true → o ≡ Equal
equal_order Less e = cc
equal_order Equal e = refl
equal_order Greater e = cc

pub same_key : (key other : List ℕ) → is_key key other ≡ true → key ≡ other
same_key key other e = exact_bytes key other (equal_order (slice_cmp nat_cmp key other) e)

pub key_self : (key : List ℕ) → is_key key key ≡ true
key_self key = go (slice_cmp nat_cmp key key) (nat_list_cmp_total.antisymm key key)
  where
    go : (o : Ordering) → o ≡ ordering_reverse o → is_eq o ≡ true
    go Less h = cc
    go Equal h = refl
    go Greater h = cc

-- ---- a key that is not there
pub read_none : (lines : Lines) (key : List ℕ) (p : ℕ) → None ≡ line_of lines key → None ≡ row_at (version_in lines) key p
read_none lines key p absent = sym (ap row_of (none_through (version_in lines key) p (λ q le. ap (λ o. in_line o q) (sym absent))))

-- ---- one key's versions become others
-- the versions of one key are those of this line, and of the others they stay
abbrev pub Sets : Lines → Lines → List ℕ → Line → Type 0
Sets old new key line = (other : List ℕ) → line_of new other ≡ cond (is_key key other) (Some line) (line_of old other)

-- lines with the same entries have the same versions
pub entries_same : (line was : Line) → line.entries ≡ was.entries → (p : ℕ) → get nat_cmp line p ≡ get nat_cmp was p
entries_same line was e p = ap (λ es. lookup (is_at (nat_cmp p)) es) e

pub empty_line : (line : Line) → line.entries ≡ [] → (p : ℕ) → get nat_cmp line p ≡ None
empty_line line e p = ap (λ es. lookup (is_at (nat_cmp p)) es) e

-- what stood in the line of a key stood in the map
pub was_there : (old : Lines) (key : List ℕ) (line was : Line) (at : ℕ) (row : Option Row) → Some was ≡ line_of old key → ((p : ℕ) → get nat_cmp line p ≡ cond (at == p) (Some row) (get nat_cmp was p)) → (p : ℕ) → get nat_cmp line p ≡ cond (at == p) (Some row) (version_in old key p)
was_there old key line was at row there made p = made p ∙ ap (λ o. cond (at == p) (Some row) (in_line o p)) there

pub was_absent : (old : Lines) (key : List ℕ) (line was : Line) (at : ℕ) (row : Option Row) → line_of old key ≡ None → was.entries ≡ [] → ((p : ℕ) → get nat_cmp line p ≡ cond (at == p) (Some row) (get nat_cmp was p)) → (p : ℕ) → get nat_cmp line p ≡ cond (at == p) (Some row) (version_in old key p)
was_absent old key line was at row absent empty made p = made p ∙ ap (λ v. cond (at == p) (Some row) v) (empty_line was empty p ∙ sym (ap (λ o. in_line o p) absent))

module _ (old new : Lines) (key : List ℕ) (line : Line) (sets : Sets old new key line) where
  here_line : (p : ℕ) → version_in new key p ≡ get nat_cmp line p
  here_line p = ap (λ o. in_line o p) (sets key ∙ ap (λ test. cond test (Some line) (line_of old key)) (key_self key))

  pub line_puts : (at : ℕ) (row : Option Row) → ((p : ℕ) → get nat_cmp line p ≡ cond (at == p) (Some row) (version_in old key p)) → Puts key at row (version_in old) (version_in new)
  line_puts at row made = record { here = here_line at ∙ (made at ∙ ap (λ test. cond test (Some row) (version_in old key at)) at_self); elsewhere = elsewhere }
    where
      at_self : (at == at) ≡ true
      at_self = grind (arith, nat_tests)

      apart_at : (p : ℕ) → (p ≡ at → ⊥) → (at == p) ≡ false
      apart_at p apart = grind (arith, nat_tests)

      go : (other : List ℕ) (p : ℕ) (test : Bool) → is_key key other ≡ test → (other ≡ key → p ≡ at → ⊥) → in_line (cond test (Some line) (line_of old other)) p ≡ version_in old other p
      go other p true e apart = made p ∙ (ap (λ test. cond test (Some row) (version_in old key p)) (apart_at p (apart (sym (same_key key other e)))) ∙ ap (λ k. version_in old k p) (same_key key other e))
      go other p false e apart = refl

      elsewhere : (other : List ℕ) (p : ℕ) → (other ≡ key → p ≡ at → ⊥) → version_in new other p ≡ version_in old other p
      elsewhere other p apart = ap (λ o. in_line o p) (sets other) ∙ go other p (is_key key other) refl apart

  pub line_same : ((p : ℕ) → get nat_cmp line p ≡ version_in old key p) → SameVersions (version_in old) (version_in new)
  line_same made other p = ap (λ o. in_line o p) (sets other) ∙ go (is_key key other) refl
    where
      go : (test : Bool) → is_key key other ≡ test → in_line (cond test (Some line) (line_of old other)) p ≡ version_in old other p
      go true e = made p ∙ ap (λ k. version_in old k p) (same_key key other e)
      go false e = refl

-- ---- one key's versions are trimmed
-- what is left of one key, and the others as they were
abbrev pub TrimsKey : Lines → Lines → List ℕ → ℕ → Type 0
TrimsKey old new key below = (other : List ℕ) (p : ℕ) → version_in new other p ≡ cond (is_key key other) (trimmed below (version_in old other) p) (version_in old other p)

pub line_trims : (old new : Lines) (key : List ℕ) (line was : Line) (below : ℕ) → Sets old new key line → Some was ≡ line_of old key → ((p : ℕ) → get nat_cmp line p ≡ trimmed below (get nat_cmp was) p) → TrimsKey old new key below
line_trims old new key line was below sets there made other p = ap (λ o. in_line o p) (sets other) ∙ go (is_key key other) refl
  where
    go : (test : Bool) → is_key key other ≡ test → in_line (cond test (Some line) (line_of old other)) p ≡ cond test (trimmed below (version_in old other) p) (version_in old other p)
    go true e = made p ∙ ap (λ (o : Option Line). trimmed below (in_line o) p) (there ∙ ap (line_of old) (same_key key other e))
    go false e = refl

pub absent_trims : (old new : Lines) (key : List ℕ) (below : ℕ) → new ≡ old → None ≡ line_of old key → TrimsKey old new key below
absent_trims old new key below same absent other p = ap (λ lines. version_in lines other p) same ∙ go (is_key key other) refl
  where
    none : key ≡ other → HasNone (version_in old other) below
    none e q le = ap (λ (o : Option Line). in_line o q) (sym (absent ∙ ap (line_of old) e))

    go : (test : Bool) → is_key key other ≡ test → version_in old other p ≡ cond test (trimmed below (version_in old other) p) (version_in old other p)
    go true e = sym (trimmed_none below (version_in old other) (none (same_key key other e)) p)
    go false e = refl

pub on_err : {T E : Type 0} (result : Result T E) (P : Type 0) → P → OnErr result P
on_err (Ok x) P p = tt
on_err (Err e) P p = p
