-- What is there of a key once the next write of a log is stored.
use Rattle.std.proofs.Common.{◌≡◌, ℕ, zero, suc, ◌+◌, ◌-◌, ◌<◌, ◌≤◌, cond, List, [], ◌∷◌, ◌++◌, length, get_or, take, drop, Option, Some, None, refl, sym, ap, ◌∙◌, arith}
use Rattle.std.proofs.lemmas.List.{take_all, take_more}
use Rattle.std.proofs.lemmas.List.Sums.{sum_by-cons}
use Rattle.mega_base.specs.declared.values.Row.{Row}
use Rattle.mega_entry.specs.declared.content.Write.{Write}
use Rattle.mega_entry.specs.declared.content.Content.{Content}
use Rattle.mega_disk.specs.VersionMaps.{or_else}
use Rattle.mega_index.specs.Rows.{same_key}
use Rattle.mega_replica.specs.Applying.{writes_through}
use Rattle.mega_replica.specs.Stored.{last_write, stored_at, version_of}

abbrev pub Version : Type 0
Version = Option (Option Row)

pub or_none : (a : Version) → or_else a None ≡ a
or_none None = refl
or_none (Some row) = refl

pub or_assoc : (a b c : Version) → or_else (or_else a b) c ≡ or_else a (or_else b c)
or_assoc None b c = refl
or_assoc (Some row) b c = refl

pub last_write-append : (key : List ℕ) (a b : List Write) → last_write key (a ++ b) ≡ or_else (last_write key b) (last_write key a)
last_write-append key [] b = sym (or_none (last_write key b))
last_write-append key (write ∷ a) b =
    ap (λ (v : Version). or_else v (cond (same_key write.key key) (Some write.row) None)) (last_write-append key a b)
    ∙ or_assoc (last_write key b) (last_write key a) (cond (same_key write.key key) (Some write.row) None)

-- one write alone
abbrev pub by_write : Write → List ℕ → Version
by_write write key = cond (same_key write.key key) (Some write.row) None

pub one_more : (key : List ℕ) (writes : List Write) (w : ℕ) (write : Write) → w < length writes → write ≡ get_or writes w write
    → last_write key (take (w + 1) writes) ≡ or_else (by_write write key) (last_write key (take w writes))
one_more key writes w write lt is =
    ap (last_write key) (take_more writes w write lt ∙ ap (λ (x : Write). take w writes ++ x ∷ []) (sym is))
    ∙ last_write-append key (take w writes) (write ∷ [])

-- ---- entry by entry

abbrev size : Content → ℕ
size entry = length entry.writes

pub through-cons : (e : ℕ) (entry : Content) (log : List Content) → writes_through (suc e) (entry ∷ log) ≡ length entry.writes + writes_through e log
through-cons e entry log = sum_by-cons size entry (take e log)

no_entry : (entry : Content) (rest : List Content) → ◌≡◌ {A = List Content} [] (entry ∷ rest) → ⊥
no_entry entry rest is = cc

head_is : (a b : Content) (xs ys : List Content) → (a ∷ xs) ≡ (b ∷ ys) → a ≡ b
head_is a b xs ys is = cc

-- of the next entry the writes that are stored are those that are counted
pub here : (log : List Content) (e w count : ℕ) (entry : Content) (rest : List Content) → drop e log ≡ entry ∷ rest → count ≡ writes_through e log + w → stored_at log count (suc e) ≡ take w entry.writes
here [] zero w count entry rest is sum = absurd (no_entry entry rest is)
here [] (suc e) w count entry rest is sum = absurd (no_entry entry rest is)
here (first ∷ log) zero w count entry rest is sum =
    ap (λ n. take n first.writes) (let same : count ≡ 0 + w = sum in let plain : count ≡ w = omega (arith, same) in plain)
    ∙ ap (λ (c : Content). take w c.writes) (head_is first entry log rest is)
here (first ∷ log) (suc e) w count entry rest is sum =
    here log e w (count - length first.writes) entry rest is
    (let more = through-cons e first log in let left : count - length first.writes ≡ writes_through e log + w = omega (arith, sum, more) in left)

-- of the others they stay the same
pub elsewhere : (log : List Content) (e w count n : ℕ) (entry : Content) (rest : List Content) → drop e log ≡ entry ∷ rest → w < length entry.writes → count ≡ writes_through e log + w
    → (n ≡ suc e → ⊥) → stored_at log (count + 1) n ≡ stored_at log count n
elsewhere [] zero w count n entry rest is lt sum other = absurd (no_entry entry rest is)
elsewhere [] (suc e) w count n entry rest is lt sum other = absurd (no_entry entry rest is)
elsewhere (first ∷ log) e w count zero entry rest is lt sum other = refl
elsewhere (first ∷ log) zero w count (suc zero) entry rest is lt sum other = absurd (other refl)
elsewhere (first ∷ log) zero w count (suc (suc n)) entry rest is lt sum other =
    let same : count ≡ 0 + w = sum in
    let size_is : length first.writes ≡ length entry.writes = ap size (head_is first entry log rest is) in
    ap (λ m. stored_at log m (suc n)) (let left : count + 1 - length first.writes ≡ count - length first.writes = omega (arith, same, size_is, lt) in left)
elsewhere (first ∷ log) (suc e) w count (suc zero) entry rest is lt sum other =
    let more = through-cons e first log in
    take_all (count + 1) first.writes (let all : length first.writes ≤ count + 1 = omega (arith, sum, more) in all)
    ∙ sym (take_all count first.writes (let all : length first.writes ≤ count = omega (arith, sum, more) in all))
elsewhere (first ∷ log) (suc e) w count (suc (suc n)) entry rest is lt sum other =
    let more = through-cons e first log in
    ap (λ m. stored_at log m (suc n)) (let left : count + 1 - length first.writes ≡ count - length first.writes + 1 = omega (arith, sum, more) in left)
    ∙ elsewhere log e w (count - length first.writes) (suc n) entry rest is lt
    (let left : count - length first.writes ≡ writes_through e log + w = omega (arith, sum, more) in left)
    (λ same. other (ap suc same))

module _ (log : List Content) (e w : ℕ) (entry : Content) (rest : List Content) (is : drop e log ≡ entry ∷ rest) (lt : w < length entry.writes) (write : Write) (read : write ≡ get_or entry.writes w write) where
  abbrev count : ℕ
  count = writes_through e log + w

  abbrev more : ℕ
  more = writes_through e log + (w + 1)

  pub version_here : (key : List ℕ) → version_of log more key (suc e) ≡ or_else (by_write write key) (version_of log count key (suc e))
  version_here key =
      ap (last_write key) (here log e (w + 1) more entry rest is refl)
      ∙ one_more key entry.writes w write lt read
      ∙ ap (λ (ws : List Write). or_else (by_write write key) (last_write key ws)) (sym (here log e w count entry rest is refl))

  pub version_elsewhere : (key : List ℕ) (n : ℕ) → (n ≡ suc e → ⊥) → version_of log more key n ≡ version_of log count key n
  version_elsewhere key n other =
      ap (λ m. version_of log m key n) (let same : more ≡ count + 1 = omega arith in same)
      ∙ ap (last_write key) (elsewhere log e w count n entry rest is lt refl other)
