-- Votes of members, as a row of marks: the k-th, from 0, is of node k + 1.
use Rattle.std.specs.Prelude.{◌≡◌, ℕ, ◌+◌, ◌-◌, ◌*◌, ◌<◌, ◌≤◌, Bool, true, false, List, [], ◌∷◌, length, count_by, slice_index_or}

-- the members, and those of them whose vote counts
pub record Votes : Type 0 where
  pub members : List Bool
  pub voted : List Bool

-- the node, counted from 1, is marked
abbrev pub IsMarked : List Bool → ℕ → Type 0
IsMarked marks node = (1 ≤ node) × (slice_index_or marks (node - 1) false ≡ true)

-- how many are marked
abbrev pub marked : List Bool → ℕ
marked marks = count_by (λ b. b) marks

-- each that is marked in the first is marked in the second
abbrev pub AreAmong : List Bool → List Bool → Type 0
AreAmong marks members = (k : ℕ) → slice_index_or marks k false ≡ true → slice_index_or members k false ≡ true

-- marks of sixteen nodes, and only members voted
pub record IsSound (members voted : List Bool) : Type 0 where
  pub sixteen_members : length members ≡ 16
  pub sixteen_votes : length voted ≡ 16
  pub among : AreAmong voted members

-- more than half of the members voted
abbrev pub IsReached : Votes → Type 0
IsReached v = marked v.members < 2 * marked v.voted
