-- Nodes as lists of their numbers, each of which stands in a list once at most.
use Rattle.std.specs.Prelude.{ℕ, ◌==◌, ◌*◌, ◌++◌, Bool, not, if◌then◌else◌, nat_lt, List, [], ◌∷◌, filter, length}
use Rattle.std.specs.List.{list_any}

abbrev pub has : ℕ → List ℕ → Bool
has node nodes = list_any (λ other. other == node) nodes

abbrev pub with_node : ℕ → List ℕ → List ℕ
with_node node nodes = if has node nodes then nodes else nodes ++ node ∷ []

-- all of these but the one
abbrev pub others : ℕ → List ℕ → List ℕ
others node nodes = filter (λ other. not (other == node)) nodes

-- all of these but those
abbrev pub without : List ℕ → List ℕ → List ℕ
without those nodes = filter (λ node. not (has node those)) nodes

-- the two lists as one
abbrev pub joined : List ℕ → List ℕ → List ℕ
joined nodes more = nodes ++ without nodes more

-- so many are more than half of the members
abbrev pub is_majority : ℕ → ℕ → Bool
is_majority members count = nat_lt members (2 * count)
