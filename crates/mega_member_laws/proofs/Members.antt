-- Voters, full nodes and cells are nodes of the cluster.
use Rattle.std.proofs.Common.{◌≡◌, ℕ, zero, suc, ◌+◌, ◌≤◌, true, List, [], ◌∷◌, length, flat_map, arith}
use Rattle.std.specs.Prelude.{nat_le, slice_get}
use Rattle.std.specs.List.{range_with_len}
use Rattle.std.proofs.lemmas.Bool.Decides.{nat_tests}
use Rattle.std.proofs.lemmas.Bool.{and_from}
use Rattle.mega_base.specs.Codec.{IsOption}
use Rattle.mega_cluster.specs.declared.cluster.Cluster.{Cluster}
use Rattle.mega_format_laws.specs.of_rules.Members.{cells, full_nodes, is_full, is_voter, nodes, voters}
use Rattle.mega_format_laws.specs.Rounds.{Each}
use Rattle.mega_format_laws.proofs.Each.{each_both, each_filter}
use Rattle.mega_member_laws.specs.Messages.{IsHere}

at_least : (a b : ℕ) → a ≤ b → nat_le a b ≡ true
at_least a b le = grind (arith, nat_tests)

here : (c : Cluster) (n : ℕ) → 1 ≤ n → n ≤ length c.nodes → IsHere c n
here c n low high = and_from (nat_le 1 n) (nat_le n (length c.nodes)) (at_least 1 n low) (at_least n (length c.nodes) high)

-- numbers from 1 on, as many as there are nodes at most
pub each_numbered : (c : Cluster) (a n : ℕ) → 1 ≤ a → a + n ≤ length c.nodes + 1 → Each (IsHere c) (range_with_len a n)
each_numbered c a zero low high = tt
each_numbered c a (suc n) low high = (here c a low (omega (arith, high)), each_numbered c (a + 1) n (omega (arith, low)) (omega (arith, high)))

pub first_numbered : (c : Cluster) (n : ℕ) → n ≤ length c.nodes → Each (IsHere c) (range_with_len 1 n)
first_numbered c n few = each_numbered c 1 n (omega arith) (omega (arith, few))

pub nodes_here : (c : Cluster) → Each (IsHere c) (nodes c)
nodes_here c = first_numbered c (length c.nodes) (omega arith)

pub voters_here : (c : Cluster) → Each (IsHere c) (voters c)
voters_here c = each_filter (IsHere c) (is_voter c) (nodes c) (nodes_here c)

pub full_here : (c : Cluster) → Each (IsHere c) (full_nodes c)
full_here c = each_filter (IsHere c) (is_full c) (nodes c) (nodes_here c)

pub cells_here : (c : Cluster) → c.cells ≤ length c.nodes → Each (IsHere c) (cells c)
cells_here c few = first_numbered c c.cells few

pub got : (c : Cluster) (members : List ℕ) (n : ℕ) → Each (IsHere c) members → IsOption (IsHere c) (slice_get members n)
got c [] n h = tt
got c (m ∷ members) zero h = h.0
got c (m ∷ members) (suc n) h = got c members n h.1

-- what holds of each that is made of anything holds of all that is made
pub any_flat : {X Y : Type 0} (Q : Y → Type 0) (f : X → List Y) → ((x : X) → Each Q (f x)) → (xs : List X) → Each Q (flat_map f xs)
any_flat Q f h [] = tt
any_flat Q f h (x ∷ xs) = each_both Q (f x) (flat_map f xs) (h x) (any_flat Q f h xs)
