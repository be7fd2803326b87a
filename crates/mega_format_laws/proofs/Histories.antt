-- What is read from a history of the format is of the format.
use Rattle.std.proofs.Common.{◌≡◌, ℕ, zero, suc, ◌+◌, ◌==◌, ◌&&◌, ◌≤◌, max, Bool, true, false, cond, List, [], ◌∷◌, length, Option, Some, None, refl, subst, arith}
use Rattle.std.specs.List.{cons_option}
use Rattle.std.proofs.lemmas.Bool.Decides.{nat_tests}
use Rattle.mega_base.specs.declared.names.GroupId.{GroupId}
use Rattle.mega_base.specs.Codec.{IsOption}
use Rattle.mega_base.specs.Names.{IsGroup, IsU32}
use Rattle.mega_ballot.specs.declared.ballot.Ballot.{Ballot}
use Rattle.mega_ballot.specs.Ballots.{IsBallot}
use Rattle.mega_cluster.specs.declared.cluster.Cluster.{Cluster}
use Rattle.mega_entry.specs.declared.content.Content.{Content}
use Rattle.mega_wire.specs.declared.message.Body.{Body}
use Rattle.mega_wire.specs.declared.message.Body.TheVariants.{Accepted, Promise}
use Rattle.mega_wire.specs.Messages.{IsBody}
use Rattle.mega_wal.specs.Acceptor.{Act, Promised, Vote, Voted, best, greater_ballot, greater_vote, is_ballot_below, shown}
use Rattle.mega_wal.specs.Same.{same_group}
use Rattle.mega_voter.specs.of_rules.Met.{Met, Starts, Sends, Unsends, Decides}
use Rattle.mega_voter.specs.of_rules.Members.{full_nodes, is_full, is_voter, nodes, voters}
use Rattle.mega_voter.specs.of_rules.Clock.{start_of}
use Rattle.mega_voter.specs.of_rules.Voting.{act_if, act_in, act_made, acts, made_of}
use Rattle.mega_voter.specs.of_rules.Logs.{accepted_at, decided, decided_from, first_of, groups_of, is_group_before, log_of, newest_of, prefix_of, then_more, top_of, with_group}
use Rattle.mega_format_laws.specs.Rounds.{Each, IsMember, IsPlace, IsShort, IsVote}
use Rattle.mega_format_laws.specs.Reads.{IsTop}
use Rattle.mega_format_laws.specs.Histories.{IsCluster, IsItem, IsMet}
use Rattle.mega_format_laws.proofs.Each.{each_filter, each_numbered, either}
use Rattle.mega_format_laws.proofs.Rounds.{zero_is_ballot}

-- ---- members

pub nodes_formed : (c : Cluster) → IsCluster c → Each IsMember (nodes c)
nodes_formed c h = let few = h.nodes in each_numbered 1 (length c.nodes) (omega arith) (omega (arith, few))

pub voters_formed : (c : Cluster) → IsCluster c → Each IsMember (voters c)
voters_formed c h = each_filter IsMember (is_voter c) (nodes c) (nodes_formed c h)

pub full_formed : (c : Cluster) → IsCluster c → Each IsMember (full_nodes c)
full_formed c h = each_filter IsMember (is_full c) (nodes c) (nodes_formed c h)

-- ---- the start and the clock

pub start_formed : (met : List Met) → IsMet met → IsU32 (start_of met)
start_formed [] h = (omega arith, omega arith)
start_formed (Starts start ∷ before) h = h.0
start_formed (_ ∷ before) h = start_formed before h.1

-- ---- the entries that are decided, and their positions

abbrev pub IsDecided : Option Content → ℕ → Type 0
IsDecided None n = Unit {0}
IsDecided (Some entry) n = IsPlace n × IsShort entry

first_formed : (found : Option Content) (entry : Content) (n : ℕ) → IsDecided found n → IsPlace n → IsShort entry → IsDecided (first_of found entry) n
first_formed None entry n h place e = (place, e)
first_formed (Some found) entry n h place e = h

place_is : (a b : ℕ) → (a == b) ≡ true → IsPlace a → IsPlace b
place_is a b e h = subst IsPlace (same a b e) h
  where
    same : (a b : ℕ) → (a == b) ≡ true → a ≡ b
    same a b e = grind (arith, nat_tests)

right : (a b : Bool) → (a && b) ≡ true → b ≡ true
right true b h = h
right false b h = cc

pub decided_formed : (met : List Met) (group : GroupId) (n : ℕ) → IsMet met → IsDecided (decided met group n) n
decided_formed [] group n h = tt
decided_formed (Decides g position entry ∷ before) group n h = go (same_group g group && position == n) refl (decided_formed before group n h.1)
  where
    go : (t : Bool) → (same_group g group && position == n) ≡ t → IsDecided (decided before group n) n → IsDecided (cond t (first_of (decided before group n) entry) (decided before group n)) n
    go true e k = first_formed (decided before group n) entry n k (place_is position n (right (same_group g group) (position == n) e) ((h.0).1).0) ((h.0).1).1
    go false e k = k
decided_formed (_ ∷ before) group n h = decided_formed before group n h.1

-- a log's entries, and how far it reaches: each position in it is decided
more_formed : (found : Option Content) (more : List Content) (n : ℕ) → IsDecided found n → Each IsShort more → Each IsShort (then_more found more)
more_formed None more n h e = tt
more_formed (Some entry) more n h e = (h.1, e)

from_formed : (met : List Met) (group : GroupId) (most n : ℕ) → IsMet met → Each IsShort (decided_from met group most n)
from_formed met group zero n h = tt
from_formed met group (suc most) n h = more_formed (decided met group n) (decided_from met group most (n + 1)) n (decided_formed met group n h) (from_formed met group most (n + 1) h)

pub log_formed : (met : List Met) (group : GroupId) → IsMet met → Each IsShort (log_of met group)
log_formed met group h = from_formed met group (length met) 1 h

more_reaches : (found : Option Content) (more : List Content) (n : ℕ) → n ≤ 1000001 → IsDecided found n → (n + 1 ≤ 1000001 → n + 1 + length more ≤ 1000001) → n + length (then_more found more) ≤ 1000001
more_reaches None more n le h k = omega (arith, le)
more_reaches (Some entry) more n le h k = let place = (h.0).1 in let rest = k (omega (arith, place)) in omega (arith, rest)

from_reaches : (met : List Met) (group : GroupId) (most n : ℕ) → IsMet met → n ≤ 1000001 → n + length (decided_from met group most n) ≤ 1000001
from_reaches met group zero n h le = omega (arith, le)
from_reaches met group (suc most) n h le = more_reaches (decided met group n) (decided_from met group most (n + 1)) n le (decided_formed met group n h) (λ more. from_reaches met group most (n + 1) h more)

pub prefix_reaches : (met : List Met) (group : GroupId) → IsMet met → prefix_of met group ≤ 1000000
prefix_reaches met group h = let all = from_reaches met group (length met) 1 h (omega arith) in omega (arith, all)

greatest_top : (a b : ℕ) → IsTop a → IsTop b → IsTop (max a b)
greatest_top a b x y = omega (arith, x, y)

pub newest_formed : (met : List Met) (group : GroupId) → IsMet met → IsTop (newest_of met group)
newest_formed [] group h = omega arith
newest_formed (Decides g position entry ∷ before) group h = either IsTop (same_group g group) (max position (newest_of before group)) (newest_of before group)
    (greatest_top position (newest_of before group) (((h.0).1).0).1 (newest_formed before group h.1)) (newest_formed before group h.1)
newest_formed (_ ∷ before) group h = newest_formed before group h.1

accepted_formed : (group : GroupId) (body : Body) → IsBody body → IsTop (accepted_at group body)
accepted_formed group (Accepted op g position ballot entry) b = either IsTop (same_group g group) position.0 0 (b.1.1.0).1 (omega arith)
accepted_formed group _ b = omega arith

pub top_formed : (met : List Met) (group : GroupId) → IsMet met → IsTop (top_of met group)
top_formed [] group h = omega arith
top_formed (Decides g position entry ∷ before) group h = either IsTop (same_group g group) (max position (top_of before group)) (top_of before group)
    (greatest_top position (top_of before group) (((h.0).1).0).1 (top_formed before group h.1)) (top_formed before group h.1)
top_formed (Sends m ∷ before) group h = greatest_top (accepted_at group m.body) (top_of before group) (accepted_formed group m.body (h.0).body) (top_formed before group h.1)
top_formed (Unsends m ∷ before) group h = greatest_top (accepted_at group m.body) (top_of before group) (accepted_formed group m.body (h.0).body) (top_formed before group h.1)
top_formed (_ ∷ before) group h = top_formed before group h.1

-- ---- the groups with a decided position

with_formed : (group : GroupId) (groups : List GroupId) → IsGroup group → Each IsGroup groups → Each IsGroup (with_group group groups)
with_formed group [] g h = (g, tt)
with_formed group (other ∷ groups) g h = either (Each IsGroup) (same_group group other) (other ∷ groups) _ h
    (either (Each IsGroup) (is_group_before group other) (group ∷ other ∷ groups) (other ∷ with_group group groups) (g, h) (h.0, with_formed group groups g h.1))

pub groups_formed : (met : List Met) → IsMet met → Each IsGroup (groups_of met)
groups_formed [] h = tt
groups_formed (Decides group position entry ∷ before) h = with_formed group (groups_of before) (h.0).0 (groups_formed before h.1)
groups_formed (_ ∷ before) h = groups_formed before h.1

-- ---- what a voter made

abbrev pub IsAct : Act → Type 0
IsAct (Promised ballot report) = IsBallot ballot
IsAct (Voted ballot entry) = IsBallot ballot × IsShort entry

abbrev IsMade : Option Act → Type 0
IsMade made = IsOption IsAct made

if_formed : (t : Bool) (act : Act) → IsAct act → IsMade (act_if t act)
if_formed true act h = h
if_formed false act h = tt

act_formed : (group : GroupId) (n : ℕ) (body : Body) → IsBody body → IsMade (act_in group n body)
act_formed group n (Promise op g position ballot report) b = if_formed (same_group g group && position.0 == n) (Promised ballot report) b.1.1.1.0
act_formed group n (Accepted op g position ballot entry) b = if_formed (same_group g group && position.0 == n) (Voted ballot entry) (b.1.1.1.0, b.1.1.1.1)
act_formed group n _ b = tt

made_formed : (group : GroupId) (n : ℕ) (one : Met) → IsItem one → IsMade (act_made group n (made_of one))
made_formed group n (Sends m) h = act_formed group n m.body h.body
made_formed group n (Unsends m) h = act_formed group n m.body h.body
made_formed group n _ h = tt

each_made : (made : Option Act) (acts : List Act) → IsMade made → Each IsAct acts → Each IsAct (cons_option made acts)
each_made None acts h e = e
each_made (Some act) acts h e = (h, e)

pub acts_formed : (met : List Met) (group : GroupId) (n : ℕ) → IsMet met → Each IsAct (acts met group n)
acts_formed [] group n h = tt
acts_formed (one ∷ met) group n h = each_made (act_made group n (made_of one)) (acts met group n) (made_formed group n one h.0) (acts_formed met group n h.1)

greater_formed : (a b : Ballot) → IsBallot a → IsBallot b → IsBallot (greater_ballot a b)
greater_formed a b x y = either IsBallot (is_ballot_below a b) b a y x

pub shown_formed : (made : List Act) → Each IsAct made → IsBallot (shown made)
shown_formed [] h = zero_is_ballot
shown_formed (Promised ballot report ∷ before) h = greater_formed (shown before) ballot (shown_formed before h.1) h.0
shown_formed (Voted ballot entry ∷ before) h = greater_formed (shown before) ballot (shown_formed before h.1) (h.0).0

vote_formed : (vote : Option Vote) (ballot : Ballot) (entry : Content) → IsVote vote → IsBallot ballot → IsShort entry → IsVote (greater_vote vote ballot entry)
vote_formed None ballot entry h b e = (b, e)
vote_formed (Some vote) ballot entry h b e = either IsVote (is_ballot_below ballot vote.0) (Some vote) (Some (ballot, entry)) h (b, e)

pub best_formed : (made : List Act) → Each IsAct made → IsVote (best made)
best_formed [] h = tt
best_formed (Promised ballot report ∷ before) h = best_formed before h.1
best_formed (Voted ballot entry ∷ before) h = vote_formed (best before) ballot entry (best_formed before h.1) (h.0).0 (h.0).1
