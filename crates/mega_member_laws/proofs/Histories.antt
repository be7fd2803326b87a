-- The entries that are read from a history within a cluster name nodes of it.
use Rattle.std.proofs.Common.{ℕ, ◌==◌, ◌&&◌, Bool, true, false, List, [], ◌∷◌, Option, Some, None}
use Rattle.std.specs.List.{cons_option}
use Rattle.mega_base.specs.declared.names.GroupId.{GroupId}
use Rattle.mega_base.specs.Codec.{IsOption}
use Rattle.mega_ballot.specs.declared.ballot.Ballot.{Ballot}
use Rattle.mega_cluster.specs.declared.cluster.Cluster.{Cluster}
use Rattle.mega_entry.specs.declared.content.Content.{Content}
use Rattle.mega_wire.specs.declared.message.Body.{Body}
use Rattle.mega_wire.specs.declared.message.Body.TheVariants.{Accepted, Promise}
use Rattle.mega_wal.specs.Acceptor.{Act, Promised, Vote, Voted, best, greater_vote, is_ballot_below}
use Rattle.mega_wal.specs.Same.{same_group}
use Rattle.mega_format_laws.specs.of_rules.Met.{Met, Sends, Unsends, Decides}
use Rattle.mega_format_laws.specs.of_rules.Voting.{act_if, act_in, act_made, acts, made_of}
use Rattle.mega_format_laws.specs.of_rules.Logs.{decided, first_of}
use Rattle.mega_format_laws.specs.Rounds.{Each}
use Rattle.mega_format_laws.proofs.Each.{either}
use Rattle.mega_member_laws.specs.Messages.{CarriesHere, NamesHere, VotesHere}
use Rattle.mega_member_laws.specs.Nodes.{ItemWithin, MetWithin}

-- ---- the entries that are decided

first_here : (c : Cluster) (found : Option Content) (entry : Content) → IsOption (NamesHere c) found → NamesHere c entry → IsOption (NamesHere c) (first_of found entry)
first_here c None entry h e = e
first_here c (Some found) entry h e = h

pub decided_here : (c : Cluster) (met : List Met) (group : GroupId) (n : ℕ) → MetWithin c met → IsOption (NamesHere c) (decided met group n)
decided_here c [] group n h = tt
decided_here c (Decides g position entry ∷ before) group n h = either (IsOption (NamesHere c)) (same_group g group && position == n) (first_of (decided before group n) entry) (decided before group n)
    (first_here c (decided before group n) entry (decided_here c before group n h.1) h.0) (decided_here c before group n h.1)
decided_here c (_ ∷ before) group n h = decided_here c before group n h.1

-- ---- what a voter made

abbrev pub ActsHere : Cluster → Act → Type 0
ActsHere c (Promised ballot report) = Unit {0}
ActsHere c (Voted ballot entry) = NamesHere c entry

if_here : (c : Cluster) (t : Bool) (act : Act) → ActsHere c act → IsOption (ActsHere c) (act_if t act)
if_here c true act h = h
if_here c false act h = tt

act_here : (c : Cluster) (group : GroupId) (n : ℕ) (body : Body) → CarriesHere c body → IsOption (ActsHere c) (act_in group n body)
act_here c group n (Promise op g position ballot report) b = if_here c (same_group g group && position.0 == n) (Promised ballot report) tt
act_here c group n (Accepted op g position ballot entry) b = if_here c (same_group g group && position.0 == n) (Voted ballot entry) b
act_here c group n _ b = tt

made_here : (c : Cluster) (group : GroupId) (n : ℕ) (one : Met) → ItemWithin c one → IsOption (ActsHere c) (act_made group n (made_of one))
made_here c group n (Sends m) h = act_here c group n m.body h.body
made_here c group n (Unsends m) h = act_here c group n m.body h.body
made_here c group n _ h = tt

each_made : (c : Cluster) (made : Option Act) (acts : List Act) → IsOption (ActsHere c) made → Each (ActsHere c) acts → Each (ActsHere c) (cons_option made acts)
each_made c None acts h e = e
each_made c (Some act) acts h e = (h, e)

pub acts_here : (c : Cluster) (met : List Met) (group : GroupId) (n : ℕ) → MetWithin c met → Each (ActsHere c) (acts met group n)
acts_here c [] group n h = tt
acts_here c (one ∷ met) group n h = each_made c (act_made group n (made_of one)) (acts met group n) (made_here c group n one h.0) (acts_here c met group n h.1)

vote_here : (c : Cluster) (vote : Option Vote) (ballot : Ballot) (entry : Content) → VotesHere c vote → NamesHere c entry → VotesHere c (greater_vote vote ballot entry)
vote_here c None ballot entry h e = e
vote_here c (Some vote) ballot entry h e = either (VotesHere c) (is_ballot_below ballot vote.0) (Some vote) (Some (ballot, entry)) h e

pub best_here : (c : Cluster) (made : List Act) → Each (ActsHere c) made → VotesHere c (best made)
best_here c [] h = tt
best_here c (Promised ballot report ∷ before) h = best_here c before h.1
best_here c (Voted ballot entry ∷ before) h = vote_here c (best before) ballot entry (best_here c before h.1) h.0
