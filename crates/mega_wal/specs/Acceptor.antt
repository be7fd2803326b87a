-- The rule of an acceptor at one place (Lamport 2001, "Paxos Made Simple"), over what it made there, the newest first.
use Rattle.std.specs.Prelude.{if◌then◌else◌, List, [], ◌∷◌, Option, Some, None}
use Rattle.mega_acceptor.specs.of_ballot.declared.ballot.Ballot.{Ballot}
use Rattle.mega_acceptor.specs.of_ballot.Order.{zero_ballot}
use Rattle.mega_acceptor.specs.of_entry.declared.content.Content.{Content}
use Rattle.mega_acceptor.specs.of_entry.Same.{same_entry}
pub use Rattle.mega_acceptor.specs.Votes.{Vote, greater_ballot, greater_vote, is_ballot_below, is_op_below, is_same_ballot}
use Rattle.mega_wal.specs.declared.answers.Promised.{Promised as PromiseAnswer}
use Rattle.mega_wal.specs.declared.answers.Promised.TheVariants as promise
use Rattle.mega_wal.specs.declared.answers.Voted.{Voted as AcceptAnswer}
use Rattle.mega_wal.specs.declared.answers.Voted.TheVariants as vote

-- what a voter made at a place: a promise of a ballot, with the vote that it reported, or a vote
pub data Act : Type 0 where
  Promised : (ballot : Ballot) (report : Option Vote) → Act
  Voted : (ballot : Ballot) (entry : Content) → Act

-- the greatest ballot that it promised or accepted, zero if none
abbrev pub shown : List Act → Ballot
shown [] = zero_ballot
shown (Promised ballot report ∷ before) = greater_ballot (shown before) ballot
shown (Voted ballot entry ∷ before) = greater_ballot (shown before) ballot

-- its vote of greatest ballot, of equal ballots the newest
abbrev pub best : List Act → Option Vote
best [] = None
best (Promised ballot report ∷ before) = best before
best (Voted ballot entry ∷ before) = greater_vote (best before) ballot entry

-- a promise is refused below what was shown; an equal ballot is promised again
abbrev pub promise_answer : List Act → Ballot → PromiseAnswer
promise_answer made ballot = if is_ballot_below ballot (shown made) then promise.Shown (shown made) else promise.Yes (best made)

-- another entry than the one accepted is refused with it
abbrev pub answer_beside : Option Vote → Content → AcceptAnswer
answer_beside None entry = vote.Yes
answer_beside (Some accepted) entry = if same_entry accepted.1 entry then vote.Yes else vote.Other accepted.1

-- an accept is refused below what was shown; at ballot zero, which all operations share, the entry accepted first stays
abbrev pub accept_answer : List Act → Ballot → Content → AcceptAnswer
accept_answer made ballot entry =
    if is_ballot_below ballot (shown made) then vote.Shown (shown made)
    else (if is_same_ballot ballot zero_ballot then answer_beside (best made) entry else vote.Yes)
