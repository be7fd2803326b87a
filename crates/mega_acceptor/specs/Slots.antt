-- What a voter keeps of one position, and what a promise, a vote and a decision make of it.
use Rattle.std.specs.Prelude.{Option, Some, None}
use Rattle.mega_ballot.specs.declared.ballot.Ballot.{Ballot}
use Rattle.mega_ballot.specs.Order.{zero_ballot}
use Rattle.mega_entry.specs.declared.content.Content.{Content}
use Rattle.mega_acceptor.specs.declared.slot.Slot.{Slot}
use Rattle.mega_acceptor.specs.Votes.{Vote, greater_ballot, greater_vote}

-- a place at which nothing happened
abbrev pub empty_slot : Slot
empty_slot = record { promised = zero_ballot; accepted = None; decided = None }

-- the first of two, if there is one
abbrev pub first_of : Option Content → Content → Option Content
first_of None entry = Some entry
first_of (Some decided) entry = Some decided

-- what the slot becomes by a promise, a vote and a decision
abbrev pub promised_slot : Slot → Ballot → Slot
promised_slot slot ballot = record { promised = greater_ballot slot.promised ballot; accepted = slot.accepted; decided = slot.decided }

abbrev pub accepted_slot : Slot → Ballot → Content → Slot
accepted_slot slot ballot entry =
    record { promised = greater_ballot slot.promised ballot; accepted = greater_vote slot.accepted ballot entry; decided = slot.decided }

abbrev pub decided_slot : Slot → Content → Slot
decided_slot slot entry = record { promised = slot.promised; accepted = slot.accepted; decided = first_of slot.decided entry }

-- the ballot that the vote shows, zero if none
abbrev pub voted_ballot : Option Vote → Ballot
voted_ballot None = zero_ballot
voted_ballot (Some vote) = vote.0
