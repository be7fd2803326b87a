-- Votes, and the order of their ballots as tests.
use Rattle.std.specs.Prelude.{◌==◌, ◌&&◌, ◌||◌, nat_lt, Bool, if◌then◌else◌, Option, Some, None}
use Rattle.mega_base.specs.declared.names.OpId.{OpId}
use Rattle.mega_ballot.specs.declared.ballot.Ballot.{Ballot}
use Rattle.mega_entry.specs.declared.content.Content.{Content}
use Rattle.mega_entry.specs.Same.{same_op}

-- an entry accepted at a ballot
abbrev pub Vote : Type 0
Vote = Ballot × Content

-- the order of ballots, as a test
abbrev pub is_op_below : OpId → OpId → Bool
is_op_below a b = nat_lt a.node.0 b.node.0
    || (a.node.0 == b.node.0 && (nat_lt a.start b.start || (a.start == b.start && nat_lt a.number b.number)))

abbrev pub is_ballot_below : Ballot → Ballot → Bool
is_ballot_below a b = nat_lt a.round b.round || (a.round == b.round && is_op_below a.op b.op)

abbrev pub greater_ballot : Ballot → Ballot → Ballot
greater_ballot a b = if is_ballot_below a b then b else a

-- whether two ballots are one
abbrev pub is_same_ballot : Ballot → Ballot → Bool
is_same_ballot a b = a.round == b.round && same_op a.op b.op

-- of two votes the one of the greater ballot, of equal ballots the second
abbrev pub greater_vote : Option Vote → Ballot → Content → Option Vote
greater_vote None ballot entry = Some (ballot, entry)
greater_vote (Some vote) ballot entry = if is_ballot_below ballot vote.0 then Some vote else Some (ballot, entry)
