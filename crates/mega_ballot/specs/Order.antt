-- The order of ballots: by round, then by node, start and number of the operation.
use Rattle.std.specs.Prelude.{◌≡◌, ◌<◌, ◌⊎◌}
use Rattle.mega_base.specs.declared.names.OpId.{OpId}
use Rattle.mega_ballot.specs.declared.ballot.Ballot.{Ballot}
use Rattle.mega_ballot.specs.Ballots.{zero_op}

abbrev pub IsOpBelow : OpId → OpId → Type 0
IsOpBelow a b = (a.node.0 < b.node.0)
    ⊎ ((a.node.0 ≡ b.node.0) × ((a.start < b.start) ⊎ ((a.start ≡ b.start) × (a.number < b.number))))

abbrev pub IsBelow : Ballot → Ballot → Type 0
IsBelow a b = (a.round < b.round) ⊎ ((a.round ≡ b.round) × IsOpBelow a.op b.op)

-- the ballot that all operations share
abbrev pub zero_ballot : Ballot
zero_ballot = record { round = 0; op = zero_op }
