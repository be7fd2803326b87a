-- The format of ballots.
use Rattle.std.specs.Prelude.{◌≡◌, ℕ, ◌==◌, if◌then◌else◌, List, ◌++◌, Ok}
use Rattle.mega_base.specs.Reading.{Place, Read, ◌>>=◌, byte_in, number_in}
use Rattle.mega_base.specs.Names.{u32_at, u32_text, IsU32, op_at, op_text, IsOp}
use Rattle.mega_base.specs.declared.names.OpId.{OpId}
use Rattle.mega_ballot.specs.declared.ballot.Ballot.{Ballot}

-- nine bytes 0
unfoldable pub zero_op_at : Place → Read OpId
zero_op_at p =
    byte_in 0 0 p >>= λ node.
    number_in 4 0 0 node.1 >>= λ start.
    number_in 4 0 0 start.1 >>= λ number.
    Ok (record { node = record { 0 = node.0 }; start = start.0; number = number.0 }, number.1)

-- a round, and an operation: of round 0 it is nine bytes 0
unfoldable pub ballot_at : Place → Read Ballot
ballot_at p =
    u32_at p >>= λ round.
    (if round.0 == 0 then zero_op_at round.1 else op_at round.1) >>= λ op.
    Ok (record { round = round.0; op = op.0 }, op.1)

abbrev pub ballot_text : Ballot → List ℕ
ballot_text ballot = u32_text ballot.round ++ op_text ballot.op

-- the operation that stands in the ballot of round 0
abbrev pub zero_op : OpId
zero_op = record { node = record { 0 = 0 }; start = 0; number = 0 }

pub record IsBallot (ballot : Ballot) : Type 0 where
  pub round : IsU32 ballot.round
  pub op : IsOp ballot.op
  pub lowest : ballot.round ≡ 0 → ballot.op ≡ zero_op
