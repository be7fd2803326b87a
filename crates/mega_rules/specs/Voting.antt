-- What a voter made at each place, and how it answers requests about it (Lamport 2001, the acceptor).
use Rattle.std.specs.Prelude.{ℕ, ◌==◌, ◌&&◌, Bool, if◌then◌else◌, List, filter_map, Option, Some, None, option_and_then}
use Rattle.mega_base.specs.declared.names.GroupId.{GroupId}
use Rattle.mega_base.specs.declared.names.OpId.{OpId}
use Rattle.mega_base.specs.declared.names.Position.{Position}
use Rattle.mega_ballot.specs.declared.ballot.Ballot.{Ballot}
use Rattle.mega_ballot.specs.Order.{zero_ballot}
use Rattle.mega_entry.specs.declared.content.Content.{Content}
use Rattle.mega_read.specs.of_wire.declared.message.Message.{Message}
use Rattle.mega_read.specs.of_wire.declared.message.Body.{Body}
use Rattle.mega_read.specs.of_wire.declared.message.Body.TheVariants.{Accepted, Promise, Refused}
use Rattle.mega_replica.specs.of_wal.Same.{same_group}
use Rattle.mega_replica.specs.of_wal.declared.answers.Promised.{Promised as PromiseAnswer}
use Rattle.mega_replica.specs.of_wal.declared.answers.Promised.TheVariants as promise
use Rattle.mega_replica.specs.of_wal.declared.answers.Voted.{Voted as AcceptAnswer}
use Rattle.mega_replica.specs.of_wal.declared.answers.Voted.TheVariants as vote
use Rattle.mega_replica.specs.of_wal.Acceptor.{Act, Promised, Voted, accept_answer, promise_answer}
use Rattle.mega_rules.specs.Met.{Met, Sends, Unsends}

-- a node made a message where it sent it, or where it is shown as unsent: its record was kept, and a crash came before the sending
abbrev pub made_of : Met → Option Message
made_of (Sends message) = Some message
made_of (Unsends message) = Some message
made_of _ = None

abbrev pub act_if : Bool → Act → Option Act
act_if is_there act = if is_there then Some act else None

-- what a body tells of its sender's vote at a place
abbrev pub act_in : GroupId → ℕ → Body → Option Act
act_in group n (Promise op g position ballot report) = act_if (same_group g group && position.0 == n) (Promised ballot report)
act_in group n (Accepted op g position ballot entry) = act_if (same_group g group && position.0 == n) (Voted ballot entry)
act_in group n _ = None

abbrev pub act_made : GroupId → ℕ → Option Message → Option Act
act_made group n made = option_and_then (λ (message : Message). act_in group n message.body) made

-- what a voter made at a place, in all its starts
abbrev pub acts : List Met → GroupId → ℕ → List Act
acts met group n = filter_map (λ one. act_made group n (made_of one)) met

-- the answer to a prepare: a promise with the best vote, unless a greater ballot was shown
abbrev pub promise_body : OpId → GroupId → Position → Ballot → PromiseAnswer → Body
promise_body op group position ballot (promise.Yes report) = Promise op group position ballot report
promise_body op group position ballot (promise.Shown greater) = Refused op group position ballot greater None

abbrev pub prepared : List Act → OpId → GroupId → Position → Ballot → Body
prepared made op group position ballot = promise_body op group position ballot (promise_answer made ballot)

-- the answer to an accept: acceptance, unless a greater ballot was shown, or at ballot zero another entry was accepted
abbrev pub vote_body : OpId → GroupId → Position → Ballot → Content → AcceptAnswer → Body
vote_body op group position ballot entry vote.Yes = Accepted op group position ballot entry
vote_body op group position ballot entry (vote.Shown greater) = Refused op group position ballot greater None
vote_body op group position ballot entry (vote.Other other) = Refused op group position zero_ballot zero_ballot (Some other)

abbrev pub voted : List Act → OpId → GroupId → Position → Ballot → Content → Body
voted made op group position ballot entry = vote_body op group position ballot entry (accept_answer made ballot entry)
