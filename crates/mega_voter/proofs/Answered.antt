-- What a voter's rule answers may be sent.
use Rattle.std.proofs.Common.{◌≡◌, Bool, true, false, cond, List, Option, refl, ap}
use Rattle.mega_base.specs.declared.names.GroupId.{GroupId}
use Rattle.mega_base.specs.declared.names.OpId.{OpId}
use Rattle.mega_base.specs.declared.names.Position.{Position}
use Rattle.mega_ballot.specs.declared.ballot.Ballot.{Ballot}
use Rattle.mega_entry.specs.declared.content.Content.{Content}
use Rattle.mega_wire.specs.declared.message.Body.{Body}
use Rattle.mega_wire.specs.declared.message.Body.TheVariants.{Accepted, Promise}
use Rattle.mega_wal.specs.declared.answers.Promised.{Promised as PromiseAnswer}
use Rattle.mega_wal.specs.declared.answers.Promised.TheVariants as promise
use Rattle.mega_wal.specs.declared.answers.Voted.{Voted as AcceptAnswer}
use Rattle.mega_wal.specs.declared.answers.Voted.TheVariants as vote
use Rattle.mega_wal.specs.Acceptor.{Act, Vote, accept_answer, best, is_ballot_below, promise_answer, shown}
use Rattle.mega_rules.specs.Met.{Met}
use Rattle.mega_rules.specs.Voting.{acts, prepared, promise_body, vote_body, voted}
use Rattle.mega_voter.specs.Telling.{IsAnswer, IsHonest}

pub promised_is : (op : OpId) (group : GroupId) (position : Position) (ballot : Ballot) (report : Option Vote) (answer : PromiseAnswer)
    → promise_body op group position ballot answer ≡ Promise op group position ballot report → answer ≡ promise.Yes report
promised_is op group position ballot report (promise.Yes other) h = let same : other ≡ report = cc in ap (λ r. promise.Yes r) same
promised_is op group position ballot report (promise.Shown greater) h = absurd (cc)

pub accepted_is : (op : OpId) (group : GroupId) (position : Position) (ballot : Ballot) (entry : Content) (answer : AcceptAnswer)
    → vote_body op group position ballot entry answer ≡ Accepted op group position ballot entry → answer ≡ vote.Yes
accepted_is op group position ballot entry vote.Yes h = refl
accepted_is op group position ballot entry (vote.Shown greater) h = absurd (cc)
accepted_is op group position ballot entry (vote.Other other) h = absurd (cc)

pub prepared_answers : (met : List Met) (op : OpId) (group : GroupId) (position : Position) (ballot : Ballot) → IsAnswer met (prepared (acts met group position.0) op group position ballot)
prepared_answers met op group position ballot = go (promise_answer (acts met group position.0) ballot) refl
  where
    go : (answer : PromiseAnswer) → promise_answer (acts met group position.0) ballot ≡ answer → IsAnswer met (promise_body op group position ballot answer)
    go (promise.Yes report) e = ap (promise_body op group position ballot) e
    go (promise.Shown greater) e = tt

pub voted_answers : (met : List Met) (op : OpId) (group : GroupId) (position : Position) (ballot : Ballot) (entry : Content) → IsAnswer met (voted (acts met group position.0) op group position ballot entry)
voted_answers met op group position ballot entry = go (accept_answer (acts met group position.0) ballot entry) refl
  where
    go : (answer : AcceptAnswer) → accept_answer (acts met group position.0) ballot entry ≡ answer → IsAnswer met (vote_body op group position ballot entry answer)
    go vote.Yes e = ap (vote_body op group position ballot entry) e
    go (vote.Shown greater) e = tt
    go (vote.Other other) e = tt

reported : (made : List Act) (ballot : Ballot) (report : Option Vote) → promise_answer made ballot ≡ promise.Yes report → report ≡ best made
reported made ballot report = go (is_ballot_below ballot (shown made))
  where
    go : (t : Bool) → cond t (promise.Shown (shown made)) (promise.Yes (best made)) ≡ promise.Yes report → report ≡ best made
    go true h = absurd (cc)
    go false h = cc

pub answers_honest : (met : List Met) (body : Body) → IsAnswer met body → IsHonest met body
answers_honest met (Promise op group position ballot report) h =
    reported (acts met group position.0) ballot report (promised_is op group position ballot report (promise_answer (acts met group position.0) ballot) h)
answers_honest met _ h = tt
