-- A reply that is put together of what is read is the reply to what was met.
use Rattle.std.proofs.Common.{◌≡◌, cond, List, Option, ◌∙◌}
use Rattle.mega_base.specs.declared.names.GroupId.{GroupId}
use Rattle.mega_base.specs.declared.names.OpId.{OpId}
use Rattle.mega_base.specs.declared.names.Position.{Position}
use Rattle.mega_ballot.specs.declared.ballot.Ballot.{Ballot}
use Rattle.mega_ballot.specs.Order.{zero_ballot}
use Rattle.mega_entry.specs.declared.content.Content.{Content}
use Rattle.mega_wire.specs.declared.message.Body.{Body}
use Rattle.mega_wal.specs.declared.answers.Promised.{Promised as PromiseAnswer}
use Rattle.mega_wal.specs.declared.answers.Promised.TheVariants as promise
use Rattle.mega_wal.specs.declared.answers.Voted.{Voted as AcceptAnswer}
use Rattle.mega_wal.specs.declared.answers.Voted.TheVariants as vote
use Rattle.mega_wal.specs.declared.kept.Kept.{Kept}
use Rattle.mega_wal.specs.Acceptor.{Vote, answer_beside, best, is_ballot_below, is_same_ballot, shown}
use Rattle.mega_rules.specs.Met.{Met}
use Rattle.mega_rules.specs.Logs.{decided}
use Rattle.mega_rules.specs.Replies.{fetched}
use Rattle.mega_rules.specs.Voting.{acts, prepared, promise_body, vote_body, voted}
use Rattle.mega_voter.specs.Telling.{Tells}

module _ (kept : Kept) (op : OpId) (group own : GroupId) (position : Position) (same : own ≡ group) where
  pub prepared_told : (ballot most : Ballot) (last : Option Vote) (answer : PromiseAnswer) (body : Body)
      → ((met : List Met) → Tells kept met → most ≡ shown (acts met group position.0))
      → ((met : List Met) → Tells kept met → last ≡ best (acts met group position.0))
      → answer ≡ cond (is_ballot_below ballot most) (promise.Shown most) (promise.Yes last)
      → body ≡ promise_body op own position ballot answer
      → (met : List Met) → Tells kept met → body ≡ prepared (acts met group position.0) op group position ballot
  prepared_told ballot most last answer body is_most is_last answers is met told =
      is ∙ ((λ i. promise_body op (same i) position ballot (answers i))
      ∙ (λ i. promise_body op group position ballot (cond (is_ballot_below ballot (is_most met told i)) (promise.Shown (is_most met told i)) (promise.Yes (is_last met told i)))))

  pub voted_told : (ballot most : Ballot) (entry copied : Content) (last : Option Vote) (answer : AcceptAnswer) (body : Body)
      → ((met : List Met) → Tells kept met → most ≡ shown (acts met group position.0))
      → ((met : List Met) → Tells kept met → last ≡ best (acts met group position.0))
      → answer ≡ cond (is_ballot_below ballot most) (vote.Shown most) (cond (is_same_ballot ballot zero_ballot) (answer_beside last entry) vote.Yes)
      → copied ≡ entry
      → body ≡ vote_body op own position ballot copied answer
      → (met : List Met) → Tells kept met → body ≡ voted (acts met group position.0) op group position ballot entry
  voted_told ballot most entry copied last answer body is_most is_last answers copies is met told =
      is ∙ ((λ i. vote_body op (same i) position ballot (copies i) (answers i))
      ∙ (λ i. vote_body op group position ballot entry (cond (is_ballot_below ballot (is_most met told i)) (vote.Shown (is_most met told i)) (cond (is_same_ballot ballot zero_ballot) (answer_beside (is_last met told i) entry) vote.Yes))))

  pub fetched_told : (entry : Option Content) (body : Body)
      → ((met : List Met) → Tells kept met → entry ≡ decided met group position.0)
      → body ≡ fetched op own position entry
      → (met : List Met) → Tells kept met → body ≡ fetched op group position (decided met group position.0)
  fetched_told entry body is_entry is met told = is ∙ (λ i. fetched op (same i) position (is_entry met told i))
