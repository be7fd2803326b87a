-- The reply to a request that was taken is one that the rules of lawful tapes allow.
use Rattle.std.proofs.Common.{◌≡◌, ℕ, ◌==◌, ◌&&◌, Bool, true, false, cond, List, Option, Some, None, refl, sym, ap, subst}
use Rattle.std.proofs.lemmas.Bool.{and_parts}
use Rattle.mega_base.specs.declared.names.OpId.{OpId}
use Rattle.mega_ballot.specs.declared.ballot.Ballot.{Ballot}
use Rattle.mega_ballot.specs.Order.{zero_ballot}
use Rattle.mega_cluster.specs.declared.cluster.Cluster.{Cluster}
use Rattle.mega_entry.specs.declared.content.Content.{Content}
use Rattle.mega_wire.specs.declared.message.Message.{Message}
use Rattle.mega_wire.specs.declared.message.Body.{Body}
use Rattle.mega_wire.specs.declared.message.Body.TheVariants.{Where, Accept, Prepare, Fetch, Invalidate, Dead, Acquire}
use Rattle.mega_wal.specs.declared.answers.Promised.{Promised as PromiseAnswer}
use Rattle.mega_wal.specs.declared.answers.Promised.TheVariants as promise
use Rattle.mega_wal.specs.declared.answers.Voted.{Voted as AcceptAnswer}
use Rattle.mega_wal.specs.declared.answers.Voted.TheVariants as vote
use Rattle.mega_wal.specs.Acceptor.{accept_answer, answer_beside, best, is_ballot_below, is_same_ballot, promise_answer, shown}
use Rattle.mega_wal.specs.Same.{same_op}
use Rattle.mega_wal.proofs.Sames.{same_op_equal}
use Rattle.mega_tape_laws.specs.of_transcript.declared.item.Item.{Item}
use Rattle.mega_locks.specs.declared.asked.Asked.{Asked}
use Rattle.mega_locks.specs.declared.asked.Asked.TheVariants.{Granted as AnswerGranted, Renewed, GreaterHeld, Over}
use Rattle.mega_base.specs.declared.names.Epoch.{Epoch}
use Rattle.mega_base.specs.declared.names.NodeId.{NodeId}
use Rattle.mega_tape_laws.specs.of_rules.Met.{Met}
use Rattle.mega_tape_laws.specs.of_rules.Logs.{decided}
use Rattle.mega_tape_laws.specs.of_rules.Locks.{asked_for, held_answer, held_at, lock_answer}
use Rattle.mega_tape_laws.specs.of_rules.Members.{is_cell, is_full, is_voter}
use Rattle.mega_tape_laws.specs.of_rules.Replies.{answer_to, fetched, where_served}
use Rattle.mega_tape_laws.specs.of_rules.Voting.{acts, prepared, promise_body, vote_body, voted}
use Rattle.mega_tape_laws.specs.Places.{Place, Took, acts as acts_on, move_in}
use Rattle.mega_tape_laws.specs.Lawful.{MayMake, MaySend, a_prepare, an_accept, message}
use Rattle.mega_tape_laws.proofs.Ballots.{number_is}
use Rattle.mega_tape_laws.proofs.Lists.{some_is}
use Rattle.mega_run_laws.specs.Shows.{Shows}

-- it may be sent, and may be shown as made and not sent
abbrev pub Fair : Cluster → List Item → Message → Body → Type 0
Fair c tape m body = (MaySend c tape m body × MayMake tape m body) × ((x : OpId) (q : Place) → move_in x q body ≡ None)

-- an entry beside another is refused at ballot zero alone
beside_zero : (t same : Bool) (greater : Ballot) (o : AcceptAnswer) (other : Content) → cond t (vote.Shown greater) (cond same o vote.Yes) ≡ vote.Other other → same ≡ true
beside_zero true same greater o other h = cc
beside_zero false true greater o other h = refl
beside_zero false false greater o other h = cc

ballot_is : (a b : Ballot) → is_same_ballot a b ≡ true → a ≡ b
ballot_is a b h = let parts = and_parts (a.round == b.round) (same_op a.op b.op) h in λ i. record { round = number_is a.round b.round parts.0 i; op = same_op_equal a.op b.op parts.1 i }

accept_fair : (c : Cluster) (tape : List Item) (me from : ℕ) (op : OpId) (p : Place) (b : Ballot) (e : Content) → Took tape (message from me (Accept op p.group p.position b e))
    → (a : AcceptAnswer) → accept_answer (acts_on tape me p) b e ≡ a → Fair c tape (message me from (vote_body op p.group p.position b e a)) (vote_body op p.group p.position b e a)
accept_fair c tape me from op p b e asked vote.Yes h = ((record { asked = asked; answer = h }, record { asked = asked; answer = h }), λ x q. refl)
accept_fair c tape me from op p b e asked (vote.Shown greater) h =
    let may = an_accept e asked (ap (vote_body op p.group p.position b e) h) in ((may, may), λ x q. refl)
accept_fair c tape me from op p b e asked (vote.Other other) h =
    let made = acts_on tape me p in
    let zero = ballot_is b zero_ballot (beside_zero (is_ballot_below b (shown made)) (is_same_ballot b zero_ballot) (shown made) (answer_beside (best made) e) other h) in
    let may = an_accept e (subst (λ d. Took tape (message from me (Accept op p.group p.position d e))) zero asked)
    (ap (vote_body op p.group p.position zero_ballot e) (subst (λ d. accept_answer made d e ≡ vote.Other other) zero h)) in
    ((may, may), λ x q. refl)

prepare_fair : (c : Cluster) (tape : List Item) (me from : ℕ) (op : OpId) (p : Place) (b : Ballot) → Took tape (message from me (Prepare op p.group p.position b))
    → (a : PromiseAnswer) → promise_answer (acts_on tape me p) b ≡ a → Fair c tape (message me from (promise_body op p.group p.position b a)) (promise_body op p.group p.position b a)
prepare_fair c tape me from op p b asked (promise.Yes report) h = ((record { asked = asked; answer = h }, record { asked = asked; answer = h }), λ x q. refl)
prepare_fair c tape me from op p b asked (promise.Shown greater) h =
    let may = a_prepare asked (ap (promise_body op p.group p.position b) h) in ((may, may), λ x q. refl)

fetch_fair : (c : Cluster) (tape : List Item) (me from : ℕ) (met : List Met) (op : OpId) (p : Place) → Shows tape me met
    → (o : Option Content) → decided met p.group p.position.0 ≡ o → Fair c tape (message me from (fetched op p.group p.position o)) (fetched op p.group p.position o)
fetch_fair c tape me from met op p s None h = ((tt, tt), λ x q. refl)
fetch_fair c tape me from met op p s (Some entry) h = ((s.decides p.group p.position.0 entry h, tt), λ x q. refl)

held_fair : (c : Cluster) (tape : List Item) (me from : ℕ) (op : OpId) (cell : ℕ) (node : NodeId) (o : Option Epoch) → Fair c tape (message me from (held_answer op cell node o)) (held_answer op cell node o)
held_fair c tape me from op cell node None = ((tt, tt), λ x q. refl)
held_fair c tape me from op cell node (Some epoch) = ((tt, tt), λ x q. refl)

lock_fair : (c : Cluster) (tape : List Item) (me from : ℕ) (cell : ℕ) (epoch : Epoch) (clock : ℕ) (a : Asked) → Fair c tape (message me from (lock_answer cell epoch clock a)) (lock_answer cell epoch clock a)
lock_fair c tape me from cell epoch clock AnswerGranted = ((tt, tt), λ x q. refl)
lock_fair c tape me from cell epoch clock Renewed = ((tt, tt), λ x q. refl)
lock_fair c tape me from cell epoch clock (GreaterHeld greatest) = ((tt, tt), λ x q. refl)
lock_fair c tape me from cell epoch clock (Over greatest) = ((tt, tt), λ x q. refl)

pub served : (t : Bool) (made answer : Body) (P : Body → Type 0) → P made → where_served t made ≡ Some answer → P answer
served true made answer P p h = subst P (some_is made answer h) p
served false made answer P p h = cc

-- what a node answers to a request that it took
pub answer_fair : (c : Cluster) (tape : List Item) (me from : ℕ) (met : List Met) → Shows tape me met → (asked : Body) → Took tape (message from me asked)
    → (answer : Body) → answer_to c me met from asked ≡ Some answer → Fair c tape (message me from answer) answer
answer_fair c tape me from met s (Accept op group position b e) asked answer h =
    served (is_voter c me) (voted (acts met group position.0) op group position b e) answer (λ body. Fair c tape (message me from body) body)
    (accept_fair c tape me from op (record { group = group; position = position }) b e asked (accept_answer (acts met group position.0) b e) (ap (λ made. accept_answer made b e) (sym (s.made (record { group = group; position = position }))))) h
answer_fair c tape me from met s (Prepare op group position b) asked answer h =
    served (is_voter c me) (prepared (acts met group position.0) op group position b) answer (λ body. Fair c tape (message me from body) body)
    (prepare_fair c tape me from op (record { group = group; position = position }) b asked (promise_answer (acts met group position.0) b) (ap (λ made. promise_answer made b) (sym (s.made (record { group = group; position = position }))))) h
answer_fair c tape me from met s (Fetch op group position) asked answer h =
    served (is_voter c me) (fetched op group position (decided met group position.0)) answer (λ body. Fair c tape (message me from body) body)
    (fetch_fair c tape me from met op (record { group = group; position = position }) s (decided met group position.0) refl) h
answer_fair c tape me from met s (Dead op cell node) asked answer h =
    served (cell == me && is_cell c me) (held_answer op cell node (held_at c me met node.0)) answer (λ body. Fair c tape (message me from body) body)
    (held_fair c tape me from op cell node (held_at c me met node.0)) h
answer_fair c tape me from met s (Acquire cell epoch clock) asked answer h =
    served (cell == me && is_cell c me) (lock_answer cell epoch clock (asked_for c me met from epoch)) answer (λ body. Fair c tape (message me from body) body)
    (lock_fair c tape me from cell epoch clock (asked_for c me met from epoch)) h
answer_fair c tape me from met s (Where op group) asked answer h = served (is_voter c me) _ answer (λ body. Fair c tape (message me from body) body) ((tt, tt), λ x q. refl) h
answer_fair c tape me from met s (Invalidate op group position) asked answer h = served (is_full c me) _ answer (λ body. Fair c tape (message me from body) body) ((tt, tt), λ x q. refl) h
answer_fair c tape me from met s _ asked answer h = cc
