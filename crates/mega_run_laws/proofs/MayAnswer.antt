-- What a node answers to one that polls: no position below those that it accepted.
use Rattle.std.proofs.Common.{◌≡◌, ◌⊎◌, inl, inr, ℕ, ◌==◌, ◌&&◌, ◌≤◌, max, Bool, true, false, cond, List, [], ◌∷◌, Some, refl, sym, subst, arith}
use Rattle.std.proofs.lemmas.Bool.{and_parts}
use Rattle.mega_base.specs.declared.names.GroupId.{GroupId}
use Rattle.mega_base.specs.declared.names.OpId.{OpId}
use Rattle.mega_ballot.specs.declared.ballot.Ballot.{Ballot}
use Rattle.mega_cluster.specs.declared.cluster.Cluster.{Cluster}
use Rattle.mega_entry.specs.declared.content.Content.{Content}
use Rattle.mega_wire.specs.declared.message.Message.{Message}
use Rattle.mega_wire.specs.declared.message.Body.{Body}
use Rattle.mega_wire.specs.declared.message.Body.TheVariants.{Accept, Accepted, Acquire, Dead, Fetch, Invalidate, Prepare, Promise, Top, Where}
use Rattle.mega_wal.specs.Acceptor.{Promised, Voted}
use Rattle.mega_wal.specs.Same.{same_group}
use Rattle.mega_tape_laws.specs.of_transcript.declared.item.Item.{Item}
use Rattle.mega_tape_laws.specs.of_rules.Met.{Met, Sends, Unsends, Decides}
use Rattle.mega_tape_laws.specs.of_rules.Logs.{accepted_at, top_of}
use Rattle.mega_tape_laws.specs.of_rules.Members.{is_full, is_voter}
use Rattle.mega_tape_laws.specs.of_rules.Replies.{answer_to}
use Rattle.mega_tape_laws.specs.of_rules.Voting.{act_if, act_in, acts}
use Rattle.mega_tape_laws.specs.Places.{In, Took}
use Rattle.mega_tape_laws.specs.Lawful.{message}
use Rattle.mega_tape_laws.specs.Polls.{MayPoll, MayTell, is_asking}
use Rattle.mega_tape_laws.proofs.Ballots.{number_is}
use Rattle.mega_tape_laws.proofs.Lists.{from_cons}
use Rattle.mega_run_laws.specs.Shows.{Shows}
use Rattle.mega_run_laws.proofs.AnswerKinds.{IsHeldAnswer, IsLockAnswer, IsLogAnswer, answer_kind}
use Rattle.mega_run_laws.proofs.Replied.{served}
use Rattle.mega_run_laws.proofs.Owned.{NoAccept}

-- ---- the greatest position that a node accepted

at_least : (t : Bool) (n m : ℕ) → t ≡ true → n ≤ m → n ≤ cond t m 0
at_least true n m h le = le
at_least false n m h le = cc

pub act_voted : (g : GroupId) (n : ℕ) (body : Body) (b : Ballot) (e : Content) → act_in g n body ≡ Some (Voted b e) → n ≤ accepted_at g body
act_voted g n (Accepted op h p ballot entry) b e is = go (same_group h g && p.0 == n) refl is
  where
    go : (t : Bool) → (same_group h g && p.0 == n) ≡ t → act_if t (Voted ballot entry) ≡ Some (Voted b e) → n ≤ cond (same_group h g) p.0 0
    go true k is = let parts = and_parts (same_group h g) (p.0 == n) k in let same = number_is p.0 n parts.1 in at_least (same_group h g) n p.0 parts.0 (omega (arith, same))
    go false k is = cc
act_voted g n (Promise op h p ballot report) b e is = go (same_group h g && p.0 == n) is
  where
    go : (t : Bool) → act_if t (Promised ballot report) ≡ Some (Voted b e) → n ≤ 0
    go true is = cc
    go false is = cc
act_voted g n _ b e is = cc

first_most : (n a b : ℕ) → n ≤ a → n ≤ max a b
first_most n a b le = omega arith

second_most : (n a b : ℕ) → n ≤ b → n ≤ max a b
second_most n a b le = omega arith

if_most : (t : Bool) (n a b : ℕ) → n ≤ b → n ≤ cond t (max a b) b
if_most true n a b le = second_most n a b le
if_most false n a b le = le

made_most : (g : GroupId) (n : ℕ) (body : Body) (before : List Met) (b : Ballot) (e : Content) → (act_in g n body ≡ Some (Voted b e)) ⊎ (n ≤ top_of before g) → n ≤ max (accepted_at g body) (top_of before g)
made_most g n body before b e (inl is) = first_most n (accepted_at g body) (top_of before g) (act_voted g n body b e is)
made_most g n body before b e (inr le) = second_most n (accepted_at g body) (top_of before g) le

pub top_most : (met : List Met) (g : GroupId) (n : ℕ) (b : Ballot) (e : Content) → In (Voted b e) (acts met g n) → n ≤ top_of met g
top_most [] g n b e i = absurd i
top_most (Sends m ∷ before) g n b e i = made_most g n m.body before b e (elim (from_cons (act_in g n m.body) (acts before g n) (Voted b e) i) [ inl is ↦ inl is | inr j ↦ inr (top_most before g n b e j) ])
top_most (Unsends m ∷ before) g n b e i = made_most g n m.body before b e (elim (from_cons (act_in g n m.body) (acts before g n) (Voted b e) i) [ inl is ↦ inl is | inr j ↦ inr (top_most before g n b e j) ])
top_most (Decides h p entry ∷ before) g n b e i = if_most (same_group h g) n p (top_of before g) (top_most before g n b e i)
top_most (_ ∷ before) g n b e i = top_most before g n b e i

-- ---- what is of no poll, and proposes nothing

abbrev NoPoll : Body → Type 0
NoPoll (Where op g) = ⊥
NoPoll (Top op g n) = ⊥
NoPoll (Accept op g n b e) = ⊥
NoPoll _ = Unit {0}

-- an answer may be told, and asks nothing
abbrev pub MayAnswer : List Item → Message → Body → Type 0
MayAnswer tape m body = MayPoll tape m body × ((x : OpId) → is_asking x body ≡ false) × NoAccept body

no_poll : (tape : List Item) (m : Message) (body : Body) → NoPoll body → MayAnswer tape m body
no_poll tape m (Where op g) h = absurd h
no_poll tape m (Top op g n) h = absurd h
no_poll tape m (Accept op g n b e) h = absurd h
no_poll tape m _ h = (tt, λ x. refl, tt)

log_plain : (body : Body) → IsLogAnswer body → NoPoll body
log_plain (Where op g) h = h
log_plain (Top op g n) h = h
log_plain (Accept op g n b e) h = h
log_plain _ h = tt

held_plain : (body : Body) → IsHeldAnswer body → NoPoll body
held_plain (Where op g) h = h
held_plain (Top op g n) h = h
held_plain (Accept op g n b e) h = h
held_plain _ h = tt

lock_plain : (body : Body) → IsLockAnswer body → NoPoll body
lock_plain (Where op g) h = h
lock_plain (Top op g n) h = h
lock_plain (Accept op g n b e) h = h
lock_plain _ h = tt

-- what a node answers to a request that it took
pub answer_told : (c : Cluster) (tape : List Item) (me from : ℕ) (met : List Met) → Shows tape me met → (asked : Body) → Took tape (message from me asked)
    → (answer : Body) → answer_to c me met from asked ≡ Some answer → MayAnswer tape (message me from answer) answer
answer_told c tape me from met s (Accept op group position b e) asked answer h = no_poll tape (message me from answer) answer (log_plain answer (answer_kind c me met from (Accept op group position b e) answer h))
answer_told c tape me from met s (Prepare op group position b) asked answer h = no_poll tape (message me from answer) answer (log_plain answer (answer_kind c me met from (Prepare op group position b) answer h))
answer_told c tape me from met s (Fetch op group position) asked answer h = no_poll tape (message me from answer) answer (log_plain answer (answer_kind c me met from (Fetch op group position) answer h))
answer_told c tape me from met s (Dead op cell node) asked answer h = no_poll tape (message me from answer) answer (held_plain answer (answer_kind c me met from (Dead op cell node) answer h))
answer_told c tape me from met s (Acquire cell epoch clock) asked answer h = no_poll tape (message me from answer) answer (lock_plain answer (answer_kind c me met from (Acquire cell epoch clock) answer h))
answer_told c tape me from met s (Where op group) asked answer h = served (is_voter c me) _ answer (λ body. MayAnswer tape (message me from body) body) (tells, λ x. refl, tt) h
  where
    tells : MayTell tape from me op group (record { 0 = top_of met group })
    tells = record { asked = asked; most = λ n b e i. top_most met group n.0 b e (subst (In (Voted b e)) (sym (s.made (record { group = group; position = n }))) i) }
answer_told c tape me from met s (Invalidate op group position) asked answer h = served (is_full c me) _ answer (λ body. MayAnswer tape (message me from body) body) (tt, λ x. refl, tt) h
answer_told c tape me from met s _ asked answer h = cc
