-- What an open operation asked for, and what it proposed of its own.
use Rattle.std.proofs.Common.{◌≡◌, inl, inr, ℕ, zero, suc, ◌+◌, ◌-◌, ◌≤◌, ◌<◌, List, [], ◌∷◌, take, length, min, Option, Some, None, refl, sym, ap, ◌∙◌, subst, arith}
use Rattle.std.specs.Prelude.{Contains, slice_get}
use Rattle.std.proofs.lemmas.List.{length-take}
use Rattle.mega_base.specs.declared.names.GroupId.{GroupId}
use Rattle.mega_base.specs.declared.names.OpId.{OpId}
use Rattle.mega_ballot.specs.declared.ballot.Ballot.{Ballot}
use Rattle.mega_ballot.specs.Order.{zero_ballot}
use Rattle.mega_cluster.specs.declared.cluster.Cluster.{Cluster}
use Rattle.mega_schema.specs.declared.schema.Schema.{Schema}
use Rattle.mega_entry.specs.declared.content.Content.{Content}
use Rattle.mega_entry.specs.declared.content.Enter.{Enter}
use Rattle.mega_wire.specs.declared.message.Message.{Message}
use Rattle.mega_wire.specs.declared.message.Body.{Body}
use Rattle.mega_wire.specs.declared.message.Body.TheVariants.{Accept, Prepare}
use Rattle.mega_outcome.specs.declared.request.Request.{Request}
use Rattle.mega_outcome.specs.declared.request.Request.TheVariants.{Txn, Batch as BatchRequest, Read as ReadRequested, PumpEnter}
use Rattle.mega_tape_laws.specs.of_transcript.declared.item.Item.{Item}
use Rattle.mega_tape_laws.specs.of_transcript.declared.item.Item.TheVariants.{Begin, Decide, Sent}
use Rattle.mega_tape_laws.specs.of_promises.Items.{number}
use Rattle.mega_tape_laws.specs.of_promises.Promises.{Stands, asked_for}
use Rattle.mega_tape_laws.specs.of_read.declared.reading.Search.{Search}
use Rattle.mega_tape_laws.specs.of_read.declared.reading.Stage.{Stage}
use Rattle.mega_tape_laws.specs.of_read.declared.reading.Search.TheVariants.{Fetching, Filling}
use Rattle.mega_tape_laws.specs.of_read.declared.reading.Stage.TheVariants.{Polling, Catching}
use Rattle.mega_tape_laws.specs.of_rules.Met.{Met}
use Rattle.mega_tape_laws.specs.of_rules.Logs.{decided, decided_from, log_of, prefix_of, then_more}
use Rattle.mega_tape_laws.specs.of_rules.Queues.{Posted, sent_in}
use Rattle.mega_tape_laws.specs.of_rules.Operations.{Operation, Phase, Proposes as ProposesOn, Reads}
use Rattle.mega_tape_laws.specs.Places.{In, Place, Prepares, Proposes, is_move_at, move_in, moves}
use Rattle.mega_tape_laws.specs.Lawful.{Lawful}
use Rattle.mega_tape_laws.specs.Writes.{AreWritten, IsNamed, Knows, MaySay, MayWrite, Usage, fills, has_begun, no_op_by, own}
use Rattle.mega_tape_laws.proofs.Answered.{began_with}
use Rattle.mega_tape_laws.proofs.Lists.{from_cons}
use Rattle.mega_tape_laws.proofs.Made.{move_is}
use Rattle.mega_run_laws.specs.Justified.{AreOfRound, Each, sent}
use Rattle.mega_run_laws.proofs.Sending.{Stood}
use Rattle.mega_run_laws.proofs.Causes.{keeps_to}
use Rattle.mega_run_laws.proofs.Causing.{ProposesOwn}
use Rattle.mega_run_laws.proofs.Opened.{Beside, IsSought, at_place}
use Rattle.mega_run_laws.proofs.Said.{Says}
use Rattle.mega_run_laws.proofs.Written.{Unproposed, said_unproposed, said_written}

-- who uses a store, and the condition under which what is brought fits what they ask
pub record Users : Type 1 where
  pub usage : Usage
  pub fits : Type 0

-- ---- what it asked for

-- it began with a text that means its request
pub record Began (usage : Usage) (tape : List Item) (id : OpId) (request : Request) : Type 0 where
  pub text : List ℕ
  pub stands : Stands (Begin id text) tape
  pub means : usage.meaning text ≡ Some request

pub began_on : (usage : Usage) (old new : List Item) (id : OpId) (request : Request) → Stood old new → Began usage old id request → Began usage new id request
began_on usage old new id request s h = record { text = h.text; stands = s _ h.stands; means = h.means }

pub began_asked : (schema : Schema) (usage : Usage) (tape : List Item) (id : OpId) (request : Request) → AreWritten schema usage tape → IsNamed id → Began usage tape id request → asked_for usage.meaning tape id ≡ Some request
began_asked schema usage tape id request w named h = began_with schema usage tape w id named h.text request h.stands h.means

-- a message that a pump is to enter was sent to the group, as its node knows
pub record Waits (tape : List Item) (id : OpId) (group : GroupId) (message : Enter) : Type 0 where
  pub entries : List Content
  pub one : Posted
  pub known : Knows tape id.node.0 (message.name).group entries
  pub posted : Contains (sent_in (record { group = (message.name).group; entries = entries })) one
  pub to : one.to ≡ group
  pub says : one.message ≡ message

abbrev pub WaitsIf : List Item → OpId → GroupId → Option Enter → Type 0
WaitsIf tape id group None = Unit {0}
WaitsIf tape id group (Some message) = Waits tape id group message

-- the group that an operation reads is the one that it asked for
abbrev pub Serves : List Item → OpId → Request → Option Enter → GroupId → Type 0
Serves tape id (Txn transaction) message group = transaction.group ≡ group
Serves tape id (BatchRequest theirs transactions) message group = theirs ≡ group
Serves tape id (ReadRequested request) message group = request.group ≡ group
Serves tape id PumpEnter message group = WaitsIf tape id group message
Serves tape id _ message group = Unit {0}

waits_on : (old new : List Item) (id : OpId) (group : GroupId) (message : Option Enter) → Stood old new → WaitsIf old id group message → WaitsIf new id group message
waits_on old new id group None s h = tt
waits_on old new id group (Some message) s h = record { entries = h.entries; one = h.one; known = λ k d is. s _ ((h.known) k d is); posted = h.posted; to = h.to; says = h.says }

pub serves_on : (old new : List Item) (id : OpId) (request : Request) (message : Option Enter) (group : GroupId) → Stood old new → Serves old id request message group → Serves new id request message group
serves_on old new id (Txn transaction) message group s h = h
serves_on old new id (BatchRequest theirs transactions) message group s h = h
serves_on old new id (ReadRequested request) message group s h = h
serves_on old new id PumpEnter message group s h = waits_on old new id group message s h
serves_on old new id _ message group s h = tt

-- ---- what it proposed of its own

abbrev pub FillsIt : OpId → Option Search → Type 0
FillsIt op None = Unit {0}
FillsIt op (Some (Fetching position denied at)) = Unit {0}
FillsIt op (Some (Filling position proposal)) = proposal.own ≡ no_op_by op

-- what it proposes as it reads is a no-op
abbrev pub Plain : OpId → Stage → Type 0
Plain op (Polling heard best at) = Unit {0}
Plain op (Catching through search) = FillsIt op search

pub record ReadsOwn (tape : List Item) (op : OpId) (request : Request) (message : Option Enter) (group : GroupId) (stage : Stage) : Type 0 where
  pub none : Unproposed tape op
  pub plain : Plain op stage
  pub serves : Serves tape op request message group

-- as it reads, it proposed nothing with its id; then it proposed its own entry at its place
abbrev pub Mine : Schema → List Item → OpId → Request → Option Enter → Phase → Type 0
Mine schema tape op request message (Reads group r) = ReadsOwn tape op request message group r.stage
Mine schema tape op request message (ProposesOn group n asked proposal promised) = ProposesOwn schema tape op request group n proposal.own promised

-- what is known of an open operation
pub record Owned (schema : Schema) (usage : Usage) (tape : List Item) (o : Operation) : Type 0 where
  pub began : Began usage tape o.id o.request
  pub mine : Mine schema tape o.id o.request o.message o.phase

pub unproposed_on : (old new : List Item) (op : OpId) → Beside op old new → Unproposed old op → Unproposed new op
unproposed_on old new op s none = λ q b e i. none q b e (subst (In (Proposes b e)) (s.moved q) i)

pub mine_on : (schema : Schema) (old new : List Item) (op : OpId) (request : Request) (message : Option Enter) → Beside op old new → (phase : Phase) → Mine schema old op request message phase → Mine schema new op request message phase
mine_on schema old new op request message s (Reads group r) h = record { none = unproposed_on old new op s h.none; plain = h.plain; serves = serves_on old new op request message group s.stood h.serves }
mine_on schema old new op request message s (ProposesOn group n asked proposal promised) h = record {
  at = subst (In (Proposes zero_ballot proposal.own)) (sym (s.moved (at_place group n))) h.at;
  id = h.id;
  keeps = keeps_to schema old new op group (record { 0 = n }) request promised (λ node g m e stands. s.stood _ stands) h.keeps;
}

pub owned_on : (schema : Schema) (usage : Usage) (old new : List Item) (o : Operation) → Beside o.id old new → Owned schema usage old o → Owned schema usage new o
owned_on schema usage old new o s h = record { began = began_on usage old new o.id o.request s.stood h.began; mine = mine_on schema old new o.id o.request o.message s o.phase h.mine }

-- ---- the entries below

pub entry_at : (met : List Met) (group : GroupId) (most n k : ℕ) (e : Content) → slice_get (decided_from met group most n) k ≡ Some e → decided met group (n + k) ≡ Some e
entry_at met group zero n k e h = cc
entry_at met group (suc most) n k e h = go (decided met group n) refl k (λ j is. entry_at met group most (n + 1) j e is) h
  where
    go : (o : Option Content) → decided met group n ≡ o → (j : ℕ) → ((i : ℕ) → slice_get (decided_from met group most (n + 1)) i ≡ Some e → decided met group ((n + 1) + i) ≡ Some e)
        → slice_get (then_more o (decided_from met group most (n + 1))) j ≡ Some e → decided met group (n + j) ≡ Some e
    go None at j later is = cc
    go (Some d) at zero later is = ap (decided met group) (let same : n + 0 ≡ n = omega arith in same) ∙ (at ∙ is)
    go (Some d) at (suc j) later is = ap (decided met group) (let same : n + suc j ≡ (n + 1) + j = omega arith in same) ∙ later j is

pub taken_at : {X : Type 0} (p : ℕ) (xs : List X) (k : ℕ) (x : X) → slice_get (take p xs) k ≡ Some x → slice_get xs k ≡ Some x
taken_at zero xs k x h = cc
taken_at (suc p) [] k x h = cc
taken_at (suc p) (y ∷ xs) zero x h = h
taken_at (suc p) (y ∷ xs) (suc k) x h = taken_at p xs k x h

-- what a node decided stands on the tape
abbrev pub KnowsAll : ℕ → List Met → List Item → Type 0
KnowsAll me met tape = (g : GroupId) (n : ℕ) (e : Content) → decided met g n ≡ Some e → Stands (Decide (number me) g (record { 0 = n }) e) tape

pub knows_front : (tape : List Item) (me : ℕ) (met : List Met) (group : GroupId) (p : ℕ) → KnowsAll me met tape → Knows tape me group (take p (log_of met group))
knows_front tape me met group p known k d is = known group (suc k) d (subst (λ m. decided met group m ≡ Some d) (let same : 1 + k ≡ suc k = omega arith in same) (entry_at met group (length met) 1 k d (taken_at p (log_of met group) k d is)))

pub front_length : (met : List Met) (group : GroupId) (p : ℕ) → p ≤ prefix_of met group → length (take p (log_of met group)) ≡ p
front_length met group p le = length-take p (log_of met group) ∙ least p (prefix_of met group) le
  where
    least : (a b : ℕ) → a ≤ b → min a b ≡ a
    least a b le = omega arith

-- ---- who began

pub sent_begun : (x : OpId) (n : ℕ) (ms : List Message) (tape : List Item) → has_begun (sent n ms tape) x ≡ has_begun tape x
sent_begun x n [] tape = refl
sent_begun x n (m ∷ ms) tape = sent_begun x (n + 1) ms (Sent n m ∷ tape)

-- ---- what a read sends

-- no proposal
abbrev pub NoAccept : Body → Type 0
NoAccept (Accept o g n b e) = ⊥
NoAccept _ = Unit {0}

quiet_say : (schema : Schema) (usage : Usage) (tape : List Item) (from : ℕ) (body : Body) → NoAccept body → MaySay schema usage tape from body
quiet_say schema usage tape from (Accept o g n b e) h = absurd h
quiet_say schema usage tape from _ h = tt

pub quiet_written : (schema : Schema) (usage : Usage) (n : ℕ) (ms : List Message) (tape : List Item) → Each (λ (m : Message). NoAccept m.body) ms → AreWritten schema usage tape → AreWritten schema usage (sent n ms tape)
quiet_written schema usage n [] tape h w = w
quiet_written schema usage n (m ∷ ms) tape h w = quiet_written schema usage (n + 1) ms (Sent n m ∷ tape) h.1 (quiet_say schema usage tape m.from m.body h.0, w)

quiet_move : (op : OpId) (q : Place) (b : Ballot) (e : Content) (body : Body) → NoAccept body → move_in op q body ≡ Some (Proposes b e) → ⊥
quiet_move op q b e (Accept o g n d f) h is = h
quiet_move op q b e (Prepare o g n d) h is = let clashing = (move_is (is_move_at op q o g n) (Prepares d) (Proposes b e) is).1 in cc
quiet_move op q b e _ h is = cc

pub quiet_unproposed : (op : OpId) (n : ℕ) (ms : List Message) (tape : List Item) → Each (λ (m : Message). NoAccept m.body) ms → Unproposed tape op → Unproposed (sent n ms tape) op
quiet_unproposed op n [] tape h none = none
quiet_unproposed op n (m ∷ ms) tape h none = quiet_unproposed op (n + 1) ms (Sent n m ∷ tape) h.1
    (λ q b e i. elim (from_cons (move_in op q m.body) (moves tape op q) (Proposes b e) i) [ inl is ↦ absurd (quiet_move op q b e m.body h.0 is) | inr j ↦ none q b e j ])

-- what holds as an operation reads
pub record Context (c : Cluster) (usage : Usage) (tape : List Item) (met : List Met) (op : OpId) : Type 0 where
  pub lawful : Lawful c tape
  pub written : AreWritten c.schema usage tape
  pub known : KnowsAll op.node.0 met tape
  pub named : IsNamed op
  pub none : Unproposed tape op

-- a no-op may be written at a position that its read needs
pub fills_may : (c : Cluster) (usage : Usage) (tape : List Item) (met : List Met) (op : OpId) (group : GroupId) (through position : ℕ) → Context c usage tape met op → IsSought met group through position
    → MayWrite c.schema usage tape op.node.0 op (at_place group position) (no_op_by op)
fills_may c usage tape met op group through position x sought = own (record {
  named = x.named;
  below = take (position - 1) (log_of met group);
  reaches = reaches position (length (take (position - 1) (log_of met group))) (front_length met group (position - 1) (let le = sought.1 in omega (arith, le))) sought.2;
  known = knows_front tape op.node.0 met group (position - 1) x.known;
  entry = fills refl;
  home = λ q b other i h k. absurd (no_id k);
})
  where
    reaches : (n l : ℕ) → l ≡ n - 1 → 0 < n → n ≡ suc l
    reaches n l is above = omega arith

    no_id : (no_op_by op).id ≡ Some op → ⊥
    no_id h = cc

-- what a read sent of a round
pub record ReadWrote (c : Cluster) (usage : Usage) (tape : List Item) (op : OpId) (stage : Stage) (ms : List Message) : Type 0 where
  pub written : (n : ℕ) → AreWritten c.schema usage (sent n ms tape)
  pub none : (n : ℕ) → Unproposed (sent n ms tape) op
  pub plain : Plain op stage

no_id_own : (op : OpId) → (no_op_by op).id ≡ Some op → ⊥
no_id_own op h = cc

pub fills_wrote : (c : Cluster) (usage : Usage) (tape : List Item) (met : List Met) (op : OpId) (group : GroupId) (through position : ℕ) (stage : Stage) (ms : List Message) → Context c usage tape met op → IsSought met group through position
    → Each (Says tape op (at_place group position) (no_op_by op)) ms → AreOfRound op (at_place group position) ms → Plain op stage → ReadWrote c usage tape op stage ms
fills_wrote c usage tape met op group through position stage ms x sought says of plain = record {
  written = λ n. said_written c.schema usage tape op (at_place group position) (no_op_by op) n ms says of (fills_may c usage tape met op group through position x sought) x.written;
  none = λ n. said_unproposed c.schema usage tape x.written op (at_place group position) (no_op_by op) (no_id_own op) n ms says x.none;
  plain = plain;
}

pub quiet_wrote : (c : Cluster) (usage : Usage) (tape : List Item) (met : List Met) (op : OpId) (stage : Stage) (ms : List Message) → Context c usage tape met op → Each (λ (m : Message). NoAccept m.body) ms → Plain op stage → ReadWrote c usage tape op stage ms
quiet_wrote c usage tape met op stage ms x quiet plain = record {
  written = λ n. quiet_written c.schema usage n ms tape quiet x.written;
  none = λ n. quiet_unproposed op n ms tape quiet x.none;
  plain = plain;
}
