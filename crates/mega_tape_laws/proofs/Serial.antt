-- Each entry of a log is an operation's own over the entries below it; so transactions and batches are their outcomes, and an id stands once.
use Rattle.std.proofs.Common.{◌≡◌, ℕ, suc, true, List, take, slice_get, Some, Ok, refl, sym, ap, ◌∙◌, subst, arith}
use Rattle.mega_base.specs.declared.names.GroupId.{GroupId}
use Rattle.mega_base.specs.declared.names.NodeId.{NodeId}
use Rattle.mega_base.specs.declared.names.OpId.{OpId}
use Rattle.mega_ballot.specs.declared.ballot.Ballot.{Ballot}
use Rattle.mega_cluster.specs.declared.cluster.Cluster.{Cluster}
use Rattle.mega_schema.specs.declared.schema.Schema.{Schema}
use Rattle.mega_entry.specs.declared.content.Content.{Content}
use Rattle.mega_index.specs.Rows.{after, no_rows}
use Rattle.mega_outcome.specs.declared.answer.Done.{Done}
use Rattle.mega_outcome.specs.declared.request.Request.{Request}
use Rattle.mega_outcome.specs.declared.request.Request.TheVariants.{Txn, Batch as BatchRequest, PumpEnter, PumpHandle}
use Rattle.mega_outcome.specs.declared.transaction.Transaction.{Transaction}
use Rattle.mega_outcome.specs.Outcome.{batch_outcome, entry_of_batch, entry_of_done, outcome}
use Rattle.mega_promises.specs.of_transcript.declared.item.Item.{Item}
use Rattle.mega_promises.specs.of_transcript.declared.item.Item.TheVariants.{Decide}
use Rattle.mega_promises.specs.Promises.{Stands, asked_for, comes_to, group_written, is_write, log_of}
use Rattle.mega_tape_laws.specs.Chosen.{Chosen}
use Rattle.mega_tape_laws.specs.Places.{In, Place, Proposes, moves}
use Rattle.mega_tape_laws.specs.Writes.{AreWritten, LawfulWrites, OwnEntry, Usage, enters, fills, handles, runs, runs_all}
use Rattle.mega_tape_laws.proofs.Lists.{some_is}
use Rattle.mega_tape_laws.proofs.Made.{Proposed, vote_proposed}
use Rattle.mega_tape_laws.proofs.Majorities.{Shared, meet}
use Rattle.mega_tape_laws.proofs.Agreement.{decided_chosen}
use Rattle.mega_tape_laws.proofs.Entries.{entry_decided, known_front}
use Rattle.mega_tape_laws.proofs.Origins.{Origin, id_is, one_home, origin}

-- the place of the log's entry at an index
abbrev at_index : GroupId → ℕ → Place
at_index group n = record { group = group; position = record { 0 = suc n } }

-- what is decided is some operation's own entry
pub decide_origin : (c : Cluster) (usage : Usage) (tape : List Item) → LawfulWrites c usage tape → (p : Place) (node : NodeId) (e : Content) → Stands (Decide node p.group p.position e) tape → Origin c.schema usage tape p e
decide_origin c usage tape l p node e stands = origin c.schema usage tape l.written proposal.op p chosen.ballot e proposal.stands
  where
    chosen : Chosen c p tape e
    chosen = decided_chosen c p tape l.lawful node e stands

    voter : Shared chosen.test chosen.test
    voter = meet c chosen.test chosen.test chosen.majority chosen.majority

    proposal : Proposed tape p chosen.ballot e
    proposal = vote_proposed c tape l.lawful voter.node p chosen.ballot e ((chosen.each) voter.node voter.first)

log_origin : (c : Cluster) (usage : Usage) (tape : List Item) → LawfulWrites c usage tape → (group : GroupId) (n : ℕ) (e : Content) → slice_get (log_of tape group) n ≡ Some e → Origin c.schema usage tape (at_index group n) e
log_origin c usage tape l group n e h = let d = entry_decided tape group n e h in decide_origin c usage tape l (at_index group n) d.node e d.stands

-- each entry of a log is an operation's own, over the log's entries below it
pub own_entry : (c : Cluster) (usage : Usage) (tape : List Item) → LawfulWrites c usage tape → (group : GroupId) (n : ℕ) (e : Content) → slice_get (log_of tape group) n ≡ Some e
    → (op : OpId) × OwnEntry c.schema usage tape op group (take n (log_of tape group)) e
own_entry c usage tape l group n e h =
    let o = log_origin c usage tape l group n e h in
    let reaches = o.reaches in
    (o.op, subst (λ below. OwnEntry c.schema usage tape o.op group below e) (known_front c tape l.lawful o.node group o.below o.known n e h (omega arith)) o.entry)

-- ---- transactions and batches

abbrev IsOutcome : Schema → OpId → Request → GroupId → List Content → Content → Type 0
IsOutcome schema op request group below e = (group_written request ≡ Some group) × (comes_to schema op request below ≡ Some e)

of_transaction : (schema : Schema) (op : OpId) (transaction : Transaction) (group : GroupId) (below : List Content) (done : Done) (e : Content) → transaction.group ≡ group
    → outcome schema transaction (after below no_rows) ≡ Ok done → e ≡ entry_of_done op done → IsOutcome schema op (Txn transaction) group below e
of_transaction schema op transaction group below done e at h is = (ap Some at, rw (h, comes_to) (ap Some (sym is)))

of_batch : (schema : Schema) (op : OpId) (group : GroupId) (transactions : List Transaction) (below : List Content) (e : Content)
    → e ≡ entry_of_batch op (batch_outcome schema group transactions (after below no_rows)) → IsOutcome schema op (BatchRequest group transactions) group below e
of_batch schema op group transactions below e is = (refl, ap Some (sym is))

-- what two looks at one operation's request show
pub same_request : (usage : Usage) (tape : List Item) (op other : OpId) (first second : Request) → op ≡ other → asked_for usage.meaning tape op ≡ Some first → asked_for usage.meaning tape other ≡ Some second → first ≡ second
same_request usage tape op other first second same h k = some_is first second (sym h ∙ (ap (asked_for usage.meaning tape) same ∙ k))

no_write : (request other : Request) → request ≡ other → is_write other ≡ true → is_write request ≡ true
no_write request other same h = ap is_write same ∙ h

by_own : (schema : Schema) (usage : Usage) (tape : List Item) (op : OpId) (group : GroupId) (below : List Content) (e : Content) → OwnEntry schema usage tape op group below e
    → (other : OpId) (request : Request) → op ≡ other → e.id ≡ Some other → asked_for usage.meaning tape other ≡ Some request → is_write request ≡ true → IsOutcome schema other request group below e
by_own schema usage tape op group below e (fills is) other request same id asked writes = let none = sym (ap (λ (x : Content). x.id) is) ∙ id in cc
by_own schema usage tape op group below e (runs transaction done own at comes is) other request same id asked writes =
    let one = same_request usage tape op other (Txn transaction) request same own asked in
    coe 0 1 (i. IsOutcome schema (same i) (one i) group below e) (of_transaction schema op transaction group below done e at comes is)
by_own schema usage tape op group below e (runs_all transactions own is) other request same id asked writes =
    let one = same_request usage tape op other (BatchRequest group transactions) request same own asked in
    coe 0 1 (i. IsOutcome schema (same i) (one i) group below e) (of_batch schema op group transactions below e is)
by_own schema usage tape op group below e (enters message sent posted own known stands to says fresh is) other request same id asked writes =
    let none = no_write PumpEnter request (same_request usage tape op other PumpEnter request same own asked) writes in cc
by_own schema usage tape op group below e (handles message moment own oldest is) other request same id asked writes =
    let none = no_write PumpHandle request (same_request usage tape op other PumpHandle request same own asked) writes in cc

-- a transaction or a batch proposes an entry with its id in its own group
pub home_group : (schema : Schema) (usage : Usage) (tape : List Item) → AreWritten schema usage tape → (op : OpId) (p : Place) (b : Ballot) (e : Content) → In (Proposes b e) (moves tape op p) → e.id ≡ Some op
    → (request : Request) → asked_for usage.meaning tape op ≡ Some request → is_write request ≡ true → group_written request ≡ Some p.group
home_group schema usage tape w op p b e i id request asked writes =
    let o = origin schema usage tape w op p b e i in
    (by_own schema usage tape o.op p.group o.below e o.entry op request (id_is schema usage tape o.op p.group o.below e o.entry op id) id asked writes).0

pub serial_entries : (c : Cluster) (usage : Usage) (tape : List Item) → LawfulWrites c usage tape → (group : GroupId) (n : ℕ) (entry : Content) (op : OpId) (request : Request)
    → slice_get (log_of tape group) n ≡ Some entry → entry.id ≡ Some op → asked_for usage.meaning tape op ≡ Some request → is_write request ≡ true
    → (group_written request ≡ Some group) × (comes_to c.schema op request (take n (log_of tape group)) ≡ Some entry)
serial_entries c usage tape l group n entry op request h id asked writes =
    let o = own_entry c usage tape l group n entry h in
    by_own c.schema usage tape o.0 group (take n (log_of tape group)) entry o.1 op request (id_is c.schema usage tape o.0 group (take n (log_of tape group)) entry o.1 op id) id asked writes

-- ---- ids

pub id_once : (c : Cluster) (usage : Usage) (tape : List Item) → LawfulWrites c usage tape → (g h : GroupId) (m n : ℕ) (d e : Content) (op : OpId)
    → slice_get (log_of tape g) m ≡ Some d → slice_get (log_of tape h) n ≡ Some e → d.id ≡ Some op → e.id ≡ Some op → (g ≡ h) × (m ≡ n)
id_once c usage tape l g h m n d e op x y i j =
    let a = log_origin c usage tape l g m d x in
    let b = log_origin c usage tape l h n e y in
    let first : a.op ≡ op = id_is c.schema usage tape a.op g a.below d a.entry op i in
    let second : b.op ≡ op = id_is c.schema usage tape b.op h b.below e b.entry op j in
    let same : ◌≡◌ {A = Place} (at_index g m) (at_index h n) = one_home c.schema usage tape l.written op (at_index g m) (at_index h n) a.ballot b.ballot d e
    (subst (λ o. In (Proposes a.ballot d) (moves tape o (at_index g m))) first a.stands) i (subst (λ o. In (Proposes b.ballot e) (moves tape o (at_index h n))) second b.stands) j in
    let position : suc m ≡ suc n = ap (λ (p : Place). p.position.0) same in
    (ap (λ (p : Place). p.group) same, omega arith)
