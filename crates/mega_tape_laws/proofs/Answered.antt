-- Answers keep their causes: so the tape is serial.
use Rattle.std.proofs.Common.{◌≡◌, ◌≢◌, ◌⊎◌, inl, inr, ℕ, ◌-◌, ◌≤◌, ◌&&◌, ◌||◌, Bool, true, false, cond, List, [], ◌∷◌, length, take, Option, Some, Result, Ok, Err, refl, sym, ap, ◌∙◌, subst, arith}
use Rattle.std.proofs.lemmas.Bool.{or_right}
use Rattle.mega_base.specs.declared.names.GroupId.{GroupId}
use Rattle.mega_base.specs.declared.names.NodeId.{NodeId}
use Rattle.mega_base.specs.declared.names.OpId.{OpId}
use Rattle.mega_base.specs.declared.names.Position.{Position}
use Rattle.mega_ballot.specs.declared.ballot.Ballot.{Ballot}
use Rattle.mega_cluster.specs.declared.cluster.Cluster.{Cluster}
use Rattle.mega_schema.specs.declared.schema.Schema.{Schema}
use Rattle.mega_entry.specs.declared.content.Content.{Content}
use Rattle.mega_wire.specs.declared.message.Body.{Body}
use Rattle.mega_wire.specs.declared.message.Body.TheVariants.{Accept, Prepare}
use Rattle.mega_index.specs.Rows.{after, no_rows}
use Rattle.mega_outcome.specs.declared.answer.Answer.{Answer}
use Rattle.mega_outcome.specs.declared.answer.Answer.TheVariants.{AllTurned, Batched, Committed, Conflict, Turned, Read as ReadAnswer, Worn}
use Rattle.mega_outcome.specs.declared.answer.Done.{Done}
use Rattle.mega_outcome.specs.declared.answer.Shown.{Shown}
use Rattle.mega_outcome.specs.declared.answer.Turn.{Turn}
use Rattle.mega_outcome.specs.declared.request.Request.{Request}
use Rattle.mega_outcome.specs.declared.request.Request.TheVariants.{Txn, Batch as BatchRequest, Read as ReadRequested}
use Rattle.mega_outcome.specs.declared.request.ReadRequest.{ReadRequest}
use Rattle.mega_outcome.specs.declared.transaction.Transaction.{Transaction}
use Rattle.mega_outcome.specs.Outcome.{batch_outcome, outcome}
use Rattle.mega_wal.specs.Same.{same_op}
use Rattle.mega_wal.proofs.Sames.{same_op_self}
use Rattle.mega_promises.specs.of_transcript.declared.item.Item.{Item}
use Rattle.mega_promises.specs.of_transcript.declared.item.Item.TheVariants.{Answer as AnswerItem, Begin, Decide, Sent}
use Rattle.mega_promises.specs.of_rules.Steps.{is_current}
use Rattle.mega_promises.specs.Promises.{IsSerial, Stands, asked_for, group_written, is_negative, is_write, log_of, rows_shown}
use Rattle.mega_tape_laws.specs.Places.{In, Place, Prepares, Proposes, is_move_at, move_in, move_of, moves}
use Rattle.mega_tape_laws.specs.Writes.{AreWritten, IsFront, Usage, IsNamed}
use Rattle.mega_tape_laws.specs.Answers.{AreAnswered, IsAnswered, IsDoomed, KnowsBelow, LawfulAnswers, Lost, MayCommit, MayCommitAll, MayConflict, MaySpeak, MayRead, MayTurn, MayTurnAll, ShowsFront, Replied, has_failed, of_pump, of_read, of_transaction, of_write}
use Rattle.mega_tape_laws.proofs.Lists.{from_cons}
use Rattle.mega_tape_laws.proofs.Made.{move_is, moved_at, proposal_entry}
use Rattle.mega_tape_laws.proofs.Agreement.{agreement}
use Rattle.mega_tape_laws.proofs.Ballots.{clash}
use Rattle.mega_tape_laws.proofs.Origins.{Origin, asked_then, id_is}
use Rattle.mega_tape_laws.proofs.Serial.{decide_origin, id_once, same_request, serial_entries}
use Rattle.mega_tape_laws.proofs.Complete.{known_is_front}

-- what lasts, and held right after an item was answered for, holds where that item stands
answered : (schema : Schema) (usage : Usage) (Q : List Item → Type 0) (item : Item)
    → ((other : Item) (before : List Item) → AreWritten schema usage (other ∷ before) → AreAnswered schema usage (other ∷ before) → Q before → Q (other ∷ before))
    → ((before : List Item) → IsAnswered schema usage before item → Q (item ∷ before))
    → (tape : List Item) → AreWritten schema usage tape → AreAnswered schema usage tape → Stands item tape → Q tape
answered schema usage Q item lasts held [] w a s = absurd s
answered schema usage Q item lasts held (other ∷ before) w a (inl same) = subst (λ x. Q (x ∷ before)) (sym same) (held before (subst (IsAnswered schema usage before) same a.0))
answered schema usage Q item lasts held (other ∷ before) w a (inr s) = lasts other before w a (answered schema usage Q item lasts held before w.1 a.1 s)

abbrev is_worn : Answer → Bool
is_worn Worn = true
is_worn _ = false

-- who is answered anything else has a name of its own
named_at : (schema : Schema) (usage : Usage) (tape : List Item) → AreWritten schema usage tape → AreAnswered schema usage tape → (op : OpId) (answer : Answer) → Stands (AnswerItem op answer) tape → is_worn answer ≡ false → IsNamed op
named_at schema usage tape w a op answer s other = answered schema usage (λ x. IsNamed op) (AnswerItem op answer) (λ item before w a q. q) (λ before a. elim (a.1).1 [ inl worn ↦ absurd (clash (is_worn answer) (ap is_worn worn) other) | inr named ↦ named ]) tape w a s

-- what an operation's node knew it still knows
below_then : (item : Item) (before : List Item) (op : OpId) (group : GroupId) (below : List Content) (n : Position) → KnowsBelow before op group below n → KnowsBelow (item ∷ before) op group below n
below_then item before op group below n k = record { known = λ j d is. inr ((k.known) j d is); reaches = k.reaches }

-- ---- committed

commit_then : (schema : Schema) (usage : Usage) (op : OpId) → IsNamed op → (n : Position) (replies : List (Option Shown)) (other : Item) (before : List Item) → AreWritten schema usage (other ∷ before)
    → MayCommit schema usage before op n replies → MayCommit schema usage (other ∷ before) op n replies
commit_then schema usage op named n replies other before w m = record { group = m.group; entry = m.entry; stands = inr m.stands; is_own = m.is_own; replied = go m.replied }
  where
    go : Replied schema usage before op m.group n replies → Replied schema usage (other ∷ before) op m.group n replies
    go (of_transaction transaction below done asked knows comes shows) = of_transaction transaction below done (asked_then schema usage other before w.0 op named _ asked) (below_then other before op m.group below n knows) comes shows
    go (of_pump request asked reads) = of_pump request (asked_then schema usage other before w.0 op named _ asked) reads

transaction_is : (x y : Transaction) → Txn x ≡ Txn y → x ≡ y
transaction_is x y h = cc

-- the entries below a position are the log's
below_is : (c : Cluster) (usage : Usage) (tape : List Item) → LawfulAnswers c usage tape → (op : OpId) (group : GroupId) (below : List Content) (n : Position) → KnowsBelow tape op group below n → below ≡ take (n.0 - 1) (log_of tape group)
below_is c usage tape l op group below n knows =
    let reaches = knows.reaches in
    let same : length below ≡ n.0 - 1 = omega arith in
    (known_is_front c tape ((l.writes).lawful) op.node.0 group below knows.known).is ∙ ap (λ k. take k (log_of tape group)) same

abbrev Replies : Cluster → Usage → List Item → OpId → GroupId → Position → List (Option Shown) → Type 0
Replies c usage tape op group n replies = (transaction : Transaction) → asked_for usage.meaning tape op ≡ Some (Txn transaction)
    → (done : Done) × (outcome c.schema transaction (after (take (n.0 - 1) (log_of tape group)) no_rows) ≡ Ok done) × (done.replies ≡ replies)

committed_shows : (c : Cluster) (usage : Usage) (tape : List Item) → LawfulAnswers c usage tape → (op : OpId) (group : GroupId) (n : Position) (replies : List (Option Shown)) → Replied c.schema usage tape op group n replies → Replies c usage tape op group n replies
committed_shows c usage tape l op group n replies (of_transaction own below done asked knows comes shows) transaction asks =
    let same = transaction_is own transaction (same_request usage tape op op (Txn own) (Txn transaction) refl asked asks) in
    let front = below_is c usage tape l op group below n knows in
    (done, coe 0 1 (i. outcome c.schema (same i) (after (front i) no_rows) ≡ Ok done) comes, shows)
committed_shows c usage tape l op group n replies (of_pump request asked reads) transaction asks =
    let same = ap is_write (same_request usage tape op op request (Txn transaction) refl asked asks) in cc

committed_at : (c : Cluster) (usage : Usage) (tape : List Item) → LawfulAnswers c usage tape → (op : OpId) (n : Position) (replies : List (Option Shown)) → Stands (AnswerItem op (Committed n replies)) tape
    → (group : GroupId) × (entry : Content) × Stands (Decide op.node group n entry) tape × (entry.id ≡ Some op) × Replies c usage tape op group n replies
committed_at c usage tape l op n replies s =
    let m = answered c.schema usage (λ x. MayCommit c.schema usage x op n replies) (AnswerItem op (Committed n replies))
    (λ other before w a q. commit_then c.schema usage op (named_at c.schema usage tape (l.writes).written l.answered op (Committed n replies) s refl) n replies other before w q) (λ before a. kept before a.0) tape (l.writes).written l.answered s in
    (m.group, m.entry, m.stands, m.is_own, committed_shows c usage tape l op m.group n replies m.replied)
  where
    kept : (before : List Item) → MayCommit c.schema usage before op n replies → MayCommit c.schema usage (AnswerItem op (Committed n replies) ∷ before) op n replies
    kept before m = record { group = m.group; entry = m.entry; stands = inr m.stands; is_own = m.is_own; replied = go m.replied }
      where
        go : Replied c.schema usage before op m.group n replies → Replied c.schema usage (AnswerItem op (Committed n replies) ∷ before) op m.group n replies
        go (of_transaction transaction below done asked knows comes shows) = of_transaction transaction below done asked (below_then (AnswerItem op (Committed n replies)) before op m.group below n knows) comes shows
        go (of_pump request asked reads) = of_pump request asked reads

-- ---- batches

abbrev Results : Type 0
Results = List (Result (List (Option Shown)) Turn)

commit_all_then : (schema : Schema) (usage : Usage) (op : OpId) (n : Position) (results : Results) (other : Item) (before : List Item)
    → ((request : Request) → asked_for usage.meaning before op ≡ Some request → asked_for usage.meaning (other ∷ before) op ≡ Some request)
    → MayCommitAll schema usage before op n results → MayCommitAll schema usage (other ∷ before) op n results
commit_all_then schema usage op n results other before asks m = record {
  group = m.group;
  entry = m.entry;
  stands = inr m.stands;
  is_own = m.is_own;
  own = m.own;
  transactions = m.transactions;
  asked = asks (BatchRequest m.own m.transactions) m.asked;
  below = m.below;
  knows = below_then other before op m.group m.below n m.knows;
  shows = m.shows;
}

own_is : (g h : GroupId) (x y : List Transaction) → BatchRequest g x ≡ BatchRequest h y → g ≡ h
own_is g h x y k = cc

transactions_are : (g h : GroupId) (x y : List Transaction) → BatchRequest g x ≡ BatchRequest h y → x ≡ y
transactions_are g h x y k = cc

batched_at : (c : Cluster) (usage : Usage) (tape : List Item) → LawfulAnswers c usage tape → (op : OpId) (n : Position) (results : Results) → Stands (AnswerItem op (Batched n results)) tape
    → (group : GroupId) × (entry : Content) × Stands (Decide op.node group n entry) tape × (entry.id ≡ Some op)
    × ((own : GroupId) (transactions : List Transaction) → asked_for usage.meaning tape op ≡ Some (BatchRequest own transactions)
    → (batch_outcome c.schema own transactions (after (take (n.0 - 1) (log_of tape group)) no_rows)).results ≡ results)
batched_at c usage tape l op n results s = (m.group, m.entry, m.stands, m.is_own, shows)
  where
    m : MayCommitAll c.schema usage tape op n results
    m = answered c.schema usage (λ x. MayCommitAll c.schema usage x op n results) (AnswerItem op (Batched n results))
        (λ other before w a q. commit_all_then c.schema usage op n results other before (λ request h. asked_then c.schema usage other before w.0 op (named_at c.schema usage tape (l.writes).written l.answered op (Batched n results) s refl) request h) q)
        (λ before a. commit_all_then c.schema usage op n results (AnswerItem op (Batched n results)) before (λ request h. h) a.0) tape (l.writes).written l.answered s

    shows : (own : GroupId) (transactions : List Transaction) → asked_for usage.meaning tape op ≡ Some (BatchRequest own transactions)
        → (batch_outcome c.schema own transactions (after (take (n.0 - 1) (log_of tape m.group)) no_rows)).results ≡ results
    shows own transactions asks =
        let same = same_request usage tape op op (BatchRequest m.own m.transactions) (BatchRequest own transactions) refl m.asked asks in
        let group = own_is m.own own m.transactions transactions same in
        let all = transactions_are m.own own m.transactions transactions same in
        let front = below_is c usage tape l op m.group m.below n m.knows in
        coe 0 1 (i. (batch_outcome c.schema (group i) (all i) (after (front i) no_rows)).results ≡ results) m.shows

-- ---- conflicts

conflict_then : (usage : Usage) (op : OpId) (n : Position) (other : Option OpId) (item : Item) (before : List Item)
    → ((request : Request) → asked_for usage.meaning before op ≡ Some request → asked_for usage.meaning (item ∷ before) op ≡ Some request)
    → MayConflict usage before op n other → MayConflict usage (item ∷ before) op n other
conflict_then usage op n other item before asks m = record {
  request = m.request;
  asked = asks m.request m.asked;
  group = m.group;
  home = m.home;
  entry = m.entry;
  stands = inr m.stands;
  names = m.names;
  others = m.others;
}

conflict_at : (c : Cluster) (usage : Usage) (tape : List Item) → LawfulAnswers c usage tape → (op : OpId) (n : Position) (other : Option OpId) → Stands (AnswerItem op (Conflict n other)) tape
    → (group : GroupId) × (entry : Content) × Stands (Decide op.node group n entry) tape × (entry.id ≡ other) × (other ≢ Some op)
    × ((request : Request) → asked_for usage.meaning tape op ≡ Some request → is_write request ≡ true → group_written request ≡ Some group)
conflict_at c usage tape l op n other s = (m.group, m.entry, m.stands, m.names, m.others, home)
  where
    m : MayConflict usage tape op n other
    m = answered c.schema usage (λ x. MayConflict usage x op n other) (AnswerItem op (Conflict n other))
        (λ item before w a q. conflict_then usage op n other item before (λ request h. asked_then c.schema usage item before w.0 op (named_at c.schema usage tape (l.writes).written l.answered op (Conflict n other) s refl) request h) q)
        (λ before a. conflict_then usage op n other (AnswerItem op (Conflict n other)) before (λ request h. h) a.0) tape (l.writes).written l.answered s

    home : (request : Request) → asked_for usage.meaning tape op ≡ Some request → is_write request ≡ true → group_written request ≡ Some m.group
    home request asks = subst (λ (r : Request). is_write r ≡ true → group_written r ≡ Some m.group) (same_request usage tape op op m.request request refl m.asked asks) m.home

-- ---- turned

turn_then : (schema : Schema) (usage : Usage) (op : OpId) (turn : Turn) (other : Item) (before : List Item)
    → ((request : Request) → asked_for usage.meaning before op ≡ Some request → asked_for usage.meaning (other ∷ before) op ≡ Some request)
    → MayTurn schema usage before op turn → MayTurn schema usage (other ∷ before) op turn
turn_then schema usage op turn other before asks (of_write transaction below asked known turns) = of_write transaction below (asks (Txn transaction) asked) (λ k d is. inr (known k d is)) turns
turn_then schema usage op turn other before asks (of_read request asked reads) = of_read request (asks request asked) reads

abbrev TurnedOn : Cluster → List Item → Turn → Transaction → Type 0
TurnedOn c tape turn t = (p : ℕ) × (p ≤ length (log_of tape t.group)) × (outcome c.schema t (after (take p (log_of tape t.group)) no_rows) ≡ Err turn)

turned_on : (c : Cluster) (usage : Usage) (tape : List Item) → LawfulAnswers c usage tape → (op : OpId) (turn : Turn) (transaction : Transaction) → asked_for usage.meaning tape op ≡ Some (Txn transaction)
    → MayTurn c.schema usage tape op turn → TurnedOn c tape turn transaction
turned_on c usage tape l op turn transaction asks (of_write own below asked known turns) =
    let front = known_is_front c tape ((l.writes).lawful) op.node.0 own.group below known in
    subst (TurnedOn c tape turn) (transaction_is own transaction (same_request usage tape op op (Txn own) (Txn transaction) refl asked asks))
    (length below, front.shorter, subst (λ entries. outcome c.schema own (after entries no_rows) ≡ Err turn) front.is turns)
turned_on c usage tape l op turn transaction asks (of_read request asked reads) =
    let same = ap is_write (same_request usage tape op op request (Txn transaction) refl asked asks) in cc

turned_at : (c : Cluster) (usage : Usage) (tape : List Item) → LawfulAnswers c usage tape → (op : OpId) (turn : Turn) (transaction : Transaction) → Stands (AnswerItem op (Turned turn)) tape
    → asked_for usage.meaning tape op ≡ Some (Txn transaction) → TurnedOn c tape turn transaction
turned_at c usage tape l op turn transaction s asks = turned_on c usage tape l op turn transaction asks
    (answered c.schema usage (λ x. MayTurn c.schema usage x op turn) (AnswerItem op (Turned turn))
    (λ other before w a q. turn_then c.schema usage op turn other before (λ request h. asked_then c.schema usage other before w.0 op (named_at c.schema usage tape (l.writes).written l.answered op (Turned turn) s refl) request h) q)
    (λ before a. turn_then c.schema usage op turn (AnswerItem op (Turned turn)) before (λ request h. h) a.0) tape (l.writes).written l.answered s)

turn_all_then : (schema : Schema) (usage : Usage) (op : OpId) (results : Results) (other : Item) (before : List Item)
    → ((request : Request) → asked_for usage.meaning before op ≡ Some request → asked_for usage.meaning (other ∷ before) op ≡ Some request)
    → MayTurnAll schema usage before op results → MayTurnAll schema usage (other ∷ before) op results
turn_all_then schema usage op results other before asks m = record {
  own = m.own;
  transactions = m.transactions;
  asked = asks (BatchRequest m.own m.transactions) m.asked;
  below = m.below;
  known = λ k d is. inr ((m.known) k d is);
  turns = m.turns;
}

all_turned_at : (c : Cluster) (usage : Usage) (tape : List Item) → LawfulAnswers c usage tape → (op : OpId) (results : Results) (own : GroupId) (transactions : List Transaction) → Stands (AnswerItem op (AllTurned results)) tape
    → asked_for usage.meaning tape op ≡ Some (BatchRequest own transactions)
    → (p : ℕ) × (p ≤ length (log_of tape own)) × ((batch_outcome c.schema own transactions (after (take p (log_of tape own)) no_rows)).results ≡ results)
all_turned_at c usage tape l op results own transactions s asks =
    coe 0 1 (i. (p : ℕ) × (p ≤ length (log_of tape (group i))) × ((batch_outcome c.schema (group i) (all i) (after (take p (log_of tape (group i))) no_rows)).results ≡ results))
    (length m.below, front.shorter, subst (λ below. (batch_outcome c.schema m.own m.transactions (after below no_rows)).results ≡ results) front.is m.turns)
  where
    m : MayTurnAll c.schema usage tape op results
    m = answered c.schema usage (λ x. MayTurnAll c.schema usage x op results) (AnswerItem op (AllTurned results))
        (λ other before w a q. turn_all_then c.schema usage op results other before (λ request h. asked_then c.schema usage other before w.0 op (named_at c.schema usage tape (l.writes).written l.answered op (AllTurned results) s refl) request h) q)
        (λ before a. turn_all_then c.schema usage op results (AnswerItem op (AllTurned results)) before (λ request h. h) a.0) tape (l.writes).written l.answered s

    same : BatchRequest m.own m.transactions ≡ BatchRequest own transactions
    same = same_request usage tape op op (BatchRequest m.own m.transactions) (BatchRequest own transactions) refl m.asked asks

    group : m.own ≡ own
    group = own_is m.own own m.transactions transactions same

    all : m.transactions ≡ transactions
    all = transactions_are m.own own m.transactions transactions same

    front : IsFront (log_of tape m.own) m.below
    front = known_is_front c tape ((l.writes).lawful) op.node.0 m.own m.below m.known

-- ---- reads

read_then : (schema : Schema) (usage : Usage) (op : OpId) (p : Position) (rows : List (Option Shown)) (other : Item) (before : List Item)
    → ((request : Request) → asked_for usage.meaning before op ≡ Some request → asked_for usage.meaning (other ∷ before) op ≡ Some request)
    → MayRead schema usage before op p rows → MayRead schema usage (other ∷ before) op p rows
read_then schema usage op p rows other before asks m = record {
  request = m.request;
  asked = asks (ReadRequested m.request) m.asked;
  current = λ is. let f = (m.current) is in record { below = f.below; known = λ k d there. inr ((f.known) k d there); reaches = f.reaches; shows = f.shows };
}

-- what an operation began with is what it asked for
pub began_with : (schema : Schema) (usage : Usage) (tape : List Item) → AreWritten schema usage tape → (op : OpId) → IsNamed op → (text : List ℕ) (request : Request)
    → Stands (Begin op text) tape → usage.meaning text ≡ Some request → asked_for usage.meaning tape op ≡ Some request
began_with schema usage [] w op named text request s h = absurd s
began_with schema usage (item ∷ before) w op named text request (inl same) h =
    subst (λ x. asked_for usage.meaning (x ∷ before) op ≡ Some request) (sym same) (ap (λ t. cond t (usage.meaning text) (asked_for usage.meaning before op)) (same_op_self op) ∙ h)
began_with schema usage (item ∷ before) w op named text request (inr s) h = asked_then schema usage item before w.0 op named request (began_with schema usage before w.1 op named text request s h)

read_is : (x y : ReadRequest) → ReadRequested x ≡ ReadRequested y → x ≡ y
read_is x y h = cc

pub read_at : (c : Cluster) (usage : Usage) (tape : List Item) → LawfulAnswers c usage tape → (op : OpId) (text : List ℕ) (request : ReadRequest) (p : Position) (rows : List (Option Shown)) → Stands (Begin op text) tape
    → usage.meaning text ≡ Some (ReadRequested request) → is_current request.mode ≡ true → Stands (AnswerItem op (ReadAnswer p rows)) tape
    → rows_shown c.schema request (take p.0 (log_of tape request.group)) request.rows ≡ Ok rows
read_at c usage tape l op text request p rows begins means current s =
    subst (λ below. rows_shown c.schema request below request.rows ≡ Ok rows) (front.is ∙ ap (λ k. take k (log_of tape request.group)) (sym found.reaches)) found.shows
  where
    named : IsNamed op
    named = named_at c.schema usage tape (l.writes).written l.answered op (ReadAnswer p rows) s refl

    m : MayRead c.schema usage tape op p rows
    m = answered c.schema usage (λ x. MayRead c.schema usage x op p rows) (AnswerItem op (ReadAnswer p rows))
        (λ other before w a q. read_then c.schema usage op p rows other before (λ r h. asked_then c.schema usage other before w.0 op named r h) q)
        (λ before a. read_then c.schema usage op p rows (AnswerItem op (ReadAnswer p rows)) before (λ r h. h) a.0) tape (l.writes).written l.answered s

    same : m.request ≡ request
    same = read_is m.request request (same_request usage tape op op (ReadRequested m.request) (ReadRequested request) refl m.asked (began_with c.schema usage tape (l.writes).written op named text (ReadRequested request) begins means))

    found : ShowsFront c.schema tape op request p rows
    found = subst (λ r. ShowsFront c.schema tape op r p rows) same ((m.current) (ap (λ (r : ReadRequest). is_current r.mode) same ∙ current))

    front : IsFront (log_of tape request.group) found.below
    front = known_is_front c tape ((l.writes).lawful) op.node.0 request.group found.below found.known

-- ---- nowhere

lost_then : (item : Item) (before : List Item) (op : OpId) (p : Place) → Lost before op p → Lost (item ∷ before) op p
lost_then item before op p h = record { node = h.node; entry = h.entry; stands = inr h.stands; other = h.other }

-- an operation that failed, and whose places are lost
record Failed (tape : List Item) (op : OpId) : Type 0 where
  has : has_failed tape op ≡ true
  doomed : IsDoomed tape op

failed_then : (item : Item) (before : List Item) (op : OpId) → has_failed before op ≡ true → has_failed (item ∷ before) op ≡ true
failed_then (AnswerItem answered answer) before op h = or_right (same_op answered op && is_negative answer) (has_failed before op) h
failed_then _ before op h = h

spoken : (before : List Item) (op : OpId) (p : Place) (b : Ballot) (e : Content) (body : Body) → move_in op p body ≡ Some (Proposes b e) → MaySpeak before body → has_failed before op ≡ true → e.id ≡ Some op → Lost before op p
spoken before op p b e (Accept o g n d f) h may =
    let parts = move_is (is_move_at op p o g n) (Proposes d f) (Proposes b e) h in
    let at = moved_at op p o g n parts.0 in
    let entry = proposal_entry d b f e parts.1 in
    coe 0 1 (i. has_failed before (at.0 i) ≡ true → (entry i).id ≡ Some (at.0 i) → Lost before (at.0 i) (at.1 i)) may
spoken before op p b e (Prepare o g n d) h may = let parts = move_is (is_move_at op p o g n) (Prepares d) (Proposes b e) h in let clashing = parts.1 in cc
spoken before op p b e _ h may = cc

says : (schema : Schema) (usage : Usage) (before : List Item) (op : OpId) (p : Place) (b : Ballot) (e : Content) (item : Item) → move_of op p item ≡ Some (Proposes b e) → IsAnswered schema usage before item → has_failed before op ≡ true → e.id ≡ Some op → Lost before op p
says schema usage before op p b e (Sent number m) h a = spoken before op p b e m.body h a
says schema usage before op p b e _ h a = cc

doomed_then : (schema : Schema) (usage : Usage) (op : OpId) (item : Item) (before : List Item) → IsAnswered schema usage before item → Failed before op → Failed (item ∷ before) op
doomed_then schema usage op item before a f = record { has = failed_then item before op f.has; doomed = λ p b e i id. lost_then item before op p (go p b e id (from_cons (move_of op p item) (moves before op p) (Proposes b e) i)) }
  where
    go : (p : Place) (b : Ballot) (e : Content) → e.id ≡ Some op → (move_of op p item ≡ Some (Proposes b e)) ⊎ In (Proposes b e) (moves before op p) → Lost before op p
    go p b e id (inl tells) = says schema usage before op p b e item tells a f.has id
    go p b e id (inr i) = (f.doomed) p b e i id

both_true : (s t u : Bool) → s ≡ true → t ≡ true → ((s && t) || u) ≡ true
both_true true true u h k = refl
both_true false t u h k = cc
both_true true false u h k = cc

nowhere_at : (c : Cluster) (usage : Usage) (tape : List Item) → LawfulAnswers c usage tape → (op : OpId) (answer : Answer) (node : NodeId) (group : GroupId) (n : Position) (entry : Content)
    → Stands (AnswerItem op answer) tape → is_negative answer ≡ true → Stands (Decide node group n entry) tape → entry.id ≢ Some op
nowhere_at c usage tape l op answer node group n entry s negative stands id = lost.other (ap (λ (e : Content). e.id) (sym same) ∙ id)
  where
    p : Place
    p = record { group = group; position = n }

    failed : Failed tape op
    failed = answered c.schema usage (λ x. Failed x op) (AnswerItem op answer) (λ other before w a q. doomed_then c.schema usage op other before a.0 q)
        (λ before a. record {
          has = both_true (same_op op op) (is_negative answer) (has_failed before op) (same_op_self op) negative;
          doomed = λ q b e i named. lost_then (AnswerItem op answer) before op q ((a.1).0 negative q b e i named);
        }) tape (l.writes).written l.answered s

    from : Origin c.schema usage tape p entry
    from = decide_origin c usage tape l.writes p node entry stands

    is_op : from.op ≡ op
    is_op = id_is c.schema usage tape from.op group from.below entry from.entry op id

    lost : Lost tape op p
    lost = (failed.doomed) p from.ballot entry (subst (λ o. In (Proposes from.ballot entry) (moves tape o p)) is_op from.stands) id

    same : entry ≡ lost.entry
    same = agreement c tape ((l.writes).lawful) node lost.node group n entry lost.entry stands lost.stands

-- ---- the whole

pub serial : (c : Cluster) (usage : Usage) (tape : List Item) → LawfulAnswers c usage tape → IsSerial c.schema usage.meaning tape
serial c usage tape l = record {
  entries = serial_entries c usage tape l.writes;
  committed = committed_at c usage tape l;
  batched = batched_at c usage tape l;
  conflicts = conflict_at c usage tape l;
  nowhere = nowhere_at c usage tape l;
  turned = turned_at c usage tape l;
  all_turned = all_turned_at c usage tape l;
  once = id_once c usage tape l.writes;
}
