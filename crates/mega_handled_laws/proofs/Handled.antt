-- Every run: an entry that handles a message is what the handler made of it that stood under the queue in the step in which the entry was made, and each answer
-- has its cause under the handlers of its step.
use Rattle.std.proofs.Common.{◌≡◌, ◌⊎◌, inl, inr, ℕ, zero, suc, ◌+◌, Bool, true, false, cond, List, [], ◌∷◌, ◌++◌, take, slice_get, Option, Some, refl, sym, ap, ◌∙◌, subst, arith}
use Rattle.std.specs.Prelude.{Contains}
use Rattle.mega_base.specs.declared.names.GroupId.{GroupId}
use Rattle.mega_base.specs.declared.names.OpId.{OpId}
use Rattle.mega_ballot.specs.declared.ballot.Ballot.{Ballot}
use Rattle.mega_ballot.specs.Order.{zero_ballot}
use Rattle.mega_cluster.specs.declared.cluster.Cluster.{Cluster}
use Rattle.mega_schema.specs.declared.schema.Schema.{Schema}
use Rattle.mega_entry.specs.declared.content.Content.{Content}
use Rattle.mega_entry.specs.declared.content.Enter.{Enter}
use Rattle.mega_entry.specs.declared.content.Name.{Name}
use Rattle.mega_handler.specs.Named.{Meanings}
use Rattle.mega_outcome.specs.declared.answer.Answer.{Answer}
use Rattle.mega_outcome.specs.declared.request.Request.{Request}
use Rattle.mega_wal.specs.Same.{same_entry}
use Rattle.mega_wal.proofs.Sames.{same_entry_equal, same_entry_self}
use Rattle.mega_wire.specs.declared.message.Message.{Message}
use Rattle.mega_wire.specs.declared.message.Body.{Body}
use Rattle.mega_wire.specs.declared.message.Body.TheVariants.{Accept, Prepare}
use Rattle.mega_run_laws.specs.of_transcript.declared.item.Item.{Item}
use Rattle.mega_run_laws.specs.of_transcript.declared.item.Item.TheVariants.{Answer as AnswerItem, Decide, Sent}
use Rattle.mega_run_laws.specs.of_promises.Causes.{HasCause}
use Rattle.mega_run_laws.specs.of_promises.Fresh.{proposes}
use Rattle.mega_run_laws.specs.of_promises.Handling.{AreHandled, IsDuring, IsHandled, WasMade}
use Rattle.mega_run_laws.specs.of_promises.Moments.{StoodOn}
use Rattle.mega_run_laws.specs.of_promises.Promises.{Stands, handled_by, log_of}
use Rattle.mega_run_laws.specs.of_promises.Runs.{Cuts, Happening, IsRun, goes_on, opening}
use Rattle.mega_run_laws.specs.of_rules.Queues.{oldest_unhandled}
use Rattle.mega_run_laws.specs.of_tape_laws.Places.{In, Move, Place, Prepares, Proposes, is_move_at, move_in, move_of, moves}
use Rattle.mega_run_laws.specs.of_tape_laws.Writes.{LawfulWrites, OwnEntry, Usage, enters, fills, handles, runs, runs_all}
use Rattle.mega_run_laws.proofs.of_tape_laws.Entries.{entry_decided, known_front}
use Rattle.mega_run_laws.proofs.of_tape_laws.Lists.{from_cons, kept}
use Rattle.mega_run_laws.proofs.of_tape_laws.Logs.{Decided}
use Rattle.mega_run_laws.proofs.of_tape_laws.Made.{move_is, moved_at, proposal_entry, proposed_here}
use Rattle.mega_run_laws.proofs.of_tape_laws.Origins.{Origin}
use Rattle.mega_run_laws.proofs.of_tape_laws.Serial.{decide_origin}
use Rattle.mega_run_laws.specs.Usages.{Fits}
use Rattle.mega_run_laws.proofs.Opened.{at_place}
use Rattle.mega_run_laws.proofs.Runs.{run_written}
use Rattle.mega_answer_laws.specs.Answered.{IsAnswered}
use Rattle.mega_answer_laws.proofs.Runs.{run_answers}
use Rattle.mega_handled_laws.specs.Meant.{AreMeant}
use Rattle.mega_handled_laws.proofs.Made.{IsProposed}
use Rattle.mega_handled_laws.proofs.Meant.{meant_fits, usage_of}
use Rattle.mega_handled_laws.proofs.Runs.{IsHandling, IsSaid, Opens, Said, goes_said, stands_on}
use Rattle.mega_handled_laws.proofs.Since.{Later, regroup}

-- ---- the first proposal

-- whether an operation proposed this entry at a place
decided_in : (e : Content) (ms : List Move) → ((b : Ballot) × In (Proposes b e) ms) ⊎ ((b : Ballot) → In (Proposes b e) ms → ⊥)
decided_in e [] = inr (λ b i. i)
decided_in e (Prepares d ∷ ms) = by (decided_in e ms)
  where
    apart : (b : Ballot) → Prepares d ≡ Proposes b e → ⊥
    apart b is = cc

    by : ((b : Ballot) × In (Proposes b e) ms) ⊎ ((b : Ballot) → In (Proposes b e) ms → ⊥) → ((b : Ballot) × In (Proposes b e) (Prepares d ∷ ms)) ⊎ ((b : Ballot) → In (Proposes b e) (Prepares d ∷ ms) → ⊥)
    by (inl there) = inl (there.0, inr there.1)
    by (inr none) = inr (λ b i. elim i [ inl is ↦ apart b is | inr j ↦ none b j ])
decided_in e (Proposes d f ∷ ms) = by (same_entry f e) refl (decided_in e ms)
  where
    by : (t : Bool) → same_entry f e ≡ t → ((b : Ballot) × In (Proposes b e) ms) ⊎ ((b : Ballot) → In (Proposes b e) ms → ⊥)
        → ((b : Ballot) × In (Proposes b e) (Proposes d f ∷ ms)) ⊎ ((b : Ballot) → In (Proposes b e) (Proposes d f ∷ ms) → ⊥)
    by true is rest = inl (d, inl (ap (Proposes d) (same_entry_equal f e is)))
    by false is (inl there) = inl (there.0, inr there.1)
    by false is (inr none) = inr (λ b i. elim i [
      | inl same ↦ (let is_true : same_entry f e ≡ true = subst (λ x. same_entry x e ≡ true) (sym (proposal_entry d b f e same)) (same_entry_self e) in let clash : true ≡ false = sym is_true ∙ is in cc)
      | inr j ↦ none b j
    ])

-- the first message by which it did
record FirstSaid (tape : List Item) (op : OpId) (p : Place) (e : Content) : Type 0 where
  k : ℕ
  m : Message
  before : List Item
  later : List Item
  is : tape ≡ later ++ Sent k m ∷ before
  ballot : Ballot
  tells : move_in op p m.body ≡ Some (Proposes ballot e)
  none : (b : Ballot) → In (Proposes b e) (moves before op p) → ⊥

first_said : (tape : List Item) (op : OpId) (p : Place) (e : Content) (b : Ballot) → In (Proposes b e) (moves tape op p) → FirstSaid tape op p e
first_said [] op p e b i = absurd i
first_said (item ∷ before) op p e b i = by (decided_in e (moves before op p)) (first_said before op p e)
  where
    here : (x : Item) → move_of op p x ≡ Some (Proposes b e) → ((d : Ballot) → In (Proposes d e) (moves before op p) → ⊥) → FirstSaid (x ∷ before) op p e
    here (Sent k m) tells none = record { k = k; m = m; before = before; later = []; is = refl; ballot = b; tells = tells; none = none }
    here _ tells none = cc

    by : ((d : Ballot) × In (Proposes d e) (moves before op p)) ⊎ ((d : Ballot) → In (Proposes d e) (moves before op p) → ⊥) → ((d : Ballot) → In (Proposes d e) (moves before op p) → FirstSaid before op p e)
        → FirstSaid (item ∷ before) op p e
    by (inl there) again = let f = again there.0 there.1 in
        record { k = f.k; m = f.m; before = f.before; later = item ∷ f.later; is = ap (λ t. item ∷ t) f.is; ballot = f.ballot; tells = f.tells; none = f.none }
    by (inr none) again = elim (from_cons (move_of op p item) (moves before op p) (Proposes b e) i) [ inl tells ↦ here item tells none | inr j ↦ absurd (none b j) ]

-- it opens, and is the operation's proposal at ballot zero
record IsOpening (c : Cluster) (h : Meanings) (before : List Item) (from : ℕ) (body : Body) (op : OpId) (p : Place) (e : Content) : Type 0 where
  from_is : from ≡ op.node.0
  body_is : body ≡ Accept op p.group p.position zero_ballot e
  made : (e.handles ≡ []) ⊎ IsHandling c h before op p.group p.position.0 e

opening_at : (c : Cluster) (h : Meanings) (before : List Item) (from : ℕ) (body : Body) (op : OpId) (p : Place) (b : Ballot) (e : Content) → move_in op p body ≡ Some (Proposes b e) → e.id ≡ Some op
    → (none : (d : Ballot) → In (Proposes d e) (moves before op p) → ⊥) → Said c h before from body → IsOpening c h before from body op p e
opening_at c h before from (Accept o g n d f) op p b e tells id none said = by (said (ap (λ (x : Content). x.id) entry ∙ id ∙ ap Some (sym at.0)))
  where
    parts : (is_move_at op p o g n ≡ true) × (Proposes d f ≡ Proposes b e)
    parts = move_is (is_move_at op p o g n) (Proposes d f) (Proposes b e) tells

    at : (o ≡ op) × (◌≡◌ {A = Place} (record { group = g; position = n }) p)
    at = moved_at op p o g n parts.0

    entry : f ≡ e
    entry = proposal_entry d b f e parts.1

    by : IsProposed before o (record { group = g; position = n }) f ⊎ Opens c h before from o g n d f → IsOpening c h before from (Accept o g n d f) op p e
    by (inl was) = absurd (none was.ballot (coe 0 1 (i. In (Proposes was.ballot (entry i)) (moves before (at.0 i) (at.1 i))) was.stands))
    by (inr opens) = record {
      from_is = opens.from_is ∙ ap (λ (x : OpId). x.node.0) at.0;
      body_is = λ i. Accept (at.0 i) (at.1 i).group (at.1 i).position (opens.at_zero i) (entry i);
      made = coe 0 1 (i. ((entry i).handles ≡ []) ⊎ IsHandling c h before (at.0 i) (at.1 i).group ((at.1 i).position).0 (entry i)) opens.made;
    }
opening_at c h before from (Prepare o g n d) op p b e tells id none said = let clashing = (move_is (is_move_at op p o g n) (Prepares d) (Proposes b e) tells).1 in cc
opening_at c h before from _ op p b e tells id none said = cc

-- ---- an entry that handles a message has its operation's id

either_id : (t : Bool) (x y : Content) (z : Option OpId) → x.id ≡ z → y.id ≡ z → (cond t x y).id ≡ z
either_id true x y z h k = h
either_id false x y z h k = k

either_handles : (t : Bool) (x y : Content) (z : List Name) → x.handles ≡ z → y.handles ≡ z → (cond t x y).handles ≡ z
either_handles true x y z h k = h
either_handles false x y z h k = k

handled_id : (schema : Schema) (handlers : Meanings) (group : GroupId) (op : OpId) (message : Enter) (below : List Content) → (handled_by schema handlers group op message below).id ≡ Some op
handled_id schema handlers group op message below = either_id _ _ _ (Some op) refl refl

handled_name : (schema : Schema) (handlers : Meanings) (group : GroupId) (op : OpId) (message : Enter) (below : List Content) → (handled_by schema handlers group op message below).handles ≡ message.name ∷ []
handled_name schema handlers group op message below = either_handles _ _ _ (message.name ∷ []) refl refl

own_id : (schema : Schema) (usage : Usage) (tape : List Item) (op : OpId) (group : GroupId) (below : List Content) (e : Content) → OwnEntry schema usage tape op group below e → (e.handles ≡ []) ⊎ (e.id ≡ Some op)
own_id schema usage tape op group below e (fills is) = inl (ap (λ (x : Content). x.handles) is)
own_id schema usage tape op group below e (runs transaction done asked at comes is) = inl (ap (λ (x : Content). x.handles) is)
own_id schema usage tape op group below e (runs_all transactions asked is) = inl (ap (λ (x : Content). x.handles) is)
own_id schema usage tape op group below e (enters message sent one asked known posted to says fresh is) = inl (ap (λ (x : Content). x.handles) is)
own_id schema usage tape op group below e (handles message moment asked oldest is) = inr (ap (λ (x : Content). x.id) is ∙ handled_id schema ((usage.handlers) moment) group op message below)

contains_none : (name : Name) → Contains [] name → ⊥
contains_none name (k, less, is) = omega arith

contains_one : (x name : Name) → Contains (x ∷ []) name → x ≡ name
contains_one x name (zero, less, is) = is
contains_one x name (suc k, less, is) = absurd (omega arith)

handles_none : (names : List Name) (name : Name) → names ≡ [] → Contains names name → ⊥
handles_none names name none there = contains_none name (subst (λ xs. Contains xs name) none there)

-- ---- messages

module _ (c : Cluster) (usage : Usage) (first : Meanings) (events : List Happening) (cuts : Cuts) (fits : Fits usage events) where
  abbrev tape : List Item
  tape = (goes_on c cuts (opening c first) events).tape

  during : (before : List Item) (k : ℕ) (m : Message) → (said : IsSaid c first cuts events before k m) → IsDuring c first cuts events before (said.event).handlers
  during before k m said = record {
    earlier = said.past;
    one = said.event;
    later = said.later;
    events_are = said.are;
    handlers_are = refl;
    since = said.more;
    moment_is = said.behind;
    rest = (said.stood).later ++ Sent k m ∷ [];
    piece_is = (said.stood).is ∙ regroup (said.stood).later (Sent k m ∷ []) before;
  }

  -- an entry whose operation first proposed it by a message
  module _ (l : LawfulWrites c usage tape) (group : GroupId) (n : ℕ) (entry : Content) (name : Name) (at : slice_get (log_of tape group) n ≡ Some entry) (there : Contains entry.handles name)
      (op : OpId) (f : FirstSaid tape op (at_place group (n + 1)) entry) (said : IsSaid c first cuts events f.before f.k f.m)
      (o : IsOpening c (said.event).handlers f.before (f.m).from (f.m).body op (at_place group (n + 1)) entry) where
    stood : StoodOn (proposes f.k op (f.m).to group (record { 0 = n + 1 }) entry) f.before tape
    stood = record { later = f.later; is = f.is ∙ ap (λ item. f.later ++ item ∷ f.before) (λ i. Sent f.k (record { from = o.from_is i; to = (f.m).to; body = o.body_is i })) }

    made : WasMade c first cuts events tape op group (record { 0 = n + 1 }) entry (said.event).handlers
    made = record {
      number = f.k;
      to = (f.m).to;
      moment = f.before;
      stood = stood;
      new = λ other another stands. f.none zero_ballot
          (kept (move_of op (at_place group (n + 1))) (proposes other op another group (record { 0 = n + 1 }) entry) (Proposes zero_ballot entry) f.before (proposed_here op (at_place group (n + 1)) zero_ballot entry) stands);
      during = during f.before f.k f.m said;
    }

    before_tape : Later f.before tape
    before_tape = record { piece = f.later ++ Sent f.k f.m ∷ []; is = f.is ∙ regroup f.later (Sent f.k f.m ∷ []) f.before }

    by_handling : IsHandling c (said.event).handlers f.before op group (n + 1) entry → IsHandled c first cuts events tape group n entry name
    by_handling x = record {
      message = x.message;
      op = op;
      handlers = (said.event).handlers;
      oldest = subst (λ below. oldest_unhandled below ≡ Some x.message) front x.oldest;
      named = contains_one (x.message).name name (subst (λ names. Contains names name) (ap (λ (e : Content). e.handles) x.is ∙ handled_name c.schema (said.event).handlers group op x.message x.below) there);
      made = made;
      is = subst (λ below. entry ≡ handled_by c.schema (said.event).handlers group op x.message below) front x.is;
    }
      where
        front : x.below ≡ take n (log_of tape group)
        front = known_front c tape l.lawful op.node.0 group x.below (λ k d is. stands_on f.before tape _ before_tape (x.known k d is)) n entry at (let size = x.reaches in omega (arith, size))

    handled_by_it : IsHandled c first cuts events tape group n entry name
    handled_by_it = by o.made
      where
        by : (entry.handles ≡ []) ⊎ IsHandling c (said.event).handlers f.before op group (n + 1) entry → IsHandled c first cuts events tape group n entry name
        by (inl none) = absurd (handles_none entry.handles name none there)
        by (inr x) = by_handling x

  is_handled : LawfulWrites c usage tape → (group : GroupId) (n : ℕ) (entry : Content) (name : Name) → slice_get (log_of tape group) n ≡ Some entry → Contains entry.handles name → IsHandled c first cuts events tape group n entry name
  is_handled l group n entry name at there = by (own_id c.schema usage tape o.op group o.below entry o.entry)
    where
      place : Place
      place = at_place group (n + 1)

      d : Decided tape group (record { 0 = suc n }) entry
      d = entry_decided tape group n entry at

      next : suc n ≡ n + 1
      next = omega arith

      o : Origin c.schema usage tape place entry
      o = decide_origin c usage tape l place d.node entry (subst (λ k. Stands (Decide d.node group (record { 0 = k }) entry) tape) next d.stands)

      by : (entry.handles ≡ []) ⊎ (entry.id ≡ Some o.op) → IsHandled c first cuts events tape group n entry name
      by (inl none) = absurd (handles_none entry.handles name none there)
      by (inr id) =
          let f = first_said tape o.op place entry o.ballot o.stands in
          let said = goes_said c usage first cuts events fits f.k f.m f.before (record { later = f.later; is = f.is }) in
          handled_by_it l group n entry name at there o.op f said (opening_at c (said.event).handlers f.before (f.m).from (f.m).body o.op place f.ballot entry f.tells id f.none said.said)

-- ---- answers

answers_during : (c : Cluster) (meaning : List ℕ → Option Request) (first : Meanings) (cuts : Cuts) (events : List Happening) (before : List Item) (op : OpId) (answer : Answer) → IsAnswered c meaning first cuts events before op answer
    → (handlers : Meanings) × IsDuring c first cuts events before handlers × HasCause c meaning handlers before op answer
answers_during c meaning first cuts events before op answer a = (
  (a.event).handlers,
  record {
    earlier = a.past;
    one = a.event;
    later = a.later;
    events_are = a.are;
    handlers_are = refl;
    since = a.more;
    moment_is = a.behind;
    rest = (a.stood).later ++ AnswerItem op answer ∷ [];
    piece_is = (a.stood).is ∙ regroup (a.stood).later (AnswerItem op answer ∷ []) before;
  },
  a.cause,
)

-- ---- runs

fitting_handles : (c : Cluster) (usage : Usage) (first : Meanings) (events : List Happening) (tape : List Item) → (run : IsRun c first events tape) → Fits usage events → AreHandled c usage.meaning first run.cuts events tape
fitting_handles c usage first events tape run fits = subst (AreHandled c usage.meaning first run.cuts events) (sym run.tape_is) (record {
  messages = is_handled c usage first events run.cuts fits (subst (LawfulWrites c usage) run.tape_is (run_written c usage first events tape run fits));
  answers = λ op answer before stood. answers_during c usage.meaning first run.cuts events before op answer
      (run_answers c usage first events tape run fits op answer before (subst (StoodOn (AnswerItem op answer) before) (sym run.tape_is) stood));
})

pub run_handles : (c : Cluster) (meaning : List ℕ → Option Request) (first : Meanings) (events : List Happening) (tape : List Item) → (run : IsRun c first events tape) → AreMeant meaning events → AreHandled c meaning first run.cuts events tape
run_handles c meaning first events tape run meant = fitting_handles c (usage_of meaning events) first events tape run (meant_fits meaning events meant)
