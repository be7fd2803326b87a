-- The operations of a node act one after another: what holds between two of them, and while one acts.
use Rattle.std.proofs.Common.{◌≡◌, ℕ, ◌+◌, ◌==◌, ◌&&◌, ◌||◌, ◌≤◌, ◌<◌, nat_lt, Bool, true, false, cond, List, [], ◌∷◌, ◌++◌, length, Option, Some, None, refl, sym, ap, ◌∙◌, subst, arith}
use Rattle.std.proofs.lemmas.Bool.Decides.{nat_tests}
use Rattle.std.specs.List.{cons_option}
use Rattle.std.proofs.lemmas.Bool.{and_from, and_parts, false_from_ne_true}
use Rattle.mega_base.specs.declared.names.GroupId.{GroupId}
use Rattle.mega_base.specs.declared.names.OpId.{OpId}
use Rattle.mega_base.specs.declared.names.Position.{Position}
use Rattle.mega_cluster.specs.declared.cluster.Cluster.{Cluster}
use Rattle.mega_entry.specs.declared.content.Content.{Content}
use Rattle.mega_wire.specs.declared.message.Message.{Message}
use Rattle.mega_wire.specs.declared.message.Body.{Body}
use Rattle.mega_wire.specs.declared.message.Body.TheVariants.{Accept, Accepted, Prepare, Promise, Top, Where}
use Rattle.mega_wal.specs.Acceptor.{Act}
use Rattle.mega_wal.specs.Same.{same_group, same_op}
use Rattle.mega_wal.proofs.Sames.{same_op_equal}
use Rattle.mega_tape_laws.specs.of_transcript.declared.item.Item.{Item}
use Rattle.mega_tape_laws.specs.of_transcript.declared.item.Item.TheVariants.{Sent, Decide}
use Rattle.mega_tape_laws.specs.of_promises.Items.{number}
use Rattle.mega_tape_laws.specs.of_promises.Promises.{Stands}
use Rattle.mega_tape_laws.specs.of_rules.Met.{Answers, Met}
use Rattle.mega_tape_laws.specs.of_rules.Clock.{last_number}
use Rattle.mega_tape_laws.specs.of_rules.Logs.{decided}
use Rattle.mega_tape_laws.specs.of_rules.Operations.{Operation}
use Rattle.mega_tape_laws.specs.of_rules.Voting.{act_in}
use Rattle.mega_tape_laws.specs.Places.{In, Move, Place, Prepares, Proposes, acts, is_move_at, move_if, move_in, moves}
use Rattle.mega_tape_laws.specs.Writes.{AreWritten, Usage}
use Rattle.mega_run_laws.proofs.Owned.{Owned, Users, owned_on}
use Rattle.mega_tape_laws.specs.Lawful.{Lawful}
use Rattle.mega_tape_laws.specs.Polls.{ArePolls, MayPoll, has_asked, is_asking}
use Rattle.mega_tape_laws.specs.Answers.{has_failed}
use Rattle.mega_outcome.specs.declared.answer.Answer.{Answer}
use Rattle.mega_schema.specs.declared.schema.Schema.{Schema}
use Rattle.mega_run_laws.specs.Justified.{Each, sent}
use Rattle.mega_run_laws.proofs.Causes.{Given, IsGiven, cause_to, lost_to, sent_question}
use Rattle.mega_run_laws.proofs.Sending.{Stood, stood_sent}
use Rattle.mega_run_laws.proofs.Opened.{Acts, AreOfOp, Backed, Beside, Grew, Idle, OfOp, backed_on, idle_on, place_of, same_met}
use Rattle.mega_tape_laws.proofs.Ballots.{clash}

-- ---- lists

pub each_on : {X : Type 0} (P Q : X → Type 0) → ((x : X) → P x → Q x) → (xs : List X) → Each P xs → Each Q xs
each_on P Q f [] h = tt
each_on P Q f (x ∷ xs) h = (f x h.0, each_on P Q f xs h.1)

pub each_push : {X : Type 0} (P : X → Type 0) (xs : List X) (x : X) → Each P xs → P x → Each P (xs ++ x ∷ [])
each_push P [] x h k = (k, tt)
each_push P (y ∷ xs) x h k = (h.0, each_push P xs x h.1 k)

pub sent_append : (n : ℕ) (xs ys : List Message) (tape : List Item) → sent n (xs ++ ys) tape ≡ sent (n + length xs) ys (sent n xs tape)
sent_append n [] ys tape = ap (λ k. sent k ys tape) (omega arith)
sent_append n (x ∷ xs) ys tape = sent_append (n + 1) xs ys (Sent n x ∷ tape) ∙ ap (λ k. sent k ys (sent (n + 1) xs (Sent n x ∷ tape))) (omega arith)

-- operations in order of their numbers
abbrev pub IsRising : ℕ → List Operation → Type 0
IsRising least [] = Unit {0}
IsRising least (o ∷ os) = (least ≤ (o.id).number) × IsRising ((o.id).number + 1) os

pub rising_push : (least k : ℕ) (os : List Operation) (o : Operation) → IsRising least os → least ≤ k → Each (λ (x : Operation). (x.id).number < k) os → k ≤ (o.id).number → IsRising least (os ++ o ∷ [])
rising_push least k [] o r le below at = ((omega arith), tt)
rising_push least k (x ∷ os) o r le below at = (r.0, rising_push ((x.id).number + 1) k os o r.1 (let less = below.0 in omega arith) below.1 at)

-- ---- messages of one operation

apart_at : (o x : OpId) (g : GroupId) (q : Place) (n : Position) (move : Move) (ms : List Move) → same_op o x ≡ false → cons_option (move_if (is_move_at x q o g n) move) ms ≡ ms
apart_at o x g q n move ms h = ap (λ t. cons_option (move_if ((t && same_group g q.group) && n.0 == q.position.0) move) ms) h

op_apart : (op x : OpId) (q : Place) (body : Body) (ms : List Move) → same_op op x ≡ false → OfOp op body → cons_option (move_in x q body) ms ≡ ms
op_apart op x q (Accept o g n b e) ms h of = apart_at o x g q n (Proposes b e) ms (ap (λ y. same_op y x) of ∙ h)
op_apart op x q (Prepare o g n b) ms h of = apart_at o x g q n (Prepares b) ms (ap (λ y. same_op y x) of ∙ h)
op_apart op x q _ ms h of = refl

pub ops_apart : (op x : OpId) (q : Place) (n : ℕ) (ms : List Message) (tape : List Item) → same_op op x ≡ false → AreOfOp op ms → moves (sent n ms tape) x q ≡ moves tape x q
ops_apart op x q n [] tape h of = refl
ops_apart op x q n (m ∷ ms) tape h of = ops_apart op x q (n + 1) ms (Sent n m ∷ tape) h of.1 ∙ op_apart op x q m.body (moves tape x q) h of.0

asking_apart : (op x : OpId) (body : Body) → same_op op x ≡ false → OfOp op body → is_asking x body ≡ false
asking_apart op x (Where o g) h of = ap (λ y. same_op y x) of ∙ h
asking_apart op x _ h of = refl

pub ops_asked : (op x : OpId) (n : ℕ) (ms : List Message) (tape : List Item) → same_op op x ≡ false → AreOfOp op ms → has_asked (sent n ms tape) x ≡ has_asked tape x
ops_asked op x n [] tape h of = refl
ops_asked op x n (m ∷ ms) tape h of = ops_asked op x (n + 1) ms (Sent n m ∷ tape) h of.1 ∙ ap (λ t. t || has_asked tape x) (asking_apart op x m.body h of.0)

no_act : (t : Bool) (o : Option Act) (ms : List Act) → o ≡ None → cons_option (cond t o None) ms ≡ ms
no_act true o ms h = ap (λ x. cons_option x ms) h
no_act false o ms h = refl

op_no_act : (op : OpId) (g : GroupId) (n : ℕ) (body : Body) → OfOp op body → act_in g n body ≡ None
op_no_act op g n (Promise o h m b report) of = absurd of
op_no_act op g n (Accepted o h m b e) of = absurd of
op_no_act op g n _ of = refl

pub ops_no_acts : (op : OpId) (voter : ℕ) (q : Place) (n : ℕ) (ms : List Message) (tape : List Item) → AreOfOp op ms → acts (sent n ms tape) voter q ≡ acts tape voter q
ops_no_acts op voter q n [] tape of = refl
ops_no_acts op voter q n (m ∷ ms) tape of =
    ops_no_acts op voter q (n + 1) ms (Sent n m ∷ tape) of.1 ∙ no_act (m.from == voter) (act_in q.group q.position.0 m.body) (acts tape voter q) (op_no_act op q.group q.position.0 m.body of.0)

-- no answer of a voter
abbrev pub NoAct : Body → Type 0
NoAct (Promise o g n b report) = ⊥
NoAct (Accepted o g n b e) = ⊥
NoAct (Top o g n) = ⊥
NoAct _ = Unit {0}

of_no_act : (op : OpId) (body : Body) → OfOp op body → NoAct body
of_no_act op (Promise o g n b report) h = absurd h
of_no_act op (Accepted o g n b e) h = absurd h
of_no_act op (Top o g n) h = absurd h
of_no_act op _ h = tt

ops_quiet : (op : OpId) (sends ms : List Message) → Each (λ (m : Message). NoAct m.body) sends → AreOfOp op ms → Each (λ (m : Message). NoAct m.body) (sends ++ ms)
ops_quiet op [] [] h of = tt
ops_quiet op [] (m ∷ ms) h of = (of_no_act op m.body of.0, ops_quiet op [] ms tt of.1)
ops_quiet op (m ∷ sends) ms h of = (h.0, ops_quiet op sends ms h.1 of)

quiet_poll : (tape : List Item) (m : Message) (body : Body) → NoAct body → MayPoll tape m body
quiet_poll tape m (Top o g n) h = absurd h
quiet_poll tape m _ h = tt

-- what answers nothing is of no poll's answers
pub quiet_polls : (n : ℕ) (ms : List Message) (tape : List Item) → Each (λ (m : Message). NoAct m.body) ms → ArePolls tape → ArePolls (sent n ms tape)
quiet_polls n [] tape h p = p
quiet_polls n (m ∷ ms) tape h p = quiet_polls (n + 1) ms (Sent n m ∷ tape) h.1 (quiet_poll tape m m.body h.0, p)

-- ---- names

-- an operation that a node began in a start before the one of a number, and that was not worn
abbrev pub within : ℕ → ℕ → ℕ → OpId → Bool
within me st k x = x.node.0 == me && x.start == st && nat_lt x.number k

abbrev pub could : ℕ → ℕ → ℕ → OpId → Bool
could me st k x = within me st k x && nat_lt x.number last_number

number_self : (a b : ℕ) → a ≡ b → (a == b) ≡ true
number_self a b h = grind (arith, nat_tests)

less_is : (a b : ℕ) → a < b → nat_lt a b ≡ true
less_is a b h = grind (arith, nat_tests)

is_less : (a b : ℕ) → nat_lt a b ≡ true → a < b
is_less a b h = grind (arith, nat_tests)

pub within_be : (me st k : ℕ) (x : OpId) → x.node.0 ≡ me → x.start ≡ st → x.number < k → within me st k x ≡ true
within_be me st k x node start below =
    and_from (x.node.0 == me && x.start == st) (nat_lt x.number k) (and_from (x.node.0 == me) (x.start == st) (number_self x.node.0 me node) (number_self x.start st start)) (less_is x.number k below)

within_more : (me st k l : ℕ) (x : OpId) → k ≤ l → within me st k x ≡ true → within me st l x ≡ true
within_more me st k l x le t =
    let outer = and_parts (x.node.0 == me && x.start == st) (nat_lt x.number k) t in
    let less = is_less x.number k outer.1 in
    and_from (x.node.0 == me && x.start == st) (nat_lt x.number l) outer.0 (less_is x.number l (omega (arith, less, le)))

pub within_less : (me st k l : ℕ) (x : OpId) → k ≤ l → within me st l x ≡ false → within me st k x ≡ false
within_less me st k l x le h = false_from_ne_true (within me st k x) (λ t. clash (within me st l x) (within_more me st k l x le t) h)

pub could_be : (me st k : ℕ) (x : OpId) → x.node.0 ≡ me → x.start ≡ st → x.number < k → x.number < last_number → could me st k x ≡ true
could_be me st k x node start below named = and_from (within me st k x) (nat_lt x.number last_number) (within_be me st k x node start below) (less_is x.number last_number named)

pub could_more : (me st k l : ℕ) (x : OpId) → k ≤ l → could me st l x ≡ false → could me st k x ≡ false
could_more me st k l x le h = false_from_ne_true (could me st k x) (λ t.
    let outer = and_parts (within me st k x) (nat_lt x.number last_number) t in
    clash (could me st l x) (and_from (within me st l x) (nat_lt x.number last_number) (within_more me st k l x le outer.0) outer.1) h)

pub worn_could : (me st k : ℕ) (x : OpId) → last_number ≤ x.number → could me st k x ≡ false
worn_could me st k x le = false_from_ne_true (could me st k x) (λ t. over x.number last_number (is_less x.number last_number (and_parts (within me st k x) (nat_lt x.number last_number) t).1) le)
  where
    over : (a b : ℕ) → a < b → b ≤ a → ⊥
    over a b less at = omega arith

pub other_name : (me st : ℕ) (op x : OpId) → op.node.0 ≡ me → op.start ≡ st → op.number < last_number → could me st (op.number + 1) x ≡ false → same_op op x ≡ false
other_name me st op x node start named h = false_from_ne_true (same_op op x) (λ t.
    clash (could me st (op.number + 1) x) (subst (λ y. could me st (op.number + 1) y ≡ true) (same_op_equal op x t) (could_be me st (op.number + 1) op node start (next_of op.number) named)) h)
  where
    next_of : (n : ℕ) → n < n + 1
    next_of n = omega arith

pub other_number : (op x : OpId) → x.number < op.number → same_op op x ≡ false
other_number op x less = false_from_ne_true (same_op op x) (λ t. let same = ap (λ (y : OpId). y.number) (same_op_equal op x t) in omega (arith, less))

-- ---- between two operations, and while one acts

-- the node, its start, the tape before these operations sent anything, with the next number, and before they were answered
pub record Frame : Type 0 where
  pub me : ℕ
  pub start : ℕ
  pub next : ℕ
  pub base : List Item
  pub early : List Item

-- the tape with what they sent
abbrev pub tape_of : Frame → List Message → List Item
tape_of f sends = sent f.next sends f.base

-- an operation that stays open
pub record Held (users : Users) (c : Cluster) (tape : List Item) (me st k : ℕ) (met : List Met) (o : Operation) : Type 0 where
  pub node : (o.id).node.0 ≡ me
  pub start : (o.id).start ≡ st
  pub below : (o.id).number < k
  pub named : (o.id).number < last_number
  pub owned : users.fits → Owned c.schema users.usage tape o
  pub backed : Backed c tape met o.id o.phase
  pub idle : Idle tape met o.id (place_of o.phase)

pub held_on : (users : Users) → (c : Cluster) (old new : List Item) (me st k l : ℕ) (met more : List Met) (o : Operation) → Beside o.id old new → Grew met more → k ≤ l → Held users c old me st k met o → Held users c new me st l more o
held_on users c old new me st k l met more o beside grew le h = record {
  node = h.node;
  start = h.start;
  below = (let less = h.below in omega (arith, less, le));
  named = h.named;
  owned = λ f. owned_on c.schema users.usage old new o beside (h.owned f);
  backed = backed_on c old new met more o.id beside grew o.phase h.backed;
  idle = idle_on old new met more o.id (place_of o.phase) beside grew h.idle;
}

-- what a node decided stands on the tape
abbrev pub Known : ℕ → List Met → List Item → Type 0
Known me met tape = (g : GroupId) (n : ℕ) (e : Content) → decided met g n ≡ Some e → Stands (Decide (number me) g (record { 0 = n }) e) tape

-- an operation that failed does not propose any more
abbrev pub IsFair : List Item → Body → Type 0
IsFair early (Accept o g n b e) = has_failed early o ≡ false
IsFair early _ = Unit {0}

-- who was answered began at the node, in its start, before the one of a number
abbrev pub AnsweredBelow : ℕ → ℕ → ℕ → Met → Type 0
AnsweredBelow me st k (Answers op answer) = (op.node.0 ≡ me) × ((op.start ≡ st) × (op.number < k))
AnsweredBelow me st k _ = ⊥

abbrev pub IsApart : OpId → Met → Type 0
IsApart x (Answers op answer) = same_op op x ≡ false
IsApart x _ = Unit {0}

-- an operation that stays open was not answered
pub record IsOpen (early : List Item) (answers : List Met) (o : Operation) : Type 0 where
  pub unfailed : has_failed early o.id ≡ false
  pub apart : Each (IsApart o.id) answers

pub each_zip : {X : Type 0} (P Q R : X → Type 0) → ((x : X) → P x → Q x → R x) → (xs : List X) → Each P xs → Each Q xs → Each R xs
each_zip P Q R f [] h k = tt
each_zip P Q R f (x ∷ xs) h k = (f x h.0 k.0, each_zip P Q R f xs h.1 k.1)

pub answered_more : (me st k l : ℕ) → k ≤ l → (one : Met) → AnsweredBelow me st k one → AnsweredBelow me st l one
answered_more me st k l le (Answers op answer) h = (h.0, ((h.1).0, (let less = (h.1).1 in omega (arith, le, less))))
answered_more me st k l le _ h = absurd h

less_apart : (op x : OpId) → op.number < x.number → same_op op x ≡ false
less_apart op x less = false_from_ne_true (same_op op x) (λ t. let same = ap (λ (y : OpId). y.number) (same_op_equal op x t) in omega (arith, less, same))

below_apart : (me st : ℕ) (x : OpId) (one : Met) → AnsweredBelow me st x.number one → IsApart x one
below_apart me st x (Answers op answer) h = less_apart op x (h.1).1
below_apart me st x _ h = absurd h

-- who could not have been answered was not
pub outside_apart : (me st k : ℕ) (x : OpId) → within me st k x ≡ false → (one : Met) → AnsweredBelow me st k one → IsApart x one
outside_apart me st k x other (Answers op answer) h = false_from_ne_true (same_op op x) (λ t.
    clash (within me st k x) (subst (λ y. within me st k y ≡ true) (same_op_equal op x t) (within_be me st k op h.0 (h.1).0 (h.1).1)) other)
outside_apart me st k x other _ h = absurd h

fair_of : (early : List Item) (op : OpId) (body : Body) → has_failed early op ≡ false → OfOp op body → IsFair early body
fair_of early op (Accept o g n b e) h of = subst (λ x. has_failed early x ≡ false) (sym of) h
fair_of early op _ h of = tt

pub fairs_of : (early : List Item) (op : OpId) (sends ms : List Message) → has_failed early op ≡ false → Each (λ (m : Message). IsFair early m.body) sends → AreOfOp op ms → Each (λ (m : Message). IsFair early m.body) (sends ++ ms)
fairs_of early op [] [] h f of = tt
fairs_of early op [] (m ∷ ms) h f of = (fair_of early op m.body h of.0, fairs_of early op [] ms h tt of.1)
fairs_of early op (m ∷ sends) ms h f of = (f.0, fairs_of early op sends ms h f.1 of)

-- what another operation sends leaves what was given
given_sent : (schema : Schema) (usage : Usage) (tape : List Item) (op : OpId) (n : ℕ) (ms : List Message) → AreOfOp op ms → (me st : ℕ) (one : Met) → AnsweredBelow me st op.number one → IsGiven schema usage tape one → IsGiven schema usage (sent n ms tape) one
given_sent schema usage tape op n ms of me st (Answers x answer) below h = record {
  cause = cause_to schema usage tape (sent n ms tape) x (λ node g m e s. stood_sent n ms tape _ s) (sent_question usage n ms tape x) answer h.cause;
  doomed = λ negative p b e i id. lost_to tape (sent n ms tape) x p (λ node g m e' s. stood_sent n ms tape _ s)
      ((h.doomed) negative p b e (subst (In (Proposes b e)) (ops_apart op x p n ms tape (other_number op x (below.1).1) of) i) id);
  named = h.named;
}
given_sent schema usage tape op n ms of me st _ below h = absurd below

-- the operations below a number acted
pub record Fine (users : Users) (c : Cluster) (f : Frame) (k : ℕ) (met : List Met) (kept : List Operation) (answers : List Met) (sends : List Message) : Type 0 where
  pub lawful : Lawful c (tape_of f sends)
  pub written : users.fits → AreWritten c.schema users.usage (tape_of f sends)
  pub later : (x : OpId) → could f.me f.start k x ≡ false → (q : Place) → moves (tape_of f sends) x q ≡ moves f.base x q
  pub asked : (x : OpId) → could f.me f.start k x ≡ false → has_asked (tape_of f sends) x ≡ has_asked f.base x
  pub made : (voter : ℕ) (q : Place) → acts (tape_of f sends) voter q ≡ acts f.base voter q
  pub given : users.fits → Each (IsGiven c.schema users.usage (tape_of f sends)) answers
  pub answered : Each (AnsweredBelow f.me f.start k) answers
  pub fair : Each (λ (m : Message). IsFair f.early m.body) sends
  pub unheard : Each (IsOpen f.early answers) kept
  pub known : Known f.me met f.base
  pub quiet : Each (λ (m : Message). NoAct m.body) sends
  pub held : Each (Held users c (tape_of f sends) f.me f.start k met) kept
  pub rising : IsRising 0 kept

-- one of them acts
pub record Turn (users : Users) (c : Cluster) (f : Frame) (met : List Met) (kept : List Operation) (answers : List Met) (sends : List Message) (op : OpId) : Type 0 where
  pub node : op.node.0 ≡ f.me
  pub start : op.start ≡ f.start
  pub named : op.number < last_number
  pub lawful : Lawful c (tape_of f sends)
  pub written : users.fits → AreWritten c.schema users.usage (tape_of f sends)
  pub later : (x : OpId) → could f.me f.start (op.number + 1) x ≡ false → (q : Place) → moves (tape_of f sends) x q ≡ moves f.base x q
  pub asked : (x : OpId) → could f.me f.start (op.number + 1) x ≡ false → has_asked (tape_of f sends) x ≡ has_asked f.base x
  pub made : (voter : ℕ) (q : Place) → acts (tape_of f sends) voter q ≡ acts f.base voter q
  pub given : users.fits → Each (IsGiven c.schema users.usage (tape_of f sends)) answers
  pub answered : Each (AnsweredBelow f.me f.start op.number) answers
  pub fair : Each (λ (m : Message). IsFair f.early m.body) sends
  pub unheard : Each (IsOpen f.early answers) kept
  pub unfailed : has_failed f.early op ≡ false
  pub known : Known f.me met f.base
  pub quiet : Each (λ (m : Message). NoAct m.body) sends
  pub held : Each (Held users c (tape_of f sends) f.me f.start op.number met) kept
  pub rising : IsRising 0 kept

-- and is justified
pub record Ready (users : Users) (c : Cluster) (f : Frame) (met : List Met) (kept : List Operation) (answers : List Met) (sends : List Message) (o : Operation) : Type 0 where
  pub turn : Turn users c f met kept answers sends o.id
  pub owned : users.fits → Owned c.schema users.usage (tape_of f sends) o
  pub backed : Backed c (tape_of f sends) met o.id o.phase
  pub idle : Idle (tape_of f sends) met o.id (place_of o.phase)

pub same_tape : (op : OpId) (tape : List Item) → Beside op tape tape
same_tape op tape = record { stood = λ item s. s; moved = λ q. refl }

one_after : (k n : ℕ) → k ≤ n → k ≤ n + 1
one_after k n le = omega arith

pub fine_turn : (users : Users) → (c : Cluster) (f : Frame) (k : ℕ) (met : List Met) (kept : List Operation) (answers : List Met) (sends : List Message) (op : OpId) → Fine users c f k met kept answers sends → k ≤ op.number → op.node.0 ≡ f.me → op.start ≡ f.start → op.number < last_number → has_failed f.early op ≡ false → Turn users c f met kept answers sends op
fine_turn users c f k met kept answers sends op h le node start named unfailed = record {
  node = node;
  start = start;
  named = named;
  lawful = h.lawful;
  written = h.written;
  later = λ x other q. h.later x (could_more f.me f.start k (op.number + 1) x (one_after k op.number le) other) q;
  asked = λ x other. h.asked x (could_more f.me f.start k (op.number + 1) x (one_after k op.number le) other);
  made = h.made;
  given = h.given;
  answered = each_on (AnsweredBelow f.me f.start k) (AnsweredBelow f.me f.start op.number) (answered_more f.me f.start k op.number le) answers h.answered;
  fair = h.fair;
  unheard = h.unheard;
  unfailed = unfailed;
  known = h.known;
  quiet = h.quiet;
  held = each_on (Held users c (tape_of f sends) f.me f.start k met) (Held users c (tape_of f sends) f.me f.start op.number met)
      (λ o held. held_on users c (tape_of f sends) (tape_of f sends) f.me f.start k op.number met met o (same_tape o.id (tape_of f sends)) (same_met met) le held) kept h.held;
  rising = h.rising;
}

-- an operation that ends is kept no more
one_less : (n : ℕ) → n ≤ n + 1
one_less n = omega arith

next_less : (n : ℕ) → n < n + 1
next_less n = omega arith

pub turn_ends : (users : Users) → (c : Cluster) (f : Frame) (met : List Met) (kept : List Operation) (answers : List Met) (sends : List Message) (op : OpId) (answer : Answer) → Turn users c f met kept answers sends op → (users.fits → Given c.schema users.usage (tape_of f sends) op answer) → Fine users c f (op.number + 1) met kept (answers ++ Answers op answer ∷ []) sends
turn_ends users c f met kept answers sends op answer h given = record {
  lawful = h.lawful;
  written = h.written;
  later = h.later;
  asked = h.asked;
  made = h.made;
  given = λ fits. each_push (IsGiven c.schema users.usage (tape_of f sends)) answers (Answers op answer) (h.given fits) (given fits);
  answered = each_push (AnsweredBelow f.me f.start (op.number + 1)) answers (Answers op answer) (each_on (AnsweredBelow f.me f.start op.number) (AnsweredBelow f.me f.start (op.number + 1)) (answered_more f.me f.start op.number (op.number + 1) (one_less op.number)) answers h.answered)
      (h.node, (h.start, next_less op.number));
  fair = h.fair;
  unheard = each_zip (IsOpen f.early answers) (Held users c (tape_of f sends) f.me f.start op.number met) (IsOpen f.early (answers ++ Answers op answer ∷ []))
      (λ o still held. record { unfailed = still.unfailed; apart = each_push (IsApart o.id) answers (Answers op answer) still.apart (other_number op o.id held.below) }) kept h.unheard h.held;
  known = h.known;
  quiet = h.quiet;
  held = each_on (Held users c (tape_of f sends) f.me f.start op.number met) (Held users c (tape_of f sends) f.me f.start (op.number + 1) met)
      (λ o held. held_on users c (tape_of f sends) (tape_of f sends) f.me f.start op.number (op.number + 1) met met o (same_tape o.id (tape_of f sends)) (same_met met) (omega arith) held) kept h.held;
  rising = h.rising;
}

-- an operation that is not answered
turn_passes : (users : Users) → (c : Cluster) (f : Frame) (met : List Met) (kept : List Operation) (answers : List Met) (sends : List Message) (op : OpId) → Turn users c f met kept answers sends op → Fine users c f (op.number + 1) met kept answers sends
turn_passes users c f met kept answers sends op h = record {
  lawful = h.lawful;
  written = h.written;
  later = h.later;
  asked = h.asked;
  made = h.made;
  given = h.given;
  answered = each_on (AnsweredBelow f.me f.start op.number) (AnsweredBelow f.me f.start (op.number + 1)) (answered_more f.me f.start op.number (op.number + 1) (one_less op.number)) answers h.answered;
  fair = h.fair;
  unheard = h.unheard;
  known = h.known;
  quiet = h.quiet;
  held = each_on (Held users c (tape_of f sends) f.me f.start op.number met) (Held users c (tape_of f sends) f.me f.start (op.number + 1) met)
      (λ o held. held_on users c (tape_of f sends) (tape_of f sends) f.me f.start op.number (op.number + 1) met met o (same_tape o.id (tape_of f sends)) (same_met met) (omega arith) held) kept h.held;
  rising = h.rising;
}

pub ready_keeps : (users : Users) → (c : Cluster) (f : Frame) (met : List Met) (kept : List Operation) (answers : List Met) (sends : List Message) (o : Operation) → Ready users c f met kept answers sends o → Fine users c f ((o.id).number + 1) met (kept ++ o ∷ []) answers sends
ready_keeps users c f met kept answers sends o h = let ended = turn_passes users c f met kept answers sends o.id h.turn in record {
  lawful = ended.lawful;
  written = ended.written;
  later = ended.later;
  asked = ended.asked;
  made = ended.made;
  given = ended.given;
  answered = ended.answered;
  fair = ended.fair;
  unheard = each_push (IsOpen f.early answers) kept o ended.unheard (record { unfailed = (h.turn).unfailed; apart = each_on (AnsweredBelow f.me f.start (o.id).number) (IsApart o.id) (below_apart f.me f.start o.id) answers (h.turn).answered });
  known = ended.known;
  quiet = ended.quiet;
  held = each_push (Held users c (tape_of f sends) f.me f.start ((o.id).number + 1) met) kept o ended.held
      (record { node = (h.turn).node; start = (h.turn).start; below = omega arith; named = (h.turn).named; owned = h.owned; backed = h.backed; idle = h.idle });
  rising = rising_push 0 (o.id).number kept o (h.turn).rising (omega arith)
      (each_on (Held users c (tape_of f sends) f.me f.start (o.id).number met) (λ (x : Operation). (x.id).number < (o.id).number) (λ x held. held.below) kept (h.turn).held) (omega arith);
}

-- what a node meets within the step leaves the turn
pub turn_met : (users : Users) → (c : Cluster) (f : Frame) (met more : List Met) (kept : List Operation) (answers : List Met) (sends : List Message) (op : OpId) → Grew met more → Known f.me more f.base → Turn users c f met kept answers sends op → Turn users c f more kept answers sends op
turn_met users c f met more kept answers sends op grew known h = record {
  node = h.node;
  start = h.start;
  named = h.named;
  lawful = h.lawful;
  written = h.written;
  later = h.later;
  asked = h.asked;
  made = h.made;
  given = h.given;
  answered = h.answered;
  fair = h.fair;
  unheard = h.unheard;
  unfailed = h.unfailed;
  known = known;
  quiet = h.quiet;
  held = each_on (Held users c (tape_of f sends) f.me f.start op.number met) (Held users c (tape_of f sends) f.me f.start op.number more)
      (λ o held. held_on users c (tape_of f sends) (tape_of f sends) f.me f.start op.number op.number met more o (same_tape o.id (tape_of f sends)) grew (omega arith) held) kept h.held;
  rising = h.rising;
}

-- what it sends
pub turn_sends : (users : Users) → (c : Cluster) (f : Frame) (met : List Met) (kept : List Operation) (answers : List Met) (sends ms : List Message) (op : OpId) → Turn users c f met kept answers sends op → AreOfOp op ms
    → ((n : ℕ) → Lawful c (tape_of f sends) → Lawful c (sent n ms (tape_of f sends))) → (users.fits → (n : ℕ) → AreWritten c.schema users.usage (sent n ms (tape_of f sends))) → Turn users c f met kept answers (sends ++ ms) op
turn_sends users c f met kept answers sends ms op h own lawful written = record {
  node = h.node;
  start = h.start;
  named = h.named;
  lawful = subst (Lawful c) (sym after) (lawful (f.next + length sends) h.lawful);
  written = λ fits. subst (AreWritten c.schema users.usage) (sym after) (written fits (f.next + length sends));
  later = λ x other q. ap (λ t. moves t x q) after ∙ ops_apart op x q (f.next + length sends) ms (tape_of f sends) (other_name f.me f.start op x h.node h.start h.named other) own ∙ h.later x other q;
  asked = λ x other. ap (λ t. has_asked t x) after ∙ ops_asked op x (f.next + length sends) ms (tape_of f sends) (other_name f.me f.start op x h.node h.start h.named other) own ∙ h.asked x other;
  made = λ voter q. ap (λ t. acts t voter q) after ∙ ops_no_acts op voter q (f.next + length sends) ms (tape_of f sends) own ∙ h.made voter q;
  given = λ fits. subst (λ t. Each (IsGiven c.schema users.usage t) answers) (sym after) (each_zip (AnsweredBelow f.me f.start op.number) (IsGiven c.schema users.usage (tape_of f sends)) (IsGiven c.schema users.usage (sent (f.next + length sends) ms (tape_of f sends)))
      (λ one below given. given_sent c.schema users.usage (tape_of f sends) op (f.next + length sends) ms own f.me f.start one below given) answers h.answered (h.given fits));
  answered = h.answered;
  fair = fairs_of f.early op sends ms h.unfailed h.fair own;
  unheard = h.unheard;
  unfailed = h.unfailed;
  known = h.known;
  quiet = ops_quiet op sends ms h.quiet own;
  held = each_on (Held users c (tape_of f sends) f.me f.start op.number met) (Held users c (tape_of f (sends ++ ms)) f.me f.start op.number met)
      (λ o held. held_on users c (tape_of f sends) (tape_of f (sends ++ ms)) f.me f.start op.number op.number met met o (beside o held.below) (same_met met) (omega arith) held) kept h.held;
  rising = h.rising;
}
  where
    after : tape_of f (sends ++ ms) ≡ sent (f.next + length sends) ms (tape_of f sends)
    after = sent_append f.next sends ms f.base

    beside : (o : Operation) → (o.id).number < op.number → Beside o.id (tape_of f sends) (tape_of f (sends ++ ms))
    beside o less = record {
      stood = subst (Stood (tape_of f sends)) (sym after) (stood_sent (f.next + length sends) ms (tape_of f sends));
      moved = λ q. ap (λ t. moves t o.id q) after ∙ ops_apart op o.id q (f.next + length sends) ms (tape_of f sends) (other_number op o.id less) own;
    }

pub ready_sends : (users : Users) → (c : Cluster) (f : Frame) (met : List Met) (kept : List Operation) (answers : List Met) (sends ms : List Message) (o : Operation) → Turn users c f met kept answers sends o.id → Acts c (tape_of f sends) met o.id o.phase ms
    → (users.fits → (n : ℕ) → AreWritten c.schema users.usage (sent n ms (tape_of f sends))) → (users.fits → (n : ℕ) → Owned c.schema users.usage (sent n ms (tape_of f sends)) o)
    → Ready users c f met kept answers (sends ++ ms) o
ready_sends users c f met kept answers sends ms o h acts written owned = record {
  turn = turn_sends users c f met kept answers sends ms o.id h acts.own acts.lawful written;
  owned = λ fits. subst (λ t. Owned c.schema users.usage t o) (sym after) (owned fits (f.next + length sends));
  backed = subst (λ t. Backed c t met o.id o.phase) (sym after) (acts.backed (f.next + length sends));
  idle = subst (λ t. Idle t met o.id (place_of o.phase)) (sym after) (acts.idle (f.next + length sends));
}
  where
    after : tape_of f (sends ++ ms) ≡ sent (f.next + length sends) ms (tape_of f sends)
    after = sent_append f.next sends ms f.base

pub not_within : (me st k : ℕ) (x : OpId) → k ≤ x.number → within me st k x ≡ false
not_within me st k x le = false_from_ne_true (within me st k x) (λ t. over x.number k (is_less x.number k (and_parts (x.node.0 == me && x.start == st) (nat_lt x.number k) t).1) le)
  where
    over : (a b : ℕ) → a < b → b ≤ a → ⊥
    over a b less at = omega arith

pub could_not : (me st k : ℕ) (x : OpId) → k ≤ x.number → could me st k x ≡ false
could_not me st k x le = false_from_ne_true (could me st k x) (λ t.
    let less = is_less x.number k (and_parts (x.node.0 == me && x.start == st) (nat_lt x.number k) (and_parts (within me st k x) (nat_lt x.number last_number) t).0).1 in over x.number k less le)
  where
    over : (a b : ℕ) → a < b → b ≤ a → ⊥
    over a b less at = omega arith
