-- A standing of a run is good: its tape is lawful and shows what the nodes met, and its open operations are justified.
use Rattle.std.proofs.Common.{◌≡◌, ◌⊎◌, inl, inr, ℕ, ◌+◌, ◌==◌, ◌≤◌, ◌<◌, Bool, true, false, cond, List, [], ◌∷◌, map, length, Option, None, refl, sym, ap, ◌∙◌, arith}
use Rattle.std.specs.List.{cons_option}
use Rattle.mega_base.specs.declared.names.GroupId.{GroupId}
use Rattle.mega_base.specs.declared.names.OpId.{OpId}
use Rattle.mega_cluster.specs.declared.cluster.Cluster.{Cluster}
use Rattle.mega_wire.specs.declared.message.Message.{Message}
use Rattle.mega_wire.specs.declared.message.Body.{Body}
use Rattle.mega_wire.specs.declared.message.Body.TheVariants.{Accepted, Promise, Refused}
use Rattle.mega_wal.specs.Acceptor.{Act, accept_answer, promise_answer}
use Rattle.mega_tape_laws.specs.of_transcript.declared.item.Item.{Item}
use Rattle.mega_tape_laws.specs.of_transcript.declared.item.Item.TheVariants.{Sent}
use Rattle.mega_tape_laws.specs.of_promises.Runs.{Standing}
use Rattle.mega_tape_laws.specs.of_rules.Met.{Answers, Met, Sends, Unsends}
use Rattle.mega_tape_laws.specs.of_rules.Clock.{begun_of, is_up, last_number, start_of}
use Rattle.mega_tape_laws.specs.of_rules.Logs.{decided}
use Rattle.mega_tape_laws.specs.of_rules.Operations.{Node, Operation}
use Rattle.mega_tape_laws.specs.of_rules.Steps.{onto}
use Rattle.mega_tape_laws.specs.of_rules.Voting.{act_in, acts as acts_met, prepared, voted}
use Rattle.mega_tape_laws.specs.Places.{Place, acts, moves}
use Rattle.mega_run_laws.proofs.Owned.{Users}
use Rattle.mega_tape_laws.specs.Lawful.{Lawful, MayMake, a_prepare, an_accept}
use Rattle.mega_tape_laws.specs.Polls.{ArePolls, has_asked}
use Rattle.mega_tape_laws.specs.Writes.{AreWritten, has_begun}
use Rattle.mega_tape_laws.proofs.Ballots.{number_self}
use Rattle.mega_run_laws.specs.Justified.{Each, sent}
use Rattle.mega_run_laws.proofs.Sending.{Stood, took_on}
use Rattle.mega_run_laws.proofs.Prefixes.{prefix_more}
use Rattle.mega_run_laws.proofs.Opened.{Grew, same_met}
use Rattle.mega_run_laws.proofs.Turns.{Held, IsRising, Known, NoAct, each_on, each_zip, held_on}
use Rattle.mega_tape_laws.specs.Answers.{AreAnswered, has_failed}
use Rattle.mega_run_laws.proofs.Noted.{MayBeNoted, note_on}

-- ---- what is owed

-- the answers of a voter that a record kept are those that it may still show
pub make_on : (old new : List Item) (m : Message) → Stood old new → ((q : Place) → acts new m.from q ≡ acts old m.from q) → (body : Body) → MayMake old m body → MayMake new m body
make_on old new m s same (Promise op g n b report) h = record { asked = took_on old new s _ h.asked; answer = ap (λ made. promise_answer made b) (same (record { group = g; position = n })) ∙ h.answer }
make_on old new m s same (Accepted op g n b e) h = record { asked = took_on old new s _ h.asked; answer = ap (λ made. accept_answer made b e) (same (record { group = g; position = n })) ∙ h.answer }
make_on old new m s same (Refused op g n asked shown e) (a_prepare took is) = a_prepare (took_on old new s _ took) (ap (λ made. prepared made op g n asked) (same (record { group = g; position = n })) ∙ is)
make_on old new m s same (Refused op g n asked shown e) (an_accept entry took is) = an_accept entry (took_on old new s _ took) (ap (λ made. voted made op g n asked entry) (same (record { group = g; position = n })) ∙ is)
make_on old new m s same _ h = tt

abbrev pub Owes : Cluster → List Item → ℕ → List Met → Type 0
Owes c tape me [] = Unit {0}
Owes c tape me (Unsends m ∷ more) = (more ≡ []) × ((m.from ≡ me) × MayMake tape m m.body)
Owes c tape me (Answers op answer ∷ more) = ⊥
Owes c tape me (one ∷ more) = MayBeNoted c tape me one × Owes c tape me more

pub owes_on : (c : Cluster) (old new : List Item) (me : ℕ) → Stood old new → ((q : Place) → acts new me q ≡ acts old me q) → (owed : List Met) → Owes c old me owed → Owes c new me owed
owes_on c old new me s same [] h = tt
owes_on c old new me s same (Unsends m ∷ more) h = (h.0, ((h.1).0, make_on old new m s (λ q. ap (λ v. acts new v q) (h.1).0 ∙ same q ∙ ap (λ v. acts old v q) (sym (h.1).0)) m.body (h.1).1))
owes_on c old new me s same (Answers op answer ∷ more) h = absurd h
owes_on c old new me s same (one ∷ more) h = (note_on c old new s me one h.0, owes_on c old new me s same more h.1)

-- ---- nodes

pub record NodeGood (users : Users) (c : Cluster) (tape : List Item) (me : ℕ) (node : Node) : Type 0 where
  pub made : (q : Place) → acts_met node.met q.group q.position.0 ≡ acts tape me q
  pub known : Known me node.met tape
  pub held : Each (Held users c tape me (start_of node.met) (begun_of node.met + 1) node.met) node.open_operations
  pub rising : IsRising 0 node.open_operations
  pub unfailed : Each (λ (o : Operation). has_failed tape o.id ≡ false) node.open_operations

-- an operation that its node did not begin
abbrev pub IsNew : ℕ → List Met → OpId → Type 0
IsNew starts met x = (starts < x.start) ⊎ ((x.start ≡ start_of met) × (begun_of met < x.number))

-- an operation that neither moved nor asked
pub record Unmoved (tape : List Item) (x : OpId) : Type 0 where
  pub moved : (q : Place) → moves tape x q ≡ []
  pub asked : has_asked tape x ≡ false

pub unmoved_on : (old new : List Item) (x : OpId) → ((q : Place) → moves new x q ≡ moves old x q) → has_asked new x ≡ has_asked old x → Unmoved old x → Unmoved new x
unmoved_on old new x moved asked h = record { moved = λ q. moved q ∙ h.moved q; asked = asked ∙ h.asked }

pub record Good (users : Users) (c : Cluster) (now : Standing) : Type 0 where
  pub lawful : Lawful c now.tape
  pub node : (me : ℕ) → NodeGood users c now.tape me (now.node me)
  pub starts : (me : ℕ) → start_of (now.node me).met ≤ now.starts me
  pub polls : ArePolls now.tape
  pub fresh : (x : OpId) → IsNew (now.starts x.node.0) (now.node x.node.0).met x → (q : Place) → moves now.tape x q ≡ []
  pub unasked : (x : OpId) → IsNew (now.starts x.node.0) (now.node x.node.0).met x → has_asked now.tape x ≡ false
  pub worn : (x : OpId) → last_number ≤ x.number → Unmoved now.tape x
  pub written : users.fits → AreWritten c.schema users.usage now.tape
  pub unbegun : (x : OpId) → IsNew (now.starts x.node.0) (now.node x.node.0).met x → has_begun now.tape x ≡ false
  pub answered : users.fits → AreAnswered c.schema users.usage now.tape
  pub unfailed : (x : OpId) → IsNew (now.starts x.node.0) (now.node x.node.0).met x → has_failed now.tape x ≡ false
  pub owes : (me : ℕ) → Owes c now.tape me (now.owed me)
  pub owed : (me : ℕ) → is_up (now.node me).met ≡ true → now.owed me ≡ []

-- a node that met nothing more
pub other_good : (users : Users) → (c : Cluster) (old new : List Item) (me : ℕ) (node : Node) → Stood old new → ((q : Place) → acts new me q ≡ acts old me q) → ((x : OpId) → x.node.0 ≡ me → (q : Place) → moves new x q ≡ moves old x q)
    → ((x : OpId) → x.node.0 ≡ me → has_failed new x ≡ has_failed old x) → NodeGood users c old me node → NodeGood users c new me node
other_good users c old new me node s same moved failed h = record {
  made = λ q. h.made q ∙ sym (same q);
  known = λ g n e k. s _ (h.known g n e k);
  held = each_on (Held users c old me (start_of node.met) (begun_of node.met + 1) node.met) (Held users c new me (start_of node.met) (begun_of node.met + 1) node.met)
      (λ o held. held_on users c old new me (start_of node.met) (begun_of node.met + 1) (begun_of node.met + 1) node.met node.met o (record { stood = s; moved = λ q. moved o.id held.node q }) (same_met node.met) (omega arith) held)
      node.open_operations h.held;
  rising = h.rising;
  unfailed = each_zip (Held users c old me (start_of node.met) (begun_of node.met + 1) node.met) (λ (o : Operation). has_failed old o.id ≡ false) (λ (o : Operation). has_failed new o.id ≡ false)
      (λ o held still. failed o.id held.node ∙ still) node.open_operations h.held h.unfailed;
}

-- ---- what a node sends

-- it is the node's own, or no answer of a voter
abbrev pub FromMe : ℕ → Message → Type 0
FromMe me m = (m.from ≡ me) ⊎ NoAct m.body

no_act_in : (g : GroupId) (n : ℕ) (body : Body) → NoAct body → act_in g n body ≡ None
no_act_in g n (Promise o h m b report) none = absurd none
no_act_in g n (Accepted o h m b e) none = absurd none
no_act_in g n _ none = refl

cond_none : (t : Bool) (o : Option Act) → o ≡ None → cond t o None ≡ None
cond_none true o h = h
cond_none false o h = refl

pub act_same : (me : ℕ) (m : Message) (g : GroupId) (n : ℕ) → FromMe me m → act_in g n m.body ≡ cond (m.from == me) (act_in g n m.body) None
act_same me m g n (inl same) = ap (λ t. cond t (act_in g n m.body) None) (sym (ap (λ v. v == me) same ∙ number_self me))
act_same me m g n (inr none) = no_act_in g n m.body none ∙ sym (cond_none (m.from == me) (act_in g n m.body) (no_act_in g n m.body none))

pub act_other : (me v : ℕ) (m : Message) (g : GroupId) (n : ℕ) → (me == v) ≡ false → FromMe me m → cond (m.from == v) (act_in g n m.body) None ≡ None
act_other me v m g n h (inl same) = ap (λ t. cond t (act_in g n m.body) None) (ap (λ w. w == v) same ∙ h)
act_other me v m g n h (inr none) = cond_none (m.from == v) (act_in g n m.body) (no_act_in g n m.body none)

pub sends_made : (me : ℕ) (k : ℕ) (ms : List Message) (tape : List Item) (met : List Met) → Each (FromMe me) ms → ((q : Place) → acts_met met q.group q.position.0 ≡ acts tape me q)
    → (q : Place) → acts_met (onto (map Sends ms) met) q.group q.position.0 ≡ acts (sent k ms tape) me q
sends_made me k [] tape met h same q = same q
sends_made me k (m ∷ ms) tape met h same q = sends_made me (k + 1) ms (Sent k m ∷ tape) (Sends m ∷ met) h.1
    (λ r. λ i. cons_option (act_same me m r.group r.position.0 h.0 i) (same r i)) q

pub sends_elsewhere : (me v : ℕ) (k : ℕ) (ms : List Message) (tape : List Item) → (me == v) ≡ false → Each (FromMe me) ms → (q : Place) → acts (sent k ms tape) v q ≡ acts tape v q
sends_elsewhere me v k [] tape apart h q = refl
sends_elsewhere me v k (m ∷ ms) tape apart h q = sends_elsewhere me v (k + 1) ms (Sent k m ∷ tape) apart h.1 q ∙ ap (λ o. cons_option o (acts tape v q)) (act_other me v m q.group q.position.0 apart h.0)

-- what it sends changes nothing else of what it met
pub record SentOn (met more : List Met) : Type 0 where
  pub decides : (g : GroupId) (n : ℕ) → decided more g n ≡ decided met g n
  pub start : start_of more ≡ start_of met
  pub begun : begun_of more ≡ begun_of met
  pub up : is_up more ≡ is_up met
  pub grew : Grew met more
  pub longer : length met ≤ length more

pub sends_on : (ms : List Message) (met : List Met) → SentOn met (onto (map Sends ms) met)
sends_on [] met = record { decides = λ g n. refl; start = refl; begun = refl; up = refl; grew = same_met met; longer = omega arith }
sends_on (m ∷ ms) met = let rest = sends_on ms (Sends m ∷ met) in record {
  decides = rest.decides;
  start = rest.start;
  begun = rest.begun;
  up = rest.up;
  grew = λ g. (let one = prefix_more (Sends m) met g in let two = rest.grew g in omega (arith, one, two));
  longer = (let two = rest.longer in omega arith);
}
