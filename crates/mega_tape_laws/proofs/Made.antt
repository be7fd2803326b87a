-- From a lawful tape to the lists of its voters and operations.
use Rattle.std.proofs.Common.{◌≡◌, inl, inr, ℕ, ◌==◌, ◌&&◌, Bool, true, false, cond, List, [], ◌∷◌, Option, Some, None, refl, ap, ◌∙◌}
use Rattle.std.specs.List.{cons_option}
use Rattle.std.proofs.lemmas.Bool.{and_parts, and_from}
use Rattle.mega_base.specs.declared.names.GroupId.{GroupId}
use Rattle.mega_base.specs.declared.names.OpId.{OpId}
use Rattle.mega_base.specs.declared.names.Position.{Position}
use Rattle.mega_ballot.specs.declared.ballot.Ballot.{Ballot}
use Rattle.mega_cluster.specs.declared.cluster.Cluster.{Cluster}
use Rattle.mega_entry.specs.declared.content.Content.{Content}
use Rattle.mega_wire.specs.declared.message.Message.{Message}
use Rattle.mega_wire.specs.declared.message.Body.{Body}
use Rattle.mega_wire.specs.declared.message.Body.TheVariants.{Accept, Accepted, Prepare, Promise}
use Rattle.mega_wal.specs.Acceptor.{Act, Promised, Voted, Vote}
use Rattle.mega_wal.specs.Same.{same_group, same_op}
use Rattle.mega_wal.proofs.Sames.{same_group_equal, same_group_self, same_op_equal, same_op_self}
use Rattle.mega_promises.specs.of_rules.Voting.{act_if, act_in}
use Rattle.mega_promises.specs.of_transcript.declared.item.Item.{Item}
use Rattle.mega_promises.specs.of_transcript.declared.item.Item.TheVariants.{Sent, Unsent}
use Rattle.mega_tape_laws.specs.Places.{In, Move, Place, Prepares, Proposes, Took, act_from, act_of, acts, is_move_at, move_if, move_in, move_of, moves}
use Rattle.mega_tape_laws.specs.Lawful.{Allowed, Lawful, MayAccept, MayMake, MayPrepare, MayPropose, MaySend, asks, message, picks, raises, repeats, resends, spreads}
use Rattle.mega_tape_laws.proofs.Ballots.{number_is, number_self}
use Rattle.mega_tape_laws.proofs.Lists.{Source, in_tail, kept, lookback, source}
use Rattle.mega_tape_laws.proofs.Moves.{AllowedMove, LawfulMoves}
use Rattle.mega_tape_laws.proofs.Votes.{AllowedAct, LawfulActs}

-- ---- tests

-- a test that passes, and what stood behind it
pub passes : {X : Type 0} (t : Bool) (o : Option X) (x : X) → cond t o None ≡ Some x → (t ≡ true) × (o ≡ Some x)
passes true o x h = (refl, h)
passes false o x h = cc

act_is : (t : Bool) (act other : Act) → act_if t act ≡ Some other → (t ≡ true) × (act ≡ other)
act_is true act other h = (refl, cc)
act_is false act other h = cc

pub move_is : (t : Bool) (move other : Move) → move_if t move ≡ Some other → (t ≡ true) × (move ≡ other)
move_is true move other h = (refl, cc)
move_is false move other h = cc

pub place_is : (g : GroupId) (n : Position) (p : Place) → (same_group g p.group && n.0 == p.position.0) ≡ true → ◌≡◌ {A = Place} (record { group = g; position = n }) p
place_is g n p h =
    let parts = and_parts (same_group g p.group) (n.0 == p.position.0) h in
    λ i. record { group = same_group_equal g p.group parts.0 i; position = record { 0 = number_is n.0 p.position.0 parts.1 i } }

pub same_place_self : (p : Place) → (same_group p.group p.group && p.position.0 == p.position.0) ≡ true
same_place_self p = and_from (same_group p.group p.group) (p.position.0 == p.position.0) (same_group_self p.group) (number_self p.position.0)

-- the operation and the place of a move
pub moved_at : (op : OpId) (p : Place) (o : OpId) (g : GroupId) (n : Position) → is_move_at op p o g n ≡ true → (o ≡ op) × (◌≡◌ {A = Place} (record { group = g; position = n }) p)
moved_at op p o g n h =
    let outer = and_parts (same_op o op && same_group g p.group) (n.0 == p.position.0) h in
    let inner = and_parts (same_op o op) (same_group g p.group) outer.0 in
    (same_op_equal o op inner.0, place_is g n p (and_from (same_group g p.group) (n.0 == p.position.0) inner.1 outer.1))

moves_here : (op : OpId) (p : Place) → is_move_at op p op p.group p.position ≡ true
moves_here op p = and_from (same_op op op && same_group p.group p.group) (p.position.0 == p.position.0) (and_from (same_op op op) (same_group p.group p.group) (same_op_self op) (same_group_self p.group)) (number_self p.position.0)

-- ---- what a message makes

act_made : (voter : ℕ) (p : Place) (to : ℕ) (body : Body) (act : Act) → act_in p.group p.position.0 body ≡ Some act → act_from voter p (message voter to body) ≡ Some act
act_made voter p to body act h = ap (λ t. cond t (act_in p.group p.position.0 body) None) (number_self voter) ∙ h

pub voted_here : (voter : ℕ) (p : Place) (to : ℕ) (op : OpId) (b : Ballot) (e : Content) → act_from voter p (message voter to (Accepted op p.group p.position b e)) ≡ Some (Voted b e)
voted_here voter p to op b e = act_made voter p to (Accepted op p.group p.position b e) (Voted b e) (ap (λ t. act_if t (Voted b e)) (same_place_self p))

pub promised_here : (voter : ℕ) (p : Place) (to : ℕ) (op : OpId) (b : Ballot) (report : Option Vote) → act_from voter p (message voter to (Promise op p.group p.position b report)) ≡ Some (Promised b report)
promised_here voter p to op b report = act_made voter p to (Promise op p.group p.position b report) (Promised b report) (ap (λ t. act_if t (Promised b report)) (same_place_self p))

pub proposed_here : (op : OpId) (p : Place) (b : Ballot) (e : Content) → move_in op p (Accept op p.group p.position b e) ≡ Some (Proposes b e)
proposed_here op p b e = ap (λ t. move_if t (Proposes b e)) (moves_here op p)

-- what a voter is heard to have made is in its list
pub heard_act : (tape : List Item) (voter : ℕ) (p : Place) (m : Message) (act : Act) → act_from voter p m ≡ Some act → Took tape m → In act (acts tape voter p)
heard_act tape voter p m act h took = kept (act_of voter p) (Sent took.number m) act tape h took.sent

-- ---- voters

-- of what may be sent, what makes an act is an answer of a voter
answers : (c : Cluster) (s : List Item) (m : Message) (p : Place) (act : Act) (body : Body) → act_in p.group p.position.0 body ≡ Some act → MaySend c s m body → MayMake s m body
answers c s m p act (Promise o g n b report) h may = may
answers c s m p act (Accepted o g n b e) h may = may
answers c s m p act _ h may = cc

act_allowed : (s : List Item) (m : Message) (voter : ℕ) (p : Place) (act : Act) → m.from ≡ voter → (body : Body) → act_in p.group p.position.0 body ≡ Some act → MayMake s m body → AllowedAct (acts s voter p) act
act_allowed s m voter p act from (Promise o g n b report) h may =
    let parts = act_is (same_group g p.group && n.0 == p.position.0) (Promised b report) act h in
    let at = place_is g n p parts.0 in
    coe 0 1 (i. AllowedAct (acts s (from i) (at i)) (parts.1 i)) may.answer
act_allowed s m voter p act from (Accepted o g n b e) h may =
    let parts = act_is (same_group g p.group && n.0 == p.position.0) (Voted b e) act h in
    let at = place_is g n p parts.0 in
    coe 0 1 (i. AllowedAct (acts s (from i) (at i)) (parts.1 i)) may.answer
act_allowed s m voter p act from _ h may = cc

pub item_allowed : (c : Cluster) (s : List Item) (voter : ℕ) (p : Place) (act : Act) (item : Item) → act_of voter p item ≡ Some act → Allowed c s item → AllowedAct (acts s voter p) act
item_allowed c s voter p act (Sent number m) h may =
    let parts = passes (m.from == voter) (act_in p.group p.position.0 m.body) act h in
    act_allowed s m voter p act (number_is m.from voter parts.0) m.body parts.1 (answers c s m p act m.body parts.1 may)
item_allowed c s voter p act (Unsent node m) h may =
    let parts = passes (m.from == voter) (act_in p.group p.position.0 m.body) act h in
    act_allowed s m voter p act (number_is m.from voter parts.0) m.body parts.1 may
item_allowed c s voter p act _ h may = cc

acts_then : (o : Option Act) (made : List Act) → ((act : Act) → o ≡ Some act → AllowedAct made act) → LawfulActs made → LawfulActs (cons_option o made)
acts_then None made f l = l
acts_then (Some act) made f l = (f act refl, l)

pub acts_lawful : (c : Cluster) (tape : List Item) (voter : ℕ) (p : Place) → Lawful c tape → LawfulActs (acts tape voter p)
acts_lawful c [] voter p l = tt
acts_lawful c (item ∷ before) voter p l = acts_then (act_of voter p item) (acts before voter p) (λ act h. item_allowed c before voter p act item h l.0) (acts_lawful c before voter p l.1)

-- an acceptance, with the request that it answers
pub record Accepts (s : List Item) (voter : ℕ) (p : Place) (b : Ballot) (e : Content) : Type 0 where
  pub from : ℕ
  pub op : OpId
  pub may : MayAccept s from voter op p b e

ballot_is : (b d : Ballot) (e f : Content) → Voted b e ≡ Voted d f → b ≡ d
ballot_is b d e f h = cc

content_is : (b d : Ballot) (e f : Content) → Voted b e ≡ Voted d f → e ≡ f
content_is b d e f h = cc

accepts_in : (s : List Item) (m : Message) (voter : ℕ) (p : Place) (b : Ballot) (e : Content) → m.from ≡ voter → (body : Body) → act_in p.group p.position.0 body ≡ Some (Voted b e) → MayMake s m body → Accepts s voter p b e
accepts_in s m voter p b e from (Promise o g n d report) h may = let parts = act_is (same_group g p.group && n.0 == p.position.0) (Promised d report) (Voted b e) h in let clashing = parts.1 in cc
accepts_in s m voter p b e from (Accepted o g n d f) h may =
    let parts = act_is (same_group g p.group && n.0 == p.position.0) (Voted d f) (Voted b e) h in
    let at = place_is g n p parts.0 in
    let ballot = ballot_is d b f e parts.1 in
    let content = content_is d b f e parts.1 in
    record { from = m.to; op = o; may = coe 0 1 (i. MayAccept s m.to (from i) o (at i) (ballot i) (content i)) may }
accepts_in s m voter p b e from _ h may = cc

pub accepts : (c : Cluster) (s : List Item) (voter : ℕ) (p : Place) (b : Ballot) (e : Content) (item : Item) → act_of voter p item ≡ Some (Voted b e) → Allowed c s item → Accepts s voter p b e
accepts c s voter p b e (Sent number m) h may =
    let parts = passes (m.from == voter) (act_in p.group p.position.0 m.body) (Voted b e) h in
    accepts_in s m voter p b e (number_is m.from voter parts.0) m.body parts.1 (answers c s m p (Voted b e) m.body parts.1 may)
accepts c s voter p b e (Unsent node m) h may =
    let parts = passes (m.from == voter) (act_in p.group p.position.0 m.body) (Voted b e) h in
    accepts_in s m voter p b e (number_is m.from voter parts.0) m.body parts.1 may
accepts c s voter p b e _ h may = cc

-- ---- operations

prepares_allowed : (s : List Item) (op : OpId) (p : Place) (b : Ballot) → MayPrepare s op p b → AllowedMove op (moves s op p) (Prepares b)
prepares_allowed s op p b (raises own above) = (own, inl above)
prepares_allowed s op p b (resends own last) = (own, inr last)

proposes_allowed : (c : Cluster) (s : List Item) (node to : ℕ) (op : OpId) (p : Place) (b : Ballot) (e : Content) → MayPropose c s node to op p b e → AllowedMove op (moves s op p) (Proposes b e)
proposes_allowed c s node to op p b e (asks at_zero leads) = inl at_zero
proposes_allowed c s node to op p b e (spreads leader at_zero leads heard) = inl at_zero
proposes_allowed c s node to op p b e (picks own last picked) = inr (own, inl last)
proposes_allowed c s node to op p b e (repeats own last) = inr (own, inr last)

move_allowed : (c : Cluster) (s : List Item) (op : OpId) (p : Place) (move : Move) (m : Message) (body : Body) → move_in op p body ≡ Some move → MaySend c s m body → AllowedMove op (moves s op p) move
move_allowed c s op p move m (Accept o g n b e) h may =
    let parts = move_is (is_move_at op p o g n) (Proposes b e) move h in
    let at = moved_at op p o g n parts.0 in
    coe 0 1 (i. AllowedMove (at.0 i) (moves s (at.0 i) (at.1 i)) (parts.1 i)) (proposes_allowed c s m.from m.to o (record { group = g; position = n }) b e may)
move_allowed c s op p move m (Prepare o g n b) h may =
    let parts = move_is (is_move_at op p o g n) (Prepares b) move h in
    let at = moved_at op p o g n parts.0 in
    coe 0 1 (i. AllowedMove (at.0 i) (moves s (at.0 i) (at.1 i)) (parts.1 i)) (prepares_allowed s o (record { group = g; position = n }) b may)
move_allowed c s op p move m _ h may = cc

moves_then : (op : OpId) (o : Option Move) (moved : List Move) → ((move : Move) → o ≡ Some move → AllowedMove op moved move) → LawfulMoves op moved → LawfulMoves op (cons_option o moved)
moves_then op None moved f l = l
moves_then op (Some move) moved f l = (f move refl, l)

moved_by : (c : Cluster) (s : List Item) (op : OpId) (p : Place) (move : Move) (item : Item) → move_of op p item ≡ Some move → Allowed c s item → AllowedMove op (moves s op p) move
moved_by c s op p move (Sent number m) h may = move_allowed c s op p move m m.body h may
moved_by c s op p move _ h may = cc

pub moves_lawful : (c : Cluster) (tape : List Item) (op : OpId) (p : Place) → Lawful c tape → LawfulMoves op (moves tape op p)
moves_lawful c [] op p l = tt
moves_lawful c (item ∷ before) op p l = moves_then op (move_of op p item) (moves before op p) (λ move h. moved_by c before op p move item h l.0) (moves_lawful c before op p l.1)

-- a proposal, as it was allowed
pub record Offers (c : Cluster) (s : List Item) (op : OpId) (p : Place) (b : Ballot) (e : Content) : Type 0 where
  pub node : ℕ
  pub to : ℕ
  pub may : MayPropose c s node to op p b e

proposal_ballot : (b d : Ballot) (e f : Content) → Proposes b e ≡ Proposes d f → b ≡ d
proposal_ballot b d e f h = cc

pub proposal_entry : (b d : Ballot) (e f : Content) → Proposes b e ≡ Proposes d f → e ≡ f
proposal_entry b d e f h = cc

offers_in : (c : Cluster) (s : List Item) (op : OpId) (p : Place) (b : Ballot) (e : Content) (m : Message) (body : Body) → move_in op p body ≡ Some (Proposes b e) → MaySend c s m body → Offers c s op p b e
offers_in c s op p b e m (Accept o g n d f) h may =
    let parts = move_is (is_move_at op p o g n) (Proposes d f) (Proposes b e) h in
    let at = moved_at op p o g n parts.0 in
    let ballot = proposal_ballot d b f e parts.1 in
    let entry = proposal_entry d b f e parts.1 in
    record { node = m.from; to = m.to; may = coe 0 1 (i. MayPropose c s m.from m.to (at.0 i) (at.1 i) (ballot i) (entry i)) may }
offers_in c s op p b e m (Prepare o g n d) h may = let parts = move_is (is_move_at op p o g n) (Prepares d) (Proposes b e) h in let clashing = parts.1 in cc
offers_in c s op p b e m _ h may = cc

pub offers : (c : Cluster) (s : List Item) (op : OpId) (p : Place) (b : Ballot) (e : Content) (item : Item) → move_of op p item ≡ Some (Proposes b e) → Allowed c s item → Offers c s op p b e
offers c s op p b e (Sent number m) h may = offers_in c s op p b e m m.body h may
offers c s op p b e _ h may = cc

-- ---- a vote has its proposal

pub record Proposed (tape : List Item) (p : Place) (b : Ballot) (e : Content) : Type 0 where
  pub op : OpId
  pub stands : In (Proposes b e) (moves tape op p)

pub vote_proposed : (c : Cluster) (tape : List Item) → Lawful c tape → (voter : ℕ) (p : Place) (b : Ballot) (e : Content) → In (Voted b e) (acts tape voter p) → Proposed tape p b e
vote_proposed c tape l voter p b e i = lookback c (λ s. Proposed s p b e) from.item lasts held tape l from.stands
  where
    from : Source (act_of voter p) (Voted b e) tape
    from = source (act_of voter p) (Voted b e) tape i

    lasts : (other : Item) (before : List Item) → Proposed before p b e → Proposed (other ∷ before) p b e
    lasts other before q = record { op = q.op; stands = in_tail (move_of q.op p other) (moves before q.op p) (Proposes b e) q.stands }

    held : (before : List Item) → Allowed c before from.item → Proposed before p b e
    held before may =
        let a = accepts c before voter p b e from.item from.tells may in
        let asked = (a.may).asked in
        record { op = a.op; stands = kept (move_of a.op p) (Sent asked.number (message a.from voter (Accept a.op p.group p.position b e))) (Proposes b e) before (proposed_here a.op p b e) asked.sent }
