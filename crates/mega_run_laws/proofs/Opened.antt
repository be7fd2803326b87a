-- An open operation is justified: its round, and that it moved nowhere else above what its node decided.
use Rattle.std.proofs.Common.{◌≡◌, ◌⊎◌, inl, inr, ℕ, ◌+◌, ◌==◌, ◌&&◌, ◌≤◌, ◌<◌, Bool, true, false, List, [], ◌∷◌, Option, Some, None, refl, sym, ap, ◌∙◌, subst, arith}
use Rattle.std.proofs.lemmas.Bool.{and_parts}
use Rattle.mega_base.specs.declared.names.GroupId.{GroupId}
use Rattle.mega_base.specs.declared.names.OpId.{OpId}
use Rattle.mega_cluster.specs.declared.cluster.Cluster.{Cluster}
use Rattle.mega_wire.specs.declared.message.Message.{Message}
use Rattle.mega_wire.specs.declared.message.Body.{Body}
use Rattle.mega_wire.specs.declared.message.Body.TheVariants.{Accept, Accepted, Prepare, Promise, Top, Where}
use Rattle.mega_wal.specs.Same.{same_group, same_op}
use Rattle.mega_wal.proofs.Sames.{same_group_equal}
use Rattle.mega_tape_laws.specs.of_transcript.declared.item.Item.{Item}
use Rattle.mega_tape_laws.specs.of_read.of_propose.declared.round.Round.{Round}
use Rattle.mega_tape_laws.specs.of_read.of_propose.declared.round.Proposal.{Proposal}
use Rattle.mega_tape_laws.specs.of_read.of_propose.declared.round.Move.{Move as RoundMove}
use Rattle.mega_tape_laws.specs.of_read.of_propose.declared.round.Round.TheVariants.{Asking, Preparing, Accepting, Covering, Settled, Waiting}
use Rattle.mega_tape_laws.specs.of_read.declared.reading.Search.{Search}
use Rattle.mega_tape_laws.specs.of_read.declared.reading.Stage.{Stage}
use Rattle.mega_tape_laws.specs.of_read.declared.reading.Search.TheVariants.{Fetching, Filling}
use Rattle.mega_tape_laws.specs.of_read.declared.reading.Stage.TheVariants.{Polling, Catching}
use Rattle.mega_tape_laws.specs.of_rules.Met.{Met}
use Rattle.mega_tape_laws.specs.of_rules.Logs.{prefix_of}
use Rattle.mega_tape_laws.specs.of_rules.Operations.{Phase, Proposes, Reads}
use Rattle.mega_tape_laws.specs.Places.{Place, is_move_at, moves}
use Rattle.mega_tape_laws.specs.Lawful.{Lawful}
use Rattle.mega_tape_laws.proofs.Ballots.{number_is}
use Rattle.mega_run_laws.specs.Justified.{AreOfRound, Each, Goes, IsWithin, Knows, Latest, OfRound, Justified, sent}
use Rattle.mega_run_laws.proofs.Sending.{Stood, leads_on, moves_apart, stood_sent, took_on}
use Rattle.mega_run_laws.proofs.Free.{AreFree, IsFree, free_lawful, free_moves}

abbrev pub at_place : GroupId → ℕ → Place
at_place group n = record { group = group; position = record { 0 = n } }

-- where an operation has a round
abbrev pub search_place : GroupId → Option Search → Option Place
search_place group None = None
search_place group (Some (Fetching position denied at)) = None
search_place group (Some (Filling position proposal)) = Some (at_place group position)

abbrev pub stage_place : GroupId → Stage → Option Place
stage_place group (Polling heard best at) = None
stage_place group (Catching through search) = search_place group search

abbrev pub place_of : Phase → Option Place
place_of (Reads group r) = stage_place group r.stage
place_of (Proposes group n asked proposal promised) = Some (at_place group n)

-- a search is at a position that its read needs, at or below the first that its node has not decided
abbrev pub IsSought : List Met → GroupId → ℕ → ℕ → Type 0
IsSought met group through position = (position ≤ through) × (position ≤ prefix_of met group + 1) × (0 < position)

abbrev pub BackedSearch : Cluster → List Item → List Met → OpId → GroupId → ℕ → Option Search → Type 0
BackedSearch c tape met op group through None = Unit {0}
BackedSearch c tape met op group through (Some (Fetching position denied at)) = IsSought met group through position × (moves tape op (at_place group position) ≡ [])
BackedSearch c tape met op group through (Some (Filling position proposal)) = IsSought met group through position × Justified c tape op (at_place group position) proposal

abbrev pub BackedStage : Cluster → List Item → List Met → OpId → GroupId → Stage → Type 0
BackedStage c tape met op group (Polling heard best at) = Unit {0}
BackedStage c tape met op group (Catching through search) = BackedSearch c tape met op group through search

abbrev pub Backed : Cluster → List Item → List Met → OpId → Phase → Type 0
Backed c tape met op (Reads group r) = BackedStage c tape met op group r.stage
Backed c tape met op (Proposes group n asked proposal promised) = Justified c tape op (at_place group n) proposal

-- above what its node decided an operation moved at the place of its round alone
abbrev pub Idle : List Item → List Met → OpId → Option Place → Type 0
Idle tape met op place = (q : Place) → prefix_of met q.group < q.position.0 → (place ≡ Some q) ⊎ (moves tape op q ≡ [])

-- ---- growing

abbrev pub Grew : List Met → List Met → Type 0
Grew old new = (g : GroupId) → prefix_of old g ≤ prefix_of new g

-- as far as one operation can tell: what stood stands, and its own moves are as they were
pub record Beside (op : OpId) (old new : List Item) : Type 0 where
  pub stood : Stood old new
  pub moved : (q : Place) → moves new op q ≡ moves old op q

pub knows_on : (c : Cluster) (old new : List Item) → Stood old new → (op : OpId) (p : Place) (round : Round) → Knows c old op p round → Knows c new op p round
knows_on c old new s op p (Asking leader at) k = leads_on c old new s op.node.0 p leader k
knows_on c old new s op p (Preparing b reports at) k = (k.0, record { heard = λ voter h. took_on old new s _ ((k.1).heard voter h); only = (k.1).only; counted = (k.1).counted })
knows_on c old new s op p (Accepting b e voted at) k = record { heard = λ voter h. took_on old new s _ (k.heard voter h); counted = k.counted }
knows_on c old new s op p (Covering b e cover at) k = record { ballot = k.ballot; test = k.test; majority = k.majority; heard = λ voter h. took_on old new s _ (k.heard voter h) }
knows_on c old new s op p (Settled e told) k = record { ballot = k.ballot; test = k.test; majority = k.majority; heard = λ voter h. took_on old new s _ (k.heard voter h) }
knows_on c old new s op p Waiting k = tt

pub justified_on : (c : Cluster) (old new : List Item) (op : OpId) (p : Place) (proposal : Proposal) → Beside op old new → Justified c old op p proposal → Justified c new op p proposal
justified_on c old new op p proposal s v = record {
  within = subst (IsWithin proposal.seen) (sym (s.moved p)) v.within;
  knows = knows_on c old new s.stood op p proposal.round v.knows;
  latest = subst (λ ms. Latest c ms proposal.round) (sym (s.moved p)) v.latest;
}

sought_on : (old new : List Met) (g : GroupId) (through n : ℕ) → Grew old new → IsSought old g through n → IsSought new g through n
sought_on old new g through n grew s = (s.0, (let more = grew g in let less = s.1 in omega (arith, more, less)), s.2)

search_on : (c : Cluster) (old new : List Item) (met more : List Met) (op : OpId) (g : GroupId) (through : ℕ) → Beside op old new → Grew met more → (search : Option Search)
    → BackedSearch c old met op g through search → BackedSearch c new more op g through search
search_on c old new met more op g through s grew None b = tt
search_on c old new met more op g through s grew (Some (Fetching position denied at)) b = (sought_on met more g through position grew b.0, s.moved (at_place g position) ∙ b.1)
search_on c old new met more op g through s grew (Some (Filling position proposal)) b = (sought_on met more g through position grew b.0, justified_on c old new op (at_place g position) proposal s b.1)

stage_on : (c : Cluster) (old new : List Item) (met more : List Met) (op : OpId) (g : GroupId) → Beside op old new → Grew met more → (stage : Stage)
    → BackedStage c old met op g stage → BackedStage c new more op g stage
stage_on c old new met more op g s grew (Polling heard best at) b = tt
stage_on c old new met more op g s grew (Catching through search) b = search_on c old new met more op g through s grew search b

pub backed_on : (c : Cluster) (old new : List Item) (met more : List Met) (op : OpId) → Beside op old new → Grew met more → (phase : Phase)
    → Backed c old met op phase → Backed c new more op phase
backed_on c old new met more op s grew (Reads group r) b = stage_on c old new met more op group s grew r.stage b
backed_on c old new met more op s grew (Proposes group n asked proposal promised) b = justified_on c old new op (at_place group n) proposal s b

pub idle_on : (old new : List Item) (met more : List Met) (op : OpId) (place : Option Place) → Beside op old new → Grew met more → Idle old met op place → Idle new more op place
idle_on old new met more op place s grew idle q above = elim (idle q (let less = grew q.group in omega arith)) [ inl e ↦ inl e | inr e ↦ inr (s.moved q ∙ e) ]

pub same_met : (met : List Met) → Grew met met
same_met met g = omega arith

-- ---- what an operation does

-- a message of an operation: no answer of a voter, and no move or question of another operation
abbrev pub OfOp : OpId → Body → Type 0
OfOp op (Accept o g n b e) = o ≡ op
OfOp op (Prepare o g n b) = o ≡ op
OfOp op (Promise o g n b report) = ⊥
OfOp op (Accepted o g n b e) = ⊥
OfOp op (Where o g) = o ≡ op
OfOp op (Top o g n) = ⊥
OfOp op _ = Unit {0}

abbrev pub AreOfOp : OpId → List Message → Type 0
AreOfOp op ms = Each (λ (m : Message). OfOp op m.body) ms

of_op : (op : OpId) (p : Place) (body : Body) → OfRound op p body → OfOp op body
of_op op p (Accept o g n b e) h = h.0
of_op op p (Prepare o g n b) h = h.0
of_op op p (Promise o g n b report) h = absurd h
of_op op p (Accepted o g n b e) h = absurd h
of_op op p (Where o g) h = absurd h
of_op op p (Top o g n) h = absurd h
of_op op p _ h = tt

pub are_of_op : (op : OpId) (p : Place) (ms : List Message) → AreOfRound op p ms → AreOfOp op ms
are_of_op op p [] h = tt
are_of_op op p (m ∷ ms) h = (of_op op p m.body h.0, are_of_op op p ms h.1)

free_op : (op : OpId) (body : Body) → IsFree body → OfOp op body
free_op op (Accept o g n b e) h = absurd h
free_op op (Prepare o g n b) h = absurd h
free_op op (Promise o g n b report) h = absurd h
free_op op (Accepted o g n b e) h = absurd h
free_op op (Where o g) h = absurd h
free_op op (Top o g n) h = absurd h
free_op op _ h = tt

pub free_ops : (op : OpId) (ms : List Message) → AreFree ms → AreOfOp op ms
free_ops op [] h = tt
free_ops op (m ∷ ms) h = (free_op op m.body h.0, free_ops op ms h.1)

-- it sends what is allowed, and is justified then
pub record Acts (c : Cluster) (tape : List Item) (met : List Met) (op : OpId) (phase : Phase) (ms : List Message) : Type 0 where
  pub own : AreOfOp op ms
  pub lawful : (n : ℕ) → Lawful c tape → Lawful c (sent n ms tape)
  pub backed : (n : ℕ) → Backed c (sent n ms tape) met op phase
  pub idle : (n : ℕ) → Idle (sent n ms tape) met op (place_of phase)

pub acts_free : (c : Cluster) (tape : List Item) (met : List Met) (op : OpId) (phase : Phase) (ms : List Message) → AreFree ms → Backed c tape met op phase → Idle tape met op (place_of phase)
    → Acts c tape met op phase ms
acts_free c tape met op phase ms free backed idle = record {
  own = free_ops op ms free;
  lawful = λ n l. free_lawful c n ms tape free l;
  backed = λ n. backed_on c tape (sent n ms tape) met met op (beside n) (same_met met) phase backed;
  idle = λ n. idle_on tape (sent n ms tape) met met op (place_of phase) (beside n) (same_met met) idle;
}
  where
    beside : (n : ℕ) → Beside op tape (sent n ms tape)
    beside n = record { stood = stood_sent n ms tape; moved = λ q. free_moves op q n ms tape free }

same_place : (op : OpId) (p q : Place) → is_move_at op q op p.group p.position ≡ true → p ≡ q
same_place op p q h =
    let outer = and_parts (same_op op op && same_group p.group q.group) (p.position.0 == q.position.0) h in
    let inner = and_parts (same_op op op) (same_group p.group q.group) outer.0 in
    λ i. record { group = same_group_equal p.group q.group inner.1 i; position = record { 0 = number_is p.position.0 q.position.0 outer.1 i } }

-- a round goes on, or begins where the operation had none
pub acts_round : (c : Cluster) (tape : List Item) (met : List Met) (op : OpId) (p : Place) (t : RoundMove) (phase : Phase) (old : Option Place) → Goes c tape op p t → place_of phase ≡ Some p
    → ((new : List Item) → Justified c new op p t.proposal → Backed c new met op phase) → Idle tape met op old → ((q : Place) → old ≡ Some q → p ≡ q) → Acts c tape met op phase t.sends
acts_round c tape met op p t phase old goes at backs idle older = record {
  own = are_of_op op p t.sends goes.own;
  lawful = goes.lawful;
  backed = λ n. backs (sent n t.sends tape) (record { within = goes.within n; knows = knows_on c tape (sent n t.sends tape) (stood_sent n t.sends tape) op p (t.proposal).round goes.knows; latest = goes.latest n });
  idle = λ n q above. elim (idle q above) [ inl e ↦ inl (at ∙ ap Some (older q e)) | inr none ↦ apart n q (is_move_at op q op p.group p.position) refl none ];
}
  where
    apart : (n : ℕ) (q : Place) (t' : Bool) → is_move_at op q op p.group p.position ≡ t' → moves tape op q ≡ [] → (place_of phase ≡ Some q) ⊎ (moves (sent n t.sends tape) op q ≡ [])
    apart n q true h none = inl (at ∙ ap Some (same_place op p q h))
    apart n q false h none = inr (moves_apart op p op q n t.sends tape h goes.own ∙ none)

pub place_is : (p q : Place) → Some p ≡ Some q → p ≡ q
place_is p q h = cc

-- a place that its node decided is none
pub idle_none : (tape : List Item) (met : List Met) (op : OpId) (old : Option Place) → Idle tape met op old → ((q : Place) → old ≡ Some q → q.position.0 ≤ prefix_of met q.group) → Idle tape met op None
idle_none tape met op old idle below q above = elim (idle q above) [ inl e ↦ absurd (let le = below q e in omega arith) | inr e ↦ inr e ]
