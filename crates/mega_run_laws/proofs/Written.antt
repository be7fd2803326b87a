-- What a round proposes is written as the laws of writes ask, where its operation's own entry may be written.
use Rattle.std.proofs.Common.{◌≡◌, inl, inr, ℕ, ◌+◌, List, [], ◌∷◌, Some, sym, ap, ◌∙◌, subst}
use Rattle.mega_base.specs.declared.names.GroupId.{GroupId}
use Rattle.mega_base.specs.declared.names.OpId.{OpId}
use Rattle.mega_ballot.specs.declared.ballot.Ballot.{Ballot}
use Rattle.mega_schema.specs.declared.schema.Schema.{Schema}
use Rattle.mega_entry.specs.declared.content.Content.{Content}
use Rattle.mega_wire.specs.declared.message.Message.{Message}
use Rattle.mega_wire.specs.declared.message.Body.{Body}
use Rattle.mega_wire.specs.declared.message.Body.TheVariants.{Accept, Prepare}
use Rattle.mega_tape_laws.specs.of_transcript.declared.item.Item.{Item}
use Rattle.mega_tape_laws.specs.of_transcript.declared.item.Item.TheVariants.{Sent}
use Rattle.mega_tape_laws.specs.Places.{In, Move, Place, Prepares, Proposes, is_move_at, move_in, moves}
use Rattle.mega_tape_laws.specs.Writes.{AreWritten, MaySay, MayWrite, OwnEntry, Usage, again, enters, fills, handles, own, runs, runs_all}
use Rattle.mega_tape_laws.proofs.Lists.{from_cons, in_tail}
use Rattle.mega_tape_laws.proofs.Made.{move_is, moved_at, proposal_entry}
use Rattle.mega_tape_laws.proofs.Origins.{id_is, origin}
use Rattle.mega_run_laws.specs.Justified.{AreOfRound, Each, OfRound, sent}
use Rattle.mega_run_laws.proofs.Said.{Says, SaysIt, WasProposed}

-- ---- behind a message

pub own_sent : (schema : Schema) (usage : Usage) (tape : List Item) (n : ℕ) (m : Message) (op : OpId) (group : GroupId) (below : List Content) (e : Content)
    → OwnEntry schema usage tape op group below e → OwnEntry schema usage (Sent n m ∷ tape) op group below e
own_sent schema usage tape n m op group below e (fills is) = fills is
own_sent schema usage tape n m op group below e (runs transaction done asked at comes is) = runs transaction done asked at comes is
own_sent schema usage tape n m op group below e (runs_all transactions asked is) = runs_all transactions asked is
own_sent schema usage tape n m op group below e (enters message sends one asked known posted to says fresh is) = enters message sends one asked (λ k d there. inr (known k d there)) posted to says fresh is
own_sent schema usage tape n m op group below e (handles message moment asked oldest is) = handles message moment asked oldest is

-- a round moves at its place alone
round_place : (op : OpId) (p q : Place) (x : Move) (body : Body) → OfRound op p body → move_in op q body ≡ Some x → q ≡ p
round_place op p q x (Accept o g n b e) of h = let at = moved_at op q o g n (move_is (is_move_at op q o g n) (Proposes b e) x h).0 in sym at.1 ∙ of.1
round_place op p q x (Prepare o g n b) of h = let at = moved_at op q o g n (move_is (is_move_at op q o g n) (Prepares b) x h).0 in sym at.1 ∙ of.1
round_place op p q x _ of h = cc

may_next : (schema : Schema) (usage : Usage) (tape : List Item) (n : ℕ) (m : Message) (node : ℕ) (op : OpId) (p : Place) (mine : Content) → OfRound op p m.body
    → MayWrite schema usage tape node op p mine → MayWrite schema usage (Sent n m ∷ tape) node op p mine
may_next schema usage tape n m node op p mine of (again other b i) = again other b (in_tail (move_in other p m.body) (moves tape other p) (Proposes b mine) i)
may_next schema usage tape n m node op p mine of (own o) = own (record {
  named = o.named;
  below = o.below;
  reaches = o.reaches;
  known = λ k d is. inr ((o.known) k d is);
  entry = own_sent schema usage tape n m op p.group o.below mine o.entry;
  home = λ q b other i x y. elim (from_cons (move_in op q m.body) (moves tape op q) (Proposes b other) i) [
    | inl tells ↦ round_place op p q (Proposes b other) m.body of tells
    | inr j ↦ (o.home) q b other j x y
  ];
})

pub proposed_next : (tape : List Item) (n : ℕ) (m : Message) (p : Place) (e : Content) → WasProposed tape p e → WasProposed (Sent n m ∷ tape) p e
proposed_next tape n m p e h = record { op = h.op; ballot = h.ballot; stands = in_tail (move_in h.op p m.body) (moves tape h.op p) (Proposes h.ballot e) h.stands }

pub moved_on : (n : ℕ) (ms : List Message) (tape : List Item) (op : OpId) (q : Place) (x : Move) → In x (moves tape op q) → In x (moves (sent n ms tape) op q)
moved_on n [] tape op q x i = i
moved_on n (m ∷ ms) tape op q x i = moved_on (n + 1) ms (Sent n m ∷ tape) op q x (in_tail (move_in op q m.body) (moves tape op q) x i)

-- ---- a round's messages

may_say : (schema : Schema) (usage : Usage) (first tape : List Item) (op : OpId) (p : Place) (mine : Content) (from : ℕ) (body : Body) → SaysIt first op p mine from body → OfRound op p body
    → ((e : Content) → WasProposed first p e → WasProposed tape p e) → MayWrite schema usage tape op.node.0 op p mine → MaySay schema usage tape from body
may_say schema usage first tape op p mine from (Accept o g n b e) says of on may = elim says.1 [
  | inl same ↦ coe 0 1 (i. MayWrite schema usage tape (sym says.0 i) (sym of.0 i) (sym of.1 i) (sym same i)) may
  | inr x ↦ (let was = on e x in again was.op was.ballot (subst (λ q. In (Proposes was.ballot e) (moves tape was.op q)) (sym of.1) was.stands))
]
may_say schema usage first tape op p mine from _ says of on may = tt

said_from : (schema : Schema) (usage : Usage) (first : List Item) (op : OpId) (p : Place) (mine : Content) (n : ℕ) (ms : List Message) (tape : List Item) → ((e : Content) → WasProposed first p e → WasProposed tape p e)
    → Each (Says first op p mine) ms → AreOfRound op p ms → MayWrite schema usage tape op.node.0 op p mine → AreWritten schema usage tape → AreWritten schema usage (sent n ms tape)
said_from schema usage first op p mine n [] tape on says of may w = w
said_from schema usage first op p mine n (m ∷ ms) tape on says of may w =
    said_from schema usage first op p mine (n + 1) ms (Sent n m ∷ tape) (λ e x. proposed_next tape n m p e (on e x)) says.1 of.1 (may_next schema usage tape n m op.node.0 op p mine of.0 may)
    (may_say schema usage first tape op p mine m.from m.body says.0 of.0 on may, w)

pub said_written : (schema : Schema) (usage : Usage) (tape : List Item) (op : OpId) (p : Place) (mine : Content) (n : ℕ) (ms : List Message)
    → Each (Says tape op p mine) ms → AreOfRound op p ms → MayWrite schema usage tape op.node.0 op p mine → AreWritten schema usage tape → AreWritten schema usage (sent n ms tape)
said_written schema usage tape op p mine n ms says of may w = said_from schema usage tape op p mine n ms tape (λ e x. x) says of may w

-- ---- no entry with the operation's id

-- an operation proposed no entry with its id
abbrev pub Unproposed : List Item → OpId → Type 0
Unproposed tape op = (q : Place) (b : Ballot) (e : Content) → In (Proposes b e) (moves tape op q) → e.id ≡ Some op → ⊥

-- then nobody did
pub not_own : (schema : Schema) (usage : Usage) (tape : List Item) → AreWritten schema usage tape → (op : OpId) (p : Place) (e : Content) → Unproposed tape op → WasProposed tape p e → e.id ≡ Some op → ⊥
not_own schema usage tape w op p e none x h =
    let r = origin schema usage tape w x.op p x.ballot e x.stands in
    let same : r.op ≡ op = id_is schema usage tape r.op p.group r.below e r.entry op h in
    none p r.ballot e (subst (λ a. In (Proposes r.ballot e) (moves tape a p)) same r.stands) h

says_none : (schema : Schema) (usage : Usage) (first : List Item) → AreWritten schema usage first → (op : OpId) (p : Place) (mine : Content) → (mine.id ≡ Some op → ⊥) → Unproposed first op
    → (q : Place) (b : Ballot) (e : Content) (from : ℕ) (body : Body) → SaysIt first op p mine from body → move_in op q body ≡ Some (Proposes b e) → e.id ≡ Some op → ⊥
says_none schema usage first w op p mine other none q b e from (Accept o g n d f) says h id =
    let same : f ≡ e = proposal_entry d b f e (move_is (is_move_at op q o g n) (Proposes d f) (Proposes b e) h).1 in
    let named : f.id ≡ Some op = ap (λ (x : Content). x.id) same ∙ id in
    elim says.1 [ inl is ↦ other (ap (λ (x : Content). x.id) (sym is) ∙ named) | inr x ↦ not_own schema usage first w op p f none x named ]
says_none schema usage first w op p mine other none q b e from (Prepare o g n d) says h id = let clashing = (move_is (is_move_at op q o g n) (Prepares d) (Proposes b e) h).1 in cc
says_none schema usage first w op p mine other none q b e from _ says h id = cc

unproposed_from : (schema : Schema) (usage : Usage) (first : List Item) → AreWritten schema usage first → (op : OpId) (p : Place) (mine : Content) → (mine.id ≡ Some op → ⊥) → Unproposed first op
    → (n : ℕ) (ms : List Message) (tape : List Item) → Each (Says first op p mine) ms → Unproposed tape op → Unproposed (sent n ms tape) op
unproposed_from schema usage first w op p mine other none n [] tape says un = un
unproposed_from schema usage first w op p mine other none n (m ∷ ms) tape says un = unproposed_from schema usage first w op p mine other none (n + 1) ms (Sent n m ∷ tape) says.1
    (λ q b e i h. elim (from_cons (move_in op q m.body) (moves tape op q) (Proposes b e) i) [
      | inl tells ↦ says_none schema usage first w op p mine other none q b e m.from m.body says.0 tells h
      | inr j ↦ un q b e j h
    ])

pub said_unproposed : (schema : Schema) (usage : Usage) (tape : List Item) → AreWritten schema usage tape → (op : OpId) (p : Place) (mine : Content) → (mine.id ≡ Some op → ⊥) → (n : ℕ) (ms : List Message)
    → Each (Says tape op p mine) ms → Unproposed tape op → Unproposed (sent n ms tape) op
said_unproposed schema usage tape w op p mine other n ms says none = unproposed_from schema usage tape w op p mine other none n ms tape says none
