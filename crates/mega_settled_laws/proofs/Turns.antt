-- The operations of a node act one after another, each knowing what it heard.
use Rattle.std.proofs.Common.{◌≡◌, ℕ, ◌+◌, ◌==◌, ◌≤◌, ◌<◌, Bool, true, false, cond, List, [], ◌∷◌, ◌++◌, map, fold, Option, Some, None, refl, sym, ap, ◌∙◌, subst, arith}
use Rattle.std.proofs.lemmas.Bool.{and_left, or_from}
use Rattle.mega_base.specs.declared.names.Epoch.{Epoch}
use Rattle.mega_base.specs.declared.names.GroupId.{GroupId}
use Rattle.mega_base.specs.declared.names.OpId.{OpId}
use Rattle.mega_cluster.specs.declared.cluster.Cluster.{Cluster}
use Rattle.mega_coordinator.specs.declared.answers.NotValid.{NotValid}
use Rattle.mega_outcome.specs.declared.answer.Answer.{Answer}
use Rattle.mega_entry.specs.declared.content.Enter.{Enter}
use Rattle.mega_outcome.specs.declared.request.Request.{Request}
use Rattle.mega_outcome.specs.declared.request.Request.TheVariants.{Refresh}
use Rattle.mega_wire.specs.declared.message.Message.{Message}
use Rattle.mega_wire.specs.declared.message.Body.{Body}
use Rattle.mega_wire.specs.declared.message.Body.TheVariants.{Dead, Unheld}
use Rattle.mega_wal.specs.Same.{same_op}
use Rattle.mega_wal.proofs.Sames.{same_op_equal}
use Rattle.mega_run_laws.specs.of_transcript.declared.item.Item.{Item}
use Rattle.mega_run_laws.specs.of_rules.of_read.of_propose.Members.{has}
use Rattle.mega_run_laws.specs.of_rules.of_read.of_propose.Rounds.{asks}
use Rattle.mega_run_laws.specs.of_rules.of_read.declared.reading.Reading.{Reading}
use Rattle.mega_run_laws.specs.of_rules.of_read.declared.reading.Search.{Search}
use Rattle.mega_run_laws.specs.of_rules.of_read.declared.reading.Stage.TheVariants.{Catching}
use Rattle.mega_run_laws.specs.of_rules.of_read.declared.reading.Move.{Move as ReadMove}
use Rattle.mega_run_laws.specs.of_rules.of_read.Catching.{asked_by, first_reading, local_read, polled_read, seeks, site}
use Rattle.mega_run_laws.specs.of_rules.Clock.{clock_of}
use Rattle.mega_run_laws.specs.of_rules.Coordinators.{refused_at, serves_at, valid_at}
use Rattle.mega_run_laws.specs.of_rules.Logs.{top_of}
use Rattle.mega_run_laws.specs.of_rules.Members.{is_cell}
use Rattle.mega_run_laws.specs.of_rules.Operations.{Now, Operation, Phase, Proposes, Reads, Setting}
use Rattle.mega_run_laws.specs.of_rules.Acting.{completes_read, ends, in_phase, is_visited, keeps, read_begun, reader_of, sends_more, validated_by, visiting}
use Rattle.mega_run_laws.specs.of_rules.Steps.{Heard, acts_in_turn, all_act, does_due, hears_message, is_out, last_answer, new_operation, ticked, unless_refused}
use Rattle.mega_run_laws.specs.of_tape_laws.Places.{Took}
use Rattle.mega_run_laws.specs.of_tape_laws.Lawful.{message}
use Rattle.mega_run_laws.specs.of_tape_laws.Writes.{has_begun}
use Rattle.mega_run_laws.specs.Justified.{Each}
use Rattle.mega_run_laws.proofs.Opened.{at_place}
use Rattle.mega_run_laws.proofs.Turns.{IsRising, each_on, each_push}
use Rattle.mega_settled_laws.specs.Covering.{Earlier, asks_about, has_asked_about}
use Rattle.mega_run_laws.proofs.Events.{each_append as each_both}
use Rattle.mega_settled_laws.proofs.Tapes.{Mine, OfDead, asks_apart, asks_both, asks_in}
use Rattle.mega_settled_laws.proofs.Rounds.{Knows, asks_proceeds, due_proceeds, knows_on, takes_proceeds, told_of}
use Rattle.mega_settled_laws.proofs.Reading.{ReadProceeds, StageKnows, asked_of, falls_due_read, hears_read, local_begun, polled_begun, seeks_read, stage_on, told_stage}
use Rattle.mega_settled_laws.proofs.Walk.{Walks, begun_it, caught, goes_on_it, no_group}

-- ---- what an operation knows

abbrev pub PhaseKnows : Cluster → List Item → OpId → Phase → Type 0
PhaseKnows c tape op (Reads group r) = StageKnows c tape op group r.asked r.stage
PhaseKnows c tape op (Proposes group n asked proposal promised) = Knows c tape op (at_place group n) asked proposal.round

-- the nodes about which it asked for other positions, and for this one
abbrev pub asked_before : Phase → List ℕ
asked_before (Reads group r) = r.asked
asked_before (Proposes group n asked proposal promised) = asked

abbrev pub asked_here : Phase → List ℕ
asked_here (Reads group r) = told_stage r.stage
asked_here (Proposes group n asked proposal promised) = told_of proposal.round

-- with messages that it is about to send
pub record Knowing (c : Cluster) (tape : List Item) (sends : List Message) (op : OpId) (phase : Phase) : Type 0 where
  pub knows : PhaseKnows c tape op phase
  pub quiet : (node : ℕ) → has node (asked_before phase) ≡ false → has node (asked_here phase) ≡ false → (has_asked_about tape op node ≡ false) × (asks_in sends op node ≡ false)

phase_on : (c : Cluster) (old new : List Item) → Earlier old new → (op : OpId) (phase : Phase) → PhaseKnows c old op phase → PhaseKnows c new op phase
phase_on c old new later op (Reads group r) k = stage_on c old new later op group r.asked r.stage k
phase_on c old new later op (Proposes group n asked proposal promised) k = knows_on c old new later op (at_place group n) asked proposal.round k

-- on a longer tape
pub knowing_on : (c : Cluster) (old new : List Item) (sends : List Message) (op : OpId) (phase : Phase) → Earlier old new
    → ((node : ℕ) → has_asked_about old op node ≡ false → asks_in sends op node ≡ false → has_asked_about new op node ≡ false) → Knowing c old sends op phase → Knowing c new [] op phase
knowing_on c old new sends op phase later still k = record {
  knows = phase_on c old new later op phase k.knows;
  quiet = λ node a b. let h = k.quiet node a b in (still node h.0 h.1, refl);
}

-- ---- numbers

less_not : (a b : ℕ) → a < b → a ≡ b → ⊥
less_not a b less same = omega (arith, less, same)

pub numbers_apart : (op x : OpId) → ((op.number ≡ x.number) → ⊥) → same_op op x ≡ false
numbers_apart op x other = by (same_op op x) refl
  where
    by : (t : Bool) → same_op op x ≡ t → t ≡ false
    by false e = refl
    by true e = absurd (other (ap (λ (y : OpId). y.number) (same_op_equal op x e)))

-- a message of this node; where it asks a cell about a node, it is of an operation that began here and has a lower number
pub record OwnDead (tape : List Item) (me k : ℕ) (op : OpId) : Type 0 where
  pub node : op.node.0 ≡ me
  pub below : op.number < k
  pub begun : has_begun tape op ≡ true

abbrev pub OwnBody : Cluster → List Item → ℕ → ℕ → Body → Type 0
OwnBody c tape me k (Dead op cell about) = OwnDead tape me k op
OwnBody c tape me k (Unheld op cell about) = is_cell c cell ≡ true
OwnBody c tape me k _ = Unit {0}

pub record Own (c : Cluster) (tape : List Item) (me k : ℕ) (m : Message) : Type 0 where
  pub from : m.from ≡ me
  pub body : OwnBody c tape me k m.body

own_more : (c : Cluster) (tape : List Item) (me k l : ℕ) → k ≤ l → (m : Message) → Own c tape me k m → Own c tape me l m
own_more c tape me k l le m o = record { from = o.from; body = by m.body o.body }
  where
    by : (body : Body) → OwnBody c tape me k body → OwnBody c tape me l body
    by (Dead op cell about) h = record { node = h.node; below = (let less = h.below in omega (arith, less, le)); begun = h.begun }
    by (Unheld op cell about) h = h
    by _ h = tt

own_mine : (c : Cluster) (tape : List Item) (me k : ℕ) (op : OpId) → op.node.0 ≡ me → op.number < k → has_begun tape op ≡ true → (m : Message) → Mine op m → Own c tape me k m
own_mine c tape me k op node below begun m h = record { from = h.from ∙ node; body = by m.body h.of }
  where
    by : (body : Body) → OfDead op body → OwnBody c tape me k body
    by (Unheld asking cell about) of = absurd of
    by (Dead asking cell about) of = record { node = ap (λ (x : OpId). x.node.0) of ∙ node; below = subst (λ (x : OpId). x.number < k) (sym of) below; begun = subst (λ x. has_begun tape x ≡ true) (sym of) begun }
    by _ of = tt

-- messages of operations with lower numbers ask nothing for a later one
below_silent : (c : Cluster) (tape : List Item) (me k : ℕ) (x : OpId) (node : ℕ) (ms : List Message) → k ≤ x.number → Each (Own c tape me k) ms → asks_in ms x node ≡ false
below_silent c tape me k x node [] le own = refl
below_silent c tape me k x node (m ∷ ms) le own = or_from (asks_about x node m.body) (asks_in ms x node) (by m.body (own.0).body) (below_silent c tape me k x node ms le own.1)
  where
    by : (body : Body) → OwnBody c tape me k body → asks_about x node body ≡ false
    by (Dead op cell about) h = and_left (same_op op x) (about.0 == node) (numbers_apart op x (less_not op.number x.number (let less = h.below in omega (arith, less, le))))
    by _ h = refl

-- ---- one operation acts

-- an operation that stays open, with a number below this one
pub record OpenBelow (c : Cluster) (tape : List Item) (sends : List Message) (me k : ℕ) (o : Operation) : Type 0 where
  pub node : (o.id).node.0 ≡ me
  pub below : (o.id).number < k
  pub begun : has_begun tape o.id ≡ true
  pub knowing : Knowing c tape sends o.id o.phase

-- those with lower numbers acted
pub record Acted (c : Cluster) (tape : List Item) (me k : ℕ) (now : Now) : Type 0 where
  pub kept : Each (OpenBelow c tape now.sends me k) now.kept
  pub own : Each (Own c tape me k) now.sends

-- and this one acts
pub record Acts (c : Cluster) (tape : List Item) (me : ℕ) (now : Now) (op : OpId) (phase : Phase) : Type 0 where
  pub kept : Each (OpenBelow c tape now.sends me op.number) now.kept
  pub own : Each (Own c tape me (op.number + 1)) now.sends
  pub node : op.node.0 ≡ me
  pub begun : has_begun tape op ≡ true
  pub knowing : Knowing c tape now.sends op phase

kept_more : (c : Cluster) (tape : List Item) (sends : List Message) (me k l : ℕ) → k ≤ l → (o : Operation) → OpenBelow c tape sends me k o → OpenBelow c tape sends me l o
kept_more c tape sends me k l le o h = record { node = h.node; below = (let less = h.below in omega (arith, less, le)); begun = h.begun; knowing = h.knowing }

next_of : (n : ℕ) → n < n + 1
next_of n = omega arith

next_most : (n : ℕ) → n ≤ n + 1
next_most n = omega arith

module _ (c : Cluster) (tape : List Item) (me : ℕ) where
  acts_keeps : (now : Now) (o : Operation) → Acts c tape me now o.id o.phase → Acted c tape me ((o.id).number + 1) (keeps now o)
  acts_keeps now o a = record {
    kept = each_push (OpenBelow c tape now.sends me ((o.id).number + 1)) now.kept o
        (each_on (OpenBelow c tape now.sends me (o.id).number) (OpenBelow c tape now.sends me ((o.id).number + 1)) (kept_more c tape now.sends me (o.id).number ((o.id).number + 1) (next_most (o.id).number)) now.kept a.kept)
        (record { node = a.node; below = next_of (o.id).number; begun = a.begun; knowing = a.knowing });
    own = a.own;
  }

  acts_ends : (now : Now) (o : Operation) (answer : Answer) → Acts c tape me now o.id o.phase → Acted c tape me ((o.id).number + 1) (ends now o.id answer)
  acts_ends now o answer a = record {
    kept = each_on (OpenBelow c tape now.sends me (o.id).number) (OpenBelow c tape now.sends me ((o.id).number + 1)) (kept_more c tape now.sends me (o.id).number ((o.id).number + 1) (next_most (o.id).number)) now.kept a.kept;
    own = a.own;
  }

  -- it sends messages of its own
  acts_sends : (now : Now) (op : OpId) (old new : Phase) (ms : List Message) → Acts c tape me now op old → PhaseKnows c tape op new
      → ((node : ℕ) → has node (asked_before new) ≡ false → has node (asked_here new) ≡ false → (has node (asked_before old) ≡ false) × (has node (asked_here old) ≡ false))
      → ((node : ℕ) → has node (asked_here new) ≡ false → asks_in ms op node ≡ false) → Each (Mine op) ms → Acts c tape me (sends_more now ms) op new
  acts_sends now op old new ms a knows told silent mine = record {
    kept = each_on (OpenBelow c tape now.sends me op.number) (OpenBelow c tape (now.sends ++ ms) me op.number) (λ o h. record {
      node = h.node;
      below = h.below;
      begun = h.begun;
      knowing = record {
        knows = (h.knowing).knows;
        quiet = λ node b d. let was = (h.knowing).quiet node b d in
            (was.0, asks_both now.sends ms o.id node was.1 (asks_apart op o.id node ms (numbers_apart op o.id (λ same. less_not (o.id).number op.number h.below (sym same))) mine));
      };
    }) now.kept a.kept;
    own = each_both (Own c tape me (op.number + 1)) now.sends ms a.own (each_on (Mine op) (Own c tape me (op.number + 1)) (own_mine c tape me (op.number + 1) op a.node (next_of op.number) a.begun) ms mine);
    node = a.node;
    begun = a.begun;
    knowing = record {
      knows = knows;
      quiet = λ node b d. let before = told node b d in let was = (a.knowing).quiet node before.0 before.1 in (was.0, asks_both now.sends ms op node was.1 (silent node d));
    };
  }

  acts_reads : (now : Now) (op : OpId) (before group : GroupId) (r : Reading) (t : ReadMove) → Acts c tape me now op (Reads before r) → ReadProceeds c tape op group r.asked (told_stage r.stage) t
      → Acts c tape me (sends_more now t.sends) op (Reads group t.reading)
  acts_reads now op before group r t a w = acts_sends now op (Reads before r) (Reads group t.reading) t.sends a w.knows w.told w.silent w.mine

  -- a read that begins after another
  begun_read : (op : OpId) (group : GroupId) (r : Reading) (t : ReadMove) → ReadProceeds c tape op group (asked_by r) [] t → ReadProceeds c tape op group r.asked (told_stage r.stage) t
  begun_read op group r t w = record { knows = w.knows; told = λ node a b. asked_of r node (w.told node a b).0; silent = w.silent; mine = w.mine }

-- an open operation of a node, on a tape
pub record OpenAt (c : Cluster) (tape : List Item) (me : ℕ) (o : Operation) : Type 0 where
  pub node : (o.id).node.0 ≡ me
  pub begun : has_begun tape o.id ≡ true
  pub knowing : Knowing c tape [] o.id o.phase

module _ (s : Setting) (tape : List Item) where
  abbrev ActsAt : Now → Operation → Type 0
  ActsAt now o = Acts s.cluster tape s.me now o.id o.phase

  abbrev ActedAt : OpId → Now → Type 0
  ActedAt op now = Acted s.cluster tape s.me (op.number + 1) now

  -- what holds as an operation begins
  abbrev BeginsAt : OpId → Now → Type 0
  BeginsAt id now = (clock : ℕ) → Acts s.cluster tape s.me now id (Reads no_group (first_reading clock))

  begins_proceeds : (now : Now) (o : Operation) (r : Reading) (group : GroupId) → ReadProceeds s.cluster tape o.id group (asked_by r) [] (read_begun s now o group (asked_by r))
  begins_proceeds now o r group = by (is_visited o group) (valid_at s.cluster now.met group)
    where
      by : (t u : Bool) → ReadProceeds s.cluster tape o.id group (asked_by r) [] (cond {A = ReadMove} t (polled_read (reader_of s o.id group) None (asked_by r) (clock_of now.met))
          (cond u (local_read (asked_by r) (top_of now.met group)) (polled_read (reader_of s o.id group) (serves_at s.cluster now.met) (asked_by r) (clock_of now.met))))
      by true u = polled_begun s.cluster tape o.id group None (asked_by r) (clock_of now.met)
      by false true = local_begun s.cluster tape o.id group (asked_by r) (top_of now.met group)
      by false false = polled_begun s.cluster tape o.id group (serves_at s.cluster now.met) (asked_by r) (clock_of now.met)

  validates_acts : (now : Now) (group : GroupId) (p : ℕ) (refusal : Option NotValid) (op : OpId) (phase : Phase) → Acts s.cluster tape s.me now op phase → Acts s.cluster tape s.me (validated_by now group p refusal) op phase
  validates_acts now group p None op phase a = record { kept = a.kept; own = a.own; node = a.node; begun = a.begun; knowing = a.knowing }
  validates_acts now group p (Some refusal) op phase a = a

  stores_acts : (now : Now) (stored : GroupId → ℕ) (op : OpId) (phase : Phase) → Acts s.cluster tape s.me now op phase
      → Acts s.cluster tape s.me (record { met = now.met; stored = stored; kept = now.kept; valid = now.valid; answers = now.answers; sends = now.sends }) op phase
  stores_acts now stored op phase a = record { kept = a.kept; own = a.own; node = a.node; begun = a.begun; knowing = a.knowing }

  completes_acts : (now : Now) (o : Operation) (group : GroupId) (noted : Option Epoch) (asked : List ℕ) (p : ℕ) (search : Option Search)
      → ActsAt now (in_phase o (Reads group (record { noted = noted; asked = asked; stage = Catching p search })))
      → ActsAt (completes_read s now group (record { noted = noted; asked = asked; stage = Catching p search }) p) (in_phase o (Reads group (record { noted = noted; asked = asked; stage = Catching p search })))
  completes_acts now o group None asked p search a = stores_acts now _ o.id (Reads group (record { noted = None; asked = asked; stage = Catching p search })) a
  completes_acts now o group (Some noted) asked p search a =
      validates_acts _ group p (refused_at s.cluster now.met group p noted) o.id (Reads group (record { noted = Some noted; asked = asked; stage = Catching p search }))
      (stores_acts now _ o.id (Reads group (record { noted = Some noted; asked = asked; stage = Catching p search })) a)

  visits_acts : (now : Now) (o : Operation) (before : GroupId) (r : Reading) (group : GroupId) (message : Option Enter) → Acts s.cluster tape s.me now o.id (Reads before r)
      → ActsAt (sends_more now (read_begun s now o group (asked_by r)).sends) (visiting o group message (read_begun s now o group (asked_by r)))
  visits_acts now o before r group message a = acts_reads s.cluster tape s.me now o.id before group r (read_begun s now o group (asked_by r)) a
      (begun_read s.cluster tape s.me o.id group r (read_begun s now o group (asked_by r)) (begins_proceeds now o r group))

  walks : Walks s BeginsAt ActedAt ActsAt
  walks = record {
    keeps_it = λ now o a. acts_keeps s.cluster tape s.me now o a;
    ends_it = λ now o answer a. acts_ends s.cluster tape s.me now o answer a;
    completes_it = λ now o group noted asked p search all a. completes_acts now o group noted asked p search a;
    seeks_it = λ now o group r least a. acts_reads s.cluster tape s.me now o.id group group r (seeks (reader_of s o.id group) r least (clock_of now.met)) a
        (seeks_read s.cluster tape o.id group r least (clock_of now.met) (a.knowing).knows);
    asks_it = λ now o group noted asked p search leader own promised a.
        let w = asks_proceeds s.cluster tape o.id (at_place group (p + 1)) (asked_by (caught noted asked p search)) leader own (clock_of now.met) in
        acts_sends s.cluster tape s.me now o.id (Reads group (caught noted asked p search))
        (Proposes group (p + 1) (asked_by (caught noted asked p search)) (asks (site (reader_of s o.id group) (asked_by (caught noted asked p search)) (p + 1)) leader own (clock_of now.met)).proposal promised)
        (asks (site (reader_of s o.id group) (asked_by (caught noted asked p search)) (p + 1)) leader own (clock_of now.met)).sends a w.knows (λ node b d. asked_of (caught noted asked p search) node b) w.silent w.mine;
    visits_it = visits_acts;
    first_it = λ now id request clock group message b. visits_acts now (new_operation id request clock) no_group (first_reading clock) group message (b clock);
    ends_first = λ now id answer b. acts_ends s.cluster tape s.me now (new_operation id Refresh 0) answer (b 0);
  }

  -- ---- one after another

  -- an operation that heard something, before its messages go out
  pub record Heeds (t : Heard) : Type 0 where
    pub node : ((t.operation).id).node.0 ≡ s.me
    pub begun : has_begun tape (t.operation).id ≡ true
    pub knowing : Knowing s.cluster tape t.sends (t.operation).id (t.operation).phase
    pub mine : Each (Mine (t.operation).id) t.sends

  acts_first : (k : ℕ) (now : Now) (t : Heard) → k ≤ ((t.operation).id).number → Acted s.cluster tape s.me k now → Heeds t → ActsAt (sends_more now t.sends) t.operation
  acts_first k now t le a h = record {
    kept = each_on (OpenBelow s.cluster tape now.sends s.me k) (OpenBelow s.cluster tape (now.sends ++ t.sends) s.me op.number) (λ o kept. record {
      node = kept.node;
      below = (let less = kept.below in omega (arith, less, le));
      begun = kept.begun;
      knowing = record {
        knows = (kept.knowing).knows;
        quiet = λ node b d. let was = (kept.knowing).quiet node b d in
            (was.0, asks_both now.sends t.sends o.id node was.1 (asks_apart op o.id node t.sends (numbers_apart op o.id (λ same. less_not (o.id).number op.number (let less = kept.below in omega (arith, less, le)) (sym same))) h.mine));
      };
    }) now.kept a.kept;
    own = each_both (Own s.cluster tape s.me (op.number + 1)) now.sends t.sends
        (each_on (Own s.cluster tape s.me k) (Own s.cluster tape s.me (op.number + 1)) (own_more s.cluster tape s.me k (op.number + 1) (omega (arith, le))) now.sends a.own)
        (each_on (Mine op) (Own s.cluster tape s.me (op.number + 1)) (own_mine s.cluster tape s.me (op.number + 1) op h.node (next_of op.number) h.begun) t.sends h.mine);
    node = h.node;
    begun = h.begun;
    knowing = record {
      knows = (h.knowing).knows;
      quiet = λ node b d. let was = (h.knowing).quiet node b d in (was.0, asks_both now.sends t.sends op node (below_silent s.cluster tape s.me k op node now.sends le a.own) was.1);
    };
  }
    where
      op : OpId
      op = (t.operation).id

  pub turn_acted : (k : ℕ) (now : Now) (t : Heard) → k ≤ ((t.operation).id).number → Acted s.cluster tape s.me k now → Heeds t → Acted s.cluster tape s.me (((t.operation).id).number + 1) (acts_in_turn s now t)
  turn_acted k now t le a h = goes_on_it s BeginsAt ActedAt ActsAt walks (sends_more now t.sends) t.operation (acts_first k now t le a h)

  -- those of a list acted, and all numbers are below some number
  pub record AllActed (now : Now) : Type 0 where
    pub k : ℕ
    pub acted : Acted s.cluster tape s.me k now

  abbrev pub Opens : Operation → Type 0
  Opens o = OpenAt s.cluster tape s.me o

  -- ---- hearing

  heard_by : (clock : ℕ) (m : Message) (o : Operation) (phase : Phase) → (o.id).node.0 ≡ s.me → has_begun tape o.id ≡ true → Knowing s.cluster tape [] o.id phase → Took tape (message m.from (o.id).node.0 m.body)
      → Heeds (hears_message s clock m (record { id = o.id; request = o.request; began = o.began; visited = o.visited; message = o.message; phase = phase }))
  heard_by clock m o (Reads group r) node begun k took =
      let w = hears_read s.cluster tape o.id group r m.from clock m.body k.knows (λ n a b. (k.quiet n a b).0) took in record {
        node = node;
        begun = begun;
        knowing = record { knows = w.knows; quiet = λ n a b. let before = w.told n a b in ((k.quiet n before.0 before.1).0, w.silent n b) };
        mine = w.mine;
      }
  heard_by clock m o (Proposes group n asked proposal promised) node begun k took =
      let w = takes_proceeds s.cluster tape o.id (at_place group n) asked proposal m.from clock m.body k.knows (λ other a b. (k.quiet other a b).0) took in record {
        node = node;
        begun = begun;
        knowing = record { knows = w.knows; quiet = λ other a b. ((k.quiet other a (w.told other b)).0, w.silent other b) };
        mine = w.mine;
      }

  pub hears_heeds : (clock : ℕ) (m : Message) (o : Operation) → Took tape (message m.from s.me m.body) → Opens o → Heeds (hears_message s clock m o)
  hears_heeds clock m o took h = heard_by clock m o o.phase h.node h.begun h.knowing (subst (λ to. Took tape (message m.from to m.body)) (sym h.node) took)

  due_by : (clock : ℕ) (o : Operation) (phase : Phase) → (o.id).node.0 ≡ s.me → has_begun tape o.id ≡ true → Knowing s.cluster tape [] o.id phase
      → Heeds (does_due s clock (record { id = o.id; request = o.request; began = o.began; visited = o.visited; message = o.message; phase = phase }))
  due_by clock o (Reads group r) node begun k =
      let w = falls_due_read s.cluster tape o.id group r s.cluster.retry clock k.knows in record {
        node = node;
        begun = begun;
        knowing = record { knows = w.knows; quiet = λ n a b. let before = w.told n a b in ((k.quiet n before.0 before.1).0, w.silent n b) };
        mine = w.mine;
      }
  due_by clock o (Proposes group n asked proposal promised) node begun k =
      let w = due_proceeds s.cluster tape o.id (at_place group n) asked proposal s.cluster.retry clock k.knows in record {
        node = node;
        begun = begun;
        knowing = record { knows = w.knows; quiet = λ other a b. ((k.quiet other a (w.told other b)).0, w.silent other b) };
        mine = w.mine;
      }

  pub due_heeds : (clock : ℕ) (o : Operation) → Opens o → Heeds (does_due s clock o)
  due_heeds clock o h = due_by clock o o.phase h.node h.begun h.knowing

  -- an operation keeps its name as it hears, and as it does what is due
  heard_name : (clock : ℕ) (m : Message) (o : Operation) (phase : Phase)
      → ((hears_message s clock m (record { id = o.id; request = o.request; began = o.began; visited = o.visited; message = o.message; phase = phase })).operation).id ≡ o.id
  heard_name clock m o (Reads group r) = refl
  heard_name clock m o (Proposes group n asked proposal promised) = refl

  due_name : (clock : ℕ) (o : Operation) (phase : Phase)
      → ((does_due s clock (record { id = o.id; request = o.request; began = o.began; visited = o.visited; message = o.message; phase = phase })).operation).id ≡ o.id
  due_name clock o (Reads group r) = refl
  due_name clock o (Proposes group n asked proposal promised) = refl

  named_acted : (k : ℕ) (now : Now) (t : Heard) (id : OpId) → (t.operation).id ≡ id → k ≤ id.number → Acted s.cluster tape s.me k now → Heeds t → Acted s.cluster tape s.me (id.number + 1) (acts_in_turn s now t)
  named_acted k now t id same le a h = subst (λ (x : OpId). Acted s.cluster tape s.me (x.number + 1) (acts_in_turn s now t)) same (turn_acted k now t (subst (λ (x : OpId). k ≤ x.number) (sym same) le) a h)

  acted_more : (k l : ℕ) (now : Now) → k ≤ l → Acted s.cluster tape s.me k now → Acted s.cluster tape s.me l now
  acted_more k l now le a = record {
    kept = each_on (OpenBelow s.cluster tape now.sends s.me k) (OpenBelow s.cluster tape now.sends s.me l) (kept_more s.cluster tape now.sends s.me k l le) now.kept a.kept;
    own = each_on (Own s.cluster tape s.me k) (Own s.cluster tape s.me l) (own_more s.cluster tape s.me k l le) now.sends a.own;
  }

  pub all_heard_acted : (clock : ℕ) (m : Message) → Took tape (message m.from s.me m.body) → (os : List Operation) (k : ℕ) (now : Now) → IsRising k os → Each Opens os → Acted s.cluster tape s.me k now
      → AllActed (all_act s now (map (hears_message s clock m) os))
  all_heard_acted clock m took [] k now rising opens a = record { k = k; acted = a }
  all_heard_acted clock m took (o ∷ os) k now rising opens a =
      all_heard_acted clock m took os ((o.id).number + 1) (acts_in_turn s now (hears_message s clock m o)) rising.1 opens.1
      (named_acted k now (hears_message s clock m o) o.id (heard_name clock m o o.phase) rising.0 a (hears_heeds clock m o took opens.0))

  out_acted : (k : ℕ) (now : Now) (o : Operation) (answer : Answer) → k ≤ (o.id).number → Acted s.cluster tape s.me k now → Acted s.cluster tape s.me ((o.id).number + 1) (ends now o.id answer)
  out_acted k now o answer le a = let more = acted_more k ((o.id).number + 1) now (omega (arith, le)) a in record { kept = more.kept; own = more.own }

  ticked_acted : (clock k : ℕ) (now : Now) (o : Operation) → k ≤ (o.id).number → Acted s.cluster tape s.me k now → Opens o → Acted s.cluster tape s.me ((o.id).number + 1) (ticked s clock now o)
  ticked_acted clock k now o le a h = by (is_out s clock o)
    where
      by : (t : Bool) → Acted s.cluster tape s.me ((o.id).number + 1) (cond t (ends now o.id (last_answer o)) (acts_in_turn s now (does_due s clock o)))
      by true = out_acted k now o (last_answer o) le a
      by false = named_acted k now (does_due s clock o) o.id (due_name clock o o.phase) le a (due_heeds clock o h)

  pub all_ticked_acted : (clock : ℕ) (os : List Operation) (k : ℕ) (now : Now) → IsRising k os → Each Opens os → Acted s.cluster tape s.me k now → AllActed (fold (ticked s clock) now os)
  all_ticked_acted clock [] k now rising opens a = record { k = k; acted = a }
  all_ticked_acted clock (o ∷ os) k now rising opens a =
      all_ticked_acted clock os ((o.id).number + 1) (ticked s clock now o) rising.1 opens.1 (ticked_acted clock k now o rising.0 a opens.0)

  -- ---- beginning

  pub begins_acted : (now : Now) (id : OpId) (request : Request) (clock : ℕ) (refusal : Option Answer) → id.node.0 ≡ s.me → has_begun tape id ≡ true → now.sends ≡ []
      → (refusal ≡ None → Each (OpenBelow s.cluster tape now.sends s.me id.number) now.kept) → (refusal ≡ None → (node : ℕ) → has_asked_about tape id node ≡ false)
      → ((answer : Answer) → AllActed (ends now id answer)) → AllActed (unless_refused s now (new_operation id request clock) refusal)
  begins_acted now id request clock None node begun silent kept quiet ended =
      record {
        k = id.number + 1;
        acted = begun_it s BeginsAt ActedAt ActsAt walks now id clock request None (λ none. λ first. record {
          kept = kept none;
          own = subst (Each (Own s.cluster tape s.me (id.number + 1))) (sym silent) tt;
          node = node;
          begun = begun;
          knowing = record { knows = tt; quiet = λ other a b. (quiet none other, ap (λ ms. asks_in ms id other) silent) };
        }) (λ answer. absurd_acted answer);
      }
    where
      absurd_acted : (answer : Answer) → Acted s.cluster tape s.me (id.number + 1) (ends now id answer)
      absurd_acted answer = record {
        kept = each_on (OpenBelow s.cluster tape now.sends s.me id.number) (OpenBelow s.cluster tape now.sends s.me (id.number + 1)) (kept_more s.cluster tape now.sends s.me id.number (id.number + 1) (next_most id.number)) now.kept (kept refl);
        own = subst (Each (Own s.cluster tape s.me (id.number + 1))) (sym silent) tt;
      }
  begins_acted now id request clock (Some answer) node begun silent kept quiet ended = ended answer
