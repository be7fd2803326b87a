-- What an open operation sends as it hears a message, or as it does what is due: of entries with its own id it proposes only what it proposed before.
use Rattle.std.proofs.Common.{◌≡◌, ◌⊎◌, inl, inr, ℕ, ◌+◌, List, [], ◌∷◌, Option, Some, sym, ap, ◌∙◌, subst}
use Rattle.std.specs.List.{cons_option}
use Rattle.mega_base.specs.declared.names.GroupId.{GroupId}
use Rattle.mega_base.specs.declared.names.OpId.{OpId}
use Rattle.mega_ballot.specs.declared.ballot.Ballot.{Ballot}
use Rattle.mega_ballot.specs.Order.{zero_ballot}
use Rattle.mega_entry.specs.declared.content.Content.{Content}
use Rattle.mega_entry.specs.declared.content.Enter.{Enter}
use Rattle.mega_outcome.specs.declared.request.Request.{Request}
use Rattle.mega_wire.specs.declared.message.Message.{Message}
use Rattle.mega_wire.specs.declared.message.Body.{Body}
use Rattle.mega_wire.specs.declared.message.Body.TheVariants.{Accept}
use Rattle.mega_run_laws.specs.of_transcript.declared.item.Item.{Item}
use Rattle.mega_run_laws.specs.of_transcript.declared.item.Item.TheVariants.{Decide, Sent}
use Rattle.mega_run_laws.specs.of_promises.Items.{number}
use Rattle.mega_run_laws.specs.of_promises.Promises.{Stands}
use Rattle.mega_run_laws.specs.of_rules.of_read.of_propose.Rounds.{due, takes}
use Rattle.mega_run_laws.specs.of_rules.of_read.Catching.{falls_due, hears}
use Rattle.mega_run_laws.specs.of_rules.Met.{Met}
use Rattle.mega_run_laws.specs.of_rules.Operations.{Operation, Phase, Proposes, Reads, Setting}
use Rattle.mega_run_laws.specs.of_rules.Steps.{does_due, hears_message}
use Rattle.mega_run_laws.specs.of_tape_laws.Lawful.{Lawful, message}
use Rattle.mega_run_laws.specs.of_tape_laws.Places.{In, Move, Place, Proposes as ProposesMove, Took, move_in, moves}
use Rattle.mega_run_laws.specs.of_tape_laws.Writes.{AreWritten, Usage}
use Rattle.mega_run_laws.proofs.of_tape_laws.Lists.{in_head}
use Rattle.mega_run_laws.proofs.of_tape_laws.Made.{proposed_here}
use Rattle.mega_run_laws.proofs.of_tape_laws.Origins.{id_is, origin}
use Rattle.mega_run_laws.specs.Justified.{AreOfRound, Each, OfRound, here, sent}
use Rattle.mega_run_laws.proofs.Opened.{AreOfOp, OfOp, at_place}
use Rattle.mega_run_laws.proofs.Owned.{Context, Users}
use Rattle.mega_run_laws.proofs.Reading.{falls_due_acts, hears_acts, who}
use Rattle.mega_run_laws.proofs.Said.{SaysIt as SaysOfRound, Says as OfRoundSays, Speaks, WasProposed, due_speaks, takes_speaks}
use Rattle.mega_run_laws.proofs.Turns.{Held, Known, each_zip}
use Rattle.mega_run_laws.proofs.Written.{Unproposed, moved_on}
use Rattle.mega_run_laws.proofs.Wrote.{falls_due_wrote, hears_wrote}
use Rattle.mega_handled_laws.proofs.Made.{IsProposed, SaysIt}

-- whoever uses a store so that texts mean their requests
abbrev pub those_of : Usage → Users
those_of usage = record { usage = usage; fits = Unit {0} }

module _ (s : Setting) (usage : Usage) (tape : List Item) (log : GroupId → List Content) where
  abbrev pub Says : Message → Type 0
  Says m = SaysIt s.cluster s.handlers tape log s.me m.from m.body

  -- ---- a read

  -- what proposes nothing with the operation's id
  one_unsaid : (op : OpId) (from : ℕ) (body : Body) (before : Place → List Move) → OfOp op body
      → ((q : Place) (b : Ballot) (e : Content) → In (ProposesMove b e) (cons_option (move_in op q body) (before q)) → e.id ≡ Some op → ⊥) → SaysIt s.cluster s.handlers tape log s.me from body
  one_unsaid op from (Accept o g n b e) before of none = λ id. absurd (none p b e (in_head (move_in op p (Accept o g n b e)) (before p) (ProposesMove b e) here_is) (id ∙ ap Some of))
    where
      p : Place
      p = record { group = g; position = n }

      here_is : move_in op p (Accept o g n b e) ≡ Some (ProposesMove b e)
      here_is = ap (λ x. move_in op p (Accept x g n b e)) of ∙ proposed_here op p b e
  one_unsaid op from _ before of none = tt

  unsaid : (op : OpId) (n : ℕ) (ms : List Message) (before : List Item) → Unproposed (sent n ms before) op → AreOfOp op ms → Each Says ms
  unsaid op n [] before none of = tt
  unsaid op n (m ∷ ms) before none of = (
    one_unsaid op m.from m.body (λ q. moves before op q) of.0 (λ q b e i. none q b e (moved_on (n + 1) ms (Sent n m ∷ before) op q (ProposesMove b e) i)),
    unsaid op (n + 1) ms (Sent n m ∷ before) none of.1,
  )

  -- ---- a round of the operation's own entry

  module _ (w : AreWritten s.cluster.schema usage tape) where
    round_says : (op : OpId) (p : Place) (mine : Content) → In (ProposesMove zero_ballot mine) (moves tape op p) → (from : ℕ) (body : Body) → OfRound op p body → SaysOfRound tape op p mine from body
        → SaysIt s.cluster s.handlers tape log s.me from body
    round_says op p mine at from (Accept o g n b e) of says = λ id. inl (by says.1 id)
      where
        by : (e ≡ mine) ⊎ WasProposed tape p e → e.id ≡ Some o → IsProposed tape o (record { group = g; position = n }) e
        by (inl same) id = record { ballot = zero_ballot; stands = coe 0 1 (i. In (ProposesMove zero_ballot (sym same i)) (moves tape (sym of.0 i) (sym of.1 i))) at }
        by (inr was) id =
            let r = origin s.cluster.schema usage tape w was.op p was.ballot e was.stands in
            let same : r.op ≡ o = id_is s.cluster.schema usage tape r.op p.group r.below e r.entry o id in
            record { ballot = r.ballot; stands = coe 0 1 (i. In (ProposesMove r.ballot e) (moves tape (same i) (sym of.1 i))) r.stands }
    round_says op p mine at from _ of says = tt

    all_round : (op : OpId) (p : Place) (mine : Content) → In (ProposesMove zero_ballot mine) (moves tape op p) → (ms : List Message) → AreOfRound op p ms → Each (OfRoundSays tape op p mine) ms → Each Says ms
    all_round op p mine at ms of says =
        each_zip (λ (m : Message). OfRound op p m.body) (OfRoundSays tape op p mine) Says (λ m a b. round_says op p mine at m.from m.body a b) ms of says

    module _ (lawful : Lawful s.cluster tape) (st k : ℕ) (met : List Met) (known : Known s.me met tape) where
      context : (o : Operation) → Held (those_of usage) s.cluster tape s.me st k met o → Unproposed tape o.id → Context s.cluster usage tape met o.id
      context o held none = record {
        lawful = lawful;
        written = w;
        known = λ g n e d. subst (λ v. Stands (Decide (number v) g (record { 0 = n }) e) tape) (sym held.node) (known g n e d);
        named = held.named;
        none = none;
      }

      abbrev pub OnNode : OpId → Type 0
      OnNode op = op.node.0 ≡ s.me

      heard_by : (clock : ℕ) (m : Message) (id : OpId) (request : Request) (began : ℕ) (visited : List GroupId) (posted : Option Enter) (phase : Phase)
          → Held (those_of usage) s.cluster tape s.me st k met (record { id = id; request = request; began = began; visited = visited; message = posted; phase = phase }) → Took tape (message m.from id.node.0 m.body)
          → OnNode ((hears_message s clock m (record { id = id; request = request; began = began; visited = visited; message = posted; phase = phase })).operation).id
          × Each Says (hears_message s clock m (record { id = id; request = request; began = began; visited = visited; message = posted; phase = phase })).sends
      heard_by clock m id request began visited posted (Reads group r) held took = (
        held.node,
        unsaid id 0 (hears (who s.cluster id group) r m.from clock m.body).sends tape
            ((hears_wrote s.cluster usage tape met id group r m.from clock m.body (context _ held ((held.owned tt).mine).none) held.backed ((held.owned tt).mine).plain took).none 0)
            (hears_acts s.cluster tape met id group r m.from clock m.body held.backed held.idle took).own,
      )
      heard_by clock m id request began visited posted (Proposes group n asked proposal promised) held took = (
        held.node,
        all_round id (at_place group n) proposal.own ((held.owned tt).mine).at (takes (here s.cluster id (at_place group n) asked) proposal m.from clock m.body).sends speaks.of speaks.says,
      )
        where
          speaks : Speaks tape id (at_place group n) proposal.own (takes (here s.cluster id (at_place group n) asked) proposal m.from clock m.body)
          speaks = takes_speaks s.cluster tape lawful id (at_place group n) asked proposal m.from clock m.body held.backed took

      pub heard_says : (clock : ℕ) (m : Message) (o : Operation) → Took tape (message m.from s.me m.body) → Held (those_of usage) s.cluster tape s.me st k met o
          → OnNode ((hears_message s clock m o).operation).id × Each Says (hears_message s clock m o).sends
      heard_says clock m o took held = heard_by clock m o.id o.request o.began o.visited o.message o.phase held (subst (λ v. Took tape (message m.from v m.body)) (sym held.node) took)

      due_by : (clock : ℕ) (id : OpId) (request : Request) (began : ℕ) (visited : List GroupId) (posted : Option Enter) (phase : Phase)
          → Held (those_of usage) s.cluster tape s.me st k met (record { id = id; request = request; began = began; visited = visited; message = posted; phase = phase })
          → OnNode ((does_due s clock (record { id = id; request = request; began = began; visited = visited; message = posted; phase = phase })).operation).id
          × Each Says (does_due s clock (record { id = id; request = request; began = began; visited = visited; message = posted; phase = phase })).sends
      due_by clock id request began visited posted (Reads group r) held = (
        held.node,
        unsaid id 0 (falls_due (who s.cluster id group) r s.cluster.retry clock).sends tape
            ((falls_due_wrote s.cluster usage tape met id group r s.cluster.retry clock (context _ held ((held.owned tt).mine).none) held.backed ((held.owned tt).mine).plain).none 0)
            (falls_due_acts s.cluster tape met id group r s.cluster.retry clock held.backed held.idle).own,
      )
      due_by clock id request began visited posted (Proposes group n asked proposal promised) held = (
        held.node,
        all_round id (at_place group n) proposal.own ((held.owned tt).mine).at (due (here s.cluster id (at_place group n) asked) proposal s.cluster.retry clock).sends speaks.of speaks.says,
      )
        where
          speaks : Speaks tape id (at_place group n) proposal.own (due (here s.cluster id (at_place group n) asked) proposal s.cluster.retry clock)
          speaks = due_speaks s.cluster tape id (at_place group n) asked proposal s.cluster.retry clock

      pub due_says : (clock : ℕ) (o : Operation) → Held (those_of usage) s.cluster tape s.me st k met o → OnNode ((does_due s clock o).operation).id × Each Says (does_due s clock o).sends
      due_says clock o held = due_by clock o.id o.request o.began o.visited o.message o.phase held
