-- All operations of a step act, one after another, and each does only what is allowed.
use Rattle.std.proofs.Common.{◌≡◌, ℕ, ◌+◌, ◌≤◌, max, Bool, true, false, cond, List, [], ◌∷◌, map, fold, Option, Some, None, refl, sym, subst, arith, ◌<◌, ◌++◌, inr, flat_map, ap, ◌∙◌, length}
use Rattle.mega_base.specs.declared.names.GroupId.{GroupId}
use Rattle.mega_base.specs.declared.names.OpId.{OpId}
use Rattle.mega_entry.specs.declared.content.Enter.{Enter}
use Rattle.mega_wire.specs.declared.message.Message.{Message}
use Rattle.mega_tape_laws.specs.of_transcript.declared.item.Item.{Item}
use Rattle.mega_outcome.specs.declared.answer.Answer.{Answer}
use Rattle.mega_outcome.specs.declared.request.Mode.{Mode}
use Rattle.mega_outcome.specs.declared.request.Mode.TheVariants.{Current, Snapshot, Inconsistent}
use Rattle.mega_outcome.specs.declared.request.Request.{Request}
use Rattle.mega_outcome.specs.declared.request.Request.TheVariants.{Txn, Batch as BatchRequest, Read, Find, PumpEnter, PumpHandle, Refresh}
use Rattle.mega_outcome.specs.declared.request.ReadRequest.{ReadRequest}
use Rattle.mega_outcome.specs.declared.request.FindRequest.{FindRequest}
use Rattle.mega_tape_laws.specs.of_read.of_propose.declared.round.Move.{Move as RoundMove}
use Rattle.mega_tape_laws.specs.of_read.of_propose.declared.round.Proposal.{Proposal}
use Rattle.mega_tape_laws.specs.of_read.of_propose.Rounds.{due, takes}
use Rattle.mega_tape_laws.specs.of_read.declared.reading.Move.{Move as ReadMove}
use Rattle.mega_tape_laws.specs.of_read.Catching.{falls_due, hears}
use Rattle.mega_ballot.specs.Order.{zero_ballot}
use Rattle.mega_cluster.specs.declared.cluster.Cluster.{Cluster}
use Rattle.mega_coordinator.specs.declared.answers.NotValid.{NotValid}
use Rattle.mega_tape_laws.specs.of_rules.Met.{Answers, Met, Validates}
use Rattle.mega_tape_laws.specs.of_rules.Logs.{groups_of}
use Rattle.mega_tape_laws.specs.of_rules.Operations.{Now, Operation, Phase, Proposes, Reads, Setting}
use Rattle.mega_tape_laws.specs.of_rules.Acting.{ends, sends_more, validated_by}
use Rattle.mega_tape_laws.specs.of_rules.Steps.{Heard, acts_first, acts_in_turn, all_act, applied_position, does_due, find_begins, hears_message, is_current, is_out, last_answer, local_find_begins, read_begins, snapshot_listed, stored_listed, ticked, unless_refused}
use Rattle.mega_tape_laws.specs.Places.{In, Place, Proposes as ProposesMove, Took, moves}
use Rattle.mega_tape_laws.specs.Writes.{AreWritten, Usage, again}
use Rattle.mega_run_laws.specs.Usages.{Brought}
use Rattle.mega_run_laws.proofs.Owned.{Began, Users, began_on, serves_on, began_asked}
use Rattle.mega_tape_laws.specs.of_rules.Finding.{group_bytes, group_marks, refreshed_marks, rows_through}
use Rattle.mega_index.specs.Fits.{numbered}
use Rattle.mega_tape_laws.specs.of_promises.Promises.{asked_for}
use Rattle.mega_entry.specs.declared.content.Content.{Content}
use Rattle.mega_tape_laws.specs.Answers.{has_failed}
use Rattle.mega_run_laws.proofs.Causes.{Given, IsGiven, keeps_to}
use Rattle.mega_run_laws.proofs.Causing.{found_cause, read_cause}
use Rattle.mega_run_laws.proofs.Said.{Speaks, due_speaks, takes_speaks}
use Rattle.mega_run_laws.proofs.Written.{Unproposed, moved_on, said_written}
use Rattle.mega_run_laws.proofs.Wrote.{WroteBy, falls_due_wrote, hears_wrote}
use Rattle.mega_tape_laws.specs.Lawful.{message}
use Rattle.mega_run_laws.specs.Justified.{Each, here, sent}
use Rattle.mega_run_laws.proofs.Sending.{stood_sent, took_on}
use Rattle.mega_run_laws.proofs.Rounds.{due_goes, takes_goes}
use Rattle.mega_run_laws.proofs.Opened.{Acts, Backed, Beside, Grew, Idle, acts_round, at_place, place_is, place_of, same_met}
use Rattle.mega_run_laws.proofs.Reading.{falls_due_acts, hears_acts, who}
use Rattle.mega_run_laws.proofs.Turns.{AnsweredBelow, Fine, Frame, Held, IsApart, IsOpen, IsRising, answered_more, could_more, could_not, each_on, each_push, each_zip, fine_turn, held_on, other_number, ready_sends, same_tape, tape_of, turn_ends}
use Rattle.mega_run_laws.proofs.Prefixes.{prefix_more}
use Rattle.mega_run_laws.proofs.Noting.{Lasts, goes_on_it, ticked_it}
use Rattle.mega_run_laws.proofs.Acting.{Asks, FreeAt, Leads, ReadyAt, TurnAt, begins_read_done, goes_on_done, picks_to_enter_done, picks_to_handle_done, reading_ends, rests_done, turn_context}

-- ---- what one operation hears, and what is due

pub hears_message_acts : (s : Setting) (tape : List Item) (met : List Met) (now : ℕ) (m : Message) (id : OpId) (request : Request) (began : ℕ) (visited : List GroupId) (posted : Option Enter) (phase : Phase)
    → Backed s.cluster tape met id phase → Idle tape met id (place_of phase) → Took tape (message m.from id.node.0 m.body)
    → Acts s.cluster tape met id (hears_message s now m (record { id = id; request = request; began = began; visited = visited; message = posted; phase = phase })).operation.phase
    (hears_message s now m (record { id = id; request = request; began = began; visited = visited; message = posted; phase = phase })).sends
hears_message_acts s tape met now m id request began visited posted (Reads group r) b idle took = hears_acts s.cluster tape met id group r m.from now m.body b idle took
hears_message_acts s tape met now m id request began visited posted (Proposes group n asked proposal promised) b idle took =
    acts_round s.cluster tape met id (at_place group n) (takes (here s.cluster id (at_place group n) asked) proposal m.from now m.body)
    (Proposes group n asked (takes (here s.cluster id (at_place group n) asked) proposal m.from now m.body).proposal promised) (Some (at_place group n))
    (takes_goes s.cluster tape id (at_place group n) asked proposal m.from now m.body b took) refl (λ new v. v) idle (λ q e. place_is (at_place group n) q e)

pub does_due_acts : (s : Setting) (tape : List Item) (met : List Met) (now : ℕ) (id : OpId) (request : Request) (began : ℕ) (visited : List GroupId) (posted : Option Enter) (phase : Phase)
    → Backed s.cluster tape met id phase → Idle tape met id (place_of phase)
    → Acts s.cluster tape met id (does_due s now (record { id = id; request = request; began = began; visited = visited; message = posted; phase = phase })).operation.phase
    (does_due s now (record { id = id; request = request; began = began; visited = visited; message = posted; phase = phase })).sends
does_due_acts s tape met now id request began visited posted (Reads group r) b idle = falls_due_acts s.cluster tape met id group r s.cluster.retry now b idle
does_due_acts s tape met now id request began visited posted (Proposes group n asked proposal promised) b idle =
    acts_round s.cluster tape met id (at_place group n) (due (here s.cluster id (at_place group n) asked) proposal s.cluster.retry now)
    (Proposes group n asked (due (here s.cluster id (at_place group n) asked) proposal s.cluster.retry now).proposal promised) (Some (at_place group n))
    (due_goes s.cluster tape id (at_place group n) asked proposal s.cluster.retry now b) refl (λ new v. v) idle (λ q e. place_is (at_place group n) q e)

same_id_heard : (s : Setting) (now : ℕ) (m : Message) (id : OpId) (request : Request) (began : ℕ) (visited : List GroupId) (posted : Option Enter) (phase : Phase)
    → (hears_message s now m (record { id = id; request = request; began = began; visited = visited; message = posted; phase = phase })).operation.id ≡ id
same_id_heard s now m id request began visited posted (Reads group r) = refl
same_id_heard s now m id request began visited posted (Proposes group n asked proposal promised) = refl

same_id_due : (s : Setting) (now : ℕ) (id : OpId) (request : Request) (began : ℕ) (visited : List GroupId) (posted : Option Enter) (phase : Phase)
    → (does_due s now (record { id = id; request = request; began = began; visited = visited; message = posted; phase = phase })).operation.id ≡ id
same_id_due s now id request began visited posted (Reads group r) = refl
same_id_due s now id request began visited posted (Proposes group n asked proposal promised) = refl

-- ---- one after another

abbrev pub FineAt : Users → Setting → Frame → ℕ → Now → Type 0
FineAt users s f k now = Fine users s.cluster f k now.met now.kept now.answers now.sends

-- an operation that did not act yet is as it was on the tape before
ready_first : (users : Users) → (s : Setting) → (users.fits → Brought users.usage s.handlers) → (f : Frame) (k l : ℕ) (now : Now) (met : List Met) (o : Operation) → FineAt users s f k now → k ≤ (o.id).number → Grew met now.met → has_failed f.early o.id ≡ false → Held users s.cluster f.base f.me f.start l met o → ReadyAt users s f now o
ready_first users s brought f k l now met o fine le grew unfailed h =
    let on = held_on users s.cluster f.base (tape_of f now.sends) f.me f.start l l met now.met o beside grew (omega arith) h in
    record { turn = fine_turn users s.cluster f k now.met now.kept now.answers now.sends o.id fine le h.node h.start h.named unfailed; owned = on.owned; backed = on.backed; idle = on.idle }
  where
    beside : Beside o.id f.base (tape_of f now.sends)
    beside = record { stood = stood_sent f.next now.sends f.base; moved = λ q. fine.later o.id (could_not f.me f.start k o.id le) q }

-- what an operation sends that proposes is written, and it proposed its own entry
proposing_written : (users : Users) → (c : Cluster) (tape : List Item) (id : OpId) (p : Place) (proposal : Proposal) (t : RoundMove) → Speaks tape id p proposal.own t → In (ProposesMove zero_ballot proposal.own) (moves tape id p)
    → AreWritten c.schema users.usage tape → (n : ℕ) → AreWritten c.schema users.usage (sent n t.sends tape)
proposing_written users c tape id p proposal t s i w n = said_written c.schema users.usage tape id p proposal.own n t.sends s.says s.of (again id zero_ballot i) w

proposing_mine : (tape : List Item) (id : OpId) (p : Place) (proposal : Proposal) (t : RoundMove) → Speaks tape id p proposal.own t → In (ProposesMove zero_ballot proposal.own) (moves tape id p)
    → (n : ℕ) → In (ProposesMove zero_ballot (t.proposal).own) (moves (sent n t.sends tape) id p)
proposing_mine tape id p proposal t s i n = subst (λ e. In (ProposesMove zero_ballot e) (moves (sent n t.sends tape) id p)) (sym s.own) (moved_on n t.sends tape id p (ProposesMove zero_ballot proposal.own) i)

hears_ready : (users : Users) → (s : Setting) → (users.fits → Brought users.usage s.handlers) → (f : Frame) (now : Now) (clock : ℕ) (m : Message) (id : OpId) (request : Request) (began : ℕ) (visited : List GroupId) (posted : Option Enter) (phase : Phase)
    → ReadyAt users s f now (record { id = id; request = request; began = began; visited = visited; message = posted; phase = phase }) → Took f.base (message m.from id.node.0 m.body)
    → ReadyAt users s f (sends_more now (hears_message s clock m (record { id = id; request = request; began = began; visited = visited; message = posted; phase = phase })).sends)
    (hears_message s clock m (record { id = id; request = request; began = began; visited = visited; message = posted; phase = phase })).operation
hears_ready users s brought f now clock m id request began visited posted (Reads group r) h took =
    ready_sends users s.cluster f now.met now.kept now.answers now.sends _ _ h.turn (hears_message_acts s (tape_of f now.sends) now.met clock m id request began visited posted (Reads group r) h.backed h.idle
    (took_on f.base (tape_of f now.sends) (stood_sent f.next now.sends f.base) _ took))
    (λ fits n. (wrote fits).written n)
    (λ fits n. record {
      began = began_on users.usage (tape_of f now.sends) (sent n t.sends (tape_of f now.sends)) id request (stood_sent n t.sends (tape_of f now.sends)) (h.owned fits).began;
      mine = record { none = (wrote fits).none n; plain = (wrote fits).plain; serves = serves_on (tape_of f now.sends) (sent n t.sends (tape_of f now.sends)) id request posted group (stood_sent n t.sends (tape_of f now.sends)) ((h.owned fits).mine).serves };
    })
  where
    t : ReadMove
    t = hears (who s.cluster id group) r m.from clock m.body

    wrote : users.fits → WroteBy s.cluster users.usage (tape_of f now.sends) id t
    wrote fits = hears_wrote s.cluster users.usage (tape_of f now.sends) now.met id group r m.from clock m.body (turn_context users s.cluster f now.met now.kept now.answers now.sends id h.turn fits ((h.owned fits).mine).none) h.backed ((h.owned fits).mine).plain
        (took_on f.base (tape_of f now.sends) (stood_sent f.next now.sends f.base) _ took)
hears_ready users s brought f now clock m id request began visited posted (Proposes group n asked proposal promised) h took =
    ready_sends users s.cluster f now.met now.kept now.answers now.sends _ _ h.turn (hears_message_acts s (tape_of f now.sends) now.met clock m id request began visited posted (Proposes group n asked proposal promised) h.backed h.idle
    (took_on f.base (tape_of f now.sends) (stood_sent f.next now.sends f.base) _ took))
    (λ fits k. proposing_written users s.cluster (tape_of f now.sends) id (at_place group n) proposal t speaks ((h.owned fits).mine).at ((h.turn).written fits) k)
    (λ fits k. record {
      began = began_on users.usage (tape_of f now.sends) (sent k t.sends (tape_of f now.sends)) id request (stood_sent k t.sends (tape_of f now.sends)) (h.owned fits).began;
      mine = record {
        at = proposing_mine (tape_of f now.sends) id (at_place group n) proposal t speaks ((h.owned fits).mine).at k;
        id = ap (λ (e : Content). e.id) speaks.own ∙ ((h.owned fits).mine).id;
        keeps = keeps_to s.cluster.schema (tape_of f now.sends) (sent k t.sends (tape_of f now.sends)) id group (record { 0 = n }) request promised (λ node g p e stands. stood_sent k t.sends (tape_of f now.sends) _ stands) ((h.owned fits).mine).keeps;
      };
    })
  where
    t : RoundMove
    t = takes (here s.cluster id (at_place group n) asked) proposal m.from clock m.body

    speaks : Speaks (tape_of f now.sends) id (at_place group n) proposal.own t
    speaks = takes_speaks s.cluster (tape_of f now.sends) (h.turn).lawful id (at_place group n) asked proposal m.from clock m.body h.backed (took_on f.base (tape_of f now.sends) (stood_sent f.next now.sends f.base) _ took)

due_ready : (users : Users) → (s : Setting) → (users.fits → Brought users.usage s.handlers) → (f : Frame) (now : Now) (clock : ℕ) (id : OpId) (request : Request) (began : ℕ) (visited : List GroupId) (posted : Option Enter) (phase : Phase)
    → ReadyAt users s f now (record { id = id; request = request; began = began; visited = visited; message = posted; phase = phase })
    → ReadyAt users s f (sends_more now (does_due s clock (record { id = id; request = request; began = began; visited = visited; message = posted; phase = phase })).sends)
    (does_due s clock (record { id = id; request = request; began = began; visited = visited; message = posted; phase = phase })).operation
due_ready users s brought f now clock id request began visited posted (Reads group r) h =
    ready_sends users s.cluster f now.met now.kept now.answers now.sends _ _ h.turn (does_due_acts s (tape_of f now.sends) now.met clock id request began visited posted (Reads group r) h.backed h.idle)
    (λ fits n. (wrote fits).written n)
    (λ fits n. record {
      began = began_on users.usage (tape_of f now.sends) (sent n t.sends (tape_of f now.sends)) id request (stood_sent n t.sends (tape_of f now.sends)) (h.owned fits).began;
      mine = record { none = (wrote fits).none n; plain = (wrote fits).plain; serves = serves_on (tape_of f now.sends) (sent n t.sends (tape_of f now.sends)) id request posted group (stood_sent n t.sends (tape_of f now.sends)) ((h.owned fits).mine).serves };
    })
  where
    t : ReadMove
    t = falls_due (who s.cluster id group) r s.cluster.retry clock

    wrote : users.fits → WroteBy s.cluster users.usage (tape_of f now.sends) id t
    wrote fits = falls_due_wrote s.cluster users.usage (tape_of f now.sends) now.met id group r s.cluster.retry clock (turn_context users s.cluster f now.met now.kept now.answers now.sends id h.turn fits ((h.owned fits).mine).none) h.backed ((h.owned fits).mine).plain
due_ready users s brought f now clock id request began visited posted (Proposes group n asked proposal promised) h =
    ready_sends users s.cluster f now.met now.kept now.answers now.sends _ _ h.turn (does_due_acts s (tape_of f now.sends) now.met clock id request began visited posted (Proposes group n asked proposal promised) h.backed h.idle)
    (λ fits k. proposing_written users s.cluster (tape_of f now.sends) id (at_place group n) proposal t speaks ((h.owned fits).mine).at ((h.turn).written fits) k)
    (λ fits k. record {
      began = began_on users.usage (tape_of f now.sends) (sent k t.sends (tape_of f now.sends)) id request (stood_sent k t.sends (tape_of f now.sends)) (h.owned fits).began;
      mine = record {
        at = proposing_mine (tape_of f now.sends) id (at_place group n) proposal t speaks ((h.owned fits).mine).at k;
        id = ap (λ (e : Content). e.id) speaks.own ∙ ((h.owned fits).mine).id;
        keeps = keeps_to s.cluster.schema (tape_of f now.sends) (sent k t.sends (tape_of f now.sends)) id group (record { 0 = n }) request promised (λ node g p e stands. stood_sent k t.sends (tape_of f now.sends) _ stands) ((h.owned fits).mine).keeps;
      };
    })
  where
    t : RoundMove
    t = due (here s.cluster id (at_place group n) asked) proposal s.cluster.retry clock

    speaks : Speaks (tape_of f now.sends) id (at_place group n) proposal.own t
    speaks = due_speaks s.cluster (tape_of f now.sends) id (at_place group n) asked proposal s.cluster.retry clock

-- all of them acted
pub record AllActed (users : Users) (s : Setting) (f : Frame) (l : ℕ) (now : Now) : Type 0 where
  pub k : ℕ
  pub most : k ≤ l
  pub fine : Fine users s.cluster f k now.met now.kept now.answers now.sends

grew_lasts : (met : List Met) → Lasts (λ (now : Now). Grew met now.met)
grew_lasts met = record {
  keeps_it = λ now o h. h;
  ends_it = λ now op answer h. h;
  sends_it = λ now ms h. h;
  stores_it = λ now stored h. h;
  validates_it = λ now group p refusal h. validated now group p refusal h;
}
  where
    validated : (now : Now) (group : GroupId) (p : ℕ) (refusal : Option NotValid) → Grew met now.met → Grew met (validated_by now group p refusal).met
    validated now group p (Some why) h = h
    validated now group p None h = λ g. let less = h g in let more = prefix_more (Validates group p) now.met g in omega (arith, less, more)

pub all_act_fine : (users : Users) → (s : Setting) → (users.fits → Brought users.usage s.handlers) → (f : Frame) (met : List Met) (clock : ℕ) (m : Message) (l : ℕ) (os : List Operation) (now : Now) (k least : ℕ) → FineAt users s f k now → k ≤ least → k ≤ l → IsRising least os
    → Each (Held users s.cluster f.base f.me f.start l met) os → Grew met now.met → Each (λ (o : Operation). has_failed f.early o.id ≡ false) os → Took f.base (message m.from f.me m.body) → AllActed users s f l (all_act s now (map (hears_message s clock m) os))
all_act_fine users s brought f met clock m l [] now k least fine le most r h grew unfailed took = record { k = k; most = most; fine = fine }
all_act_fine users s brought f met clock m l (o ∷ os) now k least fine le most r h grew unfailed took =
    all_act_fine users s brought f met clock m l os (acts_in_turn s now t) ((o.id).number + 1) ((o.id).number + 1) acted (omega arith) (let below = (h.0).below in omega arith) r.1 h.1 grown unfailed.1 took
  where
    t : Heard
    t = hears_message s clock m o

    ready : ReadyAt users s f (sends_more now t.sends) t.operation
    ready = hears_ready users s brought f now clock m o.id o.request o.began o.visited o.message o.phase (ready_first users s brought f k l now met o fine (let first = r.0 in omega arith) grew unfailed.0 h.0)
        (subst (λ node. Took f.base (message m.from node m.body)) (sym (h.0).node) took)

    acted : FineAt users s f ((o.id).number + 1) (acts_in_turn s now t)
    acted = subst (λ (x : OpId). FineAt users s f (x.number + 1) (acts_in_turn s now t)) (same_id_heard s clock m o.id o.request o.began o.visited o.message o.phase) (goes_on_done users s brought f (sends_more now t.sends) t.operation ready)

    grown : Grew met (acts_in_turn s now t).met
    grown = goes_on_it (λ (x : Now). Grew met x.met) (grew_lasts met) s (sends_more now t.sends) t.operation grew

last_ends : (users : Users) → (s : Setting) (f : Frame) (now : Now) (id : OpId) (request : Request) (began : ℕ) (visited : List GroupId) (posted : Option Enter) (phase : Phase)
    → ReadyAt users s f now (record { id = id; request = request; began = began; visited = visited; message = posted; phase = phase })
    → FineAt users s f (id.number + 1) (ends now id (last_answer (record { id = id; request = request; began = began; visited = visited; message = posted; phase = phase })))
last_ends users s f now id request began visited posted (Reads group r) h =
    reading_ends users s f now (record { id = id; request = request; began = began; visited = visited; message = posted; phase = Reads group r }) _ h.turn (λ fits. ((h.owned fits).mine).none) (λ fits. tt)
last_ends users s f now id request began visited posted (Proposes group n asked proposal promised) h =
    turn_ends users s.cluster f now.met now.kept now.answers now.sends id _ h.turn (λ fits. record { cause = tt; doomed = λ negative. cc; named = inr (h.turn).named })

pub ticked_fine : (users : Users) → (s : Setting) → (users.fits → Brought users.usage s.handlers) → (f : Frame) (met : List Met) (clock : ℕ) (l : ℕ) (os : List Operation) (now : Now) (k least : ℕ) → FineAt users s f k now → k ≤ least → k ≤ l → IsRising least os
    → Each (Held users s.cluster f.base f.me f.start l met) os → Grew met now.met → Each (λ (o : Operation). has_failed f.early o.id ≡ false) os → AllActed users s f l (fold (ticked s clock) now os)
ticked_fine users s brought f met clock l [] now k least fine le most r h grew unfailed = record { k = k; most = most; fine = fine }
ticked_fine users s brought f met clock l (o ∷ os) now k least fine le most r h grew unfailed =
    ticked_fine users s brought f met clock l os (ticked s clock now o) ((o.id).number + 1) ((o.id).number + 1) acted (omega arith) (let below = (h.0).below in omega arith) r.1 h.1 grown unfailed.1
  where
    t : Heard
    t = does_due s clock o

    first : ReadyAt users s f now o
    first = ready_first users s brought f k l now met o fine (let start = r.0 in omega arith) grew unfailed.0 h.0

    acted : FineAt users s f ((o.id).number + 1) (ticked s clock now o)
    acted = go (is_out s clock o)
      where
        going : FineAt users s f ((o.id).number + 1) (acts_in_turn s now t)
        going = subst (λ (x : OpId). FineAt users s f (x.number + 1) (acts_in_turn s now t)) (same_id_due s clock o.id o.request o.began o.visited o.message o.phase)
            (goes_on_done users s brought f (sends_more now t.sends) t.operation (due_ready users s brought f now clock o.id o.request o.began o.visited o.message o.phase first))

        go : (b : Bool) → FineAt users s f ((o.id).number + 1) (cond b (ends now o.id (last_answer o)) (acts_in_turn s now t))
        go true = last_ends users s f now o.id o.request o.began o.visited o.message o.phase first
        go false = going

    grown : Grew met (ticked s clock now o).met
    grown = ticked_it (λ (x : Now). Grew met x.met) (grew_lasts met) s clock (o ∷ []) now grew

-- ---- an operation that begins

-- it began with its request, and proposed nothing
pub record Starting (usage : Usage) (tape : List Item) (id : OpId) (request : Request) : Type 0 where
  pub began : Began usage tape id request
  pub none : Unproposed tape id

begins_asked : (users : Users) → (s : Setting) (f : Frame) (now : Now) (o : Operation) (group : GroupId) → TurnAt users s f now o.id → Asks users.usage (tape_of f now.sends) o None group → users.fits
    → asked_for (users.usage).meaning (tape_of f now.sends) o.id ≡ Some o.request
begins_asked users s f now o group h asks fits = began_asked s.cluster.schema users.usage (tape_of f now.sends) o.id o.request (h.written fits) h.named asks.began

read_begins_done : (users : Users) → (s : Setting) → (users.fits → Brought users.usage s.handlers) → (f : Frame) (now : Now) (o : Operation) (request : ReadRequest) (mode : Mode) → TurnAt users s f now o.id → FreeAt f now o.id → (users.fits → Asks users.usage (tape_of f now.sends) o None request.group) → o.request ≡ Read request → request.mode ≡ mode → Leads users s f o (read_begins s now o request mode)
read_begins_done users s brought f now o request Current h free asks is same = begins_read_done users s brought f now o request.group None [] h free asks
read_begins_done users s brought f now o request Snapshot h free asks is same = reading_ends users s f now o _ h (λ fits. (asks fits).none)
    (λ fits. read_cause s users.usage (tape_of f now.sends) o.id request _ _ _ (begins_asked users s f now o request.group h (asks fits) fits ∙ ap Some is) (λ cur. absurd (let clashing = sym (ap is_current same) ∙ cur in cc)))
read_begins_done users s brought f now o request Inconsistent h free asks is same = reading_ends users s f now o _ h (λ fits. (asks fits).none)
    (λ fits. read_cause s users.usage (tape_of f now.sends) o.id request _ _ _ (begins_asked users s f now o request.group h (asks fits) fits ∙ ap Some is) (λ cur. absurd (let clashing = sym (ap is_current same) ∙ cur in cc)))

local_find_done : (users : Users) → (s : Setting) → (users.fits → Brought users.usage s.handlers) → (f : Frame) (now : Now) (o : Operation) (request : FindRequest) (group : GroupId) (mode : Mode) → TurnAt users s f now o.id → FreeAt f now o.id → (users.fits → Asks users.usage (tape_of f now.sends) o None group) → o.request ≡ Find request → Leads users s f o (local_find_begins s now o request group mode)
local_find_done users s brought f now o request group Current h free asks is = begins_read_done users s brought f now o group None [] h free asks
local_find_done users s brought f now o request group Snapshot h free asks is = reading_ends users s f now o _ h (λ fits. (asks fits).none)
    (λ fits. found_cause s.cluster.schema users.usage (tape_of f now.sends) o.id request (group_marks request.group (applied_position now group)) (group_bytes request.group) (snapshot_listed now group) (numbered (s.cluster.schema).indexes request.index) (begins_asked users s f now o group h (asks fits) fits ∙ ap Some is))
local_find_done users s brought f now o request group Inconsistent h free asks is = reading_ends users s f now o _ h (λ fits. (asks fits).none)
    (λ fits. found_cause s.cluster.schema users.usage (tape_of f now.sends) o.id request (group_marks request.group (applied_position now group)) (group_bytes request.group) (stored_listed now group) (numbered (s.cluster.schema).indexes request.index) (begins_asked users s f now o group h (asks fits) fits ∙ ap Some is))

find_begins_done : (users : Users) → (s : Setting) → (users.fits → Brought users.usage s.handlers) → (f : Frame) (now : Now) (o : Operation) (request : FindRequest) (group : Option GroupId) → TurnAt users s f now o.id → FreeAt f now o.id → (users.fits → (group : GroupId) → Asks users.usage (tape_of f now.sends) o None group) → o.request ≡ Find request → Leads users s f o (find_begins s now o request group)
find_begins_done users s brought f now o request None h free asks is = reading_ends users s f now o _ h (λ fits. (asks fits (record { key = [] })).none)
    (λ fits. found_cause s.cluster.schema users.usage (tape_of f now.sends) o.id request (refreshed_marks now.met) [] (flat_map (rows_through now.met) (refreshed_marks now.met)) (numbered (s.cluster.schema).indexes request.index) (begins_asked users s f now o (record { key = [] }) h (asks fits (record { key = [] })) fits ∙ ap Some is))
find_begins_done users s brought f now o request (Some group) h free asks is = local_find_done users s brought f now o request group request.mode h free (λ fits. asks fits group) is

first_done : (users : Users) → (s : Setting) → (users.fits → Brought users.usage s.handlers) → (f : Frame) (now : Now) (id : OpId) (request : Request) (began : ℕ) (visited : List GroupId) (posted : Option Enter) (phase : Phase)
    → TurnAt users s f now id → FreeAt f now id → (users.fits → Starting users.usage (tape_of f now.sends) id request) → Leads users s f (record { id = id; request = request; began = began; visited = visited; message = posted; phase = phase }) (acts_first s now (record { id = id; request = request; began = began; visited = visited; message = posted; phase = phase }))
first_done users s brought f now id (Txn transaction) began visited posted phase h free st = begins_read_done users s brought f now (record { id = id; request = Txn transaction; began = began; visited = visited; message = posted; phase = phase }) transaction.group None [] h free (λ fits. record { began = (st fits).began; none = (st fits).none; serves = refl })
first_done users s brought f now id (BatchRequest group transactions) began visited posted phase h free st = begins_read_done users s brought f now (record { id = id; request = BatchRequest group transactions; began = began; visited = visited; message = posted; phase = phase }) group None [] h free (λ fits. record { began = (st fits).began; none = (st fits).none; serves = refl })
first_done users s brought f now id (Read request) began visited posted phase h free st = read_begins_done users s brought f now (record { id = id; request = Read request; began = began; visited = visited; message = posted; phase = phase }) request request.mode h free (λ fits. record { began = (st fits).began; none = (st fits).none; serves = refl }) refl refl
first_done users s brought f now id (Find request) began visited posted phase h free st = find_begins_done users s brought f now (record { id = id; request = Find request; began = began; visited = visited; message = posted; phase = phase }) request request.group h free (λ fits group. record { began = (st fits).began; none = (st fits).none; serves = tt }) refl
first_done users s brought f now id PumpEnter began visited posted phase h free st = picks_to_enter_done users s brought f now (record { id = id; request = PumpEnter; began = began; visited = visited; message = posted; phase = phase }) [] h free (λ fits. record { began = (st fits).began; none = (st fits).none; is = refl })
first_done users s brought f now id PumpHandle began visited posted phase h free st = picks_to_handle_done users s brought f now (record { id = id; request = PumpHandle; began = began; visited = visited; message = posted; phase = phase }) [] h free (λ fits. record { began = (st fits).began; none = (st fits).none; is = refl })
first_done users s brought f now id Refresh began visited posted phase h free st = reading_ends users s f now (record { id = id; request = Refresh; began = began; visited = visited; message = posted; phase = phase }) _ h (λ fits. (st fits).none) (λ fits. tt)

refused_fine : (users : Users) → (c : Cluster) (f : Frame) (k l : ℕ) (met : List Met) (kept : List Operation) (answers : List Met) (sends : List Message) (op : OpId) (answer : Answer) → k ≤ l → op.node.0 ≡ f.me → op.start ≡ f.start → op.number < l → Fine users c f k met kept answers sends
    → ((o : Operation) → Held users c (tape_of f sends) f.me f.start k met o → (o.id).number < op.number) → (users.fits → Given c.schema users.usage (tape_of f sends) op answer) → Fine users c f l met kept (answers ++ Answers op answer ∷ []) sends
refused_fine users c f k l met kept answers sends op answer le node start below h less given = record {
  lawful = h.lawful;
  written = h.written;
  later = λ x other q. h.later x (could_more f.me f.start k l x le other) q;
  asked = λ x other. h.asked x (could_more f.me f.start k l x le other);
  made = h.made;
  given = λ fits. each_push (IsGiven c.schema users.usage (tape_of f sends)) answers (Answers op answer) (h.given fits) (given fits);
  answered = each_push (AnsweredBelow f.me f.start l) answers (Answers op answer) (each_on (AnsweredBelow f.me f.start k) (AnsweredBelow f.me f.start l) (answered_more f.me f.start k l le) answers h.answered) (node, (start, below));
  fair = h.fair;
  unheard = each_zip (IsOpen f.early answers) (Held users c (tape_of f sends) f.me f.start k met) (IsOpen f.early (answers ++ Answers op answer ∷ []))
      (λ o still held. record { unfailed = still.unfailed; apart = each_push (IsApart o.id) answers (Answers op answer) still.apart (other_number op o.id (less o held)) }) kept h.unheard h.held;
  known = h.known;
  quiet = h.quiet;
  held = each_on (Held users c (tape_of f sends) f.me f.start k met) (Held users c (tape_of f sends) f.me f.start l met)
      (λ o held. held_on users c (tape_of f sends) (tape_of f sends) f.me f.start k l met met o (same_tape o.id (tape_of f sends)) (same_met met) le held) kept h.held;
  rising = h.rising;
}

pub begun_fine : (users : Users) → (s : Setting) → (users.fits → Brought users.usage s.handlers) → (f : Frame) (k : ℕ) (now : Now) (o : Operation) (refusal : Option Answer) → FineAt users s f k now → (o.id).node.0 ≡ f.me → (o.id).start ≡ f.start → (refusal ≡ None → TurnAt users s f now o.id × FreeAt f now o.id) → (refusal ≡ None → k ≤ (o.id).number) → (users.fits → refusal ≡ None → Starting users.usage (tape_of f now.sends) o.id o.request)
    → ((one : Operation) → Held users s.cluster (tape_of f now.sends) f.me f.start k now.met one → (one.id).number < (o.id).number) → (users.fits → (answer : Answer) → refusal ≡ Some answer → Given s.cluster.schema users.usage (tape_of f now.sends) o.id answer)
    → AllActed users s f (max k ((o.id).number + 1)) (unless_refused s now o refusal)
begun_fine users s brought f k now o (Some answer) fine node start h le st less given = record {
  k = max k ((o.id).number + 1);
  most = omega arith;
  fine = refused_fine users s.cluster f k (max k ((o.id).number + 1)) now.met now.kept now.answers now.sends o.id answer (omega arith) node start (omega arith) fine less (λ fits. given fits answer refl);
}
begun_fine users s brought f k now o None fine node start h le st less given = record { k = (o.id).number + 1; most = omega arith; fine = rests_done users s brought f (length (groups_of now.met) + 2) o (acts_first s now o) (first_done users s brought f now o.id o.request o.began o.visited o.message o.phase (h refl).0 (h refl).1 (λ fits. st fits refl)) }
