-- An operation that acts does only what is allowed: it ends, it goes on to its own proposal, or it reads on.
use Rattle.std.proofs.Common.{◌≡◌, inl, inr, ℕ, zero, suc, ◌+◌, ◌≤◌, ◌<◌, nat_le, Bool, true, false, cond, List, [], ◌∷◌, ◌++◌, take, length, Option, Some, None, Result, Ok, Err, refl, sym, ap, ◌∙◌, subst, arith}
use Rattle.std.proofs.lemmas.Bool.Decides.{nat_tests}
use Rattle.std.specs.List.{list_any}
use Rattle.std.specs.Result.{is_ok}
use Rattle.mega_base.specs.declared.names.GroupId.{GroupId}
use Rattle.mega_base.specs.declared.names.OpId.{OpId}
use Rattle.mega_base.specs.declared.names.Epoch.{Epoch}
use Rattle.mega_cluster.specs.declared.cluster.Cluster.{Cluster}
use Rattle.mega_coordinator.specs.declared.answers.NotValid.{NotValid}
use Rattle.mega_entry.specs.declared.content.Content.{Content}
use Rattle.mega_entry.specs.declared.content.Enter.{Enter}
use Rattle.mega_wire.specs.declared.message.Message.{Message}
use Rattle.mega_handler.specs.Named.{has}
use Rattle.mega_tape_laws.specs.of_transcript.declared.item.Item.{Item}
use Rattle.mega_tape_laws.specs.of_transcript.declared.item.Item.TheVariants.{Decide}
use Rattle.mega_tape_laws.specs.of_promises.Items.{number}
use Rattle.mega_tape_laws.specs.of_promises.Promises.{Stands, asked_for, handled_by}
use Rattle.mega_outcome.specs.declared.transaction.Transaction.{Transaction}
use Rattle.mega_ballot.specs.Order.{zero_ballot}
use Rattle.mega_outcome.specs.declared.answer.Answer.{Answer}
use Rattle.mega_outcome.specs.declared.answer.Batch.{Batch}
use Rattle.mega_outcome.specs.declared.answer.Done.{Done}
use Rattle.mega_outcome.specs.declared.answer.Turn.{Turn as TurnedBy}
use Rattle.mega_outcome.specs.declared.request.Request.{Request}
use Rattle.mega_outcome.specs.declared.request.Request.TheVariants.{Txn, Batch as BatchRequest, Read as ReadRequested, Find, PumpEnter, PumpHandle, Refresh}
use Rattle.mega_outcome.specs.Outcome.{batch_outcome, entry_of_batch, entry_of_done, outcome}
use Rattle.mega_tape_laws.specs.of_read.of_propose.declared.round.Move.{Move as RoundMove}
use Rattle.mega_tape_laws.specs.of_read.of_propose.Rounds.{asks}
use Rattle.mega_tape_laws.specs.of_read.declared.reading.Move.{Move as ReadMove}
use Rattle.mega_tape_laws.specs.of_read.declared.reading.Reading.{Reading}
use Rattle.mega_tape_laws.specs.of_read.declared.reading.Search.{Search}
use Rattle.mega_tape_laws.specs.of_read.declared.reading.Stage.{Stage}
use Rattle.mega_tape_laws.specs.of_read.declared.reading.Search.TheVariants.{Fetching, Filling}
use Rattle.mega_tape_laws.specs.of_read.declared.reading.Stage.TheVariants.{Polling, Catching}
use Rattle.mega_tape_laws.specs.of_read.Catching.{asked_by, local_read, polled_read, seeks}
use Rattle.mega_tape_laws.specs.of_rules.Met.{Met, Validates}
use Rattle.mega_tape_laws.specs.of_rules.Members.{voters}
use Rattle.mega_tape_laws.specs.of_rules.Clock.{clock_of}
use Rattle.mega_tape_laws.specs.of_rules.Logs.{decided, groups_of, log_of, prefix_of, top_of}
use Rattle.mega_tape_laws.specs.of_rules.Coordinators.{refused_at, serves_at, valid_at}
use Rattle.mega_tape_laws.specs.of_rules.Queues.{Posted, enter_entry, is_named, names_entered, next_to_enter, next_to_handle, oldest_unhandled}
use Rattle.mega_index.specs.Rows.{Listed}
use Rattle.mega_tape_laws.specs.of_rules.Operations.{Now, Operation, Phase, Promised, Proposes, Reads, Replies, Results, Setting}
use Rattle.mega_tape_laws.specs.of_rules.Acting.{ActsAgain, Next, Rests, acts, applied_logs, batch_sealed, begins_read, completes_read, ends, enters, finishes, goes_on, handles, handling, in_phase, is_visited, keeps, leader_after, listed_at, named_leader, picks_group, picks_message, picks_to_enter, picks_to_handle, proposes, proposes_by, proposes_there, read_begun, reads_on, rests_within, rows_at, sealed, seeks_on, sends_more, table_rows, unless_decided, unless_full, validated_by, validates, visiting}
use Rattle.mega_tape_laws.specs.Places.{In, Place, Proposes as ProposesMove, moves}
use Rattle.mega_tape_laws.specs.Writes.{AreWritten, OwnEntry, Own, Usage, enters as enters_one, handles as handles_one, own as own_one, runs, runs_all, Knows}
use Rattle.mega_run_laws.specs.Usages.{Brought}
use Rattle.mega_run_laws.proofs.Owned.{Began, Owned, Context, KnowsAll, Serves, Users, Waits, began_asked, began_on, front_length, knows_front, serves_on}
use Rattle.mega_run_laws.proofs.Picked.{next_waits}
use Rattle.mega_tape_laws.specs.of_rules.Finding.{group_bytes, group_marks}
use Rattle.mega_index.specs.Fits.{numbered}
use Rattle.mega_tape_laws.specs.Answers.{HasCause, KnowsBelow, of_write}
use Rattle.mega_run_laws.proofs.Causes.{Keeps, keeps_to}
use Rattle.mega_run_laws.proofs.Causing.{found_cause, given_none, read_cause, verdict_given}
use Rattle.mega_outcome.specs.declared.answer.Answer.TheVariants.{AllTurned, Turned}
use Rattle.mega_run_laws.proofs.Wrote.{WroteBy, local_wrote, polled_wrote, seeks_wrote}
use Rattle.mega_run_laws.proofs.Written.{Unproposed}
use Rattle.mega_tape_laws.specs.Lawful.{Leads as LeadsAt, asks as asks_leader, lowest, named}
use Rattle.mega_tape_laws.proofs.Lists.{some_is}
use Rattle.mega_run_laws.specs.Justified.{here, sent}
use Rattle.mega_run_laws.proofs.Prefixes.{prefix_decided, prefix_more}
use Rattle.mega_run_laws.proofs.Rounds.{asks_goes}
use Rattle.mega_run_laws.proofs.Sending.{accept_moves, stood_sent}
use Rattle.mega_run_laws.proofs.Opened.{BackedStage, Idle, acts_round, at_place, backed_on, idle_none, idle_on, place_is, place_of, stage_place}
use Rattle.mega_run_laws.proofs.Reading.{Reads_on, local_acts, polled_acts, seeks_acts, who}
use Rattle.mega_run_laws.proofs.Turns.{Fine, Frame, Ready, Turn, ready_keeps, ready_sends, same_tape, tape_of, turn_ends, turn_met, turn_sends, sent_append}

-- the operation acted
abbrev pub DoneAt : Users → Setting → Frame → Operation → Now → Type 0
DoneAt users s f o now = Fine users s.cluster f ((o.id).number + 1) now.met now.kept now.answers now.sends

abbrev pub ReadyAt : Users → Setting → Frame → Now → Operation → Type 0
ReadyAt users s f now o = Ready users s.cluster f now.met now.kept now.answers now.sends o

abbrev pub TurnAt : Users → Setting → Frame → Now → OpId → Type 0
TurnAt users s f now op = Turn users s.cluster f now.met now.kept now.answers now.sends op

-- what it comes to: it acted, or it is ready to act again, under the same id
abbrev pub Leads : Users → Setting → Frame → Operation → Next → Type 0
Leads users s f o (Rests now) = DoneAt users s f o now
Leads users s f o (ActsAgain now other) = (other.id ≡ o.id) × ReadyAt users s f now other

-- the operation has no round, above what is decided
abbrev pub FreeAt : Frame → Now → OpId → Type 0
FreeAt f now op = Idle (tape_of f now.sends) now.met op None

-- an operation that proposed nothing with its id is answered
pub reading_ends : (users : Users) → (s : Setting) (f : Frame) (now : Now) (o : Operation) (answer : Answer) → TurnAt users s f now o.id → (users.fits → Unproposed (tape_of f now.sends) o.id)
    → (users.fits → HasCause s.cluster.schema users.usage (tape_of f now.sends) o.id answer) → DoneAt users s f o (ends now o.id answer)
reading_ends users s f now o answer h none cause = turn_ends users s.cluster f now.met now.kept now.answers now.sends o.id answer h
    (λ fits. given_none s.cluster.schema users.usage (tape_of f now.sends) o.id answer h.named (none fits) (cause fits))

-- ---- what is its own

-- an operation that is to read a group, and one that is to pick
pub record Asks (usage : Usage) (tape : List Item) (o : Operation) (message : Option Enter) (group : GroupId) : Type 0 where
  pub began : Began usage tape o.id o.request
  pub none : Unproposed tape o.id
  pub serves : Serves tape o.id o.request message group

pub record Picks (usage : Usage) (tape : List Item) (o : Operation) (request : Request) : Type 0 where
  pub began : Began usage tape o.id o.request
  pub none : Unproposed tape o.id
  pub is : o.request ≡ request

pub turn_known : (users : Users) → (c : Cluster) (f : Frame) (met : List Met) (kept : List Operation) (answers : List Met) (sends : List Message) (op : OpId) → Turn users c f met kept answers sends op → KnowsAll op.node.0 met (tape_of f sends)
turn_known users c f met kept answers sends op h g n e k = subst (λ v. Stands (Decide (number v) g (record { 0 = n }) e) (tape_of f sends)) (sym h.node) (stood_sent f.next sends f.base _ (h.known g n e k))

pub turn_context : (users : Users) → (c : Cluster) (f : Frame) (met : List Met) (kept : List Operation) (answers : List Met) (sends : List Message) (op : OpId) → Turn users c f met kept answers sends op → users.fits → Unproposed (tape_of f sends) op → Context c users.usage (tape_of f sends) met op
turn_context users c f met kept answers sends op h fits none = record { lawful = h.lawful; written = h.written fits; known = turn_known users c f met kept answers sends op h; named = h.named; none = none }

-- ---- reading

reads_ready : (users : Users) → (s : Setting) → (users.fits → Brought users.usage s.handlers) → (f : Frame) (now : Now) (o : Operation) (group : GroupId) (t : ReadMove) → TurnAt users s f now o.id → Reads_on s.cluster (tape_of f now.sends) now.met o.id group t
    → (users.fits → WroteBy s.cluster users.usage (tape_of f now.sends) o.id t) → (users.fits → Asks users.usage (tape_of f now.sends) o o.message group)
    → ReadyAt users s f (sends_more now t.sends) (in_phase o (Reads group t.reading))
reads_ready users s brought f now o group t h acts wrote asks = ready_sends users s.cluster f now.met now.kept now.answers now.sends t.sends (in_phase o (Reads group t.reading)) h acts
    (λ fits n. (wrote fits).written n)
    (λ fits n. let stood = stood_sent n t.sends (tape_of f now.sends) in record {
      began = began_on users.usage (tape_of f now.sends) (sent n t.sends (tape_of f now.sends)) o.id o.request stood (asks fits).began;
      mine = record { none = (wrote fits).none n; plain = (wrote fits).plain; serves = serves_on (tape_of f now.sends) (sent n t.sends (tape_of f now.sends)) o.id o.request o.message group stood (asks fits).serves };
    })

begun_acts : (s : Setting) (f : Frame) (now : Now) (o : Operation) (group : GroupId) (asked : List ℕ) → FreeAt f now o.id → Reads_on s.cluster (tape_of f now.sends) now.met o.id group (read_begun s now o group asked)
begun_acts s f now o group asked free = go (is_visited o group) (valid_at s.cluster now.met group)
  where
    go : (t u : Bool) → Reads_on s.cluster (tape_of f now.sends) now.met o.id group (cond t (polled_read (who s.cluster o.id group) None asked (clock_of now.met))
        (cond u (local_read asked (top_of now.met group)) (polled_read (who s.cluster o.id group) (serves_at s.cluster now.met) asked (clock_of now.met))))
    go true u = polled_acts s.cluster (tape_of f now.sends) now.met o.id group None asked (clock_of now.met) free
    go false true = local_acts s.cluster (tape_of f now.sends) now.met o.id group asked (top_of now.met group) free
    go false false = polled_acts s.cluster (tape_of f now.sends) now.met o.id group (serves_at s.cluster now.met) asked (clock_of now.met) free

begun_wrote : (c : Cluster) (s : Setting) (usage : Usage) (tape : List Item) (now : Now) (o : Operation) (group : GroupId) (asked : List ℕ) → s.cluster ≡ c → Context s.cluster usage tape now.met o.id → WroteBy s.cluster usage tape o.id (read_begun s now o group asked)
begun_wrote c s usage tape now o group asked same x = go (is_visited o group) (valid_at s.cluster now.met group)
  where
    go : (t u : Bool) → WroteBy s.cluster usage tape o.id (cond t (polled_read (who s.cluster o.id group) None asked (clock_of now.met))
        (cond u (local_read asked (top_of now.met group)) (polled_read (who s.cluster o.id group) (serves_at s.cluster now.met) asked (clock_of now.met))))
    go true u = polled_wrote s.cluster usage tape now.met o.id group None asked (clock_of now.met) x
    go false true = local_wrote s.cluster usage tape now.met o.id asked (top_of now.met group) x
    go false false = polled_wrote s.cluster usage tape now.met o.id group (serves_at s.cluster now.met) asked (clock_of now.met) x

pub begins_read_done : (users : Users) → (s : Setting) → (users.fits → Brought users.usage s.handlers) → (f : Frame) (now : Now) (o : Operation) (group : GroupId) (message : Option Enter) (asked : List ℕ)
    → TurnAt users s f now o.id → FreeAt f now o.id → (users.fits → Asks users.usage (tape_of f now.sends) o message group) → Leads users s f o (begins_read s now o group message asked)
begins_read_done users s brought f now o group message asked h free asks = (
  refl,
  ready_sends users s.cluster f now.met now.kept now.answers now.sends (read_begun s now o group asked).sends (visiting o group message (read_begun s now o group asked)) h (begun_acts s f now o group asked free)
      (λ fits n. (wrote fits).written n)
      (λ fits n. record {
        began = began_on users.usage (tape_of f now.sends) (sent n ms (tape_of f now.sends)) o.id o.request (stood_sent n ms (tape_of f now.sends)) (asks fits).began;
        mine = record { none = (wrote fits).none n; plain = (wrote fits).plain; serves = serves_on (tape_of f now.sends) (sent n ms (tape_of f now.sends)) o.id o.request message group (stood_sent n ms (tape_of f now.sends)) (asks fits).serves };
      }),
)
  where
    ms : List Message
    ms = (read_begun s now o group asked).sends

    wrote : users.fits → WroteBy s.cluster users.usage (tape_of f now.sends) o.id (read_begun s now o group asked)
    wrote fits = begun_wrote s.cluster s users.usage (tape_of f now.sends) now o group asked refl (turn_context users s.cluster f now.met now.kept now.answers now.sends o.id h fits (asks fits).none)

picks_message_done : (users : Users) → (s : Setting) → (users.fits → Brought users.usage s.handlers) → (f : Frame) (now : Now) (o : Operation) (asked : List ℕ) (one : Option Posted)
    → TurnAt users s f now o.id → FreeAt f now o.id → (users.fits → (x : Posted) → one ≡ Some x → Asks users.usage (tape_of f now.sends) o (Some x.message) x.to) → (users.fits → Unproposed (tape_of f now.sends) o.id) → Leads users s f o (picks_message s now o asked one)
picks_message_done users s brought f now o asked None h free asks none = reading_ends users s f now o _ h none (λ fits. tt)
picks_message_done users s brought f now o asked (Some one) h free asks none = begins_read_done users s brought f now o one.to (Some one.message) asked h free (λ fits. asks fits one refl)

picks_group_done : (users : Users) → (s : Setting) → (users.fits → Brought users.usage s.handlers) → (f : Frame) (now : Now) (o : Operation) (asked : List ℕ) (one : Option GroupId)
    → TurnAt users s f now o.id → FreeAt f now o.id → (users.fits → (group : GroupId) → Asks users.usage (tape_of f now.sends) o None group) → (users.fits → Unproposed (tape_of f now.sends) o.id) → Leads users s f o (picks_group s now o asked one)
picks_group_done users s brought f now o asked None h free asks none = reading_ends users s f now o _ h none (λ fits. tt)
picks_group_done users s brought f now o asked (Some group) h free asks none = begins_read_done users s brought f now o group None asked h free (λ fits. asks fits group)

pub picks_to_enter_done : (users : Users) → (s : Setting) → (users.fits → Brought users.usage s.handlers) → (f : Frame) (now : Now) (o : Operation) (asked : List ℕ)
    → TurnAt users s f now o.id → FreeAt f now o.id → (users.fits → Picks users.usage (tape_of f now.sends) o PumpEnter) → Leads users s f o (picks_to_enter s now o asked)
picks_to_enter_done users s brought f now o asked h free picks = picks_message_done users s brought f now o asked (next_to_enter o.id (applied_logs now)) h free
    (λ fits x is. record {
      began = (picks fits).began;
      none = (picks fits).none;
      serves = subst (λ r. Serves (tape_of f now.sends) o.id r (Some x.message) x.to) (sym (picks fits).is) (next_waits (tape_of f now.sends) now o.id (turn_known users s.cluster f now.met now.kept now.answers now.sends o.id h) x is);
    }) (λ fits. (picks fits).none)

pub picks_to_handle_done : (users : Users) → (s : Setting) → (users.fits → Brought users.usage s.handlers) → (f : Frame) (now : Now) (o : Operation) (asked : List ℕ)
    → TurnAt users s f now o.id → FreeAt f now o.id → (users.fits → Picks users.usage (tape_of f now.sends) o PumpHandle) → Leads users s f o (picks_to_handle s now o asked)
picks_to_handle_done users s brought f now o asked h free picks = picks_group_done users s brought f now o asked (next_to_handle (applied_logs now)) h free
    (λ fits group. record { began = (picks fits).began; none = (picks fits).none; serves = subst (λ r. Serves (tape_of f now.sends) o.id r None group) (sym (picks fits).is) tt }) (λ fits. (picks fits).none)

-- ---- proposing

named_is : (members : List ℕ) (entry : Content) (leader : ℕ) → named_leader members (Some entry) ≡ Some leader → (entry.leader).0 ≡ leader
named_is members entry leader h = some_is (entry.leader).0 leader h

leads_there : (users : Users) → (s : Setting) → (users.fits → Brought users.usage s.handlers) → (f : Frame) (now : Now) (op : OpId) (group : GroupId) (p leader : ℕ) → TurnAt users s f now op → p ≤ prefix_of now.met group → leader_after s now group p ≡ Some leader
    → LeadsAt s.cluster (tape_of f now.sends) op.node.0 (at_place group (p + 1)) leader
leads_there users s brought f now op group zero leader h le e = lowest refl e
leads_there users s brought f now op group (suc p) leader h le e =
    let d = prefix_decided now.met group (suc p) (omega arith) le in
    subst (λ node. LeadsAt s.cluster (tape_of f now.sends) node (at_place group (suc p + 1)) leader) (sym h.node)
    (named (record { 0 = suc p }) d.entry (omega arith) (omega arith) (stood_sent f.next now.sends f.base _ (h.known group (suc p) d.entry d.is))
    (named_is (voters s.cluster) d.entry leader (ap (named_leader (voters s.cluster)) (sym d.is) ∙ e)))

-- what an operation has whose read is complete
pub record Full (users : Users) (s : Setting) (f : Frame) (met : List Met) (kept : List Operation) (answers : List Met) (sends : List Message) (o : Operation) (group : GroupId) (p : ℕ) : Type 0 where
  pub ready : Ready users s.cluster f met kept answers sends o
  pub free : Idle (tape_of f sends) met o.id None
  pub through : p ≤ prefix_of met group
  pub none : users.fits → Unproposed (tape_of f sends) o.id
  pub serves : users.fits → Serves (tape_of f sends) o.id o.request o.message group

abbrev pub FullAt : Users → Setting → Frame → Now → Operation → GroupId → ℕ → Type 0
FullAt users s f now o group p = Full users s f now.met now.kept now.answers now.sends o group p

proposes_there_done : (users : Users) → (s : Setting) → (users.fits → Brought users.usage s.handlers) → (f : Frame) (now : Now) (o : Operation) (group : GroupId) (p : ℕ) (asked : List ℕ) (own : Content) (promised : Promised) (leader : ℕ) → FullAt users s f now o group p
    → leader_after s now group p ≡ Some leader → (users.fits → OwnEntry s.cluster.schema users.usage (tape_of f now.sends) o.id group (take p (log_of now.met group)) own)
    → own.id ≡ Some o.id → (users.fits → Keeps s.cluster.schema (tape_of f now.sends) o.id group (record { 0 = p + 1 }) o.request promised)
    → DoneAt users s f o (proposes_there s now o group (p + 1) asked promised (asks (here s.cluster o.id (at_place group (p + 1)) asked) leader own (clock_of now.met)))
proposes_there_done users s brought f now o group p asked own promised leader h e entry id keeps = go (decided now.met group (p + 1)) refl
  where
    turn : TurnAt users s f now o.id
    turn = (h.ready).turn

    leads : LeadsAt s.cluster (tape_of f now.sends) (o.id).node.0 (at_place group (p + 1)) leader
    leads = leads_there users s brought f now o.id group p leader turn h.through e

    t : RoundMove
    t = asks (here s.cluster o.id (at_place group (p + 1)) asked) leader own (clock_of now.met)

    mine : users.fits → Own s.cluster.schema users.usage (tape_of f now.sends) (o.id).node.0 o.id (at_place group (p + 1)) own
    mine fits = record {
      named = turn.named;
      below = take p (log_of now.met group);
      reaches = next (length (take p (log_of now.met group))) p (front_length now.met group p h.through);
      known = knows_front (tape_of f now.sends) (o.id).node.0 now.met group p (turn_known users s.cluster f now.met now.kept now.answers now.sends o.id turn);
      entry = entry fits;
      home = λ q b other i k id. absurd (h.none fits q b other i k);
    }
      where
        next : (l n : ℕ) → l ≡ n → n + 1 ≡ suc l
        next l n is = omega (arith, is)

    written : users.fits → (n : ℕ) → AreWritten s.cluster.schema users.usage (sent n t.sends (tape_of f now.sends))
    written fits n = (own_one (mine fits), turn.written fits)

    owned : users.fits → (n : ℕ) → Owned s.cluster.schema users.usage (sent n t.sends (tape_of f now.sends)) (in_phase o (Proposes group (p + 1) asked t.proposal promised))
    owned fits n = record {
      began = began_on users.usage (tape_of f now.sends) (sent n t.sends (tape_of f now.sends)) o.id o.request (stood_sent n t.sends (tape_of f now.sends)) ((h.ready).owned fits).began;
      mine = record {
        at = subst (In (ProposesMove zero_ballot own)) (sym (accept_moves s.cluster o.id (at_place group (p + 1)) asked zero_ballot own n leader (tape_of f now.sends))) (inl refl);
        id = id;
        keeps = keeps_to s.cluster.schema (tape_of f now.sends) (sent n t.sends (tape_of f now.sends)) o.id group (record { 0 = p + 1 }) o.request promised (λ node g m e' stands. stood_sent n t.sends (tape_of f now.sends) _ stands) (keeps fits);
      };
    }

    unmoved : decided now.met group (p + 1) ≡ None → moves (tape_of f now.sends) o.id (at_place group (p + 1)) ≡ []
    unmoved none = by_tests (nat_le (p + 1) (prefix_of now.met group)) refl
      where
        le_is : (a b : ℕ) → nat_le a b ≡ true → a ≤ b
        le_is a b k = grind (arith, nat_tests)

        above_is : (a b : ℕ) → nat_le a b ≡ false → b < a
        above_is a b k = grind (arith, nat_tests)

        by_tests : (b : Bool) → nat_le (p + 1) (prefix_of now.met group) ≡ b → moves (tape_of f now.sends) o.id (at_place group (p + 1)) ≡ []
        by_tests true k = let d = prefix_decided now.met group (p + 1) (omega arith) (le_is (p + 1) (prefix_of now.met group) k) in let clashing = sym none ∙ d.is in cc
        by_tests false k = elim (h.free (at_place group (p + 1)) (above_is (p + 1) (prefix_of now.met group) k)) [ inl x ↦ cc | inr x ↦ x ]

    go : (d : Option Content) → decided now.met group (p + 1) ≡ d
        → DoneAt users s f o (unless_decided (sends_more now t.sends) (in_phase o (Proposes group (p + 1) asked t.proposal promised)) (p + 1) promised d)
    go (Some entry) k = turn_ends users s.cluster f now.met now.kept now.answers (now.sends ++ t.sends) o.id _ sending (λ fits.
        verdict_given s.cluster.schema users.usage (tape_of f (now.sends ++ t.sends)) o.id o.request group (p + 1) own promised entry (sending.written fits) turn.named
        (began_asked s.cluster.schema users.usage (tape_of f (now.sends ++ t.sends)) o.id o.request (sending.written fits) turn.named (there fits).began)
        (turn_known users s.cluster f now.met now.kept now.answers (now.sends ++ t.sends) o.id sending group (p + 1) entry k) (there fits).mine)
      where
        sending : Turn users s.cluster f now.met now.kept now.answers (now.sends ++ t.sends) o.id
        sending = turn_sends users s.cluster f now.met now.kept now.answers now.sends t.sends o.id turn (refl, tt) (λ n l. (asks_leader refl leads, l)) written

        there : users.fits → Owned s.cluster.schema users.usage (tape_of f (now.sends ++ t.sends)) (in_phase o (Proposes group (p + 1) asked t.proposal promised))
        there fits = subst (λ x. Owned s.cluster.schema users.usage x (in_phase o (Proposes group (p + 1) asked t.proposal promised))) (sym (sent_append f.next now.sends t.sends f.base)) (owned fits (f.next + length now.sends))
    go None k = ready_keeps users s.cluster f now.met now.kept now.answers (now.sends ++ t.sends) (in_phase o (Proposes group (p + 1) asked t.proposal promised))
        (ready_sends users s.cluster f now.met now.kept now.answers now.sends t.sends (in_phase o (Proposes group (p + 1) asked t.proposal promised)) turn
        (acts_round s.cluster (tape_of f now.sends) now.met o.id (at_place group (p + 1)) t (Proposes group (p + 1) asked t.proposal promised) None
        (asks_goes s.cluster (tape_of f now.sends) o.id (at_place group (p + 1)) asked leader own (clock_of now.met) (unmoved k) leads) refl (λ new v. v) h.free (λ q x. cc)) written owned)

proposes_done : (users : Users) → (s : Setting) → (users.fits → Brought users.usage s.handlers) → (f : Frame) (now : Now) (o : Operation) (group : GroupId) (r : Reading) (p : ℕ) (own : Content) (promised : Promised) → FullAt users s f now o group p
    → (users.fits → OwnEntry s.cluster.schema users.usage (tape_of f now.sends) o.id group (take p (log_of now.met group)) own)
    → own.id ≡ Some o.id → (users.fits → Keeps s.cluster.schema (tape_of f now.sends) o.id group (record { 0 = p + 1 }) o.request promised)
    → DoneAt users s f o (proposes s now o group r p own promised)
proposes_done users s brought f now o group r p own promised h entry id keeps = go (leader_after s now group p) refl
  where
    go : (leader : Option ℕ) → leader_after s now group p ≡ leader → DoneAt users s f o (proposes_by s now o group r p own promised leader)
    go None e = ready_keeps users s.cluster f now.met now.kept now.answers now.sends o h.ready
    go (Some leader) e = proposes_there_done users s brought f now o group p (asked_by r) own promised leader h e entry id keeps

-- ---- a read that is complete

full_validates : (users : Users) → (s : Setting) → (users.fits → Brought users.usage s.handlers) → (f : Frame) (met : List Met) (kept : List Operation) (answers : List Met) (sends : List Message) (o : Operation) (group : GroupId) (p : ℕ) → Full users s f met kept answers sends o group p
    → Full users s f (Validates group p ∷ met) kept answers sends o group p
full_validates users s brought f met kept answers sends o group p h = record {
  ready = record {
    turn = turn_met users s.cluster f met (Validates group p ∷ met) kept answers sends o.id (prefix_more (Validates group p) met) (λ g n e k. ((h.ready).turn).known g n e k) (h.ready).turn;
    owned = (h.ready).owned;
    backed = backed_on s.cluster (tape_of f sends) (tape_of f sends) met (Validates group p ∷ met) o.id (same_tape o.id (tape_of f sends)) (prefix_more (Validates group p) met) o.phase (h.ready).backed;
    idle = idle_on (tape_of f sends) (tape_of f sends) met (Validates group p ∷ met) o.id (place_of o.phase) (same_tape o.id (tape_of f sends)) (prefix_more (Validates group p) met) (h.ready).idle;
  };
  free = idle_on (tape_of f sends) (tape_of f sends) met (Validates group p ∷ met) o.id None (same_tape o.id (tape_of f sends)) (prefix_more (Validates group p) met) h.free;
  through = (let le = h.through in let more = prefix_more (Validates group p) met group in omega (arith, le, more));
  none = h.none;
  serves = h.serves;
}

validated_full : (users : Users) → (s : Setting) → (users.fits → Brought users.usage s.handlers) → (f : Frame) (now : Now) (o : Operation) (group : GroupId) (p : ℕ) (refusal : Option NotValid) → FullAt users s f now o group p → FullAt users s f (validated_by now group p refusal) o group p
validated_full users s brought f now o group p (Some refusal) h = h
validated_full users s brought f now o group p None h = full_validates users s brought f now.met now.kept now.answers now.sends o group p h

validates_full : (users : Users) → (s : Setting) → (users.fits → Brought users.usage s.handlers) → (f : Frame) (now : Now) (o : Operation) (group : GroupId) (p : ℕ) (noted : Option Epoch) → FullAt users s f now o group p → FullAt users s f (validates s now group p noted) o group p
validates_full users s brought f now o group p None h = h
validates_full users s brought f now o group p (Some noted) h = validated_full users s brought f now o group p (refused_at s.cluster now.met group p noted) h

completes_full : (users : Users) → (s : Setting) → (users.fits → Brought users.usage s.handlers) → (f : Frame) (now : Now) (o : Operation) (group : GroupId) (r : Reading) (p : ℕ) → FullAt users s f now o group p → FullAt users s f (completes_read s now group r p) o group p
completes_full users s brought f now o group r p h = validates_full users s brought f _ o group p r.noted h

-- ---- what it comes to

done_if : (users : Users) → (s : Setting) → (users.fits → Brought users.usage s.handlers) → (f : Frame) (o : Operation) (t : Bool) (one other : Now) → DoneAt users s f o one → DoneAt users s f o other → DoneAt users s f o (cond t one other)
done_if users s brought f o true one other h k = h
done_if users s brought f o false one other h k = k

full_asked : (users : Users) → (s : Setting) → (f : Frame) (now : Now) (o : Operation) (group : GroupId) (p : ℕ) → FullAt users s f now o group p → users.fits → asked_for (users.usage).meaning (tape_of f now.sends) o.id ≡ Some o.request
full_asked users s f now o group p h fits = began_asked s.cluster.schema users.usage (tape_of f now.sends) o.id o.request (((h.ready).turn).written fits) ((h.ready).turn).named ((h.ready).owned fits).began

full_knows : (users : Users) → (s : Setting) → (f : Frame) (now : Now) (o : Operation) (group : GroupId) (p : ℕ) → FullAt users s f now o group p → Knows (tape_of f now.sends) (o.id).node.0 group (take p (log_of now.met group))
full_knows users s f now o group p h = knows_front (tape_of f now.sends) (o.id).node.0 now.met group p (turn_known users s.cluster f now.met now.kept now.answers now.sends o.id (h.ready).turn)

full_below : (users : Users) → (s : Setting) → (f : Frame) (now : Now) (o : Operation) (group : GroupId) (p : ℕ) → FullAt users s f now o group p → KnowsBelow (tape_of f now.sends) o.id group (take p (log_of now.met group)) (record { 0 = p + 1 })
full_below users s f now o group p h = record { known = full_knows users s f now o group p h; reaches = next (length (take p (log_of now.met group))) p (front_length now.met group p h.through) }
  where
    next : (l n : ℕ) → l ≡ n → n + 1 ≡ suc l
    next l n is = omega (arith, is)

leads_when : (users : Users) → (s : Setting) → (f : Frame) (o : Operation) (t : Bool) (one other : Next) → (t ≡ true → Leads users s f o one) → (t ≡ false → Leads users s f o other) → Leads users s f o (cond t one other)
leads_when users s f o true one other h k = h refl
leads_when users s f o false one other h k = k refl

sealed_done : (users : Users) → (s : Setting) → (users.fits → Brought users.usage s.handlers) → (f : Frame) (now : Now) (o : Operation) (group : GroupId) (r : Reading) (p : ℕ) (transaction : Transaction) → o.request ≡ Txn transaction → (result : Result Done TurnedBy) → outcome s.cluster.schema transaction (rows_at now group p) ≡ result → FullAt users s f now o group p → DoneAt users s f o (sealed s now o group r p result)
sealed_done users s brought f now o group r p transaction is (Err turn) comes h = reading_ends users s f now o (Turned turn) (h.ready).turn h.none
    (λ fits. of_write transaction (take p (log_of now.met group)) (full_asked users s f now o group p h fits ∙ ap Some is)
    (subst (λ g. Knows (tape_of f now.sends) (o.id).node.0 g (take p (log_of now.met group))) (sym (subst (λ q. Serves (tape_of f now.sends) o.id q o.message group) is (h.serves fits))) (full_knows users s f now o group p h)) comes)
sealed_done users s brought f now o group r p transaction is (Ok done) comes h = proposes_done users s brought f now o group r p (entry_of_done o.id done) (Replies done.replies) h
    (λ fits. runs transaction done (full_asked users s f now o group p h fits ∙ ap Some is) (subst (λ q. Serves (tape_of f now.sends) o.id q o.message group) is (h.serves fits)) comes refl) refl
    (λ fits. subst (λ r. Keeps s.cluster.schema (tape_of f now.sends) o.id group (record { 0 = p + 1 }) r (Replies done.replies)) (sym is)
    (record { below = take p (log_of now.met group); done = done; knows = full_below users s f now o group p h; comes = comes; shows = refl }))

batch_done : (users : Users) → (s : Setting) → (users.fits → Brought users.usage s.handlers) → (f : Frame) (now : Now) (o : Operation) (group : GroupId) (r : Reading) (p : ℕ) (theirs : GroupId) (transactions : List Transaction) → o.request ≡ BatchRequest theirs transactions → (b : Batch) → batch_outcome s.cluster.schema theirs transactions (rows_at now group p) ≡ b → FullAt users s f now o group p → DoneAt users s f o (batch_sealed s now o group r p b)
batch_done users s brought f now o group r p theirs transactions is b comes h = done_if users s brought f o (list_any is_ok b.results) (proposes s now o group r p (entry_of_batch o.id b) (Results b.results)) _
    (proposes_done users s brought f now o group r p (entry_of_batch o.id b) (Results b.results) h
    (λ fits. let same = subst (λ q. Serves (tape_of f now.sends) o.id q o.message group) is (h.serves fits) in
    runs_all transactions (full_asked users s f now o group p h fits ∙ ap Some is ∙ ap (λ g. Some (BatchRequest g transactions)) same)
    (ap (entry_of_batch o.id) (sym comes) ∙ ap (λ g. entry_of_batch o.id (batch_outcome s.cluster.schema g transactions (rows_at now group p))) same)) refl
    (λ fits. subst (λ r. Keeps s.cluster.schema (tape_of f now.sends) o.id group (record { 0 = p + 1 }) r (Results b.results)) (sym is)
    (record { below = take p (log_of now.met group); knows = full_below users s f now o group p h; shows = ap (λ (x : Batch). x.results) comes })))
    (reading_ends users s f now o (AllTurned b.results) (h.ready).turn h.none (λ fits. record {
      own = theirs;
      transactions = transactions;
      asked = full_asked users s f now o group p h fits ∙ ap Some is;
      below = take p (log_of now.met group);
      known = subst (λ g. Knows (tape_of f now.sends) (o.id).node.0 g (take p (log_of now.met group))) (sym (subst (λ q. Serves (tape_of f now.sends) o.id q o.message group) is (h.serves fits))) (full_knows users s f now o group p h);
      turns = ap (λ (x : Batch). x.results) comes;
    }))

unless_full_done : (users : Users) → (s : Setting) → (users.fits → Brought users.usage s.handlers) → (f : Frame) (now : Now) (o : Operation) (p : ℕ) (next : Next) → TurnAt users s f now o.id → (users.fits → Unproposed (tape_of f now.sends) o.id) → Leads users s f o next → Leads users s f o (unless_full s now o p next)
unless_full_done users s brought f now o p next h none k = leads_when users s f o (nat_le (s.cluster.limit).0 p) _ next (λ full. reading_ends users s f now o _ h none (λ fits. tt)) (λ room. k)

enters_done : (users : Users) → (s : Setting) → (users.fits → Brought users.usage s.handlers) → (f : Frame) (now : Now) (o : Operation) (group : GroupId) (r : Reading) (p : ℕ) (message : Option Enter) → o.request ≡ PumpEnter → o.message ≡ message → FullAt users s f now o group p
    → Leads users s f o (enters s now o group r p message)
enters_done users s brought f now o group r p None is says h = picks_to_enter_done users s brought f now o (asked_by r) (h.ready).turn h.free (λ fits. record { began = ((h.ready).owned fits).began; none = h.none fits; is = is })
enters_done users s brought f now o group r p (Some message) is says h = leads_when users s f o (is_named message.name (names_entered (take p (log_of now.met group)))) (picks_to_enter s now o (asked_by r)) (Rests (proposes s now o group r p (enter_entry o.id message) (Replies [])))
    (λ there. picks_to_enter_done users s brought f now o (asked_by r) (h.ready).turn h.free (λ fits. record { began = ((h.ready).owned fits).began; none = h.none fits; is = is }))
    (λ fresh. proposes_done users s brought f now o group r p (enter_entry o.id message) (Replies []) h
    (λ fits. let w : Waits (tape_of f now.sends) o.id group message = coe 0 1 (i. Serves (tape_of f now.sends) o.id (is i) (says i) group) (h.serves fits) in
    enters_one message w.entries w.one (full_asked users s f now o group p h fits ∙ ap Some is) w.known w.posted w.to w.says fresh refl) refl
    (λ fits. subst (λ r. Keeps s.cluster.schema (tape_of f now.sends) o.id group (record { 0 = p + 1 }) r (Replies [])) (sym is) tt))

-- a handling has its operation's id
either_id : (t : Bool) (x y : Content) (z : Option OpId) → x.id ≡ z → y.id ≡ z → (cond t x y).id ≡ z
either_id true x y z h k = h
either_id false x y z h k = k

handling_id : (s : Setting) (op : OpId) (group : GroupId) (message : Enter) (rows : Listed) → (handling s op group message rows).id ≡ Some op
handling_id s op group message rows = either_id _ _ _ (Some op) refl refl

handles_done : (users : Users) → (s : Setting) → (users.fits → Brought users.usage s.handlers) → (f : Frame) (now : Now) (o : Operation) (group : GroupId) (r : Reading) (p : ℕ) (message : Option Enter) → o.request ≡ PumpHandle → oldest_unhandled (take p (log_of now.met group)) ≡ message → FullAt users s f now o group p
    → Leads users s f o (handles s now o group r p message)
handles_done users s brought f now o group r p None is oldest h = picks_to_handle_done users s brought f now o (asked_by r) (h.ready).turn h.free (λ fits. record { began = ((h.ready).owned fits).began; none = h.none fits; is = is })
handles_done users s brought f now o group r p (Some message) is oldest h = leads_when users s f o (has s.handlers message.queue)
    (Rests (proposes s now o group r p (handling s o.id group message (table_rows s.cluster.schema group (listed_at now group p))) (Replies []))) _
    (λ there. proposes_done users s brought f now o group r p (handling s o.id group message (table_rows s.cluster.schema group (listed_at now group p))) (Replies []) h
    (λ fits. handles_one message (brought fits).moment (full_asked users s f now o group p h fits ∙ ap Some is) oldest
    (λ i. handled_by s.cluster.schema (sym (brought fits).is i) group o.id message (take p (log_of now.met group))))
    (handling_id s o.id group message (table_rows s.cluster.schema group (listed_at now group p)))
    (λ fits. subst (λ r. Keeps s.cluster.schema (tape_of f now.sends) o.id group (record { 0 = p + 1 }) r (Replies [])) (sym is) tt)) (λ none. reading_ends users s f now o _ (h.ready).turn h.none (λ fits. tt))

finishes_done : (users : Users) → (s : Setting) → (users.fits → Brought users.usage s.handlers) → (f : Frame) (now : Now) (id : OpId) (request : Request) (began : ℕ) (visited : List GroupId) (message : Option Enter) (phase : Phase)
    (group : GroupId) (r : Reading) (p : ℕ) → FullAt users s f now (record { id = id; request = request; began = began; visited = visited; message = message; phase = phase }) group p
    → Leads users s f (record { id = id; request = request; began = began; visited = visited; message = message; phase = phase })
    (finishes s now (record { id = id; request = request; began = began; visited = visited; message = message; phase = phase }) group r p)
finishes_done users s brought f now id (Txn transaction) began visited message phase group r p h =
    unless_full_done users s brought f now (record { id = id; request = Txn transaction; began = began; visited = visited; message = message; phase = phase }) p _ (h.ready).turn h.none
    (sealed_done users s brought f now (record { id = id; request = Txn transaction; began = began; visited = visited; message = message; phase = phase }) group r p transaction refl (outcome s.cluster.schema transaction (rows_at now group p)) refl h)
finishes_done users s brought f now id (BatchRequest own transactions) began visited message phase group r p h =
    unless_full_done users s brought f now (record { id = id; request = BatchRequest own transactions; began = began; visited = visited; message = message; phase = phase }) p _ (h.ready).turn h.none
    (batch_done users s brought f now (record { id = id; request = BatchRequest own transactions; began = began; visited = visited; message = message; phase = phase }) group r p own transactions refl (batch_outcome s.cluster.schema own transactions (rows_at now group p)) refl h)
finishes_done users s brought f now id (ReadRequested request) began visited message phase group r p h = reading_ends users s f now (record { id = id; request = ReadRequested request; began = began; visited = visited; message = message; phase = phase }) _ (h.ready).turn h.none
    (λ fits. read_cause s users.usage (tape_of f now.sends) id request p (rows_at now group p) (listed_at now group p) (full_asked users s f now _ group p h fits) (λ is. record {
      below = take p (log_of now.met group);
      known = subst (λ g. Knows (tape_of f now.sends) id.node.0 g (take p (log_of now.met group))) (sym (h.serves fits)) (full_knows users s f now _ group p h);
      reaches = sym (front_length now.met group p h.through);
      rows_are = refl;
      listed_are = refl;
    }))
finishes_done users s brought f now id (Find request) began visited message phase group r p h = reading_ends users s f now (record { id = id; request = Find request; began = began; visited = visited; message = message; phase = phase }) _ (h.ready).turn h.none
    (λ fits. found_cause s.cluster.schema users.usage (tape_of f now.sends) id request (group_marks request.group p) (group_bytes request.group) (listed_at now group p) (numbered (s.cluster.schema).indexes request.index) (full_asked users s f now _ group p h fits))
finishes_done users s brought f now id PumpEnter began visited message phase group r p h =
    unless_full_done users s brought f now (record { id = id; request = PumpEnter; began = began; visited = visited; message = message; phase = phase }) p _ (h.ready).turn h.none
    (enters_done users s brought f now (record { id = id; request = PumpEnter; began = began; visited = visited; message = message; phase = phase }) group r p message refl refl h)
finishes_done users s brought f now id PumpHandle began visited message phase group r p h =
    unless_full_done users s brought f now (record { id = id; request = PumpHandle; began = began; visited = visited; message = message; phase = phase }) p _ (h.ready).turn h.none
    (handles_done users s brought f now (record { id = id; request = PumpHandle; began = began; visited = visited; message = message; phase = phase }) group r p (oldest_unhandled (take p (log_of now.met group))) refl refl h)
finishes_done users s brought f now id Refresh began visited message phase group r p h = ready_keeps users s.cluster f now.met now.kept now.answers now.sends _ h.ready

-- ---- reading on

-- the place of a search that a read needs is decided where all that it needs is
closed : (tape : List Item) (met : List Met) (c : Cluster) (op : OpId) (group : GroupId) (through : ℕ) (search : Option Search) → through ≤ prefix_of met group → BackedStage c tape met op group (Catching through search)
    → Idle tape met op (stage_place group (Catching through search)) → Idle tape met op None
closed tape met c op group through None le b idle = idle
closed tape met c op group through (Some (Fetching position denials at)) le b idle = idle
closed tape met c op group through (Some (Filling position proposal)) le b idle = idle_none tape met op (Some (at_place group position)) idle
    (λ q e. subst (λ (x : Place). x.position.0 ≤ prefix_of met x.group) (place_is (at_place group position) q e) (let less = (b.0).0 in omega (arith, less, le)))

reads_on_done : (users : Users) → (s : Setting) → (users.fits → Brought users.usage s.handlers) → (f : Frame) (now : Now) (id : OpId) (request : Request) (began : ℕ) (visited : List GroupId) (message : Option Enter)
    (group : GroupId) (noted : Option Epoch) (asked : List ℕ) (stage : Stage)
    → ReadyAt users s f now (record { id = id; request = request; began = began; visited = visited; message = message; phase = Reads group (record { noted = noted; asked = asked; stage = stage }) })
    → Leads users s f (record { id = id; request = request; began = began; visited = visited; message = message; phase = Reads group (record { noted = noted; asked = asked; stage = stage }) })
    (reads_on s now (record { id = id; request = request; began = began; visited = visited; message = message; phase = Reads group (record { noted = noted; asked = asked; stage = stage }) }) group (record { noted = noted; asked = asked; stage = stage }))
reads_on_done users s brought f now id request began visited message group noted asked (Polling heard best at) h = ready_keeps users s.cluster f now.met now.kept now.answers now.sends _ h
reads_on_done users s brought f now id request began visited message group noted asked (Catching p search) h = go (nat_le p (prefix_of now.met group)) refl
  where
    r : Reading
    r = record { noted = noted; asked = asked; stage = Catching p search }

    o : Operation
    o = record { id = id; request = request; began = began; visited = visited; message = message; phase = Reads group r }

    le_is : (a b : ℕ) → nat_le a b ≡ true → a ≤ b
    le_is a b k = grind (arith, nat_tests)

    above_is : (a b : ℕ) → nat_le a b ≡ false → b + 1 ≤ a
    above_is a b k = grind (arith, nat_tests)

    go : (t : Bool) → nat_le p (prefix_of now.met group) ≡ t → Leads users s f o (cond t (finishes s (completes_read s now group r p) o group r p)
        (Rests (seeks_on o now group (seeks (who s.cluster id group) r (prefix_of now.met group + 1) (clock_of now.met)))))
    go true e = finishes_done users s brought f (completes_read s now group r p) id request began visited message (Reads group r) group r p
        (completes_full users s brought f now o group r p (record { ready = h; free = closed (tape_of f now.sends) now.met s.cluster id group p search (le_is p (prefix_of now.met group) e) h.backed h.idle; through = le_is p (prefix_of now.met group) e; none = λ fits. ((h.owned fits).mine).none; serves = λ fits. ((h.owned fits).mine).serves }))
    go false e = ready_keeps users s.cluster f now.met now.kept _ _ _ (reads_ready users s brought f now o group (seeks (who s.cluster id group) r (prefix_of now.met group + 1) (clock_of now.met)) h.turn
        (seeks_acts s.cluster (tape_of f now.sends) now.met id group noted asked p (clock_of now.met) search (above_is p (prefix_of now.met group) e) h.backed h.idle)
        (λ fits. seeks_wrote s.cluster users.usage (tape_of f now.sends) now.met id group noted asked p (clock_of now.met) search (turn_context users s.cluster f now.met now.kept now.answers now.sends id h.turn fits ((h.owned fits).mine).none) (above_is p (prefix_of now.met group) e) ((h.owned fits).mine).plain)
        (λ fits. record { began = (h.owned fits).began; none = ((h.owned fits).mine).none; serves = ((h.owned fits).mine).serves }))

acts_done : (users : Users) → (s : Setting) → (users.fits → Brought users.usage s.handlers) → (f : Frame) (now : Now) (id : OpId) (request : Request) (began : ℕ) (visited : List GroupId) (message : Option Enter) (phase : Phase)
    → ReadyAt users s f now (record { id = id; request = request; began = began; visited = visited; message = message; phase = phase })
    → Leads users s f (record { id = id; request = request; began = began; visited = visited; message = message; phase = phase })
    (acts s now (record { id = id; request = request; began = began; visited = visited; message = message; phase = phase }))
acts_done users s brought f now id request began visited message (Reads group r) h = reads_on_done users s brought f now id request began visited message group r.noted r.asked r.stage h
acts_done users s brought f now id request began visited message (Proposes group n asked proposal promised) h = go (decided now.met group n) refl
  where
    o : Operation
    o = record { id = id; request = request; began = began; visited = visited; message = message; phase = Proposes group n asked proposal promised }

    go : (d : Option Content) → decided now.met group n ≡ d → DoneAt users s f o (unless_decided now o n promised d)
    go None e = ready_keeps users s.cluster f now.met now.kept now.answers now.sends o h
    go (Some entry) e = turn_ends users s.cluster f now.met now.kept now.answers now.sends id _ h.turn (λ fits.
        verdict_given s.cluster.schema users.usage (tape_of f now.sends) id request group n proposal.own promised entry ((h.turn).written fits) (h.turn).named
        (began_asked s.cluster.schema users.usage (tape_of f now.sends) id request ((h.turn).written fits) (h.turn).named (h.owned fits).began)
        (turn_known users s.cluster f now.met now.kept now.answers now.sends id h.turn group n entry e) (h.owned fits).mine)

-- until it rests
same_done : (users : Users) → (s : Setting) (f : Frame) (o other : Operation) (now : Now) → other.id ≡ o.id → DoneAt users s f other now → DoneAt users s f o now
same_done users s f o other now same h = subst (λ (id : OpId). Fine users s.cluster f (id.number + 1) now.met now.kept now.answers now.sends) same h

pub rests_done : (users : Users) → (s : Setting) → (users.fits → Brought users.usage s.handlers) → (f : Frame) (most : ℕ) (o : Operation) (next : Next) → Leads users s f o next → DoneAt users s f o (rests_within most s next)
rests_done users s brought f most o (Rests now) h = h
rests_done users s brought f zero o (ActsAgain now other) h = same_done users s f o other (keeps now other) h.0 (ready_keeps users s.cluster f now.met now.kept now.answers now.sends other h.1)
rests_done users s brought f (suc most) o (ActsAgain now other) h = same_done users s f o other (rests_within most s (acts s now other)) h.0
    (rests_done users s brought f most other (acts s now other) (acts_done users s brought f now other.id other.request other.began other.visited other.message other.phase h.1))

pub goes_on_done : (users : Users) → (s : Setting) → (users.fits → Brought users.usage s.handlers) → (f : Frame) (now : Now) (o : Operation) → ReadyAt users s f now o → DoneAt users s f o (goes_on s now o)
goes_on_done users s brought f now o h = rests_done users s brought f (length (groups_of now.met) + 2) o (ActsAgain now o) (refl, h)
