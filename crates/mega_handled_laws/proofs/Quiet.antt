-- Messages that propose nothing: those of a read that begins or turns to its next position, and those that a node sends by itself.
use Rattle.std.proofs.Common.{◌≡◌, ℕ, ◌+◌, ◌&&◌, nat_le, nat_lt, Bool, true, false, cond, List, [], ◌∷◌, map, flat_map, Option, Some, None, refl}
use Rattle.mega_base.specs.declared.names.Epoch.{Epoch}
use Rattle.mega_base.specs.declared.names.GroupId.{GroupId}
use Rattle.mega_cluster.specs.declared.cluster.Cluster.{Cluster}
use Rattle.mega_coordinator.specs.History.{Call, Ticks as CoordinatorTicks, counted_cells, epoch_after, serving}
use Rattle.mega_wire.specs.declared.message.Message.{Message}
use Rattle.mega_wire.specs.declared.message.Body.{Body}
use Rattle.mega_run_laws.specs.of_transcript.declared.item.Item.{Item}
use Rattle.mega_run_laws.specs.of_rules.of_read.of_propose.Members.{others}
use Rattle.mega_run_laws.specs.of_rules.of_read.of_propose.declared.round.Site.{Site}
use Rattle.mega_run_laws.specs.of_rules.of_read.of_propose.declared.round.Proposal.{Proposal}
use Rattle.mega_run_laws.specs.of_rules.of_read.of_propose.declared.round.Move.{Move as RoundMove}
use Rattle.mega_run_laws.specs.of_rules.of_read.of_propose.declared.round.Round.TheVariants.{Preparing, Waiting}
use Rattle.mega_run_laws.specs.of_rules.of_read.of_propose.Rounds.{last_round, move as round_move, next_ballot, prepare_to, prepares}
use Rattle.mega_run_laws.specs.of_rules.of_read.declared.reading.Move.{Move as ReadMove}
use Rattle.mega_run_laws.specs.of_rules.of_read.declared.reading.Reader.{Reader}
use Rattle.mega_run_laws.specs.of_rules.of_read.declared.reading.Reading.{Reading}
use Rattle.mega_run_laws.specs.of_rules.of_read.declared.reading.Stage.{Stage}
use Rattle.mega_run_laws.specs.of_rules.of_read.declared.reading.Stage.TheVariants.{Polling, Catching}
use Rattle.mega_run_laws.specs.of_rules.of_read.declared.reading.Search.TheVariants.{Fetching}
use Rattle.mega_run_laws.specs.of_rules.of_read.Catching.{asked_by, fetch_to, fetches, fills, helpers, is_position, local_read, move, no_op, polled_read, searched, seeks, site, stays, where_to}
use Rattle.mega_run_laws.specs.of_rules.Clock.{clock_of, does_again, start_of, ticks_of}
use Rattle.mega_run_laws.specs.of_rules.Coordinators.{acquire_to, acquires, acquires_at, asked_cells, coordinator_calls, serves_at, valid_at}
use Rattle.mega_run_laws.specs.of_rules.Logs.{groups_of, newest_of, prefix_of, top_of}
use Rattle.mega_run_laws.specs.of_rules.Members.{has_rows, is_full, nodes, voters}
use Rattle.mega_run_laws.specs.of_rules.Met.{Met}
use Rattle.mega_run_laws.specs.of_rules.Operations.{Now, Operation, Setting}
use Rattle.mega_run_laws.specs.of_rules.Acting.{is_visited, read_begun, reader_of}
use Rattle.mega_run_laws.specs.of_rules.Replies.{answer_to, reply_message, reply_to}
use Rattle.mega_run_laws.specs.of_rules.Steps.{Decision, background, decide_to, fetch_to as background_to, fetches_for, news}
use Rattle.mega_run_laws.specs.of_tape_laws.Lawful.{message}
use Rattle.mega_run_laws.specs.of_tape_laws.Places.{Took}
use Rattle.mega_run_laws.specs.Justified.{Each}
use Rattle.mega_run_laws.specs.Shows.{Shows}
use Rattle.mega_run_laws.proofs.Free.{each_flat, each_of}
use Rattle.mega_run_laws.proofs.MayAnswer.{answer_told}
use Rattle.mega_run_laws.proofs.Owned.{NoAccept}

abbrev pub Quiet : Message → Type 0
Quiet m = NoAccept m.body

abbrev pub AreQuiet : List Message → Type 0
AreQuiet ms = Each Quiet ms

if_quiet : (t : Bool) (ms : List Message) → AreQuiet ms → AreQuiet (cond t ms [])
if_quiet true ms h = h
if_quiet false ms h = tt

-- ---- reads

polled_quiet : (who : Reader) (noted : Option Epoch) (asked : List ℕ) (clock : ℕ) → AreQuiet (polled_read who noted asked clock).sends
polled_quiet who noted asked clock = each_of NoAccept (where_to who) (λ to. tt) who.voters

pub begun_quiet : (s : Setting) (now : Now) (o : Operation) (group : GroupId) (asked : List ℕ) → AreQuiet (read_begun s now o group asked).sends
begun_quiet s now o group asked = by (is_visited o group) (valid_at s.cluster now.met group)
  where
    by : (t u : Bool) → AreQuiet (cond {A = ReadMove} t (polled_read (reader_of s o.id group) None asked (clock_of now.met))
        (cond u (local_read asked (top_of now.met group)) (polled_read (reader_of s o.id group) (serves_at s.cluster now.met) asked (clock_of now.met)))).sends
    by true u = polled_quiet (reader_of s o.id group) None asked (clock_of now.met)
    by false true = tt
    by false false = polled_quiet (reader_of s o.id group) (serves_at s.cluster now.met) asked (clock_of now.met)

prepares_quiet : (s : Site) (p : Proposal) (clock : ℕ) → AreQuiet (prepares s p clock).sends
prepares_quiet s p clock = by (nat_le last_round p.seen)
  where
    by : (t : Bool) → AreQuiet (cond {A = RoundMove} t (round_move p Waiting [])
        (record { proposal = record { own = p.own; seen = p.seen + 1; round = Preparing (next_ballot s p) [] clock }; sends = map (prepare_to s (next_ballot s p)) s.voters })).sends
    by true = tt
    by false = each_of NoAccept (prepare_to s (next_ballot s p)) (λ to. tt) s.voters

fills_quiet : (who : Reader) (r : Reading) (through position clock : ℕ) → AreQuiet (fills who r through position clock).sends
fills_quiet who r through position clock = prepares_quiet (site who r.asked position) (record { own = no_op who; seen = 0; round = Waiting }) clock

abbrev fetched_by : Reader → Reading → ℕ → ℕ → ℕ → List ℕ → ReadMove
fetched_by who r through position clock [] = fills who r through position clock
fetched_by who r through position clock (voter ∷ those) = move r (Catching through (Some (Fetching position [] clock))) (map (fetch_to who position) (voter ∷ those))

fetches_quiet : (who : Reader) (r : Reading) (through position clock : ℕ) → AreQuiet (fetches who r through position clock).sends
fetches_quiet who r through position clock = by (helpers who)
  where
    by : (those : List ℕ) → AreQuiet (fetched_by who r through position clock those).sends
    by [] = fills_quiet who r through position clock
    by (voter ∷ those) = each_of NoAccept (fetch_to who position) (λ to. tt) (voter ∷ those)

seeks_by : (who : Reader) (noted : Option Epoch) (asked : List ℕ) (least clock : ℕ) (stage : Stage) → AreQuiet (seeks who (record { noted = noted; asked = asked; stage = stage }) least clock).sends
seeks_by who noted asked least clock (Polling heard best at) = tt
seeks_by who noted asked least clock (Catching through search) = by (is_position least (searched search))
  where
    r : Reading
    r = record { noted = noted; asked = asked; stage = Catching through search }

    next : Reading
    next = record { noted = noted; asked = asked_by r; stage = Catching through search }

    by : (t : Bool) → AreQuiet (cond {A = ReadMove} t (stays r) (fetches who next through least clock)).sends
    by true = tt
    by false = fetches_quiet who next through least clock

pub seeks_quiet : (who : Reader) (r : Reading) (least clock : ℕ) → AreQuiet (seeks who r least clock).sends
seeks_quiet who r least clock = seeks_by who r.noted r.asked least clock r.stage

-- ---- what a node sends by itself

pub reply_quiet : (c : Cluster) (tape : List Item) (me : ℕ) (met : List Met) (m : Message) → Shows tape me met → Took tape (message m.from me m.body) → AreQuiet (reply_to c me met m)
reply_quiet c tape me met m s took = by (answer_to c me met m.from m.body) (λ answer is. (answer_told c tape me m.from met s m.body took answer is).2)
  where
    by : (o : Option Body) → ((answer : Body) → o ≡ Some answer → NoAccept answer) → AreQuiet (reply_message me m.from o)
    by None h = tt
    by (Some answer) h = (h answer refl, tt)

pub news_quiet : (s : Setting) (d : Option Decision) → AreQuiet (news s d)
news_quiet s None = tt
news_quiet s (Some d) = each_of NoAccept (decide_to s.me d) (λ to. tt) (others s.me (nodes s.cluster))

acquires_by : (c : Cluster) (me : ℕ) (calls : List Call) (start clock : ℕ) (o : Option Epoch) → AreQuiet (acquires c me calls start clock o)
acquires_by c me calls start clock None = tt
acquires_by c me calls start clock (Some epoch) = each_of NoAccept (acquire_to me epoch clock) (λ to. tt) (asked_cells c (counted_cells start c.cells calls) (serving start c.cells calls))

pub acquires_quiet : (c : Cluster) (me : ℕ) (met : List Met) (clock : ℕ) → AreQuiet (acquires_at c me met clock)
acquires_quiet c me met clock =
    if_quiet (is_full c me && does_again c.retry (ticks_of met) clock)
    (acquires c me (CoordinatorTicks clock ∷ coordinator_calls c met) (start_of met) clock (epoch_after (start_of met) c.cells (CoordinatorTicks clock ∷ coordinator_calls c met)))
    (acquires_by c me (CoordinatorTicks clock ∷ coordinator_calls c met) (start_of met) clock (epoch_after (start_of met) c.cells (CoordinatorTicks clock ∷ coordinator_calls c met)))

pub background_quiet : (s : Setting) (met : List Met) (clock : ℕ) → AreQuiet (background s met clock)
background_quiet s met clock =
    if_quiet (has_rows s.cluster s.me && does_again s.cluster.retry (ticks_of met) clock) (flat_map (fetches_for s met) (groups_of met))
    (each_flat NoAccept (fetches_for s met)
    (λ group. if_quiet (nat_lt (prefix_of met group) (newest_of met group)) (map (background_to s met group) (others s.me (voters s.cluster))) (each_of NoAccept (background_to s met group) (λ to. tt) (others s.me (voters s.cluster))))
    (groups_of met))
