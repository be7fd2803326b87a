-- What a node sends of its own accord: whatever holds of each message that it may send. None of it is a promise or a vote.
use Rattle.std.proofs.Common.{ℕ, nat_lt, ◌&&◌, Bool, true, false, cond, List, [], ◌∷◌, map, flat_map, Option, Some, None, refl}
use Rattle.std.specs.List.{All}
use Rattle.mega_base.specs.declared.names.Epoch.{Epoch}
use Rattle.mega_base.specs.declared.names.GroupId.{GroupId}
use Rattle.mega_base.specs.declared.names.OpId.{OpId}
use Rattle.mega_cluster.specs.declared.cluster.Cluster.{Cluster}
use Rattle.mega_coordinator.specs.History.{Call, Ticks as CoordinatorTicks, counted_cells, epoch_after, serving}
use Rattle.mega_wire.specs.declared.message.Message.{Message}
use Rattle.mega_voter.specs.of_read.of_propose.Members.{others}
use Rattle.mega_voter.specs.of_read.of_propose.declared.round.Site.{Site}
use Rattle.mega_voter.specs.of_read.of_propose.declared.round.Proposal.{Proposal}
use Rattle.mega_voter.specs.of_read.of_propose.Rounds.{due}
use Rattle.mega_voter.specs.of_read.declared.reading.Reader.{Reader}
use Rattle.mega_voter.specs.of_read.Catching.{site}
use Rattle.mega_voter.specs.of_rules.Met.{Met}
use Rattle.mega_voter.specs.of_rules.Members.{has_rows, is_full, nodes, voters}
use Rattle.mega_voter.specs.of_rules.Clock.{does_again, start_of, ticks_of}
use Rattle.mega_voter.specs.of_rules.Logs.{groups_of, newest_of, prefix_of}
use Rattle.mega_voter.specs.of_rules.Coordinators.{acquire_to, acquires, acquires_at, asked_cells, coordinator_calls}
use Rattle.mega_voter.specs.of_rules.Operations.{Operation, Phase, Proposes, Reads, Setting}
use Rattle.mega_voter.specs.of_rules.Acting.{reader_of}
use Rattle.mega_voter.specs.of_rules.Steps.{Decision, background, decide_to, does_due, fetch_to, fetches_for, hears_message, news}
use Rattle.mega_node_laws.specs.Asking.{Asks}
use Rattle.mega_node_laws.proofs.Rounds.{MayPress, MayPropose, due_hold, none, of_each, takes_hold, to_each}
use Rattle.mega_node_laws.proofs.Reading.{MayRead, falls_due_hold, hears_hold}

-- what a node may send of its own accord, but for what it asks the cells
pub record MayAct (A : Message → Type 0) (s : Setting) : Type 0 where
  pub reads : (id : OpId) (group : GroupId) → MayRead A (reader_of s id group)
  pub decides : (d : Decision) (to : ℕ) → A (decide_to s.me d to)
  pub fetches : (met : List Met) (group : GroupId) (to : ℕ) → A (fetch_to s met group to)

-- and to cover those who did not vote
abbrev pub MayCover : (Message → Type 0) → Setting → Type 0
MayCover A s = (id : OpId) (group : GroupId) (asked : List ℕ) (position : ℕ) → MayPress A (site (reader_of s id group) asked position)

if_so : (A : Message → Type 0) (t : Bool) (sends : List Message) → All A sends → All A (cond t sends [])
if_so A true sends h = h
if_so A false sends h = none A

module _ (A : Message → Type 0) (s : Setting) (may : MayAct A s) where
  -- ---- what an open operation sends

  heard_hold : (now : ℕ) (m : Message) (o : Operation) (phase : Phase) → All A (hears_message s now m (record { id = o.id; request = o.request; began = o.began; visited = o.visited; message = o.message; phase = phase })).sends
  heard_hold now m o (Reads group r) = hears_hold A (reader_of s o.id group) (may.reads o.id group) r m.from now m.body
  heard_hold now m o (Proposes group n asked p promised) = takes_hold A (site (reader_of s o.id group) asked n) ((may.reads o.id group).proposes asked n) p m.from now m.body

  pub hears_message_hold : (now : ℕ) (m : Message) (o : Operation) → All A (hears_message s now m o).sends
  hears_message_hold now m o = heard_hold now m o o.phase

  round_due : MayCover A s → (now : ℕ) (id : OpId) (group : GroupId) (asked : List ℕ) (position : ℕ) (p : Proposal) → All A (due (site (reader_of s id group) asked position) p s.cluster.retry now).sends
  round_due cover now id group asked position p =
      due_hold A (site (reader_of s id group) asked position) ((may.reads id group).proposes asked position) p (λ ballot entry whom sent is. cover id group asked position) s.cluster.retry now

  due_by : MayCover A s → (now : ℕ) (o : Operation) (phase : Phase) → All A (does_due s now (record { id = o.id; request = o.request; began = o.began; visited = o.visited; message = o.message; phase = phase })).sends
  due_by cover now o (Reads group r) =
      falls_due_hold A (reader_of s o.id group) (may.reads o.id group) r s.cluster.retry now (λ through position p is. round_due cover now o.id group r.asked position p)
  due_by cover now o (Proposes group n asked p promised) = round_due cover now o.id group asked n p

  pub does_due_hold : MayCover A s → (now : ℕ) (o : Operation) → All A (does_due s now o).sends
  does_due_hold cover now o = due_by cover now o o.phase

  -- ---- what a node sends by itself

  pub news_hold : (d : Option Decision) → All A (news s d)
  news_hold None = none A
  news_hold (Some d) = to_each A (decide_to s.me d) (may.decides d) (others s.me (nodes s.cluster))

  pub background_hold : (met : List Met) (now : ℕ) → All A (background s met now)
  background_hold met now =
      if_so A (has_rows s.cluster s.me && does_again s.cluster.retry (ticks_of met) now) (flat_map (fetches_for s met) (groups_of met))
      (of_each A (fetches_for s met)
      (λ group. if_so A (nat_lt (prefix_of met group) (newest_of met group)) (map (fetch_to s met group) (others s.me (voters s.cluster))) (to_each A (fetch_to s met group) (may.fetches met group) (others s.me (voters s.cluster))))
      (groups_of met))

-- ---- none of it is a promise or a vote

pub asks_propose : (s : Site) → MayPropose Asks s
asks_propose s = record { accepts = λ ballot entry to. refl; prepares = λ ballot to. refl }

pub asks_press : (s : Site) → MayPress Asks s
asks_press s = record { invalidates = λ to. refl; buries = λ node cell. refl }

pub asks_read : (who : Reader) → MayRead Asks who
asks_read who = record { inquires = λ to. refl; fetches = λ position to. refl; proposes = λ asked position. asks_propose (site who asked position) }

pub asks_act : (s : Setting) → MayAct Asks s
asks_act s = record { reads = λ id group. asks_read (reader_of s id group); decides = λ d to. refl; fetches = λ met group to. refl }

pub asks_cover : (s : Setting) → MayCover Asks s
asks_cover s id group asked position = asks_press (site (reader_of s id group) asked position)

pub hears_message_asks : (s : Setting) (now : ℕ) (m : Message) (o : Operation) → All Asks (hears_message s now m o).sends
hears_message_asks s now m o = hears_message_hold Asks s (asks_act s) now m o

pub news_ask : (s : Setting) (d : Option Decision) → All Asks (news s d)
news_ask s d = news_hold Asks s (asks_act s) d

pub background_asks : (s : Setting) (met : List Met) (now : ℕ) → All Asks (background s met now)
background_asks s met now = background_hold Asks s (asks_act s) met now

acquires_ask : (c : Cluster) (me : ℕ) (calls : List Call) (start now : ℕ) (epoch : Option Epoch) → All Asks (acquires c me calls start now epoch)
acquires_ask c me calls start now None = none Asks
acquires_ask c me calls start now (Some epoch) =
    to_each Asks (acquire_to me epoch now) (λ cell. refl) (asked_cells c (counted_cells start c.cells calls) (serving start c.cells calls))

pub acquires_at_asks : (c : Cluster) (me : ℕ) (met : List Met) (now : ℕ) → All Asks (acquires_at c me met now)
acquires_at_asks c me met now =
    if_so Asks (is_full c me && does_again c.retry (ticks_of met) now)
    (acquires c me (CoordinatorTicks now ∷ coordinator_calls c met) (start_of met) now (epoch_after (start_of met) c.cells (CoordinatorTicks now ∷ coordinator_calls c met)))
    (acquires_ask c me (CoordinatorTicks now ∷ coordinator_calls c met) (start_of met) now (epoch_after (start_of met) c.cells (CoordinatorTicks now ∷ coordinator_calls c met)))
