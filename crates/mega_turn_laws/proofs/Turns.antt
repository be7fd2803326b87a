-- Turns may happen, one after another, where what the node decided by their end is the groups' own.
use Rattle.std.proofs.Common.{◌≡◌, ℕ, ◌<◌, ◌^◌, ◌==◌, ◌&&◌, Bool, true, false, cond, List, [], ◌∷◌, Option, Some, None, Result, Ok, Err, refl, sym, subst, arith}
use Rattle.std.specs.Prelude.{option_map}
use Rattle.mega_base.specs.Reading.{whole_of}
use Rattle.mega_cluster.specs.declared.cluster.Cluster.{Cluster}
use Rattle.mega_handler.specs.Named.{Meanings}
use Rattle.mega_link.specs.Datagrams.{Datagram}
use Rattle.mega_schema.specs.declared.schema.Schema.{Schema}
use Rattle.mega_wire.specs.declared.message.Message.{Message}
use Rattle.mega_wire.specs.declared.message.Body.{Body}
use Rattle.mega_wire.specs.declared.message.Body.TheVariants.{Request as Requests}
use Rattle.mega_wire.specs.Messages.{message_at}
use Rattle.mega_wal.specs.History.{starts_of}
use Rattle.mega_wal.specs.Records.{first_bad, history_of}
use Rattle.mega_wal.proofs.Formatted.{history_fits}
use Rattle.mega_rules.specs.Logs.{log_of}
use Rattle.mega_rules.specs.Operations.{Node, Setting}
use Rattle.mega_rules.specs.Steps.{Begin, Event, Tick, step}
use Rattle.mega_node_laws.specs.Own.{HasOwnRows}
use Rattle.mega_format_laws.specs.Histories.{IsClock, IsCluster}
use Rattle.mega_format_laws.specs.Nodes.{IsEvent, IsNode, IsSetting}
use Rattle.mega_format_laws.specs.Requests.{AreHandlers}
use Rattle.mega_format_laws.specs.Rounds.{Each, IsMember}
use Rattle.mega_format_laws.proofs.Each.{each_of_all}
use Rattle.mega_format_laws.proofs.Whole.{whole_step}
use Rattle.mega_wal.specs.Items.{IsItem}
use Rattle.mega_promises.specs.Runs.{names_nothing, setting}
use Rattle.mega_promises.specs.Served.{Asks, Got, Line, OfClient, OfNode, Peer, Refuses, Served, Wish, given, is_from, received, served, served_start, takes_message, ticked, wished, with_lines}
use Rattle.mega_serve.specs.declared.steps.Steps.{Ghosts as StepsGhosts}
use Rattle.mega_serve.specs.Turns.{AreTimes, IfSome, MayReceive, MayServe, brought_by, event_in, message_event, requested_event, served_by, turn_of, turned_by, turns_of, wished_event}
use Rattle.mega_serve.specs.Wishes.{wish_of}
use Rattle.mega_server.specs.Serving.{MayStep}
use Rattle.mega_turn_laws.proofs.Events.{event_formed}
use Rattle.mega_turn_laws.proofs.Started.{start_formed}
use Rattle.mega_turn_laws.proofs.Steps.{may_step, owned_back}

-- a node behind an event, if there is one
abbrev pub after : Setting → Node → Option Event → Node
after s node None = node
after s node (Some event) = (step s node event).node

-- ---- what a datagram makes of a served node is the step of the event that it brings

module _ (c : Cluster) (me : ℕ) (wish : List ℕ → Wish) (h : Meanings) (now : Served) where
  -- it goes on to this served node by that event
  abbrev Goes : Option Event → Served → Type 0
  Goes event next = next.node ≡ after (setting c h me) now.node event

  either_goes : (t : Bool) (one other : Option Event) (x y : Served) → Goes one x → Goes other y → Goes (cond t one other) (cond t x y)
  either_goes true one other x y first second = first
  either_goes false one other x y first second = second

  wish_goes : (got : List Line) (client token : ℕ) (asked : Wish) → Goes (wished_event asked) (wished c me h now got client token asked)
  wish_goes got client token (Refuses reason) = refl
  wish_goes got client token (Asks request text) = either_goes (names_nothing request) None (Some (Begin request text)) _ _ refl refl

  -- what a client's message comes to
  abbrev by_body : List Line → ℕ → Body → Served
  by_body got client (Requests token json) = wished c me h now got client token (wish json)
  by_body got client _ = with_lines now got

  body_goes : (got : List Line) (client : ℕ) (body : Body) → Goes (requested_event wish body) (by_body got client body)
  body_goes got client (Requests token json) = wish_goes got client token (wish json)
  body_goes got client _ = refl

  message_goes : (got : List Line) (from : Peer) (m : Message) → Goes (message_event wish from m) (takes_message c me wish h now got from m)
  message_goes got (OfNode node) m = refl
  message_goes got (OfClient client) m = body_goes got client m.body

  given_goes : (got : List Line) (from : Peer) (read : Result Message ℕ) → Goes (brought_by me wish from read) (given c me wish h now got from read)
  given_goes got from (Err at) = refl
  given_goes got from (Ok m) = either_goes (is_from from m.from && m.to == me) (message_event wish from m) None _ _ (message_goes got from m) refl

  pub received_goes : (datagram : Option (Peer × List ℕ)) → Goes (event_in me wish datagram) (received c me wish h now datagram)
  received_goes None = refl
  received_goes (Some one) = given_goes (Got one.0 one.1 ∷ []) one.0 (whole_of message_at one.1)

-- ---- one event, if there is one

module _ (schema : Schema) where
  -- the rows of what a node decided are the groups' own
  abbrev Owns : Node → Type 0
  Owns node = HasOwnRows schema (log_of node.met)

  back_after : (s : Setting) (node : Node) (event : Option Event) → Owns (after s node event) → Owns node
  back_after s node None own = own
  back_after s node (Some event) own = owned_back schema s node event own

formed_after : (s : Setting) (node : Node) (event : Option Event) → IsSetting s → IsNode node → IfSome IsEvent event → IsNode (after s node event)
formed_after s node None set is asked = is
formed_after s node (Some event) set is asked = (whole_step s node event set is asked).node

-- ---- turns of a node that steps where it may

module _ {S : Type 0} (steps : StepsGhosts S) (may : (s : Setting) (node : Node) (event : Event) → MayStep s node event → steps.may_happen s node event) (c : Cluster) (h : Meanings) (me : ℕ) (set : IsSetting (setting c h me)) where
  abbrev s : Setting
  s = setting c h me

  abbrev wish : List ℕ → Wish
  wish = wish_of c.schema me

  small : me < 2 ^ 64
  small = let most = set.me.1 in omega (arith, most)

  may_one : (node : Node) (event : Option Event) → IsNode node → IfSome IsEvent event → Owns c.schema (after s node event) → IfSome (steps.may_happen s node) event
  may_one node None is asked own = tt
  may_one node (Some event) is asked own = may s node event (may_step s node event set is asked own)

  abbrev next_of : Served → ℕ × Option Datagram → Served
  next_of now one = turned_by s now (turn_of h one)

  abbrev behind_tick : Served → ℕ × Option Datagram → Served
  behind_tick now one = ticked c me h one.0 now

  abbrev brought_in : ℕ × Option Datagram → Option Event
  brought_in one = event_in me wish (turn_of h one).datagram

  next_is : (now : Served) (one : ℕ × Option Datagram) → (next_of now one).node ≡ after s (behind_tick now one).node (brought_in one)
  next_is now one = received_goes c me wish h (behind_tick now one) (turn_of h one).datagram

  owns_behind_tick : (now : Served) (one : ℕ × Option Datagram) → Owns c.schema (next_of now one).node → Owns c.schema (behind_tick now one).node
  owns_behind_tick now one own = back_after c.schema s (behind_tick now one).node (brought_in one) (subst (Owns c.schema) (next_is now one) own)

  owns_before : (now : Served) (one : ℕ × Option Datagram) → Owns c.schema (next_of now one).node → Owns c.schema now.node
  owns_before now one own = owned_back c.schema s now.node (Tick one.0) (owns_behind_tick now one own)

  owns_first : (given : List (ℕ × Option Datagram)) (now : Served) → Owns c.schema (served_by s now (turns_of h given)).node → Owns c.schema now.node
  owns_first [] now own = own
  owns_first (one ∷ given) now own = owns_before now one (owns_first given (next_of now one) own)

  tick_formed : (now : Served) (one : ℕ × Option Datagram) → IsNode now.node → IsClock one.0 → IsNode (behind_tick now one).node
  tick_formed now one is clock = (whole_step s now.node (Tick one.0) set is clock).node

  turn_formed : (now : Served) (one : ℕ × Option Datagram) → IsNode now.node → IsClock one.0 → IsNode (next_of now one).node
  turn_formed now one is clock =
      subst IsNode (sym (next_is now one)) (formed_after s (behind_tick now one).node (brought_in one) set (tick_formed now one is clock) (event_formed c.schema me small (turn_of h one).datagram))

  may_receive : (now : Served) (one : ℕ × Option Datagram) → IsNode now.node → IsClock one.0 → Owns c.schema (next_of now one).node → MayReceive steps s (behind_tick now one) (turn_of h one).datagram
  may_receive now one is clock own =
      may_one (behind_tick now one).node (brought_in one) (tick_formed now one is clock) (event_formed c.schema me small (turn_of h one).datagram) (subst (Owns c.schema) (next_is now one) own)

  may_go : (given : List (ℕ × Option Datagram)) (now : Served) → AreTimes given → IsNode now.node → Owns c.schema (served_by s now (turns_of h given)).node → MayServe steps s now (turns_of h given)
  may_go [] now clocks is own = tt
  may_go (one ∷ given) now clocks is own =
      let here = owns_first given (next_of now one) own in
      let clock : IsClock one.0 = (omega arith, clocks.0) in (
        (may s now.node (Tick one.0) (may_step s now.node (Tick one.0) set is clock (owns_behind_tick now one here)), may_receive now one is clock here),
        may_go given (next_of now one) clocks.1 (turn_formed now one is clock) own,
      )

-- a node that started over records of the format, where the rows of what it decided by the end are the groups' own
pub may_serve : {S : Type 0} (steps : StepsGhosts S) → ((s : Setting) (node : Node) (event : Event) → MayStep s node event → steps.may_happen s node event)
    → (c : Cluster) (h : Meanings) (me : ℕ) (found : List (List ℕ)) (given : List (ℕ × Option Datagram)) → IsCluster c → IsMember me → AreHandlers h → first_bad found ≡ None → starts_of (history_of found) < 4294967295
    → AreTimes given
    → HasOwnRows c.schema (log_of (served c me (wish_of c.schema me) h (history_of found) (turns_of h given)).node.met) → MayServe steps (setting c h me) (served_start c me h (history_of found)) (turns_of h given)
may_serve steps may c h me found given cluster member handlers good few times own =
    may_go steps may c h me (record { cluster = cluster; me = member; handlers = handlers }) given (served_start c me h (history_of found)) times
    (start_formed (setting c h me) (history_of found) member few (each_of_all IsItem (history_of found) (history_fits found 1 good))) own
