-- Where the log and the datagrams tell only of entries that write rows of their own groups, the node decides only such.
use Rattle.std.proofs.Common.{◌≡◌, ℕ, ◌+◌, ◌==◌, ◌&&◌, Bool, true, false, cond, List, [], ◌∷◌, Option, Some, None, Result, Ok, Err, refl, sym, subst}
use Rattle.std.specs.Prelude.{option_map}
use Rattle.std.proofs.lemmas.Bool.{and_parts}
use Rattle.mega_base.specs.Reading.{whole_of}
use Rattle.mega_base.specs.declared.names.GroupId.{GroupId}
use Rattle.mega_cluster.specs.declared.cluster.Cluster.{Cluster}
use Rattle.mega_handler.specs.Named.{Meanings}
use Rattle.mega_link.specs.Datagrams.{Datagram}
use Rattle.mega_schema.specs.declared.schema.Schema.{Schema}
use Rattle.mega_wal.specs.declared.item.JournalItem.{JournalItem}
use Rattle.mega_wal.specs.declared.item.JournalItem.TheVariants.{Start, Promise, Accept, Decide, Grant, Lapse, Starts as Counted}
use Rattle.mega_wal.specs.Acceptor.{Act, Promised, Voted, best}
use Rattle.mega_wal.specs.History.{acts_of, is_place, starts_of}
use Rattle.mega_wal.specs.Records.{history_of}
use Rattle.mega_wal.specs.Same.{same_group}
use Rattle.mega_wal.proofs.Sames.{same_group_equal}
use Rattle.mega_wire.specs.declared.message.Message.{Message}
use Rattle.mega_wire.specs.declared.message.Body.{Body}
use Rattle.mega_wire.specs.declared.message.Body.TheVariants.{Request as Requests}
use Rattle.mega_wire.specs.Messages.{message_at}
use Rattle.mega_rules.specs.Logs.{log_of}
use Rattle.mega_rules.specs.Operations.{Node, Setting}
use Rattle.mega_rules.specs.Steps.{Begin, Event, Tick}
use Rattle.mega_node_laws.specs.Own.{HasOwnRows}
use Rattle.mega_run_laws.specs.of_tape_laws.Indexed.{IsDeclared}
use Rattle.mega_run_laws.specs.Justified.{Each}
use Rattle.mega_own_laws.specs.Entries.{IsOwn}
use Rattle.mega_own_laws.specs.Messages.{TellsOwn}
use Rattle.mega_own_laws.specs.Nodes.{EventOwn, MetOwn, NodeOwn}
use Rattle.mega_own_laws.proofs.Histories.{ActOwn, best_own, met_owns}
use Rattle.mega_own_laws.proofs.Steps.{start_own, step_own}
use Rattle.mega_promises.specs.NodeRuns.{met_of}
use Rattle.mega_promises.specs.Runs.{names_nothing, setting}
use Rattle.mega_promises.specs.Served.{Asks, OfClient, OfNode, Peer, Refuses, Served, Wish, is_from, served, served_start, ticked}
use Rattle.mega_page.specs.Lines.{datagram_of}
use Rattle.mega_serve.specs.Turns.{IfSome, brought_by, event_in, message_event, requested_event, served_by, turn_of, turned_by, turns_of, wished_event}
use Rattle.mega_serve.specs.Wishes.{wish_of}
use Rattle.mega_turn_laws.specs.OwnEntries.{BytesOwn, DatagramsOwn, ItemsOwn}
use Rattle.mega_turn_laws.proofs.Turns.{after, received_goes}

module _ (schema : Schema) where
  -- ---- what a node met before, as its journal tells

  with_act : (group : GroupId) (t : Bool) (act : Act) (acts : List Act) → (t ≡ true → ActOwn schema group act) → Each (ActOwn schema group) acts → Each (ActOwn schema group) (cond t (act ∷ acts) acts)
  with_act group true act acts one each = (one refl, each)
  with_act group false act acts one each = each

  acts_own : (items : List JournalItem) (group : GroupId) (n : ℕ) → ItemsOwn schema items → Each (ActOwn schema group) (acts_of items group n)
  acts_own [] group n own = tt
  acts_own (Promise other position ballot ∷ items) group n own =
      with_act group (is_place other position group n) (Promised ballot (best (acts_of items group n))) (acts_of items group n) (λ is. tt) (acts_own items group n own)
  acts_own (Accept other position ballot entry ∷ items) group n own =
      with_act group (is_place other position group n) (Voted ballot entry) (acts_of items group n)
      (λ is. subst (λ (g : GroupId). IsOwn schema g entry) (same_group_equal other group (and_parts (same_group other group) (position.0 == n) is).0) own.0) (acts_own items group n own.1)
  acts_own (Start ∷ items) group n own = acts_own items group n own
  acts_own (Counted starts ∷ items) group n own = acts_own items group n own
  acts_own (Decide other position entry ∷ items) group n own = acts_own items group n own.1
  acts_own (Grant node epoch ∷ items) group n own = acts_own items group n own
  acts_own (Lapse node epoch ∷ items) group n own = acts_own items group n own

  met_own : (me : ℕ) (items : List JournalItem) → ItemsOwn schema items → MetOwn schema (met_of me items)
  met_own me [] own = tt
  met_own me (Start ∷ items) own = (tt, met_own me items own)
  met_own me (Counted starts ∷ items) own = (tt, met_own me items own)
  met_own me (Promise group n ballot ∷ items) own = (best_own schema group (acts_of items group n.0) (acts_own items group n.0 own), met_own me items own)
  met_own me (Accept group n ballot entry ∷ items) own = (own.0, met_own me items own.1)
  met_own me (Decide group n entry ∷ items) own = (own.0, met_own me items own.1)
  met_own me (Grant node epoch ∷ items) own = (tt, met_own me items own)
  met_own me (Lapse node epoch ∷ items) own = (tt, met_own me items own)

  -- ---- what a datagram brings

  wished_own : (asked : Wish) → IfSome (EventOwn schema) (wished_event asked)
  wished_own (Refuses reason) = tt
  wished_own (Asks request text) = by (names_nothing request)
    where
      by : (t : Bool) → IfSome (EventOwn schema) (cond t None (Some (Begin request text)))
      by true = tt
      by false = tt

  requested_own : (wish : List ℕ → Wish) (body : Body) → IfSome (EventOwn schema) (requested_event wish body)
  requested_own wish (Requests token json) = wished_own (wish json)
  requested_own wish _ = tt

  came_own : (wish : List ℕ → Wish) (from : Peer) (m : Message) → TellsOwn schema m → IfSome (EventOwn schema) (message_event wish from m)
  came_own wish (OfNode node) m own = own
  came_own wish (OfClient client) m own = requested_own wish m.body

  brought_own : (me : ℕ) (wish : List ℕ → Wish) (from : Peer) (bytes : List ℕ) (r : Result Message ℕ) → whole_of message_at bytes ≡ r → BytesOwn schema bytes → IfSome (EventOwn schema) (brought_by me wish from r)
  brought_own me wish from bytes (Err at) is own = tt
  brought_own me wish from bytes (Ok m) is own = by (is_from from m.from && m.to == me)
    where
      by : (t : Bool) → IfSome (EventOwn schema) (cond t (message_event wish from m) None)
      by true = came_own wish from m (own m is)
      by false = tt

  event_own : (me : ℕ) (wish : List ℕ → Wish) (datagram : Option Datagram) → IfSome (λ (one : Datagram). BytesOwn schema one.1) datagram → IfSome (EventOwn schema) (event_in me wish (option_map datagram_of datagram))
  event_own me wish None own = tt
  event_own me wish (Some one) own = brought_own me wish (datagram_of one).0 one.1 (whole_of message_at one.1) refl own

-- ---- turns

module _ (c : Cluster) (h : Meanings) (me : ℕ) (declared : IsDeclared c.schema) where
  abbrev s : Setting
  s = setting c h me

  abbrev wish : List ℕ → Wish
  wish = wish_of c.schema me

  after_own : (node : Node) (event : Option Event) → NodeOwn c.schema node → IfSome (EventOwn c.schema) event → NodeOwn c.schema (after s node event)
  after_own node None own told = own
  after_own node (Some event) own told = (step_own s declared node event own told).node

  turn_own : (now : Served) (one : ℕ × Option Datagram) → NodeOwn c.schema now.node → IfSome (λ (datagram : Datagram). BytesOwn c.schema datagram.1) one.1 → NodeOwn c.schema (turned_by s now (turn_of h one)).node
  turn_own now one own told =
      let behind = ticked c me h one.0 now in
      subst (NodeOwn c.schema) (sym (received_goes c me wish h behind (option_map datagram_of one.1)))
      (after_own behind.node (event_in me wish (option_map datagram_of one.1)) (step_own s declared now.node (Tick one.0) own tt).node (event_own c.schema me wish one.1 told))

  turns_own : (given : List (ℕ × Option Datagram)) (now : Served) → DatagramsOwn c.schema given → NodeOwn c.schema now.node → NodeOwn c.schema (served_by s now (turns_of h given)).node
  turns_own [] now told own = own
  turns_own (one ∷ given) now told own = turns_own given (turned_by s now (turn_of h one)) told.1 (turn_own now one own told.0)

-- so the rows of what it decided by the end are the groups' own
pub told_own : (c : Cluster) (h : Meanings) (me : ℕ) (found : List (List ℕ)) (given : List (ℕ × Option Datagram)) → IsDeclared c.schema → ItemsOwn c.schema (history_of found) → DatagramsOwn c.schema given
    → HasOwnRows c.schema (log_of (served c me (wish_of c.schema me) h (history_of found) (turns_of h given)).node.met)
told_own c h me found given declared items told =
    met_owns c.schema (served c me (wish_of c.schema me) h (history_of found) (turns_of h given)).node.met
    (turns_own c h me declared given (served_start c me h (history_of found)) told
    (start_own (setting c h me) (starts_of (history_of found) + 1) [] (met_of me (history_of found)) tt (met_own c.schema me (history_of found) items))).met
