-- A read does only what is allowed, whatever it hears and whenever it is due.
use Rattle.std.proofs.Common.{◌≡◌, inl, inr, ℕ, ◌+◌, ◌==◌, ◌&&◌, ◌||◌, ◌≤◌, max, not, Bool, true, false, cond, List, [], ◌∷◌, ◌++◌, length, map, Option, Some, None, refl, subst, arith}
use Rattle.std.proofs.lemmas.Bool.Decides.{nat_tests}
use Rattle.std.specs.List.{list_all}
use Rattle.mega_base.specs.declared.names.GroupId.{GroupId}
use Rattle.mega_base.specs.declared.names.OpId.{OpId}
use Rattle.mega_base.specs.declared.names.Epoch.{Epoch}
use Rattle.mega_cluster.specs.declared.cluster.Cluster.{Cluster}
use Rattle.mega_wire.specs.declared.message.Body.{Body}
use Rattle.mega_wire.specs.declared.message.Body.TheVariants.{Top, HaveNot}
use Rattle.mega_wal.specs.Same.{same_group, same_op}
use Rattle.mega_tape_laws.specs.of_transcript.declared.item.Item.{Item}
use Rattle.mega_tape_laws.specs.of_transcript.declared.item.Item.TheVariants.{Sent}
use Rattle.mega_tape_laws.specs.of_read.of_propose.Members.{has, is_majority, with_node, without}
use Rattle.mega_tape_laws.specs.of_read.of_propose.declared.round.Move.{Move as RoundMove}
use Rattle.mega_tape_laws.specs.of_read.of_propose.Rounds.{completes, due, is_due, takes}
use Rattle.mega_tape_laws.specs.of_read.declared.reading.Move.{Move as ReadMove}
use Rattle.mega_tape_laws.specs.of_read.declared.reading.Reader.{Reader}
use Rattle.mega_tape_laws.specs.of_read.declared.reading.Reading.{Reading}
use Rattle.mega_tape_laws.specs.of_read.declared.reading.Search.{Search}
use Rattle.mega_tape_laws.specs.of_read.declared.reading.Stage.{Stage}
use Rattle.mega_tape_laws.specs.of_read.declared.reading.Search.TheVariants.{Fetching, Filling}
use Rattle.mega_tape_laws.specs.of_read.declared.reading.Stage.TheVariants.{Polling, Catching}
use Rattle.mega_tape_laws.specs.of_read.Catching.{asked_by, denied, falls_due, fetch_to, fetches, filled, fills, hears, helpers, local_read, move, no_op, polled_read, seeks, stays, topped, where_to}
use Rattle.mega_tape_laws.specs.of_rules.Met.{Met}
use Rattle.mega_tape_laws.specs.of_rules.Members.{full_nodes, voters}
use Rattle.mega_tape_laws.specs.of_rules.Logs.{prefix_of}
use Rattle.mega_tape_laws.specs.of_rules.Operations.{Reads}
use Rattle.mega_tape_laws.specs.Places.{Place, Took, moves}
use Rattle.mega_tape_laws.specs.Lawful.{Lawful, message}
use Rattle.mega_run_laws.specs.Justified.{Goes, here, sent}
use Rattle.mega_run_laws.proofs.Sending.{stood_sent}
use Rattle.mega_run_laws.proofs.Free.{IsFree, each_of}
use Rattle.mega_run_laws.proofs.Rounds.{completes_goes, due_goes, takes_goes}
use Rattle.mega_run_laws.proofs.Opened.{Acts, BackedStage, Idle, IsSought, OfOp, acts_free, acts_round, at_place, idle_none, idle_on, place_is, same_met, stage_place}

abbrev pub who : Cluster → OpId → GroupId → Reader
who c op group = record { op = op; group = group; voters = voters c; full = full_nodes c; cells = c.cells }

-- what a read comes to, as a phase
abbrev pub Reads_on : Cluster → List Item → List Met → OpId → GroupId → ReadMove → Type 0
Reads_on c tape met op group t = Acts c tape met op (Reads group t.reading) t.sends

-- the voters are asked where the log ends
asks_lawful : (c : Cluster) (reader : Reader) (n : ℕ) (to : List ℕ) (tape : List Item) → Lawful c tape → Lawful c (sent n (map (where_to reader) to) tape)
asks_lawful c reader n [] tape l = l
asks_lawful c reader n (one ∷ to) tape l = asks_lawful c reader (n + 1) to (Sent n (where_to reader one) ∷ tape) (tt, l)

asks_moved : (reader : Reader) (x : OpId) (q : Place) (n : ℕ) (to : List ℕ) (tape : List Item) → moves (sent n (map (where_to reader) to) tape) x q ≡ moves tape x q
asks_moved reader x q n [] tape = refl
asks_moved reader x q n (one ∷ to) tape = asks_moved reader x q (n + 1) to (Sent n (where_to reader one) ∷ tape)

asks_acts : (c : Cluster) (tape : List Item) (met : List Met) (op : OpId) (group : GroupId) (noted : Option Epoch) (asked : List ℕ) (heard : List ℕ) (best at : ℕ) (to : List ℕ) → Idle tape met op None
    → Reads_on c tape met op group (record { reading = record { noted = noted; asked = asked; stage = Polling heard best at }; sends = map (where_to (who c op group)) to })
asks_acts c tape met op group noted asked heard best at to idle = record {
  own = each_of (OfOp op) (where_to (who c op group)) (λ one. refl) to;
  lawful = λ n l. asks_lawful c (who c op group) n to tape l;
  backed = λ n. tt;
  idle = λ n. idle_on tape (sent n (map (where_to (who c op group)) to) tape) met met op None
      (record { stood = stood_sent n (map (where_to (who c op group)) to) tape; moved = λ q. asks_moved (who c op group) op q n to tape }) (same_met met) idle;
}

still : (c : Cluster) (tape : List Item) (met : List Met) (op : OpId) (group : GroupId) (r : Reading) → BackedStage c tape met op group r.stage → Idle tape met op (stage_place group r.stage) → Reads_on c tape met op group (record { reading = r; sends = [] })
still c tape met op group r b idle = acts_free c tape met op (Reads group r) [] tt b idle

same_fill : (group : GroupId) (n : ℕ) (q : Place) → Some (at_place group n) ≡ Some q → at_place group n ≡ q
same_fill group n q h = place_is (at_place group n) q h

no_place : (p q : Place) → None ≡ Some q → p ≡ q
no_place p q h = cc

-- a no-op is proposed at a position where nothing was moved
fills_acts : (c : Cluster) (tape : List Item) (met : List Met) (op : OpId) (group : GroupId) (r : Reading) (through position now : ℕ) → IsSought met group through position
    → moves tape op (at_place group position) ≡ [] → Idle tape met op None → Reads_on c tape met op group (fills (who c op group) r through position now)
fills_acts c tape met op group r through position now sought none idle =
    acts_round c tape met op (at_place group position) (completes (here c op (at_place group position) r.asked) (no_op (who c op group)) now)
    (Reads group (record { noted = r.noted; asked = r.asked; stage = Catching through (Some (Filling position (completes (here c op (at_place group position) r.asked) (no_op (who c op group)) now).proposal)) })) None
    (completes_goes c tape op (at_place group position) r.asked (no_op (who c op group)) now none) refl (λ new v. (sought, v)) idle (no_place (at_place group position))

-- the round of a no-op goes on
filled_acts : (c : Cluster) (tape : List Item) (met : List Met) (op : OpId) (group : GroupId) (r : Reading) (through position : ℕ) (t : RoundMove) → IsSought met group through position
    → Goes c tape op (at_place group position) t → Idle tape met op (Some (at_place group position)) → Reads_on c tape met op group (filled r through position t)
filled_acts c tape met op group r through position t sought goes idle =
    acts_round c tape met op (at_place group position) t (Reads group (record { noted = r.noted; asked = r.asked; stage = Catching through (Some (Filling position t.proposal)) })) (Some (at_place group position))
    goes refl (λ new v. (sought, v)) idle (same_fill group position)

topped_acts : (c : Cluster) (tape : List Item) (met : List Met) (op : OpId) (group : GroupId) (noted : Option Epoch) (asked : List ℕ) (from top : ℕ) (heard : List ℕ) (best at : ℕ) → Idle tape met op None
    → Reads_on c tape met op group (topped (who c op group) (record { noted = noted; asked = asked; stage = Polling heard best at }) from top heard best at)
topped_acts c tape met op group noted asked from top heard best at idle = go (has from heard || not (has from (voters c))) (is_majority (length (voters c)) (length heard + 1))
  where
    go : (t u : Bool) → Reads_on c tape met op group (cond t (stays (record { noted = noted; asked = asked; stage = Polling heard best at }))
        (cond u (record { reading = record { noted = noted; asked = asked; stage = Catching (max best top) None }; sends = [] })
        (record { reading = record { noted = noted; asked = asked; stage = Polling (heard ++ from ∷ []) (max best top) at }; sends = [] })))
    go true u = still c tape met op group (record { noted = noted; asked = asked; stage = Polling heard best at }) tt idle
    go false true = still c tape met op group (record { noted = noted; asked = asked; stage = Catching (max best top) None }) tt idle
    go false false = still c tape met op group (record { noted = noted; asked = asked; stage = Polling (heard ++ from ∷ []) (max best top) at }) tt idle

denied_acts : (c : Cluster) (tape : List Item) (met : List Met) (op : OpId) (group : GroupId) (r : Reading) (from through position : ℕ) (denials : List ℕ) (at now : ℕ) → IsSought met group through position
    → moves tape op (at_place group position) ≡ [] → Idle tape met op None → Reads_on c tape met op group (denied (who c op group) r from through position denials at now)
denied_acts c tape met op group r from through position denials at now sought none idle = go (list_all (λ voter. has voter (with_node from denials)) (helpers (who c op group)))
  where
    go : (t : Bool) → Reads_on c tape met op group (cond t (fills (who c op group) r through position now)
        (record { reading = record { noted = r.noted; asked = r.asked; stage = Catching through (Some (Fetching position (with_node from denials) at)) }; sends = [] }))
    go true = fills_acts c tape met op group r through position now sought none idle
    go false = still c tape met op group (record { noted = r.noted; asked = r.asked; stage = Catching through (Some (Fetching position (with_node from denials) at)) }) (sought, none) idle

reads_if : (c : Cluster) (tape : List Item) (met : List Met) (op : OpId) (group : GroupId) (t : Bool) (one other : ReadMove) → (t ≡ true → Reads_on c tape met op group one) → Reads_on c tape met op group other → Reads_on c tape met op group (cond t one other)
reads_if c tape met op group true one other h k = h refl
reads_if c tape met op group false one other h k = k

hears_by : (c : Cluster) (tape : List Item) (met : List Met) (op : OpId) (group : GroupId) (noted : Option Epoch) (asked : List ℕ) (from now : ℕ) (stage : Stage) (body : Body)
    → BackedStage c tape met op group stage → Idle tape met op (stage_place group stage) → Took tape (message from op.node.0 body)
    → Reads_on c tape met op group (hears (who c op group) (record { noted = noted; asked = asked; stage = stage }) from now body)
hears_by c tape met op group noted asked from now (Polling heard best at) (Top o g top) b idle took =
    reads_if c tape met op group (same_op op o && same_group group g) (topped (who c op group) (record { noted = noted; asked = asked; stage = Polling heard best at }) from top.0 heard best at)
    (stays (record { noted = noted; asked = asked; stage = Polling heard best at }))
    (λ h. topped_acts c tape met op group noted asked from top.0 heard best at idle) (still c tape met op group (record { noted = noted; asked = asked; stage = Polling heard best at }) tt idle)
hears_by c tape met op group noted asked from now (Polling heard best at) _ b idle took = still c tape met op group (record { noted = noted; asked = asked; stage = Polling heard best at }) tt idle
hears_by c tape met op group noted asked from now (Catching through None) body b idle took = still c tape met op group (record { noted = noted; asked = asked; stage = Catching through None }) tt idle
hears_by c tape met op group noted asked from now (Catching through (Some (Fetching position denials at))) (HaveNot o g n) b idle took =
    reads_if c tape met op group (same_op op o && same_group group g && n.0 == position && has from (helpers (who c op group)))
    (denied (who c op group) (record { noted = noted; asked = asked; stage = Catching through (Some (Fetching position denials at)) }) from through position denials at now)
    (stays (record { noted = noted; asked = asked; stage = Catching through (Some (Fetching position denials at)) }))
    (λ h. denied_acts c tape met op group (record { noted = noted; asked = asked; stage = Catching through (Some (Fetching position denials at)) }) from through position denials at now b.0 b.1 idle)
    (still c tape met op group (record { noted = noted; asked = asked; stage = Catching through (Some (Fetching position denials at)) }) b idle)
hears_by c tape met op group noted asked from now (Catching through (Some (Fetching position denials at))) _ b idle took =
    still c tape met op group (record { noted = noted; asked = asked; stage = Catching through (Some (Fetching position denials at)) }) b idle
hears_by c tape met op group noted asked from now (Catching through (Some (Filling position proposal))) body b idle took =
    filled_acts c tape met op group (record { noted = noted; asked = asked; stage = Catching through (Some (Filling position proposal)) }) through position
    (takes (here c op (at_place group position) asked) proposal from now body) b.0 (takes_goes c tape op (at_place group position) asked proposal from now body b.1 took) idle

pub hears_acts : (c : Cluster) (tape : List Item) (met : List Met) (op : OpId) (group : GroupId) (r : Reading) (from now : ℕ) (body : Body)
    → BackedStage c tape met op group r.stage → Idle tape met op (stage_place group r.stage) → Took tape (message from op.node.0 body) → Reads_on c tape met op group (hears (who c op group) r from now body)
hears_acts c tape met op group r from now body b idle took = hears_by c tape met op group r.noted r.asked from now r.stage body b idle took

due_by : (c : Cluster) (tape : List Item) (met : List Met) (op : OpId) (group : GroupId) (noted : Option Epoch) (asked : List ℕ) (retry now : ℕ) (stage : Stage)
    → BackedStage c tape met op group stage → Idle tape met op (stage_place group stage)
    → Reads_on c tape met op group (falls_due (who c op group) (record { noted = noted; asked = asked; stage = stage }) retry now)
due_by c tape met op group noted asked retry now (Polling heard best at) b idle =
    reads_if c tape met op group (is_due at retry now) (record { reading = record { noted = noted; asked = asked; stage = Polling heard best now }; sends = map (where_to (who c op group)) (without heard (voters c)) })
    (stays (record { noted = noted; asked = asked; stage = Polling heard best at }))
    (λ h. asks_acts c tape met op group noted asked heard best now (without heard (voters c)) idle)
    (still c tape met op group (record { noted = noted; asked = asked; stage = Polling heard best at }) tt idle)
due_by c tape met op group noted asked retry now (Catching through None) b idle = still c tape met op group (record { noted = noted; asked = asked; stage = Catching through None }) tt idle
due_by c tape met op group noted asked retry now (Catching through (Some (Fetching position denials at))) b idle =
    reads_if c tape met op group (is_due at retry now) (fills (who c op group) (record { noted = noted; asked = asked; stage = Catching through (Some (Fetching position denials at)) }) through position now)
    (stays (record { noted = noted; asked = asked; stage = Catching through (Some (Fetching position denials at)) }))
    (λ h. fills_acts c tape met op group (record { noted = noted; asked = asked; stage = Catching through (Some (Fetching position denials at)) }) through position now b.0 b.1 idle)
    (still c tape met op group (record { noted = noted; asked = asked; stage = Catching through (Some (Fetching position denials at)) }) b idle)
due_by c tape met op group noted asked retry now (Catching through (Some (Filling position proposal))) b idle =
    filled_acts c tape met op group (record { noted = noted; asked = asked; stage = Catching through (Some (Filling position proposal)) }) through position
    (due (here c op (at_place group position) asked) proposal retry now) b.0 (due_goes c tape op (at_place group position) asked proposal retry now b.1) idle

pub falls_due_acts : (c : Cluster) (tape : List Item) (met : List Met) (op : OpId) (group : GroupId) (r : Reading) (retry now : ℕ)
    → BackedStage c tape met op group r.stage → Idle tape met op (stage_place group r.stage) → Reads_on c tape met op group (falls_due (who c op group) r retry now)
falls_due_acts c tape met op group r retry now b idle = due_by c tape met op group r.noted r.asked retry now r.stage b idle

-- ---- the next position

-- what is done about a position by the nodes that can be asked
abbrev fetched_by : Reader → Reading → ℕ → ℕ → ℕ → List ℕ → ReadMove
fetched_by reader r through position now [] = fills reader r through position now
fetched_by reader r through position now (voter ∷ nodes) = move r (Catching through (Some (Fetching position [] now))) (map (fetch_to reader position) (voter ∷ nodes))

fetched_acts : (c : Cluster) (tape : List Item) (met : List Met) (op : OpId) (group : GroupId) (r : Reading) (through position now : ℕ) → IsSought met group through position
    → moves tape op (at_place group position) ≡ [] → Idle tape met op None → (nodes : List ℕ) → Reads_on c tape met op group (fetched_by (who c op group) r through position now nodes)
fetched_acts c tape met op group r through position now sought none idle [] = fills_acts c tape met op group r through position now sought none idle
fetched_acts c tape met op group r through position now sought none idle (voter ∷ nodes) = acts_free c tape met op (Reads group (record { noted = r.noted; asked = r.asked; stage = Catching through (Some (Fetching position [] now)) }))
    (map (fetch_to (who c op group) position) (voter ∷ nodes)) (each_of IsFree (fetch_to (who c op group) position) (λ to. tt) (voter ∷ nodes)) (sought, none) idle

fetches_acts : (c : Cluster) (tape : List Item) (met : List Met) (op : OpId) (group : GroupId) (r : Reading) (through position now : ℕ) → IsSought met group through position
    → moves tape op (at_place group position) ≡ [] → Idle tape met op None → Reads_on c tape met op group (fetches (who c op group) r through position now)
fetches_acts c tape met op group r through position now sought none idle = fetched_acts c tape met op group r through position now sought none idle (helpers (who c op group))

-- what an operation sought before, where that is not the position sought now, is decided
left_behind : (met : List Met) (group : GroupId) (through n : ℕ) → IsSought met group through n → (n == prefix_of met group + 1) ≡ false → n ≤ prefix_of met group
left_behind met group through n sought h = let less = sought.1 in closest n (prefix_of met group) less h
  where
    closest : (a b : ℕ) → a ≤ b + 1 → (a == b + 1) ≡ false → a ≤ b
    closest a b le k = grind (arith, nat_tests)

reads_unless : (c : Cluster) (tape : List Item) (met : List Met) (op : OpId) (group : GroupId) (t : Bool) (one other : ReadMove) → Reads_on c tape met op group one → (t ≡ false → Reads_on c tape met op group other) → Reads_on c tape met op group (cond t one other)
reads_unless c tape met op group true one other h k = h
reads_unless c tape met op group false one other h k = k refl

pub seeks_acts : (c : Cluster) (tape : List Item) (met : List Met) (op : OpId) (group : GroupId) (noted : Option Epoch) (asked : List ℕ) (through now : ℕ) (search : Option Search)
    → prefix_of met group + 1 ≤ through → BackedStage c tape met op group (Catching through search) → Idle tape met op (stage_place group (Catching through search))
    → Reads_on c tape met op group (seeks (who c op group) (record { noted = noted; asked = asked; stage = Catching through search }) (prefix_of met group + 1) now)
seeks_acts c tape met op group noted asked through now None le b idle = fetches_acts c tape met op group (record { noted = noted; asked = asked_by (record { noted = noted; asked = asked; stage = Catching through None }); stage = Catching through None })
    through (prefix_of met group + 1) now (le, omega arith, omega arith) (unmoved idle) idle
  where
    unmoved : Idle tape met op None → moves tape op (at_place group (prefix_of met group + 1)) ≡ []
    unmoved i = elim (i (at_place group (prefix_of met group + 1)) (omega arith)) [ inl e ↦ cc | inr e ↦ e ]
seeks_acts c tape met op group noted asked through now (Some (Fetching position denials at)) le b idle =
    reads_unless c tape met op group (position == prefix_of met group + 1) (stays (record { noted = noted; asked = asked; stage = Catching through (Some (Fetching position denials at)) }))
    (fetches (who c op group) (record { noted = noted; asked = asked_by (record { noted = noted; asked = asked; stage = Catching through (Some (Fetching position denials at)) }); stage = Catching through (Some (Fetching position denials at)) }) through (prefix_of met group + 1) now)
    (still c tape met op group (record { noted = noted; asked = asked; stage = Catching through (Some (Fetching position denials at)) }) b idle)
    (λ h. fetches_acts c tape met op group (record { noted = noted; asked = asked_by (record { noted = noted; asked = asked; stage = Catching through (Some (Fetching position denials at)) }); stage = Catching through (Some (Fetching position denials at)) })
    through (prefix_of met group + 1) now (le, omega arith, omega arith) (unmoved idle) idle)
  where
    unmoved : Idle tape met op None → moves tape op (at_place group (prefix_of met group + 1)) ≡ []
    unmoved i = elim (i (at_place group (prefix_of met group + 1)) (omega arith)) [ inl e ↦ cc | inr e ↦ e ]
seeks_acts c tape met op group noted asked through now (Some (Filling position proposal)) le b idle =
    reads_unless c tape met op group (position == prefix_of met group + 1) (stays (record { noted = noted; asked = asked; stage = Catching through (Some (Filling position proposal)) }))
    (fetches (who c op group) (record { noted = noted; asked = asked_by (record { noted = noted; asked = asked; stage = Catching through (Some (Filling position proposal)) }); stage = Catching through (Some (Filling position proposal)) }) through (prefix_of met group + 1) now)
    (still c tape met op group (record { noted = noted; asked = asked; stage = Catching through (Some (Filling position proposal)) }) b idle)
    (λ h. fetches_acts c tape met op group (record { noted = noted; asked = asked_by (record { noted = noted; asked = asked; stage = Catching through (Some (Filling position proposal)) }); stage = Catching through (Some (Filling position proposal)) })
    through (prefix_of met group + 1) now (le, omega arith, omega arith) (unmoved (closed h)) (closed h))
  where
    unmoved : Idle tape met op None → moves tape op (at_place group (prefix_of met group + 1)) ≡ []
    unmoved i = elim (i (at_place group (prefix_of met group + 1)) (omega arith)) [ inl e ↦ cc | inr e ↦ e ]

    below : (position == prefix_of met group + 1) ≡ false → (q : Place) → Some (at_place group position) ≡ Some q → q.position.0 ≤ prefix_of met q.group
    below h q e = subst (λ (x : Place). x.position.0 ≤ prefix_of met x.group) (place_is (at_place group position) q e) (left_behind met group through position b.0 h)

    closed : (position == prefix_of met group + 1) ≡ false → Idle tape met op None
    closed h = idle_none tape met op (Some (at_place group position)) idle (below h)

-- ---- beginnings

pub local_acts : (c : Cluster) (tape : List Item) (met : List Met) (op : OpId) (group : GroupId) (asked : List ℕ) (top : ℕ) → Idle tape met op None → Reads_on c tape met op group (local_read asked top)
local_acts c tape met op group asked top idle = still c tape met op group (record { noted = None; asked = asked; stage = Catching top None }) tt idle

pub polled_acts : (c : Cluster) (tape : List Item) (met : List Met) (op : OpId) (group : GroupId) (noted : Option Epoch) (asked : List ℕ) (now : ℕ) → Idle tape met op None
    → Reads_on c tape met op group (polled_read (who c op group) noted asked now)
polled_acts c tape met op group noted asked now idle = asks_acts c tape met op group noted asked [] 0 now (voters c) idle
