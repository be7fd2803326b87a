-- What a read sends is written as the laws of writes ask, and is nothing with its operation's id.
use Rattle.std.proofs.Common.{ℕ, ◌+◌, ◌==◌, ◌&&◌, ◌||◌, ◌≤◌, max, not, Bool, true, false, cond, List, [], ◌∷◌, ◌++◌, length, map, Option, Some, None, subst, arith}
use Rattle.std.specs.List.{list_all}
use Rattle.mega_base.specs.declared.names.GroupId.{GroupId}
use Rattle.mega_base.specs.declared.names.OpId.{OpId}
use Rattle.mega_base.specs.declared.names.Epoch.{Epoch}
use Rattle.mega_cluster.specs.declared.cluster.Cluster.{Cluster}
use Rattle.mega_wire.specs.declared.message.Body.{Body}
use Rattle.mega_wire.specs.declared.message.Body.TheVariants.{Top, HaveNot}
use Rattle.mega_wal.specs.Same.{same_group, same_op}
use Rattle.mega_tape_laws.specs.of_transcript.declared.item.Item.{Item}
use Rattle.mega_tape_laws.specs.of_read.of_propose.Members.{has, is_majority, with_node, without}
use Rattle.mega_tape_laws.specs.of_read.of_propose.declared.round.Move.{Move as RoundMove}
use Rattle.mega_tape_laws.specs.of_read.of_propose.Rounds.{completes, due, is_due, takes}
use Rattle.mega_tape_laws.specs.of_read.declared.reading.Move.{Move as ReadMove}
use Rattle.mega_tape_laws.specs.of_read.declared.reading.Reader.{Reader}
use Rattle.mega_tape_laws.specs.of_read.declared.reading.Reading.{Reading}
use Rattle.mega_tape_laws.specs.of_read.declared.reading.Search.{Search}
use Rattle.mega_tape_laws.specs.of_read.declared.reading.Stage.{Stage}
use Rattle.mega_tape_laws.specs.of_read.declared.reading.Search.TheVariants.{Fetching, Filling}
use Rattle.mega_tape_laws.specs.of_read.declared.reading.Stage.TheVariants.{Polling, Catching}
use Rattle.mega_tape_laws.specs.of_read.Catching.{asked_by, denied, falls_due, fetch_to, fetches, filled, fills, hears, helpers, local_read, move, no_op, polled_read, seeks, topped, where_to}
use Rattle.mega_tape_laws.specs.of_rules.Met.{Met}
use Rattle.mega_tape_laws.specs.of_rules.Members.{voters}
use Rattle.mega_tape_laws.specs.of_rules.Logs.{prefix_of}
use Rattle.mega_tape_laws.specs.Places.{Took}
use Rattle.mega_tape_laws.specs.Lawful.{message}
use Rattle.mega_tape_laws.specs.Writes.{Usage, no_op_by}
use Rattle.mega_run_laws.specs.Justified.{here}
use Rattle.mega_run_laws.proofs.Free.{each_of}
use Rattle.mega_run_laws.proofs.Opened.{BackedStage, IsSought, at_place}
use Rattle.mega_run_laws.proofs.Said.{Speaks, completes_speaks, due_speaks, takes_speaks}
use Rattle.mega_run_laws.proofs.Owned.{Context, NoAccept, Plain, ReadWrote, fills_wrote, quiet_wrote}
use Rattle.mega_run_laws.proofs.Reading.{who}

abbrev pub WroteBy : Cluster → Usage → List Item → OpId → ReadMove → Type 0
WroteBy c usage tape op t = ReadWrote c usage tape op (t.reading).stage t.sends

wrote_if : (c : Cluster) (usage : Usage) (tape : List Item) (op : OpId) (t : Bool) (one other : ReadMove) → WroteBy c usage tape op one → WroteBy c usage tape op other → WroteBy c usage tape op (cond t one other)
wrote_if c usage tape op true one other h k = h
wrote_if c usage tape op false one other h k = k

still_wrote : (c : Cluster) (usage : Usage) (tape : List Item) (met : List Met) (op : OpId) (r : Reading) → Context c usage tape met op → Plain op r.stage → WroteBy c usage tape op (record { reading = r; sends = [] })
still_wrote c usage tape met op r x plain = quiet_wrote c usage tape met op r.stage [] x tt plain

-- a round of a no-op
round_wrote : (c : Cluster) (usage : Usage) (tape : List Item) (met : List Met) (op : OpId) (group : GroupId) (r : Reading) (through position : ℕ) (t : RoundMove) → Context c usage tape met op → IsSought met group through position
    → Speaks tape op (at_place group position) (no_op_by op) t → WroteBy c usage tape op (filled r through position t)
round_wrote c usage tape met op group r through position t x sought s =
    fills_wrote c usage tape met op group through position (Catching through (Some (Filling position t.proposal))) t.sends x sought s.says s.of s.own

fill_wrote : (c : Cluster) (usage : Usage) (tape : List Item) (met : List Met) (op : OpId) (group : GroupId) (r : Reading) (through position now : ℕ) → Context c usage tape met op → IsSought met group through position
    → WroteBy c usage tape op (fills (who c op group) r through position now)
fill_wrote c usage tape met op group r through position now x sought =
    round_wrote c usage tape met op group r through position (completes (here c op (at_place group position) r.asked) (no_op (who c op group)) now) x sought (completes_speaks c tape op (at_place group position) r.asked (no_op_by op) now)

-- ---- what it hears

topped_wrote : (c : Cluster) (usage : Usage) (tape : List Item) (met : List Met) (op : OpId) (group : GroupId) (noted : Option Epoch) (asked : List ℕ) (from top : ℕ) (heard : List ℕ) (best at : ℕ) → Context c usage tape met op
    → WroteBy c usage tape op (topped (who c op group) (record { noted = noted; asked = asked; stage = Polling heard best at }) from top heard best at)
topped_wrote c usage tape met op group noted asked from top heard best at x = wrote_if c usage tape op (has from heard || not (has from (voters c))) _ _
    (still_wrote c usage tape met op (record { noted = noted; asked = asked; stage = Polling heard best at }) x tt)
    (wrote_if c usage tape op (is_majority (length (voters c)) (length heard + 1)) _ _
    (still_wrote c usage tape met op (record { noted = noted; asked = asked; stage = Catching (max best top) None }) x tt)
    (still_wrote c usage tape met op (record { noted = noted; asked = asked; stage = Polling (heard ++ from ∷ []) (max best top) at }) x tt))

denied_wrote : (c : Cluster) (usage : Usage) (tape : List Item) (met : List Met) (op : OpId) (group : GroupId) (r : Reading) (from through position : ℕ) (denials : List ℕ) (at now : ℕ) → Context c usage tape met op → IsSought met group through position
    → WroteBy c usage tape op (denied (who c op group) r from through position denials at now)
denied_wrote c usage tape met op group r from through position denials at now x sought = wrote_if c usage tape op (list_all (λ voter. has voter (with_node from denials)) (helpers (who c op group))) _ _
    (fill_wrote c usage tape met op group r through position now x sought)
    (still_wrote c usage tape met op (record { noted = r.noted; asked = r.asked; stage = Catching through (Some (Fetching position (with_node from denials) at)) }) x tt)

hears_by : (c : Cluster) (usage : Usage) (tape : List Item) (met : List Met) (op : OpId) (group : GroupId) (noted : Option Epoch) (asked : List ℕ) (from now : ℕ) (stage : Stage) (body : Body) → Context c usage tape met op
    → BackedStage c tape met op group stage → Plain op stage → Took tape (message from op.node.0 body)
    → WroteBy c usage tape op (hears (who c op group) (record { noted = noted; asked = asked; stage = stage }) from now body)
hears_by c usage tape met op group noted asked from now (Polling heard best at) (Top o g top) x b plain took = wrote_if c usage tape op (same_op op o && same_group group g) _ _
    (topped_wrote c usage tape met op group noted asked from top.0 heard best at x) (still_wrote c usage tape met op (record { noted = noted; asked = asked; stage = Polling heard best at }) x tt)
hears_by c usage tape met op group noted asked from now (Polling heard best at) _ x b plain took = still_wrote c usage tape met op (record { noted = noted; asked = asked; stage = Polling heard best at }) x tt
hears_by c usage tape met op group noted asked from now (Catching through None) body x b plain took = still_wrote c usage tape met op (record { noted = noted; asked = asked; stage = Catching through None }) x tt
hears_by c usage tape met op group noted asked from now (Catching through (Some (Fetching position denials at))) (HaveNot o g n) x b plain took =
    wrote_if c usage tape op (same_op op o && same_group group g && n.0 == position && has from (helpers (who c op group))) _ _
    (denied_wrote c usage tape met op group (record { noted = noted; asked = asked; stage = Catching through (Some (Fetching position denials at)) }) from through position denials at now x b.0)
    (still_wrote c usage tape met op (record { noted = noted; asked = asked; stage = Catching through (Some (Fetching position denials at)) }) x tt)
hears_by c usage tape met op group noted asked from now (Catching through (Some (Fetching position denials at))) _ x b plain took =
    still_wrote c usage tape met op (record { noted = noted; asked = asked; stage = Catching through (Some (Fetching position denials at)) }) x tt
hears_by c usage tape met op group noted asked from now (Catching through (Some (Filling position proposal))) body x b plain took =
    round_wrote c usage tape met op group (record { noted = noted; asked = asked; stage = Catching through (Some (Filling position proposal)) }) through position (takes (here c op (at_place group position) asked) proposal from now body) x b.0
    (subst (λ e. Speaks tape op (at_place group position) e (takes (here c op (at_place group position) asked) proposal from now body)) plain (takes_speaks c tape x.lawful op (at_place group position) asked proposal from now body b.1 took))

pub hears_wrote : (c : Cluster) (usage : Usage) (tape : List Item) (met : List Met) (op : OpId) (group : GroupId) (r : Reading) (from now : ℕ) (body : Body) → Context c usage tape met op
    → BackedStage c tape met op group r.stage → Plain op r.stage → Took tape (message from op.node.0 body) → WroteBy c usage tape op (hears (who c op group) r from now body)
hears_wrote c usage tape met op group r from now body x b plain took = hears_by c usage tape met op group r.noted r.asked from now r.stage body x b plain took

-- ---- what is due

due_by : (c : Cluster) (usage : Usage) (tape : List Item) (met : List Met) (op : OpId) (group : GroupId) (noted : Option Epoch) (asked : List ℕ) (retry now : ℕ) (stage : Stage) → Context c usage tape met op
    → BackedStage c tape met op group stage → Plain op stage → WroteBy c usage tape op (falls_due (who c op group) (record { noted = noted; asked = asked; stage = stage }) retry now)
due_by c usage tape met op group noted asked retry now (Polling heard best at) x b plain = wrote_if c usage tape op (is_due at retry now) _ _
    (quiet_wrote c usage tape met op (Polling heard best now) (map (where_to (who c op group)) (without heard (voters c))) x (each_of NoAccept (where_to (who c op group)) (λ to. tt) (without heard (voters c))) tt)
    (still_wrote c usage tape met op (record { noted = noted; asked = asked; stage = Polling heard best at }) x tt)
due_by c usage tape met op group noted asked retry now (Catching through None) x b plain = still_wrote c usage tape met op (record { noted = noted; asked = asked; stage = Catching through None }) x tt
due_by c usage tape met op group noted asked retry now (Catching through (Some (Fetching position denials at))) x b plain = wrote_if c usage tape op (is_due at retry now) _ _
    (fill_wrote c usage tape met op group (record { noted = noted; asked = asked; stage = Catching through (Some (Fetching position denials at)) }) through position now x b.0)
    (still_wrote c usage tape met op (record { noted = noted; asked = asked; stage = Catching through (Some (Fetching position denials at)) }) x tt)
due_by c usage tape met op group noted asked retry now (Catching through (Some (Filling position proposal))) x b plain =
    round_wrote c usage tape met op group (record { noted = noted; asked = asked; stage = Catching through (Some (Filling position proposal)) }) through position (due (here c op (at_place group position) asked) proposal retry now) x b.0
    (subst (λ e. Speaks tape op (at_place group position) e (due (here c op (at_place group position) asked) proposal retry now)) plain (due_speaks c tape op (at_place group position) asked proposal retry now))

pub falls_due_wrote : (c : Cluster) (usage : Usage) (tape : List Item) (met : List Met) (op : OpId) (group : GroupId) (r : Reading) (retry now : ℕ) → Context c usage tape met op
    → BackedStage c tape met op group r.stage → Plain op r.stage → WroteBy c usage tape op (falls_due (who c op group) r retry now)
falls_due_wrote c usage tape met op group r retry now x b plain = due_by c usage tape met op group r.noted r.asked retry now r.stage x b plain

-- ---- the next position

abbrev fetched_by : Reader → Reading → ℕ → ℕ → ℕ → List ℕ → ReadMove
fetched_by reader r through position now [] = fills reader r through position now
fetched_by reader r through position now (voter ∷ nodes) = move r (Catching through (Some (Fetching position [] now))) (map (fetch_to reader position) (voter ∷ nodes))

fetched_wrote : (c : Cluster) (usage : Usage) (tape : List Item) (met : List Met) (op : OpId) (group : GroupId) (r : Reading) (through position now : ℕ) → Context c usage tape met op → IsSought met group through position
    → (nodes : List ℕ) → WroteBy c usage tape op (fetched_by (who c op group) r through position now nodes)
fetched_wrote c usage tape met op group r through position now x sought [] = fill_wrote c usage tape met op group r through position now x sought
fetched_wrote c usage tape met op group r through position now x sought (voter ∷ nodes) =
    quiet_wrote c usage tape met op (Catching through (Some (Fetching position [] now))) (map (fetch_to (who c op group) position) (voter ∷ nodes)) x (each_of NoAccept (fetch_to (who c op group) position) (λ to. tt) (voter ∷ nodes)) tt

fetches_wrote : (c : Cluster) (usage : Usage) (tape : List Item) (met : List Met) (op : OpId) (group : GroupId) (r : Reading) (through position now : ℕ) → Context c usage tape met op → IsSought met group through position
    → WroteBy c usage tape op (fetches (who c op group) r through position now)
fetches_wrote c usage tape met op group r through position now x sought = fetched_wrote c usage tape met op group r through position now x sought (helpers (who c op group))

pub seeks_wrote : (c : Cluster) (usage : Usage) (tape : List Item) (met : List Met) (op : OpId) (group : GroupId) (noted : Option Epoch) (asked : List ℕ) (through now : ℕ) (search : Option Search) → Context c usage tape met op
    → prefix_of met group + 1 ≤ through → Plain op (Catching through search)
    → WroteBy c usage tape op (seeks (who c op group) (record { noted = noted; asked = asked; stage = Catching through search }) (prefix_of met group + 1) now)
seeks_wrote c usage tape met op group noted asked through now None x le plain = fetches_wrote c usage tape met op group (record { noted = noted; asked = asked_by (record { noted = noted; asked = asked; stage = Catching through None }); stage = Catching through None })
    through (prefix_of met group + 1) now x (le, omega arith, omega arith)
seeks_wrote c usage tape met op group noted asked through now (Some (Fetching position denials at)) x le plain = wrote_if c usage tape op (position == prefix_of met group + 1) _ _
    (still_wrote c usage tape met op (record { noted = noted; asked = asked; stage = Catching through (Some (Fetching position denials at)) }) x tt)
    (fetches_wrote c usage tape met op group (record { noted = noted; asked = asked_by (record { noted = noted; asked = asked; stage = Catching through (Some (Fetching position denials at)) }); stage = Catching through (Some (Fetching position denials at)) })
    through (prefix_of met group + 1) now x (le, omega arith, omega arith))
seeks_wrote c usage tape met op group noted asked through now (Some (Filling position proposal)) x le plain = wrote_if c usage tape op (position == prefix_of met group + 1) _ _
    (still_wrote c usage tape met op (record { noted = noted; asked = asked; stage = Catching through (Some (Filling position proposal)) }) x plain)
    (fetches_wrote c usage tape met op group (record { noted = noted; asked = asked_by (record { noted = noted; asked = asked; stage = Catching through (Some (Filling position proposal)) }); stage = Catching through (Some (Filling position proposal)) })
    through (prefix_of met group + 1) now x (le, omega arith, omega arith))

-- ---- beginnings

pub local_wrote : (c : Cluster) (usage : Usage) (tape : List Item) (met : List Met) (op : OpId) (asked : List ℕ) (top : ℕ) → Context c usage tape met op → WroteBy c usage tape op (local_read asked top)
local_wrote c usage tape met op asked top x = still_wrote c usage tape met op (record { noted = None; asked = asked; stage = Catching top None }) x tt

pub polled_wrote : (c : Cluster) (usage : Usage) (tape : List Item) (met : List Met) (op : OpId) (group : GroupId) (noted : Option Epoch) (asked : List ℕ) (now : ℕ) → Context c usage tape met op
    → WroteBy c usage tape op (polled_read (who c op group) noted asked now)
polled_wrote c usage tape met op group noted asked now x = quiet_wrote c usage tape met op (Polling [] 0 now) (map (where_to (who c op group)) (voters c)) x (each_of NoAccept (where_to (who c op group)) (λ to. tt) (voters c)) tt
