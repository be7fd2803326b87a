-- What a read knows of the round by which it completes a position, and about whom it asked the cells.
use Rattle.std.proofs.Common.{◌≡◌, ℕ, ◌+◌, ◌==◌, ◌&&◌, ◌||◌, not, Bool, true, false, cond, List, [], ◌∷◌, length, map, Option, Some, None, refl, sym, ap, ◌∙◌}
use Rattle.std.specs.List.{list_all}
use Rattle.mega_base.specs.declared.names.Epoch.{Epoch}
use Rattle.mega_base.specs.declared.names.GroupId.{GroupId}
use Rattle.mega_base.specs.declared.names.OpId.{OpId}
use Rattle.mega_cluster.specs.declared.cluster.Cluster.{Cluster}
use Rattle.mega_entry.specs.declared.content.Content.{Content}
use Rattle.mega_wire.specs.declared.message.Body.{Body}
use Rattle.mega_wire.specs.declared.message.Body.TheVariants.{Top, HaveNot}
use Rattle.mega_wal.specs.Same.{same_group, same_op}
use Rattle.mega_run_laws.specs.of_transcript.declared.item.Item.{Item}
use Rattle.mega_run_laws.specs.of_rules.of_read.of_propose.Members.{has, is_majority, joined, with_node, without}
use Rattle.mega_run_laws.specs.of_rules.of_read.of_propose.declared.round.Round.{Round}
use Rattle.mega_run_laws.specs.of_rules.of_read.of_propose.declared.round.Round.TheVariants.{Asking, Preparing, Accepting, Covering, Settled, Waiting}
use Rattle.mega_run_laws.specs.of_rules.of_read.of_propose.declared.round.Move.{Move as RoundMove}
use Rattle.mega_run_laws.specs.of_rules.of_read.of_propose.Rounds.{completes, due, is_due, takes, told_in}
use Rattle.mega_run_laws.specs.of_rules.of_read.declared.reading.Reading.{Reading}
use Rattle.mega_run_laws.specs.of_rules.of_read.declared.reading.Search.{Search}
use Rattle.mega_run_laws.specs.of_rules.of_read.declared.reading.Search.TheVariants.{Fetching, Filling}
use Rattle.mega_run_laws.specs.of_rules.of_read.declared.reading.Stage.{Stage}
use Rattle.mega_run_laws.specs.of_rules.of_read.declared.reading.Stage.TheVariants.{Polling, Catching}
use Rattle.mega_run_laws.specs.of_rules.of_read.declared.reading.Move.{Move as ReadMove}
use Rattle.mega_run_laws.specs.of_rules.of_read.Catching.{asked_by, denied, falls_due, fetch_to, fills, hears, helpers, is_position, local_read, move, no_op, polled_read, search_told, searched, seeks, topped, where_to}
use Rattle.mega_run_laws.specs.of_rules.Members.{voters}
use Rattle.mega_run_laws.specs.of_tape_laws.Places.{Took}
use Rattle.mega_run_laws.specs.of_tape_laws.Lawful.{message}
use Rattle.mega_run_laws.specs.Justified.{Each, here}
use Rattle.mega_run_laws.proofs.Opened.{at_place}
use Rattle.mega_run_laws.proofs.Reading.{who}
use Rattle.mega_settled_laws.specs.Covering.{Earlier, has_asked_about}
use Rattle.mega_settled_laws.proofs.Tapes.{Mine, asks_in, asks_map, joined_has, mine_map}
use Rattle.mega_settled_laws.proofs.Rounds.{Knows, Proceeds, completes_proceeds, due_proceeds, knows_on, takes_proceeds, told_of}

abbrev pub SearchKnows : Cluster → List Item → OpId → GroupId → List ℕ → Option Search → Type 0
SearchKnows c tape op group asked None = Unit {0}
SearchKnows c tape op group asked (Some (Fetching position denials sent)) = Unit {0}
SearchKnows c tape op group asked (Some (Filling position proposal)) = Knows c tape op (at_place group position) asked proposal.round

abbrev pub StageKnows : Cluster → List Item → OpId → GroupId → List ℕ → Stage → Type 0
StageKnows c tape op group asked (Polling heard best sent) = Unit {0}
StageKnows c tape op group asked (Catching through search) = SearchKnows c tape op group asked search

pub stage_on : (c : Cluster) (old new : List Item) → Earlier old new → (op : OpId) (group : GroupId) (asked : List ℕ) (stage : Stage) → StageKnows c old op group asked stage → StageKnows c new op group asked stage
stage_on c old new later op group asked (Polling heard best sent) k = tt
stage_on c old new later op group asked (Catching through None) k = tt
stage_on c old new later op group asked (Catching through (Some (Fetching position denials sent))) k = tt
stage_on c old new later op group asked (Catching through (Some (Filling position proposal))) k = knows_on c old new later op (at_place group position) asked proposal.round k

-- the nodes about which the present round asked
abbrev pub told_search : Option Search → List ℕ
told_search None = []
told_search (Some (Fetching position denials sent)) = []
told_search (Some (Filling position proposal)) = told_of proposal.round

abbrev pub told_stage : Stage → List ℕ
told_stage (Polling heard best sent) = []
told_stage (Catching through search) = told_search search

told_round : (own : Content) (seen : ℕ) (round : Round) → told_in (record { own = own; seen = seen; round = round }) ≡ told_of round
told_round own seen (Asking leader sent) = refl
told_round own seen (Preparing b reports sent) = refl
told_round own seen (Accepting b e voted sent) = refl
told_round own seen (Covering b e cover sent) = refl
told_round own seen (Settled e told) = refl
told_round own seen Waiting = refl

told_searched : (search : Option Search) → search_told search ≡ told_search search
told_searched None = refl
told_searched (Some (Fetching position denials sent)) = refl
told_searched (Some (Filling position proposal)) = told_round proposal.own proposal.seen proposal.round

asked_parts : (noted : Option Epoch) (asked : List ℕ) (stage : Stage) (node : ℕ) → has node (asked_by (record { noted = noted; asked = asked; stage = stage })) ≡ false → (has node asked ≡ false) × (has node (told_stage stage) ≡ false)
asked_parts noted asked (Polling heard best sent) node h = (h, refl)
asked_parts noted asked (Catching through search) node h =
    joined_has node asked (told_search search) (sym (ap (λ told. has node (joined asked told)) (told_searched search)) ∙ h)

-- whom it asked the cells about for earlier positions and for this one is still in its lists
pub asked_of : (r : Reading) (node : ℕ) → has node (asked_by r) ≡ false → (has node r.asked ≡ false) × (has node (told_stage r.stage) ≡ false)
asked_of r node h = asked_parts r.noted r.asked r.stage node h

-- what a read leads to
pub record ReadProceeds (c : Cluster) (tape : List Item) (op : OpId) (group : GroupId) (before was : List ℕ) (t : ReadMove) : Type 0 where
  pub knows : StageKnows c tape op group (t.reading).asked (t.reading).stage
  pub told : (node : ℕ) → has node (t.reading).asked ≡ false → has node (told_stage (t.reading).stage) ≡ false → (has node before ≡ false) × (has node was ≡ false)
  pub silent : (node : ℕ) → has node (told_stage (t.reading).stage) ≡ false → asks_in t.sends op node ≡ false
  pub mine : Each (Mine op) t.sends

module _ (c : Cluster) (tape : List Item) (op : OpId) (group : GroupId) where
  module _ (noted : Option Epoch) (asked : List ℕ) where
    abbrev at : Stage → Reading
    at stage = record { noted = noted; asked = asked; stage = stage }

    -- it sends nothing
    still_read : (told : List ℕ) (stage : Stage) → StageKnows c tape op group asked stage → ((node : ℕ) → has node (told_stage stage) ≡ false → has node told ≡ false)
        → ReadProceeds c tape op group asked told (record { reading = at stage; sends = [] })
    still_read told stage k more = record { knows = k; told = λ node a b. (a, more node b); silent = λ node h. refl; mine = tt }

    -- its round goes on
    round_read : (told : List ℕ) (through position : ℕ) (t : RoundMove) → Proceeds c tape op (at_place group position) asked told t
        → ReadProceeds c tape op group asked told (record { reading = at (Catching through (Some (Filling position t.proposal))); sends = t.sends })
    round_read told through position t w = record { knows = w.knows; told = λ node a b. (a, w.told node b); silent = w.silent; mine = w.mine }

    fills_read : (stage : Stage) (through position now : ℕ) → ReadProceeds c tape op group asked [] (fills (who c op group) (at stage) through position now)
    fills_read stage through position now = round_read [] through position (completes (here c op (at_place group position) asked) (no_op (who c op group)) now)
        (completes_proceeds c tape op (at_place group position) asked (no_op (who c op group)) now)

    read_if : (told : List ℕ) (t : Bool) (one other : ReadMove) → ReadProceeds c tape op group asked told one → ReadProceeds c tape op group asked told other → ReadProceeds c tape op group asked told (cond t one other)
    read_if told true one other h k = h
    read_if told false one other h k = k

    topped_read : (from top : ℕ) (heard : List ℕ) (best sent : ℕ) → ReadProceeds c tape op group asked [] (topped (who c op group) (at (Polling heard best sent)) from top heard best sent)
    topped_read from top heard best sent =
        read_if [] (has from heard || not (has from (voters c))) _ _ (still_read [] (Polling heard best sent) tt (λ node h. refl))
        (read_if [] (is_majority (length (voters c)) (length heard + 1)) _ _ (still_read [] (Catching _ None) tt (λ node h. refl)) (still_read [] (Polling _ _ sent) tt (λ node h. refl)))

    denied_read : (stage : Stage) (from through position : ℕ) (denials : List ℕ) (sent now : ℕ) → ReadProceeds c tape op group asked [] (denied (who c op group) (at stage) from through position denials sent now)
    denied_read stage from through position denials sent now =
        read_if [] (list_all (λ voter. has voter (with_node from denials)) (helpers (who c op group))) _ _ (fills_read stage through position now)
        (still_read [] (Catching through (Some (Fetching position (with_node from denials) sent))) tt (λ node h. refl))

    abbrev Silent : Stage → Type 0
    Silent stage = (node : ℕ) → has node asked ≡ false → has node (told_stage stage) ≡ false → has_asked_about tape op node ≡ false

    heard_read : (stage : Stage) (from now : ℕ) (body : Body) → StageKnows c tape op group asked stage → Silent stage → Took tape (message from op.node.0 body)
        → ReadProceeds c tape op group asked (told_stage stage) (hears (who c op group) (at stage) from now body)
    heard_read (Polling heard best sent) from now (Top o g top) k still took =
        read_if [] (same_op op o && same_group group g) _ _ (topped_read from top.0 heard best sent) (still_read [] (Polling heard best sent) tt (λ node h. h))
    heard_read (Polling heard best sent) from now _ k still took = still_read [] (Polling heard best sent) tt (λ node h. h)
    heard_read (Catching through None) from now body k still took = still_read [] (Catching through None) tt (λ node h. h)
    heard_read (Catching through (Some (Fetching position denials sent))) from now (HaveNot o g n) k still took =
        read_if [] (same_op op o && same_group group g && n.0 == position && has from (helpers (who c op group))) _ _
        (denied_read (Catching through (Some (Fetching position denials sent))) from through position denials sent now) (still_read [] (Catching through (Some (Fetching position denials sent))) tt (λ node h. h))
    heard_read (Catching through (Some (Fetching position denials sent))) from now _ k still took = still_read [] (Catching through (Some (Fetching position denials sent))) tt (λ node h. h)
    heard_read (Catching through (Some (Filling position proposal))) from now body k still took =
        round_read (told_of proposal.round) through position (takes (here c op (at_place group position) asked) proposal from now body)
        (takes_proceeds c tape op (at_place group position) asked proposal from now body k still took)

    due_read : (stage : Stage) (retry now : ℕ) → StageKnows c tape op group asked stage → ReadProceeds c tape op group asked (told_stage stage) (falls_due (who c op group) (at stage) retry now)
    due_read (Polling heard best sent) retry now k =
        read_if [] (is_due sent retry now) _ _
        (record {
          knows = tt;
          told = λ node a b. (a, b);
          silent = λ node h. asks_map (where_to (who c op group)) op node (λ to. refl) (without heard (voters c));
          mine = mine_map op (where_to (who c op group)) (λ to. record { from = refl; of = tt }) (without heard (voters c));
        }) (still_read [] (Polling heard best sent) tt (λ node h. h))
    due_read (Catching through None) retry now k = still_read [] (Catching through None) tt (λ node h. h)
    due_read (Catching through (Some (Fetching position denials sent))) retry now k =
        read_if [] (is_due sent retry now) _ _ (fills_read (Catching through (Some (Fetching position denials sent))) through position now) (still_read [] (Catching through (Some (Fetching position denials sent))) tt (λ node h. h))
    due_read (Catching through (Some (Filling position proposal))) retry now k =
        round_read (told_of proposal.round) through position (due (here c op (at_place group position) asked) proposal retry now) (due_proceeds c tape op (at_place group position) asked proposal retry now k)

  pub hears_read : (r : Reading) (from now : ℕ) (body : Body) → StageKnows c tape op group r.asked r.stage
      → ((node : ℕ) → has node r.asked ≡ false → has node (told_stage r.stage) ≡ false → has_asked_about tape op node ≡ false) → Took tape (message from op.node.0 body)
      → ReadProceeds c tape op group r.asked (told_stage r.stage) (hears (who c op group) r from now body)
  hears_read r from now body k still took = heard_read r.noted r.asked r.stage from now body k still took

  pub falls_due_read : (r : Reading) (retry now : ℕ) → StageKnows c tape op group r.asked r.stage → ReadProceeds c tape op group r.asked (told_stage r.stage) (falls_due (who c op group) r retry now)
  falls_due_read r retry now k = due_read r.noted r.asked r.stage retry now k

  -- ---- the next position

  abbrev fetched_by : Reading → ℕ → ℕ → ℕ → List ℕ → ReadMove
  fetched_by r through position now [] = fills (who c op group) r through position now
  fetched_by r through position now (voter ∷ nodes) = move r (Catching through (Some (Fetching position [] now))) (map (fetch_to (who c op group) position) (voter ∷ nodes))

  fetched_read : (noted : Option Epoch) (asked : List ℕ) (stage : Stage) (through position now : ℕ) (nodes : List ℕ) → ReadProceeds c tape op group asked [] (fetched_by (record { noted = noted; asked = asked; stage = stage }) through position now nodes)
  fetched_read noted asked stage through position now [] = fills_read noted asked stage through position now
  fetched_read noted asked stage through position now (voter ∷ nodes) = record {
    knows = tt;
    told = λ node a b. (a, refl);
    silent = λ node h. asks_map (fetch_to (who c op group) position) op node (λ to. refl) (voter ∷ nodes);
    mine = mine_map op (fetch_to (who c op group) position) (λ to. record { from = refl; of = tt }) (voter ∷ nodes);
  }

  -- of a read that asked the cells about more nodes
  more_asked : (old told asked : List ℕ) (t : ReadMove) → ((node : ℕ) → has node asked ≡ false → (has node old ≡ false) × (has node told ≡ false)) → ReadProceeds c tape op group asked [] t → ReadProceeds c tape op group old told t
  more_asked old told asked t more w = record { knows = w.knows; told = λ node a b. more node (w.told node a b).0; silent = w.silent; mine = w.mine }

  sought_read : (noted : Option Epoch) (asked : List ℕ) (stage : Stage) (least now : ℕ) → StageKnows c tape op group asked stage
      → ReadProceeds c tape op group asked (told_stage stage) (seeks (who c op group) (record { noted = noted; asked = asked; stage = stage }) least now)
  sought_read noted asked (Polling heard best sent) least now k = still_read noted asked [] (Polling heard best sent) tt (λ node h. h)
  sought_read noted asked (Catching through search) least now k =
      read_if noted asked (told_search search) (is_position least (searched search)) _ _ (still_read noted asked (told_search search) (Catching through search) k (λ node h. h))
      (more_asked asked (told_search search) (asked_by (record { noted = noted; asked = asked; stage = Catching through search })) _ (asked_parts noted asked (Catching through search))
      (fetched_read noted (asked_by (record { noted = noted; asked = asked; stage = Catching through search })) (Catching through search) through least now (helpers (who c op group))))

  pub seeks_read : (r : Reading) (least now : ℕ) → StageKnows c tape op group r.asked r.stage → ReadProceeds c tape op group r.asked (told_stage r.stage) (seeks (who c op group) r least now)
  seeks_read r least now k = sought_read r.noted r.asked r.stage least now k

  -- ---- beginnings

  pub local_begun : (asked : List ℕ) (top : ℕ) → ReadProceeds c tape op group asked [] (local_read asked top)
  local_begun asked top = still_read None asked [] (Catching top None) tt (λ node h. refl)

  pub polled_begun : (noted : Option Epoch) (asked : List ℕ) (now : ℕ) → ReadProceeds c tape op group asked [] (polled_read (who c op group) noted asked now)
  polled_begun noted asked now = record {
    knows = tt;
    told = λ node a b. (a, refl);
    silent = λ node h. asks_map (where_to (who c op group)) op node (λ to. refl) (voters c);
    mine = mine_map op (where_to (who c op group)) (λ to. record { from = refl; of = tt }) (voters c);
  }
