-- What a round proposes is its operation's own entry, or one that was proposed at the place before.
use Rattle.std.proofs.Common.{◌≡◌, ◌⊎◌, inl, inr, ℕ, ◌==◌, ◌&&◌, max, Bool, true, false, not, cond, nat_le, List, [], ◌∷◌, ◌++◌, length, map, flat_map, Option, Some, None, refl, ap, ◌∙◌}
use Rattle.mega_base.specs.declared.names.OpId.{OpId}
use Rattle.mega_ballot.specs.declared.ballot.Ballot.{Ballot}
use Rattle.mega_ballot.specs.Order.{zero_ballot}
use Rattle.mega_cluster.specs.declared.cluster.Cluster.{Cluster}
use Rattle.mega_entry.specs.declared.content.Content.{Content}
use Rattle.mega_wire.specs.declared.message.Message.{Message}
use Rattle.mega_wire.specs.declared.message.Body.{Body}
use Rattle.mega_wire.specs.declared.message.Body.TheVariants.{Accept, Accepted, Refused, Prepare, Promise, Invalidated, Unheld}
use Rattle.mega_wal.specs.Acceptor.{Promised as PromisedAct, Vote}
use Rattle.mega_wal.specs.Same.{same_op}
use Rattle.mega_tape_laws.specs.of_transcript.declared.item.Item.{Item}
use Rattle.mega_tape_laws.specs.of_read.of_propose.Members.{has, is_majority, others}
use Rattle.mega_tape_laws.specs.of_read.of_propose.declared.round.Report.{Report}
use Rattle.mega_tape_laws.specs.of_read.of_propose.declared.round.Round.{Round}
use Rattle.mega_tape_laws.specs.of_read.of_propose.declared.round.Proposal.{Proposal}
use Rattle.mega_tape_laws.specs.of_read.of_propose.declared.round.Move.{Move as RoundMove}
use Rattle.mega_tape_laws.specs.of_read.of_propose.declared.round.Round.TheVariants.{Asking, Preparing, Accepting, Covering, Settled, Waiting}
use Rattle.mega_tape_laws.specs.of_read.of_propose.Rounds.{accept_to, accepted, completes, cell_numbers, dead_to, due, greatest_vote, invalidate_to, invalidated, is_due, is_here, is_sent, last_round, next_ballot, picked, prepare_to, prepares, promised, refused, same_ballot, takes, uncovered, unheld, vote_round}
use Rattle.mega_tape_laws.specs.of_rules.Members.{voters}
use Rattle.mega_tape_laws.specs.Places.{In, Place, Proposes, Took, acts, moves}
use Rattle.mega_tape_laws.specs.Lawful.{Heard, Lawful, message}
use Rattle.mega_tape_laws.proofs.Made.{acts_lawful, heard_act, promised_here, vote_proposed}
use Rattle.mega_tape_laws.proofs.Votes.{report_in}
use Rattle.mega_run_laws.specs.Justified.{Among, AreOfRound, Each, Knows, OfRound, Reported, Justified, here, is_reported, report_of}
use Rattle.mega_run_laws.proofs.Counted.{IsGreatest, among_push, among_reported, greatest_is}
use Rattle.mega_run_laws.proofs.Rounds.{here_is}

-- an entry was proposed at a place
pub record WasProposed (tape : List Item) (p : Place) (e : Content) : Type 0 where
  pub op : OpId
  pub ballot : Ballot
  pub stands : In (Proposes ballot e) (moves tape op p)

-- the operation's own entry, or one that was proposed there
abbrev pub Known : List Item → Place → Content → Content → Type 0
Known tape p mine e = (e ≡ mine) ⊎ WasProposed tape p e

abbrev pub SaysIt : List Item → OpId → Place → Content → ℕ → Body → Type 0
SaysIt tape op p mine from (Accept o g n b e) = (from ≡ op.node.0) × Known tape p mine e
SaysIt tape op p mine from _ = Unit {0}

abbrev pub Says : List Item → OpId → Place → Content → Message → Type 0
Says tape op p mine m = SaysIt tape op p mine m.from m.body

abbrev IsOf : OpId → Place → Message → Type 0
IsOf op p m = OfRound op p m.body

-- a round keeps its own entry, and proposes it or one that was proposed there
pub record Speaks (tape : List Item) (op : OpId) (p : Place) (mine : Content) (t : RoundMove) : Type 0 where
  pub own : (t.proposal).own ≡ mine
  pub of : AreOfRound op p t.sends
  pub says : Each (Says tape op p mine) t.sends

speaks_if : (tape : List Item) (op : OpId) (p : Place) (mine : Content) (t : Bool) (one other : RoundMove) → (t ≡ true → Speaks tape op p mine one) → Speaks tape op p mine other → Speaks tape op p mine (cond t one other)
speaks_if tape op p mine true one other h k = h refl
speaks_if tape op p mine false one other h k = k

each_map : {X : Type 0} (P : Message → Type 0) (f : X → Message) → ((x : X) → P (f x)) → (xs : List X) → Each P (map f xs)
each_map P f h [] = tt
each_map P f h (x ∷ xs) = (h x, each_map P f h xs)

each_then : (P : Message → Type 0) (xs ys : List Message) → Each P xs → Each P ys → Each P (xs ++ ys)
each_then P [] ys a b = b
each_then P (x ∷ xs) ys a b = (a.0, each_then P xs ys a.1 b)

each_flat : {X : Type 0} (P : Message → Type 0) (f : X → List Message) → ((x : X) → Each P (f x)) → (xs : List X) → Each P (flat_map f xs)
each_flat P f h [] = tt
each_flat P f h (x ∷ xs) = each_then P (f x) (flat_map f xs) (h x) (each_flat P f h xs)

silent : (tape : List Item) (op : OpId) (p : Place) (mine : Content) (seen : ℕ) (round : Round) → Speaks tape op p mine (record { proposal = record { own = mine; seen = seen; round = round }; sends = [] })
silent tape op p mine seen round = record { own = refl; of = tt; says = tt }

accepts_speak : (c : Cluster) (tape : List Item) (op : OpId) (p : Place) (asked : List ℕ) (mine : Content) (seen : ℕ) (round : Round) (b : Ballot) (e : Content) → Known tape p mine e → (to : List ℕ)
    → Speaks tape op p mine (record { proposal = record { own = mine; seen = seen; round = round }; sends = map (accept_to (here c op p asked) b e) to })
accepts_speak c tape op p asked mine seen round b e known to = record { own = refl; of = each_map (IsOf op p) (accept_to (here c op p asked) b e) (λ one. (refl, refl)) to; says = each_map (Says tape op p mine) (accept_to (here c op p asked) b e) (λ one. (refl, known)) to }

prepares_speaks : (c : Cluster) (tape : List Item) (op : OpId) (p : Place) (asked : List ℕ) (mine : Content) (seen now : ℕ) (round : Round) → Speaks tape op p mine (prepares (here c op p asked) (record { own = mine; seen = seen; round = round }) now)
prepares_speaks c tape op p asked mine seen now round = speaks_if tape op p mine (nat_le last_round seen) _ _ (λ h. silent tape op p mine seen Waiting)
    (record { own = refl; of = each_map (IsOf op p) (prepare_to (here c op p asked) (next_ballot (here c op p asked) (record { own = mine; seen = seen; round = round }))) (λ one. (refl, refl)) (voters c); says = each_map (Says tape op p mine) (prepare_to (here c op p asked) (next_ballot (here c op p asked) (record { own = mine; seen = seen; round = round }))) (λ one. tt) (voters c) })

-- ---- what answers lead to

accepted_speaks : (c : Cluster) (tape : List Item) (op : OpId) (p : Place) (asked : List ℕ) (mine : Content) (seen from now : ℕ) (b : Ballot) (e : Content) (round : Round)
    → Speaks tape op p mine (accepted (here c op p asked) (record { own = mine; seen = seen; round = round }) from now b e)
accepted_speaks c tape op p asked mine seen from now b e (Asking leader at) = speaks_if tape op p mine (from == leader && is_sent zero_ballot mine b e) _ _
    (λ h. accepts_speak c tape op p asked mine seen _ zero_ballot mine (inl refl) (others leader (voters c))) (silent tape op p mine seen (Asking leader at))
accepted_speaks c tape op p asked mine seen from now b e (Accepting ballot entry voted at) = speaks_if tape op p mine (is_sent ballot entry b e && has from (voters c)) _ _
    (λ h. silent tape op p mine seen _) (silent tape op p mine seen (Accepting ballot entry voted at))
accepted_speaks c tape op p asked mine seen from now b e (Covering ballot entry cover at) = speaks_if tape op p mine (is_sent ballot entry b e && has from (voters c)) _ _
    (λ h. silent tape op p mine seen _) (silent tape op p mine seen (Covering ballot entry cover at))
accepted_speaks c tape op p asked mine seen from now b e (Preparing ballot reports at) = silent tape op p mine seen (Preparing ballot reports at)
accepted_speaks c tape op p asked mine seen from now b e (Settled entry told) = silent tape op p mine seen (Settled entry told)
accepted_speaks c tape op p asked mine seen from now b e Waiting = silent tape op p mine seen Waiting

refused_speaks : (c : Cluster) (tape : List Item) (op : OpId) (p : Place) (asked : List ℕ) (mine : Content) (seen now : ℕ) (round : Round)
    → Speaks tape op p mine (refused (here c op p asked) (record { own = mine; seen = seen; round = round }) now)
refused_speaks c tape op p asked mine seen now (Asking leader at) = prepares_speaks c tape op p asked mine seen now (Asking leader at)
refused_speaks c tape op p asked mine seen now (Preparing ballot reports at) = silent tape op p mine seen (Preparing ballot reports at)
refused_speaks c tape op p asked mine seen now (Accepting ballot entry voted at) = silent tape op p mine seen (Accepting ballot entry voted at)
refused_speaks c tape op p asked mine seen now (Covering ballot entry cover at) = silent tape op p mine seen (Covering ballot entry cover at)
refused_speaks c tape op p asked mine seen now (Settled entry told) = silent tape op p mine seen (Settled entry told)
refused_speaks c tape op p asked mine seen now Waiting = silent tape op p mine seen Waiting

-- a vote that was reported was proposed
heard_vote : (c : Cluster) (tape : List Item) → Lawful c tape → (voter : ℕ) (op : OpId) (p : Place) (b : Ballot) (report : Option Vote) → Heard tape voter op (Promise op p.group p.position b report)
    → (x : Vote) → report ≡ Some x → WasProposed tape p x.1
heard_vote c tape l voter op p b report heard x is =
    let made = heard_act tape voter p (message voter op.node.0 (Promise op p.group p.position b report)) (PromisedAct b report) (promised_here voter p op.node.0 op b report) heard in
    let vote = report_in (acts tape voter p) (acts_lawful c tape voter p l) b report made x is in
    let from = vote_proposed c tape l voter p x.0 x.1 vote in
    record { op = from.op; ballot = x.0; stands = from.stands }

reports_proposed : (c : Cluster) (tape : List Item) → Lawful c tape → (op : OpId) (p : Place) (b : Ballot) (reports : List Report) → Reported c tape op p b reports
    → (report : Report) (x : Vote) → Among report reports → report.vote ≡ Some x → WasProposed tape p x.1
reports_proposed c tape l op p b reports a report x i is =
    heard_vote c tape l report.voter op p b (report_of reports report.voter) (a.heard report.voter (among_reported report reports i)) x (a.only report i ∙ is)

picked_known : (tape : List Item) (p : Place) (mine : Content) (reports : List Report) → ((report : Report) (x : Vote) → Among report reports → report.vote ≡ Some x → WasProposed tape p x.1)
    → Known tape p mine (picked mine (greatest_vote reports))
picked_known tape p mine reports proposed = go (greatest_vote reports) refl
  where
    go : (o : Option Vote) → greatest_vote reports ≡ o → Known tape p mine (picked mine o)
    go None h = inl refl
    go (Some x) h = let g : IsGreatest x reports = greatest_is reports x h in inr (proposed g.report x g.among g.is_vote)

promised_speaks : (c : Cluster) (tape : List Item) → Lawful c tape → (op : OpId) (p : Place) (asked : List ℕ) (mine : Content) (seen from now : ℕ) (b : Ballot) (vote : Option Vote)
    → Heard tape from op (Promise op p.group p.position b vote) → (round : Round) → Knows c tape op p round
    → Speaks tape op p mine (promised (here c op p asked) (record { own = mine; seen = seen; round = round }) from now b vote)
promised_speaks c tape l op p asked mine seen from now b vote heard (Preparing ballot reports at) k =
    speaks_if tape op p mine (same_ballot ballot b && has from (voters c) && not (is_reported reports from)) _ _
    (λ h. speaks_if tape op p mine (is_majority (length (voters c)) (length (reports ++ report ∷ []))) _ _
    (λ m. accepts_speak c tape op p asked mine seen _ ballot (picked mine (greatest_vote (reports ++ report ∷ []))) (picked_known tape p mine (reports ++ report ∷ []) proposed) (voters c))
    (silent tape op p mine seen (Preparing ballot (reports ++ report ∷ []) at)))
    (silent tape op p mine seen (Preparing ballot reports at))
  where
    report : Report
    report = record { voter = from; vote = vote }

    proposed : (one : Report) (x : Vote) → Among one (reports ++ report ∷ []) → one.vote ≡ Some x → WasProposed tape p x.1
    proposed one x i is = elim (among_push report one reports i) [
      | inl j ↦ reports_proposed c tape l op p ballot reports k.1 one x j is
      | inr same ↦ heard_vote c tape l from op p b vote heard x (ap (λ (r : Report). r.vote) same ∙ is)
    ]
promised_speaks c tape l op p asked mine seen from now b vote heard (Asking leader at) k = silent tape op p mine seen (Asking leader at)
promised_speaks c tape l op p asked mine seen from now b vote heard (Accepting ballot entry voted at) k = silent tape op p mine seen (Accepting ballot entry voted at)
promised_speaks c tape l op p asked mine seen from now b vote heard (Covering ballot entry cover at) k = silent tape op p mine seen (Covering ballot entry cover at)
promised_speaks c tape l op p asked mine seen from now b vote heard (Settled entry told) k = silent tape op p mine seen (Settled entry told)
promised_speaks c tape l op p asked mine seen from now b vote heard Waiting k = silent tape op p mine seen Waiting

invalidated_speaks : (c : Cluster) (tape : List Item) (op : OpId) (p : Place) (asked : List ℕ) (mine : Content) (seen from : ℕ) (round : Round)
    → Speaks tape op p mine (invalidated (here c op p asked) (record { own = mine; seen = seen; round = round }) from)
invalidated_speaks c tape op p asked mine seen from (Covering ballot entry cover at) = speaks_if tape op p mine (has from cover.told) _ _ (λ h. silent tape op p mine seen _) (silent tape op p mine seen (Covering ballot entry cover at))
invalidated_speaks c tape op p asked mine seen from (Asking leader at) = silent tape op p mine seen (Asking leader at)
invalidated_speaks c tape op p asked mine seen from (Preparing ballot reports at) = silent tape op p mine seen (Preparing ballot reports at)
invalidated_speaks c tape op p asked mine seen from (Accepting ballot entry voted at) = silent tape op p mine seen (Accepting ballot entry voted at)
invalidated_speaks c tape op p asked mine seen from (Settled entry told) = silent tape op p mine seen (Settled entry told)
invalidated_speaks c tape op p asked mine seen from Waiting = silent tape op p mine seen Waiting

unheld_speaks : (c : Cluster) (tape : List Item) (op : OpId) (p : Place) (asked : List ℕ) (mine : Content) (seen cell node : ℕ) (round : Round)
    → Speaks tape op p mine (unheld (here c op p asked) (record { own = mine; seen = seen; round = round }) cell node)
unheld_speaks c tape op p asked mine seen cell node (Covering ballot entry cover at) = speaks_if tape op p mine (nat_le cell c.cells && has node cover.told) _ _ (λ h. silent tape op p mine seen _) (silent tape op p mine seen (Covering ballot entry cover at))
unheld_speaks c tape op p asked mine seen cell node (Asking leader at) = silent tape op p mine seen (Asking leader at)
unheld_speaks c tape op p asked mine seen cell node (Preparing ballot reports at) = silent tape op p mine seen (Preparing ballot reports at)
unheld_speaks c tape op p asked mine seen cell node (Accepting ballot entry voted at) = silent tape op p mine seen (Accepting ballot entry voted at)
unheld_speaks c tape op p asked mine seen cell node (Settled entry told) = silent tape op p mine seen (Settled entry told)
unheld_speaks c tape op p asked mine seen cell node Waiting = silent tape op p mine seen Waiting

pub takes_speaks : (c : Cluster) (tape : List Item) → Lawful c tape → (op : OpId) (p : Place) (asked : List ℕ) (proposal : Proposal) (from now : ℕ) (body : Body)
    → Justified c tape op p proposal → Took tape (message from op.node.0 body) → Speaks tape op p proposal.own (takes (here c op p asked) proposal from now body)
takes_speaks c tape l op p asked proposal from now (Accepted o g n b e) v took = speaks_if tape op p proposal.own (is_here (here c op p asked) o g n) _ _
    (λ h. accepted_speaks c tape op p asked proposal.own (max proposal.seen b.round) from now b e proposal.round) (silent tape op p proposal.own proposal.seen proposal.round)
takes_speaks c tape l op p asked proposal from now (Refused o g n b shown e) v took = speaks_if tape op p proposal.own (is_here (here c op p asked) o g n) _ _
    (λ h. refused_speaks c tape op p asked proposal.own (max proposal.seen (max b.round shown.round)) now proposal.round) (silent tape op p proposal.own proposal.seen proposal.round)
takes_speaks c tape l op p asked proposal from now (Promise o g n b vote) v took = speaks_if tape op p proposal.own (is_here (here c op p asked) o g n) _ _
    (λ h. let at = here_is c op p asked o g n h in
    promised_speaks c tape l op p asked proposal.own (max proposal.seen (max b.round (vote_round vote))) from now b vote
    (coe 0 1 (i. Took tape (message from op.node.0 (Promise (at.0 i) (at.1 i).group (at.1 i).position b vote))) took) proposal.round v.knows) (silent tape op p proposal.own proposal.seen proposal.round)
takes_speaks c tape l op p asked proposal from now (Invalidated o g n) v took = speaks_if tape op p proposal.own (is_here (here c op p asked) o g n) _ _
    (λ h. invalidated_speaks c tape op p asked proposal.own proposal.seen from proposal.round) (silent tape op p proposal.own proposal.seen proposal.round)
takes_speaks c tape l op p asked proposal from now (Unheld o cell node) v took = speaks_if tape op p proposal.own (same_op op o && from == cell) _ _
    (λ h. unheld_speaks c tape op p asked proposal.own proposal.seen cell node.0 proposal.round) (silent tape op p proposal.own proposal.seen proposal.round)
takes_speaks c tape l op p asked proposal from now (Accept o g n b e) v took = speaks_if tape op p proposal.own (is_here (here c op p asked) o g n) _ _
    (λ h. silent tape op p proposal.own (max proposal.seen b.round) proposal.round) (silent tape op p proposal.own proposal.seen proposal.round)
takes_speaks c tape l op p asked proposal from now (Prepare o g n b) v took = speaks_if tape op p proposal.own (is_here (here c op p asked) o g n) _ _
    (λ h. silent tape op p proposal.own (max proposal.seen b.round) proposal.round) (silent tape op p proposal.own proposal.seen proposal.round)
takes_speaks c tape l op p asked proposal from now _ v took = silent tape op p proposal.own proposal.seen proposal.round

-- ---- a tick, and beginnings

due_says : (c : Cluster) (tape : List Item) (op : OpId) (p : Place) (asked : List ℕ) (mine : Content) (seen retry now : ℕ) (round : Round)
    → Speaks tape op p mine (due (here c op p asked) (record { own = mine; seen = seen; round = round }) retry now)
due_says c tape op p asked mine seen retry now (Asking leader at) = speaks_if tape op p mine (is_due at retry now) _ _ (λ h. prepares_speaks c tape op p asked mine seen now (Asking leader at)) (silent tape op p mine seen (Asking leader at))
due_says c tape op p asked mine seen retry now (Preparing ballot reports at) = speaks_if tape op p mine (is_due at retry now) _ _ (λ h. prepares_speaks c tape op p asked mine seen now (Preparing ballot reports at)) (silent tape op p mine seen (Preparing ballot reports at))
due_says c tape op p asked mine seen retry now (Accepting ballot entry voted at) = speaks_if tape op p mine (is_due at retry now) _ _ (λ h. prepares_speaks c tape op p asked mine seen now (Accepting ballot entry voted at)) (silent tape op p mine seen (Accepting ballot entry voted at))
due_says c tape op p asked mine seen retry now (Covering ballot entry cover at) = speaks_if tape op p mine (is_due at retry now) _ _
    (λ h. record {
      own = refl;
      of = each_then (IsOf op p) (map (invalidate_to (here c op p asked)) nodes) (flat_map (λ node. map (dead_to (here c op p asked) node) (cell_numbers (here c op p asked))) nodes)
          (each_map (IsOf op p) (invalidate_to (here c op p asked)) (λ one. tt) nodes)
          (each_flat (IsOf op p) (λ node. map (dead_to (here c op p asked) node) (cell_numbers (here c op p asked))) (λ node. each_map (IsOf op p) (dead_to (here c op p asked) node) (λ one. tt) (cell_numbers (here c op p asked))) nodes);
      says = each_then (Says tape op p mine) (map (invalidate_to (here c op p asked)) nodes) (flat_map (λ node. map (dead_to (here c op p asked) node) (cell_numbers (here c op p asked))) nodes)
          (each_map (Says tape op p mine) (invalidate_to (here c op p asked)) (λ one. tt) nodes)
          (each_flat (Says tape op p mine) (λ node. map (dead_to (here c op p asked) node) (cell_numbers (here c op p asked))) (λ node. each_map (Says tape op p mine) (dead_to (here c op p asked) node) (λ one. tt) (cell_numbers (here c op p asked))) nodes);
    }) (silent tape op p mine seen (Covering ballot entry cover at))
  where
    nodes : List ℕ
    nodes = uncovered (here c op p asked) cover
due_says c tape op p asked mine seen retry now (Settled entry told) = silent tape op p mine seen (Settled entry told)
due_says c tape op p asked mine seen retry now Waiting = silent tape op p mine seen Waiting

pub due_speaks : (c : Cluster) (tape : List Item) (op : OpId) (p : Place) (asked : List ℕ) (proposal : Proposal) (retry now : ℕ) → Speaks tape op p proposal.own (due (here c op p asked) proposal retry now)
due_speaks c tape op p asked proposal retry now = due_says c tape op p asked proposal.own proposal.seen retry now proposal.round

pub completes_speaks : (c : Cluster) (tape : List Item) (op : OpId) (p : Place) (asked : List ℕ) (mine : Content) (now : ℕ) → Speaks tape op p mine (completes (here c op p asked) mine now)
completes_speaks c tape op p asked mine now = prepares_speaks c tape op p asked mine 0 now Waiting
