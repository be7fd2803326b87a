-- What a round knows as it settles is what settles an entry.
use Rattle.std.proofs.Common.{◌≡◌, inl, inr, ℕ, zero, suc, ◌+◌, ◌==◌, ◌&&◌, ◌||◌, ◌≤◌, ◌<◌, nat_le, Bool, true, false, not, cond, List, [], ◌∷◌, filter, length, map, Option, Some, None, refl, sym, ap, ◌∙◌, subst, arith}
use Rattle.std.proofs.lemmas.Bool.Decides.{nat_tests}
use Rattle.std.specs.List.{list_all, range_with_len}
use Rattle.std.proofs.lemmas.Bool.{and_parts, or_cases, or_left, not-true, and_from, or_right}
use Rattle.mega_base.specs.declared.names.GroupId.{GroupId}
use Rattle.mega_base.specs.declared.names.OpId.{OpId}
use Rattle.mega_ballot.specs.declared.ballot.Ballot.{Ballot}
use Rattle.mega_cluster.specs.declared.cluster.Cluster.{Cluster}
use Rattle.mega_entry.specs.declared.content.Content.{Content}
use Rattle.mega_entry.specs.declared.content.Enter.{Enter}
use Rattle.mega_outcome.specs.declared.request.Request.{Request}
use Rattle.mega_wire.specs.declared.message.Message.{Message}
use Rattle.mega_wire.specs.declared.message.Body.{Body}
use Rattle.mega_wire.specs.declared.message.Body.TheVariants.{Unheld, Decide as Tell, Have}
use Rattle.mega_run_laws.specs.of_transcript.declared.item.Item.{Item}
use Rattle.mega_run_laws.specs.of_transcript.declared.item.Item.TheVariants.{Sent}
use Rattle.mega_run_laws.specs.of_promises.Items.{number}
use Rattle.mega_run_laws.specs.of_promises.Promises.{Stands}
use Rattle.mega_run_laws.specs.of_rules.of_read.of_propose.Members.{has}
use Rattle.mega_run_laws.specs.of_rules.of_read.of_propose.declared.round.Cover.{Cover}
use Rattle.mega_run_laws.specs.of_rules.of_read.of_propose.declared.round.Free.{Free}
use Rattle.mega_run_laws.specs.of_rules.of_read.of_propose.declared.round.Proposal.{Proposal}
use Rattle.mega_run_laws.specs.of_rules.of_read.of_propose.declared.round.Round.{Round}
use Rattle.mega_run_laws.specs.of_rules.of_read.of_propose.declared.round.Round.TheVariants.{Asking, Preparing, Accepting, Covering, Settled, Waiting}
use Rattle.mega_run_laws.specs.of_rules.of_read.of_propose.Rounds.{is_covered, is_free, is_same_free, settled}
use Rattle.mega_run_laws.specs.of_rules.of_read.of_propose.Members.{is_majority}
use Rattle.mega_run_laws.specs.of_rules.of_read.declared.reading.Reading.{Reading}
use Rattle.mega_run_laws.specs.of_rules.of_read.declared.reading.Search.TheVariants.{Fetching, Filling}
use Rattle.mega_run_laws.specs.of_rules.of_read.declared.reading.Stage.{Stage}
use Rattle.mega_run_laws.specs.of_rules.of_read.declared.reading.Stage.TheVariants.{Polling, Catching}
use Rattle.mega_run_laws.specs.of_rules.of_read.Catching.{read_settled, settled_there}
use Rattle.mega_run_laws.specs.of_rules.Members.{cells, full_nodes, is_cell}
use Rattle.mega_run_laws.specs.of_rules.Operations.{Operation, Phase, Proposes, Reads, Setting}
use Rattle.mega_run_laws.specs.of_rules.Steps.{Decision, Heard, decision_at, first_settled, hears_message, read_decision, settled_by}
use Rattle.mega_run_laws.specs.of_tape_laws.Places.{In, Place, Took, count}
use Rattle.mega_run_laws.specs.of_tape_laws.Lawful.{message}
use Rattle.mega_run_laws.proofs.of_tape_laws.Ballots.{number_is, number_self}
use Rattle.mega_run_laws.proofs.of_tape_laws.Lists.{some_is}
use Rattle.mega_run_laws.specs.Justified.{Each, here}
use Rattle.mega_run_laws.proofs.Counted.{count_more, count_most, majority_is}
use Rattle.mega_run_laws.proofs.Opened.{at_place}
use Rattle.mega_settled_laws.specs.Covering.{HasSettled, IsCoveredSince, free, invalidated, voted}
use Rattle.mega_settled_laws.proofs.Rounds.{AreOnce, Covered, Covers, Knows, is_among}
use Rattle.mega_settled_laws.proofs.Reading.{StageKnows}
use Rattle.mega_settled_laws.proofs.Turns.{Heeds, Opens, PhaseKnows, hears_heeds}

-- ---- cells

-- each answer that a cell holds nothing is of a cell
abbrev pub CellBody : Cluster → Body → Type 0
CellBody c (Unheld op cell about) = is_cell c cell ≡ true
CellBody c _ = Unit {0}

abbrev pub CellItem : Cluster → Item → Type 0
CellItem c (Sent key m) = CellBody c m.body
CellItem c _ = Unit {0}

abbrev pub AreOfCells : Cluster → List Item → Type 0
AreOfCells c [] = Unit {0}
AreOfCells c (item ∷ before) = CellItem c item × AreOfCells c before

of_cell : (c : Cluster) (tape : List Item) (item : Item) → AreOfCells c tape → Stands item tape → CellItem c item
of_cell c [] item h s = absurd s
of_cell c (other ∷ before) item h (inl same) = subst (CellItem c) same h.0
of_cell c (other ∷ before) item h (inr s) = of_cell c before item h.1 s

has_range : (a n x : ℕ) → a ≤ x → x < a + n → has x (range_with_len a n) ≡ true
has_range a zero x le less = absurd (omega (arith, le, less))
has_range a (suc n) x le less = by (a == x) refl (λ next. has_range (a + 1) n x next (within less))
  where
    within : x < a + suc n → x < (a + 1) + n
    within less = omega (arith, less)

    above : (a x : ℕ) → a ≤ x → (a == x) ≡ false → a + 1 ≤ x
    above a x le other = grind (arith, nat_tests)

    by : (t : Bool) → (a == x) ≡ t → (a + 1 ≤ x → has x (range_with_len (a + 1) n) ≡ true) → (t || has x (range_with_len (a + 1) n)) ≡ true
    by true e rest = refl
    by false e rest = rest (above a x le e)

at_least : (a b : ℕ) → nat_le a b ≡ true → a ≤ b
at_least a b h = grind (arith, nat_tests)

-- as many cells as pairs of a node, where no pair stands twice
free_count : (node n : ℕ) (frees : List Free) → AreOnce frees → ((cell : ℕ) → is_among frees node cell ≡ true → (1 ≤ cell) × (cell ≤ n))
    → length (filter (λ (one : Free). one.node == node) frees) ≤ count (is_among frees node) (range_with_len 1 n)
free_count node n [] once within = omega arith
free_count node n (one ∷ frees) once within = by (one.node == node) refl
    (free_count node n frees once.1 (λ cell h. within cell (or_right (is_same_free (record { cell = cell; node = node }) one) (is_among frees node cell) h)))
  where
    more : (cell : ℕ) → is_among frees node cell ≡ true → is_among (one ∷ frees) node cell ≡ true
    more cell h = or_right (is_same_free (record { cell = cell; node = node }) one) (is_among frees node cell) h

    here_is : (one.node == node) ≡ true → is_among (one ∷ frees) node one.cell ≡ true
    here_is e = or_left (is_same_free (record { cell = one.cell; node = node }) one) (is_among frees node one.cell)
        (and_from (one.cell == one.cell) (node == one.node) (number_self one.cell) (ap (λ v. v == one.node) (sym (number_is one.node node e)) ∙ number_self one.node))

    new_is : (one.node == node) ≡ true → is_among frees node one.cell ≡ false
    new_is e = ap (λ v. is_among frees v one.cell) (sym (number_is one.node node e)) ∙ once.0

    longer : {a b d : ℕ} → a ≤ b → b + 1 ≤ d → suc a ≤ d
    longer le lt = omega (arith, le, lt)

    shorter : {a b d : ℕ} → a ≤ b → b ≤ d → a ≤ d
    shorter le lt = omega (arith, le, lt)

    by : (t : Bool) → (one.node == node) ≡ t → length (filter (λ (other : Free). other.node == node) frees) ≤ count (is_among frees node) (range_with_len 1 n)
        → length (cond t (one ∷ filter (λ (other : Free). other.node == node) frees) (filter (λ (other : Free). other.node == node) frees)) ≤ count (is_among (one ∷ frees) node) (range_with_len 1 n)
    by true e le = let inside = within one.cell (here_is e) in
        longer le (count_more (is_among frees node) (is_among (one ∷ frees) node) one.cell (range_with_len 1 n) more (new_is e) (here_is e) (has_range 1 n one.cell inside.0 (let most = inside.1 in omega (arith, most))))
    by false e le = shorter le (count_most (is_among frees node) (is_among (one ∷ frees) node) (range_with_len 1 n) more)

-- ---- what is settled

module _ (c : Cluster) (tape : List Item) (op : OpId) (p : Place) (asked : List ℕ) (e : Content) where
  free_covered : (b : Ballot) (cover : Cover) (k : Covers c tape op p asked b e cover) → AreOfCells c tape → (node : ℕ) → is_free (here c op p asked) cover node ≡ true → IsCoveredSince c (k.backed).moment tape op p b e node
  free_covered b cover k cells_of node h =
      let outer = and_parts (has node cover.told && not (has node asked)) (is_majority c.cells (length (filter (λ (one : Free). one.node == node) cover.free))) h in
      let inner = and_parts (has node cover.told) (not (has node asked)) outer.0 in
      free (is_among cover.free node)
      (majority_is c.cells (length (filter (λ (one : Free). one.node == node) cover.free)) (count (is_among cover.free node) (cells c)) outer.1 (free_count node c.cells cover.free k.once within))
      ((k.backed).quiet node (not-true (has node asked) inner.1))
      (λ cell i. (k.free cell node i).heard)
    where
      within : (cell : ℕ) → is_among cover.free node cell ≡ true → (1 ≤ cell) × (cell ≤ c.cells)
      within cell i =
          let from = k.free cell node i in
          (at_least 1 cell (and_parts (nat_le 1 cell) (nat_le cell c.cells) (of_cell c tape (Sent (from.heard).number (message cell op.node.0 (Unheld op cell (number node)))) cells_of (from.heard).sent)).0, from.within)

  node_covered : (b : Ballot) (cover : Cover) (k : Covers c tape op p asked b e cover) → AreOfCells c tape → (node : ℕ) → is_covered (here c op p asked) cover node ≡ true → IsCoveredSince c (k.backed).moment tape op p b e node
  node_covered b cover k cells_of node h = elim (or_cases (has node cover.accepted || has node cover.invalidated) (is_free (here c op p asked) cover node) h) [
    | inl one ↦ elim (or_cases (has node cover.accepted) (has node cover.invalidated) one) [ inl a ↦ voted (k.accepted node a) | inr i ↦ invalidated (k.invalidated node i) ]
    | inr f ↦ free_covered b cover k cells_of node f
  ]

  each_covered : (test : ℕ → Bool) (nodes : List ℕ) → list_all test nodes ≡ true → (node : ℕ) → In node nodes → test node ≡ true
  each_covered test [] all node i = absurd i
  each_covered test (one ∷ nodes) all node (inl same) = subst (λ v. test v ≡ true) same (and_parts (test one) (list_all test nodes) all).0
  each_covered test (one ∷ nodes) all node (inr i) = each_covered test nodes (and_parts (test one) (list_all test nodes) all).1 node i

  pub covered_settled : Covered c tape op p asked e → AreOfCells c tape → HasSettled c tape op p e
  covered_settled k cells_of = record {
    ballot = k.ballot;
    moment = ((k.covers).backed).moment;
    earlier = ((k.covers).backed).earlier;
    test = ((k.covers).backed).test;
    majority = ((k.covers).backed).majority;
    heard = ((k.covers).backed).heard;
    covered = λ node i. node_covered k.ballot k.cover k.covers cells_of node (each_covered (is_covered (here c op p asked) k.cover) (full_nodes c) k.all node i);
  }

-- ---- what an operation settled

-- the cause of a decision: an operation of the node settled it, or another node told or gave it
pub data Cause (c : Cluster) (tape : List Item) (node : ℕ) (p : Place) (e : Content) : Type 0 where
  by_own : (op : OpId) → op.node.0 ≡ node → HasSettled c tape op p e → Cause c tape node p e
  by_news : (from : ℕ) → Took tape (message from node (Tell p.group p.position e)) → Cause c tape node p e
  by_answer : (from : ℕ) (op : OpId) → Took tape (message from node (Have op p.group p.position e)) → Cause c tape node p e

abbrev pub CauseOf : Cluster → List Item → ℕ → Decision → Type 0
CauseOf c tape me d = Cause c tape me (at_place d.group d.position) d.entry

module _ (c : Cluster) (tape : List Item) (me : ℕ) (op : OpId) (own : op.node.0 ≡ me) (cells_of : AreOfCells c tape) where
  round_cause : (p : Place) (asked : List ℕ) (mine : Content) (seen : ℕ) (round : Round) (e : Content) → Knows c tape op p asked round → settled (record { own = mine; seen = seen; round = round }) ≡ Some e → Cause c tape me p e
  round_cause p asked mine seen (Settled entry told) e k is = subst (Cause c tape me p) (some_is entry e is) (by_own op own (covered_settled c tape op p asked entry k cells_of))
  round_cause p asked mine seen (Asking leader sent) e k is = cc
  round_cause p asked mine seen (Preparing b reports sent) e k is = cc
  round_cause p asked mine seen (Accepting b entry votes sent) e k is = cc
  round_cause p asked mine seen (Covering b entry cover sent) e k is = cc
  round_cause p asked mine seen Waiting e k is = cc

  settled_at : (group : GroupId) (n : ℕ) (asked : List ℕ) (proposal : Proposal) → Knows c tape op (at_place group n) asked proposal.round → (o : Option Content) → settled proposal ≡ o
      → (d : Decision) → decision_at group n o ≡ Some d → Cause c tape me (at_place d.group d.position) d.entry
  settled_at group n asked proposal k None is d h = cc
  settled_at group n asked proposal k (Some entry) is d h =
      subst (λ (x : Decision). Cause c tape me (at_place x.group x.position) x.entry) (some_is _ d h) (round_cause (at_place group n) asked proposal.own proposal.seen proposal.round entry k is)

  there_is : (group : GroupId) (n : ℕ) (o : Option Content) → read_decision group (settled_there n o) ≡ decision_at group n o
  there_is group n None = refl
  there_is group n (Some entry) = refl

  settled_stage : (group : GroupId) (r : Reading) (stage : Stage) → StageKnows c tape op group r.asked stage → (d : Decision)
      → read_decision group (read_settled (record { noted = r.noted; asked = r.asked; stage = stage })) ≡ Some d → Cause c tape me (at_place d.group d.position) d.entry
  settled_stage group r (Polling heard best at) k d h = cc
  settled_stage group r (Catching through None) k d h = cc
  settled_stage group r (Catching through (Some (Fetching position denials at))) k d h = cc
  settled_stage group r (Catching through (Some (Filling position proposal))) k d h =
      settled_at group position r.asked proposal k (settled proposal) refl d (sym (there_is group position (settled proposal)) ∙ h)

  settled_phase : (request : Request) (began : ℕ) (visited : List GroupId) (posted : Option Enter) (phase : Phase) → PhaseKnows c tape op phase → (d : Decision)
      → settled_by (record { id = op; request = request; began = began; visited = visited; message = posted; phase = phase }) ≡ Some d → Cause c tape me (at_place d.group d.position) d.entry
  settled_phase request began visited posted (Reads group r) k d h = settled_stage group r r.stage k d h
  settled_phase request began visited posted (Proposes group n asked proposal promised) k d h = settled_at group n asked proposal k (settled proposal) refl d h

-- what one that heard settled
settles : (s : Setting) (tape : List Item) (t : Heard) → Heeds s tape t → AreOfCells s.cluster tape → (d : Decision) → settled_by t.operation ≡ Some d → CauseOf s.cluster tape s.me d
settles s tape t h cells_of d is =
    settled_phase s.cluster tape s.me (t.operation).id h.node cells_of (t.operation).request (t.operation).began (t.operation).visited (t.operation).message (t.operation).phase (h.knowing).knows d is

-- the first of those that heard a message
abbrev or_else : Option Decision → Option Decision → Option Decision
or_else None other = other
or_else (Some d) other = Some d

pub first_settles : (s : Setting) (tape : List Item) → AreOfCells s.cluster tape → (clock : ℕ) (m : Message) → Took tape (message m.from s.me m.body) → (os : List Operation) → Each (Opens s tape) os
    → (d : Decision) → first_settled (map (hears_message s clock m) os) ≡ Some d → CauseOf s.cluster tape s.me d
first_settles s tape cells_of clock m took [] opens d is = cc
first_settles s tape cells_of clock m took (o ∷ os) opens d is =
    by (settled_by (hears_message s clock m o).operation) refl (first_settled (map (hears_message s clock m) os)) refl (first_settles s tape cells_of clock m took os opens.1 d) is
  where
    by : (one : Option Decision) → settled_by (hears_message s clock m o).operation ≡ one → (rest : Option Decision) → first_settled (map (hears_message s clock m) os) ≡ rest
        → (first_settled (map (hears_message s clock m) os) ≡ Some d → CauseOf s.cluster tape s.me d) → or_else one rest ≡ Some d → CauseOf s.cluster tape s.me d
    by None e rest f again is = again (f ∙ is)
    by (Some x) e rest f again is = settles s tape (hears_message s clock m o) (hears_heeds s tape clock m o took opens.0) cells_of d (e ∙ is)
