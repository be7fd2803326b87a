-- The operations of a node act one after another: each asks only while it polls and before it proposes, and where it asked about the group that it reads, it
-- reads through what a poll told it.
use Rattle.std.proofs.Common.{ℕ, ◌≡◌, ◌⊎◌, inl, inr, ◌+◌, ◌-◌, ◌==◌, ◌≤◌, ◌<◌, Bool, true, false, cond, List, [], ◌∷◌, length, map, fold, Option, Some, None, refl, sym, ap, ◌∙◌, subst, arith}
use Rattle.mega_base.specs.declared.names.Epoch.{Epoch}
use Rattle.mega_base.specs.declared.names.GroupId.{GroupId}
use Rattle.mega_base.specs.declared.names.OpId.{OpId}
use Rattle.mega_cluster.specs.declared.cluster.Cluster.{Cluster}
use Rattle.mega_coordinator.specs.declared.answers.NotValid.{NotValid}
use Rattle.mega_entry.specs.declared.content.Enter.{Enter}
use Rattle.mega_outcome.specs.declared.answer.Answer.{Answer}
use Rattle.mega_outcome.specs.declared.request.Request.{Request}
use Rattle.mega_leased_laws.specs.of_settled_laws.of_run_laws.of_tape_laws.of_promises.of_rules.of_read.of_propose.declared.round.Proposal.{Proposal}
use Rattle.mega_leased_laws.specs.of_settled_laws.of_run_laws.of_tape_laws.of_promises.of_rules.of_read.of_propose.Rounds.{asks, due, takes}
use Rattle.mega_leased_laws.specs.of_settled_laws.of_run_laws.of_tape_laws.of_promises.of_rules.of_read.declared.reading.Move.{Move as ReadMove}
use Rattle.mega_leased_laws.specs.of_settled_laws.of_run_laws.of_tape_laws.of_promises.of_rules.of_read.declared.reading.Search.{Search}
use Rattle.mega_leased_laws.specs.of_settled_laws.of_run_laws.of_tape_laws.of_promises.of_rules.of_read.declared.reading.Stage.{Stage}
use Rattle.mega_leased_laws.specs.of_settled_laws.of_run_laws.of_tape_laws.of_promises.of_rules.of_read.declared.reading.Stage.TheVariants.{Polling, Catching}
use Rattle.mega_leased_laws.specs.of_settled_laws.of_run_laws.of_tape_laws.of_promises.of_rules.of_read.Catching.{asked_by, falls_due, hears, local_read, polled_read, seeks, site}
use Rattle.mega_leased_laws.specs.of_settled_laws.of_run_laws.of_tape_laws.of_promises.of_transcript.declared.item.Item.{Item}
use Rattle.mega_wal.specs.Same.{same_group, same_op}
use Rattle.mega_wal.proofs.Sames.{same_op_equal}
use Rattle.mega_wire.specs.declared.message.Message.{Message}
use Rattle.mega_leased_laws.specs.of_settled_laws.of_run_laws.of_tape_laws.of_promises.of_rules.Clock.{clock_of}
use Rattle.mega_leased_laws.specs.of_settled_laws.of_run_laws.of_tape_laws.of_promises.of_rules.Coordinators.{refused_at, serves_at, valid_at}
use Rattle.mega_leased_laws.specs.of_settled_laws.of_run_laws.of_tape_laws.of_promises.of_rules.Logs.{top_of}
use Rattle.mega_leased_laws.specs.of_settled_laws.of_run_laws.of_tape_laws.of_promises.of_rules.Operations.{Now, Operation, Phase, Promised, Proposes, Reads, Setting}
use Rattle.mega_leased_laws.specs.of_settled_laws.of_run_laws.of_tape_laws.of_promises.of_rules.Acting.{completes_read, ends, in_phase, is_visited, keeps, read_begun, reader_of, sends_more, validated_by, visiting}
use Rattle.mega_leased_laws.specs.of_settled_laws.of_run_laws.of_tape_laws.of_promises.of_rules.Steps.{acts_in_turn, all_act, does_due, hears_message, is_out, last_answer, new_operation, ticked, unless_refused}
use Rattle.mega_leased_laws.specs.of_settled_laws.of_run_laws.of_tape_laws.Lawful.{message}
use Rattle.mega_leased_laws.specs.of_settled_laws.of_run_laws.of_tape_laws.Places.{Took}
use Rattle.mega_leased_laws.proofs.of_settled_laws.of_run_laws.of_tape_laws.Ballots.{clash, number_self}
use Rattle.mega_leased_laws.specs.of_settled_laws.of_run_laws.Justified.{Each, sent}
use Rattle.mega_leased_laws.proofs.of_settled_laws.of_run_laws.Sending.{Stood, took_on}
use Rattle.mega_leased_laws.proofs.of_settled_laws.of_run_laws.Turns.{IsRising, each_on, each_push, other_number, sent_append}
use Rattle.mega_leased_laws.proofs.of_settled_laws.Tapes.{earlier_stood, sent_later}
use Rattle.mega_leased_laws.specs.of_valid_laws.Leases.{has_polled}
use Rattle.mega_leased_laws.specs.Items.{Are}
use Rattle.mega_leased_laws.proofs.Asking.{apart_turned, not_seen, seen, seen_before, seen_now}
use Rattle.mega_leased_laws.proofs.Polls.{tops_on}
use Rattle.mega_leased_laws.proofs.of_settled_laws.Walk.{Walks, begun_it, caught, goes_on_it}
use Rattle.mega_fresh_laws.proofs.Inquiries.{Beside, HasHeard, IsInquired, Unoffered, asks_elsewhere, asks_inquired, beside_then, heard_stood, mute_inquired, never_sent, offers_inquired, says_beside, unasking_sent}
use Rattle.mega_fresh_laws.proofs.Questions.{Offers, ReadSays, Says, StageSays, asks_never, asks_offers, asks_says, due_offers, due_says, hears_says, mute_never, mute_says, mute_unasking, offers_says, offers_unasking, polled_says, seeks_says, takes_offers}
use Rattle.mega_fresh_laws.proofs.Through.{PhaseAbove, StageThrough, due_through, hears_through, polled_begins, seeks_through}

-- ---- an open operation

abbrev pub StageHeard : Cluster → List Item → OpId → GroupId → Stage → Type 0
StageHeard c tape op group stage = StageThrough c tape op group (HasHeard c tape op group) stage

-- as it reads it proposed nothing of its own yet
abbrev pub PhaseHeard : Cluster → List Item → OpId → List GroupId → Phase → Type 0
PhaseHeard c tape op visited (Reads group r) = Unoffered tape op × ((seen visited group ≡ true) × StageHeard c tape op group r.stage)
PhaseHeard c tape op visited (Proposes group n asked proposal promised) = HasHeard c tape op group (n - 1)

-- it asked about no group that it does not read
abbrev pub Unasked : List Item → OpId → List GroupId → Type 0
Unasked tape op visited = (g : GroupId) → seen visited g ≡ false → has_polled tape op g ≡ false

pub record OpenHeard (c : Cluster) (tape : List Item) (o : Operation) : Type 0 where
  pub heard : PhaseHeard c tape o.id o.visited o.phase
  pub unasked : Unasked tape o.id o.visited

pub stage_beside : (c : Cluster) (op : OpId) (group : GroupId) (old new : List Item) → Stood old new → (has_polled old op group ≡ false → has_polled new op group ≡ false) → (stage : Stage) → StageHeard c old op group stage → StageHeard c new op group stage
stage_beside c op group old new stood still (Polling heard best at) h = (tt, tops_on c old new op group heard best stood h.1)
stage_beside c op group old new stood still (Catching through search) h = heard_stood c old new op group through stood still h

phase_beside : (c : Cluster) (op : OpId) (visited : List GroupId) (old new : List Item) → Beside op old new → (phase : Phase) → PhaseHeard c old op visited phase → PhaseHeard c new op visited phase
phase_beside c op visited old new b (Reads group r) h = (b.unoffered h.0, ((h.1).0, stage_beside c op group old new b.stood (b.polled group) r.stage (h.1).1))
phase_beside c op visited old new b (Proposes group n asked proposal promised) h = heard_stood c old new op group (n - 1) b.stood (b.polled group) h

pub open_beside : (c : Cluster) (old new : List Item) (o : Operation) → Beside o.id old new → OpenHeard c old o → OpenHeard c new o
open_beside c old new o b h = record { heard = phase_beside c o.id o.visited old new b o.phase h.heard; unasked = λ g unseen. b.polled g (h.unasked g unseen) }

-- an operation of another node, or a later one of this
abbrev pub Later : ℕ → ℕ → OpId → Type 0
Later me k x = ((me == x.node.0) ≡ false) ⊎ (k ≤ x.number)

later_more : (me k l : ℕ) (x : OpId) → k ≤ l → Later me l x → Later me k x
later_more me k l x le (inl other) = inl other
later_more me k l x le (inr behind) = inr (omega (arith, le, behind))

later_apart : (me : ℕ) (op x : OpId) → op.node.0 ≡ me → Later me (op.number + 1) x → same_op op x ≡ false
later_apart me op x node later = by (same_op op x) refl
  where
    over : (a b : ℕ) → a + 1 ≤ b → a ≡ b → ⊥
    over a b le same = omega (arith, le, same)

    differs : op ≡ x → Later me (op.number + 1) x → ⊥
    differs same (inl other) = clash (me == x.node.0) (ap (λ v. v == x.node.0) (sym node ∙ ap (λ (y : OpId). y.node.0) same) ∙ number_self x.node.0) other
    differs same (inr behind) = over op.number x.number behind (ap (λ (y : OpId). y.number) same)

    by : (t : Bool) → same_op op x ≡ t → t ≡ false
    by false e = refl
    by true e = absurd (differs (same_op_equal op x e) later)

next_of : (n : ℕ) → n < n + 1
next_of n = omega arith

-- ---- a node within a step

-- `base` is the tape before the operations send anything, and the next message has the number `next`
module _ (s : Setting) (base : List Item) (next : ℕ) where
  abbrev pub at : Now → List Item
  at now = sent next now.sends base

  abbrev KeptBelow : List Item → ℕ → Operation → Type 0
  KeptBelow tape k o = ((o.id).number < k) × OpenHeard s.cluster tape o

  -- those with lower numbers acted
  pub record Acted (k : ℕ) (now : Now) : Type 0 where
    pub law : Are (IsInquired s.cluster) (at now)
    pub kept : Each (KeptBelow (at now) k) now.kept
    pub beside : (x : OpId) → Later s.me k x → Beside x base (at now)

  -- and one acts
  pub record Busy (now : Now) (op : OpId) : Type 0 where
    pub law : Are (IsInquired s.cluster) (at now)
    pub kept : Each (KeptBelow (at now) op.number) now.kept
    pub node : op.node.0 ≡ s.me
    pub beside : (x : OpId) → Later s.me (op.number + 1) x → Beside x base (at now)

  -- one that has done nothing yet
  pub record First (op : OpId) (now : Now) : Type 0 where
    pub busy : Busy now op
    pub unasked : (g : GroupId) → has_polled (at now) op g ≡ false
    pub unoffered : Unoffered (at now) op

  abbrev pub ActsAt : Now → Operation → Type 0
  ActsAt now o = Busy now o.id × OpenHeard s.cluster (at now) o

  abbrev pub ActedAt : OpId → Now → Type 0
  ActedAt op now = Acted (op.number + 1) now

  -- with what it sends
  abbrev then_at : Now → List Message → List Item
  then_at now ms = sent (next + length now.sends) ms (at now)

  then_is : (now : Now) (ms : List Message) → then_at now ms ≡ at (sends_more now ms)
  then_is now ms = sym (sent_append next now.sends ms base)

  then_stood : (now : Now) (ms : List Message) → Stood (at now) (then_at now ms)
  then_stood now ms = earlier_stood (at now) (then_at now ms) (sent_later (next + length now.sends) ms (at now))

  below_more : (tape : List Item) (k l : ℕ) → k ≤ l → (os : List Operation) → Each (KeptBelow tape k) os → Each (KeptBelow tape l) os
  below_more tape k l le os h = each_on (KeptBelow tape k) (KeptBelow tape l) (λ o kept. ((let less = kept.0 in omega (arith, less, le)), kept.1)) os h

  sends_busy : (now : Now) (op : OpId) (ms : List Message) → Busy now op → Each (Says op) ms → Are (IsInquired s.cluster) (then_at now ms) → Busy (sends_more now ms) op
  sends_busy now op ms b says law = record {
    law = subst (Are (IsInquired s.cluster)) (then_is now ms) law;
    kept = subst (λ t. Each (KeptBelow t op.number) now.kept) (then_is now ms) (each_on (KeptBelow (at now) op.number) (KeptBelow (then_at now ms) op.number)
        (λ o kept. (kept.0, open_beside s.cluster (at now) (then_at now ms) o (says_beside op o.id (next + length now.sends) ms (at now) (other_number op o.id kept.0) says) kept.1)) now.kept b.kept);
    node = b.node;
    beside = λ x later. subst (Beside x base) (then_is now ms) (beside_then x base (at now) (then_at now ms) (b.beside x later) (says_beside op x (next + length now.sends) ms (at now) (later_apart s.me op x b.node later) says));
  }

  keeps_acted : (now : Now) (o : Operation) → ActsAt now o → Acted ((o.id).number + 1) (keeps now o)
  keeps_acted now o a = record {
    law = (a.0).law;
    kept = each_push (KeptBelow (at now) ((o.id).number + 1)) now.kept o (below_more (at now) (o.id).number ((o.id).number + 1) (omega arith) now.kept (a.0).kept) (next_of (o.id).number, a.1);
    beside = (a.0).beside;
  }

  ends_acted : (now : Now) (op : OpId) (answer : Answer) → Busy now op → Acted (op.number + 1) (ends now op answer)
  ends_acted now op answer b = record { law = b.law; kept = below_more (at now) op.number (op.number + 1) (omega arith) now.kept b.kept; beside = b.beside }

  -- ---- reads

  -- one that goes on
  record ReadOn (now : Now) (o : Operation) (group : GroupId) (stage : Stage) (ms : List Message) : Type 0 where
    busy : Busy (sends_more now ms) o.id
    unoffered : Unoffered (then_at now ms) o.id
    heard : StageHeard s.cluster (then_at now ms) o.id group stage
    unasked : (g : GroupId) → same_group group g ≡ false → has_polled (at now) o.id g ≡ false → has_polled (then_at now ms) o.id g ≡ false

  read_on : (now : Now) (o : Operation) (group : GroupId) → Busy now o.id → Unoffered (at now) o.id → (stage : Stage) (ms : List Message) → StageSays (reader_of s o.id group) stage ms → StageHeard s.cluster (at now) o.id group stage → ReadOn now o group stage ms
  read_on now o group b none (Polling heard best sent_at) ms asks h = record {
    busy = sends_busy now o.id ms b (asks_says o.id group ms asks) (asks_inquired s.cluster o.id group (next + length now.sends) ms (at now) asks none b.law);
    unoffered = never_sent o.id (next + length now.sends) ms (at now) (asks_never o.id group ms asks) none;
    heard = (tt, tops_on s.cluster (at now) (then_at now ms) o.id group heard best (then_stood now ms) h.1);
    unasked = λ g apart was. asks_elsewhere o.id group g (next + length now.sends) ms (at now) apart asks was;
  }
  read_on now o group b none (Catching through search) ms mute h = record {
    busy = sends_busy now o.id ms b (mute_says o.id ms mute) (mute_inquired s.cluster (next + length now.sends) ms (at now) mute b.law);
    unoffered = never_sent o.id (next + length now.sends) ms (at now) (mute_never ms mute) none;
    heard = heard_stood s.cluster (at now) (then_at now ms) o.id group through (then_stood now ms) (λ was. unasking_sent o.id group (next + length now.sends) ms (at now) (mute_unasking ms mute) was) h;
    unasked = λ g apart was. unasking_sent o.id g (next + length now.sends) ms (at now) (mute_unasking ms mute) was;
  }

  reads_acts : (now : Now) (o : Operation) (group : GroupId) (t : ReadMove) → Busy now o.id → Unoffered (at now) o.id → seen o.visited group ≡ true → Unasked (at now) o.id o.visited → ReadSays (reader_of s o.id group) t
      → StageHeard s.cluster (at now) o.id group (t.reading).stage → ActsAt (sends_more now t.sends) (in_phase o (Reads group t.reading))
  reads_acts now o group t b none was unasked says heard = let on = read_on now o group b none (t.reading).stage t.sends says heard in (
    on.busy,
    subst (λ tape. OpenHeard s.cluster tape (in_phase o (Reads group t.reading))) (then_is now t.sends)
        (record { heard = (on.unoffered, (was, on.heard)); unasked = λ g unseen. on.unasked g (not_seen o.visited group g was unseen) (unasked g unseen) }),
  )

  -- one that begins
  visits_acts : (now : Now) (o : Operation) (asked : List ℕ) (group : GroupId) (enter : Option Enter) → Busy now o.id → Unoffered (at now) o.id → Unasked (at now) o.id o.visited
      → ActsAt (sends_more now (read_begun s now o group asked).sends) (visiting o group enter (read_begun s now o group asked))
  visits_acts now o asked group enter b none unasked = by (is_visited o group) refl (valid_at s.cluster now.met group)
    where
      reads : (t : ReadMove) → ReadSays (reader_of s o.id group) t → StageHeard s.cluster (at now) o.id group (t.reading).stage → ActsAt (sends_more now t.sends) (visiting o group enter t)
      reads t says heard = let on = read_on now o group b none (t.reading).stage t.sends says heard in (
        on.busy,
        subst (λ tape. OpenHeard s.cluster tape (visiting o group enter t)) (then_is now t.sends) (record {
          heard = (on.unoffered, (seen_now o.visited group, on.heard));
          unasked = λ g unseen. let parts = seen_before o.visited group g unseen in on.unasked g (apart_turned group g parts.1) (unasked g parts.0);
        }),
      )

      polls : (noted : Option Epoch) → ActsAt (sends_more now (polled_read (reader_of s o.id group) noted asked (clock_of now.met)).sends) (visiting o group enter (polled_read (reader_of s o.id group) noted asked (clock_of now.met)))
      polls noted = reads (polled_read (reader_of s o.id group) noted asked (clock_of now.met)) (polled_says (reader_of s o.id group) noted asked (clock_of now.met))
          (polled_begins s.cluster (at now) o.id group (HasHeard s.cluster (at now) o.id group) (λ p polled. inl polled) noted asked (clock_of now.met))

      by : (t : Bool) → is_visited o group ≡ t → (u : Bool) → let read = cond {A = ReadMove} t (polled_read (reader_of s o.id group) None asked (clock_of now.met))
          (cond u (local_read asked (top_of now.met group)) (polled_read (reader_of s o.id group) (serves_at s.cluster now.met) asked (clock_of now.met))) in ActsAt (sends_more now read.sends) (visiting o group enter read)
      by true e u = polls None
      by false e true = reads (local_read asked (top_of now.met group)) tt (inr (unasked group e))
      by false e false = polls (serves_at s.cluster now.met)

  -- one that is complete
  stores_acts : (now : Now) (stored : GroupId → ℕ) (o : Operation) → ActsAt now o → ActsAt (record { met = now.met; stored = stored; kept = now.kept; valid = now.valid; answers = now.answers; sends = now.sends }) o
  stores_acts now stored o a = (record { law = (a.0).law; kept = (a.0).kept; node = (a.0).node; beside = (a.0).beside }, a.1)

  validates_acts : (now : Now) (group : GroupId) (p : ℕ) (refusal : Option NotValid) (o : Operation) → ActsAt now o → ActsAt (validated_by now group p refusal) o
  validates_acts now group p (Some why) o a = a
  validates_acts now group p None o a = (record { law = (a.0).law; kept = (a.0).kept; node = (a.0).node; beside = (a.0).beside }, a.1)

  completes_acts : (now : Now) (o : Operation) (group : GroupId) (noted : Option Epoch) (asked : List ℕ) (p : ℕ) (search : Option Search)
      → ActsAt now (in_phase o (Reads group (caught noted asked p search))) → ActsAt (completes_read s now group (caught noted asked p search) p) (in_phase o (Reads group (caught noted asked p search)))
  completes_acts now o group None asked p search a = stores_acts now _ (in_phase o (Reads group (caught None asked p search))) a
  completes_acts now o group (Some noted) asked p search a = validates_acts _ group p (refused_at s.cluster now.met group p noted) (in_phase o (Reads group (caught (Some noted) asked p search)))
      (stores_acts now _ (in_phase o (Reads group (caught (Some noted) asked p search))) a)

  -- ---- rounds

  rounds_acts : (now : Now) (o : Operation) (group : GroupId) (n : ℕ) (asked : List ℕ) (proposal : Proposal) (promised : Promised) (ms : List Message) → Busy now o.id → HasHeard s.cluster (at now) o.id group (n - 1) → Unasked (at now) o.id o.visited
      → Each (Offers o.id group n) ms → ActsAt (sends_more now ms) (in_phase o (Proposes group n asked proposal promised))
  rounds_acts now o group n asked proposal promised ms b heard unasked offers = (
    sends_busy now o.id ms b (offers_says o.id group n ms offers) (offers_inquired s.cluster o.id group n (next + length now.sends) ms (at now) offers heard b.law),
    subst (λ tape. OpenHeard s.cluster tape (in_phase o (Proposes group n asked proposal promised))) (then_is now ms) (record {
      heard = heard_stood s.cluster (at now) (then_at now ms) o.id group (n - 1) (then_stood now ms) (λ was. silent group was) heard;
      unasked = λ g unseen. silent g (unasked g unseen);
    }),
  )
    where
      silent : (g : GroupId) → has_polled (at now) o.id g ≡ false → has_polled (then_at now ms) o.id g ≡ false
      silent g was = unasking_sent o.id g (next + length now.sends) ms (at now) (offers_unasking o.id group n ms offers) was

  one_below : (p : ℕ) → p ≡ (p + 1) - 1
  one_below p = omega arith

  -- ---- its moves

  walks : Walks s First ActedAt ActsAt
  walks = record {
    keeps_it = λ now o a. keeps_acted now o a;
    ends_it = λ now o answer a. ends_acted now o.id answer a.0;
    completes_it = λ now o group noted asked p search all a. completes_acts now o group noted asked p search a;
    seeks_it = λ now o group r least a. let heard = (a.1).heard in
        reads_acts now o group (seeks (reader_of s o.id group) r least (clock_of now.met)) a.0 heard.0 (heard.1).0 (a.1).unasked (seeks_says (reader_of s o.id group) r least (clock_of now.met))
        (seeks_through s.cluster (at now) o.id group (HasHeard s.cluster (at now) o.id group) (λ p polled. inl polled) r least (clock_of now.met) (heard.1).1);
    asks_it = λ now o group noted asked p search leader own promised a.
        rounds_acts now o group (p + 1) (asked_by (caught noted asked p search)) (asks (site (reader_of s o.id group) (asked_by (caught noted asked p search)) (p + 1)) leader own (clock_of now.met)).proposal promised
        (asks (site (reader_of s o.id group) (asked_by (caught noted asked p search)) (p + 1)) leader own (clock_of now.met)).sends a.0
        (subst (HasHeard s.cluster (at now) o.id group) (one_below p) (((a.1).heard).1).1) (a.1).unasked
        (asks_offers (site (reader_of s o.id group) (asked_by (caught noted asked p search)) (p + 1)) leader own (clock_of now.met));
    visits_it = λ now o before r group enter a. visits_acts now (in_phase o (Reads before r)) (asked_by r) group enter a.0 ((a.1).heard).0 (a.1).unasked;
    first_it = λ now id request clock group enter b. visits_acts now (new_operation id request clock) [] group enter b.busy b.unoffered (λ g unseen. b.unasked g);
    ends_first = λ now id answer b. ends_acted now id answer b.busy;
  }

  -- ---- one after another

  -- an open operation, before it hears anything
  pub record Waits (o : Operation) : Type 0 where
    pub node : (o.id).node.0 ≡ s.me
    pub above : PhaseAbove o.id o.phase
    pub opens : OpenHeard s.cluster base o

  pub record AllActed (now : Now) : Type 0 where
    pub k : ℕ
    pub acted : Acted k now

  busy_at : (k : ℕ) (now : Now) (op : OpId) → k ≤ op.number → op.node.0 ≡ s.me → Acted k now → Busy now op
  busy_at k now op le node a = record {
    law = a.law;
    kept = below_more (at now) k op.number le now.kept a.kept;
    node = node;
    beside = λ x later. a.beside x (later_more s.me k (op.number + 1) x (omega (arith, le)) later);
  }

  abbrev in_fields : Operation → Phase → Operation
  in_fields o phase = record { id = o.id; request = o.request; began = o.began; visited = o.visited; message = o.message; phase = phase }

  opens_at : (k : ℕ) (now : Now) (o : Operation) → k ≤ (o.id).number → Acted k now → OpenHeard s.cluster base o → OpenHeard s.cluster (at now) o
  opens_at k now o le a h = open_beside s.cluster base (at now) o (a.beside o.id (inr le)) h

  -- it hears a message
  heard_turn : (k : ℕ) (now : Now) (clock : ℕ) (m : Message) (o : Operation) (phase : Phase) → k ≤ (o.id).number → (o.id).node.0 ≡ s.me → PhaseAbove o.id phase → Took (at now) (message m.from (o.id).node.0 m.body) → OpenHeard s.cluster (at now) (in_fields o phase)
      → Acted k now → Acted ((o.id).number + 1) (acts_in_turn s now (hears_message s clock m (in_fields o phase)))
  heard_turn k now clock m o (Reads group r) le node above took h a = let heard = h.heard in
      goes_on_it s First ActedAt ActsAt walks (sends_more now (hears (reader_of s o.id group) r m.from clock m.body).sends) (in_phase o (Reads group (hears (reader_of s o.id group) r m.from clock m.body).reading))
      (reads_acts now o group (hears (reader_of s o.id group) r m.from clock m.body) (busy_at k now o.id le node a) heard.0 (heard.1).0 h.unasked (hears_says (reader_of s o.id group) r m.from clock m.body above)
      (hears_through s.cluster (at now) o.id group (HasHeard s.cluster (at now) o.id group) (λ p polled. inl polled) r m.from clock m.body (heard.1).1 took))
  heard_turn k now clock m o (Proposes group n asked proposal promised) le node above took h a =
      goes_on_it s First ActedAt ActsAt walks (sends_more now (takes (site (reader_of s o.id group) asked n) proposal m.from clock m.body).sends)
      (in_phase o (Proposes group n asked (takes (site (reader_of s o.id group) asked n) proposal m.from clock m.body).proposal promised))
      (rounds_acts now o group n asked (takes (site (reader_of s o.id group) asked n) proposal m.from clock m.body).proposal promised (takes (site (reader_of s o.id group) asked n) proposal m.from clock m.body).sends
      (busy_at k now o.id le node a) h.heard h.unasked (takes_offers (site (reader_of s o.id group) asked n) proposal m.from clock m.body above))

  -- it does what is due
  due_turn : (k : ℕ) (now : Now) (clock : ℕ) (o : Operation) (phase : Phase) → k ≤ (o.id).number → (o.id).node.0 ≡ s.me → PhaseAbove o.id phase → OpenHeard s.cluster (at now) (in_fields o phase)
      → Acted k now → Acted ((o.id).number + 1) (acts_in_turn s now (does_due s clock (in_fields o phase)))
  due_turn k now clock o (Reads group r) le node above h a = let heard = h.heard in
      goes_on_it s First ActedAt ActsAt walks (sends_more now (falls_due (reader_of s o.id group) r (s.cluster).retry clock).sends) (in_phase o (Reads group (falls_due (reader_of s o.id group) r (s.cluster).retry clock).reading))
      (reads_acts now o group (falls_due (reader_of s o.id group) r (s.cluster).retry clock) (busy_at k now o.id le node a) heard.0 (heard.1).0 h.unasked (due_says (reader_of s o.id group) r (s.cluster).retry clock above)
      (due_through s.cluster (at now) o.id group (HasHeard s.cluster (at now) o.id group) (λ p polled. inl polled) r (s.cluster).retry clock (heard.1).1))
  due_turn k now clock o (Proposes group n asked proposal promised) le node above h a =
      goes_on_it s First ActedAt ActsAt walks (sends_more now (due (site (reader_of s o.id group) asked n) proposal (s.cluster).retry clock).sends)
      (in_phase o (Proposes group n asked (due (site (reader_of s o.id group) asked n) proposal (s.cluster).retry clock).proposal promised))
      (rounds_acts now o group n asked (due (site (reader_of s o.id group) asked n) proposal (s.cluster).retry clock).proposal promised (due (site (reader_of s o.id group) asked n) proposal (s.cluster).retry clock).sends
      (busy_at k now o.id le node a) h.heard h.unasked (due_offers (site (reader_of s o.id group) asked n) proposal (s.cluster).retry clock))

  at_later : (now : Now) → Stood base (at now)
  at_later now = earlier_stood base (at now) (sent_later next now.sends base)

  pub all_heard_acted : (clock : ℕ) (m : Message) → Took base (message m.from s.me m.body) → (os : List Operation) (k : ℕ) (now : Now) → IsRising k os → Each Waits os → Acted k now → AllActed (all_act s now (map (hears_message s clock m) os))
  all_heard_acted clock m took [] k now rising waits a = record { k = k; acted = a }
  all_heard_acted clock m took (o ∷ os) k now rising waits a =
      all_heard_acted clock m took os ((o.id).number + 1) (acts_in_turn s now (hears_message s clock m o)) rising.1 waits.1
      (heard_turn k now clock m o o.phase rising.0 (waits.0).node (waits.0).above
      (took_on base (at now) (at_later now) _ (subst (λ to. Took base (message m.from to m.body)) (sym (waits.0).node) took)) (opens_at k now o rising.0 a (waits.0).opens) a)

  ticked_acted : (clock k : ℕ) (now : Now) (o : Operation) → k ≤ (o.id).number → Waits o → Acted k now → Acted ((o.id).number + 1) (ticked s clock now o)
  ticked_acted clock k now o le w a = by (is_out s clock o)
    where
      by : (t : Bool) → Acted ((o.id).number + 1) (cond t (ends now o.id (last_answer o)) (acts_in_turn s now (does_due s clock o)))
      by true = ends_acted now o.id (last_answer o) (busy_at k now o.id le w.node a)
      by false = due_turn k now clock o o.phase le w.node w.above (opens_at k now o le a w.opens) a

  pub all_ticked_acted : (clock : ℕ) (os : List Operation) (k : ℕ) (now : Now) → IsRising k os → Each Waits os → Acted k now → AllActed (fold (ticked s clock) now os)
  all_ticked_acted clock [] k now rising waits a = record { k = k; acted = a }
  all_ticked_acted clock (o ∷ os) k now rising waits a =
      all_ticked_acted clock os ((o.id).number + 1) (ticked s clock now o) rising.1 waits.1 (ticked_acted clock k now o rising.0 waits.0 a)

  pub begins_acted : (now : Now) (id : OpId) (request : Request) (clock : ℕ) (refusal : Option Answer) → (refusal ≡ None → First id now) → ((answer : Answer) → AllActed (ends now id answer))
      → AllActed (unless_refused s now (new_operation id request clock) refusal)
  begins_acted now id request clock None b ended = record {
    k = id.number + 1;
    acted = begun_it s First ActedAt ActsAt walks now id clock request None b (λ answer. ends_acted now id answer (b refl).busy);
  }
  begins_acted now id request clock (Some answer) b ended = ended answer
