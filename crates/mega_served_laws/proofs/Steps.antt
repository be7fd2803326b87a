-- A step is the same at two nodes that what they met tells the same.
use Rattle.std.proofs.Common.{◌≡◌, ℕ, ◌+◌, ◌-◌, ◌==◌, ◌&&◌, min, nat_le, nat_lt, true, cond, List, [], ◌∷◌, ◌++◌, filter, fold, map, flat_map, Option, Some, None, refl, ap}
use Rattle.std.specs.Prelude.{is_none, is_some}
use Rattle.std.specs.List.{list_any}
use Rattle.mega_base.specs.declared.names.GroupId.{GroupId}
use Rattle.mega_cluster.specs.declared.cluster.Cluster.{Cluster}
use Rattle.mega_ballot.specs.Order.{zero_ballot}
use Rattle.mega_coordinator.specs.History.{Call as CoordinatorCall, Ticks as CoordinatorTicks, epoch_after, lease_of, ticked as told_ticked}
use Rattle.mega_coordinator.specs.Lease.{counted_by, granted_answer}
use Rattle.mega_locks.specs.History.{lapse_for, lock_of, nodes as lock_nodes, term}
use Rattle.mega_locks.specs.Rule.{answer, held_epoch, lapse}
use Rattle.std.specs.Prelude.{unwrap_or}
use Rattle.mega_wal.specs.Acceptor.{answer_beside, is_ballot_below, is_same_ballot}
use Rattle.mega_wal.specs.declared.answers.Promised.TheVariants as promise
use Rattle.mega_wal.specs.declared.answers.Voted.TheVariants as vote
use Rattle.mega_wal.specs.Same.{same_group}
use Rattle.mega_wire.specs.declared.message.Message.{Message}
use Rattle.mega_wire.specs.declared.message.Body.{Body}
use Rattle.mega_wire.specs.declared.message.Body.TheVariants.{Where, Top, Accept, Prepare, Dead, Fetch, Acquire, Granted}
use Rattle.mega_outcome.specs.declared.answer.Answer.{Answer}
use Rattle.mega_outcome.specs.declared.answer.Answer.TheVariants.{Worn}
use Rattle.mega_outcome.specs.declared.request.Request.{Request}
use Rattle.mega_propose.specs.Members.{others}
use Rattle.mega_replica.specs.Applying.{after_portion, applied}
use Rattle.mega_rules.specs.Met.{Met, Applies, Begins, Sends, Takes, Ticks}
use Rattle.mega_rules.specs.Clock.{clock_of, does_again, last_number, last_tick}
use Rattle.mega_rules.specs.Coordinators.{acquires, acquires_at, counts_notes, forget_notes, is_cell_in, lost_note}
use Rattle.mega_rules.specs.Locks.{cell_calls, grant_note, held_answer, lapse_note, lock_answer}
use Rattle.mega_rules.specs.Members.{cells, has_rows, is_cell, is_full, is_voter, keep_of, kind_of, voters}
use Rattle.mega_rules.specs.Operations.{Node, Now, Operation, Setting}
use Rattle.mega_rules.specs.Replies.{answer_to, fetched, reply_message, reply_to, where_served}
use Rattle.mega_rules.specs.Steps.{Begin, Decision, Event, Heard, Step, Take, Tick, all_act, apply_notes, at_first, at_open, background, begin_step, decision_note, fetches_for, first_settled, hears_message, if_new, lapse_notes, lease_notes, missing_kind, new_operation, news, onto, op_of, portion_of, refusal, start, step, step_of, stored_after, take_step, taken, tick_step, ticked, told_decision, told_notes, unless_missing, unless_refused}
use Rattle.mega_rules.specs.Voting.{promise_body, vote_body}
use Rattle.mega_served_laws.proofs.Alike.{Alike, Scope, alike_more, alike_onto}
use Rattle.mega_served_laws.specs.Alike.{KeptAlike}
use Rattle.mega_served_laws.proofs.Logs.{log_alike, prefix_alike}
use Rattle.mega_served_laws.proofs.Walk.{NowAlike, all_act_alike, all_ticked_alike, begun_alike}

-- ---- what a node answers and notes by what it met

lock_same : (w : Scope) (c : Cluster) (me : ℕ) (a b : List Met) → Alike w c me a b → (node : ℕ) → w.near node ≡ true → lock_of (cell_calls c me a) node ≡ lock_of (cell_calls c me b) node
lock_same w c me a b h node near = (h.cell).locks node near

-- what is asked of a cell is asked about a node that is looked at
abbrev pub IsNear : Scope → ℕ → Body → Type 0
IsNear w from (Acquire cell epoch clock) = w.near from ≡ true
IsNear w from (Dead op cell node) = w.near node.0 ≡ true
IsNear w from _ = Unit {0}

abbrev pub IsNearEvent : Scope → Event → Type 0
IsNearEvent w (Take m) = IsNear w m.from m.body
IsNearEvent w (Tick now) = Unit {0}
IsNearEvent w (Begin request text) = Unit {0}

pub answer_alike : (w : Scope) (c : Cluster) (me : ℕ) (a b : List Met) (from : ℕ) → Alike w c me a b → (body : Body) → IsNear w from body → answer_to c me a from body ≡ answer_to c me b from body
answer_alike w c me a b from h (Where op group) near = ap (λ top. where_served (is_voter c me) (Top op group (record { 0 = top }))) ((h.kept).tops group)
answer_alike w c me a b from h (Accept op group n ballot entry) near = λ i. where_served (is_voter c me) (vote_body op group n ballot entry
    (cond (is_ballot_below ballot ((h.kept).shows group n.0 i)) (vote.Shown ((h.kept).shows group n.0 i))
    (cond (is_same_ballot ballot zero_ballot) (answer_beside ((h.kept).bests group n.0 i) entry) vote.Yes)))
answer_alike w c me a b from h (Prepare op group n ballot) near = λ i. where_served (is_voter c me) (promise_body op group n ballot
    (cond (is_ballot_below ballot ((h.kept).shows group n.0 i)) (promise.Shown ((h.kept).shows group n.0 i)) (promise.Yes ((h.kept).bests group n.0 i))))
answer_alike w c me a b from h (Fetch op group n) near = ap (λ found. where_served (is_voter c me) (fetched op group n found)) ((h.kept).decides group n.0)
answer_alike w c me a b from h (Dead op cell node) near = ap (λ lock. where_served (cell == me && is_cell c me) (held_answer op cell node (held_epoch lock))) (lock_same w c me a b h node.0 near)
answer_alike w c me a b from h (Acquire cell epoch clock) near = ap (λ lock. where_served (cell == me && is_cell c me) (lock_answer cell epoch clock (answer lock epoch))) (lock_same w c me a b h from near)
answer_alike w c me a b from h _ near = refl

pub reply_alike : (w : Scope) (c : Cluster) (me : ℕ) (a b : List Met) (m : Message) → Alike w c me a b → IsNear w m.from m.body → reply_to c me a m ≡ reply_to c me b m
reply_alike w c me a b m h near = ap (reply_message me m.from) (answer_alike w c me a b m.from h m.body near)

pub told_alike : (w : Scope) (s : Setting) (a b : List Met) (from : ℕ) → Alike w s.cluster s.me a b → (body : Body) → IsNear w from body → told_notes s a from body ≡ told_notes s b from body
told_alike w s a b from h (Acquire cell epoch clock) near = ap (λ lock. cond (cell == s.me && nat_le s.me s.cluster.cells) (grant_note from epoch (answer lock epoch)) []) (lock_same w s.cluster s.me a b h from near)
told_alike w s a b from h (Granted cell epoch clock) near = λ i. cond (is_full s.cluster s.me && nat_le cell s.cluster.cells)
    (counts_notes cell epoch (is_some (counted_by (lease_of (h.start i) s.cluster.cells (h.calls i)) cell))
    (granted_answer (h.start i) s.cluster.cells (lease_of (h.start i) s.cluster.cells (h.calls i)) cell epoch (clock + s.cluster.lease) (last_tick (h.ticks i)))) []
told_alike w s a b from h _ near = refl

pub lapses_alike : (w : Scope) (s : Setting) (a b : List Met) (now : ℕ) → Alike w s.cluster s.me a b → lapse_notes s a now ≡ lapse_notes s b now
lapses_alike w s a b now h = λ i. cond (nat_le s.me s.cluster.cells)
    (at 1 refl i ++ (at 2 refl i ++ (at 3 refl i ++ (at 4 refl i ++ (at 5 refl i ++ (at 6 refl i ++ (at 7 refl i ++ (at 8 refl i ++ (at 9 refl i ++ []))))))))) []
  where
    at : (node : ℕ) → list_any (λ other. other == node) lock_nodes ≡ true
        → lapse_note node (lapse_for (cell_calls s.cluster s.me a) now (keep_of s.cluster) node) ≡ lapse_note node (lapse_for (cell_calls s.cluster s.me b) now (keep_of s.cluster) node)
    at node is = λ i. lapse_note node (lapse (unwrap_or ((h.cell).first i) (term now (keep_of s.cluster))) now ((h.cell).locks node (w.wide node is) i))

abbrev ticked_notes : Cluster → ℕ → ℕ → List CoordinatorCall → List Met
ticked_notes c now start calls =
    forget_notes (epoch_after start c.cells calls) (filter (is_cell_in (told_ticked start c.cells calls now).forgot) (cells c)) ++ lost_note (told_ticked start c.cells calls now).lost

pub leases_alike : (w : Scope) (s : Setting) (a b : List Met) (now : ℕ) → Alike w s.cluster s.me a b → lease_notes s a now ≡ lease_notes s b now
leases_alike w s a b now h = λ i. cond (is_full s.cluster s.me) (ticked_notes s.cluster now (h.start i) (h.calls i)) []

pub acquires_alike : (w : Scope) (c : Cluster) (me : ℕ) (a b : List Met) (now : ℕ) → Alike w c me a b → acquires_at c me a now ≡ acquires_at c me b now
acquires_alike w c me a b now h = λ i. cond (is_full c me && does_again c.retry (h.ticks i) now)
    (acquires c me (CoordinatorTicks now ∷ h.calls i) (h.start i) now (epoch_after (h.start i) c.cells (CoordinatorTicks now ∷ h.calls i))) []

background_alike : (w : Scope) (s : Setting) (a b : List Met) (now : ℕ) → Alike w s.cluster s.me a b → background s a now ≡ background s b now
background_alike w s a b now h = λ i. cond (has_rows s.cluster s.me && does_again s.cluster.retry (h.ticks i) now) (flat_map (λ group. fetches group i) ((h.kept).groups i)) []
  where
    fetches : (group : GroupId) → fetches_for s a group ≡ fetches_for s b group
    fetches group = λ i. cond (nat_lt (prefix_alike a b h.kept group i) ((h.kept).newest group i))
        (map (λ to. record {
          from = s.me;
          to = to;
          body = Fetch (record { node = record { 0 = s.me }; start = h.start i; number = 0 }) group (record { 0 = prefix_alike a b h.kept group i + 1 });
        }) (others s.me (voters s.cluster))) []

-- ---- how far it has stored, and what it applies

portion_alike : (s : Setting) (a b : List Met) (x y : GroupId → ℕ) → KeptAlike a b → x ≡ y → portion_of s a x ≡ portion_of s b y
portion_alike s a b x y h e = λ i group. cond (has_rows s.cluster s.me) (after_portion s.cluster.apply (log_alike a b h group i) (e i group)) 0

stored_alike : (s : Setting) (a b : List Met) (x y : GroupId → ℕ) (d : Option Decision) → KeptAlike a b → x ≡ y → stored_after s a x d ≡ stored_after s b y d
stored_alike s a b x y None h e = e
stored_alike s a b x y (Some d) h e = λ i group. cond (same_group d.group group) (portion_alike s a b x y h e i group) (e i group)

applies_alike : (s : Setting) (a b : List Met) (x y : GroupId → ℕ) (a2 b2 : List Met) (x2 y2 : GroupId → ℕ) → KeptAlike a b → x ≡ y → KeptAlike a2 b2 → x2 ≡ y2
    → apply_notes s a x a2 x2 ≡ apply_notes s b y b2 y2
applies_alike s a b x y a2 b2 x2 y2 h e h2 e2 = λ i. cond (has_rows s.cluster s.me)
    (flat_map (λ group. cond (nat_lt (applied (log_alike a b h group i) (e i group)) (applied (log_alike a2 b2 h2 group i) (e2 i group))) (Applies group (applied (log_alike a2 b2 h2 group i) (e2 i group)) ∷ []) []) (h2.groups i)) []

-- ---- two nodes, and what their steps are

pub record NodeAlike (w : Scope) (c : Cluster) (me : ℕ) (x y : Node) : Type 0 where
  pub met : Alike w c me x.met y.met
  pub open_operations : x.open_operations ≡ y.open_operations
  pub stored : x.stored ≡ y.stored

pub record StepAlike (w : Scope) (c : Cluster) (me : ℕ) (x y : Step) : Type 0 where
  pub notes : x.notes ≡ y.notes
  pub sends : x.sends ≡ y.sends
  pub node : NodeAlike w c me x.node y.node

module _ (w : Scope) (s : Setting) where
  step_of_alike : (x y : Node) → NodeAlike w s.cluster s.me x y → (own : Met) (locks locks' durable durable' applies applies' : List Met) (sends sends' : List Message) (a b : Now)
      → locks ≡ locks' → durable ≡ durable' → applies ≡ applies' → sends ≡ sends' → NowAlike w s.cluster s.me a b
      → StepAlike w s.cluster s.me (step_of x own locks durable applies sends a) (step_of y own locks' durable' applies' sends' b)
  step_of_alike x y n own locks locks' durable durable' applies applies' sends sends' a b l d p e h = record {
    notes = notes;
    sends = e;
    node = record {
      met = coe 0 1 (i. Alike w s.cluster s.me (onto (map Sends sends) (onto noted (own ∷ x.met))) (onto (map Sends (e i)) (onto (notes i) (own ∷ y.met))))
          (alike_onto w s.cluster s.me (map Sends sends) (onto noted (own ∷ x.met)) (onto noted (own ∷ y.met))
          (alike_onto w s.cluster s.me noted (own ∷ x.met) (own ∷ y.met) (alike_more w s.cluster s.me own x.met y.met n.met)));
      open_operations = h.kept;
      stored = h.stored;
    };
  }
    where
      noted : List Met
      noted = (((locks ++ durable) ++ applies) ++ a.valid) ++ a.answers

      notes : (((locks ++ durable) ++ applies) ++ a.valid) ++ a.answers ≡ (((locks' ++ durable') ++ applies') ++ b.valid) ++ b.answers
      notes = λ i. (((l i ++ d i) ++ p i) ++ h.valid i) ++ h.answers i

  first_alike : (a b : List Met) (x y : GroupId → ℕ) → Alike w s.cluster s.me a b → x ≡ y → NowAlike w s.cluster s.me (at_first a x) (at_first b y)
  first_alike a b x y h e = record { met = h; stored = e; kept = refl; valid = refl; answers = refl; sends = refl }

  -- a message is taken
  abbrev taken_met : Node → Message → List Met → Option Decision → List Met
  taken_met node m told d = onto (decision_note d) (onto told (Takes m ∷ node.met))

  abbrev taken_now : Node → Message → List Met → List Heard → Option Decision → Now
  taken_now node m told ts d = all_act s (at_first (taken_met node m told d) (stored_after s (taken_met node m told d) node.stored d)) ts

  taken_alike : (x y : Node) → NodeAlike w s.cluster s.me x y → (m : Message) (told : List Met) (ts : List Heard) (d : Option Decision) (reply told_news : List Message)
      → StepAlike w s.cluster s.me (taken s x m told ts d reply told_news) (taken s y m told ts d reply told_news)
  taken_alike x y n m told ts d reply told_news =
      step_of_alike x y n (Takes m) told told (decision_note d) (decision_note d) _ _ _ _ (taken_now x m told ts d) (taken_now y m told ts d) refl refl
      (applies_alike s x.met y.met x.stored y.stored _ _ _ _ (n.met).kept n.stored (now.met).kept now.stored) (ap (λ sends. (reply ++ told_news) ++ sends) now.sends) now
    where
      met : Alike w s.cluster s.me (taken_met x m told d) (taken_met y m told d)
      met = alike_onto w s.cluster s.me (decision_note d) _ _ (alike_onto w s.cluster s.me told (Takes m ∷ x.met) (Takes m ∷ y.met) (alike_more w s.cluster s.me (Takes m) x.met y.met n.met))

      now : NowAlike w s.cluster s.me (taken_now x m told ts d) (taken_now y m told ts d)
      now = all_act_alike w s ts _ _ (first_alike (taken_met x m told d) (taken_met y m told d) _ _ met (stored_alike s _ _ x.stored y.stored d met.kept n.stored))

  new_same : (a b : List Met) → KeptAlike a b → (d : Option Decision) → if_new a d ≡ if_new b d
  new_same a b h None = refl
  new_same a b h (Some d) = ap (λ found. cond (is_none found) (Some d) None) (h.decides d.group d.position)

  abbrev take_by : Node → Message → List Heard → Option Decision → Step
  take_by node m ts (Some d) = taken s node m (told_notes s node.met m.from m.body) ts (if_new node.met (Some d)) (reply_to s.cluster s.me node.met m) []
  take_by node m ts None = taken s node m (told_notes s node.met m.from m.body) ts (if_new node.met (first_settled ts)) (reply_to s.cluster s.me node.met m) (news s (if_new node.met (first_settled ts)))

  take_by_alike : (x y : Node) → NodeAlike w s.cluster s.me x y → (m : Message) → IsNear w m.from m.body → (ts : List Heard) (d : Option Decision) → StepAlike w s.cluster s.me (take_by x m ts d) (take_by y m ts d)
  take_by_alike x y n m near ts (Some d) =
      coe 0 1 (i. StepAlike w s.cluster s.me (take_by x m ts (Some d))
      (taken s y m (told_alike w s x.met y.met m.from n.met m.body near i) ts (new_same x.met y.met (n.met).kept (Some d) i) (reply_alike w s.cluster s.me x.met y.met m n.met near i) []))
      (taken_alike x y n m (told_notes s x.met m.from m.body) ts (if_new x.met (Some d)) (reply_to s.cluster s.me x.met m) [])
  take_by_alike x y n m near ts None =
      coe 0 1 (i. StepAlike w s.cluster s.me (take_by x m ts None)
      (taken s y m (told_alike w s x.met y.met m.from n.met m.body near i) ts (new_same x.met y.met (n.met).kept (first_settled ts) i) (reply_alike w s.cluster s.me x.met y.met m n.met near i)
      (news s (new_same x.met y.met (n.met).kept (first_settled ts) i))))
      (taken_alike x y n m (told_notes s x.met m.from m.body) ts (if_new x.met (first_settled ts)) (reply_to s.cluster s.me x.met m) (news s (if_new x.met (first_settled ts))))

  take_alike : (x y : Node) → NodeAlike w s.cluster s.me x y → (m : Message) → IsNear w m.from m.body → StepAlike w s.cluster s.me (take_step s x m) (take_step s y m)
  take_alike x y n m near =
      coe 0 1 (i. StepAlike w s.cluster s.me (take_by x m heard (told_decision m.body)) (take_by y m (map (hears_message s (last_tick ((n.met).ticks i)) m) (n.open_operations i)) (told_decision m.body)))
      (take_by_alike x y n m near heard (told_decision m.body))
    where
      heard : List Heard
      heard = map (hears_message s (clock_of x.met) m) x.open_operations

  -- a tick
  abbrev tick_met : Node → ℕ → List Met → List Met → List Met
  tick_met node now lapses leases = onto lapses (onto leases (Ticks now ∷ node.met))

  abbrev tick_now : Node → ℕ → List Met → Now
  tick_now node now met = fold (ticked s now) (at_first met (portion_of s node.met node.stored)) node.open_operations

  tick_alike : (x y : Node) → NodeAlike w s.cluster s.me x y → (now : ℕ) → StepAlike w s.cluster s.me (tick_step s x now) (tick_step s y now)
  tick_alike x y n now =
      step_of_alike x y n (Ticks now) _ _ _ _ _ _ _ _ (tick_now x now (met_of x)) (tick_now y now (met_of y)) leases lapses
      (applies_alike s x.met y.met x.stored y.stored _ _ _ _ (n.met).kept n.stored (acted.met).kept acted.stored)
      (λ i. (acquires_alike w s.cluster s.me x.met y.met now n.met i ++ acted.sends i) ++ background_alike w s x.met y.met now n.met i) acted
    where
      leases : lease_notes s x.met now ≡ lease_notes s y.met now
      leases = leases_alike w s x.met y.met now n.met

      lapses : lapse_notes s x.met now ≡ lapse_notes s y.met now
      lapses = lapses_alike w s x.met y.met now n.met

      met_of : Node → List Met
      met_of node = tick_met node now (lapse_notes s node.met now) (lease_notes s node.met now)

      met : Alike w s.cluster s.me (met_of x) (met_of y)
      met = coe 0 1 (i. Alike w s.cluster s.me (met_of x) (tick_met y now (lapses i) (leases i)))
          (alike_onto w s.cluster s.me (lapse_notes s x.met now) _ _ (alike_onto w s.cluster s.me (lease_notes s x.met now) _ _ (alike_more w s.cluster s.me (Ticks now) x.met y.met n.met)))

      acted : NowAlike w s.cluster s.me (tick_now x now (met_of x)) (tick_now y now (met_of y))
      acted = coe 0 1 (i. NowAlike w s.cluster s.me (tick_now x now (met_of x)) (fold (ticked s now) (at_first (met_of y) (portion_of s y.met y.stored)) (n.open_operations i)))
          (all_ticked_alike w s now x.open_operations _ _ (first_alike (met_of x) (met_of y) _ _ met (portion_alike s x.met y.met x.stored y.stored (n.met).kept n.stored)))

  -- a request begins
  pub op_same : (a b : List Met) → Alike w s.cluster s.me a b → op_of s a ≡ op_of s b
  op_same a b h = λ i. record { node = record { 0 = s.me }; start = h.start i; number = min (h.begun i + 1) last_number }

  refusal_same : (x y : Node) → NodeAlike w s.cluster s.me x y → (request : Request) → refusal s x request ≡ refusal s y request
  refusal_same x y n request = λ i. cond (nat_le (last_number - 1) ((n.met).begun i)) (Some Worn) (unless_missing (n.open_operations i) (missing_kind request (kind_of s.cluster s.me)))

  abbrev begin_now : Node → Met → Operation → Option Answer → Now
  begin_now node own o refused = unless_refused s (at_open (at_first (own ∷ node.met) node.stored) node.open_operations) o refused

  abbrev begin_by : Node → Met → Operation → Option Answer → Step
  begin_by node own o refused = step_of node own [] [] (apply_notes s node.met node.stored (begin_now node own o refused).met (begin_now node own o refused).stored) (begin_now node own o refused).sends (begin_now node own o refused)

  begin_by_alike : (x y : Node) → NodeAlike w s.cluster s.me x y → (own : Met) (o : Operation) (refused : Option Answer) → StepAlike w s.cluster s.me (begin_by x own o refused) (begin_by y own o refused)
  begin_by_alike x y n own o refused =
      step_of_alike x y n own [] [] [] [] _ _ _ _ (begin_now x own o refused) (begin_now y own o refused) refl refl
      (applies_alike s x.met y.met x.stored y.stored _ _ _ _ (n.met).kept n.stored (now.met).kept now.stored) now.sends now
    where
      now : NowAlike w s.cluster s.me (begin_now x own o refused) (begin_now y own o refused)
      now = begun_alike w s (at_open (at_first (own ∷ x.met) x.stored) x.open_operations) (at_open (at_first (own ∷ y.met) y.stored) y.open_operations) o refused (record {
        met = alike_more w s.cluster s.me own x.met y.met n.met;
        stored = n.stored;
        kept = n.open_operations;
        valid = refl;
        answers = refl;
        sends = refl;
      })

  begin_alike : (x y : Node) → NodeAlike w s.cluster s.me x y → (request : Request) (text : List ℕ) → StepAlike w s.cluster s.me (begin_step s x request text) (begin_step s y request text)
  begin_alike x y n request text =
      coe 0 1 (i. StepAlike w s.cluster s.me (begin_by x (Begins (op_of s x.met) text) (new_operation (op_of s x.met) request (clock_of x.met)) (refusal s x request))
      (begin_by y (Begins (op_same x.met y.met n.met i) text) (new_operation (op_same x.met y.met n.met i) request (last_tick ((n.met).ticks i))) (refusal_same x y n request i)))
      (begin_by_alike x y n (Begins (op_of s x.met) text) (new_operation (op_of s x.met) request (clock_of x.met)) (refusal s x request))

  pub step_alike : (x y : Node) → NodeAlike w s.cluster s.me x y → (event : Event) → IsNearEvent w event → StepAlike w s.cluster s.me (step s x event) (step s y event)
  step_alike x y n (Tick now) near = tick_alike x y n now
  step_alike x y n (Take m) near = take_alike x y n m near
  step_alike x y n (Begin request text) near = begin_alike x y n request text

-- ---- wherever it is looked at

abbrev pub anywhere : Scope
anywhere = record { near = λ node. true; wide = λ node is. refl }

near_anywhere : (from : ℕ) (body : Body) → IsNear anywhere from body
near_anywhere from (Acquire cell epoch clock) = refl
near_anywhere from (Dead op cell node) = refl
near_anywhere from _ = tt

pub event_anywhere : (event : Event) → IsNearEvent anywhere event
event_anywhere (Take m) = near_anywhere m.from m.body
event_anywhere (Tick now) = tt
event_anywhere (Begin request text) = tt
