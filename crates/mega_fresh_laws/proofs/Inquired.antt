-- In every run operations ask before they propose, and propose by what their polls told them; and the numbers of messages rise.
use Rattle.std.proofs.Common.{ℕ, ◌≡◌, inl, inr, ◌+◌, ◌==◌, ◌&&◌, ◌≤◌, ◌<◌, Bool, true, false, not, cond, List, [], ◌∷◌, ◌++◌, length, map, flat_map, fold, Option, Some, None, refl, sym, ap, ◌∙◌, subst, arith}
use Rattle.mega_base.specs.declared.names.GroupId.{GroupId}
use Rattle.mega_base.specs.declared.names.OpId.{OpId}
use Rattle.mega_ballot.specs.Order.{zero_ballot}
use Rattle.mega_cluster.specs.declared.cluster.Cluster.{Cluster}
use Rattle.mega_handler.specs.Named.{Meanings}
use Rattle.mega_outcome.specs.declared.request.Request.{Request}
use Rattle.mega_leased_laws.specs.of_settled_laws.of_run_laws.of_tape_laws.of_promises.of_transcript.declared.item.Item.{Item}
use Rattle.mega_leased_laws.specs.of_settled_laws.of_run_laws.of_tape_laws.of_promises.of_transcript.declared.item.Item.TheVariants.{Crash, Sent, Unsafe}
use Rattle.mega_leased_laws.specs.of_settled_laws.of_run_laws.of_tape_laws.of_promises.of_transcript.Tape.{sent_count}
use Rattle.mega_wire.specs.declared.message.Message.{Message}
use Rattle.mega_wire.specs.declared.message.Body.{Body}
use Rattle.mega_wire.specs.declared.message.Body.TheVariants.{Accept, Where}
use Rattle.mega_leased_laws.specs.of_settled_laws.of_run_laws.of_tape_laws.of_promises.Fresh.{proposes}
use Rattle.mega_leased_laws.specs.of_settled_laws.of_run_laws.of_tape_laws.of_promises.Items.{number, shown}
use Rattle.mega_leased_laws.specs.of_settled_laws.of_run_laws.of_tape_laws.of_promises.Messages.{is_unsafe}
use Rattle.mega_leased_laws.specs.of_settled_laws.of_run_laws.of_tape_laws.of_promises.Promises.{Stands}
use Rattle.mega_leased_laws.specs.of_settled_laws.of_run_laws.of_tape_laws.of_promises.Runs.{Cuts, Happening, IsRun, Standing, breaks, goes_on, met_in, opening, set_at, setting, with_item, with_items}
use Rattle.mega_leased_laws.specs.of_settled_laws.of_run_laws.of_tape_laws.of_promises.of_rules.Clock.{begun_of, clock_of, last_number, start_of}
use Rattle.mega_leased_laws.specs.of_settled_laws.of_run_laws.of_tape_laws.of_promises.of_rules.Coordinators.{acquires_at}
use Rattle.mega_leased_laws.specs.of_settled_laws.of_run_laws.of_tape_laws.of_promises.of_rules.Members.{kind_of}
use Rattle.mega_leased_laws.specs.of_settled_laws.of_run_laws.of_tape_laws.of_promises.of_rules.Met.{Met, Begins, Takes, Ticks}
use Rattle.mega_leased_laws.specs.of_settled_laws.of_run_laws.of_tape_laws.of_promises.of_rules.Operations.{Node, Now, Operation, Setting}
use Rattle.mega_leased_laws.specs.of_settled_laws.of_run_laws.of_tape_laws.of_promises.of_rules.Replies.{reply_to}
use Rattle.mega_leased_laws.specs.of_settled_laws.of_run_laws.of_tape_laws.of_promises.of_rules.Steps.{Begin, Decision, Event, Step, Take, Tick, all_act, at_first, at_open, background, begin_step, crashed, decision_note, first_settled, hears_message, if_new, is_worn, lapse_notes, lease_notes, missing_kind, new_operation, news, onto, op_of, portion_of, refusal, start, start_items, step, stored_after, taken, tick_step, ticked, told_decision, told_notes, unless_missing, unless_refused}
use Rattle.mega_leased_laws.specs.of_settled_laws.of_run_laws.of_tape_laws.Lawful.{message}
use Rattle.mega_leased_laws.specs.of_settled_laws.of_run_laws.of_tape_laws.Places.{In, Place, Proposes as ProposesMove, Took, move_of, moves}
use Rattle.mega_leased_laws.specs.of_settled_laws.of_run_laws.of_tape_laws.Writes.{Usage}
use Rattle.mega_leased_laws.proofs.of_settled_laws.of_run_laws.of_tape_laws.Lists.{kept as in_kept}
use Rattle.mega_leased_laws.proofs.of_settled_laws.of_run_laws.of_tape_laws.Made.{proposed_here}
use Rattle.mega_leased_laws.specs.of_settled_laws.of_run_laws.Usages.{Fits}
use Rattle.mega_leased_laws.specs.of_settled_laws.of_run_laws.Justified.{Each, sent}
use Rattle.mega_leased_laws.proofs.of_settled_laws.of_run_laws.Owned.{Mine}
use Rattle.mega_leased_laws.proofs.of_settled_laws.of_run_laws.Runs.{IsMark}
use Rattle.mega_leased_laws.proofs.of_settled_laws.of_run_laws.Sending.{took_on}
use Rattle.mega_leased_laws.proofs.of_settled_laws.of_run_laws.Standing.{Good}
use Rattle.mega_leased_laws.proofs.of_settled_laws.of_run_laws.Steps.{never_asked, never_moved}
use Rattle.mega_leased_laws.proofs.of_settled_laws.of_run_laws.Turns.{Held, IsRising, each_on, each_zip, sent_append}
use Rattle.mega_leased_laws.proofs.of_settled_laws.of_run_laws.Shown.{IsSilent, notes_silent}
use Rattle.mega_leased_laws.proofs.of_settled_laws.of_run_laws.Events.{each_append as each_both}
use Rattle.mega_leased_laws.specs.of_valid_laws.Leases.{has_polled}
use Rattle.mega_leased_laws.specs.Items.{Are}
use Rattle.mega_leased_laws.proofs.Cells.{by_node, occurs_own}
use Rattle.mega_leased_laws.proofs.Forms.{Occurs, down, stepped}
use Rattle.mega_leased_laws.proofs.Validating.{NoRequest, Plain, acquires_plain, background_plain, news_plain, next_is, own_item, reply_plain, unasked_unpolled}
use Rattle.mega_leased_laws.proofs.of_run_laws.Whole.{take_by}
use Rattle.mega_leased_laws.proofs.of_run_laws.Steps.{not_worn}
use Rattle.mega_leased_laws.proofs.Obeying.{mark_silent}
use Rattle.mega_fresh_laws.proofs.Inquiries.{Beside, IsInquired, Unoffered, beside_items, beside_same, beside_silent, beside_then, mute_beside, mute_inquired, silent_inquired, silent_one}
use Rattle.mega_fresh_laws.proofs.Meant.{Stays, run_stays, those_of}
use Rattle.mega_fresh_laws.proofs.Polling.{Acted, AllActed, OpenHeard, Waits, all_heard_acted, all_ticked_acted, begins_acted, open_beside}
use Rattle.mega_fresh_laws.proofs.Questions.{Mute, MuteBody}
use Rattle.mega_fresh_laws.proofs.Through.{phase_above}

-- ---- numbers

-- each message has the number after the one sent before
abbrev pub IsNumbered : List Item → Item → Type 0
IsNumbered before (Sent key m) = key ≡ sent_count before + 1
IsNumbered before _ = Unit {0}

pub numbers_most : (tape : List Item) → Are IsNumbered tape → (key : ℕ) (m : Message) → Stands (Sent key m) tape → key ≤ sent_count tape
numbers_most [] law key m s = absurd s
numbers_most (item ∷ before) law key m (inl same) = subst (λ x. key ≤ sent_count (x ∷ before)) (sym same) (least key (sent_count before) (subst (IsNumbered before) same law.0))
  where
    least : (a b : ℕ) → a ≡ b + 1 → a ≤ b + 1
    least a b is = omega (arith, is)
numbers_most (item ∷ before) law key m (inr s) = more item (numbers_most before law.1 key m s)
  where
    more : (x : Item) → key ≤ sent_count before → key ≤ sent_count (x ∷ before)
    more (Sent other n) le = omega (arith, le)
    more _ le = le

silent_count : (tape : List Item) (item : Item) → IsSilent item → sent_count (item ∷ tape) ≡ sent_count tape
silent_count tape (Sent key m) silent = absurd silent
silent_count tape _ silent = refl

silent_numbered : (tape : List Item) (item : Item) → IsSilent item → IsNumbered tape item
silent_numbered tape (Sent key m) silent = absurd silent
silent_numbered tape _ silent = tt

module _ (c : Cluster) (nodes' : ℕ → Node) where
  item_count : (tape : List Item) (item : Item) → IsSilent item → sent_count (with_item c nodes' tape item) ≡ sent_count tape
  item_count tape item silent = by (breaks c nodes' item && not (is_unsafe tape))
    where
      by : (t : Bool) → sent_count (cond t (Unsafe ∷ item ∷ tape) (item ∷ tape)) ≡ sent_count tape
      by true = silent_count tape item silent
      by false = silent_count tape item silent

  item_numbered : (tape : List Item) (item : Item) → IsSilent item → Are IsNumbered tape → Are IsNumbered (with_item c nodes' tape item)
  item_numbered tape item silent law = by (breaks c nodes' item && not (is_unsafe tape))
    where
      by : (t : Bool) → Are IsNumbered (cond t (Unsafe ∷ item ∷ tape) (item ∷ tape))
      by true = (tt, (silent_numbered tape item silent, law))
      by false = (silent_numbered tape item silent, law)

  items_count : (items tape : List Item) → Each IsSilent items → sent_count (with_items c nodes' tape items) ≡ sent_count tape
  items_count [] tape silent = refl
  items_count (item ∷ items) tape silent = items_count items (with_item c nodes' tape item) silent.1 ∙ item_count tape item silent.0

  items_numbered : (items tape : List Item) → Each IsSilent items → Are IsNumbered tape → Are IsNumbered (with_items c nodes' tape items)
  items_numbered [] tape silent law = law
  items_numbered (item ∷ items) tape silent law = items_numbered items (with_item c nodes' tape item) silent.1 (item_numbered tape item silent.0 law)

sent_numbered : (k : ℕ) (ms : List Message) (tape : List Item) → k ≡ sent_count tape + 1 → Are IsNumbered tape → Are IsNumbered (sent k ms tape)
sent_numbered k [] tape is law = law
sent_numbered k (m ∷ ms) tape is law = sent_numbered (k + 1) ms (Sent k m ∷ tape) (ap (λ n. n + 1) is) (is, law)

-- ---- standings

pub record AllInquired (c : Cluster) (tape : List Item) (nodes : ℕ → Node) : Type 0 where
  pub items : Are (IsInquired c) tape
  pub numbered : Are IsNumbered tape
  pub opens : (v : ℕ) → Each (OpenHeard c tape) (nodes v).open_operations

abbrev HeldAt : Cluster → Usage → Standing → ℕ → Operation → Type 0
HeldAt c usage now v o = Held (those_of usage) c now.tape v (start_of (now.node v).met) (begun_of (now.node v).met + 1) (now.node v).met o

plain_mute : (ms : List Message) → Each Plain ms → Each Mute ms
plain_mute ms h = each_on Plain Mute (λ m k. by m.body k) ms h
  where
    by : (body : Body) → NoRequest body → MuteBody body
    by (Accept op group n b e) k = absurd k
    by (Where op group) k = absurd k
    by _ k = tt

-- what no operation proposed yet
unmoved_unoffered : (tape : List Item) (op : OpId) → ((q : Place) → moves tape op q ≡ []) → Unoffered tape op
unmoved_unoffered tape op none key to group n own id s = subst (In (ProposesMove zero_ballot own)) (none (record { group = group; position = n }))
    (in_kept (move_of op (record { group = group; position = n })) (proposes key op to group n own) (ProposesMove zero_ballot own) tape (proposed_here op (record { group = group; position = n }) zero_ballot own) s)

-- ---- a step

-- what a step leaves, on a tape with what it sent
record StepHeard (c : Cluster) (me : ℕ) (second tape : List Item) (kept : List Operation) : Type 0 where
  law : Are (IsInquired c) tape
  opens : Each (OpenHeard c tape) kept
  beside : (x : OpId) → (me == x.node.0) ≡ false → Beside x second tape

module _ (s : Setting) (node : Node) (second : List Item) (count : ℕ) (law : Are (IsInquired s.cluster) second) where
  -- before its operations act it sends what is of none of them
  abbrev before_acting : List Message → List Item
  before_acting pre = sent count pre second

  abbrev ActedBy : List Message → Now → Type 0
  ActedBy pre now = AllActed s (before_acting pre) (count + length pre) now

  before_beside : (pre : List Message) → Each Plain pre → (x : OpId) → Beside x second (before_acting pre)
  before_beside pre plain x = mute_beside x count pre second (plain_mute pre plain)

  first_acted : (pre : List Message) → Each Plain pre → (now : Now) → now.sends ≡ [] → now.kept ≡ [] → Acted s (before_acting pre) (count + length pre) 0 now
  first_acted pre plain now sends kept = record {
    law = subst (λ ms. Are (IsInquired s.cluster) (sent (count + length pre) ms (before_acting pre))) (sym sends) (mute_inquired s.cluster count pre second (plain_mute pre plain) law);
    kept = subst (Each _) (sym kept) tt;
    beside = λ x later. subst (λ ms. Beside x (before_acting pre) (sent (count + length pre) ms (before_acting pre))) (sym sends) (beside_same x (before_acting pre));
  }

  acted_heard : (pre : List Message) (now : Now) → Each Plain pre → ActedBy pre now → StepHeard s.cluster s.me second (sent count (pre ++ now.sends) second) now.kept
  acted_heard pre now plain all = subst (λ t. StepHeard s.cluster s.me second t now.kept) (sym (sent_append count pre now.sends second)) (record {
    law = (all.acted).law;
    opens = each_on _ (OpenHeard s.cluster (sent (count + length pre) now.sends (before_acting pre))) (λ o kept. kept.1) now.kept (all.acted).kept;
    beside = λ x other. beside_then x second (before_acting pre) _ (before_beside pre plain x) ((all.acted).beside x (inl other));
  })

  behind_heard : (ms post : List Message) (kept : List Operation) → Each Plain post → StepHeard s.cluster s.me second (sent count ms second) kept → StepHeard s.cluster s.me second (sent count (ms ++ post) second) kept
  behind_heard ms post kept plain h = subst (λ t. StepHeard s.cluster s.me second t kept) (sym (sent_append count ms post second)) (record {
    law = mute_inquired s.cluster (count + length ms) post (sent count ms second) (plain_mute post plain) h.law;
    opens = each_on (OpenHeard s.cluster (sent count ms second)) (OpenHeard s.cluster (sent (count + length ms) post (sent count ms second)))
        (λ o opened. open_beside s.cluster (sent count ms second) (sent (count + length ms) post (sent count ms second)) o (mute_beside o.id (count + length ms) post (sent count ms second) (plain_mute post plain)) opened) kept h.opens;
    beside = λ x other. beside_then x second (sent count ms second) _ (h.beside x other) (mute_beside x (count + length ms) post (sent count ms second) (plain_mute post plain));
  })

  -- those that wait, before a step sends anything
  abbrev WaitsHere : Operation → Type 0
  WaitsHere o = Waits s second count o

  waits_then : (pre : List Message) → Each Plain pre → (os : List Operation) → Each WaitsHere os → Each (Waits s (before_acting pre) (count + length pre)) os
  waits_then pre plain os h = each_on WaitsHere (Waits s (before_acting pre) (count + length pre))
      (λ o w. record { node = w.node; above = w.above; opens = open_beside s.cluster second (before_acting pre) o (before_beside pre plain o.id) w.opens }) os h

  taken_heard : (m : Message) (d : Option Decision) (told_news : List Message) → let ts = map (hears_message s (clock_of node.met) m) node.open_operations in let told = told_notes s node.met m.from m.body in
      let made = taken s node m told ts d (reply_to s.cluster s.me node.met m) told_news in
      Took second (message m.from s.me m.body) → IsRising 0 node.open_operations → Each WaitsHere node.open_operations → Each Plain told_news → StepHeard s.cluster s.me second (sent count made.sends second) (made.node).open_operations
  taken_heard m d told_news took rising waits plain = acted_heard pre now besides
      (all_heard_acted s (before_acting pre) (count + length pre) (clock_of node.met) m
      (took_on second (before_acting pre) (before_beside pre besides (op_of s node.met)).stood _ took) node.open_operations 0 (at_first base (stored_after s base node.stored d)) rising
      (waits_then pre besides node.open_operations waits) (first_acted pre besides (at_first base (stored_after s base node.stored d)) refl refl))
    where
      pre : List Message
      pre = reply_to s.cluster s.me node.met m ++ told_news

      besides : Each Plain pre
      besides = each_both Plain (reply_to s.cluster s.me node.met m) told_news (reply_plain s.cluster s.me node.met m) plain

      base : List Met
      base = onto (decision_note d) (onto (told_notes s node.met m.from m.body) (Takes m ∷ node.met))

      now : Now
      now = all_act s (at_first base (stored_after s base node.stored d)) (map (hears_message s (clock_of node.met) m) node.open_operations)

  tick_heard : (clock : ℕ) → IsRising 0 node.open_operations → Each WaitsHere node.open_operations → StepHeard s.cluster s.me second (sent count (tick_step s node clock).sends second) ((tick_step s node clock).node).open_operations
  tick_heard clock rising waits = behind_heard (pre ++ now.sends) (background s node.met clock) now.kept (background_plain s node.met clock) (acted_heard pre now plain
      (all_ticked_acted s (before_acting pre) (count + length pre) clock node.open_operations 0 begin rising (waits_then pre plain node.open_operations waits) (first_acted pre plain begin refl refl)))
    where
      pre : List Message
      pre = acquires_at s.cluster s.me node.met clock

      plain : Each Plain pre
      plain = acquires_plain s node.met clock

      begin : Now
      begin = at_first (onto (lapse_notes s node.met clock) (onto (lease_notes s node.met clock) (Ticks clock ∷ node.met))) (portion_of s node.met node.stored)

      now : Now
      now = fold (ticked s clock) begin node.open_operations

  abbrev no_messages : List Message
  no_messages = []

  begin_heard : (request : Request) (text : List ℕ) (k : ℕ) → Each (λ (o : Operation). (o.id).number < k) node.open_operations → (refusal s node request ≡ None → k ≤ (op_of s node.met).number)
      → ((g : GroupId) → has_polled second (op_of s node.met) g ≡ false) → Unoffered second (op_of s node.met) → Each WaitsHere node.open_operations
      → StepHeard s.cluster s.me second (sent count (begin_step s node request text).sends second) ((begin_step s node request text).node).open_operations
  begin_heard request text k below above unasked unoffered waits = acted_heard no_messages now tt
      (begins_acted s (before_acting no_messages) (count + length no_messages) begin (op_of s node.met) request (clock_of node.met) (refusal s node request)
      (λ none. record { busy = record { law = law; kept = raised (op_of s node.met).number (above none); node = refl; beside = λ x later. beside_same x second }; unasked = unasked; unoffered = unoffered })
      (λ answer. record { k = k; acted = record { law = law; kept = raised k (omega arith); beside = λ x later. beside_same x second } }))
    where
      begin : Now
      begin = at_open (at_first (Begins (op_of s node.met) text ∷ node.met) node.stored) node.open_operations

      now : Now
      now = unless_refused s begin (new_operation (op_of s node.met) request (clock_of node.met)) (refusal s node request)

      raised : (l : ℕ) → k ≤ l → Each (λ (o : Operation). ((o.id).number < l) × OpenHeard s.cluster second o) node.open_operations
      raised l le = each_zip (λ (o : Operation). (o.id).number < k) WaitsHere (λ (o : Operation). ((o.id).number < l) × OpenHeard s.cluster second o) (λ o less w. (omega (arith, less, le), w.opens)) node.open_operations below waits

  take_heard : (m : Message) (told : Option Decision) → let made = take_by s node m (map (hears_message s (clock_of node.met) m) node.open_operations) told in
      Took second (message m.from s.me m.body) → IsRising 0 node.open_operations → Each WaitsHere node.open_operations → StepHeard s.cluster s.me second (sent count made.sends second) (made.node).open_operations
  take_heard m (Some d) took rising waits = taken_heard m (if_new node.met (Some d)) [] took rising waits tt
  take_heard m None took rising waits = let d = if_new node.met (first_settled (map (hears_message s (clock_of node.met) m) node.open_operations)) in taken_heard m d (news s d) took rising waits (news_plain s d)

module _ (c : Cluster) (usage : Usage) (h : Meanings) (now : Standing) (me : ℕ) (item : Item) (event : Event) (g : Good (those_of usage) c now) (o : Occurs now.tape (setting c h me) (now.node me).met item event) (q : AllInquired c now.tape now.node) where
  abbrev s : Setting
  s = setting c h me

  abbrev node : Node
  node = now.node me

  abbrev made : Step
  made = step s node event

  abbrev those : ℕ → Node
  those = set_at now.node me made.node

  abbrev count : ℕ
  count = sent_count now.tape + 1

  abbrev items : List Item
  items = flat_map (shown me) made.notes

  abbrev second : List Item
  second = with_items c those (item ∷ now.tape) items

  abbrev third : List Item
  third = stepped c those me now.tape item made

  own : IsSilent item
  own = own_item item (occurs_own now.tape s node.met item event o)

  first_law : Are (IsInquired c) (item ∷ now.tape)
  first_law = (silent_one c item own now.tape, q.items)

  second_law : Are (IsInquired c) second
  second_law = silent_inquired c those items (item ∷ now.tape) (notes_silent me made.notes) first_law

  first_beside : (x : OpId) → Beside x now.tape (item ∷ now.tape)
  first_beside x = beside_silent x now.tape item own

  notes_beside : (x : OpId) → Beside x (item ∷ now.tape) second
  notes_beside x = beside_items c those x items (item ∷ now.tape) (notes_silent me made.notes)

  second_beside : (x : OpId) → Beside x now.tape second
  second_beside x = beside_then x now.tape (item ∷ now.tape) second (first_beside x) (notes_beside x)

  waits : Each (Waits s second count) node.open_operations
  waits = each_zip (HeldAt c usage now me) (OpenHeard c now.tape) (Waits s second count) (λ x held opened. record {
    node = held.node;
    above = phase_above c now.tape node.met x.id x.phase held.backed (λ group r is. (subst (Mine c.schema now.tape x.id x.request x.message) is (held.owned tt).mine).plain);
    opens = open_beside c now.tape second x (second_beside x.id) opened;
  }) node.open_operations (g.node me).held (q.opens me)

  heard : StepHeard c me second third (made.node).open_operations
  heard = by event o second second_law waits notes_beside second_beside
    where
      by : (event' : Event) → Occurs now.tape s node.met item event' → (tape : List Item) → Are (IsInquired c) tape → Each (Waits s tape count) node.open_operations → ((x : OpId) → Beside x (item ∷ now.tape) tape) → ((x : OpId) → Beside x now.tape tape)
          → StepHeard c me tape (sent count (step s node event').sends tape) ((step s node event').node).open_operations
      by (Tick clock) is tape law waits' notes' beside = tick_heard s node tape count law clock (g.node me).rising waits'
      by (Take m) is tape law waits' notes' beside = take_heard s node tape count law m (told_decision m.body)
          (took_on (item ∷ now.tape) tape (notes' (op_of s node.met)).stood (message m.from me m.body)
          (record { number = is.0; sent = inr (subst (λ v. Stands (Sent is.0 (message m.from v m.body)) now.tape) is.3 is.2); taken = inl is.1 })) (g.node me).rising waits'
      by (Begin request text) is tape law waits' notes' beside = begin_heard s node tape count law request text (begun_of node.met + 1)
          (each_on (HeldAt c usage now me) (λ (x : Operation). (x.id).number < begun_of node.met + 1) (λ x held. held.below) node.open_operations (g.node me).held)
          (λ none. next_is (begun_of node.met) last_number (not_worn (is_worn node.met) (unless_missing node.open_operations (missing_kind request (kind_of c me))) none))
          (λ group. (beside (op_of s node.met)).polled group (unasked_unpolled now.tape (op_of s node.met) group (never_asked (those_of usage) s now g)))
          ((beside (op_of s node.met)).unoffered (unmoved_unoffered now.tape (op_of s node.met) (never_moved (those_of usage) s now g))) waits'

  other_than : (v : ℕ) → (me == v) ≡ false → (x : OpId) → x.node.0 ≡ v → (me == x.node.0) ≡ false
  other_than v apart x node' = ap (λ w. me == w) node' ∙ apart

  steps_inquired : AllInquired c third those
  steps_inquired = record {
    items = heard.law;
    numbered = sent_numbered count made.sends second (ap (λ n. n + 1) (sym (items_count c those items (item ∷ now.tape) (notes_silent me made.notes) ∙ silent_count now.tape item own)))
        (items_numbered c those items (item ∷ now.tape) (notes_silent me made.notes) (silent_numbered now.tape item own, q.numbered));
    opens = by_node (λ v x. Each (OpenHeard c third) x.open_operations) now.node me made.node heard.opens
        (λ v apart. each_zip (HeldAt c usage now v) (OpenHeard c now.tape) (OpenHeard c third)
        (λ x held opened. open_beside c now.tape third x (beside_then x.id now.tape second third (second_beside x.id) (heard.beside x.id (other_than v apart x.id held.node))) opened) (now.node v).open_operations (g.node v).held (q.opens v));
  }

-- ---- what shows no message

-- a node has no open operation any more
silent_one_node : (c : Cluster) (now : Standing) (later : List Item) (me : ℕ) (node : Node) → node.open_operations ≡ [] → ((x : OpId) → Beside x now.tape later) → Are (IsInquired c) later → Are IsNumbered later → AllInquired c now.tape now.node
    → AllInquired c later (set_at now.node me node)
silent_one_node c now later me node none beside law numbers q = record {
  items = law;
  numbered = numbers;
  opens = by_node (λ v x. Each (OpenHeard c later) x.open_operations) now.node me node (subst (Each (OpenHeard c later)) (sym none) tt)
      (λ v apart. each_on (OpenHeard c now.tape) (OpenHeard c later) (λ x opened. open_beside c now.tape later x (beside x.id) opened) (now.node v).open_operations (q.opens v));
}

cuts_inquired : (c : Cluster) (h : Meanings) (now : Standing) (me : ℕ) (item : Item) (event : Event) → Occurs now.tape (setting c h me) (now.node me).met item event → AllInquired c now.tape now.node
    → AllInquired c (Crash (number me) ∷ item ∷ now.tape) (set_at now.node me (down (met_in (setting c h me) (now.node me).met event) (now.node me)))
cuts_inquired c h now me item event o q = silent_one_node c now (Crash (number me) ∷ item ∷ now.tape) me (down (met_in (setting c h me) (now.node me).met event) (now.node me)) refl
    (λ x. beside_then x now.tape (item ∷ now.tape) (Crash (number me) ∷ item ∷ now.tape) (beside_silent x now.tape item silent) (beside_silent x (item ∷ now.tape) (Crash (number me)) tt))
    (tt, (silent_one c item silent now.tape, q.items)) (tt, (silent_numbered now.tape item silent, q.numbered)) q
  where
    silent : IsSilent item
    silent = own_item item (occurs_own now.tape (setting c h me) (now.node me).met item event o)

starts_inquired : (c : Cluster) (h : Meanings) (now : Standing) (me count : ℕ) → AllInquired c now.tape now.node
    → AllInquired c (with_items c (set_at now.node me (start (setting c h me) count (now.owed me) (now.node me).met)) now.tape (flat_map (shown me) (start_items (setting c h me) count (now.owed me) (now.node me).met)))
    (set_at now.node me (start (setting c h me) count (now.owed me) (now.node me).met))
starts_inquired c h now me count q = silent_one_node c now (with_items c those now.tape shows) me (start (setting c h me) count (now.owed me) (now.node me).met) refl
    (λ x. beside_items c those x shows now.tape silent) (silent_inquired c those shows now.tape silent q.items) (items_numbered c those shows now.tape silent q.numbered) q
  where
    those : ℕ → Node
    those = set_at now.node me (start (setting c h me) count (now.owed me) (now.node me).met)

    shows : List Item
    shows = flat_map (shown me) (start_items (setting c h me) count (now.owed me) (now.node me).met)

    silent : Each IsSilent shows
    silent = notes_silent me (start_items (setting c h me) count (now.owed me) (now.node me).met)

falls_inquired : (c : Cluster) (now : Standing) (me : ℕ) → AllInquired c now.tape now.node → AllInquired c (Crash (number me) ∷ now.tape) (set_at now.node me (crashed (now.node me)))
falls_inquired c now me q = silent_one_node c now (Crash (number me) ∷ now.tape) me (crashed (now.node me)) refl (λ x. beside_silent x now.tape (Crash (number me)) tt) (tt, q.items) (tt, q.numbered) q

marks_inquired : (c : Cluster) (now : Standing) (item : Item) → IsMark item → AllInquired c now.tape now.node → AllInquired c (item ∷ now.tape) now.node
marks_inquired c now item is q = record {
  items = (silent_one c item (mark_silent item is) now.tape, q.items);
  numbered = (silent_numbered now.tape item (mark_silent item is), q.numbered);
  opens = λ v. each_on (OpenHeard c now.tape) (OpenHeard c (item ∷ now.tape)) (λ x opened. open_beside c now.tape (item ∷ now.tape) x (beside_silent x.id now.tape item (mark_silent item is)) opened) (now.node v).open_operations (q.opens v);
}

inquired_stays : (c : Cluster) (usage : Usage) (first : Meanings) (cuts : Cuts) → Stays c usage first cuts (AllInquired c)
inquired_stays c usage first cuts = record {
  steps = λ h now me item event g r then up may o plain q. steps_inquired c usage h now me item event g o q;
  cuts_off = λ h now me item event g o q. cuts_inquired c h now me item event o q;
  starts = λ h now me count g q. starts_inquired c h now me count q;
  falls = λ now me g q. falls_inquired c now me q;
  marks = λ now item is g q. marks_inquired c now item is q;
}

-- ---- runs

-- what the items of a tape keep
pub record Inquired (c : Cluster) (tape : List Item) : Type 0 where
  pub items : Are (IsInquired c) tape
  pub numbered : Are IsNumbered tape

pub run_inquired : (c : Cluster) (usage : Usage) (first : Meanings) (events : List Happening) (tape : List Item) → IsRun c first events tape → Fits usage events → Inquired c tape
run_inquired c usage first events tape run fits = subst (Inquired c) (sym run.tape_is) (record { items = all.items; numbered = all.numbered })
  where
    all : AllInquired c (goes_on c run.cuts (opening c first) events).tape (λ me. (goes_on c run.cuts (opening c first) events).node me)
    all = run_stays c usage first run.cuts (AllInquired c) (inquired_stays c usage first run.cuts) events fits (record { items = tt; numbered = tt; opens = λ v. tt })
