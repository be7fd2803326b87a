-- In every run a node that says that it is invalidated noted so behind the question.
use Rattle.std.proofs.Common.{◌≡◌, inl, inr, ℕ, ◌+◌, Bool, true, false, cond, List, [], ◌∷◌, ◌++◌, flat_map, Some, refl, sym, subst}
use Rattle.mega_cluster.specs.declared.cluster.Cluster.{Cluster}
use Rattle.mega_handler.specs.Named.{Meanings}
use Rattle.mega_wire.specs.declared.message.Message.{Message}
use Rattle.mega_wire.specs.declared.message.Body.{Body}
use Rattle.mega_wire.specs.declared.message.Body.TheVariants.{Acquire, Accept, Dead, Fetch, Invalidate, Invalidated, Prepare, Top, Where}
use Rattle.mega_lease_laws.specs.of_run_laws.of_tape_laws.of_promises.of_transcript.declared.item.Item.{Item}
use Rattle.mega_lease_laws.specs.of_run_laws.of_tape_laws.of_promises.of_transcript.declared.item.Item.TheVariants.{Invalid, Sent}
use Rattle.mega_lease_laws.specs.of_run_laws.of_tape_laws.of_promises.of_transcript.Tape.{sent_count}
use Rattle.mega_lease_laws.specs.of_run_laws.of_tape_laws.of_promises.Items.{number, shown}
use Rattle.mega_lease_laws.specs.of_run_laws.of_tape_laws.of_promises.Promises.{Stands, StoodBefore}
use Rattle.mega_lease_laws.specs.of_run_laws.of_tape_laws.of_promises.Runs.{Happening, IsRun, Standing, set_at, setting, with_items}
use Rattle.mega_lease_laws.specs.of_run_laws.of_tape_laws.of_promises.of_rules.Met.{Met, Invalidates}
use Rattle.mega_lease_laws.specs.of_run_laws.of_tape_laws.of_promises.of_rules.Logs.{top_of}
use Rattle.mega_lease_laws.specs.of_run_laws.of_tape_laws.of_promises.of_rules.Members.{is_full, is_voter}
use Rattle.mega_lease_laws.specs.of_run_laws.of_tape_laws.of_promises.of_rules.Operations.{Node, Setting}
use Rattle.mega_lease_laws.specs.of_run_laws.of_tape_laws.of_promises.of_rules.Replies.{answer_to, where_served}
use Rattle.mega_lease_laws.specs.of_run_laws.of_tape_laws.of_promises.of_rules.Steps.{Begin, Event, Step, Take, Tick, start, start_items, step, told_notes}
use Rattle.mega_lease_laws.specs.of_run_laws.of_tape_laws.Lawful.{message}
use Rattle.mega_lease_laws.proofs.of_run_laws.of_tape_laws.Lists.{some_is}
use Rattle.mega_lease_laws.specs.of_run_laws.Justified.{Each}
use Rattle.mega_lease_laws.proofs.of_run_laws.Runs.{IsMark}
use Rattle.mega_lease_laws.proofs.of_run_laws.Turns.{each_on}
use Rattle.mega_valid_laws.specs.of_settled_laws.Covering.{Earlier}
use Rattle.mega_lease_laws.proofs.of_run_laws.Shown.{IsSilent, notes_silent}
use Rattle.mega_valid_laws.proofs.of_settled_laws.Tapes.{items_later}
use Rattle.mega_lease_laws.specs.Questions.{Asks, is_question}
use Rattle.mega_valid_laws.proofs.Orders.{before_behind}
use Rattle.mega_lease_laws.proofs.of_run_laws.AnswerKinds.{IsHeldAnswer, IsLockAnswer, IsLogAnswer, answer_kind}
use Rattle.mega_leased_laws.specs.Items.{Are}
use Rattle.mega_leased_laws.specs.Invalidations.{IsObeyed, Obeys}
use Rattle.mega_leased_laws.proofs.Forms.{Anything, Holds, Occurs, any_keeps, run_holds, stepped}
use Rattle.mega_leased_laws.proofs.Notes.{Origin, step_origins, step_parts}
use Rattle.mega_leased_laws.proofs.Tapes.{IsFree, are_items, are_sent, free_follows}
use Rattle.mega_leased_laws.proofs.Cells.{occurs_own, own_silent}

silent_obeyed : (t : List Item) (item : Item) → IsSilent item → IsObeyed t item
silent_obeyed t (Sent key m) h = absurd h
silent_obeyed t _ h = tt

-- a message that says nothing of this
abbrev OtherBody : Body → Type 0
OtherBody (Invalidated op group n) = ⊥
OtherBody _ = Unit {0}

other_obeys : (t : List Item) (m : Message) (body : Body) → OtherBody body → Obeys t m body
other_obeys t m (Invalidated op group n) h = absurd h
other_obeys t m _ h = tt

question_obeys : (t : List Item) (m : Message) (body : Body) → is_question body ≡ true → Obeys t m body
question_obeys t m (Invalidated op group n) is = cc
question_obeys t m _ is = tt

obeys_on : (key : ℕ) (q : Message) (t : List Item) (m : Message) (body : Body) → Obeys t m body → Obeys (Sent key q ∷ t) m body
obeys_on key q t m (Invalidated op group n) h = record { key = h.key; asker = h.asker; noted = inr h.noted }
obeys_on key q t m _ h = tt

served_other : (t : Bool) (body reply : Body) → OtherBody body → where_served t body ≡ Some reply → OtherBody reply
served_other true body reply h is = subst OtherBody (some_is body reply is) h
served_other false body reply h is = cc

log_other : (body : Body) → IsLogAnswer body → OtherBody body
log_other (Invalidated op group n) h = h
log_other _ h = tt

held_other : (body : Body) → IsHeldAnswer body → OtherBody body
held_other (Invalidated op group n) h = h
held_other _ h = tt

lock_other : (body : Body) → IsLockAnswer body → OtherBody body
lock_other (Invalidated op group n) h = h
lock_other _ h = tt

module _ (c : Cluster) (me : ℕ) (met : List Met) (nodes : ℕ → Node) (base : List Item) (rest : List Met) where
  -- the tape behind the notes of what a message tells, and the rest
  abbrev behind : List Met → List Item
  behind told = with_items c nodes base (flat_map (shown me) (told ++ rest))

  reply_obeys : (h : Meanings) (j from to : ℕ) (body : Body) (m : Message) → to ≡ me → Stands (Sent j (message from to body)) base → m.from ≡ me → answer_to c me met from body ≡ Some m.body
      → Obeys (behind (told_notes (setting c h me) met from body)) m m.body
  reply_obeys h j from to (Invalidate op group n) m own stands mine is = by (is_full c me) is
    where
      by : (t : Bool) → where_served t (Invalidated op group n) ≡ Some m.body → Obeys (behind (cond t (Invalidates group n.0 ∷ []) [])) m m.body
      by false k = cc
      by true k = subst (Obeys (behind (Invalidates group n.0 ∷ [])) m) (some_is (Invalidated op group n) m.body k) (record {
        key = j;
        asker = from;
        noted = subst (λ v. StoodBefore (Sent j (message from v (Invalidate op group n))) (Invalid (number v) group n) (behind (Invalidates group n.0 ∷ []))) (sym mine)
            (subst (StoodBefore (Sent j (message from me (Invalidate op group n))) (Invalid (number me) group n)) (sym later.is)
            (before_behind later.later (Invalid (number me) group n ∷ base) (Sent j (message from me (Invalidate op group n))) (Invalid (number me) group n) (inl (refl, subst (λ v. Stands (Sent j (message from v (Invalidate op group n))) base) own stands))));
      })
        where
          later : Earlier (Invalid (number me) group n ∷ base) (behind (Invalidates group n.0 ∷ []))
          later = items_later c nodes (flat_map (shown me) rest) (Invalid (number me) group n ∷ base)
  reply_obeys h j from to (Where op group) m own stands mine is = other_obeys _ m m.body (served_other (is_voter c me) (Top op group (record { 0 = top_of met group })) m.body tt is)
  reply_obeys h j from to (Accept op group n b e) m own stands mine is = other_obeys _ m m.body (log_other m.body (answer_kind c me met from (Accept op group n b e) m.body is))
  reply_obeys h j from to (Prepare op group n b) m own stands mine is = other_obeys _ m m.body (log_other m.body (answer_kind c me met from (Prepare op group n b) m.body is))
  reply_obeys h j from to (Fetch op group n) m own stands mine is = other_obeys _ m m.body (log_other m.body (answer_kind c me met from (Fetch op group n) m.body is))
  reply_obeys h j from to (Dead op cell node) m own stands mine is = other_obeys _ m m.body (held_other m.body (answer_kind c me met from (Dead op cell node) m.body is))
  reply_obeys h j from to (Acquire cell epoch clock) m own stands mine is = other_obeys _ m m.body (lock_other m.body (answer_kind c me met from (Acquire cell epoch clock) m.body is))
  reply_obeys h j from to _ m own stands mine is = absurd (let none = is in cc)

abbrev Obeying : Cluster → List Item → (ℕ → Node) → (ℕ → List Met) → Type 0
Obeying c tape nodes owed = Are IsObeyed tape

module _ (c : Cluster) (h : Meanings) (now : Standing) (me : ℕ) (q : Are IsObeyed now.tape) where
  abbrev s : Setting
  s = setting c h me

  abbrev made : Event → Step
  made event = step s (now.node me) event

  abbrev nodes' : Event → ℕ → Node
  nodes' event = set_at now.node me (made event).node

  abbrev items : Event → List Item
  items event = flat_map (shown me) (made event).notes

  abbrev second : Item → Event → List Item
  second item event = with_items c (nodes' event) (item ∷ now.tape) (items event)

  abbrev Well : List Item → Message → Type 0
  Well t m = Obeys t m m.body

  question_well : (t : List Item) (m : Message) → Asks m → Well t m
  question_well t m asks = question_obeys t m m.body asks

  origins_well : (item : Item) (event : Event) → Occurs now.tape s (now.node me).met item event → (ms : List Message) → Each (Origin s (now.node me).met event) ms → Each (Well (second item event)) ms
  origins_well item (Tick clock) o ms each = each_on (Origin s (now.node me).met (Tick clock)) (Well (second item (Tick clock))) one ms each
    where
      one : (m : Message) → Origin s (now.node me).met (Tick clock) m → Well (second item (Tick clock)) m
      one m (inl asks) = question_well (second item (Tick clock)) m asks
      one m (inr a) = subst (Well (second item (Tick clock))) (sym a.is) tt
  origins_well item (Take got) o ms each = each_on (Origin s (now.node me).met (Take got)) (Well (second item (Take got))) one ms each
    where
      one : (m : Message) → Origin s (now.node me).met (Take got) m → Well (second item (Take got)) m
      one m (inl asks) = question_well (second item (Take got)) m asks
      one m (inr r) = let parts = step_parts s (now.node me) (Take got) in
          subst (λ notes. Well (with_items c (nodes' (Take got)) (item ∷ now.tape) (flat_map (shown me) notes)) m) (sym parts.is)
          (reply_obeys c me (now.node me).met (nodes' (Take got)) (item ∷ now.tape) parts.rest h o.0 got.from got.to got.body m o.3 (inr o.2) r.from r.body)
  origins_well item (Begin request text) o ms each = each_on (Origin s (now.node me).met (Begin request text)) (Well (second item (Begin request text))) one ms each
    where
      one : (m : Message) → Origin s (now.node me).met (Begin request text) m → Well (second item (Begin request text)) m
      one m (inl asks) = question_well (second item (Begin request text)) m asks
      one m (inr none) = absurd none

  steps_obeying : (item : Item) (event : Event) → Occurs now.tape s (now.node me).met item event → Are IsObeyed (stepped c (nodes' event) me now.tape item (made event))
  steps_obeying item event o = are_sent IsObeyed (λ m t. Well t m) (λ m t k r. r) (λ m other t k r. obeys_on k other t m m.body r) (sent_count now.tape + 1) (made event).sends (second item event)
      (origins_well item event o (made event).sends (step_origins s (now.node me) event))
      (are_items IsObeyed (λ t. tt) c (nodes' event) (items event) (item ∷ now.tape) (free_follows IsObeyed (λ t. tt) c (nodes' event) (items event) (item ∷ now.tape)
      (each_on IsSilent (IsFree IsObeyed (λ t. tt) c (nodes' event)) (λ one is t. silent_obeyed t one is) (items event) (notes_silent me (made event).notes)))
      (silent_obeyed now.tape item (own_silent item (occurs_own now.tape s (now.node me).met item event o)), q))

pub mark_silent : (item : Item) → IsMark item → IsSilent item
mark_silent (Sent key m) h = absurd h
mark_silent _ h = tt

obeying_holds : (c : Cluster) → Holds c Anything (Obeying c)
obeying_holds c = record {
  steps = λ h now me item event g p up o plain q. steps_obeying c h now me q item event o;
  cuts = λ h now me item event kept g p up o q. (tt, (silent_obeyed now.tape item (own_silent item (occurs_own now.tape (setting c h me) (now.node me).met item event o)), q));
  starts = λ h now me count g p less q. by c h now me count q;
  falls = λ now me g p q. (tt, q);
  marks = λ now item is g p q. (silent_obeyed now.tape item (mark_silent item is), q);
}
  where
    by : (c : Cluster) (h : Meanings) (now : Standing) (me count : ℕ) → Are IsObeyed now.tape
        → Are IsObeyed (with_items c (set_at now.node me (start (setting c h me) count (now.owed me) (now.node me).met)) now.tape (flat_map (shown me) (start_items (setting c h me) count (now.owed me) (now.node me).met)))
    by c h now me count q = are_items IsObeyed (λ t. tt) c those those_items now.tape (free_follows IsObeyed (λ t. tt) c those those_items now.tape
        (each_on IsSilent (IsFree IsObeyed (λ t. tt) c those) (λ one is t. silent_obeyed t one is) those_items (notes_silent me (start_items (setting c h me) count (now.owed me) (now.node me).met)))) q
      where
        those : ℕ → Node
        those = set_at now.node me (start (setting c h me) count (now.owed me) (now.node me).met)

        those_items : List Item
        those_items = flat_map (shown me) (start_items (setting c h me) count (now.owed me) (now.node me).met)

pub run_obeyed : (c : Cluster) (first : Meanings) (events : List Happening) (tape : List Item) → IsRun c first events tape → Are IsObeyed tape
run_obeyed c first events tape run = subst (Are IsObeyed) (sym run.tape_is) (run_holds c Anything (any_keeps c) (Obeying c) (obeying_holds c) first events tape run tt tt)
