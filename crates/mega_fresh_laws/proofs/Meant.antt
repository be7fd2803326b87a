-- What every run keeps whose texts mean their requests: what holds of a tape and its nodes, step by step, where each step ends is itself the end of a run.
use Rattle.std.proofs.Common.{◌≡◌, ℕ, zero, suc, ◌+◌, ◌&&◌, ◌≤◌, ◌<◌, nat_le, Bool, true, false, not, cond, List, [], ◌∷◌, ◌++◌, flat_map, fold, find, Option, Some, None, refl, sym, ap, ◌∙◌, subst, arith}
use Rattle.std.proofs.lemmas.Bool.Decides.{nat_tests}
use Rattle.std.specs.List.{range_with_len}
use Rattle.std.proofs.lemmas.Bool.{and_from, not-true, and_parts, not-false}
use Rattle.mega_cluster.specs.declared.cluster.Cluster.{Cluster}
use Rattle.mega_disk.specs.declared.pair.Device.TheVariants.{Log, Data}
use Rattle.mega_handler.specs.Named.{Meanings}
use Rattle.mega_leased_laws.specs.of_settled_laws.of_run_laws.of_tape_laws.of_promises.of_schedule.declared.world_event.WorldEvent.{WorldEvent}
use Rattle.mega_leased_laws.specs.of_settled_laws.of_run_laws.of_tape_laws.of_promises.of_schedule.declared.world_event.WorldEvent.TheVariants.{Tick as TickEvent, Deliver, Drop, Drain, Crash as CrashEvent, Start as StartEvent, Fuse as FuseEvent, Begin as BeginEvent}
use Rattle.mega_leased_laws.specs.of_settled_laws.of_run_laws.of_tape_laws.of_promises.of_transcript.declared.item.Item.{Item}
use Rattle.mega_leased_laws.specs.of_settled_laws.of_run_laws.of_tape_laws.of_promises.of_transcript.declared.item.Item.TheVariants.{Begin as BeginItem, Crash, Cut as CutItem, Dropped, Taken, Tick as TickItem}
use Rattle.mega_leased_laws.specs.of_settled_laws.of_run_laws.of_tape_laws.of_promises.of_transcript.Tape.{is_sent, is_taken, sent_count}
use Rattle.mega_wire.specs.declared.message.Message.{Message}
use Rattle.mega_leased_laws.specs.of_settled_laws.of_run_laws.of_tape_laws.of_promises.Items.{number, numbered, shown}
use Rattle.mega_leased_laws.specs.of_settled_laws.of_run_laws.of_tape_laws.of_promises.Messages.{is_deliverable, is_dropped, message_of, next_delivery, receiver_up}
use Rattle.mega_leased_laws.specs.of_settled_laws.of_run_laws.of_tape_laws.of_promises.Runs.{Cuts, CutByData, CutByLog, Fate, Happening, IsRun, Standing, Whole, after_event, calls_of, delivered, drained, fate_by, fated, fated_start, goes_on, handed, marked, met_in, nothing_yet, opening, receiver_down, refusal, replies_in, set_at, setting, start_calls, unless_none, unless_refused, up, whole_step, with_item, with_items}
use Rattle.mega_leased_laws.specs.of_settled_laws.of_run_laws.of_tape_laws.of_promises.of_rules.Clock.{is_up}
use Rattle.mega_leased_laws.specs.of_settled_laws.of_run_laws.of_tape_laws.of_promises.of_rules.Members.{is_node, nodes}
use Rattle.mega_leased_laws.specs.of_settled_laws.of_run_laws.of_tape_laws.of_promises.of_rules.Operations.{Node}
use Rattle.mega_leased_laws.specs.of_settled_laws.of_run_laws.of_tape_laws.of_promises.of_rules.Steps.{Begin, Event, Step, Take, Tick, crashed, op_of, start, start_items, step}
use Rattle.mega_leased_laws.specs.of_settled_laws.of_run_laws.of_tape_laws.Writes.{Usage}
use Rattle.mega_leased_laws.specs.of_settled_laws.of_run_laws.Usages.{Brought, Fits, FitsOne, IsMeant}
use Rattle.mega_leased_laws.specs.of_settled_laws.of_run_laws.Justified.{sent}
use Rattle.mega_leased_laws.proofs.of_settled_laws.of_run_laws.Noted.{tape_item, with_append, with_sent}
use Rattle.mega_leased_laws.proofs.of_settled_laws.of_run_laws.Owned.{Users}
use Rattle.mega_leased_laws.proofs.of_settled_laws.of_run_laws.Runs.{IsMark, begin_good, crashes_good, fated_start_good, found, handed_good, marked_good, not_because, nothing_good, start_good, tick_good}
use Rattle.mega_leased_laws.proofs.of_settled_laws.of_run_laws.Standing.{Good}
use Rattle.mega_leased_laws.proofs.of_settled_laws.of_run_laws.Steps.{stands_sent}
use Rattle.mega_leased_laws.proofs.of_settled_laws.of_run_laws.Turns.{each_push}
use Rattle.mega_leased_laws.proofs.Forms.{Occurs, down, stepped}

-- whoever uses a store so that texts mean their requests
abbrev pub those_of : Usage → Users
those_of usage = record { usage = usage; fits = Unit {0} }

-- an operation begins at a node of the cluster, with a text that means its request
abbrev pub MayBegin : Cluster → Usage → ℕ → Event → Type 0
MayBegin c usage me (Begin request text) = (is_node c me ≡ true) × (usage.meaning text ≡ Some request)
MayBegin c usage me _ = Unit {0}

-- ---- where a run stands

pub record ReachedByRun (c : Cluster) (usage : Usage) (first : Meanings) (cuts : Cuts) (now : Standing) : Type 0 where
  pub events : List Happening
  pub fits : Fits usage events
  pub is : now ≡ goes_on c cuts (opening c first) events

abbrev pub run_of : (c : Cluster) (usage : Usage) (first : Meanings) (cuts : Cuts) (now : Standing) → (r : ReachedByRun c usage first cuts now) → IsRun c first r.events now.tape
run_of c usage first cuts now r = record { cuts = cuts; tape_is = ap (λ (s : Standing). s.tape) r.is }

goes_more : (c : Cluster) (cuts : Cuts) (events : List Happening) (one : Happening) (at : Standing)
    → goes_on c cuts at (events ++ one ∷ []) ≡ unless_refused (goes_on c cuts at events) (after_event c one.handlers cuts (goes_on c cuts at events) one.event) (refusal c (goes_on c cuts at events) one.event)
goes_more c cuts [] one at = refl
goes_more c cuts (event ∷ events) one at = goes_more c cuts events one (unless_refused at (after_event c event.handlers cuts at event.event) (refusal c at event.event))

pub reach_more : (c : Cluster) (usage : Usage) (first : Meanings) (cuts : Cuts) (now : Standing) → ReachedByRun c usage first cuts now → (one : Happening) → FitsOne usage one → refusal c now one.event ≡ None
    → ReachedByRun c usage first cuts (after_event c one.handlers cuts now one.event)
reach_more c usage first cuts now r one fits allowed = record {
  events = r.events ++ one ∷ [];
  fits = each_push (FitsOne usage) r.events one r.fits fits;
  is = sym (goes_more c cuts r.events one (opening c first)
      ∙ ap (λ (at : Standing). unless_refused at (after_event c one.handlers cuts at one.event) (refusal c at one.event)) (sym r.is)
      ∙ ap (unless_refused now (after_event c one.handlers cuts now one.event)) allowed);
}

-- ---- what is kept

-- what holds of a tape and its nodes
abbrev pub Shape : Type 1
Shape = List Item → (ℕ → Node) → Type 0

pub record Stays (c : Cluster) (usage : Usage) (first : Meanings) (cuts : Cuts) (Q : Shape) : Type 0 where
  pub steps : (h : Meanings) (now : Standing) (me : ℕ) (item : Item) (event : Event) → Good (those_of usage) c now → ReachedByRun c usage first cuts now
      → ReachedByRun c usage first cuts (whole_step c now me (item ∷ []) (step (setting c h me) (now.node me) event)) → is_up (now.node me).met ≡ true → MayBegin c usage me event
      → Occurs now.tape (setting c h me) (now.node me).met item event → ((nodes : ℕ → Node) → with_item c nodes now.tape item ≡ item ∷ now.tape) → Q now.tape now.node
      → Q (stepped c (set_at now.node me (step (setting c h me) (now.node me) event).node) me now.tape item (step (setting c h me) (now.node me) event)) (set_at now.node me (step (setting c h me) (now.node me) event).node)
  pub cuts_off : (h : Meanings) (now : Standing) (me : ℕ) (item : Item) (event : Event) → Good (those_of usage) c now → Occurs now.tape (setting c h me) (now.node me).met item event → Q now.tape now.node
      → Q (Crash (number me) ∷ item ∷ now.tape) (set_at now.node me (down (met_in (setting c h me) (now.node me).met event) (now.node me)))
  pub starts : (h : Meanings) (now : Standing) (me count : ℕ) → Good (those_of usage) c now → Q now.tape now.node
      → Q (with_items c (set_at now.node me (start (setting c h me) count (now.owed me) (now.node me).met)) now.tape (flat_map (shown me) (start_items (setting c h me) count (now.owed me) (now.node me).met)))
      (set_at now.node me (start (setting c h me) count (now.owed me) (now.node me).met))
  pub falls : (now : Standing) (me : ℕ) → Good (those_of usage) c now → Q now.tape now.node → Q (Crash (number me) ∷ now.tape) (set_at now.node me (crashed (now.node me)))
  pub marks : (now : Standing) (item : Item) → IsMark item → Good (those_of usage) c now → Q now.tape now.node → Q (item ∷ now.tape) now.node

module _ (c : Cluster) (usage : Usage) (first : Meanings) (cuts : Cuts) (Q : Shape) (k : Stays c usage first cuts Q) where
  abbrev At : Standing → Type 0
  At now = Q now.tape now.node

  abbrev IsGood : Standing → Type 0
  IsGood now = Good (those_of usage) c now

  abbrev Reaches : Standing → Type 0
  Reaches now = ReachedByRun c usage first cuts now

  fated_stays : (h : Meanings) (now : Standing) (me : ℕ) (item : Item) (event : Event) (fate : Fate) → IsGood now → Reaches now
      → Reaches (fated c now me (item ∷ []) (met_in (setting c h me) (now.node me).met event) (step (setting c h me) (now.node me) event) (replies_in c me (now.node me).met event) fate)
      → is_up (now.node me).met ≡ true → MayBegin c usage me event → Occurs now.tape (setting c h me) (now.node me).met item event
      → ((nodes : ℕ → Node) → with_item c nodes now.tape item ≡ item ∷ now.tape) → At now
      → At (fated c now me (item ∷ []) (met_in (setting c h me) (now.node me).met event) (step (setting c h me) (now.node me) event) (replies_in c me (now.node me).met event) fate)
  fated_stays h now me item event Whole g r then up may o plain q = subst (λ t. Q t nodes') (sym whole) (k.steps h now me item event g r then up may o plain q)
    where
      made : Step
      made = step (setting c h me) (now.node me) event

      nodes' : ℕ → Node
      nodes' = set_at now.node me made.node

      count : ℕ
      count = sent_count now.tape + 1

      whole : (whole_step c now me (item ∷ []) made).tape ≡ stepped c nodes' me now.tape item made
      whole = with_append c nodes' ((item ∷ []) ++ flat_map (shown me) made.notes) (numbered count made.sends) now.tape
          ∙ with_sent c nodes' count made.sends (with_items c nodes' now.tape ((item ∷ []) ++ flat_map (shown me) made.notes))
          ∙ ap (λ t. sent count made.sends (with_items c nodes' t (flat_map (shown me) made.notes))) (plain nodes')
  fated_stays h now me item event (CutByLog left) g r then up may o plain q =
      subst (λ t. Q (with_item c nodes' t (Crash (number me))) nodes') (sym (plain nodes')) (k.cuts_off h now me item event g o q)
    where
      nodes' : ℕ → Node
      nodes' = set_at now.node me (down (met_in (setting c h me) (now.node me).met event) (now.node me))
  fated_stays h now me item event (CutByData left) g r then up may o plain q =
      subst (λ t. Q (with_item c nodes' t (Crash (number me))) nodes') (sym (plain nodes')) (k.cuts_off h now me item event g o q)
    where
      nodes' : ℕ → Node
      nodes' = set_at now.node me (down (met_in (setting c h me) (now.node me).met event) (now.node me))

  started_stays : (h : Meanings) (now : Standing) (me : ℕ) (fate : Fate) → IsGood now → At now → At (fated_start c h now me fate)
  started_stays h now me Whole g q = k.starts h now me (now.starts me + 1) g q
  started_stays h now me (CutByLog left) g q = k.falls now me g q
  started_stays h now me (CutByData left) g q = k.falls now me g q

  -- ---- messages

  sent_if : (test : ℕ → Bool) (base n j : ℕ) → find test (range_with_len base n) ≡ Some j → (base ≤ j) × (j < base + n)
  sent_if test base zero j h = cc
  sent_if test base (suc n) j h = by (test base) refl h (λ is. sent_if test (base + 1) n j is)
    where
      here : (a b : ℕ) → Some a ≡ Some b → a ≡ b
      here a b is = cc

      by : (t : Bool) → test base ≡ t → cond t (Some base) (find test (range_with_len (base + 1) n)) ≡ Some j → (find test (range_with_len (base + 1) n) ≡ Some j → (base + 1 ≤ j) × (j < base + 1 + n)) → (base ≤ j) × (j < base + suc n)
      by true e is again = let same = here base j is in (omega (arith, same), omega (arith, same))
      by false e is again = let rest = again is in let low = rest.0 in let high = rest.1 in (omega (arith, low), omega (arith, high))

  at_most : (a b : ℕ) → a ≤ b → nat_le a b ≡ true
  at_most a b le = grind (arith, nat_tests)

  up_down : (now : Standing) (o : Option Message) → receiver_up (up now) o ≡ true → receiver_down now o ≡ false
  up_down now None h = cc
  up_down now (Some m) h = ap not h

  -- the least message that can be delivered is not refused
  not_refused : (now : Standing) (j : ℕ) → next_delivery (up now) now.tape ≡ Some j → refusal c now (Deliver j) ≡ None
  not_refused now j e = by (not (is_sent now.tape j)) (is_dropped now.tape j) (receiver_down now (message_of now.tape j)) (ap not was) (not-true (is_dropped now.tape j) (and_parts (not (is_taken now.tape j)) (not (is_dropped now.tape j)) parts.0).1) (up_down now (message_of now.tape j) parts.1)
    where
      parts : (((not (is_taken now.tape j)) && (not (is_dropped now.tape j))) ≡ true) × (receiver_up (up now) (message_of now.tape j) ≡ true)
      parts = and_parts (not (is_taken now.tape j) && not (is_dropped now.tape j)) (receiver_up (up now) (message_of now.tape j)) (found (is_deliverable (up now) now.tape) _ j e)

      range : (1 ≤ j) × (j < 1 + sent_count now.tape)
      range = sent_if (is_deliverable (up now) now.tape) 1 (sent_count now.tape) j e

      was : is_sent now.tape j ≡ true
      was = and_from (nat_le 1 j) (nat_le j (sent_count now.tape)) (at_most 1 j range.0) (at_most j (sent_count now.tape) (let less = range.1 in omega (arith, less)))

      by : (a b d : Bool) → a ≡ false → b ≡ false → d ≡ false → cond {A = Option ℕ} a (Some 3) (cond {A = Option ℕ} b (Some 4) (cond {A = Option ℕ} d (Some 1) None)) ≡ None
      by false false false ha hb hd = refl
      by true b d ha hb hd = cc
      by false true d ha hb hd = cc
      by false false true ha hb hd = cc

  took_on : (h : Meanings) (now : Standing) (j : ℕ) (o : Option Message) → message_of now.tape j ≡ o → receiver_up (up now) o ≡ true → IsGood now → Reaches now → Reaches (handed c h cuts now j o) → At now → At (handed c h cuts now j o)
  took_on h now j None is u g r then q = q
  took_on h now j (Some m) is u g r then q = fated_stays h now m.to (Taken j) (Take m) (fate_by now m.to (cuts now m.to) (calls_of c h now m.to (Take m) (step (setting c h m.to) (now.node m.to) (Take m)))) g r then u tt
      (j, refl, stands_sent now.tape j m is, refl) (λ nodes. refl) q

  -- ---- a drain is a run of deliveries

  record HoldsNow (now : Standing) : Type 0 where
    good : IsGood now
    reached : Reaches now
    held : At now

  module _ (h : Meanings) (b : Brought usage h) where
    delivers : (now : Standing) (j : ℕ) (o : Option Message) → message_of now.tape j ≡ o → receiver_down now o ≡ false → Reaches (handed c h cuts now j o) → HoldsNow now → HoldsNow (handed c h cuts now j o)
    delivers now j None is down then x = record { good = x.good; reached = then; held = x.held }
    delivers now j (Some m) is down then x = record {
      good = handed_good (those_of usage) c h (λ f. b) cuts now j (Some m) is (not-false (up now m.to) down) x.good;
      reached = then;
      held = took_on h now j (Some m) is (not-false (up now m.to) down) x.good x.reached then x.held;
    }

    delivered_kept : (now : Standing) (j : ℕ) → refusal c now (Deliver j) ≡ None → HoldsNow now → HoldsNow (delivered c h cuts now j)
    delivered_kept now j allowed x = delivers now j (message_of now.tape j) refl receiver
        (reach_more c usage first cuts now x.reached (record { handlers = h; event = Deliver j }) (record { brought = b; meant = tt }) allowed) x
      where
        receiver : receiver_down now (message_of now.tape j) ≡ false
        receiver = let second = (not_because (not (is_sent now.tape j)) 3 _ allowed).1 in let third = (not_because (is_dropped now.tape j) 4 _ second).1 in
            (not_because (receiver_down now (message_of now.tape j)) 1 None third).0

    drained_kept : (most : ℕ) (now : Standing) → HoldsNow now → HoldsNow (drained c h cuts now most)
    drained_kept zero now x = by (next_delivery (up now) now.tape) (reach_more c usage first cuts now x.reached (record { handlers = h; event = Drain 0 }) (record { brought = b; meant = tt }) refl)
      where
        by : (o : Option ℕ) → Reaches (unless_none now (λ j. marked now CutItem) o) → HoldsNow (unless_none now (λ j. marked now CutItem) o)
        by None then = x
        by (Some j) then = record {
          good = marked_good (those_of usage) c now CutItem (tape_item c now.tape CutItem tt (λ y q. refl) (λ v q. refl) (λ y. refl) tt (λ schema usage'. tt)) (λ y. refl) (λ schema usage'. tt) (λ y. refl) x.good;
          reached = then;
          held = k.marks now CutItem tt x.good x.held;
        }
    drained_kept (suc most) now x = by (next_delivery (up now) now.tape) refl (λ j. drained_kept most (delivered c h cuts now j))
      where
        by : (o : Option ℕ) → next_delivery (up now) now.tape ≡ o → ((j : ℕ) → HoldsNow (delivered c h cuts now j) → HoldsNow (drained c h cuts (delivered c h cuts now j) most))
            → HoldsNow (unless_none now (λ j. drained c h cuts (delivered c h cuts now j) most) o)
        by None e more = x
        by (Some j) e more = more j (delivered_kept now j (not_refused now j e) x)

  -- ---- events

  event_kept : (one : Happening) → FitsOne usage one → (now : Standing) → refusal c now one.event ≡ None → HoldsNow now → HoldsNow (after_event c one.handlers cuts now one.event)
  event_kept one fits now allowed x = by one.event fits.meant allowed (reach_more c usage first cuts now x.reached one fits allowed)
    where
      h : Meanings
      h = one.handlers

      b : Brought usage h
      b = fits.brought

      by : (event : WorldEvent) → IsMeant usage event → refusal c now event ≡ None → Reaches (after_event c h cuts now event) → HoldsNow (after_event c h cuts now event)
      by (TickEvent node clock) meant r then =
          let second = (not_because (not (is_node c node.0)) 6 _ r).1 in let third = (not_because (not (up now node.0)) 1 _ second).0 in record {
            good = tick_good (those_of usage) c h (λ f. b) now node.0 clock (cuts now node.0) (not-false (up now node.0) third) x.good;
            reached = then;
            held = fated_stays h now node.0 (TickItem (number node.0) clock) (Tick clock)
                (fate_by now node.0 (cuts now node.0) (calls_of c h now node.0 (Tick clock) (step (setting c h node.0) (now.node node.0) (Tick clock)))) x.good x.reached then (not-false (up now node.0) third) tt refl (λ nodes. refl) x.held;
          }
      by (Deliver j) meant r then = delivered_kept h b now j r x
      by (Drop j) meant r then = record {
        good = marked_good (those_of usage) c now (Dropped j) (tape_item c now.tape (Dropped j) tt (λ y q. refl) (λ v q. refl) (λ y. refl) tt (λ schema usage'. tt)) (λ y. refl) (λ schema usage'. tt) (λ y. refl) x.good;
        reached = then;
        held = k.marks now (Dropped j) tt x.good x.held;
      }
      by (Drain most) meant r then = drained_kept h b most now x
      by (CrashEvent node) meant r then = record { good = crashes_good (those_of usage) c now node.0 x.good; reached = then; held = k.falls now node.0 x.good x.held }
      by (StartEvent node) meant r then = record {
        good = fated_start_good (those_of usage) c h now node.0 (fate_by now node.0 (cuts now node.0) (start_calls c node.0)) x.good;
        reached = then;
        held = started_stays h now node.0 (fate_by now node.0 (cuts now node.0) (start_calls c node.0)) x.good x.held;
      }
      by (FuseEvent node calls image Log) meant r then = record { good = fused_good x.good; reached = then; held = x.held }
        where
          fused_good : IsGood now → IsGood (after_event c h cuts now (FuseEvent node calls image Log))
          fused_good g = record { lawful = g.lawful; node = g.node; starts = g.starts; polls = g.polls; written = g.written; unbegun = g.unbegun; answered = g.answered; unfailed = g.unfailed; fresh = g.fresh; unasked = g.unasked; worn = g.worn; owes = g.owes; owed = g.owed }
      by (FuseEvent node calls image Data) meant r then = record { good = fused_good x.good; reached = then; held = x.held }
        where
          fused_good : IsGood now → IsGood (after_event c h cuts now (FuseEvent node calls image Data))
          fused_good g = record { lawful = g.lawful; node = g.node; starts = g.starts; polls = g.polls; written = g.written; unbegun = g.unbegun; answered = g.answered; unfailed = g.unfailed; fresh = g.fresh; unasked = g.unasked; worn = g.worn; owes = g.owes; owed = g.owed }
      by (BeginEvent node request text) meant r then =
          let first_two = not_because (not (is_node c node.0)) 6 _ r in let third = (not_because (not (up now node.0)) 1 _ first_two.1).0 in record {
            good = begin_good (those_of usage) c h (λ f. b) now node.0 request text (cuts now node.0) (λ f. meant) (not-false (up now node.0) third) x.good;
            reached = then;
            held = fated_stays h now node.0 (BeginItem (op_of (setting c h node.0) (now.node node.0).met) text) (Begin request text)
                (fate_by now node.0 (cuts now node.0) (calls_of c h now node.0 (Begin request text) (step (setting c h node.0) (now.node node.0) (Begin request text)))) x.good x.reached then
                (not-false (up now node.0) third) (not-false (is_node c node.0) first_two.0, meant) refl (λ nodes. refl) x.held;
          }

  all_kept : (events : List Happening) (now : Standing) → Fits usage events → HoldsNow now → HoldsNow (goes_on c cuts now events)
  all_kept [] now fits x = x
  all_kept (one ∷ events) now fits x = by (refusal c now one.event) refl (λ next. all_kept events next fits.1)
    where
      by : (o : Option ℕ) → refusal c now one.event ≡ o → ((next : Standing) → HoldsNow next → HoldsNow (goes_on c cuts next events)) → HoldsNow (goes_on c cuts (unless_refused now (after_event c one.handlers cuts now one.event) o) events)
      by None r more = more (after_event c one.handlers cuts now one.event) (event_kept one fits.0 now r x)
      by (Some why) r more = more now x

  opened : (those : List ℕ) (now : Standing) → IsGood now → At now → IsGood (fold (λ at me. fated_start c first at me Whole) now those) × At (fold (λ at me. fated_start c first at me Whole) now those)
  opened [] now g q = (g, q)
  opened (me ∷ those) now g q = opened those (fated_start c first now me Whole) (start_good (those_of usage) c first now me g) (started_stays first now me Whole g q)

  -- it holds of every run
  pub run_stays : (events : List Happening) → Fits usage events → Q [] (λ me. nothing_yet.node me) → At (goes_on c cuts (opening c first) events)
  run_stays events fits q = (all_kept events (opening c first) fits (record { good = begun.0; reached = record { events = []; fits = tt; is = refl }; held = begun.1 })).held
    where
      begun : IsGood (opening c first) × At (opening c first)
      begun = opened (nodes c) nothing_yet (nothing_good (those_of usage) c) q
