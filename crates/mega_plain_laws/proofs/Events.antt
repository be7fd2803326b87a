-- Every run stays of the format.
use Rattle.std.proofs.Common.{◌≡◌, ℕ, zero, suc, ◌+◌, ◌≤◌, ◌&&◌, nat_le, Bool, true, false, not, cond, List, [], ◌∷◌, fold, length, Option, Some, None, refl, sym, subst, arith}
use Rattle.std.specs.Prelude.{find}
use Rattle.std.specs.List.{range_with_len}
use Rattle.std.proofs.lemmas.Bool.Decides.{nat_tests}
use Rattle.std.proofs.lemmas.Bool.{and_parts, not-false}
use Rattle.mega_cluster.specs.declared.cluster.Cluster.{Cluster}
use Rattle.mega_disk.specs.declared.pair.Device.TheVariants.{Log, Data}
use Rattle.mega_handler.specs.Named.{Meanings}
use Rattle.mega_wire.specs.declared.message.Message.{Message}
use Rattle.mega_schedule.specs.declared.world_event.WorldEvent.{WorldEvent}
use Rattle.mega_schedule.specs.declared.world_event.WorldEvent.TheVariants.{Tick as TickEvent, Deliver, Drop, Drain, Crash as CrashEvent, Start as StartEvent, Fuse as FuseEvent, Begin as BeginEvent}
use Rattle.mega_transcript.specs.declared.item.Item.{Item}
use Rattle.mega_transcript.specs.declared.item.Item.TheVariants.{Taken, Dropped, Cut as CutItem}
use Rattle.mega_transcript.specs.Tape.{is_sent, is_taken}
use Rattle.mega_rules.specs.Members.{is_node, nodes}
use Rattle.mega_rules.specs.Met.{Begins, Ticks}
use Rattle.mega_rules.specs.Steps.{Begin, Take, Tick, op_of}
use Rattle.mega_promises.specs.Items.{shown}
use Rattle.mega_promises.specs.Messages.{is_deliverable, is_dropped, message_of, next_delivery, receiver_up}
use Rattle.mega_promises.specs.Runs.{Cuts, Happening, IsRun, Standing, Whole, after_event, because, delivered, drained, fate_by, fated_start, goes_on, handed, marked, nothing_yet, opening, receiver_down, refusal, setting, start_calls, unless_none, unless_refused, up}
use Rattle.mega_format_laws.specs.Histories.{IsCluster}
use Rattle.mega_format_laws.specs.Requests.{AreHandlers}
use Rattle.mega_format_laws.specs.Rounds.{Each}
use Rattle.mega_plain_laws.specs.Formed.{AreFormed, IsAsked, IsSpelled}
use Rattle.mega_field_ranges.specs.Held.{HoldsItem}
use Rattle.mega_plain_laws.proofs.Showing.{message_formed}
use Rattle.mega_plain_laws.proofs.Forming.{Formed, at_back, at_formed, crash_reached, start_reached}

-- of the format, where its tape is held
abbrev pub FormedIfHeld : Cluster → Standing → Type 0
FormedIfHeld c now = Each HoldsItem now.tape → Formed c now

marked_reached : (c : Cluster) (now : Standing) (item : Item) → IsSpelled c.schema item → FormedIfHeld c now → FormedIfHeld c (marked now item)
marked_reached c now item is reached held = let f = reached held.1 in record { nodes = f.nodes; marks = f.marks; owed = f.owed; members = f.members; items = (is, f.items) }

-- a delivery to a node that is up
handed_reached : (c : Cluster) (h : Meanings) (cuts : Cuts) (now : Standing) (j : ℕ) (o : Option Message) → IsCluster c → AreHandlers h → message_of now.tape j ≡ o → receiver_up (up now) o ≡ true → FormedIfHeld c now → FormedIfHeld c (handed c h cuts now j o)
handed_reached c h cuts now j None cluster handlers is receives reached = reached
handed_reached c h cuts now j (Some m) cluster handlers is receives reached = λ held.
    let f = reached (at_back HoldsItem c h now m.to (Taken j ∷ []) (Take m) (cuts now m.to) held) in
    at_formed c h now m.to (Taken j ∷ []) (Take m) (cuts now m.to) cluster handlers f (f.members m.to receives) (message_formed c.schema now.tape j m f.items is) (tt, tt)

some_same : (x y : ℕ) → Some x ≡ Some y → x ≡ y
some_same x y h = cc

found : (test : ℕ → Bool) (xs : List ℕ) (j : ℕ) → find test xs ≡ Some j → test j ≡ true
found test [] j h = cc
found test (x ∷ xs) j h = go (test x) refl h (found test xs j)
  where
    go : (t : Bool) → test x ≡ t → cond t (Some x) (find test xs) ≡ Some j → (find test xs ≡ Some j → test j ≡ true) → test j ≡ true
    go true e k again = subst (λ y. test y ≡ true) (some_same x j k) e
    go false e k again = again k

deliverable_reached : (c : Cluster) (h : Meanings) (cuts : Cuts) (now : Standing) (j : ℕ) → IsCluster c → AreHandlers h → next_delivery (up now) now.tape ≡ Some j → FormedIfHeld c now → FormedIfHeld c (delivered c h cuts now j)
deliverable_reached c h cuts now j cluster handlers e reached =
    handed_reached c h cuts now j (message_of now.tape j) cluster handlers refl
    (and_parts (not (is_taken now.tape j) && not (is_dropped now.tape j)) (receiver_up (up now) (message_of now.tape j)) (found (is_deliverable (up now) now.tape) _ j e)).1 reached

drained_reached : (c : Cluster) (h : Meanings) (cuts : Cuts) (most : ℕ) (now : Standing) → IsCluster c → AreHandlers h → FormedIfHeld c now → FormedIfHeld c (drained c h cuts now most)
drained_reached c h cuts zero now cluster handlers reached = go (next_delivery (up now) now.tape)
  where
    go : (o : Option ℕ) → FormedIfHeld c (unless_none now (λ j. marked now CutItem) o)
    go None = reached
    go (Some j) = marked_reached c now CutItem tt reached
drained_reached c h cuts (suc most) now cluster handlers reached = go (next_delivery (up now) now.tape) refl (λ j. drained_reached c h cuts most (delivered c h cuts now j) cluster handlers)
  where
    go : (o : Option ℕ) → next_delivery (up now) now.tape ≡ o → ((j : ℕ) → FormedIfHeld c (delivered c h cuts now j) → FormedIfHeld c (drained c h cuts (delivered c h cuts now j) most))
        → FormedIfHeld c (unless_none now (λ j. drained c h cuts (delivered c h cuts now j) most) o)
    go None e more = reached
    go (Some j) e more = more j (deliverable_reached c h cuts now j cluster handlers e reached)

not_because : (t : Bool) (why : ℕ) (other : Option ℕ) → because t why other ≡ None → (t ≡ false) × (other ≡ None)
not_because true why other h = cc
not_because false why other h = (refl, h)

delivered_reached : (c : Cluster) (h : Meanings) (cuts : Cuts) (now : Standing) (j : ℕ) (o : Option Message) → IsCluster c → AreHandlers h → message_of now.tape j ≡ o → receiver_down now o ≡ false → FormedIfHeld c now → FormedIfHeld c (handed c h cuts now j o)
delivered_reached c h cuts now j None cluster handlers is r reached = reached
delivered_reached c h cuts now j (Some m) cluster handlers is r reached = handed_reached c h cuts now j (Some m) cluster handlers is (not-false (up now m.to) r) reached

event_reached : (c : Cluster) (h : Meanings) (cuts : Cuts) (now : Standing) (event : WorldEvent) → IsCluster c → AreHandlers h → IsAsked event → refusal c now event ≡ None → FormedIfHeld c now → FormedIfHeld c (after_event c h cuts now event)
event_reached c h cuts now (TickEvent node clock) cluster handlers asked r reached = λ held.
    let first = not_because (not (is_node c node.0)) 6 _ r in
    at_formed c h now node.0 (shown node.0 (Ticks clock)) (Tick clock) (cuts now node.0) cluster handlers (reached (at_back HoldsItem c h now node.0 (shown node.0 (Ticks clock)) (Tick clock) (cuts now node.0) held)) (not-false (is_node c node.0) first.0) asked (tt, tt)
event_reached c h cuts now (Deliver j) cluster handlers asked r reached =
    let second = (not_because (not (is_sent now.tape j)) 3 _ r).1 in let third = (not_because (is_dropped now.tape j) 4 _ second).1 in
    delivered_reached c h cuts now j (message_of now.tape j) cluster handlers refl (not_because (receiver_down now (message_of now.tape j)) 1 None third).0 reached
event_reached c h cuts now (Drop j) cluster handlers asked r reached = marked_reached c now (Dropped j) tt reached
event_reached c h cuts now (Drain most) cluster handlers asked r reached = drained_reached c h cuts most now cluster handlers reached
event_reached c h cuts now (CrashEvent node) cluster handlers asked r reached = λ held. crash_reached c now node.0 (reached held.1)
event_reached c h cuts now (StartEvent node) cluster handlers asked r reached =
    let first = not_because (not (is_node c node.0)) 6 _ r in
    start_reached c h now node.0 (fate_by now node.0 (cuts now node.0) (start_calls c node.0)) (not-false (is_node c node.0) first.0) reached
event_reached c h cuts now (FuseEvent node calls image Log) cluster handlers asked r reached = λ held. let f = reached held in record { nodes = f.nodes; marks = f.marks; owed = f.owed; members = f.members; items = f.items }
event_reached c h cuts now (FuseEvent node calls image Data) cluster handlers asked r reached = λ held. let f = reached held in record { nodes = f.nodes; marks = f.marks; owed = f.owed; members = f.members; items = f.items }
event_reached c h cuts now (BeginEvent node request text) cluster handlers asked r reached = λ held.
    let first = not_because (not (is_node c node.0)) 6 _ r in
    at_formed c h now node.0 (shown node.0 (Begins (op_of (setting c h node.0) (now.node node.0).met) text)) (Begin request text) (cuts now node.0) cluster handlers
    (reached (at_back HoldsItem c h now node.0 (shown node.0 (Begins (op_of (setting c h node.0) (now.node node.0).met) text)) (Begin request text) (cuts now node.0) held)) (not-false (is_node c node.0) first.0) asked.0 (asked.1, tt)

events_reached : (c : Cluster) (cuts : Cuts) (events : List Happening) (now : Standing) → IsCluster c → AreFormed events → FormedIfHeld c now → FormedIfHeld c (goes_on c cuts now events)
events_reached c cuts [] now cluster formed reached = reached
events_reached c cuts (one ∷ events) now cluster formed reached =
    events_reached c cuts events (unless_refused now (after_event c one.handlers cuts now one.event) (refusal c now one.event)) cluster formed.1 (go (refusal c now one.event) refl)
  where
    go : (o : Option ℕ) → refusal c now one.event ≡ o → FormedIfHeld c (unless_refused now (after_event c one.handlers cuts now one.event) o)
    go None r = event_reached c one.handlers cuts now one.event cluster (formed.0).handlers (formed.0).asked r reached
    go (Some why) r = reached

nothing_reached : (c : Cluster) → FormedIfHeld c nothing_yet
nothing_reached c held = record {
  nodes = λ me. record { met = tt; open_operations = tt };
  marks = λ me. refl;
  owed = λ me. tt;
  members = λ me up. cc;
  items = tt;
}

opened_reached : (c : Cluster) (h : Meanings) (those : List ℕ) (now : Standing) → Each (λ me. is_node c me ≡ true) those → FormedIfHeld c now → FormedIfHeld c (fold (λ now me. fated_start c h now me Whole) now those)
opened_reached c h [] now members reached = reached
opened_reached c h (me ∷ those) now members reached = opened_reached c h those (fated_start c h now me Whole) members.1 (start_reached c h now me Whole members.0 reached)

both_le : (a k : ℕ) → 1 ≤ a → a ≤ k → (nat_le 1 a && nat_le a k) ≡ true
both_le a k low high = grind (arith, nat_tests)

each_member : (c : Cluster) (a n : ℕ) → 1 ≤ a → a + n ≤ length c.nodes + 1 → Each (λ me. is_node c me ≡ true) (range_with_len a n)
each_member c a zero low high = tt
each_member c a (suc n) low high = (both_le a (length c.nodes) low (omega (arith, high)), each_member c (a + 1) n (omega (arith, low)) (omega (arith, high)))

pub run_reached : (c : Cluster) (first : Meanings) (events : List Happening) (cuts : Cuts) → IsCluster c → AreFormed events → FormedIfHeld c (goes_on c cuts (opening c first) events)
run_reached c first events cuts cluster formed =
    events_reached c cuts events (opening c first) cluster formed
    (opened_reached c first (nodes c) nothing_yet (each_member c 1 (length c.nodes) (omega arith) (omega arith)) (nothing_reached c))

pub run_spelled : (c : Cluster) (first : Meanings) (events : List Happening) (tape : List Item) → IsCluster c → AreFormed events → IsRun c first events tape → Each HoldsItem tape → Each (IsSpelled c.schema) tape
run_spelled c first events tape cluster formed run held =
    subst (Each (IsSpelled c.schema)) (sym run.tape_is) (run_reached c first events run.cuts cluster formed (subst (Each HoldsItem) run.tape_is held)).items
