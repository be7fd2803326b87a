-- Every run: each message that is sent proposes with its operation's id only what was proposed before, or what the operation made under the handlers of the event.
use Rattle.std.proofs.Common.{◌≡◌, ◌⊎◌, inl, inr, ℕ, zero, suc, ◌+◌, ◌&&◌, true, false, not, cond, List, [], ◌∷◌, ◌++◌, flat_map, fold, length, take, Option, Some, None, refl, sym, ap, ◌∙◌, subst, arith}
use Rattle.std.proofs.lemmas.Bool.{and_parts, not-false}
use Rattle.mega_base.specs.declared.names.GroupId.{GroupId}
use Rattle.mega_base.specs.declared.names.OpId.{OpId}
use Rattle.mega_base.specs.declared.names.Position.{Position}
use Rattle.mega_ballot.specs.declared.ballot.Ballot.{Ballot}
use Rattle.mega_ballot.specs.Order.{zero_ballot}
use Rattle.mega_cluster.specs.declared.cluster.Cluster.{Cluster}
use Rattle.mega_disk.specs.declared.pair.Device.TheVariants.{Log, Data}
use Rattle.mega_entry.specs.declared.content.Content.{Content}
use Rattle.mega_entry.specs.declared.content.Enter.{Enter}
use Rattle.mega_handler.specs.Named.{Meanings}
use Rattle.mega_outcome.specs.declared.request.Request.{Request}
use Rattle.mega_wire.specs.declared.message.Message.{Message}
use Rattle.mega_wire.specs.declared.message.Body.{Body}
use Rattle.mega_wire.specs.declared.message.Body.TheVariants.{Accept}
use Rattle.mega_run_laws.specs.of_tape_laws.of_schedule.declared.world_event.WorldEvent.{WorldEvent}
use Rattle.mega_run_laws.specs.of_tape_laws.of_schedule.declared.world_event.WorldEvent.TheVariants.{Tick as TickEvent, Deliver, Drop, Drain, Crash as CrashEvent, Start as StartEvent, Fuse as FuseEvent, Begin as BeginEvent}
use Rattle.mega_run_laws.specs.of_transcript.declared.item.Item.{Item}
use Rattle.mega_run_laws.specs.of_transcript.declared.item.Item.TheVariants.{Begin as BeginItem, Crash, Cut as CutItem, Dropped, Sent, Taken, Tick as TickItem}
use Rattle.mega_run_laws.specs.of_transcript.Tape.{is_sent, is_taken, sent_count}
use Rattle.mega_run_laws.specs.of_promises.Items.{number, numbered, shown}
use Rattle.mega_run_laws.specs.of_promises.Messages.{is_dropped, is_deliverable, message_of, next_delivery, receiver_up}
use Rattle.mega_run_laws.specs.of_promises.Moments.{StoodOn}
use Rattle.mega_run_laws.specs.of_promises.Promises.{Stands, handled_by}
use Rattle.mega_run_laws.specs.of_promises.Runs.{Cuts, CutByData, CutByLog, Fate, Fuse, Happening, Standing, Whole, after_event, delivered, drained, fate_by, fated, fated_start, goes_on, handed, marked, met_in, nothing_yet, opening, receiver_down, refusal, set_at, setting, start_calls, unless_none, unless_refused, up, whole_step, with_item, with_items}
use Rattle.mega_run_laws.specs.of_rules.Clock.{begun_of, start_of}
use Rattle.mega_run_laws.specs.of_rules.Logs.{decided, log_of}
use Rattle.mega_run_laws.specs.of_rules.Members.{is_node, nodes}
use Rattle.mega_run_laws.specs.of_rules.Met.{Crashes, Met}
use Rattle.mega_run_laws.specs.of_rules.Operations.{Node}
use Rattle.mega_run_laws.specs.of_rules.Queues.{oldest_unhandled}
use Rattle.mega_run_laws.specs.of_rules.Steps.{Begin, Event, Step, Take, Tick, crashed, op_of, start, start_items, step}
use Rattle.mega_run_laws.specs.of_tape_laws.Lawful.{message}
use Rattle.mega_run_laws.specs.of_tape_laws.Places.{Place, Proposes, Took, move_of, moves}
use Rattle.mega_run_laws.specs.of_tape_laws.Writes.{Knows, Usage}
use Rattle.mega_run_laws.proofs.of_tape_laws.Ballots.{number_self}
use Rattle.mega_run_laws.proofs.of_tape_laws.Lists.{in_tail}
use Rattle.mega_run_laws.specs.Justified.{Each, sent}
use Rattle.mega_run_laws.specs.Usages.{Brought, Fits, IsMeant}
use Rattle.mega_run_laws.proofs.Noted.{tape_item, with_append, with_sent}
use Rattle.mega_run_laws.proofs.Owned.{KnowsAll, front_length, knows_front}
use Rattle.mega_run_laws.proofs.Runs.{begin_good, crashes_good, fated_start_good, found, handed_good, marked_good, not_because, nothing_good, start_good, tick_good}
use Rattle.mega_run_laws.proofs.Shown.{IsSilent, notes_silent}
use Rattle.mega_run_laws.proofs.Silent.{sent_decided}
use Rattle.mega_run_laws.proofs.Standing.{Good}
use Rattle.mega_run_laws.proofs.Steps.{stands_sent}
use Rattle.mega_run_laws.proofs.Whole.{held_first}
use Rattle.mega_handled_laws.proofs.Heard.{Says, those_of}
use Rattle.mega_handled_laws.proofs.Made.{ByHandler, IsMade, IsOpened, IsProposed, SaysIt}
use Rattle.mega_handled_laws.proofs.Since.{Holds, Later, Over, Since, later_self, later_then, silent_holds, since_items, since_more, since_none, since_sent, since_then}
use Rattle.mega_handled_laws.proofs.Steps.{begin_says, logs_of, take_says, tick_says}

-- ---- a message on the tape

-- an entry is what these handlers make of the oldest message in what its operation's node decided below
pub record IsHandling (c : Cluster) (h : Meanings) (tape : List Item) (op : OpId) (group : GroupId) (n : ℕ) (e : Content) : Type 0 where
  pub message : Enter
  pub below : List Content
  pub known : Knows tape op.node.0 group below
  pub reaches : n ≡ suc (length below)
  pub oldest : oldest_unhandled below ≡ Some message
  pub is : e ≡ handled_by c.schema h group op message below

-- an operation first proposes what it made
pub record Opens (c : Cluster) (h : Meanings) (tape : List Item) (from : ℕ) (op : OpId) (group : GroupId) (n : Position) (b : Ballot) (e : Content) : Type 0 where
  pub at_zero : b ≡ zero_ballot
  pub from_is : from ≡ op.node.0
  pub made : (e.handles ≡ []) ⊎ IsHandling c h tape op group n.0 e

abbrev pub Said : Cluster → Meanings → List Item → ℕ → Body → Type 0
Said c h tape from (Accept op group n b e) = e.id ≡ Some op → IsProposed tape op (record { group = group; position = n }) e ⊎ Opens c h tape from op group n b e
Said c h tape from _ = Unit {0}

abbrev pub SaidAt : Cluster → Meanings → List Item → Message → Type 0
SaidAt c h tape m = Said c h tape m.from m.body

proposed_later : (piece tape : List Item) (op : OpId) (p : Place) (e : Content) → IsProposed tape op p e → IsProposed (piece ++ tape) op p e
proposed_later [] tape op p e h = h
proposed_later (item ∷ piece) tape op p e h =
    let rest = proposed_later piece tape op p e h in record { ballot = rest.ballot; stands = in_tail (move_of op p item) (moves (piece ++ tape) op p) (Proposes rest.ballot e) rest.stands }

pub proposed_on : (old new : List Item) (op : OpId) (p : Place) (e : Content) → Later old new → IsProposed old op p e → IsProposed new op p e
proposed_on old new op p e l h = subst (λ t. IsProposed t op p e) (sym l.is) (proposed_later l.piece old op p e h)

stands_later : (piece tape : List Item) (item : Item) → Stands item tape → Stands item (piece ++ tape)
stands_later [] tape item h = h
stands_later (x ∷ piece) tape item h = inr (stands_later piece tape item h)

pub stands_on : (old new : List Item) (item : Item) → Later old new → Stands item old → Stands item new
stands_on old new item l h = subst (Stands item) (sym l.is) (stands_later l.piece old item h)

-- what a step says of a message holds on the tape behind what the step notes
module _ (c : Cluster) (h : Meanings) (first base before : List Item) (me : ℕ) (met : List Met) (known : KnowsAll me met base) (start : Later first base) (later : Later base before) where
  handling_said : (op : OpId) (group : GroupId) (n : Position) (e : Content) → op.node.0 ≡ me → ByHandler c h (log_of met group) op group n.0 e → IsHandling c h before op group n.0 e
  handling_said op group n e node by = record {
    message = by.message;
    below = take by.below (log_of met group);
    known = subst (λ v. Knows before v group (take by.below (log_of met group))) (sym node) (knows_front before me met group by.below (λ g k d is. stands_on base before _ later (known g k d is)));
    reaches = (let size = front_length met group by.below by.within in let at = by.reaches in omega (arith, size, at));
    oldest = by.oldest;
    is = by.is;
  }

  made_said : (op : OpId) (group : GroupId) (n : Position) (e : Content) → op.node.0 ≡ me → IsMade c h (log_of met group) op group n.0 e → (e.handles ≡ []) ⊎ IsHandling c h before op group n.0 e
  made_said op group n e node (inl none) = inl none
  made_said op group n e node (inr by) = inr (handling_said op group n e node by)

  says_said : (from : ℕ) (body : Body) → SaysIt c h first (logs_of met) me from body → Said c h before from body
  says_said from (Accept op group n b e) says = λ id. by (says id)
    where
      by : IsProposed first op (record { group = group; position = n }) e ⊎ IsOpened c h (logs_of met) me from op group n b e
          → IsProposed before op (record { group = group; position = n }) e ⊎ Opens c h before from op group n b e
      by (inl was) = inl (proposed_on first before op (record { group = group; position = n }) e (later_then first base before start later) was)
      by (inr o) = inr (record { at_zero = o.at_zero; from_is = o.from_is; made = made_said op group n e o.node o.made })
  says_said from _ says = tt

-- ---- what an event leads to

-- what notes put onto a tape
silent_later : (c : Cluster) (nodes' : ℕ → Node) (items tape : List Item) → Each IsSilent items → Later tape (with_items c nodes' tape items)
silent_later c nodes' items tape each = let s = since_items (λ before m. Unit {0}) c nodes' items tape each in record { piece = s.piece; is = s.is }

module _ (c : Cluster) (usage : Usage) where
  abbrev IsGood : Standing → Type 0
  IsGood now = Good (those_of usage) c now

  -- what was sent since then was said so
  pub record Proceeds (h : Meanings) (old new : Standing) : Type 0 where
    pub good : IsGood new
    pub since : Since (SaidAt c h) old.tape new.tape

  -- ---- a step, by what fuses make of it

  module _ (h : Meanings) (now : Standing) (me : ℕ) (item : Item) (event : Event) (g : IsGood now) (silent : IsSilent item) (plain : (those : ℕ → Node) → with_item c those now.tape item ≡ item ∷ now.tape) where
    abbrev done : Step
    done = step (setting c h me) (now.node me) event

    abbrev nodes' : ℕ → Node
    nodes' = set_at now.node me done.node

    abbrev begun : List Item
    begun = item ∷ now.tape

    abbrev noted : List Item
    noted = with_items c nodes' begun (flat_map (shown me) done.notes)

    abbrev count : ℕ
    count = sent_count now.tape + 1

    abbrev end : List Item
    end = sent count done.sends noted

    whole : (whole_step c now me (item ∷ []) done).tape ≡ end
    whole = with_append c nodes' ((item ∷ []) ++ flat_map (shown me) done.notes) (numbered count done.sends) now.tape
        ∙ with_sent c nodes' count done.sends (with_items c nodes' now.tape ((item ∷ []) ++ flat_map (shown me) done.notes))
        ∙ ap (λ r. sent count done.sends (with_items c nodes' r (flat_map (shown me) done.notes))) (plain nodes')

    mine_is : set_at now.node me done.node me ≡ done.node
    mine_is = ap (λ b. cond b done.node (now.node me)) (number_self me)

    begun_since : Since (SaidAt c h) now.tape begun
    begun_since = since_more (SaidAt c h) now.tape now.tape item (since_none (SaidAt c h) now.tape) (silent_holds (SaidAt c h) now.tape item silent)

    cut_since : Since (SaidAt c h) now.tape (Crash (number me) ∷ begun)
    cut_since = since_more (SaidAt c h) now.tape begun (Crash (number me)) begun_since tt

    abbrev fallen : Node
    fallen = crashed (record { met = met_in (setting c h me) (now.node me).met event ∷ (now.node me).met; open_operations = []; stored = (now.node me).stored })

    cut_tape : with_items c (set_at now.node me fallen) now.tape ((item ∷ []) ++ shown me Crashes) ≡ Crash (number me) ∷ begun
    cut_tape = ap (λ r. with_item c (set_at now.node me fallen) r (Crash (number me))) (plain (set_at now.node me fallen))

    end_since : KnowsAll me done.node.met noted → Each (Says (setting c h me) usage begun (logs_of done.node.met)) done.sends → Since (SaidAt c h) now.tape end
    end_since known says = since_then (SaidAt c h) now.tape begun end begun_since
        (since_then (SaidAt c h) begun noted end (since_items (SaidAt c h) c nodes' (flat_map (shown me) done.notes) begun (notes_silent me done.notes))
        (since_sent (SaidAt c h) (Says (setting c h me) usage begun (logs_of done.node.met)) noted
        (λ before m later one. says_said c h begun noted before me done.node.met known (silent_later c nodes' (flat_map (shown me) done.notes) begun (notes_silent me done.notes)) later m.from m.body one)
        count done.sends noted (later_self noted) says))

    fated_proceeds : Each (Says (setting c h me) usage begun (logs_of done.node.met)) done.sends → (replies : List Message) (fate : Fate)
        → IsGood (fated c now me (item ∷ []) (met_in (setting c h me) (now.node me).met event) done replies fate) → Proceeds h now (fated c now me (item ∷ []) (met_in (setting c h me) (now.node me).met event) done replies fate)
    fated_proceeds says replies Whole g' = record { good = g'; since = subst (Since (SaidAt c h) now.tape) (sym whole) (end_since known says) }
      where
        known : KnowsAll me done.node.met noted
        known group n e d = sent_decided count done.sends noted (number me) group (record { 0 = n }) e
            (subst (Stands _) whole ((g'.node me).known group n e (ap (λ (x : Node). decided x.met group n) mine_is ∙ d)))
    fated_proceeds says replies (CutByLog left) g' = record { good = g'; since = subst (Since (SaidAt c h) now.tape) (sym cut_tape) cut_since }
    fated_proceeds says replies (CutByData left) g' = record { good = g'; since = subst (Since (SaidAt c h) now.tape) (sym cut_tape) cut_since }

  start_since : (h : Meanings) (now : Standing) (me : ℕ) (fate : Fate) → Since (SaidAt c h) now.tape (fated_start c h now me fate).tape
  start_since h now me Whole = since_items (SaidAt c h) c (set_at now.node me (start (setting c h me) (now.starts me + 1) (now.owed me) (now.node me).met))
      (flat_map (shown me) (start_items (setting c h me) (now.starts me + 1) (now.owed me) (now.node me).met)) now.tape (notes_silent me (start_items (setting c h me) (now.starts me + 1) (now.owed me) (now.node me).met))
  start_since h now me (CutByLog left) = since_more (SaidAt c h) now.tape now.tape (Crash (number me)) (since_none (SaidAt c h) now.tape) tt
  start_since h now me (CutByData left) = since_more (SaidAt c h) now.tape now.tape (Crash (number me)) (since_none (SaidAt c h) now.tape) tt

  -- ---- events

  module _ (h : Meanings) (b : Brought usage h) (cuts : Cuts) where
    proceeds_none : (now : Standing) → IsGood now → Proceeds h now now
    proceeds_none now g = record { good = g; since = since_none (SaidAt c h) now.tape }

    handed_proceeds : (now : Standing) (j : ℕ) (o : Option Message) → message_of now.tape j ≡ o → receiver_up (up now) o ≡ true → IsGood now → Proceeds h now (handed c h cuts now j o)
    handed_proceeds now j None is u g = proceeds_none now g
    handed_proceeds now j (Some m) is u g = fated_proceeds h now m.to (Taken j) (Take m) g tt (λ those. refl) says _ _ (handed_good (those_of usage) c h (λ f. b) cuts now j (Some m) is u g)
      where
        tape1 : List Item
        tape1 = Taken j ∷ now.tape

        took : Took tape1 (message m.from m.to m.body)
        took = record { number = j; sent = inr (stands_sent now.tape j m is); taken = inl refl }

        says : Each (Says (setting c h m.to) usage tape1 (logs_of (step (setting c h m.to) (now.node m.to) (Take m)).node.met)) (step (setting c h m.to) (now.node m.to) (Take m)).sends
        says = take_says (setting c h m.to) usage tape1 (tt, g.written tt) (tt, g.lawful) (now.node m.to) (start_of (now.node m.to).met) (begun_of (now.node m.to).met + 1)
            (λ group n e d. inr ((g.node m.to).known group n e d))
            (held_first (those_of usage) c now.tape tape1 m.to (now.node m.to) (λ item x. inr x) (λ x q. refl) (g.node m.to)) m took
            (record { made = (g.node m.to).made; decides = λ group n e d. inr ((g.node m.to).known group n e d) })

    delivered_proceeds : (now : Standing) (j : ℕ) (o : Option Message) → message_of now.tape j ≡ o → receiver_down now o ≡ false → IsGood now → Proceeds h now (handed c h cuts now j o)
    delivered_proceeds now j None is down g = proceeds_none now g
    delivered_proceeds now j (Some m) is down g = handed_proceeds now j (Some m) is (not-false (up now m.to) down) g

    deliverable_proceeds : (now : Standing) (j : ℕ) → next_delivery (up now) now.tape ≡ Some j → IsGood now → Proceeds h now (delivered c h cuts now j)
    deliverable_proceeds now j e g = handed_proceeds now j (message_of now.tape j) refl
        (and_parts (not (is_taken now.tape j) && not (is_dropped now.tape j)) (receiver_up (up now) (message_of now.tape j)) (found (is_deliverable (up now) now.tape) _ j e)).1 g

    cut_proceeds : (now : Standing) → IsGood now → Proceeds h now (marked now CutItem)
    cut_proceeds now g = record {
      good = marked_good (those_of usage) c now CutItem (tape_item c now.tape CutItem tt (λ y q. refl) (λ v q. refl) (λ y. refl) tt (λ schema usage'. tt)) (λ y. refl) (λ schema usage'. tt) (λ y. refl) g;
      since = since_more (SaidAt c h) now.tape now.tape CutItem (since_none (SaidAt c h) now.tape) tt;
    }

    drained_proceeds : (most : ℕ) (now : Standing) → IsGood now → Proceeds h now (drained c h cuts now most)
    drained_proceeds zero now g = by (next_delivery (up now) now.tape)
      where
        by : (o : Option ℕ) → Proceeds h now (unless_none now (λ j. marked now CutItem) o)
        by None = proceeds_none now g
        by (Some j) = cut_proceeds now g
    drained_proceeds (suc most) now g = by (next_delivery (up now) now.tape) refl (λ j. drained_proceeds most (delivered c h cuts now j))
      where
        by : (o : Option ℕ) → next_delivery (up now) now.tape ≡ o → ((j : ℕ) → IsGood (delivered c h cuts now j) → Proceeds h (delivered c h cuts now j) (drained c h cuts (delivered c h cuts now j) most))
            → Proceeds h now (unless_none now (λ j. drained c h cuts (delivered c h cuts now j) most) o)
        by None e more = proceeds_none now g
        by (Some j) e more = let one = deliverable_proceeds now j e g in let rest = more j one.good in
            record { good = rest.good; since = since_then (SaidAt c h) now.tape (delivered c h cuts now j).tape (drained c h cuts (delivered c h cuts now j) most).tape one.since rest.since }

    fused_good : (now : Standing) (log_fuse data_fuse : ℕ → Option Fuse) → IsGood now
        → IsGood (record { tape = now.tape; node = now.node; log_fuse = log_fuse; data_fuse = data_fuse; starts = now.starts; records = now.records; owed = now.owed })
    fused_good now log_fuse data_fuse g = record { lawful = g.lawful; node = g.node; starts = g.starts; polls = g.polls; written = g.written; unbegun = g.unbegun; answered = g.answered; unfailed = g.unfailed; fresh = g.fresh; unasked = g.unasked; worn = g.worn; owes = g.owes; owed = g.owed }

    ticked_proceeds : (now : Standing) (me clock : ℕ) → up now me ≡ true → IsGood now → Proceeds h now (after_event c h cuts now (TickEvent (number me) clock))
    ticked_proceeds now me clock is g = fated_proceeds h now me (TickItem (number me) clock) (Tick clock) g tt (λ those. refl)
        (tick_says (setting c h me) usage (TickItem (number me) clock ∷ now.tape) (tt, g.written tt) (tt, g.lawful) (now.node me) (start_of (now.node me).met) (begun_of (now.node me).met + 1)
        (λ group n e d. inr ((g.node me).known group n e d))
        (held_first (those_of usage) c now.tape (TickItem (number me) clock ∷ now.tape) me (now.node me) (λ item x. inr x) (λ x q. refl) (g.node me)) clock) [] _
        (tick_good (those_of usage) c h (λ f. b) now me clock (cuts now me) is g)

    begun_proceeds : (now : Standing) (me : ℕ) (request : Request) (text : List ℕ) → usage.meaning text ≡ Some request → up now me ≡ true → IsGood now → Proceeds h now (after_event c h cuts now (BeginEvent (number me) request text))
    begun_proceeds now me request text means is g = fated_proceeds h now me (BeginItem (op_of (setting c h me) (now.node me).met) text) (Begin request text) g tt (λ those. refl)
        (begin_says (setting c h me) usage (BeginItem (op_of (setting c h me) (now.node me).met) text ∷ now.tape) (now.node me) request text) [] _
        (begin_good (those_of usage) c h (λ f. b) now me request text (cuts now me) (λ f. means) is g)

    event_proceeds : (now : Standing) (event : WorldEvent) → IsMeant usage event → refusal c now event ≡ None → IsGood now → Proceeds h now (after_event c h cuts now event)
    event_proceeds now (TickEvent node clock) meant r g =
        let second = (not_because (not (is_node c node.0)) 6 _ r).1 in let third = (not_because (not (up now node.0)) 1 _ second).0 in
        ticked_proceeds now node.0 clock (not-false (up now node.0) third) g
    event_proceeds now (Deliver j) meant r g =
        let second = (not_because (not (is_sent now.tape j)) 3 _ r).1 in let third = (not_because (is_dropped now.tape j) 4 _ second).1 in
        delivered_proceeds now j (message_of now.tape j) refl (not_because (receiver_down now (message_of now.tape j)) 1 None third).0 g
    event_proceeds now (Drop j) meant r g = record {
      good = marked_good (those_of usage) c now (Dropped j) (tape_item c now.tape (Dropped j) tt (λ y q. refl) (λ v q. refl) (λ y. refl) tt (λ schema usage'. tt)) (λ y. refl) (λ schema usage'. tt) (λ y. refl) g;
      since = since_more (SaidAt c h) now.tape now.tape (Dropped j) (since_none (SaidAt c h) now.tape) tt;
    }
    event_proceeds now (Drain most) meant r g = drained_proceeds most now g
    event_proceeds now (CrashEvent node) meant r g = record {
      good = crashes_good (those_of usage) c now node.0 g;
      since = since_more (SaidAt c h) now.tape now.tape (Crash (number node.0)) (since_none (SaidAt c h) now.tape) tt;
    }
    event_proceeds now (StartEvent node) meant r g = record {
      good = fated_start_good (those_of usage) c h now node.0 (fate_by now node.0 (cuts now node.0) (start_calls c node.0)) g;
      since = start_since h now node.0 (fate_by now node.0 (cuts now node.0) (start_calls c node.0));
    }
    event_proceeds now (FuseEvent node calls image Log) meant r g = record { good = fused_good now _ _ g; since = since_none (SaidAt c h) now.tape }
    event_proceeds now (FuseEvent node calls image Data) meant r g = record { good = fused_good now _ _ g; since = since_none (SaidAt c h) now.tape }
    event_proceeds now (BeginEvent node request text) meant r g =
        let first_two = not_because (not (is_node c node.0)) 6 _ r in let third = (not_because (not (up now node.0)) 1 _ first_two.1).0 in
        begun_proceeds now node.0 request text meant (not-false (up now node.0) third) g

-- ---- runs

-- an item that stands behind a piece stands before it, or in it
split : (P : List Item → Message → Type 0) (k : ℕ) (m : Message) (before old piece later : List Item) → piece ++ old ≡ later ++ Sent k m ∷ before → Over P old piece
    → StoodOn (Sent k m) before old ⊎ ((more : List Item) × (before ≡ more ++ old) × P before m)
split P k m before old [] later is over = inl (record { later = later; is = is })
split P k m before old (item ∷ piece) [] is over =
    inr (piece, sym (tail_is item (Sent k m) (piece ++ old) before is), subst (λ t. P t m) (tail_is item (Sent k m) (piece ++ old) before is) (subst (Holds P (piece ++ old)) (head_is item (Sent k m) (piece ++ old) before is) over.0))
  where
    tail_is : (x y : Item) (xs ys : List Item) → x ∷ xs ≡ y ∷ ys → xs ≡ ys
    tail_is x y xs ys e = cc

    head_is : (x y : Item) (xs ys : List Item) → x ∷ xs ≡ y ∷ ys → x ≡ y
    head_is x y xs ys e = cc
split P k m before old (item ∷ piece) (other ∷ later) is over = split P k m before old piece later (tail_is item other (piece ++ old) (later ++ Sent k m ∷ before) is) over.1
  where
    tail_is : (x y : Item) (xs ys : List Item) → x ∷ xs ≡ y ∷ ys → xs ≡ ys
    tail_is x y xs ys e = cc

regroup_events : (a b d : List Happening) → (a ++ b) ++ d ≡ a ++ (b ++ d)
regroup_events [] b d = refl
regroup_events (x ∷ a) b d = ap (λ xs. x ∷ xs) (regroup_events a b d)

none_behind : (a : List Happening) → a ++ [] ≡ a
none_behind [] = refl
none_behind (x ∷ a) = ap (λ xs. x ∷ xs) (none_behind a)

-- a message is sent in an event: the tape before the event is a part of the one before the message, which stands on the tape behind the event
pub record IsSaid (c : Cluster) (first : Meanings) (cuts : Cuts) (events : List Happening) (before : List Item) (k : ℕ) (m : Message) : Type 0 where
  pub past : List Happening
  pub event : Happening
  pub later : List Happening
  pub are : events ≡ past ++ event ∷ later
  pub more : List Item
  pub behind : before ≡ more ++ (goes_on c cuts (opening c first) past).tape
  pub stood : StoodOn (Sent k m) before (goes_on c cuts (opening c first) (past ++ event ∷ [])).tape
  pub said : SaidAt c event.handlers before m

module _ (c : Cluster) (usage : Usage) (first : Meanings) (cuts : Cuts) where
  abbrev AllSaid : List Happening → List Item → Type 0
  AllSaid events tape = (k : ℕ) (m : Message) (before : List Item) → StoodOn (Sent k m) before tape → IsSaid c first cuts events before k m

  goes_more : (events : List Happening) (one : Happening) (at : Standing)
      → goes_on c cuts at (events ++ one ∷ []) ≡ unless_refused (goes_on c cuts at events) (after_event c one.handlers cuts (goes_on c cuts at events) one.event) (refusal c (goes_on c cuts at events) one.event)
  goes_more [] one at = refl
  goes_more (event ∷ events) one at = goes_more events one (unless_refused at (after_event c event.handlers cuts at event.event) (refusal c at event.event))

  earlier : (past : List Happening) (one : Happening) (before : List Item) (k : ℕ) (m : Message) → IsSaid c first cuts past before k m → IsSaid c first cuts (past ++ one ∷ []) before k m
  earlier past one before k m a = record {
    past = a.past;
    event = a.event;
    later = a.later ++ one ∷ [];
    are = ap (λ es. es ++ one ∷ []) a.are ∙ regroup_events a.past (a.event ∷ a.later) (one ∷ []);
    more = a.more;
    behind = a.behind;
    stood = a.stood;
    said = a.said;
  }

  -- one event more
  said_more : (past : List Happening) (one : Happening) (now next : Standing) → now ≡ goes_on c cuts (opening c first) past → next ≡ goes_on c cuts (opening c first) (past ++ one ∷ []) → Since (SaidAt c one.handlers) now.tape next.tape
      → AllSaid past now.tape → AllSaid (past ++ one ∷ []) next.tape
  said_more past one now next is then s all k m before stood = by (split (SaidAt c one.handlers) k m before now.tape s.piece stood.later (sym s.is ∙ stood.is) s.over)
    where
      by : StoodOn (Sent k m) before now.tape ⊎ ((more : List Item) × (before ≡ more ++ now.tape) × SaidAt c one.handlers before m) → IsSaid c first cuts (past ++ one ∷ []) before k m
      by (inl old) = earlier past one before k m (all k m before old)
      by (inr new) = record {
        past = past;
        event = one;
        later = [];
        are = refl;
        more = new.0;
        behind = new.1 ∙ ap (λ (at : Standing). new.0 ++ at.tape) is;
        stood = subst (λ (at : Standing). StoodOn (Sent k m) before at.tape) then stood;
        said = new.2;
      }

  all_said : (events past : List Happening) (now : Standing) → now ≡ goes_on c cuts (opening c first) past → Fits usage events → Good (those_of usage) c now → AllSaid past now.tape → AllSaid (past ++ events) (goes_on c cuts now events).tape
  all_said [] past now is fits g all = λ k m before stood. subst (λ es. IsSaid c first cuts es before k m) (sym (none_behind past)) (all k m before stood)
  all_said (one ∷ events) past now is fits g all = subst (λ es. AllSaid es (goes_on c cuts now (one ∷ events)).tape) (regroup_events past (one ∷ []) events) (by (refusal c now one.event) refl (λ next. all_said events (past ++ one ∷ []) next))
    where
      after_is : (o : Option ℕ) → refusal c now one.event ≡ o → unless_refused now (after_event c one.handlers cuts now one.event) o ≡ goes_on c cuts (opening c first) (past ++ one ∷ [])
      after_is o e = ap (unless_refused now (after_event c one.handlers cuts now one.event)) (sym e)
          ∙ ap (λ (at : Standing). unless_refused at (after_event c one.handlers cuts at one.event) (refusal c at one.event)) is ∙ sym (goes_more past one (opening c first))

      by : (o : Option ℕ) → refusal c now one.event ≡ o
          → ((next : Standing) → next ≡ goes_on c cuts (opening c first) (past ++ one ∷ []) → Fits usage events → Good (those_of usage) c next → AllSaid (past ++ one ∷ []) next.tape → AllSaid ((past ++ one ∷ []) ++ events) (goes_on c cuts next events).tape)
          → AllSaid ((past ++ one ∷ []) ++ events) (goes_on c cuts (unless_refused now (after_event c one.handlers cuts now one.event) o) events).tape
      by None e more =
          let next = after_event c one.handlers cuts now one.event in
          let proceeds = event_proceeds c usage one.handlers (fits.0).brought cuts now one.event (fits.0).meant e g in
          more next (after_is None e) fits.1 proceeds.good (said_more past one now next is (after_is None e) proceeds.since all)
      by (Some why) e more = more now (after_is (Some why) e) fits.1 g (λ k m before stood. earlier past one before k m (all k m before stood))

  -- the opening starts send nothing
  abbrev Nothing : List Item → Message → Type 0
  Nothing before m = ⊥

  start_nothing : (now : Standing) (me : ℕ) → Since Nothing now.tape (fated_start c first now me Whole).tape
  start_nothing now me = since_items Nothing c (set_at now.node me (start (setting c first me) (now.starts me + 1) (now.owed me) (now.node me).met))
      (flat_map (shown me) (start_items (setting c first me) (now.starts me + 1) (now.owed me) (now.node me).met)) now.tape (notes_silent me (start_items (setting c first me) (now.starts me + 1) (now.owed me) (now.node me).met))

  opened : (those : List ℕ) (now : Standing) → Good (those_of usage) c now → Since Nothing [] now.tape
      → Good (those_of usage) c (fold (λ at me. fated_start c first at me Whole) now those) × Since Nothing [] (fold (λ at me. fated_start c first at me Whole) now those).tape
  opened [] now g s = (g, s)
  opened (me ∷ those) now g s = opened those (fated_start c first now me Whole) (start_good (those_of usage) c first now me g) (since_then Nothing [] now.tape (fated_start c first now me Whole).tape s (start_nothing now me))

  none_stood : (item : Item) (before later : List Item) → [] ≡ later ++ item ∷ before → ⊥
  none_stood item before [] is = cc
  none_stood item before (x ∷ later) is = cc

  nothing_said : (tape : List Item) → Since Nothing [] tape → AllSaid [] tape
  nothing_said tape s k m before stood = absurd (by (split Nothing k m before [] s.piece stood.later (sym s.is ∙ stood.is) s.over))
    where
      by : StoodOn (Sent k m) before [] ⊎ ((more : List Item) × (before ≡ more ++ []) × ⊥) → ⊥
      by (inl old) = none_stood (Sent k m) before old.later old.is
      by (inr new) = new.2

  pub goes_said : (events : List Happening) → Fits usage events → AllSaid events (goes_on c cuts (opening c first) events).tape
  goes_said events fits = all_said events [] (opening c first) refl fits begun.0 (nothing_said (opening c first).tape begun.1)
    where
      begun : Good (those_of usage) c (opening c first) × Since Nothing [] (opening c first).tape
      begun = opened (nodes c) nothing_yet (nothing_good (those_of usage) c) (since_none Nothing [])
