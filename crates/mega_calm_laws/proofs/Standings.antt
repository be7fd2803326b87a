-- Each standing of a run is good: its tape is lawful, and shows what the nodes made and decided.
use Rattle.std.proofs.Common.{◌≡◌, ℕ, zero, suc, ◌&&◌, false, not, List, [], ◌∷◌, fold, Option, Some, None, refl}
use Rattle.std.proofs.lemmas.Bool.{and_parts, not-false}
use Rattle.mega_cluster.specs.declared.cluster.Cluster.{Cluster}
use Rattle.mega_disk.specs.declared.pair.Device.TheVariants.{Log, Data}
use Rattle.mega_handler.specs.Named.{Meanings}
use Rattle.mega_wire.specs.declared.message.Message.{Message}
use Rattle.mega_leased_laws.specs.of_run_laws.of_tape_laws.of_promises.of_schedule.declared.world_event.WorldEvent.{WorldEvent}
use Rattle.mega_leased_laws.specs.of_run_laws.of_tape_laws.of_promises.of_schedule.declared.world_event.WorldEvent.TheVariants.{Tick as TickEvent, Deliver, Drop, Drain, Crash as CrashEvent, Start as StartEvent, Fuse as FuseEvent, Begin as BeginEvent}
use Rattle.mega_leased_laws.specs.of_run_laws.of_tape_laws.of_promises.of_transcript.declared.item.Item.TheVariants.{Cut as CutItem, Dropped}
use Rattle.mega_leased_laws.specs.of_run_laws.of_tape_laws.of_promises.of_transcript.Tape.{is_sent, is_taken}
use Rattle.mega_leased_laws.specs.of_run_laws.of_tape_laws.of_promises.of_rules.Members.{is_node, nodes}
use Rattle.mega_leased_laws.specs.of_run_laws.of_tape_laws.of_promises.Messages.{is_deliverable, is_dropped, message_of, next_delivery, receiver_up}
use Rattle.mega_leased_laws.specs.of_run_laws.of_tape_laws.of_promises.Runs.{Cuts, Happening, Standing, Whole, after_event, delivered, drained, fate_by, fated_start, goes_on, handed, marked, nothing_yet, opening, receiver_down, refusal, start_calls, unless_none, unless_refused, up}
use Rattle.mega_leased_laws.specs.of_run_laws.Usages.{Brought}
use Rattle.mega_leased_laws.proofs.of_run_laws.Noted.{tape_item}
use Rattle.mega_leased_laws.proofs.of_run_laws.Owned.{Users}
use Rattle.mega_leased_laws.proofs.of_run_laws.Runs.{begin_good, crashes_good, fated_start_good, found, handed_good, marked_good, not_because, nothing_good, tick_good}
use Rattle.mega_leased_laws.proofs.of_run_laws.Standing.{Good}

-- of any events, whatever was meant
abbrev pub anybody : Users
anybody = record { usage = record { meaning = λ text. None; handlers = λ moment. [] }; fits = ⊥ }

module _ (c : Cluster) where
  abbrev pub IsGood : Standing → Type 0
  IsGood now = Good anybody c now

  none_brought : (h : Meanings) → ⊥ → Brought (anybody.usage) h
  none_brought h f = absurd f

  drained_good : (h : Meanings) (cuts : Cuts) (most : ℕ) (now : Standing) → IsGood now → IsGood (drained c h cuts now most)
  drained_good h cuts zero now g = go (next_delivery (up now) now.tape)
    where
      go : (o : Option ℕ) → IsGood (unless_none now (λ j. marked now CutItem) o)
      go None = g
      go (Some j) = marked_good anybody c now CutItem (tape_item c now.tape CutItem tt (λ x q. refl) (λ v q. refl) (λ x. refl) tt (λ schema usage. tt)) (λ x. refl) (λ schema usage. tt) (λ x. refl) g
  drained_good h cuts (suc most) now g = go (next_delivery (up now) now.tape) refl (λ j. drained_good h cuts most (delivered c h cuts now j))
    where
      go : (o : Option ℕ) → next_delivery (up now) now.tape ≡ o → ((j : ℕ) → IsGood (delivered c h cuts now j) → IsGood (drained c h cuts (delivered c h cuts now j) most)) → IsGood (unless_none now (λ j. drained c h cuts (delivered c h cuts now j) most) o)
      go None e more = g
      go (Some j) e more = more j (handed_good anybody c h (none_brought h) cuts now j (message_of now.tape j) refl
          (and_parts (not (is_taken now.tape j) && not (is_dropped now.tape j)) (receiver_up (up now) (message_of now.tape j)) (found (is_deliverable (up now) now.tape) _ j e)).1 g)

  delivered_good : (h : Meanings) (cuts : Cuts) (now : Standing) (j : ℕ) (o : Option Message) → message_of now.tape j ≡ o → receiver_down now o ≡ false → IsGood now → IsGood (handed c h cuts now j o)
  delivered_good h cuts now j None is r g = g
  delivered_good h cuts now j (Some m) is r g = handed_good anybody c h (none_brought h) cuts now j (Some m) is (not-false (up now m.to) r) g

  event_good : (h : Meanings) (cuts : Cuts) (now : Standing) (event : WorldEvent) → refusal c now event ≡ None → IsGood now → IsGood (after_event c h cuts now event)
  event_good h cuts now (TickEvent node clock) r g =
      let second = (not_because (not (is_node c node.0)) 6 _ r).1 in let third = (not_because (not (up now node.0)) 1 _ second).0 in
      tick_good anybody c h (none_brought h) now node.0 clock (cuts now node.0) (not-false (up now node.0) third) g
  event_good h cuts now (Deliver j) r g =
      let second = (not_because (not (is_sent now.tape j)) 3 _ r).1 in let third = (not_because (is_dropped now.tape j) 4 _ second).1 in
      delivered_good h cuts now j (message_of now.tape j) refl (not_because (receiver_down now (message_of now.tape j)) 1 None third).0 g
  event_good h cuts now (Drop j) r g = marked_good anybody c now (Dropped j) (tape_item c now.tape (Dropped j) tt (λ x q. refl) (λ v q. refl) (λ x. refl) tt (λ schema usage. tt)) (λ x. refl) (λ schema usage. tt) (λ x. refl) g
  event_good h cuts now (Drain most) r g = drained_good h cuts most now g
  event_good h cuts now (CrashEvent node) r g = crashes_good anybody c now node.0 g
  event_good h cuts now (StartEvent node) r g = fated_start_good anybody c h now node.0 (fate_by now node.0 (cuts now node.0) (start_calls c node.0)) g
  event_good h cuts now (FuseEvent node calls image Log) r g = record { lawful = g.lawful; node = g.node; starts = g.starts; polls = g.polls; written = g.written; unbegun = g.unbegun; answered = g.answered; unfailed = g.unfailed; fresh = g.fresh; unasked = g.unasked; worn = g.worn; owes = g.owes; owed = g.owed }
  event_good h cuts now (FuseEvent node calls image Data) r g = record { lawful = g.lawful; node = g.node; starts = g.starts; polls = g.polls; written = g.written; unbegun = g.unbegun; answered = g.answered; unfailed = g.unfailed; fresh = g.fresh; unasked = g.unasked; worn = g.worn; owes = g.owes; owed = g.owed }
  event_good h cuts now (BeginEvent node request text) r g =
      let second = (not_because (not (is_node c node.0)) 6 _ r).1 in let third = (not_because (not (up now node.0)) 1 _ second).0 in
      begin_good anybody c h (none_brought h) now node.0 request text (cuts now node.0) (λ f. absurd f) (not-false (up now node.0) third) g

  all_good : (cuts : Cuts) (events : List Happening) (now : Standing) → IsGood now → IsGood (goes_on c cuts now events)
  all_good cuts [] now g = g
  all_good cuts (one ∷ events) now g = all_good cuts events (unless_refused now (after_event c one.handlers cuts now one.event) (refusal c now one.event)) (go (refusal c now one.event) refl)
    where
      go : (o : Option ℕ) → refusal c now one.event ≡ o → IsGood (unless_refused now (after_event c one.handlers cuts now one.event) o)
      go None r = event_good one.handlers cuts now one.event r g
      go (Some why) r = g

  opened_good : (h : Meanings) (those : List ℕ) (now : Standing) → IsGood now → IsGood (fold (λ now me. fated_start c h now me Whole) now those)
  opened_good h [] now g = g
  opened_good h (me ∷ those) now g = opened_good h those (fated_start c h now me Whole) (fated_start_good anybody c h now me Whole g)

  pub run_good : (cuts : Cuts) (first : Meanings) (events : List Happening) → IsGood (goes_on c cuts (opening c first) events)
  run_good cuts first events = all_good cuts events (opening c first) (opened_good first (nodes c) nothing_yet (nothing_good anybody c))
