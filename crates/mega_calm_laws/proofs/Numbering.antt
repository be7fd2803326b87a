-- In every run messages have the numbers from 1 on, and only these are taken and dropped.
use Rattle.std.proofs.Common.{◌≡◌, ℕ, zero, suc, ◌+◌, ◌≤◌, nat_le, true, not, List, [], ◌∷◌, flat_map, fold, Option, Some, None, refl, arith}
use Rattle.std.proofs.lemmas.Bool.Decides.{nat_tests}
use Rattle.std.proofs.lemmas.Bool.{not-false, and_parts}
use Rattle.mega_cluster.specs.declared.cluster.Cluster.{Cluster}
use Rattle.mega_disk.specs.declared.pair.Device.TheVariants.{Log, Data}
use Rattle.mega_handler.specs.Named.{Meanings}
use Rattle.mega_wire.specs.declared.message.Message.{Message}
use Rattle.mega_leased_laws.specs.of_run_laws.of_tape_laws.of_promises.of_schedule.declared.world_event.WorldEvent.{WorldEvent}
use Rattle.mega_leased_laws.specs.of_run_laws.of_tape_laws.of_promises.of_schedule.declared.world_event.WorldEvent.TheVariants.{Tick as TickEvent, Deliver, Drop, Drain, Crash as CrashEvent, Start as StartEvent, Fuse as FuseEvent, Begin as BeginEvent}
use Rattle.mega_leased_laws.specs.of_run_laws.of_tape_laws.of_promises.of_transcript.declared.item.Item.{Item}
use Rattle.mega_leased_laws.specs.of_run_laws.of_tape_laws.of_promises.of_transcript.declared.item.Item.TheVariants.{Begin as BeginItem, Crash, Cut as CutItem, Taken, Tick as TickItem}
use Rattle.mega_leased_laws.specs.of_run_laws.of_tape_laws.of_promises.of_transcript.Tape.{is_sent, sent_count}
use Rattle.mega_leased_laws.specs.of_run_laws.of_tape_laws.of_promises.of_rules.Members.{nodes}
use Rattle.mega_leased_laws.specs.of_run_laws.of_tape_laws.of_promises.of_rules.Met.{Met}
use Rattle.mega_leased_laws.specs.of_run_laws.of_tape_laws.of_promises.of_rules.Operations.{Node}
use Rattle.mega_leased_laws.specs.of_run_laws.of_tape_laws.of_promises.of_rules.Steps.{Begin, Event, Step, Take, Tick, crashed, op_of, start, start_items, step}
use Rattle.mega_leased_laws.specs.of_run_laws.of_tape_laws.of_promises.Items.{number, shown}
use Rattle.mega_leased_laws.specs.of_run_laws.of_tape_laws.of_promises.Messages.{message_of, next_delivery}
use Rattle.mega_leased_laws.specs.of_run_laws.of_tape_laws.of_promises.Runs.{Calls, Cuts, CutByData, CutByLog, Fate, Happening, Standing, Whole, after_event, at_node, calls_of, delivered, drained, fate_by, fated, fated_start, goes_on, handed, marked, met_in, nothing_yet, opening, refusal, replies_in, set_at, setting, start_calls, unless_none, unless_refused, up, with_item}
use Rattle.mega_calm_laws.specs.Waiting.{IsNumbered}
use Rattle.mega_leased_laws.proofs.of_run_laws.Shown.{notes_plain}
use Rattle.mega_leased_laws.proofs.of_run_laws.Runs.{not_because}
use Rattle.mega_calm_laws.proofs.Mail.{none_numbered, numbered_cut, numbered_dropped, numbered_items, numbered_plain, numbered_step, numbered_taken}
use Rattle.mega_calm_laws.proofs.Draining.{next_waits}

abbrev pub IsNumberedAt : Standing → Type 0
IsNumberedAt now = IsNumbered now.tape

sent_within : (tape : List Item) (j : ℕ) → is_sent tape j ≡ true → j ≤ sent_count tape
sent_within tape j h = most (and_parts (nat_le 1 j) (nat_le j (sent_count tape)) h).1
  where
    most : nat_le j (sent_count tape) ≡ true → j ≤ sent_count tape
    most e = grind (arith, nat_tests)

-- the nodes, where one of them crashes as it meets something
abbrev fallen : Standing → ℕ → Met → ℕ → Node
fallen now me met = set_at now.node me (crashed (record { met = met ∷ (now.node me).met; open_operations = []; stored = (now.node me).stored }))

module _ (c : Cluster) where
  fated_numbered : (now : Standing) (me : ℕ) (own : Item) (met : Met) (made : Step) (replies : List Message) (fate : Fate) → ((n : ℕ → Node) → with_item c n now.tape own ≡ own ∷ now.tape)
      → sent_count (own ∷ now.tape) ≡ sent_count now.tape → IsNumbered (own ∷ now.tape) → IsNumberedAt (fated c now me (own ∷ []) met made replies fate)
  fated_numbered now me own met made replies Whole plain count first = numbered_step c (set_at now.node me made.node) me now.tape own made.notes made.sends (plain (set_at now.node me made.node)) count first
  fated_numbered now me own met made replies (CutByLog left) plain count first = numbered_cut c (fallen now me met) me now.tape own (plain (fallen now me met)) first
  fated_numbered now me own met made replies (CutByData left) plain count first = numbered_cut c (fallen now me met) me now.tape own (plain (fallen now me met)) first

  at_node_numbered : (h : Meanings) (now : Standing) (me : ℕ) (own : Item) (event : Event) (cut : Calls → Fate) → ((n : ℕ → Node) → with_item c n now.tape own ≡ own ∷ now.tape)
      → sent_count (own ∷ now.tape) ≡ sent_count now.tape → IsNumbered (own ∷ now.tape) → IsNumberedAt (at_node c h now me (own ∷ []) event cut)
  at_node_numbered h now me own event cut plain count first =
      fated_numbered now me own (met_in (setting c h me) (now.node me).met event) (step (setting c h me) (now.node me) event) (replies_in c me (now.node me).met event)
      (fate_by now me cut (calls_of c h now me event (step (setting c h me) (now.node me) event))) plain count first

  handed_numbered : (h : Meanings) (cuts : Cuts) (now : Standing) (j : ℕ) (o : Option Message) → j ≤ sent_count now.tape → IsNumberedAt now → IsNumberedAt (handed c h cuts now j o)
  handed_numbered h cuts now j None le n = n
  handed_numbered h cuts now j (Some m) le n = at_node_numbered h now m.to (Taken j) (Take m) (cuts now m.to) (λ nodes'. refl) refl (numbered_taken j now.tape le n)

  drained_numbered : (h : Meanings) (cuts : Cuts) (most : ℕ) (now : Standing) → IsNumberedAt now → IsNumberedAt (drained c h cuts now most)
  drained_numbered h cuts zero now n = go (next_delivery (up now) now.tape)
    where
      go : (o : Option ℕ) → IsNumberedAt (unless_none now (λ j. marked now CutItem) o)
      go None = n
      go (Some j) = numbered_plain CutItem now.tape tt n
  drained_numbered h cuts (suc most) now n = go (next_delivery (up now) now.tape) refl (λ j. drained_numbered h cuts most (delivered c h cuts now j))
    where
      go : (o : Option ℕ) → next_delivery (up now) now.tape ≡ o → ((j : ℕ) → IsNumberedAt (delivered c h cuts now j) → IsNumberedAt (drained c h cuts (delivered c h cuts now j) most))
          → IsNumberedAt (unless_none now (λ j. drained c h cuts (delivered c h cuts now j) most) o)
      go None e more = n
      go (Some j) e more = more j (handed_numbered h cuts now j (message_of now.tape j) ((next_waits now j e).waits).within n)

  started_numbered : (h : Meanings) (now : Standing) (me : ℕ) (fate : Fate) → IsNumberedAt now → IsNumberedAt (fated_start c h now me fate)
  started_numbered h now me Whole n = numbered_items c (set_at now.node me (start (setting c h me) (now.starts me + 1) (now.owed me) (now.node me).met)) (flat_map (shown me) (start_items (setting c h me) (now.starts me + 1) (now.owed me) (now.node me).met)) now.tape
      (notes_plain me (start_items (setting c h me) (now.starts me + 1) (now.owed me) (now.node me).met)) n
  started_numbered h now me (CutByLog left) n = numbered_plain (Crash (number me)) now.tape tt n
  started_numbered h now me (CutByData left) n = numbered_plain (Crash (number me)) now.tape tt n

  event_numbered : (h : Meanings) (cuts : Cuts) (now : Standing) (event : WorldEvent) → refusal c now event ≡ None → IsNumberedAt now → IsNumberedAt (after_event c h cuts now event)
  event_numbered h cuts now (TickEvent node clock) r n = at_node_numbered h now node.0 (TickItem (number node.0) clock) (Tick clock) (cuts now node.0) (λ nodes'. refl) refl
      (numbered_plain (TickItem (number node.0) clock) now.tape tt n)
  event_numbered h cuts now (Deliver j) r n = handed_numbered h cuts now j (message_of now.tape j) (sent_within now.tape j (not-false (is_sent now.tape j) (not_because (not (is_sent now.tape j)) 3 _ r).0)) n
  event_numbered h cuts now (Drop j) r n = numbered_dropped j now.tape (sent_within now.tape j (not-false (is_sent now.tape j) (not_because (not (is_sent now.tape j)) 3 _ r).0)) n
  event_numbered h cuts now (Drain most) r n = drained_numbered h cuts most now n
  event_numbered h cuts now (CrashEvent node) r n = numbered_plain (Crash (number node.0)) now.tape tt n
  event_numbered h cuts now (StartEvent node) r n = started_numbered h now node.0 (fate_by now node.0 (cuts now node.0) (start_calls c node.0)) n
  event_numbered h cuts now (FuseEvent node calls image Log) r n = n
  event_numbered h cuts now (FuseEvent node calls image Data) r n = n
  event_numbered h cuts now (BeginEvent node request text) r n = at_node_numbered h now node.0 (BeginItem (op_of (setting c h node.0) (now.node node.0).met) text) (Begin request text) (cuts now node.0) (λ nodes'. refl) refl (numbered_plain (BeginItem (op_of (setting c h node.0) (now.node node.0).met) text) now.tape tt n)

  all_numbered : (cuts : Cuts) (events : List Happening) (now : Standing) → IsNumberedAt now → IsNumberedAt (goes_on c cuts now events)
  all_numbered cuts [] now n = n
  all_numbered cuts (one ∷ events) now n = all_numbered cuts events (unless_refused now (after_event c one.handlers cuts now one.event) (refusal c now one.event)) (go (refusal c now one.event) refl)
    where
      go : (o : Option ℕ) → refusal c now one.event ≡ o → IsNumberedAt (unless_refused now (after_event c one.handlers cuts now one.event) o)
      go None r = event_numbered one.handlers cuts now one.event r n
      go (Some why) r = n

  opened_numbered : (h : Meanings) (those : List ℕ) (now : Standing) → IsNumberedAt now → IsNumberedAt (fold (λ now me. fated_start c h now me Whole) now those)
  opened_numbered h [] now n = n
  opened_numbered h (me ∷ those) now n = opened_numbered h those (fated_start c h now me Whole) (started_numbered h now me Whole n)

  pub run_numbered : (cuts : Cuts) (first : Meanings) (events : List Happening) → IsNumberedAt (goes_on c cuts (opening c first) events)
  run_numbered cuts first events = all_numbered cuts events (opening c first) (opened_numbered first (nodes c) nothing_yet none_numbered)
