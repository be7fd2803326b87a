-- Every run tells of each node what its life tells, in which each start makes it anew from its journal.
use Rattle.std.proofs.Common.{◌≡◌, ℕ, zero, suc, ◌+◌, ◌==◌, ◌&&◌, ◌≤◌, min, Bool, true, false, not, cond, List, [], ◌∷◌, ◌++◌, filter, filter_map, flat_map, find, fold, length, map, reverse, Option, Some, None, refl, sym, ap, subst, ◌∙◌, arith}
use Rattle.std.specs.Prelude.{option_map}
use Rattle.std.specs.List.{All}
use Rattle.std.proofs.lemmas.Bool.Decides.{nat_tests}
use Rattle.std.proofs.lemmas.List.Elements.{All-append, All-cons, All-head, All-nil, All-tail, All-weaker}
use Rattle.std.proofs.lemmas.Bool.{and_parts, not-false}
use Rattle.mega_cluster.specs.declared.cluster.Cluster.{Cluster}
use Rattle.mega_disk.specs.declared.pair.Device.TheVariants.{Data, Log}
use Rattle.mega_handler.specs.Named.{Meanings}
use Rattle.mega_wire.specs.declared.message.Message.{Message}
use Rattle.mega_schedule.specs.declared.world_event.WorldEvent.{WorldEvent}
use Rattle.mega_schedule.specs.declared.world_event.WorldEvent.TheVariants.{Begin as BeginEvent, Crash as CrashEvent, Deliver, Drain, Drop, Fuse as FuseEvent, Start as StartEvent, Tick as TickEvent}
use Rattle.mega_transcript.specs.declared.item.Item.{Item}
use Rattle.mega_transcript.specs.declared.item.Item.TheVariants.{Begin as BeginItem, Crash, Cut as CutItem, Dropped, Sent, Start as StartItem, Taken, Tick as TickItem, Unsafe}
use Rattle.mega_transcript.specs.Tape.{is_sent, is_taken, sent_count}
use Rattle.mega_wal.specs.History.{starts_of}
use Rattle.mega_wal.specs.declared.item.JournalItem.TheVariants.{Start as Started}
use Rattle.mega_rules.specs.Met.{Met, Begins, Crashes, Sends, Starts, Takes, Ticks, Unsends}
use Rattle.mega_rules.specs.Clock.{is_up}
use Rattle.mega_rules.specs.Members.{is_node, nodes}
use Rattle.mega_rules.specs.Operations.{Node, Setting}
use Rattle.mega_rules.specs.Steps.{Begin, Event, Step, Take, Tick, crashed, onto, op_of, start, start_items, start_notes, step}
use Rattle.mega_promises.specs.Items.{number, numbered, shown}
use Rattle.mega_promises.specs.Messages.{is_deliverable, is_dropped, message_of, next_delivery, receiver_up}
use Rattle.mega_promises.specs.NodeRuns.{met_of}
use Rattle.mega_promises.specs.Runs.{breaks, is_durable, with_item, Calls, CutByData, CutByLog, Cuts, Fate, Happening, IsRun, Standing, Whole, after_event, at_node, because, calls_of, crashes, delivered, drained, fate_by, fated, fated_start, goes_on, handed, is_kept, marked, met_in, nothing_yet, opening, owes, receiver_down, refusal, replies_in, set_at, setting, start_calls, unless_none, unless_refused, up, whole_start, whole_step, with_items}
use Rattle.mega_promises.specs.Served.{kept_of, kept_of_body, kept_of_note}
use Rattle.mega_served_laws.specs.Alike.{KeptAlike}
use Rattle.mega_served_laws.specs.Lives.{AreOfNine, is_of_nine, receiver, Befalls, Does, FailsToStart, Falls, FallsIn, IsLife, Life, StartsUp, actor, lived, told_by, told_of}
use Rattle.mega_served_laws.proofs.Alike.{Scope, kept_onto, kept_back, kept_self, kept_then}
use Rattle.mega_served_laws.proofs.Keeping.{starts_kept, step_kept, unkept}
use Rattle.mega_served_laws.proofs.Notes.{IsNote, start_noted, step_fair}
use Rattle.mega_served_laws.proofs.Starting.{notes_unkept}
use Rattle.mega_served_laws.proofs.Owed.{owed_on, owes_kept}
use Rattle.mega_served_laws.proofs.Opened.{among_nine, notes_same, opened_alike, start_met, start_opens}
use Rattle.mega_leases.specs.Opening.{AreOwed}
use Rattle.mega_durable.specs.Granted.{KeepsGrants}
use Rattle.mega_durable.proofs.Owing.{cut_owed, start_keeps, step_keeps}
use Rattle.mega_node_laws.specs.Acted.{own_item}
use Rattle.mega_node_laws.proofs.Ending.{onto_append}
use Rattle.mega_wire.specs.declared.message.Body.{Body}
use Rattle.mega_wire.specs.declared.message.Body.TheVariants.{Acquire, Dead}
use Rattle.mega_promises.specs.Messages.{is_unsafe}
use Rattle.mega_served_laws.proofs.Steps.{IsNear, IsNearEvent, NodeAlike, StepAlike, op_same, reply_alike, step_alike}
use Rattle.mega_served_laws.proofs.Telling.{IsShown, Tells, line_tells, mark_tells, notes_tell, sends_tell, then_tells, with_append}

-- ---- numbers and sets

number_self : (v : ℕ) → (v == v) ≡ true
number_self v = grind (arith, nat_tests)

number_is : (u v : ℕ) → (u == v) ≡ true → u ≡ v
number_is u v e = grind (arith, nat_tests)

at_self : {X : Type 0} (f : ℕ → X) (u : ℕ) (x : X) → set_at f u x u ≡ x
at_self f u x = ap (λ t. cond t x (f u)) (number_self u)

at_other : {X : Type 0} (f : ℕ → X) (u : ℕ) (x : X) (v : ℕ) → (u == v) ≡ false → set_at f u x v ≡ f v
at_other f u x v e = ap (λ t. cond t x (f v)) e

-- ---- the record of a step that is cut is kept, or lost

abbrev keeps : Fate → Bool
keeps Whole = false
keeps (CutByLog left) = is_kept left
keeps (CutByData left) = false

-- ---- what holds of a node at each moment of a run

pub record Lives (c : Cluster) (v : ℕ) (now : Standing) : Type 0 where
  pub least : 1 ≤ v
  pub befalls : List Befalls
  pub told : told_of v now.tape ≡ (lived c v befalls).told
  pub starts : starts_of (lived c v befalls).journal ≡ now.starts v
  pub owed : now.owed v ≡ (lived c v befalls).owed
  pub kept : KeptAlike (onto (now.owed v) (now.node v).met) (met_of v (lived c v befalls).journal)
  pub owing : AreOwed (now.owed v) (now.node v).met
  pub none : is_up (now.node v).met ≡ true → now.owed v ≡ []
  pub grants : is_up (now.node v).met ≡ true → KeepsGrants c v (now.node v).met
  pub node : is_up (now.node v).met ≡ true → NodeAlike among_nine c v (now.node v) (lived c v befalls).node

-- nothing of it changed
same_lives : (c : Cluster) (v : ℕ) (now next : Standing) → told_of v next.tape ≡ told_of v now.tape → next.node v ≡ now.node v → next.starts v ≡ now.starts v → next.owed v ≡ now.owed v → Lives c v now → Lives c v next
same_lives c v now next tells node starts owed h = record {
  least = h.least;
  befalls = h.befalls;
  told = tells ∙ h.told;
  starts = h.starts ∙ sym starts;
  owed = owed ∙ h.owed;
  kept = coe 0 1 (i. KeptAlike (onto (sym owed i) (sym node i).met) (met_of v (lived c v h.befalls).journal)) h.kept;
  owing = coe 0 1 (i. AreOwed (sym owed i) (sym node i).met) h.owing;
  none = coe 0 1 (i. is_up (sym node i).met ≡ true → sym owed i ≡ []) h.none;
  grants = coe 0 1 (i. is_up (sym node i).met ≡ true → KeepsGrants c v (sym node i).met) h.grants;
  node = coe 0 1 (i. is_up (sym node i).met ≡ true → NodeAlike among_nine c v (sym node i) (lived c v h.befalls).node) h.node;
}

-- a node's own lines change what holds of it, and of no other
either_lives : (c : Cluster) (v u : ℕ) (now next : Standing) (f : List Met → List Met) → Tells v u now.tape next.tape f
    → ((u == v) ≡ false → next.node v ≡ now.node v) → ((u == v) ≡ false → next.starts v ≡ now.starts v) → ((u == v) ≡ false → next.owed v ≡ now.owed v)
    → ((u == v) ≡ true → Lives c v next) → Lives c v now → Lives c v next
either_lives c v u now next f tells node starts owed own h = by (u == v) refl
  where
    by : (t : Bool) → (u == v) ≡ t → Lives c v next
    by true e = own e
    by false e = same_lives c v now next (tells.told ∙ ap (λ t. cond t (f (told_of v now.tape)) (told_of v now.tape)) e) (node e) (starts e) (owed e) h

-- ---- a step

-- the line of an event
pub record Own (tape : List Item) (u : ℕ) (item : Item) (own : Met) : Type 0 where
  pub plain : (c : Cluster) (nodes : ℕ → Node) → with_items c nodes tape (item ∷ []) ≡ item ∷ tape
  pub actor_is : actor (item ∷ tape) ≡ u
  pub tells : told_by tape item ≡ Some own

note_shown : (one : Met) → IsNote one → IsShown one
note_shown (Takes message) is = absurd (cc)
note_shown (Sends message) is = absurd (cc)
note_shown (Begins op text) is = absurd (cc)
note_shown _ is = refl

pub own_same : (w : Scope) (s : Setting) (a b : Node) (event : Event) → NodeAlike w s.cluster s.me a b → met_in s a.met event ≡ met_in s b.met event
own_same w s a b (Tick now) h = refl
own_same w s a b (Take m) h = refl
own_same w s a b (Begin request text) h = ap (λ op. Begins op text) (op_same w s a.met b.met h.met)

pub own_is : (s : Setting) (node : Node) (event : Event) → own_item s node event ≡ met_in s node.met event
own_is s node (Tick now) = refl
own_is s node (Take m) = refl
own_is s node (Begin request text) = refl

replies_same : (s : Setting) (a b : Node) (event : Event) → NodeAlike among_nine s.cluster s.me a b → IsNearEvent among_nine event → replies_in s.cluster s.me a.met event ≡ replies_in s.cluster s.me b.met event
replies_same s a b (Tick now) h near = refl
replies_same s a b (Begin request text) h near = refl
replies_same s a b (Take m) h near = reply_alike among_nine s.cluster s.me a.met b.met m h.met near

module _ (c : Cluster) (v : ℕ) where
  whole_tells : (now : Standing) (u : ℕ) (item : Item) (own : Met) (made : Step) → Own now.tape u item own → All IsNote made.notes
      → Tells v u now.tape (whole_step c now u (item ∷ []) made).tape (λ met. onto (map Sends made.sends) (onto made.notes (own ∷ met)))
  whole_tells now u item own made o noted =
      subst (λ tape. Tells v u now.tape tape (λ met. onto (map Sends made.sends) (onto made.notes (own ∷ met)))) (sym whole)
      (then_tells v u now.tape mid _ (λ met. onto made.notes (own ∷ met)) (onto (map Sends made.sends))
      (then_tells v u now.tape (item ∷ now.tape) mid (λ met. own ∷ met) (onto made.notes) (line_tells v u now.tape item own o.actor_is o.tells)
      (notes_tell c nodes' v u made.notes (item ∷ now.tape) shown_notes o.actor_is))
      (sends_tell c nodes' v u (sent_count now.tape + 1) made.sends mid (notes_tell c nodes' v u made.notes (item ∷ now.tape) shown_notes o.actor_is).actor_is))
    where
      nodes' : ℕ → Node
      nodes' = set_at now.node u made.node

      mid : List Item
      mid = with_items c nodes' (item ∷ now.tape) (flat_map (shown u) made.notes)

      shown_notes : All IsShown made.notes
      shown_notes = All-weaker IsNote IsShown note_shown made.notes noted

      whole : (whole_step c now u (item ∷ []) made).tape ≡ with_items c nodes' mid (numbered (sent_count now.tape + 1) made.sends)
      whole = with_append c nodes' ((item ∷ []) ++ flat_map (shown u) made.notes) (numbered (sent_count now.tape + 1) made.sends) now.tape
          ∙ ap (λ tape. with_items c nodes' tape (numbered (sent_count now.tape + 1) made.sends)) (with_append c nodes' (item ∷ []) (flat_map (shown u) made.notes) now.tape)
          ∙ ap (λ tape. with_items c nodes' (with_items c nodes' tape (flat_map (shown u) made.notes)) (numbered (sent_count now.tape + 1) made.sends)) (o.plain c nodes')

  -- a step that is cut shows its event and the crash
  cut_tells : (now : Standing) (u : ℕ) (item : Item) (own : Met) (nodes' : ℕ → Node) → Own now.tape u item own
      → Tells v u now.tape (with_items c nodes' now.tape ((item ∷ []) ++ shown u Crashes)) (λ met. Crashes ∷ own ∷ met)
  cut_tells now u item own nodes' o =
      subst (λ tape. Tells v u now.tape tape (λ met. Crashes ∷ own ∷ met)) (sym (with_append c nodes' (item ∷ []) (shown u Crashes) now.tape ∙ ap (λ tape. with_items c nodes' tape (shown u Crashes)) (o.plain c nodes')))
      (then_tells v u now.tape (item ∷ now.tape) _ (λ met. own ∷ met) (λ met. Crashes ∷ met) (line_tells v u now.tape item own o.actor_is o.tells)
      (line_tells v u (item ∷ now.tape) (Crash (number u)) Crashes refl refl))

told_self : (u : ℕ) (old new : List Item) (f : List Met → List Met) → Tells u u old new f → told_of u new ≡ f (told_of u old)
told_self u old new f tells = tells.told ∙ ap (λ t. cond t (f (told_of u old)) (told_of u old)) (number_self u)

module _ (c : Cluster) (h : Meanings) (now : Standing) (u : ℕ) (item : Item) (event : Event) (near : IsNearEvent among_nine event) (lives : Lives c u now) (is_there : is_up (now.node u).met ≡ true) where
  abbrev s : Setting
  s = setting c h u

  abbrev life : Life
  life = lived c u lives.befalls

  abbrev made : Step
  made = step s (now.node u) event

  abbrev made' : Step
  made' = step s life.node event

  abbrev replies : List Message
  replies = replies_in c u (now.node u).met event

  -- as it falls in its step
  abbrev fallen : Node
  fallen = crashed (record { met = met_in s (now.node u).met event ∷ (now.node u).met; open_operations = []; stored = (now.node u).stored })

  alike : StepAlike among_nine c u made made'
  alike = step_alike among_nine s (now.node u) life.node (lives.node is_there) event near

  kept_is : kept_of made ≡ kept_of made'
  kept_is = λ i. filter_map kept_of_note (alike.notes i) ++ filter_map (λ (m : Message). kept_of_body m.body) (alike.sends i)

  kept_now : KeptAlike (now.node u).met (met_of u life.journal)
  kept_now = subst (λ owed. KeptAlike (onto owed (now.node u).met) (met_of u life.journal)) (lives.none is_there) lives.kept

  own_whole : Own now.tape u item (met_in s (now.node u).met event) → Lives c u (whole_step c now u (item ∷ []) made)
  own_whole o = record {
    least = lives.least;
    befalls = Does (record { handlers = h; event = event }) ∷ lives.befalls;
    told = told_self u now.tape _ _ (whole_tells c u now u item (met_in s (now.node u).met event) made o (step_fair s (now.node u) event).notes)
        ∙ (λ i. onto (map Sends (alike.sends i)) (onto (alike.notes i) (own_same among_nine s (now.node u) life.node event (lives.node is_there) i ∷ lives.told i)));
    starts = starts_kept made' life.journal ∙ lives.starts;
    owed = lives.owed;
    kept = subst (λ owed. KeptAlike (onto owed (set_at now.node u made.node u).met) (met_of u (reverse (kept_of made') ++ life.journal))) (sym (lives.none is_there))
        (coe 0 1 (i. KeptAlike (sym (at_self now.node u made.node) i).met (met_of u (reverse (kept_is i) ++ life.journal))) (step_kept s (now.node u) event life.journal kept_now));
    owing = subst (λ owed. AreOwed owed (set_at now.node u made.node u).met) (sym (lives.none is_there)) tt;
    none = λ again. lives.none is_there;
    grants = λ again. subst (λ (x : Node). KeepsGrants c u x.met) (sym (at_self now.node u made.node)) (step_keeps s (now.node u) event lives.least (lives.grants is_there));
    node = λ again. subst (λ (x : Node). NodeAlike among_nine c u x made'.node) (sym (at_self now.node u made.node)) alike.node;
  }

  own_cut : (kept : Bool) (next : Standing) (nodes' : ℕ → Node) → Own now.tape u item (met_in s (now.node u).met event) → next.tape ≡ with_items c nodes' now.tape ((item ∷ []) ++ shown u Crashes)
      → next.node u ≡ fallen → next.starts u ≡ now.starts u → next.owed u ≡ cond kept (owes made replies) [] → Lives c u next
  own_cut kept next nodes' o tape node starts owed = record {
    least = lives.least;
    befalls = FallsIn (record { handlers = h; event = event }) kept ∷ lives.befalls;
    told = ap (told_of u) tape ∙ told_self u now.tape _ _ (cut_tells c u now u item (met_in s (now.node u).met event) nodes' o)
        ∙ (λ i. Crashes ∷ own_same among_nine s (now.node u) life.node event (lives.node is_there) i ∷ lives.told i);
    starts = counted kept ∙ lives.starts ∙ sym starts;
    owed = owed ∙ (λ i. cond kept (filter is_durable (alike.notes i) ++ map Unsends (replies_same s (now.node u) life.node event (lives.node is_there) near i)) []);
    kept = coe 0 1 (i. KeptAlike (onto (sym owed i) (sym node i).met) (met_of u (cond kept (reverse (kept_of made') ++ life.journal) life.journal))) (journaled kept);
    owing = coe 0 1 (i. AreOwed (sym owed i) (sym node i).met) (may_owe kept);
    none = λ again. absurd (down again);
    grants = λ again. absurd (down again);
    node = λ again. absurd (down again);
  }
    where
      down : is_up (next.node u).met ≡ true → ⊥
      down again = let is = sym (ap (λ (x : Node). is_up x.met) node) ∙ again in cc

      counted : (t : Bool) → starts_of (cond t (reverse (kept_of made') ++ life.journal) life.journal) ≡ starts_of life.journal
      counted true = starts_kept made' life.journal
      counted false = refl

      own_unkept : (event : Event) → KeptAlike (met_in s (now.node u).met event ∷ (now.node u).met) (now.node u).met
      own_unkept (Tick clock) = unkept (Ticks clock) (now.node u).met refl
      own_unkept (Take m) = unkept (Takes m) (now.node u).met refl
      own_unkept (Begin request text) = unkept (Begins (op_of s (now.node u).met) text) (now.node u).met refl

      kept_fallen : KeptAlike fallen.met (met_of u life.journal)
      kept_fallen = kept_then fallen.met (met_in s (now.node u).met event ∷ (now.node u).met) (met_of u life.journal) (unkept Crashes (met_in s (now.node u).met event ∷ (now.node u).met) refl)
          (kept_then (met_in s (now.node u).met event ∷ (now.node u).met) (now.node u).met (met_of u life.journal) (own_unkept event) kept_now)

      journaled : (t : Bool) → KeptAlike (onto (cond t (owes made replies) []) fallen.met) (met_of u (cond t (reverse (kept_of made') ++ life.journal) life.journal))
      journaled true = subst (λ items. KeptAlike (onto (owes made replies) fallen.met) (met_of u (reverse items ++ life.journal))) kept_is (owes_kept s (now.node u) event fallen.met life.journal kept_fallen)
      journaled false = kept_fallen

      may_owe : (t : Bool) → AreOwed (cond t (owes made replies) []) fallen.met
      may_owe true = subst (λ own. AreOwed (owes made replies) (Crashes ∷ own ∷ (now.node u).met)) (own_is s (now.node u) event) (cut_owed s (now.node u) event lives.least (lives.grants is_there))
      may_owe false = tt

  own_fated : (fate : Fate) → Own now.tape u item (met_in s (now.node u).met event) → Lives c u (fated c now u (item ∷ []) (met_in s (now.node u).met event) made replies fate)
  own_fated Whole o = own_whole o
  own_fated (CutByLog left) o =
      own_cut (is_kept left) (fated c now u (item ∷ []) (met_in s (now.node u).met event) made replies (CutByLog left)) (set_at now.node u fallen) o refl (at_self now.node u fallen) refl
      (at_self now.owed u (cond (is_kept left) (owes made replies) []))
  own_fated (CutByData left) o =
      own_cut false (fated c now u (item ∷ []) (met_in s (now.node u).met event) made replies (CutByData left)) (set_at now.node u fallen) o refl (at_self now.node u fallen) refl (at_self now.owed u [])

-- ---- a start and a crash

module _ (c : Cluster) (h : Meanings) (now : Standing) (u : ℕ) where
  abbrev until : Lives c u now → Life
  until lives = lived c u lives.befalls

  abbrev next_number : ℕ
  next_number = now.starts u + 1

  abbrev starting : Setting
  starting = setting c h u

  abbrev begun : Node
  begun = start starting next_number (now.owed u) (now.node u).met

  -- what it met with its start and what it owes
  abbrev shown_then : List Met
  shown_then = onto (now.owed u) (Starts next_number ∷ (now.node u).met)

  start_tells : (v : ℕ) (nodes' : ℕ → Node) → All IsShown (now.owed u)
      → Tells v u now.tape (with_items c nodes' now.tape (flat_map (shown u) (start_items starting next_number (now.owed u) (now.node u).met))) (λ met. onto (now.owed u ++ start_notes starting shown_then) (Starts next_number ∷ met))
  start_tells v nodes' are =
      then_tells v u now.tape (StartItem (number u) next_number ∷ now.tape) _ (λ met. Starts next_number ∷ met) (onto (now.owed u ++ start_notes starting shown_then))
      (line_tells v u now.tape (StartItem (number u) next_number) (Starts next_number) refl refl)
      (notes_tell c nodes' v u (now.owed u ++ start_notes starting shown_then) (StartItem (number u) next_number ∷ now.tape)
      (All-append IsShown (now.owed u) (start_notes starting shown_then) are (All-weaker IsNote IsShown note_shown _ (start_noted starting shown_then))) refl)

  number_same : (lives : Lives c u now) → next_number ≡ starts_of (until lives).journal + 1
  number_same lives = ap (λ n. n + 1) (sym lives.starts)

  own_start : (lives : Lives c u now) → next_number ≤ 4294967295 → All IsShown (now.owed u) → Lives c u (whole_start c now u (start_items starting next_number (now.owed u) (now.node u).met) begun)
  own_start lives few are = record {
    least = lives.least;
    befalls = StartsUp h ∷ lives.befalls;
    told = told_self u now.tape _ _ (start_tells u (set_at now.node u begun) are)
        ∙ onto_append (now.owed u) (start_notes starting shown_then) (Starts next_number ∷ told_of u now.tape)
        ∙ (λ i. onto (notes i) (onto (lives.owed i) (Starts (number_same lives i) ∷ lives.told i)));
    starts = capped (starts_of (until lives).journal) (now.starts u) lives.starts few ∙ sym (at_self now.starts u next_number);
    owed = at_self now.owed u [];
    kept = coe 0 1 (i. KeptAlike (onto (sym (at_self now.owed u []) i) (sym (at_self now.node u begun) i).met) (met_of u (Started ∷ (until lives).journal))) kept_begun;
    owing = subst (λ owed. AreOwed owed (set_at now.node u begun u).met) (sym (at_self now.owed u [])) tt;
    none = λ again. at_self now.owed u [];
    grants = λ again. subst (λ (x : Node). KeepsGrants c u x.met) (sym (at_self now.node u begun)) (start_keeps starting next_number (now.node u).met (now.owed u) lives.owing);
    node = λ again. subst (λ (x : Node). NodeAlike among_nine c u x (start starting (starts_of (until lives).journal + 1) [] (met_of u (until lives).journal))) (sym (at_self now.node u begun))
        (subst (λ n. NodeAlike among_nine c u begun (start starting n [] (met_of u (until lives).journal))) (number_same lives)
        (start_opens starting next_number (now.owed u) (now.node u).met (met_of u (until lives).journal) lives.least lives.owing lives.kept));
  }
    where
      notes : start_notes starting shown_then ≡ start_notes starting (Starts (starts_of (until lives).journal + 1) ∷ met_of u (until lives).journal)
      notes = notes_same starting next_number (now.owed u) (now.node u).met (met_of u (until lives).journal) lives.least lives.owing lives.kept
          ∙ ap (λ n. start_notes starting (Starts n ∷ met_of u (until lives).journal)) (number_same lives)

      kept_begun : KeptAlike begun.met (met_of u (Started ∷ (until lives).journal))
      kept_begun = kept_then begun.met shown_then (met_of u (Started ∷ (until lives).journal))
          (subst (λ met. KeptAlike met shown_then) (sym (start_met starting next_number (now.owed u) (now.node u).met (met_of u (until lives).journal) lives.least lives.owing lives.kept)) (notes_unkept starting shown_then))
          (subst (λ n. KeptAlike shown_then (Starts n ∷ met_of u (until lives).journal)) (number_same lives)
          (opened_alike starting next_number (now.owed u) (now.node u).met (met_of u (until lives).journal) lives.least lives.owing lives.kept).kept)

      capped : (a b : ℕ) → a ≡ b → b + 1 ≤ 4294967295 → min (a + 1) 4294967295 ≡ b + 1
      capped a b is few = omega (arith, is, few)

  -- a node that is down goes on owing what it owed
  own_down : (lives : Lives c u now) (all : List Befalls) (next : Standing) → (lived c u all).told ≡ Crashes ∷ (until lives).told → starts_of (lived c u all).journal ≡ next.starts u → (lived c u all).owed ≡ (until lives).owed
      → KeptAlike (met_of u (until lives).journal) (met_of u (lived c u all).journal) → next.tape ≡ Crash (number u) ∷ now.tape → next.node u ≡ crashed (now.node u) → next.owed u ≡ now.owed u → Lives c u next
  own_down lives all next told starts owes' journal tape node owed = record {
    least = lives.least;
    befalls = all;
    told = ap (told_of u) tape ∙ told_self u now.tape _ _ (line_tells u u now.tape (Crash (number u)) Crashes refl refl) ∙ ap (λ met. Crashes ∷ met) lives.told ∙ sym told;
    starts = starts;
    owed = owed ∙ lives.owed ∙ sym owes';
    kept = coe 0 1 (i. KeptAlike (onto (sym owed i) (sym node i).met) (met_of u (lived c u all).journal))
        (kept_then (onto (now.owed u) (Crashes ∷ (now.node u).met)) (onto (now.owed u) (now.node u).met) (met_of u (lived c u all).journal)
        (kept_onto (now.owed u) (Crashes ∷ (now.node u).met) (now.node u).met (unkept Crashes (now.node u).met refl))
        (kept_then (onto (now.owed u) (now.node u).met) (met_of u (until lives).journal) (met_of u (lived c u all).journal) lives.kept journal));
    owing = coe 0 1 (i. AreOwed (sym owed i) (sym node i).met) (owed_on (now.owed u) (now.node u).met (Crashes ∷ (now.node u).met) (λ other. refl) lives.owing);
    none = λ again. absurd (down again);
    grants = λ again. absurd (down again);
    node = λ again. absurd (down again);
  }
    where
      down : is_up (next.node u).met ≡ true → ⊥
      down again = let is = sym (ap (λ (x : Node). is_up x.met) node) ∙ again in cc

  own_failed : (lives : Lives c u now) (kept : Bool) (next : Standing) → next.tape ≡ Crash (number u) ∷ now.tape → next.node u ≡ crashed (now.node u) → next.starts u ≡ cond kept (now.starts u + 1) (now.starts u) → next.owed u ≡ now.owed u
      → now.starts u + 1 ≤ 4294967295 → Lives c u next
  own_failed lives kept next tape node starts owed few = own_down lives (FailsToStart kept ∷ lives.befalls) next refl (counted kept ∙ sym starts) refl (journaled kept) tape node owed
    where
      capped : (a b : ℕ) → a ≡ b → b + 1 ≤ 4294967295 → min (a + 1) 4294967295 ≡ b + 1
      capped a b is few = omega (arith, is, few)

      counted : (t : Bool) → starts_of (cond t (Started ∷ (until lives).journal) (until lives).journal) ≡ cond t (now.starts u + 1) (now.starts u)
      counted true = capped (starts_of (until lives).journal) (now.starts u) lives.starts few
      counted false = lives.starts

      journaled : (t : Bool) → KeptAlike (met_of u (until lives).journal) (met_of u (cond t (Started ∷ (until lives).journal) (until lives).journal))
      journaled true = kept_back (met_of u (Started ∷ (until lives).journal)) (met_of u (until lives).journal) (unkept (Starts (starts_of (until lives).journal + 1)) (met_of u (until lives).journal) refl)
      journaled false = kept_self (met_of u (until lives).journal)

  own_crash : Lives c u now → Lives c u (crashes now u)
  own_crash lives = own_down lives (Falls ∷ lives.befalls) (crashes now u) refl lives.starts refl (kept_self (met_of u (until lives).journal)) refl (at_self now.node u (crashed (now.node u))) refl

-- ---- what holds of a run at each moment

pub record Moment (c : Cluster) (v : ℕ) (now : Standing) : Type 0 where
  pub owes : (u : ℕ) → All IsShown (now.owed u)
  pub lives : AreOfNine now.tape → Lives c v now

-- and after an event, with at most one start more
pub record Goes (c : Cluster) (v : ℕ) (now next : Standing) : Type 0 where
  pub moment : Moment c v next
  pub starts : next.starts v ≤ now.starts v + 1

set_holds : {X : Type 0} (P : X → Type 0) (f : ℕ → X) (u : ℕ) (x : X) → P x → ((w : ℕ) → P (f w)) → (w : ℕ) → P (set_at f u x w)
set_holds P f u x is all w = by (u == w)
  where
    by : (t : Bool) → P (cond t x (f w))
    by true = is
    by false = all w

-- what comes onto a tape leaves what stood there
nine_before : (item : Item) (tape : List Item) → AreOfNine (item ∷ tape) → AreOfNine tape
nine_before (Sent n m) tape nine = nine.1
nine_before _ tape nine = nine

nine_items : (c : Cluster) (nodes : ℕ → Node) (xs tape : List Item) → AreOfNine (with_items c nodes tape xs) → AreOfNine tape
nine_items c nodes [] tape nine = nine
nine_items c nodes (x ∷ xs) tape nine = nine_before x tape (one (breaks c nodes x && not (is_unsafe tape)) (nine_items c nodes xs (with_item c nodes tape x) nine))
  where
    one : (t : Bool) → AreOfNine (cond t (Unsafe ∷ x ∷ tape) (x ∷ tape)) → AreOfNine (x ∷ tape)
    one true nine = nine
    one false nine = nine

-- what a step that is cut owes has lines
durable_shown : (notes : List Met) → All IsNote notes → All IsShown (filter is_durable notes)
durable_shown [] are = All-nil IsShown
durable_shown (x ∷ notes) are = by (is_durable x) (durable_shown notes (All-tail IsNote x notes are))
  where
    by : (t : Bool) → All IsShown (filter is_durable notes) → All IsShown (cond t (x ∷ filter is_durable notes) (filter is_durable notes))
    by true rest = All-cons IsShown x (filter is_durable notes) (note_shown x (All-head IsNote x notes are)) rest
    by false rest = rest

unsends_shown : (ms : List Message) → All IsShown (map Unsends ms)
unsends_shown [] = All-nil IsShown
unsends_shown (m ∷ ms) = All-cons IsShown (Unsends m) (map Unsends ms) refl (unsends_shown ms)

owes_shown : (t : Bool) (one : Step) (answers : List Message) → All IsNote one.notes → All IsShown (cond t (owes one answers) [])
owes_shown true one answers are = All-append IsShown (filter is_durable one.notes) (map Unsends answers) (durable_shown one.notes are) (unsends_shown answers)
owes_shown false one answers are = All-nil IsShown

module _ (c : Cluster) (v : ℕ) (h : Meanings) (now : Standing) (m : Moment c v now) (u : ℕ) where
  step_goes : (item : Item) (event : Event) (fate : Fate) → (AreOfNine now.tape → IsNearEvent among_nine event) → is_up (now.node u).met ≡ true → Own now.tape u item (met_in (setting c h u) (now.node u).met event)
      → Goes c v now (fated c now u (item ∷ []) (met_in (setting c h u) (now.node u).met event) (step (setting c h u) (now.node u) event) (replies_in c u (now.node u).met event) fate)
  step_goes item event fate near is_there o = by fate
    where
      one : Step
      one = step (setting c h u) (now.node u) event

      noted : All IsNote one.notes
      noted = (step_fair (setting c h u) (now.node u) event).notes

      next : Fate → Standing
      next fate = fated c now u (item ∷ []) (met_in (setting c h u) (now.node u).met event) one (replies_in c u (now.node u).met event) fate

      own : (fate : Fate) → AreOfNine now.tape → (u == v) ≡ true → Lives c v (next fate)
      own fate nine e = subst (λ w. Lives c w (next fate)) (number_is u v e) (own_fated c h now u item event (near nine) (subst (λ w. Lives c w now) (sym (number_is u v e)) (m.lives nine)) is_there fate o)

      by : (fate : Fate) → Goes c v now (next fate)
      by Whole = record {
        moment = record {
          owes = m.owes;
          lives = λ after. let nine = nine_items c (set_at now.node u one.node) (((item ∷ []) ++ flat_map (shown u) one.notes) ++ numbered (sent_count now.tape + 1) one.sends) now.tape after in
              either_lives c v u now (next Whole) _ (whole_tells c v now u item (met_in (setting c h u) (now.node u).met event) one o noted)
              (at_other now.node u one.node v) (λ e. refl) (λ e. refl) (own Whole nine) (m.lives nine);
        };
        starts = omega arith;
      }
      by (CutByLog left) = record {
        moment = record {
          owes = set_holds (All IsShown) now.owed u _ (owes_shown (is_kept left) one (replies_in c u (now.node u).met event) noted) m.owes;
          lives = λ after. let nine = nine_items c (next (CutByLog left)).node ((item ∷ []) ++ shown u Crashes) now.tape after in
              either_lives c v u now (next (CutByLog left)) _ (cut_tells c v now u item (met_in (setting c h u) (now.node u).met event) (next (CutByLog left)).node o)
              (at_other now.node u _ v) (λ e. refl) (at_other now.owed u _ v) (own (CutByLog left) nine) (m.lives nine);
        };
        starts = omega arith;
      }
      by (CutByData left) = record {
        moment = record {
          owes = set_holds (All IsShown) now.owed u [] (All-nil IsShown) m.owes;
          lives = λ after. let nine = nine_items c (next (CutByData left)).node ((item ∷ []) ++ shown u Crashes) now.tape after in
              either_lives c v u now (next (CutByData left)) _ (cut_tells c v now u item (met_in (setting c h u) (now.node u).met event) (next (CutByData left)).node o)
              (at_other now.node u _ v) (λ e. refl) (at_other now.owed u [] v) (own (CutByData left) nine) (m.lives nine);
        };
        starts = omega arith;
      }

  node_goes : (item : Item) (event : Event) (cut : Calls → Fate) → (AreOfNine now.tape → IsNearEvent among_nine event) → is_up (now.node u).met ≡ true → Own now.tape u item (met_in (setting c h u) (now.node u).met event)
      → Goes c v now (at_node c h now u (item ∷ []) event cut)
  node_goes item event cut near is_there o = step_goes item event (fate_by now u cut (calls_of c h now u event (step (setting c h u) (now.node u) event))) near is_there o

  -- a start that is cut
  failed_goes : now.starts v + 1 ≤ 4294967295 → (kept : Bool) (next : Standing) → next.tape ≡ Crash (number u) ∷ now.tape
      → ((w : ℕ) → next.node w ≡ set_at now.node u (crashed (now.node u)) w) → ((w : ℕ) → next.starts w ≡ set_at now.starts u (cond kept (now.starts u + 1) (now.starts u)) w) → ((w : ℕ) → next.owed w ≡ now.owed w)
      → Goes c v now next
  failed_goes few kept next tape node starts owed = record {
    moment = record {
      owes = λ w. subst (All IsShown) (sym (owed w)) (m.owes w);
      lives = λ after. let nine = subst AreOfNine tape after in
          either_lives c v u now next (λ met. Crashes ∷ met) (subst (λ new. Tells v u now.tape new (λ met. Crashes ∷ met)) (sym tape) (line_tells v u now.tape (Crash (number u)) Crashes refl refl))
          (λ e. node v ∙ at_other now.node u _ v e) (λ e. starts v ∙ at_other now.starts u _ v e) (λ e. owed v) (own nine) (m.lives nine);
    };
    starts = subst (λ n. n ≤ now.starts v + 1) (sym (starts v)) (one (u == v) kept refl);
  }
    where
      own : AreOfNine now.tape → (u == v) ≡ true → Lives c v next
      own nine e = subst (λ w. Lives c w next) (number_is u v e)
          (own_failed c h now u (subst (λ w. Lives c w now) (sym (number_is u v e)) (m.lives nine)) kept next tape (node u ∙ at_self now.node u _) (starts u ∙ at_self now.starts u _) (owed u)
          (subst (λ w. now.starts w + 1 ≤ 4294967295) (sym (number_is u v e)) few))

      one : (t k : Bool) → (u == v) ≡ t → cond t (cond k (now.starts u + 1) (now.starts u)) (now.starts v) ≤ now.starts v + 1
      one true true e = subst (λ w. now.starts w + 1 ≤ now.starts v + 1) (sym (number_is u v e)) (omega arith)
      one true false e = subst (λ w. now.starts w ≤ now.starts v + 1) (sym (number_is u v e)) (omega arith)
      one false k e = omega arith

  -- a start, with room for its number
  start_goes : now.starts v + 1 ≤ 4294967295 → (fate : Fate) → Goes c v now (fated_start c h now u fate)
  start_goes few Whole = record {
    moment = record {
      owes = set_holds (All IsShown) now.owed u [] (All-nil IsShown) m.owes;
      lives = λ after. let nine = nine_items c (set_at now.node u (begun c h now u)) (flat_map (shown u) (start_items (setting c h u) (now.starts u + 1) (now.owed u) (now.node u).met)) now.tape after in
          either_lives c v u now next _ (start_tells c h now u v (set_at now.node u (begun c h now u)) (m.owes u))
          (at_other now.node u (begun c h now u) v) (at_other now.starts u (now.starts u + 1) v) (at_other now.owed u [] v) (own nine) (m.lives nine);
    };
    starts = one (u == v) refl;
  }
    where
      next : Standing
      next = whole_start c now u (start_items (setting c h u) (now.starts u + 1) (now.owed u) (now.node u).met) (begun c h now u)

      own : AreOfNine now.tape → (u == v) ≡ true → Lives c v next
      own nine e = subst (λ w. Lives c w next) (number_is u v e)
          (own_start c h now u (subst (λ w. Lives c w now) (sym (number_is u v e)) (m.lives nine)) (subst (λ w. now.starts w + 1 ≤ 4294967295) (sym (number_is u v e)) few) (m.owes u))

      one : (t : Bool) → (u == v) ≡ t → cond t (now.starts u + 1) (now.starts v) ≤ now.starts v + 1
      one true e = subst (λ w. now.starts w + 1 ≤ now.starts v + 1) (sym (number_is u v e)) (omega arith)
      one false e = omega arith
  start_goes few (CutByLog left) = failed_goes few (is_kept left) _ refl (λ w. refl) (λ w. refl) (λ w. refl)
  start_goes few (CutByData left) = failed_goes few (is_kept left) _ refl (λ w. refl) (λ w. refl) (λ w. refl)

  crash_goes : Goes c v now (crashes now u)
  crash_goes = record {
    moment = record {
      owes = m.owes;
      lives = λ nine. either_lives c v u now (crashes now u) (λ met. Crashes ∷ met) (line_tells v u now.tape (Crash (number u)) Crashes refl refl) (at_other now.node u _ v) (λ e. refl) (λ e. refl) (own nine) (m.lives nine);
    };
    starts = omega arith;
  }
    where
      own : AreOfNine now.tape → (u == v) ≡ true → Lives c v (crashes now u)
      own nine e = subst (λ w. Lives c w (crashes now u)) (number_is u v e) (own_crash c h now u (subst (λ w. Lives c w now) (sym (number_is u v e)) (m.lives nine)))

mark_goes : (c : Cluster) (v : ℕ) (now : Standing) (item : Item) → told_by now.tape item ≡ None → Moment c v now → Goes c v now (marked now item)
mark_goes c v now item none m = record {
  moment = record { owes = m.owes; lives = λ nine. same_lives c v now (marked now item) (mark_tells v now.tape item none) refl refl refl (m.lives (nine_before item now.tape nine)) };
  starts = omega arith;
}

-- a message that is delivered stands on the tape
nine_message : (tape : List Item) (j : ℕ) (message : Message) → message_of tape j ≡ Some message → AreOfNine tape → is_of_nine message.from message.body ≡ true
nine_message [] j message is nine = absurd (cc)
nine_message (Sent n m ∷ tape) j message is nine = by (n == j) is (λ later. nine_message tape j message later nine.1)
  where
    some_message : (a b : Message) → Some a ≡ Some b → a ≡ b
    some_message a b same = cc

    by : (t : Bool) → cond t (Some m) (message_of tape j) ≡ Some message → (message_of tape j ≡ Some message → is_of_nine message.from message.body ≡ true) → is_of_nine message.from message.body ≡ true
    by true is later = subst (λ (x : Message). is_of_nine x.from x.body ≡ true) (some_message m message is) nine.0
    by false is later = later is
nine_message (_ ∷ tape) j message is nine = nine_message tape j message is nine

nine_near : (from : ℕ) (body : Body) → is_of_nine from body ≡ true → IsNear among_nine from body
nine_near from (Acquire cell epoch clock) is = is
nine_near from (Dead op cell node) is = is
nine_near from _ is = tt

-- ---- events, one after another

some_is : (x y : ℕ) → Some x ≡ Some y → x ≡ y
some_is x y same = cc

find_passes : (test : ℕ → Bool) (xs : List ℕ) (j : ℕ) → find test xs ≡ Some j → test j ≡ true
find_passes test [] j h = absurd (cc)
find_passes test (x ∷ xs) j h = go (test x) refl h (find_passes test xs j)
  where
    go : (t : Bool) → test x ≡ t → cond t (Some x) (find test xs) ≡ Some j → (find test xs ≡ Some j → test j ≡ true) → test j ≡ true
    go true e k again = subst (λ y. test y ≡ true) (some_is x j k) e
    go false e k again = again k

not_because : (t : Bool) (why : ℕ) (other : Option ℕ) → because t why other ≡ None → (t ≡ false) × (other ≡ None)
not_because true why other h = absurd (cc)
not_because false why other h = (refl, h)

-- with as many starts
record Stays (c : Cluster) (v : ℕ) (now next : Standing) : Type 0 where
  moment : Moment c v next
  starts : next.starts v ≡ now.starts v

fated_starts : (c : Cluster) (now : Standing) (u v : ℕ) (own : List Item) (met : Met) (one : Step) (answers : List Message) (fate : Fate) → (fated c now u own met one answers fate).starts v ≡ now.starts v
fated_starts c now u v own met one answers Whole = refl
fated_starts c now u v own met one answers (CutByLog left) = refl
fated_starts c now u v own met one answers (CutByData left) = refl

stays_goes : (c : Cluster) (v : ℕ) (now next : Standing) → Stays c v now next → Goes c v now next
stays_goes c v now next s = record { moment = s.moment; starts = let is = s.starts in omega (arith, is) }

module _ (c : Cluster) (v : ℕ) (h : Meanings) (cuts : Cuts) where
  handed_stays : (now : Standing) (j : ℕ) (o : Option Message) → message_of now.tape j ≡ o → receiver_up (up now) o ≡ true → Moment c v now → Stays c v now (handed c h cuts now j o)
  handed_stays now j None is r m = record { moment = m; starts = refl }
  handed_stays now j (Some message) is r m = record {
    moment = (node_goes c v h now m message.to (Taken j) (Take message) (cuts now message.to) (λ nine. nine_near message.from message.body (nine_message now.tape j message is nine)) r (record {
      plain = λ c nodes. refl;
      actor_is = ap receiver is;
      tells = ap (option_map Takes) is;
    })).moment;
    starts = fated_starts c now message.to v (Taken j ∷ []) (Takes message) (step (setting c h message.to) (now.node message.to) (Take message))
        (replies_in c message.to (now.node message.to).met (Take message)) (fate_by now message.to (cuts now message.to) (calls_of c h now message.to (Take message) (step (setting c h message.to) (now.node message.to) (Take message))));
  }

  deliverable_stays : (now : Standing) (j : ℕ) → next_delivery (up now) now.tape ≡ Some j → Moment c v now → Stays c v now (delivered c h cuts now j)
  deliverable_stays now j e m = handed_stays now j (message_of now.tape j) refl
      (and_parts (not (is_taken now.tape j) && not (is_dropped now.tape j)) (receiver_up (up now) (message_of now.tape j)) (find_passes (is_deliverable (up now) now.tape) _ j e)).1 m

  drained_stays : (most : ℕ) (now : Standing) → Moment c v now → Stays c v now (drained c h cuts now most)
  drained_stays zero now m = go (next_delivery (up now) now.tape)
    where
      go : (o : Option ℕ) → Stays c v now (unless_none now (λ j. marked now CutItem) o)
      go None = record { moment = m; starts = refl }
      go (Some j) = record { moment = (mark_goes c v now CutItem refl m).moment; starts = refl }
  drained_stays (suc most) now m = go (next_delivery (up now) now.tape) refl (λ j. drained_stays most (delivered c h cuts now j))
    where
      go : (o : Option ℕ) → next_delivery (up now) now.tape ≡ o → ((j : ℕ) → Moment c v (delivered c h cuts now j) → Stays c v (delivered c h cuts now j) (drained c h cuts (delivered c h cuts now j) most))
          → Stays c v now (unless_none now (λ j. drained c h cuts (delivered c h cuts now j) most) o)
      go None e more = record { moment = m; starts = refl }
      go (Some j) e more = let one = deliverable_stays now j e m in let rest = more j one.moment in record { moment = rest.moment; starts = rest.starts ∙ one.starts }

  down_stays : (now : Standing) (j : ℕ) (o : Option Message) → message_of now.tape j ≡ o → receiver_down now o ≡ false → Moment c v now → Stays c v now (handed c h cuts now j o)
  down_stays now j None is r m = record { moment = m; starts = refl }
  down_stays now j (Some message) is r m = handed_stays now j (Some message) is (not-false (up now message.to) r) m

  event_goes : (now : Standing) (event : WorldEvent) → now.starts v + 1 ≤ 4294967295 → refusal c now event ≡ None → Moment c v now → Goes c v now (after_event c h cuts now event)
  event_goes now (TickEvent node clock) few r m =
      let second = (not_because (not (is_node c node.0)) 6 _ r).1 in let third = (not_because (not (up now node.0)) 1 _ second).0 in
      node_goes c v h now m node.0 (TickItem (number node.0) clock) (Tick clock) (cuts now node.0) (λ nine. tt) (not-false (up now node.0) third) (record { plain = λ c nodes. refl; actor_is = refl; tells = refl })
  event_goes now (Deliver j) few r m =
      let second = (not_because (not (is_sent now.tape j)) 3 _ r).1 in let third = (not_because (is_dropped now.tape j) 4 _ second).1 in
      stays_goes c v now _ (down_stays now j (message_of now.tape j) refl (not_because (receiver_down now (message_of now.tape j)) 1 None third).0 m)
  event_goes now (Drop j) few r m = mark_goes c v now (Dropped j) refl m
  event_goes now (Drain most) few r m = stays_goes c v now _ (drained_stays most now m)
  event_goes now (CrashEvent node) few r m = crash_goes c v h now m node.0
  event_goes now (StartEvent node) few r m = start_goes c v h now m node.0 few (fate_by now node.0 (cuts now node.0) (start_calls c node.0))
  event_goes now (FuseEvent node calls image Log) few r m = record {
    moment = record { owes = m.owes; lives = λ nine. same_lives c v now _ refl refl refl refl (m.lives nine) };
    starts = omega arith;
  }
  event_goes now (FuseEvent node calls image Data) few r m = record {
    moment = record { owes = m.owes; lives = λ nine. same_lives c v now _ refl refl refl refl (m.lives nine) };
    starts = omega arith;
  }
  event_goes now (BeginEvent node request text) few r m =
      let second = (not_because (not (is_node c node.0)) 6 _ r).1 in let third = (not_because (not (up now node.0)) 1 _ second).0 in
      node_goes c v h now m node.0 (BeginItem (op_of (setting c h node.0) (now.node node.0).met) text) (Begin request text) (cuts now node.0) (λ nine. tt) (not-false (up now node.0) third) (record { plain = λ c nodes. refl; actor_is = refl; tells = refl })

all_go : (c : Cluster) (v : ℕ) (cuts : Cuts) (events : List Happening) (now : Standing) → now.starts v + length events ≤ 4294967295 → Moment c v now → Moment c v (goes_on c cuts now events)
all_go c v cuts [] now few m = m
all_go c v cuts (one ∷ events) now few m = go (refusal c now one.event) refl (λ next. all_go c v cuts events next)
  where
    go : (o : Option ℕ) → refusal c now one.event ≡ o → ((next : Standing) → next.starts v + length events ≤ 4294967295 → Moment c v next → Moment c v (goes_on c cuts next events))
        → Moment c v (goes_on c cuts (unless_refused now (after_event c one.handlers cuts now one.event) o) events)
    go None r more =
        let next = event_goes c v one.handlers cuts now one.event (omega (arith, few)) r m in
        more (after_event c one.handlers cuts now one.event) (let le = next.starts in omega (arith, few, le)) next.moment
    go (Some why) r more = more now (omega (arith, few)) m

opened_go : (c : Cluster) (v : ℕ) (h : Meanings) (those : List ℕ) (now : Standing) (room : ℕ) → now.starts v + (length those + room) ≤ 4294967295 → Moment c v now
    → ((fold (λ now me. fated_start c h now me Whole) now those).starts v + room ≤ 4294967295) × Moment c v (fold (λ now me. fated_start c h now me Whole) now those)
opened_go c v h [] now room few m = (omega (arith, few), m)
opened_go c v h (u ∷ those) now room few m =
    let next = start_goes c v h now m u (omega (arith, few)) Whole in
    opened_go c v h those (fated_start c h now u Whole) room (let le = next.starts in omega (arith, few, le)) next.moment

nothing_yet_goes : (c : Cluster) (v : ℕ) → 1 ≤ v → Moment c v nothing_yet
nothing_yet_goes c v least = record {
  owes = λ u. All-nil IsShown;
  lives = λ nine. record {
    least = least;
    befalls = [];
    told = refl;
    starts = refl;
    owed = refl;
    kept = kept_self [];
    owing = tt;
    none = λ is. refl;
    grants = λ is. absurd (cc);
    node = λ is. absurd (cc);
  };
}

pub run_lives : (c : Cluster) (first : Meanings) (events : List Happening) (tape : List Item) → IsRun c first events tape → AreOfNine tape → length (nodes c) + length events ≤ 4294967295 → (v : ℕ) → 1 ≤ v → IsLife c v tape
run_lives c first events tape run nine few v least = record { befalls = lives.befalls; told = ap (told_of v) run.tape_is ∙ lives.told }
  where
    opened : ((opening c first).starts v + length events ≤ 4294967295) × Moment c v (opening c first)
    opened = opened_go c v first (nodes c) nothing_yet (length events) (omega (arith, few)) (nothing_yet_goes c v least)

    lives : Lives c v (goes_on c run.cuts (opening c first) events)
    lives = (all_go c v run.cuts events (opening c first) opened.0 opened.1).lives (subst AreOfNine run.tape_is nine)
