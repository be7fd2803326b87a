-- What a node of a run decided stands on the run's tape.
use Rattle.std.proofs.Common.{◌≡◌, ◌⊎◌, inl, inr, ℕ, zero, suc, ◌+◌, ◌==◌, ◌&&◌, cond, Bool, true, false, List, [], ◌∷◌, ◌++◌, map, flat_map, fold, refl, sym, ◌∙◌, subst, eqb-true, Option, Some, None}
use Rattle.mega_base.specs.declared.names.GroupId.{GroupId}
use Rattle.mega_cluster.specs.declared.cluster.Cluster.{Cluster}
use Rattle.mega_disk.specs.declared.pair.Device.TheVariants.{Log, Data}
use Rattle.mega_entry.specs.declared.content.Content.{Content}
use Rattle.mega_wire.specs.declared.message.Message.{Message}
use Rattle.mega_handler.specs.Named.{Meanings}
use Rattle.mega_wal.specs.Same.{same_group}
use Rattle.mega_wal.proofs.Sames.{same_group_equal}
use Rattle.mega_outcome.specs.declared.request.Request.{Request}
use Rattle.mega_run_laws.specs.of_tape_laws.of_promises.of_schedule.declared.world_event.WorldEvent.{WorldEvent}
use Rattle.mega_run_laws.specs.of_tape_laws.of_promises.of_schedule.declared.world_event.WorldEvent.TheVariants.{Tick as TickEvent, Deliver, Drop, Drain, Crash as CrashEvent, Start as StartEvent, Fuse as FuseEvent, Begin as BeginEvent}
use Rattle.mega_run_laws.specs.of_tape_laws.of_promises.of_transcript.declared.item.Item.{Item}
use Rattle.mega_run_laws.specs.of_tape_laws.of_promises.of_transcript.declared.item.Item.TheVariants.{Cut as CutItem, Decide, Dropped, Taken}
use Rattle.mega_run_laws.specs.of_tape_laws.of_promises.of_transcript.Tape.{sent_count}
use Rattle.mega_run_laws.specs.of_tape_laws.of_promises.of_rules.Met.{Met, Crashes, Ticks, Begins, Takes, Sends, Decides}
use Rattle.mega_run_laws.specs.of_tape_laws.of_promises.of_rules.Members.{nodes}
use Rattle.mega_run_laws.specs.of_tape_laws.of_promises.of_rules.Logs.{decided, first_of}
use Rattle.mega_run_laws.specs.of_tape_laws.of_promises.of_rules.Operations.{Node}
use Rattle.mega_run_laws.specs.of_tape_laws.of_promises.of_rules.Steps.{Begin, Step, Take, Tick, onto, op_of, start_items, step}
use Rattle.mega_run_laws.specs.of_tape_laws.of_promises.Items.{number, numbered, shown}
use Rattle.mega_run_laws.specs.of_tape_laws.of_promises.Messages.{message_of, next_delivery}
use Rattle.mega_run_laws.specs.of_tape_laws.of_promises.Runs.{Calls, CutByData, CutByLog, Cuts, Fate, Fuse, Happening, Left, Standing, Whole, after_event, at_node, calls_of, crashes, cut_step, delivered, drained, fate_by, fated, fated_start, goes_on, handed, is_kept, marked, nothing_yet, opening, owes, refusal, replies_in, set_at, setting, start_calls, unless_none, unless_refused, up, whole_start, whole_step, with_item, with_items}
use Rattle.mega_run_laws.specs.of_tape_laws.Places.{In}
use Rattle.mega_node_laws.proofs.Ending.{step_met}
use Rattle.mega_run_laws.proofs.Sending.{Stood}
use Rattle.mega_run_laws.proofs.Standing.{sends_on}
use Rattle.mega_run_laws.proofs.Turns.{Known}
use Rattle.mega_run_laws.proofs.Whole.{in_left, in_right, with_stood_one, in_shown, with_stands}

-- ---- items that come onto a tape

with_items_stood : (c : Cluster) (nodes : ℕ → Node) (items tape : List Item) → Stood tape (with_items c nodes tape items)
with_items_stood c nodes [] tape other s = s
with_items_stood c nodes (item ∷ items) tape other s = with_items_stood c nodes items (with_item c nodes tape item) other (with_stood_one c nodes tape item other s)

-- ---- what comes to be decided

-- it was decided before, or is decided by this
decided_by : (one : Met) (met : List Met) (g : GroupId) (n : ℕ) (e : Content) → decided (one ∷ met) g n ≡ Some e → (one ≡ Decides g n e) ⊎ (decided met g n ≡ Some e)
decided_by (Decides group position entry) met g n e h = by (same_group group g) (position == n) refl refl h
  where
    firstly : group ≡ g → position ≡ n → (o : Option Content) → decided met g n ≡ o → first_of o entry ≡ Some e → (Decides group position entry ≡ Decides g n e) ⊎ (decided met g n ≡ Some e)
    firstly a b None was k = let same : entry ≡ e = cc in inl (λ i. Decides (a i) (b i) (same i))
    firstly a b (Some found) was k = inr (was ∙ k)

    by : (a b : Bool) → same_group group g ≡ a → (position == n) ≡ b → cond (a && b) (first_of (decided met g n) entry) (decided met g n) ≡ Some e → (Decides group position entry ≡ Decides g n e) ⊎ (decided met g n ≡ Some e)
    by true true a b k = firstly (same_group_equal group g a) (eqb-true position n b) (decided met g n) refl k
    by true false a b k = inr k
    by false b a c k = inr k
decided_by _ met g n e h = inr h

decided_among : (items met : List Met) (g : GroupId) (n : ℕ) (e : Content) → decided (onto items met) g n ≡ Some e → In (Decides g n e) items ⊎ (decided met g n ≡ Some e)
decided_among [] met g n e h = inr h
decided_among (one ∷ items) met g n e h = elim (decided_among items (one ∷ met) g n e h) [
  | inl i ↦ inl (inr i)
  | inr k ↦ elim (decided_by one met g n e k) [ inl same ↦ inl (inl same) | inr was ↦ inr was ]
]

-- a node that decided no more
known_stood : (me : ℕ) (met more : List Met) (old new : List Item) → ((g : GroupId) (n : ℕ) → decided more g n ≡ decided met g n) → Stood old new → Known me met old → Known me more new
known_stood me met more old new same stood known g n e h = stood (Decide (number me) g (record { 0 = n }) e) (known g n e (sym (same g n) ∙ h))

-- a node that noted what these items show
known_shown : (c : Cluster) (nodes : ℕ → Node) (me : ℕ) (met notes : List Met) (items tape : List Item)
    → ((item : Item) → In item (flat_map (shown me) notes) → In item items) → Known me met tape → Known me (onto notes met) (with_items c nodes tape items)
known_shown c nodes me met notes items tape among known g n e h = elim (decided_among notes met g n e h) [
  | inl i ↦ with_stands c nodes items tape (Decide (number me) g (record { 0 = n }) e) (among (Decide (number me) g (record { 0 = n }) e) (in_shown me g n e notes i))
  | inr was ↦ with_items_stood c nodes items tape (Decide (number me) g (record { 0 = n }) e) (known g n e was)
]

-- ---- standings

-- what each node decided stands on the tape
abbrev pub EachKnows : Standing → Type 0
EachKnows now = (me : ℕ) → Known me (now.node me).met now.tape

-- one node met more
told_at : (tape more : List Item) (node : ℕ → Node) (me : ℕ) (next : Node) → Stood tape more → Known me next.met more → ((other : ℕ) → Known other (node other).met tape)
    → (other : ℕ) → Known other (set_at node me next other).met more
told_at tape more node me next stood known told other = by (me == other) refl
  where
    by : (t : Bool) → (me == other) ≡ t → Known other (cond t next (node other)).met more
    by true is = subst (λ v. Known v next.met more) (eqb-true me other is) known
    by false is = known_stood other (node other).met (node other).met tape more (λ g n. refl) stood (told other)

module _ (c : Cluster) where
  whole_told : (now : Standing) (me : ℕ) (own : List Item) (first : Met) (made : Step) → ((g : GroupId) (n : ℕ) → decided (first ∷ (now.node me).met) g n ≡ decided (now.node me).met g n)
      → made.node.met ≡ onto (map Sends made.sends) (onto made.notes (first ∷ (now.node me).met)) → EachKnows now → EachKnows (whole_step c now me own made)
  whole_told now me own first made none is told =
      told_at now.tape (with_items c (set_at now.node me made.node) now.tape items) now.node me made.node (with_items_stood c (set_at now.node me made.node) items now.tape) known told
    where
      items : List Item
      items = (own ++ flat_map (shown me) made.notes) ++ numbered (sent_count now.tape + 1) made.sends

      noted : Known me (onto made.notes (first ∷ (now.node me).met)) (with_items c (set_at now.node me made.node) now.tape items)
      noted = known_shown c (set_at now.node me made.node) me (first ∷ (now.node me).met) made.notes items now.tape
          (λ item i. in_left item (own ++ flat_map (shown me) made.notes) (numbered (sent_count now.tape + 1) made.sends) (in_right item own (flat_map (shown me) made.notes) i))
          (known_stood me (now.node me).met (first ∷ (now.node me).met) now.tape now.tape none (λ item s. s) (told me))

      known : Known me made.node.met (with_items c (set_at now.node me made.node) now.tape items)
      known = subst (λ met. Known me met (with_items c (set_at now.node me made.node) now.tape items)) (sym is)
          (known_stood me (onto made.notes (first ∷ (now.node me).met)) (onto (map Sends made.sends) (onto made.notes (first ∷ (now.node me).met)))
          (with_items c (set_at now.node me made.node) now.tape items) (with_items c (set_at now.node me made.node) now.tape items) (sends_on made.sends (onto made.notes (first ∷ (now.node me).met))).decides (λ item s. s) noted)

  cut_told : (now : Standing) (me : ℕ) (own : List Item) (first : Met) (left : Left) (owed : List Met) (log_fuse data_fuse : ℕ → Option Fuse)
      → ((g : GroupId) (n : ℕ) → decided (first ∷ (now.node me).met) g n ≡ decided (now.node me).met g n) → EachKnows now → EachKnows (cut_step c now me own first left owed log_fuse data_fuse)
  cut_told now me own first left owed log_fuse data_fuse none told =
      told_at now.tape (with_items c (set_at now.node me next) now.tape (own ++ shown me Crashes)) now.node me next (with_items_stood c (set_at now.node me next) (own ++ shown me Crashes) now.tape)
      (known_stood me (now.node me).met next.met now.tape (with_items c (set_at now.node me next) now.tape (own ++ shown me Crashes)) none (with_items_stood c (set_at now.node me next) (own ++ shown me Crashes) now.tape) (told me)) told
    where
      next : Node
      next = record { met = Crashes ∷ first ∷ (now.node me).met; open_operations = []; stored = (now.node me).stored }

  fated_told : (now : Standing) (me : ℕ) (own : List Item) (first : Met) (made : Step) (replies : List Message) (fate : Fate)
      → ((g : GroupId) (n : ℕ) → decided (first ∷ (now.node me).met) g n ≡ decided (now.node me).met g n)
      → made.node.met ≡ onto (map Sends made.sends) (onto made.notes (first ∷ (now.node me).met)) → EachKnows now → EachKnows (fated c now me own first made replies fate)
  fated_told now me own first made replies Whole none is told = whole_told now me own first made none is told
  fated_told now me own first made replies (CutByLog left) none is told =
      cut_told now me own first left (cond (is_kept left) (owes made replies) []) (set_at now.log_fuse me None) now.data_fuse none told
  fated_told now me own first made replies (CutByData left) none is told = cut_told now me own first left [] now.log_fuse (set_at now.data_fuse me None) none told

  tick_told : (h : Meanings) (now : Standing) (me clock : ℕ) (cut : Calls → Fate) → EachKnows now → EachKnows (at_node c h now me (shown me (Ticks clock)) (Tick clock) cut)
  tick_told h now me clock cut told =
      let made = step (setting c h me) (now.node me) (Tick clock) in
      fated_told now me (shown me (Ticks clock)) (Ticks clock) made [] (fate_by now me cut (calls_of c h now me (Tick clock) made)) (λ g n. refl) (step_met (setting c h me) (now.node me) (Tick clock)) told

  take_told : (h : Meanings) (now : Standing) (me : ℕ) (own : List Item) (message : Message) (cut : Calls → Fate) → EachKnows now → EachKnows (at_node c h now me own (Take message) cut)
  take_told h now me own message cut told =
      let made = step (setting c h me) (now.node me) (Take message) in
      fated_told now me own (Takes message) made (replies_in c me (now.node me).met (Take message)) (fate_by now me cut (calls_of c h now me (Take message) made)) (λ g n. refl) (step_met (setting c h me) (now.node me) (Take message)) told

  begin_told : (h : Meanings) (now : Standing) (me : ℕ) (request : Request) (text : List ℕ) (cut : Calls → Fate) → EachKnows now
      → EachKnows (at_node c h now me (shown me (Begins (op_of (setting c h me) (now.node me).met) text)) (Begin request text) cut)
  begin_told h now me request text cut told =
      let made = step (setting c h me) (now.node me) (Begin request text) in
      let own = Begins (op_of (setting c h me) (now.node me).met) text in
      fated_told now me (shown me own) own made [] (fate_by now me cut (calls_of c h now me (Begin request text) made)) (λ g n. refl) (step_met (setting c h me) (now.node me) (Begin request text)) told

  -- ---- starts and crashes

  crash_told : (now : Standing) (me : ℕ) → EachKnows now → EachKnows (crashes now me)
  crash_told now me told =
      told_at now.tape (flat_map (shown me) (Crashes ∷ []) ++ now.tape) now.node me next (λ item s. inr s)
      (known_stood me (now.node me).met next.met now.tape (flat_map (shown me) (Crashes ∷ []) ++ now.tape) (λ g n. refl) (λ item s. inr s) (told me)) told
    where
      next : Node
      next = record { met = Crashes ∷ (now.node me).met; open_operations = []; stored = (now.node me).stored }

  start_told : (now : Standing) (me : ℕ) (items : List Met) (node : Node) → node.met ≡ onto items (now.node me).met → EachKnows now → EachKnows (whole_start c now me items node)
  start_told now me items node is told =
      told_at now.tape (with_items c (set_at now.node me node) now.tape (flat_map (shown me) items)) now.node me node (with_items_stood c (set_at now.node me node) (flat_map (shown me) items) now.tape)
      (subst (λ met. Known me met (with_items c (set_at now.node me node) now.tape (flat_map (shown me) items))) (sym is)
      (known_shown c (set_at now.node me node) me (now.node me).met items (flat_map (shown me) items) now.tape (λ item i. i) (told me))) told

  fated_start_told : (h : Meanings) (now : Standing) (me : ℕ) (fate : Fate) → EachKnows now → EachKnows (fated_start c h now me fate)
  fated_start_told h now me Whole told = start_told now me (start_items (setting c h me) (now.starts me + 1) (now.owed me) (now.node me).met) _ refl told
  fated_start_told h now me (CutByLog left) told = crash_told now me told
  fated_start_told h now me (CutByData left) told = crash_told now me told

  -- ---- events

  marked_told : (now : Standing) (item : Item) → EachKnows now → EachKnows (marked now item)
  marked_told now item told me g n e h = inr (told me g n e h)

  handed_told : (h : Meanings) (cuts : Cuts) (now : Standing) (k : ℕ) (o : Option Message) → EachKnows now → EachKnows (handed c h cuts now k o)
  handed_told h cuts now k None told = told
  handed_told h cuts now k (Some message) told = take_told h now message.to (Taken k ∷ []) message (cuts now message.to) told

  drained_told : (h : Meanings) (cuts : Cuts) (most : ℕ) (now : Standing) → EachKnows now → EachKnows (drained c h cuts now most)
  drained_told h cuts zero now told = by (next_delivery (up now) now.tape)
    where
      by : (o : Option ℕ) → EachKnows (unless_none now (λ k. marked now CutItem) o)
      by None = told
      by (Some k) = marked_told now CutItem told
  drained_told h cuts (suc most) now told =
      by (next_delivery (up now) now.tape) (λ k. drained_told h cuts most (delivered c h cuts now k) (handed_told h cuts now k (message_of now.tape k) told))
    where
      by : (o : Option ℕ) → ((k : ℕ) → EachKnows (drained c h cuts (delivered c h cuts now k) most)) → EachKnows (unless_none now (λ k. drained c h cuts (delivered c h cuts now k) most) o)
      by None more = told
      by (Some k) more = more k

  event_told : (h : Meanings) (cuts : Cuts) (now : Standing) (event : WorldEvent) → EachKnows now → EachKnows (after_event c h cuts now event)
  event_told h cuts now (TickEvent node clock) told = tick_told h now node.0 clock (cuts now node.0) told
  event_told h cuts now (Deliver message) told = handed_told h cuts now message (message_of now.tape message) told
  event_told h cuts now (Drop message) told = marked_told now (Dropped message) told
  event_told h cuts now (Drain most) told = drained_told h cuts most now told
  event_told h cuts now (CrashEvent node) told = crash_told now node.0 told
  event_told h cuts now (StartEvent node) told = fated_start_told h now node.0 (fate_by now node.0 (cuts now node.0) (start_calls c node.0)) told
  event_told h cuts now (FuseEvent node calls image Log) told = told
  event_told h cuts now (FuseEvent node calls image Data) told = told
  event_told h cuts now (BeginEvent node request text) told = begin_told h now node.0 request text (cuts now node.0) told

  unless_told : (now next : Standing) (o : Option ℕ) → EachKnows now → EachKnows next → EachKnows (unless_refused now next o)
  unless_told now next None told then = then
  unless_told now next (Some why) told then = told

  goes_on_told : (cuts : Cuts) (events : List Happening) (now : Standing) → EachKnows now → EachKnows (goes_on c cuts now events)
  goes_on_told cuts [] now told = told
  goes_on_told cuts (one ∷ events) now told =
      goes_on_told cuts events (unless_refused now (after_event c one.handlers cuts now one.event) (refusal c now one.event))
      (unless_told now (after_event c one.handlers cuts now one.event) (refusal c now one.event) told (event_told one.handlers cuts now one.event told))

  started_told : (h : Meanings) (those : List ℕ) (now : Standing) → EachKnows now → EachKnows (fold (λ now me. fated_start c h now me Whole) now those)
  started_told h [] now told = told
  started_told h (me ∷ those) now told = started_told h those (fated_start c h now me Whole) (fated_start_told h now me Whole told)

  nothing_told : EachKnows nothing_yet
  nothing_told me g n e h = cc

  pub run_told : (first : Meanings) (cuts : Cuts) (events : List Happening) → EachKnows (goes_on c cuts (opening c first) events)
  run_told first cuts events = goes_on_told cuts events (opening c first) (started_told first (nodes c) nothing_yet nothing_told)
