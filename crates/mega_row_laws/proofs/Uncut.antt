-- A run may go on from where it stands with a step that nothing cuts, whatever fuses are set: its fuse is set anew.
use Rattle.std.proofs.Common.{◌≡◌, ◌≤◌, ◌<◌, ◌+◌, ◌==◌, ◌&&◌, not, ℕ, zero, suc, cond, Bool, true, false, List, [], ◌∷◌, ◌++◌, length, flat_map, fold, nat_lt, refl, sym, ap, ◌∙◌, arith, eqb-true, le-ltb, lt-ltb, length-append, Option, Some, None}
use Rattle.mega_cluster.specs.declared.cluster.Cluster.{Cluster}
use Rattle.mega_disk.specs.declared.pair.Device.TheVariants.{Log, Data}
use Rattle.mega_wire.specs.declared.message.Message.{Message}
use Rattle.mega_handler.specs.Named.{Meanings}
use Rattle.mega_run_laws.specs.of_tape_laws.of_promises.of_schedule.declared.world_event.WorldEvent.{WorldEvent}
use Rattle.mega_run_laws.specs.of_tape_laws.of_promises.of_schedule.declared.world_event.WorldEvent.TheVariants.{Tick as TickEvent, Deliver, Drop, Drain, Crash as CrashEvent, Start as StartEvent, Fuse as FuseEvent, Begin as BeginEvent}
use Rattle.mega_run_laws.specs.of_tape_laws.of_promises.of_transcript.declared.item.Item.{Item}
use Rattle.mega_run_laws.specs.of_tape_laws.of_promises.of_transcript.declared.item.Item.TheVariants.{Cut as CutItem, Taken, Unsafe}
use Rattle.mega_run_laws.specs.of_tape_laws.of_promises.of_transcript.Tape.{sent_count}
use Rattle.mega_run_laws.specs.of_tape_laws.of_promises.of_rules.Met.{Met, Begins, Crashes, Starts, Ticks}
use Rattle.mega_run_laws.specs.of_tape_laws.of_promises.of_rules.Members.{is_node, nodes}
use Rattle.mega_run_laws.specs.of_tape_laws.of_promises.of_rules.Operations.{Node}
use Rattle.mega_run_laws.specs.of_tape_laws.of_promises.of_rules.Steps.{Begin, Event, Step, Take, Tick, onto, op_of, start, start_items, start_notes, step}
use Rattle.mega_run_laws.specs.of_tape_laws.of_promises.Items.{numbered, shown}
use Rattle.mega_run_laws.specs.of_tape_laws.of_promises.Messages.{is_unsafe, message_of, next_delivery}
use Rattle.mega_run_laws.specs.of_tape_laws.of_promises.Runs.{AsItWas, Calls, CutByData, CutByLog, Cuts, Fate, Fuse, Happening, Standing, Whole, after_append, after_event, appends, at_node, because, breaks, calls_of, delivered, drained, fate_by, fate_of, fated, fated_start, goes_on, handed, is_burning, is_kept, marked, met_in, new_fuse, nothing_yet, opening, refusal, replies_in, set_at, setting, start_calls, unless_none, unless_refused, up, whole_step, with_item, with_items}

-- ---- a step that nothing cuts

is_whole : (now : Standing) (me : ℕ) (calls : Calls) → is_burning (now.log_fuse me) ≡ false → fate_of now me calls Whole ≡ Whole
is_whole now me calls free = by calls.appends (is_burning (now.log_fuse me)) free
  where
    by : (a b : Bool) → b ≡ false → cond (not (a && b)) Whole (cond (a && b) (CutByLog AsItWas) Whole) ≡ Whole
    by true true none = cc
    by true false none = refl
    by false b none = refl

pub step_whole : (c : Cluster) (h : Meanings) (now : Standing) (me : ℕ) (own : List Item) (event : Event) (cut : Calls → Fate) → cut ≡ (λ calls. Whole) → is_burning (now.log_fuse me) ≡ false
    → at_node c h now me own event cut ≡ whole_step c now me own (step (setting c h me) (now.node me) event)
step_whole c h now me own event cut is free =
    ap (at_node c h now me own event) is
    ∙ ap (fated c now me own (met_in (setting c h me) (now.node me).met event) (step (setting c h me) (now.node me) event) (replies_in c me (now.node me).met event))
    (is_whole now me (calls_of c h now me event (step (setting c h me) (now.node me) event)) free)

-- ---- tapes grow

item_longer : (c : Cluster) (nodes : ℕ → Node) (tape : List Item) (item : Item) → suc (length tape) ≤ length (with_item c nodes tape item)
item_longer c nodes tape item = by (breaks c nodes item && not (is_unsafe tape))
  where
    by : (t : Bool) → suc (length tape) ≤ length (cond t (Unsafe ∷ item ∷ tape) (item ∷ tape))
    by true = omega arith
    by false = omega arith

items_longer : (c : Cluster) (nodes : ℕ → Node) (items tape : List Item) → length tape + length items ≤ length (with_items c nodes tape items)
items_longer c nodes [] tape = omega arith
items_longer c nodes (item ∷ items) tape =
    let one = item_longer c nodes tape item in
    let more = items_longer c nodes items (with_item c nodes tape item) in
    omega (arith, one, more)

module _ (c : Cluster) where
  fated_longer : (now : Standing) (me : ℕ) (own : List Item) (first : Met) (made : Step) (replies : List Message) (fate : Fate) → 1 ≤ length own
      → suc (length now.tape) ≤ length (fated c now me own first made replies fate).tape
  fated_longer now me own first made replies Whole some =
      let notes = flat_map (shown me) made.notes in
      let sends = numbered (sent_count now.tape + 1) made.sends in
      let more = items_longer c (set_at now.node me made.node) ((own ++ notes) ++ sends) now.tape in
      let a = length-append (own ++ notes) sends in
      let b = length-append own notes in
      omega (arith, some, more, a, b)
  fated_longer now me own first made replies (CutByLog left) some =
      let more = items_longer c (set_at now.node me (record { met = Crashes ∷ first ∷ (now.node me).met; open_operations = []; stored = (now.node me).stored })) (own ++ shown me Crashes) now.tape in
      let a = length-append own (shown me Crashes) in
      omega (arith, some, more, a)
  fated_longer now me own first made replies (CutByData left) some =
      let more = items_longer c (set_at now.node me (record { met = Crashes ∷ first ∷ (now.node me).met; open_operations = []; stored = (now.node me).stored })) (own ++ shown me Crashes) now.tape in
      let a = length-append own (shown me Crashes) in
      omega (arith, some, more, a)

  node_longer : (h : Meanings) (now : Standing) (me : ℕ) (own : List Item) (event : Event) (cut : Calls → Fate) → 1 ≤ length own → suc (length now.tape) ≤ length (at_node c h now me own event cut).tape
  node_longer h now me own event cut some =
      fated_longer now me own (met_in (setting c h me) (now.node me).met event) (step (setting c h me) (now.node me) event) (replies_in c me (now.node me).met event)
      (fate_by now me cut (calls_of c h now me event (step (setting c h me) (now.node me) event))) some

  start_longer : (h : Meanings) (now : Standing) (me : ℕ) (fate : Fate) → suc (length now.tape) ≤ length (fated_start c h now me fate).tape
  start_longer h now me Whole =
      let s = setting c h me in
      let number = now.starts me + 1 in
      let owed = now.owed me in
      let rest = flat_map (shown me) (owed ++ start_notes s (onto owed (Starts number ∷ (now.node me).met))) in
      let more = items_longer c (set_at now.node me (start s number owed (now.node me).met)) (flat_map (shown me) (start_items s number owed (now.node me).met)) now.tape in
      let long : length (flat_map (shown me) (start_items s number owed (now.node me).met)) ≡ suc (length rest) = refl in
      omega (arith, more, long)
  start_longer h now me (CutByLog left) = omega arith
  start_longer h now me (CutByData left) = omega arith

  handed_longer : (h : Meanings) (cuts : Cuts) (now : Standing) (k : ℕ) (o : Option Message) → length now.tape ≤ length (handed c h cuts now k o).tape
  handed_longer h cuts now k None = omega arith
  handed_longer h cuts now k (Some message) = let more = node_longer h now message.to (Taken k ∷ []) (Take message) (cuts now message.to) (omega arith) in omega (arith, more)

  drained_longer : (h : Meanings) (cuts : Cuts) (most : ℕ) (now : Standing) → length now.tape ≤ length (drained c h cuts now most).tape
  drained_longer h cuts zero now = by (next_delivery (up now) now.tape)
    where
      by : (o : Option ℕ) → length now.tape ≤ length (unless_none now (λ k. marked now CutItem) o).tape
      by None = omega arith
      by (Some k) = omega arith
  drained_longer h cuts (suc most) now =
      by (next_delivery (up now) now.tape) (λ k.
      let one = handed_longer h cuts now k (message_of now.tape k) in
      let more = drained_longer h cuts most (delivered c h cuts now k) in
      omega (arith, one, more))
    where
      by : (o : Option ℕ) → ((k : ℕ) → length now.tape ≤ length (drained c h cuts (delivered c h cuts now k) most).tape)
          → length now.tape ≤ length (unless_none now (λ k. drained c h cuts (delivered c h cuts now k) most) o).tape
      by None more = omega arith
      by (Some k) more = more k

  event_longer : (h : Meanings) (cuts : Cuts) (now : Standing) (event : WorldEvent) → length now.tape ≤ length (after_event c h cuts now event).tape
  event_longer h cuts now (TickEvent node clock) = let more = node_longer h now node.0 (shown node.0 (Ticks clock)) (Tick clock) (cuts now node.0) (omega arith) in omega (arith, more)
  event_longer h cuts now (Deliver k) = handed_longer h cuts now k (message_of now.tape k)
  event_longer h cuts now (Drop k) = omega arith
  event_longer h cuts now (Drain most) = drained_longer h cuts most now
  event_longer h cuts now (CrashEvent node) = omega arith
  event_longer h cuts now (StartEvent node) = let more = start_longer h now node.0 (fate_by now node.0 (cuts now node.0) (start_calls c node.0)) in omega (arith, more)
  event_longer h cuts now (FuseEvent node calls image Log) = omega arith
  event_longer h cuts now (FuseEvent node calls image Data) = omega arith
  event_longer h cuts now (BeginEvent node request text) =
      let more = node_longer h now node.0 (shown node.0 (Begins (op_of (setting c h node.0) (now.node node.0).met) text)) (Begin request text) (cuts now node.0) (omega arith) in omega (arith, more)

  unless_longer : (now next : Standing) (o : Option ℕ) → length now.tape ≤ length next.tape → length now.tape ≤ length (unless_refused now next o).tape
  unless_longer now next None le = le
  unless_longer now next (Some why) le = omega arith

  abbrev happens : Cuts → Standing → Happening → Standing
  happens cuts now one = unless_refused now (after_event c one.handlers cuts now one.event) (refusal c now one.event)

  goes_longer : (cuts : Cuts) (events : List Happening) (now : Standing) → length now.tape ≤ length (goes_on c cuts now events).tape
  goes_longer cuts [] now = omega arith
  goes_longer cuts (one ∷ events) now =
      let first = unless_longer now (after_event c one.handlers cuts now one.event) (refusal c now one.event) (event_longer one.handlers cuts now one.event) in
      let more = goes_longer cuts events (happens cuts now one) in
      omega (arith, first, more)

-- ---- what is cut on shorter tapes is cut still, and nothing on longer ones

abbrev pub until : ℕ → Cuts → Cuts
until long cuts now me calls = cond (nat_lt (length now.tape) long) (cuts now me calls) Whole

before_is : (long : ℕ) (cuts : Cuts) (now : Standing) (me : ℕ) → length now.tape < long → until long cuts now me ≡ cuts now me
before_is long cuts now me less = ap (λ t calls. cond t (cuts now me calls) Whole) (lt-ltb (length now.tape) long less)

pub behind_is : (long : ℕ) (cuts : Cuts) (now : Standing) (me : ℕ) → long ≤ length now.tape → until long cuts now me ≡ (λ calls. Whole)
behind_is long cuts now me le = ap (λ t calls. cond t (cuts now me calls) Whole) (le-ltb (length now.tape) long le)

module _ (c : Cluster) (long : ℕ) (cuts : Cuts) where
  cut_same : (now : Standing) (me : ℕ) (next : (Calls → Fate) → Standing) → suc (length now.tape) ≤ length (next (cuts now me)).tape → length (next (cuts now me)).tape ≤ long
      → next (until long cuts now me) ≡ next (cuts now me)
  cut_same now me next grows le = ap next (before_is long cuts now me (omega (arith, grows, le)))

  handed_same : (h : Meanings) (now : Standing) (k : ℕ) (o : Option Message) → length (handed c h cuts now k o).tape ≤ long → handed c h (until long cuts) now k o ≡ handed c h cuts now k o
  handed_same h now k None le = refl
  handed_same h now k (Some message) le =
      cut_same now message.to (at_node c h now message.to (Taken k ∷ []) (Take message)) (node_longer c h now message.to (Taken k ∷ []) (Take message) (cuts now message.to) (omega arith)) le

  drained_same : (h : Meanings) (most : ℕ) (now : Standing) → length (drained c h cuts now most).tape ≤ long → drained c h (until long cuts) now most ≡ drained c h cuts now most
  drained_same h zero now le = refl
  drained_same h (suc most) now le = by (next_delivery (up now) now.tape) (λ k less.
      let grows = drained_longer c h cuts most (delivered c h cuts now k) in
      ap (λ next. drained c h (until long cuts) next most) (handed_same h now k (message_of now.tape k) (omega (arith, grows, less)))
      ∙ drained_same h most (delivered c h cuts now k) less) le
    where
      by : (o : Option ℕ) → ((k : ℕ) → length (drained c h cuts (delivered c h cuts now k) most).tape ≤ long
          → drained c h (until long cuts) (delivered c h (until long cuts) now k) most ≡ drained c h cuts (delivered c h cuts now k) most)
          → length (unless_none now (λ k. drained c h cuts (delivered c h cuts now k) most) o).tape ≤ long
          → unless_none now (λ k. drained c h (until long cuts) (delivered c h (until long cuts) now k) most) o ≡ unless_none now (λ k. drained c h cuts (delivered c h cuts now k) most) o
      by None more less = refl
      by (Some k) more less = more k less

  event_same : (h : Meanings) (now : Standing) (event : WorldEvent) → length (after_event c h cuts now event).tape ≤ long → after_event c h (until long cuts) now event ≡ after_event c h cuts now event
  event_same h now (TickEvent node clock) le =
      cut_same now node.0 (at_node c h now node.0 (shown node.0 (Ticks clock)) (Tick clock)) (node_longer c h now node.0 (shown node.0 (Ticks clock)) (Tick clock) (cuts now node.0) (omega arith)) le
  event_same h now (Deliver k) le = handed_same h now k (message_of now.tape k) le
  event_same h now (Drop k) le = refl
  event_same h now (Drain most) le = drained_same h most now le
  event_same h now (CrashEvent node) le = refl
  event_same h now (StartEvent node) le =
      cut_same now node.0 (λ cut. fated_start c h now node.0 (fate_by now node.0 cut (start_calls c node.0))) (start_longer c h now node.0 (fate_by now node.0 (cuts now node.0) (start_calls c node.0))) le
  event_same h now (FuseEvent node calls image Log) le = refl
  event_same h now (FuseEvent node calls image Data) le = refl
  event_same h now (BeginEvent node request text) le =
      cut_same now node.0 (at_node c h now node.0 (shown node.0 (Begins (op_of (setting c h node.0) (now.node node.0).met) text)) (Begin request text))
      (node_longer c h now node.0 (shown node.0 (Begins (op_of (setting c h node.0) (now.node node.0).met) text)) (Begin request text) (cuts now node.0) (omega arith)) le

  unless_same : (now next other : Standing) (o : Option ℕ) → length (unless_refused now next o).tape ≤ long → (length next.tape ≤ long → other ≡ next) → unless_refused now other o ≡ unless_refused now next o
  unless_same now next other None le same = same le
  unless_same now next other (Some why) le same = refl

  pub goes_same : (events : List Happening) (now : Standing) → length (goes_on c cuts now events).tape ≤ long → goes_on c (until long cuts) now events ≡ goes_on c cuts now events
  goes_same [] now le = refl
  goes_same (one ∷ events) now le =
      let grows = goes_longer c cuts events (happens c cuts now one) in
      let first = unless_same now (after_event c one.handlers cuts now one.event) (after_event c one.handlers (until long cuts) now one.event) (refusal c now one.event) (omega (arith, grows, le)) (event_same one.handlers now one.event) in
      ap (λ next. goes_on c (until long cuts) next events) first ∙ goes_same events (happens c cuts now one) le

-- ---- only the fuses of nodes are set

abbrev pub SetAtNodes : Cluster → (ℕ → Option Fuse) → Type 0
SetAtNodes c fuses = (me : ℕ) → is_node c me ≡ false → fuses me ≡ None

module _ (c : Cluster) where
  fuse_at : (fuses : ℕ → Option Fuse) (me : ℕ) (fuse : Option Fuse) → SetAtNodes c fuses → (fuses me ≡ None → fuse ≡ None) → SetAtNodes c (set_at fuses me fuse)
  fuse_at fuses me fuse nodes stays other none = by (me == other) refl
    where
      by : (t : Bool) → (me == other) ≡ t → cond t fuse (fuses other) ≡ None
      by true is = stays (ap fuses (eqb-true me other is) ∙ nodes other none)
      by false is = nodes other none

  appended : (t : Bool) (fuse : Option Fuse) → fuse ≡ None → cond t (after_append fuse) fuse ≡ None
  appended true fuse none = ap after_append none
  appended false fuse none = none

  fated_nodes : (now : Standing) (me : ℕ) (own : List Item) (first : Met) (made : Step) (replies : List Message) (fate : Fate) → SetAtNodes c now.log_fuse → SetAtNodes c (fated c now me own first made replies fate).log_fuse
  fated_nodes now me own first made replies Whole nodes = fuse_at now.log_fuse me (cond (appends made) (after_append (now.log_fuse me)) (now.log_fuse me)) nodes (appended (appends made) (now.log_fuse me))
  fated_nodes now me own first made replies (CutByLog left) nodes = fuse_at now.log_fuse me None nodes (λ none. refl)
  fated_nodes now me own first made replies (CutByData left) nodes = nodes

  node_nodes : (h : Meanings) (now : Standing) (me : ℕ) (own : List Item) (event : Event) (cut : Calls → Fate) → SetAtNodes c now.log_fuse → SetAtNodes c (at_node c h now me own event cut).log_fuse
  node_nodes h now me own event cut nodes =
      fated_nodes now me own (met_in (setting c h me) (now.node me).met event) (step (setting c h me) (now.node me) event) (replies_in c me (now.node me).met event)
      (fate_by now me cut (calls_of c h now me event (step (setting c h me) (now.node me) event))) nodes

  start_nodes : (h : Meanings) (now : Standing) (me : ℕ) (fate : Fate) → SetAtNodes c now.log_fuse → SetAtNodes c (fated_start c h now me fate).log_fuse
  start_nodes h now me Whole nodes = fuse_at now.log_fuse me (after_append (now.log_fuse me)) nodes (appended true (now.log_fuse me))
  start_nodes h now me (CutByLog left) nodes = fuse_at now.log_fuse me None nodes (λ none. refl)
  start_nodes h now me (CutByData left) nodes = fuse_at now.log_fuse me (cond (is_kept left) (after_append (now.log_fuse me)) (now.log_fuse me)) nodes (appended (is_kept left) (now.log_fuse me))

  handed_nodes : (h : Meanings) (cuts : Cuts) (now : Standing) (k : ℕ) (o : Option Message) → SetAtNodes c now.log_fuse → SetAtNodes c (handed c h cuts now k o).log_fuse
  handed_nodes h cuts now k None nodes = nodes
  handed_nodes h cuts now k (Some message) nodes = node_nodes h now message.to (Taken k ∷ []) (Take message) (cuts now message.to) nodes

  drained_nodes : (h : Meanings) (cuts : Cuts) (most : ℕ) (now : Standing) → SetAtNodes c now.log_fuse → SetAtNodes c (drained c h cuts now most).log_fuse
  drained_nodes h cuts zero now nodes = by (next_delivery (up now) now.tape)
    where
      by : (o : Option ℕ) → SetAtNodes c (unless_none now (λ k. marked now CutItem) o).log_fuse
      by None = nodes
      by (Some k) = nodes
  drained_nodes h cuts (suc most) now nodes =
      by (next_delivery (up now) now.tape) (λ k. drained_nodes h cuts most (delivered c h cuts now k) (handed_nodes h cuts now k (message_of now.tape k) nodes))
    where
      by : (o : Option ℕ) → ((k : ℕ) → SetAtNodes c (drained c h cuts (delivered c h cuts now k) most).log_fuse) → SetAtNodes c (unless_none now (λ k. drained c h cuts (delivered c h cuts now k) most) o).log_fuse
      by None more = nodes
      by (Some k) more = more k

  fused_nodes : (now : Standing) (me calls image : ℕ) (t : Bool) → is_node c me ≡ t → because (not t) 6 None ≡ None → SetAtNodes c now.log_fuse → SetAtNodes c (set_at now.log_fuse me (new_fuse calls image))
  fused_nodes now me calls image false at is only other none = absurd (cc)
  fused_nodes now me calls image true at is only other none = by (me == other) refl
    where
      by : (t : Bool) → (me == other) ≡ t → cond t (new_fuse calls image) (now.log_fuse other) ≡ None
      by true same = let both : true ≡ false = sym at ∙ ap (is_node c) (eqb-true me other same) ∙ none in absurd (cc)
      by false same = only other none

  event_nodes : (h : Meanings) (cuts : Cuts) (now : Standing) (event : WorldEvent) (o : Option ℕ) → refusal c now event ≡ o → SetAtNodes c now.log_fuse → SetAtNodes c (unless_refused now (after_event c h cuts now event) o).log_fuse
  event_nodes h cuts now event (Some why) is nodes = nodes
  event_nodes h cuts now (TickEvent node clock) None is nodes = node_nodes h now node.0 (shown node.0 (Ticks clock)) (Tick clock) (cuts now node.0) nodes
  event_nodes h cuts now (Deliver k) None is nodes = handed_nodes h cuts now k (message_of now.tape k) nodes
  event_nodes h cuts now (Drop k) None is nodes = nodes
  event_nodes h cuts now (Drain most) None is nodes = drained_nodes h cuts most now nodes
  event_nodes h cuts now (CrashEvent node) None is nodes = nodes
  event_nodes h cuts now (StartEvent node) None is nodes = start_nodes h now node.0 (fate_by now node.0 (cuts now node.0) (start_calls c node.0)) nodes
  event_nodes h cuts now (FuseEvent node calls image Log) None is nodes = fused_nodes now node.0 calls image (is_node c node.0) refl is nodes
  event_nodes h cuts now (FuseEvent node calls image Data) None is nodes = nodes
  event_nodes h cuts now (BeginEvent node request text) None is nodes =
      node_nodes h now node.0 (shown node.0 (Begins (op_of (setting c h node.0) (now.node node.0).met) text)) (Begin request text) (cuts now node.0) nodes

  goes_on_nodes : (cuts : Cuts) (events : List Happening) (now : Standing) → SetAtNodes c now.log_fuse → SetAtNodes c (goes_on c cuts now events).log_fuse
  goes_on_nodes cuts [] now nodes = nodes
  goes_on_nodes cuts (one ∷ events) now nodes = goes_on_nodes cuts events (happens c cuts now one) (event_nodes one.handlers cuts now one.event (refusal c now one.event) refl nodes)

  started_nodes : (h : Meanings) (those : List ℕ) (now : Standing) → SetAtNodes c now.log_fuse → SetAtNodes c (fold (λ now me. fated_start c h now me Whole) now those).log_fuse
  started_nodes h [] now nodes = nodes
  started_nodes h (me ∷ those) now nodes = started_nodes h those (fated_start c h now me Whole) (start_nodes h now me Whole nodes)

  pub run_nodes : (first : Meanings) (cuts : Cuts) (events : List Happening) → SetAtNodes c (goes_on c cuts (opening c first) events).log_fuse
  run_nodes first cuts events = goes_on_nodes cuts events (opening c first) (started_nodes first (nodes c) nothing_yet (λ me none. refl))
