-- The forms that an event of a run takes: what a tape, its nodes and what they owe are then.
use Rattle.std.proofs.Common.{◌≡◌, ℕ, ◌+◌, ◌<◌, Bool, true, false, cond, List, [], ◌∷◌, ◌++◌, flat_map, refl, sym, ap, ◌∙◌, subst, arith}
use Rattle.mega_cluster.specs.declared.cluster.Cluster.{Cluster}
use Rattle.mega_handler.specs.Named.{Meanings}
use Rattle.mega_lease_laws.specs.of_run_laws.of_tape_laws.of_promises.of_transcript.declared.item.Item.{Item}
use Rattle.mega_lease_laws.specs.of_run_laws.of_tape_laws.of_promises.of_transcript.declared.item.Item.TheVariants.{Begin as BeginItem, Crash, Sent, Taken, Tick as TickItem}
use Rattle.mega_lease_laws.specs.of_run_laws.of_tape_laws.of_promises.of_transcript.Tape.{sent_count}
use Rattle.mega_lease_laws.specs.of_run_laws.of_tape_laws.of_promises.Items.{number, numbered, shown}
use Rattle.mega_lease_laws.specs.of_run_laws.of_tape_laws.of_promises.Promises.{Stands}
use Rattle.mega_lease_laws.specs.of_run_laws.of_tape_laws.of_promises.Runs.{CutByData, CutByLog, Fate, Happening, IsRun, Standing, Whole, calls_of, fate_by, fated, fated_start, goes_on, is_kept, met_in, nothing_yet, opening, owes, replies_in, set_at, setting, whole_step, with_item, with_items}
use Rattle.mega_lease_laws.specs.of_run_laws.of_tape_laws.of_promises.of_rules.Met.{Met}
use Rattle.mega_lease_laws.specs.of_run_laws.of_tape_laws.of_promises.of_rules.Clock.{is_up, start_of}
use Rattle.mega_lease_laws.specs.of_run_laws.of_tape_laws.of_promises.of_rules.Operations.{Node, Setting}
use Rattle.mega_lease_laws.specs.of_run_laws.of_tape_laws.of_promises.of_rules.Steps.{Begin, Event, Step, Take, Tick, crashed, op_of, start, start_items, step}
use Rattle.mega_lease_laws.specs.of_run_laws.Justified.{sent}
use Rattle.mega_lease_laws.proofs.of_run_laws.Noted.{with_append, with_sent}
use Rattle.mega_lease_laws.proofs.of_run_laws.Runs.{IsMark, Keeps, nobody, run_keeps}
use Rattle.mega_lease_laws.proofs.of_run_laws.Standing.{Good}

-- what the tape shows of an event at a node
abbrev pub Occurs : List Item → Setting → List Met → Item → Event → Type 0
Occurs tape s met item (Tick clock) = item ≡ TickItem (number s.me) clock
Occurs tape s met item (Take m) = (j : ℕ) × (item ≡ Taken j) × Stands (Sent j m) tape × (m.to ≡ s.me)
Occurs tape s met item (Begin request text) = item ≡ BeginItem (op_of s met) text

-- a step that is whole: the event's item, then the notes, then what is sent
abbrev pub noted : Cluster → (ℕ → Node) → ℕ → List Item → Item → List Met → List Item
noted c nodes me tape item notes = with_items c nodes (item ∷ tape) (flat_map (shown me) notes)

abbrev pub stepped : Cluster → (ℕ → Node) → ℕ → List Item → Item → Step → List Item
stepped c nodes me tape item made = sent (sent_count tape + 1) made.sends (noted c nodes me tape item made.notes)

-- a node that a step ends
abbrev pub down : Met → Node → Node
down own node = crashed (record { met = own ∷ node.met; open_operations = []; stored = node.stored })

-- what holds of a tape, its nodes, and what they owe
abbrev pub Shape : Type 1
Shape = List Item → (ℕ → Node) → (ℕ → List Met) → Type 0

pub record Holds (c : Cluster) (P : Standing → Type 0) (Q : Shape) : Type 0 where
  pub steps : (h : Meanings) (now : Standing) (me : ℕ) (item : Item) (event : Event) → Good nobody c now → P now → is_up (now.node me).met ≡ true → Occurs now.tape (setting c h me) (now.node me).met item event
      → ((nodes : ℕ → Node) → with_item c nodes now.tape item ≡ item ∷ now.tape) → Q now.tape now.node now.owed
      → Q (stepped c (set_at now.node me (step (setting c h me) (now.node me) event).node) me now.tape item (step (setting c h me) (now.node me) event)) (set_at now.node me (step (setting c h me) (now.node me) event).node) now.owed
  pub cuts : (h : Meanings) (now : Standing) (me : ℕ) (item : Item) (event : Event) (kept : Bool) → Good nobody c now → P now → is_up (now.node me).met ≡ true → Occurs now.tape (setting c h me) (now.node me).met item event
      → Q now.tape now.node now.owed
      → Q (Crash (number me) ∷ item ∷ now.tape) (set_at now.node me (down (met_in (setting c h me) (now.node me).met event) (now.node me)))
      (set_at now.owed me (cond kept (owes (step (setting c h me) (now.node me) event) (replies_in c me (now.node me).met event)) []))
  pub starts : (h : Meanings) (now : Standing) (me count : ℕ) → Good nobody c now → P now → start_of (now.node me).met < count → Q now.tape now.node now.owed
      → Q (with_items c (set_at now.node me (start (setting c h me) count (now.owed me) (now.node me).met)) now.tape (flat_map (shown me) (start_items (setting c h me) count (now.owed me) (now.node me).met)))
      (set_at now.node me (start (setting c h me) count (now.owed me) (now.node me).met)) (set_at now.owed me [])
  pub falls : (now : Standing) (me : ℕ) → Good nobody c now → P now → Q now.tape now.node now.owed → Q (Crash (number me) ∷ now.tape) (set_at now.node me (crashed (now.node me))) now.owed
  pub marks : (now : Standing) (item : Item) → IsMark item → Good nobody c now → P now → Q now.tape now.node now.owed → Q (item ∷ now.tape) now.node now.owed

-- nothing is asked
abbrev pub Anything : Standing → Type 0
Anything now = Unit {0}

pub any_keeps : (c : Cluster) → Keeps c Anything
any_keeps c = record {
  ticks = λ h now me clock cut g up p. tt;
  takes = λ h now j m cut g up stands p. tt;
  begins = λ h now me request text cut g up p. tt;
  starts = λ h now me fate g p. tt;
  crash = λ now me g p. tt;
  marks = λ now item is g p. tt;
  fuses = λ now log_fuse data_fuse p. tt;
}

module _ (c : Cluster) (P : Standing → Type 0) (k : Keeps c P) (Q : Shape) (holds : Holds c P Q) where
  abbrev At : Standing → Type 0
  At now = Q now.tape now.node now.owed

  fated_holds : (h : Meanings) (now : Standing) (me : ℕ) (item : Item) (event : Event) (fate : Fate) → Good nobody c now → P now → is_up (now.node me).met ≡ true → Occurs now.tape (setting c h me) (now.node me).met item event
      → ((nodes : ℕ → Node) → with_item c nodes now.tape item ≡ item ∷ now.tape) → At now
      → At (fated c now me (item ∷ []) (met_in (setting c h me) (now.node me).met event) (step (setting c h me) (now.node me) event) (replies_in c me (now.node me).met event) fate)
  fated_holds h now me item event Whole g p up o plain q = subst (λ t. Q t nodes' now.owed) (sym whole) (holds.steps h now me item event g p up o plain q)
    where
      made : Step
      made = step (setting c h me) (now.node me) event

      nodes' : ℕ → Node
      nodes' = set_at now.node me made.node

      count : ℕ
      count = sent_count now.tape + 1

      whole : (whole_step c now me (item ∷ []) made).tape ≡ stepped c nodes' me now.tape item made
      whole = with_append c nodes' ((item ∷ []) ++ flat_map (shown me) made.notes) (numbered count made.sends) now.tape
          ∙ with_sent c nodes' count made.sends (with_items c nodes' now.tape ((item ∷ []) ++ flat_map (shown me) made.notes))
          ∙ ap (λ t. sent count made.sends (with_items c nodes' t (flat_map (shown me) made.notes))) (plain nodes')
  fated_holds h now me item event (CutByLog left) g p up o plain q = subst (λ t. Q (with_item c nodes' t (Crash (number me))) nodes' owed') (sym (plain nodes')) (holds.cuts h now me item event (is_kept left) g p up o q)
    where
      nodes' : ℕ → Node
      nodes' = set_at now.node me (down (met_in (setting c h me) (now.node me).met event) (now.node me))

      owed' : ℕ → List Met
      owed' = set_at now.owed me (cond (is_kept left) (owes (step (setting c h me) (now.node me) event) (replies_in c me (now.node me).met event)) [])
  fated_holds h now me item event (CutByData left) g p up o plain q = subst (λ t. Q (with_item c nodes' t (Crash (number me))) nodes' (set_at now.owed me [])) (sym (plain nodes')) (holds.cuts h now me item event false g p up o q)
    where
      nodes' : ℕ → Node
      nodes' = set_at now.node me (down (met_in (setting c h me) (now.node me).met event) (now.node me))

  started_holds : (h : Meanings) (now : Standing) (me : ℕ) (fate : Fate) → Good nobody c now → P now → At now → At (fated_start c h now me fate)
  started_holds h now me Whole g p q = holds.starts h now me (now.starts me + 1) g p (let le = g.starts me in omega (arith, le)) q
  started_holds h now me (CutByLog left) g p q = holds.falls now me g p q
  started_holds h now me (CutByData left) g p q = holds.falls now me g p q

  -- what is asked, and this, is kept by each event
  pub both_keep : Keeps c (λ now. P now × At now)
  both_keep = record {
    ticks = λ h now me clock cut g up q. (
      k.ticks h now me clock cut g up q.0,
      fated_holds h now me (TickItem (number me) clock) (Tick clock) (fate_by now me cut (calls_of c h now me (Tick clock) (step (setting c h me) (now.node me) (Tick clock)))) g q.0 up refl (λ nodes. refl) q.1,
    );
    takes = λ h now j m cut g up stands q. (
      k.takes h now j m cut g up stands q.0,
      fated_holds h now m.to (Taken j) (Take m) (fate_by now m.to cut (calls_of c h now m.to (Take m) (step (setting c h m.to) (now.node m.to) (Take m)))) g q.0 up (j, refl, stands, refl) (λ nodes. refl) q.1,
    );
    begins = λ h now me request text cut g up q. (
      k.begins h now me request text cut g up q.0,
      fated_holds h now me (BeginItem (op_of (setting c h me) (now.node me).met) text) (Begin request text)
          (fate_by now me cut (calls_of c h now me (Begin request text) (step (setting c h me) (now.node me) (Begin request text)))) g q.0 up refl (λ nodes. refl) q.1,
    );
    starts = λ h now me fate g q. (k.starts h now me fate g q.0, started_holds h now me fate g q.0 q.1);
    crash = λ now me g q. (k.crash now me g q.0, holds.falls now me g q.0 q.1);
    marks = λ now item is g q. (k.marks now item is g q.0, holds.marks now item is g q.0 q.1);
    fuses = λ now log_fuse data_fuse q. (k.fuses now log_fuse data_fuse q.0, q.1);
  }

  -- and held at first, it holds of every run
  pub run_holds : (first : Meanings) (events : List Happening) (tape : List Item) → (run : IsRun c first events tape) → P nothing_yet → Q [] (λ me. nothing_yet.node me) (λ me. []) → At (goes_on c run.cuts (opening c first) events)
  run_holds first events tape run p q = (run_keeps c (λ now. P now × At now) both_keep first events tape run (p, q)).1
