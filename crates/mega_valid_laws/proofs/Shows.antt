-- In every run a tape shows which epoch of a full node serves, and which groups are valid there.
use Rattle.std.proofs.Common.{◌≡◌, ℕ, ◌+◌, ◌==◌, nat_lt, Bool, true, false, cond, List, [], ◌∷◌, ◌++◌, filter, flat_map, map, Option, Some, None, refl, sym, ap, ◌∙◌, subst}
use Rattle.mega_base.specs.declared.names.GroupId.{GroupId}
use Rattle.mega_cluster.specs.declared.cluster.Cluster.{Cluster}
use Rattle.mega_handler.specs.Named.{Meanings}
use Rattle.mega_wire.specs.declared.message.Message.{Message}
use Rattle.mega_settled_laws.specs.of_tape_laws.of_promises.of_transcript.declared.item.Item.{Item}
use Rattle.mega_settled_laws.specs.of_tape_laws.of_promises.of_transcript.declared.item.Item.TheVariants.{Begin as BeginItem, Crash, Cut as CutItem, Dropped, Taken, Tick as TickItem}
use Rattle.mega_settled_laws.specs.of_tape_laws.of_promises.of_transcript.Tape.{sent_count}
use Rattle.mega_settled_laws.specs.of_tape_laws.of_promises.Items.{number, numbered, shown}
use Rattle.mega_settled_laws.specs.of_tape_laws.of_promises.Runs.{CutByData, CutByLog, Fate, Fuse, Happening, IsRun, Left, Standing, Whole, calls_of, crashes, cut_step, fate_by, fated, fated_start, goes_on, is_durable, is_kept, marked, met_in, nothing_yet, opening, owes, replies_in, set_at, setting, whole_step, with_item, with_items}
use Rattle.mega_settled_laws.specs.of_tape_laws.of_promises.of_rules.Met.{Met, Starts, Crashes, Takes, Sends, Unsends, Grants, Lapses, Decides, Applies}
use Rattle.mega_settled_laws.specs.of_tape_laws.of_promises.of_rules.Clock.{clock_of, is_up}
use Rattle.mega_settled_laws.specs.of_tape_laws.of_promises.of_rules.Coordinators.{serves_at, valid_at}
use Rattle.mega_settled_laws.specs.of_tape_laws.of_promises.of_rules.Logs.{groups_of, prefix_of}
use Rattle.mega_settled_laws.specs.of_tape_laws.of_promises.of_rules.Members.{has_rows, is_full}
use Rattle.mega_settled_laws.specs.of_tape_laws.of_promises.of_rules.Operations.{Node, Setting}
use Rattle.mega_settled_laws.specs.of_tape_laws.of_promises.of_rules.Steps.{Begin, Decision, Event, Heard, Step, Take, Tick, crashed, hears_message, onto, op_of, start, start_items, start_note, start_notes, step, told_decision}
use Rattle.mega_settled_laws.proofs.of_tape_laws.Ballots.{number_is}
use Rattle.mega_settled_laws.specs.of_run_laws.Justified.{Each, sent}
use Rattle.mega_settled_laws.proofs.of_run_laws.Events.{each_append as each_both, onto_append}
use Rattle.mega_settled_laws.proofs.of_run_laws.Noted.{with_append, with_sent}
use Rattle.mega_settled_laws.proofs.of_run_laws.Runs.{IsMark, Keeps, run_keeps}
use Rattle.mega_settled_laws.proofs.of_run_laws.Whole.{take_by}
use Rattle.mega_valid_laws.specs.Leases.{serving_on, valid_on}
use Rattle.mega_valid_laws.specs.Showing.{next_serving, next_valid, serving_met, valid_met}
use Rattle.mega_valid_laws.proofs.Folds.{IsOwn, IsOwnNote, TapeFold, after, notes_told, sends_after, sends_told, tells_serving, tells_valid}
use Rattle.mega_valid_laws.proofs.Walked.{AgreesAt, IsNeutral, agrees_same, neutral_all, step_agrees}

-- ---- what a tape tells and what was met

-- what was met is what each note makes of what was met before
module _ {X : Type 0} (on : List Item → ℕ → X) (next : Met → X → X) (told : TapeFold X on next) (met_of : List Met → X) (each : (one : Met) (met : List Met) → met_of (one ∷ met) ≡ next one (met_of met)) where
  met_after : (notes met : List Met) → met_of (onto notes met) ≡ after on next told notes (met_of met)
  met_after [] met = refl
  met_after (one ∷ notes) met = met_after notes (one ∷ met) ∙ ap (after on next told notes) (each one met)

  module _ (c : Cluster) (now : Standing) (h : (v : ℕ) → on now.tape v ≡ met_of (now.node v).met) where
    -- notes of one node
    pub noted_told : (nodes : ℕ → Node) (me : ℕ) (node : Node) (tape : List Item) (met notes : List Met) → ((v : ℕ) → on tape v ≡ on now.tape v) → met_of met ≡ met_of (now.node me).met → node.met ≡ onto notes met
        → (v : ℕ) → on (with_items c nodes tape (flat_map (shown me) notes)) v ≡ met_of (set_at now.node me node v).met
    noted_told nodes me node tape met notes same own is v = notes_told on next told c nodes me v notes tape ∙ by (me == v) refl
      where
        by : (t : Bool) → (me == v) ≡ t → cond t (after on next told notes (on tape v)) (on tape v) ≡ met_of (cond t node (now.node v)).met
        by true e =
            ap (after on next told notes) (same v ∙ h v ∙ ap (λ w. met_of (now.node w).met) (sym (number_is me v e)) ∙ sym own) ∙ sym (met_after notes met) ∙ ap met_of (sym is)
        by false e = same v ∙ h v

    whole_told : (me : ℕ) (item : Item) (own : Met) (made : Step) → IsOwn item → IsOwnNote own → ((nodes : ℕ → Node) → with_item c nodes now.tape item ≡ item ∷ now.tape)
        → (made.node).met ≡ onto (map Sends made.sends) (onto made.notes (own ∷ (now.node me).met)) → (v : ℕ) → on (whole_step c now me (item ∷ []) made).tape v ≡ met_of (set_at now.node me made.node v).met
    whole_told me item own made is_own is_note plain is v =
        ap (λ t. on t v) whole ∙ sends_told on next told count made.sends (with_items c nodes' (item ∷ now.tape) (flat_map (shown me) made.notes)) v
        ∙ noted_told nodes' me middle (item ∷ now.tape) (own ∷ (now.node me).met) made.notes (λ w. told.own item is_own now.tape w) (each own (now.node me).met ∙ told.own_note own is_note (met_of (now.node me).met)) refl v
        ∙ by (me == v)
      where
        nodes' : ℕ → Node
        nodes' = set_at now.node me made.node

        count : ℕ
        count = sent_count now.tape + 1

        middle : Node
        middle = record { met = onto made.notes (own ∷ (now.node me).met); open_operations = []; stored = (now.node me).stored }

        whole : (whole_step c now me (item ∷ []) made).tape ≡ sent count made.sends (with_items c nodes' (item ∷ now.tape) (flat_map (shown me) made.notes))
        whole = with_append c nodes' ((item ∷ []) ++ flat_map (shown me) made.notes) (numbered count made.sends) now.tape
            ∙ with_sent c nodes' count made.sends (with_items c nodes' now.tape ((item ∷ []) ++ flat_map (shown me) made.notes))
            ∙ ap (λ t. sent count made.sends (with_items c nodes' t (flat_map (shown me) made.notes))) (plain nodes')

        by : (t : Bool) → met_of (cond t middle (now.node v)).met ≡ met_of (cond t made.node (now.node v)).met
        by true = sym (ap met_of is ∙ met_after (map Sends made.sends) (onto made.notes (own ∷ (now.node me).met)) ∙ sends_after on next told made.sends (met_of (onto made.notes (own ∷ (now.node me).met))))
        by false = refl

    cut_told : (me : ℕ) (item : Item) (own : Met) (left : Left) (owed : List Met) (log_fuse data_fuse : ℕ → Option Fuse) → IsOwn item → IsOwnNote own → ((nodes : ℕ → Node) → with_item c nodes now.tape item ≡ item ∷ now.tape)
        → (v : ℕ) → on (cut_step c now me (item ∷ []) own left owed log_fuse data_fuse).tape v ≡ met_of ((cut_step c now me (item ∷ []) own left owed log_fuse data_fuse).node v).met
    cut_told me item own left owed log_fuse data_fuse is_own is_note plain v =
        ap (λ t. on (with_item c nodes' t (Crash (number me))) v) (plain nodes')
        ∙ noted_told nodes' me node2 (item ∷ now.tape) (own ∷ (now.node me).met) (Crashes ∷ []) (λ w. told.own item is_own now.tape w) (each own (now.node me).met ∙ told.own_note own is_note (met_of (now.node me).met)) refl v
      where
        node2 : Node
        node2 = crashed (record { met = own ∷ (now.node me).met; open_operations = []; stored = (now.node me).stored })

        nodes' : ℕ → Node
        nodes' = set_at now.node me node2

    fated_told : (me : ℕ) (item : Item) (own : Met) (made : Step) (replies : List Message) (fate : Fate) → IsOwn item → IsOwnNote own → ((nodes : ℕ → Node) → with_item c nodes now.tape item ≡ item ∷ now.tape)
        → (made.node).met ≡ onto (map Sends made.sends) (onto made.notes (own ∷ (now.node me).met)) → (v : ℕ) → on (fated c now me (item ∷ []) own made replies fate).tape v ≡ met_of ((fated c now me (item ∷ []) own made replies fate).node v).met
    fated_told me item own made replies Whole is_own is_note plain is v = whole_told me item own made is_own is_note plain is v
    fated_told me item own made replies (CutByLog left) is_own is_note plain is v = cut_told me item own left (cond (is_kept left) (owes made replies) []) (set_at now.log_fuse me None) now.data_fuse is_own is_note plain v
    fated_told me item own made replies (CutByData left) is_own is_note plain is v = cut_told me item own left [] now.log_fuse (set_at now.data_fuse me None) is_own is_note plain v

    start_told : (handlers : Meanings) (me : ℕ) (fate : Fate) (v : ℕ) → on (fated_start c handlers now me fate).tape v ≡ met_of ((fated_start c handlers now me fate).node v).met
    start_told handlers me Whole v = noted_told (set_at now.node me node) me node now.tape (now.node me).met (start_items (setting c handlers me) (now.starts me + 1) (now.owed me) (now.node me).met) (λ w. refl) refl refl v
      where
        node : Node
        node = start (setting c handlers me) (now.starts me + 1) (now.owed me) (now.node me).met
    start_told handlers me (CutByLog left) v = noted_told (set_at now.node me (crashed (now.node me))) me (crashed (now.node me)) now.tape (now.node me).met (Crashes ∷ []) (λ w. refl) refl refl v
    start_told handlers me (CutByData left) v = noted_told (set_at now.node me (crashed (now.node me))) me (crashed (now.node me)) now.tape (now.node me).met (Crashes ∷ []) (λ w. refl) refl refl v

    crash_told : (me v : ℕ) → on (crashes now me).tape v ≡ met_of ((crashes now me).node v).met
    crash_told me v = noted_told (set_at now.node me (crashed (now.node me))) me (crashed (now.node me)) now.tape (now.node me).met (Crashes ∷ []) (λ w. refl) refl refl v

    mark_told : (item : Item) → IsMark item → (v : ℕ) → on (marked now item).tape v ≡ met_of (now.node v).met
    mark_told (Dropped j) is v = told.own (Dropped j) tt now.tape v ∙ h v
    mark_told CutItem is v = told.own CutItem tt now.tape v ∙ h v
    mark_told _ is v = absurd is

-- ---- what a step met

pub step_met : (s : Setting) (node : Node) (event : Event) → ((step s node event).node).met ≡ onto (map Sends (step s node event).sends) (onto (step s node event).notes (met_in s node.met event ∷ node.met))
step_met s node (Tick clock) = refl
step_met s node (Begin request text) = refl
step_met s node (Take m) = by (told_decision m.body)
  where
    ts : List Heard
    ts = map (hears_message s (clock_of node.met) m) node.open_operations

    by : (d : Option Decision) → ((take_by s node m ts d).node).met ≡ onto (map Sends (take_by s node m ts d).sends) (onto (take_by s node m ts d).notes (Takes m ∷ node.met))
    by (Some d) = refl
    by None = refl

-- ---- standings

pub record ShownAt (c : Cluster) (now : Standing) : Type 0 where
  pub serving : (v : ℕ) → serving_on now.tape v ≡ serving_met (now.node v).met
  pub valid : (group : GroupId) (v : ℕ) → valid_on now.tape v group ≡ valid_met (now.node v).met group
  pub agrees : (v : ℕ) → is_full c v ≡ true → is_up (now.node v).met ≡ true → AgreesAt c (now.node v).met
  pub owed : (v : ℕ) → Each IsNeutral (now.owed v)

durable_neutral : (one : Met) → is_durable one ≡ true → IsNeutral one
durable_neutral (Grants node epoch) h = tt
durable_neutral (Lapses node epoch) h = tt
durable_neutral (Decides group position entry) h = tt
durable_neutral _ h = cc

kept_neutral : (notes : List Met) → Each IsNeutral (filter is_durable notes)
kept_neutral [] = tt
kept_neutral (one ∷ notes) = by (is_durable one) refl (kept_neutral notes)
  where
    by : (t : Bool) → is_durable one ≡ t → Each IsNeutral (filter is_durable notes) → Each IsNeutral (cond t (one ∷ filter is_durable notes) (filter is_durable notes))
    by true e rest = (durable_neutral one e, rest)
    by false e rest = rest

unsent_neutral : (ms : List Message) → Each IsNeutral (map Unsends ms)
unsent_neutral [] = tt
unsent_neutral (m ∷ ms) = (tt, unsent_neutral ms)

owes_neutral : (t : Bool) (made : Step) (replies : List Message) → Each IsNeutral (cond t (owes made replies) [])
owes_neutral true made replies = each_both IsNeutral (filter is_durable made.notes) (map Unsends replies) (kept_neutral made.notes) (unsent_neutral replies)
owes_neutral false made replies = tt

set_each : {X : Type 0} (P : X → Type 0) (f : ℕ → X) (me : ℕ) (x : X) → P x → ((v : ℕ) → P (f v)) → (v : ℕ) → P (set_at f me x v)
set_each P f me x one rest v = by (me == v)
  where
    by : (t : Bool) → P (cond t x (f v))
    by true = one
    by false = rest v

-- of one node that changed
set_agrees : (c : Cluster) (nodes : ℕ → Node) (me : ℕ) (node : Node) → (is_full c me ≡ true → is_up node.met ≡ true → AgreesAt c node.met)
    → ((v : ℕ) → is_full c v ≡ true → is_up (nodes v).met ≡ true → AgreesAt c (nodes v).met) → (v : ℕ) → is_full c v ≡ true → is_up (set_at nodes me node v).met ≡ true → AgreesAt c (set_at nodes me node v).met
set_agrees c nodes me node one rest v = by (me == v) refl
  where
    by : (t : Bool) → (me == v) ≡ t → is_full c v ≡ true → is_up (cond t node (nodes v)).met ≡ true → AgreesAt c (cond t node (nodes v)).met
    by true e full up = one (ap (is_full c) (number_is me v e) ∙ full) up
    by false e full up = rest v full up

start_neutral : (s : Setting) (met : List Met) → Each IsNeutral (start_notes s met)
start_neutral s met = by (has_rows s.cluster s.me)
  where
    one : (group : GroupId) → Each IsNeutral (start_note met group)
    one group = within (nat_lt 0 (prefix_of met group))
      where
        within : (t : Bool) → Each IsNeutral (cond t (Applies group (prefix_of met group) ∷ []) [])
        within true = (tt, tt)
        within false = tt

    each_one : (groups : List GroupId) → Each IsNeutral (flat_map (start_note met) groups)
    each_one [] = tt
    each_one (group ∷ groups) = each_both IsNeutral (start_note met group) (flat_map (start_note met) groups) (one group) (each_one groups)

    by : (t : Bool) → Each IsNeutral (cond t (flat_map (start_note met) (groups_of met)) [])
    by true = each_one (groups_of met)
    by false = tt

start_agrees : (s : Setting) (count : ℕ) (owed met : List Met) → Each IsNeutral owed → AgreesAt s.cluster (onto (start_items s count owed met) met)
start_agrees s count owed met neutral =
    subst (AgreesAt s.cluster) (sym (onto_append (Starts count ∷ owed) (start_notes s (onto owed (Starts count ∷ met))) met))
    (agrees_same s.cluster (onto (start_notes s (onto owed (Starts count ∷ met))) (onto owed (Starts count ∷ met))) (onto owed (Starts count ∷ met))
    (neutral_all s.cluster (start_notes s (onto owed (Starts count ∷ met))) (onto owed (Starts count ∷ met)) (start_neutral s (onto owed (Starts count ∷ met))))
    (agrees_same s.cluster (onto owed (Starts count ∷ met)) (Starts count ∷ met) (neutral_all s.cluster owed (Starts count ∷ met) neutral) (record { serves = refl; groups = λ group. refl })))

-- ---- events

module _ (c : Cluster) where
  serving_each : (one : Met) (met : List Met) → serving_met (one ∷ met) ≡ next_serving one (serving_met met)
  serving_each one met = refl

  valid_each : (group : GroupId) (one : Met) (met : List Met) → valid_met (one ∷ met) group ≡ next_valid group one (valid_met met group)
  valid_each group one met = refl

  fated_shown : (h : Meanings) (now : Standing) (me : ℕ) (item : Item) (event : Event) (fate : Fate) → IsOwn item → IsOwnNote (met_in (setting c h me) (now.node me).met event)
      → ((nodes : ℕ → Node) → with_item c nodes now.tape item ≡ item ∷ now.tape) → is_up (now.node me).met ≡ true → ShownAt c now
      → ShownAt c (fated c now me (item ∷ []) (met_in (setting c h me) (now.node me).met event) (step (setting c h me) (now.node me) event) (replies_in c me (now.node me).met event) fate)
  fated_shown h now me item event fate is_own is_note plain up q = record {
    serving = fated_told serving_on next_serving tells_serving serving_met serving_each c now q.serving me item own made replies fate is_own is_note plain is;
    valid = λ group. fated_told (λ tape v. valid_on tape v group) (next_valid group) (tells_valid group) (λ met. valid_met met group) (valid_each group) c now (q.valid group) me item own made replies fate is_own is_note plain is;
    agrees = agrees_by fate;
    owed = owed_by fate;
  }
    where
      s : Setting
      s = setting c h me

      own : Met
      own = met_in s (now.node me).met event

      made : Step
      made = step s (now.node me) event

      replies : List Message
      replies = replies_in c me (now.node me).met event

      is : (made.node).met ≡ onto (map Sends made.sends) (onto made.notes (own ∷ (now.node me).met))
      is = step_met s (now.node me) event

      agrees_by : (fate : Fate) (v : ℕ) → is_full c v ≡ true → is_up ((fated c now me (item ∷ []) own made replies fate).node v).met ≡ true → AgreesAt c ((fated c now me (item ∷ []) own made replies fate).node v).met
      agrees_by Whole = set_agrees c now.node me made.node (λ full still. step_agrees s full (now.node me) (q.agrees me full up) event) q.agrees
      agrees_by (CutByLog left) = set_agrees c now.node me (crashed (record { met = own ∷ (now.node me).met; open_operations = []; stored = (now.node me).stored })) (λ full still. cc) q.agrees
      agrees_by (CutByData left) = set_agrees c now.node me (crashed (record { met = own ∷ (now.node me).met; open_operations = []; stored = (now.node me).stored })) (λ full still. cc) q.agrees

      owed_by : (fate : Fate) (v : ℕ) → Each IsNeutral ((fated c now me (item ∷ []) own made replies fate).owed v)
      owed_by Whole = q.owed
      owed_by (CutByLog left) = set_each (Each IsNeutral) now.owed me (cond (is_kept left) (owes made replies) []) (owes_neutral (is_kept left) made replies) q.owed
      owed_by (CutByData left) = set_each (Each IsNeutral) now.owed me [] tt q.owed

  start_shown : (h : Meanings) (now : Standing) (me : ℕ) (fate : Fate) → ShownAt c now → ShownAt c (fated_start c h now me fate)
  start_shown h now me fate q = record {
    serving = start_told serving_on next_serving tells_serving serving_met serving_each c now q.serving h me fate;
    valid = λ group. start_told (λ tape v. valid_on tape v group) (next_valid group) (tells_valid group) (λ met. valid_met met group) (valid_each group) c now (q.valid group) h me fate;
    agrees = agrees_by fate;
    owed = owed_by fate;
  }
    where
      agrees_by : (fate : Fate) (v : ℕ) → is_full c v ≡ true → is_up ((fated_start c h now me fate).node v).met ≡ true → AgreesAt c ((fated_start c h now me fate).node v).met
      agrees_by Whole = set_agrees c now.node me (start (setting c h me) (now.starts me + 1) (now.owed me) (now.node me).met) (λ full still. start_agrees (setting c h me) (now.starts me + 1) (now.owed me) (now.node me).met (q.owed me)) q.agrees
      agrees_by (CutByLog left) = set_agrees c now.node me (crashed (now.node me)) (λ full still. cc) q.agrees
      agrees_by (CutByData left) = set_agrees c now.node me (crashed (now.node me)) (λ full still. cc) q.agrees

      owed_by : (fate : Fate) (v : ℕ) → Each IsNeutral ((fated_start c h now me fate).owed v)
      owed_by Whole = set_each (Each IsNeutral) now.owed me [] tt q.owed
      owed_by (CutByLog left) = q.owed
      owed_by (CutByData left) = q.owed

  crash_shown : (now : Standing) (me : ℕ) → ShownAt c now → ShownAt c (crashes now me)
  crash_shown now me q = record {
    serving = crash_told serving_on next_serving tells_serving serving_met serving_each c now q.serving me;
    valid = λ group. crash_told (λ tape v. valid_on tape v group) (next_valid group) (tells_valid group) (λ met. valid_met met group) (valid_each group) c now (q.valid group) me;
    agrees = set_agrees c now.node me (crashed (now.node me)) (λ full still. cc) q.agrees;
    owed = q.owed;
  }

  mark_shown : (now : Standing) (item : Item) → IsMark item → ShownAt c now → ShownAt c (marked now item)
  mark_shown now item is q = record {
    serving = mark_told serving_on next_serving tells_serving serving_met serving_each c now q.serving item is;
    valid = λ group. mark_told (λ tape v. valid_on tape v group) (next_valid group) (tells_valid group) (λ met. valid_met met group) (valid_each group) c now (q.valid group) item is;
    agrees = q.agrees;
    owed = q.owed;
  }

  pub shown_keeps : Keeps c (ShownAt c)
  shown_keeps = record {
    ticks = λ h now me clock cut g up q. fated_shown h now me (TickItem (number me) clock) (Tick clock) (fate_by now me cut (calls_of c h now me (Tick clock) (step (setting c h me) (now.node me) (Tick clock)))) tt tt (λ nodes. refl) up q;
    takes = λ h now j m cut g up stands q. fated_shown h now m.to (Taken j) (Take m) (fate_by now m.to cut (calls_of c h now m.to (Take m) (step (setting c h m.to) (now.node m.to) (Take m)))) tt tt (λ nodes. refl) up q;
    begins = λ h now me request text cut g up q. fated_shown h now me (BeginItem (op_of (setting c h me) (now.node me).met) text) (Begin request text)
        (fate_by now me cut (calls_of c h now me (Begin request text) (step (setting c h me) (now.node me) (Begin request text)))) tt tt (λ nodes. refl) up q;
    starts = λ h now me fate g q. start_shown h now me fate q;
    crash = λ now me g q. crash_shown now me q;
    marks = λ now item is g q. mark_shown now item is q;
    fuses = λ now log_fuse data_fuse q. record { serving = q.serving; valid = q.valid; agrees = q.agrees; owed = q.owed };
  }

pub nothing_shown : (c : Cluster) → ShownAt c nothing_yet
nothing_shown c = record { serving = λ v. refl; valid = λ group v. refl; agrees = λ v full up. cc; owed = λ v. tt }

abbrev stands_then : (c : Cluster) (first : Meanings) (events : List Happening) (tape : List Item) → IsRun c first events tape → Standing
stands_then c first events tape run = goes_on c run.cuts (opening c first) events

run_shown : (c : Cluster) (first : Meanings) (events : List Happening) (tape : List Item) → (run : IsRun c first events tape) → ShownAt c (stands_then c first events tape run)
run_shown c first events tape run = run_keeps c (ShownAt c) (shown_keeps c) first events tape run (nothing_shown c)

pub run_serves : (c : Cluster) (first : Meanings) (events : List Happening) (tape : List Item) → (run : IsRun c first events tape) → (node : ℕ) → is_full c node ≡ true
    → is_up ((goes_on c run.cuts (opening c first) events).node node).met ≡ true → serving_on tape node ≡ serves_at c ((goes_on c run.cuts (opening c first) events).node node).met
run_serves c first events tape run node full up =
    ap (λ t. serving_on t node) run.tape_is ∙ (run_shown c first events tape run).serving node ∙ ((run_shown c first events tape run).agrees node full up).serves

pub run_valid : (c : Cluster) (first : Meanings) (events : List Happening) (tape : List Item) → (run : IsRun c first events tape) → (node : ℕ) → is_full c node ≡ true
    → is_up ((goes_on c run.cuts (opening c first) events).node node).met ≡ true → (group : GroupId) → valid_on tape node group ≡ valid_at c ((goes_on c run.cuts (opening c first) events).node node).met group
run_valid c first events tape run node full up group =
    ap (λ t. valid_on t node group) run.tape_is ∙ (run_shown c first events tape run).valid group node ∙ ((run_shown c first events tape run).agrees node full up).groups group
