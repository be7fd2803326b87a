-- The greatest position that a node accepted or decided is no lower than any that its tape shows of it.
use Rattle.std.proofs.Common.{◌≡◌, inl, inr, ℕ, zero, suc, ◌+◌, max, ◌≤◌, ◌<◌, Bool, true, false, cond, List, [], ◌∷◌, flat_map, length, map, refl, sym, subst, arith, Some, None, ap, ◌∙◌}
use Rattle.mega_base.specs.declared.names.GroupId.{GroupId}
use Rattle.mega_base.specs.declared.names.NodeId.{NodeId}
use Rattle.mega_base.specs.declared.names.Position.{Position}
use Rattle.mega_cluster.specs.declared.cluster.Cluster.{Cluster}
use Rattle.mega_entry.specs.declared.content.Content.{Content}
use Rattle.mega_handler.specs.Named.{Meanings}
use Rattle.mega_wal.specs.Same.{same_group}
use Rattle.mega_wal.proofs.Sames.{same_group_self}
use Rattle.mega_wire.specs.declared.message.Message.{Message}
use Rattle.mega_wire.specs.declared.message.Body.{Body}
use Rattle.mega_wire.specs.declared.message.Body.TheVariants.{Accepted}
use Rattle.mega_lease_laws.specs.of_run_laws.of_tape_laws.of_promises.of_transcript.declared.item.Item.{Item}
use Rattle.mega_lease_laws.specs.of_run_laws.of_tape_laws.of_promises.of_transcript.declared.item.Item.TheVariants.{Crash, Decide, Sent}
use Rattle.mega_lease_laws.specs.of_run_laws.of_tape_laws.of_promises.of_transcript.Tape.{sent_count}
use Rattle.mega_lease_laws.specs.of_run_laws.of_tape_laws.of_promises.Items.{number, shown}
use Rattle.mega_lease_laws.specs.of_run_laws.of_tape_laws.of_promises.Messages.{is_unsafe}
use Rattle.mega_lease_laws.specs.of_run_laws.of_tape_laws.of_promises.Promises.{Stands}
use Rattle.mega_lease_laws.specs.of_run_laws.of_tape_laws.of_promises.Runs.{Happening, IsRun, Standing, goes_on, met_in, opening, set_at, setting, with_items}
use Rattle.mega_lease_laws.specs.of_run_laws.of_tape_laws.of_promises.of_rules.Met.{Met, Starts, Crashes, Ticks, Begins, Takes, Sends, Unsends, Grants, Lapses, Counts, Forgets, Serves, Loses, Validates, Invalidates, Decides, Applies, Answers}
use Rattle.mega_lease_laws.specs.of_run_laws.of_tape_laws.of_promises.of_rules.of_read.declared.reading.Move.{Move as ReadMove}
use Rattle.mega_lease_laws.specs.of_run_laws.of_tape_laws.of_promises.of_rules.of_read.Catching.{local_read, polled_read, through_of}
use Rattle.mega_lease_laws.specs.of_run_laws.of_tape_laws.of_promises.of_rules.Clock.{clock_of, is_up}
use Rattle.mega_lease_laws.specs.of_run_laws.of_tape_laws.of_promises.of_rules.Coordinators.{serves_at, valid_at}
use Rattle.mega_lease_laws.specs.of_run_laws.of_tape_laws.of_promises.of_rules.Logs.{accepted_at, top_of}
use Rattle.mega_lease_laws.specs.of_run_laws.of_tape_laws.of_promises.of_rules.Members.{is_full}
use Rattle.mega_lease_laws.specs.of_run_laws.of_tape_laws.of_promises.of_rules.Operations.{Node, Now, Operation, Setting}
use Rattle.mega_lease_laws.specs.of_run_laws.of_tape_laws.of_promises.of_rules.Acting.{is_visited, read_begun, reader_of}
use Rattle.mega_lease_laws.specs.of_run_laws.of_tape_laws.of_promises.of_rules.Steps.{Begin, Event, Step, Take, Tick, crashed, onto, start, start_items, step}
use Rattle.mega_lease_laws.specs.of_run_laws.of_tape_laws.Lawful.{message}
use Rattle.mega_lease_laws.specs.of_run_laws.Justified.{Each}
use Rattle.mega_lease_laws.proofs.of_run_laws.Runs.{IsMark}
use Rattle.mega_lease_laws.proofs.of_run_laws.Turns.{each_on, each_zip}
use Rattle.mega_lease_laws.specs.Questions.{is_question}
use Rattle.mega_valid_laws.specs.Leases.{HasAtLeast, accepted, decided}
use Rattle.mega_valid_laws.proofs.Folds.{IsOwn}
use Rattle.mega_leased_laws.specs.Items.{Are}
use Rattle.mega_leased_laws.proofs.Forms.{Anything, Holds, any_keeps, down, run_holds, stepped}
use Rattle.mega_leased_laws.proofs.Notes.{Origin, step_origins}
use Rattle.mega_leased_laws.proofs.Tapes.{IsFree, are_items, are_sent, free_follows, free_notes}
use Rattle.mega_leased_laws.proofs.TapeIsMet.{step_met}
use Rattle.mega_leased_laws.proofs.Cells.{at_me, by_node, occurs_own}
use Rattle.mega_leased_laws.proofs.Epochs.{are_map}
use Rattle.mega_leased_laws.proofs.Held.{run_covers}

-- ---- what a node met more

if_grows : (t : Bool) (a b : ℕ) → b ≤ cond t (max a b) b
if_grows true a b = omega arith
if_grows false a b = omega arith

pub max_grows : (a b : ℕ) → b ≤ max a b
max_grows a b = omega arith

pub max_first : (a b : ℕ) → a ≤ max a b
max_first a b = omega arith

pub same_most : (a : ℕ) → a ≤ a
same_most a = omega arith

pub then_most : (a b d : ℕ) → a ≤ b → b ≤ d → a ≤ d
then_most a b d h k = omega (arith, h, k)

pub top_more : (one : Met) (met : List Met) (g : GroupId) → top_of met g ≤ top_of (one ∷ met) g
top_more (Decides group position entry) met g = if_grows (same_group group g) position (top_of met g)
top_more (Sends m) met g = max_grows (accepted_at g m.body) (top_of met g)
top_more (Unsends m) met g = max_grows (accepted_at g m.body) (top_of met g)
top_more _ met g = same_most (top_of met g)

pub top_onto : (notes met : List Met) (g : GroupId) → top_of met g ≤ top_of (onto notes met) g
top_onto [] met g = same_most (top_of met g)
top_onto (one ∷ notes) met g = then_most (top_of met g) (top_of (one ∷ met) g) (top_of (onto notes (one ∷ met)) g) (top_more one met g) (top_onto notes (one ∷ met) g)

-- what is said of each decision
abbrev TopNote : (GroupId → ℕ) → Met → Type 0
TopNote top (Decides group position entry) = position ≤ top group
TopNote top _ = Unit {0}

note_raised : (one two : GroupId → ℕ) → ((g : GroupId) → one g ≤ two g) → (note : Met) → TopNote one note → TopNote two note
note_raised one two more (Decides group position entry) h = then_most position (one group) (two group) h (more group)
note_raised one two more _ h = tt

note_here : (notes : List Met) (note : Met) (met : List Met) → TopNote (λ g. top_of (onto notes (note ∷ met)) g) note
note_here notes (Decides group position entry) met = then_most position (top_of (Decides group position entry ∷ met) group) (top_of (onto notes (Decides group position entry ∷ met)) group) own (top_onto notes (Decides group position entry ∷ met) group)
  where
    own : position ≤ cond (same_group group group) (max position (top_of met group)) (top_of met group)
    own = subst (λ t. position ≤ cond t (max position (top_of met group)) (top_of met group)) (sym (same_group_self group)) (max_first position (top_of met group))
note_here notes _ met = tt

notes_top : (notes met : List Met) → Each (TopNote (λ g. top_of (onto notes met) g)) notes
notes_top [] met = tt
notes_top (one ∷ notes) met = (note_here notes one met, notes_top notes (one ∷ met))

-- what is said of each message
abbrev TopMessage : (GroupId → ℕ) → Message → Type 0
TopMessage top m = (g : GroupId) → accepted_at g m.body ≤ top g

sends_top : (ms : List Message) (met : List Met) → Each (TopMessage (λ g. top_of (onto (map Sends ms) met) g)) ms
sends_top [] met = tt
sends_top (m ∷ ms) met = ((λ g. then_most (accepted_at g m.body) (top_of (Sends m ∷ met) g) (top_of (onto (map Sends ms) (Sends m ∷ met)) g) (max_first (accepted_at g m.body) (top_of met g)) (top_onto (map Sends ms) (Sends m ∷ met) g)), sends_top ms (Sends m ∷ met))

-- ---- what holds of each item

abbrev IsTopped : (ℕ → Node) → List Item → Item → Type 0
IsTopped nodes before (Sent key m) = TopMessage (λ g. top_of (nodes m.from).met g) m
IsTopped nodes before (Decide node group n entry) = n.0 ≤ top_of (nodes node.0).met group
IsTopped nodes before _ = Unit {0}

abbrev Grows : (ℕ → Node) → (ℕ → Node) → Type 0
Grows old new = (v : ℕ) (g : GroupId) → top_of (old v).met g ≤ top_of (new v).met g

topped_on : (old new : ℕ → Node) → Grows old new → (tape : List Item) → Are (IsTopped old) tape → Are (IsTopped new) tape
topped_on old new grows tape h = are_map (IsTopped old) (IsTopped new) one tape h
  where
    one : (t : List Item) (x : Item) → IsTopped old t x → IsTopped new t x
    one t (Sent key m) k = λ g. then_most (accepted_at g m.body) (top_of (old m.from).met g) (top_of (new m.from).met g) (k g) (grows m.from g)
    one t (Decide node group n entry) k = then_most n.0 (top_of (old node.0).met group) (top_of (new node.0).met group) k (grows node.0 group)
    one t _ k = tt

grows_at : (nodes : ℕ → Node) (me : ℕ) (node : Node) → ((g : GroupId) → top_of (nodes me).met g ≤ top_of node.met g) → Grows nodes (set_at nodes me node)
grows_at nodes me node more v g = by_node (λ w x. top_of (nodes w).met g ≤ top_of x.met g) nodes me node (more g) (λ w apart. same_most (top_of (nodes w).met g)) v

note_shown : (those : ℕ → Node) (me : ℕ) (c : Cluster) (nodes : ℕ → Node) (note : Met) → TopNote (λ g. top_of (those me).met g) note → Each (IsFree (IsTopped those) (λ t. tt) c nodes) (shown me note)
note_shown those me c nodes (Starts start) h = (λ t. tt, tt)
note_shown those me c nodes Crashes h = (λ t. tt, tt)
note_shown those me c nodes (Ticks now) h = (λ t. tt, tt)
note_shown those me c nodes (Begins op text) h = (λ t. tt, tt)
note_shown those me c nodes (Takes message) h = tt
note_shown those me c nodes (Sends message) h = tt
note_shown those me c nodes (Unsends message) h = (λ t. tt, tt)
note_shown those me c nodes (Grants node epoch) h = (λ t. tt, tt)
note_shown those me c nodes (Lapses node epoch) h = (λ t. tt, tt)
note_shown those me c nodes (Counts cell epoch) h = (λ t. tt, tt)
note_shown those me c nodes (Forgets cell epoch) h = (λ t. tt, tt)
note_shown those me c nodes (Serves epoch) h = (λ t. tt, tt)
note_shown those me c nodes (Loses epoch) h = (λ t. tt, tt)
note_shown those me c nodes (Validates group position) h = (λ t. tt, tt)
note_shown those me c nodes (Invalidates group position) h = (λ t. tt, tt)
note_shown those me c nodes (Decides group position entry) h = (λ t. h, tt)
note_shown those me c nodes (Applies group position) h = (λ t. tt, tt)
note_shown those me c nodes (Answers op answer) h = (λ t. tt, tt)

notes_shown : (those : ℕ → Node) (me : ℕ) (c : Cluster) (nodes : ℕ → Node) (notes : List Met) (t : List Item) → Each (TopNote (λ g. top_of (those me).met g)) notes → Are (IsTopped those) t → Are (IsTopped those) (with_items c nodes t (flat_map (shown me) notes))
notes_shown those me c nodes notes t h a = are_items (IsTopped those) (λ x. tt) c nodes (flat_map (shown me) notes) t (free_follows (IsTopped those) (λ x. tt) c nodes (flat_map (shown me) notes) t
    (free_notes (IsTopped those) (λ x. tt) c nodes me notes (each_on (TopNote (λ g. top_of (those me).met g)) (λ note. Each (IsFree (IsTopped those) (λ x. tt) c nodes) (shown me note)) (note_shown those me c nodes) notes h))) a

-- a question accepts nothing
question_top : (top : GroupId → ℕ) (body : Body) → is_question body ≡ true → (g : GroupId) → accepted_at g body ≤ top g
question_top top (Accepted op group n b e) is g = cc
question_top top _ is g = zero_most (top g)
  where
    zero_most : (a : ℕ) → 0 ≤ a
    zero_most a = omega arith

own_topped : (nodes : ℕ → Node) (t : List Item) (x : Item) → IsOwn x → IsTopped nodes t x
own_topped nodes t (Sent key m) h = absurd h
own_topped nodes t (Decide node group n entry) h = absurd h
own_topped nodes t _ h = tt

module _ (c : Cluster) (h : Meanings) (now : Standing) (me : ℕ) (q : Are (IsTopped now.node) now.tape) where
  abbrev s : Setting
  s = setting c h me

  abbrev made : Event → Step
  made event = step s (now.node me) event

  abbrev those : Event → ℕ → Node
  those event = set_at now.node me (made event).node

  module _ (item : Item) (event : Event) (own_is : IsOwn item) where
    abbrev first_met : List Met
    first_met = met_in s (now.node me).met event ∷ (now.node me).met

    noted_grows : (g : GroupId) → top_of (onto (made event).notes first_met) g ≤ top_of (those event me).met g
    noted_grows g = subst (λ (node : Node). top_of (onto (made event).notes first_met) g ≤ top_of node.met g) (sym (at_me now.node me (made event).node))
        (subst (λ met. top_of (onto (made event).notes first_met) g ≤ top_of met g) (sym (step_met s (now.node me) event)) (top_onto (map Sends (made event).sends) (onto (made event).notes first_met) g))

    own_grows : (g : GroupId) → top_of (now.node me).met g ≤ top_of first_met g
    own_grows g = top_more (met_in s (now.node me).met event) (now.node me).met g

    all_grows : Grows now.node (those event)
    all_grows = grows_at now.node me (made event).node (λ g. subst (λ (node : Node). top_of (now.node me).met g ≤ top_of node.met g) (at_me now.node me (made event).node)
        (then_most (top_of (now.node me).met g) (top_of first_met g) (top_of (those event me).met g) (own_grows g) (then_most (top_of first_met g) (top_of (onto (made event).notes first_met) g) (top_of (those event me).met g) (top_onto (made event).notes first_met g) (noted_grows g))))

    second_topped : Are (IsTopped (those event)) (with_items c (those event) (item ∷ now.tape) (flat_map (shown me) (made event).notes))
    second_topped = notes_shown (those event) me c (those event) (made event).notes (item ∷ now.tape)
        (each_on (TopNote (λ g. top_of (onto (made event).notes first_met) g)) (TopNote (λ g. top_of (those event me).met g)) (note_raised (λ g. top_of (onto (made event).notes first_met) g) (λ g. top_of (those event me).met g) noted_grows) (made event).notes (notes_top (made event).notes first_met))
        (own_topped (those event) now.tape item own_is, topped_on now.node (those event) all_grows now.tape q)

    mine : Each (TopMessage (λ g. top_of (those event me).met g)) (made event).sends
    mine = subst (λ (node : Node). Each (TopMessage (λ g. top_of node.met g)) (made event).sends) (sym (at_me now.node me (made event).node))
        (subst (λ met. Each (TopMessage (λ g. top_of met g)) (made event).sends) (sym (step_met s (now.node me) event)) (sends_top (made event).sends (onto (made event).notes first_met)))

    abbrev Topped : Message → Type 0
    Topped m = TopMessage (λ g. top_of (those event m.from).met g) m

    sent_by : (event' : Event) (m : Message) → Origin s (now.node me).met event' m → TopMessage (λ g. top_of (those event me).met g) m → Topped m
    sent_by (Tick clock) m (inl asks) top = question_top (λ g. top_of (those event m.from).met g) m.body asks
    sent_by (Tick clock) m (inr a) top = subst Topped (sym a.is) (λ g. zero_most (top_of (those event me).met g))
      where
        zero_most : (a : ℕ) → 0 ≤ a
        zero_most a = omega arith
    sent_by (Take got) m (inl asks) top = question_top (λ g. top_of (those event m.from).met g) m.body asks
    sent_by (Take got) m (inr r) top = λ g. subst (λ v. accepted_at g m.body ≤ top_of (those event v).met g) (sym r.from) (top g)
    sent_by (Begin request text) m (inl asks) top = question_top (λ g. top_of (those event m.from).met g) m.body asks
    sent_by (Begin request text) m (inr none) top = absurd none

    steps_topping : Are (IsTopped (those event)) (stepped c (those event) me now.tape item (made event))
    steps_topping = are_sent (IsTopped (those event)) (λ m t. Topped m) (λ m t k r. r) (λ m other t k r. r) (sent_count now.tape + 1) (made event).sends (with_items c (those event) (item ∷ now.tape) (flat_map (shown me) (made event).notes))
        (each_zip (Origin s (now.node me).met event) (TopMessage (λ g. top_of (those event me).met g)) Topped (sent_by event) (made event).sends (step_origins s (now.node me) event) mine) second_topped

    cuts_topping : Are (IsTopped (set_at now.node me (down (met_in s (now.node me).met event) (now.node me)))) (Crash (number me) ∷ item ∷ now.tape)
    cuts_topping = (tt, (own_topped (set_at now.node me (down (met_in s (now.node me).met event) (now.node me))) now.tape item own_is, topped_on now.node (set_at now.node me (down (met_in s (now.node me).met event) (now.node me))) (grows_at now.node me (down (met_in s (now.node me).met event) (now.node me)) own_grows) now.tape q))

module _ (c : Cluster) (h : Meanings) (now : Standing) (me count : ℕ) (q : Are (IsTopped now.node) now.tape) where
  abbrev items : List Met
  items = start_items (setting c h me) count (now.owed me) (now.node me).met

  abbrev fresh : Node
  fresh = start (setting c h me) count (now.owed me) (now.node me).met

  abbrev begun_nodes : ℕ → Node
  begun_nodes = set_at now.node me fresh

  starts_topping : Are (IsTopped begun_nodes) (with_items c begun_nodes now.tape (flat_map (shown me) items))
  starts_topping = notes_shown begun_nodes me c begun_nodes items now.tape
      (subst (λ (node : Node). Each (TopNote (λ g. top_of node.met g)) items) (sym (at_me now.node me fresh)) (notes_top items (now.node me).met))
      (topped_on now.node begun_nodes (grows_at now.node me fresh (λ g. top_onto items (now.node me).met g)) now.tape q)

mark_topped : (nodes : ℕ → Node) (t : List Item) (x : Item) → IsMark x → IsTopped nodes t x
mark_topped nodes t (Sent key m) h = absurd h
mark_topped nodes t (Decide node group n entry) h = absurd h
mark_topped nodes t _ h = tt

abbrev Topping : List Item → (ℕ → Node) → (ℕ → List Met) → Type 0
Topping tape nodes owed = Are (IsTopped nodes) tape

topping_holds : (c : Cluster) → Holds c Anything Topping
topping_holds c = record {
  steps = λ h now me item event g p up o plain q. steps_topping c h now me q item event (occurs_own now.tape (setting c h me) (now.node me).met item event o);
  cuts = λ h now me item event kept g p up o q. cuts_topping c h now me q item event (occurs_own now.tape (setting c h me) (now.node me).met item event o);
  starts = λ h now me count g p less q. starts_topping c h now me count q;
  falls = λ now me g p q. (tt, topped_on now.node (set_at now.node me (crashed (now.node me))) (grows_at now.node me (crashed (now.node me)) (λ group. same_most (top_of (now.node me).met group))) now.tape q);
  marks = λ now item is g p q. (mark_topped now.node now.tape item is, q);
}

run_topped : (c : Cluster) (first : Meanings) (events : List Happening) (tape : List Item) → (run : IsRun c first events tape) → Are (IsTopped (λ v. (goes_on c run.cuts (opening c first) events).node v)) tape
run_topped c first events tape run = subst (Are (IsTopped (λ v. (goes_on c run.cuts (opening c first) events).node v))) (sym run.tape_is)
    (run_holds c Anything (any_keeps c) Topping (topping_holds c) first events tape run tt tt)

-- ---- what a tape shows of a node

stands_topped : (nodes : ℕ → Node) (tape : List Item) (x : Item) → Are (IsTopped nodes) tape → Stands x tape → IsTopped nodes [] x
stands_topped nodes [] x h s = absurd s
stands_topped nodes (other ∷ before) x h (inl same) = subst (IsTopped nodes []) same (at_any other h.0)
  where
    at_any : (y : Item) → IsTopped nodes before y → IsTopped nodes [] y
    at_any (Sent key m) k = k
    at_any (Decide node group n entry) k = k
    at_any _ k = tt
stands_topped nodes (other ∷ before) x h (inr s) = stands_topped nodes before x h.1 s

-- each position that a node decided
pub run_decided_most : (c : Cluster) (first : Meanings) (events : List Happening) (tape : List Item) → (run : IsRun c first events tape) → (v : ℕ) (g : GroupId) (n : Position) (e : Content) → Stands (Decide (number v) g n e) tape
    → n.0 ≤ top_of ((goes_on c run.cuts (opening c first) events).node v).met g
run_decided_most c first events tape run v g n e s = stands_topped (λ w. (goes_on c run.cuts (opening c first) events).node w) tape (Decide (number v) g n e) (run_topped c first events tape run) s

at_most_top : (nodes : ℕ → Node) (tape : List Item) (node : ℕ) (group : GroupId) (n : Position) → Are (IsTopped nodes) tape → HasAtLeast tape node group n → n.0 ≤ top_of (nodes node).met group
at_most_top nodes tape node group n h (accepted key to op m b e le s) = then_most n.0 m.0 (top_of (nodes node).met group) le
    (subst (λ t. cond t m.0 0 ≤ top_of (nodes node).met group) (same_group_self group) (stands_topped nodes tape (Sent key (message node to (Accepted op group m b e))) h s group))
at_most_top nodes tape node group n h (decided m e le s) = then_most n.0 m.0 (top_of (nodes node).met group) le (stands_topped nodes tape (Decide (number node) group m e) h s)

pub run_fresh : (c : Cluster) (first : Meanings) (events : List Happening) (tape : List Item) → length c.nodes ≤ 9 → c.cells ≤ 5 → (run : IsRun c first events tape) → is_unsafe tape ≡ false
    → (node : ℕ) → is_full c node ≡ true → is_up ((goes_on c run.cuts (opening c first) events).node node).met ≡ true
    → (group : GroupId) → valid_at c ((goes_on c run.cuts (opening c first) events).node node).met group ≡ true
    → (n : Position) (entry : Content) (other : NodeId) → Stands (Decide other group n entry) tape → n.0 ≤ top_of ((goes_on c run.cuts (opening c first) events).node node).met group
run_fresh c first events tape few five run un node full up group valid n entry other stands = by n.0 refl
  where
    zero_most : (a : ℕ) → 0 ≤ a
    zero_most a = omega arith

    by : (m : ℕ) → n.0 ≡ m → m ≤ top_of ((goes_on c run.cuts (opening c first) events).node node).met group
    by zero is = zero_most (top_of ((goes_on c run.cuts (opening c first) events).node node).met group)
    by (suc m) is = subst (λ a. a ≤ top_of ((goes_on c run.cuts (opening c first) events).node node).met group) is
        (at_most_top (λ v. (goes_on c run.cuts (opening c first) events).node v) tape node group n (run_topped c first events tape run)
        (run_covers c first events tape few five run un node full up group valid n entry other (subst (λ a. 0 < a) (sym is) (less m)) stands))
      where
        less : (a : ℕ) → 0 < suc a
        less a = omega arith

-- ---- a read that begins

pub run_begins : (c : Cluster) (first : Meanings) (events : List Happening) (tape : List Item) → length c.nodes ≤ 9 → c.cells ≤ 5 → (run : IsRun c first events tape) → is_unsafe tape ≡ false
    → (node : ℕ) → is_full c node ≡ true → is_up ((goes_on c run.cuts (opening c first) events).node node).met ≡ true
    → (h : Meanings) (now : Now) (o : Operation) (text : List ℕ) → now.met ≡ Begins o.id text ∷ ((goes_on c run.cuts (opening c first) events).node node).met
    → (group : GroupId) (p : ℕ) → through_of (read_begun (setting c h node) now o group []).reading ≡ Some p
    → (n : Position) (entry : Content) (other : NodeId) → Stands (Decide other group n entry) tape → n.0 ≤ p
run_begins c first events tape few five run un node full up h now o text is group p reads n entry other stands = by (is_visited o group) (valid_at c now.met group) refl reads
  where
    some_same : (a b : ℕ) → Some a ≡ Some b → a ≡ b
    some_same a b k = cc

    local : valid_at c now.met group ≡ true → top_of now.met group ≡ p → n.0 ≤ p
    local valid at = subst (λ a. n.0 ≤ a) (sym (ap (λ met. top_of met group) is) ∙ at)
        (run_fresh c first events tape few five run un node full up group (sym (ap (λ met. valid_at c met group) is) ∙ valid) n entry other stands)

    by : (t u : Bool) → valid_at c now.met group ≡ u → through_of (cond {A = ReadMove} t (polled_read (reader_of (setting c h node) o.id group) None [] (clock_of now.met))
        (cond u (local_read [] (top_of now.met group)) (polled_read (reader_of (setting c h node) o.id group) (serves_at c now.met) [] (clock_of now.met)))).reading ≡ Some p → n.0 ≤ p
    by true u valid k = absurd (let none = k in cc)
    by false true valid k = local valid (some_same (top_of now.met group) p k)
    by false false valid k = absurd (let none = k in cc)
