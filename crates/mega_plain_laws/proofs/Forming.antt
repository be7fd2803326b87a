-- A run stays of the format through a step, a start and a crash of a node, whole or cut.
use Rattle.std.proofs.Common.{◌≡◌, ℕ, ◌+◌, ◌==◌, ◌≤◌, Bool, true, false, cond, List, [], ◌∷◌, ◌++◌, map, flat_map, Option, None, refl, sym, ap, ◌∙◌, subst, arith}
use Rattle.std.specs.Prelude.{filter}
use Rattle.std.proofs.lemmas.Bool.Decides.{nat_tests}
use Rattle.mega_base.specs.Names.{IsU32}
use Rattle.mega_cluster.specs.declared.cluster.Cluster.{Cluster}
use Rattle.mega_handler.specs.Named.{Meanings}
use Rattle.mega_wire.specs.declared.message.Message.{Message}
use Rattle.mega_transcript.specs.declared.item.Item.{Item}
use Rattle.mega_transcript.specs.declared.item.Item.TheVariants.{Start}
use Rattle.mega_transcript.specs.Tape.{sent_count}
use Rattle.mega_schema.specs.declared.schema.Schema.{Schema}
use Rattle.mega_node_laws.specs.Acted.{own_item}
use Rattle.mega_node_laws.proofs.Ending.{step_met}
use Rattle.mega_transcript.specs.PlainRows.{are_marks}
use Rattle.mega_rules.specs.Finding.{refreshed_marks}
use Rattle.mega_rules.specs.Met.{Met, Crashes, Sends, Starts, Unsends}
use Rattle.mega_rules.specs.Clock.{is_up}
use Rattle.mega_rules.specs.Members.{is_node}
use Rattle.mega_rules.specs.Operations.{Node, Setting}
use Rattle.mega_rules.specs.Steps.{Begin, Event, Step, Take, Tick, crashed, onto, start, start_items, start_notes, step}
use Rattle.mega_promises.specs.Items.{number, numbered, shown}
use Rattle.mega_promises.specs.Runs.{Calls, CutByData, CutByLog, Fate, Fuse, Left, Standing, Whole, at_node, calls_of, crashes, cut_start, cut_step, fate_by, fated, fated_start, is_durable, is_kept, met_in, owes, replies_in, set_at, setting, whole_start, whole_step}
use Rattle.mega_format_laws.specs.Histories.{IsCluster, IsItem, IsMet}
use Rattle.mega_format_laws.specs.Nodes.{IsEvent, IsNode, IsStep}
use Rattle.mega_format_laws.specs.Requests.{AreHandlers}
use Rattle.mega_format_laws.specs.Rounds.{AreMessages, Each, IsMember}
use Rattle.mega_format_laws.proofs.Each.{each_both, each_filter, each_map, each_weaker}
use Rattle.mega_format_laws.proofs.Replies.{reply_formed}
use Rattle.mega_format_laws.proofs.Steps.{crash_formed, started}
use Rattle.mega_format_laws.proofs.Whole.{whole_step as step_formed}
use Rattle.mega_plain_laws.specs.Formed.{IsSpelled}
use Rattle.mega_field_ranges.specs.Held.{HoldsItem}
use Rattle.mega_plain_laws.proofs.Showing.{IsNote, IsSaid, each_pair, notes_spelled, sends_spelled, with_back, with_each, with_first}
use Rattle.mega_plain_laws.proofs.Noting.{starts_formed, starts_still}
use Rattle.mega_plain_laws.proofs.Marking.{marks_onto}
use Rattle.mega_plain_laws.proofs.Saying.{step_said, stills_said}

-- what nodes met and owe is of the format, and so is what the tape shows; their last marks stand in order; nodes that are up are nodes of the cluster
pub record Formed (c : Cluster) (now : Standing) : Type 0 where
  pub nodes : (me : ℕ) → IsNode (now.node me)
  pub marks : (me : ℕ) → are_marks (refreshed_marks (now.node me).met) ≡ true
  pub owed : (me : ℕ) → Each (IsNote c.schema) (now.owed me)
  pub members : (me : ℕ) → is_up (now.node me).met ≡ true → is_node c me ≡ true
  pub items : Each (IsSpelled c.schema) now.tape

pub is_member : (c : Cluster) (me : ℕ) → IsCluster c → is_node c me ≡ true → IsMember me
is_member c me formed is = let few = formed.nodes in (grind (arith, nat_tests), grind (arith, nat_tests))

same_number : (a b : ℕ) → (a == b) ≡ true → a ≡ b
same_number a b h = grind (arith, nat_tests)

-- one node is another than before
nodes_set : (now : Standing) (me : ℕ) (node : Node) → ((other : ℕ) → IsNode (now.node other)) → IsNode node → (other : ℕ) → IsNode (set_at now.node me node other)
nodes_set now me node all is other = by (me == other)
  where
    by : (t : Bool) → IsNode (cond t node (now.node other))
    by true = is
    by false = all other

marks_set : (now : Standing) (me : ℕ) (node : Node) → ((other : ℕ) → are_marks (refreshed_marks (now.node other).met) ≡ true) → are_marks (refreshed_marks node.met) ≡ true → (other : ℕ) → are_marks (refreshed_marks (set_at now.node me node other).met) ≡ true
marks_set now me node all is other = by (me == other)
  where
    by : (t : Bool) → are_marks (refreshed_marks (cond t node (now.node other)).met) ≡ true
    by true = is
    by false = all other

owed_set : (k : Schema) (now : Standing) (me : ℕ) (owed : List Met) → ((other : ℕ) → Each (IsNote k) (now.owed other)) → Each (IsNote k) owed → (other : ℕ) → Each (IsNote k) (set_at now.owed me owed other)
owed_set k now me owed all is other = by (me == other)
  where
    by : (t : Bool) → Each (IsNote k) (cond t owed (now.owed other))
    by true = is
    by false = all other

members_set : (c : Cluster) (now : Standing) (me : ℕ) (node : Node) → ((other : ℕ) → is_up (now.node other).met ≡ true → is_node c other ≡ true) → (is_up node.met ≡ true → is_node c me ≡ true)
    → (other : ℕ) → is_up (set_at now.node me node other).met ≡ true → is_node c other ≡ true
members_set c now me node all is other = by (me == other) refl
  where
    by : (t : Bool) → (me == other) ≡ t → is_up (cond t node (now.node other)).met ≡ true → is_node c other ≡ true
    by true same up = subst (λ n. is_node c n ≡ true) (same_number me other same) (is up)
    by false same up = all other up

no_up : {A : Type 0} → false ≡ true → A
no_up h = cc

-- ---- steps

whole_formed : (c : Cluster) (now : Standing) (me : ℕ) (own : List Item) (made : Step) → Formed c now → is_node c me ≡ true → IsStep made → are_marks (refreshed_marks made.node.met) ≡ true → Each (IsNote c.schema) made.notes → Each (IsSpelled c.schema) own → Formed c (whole_step c now me own made)
whole_formed c now me own made f member is marks notes spelled = record {
  nodes = nodes_set now me made.node f.nodes is.node;
  marks = marks_set now me made.node f.marks marks;
  owed = f.owed;
  members = members_set c now me made.node f.members (λ up. member);
  items = with_each (IsSpelled c.schema) tt c (set_at now.node me made.node) now.tape ((own ++ flat_map (shown me) made.notes) ++ numbered (sent_count now.tape + 1) made.sends) f.items
      (each_both (IsSpelled c.schema) (own ++ flat_map (shown me) made.notes) (numbered (sent_count now.tape + 1) made.sends)
      (each_both (IsSpelled c.schema) own (flat_map (shown me) made.notes) spelled (notes_spelled c.schema me made.notes notes)) (sends_spelled c.schema (sent_count now.tape + 1) made.sends is.sends));
}

-- a node that a step leaves cut
cut_node : Standing → ℕ → Met → Node
cut_node now me met = crashed (record { met = met ∷ (now.node me).met; open_operations = []; stored = (now.node me).stored })

cut_formed : (c : Cluster) (now : Standing) (me : ℕ) (own : List Item) (met : Met) (left : Left) (owed : List Met) (log_fuse data_fuse : ℕ → Option Fuse) → Formed c now → IsItem met → are_marks (refreshed_marks (met ∷ (now.node me).met)) ≡ true → Each (IsSpelled c.schema) own → Each (IsNote c.schema) owed
    → Formed c (cut_step c now me own met left owed log_fuse data_fuse)
unfolding cut_node
cut_formed c now me own met left owed log_fuse data_fuse f is marks spelled owing = record {
  marks = marks_set now me (cut_node now me met) f.marks marks;
  nodes = nodes_set now me (cut_node now me met) f.nodes
      (crash_formed (record { met = met ∷ (now.node me).met; open_operations = []; stored = (now.node me).stored }) (record { met = (is, (f.nodes me).met); open_operations = tt }));
  owed = owed_set c.schema now me owed f.owed owing;
  members = members_set c now me (cut_node now me met) f.members (λ up. no_up up);
  items = with_each (IsSpelled c.schema) tt c (set_at now.node me (cut_node now me met)) now.tape (own ++ shown me Crashes) f.items (each_both (IsSpelled c.schema) own (shown me Crashes) spelled (tt, tt));
}

if_kept : (k : Schema) (t : Bool) (owed : List Met) → Each (IsNote k) owed → Each (IsNote k) (cond t owed [])
if_kept k true owed h = h
if_kept k false owed h = tt

owes_formed : (k : Schema) (made : Step) (replies : List Message) → Each (IsNote k) made.notes → AreMessages replies → Each (IsNote k) (owes made replies)
owes_formed k made replies notes are =
    each_both (IsNote k) (filter is_durable made.notes) (map Unsends replies) (each_filter (IsNote k) is_durable made.notes notes)
    (each_map _ (IsNote k) Unsends (λ m is. (is, tt)) replies are)

fated_formed : (c : Cluster) (now : Standing) (me : ℕ) (own : List Item) (met : Met) (made : Step) (replies : List Message) (fate : Fate) → Formed c now → is_node c me ≡ true → IsStep made → are_marks (refreshed_marks made.node.met) ≡ true → are_marks (refreshed_marks (met ∷ (now.node me).met)) ≡ true → Each (IsNote c.schema) made.notes → Each (IsSpelled c.schema) own → IsItem met → AreMessages replies
    → Formed c (fated c now me own met made replies fate)
fated_formed c now me own met made replies Whole f member is marks cut notes spelled item are = whole_formed c now me own made f member is marks notes spelled
fated_formed c now me own met made replies (CutByLog left) f member is marks cut notes spelled item are =
    cut_formed c now me own met left (cond (is_kept left) (owes made replies) []) (set_at now.log_fuse me None) now.data_fuse f item cut spelled (if_kept c.schema (is_kept left) (owes made replies) (owes_formed c.schema made replies notes are))
fated_formed c now me own met made replies (CutByData left) f member is marks cut notes spelled item are =
    cut_formed c now me own met left [] now.log_fuse (set_at now.data_fuse me None) f item cut spelled tt

own_formed : (s : Setting) (met : List Met) (event : Event) → IsEvent event → IsItem (met_in s met event)
own_formed s met (Tick now) is = is
own_formed s met (Take message) is = is
own_formed s met (Begin request text) is = tt

own_marks : (s : Setting) (met : List Met) (event : Event) → are_marks (refreshed_marks met) ≡ true → are_marks (refreshed_marks (met_in s met event ∷ met)) ≡ true
own_marks s met (Tick now) marks = marks
own_marks s met (Take message) marks = marks
own_marks s met (Begin request text) marks = marks

own_same : (s : Setting) (node : Node) (event : Event) → own_item s node event ≡ met_in s node.met event
own_same s node (Tick now) = refl
own_same s node (Take message) = refl
own_same s node (Begin request text) = refl

sends_said : (k : Schema) (ms : List Message) → Each (IsSaid k) (map Sends ms)
sends_said k [] = tt
sends_said k (m ∷ ms) = (tt, sends_said k ms)

made_marks : (s : Setting) (node : Node) (event : Event) → are_marks (refreshed_marks node.met) ≡ true → are_marks (refreshed_marks (step s node event).node.met) ≡ true
made_marks s node event marks =
    subst (λ met. are_marks (refreshed_marks met) ≡ true) (sym (step_met s node event ∙ ap (λ one. onto (map Sends (step s node event).sends) (onto (step s node event).notes (one ∷ node.met))) (own_same s node event)))
    (marks_onto s.cluster.schema (map Sends (step s node event).sends) (onto (step s node event).notes (met_in s node.met event ∷ node.met)) (sends_said s.cluster.schema (step s node event).sends)
    (marks_onto s.cluster.schema (step s node event).notes (met_in s node.met event ∷ node.met) (step_said s node event marks) (own_marks s node.met event marks)))

replies_formed : (c : Cluster) (me : ℕ) (met : List Met) (event : Event) → IsMember me → IsMet met → IsEvent event → AreMessages (replies_in c me met event)
replies_formed c me met (Take message) member is asked = reply_formed c me met message member is asked
replies_formed c me met (Tick now) member is asked = tt
replies_formed c me met (Begin request text) member is asked = tt

pub at_formed : (c : Cluster) (h : Meanings) (now : Standing) (me : ℕ) (own : List Item) (event : Event) (cut : Calls → Fate) → IsCluster c → AreHandlers h → Formed c now → is_node c me ≡ true → IsEvent event → Each (IsSpelled c.schema) own
    → Formed c (at_node c h now me own event cut)
at_formed c h now me own event cut cluster handlers f member asked spelled =
    fated_formed c now me own (met_in s (now.node me).met event) made (replies_in c me (now.node me).met event) (fate_by now me cut (calls_of c h now me event made)) f member is (made_marks s (now.node me) event (f.marks me)) (own_marks s (now.node me).met event (f.marks me))
    (each_pair IsItem (IsSaid c.schema) made.notes is.notes (step_said s (now.node me) event (f.marks me))) spelled (own_formed s (now.node me).met event asked)
    (replies_formed c me (now.node me).met event (is_member c me cluster member) (f.nodes me).met asked)
  where
    s : Setting
    s = setting c h me

    made : Step
    made = step s (now.node me) event

    is : IsStep made
    is = step_formed s (now.node me) event (record { cluster = cluster; me = is_member c me cluster member; handlers = handlers }) (f.nodes me) asked

-- what came onto the tape came behind what stood on it
fated_back : (P : Item → Type 0) (c : Cluster) (now : Standing) (me : ℕ) (own : List Item) (met : Met) (made : Step) (replies : List Message) (fate : Fate) → Each P (fated c now me own met made replies fate).tape → Each P now.tape
fated_back P c now me own met made replies Whole h = with_back P c (set_at now.node me made.node) now.tape ((own ++ flat_map (shown me) made.notes) ++ numbered (sent_count now.tape + 1) made.sends) h
fated_back P c now me own met made replies (CutByLog left) h = with_back P c (set_at now.node me (crashed (record { met = met ∷ (now.node me).met; open_operations = []; stored = (now.node me).stored }))) now.tape (own ++ shown me Crashes) h
fated_back P c now me own met made replies (CutByData left) h = with_back P c (set_at now.node me (crashed (record { met = met ∷ (now.node me).met; open_operations = []; stored = (now.node me).stored }))) now.tape (own ++ shown me Crashes) h

pub at_back : (P : Item → Type 0) (c : Cluster) (h : Meanings) (now : Standing) (me : ℕ) (own : List Item) (event : Event) (cut : Calls → Fate) → Each P (at_node c h now me own event cut).tape → Each P now.tape
at_back P c h now me own event cut all =
    fated_back P c now me own (met_in (setting c h me) (now.node me).met event) (step (setting c h me) (now.node me) event) (replies_in c me (now.node me).met event)
    (fate_by now me cut (calls_of c h now me event (step (setting c h me) (now.node me) event))) all

-- ---- crashes and starts

pub crash_reached : (c : Cluster) (now : Standing) (me : ℕ) → Formed c now → Formed c (crashes now me)
crash_reached c now me f = record {
  nodes = nodes_set now me (crashed (now.node me)) f.nodes (crash_formed (now.node me) (f.nodes me));
  marks = marks_set now me (crashed (now.node me)) f.marks (f.marks me);
  owed = f.owed;
  members = members_set c now me (crashed (now.node me)) f.members (λ up. no_up up);
  items = (tt, f.items);
}

cut_start_formed : (c : Cluster) (now : Standing) (me : ℕ) (left : Left) (log_fuse data_fuse : ℕ → Option Fuse) → Formed c now → Formed c (cut_start now me left log_fuse data_fuse)
cut_start_formed c now me left log_fuse data_fuse f = record {
  nodes = nodes_set now me (crashed (now.node me)) f.nodes (crash_formed (now.node me) (f.nodes me));
  marks = marks_set now me (crashed (now.node me)) f.marks (f.marks me);
  owed = f.owed;
  members = members_set c now me (crashed (now.node me)) f.members (λ up. no_up up);
  items = (tt, f.items);
}

whole_start_formed : (c : Cluster) (h : Meanings) (now : Standing) (me : ℕ) → Formed c now → is_node c me ≡ true → IsU32 (now.starts me + 1)
    → Formed c (whole_start c now me (start_items (setting c h me) (now.starts me + 1) (now.owed me) (now.node me).met) (start (setting c h me) (now.starts me + 1) (now.owed me) (now.node me).met))
whole_start_formed c h now me f member number = record {
  nodes = nodes_set now me node f.nodes (started s (now.starts me + 1) (now.owed me) (now.node me).met number (each_weaker (IsNote c.schema) IsItem (λ one is. is.0) (now.owed me) (f.owed me)) (f.nodes me).met);
  marks = marks_set now me node f.marks (marks_onto c.schema items (now.node me).met (each_weaker (IsNote c.schema) (IsSaid c.schema) (λ one is. is.1) items all) (f.marks me));
  owed = owed_set c.schema now me [] f.owed tt;
  members = members_set c now me node f.members (λ up. member);
  items = with_each (IsSpelled c.schema) tt c (set_at now.node me node) now.tape (flat_map (shown me) items) f.items (notes_spelled c.schema me items all);
}
  where
    s : Setting
    s = setting c h me

    node : Node
    node = start s (now.starts me + 1) (now.owed me) (now.node me).met

    items : List Met
    items = start_items s (now.starts me + 1) (now.owed me) (now.node me).met

    last : List Met
    last = start_notes s (onto (now.owed me) (Starts (now.starts me + 1) ∷ (now.node me).met))

    all : Each (IsNote c.schema) items
    all = (
      (number, tt),
      each_both (IsNote c.schema) (now.owed me) last (f.owed me)
          (each_pair IsItem (IsSaid c.schema) last (starts_formed s (onto (now.owed me) (Starts (now.starts me + 1) ∷ (now.node me).met))) (stills_said c.schema last (starts_still s (onto (now.owed me) (Starts (now.starts me + 1) ∷ (now.node me).met))))),
    )

-- a start's number stands on the tape
number_held : (n : ℕ) → n ≤ 4294967295 → IsU32 n
number_held n le = (omega arith, le)

pub start_reached : (c : Cluster) (h : Meanings) (now : Standing) (me : ℕ) (fate : Fate) → is_node c me ≡ true → (Each HoldsItem now.tape → Formed c now) → Each HoldsItem (fated_start c h now me fate).tape → Formed c (fated_start c h now me fate)
start_reached c h now me Whole member before held =
    whole_start_formed c h now me (before (with_back HoldsItem c (set_at now.node me node) now.tape (flat_map (shown me) items) held)) member
    (number_held (now.starts me + 1) shown_start.1)
  where
    node : Node
    node = start (setting c h me) (now.starts me + 1) (now.owed me) (now.node me).met

    items : List Met
    items = start_items (setting c h me) (now.starts me + 1) (now.owed me) (now.node me).met

    rest : List Met
    rest = now.owed me ++ start_notes (setting c h me) (onto (now.owed me) (Starts (now.starts me + 1) ∷ (now.node me).met))

    shown_start : HoldsItem (Start (number me) (now.starts me + 1))
    shown_start = with_first HoldsItem c (set_at now.node me node) now.tape (Start (number me) (now.starts me + 1)) (flat_map (shown me) rest) held
start_reached c h now me (CutByLog left) member before held = cut_start_formed c now me left (set_at now.log_fuse me None) now.data_fuse (before held.1)
start_reached c h now me (CutByData left) member before held = cut_start_formed c now me left _ (set_at now.data_fuse me None) (before held.1)
