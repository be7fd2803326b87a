-- In every run each decision has its cause, and each open operation knows what it heard.
use Rattle.std.proofs.Common.{◌≡◌, ◌⊎◌, inl, inr, ℕ, ◌+◌, ◌-◌, ◌==◌, ◌&&◌, ◌||◌, ◌<◌, min, nat_le, Bool, true, false, not, cond, List, [], ◌∷◌, ◌++◌, filter, flat_map, map, Option, None, refl, sym, ap, ◌∙◌, subst, arith}
use Rattle.std.proofs.lemmas.Bool.Decides.{nat_tests}
use Rattle.std.proofs.lemmas.Bool.{or_cases, or_left, or_right, and_parts, false_from_ne_true}
use Rattle.mega_base.specs.declared.names.OpId.{OpId}
use Rattle.mega_ballot.specs.declared.ballot.Ballot.{Ballot}
use Rattle.mega_cluster.specs.declared.cluster.Cluster.{Cluster}
use Rattle.mega_entry.specs.declared.content.Content.{Content}
use Rattle.mega_handler.specs.Named.{Meanings}
use Rattle.mega_outcome.specs.declared.request.Request.{Request}
use Rattle.mega_wire.specs.declared.message.Message.{Message}
use Rattle.mega_wire.specs.declared.message.Body.{Body}
use Rattle.mega_wire.specs.declared.message.Body.TheVariants.{Dead, Unheld}
use Rattle.mega_wal.specs.Same.{same_op}
use Rattle.mega_wal.proofs.Sames.{same_op_equal, same_op_self}
use Rattle.mega_run_laws.specs.of_transcript.declared.item.Item.{Item}
use Rattle.mega_run_laws.specs.of_transcript.declared.item.Item.TheVariants.{Begin as BeginItem, Crash, Decide, Dropped, Cut as CutItem, Sent, Taken, Tick as TickItem, Unsafe}
use Rattle.mega_run_laws.specs.of_transcript.Tape.{sent_count}
use Rattle.mega_run_laws.specs.of_promises.Items.{number, numbered, shown}
use Rattle.mega_run_laws.specs.of_promises.Messages.{is_unsafe}
use Rattle.mega_run_laws.specs.of_promises.Promises.{Stands}
use Rattle.mega_run_laws.specs.of_promises.Runs.{Calls, CutByData, CutByLog, Fate, Fuse, Happening, IsRun, Left, Standing, Whole, at_node, breaks, calls_of, cut_step, fate_by, fated, fated_start, is_durable, is_kept, marked, nothing_yet, owes, set_at, setting, whole_step, with_item, with_items}
use Rattle.mega_run_laws.specs.of_rules.Met.{Met, Starts, Crashes, Ticks, Begins, Takes, Sends, Unsends, Grants, Lapses, Counts, Forgets, Serves, Loses, Validates, Invalidates, Decides, Applies, Answers}
use Rattle.mega_run_laws.specs.of_rules.Clock.{begun_of, is_up, last_number, start_of}
use Rattle.mega_run_laws.specs.of_rules.Members.{kind_of}
use Rattle.mega_run_laws.specs.of_rules.Operations.{Node, Operation, Setting}
use Rattle.mega_run_laws.specs.of_rules.Replies.{reply_to}
use Rattle.mega_run_laws.specs.of_rules.Steps.{Begin, Step, Take, Tick, crashed, is_worn, missing_kind, onto, op_of, refusal, start, start_items, start_notes, step, unless_missing}
use Rattle.mega_run_laws.specs.of_tape_laws.Lawful.{message}
use Rattle.mega_run_laws.specs.of_tape_laws.Places.{Place}
use Rattle.mega_run_laws.specs.of_tape_laws.Writes.{has_begun}
use Rattle.mega_run_laws.proofs.of_tape_laws.Ballots.{clash, number_is, number_self}
use Rattle.mega_run_laws.specs.Justified.{Each, sent}
use Rattle.mega_run_laws.proofs.Events.{IsPlain, each_append as each_both}
use Rattle.mega_run_laws.proofs.Noted.{with_append, with_sent}
use Rattle.mega_run_laws.proofs.Runs.{IsMark, Keeps, nobody, run_keeps, starts_plain, at_self, at_other}
use Rattle.mega_run_laws.proofs.Sending.{Stood, took_on}
use Rattle.mega_run_laws.proofs.Standing.{Good}
use Rattle.mega_run_laws.proofs.Steps.{never_begun, not_worn}
use Rattle.mega_run_laws.proofs.Turns.{Held, each_on}
use Rattle.mega_settled_laws.specs.Covering.{Earlier, IsCoveredSince, asks_about, free, has_asked_about, invalidated, voted}
use Rattle.mega_run_laws.proofs.Shown.{IsSilent, notes_silent}
use Rattle.mega_settled_laws.proofs.Tapes.{asked_sent, asks_in, earlier_stood, items_asked, items_later, now_is, one_later, sent_later, then_later}
use Rattle.mega_settled_laws.proofs.Settle.{AreOfCells, Cause, CellBody, by_answer, by_news, by_own}
use Rattle.mega_settled_laws.proofs.Steps.{NoteCause, StepKnows, begin_knows, take_knows, tick_knows}
use Rattle.mega_settled_laws.proofs.Turns.{OpenBelow, OpenAt, Own, OwnBody, knowing_on}

-- ---- causes on a longer tape

covered_on : (c : Cluster) (moment old new : List Item) (op : OpId) (p : Place) (b : Ballot) (e : Content) (node : ℕ) → Stood old new → IsCoveredSince c moment old op p b e node → IsCoveredSince c moment new op p b e node
covered_on c moment old new op p b e node s (voted h) = voted (took_on old new s _ h)
covered_on c moment old new op p b e node s (invalidated h) = invalidated (took_on old new s _ h)
covered_on c moment old new op p b e node s (free test most quiet heard) = free test most quiet (λ cell i. took_on old new s _ (heard cell i))

cause_on : (c : Cluster) (old new : List Item) → Earlier old new → (me : ℕ) (p : Place) (e : Content) → Cause c old me p e → Cause c new me p e
cause_on c old new later me p e (by_own op own h) = by_own op own (record {
  ballot = h.ballot;
  moment = h.moment;
  earlier = then_later h.moment old new h.earlier later;
  test = h.test;
  majority = h.majority;
  heard = h.heard;
  covered = λ node i. covered_on c h.moment old new op p h.ballot e node (earlier_stood old new later) (h.covered node i);
})
cause_on c old new later me p e (by_news from took) = by_news from (took_on old new (earlier_stood old new later) _ took)
cause_on c old new later me p e (by_answer from op took) = by_answer from op (took_on old new (earlier_stood old new later) _ took)

note_cause_on : (c : Cluster) (old new : List Item) → Earlier old new → (me : ℕ) (one : Met) → NoteCause c old me one → NoteCause c new me one
note_cause_on c old new later me (Decides group n entry) h = cause_on c old new later me _ entry h
note_cause_on c old new later me _ h = tt

-- ---- what holds of each item

abbrev pub IsCaused : Cluster → List Item → Item → Type 0
IsCaused c before (Decide node g n e) = Cause c before node.0 (record { group = g; position = n }) e
IsCaused c before _ = Unit {0}

abbrev pub AreCaused : Cluster → List Item → Type 0
AreCaused c [] = Unit {0}
AreCaused c (item ∷ before) = IsCaused c before item × AreCaused c before

caused_on : (c : Cluster) (old new : List Item) → Earlier old new → (item : Item) → IsCaused c old item → IsCaused c new item
caused_on c old new later (Decide node g n e) h = cause_on c old new later node.0 _ e h
caused_on c old new later _ h = tt

-- an item that a node notes: it sends nothing, and a decision has its cause
pub record IsNote (c : Cluster) (base : List Item) (item : Item) : Type 0 where
  pub silent : IsSilent item
  pub caused : IsCaused c base item

shown_notes : (c : Cluster) (base : List Item) (me : ℕ) (one : Met) → NoteCause c base me one → Each (IsNote c base) (shown me one)
shown_notes c base me (Starts start) h = (record { silent = tt; caused = tt }, tt)
shown_notes c base me Crashes h = (record { silent = tt; caused = tt }, tt)
shown_notes c base me (Ticks now) h = (record { silent = tt; caused = tt }, tt)
shown_notes c base me (Begins op text) h = (record { silent = tt; caused = tt }, tt)
shown_notes c base me (Takes message) h = tt
shown_notes c base me (Sends message) h = tt
shown_notes c base me (Unsends message) h = (record { silent = tt; caused = tt }, tt)
shown_notes c base me (Grants node epoch) h = (record { silent = tt; caused = tt }, tt)
shown_notes c base me (Lapses node epoch) h = (record { silent = tt; caused = tt }, tt)
shown_notes c base me (Counts cell epoch) h = (record { silent = tt; caused = tt }, tt)
shown_notes c base me (Forgets cell epoch) h = (record { silent = tt; caused = tt }, tt)
shown_notes c base me (Serves epoch) h = (record { silent = tt; caused = tt }, tt)
shown_notes c base me (Loses epoch) h = (record { silent = tt; caused = tt }, tt)
shown_notes c base me (Validates group position) h = (record { silent = tt; caused = tt }, tt)
shown_notes c base me (Invalidates group position) h = (record { silent = tt; caused = tt }, tt)
shown_notes c base me (Decides group position entry) h = (record { silent = tt; caused = h }, tt)
shown_notes c base me (Applies group position) h = (record { silent = tt; caused = tt }, tt)
shown_notes c base me (Answers op answer) h = (record { silent = tt; caused = tt }, tt)

all_notes : (c : Cluster) (base : List Item) (me : ℕ) (notes : List Met) → Each (NoteCause c base me) notes → Each (IsNote c base) (flat_map (shown me) notes)
all_notes c base me [] h = tt
all_notes c base me (one ∷ notes) h = each_both (IsNote c base) (shown me one) (flat_map (shown me) notes) (shown_notes c base me one h.0) (all_notes c base me notes h.1)

silent_cell : (c : Cluster) (item : Item) → IsSilent item → (before : List Item) → AreOfCells c before → AreOfCells c (item ∷ before)
silent_cell c (Sent key m) silent before h = absurd silent
silent_cell c _ silent before h = (tt, h)

module _ (c : Cluster) (nodes : ℕ → Node) (base : List Item) where
  item_caused : (tape : List Item) (item : Item) → Earlier base tape → IsNote c base item → AreCaused c tape → AreCaused c (with_item c nodes tape item)
  item_caused tape item later note h = by (breaks c nodes item && not (is_unsafe tape))
    where
      by : (t : Bool) → AreCaused c (cond t (Unsafe ∷ item ∷ tape) (item ∷ tape))
      by true = (tt, (caused_on c base tape later item note.caused, h))
      by false = (caused_on c base tape later item note.caused, h)

  item_cells : (tape : List Item) (item : Item) → IsNote c base item → AreOfCells c tape → AreOfCells c (with_item c nodes tape item)
  item_cells tape item note h = by (breaks c nodes item && not (is_unsafe tape))
    where
      by : (t : Bool) → AreOfCells c (cond t (Unsafe ∷ item ∷ tape) (item ∷ tape))
      by true = (tt, silent_cell c item note.silent tape h)
      by false = silent_cell c item note.silent tape h

  item_after : (tape : List Item) (item : Item) → Earlier tape (with_item c nodes tape item)
  item_after tape item = items_later c nodes (item ∷ []) tape

  items_caused : (items tape : List Item) → Earlier base tape → Each (IsNote c base) items → AreCaused c tape → AreCaused c (with_items c nodes tape items)
  items_caused [] tape later notes h = h
  items_caused (item ∷ items) tape later notes h =
      items_caused items (with_item c nodes tape item) (then_later base tape (with_item c nodes tape item) later (item_after tape item)) notes.1 (item_caused tape item later notes.0 h)

  items_cells : (items tape : List Item) → Each (IsNote c base) items → AreOfCells c tape → AreOfCells c (with_items c nodes tape items)
  items_cells [] tape notes h = h
  items_cells (item ∷ items) tape notes h = items_cells items (with_item c nodes tape item) notes.1 (item_cells tape item notes.0 h)

sent_caused : (c : Cluster) (n : ℕ) (ms : List Message) (tape : List Item) → AreCaused c tape → AreCaused c (sent n ms tape)
sent_caused c n [] tape h = h
sent_caused c n (m ∷ ms) tape h = sent_caused c (n + 1) ms (Sent n m ∷ tape) (tt, h)

own_cell : (c : Cluster) (base : List Item) (me k : ℕ) (body : Body) → OwnBody c base me k body → CellBody c body
own_cell c base me k (Unheld op cell about) h = h
own_cell c base me k _ h = tt

sent_cells : (c : Cluster) (base : List Item) (me k n : ℕ) (ms : List Message) (tape : List Item) → Each (Own c base me k) ms → AreOfCells c tape → AreOfCells c (sent n ms tape)
sent_cells c base me k n [] tape own h = h
sent_cells c base me k n (m ∷ ms) tape own h = sent_cells c base me k (n + 1) ms (Sent n m ∷ tape) own.1 (own_cell c base me k m.body (own.0).body, h)

-- ---- what began, and what was asked

one_begun : (item : Item) (before : List Item) (x : OpId) → has_begun before x ≡ true → has_begun (item ∷ before) x ≡ true
one_begun (BeginItem began text) before x h = by (same_op began x)
  where
    by : (t : Bool) → (t || has_begun before x) ≡ true
    by true = refl
    by false = h
one_begun _ before x h = h

begun_behind : (later moment : List Item) (x : OpId) → has_begun moment x ≡ true → has_begun (later ++ moment) x ≡ true
begun_behind [] moment x h = h
begun_behind (item ∷ later) moment x h = one_begun item (later ++ moment) x (begun_behind later moment x h)

begun_on : (old new : List Item) (x : OpId) → Earlier old new → has_begun old x ≡ true → has_begun new x ≡ true
begun_on old new x e h = subst (λ t. has_begun t x ≡ true) (sym e.is) (begun_behind e.later old x h)

sent_asked : (n : ℕ) (ms : List Message) (tape : List Item) (x : OpId) (node : ℕ) → has_asked_about (sent n ms tape) x node ≡ true → (asks_in ms x node ≡ true) ⊎ (has_asked_about tape x node ≡ true)
sent_asked n [] tape x node h = inr h
sent_asked n (m ∷ ms) tape x node h = elim (sent_asked (n + 1) ms (Sent n m ∷ tape) x node h) [
  | inl more ↦ inl (or_right (asks_about x node m.body) (asks_in ms x node) more)
  | inr here ↦ elim (or_cases (asks_about x node m.body) (has_asked_about tape x node) here) [ inl one ↦ inl (or_left (asks_about x node m.body) (asks_in ms x node) one) | inr old ↦ inr old ]
]

-- who asks began
asks_begun : (c : Cluster) (base : List Item) (me k : ℕ) (ms : List Message) (x : OpId) (node : ℕ) → Each (Own c base me k) ms → asks_in ms x node ≡ true → has_begun base x ≡ true
asks_begun c base me k [] x node own h = cc
asks_begun c base me k (m ∷ ms) x node own h = elim (or_cases (asks_about x node m.body) (asks_in ms x node) h) [ inl one ↦ by m.body (own.0).body one | inr more ↦ asks_begun c base me k ms x node own.1 more ]
  where
    by : (body : Body) → OwnBody c base me k body → asks_about x node body ≡ true → has_begun base x ≡ true
    by (Dead op cell about) o is = subst (λ y. has_begun base y ≡ true) (same_op_equal op x (and_parts (same_op op x) (about.0 == node) is).0) o.begun
    by _ o is = cc

-- a node asks nothing for operations of others
asks_elsewhere : (c : Cluster) (base : List Item) (me k : ℕ) (ms : List Message) (x : OpId) (node : ℕ) → (me == x.node.0) ≡ false → Each (Own c base me k) ms → asks_in ms x node ≡ false
asks_elsewhere c base me k ms x node apart own = false_from_ne_true (asks_in ms x node) (λ h. elsewhere ms own h)
  where
    by : (body : Body) → OwnBody c base me k body → asks_about x node body ≡ true → ⊥
    by (Dead op cell about) o is =
        clash (me == x.node.0) (ap (λ v. v == x.node.0) (sym o.node) ∙ ap (λ (y : OpId). y.node.0 == x.node.0) (same_op_equal op x (and_parts (same_op op x) (about.0 == node) is).0) ∙ number_self x.node.0) apart
    by _ o is = cc

    elsewhere : (ms : List Message) → Each (Own c base me k) ms → asks_in ms x node ≡ true → ⊥
    elsewhere [] own h = cc
    elsewhere (m ∷ ms) own h = elim (or_cases (asks_about x node m.body) (asks_in ms x node) h) [ inl one ↦ by m.body (own.0).body one | inr more ↦ elsewhere ms own.1 more ]

-- ---- standings

pub record Settling (c : Cluster) (tape : List Item) (node : ℕ → Node) (owed : ℕ → List Met) : Type 0 where
  pub cells : AreOfCells c tape
  pub caused : AreCaused c tape
  pub opens : (v : ℕ) → Each (OpenAt c tape v) (node v).open_operations
  pub owes : (v : ℕ) → Each (NoteCause c tape v) (owed v)
  pub asked : (x : OpId) (about : ℕ) → has_asked_about tape x about ≡ true → has_begun tape x ≡ true

-- a tape that one node made longer
pub record Longer (c : Cluster) (old new : List Item) (me : ℕ) : Type 0 where
  later : Earlier old new
  cells : AreOfCells c new
  caused : AreCaused c new
  still : (x : OpId) (about : ℕ) → (me == x.node.0) ≡ false → has_asked_about old x about ≡ false → has_asked_about new x about ≡ false
  asked : (x : OpId) (about : ℕ) → has_asked_about new x about ≡ true → has_begun new x ≡ true

open_on : (c : Cluster) (old new : List Item) (v : ℕ) → Earlier old new → ((x : OpId) (about : ℕ) → x.node.0 ≡ v → has_asked_about old x about ≡ false → has_asked_about new x about ≡ false) → (o : Operation) → OpenAt c old v o → OpenAt c new v o
open_on c old new v later still o h = record {
  node = h.node;
  begun = begun_on old new o.id later h.begun;
  knowing = knowing_on c old new [] o.id o.phase later (λ about a b. still o.id about h.node a) h.knowing;
}

next_settling : (c : Cluster) (old new : List Item) (nodes : ℕ → Node) (owed more : ℕ → List Met) (me : ℕ) (node : Node) → Settling c old nodes owed → Longer c old new me → Each (OpenAt c new me) node.open_operations
    → Each (NoteCause c new me) (more me) → ((v : ℕ) → (me == v) ≡ false → more v ≡ owed v) → Settling c new (set_at nodes me node) more
next_settling c old new nodes owed more me node h l mine owes same = record {
  cells = l.cells;
  caused = l.caused;
  opens = λ v. by v (me == v) refl;
  owes = λ v. owes_by v (me == v) refl;
  asked = l.asked;
}
  where
    by : (v : ℕ) (t : Bool) → (me == v) ≡ t → Each (OpenAt c new v) (cond t node (nodes v)).open_operations
    by v true e = subst (λ w. Each (OpenAt c new w) node.open_operations) (number_is me v e) mine
    by v false e = each_on (OpenAt c old v) (OpenAt c new v) (open_on c old new v l.later (λ x about is a. l.still x about (ap (λ w. me == w) is ∙ e) a)) (nodes v).open_operations (h.opens v)

    owes_by : (v : ℕ) (t : Bool) → (me == v) ≡ t → Each (NoteCause c new v) (more v)
    owes_by v true e = subst (λ w. Each (NoteCause c new w) (more w)) (number_is me v e) owes
    owes_by v false e = subst (Each (NoteCause c new v)) (sym (same v e)) (each_on (NoteCause c old v) (NoteCause c new v) (note_cause_on c old new l.later v) (owed v) (h.owes v))

-- ---- a step of a node

-- an item of an event: it sends nothing and decides nothing
pub record IsEvent (c : Cluster) (tape : List Item) (item : Item) : Type 0 where
  pub note : IsNote c tape item
  pub plain : (nodes : ℕ → Node) → with_item c nodes tape item ≡ item ∷ tape
  pub asked : (x : OpId) (about : ℕ) → has_asked_about (item ∷ tape) x about ≡ has_asked_about tape x about

module _ (c : Cluster) (now : Standing) (me : ℕ) (item : Item) (event : IsEvent c now.tape item) (h : Settling c now.tape now.node now.owed) where
  abbrev pub first : List Item
  first = item ∷ now.tape

  first_later : Earlier now.tape first
  first_later = one_later now.tape now.tape item (now_is now.tape)

  first_cells : AreOfCells c first
  first_cells = silent_cell c item (event.note).silent now.tape h.cells

  first_caused : AreCaused c first
  first_caused = ((event.note).caused, h.caused)

  first_asked : (x : OpId) (about : ℕ) → has_asked_about first x about ≡ true → has_begun first x ≡ true
  first_asked x about a = begun_on now.tape first x first_later (h.asked x about (sym (event.asked x about) ∙ a))

  pub first_opens : Each (OpenAt c first me) (now.node me).open_operations
  first_opens = each_on (OpenAt c now.tape me) (OpenAt c first me) (open_on c now.tape first me first_later (λ x about is a. event.asked x about ∙ a)) (now.node me).open_operations (h.opens me)

  -- the step is whole
  module _ (handlers : Meanings) (made : Step) (k : StepKnows (setting c handlers me) first made) where
    abbrev nodes' : ℕ → Node
    nodes' = set_at now.node me made.node

    abbrev second : List Item
    second = with_items c nodes' first (flat_map (shown me) made.notes)

    abbrev count : ℕ
    count = sent_count now.tape + 1

    abbrev third : List Item
    third = sent count made.sends second

    noted : Each (IsNote c first) (flat_map (shown me) made.notes)
    noted = all_notes c first me made.notes k.causes

    second_later : Earlier first second
    second_later = items_later c nodes' (flat_map (shown me) made.notes) first

    third_later : Earlier first third
    third_later = then_later first second third second_later (sent_later count made.sends second)

    second_asked : (x : OpId) (about : ℕ) → has_asked_about second x about ≡ has_asked_about first x about
    second_asked x about = items_asked c nodes' (flat_map (shown me) made.notes) first x about (notes_silent me made.notes)

    longer : Longer c now.tape third me
    longer = record {
      later = then_later now.tape first third first_later third_later;
      cells = sent_cells c first me k.k count made.sends second k.own (items_cells c nodes' first (flat_map (shown me) made.notes) first noted first_cells);
      caused = sent_caused c count made.sends second (items_caused c nodes' first (flat_map (shown me) made.notes) first (now_is first) noted first_caused);
      still = λ x about apart a. asked_sent count made.sends second x about (asks_elsewhere c first me k.k made.sends x about apart k.own) (second_asked x about ∙ event.asked x about ∙ a);
      asked = λ x about a. elim (sent_asked count made.sends second x about a) [
        | inl one ↦ begun_on first third x third_later (asks_begun c first me k.k made.sends x about k.own one)
        | inr old ↦ begun_on first third x third_later (first_asked x about (sym (second_asked x about) ∙ old))
      ];
    }

    third_opens : Each (OpenAt c third me) (made.node).open_operations
    third_opens = each_on (OpenBelow c first made.sends me k.k) (OpenAt c third me) (λ o kept. record {
      node = kept.node;
      begun = begun_on first third o.id third_later kept.begun;
      knowing = knowing_on c first third made.sends o.id o.phase third_later (λ about a b. asked_sent count made.sends second o.id about b (second_asked o.id about ∙ a)) kept.knowing;
    }) (made.node).open_operations k.opens

    whole : with_items c nodes' now.tape (((item ∷ []) ++ flat_map (shown me) made.notes) ++ numbered count made.sends) ≡ third
    whole = with_append c nodes' ((item ∷ []) ++ flat_map (shown me) made.notes) (numbered count made.sends) now.tape
        ∙ with_sent c nodes' count made.sends (with_items c nodes' now.tape ((item ∷ []) ++ flat_map (shown me) made.notes))
        ∙ ap (λ t. sent count made.sends (with_items c nodes' t (flat_map (shown me) made.notes))) (event.plain nodes')

    whole_settling : Settling c (whole_step c now me (item ∷ []) made).tape (whole_step c now me (item ∷ []) made).node (whole_step c now me (item ∷ []) made).owed
    whole_settling = subst (λ t. Settling c t (set_at now.node me made.node) now.owed) (sym whole)
        (next_settling c now.tape third now.node now.owed now.owed me made.node h longer third_opens
        (each_on (NoteCause c now.tape me) (NoteCause c third me) (note_cause_on c now.tape third longer.later me) (now.owed me) (h.owes me)) (λ v apart. refl))

    -- it is cut
    abbrev cut : List Item
    cut = Crash (number me) ∷ first

    cut_later : Earlier first cut
    cut_later = one_later first first (Crash (number me)) (now_is first)

    cut_longer : Longer c now.tape cut me
    cut_longer = record {
      later = then_later now.tape first cut first_later cut_later;
      cells = (tt, first_cells);
      caused = (tt, first_caused);
      still = λ x about apart a. event.asked x about ∙ a;
      asked = λ x about a. begun_on first cut x cut_later (first_asked x about a);
    }

    cut_settling : (own : Met) (left : Left) (owed : List Met) (log_fuse data_fuse : ℕ → Option Fuse) → Each (NoteCause c first me) owed
        → Settling c (cut_step c now me (item ∷ []) own left owed log_fuse data_fuse).tape (cut_step c now me (item ∷ []) own left owed log_fuse data_fuse).node (cut_step c now me (item ∷ []) own left owed log_fuse data_fuse).owed
    cut_settling own left owed log_fuse data_fuse causes =
        subst (λ t. Settling c t (set_at now.node me node2) (set_at now.owed me owed)) (sym (ap (λ t. with_item c (set_at now.node me node2) t (Crash (number me))) (event.plain (set_at now.node me node2))))
        (next_settling c now.tape cut now.node now.owed (set_at now.owed me owed) me node2 h cut_longer tt
        (subst (Each (NoteCause c cut me)) (sym (at_self now.owed me owed)) (each_on (NoteCause c first me) (NoteCause c cut me) (note_cause_on c first cut cut_later me) owed causes))
        (at_other now.owed me owed))
      where
        node2 : Node
        node2 = crashed (record { met = own ∷ (now.node me).met; open_operations = []; stored = (now.node me).stored })

    kept_causes : (notes : List Met) → Each (NoteCause c first me) notes → Each (NoteCause c first me) (filter is_durable notes)
    kept_causes [] h = tt
    kept_causes (one ∷ notes) h = by (is_durable one) (kept_causes notes h.1)
      where
        by : (t : Bool) → Each (NoteCause c first me) (filter is_durable notes) → Each (NoteCause c first me) (cond t (one ∷ filter is_durable notes) (filter is_durable notes))
        by true rest = (h.0, rest)
        by false rest = rest

    unsent_causes : (ms : List Message) → Each (NoteCause c first me) (map Unsends ms)
    unsent_causes [] = tt
    unsent_causes (m ∷ ms) = (tt, unsent_causes ms)

    owed_causes : (replies : List Message) → Each (NoteCause c first me) (owes made replies)
    owed_causes replies = each_both (NoteCause c first me) (filter is_durable made.notes) (map Unsends replies) (kept_causes made.notes k.causes) (unsent_causes replies)

    owed_if : (t : Bool) (replies : List Message) → Each (NoteCause c first me) (cond t (owes made replies) [])
    owed_if true replies = owed_causes replies
    owed_if false replies = tt

    pub fated_settling : (own : Met) (replies : List Message) (fate : Fate)
        → Settling c (fated c now me (item ∷ []) own made replies fate).tape (fated c now me (item ∷ []) own made replies fate).node (fated c now me (item ∷ []) own made replies fate).owed
    fated_settling own replies Whole = whole_settling
    fated_settling own replies (CutByLog left) = cut_settling own left (cond (is_kept left) (owes made replies) []) (set_at now.log_fuse me None) now.data_fuse (owed_if (is_kept left) replies)
    fated_settling own replies (CutByData left) = cut_settling own left [] now.log_fuse (set_at now.data_fuse me None) tt

-- ---- events

less_is : (a b : ℕ) → nat_le a b ≡ false → b < a
less_is a b h = grind (arith, nat_tests)

next_is : (b last : ℕ) → nat_le (last - 1) b ≡ false → min (b + 1) last ≡ b + 1
next_is b last h = let less = less_is (last - 1) b h in omega (arith, less)

next_named : (b last : ℕ) → min (b + 1) last ≡ b + 1 → nat_le (last - 1) b ≡ false → min (b + 1) last < last
next_named b last is h = let less = less_is (last - 1) b h in omega (arith, is, less)

abbrev pub SettlingAt : Cluster → Standing → Type 0
SettlingAt c now = Settling c now.tape now.node now.owed

taken_event : (c : Cluster) (tape : List Item) (j : ℕ) → IsEvent c tape (Taken j)
taken_event c tape j = record { note = record { silent = tt; caused = tt }; plain = λ nodes. refl; asked = λ x about. refl }

tick_event : (c : Cluster) (tape : List Item) (me clock : ℕ) → IsEvent c tape (TickItem (number me) clock)
tick_event c tape me clock = record { note = record { silent = tt; caused = tt }; plain = λ nodes. refl; asked = λ x about. refl }

begin_event : (c : Cluster) (tape : List Item) (op : OpId) (text : List ℕ) → IsEvent c tape (BeginItem op text)
begin_event c tape op text = record { note = record { silent = tt; caused = tt }; plain = λ nodes. refl; asked = λ x about. refl }

module _ (c : Cluster) where
  take_settling : (h : Meanings) (now : Standing) (j : ℕ) (m : Message) (cut : Calls → Fate) → Good nobody c now → is_up (now.node m.to).met ≡ true → Stands (Sent j m) now.tape → SettlingAt c now
      → SettlingAt c (at_node c h now m.to (Taken j ∷ []) (Take m) cut)
  take_settling h now j m cut g up stands q =
      fated_settling c now m.to (Taken j) (taken_event c now.tape j) q h made
      (take_knows (setting c h m.to) (Taken j ∷ now.tape) (now.node m.to) (tt, q.cells) (first_opens c now m.to (Taken j) (taken_event c now.tape j) q) m
      (record { number = j; sent = inr stands; taken = inl refl }) (g.node m.to).rising)
      (Takes m) (reply_to c m.to (now.node m.to).met m) (fate_by now m.to cut (calls_of c h now m.to (Take m) made))
    where
      made : Step
      made = step (setting c h m.to) (now.node m.to) (Take m)

  tick_settling : (h : Meanings) (now : Standing) (me clock : ℕ) (cut : Calls → Fate) → Good nobody c now → is_up (now.node me).met ≡ true → SettlingAt c now → SettlingAt c (at_node c h now me (shown me (Ticks clock)) (Tick clock) cut)
  tick_settling h now me clock cut g up q =
      fated_settling c now me (TickItem (number me) clock) (tick_event c now.tape me clock) q h made
      (tick_knows (setting c h me) (TickItem (number me) clock ∷ now.tape) (now.node me) (tt, q.cells) (first_opens c now me (TickItem (number me) clock) (tick_event c now.tape me clock) q) clock (g.node me).rising)
      (Ticks clock) [] (fate_by now me cut (calls_of c h now me (Tick clock) made))
    where
      made : Step
      made = step (setting c h me) (now.node me) (Tick clock)

  begin_settling : (h : Meanings) (now : Standing) (me : ℕ) (request : Request) (text : List ℕ) (cut : Calls → Fate) → Good nobody c now → is_up (now.node me).met ≡ true → SettlingAt c now
      → SettlingAt c (at_node c h now me (shown me (Begins (op_of (setting c h me) (now.node me).met) text)) (Begin request text) cut)
  begin_settling h now me request text cut g up q =
      fated_settling c now me (BeginItem id text) (begin_event c now.tape id text) q h made
      (begin_knows s (BeginItem id text ∷ now.tape) (now.node me) (tt, q.cells) (first_opens c now me (BeginItem id text) (begin_event c now.tape id text) q) request text (begun_of met + 1)
      (ap (λ t. t || has_begun now.tape id) (same_op_self id))
      (each_on (Held nobody c now.tape me (start_of met) (begun_of met + 1) met) (λ (o : Operation). (o.id).number < begun_of met + 1) (λ o held. held.below) (now.node me).open_operations (g.node me).held)
      (λ none. let is = next_number none in omega (arith, is))
      (λ none about. false_from_ne_true (has_asked_about now.tape id about) (λ a. clash (has_begun now.tape id) (q.asked id about a) (never_begun nobody s now g (named none)))))
      (Begins id text) [] (fate_by now me cut (calls_of c h now me (Begin request text) made))
    where
      s : Setting
      s = setting c h me

      met : List Met
      met = (now.node me).met

      id : OpId
      id = op_of s met

      made : Step
      made = step s (now.node me) (Begin request text)

      worn_not : refusal s (now.node me) request ≡ None → is_worn met ≡ false
      worn_not none = not_worn (is_worn met) (unless_missing (now.node me).open_operations (missing_kind request (kind_of c me))) none

      next_number : refusal s (now.node me) request ≡ None → id.number ≡ begun_of met + 1
      next_number none = next_is (begun_of met) last_number (worn_not none)

      named : refusal s (now.node me) request ≡ None → id.number < last_number
      named none = next_named (begun_of met) last_number (next_number none) (worn_not none)

  -- ---- crashes and starts

  down_settling : (now : Standing) (me : ℕ) (node : Node) (starts records : ℕ → ℕ) → node.open_operations ≡ [] → SettlingAt c now → Settling c (Crash (number me) ∷ now.tape) (set_at now.node me node) now.owed
  down_settling now me node starts records none q = next_settling c now.tape down now.node now.owed now.owed me node q (record {
    later = later;
    cells = (tt, q.cells);
    caused = (tt, q.caused);
    still = λ x about apart a. a;
    asked = λ x about a. begun_on now.tape down x later (q.asked x about a);
  }) (subst (Each (OpenAt c down me)) (sym none) tt) (each_on (NoteCause c now.tape me) (NoteCause c down me) (note_cause_on c now.tape down later me) (now.owed me) (q.owes me)) (λ v apart. refl)
    where
      down : List Item
      down = Crash (number me) ∷ now.tape

      later : Earlier now.tape down
      later = one_later now.tape now.tape (Crash (number me)) (now_is now.tape)

  start_causes : (h : Meanings) (tape : List Item) (me count : ℕ) (owed met : List Met) → Each (NoteCause c tape me) owed → Each (NoteCause c tape me) (start_items (setting c h me) count owed met)
  start_causes h tape me count owed met causes = (
    tt,
    each_both (NoteCause c tape me) owed (start_notes (setting c h me) (onto owed (Starts count ∷ met))) causes
        (each_on IsPlain (NoteCause c tape me) plain (start_notes (setting c h me) (onto owed (Starts count ∷ met))) (starts_plain (setting c h me) (onto owed (Starts count ∷ met)))),
  )
    where
      plain : (one : Met) → IsPlain one → NoteCause c tape me one
      plain (Decides group n entry) is = absurd is
      plain _ is = tt

  start_settling : (h : Meanings) (now : Standing) (me : ℕ) (fate : Fate) → SettlingAt c now → SettlingAt c (fated_start c h now me fate)
  start_settling h now me Whole q = next_settling c now.tape tape now.node now.owed (set_at now.owed me []) me node q (record {
    later = later;
    cells = items_cells c nodes' now.tape (flat_map (shown me) items) now.tape notes q.cells;
    caused = items_caused c nodes' now.tape (flat_map (shown me) items) now.tape (now_is now.tape) notes q.caused;
    still = λ x about apart a. same x about ∙ a;
    asked = λ x about a. begun_on now.tape tape x later (q.asked x about (sym (same x about) ∙ a));
  }) tt (subst (Each (NoteCause c tape me)) (sym (at_self now.owed me [])) tt) (at_other now.owed me [])
    where
      items : List Met
      items = start_items (setting c h me) (now.starts me + 1) (now.owed me) (now.node me).met

      node : Node
      node = start (setting c h me) (now.starts me + 1) (now.owed me) (now.node me).met

      nodes' : ℕ → Node
      nodes' = set_at now.node me node

      tape : List Item
      tape = with_items c nodes' now.tape (flat_map (shown me) items)

      later : Earlier now.tape tape
      later = items_later c nodes' (flat_map (shown me) items) now.tape

      notes : Each (IsNote c now.tape) (flat_map (shown me) items)
      notes = all_notes c now.tape me items (start_causes h now.tape me (now.starts me + 1) (now.owed me) (now.node me).met (q.owes me))

      same : (x : OpId) (about : ℕ) → has_asked_about tape x about ≡ has_asked_about now.tape x about
      same x about = items_asked c nodes' (flat_map (shown me) items) now.tape x about (notes_silent me items)
  start_settling h now me (CutByLog left) q = down_settling now me (crashed (now.node me)) now.starts now.records refl q
  start_settling h now me (CutByData left) q = down_settling now me (crashed (now.node me)) now.starts now.records refl q

  any_mark : (now : Standing) (item : Item) → IsSilent item → IsCaused c now.tape item → ((x : OpId) (about : ℕ) → has_asked_about (item ∷ now.tape) x about ≡ has_asked_about now.tape x about) → SettlingAt c now → SettlingAt c (marked now item)
  any_mark now item silent caused same q = record {
    cells = silent_cell c item silent now.tape q.cells;
    caused = (caused, q.caused);
    opens = λ v. each_on (OpenAt c now.tape v) (OpenAt c (item ∷ now.tape) v) (open_on c now.tape (item ∷ now.tape) v later (λ x about is a. same x about ∙ a)) (now.node v).open_operations (q.opens v);
    owes = λ v. each_on (NoteCause c now.tape v) (NoteCause c (item ∷ now.tape) v) (note_cause_on c now.tape (item ∷ now.tape) later v) (now.owed v) (q.owes v);
    asked = λ x about a. begun_on now.tape (item ∷ now.tape) x later (q.asked x about (sym (same x about) ∙ a));
  }
    where
      later : Earlier now.tape (item ∷ now.tape)
      later = one_later now.tape now.tape item (now_is now.tape)

  mark_settling : (now : Standing) (item : Item) → IsMark item → SettlingAt c now → SettlingAt c (marked now item)
  mark_settling now (Dropped j) is q = any_mark now (Dropped j) tt tt (λ x about. refl) q
  mark_settling now CutItem is q = any_mark now CutItem tt tt (λ x about. refl) q
  mark_settling now _ is q = absurd is

  settling_keeps : Keeps c (SettlingAt c)
  settling_keeps = record {
    ticks = tick_settling;
    takes = take_settling;
    begins = begin_settling;
    starts = λ h now me fate g q. start_settling h now me fate q;
    crash = λ now me g q. down_settling now me (crashed (now.node me)) now.starts now.records refl q;
    marks = λ now item is g q. mark_settling now item is q;
    fuses = λ now log_fuse data_fuse q. q;
  }

nothing_settling : (c : Cluster) → SettlingAt c nothing_yet
nothing_settling c = record { cells = tt; caused = tt; opens = λ v. tt; owes = λ v. tt; asked = λ x about a. cc }

-- every run is caused
pub run_caused : (c : Cluster) (first : Meanings) (events : List Happening) (tape : List Item) → IsRun c first events tape → AreCaused c tape
run_caused c first events tape run = subst (AreCaused c) (sym run.tape_is) (run_keeps c (SettlingAt c) (settling_keeps c) first events tape run (nothing_settling c)).caused
