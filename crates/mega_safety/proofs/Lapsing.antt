-- The lapses that a world keeps are those that its nodes met.
use Rattle.std.proofs.Common.{◌≡◌, ℕ, ◌==◌, ◌&&◌, ◌||◌, cond, Bool, true, false, List, [], ◌∷◌, map, refl, sym, ap, ◌∙◌, subst, arith}
use Rattle.std.proofs.lemmas.Bool.Decides.{nat_tests}
use Rattle.std.specs.BTreeSet.{BTreeSet, contains}
use Rattle.std.specs.Cmp.{tied_then}
use Rattle.std.specs.Ordering.{is_eq, nat_cmp, ordering_then}
use Rattle.mega_base.specs.declared.names.Epoch.{Epoch}
use Rattle.mega_coordinator.specs.Groups.{is_same}
use Rattle.mega_wire.specs.declared.message.Message.{Message}
use Rattle.mega_rules.specs.Met.{Met, Starts, Crashes, Ticks, Begins, Takes, Sends, Unsends, Grants, Lapses, Counts, Forgets, Serves, Loses, Validates, Invalidates, Decides, Applies, Answers}
use Rattle.mega_rules.specs.Operations.{Node as RuleNode, Setting}
use Rattle.mega_rules.specs.Steps.{Event, Take, Begin, Tick, onto, step}
use Rattle.mega_node_laws.specs.Acted.{own_item}
use Rattle.mega_node_laws.proofs.Ending.{step_met}
use Rattle.mega_step_parts.specs.declared.note.Note.{Note}
use Rattle.mega_step_parts.specs.Notes.{met_of}
use Rattle.mega_promises.specs.Runs.{has_lapsed, set_at}
use Rattle.mega_safety.specs.declared.safety.Lapse.{Lapse}
use Rattle.mega_safety.specs.Lapses.{AreLapsesOf, is_lapse, lapse, lapse_cmp, lapse_of}

nat_is : (a b : ℕ) → is_eq (nat_cmp a b) ≡ (a == b)
nat_is a b = grind (arith, nat_tests)

-- a lapse is another where cell, node and epoch are
lapse_is : (cell node : ℕ) (e : Epoch) (at other : ℕ) (f : Epoch) → is_eq (lapse_cmp (lapse cell node e) (lapse at other f)) ≡ ((cell == at) && ((node == other) && is_same e f))
lapse_is cell node e at other f =
    sym (tied_then (nat_cmp cell at) (ordering_then (nat_cmp node other) (ordering_then (nat_cmp e.start f.start) (nat_cmp e.count f.count))))
    ∙ ap (λ t. t && is_eq (ordering_then (nat_cmp node other) (ordering_then (nat_cmp e.start f.start) (nat_cmp e.count f.count)))) (nat_is cell at)
    ∙ ap (λ t. (cell == at) && t) (sym (tied_then (nat_cmp node other) (ordering_then (nat_cmp e.start f.start) (nat_cmp e.count f.count)))
    ∙ ap (λ t. t && is_eq (ordering_then (nat_cmp e.start f.start) (nat_cmp e.count f.count))) (nat_is node other)
    ∙ ap (λ t. (node == other) && t) (sym (tied_then (nat_cmp e.start f.start) (nat_cmp e.count f.count))
    ∙ ap (λ t. t && is_eq (nat_cmp e.count f.count)) (nat_is e.start f.start)
    ∙ ap (λ t. (e.start == f.start) && t) (nat_is e.count f.count)))

-- ---- one item of what a node met

abbrev laps : Met → ℕ → Epoch → Bool
laps (Lapses other e) node epoch = (other == node) && is_same e epoch
laps _ node epoch = false

lapsed_more : (one : Met) (met : List Met) (node : ℕ) (epoch : Epoch) → has_lapsed (one ∷ met) node epoch ≡ (laps one node epoch || has_lapsed met node epoch)
lapsed_more (Starts start) met node epoch = refl
lapsed_more Crashes met node epoch = refl
lapsed_more (Ticks now) met node epoch = refl
lapsed_more (Begins op text) met node epoch = refl
lapsed_more (Takes message) met node epoch = refl
lapsed_more (Sends message) met node epoch = refl
lapsed_more (Unsends message) met node epoch = refl
lapsed_more (Grants other e) met node epoch = refl
lapsed_more (Lapses other e) met node epoch = refl
lapsed_more (Counts cell e) met node epoch = refl
lapsed_more (Forgets cell e) met node epoch = refl
lapsed_more (Serves e) met node epoch = refl
lapsed_more (Loses e) met node epoch = refl
lapsed_more (Validates group position) met node epoch = refl
lapsed_more (Invalidates group position) met node epoch = refl
lapsed_more (Decides group position entry) met node epoch = refl
lapsed_more (Applies group position) met node epoch = refl
lapsed_more (Answers op answer) met node epoch = refl

none_here : (t : Bool) → false ≡ (t && false)
none_here true = refl
none_here false = refl

noted_lapse : (me : ℕ) (one : Met) (cell node : ℕ) (epoch : Epoch) → is_lapse (lapse_of me one) (lapse cell node epoch) ≡ ((me == cell) && laps one node epoch)
noted_lapse me (Starts start) cell node epoch = none_here (me == cell)
noted_lapse me Crashes cell node epoch = none_here (me == cell)
noted_lapse me (Ticks now) cell node epoch = none_here (me == cell)
noted_lapse me (Begins op text) cell node epoch = none_here (me == cell)
noted_lapse me (Takes message) cell node epoch = none_here (me == cell)
noted_lapse me (Sends message) cell node epoch = none_here (me == cell)
noted_lapse me (Unsends message) cell node epoch = none_here (me == cell)
noted_lapse me (Grants other e) cell node epoch = none_here (me == cell)
noted_lapse me (Lapses other e) cell node epoch = lapse_is me other e cell node epoch
noted_lapse me (Counts at e) cell node epoch = none_here (me == cell)
noted_lapse me (Forgets at e) cell node epoch = none_here (me == cell)
noted_lapse me (Serves e) cell node epoch = none_here (me == cell)
noted_lapse me (Loses e) cell node epoch = none_here (me == cell)
noted_lapse me (Validates group position) cell node epoch = none_here (me == cell)
noted_lapse me (Invalidates group position) cell node epoch = none_here (me == cell)
noted_lapse me (Decides group position entry) cell node epoch = none_here (me == cell)
noted_lapse me (Applies group position) cell node epoch = none_here (me == cell)
noted_lapse me (Answers op answer) cell node epoch = none_here (me == cell)

-- ---- what a node notes, item by item

kept_more : (me : ℕ) (one : Met) (here : List Met) (old new : BTreeSet Lapse) (met : ℕ → List Met) → AreLapsesOf old (set_at met me here)
    → ((other : Lapse) → contains lapse_cmp new other ≡ (is_lapse (lapse_of me one) other || contains lapse_cmp old other)) → AreLapsesOf new (set_at met me (one ∷ here))
kept_more me one here old new met r kept = record {
  each = λ cell node epoch. kept (lapse cell node epoch)
      ∙ ap (λ t. t || contains lapse_cmp old (lapse cell node epoch)) (noted_lapse me one cell node epoch)
      ∙ ap (λ t. ((me == cell) && laps one node epoch) || t) (r.each cell node epoch)
      ∙ by (me == cell) cell node epoch;
}
  where
    by : (t : Bool) (cell node : ℕ) (epoch : Epoch) → ((t && laps one node epoch) || has_lapsed (cond t here (met cell)) node epoch) ≡ has_lapsed (cond t (one ∷ here) (met cell)) node epoch
    by true cell node epoch = sym (lapsed_more one here node epoch)
    by false cell node epoch = refl

-- the lapses that are kept of what a cell noted so far, where this is left and leads to that
pub record KeptSo (lapses : BTreeSet Lapse) (met : ℕ → List Met) (cell : ℕ) (left : List Note) (all : List Met) : Type 0 where
  pub here : List Met
  pub are : AreLapsesOf lapses (set_at met cell here)
  pub leads : onto (map met_of left) here ≡ all

pub kept_first : (lapses : BTreeSet Lapse) (met : ℕ → List Met) (cell : ℕ) (notes : List Note) → AreLapsesOf lapses met → KeptSo lapses met cell notes (onto (map met_of notes) (met cell))
kept_first lapses met cell notes r = record {
  here = met cell;
  are = record { each = λ other node epoch. r.each other node epoch ∙ by other (cell == other) refl node epoch };
  leads = refl;
}
  where
    by : (other : ℕ) (t : Bool) → (cell == other) ≡ t → (node : ℕ) (epoch : Epoch) → has_lapsed (met other) node epoch ≡ has_lapsed (cond t (met cell) (met other)) node epoch
    by other true same node epoch = let e : cell ≡ other = grind (arith, nat_tests) in ap (λ k. has_lapsed (met k) node epoch) (sym e)
    by other false apart node epoch = refl

pub kept_next : (old new : BTreeSet Lapse) (met : ℕ → List Met) (cell : ℕ) (note : Note) (left : List Note) (all : List Met) → ((other : Lapse) → contains lapse_cmp new other ≡ (is_lapse (lapse_of cell (met_of note)) other || contains lapse_cmp old other))
    → KeptSo old met cell (note ∷ left) all → KeptSo new met cell left all
kept_next old new met cell note left all kept so = record { here = met_of note ∷ so.here; are = kept_more cell (met_of note) so.here old new met so.are kept; leads = so.leads }

pub kept_all : (lapses : BTreeSet Lapse) (met : ℕ → List Met) (cell : ℕ) (all : List Met) → KeptSo lapses met cell [] all → AreLapsesOf lapses (set_at met cell all)
kept_all lapses met cell all so = subst (λ here. AreLapsesOf lapses (set_at met cell here)) so.leads so.are

-- ---- a step lets just what it notes lapse

pub lapsed_on : (items old new : List Met) → ((node : ℕ) (epoch : Epoch) → has_lapsed new node epoch ≡ has_lapsed old node epoch) → (node : ℕ) (epoch : Epoch) → has_lapsed (onto items new) node epoch ≡ has_lapsed (onto items old) node epoch
lapsed_on [] old new same node epoch = same node epoch
lapsed_on (one ∷ items) old new same node epoch =
    lapsed_on items (one ∷ old) (one ∷ new) (λ n e. lapsed_more one new n e ∙ ap (λ t. laps one n e || t) (same n e) ∙ sym (lapsed_more one old n e)) node epoch

sent_lapsed : (sends : List Message) (met : List Met) (node : ℕ) (epoch : Epoch) → has_lapsed (onto (map Sends sends) met) node epoch ≡ has_lapsed met node epoch
sent_lapsed [] met node epoch = refl
sent_lapsed (m ∷ sends) met node epoch = sent_lapsed sends (Sends m ∷ met) node epoch

own_lapsed : (s : Setting) (node : RuleNode) (event : Event) (other : ℕ) (epoch : Epoch) → has_lapsed (own_item s node event ∷ node.met) other epoch ≡ has_lapsed node.met other epoch
own_lapsed s node (Tick now) other epoch = refl
own_lapsed s node (Take m) other epoch = refl
own_lapsed s node (Begin request text) other epoch = refl

pub step_lapsed : (s : Setting) (node : RuleNode) (event : Event) (other : ℕ) (epoch : Epoch) → has_lapsed (step s node event).node.met other epoch ≡ has_lapsed (onto (step s node event).notes node.met) other epoch
step_lapsed s node event other epoch =
    ap (λ met. has_lapsed met other epoch) (step_met s node event)
    ∙ sent_lapsed (step s node event).sends (onto (step s node event).notes (own_item s node event ∷ node.met)) other epoch
    ∙ lapsed_on (step s node event).notes node.met (own_item s node event ∷ node.met) (own_lapsed s node event) other epoch
