-- What a tape tells of a node at a moment is what the node met: its last refresh, its clock, how many operations it began, and how far it applied.
use Rattle.std.proofs.Common.{◌≡◌, ℕ, ◌+◌, ◌==◌, ◌&&◌, Bool, true, false, not, cond, List, [], ◌∷◌, ◌++◌, map, flat_map, refl, ap, ◌∙◌}
use Rattle.mega_base.specs.declared.names.GroupId.{GroupId}
use Rattle.mega_cluster.specs.declared.cluster.Cluster.{Cluster}
use Rattle.mega_outcome.specs.declared.answer.Mark.{Mark}
use Rattle.mega_cause_laws.specs.of_run_laws.of_tape_laws.of_promises.of_transcript.declared.item.Item.{Item}
use Rattle.mega_cause_laws.specs.of_run_laws.of_tape_laws.of_promises.of_transcript.declared.item.Item.TheVariants.{Answer, Apply, Begin, Counts as CountsItem, Crash, Decide, Forgets as ForgetsItem, Grant, Invalid, Lapse, Lost, Sent, Serving, Start, Tick, Unsafe, Unsent, Valid}
use Rattle.mega_cause_laws.specs.of_run_laws.of_tape_laws.of_promises.Items.{number, shown}
use Rattle.mega_cause_laws.specs.of_run_laws.of_tape_laws.of_promises.Messages.{is_unsafe}
use Rattle.mega_cause_laws.specs.of_run_laws.of_tape_laws.of_promises.Moments.{applied_on, begun_on, clock_on, refreshed_on}
use Rattle.mega_cause_laws.specs.of_run_laws.of_tape_laws.of_promises.Runs.{breaks, with_item, with_items}
use Rattle.mega_cause_laws.specs.of_run_laws.of_tape_laws.of_promises.of_rules.Clock.{begun_of, clock_of}
use Rattle.mega_cause_laws.specs.of_run_laws.of_tape_laws.of_promises.of_rules.Finding.{marks_shown, refreshed_marks}
use Rattle.mega_cause_laws.specs.of_run_laws.of_tape_laws.of_promises.of_rules.Met.{Met, Starts, Crashes, Ticks, Begins, Takes, Sends, Unsends, Grants, Lapses, Counts, Forgets, Serves, Loses, Validates, Invalidates, Decides, Applies, Answers}
use Rattle.mega_cause_laws.specs.of_run_laws.of_tape_laws.of_promises.of_rules.Operations.{Node}
use Rattle.mega_cause_laws.specs.of_run_laws.of_tape_laws.of_promises.of_rules.Steps.{onto}
use Rattle.mega_wal.specs.Same.{same_group}
use Rattle.mega_wire.specs.declared.message.Message.{Message}
use Rattle.mega_cause_laws.specs.of_run_laws.Justified.{Each, sent}
use Rattle.mega_cause_laws.proofs.of_run_laws.Noted.{with_append}

pub record View : Type 0 where
  pub refreshed : List Mark
  pub clock : ℕ
  pub begun : ℕ
  pub applied : GroupId → ℕ

abbrev pub view : List Item → ℕ → View
view tape v = record { refreshed = refreshed_on tape (number v); clock = clock_on tape (number v); begun = begun_on tape (number v); applied = λ group. applied_on tape (number v) group }

-- what each note makes of it
abbrev pub next : Met → View → View
next (Starts start) x = record { refreshed = []; clock = 0; begun = 0; applied = λ group. 0 }
next (Ticks now) x = record { refreshed = x.refreshed; clock = now; begun = x.begun; applied = x.applied }
next (Begins op text) x = record { refreshed = x.refreshed; clock = x.clock; begun = x.begun + 1; applied = x.applied }
next (Applies group position) x = record { refreshed = x.refreshed; clock = x.clock; begun = x.begun; applied = λ other. cond (same_group group other) position (x.applied other) }
next (Answers op answer) x = record { refreshed = marks_shown answer x.refreshed; clock = x.clock; begun = x.begun; applied = x.applied }
next _ x = x

abbrev pub after : List Met → View → View
after [] x = x
after (one ∷ more) x = after more (next one x)

pub after_append : (xs ys : List Met) (x : View) → after (xs ++ ys) x ≡ after ys (after xs x)
after_append [] ys x = refl
after_append (one ∷ xs) ys x = after_append xs ys (next one x)

-- what begins and is answered at a node has its number
abbrev pub IsMine : ℕ → Met → Type 0
IsMine me (Begins op text) = op.node.0 ≡ me
IsMine me (Answers op answer) = op.node.0 ≡ me
IsMine me _ = Unit {0}

same_if : {X : Type 0} (t : Bool) (x : X) → x ≡ cond t x x
same_if true x = refl
same_if false x = refl

with_told : (v : ℕ) (c : Cluster) (nodes : ℕ → Node) (tape : List Item) (item : Item) → view (with_item c nodes tape item) v ≡ view (item ∷ tape) v
with_told v c nodes tape item = by (breaks c nodes item && not (is_unsafe tape))
  where
    by : (t : Bool) → view (cond t (Unsafe ∷ item ∷ tape) (item ∷ tape)) v ≡ view (item ∷ tape) v
    by true = refl
    by false = refl

pub one_told : (c : Cluster) (nodes : ℕ → Node) (me v : ℕ) (note : Met) (tape : List Item) → IsMine me note → view (with_items c nodes tape (shown me note)) v ≡ cond (me == v) (next note (view tape v)) (view tape v)
one_told c nodes me v (Starts start) tape mine = with_told v c nodes tape (Start (number me) start) ∙ by (me == v)
  where
    x : View
    x = view tape v

    by : (t : Bool) → ◌≡◌ {A = View} (record { refreshed = cond t [] x.refreshed; clock = cond t 0 x.clock; begun = cond t 0 x.begun; applied = λ group. cond t 0 (x.applied group) }) (cond t (next (Starts start) x) x)
    by true = refl
    by false = refl
one_told c nodes me v (Ticks now) tape mine = with_told v c nodes tape (Tick (number me) now) ∙ by (me == v)
  where
    x : View
    x = view tape v

    by : (t : Bool) → ◌≡◌ {A = View} (record { refreshed = x.refreshed; clock = cond t now x.clock; begun = x.begun; applied = x.applied }) (cond t (next (Ticks now) x) x)
    by true = refl
    by false = refl
one_told c nodes me v (Begins op text) tape mine = with_told v c nodes tape (Begin op text) ∙ ap (λ w. begins (w == v)) mine ∙ by (me == v)
  where
    x : View
    x = view tape v

    begins : Bool → View
    begins t = record { refreshed = x.refreshed; clock = x.clock; begun = cond t (x.begun + 1) x.begun; applied = x.applied }

    by : (t : Bool) → begins t ≡ cond t (next (Begins op text) x) x
    by true = refl
    by false = refl
one_told c nodes me v (Applies group position) tape mine = with_told v c nodes tape (Apply (number me) group (record { 0 = position })) ∙ by (me == v)
  where
    x : View
    x = view tape v

    by : (t : Bool) → ◌≡◌ {A = View} (record { refreshed = x.refreshed; clock = x.clock; begun = x.begun; applied = λ other. cond (t && same_group group other) position (x.applied other) }) (cond t (next (Applies group position) x) x)
    by true = refl
    by false = refl
one_told c nodes me v (Answers op answer) tape mine = with_told v c nodes tape (Answer op answer) ∙ ap (λ w. answers (w == v)) mine ∙ by (me == v)
  where
    x : View
    x = view tape v

    answers : Bool → View
    answers t = record { refreshed = cond t (marks_shown answer x.refreshed) x.refreshed; clock = x.clock; begun = x.begun; applied = x.applied }

    by : (t : Bool) → answers t ≡ cond t (next (Answers op answer) x) x
    by true = refl
    by false = refl
one_told c nodes me v Crashes tape mine = with_told v c nodes tape (Crash (number me)) ∙ same_if (me == v) (view tape v)
one_told c nodes me v (Takes message) tape mine = same_if (me == v) (view tape v)
one_told c nodes me v (Sends message) tape mine = same_if (me == v) (view tape v)
one_told c nodes me v (Unsends message) tape mine = with_told v c nodes tape (Unsent (number me) message) ∙ same_if (me == v) (view tape v)
one_told c nodes me v (Grants node epoch) tape mine = with_told v c nodes tape (Grant me (number node) epoch) ∙ same_if (me == v) (view tape v)
one_told c nodes me v (Lapses node epoch) tape mine = with_told v c nodes tape (Lapse me (number node) epoch) ∙ same_if (me == v) (view tape v)
one_told c nodes me v (Counts cell epoch) tape mine = with_told v c nodes tape (CountsItem (number me) cell epoch) ∙ same_if (me == v) (view tape v)
one_told c nodes me v (Forgets cell epoch) tape mine = with_told v c nodes tape (ForgetsItem (number me) cell epoch) ∙ same_if (me == v) (view tape v)
one_told c nodes me v (Serves epoch) tape mine = with_told v c nodes tape (Serving (number me) epoch) ∙ same_if (me == v) (view tape v)
one_told c nodes me v (Loses epoch) tape mine = with_told v c nodes tape (Lost (number me) epoch) ∙ same_if (me == v) (view tape v)
one_told c nodes me v (Validates g position) tape mine = with_told v c nodes tape (Valid (number me) g (record { 0 = position })) ∙ same_if (me == v) (view tape v)
one_told c nodes me v (Invalidates g position) tape mine = with_told v c nodes tape (Invalid (number me) g (record { 0 = position })) ∙ same_if (me == v) (view tape v)
one_told c nodes me v (Decides g position entry) tape mine = with_told v c nodes tape (Decide (number me) g (record { 0 = position }) entry) ∙ same_if (me == v) (view tape v)

pub notes_told : (c : Cluster) (nodes : ℕ → Node) (me v : ℕ) (notes : List Met) (tape : List Item) → Each (IsMine me) notes → view (with_items c nodes tape (flat_map (shown me) notes)) v ≡ cond (me == v) (after notes (view tape v)) (view tape v)
notes_told c nodes me v [] tape mine = same_if (me == v) (view tape v)
notes_told c nodes me v (one ∷ notes) tape mine =
    ap (λ t. view t v) (with_append c nodes (shown me one) (flat_map (shown me) notes) tape)
    ∙ notes_told c nodes me v notes (with_items c nodes tape (shown me one)) mine.1
    ∙ by (me == v) (one_told c nodes me v one tape mine.0)
  where
    by : (t : Bool) → view (with_items c nodes tape (shown me one)) v ≡ cond t (next one (view tape v)) (view tape v)
        → cond t (after notes (view (with_items c nodes tape (shown me one)) v)) (view (with_items c nodes tape (shown me one)) v) ≡ cond t (after notes (next one (view tape v))) (view tape v)
    by true e = ap (after notes) e
    by false e = e

pub sends_told : (k : ℕ) (ms : List Message) (tape : List Item) (v : ℕ) → view (sent k ms tape) v ≡ view tape v
sends_told k [] tape v = refl
sends_told k (m ∷ ms) tape v = sends_told (k + 1) ms (Sent k m ∷ tape) v

-- ---- what the node met

pub record Agrees (x : View) (met : List Met) : Type 0 where
  pub refreshed : x.refreshed ≡ refreshed_marks met
  pub clock : x.clock ≡ clock_of met
  pub begun : x.begun ≡ begun_of met

pub agrees_one : (one : Met) (x : View) (met : List Met) → Agrees x met → Agrees (next one x) (one ∷ met)
agrees_one (Starts start) x met h = record { refreshed = refl; clock = refl; begun = refl }
agrees_one (Ticks now) x met h = record { refreshed = h.refreshed; clock = refl; begun = h.begun }
agrees_one (Begins op text) x met h = record { refreshed = h.refreshed; clock = h.clock; begun = ap (λ n. n + 1) h.begun }
agrees_one (Answers op answer) x met h = record { refreshed = ap (marks_shown answer) h.refreshed; clock = h.clock; begun = h.begun }
agrees_one (Applies group position) x met h = record { refreshed = h.refreshed; clock = h.clock; begun = h.begun }
agrees_one Crashes x met h = record { refreshed = h.refreshed; clock = h.clock; begun = h.begun }
agrees_one (Takes message) x met h = record { refreshed = h.refreshed; clock = h.clock; begun = h.begun }
agrees_one (Sends message) x met h = record { refreshed = h.refreshed; clock = h.clock; begun = h.begun }
agrees_one (Unsends message) x met h = record { refreshed = h.refreshed; clock = h.clock; begun = h.begun }
agrees_one (Grants node epoch) x met h = record { refreshed = h.refreshed; clock = h.clock; begun = h.begun }
agrees_one (Lapses node epoch) x met h = record { refreshed = h.refreshed; clock = h.clock; begun = h.begun }
agrees_one (Counts cell epoch) x met h = record { refreshed = h.refreshed; clock = h.clock; begun = h.begun }
agrees_one (Forgets cell epoch) x met h = record { refreshed = h.refreshed; clock = h.clock; begun = h.begun }
agrees_one (Serves epoch) x met h = record { refreshed = h.refreshed; clock = h.clock; begun = h.begun }
agrees_one (Loses epoch) x met h = record { refreshed = h.refreshed; clock = h.clock; begun = h.begun }
agrees_one (Validates g position) x met h = record { refreshed = h.refreshed; clock = h.clock; begun = h.begun }
agrees_one (Invalidates g position) x met h = record { refreshed = h.refreshed; clock = h.clock; begun = h.begun }
agrees_one (Decides g position entry) x met h = record { refreshed = h.refreshed; clock = h.clock; begun = h.begun }

pub agrees_after : (notes : List Met) (x : View) (met : List Met) → Agrees x met → Agrees (after notes x) (onto notes met)
agrees_after [] x met h = h
agrees_after (one ∷ notes) x met h = agrees_after notes (next one x) (one ∷ met) (agrees_one one x met h)

pub agrees_sent : (ms : List Message) (x : View) (met : List Met) → Agrees x met → Agrees x (onto (map Sends ms) met)
agrees_sent [] x met h = h
agrees_sent (m ∷ ms) x met h = agrees_sent ms x (Sends m ∷ met) (agrees_one (Sends m) x met h)

-- ---- what leaves it as it is

-- no note of an event, of a start or of what is applied
abbrev pub LeavesApplied : Met → Type 0
LeavesApplied (Starts start) = ⊥
LeavesApplied (Applies group position) = ⊥
LeavesApplied _ = Unit {0}

pub applied_after : (notes : List Met) (x : View) (group : GroupId) → Each LeavesApplied notes → (after notes x).applied group ≡ x.applied group
applied_after [] x group h = refl
applied_after (one ∷ notes) x group h = applied_after notes (next one x) group h.1 ∙ by one h.0
  where
    by : (note : Met) → LeavesApplied note → (next note x).applied group ≡ x.applied group
    by (Starts start) k = absurd k
    by (Applies g position) k = absurd k
    by _ k = refl

-- no start, tick, begin or answer
abbrev pub LeavesRest : Met → Type 0
LeavesRest (Starts start) = ⊥
LeavesRest (Ticks now) = ⊥
LeavesRest (Begins op text) = ⊥
LeavesRest (Answers op answer) = ⊥
LeavesRest _ = Unit {0}

pub record Rest (x y : View) : Type 0 where
  pub refreshed : y.refreshed ≡ x.refreshed
  pub clock : y.clock ≡ x.clock
  pub begun : y.begun ≡ x.begun

pub rest_after : (notes : List Met) (x : View) → Each LeavesRest notes → Rest x (after notes x)
rest_after [] x h = record { refreshed = refl; clock = refl; begun = refl }
rest_after (one ∷ notes) x h = let first = by one h.0 in let more = rest_after notes (next one x) h.1 in record { refreshed = more.refreshed ∙ first.refreshed; clock = more.clock ∙ first.clock; begun = more.begun ∙ first.begun }
  where
    by : (note : Met) → LeavesRest note → Rest x (next note x)
    by (Starts start) k = absurd k
    by (Ticks now) k = absurd k
    by (Begins op text) k = absurd k
    by (Answers op answer) k = absurd k
    by _ k = record { refreshed = refl; clock = refl; begun = refl }
