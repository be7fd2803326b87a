-- What the notes of a node leave of an operation on the tape: what it asked for, when it began, and that it is open.
use Rattle.std.proofs.Common.{◌≡◌, inl, inr, ℕ, ◌+◌, ◌==◌, ◌&&◌, Bool, true, false, not, cond, List, [], ◌∷◌, filter, flat_map, Option, refl, sym, ap, ◌∙◌, subst}
use Rattle.mega_base.specs.declared.names.OpId.{OpId}
use Rattle.mega_cluster.specs.declared.cluster.Cluster.{Cluster}
use Rattle.mega_outcome.specs.declared.request.Request.{Request}
use Rattle.mega_cause_laws.specs.of_run_laws.of_tape_laws.of_promises.of_transcript.declared.item.Item.{Item}
use Rattle.mega_cause_laws.specs.of_run_laws.of_tape_laws.of_promises.of_transcript.declared.item.Item.TheVariants.{Answer, Apply, Begin, Counts as CountsItem, Crash, Decide, Forgets as ForgetsItem, Grant, Invalid, Lapse, Lost, Sent, Serving, Start, Tick, Unsafe, Unsent, Valid}
use Rattle.mega_cause_laws.specs.of_run_laws.of_tape_laws.of_promises.Items.{number, shown}
use Rattle.mega_cause_laws.specs.of_run_laws.of_tape_laws.of_promises.Messages.{is_unsafe}
use Rattle.mega_cause_laws.specs.of_run_laws.of_tape_laws.of_promises.Moments.{began_on, clock_on, open_on}
use Rattle.mega_cause_laws.specs.of_run_laws.of_tape_laws.of_promises.Promises.{Stands, asked_for}
use Rattle.mega_cause_laws.specs.of_run_laws.of_tape_laws.of_promises.Runs.{breaks, with_item, with_items}
use Rattle.mega_cause_laws.specs.of_run_laws.of_tape_laws.of_promises.of_rules.Met.{Met, Starts, Crashes, Ticks, Begins, Takes, Sends, Unsends, Grants, Lapses, Counts, Forgets, Serves, Loses, Validates, Invalidates, Decides, Applies, Answers}
use Rattle.mega_cause_laws.specs.of_run_laws.of_tape_laws.of_promises.of_rules.Operations.{Node}
use Rattle.mega_wal.specs.Same.{same_op}
use Rattle.mega_wal.proofs.Sames.{same_op_equal, same_op_self}
use Rattle.mega_wire.specs.declared.message.Message.{Message}
use Rattle.mega_cause_laws.specs.of_run_laws.of_tape_laws.Places.{In}
use Rattle.mega_cause_laws.specs.of_run_laws.Justified.{Each, sent}
use Rattle.mega_cause_laws.proofs.of_run_laws.Noted.{with_append}

-- an operation of a node is asked for, begun and open as before, and what stood stands
pub record Beside (v : ℕ) (x : OpId) (old new : List Item) : Type 0 where
  pub asked : (meaning : List ℕ → Option Request) → asked_for meaning new x ≡ asked_for meaning old x
  pub began : began_on new x ≡ began_on old x
  pub opens : In x (open_on old (number v)) → In x (open_on new (number v))
  pub stood : (item : Item) → Stands item old → Stands item new

pub beside_self : (v : ℕ) (x : OpId) (tape : List Item) → Beside v x tape tape
beside_self v x tape = record { asked = λ meaning. refl; began = refl; opens = λ i. i; stood = λ item s. s }

pub beside_then : (v : ℕ) (x : OpId) (old mid new : List Item) → Beside v x old mid → Beside v x mid new → Beside v x old new
beside_then v x old mid new a b = record { asked = λ meaning. b.asked meaning ∙ a.asked meaning; began = b.began ∙ a.began; opens = λ i. b.opens (a.opens i); stood = λ item s. b.stood item (a.stood item s) }

-- what leaves it so
abbrev pub Leaves : ℕ → ℕ → OpId → Met → Type 0
Leaves me v x (Starts start) = (me == v) ≡ false
Leaves me v x Crashes = (me == v) ≡ false
Leaves me v x (Begins op text) = same_op op x ≡ false
Leaves me v x (Answers op answer) = same_op op x ≡ false
Leaves me v x _ = Unit {0}

pub in_filter : (keep : OpId → Bool) (x : OpId) (xs : List OpId) → keep x ≡ true → In x xs → In x (filter keep xs)
in_filter keep x [] k i = absurd i
in_filter keep x (y ∷ xs) k (inl same) = by (keep y) (ap keep same ∙ k)
  where
    by : (t : Bool) → t ≡ true → In x (cond t (y ∷ filter keep xs) (filter keep xs))
    by true e = inl same
    by false e = absurd (let none : false ≡ true = e in cc)
in_filter keep x (y ∷ xs) k (inr i) = by (keep y) (in_filter keep x xs k i)
  where
    by : (t : Bool) → In x (filter keep xs) → In x (cond t (y ∷ filter keep xs) (filter keep xs))
    by true j = inr j
    by false j = j

pub other_way : (a b : OpId) → same_op a b ≡ false → same_op b a ≡ false
other_way a b h = by (same_op b a) refl
  where
    by : (t : Bool) → same_op b a ≡ t → t ≡ false
    by false e = refl
    by true e = let same = same_op_equal b a e in let there : same_op a b ≡ true = ap (same_op a) same ∙ same_op_self a in absurd (let none : true ≡ false = sym there ∙ h in cc)

with_beside : (c : Cluster) (nodes : ℕ → Node) (v : ℕ) (x : OpId) (tape : List Item) (item : Item) → Beside v x tape (item ∷ tape) → Beside v x tape (with_item c nodes tape item)
with_beside c nodes v x tape item h = by (breaks c nodes item && not (is_unsafe tape))
  where
    by : (t : Bool) → Beside v x tape (cond t (Unsafe ∷ item ∷ tape) (item ∷ tape))
    by false = h
    by true = record { asked = h.asked; began = h.began; opens = h.opens; stood = λ other s. inr (h.stood other s) }

plain_beside : (v : ℕ) (x : OpId) (tape : List Item) (item : Item) → ((meaning : List ℕ → Option Request) → asked_for meaning (item ∷ tape) x ≡ asked_for meaning tape x) → began_on (item ∷ tape) x ≡ began_on tape x
    → open_on (item ∷ tape) (number v) ≡ open_on tape (number v) → Beside v x tape (item ∷ tape)
plain_beside v x tape item asked began opens = record { asked = asked; began = began; opens = λ i. subst (In x) (sym opens) i; stood = λ other s. inr s }

note_beside : (c : Cluster) (nodes : ℕ → Node) (me v : ℕ) (x : OpId) (note : Met) (tape : List Item) → Leaves me v x note → Beside v x tape (with_items c nodes tape (shown me note))
note_beside c nodes me v x (Starts start) tape h = with_beside c nodes v x tape (Start (number me) start) (plain_beside v x tape (Start (number me) start) (λ meaning. refl) refl (ap (λ t. cond t [] (open_on tape (number v))) h))
note_beside c nodes me v x Crashes tape h = with_beside c nodes v x tape (Crash (number me)) (plain_beside v x tape (Crash (number me)) (λ meaning. refl) refl (ap (λ t. cond t [] (open_on tape (number v))) h))
note_beside c nodes me v x (Begins op text) tape h = with_beside c nodes v x tape (Begin op text) (record {
  asked = λ meaning. ap (λ t. cond t (meaning text) (asked_for meaning tape x)) h;
  began = ap (λ t. cond t (clock_on tape x.node) (began_on tape x)) h;
  opens = more (op.node.0 == v);
  stood = λ other s. inr s;
})
  where
    more : (t : Bool) → In x (open_on tape (number v)) → In x (cond t (op ∷ open_on tape (number v)) (open_on tape (number v)))
    more true i = inr i
    more false i = i
note_beside c nodes me v x (Answers op answer) tape h = with_beside c nodes v x tape (Answer op answer) (record {
  asked = λ meaning. refl;
  began = refl;
  opens = λ i. in_filter (λ (other : OpId). not (same_op other op)) x (open_on tape (number v)) (ap not (other_way op x h)) i;
  stood = λ other s. inr s;
})
note_beside c nodes me v x (Takes message) tape h = beside_self v x tape
note_beside c nodes me v x (Sends message) tape h = beside_self v x tape
note_beside c nodes me v x (Ticks now) tape h = with_beside c nodes v x tape (Tick (number me) now) (plain_beside v x tape (Tick (number me) now) (λ meaning. refl) refl refl)
note_beside c nodes me v x (Unsends message) tape h = with_beside c nodes v x tape (Unsent (number me) message) (plain_beside v x tape (Unsent (number me) message) (λ meaning. refl) refl refl)
note_beside c nodes me v x (Grants node epoch) tape h = with_beside c nodes v x tape (Grant me (number node) epoch) (plain_beside v x tape (Grant me (number node) epoch) (λ meaning. refl) refl refl)
note_beside c nodes me v x (Lapses node epoch) tape h = with_beside c nodes v x tape (Lapse me (number node) epoch) (plain_beside v x tape (Lapse me (number node) epoch) (λ meaning. refl) refl refl)
note_beside c nodes me v x (Counts cell epoch) tape h = with_beside c nodes v x tape (CountsItem (number me) cell epoch) (plain_beside v x tape (CountsItem (number me) cell epoch) (λ meaning. refl) refl refl)
note_beside c nodes me v x (Forgets cell epoch) tape h = with_beside c nodes v x tape (ForgetsItem (number me) cell epoch) (plain_beside v x tape (ForgetsItem (number me) cell epoch) (λ meaning. refl) refl refl)
note_beside c nodes me v x (Serves epoch) tape h = with_beside c nodes v x tape (Serving (number me) epoch) (plain_beside v x tape (Serving (number me) epoch) (λ meaning. refl) refl refl)
note_beside c nodes me v x (Loses epoch) tape h = with_beside c nodes v x tape (Lost (number me) epoch) (plain_beside v x tape (Lost (number me) epoch) (λ meaning. refl) refl refl)
note_beside c nodes me v x (Validates g position) tape h = with_beside c nodes v x tape (Valid (number me) g (record { 0 = position })) (plain_beside v x tape (Valid (number me) g (record { 0 = position })) (λ meaning. refl) refl refl)
note_beside c nodes me v x (Invalidates g position) tape h = with_beside c nodes v x tape (Invalid (number me) g (record { 0 = position })) (plain_beside v x tape (Invalid (number me) g (record { 0 = position })) (λ meaning. refl) refl refl)
note_beside c nodes me v x (Decides g position entry) tape h = with_beside c nodes v x tape (Decide (number me) g (record { 0 = position }) entry) (plain_beside v x tape (Decide (number me) g (record { 0 = position }) entry) (λ meaning. refl) refl refl)
note_beside c nodes me v x (Applies g position) tape h = with_beside c nodes v x tape (Apply (number me) g (record { 0 = position })) (plain_beside v x tape (Apply (number me) g (record { 0 = position })) (λ meaning. refl) refl refl)

pub notes_beside : (c : Cluster) (nodes : ℕ → Node) (me v : ℕ) (x : OpId) (notes : List Met) (tape : List Item) → Each (Leaves me v x) notes → Beside v x tape (with_items c nodes tape (flat_map (shown me) notes))
notes_beside c nodes me v x [] tape h = beside_self v x tape
notes_beside c nodes me v x (one ∷ notes) tape h =
    let mid = with_items c nodes tape (shown me one) in
    subst (Beside v x tape) (sym (with_append c nodes (shown me one) (flat_map (shown me) notes) tape))
    (beside_then v x tape mid (with_items c nodes mid (flat_map (shown me) notes)) (note_beside c nodes me v x one tape h.0) (notes_beside c nodes me v x notes mid h.1))

pub sends_beside : (v : ℕ) (x : OpId) (k : ℕ) (ms : List Message) (tape : List Item) → Beside v x tape (sent k ms tape)
sends_beside v x k [] tape = beside_self v x tape
sends_beside v x k (m ∷ ms) tape = beside_then v x tape (Sent k m ∷ tape) (sent (k + 1) ms (Sent k m ∷ tape)) (plain_beside v x tape (Sent k m) (λ meaning. refl) refl refl) (sends_beside v x (k + 1) ms (Sent k m ∷ tape))

-- ---- messages

-- no note sends a message
one_unsent : (c : Cluster) (nodes : ℕ → Node) (j : ℕ) (m : Message) (tape : List Item) (item : Item) → ((item ≡ Sent j m) → ⊥) → Stands (Sent j m) (with_item c nodes tape item) → Stands (Sent j m) tape
one_unsent c nodes j m tape item none s = by (breaks c nodes item && not (is_unsafe tape)) s
  where
    behind : Stands (Sent j m) (item ∷ tape) → Stands (Sent j m) tape
    behind (inl same) = absurd (none same)
    behind (inr t) = t

    by : (t : Bool) → Stands (Sent j m) (cond t (Unsafe ∷ item ∷ tape) (item ∷ tape)) → Stands (Sent j m) tape
    by true (inl same) = absurd (let clash = same in cc)
    by true (inr t) = behind t
    by false t = behind t

note_unsent : (c : Cluster) (nodes : ℕ → Node) (me j : ℕ) (m : Message) (note : Met) (tape : List Item) → Stands (Sent j m) (with_items c nodes tape (shown me note)) → Stands (Sent j m) tape
note_unsent c nodes me j m (Starts start) tape s = one_unsent c nodes j m tape (Start (number me) start) (λ same. cc) s
note_unsent c nodes me j m Crashes tape s = one_unsent c nodes j m tape (Crash (number me)) (λ same. cc) s
note_unsent c nodes me j m (Ticks now) tape s = one_unsent c nodes j m tape (Tick (number me) now) (λ same. cc) s
note_unsent c nodes me j m (Begins op text) tape s = one_unsent c nodes j m tape (Begin op text) (λ same. cc) s
note_unsent c nodes me j m (Takes message) tape s = s
note_unsent c nodes me j m (Sends message) tape s = s
note_unsent c nodes me j m (Unsends message) tape s = one_unsent c nodes j m tape (Unsent (number me) message) (λ same. cc) s
note_unsent c nodes me j m (Grants node epoch) tape s = one_unsent c nodes j m tape (Grant me (number node) epoch) (λ same. cc) s
note_unsent c nodes me j m (Lapses node epoch) tape s = one_unsent c nodes j m tape (Lapse me (number node) epoch) (λ same. cc) s
note_unsent c nodes me j m (Counts cell epoch) tape s = one_unsent c nodes j m tape (CountsItem (number me) cell epoch) (λ same. cc) s
note_unsent c nodes me j m (Forgets cell epoch) tape s = one_unsent c nodes j m tape (ForgetsItem (number me) cell epoch) (λ same. cc) s
note_unsent c nodes me j m (Serves epoch) tape s = one_unsent c nodes j m tape (Serving (number me) epoch) (λ same. cc) s
note_unsent c nodes me j m (Loses epoch) tape s = one_unsent c nodes j m tape (Lost (number me) epoch) (λ same. cc) s
note_unsent c nodes me j m (Validates g position) tape s = one_unsent c nodes j m tape (Valid (number me) g (record { 0 = position })) (λ same. cc) s
note_unsent c nodes me j m (Invalidates g position) tape s = one_unsent c nodes j m tape (Invalid (number me) g (record { 0 = position })) (λ same. cc) s
note_unsent c nodes me j m (Decides g position entry) tape s = one_unsent c nodes j m tape (Decide (number me) g (record { 0 = position }) entry) (λ same. cc) s
note_unsent c nodes me j m (Applies g position) tape s = one_unsent c nodes j m tape (Apply (number me) g (record { 0 = position })) (λ same. cc) s
note_unsent c nodes me j m (Answers op answer) tape s = one_unsent c nodes j m tape (Answer op answer) (λ same. cc) s

pub notes_unsent : (c : Cluster) (nodes : ℕ → Node) (me j : ℕ) (m : Message) (notes : List Met) (tape : List Item) → Stands (Sent j m) (with_items c nodes tape (flat_map (shown me) notes)) → Stands (Sent j m) tape
notes_unsent c nodes me j m [] tape s = s
notes_unsent c nodes me j m (one ∷ notes) tape s =
    note_unsent c nodes me j m one tape (notes_unsent c nodes me j m notes (with_items c nodes tape (shown me one)) (subst (Stands (Sent j m)) (with_append c nodes (shown me one) (flat_map (shown me) notes) tape) s))

-- what is sent stands
pub stands_among : (m : Message) (k : ℕ) (ms : List Message) (tape : List Item) → In m ms → (j : ℕ) × Stands (Sent j m) (sent k ms tape)
stands_among m k [] tape i = absurd i
stands_among m k (one ∷ ms) tape (inl same) = (k, still (Sent k m) (k + 1) ms (Sent k one ∷ tape) (inl (ap (Sent k) same)))
  where
    still : (item : Item) (j : ℕ) (rest : List Message) (before : List Item) → Stands item before → Stands item (sent j rest before)
    still item j [] before s = s
    still item j (n ∷ rest) before s = still item (j + 1) rest (Sent j n ∷ before) (inr s)
stands_among m k (one ∷ ms) tape (inr i) = stands_among m (k + 1) ms (Sent k one ∷ tape) i
