-- Notes that answer nothing, and answers by themselves: what they leave of what was answered, asked, decided and moved.
use Rattle.std.proofs.Common.{◌≡◌, inl, inr, ℕ, ◌+◌, ◌&&◌, ◌||◌, Bool, true, false, not, cond, List, [], ◌∷◌, ◌++◌, flat_map, refl, sym, ap, ◌∙◌, subst}
use Rattle.mega_base.specs.declared.names.OpId.{OpId}
use Rattle.mega_cluster.specs.declared.cluster.Cluster.{Cluster}
use Rattle.mega_schema.specs.declared.schema.Schema.{Schema}
use Rattle.mega_wire.specs.declared.message.Message.{Message}
use Rattle.mega_tape_laws.specs.of_transcript.declared.item.Item.{Item}
use Rattle.mega_tape_laws.specs.of_transcript.declared.item.Item.TheVariants.{Answer as AnswerItem, Apply, Begin, Counts as CountsItem, Crash, Decide, Forgets as ForgetsItem, Grant, Invalid, Lapse, Lost, Sent, Serving, Start, Tick, Unsafe, Unsent, Valid}
use Rattle.mega_tape_laws.specs.of_promises.Items.{number, shown}
use Rattle.mega_tape_laws.specs.of_promises.Messages.{is_unsafe}
use Rattle.mega_tape_laws.specs.of_promises.Promises.{is_negative}
use Rattle.mega_tape_laws.specs.of_promises.Runs.{breaks, with_item, with_items}
use Rattle.mega_tape_laws.specs.of_rules.Met.{Answers, Applies, Begins, Counts, Crashes, Decides, Forgets, Grants, Invalidates, Lapses, Loses, Met, Sends, Serves, Starts, Takes, Ticks, Unsends, Validates}
use Rattle.mega_tape_laws.specs.of_rules.Operations.{Node}
use Rattle.mega_tape_laws.specs.Places.{Place, moves}
use Rattle.mega_tape_laws.specs.Answers.{AreAnswered, IsAnswered, has_failed}
use Rattle.mega_tape_laws.specs.Writes.{Usage}
use Rattle.mega_run_laws.specs.Justified.{Each, sent}
use Rattle.mega_run_laws.proofs.Answering.{with_answers}
use Rattle.mega_run_laws.proofs.Causes.{AskedSame, DecidedOn}
use Rattle.mega_run_laws.proofs.Noted.{with_append}
use Rattle.mega_run_laws.proofs.Turns.{AnsweredBelow, IsApart}

-- ---- notes that answer nothing

abbrev pub IsSilent : Met → Type 0
IsSilent (Answers op answer) = ⊥
IsSilent _ = Unit {0}

-- what an item that answers nothing leaves
record Unanswered (old new : List Item) : Type 0 where
  answered : (schema : Schema) (usage : Usage) → AreAnswered schema usage old → AreAnswered schema usage new
  failed : (x : OpId) → has_failed new x ≡ has_failed old x

item_silent : (c : Cluster) (nodes : ℕ → Node) (tape : List Item) (item : Item) → ((schema : Schema) (usage : Usage) → IsAnswered schema usage tape item) → ((x : OpId) → has_failed (item ∷ tape) x ≡ has_failed tape x)
    → Unanswered tape (with_item c nodes tape item)
item_silent c nodes tape item answered failed = go (breaks c nodes item && not (is_unsafe tape))
  where
    go : (t : Bool) → Unanswered tape (cond t (Unsafe ∷ item ∷ tape) (item ∷ tape))
    go true = record { answered = λ schema usage a. (tt, (answered schema usage, a)); failed = failed }
    go false = record { answered = λ schema usage a. (answered schema usage, a); failed = failed }

note_silent : (c : Cluster) (me : ℕ) (nodes : ℕ → Node) (tape : List Item) (one : Met) → IsSilent one → Unanswered tape (with_items c nodes tape (shown me one))
note_silent c me nodes tape (Answers op answer) h = absurd h
note_silent c me nodes tape (Takes m) h = record { answered = λ schema usage a. a; failed = λ x. refl }
note_silent c me nodes tape (Sends m) h = record { answered = λ schema usage a. a; failed = λ x. refl }
note_silent c me nodes tape (Starts start) h = item_silent c nodes tape (Start (number me) start) (λ schema usage. tt) (λ x. refl)
note_silent c me nodes tape Crashes h = item_silent c nodes tape (Crash (number me)) (λ schema usage. tt) (λ x. refl)
note_silent c me nodes tape (Ticks now) h = item_silent c nodes tape (Tick (number me) now) (λ schema usage. tt) (λ x. refl)
note_silent c me nodes tape (Begins op text) h = item_silent c nodes tape (Begin op text) (λ schema usage. tt) (λ x. refl)
note_silent c me nodes tape (Unsends m) h = item_silent c nodes tape (Unsent (number me) m) (λ schema usage. tt) (λ x. refl)
note_silent c me nodes tape (Grants node epoch) h = item_silent c nodes tape (Grant me (number node) epoch) (λ schema usage. tt) (λ x. refl)
note_silent c me nodes tape (Lapses node epoch) h = item_silent c nodes tape (Lapse me (number node) epoch) (λ schema usage. tt) (λ x. refl)
note_silent c me nodes tape (Counts cell epoch) h = item_silent c nodes tape (CountsItem (number me) cell epoch) (λ schema usage. tt) (λ x. refl)
note_silent c me nodes tape (Forgets cell epoch) h = item_silent c nodes tape (ForgetsItem (number me) cell epoch) (λ schema usage. tt) (λ x. refl)
note_silent c me nodes tape (Serves epoch) h = item_silent c nodes tape (Serving (number me) epoch) (λ schema usage. tt) (λ x. refl)
note_silent c me nodes tape (Loses epoch) h = item_silent c nodes tape (Lost (number me) epoch) (λ schema usage. tt) (λ x. refl)
note_silent c me nodes tape (Validates group position) h = item_silent c nodes tape (Valid (number me) group (record { 0 = position })) (λ schema usage. tt) (λ x. refl)
note_silent c me nodes tape (Invalidates group position) h = item_silent c nodes tape (Invalid (number me) group (record { 0 = position })) (λ schema usage. tt) (λ x. refl)
note_silent c me nodes tape (Decides group position entry) h = item_silent c nodes tape (Decide (number me) group (record { 0 = position }) entry) (λ schema usage. tt) (λ x. refl)
note_silent c me nodes tape (Applies group position) h = item_silent c nodes tape (Apply (number me) group (record { 0 = position })) (λ schema usage. tt) (λ x. refl)

silent_notes : (c : Cluster) (me : ℕ) (nodes : ℕ → Node) (notes : List Met) (tape : List Item) → Each IsSilent notes → Unanswered tape (with_items c nodes tape (flat_map (shown me) notes))
silent_notes c me nodes [] tape h = record { answered = λ schema usage a. a; failed = λ x. refl }
silent_notes c me nodes (one ∷ notes) tape h =
    let mid = with_items c nodes tape (shown me one) in
    let first = note_silent c me nodes tape one h.0 in
    let rest = silent_notes c me nodes notes mid h.1 in
    subst (Unanswered tape) (sym (with_append c nodes (shown me one) (flat_map (shown me) notes) tape))
    (record { answered = λ schema usage a. rest.answered schema usage (first.answered schema usage a); failed = λ x. rest.failed x ∙ first.failed x })

pub notes_answered : (c : Cluster) (me : ℕ) (nodes : ℕ → Node) (notes : List Met) (tape : List Item) → Each IsSilent notes → (schema : Schema) (usage : Usage) → AreAnswered schema usage tape → AreAnswered schema usage (with_items c nodes tape (flat_map (shown me) notes))
notes_answered c me nodes notes tape h = (silent_notes c me nodes notes tape h).answered

pub notes_failed : (c : Cluster) (me : ℕ) (nodes : ℕ → Node) (notes : List Met) (tape : List Item) → Each IsSilent notes → (x : OpId) → has_failed (with_items c nodes tape (flat_map (shown me) notes)) x ≡ has_failed tape x
notes_failed c me nodes notes tape h = (silent_notes c me nodes notes tape h).failed

-- one note, whatever its reason
pub note_answered : (c : Cluster) (me : ℕ) (nodes : ℕ → Node) (tape : List Item) (one : Met) → IsSilent one → (schema : Schema) (usage : Usage) → AreAnswered schema usage tape → AreAnswered schema usage (with_items c nodes tape (shown me one))
note_answered c me nodes tape one h = (note_silent c me nodes tape one h).answered

pub note_failed : (c : Cluster) (me : ℕ) (nodes : ℕ → Node) (tape : List Item) (one : Met) → IsSilent one → (x : OpId) → has_failed (with_items c nodes tape (shown me one)) x ≡ has_failed tape x
note_failed c me nodes tape one h = (note_silent c me nodes tape one h).failed

append_assoc : {X : Type 0} (xs ys zs : List X) → (xs ++ ys) ++ zs ≡ xs ++ (ys ++ zs)
append_assoc [] ys zs = refl
append_assoc (x ∷ xs) ys zs = ap (λ l. x ∷ l) (append_assoc xs ys zs)

pub flat_append : (me : ℕ) (xs ys : List Met) → flat_map (shown me) (xs ++ ys) ≡ flat_map (shown me) xs ++ flat_map (shown me) ys
flat_append me [] ys = refl
flat_append me (x ∷ xs) ys = ap (λ l. shown me x ++ l) (flat_append me xs ys) ∙ sym (append_assoc (shown me x) (flat_map (shown me) xs) (flat_map (shown me) ys))

-- a step's notes are followed by its answers
pub then_answers : (c : Cluster) (nodes : ℕ → Node) (me : ℕ) (notes answers : List Met) (tape : List Item)
    → with_items c nodes tape (flat_map (shown me) (notes ++ answers)) ≡ with_answers c nodes me answers (with_items c nodes tape (flat_map (shown me) notes))
then_answers c nodes me notes answers tape = ap (with_items c nodes tape) (flat_append me notes answers) ∙ with_append c nodes (flat_map (shown me) notes) (flat_map (shown me) answers) tape

-- ---- answers

module _ (c : Cluster) (nodes : ℕ → Node) (me st k : ℕ) where
  pub answers_decided : (answers : List Met) (tape : List Item) → Each (AnsweredBelow me st k) answers → DecidedOn (with_answers c nodes me answers tape) tape
  answers_decided [] tape h node g n e s = s
  answers_decided (Answers op answer ∷ answers) tape h node g n e s = elim (answers_decided answers (AnswerItem op answer ∷ tape) h.1 node g n e s) [ inl same ↦ absurd (let clashing = same in cc) | inr before ↦ before ]
  answers_decided (_ ∷ answers) tape h node g n e s = absurd h.0

  pub answers_asked : (usage : Usage) (answers : List Met) (tape : List Item) → Each (AnsweredBelow me st k) answers → (x : OpId) → AskedSame usage tape (with_answers c nodes me answers tape) x
  answers_asked usage [] tape h x = refl
  answers_asked usage (Answers op answer ∷ answers) tape h x = answers_asked usage answers (AnswerItem op answer ∷ tape) h.1 x
  answers_asked usage (_ ∷ answers) tape h x = absurd h.0

  pub answers_moved : (answers : List Met) (tape : List Item) → Each (AnsweredBelow me st k) answers → (x : OpId) (q : Place) → moves (with_answers c nodes me answers tape) x q ≡ moves tape x q
  answers_moved [] tape h x q = refl
  answers_moved (Answers op answer ∷ answers) tape h x q = answers_moved answers (AnswerItem op answer ∷ tape) h.1 x q
  answers_moved (_ ∷ answers) tape h x q = absurd h.0

  -- who was not answered did not fail by it
  pub answers_apart : (answers : List Met) (tape : List Item) → Each (AnsweredBelow me st k) answers → (x : OpId) → Each (IsApart x) answers → has_failed (with_answers c nodes me answers tape) x ≡ has_failed tape x
  answers_apart [] tape h x apart = refl
  answers_apart (Answers op answer ∷ answers) tape h x apart = answers_apart answers (AnswerItem op answer ∷ tape) h.1 x apart.1 ∙ ap (λ t. (t && is_negative answer) || has_failed tape x) apart.0
  answers_apart (_ ∷ answers) tape h x apart = absurd h.0

-- ---- what is sent

pub sent_decided : (n : ℕ) (ms : List Message) (tape : List Item) → DecidedOn (sent n ms tape) tape
sent_decided n [] tape node g k e s = s
sent_decided n (m ∷ ms) tape node g k e s = elim (sent_decided (n + 1) ms (Sent n m ∷ tape) node g k e s) [ inl same ↦ absurd (let clashing = same in cc) | inr before ↦ before ]
