-- The answers of a step come onto the tape, and then what is sent.
use Rattle.std.proofs.Common.{◌≡◌, ◌⊎◌, inl, inr, ℕ, ◌+◌, ◌&&◌, ◌||◌, Bool, true, false, List, [], ◌∷◌, flat_map, refl, ap, ◌∙◌, subst}
use Rattle.mega_base.specs.declared.names.OpId.{OpId}
use Rattle.mega_cluster.specs.declared.cluster.Cluster.{Cluster}
use Rattle.mega_schema.specs.declared.schema.Schema.{Schema}
use Rattle.mega_wire.specs.declared.message.Message.{Message}
use Rattle.mega_wire.specs.declared.message.Body.{Body}
use Rattle.mega_wire.specs.declared.message.Body.TheVariants.{Accept}
use Rattle.mega_wal.specs.Same.{same_op}
use Rattle.mega_wal.proofs.Sames.{same_op_equal}
use Rattle.mega_tape_laws.specs.of_transcript.declared.item.Item.{Item}
use Rattle.mega_tape_laws.specs.of_transcript.declared.item.Item.TheVariants.{Answer as AnswerItem, Sent}
use Rattle.mega_tape_laws.specs.of_promises.Items.{shown}
use Rattle.mega_tape_laws.specs.of_promises.Promises.{is_negative}
use Rattle.mega_tape_laws.specs.of_promises.Runs.{with_items}
use Rattle.mega_tape_laws.specs.of_rules.Met.{Answers, Met}
use Rattle.mega_tape_laws.specs.of_rules.Operations.{Node}
use Rattle.mega_tape_laws.specs.Places.{In, Move, Place, Proposes, move_in, moves}
use Rattle.mega_tape_laws.specs.Answers.{AreAnswered, IsDoomed, MaySpeak, has_failed}
use Rattle.mega_tape_laws.specs.Writes.{Usage}
use Rattle.mega_tape_laws.proofs.Lists.{in_head}
use Rattle.mega_tape_laws.proofs.Made.{proposed_here}
use Rattle.mega_run_laws.specs.Justified.{Each, sent}
use Rattle.mega_run_laws.proofs.Causes.{AskedSame, DecidedOn, IsGiven, cause_to, lost_to}
use Rattle.mega_run_laws.proofs.Owned.{NoAccept}
use Rattle.mega_run_laws.proofs.Turns.{IsFair}
use Rattle.mega_run_laws.proofs.Written.{moved_on}

-- the tape with these answers
abbrev pub with_answers : Cluster → (ℕ → Node) → ℕ → List Met → List Item → List Item
with_answers c nodes me answers tape = with_items c nodes tape (flat_map (shown me) answers)

-- what holds of a tape between the step's decision and its end
pub record Amid (usage : Usage) (last tape : List Item) : Type 0 where
  pub decided : DecidedOn last tape
  pub asked : (x : OpId) → AskedSame usage last tape x
  pub moved : (x : OpId) (p : Place) (y : Move) → In y (moves tape x p) → In y (moves last x p)

pub answers_on : (schema : Schema) (usage : Usage) (c : Cluster) (nodes : ℕ → Node) (me : ℕ) (last : List Item) (answers : List Met) (tape : List Item) → Each (IsGiven schema usage last) answers → Amid usage last tape
    → AreAnswered schema usage tape → AreAnswered schema usage (with_answers c nodes me answers tape)
answers_on schema usage c nodes me last [] tape h x a = a
answers_on schema usage c nodes me last (Answers op answer ∷ answers) tape h x a = answers_on schema usage c nodes me last answers (AnswerItem op answer ∷ tape) h.1
    (record { decided = λ node g n e s. inr (x.decided node g n e s); asked = x.asked; moved = x.moved }) (
      (
        cause_to schema usage last tape op x.decided (x.asked op) answer (h.0).cause,
        (λ negative p b e i id. lost_to last tape op p x.decided ((h.0).doomed negative p b e (x.moved op p (Proposes b e) i) id), (h.0).named),
      ),
      a,
    )
answers_on schema usage c nodes me last (_ ∷ answers) tape h x a = absurd h.0

-- who failed by then failed before, or is doomed
or_cases : (s t u : Bool) → ((s && t) || u) ≡ true → ((s ≡ true) × (t ≡ true)) ⊎ (u ≡ true)
or_cases true true u h = inl (refl, refl)
or_cases true false u h = inr h
or_cases false t u h = inr h

pub failed_in : (schema : Schema) (usage : Usage) (c : Cluster) (nodes : ℕ → Node) (me : ℕ) (last : List Item) (x : OpId) (answers : List Met) (tape : List Item) → Each (IsGiven schema usage last) answers
    → (has_failed tape x ≡ true → IsDoomed last x) → has_failed (with_answers c nodes me answers tape) x ≡ true → IsDoomed last x
failed_in schema usage c nodes me last x [] tape h before failed = before failed
failed_in schema usage c nodes me last x (Answers op answer ∷ answers) tape h before failed = failed_in schema usage c nodes me last x answers (AnswerItem op answer ∷ tape) h.1
    (λ f. elim (or_cases (same_op op x) (is_negative answer) (has_failed tape x) f) [
      | inl both ↦ subst (IsDoomed last) (same_op_equal op x both.0) ((h.0).doomed both.1)
      | inr earlier ↦ before earlier
    ]) failed
failed_in schema usage c nodes me last x (_ ∷ answers) tape h before failed = absurd h.0

-- ---- what is sent

pub sent_failed : (x : OpId) (n : ℕ) (ms : List Message) (tape : List Item) → has_failed (sent n ms tape) x ≡ has_failed tape x
sent_failed x n [] tape = refl
sent_failed x n (m ∷ ms) tape = sent_failed x (n + 1) ms (Sent n m ∷ tape)

quiet_speak : (tape : List Item) (body : Body) → NoAccept body → MaySpeak tape body
quiet_speak tape (Accept o g n b e) h = absurd h
quiet_speak tape _ h = tt

pub quiet_answered : (schema : Schema) (usage : Usage) (n : ℕ) (ms : List Message) (tape : List Item) → Each (λ (m : Message). NoAccept m.body) ms → AreAnswered schema usage tape → AreAnswered schema usage (sent n ms tape)
quiet_answered schema usage n [] tape h a = a
quiet_answered schema usage n (m ∷ ms) tape h a = quiet_answered schema usage (n + 1) ms (Sent n m ∷ tape) h.1 (quiet_speak tape m.body h.0, a)

may_speak : (early last tape : List Item) (n : ℕ) (m : Message) (body : Body) → m.body ≡ body → IsFair early body → DecidedOn last tape → ((x : OpId) → has_failed early x ≡ false → has_failed tape x ≡ true → IsDoomed last x)
    → ((x : OpId) (p : Place) (y : Move) → In y (moves (Sent n m ∷ tape) x p) → In y (moves last x p)) → MaySpeak tape body
may_speak early last tape n m (Accept op g k b e) is fair on doomed moved = λ failed id. lost_to last tape op (record { group = g; position = k }) on
    (doomed op fair failed (record { group = g; position = k }) b e (moved op (record { group = g; position = k }) (Proposes b e)
    (in_head (move_in op (record { group = g; position = k }) m.body) (moves tape op (record { group = g; position = k })) (Proposes b e) (ap (move_in op (record { group = g; position = k })) is ∙ proposed_here op (record { group = g; position = k }) b e))) id)
may_speak early last tape n m _ is fair on doomed moved = tt

pub speaks_on : (schema : Schema) (usage : Usage) (early last : List Item) (n : ℕ) (ms : List Message) (tape : List Item) → Each (λ (m : Message). IsFair early m.body) ms → DecidedOn last tape
    → ((x : OpId) → has_failed early x ≡ false → has_failed tape x ≡ true → IsDoomed last x) → ((x : OpId) (p : Place) (y : Move) → In y (moves (sent n ms tape) x p) → In y (moves last x p))
    → AreAnswered schema usage tape → AreAnswered schema usage (sent n ms tape)
speaks_on schema usage early last n [] tape fair on doomed moved a = a
speaks_on schema usage early last n (m ∷ ms) tape fair on doomed moved a = speaks_on schema usage early last (n + 1) ms (Sent n m ∷ tape) fair.1 (λ node g k e s. inr (on node g k e s)) doomed moved
    (may_speak early last tape n m m.body refl fair.0 on doomed (λ x p y i. moved x p y (moved_on (n + 1) ms (Sent n m ∷ tape) x p y i)), a)
