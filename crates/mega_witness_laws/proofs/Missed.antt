-- A current read that shows no row through position 0, where position 1 was decided before it began.
use Rattle.std.proofs.Common.{◌≡◌, inl, inr, ℕ, ◌≤◌, Bool, true, false, List, [], ◌∷◌, Option, Some, None, Result, Ok, Err, refl, ap, sym, arith, take}
use Rattle.mega_ballot.specs.Order.{zero_ballot}
use Rattle.mega_entry.specs.declared.content.Content.{Content}
use Rattle.mega_outcome.specs.declared.answer.Answer.{Answer}
use Rattle.mega_outcome.specs.declared.answer.Answer.TheVariants.{Read as ReadAnswer}
use Rattle.mega_outcome.specs.declared.answer.Shown.{Shown}
use Rattle.mega_outcome.specs.declared.answer.Turn.{Turn}
use Rattle.mega_valid_laws.specs.of_settled_laws.of_tape_laws.of_transcript.declared.item.Item.{Item}
use Rattle.mega_valid_laws.specs.of_settled_laws.of_tape_laws.of_transcript.declared.item.Item.TheVariants.{Answer as AnswerItem, Begin, Unsafe}
use Rattle.mega_valid_laws.specs.of_settled_laws.of_tape_laws.of_transcript.Tape.{newest}
use Rattle.mega_valid_laws.specs.of_settled_laws.of_tape_laws.of_promises.Fresh.{IsFresh, IsSafeAt, ReadsThrough, WasDecided, read_over}
use Rattle.mega_valid_laws.specs.of_settled_laws.of_tape_laws.of_promises.Items.{number}
use Rattle.mega_valid_laws.specs.of_settled_laws.of_tape_laws.of_promises.Promises.{log_of, rows_shown}
use Rattle.mega_valid_laws.specs.of_settled_laws.of_tape_laws.Answers.{AreAnswered, LawfulAnswers, MayRead}
use Rattle.mega_valid_laws.specs.of_settled_laws.of_tape_laws.Examples.{first, place, put_decided}
use Rattle.mega_valid_laws.specs.of_settled_laws.of_tape_laws.Writes.{AreWritten, Own, again, own, runs}
use Rattle.mega_valid_laws.proofs.of_settled_laws.of_tape_laws.Writing as put
use Rattle.mega_valid_laws.specs.of_settled_laws.of_tape_laws.of_rules.Acting.{rows_answer}
use Rattle.mega_valid_laws.specs.of_settled_laws.of_tape_laws.of_rules.Examples.{cluster, entry_of, group, op_of}
use Rattle.mega_valid_laws.proofs.Orders.{stood_first}
use Rattle.mega_witness_laws.specs.Tapes.{missed, put_then_read, user_read}
use Rattle.mega_valid_laws.proofs.of_settled_laws.of_tape_laws.Ballots.{clash}
use Rattle.mega_witness_laws.proofs.Shown.{none_stands}

abbrev nothing : Answer
nothing = ReadAnswer (record { 0 = 0 }) (None ∷ [])

-- the position that an answer shows
abbrev shown_at : Answer → ℕ
shown_at (ReadAnswer p rows) = p.0
shown_at _ = 0

through : (p : ℕ) (found : Result (List (Option Shown)) Turn) → rows_answer p found ≡ nothing → p ≡ 0
through p (Ok rows) h = ap shown_at h
through p (Err turn) h = cc

is_unsafe_item : Item → Bool
is_unsafe_item Unsafe = true
is_unsafe_item _ = false

safe : IsSafeAt (AnswerItem (op_of 2) nothing) (newest missed)
unfolding is_unsafe_item
safe s = none_stands is_unsafe_item Unsafe (newest missed) refl refl (stood_first Unsafe (AnswerItem (op_of 2) nothing) (newest missed) s)

decided : WasDecided (newest missed) group first (op_of 2)
decided = (number 1, entry_of 1, 1 ∷ [], inr (inl (refl, inl refl)))

above : (p : ℕ) → 1 ≤ p → p ≡ 0 → ⊥
above p h e = omega arith

reads_none : ReadsThrough (newest missed) (op_of 2) group (AnswerItem (op_of 2) nothing) (λ p log. read_over cluster user_read p log ≡ nothing) → ⊥
reads_none r = above r.p ((r.covers) first decided safe) (through r.p (rows_shown cluster.schema user_read (take r.p (log_of (newest missed) group)) user_read.rows) r.shows)

pub not_fresh : IsFresh cluster put_then_read.meaning (newest missed) → ⊥
not_fresh f = reads_none ((f.reads) (op_of 2) user_read nothing refl refl (inl refl) refl)

-- ---- all else is allowed

no_entry : {d : Content} → None ≡ Some d → ⊥
no_entry h = cc

silent : {X : Type 0} → false ≡ true → X
silent h = absurd (clash true refl (sym h))

own_put : Own cluster.schema put_then_read (Begin (op_of 1) [] ∷ []) 1 (op_of 1) place (entry_of 1)
own_put = record { named = omega arith; below = []; reaches = refl; known = λ k d is. absurd (no_entry is); entry = runs put.transaction put.done refl refl put.comes refl; home = λ q b other i. absurd i }

written : AreWritten cluster.schema put_then_read (newest missed)
written = (tt, (λ named. refl, (tt, (tt, (tt, (tt, (again (op_of 1) zero_ballot (inl refl), (tt, (tt, (tt, (own own_put, (λ named. refl, tt))))))))))))

no_row : rows_shown cluster.schema user_read [] user_read.rows ≡ Ok (None ∷ [])
unfolding Rattle.mega_base.specs.Codec.number_text
no_row = refl

read_has_cause : MayRead cluster.schema put_then_read (Begin (op_of 2) (1 ∷ []) ∷ newest put_decided) (op_of 2) (record { 0 = 0 }) (None ∷ [])
read_has_cause = record { request = user_read; asked = refl; current = λ h. record { below = []; known = λ k d is. absurd (no_entry is); reaches = refl; shows = no_row } }

answered : AreAnswered cluster.schema put_then_read (newest missed)
answered = ((read_has_cause, (λ h. silent h, inr (omega arith))), (tt, (tt, (tt, (tt, (tt, (silent, (tt, (tt, (tt, (silent, (tt, tt))))))))))))

pub answers : LawfulAnswers cluster put_then_read (newest missed)
answers = record { writes = record { lawful = (tt, (tt, put.lawful)); written = written }; answered = answered }
