-- What came onto a tape since a moment, and what holds of each item of it by what stood before.
use Rattle.std.proofs.Common.{◌≡◌, ℕ, ◌+◌, ◌&&◌, Bool, true, false, not, cond, List, [], ◌∷◌, ◌++◌, flat_map, refl, ap, ◌∙◌, subst}
use Rattle.mega_base.specs.declared.names.OpId.{OpId}
use Rattle.mega_cluster.specs.declared.cluster.Cluster.{Cluster}
use Rattle.mega_outcome.specs.declared.answer.Answer.{Answer}
use Rattle.mega_cause_laws.specs.of_run_laws.of_tape_laws.of_promises.of_transcript.declared.item.Item.{Item}
use Rattle.mega_cause_laws.specs.of_run_laws.of_tape_laws.of_promises.of_transcript.declared.item.Item.TheVariants.{Answer as AnswerItem, Sent, Unsafe}
use Rattle.mega_cause_laws.specs.of_run_laws.of_tape_laws.of_promises.Items.{shown}
use Rattle.mega_cause_laws.specs.of_run_laws.of_tape_laws.of_promises.Messages.{is_unsafe}
use Rattle.mega_cause_laws.specs.of_run_laws.of_tape_laws.of_promises.Runs.{breaks, with_item, with_items}
use Rattle.mega_cause_laws.specs.of_run_laws.of_tape_laws.of_promises.of_rules.Met.{Answers, Met, Sends, Takes}
use Rattle.mega_cause_laws.specs.of_run_laws.of_tape_laws.of_promises.of_rules.Operations.{Node}
use Rattle.mega_wire.specs.declared.message.Message.{Message}
use Rattle.mega_cause_laws.specs.of_run_laws.Justified.{Each, sent}
use Rattle.mega_cause_laws.proofs.of_run_laws.Silent.{IsSilent}

-- what holds of an operation's answer, by the tape before it; of other items nothing is asked
abbrev pub Answered : (List Item → OpId → Answer → Type 0) → List Item → Item → Type 0
Answered P before (AnswerItem op answer) = P before op answer
Answered P before _ = Unit {0}

abbrev pub IsQuiet : Item → Type 0
IsQuiet (AnswerItem op answer) = ⊥
IsQuiet _ = Unit {0}

abbrev pub Over : (List Item → OpId → Answer → Type 0) → List Item → List Item → Type 0
Over P old [] = Unit {0}
Over P old (item ∷ piece) = Answered P (piece ++ old) item × Over P old piece

pub record Since (P : List Item → OpId → Answer → Type 0) (old new : List Item) : Type 0 where
  pub piece : List Item
  pub is : new ≡ piece ++ old
  pub over : Over P old piece

module _ (P : List Item → OpId → Answer → Type 0) where
  pub since_none : (tape : List Item) → Since P tape tape
  since_none tape = record { piece = []; is = refl; over = tt }

  pub since_more : (old tape : List Item) (item : Item) → Since P old tape → Answered P tape item → Since P old (item ∷ tape)
  since_more old tape item s p = record { piece = item ∷ s.piece; is = ap (λ t. item ∷ t) s.is; over = (subst (λ t. Answered P t item) s.is p, s.over) }

  regroup : (a b d : List Item) → a ++ (b ++ d) ≡ (a ++ b) ++ d
  regroup [] b d = refl
  regroup (x ∷ a) b d = ap (λ xs. x ∷ xs) (regroup a b d)

  over_both : (old mid front back : List Item) → mid ≡ back ++ old → Over P mid front → Over P old back → Over P old (front ++ back)
  over_both old mid [] back is h k = k
  over_both old mid (item ∷ front) back is h k = (subst (λ t. Answered P t item) (ap (λ t. front ++ t) is ∙ regroup front back old) h.0, over_both old mid front back is h.1 k)

  pub since_then : (a b d : List Item) → Since P a b → Since P b d → Since P a d
  since_then a b d s t = record { piece = t.piece ++ s.piece; is = t.is ∙ ap (λ r. t.piece ++ r) s.is ∙ regroup t.piece s.piece a; over = over_both a b t.piece s.piece s.is t.over s.over }

  -- ---- what answers nothing

  pub quiet_holds : (tape : List Item) (item : Item) → IsQuiet item → Answered P tape item
  quiet_holds tape (AnswerItem op answer) h = absurd h
  quiet_holds tape _ h = tt

  pub since_item : (c : Cluster) (nodes : ℕ → Node) (tape : List Item) (item : Item) → Answered P tape item → Since P tape (with_item c nodes tape item)
  since_item c nodes tape item h = by (breaks c nodes item && not (is_unsafe tape))
    where
      one : Since P tape (item ∷ tape)
      one = since_more tape tape item (since_none tape) h

      by : (t : Bool) → Since P tape (cond t (Unsafe ∷ item ∷ tape) (item ∷ tape))
      by true = since_more tape (item ∷ tape) Unsafe one tt
      by false = one

  since_items : (c : Cluster) (nodes : ℕ → Node) (items tape : List Item) → Each IsQuiet items → Since P tape (with_items c nodes tape items)
  since_items c nodes [] tape h = since_none tape
  since_items c nodes (item ∷ items) tape h = since_then tape (with_item c nodes tape item) (with_items c nodes (with_item c nodes tape item) items)
      (since_item c nodes tape item (quiet_holds tape item h.0)) (since_items c nodes items (with_item c nodes tape item) h.1)

  shown_quiet : (me : ℕ) (one : Met) → IsSilent one → Each IsQuiet (shown me one)
  shown_quiet me (Answers op answer) h = absurd h
  shown_quiet me (Takes m) h = tt
  shown_quiet me (Sends m) h = tt
  shown_quiet me _ h = (tt, tt)

  each_join : (xs ys : List Item) → Each IsQuiet xs → Each IsQuiet ys → Each IsQuiet (xs ++ ys)
  each_join [] ys h k = k
  each_join (x ∷ xs) ys h k = (h.0, each_join xs ys h.1 k)

  notes_quiet : (me : ℕ) (notes : List Met) → Each IsSilent notes → Each IsQuiet (flat_map (shown me) notes)
  notes_quiet me [] h = tt
  notes_quiet me (one ∷ notes) h = each_join (shown me one) (flat_map (shown me) notes) (shown_quiet me one h.0) (notes_quiet me notes h.1)

  pub since_notes : (c : Cluster) (nodes : ℕ → Node) (me : ℕ) (notes : List Met) (tape : List Item) → Each IsSilent notes → Since P tape (with_items c nodes tape (flat_map (shown me) notes))
  since_notes c nodes me notes tape h = since_items c nodes (flat_map (shown me) notes) tape (notes_quiet me notes h)

  pub since_sent : (k : ℕ) (ms : List Message) (tape : List Item) → Since P tape (sent k ms tape)
  since_sent k [] tape = since_none tape
  since_sent k (m ∷ ms) tape = since_then tape (Sent k m ∷ tape) (sent (k + 1) ms (Sent k m ∷ tape)) (since_more tape tape (Sent k m) (since_none tape) tt) (since_sent (k + 1) ms (Sent k m ∷ tape))
