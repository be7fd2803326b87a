-- What is committed, alone or with a batch, stands behind what settled its entry.
use Rattle.std.proofs.Common.{◌≡◌, inl, inr, Bool, true, false, List, ◌∷◌, Some, refl, ap, subst}
use Rattle.mega_base.specs.declared.names.GroupId.{GroupId}
use Rattle.mega_base.specs.declared.names.OpId.{OpId}
use Rattle.mega_base.specs.declared.names.Position.{Position}
use Rattle.mega_cluster.specs.declared.cluster.Cluster.{Cluster}
use Rattle.mega_entry.specs.declared.content.Content.{Content}
use Rattle.mega_handler.specs.Named.{Meanings}
use Rattle.mega_outcome.specs.declared.answer.Answer.{Answer}
use Rattle.mega_outcome.specs.declared.answer.Answer.TheVariants.{Batched, Committed}
use Rattle.mega_run_laws.specs.of_transcript.declared.item.Item.{Item}
use Rattle.mega_run_laws.specs.of_transcript.declared.item.Item.TheVariants.{Answer as AnswerItem, Decide}
use Rattle.mega_run_laws.specs.of_promises.Moments.{StoodOn}
use Rattle.mega_run_laws.specs.of_promises.Promises.{Stands}
use Rattle.mega_run_laws.specs.of_promises.Runs.{Happening, IsRun}
use Rattle.mega_run_laws.specs.of_tape_laws.Answers.{AreAnswered, LawfulAnswers}
use Rattle.mega_run_laws.specs.of_tape_laws.Lawful.{Lawful}
use Rattle.mega_run_laws.specs.of_tape_laws.Writes.{AreWritten, Usage}
use Rattle.mega_run_laws.proofs.of_tape_laws.Answered.{serial}
use Rattle.mega_run_laws.specs.Usages.{Fits}
use Rattle.mega_run_laws.proofs.Runs.{run_answered}
use Rattle.mega_settled_laws.specs.Covering.{AreSettled, OwnSettled}
use Rattle.mega_settled_laws.proofs.Behind.{caused_before, decided_covered, run_covered}
use Rattle.mega_settled_laws.proofs.Runs.{AreCaused, run_caused}
use Rattle.mega_run_laws.proofs.of_tape_laws.Earlier.{lawful_before}
use Rattle.mega_settled_laws.proofs.Tapes.{answered_before, written_before}

abbrev is_answer : Item → Bool
is_answer (AnswerItem op answer) = true
is_answer _ = false

not_answer : {X : Type 0} (op : OpId) (answer : Answer) (group : GroupId) (n : Position) (e : Content) → AnswerItem op answer ≡ Decide op.node group n e → X
not_answer op answer group n e same = absurd (let both = ap is_answer same in cc)

module _ (c : Cluster) (usage : Usage) (tape : List Item) (l : LawfulAnswers c usage tape) (k : AreCaused c tape) (op : OpId) (answer : Answer) (before : List Item) (s : StoodOn (AnswerItem op answer) before tape) where
  abbrev until : List Item
  until = AnswerItem op answer ∷ before

  lawful : Lawful c until
  lawful = lawful_before c s.later until (subst (Lawful c) s.is (l.writes).lawful)

  caused : AreCaused c until
  caused = caused_before c s.later until (subst (AreCaused c) s.is k)

  answered : LawfulAnswers c usage until
  answered = record {
    writes = record { lawful = lawful; written = written_before c.schema usage s.later until (subst (AreWritten c.schema usage) s.is (l.writes).written) };
    answered = answered_before c.schema usage s.later until (subst (AreAnswered c.schema usage) s.is l.answered);
  }

  -- its own entry is decided there
  own_settled : (n : Position) (group : GroupId) (entry : Content) → Stands (Decide op.node group n entry) until → entry.id ≡ Some op → OwnSettled c before op n
  own_settled n group entry (inl same) id = not_answer op answer group n entry same
  own_settled n group entry (inr stands) id = record {
    group = group;
    entry = entry;
    own = id;
    decided = stands;
    covered = decided_covered c (record { group = group; position = n }) entry before lawful.1 caused.1 op.node stands;
  }

pub run_settled : (c : Cluster) (usage : Usage) (first : Meanings) (events : List Happening) (tape : List Item) → IsRun c first events tape → Fits usage events → AreSettled c tape
run_settled c usage first events tape run fits = record {
  decisions = λ node p e before s. run_covered c first events tape run node p e before s;
  committed = λ op n replies before s.
      let own = (serial c usage (AnswerItem op (Committed n replies) ∷ before) (answered c usage tape lawful caused_all op (Committed n replies) before s)).committed op n replies (inl refl) in
      own_settled c usage tape lawful caused_all op (Committed n replies) before s n own.0 own.1 own.2 own.3;
  batched = λ op n results before s.
      let own = (serial c usage (AnswerItem op (Batched n results) ∷ before) (answered c usage tape lawful caused_all op (Batched n results) before s)).batched op n results (inl refl) in
      own_settled c usage tape lawful caused_all op (Batched n results) before s n own.0 own.1 own.2 own.3;
}
  where
    lawful : LawfulAnswers c usage tape
    lawful = run_answered c usage first events tape run fits

    caused_all : AreCaused c tape
    caused_all = run_caused c first events tape run
