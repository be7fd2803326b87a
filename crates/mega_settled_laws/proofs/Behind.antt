-- A decision stands behind what settled it, wherever its node had it from.
use Rattle.std.proofs.Common.{inl, inr, ℕ, List, [], ◌∷◌, ◌++◌, subst}
use Rattle.mega_base.specs.declared.names.NodeId.{NodeId}
use Rattle.mega_base.specs.declared.names.OpId.{OpId}
use Rattle.mega_cluster.specs.declared.cluster.Cluster.{Cluster}
use Rattle.mega_entry.specs.declared.content.Content.{Content}
use Rattle.mega_handler.specs.Named.{Meanings}
use Rattle.mega_wire.specs.declared.message.Body.TheVariants.{Decide as Tell, Have}
use Rattle.mega_run_laws.specs.of_transcript.declared.item.Item.{Item}
use Rattle.mega_run_laws.specs.of_transcript.declared.item.Item.TheVariants.{Decide, Sent}
use Rattle.mega_run_laws.specs.of_promises.Items.{number}
use Rattle.mega_run_laws.specs.of_promises.Moments.{StoodOn}
use Rattle.mega_run_laws.specs.of_promises.Promises.{Stands}
use Rattle.mega_run_laws.specs.of_promises.Runs.{Happening, IsRun}
use Rattle.mega_run_laws.specs.of_tape_laws.Lawful.{Lawful, message}
use Rattle.mega_run_laws.specs.of_tape_laws.Places.{Place}
use Rattle.mega_run_laws.proofs.of_tape_laws.Lists.{lookback}
use Rattle.mega_run_laws.proofs.Runs.{run_lawful}
use Rattle.mega_settled_laws.specs.Covering.{WasCovered}
use Rattle.mega_run_laws.proofs.of_tape_laws.Earlier.{lawful_before}
use Rattle.mega_settled_laws.proofs.Tapes.{now_is, one_later}
use Rattle.mega_settled_laws.proofs.Settle.{Cause, by_answer, by_news, by_own}
use Rattle.mega_settled_laws.proofs.Runs.{AreCaused, IsCaused, run_caused}

pub caused_before : (c : Cluster) (later tape : List Item) → AreCaused c (later ++ tape) → AreCaused c tape
caused_before c [] tape k = k
caused_before c (item ∷ later) tape k = caused_before c later tape k.1

module _ (c : Cluster) (p : Place) (e : Content) where
  abbrev Decided : NodeId → List Item → Type 0
  Decided node tape = Stands (Decide node p.group p.position e) tape

  -- who tells of a decision decided it before
  teller : (from to key : ℕ) (tape : List Item) → Lawful c tape → Stands (Sent key (message from to (Tell p.group p.position e))) tape → Decided (number from) tape
  teller from to key tape l s = lookback c (Decided (number from)) (Sent key (message from to (Tell p.group p.position e))) (λ other before h. inr h) (λ before may. may) tape l s

  giver : (from to key : ℕ) (op : OpId) (tape : List Item) → Lawful c tape → Stands (Sent key (message from to (Have op p.group p.position e))) tape → Decided (number from) tape
  giver from to key op tape l s = lookback c (Decided (number from)) (Sent key (message from to (Have op p.group p.position e))) (λ other before h. inr h) (λ before may. may) tape l s

  cause_covered : (tape : List Item) → Lawful c tape → ((node : NodeId) → Decided node tape → WasCovered c tape p e) → (me : ℕ) → Cause c tape me p e → WasCovered c tape p e
  cause_covered tape l again me (by_own op own h) = record { op = op; moment = tape; earlier = now_is tape; settled = h }
  cause_covered tape l again me (by_news from took) = again (number from) (teller from me took.number tape l took.sent)
  cause_covered tape l again me (by_answer from op took) = again (number from) (giver from me took.number op tape l took.sent)

  longer : (tape : List Item) (item : Item) → WasCovered c tape p e → WasCovered c (item ∷ tape) p e
  longer tape item w = record { op = w.op; moment = w.moment; earlier = one_later w.moment tape item w.earlier; settled = w.settled }

  pub decided_covered : (tape : List Item) → Lawful c tape → AreCaused c tape → (node : NodeId) → Decided node tape → WasCovered c tape p e
  decided_covered [] l k node s = absurd s
  decided_covered (item ∷ before) l k node (inl same) =
      longer before item (cause_covered before l.1 (decided_covered before l.1 k.1) node.0 (subst (IsCaused c before) same k.0))
  decided_covered (item ∷ before) l k node (inr s) = longer before item (decided_covered before l.1 k.1 node s)

  pub stood_covered : (tape : List Item) → Lawful c tape → AreCaused c tape → (node : NodeId) (before : List Item) → StoodOn (Decide node p.group p.position e) before tape → WasCovered c before p e
  stood_covered tape l k node before s =
      let lawful = lawful_before c s.later (Decide node p.group p.position e ∷ before) (subst (Lawful c) s.is l) in
      let caused = caused_before c s.later (Decide node p.group p.position e ∷ before) (subst (AreCaused c) s.is k) in
      cause_covered before lawful.1 (decided_covered before lawful.1 caused.1) node.0 caused.0

pub run_covered : (c : Cluster) (first : Meanings) (events : List Happening) (tape : List Item) → IsRun c first events tape → (node : NodeId) (p : Place) (e : Content) (before : List Item)
    → StoodOn (Decide node p.group p.position e) before tape → WasCovered c before p e
run_covered c first events tape run node p e before s = stood_covered c p e tape (run_lawful c first events tape run) (run_caused c first events tape run) node before s

pub run_decided : (c : Cluster) (first : Meanings) (events : List Happening) (tape : List Item) → IsRun c first events tape → (node : NodeId) (p : Place) (e : Content)
    → Stands (Decide node p.group p.position e) tape → WasCovered c tape p e
run_decided c first events tape run node p e s = decided_covered c p e tape (run_lawful c first events tape run) (run_caused c first events tape run) node s
