use Rattle.std.proofs.Common.{◌∙◌, List, subst, sym, ℕ}
use Rattle.mega_rules.specs.Steps.{onto}
use Rattle.mega_voter.specs.Holding.{HoldsMet, Recalls}
use Rattle.mega_wal.specs.declared.kept.Kept.{Kept}
use Rattle.mega_durable.proofs.down.Down.fuse.Goals as goal

pub returns-clause-state : goal.returns-clause-state
returns-clause-state g c = λ k me starts met owed may. record {
  owes = may.owes;
  recalls = subst (λ (kept : Kept). Recalls kept starts (onto owed met)) (sym c.fuse.ensures.kept) may.recalls;
  ready = c.fuse.ensures.spent ∙ may.ready;
  holds = λ told. subst (λ (records : List (List ℕ)). HoldsMet records starts (onto owed met)) (sym c.fuse.ensures.list) (may.holds told);
  rows = may.rows;
}
