use Rattle.std.proofs.Common.{ℕ, ◌≤◌, sym, ◌∙◌, subst}
use Rattle.mega_backup_words.proofs.Results.{if_err_then, if_ok_then}
use Rattle.mega_backup_words.proofs.logs.open.Goals as goal

pub returns-in-Ok-clause-opened : goal.returns-in-Ok-clause-opened
returns-in-Ok-clause-opened g c = if_ok_then c.open_records.result _ _ (λ logs found. (c.in-Ok.store.opened.items, c.in-Ok.ensures.opened, found.0, found.1)) c.open_records.ensures.opened

pub returns-in-Ok-clause-list : goal.returns-in-Ok-clause-list
returns-in-Ok-clause-list g c told = if_ok_then c.open_records.result _ _ (λ logs same. same ∙ c.in-Ok.ensures.list told) c.open_records.ensures.list

pub returns-in-Ok-clause-later : goal.returns-in-Ok-clause-later
returns-in-Ok-clause-later g c = if_ok_then c.open_records.result _ _ (λ logs same. subst (λ (n : ℕ). g.D.Disk.faults c.args.log ≤ n) (sym same) c.in-Ok.ensures.later) c.open_records.ensures.faults

pub returns-in-Ok-clause-bad : goal.returns-in-Ok-clause-bad
returns-in-Ok-clause-bad g c = if_err_then c.open_records.result _ _ (λ refused bad is. (c.in-Ok.store.opened.items, c.in-Ok.ensures.opened, bad is)) c.open_records.ensures.bad

pub returns-in-Ok-clause-bad_list : goal.returns-in-Ok-clause-bad_list
returns-in-Ok-clause-bad_list g c told = if_err_then c.open_records.result _ _ (λ refused same is. same ∙ c.in-Ok.ensures.list told) c.open_records.ensures.bad_list

pub returns-in-Ok-clause-device : goal.returns-in-Ok-clause-device
returns-in-Ok-clause-device g c = if_err_then c.open_records.result _ _ (λ refused other is. absurd (other is)) c.open_records.ensures.device

pub returns-in-Ok-clause-later_err : goal.returns-in-Ok-clause-later_err
returns-in-Ok-clause-later_err g c = if_err_then c.open_records.result _ _ (λ refused same. subst (λ (n : ℕ). g.D.Disk.faults c.args.log ≤ n) (sym same) c.in-Ok.ensures.later) c.open_records.ensures.bad_faults
