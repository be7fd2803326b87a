-- A pump that enters: its message where it is new to the log, and else it picks again.
use Rattle.std.proofs.Common.{◌≡◌, ◌∙◌, ℕ, Bool, true, false, if◌then◌else◌, List, [], take, Some, ap, sym}
use Rattle.mega_base.specs.declared.names.GroupId.{GroupId}
use Rattle.mega_base.specs.declared.names.OpId.{OpId}
use Rattle.mega_entry.specs.declared.content.Enter.{Enter}
use Rattle.mega_read.specs.declared.reading.Reading.{Reading}
use Rattle.mega_read.specs.Catching.{asked_by}
use Rattle.mega_rules.specs.Acting.{Rests, enters, picks_to_enter, proposes}
use Rattle.mega_rules.specs.Logs.{log_of}
use Rattle.mega_rules.specs.Operations.{Now, Operation, Replies, Setting}
use Rattle.mega_rules.specs.Queues.{enter_entry, is_named, names_entered}

module _ (s : Setting) (now : Now) (o : Operation) (group : GroupId) (r : Reading) (p : ℕ) (message : Enter) (entered : Bool)
    (is : entered ≡ is_named message.name (names_entered (take p (log_of now.met group)))) where
  by : (t : Bool) → entered ≡ t → (if t then picks_to_enter s now o (asked_by r) else Rests (proposes s now o group r p (enter_entry o.id message) (Replies []))) ≡ enters s now o group r p (Some message)
  by t known = ap (λ (b : Bool). if b then picks_to_enter s now o (asked_by r) else Rests (proposes s now o group r p (enter_entry o.id message) (Replies []))) (sym known ∙ is)

  pub enters_known : entered ≡ true → picks_to_enter s now o (asked_by r) ≡ enters s now o group r p (Some message)
  enters_known known = by true known

  pub enters_new : (op : OpId) → entered ≡ false → o.id ≡ op → Rests (proposes s now o group r p (enter_entry op message) (Replies [])) ≡ enters s now o group r p (Some message)
  enters_new op new same = ap (λ (id : OpId). Rests (proposes s now o group r p (enter_entry id message) (Replies []))) (sym same) ∙ by false new
