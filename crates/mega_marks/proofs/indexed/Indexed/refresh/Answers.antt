use Rattle.std.proofs.Common.{◌∙◌, sym, subst}
use Rattle.mega_rules.specs.Finding.{refreshed_marks}
use Rattle.mega_marks.specs.AreMarked.{AreAt, MayMove}
use Rattle.mega_marks.specs.Marked.{AreWithin, Ascend}
use Rattle.mega_marks.proofs.Applied.{applied_are_within, applied_ascend}
use Rattle.mega_marks.proofs.indexed.Indexed.refresh.Goals as goal

pub returns-clause-marked : goal.returns-clause-marked
returns-clause-marked g c now tells follows are =
    let schema = c.args.schema.now in
    let is = c.in_ok-marks.ensures now tells follows in
    let all = c.as_slice-2.ensures ∙ is in
    let may = subst (MayMove schema c.leads_to.new.self.index now.met) (c.as_slice.ensures ∙ sym c.as_slice-2.ensures) (c.leads_to.ensures schema now.met (refreshed_marks now.met) are) in
    let moved = c.in_ok-all_move.ensures now.met tells (subst Ascend (sym all) (applied_ascend now)) (subst (AreWithin now.met) (sym all) (applied_are_within now)) may in
    record { at = subst (AreAt schema c.all_move.new.index now.met) all moved; shown = is }
