use Rattle.std.proofs.Common.{List, sym, ◌∙◌, ap}
use Rattle.mega_disk.specs.declared.changes.Change.{Change}
use Rattle.mega_disk.specs.Changes.{all_undone}
use Rattle.mega_disk.proofs.Changed.{all_undone-push}
use Rattle.mega_disk.proofs.changes.undo_all.Goals as goal

pub loop-change-preserved : goal.loop-change-preserved
loop-change-preserved c =
    ap (all_undone c.pop.new.self.items) c.undo.ensures
    ∙ sym (all_undone-push c.pop.new.self.items c.in-Some.change c.loop-change.content.items)
    ∙ ap (λ (l : List Change). all_undone l c.loop-change.content.items) (sym c.in-Some.ensures.items)
    ∙ c.loop-change.invariant
