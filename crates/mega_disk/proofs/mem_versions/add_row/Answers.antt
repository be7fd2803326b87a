use Rattle.std.proofs.Common.{ℕ, List, ◌∷◌, ◌++◌, take, drop, ◌∙◌, subst}
use Rattle.mega_base.specs.declared.values.Row.{Row}
use Rattle.mega_disk.specs.MemVersions.{IsPlaceFor}
use Rattle.mega_disk.proofs.Rows.{adds}
use Rattle.mega_disk.proofs.mem_versions.add_row.Goals as goal

pub returns-in_ok-insert : goal.returns-in_ok-insert
returns-in_ok-insert c =
    let rows = c.args.rows.now.items in
    let place = c.in-Some.place in
    adds rows c.insert.new.self.items c.args.key.now c.args.row.now place (subst (λ (l : List (List ℕ × Row)). IsPlaceFor l c.args.key.now place) c.as_slice.ensures.value c.in-Some.ensures.place)
    (c.in_ok-insert.ensures.items ∙ (λ i. take place rows ++ (c.in_ok-key.ensures i, c.in_ok-row.ensures i) ∷ drop place rows))
