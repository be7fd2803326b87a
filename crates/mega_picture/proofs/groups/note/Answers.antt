use Rattle.std.proofs.Common.{List, ℕ, subst, Some}
use Rattle.std.specs.Ordering.{nat_cmp}
use Rattle.std.specs.Cmp.Lexicographic.{slice_cmp}
use Rattle.std.specs.BTreeMap.{Updates}
use Rattle.mega_schema.proofs.Naming.{noted_new}
use Rattle.mega_picture.proofs.groups.note.Goals as goal

pub returns-in_ok-insert : goal.returns-in_ok-insert
returns-in_ok-insert c =
    let P : List ℕ → Type 0 = λ name. Updates (slice_cmp nat_cmp) c.args.numbers.now c.insert.new.self name (Some c.args.number) in
    noted_new c.args.numbers.now c.args.key.now c.args.number c.contains_key.result c.contains_key.ensures c.insert.new.self c.if-not-contains_key.true (subst P c.in_ok-copy.ensures c.in_ok-insert.ensures.updates)
