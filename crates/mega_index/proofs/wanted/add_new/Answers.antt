use Rattle.std.proofs.Common.{◌∙◌, ap, cond, Some, ℕ, List}
use Rattle.std.specs.BTreeMap.{get}
use Rattle.mega_row_writes.specs.Rows.{key_cmp, same_key}
use Rattle.mega_index.proofs.Wanting.{wanted_new}
use Rattle.mega_index.proofs.wanted.add_new.Goals as goal

pub returns-clause-kept : goal.returns-clause-kept
returns-clause-kept c =
    wanted_new c.args.wanted.now c.insert-2.new.self c.args.group.now c.insert.new.self c.requires
    (λ q. c.in_ok-insert-2.ensures.updates.0 q ∙ ap (λ (k : List ℕ). cond (same_key k q) (Some c.insert.new.self) (get key_cmp c.args.wanted.now q)) c.in_ok-own.ensures)
