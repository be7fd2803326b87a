use Rattle.std.proofs.Common.{◌∙◌, subst, None}
use Rattle.std.specs.Option.{option_copied}
use Rattle.mega_index.specs.declared.held.Held.{Held}
use Rattle.mega_index.specs.Marks.{held_rows}
use Rattle.mega_index.specs.Forgetting.{OnlyRow}
use Rattle.mega_index.proofs.Ordered.{ascends-sorted}
use Rattle.mega_index.proofs.Forgetting.{only_rows, same_some, some_none}
use Rattle.mega_index.proofs.forget.row_at.Goals as goal

pub returns-in-Some : goal.returns-in-Some
returns-in-Some c =
    let groups = c.args.groups.now.entries in
    only_rows c.args.group.now c.args.key.now _ groups (ascends-sorted groups c.len.ensures.ordered)
    (λ held there. subst (λ (h : Held). OnlyRow c.args.key.now (option_copied c.row_in.result) (held_rows h.rows.entries)) (same_some c.in-Some.held.now held (c.in-Some.ensures.value ∙ there)) c.row_in.ensures)

pub returns-in-None : goal.returns-in-None
returns-in-None c =
    let groups = c.args.groups.now.entries in
    only_rows c.args.group.now c.args.key.now None groups (ascends-sorted groups c.len.ensures.ordered)
    (λ held there. absurd (some_none held (c.in-None.ensures.value ∙ there)))
