use Rattle.std.proofs.Common.{◌∙◌, ◌++◌, List, ap, arith, sym, take}
use Rattle.std.proofs.lemmas.List.{append_assoc}
use Rattle.mega_entry.specs.declared.content.Content.{Content}
use Rattle.mega_rules.specs.Logs.{log_of}
use Rattle.mega_marks.specs.Marked.{some_of}
use Rattle.mega_marks.proofs.Taking.{take_next}
use Rattle.mega_marks.proofs.entries.entries_between.Goals as goal

pub loop-before-preserved : goal.loop-before-preserved
loop-before-preserved g c met tells order le =
    let n = c.loop-before.before in
    let group = c.args.group.now in
    let first = take c.args.from (log_of met group) in
    ap (λ (entries : List Content). first ++ entries) c.in_ok-add.ensures
    ∙ sym (append_assoc first c.loop-before.entries.items (some_of _))
    ∙ (λ i. c.loop-before.invariant met tells order le i ++ some_of (c.decided.ensures met tells i))
    ∙ sym (take_next met group n (omega (arith, le)))
