use Rattle.std.proofs.Common.{◌≡◌, ◌∙◌, ap, sym}
use Rattle.mega_operations.specs.Whole.{whole}
use Rattle.mega_read.specs.declared.reading.Move.{Move}
use Rattle.mega_rules.specs.Acting.{ActsAgain, sends_more, visiting}
use Rattle.mega_rules.specs.Steps.{Heard}
use Rattle.mega_pumps.proofs.visiting.visits.Goals as goal

pub returns-in-Ok-clause-begins : goal.returns-in-Ok-clause-begins
returns-in-Ok-clause-begins g c me h now phase tells leased =
    let o = whole c.args.kept phase in
    let picked = c.args.picked in
    sym (
    ap (λ (heard : Heard). ActsAgain (sends_more now heard.sends) heard.operation) (c.visiting.ensures.heard phase c.in-Ok.ensures.visited)
    ∙ ap (λ (made : Move). ActsAgain (sends_more now made.sends) (visiting o picked.group picked.message made)) (c.in-Ok.ensures.made me h now phase tells leased)
    )
