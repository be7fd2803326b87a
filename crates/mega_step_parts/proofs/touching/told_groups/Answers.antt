use Rattle.std.proofs.Common.{◌∙◌, Bool, [], ap, sym}
use Rattle.mega_node_laws.specs.Acted.{or_settled}
use Rattle.mega_rules.specs.Steps.{first_settled, told_decision}
use Rattle.mega_step_parts.specs.Touching.{told_groups}
use Rattle.mega_step_parts.proofs.Groups.{groups_told}
use Rattle.mega_step_parts.proofs.touching.told_groups.Goals as goal

pub returns : goal.returns
returns g c met tells =
    let d = or_settled (told_decision c.args.body.now) (first_settled c.args.heard.now) in
    c.in_ok-told.ensures [] c.new.ensures ∙ groups_told d ∙ ap (λ (t : Bool). told_groups t met d) (sym c.if-all.false)
