use Rattle.std.proofs.Common.{◌≡◌, ◌∙◌, ◌++◌, All, ap, drop, map, subst, take}
use Rattle.mega_rules.specs.Steps.{hears_message}
use Rattle.mega_step_parts.specs.Listening.{IsPassedBy, unheard}
use Rattle.mega_step_parts.proofs.Parted.{all_heard}
use Rattle.mega_step_parts.proofs.hearing.all_hear.Goals as goal

pub returns : goal.returns
returns c s is =
    let m = c.args.message.now in
    let hears = hears_message s c.args.clock m in
    let os = c.args.operations in
    let n = c.passed_by-count.result in
    let whole : c.into_vec-unmoved.result.items ≡ os = c.into_vec-unmoved.ensures in
    let passed = subst (λ xs. All (IsPassedBy m.body) (take n xs)) (c.as_slice.ensures.value ∙ whole) c.passed_by-count.ensures.each in
    let front : c.from_vec.result ≡ take n os = c.from_vec.ensures ∙ (c.in_ok-rest.ensures.items ∙ ap (take n) whole) in
    let others : c.in_ok-heard.heard ≡ map hears (drop n os) = c.in_ok-heard.ensures s is ∙ ap (map hears) (c.in_ok-rest.ensures.tail ∙ ap (drop n) whole) in
    (λ i. map unheard (front i) ++ others i) ∙ all_heard s c.args.clock m n os passed
