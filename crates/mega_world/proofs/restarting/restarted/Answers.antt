use Rattle.std.proofs.Common.{Err, ap, subst, sym, ◌∙◌}
use Rattle.mega_places.specs.declared.place.Place.TheVariants.{Down, Up}
use Rattle.mega_world.specs.Restarting.{Opens, StaysDown}
use Rattle.mega_world.proofs.Again.{begins_at, stays_at}
use Rattle.mega_world.proofs.restarting.restarted.Goals as goal

pub returns-in-Ok-clause-reopens : goal.returns-in-Ok-clause-reopens
returns-in-Ok-clause-reopens c now was all most same is =
    let me = c.args.me in
    let begun = c.in-Ok.begun in
    subst (λ ps. Opens c.args.cluster now me ps (record { start = begun.start; owed = begun.owed; notes = begun.notes })) (sym (c.put_place.ensures ∙ same (Up begun.member)))
    (begins_at c.args.cluster now me was c.args.fallen begun all c.requires.least most is (c.in-Ok.ensures.begun (now.starts me) (now.owed me) (now.node me).met (now.log_fuse me) is))

pub returns-in-Err-Cut-clause-reopens : goal.returns-in-Err-Cut-clause-reopens
returns-in-Err-Cut-clause-reopens c now was all most same is =
    let me = c.args.me in
    subst (λ ps. StaysDown c.args.cluster now me ps) (sym (c.put_place-in-Err-Cut.ensures ∙ same (Down c.in-Err-Cut.fallen)))
    (stays_at c.args.cluster now me was c.args.fallen c.in-Err-Cut.fallen all c.requires.least most is (c.in-Err-Cut.ensures.cut c.in-Err-Cut.fallen c.in-Err-Cut.field-0-is (now.starts me) (now.owed me) (now.node me).met (now.log_fuse me) is))

pub returns-in-Err-Limit-clause-limit : goal.returns-in-Err-Limit-clause-limit
returns-in-Err-Limit-clause-limit c limit starts owed met fuse is = c.in-Err-Limit.ensures.limit (ap Err c.in-Err-Limit.field-0-is) starts owed met fuse is
