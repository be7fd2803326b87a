use Rattle.mega_rules.specs.Steps.{onto}
use Rattle.mega_places.proofs.Anew.{opened_over}
use Rattle.mega_places.proofs.fallen.Fallen.start.Goals as goal

pub started-requires-clause-flushed : goal.started-requires-clause-flushed
started-requires-clause-flushed c =
    let known = c.requires.known in
    (c.in-Ok.ensures.stands c.args.cluster c.args.me known.starts (onto known.owed known.met) known.is.holds known.is.ready).empty

pub returns-in-Ok-started-clause-begun : goal.returns-in-Ok-started-clause-begun
returns-in-Ok-started-clause-begun c starts owed met fuse is =
    c.in-Ok-started.ensures.begun starts owed met fuse (opened_over c.args.cluster c.args.me c.args.self c.in-Ok.down starts owed met fuse is (c.in-Ok.ensures.stands c.args.cluster c.args.me starts (onto owed met)) c.in-Ok.ensures.list c.in-Ok.ensures.fuse c.in-Ok.ensures.image)

pub returns-in-Err-started-clause-cut : goal.returns-in-Err-started-clause-cut
returns-in-Err-started-clause-cut c fallen same starts owed met fuse is =
    c.in-Err-started.ensures.cut fallen same starts owed met fuse (opened_over c.args.cluster c.args.me c.args.self c.in-Ok.down starts owed met fuse is (c.in-Ok.ensures.stands c.args.cluster c.args.me starts (onto owed met)) c.in-Ok.ensures.list c.in-Ok.ensures.fuse c.in-Ok.ensures.image)

pub returns-in-Err-started-clause-limit : goal.returns-in-Err-started-clause-limit
returns-in-Err-started-clause-limit c limit starts owed met fuse is =
    c.in-Err-started.ensures.limit limit starts owed met fuse (opened_over c.args.cluster c.args.me c.args.self c.in-Ok.down starts owed met fuse is (c.in-Ok.ensures.stands c.args.cluster c.args.me starts (onto owed met)) c.in-Ok.ensures.list c.in-Ok.ensures.fuse c.in-Ok.ensures.image)
