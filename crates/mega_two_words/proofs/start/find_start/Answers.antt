use Rattle.std.proofs.Common.{◌≡◌, Err, ap, refl}
use Rattle.mega_two_words.proofs.Results.{if_ok_by, if_ok_then}
use Rattle.mega_two_words.proofs.Starts.{broken, started}
use Rattle.mega_two_words.proofs.start.find_start.Goals as goal

pub returns-in-Ok-clause-started : goal.returns-in-Ok-clause-started
returns-in-Ok-clause-started g c =
    let heading = c.in-Ok.heading in
    if_ok_by heading.marked c.start_behind.result _ _ _ c.start_behind.ensures.marked c.start_behind.ensures.unmarked (λ first told untold.
    started c.args.number _ _ (g.I.Source.left c.args.input.now) _ heading.cluster heading.marked first c.in_ok-reader.ensures c.in-Ok.ensures.marked c.in-Ok.ensures.unmarked told untold)

pub returns-clause-started : goal.returns-clause-started
returns-clause-started g c =
    if_ok_then c.header_ended.result _ _ (λ first is. broken c.args.number _ _ (g.I.Source.left c.args.input.now) is.0 first c.in_ok-reader.ensures (c.in-Err.ensures.broken is.0 (ap Err is.1)) is.2) c.header_ended.ensures.rule
