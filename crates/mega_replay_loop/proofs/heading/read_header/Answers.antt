use Rattle.std.proofs.Common.{◌≡◌, ◌∙◌, ℕ, Err, ap}
use Rattle.std.specs.Io.KnownBytes.{prepend_known}
use Rattle.mega_header.specs.declared.heading.HeadingFault.TheVariants.{Rule}
use Rattle.mega_replay_loop.proofs.Headings.{header_breaks}
use Rattle.mega_replay_loop.proofs.heading.read_header.Goals as goal

pub returns-in-Err-Rule-clause-broken : goal.returns-in-Err-Rule-clause-broken
returns-in-Err-Rule-clause-broken g c rule is =
    let same : c.in-Err-Rule.rule ≡ rule = cc in
    header_breaks (prepend_known c.args.reader.now (g.I.Source.left c.args.input.now)) rule
    (c.in-Err-Rule.ensures.broken rule (ap Err (c.in-Err-Rule.field-0-is ∙ ap Rule same)))
