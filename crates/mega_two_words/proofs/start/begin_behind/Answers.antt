use Rattle.std.proofs.Common.{◌≡◌, ◌∙◌, ap, rules}
use Rattle.std.specs.Io.KnownBytes.{prepend_known}
use Rattle.mega_io.specs.TextLines.{lines_of}
use Rattle.mega_two_driver.specs.Driver.{begun}
use Rattle.mega_two_words.specs.Inputs.{IsLine, first_of, or_refused}
use Rattle.mega_two_words.proofs.Lines.{same_begun}
use Rattle.mega_two_words.proofs.Results.{told_so}
use Rattle.mega_two_words.proofs.start.begin_behind.Goals as goal

pub returns-clause-marked : goal.returns-clause-marked
returns-clause-marked g c marked =
    let s = c.args.schema.now in
    let line = c.read_line.new.line in
    let first : c.in_ok-first.first ≡ or_refused (begun s line) = search rules in
    told_so (prepend_known c.args.reader.now (g.I.Source.left c.args.input.now)) (λ left. IsLine line (first_of (lines_of left))) (λ left. c.in_ok-first.first ≡ or_refused (begun s (first_of (lines_of left))))
    (λ left same. first ∙ ap or_refused (same_begun s line (first_of (lines_of left)) same)) c.in_ok-read_line.ensures.read
