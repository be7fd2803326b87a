use Rattle.std.proofs.Common.{◌≡◌, ℕ, List, [], ◌∷◌, ◌+◌, ◌-◌, ◌≤◌, length, sym, subst}
use Rattle.std.specs.Io.KnownBytes.{prepend_known}
use Rattle.mega_header.specs.Known.{Passes, IfKnown}
use Rattle.mega_backup_words.specs.Inputs.{lines_within}
use Rattle.mega_backup_words.proofs.Within.{feed_past, feed_reads, last_reads, long_past, none_reads}
use Rattle.mega_backup_words.proofs.lines.next_line.Goals as goal

pub returns-in-Ok-Feed-clause-line : goal.returns-in-Ok-Feed-clause-line
returns-in-Ok-Feed-clause-line g c is =
    let room = c.args.room in
    let old = prepend_known c.args.reader.now (g.I.Source.left c.args.input.now) in
    let new = prepend_known c.next_line.new.self (g.I.Source.left c.next_line.new.source) in
    let kept = c.ended_line.ensures.line cc in (
      subst (λ (xs : List ℕ). length xs + 1 ≤ room) (sym kept.1) kept.0,
      subst (λ (xs : List ℕ). Passes old new (λ old new. lines_within room old ≡ xs ∷ lines_within (room - (length xs + 1)) new)) (sym kept.1)
          (feed_reads room old new c.next_line.new.line (rw c.in-Ok-Feed.field-0-is at c.in-Ok-Feed.ensures.line) kept.0),
    )

pub returns-in-Ok-Feed-clause-last : goal.returns-in-Ok-Feed-clause-last
returns-in-Ok-Feed-clause-last g c is =
    let room = c.args.room in
    let old = prepend_known c.args.reader.now (g.I.Source.left c.args.input.now) in
    let new = prepend_known c.next_line.new.self (g.I.Source.left c.next_line.new.source) in
    let past = c.ended_line.ensures.last cc in
    subst (λ (xs : List ℕ). IfKnown old (λ old. lines_within room old ≡ xs ∷ [])) (sym past.1)
    (feed_past room old new c.next_line.new.line (rw c.in-Ok-Feed.field-0-is at c.in-Ok-Feed.ensures.line) past.0)

pub returns-in-Ok-Input-clause-last : goal.returns-in-Ok-Input-clause-last
returns-in-Ok-Input-clause-last g c is = last_reads c.args.room _ _ c.next_line.new.line (rw c.in-Ok-Input.field-0-is at c.in-Ok-Input.ensures.line) (c.last_line.ensures.last cc)

pub returns-in-Ok-Input-clause-end : goal.returns-in-Ok-Input-clause-end
returns-in-Ok-Input-clause-end g c is = none_reads c.args.room _ _ c.next_line.new.line (rw c.in-Ok-Input.field-0-is at c.in-Ok-Input.ensures.line) (c.last_line.ensures.end cc)

pub returns-in-Ok-Long-clause-last : goal.returns-in-Ok-Long-clause-last
returns-in-Ok-Long-clause-last g c is =
    let room = c.args.room in
    let old = prepend_known c.args.reader.now (g.I.Source.left c.args.input.now) in
    let new = prepend_known c.next_line.new.self (g.I.Source.left c.next_line.new.source) in
    subst (λ (xs : List ℕ). IfKnown old (λ old. lines_within room old ≡ xs ∷ [])) (sym c.clear.ensures) (long_past room old new c.next_line.new.line (rw c.in-Ok-Long.field-0-is at c.in-Ok-Long.ensures.line))
