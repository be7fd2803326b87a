use Rattle.std.proofs.Common.{◌≡◌, ℕ, List, ◌+◌, ◌≤◌, length, Ok, Err, ap, sym, subst, arith}
use Rattle.std.specs.Io.KnownBytes.{prepend_known}
use Rattle.mega_header.specs.declared.heading.HeadingFault.TheVariants.{Source}
use Rattle.mega_header.specs.Known.{Takes}
use Rattle.mega_header.proofs.Headers.{header_fails, mark_few, takes_all}
use Rattle.mega_header.proofs.text.read_text.Goals as goal

pub returns-in-Ok-Mark-clause-taken : goal.returns-in-Ok-Mark-clause-taken
returns-in-Ok-Mark-clause-taken g c is =
    let first = prepend_known c.args.reader.now (g.I.Source.left c.args.input.now) in
    let old = prepend_known c.loop.reader (g.I.Source.left c.loop.input) in
    let new = prepend_known c.next_part.new.reader (g.I.Source.left c.next_part.new.input) in
    let same = c.in-Ok-Mark.ensures.same (ap Ok c.in-Ok-Mark.field-0-is) in
    let last = c.in-Ok-Mark.ensures.taken (ap Ok c.in-Ok-Mark.field-0-is) in
    let line = c.next_part.new.line in
    let count : length c.loop.text + (length line + 1) ≡ length c.next_part.new.text + length line + 1 = omega (arith, ap length same) in (
      subst (λ (xs : List ℕ). length xs ≤ 262144) (sym same) c.loop.invariant.2,
      mark_few line last.0,
      subst (Takes first new) count (takes_all first old new c.loop.text (length line + 1) c.loop.invariant.0 last.1),
    )

pub returns-in-Err-clause-fault : goal.returns-in-Err-clause-fault
returns-in-Err-clause-fault g c is =
    let fault_is : c.in-Err.fault ≡ Source = cc in
    header_fails (prepend_known c.args.reader.now (g.I.Source.left c.args.input.now)) (prepend_known c.loop.reader (g.I.Source.left c.loop.input)) (g.I.Source.left c.next_part.new.input) c.loop.text c.next_part.new.line c.next_part.new.reader c.loop.invariant.0
    (c.in-Err.ensures.fault (ap Err fault_is))
