use Rattle.std.proofs.Common.{◌+◌, ◌<◌, ℕ, List, arith, subst}
use Rattle.std.specs.Io.KnownBytes.{Appends}
use Rattle.mega_io.specs.Pieces.{AppendsFront}
use Rattle.mega_gen.proofs.Streams.{to_write, block_written, page_less, wrote_on, wrote_front, wrote_no_more}
use Rattle.mega_gen.proofs.writing.put_lines.Goals as goal

pub returns-in-Err-clause-err : goal.returns-in-Err-clause-err
returns-in-Err-clause-err g c =
    wrote_no_more (g.O.Sink.held c.args.out.now) (g.O.Sink.held c.loop-page.out) (to_write c.args.count c.args.nodes 0 c.args.seed) (to_write c.loop-page.page.left c.args.nodes c.loop-page.now c.loop-page.state) c.loop-page.invariant.0

pub loop-page-preserved : goal.loop-page-preserved
loop-page-preserved g c =
    let start = g.O.Sink.held c.args.out.now in
    let held = g.O.Sink.held c.loop-page.out in
    let after = g.O.Sink.held c.put.new.sink in
    let whole = to_write c.args.count c.args.nodes 0 c.args.seed in
    let left = c.loop-page.page.left in
    let page = c.add_block.new.page in
    let written = block_written start held whole left c.args.nodes c.loop-page.now c.loop-page.state c.in-Ok.after page c.clear.new.self c.clear.ensures c.loop-page-test.true c.in-Ok.ensures.lines c.in-Ok.ensures.state c.loop-page.invariant.0 in
    let less : page.left < left = page_less left c.args.nodes (c.loop-page.now + 1) c.loop-page.state page c.clear.new.self c.loop-page-test.true c.in-Ok.ensures.lines in (
      wrote_on start held after whole page.bytes (to_write page.left c.args.nodes (c.loop-page.now + 1) c.in-Ok.after) written (subst (λ (bytes : List ℕ). Appends held after bytes) c.as_slice.ensures c.in-Ok-put.ensures.ok),
      omega (arith, c.loop-page.invariant.1, c.put.ensures.count),
      omega (arith, c.loop-page.invariant.2, less),
    )

pub returns-in-Err-put-clause-err : goal.returns-in-Err-put-clause-err
returns-in-Err-put-clause-err g c =
    let start = g.O.Sink.held c.args.out.now in
    let held = g.O.Sink.held c.loop-page.out in
    let after = g.O.Sink.held c.put.new.sink in
    let whole = to_write c.args.count c.args.nodes 0 c.args.seed in
    let page = c.add_block.new.page in
    let written = block_written start held whole c.loop-page.page.left c.args.nodes c.loop-page.now c.loop-page.state c.in-Ok.after page c.clear.new.self c.clear.ensures c.loop-page-test.true c.in-Ok.ensures.lines c.in-Ok.ensures.state c.loop-page.invariant.0 in
    wrote_front start held after whole page.bytes (to_write page.left c.args.nodes (c.loop-page.now + 1) c.in-Ok.after) written (subst (λ (bytes : List ℕ). AppendsFront held after bytes) c.as_slice.ensures c.in-Err-put.ensures.err)
