use Rattle.std.proofs.Common.{ℕ, List, take, ◌∙◌, subst}
use Rattle.std.specs.Prelude.{OnErr}
use Rattle.std.specs.Io.KnownBytes.{Appends}
use Rattle.mega_io.specs.Pieces.{AppendsFront}
use Rattle.mega_gen.specs.Pages.{text_of}
use Rattle.mega_gen.specs.Blocks.{blocks}
use Rattle.mega_gen.specs.Generated.{header, generated}
use Rattle.mega_gen.proofs.Streams.{front_behind, front_first, on_err}
use Rattle.mega_gen.proofs.writing.generate.Goals as goal

pub returns-in-Ok-put-clause-err : goal.returns-in-Ok-put-clause-err
returns-in-Ok-put-clause-err g c =
    let start = g.O.Sink.held c.args.out.now in
    let held = g.O.Sink.held c.put.new.sink in
    let after = g.O.Sink.held c.put_lines.new.out in
    let nodes = c.from-nodes.result in
    let lines = text_of (take c.args.count (blocks c.args.count nodes 1 c.args.seed)) in
    let P : ℕ → Type 0 = λ n. OnErr c.put_lines.result (AppendsFront start after (generated c.args.seed c.args.count n)) in
    subst P c.from-nodes.ensures (on_err c.put_lines.result (front_behind start held after (header nodes) lines (subst (λ (bytes : List ℕ). Appends start held bytes) (c.as_bytes.ensures.value ∙ c.in-Ok.ensures) c.in-Ok-put.ensures.ok)) c.put_lines.ensures.err)

pub returns-clause-err : goal.returns-clause-err
returns-clause-err g c =
    let start = g.O.Sink.held c.args.out.now in
    let held = g.O.Sink.held c.put.new.sink in
    let nodes = c.from-nodes.result in
    let lines = text_of (take c.args.count (blocks c.args.count nodes 1 c.args.seed)) in
    let P : ℕ → Type 0 = λ n. AppendsFront start held (generated c.args.seed c.args.count n) in
    subst P c.from-nodes.ensures (front_first start held (header nodes) lines (subst (λ (bytes : List ℕ). AppendsFront start held bytes) (c.as_bytes.ensures.value ∙ c.in-Ok.ensures) c.in-Err-put.ensures.err))
