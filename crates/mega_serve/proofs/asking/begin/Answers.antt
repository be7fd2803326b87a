use Rattle.std.proofs.Common.{◌∷◌, ◌++◌, ◌∙◌, [], List, ap, map, subst, sym}
use Rattle.std.proofs.lemmas.List.{map-append}
use Rattle.mega_schema.specs.declared.schema.Schema.{Schema}
use Rattle.mega_transcript.specs.declared.item.Item.TheVariants.{Begin as BeginItem}
use Rattle.mega_promises.specs.Served.{Asks, Noted, Served, Waiting}
use Rattle.mega_page.specs.Pages.{IsPage}
use Rattle.mega_serve.specs.Replies.{waiting_of}
use Rattle.mega_serve.specs.Turns.{Ended, Proceeds, schema_of}
use Rattle.mega_serve.proofs.Ending.{no_wish}
use Rattle.mega_serve.proofs.Stepped.{wished_asks}
use Rattle.mega_serve.proofs.asking.begin.Goals as goal

pub returns-in-Err-clause-front : goal.returns-in-Err-clause-front
returns-in-Err-clause-front g c = λ h now got serving page may.
    let node = c.args.node.now in
    no_wish (schema_of g.S.Steps node) _ _ (g.S.Steps.members node) (g.S.Steps.me node) h now got c.args.client c.args.token (Asks c.args.ask.request c.args.ask.text)

pub returns-in-Ok-step-clause-gone : goal.returns-in-Ok-step-clause-gone
returns-in-Ok-step-clause-gone g c = λ h now got serving page may.
    let node = c.args.node.now in
    let op = c.next_op-op.result in
    let own = got ++ Noted (BeginItem op c.args.ask.text) ∷ [] in
    let begun = subst (λ (schema : Schema). IsPage schema c.await_begun.new.page own) c.schema.ensures (c.in-Ok.ensures.page got (subst (λ (schema : Schema). IsPage schema c.args.page got) (sym c.schema.ensures) page)) in
    wished_asks (λ (end : Served). Proceeds g.S.Steps h c.step.new.node c.step.new.waiting.items (schema_of g.S.Steps node) (g.O.Sink.held c.args.out.now) (g.O.Sink.held c.step.new.out) (g.L.Link.sent c.args.link.now) (g.L.Link.sent c.step.new.link) now end)
    (g.S.Steps.members node) (g.S.Steps.me node) h now got c.args.client c.args.token c.args.ask.request c.args.ask.text op (map waiting_of c.await_begun.new.waiting.items) c.requires.named (c.next_op-op.ensures h now.node now.journal serving.at)
    (ap (map waiting_of) c.in-Ok.ensures.waiting ∙ map-append waiting_of c.args.waiting.now.items ((record { op = op; client = c.args.client; token = c.args.token }) ∷ []) ∙ ap (λ (front : List Waiting). front ++ (record { op = op; client = c.args.client; token = c.args.token }) ∷ []) serving.waits)
    (c.in-Ok-step.ensures.gone h now own serving.at begun may)

pub returns-in-Err-step-clause-front : goal.returns-in-Err-step-clause-front
returns-in-Err-step-clause-front g c = λ h now got serving page may.
    let node = c.args.node.now in
    let op = c.next_op-op.result in
    let own = got ++ Noted (BeginItem op c.args.ask.text) ∷ [] in
    let begun = subst (λ (schema : Schema). IsPage schema c.await_begun.new.page own) c.schema.ensures (c.in-Ok.ensures.page got (subst (λ (schema : Schema). IsPage schema c.args.page got) (sym c.schema.ensures) page)) in
    wished_asks (λ (end : Served). Ended (schema_of g.S.Steps node) (g.O.Sink.held c.args.out.now) (g.O.Sink.held c.step.new.out) (g.L.Link.sent c.args.link.now) (g.L.Link.sent c.step.new.link) now end)
    (g.S.Steps.members node) (g.S.Steps.me node) h now got c.args.client c.args.token c.args.ask.request c.args.ask.text op (map waiting_of c.await_begun.new.waiting.items) c.requires.named (c.next_op-op.ensures h now.node now.journal serving.at)
    (ap (map waiting_of) c.in-Ok.ensures.waiting ∙ map-append waiting_of c.args.waiting.now.items ((record { op = op; client = c.args.client; token = c.args.token }) ∷ []) ∙ ap (λ (front : List Waiting). front ++ (record { op = op; client = c.args.client; token = c.args.token }) ∷ []) serving.waits)
    (c.in-Err-step.ensures.front h now own serving.at begun may)
