use Rattle.std.proofs.Common.{◌∷◌, [], List, map, subst}
use Rattle.mega_transcript.specs.declared.item.Item.TheVariants.{Tick as TickItem}
use Rattle.mega_rules.specs.Met.{Ticks}
use Rattle.mega_rules.specs.Steps.{Tick, step}
use Rattle.mega_promises.specs.Items.{number}
use Rattle.mega_promises.specs.Served.{Noted, Waiting, noted, recorded}
use Rattle.mega_page.specs.Pages.{IsPage}
use Rattle.mega_serve.specs.Turns.{Ended, Proceeds, schema_of, setting_of}
use Rattle.mega_serve.proofs.Ending.{none_recorded}
use Rattle.mega_serve.proofs.turning.tick.Goals as goal

pub returns-in-Err-clause-front : goal.returns-in-Err-clause-front
returns-in-Err-clause-front g c = λ h was serving may.
    let node = c.args.node.now in
    none_recorded (schema_of g.S.Steps node) _ _ (g.S.Steps.members node) (g.S.Steps.me node) was (noted (g.S.Steps.me node) (Ticks c.args.now ∷ [])) was.waiting (step (setting_of g.S.Steps node h) was.node (Tick c.args.now))

pub returns-in-Ok-step-clause-gone : goal.returns-in-Ok-step-clause-gone
returns-in-Ok-step-clause-gone g c = λ h was serving may.
    let node = c.args.node.now in
    let page = coe 0 1 (i. IsPage (c.schema.ensures i) c.note_tick.new.page (Noted (TickItem (number (c.number.ensures.number i)) c.args.now) ∷ [])) (c.in-Ok.ensures [] (c.new-page.ensures c.schema.result.now)) in
    subst (λ (waiting : List Waiting). Proceeds g.S.Steps h c.step.new.node c.step.new.waiting.items (schema_of g.S.Steps node) (g.O.Sink.held c.args.out.now) (g.O.Sink.held c.step.new.out) (g.L.Link.sent c.args.link.now) (g.L.Link.sent c.step.new.link) was
    (recorded (g.S.Steps.members node) (g.S.Steps.me node) was (noted (g.S.Steps.me node) (Ticks c.args.now ∷ [])) waiting (step (setting_of g.S.Steps node h) was.node (Tick c.args.now)))) serving.waits
    (c.in-Ok-step.ensures.gone h was (Noted (TickItem (number (g.S.Steps.me node)) c.args.now) ∷ []) serving.at page may)

pub returns-in-Err-step-clause-front : goal.returns-in-Err-step-clause-front
returns-in-Err-step-clause-front g c = λ h was serving may.
    let node = c.args.node.now in
    let page = coe 0 1 (i. IsPage (c.schema.ensures i) c.note_tick.new.page (Noted (TickItem (number (c.number.ensures.number i)) c.args.now) ∷ [])) (c.in-Ok.ensures [] (c.new-page.ensures c.schema.result.now)) in
    subst (λ (waiting : List Waiting). Ended (schema_of g.S.Steps node) (g.O.Sink.held c.args.out.now) (g.O.Sink.held c.step.new.out) (g.L.Link.sent c.args.link.now) (g.L.Link.sent c.step.new.link) was
    (recorded (g.S.Steps.members node) (g.S.Steps.me node) was (noted (g.S.Steps.me node) (Ticks c.args.now ∷ [])) waiting (step (setting_of g.S.Steps node h) was.node (Tick c.args.now)))) serving.waits
    (c.in-Err-step.ensures.front h was (Noted (TickItem (number (g.S.Steps.me node)) c.args.now) ∷ []) serving.at page may)
