use Rattle.std.proofs.Common.{◌≡◌, ◌∷◌, ◌++◌, [], Err, List, ℕ, Ok, Result, Some, subst, sym}
use Rattle.mega_base.specs.Reading.{whole_of}
use Rattle.mega_wire.specs.declared.message.Message.{Message}
use Rattle.mega_wire.specs.Messages.{message_at}
use Rattle.mega_promises.specs.Served.{Got, given}
use Rattle.mega_page.specs.Lines.{peer_of}
use Rattle.mega_serve.specs.Turns.{Ended, IfSome, Proceeds, brought_by, schema_of, setting_of}
use Rattle.mega_serve.specs.Wishes.{wish_of}
use Rattle.mega_serve.proofs.Ending.{none_received}
use Rattle.mega_page.proofs.Outcomes.{however}
use Rattle.mega_serve.proofs.receiving.receive.Goals as goal

pub returns-in_err-got-clause-front : goal.returns-in_err-got-clause-front
returns-in_err-got-clause-front g c = however _ c.from_residual.result (λ h now serving may.
    let node = c.args.node.now in
    none_received (schema_of g.S.Steps node) _ _ (g.S.Steps.members node) (g.S.Steps.me node) (wish_of (schema_of g.S.Steps node) (g.S.Steps.me node)) h now (peer_of c.args.peer) c.args.bytes.now)

pub returns-clause-front : goal.returns-clause-front
returns-clause-front g c = λ h now serving may.
    let node = c.args.node.now in
    none_received (schema_of g.S.Steps node) _ _ (g.S.Steps.members node) (g.S.Steps.me node) (wish_of (schema_of g.S.Steps node) (g.S.Steps.me node)) h now (peer_of c.args.peer) c.args.bytes.now

pub returns-in-Ok-take_if-clause-gone : goal.returns-in-Ok-take_if-clause-gone
returns-in-Ok-take_if-clause-gone g c = λ h now serving may.
    let node = c.args.node.now in
    let wish = wish_of (schema_of g.S.Steps node) (g.S.Steps.me node) in
    let peer = peer_of c.args.peer in
    let page = c.in_ok-got.ensures (schema_of g.S.Steps node) [] (c.new-page.ensures (schema_of g.S.Steps node)) in
    subst (λ (read : Result Message ℕ). Proceeds g.S.Steps h c.take_if.new.node c.take_if.new.waiting.items (schema_of g.S.Steps node) (g.O.Sink.held c.args.out.now) (g.O.Sink.held c.take_if.new.out) (g.L.Link.sent c.args.link.now) (g.L.Link.sent c.take_if.new.link) now
    (given (g.S.Steps.members node) (g.S.Steps.me node) wish h now (Got peer c.args.bytes.now ∷ []) peer read)) (sym c.in-Ok.ensures.exact)
    (c.in-Ok-take_if.ensures.gone h now (Got peer c.args.bytes.now ∷ []) serving page
    (subst (λ (read : Result Message ℕ). IfSome (g.S.Steps.may_happen (setting_of g.S.Steps node h) now.node) (brought_by (g.S.Steps.me node) wish peer read)) c.in-Ok.ensures.exact may))

pub returns-in-Ok-clause-front : goal.returns-in-Ok-clause-front
returns-in-Ok-clause-front g c = λ h now serving may.
    let node = c.args.node.now in
    let wish = wish_of (schema_of g.S.Steps node) (g.S.Steps.me node) in
    let peer = peer_of c.args.peer in
    let page = c.in_ok-got.ensures (schema_of g.S.Steps node) [] (c.new-page.ensures (schema_of g.S.Steps node)) in
    subst (λ (read : Result Message ℕ). Ended (schema_of g.S.Steps node) (g.O.Sink.held c.args.out.now) (g.O.Sink.held c.take_if.new.out) (g.L.Link.sent c.args.link.now) (g.L.Link.sent c.take_if.new.link) now
    (given (g.S.Steps.members node) (g.S.Steps.me node) wish h now (Got peer c.args.bytes.now ∷ []) peer read)) (sym c.in-Ok.ensures.exact)
    (c.in-Err.ensures.front h now (Got peer c.args.bytes.now ∷ []) serving page
    (subst (λ (read : Result Message ℕ). IfSome (g.S.Steps.may_happen (setting_of g.S.Steps node h) now.node) (brought_by (g.S.Steps.me node) wish peer read)) c.in-Ok.ensures.exact may))

pub returns-in-Ok-only_got-clause-gone : goal.returns-in-Ok-only_got-clause-gone
returns-in-Ok-only_got-clause-gone g c = λ h now serving may.
    let node = c.args.node.now in
    let wish = wish_of (schema_of g.S.Steps node) (g.S.Steps.me node) in
    let peer = peer_of c.args.peer in
    let page = c.in_ok-got.ensures (schema_of g.S.Steps node) [] (c.new-page.ensures (schema_of g.S.Steps node)) in
    let exact = rw c.in-Err-Malformed.field-0-is at c.in-Err-Malformed.ensures.exact in
    subst (λ (read : Result Message ℕ). Proceeds g.S.Steps h node c.args.waiting.now.items (schema_of g.S.Steps node) (g.O.Sink.held c.args.out.now) (g.O.Sink.held c.only_got.new.out) (g.L.Link.sent c.args.link.now) (g.L.Link.sent c.only_got.new.link) now
    (given (g.S.Steps.members node) (g.S.Steps.me node) wish h now (Got peer c.args.bytes.now ∷ []) peer read)) (sym exact)
    (c.in-Ok-only_got.ensures.gone h now c.args.waiting.now.items (Got peer c.args.bytes.now ∷ []) serving page)

pub returns-in-Err-Malformed-clause-front : goal.returns-in-Err-Malformed-clause-front
returns-in-Err-Malformed-clause-front g c = λ h now serving may.
    let node = c.args.node.now in
    let wish = wish_of (schema_of g.S.Steps node) (g.S.Steps.me node) in
    let peer = peer_of c.args.peer in
    let page = c.in_ok-got.ensures (schema_of g.S.Steps node) [] (c.new-page.ensures (schema_of g.S.Steps node)) in
    let exact = rw c.in-Err-Malformed.field-0-is at c.in-Err-Malformed.ensures.exact in
    subst (λ (read : Result Message ℕ). Ended (schema_of g.S.Steps node) (g.O.Sink.held c.args.out.now) (g.O.Sink.held c.only_got.new.out) (g.L.Link.sent c.args.link.now) (g.L.Link.sent c.only_got.new.link) now
    (given (g.S.Steps.members node) (g.S.Steps.me node) wish h now (Got peer c.args.bytes.now ∷ []) peer read)) (sym exact)
    (c.in-Err-only_got.ensures.front h now c.args.waiting.now.items (Got peer c.args.bytes.now ∷ []) serving page)
