use Rattle.mega_serve.specs.Turns.{schema_of}
use Rattle.mega_serve.specs.Wishes.{wish_of}
use Rattle.mega_serve.proofs.Ending.{no_wish}
use Rattle.mega_serve.proofs.asking.ask_by.Goals as goal

pub returns-in-Err-NoMemory-clause-front : goal.returns-in-Err-NoMemory-clause-front
returns-in-Err-NoMemory-clause-front g c = λ h now got serving page may.
    let node = c.args.node.now in
    no_wish (schema_of g.S.Steps node) _ _ (g.S.Steps.members node) (g.S.Steps.me node) h now got c.args.client c.args.token (wish_of (schema_of g.S.Steps node) (g.S.Steps.me node) c.args.json.now)
