use Rattle.std.specs.List.{All}
use Rattle.mega_wire.specs.Messages.{IsMessage}
use Rattle.mega_well_formed.proofs.Deciding.{all_end, all_step}
use Rattle.mega_server.proofs.forming.are_messages.Goals as goal

pub loop-message-preserved : goal.loop-message-preserved
loop-message-preserved c = all_step IsMessage c.args.messages.now c.loop-message.message-index c.message-item.result (All IsMessage c.args.messages.now) c.loop-message-test.true c.message-item.is c.loop-message.invariant (c.is_message.ensures.0 c.if-not-is_message.false)

pub returns : goal.returns
returns c = λ is. all_end IsMessage c.args.messages.now c.loop-message.message-index (All IsMessage c.args.messages.now) c.loop-message-test.false c.loop-message.invariant
