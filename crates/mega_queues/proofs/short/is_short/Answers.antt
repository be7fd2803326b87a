use Rattle.std.proofs.Common.{rules, ◌∙◌, sym, length}
use Rattle.mega_queues.proofs.Lengths.{short_is, same_length}
use Rattle.mega_queues.proofs.short.is_short.Goals as goal

pub returns : goal.returns
returns c =
    c.fits.ensures
    ∙ (same_length c.key_length-group.result (length c.as_bytes-queue.result.now) c.len-payload.result c.args.message.now (search rules) (search rules) (search rules)
    ∙ sym (short_is c.args.op c.args.message.now))
