use Rattle.std.proofs.Common.{◌∙◌, ap, sym, set, Some}
use Rattle.std.proofs.lemmas.List.{set-set}
use Rattle.mega_link.proofs.mem_link.take_at.Goals as goal

pub returns-in-Some-clause-kept : goal.returns-in-Some-clause-kept
returns-in-Some-clause-kept c = set-set _ _ _ _ ∙ ap (λ bytes. set c.args.incoming.now.items c.args.index (Some (c.in-Some.peer, bytes))) (c.fill-count.ensures.kept ∙ sym c.fill-count.ensures.filled)
