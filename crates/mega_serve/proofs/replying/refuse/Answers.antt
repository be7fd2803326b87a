use Rattle.std.proofs.Common.{◌∷◌, ◌++◌, [], List, ℕ, subst}
use Rattle.mega_wire.specs.declared.message.Body.TheVariants.{Reply}
use Rattle.mega_wire.specs.Messages.{message_text}
use Rattle.mega_promises.specs.Served.{OfClient, Put}
use Rattle.mega_page.specs.Pages.{IsPage}
use Rattle.mega_serve.proofs.replying.refuse.Goals as goal

pub reply-requires-clause-short : goal.reply-requires-clause-short
reply-requires-clause-short c = c.in_ok-text.ensures.short

pub returns : goal.returns
returns c = λ schema lines page.
    subst (λ (text : List ℕ). IsPage schema c.reply.new.self (lines ++ Put (OfClient c.args.client) (message_text (record { from = c.args.me; to = 0; body = Reply c.args.token text })) ∷ [])) c.in_ok-text.ensures.text (c.in_ok-reply.ensures schema lines page)
