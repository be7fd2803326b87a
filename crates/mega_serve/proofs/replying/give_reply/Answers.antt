use Rattle.std.proofs.Common.{◌∷◌, ◌++◌, [], List, ℕ, subst}
use Rattle.mega_wire.specs.declared.message.Body.TheVariants.{Reply as Replies}
use Rattle.mega_wire.specs.Messages.{message_text}
use Rattle.mega_promises.specs.Served.{OfClient, Put}
use Rattle.mega_page.specs.Pages.{IsPage}
use Rattle.mega_serve.proofs.replying.give_reply.Goals as goal

pub returns : goal.returns
returns c = λ schema lines page.
    subst (λ (text : List ℕ). IsPage schema c.reply.new.self (lines ++ Put (OfClient c.args.one.client) (message_text (record { from = c.args.me; to = 0; body = Replies c.args.one.token text })) ∷ [])) c.shortened.ensures.text (c.in_ok-reply.ensures schema lines page)
