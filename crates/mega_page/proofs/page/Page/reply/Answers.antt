use Rattle.std.proofs.Common.{◌∷◌, ◌++◌, [], subst}
use Rattle.mega_wire.specs.declared.message.Message.{Message}
use Rattle.mega_wire.specs.Messages.{message_text}
use Rattle.mega_transcript.specs.Recorded.{OfClient, Put}
use Rattle.mega_page.specs.Pages.{IsPage}
use Rattle.mega_page.proofs.page.Page.reply.Goals as goal

pub returns : goal.returns
returns c = λ schema lines page.
    subst (λ (message : Message). IsPage schema c.put_message.new.self (lines ++ Put (OfClient c.args.client) (message_text message) ∷ [])) c.reply-message.ensures.message (c.in_ok-put_message.ensures schema lines page)
