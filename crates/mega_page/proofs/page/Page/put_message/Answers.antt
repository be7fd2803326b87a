use Rattle.std.proofs.Common.{◌∷◌, ◌++◌, ◌∙◌, [], List, ℕ, ap, subst}
use Rattle.mega_wire.specs.Messages.{message_text}
use Rattle.mega_transcript.specs.Recorded.{Put}
use Rattle.mega_page.specs.Lines.{peer_of}
use Rattle.mega_page.specs.Pages.{IsPage}
use Rattle.mega_page.proofs.page.Page.put_message.Goals as goal

pub returns : goal.returns
returns c = λ schema lines page.
    subst (λ (bytes : List ℕ). IsPage schema c.put.new.self (lines ++ Put (peer_of c.args.to) bytes ∷ []))
    (c.as_slice.ensures ∙ c.in_ok-encode.ensures.ok ∙ ap (λ (front : List ℕ). front ++ message_text c.args.message.now) c.new-bytes.ensures)
    (c.in_ok-put.ensures schema lines page)
