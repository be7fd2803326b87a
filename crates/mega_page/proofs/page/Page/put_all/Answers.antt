use Rattle.std.proofs.Common.{◌∷◌, ◌++◌, [], List, subst}
use Rattle.mega_wire.specs.declared.message.Message.{Message}
use Rattle.mega_transcript.specs.Recorded.{put_out}
use Rattle.mega_page.specs.Pages.{IsPage}
use Rattle.mega_page.proofs.Gathering.{next_lines, put_on, taken_whole}
use Rattle.mega_page.proofs.page.Page.put_all.Goals as goal

pub loop-message-preserved : goal.loop-message-preserved
loop-message-preserved c = λ schema lines page.
    subst (IsPage schema c.put_message.new.self) (next_lines put_out (λ (message : Message). put_out (message ∷ [])) put_on c.args.sends.now c.loop-message.message-index c.message-item.result c.loop-message-test.true c.message-item.is lines)
    (c.in_ok-put_message.ensures schema _ (c.loop-message.invariant schema lines page))

pub returns : goal.returns
returns c = λ schema lines page.
    subst (λ (sends : List Message). IsPage schema c.loop-message.self (lines ++ put_out sends)) (taken_whole c.loop-message.message-index c.args.sends.now c.loop-message-test.false) (c.loop-message.invariant schema lines page)
