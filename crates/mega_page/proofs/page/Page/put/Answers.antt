use Rattle.std.proofs.Common.{◌≡◌, ◌∷◌, ◌++◌, [], List, Option, Some, ap, refl}
use Rattle.std.specs.Prelude.{unwrap_or}
use Rattle.mega_link.specs.Datagrams.{Datagram}
use Rattle.mega_transcript.specs.Recorded.{Put}
use Rattle.mega_page.specs.Lines.{peer_of}
use Rattle.mega_page.proofs.Gathering.{one_more}
use Rattle.mega_page.proofs.page.Page.put.Goals as goal

held : (a b : List Datagram) → Some a ≡ Some b → a ≡ b
held a b same = ap (λ (told : Option (List Datagram)). unwrap_or told a) same

pub returns : goal.returns
returns c = λ schema lines page.
    one_more schema c.args.self.now _ lines (Put (peer_of c.args.to) c.args.bytes.now) ((c.args.to, c.args.bytes.now) ∷ []) page c.in_ok-put_datagram.ensures (held _ (c.args.self.now.outbox ++ (c.args.to, c.args.bytes.now) ∷ []) c.in_ok-send.ensures.ok) refl
