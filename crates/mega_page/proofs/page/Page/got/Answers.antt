use Rattle.std.proofs.Common.{refl}
use Rattle.mega_transcript.specs.Recorded.{Got}
use Rattle.mega_page.specs.Lines.{peer_of}
use Rattle.mega_page.proofs.Gathering.{one_quiet}
use Rattle.mega_page.proofs.page.Page.got.Goals as goal

pub returns : goal.returns
returns c = λ schema lines page. one_quiet schema c.args.self.now _ lines (Got (peer_of c.args.from) c.args.bytes.now) page c.in_ok-put_datagram.ensures refl refl
