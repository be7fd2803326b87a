-- A voter keeps what it kept, whatever is sent that asks.
use Rattle.std.proofs.Common.{List, [], ◌∷◌, map}
use Rattle.std.specs.List.{All}
use Rattle.std.proofs.lemmas.List.Elements.{All-head, All-tail}
use Rattle.mega_wire.specs.declared.message.Message.{Message}
use Rattle.mega_wal.specs.declared.kept.Kept.{Kept}
use Rattle.mega_voter.specs.of_rules.Met.{Met, Sends}
use Rattle.mega_voter.specs.of_rules.Steps.{onto}
use Rattle.mega_voter.specs.Telling.{Tells}
use Rattle.mega_voter.proofs.KeptTells.{silent_told}
use Rattle.mega_node_laws.specs.Asking.{Asks}

pub sending_told : (kept : Kept) (met : List Met) (m : Message) → Asks m → Tells kept met → Tells kept (Sends m ∷ met)
sending_told kept met m asks told = (silent_told kept met (Sends m) asks).0 told

pub all_sent_told : (kept : Kept) (sends : List Message) (met : List Met) → All Asks sends → Tells kept met → Tells kept (onto (map Sends sends) met)
all_sent_told kept [] met asks told = told
all_sent_told kept (m ∷ sends) met asks told = all_sent_told kept sends (Sends m ∷ met) (All-tail Asks m sends asks) (sending_told kept met m (All-head Asks m sends asks) told)
