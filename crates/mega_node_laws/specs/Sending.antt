-- Whether a node may send messages, one after another.
use Rattle.std.specs.Prelude.{◌≡◌, List, [], ◌∷◌, None}
use Rattle.mega_wire.specs.declared.message.Message.{Message}
use Rattle.mega_voter.specs.of_rules.Met.{Met, Sends}
use Rattle.mega_voter.specs.of_rules.Voting.{made_of}
use Rattle.mega_voter.specs.Telling.{IsAnswer}

-- no message was made by it
abbrev pub IsUnmade : Met → Type 0
IsUnmade one = made_of one ≡ None

-- each promise and each vote is what the voter's rule answers, after those before it
abbrev pub MaySend : List Met → List Message → Type 0
MaySend met [] = Unit {0}
MaySend met (m ∷ sends) = IsAnswer met m.body × MaySend (Sends m ∷ met) sends
