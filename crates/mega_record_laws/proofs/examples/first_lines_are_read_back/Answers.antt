use Rattle.std.proofs.Common.{◌<◌, ℕ, zero, suc, All, List, [], ◌∷◌, refl, arith}
use Rattle.std.proofs.lemmas.List.Elements.{All-cons, All-nil}
use Rattle.std.specs.Fmt.{digits}
use Rattle.hex.specs.Hex.{IsBytes, encode_with}
use Rattle.mega_transcript.specs.declared.item.Item.TheVariants.{Start, Tick}
use Rattle.mega_promises.specs.Served.{Got, Line, Noted, OfClient, OfNode, Put}
use Rattle.mega_rules.specs.Examples.{schema}
use Rattle.mega_record_laws.specs.Examples.{first_lines}
use Rattle.mega_record_laws.specs.Plain.{IsPlainLine}
use Rattle.mega_record_laws.proofs.Records.{record_again}
use Rattle.mega_record_laws.proofs.examples.first_lines_are_read_back.Goals as goal

none : IsBytes []
none i = omega arith

one : (b : ℕ) → b < 256 → IsBytes (b ∷ [])
one b small zero = small
one b small (suc i) = none i

two : (b d : ℕ) → b < 256 → d < 256 → IsBytes (b ∷ d ∷ [])
two b d small also zero = small
two b d small also (suc i) = one d also i

abbrev P : Line → Type 0
P = IsPlainLine schema

abbrev put_client : List Line
put_client = Put (OfClient 1) (0xFF ∷ []) ∷ []

abbrev puts : List Line
puts = Put (OfNode 3) [] ∷ put_client

abbrev got : List Line
got = Got (OfClient 1) (0x4D ∷ 0x0A ∷ []) ∷ puts

abbrev ticked : List Line
ticked = Noted (Tick (record { 0 = 2 }) 10) ∷ got

are_plain : All P first_lines
are_plain =
    All-cons P (Noted (Start (record { 0 = 2 }) 1)) ticked (omega arith, omega arith)
    (All-cons P (Noted (Tick (record { 0 = 2 }) 10)) got (omega arith, omega arith)
    (All-cons P (Got (OfClient 1) (0x4D ∷ 0x0A ∷ [])) puts (omega arith, two 0x4D 0x0A (omega arith) (omega arith))
    (All-cons P (Put (OfNode 3) []) put_client (omega arith, none)
    (All-cons P (Put (OfClient 1) (0xFF ∷ [])) [] (omega arith, one 0xFF (omega arith)) (All-nil P)))))

pub returns-clause-plain : goal.returns-clause-plain
returns-clause-plain c = are_plain

pub returns-clause-text : goal.returns-clause-text
unfolding digits encode_with
returns-clause-text c = refl

pub returns-clause-read : goal.returns-clause-read
unfolding digits encode_with
returns-clause-read c = record_again schema first_lines are_plain
