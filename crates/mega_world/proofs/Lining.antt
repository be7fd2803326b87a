-- What a step shows has lines.
use Rattle.std.proofs.Common.{ℕ, ◌+◌, List, [], ◌∷◌, flat_map}
use Rattle.std.specs.List.{All}
use Rattle.std.proofs.lemmas.List.Elements.{All-append, All-cons, All-nil}
use Rattle.mega_wire.specs.declared.message.Message.{Message}
use Rattle.mega_places.specs.of_promises.of_transcript.declared.item.Item.{Item}
use Rattle.mega_places.specs.of_promises.of_transcript.declared.item.Item.TheVariants.{Start, Unsent, Tick, Begin, Sent, Grant, Lapse, Counts as CountsItem, Forgets as ForgetsItem, Serving, Lost, Valid, Invalid, Decide, Apply, Answer, Crash}
use Rattle.mega_places.specs.of_promises.of_transcript.Lines.{HasLine}
use Rattle.mega_places.specs.of_voter.of_rules.Met.{Met, Starts, Crashes, Ticks, Begins, Takes, Sends, Unsends, Grants, Lapses, Counts, Forgets, Serves, Loses, Validates, Invalidates, Decides, Applies, Answers}
use Rattle.mega_format_laws.specs.Histories.{IsItem, IsMet}
use Rattle.mega_format_laws.specs.Rounds.{AreMessages}
use Rattle.mega_places.specs.of_promises.Items.{number, numbered, shown}

one_line : (item : Item) → HasLine item → All HasLine (item ∷ [])
one_line item has = All-cons HasLine item [] has (All-nil HasLine)

shown_lines : (me : ℕ) (one : Met) → IsItem one → All HasLine (shown me one)
shown_lines me (Starts start) is = one_line (Start (number me) start) tt
shown_lines me Crashes is = one_line (Crash (number me)) tt
shown_lines me (Ticks now) is = one_line (Tick (number me) now) tt
shown_lines me (Begins op text) is = one_line (Begin op text) tt
shown_lines me (Takes message) is = All-nil HasLine
shown_lines me (Sends message) is = All-nil HasLine
shown_lines me (Unsends message) is = one_line (Unsent (number me) message) is
shown_lines me (Grants node epoch) is = one_line (Grant me (number node) epoch) tt
shown_lines me (Lapses node epoch) is = one_line (Lapse me (number node) epoch) tt
shown_lines me (Counts cell epoch) is = one_line (CountsItem (number me) cell epoch) tt
shown_lines me (Forgets cell epoch) is = one_line (ForgetsItem (number me) cell epoch) tt
shown_lines me (Serves epoch) is = one_line (Serving (number me) epoch) tt
shown_lines me (Loses epoch) is = one_line (Lost (number me) epoch) tt
shown_lines me (Validates group position) is = one_line (Valid (number me) group (record { 0 = position })) tt
shown_lines me (Invalidates group position) is = one_line (Invalid (number me) group (record { 0 = position })) tt
shown_lines me (Decides group position entry) is = one_line (Decide (number me) group (record { 0 = position }) entry) is.1.1.0
shown_lines me (Applies group position) is = one_line (Apply (number me) group (record { 0 = position })) tt
shown_lines me (Answers op answer) is = one_line (Answer op answer) tt

pub notes_lines : (me : ℕ) (notes : List Met) → IsMet notes → All HasLine (flat_map (shown me) notes)
notes_lines me [] is = All-nil HasLine
notes_lines me (one ∷ notes) is = All-append HasLine (shown me one) (flat_map (shown me) notes) (shown_lines me one is.0) (notes_lines me notes is.1)

pub sent_lines : (n : ℕ) (ms : List Message) → AreMessages ms → All HasLine (numbered n ms)
sent_lines n [] each = All-nil HasLine
sent_lines n (m ∷ ms) each = All-cons HasLine (Sent n m) (numbered (n + 1) ms) each.0 (sent_lines (n + 1) ms each.1)
