-- What a pump does whose read of a group is complete, as the rules have it.
use Rattle.std.specs.Prelude.{ℕ, Bool, true, false, List, []}
use Rattle.mega_base.specs.declared.names.GroupId.{GroupId}
use Rattle.mega_read.specs.declared.reading.Reading.{Reading}
use Rattle.mega_read.specs.Catching.{asked_by}
use Rattle.mega_rules.specs.Operations.{Now, Operation, Replies, Setting}
use Rattle.mega_rules.specs.Acting.{Next, Rests, ends, picks_to_enter, picks_to_handle, proposes}
use Rattle.mega_pumps.specs.declared.deciding.Own.{Own}
use Rattle.mega_pumps.specs.declared.deciding.Own.TheVariants.{Ends, Picks, Proposes}

-- a pump that enters picks a message, one that handles a group
abbrev pub picks_by : Bool → Setting → Now → Operation → List ℕ → Next
picks_by true s now o asked = picks_to_enter s now o asked
picks_by false s now o asked = picks_to_handle s now o asked

abbrev pub own_by : Bool → Setting → Now → Operation → GroupId → Reading → ℕ → Own → Next
own_by entering s now o group r p Picks = picks_by entering s now o (asked_by r)
own_by entering s now o group r p (Ends answer) = Rests (ends now o.id answer)
own_by entering s now o group r p (Proposes own) = Rests (proposes s now o group r p own (Replies []))
