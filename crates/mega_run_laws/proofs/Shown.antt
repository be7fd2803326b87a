-- What notes show on a tape: no message is sent, taken or dropped by it.
use Rattle.std.proofs.Common.{ℕ, List, [], ◌∷◌, flat_map}
use Rattle.mega_tape_laws.specs.of_transcript.declared.item.Item.{Item}
use Rattle.mega_tape_laws.specs.of_transcript.declared.item.Item.TheVariants.{Dropped, Sent, Taken}
use Rattle.mega_tape_laws.specs.of_promises.Items.{shown}
use Rattle.mega_tape_laws.specs.of_rules.Met.{Met, Starts, Crashes, Ticks, Begins, Takes, Sends, Unsends, Grants, Lapses, Counts, Forgets, Serves, Loses, Validates, Invalidates, Decides, Applies, Answers}
use Rattle.mega_run_laws.specs.Justified.{Each}
use Rattle.mega_run_laws.proofs.Turns.{each_on}
use Rattle.mega_run_laws.proofs.Events.{each_append}

-- an item that is no message on its way
abbrev pub IsPlain : Item → Type 0
IsPlain (Taken k) = ⊥
IsPlain (Dropped k) = ⊥
IsPlain (Sent k m) = ⊥
IsPlain _ = Unit {0}

pub shown_plain : (me : ℕ) (one : Met) → Each IsPlain (shown me one)
shown_plain me (Starts start) = (tt, tt)
shown_plain me Crashes = (tt, tt)
shown_plain me (Ticks now) = (tt, tt)
shown_plain me (Begins op text) = (tt, tt)
shown_plain me (Takes message) = tt
shown_plain me (Sends message) = tt
shown_plain me (Unsends message) = (tt, tt)
shown_plain me (Grants node epoch) = (tt, tt)
shown_plain me (Lapses node epoch) = (tt, tt)
shown_plain me (Counts cell epoch) = (tt, tt)
shown_plain me (Forgets cell epoch) = (tt, tt)
shown_plain me (Serves epoch) = (tt, tt)
shown_plain me (Loses epoch) = (tt, tt)
shown_plain me (Validates group position) = (tt, tt)
shown_plain me (Invalidates group position) = (tt, tt)
shown_plain me (Decides group position entry) = (tt, tt)
shown_plain me (Applies group position) = (tt, tt)
shown_plain me (Answers op answer) = (tt, tt)

pub notes_plain : (me : ℕ) (notes : List Met) → Each IsPlain (flat_map (shown me) notes)
notes_plain me [] = tt
notes_plain me (one ∷ notes) = each_append IsPlain (shown me one) (flat_map (shown me) notes) (shown_plain me one) (notes_plain me notes)

-- an item that sends nothing
abbrev pub IsSilent : Item → Type 0
IsSilent (Sent key m) = ⊥
IsSilent _ = Unit {0}

plain_silent : (item : Item) → IsPlain item → IsSilent item
plain_silent (Sent key m) h = absurd h
plain_silent _ h = tt

pub notes_silent : (me : ℕ) (notes : List Met) → Each IsSilent (flat_map (shown me) notes)
notes_silent me notes = each_on IsPlain IsSilent plain_silent (flat_map (shown me) notes) (notes_plain me notes)
