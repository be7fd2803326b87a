-- The tape of a replay holds what the types of its items do, and so each item is read back from its line.
use Rattle.std.proofs.Common.{◌≡◌, ℕ, zero, suc, ◌+◌, ◌≤◌, List, [], ◌∷◌, length, Ok, subst, sym, arith}
use Rattle.std.specs.List.{All}
use Rattle.std.proofs.lemmas.List.Elements.{All-cons, All-head, All-nil, All-tail}
use Rattle.mega_cluster.specs.declared.cluster.Cluster.{Cluster}
use Rattle.mega_shown_laws.specs.of_format_laws.Histories.{IsCluster}
use Rattle.mega_shown_laws.specs.of_format_laws.Requests.{AreHandlers}
use Rattle.mega_shown_laws.proofs.of_format_laws.Brought.{copy_formed, credit_formed}
use Rattle.mega_shown_laws.specs.of_plain_laws.Formed.{AreFormed, IsAsked, IsFormed}
use Rattle.mega_field_ranges.specs.Held.{HoldsItem}
use Rattle.mega_shown_laws.proofs.Named.{parsed_named}
use Rattle.mega_shown_laws.proofs.Plain.{every_plain}
use Rattle.mega_line_laws.proofs.Asking.{clock_asked, request_asked}
use Rattle.mega_line_laws.proofs.Texts.{begun_request}
use Rattle.mega_line_laws.specs.Clusters.{CanStart}
use Rattle.mega_meanings.specs.BuiltIn.{built_in, key_property}
use Rattle.mega_shown_laws.specs.of_promises.Items.{number}
use Rattle.mega_shown_laws.specs.of_promises.Runs.{Happening, IsRun, Standing}
use Rattle.mega_shown_laws.specs.of_run_laws.Usages.{Fits}
use Rattle.mega_schedule.specs.declared.world_event.WorldEvent.{WorldEvent}
use Rattle.mega_schedule.specs.declared.world_event.WorldEvent.TheVariants.{Tick, Deliver, Drop, Drain, Crash, Start as StartEvent, Fuse, Begin}
use Rattle.mega_schedule.specs.Events.{event_of}
use Rattle.mega_schema.specs.declared.schema.Schema.{Schema}
use Rattle.mega_shown_laws.specs.of_tape_laws.Indexed.{IsDeclared}
use Rattle.mega_transcript.specs.declared.item.Item.{Item}
use Rattle.mega_transcript.specs.declared.item.Item.TheVariants.{Start}
use Rattle.mega_transcript.specs.Plain.{IsPlain}
use Rattle.mega_transcript.specs.Tape.{newest, onto}
use Rattle.mega_transcript_reader.proofs.LineEnds.{same_tape}
use Rattle.mega_world.specs.Opening.{first_starts}
use Rattle.mega_world.proofs.Opened.{opening_tape}
use Rattle.mega_line_events.specs.Meanings.{usage}
use Rattle.mega_line_events.specs.Running.{AllHappen, Happens, IsTold, in_turn, stood}
use Rattle.mega_replay_output.proofs.Texts.{newest_twice}

-- ---- what the types of its items hold

pub all_onto : (P : Item → Type 0) (added tape : List Item) → All P added → All P tape → All P (onto added tape)
all_onto P [] tape new old = old
all_onto P (item ∷ added) tape new old = all_onto P added (item ∷ tape) (All-tail P item added new) (All-cons P item tape (All-head P item added new) old)

starts_held : (count : ℕ) → count ≤ 9 → All HoldsItem (first_starts count)
starts_held zero few = All-nil HoldsItem
starts_held (suc count) few = All-cons HoldsItem (Start (number (suc count)) 1) (first_starts count) ((omega arith), (omega arith)) (starts_held count (omega arith))

-- the nodes start, of which there are at most nine
pub opening_held : (c : Cluster) → CanStart c → All HoldsItem (stood c []).tape
opening_held c can =
    let starts = first_starts (length c.nodes) in
    let twice = newest_twice starts in
    subst (All HoldsItem) (opening_tape c built_in (newest starts) twice) (subst (All HoldsItem) (sym twice) (starts_held (length c.nodes) can.served.few))

-- ---- events of the format

pub built_formed : AreHandlers built_in
built_formed = (credit_formed key_property, (copy_formed, tt))

asked : (c : Cluster) (number : ℕ) (line : List ℕ) (event : WorldEvent) → event_of c.schema number line ≡ Ok event → IsAsked event
asked c number line (Begin node request text) spelled = (request_asked c.schema number line node request text spelled, begun_request c.schema number line node request text spelled)
asked c number line (Tick node clock) spelled = clock_asked c.schema number line node clock spelled
asked c number line (Deliver message) spelled = tt
asked c number line (Drop message) spelled = tt
asked c number line (Drain most) spelled = tt
asked c number line (Crash node) spelled = tt
asked c number line (StartEvent node) spelled = tt
asked c number line (Fuse node calls image device) spelled = tt

one_formed : (c : Cluster) (number : ℕ) (line : List ℕ) (now : Standing) (one : Happening) → Happens c number line now one → IsFormed one
one_formed c number line now one happens = record { handlers = subst AreHandlers (sym happens.handled) built_formed; asked = asked c number line one.event happens.spelled }

pub formed_turned : (c : Cluster) (lines : List (List ℕ)) (events rest : List Happening) → AllHappen c lines events → AreFormed rest → AreFormed (in_turn events rest)
formed_turned c [] [] rest happen formed = formed
formed_turned c [] (one ∷ events) rest happen formed = absurd happen
formed_turned c (line ∷ lines) [] rest happen formed = absurd happen
formed_turned c (line ∷ lines) (one ∷ events) rest happen formed =
    formed_turned c lines events (one ∷ rest) happen.0 (one_formed c (length lines + 1) line (stood c events) one happen.1, formed)

-- ---- the whole tape

pub each_plain : (c : Cluster) (lines : List (List ℕ)) (events : List Happening) → CanStart c → IsCluster c → IsDeclared c.schema → AllHappen c lines events → Fits (usage c.schema) (in_turn events [])
    → (tape : List Item) → IsRun c built_in (in_turn events []) tape → All HoldsItem tape → All (IsPlain c.schema) tape
each_plain c lines events can cluster declared happen fits tape run held =
    every_plain c (usage c.schema) built_in (in_turn events []) tape cluster (parsed_named can.schema_text c.schema can.schema_read) declared (formed_turned c lines events [] happen tt) fits run held

pub told_by : (schema : Schema) (tape : List Item) → All (IsPlain schema) tape → IsTold schema (newest tape)
told_by schema tape plain others also same = same_tape schema others (newest tape) also (all_onto (IsPlain schema) tape [] plain (All-nil (IsPlain schema))) same
