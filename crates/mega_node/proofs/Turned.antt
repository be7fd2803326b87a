-- The record of a start, and of the turns behind it.
use Rattle.std.proofs.Common.{◌≡◌, ℕ, List, [], ◌∷◌, Option, Result, Ok, Err, OnOk, OnErr, map, refl, sym, subst, ◌∙◌}
use Rattle.std.specs.Io.KnownBytes.{Appends}
use Rattle.mega_cluster.specs.declared.cluster.Cluster.{Cluster}
use Rattle.mega_server.specs.of_core.of_step_parts.declared.note.Note.{Note}
use Rattle.mega_handler.specs.Named.{Meaning, Meanings}
use Rattle.mega_io.specs.Pieces.{AppendsFront}
use Rattle.mega_link.specs.Datagrams.{Datagram}
use Rattle.mega_meanings.specs.Means.{Means}
use Rattle.mega_promises.specs.Items.{number}
use Rattle.mega_promises.specs.Runs.{setting}
use Rattle.mega_promises.specs.Served.{Line, Noted, Served}
use Rattle.mega_rules.specs.Operations.{Setting}
use Rattle.mega_schema.specs.declared.schema.Schema.{Schema}
use Rattle.mega_serve.specs.declared.steps.Steps.{Ghosts as StepsGhosts}
use Rattle.mega_serve.specs.declared.waiting.Waiting.{Waiting as Waits}
use Rattle.mega_serve.specs.Lines.{record_text}
use Rattle.mega_serve.specs.Pages.{ArePut, GoesOn, Stops}
use Rattle.mega_serve.specs.Turns.{Ended, EndsIn, HasBegun, HasTurned, MayServe, Runs, Proceeds, schema_of, served_by, setting_of, turns_of}
use Rattle.mega_serve.proofs.Ending.{ended_further, none_begun}
use Rattle.mega_serve.proofs.Giving.{all_nothing}
use Rattle.mega_serve.proofs.Going.{proceeds_further}
use Rattle.mega_server.specs.Forming.{notes_shown}
use Rattle.mega_transcript.specs.declared.item.Item.{Item}
use Rattle.mega_transcript.specs.declared.item.Item.TheVariants.{Start}
use Rattle.mega_node.specs.Calls.{served_over, started_over}
use Rattle.mega_node.specs.Outside.{Outside}
use Rattle.mega_node.specs.Serving.{HasTurnedOff, HasTurnedOn}
use Rattle.mega_node.specs.Starting.{HasStarted, start_lines}

-- notes put nothing out
quiet : (items : List Item) → ArePut (map Noted items) []
quiet [] = refl
quiet (item ∷ items) = quiet items

-- the served node before its start was recorded
abbrev blank : Served → Served
blank now = record now { lines = [] }

-- the record of the start is held
begins : {S : Type 0} (steps : StepsGhosts S) (makes : List ℕ → Option Meaning) (c : Cluster) (me : ℕ) (found : List (List ℕ)) (one : S) (start : ℕ) (notes : List Note) (held more_held : Option (List ℕ)) (sent : Option (List Datagram))
    → HasStarted steps makes c me found one start notes → Appends held more_held (record_text (schema_of steps one) (start_lines (steps.me one) start notes))
    → (h : Meanings) → Means makes h → Proceeds steps h one [] (schema_of steps one) held more_held sent sent (blank (started_over (setting c h me) found)) (started_over (setting c h me) found)
begins steps makes c me found one start notes held more_held sent started written h means =
    let now = started_over (setting c h me) found in
    let lines : now.lines ≡ start_lines (steps.me one) start notes = started.lines h ∙ (λ i. start_lines (sym started.own i) start notes) in
    record {
      serving = started.serving h means;
      more = now.lines;
      lines = refl;
      goes_on = record {
        text = subst (λ (all : List Line). Appends held more_held (record_text (schema_of steps one) all)) (sym lines) written;
        sends = [];
        are_put = subst (λ (all : List Line). ArePut all []) (sym lines) (quiet (Start (number (steps.me one)) start ∷ notes_shown (steps.me one) notes));
        sent_are = all_nothing sent;
      };
    }

same_setting : {S : Type 0} (steps : StepsGhosts S) (makes : List ℕ → Option Meaning) (c : Cluster) (me : ℕ) (found : List (List ℕ)) (one : S) (start : ℕ) (notes : List Note) → HasStarted steps makes c me found one start notes → (h : Meanings) → setting_of steps one h ≡ setting c h me
same_setting steps makes c me found one start notes started h = λ i. setting (started.members i) h (started.own i)

-- what was recorded of a served node that began with nothing
proceeds_all : {S : Type 0} (steps : StepsGhosts S) (h : Meanings) (one : S) (waiting : List Waits) (schema : Schema) (a b : Option (List ℕ)) (x y : Option (List Datagram)) (now next : Served) → Proceeds steps h one waiting schema a b x y (blank now) next → GoesOn schema a b x y next.lines
proceeds_all steps h one waiting schema a b x y now next proceeds = subst (GoesOn schema a b x y) (sym proceeds.lines) proceeds.goes_on

ended_all : (schema : Schema) (a b : Option (List ℕ)) (x y : Option (List Datagram)) (now next : Served) → Ended schema a b x y (blank now) next → Stops schema a b x y next.lines
ended_all schema a b x y now next ended = subst (Stops schema a b x y) (sym ended.lines) ended.stops

-- ---- all turns were made

on : {S : Type 0} (steps : StepsGhosts S) (makes : List ℕ → Option Meaning) (c : Cluster) (me : ℕ) (found : List (List ℕ)) (one last : S) (start : ℕ) (notes : List Note) (left : List Waits) (held mid more_held : Option (List ℕ)) (sent more_sent : Option (List Datagram)) (given : List (ℕ × Option Datagram))
    → HasStarted steps makes c me found one start notes → Appends held mid (record_text (schema_of steps one) (start_lines (steps.me one) start notes))
    → Runs steps one [] last left mid more_held sent more_sent given → (h : Meanings) → Means makes h → MayServe steps (setting c h me) (started_over (setting c h me) found) (turns_of h given)
    → Proceeds steps h last left c.schema held more_held sent more_sent (blank (started_over (setting c h me) found)) (served_over (setting c h me) found (turns_of h given))
on steps makes c me found one last start notes left held mid more_held sent more_sent given started written runs h means may =
    let now = started_over (setting c h me) found in
    let same = same_setting steps makes c me found one start notes started h in
    let first = begins steps makes c me found one start notes held mid sent started written h means in
    let proceeds = runs h now (started.serving h means) (subst (λ (s : Setting). MayServe steps s now (turns_of h given)) (sym same) may) in
    let all = proceeds_further steps h one last [] left (schema_of steps one) held mid more_held sent sent more_sent (blank now) now (served_by (setting_of steps one h) now (turns_of h given)) first proceeds in
    coe 0 1 (i. Proceeds steps h last left ((started.members i).schema) held more_held sent more_sent (blank now) (served_by (same i) now (turns_of h given))) all

pub turned_on : {S : Type 0} (steps : StepsGhosts S) (one last : S) (start : ℕ) (notes : List Note) (turns : ℕ) (before after : Outside) (mid : Option (List ℕ))
    → Appends before.held mid (record_text (schema_of steps one) (start_lines (steps.me one) start notes))
    → (given : List (ℕ × Option Datagram)) × (HasTurned turns before.readings after.readings before.taken after.taken given × ((left : List Waits) × Runs steps one [] last left mid after.held before.sent after.sent given))
    → HasTurnedOn steps one last start notes turns before after
turned_on steps one last start notes turns before after mid written made = record {
  given = made.0;
  turned = made.1.0;
  recorded = λ makes c me found started h means may.
      proceeds_all steps h last made.1.1.0 c.schema before.held after.held before.sent after.sent (started_over (setting c h me) found) (served_over (setting c h me) found (turns_of h made.0))
      (on steps makes c me found one last start notes made.1.1.0 before.held mid after.held before.sent after.sent made.0 started written made.1.1.1 h means may);
  serving = λ makes c me found started h means may.
      (h, made.1.1.0, (on steps makes c me found one last start notes made.1.1.0 before.held mid after.held before.sent after.sent made.0 started written made.1.1.1 h means may).serving);
}

-- ---- it ended on its way

off : {S : Type 0} (steps : StepsGhosts S) (makes : List ℕ → Option Meaning) (c : Cluster) (me : ℕ) (found : List (List ℕ)) (one : S) (start : ℕ) (notes : List Note) (held mid more_held : Option (List ℕ)) (sent more_sent : Option (List Datagram)) (given : List (ℕ × Option Datagram))
    → HasStarted steps makes c me found one start notes → Appends held mid (record_text (schema_of steps one) (start_lines (steps.me one) start notes))
    → EndsIn steps one [] mid more_held sent more_sent given → (h : Meanings) → Means makes h → MayServe steps (setting c h me) (started_over (setting c h me) found) (turns_of h given)
    → Ended c.schema held more_held sent more_sent (blank (started_over (setting c h me) found)) (served_over (setting c h me) found (turns_of h given))
off steps makes c me found one start notes held mid more_held sent more_sent given started written ends h means may =
    let now = started_over (setting c h me) found in
    let same = same_setting steps makes c me found one start notes started h in
    let first = begins steps makes c me found one start notes held mid sent started written h means in
    let ended = ends h now (started.serving h means) (subst (λ (s : Setting). MayServe steps s now (turns_of h given)) (sym same) may) in
    let all = ended_further steps h one [] (schema_of steps one) held mid more_held sent sent more_sent (blank now) now (served_by (setting_of steps one h) now (turns_of h given)) first ended in
    coe 0 1 (i. Ended ((started.members i).schema) held more_held sent more_sent (blank now) (served_by (same i) now (turns_of h given))) all

pub turned_off : {S : Type 0} (steps : StepsGhosts S) (one : S) (start : ℕ) (notes : List Note) (before after : Outside) (mid : Option (List ℕ))
    → Appends before.held mid (record_text (schema_of steps one) (start_lines (steps.me one) start notes))
    → (given : List (ℕ × Option Datagram)) × (HasBegun before.readings after.readings before.taken after.taken given × EndsIn steps one [] mid after.held before.sent after.sent given)
    → HasTurnedOff steps one start notes before after
turned_off steps one start notes before after mid written made = record {
  given = made.0;
  begun = made.1.0;
  stops = λ makes c me found started h means may.
      ended_all c.schema before.held after.held before.sent after.sent (started_over (setting c h me) found) (served_over (setting c h me) found (turns_of h made.0))
      (off steps makes c me found one start notes before.held mid after.held before.sent after.sent made.0 started written made.1.1 h means may);
}

-- of the record of its start a front is held
pub unrecorded : {S : Type 0} (steps : StepsGhosts S) (one : S) (start : ℕ) (notes : List Note) (before after : Outside)
    → AppendsFront before.held after.held (record_text (schema_of steps one) (start_lines (steps.me one) start notes)) → after ≡ record before { held = after.held } → HasTurnedOff steps one start notes before after
unrecorded steps one start notes before after written same = record {
  given = [];
  begun = subst (λ (now : Outside). HasBegun before.readings now.readings before.taken now.taken []) (sym same) (none_begun before.readings before.taken);
  stops = λ makes c me found started h means may.
      let lines : (started_over (setting c h me) found).lines ≡ start_lines me start notes = started.lines h in
      subst (Stops c.schema before.held after.held before.sent after.sent) (sym lines)
      (coe 0 1 (i. Stops ((started.members i).schema) before.held after.held before.sent after.sent (start_lines (started.own i) start notes))
      (record {
        whole = [];
        rest = start_lines (steps.me one) start notes;
        lines = refl;
        front = written;
        sends = [];
        are_put = (0, refl);
        sent_are = ap_sent same ∙ all_nothing before.sent;
      }));
}
  where
    ap_sent : after ≡ record before { held = after.held } → after.sent ≡ before.sent
    ap_sent is = λ i. (is i).sent

-- ---- what is said of a call's end

pub ok_then : {T E A B : Type 0} (made : Result T E) → (A → B) → OnOk made A → OnOk made B
ok_then (Ok one) so a = so a
ok_then (Err stop) so a = tt

pub err_then : {T E A B : Type 0} (made : Result T E) → (A → B) → OnErr made A → OnErr made B
err_then (Ok one) so a = tt
err_then (Err stop) so a = so a
