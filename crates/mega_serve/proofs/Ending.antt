-- A served node that ended on its way: of what was to be recorded a front is held.
use Rattle.std.proofs.Common.{◌≡◌, ◌⊎◌, inl, inr, ℕ, ◌+◌, ◌≤◌, Bool, true, false, List, [], ◌∷◌, ◌++◌, None, Option, Some, Ok, Err, Result, ap, append-nil, append_assoc, codes, decimal, filter, filter_map, length, map, refl, subst, sym, take, ◌∙◌}
use Rattle.std.specs.Prelude.{◌==◌, ◌&&◌, if◌then◌else◌, option_map}
use Rattle.std.specs.List.{flat_map}
use Rattle.std.specs.Io.KnownBytes.{Appends}
use Rattle.std.proofs.KnownBytes.{Appends-nil, Appends-trans}
use Rattle.std.proofs.Math.Seq.{take-append-add}
use Rattle.std.proofs.lemmas.List.{map-append}
use Rattle.std.proofs.lemmas.Grind.{flat_map-append}
use Rattle.std.proofs.lemmas.List.Elements.{filter_map-append}
use Rattle.mega_base.specs.Reading.{whole_of}
use Rattle.mega_cluster.specs.declared.cluster.Cluster.{Cluster}
use Rattle.mega_handler.specs.Named.{Meanings}
use Rattle.mega_link.specs.Datagrams.{Datagram, Gains}
use Rattle.mega_schema.specs.declared.schema.Schema.{Schema}
use Rattle.mega_wire.specs.declared.message.Message.{Message}
use Rattle.mega_wire.specs.Messages.{message_at}
use Rattle.mega_wire.specs.declared.message.Body.{Body}
use Rattle.mega_wire.specs.declared.message.Body.TheVariants.{Where, Top, Accept, Accepted, Refused, Prepare, Promise, Invalidate, Invalidated, Dead, Held, Unheld, Decide, Fetch, Have, HaveNot, Acquire, Granted, Past, Request, Reply}
use Rattle.mega_transcript.specs.declared.item.Item.{Item}
use Rattle.mega_rules.specs.Operations.{Setting}
use Rattle.mega_rules.specs.Met.{Begins}
use Rattle.mega_rules.specs.Steps.{Begin, Step, Take, Tick, op_of, step}
use Rattle.mega_promises.specs.Runs.{names_nothing, setting}
use Rattle.mega_promises.specs.Served.{Asks, Got, Line, Noted, OfClient, OfNode, Peer, Refuses, Served, Waiting, Wish, answer_line, given, is_from, noted, put_in, put_out, received, recorded, refused_by, reply_line, takes_message, ticked, wished, with_lines}
use Rattle.mega_serve.specs.declared.steps.Made.{Made}
use Rattle.mega_serve.specs.declared.steps.Steps.{Ghosts}
use Rattle.mega_serve.specs.declared.waiting.Waiting.{Waiting as Waits}
use Rattle.mega_page.specs.Lines.{datagram_of, line_text, record_text}
use Rattle.mega_page.specs.Pages.{GoesOn, Stops}
use Rattle.mega_serve.specs.Replies.{item_reply, waiting_of}
use Rattle.mega_serve.specs.Stepping.{IsMade}
use Rattle.mega_serve.specs.Turns.{Ended, EndsIn, EndsOnce, GainsAll, HasBegun, HasTurned, IsServing, LacksReceive, MayReceive, MayServe, MayTurn, Runs, Proceeds, readings_of, received_in, schema_of, served_by, setting_of, turn_of, turned_by, turns_of}
use Rattle.mega_serve.specs.Wishes.{wish_of}
use Rattle.mega_page.proofs.Giving.{all_nothing}
use Rattle.mega_serve.proofs.Going.{all_twice}
use Rattle.mega_serve.proofs.Joining.{gains_more, gains_nothing, gains_one, may_split, served_on, times_more}
use Rattle.mega_serve.proofs.Stepped.{replies_shown}

-- ---- nothing of it was recorded

at_once : (schema : Schema) (held : Option (List ℕ)) (sent : Option (List Datagram)) (now next : Served) (more : List Line) → next.lines ≡ now.lines ++ more → Ended schema held held sent sent now next
at_once schema held sent now next more lines = record {
  more = more;
  lines = lines;
  stops = record { whole = []; rest = more; lines = refl; front = (0, Appends-nil held); sends = []; are_put = (0, refl); sent_are = all_nothing sent };
}

pub none_recorded : (schema : Schema) (held : Option (List ℕ)) (sent : Option (List Datagram)) (c : Cluster) (me : ℕ) (now : Served) (own : List Line) (waiting : List Waiting) (made : Step) → Ended schema held held sent sent now (recorded c me now own waiting made)
none_recorded schema held sent c me now own waiting made =
    at_once schema held sent now (recorded c me now own waiting made) (((own ++ noted me made.notes) ++ put_out made.sends) ++ flat_map (answer_line c.schema me waiting) made.notes) refl

pub no_lines : (schema : Schema) (held : Option (List ℕ)) (sent : Option (List Datagram)) (now : Served) (more : List Line) → Ended schema held held sent sent now (with_lines now more)
no_lines schema held sent now more = at_once schema held sent now (with_lines now more) more refl

either_ends : (schema : Schema) (held : Option (List ℕ)) (sent : Option (List Datagram)) (now one other : Served) (b : Bool) → Ended schema held held sent sent now one → Ended schema held held sent sent now other → Ended schema held held sent sent now (if b then one else other)
either_ends schema held sent now one other true first second = first
either_ends schema held sent now one other false first second = second

pub no_wish : (schema : Schema) (held : Option (List ℕ)) (sent : Option (List Datagram)) (c : Cluster) (me : ℕ) (h : Meanings) (now : Served) (got : List Line) (client token : ℕ) (wish : Wish) → Ended schema held held sent sent now (wished c me h now got client token wish)
no_wish schema held sent c me h now got client token (Refuses reason) =
    no_lines schema held sent now (got ++ reply_line me client token (codes "refused" ∷ codes "schedule" ∷ decimal reason ∷ []) ∷ [])
no_wish schema held sent c me h now got client token (Asks request text) =
    let op = op_of (setting c h me) now.node.met in
    either_ends schema held sent now (refused_by me now got client token (codes "world") (decimal 7))
    (recorded c me now (got ++ noted me (Begins op text ∷ [])) (now.waiting ++ (record { op = op; client = client; token = token }) ∷ []) (step (setting c h me) now.node (Begin request text)))
    (names_nothing request)
    (no_lines schema held sent now (got ++ reply_line me client token (codes "refused" ∷ codes "world" ∷ decimal 7 ∷ []) ∷ []))
    (none_recorded schema held sent c me now (got ++ noted me (Begins op text ∷ [])) (now.waiting ++ (record { op = op; client = client; token = token }) ∷ []) (step (setting c h me) now.node (Begin request text)))

no_message : (schema : Schema) (held : Option (List ℕ)) (sent : Option (List Datagram)) (c : Cluster) (me : ℕ) (wish : List ℕ → Wish) (h : Meanings) (now : Served) (got : List Line) (from : Peer) (one two : ℕ) (body : Body)
    → Ended schema held held sent sent now (takes_message c me wish h now got from (record { from = one; to = two; body = body }))
no_message schema held sent c me wish h now got (OfNode node) one two body =
    none_recorded schema held sent c me now got now.waiting (step (setting c h me) now.node (Take (record { from = one; to = two; body = body })))
no_message schema held sent c me wish h now got (OfClient client) one two (Request token json) = no_wish schema held sent c me h now got client token (wish json)
no_message schema held sent c me wish h now got (OfClient client) one two (Where op group) = no_lines schema held sent now got
no_message schema held sent c me wish h now got (OfClient client) one two (Top op group position) = no_lines schema held sent now got
no_message schema held sent c me wish h now got (OfClient client) one two (Accept op group position ballot entry) = no_lines schema held sent now got
no_message schema held sent c me wish h now got (OfClient client) one two (Accepted op group position ballot entry) = no_lines schema held sent now got
no_message schema held sent c me wish h now got (OfClient client) one two (Refused op group position asked shown entry) = no_lines schema held sent now got
no_message schema held sent c me wish h now got (OfClient client) one two (Prepare op group position ballot) = no_lines schema held sent now got
no_message schema held sent c me wish h now got (OfClient client) one two (Promise op group position ballot accepted) = no_lines schema held sent now got
no_message schema held sent c me wish h now got (OfClient client) one two (Invalidate op group position) = no_lines schema held sent now got
no_message schema held sent c me wish h now got (OfClient client) one two (Invalidated op group position) = no_lines schema held sent now got
no_message schema held sent c me wish h now got (OfClient client) one two (Dead op cell node) = no_lines schema held sent now got
no_message schema held sent c me wish h now got (OfClient client) one two (Held op cell node) = no_lines schema held sent now got
no_message schema held sent c me wish h now got (OfClient client) one two (Unheld op cell node) = no_lines schema held sent now got
no_message schema held sent c me wish h now got (OfClient client) one two (Decide group position entry) = no_lines schema held sent now got
no_message schema held sent c me wish h now got (OfClient client) one two (Fetch op group position) = no_lines schema held sent now got
no_message schema held sent c me wish h now got (OfClient client) one two (Have op group position entry) = no_lines schema held sent now got
no_message schema held sent c me wish h now got (OfClient client) one two (HaveNot op group position) = no_lines schema held sent now got
no_message schema held sent c me wish h now got (OfClient client) one two (Acquire cell epoch clock) = no_lines schema held sent now got
no_message schema held sent c me wish h now got (OfClient client) one two (Granted cell epoch clock) = no_lines schema held sent now got
no_message schema held sent c me wish h now got (OfClient client) one two (Past cell asked greatest) = no_lines schema held sent now got
no_message schema held sent c me wish h now got (OfClient client) one two (Reply token text) = no_lines schema held sent now got

no_datagram : (schema : Schema) (held : Option (List ℕ)) (sent : Option (List Datagram)) (c : Cluster) (me : ℕ) (wish : List ℕ → Wish) (h : Meanings) (now : Served) (got : List Line) (from : Peer) (read : Result Message ℕ)
    → Ended schema held held sent sent now (given c me wish h now got from read)
no_datagram schema held sent c me wish h now got from (Err at) = no_lines schema held sent now got
no_datagram schema held sent c me wish h now got from (Ok m) =
    either_ends schema held sent now (takes_message c me wish h now got from m) (with_lines now got) (is_from from m.from && m.to == me) (no_message schema held sent c me wish h now got from m.from m.to m.body) (no_lines schema held sent now got)

pub none_received : (schema : Schema) (held : Option (List ℕ)) (sent : Option (List Datagram)) (c : Cluster) (me : ℕ) (wish : List ℕ → Wish) (h : Meanings) (now : Served) (peer : Peer) (bytes : List ℕ) → Ended schema held held sent sent now (received c me wish h now (Some (peer, bytes)))
none_received schema held sent c me wish h now peer bytes = no_datagram schema held sent c me wish h now (Got peer bytes ∷ []) peer (whole_of message_at bytes)

-- ---- a front of it was recorded

pub lines_partly : (schema : Schema) (held more_held : Option (List ℕ)) (sent more_sent : Option (List Datagram)) (now : Served) (more : List Line) → Stops schema held more_held sent more_sent more → Ended schema held more_held sent more_sent now (with_lines now more)
lines_partly schema held more_held sent more_sent now more stops = record { more = more; lines = refl; stops = stops }

-- what a step shows and sends is what the rules record of it
pub step_partly : (c : Cluster) (me : ℕ) (waiting : List Waits) (held more_held : Option (List ℕ)) (sent more_sent : Option (List Datagram)) (now : Served) (own : List Line) (step : Step) (made : Made) → IsMade me step made
    → Stops c.schema held more_held sent more_sent (((own ++ map Noted made.items) ++ put_out made.sends) ++ flat_map (item_reply c.schema me (map waiting_of waiting)) made.items)
    → Ended c.schema held more_held sent more_sent now (recorded c me now own (map waiting_of waiting) step)
step_partly c me waiting held more_held sent more_sent now own step made is stops = record {
  more = ((own ++ noted me step.notes) ++ put_out step.sends) ++ flat_map (answer_line c.schema me (map waiting_of waiting)) step.notes;
  lines = refl;
  stops = subst (Stops c.schema held more_held sent more_sent)
      (λ i. ((own ++ map Noted (is.items i)) ++ put_out (is.sends i)) ++ (ap (flat_map (item_reply c.schema me (map waiting_of waiting))) is.items ∙ replies_shown c.schema me (map waiting_of waiting) step.notes) i) stops;
}

stops_further : (schema : Schema) (a b c : Option (List ℕ)) (x y z : Option (List Datagram)) (first second : List Line) → GoesOn schema a b x y first → Stops schema b c y z second → Stops schema a c x z (first ++ second)
stops_further schema a b c x y z first second one two = record {
  whole = first ++ two.whole;
  rest = two.rest;
  lines = ap (λ (more : List Line). first ++ more) two.lines ∙ sym (append_assoc first two.whole two.rest);
  front = (
    two.front.0,
    subst (Appends a c)
        (sym (append_assoc (record_text schema first) (record_text schema two.whole) (take two.front.0 (record_text schema two.rest))) ∙ ap (λ (text : List ℕ). text ++ take two.front.0 (record_text schema two.rest)) (sym (flat_map-append (line_text schema) first two.whole)))
        (Appends-trans a b c _ _ one.text two.front.1),
  );
  sends = one.sends ++ two.sends;
  are_put = (
    length (filter_map put_in first) + two.are_put.0,
    map-append datagram_of one.sends two.sends ∙ ap (λ (xs : List (Peer × List ℕ)). xs ++ map datagram_of two.sends) one.are_put ∙ ap (λ (xs : List (Peer × List ℕ)). filter_map put_in first ++ xs) two.are_put.1
        ∙ sym (take-append-add (filter_map put_in first) (filter_map put_in two.whole) two.are_put.0) ∙ ap (take (length (filter_map put_in first) + two.are_put.0)) (sym (filter_map-append put_in first two.whole)),
  );
  sent_are = two.sent_are ∙ ap (option_map (λ (all : List Datagram). all ++ two.sends)) one.sent_are ∙ all_twice x one.sends two.sends;
}

-- it went on whole, and then ended
pub ended_further : {S : Type 0} (steps : Ghosts S) (h : Meanings) (mid : S) (between : List Waits) (schema : Schema) (a b c : Option (List ℕ)) (x y z : Option (List Datagram)) (now next last : Served)
    → Proceeds steps h mid between schema a b x y now next → Ended schema b c y z next last → Ended schema a c x z now last
ended_further steps h mid between schema a b c x y z now next last first second = record {
  more = first.more ++ second.more;
  lines = second.lines ∙ ap (λ (lines : List Line). lines ++ second.more) first.lines ∙ append_assoc now.lines first.more second.more;
  stops = stops_further schema a b c x y z first.more second.more first.goes_on second.stops;
}

-- ---- turns that were begun

pub none_begun : (read : Option (List ℕ)) (taken : Option (List (Option Datagram))) → HasBegun read read taken taken []
none_begun read taken = record { readings = gains_nothing read; times = tt; received = inl (gains_nothing taken) }

pub ends_at_once : {S : Type 0} (steps : Ghosts S) (one : S) (waiting : List Waits) (held : Option (List ℕ)) (sent : Option (List Datagram)) → EndsIn steps one waiting held held sent sent []
ends_at_once steps one waiting held sent = λ h now serving may. at_once (schema_of steps one) held sent now now [] (sym (append-nil now.lines))

-- the reading alone, or the datagram as well
pub begun_read : (a b : Option (List ℕ)) (x y : Option (List (Option Datagram))) (clock : ℕ) → clock ≤ 1000000000000 → Gains a b clock → y ≡ x → HasBegun a b x y ((clock, None) ∷ [])
begun_read a b x y clock time read same = record {
  readings = gains_one a b clock read;
  times = (time, tt);
  received = inr ([], (clock, (refl, subst (λ (told : Option (List (Option Datagram))). GainsAll x told []) (sym same) (gains_nothing x))));
}

pub begun_received : (a b : Option (List ℕ)) (x y z : Option (List (Option Datagram))) (clock : ℕ) (datagram : Option Datagram) → clock ≤ 1000000000000 → Gains a b clock → y ≡ x → Gains y z datagram → HasBegun a b x z ((clock, datagram) ∷ [])
begun_received a b x y z clock datagram time read same took = record {
  readings = gains_one a b clock read;
  times = (time, tt);
  received = inl (gains_one x z datagram (subst (λ (told : Option (List (Option Datagram))). Gains told z datagram) same took));
}

-- the tick of a reading, and then the end at what a receive gave
pub ended_once : {S : Type 0} (steps : Ghosts S) (first mid : S) (waiting between : List Waits) (a b c : Option (List ℕ)) (x y z : Option (List Datagram)) (clock : ℕ) (datagram : Option Datagram)
    → steps.members mid ≡ steps.members first → steps.me mid ≡ steps.me first
    → ((h : Meanings) (was : Served) → IsServing steps h first waiting was → steps.may_happen (setting_of steps first h) was.node (Tick clock)
    → Proceeds steps h mid between (schema_of steps first) a b x y was (ticked (steps.members first) (steps.me first) h clock was))
    → ((h : Meanings) (now : Served) → IsServing steps h mid between now → MayReceive steps (setting_of steps mid h) now (option_map datagram_of datagram)
    → Ended (schema_of steps mid) b c y z now (received (steps.members mid) (steps.me mid) (wish_of (schema_of steps mid) (steps.me mid)) h now (option_map datagram_of datagram)))
    → EndsOnce steps first waiting a c x z (clock, datagram)
ended_once steps first mid waiting between a b c x y z clock datagram members me ticks ends = λ h now serving may.
    let next = ticked (steps.members first) (steps.me first) h clock now in
    let same : setting_of steps mid h ≡ setting_of steps first h = λ i. setting (members i) h (me i) in
    let before = ticks h now serving may.0 in
    let after = ends h next before.serving (subst (λ (s : Setting). MayReceive steps s next (option_map datagram_of datagram)) (sym same) may.1) in
    ended_further steps h mid between (schema_of steps first) a b c x y z now next (received (steps.members first) (steps.me first) (wish_of (schema_of steps first) (steps.me first)) h next (option_map datagram_of datagram)) before
    (coe 0 1 (i. Ended ((members i).schema) b c y z next (received (members i) (me i) (wish_of ((members i).schema) (me i)) h next (option_map datagram_of datagram))) after)

received_more : (x y z : Option (List (Option Datagram))) (given : List (ℕ × Option Datagram)) (one : ℕ × Option Datagram) → GainsAll x y (received_in given)
    → GainsAll y z (received_in (one ∷ [])) ⊎ LacksReceive y z (one ∷ []) → GainsAll x z (received_in (given ++ one ∷ [])) ⊎ LacksReceive x z (given ++ one ∷ [])
received_more x y z given one first (inl second) = inl (subst (GainsAll x z) (sym (map-append (λ (one : ℕ × Option Datagram). one.1) given (one ∷ []))) (gains_more x y z _ _ first second))
received_more x y z given one first (inr (before, (clock, (is, second)))) = inr (
  given ++ before,
  (
    clock,
    (
      ap (λ (last : List (ℕ × Option Datagram)). given ++ last) is ∙ sym (append_assoc given before ((clock, None) ∷ [])),
      subst (GainsAll x z) (sym (map-append (λ (one : ℕ × Option Datagram). one.1) given before)) (gains_more x y z _ _ first second),
    ),
  ),
)

pub begun_more : (n : ℕ) (a b c : Option (List ℕ)) (x y z : Option (List (Option Datagram))) (given : List (ℕ × Option Datagram)) (one : ℕ × Option Datagram)
    → HasTurned n a b x y given → HasBegun b c y z (one ∷ []) → HasBegun a c x z (given ++ one ∷ [])
begun_more n a b c x y z given one first second = record {
  readings = subst (GainsAll a c) (sym (map-append (λ (one : ℕ × Option Datagram). one.0) given (one ∷ []))) (gains_more a b c _ _ first.readings second.readings);
  times = times_more given one first.times second.times;
  received = received_more x y z given one first.received second.received;
}

pub ends_more : {S : Type 0} (steps : Ghosts S) (first mid : S) (waiting between : List Waits) (a b c : Option (List ℕ)) (x y z : Option (List Datagram)) (given : List (ℕ × Option Datagram)) (one : ℕ × Option Datagram)
    → steps.members mid ≡ steps.members first → steps.me mid ≡ steps.me first → Runs steps first waiting mid between a b x y given → EndsOnce steps mid between b c y z one → EndsIn steps first waiting a c x z (given ++ one ∷ [])
ends_more steps first mid waiting between a b c x y z given one members me runs ends = λ h now serving may.
    let s = setting_of steps first h in
    let same : setting_of steps mid h ≡ s = λ i. setting (members i) h (me i) in
    let split = may_split steps s now (turns_of h given) (turn_of h one) (subst (MayServe steps s now) (map-append (turn_of h) given (one ∷ [])) may) in
    let next = served_by s now (turns_of h given) in
    let before = runs h now serving split.0 in
    let after = ends h next before.serving (subst (λ (s : Setting). MayTurn steps s next (turn_of h one)) (sym same) split.1) in
    let on : Ended (schema_of steps first) b c y z next (turned_by s next (turn_of h one)) = coe 0 1 (i. Ended ((members i).schema) b c y z next (turned_by (same i) next (turn_of h one))) after in
    subst (λ (end : Served). Ended (schema_of steps first) a c x z now end)
    (sym (ap (served_by s now) (map-append (turn_of h) given (one ∷ [])) ∙ served_on s now (turns_of h given) (turn_of h one)))
    (ended_further steps h mid between (schema_of steps first) a b c x y z now next (turned_by s next (turn_of h one)) before on)
