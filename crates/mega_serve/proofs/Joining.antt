-- Turns are joined: what was read and received, and where the served node is then.
use Rattle.std.proofs.Common.{◌≡◌, ℕ, ◌+◌, ◌≤◌, List, [], ◌∷◌, ◌++◌, None, Option, Some, ap, append-nil, append_assoc, length, length-append, map, refl, subst, sym, ◌∙◌}
use Rattle.std.specs.Prelude.{option_map}
use Rattle.std.proofs.lemmas.List.{map-append}
use Rattle.mega_handler.specs.Named.{Meanings}
use Rattle.mega_link.specs.declared.peer.Peer.{Peer}
use Rattle.mega_link.specs.Datagrams.{Datagram, Gains}
use Rattle.mega_rules.specs.Operations.{Setting}
use Rattle.mega_rules.specs.Steps.{Tick}
use Rattle.mega_promises.specs.Runs.{setting}
use Rattle.mega_promises.specs.Served.{Served, Turn, received, ticked}
use Rattle.mega_serve.specs.declared.steps.Steps.{Ghosts}
use Rattle.mega_serve.specs.declared.waiting.Waiting.{Waiting as Waits}
use Rattle.mega_serve.specs.Turns.{AreTimes, GainsAll, HasTurned, IsServing, MayReceive, MayServe, MayTurn, Runs, TurnsOnce, Proceeds, schema_of, served_by, setting_of, turn_of, turned_by, turns_of}
use Rattle.mega_page.specs.Lines.{datagram_of}
use Rattle.mega_serve.specs.Wishes.{wish_of}
use Rattle.mega_serve.proofs.Going.{stays, proceeds_further}

-- ---- what is told of a list

pub gains_one : {A : Type 0} (old new : Option (List A)) (item : A) → Gains old new item → GainsAll old new (item ∷ [])
gains_one (Some all) (Some more) item is = is
gains_one None (Some more) item is = is
gains_one (Some all) None item is = tt
gains_one None None item is = tt

pub gains_nothing : {A : Type 0} (old : Option (List A)) → GainsAll old old []
gains_nothing (Some all) = sym (append-nil all)
gains_nothing None = tt

pub gains_more : {A : Type 0} (a b c : Option (List A)) (xs ys : List A) → GainsAll a b xs → GainsAll b c ys → GainsAll a c (xs ++ ys)
gains_more (Some all) (Some more) (Some last) xs ys one two = two ∙ ap (λ (front : List _). front ++ ys) one ∙ append_assoc all xs ys
gains_more (Some all) None (Some last) xs ys one two = absurd two
gains_more None (Some more) (Some last) xs ys one two = absurd one
gains_more None None (Some last) xs ys one two = absurd two
gains_more (Some all) b None xs ys one two = tt
gains_more None b None xs ys one two = tt

pub times_more : (given : List (ℕ × Option Datagram)) (one : ℕ × Option Datagram) → AreTimes given → AreTimes (one ∷ []) → AreTimes (given ++ one ∷ [])
times_more [] one first second = second
times_more (before ∷ given) one first second = (first.0, times_more given one first.1 second)

-- ---- turns that were made

pub none_turned : (read : Option (List ℕ)) (taken : Option (List (Option Datagram))) → HasTurned 0 read read taken taken []
none_turned read taken = record { counted = refl; readings = gains_nothing read; times = tt; received = gains_nothing taken }

pub turned_more : (n : ℕ) (a b c : Option (List ℕ)) (x y z : Option (List (Option Datagram))) (given : List (ℕ × Option Datagram)) (one : ℕ × Option Datagram)
    → HasTurned n a b x y given → HasTurned 1 b c y z (one ∷ []) → HasTurned (n + 1) a c x z (given ++ one ∷ [])
turned_more n a b c x y z given one first second = record {
  counted = length-append given (one ∷ []) ∙ ap (λ (m : ℕ). m + 1) first.counted;
  readings = subst (GainsAll a c) (sym (map-append (λ (one : ℕ × Option Datagram). one.0) given (one ∷ []))) (gains_more a b c _ _ first.readings second.readings);
  times = times_more given one first.times second.times;
  received = subst (GainsAll x z) (sym (map-append (λ (one : ℕ × Option Datagram). one.1) given (one ∷ []))) (gains_more x y z _ _ first.received second.received);
}

-- ---- where the served node is

pub may_split : {S : Type 0} (steps : Ghosts S) (s : Setting) (now : Served) (turns : List Turn) (turn : Turn) → MayServe steps s now (turns ++ turn ∷ []) → MayServe steps s now turns × MayTurn steps s (served_by s now turns) turn
may_split steps s now [] turn may = (tt, may.0)
may_split steps s now (one ∷ turns) turn may = let rest = may_split steps s (turned_by s now one) turns turn may.1 in ((may.0, rest.0), rest.1)

pub served_on : (s : Setting) (now : Served) (turns : List Turn) (turn : Turn) → served_by s now (turns ++ turn ∷ []) ≡ turned_by s (served_by s now turns) turn
served_on s now [] turn = refl
served_on s now (one ∷ turns) turn = served_on s (turned_by s now one) turns turn

pub runs_nothing : {S : Type 0} (steps : Ghosts S) (one : S) (waiting : List Waits) (held : Option (List ℕ)) (sent : Option (List Datagram)) → Runs steps one waiting one waiting held held sent sent []
runs_nothing steps one waiting held sent = λ h now serving may. stays steps h one waiting (schema_of steps one) held sent now serving

pub runs_more : {S : Type 0} (steps : Ghosts S) (first mid last : S) (waiting between left : List Waits) (a b c : Option (List ℕ)) (x y z : Option (List Datagram)) (given : List (ℕ × Option Datagram)) (one : ℕ × Option Datagram)
    → steps.members mid ≡ steps.members first → steps.me mid ≡ steps.me first → Runs steps first waiting mid between a b x y given → TurnsOnce steps mid between last left b c y z one → Runs steps first waiting last left a c x z (given ++ one ∷ [])
runs_more steps first mid last waiting between left a b c x y z given one members me runs turns = λ h now serving may.
    let s = setting_of steps first h in
    let same : setting_of steps mid h ≡ s = λ i. setting (members i) h (me i) in
    let split = may_split steps s now (turns_of h given) (turn_of h one) (subst (MayServe steps s now) (map-append (turn_of h) given (one ∷ [])) may) in
    let next = served_by s now (turns_of h given) in
    let before = runs h now serving split.0 in
    let after = turns h next before.serving (subst (λ (s : Setting). MayTurn steps s next (turn_of h one)) (sym same) split.1) in
    let on : Proceeds steps h last left (schema_of steps first) b c y z next (turned_by s next (turn_of h one)) =
    coe 0 1 (i. Proceeds steps h last left ((members i).schema) b c y z next (turned_by (same i) next (turn_of h one))) after in
    subst (λ (end : Served). Proceeds steps h last left (schema_of steps first) a c x z now end)
    (sym (ap (served_by s now) (map-append (turn_of h) given (one ∷ [])) ∙ served_on s now (turns_of h given) (turn_of h one)))
    (proceeds_further steps h mid last between left (schema_of steps first) a b c x y z now next (turned_by s next (turn_of h one)) before on)

-- ---- one turn

-- the tick of a reading, and then what a receive gave
pub turned_once : {S : Type 0} (steps : Ghosts S) (first mid last : S) (waiting between left : List Waits) (a b c : Option (List ℕ)) (x y z : Option (List Datagram)) (clock : ℕ) (datagram : Option Datagram)
    → steps.members mid ≡ steps.members first → steps.me mid ≡ steps.me first
    → ((h : Meanings) (was : Served) → IsServing steps h first waiting was → steps.may_happen (setting_of steps first h) was.node (Tick clock)
    → Proceeds steps h mid between (schema_of steps first) a b x y was (ticked (steps.members first) (steps.me first) h clock was))
    → ((h : Meanings) (now : Served) → IsServing steps h mid between now → MayReceive steps (setting_of steps mid h) now (option_map datagram_of datagram)
    → Proceeds steps h last left (schema_of steps mid) b c y z now (received (steps.members mid) (steps.me mid) (wish_of (schema_of steps mid) (steps.me mid)) h now (option_map datagram_of datagram)))
    → TurnsOnce steps first waiting last left a c x z (clock, datagram)
turned_once steps first mid last waiting between left a b c x y z clock datagram members me ticks receives = λ h now serving may.
    let next = ticked (steps.members first) (steps.me first) h clock now in
    let same : setting_of steps mid h ≡ setting_of steps first h = λ i. setting (members i) h (me i) in
    let before = ticks h now serving may.0 in
    let after = receives h next before.serving (subst (λ (s : Setting). MayReceive steps s next (option_map datagram_of datagram)) (sym same) may.1) in
    proceeds_further steps h mid last between left (schema_of steps first) a b c x y z now next (received (steps.members first) (steps.me first) (wish_of (schema_of steps first) (steps.me first)) h next (option_map datagram_of datagram)) before
    (coe 0 1 (i. Proceeds steps h last left ((members i).schema) b c y z next (received (members i) (me i) (wish_of ((members i).schema) (me i)) h next (option_map datagram_of datagram))) after)

pub has_turned : (a b : Option (List ℕ)) (x y z : Option (List (Option Datagram))) (clock : ℕ) (datagram : Option Datagram) → clock ≤ 1000000000000 → Gains a b clock → y ≡ x → Gains y z datagram → HasTurned 1 a b x z ((clock, datagram) ∷ [])
has_turned a b x y z clock datagram time read same took = record {
  counted = refl;
  readings = gains_one a b clock read;
  times = (time, tt);
  received = gains_one x z datagram (subst (λ (told : Option (List (Option Datagram))). Gains told z datagram) same took);
}

-- what was heard is what the front of the room has
pub heard : (x y z : Option (List (Option Datagram))) (peer : Peer) (cut bytes : List ℕ) → Gains x y (Some (peer, cut)) → z ≡ y → bytes ≡ cut → Gains x z (Some (peer, bytes))
heard x y z peer cut bytes took same is =
    subst (λ (told : Option (List (Option Datagram))). Gains x told (Some (peer, bytes))) (sym same) (subst (λ (bytes : List ℕ). Gains x y (Some (peer, bytes))) (sym is) took)
