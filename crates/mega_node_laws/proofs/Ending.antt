-- A step ends with the logs on which its operations acted.
use Rattle.std.proofs.Common.{◌≡◌, ℕ, nat_lt, Bool, true, false, cond, List, [], ◌∷◌, ◌++◌, map, flat_map, fold, Option, Some, None, refl, sym, subst}
use Rattle.std.specs.List.{All}
use Rattle.std.proofs.lemmas.List.Elements.{All-append, All-cons, All-nil, All-push, All-weaker}
use Rattle.mega_base.specs.declared.names.GroupId.{GroupId}
use Rattle.mega_coordinator.specs.declared.answers.NotValid.{NotValid}
use Rattle.mega_wire.specs.declared.message.Message.{Message}
use Rattle.mega_outcome.specs.declared.request.Request.{Request}
use Rattle.mega_voter.specs.of_rules.Met.{Met, Answers, Applies, Begins, Sends, Takes, Ticks, Validates}
use Rattle.mega_voter.specs.of_rules.Members.{has_rows}
use Rattle.mega_voter.specs.of_rules.Clock.{clock_of}
use Rattle.mega_voter.specs.of_rules.Logs.{groups_of}
use Rattle.mega_voter.specs.of_rules.Operations.{Node, Now, Operation, Setting}
use Rattle.mega_voter.specs.of_rules.Acting.{validated_by}
use Rattle.mega_voter.specs.of_rules.Coordinators.{acquires_at}
use Rattle.mega_voter.specs.of_rules.Replies.{reply_to}
use Rattle.mega_voter.specs.of_rules.Steps.{Begin, Decision, Event, Heard, Step, Take, Tick, all_act, applied_at, apply_note, apply_notes, at_first, at_open, background, begin_step, decision_note, first_settled, hears_message, if_new, lapse_notes, lease_notes, new_operation, news, onto, op_of, portion_of, refusal, step, step_of, stored_after, take_step, taken, tick_step, ticked, told_decision, told_notes, unless_refused}
use Rattle.mega_node_laws.specs.Acted.{acted_on, or_settled, own_item}
use Rattle.mega_node_laws.specs.Asking.{Asks}
use Rattle.mega_node_laws.specs.Deciding.{IsNoDecision, SameLogs}
use Rattle.mega_node_laws.specs.Sending.{IsUnmade}
use Rattle.mega_node_laws.proofs.Acting.{asks_act}
use Rattle.mega_node_laws.proofs.Walk.{all_heard_hold}
use Rattle.mega_node_laws.proofs.Lasting.{IsHeard, Lasts, all_act_it, all_ticked_it, begun_it}
use Rattle.mega_node_laws.proofs.Logs.{same_after, same_self}
use Rattle.mega_node_laws.proofs.Within.{ask_lasts}

pub onto_append : (xs ys met : List Met) → onto (xs ++ ys) met ≡ onto ys (onto xs met)
onto_append [] ys met = refl
onto_append (x ∷ xs) ys met = onto_append xs ys (x ∷ met)

-- ---- what is noted of validates, answers and applying is no decision, and no message

abbrev pub IsSilent : Met → Type 0
IsSilent one = IsNoDecision one × IsUnmade one

pub undecided : (items : List Met) → All IsSilent items → All IsNoDecision items
undecided items silent = All-weaker IsSilent IsNoDecision (λ one both. both.0) items silent

pub unmade : (items : List Met) → All IsSilent items → All IsUnmade items
unmade items silent = All-weaker IsSilent IsUnmade (λ one both. both.1) items silent

pub record Quiet (now : Now) : Type 0 where
  pub valid : All IsSilent now.valid
  pub answers : All IsSilent now.answers

quiet_lasts : Lasts Quiet ⊥
quiet_lasts = record {
  keeps_it = λ now o about h. record { valid = h.valid; answers = h.answers };
  ends_it = λ now op answer h. record { valid = h.valid; answers = All-push IsSilent now.answers (Answers op answer) h.answers (refl, refl) };
  sends_it = λ now sends more h. record { valid = h.valid; answers = h.answers };
  stores_it = λ now stored h. record { valid = h.valid; answers = h.answers };
  validates_it = λ now group p refusal h. validated now group p refusal h;
}
  where
    validated : (now : Now) (group : GroupId) (p : ℕ) (refusal : Option NotValid) → Quiet now → Quiet (validated_by now group p refusal)
    validated now group p None h = record { valid = All-push IsSilent now.valid (Validates group p) h.valid (refl, refl); answers = h.answers }
    validated now group p (Some refusal) h = h

-- it lasts through a step's acting, and all that is sent asks
pub record ActsOn (now : Now) : Type 0 where
  pub sends : All Asks now.sends
  pub quiet : Quiet now

pub acting_lasts : Lasts ActsOn ⊥
acting_lasts = record {
  keeps_it = λ now o about h. record { sends = ask_lasts.keeps_it now o about h.sends; quiet = quiet_lasts.keeps_it now o about h.quiet };
  ends_it = λ now op answer h. record { sends = ask_lasts.ends_it now op answer h.sends; quiet = quiet_lasts.ends_it now op answer h.quiet };
  sends_it = λ now sends more h. record { sends = ask_lasts.sends_it now sends more h.sends; quiet = quiet_lasts.sends_it now sends more h.quiet };
  stores_it = λ now stored h. record { sends = ask_lasts.stores_it now stored h.sends; quiet = quiet_lasts.stores_it now stored h.quiet };
  validates_it = λ now group p refusal h. record { sends = ask_lasts.validates_it now group p refusal h.sends; quiet = quiet_lasts.validates_it now group p refusal h.quiet };
}

pub acting_begins : (now : Now) → now.sends ≡ [] → now.valid ≡ [] → now.answers ≡ [] → ActsOn now
acting_begins now nothing none empty = record {
  sends = subst (All Asks) (sym nothing) (All-nil Asks);
  quiet = record { valid = subst (All IsSilent) (sym none) (All-nil IsSilent); answers = subst (All IsSilent) (sym empty) (All-nil IsSilent) };
}

applied_silent : (was : List Met) (was_stored : GroupId → ℕ) (met : List Met) (stored : GroupId → ℕ) (groups : List GroupId) → All IsSilent (flat_map (apply_note was was_stored met stored) groups)
applied_silent was was_stored met stored [] = All-nil IsSilent
applied_silent was was_stored met stored (group ∷ groups) =
    All-append IsSilent (apply_note was was_stored met stored group) (flat_map (apply_note was was_stored met stored) groups)
    (by (nat_lt (applied_at was was_stored group) (applied_at met stored group))) (applied_silent was was_stored met stored groups)
  where
    by : (t : Bool) → All IsSilent (cond t (Applies group (applied_at met stored group) ∷ []) [])
    by true = All-cons IsSilent (Applies group (applied_at met stored group)) [] (refl, refl) (All-nil IsSilent)
    by false = All-nil IsSilent

pub apply_notes_silent : (s : Setting) (was : List Met) (was_stored : GroupId → ℕ) (met : List Met) (stored : GroupId → ℕ) → All IsSilent (apply_notes s was was_stored met stored)
apply_notes_silent s was was_stored met stored = by (has_rows s.cluster s.me)
  where
    by : (t : Bool) → All IsSilent (cond t (flat_map (apply_note was was_stored met stored) (groups_of met)) [])
    by true = applied_silent was was_stored met stored (groups_of met)
    by false = All-nil IsSilent

sent_silent : (sends : List Message) → All IsNoDecision (map Sends sends)
sent_silent [] = All-nil IsNoDecision
sent_silent (m ∷ sends) = All-cons IsNoDecision (Sends m) (map Sends sends) refl (sent_silent sends)

-- ---- a step as it ends

step_logs : (node : Node) (own : Met) (locks durable applies : List Met) (sends : List Message) (now : Now) → All IsSilent applies → Quiet now
    → SameLogs (onto durable (onto locks (own ∷ node.met))) (step_of node own locks durable applies sends now).node.met
step_logs node own locks durable applies sends now applied quiet =
    same_after (map Sends sends) base (onto ((((locks ++ durable) ++ applies) ++ now.valid) ++ now.answers) (own ∷ node.met)) (sent_silent sends)
    (subst (SameLogs base) (sym (onto_append (((locks ++ durable) ++ applies) ++ now.valid) now.answers (own ∷ node.met)))
    (same_after now.answers base (onto (((locks ++ durable) ++ applies) ++ now.valid) (own ∷ node.met)) (undecided now.answers quiet.answers)
    (subst (SameLogs base) (sym (onto_append ((locks ++ durable) ++ applies) now.valid (own ∷ node.met)))
    (same_after now.valid base (onto ((locks ++ durable) ++ applies) (own ∷ node.met)) (undecided now.valid quiet.valid)
    (subst (SameLogs base) (sym (onto_append (locks ++ durable) applies (own ∷ node.met)))
    (same_after applies base (onto (locks ++ durable) (own ∷ node.met)) (undecided applies applied)
    (subst (SameLogs base) (sym (onto_append locks durable (own ∷ node.met))) (same_self base))))))))
  where
    base : List Met
    base = onto durable (onto locks (own ∷ node.met))

taken_logs : (s : Setting) (node : Node) (m : Message) (told : List Met) (ts : List Heard) (d : Option Decision) (reply told_news : List Message) → All (IsHeard ⊥) ts
    → SameLogs (onto (decision_note d) (onto told (Takes m ∷ node.met))) (taken s node m told ts d reply told_news).node.met
taken_logs s node m told ts d reply told_news heard =
    step_logs node (Takes m) told (decision_note d) (apply_notes s node.met node.stored now.met now.stored) ((reply ++ told_news) ++ now.sends) now
    (apply_notes_silent s node.met node.stored now.met now.stored)
    (all_act_it ActsOn ⊥ acting_lasts s ts (at_first base (stored_after s base node.stored d)) heard (acting_begins _ refl refl refl)).quiet
  where
    base : List Met
    base = onto (decision_note d) (onto told (Takes m ∷ node.met))

    now : Now
    now = all_act s (at_first base (stored_after s base node.stored d)) ts

pub all_heard : (s : Setting) (clock : ℕ) (m : Message) (os : List Operation) → All (IsHeard ⊥) (map (hears_message s clock m) os)
all_heard s clock m os = all_heard_hold Asks s (asks_act s) clock m os

-- a message is taken with the decision that it tells, or with what an operation settled by it
abbrev pub taken_by : Setting → Node → Message → List Heard → Option Decision → Step
taken_by s node m ts (Some d) = taken s node m (told_notes s node.met m.from m.body) ts (if_new node.met (Some d)) (reply_to s.cluster s.me node.met m) []
taken_by s node m ts None =
    taken s node m (told_notes s node.met m.from m.body) ts (if_new node.met (first_settled ts)) (reply_to s.cluster s.me node.met m)
    (news s (if_new node.met (first_settled ts)))

taken_by_logs : (s : Setting) (node : Node) (m : Message) (ts : List Heard) (told : Option Decision) → All (IsHeard ⊥) ts
    → SameLogs (onto (decision_note (if_new node.met (or_settled told (first_settled ts)))) (onto (told_notes s node.met m.from m.body) (Takes m ∷ node.met))) (taken_by s node m ts told).node.met
taken_by_logs s node m ts (Some d) heard = taken_logs s node m (told_notes s node.met m.from m.body) ts (if_new node.met (Some d)) (reply_to s.cluster s.me node.met m) [] heard
taken_by_logs s node m ts None heard =
    taken_logs s node m (told_notes s node.met m.from m.body) ts (if_new node.met (first_settled ts)) (reply_to s.cluster s.me node.met m) (news s (if_new node.met (first_settled ts))) heard

take_logs : (s : Setting) (node : Node) (m : Message) → SameLogs (acted_on s node (Take m)) (take_step s node m).node.met
take_logs s node m = taken_by_logs s node m (map (hears_message s (clock_of node.met) m) node.open_operations) (told_decision m.body) (all_heard s (clock_of node.met) m node.open_operations)

tick_logs : (s : Setting) (node : Node) (now : ℕ) → SameLogs (acted_on s node (Tick now)) (tick_step s node now).node.met
tick_logs s node now =
    step_logs node (Ticks now) (lease_notes s node.met now) (lapse_notes s node.met now) (apply_notes s node.met node.stored acc.met acc.stored)
    ((acquires_at s.cluster s.me node.met now ++ acc.sends) ++ background s node.met now) acc
    (apply_notes_silent s node.met node.stored acc.met acc.stored)
    (all_ticked_it ActsOn ⊥ acting_lasts s now node.open_operations (at_first base (portion_of s node.met node.stored)) (λ impossible. absurd impossible) (acting_begins _ refl refl refl)).quiet
  where
    base : List Met
    base = onto (lapse_notes s node.met now) (onto (lease_notes s node.met now) (Ticks now ∷ node.met))

    acc : Now
    acc = fold (ticked s now) (at_first base (portion_of s node.met node.stored)) node.open_operations

begin_logs : (s : Setting) (node : Node) (request : Request) (text : List ℕ) → SameLogs (acted_on s node (Begin request text)) (begin_step s node request text).node.met
begin_logs s node request text =
    step_logs node (Begins (op_of s node.met) text) [] [] (apply_notes s node.met node.stored now.met now.stored) now.sends now
    (apply_notes_silent s node.met node.stored now.met now.stored)
    (begun_it ActsOn ⊥ acting_lasts s (at_open (at_first base node.stored) node.open_operations) (new_operation (op_of s node.met) request (clock_of node.met)) (refusal s node request) (acting_begins _ refl refl refl)).quiet
  where
    base : List Met
    base = Begins (op_of s node.met) text ∷ node.met

    now : Now
    now = unless_refused s (at_open (at_first base node.stored) node.open_operations) (new_operation (op_of s node.met) request (clock_of node.met)) (refusal s node request)

pub step_ends : (s : Setting) (node : Node) (event : Event) → SameLogs (acted_on s node event) (step s node event).node.met
step_ends s node (Tick now) = tick_logs s node now
step_ends s node (Take m) = take_logs s node m
step_ends s node (Begin request text) = begin_logs s node request text

-- a node met then what the step notes and sends
taken_by_met : (s : Setting) (node : Node) (m : Message) (ts : List Heard) (told : Option Decision)
    → (taken_by s node m ts told).node.met ≡ onto (map Sends (taken_by s node m ts told).sends) (onto (taken_by s node m ts told).notes (Takes m ∷ node.met))
taken_by_met s node m ts (Some d) = refl
taken_by_met s node m ts None = refl

pub step_met : (s : Setting) (node : Node) (event : Event) → (step s node event).node.met ≡ onto (map Sends (step s node event).sends) (onto (step s node event).notes (own_item s node event ∷ node.met))
step_met s node (Tick now) = refl
step_met s node (Take m) = taken_by_met s node m (map (hears_message s (clock_of node.met) m) node.open_operations) (told_decision m.body)
step_met s node (Begin request text) = refl
