-- A calm cluster falls quiet behind any request: its nodes stay up, and by the end of a drain that is not cut every message was taken or dropped.
use Rattle.std.proofs.Common.{◌≡◌, ℕ, ◌==◌, ◌||◌, ◌≤◌, nat_le, Bool, true, false, cond, List, [], ◌∷◌, ◌++◌, length, map, Option, Some, None, refl, sym, ap, ◌∙◌, subst, arith}
use Rattle.std.proofs.lemmas.Bool.Decides.{nat_tests}
use Rattle.std.proofs.lemmas.Bool.{and_parts}
use Rattle.mega_base.specs.declared.names.GroupId.{GroupId}
use Rattle.mega_base.specs.declared.names.OpId.{OpId}
use Rattle.mega_cluster.specs.declared.cluster.Cluster.{Cluster}
use Rattle.mega_coordinator.specs.declared.answers.NotValid.{NotValid}
use Rattle.mega_handler.specs.Named.{Meanings}
use Rattle.mega_wire.specs.declared.message.Message.{Message}
use Rattle.mega_outcome.specs.declared.request.Request.{Request}
use Rattle.mega_leased_laws.specs.of_run_laws.of_tape_laws.of_promises.of_transcript.declared.item.Item.TheVariants.{Begin as BeginItem, Taken}
use Rattle.mega_leased_laws.specs.of_run_laws.of_tape_laws.of_promises.of_transcript.Tape.{is_sent, is_taken, sent_count}
use Rattle.mega_member_laws.specs.Messages.{IsWithin}
use Rattle.mega_member_laws.proofs.Steps.{step_within}
use Rattle.mega_leased_laws.specs.of_run_laws.of_tape_laws.of_promises.of_rules.Acting.{validated_by}
use Rattle.mega_leased_laws.specs.of_run_laws.of_tape_laws.of_promises.of_rules.Clock.{clock_of, is_up}
use Rattle.mega_leased_laws.specs.of_run_laws.of_tape_laws.of_promises.of_rules.Members.{is_node}
use Rattle.mega_leased_laws.specs.of_run_laws.of_tape_laws.of_promises.of_rules.Met.{Met, Answers, Begins, Crashes, Sends, Starts, Takes, Validates}
use Rattle.mega_leased_laws.specs.of_run_laws.of_tape_laws.of_promises.of_rules.Operations.{Node, Now, Setting}
use Rattle.mega_leased_laws.specs.of_run_laws.of_tape_laws.of_promises.of_rules.Replies.{reply_to}
use Rattle.mega_leased_laws.specs.of_run_laws.of_tape_laws.of_promises.of_rules.Steps.{Begin, Decision, Heard, Step, Take, all_act, apply_notes, at_first, at_open, begin_step, decision_note, first_settled, hears_message, if_new, new_operation, news, onto, op_of, refusal, step, stored_after, take_step, taken, told_decision, told_notes, unless_refused}
use Rattle.mega_leased_laws.specs.of_run_laws.of_tape_laws.of_promises.Calm.{IsCalm, begun, is_cut}
use Rattle.mega_leased_laws.specs.of_run_laws.of_tape_laws.of_promises.Items.{shown}
use Rattle.mega_leased_laws.specs.of_run_laws.of_tape_laws.of_promises.Messages.{is_dropped, message_of}
use Rattle.mega_leased_laws.specs.of_run_laws.of_tape_laws.of_promises.Runs.{Cuts, Standing, Whole, drained, set_at, setting, whole_step}
use Rattle.mega_leased_laws.specs.of_run_laws.Justified.{Each}
use Rattle.mega_leased_laws.proofs.of_run_laws.Events.{IsPlain, apply_plain, each_append as each_both, told_plain}
use Rattle.mega_leased_laws.proofs.of_run_laws.Noting.{Lasts, all_act_it, begun_it}
use Rattle.mega_calm_laws.specs.Waiting.{IsNumbered, Waits}
use Rattle.mega_calm_laws.proofs.Mail.{mailed_taken, numbered_plain, numbered_step}
use Rattle.mega_calm_laws.proofs.Draining.{Ends, IsUnfused, at_node_whole, drain_ends, none_waits, unfused_after}
use Rattle.mega_calm_laws.proofs.Within.{StaysIn, fated_in}

-- ---- a step leaves its node up

abbrev IsUpKept : Met → Type 0
IsUpKept (Starts start) = ⊥
IsUpKept Crashes = ⊥
IsUpKept _ = Unit {0}

up_one : (one : Met) (met : List Met) → IsUpKept one → is_up (one ∷ met) ≡ is_up met
up_one (Starts start) met h = absurd h
up_one Crashes met h = absurd h
up_one _ met h = refl

up_onto : (notes met : List Met) → Each IsUpKept notes → is_up (onto notes met) ≡ is_up met
up_onto [] met h = refl
up_onto (one ∷ notes) met h = up_onto notes (one ∷ met) h.1 ∙ up_one one met h.0

up_sends : (ms : List Message) (met : List Met) → is_up (onto (map Sends ms) met) ≡ is_up met
up_sends [] met = refl
up_sends (m ∷ ms) met = up_sends ms (Sends m ∷ met)

plain_up : (one : Met) → IsPlain one → IsUpKept one
plain_up (Starts start) h = absurd h
plain_up Crashes h = absurd h
plain_up _ h = tt

each_up : (notes : List Met) → Each IsPlain notes → Each IsUpKept notes
each_up [] h = tt
each_up (one ∷ notes) h = (plain_up one h.0, each_up notes h.1)

decision_up : (d : Option Decision) → Each IsUpKept (decision_note d)
decision_up None = tt
decision_up (Some d) = (tt, tt)

-- what operations note as they act
pub record NotesUp (now : Now) : Type 0 where
  pub valid_up : Each IsUpKept now.valid
  pub answers_up : Each IsUpKept now.answers

validated_up : (now : Now) (group : GroupId) (p : ℕ) (refusal : Option NotValid) → NotesUp now → NotesUp (validated_by now group p refusal)
validated_up now group p (Some why) h = h
validated_up now group p None h = record { valid_up = each_both IsUpKept now.valid (Validates group p ∷ []) h.valid_up (tt, tt); answers_up = h.answers_up }

notes_last : Lasts NotesUp
notes_last = record {
  keeps_it = λ now o h. record { valid_up = h.valid_up; answers_up = h.answers_up };
  ends_it = λ now op answer h. record { valid_up = h.valid_up; answers_up = each_both IsUpKept now.answers (Answers op answer ∷ []) h.answers_up (tt, tt) };
  sends_it = λ now ms h. record { valid_up = h.valid_up; answers_up = h.answers_up };
  stores_it = λ now stored h. record { valid_up = h.valid_up; answers_up = h.answers_up };
  validates_it = validated_up;
}

notes_up : (told durable applies : List Met) (now : Now) (met : List Met) → Each IsUpKept told → Each IsUpKept durable → Each IsUpKept applies → NotesUp now
    → is_up (onto (map Sends now.sends) (onto ((((told ++ durable) ++ applies) ++ now.valid) ++ now.answers) met)) ≡ is_up met
notes_up told durable applies now met a b d h = up_sends now.sends (onto ((((told ++ durable) ++ applies) ++ now.valid) ++ now.answers) met)
    ∙ up_onto ((((told ++ durable) ++ applies) ++ now.valid) ++ now.answers) met
    (each_both IsUpKept (((told ++ durable) ++ applies) ++ now.valid) now.answers (each_both IsUpKept ((told ++ durable) ++ applies) now.valid (each_both IsUpKept (told ++ durable) applies (each_both IsUpKept told durable a b) d) h.valid_up) h.answers_up)

taken_up : (s : Setting) (node : Node) (m : Message) (ts : List Heard) (d : Option Decision) (reply told_news : List Message) → is_up ((taken s node m (told_notes s node.met m.from m.body) ts d reply told_news).node).met ≡ is_up node.met
taken_up s node m ts d reply told_news =
    up_sends ((reply ++ told_news) ++ acted.sends) (onto ((((told ++ decision_note d) ++ applies) ++ acted.valid) ++ acted.answers) (Takes m ∷ node.met))
    ∙ up_onto ((((told ++ decision_note d) ++ applies) ++ acted.valid) ++ acted.answers) (Takes m ∷ node.met)
    (each_both IsUpKept (((told ++ decision_note d) ++ applies) ++ acted.valid) acted.answers
    (each_both IsUpKept ((told ++ decision_note d) ++ applies) acted.valid
    (each_both IsUpKept (told ++ decision_note d) applies (each_both IsUpKept told (decision_note d) (each_up told (told_plain s node.met m.from m.body)) (decision_up d)) (each_up applies (apply_plain s node.met node.stored acted.met acted.stored)))
    noted.valid_up) noted.answers_up)
  where
    told : List Met
    told = told_notes s node.met m.from m.body

    met : List Met
    met = onto (decision_note d) (onto told (Takes m ∷ node.met))

    acted : Now
    acted = all_act s (at_first met (stored_after s met node.stored d)) ts

    applies : List Met
    applies = apply_notes s node.met node.stored acted.met acted.stored

    noted : NotesUp acted
    noted = all_act_it NotesUp notes_last s ts (at_first met (stored_after s met node.stored d)) (record { valid_up = tt; answers_up = tt })

abbrev taken_by : Setting → Node → Message → List Heard → Option Decision → Step
taken_by s node m ts (Some d) = taken s node m (told_notes s node.met m.from m.body) ts (if_new node.met (Some d)) (reply_to s.cluster s.me node.met m) []
taken_by s node m ts None =
    taken s node m (told_notes s node.met m.from m.body) ts (if_new node.met (first_settled ts)) (reply_to s.cluster s.me node.met m) (news s (if_new node.met (first_settled ts)))

taken_by_up : (s : Setting) (node : Node) (m : Message) (ts : List Heard) (o : Option Decision) → is_up ((taken_by s node m ts o).node).met ≡ is_up node.met
taken_by_up s node m ts (Some d) = taken_up s node m ts (if_new node.met (Some d)) (reply_to s.cluster s.me node.met m) []
taken_by_up s node m ts None = taken_up s node m ts (if_new node.met (first_settled ts)) (reply_to s.cluster s.me node.met m) (news s (if_new node.met (first_settled ts)))

take_up : (s : Setting) (node : Node) (m : Message) → is_up ((take_step s node m).node).met ≡ is_up node.met
take_up s node m = taken_by_up s node m (map (hears_message s (clock_of node.met) m) node.open_operations) (told_decision m.body)

begin_up : (s : Setting) (node : Node) (request : Request) (text : List ℕ) → is_up ((begin_step s node request text).node).met ≡ is_up node.met
begin_up s node request text = notes_up [] [] (apply_notes s node.met node.stored acted.met acted.stored) acted (own ∷ node.met) tt tt (each_up (apply_notes s node.met node.stored acted.met acted.stored) (apply_plain s node.met node.stored acted.met acted.stored))
    (begun_it NotesUp notes_last s begin (new_operation (op_of s node.met) request (clock_of node.met)) (refusal s node request) (record { valid_up = tt; answers_up = tt }))
  where
    own : Met
    own = Begins (op_of s node.met) text

    begin : Now
    begin = at_open (at_first (own ∷ node.met) node.stored) node.open_operations

    acted : Now
    acted = unless_refused s begin (new_operation (op_of s node.met) request (clock_of node.met)) (refusal s node request)

-- ---- a cluster in which all are up

pub record IsSteady (c : Cluster) (now : Standing) : Type 0 where
  pub stays : StaysIn c now
  pub up : (v : ℕ) → is_node c v ≡ true → is_up (now.node v).met ≡ true
  pub unfused : (v : ℕ) → is_node c v ≡ true → IsUnfused now v
  pub numbered_so : IsNumbered now.tape

set_up : (c : Cluster) (now : Standing) (v : ℕ) (made : Step) → ((u : ℕ) → is_node c u ≡ true → is_up (now.node u).met ≡ true) → is_up (made.node).met ≡ true → (u : ℕ) → is_node c u ≡ true → is_up (set_at now.node v made.node u).met ≡ true
set_up c now v made ups up u node = by (v == u)
  where
    by : (t : Bool) → is_up (cond t made.node (now.node u)).met ≡ true
    by true = up
    by false = ups u node

steady_takes : (c : Cluster) (h : Meanings) (now : Standing) → c.cells ≤ length c.nodes → IsSteady c now → (j : ℕ) (m : Message) → Waits now.tape j m → IsSteady c (whole_step c now m.to (Taken j ∷ []) (step (setting c h m.to) (now.node m.to) (Take m)))
steady_takes c h now few st j m w = record {
  stays = fated_in c few now m.to (Taken j) (Takes m) made [] Whole st.stays (λ nodes'. refl) (λ k. refl) (step_within (setting c h m.to) (now.node m.to) (Take m) within.to few ((st.stays).nodes m.to) within) within tt;
  up = set_up c now m.to made st.up (take_up (setting c h m.to) (now.node m.to) m ∙ st.up m.to within.to);
  unfused = λ u node. unfused_after c now m.to (Taken j ∷ []) made u (st.unfused m.to within.to) (st.unfused u node);
  numbered_so = numbered_step c (set_at now.node m.to made.node) m.to now.tape (Taken j) made.notes made.sends refl refl (mailed_taken now.tape j m w st.numbered_so).numbered;
}
  where
    made : Step
    made = step (setting c h m.to) (now.node m.to) (Take m)

    within : IsWithin c m
    within = (st.stays).messages j m w.sent

steady_begins : (c : Cluster) (h : Meanings) (now : Standing) (me : ℕ) (request : Request) (text : List ℕ) → c.cells ≤ length c.nodes → is_node c me ≡ true → IsSteady c now
    → IsSteady c (whole_step c now me (BeginItem (op_of (setting c h me) (now.node me).met) text ∷ []) (step (setting c h me) (now.node me) (Begin request text)))
steady_begins c h now me request text few here st = record {
  stays = fated_in c few now me (BeginItem id text) (Begins id text) made [] Whole st.stays (λ nodes'. refl) (λ k. refl) (step_within (setting c h me) (now.node me) (Begin request text) here few ((st.stays).nodes me) tt) tt tt;
  up = set_up c now me made st.up (begin_up (setting c h me) (now.node me) request text ∙ st.up me here);
  unfused = λ u node. unfused_after c now me (BeginItem id text ∷ []) made u (st.unfused me here) (st.unfused u node);
  numbered_so = numbered_step c (set_at now.node me made.node) me now.tape (BeginItem id text) made.notes made.sends refl refl (numbered_plain (BeginItem id text) now.tape tt st.numbered_so);
}
  where
    id : OpId
    id = op_of (setting c h me) (now.node me).met

    made : Step
    made = step (setting c h me) (now.node me) (Begin request text)

-- where no message is left, each was taken or dropped
quiet_then : (c : Cluster) (now : Standing) → Ends (IsSteady c) now → (k : ℕ) → is_sent now.tape k ≡ true → (is_taken now.tape k || is_dropped now.tape k) ≡ true
quiet_then c now ends k sent = by (is_taken now.tape k) refl (is_dropped now.tape k) refl
  where
    low : nat_le 1 k ≡ true → 1 ≤ k
    low e = grind (arith, nat_tests)

    high : nat_le k (sent_count now.tape) ≡ true → k ≤ sent_count now.tape
    high e = grind (arith, nat_tests)

    range : (nat_le 1 k ≡ true) × (nat_le k (sent_count now.tape) ≡ true)
    range = and_parts (nat_le 1 k) (nat_le k (sent_count now.tape)) sent

    m : (m : Message) × (message_of now.tape k ≡ Some m)
    m = ((ends.holds).numbered_so).there k (low range.0) (high range.1)

    by : (t : Bool) → is_taken now.tape k ≡ t → (u : Bool) → is_dropped now.tape k ≡ u → (is_taken now.tape k || is_dropped now.tape k) ≡ true
    by true e u f = ap (λ x. x || is_dropped now.tape k) e
    by false e true f = ap (λ x. x || is_dropped now.tape k) e ∙ f
    by false e false f = absurd (none_waits now ends.none k m.0 (record { above = low range.0; within = high range.1; sent = m.1; untaken = e; undropped = f })
        ((ends.holds).up (m.0).to ((((ends.holds).stays).messages k m.0 m.1).to)))

pub falls_quiet : (c : Cluster) (h : Meanings) (cuts : Cuts) (now : Standing) (me most : ℕ) (request : Request) (text : List ℕ) (group : GroupId) → c.cells ≤ length c.nodes → StaysIn c now → IsNumbered now.tape → IsCalm c now group → is_node c me ≡ true
    → is_cut (drained c h cuts (begun c h cuts now me request text) most).tape ≡ false → (k : ℕ) → is_sent (drained c h cuts (begun c h cuts now me request text) most).tape k ≡ true
    → (is_taken (drained c h cuts (begun c h cuts now me request text) most).tape k || is_dropped (drained c h cuts (begun c h cuts now me request text) most).tape k) ≡ true
falls_quiet c h cuts now me most request text group few stays in_order calm here not_cut = quiet_then c (drained c h cuts (begun c h cuts now me request text) most)
    (drain_ends c h cuts (IsSteady c) (λ standing st j one. st.unfused (one.message).to (((st.stays).messages j one.message (one.waits).sent).to)) (λ standing st j one. steady_takes c h standing few st j one.message one.waits) most
    (begun c h cuts now me request text) first not_cut)
  where
    first : IsSteady c (begun c h cuts now me request text)
    first = subst (IsSteady c) (sym (at_node_whole c h now me (shown me (Begins (op_of (setting c h me) (now.node me).met) text)) (Begin request text) (cuts now me) (record { no_log = calm.no_log_fuse me here; no_data = calm.no_data_fuse me here })))
        (steady_begins c h now me request text few here (record {
          stays = stays;
          up = λ v node. calm.all_up v node;
          unfused = λ v node. record { no_log = calm.no_log_fuse v node; no_data = calm.no_data_fuse v node };
          numbered_so = in_order;
        }))
