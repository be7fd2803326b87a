-- A step of a node: each message that it sends proposes with its operation's id only what was proposed before, or what the operation made in this step.
use Rattle.std.proofs.Common.{◌≡◌, inr, ℕ, ◌+◌, List, [], ◌∷◌, ◌++◌, map, fold, Option, Some, None, refl, sym, ◌∙◌}
use Rattle.mega_base.specs.declared.names.GroupId.{GroupId}
use Rattle.mega_base.specs.declared.names.OpId.{OpId}
use Rattle.mega_coordinator.specs.declared.answers.NotValid.{NotValid}
use Rattle.mega_entry.specs.declared.content.Content.{Content}
use Rattle.mega_outcome.specs.declared.request.Request.{Request}
use Rattle.mega_wire.specs.declared.message.Message.{Message}
use Rattle.mega_node_laws.specs.Acted.{or_settled}
use Rattle.mega_node_laws.proofs.Ending.{step_ends}
use Rattle.mega_node_laws.proofs.Logs.{log_stays}
use Rattle.mega_run_laws.specs.of_transcript.declared.item.Item.{Item}
use Rattle.mega_run_laws.specs.of_rules.Clock.{clock_of}
use Rattle.mega_run_laws.specs.of_rules.Coordinators.{acquires_at}
use Rattle.mega_run_laws.specs.of_rules.Logs.{log_of}
use Rattle.mega_run_laws.specs.of_rules.Met.{Begins, Met, Takes, Ticks, Validates}
use Rattle.mega_run_laws.specs.of_rules.Operations.{Node, Now, Operation, Setting}
use Rattle.mega_run_laws.specs.of_rules.Acting.{validated_by}
use Rattle.mega_run_laws.specs.of_rules.Replies.{reply_to}
use Rattle.mega_run_laws.specs.of_rules.Steps.{Begin, Decision, Heard, Take, Tick, all_act, at_first, at_open, background, begin_step, decision_note, does_due, first_settled, hears_message, if_new, lapse_notes, lease_notes, new_operation, news, onto, op_of, portion_of, refusal, stored_after, take_step, taken, tick_step, ticked, told_decision, told_notes}
use Rattle.mega_run_laws.specs.of_tape_laws.Lawful.{Lawful, message}
use Rattle.mega_run_laws.specs.of_tape_laws.Places.{Took}
use Rattle.mega_run_laws.specs.of_tape_laws.Writes.{AreWritten, Usage}
use Rattle.mega_run_laws.specs.Justified.{Each}
use Rattle.mega_run_laws.specs.Shows.{Shows}
use Rattle.mega_run_laws.proofs.Events.{each_append}
use Rattle.mega_run_laws.proofs.Turns.{Held, Known, each_on}
use Rattle.mega_run_laws.proofs.Whole.{take_by}
use Rattle.mega_handled_laws.proofs.Heard.{Says, due_says, heard_says, those_of}
use Rattle.mega_handled_laws.proofs.Made.{made_on, quiet_says}
use Rattle.mega_handled_laws.proofs.Quiet.{AreQuiet, Quiet, acquires_quiet, background_quiet, news_quiet, reply_quiet}
use Rattle.mega_handled_laws.proofs.Walk.{Lasts, all_act_it, begun_it, ticked_it}

abbrev pub logs_of : List Met → GroupId → List Content
logs_of met group = log_of met group

module _ (s : Setting) (usage : Usage) (tape : List Item) where
  abbrev pub OnNode : OpId → Type 0
  OnNode op = op.node.0 ≡ s.me

  module _ (log : GroupId → List Content) where
    abbrev pub SaysAt : Message → Type 0
    SaysAt m = Says s usage tape log m

    -- a node within the step has these logs, and sent only such messages
    record Sound (now : Now) : Type 0 where
      same : (group : GroupId) → log_of now.met group ≡ log group
      says : Each SaysAt now.sends

    quiet_at : (m : Message) → Quiet m → SaysAt m
    quiet_at m quiet = quiet_says s.cluster s.handlers tape log s.me m.from m.body quiet

    all_quiet : (ms : List Message) → AreQuiet ms → Each SaysAt ms
    all_quiet ms quiet = each_on Quiet SaysAt quiet_at ms quiet

    lasts : Lasts s OnNode SaysAt Sound
    lasts = record {
      quiet = quiet_at;
      keeps_it = λ now o h. record { same = h.same; says = h.says };
      ends_it = λ now op answer h. record { same = h.same; says = h.says };
      sends_it = λ now ms each h. record { same = h.same; says = each_append SaysAt now.sends ms h.says each };
      asks_it = λ now op group asked p leader own on made h. record {
        same = h.same;
        says = each_append SaysAt now.sends _ h.says
            ((λ id. inr (record { at_zero = refl; from_is = refl; node = on; made = made_on s.cluster s.handlers (log_of now.met group) (log group) op group (p + 1) own (h.same group) made })), tt);
      };
      stores_it = λ now stored h. record { same = h.same; says = h.says };
      validates_it = λ now group p refusal h. validated now group p refusal h;
    }
      where
        validated : (now : Now) (group : GroupId) (p : ℕ) (refusal : Option NotValid) → Sound now → Sound (validated_by now group p refusal)
        validated now group p (Some why) h = h
        validated now group p None h = record { same = λ other. log_stays (Validates group p) now.met other refl ∙ h.same other; says = h.says }

  -- ---- a message, a tick, and a request

  module _ (w : AreWritten s.cluster.schema usage tape) (lawful : Lawful s.cluster tape) (node : Node) (st k : ℕ) (known : Known s.me node.met tape)
      (held : Each (Held (those_of usage) s.cluster tape s.me st k node.met) node.open_operations) where
    module _ (m : Message) (took : Took tape (message m.from s.me m.body)) (shows : Shows tape s.me node.met) where
      abbrev ts : List Heard
      ts = map (hears_message s (clock_of node.met) m) node.open_operations

      all_heed : (log : GroupId → List Content) (os : List Operation) → Each (Held (those_of usage) s.cluster tape s.me st k node.met) os
          → Each (λ (t : Heard). OnNode (t.operation).id × Each (SaysAt log) t.sends) (map (hears_message s (clock_of node.met) m) os)
      all_heed log [] each = tt
      all_heed log (o ∷ os) each = (heard_says s usage tape log w lawful st k node.met known (clock_of node.met) m o took each.0, all_heed log os each.1)

      taken_says : (log : GroupId → List Content) (d : Option Decision) (told_news : List Message) → AreQuiet told_news
          → ((group : GroupId) → log_of (onto (decision_note d) (onto (told_notes s node.met m.from m.body) (Takes m ∷ node.met))) group ≡ log group)
          → Each (SaysAt log) (taken s node m (told_notes s node.met m.from m.body) ts d (reply_to s.cluster s.me node.met m) told_news).sends
      taken_says log d told_news quiet same =
          each_append (SaysAt log) (reply_to s.cluster s.me node.met m ++ told_news) acted.sends
          (each_append (SaysAt log) (reply_to s.cluster s.me node.met m) told_news (all_quiet log _ (reply_quiet s.cluster tape s.me node.met m shows took)) (all_quiet log told_news quiet))
          (all_act_it s OnNode (SaysAt log) (Sound log) (lasts log) ts begin (all_heed log node.open_operations held) (record { same = same; says = tt })).says
        where
          base : List Met
          base = onto (decision_note d) (onto (told_notes s node.met m.from m.body) (Takes m ∷ node.met))

          begin : Now
          begin = at_first base (stored_after s base node.stored d)

          acted : Now
          acted = all_act s begin ts

      take_by_says : (told : Option Decision)
          → ((group : GroupId) → log_of (take_by s node m ts told).node.met group ≡ log_of (onto (decision_note (if_new node.met (or_settled told (first_settled ts)))) (onto (told_notes s node.met m.from m.body) (Takes m ∷ node.met))) group)
          → Each (SaysAt (logs_of (take_by s node m ts told).node.met)) (take_by s node m ts told).sends
      take_by_says (Some d) same = taken_says (logs_of (take_by s node m ts (Some d)).node.met) (if_new node.met (Some d)) [] tt (λ group. sym (same group))
      take_by_says None same = taken_says (logs_of (take_by s node m ts None).node.met) (if_new node.met (first_settled ts)) (news s (if_new node.met (first_settled ts))) (news_quiet s (if_new node.met (first_settled ts))) (λ group. sym (same group))

      pub take_says : Each (SaysAt (logs_of (take_step s node m).node.met)) (take_step s node m).sends
      take_says = take_by_says (told_decision m.body) (step_ends s node (Take m)).logs

    all_due : (log : GroupId → List Content) (clock : ℕ) (os : List Operation) → Each (Held (those_of usage) s.cluster tape s.me st k node.met) os
        → Each (λ (o : Operation). OnNode ((does_due s clock o).operation).id × Each (SaysAt log) (does_due s clock o).sends) os
    all_due log clock [] each = tt
    all_due log clock (o ∷ os) each = (due_says s usage tape log w lawful st k node.met known clock o each.0, all_due log clock os each.1)

    pub tick_says : (clock : ℕ) → Each (SaysAt (logs_of (tick_step s node clock).node.met)) (tick_step s node clock).sends
    tick_says clock =
        each_append (SaysAt log) (acquires_at s.cluster s.me node.met clock ++ acted.sends) (background s node.met clock)
        (each_append (SaysAt log) (acquires_at s.cluster s.me node.met clock) acted.sends (all_quiet log _ (acquires_quiet s.cluster s.me node.met clock))
        (ticked_it s OnNode (SaysAt log) (Sound log) (lasts log) clock node.open_operations begin (all_due log clock node.open_operations held)
        (record { same = λ group. sym ((step_ends s node (Tick clock)).logs group); says = tt })).says)
        (all_quiet log _ (background_quiet s node.met clock))
      where
        log : GroupId → List Content
        log = logs_of (tick_step s node clock).node.met

        begin : Now
        begin = at_first (onto (lapse_notes s node.met clock) (onto (lease_notes s node.met clock) (Ticks clock ∷ node.met))) (portion_of s node.met node.stored)

        acted : Now
        acted = fold (ticked s clock) begin node.open_operations

  pub begin_says : (node : Node) (request : Request) (text : List ℕ) → Each (SaysAt (logs_of (begin_step s node request text).node.met)) (begin_step s node request text).sends
  begin_says node request text =
      (begun_it s OnNode (SaysAt log) (Sound log) (lasts log) (at_open (at_first (Begins (op_of s node.met) text ∷ node.met) node.stored) node.open_operations)
      (new_operation (op_of s node.met) request (clock_of node.met)) (refusal s node request) refl (record { same = λ group. sym ((step_ends s node (Begin request text)).logs group); says = tt })).says
    where
      log : GroupId → List Content
      log = logs_of (begin_step s node request text).node.met
