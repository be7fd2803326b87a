-- An operation that reads a group which is valid, through a log that reaches as far as it can: it asks the leader in the step in which it begins, and is committed.
use Rattle.std.proofs.Common.{◌≡◌, inl, inr, ℕ, zero, suc, ◌+◌, ◌==◌, ◌≤◌, nat_le, Bool, true, false, cond, List, [], ◌∷◌, ◌++◌, length, map, take, Option, Some, None, refl, sym, ap, ◌∙◌, subst, arith}
use Rattle.std.proofs.lemmas.Bool.Decides.{nat_tests}
use Rattle.mega_base.specs.declared.names.GroupId.{GroupId}
use Rattle.mega_base.specs.declared.names.OpId.{OpId}
use Rattle.mega_cluster.specs.declared.cluster.Cluster.{Cluster}
use Rattle.mega_entry.specs.declared.content.Content.{Content}
use Rattle.mega_entry.specs.declared.content.Enter.{Enter}
use Rattle.mega_handler.specs.Named.{Meanings}
use Rattle.mega_wire.specs.declared.message.Message.{Message}
use Rattle.mega_outcome.specs.declared.request.Request.{Request}
use Rattle.mega_leased_laws.specs.of_run_laws.of_tape_laws.of_promises.of_rules.of_read.of_propose.declared.round.Round.TheVariants.{Asking}
use Rattle.mega_leased_laws.specs.of_run_laws.of_tape_laws.of_promises.of_rules.of_read.declared.reading.Move.{Move as ReadMove}
use Rattle.mega_leased_laws.specs.of_run_laws.of_tape_laws.of_promises.of_rules.of_read.declared.reading.Reading.{Reading}
use Rattle.mega_leased_laws.specs.of_run_laws.of_tape_laws.of_promises.of_rules.of_read.declared.reading.Stage.TheVariants.{Catching}
use Rattle.mega_leased_laws.specs.of_run_laws.of_tape_laws.of_promises.of_rules.of_read.Catching.{local_read, polled_read, seeks}
use Rattle.mega_leased_laws.specs.of_run_laws.of_tape_laws.of_promises.of_transcript.declared.item.Item.TheVariants.{Answer as AnswerItem, Begin as BeginItem, Decide as DecideItem}
use Rattle.mega_leased_laws.specs.of_run_laws.of_tape_laws.of_promises.of_rules.Acting.{ActsAgain, Rests, acts as acts_now, committed, completes_read, finishes, goes_on, leader_after, proposes, proposes_by, reader_of, rests_within, seeks_on, sends_more, unless_decided}
use Rattle.mega_leased_laws.specs.of_run_laws.of_tape_laws.of_promises.of_rules.Clock.{clock_of, is_up}
use Rattle.mega_leased_laws.specs.of_run_laws.of_tape_laws.of_promises.of_rules.Coordinators.{serves_at}
use Rattle.mega_leased_laws.specs.of_run_laws.of_tape_laws.of_promises.of_rules.Logs.{decided, decided_from, groups_of, log_of, prefix_of, then_more, top_of}
use Rattle.mega_leased_laws.specs.of_run_laws.of_tape_laws.of_promises.of_rules.Members.{is_full, is_node, is_voter}
use Rattle.mega_leased_laws.specs.of_run_laws.of_tape_laws.of_promises.of_rules.Met.{Met, Begins, Sends}
use Rattle.mega_leased_laws.specs.of_run_laws.of_tape_laws.of_promises.of_rules.Operations.{Node, Now, Operation, Promised, Proposes, Reads, Setting}
use Rattle.mega_leased_laws.specs.of_run_laws.of_tape_laws.of_promises.of_rules.Steps.{Begin, Step, apply_notes, at_first, at_open, begin_step, new_operation, onto, op_of, refusal, unless_refused}
use Rattle.mega_leased_laws.specs.of_run_laws.of_tape_laws.of_promises.of_rules.Voting.{acts}
use Rattle.mega_leased_laws.specs.of_run_laws.of_tape_laws.of_promises.Calm.{IsCalm, begun, is_cut}
use Rattle.mega_leased_laws.specs.of_run_laws.of_tape_laws.of_promises.Items.{number, shown}
use Rattle.mega_leased_laws.specs.of_run_laws.of_tape_laws.of_promises.Promises.{Stands}
use Rattle.mega_leased_laws.specs.of_run_laws.of_tape_laws.of_promises.Runs.{Cuts, Standing, drained, set_at, setting, whole_step}
use Rattle.mega_calm_laws.specs.Next.{IsNextAt, leader_behind}
use Rattle.mega_calm_laws.specs.Proposed.{Asked, IsProposedAlone, asks_leader}
use Rattle.mega_calm_laws.specs.Waiting.{IsNumbered}
use Rattle.mega_leased_laws.specs.of_run_laws.Justified.{Each}
use Rattle.mega_calm_laws.proofs.Mail.{Among, Mailed, mailed_plain, mailed_step, none_gone, number_is, number_self}
use Rattle.mega_calm_laws.proofs.Draining.{IsUnfused, at_node_whole, unfused_after}
use Rattle.mega_calm_laws.proofs.Prefixes.{behind_prefix}
use Rattle.mega_calm_laws.proofs.Voting.{IsBland, NodeOn, applies_bland, bland_onto, node_then}
use Rattle.mega_calm_laws.proofs.Beginning.{full_node, none_waits_yet}
use Rattle.mega_calm_laws.proofs.Proposed.{proposal_committed, proposal_decided}
use Rattle.mega_leased_laws.proofs.of_run_laws.Events.{onto_append}

-- ---- a log with one thing more met

from_same : (a b : List Met) (g : GroupId) → ((k : ℕ) → decided a g k ≡ decided b g k) → (most k : ℕ) → decided_from a g most k ≡ decided_from b g most k
from_same a b g same zero k = refl
from_same a b g same (suc most) k = ap (λ o. then_more o (decided_from a g most (k + 1))) (same k) ∙ ap (then_more (decided b g k)) (from_same a b g same most (k + 1))

fuel_more : (met : List Met) (g : GroupId) (most k : ℕ) → decided met g (k + length (decided_from met g most k)) ≡ None → decided_from met g (suc most) k ≡ decided_from met g most k
fuel_more met g zero k none = ap (λ o. then_more o []) (ap (decided met g) (let same : k ≡ k + 0 = omega arith in same) ∙ none)
fuel_more met g (suc most) k none = by (decided met g k) refl none (fuel_more met g most (k + 1))
  where
    by : (o : Option Content) → decided met g k ≡ o → decided met g (k + length (then_more o (decided_from met g most (k + 1)))) ≡ None
        → (decided met g ((k + 1) + length (decided_from met g most (k + 1))) ≡ None → decided_from met g (suc most) (k + 1) ≡ decided_from met g most (k + 1))
        → then_more (decided met g k) (decided_from met g (suc most) (k + 1)) ≡ then_more (decided met g k) (decided_from met g most (k + 1))
    by None is then again = ap (λ o. then_more o (decided_from met g (suc most) (k + 1))) is ∙ sym (ap (λ o. then_more o (decided_from met g most (k + 1))) is)
    by (Some e) is then again = ap (then_more (decided met g k)) (again (ap (decided met g) (let same : (k + 1) + length (decided_from met g most (k + 1)) ≡ k + suc (length (decided_from met g most (k + 1))) = omega arith in same) ∙ then))

pub begins_log : (op : OpId) (text : List ℕ) (met : List Met) (g : GroupId) → log_of (Begins op text ∷ met) g ≡ log_of met g
begins_log op text met g = from_same (Begins op text ∷ met) met g (λ k. refl) (suc (length met)) 1
    ∙ fuel_more met g (length met) 1 (ap (decided met g) (let same : 1 + prefix_of met g ≡ prefix_of met g + 1 = omega arith in same) ∙ behind_prefix met g)

pub take_all : {X : Type 0} (xs : List X) → take (length xs) xs ≡ xs
take_all [] = refl
take_all (x ∷ xs) = ap (λ l. x ∷ l) (take_all xs)

at_most_self : (n : ℕ) → nat_le n n ≡ true
at_most_self n = grind (arith, nat_tests)

pub above_not : (limit p : ℕ) → p + 1 ≤ limit → nat_le limit p ≡ false
above_not limit p le = grind (arith, nat_tests)

-- ---- the step in which it begins

module _ (s : Setting) (node : Node) (request : Request) (text : List ℕ) (none : node.open_operations ≡ []) (g : GroupId) (entering : Option Enter) (own : Content) (promised : Promised) (leader : ℕ) where
  abbrev pub id : OpId
  id = op_of s node.met

  abbrev pub base : List Met
  base = Begins id text ∷ node.met

  abbrev pub clock : ℕ
  clock = clock_of node.met

  abbrev pub begin : Now
  begin = at_open (at_first base node.stored) node.open_operations

  abbrev pub top : ℕ
  top = top_of node.met g

  abbrev pub through : ℕ
  through = prefix_of node.met g

  abbrev pub reading : ℕ → Reading
  reading p = record { noted = None; asked = []; stage = Catching p None }

  abbrev pub reads : ℕ → Operation
  reads p = record { id = id; request = request; began = clock; visited = g ∷ []; message = entering; phase = Reads g (reading p) }

  abbrev pub writes : Operation
  writes = record { id = id; request = request; began = clock; visited = g ∷ []; message = entering; phase = Proposes g (through + 1) [] (record { own = own; seen = 0; round = Asking leader clock }) promised }

  abbrev pub acted : Now
  acted = unless_refused s begin (new_operation id request clock) (refusal s node request)

  abbrev asked_so : Bool → ReadMove
  asked_so b = cond {A = ReadMove} b (local_read [] top) (polled_read (reader_of s id g) (serves_at s.cluster base) [] clock)

  -- what a group is read as, where it is valid or not
  abbrev pub reads_so : Bool → Now
  reads_so b = goes_on s (sends_more begin (asked_so b).sends) (record { id = id; request = request; began = clock; visited = g ∷ []; message = entering; phase = Reads g (asked_so b).reading })

  -- what is at hand when its read is complete
  abbrev pub complete : ℕ → Now
  complete p = completes_read s (sends_more begin []) g (reading p) p

  abbrev pub left : Now
  left = record { met = base; stored = (complete through).stored; kept = node.open_operations ++ writes ∷ []; valid = []; answers = []; sends = asks_leader id leader g (through + 1) own ∷ [] }

  prefix_same : prefix_of base g ≡ through
  prefix_same = ap length (begins_log id text node.met g)

  led_same : (p : ℕ) → leader_after s (complete p) g p ≡ leader_behind s.cluster node.met g p
  led_same zero = refl
  led_same (suc p) = refl

  module _ (begins_reading : acted ≡ reads_so true) (reaches : top_of node.met g ≡ prefix_of node.met g) (led : leader_behind s.cluster node.met g (prefix_of node.met g) ≡ Some leader)
      (undecided : decided node.met g (prefix_of node.met g + 1) ≡ None)
      (finishes_so : finishes s (complete through) (reads through) g (reading through) through ≡ Rests (proposes s (complete through) (reads through) g (reading through) through own promised)) where
    proposes_so : proposes s (complete through) (reads through) g (reading through) through own promised ≡ left
    proposes_so = ap (proposes_by s (complete through) (reads through) g (reading through) through own promised) (led_same through ∙ led)
        ∙ ap (unless_decided (sends_more (complete through) (asks_leader id leader g (through + 1) own ∷ [])) writes (through + 1) promised) undecided

    acts_so : acts_now s (sends_more begin []) (reads through) ≡ Rests left
    acts_so = reads_on_so (nat_le through (prefix_of base g)) (ap (nat_le through) prefix_same ∙ at_most_self through)
      where
        reads_on_so : (t : Bool) → t ≡ true → cond t (finishes s (complete through) (reads through) g (reading through) through)
            (Rests (seeks_on (reads through) (sends_more begin []) g (seeks (reader_of s id g) (reading through) (prefix_of base g + 1) (clock_of base)))) ≡ Rests left
        reads_on_so true e = finishes_so ∙ ap Rests proposes_so
        reads_on_so false e = cc

    acted_so : acted ≡ left
    acted_so = begins_reading ∙ (ap (λ p. goes_on s (sends_more begin []) (reads p)) reaches
        ∙ (ap (λ k. rests_within k s (ActsAgain (sends_more begin []) (reads through))) (more (length (groups_of base))) ∙ ap (rests_within (length (groups_of base) + 1) s) acts_so))
      where
        more : (k : ℕ) → k + 2 ≡ suc (k + 1)
        more k = omega arith

    abbrev made : Step
    made = begin_step s node request text

    pub made_sends : made.sends ≡ asks_leader id leader g (through + 1) own ∷ []
    made_sends = ap (λ (x : Now). x.sends) acted_so

    pub made_opens : (made.node).open_operations ≡ writes ∷ []
    made_opens = ap (λ (x : Now). x.kept) acted_so ∙ ap (λ os. os ++ writes ∷ []) none

    pub made_on : (n : ℕ) → NodeOn g n node.met (made.node).met
    made_on n = subst (NodeOn g n node.met) (sym spread)
        (node_then g n node.met base (onto (map Sends made.sends) noted) (record { same_decided = refl; same_acts = refl; same_up = refl })
        (node_then g n base noted (onto (map Sends made.sends) noted)
        (node_then g n base (onto applies base) noted (bland_onto g n applies base (applies_bland s node.met node.stored acted.met acted.stored))
        (node_then g n (onto applies base) (onto acted.valid (onto applies base)) noted (bland_onto g n acted.valid (onto applies base) (subst (λ (x : Now). Each IsBland x.valid) (sym acted_so) tt))
        (bland_onto g n acted.answers (onto acted.valid (onto applies base)) (subst (λ (x : Now). Each IsBland x.answers) (sym acted_so) tt))))
        (bland_onto g n (map Sends made.sends) noted (subst (λ ms. Each IsBland (map Sends ms)) (sym made_sends) (tt, tt)))))
      where
        applies : List Met
        applies = apply_notes s node.met node.stored acted.met acted.stored

        noted : List Met
        noted = onto acted.answers (onto acted.valid (onto applies base))

        spread : (made.node).met ≡ onto (map Sends made.sends) noted
        spread = ap (onto (map Sends made.sends)) (onto_append ((([] ++ []) ++ applies) ++ acted.valid) acted.answers base ∙ ap (onto acted.answers) (onto_append (([] ++ []) ++ applies) acted.valid base))

-- ---- the standing in which it has begun

module _ (c : Cluster) (h : Meanings) (cuts : Cuts) (now : Standing) (me : ℕ) (request : Request) (text : List ℕ) (its_group : GroupId) (entering : Option Enter) (own : Content) (promised : Promised)
    (calm : IsCalm c now its_group) (in_order : IsNumbered now.tape) (full : is_full c me ≡ true) (n leader : ℕ) (is : IsNextAt c now me its_group n leader)
    (begins_reading : acted (setting c h me) (now.node me) request text (calm.none_open me (full_node c me full)) its_group entering own promised leader ≡ reads_so (setting c h me) (now.node me) request text (calm.none_open me (full_node c me full)) its_group entering own promised leader true)
    (finishes_so : finishes (setting c h me) (complete (setting c h me) (now.node me) request text (calm.none_open me (full_node c me full)) its_group entering own promised leader (prefix_of (now.node me).met its_group))
    (reads (setting c h me) (now.node me) request text (calm.none_open me (full_node c me full)) its_group entering own promised leader (prefix_of (now.node me).met its_group)) its_group
    (record { noted = None; asked = []; stage = Catching (prefix_of (now.node me).met its_group) None }) (prefix_of (now.node me).met its_group)
    ≡ Rests (proposes (setting c h me) (complete (setting c h me) (now.node me) request text (calm.none_open me (full_node c me full)) its_group entering own promised leader (prefix_of (now.node me).met its_group))
    (reads (setting c h me) (now.node me) request text (calm.none_open me (full_node c me full)) its_group entering own promised leader (prefix_of (now.node me).met its_group)) its_group
    (record { noted = None; asked = []; stage = Catching (prefix_of (now.node me).met its_group) None }) (prefix_of (now.node me).met its_group) own promised)) where
  abbrev its_through : ℕ
  its_through = prefix_of (now.node me).met its_group

  abbrev its_id : OpId
  its_id = op_of (setting c h me) (now.node me).met

  abbrev its_step : Step
  its_step = begin_step (setting c h me) (now.node me) request text

  there : is_node c me ≡ true
  there = full_node c me full

  its_none : (now.node me).open_operations ≡ []
  its_none = calm.none_open me there

  its_undecided : decided (now.node me).met its_group (prefix_of (now.node me).met its_group + 1) ≡ None
  its_undecided = subst (λ k. decided (now.node me).met its_group k ≡ None) is.next (is.undecided me there)

  abbrev first : Standing
  first = whole_step c now me (BeginItem its_id text ∷ []) its_step

  abbrev asked : Asked
  asked = record {
    operation = record { id = its_id; request = request; began = clock_of (now.node me).met; visited = its_group ∷ []; message = entering; phase = Proposes its_group (its_through + 1) [] (record { own = own; seen = 0; round = Asking leader (clock_of (now.node me).met) }) promised };
    group = its_group;
    position = its_through + 1;
    entry = own;
    leader = leader;
    told = [];
    promised = promised;
    seen = 0;
    sent = clock_of (now.node me).met;
  }

  its_mail : Mailed now.tape first.tape none_gone its_step.sends
  its_mail = mailed_step c (set_at now.node me its_step.node) me now.tape (BeginItem its_id text) none_gone its_step.notes its_step.sends refl refl (mailed_plain (BeginItem its_id text) now.tape tt in_order)

  its_sends : its_step.sends ≡ asks_leader its_id leader its_group (its_through + 1) own ∷ []
  its_sends = made_sends (setting c h me) (now.node me) request text its_none its_group entering own promised leader begins_reading is.reaches is.led its_undecided finishes_so

  its_opens : (its_step.node).open_operations ≡ asked.operation ∷ []
  its_opens = made_opens (setting c h me) (now.node me) request text its_none its_group entering own promised leader begins_reading is.reaches is.led its_undecided finishes_so

  its_on : NodeOn its_group n (now.node me).met (its_step.node).met
  its_on = made_on (setting c h me) (now.node me) request text its_none its_group entering own promised leader begins_reading is.reaches is.led its_undecided finishes_so n

  proposed_alone : IsProposedAlone c first asked
  proposed_alone = record {
    all_up = λ v node. up_at v node (me == v);
    no_log_fuse = λ v node. (unfused v node).no_log;
    no_data_fuse = λ v node. (unfused v node).no_data;
    in_order = its_mail.numbered;
    proposes = refl;
    alone = ap (λ t. (cond t its_step.node (now.node me)).open_operations) self ∙ its_opens;
    others_idle = λ v node apart. idle_at v node apart (me == v) refl;
    at_full = full;
    leader_votes = is.leader_votes;
    asked = its_mail.sends _ (subst (Among (asks_leader its_id leader its_group (its_through + 1) own)) (sym its_sends) (inl refl));
    nothing_else = λ k m w. elim (its_mail.comes k m w) [
      | inl early ↦ absurd (none_waits_yet now.tape calm.quiet k m early.1)
      | inr i ↦ only m (subst (Among m) its_sends i)
    ];
    unaccepted = λ v voter. subst (λ k. acts (first.node v).met its_group k ≡ []) is.next (acts_at v voter (me == v) refl);
    undecided = λ v node. subst (λ k. decided (first.node v).met its_group k ≡ None) is.next (decided_at v node (me == v) refl);
  }
    where
      self : (me == me) ≡ true
      self = number_self me

      only : (m : Message) → Among m (asks_leader its_id leader its_group (its_through + 1) own ∷ []) → m ≡ asks_leader its_id leader its_group (its_through + 1) own
      only m (inl e) = sym e
      only m (inr later) = absurd later

      unfused : (v : ℕ) → is_node c v ≡ true → IsUnfused first v
      unfused v node = unfused_after c now me (BeginItem its_id text ∷ []) its_step v (record { no_log = calm.no_log_fuse me there; no_data = calm.no_data_fuse me there }) (record { no_log = calm.no_log_fuse v node; no_data = calm.no_data_fuse v node })

      up_at : (v : ℕ) → is_node c v ≡ true → (t : Bool) → is_up (cond t its_step.node (now.node v)).met ≡ true
      up_at v node true = its_on.same_up ∙ calm.all_up me there
      up_at v node false = calm.all_up v node

      idle_at : (v : ℕ) → is_node c v ≡ true → (v == me) ≡ false → (t : Bool) → (me == v) ≡ t → (cond t its_step.node (now.node v)).open_operations ≡ []
      idle_at v node apart true same = absurd (let never = sym (ap (λ x. x == me) (sym (number_is me v same)) ∙ self) ∙ apart in cc)
      idle_at v node apart false same = calm.none_open v node

      acts_at : (v : ℕ) → is_voter c v ≡ true → (t : Bool) → (me == v) ≡ t → acts (cond t its_step.node (now.node v)).met its_group n ≡ []
      acts_at v voter true same = its_on.same_acts ∙ is.unaccepted me (ap (is_voter c) (number_is me v same) ∙ voter)
      acts_at v voter false same = is.unaccepted v voter

      decided_at : (v : ℕ) → is_node c v ≡ true → (t : Bool) → (me == v) ≡ t → decided (cond t its_step.node (now.node v)).met its_group n ≡ None
      decided_at v node true same = its_on.same_decided ∙ is.undecided me there
      decided_at v node false same = is.undecided v node

  begun_so : begun c h cuts now me request text ≡ first
  begun_so = at_node_whole c h now me (shown me (Begins its_id text)) (Begin request text) (cuts now me) (record { no_log = calm.no_log_fuse me there; no_data = calm.no_data_fuse me there })

  -- it is answered, and its entry is decided at its node
  pub at_once_committed : (most : ℕ) → own.id ≡ Some its_id → is_cut (drained c h cuts (begun c h cuts now me request text) most).tape ≡ false
      → Stands (AnswerItem its_id (committed n promised)) (drained c h cuts (begun c h cuts now me request text) most).tape
  at_once_committed most named = subst (λ standing. is_cut (drained c h cuts standing most).tape ≡ false → Stands (AnswerItem its_id (committed n promised)) (drained c h cuts standing most).tape) (sym begun_so)
      (λ not_cut. subst (λ k. Stands (AnswerItem its_id (committed k promised)) (drained c h cuts first most).tape) (sym is.next) (proposal_committed c h cuts first asked most proposed_alone named not_cut))

  pub at_once_decided : (most : ℕ) → is_cut (drained c h cuts (begun c h cuts now me request text) most).tape ≡ false
      → Stands (DecideItem (number me) its_group (record { 0 = n }) own) (drained c h cuts (begun c h cuts now me request text) most).tape
  at_once_decided most = subst (λ standing. is_cut (drained c h cuts standing most).tape ≡ false → Stands (DecideItem (number me) its_group (record { 0 = n }) own) (drained c h cuts standing most).tape) (sym begun_so)
      (λ not_cut. subst (λ k. Stands (DecideItem (number me) its_group (record { 0 = k }) own) (drained c h cuts first most).tape) (sym is.next) (proposal_decided c h cuts first asked most proposed_alone not_cut))
