-- One operation proposes its entry alone at a position of which nothing was accepted: each voter accepts it, and it is committed.
use Rattle.std.proofs.Common.{◌≡◌, ◌⊎◌, inl, inr, ℕ, suc, ◌+◌, ◌==◌, ◌&&◌, ◌||◌, max, Bool, true, false, not, cond, List, [], ◌∷◌, ◌++◌, length, map, Option, Some, None, is_none, refl, sym, ap, ◌∙◌, subst, arith}
use Rattle.std.specs.List.{list_all}
use Rattle.std.proofs.lemmas.Bool.{and_parts}
use Rattle.std.proofs.lemmas.Option.{same_Some}
use Rattle.mega_base.specs.declared.names.GroupId.{GroupId}
use Rattle.mega_base.specs.declared.names.OpId.{OpId}
use Rattle.mega_base.specs.declared.names.Position.{Position}
use Rattle.mega_ballot.specs.Order.{zero_ballot}
use Rattle.mega_cluster.specs.declared.cluster.Cluster.{Cluster}
use Rattle.mega_entry.specs.declared.content.Content.{Content}
use Rattle.mega_entry.specs.declared.content.Enter.{Enter}
use Rattle.mega_handler.specs.Named.{Meanings}
use Rattle.mega_wire.specs.declared.message.Message.{Message}
use Rattle.mega_wire.specs.declared.message.Body.{Body}
use Rattle.mega_wire.specs.declared.message.Body.TheVariants.{Accept, Accepted, Fetch, Have, HaveNot, Top, Where}
use Rattle.mega_wal.specs.Same.{same_entry, same_group, same_op}
use Rattle.mega_wal.proofs.Sames.{same_entry_self, same_group_equal, same_group_self, same_op_self}
use Rattle.mega_outcome.specs.declared.request.Request.{Request}
use Rattle.mega_leased_laws.specs.of_run_laws.of_tape_laws.of_promises.of_rules.of_read.of_propose.declared.round.Move.{Move as RoundMove}
use Rattle.mega_leased_laws.specs.of_run_laws.of_tape_laws.of_promises.of_rules.of_read.of_propose.declared.round.Proposal.{Proposal}
use Rattle.mega_leased_laws.specs.of_run_laws.of_tape_laws.of_promises.of_rules.of_read.of_propose.declared.round.Round.{Round}
use Rattle.mega_leased_laws.specs.of_run_laws.of_tape_laws.of_promises.of_rules.of_read.of_propose.declared.round.Round.TheVariants.{Asking, Accepting, Covering, Settled}
use Rattle.mega_leased_laws.specs.of_run_laws.of_tape_laws.of_promises.of_rules.of_read.of_propose.declared.round.Site.{Site}
use Rattle.mega_leased_laws.specs.of_run_laws.of_tape_laws.of_promises.of_rules.of_read.of_propose.Members.{has, is_majority, others, with_node}
use Rattle.mega_leased_laws.specs.of_run_laws.of_tape_laws.of_promises.of_rules.of_read.of_propose.Rounds.{accepts, covers, first_cover, is_covered, is_free, is_here, is_sent, move, sees, settled, stays as stays_so}
use Rattle.mega_leased_laws.specs.of_run_laws.of_tape_laws.of_promises.of_rules.of_read.Catching.{site}
use Rattle.mega_leased_laws.specs.of_run_laws.of_tape_laws.of_promises.of_transcript.declared.item.Item.{Item}
use Rattle.mega_leased_laws.specs.of_run_laws.of_tape_laws.of_promises.of_transcript.declared.item.Item.TheVariants.{Answer as AnswerItem, Decide as DecideItem, Taken}
use Rattle.mega_leased_laws.specs.of_run_laws.of_tape_laws.of_promises.of_transcript.Tape.{sent_count}
use Rattle.mega_leased_laws.specs.of_run_laws.of_tape_laws.of_promises.of_rules.Acting.{ActsAgain, goes_on, reader_of, rests_within, sends_more, unless_decided, verdict}
use Rattle.mega_leased_laws.specs.of_run_laws.of_tape_laws.of_promises.of_rules.Clock.{clock_of, is_up}
use Rattle.mega_leased_laws.specs.of_run_laws.of_tape_laws.of_promises.of_rules.Logs.{decided, first_of, groups_of, top_of}
use Rattle.mega_leased_laws.specs.of_run_laws.of_tape_laws.of_promises.of_rules.Members.{full_nodes, is_full, is_node, is_voter, nodes, voters}
use Rattle.mega_leased_laws.specs.of_run_laws.of_tape_laws.of_promises.of_rules.Met.{Met, Answers, Decides, Sends, Takes}
use Rattle.mega_leased_laws.specs.of_run_laws.of_tape_laws.of_promises.of_rules.Operations.{Node, Now, Operation, Phase, Promised, Proposes, Setting}
use Rattle.mega_leased_laws.specs.of_run_laws.of_tape_laws.of_promises.of_rules.Replies.{fetched, reply_message, reply_to, where_served}
use Rattle.mega_leased_laws.specs.of_run_laws.of_tape_laws.of_promises.of_rules.Steps.{Decision, Heard, Step, Take, apply_notes, decide_to, decision_at, decision_note, first_settled, hears_message, if_new, news, onto, round_heard, step, take_step, taken}
use Rattle.mega_leased_laws.specs.of_run_laws.of_tape_laws.of_promises.of_rules.Voting.{acts as acts_met, vote_body, voted}
use Rattle.mega_leased_laws.specs.of_run_laws.of_tape_laws.of_promises.Calm.{is_cut}
use Rattle.mega_leased_laws.specs.of_run_laws.of_tape_laws.of_promises.Items.{number, numbered}
use Rattle.mega_leased_laws.specs.of_run_laws.of_tape_laws.of_promises.Messages.{message_of}
use Rattle.mega_leased_laws.specs.of_run_laws.of_tape_laws.of_promises.Promises.{Stands}
use Rattle.mega_leased_laws.specs.of_run_laws.of_tape_laws.of_promises.Runs.{Cuts, Standing, drained, set_at, setting, whole_step}
use Rattle.mega_calm_laws.specs.Waiting.{IsAwaited, IsNumbered, Waits}
use Rattle.mega_leased_laws.specs.of_run_laws.Justified.{Each}
use Rattle.mega_leased_laws.proofs.of_run_laws.Events.{each_append as each_both}
use Rattle.mega_leased_laws.proofs.of_run_laws.Counted.{push_has, push_last}
use Rattle.mega_calm_laws.proofs.Mail.{Among, Mailed, among_left, among_right, answer_stands, apart_turned, decision_stands, each_of, mailed_step, mailed_taken, number_is, number_self}
use Rattle.mega_calm_laws.proofs.Draining.{Ends, IsUnfused, drain_ends, none_waits, unfused_after}
use Rattle.mega_calm_laws.proofs.Polls.{all_heard, among_others, among_voters, from_filter, has_voter, node_among, other_voter, voter_is_node, voter_of}
use Rattle.mega_calm_laws.proofs.Reading.{append_none}
use Rattle.mega_calm_laws.proofs.Stepping.{IsAsking, heard_by, message, takes_asking, takes_have, told_asking}
use Rattle.mega_calm_laws.proofs.Heard.{among_map, each_map}
use Rattle.mega_calm_laws.proofs.MessageKinds.{clash}
use Rattle.mega_calm_laws.proofs.Voting.{Clean, IsBland, IsNoAct, NodeOn, bland_onto, bland_sends, clean_accepts, decides_elsewhere, node_same, node_then, sends_leave, vote_made}
use Rattle.mega_calm_laws.proofs.Over.{IsTame, Over, Tame, acted, base, begins, met_is, noted, noted_on, over_on, over_takes, stepped}
use Rattle.mega_calm_laws.proofs.Alone.{op_at}
use Rattle.mega_calm_laws.proofs.Beginning.{full_votes}

-- ---- the operation

with_has : (v : ℕ) (xs : List ℕ) → has v (with_node v xs) ≡ true
with_has v xs = by (has v xs) refl
  where
    by : (t : Bool) → has v xs ≡ t → has v (cond t xs (xs ++ v ∷ [])) ≡ true
    by true e = e
    by false e = push_last v xs

with_more : (x v : ℕ) (xs : List ℕ) → has v xs ≡ true → has v (with_node x xs) ≡ true
with_more x v xs h = by (has x xs)
  where
    by : (t : Bool) → has v (cond t xs (xs ++ x ∷ [])) ≡ true
    by true = h
    by false = push_has x v xs h

all_true : (test : ℕ → Bool) (xs : List ℕ) → ((x : ℕ) → Among x xs → test x ≡ true) → list_all test xs ≡ true
all_true test [] h = refl
all_true test (x ∷ xs) h = ap (λ t. t && list_all test xs) (h x (inl refl)) ∙ all_true test xs (λ y i. h y (inr i))

abbrev or_later : Option Decision → Option Decision → Option Decision
or_later None other = other
or_later (Some d) other = Some d

module _ (c : Cluster) (me start nth : ℕ) (g : GroupId) (n : ℕ) (own : Content) (member : is_voter c me ≡ true) (request : Request) (began : ℕ) (visited : List GroupId) (entering : Option Enter) (asked : List ℕ) (promised : Promised) (h : Meanings) where
  abbrev pub op : OpId
  op = op_at me start nth

  abbrev pub s_of : ℕ → Setting
  s_of v = setting c h v

  abbrev pub accept_for : ℕ → Message
  accept_for v = message me v (Accept op g (record { 0 = n }) zero_ballot own)

  abbrev pub accepted_by : ℕ → Message
  accepted_by v = message v me (Accepted op g (record { 0 = n }) zero_ballot own)

  abbrev pub proposal : ℕ → Round → Proposal
  proposal seen round = record { own = own; seen = seen; round = round }

  abbrev pub proposes : ℕ → Round → Operation
  proposes seen round = record { id = op; request = request; began = began; visited = visited; message = entering; phase = Proposes g n asked (proposal seen round) promised }

  abbrev pub its_site : Site
  its_site = site (reader_of (s_of me) op g) asked n

  -- ---- what waits, and what it waits for

  -- it tells nothing of the position
  abbrev pub IsElsewhere : Body → Type 0
  IsElsewhere (Where o k) = Unit {0}
  IsElsewhere (Top o k p) = Unit {0}
  IsElsewhere (Fetch o k p) = Unit {0}
  IsElsewhere (HaveNot o k p) = Unit {0}
  IsElsewhere (Have o k p e) = (same_group k g && p.0 == n) ≡ false
  IsElsewhere _ = ⊥

  pub data Fits (m : Message) : Type 0 where
    is_stale : is_node c m.from ≡ true → is_node c m.to ≡ true → IsElsewhere m.body → Fits m
    asks_vote : (v : ℕ) → is_voter c v ≡ true → m ≡ accept_for v → Fits m
    tells_vote : (v : ℕ) → is_voter c v ≡ true → m ≡ accepted_by v → Fits m

  abbrev pub Polled : List Item → List ℕ → Type 0
  Polled tape those = (v : ℕ) → is_voter c v ≡ true → (has v those ≡ true) ⊎ (IsAwaited tape (accept_for v) ⊎ IsAwaited tape (accepted_by v))

  pub data At (now : Standing) : Type 0 where
    asks : (seen leader at : ℕ) → (now.node me).open_operations ≡ proposes seen (Asking leader at) ∷ [] → is_voter c leader ≡ true
        → IsAwaited now.tape (accept_for leader) ⊎ IsAwaited now.tape (accepted_by leader) → At now
    accepting : (seen : ℕ) (those : List ℕ) (at : ℕ) → (now.node me).open_operations ≡ proposes seen (Accepting zero_ballot own those at) ∷ [] → Polled now.tape those
        → is_majority (length (voters c)) (length those) ≡ false → At now
    covering : (seen : ℕ) (those : List ℕ) (at : ℕ) → (now.node me).open_operations ≡ proposes seen (Covering zero_ballot own (first_cover those) at) ∷ [] → Polled now.tape those
        → list_all (is_covered its_site (first_cover those)) (full_nodes c) ≡ false → At now

  pub record Alone (now : Standing) : Type 0 where
    pub up : (v : ℕ) → is_node c v ≡ true → is_up (now.node v).met ≡ true
    pub unfused : (v : ℕ) → is_node c v ≡ true → IsUnfused now v
    pub numbered_so : IsNumbered now.tape
    pub idle : (v : ℕ) → is_node c v ≡ true → (v == me) ≡ false → (now.node v).open_operations ≡ []
    pub mail : (k : ℕ) (m : Message) → Waits now.tape k m → Fits m
    pub clean : (v : ℕ) → is_voter c v ≡ true → Clean own (acts_met (now.node v).met g n)
    pub undecided : (v : ℕ) → is_node c v ≡ true → decided (now.node v).met g n ≡ None
    pub at : At now

  -- ---- a step of a node

  pub record Left (v : ℕ) (was now : List Met) : Type 0 where
    pub up_so : is_up now ≡ is_up was
    pub clean_so : is_voter c v ≡ true → Clean own (acts_met was g n) → Clean own (acts_met now g n)
    pub decided_so : decided now g n ≡ decided was g n

  left_of : (v : ℕ) (was now : List Met) → NodeOn g n was now → Left v was now
  left_of v was now on = record { up_so = on.same_up; clean_so = λ voter clean. subst (Clean own) (sym on.same_acts) clean; decided_so = on.same_decided }

  left_then : (v : ℕ) (a b d : List Met) → Left v a b → Left v b d → Left v a d
  left_then v a b d x y = record { up_so = y.up_so ∙ x.up_so; clean_so = λ voter clean. y.clean_so voter (x.clean_so voter clean); decided_so = y.decided_so ∙ x.decided_so }

  -- what it sends: its vote for the entry, or nothing of a voter
  abbrev pub SendsWell : List Message → Type 0
  SendsWell ms = (Each (λ (m : Message). IsNoAct m.body) ms) ⊎ ((v : ℕ) × (rest : List Message) × (ms ≡ accepted_by v ∷ rest) × Each (λ (m : Message). IsNoAct m.body) rest)

  sent_left : (v : ℕ) (ms : List Message) (met : List Met) → SendsWell ms → Left v met (onto (map Sends ms) met)
  sent_left v ms met (inl none) = left_of v met (onto (map Sends ms) met) (bland_onto g n (map Sends ms) met (bland_sends ms none))
  sent_left v ms met (inr vote) = subst (λ those. Left v met (onto (map Sends those) met)) (sym vote.2)
      (left_then v met (Sends (accepted_by vote.0) ∷ met) (onto (map Sends vote.1) (Sends (accepted_by vote.0) ∷ met))
      (record { up_so = refl; clean_so = λ voter clean. subst (Clean own) (sym (vote_made g n vote.0 me op own met)) (refl, clean); decided_so = refl })
      (left_of v (Sends (accepted_by vote.0) ∷ met) (onto (map Sends vote.1) (Sends (accepted_by vote.0) ∷ met)) (bland_onto g n (map Sends vote.1) (Sends (accepted_by vote.0) ∷ met) (bland_sends vote.1 vote.3))))

  step_left : (v : ℕ) (s : Setting) (node : Node) (m : Message) (ts : List Heard) (d : Option Decision) (reply told : List Message) → NodeOn g n (Takes m ∷ node.met) (base s node m ts d reply told)
      → Each IsBland (acted s node m ts d reply told).valid → Each IsBland (acted s node m ts d reply told).answers → SendsWell (stepped s node m ts d reply told).sends
      → Left v node.met ((stepped s node m ts d reply told).node).met
  step_left v s node m ts d reply told decides valid answers sends = subst (Left v node.met) (sym (met_is s node m ts d reply told))
      (left_then v node.met (noted s node m ts d reply told) (onto (map Sends (stepped s node m ts d reply told).sends) (noted s node m ts d reply told))
      (left_of v node.met (noted s node m ts d reply told) (node_then g n node.met (Takes m ∷ node.met) (noted s node m ts d reply told) (bland_takes m node.met)
      (node_then g n (Takes m ∷ node.met) (base s node m ts d reply told) (noted s node m ts d reply told) decides (noted_on s node m ts d reply told g n valid answers))))
      (sent_left v (stepped s node m ts d reply told).sends (noted s node m ts d reply told) sends))
    where
      bland_takes : (one : Message) (met : List Met) → NodeOn g n met (Takes one ∷ met)
      bland_takes one met = record { same_decided = refl; same_acts = refl; same_up = refl }

  -- ---- a node with no open operation

  record IdleLeft (v : ℕ) (node : Node) (made : Step) (reply : List Message) : Type 0 where
    sends_are : made.sends ≡ reply
    none_open : (made.node).open_operations ≡ []
    left : Left v node.met (made.node).met

  module _ (v : ℕ) (node : Node) (none : node.open_operations ≡ []) where
    none_heard : (m : Message) → heard_by (s_of v) node m ≡ []
    none_heard m = ap (map (hears_message (s_of v) (clock_of node.met) m)) none

    idle_made : (m : Message) (d : Option Decision) (reply : List Message) → NodeOn g n (Takes m ∷ node.met) (base (s_of v) node m [] d reply []) → SendsWell reply → IdleLeft v node (taken (s_of v) node m [] [] d reply []) reply
    idle_made m d reply decides well = record {
      sends_are = sent;
      none_open = refl;
      left = step_left v (s_of v) node m [] d reply [] decides tt tt (subst SendsWell (sym sent) well);
    }
      where
        sent : (taken (s_of v) node m [] [] d reply []).sends ≡ reply
        sent = append_none (reply ++ []) ∙ append_none reply

    idle_asking : (from to : ℕ) (body : Body) → IsAsking body → (reply : List Message) → reply_to c v node.met (message from to body) ≡ reply → SendsWell reply → IdleLeft v node (take_step (s_of v) node (message from to body)) reply
    idle_asking from to body asking reply is well =
        subst (λ made. IdleLeft v node made reply) (sym (takes_asking (s_of v) node from to body asking [] (none_heard (message from to body)) refl ∙ ap (λ r. taken (s_of v) node (message from to body) [] [] None r []) is))
        (idle_made (message from to body) None reply (node_same g n (Takes (message from to body) ∷ node.met)) well)

    idle_have : (from to : ℕ) (o : OpId) (k : GroupId) (p : Position) (e : Content) → (same_group k g && p.0 == n) ≡ false → IdleLeft v node (take_step (s_of v) node (message from to (Have o k p e))) []
    idle_have from to o k p e apart =
        subst (λ made. IdleLeft v node made []) (sym (takes_have (s_of v) node from to o k p.0 e [] (none_heard (message from to (Have o k p e)))))
        (idle_made (message from to (Have o k p e)) (if_new node.met (Some (record { group = k; position = p.0; entry = e }))) []
        (decides_elsewhere g k n p.0 e node.met (Takes (message from to (Have o k p e)) ∷ node.met) apart) (inl tt))

  -- ---- replies to what tells nothing of the position

  record StaleReply (reply : List Message) : Type 0 where
    fits : Each Fits reply
    quiet : Each (λ (m : Message). IsNoAct m.body) reply

  module _ (v : ℕ) (here : is_node c v ≡ true) (from : ℕ) (there : is_node c from ≡ true) where
    stale_one : (body : Body) → IsElsewhere body → IsNoAct body → StaleReply (record { from = v; to = from; body = body } ∷ [])
    stale_one body elsewhere quiet = record { fits = (is_stale here there elsewhere, tt); quiet = (quiet, tt) }

    stale_served : (t : Bool) (body : Body) → IsElsewhere body → IsNoAct body → StaleReply (reply_message v from (where_served t body))
    stale_served true body elsewhere quiet = stale_one body elsewhere quiet
    stale_served false body elsewhere quiet = record { fits = tt; quiet = tt }

    stale_fetched : (met : List Met) → decided met g n ≡ None → (t : Bool) (o : OpId) (k : GroupId) (p : Position) (found : Option Content) → decided met k p.0 ≡ found → StaleReply (reply_message v from (where_served t (fetched o k p found)))
    stale_fetched met none t o k p None is = stale_served t (HaveNot o k p) tt tt
    stale_fetched met none t o k p (Some e) is = stale_served t (Have o k p e) (apart (same_group k g && p.0 == n) refl) tt
      where
        apart : (b : Bool) → (same_group k g && p.0 == n) ≡ b → b ≡ false
        apart false same = refl
        apart true same =
            let both = and_parts (same_group k g) (p.0 == n) same in
            let there_is = coe 0 1 (i. decided met (same_group_equal k g both.0 i) (number_is p.0 n both.1 i) ≡ Some e) is in
            let never = sym there_is ∙ none in cc

    stale_reply : (met : List Met) → decided met g n ≡ None → (to : ℕ) (body : Body) → IsElsewhere body → StaleReply (reply_to c v met (message from to body))
    stale_reply met none to (Where o k) elsewhere = stale_served (is_voter c v) (Top o k (record { 0 = top_of met k })) tt tt
    stale_reply met none to (Top o k p) elsewhere = record { fits = tt; quiet = tt }
    stale_reply met none to (Fetch o k p) elsewhere = stale_fetched met none (is_voter c v) o k p (decided met k p.0) refl
    stale_reply met none to (HaveNot o k p) elsewhere = record { fits = tt; quiet = tt }
    stale_reply met none to (Have o k p e) elsewhere = record { fits = tt; quiet = tt }
    stale_reply met none to _ elsewhere = absurd elsewhere

  -- ---- the operation goes on, or ends

  goes_is : (s : Setting) (now : Now) (seen : ℕ) (round : Round) → goes_on s now (proposes seen round) ≡ unless_decided now (proposes seen round) n promised (decided now.met g n)
  goes_is s now seen round = ap (λ k. rests_within k s (ActsAgain now (proposes seen round))) (more (length (groups_of now.met)))
    where
      more : (k : ℕ) → k + 2 ≡ suc (k + 1)
      more k = omega arith

  abbrev heard : ℕ → Round → List Message → List Heard
  heard seen round sends = record { operation = proposes seen round; sends = sends } ∷ []

  record GoesOn (node : Node) (made : Step) (seen : ℕ) (round : Round) (sends : List Message) : Type 0 where
    sends_are : made.sends ≡ sends
    opens : (made.node).open_operations ≡ proposes seen round ∷ []
    left : Left me node.met (made.node).met

  module _ (node : Node) (m : Message) (d : Option Decision) (reply told : List Message) (seen : ℕ) (round : Round) (sends : List Message) where
    abbrev its_base : List Met
    its_base = base (s_of me) node m (heard seen round sends) d reply told

    abbrev its_begin : Now
    its_begin = sends_more (begins (s_of me) node m (heard seen round sends) d reply told) sends

    abbrev its_acted : Now
    its_acted = acted (s_of me) node m (heard seen round sends) d reply told

    abbrev its_step : Step
    its_step = stepped (s_of me) node m (heard seen round sends) d reply told

    on_made : decided its_base g n ≡ None → NodeOn g n (Takes m ∷ node.met) its_base → SendsWell ((reply ++ told) ++ sends) → GoesOn node its_step seen round ((reply ++ told) ++ sends)
    on_made none decides well = record {
      sends_are = ap (λ (x : Now). (reply ++ told) ++ x.sends) keeps_it;
      opens = ap (λ (x : Now). x.kept) keeps_it;
      left = step_left me (s_of me) node m (heard seen round sends) d reply told decides
          (subst (λ (x : Now). Each IsBland x.valid) (sym keeps_it) tt) (subst (λ (x : Now). Each IsBland x.answers) (sym keeps_it) tt)
          (subst (λ (x : Now). SendsWell ((reply ++ told) ++ x.sends)) (sym keeps_it) well);
    }
      where
        keeps_it : its_acted ≡ unless_decided its_begin (proposes seen round) n promised None
        keeps_it = goes_is (s_of me) its_begin seen round ∙ ap (unless_decided its_begin (proposes seen round) n promised) none

    ends_it : (entry : Content) → decided its_base g n ≡ Some entry → its_acted ≡ unless_decided its_begin (proposes seen round) n promised (Some entry)
    ends_it entry is = goes_is (s_of me) its_begin seen round ∙ ap (unless_decided its_begin (proposes seen round) n promised) is

  -- a message that tells of no decision, which the operation hears without settling
  goes_asking : (node : Node) (from to : ℕ) (body : Body) → IsAsking body → (reply : List Message) → reply_to c me node.met (message from to body) ≡ reply → (was seen : ℕ) (before round : Round) (sends : List Message)
      → node.open_operations ≡ proposes was before ∷ [] → hears_message (s_of me) (clock_of node.met) (message from to body) (proposes was before) ≡ record { operation = proposes seen round; sends = sends }
      → settled (proposal seen round) ≡ None → decided node.met g n ≡ None → SendsWell (reply ++ sends) → GoesOn node (take_step (s_of me) node (message from to body)) seen round (reply ++ sends)
  goes_asking node from to body asking reply is was seen before round sends opens hears open_still none well =
      subst (λ made. GoesOn node made seen round (reply ++ sends)) (sym whole)
      (subst (GoesOn node (stepped (s_of me) node m (heard seen round sends) None reply []) seen round) (ap (λ l. l ++ sends) (append_none reply))
      (on_made node m None reply [] seen round sends none (node_same g n (Takes m ∷ node.met)) (subst (λ l. SendsWell (l ++ sends)) (sym (append_none reply)) well)))
    where
      m : Message
      m = message from to body

      unsettled : (o : Option Content) → o ≡ None → decision_at g n o ≡ None
      unsettled o e = ap (decision_at g n) e

      first : first_settled (heard seen round sends) ≡ None
      first = ap (λ o. or_later o None) (unsettled (settled (proposal seen round)) open_still)

      whole : take_step (s_of me) node m ≡ stepped (s_of me) node m (heard seen round sends) None reply []
      whole = takes_asking (s_of me) node from to body asking (heard seen round sends) (ap (map (hears_message (s_of me) (clock_of node.met) m)) opens ∙ ap (λ t. t ∷ []) hears) first
          ∙ ap (λ r. taken (s_of me) node m [] (heard seen round sends) None r []) is

  goes_have : (node : Node) (from to : ℕ) (o : OpId) (k : GroupId) (p : Position) (e : Content) → (same_group k g && p.0 == n) ≡ false → (seen : ℕ) (round : Round) → node.open_operations ≡ proposes seen round ∷ []
      → decided node.met g n ≡ None → GoesOn node (take_step (s_of me) node (message from to (Have o k p e))) seen round []
  goes_have node from to o k p e apart seen round opens none =
      subst (λ made. GoesOn node made seen round []) (sym (takes_have (s_of me) node from to o k p.0 e (heard seen round []) (ap (map (hears_message (s_of me) (clock_of node.met) m)) opens)))
      (on_made node m d [] [] seen round [] (decides.same_decided ∙ none) decides (inl tt))
    where
      m : Message
      m = message from to (Have o k p e)

      d : Option Decision
      d = if_new node.met (Some (record { group = k; position = p.0; entry = e }))

      decides : NodeOn g n (Takes m ∷ node.met) (onto (decision_note d) (Takes m ∷ node.met))
      decides = decides_elsewhere g k n p.0 e node.met (Takes m ∷ node.met) apart

  -- ---- a delivery

  abbrev pub after : Standing → ℕ → ℕ → Step → Standing
  after now v j made = whole_step c now v (Taken j ∷ []) made

  self : (me == me) ≡ true
  self = number_self me

  at_me : {X : Type 0} (f : ℕ → X) (x : X) → set_at f me x me ≡ x
  at_me f x = ap (λ t. cond t x (f me)) self

  pub record Finished (now : Standing) : Type 0 where
    pub over : Over c now
    pub stands : Stands (AnswerItem op (verdict op n promised own)) now.tape
    pub decides : Stands (DecideItem (number me) g (record { 0 = n }) own) now.tape

  module _ (now : Standing) (a : Alone now) (j : ℕ) (m : Message) (w : Waits now.tape j m) (v : ℕ) (here : is_node c v ≡ true) (made : Step) where
    mail_of : Mailed now.tape (after now v j made).tape (λ k. j == k) made.sends
    mail_of = mailed_step c (set_at now.node v made.node) v now.tape (Taken j) (λ k. j == k) made.notes made.sends refl refl (mailed_taken now.tape j m w a.numbered_so)

    -- what is awaited goes on to be, but for what is delivered
    on : (x : Message) → IsAwaited now.tape x → (x ≡ m) ⊎ IsAwaited (after now v j made).tape x
    on x waiting = by (j == waiting.number) refl
      where
        by : (t : Bool) → (j == waiting.number) ≡ t → (x ≡ m) ⊎ IsAwaited (after now v j made).tape x
        by true e = inl (same_Some x m (sym (waiting.waits).sent ∙ (ap (message_of now.tape) (sym (number_is j waiting.number e)) ∙ w.sent)))
        by false e = inr (record { number = waiting.number; waits = mail_of.keeps waiting.number x e waiting.waits })

    alone_on : Left v (now.node v).met (made.node).met → ((v == me) ≡ false → (made.node).open_operations ≡ []) → Each Fits made.sends → At (after now v j made) → Alone (after now v j made)
    alone_on left none_open fits at = record {
      up = λ u node. up_at u node (v == u);
      unfused = λ u node. unfused_after c now v (Taken j ∷ []) made u (a.unfused v here) (a.unfused u node);
      numbered_so = mail_of.numbered;
      idle = λ u node apart. idle_at u node apart (v == u) refl;
      mail = λ k one waiting. elim (mail_of.comes k one waiting) [ inl early ↦ a.mail k one early.1 | inr i ↦ each_of Fits one made.sends fits i ];
      clean = λ u voter. clean_at u voter (v == u) refl;
      undecided = λ u node. undecided_at u node (v == u) refl;
      at = at;
    }
      where
        up_at : (u : ℕ) → is_node c u ≡ true → (t : Bool) → is_up (cond t made.node (now.node u)).met ≡ true
        up_at u node true = left.up_so ∙ a.up v here
        up_at u node false = a.up u node

        idle_at : (u : ℕ) → is_node c u ≡ true → (u == me) ≡ false → (t : Bool) → (v == u) ≡ t → (cond t made.node (now.node u)).open_operations ≡ []
        idle_at u node apart true is = none_open (ap (λ x. x == me) (number_is v u is) ∙ apart)
        idle_at u node apart false is = a.idle u node apart

        clean_at : (u : ℕ) → is_voter c u ≡ true → (t : Bool) → (v == u) ≡ t → Clean own (acts_met (cond t made.node (now.node u)).met g n)
        clean_at u voter true is = left.clean_so (ap (is_voter c) (number_is v u is) ∙ voter) (a.clean v (ap (is_voter c) (number_is v u is) ∙ voter))
        clean_at u voter false is = a.clean u voter

        undecided_at : (u : ℕ) → is_node c u ≡ true → (t : Bool) → (v == u) ≡ t → decided (cond t made.node (now.node u)).met g n ≡ None
        undecided_at u node true is = left.decided_so ∙ a.undecided v here
        undecided_at u node false is = a.undecided u node

    -- what the operation waits for, on
    polled_on : (those later : List ℕ) → ((u : ℕ) → has u those ≡ true → has u later ≡ true)
        → ((u : ℕ) → is_voter c u ≡ true → accept_for u ≡ m → (has u later ≡ true) ⊎ (IsAwaited (after now v j made).tape (accept_for u) ⊎ IsAwaited (after now v j made).tape (accepted_by u)))
        → ((u : ℕ) → is_voter c u ≡ true → accepted_by u ≡ m → has u later ≡ true) → Polled now.tape those → Polled (after now v j made).tape later
    polled_on those later grew on_ask on_tell polled u voter = elim (polled u voter) [
      | inl there ↦ inl (grew u there)
      | inr waiting ↦ elim waiting [
        | inl ask ↦ elim (on (accept_for u) ask) [ inl same ↦ on_ask u voter same | inr still ↦ inr (inl still) ]
        | inr tell ↦ elim (on (accepted_by u) tell) [ inl same ↦ inl (on_tell u voter same) | inr still ↦ inr (inr still) ]
      ]
    ]

  abbrev kind : Body → ℕ
  kind (Accept o k p b e) = 1
  kind (Accepted o k p b e) = 2
  kind _ = 0

  stale_kind : (body : Body) → IsElsewhere body → kind body ≡ 0
  stale_kind (Where o k) elsewhere = refl
  stale_kind (Top o k p) elsewhere = refl
  stale_kind (Fetch o k p) elsewhere = refl
  stale_kind (HaveNot o k p) elsewhere = refl
  stale_kind (Have o k p e) elsewhere = refl
  stale_kind _ elsewhere = absurd elsewhere

  abbrev kind_of_message : Message → ℕ
  kind_of_message x = kind x.body

  -- what the operation waits for, on, where its round stays
  at_on : (now : Standing) (a : Alone now) (j : ℕ) (m : Message) (w : Waits now.tape j m) (v : ℕ) (here : is_node c v ≡ true) (made : Step)
      → ((seen : ℕ) (round : Round) → (now.node me).open_operations ≡ proposes seen round ∷ [] → (later : ℕ) × (((after now v j made).node me).open_operations ≡ proposes later round ∷ []))
      → ((u : ℕ) → accept_for u ≡ m → IsAwaited (after now v j made).tape (accepted_by u)) → ((u : ℕ) → accepted_by u ≡ m → ⊥) → At now → At (after now v j made)
  at_on now a j m w v here made opens told none (asks seen leader at is voter waiting) = let o = opens seen (Asking leader at) is in asks o.0 leader at o.1 voter (elim waiting [
    | inl ask ↦ elim (on now a j m w v here made (accept_for leader) ask) [ inl same ↦ inr (told leader same) | inr still ↦ inl still ]
    | inr tell ↦ elim (on now a j m w v here made (accepted_by leader) tell) [ inl same ↦ absurd (none leader same) | inr still ↦ inr still ]
  ])
  at_on now a j m w v here made opens told none (accepting seen those at is polled few) = let o = opens seen (Accepting zero_ballot own those at) is in
      accepting o.0 those at o.1 (polled_on now a j m w v here made those those (λ u there. there) (λ u voter same. inr (inr (told u same))) (λ u voter same. absurd (none u same)) polled) few
  at_on now a j m w v here made opens told none (covering seen those at is polled not_all) = let o = opens seen (Covering zero_ballot own (first_cover those) at) is in
      covering o.0 those at o.1 (polled_on now a j m w v here made those those (λ u there. there) (λ u voter same. inr (inr (told u same))) (λ u voter same. absurd (none u same)) polled) not_all

  elsewhere_at : (f : ℕ → Node) (v : ℕ) (x : Node) → (v == me) ≡ false → (set_at f v x me).open_operations ≡ (f me).open_operations
  elsewhere_at f v x apart = ap (λ t. (cond t x (f me)).open_operations) apart

  -- ---- a message that tells nothing of the position

  asking_of : (body : Body) → IsElsewhere body → (P : Body → Type 0) → ((one : Body) → IsElsewhere one → IsAsking one → P one) → ((o : OpId) (k : GroupId) (p : Position) (e : Content) → (same_group k g && p.0 == n) ≡ false → P (Have o k p e)) → P body
  asking_of (Where o k) elsewhere P asking have = asking (Where o k) tt tt
  asking_of (Top o k p) elsewhere P asking have = asking (Top o k p) tt tt
  asking_of (Fetch o k p) elsewhere P asking have = asking (Fetch o k p) tt tt
  asking_of (HaveNot o k p) elsewhere P asking have = asking (HaveNot o k p) tt tt
  asking_of (Have o k p e) elsewhere P asking have = have o k p e elsewhere
  asking_of _ elsewhere P asking have = absurd elsewhere

  hears_stale : (clock from to : ℕ) (body : Body) → IsElsewhere body → (seen : ℕ) (round : Round) → hears_message (s_of me) clock (message from to body) (proposes seen round) ≡ record { operation = proposes seen round; sends = [] }
  hears_stale clock from to (Where o k) elsewhere seen round = refl
  hears_stale clock from to (Top o k p) elsewhere seen round = refl
  hears_stale clock from to (Fetch o k p) elsewhere seen round = refl
  hears_stale clock from to (HaveNot o k p) elsewhere seen round = refl
  hears_stale clock from to (Have o k p e) elsewhere seen round = refl
  hears_stale clock from to _ elsewhere seen round = absurd elsewhere

  -- the rounds in which it waits
  record Waiting (now : Standing) : Type 0 where
    seen : ℕ
    round : Round
    opens : (now.node me).open_operations ≡ proposes seen round ∷ []
    unsettled : (other : ℕ) → settled (proposal other round) ≡ None

  waiting_at : (now : Standing) → At now → Waiting now
  waiting_at now (asks seen leader at is voter waiting) = record { seen = seen; round = Asking leader at; opens = is; unsettled = λ other. refl }
  waiting_at now (accepting seen those at is polled few) = record { seen = seen; round = Accepting zero_ballot own those at; opens = is; unsettled = λ other. refl }
  waiting_at now (covering seen those at is polled not_all) = record { seen = seen; round = Covering zero_ballot own (first_cover those) at; opens = is; unsettled = λ other. refl }

  first_of_list : {X : Type 0} (x y : X) → ◌≡◌ {A = List X} (x ∷ []) (y ∷ []) → x ≡ y
  first_of_list x y e = cc

  module _ (now : Standing) (a : Alone now) (j from to : ℕ) (there : is_node c from ≡ true) (here : is_node c to ≡ true) where
    stale_other : (body : Body) → IsElsewhere body → Waits now.tape j (message from to body) → (to == me) ≡ false → (made : Step) → (reply : List Message) → StaleReply reply → IdleLeft to (now.node to) made reply → Alone (after now to j made)
    stale_other body elsewhere w apart made reply well idle = alone_on now a j (message from to body) w to here made idle.left (λ k. idle.none_open) (subst (Each Fits) (sym idle.sends_are) well.fits)
        (at_on now a j (message from to body) w to here made (λ seen round opens. (seen, elsewhere_at now.node to made.node apart ∙ opens))
        (λ u same. absurd (clash 1 0 (ap kind_of_message same ∙ stale_kind body elsewhere) refl)) (λ u same. clash 2 0 (ap kind_of_message same ∙ stale_kind body elsewhere) refl) a.at)

    take_stale_other : (body : Body) → IsElsewhere body → (to == me) ≡ false → Waits now.tape j (message from to body) → Alone (after now to j (take_step (s_of to) (now.node to) (message from to body)))
    take_stale_other body elsewhere apart = asking_of body elsewhere (λ one. Waits now.tape j (message from to one) → Alone (after now to j (take_step (s_of to) (now.node to) (message from to one))))
        (λ one nowhere asking w.
        let reply = reply_to c to (now.node to).met (message from to one) in
        let well = stale_reply to here from there (now.node to).met (a.undecided to here) to one nowhere in
        stale_other one nowhere w apart (take_step (s_of to) (now.node to) (message from to one)) reply well (idle_asking to (now.node to) (a.idle to here apart) from to one asking reply refl (inl well.quiet)))
        (λ o k p e differs w. stale_other (Have o k p e) differs w apart (take_step (s_of to) (now.node to) (message from to (Have o k p e))) [] (record { fits = tt; quiet = tt })
        (idle_have to (now.node to) (a.idle to here apart) from to o k p e differs))

  module _ (now : Standing) (a : Alone now) (j from : ℕ) (there : is_node c from ≡ true) where
    here_me : is_node c me ≡ true
    here_me = voter_is_node c me member

    -- the operation stands as it did
    stale_me : (body : Body) → IsElsewhere body → Waits now.tape j (message from me body) → (made : Step) (reply : List Message) → StaleReply reply → (s : Waiting now) → GoesOn (now.node me) made s.seen s.round reply → Alone (after now me j made)
    stale_me body elsewhere w made reply well s goes = alone_on now a j (message from me body) w me here_me made goes.left (λ apart. absurd (let never = sym self ∙ apart in cc)) (subst (Each Fits) (sym goes.sends_are) well.fits)
        (at_on now a j (message from me body) w me here_me made
        (λ seen round opens. (s.seen, ap (λ (x : Node). x.open_operations) (at_me now.node made.node) ∙ (goes.opens ∙ ap (λ r. proposes s.seen r ∷ []) (round_is (first_of_list (proposes s.seen s.round) (proposes seen round) (sym s.opens ∙ opens))))))
        (λ u same. absurd (clash 1 0 (ap kind_of_message same ∙ stale_kind body elsewhere) refl)) (λ u same. clash 2 0 (ap kind_of_message same ∙ stale_kind body elsewhere) refl) a.at)
      where
        round_in : Operation → Round → Round
        round_in o other = by o.phase
          where
            by : Phase → Round
            by (Proposes k p those one promise) = one.round
            by _ = other

        round_is : {x y : ℕ} {r t : Round} → proposes x r ≡ proposes y t → r ≡ t
        round_is {r = r} e = ap (λ o. round_in o r) e

    take_stale_me : (body : Body) → IsElsewhere body → Waits now.tape j (message from me body) → Alone (after now me j (take_step (s_of me) (now.node me) (message from me body)))
    take_stale_me body elsewhere = asking_of body elsewhere (λ one. Waits now.tape j (message from me one) → Alone (after now me j (take_step (s_of me) (now.node me) (message from me one))))
        (λ one nowhere asking w.
        let reply = reply_to c me (now.node me).met (message from me one) in
        let well = stale_reply me here_me from there (now.node me).met (a.undecided me here_me) me one nowhere in
        stale_me one nowhere w (take_step (s_of me) (now.node me) (message from me one)) reply well s
        (subst (GoesOn (now.node me) (take_step (s_of me) (now.node me) (message from me one)) s.seen s.round) (append_none reply)
        (goes_asking (now.node me) from me one asking reply refl s.seen s.seen s.round s.round [] s.opens (hears_stale (clock_of (now.node me).met) from me one nowhere s.seen s.round) (s.unsettled s.seen) (a.undecided me here_me)
        (subst SendsWell (sym (append_none reply)) (inl well.quiet)))))
        (λ o k p e differs w. stale_me (Have o k p e) differs w (take_step (s_of me) (now.node me) (message from me (Have o k p e))) [] (record { fits = tt; quiet = tt }) s
        (goes_have (now.node me) from me o k p e differs s.seen s.round s.opens (a.undecided me here_me)))
      where
        s : Waiting now
        s = waiting_at now a.at

  -- ---- the entry is asked for

  own_here : is_here its_site op g (record { 0 = n }) ≡ true
  own_here = ap (λ t. t && same_group g g && n == n) (same_op_self op) ∙ (ap (λ t. t && n == n) (same_group_self g) ∙ number_self n)

  replies_vote : (now : Standing) (a : Alone now) (v : ℕ) → is_voter c v ≡ true → reply_to c v (now.node v).met (accept_for v) ≡ accepted_by v ∷ []
  replies_vote now a v voter =
      ap (λ t. reply_message v me (where_served t (voted (acts_met (now.node v).met g n) op g (record { 0 = n }) zero_ballot own))) voter
      ∙ ap (λ r. reply_message v me (Some (vote_body op g (record { 0 = n }) zero_ballot own r))) (clean_accepts own (acts_met (now.node v).met g n) (a.clean v voter))

  told_vote : (now : Standing) (a : Alone now) (j v : ℕ) (voter : is_voter c v ≡ true) (w : Waits now.tape j (accept_for v)) (made : Step) → made.sends ≡ accepted_by v ∷ [] → (u : ℕ) → accept_for u ≡ accept_for v → IsAwaited (after now v j made).tape (accepted_by u)
  told_vote now a j v voter w made sends u same = subst (λ x. IsAwaited (after now v j made).tape (accepted_by x)) (sym (ap (λ (m : Message). m.to) same))
      ((mail_of now a j (accept_for v) w v (voter_is_node c v voter) made).sends (accepted_by v) (subst (Among (accepted_by v)) (sym sends) (inl refl)))

  take_ask_other : (now : Standing) (a : Alone now) (j v : ℕ) → is_voter c v ≡ true → (v == me) ≡ false → Waits now.tape j (accept_for v) → Alone (after now v j (take_step (s_of v) (now.node v) (accept_for v)))
  take_ask_other now a j v voter apart w = alone_on now a j (accept_for v) w v (voter_is_node c v voter) made idle.left (λ k. idle.none_open) (subst (Each Fits) (sym idle.sends_are) (tells_vote v voter refl, tt))
      (at_on now a j (accept_for v) w v (voter_is_node c v voter) made (λ seen round opens. (seen, elsewhere_at now.node v made.node apart ∙ opens))
      (told_vote now a j v voter w made idle.sends_are) (λ u same. clash 2 1 (ap kind_of_message same) refl) a.at)
    where
      made : Step
      made = take_step (s_of v) (now.node v) (accept_for v)

      idle : IdleLeft v (now.node v) made (accepted_by v ∷ [])
      idle = idle_asking v (now.node v) (a.idle v (voter_is_node c v voter) apart) me v (Accept op g (record { 0 = n }) zero_ballot own) tt (accepted_by v ∷ []) (replies_vote now a v voter) (inr (v, [], refl, tt))

  round_in : Operation → Round → Round
  round_in o other = by o.phase
    where
      by : Phase → Round
      by (Proposes k p those one promise) = one.round
      by _ = other

  round_is : (x y : ℕ) (r t : Round) → proposes x r ≡ proposes y t → r ≡ t
  unfolding round_in
  round_is x y r t e = ap (λ o. round_in o r) e

  take_ask_me : (now : Standing) (a : Alone now) (j : ℕ) → Waits now.tape j (accept_for me) → Alone (after now me j (take_step (s_of me) (now.node me) (accept_for me)))
  take_ask_me now a j w = alone_on now a j (accept_for me) w me (voter_is_node c me member) made goes.left (λ apart. absurd (let never = sym self ∙ apart in cc)) (subst (Each Fits) (sym goes.sends_are) (tells_vote me member refl, tt))
      (at_on now a j (accept_for me) w me (voter_is_node c me member) made
      (λ seen round opens. (max s.seen 0, ap (λ (x : Node). x.open_operations) (at_me now.node made.node) ∙ (goes.opens ∙ ap (λ r. proposes (max s.seen 0) r ∷ []) (round_is s.seen seen s.round round (first_of_list (proposes s.seen s.round) (proposes seen round) (sym s.opens ∙ opens))))))
      (told_vote now a j me member w made goes.sends_are) (λ u same. clash 2 1 (ap kind_of_message same) refl) a.at)
    where
      made : Step
      made = take_step (s_of me) (now.node me) (accept_for me)

      s : Waiting now
      s = waiting_at now a.at

      hears : hears_message (s_of me) (clock_of (now.node me).met) (accept_for me) (proposes s.seen s.round) ≡ record { operation = proposes (max s.seen 0) s.round; sends = [] }
      hears = ap (λ t. round_heard (proposes s.seen s.round) g n asked promised (cond {A = RoundMove} t (stays_so (sees (proposal s.seen s.round) 0)) (stays_so (proposal s.seen s.round)))) own_here

      goes : GoesOn (now.node me) made (max s.seen 0) s.round (accepted_by me ∷ [])
      goes = goes_asking (now.node me) me me (Accept op g (record { 0 = n }) zero_ballot own) tt (accepted_by me ∷ []) (replies_vote now a me member) s.seen (max s.seen 0) s.round s.round [] s.opens hears (s.unsettled (max s.seen 0))
          (a.undecided me (voter_is_node c me member)) (inr (me, [], refl, tt))

  -- ---- a vote is told

  pub data Progress (those : List ℕ) (round : Round) : Type 0 where
    few_yet : (at : ℕ) → round ≡ Accepting zero_ballot own those at → is_majority (length (voters c)) (length those) ≡ false → Progress those round
    not_covered : (at : ℕ) → round ≡ Covering zero_ballot own (first_cover those) at → list_all (is_covered its_site (first_cover those)) (full_nodes c) ≡ false → Progress those round
    is_settled : round ≡ Settled own [] → Progress those round

  covers_progress : (those : List ℕ) (at : ℕ) → Progress those (covers its_site zero_ballot own (first_cover those) at)
  covers_progress those at = by (list_all (is_covered its_site (first_cover those)) (full_nodes c)) refl
    where
      by : (t : Bool) → list_all (is_covered its_site (first_cover those)) (full_nodes c) ≡ t → Progress those (cond t (Settled own []) (Covering zero_ballot own (first_cover those) at))
      by true e = is_settled refl
      by false e = not_covered at refl e

  accepts_progress : (those : List ℕ) (at : ℕ) → Progress those (accepts its_site zero_ballot own those at)
  accepts_progress those at = by (is_majority (length (voters c)) (length those)) refl
    where
      by : (t : Bool) → is_majority (length (voters c)) (length those) ≡ t → Progress those (cond t (covers its_site zero_ballot own (first_cover those) at) (Accepting zero_ballot own those at))
      by true e = covers_progress those at
      by false e = few_yet at refl e

  fits_tame : (m : Message) → Fits m → Tame c m
  fits_tame m (is_stale from to elsewhere) = record { from = from; to = to; body = tame m.body elsewhere }
    where
      tame : (body : Body) → IsElsewhere body → IsTame body
      tame (Where o k) e = tt
      tame (Top o k p) e = tt
      tame (Fetch o k p) e = tt
      tame (HaveNot o k p) e = tt
      tame (Have o k p entry) e = tt
      tame _ e = absurd e
  fits_tame m (asks_vote v voter is) = subst (Tame c) (sym is) (record { from = voter_is_node c me member; to = voter_is_node c v voter; body = tt })
  fits_tame m (tells_vote v voter is) = subst (Tame c) (sym is) (record { from = voter_is_node c v voter; to = voter_is_node c me member; body = tt })

  abbrev entry_here : Decision
  entry_here = record { group = g; position = n; entry = own }

  news_tame : (vs : List ℕ) → ((v : ℕ) → Among v vs → is_node c v ≡ true) → Each (Tame c) (map (decide_to me entry_here) vs)
  news_tame [] nodes = tt
  news_tame (v ∷ vs) nodes = (record { from = voter_is_node c me member; to = nodes v (inl refl); body = tt }, news_tame vs (λ u i. nodes u (inr i)))

  fits_of : (S : List Message) → Each Fits S → Each (Tame c) S
  fits_of [] fits = tt
  fits_of (m ∷ S) fits = (fits_tame m fits.0, fits_of S fits.1)

  module _ (now : Standing) (a : Alone now) (j v : ℕ) (voter : is_voter c v ≡ true) (w : Waits now.tape j (accepted_by v)) (was seen : ℕ) (before round : Round) (S : List Message) (those : List ℕ)
      (opens : (now.node me).open_operations ≡ proposes was before ∷ [])
      (hears : hears_message (s_of me) (clock_of (now.node me).met) (accepted_by v) (proposes was before) ≡ record { operation = proposes seen round; sends = S })
      (fits : Each Fits S) (quiet : Each (λ (m : Message). IsNoAct m.body) S) where
    abbrev made : Step
    made = take_step (s_of me) (now.node me) (accepted_by v)

    abbrev body : Body
    body = Accepted op g (record { 0 = n }) zero_ballot own

    abbrev there : is_node c me ≡ true
    there = voter_is_node c me member

    abbrev polled_then : Type 0
    polled_then = ((x : Message) → Among x S → IsAwaited (after now me j made).tape x) → Polled (after now me j made).tape those

    told_on : settled (proposal seen round) ≡ None → GoesOn (now.node me) made seen round S
    told_on open_still = goes_asking (now.node me) v me body tt [] refl was seen before round S opens hears open_still (a.undecided me there) (inl quiet)

    told_alone : (open_still : settled (proposal seen round) ≡ None) → (At (after now me j made)) → Alone (after now me j made)
    told_alone open_still at = let goes = told_on open_still in
        alone_on now a j (accepted_by v) w me there made goes.left (λ apart. absurd (let never = sym self ∙ apart in cc)) (subst (Each Fits) (sym goes.sends_are) fits) at

    told_opens : (open_still : settled (proposal seen round) ≡ None) → ((after now me j made).node me).open_operations ≡ proposes seen round ∷ []
    told_opens open_still = ap (λ (x : Node). x.open_operations) (at_me now.node made.node) ∙ (told_on open_still).opens

    told_polled : (open_still : settled (proposal seen round) ≡ None) → polled_then → Polled (after now me j made).tape those
    told_polled open_still polled = polled (λ x i. (mail_of now a j (accepted_by v) w me there made).sends x (subst (Among x) (sym (told_on open_still).sends_are) i))

    -- it is settled: the node decides it, and the operation ends
    told_done : round ≡ Settled own [] → ((x : ℕ) → Among x (others me (nodes c)) → is_node c x ≡ true) → Finished (after now me j made)
    told_done done are_nodes = record {
      over = over_on c now me j made there a.up a.unfused (λ u node apart. a.idle u node apart) (λ k one waiting apart. fits_tame one (a.mail k one waiting)) up_then none_then tame_then
          (mail_of now a j (accepted_by v) w me there made);
      stands = answer_stands c (set_at now.node me made.node) me now.tape (Taken j) made.notes (numbered (sent_count now.tape + 1) made.sends) op (verdict op n promised own) noted_then;
      decides = decision_stands c (set_at now.node me made.node) me now.tape (Taken j) made.notes (numbered (sent_count now.tape + 1) made.sends) g n own decided_then;
    }
      where
        node : Node
        node = now.node me

        ts : List Heard
        ts = heard seen round S

        first : first_settled ts ≡ Some entry_here
        first = ap (λ r. or_later (decision_at g n (settled (proposal seen r))) None) done

        new : if_new node.met (Some entry_here) ≡ Some entry_here
        new = ap (λ o. cond (is_none o) (Some entry_here) None) (a.undecided me there)

        told : List Message
        told = map (decide_to me entry_here) (others me (nodes c))

        whole : made ≡ stepped (s_of me) node (accepted_by v) ts (Some entry_here) [] told
        whole = told_asking (s_of me) node v me body tt
            ∙ (ap (λ those'. taken (s_of me) node (accepted_by v) [] those' (if_new node.met (first_settled those')) [] (news (s_of me) (if_new node.met (first_settled those')))) (ap (map (hears_message (s_of me) (clock_of node.met) (accepted_by v))) opens ∙ ap (λ t. t ∷ []) hears)
            ∙ ap (λ d. taken (s_of me) node (accepted_by v) [] ts d [] (news (s_of me) d)) (ap (if_new node.met) first ∙ new))

        is_own : decided (its_base node (accepted_by v) (Some entry_here) [] told seen round S) g n ≡ Some own
        is_own = ap (λ t. cond t (first_of (decided node.met g n) own) (decided node.met g n)) (ap (λ t. t && n == n) (same_group_self g) ∙ number_self n) ∙ ap (λ o. first_of o own) (a.undecided me there)

        ended : its_acted node (accepted_by v) (Some entry_here) [] told seen round S ≡ unless_decided (its_begin node (accepted_by v) (Some entry_here) [] told seen round S) (proposes seen round) n promised (Some own)
        ended = ends_it node (accepted_by v) (Some entry_here) [] told seen round S own is_own

        of_step : (P : Step → Type 0) → P (stepped (s_of me) node (accepted_by v) ts (Some entry_here) [] told) → P made
        of_step P p = subst P (sym whole) p

        up_then : is_up (made.node).met ≡ true
        up_then = of_step (λ x. is_up (x.node).met ≡ true) (ap is_up (met_is (s_of me) node (accepted_by v) ts (Some entry_here) [] told)
            ∙ ((sends_leave g n (stepped (s_of me) node (accepted_by v) ts (Some entry_here) [] told).sends (noted (s_of me) node (accepted_by v) ts (Some entry_here) [] told)).1
            ∙ ((noted_on (s_of me) node (accepted_by v) ts (Some entry_here) [] told g n (subst (λ (x : Now). Each IsBland x.valid) (sym ended) tt) (subst (λ (x : Now). Each IsBland x.answers) (sym ended) (tt, tt))).same_up
            ∙ a.up me there)))

        none_then : (made.node).open_operations ≡ []
        none_then = of_step (λ x. (x.node).open_operations ≡ []) (ap (λ (x : Now). x.kept) ended)

        tame_then : Each (Tame c) made.sends
        tame_then = of_step (λ x. Each (Tame c) x.sends) (each_both (Tame c) told (its_acted node (accepted_by v) (Some entry_here) [] told seen round S).sends (news_tame (others me (nodes c)) are_nodes)
            (subst (λ (x : Now). Each (Tame c) x.sends) (sym ended) (fits_of S fits)))

        decided_then : Among (Decides g n own) made.notes
        decided_then = of_step (λ x. Among (Decides g n own) x.notes) (among_left (Decides g n own) ((([] ++ decision_note (Some entry_here)) ++ its_applies) ++ its_then.valid) its_then.answers
            (among_left (Decides g n own) (([] ++ decision_note (Some entry_here)) ++ its_applies) its_then.valid (inl refl)))
          where
            its_then : Now
            its_then = its_acted node (accepted_by v) (Some entry_here) [] told seen round S

            its_applies : List Met
            its_applies = apply_notes (s_of me) node.met node.stored its_then.met its_then.stored

        noted_then : Among (Answers op (verdict op n promised own)) made.notes
        noted_then = of_step (λ x. Among (Answers op (verdict op n promised own)) x.notes)
            (among_right (Answers op (verdict op n promised own)) ((([] ++ decision_note (Some entry_here)) ++ apply_notes (s_of me) node.met node.stored (its_acted node (accepted_by v) (Some entry_here) [] told seen round S).met (its_acted node (accepted_by v) (Some entry_here) [] told seen round S).stored)
            ++ (its_acted node (accepted_by v) (Some entry_here) [] told seen round S).valid) (its_acted node (accepted_by v) (Some entry_here) [] told seen round S).answers
            (subst (λ (x : Now). Among (Answers op (verdict op n promised own)) x.answers) (sym ended) (inl refl)))

    told_next : Progress those round → polled_then → ((x : ℕ) → Among x (others me (nodes c)) → is_node c x ≡ true) → Alone (after now me j made) ⊎ Finished (after now me j made)
    told_next (few_yet at is few) polled are_nodes = let still = ap (λ r. settled (proposal seen r)) is in
        inl (told_alone still (accepting seen those at (told_opens still ∙ ap (λ r. proposes seen r ∷ []) is) (told_polled still polled) few))
    told_next (not_covered at is not_all) polled are_nodes = let still = ap (λ r. settled (proposal seen r)) is in
        inl (told_alone still (covering seen those at (told_opens still ∙ ap (λ r. proposes seen r ∷ []) is) (told_polled still polled) not_all))
    told_next (is_settled is) polled are_nodes = inr (told_done is are_nodes)

  own_sent : is_sent zero_ballot own zero_ballot own ≡ true
  own_sent = ap (λ t. t && same_entry own own) (ap (λ t. t && same_op zero_ballot.op zero_ballot.op) (number_self 0) ∙ same_op_self zero_ballot.op) ∙ same_entry_self own

  abbrev raised : ℕ → Round → Proposal
  raised seen round = sees (proposal seen round) 0

  abbrev says : ℕ → Round → RoundMove → Heard
  says seen round t = round_heard (proposes seen round) g n asked promised t

  abbrev all_asked : ℕ → List Message
  all_asked leader = map accept_for (others leader (voters c))

  hears_leader : (clock v seen leader at : ℕ) → is_voter c leader ≡ true → (t : Bool) → (v == leader) ≡ t
      → hears_message (s_of me) clock (accepted_by v) (proposes seen (Asking leader at))
      ≡ says seen (Asking leader at) (cond {A = RoundMove} t (move (raised seen (Asking leader at)) (accepts its_site zero_ballot own (leader ∷ []) clock) (all_asked leader)) (stays_so (raised seen (Asking leader at))))
  hears_leader clock v seen leader at voter t is =
      ap (λ b. says seen (Asking leader at) (cond {A = RoundMove} b (cond (v == leader && is_sent zero_ballot own zero_ballot own) (begun (has leader (voters c))) (stays_so p)) (stays_so (proposal seen (Asking leader at))))) own_here
      ∙ (ap (λ b. says seen (Asking leader at) (cond {A = RoundMove} (b && is_sent zero_ballot own zero_ballot own) (begun (has leader (voters c))) (stays_so p))) is
      ∙ (ap (λ b. says seen (Asking leader at) (cond {A = RoundMove} (t && b) (begun (has leader (voters c))) (stays_so p))) own_sent
      ∙ (ap (λ b. says seen (Asking leader at) (cond {A = RoundMove} (t && true) (begun b) (stays_so p))) (has_voter c leader voter) ∙ ap (λ b. says seen (Asking leader at) (cond {A = RoundMove} b (begun true) (stays_so p))) (and_true t))))
    where
      p : Proposal
      p = raised seen (Asking leader at)

      begun : Bool → RoundMove
      begun b = move p (accepts its_site zero_ballot own (cond b (leader ∷ []) []) clock) (all_asked leader)

      and_true : (b : Bool) → (b && true) ≡ b
      and_true true = refl
      and_true false = refl

  hears_voter : (clock v seen : ℕ) (those : List ℕ) (at : ℕ) → is_voter c v ≡ true
      → hears_message (s_of me) clock (accepted_by v) (proposes seen (Accepting zero_ballot own those at)) ≡ record { operation = proposes (max seen 0) (accepts its_site zero_ballot own (with_node v those) at); sends = [] }
  hears_voter clock v seen those at voter =
      ap (λ b. says seen r (cond {A = RoundMove} b (cond (is_sent zero_ballot own zero_ballot own && has v (voters c)) more (stays_so p)) (stays_so (proposal seen r)))) own_here
      ∙ (ap (λ b. says seen r (cond {A = RoundMove} (b && has v (voters c)) more (stays_so p))) own_sent ∙ ap (λ b. says seen r (cond {A = RoundMove} b more (stays_so p))) (has_voter c v voter))
    where
      r : Round
      r = Accepting zero_ballot own those at

      p : Proposal
      p = raised seen r

      more : RoundMove
      more = move p (accepts its_site zero_ballot own (with_node v those) at) []

  hears_cover : (clock v seen : ℕ) (those : List ℕ) (at : ℕ) → is_voter c v ≡ true
      → hears_message (s_of me) clock (accepted_by v) (proposes seen (Covering zero_ballot own (first_cover those) at)) ≡ record { operation = proposes (max seen 0) (covers its_site zero_ballot own (first_cover (with_node v those)) at); sends = [] }
  hears_cover clock v seen those at voter =
      ap (λ b. says seen r (cond {A = RoundMove} b (cond (is_sent zero_ballot own zero_ballot own && has v (voters c)) more (stays_so p)) (stays_so (proposal seen r)))) own_here
      ∙ (ap (λ b. says seen r (cond {A = RoundMove} (b && has v (voters c)) more (stays_so p))) own_sent ∙ ap (λ b. says seen r (cond {A = RoundMove} b more (stays_so p))) (has_voter c v voter))
    where
      r : Round
      r = Covering zero_ballot own (first_cover those) at

      p : Proposal
      p = raised seen r

      more : RoundMove
      more = move p (covers its_site zero_ballot own (first_cover (with_node v those)) at) []

  nodes_are : (x : ℕ) → Among x (others me (nodes c)) → is_node c x ≡ true
  nodes_are x i = node_among c x (from_filter (λ other. not (other == me)) x (nodes c) i).1

  abbrev pub Next : Standing → Type 0
  Next now = Alone now ⊎ Finished now

  take_tell : (now : Standing) (a : Alone now) (j v : ℕ) → is_voter c v ≡ true → Waits now.tape j (accepted_by v) → Next (after now me j (take_step (s_of me) (now.node me) (accepted_by v)))
  take_tell now a j v voter w = by a.at
    where
      clock : ℕ
      clock = clock_of (now.node me).met

      one_more : (those : List ℕ) → Polled now.tape those → Polled (after now me j (take_step (s_of me) (now.node me) (accepted_by v))).tape (with_node v those)
      one_more those polled = polled_on now a j (accepted_by v) w me (voter_is_node c me member) (take_step (s_of me) (now.node me) (accepted_by v)) those (with_node v those) (λ u there. with_more v u those there)
          (λ u uv same. absurd (clash 1 2 (ap kind_of_message same) refl)) (λ u uv same. subst (λ x. has x (with_node v those) ≡ true) (sym (ap (λ (m : Message). m.from) same)) (with_has v those)) polled

      leads : (seen leader at : ℕ) → (now.node me).open_operations ≡ proposes seen (Asking leader at) ∷ [] → is_voter c leader ≡ true → IsAwaited now.tape (accept_for leader) ⊎ IsAwaited now.tape (accepted_by leader)
          → (t : Bool) → (v == leader) ≡ t → Next (after now me j (take_step (s_of me) (now.node me) (accepted_by v)))
      leads seen leader at is lead waiting false e =
          inl (told_alone now a j v voter w seen (max seen 0) (Asking leader at) (Asking leader at) [] [] is hears tt tt refl
          (asks (max seen 0) leader at (told_opens now a j v voter w seen (max seen 0) (Asking leader at) (Asking leader at) [] [] is hears tt tt refl) lead (elim waiting [
            | inl ask ↦ elim (on now a j (accepted_by v) w me (voter_is_node c me member) made' (accept_for leader) ask) [ inl same ↦ absurd (clash 1 2 (ap kind_of_message same) refl) | inr still ↦ inl still ]
            | inr tell ↦ elim (on now a j (accepted_by v) w me (voter_is_node c me member) made' (accepted_by leader) tell) [ inl same ↦ absurd (other same) | inr still ↦ inr still ]
          ])))
        where
          made' : Step
          made' = take_step (s_of me) (now.node me) (accepted_by v)

          hears : hears_message (s_of me) clock (accepted_by v) (proposes seen (Asking leader at)) ≡ record { operation = proposes (max seen 0) (Asking leader at); sends = [] }
          hears = hears_leader clock v seen leader at lead false e

          other : accepted_by leader ≡ accepted_by v → ⊥
          other same = let apart = sym (ap (λ x. v == x) (ap (λ (m : Message). m.from) same) ∙ number_self v) ∙ e in cc
      leads seen leader at is lead waiting true e =
          told_next now a j v voter w seen (max seen 0) (Asking leader at) (accepts its_site zero_ballot own (leader ∷ []) clock) (all_asked leader) (leader ∷ []) is (hears_leader clock v seen leader at lead true e)
          (each_map Fits accept_for (others leader (voters c)) (λ x i. asks_vote x (other_voter c leader x i).0 refl)) (each_map (λ (m : Message). IsNoAct m.body) accept_for (others leader (voters c)) (λ x i. tt))
          (accepts_progress (leader ∷ []) clock) (λ sent u uv. polled sent u uv (leader == u) refl) nodes_are
        where
          polled : ((x : Message) → Among x (all_asked leader) → IsAwaited (after now me j (take_step (s_of me) (now.node me) (accepted_by v))).tape x) → (u : ℕ) → is_voter c u ≡ true → (t : Bool) → (leader == u) ≡ t
              → (has u (leader ∷ []) ≡ true) ⊎ (IsAwaited (after now me j (take_step (s_of me) (now.node me) (accepted_by v))).tape (accept_for u) ⊎ IsAwaited (after now me j (take_step (s_of me) (now.node me) (accepted_by v))).tape (accepted_by u))
          polled sent u uv true same = inl (ap (λ t. t || false) same)
          polled sent u uv false same = inr (inl (sent (accept_for u) (among_map accept_for u (others leader (voters c)) (among_others c leader u uv (apart_turned leader u same)))))

      by : At now → Next (after now me j (take_step (s_of me) (now.node me) (accepted_by v)))
      by (asks seen leader at is lead waiting) = leads seen leader at is lead waiting (v == leader) refl
      by (accepting seen those at is polled few) = told_next now a j v voter w seen (max seen 0) (Accepting zero_ballot own those at) (accepts its_site zero_ballot own (with_node v those) at) [] (with_node v those) is (hears_voter clock v seen those at voter)
          tt tt (accepts_progress (with_node v those) at) (λ sent. one_more those polled) nodes_are
      by (covering seen those at is polled not_all) = told_next now a j v voter w seen (max seen 0) (Covering zero_ballot own (first_cover those) at) (covers its_site zero_ballot own (first_cover (with_node v those)) at) [] (with_node v those) is (hears_cover clock v seen those at voter)
          tt tt (covers_progress (with_node v those) at) (λ sent. one_more those polled) nodes_are

  -- ---- each delivery, and the end

  pub takes_next : (now : Standing) → Next now → (j : ℕ) (m : Message) → Waits now.tape j m → Next (whole_step c now m.to (Taken j ∷ []) (step (s_of m.to) (now.node m.to) (Take m)))
  takes_next now (inr done) j m w = inr (record {
    over = over_takes c h now done.over j m w;
    stands = mail.stood _ done.stands;
    decides = mail.stood _ done.decides;
  })
    where
      made : Step
      made = step (s_of m.to) (now.node m.to) (Take m)

      mail : Mailed now.tape (whole_step c now m.to (Taken j ∷ []) made).tape (λ k. j == k) made.sends
      mail = mailed_step c (set_at now.node m.to made.node) m.to now.tape (Taken j) (λ k. j == k) made.notes made.sends refl refl (mailed_taken now.tape j m w (done.over).numbered)
  takes_next now (inl a) j m w = by (a.mail j m w)
    where
      Leads : Message → Type 0
      Leads x = Next (after now x.to j (take_step (s_of x.to) (now.node x.to) x))

      asked_by : (v : ℕ) → is_voter c v ≡ true → Waits now.tape j (accept_for v) → (t : Bool) → (v == me) ≡ t → Leads (accept_for v)
      asked_by v voter w' false e = inl (take_ask_other now a j v voter e w')
      asked_by v voter w' true e = subst (λ u. Leads (accept_for u)) (sym (number_is v me e)) (inl (take_ask_me now a j (subst (λ u. Waits now.tape j (accept_for u)) (number_is v me e) w')))

      stale_by : (from to : ℕ) (body : Body) → is_node c from ≡ true → is_node c to ≡ true → IsElsewhere body → Waits now.tape j (message from to body) → (t : Bool) → (to == me) ≡ t → Leads (message from to body)
      stale_by from to body there here elsewhere w' false e = inl (take_stale_other now a j from to there here body elsewhere e w')
      stale_by from to body there here elsewhere w' true e = subst (λ u. Leads (message from u body)) (sym (number_is to me e)) (inl (take_stale_me now a j from there body elsewhere (subst (λ u. Waits now.tape j (message from u body)) (number_is to me e) w')))

      by : Fits m → Leads m
      by (is_stale from to elsewhere) = stale_by m.from m.to m.body from to elsewhere w (m.to == me) refl
      by (asks_vote v voter is) = subst Leads (sym is) (asked_by v voter (subst (Waits now.tape j) is w) (v == me) refl)
      by (tells_vote v voter is) = subst Leads (sym is) (take_tell now a j v voter (subst (Waits now.tape j) is w))

  next_up : (now : Standing) → Next now → (v : ℕ) → is_node c v ≡ true → is_up (now.node v).met ≡ true
  next_up now (inl a) = a.up
  next_up now (inr done) = (done.over).up

  next_unfused : (now : Standing) → Next now → (v : ℕ) → is_node c v ≡ true → IsUnfused now v
  next_unfused now (inl a) = a.unfused
  next_unfused now (inr done) = (done.over).unfused

  next_receives : (now : Standing) → Next now → (k : ℕ) (m : Message) → Waits now.tape k m → is_node c m.to ≡ true
  next_receives now (inl a) k m w = (fits_tame m (a.mail k m w)).to
  next_receives now (inr done) k m w = ((done.over).mail k m w).to

  -- an operation that proposes awaits a message
  awaits : (now : Standing) → Alone now → (m : Message) × IsAwaited now.tape m
  awaits now a = by a.at
    where
      each : (x : ℕ) (vs those : List ℕ) → has x those ≡ true → ((v : ℕ) → Among v vs → has v those ≡ true) → (v : ℕ) → Among v (x ∷ vs) → has v those ≡ true
      each x vs those there rest v (inl same) = subst (λ u. has u those ≡ true) same there
      each x vs those there rest v (inr i) = rest v i

      all_or : (vs those : List ℕ) → Polled now.tape those → ((v : ℕ) → Among v vs → is_voter c v ≡ true) → ((v : ℕ) → Among v vs → has v those ≡ true) ⊎ ((m : Message) × IsAwaited now.tape m)
      all_or [] those polled are = inl (λ v i. absurd i)
      all_or (x ∷ vs) those polled are = elim (polled x (are x (inl refl))) [
        | inr waiting ↦ elim waiting [ inl ask ↦ inr (accept_for x, ask) | inr tell ↦ inr (accepted_by x, tell) ]
        | inl there ↦ elim (all_or vs those polled (λ v i. are v (inr i))) [ inr waiting ↦ inr waiting | inl rest ↦ inl (each x vs those there rest) ]
      ]

      by : At now → (m : Message) × IsAwaited now.tape m
      by (asks seen leader at is lead waiting) = elim waiting [ inl ask ↦ (accept_for leader, ask) | inr tell ↦ (accepted_by leader, tell) ]
      by (accepting seen those at is polled few) = elim (all_or (voters c) those polled (voter_of c)) [
        | inl all ↦ absurd (let many = all_heard c those me member (λ v voter. all v (among_voters c v voter)) in let never = sym many ∙ few in cc)
        | inr waiting ↦ waiting
      ]
      by (covering seen those at is polled not_all) = elim (all_or (voters c) those polled (voter_of c)) [
        | inl all ↦ absurd (let covered = all_true (is_covered its_site (first_cover those)) (full_nodes c) (λ x i. ap (λ t. t || has x [] || is_free its_site (first_cover those) x)
            (all x (among_voters c x (full_votes c x (from_filter (is_full c) x (nodes c) i).0)))) in let never = sym covered ∙ not_all in cc)
        | inr waiting ↦ waiting
      ]

  pub ends_finished : (cuts : Cuts) (most : ℕ) (first : Standing) → Next first → is_cut (drained c h cuts first most).tape ≡ false → Finished (drained c h cuts first most)
  ends_finished cuts most first next not_cut = by ends.holds
    where
      last : Standing
      last = drained c h cuts first most

      ends : Ends Next (drained c h cuts first most)
      ends = drain_ends c h cuts Next
          (λ now q j one_more. next_unfused now q (one_more.message).to (next_receives now q j one_more.message one_more.waits))
          (λ now q j one_more. takes_next now q j one_more.message one_more.waits)
          most first next not_cut

      by : Next last → Finished last
      by (inr done) = done
      by (inl a) = absurd (let waiting = awaits last a in none_waits last ends.none (waiting.1).number waiting.0 (waiting.1).waits (next_up last ends.holds (waiting.0).to (next_receives last ends.holds (waiting.1).number waiting.0 (waiting.1).waits)))
