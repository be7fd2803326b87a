-- An operation that is to propose begins at a full node of a calm cluster: it reads, by a poll or without one, and behind its drain its entry is committed.
use Rattle.std.proofs.Common.{◌≡◌, inl, inr, ℕ, ◌+◌, ◌≤◌, ◌<◌, max, nat_le, Bool, true, false, cond, List, [], ◌∷◌, ◌++◌, fold, length, map, take, Option, Some, None, refl, sym, ap, ◌∙◌, subst, arith}
use Rattle.std.proofs.lemmas.Bool.Decides.{nat_tests}
use Rattle.mega_base.specs.declared.names.Epoch.{Epoch}
use Rattle.mega_base.specs.declared.names.GroupId.{GroupId}
use Rattle.mega_base.specs.declared.names.OpId.{OpId}
use Rattle.mega_cluster.specs.declared.cluster.Cluster.{Cluster}
use Rattle.mega_entry.specs.declared.content.Content.{Content}
use Rattle.mega_entry.specs.declared.content.Enter.{Enter}
use Rattle.mega_handler.specs.Named.{Meanings}
use Rattle.mega_wire.specs.declared.message.Message.{Message}
use Rattle.mega_outcome.specs.declared.answer.Answer.{Answer}
use Rattle.mega_outcome.specs.declared.answer.Answer.TheVariants.{Conflict}
use Rattle.mega_outcome.specs.declared.request.Request.{Request}
use Rattle.mega_leased_laws.specs.of_run_laws.of_tape_laws.of_promises.of_rules.of_read.of_propose.Members.{is_majority}
use Rattle.mega_leased_laws.specs.of_run_laws.of_tape_laws.of_promises.of_rules.of_read.declared.reading.Search.{Search}
use Rattle.mega_leased_laws.specs.of_run_laws.of_tape_laws.of_promises.of_rules.of_read.declared.reading.Stage.{Stage}
use Rattle.mega_leased_laws.specs.of_run_laws.of_tape_laws.of_promises.of_rules.of_read.declared.reading.Stage.TheVariants.{Polling, Catching}
use Rattle.mega_leased_laws.specs.of_run_laws.of_tape_laws.of_promises.of_rules.of_read.Catching.{helpers}
use Rattle.mega_wal.specs.Same.{same_op, same_option}
use Rattle.mega_wal.proofs.Sames.{same_op_self}
use Rattle.mega_leased_laws.specs.of_run_laws.of_tape_laws.of_promises.of_transcript.declared.item.Item.{Item}
use Rattle.mega_leased_laws.specs.of_run_laws.of_tape_laws.of_promises.of_transcript.declared.item.Item.TheVariants.{Answer as AnswerItem, Begin as BeginItem, Cut as CutItem, Decide as DecideItem, Taken}
use Rattle.mega_leased_laws.specs.of_run_laws.of_tape_laws.of_promises.of_rules.Acting.{committed, goes_on, sends_more, verdict}
use Rattle.mega_leased_laws.specs.of_run_laws.of_tape_laws.of_promises.of_rules.Clock.{clock_of, next_number, start_of}
use Rattle.mega_leased_laws.specs.of_run_laws.of_tape_laws.of_promises.of_rules.Coordinators.{serves_at, valid_at}
use Rattle.mega_leased_laws.specs.of_run_laws.of_tape_laws.of_promises.of_rules.Logs.{log_of, prefix_of, top_of}
use Rattle.mega_leased_laws.specs.of_run_laws.of_tape_laws.of_promises.of_rules.Members.{is_full, is_node, is_voter, voters}
use Rattle.mega_leased_laws.specs.of_run_laws.of_tape_laws.of_promises.of_rules.Met.{Met, Begins, Sends}
use Rattle.mega_leased_laws.specs.of_run_laws.of_tape_laws.of_promises.of_rules.Operations.{Node, Now, Promised, Setting}
use Rattle.mega_leased_laws.specs.of_run_laws.of_tape_laws.of_promises.of_rules.Steps.{Begin, Step, Take, apply_notes, begin_step, onto, op_of, step}
use Rattle.mega_leased_laws.specs.of_run_laws.of_tape_laws.of_promises.Calm.{IsCalm, begun, is_cut, next_position}
use Rattle.mega_leased_laws.specs.of_run_laws.of_tape_laws.of_promises.Items.{number, shown}
use Rattle.mega_leased_laws.specs.of_run_laws.of_tape_laws.of_promises.Promises.{Stands}
use Rattle.mega_leased_laws.specs.of_run_laws.of_tape_laws.of_promises.Runs.{Cuts, Standing, drained, marked, set_at, setting, unless_none, whole_step}
use Rattle.mega_calm_laws.specs.Ready.{IsReady, knows_end}
use Rattle.mega_calm_laws.specs.Stocked.{IsStocked}
use Rattle.mega_calm_laws.specs.Waiting.{IsNumbered, Waits}
use Rattle.mega_calm_laws.proofs.Alone.{Held, where_to}
use Rattle.mega_calm_laws.proofs.AtOnce.{acted, begin, reads_so}
use Rattle.mega_calm_laws.proofs.Beginning.{full_node, full_votes, none_waits_yet}
use Rattle.mega_calm_laws.proofs.Heard.{among_map, each_map}
use Rattle.mega_calm_laws.proofs.Draining.{Ends, IsUnfused, at_node_whole, drain_ends, none_waits}
use Rattle.mega_leased_laws.specs.of_run_laws.Justified.{Each}
use Rattle.mega_leased_laws.proofs.of_run_laws.Events.{each_append as each_both, onto_append}
use Rattle.mega_calm_laws.proofs.Mail.{Among, Mailed, among_left, mailed_plain, mailed_step, none_gone}
use Rattle.mega_calm_laws.proofs.Majorities.{some_pass}
use Rattle.mega_calm_laws.proofs.Noting.{IsStill, SameLogs, applies_still, logs_then, sends_still, still_onto}
use Rattle.mega_calm_laws.proofs.Polls.{among_voters, voter_is_node, voter_of}
use Rattle.mega_calm_laws.proofs.Proposing.{Finished, Fits as ProposalFits, asks_vote, ends_finished, is_stale, takes_next, tells_vote}
use Rattle.mega_calm_laws.proofs.Reaching.{Around, Comes, FinishesSo, awaits, helped, me_comes, receives, takes_on}
use Rattle.mega_calm_laws.proofs.Searching.{Fits, Grounds, Grown, Ready, asks_where}
use Rattle.mega_calm_laws.proofs.Seeking.{Outcome, asks, fetching, goes_on_so, proposed, proposes, seeks, validates_bland, validates_still, waits, who}
use Rattle.mega_calm_laws.proofs.Turning.{AreQuiet, Becomes, IsHelped, Leaves, fetch_all, fetch_quiet, fetches, no_votes, question, stays, turns}
use Rattle.mega_calm_laws.proofs.Voting.{IsBland, IsNoAct, NodeOn, applies_bland, bland_onto, bland_sends, node_then}

-- ---- the step in which it begins

module _ (s : Setting) (node : Node) (request : Request) (text : List ℕ) (none : node.open_operations ≡ []) (g : GroupId) (entering : Option Enter) (own : Content) (promised : Promised) (log : List Content) (leader : ℕ) where
  abbrev id : OpId
  id = op_of s node.met

  abbrev base : List Met
  base = Begins id text ∷ node.met

  abbrev end : ℕ
  end = length log + 1

  abbrev made : Step
  made = begin_step s node request text

  abbrev proceeds : Now
  proceeds = acted s node request text none g entering own promised leader

  begun_leaves : Each IsStill proceeds.valid → Each IsBland proceeds.valid → proceeds.answers ≡ [] → AreQuiet proceeds.sends → Leaves g end base (made.node).met
  begun_leaves still bland none_answered quiet = record {
    logs = subst (SameLogs base) (sym spread)
        (logs_then base noted (onto (map Sends proceeds.sends) noted)
        (logs_then base (onto applies base) noted (still_onto applies base (applies_still s node.met node.stored proceeds.met proceeds.stored))
        (logs_then (onto applies base) (onto proceeds.valid (onto applies base)) noted (still_onto proceeds.valid (onto applies base) still) (still_onto proceeds.answers (onto proceeds.valid (onto applies base)) (subst (Each IsStill) (sym none_answered) tt))))
        (still_onto (map Sends proceeds.sends) noted (sends_still proceeds.sends (no_votes proceeds.sends quiet))));
    acts = (subst (NodeOn g end base) (sym spread)
        (node_then g end base noted (onto (map Sends proceeds.sends) noted)
        (node_then g end base (onto applies base) noted (bland_onto g end applies base (applies_bland s node.met node.stored proceeds.met proceeds.stored))
        (node_then g end (onto applies base) (onto proceeds.valid (onto applies base)) noted (bland_onto g end proceeds.valid (onto applies base) bland) (bland_onto g end proceeds.answers (onto proceeds.valid (onto applies base)) (subst (Each IsBland) (sym none_answered) tt))))
        (bland_onto g end (map Sends proceeds.sends) noted (bland_sends proceeds.sends quiet)))).same_acts;
  }
    where
      applies : List Met
      applies = apply_notes s node.met node.stored proceeds.met proceeds.stored

      noted : List Met
      noted = onto proceeds.answers (onto proceeds.valid (onto applies base))

      spread : (made.node).met ≡ onto (map Sends proceeds.sends) noted
      spread = ap (onto (map Sends proceeds.sends)) (onto_append ((([] ++ []) ++ applies) ++ proceeds.valid) proceeds.answers base ∙ ap (onto proceeds.answers) (onto_append (([] ++ []) ++ applies) proceeds.valid base))

  module _ (noted_epoch : Option Epoch) (stage : Stage) (sends : List Message) (quiet : AreQuiet sends)
      (is : proceeds ≡ goes_on s (sends_more (begin s node request text none g entering own promised leader) sends) (seeks s id g request entering (clock_of node.met) noted_epoch log own promised leader stage))
      (helped_so : IsHelped s id g request entering (clock_of node.met) noted_epoch log own promised leader base stage) where
    quiet_both : (xs ys : List Message) → AreQuiet xs → AreQuiet ys → AreQuiet (xs ++ ys)
    quiet_both xs ys h k = each_both (λ (one : Message). IsNoAct one.body) xs ys h k

    pub begin_becomes : Becomes s id g request entering (clock_of node.met) noted_epoch log own promised leader base stage made sends
    begin_becomes = by (subst (Outcome s id g request entering (clock_of node.met) noted_epoch log own promised leader (sends_more (begin s node request text none g entering own promised leader) sends) stage) (sym is)
        (goes_on_so s id g request entering (clock_of node.met) noted_epoch log own promised leader (sends_more (begin s node request text none g entering own promised leader) sends) stage tt helped_so))
      where
        by : Outcome s id g request entering (clock_of node.met) noted_epoch log own promised leader (sends_more (begin s node request text none g entering own promised leader) sends) stage proceeds
            → Becomes s id g request entering (clock_of node.met) noted_epoch log own promised leader base stage made sends
        by (proposes at kept sent valid answers) = turns at sent (kept ∙ ap (λ os. os ++ proposed s id g request entering (clock_of node.met) noted_epoch log own promised leader at ∷ []) none)
            (begun_leaves (validates_still proceeds.valid valid) (validates_bland proceeds.valid valid) answers
            (subst AreQuiet (sym sent) (quiet_both sends (question s id g request entering (clock_of node.met) noted_epoch log own promised leader ∷ []) quiet (tt, tt))))
        by (waits kept sent valid answers stayed) = stays sent (kept ∙ ap (λ os. os ++ seeks s id g request entering (clock_of node.met) noted_epoch log own promised leader stage ∷ []) none)
            (begun_leaves (validates_still proceeds.valid valid) (validates_bland proceeds.valid valid) answers (subst AreQuiet (sym sent) quiet)) stayed
        by (asks through at search is_stage above kept sent valid answers) = fetches through at search is_stage above sent
            (kept ∙ ap (λ os. os ++ seeks s id g request entering (clock_of node.met) noted_epoch log own promised leader (fetching s id g request entering (clock_of node.met) noted_epoch log own promised leader base through at) ∷ []) none)
            (begun_leaves (validates_still proceeds.valid valid) (validates_bland proceeds.valid valid) answers
            (subst AreQuiet (sym sent) (quiet_both sends (fetch_all s id g request entering (clock_of node.met) noted_epoch log own promised leader (prefix_of base g + 1)) quiet
            (fetch_quiet s id g request entering (clock_of node.met) noted_epoch log own promised leader (prefix_of base g + 1) (helpers (who s id g request entering (clock_of node.met) noted_epoch log own promised leader))))))

-- ---- numbers

le_is : (a b : ℕ) → nat_le a b ≡ true → a ≤ b
le_is a b h = grind (arith, nat_tests)

none_most : (n : ℕ) → is_majority n 0 ≡ false
none_most n = grind (arith, nat_tests)

both_ways : (a b : ℕ) → a ≤ b → b ≤ a → a ≡ b
both_ways a b one other = omega (arith, one, other)

-- the greatest of some numbers
fold_at_least : (f : ℕ → ℕ) (xs : List ℕ) (acc : ℕ) → acc ≤ fold (λ most x. max most (f x)) acc xs
fold_at_least f [] acc = omega arith
fold_at_least f (x ∷ xs) acc = let rest = fold_at_least f xs (max acc (f x)) in omega (arith, rest)

pub fold_above : (f : ℕ → ℕ) (xs : List ℕ) (acc v : ℕ) → Among v xs → f v ≤ fold (λ most x. max most (f x)) acc xs
fold_above f [] acc v i = absurd i
fold_above f (x ∷ xs) acc v (inl same) = subst (λ y. f y ≤ fold (λ most z. max most (f z)) (max acc (f x)) xs) same (let rest = fold_at_least f xs (max acc (f x)) in omega (arith, rest))
fold_above f (x ∷ xs) acc v (inr i) = fold_above f xs (max acc (f x)) v i

pub fold_below : (f : ℕ → ℕ) (xs : List ℕ) (acc most_of : ℕ) → acc ≤ most_of → ((v : ℕ) → Among v xs → f v ≤ most_of) → fold (λ most x. max most (f x)) acc xs ≤ most_of
fold_below f [] acc most_of le each = le
fold_below f (x ∷ xs) acc most_of le each = fold_below f xs (max acc (f x)) most_of (let first = each x (inl refl) in omega (arith, le, first)) (λ v i. each v (inr i))

-- the next position is the one behind the log
pub next_is : (c : Cluster) (now : Standing) (me : ℕ) (g : GroupId) (log : List Content) (n : ℕ) → IsReady c now me g log → next_position c now g ≡ n → n ≡ length log + 1
next_is c now me g log n is next =
    let one = some_pass (voters c) (knows_end now g log) is.known in
    let above = fold_above (λ v. top_of (now.node v).met g) (voters c) 0 one.0 one.1 in
    let high = le_is (length log) (top_of (now.node one.0).met g) one.2 in
    let low = fold_below (λ v. top_of (now.node v).met g) (voters c) 0 (length log) (omega arith) (λ v i. is.within v (voter_of c v i)) in
    equal (fold (λ most v. max most (top_of (now.node v).met g)) 0 (voters c)) (top_of (now.node one.0).met g) (length log) above high low next
  where
    equal : (most top l : ℕ) → top ≤ most → l ≤ top → most ≤ l → most + 1 ≡ n → n ≡ l + 1
    equal most top l above high low same = omega (arith, above, high, low, same)

-- ---- a calm cluster

module _ (c : Cluster) (h : Meanings) (cuts : Cuts) (now : Standing) (me : ℕ) (request : Request) (text : List ℕ) (g : GroupId) (entering : Option Enter) (own : Content) (promised : Promised) (log : List Content)
    (calm : IsCalm c now g) (in_order : IsNumbered now.tape) (stocked : IsStocked c now g) (full : is_full c me ≡ true) (is : IsReady c now me g log)
    (begins_reading : acted (setting c h me) (now.node me) request text (calm.none_open me (full_node c me full)) g entering own promised is.leader
    ≡ reads_so (setting c h me) (now.node me) request text (calm.none_open me (full_node c me full)) g entering own promised is.leader (valid_at c (now.node me).met g))
    (finishes_so : (noted : Option Epoch) (met : List Met) → take (length log) (log_of met g) ≡ log → (hand : Now) (search : Option Search) → hand.met ≡ met
    → FinishesSo c me (start_of (now.node me).met) (next_number (now.node me).met) g log request entering (clock_of (now.node me).met) noted own promised is.leader h hand search) where
  abbrev s : Setting
  s = setting c h me

  abbrev met : List Met
  met = (now.node me).met

  abbrev start : ℕ
  start = start_of (now.node me).met

  abbrev nth : ℕ
  nth = next_number (now.node me).met

  abbrev its_id : OpId
  its_id = op_of (setting c h me) (now.node me).met

  abbrev clock : ℕ
  clock = clock_of (now.node me).met

  abbrev its_base : List Met
  its_base = Begins its_id text ∷ met

  abbrev its_step : Step
  its_step = begin_step s (now.node me) request text

  member : is_voter c me ≡ true
  member = full_votes c me full

  is_there : is_node c me ≡ true
  is_there = full_node c me full

  its_none : (now.node me).open_operations ≡ []
  its_none = calm.none_open me is_there

  abbrev fresh : ℕ → Bool
  fresh = knows_end now g log

  abbrev first : Standing
  first = whole_step c now me (BeginItem its_id text ∷ []) its_step

  ground : Grounds c me start nth g log fresh now.node
  ground = record {
    held = λ i below. held_at i below;
    agreed = λ v voter i e d. is.agreed v i e voter d;
    within = is.within;
    floor = λ v voter is_fresh. le_is (length log) (top_of (now.node v).met g) is_fresh;
    unmade = is.unmade;
    undecided = is.undecided;
  }
    where
      held_at : (i : ℕ) → i < length log → Held c me start nth g now.node (i + 1)
      held_at i below =
          let one = some_pass (voters c) (knows_end now g log) is.known in
          let reaches = le_is (length log) (top_of (now.node one.0).met g) one.2 in
          let known = stocked.each one.0 (i + 1) (voter_of c one.0 one.1) (omega arith) (omega (arith, below, reaches)) in
          record { voter = known.voter; member = known.member; entry = known.entry; is = known.is }

  module _ (noted : Option Epoch) where
    abbrev IsAround : Standing → Type 0
    IsAround standing = Around c me start nth g log member request entering clock noted own promised is.leader h fresh is.known (finishes_so noted) is.leads is.leader_votes standing

    abbrev HasCome : Standing → Type 0
    HasCome standing = Comes c me start nth g log member request entering clock noted own promised is.leader h fresh is.known (finishes_so noted) is.leads is.leader_votes standing

    around : IsAround now
    around = record {
      up = λ v there. calm.all_up v there;
      unfused = λ v there. record { no_log = calm.no_log_fuse v there; no_data = calm.no_data_fuse v there };
      in_order = in_order;
      idle = λ v there apart. calm.none_open v there;
      ground = ground;
      mail = λ k m w. absurd (none_waits_yet now.tape calm.quiet k m w);
    }

    its_grew : Grown g log met its_base
    its_grew = record { more = λ k e d. d; agreed = λ f. f; within = λ le. le; floor = λ le. le; undecided = λ none. none; acts = refl; up = refl }

    its_mail : Mailed now.tape first.tape none_gone its_step.sends
    its_mail = mailed_step c (set_at now.node me its_step.node) me now.tape (BeginItem its_id text) none_gone its_step.notes its_step.sends refl refl (mailed_plain (BeginItem its_id text) now.tape tt in_order)

    abbrev Becomes_so : Stage → List Message → Type 0
    Becomes_so stage sends = Becomes s its_id g request entering clock noted log own promised is.leader its_base stage its_step sends

    begins : (stage : Stage) (sends : List Message) → Each (Fits c me start nth g log fresh first.node) sends → Ready c me start nth g log fresh first.node first.tape stage → Becomes_so stage sends → HasCome first
    begins stage sends fits ready became =
        me_comes c me start nth g log member request entering clock noted own promised is.leader h fresh is.known (finishes_so noted) is.leads is.leader_votes now around (BeginItem its_id text) none_gone its_step its_mail its_base its_grew stage sends
        (λ leaves. fits) (λ leaves. ready) became

    -- ---- the drain

    abbrev FitsProposal : Message → Type 0
    FitsProposal m = ProposalFits c me start nth g (length log + 1) own member request clock (g ∷ []) entering [] promised h m

    proposal_receives : (m : Message) → FitsProposal m → is_node c m.to ≡ true
    proposal_receives m (is_stale from to elsewhere) = to
    proposal_receives m (asks_vote v voter same) = subst (λ (x : Message). is_node c x.to ≡ true) (sym same) (voter_is_node c v voter)
    proposal_receives m (tells_vote v voter same) = subst (λ (x : Message). is_node c x.to ≡ true) (sym same) is_there

    come_receives : (standing : Standing) → HasCome standing → (k : ℕ) (m : Message) → Waits standing.tape k m → is_node c m.to ≡ true
    come_receives standing (inl q) k m w = receives c me start nth g log member request entering clock noted own promised is.leader h fresh is.known (finishes_so noted) is.leads is.leader_votes standing q.around k m w
    come_receives standing (inr (inl q)) k m w = proposal_receives m (q.mail k m w)
    come_receives standing (inr (inr q)) k m w = ((q.over).mail k m w).to

    come_unfused : (standing : Standing) → HasCome standing → (v : ℕ) → is_node c v ≡ true → IsUnfused standing v
    come_unfused standing (inl q) = (q.around).unfused
    come_unfused standing (inr (inl q)) = q.unfused
    come_unfused standing (inr (inr q)) = (q.over).unfused

    come_takes : (standing : Standing) → HasCome standing → (j : ℕ) (m : Message) → Waits standing.tape j m → HasCome (whole_step c standing m.to (Taken j ∷ []) (step (setting c h m.to) (standing.node m.to) (Take m)))
    come_takes standing (inl q) j m w = takes_on c me start nth g log member request entering clock noted own promised is.leader h fresh is.known (finishes_so noted) is.leads is.leader_votes standing q j m w
    come_takes standing (inr q) j m w = inr (takes_next c me start nth g (length log + 1) own member request clock (g ∷ []) entering [] promised h standing q j m w)

    abbrev IsFinished : Standing → Type 0
    IsFinished standing = Finished c me start nth g (length log + 1) own member request clock (g ∷ []) entering [] promised h standing

    ends_so : (most : ℕ) → HasCome first → is_cut (drained c h cuts first most).tape ≡ false → IsFinished (drained c h cuts first most)
    ends_so most came not_cut = by ends.holds
      where
        last : Standing
        last = drained c h cuts first most

        ends : Ends HasCome (drained c h cuts first most)
        ends = drain_ends c h cuts HasCome
            (λ standing q j one. come_unfused standing q (one.message).to (come_receives standing q j one.message one.waits))
            (λ standing q j one. come_takes standing q j one.message one.waits)
            most first came not_cut

        -- a drain of no delivery, where no message is left
        still : drained c h cuts last 0 ≡ last
        still = ap (unless_none last (λ k. marked last CutItem)) ends.none

        by : HasCome last → IsFinished last
        by (inl q) = absurd (let waiting = awaits c me start nth g log member request entering clock noted own promised is.leader h fresh is.known (finishes_so noted) is.leads is.leader_votes last q in
            none_waits last ends.none (waiting.1).number waiting.0 (waiting.1).waits ((q.around).up (waiting.0).to (come_receives last (inl q) (waiting.1).number waiting.0 (waiting.1).waits)))
        by (inr q) = subst IsFinished still (ends_finished c me start nth g (length log + 1) own member request clock (g ∷ []) entering [] promised h cuts 0 last q (ap (λ (x : Standing). is_cut x.tape) still ∙ not_cut))

  begun_so : begun c h cuts now me request text ≡ first
  begun_so = at_node_whole c h now me (shown me (Begins its_id text)) (Begin request text) (cuts now me) (record { no_log = calm.no_log_fuse me is_there; no_data = calm.no_data_fuse me is_there })

  -- what stands in the end
  pub record IsCommitted (tape : List Item) : Type 0 where
    pub answered : Stands (AnswerItem its_id (verdict its_id (length log + 1) promised own)) tape
    pub decides : Stands (DecideItem (number me) g (record { 0 = length log + 1 }) own) tape

  finished_so : (noted : Option Epoch) (standing : Standing) → IsFinished noted standing → IsCommitted standing.tape
  finished_so noted standing f = record { answered = f.stands; decides = f.decides }

  pub in_the_end : (most : ℕ) → is_cut (drained c h cuts (begun c h cuts now me request text) most).tape ≡ false → IsCommitted (drained c h cuts (begun c h cuts now me request text) most).tape
  in_the_end most = subst (λ standing. is_cut (drained c h cuts standing most).tape ≡ false → IsCommitted (drained c h cuts standing most).tape) (sym begun_so) (by (valid_at c met g) refl)
    where
      by : (t : Bool) → valid_at c met g ≡ t → is_cut (drained c h cuts first most).tape ≡ false → IsCommitted (drained c h cuts first most).tape
      by true valid not_cut = finished_so None (drained c h cuts first most) (ends_so None most (begins None stage [] tt top_is became) not_cut)
        where
          top : ℕ
          top = top_of met g

          stage : Stage
          stage = Catching top None

          top_is : top ≡ length log
          top_is = both_ways top (length log) (is.within me member) (is.valid valid)

          became : Becomes_so None stage []
          became = begin_becomes s (now.node me) request text its_none g entering own promised log is.leader None stage [] tt
              (begins_reading ∙ ap (reads_so s (now.node me) request text its_none g entering own promised is.leader) valid)
              (helped c me start nth g log member request entering clock None own promised is.leader h fresh is.known (finishes_so None) is.leads is.leader_votes now.node ground its_base (its_grew None) stage top_is)
      by false valid not_cut = finished_so noted (drained c h cuts first most) (ends_so noted most (begins noted stage sends
          (each_map (Fits c me start nth g log fresh first.node) (where_to c me start nth g) (voters c) (λ v i. asks_where v (voter_of c v i) refl))
          (record {
            awaited = λ v voter. inr (inl ((its_mail noted).sends (where_to c me start nth g v) (sent_all became (where_to c me start nth g v) (among_map (where_to c me start nth g) v (voters c) (among_voters c v voter)))));
            minority = none_most (length (voters c));
            distinct = tt;
            members = λ v there. cc;
            low = omega arith;
            high = λ v there. absurd (let never = there in cc);
          }) became) not_cut)
        where
          noted : Option Epoch
          noted = serves_at c its_base

          stage : Stage
          stage = Polling [] 0 clock

          sends : List Message
          sends = map (where_to c me start nth g) (voters c)

          quiet_map : (vs : List ℕ) → AreQuiet (map (where_to c me start nth g) vs)
          quiet_map [] = tt
          quiet_map (v ∷ vs) = (tt, quiet_map vs)

          became : Becomes_so noted stage sends
          became = begin_becomes s (now.node me) request text its_none g entering own promised log is.leader noted stage sends (quiet_map (voters c))
              (begins_reading ∙ ap (reads_so s (now.node me) request text its_none g entering own promised is.leader) valid) tt

          sent_all : Becomes_so noted stage sends → (x : Message) → Among x sends → Among x its_step.sends
          sent_all (turns at sent opens leaves) x i = subst (Among x) (sym sent) (among_left x sends (question s its_id g request entering clock noted log own promised is.leader ∷ []) i)
          sent_all (stays sent opens leaves stayed) x i = subst (Among x) (sym sent) i
          sent_all (fetches through at search same above sent opens leaves) x i = subst (Among x) (sym sent) (among_left x sends (fetch_all s its_id g request entering clock noted log own promised is.leader (prefix_of its_base g + 1)) i)

  -- where its entry names it, it is committed
  pub is_answered : own.id ≡ Some its_id → (tape : List Item) → IsCommitted tape → Stands (AnswerItem its_id (committed (length log + 1) promised)) tape
  is_answered named tape done = subst (λ a. Stands (AnswerItem its_id a) tape) (ap (λ t. cond {A = Answer} t (committed (length log + 1) promised) (Conflict (record { 0 = length log + 1 }) own.id)) same) done.answered
    where
      same : same_option same_op own.id (Some its_id) ≡ true
      same = ap (λ i. same_option same_op i (Some its_id)) named ∙ same_op_self its_id
