-- A delivery keeps that one operation reads alone which is to propose, or it proposes: what it waits for is answered, and it comes to the end of the log.
use Rattle.std.proofs.Common.{◌≡◌, ◌⊎◌, inl, inr, ℕ, zero, suc, ◌+◌, ◌==◌, ◌&&◌, ◌||◌, ◌≤◌, ◌<◌, max, nat_le, Bool, true, false, not, cond, List, [], ◌∷◌, ◌++◌, filter, length, slice_get, take, Option, Some, None, refl, sym, ap, ◌∙◌, subst, arith}
use Rattle.std.specs.List.{list_all}
use Rattle.std.proofs.lemmas.Bool.Decides.{nat_tests}
use Rattle.std.proofs.lemmas.Bool.{and_parts}
use Rattle.std.proofs.lemmas.Option.{same_Some}
use Rattle.mega_base.specs.declared.names.Epoch.{Epoch}
use Rattle.mega_base.specs.declared.names.GroupId.{GroupId}
use Rattle.mega_base.specs.declared.names.OpId.{OpId}
use Rattle.mega_cluster.specs.declared.cluster.Cluster.{Cluster}
use Rattle.mega_entry.specs.declared.content.Content.{Content}
use Rattle.mega_entry.specs.declared.content.Enter.{Enter}
use Rattle.mega_handler.specs.Named.{Meanings}
use Rattle.mega_wire.specs.declared.message.Message.{Message}
use Rattle.mega_wire.specs.declared.message.Body.{Body}
use Rattle.mega_wire.specs.declared.message.Body.TheVariants.{Fetch, Have, HaveNot, Top, Where}
use Rattle.mega_wal.specs.Same.{same_group, same_op}
use Rattle.mega_wal.proofs.Sames.{same_group_self, same_op_self}
use Rattle.mega_outcome.specs.declared.request.Request.{Request}
use Rattle.mega_leased_laws.specs.of_run_laws.of_tape_laws.of_promises.of_rules.of_read.of_propose.Members.{has, is_majority, others, with_node}
use Rattle.mega_leased_laws.specs.of_run_laws.of_tape_laws.of_promises.of_rules.of_read.declared.reading.Move.{Move as ReadMove}
use Rattle.mega_leased_laws.specs.of_run_laws.of_tape_laws.of_promises.of_rules.of_read.declared.reading.Reading.{Reading}
use Rattle.mega_leased_laws.specs.of_run_laws.of_tape_laws.of_promises.of_rules.of_read.declared.reading.Search.{Search}
use Rattle.mega_leased_laws.specs.of_run_laws.of_tape_laws.of_promises.of_rules.of_read.declared.reading.Search.TheVariants.{Fetching, Filling}
use Rattle.mega_leased_laws.specs.of_run_laws.of_tape_laws.of_promises.of_rules.of_read.declared.reading.Stage.{Stage}
use Rattle.mega_leased_laws.specs.of_run_laws.of_tape_laws.of_promises.of_rules.of_read.declared.reading.Stage.TheVariants.{Polling, Catching}
use Rattle.mega_leased_laws.specs.of_run_laws.of_tape_laws.of_promises.of_rules.of_read.Catching.{asked_by, fills, move, stays as stays_so}
use Rattle.mega_leased_laws.specs.of_run_laws.of_tape_laws.of_promises.of_transcript.declared.item.Item.{Item}
use Rattle.mega_leased_laws.specs.of_run_laws.of_tape_laws.of_promises.of_transcript.declared.item.Item.TheVariants.{Taken}
use Rattle.mega_leased_laws.specs.of_run_laws.of_tape_laws.of_promises.of_rules.Acting.{Rests, finishes, leader_after, named_leader, proposes}
use Rattle.mega_leased_laws.specs.of_run_laws.of_tape_laws.of_promises.of_rules.Clock.{clock_of, is_up}
use Rattle.mega_leased_laws.specs.of_run_laws.of_tape_laws.of_promises.of_rules.Logs.{decided, decided_from, log_of, prefix_of, top_of}
use Rattle.mega_leased_laws.specs.of_run_laws.of_tape_laws.of_promises.of_rules.Members.{is_node, is_voter, voters}
use Rattle.mega_leased_laws.specs.of_run_laws.of_tape_laws.of_promises.of_rules.Met.{Met, Takes, Validates}
use Rattle.mega_leased_laws.specs.of_run_laws.of_tape_laws.of_promises.of_rules.Operations.{Node, Now, Operation, Promised, Setting}
use Rattle.mega_leased_laws.specs.of_run_laws.of_tape_laws.of_promises.of_rules.Replies.{fetched, reply_message, reply_to, where_served}
use Rattle.mega_leased_laws.specs.of_run_laws.of_tape_laws.of_promises.of_rules.Steps.{Heard, Step, Take, decision_note, hears_message, if_new, onto, read_heard, step, take_step}
use Rattle.mega_leased_laws.specs.of_run_laws.of_tape_laws.of_promises.Messages.{message_of}
use Rattle.mega_leased_laws.specs.of_run_laws.of_tape_laws.of_promises.Runs.{Standing, set_at, setting, whole_step}
use Rattle.mega_calm_laws.specs.Ready.{leader_behind}
use Rattle.mega_calm_laws.specs.Waiting.{IsAwaited, IsNumbered, Waits}
use Rattle.mega_calm_laws.proofs.Alone.{Held, TopAwaited, fetch_at, have_from, have_not_from, op, top_from, where_to}
use Rattle.mega_calm_laws.proofs.Heard.{among_map, each_map, is_first}
use Rattle.mega_calm_laws.proofs.MessageKinds.{clash, kind_of_message, place_in}
use Rattle.mega_leased_laws.specs.of_run_laws.Justified.{Each}
use Rattle.mega_leased_laws.proofs.of_run_laws.Events.{each_append as each_both}
use Rattle.mega_leased_laws.proofs.of_run_laws.Counted.{has_push, push_has, push_last}
use Rattle.mega_leased_laws.proofs.of_settled_laws.Rounds.{with_has}
use Rattle.mega_calm_laws.proofs.Mail.{Among, Mailed, among_left, among_parts, among_right, apart_below, each_of, mailed_step, mailed_taken, number_is, number_self}
use Rattle.mega_calm_laws.proofs.Majorities.{IsDistinct, among_has, distinct_last, majorities_meet}
use Rattle.mega_calm_laws.proofs.Noting.{HasEntry, decision_has, still_one}
use Rattle.mega_calm_laws.proofs.Draining.{IsUnfused, unfused_after}
use Rattle.mega_calm_laws.proofs.Polls.{all_among, all_heard, among_others, among_voters, has_voter, other_voter, voter_is_node, voter_of}
use Rattle.mega_calm_laws.proofs.Prefixes.{behind_prefix}
use Rattle.mega_calm_laws.proofs.Reading.{HasHelper}
use Rattle.mega_calm_laws.proofs.Seeking.{IsSealed, IsUnfilled as IsOpenSearch, Stayed, WillSeal, front_is, reading, seeks, who}
use Rattle.mega_calm_laws.proofs.Stepping.{IsAsking, message}
use Rattle.mega_calm_laws.proofs.Turning.{AreQuiet, Becomes, IsHelped, IsIdle, IsUnfilled, Leaves, fetch_all, fetches, idle_asking, question, seeks_asking, seeks_have, stays, turns}
use Rattle.mega_calm_laws.proofs.Voting.{Clean}
use Rattle.mega_calm_laws.proofs.Proposing.{Alone as ProposesAlone, Fits as ProposalFits, Next as ProposalNext, asks as leader_asked, asks_vote, is_stale}
use Rattle.mega_calm_laws.proofs.Searching.{Agreed, FetchOk, Fits, Grounds, Grown, IsSought, NodesOn, Placed, PollOk, Ready, Sought, as_long, asks_entry, asks_where, decided_there, fits_on, grounds_on, grown_decision, grown_leaves, grown_takes, nodes_set, placed, tells_entry, tells_none, tells_top}

-- ---- numbers and lists

less_is : (a b : ℕ) → nat_le a b ≡ false → b < a
less_is a b h = grind (arith, nat_tests)

le_is : (a b : ℕ) → nat_le a b ≡ true → a ≤ b
le_is a b h = grind (arith, nat_tests)

last_length : (v : ℕ) (xs : List ℕ) → length (xs ++ v ∷ []) ≡ length xs + 1
last_length v [] = refl
last_length v (x ∷ xs) = ap suc (last_length v xs) ∙ next (length xs)
  where
    next : (n : ℕ) → suc (n + 1) ≡ suc n + 1
    next n = omega arith

max_low : (a b c : ℕ) → a ≤ c → b ≤ c → max a b ≤ c
max_low a b c one other = omega (arith, one, other)

max_left : (a b c : ℕ) → c ≤ a → c ≤ max a b
max_left a b c one = omega (arith, one)

max_right : (a b c : ℕ) → c ≤ b → c ≤ max a b
max_right a b c one = omega (arith, one)

both_ways : (a b : ℕ) → a ≤ b → b ≤ a → a ≡ b
both_ways a b one other = omega (arith, one, other)

-- at the end of the log it proposes its entry
abbrev pub FinishesSo : Cluster → ℕ → ℕ → ℕ → GroupId → List Content → Request → Option Enter → ℕ → Option Epoch → Content → Promised → ℕ → Meanings → Now → Option Search → Type 0
FinishesSo c me start nth g log request entering began noted own promised leader h now search =
    asked_by (reading (setting c h me) (op c me start nth g) g request entering began noted log own promised leader (Catching (length log) search)) ≡ []
    → finishes (setting c h me) now (seeks (setting c h me) (op c me start nth g) g request entering began noted log own promised leader (Catching (length log) search)) g
    (reading (setting c h me) (op c me start nth g) g request entering began noted log own promised leader (Catching (length log) search)) (length log)
    ≡ Rests (proposes (setting c h me) now (seeks (setting c h me) (op c me start nth g) g request entering began noted log own promised leader (Catching (length log) search)) g
    (reading (setting c h me) (op c me start nth g) g request entering began noted log own promised leader (Catching (length log) search)) (length log) own promised)

module _ (c : Cluster) (me start nth : ℕ) (g : GroupId) (log : List Content) (member : is_voter c me ≡ true) (request : Request) (entering : Option Enter) (began : ℕ) (noted : Option Epoch) (own : Content) (promised : Promised) (leader : ℕ) (h : Meanings)
    (fresh : ℕ → Bool) (known : is_majority (length (voters c)) (length (filter fresh (voters c))) ≡ true)
    (finishes_so : (met : List Met) → take (length log) (log_of met g) ≡ log → (now : Now) (search : Option Search) → now.met ≡ met → FinishesSo c me start nth g log request entering began noted own promised leader h now search) (leads : leader_behind c log (length log) ≡ Some leader) (leader_votes : is_voter c leader ≡ true) where
  abbrev pub s : Setting
  s = setting c h me

  abbrev pub the_op : OpId
  the_op = op c me start nth g

  abbrev pub place : ℕ
  place = length log + 1

  abbrev Log : List Met → Type 0
  Log met = Agreed g log met

  abbrev pub Grows : List Met → List Met → Type 0
  Grows old new = Grown g log old new

  abbrev pub On : (ℕ → Node) → (ℕ → Node) → Type 0
  On old new = NodesOn c me start nth g log old new

  abbrev pub Ground : (ℕ → Node) → Type 0
  Ground nodes = Grounds c me start nth g log fresh nodes

  abbrev pub Fit : (ℕ → Node) → Message → Type 0
  Fit nodes m = Fits c me start nth g log fresh nodes m

  abbrev pub Poll : List Item → List ℕ → ℕ → Type 0
  Poll tape heard best = PollOk c me start nth g log fresh tape heard best

  abbrev pub Fetched : (ℕ → Node) → List Item → ℕ → List ℕ → Type 0
  Fetched nodes tape position denials = FetchOk c me start nth g log nodes tape position denials

  abbrev pub IsReadyAt : (ℕ → Node) → List Item → Stage → Type 0
  IsReadyAt nodes tape stage = Ready c me start nth g log fresh nodes tape stage

  abbrev pub IsSoughtAt : (ℕ → Node) → Stage → Type 0
  IsSoughtAt nodes stage = Sought c me start nth g log nodes stage

  abbrev pub IsPlaced : Stage → Type 0
  IsPlaced stage = Placed c me start nth g log stage

  abbrev pub its : Stage → Operation
  its stage = seeks s the_op g request entering began noted log own promised leader stage

  abbrev pub Helps : List Met → Stage → Type 0
  Helps base stage = IsHelped s the_op g request entering began noted log own promised leader base stage

  abbrev pub BecomesAt : List Met → Stage → Step → List Message → Type 0
  BecomesAt base stage made reply = Becomes s the_op g request entering began noted log own promised leader base stage made reply

  abbrev pub IsOpenStage : Stage → Type 0
  IsOpenStage stage = IsUnfilled s the_op g request entering began noted log own promised leader stage

  -- ---- the end of the log

  sealed_by : (met : List Met) → Log met → length log ≤ length (decided_from met g (length met) 1) → decided met g place ≡ None → IsSealed s the_op g request entering began noted log own promised leader met
  sealed_by met agreed le none = record {
    finishes_so = λ now search same none_asked. finishes_so met (front_is met g log (length met) 1 (λ i e d. agreed i e (subst (λ a. decided met g a ≡ Some e) (turned i) d)) le) now search same none_asked;
    leads = λ now is. go (length log) refl now is;
    undecided = none;
  }
    where
      turned : (i : ℕ) → 1 + i ≡ i + 1
      turned i = omega arith

      suc_is : (i : ℕ) → 1 + i ≡ suc i
      suc_is i = omega arith

      go : (l : ℕ) → length log ≡ l → (now : Now) → now.met ≡ met → leader_after s now g l ≡ Some leader
      go zero e now is = subst (λ l. leader_behind c log l ≡ Some leader) e leads
      go (suc last) e now is =
          let there = decided_there met g (length met) 1 last (omega (arith, e, le)) in
          let in_log = agreed last there.0 (subst (λ a. decided met g a ≡ Some there.0) (turned last) there.1) in
          ap (λ (x : List Met). named_leader (voters c) (decided x g (suc last))) is
          ∙ (ap (named_leader (voters c)) (subst (λ a. decided met g a ≡ Some there.0) (suc_is last) there.1 ∙ sym in_log)
          ∙ subst (λ l. leader_behind c log l ≡ Some leader) e leads)

  -- ---- what it needs is there

  through_is : (through : ℕ) (search : Option Search) → IsPlaced (Catching through search) → through ≡ length log
  through_is through None at = at
  through_is through (Some (Fetching position denials sent)) at = at
  through_is through (Some (Filling position proposal)) at = absurd at

  open_search : (through : ℕ) (search : Option Search) → IsPlaced (Catching through search) → IsOpenSearch s the_op g request entering began noted log own promised leader search
  open_search through None at = tt
  open_search through (Some (Fetching position denials sent)) at = tt
  open_search through (Some (Filling position proposal)) at = absurd at

  open_stage : (stage : Stage) → IsPlaced stage → IsOpenStage stage
  open_stage (Polling heard best sent) at = tt
  open_stage (Catching through None) at = tt
  open_stage (Catching through (Some (Fetching position denials sent))) at = tt
  open_stage (Catching through (Some (Filling position proposal))) at = absurd at

  pub helped : (nodes : ℕ → Node) → Ground nodes → (base : List Met) → Grows (nodes me).met base → (stage : Stage) → IsPlaced stage → Helps base stage
  helped nodes ground base grew (Polling heard best sent) at = tt
  helped nodes ground base grew (Catching through search) at =
      (open_search through search at, λ le. sealing (subst (λ a. a ≤ prefix_of base g) (through_is through search at) (le_is through (prefix_of base g) le)), λ above. helper (subst (λ a. prefix_of base g < a) (through_is through search at) (less_is through (prefix_of base g) above)))
    where
      its_log : Log base
      its_log = grew.agreed (ground.agreed me member)

      none : decided base g place ≡ None
      none = grew.undecided (ground.undecided me (voter_is_node c me member))

      sealing : length log ≤ prefix_of base g → WillSeal s the_op g request entering began noted log own promised leader base through
      sealing le = record {
        place = through_is through search at;
        now_so = sealed_by base its_log le none;
        then_so = sealed_by (Validates g through ∷ base) its_log (let longer = as_long base g g through (length base) 1 in omega (arith, le, longer)) none;
      }

      helper : prefix_of base g < length log → HasHelper (who s the_op g request entering began noted log own promised leader)
      helper less = record { first = r.0; more = r.1; is = r.2 }
        where
          one : Held c me start nth g nodes (prefix_of base g + 1)
          one = ground.held (prefix_of base g) less

          apart : (t : Bool) → (one.voter == me) ≡ t → t ≡ false
          apart false e = refl
          apart true e = let there = grew.more (prefix_of base g + 1) one.entry (subst (λ u. decided (nodes u).met g (prefix_of base g + 1) ≡ Some one.entry) (number_is one.voter me e) one.is) in let wrong = sym there ∙ behind_prefix base g in cc

          r : (first : ℕ) × (more : List ℕ) × (others me (voters c) ≡ first ∷ more)
          r = is_first (others me (voters c)) one.voter (among_others c me one.voter one.member (apart (one.voter == me) refl))

  -- ---- how it stands

  pub record Around (now : Standing) : Type 0 where
    pub up : (v : ℕ) → is_node c v ≡ true → is_up (now.node v).met ≡ true
    pub unfused : (v : ℕ) → is_node c v ≡ true → IsUnfused now v
    pub in_order : IsNumbered now.tape
    pub idle : (v : ℕ) → is_node c v ≡ true → (v == me) ≡ false → (now.node v).open_operations ≡ []
    pub ground : Ground now.node
    pub mail : (k : ℕ) (m : Message) → Waits now.tape k m → Fit now.node m

  pub record Seeks (now : Standing) : Type 0 where
    pub around : Around now
    pub stage : Stage
    pub opens : (now.node me).open_operations ≡ its stage ∷ []
    pub ready : IsReadyAt now.node now.tape stage
    pub sought : IsSoughtAt now.node stage

  abbrev pub Proposed : Standing → Type 0
  Proposed now = ProposesAlone c me start nth g place own member request began (g ∷ []) entering [] promised h now

  abbrev pub Comes : Standing → Type 0
  Comes now = Seeks now ⊎ ProposalNext c me start nth g place own member request began (g ∷ []) entering [] promised h now

  abbrev pub FitsProposal : Message → Type 0
  FitsProposal m = ProposalFits c me start nth g place own member request began (g ∷ []) entering [] promised h m

  -- what waits is nothing to a proposal
  stale : (nodes : ℕ → Node) (m : Message) → Fit nodes m → FitsProposal m
  stale nodes m (asks_where v voter is) = subst FitsProposal (sym is) (is_stale (voter_is_node c me member) (voter_is_node c v voter) tt)
  stale nodes m (tells_top v p voter low high is) = subst FitsProposal (sym is) (is_stale (voter_is_node c v voter) (voter_is_node c me member) tt)
  stale nodes m (asks_entry v i voter apart below is) = subst FitsProposal (sym is) (is_stale (voter_is_node c me member) (voter_is_node c v voter) tt)
  stale nodes m (tells_entry v i e voter there is) = subst FitsProposal (sym is) (is_stale (voter_is_node c v voter) (voter_is_node c me member) elsewhere)
    where
      below : (l : List Content) (k : ℕ) → slice_get l k ≡ Some e → k < length l
      below [] k in_it = cc
      below (x ∷ l) zero in_it = omega arith
      below (x ∷ l) (suc k) in_it = let less = below l k in_it in omega (arith, less)

      never : (t : Bool) → (t && false) ≡ false
      never true = refl
      never false = refl

      elsewhere : (same_group g g && i + 1 == place) ≡ false
      elsewhere = ap (λ t. same_group g g && t) (apart_below (i + 1) place (let less = below log i there in omega (arith, less))) ∙ never (same_group g g)
  stale nodes m (tells_none v i voter apart none is) = subst FitsProposal (sym is) (is_stale (voter_is_node c v voter) (voter_is_node c me member) tt)

  self : (me == me) ≡ true
  self = number_self me

  at_me : {X : Type 0} (f : ℕ → X) (x : X) → set_at f me x me ≡ x
  at_me f x = ap (λ t. cond t x (f me)) self

  elsewhere_at : {X : Type 0} (f : ℕ → X) (v : ℕ) (x : X) → (v == me) ≡ false → set_at f v x me ≡ f me
  elsewhere_at f v x apart = ap (λ t. cond t x (f me)) apart

  not_me : {X : Type 0} → (me == me) ≡ false → X
  not_me apart = absurd (let wrong = sym self ∙ apart in cc)

  -- ---- a step of a node keeps what is around

  module _ (now : Standing) (a : Around now) (v : ℕ) (there : is_node c v ≡ true) (own_item : Item) (gone : ℕ → Bool) (made : Step)
      (mail : Mailed now.tape (whole_step c now v (own_item ∷ []) made).tape gone made.sends) where
    abbrev pub next : Standing
    next = whole_step c now v (own_item ∷ []) made

    unfused_on : (u : ℕ) → is_node c u ≡ true → IsUnfused next u
    unfused_on u node = unfused_after c now v (own_item ∷ []) made u (a.unfused v there) (a.unfused u node)

    up_on : is_up (made.node).met ≡ true → (u : ℕ) → is_node c u ≡ true → is_up (next.node u).met ≡ true
    up_on still u node = by (v == u)
      where
        by : (t : Bool) → is_up (cond t made.node (now.node u)).met ≡ true
        by true = still
        by false = a.up u node

    idle_on : ((v == me) ≡ false → (made.node).open_operations ≡ []) → (u : ℕ) → is_node c u ≡ true → (u == me) ≡ false → (next.node u).open_operations ≡ []
    idle_on none_open u node apart = by (v == u) refl
      where
        by : (t : Bool) → (v == u) ≡ t → (cond t made.node (now.node u)).open_operations ≡ []
        by true is = none_open (ap (λ w. w == me) (number_is v u is) ∙ apart)
        by false is = a.idle u node apart

    around_on : On now.node next.node → is_up (made.node).met ≡ true → ((v == me) ≡ false → (made.node).open_operations ≡ []) → Each (Fit next.node) made.sends → Around next
    around_on on still none_open fits = record {
      up = up_on still;
      unfused = unfused_on;
      in_order = mail.numbered;
      idle = idle_on none_open;
      ground = grounds_on c me start nth g log fresh now.node next.node on a.ground;
      mail = λ k m w. elim (mail.comes k m w) [
        | inl early ↦ fits_on c me start nth g log fresh now.node next.node on m (a.mail k m early.1)
        | inr i ↦ each_of (Fit next.node) m made.sends fits i
      ];
    }

  -- ---- the node that reads

  module _ (now : Standing) (a : Around now) (own_item : Item) (gone : ℕ → Bool) (made : Step) (mail : Mailed now.tape (whole_step c now me (own_item ∷ []) made).tape gone made.sends)
      (base : List Met) (grew : Grows (now.node me).met base) (stage : Stage) (reply : List Message) where
    abbrev pub then : Standing
    then = whole_step c now me (own_item ∷ []) made

    here : is_node c me ≡ true
    here = voter_is_node c me member

    its_node : (then.node me).open_operations ≡ (made.node).open_operations
    its_node = ap (λ (n : Node). n.open_operations) (at_me now.node made.node)

    on_by : Leaves g place base (made.node).met → On now.node then.node
    on_by leaves = nodes_set c me start nth g log now.node me made.node (grown_leaves g log (now.node me).met base (made.node).met grew leaves) (λ apart. not_me apart)

    still_by : Leaves g place base (made.node).met → is_up (made.node).met ≡ true
    still_by leaves = (leaves.logs).up ∙ (grew.up ∙ a.up me here)

    undecided_then : Leaves g place base (made.node).met → (k : ℕ) → decided base g k ≡ None → decided (then.node me).met g k ≡ None
    undecided_then leaves k none = ap (λ (n : Node). decided n.met g k) (at_me now.node made.node) ∙ ((leaves.logs).decided g k ∙ none)

    -- the least position that is not decided
    sought_next : Leaves g place base (made.node).met → (through position : ℕ) → through ≡ length log → nat_le through (prefix_of base g) ≡ false → position ≡ prefix_of base g + 1 → IsSought c me start nth g log then.node position
    sought_next leaves through position at above is = record {
      index = prefix_of base g;
      place = is;
      below = subst (λ t. prefix_of base g < t) at (less_is through (prefix_of base g) above);
      undecided = undecided_then leaves position (ap (decided base g) is ∙ behind_prefix base g);
    }

    stayed_sought : Leaves g place base (made.node).met → (one : Stage) → Stayed s the_op g request entering began noted log own promised leader base one → IsReadyAt then.node then.tape one → IsSoughtAt then.node one
    stayed_sought leaves (Polling heard best at) k ready = tt
    stayed_sought leaves (Catching through None) k ready = absurd (let never = k.1 in cc)
    stayed_sought leaves (Catching through (Some (Fetching position denials at))) k ready = sought_next leaves through position ready.0 k.0 (number_is position (prefix_of base g + 1) k.1)
    stayed_sought leaves (Catching through (Some (Filling position proposal))) k ready = absurd ready

    end_of : (through : ℕ) (search : Option Search) → IsReadyAt then.node then.tape (Catching through search) → through ≡ length log
    end_of through search ready = through_is through search (placed c me start nth g log fresh then.node then.tape (Catching through search) ready)

    pub me_comes : (fits : Leaves g place base (made.node).met → Each (Fit then.node) reply) → (ready : Leaves g place base (made.node).met → IsReadyAt then.node then.tape stage) → BecomesAt base stage made reply → Comes then
    me_comes fits ready (turns at sends opens leaves) = inr (inl (record {
      up = up_on now a me here own_item gone made mail (still_by leaves);
      unfused = unfused_on now a me here own_item gone made mail;
      numbered_so = mail.numbered;
      idle = idle_on now a me here own_item gone made mail (λ apart. not_me apart);
      mail = λ k m w. elim (mail.comes k m w) [
        | inl early ↦ stale now.node m (a.mail k m early.1)
        | inr i ↦ elim (among_parts m reply (question s the_op g request entering began noted log own promised leader ∷ []) (subst (Among m) sends i)) [
          | inl told ↦ stale then.node m (each_of (Fit then.node) m reply (fits leaves) told)
          | inr one ↦ elim one [ inl same ↦ asks_vote leader leader_votes (sym same) | inr never ↦ absurd never ]
        ]
      ];
      clean = λ u voter. subst (Clean own) (sym ((grounds_on c me start nth g log fresh now.node then.node (on_by leaves) a.ground).unmade u voter)) tt;
      undecided = (grounds_on c me start nth g log fresh now.node then.node (on_by leaves) a.ground).undecided;
      at = leader_asked 0 leader at (its_node ∙ opens) leader_votes (inl (mail.sends (question s the_op g request entering began noted log own promised leader)
          (subst (Among (question s the_op g request entering began noted log own promised leader)) (sym sends) (among_right (question s the_op g request entering began noted log own promised leader) reply (question s the_op g request entering began noted log own promised leader ∷ []) (inl refl)))));
    }))
    me_comes fits ready (stays sends opens leaves stayed) = inl (record {
      around = around_on now a me here own_item gone made mail (on_by leaves) (still_by leaves) (λ apart. not_me apart) (subst (Each (Fit then.node)) (sym sends) (fits leaves));
      stage = stage;
      opens = its_node ∙ opens;
      ready = ready leaves;
      sought = stayed_sought leaves stage stayed (ready leaves);
    })
    me_comes fits ready (fetches through at search is above sends opens leaves) = inl (record {
      around = around_on now a me here own_item gone made mail (on_by leaves) (still_by leaves) (λ apart. not_me apart)
          (subst (Each (Fit then.node)) (sym sends) (each_both (Fit then.node) reply (fetch_all s the_op g request entering began noted log own promised leader position) (fits leaves)
          (each_map (Fit then.node) (λ v. fetch_at c me start nth g v position) (others me (voters c)) (λ v i. let r = other_voter c me v i in asks_entry v (prefix_of base g) r.0 r.1 (sought_at.below) refl))));
      stage = Catching through (Some (Fetching position [] at));
      opens = its_node ∙ opens;
      ready = (
        end_is,
        record {
          denied = λ v there. cc;
          awaited = λ none v e voter apart d. inl (mail.sends (fetch_at c me start nth g v position) (subst (Among (fetch_at c me start nth g v position)) (sym sends)
              (among_right (fetch_at c me start nth g v position) reply (fetch_all s the_op g request entering began noted log own promised leader position)
              (among_map (λ u. fetch_at c me start nth g u position) v (others me (voters c)) (among_others c me v voter apart)))));
        },
      );
      sought = sought_at;
    })
      where
        position : ℕ
        position = prefix_of base g + 1

        end_is : through ≡ length log
        end_is = end_of through search (subst (IsReadyAt then.node then.tape) is (ready leaves))

        sought_at : IsSought c me start nth g log then.node position
        sought_at = record {
          index = prefix_of base g;
          place = refl;
          below = subst (λ t. prefix_of base g < t) end_is (less_is through (prefix_of base g) above);
          undecided = undecided_then leaves position (behind_prefix base g);
        }

  -- ---- what a message leaves of what it waits for

  abbrev Keeps : List Item → Message → List Item → Type 0
  Keeps was m tape = (x : Message) → IsAwaited was x → (x ≡ m) ⊎ IsAwaited tape x

  module _ (was tape : List Item) (m : Message) (on : Keeps was m tape) where
    poll_on : (heard later : List ℕ) (best more : ℕ) → ((u : ℕ) → has u heard ≡ true → has u later ≡ true) → is_majority (length (voters c)) (length later) ≡ false → IsDistinct later
        → ((u : ℕ) → has u later ≡ true → is_voter c u ≡ true) → more ≤ length log → ((u : ℕ) → has u later ≡ true → fresh u ≡ true → length log ≤ more)
        → ((u : ℕ) → is_voter c u ≡ true → where_to c me start nth g u ≡ m → TopAwaited c me start nth g tape u) → ((u p : ℕ) → is_voter c u ≡ true → top_from c me start nth g u p ≡ m → has u later ≡ true)
        → Poll was heard best → Poll tape later more
    poll_on heard later best more grew minority distinct members low high on_where on_top ok = record {
      awaited = λ u voter. elim (ok.awaited u voter) [
        | inl before ↦ inl (grew u before)
        | inr waiting ↦ elim waiting [
          | inl asked ↦ elim (on (where_to c me start nth g u) asked) [ inl same ↦ inr (inr (on_where u voter same)) | inr still ↦ inr (inl still) ]
          | inr told ↦ elim (on (top_from c me start nth g u told.top) told.is) [ inl same ↦ inl (on_top u told.top voter same) | inr still ↦ inr (inr (record { top = told.top; is = still })) ]
        ]
      ];
      minority = minority;
      distinct = distinct;
      members = members;
      low = low;
      high = high;
    }

    poll_same : (heard : List ℕ) (best : ℕ) → ((u : ℕ) → is_voter c u ≡ true → where_to c me start nth g u ≡ m → TopAwaited c me start nth g tape u)
        → ((u p : ℕ) → is_voter c u ≡ true → top_from c me start nth g u p ≡ m → has u heard ≡ true) → Poll was heard best → Poll tape heard best
    poll_same heard best on_where on_top ok = poll_on heard heard best best (λ u there. there) ok.minority ok.distinct ok.members ok.low ok.high on_where on_top ok

    module _ (old new : ℕ → Node) (grown : On old new) where
      fetch_on : (position : ℕ) (denials later : List ℕ) → ((u : ℕ) → has u later ≡ true → (has u denials ≡ true) ⊎ (((u == me) ≡ false) × (decided (old u).met g position ≡ None)))
          → ((u : ℕ) (e : Content) → is_voter c u ≡ true → (u == me) ≡ false → decided (old u).met g position ≡ Some e → fetch_at c me start nth g u position ≡ m
          → IsAwaited tape (have_from c me start nth g u position e))
          → (decided (new me).met g position ≡ None → (u : ℕ) (e : Content) → have_from c me start nth g u position e ≡ m → ⊥)
          → decided (old me).met g position ≡ None → Fetched old was position denials → Fetched new tape position later
      fetch_on position denials later from on_fetch on_have undecided ok = record {
        denied = λ u there. elim (from u there) [
          | inl before ↦ (let r = ok.denied u before in (r.0, grown.same u position r.0 ∙ r.1))
          | inr more ↦ (more.0, grown.same u position more.0 ∙ more.1)
        ];
        awaited = λ none u e voter apart is. let before = sym (grown.same u position apart) ∙ is in elim (ok.awaited undecided u e voter apart before) [
          | inl asked ↦ elim (on (fetch_at c me start nth g u position) asked) [ inl same ↦ inr (on_fetch u e voter apart before same) | inr still ↦ inl still ]
          | inr told ↦ elim (on (have_from c me start nth g u position e) told) [ inl same ↦ absurd (on_have none u e same) | inr still ↦ inr still ]
        ];
      }

      -- where its stage stays
      record Hooks : Type 0 where
        on_where : (u : ℕ) → is_voter c u ≡ true → where_to c me start nth g u ≡ m → TopAwaited c me start nth g tape u
        on_top : (u p : ℕ) → top_from c me start nth g u p ≡ m → ⊥
        on_fetch : (u position : ℕ) (e : Content) → decided (old u).met g position ≡ Some e → fetch_at c me start nth g u position ≡ m → IsAwaited tape (have_from c me start nth g u position e)
        on_have : (u position : ℕ) (e : Content) → decided (new me).met g position ≡ None → have_from c me start nth g u position e ≡ m → ⊥

      ready_on : Hooks → (stage : Stage) → IsReadyAt old was stage → IsSoughtAt old stage → IsReadyAt new tape stage
      ready_on k (Polling heard best at) ready sought = poll_same heard best k.on_where (λ u p voter same. absurd (k.on_top u p same)) ready
      ready_on k (Catching through None) ready sought = absurd sought
      ready_on k (Catching through (Some (Fetching position denials at))) ready sought =
          (ready.0, fetch_on position denials denials (λ u there. inl there) (λ u e voter apart is same. k.on_fetch u position e is same) (λ none u e same. k.on_have u position e none same) sought.undecided ready.1)
      ready_on k (Catching through (Some (Filling position proposal))) ready sought = absurd ready

      hooks_where : (v : ℕ) → m ≡ where_to c me start nth g v → TopAwaited c me start nth g tape v → Hooks
      hooks_where v is told = record {
        on_where = λ u voter same. subst (TopAwaited c me start nth g tape) (sym (ap (λ (x : Message). x.to) (same ∙ is))) told;
        on_top = λ u p same. clash 2 1 (ap kind_of_message (same ∙ is)) refl;
        on_fetch = λ u position e d same. absurd (clash 3 1 (ap kind_of_message (same ∙ is)) refl);
        on_have = λ u position e none same. clash 4 1 (ap kind_of_message (same ∙ is)) refl;
      }

      hooks_fetch : (v n : ℕ) → m ≡ fetch_at c me start nth g v n → ((e : Content) → decided (old v).met g n ≡ Some e → IsAwaited tape (have_from c me start nth g v n e)) → Hooks
      hooks_fetch v n is told = record {
        on_where = λ u voter same. absurd (clash 1 3 (ap kind_of_message (same ∙ is)) refl);
        on_top = λ u p same. clash 2 3 (ap kind_of_message (same ∙ is)) refl;
        on_fetch = λ u position e d same.
            let who_is : u ≡ v = ap (λ (x : Message). x.to) (same ∙ is) in let place_is : position ≡ n = ap (λ (x : Message). place_in x.body) (same ∙ is) in
            coe 0 1 (i. IsAwaited tape (have_from c me start nth g (sym who_is i) (sym place_is i) e)) (told e (coe 0 1 (i. decided (old (who_is i)).met g (place_is i) ≡ Some e) d));
        on_have = λ u position e none same. clash 4 3 (ap kind_of_message (same ∙ is)) refl;
      }

      hooks_have : (v n : ℕ) (entry : Content) → m ≡ have_from c me start nth g v n entry → HasEntry (new me).met g n → Hooks
      hooks_have v n entry is has_it = record {
        on_where = λ u voter same. absurd (clash 1 4 (ap kind_of_message (same ∙ is)) refl);
        on_top = λ u p same. clash 2 4 (ap kind_of_message (same ∙ is)) refl;
        on_fetch = λ u position e d same. absurd (clash 3 4 (ap kind_of_message (same ∙ is)) refl);
        on_have = λ u position e none same. let place_is : position ≡ n = ap (λ (x : Message). place_in x.body) (same ∙ is) in let never = sym (subst (λ k. decided (new me).met g k ≡ None) place_is none) ∙ has_it.is in cc;
      }

      hooks_none : (v n : ℕ) → m ≡ have_not_from c me start nth g v n → Hooks
      hooks_none v n is = record {
        on_where = λ u voter same. absurd (clash 1 5 (ap kind_of_message (same ∙ is)) refl);
        on_top = λ u p same. clash 2 5 (ap kind_of_message (same ∙ is)) refl;
        on_fetch = λ u position e d same. absurd (clash 3 5 (ap kind_of_message (same ∙ is)) refl);
        on_have = λ u position e none same. clash 4 5 (ap kind_of_message (same ∙ is)) refl;
      }

  -- ---- what it hears

  abbrev same_heard : Stage → Heard
  same_heard stage = record { operation = its stage; sends = [] }

  -- what is nothing to it
  abbrev IsNothing : Body → Stage → Type 0
  IsNothing (Where o k) stage = Unit {0}
  IsNothing (Have o k n e) stage = Unit {0}
  IsNothing (Top o k n) (Catching through search) = Unit {0}
  IsNothing (HaveNot o k n) (Polling heard best at) = Unit {0}
  IsNothing _ _ = ⊥

  hears_nothing : (clock from to : ℕ) (body : Body) (stage : Stage) → IsNothing body stage → IsOpenStage stage → hears_message (setting c h me) clock (message from to body) (its stage) ≡ same_heard stage
  hears_nothing clock from to (Where o k) (Polling heard best at) none ok = refl
  hears_nothing clock from to (Where o k) (Catching through None) none ok = refl
  hears_nothing clock from to (Where o k) (Catching through (Some (Fetching position denials at))) none ok = refl
  hears_nothing clock from to (Where o k) (Catching through (Some (Filling position proposal))) none ok = absurd ok
  hears_nothing clock from to (Have o k n e) (Polling heard best at) none ok = refl
  hears_nothing clock from to (Have o k n e) (Catching through None) none ok = refl
  hears_nothing clock from to (Have o k n e) (Catching through (Some (Fetching position denials at))) none ok = refl
  hears_nothing clock from to (Have o k n e) (Catching through (Some (Filling position proposal))) none ok = absurd ok
  hears_nothing clock from to (Top o k n) (Catching through None) none ok = refl
  hears_nothing clock from to (Top o k n) (Catching through (Some (Fetching position denials at))) none ok = refl
  hears_nothing clock from to (Top o k n) (Catching through (Some (Filling position proposal))) none ok = absurd ok
  hears_nothing clock from to (HaveNot o k n) (Polling heard best at) none ok = refl
  hears_nothing clock from to _ _ none ok = absurd none

  own_read : (same_op the_op the_op && same_group g g) ≡ true
  own_read = ap (λ t. t && same_group g g) (same_op_self the_op) ∙ same_group_self g

  abbrev a_reading : Stage → Reading
  a_reading stage = record { noted = noted; asked = []; stage = stage }

  hears_top : (clock v p : ℕ) (heard : List ℕ) (best at : ℕ) (t u : Bool) → (has v heard || not (has v (voters c))) ≡ t → is_majority (length (voters c)) (length heard + 1) ≡ u
      → hears_message (setting c h me) clock (top_from c me start nth g v p) (its (Polling heard best at))
      ≡ read_heard (its (Polling heard best at)) g (cond {A = ReadMove} t (stays_so (a_reading (Polling heard best at)))
      (cond u (move (a_reading (Polling heard best at)) (Catching (max best p) None) []) (move (a_reading (Polling heard best at)) (Polling (heard ++ v ∷ []) (max best p) at) [])))
  hears_top clock v p heard best at t u is_t is_u =
      ap (λ b. read_heard (its (Polling heard best at)) g (cond {A = ReadMove} b (cond (has v heard || not (has v (voters c))) (stays_so r) (cond (is_majority (length (voters c)) (length heard + 1)) one_more next_one)) (stays_so r))) own_read
      ∙ (ap (λ b. read_heard (its (Polling heard best at)) g (cond {A = ReadMove} b (stays_so r) (cond (is_majority (length (voters c)) (length heard + 1)) one_more next_one))) is_t
      ∙ ap (λ b. read_heard (its (Polling heard best at)) g (cond {A = ReadMove} t (stays_so r) (cond b one_more next_one))) is_u)
    where
      r : Reading
      r = a_reading (Polling heard best at)

      one_more : ReadMove
      one_more = move r (Catching (max best p) None) []

      next_one : ReadMove
      next_one = move r (Polling (heard ++ v ∷ []) (max best p) at) []

  abbrev is_denial : ℕ → ℕ → ℕ → Bool
  is_denial v n position = same_op the_op the_op && same_group g g && n == position && has v (others me (voters c))

  hears_none : (clock v n : ℕ) (denials : List ℕ) (through position at : ℕ) (t u : Bool) → is_denial v n position ≡ t → list_all (λ voter. has voter (with_node v denials)) (others me (voters c)) ≡ u
      → hears_message (setting c h me) clock (have_not_from c me start nth g v n) (its (Catching through (Some (Fetching position denials at))))
      ≡ read_heard (its (Catching through (Some (Fetching position denials at)))) g (cond {A = ReadMove} t
      (cond u (fills (who s the_op g request entering began noted log own promised leader) (a_reading (Catching through (Some (Fetching position denials at)))) through position clock)
      (move (a_reading (Catching through (Some (Fetching position denials at)))) (Catching through (Some (Fetching position (with_node v denials) at))) []))
      (stays_so (a_reading (Catching through (Some (Fetching position denials at))))))
  hears_none clock v n denials through position at t u is_t is_u =
      ap (λ b. read_heard (its stage) g (cond {A = ReadMove} b (cond (list_all (λ voter. has voter (with_node v denials)) (others me (voters c))) filled more) (stays_so r))) is_t
      ∙ ap (λ b. read_heard (its stage) g (cond {A = ReadMove} t (cond b filled more) (stays_so r))) is_u
    where
      stage : Stage
      stage = Catching through (Some (Fetching position denials at))

      r : Reading
      r = a_reading stage

      filled : ReadMove
      filled = fills (who s the_op g request entering began noted log own promised leader) r through position clock

      more : ReadMove
      more = move r (Catching through (Some (Fetching position (with_node v denials) at))) []

  -- ---- a delivery

  abbrev after : Standing → ℕ → ℕ → Step → Standing
  after now v j made = whole_step c now v (Taken j ∷ []) made

  abbrev takes : Standing → ℕ → Message → Step
  takes now v m = take_step (setting c h v) (now.node v) m

  module _ (now : Standing) (a : Around now) (j : ℕ) (m : Message) (w : Waits now.tape j m) (v : ℕ) (made : Step) where
    mailed : Mailed now.tape (after now v j made).tape (λ k. j == k) made.sends
    mailed = mailed_step c (set_at now.node v made.node) v now.tape (Taken j) (λ k. j == k) made.notes made.sends refl refl (mailed_taken now.tape j m w a.in_order)

    keeps : Keeps now.tape m (after now v j made).tape
    keeps x one = by (j == one.number) refl
      where
        by : (t : Bool) → (j == one.number) ≡ t → (x ≡ m) ⊎ IsAwaited (after now v j made).tape x
        by true e = inl (same_Some x m (sym (one.waits).sent ∙ (ap (message_of now.tape) (sym (number_is j one.number e)) ∙ w.sent)))
        by false e = inr (record { number = one.number; waits = mailed.keeps one.number x e one.waits })

    -- another node replies
    other_comes : (k : Seeks now) → is_node c v ≡ true → (v == me) ≡ false → (reply : List Message) → IsIdle g place (Takes m ∷ (now.node v).met) made reply
        → ((new : ℕ → Node) → On now.node new → Each (Fit new) reply)
        → ((new : ℕ → Node) (tape : List Item) → On now.node new → Keeps now.tape m tape → ((x : Message) → Among x reply → IsAwaited tape x) → IsReadyAt new tape k.stage) → Comes (after now v j made)
    other_comes k there apart reply idle fits ready = inl (record {
      around = around_on now a v there (Taken j) (λ i. j == i) made mailed on (((idle.leaves).logs).up ∙ a.up v there) (λ e. idle.none_open) (subst (Each (Fit nodes')) (sym idle.sends_so) (fits nodes' on));
      stage = k.stage;
      opens = ap (λ (n : Node). n.open_operations) (elsewhere_at now.node v made.node apart) ∙ k.opens;
      ready = ready nodes' (after now v j made).tape on keeps (λ x i. mailed.sends x (subst (Among x) (sym idle.sends_so) i));
      sought = sought_on k.stage k.sought;
    })
      where
        nodes' : ℕ → Node
        nodes' = set_at now.node v made.node

        on : On now.node nodes'
        on = nodes_set c me start nth g log now.node v made.node (grown_leaves g log (now.node v).met (Takes m ∷ (now.node v).met) (made.node).met (grown_takes g log (now.node v).met m) idle.leaves)
            (λ e i. ((idle.leaves).logs).decided g i)

        sought_on : (stage : Stage) → IsSoughtAt now.node stage → IsSoughtAt nodes' stage
        sought_on (Polling heard best at) sought = tt
        sought_on (Catching through None) sought = absurd sought
        sought_on (Catching through (Some (Fetching position denials at))) sought = record {
          index = sought.index;
          place = sought.place;
          below = sought.below;
          undecided = ap (λ (n : Node). decided n.met g position) (elsewhere_at now.node v made.node apart) ∙ sought.undecided;
        }
        sought_on (Catching through (Some (Filling position proposal))) sought = absurd sought

  -- the node that reads takes a message that tells of no decision
  me_asking : (now : Standing) (k : Seeks now) (j from : ℕ) (body : Body) → IsAsking body → Waits now.tape j (message from me body) → (reply : List Message) → reply_to c me (now.node me).met (message from me body) ≡ reply
      → AreQuiet reply → ((new : ℕ → Node) → On now.node new → Each (Fit new) reply) → (stage : Stage)
      → hears_message (setting c h me) (clock_of (now.node me).met) (message from me body) (its k.stage) ≡ same_heard stage → IsPlaced stage
      → ((new : ℕ → Node) (tape : List Item) → On now.node new → Keeps now.tape (message from me body) tape → ((x : Message) → Among x reply → IsAwaited tape x) → IsReadyAt new tape stage)
      → Comes (after now me j (takes now me (message from me body)))
  me_asking now k j from body asking w reply reply_is quiet fits stage hears at ready =
      me_comes now k.around (Taken j) (λ i. j == i) made (mailed now k.around j m w me made) base (grown_takes g log (now.node me).met m) stage reply
      (λ leaves. fits nodes' (on leaves))
      (λ leaves. ready nodes' (after now me j made).tape (on leaves) (keeps now k.around j m w me made) (λ x i. (mailed now k.around j m w me made).sends x (came_sends x i)))
      came
    where
      m : Message
      m = message from me body

      made : Step
      made = takes now me m

      base : List Met
      base = Takes m ∷ (now.node me).met

      nodes' : ℕ → Node
      nodes' = set_at now.node me made.node

      on : Leaves g place base (made.node).met → On now.node nodes'
      on leaves = nodes_set c me start nth g log now.node me made.node (grown_leaves g log (now.node me).met base (made.node).met (grown_takes g log (now.node me).met m) leaves) (λ apart. not_me apart)

      came : BecomesAt base stage made reply
      came = seeks_asking s the_op g request entering began noted log own promised leader (now.node me) from me body asking reply reply_is quiet k.stage stage k.opens hears (open_stage stage at)
          (helped now.node (k.around).ground base (grown_takes g log (now.node me).met m) stage at)

      sends_by : BecomesAt base stage made reply → (x : Message) → Among x reply → Among x made.sends
      sends_by (turns sent_at sends opens leaves) x i = subst (Among x) (sym sends) (among_left x reply (question s the_op g request entering began noted log own promised leader ∷ []) i)
      sends_by (stays sends opens leaves stayed) x i = subst (Among x) (sym sends) i
      sends_by (fetches through sent_at search is above sends opens leaves) x i =
          subst (Among x) (sym sends) (among_left x reply (fetch_all s the_op g request entering began noted log own promised leader (prefix_of base g + 1)) i)

      came_sends : (x : Message) → Among x reply → Among x made.sends
      came_sends x i = sends_by came x i

  -- ---- a question for the greatest position

  abbrev where_body : Body
  where_body = Where the_op g

  abbrev top_reply : Standing → ℕ → List Message
  top_reply now v = top_from c me start nth g v (top_of (now.node v).met g) ∷ []

  replies_top : (now : Standing) (v : ℕ) → is_voter c v ≡ true → reply_to c v (now.node v).met (where_to c me start nth g v) ≡ top_reply now v
  replies_top now v voter = ap (λ t. reply_message v me (where_served t (Top the_op g (record { 0 = top_of (now.node v).met g })))) voter

  take_where : (now : Standing) (k : Seeks now) (j v : ℕ) → is_voter c v ≡ true → Waits now.tape j (where_to c me start nth g v) → Comes (after now v j (takes now v (where_to c me start nth g v)))
  take_where now k j v voter w = by (v == me) refl
    where
      fits : (u : ℕ) → is_voter c u ≡ true → (new : ℕ → Node) → On now.node new → Each (Fit new) (top_reply now u)
      fits u member_u new on = (tells_top u (top_of (now.node u).met g) member_u (((k.around).ground).within u member_u) (λ is_fresh. ((k.around).ground).floor u member_u is_fresh) refl, tt)

      ready : (u : ℕ) (new : ℕ → Node) (tape : List Item) → On now.node new → Keeps now.tape (where_to c me start nth g u) tape → ((x : Message) → Among x (top_reply now u) → IsAwaited tape x) → IsReadyAt new tape k.stage
      ready u new tape on keeping told = ready_on now.tape tape (where_to c me start nth g u) keeping now.node new on
          (hooks_where now.tape tape (where_to c me start nth g u) keeping now.node new on u refl (record { top = top_of (now.node u).met g; is = told (top_from c me start nth g u (top_of (now.node u).met g)) (inl refl) })) k.stage k.ready k.sought

      Leads : ℕ → Type 0
      Leads u = Comes (after now u j (takes now u (where_to c me start nth g u)))

      at : IsPlaced k.stage
      at = placed c me start nth g log fresh now.node now.tape k.stage k.ready

      by : (t : Bool) → (v == me) ≡ t → Leads v
      by false e = other_comes now k.around j (where_to c me start nth g v) w v (takes now v (where_to c me start nth g v)) k (voter_is_node c v voter) e (top_reply now v)
          (idle_asking (setting c h v) (now.node v) ((k.around).idle v (voter_is_node c v voter) e) g place me v where_body tt (top_reply now v) (replies_top now v voter) (tt, tt)) (fits v voter) (ready v)
      by true e = subst Leads (sym (number_is v me e)) (me_asking now k j me where_body tt (subst (λ u. Waits now.tape j (where_to c me start nth g u)) (number_is v me e) w) (top_reply now me) (replies_top now me member) (tt, tt)
          (fits me member) k.stage (hears_nothing (clock_of (now.node me).met) me me where_body k.stage tt (open_stage k.stage at)) at (ready me))

  -- ---- the greatest position of a voter

  heard_if : (v : ℕ) (heard : List ℕ) → is_voter c v ≡ true → (t : Bool) → has v heard ≡ t → (has v heard || not (has v (voters c))) ≡ t
  heard_if v heard voter t is = ap (λ b. b || not (has v (voters c))) is ∙ (ap (λ b. t || not b) (has_voter c v voter) ∙ by t)
    where
      by : (b : Bool) → (b || false) ≡ b
      by true = refl
      by false = refl

  take_top : (now : Standing) (k : Seeks now) (j v p : ℕ) → is_voter c v ≡ true → p ≤ length log → (fresh v ≡ true → length log ≤ p) → Waits now.tape j (top_from c me start nth g v p)
      → Comes (after now me j (takes now me (top_from c me start nth g v p)))
  take_top now k j v p voter low high w = by k.stage refl
    where
      body : Body
      body = Top the_op g (record { 0 = p })

      m : Message
      m = top_from c me start nth g v p

      none_fit : (new : ℕ → Node) → On now.node new → Each (Fit new) []
      none_fit new on = tt

      its_ready : (stage : Stage) → k.stage ≡ stage → IsReadyAt now.node now.tape stage
      its_ready stage is = subst (IsReadyAt now.node now.tape) is k.ready

      its_sought : (stage : Stage) → k.stage ≡ stage → IsSoughtAt now.node stage
      its_sought stage is = subst (IsSoughtAt now.node) is k.sought

      hears_as : (stage : Stage) → k.stage ≡ stage → (x : Heard) → hears_message (setting c h me) (clock_of (now.node me).met) m (its stage) ≡ x → hears_message (setting c h me) (clock_of (now.node me).met) m (its k.stage) ≡ x
      hears_as stage is x so = subst (λ one. hears_message (setting c h me) (clock_of (now.node me).met) m (its one) ≡ x) (sym is) so

      on_where : (tape : List Item) (u : ℕ) → is_voter c u ≡ true → where_to c me start nth g u ≡ m → TopAwaited c me start nth g tape u
      on_where tape u uv same = absurd (clash 1 2 (ap kind_of_message same) refl)

      from_v : (u q : ℕ) → top_from c me start nth g u q ≡ m → v ≡ u
      from_v u q same = sym (ap (λ (x : Message). x.from) same)

      -- each that was heard, and this one
      among_both : (heard : List ℕ) (u : ℕ) → has u (heard ++ v ∷ []) ≡ true → (has u heard ≡ true) ⊎ (v ≡ u)
      among_both heard u there = has_push v u heard there

      polls : (heard : List ℕ) (best at : ℕ) → k.stage ≡ Polling heard best at → Poll now.tape heard best → (t u : Bool) → has v heard ≡ t → is_majority (length (voters c)) (length heard + 1) ≡ u
          → Comes (after now me j (takes now me m))
      polls heard best at is ok true u is_heard is_most =
          me_asking now k j v body tt w [] refl tt none_fit (Polling heard best at)
          (hears_as (Polling heard best at) is (same_heard (Polling heard best at)) (hears_top (clock_of (now.node me).met) v p heard best at true u (heard_if v heard voter true is_heard) is_most)) tt
          (λ new tape on keeping told. poll_same now.tape tape m keeping heard best (on_where tape) (λ x q xv same. subst (λ y. has y heard ≡ true) (from_v x q same) is_heard) ok)
      polls heard best at is ok false true is_heard is_most =
          me_asking now k j v body tt w [] refl tt none_fit (Catching (max best p) None)
          (hears_as (Polling heard best at) is (same_heard (Catching (max best p) None)) (hears_top (clock_of (now.node me).met) v p heard best at false true (heard_if v heard voter false is_heard) is_most)) end_is
          (λ new tape on keeping told. end_is)
        where
          later : List ℕ
          later = heard ++ v ∷ []

          in_voters : (x : ℕ) → Among x later → Among x (voters c)
          in_voters x i = among_voters c x (elim (among_both heard x (among_has x later i)) [ inl before ↦ ok.members x before | inr same ↦ subst (λ y. is_voter c y ≡ true) same voter ])

          meets : (x : ℕ) × Among x later × (fresh x ≡ true)
          meets = majorities_meet (voters c) later fresh (distinct_last v heard ok.distinct is_heard) in_voters (ap (is_majority (length (voters c))) (last_length v heard) ∙ is_most) known

          end_is : max best p ≡ length log
          end_is = both_ways (max best p) (length log) (max_low best p (length log) ok.low low) (elim (among_both heard meets.0 (among_has meets.0 later meets.1)) [
            | inl before ↦ max_left best p (length log) (ok.high meets.0 before meets.2)
            | inr same ↦ max_right best p (length log) (high (subst (λ y. fresh y ≡ true) (sym same) meets.2))
          ])
      polls heard best at is ok false false is_heard is_most =
          me_asking now k j v body tt w [] refl tt none_fit (Polling (heard ++ v ∷ []) (max best p) at)
          (hears_as (Polling heard best at) is (same_heard (Polling (heard ++ v ∷ []) (max best p) at)) (hears_top (clock_of (now.node me).met) v p heard best at false false (heard_if v heard voter false is_heard) is_most)) tt
          (λ new tape on keeping told. poll_on now.tape tape m keeping heard (heard ++ v ∷ []) best (max best p) (λ u there. push_has v u heard there) (ap (is_majority (length (voters c))) (last_length v heard) ∙ is_most)
          (distinct_last v heard ok.distinct is_heard) (λ u there. elim (among_both heard u there) [ inl before ↦ ok.members u before | inr same ↦ subst (λ y. is_voter c y ≡ true) same voter ])
          (max_low best p (length log) ok.low low)
          (λ u there is_fresh. elim (among_both heard u there) [
            | inl before ↦ max_left best p (length log) (ok.high u before is_fresh)
            | inr same ↦ max_right best p (length log) (high (subst (λ y. fresh y ≡ true) (sym same) is_fresh))
          ])
          (on_where tape) (λ x q xv same. subst (λ y. has y (heard ++ v ∷ []) ≡ true) (from_v x q same) (push_last v heard)) ok)

      by : (stage : Stage) → k.stage ≡ stage → Comes (after now me j (takes now me m))
      by (Polling heard best at) is = polls heard best at is (its_ready (Polling heard best at) is) (has v heard) (is_majority (length (voters c)) (length heard + 1)) refl refl
      by (Catching through None) is = absurd (its_sought (Catching through None) is)
      by (Catching through (Some (Filling position proposal))) is = absurd (its_ready (Catching through (Some (Filling position proposal))) is)
      by (Catching through (Some (Fetching position denials at))) is =
          me_asking now k j v body tt w [] refl tt none_fit stage (hears_as stage is (same_heard stage) (hears_nothing (clock_of (now.node me).met) v me body stage tt tt)) (ready_so.0)
          (λ new tape on keeping told. (
            ready_so.0,
            fetch_on now.tape tape m keeping now.node new on position denials denials (λ u there. inl there)
                (λ u e uv apart d same. absurd (clash 3 2 (ap kind_of_message same) refl)) (λ none u e same. clash 4 2 (ap kind_of_message same) refl) ((its_sought stage is).undecided) ready_so.1,
          ))
        where
          stage : Stage
          stage = Catching through (Some (Fetching position denials at))

          ready_so : (through ≡ length log) × Fetched now.node now.tape position denials
          ready_so = its_ready stage is

  -- ---- a question for an entry

  abbrev fetch_reply : ℕ → ℕ → Option Content → List Message
  fetch_reply v i None = have_not_from c me start nth g v (i + 1) ∷ []
  fetch_reply v i (Some e) = have_from c me start nth g v (i + 1) e ∷ []

  take_fetch : (now : Standing) (k : Seeks now) (j v i : ℕ) → is_voter c v ≡ true → (v == me) ≡ false → i < length log → Waits now.tape j (fetch_at c me start nth g v (i + 1))
      → Comes (after now v j (takes now v (fetch_at c me start nth g v (i + 1))))
  take_fetch now k j v i voter apart below w = by (decided (now.node v).met g (i + 1)) refl
    where
      m : Message
      m = fetch_at c me start nth g v (i + 1)

      made : Step
      made = takes now v m

      body : Body
      body = Fetch the_op g (record { 0 = i + 1 })

      replies : (found : Option Content) → decided (now.node v).met g (i + 1) ≡ found → reply_to c v (now.node v).met m ≡ reply_message v me (Some (fetched the_op g (record { 0 = i + 1 }) found))
      replies found is = ap (λ t. reply_message v me (where_served t (fetched the_op g (record { 0 = i + 1 }) (decided (now.node v).met g (i + 1))))) voter ∙ ap (λ e. reply_message v me (Some (fetched the_op g (record { 0 = i + 1 }) e))) is

      by : (found : Option Content) → decided (now.node v).met g (i + 1) ≡ found → Comes (after now v j made)
      by None is = other_comes now k.around j m w v made k (voter_is_node c v voter) apart (fetch_reply v i None)
          (idle_asking (setting c h v) (now.node v) ((k.around).idle v (voter_is_node c v voter) apart) g place me v body tt (fetch_reply v i None) (replies None is) (tt, tt))
          (λ new on. (tells_none v i voter apart (on.same v (i + 1) apart ∙ is) refl, tt))
          (λ new tape on keeping told. ready_on now.tape tape m keeping now.node new on (hooks_fetch now.tape tape m keeping now.node new on v (i + 1) refl (λ e d. absurd (let never = sym is ∙ d in cc))) k.stage k.ready k.sought)
      by (Some entry) is = other_comes now k.around j m w v made k (voter_is_node c v voter) apart (fetch_reply v i (Some entry))
          (idle_asking (setting c h v) (now.node v) ((k.around).idle v (voter_is_node c v voter) apart) g place me v body tt (fetch_reply v i (Some entry)) (replies (Some entry) is) (tt, tt))
          (λ new on. (tells_entry v i entry voter (((k.around).ground).agreed v voter i entry is) refl, tt))
          (λ new tape on keeping told. ready_on now.tape tape m keeping now.node new on (hooks_fetch now.tape tape m keeping now.node new on v (i + 1) refl
          (λ e d. subst (λ x. IsAwaited tape (have_from c me start nth g v (i + 1) x)) (same_Some entry e (sym is ∙ d)) (told (have_from c me start nth g v (i + 1) entry) (inl refl)))) k.stage k.ready k.sought)

  -- ---- an entry that is told

  take_have : (now : Standing) (k : Seeks now) (j v i : ℕ) (e : Content) → slice_get log i ≡ Some e → Waits now.tape j (have_from c me start nth g v (i + 1) e)
      → Comes (after now me j (takes now me (have_from c me start nth g v (i + 1) e)))
  take_have now k j v i e in_log w =
      me_comes now k.around (Taken j) (λ x. j == x) made (mailed now k.around j m w me made) base grew k.stage []
      (λ leaves. tt)
      (λ leaves. ready_on now.tape (after now me j made).tape m (keeps now k.around j m w me made) now.node nodes' (on leaves)
      (hooks_have now.tape (after now me j made).tape m (keeps now k.around j m w me made) now.node nodes' (on leaves) v (i + 1) e refl
      (record { entry = told.entry; is = ap (λ (x : Node). decided x.met g (i + 1)) (at_me now.node made.node) ∙ ((leaves.logs).decided g (i + 1) ∙ told.is) })) k.stage k.ready k.sought)
      (seeks_have s the_op g request entering began noted log own promised leader (now.node me) v me the_op (i + 1) e k.stage k.opens
      (hears_nothing (clock_of (now.node me).met) v me (Have the_op g (record { 0 = i + 1 }) e) k.stage tt (open_stage k.stage at)) (helped now.node (k.around).ground base grew k.stage at))
    where
      m : Message
      m = have_from c me start nth g v (i + 1) e

      made : Step
      made = takes now me m

      base : List Met
      base = onto (decision_note (if_new (now.node me).met (Some (record { group = g; position = i + 1; entry = e })))) (Takes m ∷ (now.node me).met)

      nodes' : ℕ → Node
      nodes' = set_at now.node me made.node

      grew : Grows (now.node me).met base
      grew = grown_decision g log (now.node me).met m i e in_log

      on : Leaves g place base (made.node).met → On now.node nodes'
      on leaves = nodes_set c me start nth g log now.node me made.node (grown_leaves g log (now.node me).met base (made.node).met grew leaves) (λ apart. not_me apart)

      told : HasEntry base g (i + 1)
      told = decision_has (now.node me).met (Takes m ∷ (now.node me).met) g (i + 1) e (still_one (Takes m) (now.node me).met tt)

      at : IsPlaced k.stage
      at = placed c me start nth g log fresh now.node now.tape k.stage k.ready

  -- ---- a denial

  take_none : (now : Standing) (k : Seeks now) (j v i : ℕ) → is_voter c v ≡ true → (v == me) ≡ false → decided (now.node v).met g (i + 1) ≡ None → Waits now.tape j (have_not_from c me start nth g v (i + 1))
      → Comes (after now me j (takes now me (have_not_from c me start nth g v (i + 1))))
  take_none now k j v i voter apart none w = by k.stage refl
    where
      n : ℕ
      n = i + 1

      m : Message
      m = have_not_from c me start nth g v n

      body : Body
      body = HaveNot the_op g (record { 0 = n })

      none_fit : (new : ℕ → Node) → On now.node new → Each (Fit new) []
      none_fit new on = tt

      its_ready : (stage : Stage) → k.stage ≡ stage → IsReadyAt now.node now.tape stage
      its_ready stage is = subst (IsReadyAt now.node now.tape) is k.ready

      its_sought : (stage : Stage) → k.stage ≡ stage → IsSoughtAt now.node stage
      its_sought stage is = subst (IsSoughtAt now.node) is k.sought

      hears_as : (stage : Stage) → k.stage ≡ stage → (x : Heard) → hears_message (setting c h me) (clock_of (now.node me).met) m (its stage) ≡ x → hears_message (setting c h me) (clock_of (now.node me).met) m (its k.stage) ≡ x
      hears_as stage is x so = subst (λ one. hears_message (setting c h me) (clock_of (now.node me).met) m (its one) ≡ x) (sym is) so

      fetches_on : (through position : ℕ) (denials : List ℕ) (at : ℕ) → k.stage ≡ Catching through (Some (Fetching position denials at)) → (through ≡ length log) × Fetched now.node now.tape position denials
          → IsSought c me start nth g log now.node position → (t u : Bool) → is_denial v n position ≡ t → list_all (λ voter. has voter (with_node v denials)) (others me (voters c)) ≡ u → Comes (after now me j (takes now me m))
      fetches_on through position denials at is ready sought false u is_t is_u =
          me_asking now k j v body tt w [] refl tt none_fit stage (hears_as stage is (same_heard stage) (hears_none (clock_of (now.node me).met) v n denials through position at false u is_t is_u)) (ready.0)
          (λ new tape on keeping told. ready_on now.tape tape m keeping now.node new on (hooks_none now.tape tape m keeping now.node new on v n refl) stage ready sought)
        where
          stage : Stage
          stage = Catching through (Some (Fetching position denials at))
      fetches_on through position denials at is ready sought true false is_t is_u =
          me_asking now k j v body tt w [] refl tt none_fit (Catching through (Some (Fetching position (with_node v denials) at)))
          (hears_as (Catching through (Some (Fetching position denials at))) is (same_heard (Catching through (Some (Fetching position (with_node v denials) at)))) (hears_none (clock_of (now.node me).met) v n denials through position at true false is_t is_u)) (ready.0)
          (λ new tape on keeping told. (
            ready.0,
            fetch_on now.tape tape m keeping now.node new on position denials (with_node v denials)
                (λ u there. elim (with_has v u denials there) [
                  | inl before ↦ inl before
                  | inr same ↦ inr (subst (λ x. ((x == me) ≡ false) × (decided (now.node x).met g position ≡ None)) same (apart, subst (λ q. decided (now.node v).met g q ≡ None) place_is none))
                ])
                (λ u e uv other d same. absurd (clash 3 5 (ap kind_of_message same) refl)) (λ no u e same. clash 4 5 (ap kind_of_message same) refl) sought.undecided ready.1,
          ))
        where
          place_is : n ≡ position
          place_is = number_is n position ((and_parts (same_op the_op the_op && same_group g g) (n == position) ((and_parts (same_op the_op the_op && same_group g g && n == position) (has v (others me (voters c))) is_t).0)).1)
      fetches_on through position denials at is ready sought true true is_t is_u = absurd (never (held.voter == me) refl)
        where
          place_is : n ≡ position
          place_is = number_is n position ((and_parts (same_op the_op the_op && same_group g g) (n == position) ((and_parts (same_op the_op the_op && same_group g g && n == position) (has v (others me (voters c))) is_t).0)).1)

          held : Held c me start nth g now.node position
          held = subst (Held c me start nth g now.node) (sym sought.place) (((k.around).ground).held sought.index sought.below)

          denies : (u : ℕ) → has u (with_node v denials) ≡ true → decided (now.node u).met g position ≡ None
          denies u there = elim (with_has v u denials there) [
            | inl before ↦ ((ready.1).denied u before).1
            | inr same ↦ subst (λ x. decided (now.node x).met g position ≡ None) same (subst (λ q. decided (now.node v).met g q ≡ None) place_is none)
          ]

          never : (t : Bool) → (held.voter == me) ≡ t → ⊥
          never true e = let mine = subst (λ x. decided (now.node x).met g position ≡ Some held.entry) (number_is held.voter me e) held.is in let no_more = sym mine ∙ sought.undecided in cc
          never false e =
              let said = all_among (λ voter. has voter (with_node v denials)) held.voter (others me (voters c)) is_u (among_others c me held.voter held.member e) in
              let no_more = sym held.is ∙ denies held.voter said in cc

      by : (stage : Stage) → k.stage ≡ stage → Comes (after now me j (takes now me m))
      by (Polling heard best at) is =
          me_asking now k j v body tt w [] refl tt none_fit (Polling heard best at) (hears_as (Polling heard best at) is (same_heard (Polling heard best at)) (hears_nothing (clock_of (now.node me).met) v me body (Polling heard best at) tt tt)) tt
          (λ new tape on keeping told. ready_on now.tape tape m keeping now.node new on (hooks_none now.tape tape m keeping now.node new on v n refl) (Polling heard best at) (its_ready (Polling heard best at) is) tt)
      by (Catching through None) is = absurd (its_sought (Catching through None) is)
      by (Catching through (Some (Filling position proposal))) is = absurd (its_ready (Catching through (Some (Filling position proposal))) is)
      by (Catching through (Some (Fetching position denials at))) is = fetches_on through position denials at is (its_ready (Catching through (Some (Fetching position denials at))) is) (its_sought (Catching through (Some (Fetching position denials at))) is)
          (is_denial v n position) (list_all (λ voter. has voter (with_node v denials)) (others me (voters c))) refl refl

  -- ---- each delivery

  pub takes_on : (now : Standing) (k : Seeks now) (j : ℕ) (m : Message) → Waits now.tape j m → Comes (whole_step c now m.to (Taken j ∷ []) (step (setting c h m.to) (now.node m.to) (Take m)))
  takes_on now k j m w = by ((k.around).mail j m w)
    where
      Leads : Message → Type 0
      Leads x = Comes (after now x.to j (takes now x.to x))

      by : Fit now.node m → Leads m
      by (asks_where v voter is) = subst Leads (sym is) (take_where now k j v voter (subst (Waits now.tape j) is w))
      by (tells_top v p voter low high is) = subst Leads (sym is) (take_top now k j v p voter low high (subst (Waits now.tape j) is w))
      by (asks_entry v i voter apart below is) = subst Leads (sym is) (take_fetch now k j v i voter apart below (subst (Waits now.tape j) is w))
      by (tells_entry v i e voter there is) = subst Leads (sym is) (take_have now k j v i e there (subst (Waits now.tape j) is w))
      by (tells_none v i voter apart none is) = subst Leads (sym is) (take_none now k j v i voter apart none (subst (Waits now.tape j) is w))

  pub receives : (now : Standing) → Around now → (j : ℕ) (m : Message) → Waits now.tape j m → is_node c m.to ≡ true
  receives now a j m w = by (a.mail j m w)
    where
      Is : Message → Type 0
      Is x = is_node c x.to ≡ true

      by : Fit now.node m → Is m
      by (asks_where v voter is) = subst Is (sym is) (voter_is_node c v voter)
      by (tells_top v p voter low high is) = subst Is (sym is) (voter_is_node c me member)
      by (asks_entry v i voter apart below is) = subst Is (sym is) (voter_is_node c v voter)
      by (tells_entry v i e voter there is) = subst Is (sym is) (voter_is_node c me member)
      by (tells_none v i voter apart none is) = subst Is (sym is) (voter_is_node c me member)

  -- an operation that reads awaits a message
  pub awaits : (now : Standing) → Seeks now → (m : Message) × IsAwaited now.tape m
  awaits now k = by k.stage k.ready k.sought
    where
      each : (x : ℕ) (vs heard : List ℕ) → has x heard ≡ true → ((v : ℕ) → Among v vs → has v heard ≡ true) → (v : ℕ) → Among v (x ∷ vs) → has v heard ≡ true
      each x vs heard there rest v (inl same) = subst (λ u. has u heard ≡ true) same there
      each x vs heard there rest v (inr i) = rest v i

      all_or : (vs heard : List ℕ) → ((v : ℕ) → Among v vs → (has v heard ≡ true) ⊎ ((m : Message) × IsAwaited now.tape m)) → ((v : ℕ) → Among v vs → has v heard ≡ true) ⊎ ((m : Message) × IsAwaited now.tape m)
      all_or [] heard f = inl (λ v i. absurd i)
      all_or (x ∷ vs) heard f = elim (f x (inl refl)) [
        | inr waiting ↦ inr waiting
        | inl there ↦ elim (all_or vs heard (λ v i. f v (inr i))) [ inr waiting ↦ inr waiting | inl rest ↦ inl (each x vs heard there rest) ]
      ]

      some_one : (heard : List ℕ) (best : ℕ) → Poll now.tape heard best → (v : ℕ) → is_voter c v ≡ true → (has v heard ≡ true) ⊎ ((m : Message) × IsAwaited now.tape m)
      some_one heard best ok v voter = elim (ok.awaited v voter) [
        | inl there ↦ inl there
        | inr waiting ↦ elim waiting [ inl asked ↦ inr (where_to c me start nth g v, asked) | inr told ↦ inr (top_from c me start nth g v told.top, told.is) ]
      ]

      by : (stage : Stage) → IsReadyAt now.node now.tape stage → IsSoughtAt now.node stage → (m : Message) × IsAwaited now.tape m
      by (Polling heard best at) ready sought = elim (all_or (voters c) heard (λ v i. some_one heard best ready v (voter_of c v i))) [
        | inl every ↦ absurd (let many = all_heard c heard me member (λ v voter. every v (among_voters c v voter)) in let never = sym many ∙ ready.minority in cc)
        | inr waiting ↦ waiting
      ]
      by (Catching through None) ready sought = absurd sought
      by (Catching through (Some (Filling position proposal))) ready sought = absurd ready
      by (Catching through (Some (Fetching position denials at))) ready sought = at_voter (held.voter == me) refl
        where
          held : Held c me start nth g now.node position
          held = subst (Held c me start nth g now.node) (sym sought.place) (((k.around).ground).held sought.index sought.below)

          at_voter : (t : Bool) → (held.voter == me) ≡ t → (m : Message) × IsAwaited now.tape m
          at_voter true e = absurd (let mine = subst (λ x. decided (now.node x).met g position ≡ Some held.entry) (number_is held.voter me e) held.is in let no_more = sym mine ∙ sought.undecided in cc)
          at_voter false e = elim ((ready.1).awaited sought.undecided held.voter held.entry held.member e held.is) [
            | inl asked ↦ (fetch_at c me start nth g held.voter position, asked)
            | inr told ↦ (have_from c me start nth g held.voter position held.entry, told)
          ]
